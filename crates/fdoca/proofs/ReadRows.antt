-- A read of one item refuses for the first reason in order, and accepts where there is none: first the reasons of the state, then 18, which goes by the
-- item's field, then a number that goes by the bytes of a value, which a null has not.
-- Assumes nothing.
use Rattle.std.specs.Prelude.{if◌then◌else◌}
use mathlib.Core.Path.{◌≡◌, refl, sym, ap, ◌∙◌}
use mathlib.Core.Logic.{◌⊎◌, inl, inr}
use Prim.Native.Nat.{ℕ, ◌+◌}
use native.Mathlib.Omega.{arith}
use mathlib.Core.Bool.{Bool, true, false, true≢false}
use mathlib.Core.List.{List, [], ◌∷◌}
use mathlib.Core.Option.{Option, none, some}
use lib.ListN.{length, take, drop, get_elem?}
use lib.Seq.{drop-drop, drop_at}
use Rattle.fdoca.specs.Basics.{Result, ok, ◌>>=◌, the}
use Rattle.fdoca.specs.Item.{Field}
use Rattle.fdoca.specs.Walk.{Note}
use Rattle.fdoca.specs.Account.{Parts, Begins}
use Rattle.fdoca.specs.Calls.{item_at, value_of}
use Rattle.fdoca.specs.Reasons.{StartsAt, Unfolds, OfState, Earlier}
use Rattle.fdoca.proofs.Results.{ok_of}
use Rattle.fdoca.proofs.Fields.{GoodField, item_good}
use Rattle.fdoca.proofs.Blocks.{NotedAs, note_sound, first_parts, same_parts}
use Rattle.fdoca.proofs.BlockRows.{starts_noted, item_starts}
use Rattle.fdoca.proofs.FirstReasons.{Told, refused, accepted, Either, told_then}
use Rattle.fdoca.proofs.CallRows.{From, from, by_turns, state_told, state_from, found, fields, starts_among, starts}

-- the parts of an item that is found, and its value in the data
module _ (d s : List ℕ) (k : ℕ) (i : Note) (e : item_at d s k ≡ ok i) where
  record PartsAt (q : ℕ) (f : Field) (rest : List ℕ) : Type 0 where
    parts : Parts
    begins : Begins f rest parts
    null_is : i.is_null ≡ parts.is_null
    value_is : value_of s i ≡ parts.value

  parts_at : (q : ℕ) (f : Field) (rest : List ℕ) → StartsAt (fields d s k i e) s k f q rest → PartsAt q f rest
  parts_at q f rest x =
      let (j, t, n) = starts_noted (fields d s k i e) s (found d s k i e).notes k (found d s k i e).walked.walks f q rest x in
      let same : j ≡ i = let g : get_elem? (found d s k i e).notes k ≡ some i = (found d s k i e).is_item in cc in
      let y : NotedAs f q rest i = rw same at (ok_of (rw n at (note_sound f q rest))) in
      let r : drop q s ≡ rest = rw x.split (drop_at x.bytes rest q x.place_is) in
      let l : drop (q + length y.parts.lead) s ≡ drop (length y.parts.lead) rest = sym (drop-drop (length y.parts.lead) q s) ∙ ap (drop (length y.parts.lead)) r in
      let v : value_of s i ≡ y.parts.value =
      ap (value_of s) y.same ∙ ap (take (length y.parts.value)) l ∙ sym (first_parts y.parts rest y.begins.rest y.begins.split).1 in
      record { parts = y.parts; begins = y.begins; null_is = ap (λ n. n.is_null) y.same; value_is = v }

-- K is how a field is read, and A what its bytes are read as
module _ {K A : Type 0} (number : ℕ) (null : A) (kind_of : Field → Option K) (read_of : K → List ℕ → Option A) (Wrong : Field → Type 0)
    (Bad : Field → List ℕ → Type 0) (none_wrong : (f : Field) → GoodField f → kind_of f ≡ none → Wrong f)
    (some_right : (f : Field) → GoodField f → (r : K) → kind_of f ≡ some r → Wrong f → ⊥)
    (none_bad : (f : Field) → GoodField f → (r : K) → kind_of f ≡ some r → (v : List ℕ) → read_of r v ≡ none → Bad f v)
    (some_Good : (f : Field) → GoodField f → (r : K) → kind_of f ≡ some r → (v : List ℕ) (a : A) → read_of r v ≡ some a → Bad f v → ⊥) where
  module _ (d s : List ℕ) (k : ℕ) where
    pub data OfKind : List ℕ → ℕ → ℕ → Type 0 where
      another : {fs : List Field} {q : ℕ} {f : Field} {rest : List ℕ} → Unfolds d fs → StartsAt fs s k f q rest → Wrong f → OfKind (8 ∷ []) 18 q

    pub data OfBytes : List ℕ → ℕ → ℕ → Type 0 where
      bad : {fs : List Field} {q : ℕ} {f : Field} {rest : List ℕ} {x : Parts} → Unfolds d fs → StartsAt fs s k f q rest → Begins f rest x
          → x.is_null ≡ false → Bad f x.value → OfBytes (9 ∷ []) number q

    abbrev pub value_read : Note → K → Result A
    value_read i r = the (if i.is_null then some null else read_of r (value_of s i)) number i.start

    module _ (i : Note) (e : item_at d s k ≡ ok i) where
      field_good : GoodField i.field
      field_good = (item_good d s k i e).field_good

      here : (rest : List ℕ) × StartsAt (fields d s k i e) s k i.field i.start rest
      here = item_starts (fields d s k i e) s (found d s k i e).notes k (found d s k i e).walked.walks i (found d s k i e).is_item

      kind_told : Told OfKind (the (kind_of i.field) 18 i.start)
      kind_told = go (kind_of i.field) refl
        where
          later : {t : List ℕ} {m q : ℕ} → OfKind t m q → Earlier (8 ∷ []) t ⊎ ((t ≡ 8 ∷ []) × (m ≡ 18) × (q ≡ i.start))
          later (another {fs = fs} {q = q} {f = f} {rest = rest} u x a) = inr (refl, refl, sym (starts d s k i e fs q f rest u x).1)

          no_kind : (r : K) → kind_of i.field ≡ some r → {t : List ℕ} {m q : ℕ} → OfKind t m q → ⊥
          no_kind r h (another {fs = fs} {q = q} {f = f} {rest = rest} u x a) =
              some_right i.field field_good r h (rw (sym (starts d s k i e fs q f rest u x).0) at a)

          go : (o : Option K) → kind_of i.field ≡ o → Told OfKind (the o 18 i.start)
          go none h =
              let (rest, x) = here in
              refused (record {
                turn = 8 ∷ [];
                reason = another (found d s k i e).walked.unfolds x (none_wrong i.field field_good h);
                others_later = λ t m q r. later r;
              })
          go (some r) h = accepted (λ t m q y. no_kind r h y)

      -- bad bytes that stand anywhere stand in this item's value
      bad_here : {t : List ℕ} {m q : ℕ} → OfBytes t m q → (i.is_null ≡ false) × Bad i.field (value_of s i) × (t ≡ 9 ∷ []) × (m ≡ number) × (q ≡ i.start)
      bad_here (bad {fs = fs} {q = q} {f = f} {rest = rest} {x = y} u x b z w) =
          let (a, c) = starts d s k i e fs q f rest u x in
          let y' = parts_at d s k i e q f rest (starts_among d s k i e fs q f rest u x) in
          let g : y'.parts ≡ y = same_parts f rest y'.parts y y'.begins b in
          let v : y.value ≡ value_of s i = sym (y'.value_is ∙ ap (λ x. x.value) g) in
          (y'.null_is ∙ ap (λ x. x.is_null) g ∙ z, rw (v, sym a) at w, refl, refl, sym c)

      module _ (r : K) (h : kind_of i.field ≡ some r) where
        pub bytes_told : Told OfBytes (value_read i r)
        bytes_told = by_null i.is_null refl
          where
            by_bytes : (i.is_null ≡ false) → (o : Option A) → read_of r (value_of s i) ≡ o → Told OfBytes (the o number i.start)
            by_bytes w none n =
                let (rest, x) = here in
                let y = parts_at d s k i e i.start i.field rest x in
                refused (record {
                  turn = 9 ∷ [];
                  reason = bad (found d s k i e).walked.unfolds x y.begins (sym y.null_is ∙ w) (rw y.value_is at (none_bad i.field field_good r h (value_of s i) n));
                  others_later = λ t m q z. let b = bad_here z in inr (b.2, b.3, b.4);
                })
            by_bytes w (some a) n = accepted (λ t m q z. some_Good i.field field_good r h (value_of s i) a n (bad_here z).1)

            by_null : (z : Bool) → i.is_null ≡ z → Told OfBytes (the (if z then some null else read_of r (value_of s i)) number i.start)
            by_null true w = accepted (λ t m q z. true≢false (sym w ∙ (bad_here z).0))
            by_null false w = by_bytes w (read_of r (value_of s i)) refl

    kind_from : (t : List ℕ) (m q : ℕ) → OfKind t m q → From 8 8 t
    kind_from t m q (another u x a) = from 8 8 8 [] (omega arith) (omega arith)

    bytes_from : (t : List ℕ) (m q : ℕ) → OfBytes t m q → From 9 9 t
    bytes_from t m q (bad u x b z w) = from 9 9 9 [] (omega arith) (omega arith)

    late : (t : List ℕ) (m q : ℕ) → Either OfKind OfBytes t m q → From 8 9 t
    late t m q (inl (another u x a)) = from 8 9 8 [] (omega arith) (omega arith)
    late t m q (inr (bad u x b z w)) = from 8 9 9 [] (omega arith) (omega arith)

    -- the read, whatever is made of the bytes
    pub read_told : {B : Type 0} (make : Note → K → Result B) → ((i : Note) (e : item_at d s k ≡ ok i) (r : K) → kind_of i.field ≡ some r → Told OfBytes (make i r))
        → Told (Either (OfState d s k) (Either OfKind OfBytes)) (item_at d s k >>= (λ i. the (kind_of i.field) 18 i.start >>= make i))
    read_told make made =
        told_then (item_at d s k) (λ i. the (kind_of i.field) 18 i.start >>= make i) (by_turns 1 7 8 9 (omega arith) (state_from d s k) late) (state_told d s k)
        (λ i e. told_then (the (kind_of i.field) 18 i.start) (make i) (by_turns 8 8 9 9 (omega arith) kind_from bytes_from) (kind_told i e)
        (λ r h. made i e r (is_kind (kind_of i.field) i.start r h)))
      where
        is_kind : (o : Option K) (p : ℕ) (r : K) → the o 18 p ≡ ok r → o ≡ some r
        is_kind none p r h = absurd (let z : ◌≡◌ {A = ℕ} 0 1 = cc in let w : ⊥ = omega arith in w)
        is_kind (some x) p r h = let q : x ≡ r = cc in rw q
