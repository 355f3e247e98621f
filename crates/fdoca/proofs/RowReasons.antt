-- The walk over rows to the end refuses for the first reason in order, and accepts where there is none. It accepts in one way only: each pass takes data.
-- Assumes nothing.
use mathlib.Core.Path.{◌≡◌, refl, sym, ap, ◌∙◌, subst}
use mathlib.Core.Logic.{◌⊎◌, inl, inr}
use Prim.Native.Nat.{ℕ, suc, ◌+◌, ◌-◌, ◌≤◌, ◌<◌}
use native.Mathlib.Omega.{arith}
use mathlib.Core.Bool.{Bool, true, false, true≢false}
use mathlib.Core.List.{List, [], ◌∷◌, ◌++◌, append-nil}
use mathlib.Core.Option.{some}
use lib.ListN.{length, drop, length-append}
use lib.Seq.{drop-nil}
use borrow.Author.Tests.{eq-eqb, lt-leb}
use Rattle.fdoca.specs.Basics.{is_empty, repeat, Result, ok, ◌>>=◌}
use Rattle.fdoca.specs.FieldType.{FieldType, fixed_bytes, Size, bytes, in_bytes, allows, rule_of}
use Rattle.fdoca.specs.FieldType as P
use Rattle.fdoca.specs.Item.{Field, field_length, item, measure}
use Rattle.fdoca.specs.Walk.{Note, item_length, Cut, note_of, with, cut_from, walk, walk_rows}
use Rattle.fdoca.specs.Unfolding.{endless}
use Rattle.fdoca.specs.Account.{FixedLength, string, binary, binary_reversed, packed, float_hex, float_reversed, float, of_bytes, of_half_bytes, one_unused, Value, of_size, after_two, after_one, up_to_zero, Item, plain, null, value, Parts, Block}
use Rattle.fdoca.specs.Reasons.{OfItem, StartsAt, OfItems, with_passes, ComesTo, OfRows, too_many, Earlier, here, further, First, None}
use Rattle.fdoca.proofs.Tests.{by_order}
use Rattle.fdoca.proofs.Results.{ok_bind}
use Rattle.fdoca.proofs.Cover.{joined, cut_append}
use Rattle.fdoca.proofs.Stops.{StopsAt}
use Rattle.fdoca.proofs.Account.{measure_sound}
use Rattle.fdoca.proofs.TypeRows.{type_plain}
use Rattle.fdoca.proofs.Blocks.{walk_sound}
use Rattle.fdoca.proofs.BlockRows.{same_place, earlier_place, starts_of, cut_of, cut_to, cut_there, noted_as, none_against, start, earliest, turn, Later, item_later, items_none}
use Rattle.fdoca.proofs.Fields.{GoodField, AllGood, nil, cons, good_append, good_repeat}
use Rattle.fdoca.proofs.FirstReasons.{Told}
use Rattle.fdoca.proofs.FirstReasons as F
use Rattle.fdoca.proofs.Rows.{passes_more, by_passes, Outcome, ended, spoiled, over, stops_among, outcome}

module _ (before rows : List Field) (s : List ℕ) (good : AllGood before) (good_rows : AllGood rows) where
  abbrev fields : ℕ → List Field
  fields j = with_passes before rows j

  good_fields : (j : ℕ) → AllGood (fields j)
  good_fields j = good_append good (good_repeat j rows good_rows)

  -- the data are used up by j passes
  pub none_of_ended : (j : ℕ) (ns : List Note) → walk (fields j) s ≡ ok ns → length (fields j) ≤ 4096 → None (OfRows before rows s)
  none_of_ended j ns w l t m p r = go r
    where
      go : {t : List ℕ} {m p : ℕ} → OfRows before rows s t m p → ⊥
      go (OfRows.item i x c k y) =
          let b = walk_sound (fields j) s ns w in
          items_none (fields j) s ns (good_fields j) w _ _ _ (OfItems.item (by_passes before rows j i x (c j b.parts b.block)) y)
      go (too_many i x c) = let b = walk_sound (fields j) s ns w in omega (arith, c j b.parts b.block)

  -- an item is cut short or spoiled
  first_of_spoiled : (j m p : ℕ) (h : StopsAt 0 (fields j) s m p) → length h.before < 4096 → ComesTo before rows s (length h.before) → First (OfRows before rows s) m p
  first_of_spoiled j m p h l c =
      record {
        turn = turn (fields j) s (good_fields j) h;
        reason =
            subst (λ q. OfRows before rows s (turn (fields j) s (good_fields j) h) m q) (sym h.place)
            (OfRows.item j (start (fields j) s (good_fields j) h) c l (earliest (fields j) s (good_fields j) h).reason);
        others_later = λ t n q w. later w;
      }
    where
      item_behind : {k i n q : ℕ} {f : Field} {rest : List ℕ} (v : ℕ) → StartsAt (fields v) s k f q rest → OfItem f rest i n
          → Later (fields j) s (good_fields j) h (5 ∷ k ∷ i ∷ []) n q
      item_behind {k} v x r =
          by_order k (length (fields j)) (λ a. item_later (fields j) s (good_fields j) h (by_passes before rows j v x a) r)
          (λ a. inl (further (here (omega (arith, stops_among h))))) (λ a. inl (further (here (omega (arith, stops_among h)))))

      later : {t : List ℕ} {n q : ℕ} → OfRows before rows s t n q → Later (fields j) s (good_fields j) h t n q
      later (OfRows.item v x a b r) = item_behind v x r
      later (too_many v x a) = inl (further (here l))

  -- there is a 4,097th item
  first_of_over : (j : ℕ) (b : List Field) (f : Field) (a : List Field) (c : Cut) → fields j ≡ b ++ (f ∷ a) → length b ≡ 4096 → cut_from 0 b s ≡ ok c
      → ComesTo before rows s 4096 → First (OfRows before rows s) 10 c.end
  first_of_over j b f a c e l h comes =
      record { turn = 5 ∷ 4096 ∷ 0 ∷ []; reason = too_many j (rw l at (starts_of (fields j) s b f a c e h)) comes; others_later = λ t n q w. later w }
    where
      longer : 4096 < length (fields j)
      longer = rw e (omega (arith, length-append b (f ∷ a)))

      later : {t : List ℕ} {n q : ℕ} → OfRows before rows s t n q → Earlier (5 ∷ 4096 ∷ 0 ∷ []) t ⊎ ((t ≡ 5 ∷ 4096 ∷ 0 ∷ []) × (n ≡ 10) × (q ≡ c.end))
      later (OfRows.item {f = g} v x o k r) =
          let y = by_passes before rows j v x (omega (arith, longer)) in
          let (more, z) = earlier_place y.before b g f y.after a (sym y.fields ∙ e) (omega (arith, y.number)) in
          absurd (none_against y (good_fields j) more c (sym (ap (λ l. cut_from 0 l s) z) ∙ h) _ _ r)
      later (too_many {f = g} v x o) =
          let y = by_passes before rows j v x longer in
          let (z, _) = same_place y.before b g f y.after a (sym y.fields ∙ e) (omega (arith, y.number)) in
          let (w, _) = cut_there y.block y.split c (ap (λ l. cut_from 0 l s) z ∙ h) in
          inr (refl, refl, omega (arith, y.place_is))

  pub rows_told : is_empty rows ≡ false → length before ≤ 4096 → Told (OfRows before rows s) (walk_rows before rows s)
  rows_told some-field l = go (outcome before rows s some-field l)
    where
      go : {x : Result (List Note)} → Outcome before rows s x → Told (OfRows before rows s) x
      go (ended {ns = ns} j w k) = F.accepted (none_of_ended j ns w k)
      go (spoiled {m = m} {p = p} j h k c) = F.refused (first_of_spoiled j m p h k c)
      go (over j b f a c e k h o) = F.refused (first_of_over j b f a c e k h o)

-- An item that takes no data is that of an X'01' that is not nullable and has F 0,
nothing_joined : (a b : List ℕ) → [] ≡ a ++ b → (a ≡ []) × (b ≡ [])
nothing_joined [] b e = (refl, sym e)
nothing_joined (x ∷ a) b e = absurd (let z : ⊥ = omega (arith, ap length e) in z)

no_value : {mode : ℕ} {z : Size} {T : FieldType} {p v r : List ℕ} → Value mode z T p v r → allows (rule_of T).sizes z ≡ true → p ≡ [] → v ≡ [] → r ≡ []
    → (T ≡ fixed_bytes) × (in_bytes z ≡ 0)
unfolding rule_of
no_value (of_size {T = T} k (of_bytes {F = F} l)) h a b c = go k h (sym l ∙ ap length b)
  where
    go : {T : FieldType} {F : ℕ} → FixedLength T → allows (rule_of T).sizes (bytes F) ≡ true → F ≡ 0 → (T ≡ fixed_bytes) × (F ≡ 0)
    go string h e = (refl, e)
    go binary h e = absurd (true≢false (sym h ∙ rw e))
    go binary_reversed h e = absurd (true≢false (sym h ∙ rw e))
    go packed h e = absurd (true≢false (sym h))
    go float_hex h e = absurd (true≢false (sym h ∙ rw e))
    go float_reversed h e = absurd (true≢false (sym h ∙ rw e))
    go float h e = absurd (true≢false (sym h ∙ rw e))
no_value (of_size k (of_half_bytes l)) h a b c = absurd (let z : ⊥ = omega (arith, ap length b) in z)
no_value (of_size k (one_unused l)) h a b c = absurd (let z : ⊥ = omega (arith, ap length b) in z)
no_value (after_two e l s) h a b c = absurd (let z : ⊥ = omega (arith, ap length a) in z)
no_value (after_one e s) h a b c = absurd (let z : ⊥ = omega (arith, ap length a) in z)
no_value (up_to_zero n s) h a b c = absurd (let z : ⊥ = omega (arith, ap length c) in z)

no_item : {f : Field} {z : Bool} {p v r : List ℕ} → Item f z p v r → GoodField f → p ≡ [] → v ≡ [] → r ≡ [] → (f.code ≡ 0x01) × (field_length f ≡ 0)
no_item {f} (plain l x) g a b c =
    let (t, n) = no_value x g.allowed a b c in
    let e : f.code ≡ 0x01 = sym (plain_below f.code l) ∙ type_plain f.code fixed_bytes (g.typed ∙ ap some t) in
    (e, n)
  where
    plain_below : (c : ℕ) → c < 128 → P.plain c ≡ c
    plain_below c l = rw (lt-leb 128 c l)
no_item (null l h) g a b c = absurd (let z : ⊥ = omega (arith, ap length a) in z)
no_item (value l x) g a b c = absurd (let z : ⊥ = omega (arith, ap length a) in z)

no_bytes : (f : Field) → GoodField f → (z : Bool) (p v r : ℕ) → measure f [] ≡ item z p v r → (f.code ≡ 0x01) × (field_length f ≡ 0)
no_bytes f g z p v r e =
    let (x, b, _) = measure_sound f [] z p v r e in
    let (a, c) = nothing_joined x.lead (x.value ++ (x.spare ++ b.rest)) b.split in
    let (u, w) = nothing_joined x.value (x.spare ++ b.rest) (sym c) in
    no_item b.account g a u (nothing_joined x.spare b.rest (sym w)).0

-- so a layout whose items take none is endless,
no_data_pass : (p : ℕ) (fs : List Field) → AllGood fs → (c : Cut) → cut_from p fs [] ≡ ok c → endless fs ≡ true
unfolding cut_from
no_data_pass p [] nil c e = refl
no_data_pass p (f ∷ fs) (cons g gs) c e =
    let (n, x, y) = ok_bind (note_of f p (measure f [])) (λ n. cut_from (p + item_length n) fs (drop (item_length n) []) >>= (λ c. ok (with n c))) c e in
    let (z, a, b, r, h, _, _) = noted_as f p (measure f []) n x in
    let (k, l) = no_bytes f g z a b r h in
    let (d, w, _) = ok_bind (cut_from (p + item_length n) fs (drop (item_length n) [])) (λ c. ok (with n c)) c y in
    rw (eq-eqb f.code 0x01 k, eq-eqb (field_length f) 0 l) (no_data_pass (p + item_length n) fs gs d (sym (ap (cut_from (p + item_length n) fs) (drop-nil (item_length n))) ∙ w))

-- and the data are used up by one number of passes only.
module _ (before rows : List Field) (s : List ℕ) (good_rows : AllGood rows) (taking : endless rows ≡ false) where
  not_fewer : (i m : ℕ) (xs ys : List Parts) → Block (with_passes before rows i) xs s → Block (with_passes before rows (i + suc m)) ys s → ⊥
  not_fewer i m xs ys a b =
      let all : Cut = cut_of (with_passes before rows i) xs (length s) [] in
      let d : cut_from 0 (with_passes before rows i) s ≡ ok all = cut_to a (sym (append-nil s)) refl in
      let u : cut_from 0 (with_passes before rows (i + suc m)) s ≡ ok (cut_of (with_passes before rows (i + suc m)) ys (length s) []) = cut_to b (sym (append-nil s)) refl in
      let v = rw (passes_more before rows i (suc m), cut_append 0 (with_passes before rows i) (repeat (suc m) rows) s, d) at u in
      let (c, x, _) = ok_bind (cut_from (length s) (rows ++ repeat m rows) []) (λ d. ok (joined all d)) _ v in
      let (e, y, _) = ok_bind (cut_from (length s) rows []) (λ c. cut_from c.end (repeat m rows) c.rest >>= (λ d. ok (joined c d))) c (sym (cut_append (length s) rows (repeat m rows) []) ∙ x) in
      true≢false (sym (no_data_pass (length s) rows good_rows e y) ∙ taking)

  pub one_number : (i j : ℕ) (xs ys : List Parts) → Block (with_passes before rows i) xs s → Block (with_passes before rows j) ys s → i ≡ j
  one_number i j xs ys a b =
      by_order i j (λ l. let e : j ≡ i + suc (j - suc i) = omega arith in absurd (not_fewer i (j - suc i) xs ys a (rw e at b))) (λ e. e)
      (λ l. let e : i ≡ j + suc (i - suc j) = omega arith in absurd (not_fewer j (i - suc j) ys xs b (rw e at a)))
