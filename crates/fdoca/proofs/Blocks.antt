-- The walk accepts exactly the byte strings that are the items of its fields by the standard's account, one after the other and nothing behind
-- them; there is one way only to cut them so.
-- Assumes nothing.
use mathlib.Core.Path.{◌≡◌, refl, sym, ap, ◌∙◌}
use Prim.Native.Nat.{ℕ, zero, suc, ◌+◌}
use native.Mathlib.Omega.{arith}
use mathlib.Core.Bool.{Bool}
use mathlib.Core.List.{List, [], ◌∷◌, ◌++◌, append_assoc, append-nil}
use mathlib.Core.Option.{some}
use lib.Dec.{ltb}
use lib.ListN.{length, take, drop, get_elem?, length-append}
use lib.Seq.{take_at, drop_at, drop-drop}
use borrow.Author.Tests.{ltb-false}
use Rattle.fdoca.specs.Basics.{Result, ok}
use Rattle.fdoca.specs.Item.{Field, Measured, refused, item, measure}
use Rattle.fdoca.specs.Account.{Parts, Begins, Block, done, next}
use Rattle.fdoca.specs.Walk.{Note, item_length, Cut, note_of, with, cut_from, walk}
use Rattle.fdoca.specs.Calls.{value_of}
use Rattle.fdoca.specs.Cover.{size, start_of, note_of_parts, notes_of}
use Rattle.fdoca.proofs.Account.{sizes, measure_sound, measure_complete}
use Rattle.fdoca.proofs.Results.{IfOk, none_owed, holds, bind_all, reject_all, ok_of}

-- an item's bytes, one run after the other, with others behind them
abbrev pub onto : Parts → List ℕ → List ℕ
onto x s = x.lead ++ (x.value ++ (x.spare ++ s))

pub behind : (x : Parts) (s : List ℕ) → drop (length x.lead + length x.value + length x.spare) (onto x s) ≡ s
behind x s =
    let a : List ℕ = x.lead ++ (x.value ++ x.spare) in
    let e : length a ≡ length x.lead + length x.value + length x.spare = simp length-append (omega arith) in
    let q : onto x s ≡ a ++ s = simp append_assoc in
    rw q (drop_at a s (length x.lead + length x.value + length x.spare) e)

-- more bytes behind an item's
onto_append : (x : Parts) (s t : List ℕ) → onto x s ++ t ≡ onto x (s ++ t)
onto_append x s t = simp append_assoc

onto_length : (x : Parts) (s : List ℕ) → length (onto x s) ≡ length x.lead + length x.value + length x.spare + length s
onto_length x s = simp length-append (omega arith)

-- A block with other bytes behind it is cut into its items, down to those bytes.
pub cut_block : (p : ℕ) (fs : List Field) (xs : List Parts) (s rest : List ℕ) → Block fs xs s
    → cut_from p fs (s ++ rest) ≡ ok (record { notes = notes_of p fs xs; end = p + length s; rest = rest })
unfolding cut_from note_of
cut_block p fs xs s rest done = let e : p + 0 ≡ p = omega arith in rw e
cut_block p fs xs s rest (next {f = f} {fs = fs'} {ps = ps} {s = t} x i b) =
    let e : measure f (onto x (t ++ rest)) ≡ sizes x = measure_complete f (onto x (t ++ rest)) x (record { rest = t ++ rest; split = refl; account = i }) in
    let n : p + length (onto x t) ≡ p + item_length (note_of_parts p f x) + length t = omega (arith, onto_length x t) in
    rw (onto_append x t rest, e, behind x (t ++ rest), cut_block (p + item_length (note_of_parts p f x)) fs' ps t rest b, n)

-- A block of the account is accepted, and its items are noted.
pub walk_complete : (fs : List Field) (xs : List Parts) (s : List ℕ) → Block fs xs s → walk fs s ≡ ok (notes_of 0 fs xs)
unfolding walk
walk_complete fs xs s b = rw (rw (append-nil s) at (cut_block 0 fs xs s [] b))

-- a note is that of an item's parts, with which the bytes begin
pub record NotedAs (f : Field) (p : ℕ) (s : List ℕ) (n : Note) : Type 0 where
  pub parts : Parts
  pub begins : Begins f s parts
  pub same : n ≡ note_of_parts p f parts

pub note_sound : (f : Field) (p : ℕ) (s : List ℕ) → IfOk (NotedAs f p s) (note_of f p (measure f s))
unfolding note_of
note_sound f p s = go (measure f s) refl
  where
    go : (m : Measured) → measure f s ≡ m → IfOk (NotedAs f p s) (note_of f p m)
    go (refused k) e = none_owed
    go (item z l v r) e =
        let q = measure_sound f s z l v r e in
        let w : ◌≡◌ {A = Result Note} (note_of f p (item z l v r)) (note_of f p (sizes q.0)) = ap (note_of f p) (sym q.2) in
        let y : NotedAs f p s (record { start = p; field = f; is_null = z; lead = l; value = v; spare = r }) =
        record { parts = q.0; begins = q.1; same = cc } in
        holds y

-- the items of a cut, their bytes, and the bytes behind them
pub record CutBlock (p : ℕ) (fs : List Field) (s : List ℕ) (c : Cut) : Type 0 where
  pub parts : List Parts
  pub bytes : List ℕ
  pub noted : c.notes ≡ notes_of p fs parts
  pub block : Block fs parts bytes
  pub split : s ≡ bytes ++ c.rest
  pub end_is : c.end ≡ p + length bytes

cut_sound : (p : ℕ) (fs : List Field) (s : List ℕ) → IfOk (CutBlock p fs s) (cut_from p fs s)
unfolding cut_from
cut_sound p [] s =
    let r : CutBlock p [] s (record { notes = []; end = p; rest = s }) =
    record { parts = []; bytes = []; noted = refl; block = done; split = refl; end_is = omega arith } in
    holds r
cut_sound p (f ∷ fs) s =
    bind_all (note_of f p (measure f s)) (note_sound f p s)
    (λ n h. let x : Parts = h.parts in
    let N : Note = note_of_parts p f x in
    let b : Begins f s x = h.begins in
    let d : drop (item_length N) s ≡ b.rest = ap (drop (item_length N)) b.split ∙ behind x b.rest in
    let back : s ≡ onto x (drop (item_length N) s) = b.split ∙ ap (onto x) (sym d) in
    rw h.same
    (bind_all (cut_from (p + item_length N) fs (drop (item_length N) s)) (cut_sound (p + item_length N) fs (drop (item_length N) s))
    (λ c k. let r : CutBlock p (f ∷ fs) s (with N c) =
    record {
      parts = x ∷ k.parts;
      bytes = onto x k.bytes;
      noted = ap (λ l. N ∷ l) k.noted;
      block = next x b.account k.block;
      split = back ∙ ap (onto x) k.split ∙ sym (onto_append x k.bytes c.rest);
      end_is = omega (arith, k.end_is, onto_length x k.bytes);
    } in
    holds r)))

pub cut_parts : (p : ℕ) (fs : List Field) (s : List ℕ) (c : Cut) → cut_from p fs s ≡ ok c → CutBlock p fs s c
cut_parts p fs s c e = ok_of (rw e at (cut_sound p fs s))

nil_of_length : (x : List ℕ) → length x ≡ 0 → x ≡ []
nil_of_length [] e = refl
nil_of_length (b ∷ x) e = absurd (let z : ⊥ = omega arith in z)

-- an accepted block's parts
pub record Accepted (fs : List Field) (s : List ℕ) (ns : List Note) : Type 0 where
  pub parts : List Parts
  pub block : Block fs parts s
  pub noted : ns ≡ notes_of 0 fs parts

accepted : (fs : List Field) (s : List ℕ) → IfOk (Accepted fs s) (walk fs s)
unfolding walk
accepted fs s =
    bind_all (cut_from 0 fs s) (cut_sound 0 fs s)
    (λ c k. reject_all (ltb 0 (length c.rest)) 16 c.end
    (λ h. let e : c.rest ≡ [] = nil_of_length c.rest (omega (arith, ltb-false 0 (length c.rest) h)) in
    let q : k.bytes ≡ s = sym (k.split ∙ rw e (append-nil k.bytes)) in
    let r : Accepted fs s c.notes = record { parts = k.parts; block = rw q at k.block; noted = k.noted } in
    holds r))

-- What is accepted is a block of the account, with the items noted.
pub walk_sound : (fs : List Field) (s : List ℕ) (ns : List Note) → walk fs s ≡ ok ns → Accepted fs s ns
walk_sound fs s ns e = ok_of (rw e at (accepted fs s))

-- the parts with which bytes begin, from their lengths
pub first_parts : (x : Parts) (s t : List ℕ) → s ≡ onto x t
    → (x.lead ≡ take (length x.lead) s)
    × (x.value ≡ take (length x.value) (drop (length x.lead) s))
    × (x.spare ≡ take (length x.spare) (drop (length x.lead + length x.value) s))
first_parts x s t e =
    let a : x.lead ≡ take (length x.lead) s = rw e (sym (take_at x.lead (x.value ++ (x.spare ++ t)) (length x.lead) refl)) in
    let d : drop (length x.lead) s ≡ x.value ++ (x.spare ++ t) = rw e (drop_at x.lead (x.value ++ (x.spare ++ t)) (length x.lead) refl) in
    let b : x.value ≡ take (length x.value) (drop (length x.lead) s) = rw d (sym (take_at x.value (x.spare ++ t) (length x.value) refl)) in
    let q : drop (length x.lead + length x.value) s ≡ x.spare ++ t = sym (drop-drop (length x.value) (length x.lead) s) ∙ rw d (drop_at x.value (x.spare ++ t) (length x.value) refl) in
    let c : x.spare ≡ take (length x.spare) (drop (length x.lead + length x.value) s) = rw q (sym (take_at x.spare t (length x.spare) refl)) in
    (a, b, c)

abbrev made : Bool → List ℕ → List ℕ → List ℕ → Parts
made z p v r = record { is_null = z; lead = p; value = v; spare = r }

-- two items with which the same bytes begin
pub same_parts : (f : Field) (s : List ℕ) (x y : Parts) → Begins f s x → Begins f s y → x ≡ y
same_parts f s x y a b =
    let e : sizes x ≡ sizes y = sym (measure_complete f s x a) ∙ measure_complete f s y b in
    let z : x.is_null ≡ y.is_null = cc in
    let n₁ : length x.lead ≡ length y.lead = cc in
    let n₂ : length x.value ≡ length y.value = cc in
    let n₃ : length x.spare ≡ length y.spare = cc in
    let p = first_parts x s a.rest a.split in
    let q = first_parts y s b.rest b.split in
    let l₁ : x.lead ≡ y.lead = p.0 ∙ ap (λ n. take n s) n₁ ∙ sym q.0 in
    let l₂ : x.value ≡ y.value = p.1 ∙ rw (n₁, n₂) (sym q.1) in
    let l₃ : x.spare ≡ y.spare = p.2 ∙ rw (n₁, n₂, n₃) (sym q.2) in
    let r : made x.is_null x.lead x.value x.spare ≡ made y.is_null y.lead y.value y.spare = rw (z, l₁, l₂, l₃) in
    r

-- There is one way only to cut a block into its fields' items.
pub one_way : (fs : List Field) (xs ys : List Parts) (s t : List ℕ) → Block fs xs s → Block fs ys t → s ≡ t → xs ≡ ys
one_way fs xs ys s t done done e = refl
one_way fs xs ys s t (next {f = f} {fs = gs} {ps = ps} {s = s'} x i b) (next {ps = qs} {s = t'} y j c) e =
    let h : x ≡ y = same_parts f s x y (record { rest = s'; split = refl; account = i }) (record { rest = t'; split = e; account = j }) in
    let l : drop (length x.lead + length x.value + length x.spare) s ≡ t' = rw (e, h) (behind y t') in
    let r : ps ≡ qs = one_way gs ps qs s' t' b c (sym (behind x s') ∙ l) in
    cc

-- The note of item k of a block, and its value: it starts behind the parts before it.
pub note_of_part : (p : ℕ) (fs : List Field) (xs : List Parts) (s whole : List ℕ) → Block fs xs s → drop p whole ≡ s → (k : ℕ) (f : Field) (x : Parts)
    → get_elem? fs k ≡ some f → get_elem? xs k ≡ some x
    → (get_elem? (notes_of p fs xs) k ≡ some (note_of_parts (p + start_of xs k) f x)) × (value_of whole (note_of_parts (p + start_of xs k) f x) ≡ x.value)
note_of_part p fs xs s whole done h k f x a b = absurd (let z : ◌≡◌ {A = ℕ} 0 1 = cc in let w : ⊥ = omega arith in w)
note_of_part p fs xs s whole (next {f = g} {fs = fs'} {ps = ps} {s = t} y i bl) h zero f x a b =
    let eg : g ≡ f = cc in
    let ey : y ≡ x = cc in
    let ep : p + 0 ≡ p = omega arith in
    let v : drop (p + length y.lead) whole ≡ y.value ++ (y.spare ++ t) =
    sym (drop-drop (length y.lead) p whole) ∙ ap (drop (length y.lead)) h ∙ drop_at y.lead (y.value ++ (y.spare ++ t)) (length y.lead) refl in
    let r : value_of whole (note_of_parts p g y) ≡ y.value = rw v (take_at y.value (y.spare ++ t) (length y.value) refl) in
    rw (ep, ← eg, ← ey) (refl, r)
note_of_part p fs xs s whole (next {f = g} {fs = fs'} {ps = ps} {s = t} y i bl) h (suc k) f x a b =
    let h' : drop (p + size y) whole ≡ t = sym (drop-drop (size y) p whole) ∙ ap (drop (size y)) h ∙ behind y t in
    let e : p + (size y + start_of ps k) ≡ p + size y + start_of ps k = omega arith in
    rw e (note_of_part (p + size y) fs' ps t whole bl h' k f x a b)
