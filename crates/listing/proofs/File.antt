-- The text of a file: its sizes, the ways through `write_dump`, and a file that is longer than any good one.
-- Assumes nothing.
use Rattle.std.specs.Prelude.{if◌then◌else◌}
use mathlib.Core.Path.{◌≡◌, refl, sym, ap, ◌∙◌}
use mathlib.Core.Logic.{◌⊎◌, inl, inr}
use Prim.Native.Nat.{ℕ, ◌+◌, ◌-◌, ◌*◌, ◌<◌, ◌≤◌}
use native.Mathlib.Omega.{arith}
use mathlib.Core.Bool.{Bool, true, false, ◌||◌, not, or-true}
use mathlib.Core.List.{List, [], ◌∷◌, ◌++◌}
use lib.Dec.{ltb, eqb}
use lib.ListN.{length, get_or, take, drop, length-append, length-drop}
use lib.Seq.{length-take-le, take-append-le, drop-append-le}
use borrow.Author.Rules.{part_to_end}
use borrow.Author.Tests.{lt-ltb, le-ltb, eq-eqb, ne_eqb, ltb-false}
use Rattle.fdoca.specs.Basics.{big, in_base}
use Rattle.fdoca.specs.Dump.{refused_line, first_size, second_size, text_of, block_notes, dump}
use Rattle.listing.specs.declared.Text.{Text}
use Rattle.listing.specs.Put.{Put, Told}

-- ---- `size_in`

pub four_bytes_lem : (s : List ℕ) (a b : ℕ) → 4 ≡ length s → a ≡ big (get_or s 0 0 ∷ get_or s 1 0 ∷ []) → b ≡ big (get_or s 2 0 ∷ get_or s 3 0 ∷ []) → a * 65536 + b ≡ big s
unfolding big in_base
four_bytes_lem [] a b l e f = absurd (let z : ⊥ = omega arith in z)
four_bytes_lem (w ∷ []) a b l e f = absurd (let z : ⊥ = omega arith in z)
four_bytes_lem (w ∷ x ∷ []) a b l e f = absurd (let z : ⊥ = omega arith in z)
four_bytes_lem (w ∷ x ∷ y ∷ []) a b l e f = absurd (let z : ⊥ = omega arith in z)
four_bytes_lem (w ∷ x ∷ y ∷ z ∷ []) a b l e f = omega arith
four_bytes_lem (w ∷ x ∷ y ∷ z ∷ v ∷ s) a b l e f = absurd (let z : ⊥ = omega arith in z)

-- ---- `write_file`

pub first_four : (f : List ℕ) → 8 ≤ length f → 4 ≡ length (take 4 f)
first_four f h = sym (length-take-le 4 f (omega arith))

module _ (f : List ℕ) (t t' : Text) (z : t.len ≡ 0) where
  -- the dump was put
  pub record Dumped : Type 0 where
    put : Put t t' (dump f)
    fits : t'.len ≤ 90112

  -- what `write_file` ensures
  pub all_said : Dumped → Put t t' (dump f) × (t'.len ≤ 90112)
  all_said d = (d.put, d.fits)

  dumped : (x : List ℕ) → dump f ≡ x → Put t t' x → t'.len ≤ 90112 → Dumped
  dumped x e p l = record { put = rw e p; fits = l }

  pub short_file : length f < 8 → Put t t' (refused_line 19 0) → t'.len ≤ t.len + 30 → Dumped
  unfolding dump
  short_file h p l = dumped (refused_line 19 0) (rw (lt-ltb (length f) 8 h)) p (omega arith)

  module _ (a b : ℕ) (h : 8 ≤ length f) (ea : a ≡ big (take 4 f)) (eb : b ≡ big (take 4 (drop 4 f))) where
    large_descriptor : 4096 < a → Put t t' (refused_line 1 0) → t'.len ≤ t.len + 30 → Dumped
    unfolding dump
    large_descriptor m p l = dumped (refused_line 1 0) (rw (le-ltb (length f) 8 h, ← ea, lt-ltb 4096 a m)) p (omega arith)

    large_data : 32768 < b → Put t t' (refused_line 1 0) → t'.len ≤ t.len + 30 → Dumped
    unfolding dump
    large_data m p l =
        dumped (refused_line 1 0) (rw (le-ltb (length f) 8 h, ← eb, lt-ltb 32768 b m, or-true (ltb 4096 (big (take 4 f))))) p (omega arith)

    pub large_file : (4096 < a) ⊎ ((a ≤ 4096) × (32768 < b)) → Put t t' (refused_line 1 0) → t'.len ≤ t.len + 30 → Dumped
    large_file (inl m) p l = large_descriptor m p l
    large_file (inr m) p l = large_data m.1 p l

    module _ (sa : a ≤ 4096) (sb : b ≤ 32768) where
      pub other_length : (length f ≡ 8 + a + b → ⊥) → Put t t' (refused_line 19 0) → t'.len ≤ t.len + 30 → Dumped
      unfolding dump
      other_length n p l =
          dumped (refused_line 19 0)
          (rw (le-ltb (length f) 8 h, ← ea, ← eb, le-ltb 4096 a sa, le-ltb 32768 b sb, ne_eqb (length f) (8 + a + b) n)) p (omega arith)

      pub whole_file : length f ≡ 8 + a + b → Told t t' (length (take (length f - (8 + a)) (drop (8 + a) f))) (block_notes (take (8 + a - 8) (drop 8 f)) (take (length f - (8 + a)) (drop (8 + a) f)))
          → Dumped
      unfolding dump
      whole_file n w =
          let x : 8 + a - 8 ≡ a = omega arith in
          let y : length (drop (8 + a) f) ≡ b = omega (arith, length-drop (8 + a) f) in
          let v : Told t t' b (block_notes (take a (drop 8 f)) (drop (8 + a) f)) = rw (x, part_to_end f (8 + a), y) at w in
          dumped (text_of b (block_notes (take a (drop 8 f)) (drop (8 + a) f)))
          (rw (le-ltb (length f) 8 h, ← ea, ← eb, le-ltb 4096 a sa, le-ltb 32768 b sb, eq-eqb (length f) (8 + a + b) n)) v.put v.fits

-- ---- files that are longer than any good one

-- by their sizes alone
abbrev refused_by : (first second : ℕ) → List ℕ
refused_by first second = if ltb 4096 first || ltb 32768 second then refused_line 1 0 else refused_line 19 0

too_long_lem : (f : List ℕ) → 36873 ≤ length f → dump f ≡ refused_by (first_size f) (second_size f)
unfolding dump
too_long_lem f h =
    let l : 8 ≤ length f = omega arith in
    rw (le-ltb (length f) 8 l) (go (ltb 4096 (first_size f)) (ltb 32768 (second_size f)) refl refl)
  where
    go : (x y : Bool) → ltb 4096 (first_size f) ≡ x → ltb 32768 (second_size f) ≡ y
        → (if x || y then refused_line 1 0
        else if not (eqb (length f) (8 + first_size f + second_size f)) then refused_line 19 0
        else text_of (second_size f) (block_notes (take (first_size f) (drop 8 f)) (drop (8 + first_size f) f)))
        ≡ (if x || y then refused_line 1 0 else refused_line 19 0)
    go true y a b = refl
    go false true a b = refl
    go false false a b =
        let n : length f ≡ 8 + first_size f + second_size f → ⊥ = λ e. omega (arith, ltb-false 4096 (first_size f) a, ltb-false 32768 (second_size f) b) in
        rw (ne_eqb (length f) (8 + first_size f + second_size f) n)

-- The first 36,873 bytes of a file decide its dump: what a longer file has behind them changes nothing.
pub rest_unseen : (f rest : List ℕ) → 36873 ≤ length f → dump (f ++ rest) ≡ dump f
rest_unseen f rest h =
    let a : take 4 (f ++ rest) ≡ take 4 f = take-append-le 4 f rest (omega arith) in
    let b : take 4 (drop 4 (f ++ rest)) ≡ take 4 (drop 4 f) =
    ap (take 4) (drop-append-le 4 f rest (omega arith)) ∙ take-append-le 4 (drop 4 f) rest (omega (arith, length-drop 4 f)) in
    too_long_lem (f ++ rest) (omega (arith, length-append f rest))
    ∙ ap (λ x. refused_by (big x) (second_size (f ++ rest))) a
    ∙ ap (λ x. refused_by (first_size f) (big x)) b
    ∙ sym (too_long_lem f h)
