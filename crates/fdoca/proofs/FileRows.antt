-- The dump program prints the refusal of its file's first reason in document 01's order, and the listing where there is none.
-- Assumes nothing.
use Rattle.std.specs.Prelude.{if◌then◌else◌}
use mathlib.Core.Path.{◌≡◌, refl}
use mathlib.Core.Logic.{◌≢◌, ◌⊎◌, inl, inr}
use Prim.Native.Nat.{ℕ, ◌+◌, ◌*◌, ◌≤◌, ◌<◌}
use native.Mathlib.Omega.{arith}
use mathlib.Core.Bool.{Bool, true, false, ◌||◌, not}
use mathlib.Core.List.{List, [], ◌∷◌}
use lib.Dec.{ltb, eqb}
use lib.ListN.{length, take, drop, length-drop}
use borrow.Author.Tests.{ltb-true, ltb-false, eqb-true, eqb-false, not-true, not-false}
use Rattle.fdoca.specs.Basics.{big, in_base, Result, ◌>>◌, reject, ok}
use Rattle.fdoca.specs.Walk.{Note, walk_by}
use Rattle.fdoca.specs.Check.{max_descriptor, check}
use Rattle.fdoca.specs.Unfolding.{unfolded, repeated}
use Rattle.fdoca.specs.Calls.{max_data, oversize}
use Rattle.fdoca.specs.Dump.{refused_line, text_of, block_notes, first_size, second_size, dump}
use Rattle.fdoca.specs.Reasons.{byte, four_bytes, file_descriptor, file_data, OfDescriptor, OfData, OfBlock, descriptor, data_of, OfFile, under_8, other_length, here, further}
use Rattle.fdoca.proofs.Tests.{either_over, neither_over}
use Rattle.fdoca.proofs.Results.{ok_bind, ok_reject}
use Rattle.fdoca.proofs.TripletBytes.{two_at}
use Rattle.fdoca.proofs.FirstReasons.{Told, Either, Once, once, Precedes, told_as, told_tested, reject_told}
use Rattle.fdoca.proofs.CallRows.{block_from, by_turns, once_from, precedes_either, told_after, described_then, late_data, Sizes}
use Rattle.fdoca.proofs.Data.{data_told}

-- the block of a descriptor and its data
block_told : (d s : List ℕ) → Told (OfBlock d s) (block_notes d s)
unfolding block_notes
block_told d s = told_as to back (described_then d s (λ n. walk_by (unfolded d) (repeated d) s) late_data (λ n e. data_told d n e s))
  where
    to : (t : List ℕ) (m p : ℕ) → Either (Sizes d s) (Either (OfDescriptor d) (OfData d s)) t m p → OfBlock d s t m p
    to t m p (inl (once (inl h))) = descriptor (OfDescriptor.oversize h)
    to t m p (inl (once (inr h))) = OfBlock.oversize h
    to t m p (inr (inl r)) = descriptor r
    to t m p (inr (inr r)) = data_of r

    back : (t : List ℕ) (m p : ℕ) → OfBlock d s t m p → Either (Sizes d s) (Either (OfDescriptor d) (OfData d s)) t m p
    back t m p (descriptor r) = inr (inl r)
    back t m p (OfBlock.oversize h) = inl (once (inr h))
    back t m p (data_of r) = inr (inr r)

-- a size of four bytes
big_four : (a b c d : ℕ) → big (a ∷ b ∷ c ∷ d ∷ []) ≡ (a * 256 + b) * 65536 + (c * 256 + d)
unfolding big in_base
big_four a b c d = omega arith

four_at : (l : List ℕ) (i : ℕ) → i + 3 < length l → big (take 4 (drop i l)) ≡ four_bytes l i
four_at l i h =
    rw (two_at l i (omega arith), two_at l (i + 2) (omega arith)) (big_four (byte l i) (byte l (i + 1)) (byte l (i + 2)) (byte l (i + 2 + 1)))

-- The notes of a file's block, or the refusal.
module _ (f : List ℕ) where
  abbrev pub too_long : Bool
  too_long = ltb max_descriptor (first_size f) || ltb max_data (second_size f)

  abbrev pub misfits : Bool
  misfits = not (eqb (length f) (8 + first_size f + second_size f))

  abbrev pub file_notes : Result (List Note)
  file_notes =
      reject (ltb (length f) 8) 19 0
      >> (reject too_long 1 0 >> (reject misfits 19 0 >> block_notes (take (first_size f) (drop 8 f)) (drop (8 + first_size f) f)))

  pub file_text : dump f ≡ text_of (second_size f) file_notes
  unfolding dump
  file_text = go (ltb (length f) 8) too_long misfits
    where
      x : Result (List Note)
      x = block_notes (take (first_size f) (drop 8 f)) (drop (8 + first_size f) f)

      go : (a b c : Bool)
          → (if a then refused_line 19 0 else if b then refused_line 1 0 else if c then refused_line 19 0 else text_of (second_size f) x)
          ≡ text_of (second_size f) (reject a 19 0 >> (reject b 1 0 >> (reject c 19 0 >> x)))
      go true b c = refl
      go false true c = refl
      go false false true = refl
      go false false false = refl

  -- its reasons, test by test
  abbrev Short : List ℕ → ℕ → ℕ → Type 0
  Short = Once (length f < 8) (0 ∷ 0 ∷ []) 19 0

  abbrev Long : List ℕ → ℕ → ℕ → Type 0
  Long = Once ((4096 < four_bytes f 0) ⊎ (32768 < four_bytes f 4)) (0 ∷ 1 ∷ []) 1 0

  abbrev Misfit : List ℕ → ℕ → ℕ → Type 0
  Misfit = Once (length f ≢ 8 + four_bytes f 0 + four_bytes f 4) (0 ∷ 2 ∷ []) 19 0

  abbrev Inside : List ℕ → ℕ → ℕ → Type 0
  Inside = OfBlock (file_descriptor f) (file_data f)

  to_file : (t : List ℕ) (m p : ℕ) → Either Short (Either Long (Either Misfit Inside)) t m p → OfFile f t m p
  to_file t m p (inl (once h)) = under_8 h
  to_file t m p (inr (inl (once h))) = OfFile.oversize h
  to_file t m p (inr (inr (inl (once h)))) = other_length h
  to_file t m p (inr (inr (inr r))) = OfFile.block r

  of_file : (t : List ℕ) (m p : ℕ) → OfFile f t m p → Either Short (Either Long (Either Misfit Inside)) t m p
  of_file t m p (under_8 h) = inl (once h)
  of_file t m p (OfFile.oversize h) = inr (inl (once h))
  of_file t m p (other_length h) = inr (inr (inl (once h)))
  of_file t m p (OfFile.block r) = inr (inr (inr r))

  inside_later : {P : Type 0} {i m p : ℕ} → Precedes (Once P (0 ∷ i ∷ []) m p) Inside
  inside_later = by_turns 0 0 1 6 (omega arith) once_from (λ t m p r. block_from r)

  step_later : {P Q : Type 0} {i j m p n q : ℕ} → i < j → Precedes (Once P (0 ∷ i ∷ []) m p) (Once Q (0 ∷ j ∷ []) n q)
  step_later h t u m p n q (once x) (once y) = inl (further (here h))

  module _ (long : 8 ≤ length f) where
    first_size_lem : first_size f ≡ four_bytes f 0
    first_size_lem = four_at f 0 (omega arith)

    second_size_lem : second_size f ≡ four_bytes f 4
    second_size_lem = four_at f 4 (omega arith)

    inside_told : Told Inside (block_notes (take (first_size f) (drop 8 f)) (drop (8 + first_size f) f))
    inside_told = rw first_size_lem (block_told (file_descriptor f) (file_data f))

    misfit_told : Told Misfit (reject misfits 19 0)
    misfit_told =
        reject_told misfits 19 0
        (λ h e. eqb-false (length f) (8 + first_size f + second_size f) (not-true _ h) (omega (arith, first_size_lem, second_size_lem)))
        (λ h n. n (omega (arith, first_size_lem, second_size_lem, eqb-true (length f) (8 + first_size f + second_size f) (not-false _ h))))

    sizes_told : Told (Either Long (Either Misfit Inside)) (reject too_long 1 0 >> (reject misfits 19 0 >> block_notes (take (first_size f) (drop 8 f)) (drop (8 + first_size f) f)))
    sizes_told =
        told_after (reject too_long 1 0) (reject misfits 19 0 >> block_notes (take (first_size f) (drop 8 f)) (drop (8 + first_size f) f))
        (precedes_either (step_later (omega arith)) inside_later) (reject_told too_long 1 0 (λ h. rw (← first_size_lem, ← second_size_lem) (either_over max_descriptor (first_size f) max_data (second_size f) h)) (λ h x. neither_over max_descriptor (first_size f) max_data (second_size f) h (rw (first_size_lem, second_size_lem) x)))
        (told_after (reject misfits 19 0) (block_notes (take (first_size f) (drop 8 f)) (drop (8 + first_size f) f)) inside_later misfit_told inside_told)

  -- The file's reasons tell what is printed.
  pub file_told : Told (OfFile f) file_notes
  file_told =
      told_as to_file of_file
      (told_tested (ltb (length f) 8) 19 0 (precedes_either (step_later (omega arith)) (precedes_either (step_later (omega arith)) inside_later))
      (λ h. ltb-true (length f) 8 h) (λ h l. (let z : ⊥ = omega (arith, ltb-false (length f) 8 h) in z)) (λ h. sizes_told (ltb-false (length f) 8 h)))

  -- what is listed is the walk over the file's descriptor and data
  pub file_listed : (ns : List Note) → file_notes ≡ ok ns → (walk_by (unfolded (file_descriptor f)) (repeated (file_descriptor f)) (file_data f) ≡ ok ns) × (length (file_data f) ≡ second_size f)
  unfolding block_notes
  file_listed ns e =
      let (a, b) = ok_reject (ltb (length f) 8) 19 0 _ ns e in
      let (_, c) = ok_reject too_long 1 0 _ ns b in
      let (g, h) = ok_reject misfits 19 0 _ ns c in
      let i : first_size f ≡ four_bytes f 0 = first_size_lem (ltb-false (length f) 8 a) in
      let (_, k) = ok_reject (oversize (file_descriptor f) (file_data f)) 1 0 _ ns (rw i at h) in
      let (_, _, l) = ok_bind (check (file_descriptor f)) (λ n. walk_by (unfolded (file_descriptor f)) (repeated (file_descriptor f)) (file_data f)) ns k in
      let m : length f ≡ 8 + first_size f + second_size f = eqb-true (length f) (8 + first_size f + second_size f) (not-false _ g) in
      (l, omega (arith, length-drop (8 + four_bytes f 0) f))
