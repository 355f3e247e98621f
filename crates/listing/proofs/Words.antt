-- The lines, put word by word.
-- Assumes nothing.
use Rattle.std.specs.Prelude.{if◌then◌else◌}
use mathlib.Core.Path.{◌≡◌}
use Prim.Native.Nat.{ℕ, ◌<◌, ◌≤◌}
use native.Mathlib.Omega.{arith}
use mathlib.Core.Bool.{Bool, true, false}
use mathlib.Core.List.{List, [], ◌∷◌, ◌++◌}
use lib.ListN.{length, length-append}
use lib.Seq.{append_snoc}
use Rattle.fdoca.specs.Dump.{decimal, items_word, bytes_word, null_word, refused_word, refused_line}
use Rattle.fdoca.specs.Item.{item}
use Rattle.terminated.specs.declared.Measured.{Measured}
use Rattle.listing.specs.declared.Text.{Text}
use Rattle.listing.specs.Put.{Put}
use Rattle.listing.specs.Lines.{first_line, start_in, code_in, entry_line}
use Rattle.listing.proofs.Decimal.{few_digits}
use Rattle.listing.proofs.Putting.{both}

-- a word and a space, with more behind them
spaced : (xs : List ℕ) {t u v : Text} {ys : List ℕ} → Put t u (xs ++ (32 ∷ [])) → Put u v ys → Put t v (xs ++ (32 ∷ ys))
spaced xs {ys = ys} p q = rw (append_snoc xs 32 ys) at (both p q)

pub refusal_put : (t u v t' : Text) (m n p : ℕ) → m ≡ n → Put t u (refused_word ++ (32 ∷ [])) → Put u v (decimal m ++ (32 ∷ []))
    → Put v t' (decimal p ++ (10 ∷ [])) → Put t t' (refused_line n p)
unfolding refused_line
refusal_put t u v t' m n p e x y z = rw (← e) (spaced refused_word x (spaced (decimal m) y z))

pub first_put : (t u v w t' : Text) (count size : ℕ) → Put t u (items_word ++ (32 ∷ [])) → Put u v (decimal count ++ (32 ∷ []))
    → Put v w (bytes_word ++ (32 ∷ [])) → Put w t' (decimal size ++ (10 ∷ [])) → Put t t' (first_line count size)
unfolding first_line
first_put t u v w t' count size x y z l = spaced items_word x (spaced (decimal count) y (spaced bytes_word z l))

-- an item's value length, or `null`
abbrev length_or_null : Bool → ℕ → List ℕ
length_or_null null value = if null then null_word else decimal value

module _ (t t' : Text) (null : Bool) (value : ℕ) where
  pub null_put : null ≡ true → Put t t' (null_word ++ (10 ∷ [])) → Put t t' (length_or_null null value ++ (10 ∷ []))
  null_put e p = rw e p

  pub length_put : null ≡ false → Put t t' (decimal value ++ (10 ∷ [])) → Put t t' (length_or_null null value ++ (10 ∷ []))
  length_put e p = rw e p

pub item_put : (t u v w t' : Text) (k e : ℕ) (m : Measured) → Put t u (decimal k ++ (32 ∷ [])) → Put u v (decimal (start_in e) ++ (32 ∷ []))
    → Put v w (decimal (code_in e) ++ (32 ∷ [])) → Put w t' (length_or_null m.null m.value ++ (10 ∷ [])) → Put t t' (entry_line k e (item m.null m.lead m.value m.spare))
unfolding entry_line
item_put t u v w t' k e m x y z l = spaced (decimal k) x (spaced (decimal (start_in e)) y (spaced (decimal (code_in e)) z l))

-- an item's line has at most 21 bytes
value_long : (null : Bool) (value : ℕ) → value ≤ 32768 → length (length_or_null null value) ≤ 5
value_long true value h = omega arith
value_long false value h = few_digits 4 value (omega arith)

pub entry_long : (k e : ℕ) (m : Measured) → k < 4096 → start_in e ≤ 32768 → m.value ≤ 32768 → length (entry_line k e (item m.null m.lead m.value m.spare)) ≤ 21
unfolding entry_line
entry_long k e m h i j =
    let d : length (decimal k) ≤ 4 = few_digits 3 k (omega arith) in
    let f : length (decimal (start_in e)) ≤ 5 = few_digits 4 (start_in e) (omega arith) in
    let g : length (decimal (code_in e)) ≤ 3 = few_digits 2 (code_in e) (omega arith) in
    simp length-append (omega (arith, value_long m.null m.value j))
