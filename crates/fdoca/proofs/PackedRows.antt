-- The read of a packed item refuses for the first reason in order, 18 and then 20, and accepts where there is none.
-- Assumes nothing.
use mathlib.Core.Path.{◌≡◌, refl}
use mathlib.Core.Logic.{inl, inr}
use Prim.Native.Nat.{ℕ}
use native.Mathlib.Omega.{arith}
use mathlib.Core.Bool.{Bool}
use mathlib.Core.List.{List}
use mathlib.Core.Option.{Option, none, some}
use lib.IntN.{ℤ, pos}
use Rattle.fdoca.specs.Basics.{Result, ok, ◌>>=◌}
use Rattle.fdoca.specs.FieldType.{packed_decimal, Size, bytes, digits}
use Rattle.fdoca.specs.Item.{Field}
use Rattle.fdoca.specs.Walk.{Note}
use Rattle.fdoca.specs.Packed.{packed_number}
use Rattle.fdoca.specs.Calls.{digits_of, packed}
use Rattle.fdoca.specs.Reasons.{HasType, OfState, BadDigit, OfPacked, state, wrong_kind, bad_digit}
use Rattle.fdoca.proofs.Fields.{GoodField, digits_packed, packed_digits}
use Rattle.fdoca.proofs.ItemRows.{type_is, has_type}
use Rattle.fdoca.proofs.Packed as P
use Rattle.fdoca.proofs.FirstReasons.{Told, Either, told_as}
use Rattle.fdoca.proofs.CallRows.{told_made}
use Rattle.fdoca.proofs.ReadRows as read

abbrev kind_of : Field → Option (ℕ × ℕ)
kind_of f = digits_of f.size

abbrev read_of : ℕ × ℕ → List ℕ → Option ℤ
read_of p v = packed_number p.0 v

abbrev Wrong : Field → Type 0
Wrong f = HasType f 0x30 → ⊥

record Bad (f : Field) (v : List ℕ) : Type 0 where
  p : ℕ
  fraction : ℕ
  sized : f.size ≡ digits p fraction
  bad : BadDigit p v

none_wrong : (f : Field) → GoodField f → kind_of f ≡ none → Wrong f
none_wrong f g = go f.size refl
  where
    go : (z : Size) → f.size ≡ z → digits_of z ≡ none → Wrong f
    go (bytes F) h n t = packed_digits f g (type_is f g.typed 0x30 packed_decimal (omega arith) refl t) F h
    go (digits p q) h n t = let z : ◌≡◌ {A = ℕ} 0 1 = cc in omega arith

is_sized : (z : Size) (r : ℕ × ℕ) → digits_of z ≡ some r → z ≡ digits r.0 r.1
is_sized (bytes F) r h = absurd (let z : ◌≡◌ {A = ℕ} 0 1 = cc in let w : ⊥ = omega arith in w)
is_sized (digits a b) r h = let q : (a, b) ≡ r = cc in rw (← q)

some_right : (f : Field) → GoodField f → (r : ℕ × ℕ) → kind_of f ≡ some r → Wrong f → ⊥
some_right f g r h w = w (rw (digits_packed f g r.0 r.1 (is_sized f.size r h)) at (has_type f g.typed))

none_bad : (f : Field) → GoodField f → (r : ℕ × ℕ) → kind_of f ≡ some r → (v : List ℕ) → read_of r v ≡ none → Bad f v
none_bad f g r h v n = record { p = r.0; fraction = r.1; sized = is_sized f.size r h; bad = P.none_bad r.0 v n }

some_good : (f : Field) → GoodField f → (r : ℕ × ℕ) → kind_of f ≡ some r → (v : List ℕ) (a : ℤ) → read_of r v ≡ some a → Bad f v → ⊥
some_good f g r h v a e b =
    let s = is_sized f.size r h in
    let t = b.sized in
    let q : b.p ≡ r.0 = cc in
    P.some_good r.0 v a e (rw q at b.bad)

module _ (d s : List ℕ) (k : ℕ) where
  abbrev OfKind : List ℕ → ℕ → ℕ → Type 0
  OfKind = read.OfKind 20 (pos 0) kind_of read_of Wrong Bad none_wrong some_right none_bad some_good d s k

  abbrev OfBytes : List ℕ → ℕ → ℕ → Type 0
  OfBytes = read.OfBytes 20 (pos 0) kind_of read_of Wrong Bad none_wrong some_right none_bad some_good d s k

  to_packed : (t : List ℕ) (m p : ℕ) → Either (OfState d s k) (Either OfKind OfBytes) t m p → OfPacked d s k t m p
  to_packed t m p (inl r) = state r
  to_packed t m p (inr (inl (read.another u x a))) = wrong_kind u x a
  to_packed t m p (inr (inr (read.bad u x b z w))) = bad_digit u x w.sized b z w.bad

  of_packed : (t : List ℕ) (m p : ℕ) → OfPacked d s k t m p → Either (OfState d s k) (Either OfKind OfBytes) t m p
  of_packed t m p (state r) = inl r
  of_packed t m p (wrong_kind u x a) = inr (inl (read.another u x a))
  of_packed t m p (bad_digit {p = p'} {fraction = q} u x z b n w) = inr (inr (read.bad u x b n (record { p = p'; fraction = q; sized = z; bad = w })))

  abbrev made : Note → ℕ × ℕ → Result (Bool × ℤ × ℕ)
  made i p = read.value_read 20 (pos 0) kind_of read_of Wrong Bad none_wrong some_right none_bad some_good d s k i p >>= (λ z. ok (i.is_null, z, p.1))

  pub packed_told : Told (OfPacked d s k) (packed d s k)
  unfolding packed
  packed_told =
      told_as to_packed of_packed
      (read.read_told 20 (pos 0) kind_of read_of Wrong Bad none_wrong some_right none_bad some_good d s k made
      (λ i e p h. told_made _ (λ z. (i.is_null, z, p.1)) (read.bytes_told 20 (pos 0) kind_of read_of Wrong Bad none_wrong some_right none_bad some_good d s k i e p h)))
