-- Bytes put into a text one run behind the other, and the ways through the functions that put them.
-- Assumes nothing.
use mathlib.Core.Path.{◌≡◌, refl, sym, ap, ◌∙◌}
use Prim.Native.Nat.{ℕ, ◌+◌, ◌-◌, ◌/◌, ◌%◌, ◌<◌, ◌≤◌}
use native.Mathlib.Omega.{arith}
use mathlib.Core.List.{List, [], ◌∷◌, ◌++◌, append_assoc}
use lib.ListN.{take, drop, length, length-append}
use lib.Seq.{sets, sets-eq, length-sets}
use Rattle.std.proofs.lemmas.List.Edits.{paste_all}
use Rattle.std.proofs.lemmas.Slice.{put_mid-paste}
use borrow.Rule.Slice.PartMut.{put_mid}
use Rattle.fdoca.specs.Dump.{decimal}
use Rattle.plans.proofs.Lists.{sets_append}
use Rattle.listing.specs.declared.Text.{Text}
use Rattle.listing.specs.Put.{HasRoom, Put}
use Rattle.listing.proofs.Decimal.{one_digit, more_digits, more_long, few_digits}

-- two runs, one behind the other, are one
pub both : {t u v : Text} {xs ys : List ℕ} → Put t u xs → Put u v ys → Put t v (xs ++ ys)
both {t} {u} {v} {xs} {ys} p q =
    record {
      same_reference = q.same_reference ∙ p.same_reference;
      same_length = q.same_length ∙ p.same_length;
      text = q.text ∙ ap (λ l. sets l u.len ys) p.text ∙ ap (λ i. sets (sets t.bytes.now t.len xs) i ys) p.place ∙ sets_append t.bytes.now xs ys t.len;
      place = omega (arith, q.place, p.place, length-append xs ys);
    }

-- ---- `word`

pub word_put : (t t' : Text) (v word : List ℕ) → t.len + length word ≤ length t.bytes.now → v ≡ word → t'.bytes.ghost_name ≡ t.bytes.ghost_name
    → t'.bytes.now ≡ put_mid t.len (t.len + length word - t.len) t.bytes.now v → t'.len ≡ t.len + length word → Put t t' word
word_put t t' v word h e g q l =
    let w : t'.bytes.now ≡ sets t.bytes.now t.len word =
    q
    ∙ put_mid-paste t.len (t.len + length word - t.len) t.bytes.now v word (length word) (e ∙ refl) (omega arith) refl
    ∙ paste_all t.bytes.now t.len word (length word) refl
    ∙ sym (append_assoc (take t.len t.bytes.now) word (drop (t.len + length word) t.bytes.now))
    ∙ sym (sets-eq word t.bytes.now t.len h) in
    record { same_reference = g; same_length = ap length w ∙ length-sets t.bytes.now t.len word; text = w; place = l }

-- ---- `number`

module _ (t : Text) (n : ℕ) (room : HasRoom t (length (decimal n))) where
  pub digit_room : n < 10 → HasRoom t 1
  digit_room h = let e : length (decimal n) ≡ 1 = ap length (one_digit n h) in omega arith

  pub tens_room : 10 ≤ n → HasRoom t (length (decimal (n / 10)))
  tens_room h = omega (arith, more_long n h)

  pub last_room : (u : Text) → 10 ≤ n → Put t u (decimal (n / 10)) → HasRoom u 1
  last_room u h p = omega (arith, more_long n h, p.place, p.same_length)

pub digit_put : (t t' : Text) (n : ℕ) → n < 10 → Put t t' ((48 + n) ∷ []) → Put t t' (decimal n)
digit_put t t' n h p = rw (one_digit n h) p

pub digits_put : (t u t' : Text) (n : ℕ) → 10 ≤ n → Put t u (decimal (n / 10)) → Put u t' ((48 + n % 10) ∷ []) → Put t t' (decimal n)
digits_put t u t' n h p q = rw (more_digits n h) (both p q)

-- ---- `field`

module _ (t u : Text) (n : ℕ) (p : Put t u (decimal n)) where
  pub field_room : n < 4294967296 → HasRoom t 11 → HasRoom u 1
  field_room h l = omega (arith, p.place, p.same_length, few_digits 9 n (omega arith))

  pub field_put : (t' : Text) (x : ℕ) → Put u t' (x ∷ []) → Put t t' (decimal n ++ (x ∷ []))
  field_put t' x q = both p q

  pub field_long : (t' : Text) (x : ℕ) → n < 4294967296 → Put u t' (x ∷ []) → t'.len ≤ t.len + 11
  field_long t' x h q = omega (arith, p.place, q.place, few_digits 9 n (omega arith))

pub number_room : (t : Text) (n : ℕ) → n < 4294967296 → HasRoom t 11 → HasRoom t (length (decimal n))
number_room t n h l = omega (arith, few_digits 9 n (omega arith))
