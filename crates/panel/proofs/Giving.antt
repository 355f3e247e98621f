-- What is handed to a C caller part by part is the call's answer.
-- Assumes nothing.
use Rattle.std.specs.Prelude as code
use Rattle.std.specs.Prelude.{Some, Ok, Err, IfOk, if◌then◌else◌}
use Rattle.std.specs.Result.{result_unwrap_or}
use Rattle.std.specs.Option.{is_some, unwrap_or}
use Prim.Native.Nat.{ℕ, ◌+◌, ◌≤◌}
use native.Mathlib.Omega.{arith}
use mathlib.Core.Path.{◌≡◌, ◌∙◌, refl, sym, ap}
use mathlib.Core.Bool.{Bool, true, false, not, true≢false}
use mathlib.Core.Option.{Option, some}
use mathlib.Core.List.{List}
use lib.IntN.{ℤ, pos}
use lib.Ieee.{Float}
use lib.ListN.{length}
use mir.Syntax.{w64}
use mir.Val.{SFits, bool_byte, of_z, to_z}
use mir.Facts.{to_z-of_z}
use Rattle.fdoca.specs.declared.Refusal.{Refusal}
use Rattle.fdoca.specs.declared.State.{State}
use Rattle.fdoca.specs.declared.Decimal.{Decimal}
use Rattle.fdoca.specs.declared.Value.{Value}
use Rattle.fdoca.specs.declared.Value.TheVariants.{Whole}
use Rattle.fdoca.specs.Basics.{Result, refuse, ok, ◌>>=◌, the}
use Rattle.fdoca.specs.Returned.{returned, answer}
use Rattle.fdoca.specs.Walk.{Note}
use Rattle.fdoca.specs.Check.{check}
use Rattle.fdoca.specs.Packed.{packed_number}
use Rattle.fdoca.specs.Calls as calls
use Rattle.fdoca.specs.Calls.{item_at, value_of, whole_of, digits_of, entries_after, number_given, place_given, state_by, state_of, unless_null, whole_answer, decimal_answer}
use Rattle.fdoca.proofs.Results.{ok_bind}
use Rattle.fdoca.proofs.Demands.{check_returned, list_returned, state_returned, whole_returned, packed_returned, value_returned}
use Rattle.blocks.specs.declared.Lent.{Lent}
use Rattle.blocks.specs.Answers.{ListedAs}
use Rattle.blocks.specs.Lending.{lent_at}
use Rattle.panel.specs.Given.{given, CheckGiven, ListGiven, mark, StateGiven, LentGiven, WholeGiven, PackedGiven, kind_of, whole_in, real_in, ValueGiven}

-- what is told of a call that returned r
abbrev Told : {B : Type 0} → code.Result B Refusal → ℕ → ℕ → Type 0
Told r n p = (n ≡ number_given (answer r)) × (p ≡ place_given (answer r))

itself : {A : Type 0} (x : Result A) → returned x ≡ returned (x >>= (λ a. ok a))
itself (refuse n p) = refl
itself (ok a) = refl

module _ {A B : Type 0} (x : Result A) (f : A → B) (r : code.Result B Refusal) (e : r ≡ returned (x >>= (λ a. ok (f a)))) where
  -- the number and the place
  numbers : answer (returned x) ≡ x → (n p : ℕ) → Told r n p → (n ≡ number_given x) × (p ≡ place_given x)
  numbers again n p t =
      let (a, b) = go x again in
      (t.0 ∙ ap (λ (r : code.Result B Refusal). number_given (answer r)) e ∙ a, t.1 ∙ ap (λ (r : code.Result B Refusal). place_given (answer r)) e ∙ b)
    where
      go : (x : Result A) → answer (returned x) ≡ x
          → (number_given (answer (returned (x >>= (λ a. ok (f a))))) ≡ number_given x) × (place_given (answer (returned (x >>= (λ a. ok (f a))))) ≡ place_given x)
      go (refuse n p) h = (ap (λ (x : Result A). number_given x) h, refl)
      go (ok a) h = (refl, refl)

  -- a part of what is given
  part : {C : Type 0} (d y : B) (zero : C) (g : A → C) (h : B → C) → y ≡ result_unwrap_or r d → h d ≡ zero → ((a : A) → x ≡ ok a → h (f a) ≡ g a) → h y ≡ given zero g x
  part {C} d y zero g h q none same = ap h (q ∙ ap (λ (r : code.Result B Refusal). result_unwrap_or r d) e) ∙ go x same
    where
      go : (x : Result A) → ((a : A) → x ≡ ok a → h (f a) ≡ g a) → h (result_unwrap_or (returned (x >>= (λ a. ok (f a)))) d) ≡ given zero g x
      go (refuse n p) same = none
      go (ok a) same = same a refl

-- the parts make up what is given, of a refusal as of an answer
module _ {n p : ℕ} where
  check_parts : {i : ℕ} (x : Result ℕ) → n ≡ number_given x → p ≡ place_given x → i ≡ given 0 (λ n. n) x → CheckGiven x n p i
  check_parts (refuse m q) a b c = record { returned = a; placed = b; counted = c }
  check_parts (ok y) a b c = record { returned = a; placed = b; counted = c }

  list_parts : {old new : List ℕ} (x : Result (List ℕ)) → n ≡ number_given x → p ≡ place_given x → new ≡ entries_after old x → ListGiven x old n p new
  list_parts (refuse m q) a b c = record { returned = a; placed = b; entries = c }
  list_parts (ok y) a b c = record { returned = a; placed = b; entries = c }

  state_parts : {m c l v s : ℕ} (x : Result Note) → n ≡ number_given x → p ≡ place_given x → m ≡ given 0 (λ i. mark i.is_null) x → c ≡ given 0 (λ i. i.field.code) x → l ≡ given 0 (λ i. i.lead) x → v ≡ given 0 (λ i. i.value) x → s ≡ given 0 (λ i. i.spare) x → StateGiven x n p m c l v s
  state_parts (refuse m q) a b c d e f g = record { returned = a; placed = b; marked = c; coded = d; led = e; sized = f; spared = g }
  state_parts (ok y) a b c d e f g = record { returned = a; placed = b; marked = c; coded = d; led = e; sized = f; spared = g }

  whole_parts : {m : ℕ} {z : ℤ} (x : Result (Bool × ℤ)) → n ≡ number_given x → p ≡ place_given x → m ≡ given 0 (λ v. mark v.0) x → z ≡ given (pos 0) (λ v. v.1) x → WholeGiven x n p m z
  whole_parts (refuse m q) a b c d = record { returned = a; placed = b; marked = c; read = d }
  whole_parts (ok y) a b c d = record { returned = a; placed = b; marked = c; read = d }

  packed_parts : {m f : ℕ} {z : ℤ} (x : Result (Bool × ℤ × ℕ)) → n ≡ number_given x → p ≡ place_given x → m ≡ given 0 (λ v. mark v.0) x → z ≡ given (pos 0) (λ v. v.1) x → f ≡ given 0 (λ v. v.2) x → PackedGiven x n p m z f
  packed_parts (refuse m q) a b c d e = record { returned = a; placed = b; marked = c; read = d; behind_the_point = e }
  packed_parts (ok y) a b c d e = record { returned = a; placed = b; marked = c; read = d; behind_the_point = e }

  value_parts : {kind : ℕ} {whole : ℤ} {real : Float} (x : Result Value) → n ≡ number_given x → p ≡ place_given x → kind ≡ kind_of (given (Whole (pos 0)) (λ v. v) x) → whole ≡ whole_in (given (Whole (pos 0)) (λ v. v) x) → real ≡ real_in (given (Whole (pos 0)) (λ v. v) x) → ValueGiven x n p kind whole real
  value_parts (refuse m q) a b c d e = record { returned = a; placed = b; of_kind = c; of_whole = d; of_real = e }
  value_parts (ok y) a b c d e = record { returned = a; placed = b; of_kind = c; of_whole = d; of_real = e }

as_number : (t : Bool) → bool_byte t ≡ mark t
as_number true = refl
as_number false = refl

-- a null has no number, and its number is 0
module _ (w : code.Option ℤ) (b : Bool) (q : is_some w ≡ not b) where
  null_mark : bool_byte b ≡ bool_byte (not (is_some w))
  null_mark = go b q
    where
      go : (b : Bool) → is_some w ≡ not b → bool_byte b ≡ bool_byte (not (is_some w))
      go true e = rw e
      go false e = rw e

marked_null : (null : Bool) (z : ℤ) → bool_byte (not (is_some (unless_null null z))) ≡ mark null
marked_null true z = refl
marked_null false z = refl

number_or_0 : (null : Bool) (z : ℤ) → (null ≡ true → z ≡ pos 0) → unwrap_or (unless_null null z) (pos 0) ≡ z
number_or_0 true z h = sym (h refl)
number_or_0 false z h = refl

whole_null : (d s : List ℕ) (k : ℕ) (v : Bool × ℤ) → calls.whole_number d s k ≡ ok v → v.0 ≡ true → v.1 ≡ pos 0
unfolding calls.whole_number
whole_null d s k v e n =
    let (i, _, a) = ok_bind (item_at d s k) _ v e in
    let (z, _, b) = ok_bind (the (whole_of i.field.type (value_of s i)) 18 i.start) _ v a in
    go i.is_null z b
  where
    go : (null : Bool) (z : ℤ) → ok (null, if null then pos 0 else z) ≡ ok v → v.1 ≡ pos 0
    go true z b = let q : ◌≡◌ {A = Bool × ℤ} (true, pos 0) v = cc in sym (ap (λ (v : Bool × ℤ). v.1) q)
    go false z b = absurd (let q : ◌≡◌ {A = Bool × ℤ} (false, z) v = cc in true≢false (sym n ∙ sym (ap (λ (v : Bool × ℤ). v.0) q)))

packed_null : (d s : List ℕ) (k : ℕ) (v : Bool × ℤ × ℕ) → calls.packed d s k ≡ ok v → v.0 ≡ true → v.1 ≡ pos 0
unfolding calls.packed
packed_null d s k v e n =
    let (i, _, a) = ok_bind (item_at d s k) _ v e in
    let (p, _, b) = ok_bind (the (digits_of i.field.size) 18 i.start) _ v a in
    let (z, o, c) = ok_bind (the (if i.is_null then some (pos 0) else packed_number p.0 (value_of s i)) 20 i.start) _ v b in
    let q : ◌≡◌ {A = Bool × ℤ × ℕ} (i.is_null, z, p.1) v = cc in
    let m : i.is_null ≡ true = ap (λ (v : Bool × ℤ × ℕ). v.0) q ∙ n in
    sym (ap (λ (v : Bool × ℤ × ℕ). v.1) q) ∙ go i.is_null (packed_number p.0 (value_of s i)) i.start z m o
  where
    go : (null : Bool) (o : Option ℤ) (q : ℕ) (z : ℤ) → null ≡ true → the (if null then some (pos 0) else o) 20 q ≡ ok z → z ≡ pos 0
    go true o q z n h = cc
    go false o q z n h = absurd (true≢false (sym n))

-- ---- the calls

pub check_given : (d : List ℕ) (r : code.Result ℕ Refusal) (n p i : ℕ) → r ≡ returned (check d) → Told r n p → i ≡ result_unwrap_or r 0 → CheckGiven (check d) n p i
check_given d r n p i e t u =
    let k = e ∙ itself (check d) in
    let m = numbers (check d) (λ a. a) r k (check_returned d) n p t in
    check_parts (check d) m.0 m.1 (part (check d) (λ a. a) r k 0 i 0 (λ n. n) (λ n. n) u refl (λ a h. refl))

pub list_given : (d s old new : List ℕ) (r : code.Result (Unit {0}) Refusal) (n p : ℕ) → ListedAs (calls.list d s old) old r new → Told r n p
    → ListGiven (calls.list d s old) old n p new
list_given d s old new r n p l t =
    let m = numbers (calls.list d s old) (λ l. tt) r l.answered (list_returned d s old) n p t in
    list_parts (calls.list d s old) m.0 m.1 l.entries

module _ (d s : List ℕ) (k : ℕ) where
  abbrev x : Result Note
  x = item_at d s k

  pub state_given : (r : code.Result State Refusal) (n p m c : ℕ) (y : State) → r ≡ state_of x → Told r n p
      → y ≡ result_unwrap_or r (record { null = false; code = 0; lead = 0; value = 0; spare = 0 }) → m ≡ bool_byte y.null → c ≡ y.code → StateGiven x n p m c y.lead y.value y.spare
  state_given r n p m c y e t u a b =
      let z : State = record { null = false; code = 0; lead = 0; value = 0; spare = 0 } in
      let o = numbers x state_by r e (state_returned d s k) n p t in
      state_parts x o.0 o.1
      (a ∙ part x state_by r e z y 0 (λ i. mark i.is_null) (λ y. bool_byte y.null) u refl (λ i h. as_number i.is_null))
      (b ∙ part x state_by r e z y 0 (λ i. i.field.code) (λ y. y.code) u refl (λ i h. refl))
      (part x state_by r e z y 0 (λ i. i.lead) (λ y. y.lead) u refl (λ i h. refl))
      (part x state_by r e z y 0 (λ i. i.value) (λ y. y.value) u refl (λ i h. refl))
      (part x state_by r e z y 0 (λ i. i.spare) (λ y. y.spare) u refl (λ i h. refl))

  pub lent_given : (r : code.Result Lent Refusal) (n p : ℕ) (y : Lent) → r ≡ lent_at x → IfOk r (λ l. l.offset + l.length ≤ length s) → Told r n p
      → y ≡ result_unwrap_or r (record { offset = 0; length = 0 }) → LentGiven x s n p y.offset y.length
  lent_given r n p y e w t u =
      let z : Lent = record { offset = 0; length = 0 } in
      let f : Note → Lent = λ i. record { offset = i.start + i.lead; length = i.value } in
      let o = numbers x f r e (state_returned d s k) n p t in
      record {
        returned = o.0;
        placed = o.1;
        begins = part x f r e z y 0 (λ i. i.start + i.lead) (λ y. y.offset) u refl (λ i h. refl);
        sized = part x f r e z y 0 (λ i. i.value) (λ y. y.length) u refl (λ i h. refl);
        within = rw u (go r w);
      }
    where
      go : (r : code.Result Lent Refusal) → IfOk r (λ l. l.offset + l.length ≤ length s)
          → (result_unwrap_or r (record { offset = 0; length = 0 })).offset + (result_unwrap_or r (record { offset = 0; length = 0 })).length ≤ length s
      go (Ok l) w = w
      go (Err e) w = omega arith

  pub whole_given : (r : code.Result (code.Option ℤ) Refusal) (n p m : ℕ) (w : code.Option ℤ) (b : Bool) (z : ℤ) → r ≡ whole_answer (calls.whole_number d s k) → Told r n p
      → w ≡ result_unwrap_or r (Some (pos 0)) → is_some w ≡ not b → m ≡ bool_byte b → z ≡ unwrap_or w (pos 0) → SFits w64 z
      → WholeGiven (calls.whole_number d s k) n p m (to_z w64 (of_z w64 z))
  whole_given r n p m w b z e t u q a v fits =
      let x : Result (Bool × ℤ) = calls.whole_number d s k in
      let f : Bool × ℤ → code.Option ℤ = λ v. unless_null v.0 v.1 in
      let o = numbers x f r e (whole_returned d s k) n p t in
      whole_parts x o.0 o.1
      (a ∙ null_mark w b q ∙ part x f r e (Some (pos 0)) w 0 (λ v. mark v.0) (λ w. bool_byte (not (is_some w))) u refl (λ v h. marked_null v.0 v.1))
      (to_z-of_z fits ∙ v ∙ part x f r e (Some (pos 0)) w (pos 0) (λ v. v.1) (λ w. unwrap_or w (pos 0)) u refl (λ v h. number_or_0 v.0 v.1 (whole_null d s k v h)))

  pub packed_given : (r : code.Result Decimal Refusal) (n p m c : ℕ) (y : Decimal) (b : Bool) (z : ℤ) → r ≡ decimal_answer (calls.packed d s k) → Told r n p
      → y ≡ result_unwrap_or r (record { value = Some (pos 0); fraction = 0 }) → is_some y.value ≡ not b → m ≡ bool_byte b → z ≡ unwrap_or y.value (pos 0) → c ≡ y.fraction → SFits w64 z
      → PackedGiven (calls.packed d s k) n p m (to_z w64 (of_z w64 z)) c
  packed_given r n p m c y b z e t u q a v g fits =
      let x : Result (Bool × ℤ × ℕ) = calls.packed d s k in
      let f : Bool × ℤ × ℕ → Decimal = λ v. record { value = unless_null v.0 v.1; fraction = v.2 } in
      let o : Decimal = record { value = Some (pos 0); fraction = 0 } in
      let j = numbers x f r e (packed_returned d s k) n p t in
      packed_parts x j.0 j.1
      (a ∙ null_mark y.value b q ∙ part x f r e o y 0 (λ v. mark v.0) (λ y. bool_byte (not (is_some y.value))) u refl (λ v h. marked_null v.0 v.1))
      (to_z-of_z fits ∙ v ∙ part x f r e o y (pos 0) (λ v. v.1) (λ y. unwrap_or y.value (pos 0)) u refl (λ v h. number_or_0 v.0 v.1 (packed_null d s k v h)))
      (g ∙ part x f r e o y 0 (λ v. v.2) (λ y. y.fraction) u refl (λ v h. refl))

  pub value_given : (r : code.Result Value Refusal) (n p kind : ℕ) (whole : ℤ) (real : Float) (y : Value) → r ≡ returned (calls.value d s k) → Told r n p
      → y ≡ result_unwrap_or r (Whole (pos 0)) → kind ≡ kind_of y → whole ≡ whole_in y → real ≡ real_in y → SFits w64 whole
      → ValueGiven (calls.value d s k) n p kind (to_z w64 (of_z w64 whole)) real
  value_given r n p kind whole real y e t u a b c fits =
      let x : Result Value = calls.value d s k in
      let q = e ∙ itself x in
      let o = numbers x (λ v. v) r q (value_returned d s k) n p t in
      let same : y ≡ given (Whole (pos 0)) (λ v. v) x = part x (λ v. v) r q (Whole (pos 0)) y (Whole (pos 0)) (λ v. v) (λ v. v) u refl (λ v h. refl) in
      value_parts x o.0 o.1 (a ∙ ap kind_of same) (to_z-of_z fits ∙ b ∙ ap whole_in same) (c ∙ ap real_in same)
