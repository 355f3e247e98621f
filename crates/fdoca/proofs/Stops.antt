-- Where the walk stops: exactly at the first item that the data cuts short or spoils, or at the bytes that are left.
-- Assumes nothing.
use mathlib.Core.Path.{◌≡◌, refl, ap}
use mathlib.Core.Logic.{◌↔◌}
use Prim.Native.Nat.{ℕ, ◌+◌, ◌≤◌, ◌<◌}
use native.Mathlib.Omega.{arith}
use mathlib.Core.Bool.{Bool, true, false}
use mathlib.Core.List.{List, [], ◌∷◌, ◌++◌}
use lib.Dec.{ltb}
use lib.ListN.{length, drop}
use borrow.Author.Tests.{ltb-true, lt-ltb}
use Rattle.fdoca.specs.Basics.{Result, refuse, ok, ◌>>=◌, ◌>>◌, reject}
use Rattle.fdoca.specs.Item.{Field, field_length, Measured, refused, item, measure}
use Rattle.fdoca.specs.FieldType.{rule_of, nullable}
use Rattle.fdoca.specs.Walk.{Note, item_length, Cut, note_of, with, cut_from, walk}
use Rattle.fdoca.proofs.Outcomes.{of_item}
use Rattle.fdoca.proofs.Cover.{cut_append}

-- The cut of fs from s at p stops with the number n at the place q: the items of the fields before are good, and the next bytes are no item.
pub record StopsAt (p : ℕ) (fs : List Field) (s : List ℕ) (n q : ℕ) : Type 0 where
  pub before : List Field
  pub field : Field
  pub after : List Field
  pub fields : fs ≡ before ++ (field ∷ after)
  pub good : Cut
  pub cut : cut_from p before s ≡ ok good
  pub place : q ≡ good.end
  pub reason : measure field good.rest ≡ refused n

abbrev pub Stops : ℕ → List Field → List ℕ → Result Cut → Type 0
Stops p fs s (refuse n q) = StopsAt p fs s n q
Stops p fs s (ok c) = Unit {0}

stops_first : (p : ℕ) (f : Field) (fs : List Field) (s : List ℕ) (n : ℕ) → measure f s ≡ refused n → StopsAt p (f ∷ fs) s n p
unfolding cut_from
stops_first p f fs s n e =
    record {
      before = [];
      field = f;
      after = fs;
      fields = refl;
      good = record { notes = []; end = p; rest = s };
      cut = refl;
      place = refl;
      reason = e;
    }

stops_later : (p : ℕ) (f : Field) (fs : List Field) (s : List ℕ) (i : Note) (n q : ℕ) → note_of f p (measure f s) ≡ ok i
    → StopsAt (p + item_length i) fs (drop (item_length i) s) n q → StopsAt p (f ∷ fs) s n q
unfolding cut_from
stops_later p f fs s i n q e h =
    record {
      before = f ∷ h.before;
      field = h.field;
      after = h.after;
      fields = ap (λ x. f ∷ x) h.fields;
      good = with i h.good;
      cut = rw (e, h.cut);
      place = h.place;
      reason = h.reason;
    }

pub stops : (p : ℕ) (fs : List Field) (s : List ℕ) → Stops p fs s (cut_from p fs s)
unfolding cut_from note_of
stops p [] s = tt
stops p (f ∷ fs) s = go (measure f s) refl (λ q t. stops q fs t)
  where
    rest : (i : Note) (r : Result Cut) → note_of f p (measure f s) ≡ ok i → Stops (p + item_length i) fs (drop (item_length i) s) r
        → Stops p (f ∷ fs) s (r >>= (λ c. ok (with i c)))
    rest i (refuse n q) e h = stops_later p f fs s i n q e h
    rest i (ok c) e h = tt

    go : (m : Measured) → measure f s ≡ m → ((q : ℕ) (t : List ℕ) → Stops q fs t (cut_from q fs t))
        → Stops p (f ∷ fs) s (note_of f p m >>= (λ i. cut_from (p + item_length i) fs (drop (item_length i) s) >>= (λ c. ok (with i c))))
    go (refused n) e ih = stops_first p f fs s n e
    go (item z l v r) e ih = rest i (cut_from (p + item_length i) fs (drop (item_length i) s)) (ap (note_of f p) e) (ih (p + item_length i) (drop (item_length i) s))
      where
        i : Note
        i = record { start = p; field = f; is_null = z; lead = l; value = v; spare = r }

stops_back : (p : ℕ) (fs : List Field) (s : List ℕ) (n q : ℕ) → StopsAt p fs s n q → cut_from p fs s ≡ refuse n q
unfolding cut_from note_of
stops_back p fs s n q h =
    rw (h.fields, cut_append p h.before (h.field ∷ h.after) s, h.cut, h.reason, h.place)

-- Why the walk stops: at an item, or since bytes are left after the last field.
pub data Stopped (fs : List Field) (s : List ℕ) : ℕ → ℕ → Type 0 where
  at_item : {n q : ℕ} → StopsAt 0 fs s n q → Stopped fs s n q
  surplus : (c : Cut) → cut_from 0 fs s ≡ ok c → 0 < length c.rest → Stopped fs s 16 c.end

stopped_walk : (fs : List Field) (s : List ℕ) (n q : ℕ) → Stopped fs s n q → walk fs s ≡ refuse n q
unfolding walk
stopped_walk fs s n q (at_item h) = rw (stops_back 0 fs s n q h)
stopped_walk fs s n q (surplus c h k) = rw (h, lt-ltb 0 (length c.rest) k)

module _ (fs : List Field) (s : List ℕ) (n q : ℕ) where
  walk_stopped : walk fs s ≡ refuse n q → Stopped fs s n q
  unfolding walk
  walk_stopped e = go (cut_from 0 fs s) refl (stops 0 fs s) e
    where
      left : (c : Cut) (b : Bool) → cut_from 0 fs s ≡ ok c → ltb 0 (length c.rest) ≡ b → (reject b 16 c.end >> ok c.notes) ≡ refuse n q
          → Stopped fs s n q
      left c true h t e =
          let a : n ≡ 16 = cc in
          let b : q ≡ c.end = cc in
          rw (a, b) (surplus c h (ltb-true 0 (length c.rest) t))
      left c false h t e = absurd (let z : ◌≡◌ {A = ℕ} 0 1 = cc in let w : ⊥ = omega arith in w)

      go : (r : Result Cut) → cut_from 0 fs s ≡ r → Stops 0 fs s r
          → (r >>= (λ c. reject (ltb 0 (length c.rest)) 16 c.end >> ok c.notes)) ≡ refuse n q → Stopped fs s n q
      go (refuse m p) h k e =
          let a : n ≡ m = cc in
          let b : q ≡ p = cc in
          rw (a, b) (at_item k)
      go (ok c) h k e = left c (ltb 0 (length c.rest)) h refl e

  -- The walk stops with a number at a place exactly where an item is cut short or spoiled there, those before it being good, or bytes are left.
  pub walk_stops : (walk fs s ≡ refuse n q) ↔ Stopped fs s n q
  walk_stops = (λ e. walk_stopped e, λ h. stopped_walk fs s n q h)

-- a refusal of the walk has a number from 13 on
abbrev From13 : Measured → Type 0
From13 (refused n) = 13 ≤ n
From13 (item z p v r) = Unit {0}

item_number : (f : Field) (s : List ℕ) → From13 (measure f s)
unfolding measure
item_number f s =
    of_item s From13 (record { short = omega arith; count = omega arith; no_end = omega arith; found = λ z p v r h. tt }) (omega arith)
    (nullable f.code) (rule_of f.type).layout f.mode (field_length f)

pub walk_number : (fs : List Field) (s : List ℕ) (n q : ℕ) → walk fs s ≡ refuse n q → 13 ≤ n
walk_number fs s n q e = go (walk_stopped fs s n q e)
  where
    go : {n q : ℕ} → Stopped fs s n q → 13 ≤ n
    go (at_item h) = rw h.reason at (item_number h.field h.good.rest)
    go (surplus c h k) = omega arith
