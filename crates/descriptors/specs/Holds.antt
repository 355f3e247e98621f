-- What the check knows before each triplet, and of an accepted descriptor in the end.
use Rattle.std.specs.Prelude.{ℕ, ◌+◌, ◌-◌, ◌≤◌, ◌<◌, ◌≡◌, ◌≢◌, Bool, true, false, ◌&&◌, not, List, [], ◌∷◌, ◌++◌, length, get_or, drop, eqb, Option, Some, None, Result, Ok, Err}
use Rattle.std.proofs.Math.Option.{none, some}
use Rattle.std.proofs.Math.Option as defined_option
use Rattle.fdoca.specs.declared.Reason.{Reason}
use Rattle.fdoca.specs.declared.Refusal.{Refusal}
use Rattle.fdoca.specs.Returned.{number_of, reason_of}
use Rattle.fdoca.specs.Basics.{is_some, product, lookup, refuse, ok}
use Rattle.fdoca.specs.Basics as defined
use Rattle.fdoca.specs.Triplet.{triplets, last_place, Kind, Group, id_of, code_of, extents_of}
use Rattle.fdoca.specs.Item.{Field}
use Rattle.fdoca.specs.Check.{Entry, State, good_sda, check_sda, check_row, check_cpt, check_triplets, begin, check}
use Rattle.fdoca.specs.Unfolding.{Described, array, row, fields_of, Layouts, closed, unfold_triplets, start, unfolded, repeated, add_fields}
use Rattle.fdoca.specs.Between.{triplets_at, entries, state}
use Rattle.tables.specs.Lists.{Lists}
use Rattle.plans.specs.Tied.{described_by, kind_of, kind_at, groups_at, groups_in, Groups, Makes, SdaKept, Tied, Known, list_of}
use Rattle.rows.specs.Pass.{pass_list, PassAt, Room, TiedSome}
use Rattle.sdas.specs.Tables.{Agrees}
use Rattle.sdas.specs.Judged.{described}
use Rattle.sdas.specs.Kept.{PutSDA}
use Rattle.triplets.specs.Judged.{Agree, row_at_hand, GoodRow}
use Rattle.descriptors.specs.declared.Row.{Row}
use Rattle.descriptors.specs.declared.Step.{Step}
use Rattle.descriptors.specs.declared.Examined.{Examined}

-- A group of a row at p refers to one of the described ids ds, whose triplet stands before p.
pub record RefersIn (kind : Kind) (s : List ℕ) (ds : List (ℕ × Described)) (p : ℕ) (g : Group) : Type 0 where
  pub to : Described
  pub known : lookup g.ref ds ≡ some to
  pub back : get_or s g.ref 0 < p
  pub id_fits : g.ref < 256
  pub makes : Makes kind g to

-- The triplets at p, an RLO or a GDA with its CPTs, make the list l.
pub record RowIn (d s : List ℕ) (ds : List (ℕ × Described)) (p : ℕ) (l : List Field) : Type 0 where
  pub head : p + 3 ≤ length d
  pub fields : l ≡ add_fields (kind_at d p) ds [] (groups_at d p)
  pub groups : Groups (RefersIn (kind_at d p) s ds p) (get_or d p 0 - 3) (drop (p + 3) d)

pub record RowKeptIn (d s e : List ℕ) (ds : List (ℕ × Described)) (i : ℕ) (l : List Field) : Type 0 where
  pub unmarked : get_or e i 0 ≡ 0
  pub made : RowIn d s ds (get_or s i 0) l

abbrev pub KeptIn : (d s z e : List ℕ) → List (ℕ × Described) → ℕ → Described → Type 0
KeptIn d s z e ds i (array f xs) = SdaKept z e i f xs
KeptIn d s z e ds i (row l) = RowKeptIn d s e ds i l

-- A described id, as the tables have it before p.
pub record Placed (d s z e : List ℕ) (ds : List (ℕ × Described)) (p i : ℕ) (D : Described) : Type 0 where
  pub kept : KeptIn d s z e ds i D
  pub before : get_or s i 0 < p
  pub id_fits : i < 256

-- The tables of positions, sizes and plan entries have the described ids ds, whose triplets stand before p.
pub record Tables (d s z e : List ℕ) (ds : List (ℕ × Described)) (p : ℕ) : Type 0 where
  pub agrees : Agrees s z e (entries ds)
  pub placed : (i : ℕ) (D : Described) → lookup i ds ≡ some D → Placed d s z e ds p i D
  pub sizes : (length s ≡ 256) × (length z ≡ 256) × (length e ≡ 256)

-- No CPT stands at p, so that a row ends there.
pub data EndsAt (d : List ℕ) (p : ℕ) : Type 0 where
  no_head : length d < p + 3 → EndsAt d p
  no_cpt : get_or d (p + 1) 0 ≢ 0x7F → EndsAt d p

-- The row at q makes the same list as the one at `at`, which ends at p, and does not stand behind it.
pub record MakesSame (d : List ℕ) (T : Lists) (at p q : ℕ) : Type 0 where
  pub same : (ds : List (ℕ × Described)) (l : List Field) → EndsAt d p → Tables d T.starts T.sizes T.entries ds p → RowIn d T.starts ds at l
      → (q ≤ at) × RowIn d T.starts ds q l

-- The row at hand at p: its triplets from `at` on have made the list l so far, and CPTs from p on may continue it.
pub record RowSoFar (d s : List ℕ) (ds : List (ℕ × Described)) (p at : ℕ) (l : List Field) : Type 0 where
  pub head : at + 3 ≤ length d
  pub long : 6 ≤ get_or d at 0
  pub before : at + get_or d at 0 ≤ p
  pub groups : List Group
  pub fields : l ≡ add_fields (kind_at d at) ds [] groups
  pub all : groups_at d at ≡ groups ++ groups_in 0 (drop p d)
  pub rest : Groups (RefersIn (kind_at d at) s ds at) 0 (drop p d) → Groups (RefersIn (kind_at d at) s ds at) (get_or d at 0 - 3) (drop (at + 3) d)

-- A row that a CPT may continue.
pub record AtHand (d s : List ℕ) (ds : List (ℕ × Described)) (p : ℕ) (r : Row) (id : ℕ) (l : List Field) (kind : Kind) : Type 0 where
  pub same_head : r.head ≡ get_or d (r.at + 1) 0
  pub same_kind : kind_of r.head ≡ kind
  pub free : lookup id ds ≡ none
  pub earlier : (i : ℕ) (D : Described) → lookup i ds ≡ some D → get_or s i 0 < r.at
  pub so_far : RowSoFar d s ds p r.at l

-- The row of the step before, if there is one.
abbrev pub row_of : Option Step → Option Row
row_of None = None
row_of (Some x) = x.row

abbrev pub Current : (d s : List ℕ) → List (ℕ × Described) → ℕ → Option Row → defined_option.Option (ℕ × List Field × Kind) → Type 0
Current d s ds p None none = Unit {0}
Current d s ds p None (some c) = ⊥
Current d s ds p (Some r) none = ⊥
Current d s ds p (Some r) (some c) = AtHand d s ds p r c.0 c.1 c.2

-- The last described id and its count.
pub record Describes (x : Step) (id : ℕ) (D : Described) : Type 0 where
  pub same_id : x.id ≡ id
  pub counted : x.count ≡ length (fields_of D)
  pub small : x.count ≤ 4096
  pub id_fits : x.id < 256

abbrev pub Last : Option Step → List (ℕ × Described) → Type 0
Last None [] = Unit {0}
Last None (c ∷ ds) = ⊥
Last (Some x) [] = ⊥
Last (Some x) (c ∷ ds) = Describes x c.0 c.1

-- Before the triplet at p, where u is what the triplets before it unfold to.
pub record Holds (d : List ℕ) (T : Lists) (p : ℕ) (x : Option Step) (u : Layouts) : Type 0 where
  pub checking : check_triplets begin (triplets d) ≡ check_triplets (state u) (triplets_at d p)
  pub unfolds : unfold_triplets start (triplets d) ≡ unfold_triplets u (triplets_at d p)
  pub tables : Tables d T.starts T.sizes T.entries u.described p
  pub current : Current d T.starts u.described p (row_of x) u.current
  pub last : Last x (closed u)
  pub there : p ≤ length d

abbrev pub Held : List ℕ → Lists → (p : ℕ) → Option Step → Type 0
Held d T p x = (u : Layouts) × Holds d T p x u

-- The tables after the row of the step before, if there is one, was entered: it ends at p.
pub record ClosedRow (d : List ℕ) (T T' : Lists) (p : ℕ) (x : Option Step) : Type 0 where
  pub tables : (u : Layouts) → Holds d T p x u → EndsAt d p → Tables d T'.starts T'.sizes T'.entries (closed u) p

-- An accepted SDA's bytes t at p, with the tables before and after it.
pub record TookSDA (t : List ℕ) (p : ℕ) (T T' : Lists) (x : Step) : Type 0 where
  pub accepted : (es : List (ℕ × Entry)) → Agree T es → check_sda es p t ≡ ok (described (id_of t) (code_of t) (extents_of t) es)
  pub puts : PutSDA t p T.starts T.sizes T.entries T'.starts T'.sizes T'.entries
  pub good : good_sda t ≡ true
  pub no_row : x.row ≡ None
  pub same_id : x.id ≡ id_of t
  pub counted : x.count ≡ product (extents_of t)
  pub small : x.count ≤ 4096

-- What a step over an SDA's bytes gives.
abbrev pub SteppedSDA : (t : List ℕ) (p : ℕ) (T T' : Lists) → Result Step Reason → Type 0
SteppedSDA t p T T' (Err r) = (es : List (ℕ × Entry)) → Agree T es → check_sda es p t ≡ refuse (number_of r) p
SteppedSDA t p T T' (Ok x) = TookSDA t p T T' x

-- The accepted bytes t of an RLO or a GDA at p, which may be the last triplet.
pub record TookRow (last : Bool) (t : List ℕ) (p : ℕ) (T : Lists) (x : Step) : Type 0 where
  pub accepted : (es : List (ℕ × Entry)) → Agree T es → check_row (kind_of (get_or t 1 0)) last es p t ≡ ok (row_at_hand (kind_of (get_or t 1 0)) (id_of t) x.count es)
  pub good : GoodRow t
  pub row : x.row ≡ Some (record { head = get_or t 1 0; at = p })
  pub same_id : x.id ≡ id_of t
  pub id_fits : id_of t < 256
  pub small : x.count ≤ 4096

abbrev pub SteppedRow : (last : Bool) (t : List ℕ) (p : ℕ) (T : Lists) → Result Step Reason → Type 0
SteppedRow last t p T (Err r) = (es : List (ℕ × Entry)) → Agree T es → check_row (kind_of (get_or t 1 0)) last es p t ≡ refuse (number_of r) p
SteppedRow last t p T (Ok x) = TookRow last t p T x

-- What the check keeps of a step beside the described ids: the row that a CPT may continue.
abbrev pub with_row : Step → Option Row → defined_option.Option (ℕ × ℕ × Kind)
with_row x None = none
with_row x (Some r) = some (x.id, x.count, kind_of r.head)

abbrev pub at_hand : Option Step → List (ℕ × Entry) → State
at_hand None es = record { described = es; current = none }
at_hand (Some x) es = record { described = es; current = with_row x x.row }

-- The accepted bytes t of a CPT, x being the step before.
pub record TookCPT (last : Bool) (t : List ℕ) (T : Lists) (x : Option Step) (y : Step) : Type 0 where
  pub before : Step
  pub row : Row
  pub was : x ≡ Some before
  pub had : before.row ≡ Some row
  pub accepted : (p id : ℕ) (es : List (ℕ × Entry)) → Agree T es
      → check_cpt last (row_at_hand (kind_of row.head) id before.count es) p t ≡ ok (row_at_hand (kind_of row.head) id y.count es)
  pub good : GoodRow t
  pub same_row : y.row ≡ Some row
  pub same_id : y.id ≡ before.id
  pub small : y.count ≤ 4096

abbrev pub SteppedCPT : (last : Bool) (t : List ℕ) (T : Lists) → Option Step → Result Step Reason → Type 0
SteppedCPT last t T x (Err r) = (p : ℕ) (es : List (ℕ × Entry)) → Agree T es → check_cpt last (at_hand x es) p t ≡ refuse (number_of r) p
SteppedCPT last t T x (Ok y) = TookCPT last t T x y

-- The triplet at p: the check's refusal, or what is known before the next one.
pub record Moved (d : List ℕ) (T : Lists) (p : ℕ) (x : Option Step) : Type 0 where
  pub held : Held d T (p + get_or d p 0) x
  pub least : 2 ≤ get_or d p 0

abbrev pub Advanced : List ℕ → Lists → (p : ℕ) → Result (Option Step) Reason → Type 0
Advanced d T p (Err r) = check_triplets begin (triplets d) ≡ refuse (number_of r) p
Advanced d T p (Ok x) = Moved d T p x

-- The triplet before p stands at q; behind the last triplet that is the place of the last one.
pub data LastAt (d : List ℕ) (q p : ℕ) : Type 0 where
  none_yet : p ≡ 0 → LastAt d q p
  behind : last_place (triplets d) ≡ last_place (triplets_at d q) → q < length d → 2 ≤ get_or d q 0 → p ≡ q + get_or d q 0 → p ≤ length d → LastAt d q p

-- Rows to the end: the row that the last triplet belongs to is an RLO's, and the last byte, which is the last group's repetition, 0.
abbrev pub to_the_end : Option Row → (last : ℕ) → Bool
to_the_end None last = false
to_the_end (Some r) last = not (eqb r.head 0x75) && eqb last 0

abbrev pub last_byte : List ℕ → ℕ
last_byte d = get_or d (length d - 1) 0

-- What is known of the last group where it repeats to the end.
pub record Repeating (d : List ℕ) (T : Lists) (row : Option Row) : Type 0 where
  pub some_there : 0 < length d
  pub tied : TiedSome d T.starts T.entries
  pub pass : to_the_end row (last_byte d) ≡ true → PassAt d (length d - 3)

-- An accepted descriptor: the tables are tied to it, and `id` describes its unfolding of n fields. With rows to the end, its last group makes the
-- repeated layout.
pub record Ready (d s z e : List ℕ) (id n : ℕ) (rows : Bool) : Type 0 where
  pub tied : Tied d s z e
  pub known : Known d id
  pub whole : unfolded d ≡ list_of d id
  pub accepted : check d ≡ ok n
  pub count : n ≡ length (unfolded d)
  pub small : n ≤ 4096
  pub no_rows : rows ≡ false → repeated d ≡ none
  pub repeats : rows ≡ true → repeated d ≡ some (pass_list d (length d - 3))
  pub pass : rows ≡ true → PassAt d (length d - 3)
  pub room : rows ≡ true → Room d e (length d - 3) 4096

-- The id that was described last, 0 where none is.
abbrev pub last_id : List (ℕ × Described) → ℕ
last_id [] = 0
last_id (r ∷ ds) = r.0

-- What examining a descriptor gives, by the check's answer: for an accepted one the id that describes the block, the last one, and whether it has rows
-- to the end.
abbrev pub examined : defined.Result ℕ → List (ℕ × Described) → defined_option.Option (List Field) → Result Examined Refusal
examined (refuse n p) ds o = Err (record { reason = reason_of n; place = p })
examined (ok n) ds o = Ok (record { items = n; id = last_id ds; rows = is_some o })

-- What examining a descriptor gives, with the tables afterwards; on a refusal nothing is said of the tables.
pub record Examination (d s z e : List ℕ) (r : Result Examined Refusal) : Type 0 where
  pub result : r ≡ examined (check d) (described_by d) (repeated d)
  pub ready : (x : Examined) → r ≡ Ok x → Ready d s z e x.id x.items x.rows
