-- What judging an RLO, a GDA, a CPT or an ISD gives.
use Rattle.std.specs.Prelude.{ℕ, ◌+◌, ◌*◌, ◌%◌, ◌≤◌, ◌<◌, ◌≡◌, ◌≢◌, Bool, List, Option, Result, Ok, Err, IfSome, IfOk, OnOk, ltb, length, get_or, if◌then◌else◌}
use Rattle.std.proofs.Math.Option.{some}
use Rattle.std.proofs.Math.Option as defined
use Rattle.fdoca.specs.declared.Reason.{Reason}
use Rattle.fdoca.specs.declared.Reason.TheVariants.{TooManyItems}
use Rattle.fdoca.specs.Returned.{outcome, option_of}
use Rattle.fdoca.specs.Basics.{lookup, ok, ◌>>=◌, ◌>>◌}
use Rattle.fdoca.specs.Triplet.{Kind, Group, taken, id_of}
use Rattle.fdoca.specs.Check.{Entry, State, max_items, count_taken, fits, add_group, add_groups, check_row, check_cpt, check_isd}
use Rattle.plans.specs.Tied.{kind_of}
use Rattle.tables.specs.Lists.{Lists}
use Rattle.sdas.specs.Tables.{KeptAs, Agrees}

-- The described ids, and a row at hand.
abbrev pub row_at_hand : Kind → ℕ → ℕ → List (ℕ × Entry) → State
row_at_hand kind id n es = record { described = es; current = some (id, n, kind) }

-- A row's count with n more items: refused over 4,096.
abbrev pub summed : (sum n : ℕ) → Result ℕ Reason
summed sum n = if ltb max_items (sum + n) then Err TooManyItems else Ok (sum + n)

-- What the tables have for an id, and that they agree with the described ids.
abbrev pub KeptAt : Lists → (id : ℕ) → defined.Option Entry → Type 0
KeptAt l id x = KeptAs (get_or l.starts id 0) (get_or l.sizes id 0) (get_or l.entries id 0) x

abbrev pub Agree : Lists → List (ℕ × Entry) → Type 0
Agree l es = Agrees l.starts l.sizes l.entries es

-- How many items a group of an RLO takes once of a described id.
pub record ItemsTaken (l : Lists) (g : Group) (r : Option ℕ) : Type 0 where
  pub result : (y : Entry) → KeptAt l g.ref (some y) → r ≡ option_of (count_taken (taken g) y)
  pub small : IfSome r (λ n. n ≤ 255 * 65535)

-- Whether a column may be of a described id.
pub record FitsColumn (l : Lists) (g : Group) (r : Bool) : Type 0 where
  pub result : (y : Entry) → KeptAt l g.ref (some y) → r ≡ fits g y

-- What adding a group to a row of `sum` items gives, where it refers to a described id, and where to any.
pub record Counted (kind : Kind) (ends : Bool) (l : Lists) (g : Group) (sum : ℕ) (r : Result ℕ Reason) : Type 0 where
  pub result : (p : ℕ) (y : Entry) → KeptAt l g.ref (some y) → add_group kind ends p sum g (some y) ≡ outcome p r

pub record AddedGroup (kind : Kind) (ends : Bool) (l : Lists) (g : Group) (sum : ℕ) (r : Result ℕ Reason) : Type 0 where
  pub result : (p : ℕ) (es : List (ℕ × Entry)) → Agree l es → add_group kind ends p sum g (lookup g.ref es) ≡ outcome p r

-- What adding the groups gives.
pub record AddedGroups (kind : Kind) (last : Bool) (gs : List Group) (l : Lists) (sum : ℕ) (r : Result ℕ Reason) : Type 0 where
  pub result : (p : ℕ) (es : List (ℕ × Entry)) → Agree l es → add_groups kind last p es sum gs ≡ outcome p r

-- The bytes of an RLO, a GDA or a CPT are a head and one or more groups.
pub record GoodRow (t : List ℕ) : Type 0 where
  pub some_there : 6 ≤ length t
  pub by_three : length t % 3 ≡ 0

-- What judging the bytes of an RLO or a GDA gives, by its construct type; and those of a CPT behind one.
pub record JudgedRow (last : Bool) (t : List ℕ) (l : Lists) (r : Result ℕ Reason) : Type 0 where
  pub result : (p : ℕ) (es : List (ℕ × Entry)) → Agree l es
      → check_row (kind_of (get_or t 1 0)) last es p t ≡ (outcome p r >>= (λ n. ok (row_at_hand (kind_of (get_or t 1 0)) (id_of t) n es)))
  pub good : OnOk r (GoodRow t)
  pub id_given : OnOk r ((id_of t ≢ 0) × (id_of t < 256))
  pub small : IfOk r (λ n. n ≤ 4096)

pub record JudgedCPT (kind : Kind) (last : Bool) (t : List ℕ) (l : Lists) (sum : ℕ) (r : Result ℕ Reason) : Type 0 where
  pub result : (p id : ℕ) (es : List (ℕ × Entry)) → Agree l es
      → check_cpt last (row_at_hand kind id sum es) p t ≡ (outcome p r >>= (λ n. ok (row_at_hand kind id n es)))
  pub good : OnOk r (GoodRow t)
  pub small : IfOk r (λ n. n ≤ 4096)

pub record JudgedISD (t : List ℕ) (p : ℕ) (r : Result (Unit {0}) Reason) : Type 0 where
  pub result : (st : State) → check_isd st p t ≡ (outcome p r >> ok st)
