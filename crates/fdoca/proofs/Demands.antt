-- What is owed of the calls, as statements about what they give. All that the statements cite stands in specs/.
-- Demand 1: every input is refused for the first reason in document 01's table and order, with its number and place, the list then unaltered, or it is
-- accepted since no reason holds.
-- Demand 2: a block is accepted exactly when its bytes are the items of the unfolding by the standard's account, and it is read as that account says.
-- Demand 3: what the walk says is what the list and the states say; the count is the descriptor's alone; the items cover the block.
-- For a descriptor with rows to the end (document 02, Q-5), `repeated d ≡ some rows`, a second set of statements says this of the fields before the rows
-- and some number of whole passes; the first set is for all others, `repeated d ≡ none`.
-- Assumes nothing.
use Rattle.std.specs.Prelude.{if◌then◌else◌, Ok}
use mathlib.Core.Path.{◌≡◌, refl, sym, ap, ◌∙◌}
use mathlib.Core.Logic.{◌↔◌, inr}
use Prim.Native.Nat.{ℕ, suc, ◌+◌, ◌*◌, ◌/◌, ◌^◌, ◌≤◌, ◌<◌}
use native.Mathlib.Omega.{arith}
use mathlib.Core.Bool.{Bool, true, false, not, ◌||◌}
use mathlib.Core.List.{List, [], ◌∷◌, ◌++◌, map}
use mathlib.Core.Option.{Option, none, some}
use lib.Dec.{T, ltb}
use lib.Ieee.{Float, binary64, fits, to_bits}
use lib.IntN.{ℤ, pos}
use lib.ListN.{length, drop, get_or, get_elem?}
use borrow.Author.Tests.{le-ltb, lt-ltb}
use Rattle.fdoca.specs.Basics.{big, Result, refuse, ok, ◌>>=◌, ◌>>◌, reject, the}
use Rattle.fdoca.specs.FieldType.{FieldType, terminated_bytes, fixed, type_of, bytes, digits, size_of, rule_of}
use Rattle.fdoca.specs.Triplet.{gda, code_of, parameters_of}
use Rattle.fdoca.specs.Item.{Field, with_size, refused, measure}
use Rattle.fdoca.specs.Walk.{Note, walk, walk_rows, walk_by}
use Rattle.fdoca.specs.Check.{max_descriptor, max_items, Entry, array, suits_type, good_column, count_added, add_group, good_length_sda, check_sda, check}
use Rattle.fdoca.specs.Unfolding.{fields_added, field_of, unfolded, repeated}
use Rattle.fdoca.specs.Unfolding as U
use Rattle.fdoca.specs.Account.{NonZero, Item, Parts, Block, Packed}
use Rattle.fdoca.specs.Calls as calls
use Rattle.fdoca.specs.Calls.{max_data, oversize, item_list, small, list, item_at, value_of, whole_of, whole_number, packed, entries_after, state_by, state_of, lent, number_given, place_given, given_check, given_list, given_state, given_whole, given_packed, given_value, Reading, whole, float, reading_of, ordered, signed, read_by}
use Rattle.fdoca.specs.Returned.{returned, answer}
use Rattle.fdoca.specs.Packed.{packed_number}
use Rattle.fdoca.specs.Float as float_specs
use Rattle.fdoca.specs.Float.{Number, Equal, Format, long_binary, characteristic, float_of}
use Rattle.fdoca.specs.declared.State.{State}
use Rattle.fdoca.specs.declared.Value.{Value}
use Rattle.fdoca.specs.declared.Value.TheVariants.{Null, Whole, Real}
use Rattle.fdoca.specs.Reasons.{byte, OneOf, F, Suits, Allowed, Means, BadIndicator, OfItems, with_passes, OfRows, Uses, Unfolds, as_it_is, and_passes, OfDescriptor, OfList, OfState, OfWholeNumber, OfPacked, OfValue, file_descriptor, file_data, OfFile, First, None}
use Rattle.fdoca.specs.Dump.{refused_line, text_of, second_size, dump}
use Rattle.fdoca.specs.Cover.{sum, positions, lengths, InItem, Part, lead, value, spare, part_length, part_bytes, all_parts, InPart, end_listed, start_of, notes_of, note_of_parts}
use Rattle.fdoca.specs.HighBit.{measure_by_high_bit, AcceptedWith, NoneBad}
use Rattle.fdoca.proofs.Table.{there, past_end}
use Rattle.fdoca.proofs.Tests.{at_least, neither_over}
use Rattle.fdoca.proofs.Results.{ok_bind, ok_reject}
use Rattle.fdoca.proofs.Count.{count_is_length, bad_type}
use Rattle.fdoca.proofs.Limits.{at_most_4096}
use Rattle.fdoca.proofs.Cover.{walk_covers, in_an_item, in_one_item}
use Rattle.fdoca.proofs.Blocks.{walk_complete, walk_sound, note_of_part}
use Rattle.fdoca.proofs.BlockRows.{notes_number}
use Rattle.fdoca.proofs.Calls.{items_noted, list_keeps}
use Rattle.fdoca.proofs.HighBit.{item_24, item_else, accepted_walks, walks_accepted, accepted_shrinks}
use Rattle.fdoca.proofs.FirstReasons.{refused_first, accepted_none}
use Rattle.fdoca.proofs.TypeRows.{code_of_type, type_suits, size_given, size_default, size_else, no_sixteen, sixteen_kept}
use Rattle.fdoca.proofs.CheckRows.{check_told}
use Rattle.fdoca.proofs.RowReasons.{one_number}
use Rattle.fdoca.proofs.Data.{item_count, not_endless, items_told, walk_rows_told, WalkedBy, walked_by, block_walked}
use Rattle.fdoca.proofs.CallRows.{list_told, state_told, whole_told}
use Rattle.fdoca.proofs.Fields.{good_at, digits_packed, unfolding_good, rows_good, field_allowed, item_good}
use Rattle.fdoca.proofs.ThreeParts.{parts_account, part_long, null_lengths, ended_parts, all_parts_lem, in_a_part, in_one_part, listed_item}
use Rattle.fdoca.proofs.Packed.{packed_sound, packed_complete}
use Rattle.fdoca.proofs.PackedRows.{packed_told}
use Rattle.fdoca.proofs.Digits.{ordered_length, base_below}
use Rattle.fdoca.proofs.Floats.{only_canonical}
use Rattle.fdoca.proofs.FloatForms.{float_is, is_float, bits_back}
use Rattle.fdoca.proofs.ValueRows.{value_told, reading_fixed, float_length}
use Rattle.fdoca.proofs.FileRows.{file_notes, file_text, file_told, file_listed}
use Rattle.fdoca.proofs.Numbers.{descriptor_number, list_number, state_number, whole_number_lem, packed_number_lem, value_number, number_0, told_again, item_reason}

-- DEMAND 1

-- Each call is refused with m at p exactly where that is the first reason of the table in its order, and is accepted exactly where none holds.
module _ (d : List ℕ) where
  pub check_refuses : (m p : ℕ) → (check d ≡ refuse m p) ↔ First (OfDescriptor d) m p
  check_refuses m p = refused_first (check d) (check_told d) m p

  pub check_accepts : ((n : ℕ) × (check d ≡ ok n)) ↔ None (OfDescriptor d)
  check_accepts = accepted_none (check d) (check_told d)

module _ (d s old : List ℕ) where
  pub list_refuses : (m p : ℕ) → (list d s old ≡ refuse m p) ↔ First (OfList d s (length old)) m p
  list_refuses m p = refused_first (list d s old) (list_told d s old) m p

  pub list_accepts : ((new : List ℕ) × (list d s old ≡ ok new)) ↔ None (OfList d s (length old))
  list_accepts = accepted_none (list d s old) (list_told d s old)

  -- A refused list call leaves the list unaltered; an accepted one leaves its length and the entries beyond those of its n items.
  pub refusal_unaltered : (m p : ℕ) → list d s old ≡ refuse m p → entries_after old (list d s old) ≡ old
  refusal_unaltered m p e = rw e

  pub beyond_unaltered : repeated d ≡ none → (new : List ℕ) → list d s old ≡ ok new
      → (length new ≡ length old) × (drop (2 + 2 * length (unfolded d)) new ≡ drop (2 + 2 * length (unfolded d)) old)
  beyond_unaltered plain new e =
      let k = list_keeps d s old new e in
      let x = walked_by d k.n k.accepts s k.notes k.walks in
      let l : length k.notes ≡ length (unfolded d) = item_count x.fields s k.notes x.walks ∙ ap length (x.plain plain) in
      rw (← l) (k.kept.size, k.kept.beyond)

  pub beyond_rows_unaltered : (rows : List Field) → repeated d ≡ some rows → (n : ℕ) → Uses (unfolded d) rows s n → (new : List ℕ) → list d s old ≡ ok new
      → (length new ≡ length old) × (drop (2 + 2 * n) new ≡ drop (2 + 2 * n) old)
  beyond_rows_unaltered rows r n u new e =
      let k = list_keeps d s old new e in
      rw ((walked_by d k.n k.accepts s k.notes k.walks).used rows n r u) (k.kept.size, k.kept.beyond)

-- State and lending go by the same item.
module _ (d s : List ℕ) (k : ℕ) where
  pub state_refuses : (m p : ℕ) → (item_at d s k ≡ refuse m p) ↔ First (OfState d s k) m p
  state_refuses m p = refused_first (item_at d s k) (state_told d s k) m p

  pub state_accepts : ((i : Note) × (item_at d s k ≡ ok i)) ↔ None (OfState d s k)
  state_accepts = accepted_none (item_at d s k) (state_told d s k)

  pub whole_refuses : (m p : ℕ) → (whole_number d s k ≡ refuse m p) ↔ First (OfWholeNumber d s k) m p
  whole_refuses m p = refused_first (whole_number d s k) (whole_told d s k) m p

  pub whole_accepts : ((v : Bool × ℤ) × (whole_number d s k ≡ ok v)) ↔ None (OfWholeNumber d s k)
  whole_accepts = accepted_none (whole_number d s k) (whole_told d s k)

  pub packed_refuses : (m p : ℕ) → (packed d s k ≡ refuse m p) ↔ First (OfPacked d s k) m p
  packed_refuses m p = refused_first (packed d s k) (packed_told d s k) m p

  pub packed_accepts : ((v : Bool × ℤ × ℕ) × (packed d s k ≡ ok v)) ↔ None (OfPacked d s k)
  packed_accepts = accepted_none (packed d s k) (packed_told d s k)

  pub value_refuses : (m p : ℕ) → (calls.value d s k ≡ refuse m p) ↔ First (OfValue d s k) m p
  value_refuses m p = refused_first (calls.value d s k) (value_told d s k) m p

  pub value_accepts : ((v : Value) × (calls.value d s k ≡ ok v)) ↔ None (OfValue d s k)
  value_accepts = accepted_none (calls.value d s k) (value_told d s k)

-- A refusal's number is never 0: a call's number is 0 exactly where it accepts;
pub check_number_0 : (d : List ℕ) → (number_given (check d) ≡ 0) ↔ None (OfDescriptor d)
check_number_0 d = number_0 (λ t m p r. descriptor_number r) (check_told d)

pub list_number_0 : (d s old : List ℕ) → (number_given (list d s old) ≡ 0) ↔ None (OfList d s (length old))
list_number_0 d s old = number_0 (λ t m p r. list_number r) (list_told d s old)

pub state_number_0 : (d s : List ℕ) (k : ℕ) → (number_given (item_at d s k) ≡ 0) ↔ None (OfState d s k)
state_number_0 d s k = number_0 (λ t m p r. state_number r) (state_told d s k)

pub whole_number_0 : (d s : List ℕ) (k : ℕ) → (number_given (whole_number d s k) ≡ 0) ↔ None (OfWholeNumber d s k)
whole_number_0 d s k = number_0 (λ t m p r. whole_number_lem r) (whole_told d s k)

pub packed_number_0 : (d s : List ℕ) (k : ℕ) → (number_given (packed d s k) ≡ 0) ↔ None (OfPacked d s k)
packed_number_0 d s k = number_0 (λ t m p r. packed_number_lem r) (packed_told d s k)

pub value_number_0 : (d s : List ℕ) (k : ℕ) → (number_given (calls.value d s k) ≡ 0) ↔ None (OfValue d s k)
value_number_0 d s k = number_0 (λ t m p r. value_number r) (value_told d s k)

-- programs in C are given that number, and the place with it;
pub check_number_given : (x : Result ℕ) → ((given_check x).number ≡ number_given x) × ((given_check x).place ≡ place_given x)
check_number_given (refuse m p) = (refl, refl)
check_number_given (ok a) = (refl, refl)

pub list_number_given : (x : Result (List ℕ)) → ((given_list x).number ≡ number_given x) × ((given_list x).place ≡ place_given x)
list_number_given (refuse m p) = (refl, refl)
list_number_given (ok a) = (refl, refl)

pub state_number_given : (x : Result Note) → ((given_state x).number ≡ number_given x) × ((given_state x).place ≡ place_given x)
state_number_given (refuse m p) = (refl, refl)
state_number_given (ok a) = (refl, refl)

pub whole_number_given : (x : Result (Bool × ℤ)) → ((given_whole x).number ≡ number_given x) × ((given_whole x).place ≡ place_given x)
whole_number_given (refuse m p) = (refl, refl)
whole_number_given (ok a) = (refl, refl)

pub packed_number_given : (x : Result (Bool × ℤ × ℕ)) → ((given_packed x).number ≡ number_given x) × ((given_packed x).place ≡ place_given x)
packed_number_given (refuse m p) = (refl, refl)
packed_number_given (ok a) = (refl, refl)

pub value_number_given : (x : Result Value) → ((given_value x).number ≡ number_given x) × ((given_value x).place ≡ place_given x)
value_number_given (refuse m p) = (refl, refl)
value_number_given (ok a) = (refl, refl)

-- and it is the number of a reason, so that what a call returns says which refusal it is.
pub check_returned : (d : List ℕ) → answer (returned (check d)) ≡ check d
check_returned d = told_again (λ t m p r. descriptor_number r) (check_told d)

pub list_returned : (d s old : List ℕ) → answer (returned (list d s old)) ≡ list d s old
list_returned d s old = told_again (λ t m p r. list_number r) (list_told d s old)

pub state_returned : (d s : List ℕ) (k : ℕ) → answer (returned (item_at d s k)) ≡ item_at d s k
state_returned d s k = told_again (λ t m p r. state_number r) (state_told d s k)

pub whole_returned : (d s : List ℕ) (k : ℕ) → answer (returned (whole_number d s k)) ≡ whole_number d s k
whole_returned d s k = told_again (λ t m p r. whole_number_lem r) (whole_told d s k)

pub packed_returned : (d s : List ℕ) (k : ℕ) → answer (returned (packed d s k)) ≡ packed d s k
packed_returned d s k = told_again (λ t m p r. packed_number_lem r) (packed_told d s k)

pub value_returned : (d s : List ℕ) (k : ℕ) → answer (returned (calls.value d s k)) ≡ calls.value d s k
value_returned d s k = told_again (λ t m p r. value_number r) (value_told d s k)

-- The dump program prints the refusal of its file's first reason, 19 among them, or else the items of the file's block.
module _ (f : List ℕ) where
  pub dump_refuses : (m p : ℕ) → First (OfFile f) m p → dump f ≡ refused_line m p
  dump_refuses m p h = file_text f ∙ ap (text_of (second_size f)) ((refused_first (file_notes f) (file_told f) m p).1 h)

  pub dump_lists : None (OfFile f)
      → (ns : List Note) × (walk_by (unfolded (file_descriptor f)) (repeated (file_descriptor f)) (file_data f) ≡ ok ns) × (dump f ≡ text_of (length (file_data f)) (ok ns))
  dump_lists h =
      let (ns, e) = (accepted_none (file_notes f) (file_told f)).1 h in
      let (w, l) = file_listed f ns e in
      (ns, w, file_text f ∙ ap (text_of (second_size f)) e ∙ ap (λ n. text_of n (ok ns)) (sym l))

-- DEMAND 3

-- The count is the unfolding's length, at most 4,096: the data plays no part in it. With rows to the end it is the count before them.
pub count_of_descriptor : (d : List ℕ) (n : ℕ) → check d ≡ ok n → (n ≡ length (unfolded d)) × (n ≤ 4096)
count_of_descriptor d n accepts = (sym (count_is_length d n accepts), at_most_4096 d n accepts)

module _ (d s : List ℕ) (n : ℕ) (accepts : check d ≡ ok n) where
  -- The walk stops exactly at the first item that the data cuts short or spoils, or at bytes left over; else it takes all items.
  pub walk_stops : (m p : ℕ) → (walk (unfolded d) s ≡ refuse m p) ↔ First (OfItems (unfolded d) s) m p
  walk_stops m p = refused_first (walk (unfolded d) s) (items_told d n accepts s) m p

  pub walk_ends : ((ns : List Note) × (walk (unfolded d) s ≡ ok ns)) ↔ None (OfItems (unfolded d) s)
  walk_ends = accepted_none (walk (unfolded d) s) (items_told d n accepts s)

  -- It then has taken n items.
  pub items_counted : (ns : List Note) → walk (unfolded d) s ≡ ok ns → length ns ≡ n
  items_counted ns e = items_noted d s n ns accepts e

-- The items that the walk takes are those of the unfolding in order, laid end to end over the whole block;
module _ (d s : List ℕ) (ns : List Note) (e : walk (unfolded d) s ≡ ok ns) where
  pub items_of_unfolding : map (λ i. i.field) ns ≡ unfolded d
  items_of_unfolding = (walk_covers (unfolded d) s ns e).fields

  pub lengths_add_up : (sum (lengths ns) ≡ length s) × (map (λ i. i.start) ns ≡ positions 0 (lengths ns))
  lengths_add_up = ((walk_covers (unfolded d) s ns e).total, (walk_covers (unfolded d) s ns e).starts)

  -- so each byte lies in one item, and in no other.
  pub byte_in_one_item : (b : ℕ) → b < length s → (k : ℕ) × InItem ns b k
  byte_in_one_item b h = in_an_item (unfolded d) s ns e b h

  pub byte_in_no_other : (b j k : ℕ) → InItem ns b j → InItem ns b k → j ≡ k
  byte_in_no_other b j k x y = in_one_item (unfolded d) s ns e b j k x y

-- the state of an item that is refused
state_refused : (d s : List ℕ) (k m p : ℕ) → item_at d s k ≡ refuse m p → answer (state_of (item_at d s k)) ≡ refuse m p
state_refused d s k m p e = rw e (ap (λ n. refuse n p) (item_reason d s k m p e))

-- An accepted descriptor, and data within its limit.
module _ (d s : List ℕ) (n : ℕ) (accepts : check d ≡ ok n) (few : length s ≤ 32768) where
  no_oversize : oversize d s ≡ false
  unfolding check
  no_oversize = go (ltb max_descriptor (length d)) refl
    where
      go : (b : Bool) → ltb max_descriptor (length d) ≡ b → (b || ltb max_data (length s)) ≡ false
      go true e =
          let q : check d ≡ refuse 1 0 = rw e in
          absurd (let z : ◌≡◌ {A = ℕ} 0 1 = cc in let w : ⊥ = omega arith in w)
      go false e = le-ltb 32768 (length s) few

  item_walks : (k : ℕ) → item_at d s k ≡ (walk_by (unfolded d) (repeated d) s >>= (λ ns. the (get_elem? ns k) 17 0))
  unfolding item_at
  item_walks k = rw (no_oversize, accepts)

  -- what the state call says where the walk stops, and where it does not
  states_stop_by : (m p : ℕ) → walk_by (unfolded d) (repeated d) s ≡ refuse m p → (k : ℕ)
      → (answer (state_of (item_at d s k)) ≡ refuse m p)
      × (given_state (item_at d s k) ≡ record { number = m; place = p; null = false; code = 0; lead = 0; value = 0; spare = 0 })
      × (lent s (item_at d s k) ≡ [])
  states_stop_by m p e k = let q : item_at d s k ≡ refuse m p = rw (item_walks k, e) in (state_refused d s k m p q, rw q, rw q)

  state_holds_by : (ns : List Note) → walk_by (unfolded d) (repeated d) s ≡ ok ns → (k : ℕ) → k < length ns
      → (i : Note) × (get_elem? ns k ≡ some i)
      × (state_of (item_at d s k) ≡ Ok (record { null = i.is_null; code = i.field.code; lead = i.lead; value = i.value; spare = i.spare }))
      × (lent s (item_at d s k) ≡ value_of s i)
  state_holds_by ns e k h = let q = there ns k h in (q.0, q.1, rw (item_walks k, e, q.1), rw (item_walks k, e, q.1))

  -- the reads of an item's value say it too, as they go by its state
  pub reads_stop : (m p : ℕ) → walk_by (unfolded d) (repeated d) s ≡ refuse m p → (k : ℕ)
      → (whole_number d s k ≡ refuse m p) × (packed d s k ≡ refuse m p) × (calls.value d s k ≡ refuse m p)
  unfolding whole_number packed calls.value
  reads_stop m p e k = (rw (item_walks k, e), rw (item_walks k, e), rw (item_walks k, e))

  no_more_states_by : (ns : List Note) → walk_by (unfolded d) (repeated d) s ≡ ok ns → (k : ℕ) → length ns ≤ k
      → (answer (state_of (item_at d s k)) ≡ refuse 17 0)
      × (given_state (item_at d s k) ≡ record { number = 17; place = 0; null = false; code = 0; lead = 0; value = 0; spare = 0 })
      × (lent s (item_at d s k) ≡ [])
  no_more_states_by ns e k h = let q : item_at d s k ≡ refuse 17 0 = rw (item_walks k, e, past_end ns k h) in (state_refused d s k 17 0 q, rw q, rw q)

  -- WITHOUT ROWS TO THE END
  module _ (plain : repeated d ≡ none) where
    walks_unfolding : walk_by (unfolded d) (repeated d) s ≡ walk (unfolded d) s
    unfolding walk_by
    walks_unfolding = rw plain

    list_walks : (old : List ℕ) → 2 + 2 * n ≤ length old → list d s old ≡ (walk (unfolded d) s >>= (λ ns. ok (item_list n (length s) ns old)))
    unfolding list walk_by
    list_walks old room = rw (no_oversize, accepts, plain, le-ltb (length old) (2 + 2 * n) room) (go (walk (unfolded d) s) refl)
      where
        go : (w : Result (List Note)) → walk (unfolded d) s ≡ w
            → (w >>= (λ ns. reject (small (length old) (length ns)) 12 0 >> ok (item_list (length ns) (length s) ns old))) ≡ (w >>= (λ ns. ok (item_list n (length s) ns old)))
        go (refuse m p) e = refl
        go (ok ns) e = rw (items_noted d s n ns accepts e, le-ltb (length old) (2 + 2 * n) room)

    -- Where the walk stops, the list call with room enough and the state of any item say so, the list is as before, and no part is lent.
    module _ (m p : ℕ) (e : walk (unfolded d) s ≡ refuse m p) where
      pub list_stops : (old : List ℕ) → 2 + 2 * n ≤ length old → (list d s old ≡ refuse m p) × (entries_after old (list d s old) ≡ old)
      list_stops old room = (rw (list_walks old room, e), rw (list_walks old room, e))

      pub states_stop : (k : ℕ)
          → (answer (state_of (item_at d s k)) ≡ refuse m p)
          × (given_state (item_at d s k) ≡ record { number = m; place = p; null = false; code = 0; lead = 0; value = 0; spare = 0 })
          × (lent s (item_at d s k) ≡ [])
      states_stop k = states_stop_by m p (walks_unfolding ∙ e) k

    module _ (ns : List Note) (e : walk (unfolded d) s ≡ ok ns) where
      -- Where it does not, that list holds the count, the block's length, the positions and the ids,
      pub list_holds : (old : List ℕ) → 2 + 2 * n ≤ length old → entries_after old (list d s old) ≡ item_list n (length s) ns old
      list_holds old room = rw (list_walks old room, e)

      -- the state of item k below n is what was noted for field k, and its part is lent,
      pub state_holds : (k : ℕ) → k < n
          → (i : Note) × (get_elem? ns k ≡ some i)
          × (state_of (item_at d s k) ≡ Ok (record { null = i.is_null; code = i.field.code; lead = i.lead; value = i.value; spare = i.spare }))
          × (lent s (item_at d s k) ≡ value_of s i)
      state_holds k h = state_holds_by ns (walks_unfolding ∙ e) k (omega (arith, items_noted d s n ns accepts e))

      -- and from n on there is no such item.
      pub no_more_states : (k : ℕ) → n ≤ k
          → (answer (state_of (item_at d s k)) ≡ refuse 17 0)
          × (given_state (item_at d s k) ≡ record { number = 17; place = 0; null = false; code = 0; lead = 0; value = 0; spare = 0 })
          × (lent s (item_at d s k) ≡ [])
      no_more_states k h = no_more_states_by ns (walks_unfolding ∙ e) k (omega (arith, items_noted d s n ns accepts e))

  -- WITH ROWS TO THE END
  module _ (rows : List Field) (repeats : repeated d ≡ some rows) where
    walks_rows : walk_by (unfolded d) (repeated d) s ≡ walk_rows (unfolded d) rows s
    unfolding walk_by
    walks_rows = rw repeats

    -- The walk stops exactly at the first item that the data cuts short or spoils, or at the 4,097th; else it ends with the data.
    pub rows_stop : (m p : ℕ) → (walk_rows (unfolded d) rows s ≡ refuse m p) ↔ First (OfRows (unfolded d) rows s) m p
    rows_stop m p = refused_first (walk_rows (unfolded d) rows s) (walk_rows_told d n accepts s rows repeats) m p

    pub rows_end : ((ns : List Note) × (walk_rows (unfolded d) rows s ≡ ok ns)) ↔ None (OfRows (unfolded d) rows s)
    rows_end = accepted_none (walk_rows (unfolded d) rows s) (walk_rows_told d n accepts s rows repeats)

    list_walks_rows : (old : List ℕ) → list d s old
        ≡ (walk_rows (unfolded d) rows s >>= (λ ns. reject (small (length old) (length ns)) 12 0 >> ok (item_list (length ns) (length s) ns old)))
    unfolding list walk_by
    list_walks_rows old = rw (no_oversize, accepts, repeats)

    -- Where it stops, the list call says so, with room enough or not, and the state of any item does.
    module _ (m p : ℕ) (e : walk_rows (unfolded d) rows s ≡ refuse m p) where
      pub rows_list_stops : (old : List ℕ) → (list d s old ≡ refuse m p) × (entries_after old (list d s old) ≡ old)
      rows_list_stops old = (rw (list_walks_rows old, e), rw (list_walks_rows old, e))

      pub rows_states_stop : (k : ℕ)
          → (answer (state_of (item_at d s k)) ≡ refuse m p)
          × (given_state (item_at d s k) ≡ record { number = m; place = p; null = false; code = 0; lead = 0; value = 0; spare = 0 })
          × (lent s (item_at d s k) ≡ [])
      rows_states_stop k = states_stop_by m p (walks_rows ∙ e) k

    module _ (ns : List Note) (e : walk_rows (unfolded d) rows s ≡ ok ns) where
      walked : WalkedBy d n accepts s ns
      walked = walked_by d n accepts s ns (walks_rows ∙ e)

      -- Where it ends, it has taken the items of the fields before and of some number of whole passes in order, at most 4,096, laid end to end over the whole
      -- block;
      pub items_of_passes : (j : ℕ) × (map (λ i. i.field) ns ≡ with_passes (unfolded d) rows j) × (length ns ≤ 4096)
      items_of_passes = go walked.fields walked.unfolds (walk_covers walked.fields s ns walked.walks).fields
        where
          go : (fs : List Field) → Unfolds d fs → map (λ i. i.field) ns ≡ fs → (j : ℕ) × (map (λ i. i.field) ns ≡ with_passes (unfolded d) rows j) × (length ns ≤ 4096)
          go fs (as_it_is q) f = absurd (let z : ◌≡◌ {A = ℕ} 0 1 = cc in let w : ⊥ = omega arith in w)
          go fs (and_passes {rows = other} j q) f = let z : other ≡ rows = cc in (j, rw z at f, walked.few)

      pub rows_add_up : (sum (lengths ns) ≡ length s) × (map (λ i. i.start) ns ≡ positions 0 (lengths ns))
      rows_add_up = let w = walk_covers walked.fields s ns walked.walks in (w.total, w.starts)

      -- their number is that of the passes that use up the data, and of no other;
      pub rows_counted : (m : ℕ) → Uses (unfolded d) rows s m ↔ (m ≡ length ns)
      rows_counted m = (λ u. walked.used rows m repeats u, λ q. rw q (walked.uses rows repeats))

      -- so each byte lies in one item, and in no other.
      pub byte_in_one_of_rows : (b : ℕ) → b < length s → (k : ℕ) × InItem ns b k
      byte_in_one_of_rows b h = in_an_item walked.fields s ns walked.walks b h

      pub byte_in_no_other_of_rows : (b j k : ℕ) → InItem ns b j → InItem ns b k → j ≡ k
      byte_in_no_other_of_rows b j k x y = in_one_item walked.fields s ns walked.walks b j k x y

      -- The list with room for them holds them; a smaller one is refused with 12 and is as before;
      pub rows_list_holds : (old : List ℕ) → 2 + 2 * length ns ≤ length old → entries_after old (list d s old) ≡ item_list (length ns) (length s) ns old
      rows_list_holds old room = rw (list_walks_rows old, e, le-ltb (length old) (2 + 2 * length ns) room)

      pub rows_list_small : (old : List ℕ) → length old < 2 + 2 * length ns → (list d s old ≡ refuse 12 0) × (entries_after old (list d s old) ≡ old)
      rows_list_small old small_is =
          let q : list d s old ≡ refuse 12 0 = rw (list_walks_rows old, e, lt-ltb (length old) (2 + 2 * length ns) small_is) in
          (q, rw q)

      -- the state of each is what was noted of it, and its part is lent, and behind them there is no item.
      pub rows_state_holds : (k : ℕ) → k < length ns
          → (i : Note) × (get_elem? ns k ≡ some i)
          × (state_of (item_at d s k) ≡ Ok (record { null = i.is_null; code = i.field.code; lead = i.lead; value = i.value; spare = i.spare }))
          × (lent s (item_at d s k) ≡ value_of s i)
      rows_state_holds k h = state_holds_by ns (walks_rows ∙ e) k h

      pub no_more_rows : (k : ℕ) → length ns ≤ k
          → (answer (state_of (item_at d s k)) ≡ refuse 17 0)
          × (given_state (item_at d s k) ≡ record { number = 17; place = 0; null = false; code = 0; lead = 0; value = 0; spare = 0 })
          × (lent s (item_at d s k) ≡ [])
      no_more_rows k h = no_more_states_by ns (walks_rows ∙ e) k h

-- THE THREE PARTS OF AN ITEM (Q-6)

null_state : (i : Note) → i.is_null ≡ true → i.lead ≡ 1 → i.value ≡ 0 → i.spare ≡ 0
    → state_by i ≡ record { null = true; code = i.field.code; lead = 1; value = 0; spare = 0 }
null_state i n a b c = rw (n, a, b, c)

-- Of each item of the list, the three lengths that its state has add up to the item's length, from its start to where the list has its end.
pub three_add_up : (d s old new : List ℕ) → list d s old ≡ ok new → (k : ℕ) → k < get_or new 0 0
    → (u : State) × (state_of (item_at d s k) ≡ Ok u) × (get_or new (2 + k) 0 + (u.lead + u.value + u.spare) ≡ end_listed new k)
three_add_up d s old new e k h = let (i, a, b) = listed_item d s old new e k h in (state_by i, rw a, b)

module _ (d s : List ℕ) (k : ℕ) where
  -- A refused item has no state.
  pub refused_state : (m p : ℕ) → item_at d s k ≡ refuse m p → answer (state_of (item_at d s k)) ≡ refuse m p
  refused_state m p e = state_refused d s k m p e

  -- A refusal has three zeros,
  pub refused_zeros : (m p : ℕ) → item_at d s k ≡ refuse m p → given_state (item_at d s k) ≡ record { number = m; place = p; null = false; code = 0; lead = 0; value = 0; spare = 0 }
  refused_zeros m p e = rw e

  -- and of an item's state a program in C is given number 0, place 0 and the state itself.
  pub state_as_given : (u : State) → state_of (item_at d s k) ≡ Ok u
      → given_state (item_at d s k) ≡ record { number = 0; place = 0; null = u.null; code = u.code; lead = u.lead; value = u.value; spare = u.spare }
  state_as_given u e = go (item_at d s k) e
    where
      go : (x : Result Note) → state_of x ≡ Ok u
          → given_state x ≡ record { number = 0; place = 0; null = u.null; code = u.code; lead = u.lead; value = u.value; spare = u.spare }
      go (refuse m p) e = absurd (let z : ◌≡◌ {A = ℕ} 0 1 = cc in let w : ⊥ = omega arith in w)
      go (ok i) e = let w : state_by i ≡ u = cc in rw (← w)

  module _ (i : Note) (e : item_at d s k ≡ ok i) where
    -- The parts of the data that have these lengths, one behind the other from the item's start on, are those of the standard's account, for every type;
    pub parts_accounted : Item i.field i.is_null (part_bytes s i lead) (part_bytes s i value) (part_bytes s i spare)
    parts_accounted = parts_account d s k i e

    pub parts_long : (w : Part) → length (part_bytes s i w) ≡ part_length i w
    parts_long w = part_long d s k i e w

    -- the lent part is the value;
    pub lent_is_value : lent s (item_at d s k) ≡ part_bytes s i value
    lent_is_value = rw e

    -- a null is all lead;
    pub null_all_lead : (u : State) → state_of (item_at d s k) ≡ Ok u → u.null ≡ true → u ≡ record { null = true; code = i.field.code; lead = 1; value = 0; spare = 0 }
    null_all_lead u o n =
        let v = rw e at o in
        let w : state_by i ≡ u = cc in
        let m : i.is_null ≡ true = rw (← w) at n in
        let (a, b, c) = null_lengths d s k i e m in
        sym w ∙ null_state i m a b c

    -- and of a value of X'03' the terminator belongs to what follows: the value has no zero byte, and what follows it begins with one.
    pub terminator_in_spare : (u : State) → state_of (item_at d s k) ≡ Ok u → type_of u.code ≡ some terminated_bytes → u.null ≡ false
        → (rest : List ℕ) × (part_bytes s i spare ≡ 0 ∷ rest) × NonZero (lent s (item_at d s k)) × (u.spare ≡ 1 + length rest)
    terminator_in_spare u o t n =
        let v = rw e at o in
        let w : state_by i ≡ u = cc in
        let typed : type_of i.field.code ≡ some terminated_bytes = rw (← w) at t in
        let own = (item_good d s k i e).field_good.typed in
        let q : i.field.type ≡ terminated_bytes = cc in
        let (rest, a, b) = ended_parts d s k i e q (rw (← w) at n) in
        (rest, a, rw e b, omega (arith, part_long d s k i e spare, ap length a, ap (λ (v : State). v.spare) w))

-- The three parts of all items, in order, are the block's bytes,
module _ (d s : List ℕ) (n : ℕ) (accepts : check d ≡ ok n) (ns : List Note) (e : walk_by (unfolded d) (repeated d) s ≡ ok ns) where
  by_fields : WalkedBy d n accepts s ns
  by_fields = walked_by d n accepts s ns e

  pub parts_in_order : all_parts s ns ≡ s
  parts_in_order = all_parts_lem by_fields.fields s ns by_fields.walks

  -- each once.
  pub byte_in_one_part : (b : ℕ) → b < length s → (k : ℕ) × ((w : Part) × InPart ns b k w)
  byte_in_one_part b h = in_a_part by_fields.fields s ns by_fields.walks b h

  pub byte_in_no_other_part : (b j k : ℕ) (v w : Part) → InPart ns b j v → InPart ns b k w → (j ≡ k) × (v ≡ w)
  byte_in_no_other_part b j k v w x y = in_one_part by_fields.fields s ns by_fields.walks b j k v w x y

-- DEMAND 2

-- The size of an SDA's field (Q-2) is the one that its parameters give where 01's table allows that,
module _ (t : List ℕ) where
  abbrev byte6 : ℕ
  byte6 = byte (parameters_of t) 6

  abbrev byte7 : ℕ
  byte7 = byte (parameters_of t) 7

  module _ (T : FieldType) (typed : type_of (code_of t) ≡ some T) where
    pub given_holds : (bias mode : ℕ) → Allowed (code_of t) bias mode byte6 byte7 → (field_of T t).size ≡ size_of (rule_of T).sizes byte6 byte7
    given_holds bias mode h = size_given (code_of t) T typed byte6 byte7 bias mode h

    -- the default of the type where Q-2 puts one in,
    pub default_holds : (n : ℕ) → Means (code_of t) byte6 byte7 n → (field_of T t).size ≡ bytes n
    default_holds n h = (size_default T byte6 byte7 (code_of t) n (code_of_type (code_of t) T typed) h).0

  -- and where there is neither, the SDA is refused with 6;
  module _ (es : List (ℕ × Entry)) (p : ℕ) (l : good_length_sda t ≡ true) where
    pub else_6 : ((bias mode : ℕ) → Allowed (code_of t) bias mode byte6 byte7 → ⊥) → ((n : ℕ) → Means (code_of t) byte6 byte7 n → ⊥)
        → check_sda es p t ≡ refuse 6 p
    unfolding check_sda
    else_6 no-given none-put-in = rw (l, bad_type t (size_else (code_of t) (parameters_of t) no-given none-put-in))

    -- so a binary float of 16 bytes is.
    pub sixteen_6 : OneOf (code_of t) (0x47 ∷ 0x48 ∷ 0xC7 ∷ 0xC8 ∷ []) → F byte6 byte7 ≡ 16 → check_sda es p t ≡ refuse 6 p
    sixteen_6 c e = else_6 (no_sixteen byte6 byte7 e (code_of t) c) (sixteen_kept byte6 byte7 e (code_of t))

-- A group of a GDA (Q-4) adds the field of an SDA without extents, with the size of its two bytes;
module _ (ref a b : ℕ) (f : Field) where
  abbrev adds : List Field
  adds = fields_added gda (record { ref = ref; byte1 = a; byte2 = b }) (some (U.array f []))

  pub length_replaces : 0 < F a b → adds ≡ with_size (size_of (rule_of f.type).sizes a b) f ∷ []
  length_replaces h = rw (lt-ltb 0 (F a b) h)

  -- a length of zero keeps the field as it is;
  pub zero_keeps : F a b ≡ 0 → adds ≡ f ∷ []
  zero_keeps e = rw e

-- and a length that does not suit the type of an SDA without extents is refused with 21, with no default put in.
pub misfit_21 : (ends : Bool) (p n ref a b code : ℕ) → 0 < F a b → (Suits code a b → ⊥)
    → add_group gda ends p n (record { ref = ref; byte1 = a; byte2 = b }) (some (array code [])) ≡ refuse 21 p
unfolding add_group count_added good_column
misfit_21 ends p n ref a b code h unsuited = rw (lt-ltb 0 (F a b) h) (go (suits_type (type_of code) a b) refl)
  where
    go : (x : Bool) → suits_type (type_of code) a b ≡ x → ((reject (not x) 21 p >> ok 1) >>= (λ k. reject (ltb max_items (n + k)) 10 p >> ok (n + k))) ≡ refuse 21 p
    go true e = absurd (unsuited (type_suits code a b e))
    go false e = refl

-- No field of an accepted descriptor has a bias indicator, a mode or a size that 01's table does not allow for its code.
pub lengths_allowed : (d : List ℕ) (n : ℕ) → check d ≡ ok n → (fs : List Field) → Unfolds d fs → (before : List Field) (f : Field) (after : List Field)
    → fs ≡ before ++ (f ∷ after)
    → (type_of f.code ≡ some f.type) × ((a b : ℕ) × Allowed f.code f.bias f.mode a b × (f.size ≡ size_of (rule_of f.type).sizes a b))
lengths_allowed d n e fs u before f after k = let g = good_at before f after (rw k at (unfolding_good d n e fs u)) in (g.typed, field_allowed f g)

-- A list call accepts a block only if its bytes are the items of the unfolding by the standard's account, one after the other and nothing behind; with rows
-- to the end of the unfolding with some number of passes, at most 4,096 items,
pub accepted_unfolds : (d s old new : List ℕ) → list d s old ≡ ok new → (fs : List Field) × Unfolds d fs × (length fs ≤ 4096) × ((xs : List Parts) × Block fs xs s)
accepted_unfolds d s old new e =
    let k = list_keeps d s old new e in
    let x = walked_by d k.n k.accepts s k.notes k.walks in
    let b = walk_sound x.fields s k.notes x.walks in
    (x.fields, x.unfolds, omega (arith, x.few, item_count x.fields s k.notes x.walks), (b.parts, b.block))

pub accepted_is_block : (d s old new : List ℕ) → repeated d ≡ none → list d s old ≡ ok new → (xs : List Parts) × Block (unfolded d) xs s
accepted_is_block d s old new plain e =
    let k = list_keeps d s old new e in
    let x = walked_by d k.n k.accepts s k.notes k.walks in
    let b = walk_sound (unfolded d) s k.notes (rw (x.plain plain) at x.walks) in
    (b.parts, b.block)

module _ (d s : List ℕ) (n : ℕ) (accepts : check d ≡ ok n) (few : length s ≤ 32768) where
  -- and it accepts each such block,
  pub block_is_accepted : repeated d ≡ none → (xs : List Parts) → Block (unfolded d) xs s → (old : List ℕ) → 2 + 2 * n ≤ length old
      → list d s old ≡ ok (item_list n (length s) (notes_of 0 (unfolded d) xs) old)
  block_is_accepted plain xs b old room = rw (list_walks d s n accepts few plain old room, walk_complete (unfolded d) xs s b)

  module _ (rows : List Field) (repeats : repeated d ≡ some rows) where
    pub passes_are_accepted : (j : ℕ) (xs : List Parts) → Block (with_passes (unfolded d) rows j) xs s → length (with_passes (unfolded d) rows j) ≤ 4096
        → (old : List ℕ) → 2 + 2 * length (with_passes (unfolded d) rows j) ≤ length old
        → list d s old
        ≡ ok (item_list (length (with_passes (unfolded d) rows j)) (length s) (notes_of 0 (with_passes (unfolded d) rows j) xs) old)
    passes_are_accepted j xs b l old room =
        let fs = with_passes (unfolded d) rows j in
        let w : walk_rows (unfolded d) rows s ≡ ok (notes_of 0 fs xs) =
        sym (walks_rows d s n accepts few rows repeats) ∙ block_walked d n accepts s fs (and_passes j repeats) xs b l in
        let c : length (notes_of 0 fs xs) ≡ length fs = notes_number 0 b in
        rw (list_walks_rows d s n accepts few rows repeats old, w, c, le-ltb (length old) (2 + 2 * length fs) room)

    -- in one way only: no other number of passes has these bytes.
    pub one_number_of_passes : (i j : ℕ) (xs ys : List Parts) → Block (with_passes (unfolded d) rows i) xs s → Block (with_passes (unfolded d) rows j) ys s → i ≡ j
    one_number_of_passes i j xs ys a b =
        one_number (unfolded d) rows s (rows_good d n accepts rows repeats) (not_endless d n accepts rows repeats) i j xs ys a b

-- NULL INDICATORS (document 02, Q-8). An item is refused with 24 exactly where its null indicator is X'01' to X'7F', whatever stands behind that byte; any
-- other is measured as document 01 has it, with the low bits not looked at: 13 where the indicator is missing, and 13, 14 or 15 behind it.
module _ (f : Field) (s : List ℕ) where
  pub bad_24 : (measure f s ≡ refused 24) ↔ BadIndicator f s
  bad_24 = item_24 f s

  pub else_by_high_bit : (BadIndicator f s → ⊥) → measure f s ≡ measure_by_high_bit f s
  else_by_high_bit good = item_else f s good

data_fits : (d s : List ℕ) → oversize d s ≡ false → length s ≤ 32768
data_fits d s h = at_least (length s) 32768 (λ k. neither_over max_descriptor (length d) max_data (length s) h (inr k))

-- The accepted blocks are those of measuring: a list call takes each with room for its items, and a state call each with an item of that number;
pub list_takes : (d s old : List ℕ) → ((new : List ℕ) × (list d s old ≡ ok new)) ↔ ((ns : List Note) × AcceptedWith measure d s ns × (2 + 2 * length ns ≤ length old))
list_takes d s old = (λ (new, e). to new e, λ (ns, x, room). (item_list (length ns) (length s) ns old, back ns x room))
  where
    to : (new : List ℕ) → list d s old ≡ ok new → (ns : List Note) × AcceptedWith measure d s ns × (2 + 2 * length ns ≤ length old)
    to new e =
        let k = list_keeps d s old new e in
        (k.notes, walks_accepted d s k.notes k.n k.accepts (data_fits d s k.fits) k.walks, k.room)

    back : (ns : List Note) → AcceptedWith measure d s ns → 2 + 2 * length ns ≤ length old → list d s old ≡ ok (item_list (length ns) (length s) ns old)
    back ns x room = go (repeated d) refl
      where
        go : (o : Option (List Field)) → repeated d ≡ o → list d s old ≡ ok (item_list (length ns) (length s) ns old)
        go none r =
            let u : walk (unfolded d) s ≡ ok ns = sym (walks_unfolding d s x.count x.checks x.fits r) ∙ accepted_walks d s ns x in
            let c : length ns ≡ x.count = items_noted d s x.count ns x.checks u in
            rw (list_walks d s x.count x.checks x.fits r old (omega arith), u, c)
        go (some rows) r =
            let u : walk_rows (unfolded d) rows s ≡ ok ns = sym (walks_rows d s x.count x.checks x.fits rows r) ∙ accepted_walks d s ns x in
            rw (list_walks_rows d s x.count x.checks x.fits rows r old, u, le-ltb (length old) (2 + 2 * length ns) room)

pub state_takes : (d s : List ℕ) (k : ℕ) → ((i : Note) × (item_at d s k ≡ ok i)) ↔ ((ns : List Note) × AcceptedWith measure d s ns × (k < length ns))
unfolding item_at
state_takes d s k = (λ (i, e). to i e, λ (ns, x, h). let (i, q) = there ns k h in (i, rw (item_walks d s x.count x.checks x.fits k, accepted_walks d s ns x, q)))
  where
    not_none : {i : Note} (o : Option Note) → the o 17 0 ≡ ok i → o ≡ none → ⊥
    not_none none e q = let z : ◌≡◌ {A = ℕ} 0 1 = cc in omega arith
    not_none (some a) e q = let z : ◌≡◌ {A = ℕ} 0 1 = cc in omega arith

    among : (ns : List Note) (i : Note) → the (get_elem? ns k) 17 0 ≡ ok i → k < length ns
    among ns i e = at_least (suc k) (length ns) (λ h. not_none (get_elem? ns k) e (past_end ns k (omega arith)))

    to : (i : Note) → item_at d s k ≡ ok i → (ns : List Note) × AcceptedWith measure d s ns × (k < length ns)
    to i e =
        let (fits, e₁) = ok_reject (oversize d s) 1 0 _ i e in
        let (n, checks, e₂) = ok_bind (check d) _ i e₁ in
        let (ns, walks, e₃) = ok_bind (walk_by (unfolded d) (repeated d) s) _ i e₂ in
        (ns, walks_accepted d s ns n checks (data_fits d s fits) walks, among ns i e₃)

-- and they shrank by just those with a bad indicator: a block is accepted exactly if it would be with the low bits not looked at, and no null indicator of
-- its items is X'01' to X'7F'. What is noted of its items is the same.
pub shrank : (d s : List ℕ) (ns : List Note) → AcceptedWith measure d s ns ↔ (AcceptedWith measure_by_high_bit d s ns × NoneBad s ns)
shrank d s ns = accepted_shrinks d s ns

-- Each item of such a block, fs being the unfolding, with rows to the end with some number of passes:
module _ (d s : List ℕ) (n : ℕ) (accepts : check d ≡ ok n) (few : length s ≤ 32768) (fs : List Field) (unfolds : Unfolds d fs) (most : length fs ≤ 4096)
    (xs : List Parts) (b : Block fs xs s) where
  module _ (k : ℕ) (f : Field) (x : Parts) (a : get_elem? fs k ≡ some f) (c : get_elem? xs k ≡ some x) where
    item_is : (item_at d s k ≡ ok (note_of_parts (start_of xs k) f x)) × (value_of s (note_of_parts (start_of xs k) f x) ≡ x.value)
    item_is =
        let v = note_of_part 0 fs xs s s b refl k f x a c in
        let e : 0 + start_of xs k ≡ start_of xs k = omega arith in
        (rw (item_walks d s n accepts few k, block_walked d n accepts s fs unfolds xs b most, v.0, e), rw e at v.1)

    -- Item k has the null mark, the value and the length of its part, the type code of its field, and the whole number that the type reads from the
    -- value; 18 stands at its start, behind the parts before it.
    pub read_as_accounted : (state_of (item_at d s k) ≡ Ok (record { null = x.is_null; code = f.code; lead = length x.lead; value = length x.value; spare = length x.spare }))
        × (lent s (item_at d s k) ≡ x.value)
        × (whole_number d s k ≡ (the (whole_of f.type x.value) 18 (start_of xs k) >>= (λ z. ok (x.is_null, if x.is_null then pos 0 else z))))
    unfolding whole_number
    read_as_accounted = let (i, u) = item_is in (rw i, rw i u, rw (i, u))

    -- A field of p digits gives its fraction digits, with 0 for a null,
    module _ (p fraction : ℕ) (h : f.size ≡ digits p fraction) where
      pub null_packed : x.is_null ≡ true → packed d s k ≡ ok (true, pos 0, fraction)
      unfolding packed
      null_packed z = let (i, _) = item_is in rw (i, h, z)

      abbrev given : Option ℤ → Result (Bool × ℤ × ℕ)
      given o = the o 20 (start_of xs k) >>= (λ z. ok (false, z, fraction))

      reads : x.is_null ≡ false → packed d s k ≡ given (packed_number p x.value)
      unfolding packed
      reads z = let (i, u) = item_is in rw (i, h, z, u)

      value_size : x.is_null ≡ false → length x.value ≡ p / 2 + 1
      unfolding rule_of
      value_size z =
          let g = item_good d s k (note_of_parts (start_of xs k) f x) item_is.0 in
          let l : (rule_of f.type).layout ≡ fixed = rw (digits_packed f g.field_good p fraction h) in
          rw h at ((g.filled l).1 z)

      -- with z for a value exactly where its bytes are those of p digits and a sign that stand for z,
      pub packed_as_accounted : x.is_null ≡ false → (z : ℤ) → (packed d s k ≡ ok (false, z, fraction)) ↔ Packed p x.value z
      packed_as_accounted w z =
          (λ e. packed_sound p x.value z (value_size w) (is_read (packed_number p x.value) (sym (reads w) ∙ e)), λ y. reads w ∙ rw (packed_complete p x.value z y))
        where
          is_read : (o : Option ℤ) → given o ≡ ok (false, z, fraction) → o ≡ some z
          is_read none e = absurd (let z : ◌≡◌ {A = ℕ} 0 1 = cc in let w : ⊥ = omega arith in w)
          is_read (some y) e = let q : ◌≡◌ {A = Bool × ℤ × ℕ} (false, y, fraction) (false, z, fraction) = cc in ap (λ v. some v.1) q

      -- and 20 at its start where they are not.
      pub else_20 : x.is_null ≡ false → ((z : ℤ) → Packed p x.value z → ⊥) → packed d s k ≡ refuse 20 (start_of xs k)
      else_20 w none_is = reads w ∙ go (packed_number p x.value) refl
        where
          go : (o : Option ℤ) → packed_number p x.value ≡ o → given o ≡ refuse 20 (start_of xs k)
          go none e = refl
          go (some z) e = absurd (none_is z (packed_sound p x.value z (value_size w) e))

    -- THE VALUE (document 02, Q-7). Of a field that is not read it is refused with 18, null or not,
    pub unread_18 : reading_of f ≡ none → calls.value d s k ≡ refuse 18 (start_of xs k)
    unfolding calls.value
    unread_18 h = let (i, _) = item_is in rw (i, h)

    -- and of a field that is read a null is Null.
    module _ (r : Reading) (h : reading_of f ≡ some r) where
      pub null_is_Null : x.is_null ≡ true → calls.value d s k ≡ ok Null
      unfolding calls.value
      null_is_Null z = let (i, _) = item_is in rw (i, h, z)

      value_read_lem : x.is_null ≡ false → calls.value d s k ≡ the (read_by r x.value) 23 (start_of xs k)
      unfolding calls.value
      value_read_lem z = let (i, u) = item_is in rw (i, h, z, u)

    -- A whole number is that of the value's bytes.
    pub value_whole : (reversed : Bool) → reading_of f ≡ some (whole reversed) → x.is_null ≡ false → calls.value d s k ≡ ok (Whole (signed (ordered x.value reversed)))
    unfolding read_by
    value_whole reversed h z = value_read_lem (whole reversed) h z

    module _ (reversed : Bool) (F : Format) (h : reading_of f ≡ some (float reversed F)) (z : x.is_null ≡ false) where
      -- The bits of the value's bytes.
      abbrev pub bits : ℕ
      bits = big (ordered x.value reversed)

      -- The float v: its characteristic is in range, 64 bits hold it, and it equals the number of the bits.
      abbrev pub Exact : Float → Type 0
      Exact v = (characteristic F bits ≤ F.maximum) × T (fits binary64 v) × Equal v (float_specs.number_of F bits)

      answered : (o : Option Float) → float_of F bits ≡ o → calls.value d s k ≡ the (calls.real o) 23 (start_of xs k)
      unfolding read_by
      answered o e = rw (← e) (value_read_lem (float reversed F) h z)

      -- A float is given exactly where it is such a one,
      pub exact_float : (v : Float) → (calls.value d s k ≡ ok (Real v)) ↔ Exact v
      exact_float v = (λ e. float_is F bits v (go (float_of F bits) refl e), λ y. answered (some v) (is_float F bits v y.0 y.1 y.2))
        where
          go : (o : Option Float) → float_of F bits ≡ o → calls.value d s k ≡ ok (Real v) → float_of F bits ≡ some v
          go none q e = absurd (let y = answered none q in let z : ◌≡◌ {A = ℕ} 0 1 = cc in let w : ⊥ = omega arith in w)
          go (some w) q e = let y = answered (some w) q in let same : w ≡ v = cc in q ∙ ap some same

      -- and 23 at the item's start exactly where there is none.
      pub no_exact_23 : (calls.value d s k ≡ refuse 23 (start_of xs k)) ↔ ((v : Float) → Exact v → ⊥)
      no_exact_23 = (
        λ e v y. let g = (exact_float v).1 y in let z : ◌≡◌ {A = ℕ} 0 1 = cc in omega arith,
        λ t. go (float_of F bits) refl t,
      )
        where
          go : (o : Option Float) → float_of F bits ≡ o → ((v : Float) → Exact v → ⊥) → calls.value d s k ≡ refuse 23 (start_of xs k)
          go none q t = answered none q
          go (some v) q t = absurd (t v (float_is F bits v q))

      -- A binary float of 8 bytes has the bits that came.
      pub bits_as_they_came : F ≡ long_binary → ((i : ℕ) → get_or (ordered x.value reversed) i 0 < 256) → (v : Float) → calls.value d s k ≡ ok (Real v) → to_bits binary64 v ≡ bits
      unfolding big
      bits_as_they_came l below v e = bits_back bits v small (rw (← l) given)
        where
          given : float_of F bits ≡ some v
          given = let (a, b, c) = (exact_float v).0 e in is_float F bits v a b c

          small : bits < 2 ^ 64
          small =
              let g = item_good d s k (note_of_parts (start_of xs k) f x) item_is.0 in
              let n : length x.value ≡ 8 = (g.filled (reading_fixed f (float reversed F) h)).1 z ∙ float_length f g.field_good reversed F h ∙ rw l in
              let o : length (ordered x.value reversed) ≡ 8 = ordered_length x.value reversed ∙ n in
              rw o at (base_below 256 (ordered x.value reversed) below)

-- Of the 64-bit floats one alone equals a number.
pub one_float : (n : Number) (v w : Float) → T (fits binary64 v) → T (fits binary64 w) → Equal v n → Equal w n → v ≡ w
one_float n v w f g p q = only_canonical n v f p ∙ sym (only_canonical n w g q)

-- Equal bytes that are read alike have equal values, in whatever blocks they stand.
pub equal_bytes : (d s d' s' : List ℕ) (k k' : ℕ) (i i' : Note) → item_at d s k ≡ ok i → item_at d' s' k' ≡ ok i' → reading_of i.field ≡ reading_of i'.field → i.is_null ≡ false
    → i'.is_null ≡ false → value_of s i ≡ value_of s' i' → (v w : Value) → calls.value d s k ≡ ok v → calls.value d' s' k' ≡ ok w → v ≡ w
unfolding calls.value
equal_bytes d s d' s' k k' i i' e e' r z z' b v w h h' = go (reading_of i'.field) refl (rw (e, r, z, b) at h) (rw (e', z') at h')
  where
    the_value : (o : Option Value) (p : ℕ) (v : Value) → the o 23 p ≡ ok v → o ≡ some v
    the_value none p v h = absurd (let z : ◌≡◌ {A = ℕ} 0 1 = cc in let w : ⊥ = omega arith in w)
    the_value (some x) p v h = let q : x ≡ v = cc in ap some q

    go : (o : Option Reading) → reading_of i'.field ≡ o → (the o 18 i.start >>= (λ r. the (read_by r (value_of s' i')) 23 i.start)) ≡ ok v
        → (the o 18 i'.start >>= (λ r. the (read_by r (value_of s' i')) 23 i'.start)) ≡ ok w → v ≡ w
    go none q h h' = absurd (let z : ◌≡◌ {A = ℕ} 0 1 = cc in let w : ⊥ = omega arith in w)
    go (some r) q h h' =
        let x = the_value (read_by r (value_of s' i')) i.start v h in
        let y = the_value (read_by r (value_of s' i')) i'.start w h' in
        cc
