-- The three parts of an item: they are those of the standard's account, and in order they are the block's bytes, each once.
-- Assumes nothing.
use Rattle.std.specs.Prelude.{if◌then◌else◌}
use mathlib.Core.Path.{◌≡◌, refl, sym, ap, ◌∙◌}
use Prim.Native.Nat.{ℕ, zero, suc, ◌+◌, ◌*◌, ◌≤◌, ◌<◌}
use native.Mathlib.Omega.{arith}
use mathlib.Core.Bool.{Bool, true, false}
use mathlib.Core.List.{List, [], ◌∷◌, ◌++◌, map, append_assoc, append-nil}
use mathlib.Core.Option.{Option, none, some}
use lib.Dec.{ltb}
use lib.ListN.{length, take, drop, get_or, get_elem?}
use lib.Seq.{drop-drop, get_or-drop}
use borrow.Author.Tests.{lt-ltb, le-ltb}
use Rattle.fdoca.specs.Basics.{ok, the}
use Rattle.fdoca.specs.FieldType.{FieldType, terminated_bytes, rule_of, Size}
use Rattle.fdoca.specs.Item.{Field}
use Rattle.fdoca.specs.Account as account
use Rattle.fdoca.specs.Account.{NonZero, Value, of_size, after_two, after_one, up_to_zero, Item, plain, null, Parts, Block, done, next}
use Rattle.fdoca.specs.Check.{check}
use Rattle.fdoca.specs.Unfolding.{unfolded, repeated}
use Rattle.fdoca.specs.Walk.{Note, item_length, walk, walk_by}
use Rattle.fdoca.specs.Calls.{oversize, list, item_at}
use Rattle.fdoca.specs.Between.{Stands}
use Rattle.fdoca.specs.Cover.{sum, positions, lengths, InItem, Part, lead, value, spare, part_start, part_length, part_bytes, all_parts, InPart, end_listed, size, notes_of}
use Rattle.fdoca.proofs.Results.{IfOk, none_owed, holds, bind_all, reject_all, ok_of, itself}
use Rattle.fdoca.proofs.Tests.{by_order}
use Rattle.fdoca.proofs.Table.{there, is_there}
use Rattle.fdoca.proofs.Account.{fixed_layout, measure_sound}
use Rattle.fdoca.proofs.Cover.{Walked, walk_covers, in_an_item, in_one_item, standing, nth_stands}
use Rattle.fdoca.proofs.Blocks.{walk_sound, first_parts, behind}
use Rattle.fdoca.proofs.Data.{walked_by}
use Rattle.fdoca.proofs.Calls.{Listing, list_keeps}

-- ---- the item that the calls tell of

nth_stands_all : (d s : List ℕ) (k : ℕ) → IfOk (Stands s) (item_at d s k)
unfolding item_at
nth_stands_all d s k =
    reject_all (oversize d s) 1 0
    (λ h. bind_all (check d) (itself (check d))
    (λ n e. bind_all (walk_by (unfolded d) (repeated d) s) (itself (walk_by (unfolded d) (repeated d) s))
    (λ ns w. let x = walked_by d n e s ns w in go ns (get_elem? ns k) refl (λ i q. nth_stands (standing x.fields s ns x.walks) k i q))))
  where
    go : (ns : List Note) (o : Option Note) → get_elem? ns k ≡ o → ((i : Note) → get_elem? ns k ≡ some i → Stands s i) → IfOk (Stands s) (the o 17 0)
    go ns none q h = none_owed
    go ns (some i) q h = holds (h i q)

same_account : {f : Field} {m n : Bool} {p p' v v' r r' : List ℕ} → m ≡ n → p ≡ p' → v ≡ v' → r ≡ r' → Item f n p' v' r' → Item f m p v r
same_account e a b c h = rw (e, a, b, c) h

-- by the account a null is one byte, and all of that precedes the value
null_account : {f : Field} {n : Bool} {p v r : List ℕ} → n ≡ true → Item f n p v r → (length p ≡ 1) × (length v ≡ 0) × (length r ≡ 0)
null_account e (plain h x) = absurd (let z : ◌≡◌ {A = ℕ} 0 1 = cc in let w : ⊥ = omega arith in w)
null_account e (null h k) = (refl, refl, refl)
null_account e (account.value h x) = absurd (let z : ◌≡◌ {A = ℕ} 0 1 = cc in let w : ⊥ = omega arith in w)

-- and a null-terminated value has no zero byte, with one right behind it
abbrev pub Ended : (v r : List ℕ) → Type 0
Ended v r = (rest : List ℕ) × (r ≡ 0 ∷ rest) × NonZero v

ended_value : {mode : ℕ} {z : Size} {T : FieldType} {p v r : List ℕ} → T ≡ terminated_bytes → Value mode z T p v r → Ended v r
unfolding rule_of
ended_value e (of_size {T} h x) = absurd (let q = fixed_layout h in let y : ◌≡◌ {A = ℕ} 0 1 = cc in let w : ⊥ = omega arith in w)
ended_value e (after_two a b c) = absurd (let z : ◌≡◌ {A = ℕ} 0 1 = cc in let w : ⊥ = omega arith in w)
ended_value e (after_one a b) = absurd (let z : ◌≡◌ {A = ℕ} 0 1 = cc in let w : ⊥ = omega arith in w)
ended_value e (up_to_zero {r = r} h x) = (r, refl, h)

ended_account : {f : Field} {n : Bool} {p v r : List ℕ} → f.type ≡ terminated_bytes → n ≡ false → Item f n p v r → Ended v r
ended_account t e (plain h x) = ended_value t x
ended_account t e (null h k) = absurd (let z : ◌≡◌ {A = ℕ} 0 1 = cc in let w : ⊥ = omega arith in w)
ended_account t e (account.value h x) = ended_value t x

module _ (d s : List ℕ) (k : ℕ) (i : Note) (e : item_at d s k ≡ ok i) where
  stands : Stands s i
  stands = ok_of (rw e at (nth_stands_all d s k))

  -- its three parts of the data are those of the account
  record Accounted (x : Parts) : Type 0 where
    account_is : Item i.field i.is_null x.lead x.value x.spare
    lead_is : part_bytes s i lead ≡ x.lead
    value_is : part_bytes s i value ≡ x.value
    spare_is : part_bytes s i spare ≡ x.spare
    long : (i.lead ≡ length x.lead) × (i.value ≡ length x.value) × (i.spare ≡ length x.spare)

  part_is : (w : Part) (l : List ℕ) (n : ℕ) → n + i.start ≡ part_start i w → part_length i w ≡ length l → l ≡ take (length l) (drop n (drop i.start s)) → part_bytes s i w ≡ l
  part_is w l n a b h =
      let e : i.start + n ≡ part_start i w = omega arith in
      let q : drop n (drop i.start s) ≡ drop (part_start i w) s = drop-drop n i.start s ∙ rw e in
      rw b (sym (rw q at h))

  accounted : (x : Parts) × Accounted x
  accounted =
      let (x, y, z) = measure_sound i.field (drop i.start s) i.is_null i.lead i.value i.spare stands.measured in
      let m : i.is_null ≡ x.is_null = cc in
      let l : i.lead ≡ length x.lead = cc in
      let v : i.value ≡ length x.value = cc in
      let r : i.spare ≡ length x.spare = cc in
      let (a, b, c) = first_parts x (drop i.start s) y.rest y.split in (
        x,
        record {
          account_is = same_account m refl refl refl y.account;
          lead_is = part_is lead x.lead 0 (omega arith) l a;
          value_is = part_is value x.value (length x.lead) (omega arith) v b;
          spare_is = part_is spare x.spare (length x.lead + length x.value) (omega arith) r c;
          long = (l, v, r);
        },
      )

  pub parts_account : Item i.field i.is_null (part_bytes s i lead) (part_bytes s i value) (part_bytes s i spare)
  parts_account = let (x, y) = accounted in same_account refl y.lead_is y.value_is y.spare_is y.account_is

  -- and as long as the three lengths say
  pub part_long : (w : Part) → length (part_bytes s i w) ≡ part_length i w
  part_long lead = let (x, y) = accounted in ap length y.lead_is ∙ sym y.long.0
  part_long value = let (x, y) = accounted in ap length y.value_is ∙ sym y.long.1
  part_long spare = let (x, y) = accounted in ap length y.spare_is ∙ sym y.long.2

  pub null_lengths : i.is_null ≡ true → (i.lead ≡ 1) × (i.value ≡ 0) × (i.spare ≡ 0)
  null_lengths n =
      let (a, b, c) = null_account n parts_account in
      (sym (part_long lead) ∙ a, sym (part_long value) ∙ b, sym (part_long spare) ∙ c)

  pub ended_parts : i.field.type ≡ terminated_bytes → i.is_null ≡ false → Ended (part_bytes s i value) (part_bytes s i spare)
  ended_parts t n = ended_account t n parts_account

-- ---- all items of a block

-- the parts of a block of the account, in order, are its bytes
block_parts : (p : ℕ) {fs : List Field} {xs : List Parts} {s : List ℕ} (whole : List ℕ) → Block fs xs s → drop p whole ≡ s → all_parts whole (notes_of p fs xs) ≡ s
block_parts p whole done h = refl
block_parts p whole (next {f = f} {fs = fs} {ps = ps} {s = t} x i b) h =
    let (l, v, r) = first_parts x (x.lead ++ (x.value ++ (x.spare ++ t))) t refl in
    let e₁ : take (length x.lead) (drop p whole) ≡ x.lead = rw h (sym l) in
    let e₂ : take (length x.value) (drop (p + length x.lead) whole) ≡ x.value =
    rw (← drop-drop (length x.lead) p whole, h) (sym v) in
    let e₃ : take (length x.spare) (drop (p + length x.lead + length x.value) whole) ≡ x.spare =
    let q : p + length x.lead + length x.value ≡ p + (length x.lead + length x.value) = omega arith in
    rw (q, ← drop-drop (length x.lead + length x.value) p whole, h) (sym r) in
    let later : drop (p + size x) whole ≡ t = sym (drop-drop (size x) p whole) ∙ ap (drop (size x)) h ∙ behind x t in
    rw (e₁, e₂, e₃, block_parts (p + size x) whole b later)

-- entry k of what is mapped over items, with other entries behind
pub nth_mapped : (f : Note → ℕ) (ns : List Note) (t : List ℕ) (k : ℕ) (i : Note) → get_elem? ns k ≡ some i → get_or (map f ns ++ t) k 0 ≡ f i
nth_mapped f [] t k i e = absurd (let z : ◌≡◌ {A = ℕ} 0 1 = cc in let w : ⊥ = omega arith in w)
nth_mapped f (x ∷ ns) t zero i e = let q : x ≡ i = cc in rw q
nth_mapped f (x ∷ ns) t (suc k) i e = nth_mapped f ns t k i e

nth_alone : (f : Note → ℕ) (ns : List Note) (k : ℕ) (i : Note) → get_elem? ns k ≡ some i → get_or (map f ns) k 0 ≡ f i
nth_alone f ns k i e = rw (append-nil (map f ns)) at (nth_mapped f ns [] k i e)

in_item : (ns : List Note) (b k : ℕ) (w : Part) → InPart ns b k w → InItem ns b k
in_item ns b k w h =
    record {
      among = is_there ns k h.note h.is_item;
      after = rw (nth_alone (λ x. x.start) ns k h.note h.is_item) (go w h.after h.before).0;
      before = rw (nth_alone (λ x. x.start) ns k h.note h.is_item, nth_alone (λ x. item_length x) ns k h.note h.is_item) (go w h.after h.before).1;
    }
  where
    go : (w : Part) → part_start h.note w ≤ b → b < part_start h.note w + part_length h.note w → (h.note.start ≤ b) × (b < h.note.start + item_length h.note)
    go lead x y = (omega arith, omega arith)
    go value x y = (omega arith, omega arith)
    go spare x y = (omega arith, omega arith)

-- the byte at b lies in one part of an item only
one_part : (i : Note) (b : ℕ) (v w : Part) → part_start i v ≤ b → b < part_start i v + part_length i v → part_start i w ≤ b → b < part_start i w + part_length i w → v ≡ w
one_part i b lead lead p q x y = refl
one_part i b lead value p q x y = absurd (let z : ⊥ = omega arith in z)
one_part i b lead spare p q x y = absurd (let z : ⊥ = omega arith in z)
one_part i b value lead p q x y = absurd (let z : ⊥ = omega arith in z)
one_part i b value value p q x y = refl
one_part i b value spare p q x y = absurd (let z : ⊥ = omega arith in z)
one_part i b spare lead p q x y = absurd (let z : ⊥ = omega arith in z)
one_part i b spare value p q x y = absurd (let z : ⊥ = omega arith in z)
one_part i b spare spare p q x y = refl

by_ltb : {P : Type 0} (a b : ℕ) → (a < b → P) → (b ≤ a → P) → P
by_ltb a b f g = by_order a b f (λ e. g (omega arith)) (λ h. g (omega arith))

module _ (fs : List Field) (s : List ℕ) (ns : List Note) (e : walk fs s ≡ ok ns) where
  pub all_parts_lem : all_parts s ns ≡ s
  all_parts_lem = let w = walk_sound fs s ns e in rw w.noted (block_parts 0 s w.block refl)

  pub in_a_part : (b : ℕ) → b < length s → (k : ℕ) × ((w : Part) × InPart ns b k w)
  in_a_part b h =
      let (k, x) = in_an_item fs s ns e b h in
      let (i, q) = there ns k x.among in
      let after : i.start ≤ b = rw (nth_alone (λ x. x.start) ns k i q) at x.after in
      let before : b < i.start + item_length i = rw (nth_alone (λ x. x.start) ns k i q, nth_alone (λ x. item_length x) ns k i q) at x.before in
      (k, of_item k i q after before)
    where
      made : (k : ℕ) (i : Note) → get_elem? ns k ≡ some i → (w : Part) → part_start i w ≤ b → b < part_start i w + part_length i w → (w : Part) × InPart ns b k w
      made k i q w x y = (w, record { note = i; is_item = q; after = x; before = y })

      of_item : (k : ℕ) (i : Note) → get_elem? ns k ≡ some i → i.start ≤ b → b < i.start + item_length i → (w : Part) × InPart ns b k w
      of_item k i q x y =
          by_ltb b (i.start + i.lead) (λ o. made k i q lead x o)
          (λ o. by_ltb b (i.start + i.lead + i.value) (λ u. made k i q value o u) (λ u. made k i q spare u (omega arith)))

  pub in_one_part : (b j k : ℕ) (v w : Part) → InPart ns b j v → InPart ns b k w → (j ≡ k) × (v ≡ w)
  in_one_part b j k v w x y = let q : j ≡ k = in_one_item fs s ns e b j k (in_item ns b j v x) (in_item ns b k w y) in (q, go q)
    where
      go : j ≡ k → v ≡ w
      go q =
          let a = x.is_item in
          let c : get_elem? ns j ≡ some y.note = rw (← q) at y.is_item in
          let n : x.note ≡ y.note = cc in
          one_part x.note b v w x.after x.before (rw (← n) at y.after) (rw (← n) at y.before)

-- ---- the item list

-- an item ends where the next one starts, and the last one behind all
next_start : (p : ℕ) (ns : List Note) (t : List ℕ) (k : ℕ) (i : Note) → map (λ i. i.start) ns ≡ positions p (lengths ns) → get_elem? ns k ≡ some i → suc k < length ns
    → i.start + item_length i ≡ get_or (map (λ i. i.start) ns ++ t) (suc k) 0
next_start p [] t k i h e l = absurd (let z : ⊥ = omega arith in z)
next_start p (x ∷ []) t k i h e l = absurd (let z : ⊥ = omega arith in z)
next_start p (x ∷ y ∷ ns) t zero i h e l = let q : x ≡ i = cc in let a : x.start ≡ p = cc in let b : y.start ≡ p + item_length x = cc in rw (← q, a, b)
next_start p (x ∷ y ∷ ns) t (suc k) i h e l =
    let a : map (λ i. i.start) (y ∷ ns) ≡ positions (p + item_length x) (lengths (y ∷ ns)) = cc in
    next_start (p + item_length x) (y ∷ ns) t k i a e (omega arith)

last_end : (p : ℕ) (ns : List Note) (k : ℕ) (i : Note) → map (λ i. i.start) ns ≡ positions p (lengths ns) → get_elem? ns k ≡ some i → length ns ≤ suc k
    → i.start + item_length i ≡ p + sum (lengths ns)
last_end p [] k i h e l = absurd (let z : ◌≡◌ {A = ℕ} 0 1 = cc in let w : ⊥ = omega arith in w)
last_end p (x ∷ []) zero i h e l = let q : x ≡ i = cc in let a : x.start ≡ p = cc in rw (← q, a) (omega arith)
last_end p (x ∷ y ∷ ns) zero i h e l = absurd (let z : ⊥ = omega arith in z)
last_end p (x ∷ ns) (suc k) i h e l =
    let a : map (λ i. i.start) ns ≡ positions (p + item_length x) (lengths ns) = cc in
    let q : i.start + item_length i ≡ p + item_length x + sum (lengths ns) = last_end (p + item_length x) ns k i a e (omega arith) in
    omega arith

module _ (d s old new : List ℕ) (e : list d s old ≡ ok new) (k : ℕ) (h : k < get_or new 0 0) where
  l : Listing d s old new
  l = list_keeps d s old new e

  abbrev others : List ℕ
  others = map (λ i. i.field.id) l.notes ++ drop (2 + 2 * length l.notes) old

  count_is : get_or new 0 0 ≡ length l.notes
  count_is = ap (λ x. get_or x 0 0) l.is_list

  entry_at : (j : ℕ) → get_or new (2 + j) 0 ≡ get_or (map (λ i. i.start) l.notes ++ others) j 0
  entry_at j =
      sym (get_or-drop 2 new j 0) ∙ ap (λ x. get_or (drop 2 x) j 0) l.is_list
      ∙ ap (λ x. get_or x j 0) (append_assoc (map (λ i. i.start) l.notes) (map (λ i. i.field.id) l.notes) (drop (2 + 2 * length l.notes) old))

  covers : (fs : List Field) × Walked fs s l.notes
  covers = let w = walked_by d l.n l.accepts s l.notes l.walks in (w.fields, walk_covers w.fields s l.notes w.walks)

  -- item k of the list, and its length
  pub listed_item : (i : Note) × (item_at d s k ≡ ok i) × (get_or new (2 + k) 0 + item_length i ≡ end_listed new k)
  unfolding item_at
  listed_item =
      let (i, q) = there l.notes k (rw count_is at h) in
      (i, rw (l.fits, l.accepts, l.walks, q), rw (entry_at k, nth_mapped (λ i. i.start) l.notes others k i q, count_is) (go i q))
    where
      go : (i : Note) → get_elem? l.notes k ≡ some i → i.start + item_length i ≡ (if ltb (1 + k) (length l.notes) then get_or new (3 + k) 0 else get_or new 1 0)
      go i q =
          by_ltb (1 + k) (length l.notes)
          (λ o. let three : 3 + k ≡ 2 + suc k = omega arith in
          rw (lt-ltb (1 + k) (length l.notes) o, three, entry_at (suc k)) (next_start 0 l.notes others k i covers.1.starts q (omega arith)))
          (λ o. let size_is : get_or new 1 0 ≡ length s = ap (λ x. get_or x 1 0) l.is_list in
          rw (le-ltb (1 + k) (length l.notes) o, size_is) (last_end 0 l.notes k i covers.1.starts q (omega arith) ∙ omega (arith, covers.1.total)))
