-- Rows to the end: the walk over them is the walk over the fields before them and some number of whole passes, or stops within these.
-- Assumes nothing.
use mathlib.Core.Path.{◌≡◌, refl, sym, ap, ◌∙◌}
use Prim.Native.Nat.{ℕ, zero, suc, ◌+◌, ◌-◌, ◌≤◌, ◌<◌}
use native.Mathlib.Nat.{zero-add}
use native.Mathlib.Omega.{arith}
use mathlib.Core.Bool.{false, true≢false}
use mathlib.Core.List.{List, [], ◌∷◌, ◌++◌, append_assoc, append-nil}
use lib.ListN.{length, take, drop, length-append, length-drop, take-append-drop}
use lib.Seq.{length-take-le}
use Rattle.fdoca.specs.Basics.{is_empty, repeat, Result, refuse, ok, ◌>>=◌}
use Rattle.fdoca.specs.Item.{Field, measure}
use Rattle.fdoca.specs.Walk.{Note, item_length, Cut, note_of, with, cut_from, walk, rows_from, walk_rows}
use Rattle.fdoca.specs.Reasons.{StartsAt, with_passes, ComesTo}
use Rattle.fdoca.proofs.Tests.{by_order}
use Rattle.fdoca.proofs.Results.{ok_bind}
use Rattle.fdoca.proofs.Cover.{cut_covers, joined, cut_append}
use Rattle.fdoca.proofs.Stops.{StopsAt, stops}
use Rattle.fdoca.proofs.BlockRows.{cut_of, cut_to}

repeat_more : {A : Type 0} (n m : ℕ) (l : List A) → repeat (n + m) l ≡ repeat n l ++ repeat m l
repeat_more zero m l = ap (λ k. repeat k l) (zero-add m)
repeat_more (suc n) m l =
    let e : suc n + m ≡ suc (n + m) = omega arith in
    ap (λ k. repeat k l) e ∙ ap (λ x. l ++ x) (repeat_more n m l) ∙ sym (append_assoc l (repeat n l) (repeat m l))

module _ (before rows : List Field) where
  pub passes_more : (j m : ℕ) → with_passes before rows (j + m) ≡ with_passes before rows j ++ repeat m rows
  passes_more j m = ap (λ x. before ++ x) (repeat_more j m rows) ∙ sym (append_assoc before (repeat j rows) (repeat m rows))

  pub one_more_pass : (j : ℕ) → with_passes before rows (suc j) ≡ with_passes before rows j ++ rows
  one_more_pass j =
      let e : suc j ≡ j + 1 = omega arith in
      ap (with_passes before rows) e ∙ passes_more j 1 ∙ ap (λ x. with_passes before rows j ++ x) (append-nil rows)

  pub no_pass : with_passes before rows 0 ≡ before
  no_pass = append-nil before

  pub passes_longer : (j m : ℕ) → length (with_passes before rows j) ≤ length (with_passes before rows (j + m))
  passes_longer j m = rw (passes_more j m) (omega (arith, length-append (with_passes before rows j) (repeat m rows)))

-- An item of some fields is one of more fields, and one of fewer where it is among them.
pub extended : {fs : List Field} {s : List ℕ} {k q : ℕ} {f : Field} {rest : List ℕ} (more : List Field) → StartsAt fs s k f q rest → StartsAt (fs ++ more) s k f q rest
extended {f = f} more x =
    record {
      before = x.before;
      after = x.after ++ more;
      fields = ap (λ l. l ++ more) x.fields ∙ append_assoc x.before (f ∷ x.after) more;
      number = x.number;
      items = x.items;
      bytes = x.bytes;
      block = x.block;
      split = x.split;
      place_is = x.place_is;
    }

left_part : (b fs more : List Field) (f : Field) (after : List Field) → fs ++ more ≡ b ++ (f ∷ after) → length b < length fs → (l : List Field) × (fs ≡ b ++ (f ∷ l))
left_part [] [] more f after e h = absurd (let z : ⊥ = omega arith in z)
left_part [] (g ∷ fs) more f after e h = (fs, cc)
left_part (a ∷ b) [] more f after e h = absurd (let z : ⊥ = omega arith in z)
left_part (a ∷ b) (g ∷ fs) more f after e h =
    let (l, q) = left_part b fs more f after (cc) (omega arith) in
    (l, cc)

pub shortened : {s : List ℕ} {k q : ℕ} {f : Field} {rest : List ℕ} (fs more : List Field) → StartsAt (fs ++ more) s k f q rest → k < length fs → StartsAt fs s k f q rest
shortened {f = f} fs more x h =
    let (l, e) = left_part x.before fs more f x.after x.fields (omega (arith, x.number)) in
    record {
      before = x.before;
      after = l;
      fields = e;
      number = x.number;
      items = x.items;
      bytes = x.bytes;
      block = x.block;
      split = x.split;
      place_is = x.place_is;
    }

-- so the number of passes does not matter to it
pub by_passes : {s : List ℕ} {k q : ℕ} {f : Field} {rest : List ℕ} (before rows : List Field) (i j : ℕ) → StartsAt (with_passes before rows j) s k f q rest
    → k < length (with_passes before rows i) → StartsAt (with_passes before rows i) s k f q rest
by_passes {s} {k} {q} {f} {rest} before rows i j x h =
    by_order i j
    (λ l. let e : j ≡ i + (j - i) = omega arith in
    shortened (with_passes before rows i) (repeat (j - i) rows) (rw (e, passes_more before rows i (j - i)) at x) h)
    (λ e. rw e x)
    (λ l. let e : i ≡ j + (i - j) = omega arith in
    rw (e, passes_more before rows j (i - j)) (extended (repeat (i - j) rows) x))

-- THE WALK, pass by pass

-- with fields left, it takes these first
pub rows_through : (rows fs : List Field) (room p : ℕ) (s : List ℕ)
    → rows_from (length fs + room) p rows fs s ≡ (cut_from p fs s >>= (λ c. rows_from room c.end rows [] c.rest >>= (λ ns. ok (c.notes ++ ns))))
unfolding rows_from cut_from
rows_through rows [] room p s = ap (λ k. rows_from k p rows [] s) (zero-add room) ∙ itself (rows_from room p rows [] s)
  where
    itself : (r : Result (List Note)) → r ≡ (r >>= (λ ns. ok ([] ++ ns)))
    itself (refuse n q) = refl
    itself (ok ns) = refl
rows_through rows (f ∷ fs) room p s =
    let e : suc (length fs) + room ≡ suc (length fs + room) = omega arith in
    ap (λ k. rows_from k p rows (f ∷ fs) s) e ∙ go (note_of f p (measure f s)) (λ q t. rows_through rows fs room q t)
  where
    noted : (n : Note) (c : Cut) (r : Result (List Note))
        → ((r >>= (λ ns. ok (c.notes ++ ns))) >>= (λ ns. ok (n ∷ ns))) ≡ (r >>= (λ ns. ok ((with n c).notes ++ ns)))
    noted n c (refuse m q) = refl
    noted n c (ok ns) = refl

    behind : (n : Note) (r : Result Cut)
        → ((r >>= (λ c. rows_from room c.end rows [] c.rest >>= (λ ns. ok (c.notes ++ ns)))) >>= (λ ns. ok (n ∷ ns)))
        ≡ ((r >>= (λ c. ok (with n c))) >>= (λ c. rows_from room c.end rows [] c.rest >>= (λ ns. ok (c.notes ++ ns))))
    behind n (refuse m q) = refl
    behind n (ok c) = noted n c (rows_from room c.end rows [] c.rest)

    go : (x : Result Note)
        → ((q : ℕ) (t : List ℕ) → rows_from (length fs + room) q rows fs t
        ≡ (cut_from q fs t >>= (λ c. rows_from room c.end rows [] c.rest >>= (λ ns. ok (c.notes ++ ns)))))
        → (x >>= (λ n. rows_from (length fs + room) (p + item_length n) rows fs (drop (item_length n) s) >>= (λ ns. ok (n ∷ ns))))
        ≡ ((x >>= (λ n. cut_from (p + item_length n) fs (drop (item_length n) s) >>= (λ c. ok (with n c))))
        >>= (λ c. rows_from room c.end rows [] c.rest >>= (λ ns. ok (c.notes ++ ns))))
    go (refuse m q) ih = refl
    go (ok n) ih = ap (λ r. r >>= (λ ns. ok (n ∷ ns))) (ih (p + item_length n) (drop (item_length n) s)) ∙ behind n (cut_from (p + item_length n) fs (drop (item_length n) s))

-- and where there is not room for them all, it stops with 10 behind those that there is room for
pub rows_short : (rows fs : List Field) (room p : ℕ) (s : List ℕ) → room < length fs
    → rows_from room p rows fs s ≡ (cut_from p (take room fs) s >>= (λ c. refuse 10 c.end))
unfolding rows_from cut_from
rows_short rows [] room p s h = absurd (let z : ⊥ = omega arith in z)
rows_short rows (f ∷ fs) zero p s h = refl
rows_short rows (f ∷ fs) (suc room) p s h = go (note_of f p (measure f s)) (λ q t. rows_short rows fs room q t (omega arith))
  where
    behind : (n : Note) (r : Result Cut)
        → ◌≡◌ {A = Result (List Note)} ((r >>= (λ c. refuse 10 c.end)) >>= (λ ns. ok (n ∷ ns))) ((r >>= (λ c. ok (with n c))) >>= (λ c. refuse 10 c.end))
    behind n (refuse m q) = refl
    behind n (ok c) = refl

    go : (x : Result Note)
        → ((q : ℕ) (t : List ℕ) → rows_from room q rows fs t ≡ (cut_from q (take room fs) t >>= (λ c. refuse 10 c.end)))
        → (x >>= (λ n. rows_from room (p + item_length n) rows fs (drop (item_length n) s) >>= (λ ns. ok (n ∷ ns))))
        ≡ ((x >>= (λ n. cut_from (p + item_length n) (take room fs) (drop (item_length n) s) >>= (λ c. ok (with n c)))) >>= (λ c. refuse 10 c.end))
    go (refuse m q) ih = refl
    go (ok n) ih = ap (λ r. r >>= (λ ns. ok (n ∷ ns))) (ih (p + item_length n) (drop (item_length n) s)) ∙ behind n (cut_from (p + item_length n) (take room fs) (drop (item_length n) s))

-- where no field is left it ends with the data, or begins a pass
pub rows_end : (rows : List Field) (room p : ℕ) → rows_from room p rows [] [] ≡ ok []
unfolding rows_from
rows_end rows zero p = refl
rows_end rows (suc room) p = refl

pub rows_begin : (rows : List Field) (room p : ℕ) (s : List ℕ) → is_empty rows ≡ false → 0 < length s → rows_from room p rows [] s ≡ rows_from room p rows rows s
unfolding rows_from
rows_begin [] room p s e h = absurd (true≢false e)
rows_begin (f ∷ fs) room p [] e h = absurd (let z : ⊥ = omega arith in z)
rows_begin (f ∷ fs) zero p (b ∷ s) e h = refl
rows_begin (f ∷ fs) (suc room) p (b ∷ s) e h = refl

-- WHAT COMES OF IT: the data are used up by whole passes; an item of some pass is cut short or spoiled; or there is a 4,097th item.
pub data Outcome (before rows : List Field) (s : List ℕ) : Result (List Note) → Type 0 where
  ended : {ns : List Note} (j : ℕ) → walk (with_passes before rows j) s ≡ ok ns → length (with_passes before rows j) ≤ 4096 → Outcome before rows s (ok ns)
  spoiled : {m p : ℕ} (j : ℕ) (x : StopsAt 0 (with_passes before rows j) s m p) → length x.before < 4096 → ComesTo before rows s (length x.before)
      → Outcome before rows s (refuse m p)
  over : (j : ℕ) (b : List Field) (f : Field) (a : List Field) (c : Cut) → with_passes before rows j ≡ b ++ (f ∷ a) → length b ≡ 4096 → cut_from 0 b s ≡ ok c
      → ComesTo before rows s 4096 → Outcome before rows s (refuse 10 c.end)

-- a cut of more fields that stops stops at the same item
abbrev more_fields : {p : ℕ} {fs gs : List Field} {s : List ℕ} {n q : ℕ} (more : List Field) → gs ≡ fs ++ more → StopsAt p fs s n q → StopsAt p gs s n q
more_fields more e h =
    record {
      before = h.before;
      field = h.field;
      after = h.after ++ more;
      fields = e ∙ ap (λ l. l ++ more) h.fields ∙ append_assoc h.before (h.field ∷ h.after) more;
      good = h.good;
      cut = h.cut;
      place = h.place;
      reason = h.reason;
    }

stops_at : (p : ℕ) (fs : List Field) (s : List ℕ) (n q : ℕ) → cut_from p fs s ≡ refuse n q → StopsAt p fs s n q
stops_at p fs s n q e = rw e at (stops p fs s)

pub stops_among : {p : ℕ} {fs : List Field} {s : List ℕ} {n q : ℕ} (h : StopsAt p fs s n q) → length h.before < length fs
stops_among h = rw h.fields (omega (arith, length-append h.before (h.field ∷ h.after)))

-- no data is left behind data that is used up
none_behind : (p : ℕ) (fs : List Field) (c : Cut) → cut_from p fs [] ≡ ok c → length c.rest ≡ 0
none_behind p fs c e = omega (arith, (cut_covers p fs [] c e).total)

module _ (before rows : List Field) (s : List ℕ) where
  abbrev fields : ℕ → List Field
  fields j = with_passes before rows j

  -- data is left where a pass begins, so the walk comes to every item of that pass
  comes : (i : ℕ) (c : Cut) → cut_from 0 (fields i) s ≡ ok c → 0 < length c.rest → (k : ℕ) → k < length (fields (suc i)) → ComesTo before rows s k
  comes i c e h k l j xs b =
      by_order j i (λ o. absurd (used_up_lem (i - j) (omega arith))) (λ o. absurd (used_up_lem 0 (omega arith)))
      (λ o. let q : j ≡ suc i + (j - suc i) = omega arith in
      rw q (omega (arith, passes_longer before rows (suc i) (j - suc i))))
    where
      used_up_lem : (m : ℕ) → i ≡ j + m → ⊥
      used_up_lem m q =
          let a : cut_from 0 (fields j ++ repeat m rows) s ≡ ok c = sym (ap (λ l. cut_from 0 l s) (ap fields q ∙ passes_more before rows j m)) ∙ e in
          let all : Cut = cut_of (fields j) xs (length s) [] in
          let d : cut_from 0 (fields j) s ≡ ok all = cut_to b (sym (append-nil s)) refl in
          let (c', x, y) = ok_bind (cut_from (length s) (repeat m rows) []) (λ d. ok (joined all d)) c (rw (cut_append 0 (fields j) (repeat m rows) s, d) at a) in
          let z : c.rest ≡ c'.rest = cc in
          let w : ⊥ = omega (arith, none_behind (length s) (repeat m rows) c' x, ap length z) in
          w

  -- the cut of a pass behind i passes
  pass_cut : (i : ℕ) (c : Cut) → cut_from 0 (fields i) s ≡ ok c → (l : List Field)
      → cut_from 0 (fields i ++ l) s ≡ (cut_from c.end l c.rest >>= (λ d. ok (joined c d)))
  pass_cut i c e l = cut_append 0 (fields i) l s ∙ ap (λ r. r >>= (λ c. cut_from c.end l c.rest >>= (λ d. ok (joined c d)))) e

  module _ (some-field : is_empty rows ≡ false) where
    -- behind i passes, with room for so many items more
    abbrev behind : ℕ → Cut → Result (List Note)
    behind room c = rows_from room c.end rows [] c.rest >>= (λ ns. ok (c.notes ++ ns))

    data_end : (i room : ℕ) (c : Cut) → length (fields i) + room ≡ 4096 → cut_from 0 (fields i) s ≡ ok c → c.rest ≡ [] → Outcome before rows s (behind room c)
    unfolding walk
    data_end i room c r e h =
        let w : walk (fields i) s ≡ ok c.notes = rw (e, h) in
        rw (h, rows_end rows room c.end, append-nil c.notes) (ended i w (omega arith))

    -- not room for a whole pass
    last_pass : (i room : ℕ) (c : Cut) → length (fields i) + room ≡ 4096 → cut_from 0 (fields i) s ≡ ok c → 0 < length c.rest → room < length rows
        → Outcome before rows s (behind room c)
    last_pass i room c r e h l =
        rw (rows_begin rows room c.end c.rest some-field h, rows_short rows rows room c.end c.rest l)
        (go (cut_from c.end (take room rows) c.rest) refl)
      where
        part : List Field
        part = fields i ++ take room rows

        part_length_lem : length part ≡ 4096
        part_length_lem = length-append (fields i) (take room rows) ∙ omega (arith, length-take-le room rows (omega arith))

        whole : fields (suc i) ≡ part ++ drop room rows
        whole =
            one_more_pass before rows i ∙ ap (λ l. fields i ++ l) (sym (take-append-drop room rows)) ∙ sym (append_assoc (fields i) (take room rows) (drop room rows))

        longer : 4096 < length (fields (suc i))
        longer = rw (one_more_pass before rows i) (omega (arith, length-append (fields i) rows))

        rest_of : (x : List Field) → drop room rows ≡ x → (f : Field) × (a : List Field) × (x ≡ f ∷ a)
        rest_of [] q = absurd (let z : ⊥ = omega (arith, ap length q, length-drop room rows) in z)
        rest_of (f ∷ a) q = (f, a, refl)

        go : (x : Result Cut) → cut_from c.end (take room rows) c.rest ≡ x
            → Outcome before rows s ((x >>= (λ d. refuse 10 d.end)) >>= (λ ns. ok (c.notes ++ ns)))
        go (refuse m q) y =
            let t : StopsAt 0 part s m q = stops_at 0 part s m q (pass_cut i c e (take room rows) ∙ ap (λ x. x >>= (λ d. ok (joined c d))) y) in
            let n : length t.before < 4096 = omega (arith, stops_among t, part_length_lem) in
            spoiled {m = m} {p = q} (suc i) (more_fields (drop room rows) whole t) n (comes i c e h (length t.before) (omega (arith, longer)))
        go (ok d) y =
            let (f, a, q) = rest_of (drop room rows) refl in
            over (suc i) part f a (joined c d) (whole ∙ ap (λ l. part ++ l) q) part_length_lem (pass_cut i c e (take room rows) ∙ ap (λ x. x >>= (λ d. ok (joined c d))) y) (comes i c e h 4096 longer)

    -- room for a whole pass
    next_pass : (i room : ℕ) (c : Cut) → length (fields i) + (length rows + room) ≡ 4096 → cut_from 0 (fields i) s ≡ ok c → 0 < length c.rest
        → ((d : Cut) → length (fields (suc i)) + room ≡ 4096 → cut_from 0 (fields (suc i)) s ≡ ok d → Outcome before rows s (behind room d))
        → Outcome before rows s (behind (length rows + room) c)
    next_pass i room c r e h next =
        rw (rows_begin rows (length rows + room) c.end c.rest some-field h, rows_through rows rows room c.end c.rest)
        (go (cut_from c.end rows c.rest) refl)
      where
        longer : length (fields (suc i)) ≡ length (fields i) + length rows
        longer = ap length (one_more_pass before rows i) ∙ length-append (fields i) rows

        both : (d : Cut) (x : Result (List Note)) → ((x >>= (λ ns. ok (d.notes ++ ns))) >>= (λ ns. ok (c.notes ++ ns))) ≡ (x >>= (λ ns. ok ((joined c d).notes ++ ns)))
        both d (refuse m q) = refl
        both d (ok ns) = ap ok (sym (append_assoc c.notes d.notes ns))

        go : (x : Result Cut) → cut_from c.end rows c.rest ≡ x → Outcome before rows s ((x >>= (λ d. behind room d)) >>= (λ ns. ok (c.notes ++ ns)))
        go (refuse m q) y =
            let t : StopsAt 0 (fields i ++ rows) s m q = stops_at 0 (fields i ++ rows) s m q (pass_cut i c e rows ∙ ap (λ x. x >>= (λ d. ok (joined c d))) y) in
            let n : length t.before < length (fields (suc i)) = omega (arith, stops_among t, length-append (fields i) rows, longer) in
            spoiled {m = m} {p = q} (suc i) (more_fields [] (one_more_pass before rows i ∙ sym (append-nil (fields i ++ rows))) t) (omega (arith, longer)) (comes i c e h (length t.before) n)
        go (ok d) y =
            rw (both d (rows_from room d.end rows [] d.rest))
            (next (joined c d) (omega (arith, longer)) (rw (one_more_pass before rows i) (pass_cut i c e rows ∙ ap (λ x. x >>= (λ d. ok (joined c d))) y)))

    has_field : 0 < length rows
    has_field = go rows some-field
      where
        go : (l : List Field) → is_empty l ≡ false → 0 < length l
        go [] e = absurd (true≢false e)
        go (f ∷ l) e = omega arith

    from_pass : (fuel i room : ℕ) (c : Cut) → room ≤ fuel → length (fields i) + room ≡ 4096 → cut_from 0 (fields i) s ≡ ok c → Outcome before rows s (behind room c)
    from_pass zero i room c l r e = go c.rest refl
      where
        go : (x : List ℕ) → c.rest ≡ x → Outcome before rows s (behind room c)
        go [] q = data_end i room c r e q
        go (b ∷ x) q = last_pass i room c r e (rw q (omega arith)) (omega (arith, has_field))
    from_pass (suc fuel) i room c l r e =
        go c.rest refl (λ room' d a b. from_pass fuel (suc i) room' d a b)
      where
        go : (x : List ℕ) → c.rest ≡ x
            → ((room' : ℕ) (d : Cut) → room' ≤ fuel → length (fields (suc i)) + room' ≡ 4096 → cut_from 0 (fields (suc i)) s ≡ ok d → Outcome before rows s (behind room' d))
            → Outcome before rows s (behind room c)
        go [] q next = data_end i room c r e q
        go (b ∷ x) q next =
            by_order room (length rows) (λ o. last_pass i room c r e (rw q (omega arith)) o) (λ o. whole (room - length rows) (omega arith))
            (λ o. whole (room - length rows) (omega arith))
          where
            whole : (room' : ℕ) → room ≡ length rows + room' → Outcome before rows s (behind room c)
            whole room' o = rw o (next_pass i room' c (omega arith) e (rw q (omega arith)) (λ d y z. next room' d (omega (arith, has_field)) y z))

    -- With room for 4,096 items, the walk over rows to the end comes to one of the three.
    with_room : (room : ℕ) → room ≡ 4096 → length before ≤ 4096 → Outcome before rows s (rows_from room 0 rows before s)
    with_room room q l =
        let e : room ≡ length before + (4096 - length before) = omega arith in
        rw (e, rows_through rows before (4096 - length before) 0 s) (go (cut_from 0 before s) refl)
      where
        go : (x : Result Cut) → cut_from 0 before s ≡ x → Outcome before rows s (x >>= (λ c. behind (4096 - length before) c))
        go (refuse m q) y =
            let t : StopsAt 0 before s m q = stops_at 0 before s m q y in
            spoiled {m = m} {p = q} 0 (more_fields [] refl t) (omega (arith, stops_among t))
            (λ j xs b. omega (arith, stops_among t, length-append before (repeat j rows)))
        go (ok c) y = from_pass 4096 0 (4096 - length before) c (omega arith) (rw (no_pass before rows) (omega arith)) (rw (no_pass before rows) y)

    pub outcome : length before ≤ 4096 → Outcome before rows s (walk_rows before rows s)
    unfolding walk_rows
    outcome l = with_room _ (omega arith) l
