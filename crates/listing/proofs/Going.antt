-- The lines of a marked plan: k of them are put, the others are still to come.
-- Assumes nothing.
use Rattle.std.specs.Prelude.{Result, Ok, Err, IfOk, IsTrue}
use Rattle.std.specs.Result.{is_ok}
use mathlib.Core.Path.{◌≡◌, refl, sym, ap, ◌∙◌}
use Prim.Native.Nat.{ℕ, suc, ◌+◌, ◌*◌, ◌<◌, ◌≤◌}
use native.Mathlib.Numerals.{add-one}
use native.Mathlib.Omega.{arith}
use mathlib.Core.List.{List, [], ◌++◌, append-nil, append_assoc}
use lib.ListN.{length, get_or, drop, drop_of_length-le}
use lib.Seq.{drop-cons}
use Rattle.fdoca.specs.declared.Reason.{Reason}
use Rattle.fdoca.specs.Item.{item}
use Rattle.terminated.specs.declared.Measured.{Measured}
use Rattle.terminated.specs.Answer.{measured}
use Rattle.walks.specs.Entry.{measure_entry, Inside}
use Rattle.listing.specs.declared.Text.{Text}
use Rattle.listing.specs.Put.{HasRoom, Put}
use Rattle.listing.specs.Lines.{start_in, entry_line, entry_lines, EachMeasured}
use Rattle.listing.proofs.Putting.{both}
use Rattle.listing.proofs.Words.{entry_long}

-- the text was t, now it is t'
pub record Going (es s : List ℕ) (t t' : Text) (k : ℕ) : Type 0 where
  pub so_far : List ℕ
  pub is_put : Put t t' so_far
  pub all_lines : entry_lines 0 es s ≡ so_far ++ entry_lines k (drop k es) s
  pub long : t'.len ≤ t.len + 21 * k
  pub within : k ≤ length es

pub no_lines : (es s : List ℕ) (t : Text) → Going es s t t 0
no_lines es s t =
    record { so_far = []; is_put = record { same_reference = refl; same_length = refl; text = refl; place = omega arith }; all_lines = refl; long = omega arith; within = omega arith }

-- the item of an entry is there
module _ (es s : List ℕ) (k : ℕ) (h : k < length es) (w : EachMeasured es s) where
  pub start_inside : start_in (get_or es k 0) ≤ length s
  start_inside = (w.each k h).starts

  pub is_measured : (r : Result Measured Reason) → measured r ≡ measure_entry (get_or es k 0) (drop (start_in (get_or es k 0)) s) → IsTrue (is_ok r)
  is_measured (Ok m) e = refl
  is_measured (Err x) e = absurd (let q = e ∙ (w.each k h).measured in let z : ◌≡◌ {A = ℕ} 0 1 = cc in let o : ⊥ = omega arith in o)

module _ (es s : List ℕ) (t u : Text) (k : ℕ) (g : Going es s t u k) where
  pub line_room : length es ≤ 4096 → k < length es → t.len ≤ 34 → 90112 ≤ length t.bytes.now → HasRoom u 44
  line_room few h f l = omega (arith, g.long, g.is_put.same_length)

  pub line_more : (v : Text) (m : Measured) → Put u v (entry_line k (get_or es k 0) (item m.null m.lead m.value m.spare)) → k < length es → length es ≤ 4096 → length s ≤ 32768
      → (r : Result Measured Reason) → r ≡ Ok m → measured r ≡ measure_entry (get_or es k 0) (drop (start_in (get_or es k 0)) s) → IfOk r (Inside s (start_in (get_or es k 0)))
      → Going es s t v (k + 1)
  unfolding entry_lines
  line_more v m p h few small r q e w =
      let x : ℕ = get_or es k 0 in
      let entry : List ℕ = entry_line k (get_or es k 0) (item m.null m.lead m.value m.spare) in
      let inside : start_in (get_or es k 0) + (m.lead + m.value + m.spare) ≤ length s = rw q at w in
      let z : item m.null m.lead m.value m.spare ≡ measure_entry (get_or es k 0) (drop (start_in (get_or es k 0)) s) = rw q at e in
      let l : length (entry_line k (get_or es k 0) (item m.null m.lead m.value m.spare)) ≤ 21 = entry_long k (get_or es k 0) m (omega arith) (omega arith) (omega arith) in
      record {
        so_far = g.so_far ++ entry;
        is_put = both g.is_put p;
        all_lines = g.all_lines
            ∙ ap (λ l. g.so_far ++ entry_lines k l s) (drop-cons es k 0 h)
            ∙ ap (λ n. g.so_far ++ (entry_line k x n ++ entry_lines (suc k) (drop (suc k) es) s)) (sym z)
            ∙ sym (append_assoc g.so_far entry (entry_lines (suc k) (drop (suc k) es) s))
            ∙ ap (λ j. (g.so_far ++ entry) ++ entry_lines j (drop j es) s) (sym (add-one k));
        long = omega (arith, g.long, p.place);
        within = omega arith;
      }

  pub lines_put : length es ≤ k → Put t u (entry_lines 0 es s)
  unfolding entry_lines
  lines_put h =
      let e : entry_lines 0 es s ≡ g.so_far =
      g.all_lines ∙ ap (λ l. g.so_far ++ entry_lines k l s) (drop_of_length-le es h) ∙ append-nil g.so_far in
      rw e g.is_put

  pub lines_long : length es ≤ 4096 → t.len ≤ 34 → u.len ≤ 90112
  lines_long few h = omega (arith, g.long, g.within)
