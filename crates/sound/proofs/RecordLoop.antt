-- The loop over the processes by its passes: a process with its own buffers, and what the loop ends with. Assumes nothing.
use mathlib.Core.Path.{◌≡◌, refl, sym, ◌∙◌}
use mathlib.Core.List.{List}
use mathlib.Core.Bool.{Bool, true, false, ◌&&◌, and-eq-true_iff}
use Prim.Native.Nat.{ℕ, ◌+◌, ◌-◌, ◌*◌, ◌≤◌, ◌<◌}
use native.Mathlib.Omega.{arith}
use lib.Dec.{leb}
use borrow.Author.Tests.{eqb-true, eq-eqb, leb-true}
use Rattle.machine.specs.Queue.{if}
use Rattle.machine.specs.Machine.{given}
use Rattle.machine.specs.Layout.{name_ok}
use Rattle.machine.specs.Sound.{P_of, B_of, process_at}
use Rattle.lists.specs.Counts.{all}
use Rattle.lists.proofs.Tests.{is_false}
use Rattle.lists.proofs.Counting.{all_fails, count_most}
use Rattle.sound.specs.Processes.{begins, process_legal, words_legal}
use Rattle.sound.specs.Queues.{failed}
use Rattle.sound.specs.Records.{base_of, owns, own_run, own_legal, queued_of, record_legal, records, Lent, RecordAsked}
use Rattle.sound.proofs.Found.{if_no, counted, failing}

-- ---- a process's name and own buffers
pub name_fails : (new own : Bool) (x : ℕ) → new ≡ false → failed ≡ if (new && own) x failed
name_fails new own x e = rw e refl

pub run_tells : (w : List ℕ) (base processes p before : ℕ) (new : Bool) (k r : ℕ) → k ≡ owns w p → new ≡ true
    → r ≡ if (own_run w base p processes before k) (queued_of w base (before + k)) failed
    → r ≡ if (new && own_run w base p processes before (owns w p)) (queued_of w base (before + owns w p)) failed
run_tells w base processes p before new k r e n h = rw n (rw e at h)

-- ---- a process with its own buffers
given_at : (f : ℕ → ℕ) (p b : ℕ) → b ≡ given f p → b ≡ given f (p + 1 - 1)
given_at f p b e = let z : p + 1 - 1 ≡ p = omega arith in rw z e

pub record_asked : {w : List ℕ} {processes buffers : ℕ} → Lent w processes buffers → (p before sum : ℕ) → p < processes
    → before ≡ given (owns w) p → before ≤ buffers
    → sum ≡ queued_of w (62 + 16 * processes) before → RecordAsked w (62 + 16 * processes) processes buffers (p + 1) before sum
record_asked L p before sum l g f q = record { lent = L; base_is = refl; among = omega arith; given_before = given_at _ p before g; few = f; so_far = q }

module _ {w : List ℕ} {base processes buffers p before sum : ℕ} (A : RecordAsked w base processes buffers p before sum) where
  abbrev process : Bool
  process = process_legal w base buffers p before

  abbrev own : Bool
  own = own_legal w base processes p before

  record_is : record_legal w base buffers p ≡ (process && own)
  unfolding record_legal
  record_is = rw (A.given_before, A.lent.processes_are) refl

  pub process_fails : process ≡ false → record_legal w base buffers p ≡ false
  process_fails e = record_is ∙ rw e refl

  pub own_tells : (x r : ℕ) → process ≡ true → r ≡ if own x failed → r ≡ if (record_legal w base buffers p) x failed
  own_tells x r t h = rw (record_is, t) h

  -- there are buffers enough for it
  pub room : process ≡ true → before + owns w p ≤ buffers
  unfolding process_legal
  room t =
      let a = ((and-eq-true_iff (words_legal w base buffers p (56 + 16 * p)) _).0 t).1 in
      let b = ((and-eq-true_iff (name_ok (process_at w p 12) (process_at w p 13) (process_at w p 14)) _).0 a).1 in
      leb-true (before + owns w p) buffers ((and-eq-true_iff (begins (process_at w p 10) (owns w p) before) (leb (before + owns w p) buffers)).0 b).1

  legal_room : record_legal w base buffers p ≡ true → before + owns w p ≤ buffers
  legal_room t = room ((and-eq-true_iff process own).0 (sym record_is ∙ t)).0

  -- what the pass gave, by whether it failed
  module _ (r : ℕ) (is : r ≡ if (record_legal w base buffers p) (queued_of w base (before + owns w p)) failed) where
    pub record_fails : r ≡ failed → record_legal w base buffers p ≡ false
    record_fails e = failing _ _ r is e (λ t z. few t z)
      where
        few : record_legal w base buffers p ≡ true → queued_of w base (before + owns w p) ≡ failed → ⊥
        few t z = let m : queued_of w base (before + owns w p) ≤ before + owns w p = count_most _ (before + owns w p) in
            omega (arith, legal_room t, A.lent.few_buffers)

    pub record_holds : (r ≡ failed → ⊥) → (record_legal w base buffers p ≡ true) × (r ≡ queued_of w base (before + owns w p)) × (before + owns w p ≤ buffers)
    record_holds n = let h = counted _ _ r is n in (h.0, h.1, legal_room h.0)

-- ---- the loop's end
module _ {w : List ℕ} {processes buffers : ℕ} (L : Lent w processes buffers) where
  pub records_fail : (p x : ℕ) → p < processes → record_legal w (62 + 16 * processes) buffers (p + 1) ≡ false → failed ≡ if (records w) x failed
  unfolding records
  records_fail p x l t =
      let h : record_legal w (base_of w) (B_of w) (p + 1) ≡ false = rw (L.processes_are, L.buffers_are) at t in
      rw (all_fails (record_legal w (base_of w) (B_of w)) p (P_of w) (omega (arith, L.processes_are)) h) refl

  module _ (p before : ℕ) (end : p ≡ processes) (so_far : before ≡ given (owns w) p) where
    pub records_end : (queued : ℕ) → before ≡ buffers → queued ≡ queued_of w (62 + 16 * processes) before
        → all (record_legal w (62 + 16 * processes) buffers) p ≡ true → queued ≡ if (records w) (queued_of w (base_of w) (B_of w)) failed
    unfolding records
    records_end queued e q a =
        let a' : all (record_legal w (base_of w) (B_of w)) (P_of w) ≡ true = rw (end, L.processes_are, L.buffers_are) at a in
        let b : given (owns w) (P_of w) ≡ B_of w = rw (end, L.processes_are) at (sym so_far ∙ e ∙ L.buffers_are) in
        rw (a', eq-eqb (given (owns w) (P_of w)) (B_of w) b) (rw (e, L.processes_are, L.buffers_are) at q)

    pub records_left : (x : ℕ) → (before ≡ buffers → ⊥) → failed ≡ if (records w) x failed
    unfolding records
    records_left x n = if_no _ _ _ _ (is_false (records w) (λ t. n (given_out t))) refl
      where
        given_out : records w ≡ true → before ≡ buffers
        given_out t =
            let h = eqb-true (given (owns w) (P_of w)) (B_of w) ((and-eq-true_iff (all (record_legal w (base_of w) (B_of w)) (P_of w)) _).0 t).1 in
            so_far ∙ rw (end, L.processes_are) (h ∙ sym L.buffers_are)
