-- Demand 3 of what the code promises: after any real log, the listing of call 0B and refusal 5 of call 01 are what the log alone says. Assumes nothing.
use mathlib.Core.Logic.{◌↔◌}
use mathlib.Core.Path.{◌≡◌, ap, ◌∙◌}
use mathlib.Core.List.{List}
use Prim.Native.Nat.{ℕ, ◌*◌, ◌≤◌}
use lib.ListN.{length}
use Rattle.machine.specs.Queue.{Range}
use Rattle.machine.specs.Machine.{Words}
use Rattle.machine.specs.Request.{request}
use Rattle.machine.specs.Refusal.{row_width}
use Rattle.machine.specs.Step.{Answer}
use Rattle.machine.specs.Log.{Log, open_with, open_by, given_to, current_after}
use Rattle.answers.specs.Promise.{with_listing}
use Rattle.monitor.specs.Promise.{Called}
use Rattle.logs.specs.Follows.{last}
use Rattle.logs.specs.Real.{Real, ListingSays}
use Rattle.logs.proofs.Reading.{legal_last}
use Rattle.logs.proofs.Listing.{listing}
use Rattle.logs.proofs.NoBuffer.{no_buffer}
use Rattle.logs.proofs.Written.{beyond_of, real_recorded, real_shows}

module _ {g : Log} {u : List ℕ} (h : Real g u) where
  -- for every process of the list and any room of enough words, call 0B is accepted and lists what the log leaves open
  pub log_lists : (p : ℕ) → Range (length g.list) p → {u' room room' : List ℕ} {b : ℕ} {ws : Words} {r : Answer}
      → row_width * length (open_with g p) ≤ length room → Called u u' room room' 11 p b ws r → ListingSays g p room room' r
  unfolding request
  log_lists p i {room} fits c =
      let m = last (beyond_of h) h.edition h.counters g in
      let L = legal_last (real_recorded h) in
      let a = c.sound m (real_shows h) L in
      let l = listing (real_recorded h) p (length room) i fits in
      record {
        accepted = ap (λ (r : Answer). r.number) a.answer ∙ l.accepted;
        kind = ap (λ (r : Answer). r.kind) a.answer ∙ l.kind;
        rows = c.room m (real_shows h) L ∙ ap (λ (x : List ℕ). with_listing x room) l.rows;
      }

  -- a send to another process that there is is refused with 5 exactly when the log leaves open as many conversations begun by the caller as the list
  -- gives it buffers
  pub log_refuses_5 : (a : ℕ) → (current_after 0 g.calls ≡ 0 → ⊥) → Range (length g.list) a → (a ≡ current_after 0 g.calls → ⊥)
      → {u' room room' : List ℕ} {b : ℕ} {ws : Words} {r : Answer} → Called u u' room room' 1 a b ws r
      → (r.number ≡ 5) ↔ (length (open_by g (current_after 0 g.calls)) ≡ given_to g (current_after 0 g.calls))
  unfolding request
  log_refuses_5 a n i o {ws} c =
      let m = last (beyond_of h) h.edition h.counters g in
      let e = ap (λ (r : Answer). r.number) (c.sound m (real_shows h) (legal_last (real_recorded h))).answer in
      rw e (no_buffer (real_recorded h) a ws n i o)
