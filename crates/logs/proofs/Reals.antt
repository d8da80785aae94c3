-- More that a real log says of its words: who is current, and when a listing finds too little room. Assumes nothing.
use mathlib.Core.List.{List}
use mathlib.Core.Logic.{◌↔◌}
use mathlib.Core.Path.{◌≡◌, refl, ap, ◌∙◌}
use Prim.Native.Nat.{ℕ, ◌*◌, ◌<◌}
use native.Mathlib.Omega.{arith}
use lib.Dec.{ltb}
use lib.ListN.{length, get_or}
use borrow.Author.Tests.{ne_eqb, le-ltb, lt-ltb, ltb-true}
use Rattle.machine.specs.Queue.{Range}
use Rattle.machine.specs.Machine.{Words}
use Rattle.machine.specs.Request.{request, ListOpen}
use Rattle.machine.specs.Refusal.{row_width, first, refusal}
use Rattle.machine.specs.Step.{Answer}
use Rattle.machine.specs.Log.{Log, open_with, current_after}
use Rattle.lists.proofs.Tests.{tested}
use Rattle.laws.proofs.Dispatch.{step_number}
use Rattle.monitor.specs.Promise.{Called}
use Rattle.monitor.proofs.Accepted.{current_word}
use Rattle.logs.specs.Follows.{last, Recorded}
use Rattle.logs.specs.Real.{Real}
use Rattle.logs.proofs.Reading.{legal_last, last_P, last_current}
use Rattle.logs.proofs.Listing.{shown_open}
use Rattle.logs.proofs.Written.{beyond_of, real_recorded, real_shows}

module _ {beyond counters : List ℕ} {edition : ℕ} {g : Log} (h : Recorded beyond edition counters g) where
  -- too little room, exactly
  refuses_10 : (p room : ℕ) → Range (length g.list) p
      → (refusal (last beyond edition counters g) (ListOpen p room) ≡ 10) ↔ (room < row_width * length (open_with g p))
  unfolding refusal first
  refuses_10 p room i =
      simp (last_P h, shown_open h p, ne_eqb p 0 (omega arith), le-ltb (length g.list) p i.1) (
        λ e. tested {C = room < row_width * length (open_with g p)} (ltb room (row_width * length (open_with g p))) (λ t. ltb-true room _ t)
            (λ t. absurd (omega (arith, rw t at e))),
        λ l. rw (lt-ltb room (row_width * length (open_with g p)) l) refl,
      )

module _ {g : Log} {u : List ℕ} (h : Real g u) where
  -- header word 2 is the current that the log tells
  pub real_current : get_or u 2 0 ≡ current_after 0 g.calls
  real_current = current_word (real_shows h) ∙ last_current (real_recorded h)

  -- a listing for a process that there is is refused with 10 exactly when its room has under five words for each conversation that the log leaves open with it
  pub log_refuses_10 : (p : ℕ) → Range (length g.list) p → {u' room room' : List ℕ} {b : ℕ} {ws : Words} {r : Answer}
      → Called u u' room room' 11 p b ws r → (r.number ≡ 10) ↔ (length room < row_width * length (open_with g p))
  unfolding request
  log_refuses_10 p i {room = room} c =
      let m = last (beyond_of h) h.edition h.counters g in
      let e = ap (λ (r : Answer). r.number) (c.sound m (real_shows h) (legal_last (real_recorded h))).answer ∙ step_number m (ListOpen p (length room)) in
      rw e (refuses_10 (real_recorded h) p (length room) i)
