-- What a call leaves in the room, and the lines that its answer and listing are. Assumes nothing.
use mathlib.Core.Bool.{Bool, true, false}
use mathlib.Core.List.{List}
use mathlib.Core.Path.{◌≡◌, refl, ap}
use Prim.Native.Nat.{ℕ, zero, suc, ◌+◌, ◌*◌, ◌≤◌}
use native.Mathlib.Omega.{arith}
use lib.ListN.{length, take, drop, length-append}
use lib.Dec.{eqb}
use lib.Seq.{take_at, take_all}
use borrow.Author.Tests.{eqb-true, eqb-false}
use Rattle.machine.specs.Queue.{if}
use Rattle.machine.specs.Machine.{Machine, Words}
use Rattle.machine.specs.Request.{request, ListOpen}
use Rattle.machine.specs.Refusal.{refusal, is_shown, shown, row_width}
use Rattle.machine.specs.Step.{Answer as Reply, Outcome, effect, judge, step}
use Rattle.machine.specs.Legal.{Legal}
use Rattle.machine.specs.Words.{Shows}
use Rattle.lines.specs.Line.{answer_line, row_bytes, ended}
use Rattle.lines.specs.Promise.{Wrote}
use Rattle.lines.specs.Replay.{row_lines, room_words, called}
use Rattle.lines.proofs.Stores.{answer_length}
use Rattle.answers.specs.Promise.{Comes, with_listing}
use Rattle.listing.proofs.Rows.{keep_few}
use Rattle.monitor.specs.Promise.{Called}
use Rattle.laws.proofs.Dispatch.{request_lists, step_listing, rows_length}
use Rattle.turn.proofs.Writing.{line_written, written_behind}
use Rattle.turn.proofs.Rows.{lines_length}
use Rattle.turn.specs.InWords.{rows_after, LineFits, Few, Written}

-- the listing is as many rows of five words, and no more than there are buffers
pub record InRows (o : Outcome) (count : ℕ) : Type 0 where
  pub words : length o.listing ≡ row_width * count
  pub few : count ≤ 128

module _ {m : Machine} (L : Legal m) (a : ℕ) where
  shown_rows : (n : ℕ) → InRows (judge n (effect m (ListOpen a room_words)) m) (judge n (effect m (ListOpen a room_words)) m).answer.kind
  unfolding effect
  shown_rows zero = record { words = rows_length m (shown m a); few = omega (arith, keep_few (is_shown m a) 1 m.B, L.fixed.B128) }
  shown_rows (suc n) = record { words = refl; few = omega arith }

  pub listing_rows : (k b : ℕ) (ws : Words) → InRows (step m (request k a b ws room_words)) (rows_after k (step m (request k a b ws room_words)).answer.kind)
  unfolding request step
  listing_rows k b ws = go (eqb k 11) refl
    where
      go : (t : Bool) → eqb k 11 ≡ t → InRows (step m (request k a b ws room_words)) (if t (step m (request k a b ws room_words)).answer.kind 0)
      go true e = rw (eqb-true k 11 e) (shown_rows (refusal m (ListOpen a room_words)))
      go false e =
          record { words = ap length (step_listing m (request k a b ws room_words) (request_lists k a b ws room_words (eqb-false k 11 e))); few = omega arith }

-- an answer line and its rows are no more than there is room for
pub called_few : {m : Machine} → Legal m → (k a b : ℕ) (ws : Words) → Few (called m k a b ws).output
called_few {m} L k a b ws =
    let o = step m (request k a b ws room_words) in
    let n = listing_rows L a k b ws in
    let c = rows_after k o.answer.kind in
    let e = rw (take_all (row_width * c) o.listing (omega (arith, n.words))) at (lines_length o.listing c (omega (arith, n.words))) in
    omega (arith, length-append (ended (answer_line o.answer)) (row_lines o.listing), answer_length o.answer, n.few)

module _ {m : Machine} (L : Legal m) {t u s v : List ℕ} (w : Shows t m) (h : length s ≡ room_words) {k a b : ℕ} {ws : Words}
    {r : Reply} (c : Called t u s v k a b ws r) where
  -- the call in the replay's room
  pub called_step : Comes (step m (request k a b ws room_words)) u r
  called_step = rw h at (c.sound m w L)

  -- the room after it
  pub called_room : v ≡ with_listing (step m (request k a b ws room_words)).listing s
  called_room = rw h at (c.room m w L)

  -- the rows after its answer are the listing
  pub called_rows : (row_width * rows_after k r.kind ≤ room_words)
      × (take (row_width * rows_after k r.kind) v ≡ (step m (request k a b ws room_words)).listing)
  called_rows =
      let o = step m (request k a b ws room_words) in
      let n = listing_rows L a k b ws in
      let e : rows_after k r.kind ≡ rows_after k o.answer.kind = ap (λ (x : Reply). rows_after k x.kind) called_step.answer in
      rw e (omega (arith, n.few), rw called_room (take_at o.listing (drop (length o.listing) s) (row_width * rows_after k o.answer.kind) n.words))

  -- its answer line, and the lines of the listing behind it
  pub called_lines : {before out after : List ℕ} {at next place count : ℕ} → count ≡ rows_after k r.kind → Wrote before at (answer_line r) out next
      → Written out next (row_lines (take (row_width * count) v)) after place → Written before at (called m k a b ws).output after place
  called_lines e x y =
      rw (← called_step.answer) (written_behind (line_written x) (rw (e, called_rows.1) at y))

  -- there is room for them
  pub lines_fit : {before out : List ℕ} {at next count : ℕ} → count ≡ rows_after k r.kind → Wrote before at (answer_line r) out next
      → LineFits at (length before) → length out ≡ length before → length v ≡ length s → (row_width * count ≤ length v)
      × (next + row_bytes * count ≤ length out)
  lines_fit e x f o p = let n = called_rows.0 in (omega arith, omega (arith, x.place, answer_length r))
