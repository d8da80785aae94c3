-- What the promises come to: which bytes stand ready where `write_lines` and `end` write, that a run which a refused layout has ended has nothing more to
-- read, and that what is replayed to its end are all bytes read. That all that is written, one after the other, is the output is `pieces` (turn, Whole).
-- Assumes nothing.
use mathlib.Core.List.{List, [], ◌++◌}
use mathlib.Core.Path.{◌≡◌}
use Prim.Native.Nat.{ℕ, ◌≤◌}
use native.Mathlib.Omega.{arith}
use lib.ListN.{length, take}
use Rattle.lines.specs.Replay.{replay}
use Rattle.turn.specs.declared.blocks.Fed.{Fed}
use Rattle.turn.specs.declared.blocks.Reader.{Reader}
use Rattle.turn.specs.InWords.{over}
use Rattle.turn.specs.Feed.{point_after, adds, closing, TakesEnd}
use Rattle.turn.proofs.Turns.{in_words_ended}
use Rattle.turn.proofs.Whole.{unread}
use Rattle.turn.proofs.Writing.{written_stands}
use Rattle.replay.specs.Open.{Lent, lent, IsStart, Holds, Open, part, TakesPart, Ends, Replayed}
use Rattle.replay.specs.declared.blocks.Kept.{Kept}
use Rattle.replay.proofs.Opening.{start_holds}

-- what `write_lines` writes: what the bytes taken add to the output
pub lines_written : {block : List ℕ} {from : ℕ} {w w' : Lent} {before after : List ℕ} {r : Fed} → TakesPart block from w w' before 0 after r
    → (input : List ℕ) → Holds input w
    → take r.next after ≡ adds input (part from r.taken block)
lines_written a input h = written_stands (a.gathered input h).written a.fits

-- what the end adds fits into `out`
pub end_fits : {k : Kept} {t' out out' : List ℕ} {r' : Reader} {next : ℕ} → Open (lent k) out
    → TakesEnd k.table k.reader t' r' out 0 out' next → length out' ≡ length out → next ≤ length out'
end_fits o e same =
    let p = point_after o.input in
    let k = e.closes p.state p.begun o.holds.in_words o.holds.stored in
    omega (arith, k.written.place, k.few, o.out)

-- what `end` writes: what the end adds
pub end_written : (input : List ℕ) {u before after : List ℕ} {next : ℕ} → Ends input u before after next → next ≤ length after
    → take next after ≡ closing (point_after input).state (point_after input).begun
end_written input e h = written_stands e.written h

-- what wasn't read where the program stopped early would have added nothing
pub stopped : (input : List ℕ) {w : Lent} → Holds input w → w.progress ≡ over → (rest : List ℕ) → replay (input ++ rest) ≡ replay input
stopped input {w} h e rest = unread input rest (in_words_ended (point_after input).state w.table w.list (rw e at h.in_words))

-- at its start the run has no input, so that what was read is all of it
pub all_replayed : {w : Lent} {u after : List ℕ} {next : ℕ} → IsStart w → (r : Replayed w u after next) → Ends r.bytes u r.before after next
all_replayed {w} s r = r.ends [] (start_holds w s)
