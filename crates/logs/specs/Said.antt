-- docs/MONITOR.md, 14: what a buffer says, read off the log alone beside the nine lines. No table and no machine is looked at here. Assumes nothing: these are
-- definitions.
use Rattle.std.specs.Prelude.{◌&&◌, List, [], ◌∷◌, ℕ, eqb}
use Rattle.machine.specs.Numbers.{standing_queued, standing_held, standing_answered, standing_orphaned, kind_answer}
use Rattle.machine.specs.Queue.{if}
use Rattle.machine.specs.Machine.{Words, zeros}
use Rattle.machine.specs.Moves.{withdrawn}
use Rattle.machine.specs.Request.{Request, Send, WaitAnswer, WaitEvent, SendAnswer, WaitInterrupt, Start, Stop, Clean, Tick, Interrupt, ListOpen}
use Rattle.machine.specs.Request.{Lower, Raise, Unknown}
use Rattle.machine.specs.Refusal.{among}
use Rattle.machine.specs.Step.{Answer}
use Rattle.machine.specs.Layout.{owner_in}
use Rattle.machine.specs.Log.{Call, Log, asked, Talk, talk_of, names, count}

-- what buffer b says after an accepted call that finds it in the conversation t, saying w
unfoldable pub utter : ℕ → Talk → Words → Request → Answer → Words
-- a send answering b: the words sent
utter b t w (Send a ws) r = if (eqb b r.buffer) ws w
-- 04 on held b: the words of the answer; on orphaned b: it is free, and says nothing
utter b t w (SendAnswer a ws) r = if (eqb b a && eqb t.standing standing_held) ws (if (eqb b a && eqb t.standing standing_orphaned) zeros w)
-- the receiver cleaned while b was queued or held: 8000 hexadecimal and three zeros; b freed: nothing
utter b t w (Clean a) r =
    if (eqb t.owner a && among t.standing (standing_queued ∷ standing_answered ∷ [])) zeros
    (if (eqb t.owner a && eqb t.standing standing_held) w
    (if (eqb t.receiver a && among t.standing (standing_queued ∷ standing_held ∷ [])) withdrawn
    (if (eqb t.receiver a && eqb t.standing standing_orphaned) zeros w)))
-- 02 or 03 answering b, kind 2: it is free
utter b t w (WaitAnswer a) r = if (names b kind_answer r) zeros w
utter b t w (WaitEvent d) r = if (names b kind_answer r) zeros w
-- nothing else changes what it says
utter b t w (WaitInterrupt a d) r = w
utter b t w (Start a) r = w
utter b t w (Stop a) r = w
utter b t w Tick r = w
utter b t w (Interrupt a) r = w
utter b t w (ListOpen a room) r = w
utter b t w (Lower a) r = w
utter b t w (Raise a) r = w
utter b t w Unknown r = w

-- "Only accepted calls count"
abbrev pub speak : ℕ → Talk → Words → Call → Words
speak b t w c = if (eqb c.answer.number 0) (utter b t w (asked c) c.answer) w

unfoldable pub hear : ℕ → Talk → Words → List Call → Words
hear b t w [] = w
hear b t w (c ∷ l) = hear b (count b t c) (speak b t w c) l

-- what the log leaves said in buffer b; free at layout, it says nothing
abbrev pub words_left : Log → ℕ → Words
words_left g b = hear b (talk_of (owner_in g.list b) 0 0 0) zeros g.calls

-- ---- the last send in a buffer, and what answered it
-- the words of an accepted send answering b
unfoldable pub sent_in : ℕ → Words → Request → Answer → Words
sent_in b w (Send a ws) r = if (eqb b r.buffer) ws w
sent_in b w (WaitAnswer a) r = w
sent_in b w (WaitEvent d) r = w
sent_in b w (SendAnswer a ws) r = w
sent_in b w (WaitInterrupt a d) r = w
sent_in b w (Start a) r = w
sent_in b w (Stop a) r = w
sent_in b w (Clean a) r = w
sent_in b w Tick r = w
sent_in b w (Interrupt a) r = w
sent_in b w (ListOpen a room) r = w
sent_in b w (Lower a) r = w
sent_in b w (Raise a) r = w
sent_in b w Unknown r = w

-- those of the call that answered it: line (4), 04 on held b; line (8), where lines (6) and (7) don't have it: 8000 hexadecimal and three zeros
unfoldable pub answered_in : ℕ → Talk → Words → Request → Answer → Words
answered_in b t w (SendAnswer a ws) r = if (eqb b a && eqb t.standing standing_held) ws w
answered_in b t w (Clean a) r =
    if (eqb t.owner a && among t.standing (standing_queued ∷ standing_answered ∷ [])) w
    (if (eqb t.owner a && eqb t.standing standing_held) w (if (eqb t.receiver a
    && among t.standing (standing_queued ∷ standing_held ∷ [])) withdrawn w))
answered_in b t w (Send a ws) r = w
answered_in b t w (WaitAnswer a) r = w
answered_in b t w (WaitEvent d) r = w
answered_in b t w (WaitInterrupt a d) r = w
answered_in b t w (Start a) r = w
answered_in b t w (Stop a) r = w
answered_in b t w Tick r = w
answered_in b t w (Interrupt a) r = w
answered_in b t w (ListOpen a room) r = w
answered_in b t w (Lower a) r = w
answered_in b t w (Raise a) r = w
answered_in b t w Unknown r = w

-- the last of each, of the accepted calls
unfoldable pub last_sent : ℕ → Words → List Call → Words
last_sent b w [] = w
last_sent b w (c ∷ l) = last_sent b (if (eqb c.answer.number 0) (sent_in b w (asked c) c.answer) w) l

unfoldable pub last_answered : ℕ → Talk → Words → List Call → Words
last_answered b t w [] = w
last_answered b t w (c ∷ l) = last_answered b (count b t c) (if (eqb c.answer.number 0) (answered_in b t w (asked c) c.answer) w) l

-- of a log
abbrev pub sent_last : Log → ℕ → Words
sent_last g b = last_sent b zeros g.calls

abbrev pub answered_last : Log → ℕ → Words
answered_last g b = last_answered b (talk_of (owner_in g.list b) 0 0 0) zeros g.calls
