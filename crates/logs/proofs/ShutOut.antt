-- Demand 3 on logs written out: the worked logs are ones that the machine gives, and it lets pass neither an empty listing
-- nor one that works at the first send and pretends later. Assumes nothing.
use native.Mathlib.Omega.{arith}
use mathlib.Core.List.{List, [], ◌∷◌, map}
use mathlib.Core.Path.{◌≡◌, refl, sym, ap, ◌∙◌}
use lib.ListN.{length}
use Rattle.machine.specs.Queue.{same, without, enter, from, keep, fold}
use Rattle.machine.specs.Machine.{Machine, given, Words}
use Rattle.machine.specs.Moves.{clean_buffer}
use Rattle.machine.specs.Request.{request, Send}
use Rattle.machine.specs.Refusal.{first, refusal}
use Rattle.machine.specs.Step.{Answer, Outcome, effect, step}
use Rattle.machine.specs.Layout.{owner_of, sum, laid_over, each, apart, startable}
use Rattle.machine.specs.Log.{Call, asked, move, read, listed, current_after}
use Rattle.machine.specs.WorkedLog.{two, sent, sent_twice, logs, log_of}
use Rattle.logs.specs.Follows.{Follows, last, Recorded}
use Rattle.logs.specs.Open.{LeavesOpen}
use Rattle.logs.proofs.NoBuffer.{no_buffer}

-- the answers that a machine gives to the calls
unfoldable answers_of : Machine → List Call → List Answer
answers_of m [] = []
answers_of m (c ∷ l) = (step m (asked c)).answer ∷ answers_of (step m (asked c)).machine l

follows_if : (m : Machine) (l : List Call) → answers_of m l ≡ map (λ c. c.answer) l → Follows m l
unfolding answers_of
follows_if m [] e = tt
follows_if m (c ∷ l) e = ((cc), follows_if (step m (asked c)).machine l (cc))

-- the worked logs are the machine's
abbrev Each : (List Call → Type 0) → List (List Call) → Type 0
Each C [] = Unit {0}
Each C (r ∷ l) = C r × Each C l

worked_answers : map (λ r. answers_of (laid_over [] 0 [] two) r) logs ≡ map (λ r. map (λ c. c.answer) r) logs
unfolding answers_of laid_over owner_of sum given request step effect refusal first same without enter from keep fold clean_buffer
worked_answers = refl

recorded : (l : List Call) → answers_of (laid_over [] 0 [] two) l ≡ map (λ c. c.answer) l → Recorded [] 0 [] (log_of l)
unfolding sum each apart startable
recorded l e = record { accepted = refl; setting = refl; follows = follows_if _ l e }

each_recorded : (l : List (List Call)) → map (λ r. answers_of (laid_over [] 0 [] two) r) l ≡ map (λ r. map (λ c. c.answer) r) l
    → Each (λ r. Recorded [] 0 [] (log_of r)) l
each_recorded [] e = tt
each_recorded (r ∷ l) e = (recorded r (cc), each_recorded l (cc))

pub worked_recorded : Each (λ r. Recorded [] 0 [] (log_of r)) logs
worked_recorded = each_recorded logs worked_answers

-- ---- after one send
-- an empty listing is none that demand 3 lets pass
pub not_empty : (o : Outcome) → LeavesOpen (log_of sent) 1 o → o.listing ≡ [] → ⊥
unfolding request move read keep from same owner_of sum listed
not_empty o h e = omega (arith, ap length (sym e ∙ h.rows))

-- ---- after the second
pub not_pretended : (o : Outcome) → LeavesOpen (log_of sent_twice) 1 o → o.listing ≡ 1 ∷ 1 ∷ 2 ∷ 1 ∷ 0 ∷ [] → ⊥
unfolding request move read keep from same owner_of sum listed
not_pretended o h e = omega (arith, ap length (sym e ∙ h.rows))

pub third_refused : (ws : Words) → (step (last [] 0 [] (log_of sent_twice)) (Send 2 ws)).answer.number ≡ 5
unfolding request move read keep from same owner_of sum current_after
third_refused ws = (no_buffer worked_recorded.1.0 2 ws (omega arith) (omega arith) (omega arith)).1 refl

-- which is not so after the first
pub second_not_refused : (ws : Words) → (step (last [] 0 [] (log_of sent)) (Send 2 ws)).answer.number ≡ 5 → ⊥
unfolding request move read keep from same owner_of sum current_after
second_not_refused ws e = let z = (no_buffer worked_recorded.0 2 ws (omega arith) (omega arith) (omega arith)).0 e in omega arith
