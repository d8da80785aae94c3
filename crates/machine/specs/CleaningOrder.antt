-- docs/MONITOR.md, 11, what the order of two cleans may change, by computation: a third process's event queue, the running queue, and the kinds, their sum
-- too. Assumes nothing: these are definitions.
use Rattle.std.specs.Prelude.{◌≡◌, refl, List, [], ◌∷◌, ℕ}
use Rattle.machine.specs.Queue.{same, without, enter, from, keep, fold}
use Rattle.machine.specs.Machine.{Machine, zeros, given}
use Rattle.machine.specs.Moves.{clean_buffer}
use Rattle.machine.specs.Request.{Request, Start, Send, WaitAnswer, Clean}
use Rattle.machine.specs.Refusal.{first, refusal}
use Rattle.machine.specs.Step.{cleaned, effect, step, after}
use Rattle.machine.specs.Layout.{Entry, laid_over, laid, sum, owner_of}
use Rattle.machine.specs.Worked.{named, pair}

-- ---- queues
-- A, B, C, D, E of one priority; C owns buffers 1 and 2, D buffer 3, E buffer 4
abbrev pub five : List Entry
five = named 4 0 0x4100 ∷ named 4 0 0x4200 ∷ named 4 2 0x4300 ∷ named 4 1 0x4400 ∷ named 4 1 0x4500 ∷ []

-- D waits for A's answer and E for B's; C, who runs on, has asked both
abbrev pub asked : List Request
asked =
    Start 4 ∷ Send 1 zeros ∷ WaitAnswer 3
    ∷ Start 5 ∷ Send 2 zeros ∷ WaitAnswer 4
    ∷ Start 3 ∷ Send 1 zeros ∷ Send 2 zeros ∷ []

abbrev pub asking : Machine
asking = after (laid 0 [] five) asked

-- A cleaned and then B, or B and then A: C finds its answers, and D and E run, in the order of the cleans
pub record Queues : Type 0 where
  pub a_then_b : ((cleaned 2 (cleaned 1 asking)).events 3 ≡ 1 ∷ 2 ∷ []) × ((cleaned 2 (cleaned 1 asking)).running ≡ 3 ∷ 4 ∷ 5 ∷ [])
  pub b_then_a : ((cleaned 1 (cleaned 2 asking)).events 3 ≡ 2 ∷ 1 ∷ []) × ((cleaned 1 (cleaned 2 asking)).running ≡ 3 ∷ 5 ∷ 4 ∷ [])

pub queues : Queues
unfolding laid_over step without enter from keep fold first refusal effect sum same given owner_of after clean_buffer
queues = record { a_then_b = (refl, refl); b_then_a = (refl, refl) }

-- ---- kinds
-- A has sent to B, and its message is queued there
abbrev pub sent : Machine
sent = after (laid 0 [] pair) (Start 1 ∷ Send 2 zeros ∷ [])

abbrev pub kind : ℕ → Machine → ℕ
kind p m = (effect m (Clean p)).answer.kind

-- with its sender cleaned first the message is freed, and B's clean finds nothing; with B cleaned first it is answered, and freed by A's clean
pub record Kinds : Type 0 where
  pub sender_first : (kind 1 sent ≡ 1) × (kind 2 (cleaned 1 sent) ≡ 0)
  pub receiver_first : (kind 2 sent ≡ 1) × (kind 1 (cleaned 2 sent) ≡ 1)

pub kinds : Kinds
unfolding laid_over step without enter from keep fold first refusal effect sum same given owner_of after clean_buffer
kinds = record { sender_first = (refl, refl); receiver_first = (refl, refl) }
