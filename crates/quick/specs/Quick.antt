-- What a quick call does to the fifteen words of the register record. Assumes nothing: these are definitions.
use Rattle.std.specs.Prelude.{List, [], ◌∷◌, ◌≡◌, ℕ}
use Rattle.std.proofs.lemmas.List.Edits.{sets}
use Rattle.machine.specs.Step.{Answer}
use Rattle.monitor.specs.Promise.{Called}
use Rattle.trap.specs.Trapped.{words, registers}

-- where the answer's words begin, and its words: number, kind, buffer, current afterwards, four words
abbrev pub answer_place : ℕ
answer_place = 7

abbrev pub answer_words : Answer → List ℕ
answer_words r = r.number ∷ r.kind ∷ r.buffer ∷ r.current ∷ r.words.w₀ ∷ r.words.w₁ ∷ r.words.w₂ ∷ r.words.w₃ ∷ []

-- the call that the words of the record say takes the table t and the room s to u and v, and these words from before to after
pub record QuickTrapped (t u s v before after : List ℕ) : Type 0 where
  pub answer : Answer
  pub called : Called t u s v (registers before).call (registers before).a (registers before).b (words (registers before)) answer
  -- the answer goes into its places, and no other word changes
  pub stored : after ≡ sets before answer_place (answer_words answer)
