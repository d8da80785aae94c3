-- A chain of calls of which any are made by the quick entry, whose promise holds on a sound table only. Assumes nothing: these are definitions.
use Rattle.std.specs.Prelude.{Bool, true, List, [], ◌∷◌, ◌≡◌, ℕ, length}
use Rattle.machine.specs.Machine.{Words}
use Rattle.machine.specs.Step.{Answer}
use Rattle.machine.specs.Sound.{Sound}
use Rattle.machine.specs.Log.{Call}
use Rattle.monitor.specs.Promise.{Called}

-- what is asked: a call, its parts, and the words of the room that is lent
pub record Question : Type 0 where
  pub number : ℕ
  pub a : ℕ
  pub b : ℕ
  pub words : Words
  pub room : List ℕ

-- what comes of it: the answer, and the words of the room afterwards
pub record Outcome : Type 0 where
  pub answer : Answer
  pub room : List ℕ

-- the promise of `call`, whatever the words t are
abbrev pub Answered : List ℕ → List ℕ → Question → Outcome → Type 0
Answered t u q o = Called t u q.room o.room q.number q.a q.b q.words o.answer

-- a call on the words t: the promise of `call`; if it is made by the quick entry, only where these are a sound table
pub record Made (t : List ℕ) (q : Question) : Type 0 where
  pub quick : Bool
  pub left : List ℕ
  pub outcome : Outcome
  pub promised : (quick ≡ true → Sound t) → Answered t left q outcome

-- one call after the other on the same lent words, each by one entry or the other, nothing else writing them
abbrev pub Mixed : List ℕ → List Question → Type 0
Mixed t [] = Unit {0}
Mixed t (q ∷ qs) = (k : Made t q) × Mixed k.left qs

-- the words that they leave
unfoldable pub left : (t : List ℕ) (qs : List Question) → Mixed t qs → List ℕ
left t [] c = t
left t (q ∷ qs) c = left c.0.left qs c.1

-- what came of each
unfoldable pub outcomes : (t : List ℕ) (qs : List Question) → Mixed t qs → List Outcome
outcomes t [] c = []
outcomes t (q ∷ qs) c = c.0.outcome ∷ outcomes c.0.left qs c.1

-- the log that they write
abbrev pub entry : Question → Outcome → Call
entry q o = record { number = q.number; a = q.a; b = q.b; words = q.words; room = length q.room; answer = o.answer }

unfoldable pub written : (t : List ℕ) (qs : List Question) → Mixed t qs → List Call
written t [] c = []
written t (q ∷ qs) c = entry q c.0.outcome ∷ written c.0.left qs c.1
