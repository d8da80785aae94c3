-- (vi) The send of a conversation and the ticks accepted since, in a log's calls alone: what its age is. Assumes nothing: these are definitions.
use Rattle.std.specs.Prelude.{◌≡◌, Bool, true, ◌&&◌, List, [], ◌∷◌, ◌++◌, ℕ, suc, ◌+◌, min, eqb}
use Rattle.machine.specs.Numbers.{call_tick, most_age}
use Rattle.machine.specs.Queue.{if}
use Rattle.machine.specs.Log.{Call}

-- ---- calls
-- c is a send accepted in buffer b
pub record SendsIn (b : ℕ) (c : Call) : Type 0 where
  pub asks : c.number ≡ 1
  pub accepted : c.answer.number ≡ 0
  pub buffer : c.answer.buffer ≡ b

-- none of the calls is one
abbrev pub Unsent : ℕ → List Call → Type 0
Unsent b [] = Unit {0}
Unsent b (c ∷ l) = (SendsIn b c → ⊥) × Unsent b l

-- c is an accepted tick
abbrev pub is_tick : Call → Bool
is_tick c = eqb c.number call_tick && eqb c.answer.number 0

-- how many of the calls are
unfoldable pub ticks_in : List Call → ℕ
ticks_in [] = 0
ticks_in (c ∷ l) = if (is_tick c) 1 0 + ticks_in l

-- ---- the last send, and the ticks since
-- the calls' last send in b
pub record LastSend (b : ℕ) (calls : List Call) : Type 0 where
  pub before : List Call
  pub send : Call
  pub after : List Call
  pub all : calls ≡ before ++ (send ∷ after)
  pub sends : SendsIn b send
  pub last : Unsent b after

-- the age of a conversation sent just before the calls: "the number of ticks accepted in the log since that send, or 65,535 if more"
abbrev pub age_after : List Call → ℕ
age_after l = min (ticks_in l) most_age

-- of that conversation in b whose send is the calls' last
pub record Since (b : ℕ) (calls : List Call) (age : ℕ) : Type 0 where
  pub sent : LastSend b calls
  pub is : age ≡ age_after sent.after

-- the k-th last tick of the calls: k minus 1 follow it
pub record LastTick (k : ℕ) (calls : List Call) : Type 0 where
  pub before : List Call
  pub tick : Call
  pub after : List Call
  pub all : calls ≡ before ++ (tick ∷ after)
  pub ticks : is_tick tick ≡ true
  pub follow : suc (ticks_in after) ≡ k

-- the calls' last send in b stands before their k-th last tick
pub record SentBefore (b : ℕ) (calls : List Call) (k : ℕ) : Type 0 where
  pub sent : LastSend b calls
  pub tick : LastTick k sent.after
