-- What a machine says of a conversation, in the words in which a log is read. Assumes nothing: this is a definition.
use Rattle.std.specs.Prelude.{ℕ}
use Rattle.machine.specs.Machine.{Machine, owner, receiver, standing, age}
use Rattle.machine.specs.Log.{Talk, talk_of}

-- of buffer b: its owner, receiver, standing and age
abbrev pub talk : Machine → ℕ → Talk
talk m b = talk_of (owner m b) (receiver m b) (standing m b) (age m b)
