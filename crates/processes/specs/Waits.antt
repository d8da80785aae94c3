-- What the parts of calls 02, 03 and 05 ask and promise. Assumes nothing: these are definitions.
use Rattle.std.specs.Prelude.{List, ℕ, ◌≤◌, ◌<◌}
use Rattle.machine.specs.Records.{process_state, process_semaphore}
use Rattle.machine.specs.Machine.{Machine}
use Rattle.machine.specs.Step.{Answer as Reply, Outcome}
use Rattle.machine.specs.Words.{Shows}
use Rattle.table.specs.Fits.{MayPause, IsDevice}
use Rattle.answers.specs.Promise.{Comes}

-- p is current, and f is one of its plain words
abbrev pub MayWait : ℕ → ℕ → Machine → Type 0
MayWait p f m = MayPause p m × (process_state ≤ f) × (f < process_semaphore)

-- p is current, and a is a device
abbrev pub MayWaitDevice : ℕ → ℕ → Machine → Type 0
MayWaitDevice p a m = MayPause p m × IsDevice a m

-- from the words t to the words u comes the outcome that f says of the machine, with the answer r
abbrev pub LeadsTo : List ℕ → List ℕ → (Machine → Type 0) → (Machine → Outcome) → Reply → Type 0
LeadsTo t u May f r = (m : Machine) → Shows t m → May m → Comes (f m) u r
