-- What the parts of call 0B ask and promise. Assumes nothing: these are definitions.
use Rattle.std.specs.Prelude.{List, [], ◌≡◌, ℕ, ◌+◌, ◌*◌, ◌≤◌, length}
use Rattle.std.proofs.lemmas.List.Edits.{sets}
use Rattle.machine.specs.Queue.{if, Range}
use Rattle.machine.specs.Machine.{Machine}
use Rattle.machine.specs.Words.{Shows}
use Rattle.machine.specs.Legal.{Legal}
use Rattle.machine.specs.Request.{ListOpen}
use Rattle.machine.specs.Refusal.{is_shown, shown, row_width}
use Rattle.machine.specs.Step.{Answer as Reply, row, rows, step}
use Rattle.answers.specs.Promise.{Comes, with_listing}

-- b's row, if a listing for a shows it
abbrev pub rows_of : Machine → ℕ → ℕ → List ℕ
rows_of m a b = if (is_shown m a b) (row m b []) []

-- b is a buffer, and there is room for a row at `at`, if one is to go there
abbrev pub MayShow : ℕ → ℕ → ℕ → ℕ → Machine → Type 0
MayShow a b at n m = Range m.B b × (at + length (rows_of m a b) ≤ n)

-- from the room s to the room v b's row went in at `at`, and the next goes to r
pub record Shown (t s v : List ℕ) (a b at r : ℕ) : Type 0 where
  pub put : (m : Machine) → Shows t m → Range m.B b → v ≡ sets s at (rows_of m a b)
  pub next : (m : Machine) → Shows t m → Range m.B b → r ≡ at + length (rows_of m a b)

-- room for all rows
abbrev pub RoomFor : ℕ → ℕ → Machine → Type 0
RoomFor a n m = row_width * length (shown m a) ≤ n

-- from the room s to the room v all rows of a listing for a went in, and end at r
pub record FillsRoom (t s v : List ℕ) (a r : ℕ) : Type 0 where
  pub put : (m : Machine) → Shows t m → RoomFor a (length s) m → v ≡ with_listing (rows m (shown m a)) s
  pub end : (m : Machine) → Shows t m → RoomFor a (length s) m → r ≡ row_width * length (shown m a)

-- from the room s to the room v call 0B for a is served on the words t, answering r
pub record ServesListing (t s v : List ℕ) (a : ℕ) (r : Reply) : Type 0 where
  pub comes : (m : Machine) → Shows t m → Legal m → Comes (step m (ListOpen a (length s))) t r
  pub room : (m : Machine) → Shows t m → Legal m → v ≡ with_listing (step m (ListOpen a (length s))).listing s
