-- A real log: what the promises of layout and of the calls say of the same lent words, one after the other, nothing else writing them. Assumes
-- nothing: these are definitions.
use Rattle.std.specs.Prelude.{◌≡◌, List, [], ◌∷◌, ℕ, length}
use Rattle.machine.specs.Step.{Answer}
use Rattle.machine.specs.Layout.{entries}
use Rattle.machine.specs.Log.{Call, Log, left, open_with, listed}
use Rattle.answers.specs.Promise.{with_listing}
use Rattle.monitor.specs.Promise.{Called, LaidOut}

-- the call c was made on the words t, with a room of as many words as it says, and left the words u
pub record Made (t u : List ℕ) (c : Call) : Type 0 where
  pub room : List ℕ
  pub room' : List ℕ
  pub lent : length room ≡ c.room
  pub called : Called t u room room' c.number c.a c.b c.words c.answer

-- the calls were made on the words t one after the other, and left the words u
pub data Chain : List ℕ → List ℕ → List Call → Type 0 where
  none : {t : List ℕ} → Chain t t []
  more : {t u v : List ℕ} {c : Call} {l : List Call} → Made t u c → Chain u v l → Chain t v (c ∷ l)

-- the log g was written on lent words, which at its end are u: an accepted layout by its list, in either edition and with any
-- counters, then its calls
pub record Real (g : Log) (u : List ℕ) : Type 0 where
  pub list : List ℕ
  pub edition : ℕ
  pub counters : List ℕ
  pub lent : List ℕ
  pub laid : List ℕ
  pub answer : Answer
  pub names : entries list ≡ g.list
  pub layout : LaidOut list edition counters lent laid answer
  pub accepted : answer.number ≡ 0
  pub chain : Chain laid u g.calls

-- ---- demand 3
-- what call 0B for p answers and puts into the room: exactly the conversations that the log leaves open with p, by rising buffer number, with owner,
-- receiver, standing and age as the log has them; behind them the room is as it was
pub record ListingSays (g : Log) (p : ℕ) (room room' : List ℕ) (r : Answer) : Type 0 where
  pub accepted : r.number ≡ 0
  pub kind : r.kind ≡ length (open_with g p)
  pub rows : room' ≡ with_listing (listed (left g) (open_with g p)) room
