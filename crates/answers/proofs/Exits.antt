-- A call that a refusal ends, as the exit of a `?` gives it: nothing has changed, and nobody entered. Assumes nothing.
use native.Mathlib.Omega.{arith}
use mathlib.Core.List.{List}
use mathlib.Core.Path.{◌≡◌, refl}
use Prim.Native.Nat.{ℕ}
use Rattle.std.specs.Prelude.{Result, Err}
use Rattle.std.specs.Result.{IsErrAnd}
use Rattle.std.proofs.lemmas.Result.{err_from_is_err_and}
use Rattle.machine.specs.Exchange.{number_of, replied}
use Rattle.machine.specs.Machine.{Machine}
use Rattle.machine.specs.Request.{Request}
use Rattle.machine.specs.Refusal.{refusal}
use Rattle.machine.specs.Legal.{Legal}
use Rattle.machine.specs.Words.{Shows}
use Rattle.machine.specs.declared.exchange.Answer.{Answer}
use Rattle.machine.specs.declared.refusal.Refusal.{Refusal}
use Rattle.machine.specs.declared.refusal.Refusal.TheVariants.{NoSuchCall, TableNotSound, NoCurrent, NoSuchDevice, NoSuchProcess, SentToOneself}
use Rattle.machine.specs.declared.refusal.Refusal.TheVariants.{NoFreeBuffer, WrongBuffer, WrongState, DeviceTaken, RoomTooShort, WrongList}
use Rattle.machine.specs.declared.refusal.Refusal.TheVariants.{TableTooShort, NoSuchSemaphore, CounterFull}
use Rattle.answers.specs.declared.Walked.{Walked}
use Rattle.answers.specs.Promise.{answer_in, walk_in, Serves, ServesWalked}
use Rattle.answers.proofs.Served.{refused_comes}
use Rattle.answers.proofs.Walks.{refused_walked}

-- no refusal has the number 0
pub number_some : (e : Refusal) → number_of e ≡ 0 → ⊥
number_some NoSuchCall = omega arith
number_some TableNotSound = omega arith
number_some NoCurrent = omega arith
number_some NoSuchDevice = omega arith
number_some NoSuchProcess = omega arith
number_some SentToOneself = omega arith
number_some NoFreeBuffer = omega arith
number_some WrongBuffer = omega arith
number_some WrongState = omega arith
number_some DeviceTaken = omega arith
number_some RoomTooShort = omega arith
number_some WrongList = omega arith
number_some TableTooShort = omega arith
number_some NoSuchSemaphore = omega arith
number_some CounterFull = omega arith

-- the refusal is the whole of it
pub refused_walks : {t : List ℕ} {q : Request} {e : Refusal} {r : Result Walked Refusal} → ((m : Machine) → Shows t m → Legal m → number_of e ≡ refusal m q)
    → r ≡ Err e → ServesWalked t t q (answer_in r) (walk_in r)
refused_walks {e = e} h is = rw is (refused_walked h (number_some e) refl refl)

pub refused_serves : {t : List ℕ} (q : Request) {e : Refusal} {r : Result Answer Refusal} → ((m : Machine) → Shows t m → Legal m → number_of e ≡ refusal m q)
    → r ≡ Err e → Serves t t q (replied r)
refused_serves q {e = e} h is = rw is (λ m w L. refused_comes m q (h m w L) (number_some e) refl w)

-- what the exit of a `?` gives is what it got
pub exit_is : {A : Type 0} {r : Result A Refusal} {e : Refusal} → IsErrAnd r (λ d. d ≡ e) → r ≡ Err e
exit_is {r = r} h = let p = err_from_is_err_and r h in rw (p.1, p.2) refl
