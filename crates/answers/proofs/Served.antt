-- A request served: refused, with nothing changed, or accepted, with its effect. Assumes nothing.
use Prim.Native.Nat.{ℕ, zero, suc}
use mathlib.Core.List.{List}
use mathlib.Core.Path.{◌≡◌, refl, sym}
use Rattle.machine.specs.Machine.{Machine, Words}
use Rattle.machine.specs.Request.{Request, request}
use Rattle.machine.specs.Refusal.{refusal}
use Rattle.machine.specs.Step.{Answer as Reply, refused, effect, judge, step}
use Rattle.machine.specs.Walk.{Walk}
use Rattle.machine.specs.Words.{Shows}
use Rattle.answers.specs.Promise.{Comes, ServesWalked, Answers}

module _ (m : Machine) (q : Request) {r : Reply} where
  pub refused_comes : {t : List ℕ} {n : ℕ} → n ≡ refusal m q → (n ≡ 0 → ⊥) → r ≡ refused n → Shows t m → Comes (step m q) t r
  unfolding step
  refused_comes {t} {n} e some a w = rw (sym e) (go n some a)
    where
      go : (k : ℕ) → (k ≡ 0 → ⊥) → r ≡ refused k → Comes (judge k (effect m q) m) t r
      go zero some a = absurd (some refl)
      go (suc k) some a = record { answer = a; words = w }

  pub accepted_comes : {u : List ℕ} → refusal m q ≡ 0 → Comes (effect m q) u r → Comes (step m q) u r
  unfolding step
  accepted_comes e c = rw e c

-- a call of number j, which asks q whatever the room
pub asks : {t u : List ℕ} {k a b : ℕ} {ws : Words} {r : Reply} {w : Walk} (j : ℕ) → k ≡ j → ((room : ℕ) → ServesWalked t u (request j a b ws room) r w)
    → Answers t u k a b ws r w
asks j e h = record { serves_walked = rw e h }
