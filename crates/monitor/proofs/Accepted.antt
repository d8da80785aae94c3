-- What an accepted call says: its words before were sound, and what it did is the effect of its request on a machine that they show. Assumes nothing.
use mathlib.Core.Bool.{true}
use mathlib.Core.List.{List, [], ◌∷◌}
use mathlib.Core.Path.{◌≡◌, sym, ap, ◌∙◌}
use Prim.Native.Nat.{ℕ}
use native.Mathlib.Omega.{arith}
use lib.ListN.{length, get_or}
use Rattle.machine.specs.Machine.{Machine, Words, current}
use Rattle.machine.specs.Request.{Request, request, last_call}
use Rattle.machine.specs.Refusal.{◌when◌, first, outside, refusal}
use Rattle.machine.specs.Step.{Answer as Reply, effect, step}
use Rattle.machine.specs.Words.{Shows, Header}
use Rattle.machine.specs.Legal.{Legal}
use Rattle.machine.specs.Sound.{Sound}
use Rattle.sound.proofs.CheckTold.{decided}
use Rattle.lists.proofs.Tests.{tested}
use Rattle.lists.proofs.Links.{first_is}
use Rattle.laws.proofs.Bridge.{sound_shows}
use Rattle.laws.proofs.Dispatch.{step_number}
use Rattle.monitor.specs.Promise.{Called}

-- header word 2 is current
pub current_word : {t : List ℕ} {m : Machine} → Shows t m → get_or t 2 0 ≡ current m
current_word {m = m} h = h.table.at (Header 2) (omega arith) ∙ first_is 0 m.running

-- the request q, accepted, took the words t to u and was answered with r
pub record Met (t u : List ℕ) (q : Request) (r : Reply) : Type 0 where
  pub m : Machine
  pub shows : Shows t m
  pub legal : Legal m
  pub passed : refusal m q ≡ 0
  pub words : Shows u (effect m q).machine
  pub answer : r ≡ (effect m q).answer

refuses : (k : ℕ) → first ((13 when outside k last_call) ∷ (1 when true) ∷ []) ≡ 0 → ⊥
unfolding first
refuses k e = tested {C = ⊥} (outside k last_call) (λ t. omega (arith, rw t at e)) (λ t. omega (arith, rw t at e))

module _ {t u s v : List ℕ} {k a b : ℕ} {ws : Words} {r : Reply} (c : Called t u s v k a b ws r) where
  -- by whatever machine the words show
  pub met_by : {m : Machine} → Shows t m → Legal m → r.number ≡ 0 → Met t u (request k a b ws (length s)) r
  unfolding step
  met_by {m} h L z =
      let q = request k a b ws (length s) in
      let d = c.sound m h L in
      let e : refusal m q ≡ 0 = sym (ap (λ (x : Reply). x.number) d.answer ∙ step_number m q) ∙ z in
      record { m = m; shows = h; legal = L; passed = e; words = rw e at d.words; answer = rw e at d.answer }

  pub met : r.number ≡ 0 → Met t u (request k a b ws (length s)) r
  met z = go (decided t)
    where
      go : Dec (Sound t) → Met t u (request k a b ws (length s)) r
      go (yes S) = let (m, h, L) = sound_shows S in met_by h L z
      go (no n) = absurd (refuses k (sym (ap (λ (x : Reply). x.number) (c.unsound n)) ∙ z))
