-- Clocks that (xiii) shuts out, on a table of three running processes of one priority: one that leaves the current where it was, and one that swaps the first
-- two only. Assumes nothing.
use mathlib.Core.Path.{◌≡◌, refl, ap}
use mathlib.Core.List.{List, [], ◌∷◌}
use Prim.Native.Nat.{ℕ}
use native.Mathlib.Omega.{arith}
use Rattle.machine.specs.Queue.{same, without, enter, from, keep, fold}
use Rattle.machine.specs.Machine.{Machine, zeros, given}
use Rattle.machine.specs.Words.{Shows, image}
use Rattle.machine.specs.Legal.{Legal}
use Rattle.machine.specs.Request.{request, Start, Tick}
use Rattle.machine.specs.Refusal.{first, refusal}
use Rattle.machine.specs.Step.{Answer, effect, step, after}
use Rattle.machine.specs.Layout.{Entry, laid_over, laid, sum, owner_of, each, apart}
use Rattle.machine.specs.Worked.{named}
use Rattle.laws.proofs.Laid.{plain_setting, legal_laid, tells_layout}
use Rattle.laws.proofs.Step.{legal_step, legal_after}
use Rattle.laws.proofs.Unique.{image_alone}
use Rattle.monitor.specs.Promise.{Called}

-- ---- a table: A, B and C of one priority run, in this order
abbrev three : List Entry
three = named 4 0 0x4100 ∷ named 4 0 0x4200 ∷ named 4 0 0x4300 ∷ []

abbrev machine : Machine
machine = after (laid 0 [] three) (Start 1 ∷ Start 2 ∷ Start 3 ∷ [])

abbrev table : List ℕ
table = image machine

legal : Legal machine
unfolding each apart sum
legal = legal_after (legal_laid [] 0 [] plain_setting three ((tells_layout three).holds refl)) (Start 1 ∷ Start 2 ∷ Start 3 ∷ [])

none_beyond : machine.beyond ≡ []
unfolding after laid_over step refusal first effect same
none_beyond = refl

shown : Shows table machine
shown = image_alone none_beyond

-- ---- a tick, and a second one on what it leaves
module _ {u s v : List ℕ} {r : Answer} (c : Called table u s v 9 0 0 zeros r) where
  to_second : r.current ≡ 2
  unfolding request after laid_over step without enter from keep fold first refusal effect sum same given owner_of
  to_second = ap (λ (x : Answer). x.current) (c.sound machine shown legal).answer

  -- A doesn't stay current
  pub not_staying : r.current ≡ 1 → ⊥
  not_staying e = omega (arith, to_second)

  module _ {u' s' v' : List ℕ} {r' : Answer} (d : Called u u' s' v' 9 0 0 zeros r') where
    to_third : r'.current ≡ 3
    unfolding request after laid_over step without enter from keep fold first refusal effect sum same given owner_of
    to_third = ap (λ (x : Answer). x.current) (d.sound (step machine Tick).machine (c.sound machine shown legal).words (legal_step legal Tick)).answer

    -- A isn't current again before C was, as it would be if a tick swapped the first two
    pub not_swapping : r'.current ≡ 1 → ⊥
    not_swapping e = omega (arith, to_third)
