-- A semaphore's counter beside the number of its waiters: one waiter more, one less, none. Assumes nothing.
use Prim.Native.Nat.{ℕ, suc, ◌+◌, ◌≤◌, ◌<◌}
use native.Mathlib.Omega.{arith}
use native.Mathlib.Decide.{dec_le}
use mathlib.Core.Path.{◌≡◌}
use Rattle.machine.specs.Machine.{up, down}
use Rattle.machine.specs.Legal.{LegalCounter}

module _ {c n : ℕ} (l : LegalCounter c n) where
  -- below zero or not
  signed : {C : Type 0} → (32768 ≤ c → c + n ≡ 65536 → C) → (c < 32768 → n ≡ 0 → C) → C
  signed {C} f g = go (dec_le 32768 c)
    where
      go : Dec (32768 ≤ c) → C
      go (yes h) = f h (l.below h)
      go (no h) = g (omega arith) (l.above (omega arith))

  -- one waiter more
  pub counter_down : 32768 ≤ down c → LegalCounter (down c) (suc n)
  counter_down b =
      let w = l.word in
      signed (λ h e. record { word = omega arith; below = λ k. omega arith; above = λ k. omega arith })
      (λ h e. record { word = omega arith; below = λ k. omega arith; above = λ k. omega arith })

  -- with nobody waiting
  pub counter_less : n ≤ 32 → down c < 32768 → LegalCounter (down c) n
  counter_less f b =
      let w = l.word in
      signed (λ h e. absurd (omega arith)) (λ h e. record { word = omega arith; below = λ k. omega arith; above = λ k. omega arith })

  pub counter_more : c < 32768 → (c ≡ 32767 → ⊥) → LegalCounter (up c) n
  counter_more b o = signed (λ h e. absurd (omega arith)) (λ h e. record { word = omega arith; below = λ k. omega arith; above = λ k. omega arith })

-- one waiter less
pub counter_up : {c n : ℕ} → LegalCounter c (suc n) → LegalCounter (up c) n
counter_up l = signed l (λ h e. record { word = omega arith; below = λ k. omega arith; above = λ k. omega arith }) (λ h e. absurd (omega arith))
