-- The words of a list that refusal 11 lets pass: each process's five, and how many buffers are given out before it. Assumes nothing.
use Prim.Native.Nat.{ℕ, suc, ◌+◌, ◌-◌, ◌*◌, ◌≤◌, ◌<◌}
use native.Mathlib.Omega.{arith}
use native.Mathlib.Numerals.{add-one}
use mathlib.Core.List.{List}
use mathlib.Core.Path.{◌≡◌, sym, ap}
use lib.ListN.{length, get_or}
use Rattle.machine.specs.Queue.{Range}
use Rattle.machine.specs.Machine.{given}
use Rattle.machine.specs.Layout.{Entry, blank, entry, entries}
use Rattle.laws.proofs.Own.{given_le}
use Rattle.laws.proofs.Laid.{given_all}
use Rattle.laws.proofs.Fives.{entry_from, entry_words}
use Rattle.layout.specs.Accepted.{Accepted}

-- how many buffers each process has
abbrev pub owns : List ℕ → ℕ → ℕ
owns ws q = (entry (entries ws) q).owns

module _ {ws : List ℕ} {n k : ℕ} (a : Accepted ws n k) where
  -- a field of the entry of process p
  pub field_at : (field : Entry → ℕ) (p : ℕ) → Range n p → field (entry_from ws (5 * (p - 1))) ≡ field (entry (entries ws) p)
  field_at field p r = sym (ap field (entry_words ws p r.0 (omega (arith, a.fives))))

  pub given_more : (i : ℕ) → i < n → given (owns ws) i + get_or ws (5 * i + 1) 0 ≡ given (owns ws) (i + 1)
  unfolding given
  given_more i h =
      let e : suc i - 1 ≡ i = omega arith in
      let d : get_or ws (5 * i + 1) 0 ≡ owns ws (suc i) = rw e at (field_at (λ x. x.owns) (suc i) (omega arith)) in
      rw (add-one i) (omega arith)

  pub given_small : (i : ℕ) → i ≤ n → given (owns ws) i ≤ 128
  given_small i h =
      omega (arith, given_le (owns ws) i (length (entries ws)) (omega (arith, a.processes)), given_all blank (entries ws), a.buffers, a.small)
