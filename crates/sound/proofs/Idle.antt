-- Words laid one over the other are 0 only where each is, and then the devices name nobody. Assumes nothing.
use mathlib.Core.Path.{◌≡◌, refl, sym}
use mathlib.Core.Bool.{true}
use mathlib.Core.List.{List}
use Prim.Native.Nat.{ℕ, zero, suc, ◌+◌}
use native.Mathlib.Numerals.{add-one}
use native.Mathlib.Omega.{arith}
use lib.Bits.{bit_or, or_add_and, and_le_l, and_le_r}
use lib.ListN.{get_or}
use lib.Dec.{eqb}
use borrow.Author.Tests.{eq-eqb}
use Rattle.lists.specs.Counts.{all}
use Rattle.lists.proofs.Counting.{all_none, all_more}
use Rattle.sound.specs.Devices.{device, named}

over_none : (a b : ℕ) → bit_or a b ≡ 0 → (a ≡ 0) × (b ≡ 0)
over_none a b e =
    (omega (arith, or_add_and a b, and_le_l a b, and_le_r a b), omega (arith, or_add_and a b, and_le_l a b, and_le_r a b))

pub idle : (w : List ℕ) (d : ℕ) → eqb (get_or w (7 + d) 0) 0 ≡ true → device w d ≡ true
unfolding device
idle w d e = rw e refl

-- nobody is named
pub named_none : (w : List ℕ) (n : ℕ) → named w n ≡ 0 → true ≡ all (device w) n
unfolding named
named_none w zero e = sym (all_none (device w))
named_none w (suc n) e =
    let h = over_none (named w n) (get_or w (7 + suc n) 0) e in
    sym (rw add-one at (all_more (device w) n (sym (named_none w n h.0)) (rw add-one (idle w (suc n) (eq-eqb _ _ h.1)))))
