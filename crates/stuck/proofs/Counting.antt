-- The way round a ring from its lowest process, one link more at a time, as the code counts it. Assumes nothing.
use mathlib.Core.Path.{◌≡◌, sym, subst, ◌∙◌}
use mathlib.Core.Bool.{true}
use Prim.Native.Nat.{ℕ, suc, ◌+◌, ◌-◌, ◌≤◌, ◌<◌}
use native.Mathlib.Omega.{arith}
use native.Mathlib.Numerals.{add-one}
use Rattle.machine.specs.Queue.{Range}
use Rattle.lists.proofs.Links.{cases}
use Rattle.stuck.specs.Waiting.{Waiting, Links}
use Rattle.stuck.specs.Chain.{chain_length}
use Rattle.stuck.specs.Rings.{leads, members}
use Rattle.stuck.proofs.Fits.{Fits}
use Rattle.stuck.proofs.Links.{links_more, links_one, links_round, along_late}
use Rattle.stuck.proofs.Visits.{tells_who}
use Rattle.stuck.proofs.Leading.{led}

-- n links lead from a to p, which may be a
pub record Counting (w : Waiting) (P a p n : ℕ) : Type 0 where
  pub is : Range P p
  pub some : 1 ≤ n
  pub few : n ≤ chain_length w P a
  pub by : Links w n a p

module _ {w : Waiting} {P a : ℕ} (F : Fits w P) (r : Range P a) (h : leads w P a ≡ true) where
  pub counting_one : {q : ℕ} → q ≡ w.holder a → Range P q → Counting w P a q 1
  unfolding Links
  counting_one f i = record { is = i; some = omega arith; few = omega (arith, (led F a r h).all); by = ((led F a r h).by.0, sym f) }

  module _ {p n : ℕ} (g : Counting w P a p n) where
    pub counting_back : p ≡ a → n ≡ members w P a
    counting_back e =
        let k : n ≡ suc (n - 1) = omega (arith, g.some) in
        let back : Links w (suc (n - 1)) a a = subst (λ (j : ℕ). Links w j a a) k (subst (λ (x : ℕ). Links w n a x) e g.by) in
        let l = along_late w (chain_length w P a) (n - 1) a (tells_who F a r).once back in
        rw h (omega (arith, l, g.few))

    pub counting_few : (p ≡ a → ⊥) → n < chain_length w P a
    counting_few z =
        cases n (chain_length w P a)
        (λ e. absurd (z (links_one w n a p a g.by (subst (λ (j : ℕ). Links w j a a) (sym (e ∙ (led F a r h).all)) (led F a r h).by))))
        (λ e. omega (arith, e, g.few))

    pub counting_waits : w.state p ≡ 3
    unfolding Links
    counting_waits = (links_round w n (suc (led F a r h).more) a p g.by (led F a r h).by).0

    pub counting_goes : {q : ℕ} → (p ≡ a → ⊥) → q ≡ w.holder p → Range P q → Counting w P a q (n + 1)
    counting_goes z f i =
        record {
          is = i;
          some = omega arith;
          few = omega (arith, counting_few z);
          by = rw (add-one, f) (links_more w n a p g.by counting_waits);
        }
