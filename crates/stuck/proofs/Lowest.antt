-- The way round a ring to its lowest process, one link more at a time. Assumes nothing.
use mathlib.Core.Path.{◌≡◌, refl, sym, subst}
use Prim.Native.Nat.{ℕ, zero, suc, ◌+◌, ◌≤◌, ◌<◌}
use native.Mathlib.Omega.{arith}
use native.Mathlib.Numerals.{add-one}
use Rattle.machine.specs.Queue.{Range}
use Rattle.lists.proofs.Links.{cases}
use Rattle.stuck.specs.Waiting.{Waiting, Links, Reached, WaitsThrough}
use Rattle.stuck.specs.Rings.{LowestFrom}
use Rattle.stuck.proofs.Fits.{Fits}
use Rattle.stuck.proofs.Links.{links_more, links_one, links_round, along_links, ring_has}
use Rattle.stuck.proofs.Leading.{awaits_circle}

-- n links on from p is q, and low is the lowest on the way
pub record GoingRound (w : Waiting) (P p low q n : ℕ) : Type 0 where
  pub few : n ≤ 32
  pub is : Range P q
  pub low_is : Range P low
  pub here : Links w n p q
  pub reached : Reached w p low
  pub under : (j y : ℕ) → j ≤ n → Links w j p y → low ≤ y

pub going_round_none : {w : Waiting} {P p : ℕ} → Range P p → GoingRound w P p p p 0
unfolding Links
going_round_none {w} {P} {p} r = record { few = omega arith; is = r; low_is = r; here = refl; reached = record { links = 0; by = refl }; under = go }
  where
    go : (j y : ℕ) → j ≤ 0 → Links w j p y → p ≤ y
    go zero y h l = omega (arith, l)
    go (suc j) y h l = absurd (omega arith)

-- where so many links lead from p to itself, who is reached from p is fewer links from it
gone_round : {w : Waiting} {P p low q n : ℕ} → GoingRound w P p low q n → (k : ℕ) → Links w (suc k) p p → k ≤ n → LowestFrom w P p low
gone_round {w} {P} {p} g k l h =
    record {
      is = g.low_is;
      reached = g.reached;
      under =
          λ y c. (let b = along_links w (suc k) p p y l (ring_has w p k l c.links y c.by) in g.under b.before y (omega (arith, b.all)) b.from);
    }

module _ {w : Waiting} {P p low q n : ℕ} (g : GoingRound w P p low q n) (s : WaitsThrough w p p) where
  -- each process of the ring waits
  pub going_round_waits : w.state q ≡ 3
  unfolding Links
  going_round_waits = (links_round w n (suc s.more) p q g.here s.by).0

  -- a ring has no more processes than there are
  pub going_round_over : Fits w P → Range P p → 32 ≤ n → LowestFrom w P p low
  going_round_over F r h =
      let c = awaits_circle F p r s in
      gone_round g c.more c.by (omega (arith, c.all, F.P32))

  -- from q to x
  module _ {x : ℕ} (f : x ≡ w.holder q) where
    onto : Links w (suc n) p x
    onto = rw f (links_more w n p q g.here going_round_waits)

    pub going_round_closes : x ≡ p → LowestFrom w P p low
    going_round_closes e = gone_round g n (subst (λ (y : ℕ). Links w (suc n) p y) e onto) (omega arith)

    -- what stays the lowest, or is it now
    next : {m : ℕ} → n < 32 → Range P x → Range P m → Reached w p m → m ≤ low → m ≤ x → GoingRound w P p m x (n + 1)
    next {m} h r i c u v =
        record {
          few = omega arith;
          is = r;
          low_is = i;
          here = subst (λ (j : ℕ). Links w j p x) (sym (add-one n)) onto;
          reached = c;
          under = λ j y l k. cases j (suc n)
              (λ e. (let z = links_one w (suc n) p x y onto (subst (λ (j : ℕ). Links w j p y) e k) in omega (arith, z, v)))
              (λ d. omega (arith, u, g.under j y (omega arith) k));
        }

    pub going_round_stays : n < 32 → Range P x → low ≤ x → GoingRound w P p low x (n + 1)
    going_round_stays h r l = next h r g.low_is g.reached (omega arith) l

    pub going_round_falls : n < 32 → Range P x → x < low → GoingRound w P p x x (n + 1)
    going_round_falls h r l = next h r r (record { links = suc n; by = onto }) (omega arith) (omega arith)
