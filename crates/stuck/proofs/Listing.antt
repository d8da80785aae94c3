-- The processes that a chain lists on the way, from place `left` down, and how many are not yet visited. Assumes nothing.
use mathlib.Core.Path.{◌≡◌, refl, sym, ap, subst, ◌∙◌}
use mathlib.Core.Bool.{Bool, true, false, not}
use mathlib.Core.List.{List, [], ◌∷◌}
use Prim.Native.Nat.{ℕ, zero, suc, ◌+◌, ◌-◌, ◌≤◌, ◌<◌, ◌%◌}
use native.Mathlib.Omega.{arith}
use lib.ListN.{length, get_or, set, length-set}
use lib.Seq.{get_or-set_same, get_or-set_other}
use lib.Dec.{eqb, leb}
use borrow.Author.Tests.{ne_eqb, le-leb, lt-leb}
use Rattle.machine.specs.Queue.{if, Range}
use Rattle.lists.specs.Counts.{count}
use Rattle.lists.proofs.Counting.{count_most}
use Rattle.stuck.specs.declared.chain.Chain.{Chain}
use Rattle.stuck.specs.Waiting.{Waiting}
use Rattle.stuck.specs.Chain.{follow, no_marks, chain, along, unvisited, MayVisit, down, Lists}
use Rattle.stuck.proofs.Steps.{follow_met, follow_ends, follow_goes, follow_left, onward_goes, along_more}
use Rattle.stuck.proofs.Visits.{count_marked, no_mark}

-- ---- how many are not yet visited
-- none is visited at first
pub unvisited_all : (n : ℕ) → n ≡ count (unvisited no_marks) n
unfolding count
unvisited_all zero = refl
unvisited_all (suc n) = rw (ne_eqb (get_or no_marks (suc n) 0) 1 (λ e. omega (arith, e, no_mark (suc n)))) (omega (arith, unvisited_all n))

-- no more are left than there are places; and where p is not visited somebody is left, and one fewer when p is
module _ {P : ℕ} {v s : List ℕ} {k : ℕ} (g : MayVisit P v s k) (h : P ≤ 32) where
  pub visit_few : k ≤ 32
  visit_few = omega (arith, g.left, count_most (unvisited v) P)

  pub visit_place : k < length s
  visit_place = omega (arith, g.list, visit_few)

  module _ {p : ℕ} (r : Range P p) (m : get_or v p 0 ≡ 1 → ⊥) where
    fewer : k ≡ suc (count (unvisited (set v p 1)) P)
    fewer = g.left ∙ count_marked (λ x. not (eqb x 1)) 1 refl v P p r (omega (arith, g.marks, r)) (ap not (ne_eqb (get_or v p 0) 1 m))

    pub visit_some : 1 ≤ k
    visit_some = omega (arith, fewer)

    pub visited : MayVisit P (set v p 1) (set s k p) (k - 1)
    visited = record { marks = length-set v p 1 ∙ g.marks; list = length-set s k p ∙ g.list; left = omega (arith, fewer) }

-- ---- the list
pub down_none : (l : List ℕ) (k : ℕ) → down l 0 k ≡ []
unfolding down
down_none l k = refl

pub down_more : (l : List ℕ) (n k q : ℕ) → q ≡ k - 1 → down l (suc n) k ≡ get_or l k 0 ∷ down l n q
unfolding down
down_more l n k q e = rw e

above_set : (s : List ℕ) (k p j : ℕ) → k < j → get_or (set s k p) j 0 ≡ get_or s j 0
above_set s k p j i = get_or-set_other s k j p 0 (λ e. omega (arith, e, i))

module _ (w : Waiting) (v s : List ℕ) (k p : ℕ) where
  pub lists_met : get_or v p 0 ≡ 1 → Lists w (follow w v k p) s s k p (k + 64)
  unfolding down along
  lists_met m =
      let z : k - k ≡ 0 = omega arith in
      subst (λ (c : Chain). Lists w c s s k p (k + 64)) (follow_met w v p k m) (record { told = refl; listed = rw z; above = λ j h. refl })

  module _ (some : 1 ≤ k) (h : k < length s) (m : get_or v p 0 ≡ 1 → ⊥) where
    pub lists_ends : (w.state p ≡ 3 → ⊥) → Lists w (follow w v k p) s (set s k p) k p (k - 1)
    unfolding down along
    lists_ends e =
        let z : k - (k - 1) ≡ 1 = omega arith in
        subst (λ (c : Chain). Lists w c s (set s k p) k p (k - 1)) (follow_ends w v p k some m e)
        (record { told = refl; listed = rw (z, get_or-set_same s k p 0 h); above = above_set s k p })

    pub lists_goes : {l : List ℕ} {r : ℕ} → w.state p ≡ 3 → Lists w (follow w (set v p 1) (k - 1) (w.holder p)) (set s k p) l (k - 1) (w.holder p) r
        → Lists w (follow w v k p) s l k p r
    lists_goes {l} {r} e g =
        let c = follow w (set v p 1) (k - 1) (w.holder p) in
        let z : k - c.left ≡ suc (k - 1 - c.left) = omega (arith, follow_left w (set v p 1) (k - 1) (w.holder p)) in
        let first : get_or l k 0 ≡ p = g.above k (omega arith) ∙ get_or-set_same s k p 0 h in
        subst (λ (c : Chain). Lists w c s l k p r) (follow_goes w v p k some m e)
        (record {
          told = g.told;
          listed =
              ap (λ (n : ℕ). down l n k) z ∙ down_more l (k - 1 - c.left) k (k - 1) refl ∙ ap (λ (x : ℕ). x ∷ down l (k - 1 - c.left) (k - 1)) first
              ∙ ap (λ (q : List ℕ). p ∷ q) g.listed
              ∙ sym (ap (λ (n : ℕ). along w n p) z ∙ along_more w (k - 1 - c.left) p (w.holder p) (onward_goes w p e));
          above = λ j i. g.above j (omega arith) ∙ above_set s k p j i;
        })

-- what comes back tells the chain
told_chain : {r : ℕ} (c : Chain) → c.left < 64 → r ≡ if c.ring (c.left + 64) c.left → ◌≡◌ {A = Chain} (record { left = r % 64; ring = leb 64 r }) c
told_chain c h e = rw e (by_ring c.left c.ring h)
  where
    by_ring : (x : ℕ) (b : Bool) → x < 64
        → ◌≡◌ {A = Chain} (record { left = if b (x + 64) x % 64; ring = leb 64 (if b (x + 64) x) }) (record { left = x; ring = b })
    by_ring x true i = let z : (x + 64) % 64 ≡ x = omega arith in rw (z, le-leb 64 (x + 64) (omega arith))
    by_ring x false i = let z : x % 64 ≡ x = omega arith in rw (z, lt-leb 64 x (omega arith))

pub lists_chain : {w : Waiting} {s l : List ℕ} {k p r : ℕ} → k ≤ 32 → Lists w (chain w k p) s l k p r
    → (◌≡◌ {A = Chain} (record { left = r % 64; ring = leb 64 r }) (chain w k p)) × (down l (k - r % 64) k ≡ along w (k - r % 64) p)
lists_chain {w} {s} {l} {k} {p} h g =
    let e = told_chain (chain w k p) (omega (arith, follow_left w no_marks k p)) g.told in
    (e, subst (λ (c : Chain). down l (k - c.left) k ≡ along w (k - c.left) p) (sym e) g.listed)
