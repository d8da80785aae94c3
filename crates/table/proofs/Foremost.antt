-- Who is first in the running queue, with nobody of its rank behind it, leaves and enters where it stood. Assumes nothing.
use Prim.Native.Nat.{ℕ, ◌≤◌, ◌<◌}
use native.Mathlib.Omega.{arith}
use mathlib.Core.List.{List, [], ◌∷◌}
use mathlib.Core.Logic.{inl, inr}
use mathlib.Core.Path.{◌≡◌, refl, sym, ap, subst, ◌∙◌}
use borrow.Author.Tests.{lt-leb}
use Rattle.machine.specs.Queue.{In, Out, Distinct, head, next, without, enter, passed}
use Rattle.machine.specs.Machine.{Machine, priority, put_running}
use Rattle.machine.specs.Moves.{enter_running, leave_running}
use Rattle.machine.specs.Words.{Shows}
use Rattle.lists.proofs.Links.{first_is, no_same, out_in}
use Rattle.table.specs.Fits.{MayLeave}
use Rattle.table.specs.Links.{Foremost}
use Rattle.table.proofs.Neighbours.{without_here}

enters_first : (rank : ℕ → ℕ) (p : ℕ) (r : List ℕ) → Out 0 r → ((head r ≡ 0 → ⊥) → rank (head r) < rank p)
    → (enter rank (rank p) p r ≡ p ∷ r) × (passed rank (rank p) r ≡ 0)
unfolding enter passed
enters_first rank p [] o l = (refl, refl)
enters_first rank p (x ∷ r) o l = let low = lt-leb (rank p) (rank x) (l (λ e. o (inl (sym e)))) in (rw low refl, rw low refl)

-- told by the first of the queue and by who follows it
pub foremost : (rank : ℕ → ℕ) (q : List ℕ) (p n : ℕ) → In p q → Distinct (0 ∷ q) → head q ≡ p → n ≡ next q p → ((n ≡ 0 → ⊥) → rank n < rank p)
    → Foremost rank q p
foremost rank [] p n i d e f l = absurd i
foremost rank (y ∷ r) p n i d e f l =
    let some : 0 ≡ p → ⊥ = λ z. d.0 (inl (z ∙ sym e)) in
    let follows : n ≡ head r = f ∙ no_same 0 p _ _ some ∙ rw (← e) (first_is y r) in
    record { rest = r; first = ap (λ (x : ℕ). x ∷ r) e; lower = λ s. rw follows at (l (λ z. s (sym follows ∙ z))) }

-- who is in the running queue is a process
pub is_some : (m : Machine) {p : ℕ} → MayLeave p m → 1 ≤ p
is_some m may = let n = out_in 0 _ m.running may.fits.once.0 may.stands in omega arith

module _ (m : Machine) {p : ℕ} (may : MayLeave p m) (f : Foremost (priority m) m.running p) where
  once : Distinct (0 ∷ p ∷ f.rest)
  once = rw f.first at may.fits.once

  left : without p m.running ≡ f.rest
  left = rw f.first (without_here p f.rest once.1.0)

  entered : (enter (priority m) (priority m p) p f.rest ≡ p ∷ f.rest) × (passed (priority m) (priority m p) f.rest ≡ 0)
  entered = enters_first (priority m) p f.rest (λ i. once.0 (inr i)) f.lower

  pub stays_shown : {t : List ℕ} → Shows t m → Shows t (enter_running 0 p (leave_running p m))
  stays_shown {t} s =
      subst (λ (q : List ℕ). Shows t (put_running q m))
      (sym (ap (enter (priority m) (priority m p) p) left ∙ entered.0 ∙ sym f.first)) s

  pub stays_passing : passed (priority m) (priority m p) (without p m.running) ≡ 0
  stays_passing = ap (passed (priority m) (priority m p)) left ∙ entered.1
