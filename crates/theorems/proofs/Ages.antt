-- (vi) A tick moves each conversation as the log says. Assumes nothing.
use Prim.Native.Nat.{ℕ, ◌+◌, min}
use native.Mathlib.Omega.{arith}
use mathlib.Core.Bool.{Bool, true, false, not}
use mathlib.Core.List.{List, [], ◌∷◌}
use mathlib.Core.Logic.{inl, inr}
use mathlib.Core.Path.{◌≡◌, refl, ap, ◌∙◌, subst}
use lib.Dec.{eqb}
use Rattle.machine.specs.Queue.{if, Range, In, Distinct, fold}
use Rattle.machine.specs.Machine.{Machine, owner, receiver, standing, age, current, processes, buffers}
use Rattle.machine.specs.Moves.{wake, requeue}
use Rattle.machine.specs.Request.{Tick}
use Rattle.machine.specs.Step.{effect, fall, fallen, expiring, woken, grow, Answer}
use Rattle.machine.specs.Log.{Talk, talk_of, move}
use Rattle.lists.proofs.Links.{decide}
use Rattle.lists.proofs.Tests.{either}
use Rattle.lists.proofs.Numbers.{fold_keeps, from_in, from_once}
use Rattle.laws.specs.Talk.{talk}

-- ---- a sweep that deals with each buffer by itself, as g says of what is seen of it
module _ {A : Type 0} (seen : Machine → ℕ → A) (f : ℕ → Machine → Machine) (g : A → A) (own : (b : ℕ) (m : Machine) → seen (f b m) b ≡ g (seen m b))
    (others : (k b : ℕ) (m : Machine) → (k ≡ b → ⊥) → seen (f b m) k ≡ seen m k) where
  swept_past : (k : ℕ) (l : List ℕ) → (In k l → ⊥) → (m : Machine) → seen (fold f l m) k ≡ seen m k
  swept_past k l o m = fold_keeps (λ n. seen n k ≡ seen m k) f l (λ b i n e. others k b n (λ z. o (rw z i)) ∙ e) m refl

  pub swept_each : (k : ℕ) (l : List ℕ) → Distinct l → In k l → (m : Machine) → seen (fold f l m) k ≡ g (seen m k)
  unfolding fold
  swept_each k [] d i m = absurd i
  swept_each k (b ∷ l) d (inl e) m = rw e (swept_past b l d.0 (f b m) ∙ own b m)
  swept_each k (b ∷ l) d (inr i) m = swept_each k l d.1 i (f b m) ∙ ap g (others k b m (λ z. d.0 (subst (λ (x : ℕ). In x l) z i)))

-- ---- a tick
-- wakes and delays move no conversation
record Still (m n : Machine) : Type 0 where
  size : n.B ≡ m.B
  talks : (k : ℕ) → talk n k ≡ talk m k

still : (m : Machine) → Still m (requeue (current m) (woken m))
still m =
    let a : Still m (fallen m) = fold_keeps (Still m) fall (processes m) (λ p i n c. record { size = c.size; talks = c.talks }) m
    (record { size = refl; talks = λ k. refl }) in
    let w : Still m (woken m) = fold_keeps (Still m) (wake 2) (expiring m) (λ p i n c. record { size = c.size; talks = c.talks }) (fallen m) a in
    either (Still m) (eqb (current m) 0) (λ t. w) (λ t. record { size = w.size; talks = w.talks })

pub tick_talks : (m : Machine) (k : ℕ) (r : Answer) → Range m.B k → talk (effect m Tick).machine k ≡ move k (talk m k) Tick r
unfolding effect move
tick_talks m k r i =
    let n = requeue (current m) (woken m) in
    let s = still m in
    swept_each talk grow (λ t. move k t Tick r) grows (λ k b m h. simp decide) k (buffers n) (from_once 1 n.B)
    (from_in k 1 n.B i.0 (omega (arith, s.size))) n
    ∙ ap (λ (t : Talk). move k t Tick r) (s.talks k)
  where
    grows : (b : ℕ) (m : Machine) → talk (grow b m) b ≡ move k (talk m b) Tick r
    grows b m = simp decide (go (eqb (standing m b) 0))
      where
        go : (t : Bool) → talk_of (owner m b) (receiver m b) (standing m b) (if t (age m b) (min (age m b + 1) 65535))
            ≡ if (not t) (talk_of (owner m b) (receiver m b) (standing m b) (min (age m b + 1) 65535)) (talk m b)
        go true = refl
        go false = refl
