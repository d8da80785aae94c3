-- A buffer that grows older by a tick, or stays as old as it is. Assumes nothing.
use mathlib.Core.List.{List}
use mathlib.Core.Path.{◌≡◌, refl, sym, subst, ◌∙◌}
use Prim.Native.Nat.{ℕ, ◌+◌, ◌<◌}
use native.Mathlib.Omega.{arith}
use borrow.Author.Tests.{eq-eqb, ne_eqb}
use Rattle.machine.specs.Queue.{from}
use Rattle.machine.specs.Machine.{Machine, with_buffer, standing, age, put_buffer}
use Rattle.machine.specs.Step.{older, grow}
use Rattle.machine.specs.Words.{Shows}
use Rattle.lists.proofs.Links.{cases}
use Rattle.lists.proofs.Lists.{field_here, field_else}
use Rattle.lists.proofs.Numbers.{fold_keeps}
use Rattle.laws.proofs.Sweeps.{swept}

-- a free one stays, and so does one that is as old as can be
pub older_free : {s : ℕ} (a : ℕ) → s ≡ 0 → older s a ≡ a
older_free {s} a e = rw (eq-eqb s 0 e)

pub older_last : (s : ℕ) {a : ℕ} → (s ≡ 0 → ⊥) → a ≡ 65535 → older s a ≡ a
older_last s {a} n e = rw (ne_eqb s 0 n) (omega arith)

pub older_more : (s : ℕ) {a : ℕ} → (s ≡ 0 → ⊥) → a < 65535 → older s a ≡ a + 1
older_more s {a} n l = rw (ne_eqb s 0 n) (omega arith)

-- as many buffers
pub grown_size : (k : ℕ) (m : Machine) → (swept grow k m).B ≡ m.B
grown_size k m = fold_keeps (λ n. n.B ≡ m.B) grow (from 1 k) (λ b i n e. e) m refl

-- words that show a machine show it with an age that stays
pub grow_stays : {t : List ℕ} (b : ℕ) (m : Machine) → older (standing m b) (age m b) ≡ age m b → Shows t m → Shows t (grow b m)
grow_stays {t} b m e = subst (λ (g : ℕ → ℕ → ℕ). Shows t (with_buffer m.events g m)) (λ i k g. same k g i)
  where
    same : (k g : ℕ) → m.buffer k g ≡ (grow b m).buffer k g
    same k g = sym (cases k b
        (λ h. cases g 5
        (λ l. rw (h, l) (field_here m.buffer b 5 _ ∙ e))
        (λ l. field_else m.buffer b 5 _ k g (λ _ y. l y)))
        (λ h. field_else m.buffer b 5 _ k g (λ x _. h x)))

-- and with an age that is one more
pub grow_more : {t : List ℕ} {x : ℕ} (b : ℕ) (m : Machine) → x ≡ older (standing m b) (age m b) → Shows t (put_buffer b 5 x m) → Shows t (grow b m)
grow_more {t} b m e = subst (λ (y : ℕ). Shows t (put_buffer b 5 y m)) e
