-- docs/MONITOR.md, 11, one conversation: cleaning a process again leaves it as it is, and two processes may be cleaned in either order. Assumes nothing.
use Prim.Native.Nat.{ℕ}
use mathlib.Core.Logic.{◌⊎◌, inl, inr, ⊎_elim}
use mathlib.Core.Path.{◌≡◌, refl, sym, ap, ◌∙◌}
use lib.Dec.{eqb}
use native.Mathlib.Omega.{arith}
use borrow.Author.Tests.{eq-eqb, ne_eqb}
use Rattle.machine.specs.Queue.{if}
use Rattle.machine.specs.Log.{Talk, moved, freed}
use Rattle.lists.proofs.Links.{cases}
use Rattle.lists.proofs.Tests.{either}

-- ---- what cleaning does to a conversation
-- its owner cleaned; its receiver cleaned
abbrev pub as_owner : Talk → Talk
as_owner t = let s : ℕ = t.standing in if (eqb s 1) (freed t) (if (eqb s 3) (freed t) (if (eqb s 2) (moved 4 t) t))

abbrev pub as_receiver : Talk → Talk
as_receiver t = let s : ℕ = t.standing in if (eqb s 1) (moved 3 t) (if (eqb s 2) (moved 3 t) (if (eqb s 4) (freed t) t))

abbrev pub clean_talk : ℕ → Talk → Talk
clean_talk p t = if (eqb t.owner p) (as_owner t) (if (eqb t.receiver p) (as_receiver t) t)

-- by the standings, and any other number
pub by_standing : (C : ℕ → Type 0) → C 1 → C 2 → C 3 → C 4 → ((s : ℕ) → (s ≡ 1 → ⊥) → (s ≡ 2 → ⊥) → (s ≡ 3 → ⊥) → (s ≡ 4 → ⊥) → C s) → (s : ℕ) → C s
by_standing C c₁ c₂ c₃ c₄ o s =
    cases s 1 (λ e. rw e c₁) (λ n₁. cases s 2 (λ e. rw e c₂) (λ n₂. cases s 3 (λ e. rw e c₃) (λ n₃. cases s 4 (λ e. rw e c₄) (o s n₁ n₂ n₃))))

module _ (t : Talk) where
  -- for each standing of t
  each : (C : Talk → Type 0) → C (moved 1 t) → C (moved 2 t) → C (moved 3 t) → C (moved 4 t)
      → ((s : ℕ) → (s ≡ 1 → ⊥) → (s ≡ 2 → ⊥) → (s ≡ 3 → ⊥) → (s ≡ 4 → ⊥) → C (moved s t)) → C t
  each C c₁ c₂ c₃ c₄ o = by_standing (λ s. C (moved s t)) c₁ c₂ c₃ c₄ o t.standing

  roles : as_receiver (as_owner t) ≡ as_owner (as_receiver t)
  roles = each (λ t. as_receiver (as_owner t) ≡ as_owner (as_receiver t)) refl refl refl refl
      (λ s n₁ n₂ n₃ n₄. simp (ne_eqb s 1 n₁, ne_eqb s 2 n₂, ne_eqb s 3 n₃, ne_eqb s 4 n₄))

  owner_twice : as_owner (as_owner t) ≡ as_owner t
  owner_twice = each (λ t. as_owner (as_owner t) ≡ as_owner t) refl refl refl refl (λ s n₁ n₂ n₃ n₄. simp (ne_eqb s 1 n₁, ne_eqb s 2 n₂, ne_eqb s 3 n₃))

  receiver_twice : as_receiver (as_receiver t) ≡ as_receiver t
  receiver_twice = each (λ t. as_receiver (as_receiver t) ≡ as_receiver t) refl refl refl refl
      (λ s n₁ n₂ n₃ n₄. simp (ne_eqb s 1 n₁, ne_eqb s 2 n₂, ne_eqb s 4 n₄))

-- owner and receiver stay, or the conversation ends
pub record Lasts (t u : Talk) : Type 0 where
  pub own : u.owner ≡ t.owner
  pub talks : (u.receiver ≡ t.receiver) ⊎ (u ≡ freed t)

pub owner_lasts : (t : Talk) → Lasts t (as_owner t)
owner_lasts t =
    either (Lasts t) (eqb t.standing 1) (λ _. record { own = refl; talks = inr refl })
    (λ _. either (Lasts t) (eqb t.standing 3) (λ _. record { own = refl; talks = inr refl })
    (λ _. either (Lasts t) (eqb t.standing 2) (λ _. record { own = refl; talks = inl refl }) (λ _. record { own = refl; talks = inl refl })))

pub receiver_lasts : (t : Talk) → Lasts t (as_receiver t)
receiver_lasts t =
    either (Lasts t) (eqb t.standing 1) (λ _. record { own = refl; talks = inl refl })
    (λ _. either (Lasts t) (eqb t.standing 2) (λ _. record { own = refl; talks = inl refl })
    (λ _. either (Lasts t) (eqb t.standing 4) (λ _. record { own = refl; talks = inr refl }) (λ _. record { own = refl; talks = inl refl })))

-- ---- cleaning p
module _ (p : ℕ) (t : Talk) where
  pub of_owner : t.owner ≡ p → clean_talk p t ≡ as_owner t
  of_owner e = rw (eq-eqb t.owner p e)

  pub of_receiver : (t.owner ≡ p → ⊥) → t.receiver ≡ p → clean_talk p t ≡ as_receiver t
  of_receiver n e = rw (ne_eqb t.owner p n, eq-eqb t.receiver p e)

  pub of_other : (t.owner ≡ p → ⊥) → (t.receiver ≡ p → ⊥) → clean_talk p t ≡ t
  of_other n k = rw (ne_eqb t.owner p n, ne_eqb t.receiver p k)

  of_freed : clean_talk p (freed t) ≡ freed t
  of_freed =
      either (λ (u : Talk). u ≡ freed t) (eqb t.owner p) (λ _. refl) (λ _. either (λ (u : Talk). u ≡ freed t) (eqb 0 p) (λ _. refl) (λ _. refl))

-- after another clean
module _ (p : ℕ) (t : Talk) (n : t.owner ≡ p → ⊥) {u : Talk} (k : Lasts t u) where
  meets : t.receiver ≡ p → clean_talk p u ≡ as_receiver u
  meets e = ⊎_elim (λ r. of_receiver p u (λ z. n (sym k.own ∙ z)) (r ∙ e)) (λ r. rw r (of_freed p t)) k.talks

  misses : (t.receiver ≡ p → ⊥) → clean_talk p u ≡ u
  misses e = ⊎_elim (λ r. of_other p u (λ z. n (sym k.own ∙ z)) (λ z. e (sym r ∙ z))) (λ r. rw r (of_freed p t)) k.talks

pub clean_twice : (p : ℕ) (t : Talk) → clean_talk p (clean_talk p t) ≡ clean_talk p t
clean_twice p t =
    cases t.owner p
    (λ e. rw (of_owner p t e) (of_owner p (as_owner t) ((owner_lasts t).own ∙ e) ∙ owner_twice t))
    (λ n. cases t.receiver p
    (λ e. rw (of_receiver p t n e) (meets p t n (receiver_lasts t) e ∙ receiver_twice t))
    (λ k. rw (of_other p t n k) (of_other p t n k)))

-- ---- and q
module _ (p q : ℕ) (d : p ≡ q → ⊥) (t : Talk) where
  owner_first : t.owner ≡ p → clean_talk q (clean_talk p t) ≡ clean_talk p (clean_talk q t)
  owner_first e =
      let n : t.owner ≡ q → ⊥ = λ z. d (sym e ∙ z) in
      rw (of_owner p t e)
      (cases t.receiver q
      (λ r. meets q t n (owner_lasts t) r ∙ roles t ∙ sym (of_owner p (as_receiver t) ((receiver_lasts t).own ∙ e))
      ∙ ap (clean_talk p) (sym (of_receiver q t n r)))
      (λ k. misses q t n (owner_lasts t) k ∙ sym (of_owner p t e) ∙ ap (clean_talk p) (sym (of_other q t n k))))

  receiver_first : (t.owner ≡ p → ⊥) → (t.owner ≡ q → ⊥) → t.receiver ≡ p → clean_talk q (clean_talk p t) ≡ clean_talk p (clean_talk q t)
  receiver_first n₁ n₂ e =
      let k : t.receiver ≡ q → ⊥ = λ z. d (sym e ∙ z) in
      rw (of_receiver p t n₁ e) (misses q t n₂ (receiver_lasts t) k ∙ sym (of_receiver p t n₁ e) ∙ ap (clean_talk p) (sym (of_other q t n₂ k)))

pub clean_both : (p q : ℕ) → (p ≡ q → ⊥) → (t : Talk) → clean_talk q (clean_talk p t) ≡ clean_talk p (clean_talk q t)
clean_both p q d t =
    let f : q ≡ p → ⊥ = λ e. d (sym e) in
    cases t.owner p (owner_first p q d t)
    (λ n₁. cases t.owner q (λ e. sym (owner_first q p f t e))
    (λ n₂. cases t.receiver p (receiver_first p q d t n₁ n₂)
    (λ k₁. cases t.receiver q (λ e. sym (receiver_first q p f t n₂ n₁ e))
    (λ k₂. ap (clean_talk q) (of_other p t n₁ k₁) ∙ of_other q t n₂ k₂ ∙ sym (ap (clean_talk p) (of_other q t n₂ k₂) ∙ of_other p t n₁ k₁)))))

-- ---- left as it is
-- what a conversation is like that cleaning leaves as it is
pub settled_owner : (t : Talk) → as_owner t ≡ t → (t.standing ≡ 1 → ⊥) × (t.standing ≡ 2 → ⊥) × (t.standing ≡ 3 → ⊥)
settled_owner t e = let h : (as_owner t).standing ≡ t.standing = ap (λ (t : Talk). t.standing) e in (
  λ k. omega (arith, rw k at h),
  λ k. omega (arith, rw k at h),
  λ k. omega (arith, rw k at h),
)

pub settled_receiver : (t : Talk) → as_receiver t ≡ t → (t.standing ≡ 1 → ⊥) × (t.standing ≡ 2 → ⊥) × (t.standing ≡ 4 → ⊥)
settled_receiver t e = let h : (as_receiver t).standing ≡ t.standing = ap (λ (t : Talk). t.standing) e in (
  λ k. omega (arith, rw k at h),
  λ k. omega (arith, rw k at h),
  λ k. omega (arith, rw k at h),
)
