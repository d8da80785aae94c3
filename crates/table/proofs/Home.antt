-- A buffer's home, the process in whose event queue it stands, as the words of a buffer change. Assumes nothing.
use Prim.Native.Nat.{ℕ, ◌≤◌}
use native.Mathlib.Omega.{arith}
use mathlib.Core.List.{List}
use mathlib.Core.Path.{◌≡◌, sym, ◌∙◌}
use Rattle.machine.specs.Queue.{Out}
use Rattle.machine.specs.Machine.{at₂}
use Rattle.machine.specs.Words.{home}
use Rattle.lists.proofs.Links.{cases, yes_same, no_same, out_in}
use Rattle.lists.proofs.Lists.{field_else}
use Rattle.table.specs.Fits.{EventsFit}

-- it is 0, the owner or the receiver
pub home_within : (f : ℕ → ℕ → ℕ) (b n : ℕ) → f b 2 ≤ n → f b 3 ≤ n → home f b ≤ n
unfolding home
home_within f b n o r =
    cases (f b 4) 1
    (λ e. rw (yes_same (f b 4) 1) r)
    (λ d. rw (no_same (f b 4) 1) (cases (f b 4) 3 (λ e. rw (yes_same (f b 4) 3) o) (λ k. rw (no_same (f b 4) 3) (omega arith))))

-- it is the same where owner, receiver and standing are
home_same : (f k : ℕ → ℕ → ℕ) (b : ℕ) → k b 2 ≡ f b 2 → k b 3 ≡ f b 3 → k b 4 ≡ f b 4 → home k b ≡ home f b
unfolding home
home_same f k b o r s = cc

module _ (f : ℕ → ℕ → ℕ) (b g x : ℕ) where
  home_else : (y : ℕ) → (y ≡ b → 5 ≤ g) → home (at₂ f b g x) y ≡ home f y
  home_else y h =
      home_same f (at₂ f b g x) y
      (field_else f b g x y 2 (λ e z. omega (arith, h e)))
      (field_else f b g x y 3 (λ e z. omega (arith, h e)))
      (field_else f b g x y 4 (λ e z. omega (arith, h e)))

  -- another buffer's stays
  pub home_other : (y : ℕ) → (y ≡ b → ⊥) → home (at₂ f b g x) y ≡ home f y
  home_other y n = home_else y (λ e. absurd (n e))

  -- a word of the message moves none
  pub home_message : 5 ≤ g → (y : ℕ) → home (at₂ f b g x) y ≡ home f y
  home_message l y = home_else y (λ e. l)

  -- so what an event queue holds fits it still
  pub fits_other : {B p : ℕ} {q : List ℕ} → Out b q → EventsFit B (home f) p q → EventsFit B (home (at₂ f b g x)) p q
  fits_other {q = q} o s =
      record { once = s.once; within = λ y i. ((s.within y i).0, home_other y (λ e. out_in b y q o i (sym e)) ∙ (s.within y i).1) }

  pub fits_message : {B p : ℕ} {q : List ℕ} → 5 ≤ g → EventsFit B (home f) p q → EventsFit B (home (at₂ f b g x)) p q
  fits_message l s = record { once = s.once; within = λ y i. ((s.within y i).0, home_message l y ∙ (s.within y i).1) }
