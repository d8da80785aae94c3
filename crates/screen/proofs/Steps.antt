-- A queue followed to its end, one link more along it, and one buffer more of a run. Assumes nothing.
use mathlib.Core.Path.{◌≡◌, refl, ap}
use mathlib.Core.Bool.{Bool, true, false}
use mathlib.Core.List.{List, [], ◌∷◌}
use mathlib.Core.Logic.{inl, inr}
use Prim.Native.Nat.{ℕ, zero, suc, ◌+◌, ◌-◌, ◌≤◌, ◌<◌}
use native.Mathlib.Numerals.{add-one}
use native.Mathlib.Omega.{arith}
use borrow.Author.Tests.{eq-eqb, ne_eqb}
use lib.ListN.{length}
use Rattle.machine.specs.Queue.{if, Range, In, Distinct, Linked, from, keep}
use Rattle.machine.specs.Sound.{B_of, process_at, buffer_at}
use Rattle.lists.specs.Counts.{bit}
use Rattle.lists.proofs.Numbers.{few}
use Rattle.screen.specs.Reading.{along, queued, is_taken, taken}

-- from b on n links lead from buffer to buffer, and the last to 0
unfoldable pub Follows : List ℕ → ℕ → ℕ → Type 0
Follows t zero b = b ≡ 0
Follows t (suc n) b = Range (B_of t) b × Follows t n (buffer_at t b 0)

module _ (t : List ℕ) where
  -- ---- along a queue
  along_zero : (k b : ℕ) → b ≡ 0 → along t k b ≡ 0
  unfolding along
  along_zero zero b e = refl
  along_zero (suc k) b e = rw (eq-eqb b 0 e)

  along_follows : (n k b : ℕ) → n ≤ k → Follows t n b → along t k b ≡ n
  unfolding along Follows
  along_follows zero k b h f = along_zero k b f
  along_follows (suc n) zero b h f = absurd (omega arith)
  along_follows (suc n) (suc k) b h f = rw (ne_eqb b 0 (λ e. omega (arith, f.0))) (ap suc (along_follows n k (buffer_at t b 0) (omega arith) f.1))

  queue_follows : (b before last : ℕ) (q : List ℕ) → Linked (λ x. buffer_at t x 0) (λ x. buffer_at t x 1) b before q last
      → ((x : ℕ) → In x q → Range (B_of t) x) → Follows t (length q) b
  unfolding Linked Follows
  queue_follows b before last [] k h = k.0
  queue_follows b before last (x ∷ q) k h = rw k.0 (h x (inl refl), queue_follows (buffer_at t x 0) x last q k.2 (λ y i. h y (inr i)))

  -- a queue of buffers, each once: its length is what is read, and its links lead through it
  pub queue_read : (p last : ℕ) (q : List ℕ) → Linked (λ x. buffer_at t x 0) (λ x. buffer_at t x 1) (process_at t p 2) 0 q last → Distinct q
      → ((x : ℕ) → In x q → Range (B_of t) x) → (queued t p ≡ length q) × (length q ≤ B_of t) × Follows t (length q) (process_at t p 2)
  queue_read p last q k d h =
      let fits = few 0 (B_of t) q d (λ x i. omega (arith, h x i)) in
      let f = queue_follows (process_at t p 2) 0 last q k h in
      (along_follows (length q) (B_of t) (process_at t p 2) fits f, fits, f)

  -- one link more: b is a buffer, so that its word is there, and there is one link less behind it
  pub follows_ends : (n b : ℕ) → Follows t n b → b ≡ 0 → n ≡ 0
  unfolding Follows
  follows_ends zero b f e = refl
  follows_ends (suc n) b f e = absurd (omega (arith, f.0))

  pub follows_goes : (n b : ℕ) → Follows t n b → (b ≡ 0 → ⊥) → (1 ≤ n) × Range (B_of t) b × Follows t (n - 1) (buffer_at t b 0)
  unfolding Follows
  follows_goes zero b f some = absurd (some f)
  follows_goes (suc n) b f some = let e : suc n - 1 ≡ n = omega arith in (omega arith, f.0, rw e f.1)

  -- ---- over a run
  pub taken_over : (b n : ℕ) → n ≤ 0 → taken t b n ≡ 0
  unfolding taken keep from
  taken_over b zero h = refl
  taken_over b (suc n) h = absurd (omega arith)

  one_more : (x : Bool) (b : ℕ) (l : List ℕ) → length (if x (b ∷ l) l) ≡ bit x + length l
  one_more true b l = omega arith
  one_more false b l = omega arith

  pub taken_goes : (b n : ℕ) → 0 < n → taken t b n ≡ bit (is_taken t b) + taken t (b + 1) (n - 1)
  unfolding taken keep from
  taken_goes b zero h = absurd (omega arith)
  taken_goes b (suc n) h = let k : suc n - 1 ≡ n = omega arith in rw (k, add-one b) (one_more (is_taken t b) b (keep (is_taken t) (from (suc b) n)))
