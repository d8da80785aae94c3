-- The words of a table laid out, index by index: all are 0 but P, B, the edition, how many semaphores and their counters, what the entries say and
-- the owners, whatever stands
-- beyond. Assumes nothing.
use Prim.Native.Nat.{ℕ, zero, suc, ◌+◌, ◌-◌, ◌*◌, ◌/◌, ◌%◌, ◌≤◌, ◌<◌}
use native.Mathlib.Omega.{arith}
use mathlib.Core.Bool.{Bool}
use mathlib.Core.List.{List, [], ◌∷◌}
use mathlib.Core.Path.{◌≡◌, refl, ap, ◌∙◌}
use lib.ListN.{length, get_or}
use lib.Dec.{eqb}
use borrow.Author.Tests.{eq-eqb, ne_eqb, lt-ltb, le-ltb}
use Rattle.machine.specs.Queue.{if, same, previous}
use Rattle.machine.specs.Words.{Process, Buffer, Semaphore, size, header_word, process_word, buffer_word, home, links, word, image}
use Rattle.machine.specs.Layout.{Entry, sum, entry_word, owner_of, owner_in, laid_over}
use Rattle.lists.proofs.Tests.{either}
use Rattle.lists.proofs.Links.{no_same}
use Rattle.laws.proofs.Unique.{image_at}

-- the empty queue has no last, and nothing stands before x in it
empty_previous : (x : ℕ) → previous [] x ≡ 0
unfolding same
empty_previous x = either (λ (n : ℕ). n ≡ 0) (eqb 0 x) (λ t. refl) (λ t. refl)

-- ---- the words of each kind of record, with empty queues
zero_header : (n k e c i : ℕ) → 2 ≤ i → (i ≡ 4 → ⊥) → (i ≡ 5 → ⊥) → header_word n k 0 0 (λ i. if (eqb i 4) e (if (eqb i 5) c 0)) (λ d. 0) i ≡ 0
zero_header n k e c zero h o u = absurd (omega arith)
zero_header n k e c (suc zero) h o u = absurd (omega arith)
zero_header n k e c (suc (suc zero)) h o u = refl
zero_header n k e c (suc (suc (suc zero))) h o u = refl
zero_header n k e c (suc (suc (suc (suc zero)))) h o u = absurd (o refl)
zero_header n k e c (suc (suc (suc (suc (suc zero))))) h o u = absurd (u refl)
zero_header n k e c (suc (suc (suc (suc (suc (suc zero)))))) h o u = refl
zero_header n k e c (suc (suc (suc (suc (suc (suc (suc zero))))))) h o u = refl
zero_header n k e c (suc (suc (suc (suc (suc (suc (suc (suc d)))))))) h o u = refl

plain_process : (l : List Entry) (p f : ℕ) → process_word 0 0 0 0 (entry_word l p) f ≡ entry_word l p f
plain_process l p zero = refl
plain_process l p (suc zero) = refl
plain_process l p (suc (suc zero)) = refl
plain_process l p (suc (suc (suc zero))) = refl
plain_process l p (suc (suc (suc (suc f)))) = refl

plain_buffer : (v g : ℕ) → buffer_word 0 0 (λ h. if (eqb h 2) v 0) g ≡ if (eqb g 2) v 0
plain_buffer v zero = refl
plain_buffer v (suc zero) = refl
plain_buffer v (suc (suc g)) = refl

process_words : (beyond : List ℕ) (edition : ℕ) (counters : List ℕ) (l : List Entry) (p f : ℕ)
    → word (laid_over beyond edition counters l) (links (laid_over beyond edition counters l)) (Process p f) ≡ entry_word l p f
unfolding laid_over
process_words beyond edition counters l zero f = rw (empty_previous 0) (plain_process l 0 f)
process_words beyond edition counters l (suc p) f = rw (empty_previous (suc p), empty_previous 0) (plain_process l (suc p) f)

buffer_words : (beyond : List ℕ) (edition : ℕ) (counters : List ℕ) (l : List Entry) (b g : ℕ)
    → word (laid_over beyond edition counters l) (links (laid_over beyond edition counters l)) (Buffer b g) ≡ if (eqb g 2) (owner_in l b) 0
unfolding laid_over home same
buffer_words beyond edition counters l b g = rw (empty_previous b) (plain_buffer (owner_in l b) g)

semaphore_words : (beyond : List ℕ) (edition : ℕ) (counters : List ℕ) (l : List Entry) (s h : ℕ)
    → word (laid_over beyond edition counters l) (links (laid_over beyond edition counters l)) (Semaphore s h) ≡ if (eqb h 0) (get_or (0 ∷ counters) s 0) 0
unfolding laid_over
semaphore_words beyond edition counters l s zero = refl
semaphore_words beyond edition counters l zero (suc zero) = refl
semaphore_words beyond edition counters l (suc s) (suc zero) = refl
semaphore_words beyond edition counters l zero (suc (suc zero)) = empty_previous 0
semaphore_words beyond edition counters l (suc s) (suc (suc zero)) = empty_previous 0
semaphore_words beyond edition counters l s (suc (suc (suc h))) = rw (ne_eqb (suc (suc (suc h))) 0 (omega arith))

-- ---- the words of the table
module _ (beyond : List ℕ) (edition : ℕ) (counters : List ℕ) (l : List Entry) where
  pub laid_processes : get_or (image (laid_over beyond edition counters l)) 0 0 ≡ length l
  unfolding laid_over
  laid_processes = image_at (laid_over beyond edition counters l) 0 (omega arith)

  pub laid_buffers : get_or (image (laid_over beyond edition counters l)) 1 0 ≡ sum l
  unfolding laid_over
  laid_buffers = image_at (laid_over beyond edition counters l) 1 (omega arith)

  pub laid_edition : get_or (image (laid_over beyond edition counters l)) 4 0 ≡ edition
  unfolding laid_over
  laid_edition = image_at (laid_over beyond edition counters l) 4 (omega arith)

  pub laid_semaphores : get_or (image (laid_over beyond edition counters l)) 5 0 ≡ length counters
  unfolding laid_over
  laid_semaphores = image_at (laid_over beyond edition counters l) 5 (omega arith)

  pub laid_header : (i : ℕ) → 2 ≤ i → (i ≡ 4 → ⊥) → (i ≡ 5 → ⊥) → i < 72 → get_or (image (laid_over beyond edition counters l)) i 0 ≡ 0
  unfolding laid_over same
  laid_header i h o v u = image_at (laid_over beyond edition counters l) i (omega arith)
      ∙ rw (lt-ltb i 72 u) (zero_header (length l) (sum l) edition (length counters) i h o v)

  -- in process p = (i - 56) / 16
  pub laid_process : (i : ℕ) → 72 ≤ i → i < 72 + 16 * length l
      → get_or (image (laid_over beyond edition counters l)) i 0 ≡ entry_word l ((i - 56) / 16) ((i - 56) % 16)
  unfolding laid_over
  laid_process i h u =
      image_at (laid_over beyond edition counters l) i (omega arith)
      ∙ rw (le-ltb i 72 h, lt-ltb i (72 + 16 * length l) u) (process_words beyond edition counters l ((i - 56) / 16) ((i - 56) % 16))

  -- in buffer j / 10, counting j from where a buffer 0 would stand
  module _ (i j : ℕ) (e : i - 62 - 16 * length l ≡ j) (h : 72 + 16 * length l ≤ i) (u : i < 72 + 16 * length l + 10 * sum l) where
    at_buffer : get_or (image (laid_over beyond edition counters l)) i 0 ≡ if (eqb (j % 10) 2) (owner_in l (j / 10)) 0
    unfolding laid_over
    at_buffer =
        image_at (laid_over beyond edition counters l) i (omega arith)
        ∙ rw (le-ltb i 72 (omega arith), le-ltb i (72 + 16 * length l) h, lt-ltb i (72 + 16 * length l + 10 * sum l) u, e)
        (buffer_words beyond edition counters l (j / 10) (j % 10))

    pub laid_buffer : (j % 10 ≡ 2 → ⊥) → get_or (image (laid_over beyond edition counters l)) i 0 ≡ 0
    laid_buffer n = at_buffer ∙ ap (λ (t : Bool). if t (owner_in l (j / 10)) 0) (ne_eqb (j % 10) 2 n)

    pub laid_owner : j % 10 ≡ 2 → get_or (image (laid_over beyond edition counters l)) i 0 ≡ owner_of 1 l (j / 10 - 1)
    laid_owner d =
        at_buffer ∙ ap (λ (t : Bool). if t (owner_in l (j / 10)) 0) (eq-eqb (j % 10) 2 d) ∙ no_same (j / 10) 0 0 _ (omega arith)

  -- in semaphore j / 4, likewise
  module _ (i j : ℕ) (e : i - 68 - 16 * length l - 10 * sum l ≡ j) (h : 72 + 16 * length l + 10 * sum l ≤ i)
      (u : i < size (length l) (sum l) (length counters)) where
    at_semaphore : get_or (image (laid_over beyond edition counters l)) i 0 ≡ if (eqb (j % 4) 0) (get_or (0 ∷ counters) (j / 4) 0) 0
    unfolding laid_over
    at_semaphore =
        image_at (laid_over beyond edition counters l) i u
        ∙ rw (le-ltb i 72 (omega arith), le-ltb i (72 + 16 * length l) (omega arith), le-ltb i (72 + 16 * length l + 10 * sum l) h, e)
        (semaphore_words beyond edition counters l (j / 4) (j % 4))

    pub laid_counter : j % 4 ≡ 0 → get_or (image (laid_over beyond edition counters l)) i 0 ≡ get_or (0 ∷ counters) (j / 4) 0
    laid_counter d = at_semaphore ∙ ap (λ (t : Bool). if t (get_or (0 ∷ counters) (j / 4) 0) 0) (eq-eqb (j % 4) 0 d)

    pub laid_semaphore : (j % 4 ≡ 0 → ⊥) → get_or (image (laid_over beyond edition counters l)) i 0 ≡ 0
    laid_semaphore n = at_semaphore ∙ ap (λ (t : Bool). if t (get_or (0 ∷ counters) (j / 4) 0) 0) (ne_eqb (j % 4) 0 n)
