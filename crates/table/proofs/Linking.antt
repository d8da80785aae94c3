-- A link set: what the table has then, and when its links are those of the queues of a machine. Assumes nothing.
use Prim.Native.Nat.{ℕ, zero, suc, ◌+◌, ◌≤◌, ◌<◌}
use native.Mathlib.Omega.{arith}
use mathlib.Core.List.{List, []}
use mathlib.Core.Path.{◌≡◌, refl, sym, ap, ◌∙◌}
use lib.ListN.{length, get_or, set}
use Rattle.machine.specs.Queue.{next, previous}
use Rattle.machine.specs.Machine.{Machine, semaphores}
use Rattle.machine.specs.Words.{Place, Header, Process, Buffer, Semaphore, index, Links, links, home, word, Table, ShowsLinks, Shows}
use Rattle.lists.proofs.Links.{cases, refl_same, no_same}
use Rattle.table.specs.Links.{Queue, Processes, Events, same_queue, queue_of, put_queue, Neighbours, links_of}
use Rattle.table.specs.Links.{neighbour, neighbours, head_of, place_of, set_link, set_links, ThereIn, MayLink, LinksAt}
use Rattle.table.proofs.Store.{HasOf, in_table, word_there, stored, reword, first_word, second_word}

-- ---- one queue, or another
pub yes_queue : {A : Type 0} (w : Queue) (a b : A) → same_queue w w a b ≡ a
yes_queue (Processes s) a b = refl_same s a b
yes_queue (Events p) a b = refl_same p a b

pub no_queue : {A : Type 0} (u w : Queue) (a b : A) → (u ≡ w → ⊥) → same_queue u w a b ≡ b
no_queue (Processes q) (Processes p) a b n = no_same q p a b (λ e. n (ap Processes e))
no_queue (Processes q) (Events p) a b n = refl
no_queue (Events q) (Processes p) a b n = refl
no_queue (Events q) (Events p) a b n = no_same q p a b (λ e. n (ap Events e))

queue_cases : {C : Type 0} (u w : Queue) → (u ≡ w → C) → ((u ≡ w → ⊥) → C) → C
queue_cases (Processes q) (Processes p) f g = cases q p (λ e. f (ap Processes e)) (λ n. g (λ e. n (cc)))
queue_cases (Processes q) (Events p) f g = g (λ e. (let z : ◌≡◌ {A = ℕ} 0 1 = cc in omega arith))
queue_cases (Events q) (Processes p) f g = g (λ e. (let z : ◌≡◌ {A = ℕ} 0 1 = cc in omega arith))
queue_cases (Events q) (Events p) f g = cases q p (λ e. f (ap Events e)) (λ n. g (λ e. n (cc)))

-- ---- where a link stands
pub head_semaphore : (s side : ℕ) → (s ≡ 0 → ⊥) → head_of s side ≡ Semaphore s (suc side)
head_semaphore zero side n = absurd (n refl)
head_semaphore (suc s) side n = refl

pub place_processes : (s side x : ℕ) → (x ≡ 0 → ⊥) → place_of (Processes s) side x ≡ Process x side
place_processes s side zero n = absurd (n refl)
place_processes s side (suc x) n = refl

pub place_events : (p side x : ℕ) → (x ≡ 0 → ⊥) → place_of (Events p) side x ≡ Buffer x side
place_events p side zero n = absurd (n refl)
place_events p side (suc x) n = refl

-- a member's links stand one behind the other
member_links : (n k : ℕ) (w : Queue) (x : ℕ) → 1 ≤ x → index n k (place_of w 0 x) + 1 ≡ index n k (place_of w 1 x)
member_links n k (Processes s) zero l = absurd (omega arith)
member_links n k (Processes s) (suc x) l = omega arith
member_links n k (Events p) zero l = absurd (omega arith)
member_links n k (Events p) (suc x) l = omega arith

-- ---- a link at its place
module _ (m : Machine) where
  link_has : (w : Queue) (side x : ℕ) → MayLink w side x m → HasOf m (place_of w side x)
  link_has (Processes zero) side zero may = omega arith
  link_has (Processes (suc s)) side zero may = (omega arith, may.linkable.0, omega arith)
  link_has (Processes s) side (suc x) may = (omega arith, (may.linkable.1 (omega arith)).0, omega arith)
  link_has (Events p) side zero may = (may.linkable.0.0, may.linkable.0.1, omega arith)
  link_has (Events p) side (suc x) may = (omega arith, (may.linkable.1 (omega arith)).0, omega arith)

  link_there : (g : Neighbours) (w : Queue) (side x : ℕ) → MayLink w side x m → word m (links_of g) (place_of w side x) ≡ g w side x
  unfolding links_of
  link_there g (Processes zero) zero zero may = refl
  link_there g (Processes zero) (suc zero) zero may = refl
  link_there g (Processes (suc s)) zero zero may = refl
  link_there g (Processes (suc s)) (suc zero) zero may = refl
  link_there g (Processes s) zero (suc x) may = ap (λ (q : ℕ). g (Processes q) 0 (suc x)) (may.linkable.1 (omega arith)).1
  link_there g (Processes s) (suc zero) (suc x) may = ap (λ (q : ℕ). g (Processes q) 1 (suc x)) (may.linkable.1 (omega arith)).1
  link_there g (Events p) zero zero may = refl
  link_there g (Events p) (suc zero) zero may = refl
  link_there g (Events p) zero (suc x) may = ap (λ (q : ℕ). g (Events q) 0 (suc x)) (may.linkable.1 (omega arith)).1
  link_there g (Events p) (suc zero) (suc x) may = ap (λ (q : ℕ). g (Events q) 1 (suc x)) (may.linkable.1 (omega arith)).1
  link_there g w (suc (suc side)) x may = absurd (omega arith)

  -- words that differ in no link are the same
  link_else : (g h : Neighbours) (l : Place) → HasOf m l → ((w : Queue) (side x : ℕ) → side ≤ 1 → place_of w side x ≡ l → g w side x ≡ h w side x)
      → word m (links_of g) l ≡ word m (links_of h) l
  unfolding links_of
  link_else g h (Header zero) o e = refl
  link_else g h (Header (suc zero)) o e = refl
  link_else g h (Header (suc (suc zero))) o e = e (Processes 0) 0 0 (omega arith) refl
  link_else g h (Header (suc (suc (suc zero)))) o e = e (Processes 0) 1 0 (omega arith) refl
  link_else g h (Header (suc (suc (suc (suc zero))))) o e = refl
  link_else g h (Header (suc (suc (suc (suc (suc zero)))))) o e = refl
  link_else g h (Header (suc (suc (suc (suc (suc (suc zero))))))) o e = refl
  link_else g h (Header (suc (suc (suc (suc (suc (suc (suc zero)))))))) o e = refl
  link_else g h (Header (suc (suc (suc (suc (suc (suc (suc (suc d))))))))) o e = refl
  link_else g h (Process zero f) o e = absurd (omega arith)
  link_else g h (Process (suc p) zero) o e = e (Processes (m.process (suc p) 15)) 0 (suc p) (omega arith) refl
  link_else g h (Process (suc p) (suc zero)) o e = e (Processes (m.process (suc p) 15)) 1 (suc p) (omega arith) refl
  link_else g h (Process (suc p) (suc (suc zero))) o e = e (Events (suc p)) 0 0 (omega arith) refl
  link_else g h (Process (suc p) (suc (suc (suc zero)))) o e = e (Events (suc p)) 1 0 (omega arith) refl
  link_else g h (Process (suc p) (suc (suc (suc (suc f))))) o e = refl
  link_else g h (Buffer zero f) o e = absurd (omega arith)
  link_else g h (Buffer (suc b) zero) o e = e (Events (home m.buffer (suc b))) 0 (suc b) (omega arith) refl
  link_else g h (Buffer (suc b) (suc zero)) o e = e (Events (home m.buffer (suc b))) 1 (suc b) (omega arith) refl
  link_else g h (Buffer (suc b) (suc (suc f))) o e = refl
  link_else g h (Semaphore zero f) o e = absurd (omega arith)
  link_else g h (Semaphore (suc s) zero) o e = refl
  link_else g h (Semaphore (suc s) (suc zero)) o e = e (Processes (suc s)) 0 0 (omega arith) refl
  link_else g h (Semaphore (suc s) (suc (suc zero))) o e = e (Processes (suc s)) 1 0 (omega arith) refl
  link_else g h (Semaphore (suc s) (suc (suc (suc f)))) o e = refl

-- ---- a link set
module _ (w : Queue) (side x y : ℕ) (g : Neighbours) where
  set_here : set_link w side x y g w side x ≡ y
  set_here = yes_queue w _ _ ∙ simp refl_same

  set_else : (u : Queue) (k z : ℕ) → (u ≡ w → k ≡ side → z ≡ x → ⊥) → g u k z ≡ set_link w side x y g u k z
  set_else u k z n =
      queue_cases u w
      (λ e. cases k side
      (λ f. sym (rw (e, f) (yes_queue w _ _ ∙ refl_same side _ _ ∙ no_same z x _ _ (n e f))))
      (λ f. sym (rw e (yes_queue w _ _ ∙ no_same k side _ _ f))))
      (λ e. sym (no_queue u w _ _ e))

module _ {t : List ℕ} {m : Machine} (g : Neighbours) (s : ShowsLinks t m (links_of g)) where
  pub link_stored : (w : Queue) (side x y : ℕ) → MayLink w side x m
      → ShowsLinks (set t (index (get_or t 0 0) (get_or t 1 0) (place_of w side x)) y) m (links_of (set_link w side x y g))
  link_stored w side x y may =
      record {
        table = stored s (place_of w side x) y (link_has m w side x may)
            (link_there m (set_link w side x y g) w side x may ∙ set_here w side x y g)
            (λ j o n. link_else m g (set_link w side x y g) j o (λ u k z l e. set_else w side x y g u k z (λ a b c. n (cc))));
      }

  -- what is read there
  pub link_read : (w : Queue) (side x : ℕ) → MayLink w side x m → get_or t (index (get_or t 0 0) (get_or t 1 0) (place_of w side x)) 0 ≡ g w side x
  link_read w side x may = word_there s (place_of w side x) (link_has m w side x may) ∙ link_there m g w side x may

  pub link_inside : (w : Queue) (side x : ℕ) → MayLink w side x m → index (get_or t 0 0) (get_or t 1 0) (place_of w side x) < length t
  link_inside w side x may = in_table s (place_of w side x) (link_has m w side x may)

-- found by the numbers that the table's first two words tell
pub links_found : {t : List ℕ} {m : Machine} {v : Links} → ShowsLinks t m v →
    (w : Queue) (x : ℕ) {i : ℕ} → i ≡ index (get_or t 0 0) (get_or t 1 0) (place_of w 0 x)
    → i ≡ index m.P m.B (place_of w 0 x)
links_found s w x e = rw (first_word s, second_word s) at e

-- both links of a member, where its next link was found
module _ {t : List ℕ} {m : Machine} (g : Neighbours) (s : ShowsLinks t m (links_of g)) (w : Queue) (x i : ℕ) (a : LinksAt w x i m) where
  may : (side : ℕ) → side ≤ 1 → MayLink w side x m
  may side l = record { low = l; linkable = a.linkable }

  next_at : i ≡ index (get_or t 0 0) (get_or t 1 0) (place_of w 0 x)
  next_at = rw (first_word s, second_word s) a.found

  previous_at : i + 1 ≡ index (get_or t 0 0) (get_or t 1 0) (place_of w 1 x)
  previous_at = ap (λ (j : ℕ). j + 1) next_at ∙ member_links _ _ w x a.is

  pub links_inside : i + 1 < length t
  links_inside = rw previous_at (link_inside g s w 1 x (may 1 (omega arith)))

  pub next_read : get_or t i 0 ≡ g w 0 x
  next_read = rw next_at (link_read g s w 0 x (may 0 (omega arith)))

  pub previous_read : get_or t (i + 1) 0 ≡ g w 1 x
  previous_read = rw previous_at (link_read g s w 1 x (may 1 (omega arith)))

  next_stored : (y : ℕ) → ShowsLinks (set t i y) m (links_of (set_link w 0 x y g))
  next_stored y = rw next_at (link_stored g s w 0 x y (may 0 (omega arith)))

  previous_stored : (y : ℕ) → ShowsLinks (set t (i + 1) y) m (links_of (set_link w 1 x y g))
  previous_stored y = rw previous_at (link_stored g s w 1 x y (may 1 (omega arith)))

pub links_stored : {t : List ℕ} {m : Machine} (g : Neighbours) → ShowsLinks t m (links_of g) → (w : Queue) (x i n p : ℕ) → LinksAt w x i m
    → ShowsLinks (set (set t i n) (i + 1) p) m (links_of (set_links w x n p g))
links_stored g s w x i n p a = previous_stored (set_link w 0 x n g) (next_stored g s w x i a n) w x i a p

-- ---- the links of a machine with another queue
queue_put : (m : Machine) (w : Queue) (q : List ℕ) → ThereIn m w → (u : Queue) → queue_of (put_queue w q m) u ≡ same_queue u w q (queue_of m u)
queue_put m (Processes zero) q h (Processes zero) = sym (refl_same 0 q m.running)
queue_put m (Processes zero) q h (Processes (suc u)) = sym (no_same (suc u) 0 q (m.waiters (suc u)) (omega arith))
queue_put m (Processes (suc s)) q h (Processes zero) = sym (no_same 0 (suc s) q m.running (omega arith))
queue_put m (Processes (suc s)) q h (Processes (suc u)) = refl
queue_put m (Processes zero) q h (Events zero) = refl
queue_put m (Processes zero) q h (Events (suc r)) = refl
queue_put m (Processes (suc s)) q h (Events zero) = refl
queue_put m (Processes (suc s)) q h (Events (suc r)) = refl
queue_put m (Events p) q h (Processes zero) = refl
queue_put m (Events p) q h (Processes (suc u)) = refl
queue_put m (Events p) q h (Events zero) = sym (no_same 0 p q [] (omega arith))
queue_put m (Events p) q h (Events (suc r)) = refl

-- the queues have no other words than their links
queue_words : (m : Machine) (w : Queue) (q : List ℕ) (v : Links) (l : Place) → word m v l ≡ word (put_queue w q m) v l
queue_words m (Processes zero) q v (Header i) = refl
queue_words m (Processes zero) q v (Process r f) = refl
queue_words m (Processes zero) q v (Buffer b g) = refl
queue_words m (Processes zero) q v (Semaphore s h) = refl
queue_words m (Processes (suc s)) q v (Header i) = refl
queue_words m (Processes (suc s)) q v (Process r f) = refl
queue_words m (Processes (suc s)) q v (Buffer b g) = refl
queue_words m (Processes (suc s)) q v (Semaphore k h) = refl
queue_words m (Events p) q v (Header i) = refl
queue_words m (Events p) q v (Process r f) = refl
queue_words m (Events p) q v (Buffer b g) = refl
queue_words m (Events p) q v (Semaphore s h) = refl

pub as_neighbours : {t : List ℕ} {m : Machine} → Shows t m → ShowsLinks t m (links_of (neighbours m))
unfolding links_of
as_neighbours s = s

-- links that are those of the queue q are the machine's with q
relinked : {t : List ℕ} (m : Machine) (w : Queue) (q : List ℕ) (g : Neighbours) → ((u : Queue) (k z : ℕ) → k ≤ 1 → g u k z ≡ neighbours (put_queue w q m) u k z)
    → ShowsLinks t m (links_of g) → Shows t (put_queue w q m)
unfolding links_of
relinked {t} m w q g e s = shown w
    (reword (λ l o. link_else m g (neighbours (put_queue w q m)) l o (λ u k z h j. e u k z h) ∙ queue_words m w q (links (put_queue w q m)) l) s.table)
  where
    shown : (w : Queue) → Table t m.P m.B (semaphores m) (word (put_queue w q m) (links (put_queue w q m))) m.beyond → Shows t (put_queue w q m)
    shown (Processes zero) s = record { table = s }
    shown (Processes (suc k)) s = record { table = s }
    shown (Events p) s = record { table = s }

-- links changed in the queue w alone, which are then those of q
pub linked : {t : List ℕ} (m : Machine) (w : Queue) (q : List ℕ) (g : Neighbours) → ThereIn m w
    → ((u : Queue) (k z : ℕ) → (u ≡ w → ⊥) → g u k z ≡ neighbours m u k z)
    → ((z : ℕ) → g w 0 z ≡ next q z) → ((z : ℕ) → g w 1 z ≡ previous q z) → ShowsLinks t m (links_of g) → Shows t (put_queue w q m)
linked m w q g there others nexts previouses = relinked m w q g same_links
  where
    here : (k z : ℕ) → k ≤ 1 → g w k z ≡ neighbour k q z
    here zero z l = nexts z
    here (suc zero) z l = previouses z
    here (suc (suc k)) z l = absurd (omega arith)

    same_links : (u : Queue) (k z : ℕ) → k ≤ 1 → g u k z ≡ neighbours (put_queue w q m) u k z
    same_links u k z l =
        rw (queue_put m w q there u)
        (queue_cases u w
        (λ e. rw (e, yes_queue w q (queue_of m w)) (here k z l))
        (λ n. rw (no_queue u w q (queue_of m u) n) (others u k z n)))
