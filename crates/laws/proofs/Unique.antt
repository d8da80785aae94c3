-- A machine determines the words that show it, and the words the machine; each machine has words. Assumes nothing.
use Prim.Native.Nat.{ℕ, zero, suc, ◌+◌, ◌-◌, ◌<◌}
use native.Mathlib.Omega.{arith}
use native.Mathlib.Decide.{dec_lt}
use mathlib.Core.List.{List, [], ◌++◌, map, append-nil}
use mathlib.Core.Path.{◌≡◌, sym, ap, subst, ◌∙◌}
use lib.ListN.{length, get_or, length-drop, length-append, length-map, get_or-append}
use lib.Seq.{ext_get_or, get_or-drop, drop_at}
use Rattle.machine.specs.Queue.{Range, from}
use Rattle.machine.specs.Machine.{Machine, semaphores}
use Rattle.machine.specs.Legal.{Legal}
use Rattle.machine.specs.Words.{index, size, place, links, word, Shows, image}
use Rattle.lists.proofs.Numbers.{length_from}
use Rattle.laws.proofs.Agree.{Agree}
use Rattle.lists.proofs.Links.{linked_unique}
use Rattle.laws.proofs.Places.{below, place_stands, place_index}
use Rattle.laws.proofs.Decoded.{shows_agree, running_linked, event_linked, waiters_linked, running_zero, event_zero, waiters_zero}

pub unique : {t u : List ℕ} {m : Machine} → Shows t m → Shows u m → t ≡ u
unique {t} {u} {m} a b =
    let e = ap length (a.table.beyond ∙ sym b.table.beyond) in
    ext_get_or 0 t u (omega (arith, a.table.long, b.table.long, simp length-drop at e)) (λ i h. go i (dec_lt i N))
  where
    N : ℕ
    N = size m.P m.B (semaphores m)

    go : (i : ℕ) → Dec (i < N) → get_or t i 0 ≡ get_or u i 0
    go i (yes h) = let k = place_stands m.P m.B (semaphores m) i h in
        rw (← k.1) (a.table.at (place m.P m.B i) k.0 ∙ sym (b.table.at (place m.P m.B i) k.0))
    go i (no h) =
        let e : N + (i - N) ≡ i = omega arith in
        rw (← e) (sym (get_or-drop N t (i - N) 0) ∙ ap (λ (r : List ℕ). get_or r (i - N) 0) (a.table.beyond ∙ sym b.table.beyond) ∙ get_or-drop N u (i - N) 0)

-- two legal machines that the same words show are one, as far as there are records
pub one_machine : {t : List ℕ} {m n : Machine} → Shows t m → Shows t n → Legal m → Legal n → Agree m n
one_machine {t} {m} {n} s r L K =
    let a = shows_agree s in
    let b = shows_agree r in
    let eP : n.P ≡ m.P = sym b.P ∙ a.P in
    let eB : n.B ≡ m.B = sym b.B ∙ a.B in
    let eS : semaphores n ≡ semaphores m = sym b.header.1 ∙ a.header.1 in
    record {
      P = eP;
      B = eB;
      header = (let h = a.header in let k = b.header in (sym k.0 ∙ h.0, sym k.1 ∙ h.1, sym k.2 ∙ h.2, sym k.3 ∙ h.3));
      running = linked_unique _ _ _ _ _ n.running m.running _ _ (running_linked r K) (running_linked s L) (running_zero K) (running_zero L);
      events = λ p h. (let k : Range n.P p = rw eP h in
          linked_unique _ _ _ _ _ (n.events p) (m.events p) _ _ (event_linked r K p k) (event_linked s L p h) (event_zero K p k) (event_zero L p h));
      process = λ p f h l u. sym (b.process p f (rw eP h) l u) ∙ a.process p f h l u;
      buffer = λ x g h l u. sym (b.buffer x g (rw eB h) l u) ∙ a.buffer x g h l u;
      device = λ d h. sym (b.device d h) ∙ a.device d h;
      counter = λ k h. sym (b.counter k (rw eS h)) ∙ a.counter k h;
      waiters = λ k h. (let z : Range (semaphores n) k = rw eS h in
          linked_unique _ _ _ _ _ (n.waiters k) (m.waiters k) _ _ (waiters_linked r K k z) (waiters_linked s L k h) (waiters_zero K k z)
          (waiters_zero L k h));
      beyond = sym b.beyond ∙ a.beyond;
    }

-- ---- the words of a machine show it
map_from : (f : ℕ → ℕ) (a n i : ℕ) → i < n → get_or (map f (from a n)) i 0 ≡ f (a + i)
unfolding from
map_from f a zero i h = absurd (omega arith)
map_from f a (suc n) zero h = let e : a ≡ a + 0 = omega arith in ap f e
map_from f a (suc n) (suc i) h = let e : suc a + i ≡ a + suc i = omega arith in rw (← e) (map_from f (suc a) n i (omega arith))

module _ (m : Machine) where
  pub image_length : length (image m) ≡ size m.P m.B (semaphores m)
  unfolding image
  image_length = simp (length-map, length_from)

  pub image_at : (i : ℕ) → i < size m.P m.B (semaphores m) → get_or (image m) i 0 ≡ word m (links m) (place m.P m.B i)
  unfolding image
  image_at i h = let e : 0 + i ≡ i = omega arith in rw e at (map_from (λ j. word m (links m) (place m.P m.B j)) 0 (size m.P m.B (semaphores m)) i h)

  pub image_shows : Shows (image m ++ m.beyond) m
  image_shows =
      record {
        table = record {
          long = omega (arith, length-append (image m) m.beyond, image_length);
          at = λ l h. (let b = below m.P m.B (semaphores m) l h in
              get_or-append (image m) m.beyond 0 (index m.P m.B l) (rw image_length b) ∙ image_at (index m.P m.B l) b
              ∙ ap (word m (links m)) (place_index m.P m.B (semaphores m) l h));
          beyond = drop_at (image m) m.beyond (size m.P m.B (semaphores m)) image_length;
        };
      }

-- where there is nothing beyond
pub image_alone : {m : Machine} → m.beyond ≡ [] → Shows (image m) m
image_alone {m} e = subst (λ (t : List ℕ). Shows t m) (ap (λ (r : List ℕ). image m ++ r) e ∙ append-nil (image m)) (image_shows m)
