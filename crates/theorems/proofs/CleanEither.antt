-- docs/MONITOR.md, 11: two processes cleaned in either order leave the same words of every process, of the devices and of the semaphores. Assumes nothing.
use Prim.Native.Nat.{ℕ, suc, ◌≤◌}
use native.Mathlib.Omega.{arith}
use mathlib.Core.Bool.{Bool, true, false, ◌&&◌, ◌||◌}
use mathlib.Core.List.{List, [], ◌∷◌}
use mathlib.Core.Logic.{⊎_elim}
use mathlib.Core.Path.{◌≡◌, refl, sym, ap, ap₂, ◌∙◌}
use lib.Dec.{eqb}
use borrow.Author.Tests.{ne_eqb}
use Rattle.machine.specs.Queue.{if, same, without, Range, from}
use Rattle.machine.specs.Machine.{Machine, semaphore, up, buffers}
use Rattle.machine.specs.Step.{cleaned}
use Rattle.machine.specs.Legal.{Legal}
use Rattle.machine.specs.Log.{Talk, freed}
use Rattle.laws.specs.Talk.{talk}
use Rattle.lists.proofs.Links.{cases}
use Rattle.lists.proofs.Tests.{either}
use Rattle.lists.proofs.Numbers.{in_from}
use Rattle.laws.proofs.Cleans.{cleaned_cleaning}
use Rattle.theorems.proofs.CleanTalk.{clean_talk, as_owner, as_receiver, owner_lasts, receiver_lasts, of_owner, of_receiver, of_other}
use Rattle.laws.proofs.Cleaned.{cleaned_size}
use Rattle.theorems.proofs.Cleaning.{cleaned_talks}
use Rattle.theorems.proofs.CleanWakes.{woken_words, stopped_words, words_wait, asks, asks_no}
use Rattle.theorems.proofs.CleanWakes.{roused, some_same, some_none, and_false, rouses, woken_once}
use Rattle.theorems.proofs.CleanWakes.{third_one, own_one, stopped_woken}
use Rattle.theorems.proofs.CleanQuiet.{quiet_one}

-- ---- another process: what it asked of q is what it asked before p was cleaned
module _ (q a : ℕ) (t : Talk) where
  abbrev No : Bool → Type 0
  No x = x ≡ false

  asks_receiver : (t.receiver ≡ q → ⊥) → asks q a t ≡ false
  asks_receiver n =
      let s : ℕ → Bool = eqb t.standing in
      either No (eqb t.owner q) (λ _. either No (s 1) (λ _. refl) (λ _. either No (s 3) (λ _. refl) (λ _. either No (s 2) (λ _. refl) (λ _. refl))))
      (λ _. rw (ne_eqb t.receiver q n) refl)

  asks_freed : asks q a (freed t) ≡ false
  asks_freed = either No (eqb t.owner q) (λ _. refl) (λ _. either No (eqb 0 q) (λ _. refl) (λ _. refl))

asks_past : (p q a : ℕ) → (a ≡ p → ⊥) → (p ≡ q → ⊥) → (t : Talk) → asks q a (clean_talk p t) ≡ asks q a t
asks_past p q a n d t =
    cases t.owner p
    (λ e. (let o : t.owner ≡ a → ⊥ = λ z. n (sym z ∙ e) in
    ap (asks q a) (of_owner p t e) ∙ asks_no q a (as_owner t) (λ _ z. o (sym (owner_lasts t).own ∙ z)) ∙ sym (asks_no q a t (λ _. o))))
    (λ k. cases t.receiver p
    (λ e. (let r : t.receiver ≡ q → ⊥ = λ z. d (sym e ∙ z) in
    ap (asks q a) (of_receiver p t k e)
    ∙ ⊎_elim (λ z. asks_receiver q a (as_receiver t) (λ w. r (sym z ∙ w))) (λ z. ap (asks q a) z ∙ asks_freed q a t) (receiver_lasts t).talks
    ∙ sym (asks_receiver q a t r)))
    (λ r. ap (asks q a) (of_other p t k r)))

-- woken-words by the one or by the other
or_swap : (x y : Bool) → (x || y) ≡ (y || x)
or_swap true true = refl
or_swap true false = refl
or_swap false true = refl
or_swap false false = refl

roused_twice : (x : Bool) (f : (ℕ → ℕ) → Bool) (r : ℕ → ℕ) → f (woken_words r) ≡ false → roused (f (roused x r)) (roused x r) ≡ roused (x || f r) r
roused_twice true f r e = ap (λ (t : Bool). roused t (woken_words r)) e
roused_twice false f r e = refl

module _ (m : Machine) (a : ℕ) where
  abbrev by : ℕ → (ℕ → ℕ) → Bool
  by p r = rouses p a (talk m) r (buffers m)

  third_both : (p q : ℕ) → (a ≡ p → ⊥) → (a ≡ q → ⊥) → (p ≡ q → ⊥)
      → (cleaned q (cleaned p m)).process a ≡ roused (by p (m.process a) || by q (m.process a)) (m.process a)
  third_both p q n k d =
      let c = cleaned p m in
      third_one q a c k
      ∙ ap (λ (x : ℕ). roused (rouses q a (talk c) (c.process a) (from 1 x)) (c.process a)) (cleaned_size p m).0
      ∙ ap (λ (t : Bool). roused t (c.process a))
      (some_same _ _ (buffers m) (λ b i. (let j = in_from b 1 m.B i in
      ap (λ (t : Bool). t && words_wait (c.process a) b) (ap (asks q a) (cleaned_talks p m b (omega arith)) ∙ asks_past p q a n d (talk m b)))))
      ∙ ap (λ (r : ℕ → ℕ). roused (by q r) r) (third_one p a m n)
      ∙ roused_twice (by p (m.process a)) (by q) (m.process a) (woken_once q a (talk m) (m.process a) (buffers m))

  either_third : (p q : ℕ) → (a ≡ p → ⊥) → (a ≡ q → ⊥) → (p ≡ q → ⊥) → (cleaned q (cleaned p m)).process a ≡ (cleaned p (cleaned q m)).process a
  either_third p q n k d =
      let r = m.process a in
      third_both p q n k d ∙ ap (λ (t : Bool). roused t r) (or_swap (by p r) (by q r)) ∙ sym (third_both q p k n (λ e. d (sym e)))

-- ---- the two
module _ {m : Machine} (L : Legal m) where
  stopped_stays : (p q : ℕ) → (p ≡ q → ⊥) → Range m.P p → (cleaned q (cleaned p m)).process p ≡ stopped_words (m.process p)
  unfolding same
  stopped_stays p q d i =
      let c = cleaned p m in
      third_one q p c d
      ∙ ap (λ (r : ℕ → ℕ). roused (rouses q p (talk c) r (buffers c)) r) (own_one L i)
      ∙ ap (λ (t : Bool). roused t (stopped_words (m.process p))) (some_none _ (buffers c) (λ b. and_false (asks q p (talk c b)) refl))

  stopped_after : (p q : ℕ) → (p ≡ q → ⊥) → Range m.P p → Range m.P q → (cleaned p (cleaned q m)).process p ≡ stopped_words (m.process p)
  stopped_after p q d i j =
      own_one (cleaned_cleaning L j).legal (rw (cleaned_size q m).1 i) ∙ ap stopped_words (third_one q p m d)
      ∙ either (λ (r : ℕ → ℕ). stopped_words r ≡ stopped_words (m.process p)) (rouses q p (talk m) (m.process p) (buffers m))
      (λ _. stopped_woken (m.process p)) (λ _. refl)

  either_own : (p q : ℕ) → (p ≡ q → ⊥) → Range m.P p → Range m.P q → (cleaned q (cleaned p m)).process p ≡ (cleaned p (cleaned q m)).process p
  either_own p q d i j = stopped_stays p q d i ∙ sym (stopped_after p q d i j)

-- what stands at s, changed where s is h
abbrev off : {A : Type 0} → ℕ → ℕ → (A → A) → A → A
off s h f c = same s h (f c) c

-- two changes that commute
crossed : {A : Type 0} (f g : A → A) → ((x : A) → f (g x) ≡ g (f x)) → (s h k : ℕ) (c : A) → off s k f (off s h g c) ≡ off s h g (off s k f c)
unfolding same
crossed f g e s h k c = go (eqb s h) (eqb s k)
  where
    go : (x y : Bool) → if y (f (if x (g c) c)) (if x (g c) c) ≡ if x (g (if y (f c) c)) (if y (f c) c)
    go true true = e c
    go true false = refl
    go false true = refl
    go false false = refl

-- ---- devices and semaphores
without_swap : (x y : ℕ) (l : List ℕ) → without x (without y l) ≡ without y (without x l)
unfolding without
without_swap x y [] = refl
without_swap x y (a ∷ l) = go (eqb x a) (eqb y a) refl refl (without_swap x y l)
  where
    go : (s t : Bool) → eqb x a ≡ s → eqb y a ≡ t → without x (without y l) ≡ without y (without x l)
        → without x (if t (without y l) (a ∷ without y l)) ≡ without y (if s (without x l) (a ∷ without x l))
    go true true e f h = h
    go true false e f h = rw e h
    go false true e f h = rw f h
    go false false e f h = rw (e, f) (ap (λ (r : List ℕ). a ∷ r) h)

module _ {m : Machine} (L : Legal m) {p q : ℕ} (d : p ≡ q → ⊥) (i : Range m.P p) (j : Range m.P q) where
  -- p's device and semaphore are those that it waited for before q was cleaned
  same_semaphore : semaphore (cleaned q m) p ≡ semaphore m p
  unfolding same
  same_semaphore =
      ap (λ (r : ℕ → ℕ). r 15) (third_one q p m d)
      ∙ either (λ (r : ℕ → ℕ). r 15 ≡ m.process p 15) (rouses q p (talk m) (m.process p) (buffers m)) (λ _. refl) (λ _. refl)

  same_device : (cleaned q m).process p 8 ≡ m.process p 8
  unfolding same
  same_device =
      let r = m.process p in
      ap (λ (r : ℕ → ℕ). r 8) (third_one q p m d)
      ∙ cases (r 4) 4
      (λ e. ap (λ (t : Bool). roused t r 8) (some_none _ (buffers m) (λ b. and_false (asks q p (talk m b)) (rw e refl))))
      (λ n. either (λ (x : ℕ → ℕ). x 8 ≡ r 8) (rouses q p (talk m) r (buffers m)) (λ _. sym ((L.process p i).no_device n)) (λ _. refl))

module _ {m : Machine} (L : Legal m) where
  -- what q's clean does after p's
  module _ (p q : ℕ) (d : p ≡ q → ⊥) (i : Range m.P p) (j : Range m.P q) where
    device_both : (x : ℕ) → (cleaned q (cleaned p m)).device x ≡ same (suc x) (m.process q 8) 0 (same (suc x) (m.process p 8) 0 (m.device x))
    device_both x =
        let c = (cleaned_cleaning L i).legal in
        (quiet_one c (rw (cleaned_size p m).1 j)).device x
        ∙ ap₂ (λ (h w : ℕ). same (suc x) h 0 w) (same_device L (λ e. d (sym e)) j i) ((quiet_one L i).device x)

    counter_both : (s : ℕ) → 1 ≤ s → (cleaned q (cleaned p m)).counter s ≡ off s (semaphore m q) up (off s (semaphore m p) up (m.counter s))
    counter_both s l =
        let c = (cleaned_cleaning L i).legal in
        (quiet_one c (rw (cleaned_size p m).1 j)).counter s l
        ∙ ap₂ (λ (h w : ℕ). off s h up w) (same_semaphore L (λ e. d (sym e)) j i) ((quiet_one L i).counter s l)

    waiters_both : (s : ℕ) → 1 ≤ s → (cleaned q (cleaned p m)).waiters s ≡ off s (semaphore m q) (without q) (off s (semaphore m p) (without p) (m.waiters s))
    waiters_both s l =
        let c = (cleaned_cleaning L i).legal in
        (quiet_one c (rw (cleaned_size p m).1 j)).waiters s l
        ∙ ap₂ (λ (h : ℕ) (w : List ℕ). off s h (without q) w) (same_semaphore L (λ e. d (sym e)) j i) ((quiet_one L i).waiters s l)

module _ {m : Machine} (L : Legal m) (p q : ℕ) (d : p ≡ q → ⊥) (i : Range m.P p) (j : Range m.P q) where
  abbrev apart : q ≡ p → ⊥
  apart = λ e. d (sym e)

  pub either_process : (a : ℕ) → (cleaned q (cleaned p m)).process a ≡ (cleaned p (cleaned q m)).process a
  either_process a =
      cases a p (λ e. rw e (either_own L p q d i j)) (λ n. cases a q (λ e. rw e (sym (either_own L q p apart j i))) (λ k. either_third m a p q n k d))

  pub either_device : (x : ℕ) → (cleaned q (cleaned p m)).device x ≡ (cleaned p (cleaned q m)).device x
  either_device x =
      device_both L p q d i j x
      ∙ crossed (λ _. 0) (λ _. 0) (λ _. refl) (suc x) (m.process p 8) (m.process q 8) (m.device x) ∙ sym (device_both L q p apart j i x)

  pub either_counter : (s : ℕ) → 1 ≤ s → (cleaned q (cleaned p m)).counter s ≡ (cleaned p (cleaned q m)).counter s
  either_counter s l =
      counter_both L p q d i j s l ∙ crossed up up (λ _. refl) s (semaphore m p) (semaphore m q) (m.counter s) ∙ sym (counter_both L q p apart j i s l)

  pub either_waiters : (s : ℕ) → 1 ≤ s → (cleaned q (cleaned p m)).waiters s ≡ (cleaned p (cleaned q m)).waiters s
  either_waiters s l =
      waiters_both L p q d i j s l ∙ crossed (without q) (without p) (without_swap q p) s (semaphore m p) (semaphore m q) (m.waiters s)
      ∙ sym (waiters_both L q p apart j i s l)
