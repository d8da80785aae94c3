-- Moves take two machines that agree as far as there are records to two that do: of each move the lemma with its name and -a. Assumes nothing.
use Prim.Native.Nat.{ℕ, suc, ◌+◌, ◌-◌, ◌≤◌, ◌<◌}
use native.Mathlib.Omega.{arith}
use mathlib.Core.Bool.{Bool, true, false, ◌&&◌, ◌||◌}
use mathlib.Core.List.{List, [], ◌∷◌, ◌++◌}
use mathlib.Core.Logic.{◌⊎◌, inl, inr, ⊎_elim}
use mathlib.Core.Path.{◌≡◌, refl, sym, ap, ap₂, subst, ◌∙◌}
use lib.Dec.{eqb, leb}
use borrow.Author.Tests.{eqb-false}
use Rattle.machine.specs.Queue.{if, same, head, Range, In, from, keep, fold, without, enter}
use Rattle.machine.specs.Machine.{Machine, state, awaited, semaphore, semaphores, priority, owner, receiver, standing, up, Words, zeros, delay, current}
use Rattle.machine.specs.Machine.{processes, buffers, where_field, with_process, with_buffer, with_semaphore, put_running, put_process, put_device, put_events}
use Rattle.machine.specs.Machine.{put_buffer, put_semaphore}
use Rattle.machine.specs.Moves.{write, off_device, end_wait, bar, enter_running, wake, leave_running, requeue, pause, off_semaphore, stop, free, unlink, append}
use Rattle.machine.specs.Moves.{answered, waiting, answer_with, withdrawn, clean_buffer}
use Rattle.machine.specs.Step.{halted, cleaned, fall, fallen, expiring, woken, older, grow, ticked}
use Rattle.machine.specs.Legal.{Legal}
use Rattle.lists.proofs.Links.{cases, no_same}
use Rattle.lists.proofs.Tests.{either}
use Rattle.lists.proofs.Numbers.{first_in, in_from, in_keep, keep_same}
use Rattle.lists.proofs.Lists.{in_without}
use Rattle.laws.proofs.Cleans.{Cleaning, clean_one, halted_cleaning}
use Rattle.laws.proofs.Agree.{Agree}

-- both ways out of a test
pub choose : {t t' : Bool} {m₁ m₂ n₁ n₂ : Machine} → t' ≡ t → (t ≡ true → Agree m₁ n₁) → (t ≡ false → Agree m₂ n₂) → Agree (if t m₁ m₂) (if t' n₁ n₂)
choose {t} {t'} {m₁} {m₂} {n₁} {n₂} e f g = subst (λ (x : Bool). Agree (if t m₁ m₂) (if x n₁ n₂)) (sym e) (go t f g)
  where
    go : (t : Bool) → (t ≡ true → Agree m₁ n₁) → (t ≡ false → Agree m₂ n₂) → Agree (if t m₁ m₂) (if t n₁ n₂)
    go true f g = f refl
    go false f g = g refl

-- one place of a function
at_same : {X : Type 0} (k p : ℕ) {v v' x x' : X} → (k ≡ p → v' ≡ v) → x' ≡ x → same k p v' x' ≡ same k p v x
at_same k p {v} {v'} {x} {x'} h y = cases k p (λ e. ap₂ (same k p) (h e) y) (λ ne. no_same k p v' x' ne ∙ y ∙ sym (no_same k p v x ne))

enter_same : (f g : ℕ → ℕ) (c p : ℕ) (l : List ℕ) → ((x : ℕ) → In x l → g x ≡ f x) → enter g c p l ≡ enter f c p l
unfolding enter
enter_same f g c p [] h = refl
enter_same f g c p (x ∷ q) h =
    ap₂ (λ (t : Bool) (r : List ℕ). if t (x ∷ r) (p ∷ x ∷ q)) (ap (leb c) (h x (inl refl))) (enter_same f g c p q (λ y i. h y (inr i)))

module _ {m n : Machine} (a : Agree m n) where
  -- ---- the three general updates
  with_process_a : {q q' : List ℕ} {g g' : ℕ → ℕ → ℕ} {d d' : ℕ → ℕ} → q' ≡ q → ((p f : ℕ) → Range m.P p → 4 ≤ f → f < 16 → g' p f ≡ g p f)
      → ((x : ℕ) → x < 64 → d' x ≡ d x) → Agree (with_process q g d m) (with_process q' g' d' n)
  with_process_a e g d =
      record {
        P = a.P;
        B = a.B;
        header = a.header;
        running = e;
        events = a.events;
        process = g;
        buffer = a.buffer;
        device = d;
        counter = a.counter;
        waiters = a.waiters;
        beyond = a.beyond;
      }

  mark : {e e' : ℕ → List ℕ} {h h' : ℕ → ℕ → ℕ} → ((p : ℕ) → Range m.P p → e' p ≡ e p) → ((b g : ℕ) → Range m.B b → 2 ≤ g → g < 10 → h' b g ≡ h b g)
      → Agree (with_buffer e h m) (with_buffer e' h' n)
  mark e h =
      record {
        P = a.P;
        B = a.B;
        header = a.header;
        running = a.running;
        events = e;
        process = a.process;
        buffer = h;
        device = a.device;
        counter = a.counter;
        waiters = a.waiters;
        beyond = a.beyond;
      }

  tell : {c c' : ℕ → ℕ} {w w' : ℕ → List ℕ} → ((s : ℕ) → Range (semaphores m) s → c' s ≡ c s) → ((s : ℕ) → Range (semaphores m) s → w' s ≡ w s)
      → Agree (with_semaphore c w m) (with_semaphore c' w' n)
  tell c w =
      record {
        P = a.P;
        B = a.B;
        header = a.header;
        running = a.running;
        events = a.events;
        process = a.process;
        buffer = a.buffer;
        device = a.device;
        counter = c;
        waiters = w;
        beyond = a.beyond;
      }

  -- ---- setters
  pub put_process_a : (p f : ℕ) {v v' : ℕ} → v' ≡ v → Agree (put_process p f v m) (put_process p f v' n)
  put_process_a p f e = with_process_a a.running (λ k j r l h. ap₂ (λ (x y : ℕ). where_field (eqb j f) k p x y) e (a.process k j r l h)) a.device

  pub put_running_a : {q q' : List ℕ} → q' ≡ q → Agree (put_running q m) (put_running q' n)
  put_running_a e = with_process_a e a.process a.device

  pub put_device_a : (d v : ℕ) → Agree (put_device d v m) (put_device d v n)
  put_device_a d v = with_process_a a.running a.process (λ x h. ap (same x d v) (a.device x h))

  pub put_events_a : (p : ℕ) {q q' : List ℕ} → (Range m.P p → q' ≡ q) → Agree (put_events p q m) (put_events p q' n)
  put_events_a p e = mark (λ k r. at_same k p (λ z. e (subst (Range m.P) z r)) (a.events k r)) a.buffer

  pub put_buffer_a : (b f : ℕ) {v v' : ℕ} → v' ≡ v → Agree (put_buffer b f v m) (put_buffer b f v' n)
  put_buffer_a b f e = mark a.events (λ k j r l h. ap₂ (λ (x y : ℕ). where_field (eqb j f) k b x y) e (a.buffer k j r l h))

  pub put_semaphore_a : (s : ℕ) {c c' : ℕ} {w w' : List ℕ} → (Range (semaphores m) s → (c' ≡ c) × (w' ≡ w))
      → Agree (put_semaphore s c w m) (put_semaphore s c' w' n)
  put_semaphore_a s e =
      tell (λ k r. at_same k s (λ z. (e (subst (Range (semaphores m)) z r)).0) (a.counter k r))
      (λ k r. at_same k s (λ z. (e (subst (Range (semaphores m)) z r)).1) (a.waiters k r))

  -- ---- words of processes and buffers that there are
  pub pw : (p f : ℕ) → Range m.P p → (4 ≤ f) × (f < 16) → n.process p f ≡ m.process p f
  pw p f r h = a.process p f r h.0 h.1

  pub bw : (b g : ℕ) → Range m.B b → (2 ≤ g) × (g < 10) → n.buffer b g ≡ m.buffer b g
  bw b g r h = a.buffer b g r h.0 h.1

  off_device_a : (p : ℕ) → Range m.P p → Agree (off_device p m) (off_device p n)
  off_device_a p r = with_process_a a.running a.process (λ d h. ap₂ (λ (x y : ℕ). same (suc d) x 0 y) (pw p 8 r (omega arith)) (a.device d h))

-- all that run are processes
abbrev pub Ran : Machine → Type 0
Ran m = (x : ℕ) → In x m.running → Range m.P x

-- ---- moves
module _ {m n : Machine} (a : Agree m n) where
  pub end_wait_a : (p : ℕ) → Range m.P p → Agree (end_wait p m) (end_wait p n)
  end_wait_a p r = put_process_a (put_process_a (put_process_a (off_device_a a p r) p 6 refl) p 7 refl) p 8 refl

  pub enter_running_a : (reason p : ℕ) → Range m.P p → Ran m → Agree (enter_running reason p m) (enter_running reason p n)
  enter_running_a reason p r i =
      let c : bar reason p n ≡ bar reason p m = ap (λ (x : ℕ). if (eqb reason 3) (x + 1) x) (pw a p 9 r (omega arith)) in
      put_running_a a (ap (enter (priority n) (bar reason p n) p) a.running ∙ ap (λ (x : ℕ). enter (priority n) x p m.running) c
      ∙ enter_same (priority m) (priority n) (bar reason p m) p m.running (λ x j. pw a x 9 (i x j) (omega arith)))

  pub leave_running_a : (p : ℕ) → Agree (leave_running p m) (leave_running p n)
  leave_running_a p = put_running_a a (ap (without p) a.running)

  pub write_a : (b : ℕ) (ws : Words) → Agree (write b ws m) (write b ws n)
  write_a b ws = put_buffer_a (put_buffer_a (put_buffer_a (put_buffer_a a b 6 refl) b 7 refl) b 8 refl) b 9 refl

  pub unlink_a : (p b : ℕ) → Agree (unlink p b m) (unlink p b n)
  unlink_a p b = put_events_a a p (λ r. ap (without b) (a.events p r))

  pub append_a : (p b : ℕ) → Agree (append p b m) (append p b n)
  append_a p b = put_events_a a p (λ r. ap (λ (q : List ℕ). q ++ (b ∷ [])) (a.events p r))

  pub off_semaphore_a : (p : ℕ) → Range m.P p → Agree (off_semaphore p m) (off_semaphore p n)
  off_semaphore_a p r =
      let s = semaphore m p in
      let e : semaphore n p ≡ s = pw a p 15 r (omega arith) in
      let w = put_semaphore_a a s (λ k. (ap up (a.counter s k), ap (without p) (a.waiters s k))) in
      let up_to : ℕ → Machine = λ x. put_semaphore x (up (n.counter x)) (without p (n.waiters x)) n in
      put_process_a (subst (λ (x : ℕ). Agree (put_semaphore s (up (m.counter s)) (without p (m.waiters s)) m) (up_to x)) (sym e) w) p 15 refl

module _ {m n : Machine} (a : Agree m n) where
  pub wake_a : (reason p : ℕ) → Range m.P p → Ran m → Agree (wake reason p m) (wake reason p n)
  wake_a reason p r i = enter_running_a (put_process_a (put_process_a (end_wait_a a p r) p 4 refl) p 5 refl) reason p r i

  pub pause_a : (st p : ℕ) → Agree (pause st p m) (pause st p n)
  pause_a st p = put_process_a (put_process_a (leave_running_a a p) p 4 refl) p 5 refl

  pub free_a : (b : ℕ) → Agree (free b m) (free b n)
  free_a b = write_a (put_buffer_a (put_buffer_a (put_buffer_a a b 4 refl) b 3 refl) b 5 refl) b zeros

  pub answered_a : (b : ℕ) (ws : Words) → Range m.B b → Agree (answered b ws m) (answered b ws n)
  answered_a b ws r =
      let w = append_a (put_buffer_a (write_a a b ws) b 4 refl) (owner m b) b in
      subst (λ (o : ℕ). Agree (answered b ws m) (append o b (put_buffer b 4 3 (write b ws n)))) (sym (bw a b 2 r (omega arith))) w

module _ {m n : Machine} (a : Agree m n) where
  pub stop_a : (p : ℕ) → Range m.P p → Agree (stop p m) (stop p n)
  stop_a p r = pause_a (end_wait_a (off_semaphore_a a p r) p r) 0 p

  module _ (b : ℕ) (r : Range m.B b) (o : Range m.P (owner m b)) (i : Ran m) where
    owner_a : owner n b ≡ owner m b
    owner_a = bw a b 2 r (omega arith)

    waiting_a : waiting b n ≡ waiting b m
    waiting_a =
        ap₂ (λ (s w : ℕ). eqb s 2 || (eqb s 3 && eqb w b)) (ap (state n) owner_a ∙ pw a (owner m b) 4 o (omega arith))
        (ap (awaited n) owner_a ∙ pw a (owner m b) 7 o (omega arith))

    pub answer_with_a : (ws : Words) → Agree (answer_with b ws m) (answer_with b ws n)
    answer_with_a ws =
        let w = answered_a a b ws r in
        choose waiting_a
        (λ _. subst (λ (x : ℕ). Agree (wake 1 (owner m b) (answered b ws m)) (wake 1 x (answered b ws n))) (sym owner_a) (wake_a w 1 (owner m b) o i))
        (λ _. w)

-- ---- cleaning
module _ {m n : Machine} (a : Agree m n) (p b : ℕ) (r : Range m.B b) (o : Range m.P (owner m b)) (i : Ran m) where
  test : (k : ℕ) → eqb (standing n b) k ≡ eqb (standing m b) k
  test k = ap (λ (s : ℕ). eqb s k) (bw a b 4 r (omega arith))

  clean_buffer_a : Agree (clean_buffer p b m) (clean_buffer p b n)
  unfolding clean_buffer
  clean_buffer_a =
      let away = bw a b 3 r (omega arith) in
      let off = subst (λ (x : ℕ). Agree (unlink (receiver m b) b m) (unlink x b n)) (sym away) (unlink_a a (receiver m b) b) in
      choose (ap (λ (x : ℕ). eqb x p) (bw a b 2 r (omega arith)))
      (λ _. choose (test 1) (λ _. free_a off b)
      (λ _. choose (test 3) (λ _. free_a (unlink_a a p b) b) (λ _. choose (test 2) (λ _. put_buffer_a a b 4 refl) (λ _. a))))
      (λ _. choose (ap (λ (x : ℕ). eqb x p) away)
      (λ _. choose (test 1) (λ _. answer_with_a (unlink_a a p b) b r o i withdrawn)
      (λ _. choose (test 2) (λ _. answer_with_a a b r o i withdrawn) (λ _. choose (test 4) (λ _. free_a a b) (λ _. a))))
      (λ _. a))

cleans_a : (p B : ℕ) (l : List ℕ) → ((b : ℕ) → In b l → Range B b) → {m n : Machine} → Cleaning p B m → Agree m n
    → Agree (fold (clean_buffer p) l m) (fold (clean_buffer p) l n)
unfolding fold
cleans_a p B [] h c a = a
cleans_a p B (b ∷ l) h {m} c a =
    let r : Range m.B b = rw c.size (h b (inl refl)) in
    let L = c.legal in
    cleans_a p B l (λ x i. h x (inr i)) (clean_one c r) (clean_buffer_a a p b r (L.fixed.owned b r) (λ x j. (L.running.only x j).0))

pub cleaned_a : {m n : Machine} → Legal m → Agree m n → (p : ℕ) → Range m.P p → Agree (cleaned p m) (cleaned p n)
cleaned_a {m} {n} L a p r =
    let h : Agree (halted p m) (halted p n) = choose (ap (λ (s : ℕ). eqb s 0) (pw a p 4 r (omega arith))) (λ _. put_process_a a p 5 refl) (λ _. stop_a a p r) in
    let all = cleans_a p m.B (buffers m) (λ b i. (let k = in_from b 1 m.B i in (k.0, omega arith))) (halted_cleaning L r) h in
    subst (λ (k : ℕ). Agree (cleaned p m) (fold (clean_buffer p) (from 1 k) (halted p n))) (sym a.B) all

-- ---- a tick
-- a sweep over l, of machines of which C holds on the way
sweep : (C : Machine → Type 0) (f : ℕ → Machine → Machine) (l : List ℕ)
    → ((x : ℕ) → In x l → (m n : Machine) → C m → Agree m n → C (f x m) × Agree (f x m) (f x n))
    → (m n : Machine) → C m → Agree m n → C (fold f l m) × Agree (fold f l m) (fold f l n)
unfolding fold
sweep C f [] h m n c a = (c, a)
sweep C f (x ∷ l) h m n c a = let k = h x (inl refl) m n c a in sweep C f l (λ y i. h y (inr i)) (f x m) (f x n) k.0 k.1

enter_in : (f : ℕ → ℕ) (c p x : ℕ) (l : List ℕ) → In x (enter f c p l) → (x ≡ p) ⊎ In x l
unfolding enter
enter_in f c p x [] = λ i. ⊎_elim inl (λ z. absurd z) i
enter_in f c p x (y ∷ q) =
    either (λ (l : List ℕ). (In x l → (x ≡ p) ⊎ In x (y ∷ q))) (leb c (f y))
    (λ _ i. ⊎_elim (λ e. inr (inl e)) (λ j. ⊎_elim (λ e. inl e) (λ k. inr (inr k)) (enter_in f c p x q j)) i)
    (λ _ i. i)

module _ {m n : Machine} (L : Legal m) (a : Agree m n) where
  -- as many processes, and all that run are some of them
  abbrev Sized : Machine → Type 0
  Sized w = (w.P ≡ m.P) × Ran w

  ran : Ran m
  ran x i = (L.running.only x i).0

  pub current_a : current n ≡ current m
  current_a = ap head a.running

  processes_in : {x : ℕ} → In x (processes m) → Range m.P x
  processes_in {x} i = let k = in_from x 1 m.P i in (k.0, omega arith)

  fallen_a : Sized (fallen m) × Agree (fallen m) (fallen n)
  fallen_a =
      let all = sweep Sized fall (processes m)
      (λ x i w v c b. (c, put_process_a b x 6 (ap (λ (y : ℕ). y - 1) (pw b x 6 (rw c.0 (processes_in i)) (omega arith))))) m n (refl, ran) a in
      (all.0, subst (λ (k : ℕ). Agree (fallen m) (fold fall (from 1 k) n)) (sym a.P) all.1)

  pub expiring_a : expiring n ≡ expiring m
  expiring_a =
      ap (λ (k : ℕ). keep (λ p. eqb (delay n p) 1) (from 1 k)) a.P
      ∙ keep_same _ _ 1 m.P (λ k l u. ap (λ (x : ℕ). eqb x 1) (pw a k 6 (l, omega arith) (omega arith)))

  woken_a : Sized (woken m) × Agree (woken m) (woken n)
  woken_a =
      let f = fallen_a in
      let all = sweep Sized (wake 2) (expiring m) (λ x i w v c b. woke x (processes_in (in_keep x _ _ i).0) w v c b) (fallen m) (fallen n) f.0 f.1 in
      (all.0, subst (λ (l : List ℕ). Agree (woken m) (fold (wake 2) l (fallen n))) (sym expiring_a) all.1)
    where
      woke : (x : ℕ) → Range m.P x → (w v : Machine) → Sized w → Agree w v → Sized (wake 2 x w) × Agree (wake 2 x w) (wake 2 x v)
      woke x r w v c b =
          let k : Range w.P x = rw c.0 r in
          ((c.0, λ y j. ⊎_elim (λ e. rw e k) (c.1 y) (enter_in _ _ x y w.running j)), wake_a b 2 x k c.1)

  requeued_a : Agree (requeue (current m) (woken m)) (requeue (current n) (woken n))
  requeued_a =
      let w = woken_a in
      let p = current m in
      let same-current = subst (λ (x : ℕ). Agree (requeue p (woken m)) (requeue x (woken n))) (sym current_a) in
      same-current (choose refl (λ _. w.1)
      (λ t. (let r : Range (woken m).P p = rw w.0.0 (ran p (first_in m.running (eqb-false p 0 t))) in
      enter_running_a (leave_running_a w.1 p) 0 p r (λ x i. w.0.1 x (in_without p x (woken m).running i).1))))

  pub ticked_a : Agree (ticked m) (ticked n)
  ticked_a =
      let z = requeue (current m) (woken m) in
      let y = requeue (current n) (woken n) in
      let all = sweep (λ w. w.B ≡ z.B) grow (buffers z)
      (λ x i w v c b. (let k = in_from x 1 z.B i in let r : Range w.B x = rw c (k.0, omega arith) in
      (c, put_buffer_a b x 5 (ap₂ older (bw b x 4 r (omega arith)) (bw b x 5 r (omega arith)))))) z y refl requeued_a in
      subst (λ (k : ℕ). Agree (ticked m) (fold grow (from 1 k) y)) (sym requeued_a.B) all.1
