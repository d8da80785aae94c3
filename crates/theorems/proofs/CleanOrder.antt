-- docs/MONITOR.md, 11: two processes cleaned in either order, whole machines: all is the same but the order inside the other processes' event queues and
-- the running queue. Assumes nothing.
use Prim.Native.Nat.{ℕ, zero, suc, ◌≤◌, ◌<◌}
use native.Mathlib.Omega.{arith}
use mathlib.Core.List.{List, [], ◌∷◌}
use mathlib.Core.Logic.{inl, ⊎_elim}
use mathlib.Core.Path.{◌≡◌, refl, sym, ap, subst, ◌∙◌}
use Rattle.machine.specs.Queue.{Range, In, Exact}
use Rattle.machine.specs.Machine.{Machine, Words, message}
use Rattle.machine.specs.Step.{cleaned}
use Rattle.machine.specs.Legal.{Legal, Queued}
use Rattle.machine.specs.Log.{Talk}
use Rattle.laws.specs.Talk.{talk}
use Rattle.theorems.specs.SameBut.{Reordered, SameBut}
use Rattle.lists.proofs.Links.{cases}
use Rattle.laws.proofs.Cleans.{cleaned_cleaning}
use Rattle.theorems.proofs.CleanTalk.{clean_talk, of_owner, of_receiver, settled_owner, settled_receiver}
use Rattle.laws.proofs.Cleaned.{cleaned_size}
use Rattle.theorems.proofs.Cleaning.{cleaned_still, either_order}
use Rattle.theorems.proofs.CleanSaid.{either_said}
use Rattle.theorems.proofs.CleanQuiet.{Quiet, quiet_one}
use Rattle.theorems.proofs.CleanEither.{either_process, either_device, either_counter, either_waiters}

-- ---- queues
no_members : (l : List ℕ) → ((x : ℕ) → In x l → ⊥) → l ≡ []
no_members [] h = refl
no_members (x ∷ l) h = absurd (h x (inl refl))

-- the buffer of that conversation stands in p's event queue
abbrev QueuedAt : ℕ → Talk → Type 0
QueuedAt p t = Queued t.owner t.receiver t.standing p

-- it doesn't where the clean of p changes nothing
nothing_queued : (p : ℕ) (t : Talk) → clean_talk p t ≡ t → QueuedAt p t → ⊥
nothing_queued p t e =
    ⊎_elim
    (λ h. cases t.owner p
    (λ o. (settled_owner t (sym (of_owner p t o) ∙ e)).0 h.0) (λ n. (settled_receiver t (sym (of_receiver p t n h.1) ∙ e)).0 h.0))
    (λ h. (settled_owner t (sym (of_owner p t h.1) ∙ e)).2 h.0)

emptied_of : {n : Machine} → Legal n → (p : ℕ) → Range n.P p → ((b : ℕ) → Range n.B b → clean_talk p (talk n b) ≡ talk n b) → n.events p ≡ []
emptied_of {n} L p i h = no_members (n.events p) (λ b j. (let s = (L.events p i).only b j in nothing_queued p (talk n b) (h b s.0) s.1))

-- two queues that hold exactly the same
pub exact_reordered : {C D : ℕ → Type 0} {q r : List ℕ} → Exact C q → Exact D r → ((x : ℕ) → C x → D x) → ((x : ℕ) → D x → C x) → Reordered q r
exact_reordered a b f g =
    record { once = (a.once, b.once); members = λ x. (λ i. b.every x (f x (a.only x i)), λ i. a.every x (g x (b.only x i))) }

-- ---- the machine
-- what two cleans leave alone
quiet_both : {m : Machine} → Legal m → {p q : ℕ} → Range m.P p → Range m.P q → Quiet q (cleaned p m) (cleaned q (cleaned p m)) × Quiet p m (cleaned p m)
quiet_both {m} L {p} {q} i j = let r : Range (cleaned p m).P q = rw (cleaned_size p m).1 j in (quiet_one (cleaned_cleaning L i).legal r, quiet_one L i)

-- word g of a buffer, by what is known of its conversation and its message
buffer_word : (m n : Machine) (b : ℕ) → talk m b ≡ talk n b → message m b ≡ message n b → (g : ℕ) → 2 ≤ g → g < 10 → m.buffer b g ≡ n.buffer b g
buffer_word m n b t w zero l h = absurd (omega arith)
buffer_word m n b t w (suc zero) l h = absurd (omega arith)
buffer_word m n b t w (suc (suc zero)) l h = ap (λ (x : Talk). x.owner) t
buffer_word m n b t w (suc (suc (suc zero))) l h = ap (λ (x : Talk). x.receiver) t
buffer_word m n b t w (suc (suc (suc (suc zero)))) l h = ap (λ (x : Talk). x.standing) t
buffer_word m n b t w (suc (suc (suc (suc (suc zero))))) l h = ap (λ (x : Talk). x.age) t
buffer_word m n b t w (suc (suc (suc (suc (suc (suc zero)))))) l h = ap (λ (x : Words). x.w₀) w
buffer_word m n b t w (suc (suc (suc (suc (suc (suc (suc zero))))))) l h = ap (λ (x : Words). x.w₁) w
buffer_word m n b t w (suc (suc (suc (suc (suc (suc (suc (suc zero)))))))) l h = ap (λ (x : Words). x.w₂) w
buffer_word m n b t w (suc (suc (suc (suc (suc (suc (suc (suc (suc zero))))))))) l h = ap (λ (x : Words). x.w₃) w
buffer_word m n b t w (suc (suc (suc (suc (suc (suc (suc (suc (suc (suc g)))))))))) l h = absurd (omega arith)

module _ {m : Machine} (L : Legal m) (p q : ℕ) (d : p ≡ q → ⊥) (i : Range m.P p) (j : Range m.P q) where
  -- of two cleans
  sized : (x y : ℕ) → ((cleaned y (cleaned x m)).B ≡ m.B) × ((cleaned y (cleaned x m)).P ≡ m.P)
  sized x y = ((cleaned_size y (cleaned x m)).0 ∙ (cleaned_size x m).0, (cleaned_size y (cleaned x m)).1 ∙ (cleaned_size x m).1)

  pub legal_both : Legal (cleaned q (cleaned p m))
  legal_both = let r : Range (cleaned p m).P q = rw (cleaned_size p m).1 j in (cleaned_cleaning (cleaned_cleaning L i).legal r).legal

  -- nothing is queued at the second, nor at the first
  last_emptied : (cleaned q (cleaned p m)).events q ≡ []
  last_emptied =
      emptied_of legal_both q (rw (sized p q).1 j)
      (λ b r. (let k : Range (cleaned p m).P q = rw (cleaned_size p m).1 j in
      cleaned_still (cleaned_cleaning L i).legal k b (rw (cleaned_size q (cleaned p m)).0 at r)))

  first_emptied : (cleaned q (cleaned p m)).events p ≡ []
  first_emptied =
      emptied_of legal_both p (rw (sized p q).1 i)
      (λ b r. (let k : Range m.B b = rw (sized p q).0 at r in
      let o : Range (cleaned q m).P p = rw (cleaned_size q m).1 i in
      let e = either_order m p q d b k in
      ap (clean_talk p) e ∙ cleaned_still (cleaned_cleaning L j).legal o b (rw (cleaned_size q m).0 k) ∙ sym e))

module _ {m : Machine} (L : Legal m) (p q : ℕ) (d : p ≡ q → ⊥) (i : Range m.P p) (j : Range m.P q) where
  abbrev one : Machine
  one = cleaned q (cleaned p m)

  abbrev other : Machine
  other = cleaned p (cleaned q m)

  either_buffers : one.B ≡ other.B
  either_buffers = (sized L p q d i j p q).0 ∙ sym (sized L p q d i j q p).0

  either_processes : one.P ≡ other.P
  either_processes = (sized L p q d i j p q).1 ∙ sym (sized L p q d i j q p).1

  either_talk : (b : ℕ) → Range one.B b → talk one b ≡ talk other b
  either_talk b r = either_order m p q d b (rw (sized L p q d i j p q).0 at r)

  reordered_events : (a : ℕ) → Range one.P a → Reordered (one.events a) (other.events a)
  reordered_events a r =
      let f : q ≡ p → ⊥ = λ e. d (sym e) in
      exact_reordered ((legal_both L p q d i j).events a r) ((legal_both L q p f j i).events a (rw (← either_processes) r))
      (λ b s. (rw (← either_buffers) s.0, subst (QueuedAt a) (either_talk b s.0) s.1))
      (λ b s. (let k : Range one.B b = rw either_buffers s.0 in (k, subst (QueuedAt a) (sym (either_talk b k)) s.1)))

  reordered_running : Reordered one.running other.running
  reordered_running =
      let f : q ≡ p → ⊥ = λ e. d (sym e) in
      let state : (a : ℕ) → one.process a 4 ≡ other.process a 4 = λ a. ap (λ (r : ℕ → ℕ). r 4) (either_process L p q d i j a) in
      exact_reordered (legal_both L p q d i j).running (legal_both L q p f j i).running
      (λ a s. (rw (← either_processes) s.0, sym (state a) ∙ s.1))
      (λ a s. (rw either_processes s.0, state a ∙ s.1))

  -- all but the order inside those queues
  pub either_machine : SameBut p q one other
  either_machine =
      let f : q ≡ p → ⊥ = λ e. d (sym e) in
      let a = quiet_both L i j in
      let b = quiet_both L j i in
      record {
        P = either_processes;
        B = either_buffers;
        header = a.0.header ∙ a.1.header ∙ sym (b.0.header ∙ b.1.header);
        process = λ a f. ap (λ (r : ℕ → ℕ). r f) (either_process L p q d i j a);
        buffer = λ b g r l h. buffer_word one other b (either_talk b r) (either_said m p q d b (rw (sized L p q d i j p q).0 at r)) g l h;
        device = either_device L p q d i j;
        counter = λ s r. either_counter L p q d i j s r.0;
        waiters = λ s r. either_waiters L p q d i j s r.0;
        beyond = a.0.beyond ∙ a.1.beyond ∙ sym (b.0.beyond ∙ b.1.beyond);
        emptied = (first_emptied L p q d i j, last_emptied L q p f j i, last_emptied L p q d i j, first_emptied L q p f j i);
        same_events = reordered_events;
        same_running = reordered_running;
      }
