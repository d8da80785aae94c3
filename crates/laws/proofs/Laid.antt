-- A table laid out is legal, and refusal 11 tells what may be laid out. Assumes nothing.
use Prim.Native.Nat.{ℕ, zero, suc, ◌+◌, ◌-◌, ◌≤◌, ◌<◌}
use native.Mathlib.Omega.{arith}
use mathlib.Core.Bool.{Bool, true}
use mathlib.Core.List.{List, [], ◌∷◌}
use mathlib.Core.Logic.{⊎_elim}
use mathlib.Core.Path.{◌≡◌, refl, sym, ap, subst, ◌∙◌}
use lib.ListN.{length, get_or}
use borrow.Author.Tests.{lt-ltb, le-ltb, not-false}
use Rattle.machine.specs.Queue.{Range, if, same}
use Rattle.machine.specs.Machine.{given}
use Rattle.machine.specs.Legal.{Legal, LegalName}
use Rattle.machine.specs.Layout.{Entry, blank, entry, owner_of, owner_in, sum, laid_over, each, name_ok}
use Rattle.machine.specs.Layout.{proper, unlike, apart as apart?, layout_ok, entries, fives, startable, setting_ok, layout_refusal}
use Rattle.lists.proofs.Tests.{and_true, passes}
use Rattle.lists.proofs.Links.{yes_same, no_same}
use Rattle.laws.proofs.Own.{agree_from}
use Rattle.lists.proofs.Tells.{Tells, eq, le, both, nay, implies, said}

-- ---- a list that refusal 11 lets pass
abbrev pub Each : (Entry → Type 0) → List Entry → Type 0
Each C [] = Unit {0}
Each C (e ∷ l) = C e × Each C l

abbrev pub Proper : Entry → Type 0
Proper e = ((1 ≤ e.priority) × (e.priority ≤ 255)) × LegalName e.name₀ e.name₁ e.name₂

pub record SameName (e f : Entry) : Type 0 where
  pub n₁ : e.name₀ ≡ f.name₀
  pub n₂ : e.name₁ ≡ f.name₁
  pub n₃ : e.name₂ ≡ f.name₂

abbrev pub Apart : List Entry → Type 0
Apart [] = Unit {0}
Apart (e ∷ l) = Each (λ f. SameName e f → ⊥) l × Apart l

pub record Layout (l : List Entry) : Type 0 where
  pub some : 1 ≤ length l
  pub few : length l ≤ 32
  pub room : sum l ≤ 128
  pub entries : Each Proper l
  pub apart : Apart l

-- the entry of each process is in the list
every : (C : Entry → Type 0) (l : List Entry) (i : ℕ) → Each C l → i < length l → C (get_or l i blank)
every C [] i c h = absurd (omega arith)
every C (e ∷ l) zero c h = c.0
every C (e ∷ l) (suc i) c h = every C l i c.1 (omega arith)

apart : (l : List Entry) (i j : ℕ) → Apart l → i < length l → j < length l → SameName (get_or l i blank) (get_or l j blank) → i ≡ j
apart [] i j a h k s = absurd (omega arith)
apart (e ∷ l) zero zero a h k s = refl
apart (e ∷ l) zero (suc j) a h k s = absurd (every _ l j a.0 (omega arith) s)
apart (e ∷ l) (suc i) zero a h k s = absurd (every _ l i a.0 (omega arith) (record { n₁ = sym s.n₁; n₂ = sym s.n₂; n₃ = sym s.n₃ }))
apart (e ∷ l) (suc i) (suc j) a h k s = ap suc (apart l i j a.1 (omega arith) (omega arith) s)

-- numbers of buffers, x standing at 0
abbrev pub counts : Entry → List Entry → ℕ → ℕ
counts x l p = (get_or (x ∷ l) p blank).owns

given_front : (f : ℕ → ℕ) (n : ℕ) → given f (suc n) ≡ f 1 + given (λ k. f (suc k)) n
unfolding given
given_front f zero = omega arith
given_front f (suc n) = omega (arith, given_front f n)

pub given_all : (x : Entry) (l : List Entry) → given (counts x l) (length l) ≡ sum l
unfolding given sum
given_all x [] = refl
given_all x (e ∷ l) = given_front (counts x (e ∷ l)) (length l) ∙ ap (λ (n : ℕ). e.owns + n) (given_all e l)

pub owner_here : (k : ℕ) (e : Entry) (l : List Entry) (b : ℕ) → b < e.owns → owner_of k (e ∷ l) b ≡ k
unfolding owner_of
owner_here k e l b h = ap (λ (t : Bool). if t k (owner_of (suc k) l (b - e.owns))) (lt-ltb b e.owns h)

pub owner_later : (k : ℕ) (e : Entry) (l : List Entry) (b c : ℕ) → b ≡ e.owns + c → owner_of k (e ∷ l) b ≡ owner_of (suc k) l c
unfolding owner_of
owner_later k e l b c h =
    let d : b - e.owns ≡ c = omega arith in
    ap (λ (t : Bool). if t k (owner_of (suc k) l (b - e.owns))) (le-ltb b e.owns (omega arith)) ∙ ap (owner_of (suc k) l) d

owner_at : (k : ℕ) (x : Entry) (l : List Entry) (j i : ℕ) → j < length l → i < counts x l (suc j) → owner_of k l (given (counts x l) j + i) ≡ k + j
unfolding given
owner_at k x [] j i h c = absurd (omega arith)
owner_at k x (e ∷ l) zero i h c = owner_here k e l (0 + i) (omega arith) ∙ omega arith
owner_at k x (e ∷ l) (suc j) i h c =
    owner_later k e l _ (given (counts e l) j + i) (omega (arith, given_front (counts x (e ∷ l)) j)) ∙ owner_at (suc k) e l j i (omega arith) c ∙ omega arith

-- a process's number less 1
module _ (l : List Entry) {p : ℕ} (i : Range (length l) p) where
  back : entry l p ≡ get_or l (p - 1) blank
  back = let e : p ≡ suc (p - 1) = omega arith in subst (λ (q : ℕ). entry l q ≡ get_or l (p - 1) blank) (sym e) refl

  owner_first : (j f : ℕ) → j < (entry l p).owns → f ≡ suc (given (counts blank l) (p - 1)) → same (f + j) 0 0 (owner_of 1 l (f + j - 1)) ≡ p
  owner_first j f h e =
      let d : f + j - 1 ≡ given (counts blank l) (p - 1) + j = omega arith in
      no_same (f + j) 0 0 _ (omega arith) ∙ ap (owner_of 1 l) d ∙ owner_at 1 blank l (p - 1) j (omega arith) (rw back at h) ∙ omega arith

-- each buffer lies among its owner's
owners : (l : List Entry) (b : ℕ) → Range (sum l) b → Range (length l) (owner_in l b)
    × (given (counts blank l) (owner_in l b - 1) < b) × (b ≤ given (counts blank l) (owner_in l b))
owners l =
    agree_from (owner_in l) (λ p. suc (given (counts blank l) (p - 1))) (counts blank l) (length l) (sum l)
    (given_all blank l) (λ p i n. refl) (λ p j i h. owner_first l i j _ h refl)

-- an edition and counters that it lets pass
pub record Setting (edition : ℕ) (counters : List ℕ) : Type 0 where
  pub editions : edition ≤ 1
  pub few : length counters ≤ 16
  pub starts : (i : ℕ) → get_or counters i 0 ≤ 32767

counter_starts : (l : List ℕ) → ((i : ℕ) → get_or l i 0 ≤ 32767) → (s : ℕ) → get_or (0 ∷ l) s 0 ≤ 32767
counter_starts l h zero = omega arith
counter_starts l h (suc s) = h s

pub legal_laid : (beyond : List ℕ) (edition : ℕ) (counters : List ℕ) → Setting edition counters → (l : List Entry) → Layout l
    → Legal (laid_over beyond edition counters l)
unfolding laid_over
legal_laid beyond edition counters c l o =
    record {
      fixed = record {
        some = o.some;
        P32 = o.few;
        B128 = o.room;
        priorities = λ p i. rw (back l i) (every Proper l (p - 1) o.entries (omega arith)).0;
        names = λ p i. rw (back l i) (every Proper l (p - 1) o.entries (omega arith)).1;
        apart = λ p q i j e₁ e₂ e₃. omega (
          arith,
          apart l (p - 1) (q - 1) o.apart (omega arith) (omega arith)
              (record { n₁ = rw (back l i, back l j) at e₁; n₂ = rw (back l i, back l j) at e₂; n₃ = rw (back l i, back l j) at e₃ }),
        );
        none = λ p i e. yes_same _ 0 _ _ e;
        follow = λ p i n. no_same _ 0 _ _ n;
        all = given_all blank l;
        owned = λ b i. (owners l b i).0;
        agree = λ b i. ((owners l b i).1, (owners l b i).2);
      };
      header = record { editions = c.editions; few = c.few; zeros = (refl, refl) };
      process = λ p i. omega arith;
      buffer = λ b i. omega arith;
      running = record { once = tt; only = λ x i. absurd i; every = λ x c. absurd (omega (arith, c.1)) };
      falls = tt;
      events = λ p i. record { once = tt; only = λ x i. absurd i; every = λ x c. absurd (⊎_elim (λ e. omega (arith, e.0)) (λ e. omega (arith, e.0)) c.1) };
      idle = λ p i e. refl;
      awaits = λ p i e. absurd (omega (arith, e));
      waits = λ p i e. absurd (omega (arith, e));
      lowers = λ p i e. absurd (omega (arith, e));
      semaphore_queues = λ s i. record { once = tt; only = λ x i. absurd i; every = λ x e. absurd (omega (arith, e.1)) };
      counters = λ s i. (let h = counter_starts counters c.starts s in record { word = omega arith; below = λ b. absurd (omega arith); above = λ b. refl });
      keeps = λ d i k. absurd (omega arith);
      waiters = λ d i n. absurd (n refl);
    }

-- ---- the checks of refusal 11
tells_each : {C : Entry → Type 0} {f : Entry → Bool} → ((e : Entry) → Tells (f e) (C e)) → (l : List Entry) → Tells (each f l) (Each C l)
unfolding each
tells_each h [] = record { holds = λ e. tt; back = λ d. refl }
tells_each h (e ∷ l) = both (h e) (tells_each h l)

pub tells_name : (x y z : ℕ) → Tells (name_ok x y z) (LegalName x y z)
tells_name x y z =
    said (both (nay (eq _ _)) (both (implies (eq _ _) (eq _ _)) (both (implies (eq _ _) (eq _ _)) (both (implies (eq _ _) (eq _ _)) (eq _ _)))))
    (λ c. record { some = c.0; then₁ = c.1.0; then₂ = c.1.1.0; then₃ = c.1.1.1.0; end = c.1.1.1.1 })
    (λ n. (n.some, (n.then₁, (n.then₂, (n.then₃, n.end)))))

tells_proper : (e : Entry) → Tells (proper e) (Proper e)
tells_proper e = said (both (le _ _) (both (le _ _) (tells_name _ _ _))) (λ c. ((c.0, c.1.0), c.1.1)) (λ c. (c.0.0, (c.0.1, c.1)))

tells_unlike : (e f : Entry) → Tells (unlike e.name₀ e.name₁ e.name₂ f) (SameName e f → ⊥)
tells_unlike e f = nay (said (both (eq _ _) (both (eq _ _) (eq _ _))) (λ c. record { n₁ = c.0; n₂ = c.1.0; n₃ = c.1.1 }) (λ c. (c.n₁, (c.n₂, c.n₃))))

tells_apart : (l : List Entry) → Tells (apart? l) (Apart l)
unfolding apart?
tells_apart [] = record { holds = λ e. tt; back = λ d. refl }
tells_apart (e ∷ l) = both (tells_each (tells_unlike e) l) (tells_apart l)

pub tells_layout : (l : List Entry) → Tells (layout_ok l) (Layout l)
tells_layout l =
    said (both (le _ _) (both (le _ _) (both (le _ _) (both (tells_each tells_proper l) (tells_apart l)))))
    (λ c. record { some = c.0; few = c.1.0; room = c.1.1.0; entries = c.1.1.1.0; apart = c.1.1.1.1 })
    (λ c. (c.some, (c.few, (c.room, (c.entries, c.apart)))))

tells_startable : (l : List ℕ) → Tells (startable l) ((i : ℕ) → get_or l i 0 ≤ 32767)
unfolding startable
tells_startable [] = record { holds = λ e i. omega arith; back = λ h. refl }
tells_startable (c ∷ l) =
    said (both (le c 32767) (tells_startable l)) (λ h i. go h i) (λ h. (h 0, λ i. h (suc i)))
  where
    go : (c ≤ 32767) × ((i : ℕ) → get_or l i 0 ≤ 32767) → (i : ℕ) → get_or (c ∷ l) i 0 ≤ 32767
    go h zero = h.0
    go h (suc i) = h.1 i

pub tells_setting : (edition : ℕ) (counters : List ℕ) → Tells (setting_ok edition counters) (Setting edition counters)
tells_setting edition counters =
    said (both (le _ _) (both (le _ _) (tells_startable counters)))
    (λ c. record { editions = c.0; few = c.1.0; starts = c.1.1 })
    (λ c. (c.editions, (c.few, c.starts)))

-- edition 0, without semaphores
pub plain_setting : Setting 0 []
unfolding startable
plain_setting = (tells_setting 0 []).holds refl

-- a list that layout doesn't refuse
pub accepted_list : (ws : List ℕ) (edition : ℕ) (counters : List ℕ) (n : ℕ) → layout_refusal ws edition counters n ≡ 0
    → Setting edition counters × (layout_ok (entries ws) ≡ true)
unfolding layout_refusal
accepted_list ws edition counters n h =
    let c = and_true {a = setting_ok edition counters} (not-false _ (passes _ (omega arith) h).0) in
    ((tells_setting edition counters).holds c.0, (and_true {a = fives ws} c.1).1)
