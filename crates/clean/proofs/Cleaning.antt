-- What cleaning does to a buffer, case by case, and the sweep over all buffers. Assumes nothing.
use mathlib.Core.Bool.{Bool, true, false, not, ◌&&◌, ◌||◌}
use mathlib.Core.List.{List, [], ◌∷◌}
use mathlib.Core.Logic.{inl, inr}
use mathlib.Core.Path.{◌≡◌, refl, sym, ap, subst, ◌∙◌}
use Prim.Native.Nat.{ℕ, ◌+◌, ◌≤◌}
use native.Mathlib.Omega.{arith}
use lib.Dec.{eqb}
use lib.ListN.{length}
use borrow.Author.Tests.{eq-eqb, ne_eqb, eqb-true, eqb-false}
use Rattle.std.specs.Prelude.{Option, Some, None}
use Rattle.machine.specs.Queue.{if, Range, from, keep, fold}
use Rattle.machine.specs.Machine.{Machine, state, owner, receiver, standing, put_process, put_buffer, buffers, zeros}
use Rattle.machine.specs.Moves.{stop, unlink, free, answer_with, withdrawn, clean_buffer}
use Rattle.machine.specs.Legal.{Legal}
use Rattle.machine.specs.Log.{Talk}
use Rattle.machine.specs.Request.{Clean}
use Rattle.machine.specs.Refusal.{among, outside, first, refusal}
use Rattle.machine.specs.Step.{done, halted, cleaned, changes, effect, step}
use Rattle.machine.specs.Walk.{Walk, nowhere, begin, walk_on, effort, walk}
use Rattle.machine.specs.Words.{Shows}
use Rattle.lists.proofs.Links.{cases}
use Rattle.lists.proofs.Tests.{either, differ, inside}
use Rattle.laws.proofs.Cleaned.{clean_later}
use Rattle.lists.proofs.Numbers.{fold_keeps, in_from}
use Rattle.laws.proofs.Cleans.{Cleaning, clean_one, halted_cleaning}
use Rattle.laws.proofs.Sweeps.{swept, Swept, swept_none, swept_yes, swept_no, walk_through, walk_through_none, walk_through_more}
use Rattle.table.specs.Fits.{MayTake}
use Rattle.table.specs.Links.{position}
use Rattle.answers.specs.Promise.{walk_to, arrival}
use Rattle.answers.proofs.Walks.{walk_to_walked}
use Rattle.answers.proofs.Little.{arrival_32}
use Rattle.table.proofs.Taking.{taken_unlinks}
use Rattle.messages.specs.Conversations.{MayAnswer}
use Rattle.messages.proofs.Joins.{legal_may_answer, legal_may_answer_unlinked}
use Rattle.clean.specs.Clean.{Stopped, MayTakeBack, taken_back, MayClean, MayCleanReceived, Cleans, CleansTo}

-- ---- one buffer
-- where states stay nobody arrives
nobody : (p : ℕ) (m n : Machine) → state n p ≡ state m p → 0 ≡ arrival 1 p m n
nobody p m n e = rw e (go (eqb (state m p) 1))
  where
    go : (t : Bool) → 0 ≡ if (not t && t) (position 1 p m) 0
    go true = refl
    go false = refl

-- cleaning p makes n of m at b; r says whether b's standing changes, and its owner wakes to that position
pub record Makes (p b : ℕ) (m n : Machine) (r : Bool) (position : ℕ) : Type 0 where
  pub made : clean_buffer p b m ≡ n
  pub changed : changes m p b ≡ r
  pub arrives : position ≡ arrival 1 (owner m b) m n

-- words that show what it makes
module _ {May : Machine → Type 0} {t u : List ℕ} {p b : ℕ} where
  makes : {r : Bool} {position : ℕ} → (r ≡ false → position ≡ 0)
      → ((m : Machine) → Shows t m → May m → (n : Machine) × Makes p b m n r position × Shows u n) → Cleans May t u p b r position
  makes {position = position} still f =
      record {
        words = λ m s may. (let k = f m s may in subst (Shows u) (sym k.1.made) k.2);
        changed = λ m s may. sym (f m s may).1.changed;
        arrives = λ m s may. (let k = f m s may in subst (λ (n : Machine). position ≡ arrival 1 (owner m b) m n) (sym k.1.made) k.1.arrives);
        still = still;
      }

  -- nobody wakes
  pub cleans : {r : Bool} → ((m : Machine) → Shows t m → May m → (n : Machine) × Makes p b m n r 0 × Shows u n) → Cleans May t u p b r 0
  cleans = makes (λ e. refl)

  -- the buffer is answered
  pub cleans_answering : {position : ℕ} → ((m : Machine) → Shows t m → May m → (n : Machine) × Makes p b m n true position × Shows u n)
      → Cleans May t u p b true position
  cleans_answering = makes (λ e. absurd (differ e))

-- what is cleaned under less is cleaned under more
pub cleans_under : {More May : Machine → Type 0} {t u : List ℕ} {p b : ℕ} {r : Bool} {position : ℕ} → ((m : Machine) → Shows t m → More m → May m)
    → Cleans May t u p b r position → Cleans More t u p b r position
cleans_under f k =
    record {
      words = λ m s more. k.words m s (f m s more);
      changed = λ m s more. k.changed m s (f m s more);
      arrives = λ m s more. k.arrives m s (f m s more);
      still = k.still;
    }

pub cleans_to_under : {More May : Machine → Type 0} {t : List ℕ} (u : List ℕ) (p b : ℕ) (r : Option ℕ) → ((m : Machine) → Shows t m → More m → May m)
    → CleansTo May t u p b r → CleansTo More t u p b r
cleans_to_under _ _ _ (Some _) f k = cleans_under f k
cleans_to_under _ _ _ None f k = cleans_under f k

-- a process halted
module _ {u : List ℕ} (p : ℕ) (m : Machine) where
  pub halts_stopped : state m p ≡ 0 → Shows u (put_process p 5 0 m) → Shows u (halted p m)
  halts_stopped e s = either (Shows u) (eqb (state m p) 0) (λ t. s) (λ t. absurd (eqb-false (state m p) 0 t e))

  pub halts_other : (state m p ≡ 0 → ⊥) → Shows u (stop p m) → Shows u (halted p m)
  halts_other n s = either (Shows u) (eqb (state m p) 0) (λ t. absurd (n (eqb-true (state m p) 0 t))) (λ t. s)

-- a buffer of that standing may be taken out of the queue it stands in
module _ {m : Machine} (L : Legal m) {b q : ℕ} (i : Range m.B b) where
  pub takes_queued : standing m b ≡ 1 → q ≡ receiver m b → MayTake q b m
  takes_queued s e =
      let r : Range m.P q = rw e ((L.buffer b i).taken (omega arith)).0 in
      record { legal = L; process = r; stands = (L.events q r).every b (i, inl (s, sym e)) }

  pub takes_answered : standing m b ≡ 3 → owner m b ≡ q → MayTake q b m
  takes_answered s e =
      let r : Range m.P q = rw (sym e) (L.fixed.owned b i) in
      record { legal = L; process = r; stands = (L.events q r).every b (i, inr (s, e)) }

module _ (p b : ℕ) (m : Machine) where
  -- p is the owner
  module _ (o : owner m b ≡ p) where
    is_owner : eqb (owner m b) p ≡ true
    is_owner = eq-eqb (owner m b) p o

    pub own_queued : {q : ℕ} → q ≡ receiver m b → standing m b ≡ 1 → Makes p b m (free b (unlink q b m)) true 0
    unfolding clean_buffer
    own_queued {q} e s =
        record { made = rw (e, is_owner, s); changed = rw (is_owner, s); arrives = nobody (owner m b) m (free b (unlink q b m)) refl }

    pub own_answered : standing m b ≡ 3 → Makes p b m (free b (unlink p b m)) true 0
    unfolding clean_buffer
    own_answered s = record { made = rw (is_owner, s); changed = rw (is_owner, s); arrives = nobody (owner m b) m (free b (unlink p b m)) refl }

    pub own_held : standing m b ≡ 2 → Makes p b m (put_buffer b 4 4 m) true 0
    unfolding clean_buffer
    own_held s = record { made = rw (is_owner, s); changed = rw (is_owner, s); arrives = nobody (owner m b) m (put_buffer b 4 4 m) refl }

    -- free or orphaned, and no message for itself
    pub own_else : (standing m b ≡ 1 → ⊥) → (standing m b ≡ 2 → ⊥) → (standing m b ≡ 3 → ⊥) → (standing m b ≡ 4 → receiver m b ≡ p → ⊥) → Makes p b m m false 0
    unfolding clean_buffer
    own_else n₁ n₂ n₃ n₄ =
        let e₁ = ne_eqb (standing m b) 1 n₁ in
        let e₂ = ne_eqb (standing m b) 2 n₂ in
        let e₃ = ne_eqb (standing m b) 3 n₃ in
        record {
          made = rw (is_owner, e₁, e₃, e₂);
          changed =
              cases (receiver m b) p
              (λ r. rw (is_owner, e₁, e₂, e₃, eq-eqb (receiver m b) p r, ne_eqb (standing m b) 4 (λ e. n₄ e r)))
              (λ r. rw (is_owner, e₁, e₂, e₃, ne_eqb (receiver m b) p r));
          arrives = nobody (owner m b) m m refl;
        }

  -- p is the receiver alone
  module _ (n : owner m b ≡ p → ⊥) where
    not_owner : eqb (owner m b) p ≡ false
    not_owner = ne_eqb (owner m b) p n

    module _ (r : receiver m b ≡ p) where
      is_receiver : eqb (receiver m b) p ≡ true
      is_receiver = eq-eqb (receiver m b) p r

      received_queued : {q : ℕ} → standing m b ≡ 1 → q ≡ arrival 1 (owner m b) (unlink p b m) (answer_with b withdrawn (unlink p b m))
          → Makes p b m (answer_with b withdrawn (unlink p b m)) true q
      unfolding clean_buffer
      received_queued s a = record { made = rw (not_owner, is_receiver, s); changed = rw (not_owner, is_receiver, s); arrives = a }

      received_held : {q : ℕ} → standing m b ≡ 2 → q ≡ arrival 1 (owner m b) m (answer_with b withdrawn m) → Makes p b m (answer_with b withdrawn m) true q
      unfolding clean_buffer
      received_held s a = record { made = rw (not_owner, is_receiver, s); changed = rw (not_owner, is_receiver, s); arrives = a }

      pub received_orphaned : standing m b ≡ 4 → Makes p b m (free b m) true 0
      unfolding clean_buffer
      received_orphaned s =
          record { made = rw (not_owner, is_receiver, s); changed = rw (not_owner, is_receiver, s); arrives = nobody (owner m b) m (free b m) refl }

      pub received_else : (standing m b ≡ 1 → ⊥) → (standing m b ≡ 2 → ⊥) → (standing m b ≡ 4 → ⊥) → Makes p b m m false 0
      unfolding clean_buffer
      received_else n₁ n₂ n₄ =
          let e₁ = ne_eqb (standing m b) 1 n₁ in
          let e₂ = ne_eqb (standing m b) 2 n₂ in
          let e₄ = ne_eqb (standing m b) 4 n₄ in
          record {
            made = rw (not_owner, is_receiver, e₁, e₂, e₄);
            changed = rw (not_owner, is_receiver, e₁, e₂, e₄);
            arrives = nobody (owner m b) m m refl;
          }

    -- p has no part in it
    pub neither : (receiver m b ≡ p → ⊥) → Makes p b m m false 0
    unfolding clean_buffer
    neither k =
        record {
          made = rw (not_owner, ne_eqb (receiver m b) p k);
          changed = rw (not_owner, ne_eqb (receiver m b) p k);
          arrives = nobody (owner m b) m m refl;
        }

-- queued or held, as it was read: it is taken back if it is queued, and answered
module _ {p b : ℕ} {m : Machine} (may : MayCleanReceived p b m) {s : ℕ} (e : s ≡ standing m b) where
  pub may_take_back : MayTakeBack p b s m
  may_take_back one = taken_unlinks (takes_queued may.0 may.1 (sym e ∙ one) (sym may.3))

  module _ (open-there : (eqb s 1 || eqb s 2) ≡ true) where
    held : eqb s 1 ≡ false → standing m b ≡ 2
    held t = sym e ∙ eqb-true s 2 (rw t at open-there)

    pub may_answer_back : MayAnswer b (taken_back p b s m)
    may_answer_back =
        either (MayAnswer b) (eqb s 1)
        (λ t. legal_may_answer_unlinked may.0 may.1 (sym e ∙ eqb-true s 1 t) may.3)
        (λ t. legal_may_answer may.0 may.1 (held t))

    pub answered_back : {q : ℕ} → q ≡ arrival 1 (owner (taken_back p b s m) b) (taken_back p b s m) (answer_with b withdrawn (taken_back p b s m))
        → Makes p b m (answer_with b withdrawn (taken_back p b s m)) true q
    answered_back {q} = go (eqb s 1) refl
      where
        go : (t : Bool) → eqb s 1 ≡ t → let n : Machine = if t (unlink p b m) m in
            q ≡ arrival 1 (owner n b) n (answer_with b withdrawn n) → Makes p b m (answer_with b withdrawn n) true q
        go true t = received_queued p b m may.2 may.3 (sym e ∙ eqb-true s 1 t)
        go false t = received_held p b m may.2 may.3 (held t)

-- ---- all buffers
-- t shows m after the first k buffers are cleaned, of which so many standings changed, and w is the walk of the owners that woke
pub record CleanedTo (p : ℕ) (m : Machine) (t : List ℕ) (k changed : ℕ) (w : Walk) : Type 0 where
  pub sweeps : Swept (clean_buffer p) (changes m p) m t k changed
  pub walk : w ≡ walk_through 1 (λ b n. owner n b) (clean_buffer p) k m

pub cleaned_none : {p : ℕ} {m : Machine} {t : List ℕ} {w : Walk} → Shows t m → w ≡ nowhere → CleanedTo p m t 0 0 w
cleaned_none {p} {m} s e = record { sweeps = swept_none s; walk = e ∙ sym (walk_through_none 1 (λ b n. owner n b) (clean_buffer p) m) }

cleaning : {p : ℕ} {m : Machine} → Stopped p m → (k : ℕ) → k ≤ m.B → Cleaning p m.B (swept (clean_buffer p) k m)
cleaning {p} {m} c k h =
    fold_keeps (Cleaning p m.B) (clean_buffer p) (from 1 k)
    (λ b i n w. clean_one w (let j = in_from b 1 k i in omega (arith, w.size))) m
    (record { legal = c.0; size = refl; stopped = c.1 })

pub may_clean : (p : ℕ) {m : Machine} → Stopped p m → (k : ℕ) → k + 1 ≤ m.B → MayClean (k + 1) (swept (clean_buffer p) k m)
may_clean p c k h = let w = cleaning c k (omega arith) in (w.legal, omega (arith, w.size))

-- one buffer more
module _ {p : ℕ} {m : Machine} (c : Stopped p m) {t u : List ℕ} (k : ℕ) {changed position : ℕ} {r : Bool} {w : Walk}
    (h : k + 1 ≤ m.B) (a : CleanedTo p m t k changed w) (s : Cleans (MayClean (k + 1)) t u p (k + 1) r position) where
  abbrev here : Machine
  here = swept (clean_buffer p) k m

  -- as `changes` has it of the conversation x
  abbrev concerned : Talk → Bool
  concerned x = (eqb x.owner p && among x.standing (1 ∷ 2 ∷ 3 ∷ [])) || (eqb x.receiver p && among x.standing (1 ∷ 2 ∷ 4 ∷ []))

  told : r ≡ changes m p (k + 1)
  told = s.changed _ a.sweeps.words (may_clean p c k h) ∙ ap concerned (clean_later p k (k + 1) m (omega arith))

  arrived : position ≡ arrival 1 (owner here (k + 1)) here (clean_buffer p (k + 1) here)
  arrived = s.arrives _ a.sweeps.words (may_clean p c k h)

  pub cleaned_few : position ≤ 32
  cleaned_few = let may = may_clean p c k h in rw arrived (arrival_32 may.0 1 (may.0.fixed.owned (k + 1) may.1) (clean_buffer p (k + 1) here))

  walked_on : walk_to position w ≡ walk_through 1 (λ b n. owner n b) (clean_buffer p) (k + 1) m
  walked_on =
      ap (walk_to position) a.walk ∙ ap (λ (x : ℕ). walk_to x (walk_through 1 (λ b n. owner n b) (clean_buffer p) k m)) arrived
      ∙ walk_to_walked 1 (owner here (k + 1)) here (clean_buffer p (k + 1) here) _ ∙ sym (walk_through_more 1 (λ b n. owner n b) (clean_buffer p) k m)

  pub cleaned_changed : {v : Walk} → r ≡ true → v ≡ walk_to position w → CleanedTo p m u (k + 1) (changed + 1) v
  cleaned_changed t e = record { sweeps = swept_yes k a.sweeps (s.words _ a.sweeps.words (may_clean p c k h)) told t; walk = e ∙ walked_on }

  pub cleaned_same : r ≡ false → CleanedTo p m u (k + 1) changed w
  cleaned_same t =
      record { sweeps = swept_no k a.sweeps (s.words _ a.sweeps.words (may_clean p c k h)) told t; walk = sym (rw (s.still t)) ∙ walked_on }

-- ---- the call
-- the process halted, the standings are as they were
pub halted_changes : (a : ℕ) (m : Machine) → length (keep (changes (halted a m) a) (buffers (halted a m))) ≡ length (keep (changes m a) (buffers m))
halted_changes a m =
    either (λ (n : Machine). length (keep (changes n a) (buffers n)) ≡ length (keep (changes m a) (buffers m))) (eqb (state m a) 0) (λ t. refl) (λ t. refl)

module _ (m : Machine) (a : ℕ) where
  pub clean_barred : outside a m.P ≡ true → 4 ≡ refusal m (Clean a)
  unfolding refusal first
  clean_barred o = rw o

  module _ (o : outside a m.P ≡ false) where
    pub clean_done : step m (Clean a) ≡ done (length (keep (changes m a) (buffers m))) 0 zeros (cleaned a m)
    unfolding step refusal first effect
    clean_done = rw o

    module _ (L : Legal m) where
      pub clean_is : Range m.P a
      clean_is = inside m.P a o

      pub clean_stopped : Stopped a (halted a m)
      clean_stopped = let c = halted_cleaning L clean_is in (c.legal, c.stopped)

      pub clean_walks : {w : Walk} → w ≡ (fold (walk_on 1 (λ b n. owner n b) (clean_buffer a)) (buffers (halted a m)) (begin (halted a m))).walk
          → w ≡ walk m (Clean a)
      unfolding walk refusal first effort
      clean_walks {w} h =
          rw o
          (subst (λ (b : ℕ). w ≡ (fold (walk_on 1 (λ b n. owner n b) (clean_buffer a)) (from 1 b) (begin (halted a m))).walk)
          (halted_cleaning L clean_is).size h)

      pub clean_words : {u : List ℕ} → Shows u (fold (clean_buffer a) (buffers (halted a m)) (halted a m)) → Shows u (cleaned a m)
      clean_words {u} = subst (λ (b : ℕ). Shows u (fold (clean_buffer a) (from 1 b) (halted a m))) (halted_cleaning L clean_is).size
