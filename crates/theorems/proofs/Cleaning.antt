-- docs/MONITOR.md, 11: cleaning a process a second time changes nothing and has kind 0; cleaning two processes, or three, in any order leaves the same
-- conversations, and so the same listings; a clean after a stop is the clean. Assumes nothing.
use Prim.Native.Nat.{ℕ, zero, suc, ◌*◌}
use native.Mathlib.Omega.{arith}
use mathlib.Core.Bool.{Bool, true, false, not, ◌&&◌, ◌||◌}
use mathlib.Core.List.{List, [], ◌∷◌}
use mathlib.Core.Logic.{inl, inr}
use mathlib.Core.Path.{◌≡◌, refl, sym, ap, ap₂, fun_ext, ◌∙◌}
use lib.ListN.{length}
use lib.Dec.{eqb, ltb}
use borrow.Author.Tests.{eq-eqb, ne_eqb, eqb-true, eqb-false}
use Rattle.machine.specs.Queue.{if, Range, In, keep, from, fold}
use Rattle.machine.specs.Machine.{Machine, state, owner, receiver, standing, with_process, where_field, put_process, zeros, buffers}
use Rattle.machine.specs.Moves.{stop, unlink, waiting, answer_with, withdrawn, clean_buffer}
use Rattle.machine.specs.Refusal.{◌when◌, first, outside, row_width, refusal, is_shown, shown}
use Rattle.machine.specs.Step.{Outcome, accept, halted, cleaned, changes, rows, effect, judge, step}
use Rattle.machine.specs.Request.{Clean, ListOpen}
use Rattle.machine.specs.Legal.{Legal}
use Rattle.machine.specs.Log.{Talk, moved}
use Rattle.lists.proofs.Links.{yes_same, no_same, decide, cases}
use Rattle.lists.proofs.Tests.{either}
use Rattle.lists.proofs.Numbers.{in_from, from_in, from_once, in_keep, keep_none, keep_same}
use Rattle.laws.specs.Talk.{talk}
use Rattle.laws.proofs.Cleaned.{clean_others, cleaned_size}
use Rattle.theorems.proofs.Ages.{swept_each}
use Rattle.laws.proofs.Cleans.{cleaned_cleaning}
use Rattle.theorems.proofs.CleanTalk.{clean_talk, clean_twice, clean_both, of_owner, of_receiver, settled_owner, settled_receiver}

-- ---- of a machine's buffers
-- a choice of machines, seen through what is read of it
pub chosen : {A B : Type 0} (f : A → B) (t : Bool) {x y : A} {u v : B} → f x ≡ u → f y ≡ v → f (if t x y) ≡ if t u v
chosen f true p q = p
chosen f false p q = q

answered : (b : ℕ) (m : Machine) → talk (answer_with b withdrawn m) b ≡ moved 3 (talk m b)
answered b m = either (λ (y : Machine). talk y b ≡ moved 3 (talk m b)) (waiting b m) (λ t. simp decide) (λ t. simp decide)

pub clean_here : (p b : ℕ) (m : Machine) → talk (clean_buffer p b m) b ≡ clean_talk p (talk m b)
unfolding clean_buffer
clean_here p b m =
    let f : Machine → Talk = λ w. talk w b in
    let s : ℕ → Bool = eqb (standing m b) in
    chosen f (eqb (owner m b) p)
    (chosen f (s 1) (simp decide) (chosen f (s 3) (simp decide) (chosen f (s 2) (simp decide) refl)))
    (chosen f (eqb (receiver m b) p)
    (chosen f (s 1) (answered b (unlink p b m)) (chosen f (s 2) (answered b m) (chosen f (s 4) (simp decide) refl))) refl)

pub cleaned_talks : (p : ℕ) (m : Machine) (k : ℕ) → Range m.B k → talk (cleaned p m) k ≡ clean_talk p (talk m k)
cleaned_talks p m k i =
    swept_each talk (clean_buffer p) (clean_talk p) (clean_here p) (λ k b m n. clean_others p b k n m) k (buffers m) (from_once 1 m.B)
    (from_in k 1 m.B i.0 (omega arith)) (halted p m)
    ∙ ap (clean_talk p) (either (λ (n : Machine). talk n k ≡ talk m k) (eqb (state m p) 0) (λ t. refl) (λ t. refl))

-- ---- either order
-- the same number, kind and rows
pub record Listed (o o' : Outcome) : Type 0 where
  pub number : o.answer.number ≡ o'.answer.number
  pub kind : o.answer.kind ≡ o'.answer.kind
  pub rows : o.listing ≡ o'.listing

module _ (m n : Machine) (size : n.B ≡ m.B) (alike : (k : ℕ) → Range m.B k → talk n k ≡ talk m k) where
  rows_same : (l : List ℕ) → ((b : ℕ) → In b l → Range m.B b) → rows n l ≡ rows m l
  unfolding rows
  rows_same [] h = refl
  rows_same (b ∷ l) h = ap₂ (λ (t : Talk) (r : List ℕ). b ∷ t.owner ∷ t.receiver ∷ t.standing ∷ t.age ∷ r) (alike b (h b (inl refl)))
      (rows_same l (λ k i. h k (inr i)))

  shown_same : (a : ℕ) → shown n a ≡ shown m a
  shown_same a =
      ap (λ (k : ℕ). keep (is_shown n a) (from 1 k)) size
      ∙ keep_same _ _ 1 m.B (λ k l u. ap (λ (t : Talk). not (eqb t.standing 0) && (eqb t.owner a || eqb t.receiver a)) (alike k (omega arith)))

  rows_shown : (a : ℕ) → rows n (shown n a) ≡ rows m (shown m a)
  rows_shown a =
      ap (rows n) (shown_same a) ∙ rows_same (shown m a) (λ b i. (let k = in_from b 1 m.B (in_keep b (is_shown m a) (buffers m) i).0 in omega arith))

  -- call 0B tells the same of both, but for who is current
  pub lists_same : n.P ≡ m.P → (a room : ℕ) → Listed (step n (ListOpen a room)) (step m (ListOpen a room))
  unfolding step refusal effect
  lists_same e a room = told n.P m.P _ _ _ _ e (ap length (shown_same a)) (rows_shown a)
    where
      judged : (k c : ℕ) (l : List ℕ) → Listed (judge k (accept c 0 zeros n l) n) (judge k (accept c 0 zeros m l) m)
      judged zero c l = record { number = refl; kind = refl; rows = refl }
      judged (suc k) c l = record { number = refl; kind = refl; rows = refl }

      refusal_of : ℕ → ℕ → ℕ
      refusal_of P c = first ((4 when outside a P) ∷ (10 when ltb room (row_width * c)) ∷ [])

      told : (P P' c c' : ℕ) (l l' : List ℕ) → P ≡ P' → c ≡ c' → l ≡ l'
          → Listed (judge (refusal_of P c) (accept c 0 zeros n l) n) (judge (refusal_of P' c') (accept c' 0 zeros m l') m)
      told P P' c c' l l' x y z = rw (x, y, z) (judged (refusal_of P' c') c' l')

module _ (m : Machine) (p q : ℕ) (d : p ≡ q → ⊥) where
  -- every buffer
  pub either_order : (k : ℕ) → Range m.B k → talk (cleaned q (cleaned p m)) k ≡ talk (cleaned p (cleaned q m)) k
  either_order k r =
      cleaned_talks q (cleaned p m) k (rw (cleaned_size p m).0 r) ∙ ap (clean_talk q) (cleaned_talks p m k r) ∙ clean_both p q d (talk m k)
      ∙ sym (cleaned_talks p (cleaned q m) k (rw (cleaned_size q m).0 r) ∙ ap (clean_talk p) (cleaned_talks q m k r))

  -- and so "every process with the same listing"
  pub either_listing : (a room : ℕ) → Listed (step (cleaned q (cleaned p m)) (ListOpen a room)) (step (cleaned p (cleaned q m)) (ListOpen a room))
  either_listing a room =
      let s = cleaned_size p (cleaned q m) in
      let z = cleaned_size q m in
      let k = cleaned_size q (cleaned p m) in
      let y = cleaned_size p m in
      let same : (cleaned p (cleaned q m)).B ≡ m.B = s.0 ∙ z.0 in
      lists_same (cleaned p (cleaned q m)) (cleaned q (cleaned p m)) (k.0 ∙ y.0 ∙ sym same) (λ b r. either_order b (rw same at r))
      (k.1 ∙ y.1 ∙ sym (s.1 ∙ z.1)) a room

-- ---- three processes
-- any order is reached by changing the first two, and the last two
module _ (m : Machine) (p q r : ℕ) where
  pub first_two : (p ≡ q → ⊥) → (k : ℕ) → Range m.B k → talk (cleaned r (cleaned q (cleaned p m))) k ≡ talk (cleaned r (cleaned p (cleaned q m))) k
  first_two d k i =
      let both : (x y : ℕ) → (cleaned y (cleaned x m)).B ≡ m.B = λ x y. (cleaned_size y (cleaned x m)).0 ∙ (cleaned_size x m).0 in
      cleaned_talks r (cleaned q (cleaned p m)) k (rw (both p q) i) ∙ ap (clean_talk r) (either_order m p q d k i)
      ∙ sym (cleaned_talks r (cleaned p (cleaned q m)) k (rw (both q p) i))

  pub last_two : (q ≡ r → ⊥) → (k : ℕ) → Range m.B k → talk (cleaned r (cleaned q (cleaned p m))) k ≡ talk (cleaned q (cleaned r (cleaned p m))) k
  last_two d k i = either_order (cleaned p m) q r d k (rw (cleaned_size p m).0 i)

-- ---- a second time
module _ (p b : ℕ) (n : Machine) (still : clean_talk p (talk n b) ≡ talk n b) where
  settled₁ : owner n b ≡ p → (standing n b ≡ 1 → ⊥) × (standing n b ≡ 2 → ⊥) × (standing n b ≡ 3 → ⊥)
  settled₁ e = settled_owner (talk n b) (sym (of_owner p (talk n b) e) ∙ still)

  settled₂ : (owner n b ≡ p → ⊥) → receiver n b ≡ p → (standing n b ≡ 1 → ⊥) × (standing n b ≡ 2 → ⊥) × (standing n b ≡ 4 → ⊥)
  settled₂ k e = settled_receiver (talk n b) (sym (of_receiver p (talk n b) k e) ∙ still)

  clean_still : clean_buffer p b n ≡ n
  unfolding clean_buffer
  clean_still =
      let C : Machine → Type 0 = λ w. w ≡ n in
      let s : (k : ℕ) → eqb (standing n b) k ≡ true → standing n b ≡ k = eqb-true (standing n b) in
      either C (eqb (owner n b) p)
      (λ to. (let h = settled₁ (eqb-true _ p to) in
      either C (eqb (standing n b) 1) (λ t. absurd (h.0 (s 1 t)))
      (λ _. either C (eqb (standing n b) 3) (λ t. absurd (h.2 (s 3 t)))
      (λ _. either C (eqb (standing n b) 2) (λ t. absurd (h.1 (s 2 t))) (λ _. refl)))))
      (λ to. either C (eqb (receiver n b) p)
      (λ tr. (let h = settled₂ (eqb-false _ p to) (eqb-true _ p tr) in
      either C (eqb (standing n b) 1) (λ t. absurd (h.0 (s 1 t)))
      (λ _. either C (eqb (standing n b) 2) (λ t. absurd (h.1 (s 2 t)))
      (λ _. either C (eqb (standing n b) 4) (λ t. absurd (h.2 (s 4 t))) (λ _. refl)))))
      (λ _. refl))

  unchanged : (receiver n b ≡ owner n b → standing n b ≡ 0) → changes n p b ≡ false
  unchanged g =
      cases (owner n b) p
      (λ e. (let h = settled₁ e in
      cases (receiver n b) p
      (λ r. rw (g (r ∙ sym e), eq-eqb _ p e, eq-eqb _ p r))
      (λ r. rw
      (eq-eqb (owner n b) p e, ne_eqb (receiver n b) p r, ne_eqb (standing n b) 1 h.0, ne_eqb (standing n b) 2 h.1, ne_eqb (standing n b) 3 h.2))))
      (λ e. cases (receiver n b) p
      (λ r.
      (let h = settled₂ e r in
      rw (
        ne_eqb (owner n b) p e,
        eq-eqb (receiver n b) p r,
        ne_eqb (standing n b) 1 h.0,
        ne_eqb (standing n b) 2 h.1,
        ne_eqb (standing n b) 4 h.2,
      )))
      (λ r. rw (ne_eqb (owner n b) p e, ne_eqb (receiver n b) p r)))

-- a word that is v already
put_same : (p f v : ℕ) (n : Machine) → n.process p f ≡ v → put_process p f v n ≡ n
put_same p f v n e = ap (λ (g : ℕ → ℕ → ℕ). with_process n.running g n.device n) (fun_ext λ k. fun_ext λ j. word k j (eqb j f) refl)
  where
    word : (k j : ℕ) (t : Bool) → eqb j f ≡ t → where_field t k p v (n.process k j) ≡ n.process k j
    word k j true t = cases k p (λ z. yes_same k p v _ z ∙ sym (rw (z, eqb-true j f t) e)) (λ z. no_same k p v _ z)
    word k j false t = refl

halted_same : (p : ℕ) (n : Machine) → state n p ≡ 0 → n.process p 5 ≡ 0 → halted p n ≡ n
halted_same p n e z = rw (eq-eqb (state n p) 0 e) (put_same p 5 0 n z)

fold_still : {A : Type 0} (f : ℕ → A → A) (l : List ℕ) (a : A) → ((x : ℕ) → In x l → f x a ≡ a) → fold f l a ≡ a
unfolding fold
fold_still f [] a h = refl
fold_still f (x ∷ l) a h = ap (fold f l) (h x (inl refl)) ∙ fold_still f l a (λ y i. h y (inr i))

module _ {m : Machine} (L : Legal m) {p : ℕ} (i : Range m.P p) where
  pub cleaned_still : (b : ℕ) → Range m.B b → clean_talk p (talk (cleaned p m) b) ≡ talk (cleaned p m) b
  cleaned_still b r = let e = cleaned_talks p m b r in ap (clean_talk p) e ∙ clean_twice p (talk m b) ∙ sym e

  -- "changes no word"
  pub second_clean : cleaned p (cleaned p m) ≡ cleaned p m
  second_clean =
      let n = cleaned p m in
      let c = cleaned_cleaning L i in
      let s = c.stopped in
      let r = (c.legal.process p (rw (cleaned_size p m).1 i)).no_reason (λ e. omega arith) in
      ap (fold (clean_buffer p) (buffers n)) (halted_same p n s r)
      ∙ fold_still (clean_buffer p) (buffers n) n (λ b j. (let k = in_from b 1 n.B j in clean_still p b n (cleaned_still b (omega (arith, c.size)))))

  -- "and gives kind 0"
  pub second_kind : (effect (cleaned p m) (Clean p)).answer.kind ≡ 0
  unfolding effect
  second_kind =
      let n = cleaned p m in
      let c = cleaned_cleaning L i in
      ap length (keep_none (changes n p) 1 n.B (λ b l u. unchanged p b n (cleaned_still b (omega (arith, c.size)))
      (λ e. cases (standing n b) 0 (λ z. z) (λ z. absurd (((c.legal.buffer b (omega arith)).taken z).1 e)))))

-- a clean after a stop is the clean
pub clean_stopped : (p : ℕ) (m : Machine) → (state m p ≡ 0 → ⊥) → cleaned p (stop p m) ≡ cleaned p m
clean_stopped p m n =
    ap (fold (clean_buffer p) (buffers m))
    (halted_same p (stop p m) (simp decide) (simp decide) ∙ sym (ap (λ (t : Bool). if t (put_process p 5 0 m) (stop p m)) (ne_eqb (state m p) 0 n)))
