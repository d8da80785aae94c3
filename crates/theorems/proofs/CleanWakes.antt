-- docs/MONITOR.md, 11: what one clean does to the words of every process: the one that is cleaned stops, and another wakes or stays as it is. Assumes
-- nothing.
use Prim.Native.Nat.{ℕ}
use native.Mathlib.Omega.{arith}
use mathlib.Core.Bool.{Bool, true, false, ◌&&◌, ◌||◌}
use mathlib.Core.List.{List, [], ◌∷◌}
use mathlib.Core.Logic.{inl, inr}
use mathlib.Core.Path.{◌≡◌, refl, sym, ap, ap₂, fun_ext, ◌∙◌}
use lib.Dec.{eqb}
use borrow.Author.Tests.{eq-eqb, ne_eqb, eqb-true, eqb-false}
use Rattle.machine.specs.Queue.{if, same, at, Range, In, Distinct, fold}
use Rattle.machine.specs.Machine.{Machine, state, owner, receiver, standing, at₂, where_field, buffers}
use Rattle.machine.specs.Moves.{unlink, waiting, answer_with, withdrawn, clean_buffer}
use Rattle.machine.specs.Step.{halted, cleaned}
use Rattle.machine.specs.Legal.{Legal}
use Rattle.machine.specs.Log.{Talk}
use Rattle.laws.specs.Talk.{talk}
use Rattle.lists.proofs.Links.{yes_same, no_same, refl_same, decide, cases}
use Rattle.lists.proofs.Tests.{either}
use Rattle.lists.proofs.Lists.{field_else}
use Rattle.lists.proofs.Numbers.{from_once}
use Rattle.laws.proofs.Cleaned.{clean_others}

-- ---- a process's words
-- those of a process that wakes with reason 1, and of one that stops
abbrev pub woken_words : (ℕ → ℕ) → ℕ → ℕ
woken_words r = at (at (at (at (at r 6 0) 7 0) 8 0) 4 1) 5 1

abbrev pub stopped_words : (ℕ → ℕ) → ℕ → ℕ
stopped_words r = at (at (at (at (at (at r 15 0) 6 0) 7 0) 8 0) 4 0) 5 0

-- it waits for an event, or for the answer in buffer b
abbrev pub words_wait : (ℕ → ℕ) → ℕ → Bool
words_wait r b = eqb (r 4) 2 || (eqb (r 4) 3 && eqb (r 7) b)

-- a word of record n changed: of n, and of another
here : (g : ℕ → ℕ → ℕ) (n f v : ℕ) → at₂ g n f v n ≡ at (g n) f v
unfolding same
here g n f v = fun_ext λ j. go (eqb j f) (g n j)
  where
    go : (t : Bool) (w : ℕ) → where_field t n n v w ≡ if t v w
    go true w = refl_same n v w
    go false w = refl

elsewhere : (g : ℕ → ℕ → ℕ) (n f v k : ℕ) → (k ≡ n → ⊥) → at₂ g n f v k ≡ g k
elsewhere g n f v k h = fun_ext λ j. field_else g n f v k j (λ e _. h e)

-- five words, one behind the other
module _ (g : ℕ → ℕ → ℕ) (n : ℕ) (v w : ℕ) where
  abbrev five : ℕ → ℕ → ℕ
  five = at₂ (at₂ (at₂ (at₂ (at₂ g n 6 0) n 7 0) n 8 0) n 4 v) n 5 w

  five_here : five n ≡ at (at (at (at (at (g n) 6 0) 7 0) 8 0) 4 v) 5 w
  five_here =
      let g₆ = at₂ g n 6 0 in
      let g₇ = at₂ g₆ n 7 0 in
      let g₈ = at₂ g₇ n 8 0 in
      let g₄ = at₂ g₈ n 4 v in
      here g₄ n 5 w
      ∙ ap (λ (r : ℕ → ℕ). at r 5 w) (here g₈ n 4 v
      ∙ ap (λ (r : ℕ → ℕ). at r 4 v) (here g₇ n 8 0
      ∙ ap (λ (r : ℕ → ℕ). at r 8 0) (here g₆ n 7 0
      ∙ ap (λ (r : ℕ → ℕ). at r 7 0) (here g n 6 0))))

  five_elsewhere : (k : ℕ) → (k ≡ n → ⊥) → five k ≡ g k
  five_elsewhere k h =
      let g₆ = at₂ g n 6 0 in
      let g₇ = at₂ g₆ n 7 0 in
      let g₈ = at₂ g₇ n 8 0 in
      let g₄ = at₂ g₈ n 4 v in
      elsewhere g₄ n 5 w k h ∙ elsewhere g₈ n 4 v k h ∙ elsewhere g₇ n 8 0 k h ∙ elsewhere g₆ n 7 0 k h ∙ elsewhere g n 6 0 k h

-- ---- one buffer
-- a conversation of which a is the owner, and that the clean of p answers; tests as in `clean_buffer`
abbrev pub asks : ℕ → ℕ → Talk → Bool
asks p a t =
    let s : ℕ = t.standing in
    if (eqb t.owner p)
    (if (eqb s 1) false (if (eqb s 3) false (if (eqb s 2) false false)))
    (if (eqb t.receiver p) (if (eqb s 1) (eqb t.owner a) (if (eqb s 2) (eqb t.owner a) (if (eqb s 4) false false))) false)

-- none where a isn't the owner, or is p
pub asks_no : (p a : ℕ) (t : Talk) → ((t.owner ≡ p → ⊥) → t.owner ≡ a → ⊥) → asks p a t ≡ false
asks_no p a t h =
    let No : Bool → Type 0 = λ x. x ≡ false in
    let s : ℕ → Bool = eqb t.standing in
    either No (eqb t.owner p) (λ _. either No (s 1) (λ _. refl) (λ _. either No (s 3) (λ _. refl) (λ _. either No (s 2) (λ _. refl) (λ _. refl))))
    (λ n. (let e = ne_eqb t.owner a (h (eqb-false t.owner p n)) in
    either No (eqb t.receiver p)
    (λ _. either No (s 1) (λ _. e) (λ _. either No (s 2) (λ _. e) (λ _. either No (s 4) (λ _. refl) (λ _. refl)))) (λ _. refl)))

-- the words of a process that a test wakes
abbrev pub roused : Bool → (ℕ → ℕ) → ℕ → ℕ
roused t r = if t (woken_words r) r

-- what holds of both ways out of one test of two choices
pairwise : {A B : Type 0} (C : A → B → Type 0) (t : Bool) {a b : A} {c d : B} → C a c → C b d → C (if t a b) (if t c d)
pairwise C true x y = x
pairwise C false x y = y

module _ (p b a : ℕ) (m : Machine) where
  -- the words of a, where t says whether a asked
  abbrev Roused : Machine → Bool → Type 0
  Roused w t = w.process a ≡ roused (t && words_wait (m.process a) b) (m.process a)

  answer_rouses : (x : Machine) → x.process ≡ m.process → owner x b ≡ owner m b → Roused (answer_with b withdrawn x) (eqb (owner m b) a)
  answer_rouses x e o = cases (owner m b) a (λ z. rw (eq-eqb (owner m b) a z) (self z)) (λ z. rw (ne_eqb (owner m b) a z) (other z))
    where
      self : owner m b ≡ a → (answer_with b withdrawn x).process a ≡ roused (words_wait (m.process a) b) (m.process a)
      self z =
          rw (← e, ← z, ← o)
          (pairwise (λ (w : Machine) (r : ℕ → ℕ). w.process (owner x b) ≡ r) (waiting b x) (five_here x.process (owner x b) 1 1) refl)

      other : (owner m b ≡ a → ⊥) → (answer_with b withdrawn x).process a ≡ m.process a
      other z =
          rw (← e)
          (either (λ (w : Machine). w.process a ≡ x.process a) (waiting b x)
          (λ _. five_elsewhere x.process (owner x b) 1 1 a (λ k. z (sym o ∙ sym k))) (λ _. refl))

  row_step : Roused (clean_buffer p b m) (asks p a (talk m b))
  unfolding clean_buffer
  row_step =
      let s : ℕ → Bool = eqb (standing m b) in
      pairwise Roused (eqb (owner m b) p)
      (pairwise Roused (s 1) refl (pairwise Roused (s 3) refl (pairwise Roused (s 2) refl refl)))
      (pairwise Roused (eqb (receiver m b) p)
      (pairwise Roused (s 1) (answer_rouses (unlink p b m) refl refl) (pairwise Roused (s 2) (answer_rouses m refl refl) (pairwise Roused (s 4) refl refl)))
      refl)

-- ---- all buffers
-- a test holds of one of them
unfoldable pub some : (ℕ → Bool) → List ℕ → Bool
some f [] = false
some f (x ∷ l) = f x || some f l

pub some_same : (f g : ℕ → Bool) (l : List ℕ) → ((x : ℕ) → In x l → f x ≡ g x) → some f l ≡ some g l
unfolding some
some_same f g [] h = refl
some_same f g (x ∷ l) h = ap₂ (λ (t u : Bool). t || u) (h x (inl refl)) (some_same f g l (λ y i. h y (inr i)))

pub some_none : (f : ℕ → Bool) (l : List ℕ) → ((x : ℕ) → f x ≡ false) → some f l ≡ false
unfolding some
some_none f [] h = refl
some_none f (x ∷ l) h = rw (h x) (some_none f l h)

pub and_false : (t : Bool) {u : Bool} → u ≡ false → (t && u) ≡ false
and_false true e = e
and_false false e = refl

-- whether a process of the words r is woken-words by the clean of p: for a buffer of l, by what is said of it
abbrev pub rouses : ℕ → ℕ → (ℕ → Talk) → (ℕ → ℕ) → List ℕ → Bool
rouses p a talks r l = some (λ b. asks p a (talks b) && words_wait r b) l

-- one that runs, as it does when woken-words, isn't
pub woken_once : (p a : ℕ) (talks : ℕ → Talk) (r : ℕ → ℕ) (l : List ℕ) → rouses p a talks (woken_words r) l ≡ false
unfolding same
woken_once p a talks r l = some_none _ l (λ b. and_false (asks p a (talks b)) refl)

third_fold : (p a : ℕ) (l : List ℕ) → Distinct l → (m : Machine)
    → (fold (clean_buffer p) l m).process a ≡ roused (rouses p a (talk m) (m.process a) l) (m.process a)
unfolding fold some
third_fold p a [] d m = refl
third_fold p a (b ∷ l) d m =
    third_fold p a l d.1 (clean_buffer p b m)
    ∙ ap (λ (t : Bool). roused t ((clean_buffer p b m).process a))
    (some_same _ _ l (λ c i. ap (λ (t : Talk). asks p a t && words_wait ((clean_buffer p b m).process a) c) (clean_others p b c (λ e. d.0 (rw e at i)) m)))
    ∙ go (asks p a (talk m b) && words_wait (m.process a) b) ((clean_buffer p b m).process a) (row_step p b a m)
  where
    go : (t : Bool) (r : ℕ → ℕ) → r ≡ roused t (m.process a)
        → roused (rouses p a (talk m) r l) r ≡ roused (t || rouses p a (talk m) (m.process a) l) (m.process a)
    go true r e = rw e (ap (λ (t : Bool). roused t (woken_words (m.process a))) (woken_once p a (talk m) (m.process a) l))
    go false r e = rw e refl

-- ---- another process
halted_talks : (p : ℕ) (m : Machine) → talk (halted p m) ≡ talk m
halted_talks p m = either (λ (n : Machine). talk n ≡ talk m) (eqb (state m p) 0) (λ t. refl) (λ t. refl)

module _ (p a : ℕ) (m : Machine) where
  halted_elsewhere : (a ≡ p → ⊥) → (halted p m).process a ≡ m.process a
  halted_elsewhere n =
      either (λ (w : Machine). w.process a ≡ m.process a) (eqb (state m p) 0) (λ t. elsewhere m.process p 5 0 a n)
      (λ t. five_elsewhere (at₂ m.process p 15 0) p 0 0 a n ∙ elsewhere m.process p 15 0 a n)

  pub third_one : (a ≡ p → ⊥) → (cleaned p m).process a ≡ roused (rouses p a (talk m) (m.process a) (buffers m)) (m.process a)
  third_one n =
      third_fold p a (buffers m) (from_once 1 m.B) (halted p m)
      ∙ ap₂ (λ (s : ℕ → Talk) (r : ℕ → ℕ). roused (rouses p a s r (buffers m)) r) (halted_talks p m) (halted_elsewhere n)

-- ---- the process that is cleaned
-- a word that is v already
at_already : (r : ℕ → ℕ) (f v : ℕ) → r f ≡ v → at r f v ≡ r
at_already r f v e = fun_ext λ j. cases j f (λ z. yes_same j f v (r j) z ∙ sym (rw z e)) (λ z. no_same j f v (r j) z)

module _ {m : Machine} (L : Legal m) {p : ℕ} (i : Range m.P p) where
  -- a process that is stopped-words has no words-wait that could end
  already : state m p ≡ 0 → at (m.process p) 5 0 ≡ stopped_words (m.process p)
  already e =
      let r = m.process p in
      let l = L.process p i in
      let n : (k : ℕ) → (k ≡ 0 → ⊥) → state m p ≡ k → ⊥ = λ k z w. z (sym w ∙ e) in
      let e₁₅ = at_already r 15 0 (l.no_semaphore (n 5 (omega arith))) in
      let e₆ = at_already r 6 0 (l.no_delay (n 2 (omega arith)) (n 4 (omega arith))) in
      let e₇ = at_already r 7 0 (l.no_buffer (n 3 (omega arith))) in
      let e₈ = at_already r 8 0 (l.no_device (n 4 (omega arith))) in
      let e₄ = at_already r 4 0 e in
      sym (ap (λ (x : ℕ → ℕ). at (at (at (at (at x 6 0) 7 0) 8 0) 4 0) 5 0) e₁₅
      ∙ ap (λ (x : ℕ → ℕ). at (at (at (at x 7 0) 8 0) 4 0) 5 0) e₆
      ∙ ap (λ (x : ℕ → ℕ). at (at (at x 8 0) 4 0) 5 0) e₇
      ∙ ap (λ (x : ℕ → ℕ). at (at x 4 0) 5 0) e₈
      ∙ ap (λ (x : ℕ → ℕ). at x 5 0) e₄)

  halted_here : (halted p m).process p ≡ stopped_words (m.process p)
  halted_here =
      either (λ (w : Machine). w.process p ≡ stopped_words (m.process p)) (eqb (state m p) 0)
      (λ t. here m.process p 5 0 ∙ already (eqb-true (state m p) 0 t))
      (λ t. five_here (at₂ m.process p 15 0) p 0 0 ∙ ap (λ (r : ℕ → ℕ). at (at (at (at (at r 6 0) 7 0) 8 0) 4 0) 5 0) (here m.process p 15 0))

  pub own_one : (cleaned p m).process p ≡ stopped_words (m.process p)
  own_one =
      third_fold p p (buffers m) (from_once 1 m.B) (halted p m)
      ∙ ap (λ (t : Bool). roused t ((halted p m).process p))
      (some_none _ (buffers m) (λ b. ap (λ (t : Bool). t && words_wait ((halted p m).process p) b) (asks_no p p (talk (halted p m) b) (λ n. n))))
      ∙ halted_here

-- one that is woken-words first stops as it would have done
pub stopped_woken : (r : ℕ → ℕ) → stopped_words (woken_words r) ≡ stopped_words r
stopped_woken r = fun_ext λ f.
    same_else f 5 0 (λ n₅. same_else f 4 0 (λ n₄. same_else f 8 0 (λ n₈. same_else f 7 0 (λ n₇. same_else f 6 0 (λ n₆. same_else f 15 0 (λ _. simp decide))))))
  where
    same_else : (x y a : ℕ) {b c : ℕ} → ((x ≡ y → ⊥) → b ≡ c) → same x y a b ≡ same x y a c
    same_else x y a {b} {c} h = cases x y (λ e. yes_same x y a b e ∙ sym (yes_same x y a c e)) (λ n. ap (λ (z : ℕ). same x y a z) (h n))
