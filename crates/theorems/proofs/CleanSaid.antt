-- docs/MONITOR.md, 11: what a buffer's four words are after one clean, and that two processes may be cleaned in either order. Assumes nothing.
use Prim.Native.Nat.{ℕ}
use native.Mathlib.Omega.{arith}
use mathlib.Core.Bool.{Bool}
use mathlib.Core.Logic.{⊎_elim}
use mathlib.Core.Path.{◌≡◌, refl, sym, ap, ap₂, ◌∙◌}
use lib.Dec.{eqb}
use borrow.Author.Tests.{eq-eqb, ne_eqb}
use Rattle.machine.specs.Queue.{if, Range}
use Rattle.machine.specs.Machine.{Machine, state, owner, receiver, standing, Words, zeros, message, buffers}
use Rattle.machine.specs.Moves.{unlink, waiting, answer_with, withdrawn, clean_buffer}
use Rattle.machine.specs.Step.{halted, cleaned}
use Rattle.machine.specs.Log.{Talk, moved, freed}
use Rattle.laws.specs.Talk.{talk}
use Rattle.lists.proofs.Links.{decide, cases}
use Rattle.lists.proofs.Tests.{either}
use Rattle.lists.proofs.Numbers.{from_in, from_once}
use Rattle.theorems.proofs.Ages.{swept_each}
use Rattle.laws.proofs.Cleaned.{clean_others}
use Rattle.theorems.proofs.CleanTalk.{as_owner, as_receiver, clean_talk, by_standing, Lasts}
use Rattle.theorems.proofs.CleanTalk.{owner_lasts, receiver_lasts, of_owner, of_receiver, of_other}
use Rattle.theorems.proofs.Cleaning.{chosen, clean_here, cleaned_talks}
use Rattle.laws.proofs.Cleaned.{cleaned_size}

-- ---- of one conversation
-- the words w of a conversation of standing s, its owner cleaned; its receiver cleaned
abbrev owner_words : ℕ → Words → Words
owner_words s w = if (eqb s 1) zeros (if (eqb s 3) zeros (if (eqb s 2) w w))

abbrev receiver_words : ℕ → Words → Words
receiver_words s w = if (eqb s 1) withdrawn (if (eqb s 2) withdrawn (if (eqb s 4) zeros w))

abbrev clean_words : ℕ → Talk → Words → Words
clean_words p t w = if (eqb t.owner p) (owner_words t.standing w) (if (eqb t.receiver p) (receiver_words t.standing w) w)

module _ (p : ℕ) (t : Talk) (w : Words) where
  words_owner : t.owner ≡ p → clean_words p t w ≡ owner_words t.standing w
  words_owner e = rw (eq-eqb t.owner p e)

  words_receiver : (t.owner ≡ p → ⊥) → t.receiver ≡ p → clean_words p t w ≡ receiver_words t.standing w
  words_receiver n e = rw (ne_eqb t.owner p n, eq-eqb t.receiver p e)

  words_other : (t.owner ≡ p → ⊥) → (t.receiver ≡ p → ⊥) → clean_words p t w ≡ w
  words_other n k = rw (ne_eqb t.owner p n, ne_eqb t.receiver p k)

  words_freed : clean_words p (freed t) w ≡ w
  words_freed = either (λ (v : Words). v ≡ w) (eqb t.owner p) (λ _. refl) (λ _. either (λ (v : Words). v ≡ w) (eqb 0 p) (λ _. refl) (λ _. refl))

-- after another clean
module _ (p : ℕ) (t : Talk) (n : t.owner ≡ p → ⊥) {u : Talk} (k : Lasts t u) (w : Words) where
  meets : t.receiver ≡ p → clean_words p u w ≡ receiver_words u.standing w
  meets e = ⊎_elim (λ r. words_receiver p u w (λ z. n (sym k.own ∙ z)) (r ∙ e)) (λ r. rw r (words_freed p t w)) k.talks

  misses : (t.receiver ≡ p → ⊥) → clean_words p u w ≡ w
  misses e = ⊎_elim (λ r. words_other p u w (λ z. n (sym k.own ∙ z)) (λ z. e (sym r ∙ z))) (λ r. rw r (words_freed p t w)) k.talks

-- owner and receiver cleaned, in either order
roles : (t : Talk) (w : Words)
    → receiver_words (as_owner t).standing (owner_words t.standing w) ≡ owner_words (as_receiver t).standing (receiver_words t.standing w)
roles t w = go t.standing
  where
    go : (s : ℕ) → receiver_words (as_owner (moved s t)).standing (owner_words s w)
        ≡ owner_words (as_receiver (moved s t)).standing (receiver_words s w)
    go = by_standing _ refl refl refl refl (λ s n₁ n₂ n₃ n₄. simp (ne_eqb s 1 n₁, ne_eqb s 2 n₂, ne_eqb s 3 n₃, ne_eqb s 4 n₄))

-- p cleaned and then q
abbrev both_words : ℕ → ℕ → Talk → Words → Words
both_words p q t w = clean_words q (clean_talk p t) (clean_words p t w)

-- where it is known what p's clean does
cleaned_first : (p q : ℕ) (t : Talk) (w : Words) {u : Talk} {v : Words} → clean_talk p t ≡ u → clean_words p t w ≡ v → both_words p q t w ≡ clean_words q u v
cleaned_first p q t w e f = ap₂ (clean_words q) e f

module _ (p q : ℕ) (d : p ≡ q → ⊥) (t : Talk) (w : Words) where
  owner_first : t.owner ≡ p → both_words p q t w ≡ both_words q p t w
  owner_first e =
      let n : t.owner ≡ q → ⊥ = λ z. d (sym e ∙ z) in
      cleaned_first p q t w (of_owner p t e) (words_owner p t w e)
      ∙ cases t.receiver q
      (λ r. meets q t n (owner_lasts t) _ r ∙ roles t w ∙ sym (words_owner p (as_receiver t) _ ((receiver_lasts t).own ∙ e))
      ∙ sym (cleaned_first q p t w (of_receiver q t n r) (words_receiver q t w n r)))
      (λ k. misses q t n (owner_lasts t) _ k ∙ sym (words_owner p t w e) ∙ sym (cleaned_first q p t w (of_other q t n k) (words_other q t w n k)))

  receiver_first : (t.owner ≡ p → ⊥) → (t.owner ≡ q → ⊥) → t.receiver ≡ p → both_words p q t w ≡ both_words q p t w
  receiver_first n₁ n₂ e =
      let k : t.receiver ≡ q → ⊥ = λ z. d (sym e ∙ z) in
      cleaned_first p q t w (of_receiver p t n₁ e) (words_receiver p t w n₁ e)
      ∙ misses q t n₂ (receiver_lasts t) _ k ∙ sym (words_receiver p t w n₁ e) ∙ sym (cleaned_first q p t w (of_other q t n₂ k) (words_other q t w n₂ k))

clean_both_words : (p q : ℕ) → (p ≡ q → ⊥) → (t : Talk) (w : Words) → both_words p q t w ≡ both_words q p t w
clean_both_words p q d t w =
    let f : q ≡ p → ⊥ = λ e. d (sym e) in
    cases t.owner p (owner_first p q d t w)
    (λ n₁. cases t.owner q (λ e. sym (owner_first q p f t w e))
    (λ n₂. cases t.receiver p (receiver_first p q d t w n₁ n₂)
    (λ k₁. cases t.receiver q (λ e. sym (receiver_first q p f t w n₂ n₁ e))
    (λ k₂. cleaned_first p q t w (of_other p t n₁ k₁) (words_other p t w n₁ k₁) ∙ words_other q t w n₂ k₂
    ∙ sym (cleaned_first q p t w (of_other q t n₂ k₂) (words_other q t w n₂ k₂) ∙ words_other p t w n₁ k₁)))))

-- ---- of a machine's buffers
answered : (b : ℕ) (m : Machine) → message (answer_with b withdrawn m) b ≡ withdrawn
answered b m = either (λ (y : Machine). message y b ≡ withdrawn) (waiting b m) (λ t. simp decide) (λ t. simp decide)

words_here : (p b : ℕ) (m : Machine) → message (clean_buffer p b m) b ≡ clean_words p (talk m b) (message m b)
unfolding clean_buffer
words_here p b m =
    let f : Machine → Words = λ w. message w b in
    let s : ℕ → Bool = eqb (standing m b) in
    chosen f (eqb (owner m b) p)
    (chosen f (s 1) (simp decide) (chosen f (s 3) (simp decide) (chosen f (s 2) refl refl)))
    (chosen f (eqb (receiver m b) p)
    (chosen f (s 1) (answered b (unlink p b m)) (chosen f (s 2) (answered b m) (chosen f (s 4) (simp decide) refl))) refl)

module _ (p b k : ℕ) (n : k ≡ b → ⊥) (m : Machine) where
  abbrev Alike : Machine → Type 0
  Alike w = message w k ≡ message m k

  answer_others : (x : Machine) → Alike x → Alike (answer_with b withdrawn x)
  answer_others x e = either Alike (waiting b x) (λ t. simp decide e) (λ t. simp decide e)

  words_others : Alike (clean_buffer p b m)
  unfolding clean_buffer
  words_others =
      let s : ℕ → Bool = eqb (standing m b) in
      either Alike (eqb (owner m b) p)
      (λ _. either Alike (s 1) (λ _. simp decide)
      (λ _. either Alike (s 3) (λ _. simp decide)
      (λ _. either Alike (s 2) (λ _. refl) (λ _. refl))))
      (λ _. either Alike (eqb (receiver m b) p)
      (λ _. either Alike (s 1) (λ _. answer_others (unlink p b m) refl)
      (λ _. either Alike (s 2) (λ _. answer_others m refl)
      (λ _. either Alike (s 4) (λ _. simp decide) (λ _. refl))))
      (λ _. refl))

-- what a buffer says, and of which conversation
abbrev said : Machine → ℕ → Talk × Words
said m b = (talk m b, message m b)

-- an answer withdrawn, or freed, or what it was
pub said_one : (p : ℕ) (m : Machine) (k : ℕ) → Range m.B k → message (cleaned p m) k ≡ clean_words p (talk m k) (message m k)
said_one p m k i =
    let pair : Talk → Words → Talk × Words = λ t w. (t, w) in
    ap (λ (x : Talk × Words). x.1)
    (swept_each said (clean_buffer p) (λ x. (clean_talk p x.0, clean_words p x.0 x.1))
    (λ b n. ap₂ pair (clean_here p b n) (words_here p b n)) (λ c b n h. ap₂ pair (clean_others p b c h n) (words_others p b c h n))
    k (buffers m) (from_once 1 m.B) (from_in k 1 m.B i.0 (omega arith)) (halted p m)
    ∙ ap (λ (x : Talk × Words). (clean_talk p x.0, clean_words p x.0 x.1))
    (either (λ (n : Machine). said n k ≡ said m k) (eqb (state m p) 0) (λ t. refl) (λ t. refl)))

pub either_said : (m : Machine) (p q : ℕ) → (p ≡ q → ⊥) → (k : ℕ) → Range m.B k → message (cleaned q (cleaned p m)) k ≡ message (cleaned p (cleaned q m)) k
either_said m p q d k i =
    let both : (x y : ℕ) → message (cleaned y (cleaned x m)) k ≡ both_words x y (talk m k) (message m k)
    = λ x y. said_one y (cleaned x m) k (rw (cleaned_size x m).0 i) ∙ ap₂ (clean_words y) (cleaned_talks x m k i) (said_one x m k i) in
    both p q ∙ clean_both_words p q d (talk m k) (message m k) ∙ sym (both q p)
