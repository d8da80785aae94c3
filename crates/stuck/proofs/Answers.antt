-- What a call for one process and a call for all rings answer, by cases, and what they do to the room. Assumes nothing.
use mathlib.Core.Path.{◌≡◌, refl, ap, ◌∙◌}
use mathlib.Core.Bool.{true, false}
use mathlib.Core.List.{List}
use Prim.Native.Nat.{ℕ, ◌-◌, ◌≤◌, ◌<◌}
use native.Mathlib.Omega.{arith}
use lib.ListN.{length}
use lib.Seq.{sets}
use borrow.Author.Tests.{eq-eqb, ne_eqb, le-leb, lt-leb}
use Rattle.machine.specs.Refusal.{outside}
use Rattle.machine.specs.Sound.{P_of, Sound}
use Rattle.stuck.specs.declared.chain.Chain.{Chain}
use Rattle.stuck.specs.declared.ChainReport.{ChainReport}
use Rattle.stuck.specs.declared.RingReport.{RingReport}
use Rattle.stuck.specs.declared.rounds.Extent.{Extent}
use Rattle.stuck.specs.Waiting.{Waiting, of_table}
use Rattle.stuck.specs.Chain.{no_marks, chain, chain_length, ring, along, refused, answer, listed, Reports}
use Rattle.stuck.specs.Rings.{words_to, refused_rings, answer_rings, listed_rings, Measured, MayFill, ReportsRings}
use Rattle.stuck.proofs.Steps.{follow_left}

module _ (w : Waiting) (P a n : ℕ) where
  pub answer_outside : outside a P ≡ true → refused 4 ≡ answer w P a n
  unfolding answer
  answer_outside e = rw e

  pub answer_awake : outside a P ≡ false → (w.state a ≡ 3 → ⊥) → refused 7 ≡ answer w P a n
  unfolding answer
  answer_awake e h = rw (e, ne_eqb (w.state a) 3 h)

  pub answer_room : outside a P ≡ false → w.state a ≡ 3 → n < chain_length w P a → refused 10 ≡ answer w P a n
  unfolding answer
  answer_room e h l = rw (e, eq-eqb (w.state a) 3 h, lt-leb (chain_length w P a) n l)

  pub answer_done : outside a P ≡ false → w.state a ≡ 3 → chain_length w P a ≤ n
      → ◌≡◌ {A = ChainReport} (record { number = 0; count = chain_length w P a; ring = ring w P a }) (answer w P a n)
  unfolding answer
  answer_done e h l = rw (e, eq-eqb (w.state a) 3 h, le-leb (chain_length w P a) n l)

-- a refusal lists nothing
refused_lists : (w : Waiting) (P : ℕ) (s : List ℕ) (a n : ℕ) → refused n ≡ answer w P a (length s) → s ≡ listed w P a s
unfolding listed along
refused_lists w P s a n e = ap (λ (r : ChainReport). sets s 0 (along w r.count a)) e

pub reports_refused : {t s : List ℕ} {a n : ℕ} {r : ChainReport} → Sound t → r ≡ refused n → refused n ≡ answer (of_table t) (P_of t) a (length s)
    → Reports t s s a r
reports_refused {t} {s} {a} {n} S e f = record { unsound = λ u. absurd (u S); sound = λ _. (e ∙ f, refused_lists (of_table t) (P_of t) s a n f) }

pub reports_unsound : {t s : List ℕ} {a : ℕ} {r : ChainReport} → (Sound t → ⊥) → r ≡ refused 1 → Reports t s s a r
reports_unsound u e = record { unsound = λ _. (e, refl); sound = λ S. absurd (u S) }

reports_done : {t s v : List ℕ} {a : ℕ} {r : ChainReport} → Sound t → r ≡ answer (of_table t) (P_of t) a (length s)
    → v ≡ sets s 0 (along (of_table t) r.count a) → Reports t s v a r
unfolding listed
reports_done {t} {s} {v} {a} {r} S e f =
    record { unsound = λ u. absurd (u S); sound = λ _. (e, f ∙ ap (λ (x : ChainReport). sets s 0 (along (of_table t) x.count a)) e) }

-- the same of the chain as it came back
module _ {t : List ℕ} (a : ℕ) {x : Chain} (S : Sound t) (e : x ≡ chain (of_table t) (P_of t) a) (i : outside a (P_of t) ≡ false)
    (g : (of_table t).state a ≡ 3) where
  counted : P_of t - x.left ≡ chain_length (of_table t) (P_of t) a
  counted = ap (λ (y : Chain). P_of t - y.left) e

  pub chain_left : x.left ≤ P_of t
  chain_left = rw e (follow_left (of_table t) no_marks (P_of t) a)

  pub reports_short : {s : List ℕ} {r : ChainReport} → length s < P_of t - x.left → r ≡ refused 10 → Reports t s s a r
  reports_short {s} h f = reports_refused S f (answer_room (of_table t) (P_of t) a (length s) i g (omega (arith, counted)))

  pub reports_chain : {s v l : List ℕ} → P_of t - x.left ≤ length s → v ≡ sets s 0 l → l ≡ along (of_table t) (P_of t - x.left) a
      → Reports t s v a (record { number = 0; count = P_of t - x.left; ring = x.ring })
  reports_chain {s} {v} h f k =
      reports_done S
      (ap (λ (y : Chain). record { number = 0; count = P_of t - y.left; ring = y.ring }) e
      ∙ answer_done (of_table t) (P_of t) a (length s) i g (omega (arith, counted)))
      (f ∙ ap (sets s 0) k)

-- ---- the rings
pub rings_unsound : {t s : List ℕ} {r : RingReport} → (Sound t → ⊥) → r ≡ refused_rings 1 → ReportsRings t s s r
rings_unsound u e = record { unsound = λ _. (e, refl); sound = λ S. absurd (u S) }

module _ {t : List ℕ} (S : Sound t) {x : Extent} {z : List ℕ} (e : Measured (of_table t) (P_of t) z x) where
  abbrev all_words : List ℕ
  all_words = words_to (of_table t) (P_of t) (P_of t)

  pub rings_short : {s : List ℕ} {r : RingReport} → length s < x.words → r ≡ refused_rings 10 → ReportsRings t s s r
  unfolding answer_rings listed_rings
  rings_short {s} h f =
      let k = lt-leb (length all_words) (length s) (omega (arith, e.words)) in
      record { unsound = λ u. absurd (u S); sound = λ _. (rw k f, rw k) }

  pub rings_done : {s v : List ℕ} → x.words ≤ length s → v ≡ sets s 0 (words_to (of_table t) (P_of t) (P_of t))
      → ReportsRings t s v (record { number = 0; rings = x.rings; words = x.words })
  unfolding answer_rings listed_rings
  rings_done {s} h f =
      let k = le-leb (length all_words) (length s) (omega (arith, e.words)) in
      record { unsound = λ u. absurd (u S); sound = λ _. (rw k (rw (e.rings, e.words)), rw k f) }

  -- and the sizes are there
  pub rings_may : {n : ℕ} → x.words ≤ n → MayFill (of_table t) (P_of t) z x.words n
  rings_may h = record { sizes = e.sizes; all = e.words; fits = h }
