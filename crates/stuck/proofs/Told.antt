-- What the promise of a call for one process comes to: it determines answer and room; an accepted call lists who is stuck behind whom; a refused one
-- leaves the room. Assumes nothing.
use mathlib.Core.Path.{◌≡◌, refl, sym, ap, subst, ◌∙◌}
use mathlib.Core.Bool.{not}
use mathlib.Core.List.{List, ◌++◌}
use Prim.Native.Nat.{ℕ, ◌+◌, ◌≤◌}
use native.Mathlib.Omega.{arith}
use lib.ListN.{length, drop}
use lib.Seq.{sets, sets-eq}
use lib.Dec.{eqb, leb}
use Rattle.machine.specs.Queue.{Range}
use Rattle.machine.specs.Refusal.{outside}
use Rattle.machine.specs.Sound.{P_of, Sound}
use Rattle.lists.proofs.Tests.{either, outside_false}
use Rattle.sound.proofs.CheckTold.{decided}
use Rattle.stuck.specs.declared.ChainReport.{ChainReport}
use Rattle.stuck.specs.Waiting.{Waiting, of_table, TellsWho}
use Rattle.stuck.specs.Chain.{chain_length, ring, along, refused, answer, listed, Reports}
use Rattle.stuck.proofs.Fits.{sound_fits}
use Rattle.stuck.proofs.Steps.{along_length}
use Rattle.stuck.proofs.Visits.{tells_who}
use Rattle.stuck.proofs.Answers.{answer_done}

-- any two results that the promise allows are equal
pub reports_one : {t s v v' : List ℕ} {a : ℕ} {r r' : ChainReport} → Reports t s v a r → Reports t s v' a r' → (r ≡ r') × (v ≡ v')
reports_one {t} {s} {v} {v'} {a} {r} {r'} x y = go (decided t)
  where
    go : Dec (Sound t) → (r ≡ r') × (v ≡ v')
    go (yes S) = ((x.sound S).0 ∙ sym (y.sound S).0, (x.sound S).1 ∙ sym (y.sound S).1)
    go (no n) = ((x.unsound n).0 ∙ sym (y.unsound n).0, (x.unsound n).1 ∙ sym (y.unsound n).1)

-- ---- refused: the room is unchanged, count 0, no ring
lists_nothing : (w : Waiting) (s : List ℕ) (a n : ℕ) → n ≡ 0 → sets s 0 (along w n a) ≡ s
unfolding along
lists_nothing w s a n e = rw e

listed_nothing : (w : Waiting) (P : ℕ) (s : List ℕ) (a : ℕ) → (answer w P a (length s)).count ≡ 0 → listed w P a s ≡ s
unfolding listed
listed_nothing w P s a e = lists_nothing w s a _ e

answer_refused : (w : Waiting) (P a n : ℕ) → ((answer w P a n).number ≡ 0 → ⊥) → answer w P a n ≡ refused (answer w P a n).number
unfolding answer
answer_refused w P a n =
    either C (outside a P) (λ _ _. refl)
    (λ _. either C (not (eqb (w.state a) 3)) (λ _ _. refl) (λ _. either C (leb (chain_length w P a) n) (λ _ h. absurd (h refl)) (λ _ _. refl)))
  where
    C : ChainReport → Type 0
    C r = (r.number ≡ 0 → ⊥) → r ≡ refused r.number

pub reports_refuses : {t s v : List ℕ} {a : ℕ} {r : ChainReport} → Reports t s v a r → (r.number ≡ 0 → ⊥) → (r ≡ refused r.number) × (v ≡ s)
reports_refuses {t} {s} {v} {a} {r} x h = go (decided t)
  where
    go : Dec (Sound t) → (r ≡ refused r.number) × (v ≡ s)
    go (yes S) =
        let e = (x.sound S).0 in
        let f = answer_refused (of_table t) (P_of t) a (length s) (λ z. h (ap (λ (y : ChainReport). y.number) e ∙ z)) in
        (rw e f, (x.sound S).1 ∙ listed_nothing (of_table t) (P_of t) s a (ap (λ (y : ChainReport). y.count) f))
    go (no n) = let e = x.unsound n in (rw e.0 refl, e.1)

-- ---- accepted
pub record Accepted (t s v : List ℕ) (a : ℕ) (r : ChainReport) (l : List ℕ) : Type 0 where
  pub number : r.number ≡ 0
  pub count : r.count ≡ length l
  pub room : v ≡ l ++ drop (length l) s
  pub who : TellsWho (of_table t) (P_of t) a l r.ring

pub reports_accepts : {t s v : List ℕ} {a : ℕ} {r : ChainReport} → Reports t s v a r → Sound t → Range (P_of t) a → (of_table t).state a ≡ 3
    → chain_length (of_table t) (P_of t) a ≤ length s → Accepted t s v a r (along (of_table t) (chain_length (of_table t) (P_of t) a) a)
unfolding listed
reports_accepts {t} {s} {v} {a} {r} x S i g h =
    let w = of_table t in
    let n = chain_length w (P_of t) a in
    let e : r ≡ record { number = 0; count = n; ring = ring w (P_of t) a } = (x.sound S).0
    ∙ sym (answer_done w (P_of t) a (length s) (outside_false (P_of t) a i) g h) in
    let l = along_length w n a in
    let z : 0 + length (along w n a) ≡ length (along w n a) = omega arith in
    record {
      number = ap (λ (y : ChainReport). y.number) e;
      count = ap (λ (y : ChainReport). y.count) e ∙ sym l;
      room =
          (x.sound S).1 ∙ ap (λ (y : ChainReport). sets s 0 (along w y.count a)) (sym (x.sound S).0 ∙ e)
          ∙ sets-eq (along w n a) s 0 (omega (arith, l)) ∙ ap (λ (k : ℕ). along w n a ++ drop k s) z;
      who = subst (TellsWho w (P_of t) a (along w n a)) (sym (ap (λ (y : ChainReport). y.ring) e)) (tells_who (sound_fits S) a i);
    }
