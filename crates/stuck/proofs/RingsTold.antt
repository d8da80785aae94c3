-- What the promise of a call for all rings comes to: it determines answer and room; an accepted call lists exactly the processes that wait for
-- themselves; a refused one leaves the room, and none is refused that has room enough. Assumes nothing.
use mathlib.Core.Path.{◌≡◌, refl, sym, ap, ◌∙◌}
use mathlib.Core.Bool.{Bool, true, false}
use mathlib.Core.List.{List, ◌++◌}
use Prim.Native.Nat.{ℕ, ◌+◌, ◌≤◌}
use native.Mathlib.Omega.{arith}
use lib.ListN.{length, drop}
use lib.Seq.{sets-eq}
use lib.Dec.{leb}
use borrow.Author.Tests.{le-leb}
use Rattle.machine.specs.Queue.{if}
use Rattle.machine.specs.Sound.{P_of, Sound}
use Rattle.sound.proofs.CheckTold.{decided}
use Rattle.stuck.specs.declared.RingReport.{RingReport}
use Rattle.stuck.specs.Waiting.{Waiting, of_table, TellsRings}
use Rattle.stuck.specs.Rings.{leaders, ring_of, joined, words_to, refused_rings, answer_rings, listed_rings, ReportsRings}
use Rattle.stuck.proofs.Fits.{sound_fits}
use Rattle.stuck.proofs.Station.{tells_rings, words_enough}

-- any two results that the promise allows are equal
pub rings_one : {t s v v' : List ℕ} {r r' : RingReport} → ReportsRings t s v r → ReportsRings t s v' r' → (r ≡ r') × (v ≡ v')
rings_one {t} {s} {v} {v'} {r} {r'} x y = go (decided t)
  where
    go : Dec (Sound t) → (r ≡ r') × (v ≡ v')
    go (yes S) = ((x.sound S).0 ∙ sym (y.sound S).0, (x.sound S).1 ∙ sym (y.sound S).1)
    go (no n) = ((x.unsound n).0 ∙ sym (y.unsound n).0, (x.unsound n).1 ∙ sym (y.unsound n).1)

-- refused: the room is unchanged, no ring, no word
chosen : (b : Bool) (x : RingReport) (v s : List ℕ) → x.number ≡ 0 → ((if b x (refused_rings 10)).number ≡ 0 → ⊥)
    → (if b x (refused_rings 10) ≡ refused_rings (if b x (refused_rings 10)).number) × (if b v s ≡ s)
chosen true x v s e h = absurd (h e)
chosen false x v s e h = (refl, refl)

rings_refused : (w : Waiting) (P : ℕ) (s : List ℕ) → ((answer_rings w P (length s)).number ≡ 0 → ⊥)
    → (answer_rings w P (length s) ≡ refused_rings (answer_rings w P (length s)).number) × (listed_rings w P s ≡ s)
unfolding answer_rings listed_rings
rings_refused w P s = chosen (leb (length (words_to w P P)) (length s)) _ _ s refl

pub rings_refuses : {t s v : List ℕ} {r : RingReport} → ReportsRings t s v r → (r.number ≡ 0 → ⊥) → (r ≡ refused_rings r.number) × (v ≡ s)
rings_refuses {t} {s} {v} {r} x h = go (decided t)
  where
    go : Dec (Sound t) → (r ≡ refused_rings r.number) × (v ≡ s)
    go (yes S) =
        let e = (x.sound S).0 in
        let f = rings_refused (of_table t) (P_of t) s (λ z. h (ap (λ (y : RingReport). y.number) e ∙ z)) in
        (rw e f.0, (x.sound S).1 ∙ f.1)
    go (no n) = let e = x.unsound n in (rw e.0 refl, e.1)

-- accepted: the rings of `lowest`, whose members are l
pub record AcceptedRings (t s v : List ℕ) (r : RingReport) (lowest l : List ℕ) : Type 0 where
  pub number : r.number ≡ 0
  pub rings : r.rings ≡ length lowest
  pub words : r.words ≡ length (words_to (of_table t) (P_of t) (P_of t))
  pub room : v ≡ words_to (of_table t) (P_of t) (P_of t) ++ drop r.words s
  pub who : TellsRings (of_table t) (P_of t) lowest (ring_of (of_table t) (P_of t)) l

pub rings_accepts : {t s v : List ℕ} {r : RingReport} → ReportsRings t s v r → Sound t → length (words_to (of_table t) (P_of t) (P_of t)) ≤ length s
    → AcceptedRings t s v r (leaders (of_table t) (P_of t) (P_of t)) (joined (ring_of (of_table t) (P_of t)) (leaders (of_table t) (P_of t) (P_of t)))
unfolding answer_rings listed_rings
rings_accepts {t} {s} {v} {r} x S h =
    let w = of_table t in
    let l = words_to w (P_of t) (P_of t) in
    let k = le-leb (length l) (length s) h in
    let e : r ≡ record { number = 0; rings = length (leaders w (P_of t) (P_of t)); words = length l } = rw k at (x.sound S).0 in
    let z : 0 + length l ≡ length l = omega arith in
    record {
      number = ap (λ (y : RingReport). y.number) e;
      rings = ap (λ (y : RingReport). y.rings) e;
      words = ap (λ (y : RingReport). y.words) e;
      room = (rw k at (x.sound S).1) ∙ sets-eq l s 0 (omega arith) ∙ ap (λ (j : ℕ). l ++ drop j s) (z ∙ sym (ap (λ (y : RingReport). y.words) e));
      who = tells_rings (sound_fits S);
    }

-- 48 words of room are always enough
pub rings_fit : {t : List ℕ} → Sound t → length (words_to (of_table t) (P_of t) (P_of t)) ≤ 48
rings_fit {t} S = omega (arith, words_enough (sound_fits S), S.fixed.P32)
