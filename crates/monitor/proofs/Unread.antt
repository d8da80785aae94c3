-- Words beyond the used length are not read: two tables that agree up to it get the same verdict, answer, room and used words. Assumes nothing.
use mathlib.Core.List.{List}
use mathlib.Core.Path.{◌≡◌, refl, sym, ap, ◌∙◌}
use mathlib.Core.Logic.{◌↔◌}
use Prim.Native.Nat.{ℕ}
use native.Mathlib.Omega.{arith}
use lib.ListN.{length, drop}
use Rattle.machine.specs.Machine.{Machine, Words, semaphores}
use Rattle.machine.specs.Request.{request}
use Rattle.machine.specs.Step.{Answer as Reply}
use Rattle.machine.specs.Words.{Place, place, Shows}
use Rattle.machine.specs.Sound.{P_of, B_of, S_of, Sound}
use Rattle.sound.proofs.CheckTold.{decided}
use Rattle.laws.proofs.Places.{below, place_stands}
use Rattle.laws.proofs.Bridge.{sound_shows}
use Rattle.laws.proofs.Decoded.{shows_sound, shows_agree}
use Rattle.laws.proofs.Beyond.{with_beyond, legal_beyond, word_beyond, step_beyond}
use Rattle.answers.specs.Promise.{with_listing}
use Rattle.monitor.specs.Promise.{Called}
use Rattle.monitor.specs.Used.{used, SameUsed}
use Rattle.monitor.proofs.Determined.{unsound_unchanged}

-- the other way round
same_used_sym : {t t' : List ℕ} → SameUsed t t' → SameUsed t' t
same_used_sym {t} {t'} h =
    let P : P_of t' ≡ P_of t = sym (h.same 0 (omega arith)) in
    let B : B_of t' ≡ B_of t = sym (h.same 1 (omega arith)) in
    let S : S_of t' ≡ S_of t = sym (h.same 5 (omega arith)) in
    record { long = rw (P, B, S) h.long'; long' = rw (P, B, S) h.long; same = λ i l. sym (h.same i (rw (P, B, S) at l)) }

module _ {t t' : List ℕ} (h : SameUsed t t') where
  -- t' shows the machine that t shows, over the words that t' has beyond
  pub other_shows : {m : Machine} → Shows t m → Shows t' (with_beyond (drop (used t) t') m)
  other_shows {m} w =
      let a = shows_agree w in
      let P : P_of t ≡ m.P = a.P in
      let B : B_of t ≡ m.B = a.B in
      let S : S_of t ≡ semaphores m = a.header.1 in
      record {
        table = record {
          long = rw (P, B, S) at h.long';
          at = λ l o. (let i = below m.P m.B (semaphores m) l o in
              sym (h.same _ (rw (P, B, S) i)) ∙ w.table.at l o ∙ sym (word_beyond (drop (used t) t') m l));
          beyond = rw (P, B, S) refl;
        };
      }

  unread : Sound t → Sound t'
  unread S = let (m, w, L) = sound_shows S in shows_sound (other_shows w) (legal_beyond _ L)

-- what shows one machine over different words beyond is the same up to them
shows_same : {u u' r : List ℕ} {n : Machine} → Shows u n → Shows u' (with_beyond r n) → SameUsed u u'
shows_same {u} {u'} {r} {n} x y =
    let a = shows_agree x in
    let P : P_of u ≡ n.P = a.P in
    let B : B_of u ≡ n.B = a.B in
    let S : S_of u ≡ semaphores n = a.header.1 in
    record {
      long = rw (P, B, S) x.table.long;
      long' = rw (P, B, S) y.table.long;
      same = λ i l. (let k = place_stands n.P n.B (semaphores n) i (rw (P, B, S) at l) in
          let o : Place = place n.P n.B i in
          rw (← k.1) (x.table.at o k.0 ∙ sym (word_beyond r n o) ∙ sym (y.table.at o k.0)));
    }

module _ {t t' : List ℕ} (h : SameUsed t t') where
  -- the verdict on a table doesn't hang on them
  pub sound_unread : Sound t ↔ Sound t'
  sound_unread = (unread h, unread (same_used_sym h))

  -- nor do answer, room and used words of any call
  pub called_unread : {u u' s v v' : List ℕ} {k a b : ℕ} {ws : Words} {r r' : Reply} → Called t u s v k a b ws r → Called t' u' s v' k a b ws r'
      → (r ≡ r') × (v ≡ v') × SameUsed u u'
  called_unread {u} {u'} {s} {v} {v'} {k} {a} {b} {ws} {r} {r'} c d = go (decided t)
    where
      go : Dec (Sound t) → (r ≡ r') × (v ≡ v') × SameUsed u u'
      go (yes S) =
          let (m, w, L) = sound_shows S in
          let R = drop (used t) t' in
          let q = request k a b ws (length s) in
          let x = c.sound m w L in
          let y = d.sound (with_beyond R m) (other_shows h w) (legal_beyond R L) in
          let e = step_beyond R m q in
          let room = d.room (with_beyond R m) (other_shows h w) (legal_beyond R L) in (
            x.answer ∙ sym e.answer ∙ sym y.answer,
            c.room m w L ∙ ap (λ (l : List ℕ). with_listing l s) (sym e.listing) ∙ sym room,
            shows_same x.words (rw e.machine.is at y.words),
          )
      go (no n) =
          let n' : Sound t' → ⊥ = λ S. n (sound_unread.1 S) in
          let x = unsound_unchanged c n in
          let y = unsound_unchanged d n' in
          (c.unsound n ∙ sym (d.unsound n'), x.1 ∙ sym y.1, rw (x.0, y.0) h)
