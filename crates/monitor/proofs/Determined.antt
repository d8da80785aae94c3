-- What the promises come to: they determine answer, table, room and walk; they keep a table sound; each refusal is given exactly when its row is the
-- first that
-- applies. Assumes nothing.
use mathlib.Core.Bool.{Bool, true, false, not, false≢true}
use mathlib.Core.List.{List, [], ◌∷◌}
use mathlib.Core.Path.{◌≡◌, refl, sym, ap, ◌∙◌}
use Prim.Native.Nat.{ℕ}
use native.Mathlib.Decide.{ℕ_discrete}
use native.Mathlib.Omega.{arith}
use lib.ListN.{length}
use Rattle.machine.specs.Machine.{Machine, Words}
use Rattle.machine.specs.Request.{request, last_call}
use Rattle.machine.specs.Refusal.{Row, ◌when◌, first, outside}
use Rattle.machine.specs.Step.{Answer as Reply}
use Rattle.machine.specs.Walk.{Walk}
use Rattle.machine.specs.Legal.{Legal}
use Rattle.machine.specs.Words.{Shows}
use Rattle.machine.specs.Sound.{Sound}
use Rattle.machine.specs.Layout.{entries, layout_refusal}
use Rattle.sound.proofs.CheckTold.{decided}
use Rattle.lists.proofs.Tells.{Tells}
use Rattle.laws.proofs.Bridge.{sound_shows}
use Rattle.laws.proofs.Decoded.{shows_sound}
use Rattle.laws.proofs.Unique.{unique}
use Rattle.laws.proofs.Step.{legal_step}
use Rattle.laws.proofs.Laid.{legal_laid, tells_layout, accepted_list}
use Rattle.monitor.specs.Promise.{Called, CalledWalked, LaidOut, SoundTold}
use Rattle.monitor.specs.RefusalTable.{refusal_number}
use Rattle.laws.proofs.Dispatch.{step_number}
use Rattle.monitor.proofs.RefusalTable.{numbered}

-- rows 13 and 1 are no zero
some_row : (t : Bool) → first ((13 when t) ∷ (1 when true) ∷ []) ≡ 0 → ⊥
unfolding first
some_row true e = omega arith
some_row false e = omega arith

-- behind row 1 no row counts
row_1 : (t : Bool) (l : List Row) → first ((13 when t) ∷ (1 when true) ∷ []) ≡ first ((13 when t) ∷ (1 when true) ∷ l)
unfolding first
row_1 true l = refl
row_1 false l = refl

-- on unsound words nothing changes
pub unsound_unchanged : {t u s v : List ℕ} {k a b : ℕ} {ws : Words} {r : Reply} → Called t u s v k a b ws r → (Sound t → ⊥) → (u ≡ t) × (v ≡ s)
unsound_unchanged {k} c n = c.unchanged (λ e. some_row (outside k last_call) (sym (ap (λ (x : Reply). x.number) (c.unsound n)) ∙ e))

module _ {t u s v : List ℕ} {k a b : ℕ} {ws : Words} {r : Reply} (c : Called t u s v k a b ws r) where
  -- any two results that the promise allows are equal
  pub called_determines : {u' v' : List ℕ} {r' : Reply} → Called t u' s v' k a b ws r' → (r ≡ r') × (u ≡ u') × (v ≡ v')
  called_determines {u'} {v'} {r'} d = go (decided t)
    where
      go : Dec (Sound t) → (r ≡ r') × (u ≡ u') × (v ≡ v')
      go (yes S) =
          let (m, w, L) = sound_shows S in
          let x = c.sound m w L in
          let y = d.sound m w L in
          (x.answer ∙ sym y.answer, unique x.words y.words, c.room m w L ∙ sym (d.room m w L))
      go (no n) =
          let x = unsound_unchanged c n in
          let y = unsound_unchanged d n in
          (c.unsound n ∙ sym (d.unsound n), x.0 ∙ sym y.0, x.1 ∙ sym y.1)

  -- a sound table stays sound
  pub called_sound : Sound t → Sound u
  called_sound S =
      let (m, w, L) = sound_shows S in
      shows_sound (c.sound m w L).words (legal_step L (request k a b ws (length s)))

  -- the number is that of the first row of the whole table that applies: on a sound table,
  on_sound : (m : Machine) → Shows t m → Legal m → r.number ≡ refusal_number false m k a (length s)
  on_sound m w L =
      ap (λ (x : Reply). x.number) (c.sound m w L).answer ∙ step_number m (request k a b ws (length s)) ∙ sym (numbered m a b ws (length s) k)

  -- and on any words at all: `sound` tells whether they are sound, and m is the machine that they show then
  pub called_number : (sound : Bool) → Tells sound (Sound t) → (m : Machine) → (Sound t → Shows t m × Legal m)
      → r.number ≡ refusal_number (not sound) m k a (length s)
  called_number true h m w = let (shows, L) = w (h.holds refl) in on_sound m shows L
  called_number false h m w =
      ap (λ (x : Reply). x.number) (c.unsound (λ S. false≢true (h.back S))) ∙ row_1 (outside k last_call) _

-- and of the call with its walk: that too
pub called_walked_determines : {t u s v u' v' : List ℕ} {k a b : ℕ} {ws : Words} {r r' : Reply} {w w' : Walk}
    → CalledWalked t u s v k a b ws r w → CalledWalked t u' s v' k a b ws r' w' → (r ≡ r') × (u ≡ u') × (v ≡ v') × (w ≡ w')
called_walked_determines {t} {w = w} {w' = w'} c d = let x = called_determines c.called d.called in (x.0, x.1, x.2, go (decided t))
  where
    go : Dec (Sound t) → w ≡ w'
    go (yes S) = let (m, h, L) = sound_shows S in c.sound m h L ∙ sym (d.sound m h L)
    go (no n) = c.unsound n ∙ sym (d.unsound n)

module _ {ws counters t u : List ℕ} {edition : ℕ} {r : Reply} (c : LaidOut ws edition counters t u r) where
  pub laid_out_determines : {u' : List ℕ} {r' : Reply} → LaidOut ws edition counters t u' r' → (r ≡ r') × (u ≡ u')
  laid_out_determines {u'} {r'} d = (c.answer ∙ sym d.answer, go (ℕ_discrete (layout_refusal ws edition counters (length t)) 0))
    where
      go : Dec (layout_refusal ws edition counters (length t) ≡ 0) → u ≡ u'
      go (yes e) = unique (c.words e) (d.words e)
      go (no n) = c.unchanged n ∙ sym (d.unchanged n)

  -- an accepted layout leaves a sound table
  pub laid_out_sound : layout_refusal ws edition counters (length t) ≡ 0 → Sound u
  laid_out_sound e =
      let h = accepted_list ws edition counters (length t) e in
      shows_sound (c.words e) (legal_laid _ edition counters h.0 (entries ws) ((tells_layout (entries ws)).holds h.1))

-- the check alone: two answers are equal, and 1 says that the words are sound
module _ {t : List ℕ} {r : ℕ} (c : SoundTold t r) where
  pub sound_told_determines : {r' : ℕ} → SoundTold t r' → r ≡ r'
  sound_told_determines {r'} d = go (decided t)
    where
      go : Dec (Sound t) → r ≡ r'
      go (yes S) = c.sound S ∙ sym (d.sound S)
      go (no n) = c.unsound n ∙ sym (d.unsound n)

  pub told_sound : r ≡ 1 → Sound t
  told_sound e = go (decided t)
    where
      go : Dec (Sound t) → Sound t
      go (yes S) = S
      go (no n) = absurd (let z = c.unsound n in omega arith)
