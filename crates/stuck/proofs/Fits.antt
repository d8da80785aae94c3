-- What a sound table and a legal machine say of the waits: who waits for an answer waits for another process; and that the words of a sound
-- table can be read. Assumes nothing.
use mathlib.Core.Path.{◌≡◌, sym, ◌∙◌}
use mathlib.Core.List.{List}
use Prim.Native.Nat.{ℕ, ◌≤◌, ◌<◌}
use native.Mathlib.Omega.{arith}
use Rattle.machine.specs.Queue.{Range}
use Rattle.machine.specs.Machine.{Machine}
use Rattle.machine.specs.Legal.{Awaits, LegalBuffer, Legal}
use Rattle.machine.specs.Sound.{P_of, B_of, process_at, buffer_at, Sound}
use Rattle.laws.proofs.Decoded.{shows_agree}
use Rattle.table.specs.Promise.{Can, Gives}
use Rattle.table.specs.Fits.{ProcessWord, BufferWord}
use Rattle.table.proofs.LegalFits.{sound_legal}
use Rattle.stuck.specs.Waiting.{Waiting, of_table, of_machine}

pub record Fits (w : Waiting) (P : ℕ) : Type 0 where
  pub some : 1 ≤ P
  pub P32 : P ≤ 32
  pub among : (p : ℕ) → Range P p → w.state p ≡ 3 → Range P (w.holder p)
  pub apart : (p : ℕ) → Range P p → w.state p ≡ 3 → w.holder p ≡ p → ⊥

-- a buffer that p awaits has a receiver, which isn't p
other : {P B b o r s a x y z u p : ℕ} → Awaits B b o s p → LegalBuffer P o r s a x y z u → Range P r × (r ≡ p → ⊥)
other a l =
    let t = l.taken (λ e. omega (arith, e, a.queued_or_held)) in
    (t.0, λ e. t.1 (e ∙ sym a.own))

pub sound_fits : {t : List ℕ} → Sound t → Fits (of_table t) (P_of t)
sound_fits S =
    record {
      some = S.fixed.some;
      P32 = S.fixed.P32;
      among = λ p r e. (let a = S.awaits p r e in (other a (S.buffer _ a.is)).0);
      apart = λ p r e. (let a = S.awaits p r e in (other a (S.buffer _ a.is)).1);
    }

pub legal_fits : {m : Machine} → Legal m → Fits (of_machine m) m.P
legal_fits L =
    record {
      some = L.fixed.some;
      P32 = L.fixed.P32;
      among = λ p r e. (let a = L.awaits p r e in (other a (L.buffer _ a.is)).0);
      apart = λ p r e. (let a = L.awaits p r e in (other a (L.buffer _ a.is)).1);
    }

-- the buffer that a process in state 3 waits for
pub awaits_buffer : {t : List ℕ} → Sound t → (p : ℕ) → Range (P_of t) p → process_at t p 4 ≡ 3 → Range (B_of t) (process_at t p 7)
awaits_buffer S p r e = (S.awaits p r e).is

-- ---- the words of a sound table
module _ {t : List ℕ} (S : Sound t) where
  pub can_read_process : {p f : ℕ} → Range (P_of t) p → 4 ≤ f → f < 16 → Can t (ProcessWord p f)
  can_read_process r l h =
      let k = sound_legal S in
      record { m = k.m; shows = k.shows; may = (rw (← (shows_agree k.shows).P) r, l, h) }

  pub read_process : {p f x : ℕ} → Range (P_of t) p → 4 ≤ f → f < 16 → Gives t (ProcessWord p f) (λ m. m.process p f) x → x ≡ process_at t p f
  read_process {p} {f} r l h g =
      let k = sound_legal S in
      let a = shows_agree k.shows in
      let i : Range k.m.P p = rw (← a.P) r in
      g k.m k.shows (i, l, h) ∙ sym (a.process p f i l h)

  pub can_read_buffer : {b g : ℕ} → Range (B_of t) b → 2 ≤ g → g < 10 → Can t (BufferWord b g)
  can_read_buffer r l h =
      let k = sound_legal S in
      record { m = k.m; shows = k.shows; may = (rw (← (shows_agree k.shows).B) r, l, h) }

  pub read_buffer : {b g x : ℕ} → Range (B_of t) b → 2 ≤ g → g < 10 → Gives t (BufferWord b g) (λ m. m.buffer b g) x → x ≡ buffer_at t b g
  read_buffer {b} {g} r l h f =
      let k = sound_legal S in
      let a = shows_agree k.shows in
      let i : Range k.m.B b = rw (← a.B) r in
      f k.m k.shows (i, l, h) ∙ sym (a.buffer b g i l h)
