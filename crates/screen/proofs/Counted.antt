-- What is read off the words is the record of the process in the machine that they show; and a plan carried out is what the entry promises. Assumes nothing.
use mathlib.Core.Path.{◌≡◌, refl, sym, ap, ap₂, ◌∙◌}
use mathlib.Core.Bool.{Bool, true, false}
use mathlib.Core.List.{List, [], ◌∷◌}
use Prim.Native.Nat.{ℕ, suc, ◌+◌, ◌-◌, ◌≤◌, ◌<◌}
use native.Mathlib.Nat.{zero-add}
use native.Mathlib.Omega.{arith}
use borrow.Author.Tests.{eq-eqb, ne_eqb}
use lib.ListN.{length}
use lib.Dec.{ltb}
use Rattle.machine.specs.Queue.{if, Range, from, keep}
use Rattle.machine.specs.Machine.{Machine, owner, owns, buffers, given}
use Rattle.machine.specs.Sound.{process_at}
use Rattle.machine.specs.Legal.{Legal}
use Rattle.machine.specs.Words.{Shows}
use Rattle.machine.specs.Refusal.{◌when◌, first}
use Rattle.lists.proofs.Links.{cases}
use Rattle.lists.proofs.Numbers.{keep_same, none_kept, count_split}
use Rattle.laws.proofs.Own.{given_step, given_le, owns_from, owns_only}
use Rattle.laws.proofs.Decoded.{shows_agree, shows_sound, event_linked}
use Rattle.screen.specs.declared.Summary.{Summary}
use Rattle.machine.specs.Exchange.{asked}
use Rattle.machine.specs.declared.refusal.Refusal.{Refusal}
use Rattle.machine.specs.declared.refusal.Refusal.TheVariants.{TableNotSound}
use Rattle.std.proofs.Common.{Result, Err}
use Rattle.screen.specs.Screen.{is_open, summary, filled, Screens}
use Rattle.screen.specs.Reading.{queued, is_taken, taken, summary_at, count_of, plan, Planned}
use Rattle.screen.proofs.Filling.{filled_same, none_yet}
use Rattle.screen.proofs.Steps.{queue_read}

-- ---- a count over a run
-- where none outside the n after the first lo passes, those n tell how many do
count_within : (f : ℕ → Bool) (lo n s : ℕ) → ((k : ℕ) → 1 ≤ k → k ≤ lo → f k ≡ false) → ((k : ℕ) → lo + n < k → k ≤ lo + (n + s) → f k ≡ false)
    → length (keep f (from 1 (lo + (n + s)))) ≡ length (keep f (from (suc lo) n))
count_within f lo n s below above =
    let a = rw zero-add at (count_split f 0 lo (n + s)) in
    let b = count_split f lo n s in
    let c = none_kept f 1 lo (λ k l u. below k l (omega arith)) in
    let d = none_kept f (suc (lo + n)) s (λ k l u. above k l (omega arith)) in
    omega arith

-- ---- the record of a process
module _ {t : List ℕ} {m : Machine} (w : Shows t m) (L : Legal m) (p : ℕ) (r : Range m.P p) where
  process_is : (f : ℕ) → 4 ≤ f → f < 16 → process_at t p f ≡ m.process p f
  process_is f l u = (shows_agree w).process p f r l u

  queue_is : queued t p ≡ length (m.events p)
  queue_is =
      let e = L.events p r in
      (queue_read t p (process_at t p 3) (m.events p) (event_linked w L p r) e.once (λ b i. rw (shows_agree w).B (e.only b i).0)).0

  -- no buffer outside p's run is p's
  others : (b : ℕ) → Range m.B b → ((m.process p 10 ≤ b) × (b < m.process p 10 + owns m p) → ⊥) → is_open m p b ≡ false
  others b i out = cases (owner m b) p (λ e. absurd (out (owns_only L.fixed p b r i e))) (λ n. rw (ne_eqb (owner m b) p n))

  -- and each in it is
  within : (b : ℕ) → m.process p 10 ≤ b → b < m.process p 10 + owns m p → is_taken t b ≡ is_open m p b
  within b l u =
      let e : m.process p 10 + (b - m.process p 10) ≡ b = omega arith in
      let o = rw e at (owns_from L.fixed p (b - m.process p 10) r (omega arith)) in
      rw ((shows_agree w).buffer b 4 o.0 (omega arith) (omega arith), eq-eqb (owner m b) p o.1)

  no_run : owns m p ≡ 0 → length (keep (is_taken t) (from (m.process p 10) (owns m p))) ≡ length (keep (is_open m p) (buffers m))
  unfolding keep from
  no_run z = rw z (sym (none_kept (is_open m p) 1 m.B (λ b l u. others b (omega arith) (λ h. omega arith))))

  run : (owns m p ≡ 0 → ⊥) → length (keep (is_taken t) (from (m.process p 10) (owns m p))) ≡ length (keep (is_open m p) (buffers m))
  run n =
      let F = L.fixed in
      let lo : ℕ = given (owns m) (p - 1) in
      let s : ℕ = m.B - (lo + owns m p) in
      let f : m.process p 10 ≡ suc lo = F.follow p r n in
      let e : lo + (owns m p + s) ≡ m.B = omega (arith, F.all, given_step (owns m) p r.0, given_le (owns m) p m.P r.1) in
      ap length (keep_same (is_taken t) (is_open m p) (m.process p 10) (owns m p) within)
      ∙ rw f (sym (rw e at (count_within (is_open m p) lo (owns m p) s
      (λ b l u. others b (omega arith) (λ h. omega arith))
      (λ b l u. others b (omega arith) (λ h. omega arith)))))

  pub summary_is : summary_at t p ≡ summary m p
  unfolding taken
  summary_is =
      let run_at : ℕ → ℕ → ℕ = λ b n. length (keep (is_taken t) (from b n)) in
      let words = ap₂ run_at (process_is 10 (omega arith) (omega arith)) (process_is 11 (omega arith) (omega arith)) in
      rw (process_is 4 (omega arith) (omega arith), queue_is, words ∙ cases (owns m p) 0 no_run run)

-- ---- a plan carried out
by_plan : (short : Bool) (n : ℕ) (read told : ℕ → Summary) (s : List Summary) → filled read n s ≡ filled told n s
    → (asked (plan short n) ≡ first ((10 when short) ∷ [])) × (filled read (count_of (plan short n)) s ≡ if short s (filled told n s))
unfolding first filled
by_plan true n read told s e = (refl, refl)
by_plan false n read told s e = (refl, e)

pub carried_out : {t : List ℕ} {s v : List Summary} (q : Result ℕ Refusal) → Planned t (length s) q → v ≡ filled (summary_at t) (count_of q) s
    → Screens t s v (asked q)
carried_out {t} {s} {v} q h e =
    let carry : (z : Result ℕ Refusal) → q ≡ z → (asked q ≡ asked z) × (v ≡ filled (summary_at t) (count_of z) s)
    = λ z k. (ap (λ (x : Result ℕ Refusal). asked x) k, e ∙ ap (λ (x : Result ℕ Refusal). filled (summary_at t) (count_of x) s) k) in
    record {
      unsound = λ n. (let c = carry (Err TableNotSound) (h.unsound n) in (c.0, c.1 ∙ sym (none_yet (summary_at t) s)));
      sound = λ m w L. (let k : q ≡ plan (ltb (length s) m.P) m.P = rw (shows_agree w).P at (h.sound (shows_sound w L)) in
          let c = carry (plan (ltb (length s) m.P) m.P) k in
          let same = filled_same (summary_at t) (summary m) m.P s (λ p r. summary_is w L p r) in
          let d = by_plan (ltb (length s) m.P) m.P (summary_at t) (summary m) s same in
          (c.0 ∙ d.0, c.1 ∙ d.1));
    }
