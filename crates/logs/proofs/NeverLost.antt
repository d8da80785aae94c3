-- docs/MONITOR.md, 8, of real calls: in edition 1 an interrupt is never lost, and in edition 0 no device keeps one. Assumes nothing.
use Prim.Native.Nat.{ℕ, ◌<◌}
use native.Mathlib.Omega.{arith}
use mathlib.Core.List.{List, [], ◌∷◌, ◌++◌}
use mathlib.Core.Path.{◌≡◌, sym, ap, ◌∙◌}
use lib.Dec.{eqb}
use lib.ListN.{get_or}
use borrow.Author.Tests.{eqb-true}
use Rattle.machine.specs.Machine.{Machine, edition, kept, current, Words}
use Rattle.machine.specs.Request.{Request, request, WaitInterrupt, Interrupt}
use Rattle.machine.specs.Step.{Answer, Outcome, step}
use Rattle.machine.specs.Legal.{Legal}
use Rattle.machine.specs.Sound.{device_at, Sound}
use Rattle.machine.specs.Layout.{laid_over}
use Rattle.machine.specs.Log.{Call, Log, asked}
use Rattle.lists.proofs.Tests.{either}
use Rattle.laws.proofs.Decoded.{shows_agree, shows_sound}
use Rattle.laws.proofs.Bridge.{sound_shows}
use Rattle.laws.proofs.Step.{legal_step}
use Rattle.logs.specs.Follows.{Follows, end, Recorded}
use Rattle.logs.specs.Interrupts.{Unheard, AwaitsInterrupt, Unawaited, AtOnce}
use Rattle.logs.specs.Real.{Chain, Real}
use Rattle.theorems.proofs.Interrupts.{Asks, kept_stays, interrupt_kept, kept_taken}
use Rattle.logs.proofs.OneMore.{asks}
use Rattle.logs.proofs.Reading.{legal_last, last_edition}
use Rattle.logs.proofs.Written.{beyond_of, along, real_recorded, real_shows}

-- only number 5 asks for an interrupt, and for that of its device
by_number : (d k a b : ℕ) (ws : Words) (n : ℕ) → Asks d (request k a b ws n) → (k ≡ 5) × (a ≡ d)
unfolding request
by_number d k a b ws n =
    let C : Request → Type 0 = λ q. Asks d q → (k ≡ 5) × (a ≡ d) in
    either C (eqb k 1) (λ t x. absurd x)
    (λ t. either C (eqb k 2) (λ t x. absurd x) (λ t. either C (eqb k 3) (λ t x. absurd x) (λ t. either C (eqb k 4) (λ t x. absurd x)
    (λ t. either C (eqb k 5) (λ t x. (eqb-true k 5 t, x)) (λ t. either C (eqb k 6) (λ t x. absurd x) (λ t. either C (eqb k 7) (λ t x. absurd x)
    (λ t. either C (eqb k 8) (λ t x. absurd x) (λ t. either C (eqb k 9) (λ t x. absurd x) (λ t. either C (eqb k 10) (λ t x. absurd x)
    (λ t. either C (eqb k 11) (λ t x. absurd x) (λ t. either C (eqb k 12) (λ t x. absurd x)
    (λ t. either C (eqb k 13) (λ t x. absurd x) (λ t x. absurd x)))))))))))))

-- ---- along the calls that a machine follows
module _ {d : ℕ} {c : Call} (w : AwaitsInterrupt d c) where
  taken : (n : Machine) → n.device d ≡ kept → c.answer ≡ (step n (asked c)).answer → AtOnce (current n) c.answer
  unfolding request
  taken n k f =
      let q : asked c ≡ WaitInterrupt d c.b = asks c w.number ∙ ap (λ (x : ℕ). WaitInterrupt x c.b) w.device in
      let f' : c.answer ≡ (step n (WaitInterrupt d c.b)).answer = rw q at f in
      let e = kept_taken n d c.b k (ap (λ (r : Answer). r.number) (sym f') ∙ w.accepted) in
      let g = f' ∙ ap (λ (o : Outcome). o.answer) e in
      record {
        kind = ap (λ (r : Answer). r.kind) g;
        buffer = ap (λ (r : Answer). r.buffer) g;
        runs = ap (λ (r : Answer). r.current) g;
        words = ap (λ (r : Answer). r.words) g;
      }

  goes_on : (l r : List Call) {n : Machine} → Legal n → n.device d ≡ kept → Follows n (l ++ (c ∷ r)) → Unawaited d l → AtOnce (current (end n l)) c.answer
  unfolding end
  goes_on [] r {n} L k f u = taken n k f.0
  goes_on (e ∷ l) r {n} L k f u =
      goes_on l r (legal_step L (asked e))
      (kept_stays L k (asked e) (λ z a. (let h = by_number d e.number e.a e.b e.words e.room a in
      u.0 (record { number = h.0; device = h.1; accepted = ap (λ (r : Answer). r.number) f.0 ∙ z })))) f.1 u.1

-- from the interrupt on: the machine then is `end m (i ∷ l)`
lost_never : {d : ℕ} {i c : Call} (l r : List Call) {m : Machine} → Legal m → edition m ≡ 1 → Follows m (i ∷ l ++ (c ∷ r))
    → Unheard d i → Unawaited d l → AwaitsInterrupt d c → AtOnce (current (end m (i ∷ l))) c.answer
unfolding end request
lost_never {d} {i} {c} l r {m} L e f h u w =
    let q : asked i ≡ Interrupt d = asks i h.number ∙ ap Interrupt h.device in
    let a = ap (λ (x : Request). (step m x).answer) q in
    let g : i.answer ≡ (step m (Interrupt d)).answer = f.0 ∙ a in
    let k = interrupt_kept m d e (ap (λ (r : Answer). r.number) (sym g) ∙ h.accepted) (ap (λ (r : Answer). r.kind) (sym g) ∙ h.nobody) in
    goes_on w l r (legal_step L (asked i)) (ap (λ (x : Request). (step m x).machine.device d) q ∙ k) f.1 u

-- ---- the promises
-- "an interrupt is never lost": after an accepted 0A of device d without a waiter, on sound words of edition 1, the next accepted 05 for d, whatever
-- calls lie between, returns at once with kind 3
pub never_lost : {t v : List ℕ} {d : ℕ} {i c : Call} (l r : List Call) → Sound t → get_or t 4 0 ≡ 1 → Chain t v (i ∷ l ++ (c ∷ r))
    → Unheard d i → Unawaited d l → AwaitsInterrupt d c → (c.answer.kind ≡ 3) × (c.answer.buffer ≡ 0)
never_lost l r S e k h u w =
    let (m, s, L) = sound_shows S in
    let x = lost_never l r L (sym (shows_agree s).header.0 ∙ e) (along k s L).follows h u w in
    (x.kind, x.buffer)

-- what follows the first calls of a list follows their end
follows_both : (m : Machine) (l k : List Call) → Follows m (l ++ k) → Follows m l × Follows (end m l) k
unfolding end
follows_both m [] k f = (tt, f)
follows_both m (c ∷ l) k f = let h = follows_both (step m (asked c)).machine l k f.1 in ((f.0, h.0), h.1)

-- the same, read off a log laid out in edition 1
pub never_lost_in : {g : Log} {u : List ℕ} (h : Real g u) → h.edition ≡ 1 → {d : ℕ} {i c : Call} (before l r : List Call)
    → g.calls ≡ before ++ (i ∷ l ++ (c ∷ r)) → Unheard d i → Unawaited d l → AwaitsInterrupt d c → (c.answer.kind ≡ 3) × (c.answer.buffer ≡ 0)
never_lost_in {g} h e {d} {i} {c} before l r all heard between w =
    let R = real_recorded h in
    let f = follows_both (laid_over (beyond_of h) h.edition h.counters g.list) before (i ∷ l ++ (c ∷ r)) (rw all at R.follows) in
    let first : Log = record { list = g.list; calls = before } in
    let F : Recorded (beyond_of h) h.edition h.counters first = record { accepted = R.accepted; setting = R.setting; follows = f.0 } in
    let x = lost_never l r (legal_last F) (last_edition F ∙ e) f.1 heard between w in
    (x.kind, x.buffer)

-- in edition 0 no device ever keeps an interrupt
pub none_kept : {g : Log} {u : List ℕ} (h : Real g u) → h.edition ≡ 0 → (d : ℕ) → d < 64 → device_at u d ≡ kept → ⊥
none_kept {u = u} h e d l k =
    let R = real_recorded h in
    let z : get_or u 4 0 ≡ 0 = (shows_agree (real_shows h)).header.0 ∙ last_edition R ∙ e in
    omega (arith, (shows_sound (real_shows h) (legal_last R)).keeps d l k)
