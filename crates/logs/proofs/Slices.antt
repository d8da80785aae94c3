-- docs/MONITOR.md, 12, of what the code promises: the answers of ticks say it by themselves. Assumes nothing.
use mathlib.Core.Path.{◌≡◌, refl, sym, ap, ◌∙◌}
use mathlib.Core.List.{List, [], ◌∷◌}
use Prim.Native.Nat.{ℕ, zero, suc, ◌+◌, ◌≤◌, ◌<◌}
use native.Mathlib.Omega.{arith}
use lib.ListN.{length, get_or}
use Rattle.machine.specs.Machine.{Machine, Words, priority, current}
use Rattle.machine.specs.Request.{request, Tick}
use Rattle.machine.specs.Refusal.{refusal}
use Rattle.machine.specs.Step.{Answer, effect, expiring, step, after}
use Rattle.machine.specs.Legal.{Legal, Runs}
use Rattle.machine.specs.Words.{Shows}
use Rattle.laws.proofs.Step.{legal_step}
use Rattle.theorems.proofs.Rotation.{ticks, Quiet, Once, Share, some_share, turn_comes, turn_once}
use Rattle.monitor.specs.Promise.{Called}
use Rattle.monitor.proofs.ShutOut.{tick_counts}
use Rattle.logs.specs.Slices.{Ticks, told}

-- none has ended
nothing : (l : List ℕ) → length l ≡ 0 → l ≡ []
nothing [] e = refl
nothing (x ∷ l) e = absurd (omega arith)

-- ---- one tick
module _ {t u s v : List ℕ} {a b : ℕ} {ws : Words} {r : Answer} {m : Machine} (w : Shows t m) (L : Legal m) (c : Called t u s v 9 a b ws r) where
  tick_words : Shows u (step m Tick).machine
  unfolding request
  tick_words = (c.sound m w L).words

  tick_current : r.current ≡ current (step m Tick).machine
  unfolding request step refusal effect
  tick_current = ap (λ (x : Answer). x.current) (c.sound m w L).answer

-- ---- a chain of ticks
-- each answer's current is that of the machine then, and no tick ends a delay
record Follows (m : Machine) (rs : List Answer) : Type 0 where
  now : (i : ℕ) → i ≤ length rs → told (current m) rs i ≡ current (after m (ticks i))
  quiet : Quiet m (length rs)

follows : {t : List ℕ} {m : Machine} → Shows t m → Legal m → (rs : List Answer) → Ticks t rs → Follows m rs
unfolding after
follows {m = m} w L [] k = record { now = λ i l. (let e : i ≡ 0 = omega arith in rw e refl); quiet = λ i l. absurd (omega arith) }
follows {t = t} {m = m} w L (r ∷ rs) k =
    let c = k.0.called in
    more (tick_current w L c) (nothing (expiring m) (sym (tick_counts w L c) ∙ k.0.quiet))
    (follows {t = k.0.u} {m = (step m Tick).machine} (tick_words w L c) (legal_step L Tick) rs k.1)
  where
    more : r.current ≡ current (step m Tick).machine → expiring m ≡ [] → Follows (step m Tick).machine rs → Follows m (r ∷ rs)
    more e q f = record { now = now; quiet = quiet }
      where
        now : (i : ℕ) → i ≤ suc (length rs) → told (current m) (r ∷ rs) i ≡ current (after m (ticks i))
        now zero l = refl
        now (suc i) l = ap (λ (x : ℕ). told x rs i) e ∙ f.now i (omega arith)

        quiet : Quiet m (suc (length rs))
        quiet zero l = q
        quiet (suc i) l = f.quiet i (omega arith)

-- ---- everyone gets the slice
-- the words show a machine on which n processes share the highest priority h among those running, and only ticks follow that end no delay
module _ {t : List ℕ} {m : Machine} (w : Shows t m) (L : Legal m) {h n : ℕ} (s : Share (priority m) m.running h n) (rs : List Answer) (k : Ticks t rs) where
  -- "the one standing k-th is current after k minus 1 ticks": the answers say so (i is k minus 1)
  pub told_turn : (i : ℕ) → i < n → i ≤ length rs → told (current m) rs i ≡ get_or m.running i 0
  told_turn i l u =
      let f = follows w L rs k in
      f.now i u ∙ turn_comes L s i l (λ j v. f.quiet j (omega arith))

  -- "each of the n is current at exactly one moment out of any n in a row, counting the moment before the first tick"
  pub told_once : (x : ℕ) → Runs m x → priority m x ≡ h → (j : ℕ) → j + n ≤ suc (length rs) → Once (λ i. told (current m) rs (j + i) ≡ x) n
  told_once x r e j u =
      let f = follows w L rs k in
      let some = some_share L s x r e in
      let o = turn_once L s x r e j (λ i v. f.quiet i (omega arith)) in
      record {
        moment = o.moment;
        within = o.within;
        is = f.now (j + o.moment) (omega (arith, o.within)) ∙ o.is;
        only = λ i l c. o.only i l (sym (f.now (j + i) (omega arith)) ∙ c);
      }
