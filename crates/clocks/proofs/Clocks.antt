-- The two clocks agree over what the code promises: a queue made beside a layout and fed by a real log's calls has the delay left that word 6 of each process
-- has, and its next tick lists whom the next 09 wakes, in order. Assumes nothing.
use mathlib.Core.List.{List, [], ◌∷◌, ◌++◌, map}
use mathlib.Core.Path.{◌≡◌, refl, sym, ap, ◌∙◌}
use Prim.Native.Nat.{ℕ, ◌≤◌}
use native.Mathlib.Omega.{arith}
use lib.ListN.{length, take}
use Rattle.machine.specs.Queue.{Range}
use Rattle.machine.specs.Machine.{Machine, delay}
use Rattle.machine.specs.Step.{step, after, expiring}
use Rattle.machine.specs.Layout.{laid_over}
use Rattle.machine.specs.Sound.{P_of, process_at}
use Rattle.machine.specs.Log.{Call, Log, asked}
use Rattle.laws.proofs.Decoded.{shows_agree}
use Rattle.logs.specs.Follows.{end}
use Rattle.logs.specs.Real.{Made, Real}
use Rattle.logs.proofs.Reading.{legal_start, legal_last, last_P}
use Rattle.logs.proofs.Written.{beyond_of, real_recorded, real_shows}
use Rattle.delays.specs.declared.Ticked.{Ticked}
use Rattle.delays.specs.declared.Delay.{Delay}
use Rattle.delays.specs.Words as words
use Rattle.delays.specs.Words.{Ticks, Remains, made}
use Rattle.delays.specs.Delays.{Event, called, called_all, ending, Tick}
use Rattle.delays.specs.Calls.{events_all}
use Rattle.delays.proofs.Promised.{makes_keep, waits_called, leaves_called, ticks_called, ticks_keep, ticks_woken, remains_is}
use Rattle.delays.proofs.Beside.{Beside, beside_laid, beside_after}
use Rattle.walks.specs.Exactly.{entering}
use Rattle.walks.proofs.Exactly.{tick_wakes, tick_kind}
use Rattle.clocks.specs.Fed.{Fed, none, waits, wakes, stops, cleans, ticks, requests, start, BesideLog}

take_front : (l r : List ℕ) → take (length l) (l ++ r) ≡ l
take_front [] r = refl
take_front (x ∷ l) r = ap (λ (q : List ℕ). x ∷ q) (take_front l r)

-- ---- a chain of promises is the stream's own
fed_called : {n : ℕ} {q r : List ℕ} {l : List Event} → Fed n q r l → r ≡ called_all n q l
unfolding called_all
fed_called none = refl
fed_called {n} (waits {p} {d} {l} w f) = fed_called f ∙ ap (λ (t : List ℕ). called_all n t l) (waits_called n w)
fed_called {n} (wakes {l} w f) = fed_called f ∙ ap (λ (t : List ℕ). called_all n t l) (leaves_called n w).0
fed_called {n} (stops {l} w f) = fed_called f ∙ ap (λ (t : List ℕ). called_all n t l) (leaves_called n w).1
fed_called {n} (cleans {l} w f) = fed_called f ∙ ap (λ (t : List ℕ). called_all n t l) (leaves_called n w).2
fed_called {n} {q} (ticks {l} e w f) = fed_called f ∙ ap (λ (t : List ℕ). called_all n t l) (ticks_called w ∙ ap (λ (k : ℕ). called k q Tick) e)

-- a log's end is the machine after its requests
end_after : (m : Machine) (l : List Call) → end m l ≡ after m (map asked l)
unfolding end after
end_after m [] = refl
end_after m (c ∷ l) = end_after (step m (asked c)).machine l

module _ {g : Log} {u : List ℕ} {h : Real g u} {n : ℕ} {q r : List ℕ} (b : BesideLog h n q r) where
  abbrev last : Machine
  last = end (start h) g.calls

  begun : b.empty ≡ made (length g.list) q
  unfolding laid_over
  begun =
      let L = legal_start (real_recorded h) in
      let z = (makes_keep b.made (L.fixed.some, L.fixed.P32) b.long).0 in
      rw (sym b.made.number ∙ z) at b.made.words

  -- the queue keeps the delays of the machine at the log's end
  beside : Beside r last
  unfolding laid_over
  beside =
      let L = legal_start (real_recorded h) in
      let a = beside_after L (beside_laid q (beyond_of h) h.edition h.counters g.list L b.long) n b.room (requests g) b.fits in
      let e : r ≡ called_all n (made (length g.list) q) (events_all (start h) (requests g)) = fed_called b.fed ∙ ap
      (λ (t : List ℕ). called_all n t _) begun in
      rw (e, end_after (start h) g.calls) a

  -- `delays_left` gives word 6 of each process
  pub clocks_left : (p : ℕ) → Range (length g.list) p → {k : Delay} → Remains r p k → (k.number ≡ 0) × (k.time ≡ process_at u p 6)
  clocks_left p i w =
      let P = last_P (real_recorded h) in
      let x = remains_is beside.keeps (rw (beside.processes, P) i) w in
      (x.0, x.1 ∙ sym ((shows_agree (real_shows h)).process p 6 (rw P i) (omega arith) (omega arith)))

  -- and at the next tick the queue lists whom the 09 wakes, in order, and as many as its kind says
  pub clocks_tick : {v : List ℕ} {c : Call} → Made u v c → c.number ≡ 9 → c.answer.number ≡ 0
      → {r' s s' : List ℕ} {k : Ticked} → length s ≡ n → Ticks r r' s s' k
      → (k.number ≡ 0) × (k.count ≡ c.answer.kind) × (take k.count s' ≡ entering (P_of u) (λ p. process_at u p 4) (λ p. process_at v p 4))
  clocks_tick {c = c} m nine z {s = s} e w =
      let P = last_P (real_recorded h) in
      let room : words.P_of r ≤ length s = omega (arith, beside.processes, P, b.room, e) in
      let x = ticks_woken beside.keeps w room in
      let t = rw nine at m.called in
      let d = tick_wakes (real_shows h) (legal_last (real_recorded h)) t in
      let l : ending (words.P_of r) (delay last) ≡ expiring last = ap (λ (k : ℕ). ending k (delay last)) beside.processes in
      let f = l ∙ d in (
        (ticks_keep beside.keeps w room).0,
        x.0 ∙ ap length f ∙ sym (tick_kind t z),
        rw (x.0, x.1) (take_front (ending (words.P_of r) (delay last)) _) ∙ f,
      )
