-- A conversation that the log leaves open is had by somebody, and who waits for an answer waits for such a one. Assumes nothing.
use Prim.Native.Nat.{ℕ, ◌≤◌}
use native.Mathlib.Omega.{arith}
use mathlib.Core.List.{List}
use mathlib.Core.Logic.{inl, inr, ⊎_elim}
use mathlib.Core.Path.{◌≡◌, refl, sym, ap, subst, ◌∙◌}
use lib.ListN.{length}
use Rattle.machine.specs.Queue.{Range, Out}
use Rattle.machine.specs.Machine.{Machine, state, awaited, standing}
use Rattle.machine.specs.Legal.{Legal, Awaits}
use Rattle.machine.specs.Layout.{sum}
use Rattle.machine.specs.Log.{Log, Talk, left}
use Rattle.lists.proofs.Links.{cases}
use Rattle.logs.specs.Follows.{last, Recorded}
use Rattle.laws.specs.Talk.{talk}
use Rattle.logs.specs.Open.{Whereabouts, queued, held, answered, orphaned, Had}
use Rattle.logs.proofs.Reading.{legal_last, last_P, last_B, last_talk}

-- ---- on a legal machine
module _ {m : Machine} (L : Legal m) {b : ℕ} (i : Range m.B b) where
  -- neither queued nor answered it stands in no event queue
  unqueued : (standing m b ≡ 1 → ⊥) → (standing m b ≡ 3 → ⊥) → (p : ℕ) → Range m.P p → Out b (m.events p)
  unqueued n₁ n₃ p j k = ⊎_elim (λ q. n₁ q.0) (λ q. n₃ q.0) ((L.events p j).only b k).1

  stands : (standing m b ≡ 0 → ⊥) → Whereabouts m.P m.events b (talk m b)
  stands n₀ =
      let o = L.buffer b i in
      cases (standing m b) 1 (λ e. queued e ((L.events _ (o.taken n₀).0).every b (i, inl (e, refl))))
      (λ n₁. cases (standing m b) 2 (λ e. held e (unqueued n₁ (omega arith)))
      (λ n₂. cases (standing m b) 3 (λ e. answered e ((L.events _ (L.fixed.owned b i)).every b (i, inr (e, refl))))
      (λ n₃. orphaned (omega (arith, o.standings)) (unqueued n₁ n₃))))

  had : (standing m b ≡ 0 → ⊥) → Had m.P m.events b (talk m b)
  had n₀ = let t = (L.buffer b i).taken n₀ in record { owner = L.fixed.owned b i; receiver = t.0; apart = t.1; stands = stands n₀ }

-- ---- at the log's end
module _ {beyond counters : List ℕ} {edition : ℕ} {g : Log} (h : Recorded beyond edition counters g) where
  -- a buffer that isn't free is had by somebody
  pub open_had : (b : ℕ) → Range (sum g.list) b → ((left g b).standing ≡ 0 → ⊥) → Had (length g.list) (last beyond edition counters g).events b (left g b)
  open_had b i n =
      let e = last_talk h b i in
      rw (← last_P h) (subst (Had _ _ b) e (had (legal_last h) (rw (last_B h) i) (λ z. n (sym (ap (λ (t : Talk). t.standing) e) ∙ z))))

  -- a process that waits for an answer waits for a conversation of its own that the log leaves queued or held
  pub wait_open : (p : ℕ) → Range (length g.list) p → state (last beyond edition counters g) p ≡ 3
      → Awaits (sum g.list) (awaited (last beyond edition counters g) p)
      (left g (awaited (last beyond edition counters g) p)).owner (left g (awaited (last beyond edition counters g) p)).standing p
  wait_open p i e =
      let a = (legal_last h).awaits p (rw (last_P h) i) e in
      let j : Range (sum g.list) (awaited (last beyond edition counters g) p) = rw (last_B h) at a.is in
      let t = last_talk h (awaited (last beyond edition counters g) p) j in
      record {
        is = j;
        own = subst (λ (t : Talk). t.owner ≡ p) t a.own;
        queued_or_held = subst (λ (t : Talk). (1 ≤ t.standing) × (t.standing ≤ 2)) t a.queued_or_held;
      }
