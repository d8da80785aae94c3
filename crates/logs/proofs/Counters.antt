-- A counter below zero is minus the number waiting; otherwise nobody waits: of any sound table, and so of a real log's words. Assumes nothing.
use mathlib.Core.Bool.{◌&&◌}
use mathlib.Core.List.{List}
use mathlib.Core.Path.{◌≡◌, refl, sym, ap, ◌∙◌}
use Prim.Native.Nat.{ℕ, suc, ◌-◌, ◌≤◌, ◌<◌, ◌^◌}
use native.Mathlib.Omega.{arith}
use native.Mathlib.Decide.{dec_le}
use lib.Dec.{eqb}
use lib.IntN.{pos, negsuc}
use lib.ListN.{length}
use mir.Syntax.{w16}
use mir.Val.{to_z}
use mir.Facts.{to_z_pos, to_z-neg}
use borrow.Author.Tests.{eq-eqb, eqb-true, le-ltb}
use Rattle.machine.specs.Queue.{Range, from, keep}
use Rattle.machine.specs.Legal.{LegalCounter}
use Rattle.machine.specs.Sound.{P_of, S_of, process_at, semaphore_at, Sound}
use Rattle.machine.specs.Log.{Log}
use Rattle.lists.proofs.Tests.{and_true, differ}
use Rattle.lists.proofs.Numbers.{in_keep, keep_in, keep_once, from_in, in_from, from_once}
use Rattle.lists.proofs.Lists.{no_longer}
use Rattle.laws.proofs.Decoded.{shows_sound}
use Rattle.counter.proofs.Integers.{negated}
use Rattle.logs.specs.Counters.{waiting_at, Always}
use Rattle.logs.specs.Real.{Real}
use Rattle.logs.proofs.Reading.{legal_last}
use Rattle.logs.proofs.Written.{real_recorded, real_shows}

-- the number of a word
word_above : {c : ℕ} → c < 32768 → to_z w16 c ≡ pos c
word_above h = to_z_pos w16 h

word_below : {c : ℕ} → c < 65536 → 32768 ≤ c → to_z w16 c ≡ negsuc (65535 - c)
word_below {c} w h =
    let i : c ≡ 2 ^ 16 - suc (65535 - c) = omega arith in
    let s : 65535 - c < 2 ^ 15 = omega arith in
    ap (to_z w16) i ∙ to_z-neg w16 (65535 - c) s

module _ {t : List ℕ} (S : Sound t) {s : ℕ} (i : Range (S_of t) s) where
  -- as many as stand in its queue
  as_many : length (S.semaphore_queues s i).q ≡ waiting_at t s
  as_many =
      let q = (S.semaphore_queues s i).q in
      let e = (S.semaphore_queues s i).is.exact in
      let w = keep (λ p. eqb (process_at t p 4) 5 && eqb (process_at t p 15) s) (from 1 (P_of t)) in
      let to : length q ≤ length w = no_longer q w e.once (λ x j. (let h = e.only x j in
      keep_in x _ (from 1 (P_of t)) (from_in x 1 (P_of t) h.0.0 (omega (arith, h.0)))
      (rw (eq-eqb (process_at t x 4) 5 h.1, eq-eqb (process_at t x 15) s h.2) refl))) in
      let back : length w ≤ length q = no_longer w q (keep_once _ _ (from_once 1 (P_of t))) (λ x j. (let h = in_keep x _ (from 1 (P_of t)) j in
      let r = in_from x 1 (P_of t) h.0 in let k = and_true {a = eqb (process_at t x 4) 5} h.1 in
      e.every x (omega arith, eqb-true (process_at t x 4) 5 k.0, eqb-true (process_at t x 15) s k.1))) in
      omega arith

  pub counters_always : Always t s
  counters_always = go (dec_le 32768 (semaphore_at t s 0))
    where
      c : LegalCounter (semaphore_at t s 0) (length (S.semaphore_queues s i).q)
      c = (S.semaphore_queues s i).counter

      go : Dec (32768 ≤ semaphore_at t s 0) → Always t s
      go (yes h) =
          let e = word_below c.word h in
          record {
            below = λ b. rw e (negated (65535 - semaphore_at t s 0) ∙ ap pos (omega (arith, c.below h, c.word, as_many)));
            otherwise = λ b. absurd (differ (rw e at b));
          }
      go (no h) =
          let e = word_above {c = semaphore_at t s 0} (omega arith) in
          record {
            below = λ b. absurd (differ (sym (rw e at b) ∙ le-ltb (semaphore_at t s 0) 0 (omega arith)));
            otherwise = λ b. omega (arith, c.above (omega arith), as_many);
          }

-- after any real log
pub real_counters : {g : Log} {u : List ℕ} → Real g u → (s : ℕ) → Range (S_of u) s → Always u s
real_counters h s i = counters_always (shows_sound (real_shows h) (legal_last (real_recorded h))) i
