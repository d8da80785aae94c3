-- docs/MONITOR.md, 8, of real calls: the words after a 05 that takes a kept interrupt, and after a further interrupt; and that after a real log in edition 1
-- a 05 takes one exactly if the log has one without a waiter since the last 05 for its device. Assumes nothing.
use Prim.Native.Nat.{ℕ}
use native.Mathlib.Omega.{arith}
use mathlib.Core.List.{List}
use mathlib.Core.Path.{◌≡◌, refl, sym, ap, fun_ext, ◌∙◌}
use lib.Dec.{eqb}
use borrow.Author.Tests.{eq-eqb, eqb-false, ltb-false}
use Rattle.machine.specs.Machine.{Machine, Words, edition, kept, waiter, current, zeros, put_devices, put_device}
use Rattle.machine.specs.Request.{request}
use Rattle.machine.specs.Refusal.{refusal}
use Rattle.machine.specs.Step.{Answer as Reply, done, effect, interrupted, unawaited}
use Rattle.machine.specs.Words.{Shows}
use Rattle.machine.specs.Sound.{device_at}
use Rattle.lists.proofs.Tests.{either, passes}
use Rattle.lists.proofs.Links.{cases, no_same, refl_same}
use Rattle.lists.proofs.Numbers.{first_in}
use Rattle.lists.proofs.Lists.{field_here}
use Rattle.laws.proofs.Decoded.{shows_agree}
use Rattle.laws.proofs.Unique.{unique}
use Rattle.monitor.specs.Promise.{Called}
use Rattle.monitor.proofs.Accepted.{current_word, met}
use Rattle.logs.specs.Interrupts.{Takes}

-- ---- the words
-- a device whose word is kept already stays as it is
put_kept : (a : ℕ) (m : Machine) → m.device a ≡ kept → put_device a kept m ≡ m
put_kept a m k = ap (λ (f : ℕ → ℕ). put_devices f m) (fun_ext λ d. cases d a (λ e. rw (e, k) (refl_same a kept kept)) (λ n. no_same d a kept (m.device d) n))

module _ {t u s v : List ℕ} {a b : ℕ} {ws : Words} {r : Reply} where
  -- a 05 that finds an interrupt kept clears it, and the caller runs on with reason 0
  pub taken_words : Called t u s v 5 a b ws r → r.number ≡ 0 → device_at t a ≡ kept → Takes t u a r
  unfolding request effect refusal
  taken_words c z k =
      let w = met c z in
      let m = w.m in
      let p = current m in
      let near = ltb-false 63 a (passes _ (omega arith) w.passed).1.0 in
      let d : m.device a ≡ kept = sym ((shows_agree w.shows).device a (omega (arith, near))) ∙ k in
      let i = w.legal.running.only p (first_in m.running (eqb-false p 0 (passes _ (omega arith) w.passed).0)) in
      let e = eq-eqb (m.device a) kept d in
      let x : Shows u (interrupted a p m) = rw e at w.words in
      let y : r ≡ (done 3 0 zeros (interrupted a p m)).answer = rw e at w.answer in
      let g = shows_agree x in
      let q = current_word w.shows in
      record {
        at_once =
            rw q (record {
              kind = ap (λ (x : Reply). x.kind) y;
              buffer = ap (λ (x : Reply). x.buffer) y;
              runs = ap (λ (x : Reply). x.current) y;
              words = ap (λ (x : Reply). x.words) y;
            });
        cleared = g.device a (omega (arith, near)) ∙ refl_same a 0 (m.device a);
        runs = rw q (g.process p 4 i.0 (omega arith) (omega arith) ∙ i.1);
        no_reason = rw q (g.process p 5 i.0 (omega arith) (omega arith) ∙ field_here m.process p 5 0);
        first = current_word x ∙ sym q;
      }

  -- a further interrupt "changes nothing"
  pub second_unheard : Called t u s v 10 a b ws r → r.number ≡ 0 → device_at t a ≡ kept → (u ≡ t) × (r.kind ≡ 0)
  unfolding request effect refusal
  second_unheard c z k =
      let w = met c z in
      let m = w.m in
      let near = ltb-false 63 a (passes _ (omega arith) w.passed).0 in
      let d : m.device a ≡ kept = sym ((shows_agree w.shows).device a (omega (arith, near))) ∙ k in
      let none : waiter m a ≡ 0 = rw d (refl_same kept 0 kept) in
      let x : Shows u (unawaited a m) = rw none at w.words in
      let y : r ≡ (done 0 0 zeros (unawaited a m)).answer = rw none at w.answer in
      let n : unawaited a m ≡ m = either (λ (n : Machine). n ≡ m) (eqb (edition m) 1) (λ t. put_kept a m d) (λ t. refl) in
      (unique (rw n at x) w.shows, ap (λ (x : Reply). x.kind) y)
