-- The tests on a record by itself tell what Sound says of it. Assumes nothing.
use mathlib.Core.Path.{◌≡◌, sym, ap, ◌∙◌}
use mathlib.Core.Logic.{◌⊎◌, inl, inr, ⊎_elim}
use mathlib.Core.List.{List}
use Prim.Native.Nat.{ℕ, ◌+◌, ◌*◌, ◌-◌, ◌≤◌}
use native.Mathlib.Omega.{arith}
use lib.ListN.{length, get_or}
use Rattle.machine.specs.Queue.{Range}
use Rattle.machine.specs.Machine.{kept}
use Rattle.machine.specs.Legal.{LegalBuffer, Awaits, Waits}
use Rattle.machine.specs.Sound.{P_of, B_of, S_of, process_at, buffer_at, device_at}
use Rattle.lists.proofs.Links.{cases}
use Rattle.lists.proofs.Tells.{Tells, eq, le, both, nay, either, unless, said}
use Rattle.sound.specs.Buffers.{own_buffer}
use Rattle.sound.specs.Processes.{state_legal, waits_legal, words_legal}
use Rattle.sound.specs.Devices.{device}
use Rattle.sound.specs.Records.{base_of, sized}
use Rattle.sound.proofs.Choices.{chosen, branched, always}
use Rattle.sound.proofs.StatesTold.{StateOf, ByState, state_of, raised_of, of_raised, not_lowering, of_state, lowering_of, of_lowering}

-- ---- a standing with the words that hang on it
-- that the receiver of a queued buffer is one of the processes, its queue tells
pub record StandingOf (P owner receiver standing age x y z u next previous : ℕ) : Type 0 where
  pub legal : (standing ≡ 1 → Range P receiver) → LegalBuffer P owner receiver standing age x y z u
  pub other : standing ≡ 1 → receiver ≡ owner → ⊥
  pub off : (standing ≡ 1 → ⊥) → (standing ≡ 3 → ⊥) → (next ≡ 0) × (previous ≡ 0)

-- as the tests have it, standing by standing
abbrev Received : ℕ → ℕ → ℕ → Type 0
Received P p r = (1 ≤ r) × ((r ≤ P) × (r ≡ p → ⊥))

abbrev ByStanding : ℕ → ℕ → ℕ → ℕ → ℕ → ℕ → ℕ → ℕ → ℕ → ℕ → ℕ → Type 0
ByStanding P p r s a x y z u n m = (s ≡ 1 → r ≡ p → ⊥)
    × ((s ≡ 1 → ⊥) → (r ≡ 0 → (s ≡ 0) × (((n ≡ 0) × (m ≡ 0)) × ((a ≡ 0) × ((x ≡ 0) × ((y ≡ 0) × ((z ≡ 0) × (u ≡ 0)))))))
    × ((r ≡ 0 → ⊥) → Received P p r × ((s ≡ 3) ⊎ (((s ≡ 2) ⊎ (s ≡ 4)) × ((n ≡ 0) × (m ≡ 0))))))

module _ (P p o r s a x y z u n m : ℕ) (own : o ≡ p) where
  -- a receiver that is not 0 is that of a standing but 0
  some : (s ≡ 3) ⊎ (((s ≡ 2) ⊎ (s ≡ 4)) × ((n ≡ 0) × (m ≡ 0))) → Range 4 s
  some v = ⊎_elim (λ e. omega arith) (λ k. ⊎_elim (λ e. omega arith) (λ e. omega arith) k.0) v

  small : ByStanding P p r s a x y z u n m → s ≤ 4
  small h = cases s 1 (λ e. omega arith) (λ i. cases r 0 (λ k. omega (arith, ((h.1 i).0 k).0)) (λ k. (some ((h.1 i).1 k).1).1))

  standing_of : ByStanding P p r s a x y z u n m → StandingOf P o r s a x y z u n m
  standing_of h =
      record {
        legal = λ q. record {
          standings = small h;
          free = λ e. (let g = h.1 (λ i. omega arith) in cases r 0
              (λ k. let f = (g.0 k).1.1 in (k, f.0, f.1.0, f.1.1.0, f.1.1.1.0, f.1.1.1.1))
              (λ k. absurd (omega (arith, some (g.1 k).1))));
          taken = λ k. cases s 1
              (λ e. (q e, λ i. h.0 e (i ∙ own)))
              (λ i. cases r 0 (λ e. absurd (k ((h.1 i).0 e).0)) (λ j. let t = ((h.1 i).1 j).0 in ((t.0, t.1.0), λ e. t.1.1 (e ∙ own))));
        };
        other = λ e k. h.0 e (k ∙ own);
        off = λ i j. cases r 0 (λ k. ((h.1 i).0 k).1.0) (λ k. ⊎_elim (λ e. absurd (j e)) (λ v. v.1) ((h.1 i).1 k).1);
      }

  of_standing : StandingOf P o r s a x y z u n m → ByStanding P p r s a x y z u n m
  of_standing h = (
    (λ e k. h.other e (k ∙ sym own)),
    λ i. let l = h.legal (λ e. absurd (i e)) in (
      (λ k. let e = free l k in (e, (h.off i (λ j. omega arith), let f = l.free e in (f.1, (f.2, (f.3, (f.4, f.5))))))),
      λ k. let t = l.taken (λ e. k (l.free e).0) in (
        (t.0.0, (t.0.1, λ e. t.1 (e ∙ sym own))),
        cases s 3 inl (λ j. inr (cases s 2 inl (λ v. inr (other l k i j v)), h.off i j)),
      ),
    ),
  )
    where
      free : LegalBuffer P o r s a x y z u → r ≡ 0 → s ≡ 0
      free l k = cases s 0 (λ e. e) (λ j. absurd (omega (arith, (l.taken j).0.0)))

      other : LegalBuffer P o r s a x y z u → (r ≡ 0 → ⊥) → (s ≡ 1 → ⊥) → (s ≡ 3 → ⊥) → (s ≡ 2 → ⊥) → s ≡ 4
      other l k i j v = let z : s ≡ 0 → ⊥ = λ e. k (l.free e).0 in omega (arith, l.standings)

module _ (w : List ℕ) where
  -- ---- a process
  -- device d, numbered from 1, is the machine's d - 1
  pub device_word : (d : ℕ) → 1 ≤ d → device_at w (d - 1) ≡ get_or w (7 + d) 0
  device_word d h = let e : 8 + (d - 1) ≡ 7 + d = omega arith in ap (λ (i : ℕ). get_or w i 0) e

  abbrev pub StateAt : ℕ → Type 0
  StateAt p = StateOf (process_at w p 4) (process_at w p 5) (process_at w p 6) (process_at w p 7) (process_at w p 8) (process_at w p 15)
      (process_at w p 0) (process_at w p 1) (process_at w p 2)

  -- what the tests ask of a process that names no semaphore
  abbrev ByStateAt : ℕ → Type 0
  ByStateAt p = ByState (process_at w p 4) (process_at w p 5) (process_at w p 6) (process_at w p 7) (process_at w p 8) (process_at w p 15)
      (process_at w p 0) (process_at w p 1) (process_at w p 2)

  state_tells : (p : ℕ) → Tells (state_legal w (56 + 16 * p)) (ByStateAt p)
  unfolding state_legal
  state_tells p =
      let s = process_at w p 4 in
      let r = process_at w p 5 in
      let d = process_at w p 6 in
      let b = process_at w p 7 in
      let v = process_at w p 8 in
      let x = process_at w p 0 in
      let y = process_at w p 1 in
      let f = process_at w p 2 in
      chosen (eq s 1) (both (le r 3) (both (eq d 0) (both (eq b 0) (eq v 0))))
      (both (both (eq r 0) (both (eq x 0) (eq y 0)))
      (chosen (eq s 0) (both (eq d 0) (both (eq b 0) (eq v 0)))
      (chosen (eq s 2) (both (eq f 0) (both (eq b 0) (eq v 0)))
      (chosen (eq s 3) (both (eq d 0) (eq v 0))
      (both (eq s 4) (eq b 0))))))

  pub record WaitsAt (p : ℕ) : Type 0 where
    pub awaits : process_at w p 4 ≡ 3 → Awaits (B_of w) (process_at w p 7) (buffer_at w (process_at w p 7) 2) (buffer_at w (process_at w p 7) 4) p
    pub waits : process_at w p 4 ≡ 4 → Waits (device_at w) (process_at w p 8) p

  waits_tells : (p : ℕ) → Tells (waits_legal w (base_of w) (B_of w) p (56 + 16 * p)) (WaitsAt p)
  unfolding waits_legal
  waits_tells p =
      let s = process_at w p 4 in
      let b = process_at w p 7 in
      let d = process_at w p 8 in
      said (chosen (eq s 3) (both (le 1 b) (both (le b (B_of w)) (both (eq (buffer_at w b 2) p) (both (le 1 (buffer_at w b 4)) (le (buffer_at w b 4) 2)))))
      (chosen (eq s 4) (both (le 1 d) (both (le d 64) (eq (get_or w (7 + d) 0) p))) always))
      (λ h. record {
        awaits = λ e. (let k = h.0 e in record { is = (k.0, k.1.0); own = k.1.1.0; queued_or_held = k.1.1.1 });
        waits =
            λ e. (let k = (h.1 (λ z. omega arith)).0 e in
            record { d = d - 1; is = omega (arith, k.0, k.1.0); word = omega (arith, k.0); named = device_word d k.0 ∙ k.1.1 });
      })
      (λ h. (
        (λ e. let k = h.awaits e in (k.is.0, (k.is.1, (k.own, k.queued_or_held)))),
        λ n. (
          (λ e. let k = h.waits e in let z : d - 1 ≡ k.d = omega (arith, k.word) in
              (omega (arith, k.word), (omega (arith, k.word, k.is), sym (device_word d (omega (arith, k.word))) ∙ ap (device_at w) z ∙ k.named))),
          λ m. tt,
        ),
      ))

  pub record ProcessOf (p : ℕ) : Type 0 where
    pub priority : (1 ≤ process_at w p 9) × (process_at w p 9 ≤ 255)
    pub state : StateAt p
    pub waits : WaitsAt p
    pub lowers : process_at w p 4 ≡ 5 → Range (S_of w) (process_at w p 15)

  pub words_tell : (p : ℕ) → Tells (words_legal w (base_of w) (B_of w) p (56 + 16 * p)) (ProcessOf p)
  unfolding words_legal
  words_tell p =
      let s = process_at w p 4 in
      let r = process_at w p 5 in
      let d = process_at w p 6 in
      let b = process_at w p 7 in
      let v = process_at w p 8 in
      let h = process_at w p 15 in
      let x = process_at w p 0 in
      let y = process_at w p 1 in
      let f = process_at w p 2 in
      said (both (both (le 1 (process_at w p 9)) (le (process_at w p 9) 255))
      (chosen (eq h 0) (branched (state_tells p) (waits_tells p) (both (eq s 1) (both (eq r 5) (both (eq d 0) (both (eq b 0) (eq v 0))))))
      (both (eq s 5) (both (le h (S_of w)) (both (eq r 0) (both (eq d 0) (both (eq b 0) (eq v 0))))))))
      (λ k. cases h 0
      (λ z. ⊎_elim
      (λ t. record {
        priority = k.0;
        state = state_of s r d b v h x y f z t.0;
        waits = t.1;
        lowers = λ e. absurd (not_lowering s r d b v h x y f t.0 e);
      })
      (λ t. let one = t.1.0 in record {
        priority = k.0;
        state = raised_of s r d b v h x y f z t.1;
        waits = record { awaits = λ e. absurd (omega arith); waits = λ e. absurd (omega arith) };
        lowers = λ e. absurd (omega arith);
      })
      (k.1.0 z))
      (λ n. let t = k.1.1 n in record {
        priority = k.0;
        state = lowering_of s r d b v h x y f (S_of w) t;
        waits = record { awaits = λ e. absurd (omega (arith, t.0)); waits = λ e. absurd (omega (arith, t.0)) };
        lowers = λ e. (omega arith, t.1.0);
      }))
      (λ k. (
        k.priority,
        (
          (λ z. cases r 5
              (λ e. inr (of_raised s r d b v h x y f k.state e))
              (λ n. inl (of_state s r d b v h x y f k.state (λ e. omega (arith, (k.lowers e).0)) n, k.waits))),
          of_lowering s r d b v h x y f (S_of w) k.state k.lowers,
        ),
      ))

  -- ---- a buffer
  pub record BufferOf (p b : ℕ) : Type 0 where
    pub owner : buffer_at w b 2 ≡ p
    pub standing : StandingOf (P_of w) (buffer_at w b 2) (buffer_at w b 3) (buffer_at w b 4) (buffer_at w b 5) (buffer_at w b 6) (buffer_at w b 7)
        (buffer_at w b 8) (buffer_at w b 9) (buffer_at w b 0) (buffer_at w b 1)

  pub buffer_tells : (p b : ℕ) → Tells (own_buffer w (base_of w + 10 * b) p (P_of w)) (BufferOf p b)
  unfolding own_buffer
  buffer_tells p b =
      let o = buffer_at w b 2 in
      let r = buffer_at w b 3 in
      let s = buffer_at w b 4 in
      let a = buffer_at w b 5 in
      let x = buffer_at w b 6 in
      let y = buffer_at w b 7 in
      let z = buffer_at w b 8 in
      let u = buffer_at w b 9 in
      let n = buffer_at w b 0 in
      let m = buffer_at w b 1 in
      said (both (eq o p)
      (chosen (eq s 1) (nay (eq r p))
      (chosen (eq r 0) (both (eq s 0) (both (both (eq n 0) (eq m 0)) (both (eq a 0) (both (eq x 0) (both (eq y 0) (both (eq z 0) (eq u 0)))))))
      (both (both (le 1 r) (both (le r (P_of w)) (nay (eq r p)))) (either (eq s 3) (both (either (eq s 2) (eq s 4)) (both (eq n 0) (eq m 0))))))))
      (λ h. record { owner = h.0; standing = standing_of (P_of w) p o r s a x y z u n m h.0 h.1 })
      (λ h. (h.owner, of_standing (P_of w) p o r s a x y z u n m h.owner h.standing))

  -- ---- a device, numbered from 1
  pub record DeviceOf (d : ℕ) : Type 0 where
    pub keeps : device_at w (d - 1) ≡ kept → get_or w 4 0 ≡ 1
    pub waiter : (device_at w (d - 1) ≡ 0 → ⊥) → (device_at w (d - 1) ≡ kept → ⊥) → Range (P_of w) (device_at w (d - 1))
        × (process_at w (device_at w (d - 1)) 4 ≡ 4) × (process_at w (device_at w (d - 1)) 8 ≡ d)

  pub device_tells : (d : ℕ) → 1 ≤ d → Tells (device w d) (DeviceOf d)
  unfolding device
  device_tells d l =
      let x : ℕ = get_or w (7 + d) 0 in
      let e : device_at w (d - 1) ≡ x = device_word d l in
      said (unless (eq x 0) (chosen (eq x kept) (eq (get_or w 4 0) 1) (both (le x (P_of w)) (both (eq (process_at w x 4) 4) (eq (process_at w x 8) d)))))
      (λ h. record {
        keeps = λ k. (h (λ z. omega arith)).0 (sym e ∙ k);
        waiter = rw e (λ n o. let k = (h n).1 o in ((omega arith, k.0), k.1.0, k.1.1));
      })
      (λ h n. ((λ k. h.keeps (e ∙ k)), λ o. let k = (rw e at h.waiter) n o in (k.0.1, (k.1, k.2))))

  -- ---- the header
  pub record HeaderOf : Type 0 where
    pub some : 1 ≤ P_of w
    pub few_processes : P_of w ≤ 32
    pub few_buffers : B_of w ≤ 128
    pub few_semaphores : S_of w ≤ 16
    pub long : 72 + 16 * P_of w + 10 * B_of w + 4 * S_of w ≤ length w
    pub rest : (get_or w 4 0 ≤ 1) × ((get_or w 6 0 ≡ 0) × (get_or w 7 0 ≡ 0))

  pub sized_tells : Tells (sized w) HeaderOf
  unfolding sized
  sized_tells =
      said (both (le 72 (length w)) (both (both (le _ _) (both (le _ _) (both (le _ _) (both (le _ _) (le _ _))))) (both (le _ _) (both (eq _ _) (eq _ _)))))
      (λ h. let k = h.1.0 in record {
        some = k.0;
        few_processes = k.1.0;
        few_buffers = k.1.1.0;
        few_semaphores = k.1.1.1.0;
        long = k.1.1.1.1;
        rest = h.1.1;
      })
      (λ h. (omega (arith, h.long), ((h.some, (h.few_processes, (h.few_buffers, (h.few_semaphores, h.long)))), h.rest)))
