-- A process's state with the words that hang on it, as Sound has them and as the tests go. Assumes nothing.
use mathlib.Core.Path.{◌≡◌}
use Prim.Native.Nat.{ℕ, ◌≤◌}
use native.Mathlib.Omega.{arith}
use Rattle.machine.specs.Queue.{Range}
use Rattle.machine.specs.Legal.{LegalProcess}
use Rattle.lists.proofs.Links.{cases}

pub record StateOf (state reason delay buffer device semaphore next previous first : ℕ) : Type 0 where
  pub legal : LegalProcess state reason delay buffer device semaphore
  pub off : (state ≡ 1 → ⊥) → (state ≡ 5 → ⊥) → (next ≡ 0) × (previous ≡ 0)
  pub idle : state ≡ 2 → first ≡ 0

module _ (s r d b v h x y f : ℕ) where
  -- as the tests have it, state by state, where no semaphore is named and no RAISE woke it
  abbrev pub ByState : Type 0
  ByState = (s ≡ 1 → (r ≤ 3) × ((d ≡ 0) × ((b ≡ 0) × (v ≡ 0))))
      × ((s ≡ 1 → ⊥) → ((r ≡ 0) × ((x ≡ 0) × (y ≡ 0)))
      × ((s ≡ 0 → (d ≡ 0) × ((b ≡ 0) × (v ≡ 0)))
      × ((s ≡ 0 → ⊥) → (s ≡ 2 → (f ≡ 0) × ((b ≡ 0) × (v ≡ 0)))
      × ((s ≡ 2 → ⊥) → (s ≡ 3 → (d ≡ 0) × (v ≡ 0))
      × ((s ≡ 3 → ⊥) → (s ≡ 4) × (b ≡ 0))))))

  -- where one did
  abbrev pub Raised : Type 0
  Raised = (s ≡ 1) × ((r ≡ 5) × ((d ≡ 0) × ((b ≡ 0) × (v ≡ 0))))

  -- and where a semaphore is named, of n
  abbrev pub Lowering : ℕ → Type 0
  Lowering n = (s ≡ 5) × ((h ≤ n) × ((r ≡ 0) × ((d ≡ 0) × ((b ≡ 0) × (v ≡ 0)))))

  abbrev pub State : Type 0
  State = StateOf s r d b v h x y f

  module _ (named : h ≡ 0) where
    -- a state but 1, where what is asked of the words is known
    off_state : (s ≡ 1 → ⊥) → s ≤ 4 → (r ≡ 0) × ((x ≡ 0) × (y ≡ 0)) → ((s ≡ 2 → ⊥) → (s ≡ 4 → ⊥) → d ≡ 0) → ((s ≡ 3 → ⊥) → b ≡ 0)
        → ((s ≡ 4 → ⊥) → v ≡ 0) → (s ≡ 2 → f ≡ 0) → State
    off_state n l o hd hb hv hf =
        record {
          legal = record {
            states = omega arith;
            reasons = omega arith;
            no_reason = λ k. o.0;
            no_delay = hd;
            no_buffer = hb;
            no_device = hv;
            no_semaphore = λ k. named;
          };
          off = λ k m. o.1;
          idle = hf;
        }

    pub state_of : ByState → State
    state_of h =
        cases s 1
        (λ e. let k = h.0 e in record {
          legal = record {
            states = omega arith;
            reasons = omega (arith, k.0);
            no_reason = λ n. absurd (n e);
            no_delay = λ n m. k.1.0;
            no_buffer = λ n. k.1.1.0;
            no_device = λ n. k.1.1.1;
            no_semaphore = λ n. named;
          };
          off = λ n m. absurd (n e);
          idle = λ z. absurd (omega arith);
        })
        (λ n. let k = h.1 n in cases s 0
        (λ e. let z = k.1.0 e in off_state n (omega arith) k.0 (λ i j. z.0) (λ i. z.1.0) (λ i. z.1.1) (λ i. absurd (omega arith)))
        (λ n₀. let m = k.1.1 n₀ in cases s 2
        (λ e. let z = m.0 e in off_state n (omega arith) k.0 (λ i j. absurd (i e)) (λ i. z.1.0) (λ i. z.1.1) (λ i. z.0))
        (λ n₂. let q = m.1 n₂ in cases s 3
        (λ e. let z = q.0 e in off_state n (omega arith) k.0 (λ i j. z.0) (λ i. absurd (i e)) (λ i. z.1) (λ i. absurd (n₂ i)))
        (λ n₃. let z = q.1 n₃ in off_state n (omega arith) k.0 (λ i j. absurd (j z.0)) (λ i. z.1) (λ i. absurd (i z.0)) (λ i. absurd (n₂ i))))))

    pub raised_of : Raised → State
    raised_of k =
        record {
          legal = record {
            states = omega (arith, k.0);
            reasons = omega (arith, k.1.0);
            no_reason = λ n. absurd (n k.0);
            no_delay = λ n m. k.1.1.0;
            no_buffer = λ n. k.1.1.1.0;
            no_device = λ n. k.1.1.1.1;
            no_semaphore = λ n. named;
          };
          off = λ n m. absurd (n k.0);
          idle = λ e. absurd (omega (arith, k.0));
        }

  pub of_raised : State → r ≡ 5 → (ByState → ⊥) × Raised
  of_raised t e =
      let l = t.legal in
      let one = cases s 1 (λ i. i) (λ n. absurd (omega (arith, l.no_reason n))) in (
        (λ h. omega (arith, (h.0 one).0)),
        (one, (e, (l.no_delay (λ z. omega arith) (λ z. omega arith), (l.no_buffer (λ z. omega arith), l.no_device (λ z. omega arith))))),
      )

  pub not_lowering : ByState → s ≡ 5 → ⊥
  not_lowering h e = omega (arith, ((((h.1 (λ k. omega arith)).1.1 (λ k. omega arith)).1 (λ k. omega arith)).1 (λ k. omega arith)).0)

  pub of_state : State → (s ≡ 5 → ⊥) → (r ≡ 5 → ⊥) → ByState
  of_state h o q =
      let l = h.legal in
      let t = l.states in (
        (λ e. (
          omega (arith, l.reasons.0, l.reasons.1),
          (
            l.no_delay (λ z. omega arith) (λ z. omega arith),
            (l.no_buffer (λ z. omega arith), l.no_device (λ z. omega arith)),
          ),
        )),
        λ n. (
          (l.no_reason n, h.off n o),
          (
            (λ e. (l.no_delay (λ z. omega arith) (λ z. omega arith), (l.no_buffer (λ z. omega arith), l.no_device (λ z. omega arith)))),
            λ n₀. (
              (λ e. (h.idle e, (l.no_buffer (λ z. omega arith), l.no_device (λ z. omega arith)))),
              λ n₂. (
                (λ e. (l.no_delay n₂ (λ z. omega arith), l.no_device (λ z. omega arith))),
                λ n₃. (omega arith, l.no_buffer n₃),
              ),
            ),
          ),
        ),
      )

  pub lowering_of : (n : ℕ) → Lowering n → State
  lowering_of n l =
      record {
        legal = record {
          states = omega (arith, l.0);
          reasons = omega (arith, l.1.1.0);
          no_reason = λ k. l.1.1.0;
          no_delay = λ k m. l.1.1.1.0;
          no_buffer = λ k. l.1.1.1.1.0;
          no_device = λ k. l.1.1.1.1.1;
          no_semaphore = λ k. absurd (k l.0);
        };
        off = λ k m. absurd (m l.0);
        idle = λ e. absurd (omega (arith, l.0));
      }

  pub of_lowering : (n : ℕ) → State → (s ≡ 5 → Range n h) → (h ≡ 0 → ⊥) → Lowering n
  of_lowering n t u m =
      let l = t.legal in
      let e = cases s 5 (λ e. e) (λ k. absurd (m (l.no_semaphore k))) in (
        e,
        (
          (u e).1,
          (
            l.no_reason (λ z. omega arith),
            (
              l.no_delay (λ z. omega arith) (λ z. omega arith),
              (l.no_buffer (λ z. omega arith), l.no_device (λ z. omega arith)),
            ),
          ),
        ),
      )
