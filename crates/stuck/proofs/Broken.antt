-- The law for the operator: after a stop or a clean of any member a ring is gone. Assumes nothing.
use mathlib.Core.Path.{◌≡◌, refl, sym, ap, subst, ◌∙◌}
use mathlib.Core.Bool.{Bool}
use mathlib.Core.List.{List}
use Prim.Native.Nat.{ℕ, zero, suc}
use native.Mathlib.Omega.{arith}
use lib.Dec.{eqb}
use borrow.Author.Tests.{eqb-true, ne_eqb}
use Rattle.machine.specs.Queue.{Range}
use Rattle.machine.specs.Machine.{Machine, state, awaited, owner, receiver, standing, buffers}
use Rattle.machine.specs.Moves.{stop, free, unlink, waiting, answer_with, withdrawn, clean_buffer}
use Rattle.machine.specs.Request.{Request, Stop, Clean}
use Rattle.machine.specs.Refusal.{first, refusal}
use Rattle.machine.specs.Step.{effect, step, halted}
use Rattle.machine.specs.Legal.{Legal}
use Rattle.machine.specs.Words.{Shows}
use Rattle.machine.specs.Sound.{P_of, process_at, buffer_at}
use Rattle.lists.proofs.Links.{cases, no_same, refl_same}
use Rattle.lists.proofs.Tests.{either, outside_false}
use Rattle.lists.proofs.Numbers.{fold_keeps, in_from}
use Rattle.laws.proofs.Decoded.{shows_agree, shows_sound}
use Rattle.laws.proofs.Cleans.{Cleaning, clean_one, halted_cleaning}
use Rattle.laws.proofs.Step.{legal_step}
use Rattle.stuck.specs.Waiting.{Waiting, of_table, of_machine, Links, Reached, WaitsThrough, Ring, Breaks}
use Rattle.stuck.proofs.Fits.{Fits, sound_fits, legal_fits}
use Rattle.stuck.proofs.Links.{Goes, goes_ever, links_among}

-- ---- where fewer wait, and x doesn't
-- who waits in v waits in w for the same process; x doesn't wait in v
record Fewer (w v : Waiting) (P x : ℕ) : Type 0 where
  same : (p : ℕ) → Range P p → v.state p ≡ 3 → (w.state p ≡ 3) × (v.holder p ≡ w.holder p)
  awake : v.state x ≡ 3 → ⊥

module _ {w v : Waiting} {P x : ℕ} (F : Fits w P) (f : Fewer w v P x) where
  links_before : (n p q : ℕ) → Range P p → Links v n p q → Links w n p q
  unfolding Links
  links_before zero p q r l = l
  links_before (suc n) p q r l =
      let s = f.same p r l.0 in
      (s.0, links_before n (w.holder p) q (F.among p r s.0) (subst (λ (y : ℕ). Links v n y q) s.1 l.1))

  -- who waits for ever in v doesn't wait for x
  not_through : (n p : ℕ) → Range P p → Goes v (suc n) p → Links w n p x → ⊥
  unfolding Links
  not_through zero p r g l = f.awake (rw l at g.0)
  not_through (suc n) p r g l =
      let s = f.same p r g.0 in
      not_through n (w.holder p) (F.among p r s.0) (subst (λ (y : ℕ). Goes v (suc n) y) s.1 g.1) l.1

  -- so neither does who is in a ring or behind one
  through : (y : ℕ) → Range P y → Ring v y → Reached w y x → ⊥
  through y r a c =
      not_through c.links y r
      (goes_ever v a.process a.awaits_itself.more a.awaits_itself.by (suc c.links) a.reached.links y a.reached.by) c.by

  fewer_breaks : Breaks w v P x
  unfolding Links
  fewer_breaks =
      record {
        members = λ y r a. (awaited_before y r a, through y r (record { process = y; reached = record { links = 0; by = refl }; awaits_itself = a }));
        behind = λ y r a. (let l = links_before a.reached.links y a.process r a.reached.by in (
          record {
            process = a.process;
            reached = record { links = a.reached.links; by = l };
            awaits_itself = awaited_before a.process (links_among F a.reached.links y a.process r l) a.awaits_itself;
          },
          through y r a,
        ));
      }
    where
      awaited_before : (y : ℕ) → Range P y → WaitsThrough v y y → WaitsThrough w y y
      awaited_before y r a = record { more = a.more; by = links_before (suc a.more) y y r a.by }

-- ---- from a machine to the one that a stop or a clean leads to
-- from m to n: who waits for an answer waited before, for the same process
record Still (m n : Machine) : Type 0 where
  size : n.P ≡ m.P
  same : (p : ℕ) → Range m.P p → state n p ≡ 3 → (state m p ≡ 3) × ((of_machine n).holder p ≡ (of_machine m).holder p)

still_then : {m n k : Machine} → Still m n → Still n k → Still m k
still_then f g =
    record {
      size = g.size ∙ f.size;
      same = λ p r e. (let h = g.same p (rw f.size r) e in let j = f.same p r h.0 in (j.0, h.1 ∙ j.1));
    }

stop_still : (x : ℕ) (m : Machine) → Still m (stop x m)
stop_still x m =
    record {
      size = refl;
      same = λ p r. cases p x
          (λ e. rw e (λ h. absurd (omega (arith, refl_same x 0 (state m x), h))))
          (λ n h. (sym (no_same p x 0 (state m p) n) ∙ h, ap (receiver m) (no_same p x 0 (awaited m p) n)));
    }

halted_still : (x : ℕ) (m : Machine) → Still m (halted x m)
halted_still x m = either (Still m) (eqb (state m x) 0) (λ _. record { size = refl; same = λ p r e. (e, refl) }) (λ _. stop_still x m)

-- an answer wakes its owner, if that waits for it, and nobody else
answer_still : (b : ℕ) (m : Machine) → Still m (answer_with b withdrawn m)
answer_still b m =
    either (Still m) (waiting b m)
    (λ _. record {
      size = refl;
      same = λ p r. cases p (owner m b)
          (λ e. rw e (λ h. absurd (omega (arith, refl_same (owner m b) 1 (state m (owner m b)), h))))
          (λ n h. (sym (no_same p (owner m b) 1 (state m p) n) ∙ h, ap (receiver m) (no_same p (owner m b) 0 (awaited m p) n)));
    })
    (λ _. record { size = refl; same = λ p r e. (e, refl) })

module _ {x B b : ℕ} {m : Machine} (c : Cleaning x B m) (i : Range m.B b) where
  -- a buffer that nobody waits for is freed
  free_same : ((p : ℕ) → Range m.P p → state m p ≡ 3 → awaited m p ≡ b → ⊥)
      → (p : ℕ) → Range m.P p → state m p ≡ 3 → (state m p ≡ 3) × ((of_machine (free b m)).holder p ≡ (of_machine m).holder p)
  free_same h p r e = (e, no_same (awaited m p) b 0 (receiver m (awaited m p)) (h p r e))

  -- nobody waits for one of x's own, which is stopped, nor for an orphaned one
  not_own : owner m b ≡ x → (p : ℕ) → Range m.P p → state m p ≡ 3 → awaited m p ≡ b → ⊥
  not_own o p r e k = let y : p ≡ x = sym (c.legal.awaits p r e).own ∙ ap (owner m) k ∙ o in omega (arith, c.stopped, rw y at e)

  not_orphaned : standing m b ≡ 4 → (p : ℕ) → Range m.P p → state m p ≡ 3 → awaited m p ≡ b → ⊥
  not_orphaned s p r e k = omega (arith, rw k at (c.legal.awaits p r e).queued_or_held)

  clean_still : Still m (clean_buffer x b m)
  unfolding clean_buffer
  clean_still =
      let as_was : Still m m = record { size = refl; same = λ p r e. (e, refl) } in
      let s : ℕ → Bool = eqb (standing m b) in
      either (Still m) (eqb (owner m b) x)
      (λ t. (let o = eqb-true (owner m b) x t in
      either (Still m) (s 1) (λ _. record { size = refl; same = free_same (not_own o) })
      (λ _. either (Still m) (s 3) (λ _. record { size = refl; same = free_same (not_own o) })
      (λ _. either (Still m) (s 2) (λ _. record { size = refl; same = λ p r e. (e, refl) }) (λ _. as_was)))))
      (λ _. either (Still m) (eqb (receiver m b) x)
      (λ _. either (Still m) (s 1) (λ _. still_then (record { size = refl; same = λ p r e. (e, refl) }) (answer_still b (unlink x b m)))
      (λ _. either (Still m) (s 2) (λ _. answer_still b m)
      (λ _. either (Still m) (s 4) (λ t. record { size = refl; same = free_same (not_orphaned (eqb-true (standing m b) 4 t)) }) (λ _. as_was))))
      (λ _. as_was))

-- and x waits no longer
record Off (m n : Machine) (x : ℕ) : Type 0 where
  still : Still m n
  awake : state n x ≡ 3 → ⊥

off_fewer : {m n : Machine} {x : ℕ} → Off m n x → Fewer (of_machine m) (of_machine n) m.P x
off_fewer f = record { same = f.still.same; awake = f.awake }

-- ---- the law, on machines
module _ {m : Machine} (L : Legal m) (x : ℕ) (i : Range m.P x) (e : state m x ≡ 3) where
  -- a member of a ring waits, so that its stop is accepted
  pub stop_accepted : refusal m (Stop x) ≡ 0
  unfolding refusal first
  stop_accepted = rw (outside_false m.P x i, ne_eqb (state m x) 0 (omega arith))

  pub clean_accepted : refusal m (Clean x) ≡ 0
  unfolding refusal first
  clean_accepted = rw (outside_false m.P x i)

  stop_off : Off m (step m (Stop x)).machine x
  unfolding step effect
  stop_off = rw stop_accepted (record { still = stop_still x m; awake = λ h. omega (arith, refl_same x 0 (state m x), h) })

  clean_off : Off m (step m (Clean x)).machine x
  unfolding step effect
  clean_off =
      let g = fold_keeps (λ n. Cleaning x m.B n × Still m n) (clean_buffer x) (buffers m)
      (λ b j n c.
      (let r : Range n.B b = (let k = in_from b 1 m.B j in omega (arith, c.0.size)) in
      (clean_one c.0 r, still_then c.1 (clean_still c.0 r))))
      (halted x m) (halted_cleaning L i, halted_still x m) in
      rw clean_accepted (record { still = g.1; awake = λ h. omega (arith, g.0.stopped, h) })

  pub stop_breaks : Breaks (of_machine m) (of_machine (step m (Stop x)).machine) m.P x
  stop_breaks = fewer_breaks (legal_fits L) (off_fewer stop_off)

  pub clean_breaks : Breaks (of_machine m) (of_machine (step m (Clean x)).machine) m.P x
  clean_breaks = fewer_breaks (legal_fits L) (off_fewer clean_off)

-- ---- and on the words that show them
module _ {t : List ℕ} {m : Machine} (s : Shows t m) (L : Legal m) (p : ℕ) (r : Range m.P p) where
  pub shown_state : process_at t p 4 ≡ state m p
  shown_state = (shows_agree s).process p 4 r (omega arith) (omega arith)

  pub shown_holder : state m p ≡ 3 → (of_table t).holder p ≡ (of_machine m).holder p
  shown_holder e =
      let a = shows_agree s in
      ap (λ (b : ℕ). buffer_at t b 3) (a.process p 7 r (omega arith) (omega arith))
      ∙ a.buffer (awaited m p) 3 (L.awaits p r e).is (omega arith) (omega arith)

off_shown : {t u : List ℕ} {m n : Machine} {x : ℕ} → Shows t m → Legal m → Shows u n → Legal n → Range m.P x → Off m n x
    → Fewer (of_table t) (of_table u) m.P x
off_shown s L k K i f =
    let z = f.still.size in
    record {
      same = λ p r e. (let e' = sym (shown_state k K p (rw z r)) ∙ e in
          let h = f.still.same p r e' in
          (shown_state s L p r ∙ h.0, shown_holder k K p (rw z r) e' ∙ h.1 ∙ sym (shown_holder s L p r h.0)));
      awake = λ e. f.awake (sym (shown_state k K _ (rw z i)) ∙ e);
    }

module _ {t u : List ℕ} {m : Machine} (s : Shows t m) (L : Legal m) (x : ℕ) (i : Range m.P x) (e : state m x ≡ 3) where
  breaks_shown : (r : Request) → Shows u (step m r).machine → Off m (step m r).machine x → Breaks (of_table t) (of_table u) (P_of t) x
  breaks_shown r k f =
      fewer_breaks (sound_fits (shows_sound s L))
      (subst (λ (n : ℕ). Fewer (of_table t) (of_table u) n x) (sym (shows_agree s).P) (off_shown s L k (legal_step L r) i f))

  pub stop_breaks_words : Shows u (step m (Stop x)).machine → Breaks (of_table t) (of_table u) (P_of t) x
  stop_breaks_words k = breaks_shown (Stop x) k (stop_off L x i e)

  pub clean_breaks_words : Shows u (step m (Clean x)).machine → Breaks (of_table t) (of_table u) (P_of t) x
  clean_breaks_words k = breaks_shown (Clean x) k (clean_off L x i e)
