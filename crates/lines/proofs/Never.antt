-- docs/MONITOR.md, 15: refusals that the replay never gives. "Room for a listing is always enough there", its table is of the largest size, and it has no
-- semaphores. Assumes nothing.
use mathlib.Core.Bool.{true, false, ◌&&◌}
use mathlib.Core.List.{List, [], ◌∷◌}
use mathlib.Core.Path.{◌≡◌, refl, sym, ◌∙◌}
use Prim.Native.Nat.{ℕ, ◌*◌, ◌≤◌}
use native.Mathlib.Omega.{arith}
use lib.Dec.{eqb, leb}
use lib.ListN.{length, length-replicate}
use borrow.Author.Tests.{le-ltb, leb-true}
use Rattle.machine.specs.Queue.{if, from}
use Rattle.machine.specs.Machine.{Machine, semaphores, current}
use Rattle.machine.specs.Request.{Request, Send, WaitAnswer, WaitEvent, SendAnswer, WaitInterrupt, Start, Stop, Clean, Tick, Interrupt, ListOpen}
use Rattle.machine.specs.Request.{Lower, Raise, Unknown}
use Rattle.machine.specs.Refusal.{Row, ◌when◌, first, outside, shown, is_shown, row_width, refusal}
use Rattle.machine.specs.Layout.{entries, sum, fives, layout_ok, setting_ok, layout_refusal}
use Rattle.machine.specs.Words.{size}
use Rattle.machine.specs.Legal.{Legal}
use Rattle.lists.proofs.Tests.{tested, and_true, outside_true}
use Rattle.lists.proofs.Numbers.{in_keep, in_from, keep_once, from_once, few}
use Rattle.lines.specs.Replay.{room_words, table}

-- ---- a number that no row has is never the first that applies
abbrev Lacks : ℕ → List Row → Type 0
Lacks n [] = 0 ≡ n → ⊥
Lacks n ((k when t) ∷ l) = (k ≡ n → ⊥) × Lacks n l

lacking : (n : ℕ) (l : List Row) → Lacks n l → first l ≡ n → ⊥
unfolding first
lacking n [] h = h
lacking n ((k when true) ∷ l) h = h.0
lacking n ((k when false) ∷ l) h = lacking n l h.1

-- ---- 1, of words that show a legal machine
pub never_1 : (m : Machine) (q : Request) → refusal m q ≡ 1 → ⊥
unfolding refusal
never_1 m (Send a ws) = lacking 1 _ (omega arith)
never_1 m (WaitAnswer a) = lacking 1 _ (omega arith)
never_1 m (WaitEvent d) = lacking 1 _ (omega arith)
never_1 m (SendAnswer a ws) = lacking 1 _ (omega arith)
never_1 m (WaitInterrupt a d) = lacking 1 _ (omega arith)
never_1 m (Start a) = lacking 1 _ (omega arith)
never_1 m (Stop a) = lacking 1 _ (omega arith)
never_1 m (Clean a) = lacking 1 _ (omega arith)
never_1 m Tick = λ e. omega arith
never_1 m (Interrupt a) = lacking 1 _ (omega arith)
never_1 m (ListOpen a room) = lacking 1 _ (omega arith)
never_1 m (Lower a) = lacking 1 _ (omega arith)
never_1 m (Raise a) = lacking 1 _ (omega arith)
never_1 m Unknown = λ e. omega arith

-- ---- 10: the room has a row for each of 128 buffers
pub never_10 : {m : Machine} → Legal m → (a : ℕ) → refusal m (ListOpen a room_words) ≡ 10 → ⊥
unfolding refusal first
never_10 {m} L a e =
    let l = from 1 m.B in
    let n : length (shown m a) ≤ m.B = few 0 m.B (shown m a) (keep_once _ l (from_once 1 m.B))
    (λ x i. (let h = in_from x 1 m.B (in_keep x (is_shown m a) l i).0 in omega arith)) in
    let enough = le-ltb room_words (row_width * length (shown m a)) (omega (arith, n, L.fixed.B128)) in
    tested {C = ⊥} (outside a m.P) (λ t. omega (arith, rw t at e)) (λ t. omega (arith, rw (t, enough) at e))

-- ---- 12: the table is of the largest size
pub never_12 : (list : List ℕ) → layout_refusal list 0 [] (length table) ≡ 12 → ⊥
unfolding layout_refusal first
never_12 list e =
    let ok = setting_ok 0 [] && (fives list && layout_ok (entries list)) in
    tested {C = ⊥} ok (λ t. omega (arith, rw (t, le-ltb (length table) (size (length (entries list)) (sum (entries list)) 0) (fits t)) at e))
    (λ t. omega (arith, rw t at e))
  where
    fits : (setting_ok 0 [] && (fives list && layout_ok (entries list))) ≡ true → size (length (entries list)) (sum (entries list)) 0 ≤ length table
    fits t =
        let a = and_true {a = setting_ok 0 []} t in
        let b = and_true {a = fives list} a.1 in
        let c = and_true {a = leb 1 (length (entries list))} b.1 in
        let d = and_true {a = leb (length (entries list)) 32} c.1 in
        let s = and_true {a = leb (sum (entries list)) 128} d.1 in
        omega (arith, leb-true (length (entries list)) 32 d.0, leb-true (sum (entries list)) 128 s.0, length-replicate {A = ℕ} 1864 0)

-- ---- no semaphores: calls 0C and 0D, whatever their parts, are refused with 2 while nobody is current, else with 19; so never with 20
module _ (m : Machine) (none : semaphores m ≡ 0) where
  pub no_semaphores : (a : ℕ) → (refusal m (Lower a) ≡ if (eqb (current m) 0) 2 19) × (refusal m (Raise a) ≡ if (eqb (current m) 0) 2 19)
  unfolding refusal first
  no_semaphores a =
      let out : outside a (semaphores m) ≡ true = outside_true (semaphores m) a (λ r. omega arith) in
      tested {C = (refusal m (Lower a) ≡ if (eqb (current m) 0) 2 19) × (refusal m (Raise a) ≡ if (eqb (current m) 0) 2 19)} (eqb (current m) 0)
      (λ t. rw t (refl, refl)) (λ t. rw (t, out) (refl, refl))

  pub never_20 : (q : Request) → refusal m q ≡ 20 → ⊥
  unfolding refusal
  never_20 (Send a ws) = lacking 20 _ (omega arith)
  never_20 (WaitAnswer a) = lacking 20 _ (omega arith)
  never_20 (WaitEvent d) = lacking 20 _ (omega arith)
  never_20 (SendAnswer a ws) = lacking 20 _ (omega arith)
  never_20 (WaitInterrupt a d) = lacking 20 _ (omega arith)
  never_20 (Start a) = lacking 20 _ (omega arith)
  never_20 (Stop a) = lacking 20 _ (omega arith)
  never_20 (Clean a) = lacking 20 _ (omega arith)
  never_20 Tick = λ e. omega arith
  never_20 (Interrupt a) = lacking 20 _ (omega arith)
  never_20 (ListOpen a room) = lacking 20 _ (omega arith)
  never_20 (Lower a) = lacking 20 _ (omega arith)
  never_20 (Raise a) = λ e. tested {C = ⊥} (eqb (current m) 0) (λ t. omega (arith, rw t at (sym (no_semaphores a).1 ∙ e)))
      (λ t. omega (arith, rw t at (sym (no_semaphores a).1 ∙ e)))
  never_20 Unknown = λ e. omega arith
