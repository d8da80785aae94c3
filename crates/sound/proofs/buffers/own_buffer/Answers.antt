-- `sound::buffers::own_buffer` meets its contract: the value of its tests in turn. Assumes nothing.
use mathlib.Core.Path.{◌≡◌, refl}
use mathlib.Core.List.{List}
use mathlib.Core.Bool.{true, false, and-eq-true_iff}
use Prim.Native.Nat.{ℕ, ◌+◌}
use native.Mathlib.Omega.{arith}
use lib.ListN.{get_or}
use borrow.Author.Tests.{eq-eqb, ne_eqb, eqb-true}
use Rattle.machine.specs.Queue.{if}
use Rattle.lists.specs.Counts.{bit}
use Rattle.sound.specs.Buffers.{queued, free, received, held, owned, own_buffer}
use Rattle.sound.specs.Queues.{failed}
use Rattle.sound.proofs.Found.{found, call_yes, call_no, not_call_yes, not_call_no}
use Rattle.sound.proofs.buffers.own_buffer.Goals as goal

-- what an owned buffer gives, by its standing and its receiver
module _ (w : List ℕ) (start p processes : ℕ) (own : owned w start p ≡ true) where
  abbrev standing : ℕ
  standing = get_or w (start + 4) 0

  abbrev receiver : ℕ
  receiver = get_or w (start + 3) 0

  abbrev Gives : ℕ → Type 0
  Gives r = r ≡ if (own_buffer w start p processes) (bit (queued standing)) failed

  to_another : standing ≡ 1 → (receiver ≡ p → ⊥) → Gives 1
  unfolding own_buffer
  to_another s n = rw (own, eq-eqb standing 1 s, ne_eqb receiver p n) refl

  to_itself : standing ≡ 1 → receiver ≡ p → Gives failed
  unfolding own_buffer
  to_itself s e = rw (own, eq-eqb standing 1 s, eq-eqb receiver p e) refl

  module _ (n : standing ≡ 1 → ⊥) where
    is_free : receiver ≡ 0 → free w start standing ≡ true → Gives 0
    unfolding own_buffer
    is_free e t = rw (own, ne_eqb standing 1 n, eq-eqb receiver 0 e, t, ne_eqb standing 3 answered) refl
      where
        answered : standing ≡ 3 → ⊥
        answered s = let z = eqb-true standing 0 ((and-eq-true_iff _ _).0 t).0 in omega arith

    not_free : receiver ≡ 0 → free w start standing ≡ false → Gives failed
    unfolding own_buffer
    not_free e t = rw (own, ne_eqb standing 1 n, eq-eqb receiver 0 e, t) refl

    module _ (m : receiver ≡ 0 → ⊥) where
      not_received : received receiver p processes ≡ false → Gives failed
      unfolding own_buffer
      not_received t = rw (own, ne_eqb standing 1 n, ne_eqb receiver 0 m, t) refl

      module _ (t : received receiver p processes ≡ true) where
        answered : standing ≡ 3 → Gives 1
        unfolding own_buffer
        answered s = rw (own, ne_eqb standing 1 n, ne_eqb receiver 0 m, t, eq-eqb standing 3 s) refl

        is_held : (standing ≡ 3 → ⊥) → held w start standing ≡ true → Gives 0
        unfolding own_buffer
        is_held k h = rw (own, ne_eqb standing 1 n, ne_eqb receiver 0 m, t, ne_eqb standing 3 k, h) refl

        not_held : (standing ≡ 3 → ⊥) → held w start standing ≡ false → Gives failed
        unfolding own_buffer
        not_held k h = rw (own, ne_eqb standing 1 n, ne_eqb receiver 0 m, t, ne_eqb standing 3 k, h) refl

pub returns-then-not-owned : goal.returns-then-not-owned
unfolding own_buffer
returns-then-not-owned c = search found depth 12

pub returns-then-receiver-p : goal.returns-then-receiver-p
returns-then-receiver-p c =
    let here = c.before.before.before.before in
    to_another _ _ _ _ (not_call_no here.before.owned.ensures here.if-not-owned.false-raw) c.before.if-standing-eq-QUEUED.true c.if-receiver-p.true

pub returns-then-standing-eq-QUEUED : goal.returns-then-standing-eq-QUEUED
returns-then-standing-eq-QUEUED c =
    let here = c.before.before.before.before in
    to_itself _ _ _ _ (not_call_no here.before.owned.ensures here.if-not-owned.false-raw) c.before.if-standing-eq-QUEUED.true c.if-receiver-p.false

pub returns-then-free : goal.returns-then-free
returns-then-free c =
    let here = c.before.before.before.before.before.before in
    is_free _ _ _ _ (not_call_no here.before.owned.ensures here.if-not-owned.false-raw) c.before.before.before.if-standing-eq-QUEUED.false
    c.before.before.if-receiver-eq0.true (call_yes c.before.free.ensures c.if-free.true)

pub returns-then-receiver-eq0 : goal.returns-then-receiver-eq0
returns-then-receiver-eq0 c =
    let here = c.before.before.before.before.before.before in
    not_free _ _ _ _ (not_call_no here.before.owned.ensures here.if-not-owned.false-raw) c.before.before.before.if-standing-eq-QUEUED.false
    c.before.before.if-receiver-eq0.true (call_no c.before.free.ensures c.if-free.false)

pub returns-then-not-received : goal.returns-then-not-received
returns-then-not-received c =
    let here = c.before.before.before.before.before.before in
    not_received _ _ _ _ (not_call_no here.before.owned.ensures here.if-not-owned.false-raw) c.before.before.before.if-standing-eq-QUEUED.false
    c.before.before.if-receiver-eq0.false (not_call_yes c.before.received.ensures c.if-not-received.true-raw)

pub returns-then-standing-eq-ANSWERED : goal.returns-then-standing-eq-ANSWERED
returns-then-standing-eq-ANSWERED c =
    let here = c.before.before.before.before in
    let further = here.before.before.before.before in
    answered _ _ _ _ (not_call_no further.owned.ensures here.before.before.before.if-not-owned.false-raw) here.if-standing-eq-QUEUED.false
    c.before.before.before.if-receiver-eq0.false (not_call_no c.before.before.received.ensures c.before.if-not-received.false-raw)
    c.if-standing-eq-ANSWERED.true

pub returns-then-held : goal.returns-then-held
returns-then-held c =
    let here = c.before.before.before.before in
    let further = here.before.before.before.before.before in
    is_held _ _ _ _ (not_call_no further.before.owned.ensures further.if-not-owned.false-raw) here.before.before.if-standing-eq-QUEUED.false
    here.before.if-receiver-eq0.false (not_call_no here.received.ensures c.before.before.before.if-not-received.false-raw)
    c.before.before.if-standing-eq-ANSWERED.false
    (call_yes c.before.held.ensures c.if-held.true)

pub returns : goal.returns
returns c =
    let here = c.before.before.before.before in
    let further = here.before.before.before.before.before in
    not_held _ _ _ _ (not_call_no further.before.owned.ensures further.if-not-owned.false-raw) here.before.before.if-standing-eq-QUEUED.false
    here.before.if-receiver-eq0.false (not_call_no here.received.ensures c.before.before.before.if-not-received.false-raw)
    c.before.before.if-standing-eq-ANSWERED.false
    (call_no c.before.held.ensures c.if-held.false)
