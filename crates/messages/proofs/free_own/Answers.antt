-- `free_own` meets its contract. The loop's invariant: none of the first i of p's own buffers is free. Assumes nothing.
use mathlib.Core.Path.{sym, ◌∙◌}
use native.Mathlib.Omega.{arith}
use Rattle.lists.proofs.Links.{cases}
use Rattle.answers.proofs.Promises.{can}
use Rattle.messages.proofs.OwnRun.{own_is, own_lowest, own_none}
use Rattle.messages.proofs.free_own.Goals as goal

pub returns-then-buffer_word-eq-FREE : goal.returns-then-buffer_word-eq-FREE
returns-then-buffer_word-eq-FREE c m w o =
    let h = c.loop-i-test.true in
    let f = c.process_word-first.ensures m w (o.1, omega arith, omega arith) in
    let k = c.process_word-n.ensures m w (o.1, omega arith, omega arith) in
    let s = c.buffer_word.ensures m w ((own_is o f k c.loop-i.i h).0, omega arith, omega arith) in
    own_lowest o f k c.loop-i.i h (c.loop-i.invariant m w o) (sym s ∙ c.if-buffer_word-eq-FREE.true)

pub overflow_add-b : goal.overflow_add-b
overflow_add-b c =
    let p = c.requires in
    let o = p.may in
    let f = c.process_word-first.ensures p.m p.shows (o.1, omega arith, omega arith) in
    let k = c.process_word-n.ensures p.m p.shows (o.1, omega arith, omega arith) in
    omega (arith, (own_is o f k c.loop-i.i c.loop-i-test.true).0, o.0.fixed.B128)

pub buffer_word-requires : goal.buffer_word-requires
buffer_word-requires c =
    can c.requires
    (λ m w o. (let f = c.process_word-first.ensures m w (o.1, omega arith, omega arith) in
    let k = c.process_word-n.ensures m w (o.1, omega arith, omega arith) in
    ((own_is o f k c.loop-i.i c.loop-i-test.true).0, omega arith, omega arith)))

pub loop-i-preserved : goal.loop-i-preserved
loop-i-preserved c = λ m w o j h. cases j c.loop-i.i
    (λ e. (let f = c.process_word-first.ensures m w (o.1, omega arith, omega arith) in
    let k = c.process_word-n.ensures m w (o.1, omega arith, omega arith) in
    let s = c.buffer_word.ensures m w ((own_is o f k c.loop-i.i c.loop-i-test.true).0, omega arith, omega arith) in
    rw e (λ z. c.if-buffer_word-eq-FREE.false (s ∙ z))))
    (λ d. c.loop-i.invariant m w o j (omega arith))

pub returns : goal.returns
returns c m w o =
    let f = c.process_word-first.ensures m w (o.1, omega arith, omega arith) in
    let k = c.process_word-n.ensures m w (o.1, omega arith, omega arith) in
    own_none o f k (λ j h. c.loop-i.invariant m w o j (omega arith))
