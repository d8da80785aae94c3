-- `grow` meets its contract: the age stays in a free buffer and at 65,535, and else is one more. Assumes nothing.
use mathlib.Core.Path.{sym, ap, ◌∙◌}
use Prim.Native.Nat.{ℕ, ◌+◌}
use native.Mathlib.Omega.{arith}
use Rattle.clock.proofs.Growing.{older_free, older_last, older_more, grow_stays, grow_more}
use Rattle.clock.proofs.grow.Goals as goal

pub returns-then-buffer_word-eq-FREE : goal.returns-then-buffer_word-eq-FREE
returns-then-buffer_word-eq-FREE c m s i =
    let free = sym (c.before.buffer_word.ensures m s (i, omega arith, omega arith)) ∙ c.if-buffer_word-eq-FREE.true in
    grow_stays _ m (older_free _ free) s

pub returns-then-age : goal.returns-then-age
returns-then-age c m s i =
    let standing = c.buffer_word.ensures m s (i, omega arith, omega arith) in
    let age = c.buffer_word-age.ensures m s (i, omega arith, omega arith) in
    grow_stays _ m (older_last _ (λ z. c.if-buffer_word-eq-FREE.false (standing ∙ z)) (sym age ∙ c.if-age.true)) s
