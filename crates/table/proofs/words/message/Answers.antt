-- `words::message` meets its contract: the four words read. Assumes nothing.
use native.Mathlib.Omega.{arith}
use mathlib.Core.Path.{refl}
use Rattle.table.proofs.words.message.Goals as goal

pub returns : goal.returns
returns c m w i =
    let w₀ = c.buffer_word.ensures m w (i, omega arith, omega arith) in
    let w₁ = c.buffer_word-2.ensures m w (i, omega arith, omega arith) in
    let w₂ = c.buffer_word-3.ensures m w (i, omega arith, omega arith) in
    let w₃ = c.buffer_word-4.ensures m w (i, omega arith, omega arith) in
    rw (w₀, w₁, w₂, w₃) refl
