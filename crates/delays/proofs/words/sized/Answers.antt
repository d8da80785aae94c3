-- `sized` meets its contract, where there are two words and where not. Assumes nothing.
use Prim.Native.Nat.{◌≤◌, ◌<◌}
use native.Mathlib.Omega.{arith}
use borrow.Author.Tests.{le-leb, lt-leb}
use Rattle.delays.specs.Words.{P_of, sized}
use Rattle.delays.proofs.Reading.{sized_short}
use Rattle.delays.proofs.words.sized.Goals as goal

pub returns-in_default : goal.returns-in_default
returns-in_default c = sized_short _ c.in_default.len_below

pub returns-in_default-2 : goal.returns-in_default-2
unfolding sized
returns-in_default-2 c = let h : P_of c.args.t.now < 1 = omega arith in rw (lt-leb 1 _ h)

pub returns-in_default-3 : goal.returns-in_default-3
unfolding sized
returns-in_default-3 c =
    let f : 1 ≤ P_of c.args.t.now = omega arith in
    let h : 32 < P_of c.args.t.now = omega arith in
    rw (le-leb 1 _ f, lt-leb _ 32 h)

pub returns : goal.returns
unfolding sized
returns c =
    let f : 1 ≤ P_of c.args.t.now = omega arith in
    let h : P_of c.args.t.now ≤ 32 = omega arith in
    rw (c.words_for.ensures, le-leb 1 _ f, le-leb _ 32 h)
