-- `unlink` meets its contract: two writes, after which the words have their size. Assumes nothing.
use native.Mathlib.Omega.{arith}
use Rattle.delays.proofs.Reading.{after_next}
use Rattle.delays.proofs.list.unlink.Goals as goal

pub later-requires : goal.later-requires
later-requires c =
    let after-put-next = c in
    let after-next' = after-put-next in
    let start = after-next' in
    let s = after_next _ _ _ after-put-next.put_next.ensures
    start.requires.0 in
    (s.size, omega (arith, s.processes, after-next'.next-x.ensures.1))

pub returns : goal.returns
returns c =
    (cc)
