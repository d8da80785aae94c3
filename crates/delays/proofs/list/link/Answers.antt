-- `link` meets its contract: four writes, after each of which the words have their size. Assumes nothing.
use native.Mathlib.Omega.{arith}
use Rattle.delays.proofs.Reading.{after_next, after_difference, linked_by}
use Rattle.delays.proofs.list.link.Goals as goal

pub put_difference-requires : goal.put_difference-requires
put_difference-requires c =
    let after-put-next = c in
    let start = after-put-next in
    let s = after_next _ _ _ after-put-next.put_next.ensures start.requires.0 in
    (s.size, omega (arith, s.processes))

pub put_next-requires-2 : goal.put_next-requires-2
put_next-requires-2 c =
    let after-put-difference = c in
    let after-put-next = after-put-difference in
    let start = after-put-next in
    let p = start.requires in
    let s = after_next _ _ _ after-put-next.put_next.ensures p.0 in
    let u = after_difference _ _ _ after-put-difference.put_difference.ensures p.1.1.0 s.size in
    (u.size, omega (arith, s.processes, u.processes))

pub earlier-requires : goal.earlier-requires
earlier-requires c =
    let after-put-next2 = c in
    let after-put-difference = after-put-next2 in
    let after-put-next = after-put-difference in
    let after-next' = after-put-next in
    let start = after-next' in
    let p = start.requires in
    let s = after_next _ _ _ after-put-next.put_next.ensures p.0 in
    let u = after_difference _ _ _ after-put-difference.put_difference.ensures p.1.1.0 s.size in
    let v = after_next _ _ _ after-put-next2.put_next-2.ensures u.size in (
      v.size,
      omega (
        arith,
        s.processes,
        u.processes,
        v.processes,
        after-next'.next-x.ensures.1,
      ),
    )

pub returns : goal.returns
returns c =
    let after-put-next2 = c.before.before.before.before.before.before in
    let after-put-difference = after-put-next2.before.before.before.before in
    linked_by _ _ _ _ after-put-difference.before.before.before.before.before.before.next-x.ensures.0
    after-put-difference.before.before.before.before.put_next.ensures
    after-put-difference.put_difference.ensures after-put-next2.put_next-2.ensures c.before.before.earlier.ensures
