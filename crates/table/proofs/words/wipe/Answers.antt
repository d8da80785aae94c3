-- `words::wipe` meets its contract: standing, receiver, age and message in turn. Assumes nothing.
use native.Mathlib.Omega.{arith}
use lib.ListN.{length-set}
use lib.Dec.{lit<, lit≤}
use Rattle.table.proofs.Plain.{standing_at, no_receiver_at, content_at}
use Rattle.table.proofs.words.wipe.Goals as goal

pub returns : goal.returns
returns c m b s may e =
    let standing = standing_at s b _ 0 may e in
    let receiver = no_receiver_at standing b _ may e in
    let age = content_at receiver b 5 _ 0 may.is (lit≤ tt) (lit< tt) e in
    let first = content_at age b 6 _ 0 may.is (lit≤ tt) (lit< tt) e in
    let second = content_at first b 7 _ 0 may.is (lit≤ tt) (lit< tt) e in
    let third = content_at second b 8 _ 0 may.is (lit≤ tt) (lit< tt) e in
    content_at third b 9 _ 0 may.is (lit≤ tt) (lit< tt) e

pub bounds-t-start-2 : goal.bounds-t-start-2
bounds-t-start-2 c = simp length-set (omega arith)

pub bounds-t-start-3 : goal.bounds-t-start-3
bounds-t-start-3 c = simp length-set (omega arith)

pub bounds-t-start-4 : goal.bounds-t-start-4
bounds-t-start-4 c = simp length-set (omega arith)

pub bounds-t-start-5 : goal.bounds-t-start-5
bounds-t-start-5 c = simp length-set (omega arith)

pub bounds-t-start-6 : goal.bounds-t-start-6
bounds-t-start-6 c = simp length-set (omega arith)

pub bounds-t-start-7 : goal.bounds-t-start-7
bounds-t-start-7 c = simp length-set (omega arith)
