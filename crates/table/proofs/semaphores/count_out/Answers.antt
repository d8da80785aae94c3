-- `semaphores::count_out` meets its contract: the counter raised, the name taken away. Assumes nothing.
use mathlib.Core.Path.{ap, sym, ◌∙◌}
use Rattle.machine.specs.Machine.{up}
use Rattle.table.proofs.semaphores.count_out.Goals as goal

pub counter_word-requires : goal.counter_word-requires
counter_word-requires c = let p = c.requires in record { m = p.m; shows = p.shows; may = p.may.0 }

pub raise-raised-requires : goal.raise-raised-requires
raise-raised-requires c =
    let p = c.requires in
    λ k. p.may.1 (sym (c.counter_word.ensures p.m p.shows p.may.0) ∙ k)

pub set_counter-requires : goal.set_counter-requires
set_counter-requires c = let p = c.requires in record { m = p.m; shows = p.shows; may = p.may.0 }

pub returns : goal.returns
returns c m s may =
    let after-set-counter = c.before.before.before.before.before.before in
    let after-raise = after-set-counter.before.before in
    let after-counter-word = after-raise.before in
    let e = after-raise.raise-raised.ensures
    ∙ ap up (after-counter-word.counter_word.ensures m s may.0) in
    rw e at (c.before.before.set_named.ensures _ (after-set-counter.set_counter.ensures m s may.0) may.2)

pub set_named-requires : goal.set_named-requires
set_named-requires c =
    let after-set-counter = c.before.before.before in
    let start = after-set-counter in
    let p = start.requires in
    record { m = _; shows = after-set-counter.set_counter.ensures p.m p.shows p.may.0; may = p.may.2 }
