-- `meets` meets its contract. The loop's invariant: what is left of the way comes to what the whole way does. Assumes nothing.
use mathlib.Core.Path.{◌≡◌, sym, ap, ◌∙◌}
use Prim.Native.Nat.{ℕ, ◌+◌, ◌-◌}
use native.Mathlib.Omega.{arith}
use Rattle.why.specs.QueueParts.{queues, meets}
use Rattle.why.specs.Looked.{number_of_kind}
use Rattle.why.proofs.Found.{in_range, within, without}
use Rattle.why.proofs.ByKind.{kind_fits}
use Rattle.why.proofs.Parts.{meets_spent, meets_out, meets_here, meets_goes, next_read}
use Rattle.why.proofs.queues.meets.Goals as goal

pub loop-init : goal.loop-init
loop-init c =
    let e : c.records-most.result - 0 ≡ c.records-most.result = omega arith in
    ap (λ (n : ℕ). meets (queues c.args.words.now (number_of_kind c.args.kind)) n c.args.at c.args.x) (e ∙ c.records-most.ensures.0)

pub returns-then-not-among : goal.returns-then-not-among
returns-then-not-among c =
    let e = without _ c.if-not-among.true c.among.ensures c.records-most.ensures.0 in
    sym (meets_out (queues c.args.words.now (number_of_kind c.args.kind)) _ _ _ e) ∙ c.loop.invariant

pub returns-then-here-x : goal.returns-then-here-x
returns-then-here-x c =
    let r = within c.if-not-among.false c.among.ensures c.records-most.ensures.0 in
    sym (meets_here (queues c.args.words.now (number_of_kind c.args.kind)) _ _ _ (omega arith) (in_range _ _ r) c.if-here-x.true) ∙ c.loop.invariant

pub links-requires : goal.links-requires
links-requires c =
    record { sized = c.requires; kind = kind_fits c.args.kind; is = within c.if-not-among.false c.among.ensures c.records-most.ensures.0 }

pub word-here-requires : goal.word-here-requires
word-here-requires c = omega (arith, c.links.ensures.1.0)

pub loop-preserved : goal.loop-preserved
loop-preserved c =
    let q = queues c.args.words.now (number_of_kind c.args.kind) in
    let r = within c.if-not-among.false c.among.ensures c.records-most.ensures.0 in
    let n = next_read c.requires (number_of_kind c.args.kind) c.loop.here c.links.ensures.0 c.word-here.ensures.0 in
    ap (λ (y : ℕ). meets q (c.records-most.result - (c.loop.counter + 1)) y c.args.x) n
    ∙ sym (meets_goes q c.args.x (c.records-most.result - c.loop.counter) (c.records-most.result - (c.loop.counter + 1)) c.loop.here (omega arith)
    (in_range _ _ r) c.if-here-x.false) ∙ c.loop.invariant

pub returns : goal.returns
returns c =
    let q = queues c.args.words.now (number_of_kind c.args.kind) in
    let e : c.records-most.result - c.loop.counter ≡ 0 = omega arith in
    sym (meets_spent q c.args.x c.loop.here) ∙ ap (λ (n : ℕ). meets q n c.loop.here c.args.x) (sym e) ∙ c.loop.invariant
