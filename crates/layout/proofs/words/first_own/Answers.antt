-- `first_own` meets its contract: 0 for none, else one behind what the processes before have. Assumes nothing.
use Prim.Native.Nat.{suc}
use native.Mathlib.Numerals.{add-one}
use mathlib.Core.Path.{sym, ap, ◌∙◌}
use Rattle.lists.proofs.Links.{yes_same, no_same}
use Rattle.layout.proofs.Given.{field_at}
use Rattle.layout.proofs.words.first_own.Goals as goal

pub returns-then-list-p-eq0 : goal.returns-then-list-p-eq0
returns-then-list-p-eq0 c =
    let s = c.before.before.before in
    sym (yes_same _ 0 0 _ (sym (field_at s.requires.0 (λ x. x.owns) s.args.p s.requires.1) ∙ c.if-list-p-eq0.true))

pub returns : goal.returns
returns c =
    let s = c.before.before.before.before in
    add-one _ ∙ ap suc c.given_before.ensures.0
    ∙ sym (no_same _ 0 0 _ (λ e. c.before.if-list-p-eq0.false (field_at s.requires.0 (λ x. x.owns) s.args.p s.requires.1 ∙ e)))
