use Rattle.std.proofs.Common.{sym, subst}
use Rattle.std.specs.Prelude.{OnOk}
use Rattle.ba_trees.specs.declared.tree.statements.Label.{Label}
use Rattle.ba_statements.specs.Labelling.{AddsLabel}
use Rattle.ba_typing.specs.Statements.{add_label}
use Rattle.ba_statements.proofs.labels.add_label.Goals as goal

pub returns-in-Case : goal.returns-in-Case
returns-in-Case c =
    let switch = c.args.switch.now in
    let t = c.args.tally.now in
    subst (λ (l : Label). OnOk c.add_case.result (AddsLabel
    (add_label switch.t switch.at l c.args.labels.now c.args.count c.args.scope.now t.calls) t
    c.add_case.new.tally c.add_case.new.labels)) (sym c.in-Case.is) c.add_case.ensures

pub returns-in-Default : goal.returns-in-Default
returns-in-Default c =
    let switch = c.args.switch.now in
    let t = c.args.tally.now in
    subst (λ (l : Label). AddsLabel
    (add_label switch.t switch.at l c.args.labels.now c.args.count c.args.scope.now t.calls) t
    c.add_default.new.tally c.add_default.new.labels) (sym c.in-Default.is) c.add_default.ensures
