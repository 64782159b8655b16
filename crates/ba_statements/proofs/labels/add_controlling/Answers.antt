use Rattle.std.proofs.Common.{subst}
use Rattle.ba_trees.specs.declared.tree.expressions.Conditional.{Conditional}
use Rattle.ba_typing.specs.Expressions.{typed_conditional}
use Rattle.ba_typing.specs.Statements.{test_of}
use Rattle.ba_expressions.specs.Inferring.{Stands}
use Rattle.ba_statements.proofs.LabelSteps.{controlling-is}
use Rattle.ba_statements.proofs.labels.add_controlling.Goals as goal

pub returns : goal.returns
returns c =
    let w = c.args.work.now in
    let scope = c.args.scope.now in
    let s = test_of c.args.condition.now scope w.tally.calls in
    let inferred : Stands c.in_ok-j.j s w.tally c.conditional.new.tally =
    subst (λ (e : Conditional). Stands c.in_ok-j.j (typed_conditional e scope w.tally.calls) w.tally
    c.conditional.new.tally) c.deref.ensures c.in_ok-j.ensures in
    controlling-is s scope w c.number.new.self c.in_ok-j.j c.conditional.new.tally c.add_limit.new.self
    c.in_ok-stmt.stmt c.promoted-t.result c.in_ok-on.on inferred c.add_limit.ensures c.in_ok-stmt.ensures
    c.promoted-t.ensures (c.in_ok-on.ensures s inferred.0)
