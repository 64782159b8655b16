use Rattle.std.proofs.Common.{Option, Some, sym, ◌∙◌, ap, subst}
use Rattle.std.specs.Prelude.{IfOk}
use Rattle.ba_trees.specs.declared.tree.expressions.Conditional.{Conditional}
use Rattle.ba_trees.specs.declared.tree.statements.Index.{Index}
use Rattle.ba_statements.specs.Adding.{GivesTarget}
use Rattle.ba_typing.specs.Expressions.{Typing, typed_conditional}
use Rattle.ba_typing.specs.Names.{name_of}
use Rattle.ba_typing.specs.Statements.{index_typing, typed_target}
use Rattle.ba_statements.proofs.assignments.target_of.Goals as goal

pub returns-in-None : goal.returns-in-None
returns-in-None c = let scope = c.args.scope.now in let old = c.args.tally.now in
    let name = c.args.target.now.name in
    subst (λ (o : Option Index). GivesTarget c.args.at name.at c.args.op
    (typed_target name.at (name_of name) (index_typing o) scope old.calls) old c.variable_target.new.tally
    c.variable_target.result)
    (sym c.in-None.is) c.variable_target.ensures

pub returns-in-Some : goal.returns-in-Some
returns-in-Some c = let scope = c.args.scope.now in let old = c.args.tally.now in
    let name = c.args.target.now.name in
    subst (λ (o : Option Typing). IfOk c.element_target.result (λ j. GivesTarget c.args.at name.at c.args.op
    (typed_target name.at (name_of name) o scope old.calls) old c.element_target.new.tally j))
    (ap (λ (e : Conditional). Some (typed_conditional e)) c.deref.ensures ∙ sym (ap index_typing
    c.in-Some.is))
    c.element_target.ensures
