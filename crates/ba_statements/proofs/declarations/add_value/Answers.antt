use Rattle.std.proofs.Common.{◌==◌, Bool, ◌∙◌, ap}
use Rattle.ba_typing.specs.Expressions.{typed_conditional}
use Rattle.ba_typing.specs.Faults.{fault_if}
use Rattle.ba_expressions.specs.Inferring.{with_faults}
use Rattle.ba_typing.specs.declared.fault.Cause.TheVariants.{WrongKind}
use Rattle.ba_statements.proofs.Declaring.{value-is}
use Rattle.ba_statements.proofs.declarations.add_value.Goals as goal

pub returns : goal.returns
returns c = let scope = c.args.scope.now in let s = typed_conditional c.args.c.now scope
    c.args.tally.now.calls in
    value-is c.args.d.at c.args.d.t (scope.depth == 0) s c.in_ok-j.j c.args.tally.now c.whole.new.tally
    c.add_if.new.self
    c.in_ok-value.value c.args.values.now.items c.push.new.self.items c.in_ok-j.ensures.0 c.in_ok-j.ensures.1
    (c.add_if.ensures ∙ ap (λ (b : Bool). with_faults c.whole.new.tally (fault_if b WrongKind c.args.d.at))
    c.is_unfit.ensures)
    (c.in_ok-value.ensures s c.in_ok-j.ensures.0) c.in_ok-push.ensures.items
