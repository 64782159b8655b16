use Rattle.std.proofs.Common.{◌++◌, sym, ◌∙◌, ap}
use Rattle.ba_typing.specs.Expressions.{Typed, array_arg}
use Rattle.ba_typing.specs.Faults.{fault}
use Rattle.ba_expressions.specs.Inferring.{after}
use Rattle.ba_tree.specs.Trees.{value}
use Rattle.ba_typing.specs.declared.fault.Cause.TheVariants.{WrongKind}
use Rattle.ba_expressions.proofs.ArgumentSteps.{arg-Value, arg-Array}
use Rattle.ba_expressions.proofs.Tallies.{faults-before}
use Rattle.ba_expressions.proofs.arguments.array_arg.Goals as goal

pub returns-in-None-clause-tree : goal.returns-in-None-clause-tree
returns-in-None-clause-tree c s is = arg-Value c.args.j.expr ∙ ap (λ (s : Typed). value s.tree) is
    ∙ sym (ap (λ array. (array_arg array s).given) c.in-None.is)

pub returns-in-None-clause-faults : goal.returns-in-None-clause-faults
returns-in-None-clause-faults c base s before stands =
    faults-before base c.args.tally.now c.add_if.new.self s.calls s.faults (fault WrongKind c.args.j.first)
    stands.1
    c.add_if.ensures
    ∙ ap (λ (u : Typed). after base s.calls (fault WrongKind u.first ++ s.faults)) stands.0
    ∙ sym (ap (λ array. after base s.calls (array_arg array s).expression.faults) c.in-None.is)

pub returns-in-Some-clause-tree : goal.returns-in-Some-clause-tree
returns-in-Some-clause-tree c s is = arg-Array c.in-Some.array
    ∙ sym (ap (λ array. (array_arg array s).given) c.in-Some.is)
