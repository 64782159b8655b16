use Rattle.std.proofs.Common.{◌≡◌, None, option_map, Bor}
use Rattle.ba_tree.specs.declared.tree.Arg.{Arg}
use Rattle.ba_units.specs.Lengths.{argument_at}
use Rattle.ba_units.proofs.frame.argument_for.Given as goal

-- the whole is what was found and what is left from here
abbrev pub invariant-loop-param : goal.invariant-loop-param
invariant-loop-param l = argument_at l.params l.args l.var None
    ≡ argument_at l.param-iterator.a.rest.now l.param-iterator.b.rest.now l.var
    (option_map (λ (arg : Bor Arg). arg.now) l.found)
