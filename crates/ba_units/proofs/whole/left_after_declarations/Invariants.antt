use Rattle.std.proofs.Common.{◌≡◌, ◌-◌, take}
use Rattle.std.specs.Prelude.{sum_by}
use Rattle.ba_tree.specs.Meaning.{variable_of}
use Rattle.ba_tree.specs.Units.{declaration_units}
use Rattle.ba_units.proofs.whole.left_after_declarations.Given as goal

abbrev pub invariant-loop-var : goal.invariant-loop-var
invariant-loop-var l =
    l.rest ≡ l.left - sum_by (λ v. declaration_units (variable_of l.program v).shape)
    (take l.var-index l.vars)
