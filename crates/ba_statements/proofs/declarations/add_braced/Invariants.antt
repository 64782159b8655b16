use Rattle.std.proofs.Common.{◌≡◌, ◌==◌, map, drop}
use Rattle.ba_statements.specs.Adding.{initialising, keep_each, kept}
use Rattle.ba_typing.specs.Declarations.{braced_values}
use Rattle.ba_typing.specs.Expressions.{typed_next}
use Rattle.ba_statements.proofs.declarations.add_braced.Given as goal

abbrev pub invariant-loop-next : goal.invariant-loop-next
invariant-loop-next l = let how = initialising l.d.at l.d.t (l.scope.depth == 0) in
    keep_each how l.scope (map typed_next (drop l.next-index l.next-items)) (kept l.tally l.values)
    ≡ keep_each how l.scope (braced_values l.braced) (kept l.fn.tally l.fn.values)
