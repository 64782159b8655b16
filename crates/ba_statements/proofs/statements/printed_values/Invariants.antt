use Rattle.std.proofs.Common.{◌≡◌, [], map, drop}
use Rattle.ba_statements.specs.Adding.{keep_each, kept, printing}
use Rattle.ba_typing.specs.Expressions.{typed_next}
use Rattle.ba_typing.specs.Statements.{printed_typings}
use Rattle.ba_statements.proofs.statements.printed_values.Given as goal

abbrev pub invariant-loop-next : goal.invariant-loop-next
invariant-loop-next l =
    keep_each (printing l.at) l.scope (map typed_next (drop l.next-index l.next-items)) (kept l.tally
    l.values)
    ≡ keep_each (printing l.at) l.scope (printed_typings l.printed) (record {
      trees = [];
      tally = l.fn.tally;
    })
