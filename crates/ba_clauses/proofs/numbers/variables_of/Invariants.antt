use Rattle.std.proofs.Common.{◌≡◌, length}
use Rattle.ba_clauses.specs.Sides.{IsNumbering}
use Rattle.ba_clauses.proofs.numbers.variables_of.Given as goal

abbrev pub invariant-loop-number : goal.invariant-loop-number
invariant-loop-number l = record {
  numbering : IsNumbering l.nodes l.uses l.variables.items l.formula.variables;
  size : length l.variables.items ≡ l.number;
  clauses : l.formula.clauses ≡ l.fn.formula.clauses;
}
