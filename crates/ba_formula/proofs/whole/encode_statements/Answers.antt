use Rattle.std.proofs.Common.{rules, All, subst}
use Rattle.ba_formula.proofs.Composing.{same-encoding}
use Rattle.ba_lits.specs.Formulas.{Cnf}
use Rattle.ba_lits.specs.Literals.{IsClause}
use Rattle.ba_formula.proofs.whole.encode_statements.Goals as goal

pub returns-clause-encodes : goal.returns-clause-encodes
returns-clause-encodes c = same-encoding c.args.words.now _ c.args.weights.now c.in_ok-encoded.encoded
    (search rules) c.in_ok-encoded.ensures

pub returns-clause-clauses : goal.returns-clause-clauses
returns-clause-clauses c =
    subst (λ (f : Cnf). All (IsClause f.variables) f.clauses) c.formula.ensures c.variables.ensures.clauses
