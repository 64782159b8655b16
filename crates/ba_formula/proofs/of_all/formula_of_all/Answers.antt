use Rattle.std.proofs.Common.{All}
use Rattle.ba_encode.specs.Encodings.{IsEncodingOf}
use Rattle.ba_encode.specs.declared.encoded.Encoded.{Encoded}
use Rattle.ba_encode.specs.declared.grouping.Grouping.TheVariants.{ByStatement}
use Rattle.ba_formula.proofs.Composing.{formula-of-all-is, two-ok}
use Rattle.ba_formula.specs.AllFormulas.{IsFormulaOfAll}
use Rattle.ba_lits.specs.Literals.{IsClause}
use Rattle.ba_formula.proofs.of_all.formula_of_all.Goals as goal

pub returns : goal.returns
returns c =
    let p = c.args.program.now in
    let inputs = c.args.inputs.now in
    let b = c.args.bounds in
    let weights = c.args.weights.now in
    two-ok c.encode_statements.result (IsEncodingOf c.in_ok-words.words (ByStatement weights))
    (λ (encoded : Encoded). All (IsClause encoded.formula.variables) encoded.formula.clauses)
    (IsFormulaOfAll p inputs b weights.of)
    (formula-of-all-is p inputs b weights c.requires.weights c.in_ok-words.words c.in_ok-words.ensures)
    c.encode_statements.ensures.encodes c.encode_statements.ensures.clauses
