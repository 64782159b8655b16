use Rattle.std.proofs.Common.{List, length, sym, ap, arith}
use Rattle.std.proofs.lemmas.List.{length-map}
use Rattle.ba_trees.specs.declared.tree.expressions.Expressions.{out-Expressions}
use Rattle.ba_typing.specs.Expressions.{Typing, typed_next}
use Rattle.ba_expressions.proofs.ParsedForms.{arguments-none, arguments-some}
use Rattle.ba_expressions.proofs.expressions.count_of.Goals as goal

pub returns-in-None : goal.returns-in-None
returns-in-None c = sym (ap length (arguments-none c.args.a.now c.in-None.is))

pub returns-in-Some : goal.returns-in-Some
returns-in-Some c = let rest = (out-Expressions c.in-Some.values).rest.items in
    let many = length-map rest typed_next in
    let all = ap (λ (xs : List Typing). length xs) (arguments-some c.args.a.now c.in-Some.values
    c.in-Some.is) in
    grind (arith, many, all, c.len.ensures)
