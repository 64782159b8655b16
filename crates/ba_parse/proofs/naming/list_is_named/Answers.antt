-- The first parameter and the others.

use Rattle.std.proofs.Common.{◌≡◌, true, false, not, ◌&&◌, map, sym, ◌∙◌, ap}
use Rattle.std.specs.List.{list_all}
use Rattle.ba_parse.specs.Grammar.{has_unnamed}
use Rattle.ba_trees.specs.DeclarationMarks.{parameter_marks, next_parameter_marks}
use Rattle.ba_trees.specs.Views.{joined}
use Rattle.ba_parse.proofs.Named.{all_named, both_named}
use Rattle.ba_parse.proofs.naming.list_is_named.Goals as goal

pub returns-then-is_named : goal.returns-then-is_named
returns-then-is_named c =
    let p = c.args.list.now in
    let first : not (has_unnamed (parameter_marks p.first)) ≡ true = sym c.is_named.ensures
    ∙ c.if-is_named.true in
    let rest : c.each_is_named.result ≡ list_all (λ n. not (has_unnamed (next_parameter_marks n)))
    p.rest.items = rw c.as_slice.ensures.value at c.each_is_named.ensures in
    rest ∙ all_named p.rest.items
    ∙ ap (λ b. b && not (has_unnamed (joined (map next_parameter_marks p.rest.items)))) (sym first)
    ∙ both_named (parameter_marks p.first) (joined (map next_parameter_marks p.rest.items))

pub returns-else-is_named : goal.returns-else-is_named
returns-else-is_named c =
    let p = c.args.list.now in
    let first : not (has_unnamed (parameter_marks p.first)) ≡ false = sym c.is_named.ensures
    ∙ c.if-is_named.false in
    c.if-is_named.false
    ∙ ap (λ b. b && not (has_unnamed (joined (map next_parameter_marks p.rest.items)))) (sym first)
    ∙ both_named (parameter_marks p.first) (joined (map next_parameter_marks p.rest.items))
