-- The parameters in their list.

use Rattle.std.proofs.Common.{not, sym, ◌∙◌, ap, option_map}
use Rattle.ba_parse.specs.Grammar.{has_unnamed}
use Rattle.ba_trees.specs.DeclarationMarks.{parameter_list_marks}
use Rattle.ba_trees.specs.Marks.{node_of, parameters}
use Rattle.ba_trees.specs.Views.{optional}
use Rattle.ba_parse.proofs.Named.{parameters_named}
use Rattle.ba_parse.proofs.naming.are_named.Goals as goal

pub returns-in-Some : goal.returns-in-Some
returns-in-Some c =
    c.list_is_named.ensures
    ∙ ap not (sym (parameters_named (parameter_list_marks c.in-Some.list)))
    ∙ ap (λ list. not (has_unnamed (node_of parameters (optional (option_map parameter_list_marks list)))))
    (sym c.in-Some.is)
