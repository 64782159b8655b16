-- The trees of what is at the level of the file, written out.

use Rattle.std.specs.Prelude.{List, [], ◌∷◌, ◌++◌, option_map}
use Rattle.ba_trees.specs.declared.tree.statements.External.{External}
use Rattle.ba_trees.specs.declared.tree.statements.ExternalForm.{ExternalForm}
use Rattle.ba_trees.specs.declared.tree.statements.ExternalForm.TheVariants.{Variables, Function}
use Rattle.ba_trees.specs.declared.tree.statements.FunctionEnd.{FunctionEnd}
use Rattle.ba_trees.specs.declared.tree.statements.FunctionEnd.TheVariants.{Body, Prototype}
use Rattle.ba_trees.specs.Marks.{Mark, leaf, node_of, one_deeper, external}
use Rattle.ba_trees.specs.Views.{optional}
use Rattle.ba_trees.specs.DeclarationMarks.{declarators_marks, parameters_marks, specifiers_marks}
use Rattle.ba_trees.specs.StatementMarks.{block_marks}

abbrev pub end_marks : FunctionEnd → List Mark
end_marks (Body b) = block_marks b
end_marks (Prototype semicolon) = leaf semicolon ∷ []

abbrev pub external_form_marks : ExternalForm → List Mark
external_form_marks (Variables declarators semicolon) = optional (option_map declarators_marks declarators)
    ++ leaf semicolon ∷ []
external_form_marks (Function name opener parameters closer end) =
    leaf name ∷ leaf opener ∷ one_deeper (parameters_marks parameters) ++ leaf closer ∷ end_marks
    end

abbrev pub external_marks : External → List Mark
external_marks e = node_of external (specifiers_marks e.specifiers ++ external_form_marks e.form)
