-- Its words and its length have no node without a name.

use Rattle.std.proofs.Common.{sym, ◌∙◌, option_map}
use Rattle.ba_trees.specs.DeclarationMarks.{array_length_marks}
use Rattle.ba_trees.specs.ExpressionMarks.{type_name_marks}
use Rattle.ba_trees.specs.Views.{optional}
use Rattle.ba_parse.proofs.Named.{parameter_named}
use Rattle.ba_parse.proofs.Quiet.{quiet_type, quiet_length}
use Rattle.ba_parse.proofs.naming.is_named.Goals as goal

pub returns : goal.returns
returns c =
    let p = c.args.parameter.now in
    c.is_some.ensures
    ∙ sym (parameter_named (type_name_marks p.type_name) (optional (option_map array_length_marks p.length))
    p.name (quiet_type p.type_name) (quiet_length p.length))
