-- The tree of a file, written out.

use Rattle.std.specs.Prelude.{List, map}
use Rattle.ba_trees.specs.declared.tree.statements.RawProgram.{RawProgram}
use Rattle.ba_trees.specs.Marks.{Mark, node_of, file}
use Rattle.ba_trees.specs.Views.{joined}
use Rattle.ba_trees.specs.ExternalMarks.{external_marks}

abbrev pub file_marks : RawProgram → List Mark
file_marks p = node_of file (joined (map external_marks p.externals.items))
