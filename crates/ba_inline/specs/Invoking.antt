-- Calls of a function with given arguments.

use Rattle.std.specs.Prelude.{ℤ, List}
use Rattle.ba_inline.specs.Making.{Part, reading_arguments}
use Rattle.ba_inline.specs.Parts.{context_in_frame}
use Rattle.ba_inline.specs.declared.frames.Frame.{Frame}
use Rattle.ba_inline.specs.declared.frames.Given.{Given}
use Rattle.ba_numbers.specs.declared.ids.FnId.{FnId}
use Rattle.ba_numbers.specs.declared.ids.StmtId.{StmtId}
use Rattle.ba_tree.specs.declared.tree.Program.{Program}

-- a call with given arguments, by the tree's meaning
abbrev pub invoke_part : Program → Frame → StmtId → FnId → List Given → Part ℤ
invoke_part p frame here function gives w path t =
    (context_in_frame p frame w).calls path here function (reading_arguments gives t)
