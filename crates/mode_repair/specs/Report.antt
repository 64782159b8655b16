-- THE REPORT of edits.

use Rattle.std.specs.Prelude.{ℕ, Option, None, Some, List, [], ◌++◌, length, flat_map, codes, decimal}
use Rattle.std.specs.Fmt.{signed_decimal}
use Rattle.ba_bytes.specs.Lines.{lines_of}
use Rattle.ba_numbers.specs.declared.numbers.BinOp.{BinOp}
use Rattle.ba_numbers.specs.declared.numbers.BinOp.TheVariants.{Mul, Div, Rem, Add, Sub, Shl, Shr, Lt, Le, Gt, Ge, Eq, Ne, And, Xor, Or}
use Rattle.ba_repair.specs.declared.listing.Change.{Change}
use Rattle.ba_repair.specs.declared.listing.Change.TheVariants as change
use Rattle.ba_repair.specs.declared.listing.Edit.{Edit}
use Rattle.ba_report.specs.Lines.{line_at}
use Rattle.ba_report.specs.Report.{statement_head, source_text}
use Rattle.ba_tree.specs.Choices.{info_of}
use Rattle.ba_tree.specs.declared.tree.Program.{Program}
use Rattle.ba_tree.specs.declared.tree.StmtInfo.{StmtInfo}

-- AN OPERATOR as C writes it
abbrev pub operator_word : BinOp → List ℕ
operator_word Mul = codes "*"
operator_word Div = codes "/"
operator_word Rem = codes "%"
operator_word Add = codes "+"
operator_word Sub = codes "-"
operator_word Shl = codes "<<"
operator_word Shr = codes ">>"
operator_word Lt = codes "<"
operator_word Le = codes "<="
operator_word Gt = codes ">"
operator_word Ge = codes ">="
operator_word Eq = codes "=="
operator_word Ne = codes "!="
operator_word And = codes "&"
operator_word Xor = codes "^"
operator_word Or = codes "|"

-- A CHANGE: `FROM -> TO`, constants in decimal
abbrev pub change_text : Change → List ℕ
change_text (change.Constant from to) = signed_decimal from ++ codes " -> " ++ signed_decimal to
change_text (change.Operator from to) = operator_word from ++ codes " -> " ++ operator_word to
change_text change.ToOr = codes "&& -> ||"
change_text change.ToAnd = codes "|| -> &&"

-- THE LINES of a report, by the lines of the source

-- that of an edit of a statement: `  L:K KIND, node I: FROM -> TO | TEXT`; a number without a statement has
-- none
abbrev pub line_of : List (List ℕ) → Edit → Option StmtInfo → List ℕ
line_of lines edit None = []
line_of lines edit (Some info) =
    codes "  " ++ statement_head info ++ codes ", node " ++ decimal edit.node ++ codes ": "
    ++ change_text edit.change ++ source_text (line_at lines info.at.line)

-- that of an edit of the program
abbrev pub edit_line : List (List ℕ) → Program → Edit → List ℕ
edit_line lines p edit = line_of lines edit (info_of p edit.stmt)

-- those of all: `edits: N`, and a line for each edit
abbrev pub edits_text : List (List ℕ) → Program → List Edit → List ℕ
edits_text lines p edits =
    codes "edits: " ++ decimal (length edits) ++ codes "\n" ++ flat_map (edit_line lines p) edits

-- THE REPORT of edits of the program that this source text spells
abbrev pub repair_text : List ℕ → Program → List Edit → List ℕ
repair_text source = edits_text (lines_of source)
