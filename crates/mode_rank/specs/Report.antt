-- THE REPORT of a ranking.

use Rattle.std.specs.Prelude.{ℕ, Option, None, Some, List, [], ◌++◌, flat_map, codes, decimal}
use Rattle.ba_bytes.specs.Lines.{lines_of}
use Rattle.ba_rank.specs.declared.ranking.Ranked.{Ranked}
use Rattle.ba_report.specs.Report.{statement_text}
use Rattle.ba_tree.specs.Choices.{info_of}
use Rattle.ba_tree.specs.declared.tree.Program.{Program}
use Rattle.ba_tree.specs.declared.tree.StmtInfo.{StmtInfo}

-- the line of an entry, with the number of inputs: `  C/M L:K KIND | TEXT`; a number of no statement has none
abbrev pub line_of : List (List ℕ) → ℕ → ℕ → Option StmtInfo → List ℕ
line_of lines all count None = []
line_of lines all count (Some info) =
    codes "  " ++ decimal count ++ codes "/" ++ decimal all ++ codes " " ++ statement_text lines info

-- the line of a statement of the ranking
abbrev pub entry_line : List (List ℕ) → Program → ℕ → Ranked → List ℕ
entry_line lines p all entry = line_of lines all entry.inputs (info_of p entry.stmt)

-- the text of a ranking: `ranked: inputs M`, and a line for each entry
abbrev pub entries_text : List (List ℕ) → Program → ℕ → List Ranked → List ℕ
entries_text lines p all entries =
    codes "ranked: inputs " ++ decimal all ++ codes "\n" ++ flat_map (entry_line lines p all) entries

-- THE REPORT on the program that this source text spells
abbrev pub ranked_text : List ℕ → Program → ℕ → List Ranked → List ℕ
ranked_text source = entries_text (lines_of source)
