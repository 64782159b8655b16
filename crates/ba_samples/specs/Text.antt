-- THE PROGRAM OF A SAMPLE: additions of 1, and an assertion that there was one more.

use Rattle.std.specs.Prelude.{ℕ, ◌+◌, List, ◌++◌, codes, decimal}
use Rattle.std.specs.List.{repeat}

-- the text of a sample with this many additions
abbrev pub sample_text : ℕ → List ℕ
sample_text additions =
    codes "int main(void) {\n    int s = 0;\n"
    ++ repeat additions (codes "    s = s + 1;\n")
    ++ codes "    assert(s == " ++ decimal (additions + 1) ++ codes ");\n    return 0;\n}\n"
