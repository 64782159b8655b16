-- The next token against the words.

use Rattle.ba_parse.proofs.types.agrees_with.Goals as goal

pub returns-in-Some : goal.returns-in-Some
returns-in-Some c = let first = c.in-Some.ensures.cases in rw (first.0, ← c.class_of.ensures)
    c.agree_all.ensures
