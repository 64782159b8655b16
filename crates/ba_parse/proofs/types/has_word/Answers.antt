-- The words are the leaves of their marks.

use Rattle.std.proofs.Common.{sym, ap, ◌∙◌}
use Rattle.std.specs.List.{list_any}
use Rattle.ba_trees.specs.Classes.{class_of, word}
use Rattle.ba_parse.proofs.Forests.{yield_leaves}
use Rattle.ba_parse.proofs.types.has_word.Goals as goal

pub returns : goal.returns
returns c = c.some_is.ensures
    ∙ ap (list_any (λ t. word c.args.keyword (class_of t))) (sym (yield_leaves c.args.words.now))
