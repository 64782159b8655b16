use Rattle.ba_trees.specs.FileMarks.{file_marks}
use Rattle.ba_parse.proofs.laws.one_tree.Goals as goal
use Rattle.ba_parse.proofs.OneTree.{one_tree}

pub returns : goal.returns
returns c = record {
  written = λ tokens tree other it that. one_tree tokens tree other it that;
  trees = λ tokens tree other it that. one_tree tokens (file_marks tree) (file_marks other) it that;
}
