use Rattle.std.proofs.Common.{sym, ◌∙◌}
use Rattle.ba_tree_laws.proofs.OneProgram.{clean, has_program}
use Rattle.ba_tree_laws.proofs.laws.no_program.Goals as goal

pub returns : goal.returns
returns c = record {
  fault = λ text tokens tree p lexed parsed it. clean text tokens tree p lexed parsed it;
  main = λ text tokens tree p lexed parsed none it. let both = sym none ∙ has_program text tokens tree p
      lexed parsed it in cc;
}
