use Rattle.std.proofs.Common.{◌≡◌, drop, false, arith, sym, ◌∙◌}
use Rattle.std.proofs.lemmas.Grind.{common_steps}
use Rattle.ba_lex.specs.Pieces.{is_comment_end}
use Rattle.ba_lex.proofs.CutLemmas.{after_open-drop}
use Rattle.ba_lex.proofs.piece.after_open.Goals as goal

pub loop-i-preserved : goal.loop-i-preserved
loop-i-preserved c =
    let stays : is_comment_end (drop c.loop-i.i c.args.text.now) ≡ false = grind (arith, common_steps) in
    sym (after_open-drop c.args.text.now c.loop-i.i (omega arith) stays) ∙ c.loop-i.invariant
