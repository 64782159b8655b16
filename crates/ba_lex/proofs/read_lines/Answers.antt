use Rattle.std.proofs.Common.{◌≡◌, ◌+◌, [], length, drop, arith, sym, ap, ◌∙◌}
use Rattle.std.proofs.lemmas.Grind.{common_steps}
use Rattle.std.proofs.lemmas.Bool.Decides.{nat_tests}
use Rattle.ba_lex.specs.Lines.{answer, only_tokens, sequence, lines_of, reading}
use Rattle.ba_lex.proofs.LineLemmas.{answer-whole, line_cut}
use Rattle.ba_lex.proofs.read_lines.Goals as goal

pub loop-from-preserved : goal.loop-from-preserved
loop-from-preserved c =
    let ps = c.args.pieces.now in
    let line = c.split_at-in-loop-from.result.0.now in
    let cut = line_cut ps c.split_at.result.1.now line c.loop-from.from c.line_length.result c.split_at.ensures.back c.line_length.ensures.within c.split_at-in-loop-from.ensures.front c.line_length.ensures.lines in
    record {
      whole = sym (ap answer (c.in_ok-macros.ensures.ok (lines_of (drop (c.loop-from.from + (length line + 1)) ps))))
          ∙ ap (λ lines. answer (sequence (only_tokens c.loop-from.out.items) (reading c.loop-from.macros lines))) (sym cut)
          ∙ c.loop-from.invariant.whole;
      room = c.in_ok-macros.ensures.room;
    }

pub returns : goal.returns
returns c =
    let none : drop c.loop-from.from c.args.pieces.now ≡ [] = grind (arith, nat_tests, common_steps) in
    sym c.loop-from.invariant.whole
    ∙ ap (λ ps. answer (sequence (only_tokens c.loop-from.out.items) (reading c.loop-from.macros (lines_of ps)))) none
    ∙ answer-whole c.loop-from.out.items c.loop-from.invariant.room
