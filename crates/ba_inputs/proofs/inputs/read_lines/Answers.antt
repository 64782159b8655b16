use Rattle.std.proofs.Common.{◌+◌, length, refl, ap, arith}
use Rattle.std.proofs.lemmas.Result.{err_from_is_err_and}
use Rattle.ba_bytes.specs.Lines.{lines_of}
use Rattle.ba_bytes.proofs.TextLines.{few-lines}
use Rattle.ba_inputs.proofs.LineLengths.{lines-within, within-more}
use Rattle.ba_inputs.proofs.LineSteps.{reads-first, reads-next, reads-refused}
use Rattle.ba_inputs.proofs.inputs.read_lines.Goals as goal

pub loop-line-init : goal.loop-line-init
loop-line-init c =
    let text = c.args.text.now in
    reads-first c.args.program.now text c.new-lines.result 0 c.new-inputs.result.items c.new-lines.ensures
    refl c.new-inputs.ensures.items
    (within-more (length text) 65536 (lines_of text) c.requires.short (lines-within text))

pub prove-unreachable-requires : goal.prove-unreachable-requires
prove-unreachable-requires c =
    omega (arith, c.loop-line.invariant.count, ap length c.in-Some.ensures, few-lines c.args.text.now)

pub loop-line-preserved : goal.loop-line-preserved
loop-line-preserved c =
    reads-next c.args.program.now c.args.text.now c.loop-line.lines c.next_line.new.self c.loop-line.number
    (c.loop-line.number + 1) c.loop-line.inputs.items c.add_line.new.inputs.items c.in-Some.line.now
    c.loop-line.invariant c.in-Some.ensures refl c.in_ok-add_line.ensures.ok

pub returns-in_err-add_line-clause-err : goal.returns-in_err-add_line-clause-err
returns-in_err-add_line-clause-err c =
    let q = err_from_is_err_and c.from_residual.result c.from_residual.ensures.1 in
    rw (q.1, q.2) (reads-refused c.args.program.now c.args.text.now c.loop-line.lines c.next_line.new.self
    c.loop-line.number (c.loop-line.number + 1) c.loop-line.inputs.items c.in-Some.line.now
    c.in_err-add_line.field-0.0 c.loop-line.invariant c.in-Some.ensures refl c.in_err-add_line.ensures.err)
