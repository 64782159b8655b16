use Rattle.std.proofs.Common.{◌≡◌, ◌+◌, length, drop, refl, ap, sym, subst, ◌∙◌, arith}
use Rattle.std.proofs.lemmas.List.{take_at}
use Rattle.ba_inputs.specs.Tables.{Table, after_line}
use Rattle.ba_inputs.specs.Weights.{content_of}
use Rattle.ba_bytes.proofs.TextLines.{few-lines}
use Rattle.ba_inputs.proofs.Tabling.{Reads, put_goes, put_stops, reads-all, reads-bad, reads-first, reads-next}
use Rattle.ba_inputs.proofs.weights.table_of.Goals as goal

pub loop-line-init : goal.loop-line-init
loop-line-init c =
    reads-first c.args.text.now c.new-lines.result 0 c.in_ok-table.table.items c.new-lines.ensures refl
    c.in_ok-table.ensures.empty c.in_ok-table.ensures.size

pub prove-unreachable-requires : goal.prove-unreachable-requires
prove-unreachable-requires c =
    omega (arith, c.loop-line.invariant.count, ap length c.in-Some.ensures, few-lines c.args.text.now)

pub overflow_add-number : goal.overflow_add-number
overflow_add-number c = omega arith

pub returns-then-not-put_line-clause-err : goal.returns-then-not-put_line-clause-err
returns-then-not-put_line-clause-err c =
    reads-bad c.args.text.now c.loop-line.lines c.next_line.new.self c.loop-line.number
    (c.loop-line.number + 1) c.loop-line.table.items
    c.in-Some.line.now c.loop-line.invariant c.in-Some.ensures refl
    (ap (λ (t : Table). after_line t (content_of c.in-Some.line.now)) (sym c.as_mut_slice.ensures.value)
    ∙ put_stops (after_line c.as_mut_slice.result.now (content_of c.in-Some.line.now)) c.put_line.result
    c.put_line.new.table
    c.put_line.ensures c.if-not-put_line.true)

pub loop-line-preserved : goal.loop-line-preserved
loop-line-preserved c =
    let before = c.loop-line.table.items in
    let after = c.put_line.new.table in
    let same : length after ≡ c.loop-line.table.len =
    omega (arith, c.loop-line.table.ok.0, c.as_mut_slice.ensures.len) in
    subst (Reads c.args.text.now c.next_line.new.self (c.loop-line.number + 1))
    (sym (take_at after (drop (length after) before) c.loop-line.table.len same))
    (reads-next c.args.text.now c.loop-line.lines c.next_line.new.self c.loop-line.number
    (c.loop-line.number + 1) before after
    c.in-Some.line.now c.loop-line.invariant c.in-Some.ensures refl
    (ap (λ (t : Table). after_line t (content_of c.in-Some.line.now)) (sym c.as_mut_slice.ensures.value)
    ∙ put_goes (after_line c.as_mut_slice.result.now (content_of c.in-Some.line.now)) c.put_line.result after
    c.put_line.ensures c.if-not-put_line.false)
    (omega (arith, same, c.loop-line.table.ok.0, c.loop-line.invariant.size)))

pub returns-clause-ok : goal.returns-clause-ok
returns-clause-ok c =
    reads-all c.args.text.now c.loop-line.lines c.loop-line.number c.loop-line.table.items
    c.loop-line.invariant c.in_default.ensures.0
