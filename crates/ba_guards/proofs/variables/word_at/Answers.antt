use Rattle.std.proofs.Common.{◌≤◌, ◌<◌, ◌/◌, ◌%◌, length, arith, rc_value, div-add-mod'}
use Rattle.ba_guards.proofs.Chunks.{read-none, read-shared}
use Rattle.ba_guards.proofs.variables.word_at.Goals as goal

pub returns-then-index-chunks : goal.returns-then-index-chunks
returns-then-index-chunks c = λ h.
    let below : c.args.number % 128 < 128 = omega arith in
    read-shared rc_value 128 c.args.number (c.args.number / 128) (c.args.number % 128) c.args.chunks.now
    c.index-chunks-index.result c.deref.result.now c.at_index.result (div-add-mod' c.args.number 128) below
    c.if-index-chunks.true c.index-chunks-index.is c.deref.ensures c.at_index.ensures h

pub returns-else-index-chunks : goal.returns-else-index-chunks
returns-else-index-chunks c = λ h.
    let below : c.args.number % 128 < 128 = omega arith in
    let past : length c.args.chunks.now ≤ c.args.number / 128 = omega (arith, c.if-index-chunks.false) in
    read-none rc_value 128 c.args.number (c.args.number / 128) (c.args.number % 128) c.args.chunks.now
    (div-add-mod' c.args.number 128) below past h
