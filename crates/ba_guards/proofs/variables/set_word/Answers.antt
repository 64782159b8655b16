use Rattle.std.proofs.Common.{◌≤◌, ◌<◌, ◌/◌, ◌%◌, length, arith, rc_value, div-add-mod'}
use Rattle.ba_guards.proofs.Chunks.{set-none, set-shared, shape-shared}
use Rattle.ba_guards.proofs.variables.set_word.Goals as goal

pub returns-in_err-set_in_chunk-clause-shape : goal.returns-in_err-set_in_chunk-clause-shape
returns-in_err-set_in_chunk-clause-shape c = λ h. shape-shared rc_value 128 (c.args.number / 128)
    c.args.chunks.now c.index-chunks-index.result c.set_in_chunk.new.chunk c.if-index-chunks.true
    c.set_in_chunk.ensures.length h

pub returns-in_ok-set_in_chunk-clause-set : goal.returns-in_ok-set_in_chunk-clause-set
returns-in_ok-set_in_chunk-clause-set c = λ h.
    let below : c.args.number % 128 < 128 = omega arith in
    set-shared rc_value 128 c.args.number (c.args.number / 128) (c.args.number % 128) c.args.word
    c.args.chunks.now c.index-chunks-index.result c.set_in_chunk.new.chunk (div-add-mod' c.args.number 128)
    below c.if-index-chunks.true c.in_ok-set_in_chunk.ensures.set h

pub returns-in_ok-set_in_chunk-clause-shape : goal.returns-in_ok-set_in_chunk-clause-shape
returns-in_ok-set_in_chunk-clause-shape c = λ h. shape-shared rc_value 128 (c.args.number / 128)
    c.args.chunks.now c.index-chunks-index.result c.set_in_chunk.new.chunk c.if-index-chunks.true
    c.set_in_chunk.ensures.length h

pub returns-else-index-chunks-clause-set : goal.returns-else-index-chunks-clause-set
returns-else-index-chunks-clause-set c = λ h.
    let below : c.args.number % 128 < 128 = omega arith in
    let past : length c.args.chunks.now ≤ c.args.number / 128 = omega (arith, c.if-index-chunks.false) in
    set-none rc_value 128 c.args.number (c.args.number / 128) (c.args.number % 128) c.args.word
    c.args.chunks.now (div-add-mod' c.args.number 128) below past h
