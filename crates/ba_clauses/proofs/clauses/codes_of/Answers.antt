use Rattle.std.proofs.Common.{map, sym, ap, ◌∙◌, append-nil}
use Rattle.ba_nodes.specs.declared.Bit.{Bit}
use Rattle.ba_lits.specs.Literals.{index_of}
use Rattle.ba_clauses.specs.Clauses.{literal_of}
use Rattle.ba_clauses.proofs.Mapped.{mapped_more, mapped_all, mapped_more_after, mapped_all_after}
use Rattle.ba_clauses.proofs.clauses.codes_of.Goals as goal

pub loop-lit-preserved : goal.loop-lit-preserved
loop-lit-preserved c =
    mapped_more index_of c.loop-lit.codes.items c.push.new.self.items c.args.head.now c.loop-lit.lit-index
    c.lit-item.result c.index.result c.loop-lit.invariant c.loop-lit-test.true
    (c.index.ensures.index ∙ ap index_of c.lit-item.is) c.in_ok-push.ensures.items

pub loop-bit-init : goal.loop-bit-init
loop-bit-init c =
    mapped_all index_of c.loop-lit.codes.items c.args.head.now c.loop-lit.lit-index c.loop-lit.invariant
    c.loop-lit-test.false ∙ sym (append-nil (map index_of c.args.head.now))

pub loop-bit-preserved : goal.loop-bit-preserved
loop-bit-preserved c =
    mapped_more_after (map index_of c.args.head.now)
    (λ (bit : Bit). index_of (literal_of c.args.variables.now bit)) c.loop-bit.codes.items
    c.push-in-loop-bit.new.self.items c.args.bits.now c.loop-bit.bit-index _ c.index-in-loop-bit.result
    c.loop-bit.invariant c.loop-bit-test.true
    (c.index-in-loop-bit.ensures.index ∙ ap index_of c.literal.ensures) c.in_ok-push-2.ensures.items

pub returns : goal.returns
returns c =
    mapped_all_after (map index_of c.args.head.now) (λ (bit : Bit). index_of
    (literal_of c.args.variables.now bit))
    c.loop-bit.codes.items c.args.bits.now c.loop-bit.bit-index c.loop-bit.invariant c.loop-bit-test.false
