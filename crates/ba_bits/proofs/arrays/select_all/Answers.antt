use Rattle.std.proofs.Common.{◌+◌, ◌<◌, ◌∙◌, get_or, subst, sym, ap, arith, if◌then◌else◌, length}
use Rattle.ba_bits.proofs.Computing.{number-same}
use Rattle.ba_bits.proofs.Elements.{AreSelected, name-at, named-first, selected-none, selected-more, selected-all}
use Rattle.ba_nodes.proofs.Truths.{Extends-through}
use Rattle.ba_bits.specs.Bits.{word_at}
use Rattle.ba_cells.specs.Cells.{cell_at}
use Rattle.ba_nodes.specs.Gates.{truth}
use Rattle.ba_words.specs.Words.{AreBitsOf, number_of}
use Rattle.ba_words.proofs.Places.{are_bits-extends}
use Rattle.ba_bits.proofs.arrays.select_all.Goals as goal

pub select-requires-clause-words : goal.select-requires-clause-words
select-requires-clause-words c =
    let within : c.loop-i.i < length c.args.values.now = omega (arith, c.requires.many, c.loop-i-test.true) in
    let named = name-at (length c.args.entries.now) c.args.values.now c.loop-i.i c.requires.names within in
    record {
      first = subst (λ word. AreBitsOf c.loop-i.nodes word)
          (sym (named-first c.args.entries.now (get_or c.args.values.now c.loop-i.i 0)
          c.index-entries-values.result c.first.result.now named c.index-entries-values.is c.first.ensures))
          (are_bits-extends c.args.nodes.now c.loop-i.nodes
          (word_at c.args.entries.now (get_or c.args.values.now c.loop-i.i 0))
          c.loop-i.invariant.extends (c.requires.entries (get_or c.args.values.now c.loop-i.i 0) 0));
      second = are_bits-extends c.args.nodes.now c.loop-i.nodes (cell_at c.args.cells.now c.loop-i.i)
          c.loop-i.invariant.extends (c.requires.cells c.loop-i.i);
    }

pub loop-i-preserved : goal.loop-i-preserved
loop-i-preserved c =
    let within : c.loop-i.i < length c.args.values.now = omega (arith, c.requires.many, c.loop-i-test.true) in
    let named = name-at (length c.args.entries.now) c.args.values.now c.loop-i.i c.requires.names within in
    subst (λ words. AreSelected c.args.nodes.now c.select.new.nodes c.args.entries.now c.args.values.now
    c.args.cells.now c.args.which words (c.loop-i.i + 1))
    (sym c.in_ok-push.ensures.items)
    (selected-more c.args.nodes.now c.loop-i.nodes c.select.new.nodes c.args.entries.now c.args.values.now
    c.args.cells.now
    c.args.which c.loop-i.words.items c.in_ok-word.word c.loop-i.i c.requires.which c.requires.entries
    c.requires.cells
    within c.loop-i-test.true c.loop-i.invariant c.select.ensures.grows.extends
    (number-same c.select.new.nodes c.in_ok-word.word _ _ c.in_ok-word.ensures.number
    (λ free. ap (λ word. if truth free c.loop-i.nodes c.args.which then number_of free c.loop-i.nodes word
    else number_of free c.loop-i.nodes (cell_at c.args.cells.now c.loop-i.i))
    (named-first c.args.entries.now (get_or c.args.values.now c.loop-i.i 0) c.index-entries-values.result
    c.first.result.now named c.index-entries-values.is c.first.ensures))))

pub loop-i-init : goal.loop-i-init
loop-i-init c =
    subst (λ words. AreSelected c.args.nodes.now c.args.nodes.now c.args.entries.now c.args.values.now
    c.args.cells.now c.args.which words 0)
    (sym c.new-words.ensures.items)
    (selected-none c.args.nodes.now c.args.entries.now c.args.values.now c.args.cells.now c.args.which)

pub bounds-entries-values : goal.bounds-entries-values
bounds-entries-values c =
    name-at (length c.args.entries.now) c.args.values.now c.loop-i.i c.requires.names
    (omega (arith, c.requires.many, c.loop-i-test.true))

pub returns-in_err-push-clause-extends : goal.returns-in_err-push-clause-extends
returns-in_err-push-clause-extends c =
    Extends-through c.args.nodes.now c.loop-i.nodes c.select.new.nodes c.loop-i.invariant.extends
    c.select.ensures.grows.extends

pub returns-clause-cells : goal.returns-clause-cells
returns-clause-cells c = c.loop-i.invariant.are_cells

pub returns-clause-length : goal.returns-clause-length
returns-clause-length c =
    c.loop-i.invariant.long ∙ omega (arith, c.loop-i-test.false, c.loop-i.auto.i-end)

pub returns-clause-numbers : goal.returns-clause-numbers
returns-clause-numbers c = λ free.
    c.loop-i.invariant.numbers free
    ∙ selected-all free c.args.nodes.now c.args.entries.now c.args.values.now c.args.cells.now c.args.which
    c.loop-i.i (omega (arith, c.requires.many, c.loop-i-test.false)) c.loop-i-test.false

pub returns-clause-extends : goal.returns-clause-extends
returns-clause-extends c = c.loop-i.invariant.extends
