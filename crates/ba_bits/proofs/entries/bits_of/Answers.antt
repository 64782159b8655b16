use Rattle.std.proofs.Common.{[], ◌+◌, take, refl, subst, sym}
use Rattle.ba_bits.proofs.Growing.{entries-none, entries-step, fits-step, others-step}
use Rattle.std.proofs.lemmas.List.{take_all}
use Rattle.ba_bits.specs.Bits.{AreEntries, AreEntriesOf, AreOthersZero}
use Rattle.ba_nodes.proofs.Truths.{Extends-through, Extends_refl}
use Rattle.ba_bits.proofs.entries.bits_of.Goals as goal

pub loop-i-init : goal.loop-i-init
loop-i-init c = record {
  extends = Extends_refl c.args.nodes.now;
  are_entries = subst (λ entries. AreEntries c.args.nodes.now [] c.args.needed.now c.args.nodes.now entries)
      (sym c.new-entries.ensures.items) (entries-none c.args.nodes.now c.args.needed.now);
  zeros = subst (AreOthersZero c.args.needed.now) (sym c.new-entries.ensures.items)
      (λ w not nodes free. refl);
}

pub next_entry-requires-clause-fits : goal.next_entry-requires-clause-fits
next_entry-requires-clause-fits c =
    fits-step c.args.nodes.now c.loop-i.nodes c.args.words.now c.loop-i.i c.index-words-i.result
    c.args.needed.now
    c.loop-i.entries.items c.as_slice-in-loop-i.result.now c.loop-i-test.true c.index-words-i.is
    c.requires.words
    c.loop-i.invariant.are_entries c.as_slice-in-loop-i.ensures.value

pub loop-i-preserved : goal.loop-i-preserved
loop-i-preserved c = record {
  extends = Extends-through c.args.nodes.now c.loop-i.nodes c.next_entry.new.nodes
      c.loop-i.invariant.extends c.next_entry.ensures.extends;
  are_entries = subst (λ entries. AreEntries c.args.nodes.now
      (take (c.loop-i.i + 1) c.args.words.now) c.args.needed.now c.next_entry.new.nodes entries)
      (sym c.in_ok-push.ensures.items)
      (entries-step c.args.nodes.now c.loop-i.nodes c.next_entry.new.nodes c.args.words.now c.loop-i.i
      c.index-words-i.result
      c.args.needed.now c.loop-i.entries.items c.as_slice-in-loop-i.result.now c.in_ok-cells.cells
      c.loop-i-test.true
      c.index-words-i.is c.loop-i.invariant.extends c.as_slice.ensures.ordered c.requires.words
      c.loop-i.invariant.are_entries
      c.as_slice-in-loop-i.ensures.value
      record {
        extends = c.next_entry.ensures.extends;
        are_cells = c.in_ok-cells.ensures.cells;
        long = c.in_ok-cells.ensures.length;
        spell = c.in_ok-cells.ensures.spell;
        can = c.in_ok-cells.ensures.take;
      });
  zeros = subst (AreOthersZero c.args.needed.now) (sym c.in_ok-push.ensures.items)
      (others-step c.args.nodes.now c.loop-i.nodes c.args.words.now c.loop-i.i c.args.needed.now
      c.loop-i.entries.items c.in_ok-cells.cells c.loop-i-test.true c.loop-i.invariant.are_entries
      c.loop-i.invariant.zeros c.in_ok-cells.ensures.zeros);
}

pub next_entry-requires-clause-entries : goal.next_entry-requires-clause-entries
next_entry-requires-clause-entries c =
    subst (AreEntriesOf c.loop-i.nodes) (sym c.as_slice-in-loop-i.ensures.value)
    c.loop-i.invariant.are_entries.are_cells

pub returns-in_err-cells-clause-extends : goal.returns-in_err-cells-clause-extends
returns-in_err-cells-clause-extends c =
    Extends-through c.args.nodes.now c.loop-i.nodes c.next_entry.new.nodes c.loop-i.invariant.extends
    c.next_entry.ensures.extends

pub returns-in_err-push-clause-extends : goal.returns-in_err-push-clause-extends
returns-in_err-push-clause-extends c =
    Extends-through c.args.nodes.now c.loop-i.nodes c.next_entry.new.nodes c.loop-i.invariant.extends
    c.next_entry.ensures.extends

pub returns-clause-entries : goal.returns-clause-entries
returns-clause-entries c =
    subst (λ words. AreEntries c.args.nodes.now words c.args.needed.now c.loop-i.nodes c.loop-i.entries.items)
    (take_all c.loop-i.i c.args.words.now c.loop-i-test.false) c.loop-i.invariant.are_entries

pub returns-clause-zeros : goal.returns-clause-zeros
returns-clause-zeros c = c.loop-i.invariant.zeros

pub returns-clause-extends : goal.returns-clause-extends
returns-clause-extends c = c.loop-i.invariant.extends
