use Rattle.std.proofs.Common.{length, ap, subst, sym, ◌∙◌}
use Rattle.ba_bits.proofs.Needed.{IsUnmarked, filled-unmarked, marked-first, marked-further, names-fit}
use Rattle.ba_bits.proofs.needs.needed_entries.Goals as goal

pub loop-i-init : goal.loop-i-init
loop-i-init c =
    marked-first c.args.words.now c.args.roots.now c.resize.new.self.len c.mark_all.new.needed
    c.as_mut_slice.result.now
    c.resize.new.self.items c.mark_all.ensures c.as_mut_slice.ensures.len c.in_ok-resize.ensures.len
    c.requires.roots unmarked
  where
    unmarked : IsUnmarked c.as_mut_slice.result.now
    unmarked = subst IsUnmarked (sym (c.as_mut_slice.ensures.value ∙ c.in_ok-resize.ensures.items))
        (filled-unmarked (length c.args.words.now) c.new-needed.result.len c.new-needed.result.items
        c.new-needed.ensures.items c.new-needed.ensures.len)

pub mark_from-requires-clause-names : goal.mark_from-requires-clause-names
mark_from-requires-clause-names c =
    names-fit c.args.words.now c.requires.words c.args.roots.now c.loop-i.i c.loop-i-test.true
    c.index-words-number.result
    c.index-words-number.is c.as_mut_slice-in-loop-i.result.now
    (ap length c.as_mut_slice-in-loop-i.ensures.value ∙ c.loop-i.invariant.long)

pub loop-i-preserved : goal.loop-i-preserved
loop-i-preserved c =
    marked-further c.args.words.now c.requires.words c.args.roots.now c.loop-i.i c.loop-i-test.true
    c.index-words-number.result
    c.index-words-number.is c.loop-i.needed.len c.mark_from.new.needed c.as_mut_slice-in-loop-i.result.now
    c.loop-i.needed.items
    c.as_mut_slice-in-loop-i.ensures.value c.as_mut_slice-in-loop-i.ensures.len c.mark_from.ensures
    c.loop-i.invariant

pub returns-clause-fewest : goal.returns-clause-fewest
returns-clause-fewest c = c.loop-i.invariant.fewest
