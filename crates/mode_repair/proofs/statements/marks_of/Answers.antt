use Rattle.std.proofs.Common.{◌+◌, ◌==◌, false, ◌∷◌, length, get_or, drop, sym, ap, ◌∙◌, arith}
use Rattle.std.proofs.lemmas.List.{at_drop_all, drop_more, take_at}
use Rattle.std.specs.Prelude.{◌||◌}
use Rattle.std.specs.List.{list_any}
use Rattle.ba_derivations.specs.Derivations.{sets_of}
use Rattle.ba_rank.specs.Ranking.{stands_in}
use Rattle.mode_repair.proofs.Marking.{or-more, or-none}
use Rattle.mode_repair.proofs.statements.marks_of.Goals as goal

pub loop-set-preserved : goal.loop-set-preserved
loop-set-preserved c =
    let same = ap length c.as_mut_slice.ensures.value in
    let written = take_at c.mark.new.marks (drop (length c.mark.new.marks) c.loop-set.marks.items)
    c.loop-set.marks.len (c.mark.ensures.all ∙ c.as_mut_slice.ensures.len) in
    record {
      all = ap length written ∙ c.mark.ensures.all ∙ same ∙ c.loop-set.invariant.all;
      each = λ i within. or-more (get_or c.loop-set.marks.items i false)
          (list_any (λ m. (i + 1) == m) c.set-item.result.groups) _ _ _
          (ap (λ marks. get_or marks i false) written
          ∙ c.mark.ensures.each i (omega (arith, same, c.loop-set.invariant.all))
          ∙ (λ j. get_or (c.as_mut_slice.ensures.value j) i false
          || list_any (λ m. (i + 1) == m) (c.as_slice.ensures j)))
          (ap (λ sets. get_or c.loop-set.marks.items i false || stands_in (i + 1) (sets_of sets))
          (sym (drop_more c.args.sets.now c.loop-set.set-index c.set-item.result c.loop-set-test.true
          ∙ ap (λ set. set ∷ drop (c.loop-set.set-index + 1) c.args.sets.now) (sym c.set-item.is)))
          ∙ c.loop-set.invariant.each i within);
    }

pub returns : goal.returns
returns c = record {
  all = c.loop-set.invariant.all;
  each = λ i within. or-none (get_or c.loop-set.marks.items i false) _
      (ap (λ sets. get_or c.loop-set.marks.items i false || stands_in (i + 1) (sets_of sets))
      (sym (at_drop_all (λ sets. sets) c.args.sets.now c.loop-set.set-index c.loop-set-test.false))
      ∙ c.loop-set.invariant.each i within);
}
