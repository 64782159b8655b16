use Rattle.std.proofs.Common.{◌≡◌, true, false, Bool, List, All, get_or, subst}
use Rattle.ba_search.proofs.DeletionLaws.{no_reasons_are}
use Rattle.ba_search.proofs.reduction.Reduction.discarded.Goals as goal

pub returns-clause-no_reasons : goal.returns-clause-no_reasons
returns-clause-no_reasons g c =
    no_reasons_are c.args.watch.now c.mark_reasons.new.marks.items c.gather-numbers.result.items
    c.mark_reasons.ensures.marked
    (subst (λ (marks : List Bool). All (λ n. get_or marks n true ≡ false) c.gather-numbers.result.items)
    c.as_slice.ensures.value c.gather-numbers.ensures.no_reasons)
