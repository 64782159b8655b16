use Rattle.std.proofs.Common.{List, rules, subst, sym}
use Rattle.ba_derivations.specs.Derivations.{sets_of}
use Rattle.ba_derivations.specs.declared.verdict.FoundSet.{FoundSet}
use Rattle.ba_tree.specs.Least.{AreInOrder}
use Rattle.ba_enum.proofs.OrderLaws.{sorted_by}
use Rattle.ba_enum.proofs.endings.in_order.Goals as goal

pub returns-clause-order : goal.returns-clause-order
returns-clause-order c =
    let order : AreInOrder (sets_of c.sort_by.new.self.items) =
    sorted_by c.into_vec-sets.result.items c.sort_by.new.self.items c.in_ok-sort_by.ensures.permutation
    c.in_ok-sort_by.ensures.sorted (λ a r f' k. search rules) (search rules) in
    let P : List FoundSet → Type 0 = λ sets. AreInOrder (sets_of sets) in
    subst P (sym c.from_vec.ensures) order
