use Rattle.std.proofs.Common.{◌≡◌, ◌++◌, ◌∷◌, [], false, rules, ap, ◌∙◌}
use Rattle.ba_checker.specs.States.{State, kept}
use Rattle.ba_checker.specs.Blocks.{lacks_group, block_clause}
use Rattle.ba_checker.specs.declared.store.Origin.TheVariants as origins
use Rattle.ba_checker.proofs.StateLaws.{blocked_state}
use Rattle.ba_checker.proofs.checker.Checker.block.Goals as goal

pub invariant_of-self-2 : goal.invariant_of-self-2
invariant_of-self-2 g c =
    let i = c.self.inside in
    let set = c.args.groups.now in
    let lits = c.as_slice-2.result.now in
    let exist : lacks_group i.groups.items set ≡ false =
    ap (λ (s : State). lacks_group s.groups set) c.self.view_is ∙ c.in_ok-block_error.ensures.exist in
    let lits_is : lits ≡ block_clause i.groups.items set =
    c.as_slice-2.ensures.value
    ∙ (c.in_ok-clause.ensures ∙ ap (λ groups. block_clause groups set) c.as_slice.ensures.value) in
    let grown_is : c.add.new.self ≡ i.clauses ++ kept origins.Blocked lits ∷ [] = search rules in
    blocked_state i.variables i.clauses c.add.new.self i.groups.items i.softs.items i.conflicts i.budget
    i.learnt
    i.refused set lits c.self.invariant c.requires exist lits_is grown_is
