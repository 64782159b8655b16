use Rattle.std.proofs.Common.{◌≡◌, ◌<◌, ◌==◌, ◌++◌, ◌∷◌, [], false, rules, ap, ◌∙◌}
use Rattle.ba_checker.specs.States.{State, kept}
use Rattle.ba_checker.specs.declared.store.Origin.TheVariants as origins
use Rattle.ba_checker.proofs.StateLaws.{may_be_learnt, some_left, learnt_state}
use Rattle.ba_checker.proofs.checker.Checker.add_learnt.Goals as goal

pub invariant_of-self-2 : goal.invariant_of-self-2
invariant_of-self-2 c =
    let seen = c.args.self.now in
    let i = c.self.inside in
    let lits = c.args.lits.now in
    let hints = c.requires.allowed.0 in
    let is : _ ≡ seen = c.self.view_is in
    let told = may_be_learnt seen lits hints c.requires.allowed.1 in
    let unspent : (i.conflicts == i.budget) ≡ false =
    ap (λ (s : State). s.conflicts == s.budget) is ∙ told.1 in
    let left : i.conflicts < i.budget = some_left i.conflicts i.budget c.self.invariant.within unspent in
    let grown_is : c.add.new.self ≡ i.clauses ++ kept origins.Learnt lits ∷ [] = search rules in
    learnt_state seen i.variables i.clauses c.add.new.self i.groups.items i.softs.items i.conflicts i.budget
    i.learnt i.refused lits hints c.self.invariant
    (ap (λ (s : State). s.variables) is) (ap (λ (s : State). s.clauses) is) left c.requires.formed
    told.0 c.requires.allowed.1 grown_is
