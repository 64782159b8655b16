use Rattle.std.proofs.Common.{◌≡◌, ◌+◌, ◌-◌, ◌<◌, ◌^◌, ◌++◌, ◌∷◌, [], map, length, refl, ap, ◌∙◌, unwrap_or}
use Rattle.ba_checker.specs.Splits.{fresh_count, lightest, lowered, late_softs, split_clauses}
use Rattle.ba_checker.specs.States.{State, kept}
use Rattle.ba_checker.specs.declared.store.Origin.TheVariants as origins
use Rattle.ba_checker.proofs.StateLaws.{core_state, refused_state}
use Rattle.ba_checker.proofs.FreshLaws.{fresh_few, fits_sum, fits_double, fits_more, fits_late, late_few}
use Rattle.ba_checker.proofs.checker.Checker.split.Goals as goal

pub invariant_of-self-2 : goal.invariant_of-self-2
invariant_of-self-2 c =
    let seen = c.args.self.now in
    let i = c.self.inside in
    let lits = c.args.lits.now in
    let w = c.unwrap_or-weight.result in
    let e = i.variables + 1 + (length lits - 2) in
    let variables_is : i.variables ≡ seen.variables = ap (λ (s : State). s.variables) c.self.view_is in
    let softs_is : i.softs.items ≡ seen.softs = ap (λ (s : State). s.softs) c.self.view_is in
    let awake : i.refused ≡ _ = ap (λ (s : State). s.refused) c.self.view_is ∙ c.requires.awake in
    let w_is : w ≡ unwrap_or (lightest lits i.softs.items) 0 =
    c.unwrap_or-weight.ensures
    ∙ ap (λ o. unwrap_or o 0) (c.lightest.ensures
    ∙ (ap (λ m. lightest m c.as_slice.result.now) c.in_ok-refill.ensures
    ∙ ap (λ ss. lightest lits ss) c.as_slice.ensures.value)) in
    let left_is = c.in_ok-softs.ensures ∙ (ap (λ m. lowered m w c.as_slice-2.result.now)
    c.in_ok-refill.ensures ∙ ap (λ ss. lowered lits w ss) c.as_slice-2.ensures.value) in
    let more_is : c.add_late_softs.new.softs.items ≡ lowered lits w i.softs.items ++ late_softs w e lits =
    c.in_ok-add_late_softs.ensures ∙ (ap (λ ss. ss ++ late_softs w (i.variables + 1 +
    c.saturating_sub.result) lits)
    left_is ∙ ap (λ n. lowered lits w i.softs.items ++ late_softs w (i.variables + 1 + n) lits)
    c.saturating_sub.ensures) in
    let one_is : c.add.new.self ≡ i.clauses ++ kept origins.Core lits ∷ [] =
    c.in_ok-add.ensures.ok ∙ ap (λ cs. cs ++ kept origins.Core lits ∷ []) c.in_ok-grow-2.ensures in
    let grown_is : c.add_split.new.clauses ≡ c.add.new.self
    ++ map (kept origins.Split) (split_clauses (i.variables + 1) lits) = c.in_ok-add_split.ensures in
    let fresh_is : c.fresh_count.result ≡ fresh_count (length lits) = c.fresh_count.ensures in
    let left : i.conflicts < i.budget = rw (
      ap (λ (s : State). s.conflicts) c.self.view_is,
      ap
          (λ (s : State). s.budget) c.self.view_is,
    ) c.requires.left in
    let few : i.variables + c.fresh_count.result < 2 ^ 62 =
    fresh_few i.variables (length lits) c.fresh_count.result c.if-count-room.false fresh_is
    c.self.invariant.few in
    core_state seen i.variables i.clauses i.groups.items i.softs.items i.conflicts i.budget i.learnt
    i.refused lits c.fresh_count.result w e c.add.new.self c.add_split.new.clauses
    c.add_late_softs.new.softs.items
    c.self.invariant variables_is softs_is awake left c.requires.formed c.requires.exists c.requires.known
    fresh_is few w_is refl more_is one_is grown_is

pub invariant_of-self : goal.invariant_of-self
invariant_of-self c = refused_state _ _ _ _ _ _ _ _ _ c.self.invariant

pub invariant_of-self-in_err-grow : goal.invariant_of-self-in_err-grow
invariant_of-self-in_err-grow c = refused_state _ _ _ _ _ _ _ _ _ c.self.invariant

pub invariant_of-self-in_err-grow-2 : goal.invariant_of-self-in_err-grow-2
invariant_of-self-in_err-grow-2 c = refused_state _ _ _ _ _ _ _ _ _ c.self.invariant

pub invariant_of-self-in_err-refill : goal.invariant_of-self-in_err-refill
invariant_of-self-in_err-refill c = refused_state _ _ _ _ _ _ _ _ _ c.self.invariant

pub invariant_of-self-in_err-bound : goal.invariant_of-self-in_err-bound
invariant_of-self-in_err-bound c = refused_state _ _ _ _ _ _ _ _ _ c.self.invariant

pub invariant_of-self-in_err-softs : goal.invariant_of-self-in_err-softs
invariant_of-self-in_err-softs c = refused_state _ _ _ _ _ _ _ _ _ c.self.invariant

pub invariant_of-self-in_err-add_late_softs : goal.invariant_of-self-in_err-add_late_softs
invariant_of-self-in_err-add_late_softs c = refused_state _ _ _ _ _ _ _ _ _ c.self.invariant

pub invariant_of-self-in_err-add : goal.invariant_of-self-in_err-add
invariant_of-self-in_err-add c = refused_state _ _ _ _ _ _ _ _ _ c.self.invariant

pub invariant_of-self-in_err-add_split : goal.invariant_of-self-in_err-add_split
invariant_of-self-in_err-add_split c = refused_state _ _ _ _ _ _ _ _ _ c.self.invariant

pub overflow_add-variables : goal.overflow_add-variables
overflow_add-variables c =
    fits_sum _ _ (fresh_few _ _ _ c.if-count-room.false c.fresh_count.ensures c.self.invariant.few)

pub overflow_mul-variables : goal.overflow_mul-variables
overflow_mul-variables c =
    fits_double _ _ (fresh_few _ _ _ c.if-count-room.false c.fresh_count.ensures c.self.invariant.few)

pub overflow_add-variables-2 : goal.overflow_add-variables-2
overflow_add-variables-2 c =
    fits_more _ _ (fresh_few _ _ _ c.if-count-room.false c.fresh_count.ensures c.self.invariant.few)

pub overflow_mul-variables-2 : goal.overflow_mul-variables-2
overflow_mul-variables-2 c =
    fits_double _ _ (fresh_few _ _ _ c.if-count-room.false c.fresh_count.ensures c.self.invariant.few)

pub overflow_add-variables-3 : goal.overflow_add-variables-3
overflow_add-variables-3 c =
    fits_more _ _ (fresh_few _ _ _ c.if-count-room.false c.fresh_count.ensures c.self.invariant.few)

pub overflow_add-first-2 : goal.overflow_add-first-2
overflow_add-first-2 c =
    fits_late _ _ _ c.if-count-room.false c.saturating_sub.ensures c.self.invariant.few

pub add_late_softs-requires-clause-below : goal.add_late_softs-requires-clause-below
add_late_softs-requires-clause-below c =
    late_few _ _ _ c.if-count-room.false c.saturating_sub.ensures c.self.invariant.few c.requires.formed.1
