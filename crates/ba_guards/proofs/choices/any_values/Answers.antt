use Rattle.std.proofs.Common.{[], ◌∷◌, sym, subst}
use Rattle.ba_code.specs.Meaning.{info_at}
use Rattle.ba_code.specs.declared.nodes.Take.TheVariants.{Nothing, Truth}
use Rattle.ba_guards.proofs.Offering.{draws-cell, draws-nothing, draws-truth}
use Rattle.ba_guards.specs.Making.{Draws, are_right, is_cell, is_one}
use Rattle.ba_guards.specs.Parts.{declared}
use Rattle.ba_numbers.specs.Numbers.{is_in}
use Rattle.ba_guards.proofs.choices.any_values.Goals as goal

pub returns-in_ok-from_slice-in-Truth : goal.returns-in_ok-from_slice-in-Truth
returns-in_ok-from_slice-in-Truth c = λ vars fit.
    let d = declared vars c.args.arrays.now in
    let flag = c.in_ok-value-in-Truth.ensures fit in
    subst (λ take. Draws c.args.words.now c.flag.new.self c.in_ok-from_slice-in-Truth.field-0 (are_right d
    take)) (sym c.in-Truth.is)
    (subst (λ ws. Draws c.args.words.now c.flag.new.self ws (are_right d (Truth c.in-Truth.to))) (sym
    c.in_ok-from_slice-in-Truth.ensures)
    (draws-truth c.args.words.now c.flag.new.self c.in_ok-value-in-Truth.value flag.0 flag.1 flag.2))

pub returns-in_ok-from_slice-in-Cell : goal.returns-in_ok-from_slice-in-Cell
returns-in_ok-from_slice-in-Cell c = λ vars fit.
    let d = declared vars c.args.arrays.now in
    let index = c.in_ok-index-in-Cell.ensures fit in
    let t = (info_at c.args.arrays.now c.in-Cell.array).t in
    let value = subst (λ t. Draws c.any-in-Cell.new.self c.any-in-Cell-2.new.self
    (c.in_ok-value-in-Cell.value ∷ []) (is_one (is_in t)))
    c.type_of.ensures (c.in_ok-value-in-Cell.ensures index.fit) in
    subst (λ take. Draws c.args.words.now c.any-in-Cell-2.new.self c.in_ok-from_slice-in-Cell.field-0
    (are_right d take)) (sym c.in-Cell.is)
    (subst (λ ws. Draws c.args.words.now c.any-in-Cell-2.new.self ws (is_cell t)) (sym
    c.in_ok-from_slice-in-Cell.ensures)
    (draws-cell t c.args.words.now c.any-in-Cell.new.self c.any-in-Cell-2.new.self
    c.in_ok-index-in-Cell.index c.in_ok-value-in-Cell.value
    index value))

pub returns-in-Nothing : goal.returns-in-Nothing
returns-in-Nothing c = λ vars fit.
    let d = declared vars c.args.arrays.now in
    subst (λ take. Draws c.args.words.now c.args.words.now c.new.result (are_right d take)) (sym
    c.in-Nothing.is)
    (subst (λ ws. Draws c.args.words.now c.args.words.now ws (are_right d Nothing)) (sym c.new.ensures)
    (draws-nothing c.args.words.now fit))
