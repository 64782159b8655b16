use Rattle.std.proofs.Common.{◌≡◌, ℕ, ◌<◌, ◌++◌, ◌∷◌, [], true, List, All, length, get_or, take, sym, ◌∙◌, ap, subst}
use Rattle.std.proofs.lemmas.List.{take_all, take_more}
use Rattle.ba_formula.proofs.Guarding.{more-runs, no-runs, one-run}
use Rattle.ba_formula.specs.Words.{HasRuns, good_on_all}
use Rattle.ba_tree.specs.Run.{fits}
use Rattle.ba_tree.specs.declared.run.Input.{Input}
use Rattle.ba_tree.specs.declared.tree.Program.{Program}
use Rattle.ba_formula.proofs.runs.words_of_all.Goals as goal

-- an input of the list fits
fits-at : (p : Program) (inputs : List Input) (i : ℕ) (input : Input) → i < length inputs
    → input ≡ get_or inputs i input → All (λ (x : Input). fits p x ≡ true) inputs → fits p input ≡ true
fits-at p inputs i input within is all = subst (λ (x : Input). fits p x ≡ true) (sym is) (all i input within)

pub guard-requires : goal.guard-requires
guard-requires c =
    let p = c.args.program.now in
    let input = c.input-item.result in
    c.inputs_are_words.ensures p input
    (fits-at p c.args.inputs.now c.loop-input.input-index input c.loop-input-test.true c.input-item.is
    c.requires)

pub loop-input-init : goal.loop-input-init
loop-input-init c = no-runs c.args.program.now c.args.bounds c.empty_list-words.result
    c.empty_list-words.ensures.require
    c.empty_list-words.ensures.places

pub loop-input-preserved : goal.loop-input-preserved
loop-input-preserved c =
    let p = c.args.program.now in
    let b = c.args.bounds in
    let inputs = c.args.inputs.now in
    let i = c.loop-input.input-index in
    let input = c.input-item.result in
    subst (λ (is : List Input). HasRuns p (good_on_all p is b) c.in_ok-words.words)
    (sym (take_more inputs i input c.loop-input-test.true
    ∙ ap (λ (x : Input). take i inputs ++ x ∷ []) (sym c.input-item.is)))
    (more-runs p b (take i inputs) input c.loop-input.words c.in_ok-more.more c.in_ok-words.words
    c.loop-input.invariant
    (one-run p input b (fits-at p inputs i input c.loop-input-test.true c.input-item.is c.requires)
    c.in_ok-tree.tree c.in_ok-tree.ensures c.in_ok-more.more c.in_ok-more.ensures) c.in_ok-words.ensures)

pub returns : goal.returns
returns c =
    let p = c.args.program.now in
    let b = c.args.bounds in
    let inputs = c.args.inputs.now in
    subst (λ (is : List Input). HasRuns p (good_on_all p is b) c.loop-input.words)
    (take_all c.loop-input.input-index inputs c.loop-input-test.false) c.loop-input.invariant
