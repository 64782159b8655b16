use Rattle.std.proofs.Common.{◌≡◌, ◌<◌, ◌≤◌, sym, List, length, subst, ap, ◌∙◌, arith}
use Rattle.std.proofs.lemmas.List.{take_all}
use Rattle.ba_lits.specs.Literals.{Literal, lit_at}
use Rattle.ba_arena.specs.Clauses.{lits_at}
use Rattle.ba_watch.specs.Propagation.{lits_in}
use Rattle.ba_learn.specs.Resolving.{Meets}
use Rattle.ba_learn.proofs.MeetLaws.{Meets-more, Meets-none, MayMeet-one}
use Rattle.ba_learn.proofs.ReasonLaws.{lits_same}
use Rattle.ba_learn.proofs.resolution.Resolution.meet_all.Goals as goal

pub loop-place-preserved : goal.loop-place-preserved
loop-place-preserved c =
    let w = c.args.watch.now in
    let same : lits_at c.arena-arena.result.now c.args.clause ≡ lits_in w.clauses c.args.clause =
    lits_same c.arena-arena.result.now w.clauses c.args.clause c.arena-arena.ensures in
    let within : c.loop-place.place < length (lits_in w.clauses c.args.clause) =
    omega (arith, ap length same, c.len-place-end.ensures, c.loop-place-test.true) in
    Meets-more w c.args.self.now c.loop-place.self c.meet.new.self (lits_in w.clauses c.args.clause)
    c.loop-place.place c.lit.result within
    (c.lit.ensures ∙ ap (λ (xs : List Literal). lit_at xs c.loop-place.place) same) c.loop-place.invariant
    c.in_ok-meet.ensures

pub returns : goal.returns
returns c =
    let w = c.args.watch.now in
    let same : lits_at c.arena-arena.result.now c.args.clause ≡ lits_in w.clauses c.args.clause =
    lits_same c.arena-arena.result.now w.clauses c.args.clause c.arena-arena.ensures in
    subst (λ (xs : List Literal). Meets w c.args.self.now c.loop-place.self xs)
    (take_all c.loop-place.place (lits_in w.clauses c.args.clause)
    (omega (arith, ap length same, c.len-place-end.ensures, c.loop-place-test.false)))
    c.loop-place.invariant

pub loop-place-init : goal.loop-place-init
loop-place-init c = Meets-none c.args.watch.now c.args.self.now

pub lit-requires : goal.lit-requires
lit-requires c = omega (arith, c.len-place-end.ensures, c.loop-place-test.true)

pub meet-requires-clause-within : goal.meet-requires-clause-within
meet-requires-clause-within c =
    let w = c.args.watch.now in
    let same : lits_at c.arena-arena.result.now c.args.clause ≡ lits_in w.clauses c.args.clause =
    lits_same c.arena-arena.result.now w.clauses c.args.clause c.arena-arena.ensures in
    subst (λ (l : Literal). l.variable ≤ w.variables)
    (sym (c.lit.ensures ∙ ap (λ (xs : List Literal). lit_at xs c.loop-place.place) same))
    (c.keeps_facts.ensures.in_range c.args.clause c.loop-place.place
    (omega (arith, ap length same, c.len-place-end.ensures, c.loop-place-test.true)))

pub meet-requires-clause-may : goal.meet-requires-clause-may
meet-requires-clause-may c =
    let w = c.args.watch.now in
    let same : lits_at c.arena-arena.result.now c.args.clause ≡ lits_in w.clauses c.args.clause =
    lits_same c.arena-arena.result.now w.clauses c.args.clause c.arena-arena.ensures in
    MayMeet-one w c.args.self.now c.loop-place.self (lits_in w.clauses c.args.clause) c.loop-place.place
    c.lit.result (omega (arith, ap length same, c.len-place-end.ensures, c.loop-place-test.true))
    (c.lit.ensures ∙ ap (λ (xs : List Literal). lit_at xs c.loop-place.place) same) c.loop-place.invariant
    c.requires.may
