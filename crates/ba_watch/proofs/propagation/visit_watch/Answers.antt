use Rattle.std.proofs.Common.{◌≡◌, ◌-◌, Some, None, true, false, arith, ap, sym, ◌∙◌, ◌++◌, ◌∷◌, []}
use Rattle.std.proofs.lemmas.Bool.{false≢true}
use Rattle.ba_lits.specs.Literals.{Literal, lit_at}
use Rattle.ba_arena.specs.Clauses.{lits_at}
use Rattle.ba_watch.specs.Trails.{value_of}
use Rattle.ba_watch.proofs.Visits.{visit_true, visit_move, visit_false, visit_unit, neither}
use Rattle.ba_watch.proofs.propagation.visit_watch.Goals as goal

pub returns-then-is_true-clause-visits : goal.returns-then-is_true-clause-visits
returns-then-is_true-clause-visits c rest =
    let w = c.watched_index-place.ensures in
    let h : value_of c.args.trail.now.lits (lit_at (lits_at c.args.lists.now.arena c.args.clause)
    (1 - c.watched_index-place.result)) ≡ Some true =
    ap (value_of c.args.trail.now.lits) (sym c.lit-other.ensures) ∙ c.is_true.ensures.0 c.if-is_true.true in
    visit_true _ _ c.args.trail.now _ _ c.watched_index-place.result (1 - c.watched_index-place.result) rest
    w.apart w.long w.place (omega arith) (omega (arith, w.place)) w.watched c.keep.ensures.arena h

pub returns-in-Some-clause-visits : goal.returns-in-Some-clause-visits
returns-in-Some-clause-visits c rest =
    let w = c.watched_index-place.ensures in
    let f = c.in-Some.ensures.some in
    visit_move _ _ c.args.trail.now _ _ c.watched_index-place.result (1 - c.watched_index-place.result) rest
    w.apart w.long w.place (omega arith) (omega (arith, w.place)) w.watched c.in-Some.free
    c.move_watch.ensures.arena f.0 f.1 f.2

pub returns-then-is_false-clause-visits : goal.returns-then-is_false-clause-visits
returns-then-is_false-clause-visits c rest =
    let w = c.watched_index-place.ensures in
    let h : value_of c.args.trail.now.lits (lit_at (lits_at c.args.lists.now.arena c.args.clause)
    (1 - c.watched_index-place.result)) ≡ Some false =
    ap (value_of c.args.trail.now.lits) (sym c.lit-other.ensures) ∙ c.is_false.ensures.0 c.if-is_false.true in
    visit_false _ _ c.args.trail.now _ _ c.watched_index-place.result (1 - c.watched_index-place.result)
    rest w.apart w.long w.place (omega arith) (omega (arith, w.place)) w.watched c.keep-2.ensures.arena
    c.in_default.ensures.none h

pub returns-clause-visits : goal.returns-clause-visits
returns-clause-visits c rest =
    let w = c.watched_index-place.ensures in
    let h : value_of c.args.trail.now.lits (lit_at (lits_at c.args.lists.now.arena c.args.clause)
    (1 - c.watched_index-place.result)) ≡ None =
    ap (value_of c.args.trail.now.lits) (sym c.lit-other.ensures)
    ∙ neither _ (λ e. false≢true (sym c.if-is_true.false ∙ c.is_true.ensures.1 e))
    (λ e. false≢true (sym c.if-is_false.false ∙ c.is_false.ensures.1 e)) in
    visit_unit _ _ c.args.trail.now _ _ c.watched_index-place.result (1 - c.watched_index-place.result) rest
    w.apart w.long w.place (omega arith) (omega (arith, w.place)) w.watched c.keep-2.ensures.arena
    c.in_default.ensures.none c.push.new.self (c.push.ensures.pushed
    ∙ ap (λ (l : Literal). record c.args.trail.now {
      lits = c.args.trail.now.lits ++ l ∷ [];
      reasons = c.args.trail.now.reasons ++ Some c.args.clause ∷ [];
    }) c.lit-other.ensures) c.push.ensures.trail
    c.push.ensures.lengths h
