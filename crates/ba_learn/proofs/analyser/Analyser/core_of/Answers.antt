use Rattle.std.proofs.Common.{ℕ, ◌+◌, List, ap, sym, subst, ◌∙◌}
use Rattle.ba_lits.specs.Literals.{Literal, negate, IsClause}
use Rattle.ba_learn.specs.Live.{Follows}
use Rattle.ba_learn.specs.Levels.{IsCoreOf}
use Rattle.ba_learn.specs.Resolving.{Work}
use Rattle.ba_learn.proofs.Finishes.{ended, sorted_reasons, kept_places}
use Rattle.ba_learn.proofs.CoreLaws.{core_place, core_reason, same_sorted, core_start, core_live, core_clause, core_follows, core_is}
use Rattle.ba_learn.proofs.analyser.Analyser.core_of.Goals as goal

pub start-requires-clause-live : goal.start-requires-clause-live
start-requires-clause-live c =
    let s = c.args.watch.now in
    let p_is = core_place s c.args.lit c.variable-variable.result c.unwrap-place.result
    c.variable-variable.ensures.variable c.requires.false_ (sym c.trail_index.ensures
    ∙ c.unwrap-place.ensures) in
    let r_is = core_reason s c.args.lit c.variable-variable.result c.unwrap-place.result
    c.unwrap-reason.result c.variable-variable.ensures.variable p_is (sym c.reason.ensures
    ∙ c.unwrap-reason.ensures) in
    core_live s c.keeps_facts.ensures c.args.lit c.unwrap-place.result c.unwrap-reason.result
    c.requires.false_ p_is r_is

pub start-requires-clause-may : goal.start-requires-clause-may
start-requires-clause-may c =
    let s = c.args.watch.now in
    let p_is = core_place s c.args.lit c.variable-variable.result c.unwrap-place.result
    c.variable-variable.ensures.variable c.requires.false_ (sym c.trail_index.ensures
    ∙ c.unwrap-place.ensures) in
    let r_is = core_reason s c.args.lit c.variable-variable.result c.unwrap-place.result
    c.unwrap-reason.result c.variable-variable.ensures.variable p_is (sym c.reason.ensures
    ∙ c.unwrap-reason.ensures) in (
      c.unwrap-place.result + 1,
      core_start s c.keeps_facts.ensures c.args.lit c.unwrap-place.result
          c.unwrap-reason.result c.requires.false_ p_is r_is,
    )

pub close-requires : goal.close-requires
close-requires c =
    let s = c.args.watch.now in
    let p_is = core_place s c.args.lit c.variable-variable.result c.unwrap-place.result
    c.variable-variable.ensures.variable c.requires.false_ (sym c.trail_index.ensures
    ∙ c.unwrap-place.ensures) in
    let r_is = core_reason s c.args.lit c.variable-variable.result c.unwrap-place.result
    c.unwrap-reason.result c.variable-variable.ensures.variable p_is (sym c.reason.ensures
    ∙ c.unwrap-reason.ensures) in
    let m = core_start s c.keeps_facts.ensures c.args.lit c.unwrap-place.result c.unwrap-reason.result
    c.requires.false_ p_is r_is in
    record { work = (c.unwrap-place.result + 1, c.in_ok-start.ensures.work (c.unwrap-place.result + 1) m) }

pub clause-requires : goal.clause-requires
clause-requires c =
    let s = c.args.watch.now in
    let p_is = core_place s c.args.lit c.variable-variable.result c.unwrap-place.result
    c.variable-variable.ensures.variable c.requires.false_ (sym c.trail_index.ensures
    ∙ c.unwrap-place.ensures) in
    let r_is = core_reason s c.args.lit c.variable-variable.result c.unwrap-place.result
    c.unwrap-reason.result c.variable-variable.ensures.variable p_is (sym c.reason.ensures
    ∙ c.unwrap-reason.ensures) in
    let m = core_start s c.keeps_facts.ensures c.args.lit c.unwrap-place.result c.unwrap-reason.result
    c.requires.false_ p_is r_is in
    let u = c.in_ok-start.ensures in
    let w = c.in_ok-close.ensures in
    kept_places s (c.unwrap-place.result + 1) c.close.new.self c.sort.new.self.kept
    (w.work (c.unwrap-place.result + 1) (u.work (c.unwrap-place.result + 1) m))
    (ap (λ (w : Work). w.kept) c.sort.ensures.rest)

pub hints-requires-clause-live : goal.hints-requires-clause-live
hints-requires-clause-live c =
    let s = c.args.watch.now in
    let p_is = core_place s c.args.lit c.variable-variable.result c.unwrap-place.result
    c.variable-variable.ensures.variable c.requires.false_ (sym c.trail_index.ensures
    ∙ c.unwrap-place.ensures) in
    let r_is = core_reason s c.args.lit c.variable-variable.result c.unwrap-place.result
    c.unwrap-reason.result c.variable-variable.ensures.variable p_is (sym c.reason.ensures
    ∙ c.unwrap-reason.ensures) in
    core_live s c.keeps_facts.ensures c.args.lit c.unwrap-place.result c.unwrap-reason.result
    c.requires.false_ p_is r_is

pub hints-requires-clause-reasons : goal.hints-requires-clause-reasons
hints-requires-clause-reasons c =
    let s = c.args.watch.now in
    let p_is = core_place s c.args.lit c.variable-variable.result c.unwrap-place.result
    c.variable-variable.ensures.variable c.requires.false_ (sym c.trail_index.ensures
    ∙ c.unwrap-place.ensures) in
    let r_is = core_reason s c.args.lit c.variable-variable.result c.unwrap-place.result
    c.unwrap-reason.result c.variable-variable.ensures.variable p_is (sym c.reason.ensures
    ∙ c.unwrap-reason.ensures) in
    let m = core_start s c.keeps_facts.ensures c.args.lit c.unwrap-place.result c.unwrap-reason.result
    c.requires.false_ p_is r_is in
    let u = c.in_ok-start.ensures in
    let w = c.in_ok-close.ensures in
    sorted_reasons s (c.unwrap-place.result + 1) c.close.new.self c.sort.new.self.resolved
    (w.work (c.unwrap-place.result + 1) (u.work (c.unwrap-place.result + 1) m)) c.sort.ensures.sorted

pub returns-clause-clause : goal.returns-clause-clause
returns-clause-clause c =
    let s = c.args.watch.now in
    let p_is = core_place s c.args.lit c.variable-variable.result c.unwrap-place.result
    c.variable-variable.ensures.variable c.requires.false_ (sym c.trail_index.ensures
    ∙ c.unwrap-place.ensures) in
    let r_is = core_reason s c.args.lit c.variable-variable.result c.unwrap-place.result
    c.unwrap-reason.result c.variable-variable.ensures.variable p_is (sym c.reason.ensures
    ∙ c.unwrap-reason.ensures) in
    let m = core_start s c.keeps_facts.ensures c.args.lit c.unwrap-place.result c.unwrap-reason.result
    c.requires.false_ p_is r_is in
    let u = c.in_ok-start.ensures in
    let w = c.in_ok-close.ensures in
    let done = ended s (c.unwrap-place.result + 1) c.start.new.self c.close.new.self c.unwrap-reason.result
    u.resolved u.seen w.resolves (w.work (c.unwrap-place.result + 1)
    (u.work (c.unwrap-place.result + 1) m)) w.all in
    let sorted = same_sorted s c.negated.result (negate c.args.lit) c.sort.new.self.kept
    c.close.new.self.kept c.in_ok-lits.lits.items c.negated.ensures
    (ap (λ (w : Work). w.kept) c.sort.ensures.rest) c.in_ok-lits.ensures in
    subst (λ (ls : List Literal). IsClause s.variables ls) (sym c.from_vec.ensures)
    (core_clause s c.keeps_facts.ensures c.args.lit c.unwrap-place.result c.unwrap-reason.result
    c.requires.false_ p_is r_is c.close.new.self done (w.resolves.floor ∙ u.floor) (w.resolves.deep
    ∙ u.deep) c.in_ok-lits.lits.items c.sort.new.self.resolved sorted c.sort.ensures.sorted)

pub returns-clause-follows : goal.returns-clause-follows
returns-clause-follows c =
    let s = c.args.watch.now in
    let p_is = core_place s c.args.lit c.variable-variable.result c.unwrap-place.result
    c.variable-variable.ensures.variable c.requires.false_ (sym c.trail_index.ensures
    ∙ c.unwrap-place.ensures) in
    let r_is = core_reason s c.args.lit c.variable-variable.result c.unwrap-place.result
    c.unwrap-reason.result c.variable-variable.ensures.variable p_is (sym c.reason.ensures
    ∙ c.unwrap-reason.ensures) in
    let m = core_start s c.keeps_facts.ensures c.args.lit c.unwrap-place.result c.unwrap-reason.result
    c.requires.false_ p_is r_is in
    let u = c.in_ok-start.ensures in
    let w = c.in_ok-close.ensures in
    let done = ended s (c.unwrap-place.result + 1) c.start.new.self c.close.new.self c.unwrap-reason.result
    u.resolved u.seen w.resolves (w.work (c.unwrap-place.result + 1)
    (u.work (c.unwrap-place.result + 1) m)) w.all in
    let sorted = same_sorted s c.negated.result (negate c.args.lit) c.sort.new.self.kept
    c.close.new.self.kept c.in_ok-lits.lits.items c.negated.ensures
    (ap (λ (w : Work). w.kept) c.sort.ensures.rest) c.in_ok-lits.ensures in
    subst (λ (ls : List Literal). Follows s.clauses ls c.from_vec-2.result) (sym c.from_vec.ensures)
    (subst (λ (hs : List ℕ). Follows s.clauses c.in_ok-lits.lits.items hs)
    (sym (c.from_vec-2.ensures ∙ c.in_ok-hints.ensures))
    (core_follows s c.keeps_facts.ensures c.args.lit c.unwrap-place.result c.unwrap-reason.result
    c.requires.false_ p_is r_is c.close.new.self done (w.resolves.floor ∙ u.floor) (w.resolves.deep
    ∙ u.deep) c.in_ok-lits.lits.items c.sort.new.self.resolved sorted c.sort.ensures.sorted))

pub returns-clause-core : goal.returns-clause-core
returns-clause-core c =
    let s = c.args.watch.now in
    let p_is = core_place s c.args.lit c.variable-variable.result c.unwrap-place.result
    c.variable-variable.ensures.variable c.requires.false_ (sym c.trail_index.ensures
    ∙ c.unwrap-place.ensures) in
    let r_is = core_reason s c.args.lit c.variable-variable.result c.unwrap-place.result
    c.unwrap-reason.result c.variable-variable.ensures.variable p_is (sym c.reason.ensures
    ∙ c.unwrap-reason.ensures) in
    let m = core_start s c.keeps_facts.ensures c.args.lit c.unwrap-place.result c.unwrap-reason.result
    c.requires.false_ p_is r_is in
    let u = c.in_ok-start.ensures in
    let w = c.in_ok-close.ensures in
    let done = ended s (c.unwrap-place.result + 1) c.start.new.self c.close.new.self c.unwrap-reason.result
    u.resolved u.seen w.resolves (w.work (c.unwrap-place.result + 1)
    (u.work (c.unwrap-place.result + 1) m)) w.all in
    let sorted = same_sorted s c.negated.result (negate c.args.lit) c.sort.new.self.kept
    c.close.new.self.kept c.in_ok-lits.lits.items c.negated.ensures
    (ap (λ (w : Work). w.kept) c.sort.ensures.rest) c.in_ok-lits.ensures in
    subst (λ (ls : List Literal). IsCoreOf s c.args.lit ls) (sym c.from_vec.ensures)
    (core_is s c.keeps_facts.ensures c.args.lit c.unwrap-place.result c.unwrap-reason.result
    c.requires.false_ p_is r_is c.close.new.self done (w.resolves.floor ∙ u.floor) (w.resolves.deep
    ∙ u.deep) c.in_ok-lits.lits.items c.sort.new.self.resolved sorted c.sort.ensures.sorted)
