use Rattle.std.proofs.Common.{◌≡◌, ◌<◌, ◌-◌, ◌++◌, ◌∷◌, [], take, arith, rules, refl, sym, ◌∙◌, ap, vec_len}
use Rattle.ba_watch.proofs.ShortClauses.{Assigns-none, Assigns-trans, Units-pop, last_split, occurs_last, level_zero}
use Rattle.ba_watch.specs.Trails.{decided}
use Rattle.ba_watch.proofs.units.assign_units.Goals as goal

pub loop-waiting-init : goal.loop-waiting-init
loop-waiting-init c = record {
  range = c.requires.range;
  assigns = Assigns-none c.args.arena.now c.args.trail.now;
  units = c.requires.units;
  raised = c.requires.raised;
}

pub assign_unit-requires-clause-live : goal.assign_unit-requires-clause-live
assign_unit-requires-clause-live c =
    let w = c.loop-waiting.waiting in
    let some : 0 < vec_len w = search rules in
    c.loop-waiting.invariant.units.live c.index-clause.result.now
    (occurs_last w.items (take (vec_len w - 1) w.items) c.index-clause.result.now
    (last_split w.items (vec_len w) c.len.result c.index-clause.result.now (omega (arith, w.ok.0))
    c.len.ensures some c.index-clause.ensures))

pub assign_unit-requires-clause-short : goal.assign_unit-requires-clause-short
assign_unit-requires-clause-short c =
    let w = c.loop-waiting.waiting in
    let some : 0 < vec_len w = search rules in
    c.loop-waiting.invariant.units.short c.index-clause.result.now
    (occurs_last w.items (take (vec_len w - 1) w.items) c.index-clause.result.now
    (last_split w.items (vec_len w) c.len.result c.index-clause.result.now (omega (arith, w.ok.0))
    c.len.ensures some c.index-clause.ensures))

pub returns-then-not-assign_unit-clause-assigns : goal.returns-then-not-assign_unit-clause-assigns
returns-then-not-assign_unit-clause-assigns c =
    Assigns-trans _ _ c.loop-waiting.trail _ c.loop-waiting.invariant.assigns
    c.if-not-assign_unit.ensures.assigns.steps

pub returns-then-not-assign_unit-clause-some : goal.returns-then-not-assign_unit-clause-some
returns-then-not-assign_unit-clause-some c =
    let w = c.loop-waiting.waiting in
    let some : 0 < vec_len w = search rules in (
      c.loop-waiting.invariant.units.live c.index-clause.result.now
          (occurs_last w.items (take (vec_len w - 1) w.items) c.index-clause.result.now
          (last_split w.items (vec_len w) c.len.result c.index-clause.result.now (omega (arith, w.ok.0))
          c.len.ensures some c.index-clause.ensures)),
      c.if-not-assign_unit.ensures.assigns.failed refl,
    )

pub loop-waiting-preserved : goal.loop-waiting-preserved
loop-waiting-preserved c =
    let w = c.loop-waiting.waiting in
    let i = c.loop-waiting.invariant in
    let a = c.if-not-assign_unit.ensures.assigns in
    let some : 0 < vec_len w = search rules in
    let level : decided c.loop-waiting.trail.reasons ≡ 0 =
    level_zero (decided c.loop-waiting.trail.reasons) w.items i.raised (omega (arith, some, w.ok.0)) in
    record {
      range = λ r k k_in. omega (arith, i.range r k k_in, a.steps.variables);
      assigns = Assigns-trans _ _ c.loop-waiting.trail _ i.assigns a.steps;
      units = Units-pop _ c.loop-waiting.trail _ w.items c.pop.new.self.items c.index-clause.result.now
          i.units (last_split w.items (vec_len w) c.len.result c.index-clause.result.now
          (omega (arith, w.ok.0)) c.len.ensures some c.index-clause.ensures
          ∙ ap (λ xs. xs ++ c.index-clause.result.now ∷ []) (sym c.pop.ensures.rest)) a level;
      raised = λ h. absurd (omega (arith, h, a.steps.level, level));
    }
