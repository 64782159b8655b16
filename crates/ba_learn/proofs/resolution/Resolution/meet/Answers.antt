use Rattle.std.proofs.Common.{◌≡◌, ◌<◌, ℕ, arith, length, ◌∙◌, sym, ap, true, subst, IsSome, Option, OnOk, [], ◌∷◌, ◌^◌}
use Rattle.std.proofs.lemmas.Result.{on_ok_weaker}
use Rattle.ba_watch.specs.Trails.{trail_index}
use Rattle.ba_learn.specs.Resolving.{Work, Meets, is_seen}
use Rattle.ba_learn.proofs.WorkLaws.{some_place, place-is}
use Rattle.ba_learn.proofs.MeetLaws.{met_place, met_new, met_old, pending_room}
use Rattle.ba_learn.proofs.resolution.Resolution.meet.Goals as goal

pub unwrap-place-requires : goal.unwrap-place-requires
unwrap-place-requires c =
    let w = c.args.watch.now in
    subst (λ (o : Option ℕ). IsSome o) (sym c.trail_index.ensures)
    (some_place w.trail c.variable-variable.result
    (met_place w c.args.self.now c.args.lit c.variable-variable.result
    c.variable-variable.ensures.variable c.requires.may))

pub returns-then-contains : goal.returns-then-contains
returns-then-contains c =
    let w = c.args.watch.now in
    let v = c.variable-variable in
    let p_is : c.unwrap-place.result ≡ trail_index w.trail v.result =
    place-is w.trail v.result c.unwrap-place.result
    (met_place w c.args.self.now c.args.lit v.result v.ensures.variable c.requires.may)
    (sym c.trail_index.ensures ∙ c.unwrap-place.ensures) in
    met_old w c.args.self.now c.args.lit c.unwrap-place.result (p_is
    ∙ ap (trail_index w.trail) v.ensures.variable)
    (subst (λ (old : Work). is_seen old c.unwrap-place.result ≡ true) c.self.view_is (sym c.contains.ensures
    ∙ c.if-contains.true))

pub part-requires-clause-assigned : goal.part-requires-clause-assigned
part-requires-clause-assigned c = met_place c.args.watch.now c.args.self.now c.args.lit
    c.variable-variable.result c.variable-variable.ensures.variable c.requires.may

pub part-requires-clause-place : goal.part-requires-clause-place
part-requires-clause-place c =
    let w = c.args.watch.now in
    let v = c.variable-variable in
    place-is w.trail v.result c.unwrap-place.result
    (met_place w c.args.self.now c.args.lit v.result v.ensures.variable c.requires.may)
    (sym c.trail_index.ensures ∙ c.unwrap-place.ensures)

pub part-requires-clause-room : goal.part-requires-clause-room
part-requires-clause-room c =
    subst (λ (old : Work). old.pending < 2 ^ 62) (sym c.self.view_is)
    (pending_room c.args.watch.now c.args.self.now (c.args.lit ∷ []) c.requires.may)

pub returns : goal.returns
returns c =
    let w = c.args.watch.now in
    let v = c.variable-variable in
    let i = c.self.inside in
    let within : trail_index w.trail v.result < length w.trail =
    met_place w c.args.self.now c.args.lit v.result v.ensures.variable c.requires.may in
    let p_is : c.unwrap-place.result ≡ trail_index w.trail v.result =
    place-is w.trail v.result c.unwrap-place.result within (sym c.trail_index.ensures
    ∙ c.unwrap-place.ensures) in
    subst (λ (old : Work). OnOk c.part.result (Meets w old c.part.new.self (c.args.lit ∷ []))) c.self.view_is
    (on_ok_weaker c.part.result
    (met_new w (record {
      seen = i.seen;
      floor = i.floor;
      deep = i.deep;
      pending = i.pending;
      kept =
          i.kept.items;
      resolved = i.resolved.items;
      waiting = i.waiting.items;
    }) c.insert.new.self
    c.unwrap-place.result
    (omega arith) (sym c.contains.ensures
    ∙ c.if-contains.false) c.in_ok-insert.ensures.ok c.part.new.self c.args.lit
    (p_is ∙ ap (trail_index w.trail) v.ensures.variable)) c.part.ensures)
