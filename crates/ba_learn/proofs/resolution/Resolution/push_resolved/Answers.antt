use Rattle.std.proofs.Common.{List, ℕ, ap, ◌∙◌}
use Rattle.ba_learn.specs.Resolving.{Work, with_resolved}
use Rattle.ba_learn.proofs.resolution.Resolution.push_resolved.Goals as goal

pub returns : goal.returns
returns c =
    let i = c.self.inside in
    ap (λ (xs : List ℕ). record {
      seen = i.seen;
      floor = i.floor;
      deep = i.deep;
      pending = i.pending;
      kept = i.kept.items;
      resolved = xs;
      waiting = i.waiting.items;
    }) c.in_ok-push.ensures.items ∙ ap (λ (w : Work). with_resolved w c.args.place) c.self.view_is
