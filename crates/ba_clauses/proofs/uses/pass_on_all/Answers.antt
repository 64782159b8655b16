use Rattle.std.proofs.Common.{◌≡◌, ◌+◌, ◌-◌, ◌<◌, ◌≤◌, length, arith}
use Rattle.std.proofs.lemmas.Option.{slice_get-get_or}
use Rattle.ba_nodes.specs.declared.Node.TheVariants.{Free}
use Rattle.ba_clauses.proofs.Needs.{NeedMoreBelow-through, NeedMoreBelow-weaker, passed_down}
use Rattle.ba_clauses.proofs.uses.pass_on_all.Goals as goal

pub loop-number-preserved : goal.loop-number-preserved
loop-number-preserved c =
    let within : c.loop-number.number - 1 < length c.args.nodes.now = omega arith in
    let under : c.loop-number.number - 1 ≤ length c.args.uses.now = omega (arith, c.requires.size) in
    let some : c.loop-number.number - 1 + 1 ≡ c.loop-number.number = omega arith in
    record {
      passed = passed_down c.args.nodes.now c.loop-number.uses c.pass_on.new.uses (c.loop-number.number - 1) _
          (slice_get-get_or c.args.nodes.now (c.loop-number.number - 1) (Free 0) within)
          c.pass_on.ensures.more c.pass_on.ensures.passed
          (λ k other le there. c.loop-number.invariant.passed k other (omega (arith, le, some)) there);
      more = NeedMoreBelow-through (length c.args.uses.now) c.args.uses.now c.loop-number.uses
          c.pass_on.new.uses c.loop-number.invariant.more
          (NeedMoreBelow-weaker (c.loop-number.number - 1) (length c.args.uses.now) c.loop-number.uses
          c.pass_on.new.uses under c.pass_on.ensures.more);
    }
