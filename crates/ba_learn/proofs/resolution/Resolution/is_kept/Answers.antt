use Rattle.std.proofs.Common.{◌≡◌, ℕ, arith, ◌∙◌, sym, false, nat_lt}
use Rattle.std.proofs.lemmas.Bool.Decides.{nat_tests}
use Rattle.ba_watch.specs.Trails.{trail_index, level_at}
use Rattle.ba_learn.proofs.WorkLaws.{zero_has_reason, level-is}
use Rattle.ba_learn.proofs.resolution.Resolution.is_kept.Goals as goal

not_above : (n : ℕ) → nat_lt 0 n ≡ false → n ≡ 0
not_above n e = grind (arith, nat_tests)

pub returns-else-self-clause-resolved : goal.returns-else-self-clause-resolved
returns-else-self-clause-resolved c = λ e.
    let w = c.args.watch.now in
    let l = level-is w.trail w.reasons c.args.variable c.unwrap.result c.requires.assigned
    (sym c.level_of.ensures ∙ c.unwrap.ensures) in
    let z : level_at w.reasons (trail_index w.trail c.args.variable) ≡ 0 =
    sym l ∙ not_above c.unwrap.result e in
    record {
      reason = zero_has_reason w.reasons (trail_index w.trail c.args.variable)
          (omega (arith, c.keeps_facts.ensures.trail.same_length, c.requires.assigned)) z;
      level = λ shallow. z;
    }
