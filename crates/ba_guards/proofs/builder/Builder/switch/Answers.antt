use Rattle.std.proofs.Common.{◌<◌, length, subst}
use Rattle.ba_code.specs.Facts.{Declared}
use Rattle.ba_guards.proofs.Building.{switches-by}
use Rattle.ba_guards.specs.Making.{Fits, Switches}
use Rattle.ba_guards.specs.declared.builder.Builder.{Builder}
use Rattle.ba_guards.specs.declared.builder.Fork.{Fork}
use Rattle.ba_guards.proofs.builder.Builder.switch.Goals as goal

pub returns-clause-switches : goal.returns-clause-switches
returns-clause-switches c =
    let old = c.args.self.now in
    let k = c.into_inner-which.result in
    let new : Builder = record old {
      words = c.select.new.self;
      live = c.in_ok-second.second;
      vars = c.replace.new.dest;
      written = c.truncate.new.self;
    } in
    subst (λ (k : Fork). (d : Declared) → Fits d old → k.which < length old.words
    → k.before.live < length old.words → Switches k.since k.before.live k.before.vars old new k.which)
    c.into_inner-which.ensures
    (λ d fits below live_below. switches-by d old new k.which k.since k.before.live k.before.vars fits below
    live_below (λ i. record old {
      words = c.select.new.self;
      live = c.in_ok-second.second;
      vars = c.replace.ensures.after i;
      written = c.truncate.ensures i;
    })
    c.in_ok-second.ensures)
