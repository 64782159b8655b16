use Rattle.std.proofs.Common.{◌≡◌, ◌<◌, true, length, drop, subst}
use Rattle.ba_code.specs.Facts.{Declared}
use Rattle.ba_guards.proofs.Building.{joined-by}
use Rattle.ba_guards.specs.Making.{AreSides, Fits, Joins}
use Rattle.ba_guards.specs.Written.{AgreeBut}
use Rattle.ba_guards.specs.declared.builder.Sides.{Sides}
use Rattle.ba_wordlist.specs.Facts.{are_names}
use Rattle.ba_guards.proofs.builder.Builder.join.Goals as goal

pub returns : goal.returns
returns c =
    let old = c.args.self.now in
    let new = c.write_since.new.self in
    let s = c.into_inner-sides.result in
    subst (λ (s : Sides). (d : Declared) → Fits d old → s.after.live < length old.words
    → are_names (length old.words) s.after.vars ≡ true → length s.after.vars ≡ length old.vars
    → AreSides old.words s → AgreeBut s.written s.before s.after.vars
    → AgreeBut (drop s.since old.written) s.before old.vars
    → Joins s.since s.before s.after.live s.after.vars old new)
    c.into_inner-sides.ensures
    (λ d fits below names long sides there here. joined-by d old c.join_sides.new.self new s
    c.in_ok-numbers.numbers fits below names long sides there here c.in_ok-numbers.ensures
    c.in_ok-join_sides.ensures.same c.in_ok-join_sides.ensures.kept c.in_ok-join_sides.ensures.ways
    c.in_ok-write_since.ensures.same c.in_ok-write_since.ensures.gathers)
