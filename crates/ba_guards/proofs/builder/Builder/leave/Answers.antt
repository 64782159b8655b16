use Rattle.std.proofs.Common.{rules, ◌≡◌, sym, ◌∙◌, ap, None, slice_get}
use Rattle.std.specs.Prelude.{slice_set}
use Rattle.ba_guards.proofs.Building.{leaving-by, leaving-some}
use Rattle.ba_guards.specs.Written.{is_among}
use Rattle.ba_guards.proofs.builder.Builder.leave.Goals as goal

pub returns-in_default : goal.returns-in_default
returns-in_default c = λ d fits.
    let none : c.get.result ≡ None = search rules in
    absurd (leaving-some d c.args.self.now c.args.label fits
    (ap (slice_get c.args.self.now.exits) (sym c.position-index.ensures) ∙ c.get.ensures.none none))

pub returns : goal.returns
returns c = λ d fits.
    let found = ap (slice_get c.args.self.now.exits) (sym c.position-index.ensures) ∙
    c.in-Some.ensures.some in
    leaving-by d c.args.self.now _ c.args.label c.in-Some.exit.now c.either_way.new.live
    c.in_ok-vars.vars c.either_way.new.vars c.in_ok-numbers.numbers c.in_ok-written.written fits found
    (ap (λ es. record c.args.self.now { words = c.either_way.new.words; live = 0; exits = es })
    (c.set.ensures c.in-Some.exit.now c.in-Some.ensures.some
    ∙ ap (λ i. slice_set c.args.self.now.exits i
    (record c.in-Some.exit.now {
      live = c.either_way.new.live;
      vars = c.either_way.new.vars;
      written = c.in_ok-written.written;
    }))
    c.position-index.ensures))
    c.in_ok-vars.ensures c.in_ok-numbers.ensures c.in_ok-either_way.ensures.kept
    c.in_ok-either_way.ensures.ways
    (λ agree. c.in_ok-written.ensures (λ k h. agree k (ap (is_among k) (sym c.as_slice.ensures) ∙ h)))
