use Rattle.std.proofs.Common.{inl, inr}
use Rattle.ba_guards.proofs.Beginning.{gives-more, gives-no-more, gives-none}
use Rattle.ba_guards.specs.Parts.{declared}
use Rattle.ba_guards.proofs.starting.give_input.Goals as goal

pub loop-param-preserved : goal.loop-param-preserved
loop-param-preserved c = λ vars s here params given.
    gives-more (declared vars c.args.arrays.now) c.loop-param.b c.give.new.b c.in-Some.param.now
    c.next.new.self.a.rest.now
    c.in-Some.values.now c.as_slice.result.now c.next.new.self.b.rest.now
    c.loop-param.param-iterator.a.rest.now
    c.loop-param.param-iterator.b.rest.now _ c.in-Some.ensures.steps.0 c.in-Some.ensures.steps.1
    c.as_slice.ensures
    (c.in_ok-give.ensures vars) (c.loop-param.invariant vars s here params given)

pub returns : goal.returns
returns c = λ vars s here params given.
    let d = declared vars c.args.arrays.now in
    let all = c.loop-param.invariant vars s here params given in
    elim c.in-None.ensures.steps [
      | inl none ↦ gives-none d c.loop-param.b c.loop-param.param-iterator.a.rest.now
          c.loop-param.param-iterator.b.rest.now _
          none.1.0 all
      | inr none ↦ gives-no-more d c.loop-param.b c.loop-param.param-iterator.a.rest.now
          c.loop-param.param-iterator.b.rest.now _
          none.1.0 all
    ]
