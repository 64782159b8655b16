use Rattle.ba_statements.specs.Adding.{state_with, behind_part}
use Rattle.ba_typing.specs.Files.{add_params}
use Rattle.ba_types.specs.Filing.{next_params}
use Rattle.ba_types.proofs.ParameterSteps.{next-param, no-param}
use Rattle.ba_types.proofs.parameters.add_next_params.Goals as goal

pub loop-next-preserved : goal.loop-next-preserved
loop-next-preserved c = λ stmts.
    let o = c.args.owner in let xs = c.args.rest.now in
    next-param o.is_main o.is_defined o.at c.loop-next.number c.in_ok-number.number xs c.loop-next.next-index
    c.next-item.result (state_with c.loop-next.scope c.loop-next.work stmts)
    (state_with c.add_param.new.scope c.add_param.new.work stmts)
    (behind_part (add_params o.is_main o.is_defined o.at 2 (next_params xs))
    (state_with c.args.scope.now c.args.work.now stmts))
    c.loop-next-test.true c.next-item.is (c.loop-next.invariant stmts) (c.in_ok-add_param.ensures stmts)
    c.in_ok-number.ensures

pub returns : goal.returns
returns c stmts =
    let o = c.args.owner in let xs = c.args.rest.now in
    no-param o.is_main o.is_defined o.at c.loop-next.number xs c.loop-next.next-index
    (state_with c.loop-next.scope c.loop-next.work stmts)
    (behind_part (add_params o.is_main o.is_defined o.at 2 (next_params xs))
    (state_with c.args.scope.now c.args.work.now stmts))
    c.loop-next-test.false (c.loop-next.invariant stmts)
