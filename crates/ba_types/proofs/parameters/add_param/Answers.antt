use Rattle.std.specs.Borrow.{Bor}
use Rattle.std.specs.Prelude.{option_map}
use Rattle.ba_tokens.specs.declared.token.Token.{Token}
use Rattle.ba_statements.specs.Adding.{state_with}
use Rattle.ba_types.proofs.ParameterSteps.{faults-are, param-is}
use Rattle.ba_types.proofs.parameters.add_param.Goals as goal

pub returns : goal.returns
returns c stmts =
    let o = c.args.owner in
    let p = c.args.parameter.now in
    let s1 = c.declare_param.new.scope in
    let w1 = c.declare_param.new.work in
    let w2 = record w1 { tally = c.add_tag_faults.new.tally } in
    let at = c.position_of_param-at.result in
    let t = c.type_named-t.result in
    param-is o.is_main o.is_defined o.at c.args.number p (state_with c.args.scope.now c.args.work.now stmts)
    (state_with s1 w1 stmts) (state_with s1 w2 stmts) at t c.position_of_param-at.ensures
    c.type_named-t.ensures
    (c.in_ok-declare_param.ensures stmts)
    (faults-are at t c.args.number p.type_name (option_map (λ (t : Bor Token). t.now) c.tag_of_type.result) s1
    w1
    c.add_param_faults.new.tally c.add_tag_faults.new.tally stmts c.tag_of_type.ensures
    c.add_param_faults.ensures
    c.add_tag_faults.ensures)
