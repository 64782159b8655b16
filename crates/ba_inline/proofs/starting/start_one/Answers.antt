use Rattle.ba_inline.proofs.Started.{array-started, passed-started, value-started}
use Rattle.ba_inline.proofs.starting.start_one.Goals as goal

pub returns-in_ok-number-in-Value : goal.returns-in_ok-number-in-Value
returns-in_ok-number-in-Value c = value-started c.args.setting.now.program.now c.args.scope.now
    c.args.declared.now c.args.var
    c.variable_of-variable.result c.variable_of-variable.ensures c.in_ok-number-in-Value.number
    c.set_value.new.self
    c.variable.new.self c.in-Value.is c.in_ok-number-in-Value.ensures.0 c.in_ok-number-in-Value.ensures.1
    c.set_value.ensures

pub returns-in_ok-location-in-Array : goal.returns-in_ok-location-in-Array
returns-in_ok-location-in-Array c = array-started c.args.setting.now.program.now c.args.scope.now
    c.args.declared.now
    c.args.var c.variable_of-variable.result c.variable_of-variable.ensures c.in-Array.len
    c.in_ok-number-in-Array.number
    c.in_ok-location-in-Array.location c.add_array.new.self c.set_location.new.self c.array.new.self
    c.in-Array.is
    c.in_ok-number-in-Array.ensures.0 c.in_ok-number-in-Array.ensures.1 c.in_ok-location-in-Array.ensures.0
    c.in_ok-location-in-Array.ensures.1 c.set_location.ensures

pub returns-in-Passed : goal.returns-in-Passed
returns-in-Passed c = passed-started c.args.setting.now.program.now c.args.scope.now c.args.declared.now
    c.args.var
    c.variable_of-variable.result c.variable_of-variable.ensures c.in-Passed.is
