use Rattle.ba_inline.proofs.Adding.{adds-fill, adds-set}
use Rattle.ba_inline.proofs.FrameArms.{begin-array, begin-passed, begin-value}
use Rattle.ba_inline.proofs.binding.begin_one.Goals as goal

pub returns-in_ok-add-in-Value : goal.returns-in_ok-add-in-Value
returns-in_ok-add-in-Value c = λ names own begun low base scope binds.
    begin-value c.args.setting.now.program.now names low scope own begun c.args.scope.now
    c.args.declared.now base
    c.args.out.now.items c.add.new.out.items binds c.args.var c.variable_of-variable.result
    c.variable_of-variable.ensures c.in_ok-number-in-Value.number c.variable_of-variable.result.t
    c.set_value.new.self
    c.variable.new.self c.in-Value.is c.in_ok-number-in-Value.ensures.0 c.in_ok-number-in-Value.ensures.1
    (adds-set _ _ _ _ c.in_ok-add-in-Value.ensures) c.set_value.ensures

pub returns-in_ok-location-in-Array : goal.returns-in_ok-location-in-Array
returns-in_ok-location-in-Array c = λ names own begun low base scope binds.
    begin-array c.args.setting.now.program.now names low scope own begun c.args.scope.now
    c.args.declared.now base
    c.args.out.now.items c.add-in-Array.new.out.items binds c.args.var c.variable_of-variable.result
    c.variable_of-variable.ensures c.in-Array.len c.in_ok-number-in-Array.number
    c.in_ok-location-in-Array.location
    c.variable_of-variable.result.t c.in_ok-zeros-in-Array.field-0.items c.add_array.new.self
    c.set_location.new.self
    c.array.new.self c.in-Array.is c.in_ok-number-in-Array.ensures.0 c.in_ok-number-in-Array.ensures.1
    c.in_ok-zeros-in-Array.ensures (adds-fill _ _ _ _ c.in_ok-add-in-Array.ensures)
    c.in_ok-location-in-Array.ensures.0
    c.in_ok-location-in-Array.ensures.1 c.set_location.ensures

pub returns-in-Passed : goal.returns-in-Passed
returns-in-Passed c = λ names own begun low base scope binds.
    begin-passed c.args.setting.now.program.now names low scope own begun c.args.scope.now
    c.args.declared.now base
    c.args.out.now.items c.args.out.now.items binds c.args.var c.variable_of-variable.result
    c.variable_of-variable.ensures c.in-Passed.is
