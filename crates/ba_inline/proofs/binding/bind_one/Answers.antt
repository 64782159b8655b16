use Rattle.std.proofs.Common.{false, [], ◌∷◌, ◌++◌, sym, subst}
use Rattle.ba_inline.proofs.Adding.{adds-set}
use Rattle.ba_inline.proofs.FrameArms.{bind-location, bind-value}
use Rattle.ba_inline.specs.Binding.{Binds}
use Rattle.ba_inline.specs.Making.{IsGiven, argument_in}
use Rattle.ba_tree.specs.Run.{bind_one}
use Rattle.ba_inline.proofs.binding.bind_one.Goals as goal

pub returns-in_ok-add-in-Value-Value : goal.returns-in_ok-add-in-Value-Value
returns-in_ok-add-in-Value-Value c = λ names own begun low base scope given binds.
    subst (λ g. Binds c.args.setting.now.program.now names (own ++ c.args.param ∷ [])
    (λ t. bind_one c.args.param (argument_in t g) (begun t)) c.set_value.new.self low c.variable.new.self base
    c.add.new.out.items) (sym c.in-Value-Value.is-0)
    (bind-value c.args.setting.now.program.now names low scope own begun c.args.scope.now
    c.args.declared.now base
    c.args.out.now.items c.add.new.out.items binds c.args.param c.variable_of-variable.result
    c.variable_of-variable.ensures c.in_ok-number-in-Value-Value.number c.variable_of-variable.result.t
    c.in-Value-Value.value c.set_value.new.self c.variable.new.self c.in-Value-Value.is-1
    (subst (IsGiven false names low) c.in-Value-Value.is-0 given) c.in_ok-number-in-Value-Value.ensures.0
    c.in_ok-number-in-Value-Value.ensures.1 (adds-set _ _ _ _ c.in_ok-add-in-Value-Value.ensures)
    c.set_value.ensures)

pub returns-in-Array-Passed : goal.returns-in-Array-Passed
returns-in-Array-Passed c = λ names own begun low base scope given binds.
    subst (λ g. Binds c.args.setting.now.program.now names (own ++ c.args.param ∷ [])
    (λ t. bind_one c.args.param (argument_in t g) (begun t)) c.set_location.new.self low
    c.args.declared.now base
    c.args.out.now.items) (sym c.in-Array-Passed.is-0)
    (bind-location c.args.setting.now.program.now names low scope own begun c.args.scope.now
    c.args.declared.now base
    c.args.out.now.items c.args.out.now.items binds c.args.param c.variable_of-variable.result
    c.variable_of-variable.ensures c.in-Array-Passed.location c.set_location.new.self c.in-Array-Passed.is-1
    c.set_location.ensures)
