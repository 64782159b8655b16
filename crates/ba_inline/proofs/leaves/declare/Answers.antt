use Rattle.std.proofs.Common.{List, ◌∙◌, Ok, ap, map, sym}
use Rattle.std.proofs.lemmas.Result.{on_ok_weaker}
use Rattle.ba_code.specs.State.{operand_value}
use Rattle.ba_code.specs.declared.nodes.Operand.{Operand}
use Rattle.ba_inline.proofs.Adding.{adds-fill, adds-set}
use Rattle.ba_inline.proofs.FrameArms.{constants-zero}
use Rattle.ba_inline.proofs.Statements.{makes-no-code, makes-zeroed}
use Rattle.ba_inline.proofs.Stores.{makes-declared}
use Rattle.ba_inline.specs.Parts.{declare_part}
use Rattle.ba_tree.specs.Meaning.{declare}
use Rattle.ba_tree.specs.declared.run.Flow.TheVariants.{Next}
use Rattle.ba_tree.specs.declared.tree.Variable.{Variable}
use Rattle.ba_inline.proofs.leaves.declare.Goals as goal

pub returns-in_ok-variable-in-Value : goal.returns-in_ok-variable-in-Value
returns-in_ok-variable-in-Value c = on_ok_weaker c.add.result (λ added frame path is_frame.
    makes-zeroed c.args.setting.now.program.now c.args.scope.now path frame c.args.declared.now
    is_frame.naming c.args.var
    c.in_ok-variable-in-Value.field-0 c.args.out.now.items c.add.new.out.items
    c.in_ok-variable-in-Value.ensures
    (ap (λ (v : Variable). v.shape) (sym c.variable_of.ensures) ∙ c.in-Value.is) (adds-set _ _ _ _ added))
    c.add.ensures

pub returns-in_ok-zeros-in-Array : goal.returns-in_ok-zeros-in-Array
returns-in_ok-zeros-in-Array c = on_ok_weaker c.add-in-Array.result (λ added frame path is_frame.
    let zeros : List Operand = c.in_ok-zeros-in-Array.field-0.items in
    makes-declared c.args.setting.now.program.now c.args.scope.now path frame c.args.declared.now
    is_frame.naming c.args.var
    c.in_ok-number-in-Array.number c.in_ok-number-in-Array.ensures c.in-Array.len c.in-Array.len zeros
    (λ t. ap (map (operand_value t)) c.in_ok-zeros-in-Array.ensures ∙ constants-zero t c.in-Array.len)
    c.args.out.now.items c.add-in-Array.new.out.items
    (ap (λ (v : Variable). v.shape) (sym c.variable_of.ensures) ∙ c.in-Array.is) (adds-fill _ _ _ _ added))
    c.add-in-Array.ensures

pub returns-in-Passed : goal.returns-in-Passed
returns-in-Passed c = λ frame path is_frame.
    let p = c.args.setting.now.program.now in
    makes-no-code p c.args.scope.now path frame c.args.declared.now is_frame.naming (declare_part p
    c.args.var)
    c.args.out.now.items
    (λ w back t s. ap (λ shape. (Ok Next, declare shape c.args.var s))
    (ap (λ (v : Variable). v.shape) (sym c.variable_of.ensures) ∙ c.in-Passed.is))
