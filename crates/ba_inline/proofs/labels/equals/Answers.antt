use Rattle.std.proofs.Common.{rules, SFits, w64, to_z, of_z, to_z-of_z, sym, subst}
use Rattle.ba_code.specs.State.{operand_value}
use Rattle.ba_code.specs.declared.nodes.Operand.TheVariants.{Var}
use Rattle.ba_inline.proofs.Adding.{adds-binary}
use Rattle.ba_inline.proofs.FlagSteps.{makes-equals}
use Rattle.ba_inline.specs.Declarations.{with_var}
use Rattle.ba_inline.specs.Flags.{MakesFlag}
use Rattle.ba_numbers.specs.declared.numbers.CType.TheVariants.{I32}
use Rattle.std.specs.Ordering.{int_eq}
use Rattle.ba_inline.proofs.labels.equals.Goals as goal

pub returns : goal.returns
returns c = λ base le.
    let fits : SFits w64 c.args.start.value = search rules in
    subst (λ d. MakesFlag (λ s. int_eq c.args.start.value (operand_value s c.args.a)) base (Var c.in_ok-to.to)
    c.args.declared.now d c.args.out.now.items c.add.new.out.items) (sym c.in_ok-to.ensures.1)
    (subst (λ v. MakesFlag (λ s. int_eq v (operand_value s c.args.a)) base (Var c.in_ok-to.to)
    c.args.declared.now (with_var I32 c.args.declared.now) c.args.out.now.items c.add.new.out.items)
    (to_z-of_z fits)
    (makes-equals c.args.declared.now c.args.out.now.items c.add.new.out.items c.in_ok-to.to I32
    c.in_ok-to.ensures.0 base c.args.t c.args.a (to_z w64 (of_z w64 c.args.start.value)) c.args.stmt le
    (adds-binary _ _ _ _ _ _ _ _ c.in_ok-add.ensures)))
