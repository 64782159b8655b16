use Rattle.std.proofs.Common.{sym, subst}
use Rattle.std.proofs.lemmas.Bool.{OnTrue_at}
use Rattle.ba_code.specs.State.{operand_value}
use Rattle.ba_code.specs.declared.nodes.Operand.TheVariants.{Var}
use Rattle.ba_inline.proofs.Adding.{adds-binary}
use Rattle.ba_inline.proofs.FlagSteps.{either-never, makes-either}
use Rattle.ba_inline.specs.Flags.{IsEither, MakesFrom}
use Rattle.ba_numbers.specs.declared.numbers.CType.TheVariants.{I32}
use Rattle.ba_inline.proofs.labels.either.Goals as goal

pub returns-then-is_never : goal.returns-then-is_never
returns-then-is_never c = λ base le between.
    either-never base c.args.declared.now c.args.out.now.items c.args.a c.args.b
    (OnTrue_at {b = c.is_never.result} c.if-is_never.true c.is_never.ensures) between

pub returns : goal.returns
returns c = λ base le between.
    subst (λ d. MakesFrom (λ s u. IsEither (operand_value s c.args.a) (operand_value s c.args.b)
    (operand_value u (Var c.in_ok-to.to))) base (Var c.in_ok-to.to)
    c.args.declared.now d c.args.out.now.items c.add.new.out.items) (sym c.in_ok-to.ensures.1)
    (makes-either c.args.declared.now c.args.out.now.items c.add.new.out.items c.in_ok-to.to I32
    c.in_ok-to.ensures.0 base c.args.a c.args.b c.args.stmt le
    (adds-binary _ _ _ _ _ _ _ _ c.in_ok-add.ensures))
