use Rattle.std.proofs.Common.{to_z-of_z, Some, refl, ◌∙◌, ap, subst}
use Rattle.ba_guards.proofs.Emitting.{emits-constant}
use Rattle.ba_guards.proofs.Sharing.{emits-made}
use Rattle.ba_guards.specs.Making.{StandsAt}
use Rattle.ba_guards.specs.declared.expressions.Expression.TheVariants as expression
use Rattle.ba_wordlist.specs.declared.words.WordOp.TheVariants.{Const}
use Rattle.ba_guards.proofs.words.Words.constant.Goals as goal

pub returns-then-is_constant : goal.returns-then-is_constant
returns-then-is_constant c = λ fit range. emits-constant _ _ 0 c.args.value refl fit
    (c.is_constant.ensures c.if-is_constant.true ∙ ap (λ v. Some (Const v)) (to_z-of_z c.ranges.value))

pub returns-then-is_constant-2 : goal.returns-then-is_constant-2
returns-then-is_constant-2 c = λ fit range. emits-constant _ _ 1 c.args.value refl fit
    (c.is_constant-2.ensures c.if-is_constant-2.true ∙ ap (λ v. Some (Const v)) (to_z-of_z c.ranges.value))

pub returns : goal.returns
returns c = λ fit range. emits-made c.args.self.now c.made.new.self c.in_ok-word.word
    (expression.Const c.args.value) (λ f. c.args.value)
    (subst (λ v. StandsAt c.args.self.now c.made.new.self c.in_ok-word.word (Const v))
    (to_z-of_z c.ranges.value) c.in_ok-word.ensures)
    fit range (λ f. refl)
