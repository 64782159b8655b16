use Rattle.std.proofs.Common.{refl, subst, arith}
use Rattle.std.proofs.lemmas.List.{drop_all}
use Rattle.ba_guards.proofs.Merging.{Merging, merging-at, merging-end, merging-start}
use Rattle.ba_guards.proofs.Writing.{agree-at}
use Rattle.ba_guards.proofs.variables.Variables.merge.Goals as goal

pub loop-number-init : goal.loop-number-init
loop-number-init c = (
  λ k h. refl,
  λ fit below names_ys names_ns long agree. merging-start c.args.words.now c.args.which c.args.numbers.now
      c.args.yes.now c.args.self.now fit names_ns agree,
)

pub loop-number-preserved : goal.loop-number-preserved
loop-number-preserved c = (
  agree-at c.args.numbers.now c.loop-number.number-index _ c.in_ok-word.word c.args.self.now
      c.loop-number.self c.set.new.self c.loop-number-test.true c.loop-number.invariant.0
      c.in_ok-set.ensures,
  λ fit below names_ys names_ns long agree. merging-at c.args.words.now c.loop-number.words
      c.select.new.self c.args.which c.args.numbers.now c.loop-number.number-index _ c.in_ok-word.word
      c.at.result c.at-in-loop-number.result c.args.yes.now c.args.self.now c.loop-number.self
      c.set.new.self below names_ys names_ns long c.loop-number-test.true
      (c.loop-number.invariant.1 fit below names_ys names_ns long agree) c.at.ensures
      c.at-in-loop-number.ensures c.in_ok-word.ensures c.in_ok-set.ensures,
)

pub returns-clause-merges : goal.returns-clause-merges
returns-clause-merges c = λ fit below names_ys names_ns long agree.
    merging-end c.args.words.now c.loop-number.words c.args.which c.args.yes.now c.args.self.now
    c.loop-number.self
    (subst (λ ns. Merging c.args.words.now c.loop-number.words c.args.which ns c.args.yes.now
    c.args.self.now c.loop-number.self)
    (drop_all c.loop-number.number-index c.args.numbers.now (omega arith))
    (c.loop-number.invariant.1 fit below names_ys names_ns long agree))
