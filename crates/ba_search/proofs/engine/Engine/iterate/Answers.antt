use Rattle.std.proofs.Common.{ℕ, ◌<◌, ◌≤◌, Option, None, Some, IfNone, IfSome, List, sym, ap, subst, ◌∙◌, refl, arith}
use Rattle.ba_lits.specs.Literals.{Literal}
use Rattle.ba_checker.specs.Puts.{Checking}
use Rattle.ba_checker.specs.States.{State}
use Rattle.ba_search.specs.Answers.{IsAnswer}
use Rattle.ba_search.specs.Engines.{ComesTo, left_in}
use Rattle.ba_search.specs.Iterations.{Numbering, IsUnderway, iterations_left}
use Rattle.ba_search.specs.declared.engine.Engine.{Engine}
use Rattle.ba_search.specs.declared.search.Answer.{Answer}
use Rattle.ba_search.proofs.UnderwayLaws.{underway_moved}
use Rattle.ba_search.specs.Searching.{nothing}
use Rattle.ba_search.proofs.StepLaws.{puts_stay, puts_from, puts_any, leaves_none, leaves_from, leaves_any}
use Rattle.ba_search.proofs.engine.Engine.iterate.Goals as goal

-- what a decision comes to
decided : (assumptions : List Literal) (old new : Engine) (before after : Checking) (some : ℕ)
    (found : Option Answer) → IfSome found (IsAnswer after.checker assumptions) →
    IfNone found (left_in new after < some) → some ≤ left_in old before →
    ComesTo assumptions before old after new found
decided assumptions old new before after some (Some answer) is less few = is
decided assumptions old new before after some None is less few = omega (arith, less, few)

pub returns-in_default-clause-comes : goal.returns-in_default-clause-comes
returns-in_default-clause-comes g c =
    let log = g.L.ProofLog.log c.args.log.now in
    let found = c.in_ok-decide.field-0 in
    let next = c.propagate.new.self in
    let end = c.decide.new.self in
    let is : IfSome found (IsAnswer log.checker c.args.assumptions.now) =
    subst (λ (k : State). IfSome found (IsAnswer k c.args.assumptions.now)) c.checker.ensures
    c.in_ok-decide.ensures.answer in
    let less : IfNone found (left_in end log < left_in next log) =
    subst (λ (k : State). IfNone found (iterations_left k end.backtracks_left end.watch
    < iterations_left k next.backtracks_left next.watch)) c.checker.ensures c.in_ok-decide.ensures.less in
    decided c.args.assumptions.now c.args.self.now end log log (left_in next log) found is less
    (c.propagate.ensures.less log.checker)

pub decide-requires-clause-underway : goal.decide-requires-clause-underway
decide-requires-clause-underway g c =
    subst
    (λ (k : State). IsUnderway c.args.assumptions.now c.propagate.new.self.watch
    c.propagate.new.self.numbers k)
    (sym c.checker.ensures)
    (c.propagate.ensures.underway c.args.assumptions.now (g.L.ProofLog.log c.args.log.now).checker
    c.requires.underway)

pub returns-in_default-clause-goes_on : goal.returns-in_default-clause-goes_on
returns-in_default-clause-goes_on g c = record {
  underway = subst (λ (k : State). IsUnderway c.args.assumptions.now c.decide.new.self.watch
      c.decide.new.self.numbers k) c.checker.ensures c.in_ok-decide.ensures.underway;
  variables = refl;
  puts = puts_stay (g.R.SearchRules.keeping c.args.rules.now) (g.L.ProofLog.log c.args.log.now)
      c.args.self.now.numbers.learnt c.decide.new.self.numbers.learnt
      (ap (λ (n : Numbering). n.learnt) (c.decide.ensures.numbers ∙ c.propagate.ensures.numbers));
}

pub conclude-requires-clause-underway : goal.conclude-requires-clause-underway
conclude-requires-clause-underway g c =
    subst
    (λ (k : State). IsUnderway c.args.assumptions.now c.propagate.new.self.watch
    c.propagate.new.self.numbers k)
    (sym c.checker-2.ensures)
    (c.propagate.ensures.underway c.args.assumptions.now (g.L.ProofLog.log c.args.log.now).checker
    c.requires.underway)

pub returns-in-Some-2-clause-goes_on : goal.returns-in-Some-2-clause-goes_on
returns-in-Some-2-clause-goes_on g c = record {
  underway = underway_moved c.args.assumptions.now c.propagate.new.self.watch c.conclude.new.self.watch
      c.propagate.new.self.numbers c.conclude.new.self.numbers (g.L.ProofLog.log c.args.log.now).checker
      c.conclude.ensures.watch
      c.conclude.ensures.numbers
      (c.propagate.ensures.underway c.args.assumptions.now (g.L.ProofLog.log c.args.log.now).checker
      c.requires.underway);
  variables = refl;
  puts = puts_stay (g.R.SearchRules.keeping c.args.rules.now) (g.L.ProofLog.log c.args.log.now)
      c.args.self.now.numbers.learnt c.conclude.new.self.numbers.learnt
      (ap (λ (n : Numbering). n.learnt) (c.conclude.ensures.numbers ∙ c.propagate.ensures.numbers));
}

pub learn-requires-clause-underway : goal.learn-requires-clause-underway
learn-requires-clause-underway g c =
    underway_moved c.args.assumptions.now c.propagate.new.self.watch c.conclude.new.self.watch
    c.propagate.new.self.numbers c.conclude.new.self.numbers (g.L.ProofLog.log c.args.log.now).checker
    c.conclude.ensures.watch
    c.conclude.ensures.numbers
    (c.propagate.ensures.underway c.args.assumptions.now (g.L.ProofLog.log c.args.log.now).checker
    c.requires.underway)

pub returns-in_err-decide-clause-leaves : goal.returns-in_err-decide-clause-leaves
returns-in_err-decide-clause-leaves g c = leaves_none (g.R.SearchRules.keeping c.args.rules.now)
    (g.L.ProofLog.log c.args.log.now) c.args.self.now.numbers.learnt

pub returns-in_default-clause-leaves : goal.returns-in_default-clause-leaves
returns-in_default-clause-leaves g c = leaves_none (g.R.SearchRules.keeping c.args.rules.now)
    (g.L.ProofLog.log c.args.log.now) c.args.self.now.numbers.learnt

pub returns-in_err-answer-clause-leaves : goal.returns-in_err-answer-clause-leaves
returns-in_err-answer-clause-leaves g c = leaves_none (g.R.SearchRules.keeping c.args.rules.now)
    (g.L.ProofLog.log c.args.log.now) c.args.self.now.numbers.learnt

pub returns-in-Some-2-clause-leaves : goal.returns-in-Some-2-clause-leaves
returns-in-Some-2-clause-leaves g c = leaves_none (g.R.SearchRules.keeping c.args.rules.now) (g.L.ProofLog.log
    c.args.log.now) c.args.self.now.numbers.learnt

pub restart-requires-clause-underway : goal.restart-requires-clause-underway
restart-requires-clause-underway g c = c.propagate.ensures.underway c.args.assumptions.now
    (g.L.ProofLog.log c.args.log.now).checker c.requires.underway

pub returns-in_err-restart-clause-leaves : goal.returns-in_err-restart-clause-leaves
returns-in_err-restart-clause-leaves g c =
    leaves_from (g.R.SearchRules.keeping c.args.rules.now) (g.L.ProofLog.log c.args.log.now) (g.L.ProofLog.log
    c.restart.new.log) c.propagate.new.self.numbers.learnt c.args.self.now.numbers.learnt
    (ap (λ (n : Numbering). n.learnt) c.propagate.ensures.numbers)
    c.restart.ensures.leaves

pub returns-then-is_due-clause-goes_on : goal.returns-then-is_due-clause-goes_on
returns-then-is_due-clause-goes_on g c = record {
  underway = c.in_ok-restart.ensures.goes_on.underway;
  variables = c.in_ok-restart.ensures.goes_on.variables;
  puts = puts_from (g.R.SearchRules.keeping c.args.rules.now) (g.L.ProofLog.log c.args.log.now)
      (g.L.ProofLog.log c.restart.new.log) c.propagate.new.self.numbers.learnt c.args.self.now.numbers.learnt
      c.restart.new.self.numbers.learnt
      (ap (λ (n : Numbering). n.learnt) c.propagate.ensures.numbers)
      c.in_ok-restart.ensures.goes_on.puts;
}

pub returns-then-is_due-clause-leaves : goal.returns-then-is_due-clause-leaves
returns-then-is_due-clause-leaves g c =
    leaves_from (g.R.SearchRules.keeping c.args.rules.now) (g.L.ProofLog.log c.args.log.now) (g.L.ProofLog.log
    c.restart.new.log) c.propagate.new.self.numbers.learnt c.args.self.now.numbers.learnt
    (ap (λ (n : Numbering). n.learnt) c.propagate.ensures.numbers)
    c.restart.ensures.leaves

pub returns-in_err-learn-clause-leaves : goal.returns-in_err-learn-clause-leaves
returns-in_err-learn-clause-leaves g c =
    leaves_any (g.R.SearchRules.keeping c.args.rules.now) (g.L.ProofLog.log c.args.log.now) (g.L.ProofLog.log
    c.learn.new.log) c.args.self.now.numbers.learnt
    (leaves_from nothing (g.L.ProofLog.log c.args.log.now) (g.L.ProofLog.log c.learn.new.log)
    c.conclude.new.self.numbers.learnt c.args.self.now.numbers.learnt
    (ap (λ (n : Numbering). n.learnt) (c.conclude.ensures.numbers ∙ c.propagate.ensures.numbers))
    c.learn.ensures.leaves)

pub returns-clause-goes_on : goal.returns-clause-goes_on
returns-clause-goes_on g c = record {
  underway = c.in_ok-learn.ensures.goes_on.underway;
  variables = c.in_ok-learn.ensures.goes_on.variables;
  puts = puts_any (g.R.SearchRules.keeping c.args.rules.now) (g.L.ProofLog.log c.args.log.now)
      (g.L.ProofLog.log c.learn.new.log) c.args.self.now.numbers.learnt c.learn.new.self.numbers.learnt
      (puts_from nothing (g.L.ProofLog.log c.args.log.now) (g.L.ProofLog.log c.learn.new.log)
      c.conclude.new.self.numbers.learnt c.args.self.now.numbers.learnt c.learn.new.self.numbers.learnt
      (ap (λ (n : Numbering). n.learnt) (c.conclude.ensures.numbers ∙ c.propagate.ensures.numbers))
      c.in_ok-learn.ensures.goes_on.puts);
}

pub returns-clause-leaves : goal.returns-clause-leaves
returns-clause-leaves g c =
    leaves_any (g.R.SearchRules.keeping c.args.rules.now) (g.L.ProofLog.log c.args.log.now) (g.L.ProofLog.log
    c.learn.new.log) c.args.self.now.numbers.learnt
    (leaves_from nothing (g.L.ProofLog.log c.args.log.now) (g.L.ProofLog.log c.learn.new.log)
    c.conclude.new.self.numbers.learnt c.args.self.now.numbers.learnt
    (ap (λ (n : Numbering). n.learnt) (c.conclude.ensures.numbers ∙ c.propagate.ensures.numbers))
    c.learn.ensures.leaves)
