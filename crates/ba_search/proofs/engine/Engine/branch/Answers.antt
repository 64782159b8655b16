use Rattle.std.proofs.Common.{◌≡◌, ℕ, ◌≤◌, Option, IfSome, IfNone, false, is_none, ap, subst, ◌∙◌, arith, rules, inr}
use Rattle.ba_watch.specs.Trails.{value_of}
use Rattle.ba_lits.specs.Literals.{positive}
use Rattle.ba_search.specs.Values.{values_of, IsUnassigned}
use Rattle.ba_search.proofs.AnswerLaws.{model_answer}
use Rattle.ba_search.proofs.engine.Engine.branch.Goals as goal

pub returns-in-Some : goal.returns-in-Some
returns-in-Some c = record {
  answer = search rules;
  less = c.leave.ensures.less c.args.checker.now;
  underway = c.leave.ensures.underway c.args.assumptions.now c.args.checker.now c.requires.underway;
  numbers = search rules;
  propagated = search rules;
}

pub returns-in-Some-picked : goal.returns-in-Some-picked
returns-in-Some-picked c =
    let unassigned : IsUnassigned c.args.self.now.watch.trail c.variables-variables.result
    c.in-Some-picked.variable =
    subst (λ (o : Option ℕ).
    IfSome o (IsUnassigned c.args.self.now.watch.trail c.variables-variables.result)) c.in-Some-picked.is c.in_ok-picked.ensures.some in
    record {
      answer = search rules;
      less = c.decide_literal.ensures.less c.args.checker.now;
      underway = c.decide_literal.ensures.underway c.args.assumptions.now c.args.checker.now
          (record {
            within = omega (
              arith,
              c.literal-lit.ensures.variable,
              unassigned.within,
              c.variables-variables.ensures.variables,
            );
            given = inr c.requires.true_;
          })
          c.requires.underway;
      numbers = search rules;
      propagated = search rules;
    }

pub returns : goal.returns
returns c =
    let none = subst (λ (o : Option ℕ). IfNone o ((v : ℕ) → 1 ≤ v → v ≤ c.variables-variables.result →
    is_none (value_of c.args.self.now.watch.trail (positive v)) ≡ false))
    c.in_default-picked.is c.in_ok-picked.ensures.none in
    record {
      answer = model_answer c.args.assumptions.now c.args.self.now.watch c.args.self.now.numbers
          c.args.checker.now c.keeps_facts.ensures c.requires.underway c.requires.complete
          (λ v counted within. none v counted
          (omega (arith, within, c.variables-variables.ensures.variables)))
          c.in_ok-model.model.values c.requires.assumptions c.requires.true_
          (c.in_ok-model.ensures ∙ ap (values_of c.args.self.now.watch.trail)
          c.variables-variables.ensures.variables);
      less = search rules;
      underway = search rules;
      numbers = search rules;
      propagated = search rules;
    }
