use Rattle.std.proofs.Common.{ap, subst, ◌∙◌, refl}
use Rattle.ba_search.specs.Searching.{Leaves}
use Rattle.ba_search.specs.Iterations.{Numbering}
use Rattle.ba_search.proofs.UnderwayLaws.{underway_back, underway_moved}
use Rattle.ba_search.proofs.StepLaws.{puts_stay, puts_from, leaves_none}
use Rattle.ba_search.proofs.engine.Engine.restart.Goals as goal

pub returns-in_ok-reduce-clause-goes_on : goal.returns-in_ok-reduce-clause-goes_on
returns-in_ok-reduce-clause-goes_on g c = record {
  underway = c.in_ok-reduce.ensures.goes_on.underway;
  variables = c.in_ok-reduce.ensures.goes_on.variables;
  puts = puts_from (g.R.SearchRules.keeping c.args.rules.now) (g.L.ProofLog.log c.args.log.now)
      (g.L.ProofLog.log c.reduce.new.log) c.note_restart.new.self.numbers.learnt
      c.args.self.now.numbers.learnt c.reduce.new.self.numbers.learnt
      (ap (λ (n : Numbering). n.learnt) (c.note_restart.ensures.numbers ∙ c.backtrack.ensures.numbers))
      c.in_ok-reduce.ensures.goes_on.puts;
}

pub returns-in_ok-reduce-clause-leaves : goal.returns-in_ok-reduce-clause-leaves
returns-in_ok-reduce-clause-leaves g c =
    subst (λ (n : Numbering). Leaves (g.R.SearchRules.keeping c.args.rules.now) n.learnt
    (g.L.ProofLog.log c.args.log.now) (g.L.ProofLog.log c.reduce.new.log))
    (c.note_restart.ensures.numbers ∙ c.backtrack.ensures.numbers) c.reduce.ensures.leaves

pub returns-in_err-reduce-clause-leaves : goal.returns-in_err-reduce-clause-leaves
returns-in_err-reduce-clause-leaves g c =
    subst (λ (n : Numbering). Leaves (g.R.SearchRules.keeping c.args.rules.now) n.learnt
    (g.L.ProofLog.log c.args.log.now) (g.L.ProofLog.log c.reduce.new.log))
    (c.note_restart.ensures.numbers ∙ c.backtrack.ensures.numbers) c.reduce.ensures.leaves

pub returns-else-may_reduce-clause-goes_on : goal.returns-else-may_reduce-clause-goes_on
returns-else-may_reduce-clause-goes_on g c = record {
  underway = underway_moved c.args.assumptions.now c.backtrack.new.self.watch c.note_restart.new.self.watch
      c.args.self.now.numbers
      c.note_restart.new.self.numbers (g.L.ProofLog.log c.args.log.now).checker c.note_restart.ensures.watch
      (c.note_restart.ensures.numbers ∙ c.backtrack.ensures.numbers)
      (underway_back c.args.assumptions.now c.args.self.now.watch c.backtrack.new.self.watch
      c.args.self.now.numbers
      (g.L.ProofLog.log c.args.log.now).checker 0 c.backtrack.ensures.watch c.requires.underway);
  variables = refl;
  puts = puts_stay (g.R.SearchRules.keeping c.args.rules.now) (g.L.ProofLog.log c.args.log.now)
      c.args.self.now.numbers.learnt c.note_restart.new.self.numbers.learnt
      (ap (λ (n : Numbering). n.learnt) (c.note_restart.ensures.numbers ∙ c.backtrack.ensures.numbers));
}

pub returns-else-may_reduce-clause-leaves : goal.returns-else-may_reduce-clause-leaves
returns-else-may_reduce-clause-leaves g c = leaves_none (g.R.SearchRules.keeping c.args.rules.now)
    (g.L.ProofLog.log c.args.log.now) c.args.self.now.numbers.learnt
