use Rattle.std.proofs.Common.{ℕ, ◌^◌, ◌<◌, max, length, ap, ◌∙◌, refl, arith}
use Rattle.ba_checker.specs.States.{State}
use Rattle.ba_checker.proofs.PutLaws.{lasts_same, lasts_then}
use Rattle.ba_search.proofs.UnderwayLaws.{underway_moved, underway_begin}
use Rattle.ba_search.specs.Iterations.{Numbering}
use Rattle.ba_search.proofs.StepLaws.{puts_none, puts_then, puts_from, leaves_none, leaves_then, leaves_from}
use Rattle.ba_search.proofs.engine.Engine.search.Goals as goal

pub iterations-init : goal.iterations-init
iterations-init g c =
    let s = c.args.self.now.watch in
    let k = (g.L.ProofLog.log c.args.log.now).checker in
    let few : length k.clauses < 2 ^ 62 = omega (
      arith,
      c.last.ensures,
      ap (λ (x : State). length x.clauses)
          c.checker.ensures,
      c.if-last.false,
    ) in
    record {
      underway = underway_moved c.args.assumptions.now c.backtrack.new.self.watch c.backtrack.new.self.watch
          c.args.self.now.numbers c.backtrack.new.self.numbers k refl (c.backtrack.ensures.numbers
          ∙ c.grow.ensures.numbers)
          (underway_begin c.args.assumptions.now s c.grow.new.self.watch c.backtrack.new.self.watch
          c.args.self.now.numbers k
          (c.in_ok-grow.ensures.ok ∙ ap (λ (v : ℕ). record s { variables = max s.variables v })
          (c.variables.ensures.variables ∙ ap (λ (x : State). x.variables) c.checker-2.ensures))
          c.backtrack.ensures.watch c.keeps_facts.ensures c.requires.ready.numbered c.requires.ready.live
          few c.requires.ready.begun c.requires.ready.awake);
      variables = refl;
      puts = puts_none (g.R.SearchRules.keeping c.args.rules.now) (g.L.ProofLog.log c.args.log.now)
          c.backtrack.new.self.numbers.learnt;
      fresh = c.requires.ready.fresh;
      propagated = omega (arith, c.grow.ensures.propagated, c.backtrack.ensures.learns_nothing.propagated);
      lasts = lasts_same (g.L.ProofLog.log c.args.log.now);
    }

pub returns-in-Some-clause-puts : goal.returns-in-Some-clause-puts
returns-in-Some-clause-puts g c =
    puts_from (g.R.SearchRules.keeping c.args.rules.now) (g.L.ProofLog.log c.args.log.now) (g.L.ProofLog.log
    c.iterate.new.log) c.backtrack.new.self.numbers.learnt c.args.self.now.numbers.learnt
    c.iterate.new.self.numbers.learnt
    (ap (λ (n : Numbering). n.learnt) (c.backtrack.ensures.numbers ∙ c.grow.ensures.numbers))
    (puts_then (g.R.SearchRules.keeping c.args.rules.now) (g.L.ProofLog.log c.args.log.now) (g.L.ProofLog.log
    c.iterations.log) (g.L.ProofLog.log c.iterate.new.log) c.backtrack.new.self.numbers.learnt
    c.iterations.self.numbers.learnt c.iterate.new.self.numbers.learnt c.iterations.invariant.lasts
    c.iterations.invariant.puts
    c.in_ok-answer.ensures.goes_on.puts)

pub iterations-preserved : goal.iterations-preserved
iterations-preserved g c =
    let i = c.iterations.invariant in
    let t = c.in_ok-answer.ensures in
    record {
      underway = t.goes_on.underway;
      variables = t.goes_on.variables ∙ i.variables;
      puts = puts_then (g.R.SearchRules.keeping c.args.rules.now) (g.L.ProofLog.log c.args.log.now)
          (g.L.ProofLog.log c.iterations.log) (g.L.ProofLog.log c.iterate.new.log)
          c.backtrack.new.self.numbers.learnt c.iterations.self.numbers.learnt
          c.iterate.new.self.numbers.learnt i.lasts i.puts t.goes_on.puts;
      fresh = t.ran.fresh;
      propagated = omega (arith, c.iterate.ensures.propagated, i.propagated);
      lasts = lasts_then (g.L.ProofLog.log c.args.log.now) (g.L.ProofLog.log c.iterations.log)
          (g.L.ProofLog.log c.iterate.new.log) i.lasts t.ran.lasts;
    }

pub returns-then-last-clause-leaves : goal.returns-then-last-clause-leaves
returns-then-last-clause-leaves g c = leaves_none (g.R.SearchRules.keeping c.args.rules.now) (g.L.ProofLog.log
    c.args.log.now) c.args.self.now.numbers.learnt

pub returns-in_err-grow-clause-leaves : goal.returns-in_err-grow-clause-leaves
returns-in_err-grow-clause-leaves g c = leaves_none (g.R.SearchRules.keeping c.args.rules.now)
    (g.L.ProofLog.log c.args.log.now) c.args.self.now.numbers.learnt

pub returns-in_err-answer-clause-leaves : goal.returns-in_err-answer-clause-leaves
returns-in_err-answer-clause-leaves g c =
    leaves_from (g.R.SearchRules.keeping c.args.rules.now) (g.L.ProofLog.log c.args.log.now) (g.L.ProofLog.log
    c.iterate.new.log) c.backtrack.new.self.numbers.learnt c.args.self.now.numbers.learnt
    (ap (λ (n : Numbering). n.learnt) (c.backtrack.ensures.numbers ∙ c.grow.ensures.numbers))
    (leaves_then (g.R.SearchRules.keeping c.args.rules.now) (g.L.ProofLog.log c.args.log.now)
    (g.L.ProofLog.log c.iterations.log) (g.L.ProofLog.log c.iterate.new.log)
    c.backtrack.new.self.numbers.learnt c.iterations.self.numbers.learnt c.iterations.invariant.lasts
    c.iterations.invariant.puts
    c.iterate.ensures.leaves)

pub returns-in-Some-clause-leaves : goal.returns-in-Some-clause-leaves
returns-in-Some-clause-leaves g c =
    leaves_from (g.R.SearchRules.keeping c.args.rules.now) (g.L.ProofLog.log c.args.log.now) (g.L.ProofLog.log
    c.iterate.new.log) c.backtrack.new.self.numbers.learnt c.args.self.now.numbers.learnt
    (ap (λ (n : Numbering). n.learnt) (c.backtrack.ensures.numbers ∙ c.grow.ensures.numbers))
    (leaves_then (g.R.SearchRules.keeping c.args.rules.now) (g.L.ProofLog.log c.args.log.now)
    (g.L.ProofLog.log c.iterations.log) (g.L.ProofLog.log c.iterate.new.log)
    c.backtrack.new.self.numbers.learnt c.iterations.self.numbers.learnt c.iterations.invariant.lasts
    c.iterations.invariant.puts
    c.iterate.ensures.leaves)
