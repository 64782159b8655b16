use Rattle.std.proofs.Common.{ℕ, ◌≡◌, false, [], ◌∷◌, ◌++◌, length, get_or, sym, ap, subst, ◌∙◌, arith}
use Rattle.ba_search.specs.Iterations.{Numbering}
use Rattle.std.proofs.lemmas.List.{length_push}
use Rattle.ba_checker.specs.States.{State, kept}
use Rattle.ba_checker.specs.declared.store.Origin.TheVariants.{Learnt}
use Rattle.ba_search.proofs.TakenLaws.{unmarked_next}
use Rattle.ba_search.proofs.LearnLaws.{Formed}
use Rattle.ba_search.proofs.LearntSteps.{learnt_step, step_formed, step_allowed, step_taken, learnt_puts, learnt_left, learnt_tried}
use Rattle.ba_learn.specs.Backjumps.{after_backtrack}
use Rattle.ba_search.proofs.IterationLaws.{learnt_less}
use Rattle.ba_search.proofs.UnderwayLaws.{underway_jump}
use Rattle.ba_search.specs.Searching.{nothing}
use Rattle.ba_search.proofs.StepLaws.{leaves_none}
use Rattle.ba_search.proofs.engine.Engine.learn.Goals as goal

pub returns-in_err-learnt-clause-leaves : goal.returns-in_err-learnt-clause-leaves
returns-in_err-learnt-clause-leaves g c = leaves_none nothing (g.L.ProofLog.log c.args.log.now)
    c.args.self.now.numbers.learnt

pub returns-in_err-step-clause-leaves : goal.returns-in_err-step-clause-leaves
returns-in_err-step-clause-leaves g c = leaves_none nothing (g.L.ProofLog.log c.args.log.now)
    c.args.self.now.numbers.learnt

pub put-requires-clause-formed : goal.put-requires-clause-formed
put-requires-clause-formed g c =
    let s = c.args.self.now.watch in
    let k = (g.L.ProofLog.log c.args.log.now).checker in
    let formed : Formed k = subst (λ (x : State). Formed x) c.checker.ensures c.keeps_facts-2.ensures in
    let l = c.in_ok-learnt.ensures in
    let step = learnt_step (g.L.ProofLog.log c.args.log.now).accepts c.args.assumptions.now s
    c.args.self.now.numbers k c.in_ok-learnt.learnt.lits c.in_ok-learnt.learnt.hints
    c.in_ok-learnt.learnt.back
    c.keeps_facts.ensures formed c.requires.underway c.requires.left l.clause l.follows l.new l.backed in
    step_formed (g.L.ProofLog.log c.args.log.now).accepts k c.in_ok-learnt.learnt.lits
    c.in_ok-learnt.learnt.hints c.in_ok-step.step c.in_ok-step.ensures step

pub put-requires-clause-allowed : goal.put-requires-clause-allowed
put-requires-clause-allowed g c = λ fresh awake.
    let s = c.args.self.now.watch in
    let k = (g.L.ProofLog.log c.args.log.now).checker in
    let formed : Formed k = subst (λ (x : State). Formed x) c.checker.ensures c.keeps_facts-2.ensures in
    let l = c.in_ok-learnt.ensures in
    let step = learnt_step (g.L.ProofLog.log c.args.log.now).accepts c.args.assumptions.now s
    c.args.self.now.numbers k c.in_ok-learnt.learnt.lits c.in_ok-learnt.learnt.hints
    c.in_ok-learnt.learnt.back
    c.keeps_facts.ensures formed c.requires.underway c.requires.left l.clause l.follows l.new l.backed in
    step_allowed (g.L.ProofLog.log c.args.log.now).accepts k c.in_ok-learnt.learnt.lits
    c.in_ok-learnt.learnt.hints c.in_ok-step.step c.in_ok-step.ensures step

pub returns-in_err-put-clause-leaves : goal.returns-in_err-put-clause-leaves
returns-in_err-put-clause-leaves g c =
    let s = c.args.self.now.watch in
    let k = (g.L.ProofLog.log c.args.log.now).checker in
    let formed : Formed k = subst (λ (x : State). Formed x) c.checker.ensures c.keeps_facts-2.ensures in
    let l = c.in_ok-learnt.ensures in
    let step = learnt_step (g.L.ProofLog.log c.args.log.now).accepts c.args.assumptions.now s
    c.args.self.now.numbers k c.in_ok-learnt.learnt.lits c.in_ok-learnt.learnt.hints
    c.in_ok-learnt.learnt.back
    c.keeps_facts.ensures formed c.requires.underway c.requires.left l.clause l.follows l.new l.backed in
    learnt_tried nothing (g.L.ProofLog.log c.args.log.now) (g.L.ProofLog.log c.put.new.self)
    c.args.self.now.numbers.learnt c.in_ok-learnt.learnt.lits c.in_ok-learnt.learnt.hints
    c.in_ok-step.step
    c.in_ok-step.ensures step
    (c.in_err-put.ensures.taken_or_asleep c.requires.fresh) c.in_err-put.ensures.refused

pub returns-in_err-backjump-clause-leaves : goal.returns-in_err-backjump-clause-leaves
returns-in_err-backjump-clause-leaves g c =
    let s = c.args.self.now.watch in
    let k = (g.L.ProofLog.log c.args.log.now).checker in
    let formed : Formed k = subst (λ (x : State). Formed x) c.checker.ensures c.keeps_facts-2.ensures in
    let l = c.in_ok-learnt.ensures in
    let step = learnt_step (g.L.ProofLog.log c.args.log.now).accepts c.args.assumptions.now s
    c.args.self.now.numbers k c.in_ok-learnt.learnt.lits c.in_ok-learnt.learnt.hints
    c.in_ok-learnt.learnt.back
    c.keeps_facts.ensures formed c.requires.underway c.requires.left l.clause l.follows l.new l.backed in
    learnt_left nothing (g.L.ProofLog.log c.args.log.now) (g.L.ProofLog.log c.put.new.self)
    c.args.self.now.numbers.learnt c.in_ok-learnt.learnt.lits c.in_ok-learnt.learnt.hints
    c.in_ok-step.step
    c.in_ok-step.ensures step c.in_ok-put.ensures.taken c.in_ok-put.ensures.told

pub returns-clause-goes_on : goal.returns-clause-goes_on
returns-clause-goes_on g c =
    let s = c.args.self.now.watch in
    let k = (g.L.ProofLog.log c.args.log.now).checker in
    let formed : Formed k = subst (λ (x : State). Formed x) c.checker.ensures c.keeps_facts-2.ensures in
    let l = c.in_ok-learnt.ensures in
    let step = learnt_step (g.L.ProofLog.log c.args.log.now).accepts c.args.assumptions.now s
    c.args.self.now.numbers k c.in_ok-learnt.learnt.lits c.in_ok-learnt.learnt.hints
    c.in_ok-learnt.learnt.back
    c.keeps_facts.ensures formed c.requires.underway c.requires.left l.clause l.follows l.new l.backed in
    let taken = step_taken (g.L.ProofLog.log c.args.log.now).checker (g.L.ProofLog.log c.put.new.self).checker
    c.in_ok-learnt.learnt.lits
    c.in_ok-learnt.learnt.hints c.in_ok-step.step c.in_ok-step.ensures c.in_ok-put.ensures.taken in
    record {
      underway = underway_jump c.args.assumptions.now c.args.self.now.watch c.bump.new.self.watch
          c.backjump.new.self.watch
          c.args.self.now.numbers c.bump.new.self.numbers c.backjump.new.self.numbers
          c.last.result (g.L.ProofLog.log c.args.log.now).checker (g.L.ProofLog.log c.put.new.self).checker
          c.in_ok-learnt.learnt.lits
          c.in_ok-learnt.learnt.back c.bump.ensures.watch c.bump.ensures.numbers
          c.in_ok-backjump.ensures.learns
          (c.last.ensures ∙ ap (λ (x : State). length x.clauses) c.checker-2.ensures)
          (step_taken (g.L.ProofLog.log c.args.log.now).checker (g.L.ProofLog.log c.put.new.self).checker
          c.in_ok-learnt.learnt.lits
          c.in_ok-learnt.learnt.hints c.in_ok-step.step c.in_ok-step.ensures c.in_ok-put.ensures.taken)
          c.requires.underway;
      variables = ap (λ (x : State). x.variables) taken;
      puts = learnt_puts nothing (g.L.ProofLog.log c.args.log.now) (g.L.ProofLog.log c.put.new.self)
          c.args.self.now.numbers.learnt c.backjump.new.self.numbers.learnt c.in_ok-learnt.learnt.lits
          c.in_ok-learnt.learnt.hints
          c.in_ok-step.step
          c.in_ok-step.ensures step c.in_ok-put.ensures.taken
          (c.in_ok-backjump.ensures.learns.learnt
          ∙ (ap (λ (n : Numbering). n.learnt ++ c.last.result ∷ []) c.bump.ensures.numbers
          ∙ ap (λ (m : ℕ). c.args.self.now.numbers.learnt ++ m ∷ [])
          (c.last.ensures ∙ ap (λ (x : State). length x.clauses) c.checker-2.ensures)))
          c.in_ok-put.ensures.told;
    }

pub returns-clause-leaves : goal.returns-clause-leaves
returns-clause-leaves g c =
    let s = c.args.self.now.watch in
    let k = (g.L.ProofLog.log c.args.log.now).checker in
    let formed : Formed k = subst (λ (x : State). Formed x) c.checker.ensures c.keeps_facts-2.ensures in
    let l = c.in_ok-learnt.ensures in
    let step = learnt_step (g.L.ProofLog.log c.args.log.now).accepts c.args.assumptions.now s
    c.args.self.now.numbers k c.in_ok-learnt.learnt.lits c.in_ok-learnt.learnt.hints
    c.in_ok-learnt.learnt.back
    c.keeps_facts.ensures formed c.requires.underway c.requires.left l.clause l.follows l.new l.backed in
    learnt_left nothing (g.L.ProofLog.log c.args.log.now) (g.L.ProofLog.log c.put.new.self)
    c.args.self.now.numbers.learnt c.in_ok-learnt.learnt.lits c.in_ok-learnt.learnt.hints
    c.in_ok-step.step
    c.in_ok-step.ensures step c.in_ok-put.ensures.taken c.in_ok-put.ensures.told

pub returns-clause-less : goal.returns-clause-less
returns-clause-less g c =
    learnt_less (g.L.ProofLog.log c.args.log.now).checker (g.L.ProofLog.log c.put.new.self).checker
    c.args.self.now.watch
    c.backjump.new.self.watch
    (after_backtrack c.in_ok-learnt.learnt.back c.bump.new.self.watch) c.bump.new.self.numbers
    c.backjump.new.self.numbers c.last.result
    c.args.self.now.backtracks_left 1000 c.in_ok-learnt.learnt.back c.in_ok-learnt.learnt.lits
    (step_taken (g.L.ProofLog.log c.args.log.now).checker (g.L.ProofLog.log c.put.new.self).checker
    c.in_ok-learnt.learnt.lits
    c.in_ok-learnt.learnt.hints c.in_ok-step.step c.in_ok-step.ensures c.in_ok-put.ensures.taken)
    (ap (after_backtrack c.in_ok-learnt.learnt.back) c.bump.ensures.watch) c.in_ok-backjump.ensures.learns
    (omega arith) c.requires.left

pub backjump-requires-clause-fresh : goal.backjump-requires-clause-fresh
backjump-requires-clause-fresh g c =
    let k = (g.L.ProofLog.log c.args.log.now).checker in
    subst (λ (n : Numbering). get_or n.taken c.last.result false ≡ false) (sym c.bump.ensures.numbers)
    (unmarked_next c.args.self.now.watch.clauses c.args.self.now.numbers.taken k.clauses c.last.result
    c.requires.underway.numbered c.requires.underway.live
    (c.last.ensures ∙ (ap (λ (x : State). length x.clauses) c.checker-2.ensures
    ∙ (ap (λ (x : State). length x.clauses)
    (step_taken k (g.L.ProofLog.log c.put.new.self).checker c.in_ok-learnt.learnt.lits
    c.in_ok-learnt.learnt.hints
    c.in_ok-step.step
    c.in_ok-step.ensures c.in_ok-put.ensures.taken)
    ∙ length_push k.clauses (kept Learnt c.in_ok-learnt.learnt.lits)))))
