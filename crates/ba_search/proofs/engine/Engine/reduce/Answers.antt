use Rattle.std.proofs.Common.{ℕ, List, vec_len, sym, ap, subst, arith, refl}
use Rattle.ba_watch.specs.Deletion.{Deletes, MayDelete}
use Rattle.ba_checker.specs.States.{State}
use Rattle.ba_search.specs.Iterations.{Forgets}
use Rattle.ba_search.proofs.StepLaws.{puts_none, leaves_none}
use Rattle.ba_search.proofs.DeletedSteps.{some_items, delete_step, named_formed, named_allowed, delete_taken, delete_puts, delete_left, delete_tried}
use Rattle.ba_search.proofs.ForgetLaws.{may_delete, underway_deleted}
use Rattle.ba_search.proofs.engine.Engine.reduce.Goals as goal

pub returns-then-is_empty-clause-goes_on : goal.returns-then-is_empty-clause-goes_on
returns-then-is_empty-clause-goes_on g c = record {
  underway = c.requires.underway;
  variables = refl;
  puts = puts_none (g.R.SearchRules.keeping c.args.rules.now) (g.L.ProofLog.log c.args.log.now)
      c.args.self.now.numbers.learnt;
}

pub returns-then-is_empty-clause-leaves : goal.returns-then-is_empty-clause-leaves
returns-then-is_empty-clause-leaves g c = leaves_none (g.R.SearchRules.keeping c.args.rules.now)
    (g.L.ProofLog.log c.args.log.now) c.args.self.now.numbers.learnt

pub put-requires-clause-formed : goal.put-requires-clause-formed
put-requires-clause-formed g c =
    let k = (g.L.ProofLog.log c.args.log.now).checker in
    named_formed (g.L.ProofLog.log c.args.log.now).accepts
    (g.R.SearchRules.keeping c.args.rules.now) k c.args.self.now.numbers.learnt
    c.discarded-numbers.result.items c.from_vec.result
    c.from_vec.ensures
    (delete_step (g.L.ProofLog.log c.args.log.now).accepts
    (g.R.SearchRules.keeping c.args.rules.now) c.args.assumptions.now
    c.args.self.now.watch c.args.self.now.numbers k c.checker.result.now
    c.args.self.now.numbers.learnt
    c.learnt.result.now c.discarded-numbers.result.items
    c.requires.underway c.requires.learnt c.checker.ensures c.learnt.ensures
    c.discarded-numbers.ensures.numbers
    c.discarded-numbers.ensures.ascends
    (some_items c.discarded-numbers.result.items (vec_len c.discarded-numbers.result) c.is_empty.result
    c.is_empty.ensures
    c.if-is_empty.false (omega (arith, c.discarded-numbers.result.ok.0)))
    c.discarded-numbers.ensures.may_go c.discarded-numbers.ensures.discarded)

pub put-requires-clause-allowed : goal.put-requires-clause-allowed
put-requires-clause-allowed g c = λ fresh awake.
    let k = (g.L.ProofLog.log c.args.log.now).checker in
    named_allowed (g.L.ProofLog.log c.args.log.now).accepts
    (g.R.SearchRules.keeping c.args.rules.now) k c.args.self.now.numbers.learnt
    c.discarded-numbers.result.items c.from_vec.result
    c.from_vec.ensures
    (delete_step (g.L.ProofLog.log c.args.log.now).accepts
    (g.R.SearchRules.keeping c.args.rules.now) c.args.assumptions.now
    c.args.self.now.watch c.args.self.now.numbers k c.checker.result.now
    c.args.self.now.numbers.learnt
    c.learnt.result.now c.discarded-numbers.result.items
    c.requires.underway c.requires.learnt c.checker.ensures c.learnt.ensures
    c.discarded-numbers.ensures.numbers
    c.discarded-numbers.ensures.ascends
    (some_items c.discarded-numbers.result.items (vec_len c.discarded-numbers.result) c.is_empty.result
    c.is_empty.ensures
    c.if-is_empty.false (omega (arith, c.discarded-numbers.result.ok.0)))
    c.discarded-numbers.ensures.may_go c.discarded-numbers.ensures.discarded)

pub returns-in_err-put-clause-leaves : goal.returns-in_err-put-clause-leaves
returns-in_err-put-clause-leaves g c =
    let k = (g.L.ProofLog.log c.args.log.now).checker in
    delete_tried (g.R.SearchRules.keeping c.args.rules.now) (g.L.ProofLog.log c.args.log.now)
    (g.L.ProofLog.log c.put.new.self) c.args.self.now.numbers.learnt c.discarded-numbers.result.items
    c.from_vec.result
    c.from_vec.ensures
    (delete_step (g.L.ProofLog.log c.args.log.now).accepts
    (g.R.SearchRules.keeping c.args.rules.now) c.args.assumptions.now
    c.args.self.now.watch c.args.self.now.numbers k c.checker.result.now
    c.args.self.now.numbers.learnt
    c.learnt.result.now c.discarded-numbers.result.items
    c.requires.underway c.requires.learnt c.checker.ensures c.learnt.ensures
    c.discarded-numbers.ensures.numbers
    c.discarded-numbers.ensures.ascends
    (some_items c.discarded-numbers.result.items (vec_len c.discarded-numbers.result) c.is_empty.result
    c.is_empty.ensures
    c.if-is_empty.false (omega (arith, c.discarded-numbers.result.ok.0)))
    c.discarded-numbers.ensures.may_go c.discarded-numbers.ensures.discarded)
    (c.in_err-put.ensures.taken_or_asleep c.requires.fresh) c.in_err-put.ensures.refused

pub delete-requires : goal.delete-requires
delete-requires g c =
    subst (λ (ns : List ℕ). MayDelete c.args.self.now.watch ns) (sym c.as_slice.ensures.value)
    (may_delete c.args.self.now.watch c.args.self.now.numbers.taken c.discarded-numbers.result.items
    c.requires.underway.numbered c.discarded-numbers.ensures.no_reasons)

pub returns-clause-goes_on : goal.returns-clause-goes_on
returns-clause-goes_on g c =
    let k = (g.L.ProofLog.log c.args.log.now).checker in
    let d = (g.L.ProofLog.log c.put.new.self).checker in
    let taken = delete_taken (g.L.ProofLog.log c.args.log.now).checker d c.discarded-numbers.result.items
    c.from_vec.result
    c.from_vec.ensures c.in_ok-put.ensures.taken in
    record {
      underway = underway_deleted c.args.assumptions.now c.args.self.now.watch c.delete.new.self.watch
          c.args.self.now.numbers
          c.delete.new.self.numbers (g.L.ProofLog.log c.args.log.now).checker d
          c.discarded-numbers.result.items
          (delete_taken (g.L.ProofLog.log c.args.log.now).checker d c.discarded-numbers.result.items
          c.from_vec.result
          c.from_vec.ensures
          c.in_ok-put.ensures.taken)
          (subst (λ (ns : List ℕ). Deletes c.args.self.now.watch c.delete.new.self.watch ns)
          c.as_slice.ensures.value
          c.delete.ensures.deletes)
          (subst (λ (ns : List ℕ). Forgets ns c.args.self.now.numbers.taken c.delete.new.self.numbers.taken)
          c.as_slice.ensures.value c.delete.ensures.forgets)
          c.requires.underway;
      variables = ap (λ (x : State). x.variables) taken;
      puts = delete_puts (g.R.SearchRules.keeping c.args.rules.now) (g.L.ProofLog.log c.args.log.now)
          (g.L.ProofLog.log c.put.new.self) c.args.self.now.numbers.learnt c.delete.new.self.numbers.learnt
          c.discarded-numbers.result.items c.from_vec.result
          c.from_vec.ensures
          (delete_step (g.L.ProofLog.log c.args.log.now).accepts
          (g.R.SearchRules.keeping c.args.rules.now) c.args.assumptions.now
          c.args.self.now.watch c.args.self.now.numbers k c.checker.result.now
          c.args.self.now.numbers.learnt
          c.learnt.result.now c.discarded-numbers.result.items
          c.requires.underway c.requires.learnt c.checker.ensures c.learnt.ensures
          c.discarded-numbers.ensures.numbers
          c.discarded-numbers.ensures.ascends
          (some_items c.discarded-numbers.result.items (vec_len c.discarded-numbers.result) c.is_empty.result
          c.is_empty.ensures
          c.if-is_empty.false (omega (arith, c.discarded-numbers.result.ok.0)))
          c.discarded-numbers.ensures.may_go c.discarded-numbers.ensures.discarded)
          c.in_ok-put.ensures.taken c.delete.ensures.learns_nothing.learnt c.in_ok-put.ensures.told;
    }

pub returns-clause-leaves : goal.returns-clause-leaves
returns-clause-leaves g c =
    let k = (g.L.ProofLog.log c.args.log.now).checker in
    delete_left (g.R.SearchRules.keeping c.args.rules.now) (g.L.ProofLog.log c.args.log.now) (g.L.ProofLog.log
    c.put.new.self) c.args.self.now.numbers.learnt c.discarded-numbers.result.items c.from_vec.result
    c.from_vec.ensures
    (delete_step (g.L.ProofLog.log c.args.log.now).accepts
    (g.R.SearchRules.keeping c.args.rules.now) c.args.assumptions.now
    c.args.self.now.watch c.args.self.now.numbers k c.checker.result.now
    c.args.self.now.numbers.learnt
    c.learnt.result.now c.discarded-numbers.result.items
    c.requires.underway c.requires.learnt c.checker.ensures c.learnt.ensures
    c.discarded-numbers.ensures.numbers
    c.discarded-numbers.ensures.ascends
    (some_items c.discarded-numbers.result.items (vec_len c.discarded-numbers.result) c.is_empty.result
    c.is_empty.ensures
    c.if-is_empty.false (omega (arith, c.discarded-numbers.result.ok.0)))
    c.discarded-numbers.ensures.may_go c.discarded-numbers.ensures.discarded)
    c.in_ok-put.ensures.taken c.in_ok-put.ensures.told
