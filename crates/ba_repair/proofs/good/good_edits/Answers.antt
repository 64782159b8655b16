use Rattle.std.proofs.Common.{◌+◌, true≢false, Vec, Global, sym, subst, ◌∙◌}
use Rattle.ba_repair.specs.declared.listing.Edit.{Edit}
use Rattle.ba_repair.proofs.GoodEdits.{Leads, all-tried, one-bad, one-good}
use Rattle.ba_repair.proofs.Passing.{lent}
use Rattle.ba_repair.proofs.good.good_edits.Goals as goal
use Rattle.ba_repair.proofs.good.good_edits.Goals.{then-branch+in_ok-push, else-branch}

pub is_good-requires-clause-own : goal.is_good-requires-clause-own
is_good-requires-clause-own c = c.requires.own c.loop-edit.edit-index _ c.loop-edit-test.true

pub loop-edit-preserved : goal.loop-edit-preserved
loop-edit-preserved c =
    let p = c.args.program.now in
    let bounds = c.args.bounds in
    let inputs = lent c.args.inputs.now in
    let edits = c.args.edits.now in
    let k = c.loop-edit.edit-index in
    let found = c.loop-edit.good.items in
    elim c.if-branch.branch [
      | then-branch+in_ok-push w ↦
          subst (λ (v : Vec Edit Global). Leads p bounds inputs edits (k + 1) v.items) (sym w.good-is)
          (one-good p bounds inputs edits k _ found w.push.new.self.items c.loop-edit-test.true
          (c.in_ok-is_good.ensures.0 w.if-branch.true) w.in_ok-push.ensures.items c.loop-edit.invariant)
      | else-branch w ↦
          subst (λ (v : Vec Edit Global). Leads p bounds inputs edits (k + 1) v.items) (sym w.good-is)
          (one-bad p bounds inputs edits k _ found c.loop-edit-test.true
          (λ good. true≢false (sym (c.in_ok-is_good.ensures.1 good) ∙ w.if-branch.false))
          c.loop-edit.invariant)
    ]

pub returns : goal.returns
returns c = all-tried c.args.program.now c.args.bounds (lent c.args.inputs.now) c.args.edits.now
    c.loop-edit.edit-index c.loop-edit.good.items c.loop-edit-test.false c.loop-edit.invariant
