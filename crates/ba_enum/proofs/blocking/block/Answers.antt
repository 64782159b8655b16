use Rattle.std.proofs.Common.{◌∙◌}
use Rattle.ba_steps.specs.declared.step.CertStep.TheVariants.{Block}
use Rattle.ba_enum.proofs.BlockLaws.{read_same, found_same, long_enough, block_formed, block_allowed, block_puts}
use Rattle.ba_enum.proofs.LeadLaws.{leaves_none, leaves_one, leaves_tried}
use Rattle.ba_enum.proofs.blocking.block.Goals as goal

pub found_set-requires-clause-long : goal.found_set-requires-clause-long
found_set-requires-clause-long g c =
    long_enough c.args.task.now.encoded.now (g.L.ProofLog.log c.args.log.now) c.args.model.now.values
    c.args.found.now c.requires.reached c.requires.next

pub returns-in_err-set-clause-leaves : goal.returns-in_err-set-clause-leaves
returns-in_err-set-clause-leaves g c =
    leaves_none (g.L.ProofLog.log c.args.log.now)

pub returns-in_err-from_slice-clause-leaves : goal.returns-in_err-from_slice-clause-leaves
returns-in_err-from_slice-clause-leaves g c =
    leaves_none (g.L.ProofLog.log c.args.log.now)

pub returns-in_err-try_clone-clause-leaves : goal.returns-in_err-try_clone-clause-leaves
returns-in_err-try_clone-clause-leaves g c =
    leaves_none (g.L.ProofLog.log c.args.log.now)

pub put-requires-clause-formed : goal.put-requires-clause-formed
put-requires-clause-formed g c =
    let encoded = c.args.task.now.encoded.now in
    let values = c.args.model.now.values in
    let read = read_same encoded values c.in_ok-from_slice.field-0 c.in_ok-try_clone.field-0 c.in_ok-set.set
    c.in_ok-set.ensures
    (c.in_ok-from_slice.ensures ∙ c.as_slice.ensures) c.in_ok-try_clone.ensures in
    block_formed (g.L.ProofLog.log c.args.log.now).accepts encoded (g.L.ProofLog.log c.args.log.now).checker
    values _
    c.requires.readable c.requires.next read

pub put-requires-clause-allowed : goal.put-requires-clause-allowed
put-requires-clause-allowed g c =
    let encoded = c.args.task.now.encoded.now in
    let values = c.args.model.now.values in
    let read = read_same encoded values c.in_ok-from_slice.field-0 c.in_ok-try_clone.field-0 c.in_ok-set.set
    c.in_ok-set.ensures
    (c.in_ok-from_slice.ensures ∙ c.as_slice.ensures) c.in_ok-try_clone.ensures in
    block_allowed encoded (g.L.ProofLog.log c.args.log.now) values
    c.args.found.now _
    c.requires.readable c.requires.reached c.requires.next c.requires.may_put.ready read

pub returns-in_err-put-clause-leaves : goal.returns-in_err-put-clause-leaves
returns-in_err-put-clause-leaves g c =
    let old = g.L.ProofLog.log c.args.log.now in
    let new = g.L.ProofLog.log c.put.new.log in
    let encoded = c.args.task.now.encoded.now in
    let values = c.args.model.now.values in
    let read = read_same encoded values c.in_ok-from_slice.field-0 c.in_ok-try_clone.field-0 c.in_ok-set.set
    c.in_ok-set.ensures
    (c.in_ok-from_slice.ensures ∙ c.as_slice.ensures) c.in_ok-try_clone.ensures in
    leaves_tried old new (Block c.in_ok-from_slice.field-0 c.in_ok-try_clone.field-0)
    (block_allowed encoded old values c.args.found.now _ c.requires.readable c.requires.reached
    c.requires.next c.requires.may_put.ready read)
    c.in_err-put.ensures.taken_or_asleep c.in_err-put.ensures.refused

pub returns-in_err-push-clause-leaves : goal.returns-in_err-push-clause-leaves
returns-in_err-push-clause-leaves g c =
    let old = g.L.ProofLog.log c.args.log.now in
    let new = g.L.ProofLog.log c.put.new.log in
    let encoded = c.args.task.now.encoded.now in
    let values = c.args.model.now.values in
    let read = read_same encoded values c.in_ok-from_slice.field-0 c.in_ok-try_clone.field-0 c.in_ok-set.set
    c.in_ok-set.ensures
    (c.in_ok-from_slice.ensures ∙ c.as_slice.ensures) c.in_ok-try_clone.ensures in
    leaves_one old new (Block c.in_ok-from_slice.field-0 c.in_ok-try_clone.field-0)
    (block_allowed encoded old values c.args.found.now _ c.requires.readable c.requires.reached
    c.requires.next c.requires.may_put.ready read)
    c.in_ok-put.ensures.taken c.in_ok-put.ensures.told

pub returns-clause-blocks : goal.returns-clause-blocks
returns-clause-blocks g c =
    let old = g.L.ProofLog.log c.args.log.now in
    let new = g.L.ProofLog.log c.put.new.log in
    let encoded = c.args.task.now.encoded.now in
    let values = c.args.model.now.values in
    let groups = c.in_ok-from_slice.field-0 in
    let run = c.in_ok-try_clone.field-0 in
    let read = read_same encoded values groups run c.in_ok-set.set
    c.in_ok-set.ensures
    (c.in_ok-from_slice.ensures ∙ c.as_slice.ensures) c.in_ok-try_clone.ensures in
    record {
      set = record { groups = groups; run = run };
      puts = block_puts encoded old new values c.args.found.now _
          c.requires.readable c.requires.reached c.requires.next c.requires.may_put.ready read
          c.in_ok-put.ensures.taken c.in_ok-put.ensures.told;
      taken = c.in_ok-put.ensures.taken;
      found = found_same c.args.found.now c.push.new.self groups run c.in_ok-set.set
          (c.in_ok-from_slice.ensures ∙ c.as_slice.ensures) c.in_ok-try_clone.ensures c.in_ok-push.ensures.ok;
    }

pub returns-clause-leaves : goal.returns-clause-leaves
returns-clause-leaves g c =
    let old = g.L.ProofLog.log c.args.log.now in
    let new = g.L.ProofLog.log c.put.new.log in
    let encoded = c.args.task.now.encoded.now in
    let values = c.args.model.now.values in
    let read = read_same encoded values c.in_ok-from_slice.field-0 c.in_ok-try_clone.field-0 c.in_ok-set.set
    c.in_ok-set.ensures
    (c.in_ok-from_slice.ensures ∙ c.as_slice.ensures) c.in_ok-try_clone.ensures in
    leaves_one old new (Block c.in_ok-from_slice.field-0 c.in_ok-try_clone.field-0)
    (block_allowed encoded old values c.args.found.now _ c.requires.readable c.requires.reached
    c.requires.next c.requires.may_put.ready read)
    c.in_ok-put.ensures.taken c.in_ok-put.ensures.told
