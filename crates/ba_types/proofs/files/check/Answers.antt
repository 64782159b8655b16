use Rattle.ba_typing_facts.proofs.WholeFacts.{parts_fit}
use Rattle.ba_types.proofs.files.check.Goals as goal

pub invariant_of-result : goal.invariant_of-result
invariant_of-result c = record {
  fit = parts_fit c.args.program.now c.in_ok-variables.field-0 c.in_ok-variables.ensures.0
      c.in_ok-variables.ensures.1;
}
