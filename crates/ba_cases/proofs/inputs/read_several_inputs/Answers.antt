use Rattle.ba_cases.proofs.SeveralInputs.{inputs_are}
use Rattle.ba_cases.proofs.inputs.read_several_inputs.Goals as goal

pub returns-in-Ok-clause-ok : goal.returns-in-Ok-clause-ok
returns-in-Ok-clause-ok c = inputs_are c.args.program.now c.args.text.now c.in-Ok.inputs c.in-Ok.ensures.ok
