use Rattle.ba_types.proofs.SignatureSteps.{other-length}
use Rattle.ba_types.proofs.signatures.same_params.Goals as goal

pub returns-then-params-others : goal.returns-then-params-others
returns-then-params-others c = other-length c.args.params.now c.args.others.now c.if-params-others.true
