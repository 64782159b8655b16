use Rattle.ba_types.proofs.SignatureSteps.{types-are}
use Rattle.ba_types.proofs.signatures.param_types.Goals as goal

pub returns : goal.returns
returns c = types-are c.args.parameters.now c.in-Some.list.now c.new-types.result.items c.push.new.self.items
    c.add_types.new.types.items c.from_vec.result c.type_of_param.result c.as_slice.result.now
    c.in-Some.ensures
    c.new-types.ensures.items c.type_of_param.ensures c.in_ok-push.ensures.items c.as_slice.ensures.value
    c.in_ok-add_types.ensures c.from_vec.ensures
