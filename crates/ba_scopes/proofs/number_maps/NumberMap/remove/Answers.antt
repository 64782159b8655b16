use Rattle.std.proofs.Common.{None, cond, ◌∙◌, ap}
use Rattle.ba_typing.specs.Names.{same_name}
use Rattle.ba_scopes.specs.Storage.{number_in}
use Rattle.ba_scopes.proofs.number_maps.NumberMap.remove.Goals as goal

pub returns : goal.returns
returns c other = c.remove.ensures.updates.0 (record { ref_ptr = (0, 0); now = other })
    ∙ ap (λ n. cond (same_name n other) None (number_in c.args.self.now other)) c.as_bytes.ensures
