use Rattle.std.proofs.Common.{Some, cond, ◌∙◌, ap}
use Rattle.ba_typing.specs.Names.{same_name}
use Rattle.ba_scopes.specs.Storage.{number_in}
use Rattle.ba_scopes.proofs.number_maps.NumberMap.set.Goals as goal

pub returns-clause-ok : goal.returns-clause-ok
returns-clause-ok c other = c.in_ok-insert.ensures.updates.0 (record { ref_ptr = (0, 0); now = other })
    ∙ ap (λ n. cond (same_name n other) (Some c.args.number) (number_in c.args.self.now other))
    c.as_bytes.ensures
