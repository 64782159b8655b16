use Rattle.std.proofs.Common.{◌≡◌, ◌&&◌, true, Some, cond, rules, sym, ◌∙◌, ap}
use Rattle.std.specs.Prelude.{is_some}
use Rattle.ba_typing.specs.Names.{same_name}
use Rattle.ba_scopes.specs.Storage.{number_in}
use Rattle.ba_scopes.proofs.number_maps.NumberMap.replace.Goals as goal

pub returns-in-Some : goal.returns-in-Some
returns-in-Some c other =
    let old = c.args.self.now in let name = c.args.name.now in
    let was = c.in-Some.ensures.value in
    let there : is_some (number_in old name) ≡ true
    = ap (λ n. is_some (number_in old n)) (sym c.as_bytes.ensures) ∙ sym (ap is_some was) in
    ((c.get_mut.follows.holds c.args.number).3 (search (rules, was))).0 (record {
      ref_ptr = (0, 0);
      now =
          other;
    })
    ∙ ap (λ n. cond (same_name n other) (Some c.args.number) (number_in old other)) c.as_bytes.ensures
    ∙ ap (λ b. cond (b && same_name name other) (Some c.args.number) (number_in old other)) (sym there)
