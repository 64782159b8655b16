use Rattle.std.specs.Borrow.{Bor}
use Rattle.std.specs.Prelude.{option_map}
use Rattle.std.proofs.Common.{refl}
use Rattle.std.proofs.lemmas.Result.{on_ok_weaker}
use Rattle.ba_tokens.specs.declared.token.Token.{Token}
use Rattle.ba_statements.specs.Adding.{state_with}
use Rattle.ba_statements.proofs.Enumerating.{with-list, without-list}
use Rattle.ba_statements.proofs.declarations.add_specifiers.Goals as goal

pub returns-in-None : goal.returns-in-None
returns-in-None c stmts = without-list c.args.functions.now c.args.specifiers.now
    (option_map (λ (t : Bor Token). t.now) c.tag_of_declaration-tag.result) c.args.scope.now c.args.work.now
    stmts
    c.tag_of_declaration-tag.ensures c.add_tag_faults.new.tally c.in-None.is c.add_tag_faults.ensures

pub returns-in_ok-add_tag-in-Some : goal.returns-in_ok-add_tag-in-Some
returns-in_ok-add_tag-in-Some c =
    let w = c.args.work.now in
    on_ok_weaker c.add_enumerators.result (λ added stmts.
    with-list c.args.functions.now c.args.specifiers.now
    (option_map (λ (t : Bor Token). t.now) c.tag_of_declaration-tag.result) c.args.scope.now w stmts
    c.tag_of_declaration-tag.ensures c.in-Some.enumerators
    (state_with c.add_tag.new.scope (record w { tally = c.add_tag.new.tally }) stmts)
    (state_with c.add_enumerators.new.scope c.add_enumerators.new.work stmts) c.in-Some.is
    (c.in_ok-add_tag-in-Some.ensures w stmts refl) (added stmts)) c.add_enumerators.ensures
