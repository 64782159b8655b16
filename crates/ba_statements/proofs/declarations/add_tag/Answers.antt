use Rattle.std.proofs.Common.{ℕ, Bool, Option, List, [], ◌∷◌, sym, ◌∙◌, ap}
use Rattle.std.specs.Borrow.{Bor}
use Rattle.std.specs.Prelude.{option_map}
use Rattle.std.proofs.lemmas.Result.{on_ok_weaker}
use Rattle.ba_tokens.specs.declared.token.Token.{Token}
use Rattle.ba_statements.specs.Adding.{state_with, behind_part}
use Rattle.ba_typing.specs.Declarations.{add_tag}
use Rattle.ba_typing.specs.Faults.{fault_if}
use Rattle.ba_expressions.specs.Inferring.{with_faults}
use Rattle.ba_typing.specs.Names.{is_declared_here, knowing}
use Rattle.ba_typing.specs.declared.fault.Cause.TheVariants.{Twice}
use Rattle.ba_typing.specs.declared.meanings.Space.TheVariants as space
use Rattle.ba_expressions.specs.declared.tally.Tally.{Tally}
use Rattle.ba_statements.proofs.Adding.{behind-nothing, tag-is, tag_entry}
use Rattle.ba_statements.proofs.declarations.add_tag.Goals as goal

pub returns-in_default : goal.returns-in_default
returns-in_default c work stmts same =
    let s = state_with c.args.scope.now work stmts in
    ap (λ t. state_with c.args.scope.now (record work { tally = t }) stmts) (sym same) ∙ behind-nothing s
    ∙ ap (λ (o : Option (Bor Token)). behind_part (add_tag (option_map (λ (t : Bor Token). t.now) o)) s)
    (sym c.in_default.is)

pub returns : goal.returns
returns c =
    let scope = c.args.scope.now in
    let tag = c.in-Some.tag.now in
    on_ok_weaker c.declare.result (λ knows work stmts same.
    tag-is tag scope c.declare.new.self work (record work { tally = c.add_if.new.self }) stmts
    (ap (λ t. record work { tally = t }) (c.add_if.ensures
    ∙ ap (λ (t : Tally). with_faults t (fault_if c.is_declared_here.result Twice tag.at)) (sym same)
    ∙ ap (λ (b : Bool). with_faults work.tally (fault_if b Twice tag.at))
    (c.is_declared_here.ensures ∙ ap (is_declared_here space.Tags scope) c.name_of-name.ensures)))
    (knows ∙ ap (λ (n : ℕ). knowing (tag_entry c.name_of-name.result n ∷ []) scope) c.depth-depth.ensures
    ∙ ap (λ (name : List ℕ). knowing (tag_entry name scope.depth ∷ []) scope) c.name_of-name.ensures)
    ∙ ap (λ (o : Option (Bor Token)). behind_part (add_tag (option_map (λ (t : Bor Token). t.now) o))
    (state_with scope work stmts)) (sym c.in-Some.is)) c.declare.ensures.ok
