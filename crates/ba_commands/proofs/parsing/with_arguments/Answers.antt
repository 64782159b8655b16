use Rattle.std.proofs.Common.{List, ℕ, [], ◌∷◌, map, take, get_or, sym, ap, ap₂, ◌∙◌}
use Rattle.std.proofs.lemmas.List.{map-append, take_all, take_more}
use Rattle.std.specs.Borrow.{Bor}
use Rattle.clap.specs.Words.{app_of, with_rule}
use Rattle.ba_commands.specs.Parsing.{rule_for, with_rules}
use Rattle.ba_commands.proofs.Parsed.{with_rules-more}
use Rattle.ba_commands.proofs.parsing.with_arguments.Goals as goal

abbrev no_name : Bor (List ℕ)
no_name = record { ref_ptr = (0, 0); now = [] }

pub loop-name-preserved : goal.loop-name-preserved
loop-name-preserved c =
    let names = c.args.names.now in
    let i = c.loop-name.name-index in
    let name = get_or names i no_name in
    let rule = λ (name : Bor (List ℕ)). rule_for c.args.role name.now in
    c.in_ok-command.ensures.shape c.argument.ensures.own
    ∙ ap₂ with_rule c.loop-name.invariant c.argument.ensures.rule
    ∙ with_rules-more (app_of c.args.command) (map rule (take i names)) (rule name)
    ∙ ap (with_rules (app_of c.args.command))
    (sym (map-append rule (take i names) (name ∷ []))
    ∙ ap (map rule) (sym (take_more names i no_name c.loop-name-test.true)))

pub returns : goal.returns
returns c = c.loop-name.invariant ∙ ap (λ (names : List (Bor (List ℕ))). with_rules (app_of c.args.command)
    (map (λ name. rule_for c.args.role name.now) names))
    (take_all c.loop-name.name-index c.args.names.now c.loop-name-test.false)
