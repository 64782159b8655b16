use Rattle.std.proofs.Common.{ap₂, ◌∙◌}
use Rattle.ba_commands.specs.declared.parsing.Role.TheVariants.{Valued, Plain, File}
use Rattle.ba_commands.specs.Modes.{usage_of}
use Rattle.ba_commands.specs.Parsing.{with_rules}
use Rattle.ba_commands.proofs.Parsed.{rules-of_names}
use Rattle.ba_commands.proofs.parsing.command_for.Goals as goal

pub returns : goal.returns
returns c =
    let u = usage_of c.args.mode in
    c.in_ok-command-3.ensures ∙ ap₂ with_rules
    (c.in_ok-command-2.ensures ∙ ap₂ with_rules
    (c.in_ok-command.ensures ∙ ap₂ with_rules c.bare_command-command.ensures
    (rules-of_names Valued c.valued.result.now u.valued c.valued.ensures))
    (rules-of_names Plain c.plain.result.now u.plain c.plain.ensures))
    (rules-of_names File c.files.result.now u.files c.files.ensures)
