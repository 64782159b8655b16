use Rattle.std.proofs.Common.{◌≡◌, map, take}
use Rattle.clap.specs.Words.{app_of}
use Rattle.ba_commands.specs.Parsing.{rule_for, with_rules}
use Rattle.ba_commands.proofs.parsing.with_arguments.Given as goal

-- the arguments so far are those of the names so far
abbrev pub invariant-loop-name : goal.invariant-loop-name
invariant-loop-name l =
    app_of l.command ≡ with_rules (app_of l.initial.command)
    (map (λ name. rule_for l.role name.now) (take l.name-index l.names))
