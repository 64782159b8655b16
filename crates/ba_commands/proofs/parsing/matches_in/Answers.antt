use Rattle.std.proofs.Common.{List, ℕ, map, ap, subst, ◌∙◌}
use Rattle.std.specs.Borrow.{Bor}
use Rattle.clap.specs.Faults.{fault_of, is_simple_and_free}
use Rattle.clap.specs.Kinds.{HasKind}
use Rattle.clap.specs.Simple.{App}
use Rattle.ba_commands.specs.Modes.{usage_of}
use Rattle.ba_commands.specs.Parsing.{app_for, refuses}
use Rattle.ba_commands.proofs.ModeFacts.{simple}
use Rattle.ba_commands.proofs.Parsed.{parse_refused}
use Rattle.ba_commands.proofs.parsing.matches_in.Goals as goal

pub returns-in-Err : goal.returns-in-Err
returns-in-Err c =
    let words = map (λ (word : Bor (List ℕ)). word.now) c.args.words.now in
    let app = app_for (usage_of c.args.mode) in
    let same = c.in-Ok.ensures in
    let fails : HasKind (fault_of app words) c.in-Err.error =
    subst (λ (a : App). HasKind (fault_of a words) c.in-Err.error) same
    (c.in-Err.ensures.kinds (ap is_simple_and_free same ∙ simple c.args.mode)) in
    parse_refused app words c.in-Err.error.kind c.refusal.result (c.refusal.ensures
    ∙ ap refuses c.kind.ensures) fails
