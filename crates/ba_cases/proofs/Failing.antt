-- A run as written without an answer fails.

use Rattle.std.proofs.Common.{◌≡◌, ◌≢◌, ℕ, true, Option, None, Some, option_map, IsSome, [], refl}
use Rattle.ba_answers.specs.declared.answers.Answer.TheVariants as answer
use Rattle.ba_cases.specs.AtOnce.{is_failure, unfailing}
use Rattle.ba_laws.proofs.NamingRuns.{names_statement}
use Rattle.ba_laws.proofs.PlainRuns.{plain_right}
use Rattle.ba_laws.specs.Names.{NamesStatement}
use Rattle.ba_numbers.specs.declared.ids.At.{At}
use Rattle.ba_tree.specs.Choices.{info_of}
use Rattle.ba_tree.specs.Run.{plain_run}
use Rattle.ba_tree.specs.declared.run.Allowed.TheVariants.{Statements}
use Rattle.ba_tree.specs.declared.run.Bounds.{Bounds}
use Rattle.ba_tree.specs.declared.run.Input.{Input}
use Rattle.ba_tree.specs.declared.run.Outcome.{Outcome}
use Rattle.ba_tree.specs.declared.run.Outcome.TheVariants as outcome
use Rattle.ba_tree.specs.declared.tree.Program.{Program}
use Rattle.ba_tree.specs.declared.tree.StmtInfo.{StmtInfo}

beyond_told : (line : Option ℕ) (info : Option StmtInfo) → IsSome info →
    option_map (λ (at : At). answer.BeyondBound at line) (option_map (λ (i : StmtInfo). i.at) info) ≡ None → ⊥
beyond_told line None some none = cc
beyond_told line (Some i) some none = cc

fails : (p : Program) (line : Option ℕ) (end : Outcome) → NamesStatement p end → end ≢ outcome.WrongChoices →
    unfailing p line end ≡ None → is_failure end ≡ true
fails p line outcome.Done named right none = let no : ⊥ = cc in absurd no
fails p line (outcome.Beyond stmt) named right none = absurd (beyond_told line (info_of p stmt) named none)
fails p line (outcome.AssertFails stmt) named right none = refl
fails p line (outcome.Trap stmt) named right none = refl
fails p line outcome.WrongChoices named right none = absurd (right refl)

pub undecided_fails : (p : Program) (i : Input) (bounds : Bounds) (line : Option ℕ) →
    unfailing p line (plain_run p i bounds) ≡ None → is_failure (plain_run p i bounds) ≡ true
undecided_fails p i bounds line = fails p line (plain_run p i bounds)
    (names_statement p i bounds (Statements []) []) (plain_right p i bounds)
