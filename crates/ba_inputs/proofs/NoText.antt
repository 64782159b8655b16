-- An empty text gives the weights that hold if none are given.
use Rattle.std.proofs.Common.{◌≡◌, ℕ, Option, None, List, [], ◌∷◌, map, refl, ap₂}
use Rattle.ba_tree.specs.Least.{unit_weight, unit_weights}
use Rattle.ba_tree.specs.declared.tree.Program.{Program}
use Rattle.ba_tree.specs.declared.tree.StmtInfo.{StmtInfo}
use Rattle.ba_tree.specs.declared.tree.StmtKind.{StmtKind}
use Rattle.ba_tree.specs.declared.tree.StmtKind.TheVariants.{Initialiser, Assignment, Store, Condition, Switch, Return, Call, Assert}
use Rattle.ba_inputs.specs.Weights.{content_of, statement_weight, weights_in}

no_word : (kind : StmtKind) → statement_weight kind None ≡ unit_weight kind
no_word Initialiser = refl
no_word Assignment = refl
no_word Store = refl
no_word Condition = refl
no_word Switch = refl
no_word Return = refl
no_word Call = refl
no_word Assert = refl

no_words : (statements : List StmtInfo)
    → map (λ (info : StmtInfo). statement_weight info.kind None) statements
    ≡ map (λ (info : StmtInfo). unit_weight info.kind) statements
no_words [] = refl
no_words (info ∷ statements) =
    ap₂ (λ (weight : Option ℕ) (weights : List (Option ℕ)). weight ∷ weights) (no_word info.kind)
    (no_words statements)

pub no_text : (p : Program) → weights_in p [] ≡ unit_weights p
unfolding content_of
no_text p = no_words p.statements
