-- The arguments that a command of `clap` is given, and its errors.
use Rattle.std.proofs.Common.{◌≡◌, ◌⊎◌, inl, inr, List, [], ◌∷◌, ◌++◌, map, Err, refl, ap, ◌∙◌, subst, append_assoc}
use Rattle.std.specs.Borrow.{Bor}
use Rattle.clap.specs.Faults.{fault_of}
use Rattle.clap.specs.Kinds.{IsAmong}
use Rattle.clap.specs.Simple.{App, with_rule}
use Rattle.clap.specs.Walk.{Rule}
use Rattle.clap.specs.declared.error.kind.ErrorKind.{ErrorKind}
use Rattle.clap.specs.declared.error.kind.ErrorKind.TheVariants.{OutOfMemory}
use Rattle.ba_commands.specs.Modes.{Word}
use Rattle.ba_commands.specs.Parsing.{IsParsedBy, refuses, rule_for, with_rules}
use Rattle.ba_commands.specs.declared.parsing.Role.{Role}
use Rattle.ba_commands.specs.declared.words.WordsError.{WordsError}
use Rattle.ba_commands.specs.declared.words.WordsError.TheVariants.{Bad, Memory}

-- one argument more
pub with_rules-more : (app : App) (rules : List Rule) (rule : Rule)
    → with_rule (with_rules app rules) rule ≡ with_rules app (rules ++ rule ∷ [])
with_rules-more app rules rule =
    ap (λ (rs : List Rule). record app { top = record app.top { rules = rs } })
    (append_assoc app.top.rules rules (rule ∷ []))

-- the arguments of names that are lent
pub rules-of_names : (role : Role) (lent : List (Bor Word)) (names : List Word)
    → map (λ (name : Bor Word). name.now) lent ≡ names
    → map (λ (name : Bor Word). rule_for role name.now) lent ≡ map (rule_for role) names
rules-of_names role lent names is = each lent ∙ ap (map (rule_for role)) is
  where
    each : (lent : List (Bor Word)) → map (λ (name : Bor Word). rule_for role name.now) lent
        ≡ map (rule_for role) (map (λ (name : Bor Word). name.now) lent)
    each [] = refl
    each (name ∷ lent) = ap (λ rules. rule_for role name.now ∷ rules) (each lent)

pub parse_refused : (app : App) (words : List Word) (kind : ErrorKind) (error : WordsError)
    → error ≡ refuses kind
    → (kind ≡ OutOfMemory) ⊎ IsAmong kind (fault_of app words) → IsParsedBy app words (Err error)
parse_refused app words kind Memory is has = tt
parse_refused app words kind Bad is (inl memory) = let differ : Bad ≡ Memory = is ∙ ap refuses memory in cc
parse_refused app words kind Bad is (inr among) = λ none. subst (IsAmong kind) none among
