-- The outcome of the reading is what the grammar says.

use Rattle.std.proofs.Common.{◌≡◌, List, [], ◌∷◌, Result, Err, refl, sym, ap, ◌∙◌, ◌⊎◌, inl, inr, subst}
use Rattle.ba_tokens.specs.declared.token.Token.{Token}
use Rattle.ba_parse.specs.Readings.{Answer, done, syntax, too_deep, levels_left, read_file}
use Rattle.ba_parse.specs.Files.{Verdict, Says}
use Rattle.ba_parse.specs.Outcomes.{outcome_of}
use Rattle.ba_parse.specs.Outcomes.{written}
use Rattle.ba_parse.specs.Told.{IsTold, result_of}
use Rattle.ba_trees.specs.declared.tree.statements.RawProgram.{RawProgram}
use Rattle.ba_parse.specs.declared.error.ParseError.{ParseError}
use Rattle.ba_parse.specs.declared.error.ParseError.TheVariants.{Memory}
use Rattle.ba_parse.proofs.Verdicts.{verdict_of, answer_of, says_answer, says_only}

told : (tokens : List Token) (answer : Answer) → Says tokens (verdict_of tokens answer) →
    IsTold tokens (outcome_of tokens answer)
told tokens (done tree []) h = h
told tokens (done tree (t ∷ rest)) h = h
told tokens (syntax rest) h = h
told tokens (too_deep rest) h = h

same : (tokens : List Token) (answer : Answer) → result_of (verdict_of tokens answer) ≡ outcome_of tokens
    answer
same tokens (done tree []) = refl
same tokens (done tree (t ∷ rest)) = refl
same tokens (syntax rest) = refl
same tokens (too_deep rest) = refl

pub is_told : (tokens : List Token) (result : Result RawProgram ParseError) →
    (result ≡ Err Memory) ⊎ (written result ≡ outcome_of tokens (read_file (levels_left 100) tokens)) →
    IsTold tokens (written result)
is_told tokens result (inl h) = subst (λ r. IsTold tokens (written r)) (sym h) tt
is_told tokens result (inr h) = subst (IsTold tokens) (sym h) (told tokens (answer_of tokens)
    (says_answer tokens))

pub only_told : (tokens : List Token) (result : Result RawProgram ParseError) →
    (result ≡ Err Memory) ⊎ (written result ≡ outcome_of tokens (read_file (levels_left 100) tokens)) →
    (verdict : Verdict) → Says tokens verdict →
    (written result ≡ result_of verdict) ⊎ (result ≡ Err Memory)
only_told tokens result (inl h) verdict says = inr h
only_told tokens result (inr h) verdict says =
    inl (h ∙ sym (same tokens (answer_of tokens)) ∙ ap result_of (sym (says_only tokens verdict says)))
