-- What a run comes to is one of its program's meaning; and if it doesn't fail, that is said of it.

use Rattle.std.proofs.Common.{◌≡◌, ◌∙◌, None, option_map, refl, ap}
use Rattle.ba_answers.specs.declared.answers.Answer.TheVariants as answer
use Rattle.ba_answers.specs.declared.file.File.TheVariants as file
use Rattle.ba_cases.specs.AtOnce.{Tells, input_refusal, run_in, unfailing}
use Rattle.ba_cases.specs.declared.stop.Stop.{Stop}
use Rattle.ba_cases.specs.declared.stop.Stop.TheVariants as stop
use Rattle.ba_cases.specs.declared.texts.Texts.{Texts}
use Rattle.ba_cases.proofs.Alike.{at_once_alike, ends_alike, positions_alike, refusals_alike, runs_alike}
use Rattle.ba_cases.proofs.OneAnswer.{IsOfMeaning}
use Rattle.ba_tree.specs.declared.run.Bounds.{Bounds}
use Rattle.ba_tree.specs.declared.run.Outcome.{Outcome}
use Rattle.ba_tree.specs.declared.run.Outcome.TheVariants as outcome
use Rattle.ba_tree.specs.declared.tree.Program.{Program}
use Rattle.ba_tree_laws.specs.Equivalent.{AreEquivalent}
use Rattle.mode_run.specs.Runs.{end_answer, run_answer}

pub end_told : (p : Program) (end : Outcome) (why : Stop) → Tells why (unfailing p None end) →
    Tells why (end_answer p end)
end_told p outcome.Done why told = told
end_told p (outcome.Beyond stmt) why told = told
end_told p outcome.WrongChoices why told = told
end_told p (outcome.AssertFails stmt) stop.Memory told = tt
end_told p (outcome.AssertFails stmt) (stop.Answered a) told = let no : ⊥ = cc in absurd no
end_told p (outcome.Trap stmt) stop.Memory told = tt
end_told p (outcome.Trap stmt) (stop.Answered a) told = let no : ⊥ = cc in absurd no

end_same : (p q : Program) → AreEquivalent p q → (end : Outcome) → end_answer p end ≡ end_answer q end
end_same p q same (outcome.AssertFails stmt) =
    ap (option_map (λ at. answer.AssertFails at)) (positions_alike p q same stmt)
end_same p q same (outcome.Trap stmt) =
    ap (option_map (λ at. answer.Trap at)) (positions_alike p q same stmt)
end_same p q same outcome.Done = refl
end_same p q same (outcome.Beyond stmt) = ends_alike p q same None (outcome.Beyond stmt)
end_same p q same outcome.WrongChoices = refl

pub run_of_meaning : (b : Bounds) (x : Texts) → IsOfMeaning (run_answer b x)
run_of_meaning b x p q same = at_once_alike p q same
    (input_refusal file.Input p x.input) (input_refusal file.Input q x.input)
    x.weights b (end_answer p (run_in b x p)) (end_answer q (run_in b x q)) (refusals_alike p q same
    file.Input x.input)
    (end_same p q same (run_in b x p) ∙ ap (end_answer q) (runs_alike p q same x.input b))
