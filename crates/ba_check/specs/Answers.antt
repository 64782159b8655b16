-- What is answered for a text.

use Rattle.std.specs.Prelude.{◌≡◌, ℕ, nat_eq, Result, Ok, Err, IfOk, List, [], map}
use Rattle.std.specs.Cmp.Lexicographic.{pointwise}
use Rattle.std.specs.List.{IsDistinct}
use Rattle.ba_cert.specs.declared.head.CertHead.{CertHead}
use Rattle.ba_check.specs.Findings.{Finding, Accepted, IsTextOf, Refused, finding_of}
use Rattle.ba_check.specs.declared.confirmed.Confirmed.{Confirmed}
use Rattle.ba_check.specs.declared.confirmed.Confirmed.TheVariants as confirmed
use Rattle.ba_check.specs.declared.error.CheckError.{CheckError}
use Rattle.ba_check.specs.declared.error.CheckError.TheVariants.{Line, Memory}
use Rattle.ba_check.specs.declared.settings.Settings.{Settings}
use Rattle.ba_derivations.specs.Derivations.{AreAllLeast, AreTooMany, Problem, Verdict, conflicts_in}
use Rattle.ba_derivations.specs.Derivations.{Located, NoRepair, Spent, TooMany}
use Rattle.ba_derivations.specs.Encodings.{IsFaithful}
use Rattle.ba_encode.specs.Softs.{softs_of}
use Rattle.ba_encode.specs.declared.encoded.Encoded.{Encoded}
use Rattle.ba_numbers.specs.declared.ids.StmtId.{StmtId}
use Rattle.ba_steps.specs.declared.step.CertStep.{CertStep}
use Rattle.ba_tree.specs.Least.{AreLeast, WeightList, judge_of, stmt_of}
use Rattle.ba_choices.specs.Judges.{Judge}
use Rattle.ba_tree.specs.declared.run.Input.{Input}
use Rattle.ba_tree.specs.declared.tree.Program.{Program}

-- the problem that an encoding poses, where runs are good as a judge says
abbrev pub problem_by : Judge → Settings → Encoded → Problem
problem_by good settings encoded = record {
  formula = encoded.formula;
  softs = softs_of encoded.groups;
  good = good;
  conflicts = settings.conflicts;
  most_sets = settings.sets;
}

-- that of a program's run
abbrev pub problem_of : Program → Input → Settings → Encoded → Problem
problem_of p input settings = problem_by (judge_of p input settings.bounds) settings

-- the settings of a call, as a certificate has them
abbrev pub head_of : Settings → CertHead
head_of settings =
    record { bounds = settings.bounds; conflicts = settings.conflicts; sets = settings.sets }

-- a verdict, with sets of statements in the order of their lines
abbrev pub statements_of : List (List ℕ) → List (List StmtId)
statements_of sets = map (map stmt_of) sets

-- what a verdict says without its runs
abbrev pub confirmed_of : Verdict → Confirmed
confirmed_of (Located weight sets) = confirmed.Located weight (statements_of sets)
confirmed_of NoRepair = confirmed.NoRepair
confirmed_of (TooMany weight sets) = confirmed.TooMany weight
confirmed_of Spent = confirmed.Spent

-- an answer is what is found; out of memory says nothing
abbrev pub Tells : Result Confirmed CheckError → Finding → Type 0
Tells (Ok confirmed) (Accepted verdict) = confirmed ≡ confirmed_of verdict
Tells (Ok confirmed) (Refused line code) = ⊥
Tells (Err (Line line code)) finding = finding ≡ Refused line code
Tells (Err Memory) finding = Unit {0}

-- WHAT AN ACCEPTED TEXT SAYS of the runs that a judge calls good

-- these are exactly the least sets, each once, all of this weight
pub record AreLeastSets (weights : WeightList) (good : Judge) (weight : ℕ) (sets : List (List StmtId)) :
    Type 0
  where
    pub found : List (List ℕ)
    pub sets_are : sets ≡ statements_of found
    pub all_least : AreAllLeast weights good weight found
    pub differ : IsDistinct (pointwise nat_eq) found

-- more least sets than may be listed exist, all of this weight
pub record AreMoreThan (weights : WeightList) (good : Judge) (weight most : ℕ) : Type 0 where
  pub found : List (List ℕ)
  pub too_many : AreTooMany weights good weight most found

-- the text is that of steps that hold exactly the allowed number of conflicts
pub record IsSpentBy (h : CertHead) (p : Problem) (text : List ℕ) : Type 0 where
  pub steps : List CertStep
  pub text_is : IsTextOf h text steps
  pub count : conflicts_in steps ≡ p.conflicts

-- what was confirmed is true of the text, by these weights and settings
abbrev pub IsTrueOf : WeightList → CertHead → Problem → List ℕ → Confirmed → Type 0
IsTrueOf weights h p text (confirmed.Located weight sets) = AreLeastSets weights p.good weight sets
IsTrueOf weights h p text confirmed.NoRepair = AreLeast weights p.good []
IsTrueOf weights h p text (confirmed.TooMany weight) = AreMoreThan weights p.good weight p.most_sets
IsTrueOf weights h p text confirmed.Spent = IsSpentBy h p text

-- AN ANSWER is what is found of the text; over a faithful encoding what it says is true
pub record Answers (h : CertHead) (p : Problem) (text : List ℕ) (result : Result Confirmed CheckError) :
    Type 0
  where
    pub exactly : Tells result (finding_of h p text)
    pub truly : (weights : WeightList) → IsFaithful p.formula p.softs weights p.good →
        IfOk result (IsTrueOf weights h p text)
