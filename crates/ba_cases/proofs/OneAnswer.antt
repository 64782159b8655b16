-- The answers of a text agree: what is said of its program is said of each program of the same meaning.

use Rattle.std.proofs.Common.{◌≡◌, ◌∙◌, ℕ, Bool, Option, None, List, sym, ap}
use Rattle.ba_answers.specs.declared.answers.Answer.{Answer}
use Rattle.ba_answers.specs.declared.answers.Answer.TheVariants as answer
use Rattle.ba_answers.specs.declared.fault.Fault.{Fault}
use Rattle.ba_derivations.specs.Handing.{Derivation}
use Rattle.ba_tree.specs.declared.run.Bounds.{Bounds}
use Rattle.ba_tree.specs.declared.tree.Program.{Program}
use Rattle.ba_tree_laws.specs.Equivalent.{AreEquivalent}
use Rattle.ba_tree_laws.specs.Spelling.{Spells}
use Rattle.ba_cases.specs.AllCases.{all_answer}
use Rattle.ba_cases.specs.AtOnce.{IsAtOnce, case_answer, no_program, of_program}
use Rattle.ba_cases.specs.Searching.{Agree, IsAnswerOf, IsOfSearch, are_one, at_once as answers_at_once, by_search}
use Rattle.ba_cases.specs.declared.texts.Texts.{Texts}
use Rattle.ba_cases.proofs.Alike.{case_alike}
use Rattle.ba_cases.proofs.InputsAlike.{all_answers_alike}
use Rattle.ba_cases.proofs.OneText.{meaning_same, no_fault, one_fault}

-- the same is said of all programs of one meaning
abbrev pub IsOfMeaning : (Program → Option Answer) → Type 0
IsOfMeaning first = (p q : Program) → AreEquivalent p q → first p ≡ first q

pub case_of_meaning : (b : Bounds) (x : Texts) → IsOfMeaning (case_answer b x)
case_of_meaning b x p q same = case_alike p q same b x

pub all_of_meaning : (b : Bounds) (x : Texts) → IsOfMeaning (all_answer b x)
all_of_meaning b x p q same = all_answers_alike p q same b x

-- THE ANSWERS OF A TEXT AGREE

module _ (source : List ℕ) (first : Program → Option Answer) (one : IsOfMeaning first) where
  -- one is given at once, or none
  pub one_at_once : (a b : Answer) → IsAtOnce source first a → IsAtOnce source first b → a ≡ b
  one_at_once a b (no_program f is told) (no_program g are says) =
      told ∙ ap (λ (f : Fault). answer.BadProgram f) (one_fault source f g is are) ∙ sym says
  one_at_once a b (no_program f is told) (of_program q spells says) = absurd (no_fault source q f spells is)
  one_at_once a b (of_program p spells told) (no_program g are says) = absurd (no_fault source p g spells are)
  one_at_once a b (of_program p spells told) (of_program q spelled says) =
      let e = sym told ∙ one p q (meaning_same source p q spells spelled) ∙ says in cc

  pub none_or_one : (p : Program) (a : Answer) → Spells source p → first p ≡ None →
      IsAtOnce source first a → ⊥
  none_or_one p a spells none (no_program f is told) = no_fault source p f spells is
  none_or_one p a spells none (of_program q spelled told) =
      let e = sym none ∙ one p q (meaning_same source p q spells spelled) ∙ told in cc

  module _ (row : Program → List Derivation → Answer → Type 0) where
    -- the answers agree if those of searches do
    pub answers_agree : (runs : Bool) (h k : List Derivation) (a b : Answer) →
        ((p q : Program) → Spells source p → Spells source q → AreEquivalent p q → row p h a → row q k b →
        Agree runs a b) →
        IsAnswerOf source first row h a → IsAnswerOf source first row k b → Agree runs a b
    answers_agree runs h k a b agree (answers_at_once is none) (answers_at_once are nothing) =
        are_one (one_at_once a b is are)
    answers_agree runs h k a b agree (answers_at_once is none) (by_search q spells undecided found) =
        absurd (none_or_one q a spells undecided is)
    answers_agree runs h k a b agree (by_search p spells undecided found) (answers_at_once are nothing) =
        absurd (none_or_one p b spells undecided are)
    answers_agree runs h k a b agree (by_search p spells undecided found) (by_search q spelled none holds) =
        agree p q spells spelled (meaning_same source p q spells spelled) found holds

    -- if the program of a text has no answer at once, its answer is of a search
    pub is_of_search : (p : Program) (h : List Derivation) (a : Answer) → Spells source p → first p ≡ None →
        ((q : Program) → Spells source q → row q h a → IsOfSearch a) → IsAnswerOf source first row h a →
        IsOfSearch a
    is_of_search p h a spells undecided of (answers_at_once is none) =
        absurd (none_or_one p a spells undecided is)
    is_of_search p h a spells undecided of (by_search q spelled none found) = of q spelled found
