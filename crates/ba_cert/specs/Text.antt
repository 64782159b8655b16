-- The text of a derivation: two head lines, the second of which has the settings, and a line for each step.

use Rattle.std.specs.Prelude.{◌≡◌, ℕ, ◌^◌, ◌<◌, Bool, true, false, List, [], ◌∷◌, ◌++◌, map, flat_map, codes, decimal, All}
use Rattle.ba_lits.specs.Literals.{Literal}
use Rattle.ba_steps.specs.Steps.{IsFormed}
use Rattle.ba_steps.specs.declared.step.CertStep.{CertStep}
use Rattle.ba_steps.specs.declared.step.CertStep.TheVariants.{Learn, Core, Delete, Block, EndLocated, EndNoRepair, EndTooMany, EndSpent}
use Rattle.ba_text.specs.Texts.{choice_parts, spaced}
use Rattle.ba_cert.specs.declared.head.CertHead.{CertHead}

-- A LINE is made of parts. A literal is its variable, with a minus sign before it if it is negated.

-- a minus sign, or nothing
abbrev pub sign_text : Bool → List ℕ
sign_text true = codes "-"
sign_text false = []

-- a literal: its variable, after a minus sign if it is negated
abbrev pub literal_text : Literal → List ℕ
literal_text l = sign_text l.negated ++ decimal l.variable

-- a list ends with the part `0`
abbrev pub ended : List (List ℕ) → List (List ℕ)
ended parts = parts ++ codes "0" ∷ []

-- literals and hints
abbrev pub clause_parts : List Literal → List ℕ → List (List ℕ)
clause_parts lits hints = ended (map literal_text lits) ++ ended (map decimal hints)

-- the parts of a step: one letter or two, and its lists
abbrev pub step_parts : CertStep → List (List ℕ)
step_parts (Learn lits hints) = codes "l" ∷ clause_parts lits hints
step_parts (Core lits hints) = codes "c" ∷ clause_parts lits hints
step_parts (Delete clauses) = codes "d" ∷ ended (map decimal clauses)
step_parts (Block groups run) = codes "s" ∷ (ended (map decimal groups) ++ flat_map choice_parts run)
step_parts (EndLocated lits hints) = codes "e" ∷ codes "l" ∷ clause_parts lits hints
step_parts (EndNoRepair hints) = codes "e" ∷ codes "n" ∷ ended (map decimal hints)
step_parts EndTooMany = codes "e" ∷ codes "m" ∷ []
step_parts EndSpent = codes "e" ∷ codes "b" ∷ []

-- parts with one space between them
abbrev pub joined : List (List ℕ) → List ℕ
joined [] = []
joined (part ∷ parts) = part ++ spaced parts

-- the line of a step, without its line feed
abbrev pub line_of : CertStep → List ℕ
line_of step = joined (step_parts step)

-- THE TEXT: each line ends with a line feed

-- a line with its line feed
abbrev pub with_feed : List ℕ → List ℕ
with_feed line = line ++ 10 ∷ []

-- the first line
abbrev pub head_line : List ℕ
head_line = codes "bugassist 2"

-- the loop bound, the depth, the conflicts and the sets
abbrev pub settings_line : CertHead → List ℕ
settings_line h = joined (codes "b" ∷ decimal h.bounds.turns ∷ decimal h.bounds.frames
    ∷ decimal h.conflicts ∷ decimal h.sets ∷ [])

-- the first two lines
abbrev pub head_text : CertHead → List ℕ
head_text h = with_feed head_line ++ with_feed (settings_line h)

-- the lines of steps
abbrev pub step_lines : List CertStep → List ℕ
step_lines steps = flat_map (λ step. with_feed (line_of step)) steps

-- the text of a certificate
abbrev pub text_of : CertHead → List CertStep → List ℕ
text_of h steps = head_text h ++ step_lines steps

-- the head line of version 1, which has no settings
abbrev pub old_head_line : List ℕ
old_head_line = codes "bugassist 1"

-- the text of a certificate of version 1
abbrev pub old_text_of : List CertStep → List ℕ
old_text_of steps = with_feed old_head_line ++ step_lines steps

-- no text is that of two values
abbrev pub IsOfOne : {A : Type 0} → (A → Type 0) → (A → List ℕ) → Type 0
IsOfOne P text = (a b : _) → P a → P b → text a ≡ text b → a ≡ b

-- SETTINGS WITH A LINE: the conflicts are below 2^62, and the other numbers have 32 bits, which their types
-- keep

-- the settings have numbers that can be read again
pub record IsHead (h : CertHead) : Type 0 where
  pub turns : h.bounds.turns < 2 ^ 32
  pub frames : h.bounds.frames < 2 ^ 32
  pub conflicts : h.conflicts < 2 ^ 62
  pub sets : h.sets < 2 ^ 32

-- STEPS WITH A LINE: those that are formed, with group numbers of 32 bits, which their type keeps

-- the group numbers of a Block step can be read again
abbrev pub HasSmallGroups : CertStep → Type 0
HasSmallGroups (Learn lits hints) = Unit {0}
HasSmallGroups (Core lits hints) = Unit {0}
HasSmallGroups (Delete clauses) = Unit {0}
HasSmallGroups (Block groups run) = All (λ n. n < 2 ^ 32) groups
HasSmallGroups (EndLocated lits hints) = Unit {0}
HasSmallGroups (EndNoRepair hints) = Unit {0}
HasSmallGroups EndTooMany = Unit {0}
HasSmallGroups EndSpent = Unit {0}

-- a step has a line
abbrev pub HasLine : CertStep → Type 0
HasLine step = IsFormed step × HasSmallGroups step
