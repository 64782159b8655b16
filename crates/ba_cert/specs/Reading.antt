-- Reading the parts of a line from the front. Which line is read as what is defined by the text of steps;
-- this computes it.

use Rattle.std.specs.Prelude.{ℕ, ◌^◌, ◌==◌, nat_lt, ℤ, pos, neg_ℤ, Bool, true, false, cond, ◌&&◌, Option, None, Some, option_map, List, [], ◌∷◌, ◌++◌, length, codes, bytes_eq}
use Rattle.std.specs.List.{slice_split}
use Rattle.ba_bytes.specs.Decimal.{natural_of}
use Rattle.ba_choices.specs.declared.Choice.{Choice}
use Rattle.ba_choices.specs.declared.Choice.TheVariants.{Keep, Take}
use Rattle.ba_lits.specs.Literals.{Literal, negative, positive}
use Rattle.ba_steps.specs.declared.step.CertStep.{CertStep}
use Rattle.ba_steps.specs.declared.step.CertStep.TheVariants.{Learn, Core, Delete, Block, EndLocated, EndNoRepair, EndTooMany, EndSpent}
use Rattle.ba_cert.specs.declared.choices.Run.{Run}
use Rattle.ba_cert.specs.declared.head.CertHead.{CertHead}

-- one reading after the other: nothing if one gives nothing
infixl 10 ◌>>=◌
-- a value that may be missing, and what is read with it
abbrev pub ◌>>=◌ : {A B : Type 0} → Option A → (A → Option B) → Option B
None >>= f = None
(Some x) >>= f = f x

-- THE PARTS of a line are between single spaces

-- the byte is a space
abbrev pub is_space : ℕ → Bool
is_space b = b == 32

-- the parts of a line, cut at each space
abbrev pub parts_of : List ℕ → List (List ℕ)
parts_of line = slice_split is_space line

-- some part is left
abbrev pub has_more : List (List ℕ) → Bool
has_more [] = false
has_more (part ∷ parts) = true

-- NUMBERS

-- digits begin with a zero that is not the only one
abbrev pub leads_with_zero : List ℕ → Bool
leads_with_zero [] = false
leads_with_zero (b ∷ []) = false
leads_with_zero (b ∷ c ∷ cs) = b == 48

-- the number, if it is below the limit
abbrev pub if_below : ℕ → ℕ → Option ℕ
if_below limit n = cond (nat_lt n limit) (Some n) None

-- the number, if it is not 0
abbrev pub if_counted : ℕ → Option ℕ
if_counted n = cond (n == 0) None (Some n)

-- a number below 2^62 in decimal digits, without leading zeros
unfoldable pub number_of : List ℕ → Option ℕ
number_of part = cond (leads_with_zero part) None (natural_of part >>= if_below (2 ^ 62))

-- the same, at least 1
unfoldable pub counted_of : List ℕ → Option ℕ
counted_of part = number_of part >>= if_counted

-- the number of a group, which has 32 bits
unfoldable pub group_of : List ℕ → Option ℕ
group_of part = counted_of part >>= if_below (2 ^ 32)

-- what follows a minus sign, if the part begins with one
abbrev pub after_minus : List ℕ → Option (List ℕ)
after_minus [] = None
after_minus (b ∷ bs) = cond (b == 45) (Some bs) None

-- a literal by its digits after a minus sign, if there is one
abbrev pub literal_by : Option (List ℕ) → List ℕ → Option Literal
literal_by (Some digits) part = option_map negative (counted_of digits)
literal_by None part = option_map positive (counted_of part)

-- the literal that a part writes
unfoldable pub literal_of : List ℕ → Option Literal
literal_of part = literal_by (after_minus part) part

-- a value of a choice
abbrev pub value_by : Option (List ℕ) → List ℕ → Option ℤ
value_by (Some digits) part = option_map (λ n. neg_ℤ (pos n)) (counted_of digits)
value_by None part = option_map pos (number_of part)

-- the value that a part writes
unfoldable pub value_of : List ℕ → Option ℤ
value_of part = value_by (after_minus part) part

-- SETTINGS

-- a number of 32 bits
unfoldable pub small_of : List ℕ → Option ℕ
small_of part = number_of part >>= if_below (2 ^ 32)

-- the next part, read, and the parts after it
abbrev pub next_by : (List ℕ → Option ℕ) → List (List ℕ) → Option (ℕ × List (List ℕ))
next_by reading [] = None
next_by reading (part ∷ parts) = option_map (λ n. (n, parts)) (reading part)

-- settings of these numbers
abbrev pub head_with : ℕ → ℕ → ℕ → ℕ → CertHead
head_with turns frames conflicts sets =
    record { bounds = record { turns = turns; frames = frames }; conflicts = conflicts; sets = sets }

-- four numbers, and no more
abbrev pub head_by : ℕ → ℕ → ℕ → ℕ × List (List ℕ) → Option CertHead
head_by turns frames conflicts sets =
    cond (has_more sets.1) None (Some (head_with turns frames conflicts sets.0))

-- the settings that parts write
unfoldable pub head_at : List (List ℕ) → Option CertHead
head_at parts =
    next_by small_of parts >>= (λ turns. next_by small_of turns.1 >>= (λ frames.
    next_by number_of frames.1 >>= (λ conflicts. next_by small_of conflicts.1
    >>= head_by turns.0 frames.0 conflicts.0)))

-- after the part `b`
abbrev pub settings_at : List (List ℕ) → Option CertHead
settings_at [] = None
settings_at (part ∷ parts) = cond (bytes_eq part (codes "b")) (head_at parts) None

-- the settings of this line, if some settings have it
abbrev pub settings_in : List ℕ → Option CertHead
settings_in line = settings_at (parts_of line)

-- LISTS

-- the items before the part `0`, each part read, after those read before; and the parts after it
abbrev pub listed : {A : Type 0} → (List ℕ → Option A) → List A → List (List ℕ) →
    Option (List A × List (List ℕ))
listed reading seen [] = None
listed reading seen (part ∷ parts) =
    cond (bytes_eq part (codes "0")) (Some (seen, parts))
    (reading part >>= (λ a. listed reading (seen ++ a ∷ []) parts))

-- the numbers of the items ascend strictly, from above the given one
abbrev pub ascends : {A : Type 0} → (A → ℕ) → ℕ → List A → Bool
ascends number last [] = true
ascends number last (a ∷ items) = nat_lt last (number a) && ascends number (number a) items

-- the variable of a literal
abbrev pub variable_of : Literal → ℕ
variable_of l = l.variable

-- the number itself, by which a list ascends
abbrev pub itself : ℕ → ℕ
itself n = n

-- literals with ascending variables and hints, and no more
abbrev pub clause_by : List Literal → List ℕ × List (List ℕ) → Option (List Literal × List ℕ)
clause_by lits hints =
    cond (has_more hints.1) None (cond (ascends variable_of 0 lits) (Some (lits, hints.0)) None)

-- the literals and the hints that parts write, each ended by 0
unfoldable pub clause_at : List (List ℕ) → Option (List Literal × List ℕ)
clause_at parts = listed literal_of [] parts >>= (λ lits. listed counted_of [] lits.1 >>= clause_by lits.0)

-- CHOICES

-- the choices so far: the complete ones, and one that may take more values
abbrev pub pending_choice : Option (List ℤ) → List Choice
pending_choice None = []
pending_choice (Some values) = Take values ∷ []

-- the choices of a run that has been read
abbrev pub choices_of : Run → List Choice
choices_of run = run.done ++ pending_choice run.pending

-- a run of which nothing has been read
abbrev pub no_choice : Run
no_choice = record { done = []; pending = None }

-- one more value
abbrev pub with_value : Option (List ℤ) → ℤ → Option (Option (List ℤ))
with_value pending value = option_map (λ values. Some (values ++ value ∷ [])) pending

-- one more part
unfoldable pub with_part : Run → List ℕ → Option Run
with_part run part =
    cond (bytes_eq part (codes "k")) (Some (record { done = choices_of run ++ Keep ∷ []; pending = None }))
    (cond (bytes_eq part (codes "t")) (Some (record { done = choices_of run; pending = Some [] }))
    (value_of part
    >>= (λ value. option_map (λ pending. record run { pending = pending }) (with_value run.pending value))))

-- the run that parts write, after what has been read of it
abbrev pub run_at : Run → List (List ℕ) → Option (List Choice)
run_at run [] = Some (choices_of run)
run_at run (part ∷ parts) = with_part run part >>= (λ more. run_at more parts)

-- STEPS, after their letter

-- a Learn step, which has a literal
abbrev pub learn_by : List Literal × List ℕ → Option CertStep
learn_by clause = cond (length clause.0 == 0) None (Some (Learn clause.0 clause.1))

-- the Learn step that parts write
unfoldable pub learn_at : List (List ℕ) → Option CertStep
learn_at parts = clause_at parts >>= learn_by

-- a Core step, which has a literal
abbrev pub core_by : List Literal × List ℕ → Option CertStep
core_by clause = cond (length clause.0 == 0) None (Some (Core clause.0 clause.1))

-- the Core step that parts write
unfoldable pub core_at : List (List ℕ) → Option CertStep
core_at parts = clause_at parts >>= core_by

-- a Delete step of ascending clauses, after which nothing follows
abbrev pub delete_by : List ℕ × List (List ℕ) → Option CertStep
delete_by clauses =
    cond (has_more clauses.1) None
    (cond (length clauses.0 == 0) None (cond (ascends itself 0 clauses.0) (Some (Delete clauses.0)) None))

-- the Delete step that parts write
unfoldable pub delete_at : List (List ℕ) → Option CertStep
delete_at parts = listed counted_of [] parts >>= delete_by

-- a Block step of ascending groups
abbrev pub block_by : List ℕ → List Choice → Option CertStep
block_by groups run =
    cond (length groups == 0) None (cond (ascends itself 0 groups) (Some (Block groups run)) None)

-- the Block step that parts write
unfoldable pub block_at : List (List ℕ) → Option CertStep
block_at parts = listed group_of [] parts >>= (λ groups. run_at no_choice groups.1 >>= block_by groups.0)

-- the end of an enumeration, whose clause may be empty
abbrev pub located_by : List Literal × List ℕ → Option CertStep
located_by clause = Some (EndLocated clause.0 clause.1)

-- the end of an enumeration that parts write
unfoldable pub located_at : List (List ℕ) → Option CertStep
located_at parts = clause_at parts >>= located_by

-- the end without a repair, after which nothing follows
abbrev pub no_repair_by : List ℕ × List (List ℕ) → Option CertStep
no_repair_by hints = cond (has_more hints.1) None (Some (EndNoRepair hints.0))

-- the end without a repair that parts write
unfoldable pub no_repair_at : List (List ℕ) → Option CertStep
no_repair_at parts = listed counted_of [] parts >>= no_repair_by

-- a step without lists
unfoldable pub alone : CertStep → List (List ℕ) → Option CertStep
alone step parts = cond (has_more parts) None (Some step)

-- a part that is one byte, and the parts after it
abbrev pub letter_of : List ℕ → Option ℕ
letter_of [] = None
letter_of (b ∷ []) = Some b
letter_of (b ∷ c ∷ cs) = None

-- the letter that a line begins with, and the parts after it
abbrev pub letter_at : List (List ℕ) → Option (ℕ × List (List ℕ))
letter_at [] = None
letter_at (part ∷ parts) = option_map (λ letter. (letter, parts)) (letter_of part)

-- the ends `l`, `n`, `m` and `b`
unfoldable pub end_by : ℕ → List (List ℕ) → Option CertStep
end_by letter parts =
    cond (letter == 108) (located_at parts) (cond (letter == 110) (no_repair_at parts)
    (cond (letter == 109) (alone EndTooMany parts)
    (cond (letter == 98) (alone EndSpent parts) None)))

-- the End step that parts write
unfoldable pub end_at : List (List ℕ) → Option CertStep
end_at parts = letter_at parts >>= (λ letter. end_by letter.0 letter.1)

-- the steps `l`, `c`, `d`, `s` and `e`
unfoldable pub step_by : ℕ → List (List ℕ) → Option CertStep
step_by letter parts =
    cond (letter == 108) (learn_at parts) (cond (letter == 99) (core_at parts)
    (cond (letter == 100) (delete_at parts) (cond (letter == 115) (block_at parts)
    (cond (letter == 101) (end_at parts) None))))

-- the step that the parts of a line write
unfoldable pub step_at : List (List ℕ) → Option CertStep
step_at parts = letter_at parts >>= (λ letter. step_by letter.0 letter.1)

-- the step of this line, if some step has it
abbrev pub step_in : List ℕ → Option CertStep
step_in line = step_at (parts_of line)
