-- What words ask for may be done: the bounds and the conflicts that they name are within their limits.

use Rattle.std.proofs.Common.{◌≡◌, ℕ, nat_le, Bool, true, false, ◌&&◌, if◌then◌else◌, Option, None, Some, option_and_then, IfSome, List, [], ◌∷◌, codes, ◌<◌, ◌≤◌, ◌^◌, refl, arith}
use Rattle.std.proofs.lemmas.Bool.Decides.{nat_tests}
use Rattle.std.specs.List.{list_all}
use Rattle.ba_tree.specs.Run.{are_bounds}
use Rattle.ba_tree.specs.declared.run.Bounds.{Bounds}
use Rattle.ba_commands.specs.Commands.{bounds_from, bounds_with, check_from, file_at, value_in, command_in, command_of, command_of_parts, command_on, command_with, localise_from, number_of, number_or, places_stand_alone, rank_from, repair_from, run_from, sample_from, steady_in}
use Rattle.ba_commands.specs.Modes.{Word, usage_of}
use Rattle.ba_bytes.specs.Numbers.{number_in}
use Rattle.ba_commands.specs.Words.{Part, files_in, is_accepted, is_line, mode_of, options_in, parts_of, split_words, stands}
use Rattle.ba_commands.specs.declared.commands.Command.{Command}
use Rattle.ba_commands.specs.declared.commands.Command.TheVariants as command
use Rattle.ba_commands.specs.declared.modes.Mode.{Mode}
use Rattle.ba_commands.specs.declared.modes.Mode.TheVariants.{Localise, Check, Run, Rank, Repair, Sample}
use Rattle.ba_tool.specs.Requests.{MayBeDone, request_by, request_of}

-- NUMBERS of a range

abbrev is_from : ℕ → ℕ → ℕ → Bool
is_from least most n = nat_le least n && nat_le n most

abbrev IsFrom : ℕ → ℕ → ℕ → Type 0
IsFrom least most n = is_from least most n ≡ true

-- bounds of a command, and of one that there may be

abbrev AreWithin : Bounds → Type 0
AreWithin b = are_bounds b ≡ true

abbrev IsWithin : Command → Type 0
IsWithin (command.Localise program input bounds weights conflicts sets cert runs places all steady) =
    AreWithin bounds × (conflicts < 2 ^ 62)
IsWithin (command.Check program input cert bounds weights conflicts sets all) = AreWithin bounds
IsWithin (command.Rank program inputs bounds weights conflicts sets steady) =
    AreWithin bounds × (conflicts < 2 ^ 62)
IsWithin (command.Repair program failing passing bounds weights conflicts sets steady) =
    AreWithin bounds × (conflicts < 2 ^ 62)
IsWithin (command.Run program input bounds) = AreWithin bounds
IsWithin (command.Sample additions) = IsFrom 1 500 additions

abbrev IfWithin : Option Command → Type 0
IfWithin o = IfSome o IsWithin

-- what comes of a value that there may be

then_if : {A B : Type 0} (P : A → Type 0) (Q : B → Type 0) (o : Option A) (f : A → Option B) → IfSome o P
    → ((a : A) → P a → IfSome (f a) Q) → IfSome (option_and_then f o) Q
then_if P Q None f h k = tt
then_if P Q (Some a) f h k = k a h

then_any : {A B : Type 0} (Q : B → Type 0) (o : Option A) (f : A → Option B) → ((a : A) → IfSome (f a) Q)
    → IfSome (option_and_then f o) Q
then_any Q None f k = tt
then_any Q (Some a) f k = k a

if_any : {B : Type 0} (Q : B → Type 0) (b : Bool) (o : Option B) → IfSome o Q →
    IfSome (if b then o else None) Q
if_any Q true o h = h
if_any Q false o h = tt

picked : (a b : Bool) (n : ℕ) (P : ℕ → Type 0) → (b ≡ true → P n) → IfSome (if a && b then Some n else None) P
picked true true n P h = h refl
picked true false n P h = tt
picked false b n P h = tt

in_range : (digits least most : ℕ) (text : Word) →
    IfSome (number_in digits least most text) (IsFrom least most)
in_range digits least most text = picked _ _ _ (IsFrom least most) (λ e. e)

number_of-range : (least most : ℕ) (o : Option Word) → IfSome (number_of least most o) (IsFrom least most)
number_of-range least most None = tt
number_of-range least most (Some word) = in_range 7 least most word

number_or-range : (default least most : ℕ) (o : Option Word) → IsFrom least most default
    → IfSome (number_or default least most o) (IsFrom least most)
number_or-range default least most None within = within
number_or-range default least most (Some word) within = in_range 7 least most word

both_true : (a b : Bool) → a ≡ true → b ≡ true → (a && b) ≡ true
both_true true b h k = k
both_true false b h k = h

bounds_within : (bound depth : Option Word) → IfSome (bounds_from bound depth) AreWithin
bounds_within bound depth =
    then_if (IsFrom 1 128) AreWithin (number_of 1 128 bound) _ (number_of-range 1 128 bound)
    (λ turns few. then_if (IsFrom 1 32) AreWithin (number_or 16 1 32 depth) _ (number_or-range 16 1 32
    depth refl)
    (λ frames shallow. both_true (is_from 1 128 turns) (is_from 1 32 frames) few shallow))

-- conflicts have a number in a settings line
countable : (n : ℕ) → IsFrom 1 1000000 n → n < 2 ^ 62
countable n h = let most : n ≤ 1000000 = grind (arith, nat_tests, h) in omega (arith, most)

-- COMMANDS

localise_within : (program input : Option Word) (bounds : Option Bounds)
    (weights conflicts sets cert : Option Word) (runs places all : Bool) (restart : Option Word) →
    IfSome bounds AreWithin
    → IfWithin (localise_from program input bounds weights conflicts sets cert runs places all restart)
localise_within program input bounds weights conflicts sets cert runs places all restart within =
    then_any IsWithin program _ (λ p. then_any IsWithin input _
    (λ i. then_if AreWithin IsWithin bounds _ within
    (λ b ok. then_if (IsFrom 1 1000000) IsWithin (number_or 200000 1 1000000 conflicts) _
    (number_or-range 200000 1 1000000 conflicts refl)
    (λ c few. then_any IsWithin (number_or 1000 1 10000 sets) _
    (λ s. then_any IsWithin (steady_in restart) _
    (λ r. if_any IsWithin (places_stand_alone places all cert) _ (ok, countable c few)))))))

check_within : (program input cert : Option Word) (bounds : Option Bounds) (weights conflicts sets : Option
    Word) (all : Bool)
    → IfSome bounds AreWithin → IfWithin (check_from program input cert bounds weights conflicts sets all)
check_within program input cert bounds weights conflicts sets all within =
    then_any IsWithin program _ (λ p. then_any IsWithin input _ (λ i. then_any IsWithin cert _
    (λ k. then_if AreWithin IsWithin bounds _ within
    (λ b ok. then_if (IsFrom 1 1000000) IsWithin (number_or 200000 1 1000000 conflicts) _
    (number_or-range 200000 1 1000000 conflicts refl)
    (λ c few. then_any IsWithin (number_or 1000 1 10000 sets) _ (λ s. ok))))))

run_within : (program input : Option Word) (bounds : Option Bounds) → IfSome bounds AreWithin
    → IfWithin (run_from program input bounds)
run_within program input bounds within =
    then_any IsWithin program _ (λ p. then_any IsWithin input _
    (λ i. then_if AreWithin IsWithin bounds _ within (λ b ok. ok)))

rank_within : (program inputs : Option Word) (bounds : Option Bounds)
    (weights conflicts sets restart : Option Word) → IfSome bounds AreWithin
    → IfWithin (rank_from program inputs bounds weights conflicts sets restart)
rank_within program inputs bounds weights conflicts sets restart within =
    then_any IsWithin program _ (λ p. then_any IsWithin inputs _
    (λ i. then_if AreWithin IsWithin bounds _ within
    (λ b ok. then_if (IsFrom 1 1000000) IsWithin (number_or 200000 1 1000000 conflicts) _
    (number_or-range 200000 1 1000000 conflicts refl)
    (λ c few. then_any IsWithin (number_or 1000 1 10000 sets) _
    (λ s. then_any IsWithin (steady_in restart) _ (λ r. (ok, countable c few)))))))

repair_within : (program failing passing : Option Word) (bounds : Option Bounds)
    (weights conflicts sets restart : Option Word) → IfSome bounds AreWithin
    → IfWithin (repair_from program failing passing bounds weights conflicts sets restart)
repair_within program failing passing bounds weights conflicts sets restart within =
    then_any IsWithin program _ (λ p. then_any IsWithin failing _ (λ f. then_any IsWithin passing _
    (λ i. then_if AreWithin IsWithin bounds _ within
    (λ b ok. then_if (IsFrom 1 1000000) IsWithin (number_or 200000 1 1000000 conflicts) _
    (number_or-range 200000 1 1000000 conflicts refl)
    (λ c few. then_any IsWithin (number_or 1000 1 10000 sets) _
    (λ s. then_any IsWithin (steady_in restart) _ (λ r. (ok, countable c few))))))))

sample_within : (additions : Option ℕ) → IfSome additions (IsFrom 1 500) → IfWithin (sample_from additions)
sample_within additions within = then_if (IsFrom 1 500) IsWithin additions _ within (λ n few. few)

with_within : (mode : Mode) (name value : Word → Option Word) (runs places all : Bool)
    → IfWithin (command_with mode name value runs places all)
with_within Localise name value runs places all =
    localise_within (name (codes "PROGRAM")) (name (codes "INPUT")) (bounds_with value) (value (codes
    "weights"))
    (value (codes "conflicts")) (value (codes "sets")) (value (codes "cert")) runs places all
    (value (codes "restart"))
    (bounds_within (value (codes "bound")) (value (codes "depth")))
with_within Check name value runs places all =
    check_within (name (codes "PROGRAM")) (name (codes "INPUT")) (name (codes "CERT")) (bounds_with value)
    (value (codes "weights")) (value (codes "conflicts")) (value (codes "sets")) all
    (bounds_within (value (codes "bound")) (value (codes "depth")))
with_within Run name value runs places all =
    run_within (name (codes "PROGRAM")) (name (codes "INPUT")) (bounds_with value)
    (bounds_within (value (codes "bound")) (value (codes "depth")))
with_within Rank name value runs places all =
    rank_within (name (codes "PROGRAM")) (name (codes "INPUTS")) (bounds_with value) (value (codes "weights"))
    (value (codes "conflicts")) (value (codes "sets")) (value (codes "restart"))
    (bounds_within (value (codes "bound")) (value (codes "depth")))
with_within Repair name value runs places all =
    repair_within (name (codes "PROGRAM")) (name (codes "FAILING")) (name (codes "PASSING"))
    (bounds_with value) (value (codes "weights")) (value (codes "conflicts")) (value (codes "sets"))
    (value (codes "restart"))
    (bounds_within (value (codes "bound")) (value (codes "depth")))
with_within Sample name value runs places all = sample_within (number_of 1 500 (name (codes "N")))
    (number_of-range 1 500 (name (codes "N")))

on_within : (mode : Mode) (parts : List Part) → IfWithin (command_on mode parts)
on_within mode parts =
    if_any IsWithin (is_line (usage_of mode) parts) (command_of_parts mode parts)
    (with_within mode (file_at (usage_of mode).files (files_in parts)) (value_in parts)
    (stands (codes "runs") (options_in parts)) (stands (codes "places") (options_in parts))
    (stands (codes "all") (options_in parts)))

in_within : (mode : Mode) (words : List Word) → IfWithin (command_in mode words)
in_within mode words =
    if_any IsWithin (list_all (is_accepted (usage_of mode)) words) _
    (then_any IsWithin (parts_of (usage_of mode) words) (command_on mode) (on_within mode))

command_within : (words : List Word) → IfWithin (command_of words)
unfolding command_of
command_within [] = tt
command_within (word ∷ words) =
    then_any IsWithin (mode_of word) _ (λ mode. in_within mode (split_words (usage_of mode) words))

-- REQUESTS

few_of : (n : ℕ) → IsFrom 1 500 n → n ≤ 500
few_of n h = grind (arith, nat_tests, h)

request_within : (o : Option Command) → IfWithin o → MayBeDone (request_by o)
request_within None within = tt
request_within (Some (command.Localise program input bounds weights conflicts sets cert runs false false
    steady))
    within
    = record { countable = within.1; bounds = within.0 }
request_within (Some (command.Localise program input bounds weights conflicts sets cert runs false true
    steady))
    within
    = record { countable = within.1; bounds = within.0 }
request_within (Some (command.Localise program input bounds weights conflicts sets cert runs true all steady))
    within =
    record { countable = within.1; bounds = within.0 }
request_within (Some (command.Check program input cert bounds weights conflicts sets false)) within = within
request_within (Some (command.Check program input cert bounds weights conflicts sets true)) within = within
request_within (Some (command.Run program input bounds)) within = within
request_within (Some (command.Rank program inputs bounds weights conflicts sets steady)) within =
    record { countable = within.1; bounds = within.0 }
request_within (Some (command.Repair program failing passing bounds weights conflicts sets steady)) within =
    record { countable = within.1; bounds = within.0 }
request_within (Some (command.Sample additions)) within = few_of additions within

-- what words ask for may be done
pub may_be_done : (words : List Word) → MayBeDone (request_of words)
may_be_done words = request_within (command_of words) (command_within words)
