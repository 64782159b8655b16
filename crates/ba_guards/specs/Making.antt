-- What is added to a word list, and what the list then says.

use Rattle.std.specs.Prelude.{◌≡◌, ◌⊎◌, slice_set, not, [], ◌∷◌, ℕ, ◌<◌, ◌==◌, ℤ, pos, Bool, true, false, ◌&&◌, ◌||◌, cond, Some, Ok, Err, List, ◌++◌, map, length, drop, take, slice_get, slice_index_or}
use Rattle.std.specs.List.{list_all}
use Rattle.std.specs.Ordering.{int_eq}
use Rattle.ba_choices.specs.declared.Choice.{Choice}
use Rattle.ba_code.specs.Facts.{Declared, are_inside, fits_inside, is_unrolled}
use Rattle.ba_code.specs.Meaning.{if_taken, info_at, taken}
use Rattle.ba_code.specs.State.{CodeState}
use Rattle.ba_code.specs.declared.nodes.Node.{Node}
use Rattle.ba_code.specs.declared.nodes.Operand.{Operand}
use Rattle.ba_code.specs.declared.nodes.Take.{Take}
use Rattle.ba_code.specs.declared.nodes.Operand.TheVariants as operand
use Rattle.ba_code.specs.declared.nodes.Take.TheVariants as kind
use Rattle.ba_code_laws.specs.Tracing.{Relaxes, TracedExecution, untraced}
use Rattle.ba_code_laws.specs.Visits.{Visit, are_kept, chosen}
use Rattle.ba_guards.specs.Continuing.{continued, ended, exit_of, labels_of}
use Rattle.ba_guards.specs.Reading.{Snapshot, is_live, left_from, met, snapshot, variables_at, visits}
use Rattle.ba_guards.specs.Reading.Status.{idle}
use Rattle.ba_guards.specs.Written.{AgreeBut, AreSince, AreWritten, frames_of}
use Rattle.ba_guards.specs.declared.builder.Builder.{Builder}
use Rattle.ba_guards.specs.declared.builder.Fork.{Fork}
use Rattle.ba_guards.specs.declared.builder.Sides.{Sides}
use Rattle.ba_guards.specs.declared.exits.Exit.{Exit}
use Rattle.ba_numbers.specs.Numbers.{converted, divides, is_in}
use Rattle.ba_numbers.specs.declared.numbers.BinOp.{BinOp}
use Rattle.ba_numbers.specs.declared.numbers.CType.{CType}
use Rattle.ba_numbers.specs.declared.numbers.CType.TheVariants.{U8}
use Rattle.ba_tree.specs.declared.run.Flow.TheVariants.{Next}
use Rattle.ba_tree.specs.declared.run.Halt.{Halt}
use Rattle.ba_tree.specs.declared.run.Place.{Place}
use Rattle.ba_wordlist.specs.Facts.{are_names, are_typed, are_words, is_name, is_place, lengths_of, shows_type}
use Rattle.ba_wordlist.specs.Meaning.{Assignment, elements_at, is_nonzero, value_at, values_of}
use Rattle.ba_wordlist.specs.declared.words.WordOp.{WordOp}
use Rattle.ba_wordlist.specs.declared.words.WordOp.TheVariants.{Const}

-- WORDS

-- the value of an entry
abbrev pub word_in : List WordOp → ℕ → Assignment → ℤ
word_in ws w f = value_at (values_of f ws) w

-- the elements of an entry of an assignment
abbrev pub elements_in : List WordOp → ℕ → Assignment → List ℤ
elements_in ws w f = elements_at (values_of f ws) w

-- an entry was there, or was added
abbrev pub StandsAt : List WordOp → List WordOp → ℕ → WordOp → Type 0
StandsAt old new word op = ((new ≡ old) × (slice_get old word ≡ Some op))
    ⊎ ((word ≡ length old) × (new ≡ old ++ op ∷ []))

-- entries were added, and this word has this value
pub record Emits (old new : List WordOp) (word : ℕ) (value : Assignment → ℤ) : Type 0 where
  pub more : List WordOp
  pub grown : new ≡ old ++ more
  pub fit : are_words new ≡ true
  pub name : word < length new
  pub has : (f : Assignment) → value_at (values_of f new) word ≡ value f

-- the same for an array of this many elements
pub record EmitsArray (old new : List WordOp) (word count : ℕ) (elements : Assignment → List ℤ) :
    Type 0 where
  pub more : List WordOp
  pub grown : new ≡ old ++ more
  pub fit : are_words new ≡ true
  pub name : word < length new
  pub long : slice_index_or (lengths_of new) word 1 ≡ count
  pub has : (f : Assignment) → elements_at (values_of f new) word ≡ elements f

-- the value of an operand, by the words of variables
abbrev pub operand_at : List (List ℤ) → List ℕ → Operand → ℤ
operand_at vs vars (operand.Const z) = z
operand_at vs vars (operand.Var n) = variables_at vs vars n

-- THE BUILDER

-- an exit has words of this list, one for each variable
abbrev pub fits_exit : ℕ → ℕ → Exit → Bool
fits_exit count vars e = is_name count e.live && are_names count e.vars && (length e.vars == vars)

-- at most one exit is taken; no exit is

-- no exit is taken
abbrev pub are_off : List (List ℤ) → List Exit → Bool
are_off vs [] = true
are_off vs (e ∷ es) = not (is_nonzero (value_at vs e.live)) && are_off vs es

-- at most one exit is taken
abbrev pub is_single : List (List ℤ) → List Exit → Bool
is_single vs [] = true
is_single vs (e ∷ es) = cond (is_nonzero (value_at vs e.live)) (are_off vs es) (is_single vs es)

-- What holds of a builder:
-- - all numbers name entries, and words 0 and 1 are those numbers
-- - values of choices show their types
-- - a run that comes to the end of the list has left no block, and none has left two
-- - the variables written since a block began are known
pub record Fits (d : Declared) (b : Builder) : Type 0 where
  pub words : are_words b.words ≡ true
  pub zero : slice_get b.words 0 ≡ Some (Const (pos 0))
  pub one : slice_get b.words 1 ≡ Some (Const (pos 1))
  pub live : b.live < length b.words
  pub vars : are_names (length b.words) b.vars ≡ true
  pub var_count : length b.vars ≡ d.vars
  pub arrays : are_names (length b.words) b.arrays ≡ true
  pub array_count : length b.arrays ≡ length d.arrays
  pub lengths : (n : ℕ) → n < length d.arrays
      → slice_index_or (lengths_of b.words) (slice_index_or b.arrays n 0) 1
      ≡ (info_at d.arrays n).len
  pub exits : list_all (fits_exit (length b.words) d.vars) b.exits ≡ true
  pub some_exit : 0 < length b.exits
  pub require : are_names (length b.words) b.require ≡ true
  pub places : list_all (is_place (length b.words)) b.places ≡ true
  pub typed : are_typed b.words b.places ≡ true
  pub apart : (f : Assignment) → is_live (values_of f b.words) b ≡ true
      → left_from (values_of f b.words) 0 b.exits ≡ idle
  pub single : (f : Assignment) → is_single (values_of f b.words) b.exits ≡ true
  pub since : AreSince b.written b.vars (frames_of b.exits)
  pub written : AreWritten b.exits

-- these variables were written, and all others have the same word
pub record Writes (old new : Builder) : Type 0 where
  pub set : List ℕ
  pub written : new.written ≡ old.written ++ set
  pub kept : AgreeBut set old.vars new.vars
  pub frames : frames_of new.exits ≡ frames_of old.exits

-- of the variables written since a moment, these have other words than then
pub record Gathers (since : ℕ) (before : List ℕ) (old new : Builder) : Type 0 where
  pub numbers : List ℕ
  pub written : new.written ≡ take since old.written ++ numbers
  pub kept : AgreeBut numbers before new.vars

-- entries were added, and the blocks around are the same
pub record Extends (old new : Builder) : Type 0 where
  pub more : List WordOp
  pub words : new.words ≡ old.words ++ more
  pub labels : labels_of new.exits ≡ labels_of old.exits
  pub writes : Writes old new

-- PARTS OF A RUN

-- a part may depend on the values that an assignment gives to choices
abbrev pub Part : Type 0
Part = Assignment → Relaxes → TracedExecution

-- an assignment that differs from another only at new words, and spells choices
pub record Found (r : Relaxes) (words : ℕ) (f : Assignment) (log : Assignment → List Visit)
    (choices rest : List Choice) : Type 0 where
  pub by : Assignment
  pub agrees : (k : ℕ) → k < words → f k ≡ by k
  pub kept : are_kept r (log by) ≡ true
  pub spells : chosen r (log by) ++ rest ≡ choices

-- The list says what a part does. Under each assignment the part, with the choices that it spells, takes the
-- run from one snapshot to the next. The run ends badly exactly if a new requirement isn't met. Each run of
-- the part that doesn't end badly is given by such an assignment.
pub record Means (d : Declared) (part : Part) (old new : Builder) : Type 0 where
  pub extends : Extends old new
  pub fits : Fits d new
  pub log : Assignment → List Visit
  pub good : Assignment → Bool
  pub local : (f g : Assignment) → ((k : ℕ) → k < length new.words → f k ≡ g k) → log f ≡ log g
  pub logs : (f : Assignment) → visits f new ≡ visits f old ++ log f
  pub keeps : (f : Assignment) → met f new ≡ (met f old && good f)
  pub runs : (r : Relaxes) (f : Assignment) (rest : List Choice) → are_kept r (log f) ≡ true
      → continued (labels_of old.exits) (part f r) (snapshot f old) (chosen r (log f) ++ rest)
      ≡ ended (good f) (snapshot f new) rest
  pub finds : (r : Relaxes) (f : Assignment) (choices rest : List Choice) (s : Snapshot)
      → continued (labels_of old.exits) (part f r) (snapshot f old) choices ≡ Some (s, rest)
      → Found r (length old.words) f log choices rest

-- a part that ends the run badly if a test fails
abbrev pub checked_by : Bool → Halt → TracedExecution
checked_by true h s = (Ok Next, s)
checked_by false h s = (Err h, s)

-- the run goes on if the test holds, and ends so otherwise
abbrev pub checked : (CodeState → Bool) → Halt → TracedExecution
checked test h s = checked_by (test s.code) h s

-- a requirement was added: it is met if the run doesn't come to it, or if this value isn't 0
pub record Demands (d : Declared) (old new : Builder) (value : Assignment → ℤ) : Type 0 where
  pub extends : Extends old new
  pub same : new ≡ record old { words = new.words; require = new.require }
  pub fits : Fits d new
  pub good : Assignment → Bool
  pub stands : (f : Assignment) → snapshot f new ≡ snapshot f old
  pub logs : (f : Assignment) → visits f new ≡ visits f old
  pub keeps : (f : Assignment) → met f new ≡ (met f old && good f)
  pub on : (f : Assignment) → is_live (values_of f old.words) old ≡ true
      → good f ≡ is_nonzero (value f)
  pub off : (f : Assignment) → is_live (values_of f old.words) old ≡ false → good f ≡ true

-- a requirement was added for a test that the run has to pass
pub record Checks (d : Declared) (old new : Builder) (halt : Halt) (test : Assignment → Bool) :
    Type 0 where
  pub same : new ≡ record old { words = new.words; require = new.require }
  pub means : Means d (λ f r. checked (λ c. test f) halt) old new

-- a binary operator has a value except for a divisor of 0
abbrev pub has_value : BinOp → CType → ℤ → Bool
has_value op t b = not (divides op && int_eq (converted t b) (pos 0))

-- what holds of the nodes to be guarded
pub record AreFit (d : Declared) (nodes : List Node) : Type 0 where
  pub labels : List ℕ
  pub fit : are_inside labels (map (fits_inside d) nodes) ≡ true
  pub unrolled : list_all (λ b. b) (map is_unrolled nodes) ≡ true

-- BRANCHES

-- variables have the words of one list if a condition holds, and else of another
pub record Merges (old new : List WordOp) (count : ℕ) (which : Assignment → Bool)
    (yeses nos merged : List ℕ) : Type 0 where
  pub more : List WordOp
  pub grown : new ≡ old ++ more
  pub fit : are_words new ≡ true
  pub names : are_names (length new) merged ≡ true
  pub long : length merged ≡ count
  pub has : (f : Assignment) → variables_at (values_of f new) merged
      ≡ cond (which f) (variables_at (values_of f old) yeses) (variables_at (values_of f old) nos)

-- the word is not 0 under an assignment
abbrev pub holds_in : List WordOp → ℕ → Assignment → Bool
holds_in ws w f = is_nonzero (word_in ws w f)

-- the run after two ways, of which it takes at most one: the path condition, and the words of the variables
pub record EitherWay (old new : List WordOp) (count first_live : ℕ) (first_vars : List ℕ)
    (second_live : ℕ) (second_vars : List ℕ) (live : ℕ) (vars : List ℕ) : Type 0 where
  pub more : List WordOp
  pub grown : new ≡ old ++ more
  pub fit : are_words new ≡ true
  pub name : live < length new
  pub names : are_names (length new) vars ≡ true
  pub long : length vars ≡ count
  pub on : (f : Assignment)
      → holds_in new live f ≡ (holds_in old first_live f || holds_in old second_live f)
  pub first : (f : Assignment) → holds_in old first_live f ≡ true
      → variables_at (values_of f new) vars ≡ variables_at (values_of f old) first_vars
  pub second : (f : Assignment)
      → holds_in old first_live f ≡ false → holds_in old second_live f ≡ true
      → variables_at (values_of f new) vars ≡ variables_at (values_of f old) second_vars

-- the first side begins: it is taken if a word isn't 0
pub record Opens (old new : Builder) (which : ℕ) : Type 0 where
  pub same : new ≡ record old { words = new.words; live = new.live }
  pub live : Emits old.words new.words new.live
      (λ f. cond (holds_in old.words which f) (word_in old.words old.live f) (pos 0))

-- the second side begins, where the run was before the first
pub record Switches (since was_live : ℕ) (was_vars : List ℕ) (old new : Builder) (which : ℕ) :
    Type 0 where
  pub same : new ≡ record old {
    words = new.words;
    live = new.live;
    vars = was_vars;
    written = take since old.written;
  }
  pub live : Emits old.words new.words new.live
      (λ f. cond (holds_in old.words which f) (pos 0) (word_in old.words was_live f))

-- the record of a branch when a side begins
abbrev pub fork_at : ℕ → ℕ → ℕ → ℕ → List ℕ → Fork
fork_at which since first live vars = record {
  which = which;
  first = first;
  since = since;
  before = record { live = live; vars = vars };
}

-- the two sides of a branch, when the second one has ended
abbrev pub sides_at : Fork → ℕ → ℕ → List ℕ → List ℕ → Sides
sides_at fork second live vars written = record {
  which = fork.which;
  live = fork.before.live;
  first = fork.first;
  second = second;
  before = fork.before.vars;
  since = fork.since;
  after = record { live = live; vars = vars };
  written = drop fork.since written;
}

-- the run comes to exactly one side of a branch if it comes to the branch
pub record AreSides (ws : List WordOp) (s : Sides) : Type 0 where
  pub condition : s.which < length ws
  pub came : s.live < length ws
  pub first_name : s.first < length ws
  pub second_name : s.second < length ws
  pub first : (f : Assignment)
      → holds_in ws s.first f ≡ (holds_in ws s.which f && holds_in ws s.live f)
  pub second : (f : Assignment)
      → holds_in ws s.second f ≡ (not (holds_in ws s.which f) && holds_in ws s.live f)

-- both sides end; `yes_live` and `yes_vars` tell the run after the first
pub record Joins (since : ℕ) (before : List ℕ) (yes_live : ℕ) (yes_vars : List ℕ)
    (old new : Builder) : Type 0 where
  pub same : new ≡ record old {
    words = new.words;
    live = new.live;
    vars = new.vars;
    written = new.written;
  }
  pub gathers : Gathers since before old new
  pub ways : EitherWay old.words new.words (length old.vars) yes_live yes_vars old.live old.vars
      new.live new.vars

-- BLOCKS

-- a block begins
pub record Scopes (old new : Builder) (label : ℕ) : Type 0 where
  pub same : new ≡ record old {
    exits = old.exits ++ (record {
      label = label;
      since = length old.written;
      base = old.vars;
      live = 0;
      vars = old.vars;
      written = [];
    }) ∷ [];
  }

-- a block ends: a run that left the block comes to the end of the list too
pub record Closes (old new : Builder) (exit : Exit) : Type 0 where
  pub same : new ≡ record old {
    words = new.words;
    live = new.live;
    vars = new.vars;
    written = new.written;
    exits = new.exits;
  }
  pub gathers : Gathers exit.since exit.base old new
  pub exits : old.exits ≡ new.exits ++ exit ∷ []
  pub ways : EitherWay old.words new.words (length old.vars) exit.live exit.vars old.live old.vars
      new.live new.vars

-- the run leaves the innermost block of a label
pub record Leaving (old new : Builder) (label : ℕ) : Type 0 where
  pub exit : Exit
  pub found : slice_get old.exits (exit_of (labels_of old.exits) label) ≡ Some exit
  pub new_live : ℕ
  pub new_vars : List ℕ
  pub new_written : List ℕ
  pub same : new ≡ record old {
    words = new.words;
    live = 0;
    exits = slice_set old.exits (exit_of (labels_of old.exits) label)
        (record exit { live = new_live; vars = new_vars; written = new_written });
  }
  pub kept : AgreeBut new_written exit.base new_vars
  pub ways : EitherWay old.words new.words (length exit.vars) old.live old.vars exit.live exit.vars
      new_live new_vars

-- a node fits inside blocks of some labels, and has no loop
pub record IsFit (d : Declared) (n : Node) : Type 0 where
  pub labels : List ℕ
  pub fit : fits_inside d n labels ≡ true
  pub unrolled : is_unrolled n ≡ true

-- CHOICES

-- what the values of a choice do
abbrev pub picked : Declared → Take → List ℤ → TracedExecution
picked d take zs = untraced (λ c. if_taken (taken d.arrays take zs c) c)

-- the values of words under an assignment
abbrev pub values_in : List WordOp → List ℕ → Assignment → List ℤ
values_in ws values f = map (value_at (values_of f ws)) values

-- the arrays have their lengths
pub record HasLengths (d : Declared) (c : CodeState) : Type 0 where
  pub long : (n : ℕ) → n < length d.arrays → length (c.arrays n) ≡ (info_at d.arrays n).len

-- a place was added
pub record Places (old new : Builder) (place : Place) (keep : ℕ) (values : List ℕ) : Type 0 where
  pub same : new ≡ record old {
    places = old.places
        ++ (record { place = place; guard = old.live; keep = keep; values = values }) ∷ [];
  }

-- an assignment of words after others, with Keep or with these values
pub record Keeping (ws : List WordOp) (words keep : ℕ) (f : Assignment) : Type 0 where
  pub by : Assignment
  pub agrees : (n : ℕ) → n < words → f n ≡ by n
  pub kept : holds_in ws keep by ≡ true

-- an assignment, as `f` on the first words, that takes these values at an execution
pub record Taking (ws : List WordOp) (words keep : ℕ) (values : List ℕ) (zs : List ℤ)
    (f : Assignment) : Type 0 where
  pub by : Assignment
  pub agrees : (n : ℕ) → n < words → f n ≡ by n
  pub kept : holds_in ws keep by ≡ false
  pub spells : values_in ws values by ≡ zs

-- the new words can be each choice
pub record Offers (d : Declared) (take : Take) (ws : List WordOp) (words keep : ℕ)
    (values : List ℕ) : Type 0 where
  pub keeps : (f : Assignment) → Keeping ws words keep f
  pub takes : (f : Assignment) (zs : List ℤ) (c t : CodeState) → HasLengths d c
      → taken d.arrays take zs c ≡ Some t → Taking ws words keep values zs f

-- an assignment of words after others, with these values
pub record Drawn (ws : List WordOp) (words : ℕ) (values : List ℕ) (zs : List ℤ) (f : Assignment) :
    Type 0 where
  pub by : Assignment
  pub agrees : (n : ℕ) → n < words → f n ≡ by n
  pub spells : values_in ws values by ≡ zs

-- the entries of these words show their types
abbrev pub show_types : List WordOp → List ℕ → Bool
show_types ws values = list_all (λ w. shows_type (slice_get ws w)) values

-- words were added that can have the lists of values that pass a test, and no others
pub record Draws (old new : List WordOp) (values : List ℕ) (test : List ℤ → Bool) : Type 0 where
  pub more : List WordOp
  pub grown : new ≡ old ++ more
  pub fit : are_words new ≡ true
  pub names : are_names (length new) values ≡ true
  pub typed : show_types new values ≡ true
  pub right : (f : Assignment) → test (values_in new values f) ≡ true
  pub draws : (f : Assignment) (zs : List ℤ) → test zs ≡ true → Drawn new (length old) values zs f

-- the words of operands were added
pub record ReadsAll (d : Declared) (old new : Builder) (words : List ℕ) (values : List Operand) :
    Type 0 where
  pub same : new ≡ record old { words = new.words }
  pub more : List WordOp
  pub grown : new.words ≡ old.words ++ more
  pub fits : Fits d new
  pub names : are_names (length new.words) words ≡ true
  pub has : (f : Assignment) → values_in new.words words f
      ≡ map (operand_at (values_of f old.words) old.vars) values

-- the values of a choice pass a test, where an index may be any byte
abbrev pub is_one : (ℤ → Bool) → List ℤ → Bool
is_one fits [] = false
is_one fits (z ∷ []) = fits z
is_one fits (z ∷ y ∷ zs) = false

-- an index in the range of U8, and a value of the type
abbrev pub is_cell : CType → List ℤ → Bool
is_cell t [] = false
is_cell t (i ∷ []) = false
is_cell t (i ∷ z ∷ []) = is_in U8 i && is_in t z
is_cell t (i ∷ z ∷ y ∷ zs) = false

-- so many values of the type
abbrev pub are_of : CType → ℕ → List ℤ → Bool
are_of t count zs = (length zs == count) && list_all (is_in t) zs

-- the value is 0 or 1
abbrev pub is_zero_or_one : ℤ → Bool
is_zero_or_one z = int_eq z (pos 0) || int_eq z (pos 1)

-- the values are those that a free value of this form may have
abbrev pub are_right : Declared → Take → List ℤ → Bool
are_right d (kind.Value to t) zs = is_one (is_in t) zs
are_right d (kind.Truth to) zs = is_one is_zero_or_one zs
are_right d (kind.Cell array) zs = is_cell (info_at d.arrays array).t zs
are_right d (kind.Cells array) zs =
    are_of (info_at d.arrays array).t (info_at d.arrays array).len zs
are_right d kind.Nothing zs = length zs == 0

-- words were added that can be each choice of a statement: Keep, or values that fit
pub record Offered (d : Declared) (take : Take) (old new : List WordOp) (keep : ℕ)
    (values : List ℕ) : Type 0 where
  pub more : List WordOp
  pub grown : new ≡ old ++ more
  pub fit : are_words new ≡ true
  pub name : keep < length new
  pub names : are_names (length new) values ≡ true
  pub typed : show_types new values ≡ true
  pub offers : Offers d take new (length old) keep values
  pub right : (f : Assignment) → are_right d take (values_in new values f) ≡ true
