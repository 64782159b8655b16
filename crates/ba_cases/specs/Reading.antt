-- THE FILES OF A CALL are read whole, and their texts have the answer. Which files these are, how their texts
-- are held, and what is said of them, the mode says.

use Rattle.std.specs.Prelude.{◌≡◌, ℕ, Option, None, Some, List, [], ◌∷◌, length, ◌≤◌}
use Rattle.ba_answers.specs.Limits.{limit}
use Rattle.ba_answers.specs.declared.answers.Answer.{Answer}
use Rattle.ba_answers.specs.declared.file.File.{File}
use Rattle.ba_answers.specs.declared.file.File.TheVariants as file
use Rattle.ba_commands.specs.Modes.{Word}
use Rattle.ba_files.specs.Files.{AreRead, StopsAt, TellsAll, TellsStop, answer_for}
use Rattle.ba_files.specs.declared.files.Named.{Named}
use Rattle.ba_derivations.specs.Handing.{Derivation}
use Rattle.ba_tree.specs.declared.tree.Program.{Program}
use Rattle.ba_tree_laws.specs.Spelling.{Spells}
use Rattle.ba_world.specs.World.{Outside}
use Rattle.ba_world.specs.declared.read.ReadFileError.{ReadFileError}
use Rattle.ba_cases.specs.declared.stop.Stop.{Stop}
use Rattle.ba_cases.specs.declared.stop.Stop.TheVariants as stop
use Rattle.ba_cases.specs.declared.texts.Texts.{Texts}

-- the files of a program, of its input or inputs, and of its weights; and their texts in this order
abbrev pub files_for : Word → File → Word → Option Word → List Named
files_for program which input weights =
    record { file = file.Program; name = Some program } ∷ record { file = which; name = Some input }
    ∷ record { file = file.Weights; name = weights } ∷ []

-- the texts of program, inputs and weights
abbrev pub parts_of : Texts → List (List ℕ)
parts_of x = x.program ∷ x.input ∷ x.weights ∷ []

-- the text of the program
abbrev pub source_of : Texts → List ℕ
source_of x = x.program

-- no text is longer than a file may be
pub record AreShort (x : Texts) : Type 0 where
  pub program : length x.program ≤ limit
  pub input : length x.input ≤ limit

-- A FILE WASN'T READ, and this is the answer; out of memory says nothing
pub record IsUnreadAs (files : List Named) (before after : Outside) (a : Answer) : Type 0 where
  pub which : File
  pub error : ReadFileError
  pub stops : StopsAt which error files before after
  pub answers : answer_for which error ≡ Some a

-- a stop with an answer is that of the first file that was not read; one out of memory says nothing
abbrev pub StopsUnread : List Named → Outside → Outside → Stop → Type 0
StopsUnread files before after (stop.Answered a) = IsUnreadAs files before after a
StopsUnread files before after stop.Memory = Unit {0}

-- THE ANSWER OF FILES. One wasn't read, and this is the answer. Or all were read, and the answer is that of
-- their texts and of what is read after them. These derivations were handed to the sink of steps.
pub data FilesComeTo {X : Type 0} (parts : X → List (List ℕ)) (files : List Named)
    (row : X → Outside → Outside → List Derivation → Answer → Type 0)
    (before after : Outside) (handed : List Derivation) (a : Answer) : Type 0
  where
    unread : IsUnreadAs files before after a → handed ≡ [] → FilesComeTo parts files row before after handed a
    by_texts : (x : X) (read : Outside) → AreRead files (parts x) before read →
        row x read after handed a → FilesComeTo parts files row before after handed a

-- the texts alone have the answer: nothing more is read
abbrev pub Unaided : {X : Type 0} → (X → List Derivation → Answer → Type 0) → X → Outside → Outside →
    List Derivation → Answer → Type 0
Unaided row x read after handed a = (after ≡ read) × row x handed a

-- THE ANSWER THAT IS DUE to told files: an answer of their texts; or that one can't be read, or is too long
pub data FilesAreDue {X : Type 0} (parts : X → List (List ℕ)) (files : List Named) (row : X → Answer → Type 0)
    (before : Outside) (a : Answer) : Type 0 where
  of_texts : (x : X) → TellsAll before files (parts x) → row x a → FilesAreDue parts files row before a
  stopped : (which : File) (error : ReadFileError) → TellsStop which error before files →
      answer_for which error ≡ Some a → FilesAreDue parts files row before a

-- the world tells all files, and their program has no answer at once
pub record TellsUndecided {X : Type 0} (parts : X → List (List ℕ)) (source : X → List ℕ) (files : List Named)
    (first : X → Program → Option Answer) (before : Outside) : Type 0 where
  pub texts : X
  pub told : TellsAll before files (parts texts)
  pub program : Program
  pub spelled : Spells (source texts) program
  pub undecided : first texts program ≡ None
