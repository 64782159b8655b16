-- READING FILES: the files of a list, each whole, one after the other.

use Rattle.std.specs.Prelude.{◌≡◌, ◌⊎◌, ℕ, ◌<◌, ◌≤◌, ◌+◌, Option, None, Some, List, [], ◌∷◌, length}
use Rattle.ba_answers.specs.Limits.{limit}
use Rattle.ba_answers.specs.declared.answers.Answer.{Answer}
use Rattle.ba_answers.specs.declared.answers.Answer.TheVariants as answer
use Rattle.ba_answers.specs.declared.file.File.{File}
use Rattle.ba_commands.specs.Modes.{Word}
use Rattle.ba_world.specs.Read.{IsReadWhole, Stopped, StoppedPast}
use Rattle.ba_world.specs.World.{OnlyReads, Outside}
use Rattle.ba_world.specs.declared.read.ReadFileError.{ReadFileError}
use Rattle.ba_world.specs.declared.read.ReadFileError.TheVariants as read
use Rattle.ba_files.specs.declared.files.Named.{Named}

-- at most this many bytes are given
abbrev pub GivesAtMost : ℕ → Outside → Outside → Type 0
GivesAtMost most before after = after.given ≤ before.given + most

-- A FILE WAS READ whole, and these are its bytes, as far as the world tells them
pub record IsReadFile (name : Word) (text : List ℕ) (old new : Outside) : Type 0 where
  pub whole : IsReadWhole name text old new
  pub short : length text ≤ limit
  pub only : OnlyReads old new

-- if a file has no name, none is read, and its text is empty
abbrev pub IsReadIfNamed : Option Word → List ℕ → Outside → Outside → Type 0
IsReadIfNamed None text old new = (text ≡ []) × (new ≡ old)
IsReadIfNamed (Some name) text old new = IsReadFile name text old new

-- A FILE WASN'T READ. Its read stopped by a fault, or since there is no such file; or it stopped with the
-- piece that passed the limit.
abbrev pub IsUnread : Word → ReadFileError → Outside → Outside → Type 0
IsUnread name read.Failed old new = Stopped name limit old new
IsUnread name read.TooLong old new = StoppedPast name limit old new
IsUnread name read.Memory old new = Unit {0}

-- why a file was not read; one without a name fails only out of memory
abbrev pub IsUnreadIfNamed : Option Word → ReadFileError → Outside → Outside → Type 0
IsUnreadIfNamed None error old new = error ≡ read.Memory
IsUnreadIfNamed (Some name) error old new = IsUnread name error old new

-- ALL FILES of a list were read, and have these texts
abbrev pub AreRead : List Named → List (List ℕ) → Outside → Outside → Type 0
AreRead [] [] before after = after ≡ before
AreRead [] (text ∷ texts) before after = ⊥
AreRead (file ∷ files) [] before after = ⊥
AreRead (file ∷ files) (text ∷ texts) before after =
    (next : Outside) × IsReadIfNamed file.name text before next × AreRead files texts next after

-- THE READING STOPPED at this file, for this reason; those before it were read
abbrev pub StopsAt : File → ReadFileError → List Named → Outside → Outside → Type 0
StopsAt which error [] before after = ⊥
StopsAt which error (file ∷ files) before after =
    ((which ≡ file.file) × IsUnreadIfNamed file.name error before after)
    ⊎ ((text : List ℕ) × (next : Outside) × IsReadIfNamed file.name text before next
    × StopsAt which error files next after)

-- the answer for a file that wasn't read; none if memory ran out
abbrev pub answer_for : File → ReadFileError → Option Answer
answer_for which read.Failed = Some (answer.Unreadable which)
answer_for which read.TooLong = Some (answer.TooLong which)
answer_for which read.Memory = None

-- WHAT A WORLD TELLS OF FILES before they are read

-- the file of this name has these bytes
abbrev pub TellsFile : Outside → Word → List ℕ → Type 0
TellsFile before name text = before.held name ≡ Some (Some text)

-- the same, and the bytes are no more than the limit
abbrev pub TellsText : Outside → Option Word → List ℕ → Type 0
TellsText before None text = text ≡ []
TellsText before (Some name) text = TellsFile before name text × (length text ≤ limit)

-- the world tells that there is no such file; or that it is too long
abbrev pub TellsUnread : ReadFileError → Outside → Option Word → Type 0
TellsUnread error before None = ⊥
TellsUnread read.Failed before (Some name) = before.held name ≡ Some None
TellsUnread read.TooLong before (Some name) =
    (text : List ℕ) × TellsFile before name text × (limit < length text)
TellsUnread read.Memory before (Some name) = ⊥

-- the world tells all files of a list, and none is too long
abbrev pub TellsAll : Outside → List Named → List (List ℕ) → Type 0
TellsAll before [] [] = Unit {0}
TellsAll before [] (text ∷ texts) = ⊥
TellsAll before (file ∷ files) [] = ⊥
TellsAll before (file ∷ files) (text ∷ texts) =
    TellsText before file.name text × TellsAll before files texts

-- the world tells the files before this one, and that this one can't be read or is too long
abbrev pub TellsStop : File → ReadFileError → Outside → List Named → Type 0
TellsStop which error before [] = ⊥
TellsStop which error before (file ∷ files) =
    ((which ≡ file.file) × TellsUnread error before file.name)
    ⊎ ((text : List ℕ) × TellsText before file.name text × TellsStop which error before files)
