-- The outside as a world tells it, and how calls change it. What a world does not tell is `None`.

use Rattle.std.specs.Prelude.{◌≡◌, ◌≢◌, ◌⊎◌, ◌↔◌, ℕ, ◌+◌, ◌-◌, ◌^◌, ◌<◌, ◌≤◌, min, Bool, true, false, List, [], ◌++◌, length, take, drop, Option, None, Some, option_map, IsSome, IfSome}

-- The outside at one moment, as far as a world tells it. Every world tells the counts, and whether a file is
-- being read and one is being written.
pub record Outside : Type 0 where
  -- the bytes held under a name: `Some None` tells that no file is
  pub held : List ℕ → Option (Option (List ℕ))
  -- the bytes of the file being read that weren't given yet
  pub left : Option (List ℕ)
  -- the bytes added to the file begun under a name
  pub kept : List ℕ → Option (List ℕ)
  -- the name of the file being written; a world that tells what it holds or keeps tells this too
  pub writing : Option (List ℕ)
  -- all bytes printed
  pub printed : Option (List ℕ)
  -- whether a file is being read, and whether one is being written
  pub is_reading : Bool
  pub is_writing : Bool
  -- the faults of reading, and those of writing and printing
  pub read_faults : ℕ
  pub write_faults : ℕ
  -- the prints that found no memory
  pub print_shortages : ℕ
  -- how many bytes of files were given
  pub given : ℕ

-- COUNTS

-- a count of 64 bits after a rise: it stays at its type's end
abbrev pub raised : ℕ → ℕ → ℕ
raised count by = min (count + by) (2 ^ 64 - 1)

-- a count rose, if one that has come to its type's end counts as risen
abbrev pub Rose : ℕ → ℕ → Type 0
Rose old new = (old < new) ⊎ (2 ^ 64 - 1 ≤ new)

-- a fault of reading rose, and a fault of writing or of printing did
abbrev pub HasReadFault : Outside → Outside → Type 0
HasReadFault old new = Rose old.read_faults new.read_faults

-- the count of faults of writing rose
abbrev pub HasWriteFault : Outside → Outside → Type 0
HasWriteFault old new = Rose old.write_faults new.write_faults

-- a print found no memory
abbrev pub HasPrintShortage : Outside → Outside → Type 0
HasPrintShortage old new = Rose old.print_shortages new.print_shortages

-- WHAT STAYS

-- Only reading went on. The file being read, what it has left and the count of bytes given may change. The
-- faults of reading don't fall, and all else stays.
pub record OnlyReads (old new : Outside) : Type 0 where
  pub no_fall : old.read_faults ≤ new.read_faults
  pub held : new.held ≡ old.held
  pub kept : new.kept ≡ old.kept
  pub writing : new.writing ≡ old.writing
  pub printed : new.printed ≡ old.printed
  pub is_writing : new.is_writing ≡ old.is_writing
  pub write_faults : new.write_faults ≡ old.write_faults
  pub print_shortages : new.print_shortages ≡ old.print_shortages

-- Only writing of files went on. What is held and kept, the file being written, and the rest of the file
-- being read may change. The faults of writing don't fall, and all else stays.
pub record OnlyWrites (old new : Outside) : Type 0 where
  pub no_fall : old.write_faults ≤ new.write_faults
  pub printed : new.printed ≡ old.printed
  pub is_reading : new.is_reading ≡ old.is_reading
  pub read_faults : new.read_faults ≡ old.read_faults
  pub print_shortages : new.print_shortages ≡ old.print_shortages
  pub given : new.given ≡ old.given

-- Only printing went on. The printed bytes may grow. The faults of printing and the prints that found no
-- memory don't fall, and all else stays.
pub record OnlyPrints (old new : Outside) : Type 0 where
  pub no_fall : old.write_faults ≤ new.write_faults
  pub no_fewer : old.print_shortages ≤ new.print_shortages
  pub held : new.held ≡ old.held
  pub left : new.left ≡ old.left
  pub kept : new.kept ≡ old.kept
  pub writing : new.writing ≡ old.writing
  pub is_reading : new.is_reading ≡ old.is_reading
  pub is_writing : new.is_writing ≡ old.is_writing
  pub read_faults : new.read_faults ≡ old.read_faults
  pub given : new.given ≡ old.given

-- READING

-- the file of this name is being read, from its first byte on
pub record IsOpened (name : List ℕ) (old new : Outside) : Type 0 where
  pub reading : new.is_reading ≡ true
  pub whole : old.held name ≡ option_map Some new.left

-- the first `count` bytes of a buffer are the first bytes that the file had left; the rest is left now.
-- `count` is 0 exactly if nothing was left
abbrev pub Consumes : ℕ → List ℕ → Option (List ℕ) → Option (List ℕ) → Type 0
Consumes count buffer None after = after ≡ None
Consumes count buffer (Some bytes) after =
    (bytes ≡ take count buffer ++ drop count bytes) × (after ≡ Some (drop count bytes)) × ((count ≡ 0) ↔ (bytes ≡ []))

-- the first `count` bytes of a buffer were given of the file being read
pub record GivesPiece (count : ℕ) (buffer : List ℕ) (old new : Outside) : Type 0 where
  pub within : count ≤ length buffer
  pub bytes : Consumes count buffer old.left new.left
  pub counted : new.given ≡ raised old.given count

-- no byte was given
pub record GivesNone (old new : Outside) : Type 0 where
  pub left : new.left ≡ old.left
  pub given : new.given ≡ old.given

-- WRITING AND PRINTING

-- the bytes were appended to the text, if it is told
abbrev pub Appends : Option (List ℕ) → Option (List ℕ) → List ℕ → Type 0
Appends old new bytes = new ≡ option_map (λ text. text ++ bytes) old

-- some prefix of the bytes was appended to the text, if it is told
abbrev pub AppendsPrefix : Option (List ℕ) → Option (List ℕ) → List ℕ → Type 0
AppendsPrefix old new bytes = (count : ℕ) × Appends old new (take count bytes)

-- what is told of every name stays, except for one name
abbrev pub StaysBut : {T : Type 0} → List ℕ → (List ℕ → T) → (List ℕ → T) → Type 0
StaysBut name old new = (other : List ℕ) → other ≢ name → new other ≡ old other

-- what is told of every name stays, except for the one that is told of the file being written
abbrev pub StaysButWritten : {T : Type 0} → Option (List ℕ) → (List ℕ → T) → (List ℕ → T) → Type 0
StaysButWritten writing old new = (other : List ℕ) → writing ≢ Some other → new other ≡ old other

-- an empty file of this name is being written; if anything is told of what is kept, so is the name
pub record IsBegun (name : List ℕ) (new : Outside) : Type 0 where
  pub begun : new.is_writing ≡ true
  pub empty : IfSome (new.kept name) (λ bytes. bytes ≡ [])
  pub named : IfSome new.writing (λ written. written ≡ name)
  pub told : (any : List ℕ) → IsSome (new.kept any) → new.writing ≡ Some name

-- no file is being written, and what is kept under this name is as it was, or nothing
pub record WritesNone (name : List ℕ) (old new : Outside) : Type 0 where
  pub closed : new.is_writing ≡ false
  pub unnamed : new.writing ≡ None
  pub kept : (new.kept name ≡ old.kept name) ⊎ IfSome (new.kept name) (λ bytes. bytes ≡ [])

-- of every file but the one of this name stays what is held and what is kept
pub record OthersStay (name : List ℕ) (old new : Outside) : Type 0 where
  pub held : StaysBut name old.held new.held
  pub kept : StaysBut name old.kept new.kept

-- the bytes were added to the file being written, as far as it is told; and some prefix of them was
abbrev pub Adds : Outside → Outside → List ℕ → Type 0
Adds old new bytes = IfSome old.writing (λ name. Appends (old.kept name) (new.kept name) bytes)

-- the first of these bytes were added to the file that is being written, as far as that is told
abbrev pub AddsPrefix : Outside → Outside → List ℕ → Type 0
AddsPrefix old new bytes = IfSome old.writing (λ name. AppendsPrefix (old.kept name) (new.kept name) bytes)

-- the file being written stays that one, and of every other file stays what is held and what is kept
pub record StillWrites (old new : Outside) : Type 0 where
  pub begun : new.is_writing ≡ old.is_writing
  pub named : new.writing ≡ old.writing
  pub held : StaysButWritten old.writing old.held new.held
  pub kept : StaysButWritten old.writing old.kept new.kept

-- the bytes were printed, if it is told what was; and some prefix of them was
abbrev pub Prints : Outside → Outside → List ℕ → Type 0
Prints old new bytes = Appends old.printed new.printed bytes

-- the first of these bytes were printed, as far as that is told
abbrev pub PrintsPrefix : Outside → Outside → List ℕ → Type 0
PrintsPrefix old new bytes = AppendsPrefix old.printed new.printed bytes
