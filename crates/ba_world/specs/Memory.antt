-- A world in memory: its files, what was printed, and which of its calls fail.

use Rattle.std.specs.Prelude.{◌≢◌, ℕ, ◌+◌, ◌/◌, ◌==◌, ◌<◌, min, Bool, true, false, cond, List, [], ◌∷◌, ◌++◌, length, take, drop, find, slice_index_or, Option, None, Some, is_some, option_map, option_and_then, Result, Ok, Err, AllPairs}
use Rattle.std.specs.List.{list_any}
use Rattle.std.specs.Str.{bytes_eq}
use Rattle.std.specs.Option.{option_map_or, ForSome}
use Rattle.ba_world.specs.World.{Outside, raised}
use Rattle.ba_world.specs.declared.world.WorldError.{WorldError}
use Rattle.ba_world.specs.declared.world.WorldError.TheVariants.{Failed}

-- a file: its name, its bytes, and whether it was begun by a call
pub record File : Type 0 where
  pub name : List ℕ
  pub bytes : List ℕ
  pub begun : Bool

-- the file that is being read, by its name, and how many of its bytes were given
pub record Opened : Type 0 where
  pub name : List ℕ
  pub offset : ℕ

-- a world in memory, whose calls are numbered from 0
pub record Memory : Type 0 where
  pub files : List File
  pub reading : Option Opened
  pub writing : Option (List ℕ)
  pub printed : List ℕ
  pub fails : List ℕ
  pub piece : ℕ
  pub calls : ℕ
  pub read_faults : ℕ
  pub write_faults : ℕ
  pub print_shortages : ℕ
  pub given : ℕ

-- the files have different names
abbrev pub NamesDiffer : List File → Type 0
NamesDiffer files = AllPairs (λ one other. one.name ≢ other.name) files

-- the file of this name
abbrev pub file_of : List File → List ℕ → Option File
file_of files name = find (λ file. bytes_eq file.name name) files

-- the bytes of the file of this name
abbrev pub bytes_of : List File → List ℕ → List ℕ
bytes_of files name = option_map_or (λ file. file.bytes) (file_of files name) []

-- the bytes added to the file of this name, if it was begun
abbrev pub kept_of : File → Option (List ℕ)
kept_of file = cond file.begun (Some file.bytes) None

-- what is told of a name: the bytes held, and the bytes kept
abbrev pub held_in : List File → List ℕ → Option (Option (List ℕ))
held_in files name = Some (option_map (λ file. file.bytes) (file_of files name))

-- the bytes of the file of this name, if it was begun here
abbrev pub kept_in : List File → List ℕ → Option (List ℕ)
kept_in files name = option_and_then kept_of (file_of files name)

-- the files with this one in place of the one of its name, or at the end if there was none
abbrev pub with_file : File → List File → List File
with_file new [] = new ∷ []
with_file new (file ∷ files) = cond (bytes_eq file.name new.name) (new ∷ files) (file ∷ with_file new files)

-- the name of the file at this index of the list
abbrev pub name_at : List File → ℕ → List ℕ
name_at files place = (slice_index_or files place (record { name = []; bytes = []; begun = false })).name

-- the names differ, the files being read and written are in the list, and a piece isn't empty
pub record IsSound (files : List File) (reading writing : Option ℕ) (piece : ℕ) : Type 0 where
  pub differ : NamesDiffer files
  pub reads : ForSome reading (λ place. place < length files)
  pub writes : ForSome writing (λ place. place < length files)
  pub gives : 0 < piece

-- the bytes of the opened file that weren't given yet
abbrev pub left_of : List File → Opened → List ℕ
left_of files opened = drop opened.offset (bytes_of files opened.name)

-- what the world tells: everything
abbrev pub outside_of : Memory → Outside
outside_of world = record {
  held = held_in world.files;
  left = option_map (left_of world.files) world.reading;
  kept = kept_in world.files;
  writing = world.writing;
  printed = Some world.printed;
  is_reading = is_some world.reading;
  is_writing = is_some world.writing;
  read_faults = world.read_faults;
  write_faults = world.write_faults;
  print_shortages = world.print_shortages;
  given = world.given;
}

-- the first half of the bytes, rounded down
abbrev pub half_of : List ℕ → List ℕ
half_of bytes = take (length bytes / 2) bytes

-- the next call is one that fails
abbrev pub fails_next : Memory → Bool
fails_next world = list_any (λ number. number == world.calls) world.fails

-- after one more call, after one that failed, and after a print that found no memory
abbrev pub called : Memory → Memory
called world = record world { calls = raised world.calls 1 }

-- the world after a call in which reading failed
abbrev pub read_failed : Memory → Memory
read_failed world = record (called world) { read_faults = raised world.read_faults 1 }

-- the world after a call in which writing failed
abbrev pub write_failed : Memory → Memory
write_failed world = record (called world) { write_faults = raised world.write_faults 1 }

-- the world after a print that found no memory
abbrev pub print_short : Memory → Memory
print_short world = record (called world) { print_shortages = raised world.print_shortages 1 }

-- a file that wasn't begun
abbrev pub held_file : List ℕ → List ℕ → File
held_file name bytes = record { name = name; bytes = bytes; begun = false }

-- a new world with these files
abbrev pub new_memory : List File → List ℕ → ℕ → Memory
new_memory files fails piece = record {
  files = files;
  reading = None;
  writing = None;
  printed = [];
  fails = fails;
  piece = piece;
  calls = 0;
  read_faults = 0;
  write_faults = 0;
  print_shortages = 0;
  given = 0;
}

-- a call's answer and the world after it
abbrev pub After : Type 0
After = Result (Unit {0}) WorldError × Memory

-- `open_file`, if this file has the name
abbrev pub after_search : List ℕ → Memory → Option File → After
after_search name world None = (Err Failed, record (called world) { reading = None })
after_search name world (Some file) = (Ok tt, record (called world) { reading = Some (record { name = name; offset = 0 }) })

-- what opening a file answers, and the world after it
abbrev pub after_open : List ℕ → Memory → After
after_open name world =
    cond (fails_next world) (Err Failed, record (read_failed world) { reading = None }) (after_search name world (file_of world.files name))

-- the piece that `next_piece` gives to a buffer of this size
abbrev pub piece_of : ℕ → Memory → List ℕ
piece_of size world = take (min world.piece size) (option_map_or (left_of world.files) world.reading [])

-- the opened file after so many more bytes were given
abbrev pub moved_on : ℕ → Opened → Opened
moved_on count opened = record opened { offset = opened.offset + count }

-- `next_piece`: the answer, the buffer and the world
abbrev pub after_piece : List ℕ → Memory → List ℕ → Result ℕ WorldError × List ℕ × Memory
after_piece into world piece = (
  Ok (length piece),
  piece ++ drop (length piece) into,
  record (called world) {
    reading = option_map (moved_on (length piece)) world.reading;
    given = raised world.given (length piece);
  },
)

-- what reading a piece answers, the buffer, and the world after it
abbrev pub after_next : List ℕ → Memory → Result ℕ WorldError × List ℕ × Memory
after_next into world =
    cond (fails_next world) (Err Failed, into, read_failed world) (after_piece into world (piece_of (length into) world))

-- `begin_file`
abbrev pub after_begin : List ℕ → Memory → After
after_begin name world =
    cond (fails_next world) (Err Failed, record (write_failed world) { writing = None }) (
      Ok tt,
      record (called world) {
        writing = Some name;
        files = with_file (record { name = name; bytes = []; begun = true }) world.files;
      },
    )

-- the files with these bytes appended to the one that is being written
abbrev pub added_to : Option (List ℕ) → List ℕ → List File → List File
added_to None bytes files = files
added_to (Some name) bytes files =
    option_map_or (λ file. with_file (record file { bytes = file.bytes ++ bytes }) files) (file_of files name) files

-- the world with these bytes added to the file that is being written
abbrev pub with_added : List ℕ → Memory → Memory
with_added bytes world = record world { files = added_to world.writing bytes world.files }

-- `add`
abbrev pub after_add : List ℕ → Memory → After
after_add bytes world =
    cond (fails_next world) (Err Failed, with_added (half_of bytes) (write_failed world)) (Ok tt, with_added bytes (called world))

-- the bytes printed
abbrev pub with_printed : List ℕ → Memory → Memory
with_printed bytes world = record world { printed = world.printed ++ bytes }

-- `print`
abbrev pub after_print : List ℕ → Memory → After
after_print bytes world =
    cond (fails_next world) (Err Failed, with_printed (half_of bytes) (write_failed world)) (Ok tt, with_printed bytes (called world))
