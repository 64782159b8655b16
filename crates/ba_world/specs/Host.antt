-- A world over real files and standard output, which tells no content.

use Rattle.std.specs.Prelude.{ℕ, List, take, Option, None, is_some, option_and_then}
use Rattle.std.specs.Io.KnownBytes.{Appends}
use Rattle.ba_world.specs.World.{Outside}

-- what is known of a name, or of bytes
abbrev pub Known : Type 0
Known = Option (List ℕ)

-- an open file: the name by which it was opened or made, and the bytes that it has left or holds
pub record OpenFile : Type 0 where
  pub name : Known
  pub bytes : Known

-- the files being read and written, the output, and the counts of faults
pub record Host : Type 0 where
  pub reading : Option OpenFile
  pub writing : Option OpenFile
  pub output : Known
  pub read_faults : ℕ
  pub write_faults : ℕ
  pub given : ℕ

-- before any call
abbrev pub new_host : Known → Host
new_host output = record { reading = None; writing = None; output = output; read_faults = 0; write_faults = 0; given = 0 }

-- what is known of the name of a file, if it is open
abbrev pub known_name : Option OpenFile → Known
known_name file = option_and_then (λ (file : OpenFile). file.name) file

-- what is known of the bytes of a file, if it is open
abbrev pub known_bytes : Option OpenFile → Known
known_bytes file = option_and_then (λ (file : OpenFile). file.bytes) file

-- some prefix of the bytes was appended to what a file or an output holds, as far as that is known
abbrev pub AppendsPrefix : Known → Known → List ℕ → Type 0
AppendsPrefix old new bytes = (count : ℕ) × Appends old new (take count bytes)

-- what the world tells
abbrev pub outside_of : Host → Outside
outside_of host = record {
  held = λ name. None;
  left = None;
  kept = λ name. None;
  writing = None;
  printed = None;
  is_reading = is_some host.reading;
  is_writing = is_some host.writing;
  read_faults = host.read_faults;
  write_faults = host.write_faults;
  print_shortages = 0;
  given = host.given;
}
