-- What a read of a whole file has come to.

use Rattle.std.specs.Prelude.{◌≡◌, ◌⊎◌, ℕ, ◌+◌, ◌<◌, ◌≤◌, true, false, List, [], ◌++◌, length, None, Some, IfSome, option_map}
use Rattle.ba_world.specs.World.{HasReadFault, Outside, raised}
use Rattle.ba_world.specs.declared.world.WorldError.{WorldError}
use Rattle.ba_world.specs.declared.world.WorldError.TheVariants.{Failed, Memory}
use Rattle.ba_world.specs.declared.read.ReadFileError.{ReadFileError}
use Rattle.ba_world.specs.declared.read.ReadFileError.TheVariants as read

-- each fault by its name
abbrev pub read_error : WorldError → ReadFileError
read_error Failed = read.Failed
read_error Memory = read.Memory

-- a count rose by exactly this much; at its type's end it may stay the same
abbrev pub RoseBy : ℕ → ℕ → ℕ → Type 0
RoseBy by old new = (raised old by ≤ new) × (new ≤ old + by)

-- how many bytes are read at a time
abbrev pub piece_size : ℕ
piece_size = 4096

-- The file of this name was read up to here: it is being read, and the bytes given and those left make it up.
pub record IsReadTo (name bytes : List ℕ) (old new : Outside) : Type 0 where
  pub reading : new.is_reading ≡ true
  pub parts : old.held name ≡ option_map (λ rest. Some (bytes ++ rest)) new.left
  pub counted : RoseBy (length bytes) old.given new.given

-- The file of this name was read to its end: these are its bytes, if they are told, and nothing is left.
pub record IsReadWhole (name bytes : List ℕ) (old new : Outside) : Type 0 where
  pub reading : new.is_reading ≡ true
  pub bytes_are : IfSome (old.held name) (λ file. file ≡ Some bytes)
  pub at_end : IfSome new.left (λ rest. rest ≡ [])
  pub counted : new.given ≡ raised old.given (length bytes)

-- A read of the file of this name stopped in opening it, since a fault rose or there is no such file. No file
-- is being read, and no byte was given.
pub record StoppedInOpening (name : List ℕ) (old new : Outside) : Type 0 where
  pub cause : HasReadFault old new ⊎ (old.held name ≡ Some None)
  pub closed : new.is_reading ≡ false
  pub none_given : new.given ≡ old.given

-- A read stopped by a fault of reading. At most as many bytes as the limit had been given.
pub record StoppedInReading (name : List ℕ) (limit : ℕ) (old new : Outside) : Type 0 where
  pub bytes : List ℕ
  pub read : IsReadTo name bytes old new
  pub within : length bytes ≤ limit
  pub cause : HasReadFault old new

-- A read stopped by a fault, or since there is no such file.
abbrev pub Stopped : List ℕ → ℕ → Outside → Outside → Type 0
Stopped name limit old new = StoppedInOpening name old new ⊎ StoppedInReading name limit old new

-- A read stopped with the piece that passed the limit.
pub record StoppedPast (name : List ℕ) (limit : ℕ) (old new : Outside) : Type 0 where
  pub bytes : List ℕ
  pub read : IsReadTo name bytes old new
  pub longer : limit < length bytes
  pub last : length bytes ≤ limit + piece_size
