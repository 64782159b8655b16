-- How a read of a whole file goes on, and stops past the limit.

use Rattle.std.proofs.Common.{◌≡◌, ◌⊎◌, inl, inr, ℕ, ◌+◌, ◌-◌, ◌^◌, ◌<◌, ◌≤◌, min, true, List, ◌++◌, length, take, drop, Option, None, Some, IfSome, option_map, IsSomeAnd, refl, sym, ap, subst, ◌∙◌, append_assoc, length-append, length-take-le, arith}
use Rattle.ba_world.specs.World.{Consumes, GivesPiece, OnlyReads, Outside, Rose}
use Rattle.ba_world.specs.Read.{IsReadTo, RoseBy, StoppedPast, piece_size}

-- only reading goes on from one moment to a later one, and from there to one still later
pub only_reads_none : (outside : Outside) → OnlyReads outside outside
only_reads_none outside = record {
  no_fall = omega arith;
  held = refl;
  kept = refl;
  writing = refl;
  printed = refl;
  is_writing = refl;
  write_faults = refl;
  print_shortages = refl;
}

pub only_reads_on : (old mid new : Outside) → OnlyReads old mid → OnlyReads mid new → OnlyReads old new
only_reads_on old mid new before after = record {
  no_fall = omega arith;
  held = after.held ∙ before.held;
  kept = after.kept ∙ before.kept;
  writing = after.writing ∙ before.writing;
  printed = after.printed ∙ before.printed;
  is_writing = after.is_writing ∙ before.is_writing;
  write_faults = after.write_faults ∙ before.write_faults;
  print_shortages = after.print_shortages ∙ before.print_shortages;
}

-- a count that rose since a later moment rose since an earlier one
pub rose_since : (earlier old new : ℕ) → earlier ≤ old → Rose old new → Rose earlier new
rose_since earlier old new no_fall (inl rose) = inl (omega arith)
rose_since earlier old new no_fall (inr top) = inr top

-- a count that is raised further, where `top` is its type's end
rose_on : (top old mid new by count : ℕ) → min (old + by) top ≤ mid → mid ≤ old + by →
    new ≡ min (mid + count) top → (min (old + (by + count)) top ≤ new) × (new ≤ old + (by + count))
rose_on top old mid new by count least most is = (omega arith, omega arith)

-- the bytes given and those left still make up the file
parts_on : (bytes buffer : List ℕ) (count : ℕ) (held : Option (Option (List ℕ)))
    (left after : Option (List ℕ)) → held ≡ option_map (λ rest. Some (bytes ++ rest)) left →
    Consumes count buffer left after →
    held ≡ option_map (λ rest. Some ((bytes ++ take count buffer) ++ rest)) after
parts_on bytes buffer count held None after is none =
    is ∙ ap (option_map (λ rest. Some ((bytes ++ take count buffer) ++ rest))) (sym none)
parts_on bytes buffer count held (Some all) after is (split, rest, empty) =
    is ∙ ap (λ part. Some (Some (bytes ++ part))) split
    ∙ ap (λ whole. Some (Some whole)) (sym (append_assoc bytes (take count buffer) (drop count all)))
    ∙ ap (option_map (λ rest. Some ((bytes ++ take count buffer) ++ rest))) (sym rest)

-- the length of the bytes given after one more piece
pub longer_by : (bytes buffer : List ℕ) (count : ℕ) → count ≤ length buffer →
    length (bytes ++ take count buffer) ≡ length bytes + count
longer_by bytes buffer count within =
    length-append bytes (take count buffer) ∙ ap (λ n. length bytes + n) (length-take-le count buffer within)

-- a read goes on by a piece
pub read_on : (name bytes buffer : List ℕ) (count : ℕ) (old mid new : Outside) → IsReadTo name bytes old mid →
    GivesPiece count buffer mid new → new.is_reading ≡ true →
    IsReadTo name (bytes ++ take count buffer) old new
read_on name bytes buffer count old mid new read piece reading = record {
  reading = reading;
  parts = parts_on bytes buffer count (old.held name) mid.left new.left read.parts piece.bytes;
  counted =
      subst (λ by. RoseBy by old.given new.given) (sym (longer_by bytes buffer count piece.within))
      (rose_on (2 ^ 64 - 1) old.given mid.given new.given (length bytes) count read.counted.0 read.counted.1 piece.counted);
}

-- it comes past the limit by a piece
pub read_past : (name bytes buffer : List ℕ) (count limit : ℕ) (old mid new : Outside) →
    IsReadTo name bytes old mid → GivesPiece count buffer mid new → new.is_reading ≡ true →
    length bytes ≤ limit → limit < length bytes + count → length buffer ≤ piece_size →
    StoppedPast name limit old new
read_past name bytes buffer count limit old mid new read piece reading within longer room =
    let long = longer_by bytes buffer count piece.within in
    let few = piece.within in
    record {
      bytes = bytes ++ take count buffer;
      read = read_on name bytes buffer count old mid new read piece reading;
      longer = omega (arith, long);
      last = omega (arith, long, few);
    }

-- A FILE PAST THE LIMIT is longer than it, and more bytes than the limit were given

longer_held : (bytes : List ℕ) (limit : ℕ) (held : Option (Option (List ℕ))) (left : Option (List ℕ)) →
    held ≡ option_map (λ rest. Some (bytes ++ rest)) left → limit < length bytes →
    IfSome held (λ file. IsSomeAnd file (λ all. limit < length all))
longer_held bytes limit held None is longer =
    subst (λ held. IfSome held (λ file. IsSomeAnd file (λ all. limit < length all))) (sym is) tt
longer_held bytes limit held (Some rest) is longer =
    subst (λ held. IfSome held (λ file. IsSomeAnd file (λ all. limit < length all))) (sym is) (omega (arith, length-append bytes rest))

pub past_longer : (name : List ℕ) (limit : ℕ) (old new : Outside) → StoppedPast name limit old new →
    IfSome (old.held name) (λ file. IsSomeAnd file (λ all. limit < length all))
past_longer name limit old new past =
    longer_held past.bytes limit (old.held name) new.left past.read.parts past.longer

pub past_given : (name : List ℕ) (limit : ℕ) (old new : Outside) → StoppedPast name limit old new →
    Rose (old.given + limit) new.given
past_given name limit old new past =
    rose_past (2 ^ 64 - 1) old.given new.given limit (length past.bytes) past.read.counted.0 past.longer
  where
    rose_past : (top old new limit by : ℕ) → min (old + by) top ≤ new → limit < by →
        (old + limit < new) ⊎ (top ≤ new)
    rose_past top old new limit by least longer = grind arith
