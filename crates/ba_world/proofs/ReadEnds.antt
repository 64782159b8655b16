-- How a read of a whole file begins, goes on and ends, with all that `read_whole` says of it.

use Rattle.std.proofs.Common.{◌≡◌, ◌⊎◌, inl, inr, ℕ, ◌+◌, ◌-◌, ◌^◌, ◌<◌, ◌≤◌, min, true, false, List, [], ◌++◌, length, take, drop, Option, None, Some, IfSome, option_map, Result, Ok, Err, IfOk, Vec, Global, refl, sym, ap, subst, ◌∙◌, append-nil, arith}
use Rattle.std.specs.Result.{IsErrAnd}
use Rattle.std.proofs.Math.Seq.{drop-nil}
use Rattle.ba_world.specs.World.{Consumes, GivesNone, GivesPiece, HasReadFault, IsOpened, OnlyReads, Outside}
use Rattle.ba_world.specs.Read.{IsReadTo, IsReadWhole, RoseBy, Stopped, StoppedPast, piece_size, read_error}
use Rattle.ba_world.specs.declared.world.WorldError.{WorldError}
use Rattle.ba_world.specs.declared.world.WorldError.TheVariants.{Failed, Memory}
use Rattle.ba_world.specs.declared.read.ReadFileError.{ReadFileError}
use Rattle.ba_world.specs.declared.read.ReadFileError.TheVariants as read
use Rattle.ba_world.proofs.WholeReads.{longer_by, only_reads_on, read_on, read_past, rose_since}

-- what precedes and after each piece
abbrev pub Reading : List ℕ → List ℕ → ℕ → Outside → Outside → Type 0
Reading name bytes limit old new = record {
  read : IsReadTo name bytes old new;
  within : length bytes ≤ limit;
  stays : OnlyReads old new;
}

-- what the clauses of `read_whole` say of a result
abbrev pub Ended : List ℕ → ℕ → Result (Vec ℕ Global) ReadFileError → Outside → Outside → Type 0
Ended name limit result old new = record {
  whole : IfOk result (λ bytes. IsReadWhole name bytes.items old new);
  within : IfOk result (λ bytes. length bytes.items ≤ limit);
  cause : result ≡ Err read.Failed → HasReadFault old new ⊎ (old.held name ≡ Some None);
  stopped : result ≡ Err read.Failed → Stopped name limit old new;
  too_long : result ≡ Err read.TooLong → StoppedPast name limit old new;
  only_too_long : old.given + limit < new.given → result ≡ Err read.TooLong;
  stops : new.given ≤ old.given + limit + piece_size;
  stays : OnlyReads old new;
}

-- the file was opened
pub reading_opened : (name bytes : List ℕ) (limit : ℕ) (old new : Outside) → bytes ≡ [] →
    IsOpened name old new → new.given ≡ old.given → OnlyReads old new → Reading name bytes limit old new
reading_opened name bytes limit old new empty opened given stays = record {
  read = subst (λ bytes. IsReadTo name bytes old new) (sym empty) (record {
    reading = opened.reading;
    parts = opened.whole;
    counted = rose_by_none (2 ^ 64 - 1) old.given new.given given;
  });
  within = subst (λ (bytes : List ℕ). length bytes ≤ limit) (sym empty) (omega arith);
  stays = stays;
}
  where
    rose_by_none : (top old new : ℕ) → new ≡ old → (min (old + 0) top ≤ new) × (new ≤ old + 0)
    rose_by_none top old new is = (omega arith, omega arith)

-- one more piece came
pub reading_more : (name bytes more buffer : List ℕ) (count limit : ℕ) (old mid new : Outside) →
    more ≡ bytes ++ take count buffer → Reading name bytes limit old mid → GivesPiece count buffer mid new →
    new.is_reading ≡ true → OnlyReads mid new → length bytes + count ≤ limit → Reading name more limit old new
reading_more name bytes more buffer count limit old mid new is reading piece still stays few =
    subst (λ bytes. Reading name bytes limit old new) (sym is) (record {
      read = read_on name bytes buffer count old mid new reading.read piece still;
      within = subst (λ n. n ≤ limit) (sym (longer_by bytes buffer count piece.within)) few;
      stays = only_reads_on old mid new reading.stays stays;
    })

-- what is left of the measure falls with a piece
pub falls_more : (bytes more buffer : List ℕ) (count limit : ℕ) → more ≡ bytes ++ take count buffer →
    count ≤ length buffer → (count ≡ 0 → ⊥) → length bytes + count ≤ limit → limit ≤ 65536 →
    65537 - length more < 65537 - length bytes
falls_more bytes more buffer count limit is room some few most =
    falls (length bytes) (length more) count limit (ap length is ∙ longer_by bytes buffer count room)
    some few most
  where
    falls : (old new count limit : ℕ) → new ≡ old + count → (count ≡ 0 → ⊥) → old + count ≤ limit →
        limit ≤ 65536 → 65537 - new < 65537 - old
    falls old new count limit is some few most = omega arith

-- it ended with an error of the outside, before more bytes than the limit had been given
pub ended_refused : (name : List ℕ) (limit : ℕ) (result : Result (Vec ℕ Global) ReadFileError)
    (cause : WorldError) (old new : Outside) → IsErrAnd result (λ error. error ≡ read_error cause) →
    (cause ≡ Failed → HasReadFault old new ⊎ (old.held name ≡ Some None)) →
    (cause ≡ Failed → Stopped name limit old new) → new.given ≤ old.given + limit → OnlyReads old new →
    Ended name limit result old new
ended_refused name limit (Ok bytes) cause old new is fault stopped few stays = absurd is
ended_refused name limit (Err error) Failed old new is fault stopped few stays = record {
  whole = tt;
  within = tt;
  cause = λ e. fault refl;
  stopped = λ e. stopped refl;
  too_long = λ e. absurd (cc);
  only_too_long = λ more. absurd (omega (arith, few, more));
  stops = omega (arith, few);
  stays = stays;
}
ended_refused name limit (Err error) Memory old new is fault stopped few stays = record {
  whole = tt;
  within = tt;
  cause = λ e. absurd (cc);
  stopped = λ e. absurd (cc);
  too_long = λ e. absurd (cc);
  only_too_long = λ more. absurd (omega (arith, few, more));
  stops = omega (arith, few);
  stays = stays;
}

-- it ended with a refusal to open the file
pub ended_unopened : (name : List ℕ) (limit : ℕ) (result : Result (Vec ℕ Global) ReadFileError)
    (cause : WorldError) (old new : Outside) → IsErrAnd result (λ error. error ≡ read_error cause) →
    (cause ≡ Failed → HasReadFault old new ⊎ (old.held name ≡ Some None)) → new.is_reading ≡ false →
    new.given ≡ old.given → OnlyReads old new → Ended name limit result old new
ended_unopened name limit result cause old new is fault closed given stays =
    ended_refused name limit result cause old new is fault
    (λ e. inl (record { cause = fault e; closed = closed; none_given = given }))
    (omega (arith, given)) stays

-- no more bytes than the limit were given before a piece that wasn't
none_more : (bytes limit old mid new : ℕ) → mid ≤ old + bytes → bytes ≤ limit → new ≡ mid → new ≤ old + limit
none_more bytes limit old mid new most within is = omega arith

-- a read goes on if no byte was given
read_still : (name bytes : List ℕ) (old mid new : Outside) → IsReadTo name bytes old mid → GivesNone mid new →
    new.is_reading ≡ true → IsReadTo name bytes old new
read_still name bytes old mid new read none reading = record {
  reading = reading;
  parts = read.parts ∙ ap (option_map (λ rest. Some (bytes ++ rest))) (sym none.left);
  counted = subst (λ given. RoseBy (length bytes) old.given given) (sym none.given) read.counted;
}

-- it ended with a refusal of a piece
pub ended_unread : (name bytes : List ℕ) (limit : ℕ) (result : Result (Vec ℕ Global) ReadFileError)
    (cause : WorldError) (old mid new : Outside) → IsErrAnd result (λ error. error ≡ read_error cause) →
    Reading name bytes limit old mid → GivesNone mid new → (cause ≡ Failed → HasReadFault mid new) →
    new.is_reading ≡ true → OnlyReads mid new → Ended name limit result old new
ended_unread name bytes limit result cause old mid new is reading none fault still stays =
    let since : HasReadFault mid new → HasReadFault old new =
    λ rose. rose_since old.read_faults mid.read_faults new.read_faults reading.stays.no_fall rose in
    ended_refused name limit result cause old new is (λ e. inl (since (fault e)))
    (λ e. inr (record {
      bytes = bytes;
      read = read_still name bytes old mid new reading.read none still;
      within = reading.within;
      cause = since (fault e);
    }))
    (none_more (length bytes) limit old.given mid.given new.given reading.read.counted.1 reading.within
    none.given)
    (only_reads_on old mid new reading.stays stays)

-- at a piece of no byte the bytes given make up the file, and nothing is left
parts_whole : (bytes buffer : List ℕ) (count : ℕ) (held : Option (Option (List ℕ)))
    (left after : Option (List ℕ)) → held ≡ option_map (λ rest. Some (bytes ++ rest)) left →
    Consumes count buffer left after → count ≡ 0 →
    IfSome held (λ file. file ≡ Some bytes) × IfSome after (λ rest. rest ≡ [])
parts_whole bytes buffer count held None after is none zero = (
  subst (λ held. IfSome held (λ file. file ≡ Some bytes)) (sym is) tt,
  subst (λ after. IfSome after (λ (rest : List ℕ). rest ≡ [])) (sym none) tt,
)
parts_whole bytes buffer count held (Some all) after is (split, rest, empty) zero =
    let nothing : all ≡ [] = empty.0 zero in (
      subst (λ held. IfSome held (λ file. file ≡ Some bytes)) (sym is)
          (ap (λ rest. Some (bytes ++ rest)) nothing ∙ ap Some (append-nil bytes)),
      subst (λ after. IfSome after (λ (rest : List ℕ). rest ≡ [])) (sym rest)
          (ap (drop count) nothing ∙ drop-nil count),
    )

-- the counts after a piece: `top` is the end of the type
counts_whole : (top by count old mid new : ℕ) → min (old + by) top ≤ mid → mid ≤ old + by →
    new ≡ min (mid + count) top → count ≡ 0 → new ≡ min (old + by) top
counts_whole top by count old mid new least most is zero = omega arith

given_most : (top by count old mid new : ℕ) → mid ≤ old + by → new ≡ min (mid + count) top →
    new ≤ old + (by + count)
given_most top by count old mid new most is = omega arith

-- it ended with all bytes
pub ended_whole : (name : List ℕ) (limit : ℕ) (all : Vec ℕ Global) (buffer : List ℕ) (count : ℕ)
    (old mid new : Outside) → Reading name all.items limit old mid → GivesPiece count buffer mid new →
    count ≡ 0 → new.is_reading ≡ true → OnlyReads mid new → Ended name limit (Ok all) old new
ended_whole name limit all buffer count old mid new reading piece zero still stays =
    let parts = parts_whole all.items buffer count (old.held name) mid.left new.left reading.read.parts
    piece.bytes zero in
    let most = given_most (2 ^ 64 - 1) (length all.items) count old.given mid.given new.given
    reading.read.counted.1 piece.counted in
    let within = reading.within in
    record {
      whole = record {
        reading = still;
        bytes_are = parts.0;
        at_end = parts.1;
        counted =
            counts_whole (2 ^ 64 - 1) (length all.items) count old.given mid.given new.given
            reading.read.counted.0 reading.read.counted.1 piece.counted zero;
      };
      within = within;
      cause = λ e. absurd (cc);
      stopped = λ e. absurd (cc);
      too_long = λ e. absurd (cc);
      only_too_long = λ more. absurd (omega (arith, most, within, zero, more));
      stops = omega (arith, most, within, zero);
      stays = only_reads_on old mid new reading.stays stays;
    }

-- it ended with the piece by which more bytes than the limit had been given
pub ended_past : (name bytes buffer : List ℕ) (count limit : ℕ) (old mid new : Outside) →
    Reading name bytes limit old mid → GivesPiece count buffer mid new → new.is_reading ≡ true →
    OnlyReads mid new → limit < length bytes + count → length buffer ≤ piece_size →
    Ended name limit (Err read.TooLong) old new
ended_past name bytes buffer count limit old mid new reading piece still stays longer room =
    let most = given_most (2 ^ 64 - 1) (length bytes) count old.given mid.given new.given
    reading.read.counted.1 piece.counted in
    let within = reading.within in
    let few = piece.within in
    record {
      whole = tt;
      within = tt;
      cause = λ e. absurd (cc);
      stopped = λ e. absurd (cc);
      too_long = λ e.
          read_past name bytes buffer count limit old mid new reading.read piece still within longer room;
      only_too_long = λ more. refl;
      stops = omega (arith, most, within, few, room);
      stays = only_reads_on old mid new reading.stays stays;
    }

-- it ended with out of memory for a piece
pub ended_short : (name bytes buffer : List ℕ) (count limit : ℕ)
    (result : Result (Vec ℕ Global) ReadFileError) (old mid new : Outside) →
    IsErrAnd result (λ error. error ≡ read.Memory) → Reading name bytes limit old mid →
    GivesPiece count buffer mid new → OnlyReads mid new → length bytes + count ≤ limit →
    Ended name limit result old new
ended_short name bytes buffer count limit result old mid new is reading piece stays few =
    let most = given_most (2 ^ 64 - 1) (length bytes) count old.given mid.given new.given
    reading.read.counted.1 piece.counted in
    ended_refused name limit result Memory old new is (λ e. absurd (cc)) (λ e. absurd (cc))
    (omega (arith, most, few)) (only_reads_on old mid new reading.stays stays)
