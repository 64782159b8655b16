-- What a memory world tells, after what its calls do exactly.

use Rattle.std.proofs.Common.{◌≡◌, ◌≢◌, ◌⊎◌, ℕ, ◌/◌, ◌<◌, min, Bool, true, false, cond, List, [], ◌∷◌, ◌++◌, length, take, drop, Option, None, Some, option_map, Result, Ok, Err, OnOk, IfOk, OnErr, IfSome, is_some, refl, sym, subst, ◌∙◌, ap, arith, inl, inr, append-nil, length-append}
use Rattle.std.specs.Prelude.{option_and_then}
use Rattle.std.specs.Option.{option_map_or}
use Rattle.std.specs.Str.{bytes_eq}
use Rattle.std.proofs.lemmas.Slice.Eq.{bytes_eq-Decides}
use Rattle.std.proofs.Math.Seq.{take-length}
use Rattle.ba_world.specs.declared.world.WorldError.{WorldError}
use Rattle.ba_world.specs.declared.world.WorldError.TheVariants.{Failed, Memory as NoMemory}
use Rattle.ba_world.specs.World.{Consumes, GivesNone, GivesPiece, IsBegun, IsOpened, WritesNone, Appends, AppendsPrefix, StaysButWritten}
use Rattle.ba_world.specs.Memory.{File, Opened, Memory, After, file_of, bytes_of, moved_on, kept_of, kept_in, held_in, left_of, with_file, added_to, half_of, with_added, called, write_failed, print_short, with_printed, fails_next, piece_of, after_piece, read_failed, after_next, after_open, after_search, outside_of}
use Rattle.ba_world.proofs.Files.{bytes_eq_self, bytes_eq_other, Consumes-piece}

-- the file found has the name
pub file_of-name : (files : List File) (name : List ℕ) (file : File) → file_of files name ≡ Some file →
    file.name ≡ name
file_of-name [] name file found = cc
file_of-name (first ∷ files) name file found =
    go (bytes_eq first.name name) (bytes_eq-Decides first.name name).0 (file_of-name files name file) found
  where
    go : (test : Bool) → (test ≡ true → first.name ≡ name) →
        (file_of files name ≡ Some file → file.name ≡ name) → cond test (Some first)
        (file_of files name) ≡ Some file → file.name ≡ name
    go true same later e = ap (λ o. option_map_or (λ (f : File). f.name) o []) (sym e) ∙ same refl
    go false same later e = later e

-- the file put is the one of its name
pub file_of-with_file : (new : File) (files : List File) → file_of (with_file new files) new.name ≡ Some new
file_of-with_file new [] = rw (bytes_eq_self new.name) refl
file_of-with_file new (first ∷ files) = go (bytes_eq first.name new.name) refl (file_of-with_file new files)
  where
    go : (test : Bool) → bytes_eq first.name new.name ≡ test →
        file_of (with_file new files) new.name ≡ Some new →
        file_of (cond test (new ∷ files) (first ∷ with_file new files)) new.name ≡ Some new
    go true e later = rw (bytes_eq_self new.name) refl
    go false e later = rw e later

-- the other files stay
pub file_of-with_file_other : (new : File) (files : List File) (other : List ℕ) → other ≢ new.name →
    file_of (with_file new files) other ≡ file_of files other
file_of-with_file_other new [] other apart = rw (bytes_eq_other new.name other (λ e. apart (sym e))) refl
file_of-with_file_other new (first ∷ files) other apart =
    go (bytes_eq first.name new.name) (bytes_eq-Decides first.name new.name).0 (file_of-with_file_other new files other apart)
  where
    different : bytes_eq new.name other ≡ false
    different = bytes_eq_other new.name other (λ e. apart (sym e))

    go : (test : Bool) → (test ≡ true → first.name ≡ new.name) →
        file_of (with_file new files) other ≡ file_of files other →
        file_of (cond test (new ∷ files) (first ∷ with_file new files)) other ≡ file_of (first ∷ files) other
    go true same later = rw (different, same refl, different) refl
    go false same later = rw later refl

-- the file that `begin_file` makes
abbrev pub empty_file : List ℕ → File
empty_file name = record { name = name; bytes = []; begun = true }

-- how a call that writes ends: without memory, failing, or well
pub data Ending (result : Result (Unit {0}) WorldError) (new none failed done : Memory) : Type 0 where
  without : result ≡ Err NoMemory → new ≡ none → Ending result new none failed done
  fails : result ≡ Err Failed → new ≡ failed → Ending result new none failed done
  ends : result ≡ Ok tt → new ≡ done → Ending result new none failed done

pub ending : (result : Result (Unit {0}) WorldError) (new none failed done : Memory) (test : Bool) →
    (result ≢ Err NoMemory → ◌≡◌ {A = After} (result, new) (cond test (Err Failed, failed) (Ok tt, done))) →
    (result ≡ Err NoMemory → new ≡ none) → Ending result new none failed done
ending (Err NoMemory) new none failed done test exactly memory = without refl (memory refl)
ending (Err Failed) new none failed done true exactly memory = fails refl (ap (λ (p : After). p.1) (exactly (λ h. cc)))
ending (Err Failed) new none failed done false exactly memory = let e : Err Failed ≡ Ok tt = ap (λ (p : After). p.0) (exactly (λ h. cc)) in cc
ending (Ok x) new none failed done true exactly memory = let e : Ok x ≡ Err Failed = ap (λ (p : After). p.0) (exactly (λ h. cc)) in cc
ending (Ok x) new none failed done false exactly memory = ends refl (ap (λ (p : After). p.1) (exactly (λ h. cc)))

-- what `print` leaves is a prefix after what was there
pub printed_prefix : (result : Result (Unit {0}) WorldError) (bytes : List ℕ) (old new : Memory) →
    Ending result new (print_short old) (with_printed (half_of bytes) (write_failed old))
    (with_printed bytes (called old)) → AppendsPrefix (Some old.printed) (Some new.printed) bytes
printed_prefix result bytes old new (without e is) = (0, ap (λ (m : Memory). Some m.printed) is ∙ ap Some (sym (append-nil old.printed)))
printed_prefix result bytes old new (fails e is) = (length bytes / 2, ap (λ (m : Memory). Some m.printed) is)
printed_prefix result bytes old new (ends e is) = (length bytes, ap (λ (m : Memory). Some m.printed) is ∙ ap (λ part. Some (old.printed ++ part)) (sym (take-length bytes)))

-- what is told of a file that stays
pub held_in-same : (files after : List File) (name : List ℕ) → file_of after name ≡ file_of files name →
    held_in after name ≡ held_in files name
held_in-same files after name same = ap (λ found. Some (option_map (λ (file : File). file.bytes) found)) same

pub kept_in-same : (files after : List File) (name : List ℕ) → file_of after name ≡ file_of files name →
    kept_in after name ≡ kept_in files name
kept_in-same files after name same = ap (λ found. option_and_then kept_of found) same

-- what the file being written keeps
pub kept-added_to : (name part : List ℕ) (files : List File) →
    option_and_then kept_of (file_of (added_to (Some name) part files) name) ≡ option_map (λ text. text ++ part)
    (kept_in files name)
kept-added_to name part files = go (file_of files name) refl
  where
    put : (file : File) (begun : Bool) → file.name ≡ name → file.begun ≡ begun →
        option_and_then kept_of (file_of (with_file (record file { bytes = file.bytes ++ part }) files) name) ≡ option_map (λ text. text ++ part)
        (kept_of file)
    put file true same e = rw (← same) (rw (file_of-with_file (record file { bytes = file.bytes ++ part }) files) (rw e refl))
    put file false same e = rw (← same) (rw (file_of-with_file (record file { bytes = file.bytes ++ part }) files) (rw e refl))

    go : (found : Option File) → file_of files name ≡ found →
        option_and_then kept_of (file_of (option_map_or (λ file. with_file (record file { bytes = file.bytes ++ part }) files) found files) name) ≡ option_map (λ text. text ++ part)
        (option_and_then kept_of found)
    go None e = rw e refl
    go (Some file) e = put file file.begun (file_of-name files name file e) refl

-- the other files stay
pub file_of-added_to_other : (name part : List ℕ) (files : List File) (other : List ℕ) → other ≢ name →
    file_of (added_to (Some name) part files) other ≡ file_of files other
file_of-added_to_other name part files other apart = go (file_of files name) refl
  where
    go : (found : Option File) → file_of files name ≡ found →
        file_of (option_map_or (λ file. with_file (record file { bytes = file.bytes ++ part }) files) found files) other ≡ file_of files other
    go None e = refl
    go (Some file) e = file_of-with_file_other (record file { bytes = file.bytes ++ part }) files other (λ h. apart (h ∙ file_of-name files name file e))

-- what was added to the file being written is a prefix of the bytes
pub added_prefix : (writing : Option (List ℕ)) (bytes : List ℕ) (files after : List File) →
    ((count : ℕ) × (after ≡ added_to writing (take count bytes) files)) ⊎ (after ≡ files) →
    IfSome writing (λ name. AppendsPrefix (kept_in files name) (option_and_then kept_of (file_of after name)) bytes)
added_prefix None bytes files after grown = tt
added_prefix (Some name) bytes files after (inl (count, is)) = (count, rw is (kept-added_to name (take count bytes) files))
added_prefix (Some name) bytes files after (inr is) = (0, rw is (appends_none (kept_in files name)))
  where
    appends_none : (text : Option (List ℕ)) → text ≡ option_map (λ t. t ++ []) text
    appends_none None = refl
    appends_none (Some t) = ap Some (sym (append-nil t))

-- the files after `add`
pub files-after_add : (result : Result (Unit {0}) WorldError) (bytes : List ℕ) (old new : Memory) →
    Ending result new (called old) (with_added (half_of bytes) (write_failed old))
    (with_added bytes (called old)) →
    ((count : ℕ) × (new.files ≡ added_to old.writing (take count bytes) old.files)) ⊎ (new.files ≡ old.files)
files-after_add result bytes old new (without e is) = inr (ap (λ (m : Memory). m.files) is)
files-after_add result bytes old new (fails e is) = inl (length bytes / 2, ap (λ (m : Memory). m.files) is)
files-after_add result bytes old new (ends e is) =
    inl (length bytes, ap (λ (m : Memory). m.files) is ∙ ap (λ part. added_to old.writing part old.files) (sym (take-length bytes)))

-- the other files stay in `add`
pub others-after_add : (writing : Option (List ℕ)) (bytes : List ℕ) (files after : List File) →
    ((count : ℕ) × (after ≡ added_to writing (take count bytes) files)) ⊎ (after ≡ files) → (other : List ℕ) →
    writing ≢ Some other → file_of after other ≡ file_of files other
others-after_add None bytes files after (inl (count, is)) other apart = rw is refl
others-after_add (Some name) bytes files after (inl (count, is)) other apart =
    rw is (file_of-added_to_other name (take count bytes) files other (λ e. apart (ap Some (sym e))))
others-after_add writing bytes files after (inr is) other apart = rw is refl

-- what `add` appends if it ends well
pub added_whole : (result : Result (Unit {0}) WorldError) (bytes : List ℕ) (old new : Memory) →
    Ending result new (called old) (with_added (half_of bytes) (write_failed old))
    (with_added bytes (called old)) →
    OnOk result (IfSome old.writing (λ name. Appends (kept_in old.files name) (kept_in new.files name) bytes))
added_whole result bytes old new (without e is) = rw e tt
added_whole result bytes old new (fails e is) = rw e tt
added_whole result bytes old new (ends e is) = rw e (go old.writing new.files (ap (λ (m : Memory). m.files) is))
  where
    go : (writing : Option (List ℕ)) (after : List File) → after ≡ added_to writing bytes old.files →
        IfSome writing (λ name. Appends (kept_in old.files name) (kept_in after name) bytes)
    go None after same = tt
    go (Some name) after same = rw same (kept-added_to name bytes old.files)

-- if the other files stay, what is held stays except for the one being written
pub held_in-written : (writing : Option (List ℕ)) (files after : List File) →
    ((other : List ℕ) → writing ≢ Some other → file_of after other ≡ file_of files other) →
    StaysButWritten writing (held_in files) (held_in after)
held_in-written writing files after stay = λ other apart. held_in-same files after other (stay other apart)

-- the files after `begin_file`
pub files-after_begin : (result : Result (Unit {0}) WorldError) (name : List ℕ) (old new : Memory)
    (none failed done : Memory) → Ending result new none failed done → none.files ≡ old.files →
    failed.files ≡ old.files → done.files ≡ with_file (empty_file name) old.files → (other : List ℕ) →
    other ≢ name → file_of new.files other ≡ file_of old.files other
files-after_begin result name old new none failed done (without e is) a b c other apart = rw (is, a) refl
files-after_begin result name old new none failed done (fails e is) a b c other apart = rw (is, b) refl
files-after_begin result name old new none failed done (ends e is) a b c other apart =
    rw (is, c) (file_of-with_file_other _ old.files other apart)

-- the file that `begin_file` makes is the one being written, and after a refusal none is
pub begun_file : (result : Result (Unit {0}) WorldError) (name : List ℕ) (old new : Memory)
    (none failed done : Memory) → Ending result new none failed done →
    done.files ≡ with_file (empty_file name) old.files → done.writing ≡ Some name →
    OnOk result (IsBegun name (outside_of new))
begun_file result name old new none failed done (without e is) made written = rw e tt
begun_file result name old new none failed done (fails e is) made written = rw e tt
begun_file result name old new none failed done (ends e is) made written =
    rw e (subst (λ (m : Memory). IsBegun name (outside_of m)) (sym is) (record {
      begun = rw written refl;
      empty = rw (made, file_of-with_file (empty_file name) old.files) refl;
      named = rw written refl;
      told = λ any there. written;
    }))

pub writes_none : (result : Result (Unit {0}) WorldError) (name : List ℕ)
    (old new none failed done : Memory) →
    Ending result new none failed done → none.writing ≡ None → failed.writing ≡ None →
    none.files ≡ old.files → failed.files ≡ old.files →
    OnErr result (WritesNone name (outside_of old) (outside_of new))
writes_none result name old new none failed done (without e is) of_none of_failed same same_failed =
    rw e (subst (λ (m : Memory). WritesNone name (outside_of old) (outside_of m)) (sym is) (record {
      closed = rw of_none refl;
      unnamed = of_none;
      kept = inl (ap (λ files. kept_in files name) same);
    }))
writes_none result name old new none failed done (fails e is) of_none of_failed same same_failed =
    rw e (subst (λ (m : Memory). WritesNone name (outside_of old) (outside_of m)) (sym is) (record {
      closed = rw of_failed refl;
      unnamed = of_failed;
      kept = inl (ap (λ files. kept_in files name) same_failed);
    }))
writes_none result name old new none failed done (ends e is) of_none of_failed same same_failed = rw e tt

-- the file that `open_file` opens
pub after_open-opened : (name : List ℕ) (old : Memory) (end : After) → end ≡ after_open name old →
    OnOk end.0 (IsOpened name (outside_of old) (outside_of end.1))
after_open-opened name old end is = subst opens (sym is) (go (fails_next old))
  where
    opens : After → Type 0
    opens end = OnOk end.0 (IsOpened name (outside_of old) (outside_of end.1))

    found_file : (found : Option File) → file_of old.files name ≡ found → opens (after_search name old found)
    found_file None e = tt
    found_file (Some file) e = record { reading = refl; whole = rw e refl }

    go : (test : Bool) →
        opens (cond test (Err Failed, record (read_failed old) { reading = None }) (after_search name old (file_of old.files name)))
    go true = tt
    go false = found_file (file_of old.files name) refl

-- what a piece of the file being read gives
pub piece-gives : (files : List File) (into : List ℕ) (most : ℕ) (reading : Option Opened) → 0 < most →
    Consumes (length (take most (option_map_or (left_of files) reading [])))
    (take most (option_map_or (left_of files) reading []) ++ drop (length (take most (option_map_or (left_of files) reading []))) into)
    (option_map (left_of files) reading)
    (option_map (left_of files) (option_map (moved_on (length (take most (option_map_or (left_of files) reading [])))) reading))
piece-gives files into most None some = refl
piece-gives files into most (Some opened) some = Consumes-piece (bytes_of files opened.name) into opened.offset most some

-- what `next_piece` gives
pub after_next-gives : (into : List ℕ) (old : Memory) (end : Result ℕ WorldError × List ℕ × Memory) →
    end ≡ after_next into old → 0 < length into → 0 < old.piece →
    IfOk end.0 (λ count. GivesPiece count end.1 (outside_of old) (outside_of end.2))
after_next-gives into old end is room some = subst gives (sym is) (go (fails_next old))
  where
    gives : Result ℕ WorldError × List ℕ × Memory → Type 0
    gives end = IfOk end.0 (λ count. GivesPiece count end.1 (outside_of old) (outside_of end.2))

    go : (test : Bool) →
        gives (cond test (Err Failed, into, read_failed old) (after_piece into old (piece_of (length into) old)))
    go true = tt
    go false = record {
      within =
          omega (arith, length-append (piece_of (length into) old) (drop (length (piece_of (length into) old)) into));
      bytes = piece-gives old.files into (min old.piece (length into)) old.reading (omega arith);
      counted = refl;
    }

-- after a refusal of `next_piece` no byte was given
pub after_next-none : (into : List ℕ) (old : Memory) (end : Result ℕ WorldError × List ℕ × Memory) →
    end ≡ after_next into old → OnErr end.0 (GivesNone (outside_of old) (outside_of end.2))
after_next-none into old end is = subst gives (sym is) (go (fails_next old))
  where
    gives : Result ℕ WorldError × List ℕ × Memory → Type 0
    gives end = OnErr end.0 (GivesNone (outside_of old) (outside_of end.2))

    go : (test : Bool) →
        gives (cond test (Err Failed, into, read_failed old) (after_piece into old (piece_of (length into) old)))
    go true = record { left = refl; given = refl }
    go false = tt

-- the file being read is still read
pub after_next-still : (into : List ℕ) (old : Memory) (end : Result ℕ WorldError × List ℕ × Memory) →
    end ≡ after_next into old → is_some old.reading ≡ true → is_some end.2.reading ≡ true
after_next-still into old end is reading = subst reads (sym is) (go (fails_next old))
  where
    reads : Result ℕ WorldError × List ℕ × Memory → Type 0
    reads end = is_some end.2.reading ≡ true

    moved : (count : ℕ) (opened : Option Opened) → is_some opened ≡ true →
        is_some (option_map (moved_on count) opened) ≡ true
    moved count None h = h
    moved count (Some opened) h = refl

    go : (test : Bool) →
        reads (cond test (Err Failed, into, read_failed old) (after_piece into old (piece_of (length into) old)))
    go true = reading
    go false = moved (length (piece_of (length into) old)) old.reading reading
