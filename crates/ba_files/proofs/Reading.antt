-- One file more of a list is read, or isn't.

use Rattle.std.proofs.Common.{◌≡◌, inl, inr, Bool, false, if◌then◌else◌, Option, None, Some, Result, Ok, Err, ℕ, zero, suc, ◌+◌, ◌<◌, List, [], ◌∷◌, ◌++◌, length, get_or, take, refl, sym, subst, arith}
use Rattle.std.specs.Result.{is_err, is_ok}
use Rattle.std.proofs.lemmas.List.{take_more}
use Rattle.ba_commands.specs.Modes.{Word}
use Rattle.ba_world.specs.World.{Outside}
use Rattle.ba_world.specs.declared.read.ReadFileError.{ReadFileError}
use Rattle.ba_world.specs.declared.read.ReadFileError.TheVariants as read
use Rattle.ba_files.specs.Files.{AreRead, IsReadIfNamed, IsUnreadIfNamed, StopsAt}
use Rattle.ba_files.specs.declared.files.Named.{Named}

read_behind : (files : List Named) (file : Named) (texts : List (List ℕ)) (text : List ℕ)
    (before mid after : Outside) → AreRead files texts before mid → IsReadIfNamed file.name text mid after
    → AreRead (files ++ file ∷ []) (texts ++ text ∷ []) before after
read_behind [] file [] text before mid after same one =
    (after, subst (λ o. IsReadIfNamed file.name text o after) same one, refl)
read_behind [] file (other ∷ texts) text before mid after never one = absurd never
read_behind (first ∷ files) file [] text before mid after never one = absurd never
read_behind (first ∷ files) file (other ∷ texts) text before mid after (next, first_read, rest) one =
    (next, first_read, read_behind files file texts text next mid after rest one)

-- the first files of a list were read, and so was the next
pub read_more : (files : List Named) (count : ℕ) (file : Named) (texts now : List (List ℕ)) (text : List ℕ)
    (before mid after : Outside) → count < length files → file ≡ get_or files count file →
    AreRead (take count files) texts before mid → IsReadIfNamed file.name text mid after
    → now ≡ texts ++ text ∷ [] → AreRead (take (count + 1) files) now before after
read_more files count file texts now text before mid after within is so_far one same =
    subst (λ files. AreRead files now before after) (sym (take_more files count file within))
    (subst (λ file. AreRead (take count files ++ file ∷ []) now before after) is
    (subst (λ texts. AreRead (take count files ++ file ∷ []) texts before after) (sym same)
    (read_behind (take count files) file texts text before mid after so_far one)))

-- and the next was not
pub stops_next : (files : List Named) (count : ℕ) (file : Named) (texts : List (List ℕ)) (which : _)
    (error : ReadFileError) (before mid after : Outside) → count < length files →
    file ≡ get_or files count file → AreRead (take count files) texts before mid → which ≡ file.file →
    IsUnreadIfNamed file.name error mid after → StopsAt which error files before after
stops_next [] count file texts which error before mid after within is read at one = absurd (omega arith)
stops_next (first ∷ files) zero file [] which error before mid after within is same at one =
    let here : first ≡ file = sym is in
    inl (
      subst (λ f. which ≡ f.file) (sym here) at,
      subst (λ f. IsUnreadIfNamed f.name error before after) (sym here)
          (subst (λ o. IsUnreadIfNamed file.name error o after) same one),
    )
stops_next (first ∷ files) zero file (text ∷ texts) which error before mid after within is never at one =
    absurd never
stops_next (first ∷ files) (suc count) file [] which error before mid after within is never at one =
    absurd never
stops_next (first ∷ files) (suc count) file (text ∷ texts) which error before mid after within is
    (next, first_read, rest) at one =
    inr (
      text,
      next,
      first_read,
      stops_next files count file texts which error next mid after (omega arith) is rest at one,
    )

-- no memory is a reason at any file
pub short_of_memory : (name : Option Word) (old new : Outside) → IsUnreadIfNamed name read.Memory old new
short_of_memory None old new = refl
short_of_memory (Some name) old new = tt

-- a text that was added, if no error came
pub text_added : {T E : Type 0} (r : Result T E) (failed : Bool) (old other now : List (List ℕ))
    (text : List ℕ) → failed ≡ is_err r → failed ≡ false → now ≡ (if is_ok r then old ++ text ∷ [] else other)
    → now ≡ old ++ text ∷ []
text_added (Ok done) failed old other now text is no_error e = e
text_added (Err error) failed old other now text is no_error e = absurd (cc)
