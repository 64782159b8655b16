-- The files of a memory world: a place in the list and a name say the same, since names differ.

use Rattle.std.proofs.Common.{◌≡◌, ◌≢◌, ℕ, zero, suc, ◌+◌, ◌<◌, Bool, true, false, cond, List, [], ◌∷◌, ◌++◌, length, Option, None, Some, option_map, map, slice_index_or, set, take, drop, refl, sym, ◌∙◌, ap, arith}
use Rattle.std.proofs.lemmas.List.{length-map}
use Rattle.std.proofs.Math.Seq.{take-append_seam}
use Rattle.std.proofs.lemmas.Bool.{false≢true}
use Rattle.std.specs.List.{AllPairs}
use Rattle.std.specs.Str.{bytes_eq}
use Rattle.std.proofs.lemmas.Slice.Eq.{bytes_eq-Decides}
use Rattle.std.proofs.lemmas.List.Quantifiers.{all_pairs_push}
use Rattle.std.proofs.lemmas.Grind.{common_steps}
use Rattle.ba_world.specs.declared.memory.ReadPosition.{ReadPosition}
use Rattle.ba_world.specs.World.{Consumes}
use Rattle.ba_world.specs.Memory.{File, Opened, NamesDiffer, file_of, with_file, name_at}

-- a file that is being read
abbrev pub opened : List ℕ → ℕ → Opened
opened name offset = record { name = name; offset = offset }

-- what is past the end
abbrev pub no_file : File
no_file = record { name = []; bytes = []; begun = false }

pub bytes_eq_self : (a : List ℕ) → bytes_eq a a ≡ true
bytes_eq_self a = (bytes_eq-Decides a a).1 refl

pub bytes_eq_other : (a b : List ℕ) → a ≢ b → bytes_eq a b ≡ false
bytes_eq_other a b differ = go (bytes_eq a b) refl
  where
    go : (test : Bool) → bytes_eq a b ≡ test → bytes_eq a b ≡ false
    go false e = e
    go true e = absurd (differ ((bytes_eq-Decides a b).0 e))

-- the other files have different names too
pub NamesDiffer-tail : (file : File) (files : List File) → NamesDiffer (file ∷ files) → NamesDiffer files
NamesDiffer-tail file files differ i j d below within = differ (suc i) (suc j) d (omega arith) (omega arith)

-- no later file has the name of the first
pub NamesDiffer-head : (file : File) (files : List File) (place : ℕ) → NamesDiffer (file ∷ files) → place < length files → bytes_eq file.name (name_at files place) ≡ false
NamesDiffer-head file files place differ within = bytes_eq_other _ _ (differ 0 (suc place) no_file (omega arith) (omega arith))

-- the file at a place is the one of its name
pub file_of-name_at : (files : List File) (place : ℕ) → NamesDiffer files → place < length files → file_of files (name_at files place) ≡ Some (slice_index_or files place no_file)
file_of-name_at [] place differ within = absurd (omega arith)
file_of-name_at (file ∷ files) zero differ within = rw (bytes_eq_self file.name) refl
file_of-name_at (file ∷ files) (suc place) differ within =
    rw (NamesDiffer-head file files place differ (omega arith)) (file_of-name_at files place (NamesDiffer-tail file files differ) (omega arith))

-- a search that found a place found the file there
pub file_of-found : (files : List File) (place : ℕ) (name : List ℕ) → NamesDiffer files → place < length files → name_at files place ≡ name → file_of files name ≡ Some (slice_index_or files place no_file)
file_of-found files place name differ within same = rw (← same) (file_of-name_at files place differ within)

-- a file in place of the one of its name is put at that one's place
pub with_file-set : (new : File) (files : List File) (place : ℕ) → NamesDiffer files → place < length files → name_at files place ≡ new.name → with_file new files ≡ set files place new
with_file-set new [] place differ within same = absurd (omega arith)
with_file-set new (file ∷ files) zero differ within same = rw (same, bytes_eq_self new.name) refl
with_file-set new (file ∷ files) (suc place) differ within same =
    let other : bytes_eq file.name new.name ≡ false = rw (← same) (NamesDiffer-head file files place differ (omega arith)) in
    rw other (ap (λ z. file ∷ z) (with_file-set new files place (NamesDiffer-tail file files differ) (omega arith) same))

-- a search that found nothing passed over the first file, and found nothing in the rest
pub passed_over : (test : Bool) (file : File) (rest : Option File) → cond test (Some file) rest ≡ None → (test ≡ false) × (rest ≡ None)
passed_over true file rest none = cc
passed_over false file rest none = (refl, none)

-- a file with a new name is put at the end
pub with_file-push : (new : File) (files : List File) → file_of files new.name ≡ None → with_file new files ≡ files ++ new ∷ []
with_file-push new [] none = refl
with_file-push new (file ∷ files) none =
    let passed = passed_over (bytes_eq file.name new.name) file (file_of files new.name) none in
    let other : bytes_eq file.name new.name ≡ false = passed.0 in
    rw other (ap (λ z. file ∷ z) (with_file-push new files passed.1))

-- if there is no file of a name, each file has another
pub absent-name : (files : List File) (name : List ℕ) → file_of files name ≡ None → (place : ℕ) (d : File) → place < length files → (slice_index_or files place d).name ≡ name → ⊥
absent-name [] name none place d within same = absurd (omega arith)
absent-name (file ∷ files) name none zero d within same =
    let passed = passed_over (bytes_eq file.name name) file (file_of files name) none in
    false≢true (sym passed.0 ∙ rw same (bytes_eq_self name))
absent-name (file ∷ files) name none (suc place) d within same =
    absent-name files name (passed_over (bytes_eq file.name name) file (file_of files name) none).1 place d (omega arith) same

-- a file with a new name leaves the names different
pub NamesDiffer-push : (new : File) (files : List File) → NamesDiffer files → file_of files new.name ≡ None → NamesDiffer (files ++ new ∷ [])
NamesDiffer-push new files differ none = all_pairs_push (λ one other. one.name ≢ other.name) files new differ (absent-name files new.name none)

-- files made of values with different keys have different names
pub name-map : {X : Type 0} (f : X → File) (key : X → List ℕ) (values : List X) (place : ℕ) (d : File) (default : X) → ((value : X) → (f value).name ≡ key value) → place < length values → (slice_index_or (map f values) place d).name ≡ key (slice_index_or values place default)
name-map f key [] place d default named within = absurd (omega arith)
name-map f key (value ∷ values) zero d default named within = named value
name-map f key (value ∷ values) (suc place) d default named within = name-map f key values place d default named (omega arith)

pub NamesDiffer-map : {X : Type 0} (f : X → File) (key : X → List ℕ) (values : List X) → ((value : X) → (f value).name ≡ key value) → AllPairs (λ one other. key one ≢ key other) values → NamesDiffer (map f values)
NamesDiffer-map f key [] named differ i j d below within same = absurd (omega arith)
NamesDiffer-map f key (value ∷ values) named differ i j d below within same =
    let all = value ∷ values in
    let inside : j < length all = omega (arith, length-map all f) in
    differ i j value below inside (sym (name-map f key all i d value named (omega arith)) ∙ same ∙ name-map f key all j d value named inside)

-- names stay if a file is put in place of one of its name
pub name_at-set : (files : List File) (place : ℕ) (file : File) → place < length files → file.name ≡ name_at files place → (other : ℕ) → name_at (set files place file) other ≡ name_at files other
name_at-set [] place file within same other = absurd (omega arith)
name_at-set (first ∷ files) zero file within same zero = same
name_at-set (first ∷ files) zero file within same (suc other) = refl
name_at-set (first ∷ files) (suc place) file within same zero = refl
name_at-set (first ∷ files) (suc place) file within same (suc other) = name_at-set files place file (omega arith) same other

-- if the names stay, so does the name of the file at a place that may be given
pub option_map-name_at : (places : Option ℕ) (files after : List File) → ((other : ℕ) → name_at after other ≡ name_at files other) → option_map (name_at after) places ≡ option_map (name_at files) places
option_map-name_at None files after stay = refl
option_map-name_at (Some place) files after stay = ap Some (stay place)

pub option_map-opened : (reading : Option ReadPosition) (files after : List File) → ((other : ℕ) → name_at after other ≡ name_at files other) → option_map (λ (r : ReadPosition). opened (name_at after r.file) r.offset) reading ≡ option_map (λ (r : ReadPosition). opened (name_at files r.file) r.offset) reading
option_map-opened None files after stay = refl
option_map-opened (Some r) files after stay = ap (λ name. Some (opened name r.offset)) (stay r.file)

-- a front and what follows as many
pub take-append-drop_length : (most : ℕ) (left : List ℕ) → take most left ++ drop (length (take most left)) left ≡ left
take-append-drop_length zero left = refl
take-append-drop_length (suc most) [] = refl
take-append-drop_length (suc most) (byte ∷ left) = ap (λ z. byte ∷ z) (take-append-drop_length most left)

pub drop-drop : (offset count : ℕ) (bytes : List ℕ) → drop count (drop offset bytes) ≡ drop (offset + count) bytes
drop-drop offset count bytes = grind (arith, common_steps)

-- what is given is empty exactly if nothing is left
pub length-take-zero : (most : ℕ) (left : List ℕ) → 0 < most → length (take most left) ≡ 0 → left ≡ []
length-take-zero most left some none = grind (arith, common_steps)

-- a piece of what is left, which isn't empty unless nothing is left
pub Consumes-piece : (bytes into : List ℕ) (offset most : ℕ) → 0 < most → Consumes (length (take most (drop offset bytes))) (take most (drop offset bytes) ++ drop (length (take most (drop offset bytes))) into) (Some (drop offset bytes)) (Some (drop (offset + length (take most (drop offset bytes))) bytes))
Consumes-piece bytes into offset most some =
    let left = drop offset bytes in
    let piece = take most left in (
      rw (take-append_seam piece (drop (length piece) into)) (sym (take-append-drop_length most left)),
      ap Some (sym (drop-drop offset (length piece) bytes)),
      (length-take-zero most left some, λ none. rw none (grind (arith, common_steps))),
    )
