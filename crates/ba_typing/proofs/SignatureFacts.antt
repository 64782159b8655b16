-- Declarations of functions: each definition has a number and a name of its own, and there are no more than
-- names.
use Rattle.std.proofs.Common.{◌≡◌, ℕ, ◌+◌, ◌≤◌, Bool, true, false, ◌&&◌, ◌||◌, cond, None, Some, List, [], ◌∷◌, ◌++◌, length, refl, sym, ◌∙◌, ap, subst, arith}
use Rattle.std.specs.List.{list_any}
use Rattle.std.specs.Cmp.Lexicographic.{same_text}
use Rattle.std.proofs.lemmas.Bool.{and_from, and_parts, or_parts, or_from, or_left, or_right}
use Rattle.std.proofs.lemmas.Cmp.{nat_list_eq_equiv}
use Rattle.std.proofs.lemmas.Option.{same_Some, none-some}
use Rattle.std.proofs.lemmas.List.Folds.{list_any-append}
use Rattle.ba_typing.specs.Files.{count_functions}
use Rattle.ba_typing.specs.Names.{same_name, is_declared_in, definition_in}
use Rattle.ba_typing.specs.declared.meanings.Signature.{Signature}

-- NAMES

pub same_name-equal : (x y : List ℕ) → same_name x y ≡ true → x ≡ y
same_name-equal x y h = same_text x y (sym h)

pub same_name-self : (x : List ℕ) → same_name x x ≡ true
same_name-self = nat_list_eq_equiv.refl

same_name-swap : (x y : List ℕ) → same_name x y ≡ same_name y x
same_name-swap = nat_list_eq_equiv.symm

-- DEFINITIONS

abbrev is_of : List ℕ → Signature → Bool
is_of name s = s.is_definition && same_name s.name name

pub record IsFound (name : List ℕ) (s : Signature) : Type 0 where
  pub is_definition : s.is_definition ≡ true
  pub named : s.name ≡ name

pub found_is : (ss : List Signature) (name : List ℕ) (s : Signature) → definition_in ss name ≡ Some s
    → IsFound name s
found_is [] name s h = cc
found_is (t ∷ ss) name s h = from (is_of name t) (and_parts t.is_definition (same_name t.name name))
    (found_is ss name s) h
  where
    from : (b : Bool) → (b ≡ true → (t.is_definition ≡ true) × (same_name t.name name ≡ true))
        → (definition_in ss name ≡ Some s → IsFound name s)
        → cond b (Some t) (definition_in ss name) ≡ Some s → IsFound name s
    from true is rest h = subst (IsFound name) (same_Some t s h)
        (record { is_definition = (is refl).0; named = same_name-equal t.name name (is refl).1 })
    from false is rest h = rest h

-- a fact of each definition
abbrev pub AreDefinitions : (Signature → Type 0) → List Signature → Type 0
AreDefinitions P [] = Unit {0}
AreDefinitions P (s ∷ ss) = (s.is_definition ≡ true → P s) × AreDefinitions P ss

pub found_holds : (P : Signature → Type 0) (ss : List Signature) (name : List ℕ) (s : Signature)
    → AreDefinitions P ss
    → definition_in ss name ≡ Some s → P s
found_holds P [] name s all h = cc
found_holds P (t ∷ ss) name s all h = from (is_of name t) (and_parts t.is_definition (same_name t.name name))
    (found_holds P ss name s all.1) h where
      from : (b : Bool) → (b ≡ true → (t.is_definition ≡ true) × (same_name t.name name ≡ true))
          → (definition_in ss name ≡ Some s → P s)
          → cond b (Some t) (definition_in ss name) ≡ Some s → P s
      from true is rest h = subst P (same_Some t s h) (all.0 (is refl).0)
      from false is rest h = rest h

-- after others
pub found_later : (ss ts : List Signature) (name : List ℕ) → definition_in ss name ≡ None
    → definition_in (ss ++ ts) name ≡ definition_in ts name
found_later [] ts name h = refl
found_later (s ∷ ss) ts name h = from (is_of name s) h (found_later ss ts name) where
  from : (b : Bool) → cond b (Some s) (definition_in ss name) ≡ None
      → (definition_in ss name ≡ None → definition_in (ss ++ ts) name ≡ definition_in ts name)
      → cond b (Some s) (definition_in (ss ++ ts) name) ≡ definition_in ts name
  from true h rest = cc
  from false h rest = rest h

pub found_before : (ss ts : List Signature) (name : List ℕ) (s : Signature) → definition_in ss name ≡ Some s
    → definition_in (ss ++ ts) name ≡ Some s
found_before [] ts name s h = cc
found_before (t ∷ ss) ts name s h = from (is_of name t) h (found_before ss ts name s) where
  from : (b : Bool) → cond b (Some t) (definition_in ss name) ≡ Some s
      → (definition_in ss name ≡ Some s → definition_in (ss ++ ts) name ≡ Some s)
      → cond b (Some t) (definition_in (ss ++ ts) name) ≡ Some s
  from true h rest = h
  from false h rest = rest h

-- a definition at the front is found by its name
pub found_first : (s : Signature) (ss : List Signature) → s.is_definition ≡ true
    → definition_in (s ∷ ss) s.name ≡ Some s
found_first s ss is = ap (λ b. cond b (Some s) (definition_in ss s.name))
    (and_from s.is_definition (same_name s.name s.name) is (same_name-self s.name))

-- NUMBERS

-- each has as its number how many definitions are before, from this number on
abbrev pub AreNumbered : ℕ → List Signature → Type 0
AreNumbered k [] = Unit {0}
AreNumbered k (s ∷ ss) = (s.function.0 ≡ k) × AreNumbered (k + cond s.is_definition 1 0) ss

found_low : (k : ℕ) (ss : List Signature) (name : List ℕ) (s : Signature) → AreNumbered k ss
    → definition_in ss name ≡ Some s → k ≤ s.function.0
found_low k [] name s all h = cc
found_low k (t ∷ ss) name s all h =
    from (is_of name t) (found_low (k + cond t.is_definition 1 0) ss name s all.1) h where
      from : (b : Bool) → (definition_in ss name ≡ Some s → k + cond t.is_definition 1 0 ≤ s.function.0)
          → cond b (Some t) (definition_in ss name) ≡ Some s → k ≤ s.function.0
      from true rest h = let is = all.0 in let same = ap (λ (s : Signature). s.function.0)
          (same_Some t s h) in
          omega (arith, is, same)
      from false rest h = let low = rest h in omega (arith, low)

-- two definitions of one number are one
pub found_unique : (k : ℕ) (ss : List Signature) (a b : List ℕ) (s t : Signature) → AreNumbered k ss
    → definition_in ss a ≡ Some s → definition_in ss b ≡ Some t → s.function.0 ≡ t.function.0 → s ≡ t
found_unique k [] a b s t all h g same = cc
found_unique k (u ∷ ss) a b s t all h g same =
    from (is_of a u) (is_of b u) (λ is. (and_parts u.is_definition (same_name u.name a) is).0)
    (λ is. (and_parts u.is_definition (same_name u.name b) is).0)
    (λ x y. found_unique (k + cond u.is_definition 1 0) ss a b s t all.1 x y same) h g where
      from : (x y : Bool) → (x ≡ true → u.is_definition ≡ true) → (y ≡ true → u.is_definition ≡ true)
          → (definition_in ss a ≡ Some s → definition_in ss b ≡ Some t → s ≡ t)
          → cond x (Some u) (definition_in ss a) ≡ Some s → cond y (Some u) (definition_in ss b) ≡ Some t
          → s ≡ t
      from true true dx dy rest h g = sym (same_Some u s h) ∙ same_Some u t g
      from true false dx dy rest h g =
          let later = found_low (k + cond u.is_definition 1 0) ss b t all.1 g in
          let one_more : k + cond u.is_definition 1 0 ≡ k + 1 = ap (λ b. k + cond b 1 0) (dx refl) in
          let here = all.0 in let number = ap (λ (s : Signature). s.function.0) (same_Some u s h) in
          absurd (let e : ⊥ = omega (arith, later, one_more, here, number, same) in e)
      from false true dx dy rest h g =
          let later = found_low (k + cond u.is_definition 1 0) ss a s all.1 h in
          let one_more : k + cond u.is_definition 1 0 ≡ k + 1 = ap (λ b. k + cond b 1 0) (dy refl) in
          let here = all.0 in let number = ap (λ (s : Signature). s.function.0) (same_Some u t g) in
          absurd (let e : ⊥ = omega (arith, later, one_more, here, number, same) in e)
      from false false dx dy rest h g = rest h g

-- ONE DEFINITION A NAME, as the faults say

-- no definition after `earlier` has the name of one before it
abbrev pub AreNew : List Signature → List Signature → Type 0
AreNew earlier [] = Unit {0}
AreNew earlier (s ∷ ss) = (s.is_definition ≡ true → definition_in earlier s.name ≡ None) × AreNew
    (earlier ++ s ∷ []) ss

new_later : (earlier ss : List Signature) (name : List ℕ) (e : Signature) → AreNew earlier ss
    → definition_in earlier name ≡ Some e → definition_in ss name ≡ None
new_later earlier [] name e h found = refl
new_later earlier (s ∷ ss) name e h found =
    from (is_of name s) (and_parts s.is_definition (same_name s.name name))
    (new_later (earlier ++ s ∷ []) ss name e h.1 (found_before earlier (s ∷ []) name e found)) where
      from : (b : Bool) → (b ≡ true → (s.is_definition ≡ true) × (same_name s.name name ≡ true))
          → definition_in ss name ≡ None → cond b (Some s) (definition_in ss name) ≡ None
      from true is rest =
          let none = h.0 (is refl).0 in
          let some = ap (definition_in earlier) (same_name-equal s.name name (is refl).1) ∙ found in
          absurd (none-some e (sym none ∙ some))
      from false is rest = rest

-- how many are definitions
abbrev pub count_definitions : List Signature → ℕ
count_definitions [] = 0
count_definitions (s ∷ ss) = cond s.is_definition 1 0 + count_definitions ss

-- names that differ, each of which is declared
abbrev DifferentNames : List (List ℕ) → Type 0
DifferentNames [] = Unit {0}
DifferentNames (n ∷ ns) = (list_any (same_name n) ns ≡ false) × DifferentNames ns

abbrev AreDeclared : List Signature → List (List ℕ) → Type 0
AreDeclared ss [] = Unit {0}
AreDeclared ss (n ∷ ns) = (is_declared_in ss n ≡ true) × AreDeclared ss ns

-- the others' declarations
abbrev without : List ℕ → List Signature → List Signature
without name [] = []
without name (s ∷ ss) = cond (same_name s.name name) (without name ss) (s ∷ without name ss)

other_declared : (name n : List ℕ) (ss : List Signature) → same_name name n ≡ false
    → is_declared_in (without name ss) n ≡ is_declared_in ss n
other_declared name n [] other = refl
other_declared name n (s ∷ ss) other =
    from (same_name s.name name) (same_name-equal s.name name) (other_declared name n ss other) where
      from : (b : Bool) → (b ≡ true → s.name ≡ name) → is_declared_in (without name ss) n
          ≡ is_declared_in ss n
          → is_declared_in (cond b (without name ss) (s ∷ without name ss)) n ≡ is_declared_in (s ∷ ss) n
      from true is rest = rest
          ∙ ap (λ b. b || is_declared_in ss n) (sym (ap (λ m. same_name m n) (is refl) ∙ other))
      from false is rest = ap (λ b. same_name s.name n || b) rest

none_without : (name : List ℕ) (ss : List Signature) → is_declared_in ss name ≡ false → without name ss ≡ ss
none_without name [] none = refl
none_without name (s ∷ ss) none = from (same_name s.name name) none (none_without name ss) where
  from : (b : Bool) → (b || is_declared_in ss name) ≡ false → (is_declared_in ss name ≡ false
      → without name ss ≡ ss)
      → cond b (without name ss) (s ∷ without name ss) ≡ s ∷ ss
  from true h rest = cc
  from false h rest = ap (λ ts. s ∷ ts) (rest h)

count_without : (name : List ℕ) (ss : List Signature) → is_declared_in ss name ≡ true
    → 1 + count_functions (without name ss) ≡ count_functions ss
count_without name [] h = cc
count_without name (s ∷ ss) h = from (same_name s.name name) (same_name-equal s.name name) refl h
    (count_without name ss) where
      again : (d : Bool) → is_declared_in ss name ≡ d → s.name ≡ name
          → (is_declared_in ss name ≡ true → 1 + count_functions (without name ss) ≡ count_functions ss)
          → 1 + count_functions (without name ss) ≡ count_functions (s ∷ ss)
      again true declared is rest = rest declared
          ∙ sym (ap (λ b. cond b (count_functions ss) (1 + count_functions ss)) (ap (is_declared_in ss) is
          ∙ declared))
      again false none is rest = ap (λ ts. 1 + count_functions ts) (none_without name ss none)
          ∙ sym (ap (λ b. cond b (count_functions ss) (1 + count_functions ss)) (ap (is_declared_in ss) is
          ∙ none))

      other : (c : Bool) (m n : ℕ) → 1 + m ≡ n → 1 + cond c m (1 + m) ≡ cond c n (1 + n)
      other true m n h = h
      other false m n h = omega (arith, h)

      from : (b : Bool) → (b ≡ true → s.name ≡ name) → same_name s.name name ≡ b →
          (b || is_declared_in ss name)
          ≡ true
          → (is_declared_in ss name ≡ true → 1 + count_functions (without name ss) ≡ count_functions ss)
          → 1 + count_functions (cond b (without name ss) (s ∷ without name ss)) ≡ count_functions (s ∷ ss)
      from true is was h rest = again (is_declared_in ss name) refl (is refl) rest
      from false is was h rest =
          ap (λ b. 1 + cond b (count_functions (without name ss)) (1 + count_functions (without name ss)))
          (other_declared name s.name ss (same_name-swap name s.name ∙ was))
          ∙ other (is_declared_in ss s.name) (count_functions (without name ss)) (count_functions ss) (rest h)

others_declared : (name : List ℕ) (ns : List (List ℕ)) (ss : List Signature) → list_any (same_name name) ns
    ≡ false
    → AreDeclared ss ns → AreDeclared (without name ss) ns
others_declared name [] ss other h = tt
others_declared name (n ∷ ns) ss other h =
    let both = or_parts (same_name name n) (list_any (same_name name) ns) other in
    (other_declared name n ss both.0 ∙ h.0, others_declared name ns ss both.1 h.1)

few_names : (ns : List (List ℕ)) (ss : List Signature) → DifferentNames ns → AreDeclared ss ns
    → length ns ≤ count_functions ss
few_names [] ss h declared = omega arith
few_names (n ∷ ns) ss h declared =
    let rest = few_names ns (without n ss) h.1 (others_declared n ns ss h.0 declared.1) in
    let one_less = count_without n ss declared.0 in omega (arith, rest, one_less)

-- the names of the definitions
abbrev defined_names : List Signature → List (List ℕ)
defined_names [] = []
defined_names (s ∷ ss) = cond s.is_definition (s.name ∷ defined_names ss) (defined_names ss)

defined_count : (ss : List Signature) → length (defined_names ss) ≡ count_definitions ss
defined_count [] = refl
defined_count (s ∷ ss) = from s.is_definition (defined_count ss) where
  from : (b : Bool) → length (defined_names ss) ≡ count_definitions ss
      → length (cond b (s.name ∷ defined_names ss) (defined_names ss)) ≡ cond b 1 0 + count_definitions ss
  from true h = omega (arith, h)
  from false h = omega (arith, h)

not_defined : (name : List ℕ) (ss : List Signature) → definition_in ss name ≡ None
    → list_any (same_name name) (defined_names ss) ≡ false
not_defined name [] h = refl
not_defined name (s ∷ ss) h = from s.is_definition h (not_defined name ss) where
  apart : (b : Bool) → cond b (Some s) (definition_in ss name) ≡ None → (b ≡ false) × (definition_in ss name
      ≡ None)
  apart true h = cc
  apart false h = (refl, h)

  from : (b : Bool) → cond (b && same_name s.name name) (Some s) (definition_in ss name) ≡ None
      → (definition_in ss name ≡ None → list_any (same_name name) (defined_names ss) ≡ false)
      → list_any (same_name name) (cond b (s.name ∷ defined_names ss) (defined_names ss)) ≡ false
  from true h rest = let both = apart (same_name s.name name) h in
      or_from (same_name name s.name) (list_any (same_name name) (defined_names ss))
      (same_name-swap name s.name ∙ both.0) (rest both.1)
  from false h rest = rest h

defined_different : (earlier ss : List Signature) → AreNew earlier ss → DifferentNames (defined_names ss)
defined_different earlier [] h = tt
defined_different earlier (s ∷ ss) h = from s.is_definition refl (defined_different
    (earlier ++ s ∷ []) ss h.1) where
      from : (b : Bool) → s.is_definition ≡ b → DifferentNames (defined_names ss)
          → DifferentNames (cond b (s.name ∷ defined_names ss) (defined_names ss))
      from true is rest = (
        not_defined s.name ss (new_later (earlier ++ s ∷ []) ss s.name s h.1
            (found_later earlier (s ∷ []) s.name (h.0 is) ∙ found_first s [] is)),
        rest,
      )
      from false is rest = rest

more_declared : (s : Signature) (ss : List Signature) (ns : List (List ℕ)) → AreDeclared ss ns → AreDeclared
    (s ∷ ss) ns
more_declared s ss [] h = tt
more_declared s ss (n ∷ ns) h = (
  or_right (same_name s.name n)
      (is_declared_in ss n) h.0,
  more_declared s ss ns h.1,
)

defined_declared : (ss : List Signature) → AreDeclared ss (defined_names ss)
defined_declared [] = tt
defined_declared (s ∷ ss) = from s.is_definition (more_declared s ss (defined_names ss)
    (defined_declared ss)) where
      from : (b : Bool) → AreDeclared (s ∷ ss) (defined_names ss)
          → AreDeclared (s ∷ ss) (cond b (s.name ∷ defined_names ss) (defined_names ss))
      from true h = (or_left (same_name s.name s.name) (is_declared_in ss s.name) (same_name-self s.name), h)
      from false h = h

-- there are no more definitions than names
pub few_definitions : (ss : List Signature) → AreNew [] ss → count_definitions ss ≤ count_functions ss
few_definitions ss h = subst (λ n. n ≤ count_functions ss) (defined_count ss)
    (few_names (defined_names ss) ss (defined_different [] ss h) (defined_declared ss))

-- one declaration more
pub count_one_more : (ss : List Signature) (s : Signature)
    → count_functions (ss ++ s ∷ []) ≡ count_functions ss + cond (is_declared_in ss s.name) 0 1
count_one_more [] s = refl
count_one_more (e ∷ es) s =
    ap (λ b. cond b (count_functions (es ++ s ∷ [])) (1 + count_functions (es ++ s ∷ [])))
    (list_any-append (λ (t : Signature). same_name t.name e.name) es (s ∷ []))
    ∙ ap (λ n. cond (is_declared_in es e.name || is_declared_in (s ∷ []) e.name) n (1 + n))
    (count_one_more es s)
    ∙ from (same_name s.name e.name) (same_name e.name s.name) (same_name-swap s.name e.name)
    (is_declared_in es e.name) (is_declared_in es s.name)
    (λ is. ap (is_declared_in es) (sym (same_name-equal s.name e.name is))) (count_functions es) where
      from : (x y : Bool) → x ≡ y → (a c : Bool) → (x ≡ true → a ≡ c) → (n : ℕ)
          → cond (a || (x || false)) (n + cond c 0 1) (1 + (n + cond c 0 1)) ≡ cond a n (1 + n) + cond
          (y || c) 0 1
      from true true same true true is n = omega arith
      from true true same false false is n = omega arith
      from true true same true false is n = let e = is refl in cc
      from true true same false true is n = let e = is refl in cc
      from false false same true true is n = omega arith
      from false false same true false is n = omega arith
      from false false same false true is n = omega arith
      from false false same false false is n = omega arith
      from true false same a c is n = cc
      from false true same a c is n = cc
