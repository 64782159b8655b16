-- Tests of words and of lists of words.
use Rattle.std.proofs.Common.{◌≡◌, ℕ, Bool, true, false, cond, ◌&&◌, ◌||◌, List, [], ◌∷◌, ◌++◌, map, refl, sym, ap, ◌∙◌, true≢false}
use Rattle.std.specs.List.{list_all, list_any}
use Rattle.std.specs.Str.{bytes_eq}
use Rattle.std.proofs.lemmas.Bool.Decides.{same_from_decides, Decides-like}
use Rattle.std.proofs.lemmas.Slice.Eq.{bytes_eq-Decides}
use Rattle.ba_tree.proofs.Tests.{both}
use Rattle.ba_commands.specs.Words.{stands}

pub neither : (a b : Bool) → (a || b) ≡ false → (a ≡ false) × (b ≡ false)
neither true b e = absurd (true≢false e)
neither false b e = (refl, e)

pub or_right : (a b : Bool) → b ≡ true → (a || b) ≡ true
or_right true b e = refl
or_right false b e = e

pub same_either : {A : Type 0} (b : Bool) (x : A) → cond b x x ≡ x
same_either true x = refl
same_either false x = refl

pub not_both : (b : Bool) → b ≡ true → b ≡ false → ⊥
not_both b t f = true≢false (sym t ∙ f)

pub eq_is : (a b : List ℕ) → bytes_eq a b ≡ true → a ≡ b
eq_is a b e = (bytes_eq-Decides a b).0 e

pub eq_self : (a : List ℕ) → bytes_eq a a ≡ true
eq_self a = (bytes_eq-Decides a a).1 refl

pub eq_comm : (a b : List ℕ) → bytes_eq a b ≡ bytes_eq b a
eq_comm a b = same_from_decides (bytes_eq a b) (bytes_eq b a) (bytes_eq-Decides a b)
    (Decides-like (bytes_eq b a) (λ e. sym e) (λ e. sym e) (bytes_eq-Decides b a))

-- what holds of each name of a list holds of one that stands there
pub each_standing : (p : List ℕ → Bool) (names : List (List ℕ)) (name : List ℕ) → stands name names ≡ true
    → list_all p names ≡ true
    → p name ≡ true
each_standing p [] name there all = absurd (true≢false (sym there))
each_standing p (other ∷ names) name there all =
    by (bytes_eq name other) refl there
    (λ t. each_standing p names name t (both (p other) (list_all p names) all).1)
  where
    by : (same : Bool) → bytes_eq name other ≡ same → (same || stands name names) ≡ true
        → (stands name names ≡ true → p name ≡ true)
        → p name ≡ true
    by true is there others = ap p (eq_is name other is) ∙ (both (p other) (list_all p names) all).0
    by false is there others = others there

pub list_all-append : {A : Type 0} (p : A → Bool) (xs ys : List A)
    → list_all p (xs ++ ys) ≡ (list_all p xs && list_all p ys)
list_all-append p [] ys = refl
list_all-append p (x ∷ xs) ys = by (p x) (list_all-append p xs ys)
  where
    by : (b : Bool) → list_all p (xs ++ ys) ≡ (list_all p xs && list_all p ys)
        → (b && list_all p (xs ++ ys)) ≡ ((b && list_all p xs) && list_all p ys)
    by true h = h
    by false h = refl

pub list_any-append : {A : Type 0} (p : A → Bool) (xs ys : List A)
    → list_any p (xs ++ ys) ≡ (list_any p xs || list_any p ys)
list_any-append p [] ys = refl
list_any-append p (x ∷ xs) ys = by (p x) (list_any-append p xs ys)
  where
    by : (b : Bool) → list_any p (xs ++ ys) ≡ (list_any p xs || list_any p ys)
        → (b || list_any p (xs ++ ys)) ≡ ((b || list_any p xs) || list_any p ys)
    by true h = refl
    by false h = h

pub list_any-map : {A B : Type 0} (p : B → Bool) (f : A → B) (xs : List A)
    → list_any p (map f xs) ≡ list_any (λ x. p (f x)) xs
list_any-map p f [] = refl
list_any-map p f (x ∷ xs) = ap (λ b. p (f x) || b) (list_any-map p f xs)

pub list_all-map : {A B : Type 0} (p : B → Bool) (f : A → B) (xs : List A)
    → list_all p (map f xs) ≡ list_all (λ x. p (f x)) xs
list_all-map p f [] = refl
list_all-map p f (x ∷ xs) = ap (λ b. p (f x) && b) (list_all-map p f xs)

pub any_none : {A : Type 0} (p : A → Bool) (xs : List A) → ((x : A) → p x ≡ false) → list_any p xs ≡ false
any_none p [] none = refl
any_none p (x ∷ xs) none = ap (λ b. b || list_any p xs) (none x) ∙ any_none p xs none

pub all_each : {A : Type 0} (p : A → Bool) (xs : List A) → ((x : A) → p x ≡ true) → list_all p xs ≡ true
all_each p [] each = refl
all_each p (x ∷ xs) each = ap (λ b. b && list_all p xs) (each x) ∙ all_each p xs each
