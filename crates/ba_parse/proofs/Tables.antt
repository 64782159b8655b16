-- What holds of every class of tokens, computed over all of them.

use Rattle.std.proofs.Common.{◌≡◌, ℕ, Bool, true, false, not, ◌&&◌, ◌||◌, List, [], ◌∷◌, refl, sym, ap, ◌∙◌, get_or}
use Prim.Native.Nat.{zero, suc}
use Rattle.std.specs.List.{list_all}
use Rattle.ba_tokens.specs.declared.token.Keyword.{Keyword}
use Rattle.ba_tokens.specs.declared.token.Keyword.TheVariants as keyword
use Rattle.ba_tokens.specs.declared.token.Punct.{Punct}
use Rattle.ba_tokens.specs.declared.token.Punct.TheVariants as punct
use Rattle.ba_trees.specs.declared.class.TokenClass.{TokenClass}
use Rattle.ba_trees.specs.declared.class.TokenClass.TheVariants as class
use Rattle.ba_trees.specs.Classes.{Classes}
use Rattle.ba_parse.proofs.Certified.{and_left, and_right, false_is_true}

abbrev all_classes : List TokenClass
all_classes =
    class.Name ∷ class.Constant ∷ class.Quoted ∷
    class.Keyword keyword.Char ∷ class.Keyword keyword.Short ∷ class.Keyword keyword.Int ∷
    class.Keyword keyword.Long ∷ class.Keyword keyword.Signed ∷ class.Keyword keyword.Unsigned ∷
    class.Keyword keyword.Void ∷ class.Keyword keyword.Enum ∷ class.Keyword keyword.Const ∷
    class.Keyword keyword.Static ∷ class.Keyword keyword.If ∷ class.Keyword keyword.Else ∷
    class.Keyword keyword.Switch ∷ class.Keyword keyword.Case ∷ class.Keyword keyword.Default ∷
    class.Keyword keyword.While ∷ class.Keyword keyword.Do ∷ class.Keyword keyword.For ∷
    class.Keyword keyword.Break ∷ class.Keyword keyword.Continue ∷ class.Keyword keyword.Return ∷
    class.Keyword keyword.Assert ∷ class.Keyword keyword.Printf ∷
    class.Punct punct.OpenBrace ∷ class.Punct punct.CloseBrace ∷ class.Punct punct.OpenParenthesis ∷
    class.Punct punct.CloseParenthesis ∷ class.Punct punct.OpenBracket ∷ class.Punct punct.CloseBracket ∷
    class.Punct punct.Semicolon ∷ class.Punct punct.Comma ∷ class.Punct punct.Question ∷
    class.Punct punct.Colon ∷ class.Punct punct.Tilde ∷ class.Punct punct.Exclamation ∷
    class.Punct punct.Plus ∷ class.Punct punct.Minus ∷ class.Punct punct.Star ∷ class.Punct punct.Slash ∷
    class.Punct punct.Percent ∷ class.Punct punct.Ampersand ∷ class.Punct punct.Bar ∷
    class.Punct punct.Caret ∷ class.Punct punct.Assign ∷ class.Punct punct.Less ∷
    class.Punct punct.Greater ∷ class.Punct punct.Increment ∷ class.Punct punct.Decrement ∷
    class.Punct punct.ShiftLeft ∷ class.Punct punct.ShiftRight ∷ class.Punct punct.LessEqual ∷
    class.Punct punct.GreaterEqual ∷ class.Punct punct.Equal ∷ class.Punct punct.NotEqual ∷
    class.Punct punct.AndAnd ∷ class.Punct punct.OrOr ∷ class.Punct punct.PlusAssign ∷
    class.Punct punct.MinusAssign ∷ class.Punct punct.StarAssign ∷ class.Punct punct.SlashAssign ∷
    class.Punct punct.PercentAssign ∷ class.Punct punct.AmpersandAssign ∷ class.Punct punct.CaretAssign ∷
    class.Punct punct.BarAssign ∷ class.Punct punct.ShiftLeftAssign ∷ class.Punct punct.ShiftRightAssign ∷
    class.Punct punct.Arrow ∷ class.Punct punct.Dot ∷ class.Punct punct.Ellipsis ∷
    []

abbrev keyword_number : Keyword → ℕ
keyword_number keyword.Char = 3
keyword_number keyword.Short = 4
keyword_number keyword.Int = 5
keyword_number keyword.Long = 6
keyword_number keyword.Signed = 7
keyword_number keyword.Unsigned = 8
keyword_number keyword.Void = 9
keyword_number keyword.Enum = 10
keyword_number keyword.Const = 11
keyword_number keyword.Static = 12
keyword_number keyword.If = 13
keyword_number keyword.Else = 14
keyword_number keyword.Switch = 15
keyword_number keyword.Case = 16
keyword_number keyword.Default = 17
keyword_number keyword.While = 18
keyword_number keyword.Do = 19
keyword_number keyword.For = 20
keyword_number keyword.Break = 21
keyword_number keyword.Continue = 22
keyword_number keyword.Return = 23
keyword_number keyword.Assert = 24
keyword_number keyword.Printf = 25

abbrev punct_number : Punct → ℕ
punct_number punct.OpenBrace = 26
punct_number punct.CloseBrace = 27
punct_number punct.OpenParenthesis = 28
punct_number punct.CloseParenthesis = 29
punct_number punct.OpenBracket = 30
punct_number punct.CloseBracket = 31
punct_number punct.Semicolon = 32
punct_number punct.Comma = 33
punct_number punct.Question = 34
punct_number punct.Colon = 35
punct_number punct.Tilde = 36
punct_number punct.Exclamation = 37
punct_number punct.Plus = 38
punct_number punct.Minus = 39
punct_number punct.Star = 40
punct_number punct.Slash = 41
punct_number punct.Percent = 42
punct_number punct.Ampersand = 43
punct_number punct.Bar = 44
punct_number punct.Caret = 45
punct_number punct.Assign = 46
punct_number punct.Less = 47
punct_number punct.Greater = 48
punct_number punct.Increment = 49
punct_number punct.Decrement = 50
punct_number punct.ShiftLeft = 51
punct_number punct.ShiftRight = 52
punct_number punct.LessEqual = 53
punct_number punct.GreaterEqual = 54
punct_number punct.Equal = 55
punct_number punct.NotEqual = 56
punct_number punct.AndAnd = 57
punct_number punct.OrOr = 58
punct_number punct.PlusAssign = 59
punct_number punct.MinusAssign = 60
punct_number punct.StarAssign = 61
punct_number punct.SlashAssign = 62
punct_number punct.PercentAssign = 63
punct_number punct.AmpersandAssign = 64
punct_number punct.CaretAssign = 65
punct_number punct.BarAssign = 66
punct_number punct.ShiftLeftAssign = 67
punct_number punct.ShiftRightAssign = 68
punct_number punct.Arrow = 69
punct_number punct.Dot = 70
punct_number punct.Ellipsis = 71

abbrev class_number : TokenClass → ℕ
class_number class.Name = 0
class_number class.Constant = 1
class_number class.Quoted = 2
class_number (class.Keyword k) = keyword_number k
class_number (class.Punct q) = punct_number q

keyword_there : (k : Keyword) → get_or all_classes (keyword_number k) class.Name ≡ class.Keyword k
keyword_there keyword.Char = refl
keyword_there k = refl

punct_there : (q : Punct) → get_or all_classes (punct_number q) class.Name ≡ class.Punct q
punct_there punct.OpenBrace = refl
punct_there q = refl

class_there : (c : TokenClass) → get_or all_classes (class_number c) class.Name ≡ c
class_there class.Name = refl
class_there class.Constant = refl
class_there class.Quoted = refl
class_there (class.Keyword k) = keyword_there k
class_there (class.Punct q) = punct_there q

all_at : {X : Type 0} (p : X → Bool) (xs : List X) (d : X) → list_all p xs ≡ true → p d ≡ true → (i : ℕ) →
    p (get_or xs i d) ≡ true
all_at p [] d h e i = e
all_at p (x ∷ xs) d h e zero = and_left (p x) (list_all p xs) h
all_at p (x ∷ xs) d h e (suc i) = all_at p xs d (and_right (p x) (list_all p xs) h) e i

-- the test holds of every class
abbrev pub holds_everywhere : Classes → Bool
holds_everywhere p = list_all p all_classes

pub everywhere : (p : Classes) → holds_everywhere p ≡ true → (c : TokenClass) → p c ≡ true
everywhere p h c =
    ap p (sym (class_there c)) ∙ all_at p all_classes class.Name h
    (and_left (p class.Name) (list_all p (tail all_classes)) h) (class_number c)
  where
    tail : List TokenClass → List TokenClass
    tail [] = []
    tail (x ∷ xs) = xs

pub or_not : (a b : Bool) → (not a || b) ≡ true → a ≡ true → b ≡ true
or_not true b h e = h
or_not false b h e = absurd (false_is_true e)

not_or : (a b : Bool) → (not a || b) ≡ true → b ≡ false → a ≡ false
not_or true b h e = absurd (false_is_true (sym e ∙ h))
not_or false b h e = refl

not_both : (a b : Bool) → not (a && b) ≡ true → a ≡ true → b ≡ false
not_both true true h e = absurd (false_is_true h)
not_both true false h e = refl
not_both false b h e = absurd (false_is_true e)

-- the first set lies in the second; so what is outside of the second is outside of the first
abbrev pub lies_in : Classes → Classes → Bool
lies_in p q = holds_everywhere (λ c. not (p c) || q c)

pub inside : (p q : Classes) → lies_in p q ≡ true → (c : TokenClass) → p c ≡ true → q c ≡ true
inside p q h c = or_not (p c) (q c) (everywhere (λ c. not (p c) || q c) h c)

pub outside : (p q : Classes) → lies_in p q ≡ true → (c : TokenClass) → q c ≡ false → p c ≡ false
outside p q h c = not_or (p c) (q c) (everywhere (λ c. not (p c) || q c) h c)

-- the sets have no class in common
abbrev pub are_apart : Classes → Classes → Bool
are_apart p q = holds_everywhere (λ c. not (p c && q c))

pub apart : (p q : Classes) → are_apart p q ≡ true → (c : TokenClass) → p c ≡ true → q c ≡ false
apart p q h c = not_both (p c) (q c) (everywhere (λ c. not (p c && q c)) h c)
