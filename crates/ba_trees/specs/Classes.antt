-- What the grammar sees of a token: its class, and the classes that its rules name.

use Rattle.std.specs.Prelude.{Bool, true, not, ◌&&◌, ◌||◌, List, [], ◌∷◌}
use Rattle.std.specs.List.{list_any, list_all}
use Rattle.ba_tokens.specs.declared.token.Token.{Token}
use Rattle.ba_tokens.specs.declared.token.TokenKind.{TokenKind}
use Rattle.ba_tokens.specs.declared.token.TokenKind.TheVariants as kind
use Rattle.ba_tokens.specs.declared.token.Keyword.{Keyword}
use Rattle.ba_tokens.specs.declared.token.Keyword.TheVariants as keyword
use Rattle.ba_tokens.specs.declared.token.Punct.{Punct}
use Rattle.ba_trees.specs.declared.class.TokenClass.{TokenClass}
use Rattle.ba_trees.specs.declared.class.TokenClass.TheVariants as class
use Rattle.ba_trees.specs.contracts.class.TokenClassPartialEq.TheImpl.{eq-value}

-- the class of a kind of token
abbrev pub class_of_kind : TokenKind → TokenClass
class_of_kind (kind.Name text) = class.Name
class_of_kind (kind.Constant t value) = class.Constant
class_of_kind kind.Quoted = class.Quoted
class_of_kind (kind.Keyword k) = class.Keyword k
class_of_kind (kind.Punct q) = class.Punct q

-- the class of a token
abbrev pub class_of : Token → TokenClass
class_of t = class_of_kind t.kind

-- a set of classes
abbrev pub Classes : Type 0
Classes = TokenClass → Bool

-- the one class; the classes in one of two sets
abbrev pub only : TokenClass → Classes
only d c = eq-value.it c d

-- the class of this keyword
abbrev pub word : Keyword → Classes
word k = only (class.Keyword k)

-- the class of this punctuator
abbrev pub mark : Punct → Classes
mark q = only (class.Punct q)

infixr 4 ◌or◌
-- the classes of both
abbrev pub ◌or◌ : Classes → Classes → Classes
(a or b) c = a c || b c

-- WORDS OF TYPES (C90 6.5.1, 6.5.2, 6.5.3)

-- a word that names a type, alone or with others
abbrev pub type_word : Classes
type_word = word keyword.Void or word keyword.Char or word keyword.Short or word keyword.Int or word
    keyword.Long or word keyword.Signed or word keyword.Unsigned or word keyword.Enum

-- a word that goes with those that name a type; `static` only if it is accepted
abbrev pub qualifier : Bool → Classes
qualifier static c = word keyword.Const c || (static && word keyword.Static c)

-- a word of a declaration
abbrev pub declaration_word : Bool → Classes
declaration_word static c = type_word c || qualifier static c

-- the first of two words excludes the second: void and enum exclude all others, char the lengths, short long,
-- signed unsigned
abbrev pub excludes : TokenClass → TokenClass → Bool
excludes c d =
    ((word keyword.Void or word keyword.Enum) c && type_word d)
    || (word keyword.Char c && (word keyword.Short or word keyword.Int or word keyword.Long) d)
    || (word keyword.Short c && word keyword.Long d)
    || (word keyword.Signed c && word keyword.Unsigned d)

-- two words may be in one list, the first one before the second; `enum` is the last of its list (C90 6.5.2.2)
abbrev pub agree : TokenClass → TokenClass → Bool
agree c d = not (word keyword.Enum c || eq-value.it c d || excludes c d || excludes d c)

-- no word occurs twice, and each two agree
abbrev pub all_agree : List TokenClass → Bool
all_agree [] = true
all_agree (c ∷ cs) = list_all (agree c) cs && all_agree cs

-- a list of words names a type
abbrev pub names_type : Bool → List TokenClass → Bool
names_type static cs = list_all (declaration_word static) cs && all_agree cs && list_any type_word cs
