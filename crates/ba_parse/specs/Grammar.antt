-- The grammar (C90 6.3 to 6.7, in this profile), as a relation between its parts and trees written out.

use Rattle.std.specs.Prelude.{◌≡◌, ℕ, Bool, true, false, not, ◌&&◌, ◌||◌, if◌then◌else◌, List, [], ◌∷◌, ◌++◌, map}
use Prim.Native.Nat.{zero, suc}
use Rattle.std.specs.List.{list_any}
use Rattle.ba_tokens.specs.declared.token.Token.{Token}
use Rattle.ba_tokens.specs.declared.token.Keyword.{Keyword}
use Rattle.ba_tokens.specs.declared.token.Keyword.TheVariants as keyword
use Rattle.ba_tokens.specs.declared.token.Punct.{Punct}
use Rattle.ba_tokens.specs.declared.token.Punct.TheVariants as punct
use Rattle.ba_trees.specs.declared.class.TokenClass.TheVariants as class
use Rattle.ba_trees.specs.Classes.{Classes, class_of, only, word, mark, ◌or◌, names_type}
use Rattle.ba_trees.specs.Marks.{Rule, Mark, leaf, enter, leave, down, up, node_of, one_deeper, yield, file, external, type_name, specifiers, enumerators, enumerator, parameters, parameter, no_name, array_length, declarators, declarator, braced, declaration, block, statement, no_else, group, label, for_first, simples, simple, target, arguments, conditional, chain, unary, primary}

-- The right side of a rule. `after a k` is a part and then one that depends on its tree. `words static` are
-- the words that name a type, or those up to an `enum`. `deeper` counts a level.
pub data Part : Type 0 where
  nothing : Part
  token : Classes → Part
  words : Bool → Part
  node : Rule → Part → Part
  rule : Rule → Part
  after : Part → (List Mark → Part) → Part
  either : Part → Part → Part
  many : Part → Part
  deeper : Part → Part

-- one part and then another; a part that may be left out; one or more with commas between
infixr 6 ◌·◌
infixr 5 ◌∣◌
-- the first part, then the second
abbrev pub ◌·◌ : Part → Part → Part
a · b = after a (λ f. b)

-- one part or the other
abbrev pub ◌∣◌ : Part → Part → Part
a ∣ b = either a b

-- a part, or nothing
abbrev pub maybe : Part → Part
maybe a = a ∣ nothing

-- this keyword
abbrev pub key : Keyword → Part
key k = token (word k)

-- this punctuator
abbrev pub sign : Punct → Part
sign q = token (mark q)

-- a name
abbrev pub name : Part
name = token (only class.Name)

-- a part at least once, with commas between
abbrev pub listed : Part → Part
listed a = a · many (sign punct.Comma · a)

-- between parentheses, brackets or braces, which are not around themselves
abbrev pub in_parentheses : Part → Part
in_parentheses a = sign punct.OpenParenthesis · deeper a · sign punct.CloseParenthesis

-- a part in square brackets, which count a level
abbrev pub in_brackets : Part → Part
in_brackets a = sign punct.OpenBracket · deeper a · sign punct.CloseBracket

-- a part in braces, which count a level
abbrev pub in_braces : Part → Part
in_braces a = sign punct.OpenBrace · deeper a · sign punct.CloseBrace

-- a semicolon
abbrev pub semicolon : Part
semicolon = sign punct.Semicolon

-- TYPES (C90 6.5.2, 6.5.3)

-- the marks hold a token of these classes
abbrev pub has_class : Classes → List Mark → Bool
has_class classes f = list_any (λ t. classes (class_of t)) (yield f)

-- `const` and `static`, each at most once, if the list had none so far
abbrev pub qualifiers_left : Bool → Bool → Part
qualifiers_left false false = nothing
qualifiers_left true false = maybe (key keyword.Const)
qualifiers_left false true = maybe (key keyword.Static)
qualifiers_left true true =
    key keyword.Const · maybe (key keyword.Static)
    ∣ key keyword.Static · maybe (key keyword.Const)
    ∣ nothing

-- what may follow a tag: `const` and `static` if they were not before it
abbrev pub qualifiers_behind : Bool → List Mark → Part
qualifiers_behind static f = qualifiers_left (not (has_class (word keyword.Const) f))
    (static && not (has_class (word keyword.Static) f))

-- what follows the words of a type: after `enum` its tag or what may replace it, and the qualifiers still
-- allowed
abbrev pub behind_words : Bool → Part → List Mark → Part
behind_words static tag f =
    if has_class (word keyword.Enum) f then tag · qualifiers_behind static f else nothing

-- the words that name a type
abbrev pub type_words : Part
type_words = node type_name (after (words false) (behind_words false name))

-- those of a declaration of a file or of a block: `static` if it is accepted, and the constants of an
-- enumerated type
abbrev pub declaration_words : Bool → Part
declaration_words static =
    node specifiers
    (after (words static) (behind_words static (name · maybe (rule enumerators) ∣ rule enumerators)))

-- the marks hold the constants of an enumerated type
abbrev pub is_enumerators : Rule → Bool
is_enumerators enumerators = true
is_enumerators r = false

-- the tree has a list of enumeration constants
abbrev pub has_enumerators : List Mark → Bool
has_enumerators [] = false
has_enumerators (leaf t ∷ ms) = has_enumerators ms
has_enumerators (enter r ∷ ms) = is_enumerators r || has_enumerators ms
has_enumerators (leave r ∷ ms) = has_enumerators ms
has_enumerators (down ∷ ms) = has_enumerators ms
has_enumerators (up ∷ ms) = has_enumerators ms

-- declarators, which may be absent after such constants
abbrev pub declared : List Mark → Part
declared f = if has_enumerators f then maybe (rule declarators) else rule declarators

-- OPERATORS

-- the signs of unary operators
abbrev pub prefix_sign : Classes
prefix_sign = mark punct.Plus or mark punct.Minus or mark punct.Tilde or mark punct.Exclamation

-- `++` and `--`
abbrev pub step_sign : Classes
step_sign = mark punct.Increment or mark punct.Decrement

-- the signs of assignments
abbrev pub assign_sign : Classes
assign_sign =
    mark punct.Assign or mark punct.PlusAssign or mark punct.MinusAssign or mark punct.StarAssign or mark
    punct.SlashAssign
    or mark punct.PercentAssign or mark punct.AmpersandAssign or mark punct.CaretAssign or mark
    punct.BarAssign
    or mark punct.ShiftLeftAssign or mark punct.ShiftRightAssign

-- the binary operators of a level, from 1, which binds tightest, to 10 (C90 6.3.5 to 6.3.14)
abbrev pub operator : ℕ → Classes
operator zero c = false
operator (suc zero) c = (mark punct.Star or mark punct.Slash or mark punct.Percent) c
operator (suc (suc zero)) c = (mark punct.Plus or mark punct.Minus) c
operator (suc (suc (suc zero))) c = (mark punct.ShiftLeft or mark punct.ShiftRight) c
operator (suc (suc (suc (suc zero)))) c = (mark punct.Less or mark punct.Greater or mark punct.LessEqual or
    mark punct.GreaterEqual) c
operator (suc (suc (suc (suc (suc zero))))) c = (mark punct.Equal or mark punct.NotEqual) c
operator (suc (suc (suc (suc (suc (suc zero)))))) c = mark punct.Ampersand c
operator (suc (suc (suc (suc (suc (suc (suc zero))))))) c = mark punct.Caret c
operator (suc (suc (suc (suc (suc (suc (suc (suc zero)))))))) c = mark punct.Bar c
operator (suc (suc (suc (suc (suc (suc (suc (suc (suc zero))))))))) c = mark punct.AndAnd c
operator (suc (suc (suc (suc (suc (suc (suc (suc (suc (suc n)))))))))) c = mark punct.OrOr c

-- an operand of operators of level n + 1: a unary expression, and the chains of operators of levels up to n
-- that follow it
abbrev pub operand : ℕ → Part
operand zero = rule unary
operand (suc n) = operand n · maybe (rule (chain (suc n)))

-- what follows an operator of level n: an operand, and the rest of the chain of that level
abbrev pub chained : ℕ → Part
chained zero = rule unary
chained (suc n) = operand n · maybe (rule (chain (suc n)))

-- an expression
abbrev pub expression : Part
expression = rule conditional

-- RULES

-- a block follows only if each parameter has a name, or the list is `void` alone
abbrev pub is_no_name : Rule → Bool
is_no_name no_name = true
is_no_name r = false

-- a parameter of the tree has no name
abbrev pub has_unnamed : List Mark → Bool
has_unnamed [] = false
has_unnamed (leaf t ∷ ms) = has_unnamed ms
has_unnamed (enter r ∷ ms) = is_no_name r || has_unnamed ms
has_unnamed (leave r ∷ ms) = has_unnamed ms
has_unnamed (down ∷ ms) = has_unnamed ms
has_unnamed (up ∷ ms) = has_unnamed ms

-- the tokens are the word `void` alone
abbrev pub is_void : List Token → Bool
is_void [] = false
is_void (t ∷ []) = word keyword.Void (class_of t)
is_void (t ∷ u ∷ ts) = false

-- after these parameters a body may follow: each has a name, or they are `void`
abbrev pub takes_block : List Mark → Bool
takes_block f = not (has_unnamed f) || is_void (yield f)

-- a body, if it may follow, or a semicolon
abbrev pub function_end : Bool → Part
function_end true = rule block ∣ semicolon
function_end false = semicolon

-- a function from its name on
abbrev pub function_tail : Part
function_tail =
    name · sign punct.OpenParenthesis
    · after (deeper (rule parameters)) (λ f. sign punct.CloseParenthesis · function_end (takes_block f))

-- the statement that a condition, an `else` or a `do` controls, which counts a level
abbrev pub controlled : Part
controlled = deeper (rule statement)

-- an expression in parentheses
abbrev pub condition : Part
condition = in_parentheses expression

-- the forms of a statement
abbrev pub statement_part : Part
statement_part =
    rule block
    ∣ semicolon
    ∣ rule simple · semicolon
    ∣ key keyword.If · condition · controlled · (key keyword.Else · controlled ∣ node no_else nothing)
    ∣ key keyword.Switch · condition · in_braces (many (rule group))
    ∣ key keyword.While · condition · controlled
    ∣ key keyword.Do · controlled · key keyword.While · condition · semicolon
    ∣ key keyword.For · in_parentheses (rule for_first · semicolon · maybe expression · semicolon · maybe
    (rule simples)) · controlled
    ∣ key keyword.Break · semicolon
    ∣ key keyword.Continue · semicolon
    ∣ key keyword.Return · maybe expression · semicolon
    ∣ key keyword.Assert · condition · semicolon
    ∣ key keyword.Printf
    · in_parentheses (token (only class.Quoted) · many (token (only class.Quoted)) · many
    (sign punct.Comma · expression))
    · semicolon

-- the right side of a rule; the words of a type, and what is absent, are nodes
abbrev pub grammar : Rule → Part
grammar file = many (rule external)
grammar external =
    after (declaration_words true) (λ f. if has_enumerators f then maybe (rule declarators) · semicolon
    else function_tail ∣ rule declarators · semicolon)
grammar type_name = nothing
grammar specifiers = nothing
grammar enumerators =
    in_braces (rule enumerator · many (sign punct.Comma · rule enumerator) · maybe (sign punct.Comma))
grammar enumerator = name · maybe (sign punct.Assign · expression)
grammar parameters = listed (rule parameter) ∣ nothing
grammar parameter = type_words · (name ∣ node no_name nothing) · maybe (rule array_length)
grammar no_name = nothing
grammar array_length = in_brackets (maybe expression)
grammar declarators = listed (rule declarator)
grammar declarator = name · maybe (rule array_length) · maybe (sign punct.Assign · (rule braced ∣ expression))
grammar braced =
    sign punct.OpenBrace · expression · many (sign punct.Comma · expression) · maybe (sign punct.Comma) · sign
    punct.CloseBrace
grammar declaration = after (declaration_words false) declared · semicolon
grammar block = in_braces (many (rule declaration ∣ rule statement))
grammar statement = statement_part
grammar no_else = nothing
grammar group = rule label · many (rule statement)
grammar label =
    key keyword.Case · expression · sign punct.Colon
    ∣ key keyword.Default · sign punct.Colon
grammar for_first = type_words · rule declarators ∣ rule simples ∣ nothing
grammar simples = listed (rule simple)
grammar simple =
    token step_sign · rule target
    ∣ name · in_parentheses (rule arguments)
    ∣ rule target · (token step_sign ∣ token assign_sign · expression)
grammar target = name · maybe (in_brackets expression)
grammar arguments = listed expression ∣ nothing
grammar conditional = operand 10 · maybe (sign punct.Question · deeper expression · sign punct.Colon · deeper
    expression)
grammar (chain n) = token (operator n) · deeper (chained n)
grammar unary =
    token prefix_sign · deeper (rule unary)
    ∣ in_parentheses type_words · deeper (rule unary)
    ∣ rule primary
grammar primary =
    name · (in_brackets expression ∣ maybe (in_parentheses (rule arguments)))
    ∣ token (only class.Constant)
    ∣ in_parentheses expression

-- THE TREES of a part, written out

-- the tree is one of the part: the meaning of a grammar
pub data Spells : Part → List Mark → Type 0 where
  is_nothing : Spells nothing []
  is_token : (classes : Classes) (t : Token) → classes (class_of t) ≡ true →
      Spells (token classes) (leaf t ∷ [])
  is_words : (static : Bool) (ts : List Token) → names_type static (map class_of ts) ≡ true →
      Spells (words static) (map leaf ts)
  is_node : (r : Rule) (a : Part) (f : List Mark) → Spells a f → Spells (node r a) (node_of r f)
  is_rule : (r : Rule) (f : List Mark) → Spells (grammar r) f → Spells (rule r) (node_of r f)
  is_after : (a : Part) (k : List Mark → Part) (f g : List Mark) → Spells a f → Spells (k f) g →
      Spells (after a k) (f ++ g)
  is_first : (a b : Part) (f : List Mark) → Spells a f → Spells (either a b) f
  is_second : (a b : Part) (f : List Mark) → Spells b f → Spells (either a b) f
  is_none : (a : Part) → Spells (many a) []
  is_more : (a : Part) (f g : List Mark) → Spells a f → Spells (many a) g → Spells (many a) (f ++ g)
  is_deeper : (a : Part) (f : List Mark) → Spells a f → Spells (deeper a) (one_deeper f)
