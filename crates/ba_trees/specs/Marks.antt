-- A tree written out: its leaves in their order, with brackets around each node, and around each construct
-- that counts a level.

use Rattle.std.specs.Prelude.{ℕ, ◌-◌, nat_le, List, [], ◌∷◌, ◌++◌, Bool, true, false, ◌&&◌, not, Option, None, Some}
use Rattle.std.specs.List.{list_all}
use Prim.Native.Nat.{suc}
use Rattle.ba_tokens.specs.declared.token.Token.{Token}
use Rattle.ba_tokens.specs.declared.token.Keyword.TheVariants as keyword
use Rattle.ba_trees.specs.Classes.{class_of, word}

-- The rules that have a node. `chain n` is what follows the first operand in a chain of binary operators of
-- level n. The nodes `no_name` and `no_else` are empty: they mark a parameter without a name and an `if`
-- without `else`.
pub data Rule : Type 0 where
  file : Rule
  external : Rule
  type_name : Rule
  specifiers : Rule
  enumerators : Rule
  enumerator : Rule
  parameters : Rule
  parameter : Rule
  no_name : Rule
  array_length : Rule
  declarators : Rule
  declarator : Rule
  braced : Rule
  declaration : Rule
  block : Rule
  statement : Rule
  no_else : Rule
  group : Rule
  label : Rule
  for_first : Rule
  simples : Rule
  simple : Rule
  target : Rule
  arguments : Rule
  conditional : Rule
  chain : ℕ → Rule
  unary : Rule
  primary : Rule

-- a token, the opening or closing bracket of a node, or a bracket of a level
pub data Mark : Type 0 where
  leaf : Token → Mark
  enter : Rule → Mark
  leave : Rule → Mark
  down : Mark
  up : Mark

-- a node of a rule; a construct that counts a level
abbrev pub node_of : Rule → List Mark → List Mark
node_of r f = enter r ∷ f ++ leave r ∷ []

-- a tree with one more level around
abbrev pub one_deeper : List Mark → List Mark
one_deeper f = down ∷ f ++ up ∷ []

-- the yield of a tree: its leaves
abbrev pub yield : List Mark → List Token
yield [] = []
yield (leaf t ∷ ms) = t ∷ yield ms
yield (enter r ∷ ms) = yield ms
yield (leave r ∷ ms) = yield ms
yield (down ∷ ms) = yield ms
yield (up ∷ ms) = yield ms

-- the levels of the leaves: how many constructs are around each, with those around the whole
abbrev pub levels : ℕ → List Mark → List ℕ
levels d [] = []
levels d (leaf t ∷ ms) = d ∷ levels d ms
levels d (enter r ∷ ms) = levels d ms
levels d (leave r ∷ ms) = levels d ms
levels d (down ∷ ms) = levels (suc d) ms
levels d (up ∷ ms) = levels (d - 1) ms

-- the first token of a list, or what comes after an empty list
abbrev pub first_or : List Token → Option Token → Option Token
first_or [] next = next
first_or (t ∷ ts) next = Some t

-- the token is the word `else`
abbrev pub is_else : Option Token → Bool
is_else None = false
is_else (Some t) = word keyword.Else (class_of t)

-- the node is that of a missing `else`
abbrev pub is_no_else : Rule → Bool
is_no_else no_else = true
is_no_else r = false

-- no `if` without `else` is followed by `else`, if this token comes after the marks (C90 6.6.4.1)
abbrev pub no_else_lost : List Mark → Option Token → Bool
no_else_lost [] next = true
no_else_lost (leaf t ∷ ms) next = no_else_lost ms next
no_else_lost (enter r ∷ ms) next = no_else_lost ms next
no_else_lost (leave r ∷ ms) next = not (is_no_else r && is_else (first_or (yield ms) next)) && no_else_lost ms
    next
no_else_lost (down ∷ ms) next = no_else_lost ms next
no_else_lost (up ∷ ms) next = no_else_lost ms next

-- THE LIMIT ON LEVELS: the greatest level that is accepted, and a tree whose tokens keep to it
abbrev pub max_level : ℕ
max_level = 100

-- no token of the tree has more levels around it than are allowed
abbrev pub has_accepted_levels : List Mark → Bool
has_accepted_levels tree = list_all (λ level. nat_le level max_level) (levels 0 tree)
