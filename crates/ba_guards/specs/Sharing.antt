-- Value numbering: entries that are determined by what they name, and the table of those in a list.

use Rattle.std.specs.Prelude.{◌≡◌, ℕ, List, Option, Some, slice_get}
use Rattle.ba_guards.specs.declared.expressions.Expression.{Expression}
use Rattle.ba_guards.specs.declared.expressions.Expression.TheVariants as expression
use Rattle.ba_wordlist.specs.declared.words.WordOp.{WordOp}
use Rattle.ba_wordlist.specs.declared.words.WordOp.TheVariants.{Const, Unary, Binary, Convert, Select, Read}

-- the entry that an expression is
abbrev pub entry : Expression → WordOp
entry (expression.Const z) = Const z
entry (expression.Unary op t a) = Unary op t a
entry (expression.Binary op t a b) = Binary op t a b
entry (expression.Convert t a) = Convert t a
entry (expression.Select which a b) = Select which a b
entry (expression.Read array index) = Read array index

-- each expression that has a number is the entry of that number
abbrev pub AreNumbered : List WordOp → (Expression → Option ℕ) → Type 0
AreNumbered ws numbers = (e : Expression) (word : ℕ) → numbers e ≡ Some word
    → slice_get ws word ≡ Some (entry e)
