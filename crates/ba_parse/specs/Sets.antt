-- The classes of each set of tokens.

use Rattle.std.specs.Prelude.{false}
use Rattle.ba_tokens.specs.declared.token.Punct.TheVariants as punct
use Rattle.ba_trees.specs.declared.class.TokenClass.TheVariants as class
use Rattle.ba_parse.specs.declared.sets.TokenSet.{TokenSet}
use Rattle.ba_parse.specs.declared.sets.TokenSet.TheVariants as set
use Rattle.ba_trees.specs.Classes.{Classes, only, word, mark, ◌or◌, declaration_word}
use Rattle.ba_parse.specs.Grammar.{prefix_sign, step_sign, assign_sign, operator}
use Rattle.ba_parse.specs.Readings.{operand_start, simple_start, statement_start, label_start, item_start}

-- the classes of a set of tokens
abbrev pub classes : TokenSet → Classes
classes set.Name = only class.Name
classes set.Constant = only class.Constant
classes set.Quoted = only class.Quoted
classes (set.Keyword k) = word k
classes (set.Punct q) = mark q
classes (set.DeclarationWord static) = declaration_word static
classes set.PrefixSign = prefix_sign
classes set.StepSign = step_sign
classes set.AssignSign = assign_sign
classes (set.Operator n) = operator n
classes set.OperandStart = operand_start
classes set.SimpleStart = simple_start
classes set.StatementStart = statement_start
classes set.LabelStart = label_start
classes set.ItemStart = item_start
classes set.ForStart = declaration_word false or simple_start or mark punct.Semicolon
