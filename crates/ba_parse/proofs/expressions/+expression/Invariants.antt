-- How many more constructs may be around a token, and then a rank: what is inside a construct has the least.

use Rattle.std.specs.Prelude.{◌≡◌, ◌+◌, ◌-◌, ◌*◌, ◌++◌, length, map}
use Rattle.ba_tokens.specs.declared.token.Punct.TheVariants as punct
use Rattle.ba_trees.specs.Classes.{mark}
use Rattle.ba_parse.specs.Readings.{done, ◌▹◌, with_front, many_upto, next_is, read_sign, read_expression, read_operand, levels_left}
use Rattle.ba_trees.specs.ExpressionMarks.{chain_marks, next_expression_marks, unary_marks}
use Rattle.ba_trees.specs.Views.{joined}
use Rattle.ba_parse.proofs.expressions.+expression.Given as goal

abbrev pub decreases-inner_expression : goal.decreases-inner_expression
decreases-inner_expression l = 16 * l.levels

abbrev pub decreases-inner_unary : goal.decreases-inner_unary
decreases-inner_unary l = 16 * l.levels

abbrev pub decreases-inner_arguments : goal.decreases-inner_arguments
decreases-inner_arguments l = 16 * l.levels

abbrev pub decreases-chained : goal.decreases-chained
decreases-chained l = 16 * l.levels

abbrev pub decreases-prefixed : goal.decreases-prefixed
decreases-prefixed l = 16 * l.levels + 1

abbrev pub decreases-cast : goal.decreases-cast
decreases-cast l = 16 * l.levels + 1

abbrev pub decreases-parenthesized : goal.decreases-parenthesized
decreases-parenthesized l = 16 * l.levels + 1

abbrev pub decreases-named : goal.decreases-named
decreases-named l = 16 * l.levels + 1

abbrev pub decreases-maybe_chain : goal.decreases-maybe_chain
decreases-maybe_chain l = 16 * l.levels + 1

abbrev pub decreases-maybe_branches : goal.decreases-maybe_branches
decreases-maybe_branches l = 16 * l.levels + 1

abbrev pub decreases-primary : goal.decreases-primary
decreases-primary l = 16 * l.levels + 2

abbrev pub decreases-unary : goal.decreases-unary
decreases-unary l = 16 * l.levels + 3

abbrev pub decreases-operand : goal.decreases-operand
decreases-operand l = 16 * l.levels + 4

abbrev pub decreases-conditional : goal.decreases-conditional
decreases-conditional l = 16 * l.levels + 5

abbrev pub decreases-next_expression : goal.decreases-next_expression
decreases-next_expression l = 16 * l.levels + 6

abbrev pub decreases-next_expressions : goal.decreases-next_expressions
decreases-next_expressions l = 16 * l.levels + 7

abbrev pub decreases-expressions : goal.decreases-expressions
decreases-expressions l = 16 * l.levels + 8

-- what was read so far is the operand of tighter operators
abbrev pub invariant-operand-loop-tighter : goal.invariant-operand-loop-tighter
invariant-operand-loop-tighter l =
    read_operand (levels_left l.levels) l.tighter l.fn.reader
    ≡ done (unary_marks l.first ++ joined (map chain_marks l.chains.items)) l.reader

-- the whole is what was read, and then what is read from here
abbrev pub invariant-next_expressions-loop-read : goal.invariant-next_expressions-loop-read
invariant-next_expressions-loop-read l =
    many_upto (length l.fn.reader) (next_is (mark punct.Comma)) (read_sign punct.Comma ▹ read_expression
    (levels_left l.levels)) l.fn.reader
    ≡ with_front (joined (map next_expression_marks l.rest.items)) (many_upto (length l.fn.reader - l._read)
    (next_is (mark punct.Comma)) (read_sign punct.Comma ▹ read_expression (levels_left l.levels))
    l.reader)

abbrev pub decreases-arguments : goal.decreases-arguments
decreases-arguments l = 16 * l.levels + 9
