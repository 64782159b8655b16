-- Parts of readings that single functions of the parser read.

use Rattle.ba_tokens.specs.declared.token.Keyword.TheVariants as keyword
use Rattle.ba_tokens.specs.declared.token.Punct.TheVariants as punct
use Rattle.ba_trees.specs.Classes.{word, mark}
use Rattle.ba_trees.specs.Marks.{no_else}
use Rattle.ba_parse.specs.Readings.{Inner, Reading, ◌▹◌, read_either, read_nothing, read_key, read_node, read_semicolon, read_condition, deeper_in, next_is, in_statement, maybe_expression, read_printf, read_block, read_simple, read_keyword_statement, simple_start}

-- `else` and its statement, or the empty node
abbrev pub read_else : Inner → Reading
read_else inner = read_either (next_is (word keyword.Else)) (read_key keyword.Else ▹ deeper_in inner
    in_statement) (read_node no_else read_nothing)

-- the statements that hold no statement
abbrev pub read_jump : Inner → Reading
read_jump inner =
    read_either (next_is (word keyword.Break)) (read_key keyword.Break ▹ read_semicolon)
    (read_either (next_is (word keyword.Continue)) (read_key keyword.Continue ▹ read_semicolon)
    (read_either (next_is (word keyword.Return)) (read_key keyword.Return ▹ maybe_expression inner
    ▹ read_semicolon)
    (read_either (next_is (word keyword.Assert)) (read_key keyword.Assert ▹ read_condition inner
    ▹ read_semicolon) (read_printf inner))))

-- a statement, without the node around it
abbrev pub read_statement_form : Inner → Reading
read_statement_form inner =
    read_either (next_is (mark punct.OpenBrace)) (read_block inner)
    (read_either (next_is (mark punct.Semicolon)) read_semicolon
    (read_either (next_is simple_start) (read_simple inner ▹ read_semicolon) (read_keyword_statement inner)))
