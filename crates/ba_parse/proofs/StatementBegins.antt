-- What is read again and again in a block, in a `switch` and in a file, and what it begins with.

use Rattle.std.proofs.Common.{Bool, true, List}
use Rattle.ba_tokens.specs.declared.token.Token.{Token}
use Rattle.ba_trees.specs.Classes.{declaration_word}
use Rattle.ba_parse.specs.Readings.{Inner, Reading, next_is, item_start, label_start, statement_start, read_item, read_group, read_statement, read_external}

abbrev pub item : List Token → Bool
item = next_is item_start

abbrev pub an_item : Inner → Reading
an_item inner = read_item inner

abbrev pub labelled : List Token → Bool
labelled = next_is label_start

abbrev pub a_group : Inner → Reading
a_group inner = read_group inner

abbrev pub statement : List Token → Bool
statement = next_is statement_start

abbrev pub a_statement : Inner → Reading
a_statement inner = read_statement inner

abbrev pub external : List Token → Bool
external = next_is (declaration_word true)

abbrev pub an_external : Inner → Reading
an_external inner = read_external inner
