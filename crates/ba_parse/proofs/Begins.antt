-- What is read again and again in a list, and what it begins with.

use Rattle.std.proofs.Common.{Bool, List}
use Rattle.ba_tokens.specs.declared.token.Token.{Token}
use Rattle.ba_tokens.specs.declared.token.Punct.TheVariants as punct
use Rattle.ba_trees.specs.Classes.{mark}
use Rattle.ba_parse.specs.Readings.{Inner, Reading, ◌▹◌, next_is, is_next_value, is_next_enumerator, read_sign, read_expression, read_declarator, read_enumerator, read_parameter, read_simple}

abbrev pub comma : List Token → Bool
comma = next_is (mark punct.Comma)

abbrev pub value : List Token → Bool
value = is_next_value

abbrev pub after_comma : Inner → Reading
after_comma inner = read_sign punct.Comma ▹ read_expression inner

abbrev pub enumerator : List Token → Bool
enumerator = is_next_enumerator

abbrev pub next_enumerator : Inner → Reading
next_enumerator inner = read_sign punct.Comma ▹ read_enumerator inner

abbrev pub next_declarator : Inner → Reading
next_declarator inner = read_sign punct.Comma ▹ read_declarator inner

abbrev pub next_parameter : Inner → Reading
next_parameter inner = read_sign punct.Comma ▹ read_parameter inner

abbrev pub next_simple : Inner → Reading
next_simple inner = read_sign punct.Comma ▹ read_simple inner
