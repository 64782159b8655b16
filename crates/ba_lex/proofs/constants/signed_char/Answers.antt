use Rattle.std.proofs.Common.{◌<◌, arith, rules}
use Rattle.std.proofs.lemmas.Int.{ints, to_z-of_z}
use Rattle.ba_lex.proofs.CharacterLemmas.{converted-small, converted-large}
use Rattle.ba_lex.proofs.constants.signed_char.Goals as goal

pub returns-then-byte-lt128 : goal.returns-then-byte-lt128
returns-then-byte-lt128 c =
    let is = converted-small c.args.byte (omega arith) in
    grind (arith, ints, to_z-of_z)

pub returns-else-byte-lt128 : goal.returns-else-byte-lt128
returns-else-byte-lt128 c =
    let fits : c.args.byte < 256 = search rules in
    let is = converted-large c.args.byte (omega arith) fits in
    grind (arith, ints, to_z-of_z)
