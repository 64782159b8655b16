-- Strings, which are read as often as they begin.

use Rattle.std.proofs.Common.{◌≡◌, Bool, List, [], ◌∷◌, ◌++◌, ap, ◌∙◌}
use Rattle.std.proofs.lemmas.List.{map-append}
use Rattle.ba_tokens.specs.declared.token.Token.{Token}
use Rattle.ba_trees.specs.declared.class.TokenClass.TheVariants as class
use Rattle.ba_trees.specs.Classes.{only}
use Rattle.ba_trees.specs.Marks.{leaf}
use Rattle.ba_parse.specs.Readings.{Reading, next_is, read_token}
use Rattle.ba_parse.proofs.TypeWords.{leaves}

abbrev pub string : List Token → Bool
string = next_is (only class.Quoted)

abbrev pub a_string : Reading
a_string = read_token (only class.Quoted)

pub leaves-push : (ws all : List Token) (w : Token) → all ≡ ws ++ w ∷ [] → leaves all ≡ leaves ws
    ++ leaf w ∷ []
leaves-push ws all w push = ap leaves push ∙ map-append leaf ws (w ∷ [])
