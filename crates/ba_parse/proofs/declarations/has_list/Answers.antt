-- The constants are where the field has them.

use Rattle.std.proofs.Common.{sym, ◌∙◌}
use Rattle.ba_parse.proofs.EnumeratedTypes.{has_list}
use Rattle.ba_parse.proofs.declarations.has_list.Goals as goal

pub returns : goal.returns
returns c = c.is_some.ensures ∙ sym (has_list c.args.words.now)
