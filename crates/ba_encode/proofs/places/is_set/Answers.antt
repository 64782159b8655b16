use Rattle.std.proofs.Common.{sym, subst}
use Rattle.ba_words.specs.Words.{AreBitsOf}
use Rattle.ba_bits.proofs.Elements.{named-first}
use Rattle.ba_encode.proofs.places.is_set.Goals as goal

pub nonzero-requires : goal.nonzero-requires
nonzero-requires c =
    subst (AreBitsOf c.args.nodes.now)
    (sym (named-first c.args.entries.now c.args.number c.index-entries-number.result c.first.result.now
    c.requires.name
    c.index-entries-number.is c.first.ensures))
    (c.requires.entries c.args.number 0)
