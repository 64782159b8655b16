use Rattle.std.proofs.Common.{◌≡◌, length}
use Rattle.ba_typing.specs.Names.{tag_of}
use Rattle.ba_typing.proofs.names.tag_in.Given as goal

abbrev pub invariant-loop-word : goal.invariant-loop-word
invariant-loop-word l = tag_of l.words ≡ tag_of l.rest

abbrev pub decreases-loop-word : goal.decreases-loop-word
decreases-loop-word l = length l.rest
