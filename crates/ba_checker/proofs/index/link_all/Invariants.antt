use Rattle.std.proofs.Common.{◌≡◌, length}
use Rattle.ba_checker.specs.Listed.{all_keys, links, AreLinkedBelow}
use Rattle.ba_checker.proofs.index.link_all.Given as goal

abbrev pub invariant-loop-place : goal.invariant-loop-place
invariant-loop-place l = (length l.nodes.items ≡ l.count)
    × AreLinkedBelow l.place (all_keys l.nodes.items) l.heads.items (links l.nodes.items) l.store
