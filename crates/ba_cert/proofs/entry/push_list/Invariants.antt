use Rattle.std.proofs.Common.{◌≡◌, ◌++◌, map, drop}
use Rattle.ba_cert.specs.Text.{ended}
use Rattle.ba_text.specs.Texts.{spaced}
use Rattle.ba_cert.proofs.entry.push_list.Given as goal

-- the text so far and what is left are the whole
abbrev pub invariant-loop-item : goal.invariant-loop-item
invariant-loop-item g l =
    l.text.items ++ spaced (ended (map g.T.Entry.spelled (drop l.item-index l.items)))
    ≡ l.initial.text.items ++ spaced (ended (map g.T.Entry.spelled l.items))
