use Rattle.std.proofs.Common.{◌≡◌, ◌++◌, map, drop}
use Rattle.std.specs.Fmt.{signed_decimal}
use Rattle.ba_text.specs.Texts.{spaced}
use Rattle.ba_text.proofs.choices.push_values.Given as goal

-- the text so far and what is left are the whole
abbrev pub invariant-loop-value : goal.invariant-loop-value
invariant-loop-value l =
    l.text.items ++ spaced (map signed_decimal (drop l.value-index l.values))
    ≡ l.initial.text.items ++ spaced (map signed_decimal l.values)
