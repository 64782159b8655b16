use Rattle.std.proofs.Common.{◌≡◌, ◌++◌, drop}
use Rattle.ba_text.specs.Texts.{choices_text}
use Rattle.ba_text.proofs.choices.push_choices.Given as goal

-- the text so far and what is left are the whole
abbrev pub invariant-loop-choice : goal.invariant-loop-choice
invariant-loop-choice l =
    l.text.items ++ choices_text (drop l.choice-index l.choices)
    ≡ l.initial.text.items ++ choices_text l.choices
