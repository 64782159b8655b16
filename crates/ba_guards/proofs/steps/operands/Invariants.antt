use Rattle.std.proofs.Common.{◌≡◌, true, take}
use Rattle.std.specs.List.{list_all}
use Rattle.ba_code.specs.Facts.{Declared, is_operand}
use Rattle.ba_guards.specs.Making.{Fits, ReadsAll}
use Rattle.ba_guards.proofs.steps.operands.Given as goal

abbrev pub invariant-loop-value : goal.invariant-loop-value
invariant-loop-value l = (d : Declared) → Fits d l.initial.b → list_all (is_operand d) l.values ≡ true
    → ReadsAll d l.initial.b l.b l.words (take l.value-index l.values)
