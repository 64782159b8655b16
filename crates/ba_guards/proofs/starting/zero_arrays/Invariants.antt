use Rattle.std.proofs.Common.{◌≡◌, true, take}
use Rattle.std.specs.List.{list_all}
use Rattle.ba_code.specs.Facts.{is_array_info}
use Rattle.ba_guards.specs.Starting.{AreZero}
use Rattle.ba_wordlist.specs.Facts.{are_words}
use Rattle.ba_guards.proofs.starting.zero_arrays.Given as goal

abbrev pub invariant-loop-info : goal.invariant-loop-info
invariant-loop-info l = are_words l.initial.words ≡ true → list_all is_array_info l.arrays ≡ true
    → AreZero l.initial.words l.words l.versions (take l.info-index l.arrays)
