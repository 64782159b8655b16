use Rattle.std.proofs.Common.{ℕ, ◌≡◌, true}
use Rattle.std.specs.List.{list_all}
use Rattle.ba_code.specs.Facts.{is_param}
use Rattle.ba_code.specs.Run.{with_params}
use Rattle.ba_code.specs.State.{CodeState}
use Rattle.ba_guards.proofs.Beginning.{Gives}
use Rattle.ba_guards.specs.Parts.{declared}
use Rattle.ba_guards.specs.Starting.{Starts}
use Rattle.ba_wordlist.specs.Facts.{is_word_value}
use Rattle.ba_guards.proofs.starting.give_input.Given as goal

abbrev pub invariant-loop-param : goal.invariant-loop-param
invariant-loop-param l = (vars : ℕ) (s : CodeState) → Starts (declared vars l.arrays) l.initial.b s
    → list_all (is_param (declared vars l.arrays)) l.params ≡ true →
    list_all (list_all is_word_value) l.given ≡ true
    → Gives (declared vars l.arrays) l.b l.param-iterator.a.rest.now l.param-iterator.b.rest.now
    (with_params l.params l.given s)
