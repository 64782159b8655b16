use Rattle.std.proofs.Common.{◌≡◌, ◌+◌, ◌-◌, ◌≤◌, [], length}
use Rattle.ba_cores.specs.Rounds.{literals_of}
use Rattle.ba_enum.specs.Leading.{AddsSets, IsNextModel, IsReady}
use Rattle.ba_checker.specs.Puts.{Lasts}
use Rattle.ba_search.specs.Searching.{MayGoOn}
use Rattle.ba_enum.proofs.enumerating.enumerate.Given as goal

abbrev pub invariant-turns : goal.invariant-turns
invariant-turns g l =
    let first = g.L.ProofLog.log l.initial.log in
    let log = g.L.ProofLog.log l.log in
    let encoded = l.task.encoded.now in
    record {
      goes_on : MayGoOn l.search log;
      adds : AddsSets encoded first log [] l.found;
      next : IsNextModel encoded log l.model.values;
      assumed : l.task.assumptions.items ≡ literals_of log.checker.softs;
      listed : log.checker.most_sets ≡ l.task.sets;
      few : length l.found ≤ l.task.sets;
      ready : IsReady log.checker;
      rules : l.search.rules ≡ l.initial.search.rules;
      propagated : l.initial.search.propagated ≤ l.search.propagated;
      lasts : Lasts first log;
    }

abbrev pub decreases-turns : goal.decreases-turns
decreases-turns g l = (l.task.sets + 1) - length l.found
