use Rattle.std.proofs.Common.{◌≡◌, Option, None, Some, List, [], sym, ap}
use Rattle.std.specs.Prelude.{MatchOption}
use Rattle.ba_typing.specs.Faults.{IsFirst}
use Rattle.ba_expressions.specs.Inferring.{least_with}
use Rattle.ba_typing.specs.declared.fault.Fault.{Fault}
use Rattle.ba_expressions.specs.declared.tally.Tally.{Tally}
use Rattle.ba_expressions.proofs.Least.{least-is, least-none}
use Rattle.ba_expressions.proofs.tally.Tally.first_fault.Goals as goal

decided : (found : Option Fault) (faults : List Fault) → least_with None faults ≡ found
    → MatchOption found (faults ≡ []) (IsFirst faults)
decided None faults e = least-none faults e
decided (Some f) faults e = least-is faults f e

pub returns : goal.returns
returns c calls faults is = decided c.args.self.now.least faults (sym (ap (λ (t : Tally). t.least) is))
