use Rattle.std.proofs.Common.{◌≡◌, arith, ℕ, true, ◌==◌, length, sym, ◌∙◌}
use Rattle.std.proofs.lemmas.Bool.Decides.{nat_tests}
use Rattle.ba_cores.specs.Rounds.{literals_of}
use Rattle.ba_cores.proofs.DerivesLaws.{puts_none, leaves_none}
use Rattle.ba_cores.proofs.LeastLaws.{none_of_core}
use Rattle.ba_cores.proofs.rounds.take_core.Goals as goal

no_literal : (n : ℕ) → (n == 0) ≡ true → n ≡ 0
no_literal n e = grind (arith, nat_tests)

pub returns-then-is_empty-clause-found : goal.returns-then-is_empty-clause-found
returns-then-is_empty-clause-found g c =
    let log = g.L.ProofLog.log c.args.log.now in
    none_of_core log (literals_of log.checker.softs) c.args.core.lits
    c.args.core.hints c.args.core.back c.requires.core c.requires.stands.ready.none_blocked
    (no_literal (length c.args.core.lits) (sym c.is_empty.ensures ∙ c.if-is_empty.true))

pub returns-then-is_empty-clause-put : goal.returns-then-is_empty-clause-put
returns-then-is_empty-clause-put g c =
    record { goes_on = c.requires.stands.goes_on; puts = puts_none (g.L.ProofLog.log c.args.log.now) }

pub returns-then-is_empty-clause-leaves : goal.returns-then-is_empty-clause-leaves
returns-then-is_empty-clause-leaves g c = leaves_none (g.L.ProofLog.log c.args.log.now)
