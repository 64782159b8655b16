use Rattle.std.proofs.Common.{◌≡◌, ◌∙◌, sym, subst}
use Rattle.ba_cases.specs.AtOnce.{weights_of}
use Rattle.ba_choices.specs.Judges.{Judge}
use Rattle.ba_derivations.specs.Encodings.{IsFaithful}
use Rattle.ba_encode.specs.Softs.{softs_of}
use Rattle.ba_judge.proofs.Judges.{same-judge}
use Rattle.ba_tree.specs.Least.{judge_of}
use Rattle.mode_check.proofs.Concluding.{faithful_case, judged_ends, no_memory_ends}
use Rattle.mode_check.specs.Checks.{one_run}
use Rattle.mode_check.proofs.certificates.check_case.Goals as goal

pub check_over-requires-clause-clauses : goal.check_over-requires-clause-clauses
check_over-requires-clause-clauses g c =
    let made = c.in_ok-encoded.ensures.faithful in record {
      clauses = made.clauses;
      softs_among = made.selectors.among;
      softs_differ = made.selectors.differ;
    }

pub check_over-requires-clause-selectors : goal.check_over-requires-clause-selectors
check_over-requires-clause-selectors g c = c.in_ok-encoded.ensures.faithful.selectors

pub returns-in_err-encoded-clause-ends : goal.returns-in_err-encoded-clause-ends
returns-in_err-encoded-clause-ends g c = λ x is.
    no_memory_ends (one_run c.args.job.now) c.args.job.now x (g.W.World.outside c.args.world.now)
    (g.D.StepSink.told c.args.steps.now) c.from_residual.result c.from_residual.ensures.1

pub returns-clause-ends : goal.returns-clause-ends
returns-clause-ends g c = λ x is.
    let j = c.args.job.now in
    let case = c.args.case.now in
    let s = one_run j in
    let encoded = c.in_ok-encoded.encoded in
    let judge = c.new-judge.result in
    let good : Judge = judge_of judge.program.now judge.input.now judge.bounds in
    let same : good ≡ s.judge x case.program =
    same-judge judge.program.now case.program judge.input.now _ judge.bounds j.bounds
    c.new-judge.ensures.program
    (c.new-judge.ensures.input ∙ is.input) c.new-judge.ensures.bounds in
    let faithful : IsFaithful encoded.formula (softs_of encoded.groups) (weights_of case.program x) good =
    subst (λ (good : Judge). IsFaithful encoded.formula (softs_of encoded.groups) (weights_of case.program x)
    good)
    (sym same) (faithful_case j x case is encoded c.in_ok-encoded.ensures) in
    judged_ends s j x case.program is.spells is.undecided (g.W.World.outside c.args.world.now)
    (g.W.World.outside c.check_over.new.world) (g.D.StepSink.told c.args.steps.now)
    (g.D.StepSink.told c.check_over.new.steps) good c.check_over.result same
    (c.check_over.ensures.ends (weights_of case.program x) faithful)
