use Rattle.std.proofs.Common.{refl, subst}
use Rattle.ba_cases.specs.Programs.{TellsFault}
use Rattle.ba_cases.proofs.programs.read_program.Goals as goal

pub returns-in-Err-Some-clause-err : goal.returns-in-Err-Some-clause-err
returns-in-Err-Some-clause-err c = (
  c.in-Err-Some.fault,
  subst (TellsFault c.args.source.now) c.in-Err-Some.field-0-is
      c.in-Err-Some.ensures.err,
  refl,
)
