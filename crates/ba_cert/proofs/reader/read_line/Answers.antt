use Rattle.std.proofs.Common.{refl}
use Rattle.ba_cert.specs.Reading.{step_in}
use Rattle.ba_cert.proofs.LineLaws.{step-read}
use Rattle.ba_cert.proofs.reader.read_line.Goals as goal

pub returns-clause-reads : goal.returns-clause-reads
returns-clause-reads c = step-read c.args.line.now (step_in c.args.line.now) refl
