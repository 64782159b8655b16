use Rattle.ba_check.proofs.CertificateLaws.{accepted-exactly}
use Rattle.ba_check.proofs.laws.accepted_law.Goals as goal

pub returns : goal.returns
returns c = accepted-exactly
