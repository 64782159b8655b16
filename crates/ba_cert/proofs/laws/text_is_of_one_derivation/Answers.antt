use Rattle.ba_cert.proofs.CertificateLaws.{text-once}
use Rattle.ba_cert.proofs.laws.text_is_of_one_derivation.Goals as goal

pub returns : goal.returns
returns c = text-once
