use Rattle.ba_cert.proofs.CertificateLaws.{old-once, versions-apart}
use Rattle.ba_cert.proofs.laws.old_text_is_of_one_derivation.Goals as goal

pub returns : goal.returns
returns c = record { once = old-once; apart = versions-apart }
