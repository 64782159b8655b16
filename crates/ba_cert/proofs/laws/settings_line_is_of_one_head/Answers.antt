use Rattle.ba_cert.proofs.SettingsLaws.{settings-once}
use Rattle.ba_cert.proofs.laws.settings_line_is_of_one_head.Goals as goal

pub returns : goal.returns
returns c = settings-once
