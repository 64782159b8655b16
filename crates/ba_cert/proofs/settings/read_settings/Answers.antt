use Rattle.std.proofs.Common.{ap, ◌∙◌}
use Rattle.ba_cert.specs.Reading.{settings_at}
use Rattle.ba_cert.proofs.SettingsLaws.{settings-read}
use Rattle.ba_cert.proofs.settings.read_settings.Goals as goal

pub returns-clause-reads : goal.returns-clause-reads
returns-clause-reads c = settings-read c.args.line.now c.settings_at.result
    (c.settings_at.ensures ∙ ap settings_at c.new-parts.ensures)
