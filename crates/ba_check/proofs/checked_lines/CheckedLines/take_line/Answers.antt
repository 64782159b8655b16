use Rattle.std.proofs.Common.{sym, subst}
use Rattle.ba_check.specs.Readings.{Keeps}
use Rattle.ba_check.proofs.CodeLaws.{head-line, settings-line, step-line}
use Rattle.ba_check.proofs.checked_lines.CheckedLines.take_line.Goals as goal

pub returns-in-Head : goal.returns-in-Head
returns-in-Head g c =
    subst (Keeps c.take_head.result c.take_head.new.self)
    (sym (head-line c.args.head.now (g.J.RunJudge.accepts c.args.judge.now) c.args.self.now c.args.line.now
    c.in-Head.is))
    c.take_head.ensures

pub returns-in-Settings : goal.returns-in-Settings
returns-in-Settings g c =
    subst (Keeps c.take_settings.result c.take_settings.new.self)
    (sym (settings-line c.args.head.now (g.J.RunJudge.accepts c.args.judge.now) c.args.self.now
    c.args.line.now c.in-Settings.is))
    c.take_settings.ensures

pub returns-in-Steps : goal.returns-in-Steps
returns-in-Steps g c =
    subst (Keeps c.take_step.result c.take_step.new.self)
    (sym (step-line c.args.head.now (g.J.RunJudge.accepts c.args.judge.now) c.args.self.now c.args.line.now
    c.in-Steps.is))
    c.take_step.ensures
