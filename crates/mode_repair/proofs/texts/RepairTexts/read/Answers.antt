use Rattle.std.proofs.Common.{◌∙◌}
use Rattle.ba_cases.proofs.EachText.{each_read}
use Rattle.mode_repair.proofs.texts.RepairTexts.read.Goals as goal

pub texts_of-requires : goal.texts_of-requires
texts_of-requires g c =
    each_read c.args.files.now c.in-Ok.texts.items _ _ c.in-Ok.ensures.ok ∙ c.requires
