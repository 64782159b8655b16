use Rattle.std.proofs.Common.{◌∙◌}
use Rattle.ba_commands.proofs.Forms.{option_among, no_option_among}
use Rattle.ba_commands.proofs.words.is_option_of.Goals as goal

pub returns-in-Some : goal.returns-in-Some
returns-in-Some c = c.stands.ensures
    ∙ option_among c.args.names.now c.args.word.now c.in-Some.name.now c.in-Some.ensures

pub returns-in-None : goal.returns-in-None
returns-in-None c = no_option_among c.args.names.now c.args.word.now c.in-None.ensures
