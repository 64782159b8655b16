use Rattle.ba_typing_facts.proofs.WholeFacts.{parts_fit}
use Rattle.ba_typing_facts.proofs.typed_programs_are_sound.Goals as goal

pub returns : goal.returns
returns c tree parts none typed = parts_fit tree parts none typed
