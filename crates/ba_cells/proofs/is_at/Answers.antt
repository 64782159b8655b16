use Rattle.std.proofs.Common.{◌&&◌, ◌∙◌, rules}
use Rattle.ba_words.specs.Words.{low_number}
use Rattle.ba_words.proofs.Circuits.{HasValue-same}
use Rattle.ba_words.proofs.Outcomes.{makes_bit, on_ok}
use Rattle.ba_cells.proofs.Places.{in_grid}
use Rattle.ba_cells.proofs.is_at.Goals as goal

pub returns : goal.returns
returns c = makes_bit (search rules)
    (on_ok c.and.result _ _ (λ bit has. HasValue-same c.and.new.self bit _ _ has (λ free.
    (λ i. c.requires.row.holds free i && c.requires.column.holds free i)
    ∙ in_grid c.args.width (low_number free c.args.nodes.now c.args.index.now 8) c.args.place
    c.requires.some))
    c.and.ensures.makes.value)
