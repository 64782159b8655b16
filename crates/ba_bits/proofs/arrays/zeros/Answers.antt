use Rattle.std.proofs.Common.{◌≡◌, rules, length, replicate, subst, sym, ap, ◌∙◌}
use Rattle.std.proofs.lemmas.List.{length-replicate}
use Rattle.ba_bits.proofs.Elements.{all-equal, cells-replicate, numbers-replicate}
use Rattle.ba_bits.specs.Bits.{numbers_in}
use Rattle.ba_cells.specs.Cells.{AreCellsOf}
use Rattle.ba_bits.proofs.arrays.zeros.Goals as goal

equal-words : (c : goal.After-from_vec) → c.from_vec.result ≡ replicate c.args.count c.constant_word.result
equal-words c = c.from_vec.ensures ∙ c.in_ok-resize.ensures.items
    ∙ all-equal c.args.count c.in_ok-words.words.len c.in_ok-words.words.items c.constant_word.result
    c.in_ok-words.ensures.items (search rules)

pub returns-clause-cells : goal.returns-clause-cells
returns-clause-cells c nodes = subst (λ words. AreCellsOf nodes words) (sym (equal-words c))
    (cells-replicate nodes c.args.count c.constant_word.result (c.constant_word.ensures nodes).are_bits)

pub returns-clause-numbers : goal.returns-clause-numbers
returns-clause-numbers c nodes free = ap (numbers_in free nodes) (equal-words c)
    ∙ numbers-replicate free nodes c.args.count c.constant_word.result 0
    ((c.constant_word.ensures nodes).holds free)

pub returns-clause-zeros : goal.returns-clause-zeros
returns-clause-zeros c nodes free =
    returns-clause-numbers c nodes free
    ∙ ap (λ n. replicate n 0)
    (sym (ap length (equal-words c) ∙ length-replicate c.args.count c.constant_word.result))
