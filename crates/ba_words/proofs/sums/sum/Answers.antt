use Rattle.std.proofs.Common.{refl, rules}
use Rattle.ba_nodes.specs.Gates.{truth}
use Rattle.ba_words.specs.Words.{digit, number_of, low_number}
use Rattle.ba_words.proofs.Carries.{from_lowest}
use Rattle.ba_words.proofs.Outcomes.{on_ok, makes_word}
use Rattle.ba_words.proofs.sums.sum.Goals as goal

pub returns : goal.returns
returns c = makes_word (search rules)
    (on_ok c.sum_from.result _ _
    (λ word has. from_lowest c.sum_from.new.nodes word (λ free. number_of free c.args.nodes.now c.args.a.now)
    (λ free. number_of free c.args.nodes.now c.args.b.now) (λ free. low_number free c.args.nodes.now c.args.b.now 0)
    (λ free. digit (truth free c.args.nodes.now c.args.carry)) (λ free. refl) has)
    c.sum_from.ensures.number)
