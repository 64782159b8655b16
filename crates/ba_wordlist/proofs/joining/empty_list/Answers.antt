use Rattle.ba_wordlist.proofs.Joined.{list-empty}
use Rattle.ba_wordlist.proofs.joining.empty_list.Goals as goal

pub invariant_of-result : goal.invariant_of-result
invariant_of-result c = record {
  fit = list-empty c.new.result c.new-2.result c.new-3.result c.new.ensures c.new-2.ensures c.new-3.ensures;
}
