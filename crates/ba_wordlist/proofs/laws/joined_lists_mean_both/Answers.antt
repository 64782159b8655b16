use Rattle.ba_wordlist.proofs.Joined.{law-holds, law-visits}
use Rattle.ba_wordlist.proofs.laws.joined_lists_mean_both.Goals as goal

pub returns-clause-holds : goal.returns-clause-holds
returns-clause-holds c = law-holds

pub returns-clause-visits : goal.returns-clause-visits
returns-clause-visits c = law-visits
