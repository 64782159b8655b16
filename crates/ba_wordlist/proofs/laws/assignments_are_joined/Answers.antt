use Rattle.ba_wordlist.proofs.Joined.{pair-holds, pair-visits}
use Rattle.ba_wordlist.proofs.laws.assignments_are_joined.Goals as goal

pub returns-clause-holds : goal.returns-clause-holds
returns-clause-holds c = pair-holds

pub returns-clause-visits : goal.returns-clause-visits
returns-clause-visits c = pair-visits
