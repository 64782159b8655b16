use Rattle.ba_places.proofs.Suspects.{all_least, too_many}
use Rattle.ba_places.proofs.laws.least_by_number.Goals as goal

pub returns-clause-all : goal.returns-clause-all
returns-clause-all c weights good places sets suspects = all_least weights good places suspects sets

pub returns-clause-too_many : goal.returns-clause-too_many
returns-clause-too_many c weights good places members most sets suspects =
    too_many weights good places suspects members most sets
