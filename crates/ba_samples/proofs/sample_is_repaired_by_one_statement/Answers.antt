use Rattle.ba_samples.proofs.Costs.{units_are}
use Rattle.ba_samples.proofs.Sets.{least_sets, plain_fails, sets_weigh}
use Rattle.ba_samples.proofs.sample_is_repaired_by_one_statement.Goals as goal

pub returns : goal.returns
returns c = record {
  units = λ n p same b. units_are n p same b;
  fails = λ n p few same i b. plain_fails n p same few i b;
  weight = λ n p same set has. sets_weigh n p same set has;
  sets = λ n p few same i b. least_sets n p same few i b;
}
