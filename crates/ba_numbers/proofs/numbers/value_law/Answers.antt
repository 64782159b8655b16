use Rattle.ba_numbers.proofs.Conversions.{value_in_range, value_of_one_in_range, compared, tested}
use Rattle.ba_numbers.proofs.numbers.value_law.Goals as goal

pub returns : goal.returns
returns c = record {
  in_range = value_in_range;
  in_range_one = value_of_one_in_range;
  compared = compared;
  tested = tested;
}
