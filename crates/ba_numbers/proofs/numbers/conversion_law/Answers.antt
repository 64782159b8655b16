use Rattle.ba_numbers.proofs.Conversions.{converted_in_range, converted_congruent, converted_own, converted_only}
use Rattle.ba_numbers.proofs.numbers.conversion_law.Goals as goal

pub returns : goal.returns
returns c = record {
  in_range = converted_in_range;
  congruent = converted_congruent;
  own = converted_own;
  only = converted_only;
}
