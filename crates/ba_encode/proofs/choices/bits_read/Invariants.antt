use Rattle.std.proofs.Common.{◌≡◌, ◌-◌, ◌<◌, ◌^◌, drop, map}
use Rattle.ba_clauses.specs.Encodings.{value_read}
use Rattle.ba_lits.specs.Satisfaction.{assignment_of}
use Rattle.ba_words.specs.Words.{spelled}
use Rattle.ba_encode.proofs.choices.bits_read.Given as goal

abbrev pub invariant-loop-i : goal.invariant-loop-i
invariant-loop-i l = record {
  number : l.number ≡ spelled (map (value_read (assignment_of l.model.values)) (drop (32 - l.i) l.bits));
  small : l.number < 2 ^ l.i;
}
