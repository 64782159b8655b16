use Rattle.std.proofs.Common.{◌≡◌, ◌+◌, length}
use Rattle.std.specs.List.{position_from, zip}
use Rattle.ba_tree.specs.Inputs.{first_where, is_outside}
use Rattle.ba_inputs.proofs.input.first_outside.Given as goal

abbrev pub invariant-loop-t : goal.invariant-loop-t
invariant-loop-t l = record {
  first : first_where is_outside (zip l.types l.numbers)
      ≡ position_from is_outside (l.number + 1) (zip l.t-iterator.a.rest.now l.t-iterator.b.rest.now);
  few : l.number + length l.t-iterator.b.rest.now ≡ length l.numbers;
}
