use Rattle.std.proofs.Common.{◌≡◌, ◌++◌, drop, length}
use Rattle.ba_tree.specs.Inputs.{types_for, values_for}
use Rattle.ba_inputs.proofs.input.values_for.Given as goal

abbrev pub invariant-loop-param : goal.invariant-loop-param
invariant-loop-param l = record {
  whole : values_for l.program l.params l.numbers
      ≡ l.lists.items ++ values_for l.program (drop l.param-index l.params) l.rest;
  enough : length l.rest ≡ length (types_for l.program (drop l.param-index l.params));
}
