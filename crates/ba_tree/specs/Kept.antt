-- The parts of a program.

use Rattle.ba_tree.specs.declared.tree.Parts.{Parts}
use Rattle.ba_tree.specs.declared.tree.Program.{Program}

-- the parts of a program, for whose facts `is_program` is defined
abbrev pub parts_of : Program → Parts
parts_of p = record {
  variables = p.variables;
  globals = p.globals;
  inits = p.inits;
  functions = p.functions;
  main = p.main;
  statements = p.statements;
}
