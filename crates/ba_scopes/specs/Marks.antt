-- What the end of a scope restores.

use Rattle.std.specs.Prelude.{length, take}
use Rattle.ba_typing.specs.Names.{Scope}
use Rattle.ba_scopes.specs.declared.scopes.Mark.{Mark}

-- what is noted of a scope
abbrev pub mark_of : Scope → Mark
mark_of scope = record {
  count = length scope.known;
  depth = scope.depth;
  exits = scope.exits;
  result =
      scope.result;
}

-- the scope as it was when the mark was made
abbrev pub back_to : Mark → Scope → Scope
back_to mark scope = record scope {
  known = take mark.count scope.known;
  depth = mark.depth;
  exits =
      mark.exits;
  result = mark.result;
}
