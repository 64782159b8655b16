-- What is added to a text.

use Rattle.std.specs.Prelude.{◌≡◌, Result, OnOk, ℕ, List, ◌++◌}
use Rattle.std.specs.Global.{Vec}
use Rattle.std.specs.declared.alloc.AllocError.{AllocError}

-- these bytes are added to the text; out of memory says nothing
abbrev pub Adds : Result Unit AllocError → Vec ℕ → Vec ℕ → List ℕ → Type 0
Adds result old new bytes = OnOk result (new.items ≡ old.items ++ bytes)
