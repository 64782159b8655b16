-- THE ORDER OF PLACES, by statement and then by path. Paths are compared step by step, and one that another
-- goes on from comes first.

use Rattle.std.specs.Prelude.{Bool, List}
use Rattle.std.specs.Cmp.Lexicographic.{slice_cmp}
use Rattle.std.specs.Ordering.{eq_by_cmp, nat_cmp, ordering_then}
use Rattle.std.specs.declared.cmp.Ordering.{Ordering}
use Rattle.std.specs.declared.cmp.Ordering.TheVariants.{Less, Greater}
use Rattle.ba_tree.specs.declared.run.Place.{Place}
use Rattle.ba_tree.specs.declared.run.Step.{Step}
use Rattle.ba_tree.specs.declared.run.Step.TheVariants.{Call, Turn}

-- a call comes before an iteration; calls go by their numbers, iterations by the statement of the condition
-- and then by their number
abbrev pub step_cmp : Step → Step → Ordering
step_cmp (Call c) (Call d) = nat_cmp c.0 d.0
step_cmp (Call c) (Turn l m) = Less
step_cmp (Turn l m) (Call c) = Greater
step_cmp (Turn l m) (Turn k n) = ordering_then (nat_cmp l.0 k.0) (nat_cmp m n)

abbrev pub path_cmp : List Step → List Step → Ordering
path_cmp = slice_cmp step_cmp

abbrev pub place_cmp : Place → Place → Ordering
place_cmp a b = ordering_then (nat_cmp a.stmt.0 b.stmt.0) (path_cmp a.path b.path)

abbrev pub same_place : Place → Place → Bool
same_place = eq_by_cmp place_cmp

-- the order of two sets is the lexicographic one of their ascending lists
abbrev pub set_cmp : List Place → List Place → Ordering
set_cmp = slice_cmp place_cmp
