-- How an answer of the interpreter's functions relates to the meaning of C.

use Rattle.std.specs.Prelude.{◌≡◌, List, Result, Ok, Err}
use Rattle.std.specs.Global.{Vec}
use Rattle.ba_tree.specs.State.{State, Ending}
use Rattle.ba_interp.specs.declared.stop.Stop.{Stop}
use Rattle.ba_interp.specs.declared.stop.Stop.TheVariants.{Halts, Memory}

-- The part did what its meaning says: it has the same value or end, and the same state. If memory runs out,
-- nothing is said.
abbrev pub Did : {A : Type 0} → Result A Stop → State → Ending A → Type 0
Did (Ok a) s end = end ≡ (Ok a, s)
Did (Err (Halts h)) s end = end ≡ (Err h, s)
Did (Err Memory) s end = Unit {0}

-- a result with its value changed
abbrev pub ok_map : {A B : Type 0} → (A → B) → Result A Stop → Result B Stop
ok_map f (Ok a) = Ok (f a)
ok_map f (Err stop) = Err stop

-- the same for a vector of values
abbrev pub DidAll : {A : Type 0} → Result (Vec A) Stop → State → Ending (List A) → Type 0
DidAll result s end = Did (ok_map (λ (v : Vec _). v.items) result) s end
