-- What each form of an expression does, from what its operands do.
use Rattle.std.proofs.Common.{◌≡◌, true, false, ℤ, pos, Result, Ok, Err, List, ◌∷◌, map, sym, ap, subst}
use Rattle.std.specs.Global.{Box, Vec}
use Rattle.std.specs.Ordering.{int_eq}
use Rattle.ba_numbers.specs.Numbers.{value_of, value_of_one, converted}
use Rattle.ba_numbers.specs.declared.ids.StmtId.{StmtId}
use Rattle.ba_numbers.specs.declared.ids.VarId.{VarId}
use Rattle.ba_numbers.specs.declared.ids.FnId.{FnId}
use Rattle.ba_numbers.specs.declared.ids.CallId.{CallId}
use Rattle.ba_numbers.specs.declared.numbers.CType.{CType}
use Rattle.ba_numbers.specs.declared.numbers.BinOp.{BinOp}
use Rattle.ba_numbers.specs.declared.numbers.UnOp.{UnOp}
use Rattle.ba_tree.specs.Acts.{give, then_do, each, fork}
use Rattle.ba_tree.specs.State.{State, Act, Ending, value_at, location_of, element_at}
use Rattle.ba_tree.specs.Meaning.{Context, eval, eval_arg, or_trap, truth_of}
use Rattle.ba_tree.specs.declared.run.Argument.{Argument}
use Rattle.ba_tree.specs.declared.run.Step.{Step}
use Rattle.ba_tree.specs.declared.run.Step.TheVariants.{Call}
use Rattle.ba_tree.specs.declared.tree.Arg.{Arg}
use Rattle.ba_tree.specs.declared.tree.Arg as arg
use Rattle.ba_tree.specs.declared.tree.Expr.{Expr}
use Rattle.ba_tree.specs.declared.tree.Expr as tree
use Rattle.ba_tree.proofs.Equations.{eval-Const, eval-Var, eval-Element, eval-Unary, eval-Binary, eval-AndAlso, eval-OrElse, eval-Select, eval-Convert, eval-Call, eval_arg-Value, eval_arg-Array}
use Rattle.ba_interp.specs.Doing.{Did}
use Rattle.ba_interp.specs.declared.stop.Stop.{Stop}
use Rattle.ba_interp.specs.Settings.{call_value_at}
use Rattle.ba_interp.proofs.Steps.{did-is, did-end, did-then, did-give, fork-zero, fork-other}

module _ (x : Context) (path : List Step) (here : StmtId) (e : Expr) (s : State) where
  pub const-is : (t : CType) (z v : ℤ) → e ≡ tree.Const t z → z ≡ v → Did (Ok v) s (eval x path here e s)
  const-is t z v is same = did-is (Ok v) s (eval x path here e s) (Ok z, s) (eval-Const x path here e s t z
      is) (did-give z v s same)

  pub var-is : (var : VarId) (v : ℤ) → e ≡ tree.Var var → v ≡ value_at s var
      → Did (Ok v) s (eval x path here e s)
  var-is var v is same =
      did-is (Ok v) s (eval x path here e s) (Ok (value_at s var), s) (eval-Var x path here e s var is)
      (did-give (value_at s var) v s (sym same))

  module _ (array : VarId) (index : Box Expr) (is : e ≡ tree.Element array index) (r : Result ℤ Stop) (t :
      State) where
    abbrev of_index : ℤ → Act ℤ
    of_index i s = or_trap here (element_at s array i) s

    pub element-ends : (stop : Stop) → r ≡ Err stop → Did (Err stop) t (eval x path here index.value s)
        → Did r t (eval x path here e s)
    element-ends stop ended did = did-is r t (eval x path here e s) (then_do (eval x path here index.value s)
        of_index)
        (eval-Element x path here e s array index is) (did-end r stop t (eval x path here index.value s)
        of_index ended did)

    pub element-is : (i : ℤ) → Did (Ok i) t (eval x path here index.value s)
        → Did r t (or_trap here (element_at t array i) t)
        → Did r t (eval x path here e s)
    element-is i did then_is = did-is r t (eval x path here e s) (then_do (eval x path here index.value s)
        of_index)
        (eval-Element x path here e s array index is) (did-then i r t t (eval x path here index.value s)
        of_index did then_is)

  module _ (op : UnOp) (ty : CType) (a : Box Expr) (is : e ≡ tree.Unary op ty a) (t : State) where
    pub unary-ends : (r : Result ℤ Stop) (stop : Stop) → r ≡ Err stop
        → Did (Err stop) t (eval x path here a.value s) → Did r t (eval x path here e s)
    unary-ends r stop ended did = did-is r t (eval x path here e s) (then_do (eval x path here a.value s) (λ
        z. give (value_of_one op ty z)))
        (eval-Unary x path here e s op ty a is) (did-end r stop t (eval x path here a.value s) (λ z. give
        (value_of_one op ty z)) ended did)

    pub unary-is : (z v : ℤ) → Did (Ok z) t (eval x path here a.value s) → v ≡ value_of_one op ty z
        → Did (Ok v) t (eval x path here e s)
    unary-is z v did same = did-is (Ok v) t (eval x path here e s) (then_do (eval x path here a.value s) (λ z.
        give (value_of_one op ty z)))
        (eval-Unary x path here e s op ty a is)
        (did-then z (Ok v) t t (eval x path here a.value s) (λ z. give (value_of_one op ty z)) did (did-give
        (value_of_one op ty z) v t (sym same)))

  module _ (ty : CType) (a : Box Expr) (is : e ≡ tree.Convert ty a) (t : State) where
    pub convert-ends : (r : Result ℤ Stop) (stop : Stop) → r ≡ Err stop
        → Did (Err stop) t (eval x path here a.value s) → Did r t (eval x path here e s)
    convert-ends r stop ended did = did-is r t (eval x path here e s) (then_do (eval x path here a.value s) (λ
        z. give (converted ty z)))
        (eval-Convert x path here e s ty a is) (did-end r stop t (eval x path here a.value s) (λ z. give
        (converted ty z)) ended did)

    pub convert-is : (z v : ℤ) → Did (Ok z) t (eval x path here a.value s) → v ≡ converted ty z
        → Did (Ok v) t (eval x path here e s)
    convert-is z v did same = did-is (Ok v) t (eval x path here e s) (then_do (eval x path here a.value s) (λ
        z. give (converted ty z)))
        (eval-Convert x path here e s ty a is)
        (did-then z (Ok v) t t (eval x path here a.value s) (λ z. give (converted ty z)) did (did-give
        (converted ty z) v t (sym same)))

  module _ (op : BinOp) (ty : CType) (a b : Box Expr) (is : e ≡ tree.Binary op ty a b) (r : Result ℤ Stop)
    where
      abbrev with_left : ℤ → ℤ → Act ℤ
      with_left y z = or_trap here (value_of op ty y z)

      abbrev with_first : ℤ → Act ℤ
      with_first y s = then_do (eval x path here b.value s) (with_left y)

      pub binary-ends : (stop : Stop) (t : State) → r ≡ Err stop
          → Did (Err stop) t (eval x path here a.value s) → Did r t (eval x path here e s)
      binary-ends stop t ended did = did-is r t (eval x path here e s) (then_do (eval x path here a.value s)
          with_first)
          (eval-Binary x path here e s op ty a b is) (did-end r stop t (eval x path here a.value s) with_first
          ended did)

      binary-first : (y : ℤ) (t u : State) → Did (Ok y) t (eval x path here a.value s)
          → Did r u (with_first y t) → Did r u (eval x path here e s)
      binary-first y t u did then_is = did-is r u (eval x path here e s) (then_do (eval x path here a.value s)
          with_first)
          (eval-Binary x path here e s op ty a b is) (did-then y r t u (eval x path here a.value s) with_first
          did then_is)

      pub binary-second-ends : (stop : Stop) (y : ℤ) (t u : State) → Did (Ok y) t (eval x path here a.value s)
          → r ≡ Err stop
          → Did (Err stop) u (eval x path here b.value t) → Did r u (eval x path here e s)
      binary-second-ends stop y t u did ended second =
          binary-first y t u did (did-end r stop u (eval x path here b.value t) (with_left y) ended second)

      pub binary-is : (y z : ℤ) (t u : State) → Did (Ok y) t (eval x path here a.value s)
          → Did (Ok z) u (eval x path here b.value t)
          → Did r u (or_trap here (value_of op ty y z) u) → Did r u (eval x path here e s)
      binary-is y z t u did second both =
          binary-first y t u did (did-then z r u u (eval x path here b.value t) (with_left y) second both)

  abbrev to_truth : ℤ → Act ℤ
  to_truth z = give (truth_of z)

  module _ (a b : Box Expr) (is : e ≡ tree.AndAlso a b) where
    abbrev and_then : ℤ → Act ℤ
    and_then = fork (λ s. then_do (eval x path here b.value s) to_truth) (give (pos 0))

    pub and-ends : (r : Result ℤ Stop) (stop : Stop) (t : State) → r ≡ Err stop
        → Did (Err stop) t (eval x path here a.value s) → Did r t (eval x path here e s)
    and-ends r stop t ended did = did-is r t (eval x path here e s) (then_do (eval x path here a.value s)
        and_then)
        (eval-AndAlso x path here e s a b is) (did-end r stop t (eval x path here a.value s) and_then ended
        did)

    and-first : (r : Result ℤ Stop) (y : ℤ) (t u : State) → Did (Ok y) t (eval x path here a.value s)
        → Did r u (and_then y t) → Did r u (eval x path here e s)
    and-first r y t u did then_is = did-is r u (eval x path here e s) (then_do (eval x path here a.value s)
        and_then)
        (eval-AndAlso x path here e s a b is) (did-then y r t u (eval x path here a.value s) and_then did
        then_is)

    pub and-zero : (y v : ℤ) (t : State) → Did (Ok y) t (eval x path here a.value s)
        → int_eq y (pos 0) ≡ true → v ≡ pos 0 → Did (Ok v) t (eval x path here e s)
    and-zero y v t did zero same = and-first (Ok v) y t t did
        (fork-zero y (Ok v) t t (λ s. then_do (eval x path here b.value s) to_truth) (give (pos 0)) zero
        (did-give (pos 0) v t (sym same)))

    and-other : (r : Result ℤ Stop) (y : ℤ) (t u : State) → Did (Ok y) t (eval x path here a.value s)
        → int_eq y (pos 0) ≡ false
        → Did r u (then_do (eval x path here b.value t) to_truth) → Did r u (eval x path here e s)
    and-other r y t u did other then_is = and-first r y t u did
        (fork-other y r t u (λ s. then_do (eval x path here b.value s) to_truth) (give (pos 0)) other then_is)

    pub and-second-ends : (r : Result ℤ Stop) (stop : Stop) (y : ℤ) (t u : State)
        → Did (Ok y) t (eval x path here a.value s) → int_eq y (pos 0) ≡ false
        → r ≡ Err stop → Did (Err stop) u (eval x path here b.value t) → Did r u (eval x path here e s)
    and-second-ends r stop y t u did other ended second = and-other r y t u did other (did-end r stop u (eval
        x path here b.value t) to_truth ended second)

    pub and-is : (y z v : ℤ) (t u : State) → Did (Ok y) t (eval x path here a.value s)
        → int_eq y (pos 0) ≡ false
        → Did (Ok z) u (eval x path here b.value t) → v ≡ truth_of z → Did (Ok v) u (eval x path here e s)
    and-is y z v t u did other second same = and-other (Ok v) y t u did other
        (did-then z (Ok v) u u (eval x path here b.value t) to_truth second (did-give (truth_of z) v u (sym
        same)))

  module _ (a b : Box Expr) (is : e ≡ tree.OrElse a b) where
    abbrev or_then : ℤ → Act ℤ
    or_then = fork (give (pos 1)) (λ s. then_do (eval x path here b.value s) to_truth)

    pub or-ends : (r : Result ℤ Stop) (stop : Stop) (t : State) → r ≡ Err stop
        → Did (Err stop) t (eval x path here a.value s) → Did r t (eval x path here e s)
    or-ends r stop t ended did = did-is r t (eval x path here e s) (then_do (eval x path here a.value s)
        or_then)
        (eval-OrElse x path here e s a b is) (did-end r stop t (eval x path here a.value s) or_then ended did)

    or-first : (r : Result ℤ Stop) (y : ℤ) (t u : State) → Did (Ok y) t (eval x path here a.value s)
        → Did r u (or_then y t) → Did r u (eval x path here e s)
    or-first r y t u did then_is = did-is r u (eval x path here e s) (then_do (eval x path here a.value s)
        or_then)
        (eval-OrElse x path here e s a b is) (did-then y r t u (eval x path here a.value s) or_then did
        then_is)

    pub or-other : (y v : ℤ) (t : State) → Did (Ok y) t (eval x path here a.value s)
        → int_eq y (pos 0) ≡ false → v ≡ pos 1 → Did (Ok v) t (eval x path here e s)
    or-other y v t did other same = or-first (Ok v) y t t did
        (fork-other y (Ok v) t t (give (pos 1)) (λ s. then_do (eval x path here b.value s) to_truth) other
        (did-give (pos 1) v t (sym same)))

    or-zero : (r : Result ℤ Stop) (y : ℤ) (t u : State) → Did (Ok y) t (eval x path here a.value s)
        → int_eq y (pos 0) ≡ true
        → Did r u (then_do (eval x path here b.value t) to_truth) → Did r u (eval x path here e s)
    or-zero r y t u did zero then_is = or-first r y t u did
        (fork-zero y r t u (give (pos 1)) (λ s. then_do (eval x path here b.value s) to_truth) zero then_is)

    pub or-second-ends : (r : Result ℤ Stop) (stop : Stop) (y : ℤ) (t u : State)
        → Did (Ok y) t (eval x path here a.value s) → int_eq y (pos 0) ≡ true
        → r ≡ Err stop → Did (Err stop) u (eval x path here b.value t) → Did r u (eval x path here e s)
    or-second-ends r stop y t u did zero ended second = or-zero r y t u did zero (did-end r stop u (eval x
        path here b.value t) to_truth ended second)

    pub or-is : (y z v : ℤ) (t u : State) → Did (Ok y) t (eval x path here a.value s)
        → int_eq y (pos 0) ≡ true
        → Did (Ok z) u (eval x path here b.value t) → v ≡ truth_of z → Did (Ok v) u (eval x path here e s)
    or-is y z v t u did zero second same = or-zero (Ok v) y t u did zero
        (did-then z (Ok v) u u (eval x path here b.value t) to_truth second (did-give (truth_of z) v u (sym
        same)))

  module _ (ty : CType) (when a b : Box Expr) (is : e ≡ tree.Select ty when a b) (r : Result ℤ Stop) where
    abbrev branches : ℤ → Act ℤ
    branches = fork (eval x path here a.value) (eval x path here b.value)

    pub select-ends : (stop : Stop) (t : State) → r ≡ Err stop
        → Did (Err stop) t (eval x path here when.value s) → Did r t (eval x path here e s)
    select-ends stop t ended did = did-is r t (eval x path here e s) (then_do (eval x path here when.value s)
        branches)
        (eval-Select x path here e s ty when a b is) (did-end r stop t (eval x path here when.value s)
        branches ended did)

    select-first : (y : ℤ) (t u : State) → Did (Ok y) t (eval x path here when.value s)
        → Did r u (branches y t) → Did r u (eval x path here e s)
    select-first y t u did then_is = did-is r u (eval x path here e s) (then_do (eval x path here when.value
        s) branches)
        (eval-Select x path here e s ty when a b is) (did-then y r t u (eval x path here when.value s)
        branches did then_is)

    pub select-zero : (y : ℤ) (t u : State) → Did (Ok y) t (eval x path here when.value s)
        → int_eq y (pos 0) ≡ true
        → Did r u (eval x path here b.value t) → Did r u (eval x path here e s)
    select-zero y t u did zero then_is =
        select-first y t u did (fork-zero y r t u (eval x path here a.value) (eval x path here b.value) zero
        then_is)

    pub select-other : (y : ℤ) (t u : State) → Did (Ok y) t (eval x path here when.value s)
        → int_eq y (pos 0) ≡ false
        → Did r u (eval x path here a.value t) → Did r u (eval x path here e s)
    select-other y t u did other then_is =
        select-first y t u did (fork-other y r t u (eval x path here a.value) (eval x path here b.value) other
        then_is)

  module _ (call : CallId) (function : FnId) (args : Vec Arg) (is : e ≡ tree.Call call function args) (r :
      Result ℤ Stop) where
    pub call-is : (t : State) → Did r t (call_value_at x path here call function args.items s)
        → Did r t (eval x path here e s)
    call-is t = did-is r t (eval x path here e s) (call_value_at x path here call function args.items s)
        (eval-Call x path here e s call function args is)

module _ (x : Context) (path : List Step) (here : StmtId) (call : CallId) (function : FnId) (args : List
    Arg) (s : State) where
  abbrev arguments_first : Ending (List Argument)
  arguments_first = each (map (eval_arg x path here) args) s

  abbrev then_function : List Argument → Act ℤ
  then_function = x.calls (Call call ∷ path) here function

  pub arguments-end : (r : Result ℤ Stop) (stop : Stop) (t : State) → r ≡ Err stop
      → Did (Err stop) t arguments_first → Did r t (call_value_at x path here call function args s)
  arguments-end r stop t = did-end r stop t arguments_first then_function

  pub then-called : (given passed : List Argument) (inside : List Step) → passed ≡ given
      → inside ≡ Call call ∷ path → (r : Result ℤ Stop) (t u : State)
      → Did (Ok given) t arguments_first → Did r u (x.calls inside here function passed t)
      → Did r u (call_value_at x path here call function args s)
  then-called given passed inside is_given is_inside r t u did then_is =
      did-then given r t u arguments_first then_function did
      (subst (λ given. Did r u (then_function given t)) is_given
      (subst (λ inside. Did r u (x.calls inside here function passed t)) is_inside then_is))

module _ (x : Context) (path : List Step) (here : StmtId) (e : Arg) (s : State) where
  abbrev to_argument : ℤ → Act Argument
  to_argument z = give (Argument.Value z)

  pub value-ends : (value : Expr) (r : Result Argument Stop) (stop : Stop) (t : State) → e ≡ arg.Value value
      → r ≡ Err stop
      → Did (Err stop) t (eval x path here value s) → Did r t (eval_arg x path here e s)
  value-ends value r stop t is ended did = did-is r t (eval_arg x path here e s) (then_do (eval x path here
      value s) to_argument)
      (eval_arg-Value x path here e s value is) (did-end r stop t (eval x path here value s) to_argument ended
      did)

  pub value-is : (value : Expr) (z v : ℤ) (t : State) → e ≡ arg.Value value
      → Did (Ok z) t (eval x path here value s) → v ≡ z
      → Did (Ok (Argument.Value v)) t (eval_arg x path here e s)
  value-is value z v t is did same =
      did-is (Ok (Argument.Value v)) t (eval_arg x path here e s) (then_do (eval x path here value s)
      to_argument)
      (eval_arg-Value x path here e s value is) (did-then z (Ok (Argument.Value v)) t t (eval x path here
      value s) to_argument did
      (did-give (Argument.Value z) (Argument.Value v) t (ap Argument.Value (sym same))))

  pub array-is : (array : VarId) → e ≡ arg.Array array
      → Did (Ok (Argument.Array (location_of s array))) s (eval_arg x path here e s)
  array-is array is = eval_arg-Array x path here e s array is
