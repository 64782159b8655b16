-- What each form of a statement does, from what its parts do.
use Rattle.std.proofs.Common.{◌≡◌, ℕ, ◌+◌, ◌-◌, ◌<◌, ◌≤◌, suc, zero, ℤ, pos, Option, Result, Ok, List, [], ◌∷◌, length, drop, get_or, refl, sym, ◌∙◌, ap, subst, arith}
use Rattle.std.proofs.lemmas.List.{drop_more, length-drop}
use Rattle.std.specs.Prelude.{unwrap_or}
use Rattle.std.specs.Global.{Box, Vec}
use Rattle.ba_numbers.specs.declared.ids.StmtId.{StmtId}
use Rattle.ba_numbers.specs.declared.ids.VarId.{VarId}
use Rattle.ba_numbers.specs.declared.ids.FnId.{FnId}
use Rattle.ba_numbers.specs.declared.ids.CallId.{CallId}
use Rattle.ba_numbers.specs.declared.numbers.CType.{CType}
use Rattle.ba_numbers.specs.declared.numbers.CType.TheVariants.{I32}
use Rattle.ba_tree.specs.Acts.{give, then_do, fork, after_part, flow_after_body, flow_after_loop}
use Rattle.ba_tree.specs.State.{State, Ending}
use Rattle.ba_tree.specs.Meaning.{Context, eval, exec, exec_all, condition, given_value, given_elements, given_element, set_value, set_elements, set_element, call_effect, print_effect, and_next, assert_that, declare, for_loop, do_loop, label_at, entered, in_turn, type_of, variable_of}
use Rattle.ba_tree.specs.declared.run.Exit.{Exit}
use Rattle.ba_tree.specs.declared.run.Exit.TheVariants.{Break, Continue, Return}
use Rattle.ba_tree.specs.declared.run.Flow.{Flow}
use Rattle.ba_tree.specs.declared.run.Flow.TheVariants.{Next, Leaves}
use Rattle.ba_tree.specs.declared.run.Step.{Step}
use Rattle.ba_tree.specs.declared.tree.Arg.{Arg}
use Rattle.ba_tree.specs.declared.tree.Expr.{Expr}
use Rattle.ba_tree.specs.declared.tree.Start.{Start}
use Rattle.ba_tree.specs.declared.tree.Stmt.{Stmt}
use Rattle.ba_tree.specs.declared.tree.Stmt as stmts
use Rattle.ba_tree.specs.declared.tree.Stmt.TheOpen.{Stmt-F}
use Rattle.ba_tree.specs.declared.tree.Stmt.TheFolds.{fold-roll-Stmt}
use Rattle.ba_tree.specs.Heights.{height, height_step, heights, weight}
use Rattle.ba_tree.proofs.Falling.{entered-below}
use Rattle.ba_tree.proofs.Equations.{otherwise, labelled, exec-Block, exec-Declare, exec-Init, exec-InitArray, exec-Assign, exec-Store, exec-If, exec-Switch, exec-While, exec-DoWhile, exec-For, exec-Break, exec-Continue, exec-Return, exec-ReturnNone, exec-CallStmt, exec-Print, exec-Assert}
use Rattle.ba_interp.specs.Doing.{Did}
use Rattle.ba_interp.specs.Loops.{LoopParts, for_loop_at, do_loop_at, for_rounds, do_rounds, test_at, turn_at}
use Rattle.ba_interp.specs.Settings.{context_at, given_at}
use Rattle.ba_interp.specs.declared.relaxing.Wanted.TheVariants as wanted
use Rattle.ba_interp.specs.declared.setting.Frame.{Frame}
use Rattle.ba_interp.specs.declared.setting.Setting.{Setting}
use Rattle.ba_interp.specs.declared.stop.Stop.{Stop}
use Rattle.ba_interp.proofs.Rounds.{to_loop}
use Rattle.ba_interp.proofs.Steps.{IsThen}

-- STATEMENTS IN A ROW

module _ (x : Context) (path : List Step) where
  pub none-left : (s : State) → exec_all x path [] s ≡ (Ok Next, s)
  unfolding exec_all
  none-left s = refl

  pub some-left : (part : Stmt) (parts : List Stmt) (s : State)
      → IsThen (exec_all x path (part ∷ parts) s) (exec x part path s) (after_part (exec_all x path parts))
  unfolding exec_all
  some-left part parts s = record { is = refl }

-- A TURN

module _ (x : Context) (parts : LoopParts) (inside : List Step) (s : State) where
  pub turn-parts : IsThen (turn_at x parts inside s) (exec x parts.body inside s)
      (λ flow. after_part (exec_all x inside parts.step) (flow_after_body flow))
  unfolding turn_at
  turn-parts = record { is = refl }

-- THE BODY OF A SWITCH

-- what is executed of it, from the label that its value has
pub part-is : (starts xs : List Start) (z : ℤ) (other label : Option ℕ) (body ys part : List Stmt) → xs ≡
    starts
    → ys ≡ body → label ≡ label_at xs z other → part ≡ entered label ys
    → part ≡ entered (label_at starts z other) body
part-is starts xs z other label body ys part at_xs at_ys at_label is = is
    ∙ (λ i. entered (at_label i) (at_ys i))
    ∙ ap (λ xs. entered (label_at xs z other) body) at_xs

-- and it is no higher than the whole body
pub switch-below : (e : Stmt) (here : StmtId) (t : CType) (on : Expr) (starts : Vec Start) (other label :
    Option ℕ)
    (body : Vec Stmt) (part : List Stmt) → e ≡ stmts.Switch here t on starts other body
    → part ≡ entered label body.items → heights part + 1 < height e
unfolding stmts.roll-Stmt denote.Hole.Carrier.roll
switch-below e here t on starts other label body part is part_is =
    let whole : height e ≡ weight on + heights body.items + 6 = ap height is
    ∙ fold-roll-Stmt ℕ height_step (Stmt-F.Switch here t on starts other body) in
    let inside : heights part ≤ heights body.items = subst (λ part. heights part ≤ heights body.items) (sym
    part_is)
    (entered-below height label body.items) in
    omega (arith, whole, inside)

module _ (x : Context) (path : List Step) (s : State) where
  pub labelled-parts : (starts : List Start) (other : Option ℕ) (body part : List Stmt) (z : ℤ)
      → part ≡ entered (label_at starts z other) body
      → IsThen (labelled x path starts other body z s) (exec_all x path part s)
      (λ flow. give (flow_after_loop flow))
  labelled-parts starts other body part z is = record {
    is = ap (λ part. then_do (exec_all x path part s) (λ flow. give (flow_after_loop flow))) (sym is);
  }

-- STATEMENTS

module _ (w : Setting) (f : Frame) (path : List Step) (s : State) where
  pub assign-parts : (here : StmtId) (var : VarId) (value : Expr) (t : CType) → t ≡ type_of w.program.now var
      → IsThen (then_do (given_value (context_at w f) path here (type_of w.program.now var) value s)
      (set_value var))
      (given_at (context_at w f) path here (wanted.Value t) value s) (set_value var)
  assign-parts here var value t is_t = record {
    is =
        ap (λ t. then_do (given_value (context_at w f) path here t value s) (set_value var)) (sym is_t);
  }

  pub for_loop-is : (parts : LoopParts) (e : Ending (Flow Exit))
      → for_rounds (context_at w f) parts path w.turns 1 s ≡ e
      → for_loop_at (context_at w f) parts path s ≡ then_do e to_loop
  unfolding for_loop_at context_at
  for_loop-is parts e is = ap (λ e. then_do e to_loop) is

  pub do_loop-is : (parts : LoopParts) (e : Ending (Flow Exit))
      → do_rounds (context_at w f) parts path w.turns 0 s ≡ e
      → do_loop_at (context_at w f) parts path s ≡ then_do e to_loop
  unfolding do_loop_at context_at
  do_loop-is parts e is = ap (λ e. then_do e to_loop) is

  module _ (e : Stmt) where
    pub block-is : (body : Vec Stmt) → e ≡ stmts.Block body
        → exec (context_at w f) e path s ≡ exec_all (context_at w f) path body.items s
    block-is body is = exec-Block (context_at w f) path e s body is

    pub declare-is : (var : VarId) → e ≡ stmts.Declare var
        → exec (context_at w f) e path s ≡ (Ok Next, declare (variable_of w.program.now var).shape var s)
    unfolding context_at
    declare-is var is = exec-Declare (context_at w f) path e s var is

    pub init-is : (here : StmtId) (var : VarId) (value : Expr) → e ≡ stmts.Init here var value
        → exec (context_at w f) e path s ≡ then_do (given_value (context_at w f) path here (type_of
        w.program.now var) value s) (set_value var)
    unfolding context_at
    init-is here var value is = exec-Init (context_at w f) path e s here var value is

    pub assign-is : (here : StmtId) (var : VarId) (value : Expr) → e ≡ stmts.Assign here var value
        → exec (context_at w f) e path s ≡ then_do (given_value (context_at w f) path here (type_of
        w.program.now var) value s) (set_value var)
    unfolding context_at
    assign-is here var value is = exec-Assign (context_at w f) path e s here var value is

    pub array-parts : (here : StmtId) (array : VarId) (values : Vec Expr)
        → e ≡ stmts.InitArray here array values
        → IsThen (exec (context_at w f) e path s) (given_elements (context_at w f) path here array
        values.items s) (set_elements array)
    array-parts here array values is = record {
      is = exec-InitArray (context_at w f) path e s here array
          values is;
    }

    pub store-parts : (here : StmtId) (array : VarId) (index value : Expr)
        → e ≡ stmts.Store here array index value
        → IsThen (exec (context_at w f) e path s) (given_element (context_at w f) path here array index value
        s) (set_element here array)
    store-parts here array index value is = record {
      is = exec-Store (context_at w f) path e s here array
          index value is;
    }

    pub if-parts : (here : StmtId) (when : Expr) (a : Box Stmt) (b : Option (Box Stmt))
        → e ≡ stmts.If here when a b
        → IsThen (exec (context_at w f) e path s) (given_at (context_at w f) path here wanted.Truth when s)
        (fork (exec (context_at w f) a.value path) (otherwise (context_at w f) path b))
    if-parts here when a b is = record { is = exec-If (context_at w f) path e s here when a b is }

    pub switch-parts : (here : StmtId) (t : CType) (on : Expr) (starts : Vec Start) (other : Option ℕ)
        (body : Vec Stmt) → e ≡ stmts.Switch here t on starts other body
        → IsThen (exec (context_at w f) e path s) (given_at (context_at w f) path here (wanted.Value t) on s)
        (labelled (context_at w f) path starts.items other body.items)
    switch-parts here t on starts other body is = record {
      is = exec-Switch (context_at w f) path e s here t on starts other body is;
    }

    pub while-is : (parts : LoopParts) (here : StmtId) (when : Expr) (body : Box Stmt)
        → e ≡ stmts.While here when body
        → parts ≡ record { stmt = here; when = when; body = body.value; step = [] }
        → exec (context_at w f) e path s ≡ for_loop_at (context_at w f) parts path s
    unfolding for_loop_at turn_at for_loop
    while-is parts here when body is made = exec-While (context_at w f) path e s here when body is
        ∙ ap (λ parts. for_loop_at (context_at w f) parts path s) (sym made)

    pub do-is : (parts : LoopParts) (here : StmtId) (when : Expr) (body : Box Stmt)
        → e ≡ stmts.DoWhile here when body
        → parts ≡ record { stmt = here; when = when; body = body.value; step = [] }
        → exec (context_at w f) e path s ≡ do_loop_at (context_at w f) parts path s
    unfolding do_loop_at turn_at do_loop exec_all
    do-is parts here when body is made = exec-DoWhile (context_at w f) path e s here when body is
        ∙ ap (λ parts. do_loop_at (context_at w f) parts path s) (sym made)

    pub for-parts : (parts : LoopParts) (here : StmtId) (first : Vec Stmt) (when : Expr) (step : Vec Stmt)
        (body : Box Stmt)
        → e ≡ stmts.For here first when step body
        → parts ≡ record { stmt = here; when = when; body = body.value; step = step.items }
        → IsThen (exec (context_at w f) e path s) (exec_all (context_at w f) path first.items s) (after_part
        (for_loop_at (context_at w f) parts path))
    unfolding for_loop_at turn_at for_loop
    for-parts parts here first when step body is made = record {
      is = exec-For (context_at w f) path e s here first when step body is
          ∙ ap (λ parts. then_do (exec_all (context_at w f) path first.items s) (after_part (for_loop_at
          (context_at w f) parts path))) (sym made);
    }

    pub for-first : (here : StmtId) (first : Vec Stmt) (when : Expr) (step : Vec Stmt) (body : Box Stmt)
        → e ≡ stmts.For here first when step body
        → IsThen (exec (context_at w f) e path s) (exec_all (context_at w f) path first.items s)
        (after_part (for_loop_at (context_at w f) (record {
          stmt = here;
          when = when;
          body = body.value;
          step
              = step.items;
        }) path))
    for-first here first when step body is =
        for-parts (record { stmt = here; when = when; body = body.value; step = step.items }) here first when
        step body is refl

    pub break-is : e ≡ stmts.Break → exec (context_at w f) e path s ≡ (Ok (Leaves Break), s)
    break-is is = exec-Break (context_at w f) path e s is

    pub continue-is : e ≡ stmts.Continue → exec (context_at w f) e path s ≡ (Ok (Leaves Continue), s)
    continue-is is = exec-Continue (context_at w f) path e s is

    pub return-parts : (here : StmtId) (value : Expr) (t : CType) → e ≡ stmts.Return here value
        → t ≡ unwrap_or f.result I32
        → IsThen (exec (context_at w f) e path s) (given_at (context_at w f) path here (wanted.Value t) value
        s) (λ z. give (Leaves (Return z)))
    unfolding context_at
    return-parts here value t is is_t = record {
      is = exec-Return (context_at w f) path e s here value is
          ∙ ap (λ t. then_do (given_value (context_at w f) path here t value s) (λ z. give (Leaves (Return
          z)))) (sym is_t);
    }

    pub return-none-is : e ≡ stmts.ReturnNone
        → exec (context_at w f) e path s ≡ (Ok (Leaves (Return (pos 0))), s)
    return-none-is is = exec-ReturnNone (context_at w f) path e s is

    pub call-parts : (here : StmtId) (call : CallId) (function : FnId) (args : Vec Arg)
        → e ≡ stmts.CallStmt here call function args
        → IsThen (exec (context_at w f) e path s) (call_effect (context_at w f) path here call function
        args.items s) and_next
    call-parts here call function args is = record {
      is = exec-CallStmt (context_at w f) path e s here call
          function args is;
    }

    pub print-parts : (here : StmtId) (args : Vec Expr) → e ≡ stmts.Print here args
        → IsThen (exec (context_at w f) e path s) (print_effect (context_at w f) path here args.items s)
        and_next
    print-parts here args is = record { is = exec-Print (context_at w f) path e s here args is }

    pub assert-parts : (here : StmtId) (when : Expr) → e ≡ stmts.Assert here when
        → IsThen (exec (context_at w f) e path s) (eval (context_at w f) path here when s) (assert_that here)
    assert-parts here when is = record { is = exec-Assert (context_at w f) path e s here when is }

-- ROWS, after their first parts

nothing : {A : Type 0} (xs : List A) → length xs ≡ 0 → xs ≡ []
nothing [] none = refl
nothing (x ∷ xs) none = absurd (omega arith)

drop-past : (i : ℕ) (body : List Stmt) → length body ≤ i → drop i body ≡ []
drop-past i body past = nothing (drop i body) (grind (arith, length-drop i body))

module _ (x : Context) (path : List Step) (body : List Stmt) (i : ℕ) (s : State) where
  left-parts : (item : Stmt) → i < length body → item ≡ get_or body i item
      → IsThen (exec_all x path (drop i body) s) (exec x item path s) (after_part (exec_all x path (drop (i +
      1) body)))
  left-parts item below is = record {
    is =
        ap (λ body. exec_all x path body s) (drop_more body i item below
        ∙ ap (λ part. part ∷ drop (i + 1) body) (sym is))
        ∙ (some-left x path item (drop (i + 1) body) s).is;
  }

  module _ (s0 : State) (so_far : exec_all x path body s0 ≡ exec_all x path (drop i body) s) where
    pub row-parts : (item : Stmt) → i < length body → item ≡ get_or body i item
        → IsThen (exec_all x path body s0) (exec x item path s) (after_part (exec_all x path (drop (i + 1)
        body)))
    row-parts item below is = record { is = so_far ∙ (left-parts item below is).is }

    pub row-goes : (item : Stmt) → i < length body → item ≡ get_or body i item → (t : State)
        → Did (Ok Next) t (exec x item path s)
        → exec_all x path body s0 ≡ exec_all x path (drop (i + 1) body) t
    row-goes item below is t did = (row-parts item below is).is
        ∙ ap (λ e. then_do e (after_part (exec_all x path (drop (i + 1) body)))) did

    pub row-done : length body ≤ i → exec_all x path body s0 ≡ (Ok Next, s)
    row-done past = so_far ∙ ap (λ body. exec_all x path body s) (drop-past i body past) ∙ none-left x path s

-- LOOPS, after their first rounds

module _ (w : Setting) (f : Frame) (path : List Step) (parts : LoopParts) (s0 s : State) (k : ℕ) where
  pub tested : (inside : List Step) → inside ≡ in_turn parts.stmt k path → (r : Result ℤ Stop) (t : State)
      → Did r t (given_at (context_at w f) inside parts.stmt wanted.Truth parts.when s) → Did r t (test_at
      (context_at w f) parts path k s)
  tested inside is r t = subst (λ inside. Did r t (condition (context_at w f) inside parts.stmt parts.when s))
      is

  pub turned : (inside : List Step) → inside ≡ in_turn parts.stmt k path
      → (r : Result (Flow Exit) Stop) (t : State)
      → Did r t (turn_at (context_at w f) parts inside s) → Did r t (turn_at (context_at w f) parts (in_turn
      parts.stmt k path) s)
  turned inside is r t = subst (λ inside. Did r t (turn_at (context_at w f) parts inside s)) is

  module _ (so_far : for_rounds (context_at w f) parts path w.turns 1 s0 ≡ for_rounds (context_at w f) parts
      path (w.turns - k) (k + 1) s) where
    pub for-now : for_loop_at (context_at w f) parts path s0 ≡ then_do (for_rounds (context_at w f) parts path
        (w.turns - k) (k + 1) s) to_loop
    for-now = for_loop-is w f path s0 parts (for_rounds (context_at w f) parts path (w.turns - k) (k + 1) s)
        so_far

    for-left : (n : ℕ) → w.turns - k ≡ n
        → for_loop_at (context_at w f) parts path s0 ≡ then_do (for_rounds (context_at w f) parts path n (k +
        1) s) to_loop
    for-left n is = for-now ∙ ap (λ n. then_do (for_rounds (context_at w f) parts path n (k + 1) s) to_loop)
        is

    pub for-more : k < w.turns
        → for_loop_at (context_at w f) parts path s0 ≡ then_do (for_rounds (context_at w f) parts path (suc
        (w.turns - (k + 1))) (k + 1) s) to_loop
    for-more below = for-left (suc (w.turns - (k + 1))) (omega arith)

    pub for-last : w.turns ≤ k
        → for_loop_at (context_at w f) parts path s0 ≡ then_do (for_rounds (context_at w f) parts path zero (k
        + 1) s) to_loop
    for-last past = for-left zero (omega arith)

    pub for-again : k < w.turns → (u : State)
        → for_rounds (context_at w f) parts path (suc (w.turns - (k + 1))) (k + 1) s ≡ for_rounds (context_at
        w f) parts path (w.turns - (k + 1)) (k + 1 + 1) u
        → for_rounds (context_at w f) parts path w.turns 1 s0 ≡ for_rounds (context_at w f) parts path
        (w.turns - (k + 1)) (k + 1 + 1) u
    for-again below u again = so_far ∙ ap (λ n. for_rounds (context_at w f) parts path n (k + 1) s) one_more
        ∙ again where
          one_more : w.turns - k ≡ suc (w.turns - (k + 1))
          one_more = omega arith

  module _ (so_far : do_rounds (context_at w f) parts path w.turns 0 s0 ≡ do_rounds (context_at w f) parts
      path (w.turns - k) k s) where
    pub do-now : do_loop_at (context_at w f) parts path s0 ≡ then_do (do_rounds (context_at w f) parts path
        (w.turns - k) k s) to_loop
    do-now = do_loop-is w f path s0 parts (do_rounds (context_at w f) parts path (w.turns - k) k s) so_far

    do-left : (n : ℕ) → w.turns - k ≡ n
        → do_loop_at (context_at w f) parts path s0 ≡ then_do (do_rounds (context_at w f) parts path n k s)
        to_loop
    do-left n is = do-now ∙ ap (λ n. then_do (do_rounds (context_at w f) parts path n k s) to_loop) is

    pub do-more : k < w.turns
        → do_loop_at (context_at w f) parts path s0 ≡ then_do (do_rounds (context_at w f) parts path (suc
        (w.turns - (k + 1))) k s) to_loop
    do-more below = do-left (suc (w.turns - (k + 1))) (omega arith)

    pub do-last : w.turns ≤ k
        → do_loop_at (context_at w f) parts path s0 ≡ then_do (do_rounds (context_at w f) parts path zero k s)
        to_loop
    do-last past = do-left zero (omega arith)

    pub do-again : k < w.turns → (u : State)
        → do_rounds (context_at w f) parts path (suc (w.turns - (k + 1))) k s ≡ do_rounds (context_at w f)
        parts path (w.turns - (k + 1)) (k + 1) u
        → do_rounds (context_at w f) parts path w.turns 0 s0 ≡ do_rounds (context_at w f) parts path (w.turns
        - (k + 1)) (k + 1) u
    do-again below u again = so_far ∙ ap (λ n. do_rounds (context_at w f) parts path n k s) one_more
        ∙ again where
          one_more : w.turns - k ≡ suc (w.turns - (k + 1))
          one_more = omega arith
