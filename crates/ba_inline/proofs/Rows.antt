-- Loops over rows: of values, of arguments, of statements, of variables.
use Rattle.std.proofs.Common.{◌≡◌, ℕ, zero, suc, ◌+◌, ◌<◌, ℤ, Bool, false, ◌||◌, List, [], ◌∷◌, ◌++◌, length, take, get_or, refl, sym, ◌∙◌, ap, subst, arith}
use Rattle.std.proofs.lemmas.List.{get_or-map, length-map, length-take-le, take_more}
use Rattle.std.proofs.lemmas.List.Folds.{list_any_more}
use Rattle.std.specs.List.{list_any}
use Rattle.ba_code.specs.State.{CodeState}
use Rattle.ba_code.specs.Types.{Types}
use Rattle.ba_code.specs.declared.nodes.Node.{Node}
use Rattle.ba_code.specs.declared.nodes.Operand.{Operand}
use Rattle.ba_inline.proofs.Forms.{exec_all-more}
use Rattle.ba_inline.proofs.FrameArms.{bind_all-more, binds-begun}
use Rattle.ba_inline.proofs.Homes.{makes-row}
use Rattle.ba_inline.proofs.Joining.{makes-as}
use Rattle.ba_inline.proofs.Keeping.{stays-left, stays-right}
use Rattle.ba_inline.proofs.Lists.{makes-more-arguments, makes-more-values, makes-no-arguments, makes-no-values}
use Rattle.ba_inline.proofs.Statements.{makes-no-code}
use Rattle.ba_inline.specs.Binding.{Binds}
use Rattle.ba_inline.specs.Calling.{arg_has_call, has_call}
use Rattle.ba_inline.specs.Keeping.{Stays}
use Rattle.ba_inline.specs.Making.{AreGiven, Does, IsGiven, Makes, MakesArgument, MakesArguments, MakesValue, MakesValues, argument_in, reading_arguments}
use Rattle.ba_inline.specs.Names.{IsNaming, Names, seen, with_home}
use Rattle.ba_inline.specs.Parts.{argument_part, arguments_part, context_in_frame, stmt_part, stmts_part, value_part, values_part}
use Rattle.ba_inline.specs.Worlds.{World}
use Rattle.ba_inline.specs.declared.frames.Frame.{Frame}
use Rattle.ba_inline.specs.declared.frames.Given.{Given}
use Rattle.ba_numbers.specs.declared.ids.StmtId.{StmtId}
use Rattle.ba_numbers.specs.declared.ids.VarId.{VarId}
use Rattle.ba_tree.specs.Acts.{after_part, then_do}
use Rattle.ba_tree.specs.Meaning.{eval, eval_arg, exec, exec_all, variable_of}
use Rattle.ba_tree.specs.Run.{begin_all, begin_frame, begin_shape, bind_all, bind_one}
use Rattle.ba_tree.specs.State.{Act, State}
use Rattle.ba_tree.specs.declared.run.Argument.{Argument}
use Rattle.ba_tree.specs.declared.run.Step.{Step}
use Rattle.ba_tree.specs.declared.tree.Arg.{Arg}
use Rattle.ba_tree.specs.declared.tree.Expr.{Expr}
use Rattle.ba_tree.specs.declared.tree.Function.{Function}
use Rattle.ba_tree.specs.declared.tree.Program.{Program}
use Rattle.ba_tree.specs.declared.tree.Stmt.{Stmt}

-- what stays if any of a row makes a call stays if this one does
kept-item : {X : Type 0} (f : X → Bool) (xs : List X) (i : ℕ) (x : X) (n : ℕ) (os : List Operand) →
    i < length xs
    → x ≡ get_or xs i x → Stays (list_any f xs) n os → Stays (f x) n os
kept-item f [] i x n os within is stays = absurd (omega arith)
kept-item f (y ∷ ys) zero x n os within is stays =
    subst (λ b. Stays b n os) (sym (ap f is)) (stays-left (f y) (list_any f ys) n os stays)
kept-item f (y ∷ ys) (suc i) x n os within is stays =
    kept-item f ys i x n os (omega arith) is (stays-right (f y) (list_any f ys) n os stays)

-- so many and the next one
pub next-taken : {X : Type 0} (xs : List X) (i : ℕ) (x d : X) → i < length xs → x ≡ get_or xs i d
    → take (i + 1) xs ≡ take i xs ++ x ∷ []
next-taken xs i x d within is = take_more xs i d within ∙ ap (λ y. take i xs ++ y ∷ []) (sym is)

any-next : {X : Type 0} (f : X → Bool) (xs : List X) (i : ℕ) (x : X) → i < length xs → x ≡ get_or xs i x
    → list_any f (take (i + 1) xs) ≡ (list_any f (take i xs) || f x)
any-next f xs i x within is =
    list_any_more f xs i x within ∙ ap (λ y. list_any f (take i xs) || f y) (sym is)

-- VALUES AND ARGUMENTS

module _ (p : Program) (names : Names) (path : List Step) (frame : Frame) (here : StmtId) where
  abbrev value_now : World → List Step → Expr → Act ℤ
  value_now w back = eval (context_in_frame p frame w) back here

  abbrev argument_now : World → List Step → Arg → Act Argument
  argument_now w back = eval_arg (context_in_frame p frame w) back here

  pub values-none : (keep : Bool) (d : Types) (old : List Node)
      → MakesValues p names path (values_part p frame here []) false keep [] d d old old
  values-none keep d old = makes-no-values p names path value_now keep false d old

  pub values-more : (exprs : List Expr) (i : ℕ) (x : Expr) (keep : Bool) (os more : List Operand) (o :
      Operand)
      (low mid high : Types) (old out new : List Node) → i < length exprs → x ≡ get_or exprs i x
      → keep ≡ list_any has_call exprs → more ≡ os ++ o ∷ []
      → MakesValues p names path (values_part p frame here (take i exprs)) (list_any has_call (take i exprs))
      (list_any has_call exprs) os low mid old out
      → MakesValue p names path (value_part p frame here x) (has_call x) keep o mid high out new
      → MakesValues p names path (values_part p frame here (take (i + 1) exprs)) (list_any has_call (take
      (i + 1) exprs))
      (list_any has_call exprs) more low high old new
  values-more exprs i x keep os more o low mid high old out new within is is_keep is_more made one =
      subst (λ more. MakesValues p names path (values_part p frame here (take (i + 1) exprs))
      (list_any has_call (take (i + 1) exprs)) (list_any has_call exprs) more low high old new) (sym is_more)
      (subst (λ c. MakesValues p names path (values_part p frame here (take (i + 1) exprs)) c (list_any
      has_call exprs)
      (os ++ o ∷ []) low high old new) (sym (any-next has_call exprs i x within is))
      (subst (λ es. MakesValues p names path (values_part p frame here es) (list_any has_call (take i
      exprs) || has_call x)
      (list_any has_call exprs) (os ++ o ∷ []) low high old new) (sym (next-taken exprs i x x within is))
      (makes-more-values p names path value_now (take i exprs) x (list_any has_call (take i exprs))
      (has_call x)
      (list_any has_call exprs) os o low mid high old out new
      (λ n. kept-item has_call exprs i x n names.values within is) made
      (subst (λ keep. MakesValue p names path (value_part p frame here x) (has_call x) keep o mid high out
      new) is_keep one))))

  pub arguments-none : (keep : Bool) (d : Types) (old : List Node)
      → MakesArguments p names path (arguments_part p frame here []) false keep [] d d old old
  arguments-none keep d old = makes-no-arguments p names path argument_now keep false d old

  pub arguments-more : (args : List Arg) (i : ℕ) (x : Arg) (keep : Bool) (gs more : List Given) (g : Given)
      (low mid high : Types) (old out new : List Node) → i < length args → x ≡ get_or args i x
      → keep ≡ list_any arg_has_call args → more ≡ gs ++ g ∷ []
      → MakesArguments p names path (arguments_part p frame here (take i args)) (list_any arg_has_call
      (take i args))
      (list_any arg_has_call args) gs low mid old out
      → MakesArgument p names path (argument_part p frame here x) (arg_has_call x) keep g mid high out new
      → MakesArguments p names path (arguments_part p frame here (take (i + 1) args))
      (list_any arg_has_call (take (i + 1) args)) (list_any arg_has_call args) more low high old new
  arguments-more args i x keep gs more g low mid high old out new within is is_keep is_more made one =
      let own : MakesArgument p names path (argument_part p frame here x) (arg_has_call x) (list_any
      arg_has_call args) g
      mid high out new =
      subst (λ keep. MakesArgument p names path (argument_part p frame here x) (arg_has_call x) keep g mid
      high out new) is_keep one in
      subst (λ more. MakesArguments p names path (arguments_part p frame here (take (i + 1) args))
      (list_any arg_has_call (take (i + 1) args)) (list_any arg_has_call args) more low high old new) (sym
      is_more)
      (subst (λ c. MakesArguments p names path (arguments_part p frame here (take (i + 1) args)) c
      (list_any arg_has_call args)
      (gs ++ g ∷ []) low high old new) (sym (any-next arg_has_call args i x within is))
      (subst (λ es. MakesArguments p names path (arguments_part p frame here es)
      (list_any arg_has_call (take i args) || arg_has_call x)
      (list_any arg_has_call args) (gs ++ g ∷ []) low high old new) (sym (next-taken args i x x within is))
      (makes-more-arguments p names path argument_now (take i args) x (list_any arg_has_call (take i args))
      (arg_has_call x)
      (list_any arg_has_call args) gs g low mid high old out new
      (λ n. kept-item arg_has_call args i x n names.values within is) made own.given own.makes)))

-- STATEMENTS

module _ (p : Program) (names : Names) (path : List Step) (frame : Frame) where
  pub stmts-none : (d : Types) (old : List Node) → IsNaming (with_home frame.home names) d
      → Makes p names path (stmts_part p frame []) (Does names frame.exits frame.home d) d d old old
  unfolding exec_all
  stmts-none d old naming = makes-no-code p names path frame d naming (stmts_part p frame []) old (λ w back
      t s. refl)

  pub stmts-more : (body : List Stmt) (i : ℕ) (x : Stmt) (low mid high : Types) (old out new : List Node)
      → i < length body → x ≡ get_or body i x
      → Makes p names path (stmts_part p frame (take i body)) (Does names frame.exits frame.home low) low
      mid old out
      → Makes p names path (stmt_part p frame x) (Does names frame.exits frame.home mid) mid high out new
      → Makes p names path (stmts_part p frame (take (i + 1) body)) (Does names frame.exits frame.home low)
      low high old new
  stmts-more body i x low mid high old out new within is made one =
      subst (λ body. Makes p names path (stmts_part p frame body) (Does names frame.exits frame.home low)
      low high old new)
      (sym (next-taken body i x x within is))
      (makes-as p names path (stmts_part p frame (take i body ++ x ∷ []))
      (λ w back t s. then_do (exec_all (context_in_frame p frame w) back (take i body) s)
      (after_part (exec (context_in_frame p frame w) x back)))
      (Does names frame.exits frame.home low) low high old new
      (λ w back t s. exec_all-more (context_in_frame p frame w) back (take i body) x s)
      (makes-row p names path frame.exits frame.home
      (λ w back. exec_all (context_in_frame p frame w) back (take i body)) (λ w back. exec
      (context_in_frame p frame w) x back)
      low mid high old out new made one))

-- VARIABLES

pub given-at : (keep : Bool) (names : Names) (d : Types) (gs : List Given) (i : ℕ) (g : Given) →
    AreGiven keep names d gs
    → i < length gs → g ≡ get_or gs i g → IsGiven keep names d g
given-at keep names d [] i g given within is = absurd (omega arith)
given-at keep names d (h ∷ gs) zero g given within is = subst (IsGiven keep names d) (sym is) given.0
given-at keep names d (h ∷ gs) (suc i) g given within is = given-at keep names d gs i g given.1 (omega
    arith) is

module _ (p : Program) (names inner : Names) (low high : Types) (base new : List Node) where
  pub begun-more : (own vs : List VarId) (i : ℕ) (v : VarId) (begun : CodeState → State)
      → Binds p names ((own ++ take i vs) ++ v ∷ [])
      (λ t. begin_shape (variable_of p v).shape v (begin_all p (take i vs) (begun t))) inner low high base new
      → i < length vs → v ≡ get_or vs i v
      → Binds p names (own ++ take (i + 1) vs) (λ t. begin_all p (take (i + 1) vs) (begun t)) inner low
      high base new
  begun-more own vs i v begun binds within is =
      subst (λ vs. Binds p names (own ++ vs) (λ t. begin_all p vs (begun t)) inner low high base new)
      (sym (next-taken vs i v v within is))
      (binds-begun p names low high base new inner own (take i vs) v begun binds)

  arguments-next : (given : List Given) (i : ℕ) (g e : Given) (t : CodeState) → i < length given →
      g ≡ get_or given i e
      → take (i + 1) (reading_arguments given t) ≡ take i (reading_arguments given t) ++ argument_in t g ∷ []
  arguments-next given i g e t within is =
      let long : length (reading_arguments given t) ≡ length given = length-map given (argument_in t) in
      take_more (reading_arguments given t) i (argument_in t g) (omega (arith, long, within))
      ∙ ap (λ y. take i (reading_arguments given t) ++ y ∷ [])
      (get_or-map (argument_in t) given i e (argument_in t g) within ∙ ap (argument_in t) (sym is))

  both-long : (params : List VarId) (given : List Given) (i : ℕ) (t : CodeState) →
      length params ≡ length given
      → i < length params → length (take i params) ≡ length (take i (reading_arguments given t))
  both-long params given i t same within =
      let long : length (reading_arguments given t) ≡ length given = length-map given (argument_in t) in
      length-take-le i params (omega (arith, within))
      ∙ sym (length-take-le i (reading_arguments given t) (omega (arith, long, within, same)))

  pub bound-more : (params : List VarId) (given : List Given) (i : ℕ) (v : VarId) (g : Given)
      → Binds p names (take i params ++ v ∷ [])
      (λ t. bind_one v (argument_in t g) (bind_all (take i params) (take i (reading_arguments given t))
      (seen names t)))
      inner low high base new
      → length params ≡ length given → i < length params → v ≡ get_or params i v → g ≡ get_or given i g
      → Binds p names (take (i + 1) params)
      (λ t. bind_all (take (i + 1) params) (take (i + 1) (reading_arguments given t)) (seen names t)) inner
      low high base new
  bound-more params given i v g binds same within is_v is_g =
      subst (λ vs. Binds p names vs (λ t. bind_all vs (take (i + 1) (reading_arguments given t)) (seen
      names t)) inner low high base new)
      (sym (next-taken params i v v within is_v))
      (subst (λ (f : CodeState → State). Binds p names (take i params ++ v ∷ []) f inner low high base new)
      (λ k t. sym (ap (λ args. bind_all (take i params ++ v ∷ []) args (seen names t))
      (arguments-next given i g g t (omega (arith, within, same)) is_g)
      ∙ bind_all-more (take i params) (take i (reading_arguments given t)) v (argument_in t g) (seen names t)
      (both-long params given i t same within)) k) binds)

-- FRAMES

pub frame-begins : (p : Program) (names : Names) (f : Function) (params locals : List VarId) (given : List
    Given)
    (inner one two : Names) (low mid high : Types) (old out new : List Node)
    → params ≡ f.params → locals ≡ f.locals
    → Binds p names params (λ t. bind_all params (reading_arguments given t) (seen names t)) one low mid
    old out
    → ((own : List VarId) (begun : CodeState → State) → Binds p names own begun one low mid old out
    → Binds p names (own ++ locals) (λ t. begin_all p locals (begun t)) two low high old new)
    → Binds p names (f.params ++ f.locals) (λ t. begin_frame p f (reading_arguments given t) (seen names
    t)) two low high old new
frame-begins p names f params locals given inner one two low mid high old out new is_params is_locals bound
    more =
    subst (λ locals. Binds p names (f.params ++ locals)
    (λ t. begin_all p locals (bind_all f.params (reading_arguments given t) (seen names t))) two low high
    old new) is_locals
    (subst (λ params. Binds p names (params ++ locals)
    (λ t. begin_all p locals (bind_all params (reading_arguments given t) (seen names t))) two low high old
    new) is_params
    (more params (λ t. bind_all params (reading_arguments given t) (seen names t)) bound))
