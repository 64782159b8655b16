-- What the functions of the inliner make, with the declarations and the nodes that are there at their ends.
use Rattle.std.proofs.Common.{◌≡◌, ℕ, ◌+◌, ◌<◌, ◌≤◌, suc, ℤ, pos, Bool, true, false, ◌||◌, List, [], ◌∷◌, ◌++◌, map, length, vec_len, replicate, refl, sym, ◌∙◌, ap, subst, arith, append-nil, zero}
use Rattle.std.specs.Global.{Box, Vec}
use Rattle.std.specs.Prelude.{None, Ok, Option, Some, slice_get}
use Rattle.ba_code.specs.Meaning.{InTurns, Setting, path_in, run_nodes}
use Rattle.ba_code.specs.State.{CodeState}
use Rattle.ba_code.specs.Types.{Types}
use Rattle.ba_code.specs.declared.nodes.ArrayInfo.{ArrayInfo}
use Rattle.ba_code.specs.declared.nodes.Node.{Node}
use Rattle.ba_code.specs.declared.nodes.Operand.{Operand}
use Rattle.ba_code.specs.declared.nodes.Operand.TheVariants.{Const, Var}
use Rattle.ba_code.specs.declared.nodes.Take.TheVariants as code
use Rattle.ba_code.proofs.Rows.{run-none}
use Rattle.ba_inline.proofs.Calling.{arg_has_call-Value, has_call-Call}
use Rattle.ba_inline.proofs.FrameArms.{constants-zero}
use Rattle.ba_inline.proofs.Invoking.{makes-call, makes-invoked}
use Rattle.ba_inline.proofs.Joining.{makes-as, makes-pure}
use Rattle.ba_inline.proofs.Keeping.{grows-same, grows-then, grows-var, keeps-same, with_var-length}
use Rattle.ba_inline.proofs.Loops.{makes-loop}
use Rattle.ba_inline.proofs.Scopes.{frame-begun, frame-later, scope-later, scope-of}
use Rattle.ba_inline.proofs.Statements.{makes-if}
use Rattle.ba_inline.proofs.Stores.{makes-init_array, makes-store}
use Rattle.ba_inline.proofs.Values.{both-values}
use Rattle.ba_inline.proofs.Wiping.{does-cleared, gives-cleared, makes-behind-zero, wipes-one, wipes-since}
use Rattle.ba_inline.specs.Adding.{block_act, fill_act, if_act, loop_act, pick_act, save_act, set_act}
use Rattle.ba_inline.specs.Arrays.{IsArrayOf}
use Rattle.ba_inline.specs.Binding.{Binds}
use Rattle.ba_inline.specs.Calling.{arg_has_call, has_call}
use Rattle.ba_inline.specs.Declarations.{Grows, with_var}
use Rattle.ba_inline.specs.Ends.{Meets}
use Rattle.ba_inline.specs.Invoking.{invoke_part}
use Rattle.ba_inline.specs.Making.{Adds, AreGiven, Does, Gives, GivesTo, IsSettled, Makes, MakesArgument, MakesArguments, MakesValue, MakesValues, Part, Standing, argument_in, body_exits, reading, reading_arguments, turn_exits}
use Rattle.ba_inline.specs.Names.{IsFrame, IsScope, Names, location_at, seen}
use Rattle.ba_inline.specs.Parts.{LoopParts, argument_part, arguments_part, call_part, context_in_frame, given_part, init_array_part, loop_part, optional_now, optional_part, stmt_part, stmts_part, store_part, value_part, values_part}
use Rattle.ba_inline.specs.Wiping.{Wipes}
use Rattle.ba_inline.specs.Worlds.{code_setting}
use Rattle.ba_inline.specs.declared.frames.Exits.{Exits}
use Rattle.ba_inline.specs.declared.frames.Frame.{Frame}
use Rattle.ba_inline.specs.declared.frames.Given.{Given}
use Rattle.ba_inline.specs.declared.frames.Given.TheVariants as given
use Rattle.ba_inline.specs.declared.frames.Wanted.TheVariants as wanted
use Rattle.ba_numbers.specs.declared.ids.CallId.{CallId}
use Rattle.ba_numbers.specs.declared.ids.FnId.{FnId}
use Rattle.ba_numbers.specs.declared.ids.StmtId.{StmtId}
use Rattle.ba_numbers.specs.declared.ids.VarId.{VarId}
use Rattle.ba_numbers.specs.declared.numbers.CType.{CType}
use Rattle.ba_numbers.specs.declared.numbers.CType.TheVariants.{I32}
use Rattle.ba_tree.proofs.Equations.{eval-Call, eval_arg-Array, eval_arg-Value}
use Rattle.ba_tree.specs.Acts.{each, give, then_do}
use Rattle.ba_tree.specs.Meaning.{eval_arg, exec}
use Rattle.ba_tree.specs.Run.{begin_frame, function_of}
use Rattle.ba_tree.specs.declared.run.Argument.{Argument}
use Rattle.ba_tree.specs.declared.run.Step.{Step}
use Rattle.ba_tree.specs.declared.run.Step.TheVariants.{Call, Turn}
use Rattle.ba_tree.specs.declared.tree.Arg.{Arg}
use Rattle.ba_tree.specs.declared.tree.Arg as arg
use Rattle.ba_tree.specs.declared.tree.Expr.{Expr}
use Rattle.ba_tree.specs.declared.tree.Expr as tree
use Rattle.ba_tree.specs.declared.tree.Function.{Function}
use Rattle.ba_tree.specs.declared.tree.Program.{Program}
use Rattle.ba_tree.specs.declared.tree.Stmt.{Stmt}
use Rattle.ba_tree.specs.declared.tree.Stmt as stmts

-- THE SAME declarations and nodes

pub value-high : {p : Program} {names : Names} {path : List Step} {part : Part ℤ} {calls keep : Bool} {o :
    Operand}
    {low high other : Types} {old new : List Node} → high ≡ other
    → MakesValue p names path part calls keep o low other old new →
    MakesValue p names path part calls keep o low high old new
value-high {p = p} {names = names} {path = path} {part = part} {calls = calls} {keep = keep} {o = o} {low =
    low}
    {old = old} {new = new} is made =
    subst (λ high. MakesValue p names path part calls keep o low high old new) (sym is) made

pub value-kept : {p : Program} {names : Names} {path : List Step} {part : Part ℤ} {calls keep other : Bool}
    {o : Operand} {low high : Types} {old new : List Node} → keep ≡ other
    → MakesValue p names path part calls keep o low high old new →
    MakesValue p names path part calls other o low high old new
value-kept {p = p} {names = names} {path = path} {part = part} {calls = calls} {o = o} {low = low} {high = high}
    {old = old} {new = new} is made =
    subst (λ keep. MakesValue p names path part calls keep o low high old new) is made

pub makes-high : {A : Type 0} {p : Program} {names : Names} {path : List Step} {part : Part A}
    {stands : CodeState → Standing A} {low high other : Types} {old new : List Node} → high ≡ other
    → Makes p names path part stands low other old new → Makes p names path part stands low high old new
makes-high {p = p} {names = names} {path = path} {part = part} {stands = stands} {low = low} {old = old}
    {new = new} is made =
    subst (λ high. Makes p names path part stands low high old new) (sym is) made

pub makes-old : {A : Type 0} {p : Program} {names : Names} {path : List Step} {part : Part A}
    {stands : CodeState → Standing A} {low high : Types} {old other new : List Node} → old ≡ other
    → Makes p names path part stands low high old new → Makes p names path part stands low high other new
makes-old {p = p} {names = names} {path = path} {part = part} {stands = stands} {low = low} {high = high}
    {new = new} is made =
    subst (λ old. Makes p names path part stands low high old new) is made

-- how long a list of nodes is
pub nodes-len : (nodes : Vec Node) → vec_len nodes ≡ length nodes.items
nodes-len nodes = omega (arith, nodes.ok.0)

-- the same nodes after others
pub makes-from : {A : Type 0} {p : Program} {names : Names} {path : List Step} {part : Part A}
    {stands : CodeState → Standing A} {low high : Types} {old new : List Node} (other : List Node)
    → (made : Makes p names path part stands low high old new)
    → Makes p names path part stands low high other (other ++ made.nodes)
makes-from other made = record {
  nodes = made.nodes;
  is = refl;
  grows = made.grows;
  runs = made.runs;
}

-- the same nodes after none
pub adds-alone : {old new : List Node} {act : Setting → InTurns} → (added : Adds old new act)
    → Adds [] added.nodes act
adds-alone added = record {
  nodes = added.nodes;
  is = refl;
  runs = added.runs;
}

pub makes-along : {A : Type 0} {p : Program} {names : Names} {path other : List Step} {part : Part A}
    {stands : CodeState → Standing A} {low high : Types} {old new : List Node} → path ≡ other
    → Makes p names path part stands low high old new → Makes p names other part stands low high old new
makes-along {p = p} {names = names} {part = part} {stands = stands} {low = low} {high = high} {old = old}
    {new = new} is made =
    subst (λ path. Makes p names path part stands low high old new) is made

pub to-low : {p : Program} {names : Names} {path : List Step} {part : Part ℤ} {c : Bool} {to : ℕ}
    {low other high : Types} {old new : List Node} → low ≡ other
    → Makes p names path part (GivesTo names c low to) low high old new
    → Makes p names path part (GivesTo names c other to) other high old new
to-low {p = p} {names = names} {path = path} {part = part} {c = c} {to = to} {high = high} {old = old} {new
    = new} is made =
    subst (λ low. Makes p names path part (GivesTo names c low to) low high old new) is made

pub adds-old : {old other new : List Node} {act : Setting → InTurns} → old ≡ other → Adds old new act →
    Adds other new act
adds-old {new = new} {act = act} is added = subst (λ old. Adds old new act) is added

pub scope-var : (p : Program) (names : Names) (low mid high : Types) (ty : CType) →
    high ≡ with_var ty mid → Grows low mid
    → IsScope p names low → IsScope p names high
scope-var p names low mid high ty is grows scope = subst (IsScope p names) (sym is)
    (scope-later p names low (with_var ty mid) (grows-then low mid (with_var ty mid) grows (grows-var ty
    mid)) scope)

-- CALLS within expressions

pub value-called : (p : Program) (names : Names) (path : List Step) (frame : Frame) (here : StmtId) (e :
    Expr) (call : CallId)
    (fn : FnId) (vec : Vec Arg) (args : List Arg) (o : Operand) (low high : Types) (old new : List Node)
    → e ≡ tree.Call call fn vec → args ≡ vec.items
    → MakesValue p names path (call_part p frame here call fn args) true false o low high old new
    → MakesValue p names path (value_part p frame here e) (has_call e) false o low high old new
value-called p names path frame here e call fn vec args o low high old new is is_args made =
    subst (λ calls. MakesValue p names path (value_part p frame here e) calls false o low high old new)
    (sym (has_call-Call e call fn vec is))
    (record {
      settled = made.settled;
      makes = makes-as p names path (value_part p frame here e) (call_part p frame here call fn args)
          (Gives names true low (reading o)) low high old new
          (λ w back t s. eval-Call (context_in_frame p frame w) back here e s call fn vec is
          ∙ ap (λ args. then_do (each (map (eval_arg (context_in_frame p frame w) back here) args) s)
          ((context_in_frame p frame w).calls (Call call ∷ back) here fn)) (sym is_args))
          made.makes;
    })

-- ARGUMENTS

module _ (p : Program) (names : Names) (path : List Step) (frame : Frame) (here : StmtId) (a : Arg) (keep :
    Bool) where
  pub argument-value : (v : Expr) (o : Operand) (low high : Types) (old new : List Node) → a ≡ arg.Value v
      → MakesValue p names path (value_part p frame here v) (has_call v) keep o low high old new
      → MakesArgument p names path (argument_part p frame here a) (arg_has_call a) keep (given.Value o) low
      high old new
  argument-value v o low high old new is made =
      subst (λ calls. MakesArgument p names path (argument_part p frame here a) calls keep (given.Value o)
      low high old new)
      (sym (arg_has_call-Value a v is))
      (record {
        given = made.settled;
        makes = makes-pure p names path (value_part p frame here v) (argument_part p frame here a)
            (Gives names (has_call v) low (reading o)) (Gives names (has_call v) low (λ u. argument_in u
            (given.Value o)))
            low high old new (λ w back z. give (Argument.Value z))
            (λ w back t s. eval_arg-Value (context_in_frame p frame w) back here a s v is)
            (λ w back t z s way u gives. record {
              on = gives.on;
              sees = gives.sees;
              reads = ap Argument.Value gives.reads;
              keeps = gives.keeps;
            })
            made.makes;
      })

  pub argument-array : (array : VarId) (l : ℕ) (low : Types) (old : List Node) → a ≡ arg.Array array
      → l ≡ location_at names array
      → MakesArgument p names path (argument_part p frame here a) (arg_has_call a) keep (given.Array l) low
      low old old
  argument-array array l low old is is_l = record {
    given = tt;
    makes = record {
      nodes = [];
      is = sym (append-nil old);
      grows = grows-same low;
      runs = λ w turns t ready.
          let stands = Gives names (arg_has_call a) low (λ u. argument_in u (given.Array l)) t in
          subst (λ end. Meets stands end (run_nodes (code_setting p w) [] turns t))
          (sym (eval_arg-Array (context_in_frame p frame w) (path_in turns path) here a (seen names t)
          array is
          ∙ ap (λ l. (Ok (Argument.Array l), seen names t)) (sym is_l)))
          (subst (Meets stands (Ok (Argument.Array l), seen names t)) (sym (run-none (code_setting p w)
          turns t))
          (record { on = refl; sees = refl; reads = refl; keeps = keeps-same (arg_has_call a) names low t }));
    };
  }

settled-less : (keep : Bool) (names : Names) (d : Types) (o : Operand) → IsSettled keep names d o →
    IsSettled false names d o
settled-less keep names d (Const z) settled = tt
settled-less keep names d (Var n) settled = (settled.0, tt)

given-less : (keep : Bool) (names : Names) (d : Types) (gs : List Given) → AreGiven keep names d gs →
    AreGiven false names d gs
given-less keep names d [] all = tt
given-less keep names d (given.Value o ∷ gs) all = (
  settled-less keep names d o all.0,
  given-less keep
      names d gs all.1,
)
given-less keep names d (given.Array l ∷ gs) all = (tt, given-less keep names d gs all.1)

-- CALLS

pub call-made : (p : Program) (names : Names) (path : List Step) (frame : Frame) (here : StmtId) (call :
    CallId) (fn : FnId)
    (args : List Arg) (c keep : Bool) (gives slice : List Given) (o : Operand) (low mid high : Types)
    (old out new : List Node) (inside : List Step)
    → inside ≡ path ++ Call call ∷ [] → slice ≡ gives → IsScope p names low
    → MakesArguments p names path (arguments_part p frame here args) c keep gives low mid old out
    → (IsScope p names mid → AreGiven false names mid slice
    → MakesValue p names inside (invoke_part p frame here fn slice) true false o mid high out new)
    → MakesValue p names path (call_part p frame here call fn args) true false o low high old new
call-made p names path frame here call fn args c keep gives slice o low mid high old out new inside
    is_inside is_slice scope
    made more =
    let value = more (scope-later p names low mid made.makes.grows scope)
    (subst (AreGiven false names mid) (sym is_slice) (given-less keep names mid gives made.given)) in
    record {
      settled = value.settled;
      makes = makes-call p names path frame here call fn args c keep gives o low mid high old out new made
          (subst (λ gives. Makes p names (path ++ Call call ∷ []) (invoke_part p frame here fn gives)
          (Gives names true mid (reading o)) mid high out new) is_slice
          (makes-along is_inside value.makes));
    }

abbrev pub no_exits : Exits
no_exits = record { breaks = false; continues = false }

abbrev pub called_frame : ℕ → Option CType → ℕ → Frame
called_frame home result frames = record { home = home; exits = no_exits; result = result; frames = frames }

pub invoke-made : (p : Program) (names inner : Names) (path : List Step) (frame : Frame) (here : StmtId)
    (fn : FnId) (n : ℕ)
    (f : Function) (gives : List Given) (low mid d high : Types) (old out then_out called new first body :
    List
    Node) (from home : ℕ)
    (ty : CType) (stmts : List Stmt)
    → frame.frames ≡ suc n → function_of p fn ≡ f → stmts ≡ f.body → first ≡ [] → home ≡ length mid.vars
    → d ≡ with_var ty mid
    → Binds p names (f.params ++ f.locals) (λ t. begin_frame p f (reading_arguments gives t) (seen names
    t)) inner low mid old out
    → Adds out then_out (set_act home (Const (pos 0)))
    → (IsFrame p home inner d → Makes p inner path (stmts_part p (called_frame home f.result n) stmts)
    (Does inner no_exits home d) d high first body)
    → Adds then_out called (block_act 0 body)
    → IsScope p names low → from ≡ length low.vars → Wipes from home called new
    → MakesValue p names path (invoke_part p frame here fn gives) true false (Var home) low high old new
invoke-made p names inner path frame here fn n f gives low mid d high old out then_out called new first body
    from home
    ty stmts is_frames
    is_function is_stmts is_first is_home is_d binds zeroed more blocked scope is_from wipes =
    let made : Makes p inner path (stmts_part p (called_frame home f.result n) f.body) (Does inner no_exits
    home (with_var ty mid))
    (with_var ty mid) high [] body =
    subst (λ d. Makes p inner path (stmts_part p (called_frame home f.result n) f.body) (Does inner
    no_exits home d) d high [] body)
    is_d
    (makes-old is_first
    (subst (λ stmts. Makes p inner path (stmts_part p (called_frame home f.result n) stmts) (Does inner
    no_exits home d) d high first body)
    is_stmts (more (subst (IsFrame p home inner) (sym is_d) (frame-begun p home inner ty mid is_home
    binds.scope))))) in
    let count : length (with_var ty mid).vars ≡ length mid.vars + 1 = with_var-length ty mid in
    let many : length (with_var ty mid).vars ≤ length high.vars = made.grows.vars in
    record {
      settled = (omega (arith, count, many, is_home), tt);
      makes = gives-cleared p names path (invoke_part p frame here fn gives) true home low high old called new
          scope.naming
          (makes-invoked p names inner f (λ t. begin_frame p f (reading_arguments gives t) (seen names
          t)) low mid old out
          binds home ty is_home path frame here fn n gives high then_out called body is_frames is_function (λ
          t. refl) zeroed made
          blocked)
          (wipes-since is_from wipes);
    }

-- STATEMENTS

info-later : (xs ys : List ArrayInfo) (n : ℕ) (info : ArrayInfo) → slice_get xs n ≡ Some info
    → slice_get (xs ++ ys) n ≡ Some info
info-later [] ys n info is = absurd (let f : None ≡ Some info = is in cc)
info-later (x ∷ xs) ys zero info is = is
info-later (x ∷ xs) ys (suc n) info is = info-later xs ys n info is

declared-later : (low high : Types) (n : ℕ) (info : ArrayInfo) → Grows low high →
    slice_get low.arrays n ≡ Some info
    → slice_get high.arrays n ≡ Some info
declared-later low high n info grows is =
    ap (λ arrays. slice_get arrays n) grows.arrays.is ∙ info-later low.arrays grows.arrays.rest n info is

module _ (p : Program) (names : Names) (path : List Step) (frame : Frame) (low : Types)
    (is_frame : IsFrame p frame.home names low) where
  abbrev own_scope : IsScope p names low
  own_scope = scope-of p frame.home names low is_frame

  pub store-made : (here : StmtId) (array : VarId) (index value : Expr) (n from : ℕ) (keep : Bool) (a b :
      Operand)
      (mid high : Types) (old new none one two three four : List Node)
      → IsArrayOf p names low array n → none ≡ [] → keep ≡ has_call value
      → (IsScope p names low
      → MakesValue p names path (value_part p frame here index) (has_call index) keep a low mid none one)
      → (IsScope p names mid
      → MakesValue p names path (value_part p frame here value) (has_call value) false b mid high one two)
      → Adds two three (save_act n a b here) → from ≡ length low.vars → Wipes from frame.home three four
      → Adds old new (pick_act path here (code.Cell n) four)
      → Makes p names path (store_part p frame here array index value) (Does names frame.exits frame.home
      low) low high old new
  store-made here array index value n from keep a b mid high old new none one two three four is_array is_none
      is_keep index_made value_made saved is_from wipes added =
      let first : MakesValue p names path (value_part p frame here index) (has_call index) (has_call value)
      a low mid none one =
      subst (λ keep. MakesValue p names path (value_part p frame here index) (has_call index) keep a low
      mid none one) is_keep
      (index_made own_scope) in
      let second : MakesValue p names path (value_part p frame here value) (has_call value) false b mid
      high one two =
      value_made (scope-later p names low mid first.makes.grows own_scope) in
      makes-store p names path frame low is_frame.naming array n is_array.found high is_array.info
      (declared-later low high n is_array.info (grows-then low mid high first.makes.grows
      second.makes.grows) is_array.is_declared)
      is_array.same_type here index value (has_call index || has_call value) a b old new four three two
      (makes-old is_none (both-values p names path frame here index index value low mid high none one two
      two a b
      (length high.vars) I32 own_scope.naming first second refl)) saved
      (wipes-since is_from wipes) added

  pub init-made : (here : StmtId) (array : VarId) (values : List Expr) (n from : ℕ) (c keep : Bool) (os
      filled : List Operand)
      (high : Types) (old new none one two three : List Node)
      → IsArrayOf p names low array n → none ≡ []
      → ((count : ℕ) × (filled ≡ os ++ replicate count (Const (pos 0))))
      → (IsScope p names low →
      MakesValues p names path (values_part p frame here values) c keep os low high none one)
      → Adds one two (fill_act n filled) → from ≡ length low.vars → Wipes from frame.home two three
      → Adds old new (pick_act path here (code.Cells n) three)
      → Makes p names path (init_array_part p frame here array values) (Does names frame.exits frame.home
      low) low high old new
  init-made here array values n from c keep os filled high old new none one two three is_array is_none up
      values_made filled_by is_from wipes added =
      let made : MakesValues p names path (values_part p frame here values) c keep os low high none one =
      values_made own_scope in
      makes-init_array p names path frame low is_frame.naming array n is_array.found high is_array.info
      (declared-later low high n is_array.info made.makes.grows is_array.is_declared) is_array.same_type
      here values c os
      (replicate up.0 (Const (pos 0))) up.0 (λ t. constants-zero t up.0) old new three two one
      (makes-old is_none made.makes) (subst (λ filled. Adds one two (fill_act n filled)) up.1 filled_by)
      (wipes-since is_from wipes) added

  pub if-made : (stmt : Stmt) (here : StmtId) (e : Expr) (box : Box Stmt) (other : Option (Box Stmt))
      (inner : Stmt) (to : ℕ)
      (first then_one high : Types) (old out new none₁ start₁ yeses none₂ start₂ noes : List Node)
      → stmt ≡ stmts.If here e box other → inner ≡ box.value → none₁ ≡ [] → none₂ ≡ []
      → to ≡ length low.vars
      → (IsScope p names low → Makes p names path (given_part p frame here wanted.Truth e)
      (Gives names (has_call e) low (reading (Var to))) low first old out)
      → Adds none₁ start₁ (set_act to (Const (pos 0)))
      → (IsFrame p frame.home names first → Makes p names path (stmt_part p frame inner)
      (Does names frame.exits frame.home first) first then_one start₁ yeses)
      → Adds none₂ start₂ (set_act to (Const (pos 0)))
      → (IsFrame p frame.home names then_one → Makes p names path (optional_part p frame other)
      (Does names frame.exits frame.home then_one) then_one high start₂ noes)
      → Adds out new (if_act (Var to) yeses noes)
      → Makes p names path (stmt_part p frame stmt) (Does names frame.exits frame.home low) low high old new
  if-made stmt here e box other inner to first then_one high old out new none₁ start₁ yeses none₂ start₂
      noes is
      is_inner is_none₁ is_none₂ is_to tested zero₁ yes_made zero₂ no_made added =
      let test : Makes p names path (given_part p frame here wanted.Truth e) (Gives names (has_call e) low
      (reading (Var to)))
      low first old out = tested own_scope in
      let late : length low.vars ≤ to = omega (arith, is_to) in
      let at_first : IsFrame p frame.home names first = frame-later p frame.home names low first test.grows
      is_frame in
      let one : Makes p names path (stmt_part p frame inner) (Does names frame.exits frame.home first)
      first then_one start₁ yeses =
      yes_made at_first in
      let two : Makes p names path (optional_part p frame other) (Does names frame.exits frame.home
      then_one) then_one high start₂ noes =
      no_made (frame-later p frame.home names first then_one one.grows at_first) in
      makes-if p names path frame low is_frame.naming stmt here e box other (has_call e) to first then_one
      high old out new
      yeses noes is test one.grows two.grows
      (makes-behind-zero p names path frame (λ w back. exec (context_in_frame p frame w) box.value back)
      low first
      then_one to [] start₁ yeses is_frame.naming test.grows late (adds-old is_none₁ zero₁)
      (subst (λ inner. Makes p names path (stmt_part p frame inner)
      (Does names frame.exits frame.home first) first then_one start₁ yeses) is_inner one))
      (makes-behind-zero p names path frame (λ w back. optional_now p frame other w back) low then_one high
      to []
      start₂ noes is_frame.naming (grows-then low first then_one test.grows one.grows) late
      (adds-old is_none₂ zero₂) two) added

  pub loop-made : (parts : LoopParts) (body_frame step_frame : Frame) (inside₁ inside₂ inside₃ : List Step)
      (to : ℕ)
      (test_end body_end high : Types) (old out new none₁ heads none₂ start bodies none₃ turned none₄ steps
      none₅ loops : List Node)
      → inside₁ ≡ path ++ Turn parts.stmt 0 ∷ [] → inside₂ ≡ path ++ Turn parts.stmt 0 ∷ []
      → inside₃ ≡ path ++ Turn parts.stmt 0 ∷ []
      → none₁ ≡ [] → none₂ ≡ [] → none₃ ≡ [] → none₄ ≡ [] → none₅ ≡ []
      → body_frame ≡ record frame { exits = body_exits } →
      step_frame ≡ record frame { exits = turn_exits frame.exits } → to ≡ length low.vars
      → (IsScope p names low → Makes p names inside₁ (given_part p frame parts.stmt wanted.Truth parts.when)
      (Gives names (has_call parts.when) low (reading (Var to))) low test_end none₁ heads)
      → Adds none₂ start (set_act to (Const (pos 0)))
      → (IsFrame p body_frame.home names test_end → Makes p names inside₂ (stmt_part p body_frame parts.body)
      (Does names body_frame.exits body_frame.home test_end) test_end body_end start bodies)
      → Adds none₃ turned (block_act 2 bodies)
      → (IsFrame p step_frame.home names body_end → Makes p names inside₃ (stmts_part p step_frame parts.step)
      (Does names step_frame.exits step_frame.home body_end) body_end high none₄ steps)
      → Adds none₅ loops (loop_act parts.after heads (Var to) turned steps parts.stmt)
      → Adds old out (block_act 1 loops) → Adds out new (set_act to (Const (pos 0)))
      → Makes p names path (loop_part p frame parts) (Does names frame.exits frame.home low) low high old new
  loop-made parts body_frame step_frame inside₁ inside₂ inside₃ to test_end body_end high old out new none₁
      heads none₂ start bodies none₃
      turned none₄ steps none₅ loops is_inside₁ is_inside₂ is_inside₃ is_none₁ is_none₂ is_none₃ is_none₄
      is_none₅ is_body is_step is_to
      tested first_zero run_body blocked run_step looped outer last_zero =
      let late : length low.vars ≤ to = omega (arith, is_to) in
      let few : frame.home < length low.vars = is_frame.naming.below.0 in
      let inside : List Step = path ++ Turn parts.stmt 0 ∷ [] in
      let test : Makes p names inside (given_part p frame parts.stmt wanted.Truth parts.when)
      (Gives names (has_call parts.when) low (reading (Var to))) low test_end [] heads =
      makes-along is_inside₁ (makes-old is_none₁ (tested own_scope)) in
      let at_test : IsFrame p frame.home names test_end = frame-later p frame.home names low test_end
      test.grows is_frame in
      let body : Makes p names inside (stmt_part p (record frame { exits = body_exits }) parts.body)
      (Does names body_exits frame.home test_end) test_end body_end start bodies =
      subst (λ (f : Frame). IsFrame p f.home names test_end → Makes p names inside (stmt_part p f parts.body)
      (Does names f.exits f.home test_end) test_end body_end start bodies) is_body
      (λ at. makes-along is_inside₂ (run_body at)) at_test in
      let step : Makes p names inside (stmts_part p (record frame { exits = turn_exits frame.exits })
      parts.step)
      (Does names (turn_exits frame.exits) frame.home body_end) body_end high [] steps =
      subst (λ (f : Frame). IsFrame p f.home names body_end → Makes p names inside (stmts_part p f parts.step)
      (Does names f.exits f.home body_end) body_end high [] steps) is_step
      (λ at. makes-along is_inside₃ (makes-old is_none₄ (run_step at)))
      (frame-later p frame.home names test_end body_end body.grows at_test) in
      does-cleared p names path (loop_part p frame parts) frame frame.home low high old out new
      is_frame.naming
      (makes-loop p names path frame parts.stmt parts.when parts.body parts.step (has_call parts.when) to
      low test_end body_end
      high heads bodies steps turned is_frame.naming test
      (makes-behind-zero p names inside (record frame { exits = body_exits })
      (λ w back. exec (context_in_frame p (record frame { exits = body_exits }) w) parts.body back) low
      test_end
      body_end to [] start bodies is_frame.naming test.grows late (adds-old is_none₂ first_zero) body)
      body.grows (adds-old is_none₃ blocked) step old out loops parts.after
      (adds-old is_none₅ looped) outer)
      (wipes-one (length low.vars) frame.home to out new
      (late, λ same. absurd (omega (arith, late, few, same))) last_zero)
