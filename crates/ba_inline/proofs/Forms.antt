-- Each form of a statement, as the parts that the inliner goes on with.
use Rattle.std.proofs.Common.{◌≡◌, ℕ, Bool, true, false, Option, List, [], ◌∷◌, ◌++◌, map, sym, ◌∙◌, ap}
use Rattle.std.specs.Global.{Box, Vec}
use Rattle.ba_code.proofs.Rows.{in_order-append, in_order-one}
use Rattle.std.proofs.lemmas.List.{map-append}
use Rattle.ba_code.specs.State.{CodeState}
use Rattle.ba_inline.specs.Parts.{LoopParts, assign_part, call_stmt_part, context_in_frame, declare_part, init_array_part, loop_now, loop_part, print_part, stmt_part, stmts_part, store_part}
use Rattle.ba_inline.specs.Switching.{switch_part}
use Rattle.ba_inline.specs.Worlds.{World, context_with}
use Rattle.ba_inline.specs.declared.frames.Frame.{Frame}
use Rattle.ba_numbers.specs.declared.ids.CallId.{CallId}
use Rattle.ba_numbers.specs.declared.ids.FnId.{FnId}
use Rattle.ba_numbers.specs.declared.ids.StmtId.{StmtId}
use Rattle.ba_numbers.specs.declared.ids.VarId.{VarId}
use Rattle.ba_numbers.specs.declared.numbers.CType.{CType}
use Rattle.ba_tree.proofs.Equations.{exec-Assign, exec-Block, exec-CallStmt, exec-Declare, exec-DoWhile, exec-For, exec-Init, exec-InitArray, exec-Print, exec-Store, exec-Switch, exec-While, labelled}
use Rattle.ba_tree.specs.Acts.{after_part, in_order, then_do}
use Rattle.ba_tree.specs.Meaning.{Context, and_next, at_path, call_effect, do_loop, exec, exec_all, for_loop, given_elements, given_value, print_effect, set_elements}
use Rattle.ba_tree.specs.State.{State}
use Rattle.ba_tree.specs.declared.run.Step.{Step}
use Rattle.ba_tree.specs.declared.tree.Arg.{Arg}
use Rattle.ba_tree.specs.declared.tree.Expr.{Expr}
use Rattle.ba_tree.specs.declared.tree.Program.{Program}
use Rattle.ba_tree.specs.declared.tree.Start.{Start}
use Rattle.ba_tree.specs.declared.tree.Stmt.{Stmt}
use Rattle.ba_tree.specs.declared.tree.Stmt as stmts

-- ROWS of statements

pub exec_all-more : (x : Context) (path : List Step) (body : List Stmt) (stmt : Stmt) (s : State)
    → exec_all x path (body ++ stmt ∷ []) s ≡ then_do (exec_all x path body s) (after_part (exec x stmt path))
unfolding exec_all
exec_all-more x path body stmt s =
    ap (λ parts. in_order parts s)
    (ap (map (at_path path)) (map-append (exec x) body (stmt ∷ []))
    ∙ map-append (at_path path) (map (exec x) body) (map (exec x) (stmt ∷ [])))
    ∙ in_order-append (map (at_path path) (map (exec x) body)) (exec x stmt path ∷ []) s
    ∙ ap (λ f. then_do (in_order (map (at_path path) (map (exec x) body)) s) (after_part f))
    (λ i s. in_order-one (exec x stmt path) s i)

module _ (p : Program) (frame : Frame) (stmt : Stmt) (w : World) (path : List Step) (t : CodeState) (s :
    State) where
  pub form-Block : (vec : Vec Stmt) (body : List Stmt) → stmt ≡ stmts.Block vec → body ≡ vec.items
      → stmt_part p frame stmt w path t s ≡ stmts_part p frame body w path t s
  form-Block vec body is is_body = exec-Block (context_in_frame p frame w) path stmt s vec is
      ∙ ap (λ body. exec_all (context_in_frame p frame w) path body s) (sym is_body)

  pub form-Declare : (v : VarId) → stmt ≡ stmts.Declare v →
      stmt_part p frame stmt w path t s ≡ declare_part p v w path t s
  unfolding context_with
  form-Declare v is = exec-Declare (context_in_frame p frame w) path stmt s v is

  pub form-Init : (here : StmtId) (v : VarId) (e : Expr) → stmt ≡ stmts.Init here v e
      → stmt_part p frame stmt w path t s ≡ assign_part p frame here v e w path t s
  unfolding context_with
  form-Init here v e is = exec-Init (context_in_frame p frame w) path stmt s here v e is

  pub form-Assign : (here : StmtId) (v : VarId) (e : Expr) → stmt ≡ stmts.Assign here v e
      → stmt_part p frame stmt w path t s ≡ assign_part p frame here v e w path t s
  unfolding context_with
  form-Assign here v e is = exec-Assign (context_in_frame p frame w) path stmt s here v e is

  pub form-InitArray : (here : StmtId) (array : VarId) (vec : Vec Expr) (values : List Expr)
      → stmt ≡ stmts.InitArray here array vec → values ≡ vec.items
      → stmt_part p frame stmt w path t s ≡ init_array_part p frame here array values w path t s
  form-InitArray here array vec values is is_values = exec-InitArray (context_in_frame p frame w) path stmt
      s here array vec is
      ∙ ap (λ values. then_do (given_elements (context_in_frame p frame w) path here array values s)
      (set_elements array))
      (sym is_values)

  pub form-Store : (here : StmtId) (array : VarId) (index value : Expr) →
      stmt ≡ stmts.Store here array index value
      → stmt_part p frame stmt w path t s ≡ store_part p frame here array index value w path t s
  form-Store here array index value is = exec-Store (context_in_frame p frame w) path stmt s here array
      index value is

  pub form-CallStmt : (here : StmtId) (call : CallId) (fn : FnId) (vec : Vec Arg) (args : List Arg)
      → stmt ≡ stmts.CallStmt here call fn vec → args ≡ vec.items
      → stmt_part p frame stmt w path t s ≡ call_stmt_part p frame here call fn args w path t s
  form-CallStmt here call fn vec args is is_args = exec-CallStmt (context_in_frame p frame w) path stmt s
      here call fn vec is
      ∙ ap (λ args. then_do (call_effect (context_in_frame p frame w) path here call fn args s) and_next)
      (sym is_args)

  pub form-Print : (here : StmtId) (vec : Vec Expr) (values : List Expr) → stmt ≡ stmts.Print here vec →
      values ≡ vec.items
      → stmt_part p frame stmt w path t s ≡ print_part p frame here values w path t s
  form-Print here vec values is is_values = exec-Print (context_in_frame p frame w) path stmt s here vec is
      ∙ ap (λ values. then_do (print_effect (context_in_frame p frame w) path here values s) and_next) (sym
      is_values)

  pub form-Switch : (here : StmtId) (ty : CType) (on : Expr) (vec : Vec Start) (other : Option ℕ) (rows :
      Vec Stmt)
      (starts : List Start) (body : List Stmt) → stmt ≡ stmts.Switch here ty on vec other rows
      → starts ≡ vec.items → body ≡ rows.items
      → stmt_part p frame stmt w path t s ≡ switch_part p frame here ty on starts other body w path t s
  form-Switch here ty on vec other rows starts body is is_starts is_body =
      exec-Switch (context_in_frame p frame w) path stmt s here ty on vec other rows is
      ∙ (λ i. then_do (given_value (context_in_frame p frame w) path here ty on s)
      (labelled (context_in_frame p frame w) path (sym is_starts i) other (sym is_body i)))

  abbrev parts_with : Bool → StmtId → Expr → Stmt → List Stmt → LoopParts
  parts_with after here when body step = record {
    after = after;
    stmt = here;
    when = when;
    body = body;
    step = step;
  }

  pub form-While : (here : StmtId) (when : Expr) (body : Box Stmt) (inner : Stmt) →
      stmt ≡ stmts.While here when body
      → inner ≡ body.value
      → stmt_part p frame stmt w path t s ≡ loop_part p frame (parts_with false here when inner []) w path t s
  unfolding loop_now
  form-While here when body inner is is_inner = exec-While (context_in_frame p frame w) path stmt s here
      when body is
      ∙ ap (λ body. for_loop (context_in_frame p frame w) path here when (exec (context_in_frame p frame w)
      body)
      (λ inside. exec_all (context_in_frame p frame w) inside []) s) (sym is_inner)

  pub form-DoWhile : (here : StmtId) (when : Expr) (body : Box Stmt) (inner : Stmt) →
      stmt ≡ stmts.DoWhile here when body
      → inner ≡ body.value
      → stmt_part p frame stmt w path t s ≡ loop_part p frame (parts_with true here when inner []) w path t s
  unfolding loop_now do_loop exec_all context_with
  form-DoWhile here when body inner is is_inner = exec-DoWhile (context_in_frame p frame w) path stmt s
      here when body is
      ∙ ap (λ body. do_loop (context_in_frame p frame w) path here when (exec (context_in_frame p frame w)
      body) s) (sym is_inner)

  pub form-For : (here : StmtId) (front : Vec Stmt) (when : Expr) (step : Vec Stmt) (body : Box Stmt)
      (first steps : List Stmt) (inner : Stmt) → stmt ≡ stmts.For here front when step body
      → first ≡ front.items → steps ≡ step.items → inner ≡ body.value
      → stmt_part p frame stmt w path t s ≡ then_do (stmts_part p frame first w path t s)
      (after_part (loop_part p frame (parts_with false here when inner steps) w path t))
  unfolding loop_now
  form-For here front when step body first steps inner is is_first is_steps is_inner =
      exec-For (context_in_frame p frame w) path stmt s here front when step body is
      ∙ ap (λ first. then_do (exec_all (context_in_frame p frame w) path first s)
      (after_part (for_loop (context_in_frame p frame w) path here when (exec (context_in_frame p frame w)
      body.value)
      (λ inside. exec_all (context_in_frame p frame w) inside step.items)))) (sym is_first)
      ∙ ap (λ steps. then_do (exec_all (context_in_frame p frame w) path first s)
      (after_part (for_loop (context_in_frame p frame w) path here when (exec (context_in_frame p frame w)
      body.value)
      (λ inside. exec_all (context_in_frame p frame w) inside steps)))) (sym is_steps)
      ∙ ap (λ inner. then_do (exec_all (context_in_frame p frame w) path first s)
      (after_part (for_loop (context_in_frame p frame w) path here when (exec (context_in_frame p frame w)
      inner)
      (λ inside. exec_all (context_in_frame p frame w) inside steps)))) (sym is_inner)
