-- The copy of each form is the changed tree, if those of its parts are.
use Rattle.std.proofs.Common.{◌≡◌, ℕ, ◌+◌, ◌-◌, ◌≤◌, ℤ, Option, None, Some, List, [], ◌∷◌, ◌++◌, length, map, drop, refl, sym, ◌∙◌, ap, append_assoc, append-nil, arith, length-append}
use Rattle.std.specs.Prelude.{flat_map, option_map}
use Rattle.std.specs.Global.{Box, Vec}
use Rattle.std.proofs.lemmas.List.{map-append}
use Rattle.std.proofs.lemmas.List.Concat.{flat_map-cons}
use Rattle.ba_numbers.specs.declared.ids.CallId.{CallId}
use Rattle.ba_numbers.specs.declared.ids.FnId.{FnId}
use Rattle.ba_numbers.specs.declared.ids.StmtId.{StmtId}
use Rattle.ba_numbers.specs.declared.ids.VarId.{VarId}
use Rattle.ba_numbers.specs.declared.numbers.BinOp.{BinOp}
use Rattle.ba_numbers.specs.declared.numbers.CType.{CType}
use Rattle.ba_numbers.specs.declared.numbers.UnOp.{UnOp}
use Rattle.ba_tree.specs.declared.tree.Arg.{Arg}
use Rattle.ba_tree.specs.declared.tree.Expr.{Expr}
use Rattle.ba_tree.specs.declared.tree.Expr as code
use Rattle.ba_tree.specs.declared.tree.Start.{Start}
use Rattle.ba_tree.specs.declared.tree.Stmt.{Stmt}
use Rattle.ba_tree.specs.declared.tree.Stmt as stmts
use Rattle.ba_tree.specs.Trees.{ArgTree, ExprTree, StmtTree, args_of, stmts_of, tree_of_arg, tree_of_expr, tree_of_stmt}
use Rattle.ba_tree.specs.Trees as tree
use Rattle.ba_typing.proofs.StmtForms as of_stmt
use Rattle.ba_typing.proofs.TreeForms as of_expr
use Rattle.ba_typing.proofs.Walks.{none_left}
use Rattle.ba_repair.specs.Changes.{change_here, changed_and, changed_arg, changed_arg_list, changed_args, changed_expr, changed_exprs, changed_in, changed_or, changed_stmt, changed_stmts, changed_value, node_in, operator_here}
use Rattle.ba_repair.specs.Nodes.{arg_nodes, expr_nodes, operator_nodes}
use Rattle.ba_repair.specs.declared.listing.Change.{Change}
use Rattle.ba_repair.specs.declared.listing.Edit.{Edit}
use Rattle.ba_repair.proofs.NodeForms as forms

-- ROWS OF PARTS: as a list, and as a tree

pub changed_args-row : (c : Change) (k : ℕ) (args : List ArgTree)
    → changed_args c k (args_of args) ≡ args_of (changed_arg_list c k args)
changed_args-row c k [] = refl
changed_args-row c k (tree.value e ∷ args) =
    ap (tree.value_then (changed_expr c k e)) (changed_args-row c (k - length (expr_nodes e)) args)
changed_args-row c k (tree.array v ∷ args) =
    let same : k ≡ k - 0 = omega arith in
    ap (tree.array_then v)
    (changed_args-row c k args ∙ ap (λ k. args_of (changed_arg_list c k args)) same)

pub changed_stmts-row : (edit : Edit) (ss : List StmtTree)
    → changed_stmts edit (stmts_of ss) ≡ stmts_of (map (changed_stmt edit) ss)
changed_stmts-row edit [] = refl
changed_stmts-row edit (s ∷ ss) = ap (tree.stmt_then (changed_stmt edit s)) (changed_stmts-row edit ss)

-- EXPRESSIONS: the form e with parts x, y and z, node k changed

module _ (c : Change) (k : ℕ) (e : Expr) where
  pub copied-Const : (t : CType) (z : ℤ) (here : Option Change) (to : ℤ) → e ≡ code.Const t z
      → here ≡ change_here c k → to ≡ changed_value here z
      → tree_of_expr (code.Const t to) ≡ changed_expr c k (tree_of_expr e)
  copied-Const t z here to is at_here at_to = of_expr.tree-Const t to
      ∙ ap (tree.const t) (at_to ∙ ap (λ here. changed_value here z) at_here)
      ∙ ap (changed_expr c k) (sym (forms.const-tree e t z is))

  pub copied-Var : (v : VarId) → e ≡ code.Var v → tree_of_expr (code.Var v) ≡ changed_expr c k (tree_of_expr
      e)
  copied-Var v is = of_expr.tree-Var v ∙ ap (changed_expr c k) (sym (forms.var-tree e v is))

  pub copied-Element : (v : VarId) (a new : Box Expr) (x : Expr) → e ≡ code.Element v a → x ≡ a.value
      → tree_of_expr new.value ≡ changed_expr c k (tree_of_expr x)
      → tree_of_expr (code.Element v new) ≡ changed_expr c k (tree_of_expr e)
  copied-Element v a new x is at_x part = of_expr.tree-Element v new new.value refl
      ∙ ap (tree.element v) part ∙ ap (changed_expr c k) (sym (forms.element-tree e v a x is at_x))

  pub copied-Unary : (op : UnOp) (t : CType) (a new : Box Expr) (x : Expr) → e ≡ code.Unary op t a → x ≡
      a.value
      → tree_of_expr new.value ≡ changed_expr c k (tree_of_expr x)
      → tree_of_expr (code.Unary op t new) ≡ changed_expr c k (tree_of_expr e)
  copied-Unary op t a new x is at_x part = of_expr.tree-Unary op t new new.value refl
      ∙ ap (tree.unary op t) part ∙ ap (changed_expr c k) (sym (forms.unary-tree e op t a x is at_x))

  pub copied-Convert : (t : CType) (a new : Box Expr) (x : Expr) → e ≡ code.Convert t a → x ≡ a.value
      → tree_of_expr new.value ≡ changed_expr c k (tree_of_expr x)
      → tree_of_expr (code.Convert t new) ≡ changed_expr c k (tree_of_expr e)
  copied-Convert t a new x is at_x part = of_expr.tree-Convert t new new.value refl
      ∙ ap (tree.convert t) part ∙ ap (changed_expr c k) (sym (forms.convert-tree e t a x is at_x))

  pub copied-Binary : (op to : BinOp) (t : CType) (a b new new_b : Box Expr) (x y : Expr) (one : ℕ)
      → e ≡ code.Binary op t a b → x ≡ a.value → y ≡ b.value
      → to ≡ operator_here c k op → one ≡ k - length (operator_nodes op)
      → tree_of_expr new.value ≡ changed_expr c one (tree_of_expr x)
      → tree_of_expr new_b.value ≡ changed_expr c (one - length (expr_nodes (tree_of_expr x))) (tree_of_expr
      y)
      → tree_of_expr (code.Binary to t new new_b) ≡ changed_expr c k (tree_of_expr e)
  copied-Binary op to t a b new new_b x y one is at_x at_y at_to at_one first second =
      of_expr.tree-Binary to t new new_b new.value new_b.value refl refl
      ∙ (λ i. tree.binary (at_to i) t (first i) (second i))
      ∙ ap (λ one. tree.binary (operator_here c k op) t (changed_expr c one (tree_of_expr x))
      (changed_expr c (one - length (expr_nodes (tree_of_expr x))) (tree_of_expr y))) at_one
      ∙ ap (changed_expr c k) (sym (forms.binary-tree e op t a b x y is at_x at_y))

  pub copied-Select : (t : CType) (a b d new new_b new_d : Box Expr) (x y z : Expr) (one : ℕ)
      → e ≡ code.Select t a b d → x ≡ a.value → y ≡ b.value → z ≡ d.value
      → one ≡ k - length (expr_nodes (tree_of_expr x))
      → tree_of_expr new.value ≡ changed_expr c k (tree_of_expr x)
      → tree_of_expr new_b.value ≡ changed_expr c one (tree_of_expr y)
      → tree_of_expr new_d.value ≡ changed_expr c (one - length (expr_nodes (tree_of_expr y))) (tree_of_expr
      z)
      → tree_of_expr (code.Select t new new_b new_d) ≡ changed_expr c k (tree_of_expr e)
  copied-Select t a b d new new_b new_d x y z one is at_x at_y at_z at_one first second third =
      of_expr.tree-Select t new new_b new_d new.value new_b.value new_d.value refl refl refl
      ∙ (λ i. tree.select t (first i) (second i) (third i))
      ∙ ap (λ one. tree.select t (changed_expr c k (tree_of_expr x)) (changed_expr c one (tree_of_expr y))
      (changed_expr c (one - length (expr_nodes (tree_of_expr y))) (tree_of_expr z))) at_one
      ∙ ap (changed_expr c k) (sym (forms.select-tree e t a b d x y z is at_x at_y at_z))

  pub copied-And : (a b new new_b : Box Expr) (x y : Expr) (one : ℕ) (here : Option Change) (copy : Expr)
      → e ≡ code.AndAlso a b → x ≡ a.value → y ≡ b.value
      → here ≡ change_here c k → one ≡ k - 1
      → tree_of_expr new.value ≡ changed_expr c one (tree_of_expr x)
      → tree_of_expr new_b.value ≡ changed_expr c (one - length (expr_nodes (tree_of_expr x))) (tree_of_expr
      y)
      → tree_of_expr copy ≡ changed_and here (tree_of_expr new.value) (tree_of_expr new_b.value)
      → tree_of_expr copy ≡ changed_expr c k (tree_of_expr e)
  copied-And a b new new_b x y one here copy is at_x at_y at_here at_one first second made =
      made ∙ (λ i. changed_and (at_here i) (first i) (second i))
      ∙ ap (λ one. changed_and (change_here c k) (changed_expr c one (tree_of_expr x))
      (changed_expr c (one - length (expr_nodes (tree_of_expr x))) (tree_of_expr y))) at_one
      ∙ ap (changed_expr c k) (sym (forms.and-tree e a b x y is at_x at_y))

  pub copied-Or : (a b new new_b : Box Expr) (x y : Expr) (one : ℕ) (here : Option Change) (copy : Expr)
      → e ≡ code.OrElse a b → x ≡ a.value → y ≡ b.value
      → here ≡ change_here c k → one ≡ k - 1
      → tree_of_expr new.value ≡ changed_expr c one (tree_of_expr x)
      → tree_of_expr new_b.value ≡ changed_expr c (one - length (expr_nodes (tree_of_expr x))) (tree_of_expr
      y)
      → tree_of_expr copy ≡ changed_or here (tree_of_expr new.value) (tree_of_expr new_b.value)
      → tree_of_expr copy ≡ changed_expr c k (tree_of_expr e)
  copied-Or a b new new_b x y one here copy is at_x at_y at_here at_one first second made =
      made ∙ (λ i. changed_or (at_here i) (first i) (second i))
      ∙ ap (λ one. changed_or (change_here c k) (changed_expr c one (tree_of_expr x))
      (changed_expr c (one - length (expr_nodes (tree_of_expr x))) (tree_of_expr y))) at_one
      ∙ ap (changed_expr c k) (sym (forms.or-tree e a b x y is at_x at_y))

  pub copied-Call : (call : CallId) (f : FnId) (args new : Vec Arg) (xs : List Arg)
      → e ≡ code.Call call f args → xs ≡ args.items
      → map tree_of_arg new.items ≡ changed_arg_list c k (map tree_of_arg xs)
      → tree_of_expr (code.Call call f new) ≡ changed_expr c k (tree_of_expr e)
  copied-Call call f args new xs is at_xs row = of_expr.tree-Call call f new
      ∙ ap (λ args. tree.call call f (args_of args)) row
      ∙ ap (tree.call call f) (sym (changed_args-row c k (map tree_of_arg xs)))
      ∙ ap (changed_expr c k) (sym (forms.call-tree e call f args xs is at_xs))

-- ARGUMENTS IN A ROW: what is copied, and what the rest will be

pub args-next : (c : Change) (args : List Arg) (i left : ℕ) (copies : List Arg) (whole : List ArgTree)
    → map tree_of_arg copies ++ changed_arg_list c left (map tree_of_arg (drop i args)) ≡ whole
    → (a copy : Arg) (after : ℕ) (new : List Arg) → drop i args ≡ a ∷ drop (i + 1) args
    → tree_of_arg copy ≡ changed_arg c left (tree_of_arg a)
    → after ≡ left - length (arg_nodes (tree_of_arg a)) → new ≡ copies ++ copy ∷ []
    → map tree_of_arg new ++ changed_arg_list c after (map tree_of_arg (drop (i + 1) args)) ≡ whole
args-next c args i left copies whole rest a copy after new next copied counted pushed =
    ap (λ new. map tree_of_arg new ++ changed_arg_list c after (map tree_of_arg (drop (i + 1) args))) pushed
    ∙ ap (λ xs. xs ++ changed_arg_list c after (map tree_of_arg (drop (i + 1) args)))
    (map-append tree_of_arg copies (copy ∷ []))
    ∙ append_assoc (map tree_of_arg copies) (tree_of_arg copy ∷ [])
    (changed_arg_list c after (map tree_of_arg (drop (i + 1) args)))
    ∙ (λ j. map tree_of_arg copies
    ++ copied j ∷ changed_arg_list c (counted j) (map tree_of_arg (drop (i + 1) args)))
    ∙ ap (λ xs. map tree_of_arg copies ++ changed_arg_list c left (map tree_of_arg xs)) (sym next) ∙ rest

pub args-left-next : (args : List Arg) (i left end : ℕ)
    → left - length (flat_map arg_nodes (map tree_of_arg (drop i args))) ≡ end
    → (a : Arg) (after : ℕ) → drop i args ≡ a ∷ drop (i + 1) args
    → after ≡ left - length (arg_nodes (tree_of_arg a))
    → after - length (flat_map arg_nodes (map tree_of_arg (drop (i + 1) args))) ≡ end
args-left-next args i left end rest a after next counted =
    let split : length (flat_map arg_nodes (map tree_of_arg (drop i args)))
    ≡ length (arg_nodes (tree_of_arg a)) + length (flat_map arg_nodes (map tree_of_arg (drop (i + 1)
    args))) =
    ap (λ xs. length (flat_map arg_nodes (map tree_of_arg xs))) next
    ∙ ap length (flat_map-cons arg_nodes (tree_of_arg a) (map tree_of_arg (drop (i + 1) args)))
    ∙ length-append (arg_nodes (tree_of_arg a)) (flat_map arg_nodes (map tree_of_arg (drop (i + 1) args)))
    in
    omega arith

pub args-end : (c : Change) (args : List Arg) (i left : ℕ) (copies : List Arg) (whole : List ArgTree)
    → map tree_of_arg copies ++ changed_arg_list c left (map tree_of_arg (drop i args)) ≡ whole
    → length args ≤ i → map tree_of_arg copies ≡ whole
args-end c args i left copies whole rest past = sym (append-nil (map tree_of_arg copies))
    ∙ ap (λ xs. map tree_of_arg copies ++ changed_arg_list c left (map tree_of_arg xs))
    (sym (none_left args i past)) ∙ rest

pub args-left-end : (args : List Arg) (i left end : ℕ)
    → left - length (flat_map arg_nodes (map tree_of_arg (drop i args))) ≡ end
    → length args ≤ i → left ≡ end
args-left-end args i left end rest past =
    let none : length (flat_map arg_nodes (map tree_of_arg (drop i args))) ≡ 0 =
    ap (λ xs. length (flat_map arg_nodes (map tree_of_arg xs))) (none_left args i past) in
    omega arith

-- EXPRESSIONS IN A ROW

module _ (c : Change) (es : List Expr) (i left : ℕ) (copies : List Expr) (whole : List ExprTree)
    (rest : map tree_of_expr copies ++ changed_exprs c left (map tree_of_expr (drop i es)) ≡ whole) where
  pub exprs-next : (e copy : Expr) (after : ℕ) (new : List Expr) → drop i es ≡ e ∷ drop (i + 1) es
      → tree_of_expr copy ≡ changed_expr c left (tree_of_expr e)
      → after ≡ left - length (expr_nodes (tree_of_expr e)) → new ≡ copies ++ copy ∷ []
      → map tree_of_expr new ++ changed_exprs c after (map tree_of_expr (drop (i + 1) es)) ≡ whole
  exprs-next e copy after new next copied counted pushed =
      ap (λ new. map tree_of_expr new ++ changed_exprs c after (map tree_of_expr (drop (i + 1) es))) pushed
      ∙ ap (λ xs. xs ++ changed_exprs c after (map tree_of_expr (drop (i + 1) es)))
      (map-append tree_of_expr copies (copy ∷ []))
      ∙ append_assoc (map tree_of_expr copies) (tree_of_expr copy ∷ [])
      (changed_exprs c after (map tree_of_expr (drop (i + 1) es)))
      ∙ (λ j. map tree_of_expr copies
      ++ copied j ∷ changed_exprs c (counted j) (map tree_of_expr (drop (i + 1) es)))
      ∙ ap (λ xs. map tree_of_expr copies ++ changed_exprs c left (map tree_of_expr xs)) (sym next) ∙ rest

  pub exprs-end : length es ≤ i → map tree_of_expr copies ≡ whole
  exprs-end past = sym (append-nil (map tree_of_expr copies))
      ∙ ap (λ xs. map tree_of_expr copies ++ changed_exprs c left (map tree_of_expr xs))
      (sym (none_left es i past)) ∙ rest

-- WHAT IS COPIED ONE BY ONE

module _ {A B : Type 0} (v : A → B) (f : B → B) (xs : List A) (i : ℕ) (copies : List A) (whole : List B)
    (rest : map v copies ++ map f (map v (drop i xs)) ≡ whole) where
  pub copies-next : (x copy : A) (new : List A) → drop i xs ≡ x ∷ drop (i + 1) xs → v copy ≡ f (v x)
      → new ≡ copies ++ copy ∷ [] → map v new ++ map f (map v (drop (i + 1) xs)) ≡ whole
  copies-next x copy new next copied pushed =
      ap (λ new. map v new ++ map f (map v (drop (i + 1) xs))) pushed
      ∙ ap (λ ys. ys ++ map f (map v (drop (i + 1) xs))) (map-append v copies (copy ∷ []))
      ∙ append_assoc (map v copies) (v copy ∷ []) (map f (map v (drop (i + 1) xs)))
      ∙ ap (λ y. map v copies ++ y ∷ map f (map v (drop (i + 1) xs))) copied
      ∙ ap (λ ys. map v copies ++ map f (map v ys)) (sym next) ∙ rest

  pub copies-end : length xs ≤ i → map v copies ≡ whole
  copies-end past = sym (append-nil (map v copies))
      ∙ ap (λ ys. map v copies ++ map f (map v ys)) (sym (none_left xs i past)) ∙ rest

-- STATEMENTS

-- an `if` of parts that are changed
changed_if : (edit : Edit) (stmt : StmtId) (when : ExprTree) (a : StmtTree) (b : Option StmtTree)
    → tree.if_tree stmt (changed_in edit stmt when) (changed_stmt edit a) (option_map (changed_stmt edit) b)
    ≡ changed_stmt edit (tree.if_tree stmt when a b)
changed_if edit stmt when a None = refl
changed_if edit stmt when a (Some b) = refl

-- a part that may be there
optional-tree : (edit : Edit) (b : Option (Box Stmt))
    → option_map (λ (b : Box Stmt). changed_stmt edit (tree_of_stmt b.value)) b
    ≡ option_map (changed_stmt edit) (option_map (λ (b : Box Stmt). tree_of_stmt b.value) b)
optional-tree edit None = refl
optional-tree edit (Some b) = refl

module _ (edit : Edit) (s : Stmt) where
  pub copied-Block : (body new : Vec Stmt) (xs : List Stmt) → s ≡ stmts.Block body → xs ≡ body.items
      → map tree_of_stmt new.items ≡ map (changed_stmt edit) (map tree_of_stmt xs)
      → tree_of_stmt (stmts.Block new) ≡ changed_stmt edit (tree_of_stmt s)
  copied-Block body new xs is at_xs row = of_stmt.tree-Block new
      ∙ ap (λ ss. tree.block (stmts_of ss)) row
      ∙ ap tree.block (sym (changed_stmts-row edit (map tree_of_stmt xs)))
      ∙ ap (changed_stmt edit) (sym (forms.block-tree s body xs is at_xs))

  pub copied-Declare : (v : VarId) → s ≡ stmts.Declare v
      → tree_of_stmt (stmts.Declare v) ≡ changed_stmt edit (tree_of_stmt s)
  copied-Declare v is = of_stmt.tree-Declare v ∙ ap (changed_stmt edit) (sym (forms.declare-tree s v is))

  pub copied-Init : (stmt : StmtId) (v : VarId) (e new : Expr) → s ≡ stmts.Init stmt v e
      → tree_of_expr new ≡ changed_in edit stmt (tree_of_expr e)
      → tree_of_stmt (stmts.Init stmt v new) ≡ changed_stmt edit (tree_of_stmt s)
  copied-Init stmt v e new is part = of_stmt.tree-Init stmt v new ∙ ap (tree.init stmt v) part
      ∙ ap (changed_stmt edit) (sym (forms.init-tree s stmt v e is))

  pub copied-InitArray : (stmt : StmtId) (v : VarId) (es new : Vec Expr) (xs : List Expr) (k : ℕ)
      → s ≡ stmts.InitArray stmt v es → xs ≡ es.items → k ≡ node_in edit stmt
      → map tree_of_expr new.items ≡ changed_exprs edit.change k (map tree_of_expr xs)
      → tree_of_stmt (stmts.InitArray stmt v new) ≡ changed_stmt edit (tree_of_stmt s)
  copied-InitArray stmt v es new xs k is at_xs at_k row = of_stmt.tree-InitArray stmt v new
      ∙ ap (tree.init_array stmt v) row
      ∙ ap (λ k. tree.init_array stmt v (changed_exprs edit.change k (map tree_of_expr xs))) at_k
      ∙ ap (changed_stmt edit) (sym (forms.init_array-tree s stmt v es xs is at_xs))

  pub copied-Assign : (stmt : StmtId) (v : VarId) (e new : Expr) → s ≡ stmts.Assign stmt v e
      → tree_of_expr new ≡ changed_in edit stmt (tree_of_expr e)
      → tree_of_stmt (stmts.Assign stmt v new) ≡ changed_stmt edit (tree_of_stmt s)
  copied-Assign stmt v e new is part = of_stmt.tree-Assign stmt v new ∙ ap (tree.assign stmt v) part
      ∙ ap (changed_stmt edit) (sym (forms.assign-tree s stmt v e is))

  pub copied-Store : (stmt : StmtId) (v : VarId) (index e : Expr) (copy : Stmt) → s ≡ stmts.Store stmt v index
      e
      → tree_of_stmt copy ≡ changed_stmt edit (tree.store stmt v (tree_of_expr index) (tree_of_expr e))
      → tree_of_stmt copy ≡ changed_stmt edit (tree_of_stmt s)
  copied-Store stmt v index e copy is made = made
      ∙ ap (changed_stmt edit) (sym (forms.store-tree s stmt v index e is))

  pub copied-If : (stmt : StmtId) (when new : Expr) (a new_a : Box Stmt) (b new_b : Option (Box Stmt)) (x :
      Stmt)
      → s ≡ stmts.If stmt when a b → x ≡ a.value
      → tree_of_expr new ≡ changed_in edit stmt (tree_of_expr when)
      → tree_of_stmt new_a.value ≡ changed_stmt edit (tree_of_stmt x)
      → option_map (λ (b : Box Stmt). tree_of_stmt b.value) new_b
      ≡ option_map (λ (b : Box Stmt). changed_stmt edit (tree_of_stmt b.value)) b
      → tree_of_stmt (stmts.If stmt new new_a new_b) ≡ changed_stmt edit (tree_of_stmt s)
  copied-If stmt when new a new_a b new_b x is at_x first second third =
      forms.tree-If stmt new new_a new_b new_a.value refl
      ∙ (λ i. tree.if_tree stmt (first i) (second i) (third i))
      ∙ ap (tree.if_tree stmt (changed_in edit stmt (tree_of_expr when)) (changed_stmt edit (tree_of_stmt x)))
      (optional-tree edit b)
      ∙ changed_if edit stmt (tree_of_expr when) (tree_of_stmt x)
      (option_map (λ (b : Box Stmt). tree_of_stmt b.value) b)
      ∙ ap (changed_stmt edit) (sym (forms.if-tree s stmt when a b x is at_x))

  pub copied-Switch : (stmt : StmtId) (t : CType) (on new : Expr) (starts new_starts : Vec Start)
      (other : Option ℕ) (body new_body : Vec Stmt) (xs : List Stmt)
      → s ≡ stmts.Switch stmt t on starts other body → xs ≡ body.items
      → new_starts.items ≡ starts.items
      → tree_of_expr new ≡ changed_in edit stmt (tree_of_expr on)
      → map tree_of_stmt new_body.items ≡ map (changed_stmt edit) (map tree_of_stmt xs)
      → tree_of_stmt (stmts.Switch stmt t new new_starts other new_body) ≡ changed_stmt edit (tree_of_stmt s)
  copied-Switch stmt t on new starts new_starts other body new_body xs is at_xs labels first row =
      of_stmt.tree-Switch stmt t new new_starts other new_body
      ∙ (λ i. tree.switch stmt t (first i) (labels i) other (stmts_of (row i)))
      ∙ ap (tree.switch stmt t (changed_in edit stmt (tree_of_expr on)) starts.items other)
      (sym (changed_stmts-row edit (map tree_of_stmt xs)))
      ∙ ap (changed_stmt edit) (sym (forms.switch-tree s stmt t on starts other body xs is at_xs))

  pub copied-While : (stmt : StmtId) (when new : Expr) (a new_a : Box Stmt) (x : Stmt)
      → s ≡ stmts.While stmt when a → x ≡ a.value
      → tree_of_expr new ≡ changed_in edit stmt (tree_of_expr when)
      → tree_of_stmt new_a.value ≡ changed_stmt edit (tree_of_stmt x)
      → tree_of_stmt (stmts.While stmt new new_a) ≡ changed_stmt edit (tree_of_stmt s)
  copied-While stmt when new a new_a x is at_x first second =
      of_stmt.tree-While stmt new new_a new_a.value refl
      ∙ (λ i. tree.while_loop stmt (first i) (second i))
      ∙ ap (changed_stmt edit) (sym (forms.while-tree s stmt when a x is at_x))

  pub copied-DoWhile : (stmt : StmtId) (when new : Expr) (a new_a : Box Stmt) (x : Stmt)
      → s ≡ stmts.DoWhile stmt when a → x ≡ a.value
      → tree_of_expr new ≡ changed_in edit stmt (tree_of_expr when)
      → tree_of_stmt new_a.value ≡ changed_stmt edit (tree_of_stmt x)
      → tree_of_stmt (stmts.DoWhile stmt new new_a) ≡ changed_stmt edit (tree_of_stmt s)
  copied-DoWhile stmt when new a new_a x is at_x first second =
      of_stmt.tree-DoWhile stmt new new_a new_a.value refl
      ∙ (λ i. tree.do_while stmt (first i) (second i))
      ∙ ap (changed_stmt edit) (sym (forms.do_while-tree s stmt when a x is at_x))

  pub copied-For : (stmt : StmtId) (first new_first : Vec Stmt) (when new : Expr) (step new_step : Vec Stmt)
      (a new_a : Box Stmt) (xs zs : List Stmt) (x : Stmt)
      → s ≡ stmts.For stmt first when step a → xs ≡ first.items → zs ≡ step.items → x ≡ a.value
      → map tree_of_stmt new_first.items ≡ map (changed_stmt edit) (map tree_of_stmt xs)
      → tree_of_expr new ≡ changed_in edit stmt (tree_of_expr when)
      → map tree_of_stmt new_step.items ≡ map (changed_stmt edit) (map tree_of_stmt zs)
      → tree_of_stmt new_a.value ≡ changed_stmt edit (tree_of_stmt x)
      → tree_of_stmt (stmts.For stmt new_first new new_step new_a) ≡ changed_stmt edit (tree_of_stmt s)
  copied-For stmt first new_first when new step new_step a new_a xs zs x is at_f at_s at_a one two three all =
      of_stmt.tree-For stmt new_first new new_step new_a new_a.value refl
      ∙ (λ i. tree.for_loop stmt (stmts_of (one i)) (two i) (stmts_of (three i)) (all i))
      ∙ (λ i. tree.for_loop stmt (sym (changed_stmts-row edit (map tree_of_stmt xs)) i)
      (changed_in edit stmt (tree_of_expr when)) (sym (changed_stmts-row edit (map tree_of_stmt zs)) i)
      (changed_stmt edit (tree_of_stmt x)))
      ∙ ap (changed_stmt edit) (sym (forms.for-tree s stmt first when step a xs zs x is at_f at_s at_a))

  pub copied-Break : s ≡ stmts.Break → tree_of_stmt stmts.Break ≡ changed_stmt edit (tree_of_stmt s)
  copied-Break is = of_stmt.tree-Break ∙ ap (changed_stmt edit) (sym (forms.break-tree s is))

  pub copied-Continue : s ≡ stmts.Continue → tree_of_stmt stmts.Continue ≡ changed_stmt edit (tree_of_stmt s)
  copied-Continue is = of_stmt.tree-Continue ∙ ap (changed_stmt edit) (sym (forms.continue-tree s is))

  pub copied-Return : (stmt : StmtId) (e new : Expr) → s ≡ stmts.Return stmt e
      → tree_of_expr new ≡ changed_in edit stmt (tree_of_expr e)
      → tree_of_stmt (stmts.Return stmt new) ≡ changed_stmt edit (tree_of_stmt s)
  copied-Return stmt e new is part = of_stmt.tree-Return stmt new ∙ ap (tree.return_value stmt) part
      ∙ ap (changed_stmt edit) (sym (forms.return-tree s stmt e is))

  pub copied-ReturnNone : s ≡ stmts.ReturnNone → tree_of_stmt stmts.ReturnNone ≡ changed_stmt edit
      (tree_of_stmt s)
  copied-ReturnNone is = of_stmt.tree-ReturnNone ∙ ap (changed_stmt edit) (sym (forms.return_none-tree s is))

  pub copied-CallStmt : (stmt : StmtId) (call : CallId) (f : FnId) (args new : Vec Arg) (xs : List Arg)
      → s ≡ stmts.CallStmt stmt call f args → xs ≡ args.items
      → map tree_of_arg new.items ≡ changed_arg_list edit.change (node_in edit stmt) (map tree_of_arg xs)
      → tree_of_stmt (stmts.CallStmt stmt call f new) ≡ changed_stmt edit (tree_of_stmt s)
  copied-CallStmt stmt call f args new xs is at_xs row = of_stmt.tree-CallStmt stmt call f new
      ∙ ap (tree.call_stmt stmt call f) row
      ∙ ap (changed_stmt edit) (sym (forms.call_stmt-tree s stmt call f args xs is at_xs))

  pub copied-Print : (stmt : StmtId) (args new : Vec Expr) (xs : List Expr) (k : ℕ)
      → s ≡ stmts.Print stmt args → xs ≡ args.items → k ≡ node_in edit stmt
      → map tree_of_expr new.items ≡ changed_exprs edit.change k (map tree_of_expr xs)
      → tree_of_stmt (stmts.Print stmt new) ≡ changed_stmt edit (tree_of_stmt s)
  copied-Print stmt args new xs k is at_xs at_k row = of_stmt.tree-Print stmt new
      ∙ ap (tree.print stmt) row
      ∙ ap (λ k. tree.print stmt (changed_exprs edit.change k (map tree_of_expr xs))) at_k
      ∙ ap (changed_stmt edit) (sym (forms.print-tree s stmt args xs is at_xs))

  pub copied-Assert : (stmt : StmtId) (when new : Expr) → s ≡ stmts.Assert stmt when
      → tree_of_expr new ≡ changed_in edit stmt (tree_of_expr when)
      → tree_of_stmt (stmts.Assert stmt new) ≡ changed_stmt edit (tree_of_stmt s)
  copied-Assert stmt when new is part = of_stmt.tree-Assert stmt new ∙ ap (tree.assert stmt) part
      ∙ ap (changed_stmt edit) (sym (forms.assert-tree s stmt when is))
