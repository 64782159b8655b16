-- The code of expressions.
use Rattle.std.proofs.Common.{◌≡◌, ℕ, zero, suc, ◌+◌, ◌≤◌, ℤ, pos, Bool, false, ◌||◌, Option, None, Some, Ok, List, [], ◌∷◌, length, refl, sym, ◌∙◌, ap, subst, arith, append-nil}
use Rattle.std.specs.Prelude.{slice_index_or}
use Rattle.std.specs.Global.{Box}
use Rattle.ba_code.proofs.Rows.{run-none}
use Rattle.ba_code.specs.Meaning.{path_in, run_nodes}
use Rattle.ba_code.specs.State.{CodeState, cell_at, operand_value, or_trap_at, set_variable, with_variable}
use Rattle.ba_code.specs.Types.{Types}
use Rattle.ba_code.specs.declared.nodes.Node.{Node}
use Rattle.ba_code.specs.declared.nodes.Operand.{Operand}
use Rattle.ba_code.specs.declared.nodes.Operand.TheVariants.{Const, Var}
use Rattle.ba_inline.proofs.Calling.{has_call-Unary, has_call-Binary, has_call-Convert, has_call-Element}
use Rattle.ba_inline.proofs.Ends.{then-pair}
use Rattle.ba_inline.proofs.Joining.{below-more, both_part, gives-fresh, makes-both, makes-tail, settled-stays}
use Rattle.ba_inline.proofs.Keeping.{grows-same, grows-var, keeps-same, with_var-length}
use Rattle.ba_inline.proofs.Seeing.{seen-elements, seen-value}
use Rattle.ba_inline.specs.Adding.{binary_act, convert_act, load_act, unary_act}
use Rattle.ba_inline.specs.Calling.{has_call}
use Rattle.ba_inline.specs.Declarations.{with_var}
use Rattle.ba_inline.specs.Ends.{Meets}
use Rattle.ba_inline.specs.Keeping.{Keeps}
use Rattle.ba_inline.specs.Making.{Adds, Gives, IsSettled, Makes, MakesValue, reading, reading_two}
use Rattle.ba_inline.specs.Names.{AreBelow, IsNaming, Names, array_of, name_of, seen}
use Rattle.ba_inline.specs.Parts.{context_in_frame, value_part}
use Rattle.ba_inline.specs.Worlds.{World, code_setting}
use Rattle.ba_inline.specs.declared.frames.Frame.{Frame}
use Rattle.ba_numbers.specs.Numbers.{converted, value_of, value_of_one}
use Rattle.ba_numbers.specs.declared.ids.StmtId.{StmtId}
use Rattle.ba_numbers.specs.declared.ids.VarId.{VarId}
use Rattle.ba_numbers.specs.declared.numbers.BinOp.{BinOp}
use Rattle.ba_numbers.specs.declared.numbers.CType.{CType}
use Rattle.ba_numbers.specs.declared.numbers.UnOp.{UnOp}
use Rattle.ba_tree.proofs.Equations.{eval-Const, eval-Var, eval-Element, eval-Unary, eval-Binary, eval-Convert}
use Rattle.ba_tree.specs.Acts.{give, then_do}
use Rattle.ba_tree.specs.Meaning.{eval, or_trap}
use Rattle.ba_tree.specs.State.{Act, element_at}
use Rattle.ba_tree.specs.declared.run.Flow.TheVariants.{Next}
use Rattle.ba_tree.specs.declared.run.Step.{Step}
use Rattle.ba_tree.specs.declared.tree.Expr.{Expr}
use Rattle.ba_tree.specs.declared.tree.Expr as tree
use Rattle.ba_tree.specs.declared.tree.Program.{Program}

-- NO CODE AT ALL

settled-at : (names : Names) (d : Types) (os : List Operand) (v : ℕ) → AreBelow (length d.vars) os
    → IsSettled false names d (slice_index_or os v (Const (pos 0)))
settled-at names d [] v below = tt
settled-at names d (Const z ∷ os) zero below = tt
settled-at names d (Var n ∷ os) zero below = (below.0, tt)
settled-at names d (o ∷ os) (suc v) below = settled-at names d os v below.1

module _ (p : Program) (names : Names) (path : List Step) (frame : Frame) (here : StmtId) (e : Expr) (d :
    Types)
    (old : List Node) where
  makes-operand : (o : Operand) → IsSettled false names d o
      → ((w : World) (back : List Step) (t : CodeState)
      → eval (context_in_frame p frame w) back here e (seen names t) ≡ (Ok (operand_value t o), seen names t))
      → MakesValue p names path (value_part p frame here e) (has_call e) false o d d old old
  makes-operand o settled is = record {
    settled = settled;
    makes = record {
      nodes = [];
      is = sym (append-nil old);
      grows = grows-same d;
      runs = λ w turns t ready.
          subst (λ end. Meets (Gives names (has_call e) d (reading o) t) end (run_nodes (code_setting p w)
          [] turns t))
          (sym (is w (path_in turns path) t))
          (subst (Meets (Gives names (has_call e) d (reading o) t) (Ok (operand_value t o), seen names t))
          (sym (run-none (code_setting p w) turns t))
          (record { on = refl; sees = refl; reads = refl; keeps = keeps-same (has_call e) names d t }));
    };
  }

  pub makes-const : (ty : CType) (z y : ℤ) → e ≡ tree.Const ty z → y ≡ z
      → MakesValue p names path (value_part p frame here e) (has_call e) false (Const y) d d old old
  makes-const ty z y is same = makes-operand (Const y) tt
      (λ w back t. eval-Const (context_in_frame p frame w) back here e (seen names t) ty z is
      ∙ ap (λ z. (Ok z, seen names t)) (sym same))

  pub makes-variable : (v : VarId) (o : Operand) → e ≡ tree.Var v → o ≡ name_of names v → IsNaming names d
      → MakesValue p names path (value_part p frame here e) (has_call e) false o d d old old
  makes-variable v o is same naming = makes-operand o
      (subst (IsSettled false names d) (sym same) (settled-at names d names.values v.0 naming.below))
      (λ w back t. eval-Var (context_in_frame p frame w) back here e (seen names t) v is
      ∙ ap (λ z. (Ok z, seen names t)) (seen-value names t v ∙ ap (operand_value t) (sym same)))

-- ONE OPERAND, and a node that sets a fresh variable

fresh-settled : (names : Names) (d : Types) (ty : CType) (to : ℕ) → to ≡ length d.vars
    → IsSettled false names (with_var ty d) (Var to)
fresh-settled names d ty to is =
    let e : length (with_var ty d).vars ≡ length d.vars + 1 = with_var-length ty d in (
      omega (
        arith,
        is,
        e,
      ),
      tt,
    )

module _ (p : Program) (names : Names) (path : List Step) (frame : Frame) (here : StmtId) (e x : Expr) (low
    mid : Types)
    (old out new : List Node) (a : Operand) (to : ℕ) (ty : CType) (keep : Bool) (naming : IsNaming names low)
    (made : MakesValue p names path (value_part p frame here x) (has_call x) keep a low mid old out)
    (is_to : to ≡ length mid.vars) where
  below-to : AreBelow to names.values
  below-to = below-more (length low.vars) to names.values
      (let g : length low.vars ≤ length mid.vars = made.makes.grows.vars in omega arith) naming.below

  fresh-to : length low.vars ≤ to
  fresh-to = let g : length low.vars ≤ length mid.vars = made.makes.grows.vars in omega arith

  fresh-value : (calls : Bool) (t u : CodeState) (z : ℤ) → Keeps calls names low t u
      → Gives names calls low (reading (Var to)) t z (seen names u) Next (with_variable to z u)
  fresh-value calls t u z k = gives-fresh names calls low to t u z (seen names u) below-to fresh-to refl k

  as-value : (calls : Bool) → calls ≡ has_call e
      → Makes p names path (value_part p frame here e) (Gives names calls low (reading (Var to))) low
      (with_var ty mid) old new
      → MakesValue p names path (value_part p frame here e) (has_call e) false (Var to) low (with_var ty
      mid) old new
  as-value calls same makes = subst
      (λ calls. MakesValue p names path (value_part p frame here e) calls false (Var to) low (with_var ty
      mid) old new)
      same (record { settled = fresh-settled names mid ty to is_to; makes = makes })

  pub makes-unary : (op : UnOp) (t : CType) (b : Box Expr) → e ≡ tree.Unary op t b → x ≡ b.value
      → Adds out new (unary_act to op t a)
      → MakesValue p names path (value_part p frame here e) (has_call e) false (Var to) low (with_var ty
      mid) old new
  unfolding code_setting
  makes-unary op t b is at added = as-value (has_call x) (ap has_call at ∙ sym (has_call-Unary e op t b is))
      (makes-tail p names path (value_part p frame here x) (value_part p frame here e)
      (Gives names (has_call x) low (reading (Var to))) (has_call x) (reading a) low mid (with_var ty mid)
      old out new
      (unary_act to op t a) (λ w back t' y. give (value_of_one op t y)) made.makes (grows-var ty mid) added
      (λ w back t' s. eval-Unary (context_in_frame p frame w) back here e s op t b is
      ∙ ap (λ x. then_do (eval (context_in_frame p frame w) back here x s) (λ y. give (value_of_one op t
      y))) (sym at))
      (λ w turns t' u ready k. fresh-value (has_call x) t' u (value_of_one op t (operand_value u a)) k))

  pub makes-convert : (t : CType) (b : Box Expr) → e ≡ tree.Convert t b → x ≡ b.value
      → Adds out new (convert_act to t a)
      → MakesValue p names path (value_part p frame here e) (has_call e) false (Var to) low (with_var ty
      mid) old new
  makes-convert t b is at added = as-value (has_call x) (ap has_call at ∙ sym (has_call-Convert e t b is))
      (makes-tail p names path (value_part p frame here x) (value_part p frame here e)
      (Gives names (has_call x) low (reading (Var to))) (has_call x) (reading a) low mid (with_var ty mid)
      old out new
      (convert_act to t a) (λ w back t' y. give (converted t y)) made.makes (grows-var ty mid) added
      (λ w back t' s. eval-Convert (context_in_frame p frame w) back here e s t b is
      ∙ ap (λ x. then_do (eval (context_in_frame p frame w) back here x s) (λ y. give (converted t y)))
      (sym at))
      (λ w turns t' u ready k. fresh-value (has_call x) t' u (converted t (operand_value u a)) k))

  -- an element, or a trap
  pub element-meets : (calls : Bool) (array : VarId) (n : ℕ) (t u : CodeState) (i : ℤ) (z : Option ℤ)
      → Keeps calls names low t u
      → Meets (Gives names calls low (reading (Var to)) t) (or_trap here z (seen names u))
      (then_do (or_trap_at here z u) (set_variable to))
  element-meets calls array n t u i None k = (refl, refl)
  element-meets calls array n t u i (Some z) k = fresh-value calls t u z k

  pub makes-element : (array : VarId) (n : ℕ) (index : Box Expr) → e ≡ tree.Element array index →
      x ≡ index.value
      → array_of names array ≡ Some n → Adds out new (load_act to n a here)
      → MakesValue p names path (value_part p frame here e) (has_call e) false (Var to) low (with_var ty
      mid) old new
  makes-element array n index is at found added = as-value (has_call x) (ap has_call at ∙ sym
      (has_call-Element e array index is))
      (makes-tail p names path (value_part p frame here x) (value_part p frame here e)
      (Gives names (has_call x) low (reading (Var to))) (has_call x) (reading a) low mid (with_var ty mid)
      old out new
      (load_act to n a here) (λ w back t' i s. or_trap here (element_at s array i) s) made.makes (grows-var
      ty mid) added
      (λ w back t' s. eval-Element (context_in_frame p frame w) back here e s array index is
      ∙ ap (λ x. then_do (eval (context_in_frame p frame w) back here x s) (λ i s. or_trap here (element_at
      s array i) s))
      (sym at))
      (λ w turns t' u ready k. subst
      (λ cells. Meets (Gives names (has_call x) low (reading (Var to)) t')
      (or_trap here (cell_at cells (operand_value u a)) (seen names u))
      (then_do (or_trap_at here (cell_at (u.arrays n) (operand_value u a)) u) (set_variable to)))
      (sym (seen-elements names u array n found))
      (element-meets (has_call x) array n t' u (operand_value u a) (cell_at (u.arrays n) (operand_value u
      a)) k)))

-- TWO OPERANDS

-- the value of an operator, or a trap
trapped-meets : (names : Names) (calls : Bool) (low : Types) (to : ℕ) (here : StmtId) (t u : CodeState) (z
    : Option ℤ)
    → AreBelow to names.values → length low.vars ≤ to → Keeps calls names low t u
    → Meets (Gives names calls low (reading (Var to)) t) (or_trap here z (seen names u))
    (then_do (or_trap_at here z u) (set_variable to))
trapped-meets names calls low to here t u None below fresh k = (refl, refl)
trapped-meets names calls low to here t u (Some z) below fresh k =
    gives-fresh names calls low to t u z (seen names u) below fresh refl k

module _ (p : Program) (names : Names) (path : List Step) (frame : Frame) (here : StmtId) (e x y : Expr)
    (low mid high : Types) (old out more new : List Node) (a b : Operand) (to : ℕ) (ty : CType)
    (naming : IsNaming names low)
    (first : MakesValue p names path (value_part p frame here x) (has_call x) (has_call y) a low mid old out)
    (second : MakesValue p names path (value_part p frame here y) (has_call y) false b mid high out more)
    (is_to : to ≡ length high.vars) where
  abbrev value_by : Expr → World → List Step → Act ℤ
  value_by x w back = eval (context_in_frame p frame w) back here x

  pub both-values : Makes p names path (both_part (value_by x) (value_by y))
      (Gives names (has_call x || has_call y) low (reading_two a b)) low high old more
  both-values = makes-both p names path (value_by x) (value_by y) (has_call x) (has_call y) (reading a)
      (reading b)
      low mid high old out more first.makes second.makes
      (λ u v k. settled-stays (has_call y) (has_call y) names mid a u v (λ n h. h) first.settled k)

  grown : length low.vars ≤ length high.vars
  grown = let g : length low.vars ≤ length mid.vars = first.makes.grows.vars in
      let h : length mid.vars ≤ length high.vars = second.makes.grows.vars in omega arith

  abbrev operated : BinOp → CType → ℤ × ℤ → Act ℤ
  operated op t (y, z) = or_trap here (value_of op t y z)

  pub makes-binary : (op : BinOp) (t : CType) (c d : Box Expr) → e ≡ tree.Binary op t c d → x ≡ c.value →
      y ≡ d.value
      → Adds more new (binary_act to op t a b here)
      → MakesValue p names path (value_part p frame here e) (has_call e) false (Var to) low (with_var ty
      high) old new
  unfolding code_setting
  makes-binary op t c d is at_x at_y added = subst
      (λ calls. MakesValue p names path (value_part p frame here e) calls false (Var to) low (with_var ty
      high) old new)
      (ap (λ x. has_call x || has_call y) at_x ∙ ap (λ y. has_call c.value || has_call y) at_y
      ∙ sym (has_call-Binary e op t c d is))
      (record {
        settled = fresh-settled names high ty to is_to;
        makes = makes-tail p names path (both_part (value_by x) (value_by y)) (value_part p frame here e)
            (Gives names (has_call x || has_call y) low (reading (Var to))) (has_call x || has_call y)
            (reading_two a b)
            low high (with_var ty high) old more new (binary_act to op t a b here)
            (λ w back t'. operated op t) both-values (grows-var ty high) added
            (λ w back t' s. eval-Binary (context_in_frame p frame w) back here e s op t c d is
            ∙ ap (λ x. then_do (value_by x w back s) (λ y s. then_do (value_by d.value w back s) (λ z.
            or_trap here (value_of op t y z)))) (sym at_x)
            ∙ ap (λ d. then_do (value_by x w back s) (λ y s. then_do (value_by d w back s) (λ z. or_trap
            here (value_of op t y z)))) (sym at_y)
            ∙ sym (then-pair (value_by x w back s) (value_by y w back) (operated op t)))
            (λ w turns t' u ready k. trapped-meets names (has_call x || has_call y) low to here t' u
            (value_of op t (operand_value u a) (operand_value u b))
            (below-more (length low.vars) to names.values (omega (arith, grown, is_to)) naming.below)
            (omega (arith, grown, is_to)) k);
      })
