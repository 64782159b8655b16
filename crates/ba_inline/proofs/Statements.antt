-- The code of statements.
use Rattle.std.proofs.Common.{◌≡◌, ℕ, zero, suc, ◌<◌, ℤ, pos, Bool, true, false, cond, Option, None, Some, Ok, Err, List, [], ◌∷◌, ◌++◌, length, refl, sym, ◌∙◌, ap, subst, arith, append-nil}
use Rattle.std.specs.Prelude.{slice_get, unwrap_or}
use Rattle.std.specs.Global.{Box}
use Rattle.std.specs.Ordering.{int_eq}
use Rattle.ba_code.proofs.Rows.{run-append, run-none}
use Rattle.ba_code.specs.Meaning.{Setting, path_in, run_nodes}
use Rattle.ba_code.specs.State.{CodeEnding, CodeState, operand_value, with_variable}
use Rattle.ba_code.specs.Types.{Types}
use Rattle.ba_code.specs.declared.nodes.Node.{Node}
use Rattle.ba_code.specs.declared.nodes.Operand.{Operand}
use Rattle.ba_code.specs.declared.nodes.Operand.TheVariants.{Const, Var}
use Rattle.ba_inline.proofs.Ends.{meets-fork, meets-from}
use Rattle.ba_inline.proofs.Homes.{does-then, home-stays, keeps-with}
use Rattle.ba_inline.proofs.Joining.{below-more, gives-fresh, joined, makes-added, makes-pure, makes-tail, makes-weaker}
use Rattle.ba_inline.proofs.Keeping.{grows-same, grows-then, grows-var, keeps-from, keeps-same, ready-before}
use Rattle.ba_inline.proofs.Seeing.{at-other, at-self, seen-named, seen-outside}
use Rattle.ba_inline.specs.Adding.{assert_act, if_act, leave_act, set_act}
use Rattle.ba_inline.specs.Declarations.{Grows, with_var}
use Rattle.ba_inline.specs.Ends.{Meets}
use Rattle.ba_inline.specs.Keeping.{Keeps}
use Rattle.ba_inline.specs.Making.{Adds, Does, Gives, GivesTo, Makes, MakesValue, Part, SameFlow, break_label, continue_label, reading, return_label}
use Rattle.ba_inline.specs.Names.{IsNaming, IsOther, Names, Outside, seen, with_home}
use Rattle.ba_inline.specs.Parts.{assign_part, context_in_frame, declare_part, given_part, optional_now, stmt_part, value_part}
use Rattle.ba_inline.specs.Worlds.{World, code_setting, context_with}
use Rattle.ba_inline.specs.declared.frames.Frame.{Frame}
use Rattle.ba_inline.specs.declared.frames.Wanted.TheVariants as wanted
use Rattle.ba_numbers.specs.declared.ids.StmtId.{StmtId}
use Rattle.ba_numbers.specs.declared.ids.VarId.{VarId}
use Rattle.ba_numbers.specs.declared.numbers.CType.{CType}
use Rattle.ba_numbers.specs.declared.numbers.CType.TheVariants.{I32}
use Rattle.ba_tree.proofs.Equations.{exec-Assert, exec-Break, exec-Continue, exec-If, exec-Return, exec-ReturnNone, otherwise}
use Rattle.ba_tree.specs.Acts.{after_part, fork, give, then_do}
use Rattle.ba_tree.specs.Meaning.{assert_that, declare, exec, set_value, type_of, variable_of}
use Rattle.ba_tree.specs.State.{State, Ending, Execution, with_value}
use Rattle.ba_tree.specs.declared.run.Exit.{Exit}
use Rattle.ba_tree.specs.declared.run.Exit.TheVariants.{Break, Continue, Return}
use Rattle.ba_tree.specs.declared.run.Flow.{Flow}
use Rattle.ba_tree.specs.declared.run.Flow.TheVariants.{Next, Leaves}
use Rattle.ba_tree.specs.declared.run.Halt.TheVariants.{AssertFails}
use Rattle.ba_tree.specs.declared.run.Step.{Step}
use Rattle.ba_tree.specs.declared.tree.Expr.{Expr}
use Rattle.ba_tree.specs.declared.tree.Program.{Program}
use Rattle.ba_tree.specs.declared.tree.Shape.TheVariants.{Value}
use Rattle.ba_tree.specs.declared.tree.Stmt.{Stmt}
use Rattle.ba_tree.specs.declared.tree.Stmt as stmts

-- a named variable is outside no naming that has it
named-other : (os : List Operand) (v n m : ℕ) → Outside m os → slice_get os v ≡ Some (Var n) → m ≡ n → ⊥
named-other [] v n m out is same = absurd (let f : None ≡ Some (Var n) = is in cc)
named-other (o ∷ os) zero n m out is same =
    let e : o ≡ Var n = cc in (subst (IsOther m) e out.0) (sym same)
named-other (o ∷ os) (suc v) n m out is same = named-other os v n m out.1 is same

module _ (p : Program) (names : Names) (path : List Step) (frame : Frame) (low : Types)
    (naming : IsNaming (with_home frame.home names) low) where
  abbrev MakesStmt : Part (Flow Exit) → Types → List Node → List Node → Type 0
  MakesStmt part high old new = Makes p names path part (Does names frame.exits frame.home low) low high
      old new

  home-out : Outside frame.home names.values
  home-out = naming.apart.0

  home-few : frame.home < length low.vars
  home-few = naming.below.0

  home-kept : (c : Bool) (t u : CodeState) → Keeps c names low t u →
      u.variables frame.home ≡ t.variables frame.home
  home-kept c t u k = k.variables frame.home home-few (home-stays c names frame.home home-out)

  -- ASSIGNMENTS

  keeps-named : (c : Bool) (t u : CodeState) (v : VarId) (n : ℕ) (z : ℤ) →
      slice_get names.values v.0 ≡ Some (Var n)
      → Keeps c names low t u → Keeps true (with_home frame.home names) low t (with_variable n z u)
  keeps-named c t u v n z found k = let l = keeps-with c names frame.home low t u k in record {
    variables = λ m few stays. at-other u.variables n m z (named-other names.values v.0 n m stays.1 found)
        ∙ l.variables m few stays;
    arrays = l.arrays;
    lengths = l.lengths;
  }

  assigned : (c : Bool) (v : VarId) (n : ℕ) (t : CodeState) (z : ℤ) (s : State) (way : Flow ℕ) (u : CodeState)
      → slice_get names.values v.0 ≡ Some (Var n) → GivesTo names c low n t z s way u
      → Meets (Does names frame.exits frame.home low t) (set_value v z s) (Ok way, u)
  assigned c v n t z s way u found given =
      subst (λ way. Meets (Does names frame.exits frame.home low t) (set_value v z s) (Ok way, u)) (sym
      given.on)
      (subst (λ u. Meets (Does names frame.exits frame.home low t) (set_value v z s) (Ok Next, u)) (sym
      given.is)
      (record {
        flows = at-other given.before.variables n frame.home z (named-other names.values v.0 n frame.home
            home-out found)
            ∙ home-kept c t given.before given.keeps;
        sees = ap (λ s. with_value s v z) given.sees
            ∙ sym (seen-named names given.before v n z naming.apart.1 found);
        keeps = keeps-named c t given.before v n z found given.keeps;
      }))

  pub makes-assign : (here : StmtId) (v : VarId) (e : Expr) (c : Bool) (n : ℕ) (high : Types) (old new :
      List Node)
      → slice_get names.values v.0 ≡ Some (Var n)
      → Makes p names path (given_part p frame here (wanted.Value (type_of p v)) e) (GivesTo names c low n)
      low high old new
      → MakesStmt (assign_part p frame here v e) high old new
  makes-assign here v e c n high old new found made = makes-pure p names path
      (given_part p frame here (wanted.Value (type_of p v)) e) (assign_part p frame here v e) (GivesTo
      names c low n)
      (Does names frame.exits frame.home low) low high old new (λ w back. set_value v) (λ w back t s. refl)
      (λ w back t z s way u given. assigned c v n t z s way u found given) made

  -- a declaration of a variable of one value
  pub makes-zeroed : (v : VarId) (n : ℕ) (old new : List Node) → slice_get names.values v.0 ≡ Some (Var n)
      → (variable_of p v).shape ≡ Value → Adds old new (set_act n (Const (pos 0)))
      → MakesStmt (declare_part p v) low old new
  makes-zeroed v n old new found shape added = record {
    nodes = added.nodes;
    is = added.is;
    grows = grows-same low;
    runs = λ w turns t ready.
        subst (λ end. Meets (Does names frame.exits frame.home low t) end (run_nodes (code_setting p w)
        added.nodes turns t))
        (ap (λ shape. (Ok Next, declare shape v (seen names t))) (sym shape))
        (subst (Meets (Does names frame.exits frame.home low t) (
          Ok Next,
          with_value (seen names t) v (pos
              0),
        ))
        (sym (added.runs (code_setting p w) turns t))
        (assigned false v n t (pos 0) (seen names t) Next (with_variable n (pos 0) t) found
        (record { before = t; on = refl; sees = refl; is = refl; keeps = keeps-same false names low t })));
  }

  -- nothing at all
  pub makes-no-code : (part : Part (Flow Exit)) (old : List Node)
      → ((w : World) (back : List Step) (t : CodeState) (s : State) → part w back t s ≡ (Ok Next, s))
      → MakesStmt part low old old
  makes-no-code part old whole = record {
    nodes = [];
    is = sym (append-nil old);
    grows = grows-same low;
    runs = λ w turns t ready.
        subst (λ end. Meets (Does names frame.exits frame.home low t) end (run_nodes (code_setting p w) []
        turns t))
        (sym (whole w (path_in turns path) t (seen names t)))
        (subst (Meets (Does names frame.exits frame.home low t) (Ok Next, seen names t))
        (sym (run-none (code_setting p w) turns t))
        (record {
          flows = refl;
          sees = refl;
          keeps = keeps-same true (with_home frame.home names) low t;
        }));
  }

  -- LEAVING

  module _ (stmt : Stmt) (old new : List Node) where
    left : (exit : Exit) (label : ℕ) → (stmt_is : (w : World) (back : List Step) (s : State)
        → exec (context_in_frame p frame w) stmt back s ≡ (Ok (Leaves exit), s))
        → ((t : CodeState) → SameFlow frame.exits frame.home t (Leaves exit) (Leaves label) t)
        → Adds old new (leave_act label) → MakesStmt (stmt_part p frame stmt) low old new
    left exit label stmt_is flows added = record {
      nodes = added.nodes;
      is = added.is;
      grows = grows-same low;
      runs = λ w turns t ready.
          subst (λ end. Meets (Does names frame.exits frame.home low t) end (run_nodes (code_setting p w)
          added.nodes turns t))
          (sym (stmt_is w (path_in turns path) (seen names t)))
          (subst (Meets (Does names frame.exits frame.home low t) (Ok (Leaves exit), seen names t))
          (sym (added.runs (code_setting p w) turns t))
          (record {
            flows = flows t;
            sees = refl;
            keeps = record {
              variables = λ n few stays. refl;
              arrays = λ n few out. refl;
              lengths = λ n.
                  refl;
            };
          }));
    }

    pub makes-break : stmt ≡ stmts.Break → Adds old new (leave_act (break_label frame.exits))
        → MakesStmt (stmt_part p frame stmt) low old new
    makes-break is = left Break (break_label frame.exits)
        (λ w back s. exec-Break (context_in_frame p frame w) back stmt s is) (λ t. (refl, refl))

    pub makes-continue : stmt ≡ stmts.Continue → Adds old new (leave_act (continue_label frame.exits))
        → MakesStmt (stmt_part p frame stmt) low old new
    makes-continue is = left Continue (continue_label frame.exits)
        (λ w back s. exec-Continue (context_in_frame p frame w) back stmt s is) (λ t. (refl, refl))

  -- home has what is returned
  keeps-home : (c : Bool) (t u : CodeState) (z : ℤ) → Keeps c names low t u
      → Keeps true (with_home frame.home names) low t (with_variable frame.home z u)
  keeps-home c t u z k = let l = keeps-with c names frame.home low t u k in record {
    variables = λ m few stays. at-other u.variables frame.home m z (λ same. stays.0 (sym same)) ∙
        l.variables m few stays;
    arrays = l.arrays;
    lengths = l.lengths;
  }

  returned : (c : Bool) (g : Setting) (turns : List ℕ) (t : CodeState) (z : ℤ) (s : State) (way : Flow ℕ)
      (u : CodeState)
      → GivesTo names c low frame.home t z s way u
      → Meets (Does names frame.exits frame.home low t) (Ok (Leaves (Return z)), s)
      (after_part (leave_act return_label g turns) way u)
  returned c g turns t z s way u given =
      subst (λ way. Meets (Does names frame.exits frame.home low t) (Ok (Leaves (Return z)), s)
      (after_part (leave_act return_label g turns) way u)) (sym given.on)
      (subst (λ u. Meets (Does names frame.exits frame.home low t) (Ok (Leaves (Return z)), s) (leave_act
      return_label g turns u))
      (sym given.is)
      (record {
        flows = (refl, sym (at-self given.before.variables frame.home z));
        sees = given.sees ∙ sym (seen-outside names given.before frame.home z home-out);
        keeps = keeps-home c t given.before z given.keeps;
      }))

  -- `return;`
  pub makes-return-none : (stmt : Stmt) (old out new : List Node) → stmt ≡ stmts.ReturnNone
      → Adds old out (set_act frame.home (Const (pos 0))) → Adds out new (leave_act return_label)
      → MakesStmt (stmt_part p frame stmt) low old new
  makes-return-none stmt old out new is zeroed left_by = record {
    nodes = zeroed.nodes ++ left_by.nodes;
    is = joined old out new zeroed.nodes left_by.nodes zeroed.is left_by.is;
    grows = grows-same low;
    runs = λ w turns t ready.
        let g : Setting = code_setting p w in
        subst (λ end. Meets (Does names frame.exits frame.home low t) end (run_nodes g (zeroed.nodes ++
        left_by.nodes) turns t))
        (sym (exec-ReturnNone (context_in_frame p frame w) (path_in turns path) stmt (seen names t) is))
        (subst (Meets (Does names frame.exits frame.home low t) (Ok (Leaves (Return (pos 0))), seen names t))
        (sym (run-append g turns t zeroed.nodes left_by.nodes
        ∙ ap (λ e. then_do e (after_part (run_nodes g left_by.nodes turns))) (zeroed.runs g turns t)
        ∙ left_by.runs g turns (with_variable frame.home (pos 0) t)))
        (returned false g turns t (pos 0) (seen names t) Next (with_variable frame.home (pos 0) t)
        (record { before = t; on = refl; sees = refl; is = refl; keeps = keeps-same false names low t })));
  }

  module _ (stmt : Stmt) (here : StmtId) (e : Expr) (c : Bool) (high : Types) (old out new : List Node) where
    pub makes-return : stmt ≡ stmts.Return here e
        → Makes p names path (given_part p frame here (wanted.Value (unwrap_or frame.result I32)) e)
        (GivesTo names c low frame.home) low high old out
        → Adds out new (leave_act return_label) → MakesStmt (stmt_part p frame stmt) high old new
    unfolding context_with
    makes-return is made added = makes-added p names path
        (given_part p frame here (wanted.Value (unwrap_or frame.result I32)) e) (stmt_part p frame stmt)
        (GivesTo names c low frame.home) (Does names frame.exits frame.home low) low high high old out new
        (leave_act return_label) (λ w back z. give (Leaves (Return z))) made (grows-same high) added
        (λ w back t s. exec-Return (context_in_frame p frame w) back stmt s here e is)
        (λ w turns t z s way u given. returned c (code_setting p w) turns t z s way u given)

  -- ASSERTIONS

  module _ (stmt : Stmt) (here : StmtId) (e : Expr) (c keep : Bool) (a : Operand) (high : Types) (old out
      new : List Node) where
    asserted : (b : Bool) (t u : CodeState) → Keeps c names low t u
        → Meets (Does names frame.exits frame.home low t)
        (cond b (Err (AssertFails here), seen names u) (Ok Next, seen names u))
        (cond b (Err (AssertFails here), u) (Ok Next, u))
    asserted true t u k = (refl, refl)
    asserted false t u k = record {
      flows = home-kept c t u k;
      sees = refl;
      keeps = keeps-with c names frame.home low t u k;
    }

    pub makes-assert : stmt ≡ stmts.Assert here e
        → MakesValue p names path (value_part p frame here e) c keep a low high old out
        → Adds out new (assert_act a here) → MakesStmt (stmt_part p frame stmt) high old new
    makes-assert is made added = makes-tail p names path (value_part p frame here e) (stmt_part p frame stmt)
        (Does names frame.exits frame.home low) c (reading a) low high high old out new (assert_act a here)
        (λ w back t. assert_that here) made.makes (grows-same high) added
        (λ w back t s. exec-Assert (context_in_frame p frame w) back stmt s here e is)
        (λ w turns t u ready k. asserted (int_eq (operand_value u a) (pos 0)) t u k)

  -- BRANCHES

  module _ (stmt : Stmt) (here : StmtId) (e : Expr) (one : Box Stmt) (two : Option (Box Stmt)) (c : Bool)
      (to : ℕ)
      (first then_one high : Types) (old out new yeses noes : List Node) where
    abbrev branch_part : World → List Step → Execution
    branch_part w back = exec (context_in_frame p frame w) one.value back

    abbrev other_part : World → List Step → Execution
    other_part w back = optional_now p frame two w back

    other-is : (w : World) (back : List Step) (s : State) (two : Option (Box Stmt))
        → otherwise (context_in_frame p frame w) back two s ≡ optional_now p frame two w back s
    other-is w back s None = refl
    other-is w back s (Some b) = refl

    branch-meets : (t u : CodeState) (x : Ending (Flow Exit)) (y : CodeEnding (Flow ℕ))
        → Keeps c names low t u → Meets (Does names frame.exits frame.home low u) x y
        → Meets (Does names frame.exits frame.home low t) x y
    branch-meets t u x y k met = meets-from (Does names frame.exits frame.home low u)
        (Does names frame.exits frame.home low t) x y met
        (λ flow s way v given. does-then names frame.exits frame.home low low (grows-same low) t u flow s
        way v
        (home-kept c t u k)
        (keeps-with c names frame.home low t u k) given)

    pub makes-if : stmt ≡ stmts.If here e one two
        → Makes p names path (given_part p frame here wanted.Truth e) (Gives names c low (reading (Var
        to))) low first old out
        → Grows first then_one → Grows then_one high
        → Makes p names path (λ w back t. branch_part w back) (Does names frame.exits frame.home low)
        low then_one [] yeses
        → Makes p names path (λ w back t. other_part w back) (Does names frame.exits frame.home low)
        low high [] noes
        → Adds out new (if_act (Var to) yeses noes) → MakesStmt (stmt_part p frame stmt) high old new
    makes-if is made grows_one grows_two yes_made no_made added = makes-tail p names path (given_part p
        frame here wanted.Truth e)
        (stmt_part p frame stmt) (Does names frame.exits frame.home low) c (reading (Var to)) low first
        high old out new
        (if_act (Var to) yeses noes) (λ w back t. fork (branch_part w back) (other_part w back)) made
        (grows-then first then_one high grows_one grows_two) added
        (λ w back t s. exec-If (context_in_frame p frame w) back stmt s here e one two is
        ∙ ap (λ (f : Execution). then_do (given_part p frame here wanted.Truth e w back t s) (fork
        (branch_part w back) f))
        (λ i s. other-is w back s two i))
        (λ w turns t u ready k.
        let g : Setting = code_setting p w in
        let back : List Step = path_in turns path in
        meets-fork (Does names frame.exits frame.home low t) (branch_part w back) (other_part w back)
        (run_nodes g yeses turns) (run_nodes g noes turns) (operand_value u (Var to)) (seen names u) u
        (subst (λ ns. Meets (Does names frame.exits frame.home low t) (branch_part w back (seen names u))
        (run_nodes g ns turns u))
        (sym yes_made.is)
        (branch-meets t u (branch_part w back (seen names u)) (run_nodes g yes_made.nodes turns u) k
        (yes_made.runs w turns u (ready-before w then_one high u grows_two ready))))
        (subst (λ ns. Meets (Does names frame.exits frame.home low t) (other_part w back (seen names u))
        (run_nodes g ns turns u))
        (sym no_made.is)
        (branch-meets t u (other_part w back (seen names u)) (run_nodes g no_made.nodes turns u) k
        (no_made.runs w turns u ready))))

-- CONDITIONS, whose value is in a variable of its own

pub makes-condition : (p : Program) (names : Names) (path : List Step) (part : Part ℤ) (c : Bool) (to : ℕ)
    (ty : CType)
    (low high : Types) (old new : List Node) → IsNaming names low → to ≡ length low.vars
    → Makes p names path part (GivesTo names c (with_var ty low) to) (with_var ty low) high old new
    → Makes p names path part (Gives names c low (reading (Var to))) low high old new
makes-condition p names path part c to ty low high old new naming is_to made = makes-weaker p names path part
    (GivesTo names c (with_var ty low) to) (Gives names c low (reading (Var to))) low (with_var ty low)
    high old new
    (grows-var ty low)
    (λ t z s way u given.
    subst (λ way. Gives names c low (reading (Var to)) t z s way u) (sym given.on)
    (subst (Gives names c low (reading (Var to)) t z s Next) (sym given.is)
    (gives-fresh names c low to t given.before z s
    (below-more (length low.vars) to names.values (omega (arith, is_to)) naming.below) (omega (arith, is_to))
    given.sees (keeps-from c names low (with_var ty low) t given.before (grows-var ty low) given.keeps))))
    made
