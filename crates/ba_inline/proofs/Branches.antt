-- The code of expressions of which not all is evaluated, and of values that are put into a variable.
use Rattle.std.proofs.Common.{◌≡◌, ℕ, ◌+◌, ◌<◌, ◌≤◌, ℤ, pos, Bool, true, false, not, ◌||◌, Ok, List, [], ◌++◌, length, refl, sym, ◌∙◌, ap, subst, arith}
use Rattle.std.specs.Global.{Box}
use Rattle.std.specs.Ordering.{int_eq}
use Rattle.ba_code.proofs.Rows.{run-append}
use Rattle.ba_code.specs.Meaning.{InTurns, Setting, path_in, run_nodes}
use Rattle.ba_code.specs.State.{CodeExecution, CodeState, operand_value, with_variable}
use Rattle.ba_code.specs.Types.{Types}
use Rattle.ba_code.specs.declared.nodes.Node.{Node}
use Rattle.ba_code.specs.declared.nodes.Operand.{Operand}
use Rattle.ba_code.specs.declared.nodes.Operand.TheVariants.{Const, Var}
use Rattle.ba_inline.proofs.Calling.{has_call-AndAlso, has_call-OrElse, has_call-Select}
use Rattle.ba_inline.proofs.Ends.{meets-fork, meets-from, then-nothing}
use Rattle.ba_inline.proofs.Joining.{below-more, gives-fresh, joined, makes-as, makes-tail}
use Rattle.ba_inline.proofs.Keeping.{grows-same, grows-then, grows-var, keeps-same, keeps-through, ready-before, stays-left, stays-right, with_var-length}
use Rattle.ba_inline.proofs.Seeing.{at-other, at-self, outside-new, seen-outside}
use Rattle.ba_inline.specs.Adding.{if_act, set_act, unary_act}
use Rattle.ba_inline.specs.Calling.{has_call}
use Rattle.ba_inline.specs.Declarations.{Grows, with_var}
use Rattle.ba_inline.specs.Ends.{Meets}
use Rattle.ba_inline.specs.Keeping.{Keeps, Stays}
use Rattle.ba_inline.specs.Making.{Adds, Gives, GivesTo, IsSettled, Makes, MakesValue, Part, reading}
use Rattle.ba_inline.specs.Names.{AreBelow, IsNaming, Names, seen}
use Rattle.ba_inline.specs.Parts.{context_in_frame, truth_part, value_part}
use Rattle.ba_inline.specs.Worlds.{World, code_setting}
use Rattle.ba_inline.specs.declared.frames.Frame.{Frame}
use Rattle.ba_numbers.specs.Numbers.{truth, value_of_one}
use Rattle.ba_numbers.specs.declared.ids.StmtId.{StmtId}
use Rattle.ba_numbers.specs.declared.numbers.CType.{CType}
use Rattle.ba_numbers.specs.declared.numbers.UnOp.TheVariants.{IsZero}
use Rattle.ba_tree.proofs.Equations.{eval-AndAlso, eval-OrElse, eval-Select}
use Rattle.ba_tree.specs.Acts.{after_part, fork, give, then_do}
use Rattle.ba_tree.specs.Meaning.{eval, truth_of}
use Rattle.ba_tree.specs.State.{State, Act}
use Rattle.ba_tree.specs.declared.run.Flow.{Flow}
use Rattle.ba_tree.specs.declared.run.Flow.TheVariants.{Next}
use Rattle.ba_tree.specs.declared.run.Step.{Step}
use Rattle.ba_tree.specs.declared.tree.Expr.{Expr}
use Rattle.ba_tree.specs.declared.tree.Expr as tree
use Rattle.ba_tree.specs.declared.tree.Program.{Program}

-- VALUES THAT STAY: a variable of the code that a call may change is copied

module _ (p : Program) (names : Names) (path : List Step) (part : World → List Step → Act ℤ) (calls : Bool)
    (a : Operand) (low mid : Types) (old out new : List Node)
    (made : MakesValue p names path (λ w back t. part w back) calls false a low mid old out) where
  pub makes-kept-const : (keep : Bool) (z : ℤ) → a ≡ Const z
      → MakesValue p names path (λ w back t. part w back) calls keep a low mid old out
  makes-kept-const keep z is = record {
    settled = subst (IsSettled keep names mid) (sym is) tt;
    makes = made.makes;
  }

  -- into a variable
  pub makes-to : (to : ℕ) → Adds out new (set_act to a)
      → Makes p names path (λ w back t. part w back) (GivesTo names calls low to) low mid old new
  makes-to to added = makes-tail p names path (λ w back t. part w back) (λ w back t. part w back)
      (GivesTo names calls low to) calls (reading a) low mid mid old out new (set_act to a) (λ w back t y.
      give y)
      made.makes (grows-same mid) added (λ w back t s. then-nothing (part w back s))
      (λ w turns t u ready k. record { before = u; on = refl; sees = refl; is = refl; keeps = k })

  pub makes-copy : (to : ℕ) (ty : CType) → IsNaming names low → to ≡ length mid.vars →
      Adds out new (set_act to a)
      → MakesValue p names path (λ w back t. part w back) calls true (Var to) low (with_var ty mid) old new
  makes-copy to ty naming is added =
      let few : length low.vars ≤ length mid.vars = made.makes.grows.vars in
      let e : length (with_var ty mid).vars ≡ length mid.vars + 1 = with_var-length ty mid in
      let below : AreBelow to names.values = below-more (length low.vars) to names.values (omega arith)
      naming.below in
      record {
        settled = (omega (arith, e, is), outside-new to names.values below);
        makes = makes-tail p names path (λ w back t. part w back) (λ w back t. part w back)
            (Gives names calls low (reading (Var to))) calls (reading a) low mid (with_var ty mid) old out new
            (set_act to a) (λ w back t y. give y) made.makes (grows-var ty mid) added
            (λ w back t s. then-nothing (part w back s))
            (λ w turns t u ready k. gives-fresh names calls low to t u (operand_value u a) (seen names u)
            below
            (omega arith) refl k);
      }

-- a constant into a variable
pub makes-constant : (p : Program) (names : Names) (path : List Step) (d : Types) (to : ℕ) (z : ℤ) (old new
    : List Node)
    → Adds old new (set_act to (Const z))
    → Makes p names path (λ w back t. give z) (GivesTo names false d to) d d old new
makes-constant p names path d to z old new added = record {
  nodes = added.nodes;
  is = added.is;
  grows = grows-same d;
  runs = λ w turns t ready.
      subst (Meets (GivesTo names false d to t) (Ok z, seen names t)) (sym (added.runs (code_setting p w)
      turns t))
      (record { before = t; on = refl; sees = refl; is = refl; keeps = keeps-same false names d t });
}

-- TRUTH: twice the test for zero

pub truth-twice : (t u : CType) (z : ℤ) → value_of_one IsZero u (value_of_one IsZero t z) ≡ truth_of z
unfolding value_of_one
truth-twice t u z = elim (int_eq z (pos 0)) as (λ b. truth (int_eq (truth b) (pos 0)) ≡ truth (not b)) [
  | true ↦ refl
  | false ↦ refl
]

pub adds-then : (old out new : List Node) (act more : Setting → InTurns) → Adds old out act →
    Adds out new more
    → Adds old new (λ g turns t. then_do (act g turns t) (after_part (more g turns)))
adds-then old out new act more first second = record {
  nodes = first.nodes ++ second.nodes;
  is = joined old out new first.nodes second.nodes first.is second.is;
  runs = λ g turns t. run-append g turns t first.nodes second.nodes
      ∙ ap (λ e. then_do e (after_part (run_nodes g second.nodes turns))) (first.runs g turns t)
      ∙ ap (λ (h : CodeExecution). then_do (act g turns t) (after_part h)) (λ i u. second.runs g turns u i);
}

module _ (p : Program) (names : Names) (path : List Step) (frame : Frame) (here : StmtId) (x : Expr)
    (b : Operand) (low mid : Types) (old out new : List Node) (naming : IsNaming names low)
    (made : MakesValue p names path (value_part p frame here x) (has_call x) false b low mid old out)
    (between to : ℕ) (is_between : between ≡ length mid.vars) where
  abbrev twice_act : CType → CType → Setting → InTurns
  twice_act ty u g turns t = then_do (unary_act between IsZero ty b g turns t)
      (after_part (unary_act to IsZero u (Var between) g turns))

  apart-between : (n : ℕ) → n < length low.vars → n ≡ between → ⊥
  apart-between n few is = let g : length low.vars ≤ length mid.vars = made.makes.grows.vars in
      absurd (omega (arith, few, is, is_between, g))

  below-between : AreBelow between names.values
  below-between = let g : length low.vars ≤ length mid.vars = made.makes.grows.vars in
      below-more (length low.vars) between names.values (omega arith) naming.below

  truth-given : (ty u : CType) (t v : CodeState) → Keeps (has_call x) names low t v
      → GivesTo names (has_call x) low to t (truth_of (operand_value v b)) (seen names v) Next
      (with_variable to (value_of_one IsZero u
      (operand_value (with_variable between (value_of_one IsZero ty (operand_value v b)) v) (Var between)))
      (with_variable between (value_of_one IsZero ty (operand_value v b)) v))
  truth-given ty u t v k =
      let z : ℤ = value_of_one IsZero ty (operand_value v b) in
      record {
        before = with_variable between z v;
        on = refl;
        sees = sym (seen-outside names v between z (outside-new between names.values below-between));
        is = ap (λ y. with_variable to y (with_variable between z v))
            (ap (value_of_one IsZero u) (at-self v.variables between z) ∙ truth-twice ty u (operand_value v
            b));
        keeps = record {
          variables = λ n few stays. at-other v.variables between n z (apart-between n few) ∙ k.variables n
              few stays;
          arrays = k.arrays;
          lengths = k.lengths;
        };
      }

  pub makes-truth : (ty u : CType) → Adds out new (twice_act ty u)
      → Makes p names path (truth_part p frame here x) (GivesTo names (has_call x) low to) low (with_var u
      mid) old new
  unfolding code_setting
  makes-truth ty u added = makes-tail p names path (value_part p frame here x) (truth_part p frame here x)
      (GivesTo names (has_call x) low to) (has_call x) (reading b) low mid (with_var u mid) old out new
      (twice_act ty u)
      (λ w back t y. give (truth_of y)) made.makes (grows-var u mid) added (λ w back t s. refl)
      (λ w turns t v ready k. truth-given ty u t v k)

abbrev forked_part : (World → List Step → Act ℤ) → (World → List Step → Act ℤ) → (World → List Step →
    Act ℤ) → Part ℤ
forked_part test if_not_zero if_zero w back t s = then_do (test w back s) (fork (if_not_zero w back)
    (if_zero w back))

-- ONE OF TWO, each of which puts its value into a variable that was made before them

module _ (p : Program) (names : Names) (path : List Step) (test if_not_zero if_zero : World → List Step →
    Act ℤ)
    (c d e calls keep : Bool) (a : Operand) (to : ℕ) (ty : CType) (low mid one two high : Types)
    (old out new yeses noes : List Node) (naming : IsNaming names low)
    (to_c : (n : ℕ) → Stays calls n names.values → Stays c n names.values)
    (to_d : (n : ℕ) → Stays calls n names.values → Stays d n names.values)
    (to_e : (n : ℕ) → Stays calls n names.values → Stays e n names.values)
    (made : MakesValue p names path (λ w back t. test w back) c keep a low mid old out)
    (is_to : to ≡ length mid.vars)
    (first : Makes p names path (λ w back t. if_not_zero w back) (GivesTo names d one to) one two [] yeses)
    (second : Makes p names path (λ w back t. if_zero w back) (GivesTo names e two to) two high [] noes)
    (grows_one : Grows (with_var ty mid) one) where
  grows-mid : Grows mid one
  grows-mid = grows-then mid (with_var ty mid) one (grows-var ty mid) grows_one

  below-fresh : AreBelow to names.values
  below-fresh = let g : length low.vars ≤ length mid.vars = made.makes.grows.vars in
      below-more (length low.vars) to names.values (omega arith) naming.below

  few-fresh : length low.vars ≤ to
  few-fresh = let g : length low.vars ≤ length mid.vars = made.makes.grows.vars in omega arith

  gives-joined : (f : Bool) (from : Types) (t u : CodeState) (z : ℤ) (s : State) (way : Flow ℕ) (v :
      CodeState)
      → ((n : ℕ) → Stays calls n names.values → Stays f n names.values) → Grows mid from
      → Keeps c names low t u → GivesTo names f from to u z s way v
      → Gives names calls low (reading (Var to)) t z s way v
  gives-joined f from t u z s way v to_f grows k given =
      subst (λ way. Gives names calls low (reading (Var to)) t z s way v) (sym given.on)
      (subst (Gives names calls low (reading (Var to)) t z s Next) (sym given.is)
      (gives-fresh names calls low to t given.before z s below-fresh few-fresh given.sees
      (keeps-through c f calls names low from t u given.before to_c to_f
      (grows-then low mid from made.makes.grows grows) k given.keeps)))

  pub makes-fork : Adds out new (if_act a yeses noes)
      → Makes p names path (forked_part test if_not_zero if_zero) (Gives names calls low (reading (Var
      to))) low high old new
  makes-fork added = makes-tail p names path (λ w back t. test w back) (forked_part test if_not_zero if_zero)
      (Gives names calls low (reading (Var to))) c (reading a) low mid high old out new (if_act a yeses noes)
      (λ w back t. fork (if_not_zero w back) (if_zero w back)) made.makes
      (grows-then mid two high (grows-then mid one two grows-mid first.grows) second.grows) added
      (λ w back t s. refl)
      (λ w turns t u ready k.
      let g : Setting = code_setting p w in
      let back : List Step = path_in turns path in
      meets-fork (Gives names calls low (reading (Var to)) t) (if_not_zero w back) (if_zero w back)
      (run_nodes g yeses turns) (run_nodes g noes turns) (operand_value u a) (seen names u) u
      (subst (λ ns. Meets (Gives names calls low (reading (Var to)) t) (if_not_zero w back (seen names u))
      (run_nodes g ns turns u))
      (sym first.is)
      (meets-from (GivesTo names d one to u) (Gives names calls low (reading (Var to)) t)
      (if_not_zero w back (seen names u)) (run_nodes g first.nodes turns u)
      (first.runs w turns u (ready-before w two high u second.grows ready))
      (λ z s way v given. gives-joined d one t u z s way v to_d grows-mid k given)))
      (subst (λ ns. Meets (Gives names calls low (reading (Var to)) t) (if_zero w back (seen names u))
      (run_nodes g ns turns u))
      (sym second.is)
      (meets-from (GivesTo names e two to u) (Gives names calls low (reading (Var to)) t)
      (if_zero w back (seen names u)) (run_nodes g second.nodes turns u)
      (second.runs w turns u ready)
      (λ z s way v given. gives-joined e two t u z s way v to_e (grows-then mid one two grows-mid
      first.grows) k given))))

-- `&&`, `||` and `?:`

module _ (p : Program) (names : Names) (path : List Step) (frame : Frame) (here : StmtId) (e x y : Expr)
    (keep : Bool) (a : Operand) (to : ℕ) (ty : CType) (low mid high : Types)
    (old out new yeses noes : List Node) (naming : IsNaming names low)
    (made : MakesValue p names path (value_part p frame here x) (has_call x) keep a low mid old out)
    (is_to : to ≡ length mid.vars) (added : Adds out new (if_act a yeses noes)) where
  abbrev value_now : Expr → World → List Step → Act ℤ
  value_now x w back = eval (context_in_frame p frame w) back here x

  abbrev truth_now : Expr → World → List Step → Act ℤ
  truth_now x w back s = then_do (eval (context_in_frame p frame w) back here x s) (λ z. give (truth_of z))

  abbrev constant_now : ℤ → World → List Step → Act ℤ
  constant_now z w back = give z

  joined-settled : (with_var ty mid).vars ≡ (with_var ty mid).vars →
      length (with_var ty mid).vars ≤ length high.vars
      → IsSettled false names high (Var to)
  joined-settled same few =
      let e : length (with_var ty mid).vars ≡ length mid.vars + 1 = with_var-length ty mid in
      (omega (arith, few, e, is_to), tt)

  abbrev Result : Bool → Type 0
  Result calls = MakesValue p names path (value_part p frame here e) calls false (Var to) low high old new

  pub makes-and : (f g : Box Expr) → e ≡ tree.AndAlso f g → x ≡ f.value → y ≡ g.value
      → Makes p names path (truth_part p frame here y) (GivesTo names (has_call y) (with_var ty mid) to)
      (with_var ty mid) high [] yeses
      → Adds [] noes (set_act to (Const (pos 0)))
      → Result (has_call e)
  makes-and f g is at_x at_y first second = subst Result
      (ap (λ x. has_call x || has_call y) at_x ∙ ap (λ y. has_call f.value || has_call y) at_y
      ∙ sym (has_call-AndAlso e f g is))
      (record {
        settled = joined-settled refl first.grows.vars;
        makes = makes-as p names path (value_part p frame here e)
            (forked_part (value_now x) (truth_now y) (constant_now (pos 0)))
            (Gives names (has_call x || has_call y) low (reading (Var to))) low high old new
            (λ w back t s. eval-AndAlso (context_in_frame p frame w) back here e s f g is
            ∙ ap (λ x. then_do (value_now x w back s) (fork (truth_now g.value w back) (give (pos 0))))
            (sym at_x)
            ∙ ap (λ y. then_do (value_now x w back s) (fork (truth_now y w back) (give (pos 0)))) (sym at_y))
            (makes-fork p names path (value_now x) (truth_now y) (constant_now (pos 0)) (has_call x)
            (has_call y) false
            (has_call x || has_call y) keep a to ty low mid (with_var ty mid) high high old out new yeses
            noes naming
            (λ n. stays-left (has_call x) (has_call y) n names.values)
            (λ n. stays-right (has_call x) (has_call y) n names.values) (λ n stays. tt)
            made is_to first (makes-constant p names path high to (pos 0) [] noes second)
            (grows-same (with_var ty mid)) added);
      })

  pub makes-or : (f g : Box Expr) → e ≡ tree.OrElse f g → x ≡ f.value → y ≡ g.value
      → Adds [] yeses (set_act to (Const (pos 1)))
      → Makes p names path (truth_part p frame here y) (GivesTo names (has_call y) (with_var ty mid) to)
      (with_var ty mid) high [] noes
      → Result (has_call e)
  makes-or f g is at_x at_y first second = subst Result
      (ap (λ x. has_call x || has_call y) at_x ∙ ap (λ y. has_call f.value || has_call y) at_y
      ∙ sym (has_call-OrElse e f g is))
      (record {
        settled = joined-settled refl second.grows.vars;
        makes = makes-as p names path (value_part p frame here e)
            (forked_part (value_now x) (constant_now (pos 1)) (truth_now y))
            (Gives names (has_call x || has_call y) low (reading (Var to))) low high old new
            (λ w back t s. eval-OrElse (context_in_frame p frame w) back here e s f g is
            ∙ ap (λ x. then_do (value_now x w back s) (fork (give (pos 1)) (truth_now g.value w back)))
            (sym at_x)
            ∙ ap (λ y. then_do (value_now x w back s) (fork (give (pos 1)) (truth_now y w back))) (sym at_y))
            (makes-fork p names path (value_now x) (constant_now (pos 1)) (truth_now y) (has_call x) false
            (has_call y)
            (has_call x || has_call y) keep a to ty low mid (with_var ty mid) (with_var ty mid) high old
            out new yeses noes naming
            (λ n. stays-left (has_call x) (has_call y) n names.values) (λ n stays. tt)
            (λ n. stays-right (has_call x) (has_call y) n names.values)
            made is_to (makes-constant p names path (with_var ty mid) to (pos 1) [] yeses first) second
            (grows-same (with_var ty mid)) added);
      })

  module _ (z : Expr) (two : Types) where
    pub makes-select : (t : CType) (f g h : Box Expr) → e ≡ tree.Select t f g h → x ≡ f.value →
        y ≡ g.value → z ≡ h.value
        → Makes p names path (value_part p frame here y) (GivesTo names (has_call y) (with_var ty mid) to)
        (with_var ty mid) two [] yeses
        → Makes p names path (value_part p frame here z) (GivesTo names (has_call z) two to) two high [] noes
        → Result (has_call e)
    makes-select t f g h is at_x at_y at_z first second = subst Result
        (ap (λ x. has_call x || (has_call y || has_call z)) at_x
        ∙ ap (λ y. has_call f.value || (has_call y || has_call z)) at_y
        ∙ ap (λ z. has_call f.value || (has_call g.value || has_call z)) at_z
        ∙ sym (has_call-Select e t f g h is))
        (record {
          settled = joined-settled refl (let m : length (with_var ty mid).vars ≤ length two.vars =
              first.grows.vars in
              let n : length two.vars ≤ length high.vars = second.grows.vars in omega arith);
          makes = makes-as p names path (value_part p frame here e)
              (forked_part (value_now x) (value_now y) (value_now z))
              (Gives names (has_call x || (has_call y || has_call z)) low (reading (Var to))) low high old new
              (λ w back t' s. eval-Select (context_in_frame p frame w) back here e s t f g h is
              ∙ ap (λ x. then_do (value_now x w back s) (fork (value_now g.value w back) (value_now h.value
              w back))) (sym at_x)
              ∙ ap (λ y. then_do (value_now x w back s) (fork (value_now y w back) (value_now h.value w
              back))) (sym at_y)
              ∙ ap (λ z. then_do (value_now x w back s) (fork (value_now y w back) (value_now z w back)))
              (sym at_z))
              (makes-fork p names path (value_now x) (value_now y) (value_now z) (has_call x) (has_call y)
              (has_call z)
              (has_call x || (has_call y || has_call z)) keep a to ty low mid (with_var ty mid) two high
              old out new yeses noes naming
              (λ n. stays-left (has_call x) (has_call y || has_call z) n names.values)
              (λ n stays. stays-left (has_call y) (has_call z) n names.values
              (stays-right (has_call x) (has_call y || has_call z) n names.values stays))
              (λ n stays. stays-right (has_call y) (has_call z) n names.values
              (stays-right (has_call x) (has_call y || has_call z) n names.values stays))
              made is_to first second (grows-same (with_var ty mid)) added);
        })
