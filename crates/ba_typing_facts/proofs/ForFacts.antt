-- C's `for`: its head has simple statements alone, and what it adds fits the parts of the program.
use Rattle.std.proofs.Common.{◌≡◌, ℕ, ◌+◌, Bool, true, false, ◌&&◌, ◌==◌, cond, Option, None, Some, List, [], ◌∷◌, ◌++◌, map, length, length-append, append_assoc, refl, sym, ◌∙◌, ap, subst, arith}
use Rattle.std.specs.Option.{is_some}
use Rattle.std.specs.Prelude.{unwrap_or}
use Rattle.std.proofs.lemmas.Bool.{and_from}
use Rattle.std.proofs.lemmas.List.Folds.{list_all-append}
use Rattle.std.proofs.lemmas.List.{map-append}
use Rattle.ba_numbers.specs.declared.ids.At.{At}
use Rattle.ba_numbers.specs.declared.ids.VarId.{VarId}
use Rattle.ba_numbers.specs.declared.numbers.CType.{CType}
use Rattle.ba_trees.specs.declared.tree.declarations.ListedDeclarator.{ListedDeclarator}
use Rattle.ba_trees.specs.declared.tree.declarations.Declarator.{Declarator}
use Rattle.ba_trees.specs.declared.tree.declarations.Declarators.{Declarators}
use Rattle.ba_trees.specs.declared.tree.declarations.Specifiers.{Specifiers}
use Rattle.ba_trees.specs.declared.tree.declarations.Initialiser.{Initialiser}
use Rattle.ba_trees.specs.declared.tree.expressions.Conditional.{Conditional}
use Rattle.ba_trees.specs.declared.tree.statements.ForFirst.{ForFirst}
use Rattle.ba_trees.specs.declared.tree.statements.ForFirst.TheVariants as first
use Rattle.ba_trees.specs.declared.tree.statements.ForHead.{ForHead}
use Rattle.ba_trees.specs.declared.tree.statements.Simple.{Simple}
use Rattle.ba_trees.specs.declared.tree.statements.Simple.TheVariants as form
use Rattle.ba_trees.specs.declared.tree.statements.ListedSimple.{ListedSimple}
use Rattle.ba_trees.specs.declared.tree.statements.Simples.{Simples}
use Rattle.ba_tree.specs.Facts.{StmtFacts, around, as_loop, are_simple}
use Rattle.ba_tree.specs.declared.tree.Function.{Function}
use Rattle.ba_tree.specs.declared.tree.Parts.{Parts}
use Rattle.ba_typing.specs.Declarations.{Added, ◌and◌, Before, behind, Part, ◌then◌, in_order, next_stmt, add_declarator, add_optional_declarators, add_specifiers, add_declaration, add_length, add_variable, add_declare, add_optional_initialiser, init_tree, TypedLength, typed_array_length, count_of_values, shape_of, faults_added}
use Rattle.ba_typing.specs.Expressions.{Typed, Typing, typed_conditional}
use Rattle.ba_typing.specs.Faults.{void_faults, tag_faults}
use Rattle.ba_typing.specs.Names.{Scope, knowing, looping, exits_of_loop, words_of, type_named, type_specified, tag_of, name_of}
use Rattle.ba_typing.specs.declared.meanings.Signature.{Signature}
use Rattle.ba_tree.specs.declared.tree.Variable.{Variable}
use Rattle.ba_numbers.specs.declared.ids.StmtId.{StmtId}
use Rattle.ba_numbers.specs.declared.numbers.CType.TheVariants.{I32}
use Rattle.ba_numbers.specs.declared.numbers.BinOp.{BinOp}
use Rattle.ba_trees.specs.declared.tree.statements.Target.{Target}
use Rattle.ba_typing.specs.Statements.{add_assignment, assign_tree, typed_target, index_typing, one, add_simple, add_test, one_of, for_scope, add_first, add_step, for_test_or, for_test, add_for}
use Rattle.ba_typing.specs.declared.names.Exits.{Exits}
use Rattle.ba_tree.specs.Trees.{ExprTree, stmts_of}
use Rattle.ba_tree.specs.Trees as tree
use Rattle.ba_typing_facts.proofs.AdditionFacts.{Stands, stands_left, stands_right, InScope, in_knowing, in_looping, IsPiece, IsFew, few-and, IsPart, part_then, part_nothing, IsCounted, counted-and, all_facts_of}
use Rattle.ba_typing_facts.proofs.DeclarationFacts.{declarators_part}
use Rattle.ba_typing_facts.proofs.EnumeratorFacts.{specifiers_names, faults_part}
use Rattle.ba_typing_facts.proofs.ExpressionFacts.{conditional_typing}
use Rattle.ba_typing_facts.proofs.FittingFacts.{nil_left, nil_right}
use Rattle.ba_typing_facts.proofs.PrimaryFacts.{IsWellTyping}
use Rattle.ba_typing_facts.proofs.SimpleFacts.{simples_part, none_counted, one_typing}
use Rattle.ba_typing_facts.proofs.StatementTreeFacts.{stmt_facts_of, stmts_facts_of, stmts_facts-map, condition_facts}
use Rattle.ba_typing_facts.proofs.SequenceFacts.{AreStmts, stmts-append, loosen, told_first, around_are, loop_are}
use Rattle.ba_typing_facts.proofs.ControlFacts.{behind-and, IsStatement, one_are, in_inner, counted_enclosing, piece_enclosing, condition_leaf, recount, condition_are, condition_few}

-- SIMPLE STATEMENTS

module _ (p : Parts) (f : Function) where
  abbrev pub AreSimple : Added → Type 0
  AreSimple a = are_simple (all_facts_of p f a.stmts) ≡ true

  simple-and : (a b : Added) → AreSimple a → AreSimple b → AreSimple (a and b)
  simple-and a b h k = ap are_simple (map-append (stmt_facts_of p f) a.stmts b.stmts)
      ∙ list_all-append (λ (s : StmtFacts). s.is_simple) (all_facts_of p f a.stmts) (all_facts_of p f b.stmts)
      ∙ and_from _ _ h k

  pub record HasSimple (part : Part) : Type 0 where
    pub by : (scope : Scope) (n : Before) → AreSimple (part scope n)

  simple_then : (first second : Part) → HasSimple first → HasSimple second → HasSimple (first then second)
  simple_then first second h k = record {
    by = λ scope n. let a = first scope n in
        simple-and a (second (knowing a.entries scope) (behind n a)) (h.by scope n)
        (k.by (knowing a.entries scope) (behind n a));
  }

  -- declarators

  declare_simple : (b : Bool) (v : VarId) → are_simple (all_facts_of p f (cond b [] (tree.declare v ∷ [])))
      ≡ true
  declare_simple true v = refl
  declare_simple false v = refl

  init_simple : (stmt : StmtId) (v : VarId) (t : CType) (b : Bool) (es : List Typed)
      → are_simple (all_facts_of p f (init_tree stmt v t b es ∷ [])) ≡ true
  init_simple stmt v t true es = refl
  init_simple stmt v t false es = refl

  length_simple : (at : At) (l : Option TypedLength) → HasSimple (add_length at l)
  length_simple at None = record { by = λ scope n. refl }
  length_simple at (Some l) = record { by = λ scope n. refl }

  initialiser_simple : (at : At) (v : VarId) (t : CType) (l : Option TypedLength) (o : Option Initialiser)
      → HasSimple (add_optional_initialiser at v t l o)
  initialiser_simple at v t l None = record { by = λ scope n. refl }
  initialiser_simple at v t l (Some init) = record { by = λ scope n. init_simple _ v t (is_some l) _ }

  declarator_simple : (functions : List Signature) (t : Option CType) (d : Declarator)
      → HasSimple (add_declarator functions t d)
  declarator_simple functions t d = record {
    by = λ scope n.
        let at = d.name.at in
        let v : VarId = record { 0 = n.variables } in
        let s = unwrap_or t I32 in
        let l = typed_array_length at (count_of_values d.initialiser) scope n.calls d.length in
        let void_part : Part = (λ scope n. faults_added (void_faults t at)) in
        let initialised = simple_then (add_optional_initialiser at v s l d.initialiser) void_part
        (initialiser_simple at v s l d.initialiser) (record { by = λ scope n. refl }) in
        let declared = simple_then (add_declare v) (add_optional_initialiser at v s l d.initialiser then
        void_part)
        (record { by = λ scope n. declare_simple (scope.depth == 0) v }) initialised in
        let w : Variable = record { t = s; shape = shape_of l } in
        let known = simple_then (add_variable functions at (name_of d.name) w)
        (add_declare v then (add_optional_initialiser at v s l d.initialiser then void_part))
        (record { by = λ scope n. refl }) declared in
        (simple_then (add_length at l) (add_variable functions at (name_of d.name) w
        then (add_declare v then (add_optional_initialiser at v s l d.initialiser then void_part)))
        (length_simple at l) known).by scope n;
  }

  declarators_simple : (functions : List Signature) (t : Option CType) (ds : List ListedDeclarator)
      → HasSimple (in_order (map (λ (l : ListedDeclarator). add_declarator functions t l.declarator) ds))
  declarators_simple functions t [] = record { by = λ scope n. refl }
  declarators_simple functions t (d ∷ ds) = simple_then (add_declarator functions t d.declarator) _
      (declarator_simple functions t d.declarator) (declarators_simple functions t ds)

  optional_simple : (functions : List Signature) (t : Option CType) (o : Option Declarators)
      → HasSimple (add_optional_declarators functions t o)
  optional_simple functions t None = record { by = λ scope n. refl }
  optional_simple functions t (Some ds) = declarators_simple functions t ds.all.items

  pub declaration_simple : (functions : List Signature) (s : Specifiers) (o : Option Declarators)
      → HasSimple (add_declaration functions s o)
  declaration_simple functions s o = simple_then (add_specifiers functions s)
      (add_optional_declarators functions (type_specified s) o)
      (record {
        by = λ scope n. ap (λ ss. are_simple (all_facts_of p f ss))
            ((specifiers_names functions s).by scope n).stmts;
      }) (optional_simple functions (type_specified s) o)

  -- assignments, steps and calls

  assign_simple : (stmt : StmtId) (v : VarId) (e : ExprTree) (o : Option Typed)
      → are_simple (all_facts_of p f (assign_tree stmt v e o ∷ [])) ≡ true
  assign_simple stmt v e None = refl
  assign_simple stmt v e (Some index) = refl

  assignment_simple : (at : At) (target : Target) (op : Option BinOp) (typing : Typing)
      → HasSimple (add_assignment at target op typing)
  assignment_simple at target op typing = record {
    by = λ scope n. assign_simple _ _ _
        (typed_target target.name.at (name_of target.name) (index_typing target.index) scope
        n.calls).index;
  }

  pub simple_simple : (s : Simple) → HasSimple (add_simple s)
  simple_simple (form.Assign target operator value) = assignment_simple _ target _ (typed_conditional value)
  simple_simple (form.Step target operator) = assignment_simple _ target _ (one operator.at)
  simple_simple (form.PrefixStep operator target) = assignment_simple _ target _ (one operator.at)
  simple_simple (form.Call name opener arguments closer) = record { by = λ scope n. refl }

  simples_simple : (ss : List ListedSimple)
      → HasSimple (in_order (map (λ (l : ListedSimple). add_simple l.simple) ss))
  simples_simple [] = record { by = λ scope n. refl }
  simples_simple (s ∷ ss) = simple_then (add_simple s.simple) _ (simple_simple s.simple) (simples_simple ss)

  pub first_simple : (first : ForFirst) → HasSimple (add_first first)
  first_simple (first.Declaration name declarators) = simple_then
      (λ scope n. faults_added (tag_faults scope (tag_of (words_of name)))) _
      (record { by = λ scope n. refl }) (declarators_simple [] (type_named name) declarators.all.items)
  first_simple (first.Simples s) = simples_simple s.all.items
  first_simple first.Nothing = record { by = λ scope n. refl }

  pub step_simple : (o : Option Simples) → HasSimple (add_step o)
  step_simple None = record { by = λ scope n. refl }
  step_simple (Some s) = simples_simple s.all.items

-- THE LOOP (C90 6.6.5.3)

module _ (p : Parts) (owned : List VarId) (f : Function) where
  first_part : (first : ForFirst) → IsPart p owned f true (add_first first)
  first_part (first.Declaration name declarators) = part_then p owned f true
      (λ scope n. faults_added (tag_faults scope (tag_of (words_of name)))) _
      (faults_part p owned f true (λ scope. tag_faults scope (tag_of (words_of name))))
      (declarators_part p owned f true [] (type_named name) declarators)
  first_part (first.Simples s) = simples_part p owned f true s
  first_part first.Nothing = part_nothing p owned f true

  step_part : (o : Option Simples) → IsPart p owned f true (add_step o)
  step_part None = part_nothing p owned f true
  step_part (Some s) = simples_part p owned f true s

  test_typing : (at : At) (o : Option Conditional) → IsWellTyping p owned (for_test_or at o)
  test_typing at None = one_typing p owned f true at
  test_typing at (Some e) = conditional_typing p owned e

  head_scope : (first : ForFirst) (scope : Scope) → InScope p owned f true scope
      → InScope p owned f true (for_scope first scope)
  head_scope (first.Declaration name declarators) scope h = in_inner p owned f scope h
  head_scope (first.Simples s) scope h = h
  head_scope first.Nothing scope h = h

  -- the facts of the head's parts, told of the lists of statements
  for_facts : StmtId → ExprTree → List StmtFacts → List StmtFacts → StmtFacts → StmtFacts
  for_facts stmt when front step body =
      as_loop (condition_facts p stmt when (are_simple front && are_simple step) (front ++ step ++ body ∷ []))

  module _ (head : ForHead) (body : Part) (body_is : IsStatement p owned f body) (outside : Scope)
      (n : Before) where
    abbrev scope : Scope
    scope = for_scope head.first outside

    abbrev front : Added
    front = add_first head.first scope n

    abbrev inside : Scope
    inside = knowing front.entries scope

    abbrev w : Typed
    w = for_test head inside (behind n front).calls

    abbrev c : Added
    c = add_test w.first w inside (behind n front)

    abbrev s : Added
    s = add_step head.step inside (behind n (front and c))

    abbrev a : Added
    a = body (looping inside) (behind n (front and (c and s)))

    abbrev stmt : StmtId
    stmt = next_stmt (behind n front)

    abbrev fronts : List StmtFacts
    fronts = all_facts_of p f front.stmts

    abbrev steps : List StmtFacts
    steps = all_facts_of p f s.stmts

    abbrev part : StmtFacts
    part = stmt_facts_of p f (one_of a.stmts)

    abbrev own : StmtFacts
    own = condition_leaf p owned f (behind n front) w (are_simple fronts && are_simple steps)

    abbrev total : ℕ
    total = length front.statements + (1 + (length s.statements + length a.statements))

    abbrev total_calls : ℕ
    total_calls = front.calls + (w.calls + (s.calls + a.calls))

    behind_step : behind n (front and (c and s)) ≡ behind (behind (behind n front) c) s
    behind_step = behind-and n front (c and s) ∙ behind-and (behind n front) c s

    for_are : {exits : Exits}
        → AreStmts p owned n.statements (length front.statements) n.calls front.calls exits_of_loop fronts
        → AreStmts p owned (behind n front).statements 1 (behind n front).calls w.calls exits_of_loop
        (own ∷ [])
        → AreStmts p owned ((behind n front).statements + 1) (length s.statements)
        ((behind n front).calls + w.calls) s.calls exits_of_loop steps
        → AreStmts p owned (((behind n front).statements + 1) + length s.statements) (length a.statements)
        (((behind n front).calls + w.calls) + s.calls) a.calls exits_of_loop (part ∷ [])
        → AreStmts p owned n.statements total n.calls total_calls exits
        (for_facts stmt w.tree fronts steps part ∷ [])
    unfolding for_facts
    for_are {exits} front_are own_are step_are body_are =
        loop_are p owned exits (around own (fronts ++ steps ++ part ∷ []))
        (around_are p owned own (fronts ++ steps ++ part ∷ []) refl refl
        (subst (λ xs. AreStmts p owned n.statements total n.calls total_calls exits_of_loop (own ∷ xs))
        (sym (append_assoc fronts steps (part ∷ [])))
        (told_first p owned fronts (own ∷ []) (steps ++ part ∷ [])
        (stmts-append p owned front_are (stmts-append p owned own_are
        (stmts-append p owned step_are body_are))))))

    for_tree_facts : stmt_facts_of p f (tree.for_loop stmt (stmts_of front.stmts) w.tree (stmts_of s.stmts)
        (one_of a.stmts))
        ≡ for_facts stmt w.tree fronts steps part
    unfolding for_facts
    for_tree_facts = ap (λ xs. for_facts stmt w.tree xs (stmts_facts_of p f (stmts_of s.stmts)) part)
        (stmts_facts-map p f front.stmts)
        ∙ ap (λ xs. for_facts stmt w.tree fronts xs part) (stmts_facts-map p f s.stmts)

    module _ (in_outside : InScope p owned f true outside)
        (stands : Stands p owned f true n (front and (c and (s and a))))
        (none : (front and (c and (s and a))).faults ≡ []) where
      in_scope : InScope p owned f true scope
      in_scope = head_scope head.first outside in_outside

      behind_front_none : (c and (s and a)).faults ≡ []
      behind_front_none = nil_right front.faults (c.faults ++ (s.faults ++ a.faults)) none

      behind_test_none : (s and a).faults ≡ []
      behind_test_none = nil_right c.faults (s.faults ++ a.faults) behind_front_none

      c_none : c.faults ≡ []
      c_none = nil_left c.faults (s.faults ++ a.faults) behind_front_none

      behind_front : Stands p owned f true (behind n front) (c and (s and a))
      behind_front = stands_right p owned f true n front (c and (s and a)) stands

      behind_test : Stands p owned f true (behind (behind n front) c) (s and a)
      behind_test = stands_right p owned f true (behind n front) c (s and a) behind_front

      front_piece : IsPiece p owned f true scope.exits n front
      front_piece = (first_part head.first).piece.by scope in_scope n
          (stands_left p owned f true n front (c and (s and a)) stands)
          (nil_left front.faults (c.faults ++ (s.faults ++ a.faults)) none)

      in_inside : InScope p owned f true inside
      in_inside = in_knowing p owned f true front.entries scope in_scope front_piece.entries

      step_piece : IsPiece p owned f true inside.exits (behind (behind n front) c) s
      step_piece = subst (λ m. IsPiece p owned f true inside.exits m s) (behind-and n front c)
          ((step_part head.step).piece.by inside in_inside (behind n (front and c))
          (subst (λ m. Stands p owned f true m s) (sym (behind-and n front c))
          (stands_left p owned f true (behind (behind n front) c) s a behind_test))
          (nil_left s.faults a.faults behind_test_none))

      body_piece : IsPiece p owned f true exits_of_loop (behind (behind (behind n front) c) s) a
      body_piece = subst (λ m. IsPiece p owned f true exits_of_loop m a) behind_step
          (body_is.fits.piece.by (looping inside) (in_looping p owned f true inside in_inside)
          (behind n (front and (c and s)))
          (subst (λ m. Stands p owned f true m a) (sym behind_step)
          (stands_right p owned f true (behind (behind n front) c) s a behind_test))
          (nil_right s.faults a.faults behind_test_none))

      for_few : IsFew n (front and (c and (s and a)))
      for_few = few-and n front (c and (s and a)) front_piece.few
          (few-and (behind n front) c (s and a) (condition_few p owned f inside (behind n front) w c_none)
          (few-and (behind (behind n front) c) s a step_piece.few body_piece.few))

      own_are : AreStmts p owned (behind n front).statements 1 (behind n front).calls w.calls exits_of_loop
          (own ∷ [])
      own_are = condition_are p owned f inside (behind n front) w c_none
          (are_simple fronts && are_simple steps)
          (and_from _ _ ((first_simple p f head.first).by scope n) ((step_simple p f head.step).by inside
          (behind n (front and c))))
          ((test_typing head.second_semicolon.at head.test).by inside in_inside.sound
          (behind n front).calls)
          (stands_left p owned f true (behind n front) c (s and a) behind_front).1

      for_piece : {exits : Exits} → IsPiece p owned f true exits n (add_for head body outside n)
      for_piece {exits} = piece_enclosing p owned f n
          (tree.for_loop stmt (stmts_of front.stmts) w.tree (stmts_of s.stmts) (one_of a.stmts))
          (front and (c and (s and a))) for_few
          (subst (λ x. AreStmts p owned n.statements (length (front and (c and (s and a))).statements) n.calls
          total_calls exits (x ∷ [])) (sym for_tree_facts)
          (recount p owned f total (length (front and (c and (s and a))).statements) total_calls total_calls
          counts refl
          (for_are (loosen p owned front_piece.stmts) own_are (loosen p owned step_piece.stmts)
          (one_are p owned f a.stmts (body_is.single (looping inside) (behind n (front and
          (c and s)))) body_piece.stmts)))) where
            counts : total ≡ length (front.statements ++ (c.statements ++ (s.statements ++ a.statements)))
            counts = let e = length-append front.statements (c.statements ++
                (s.statements ++ a.statements)) in
                let g = length-append s.statements a.statements in omega (arith, e, g)

    for_counted : (add_for head body outside n).faults ≡ [] → IsCounted (add_for head body outside n)
    for_counted none =
        let others = nil_right front.faults (c.faults ++ (s.faults ++ a.faults)) none in
        let last = nil_right c.faults (s.faults ++ a.faults) others in
        counted_enclosing p owned f
        (tree.for_loop stmt (stmts_of front.stmts) w.tree (stmts_of s.stmts) (one_of a.stmts))
        (front and (c and (s and a)))
        (counted-and front (c and (s and a)) ((first_part head.first).counted scope n
        (nil_left front.faults (c.faults ++ (s.faults ++ a.faults)) none))
        (counted-and c (s and a) (none_counted p owned f true c refl refl)
        (counted-and s a ((step_part head.step).counted inside (behind n (front and c))
        (nil_left s.faults a.faults last))
        (body_is.fits.counted (looping inside) (behind n (front and (c and s)))
        (nil_right s.faults a.faults last)))))

  pub for_part : (head : ForHead) (body : Part) → IsStatement p owned f body → IsStatement p owned f
      (add_for head body)
  for_part head body body_is = record {
    fits = record {
      piece = record {
        by = λ outside in_outside n stands none. for_piece head body body_is outside n
            in_outside stands none;
      };
      counted = for_counted head body body_is;
    };
    single = λ scope n. omega arith;
  }
