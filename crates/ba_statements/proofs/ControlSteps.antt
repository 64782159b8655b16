-- What statements that hold others add, from what the code makes of their parts.
use Rattle.std.proofs.Common.{◌≡◌, pos, Option, None, Some, Result, List, [], ◌∷◌, ◌++◌, map, length, take, refl, sym, ◌∙◌, ap, subst, append-nil}
use Rattle.std.specs.Prelude.{OnOk}
use Rattle.std.proofs.lemmas.List.{take_at}
use Rattle.std.proofs.lemmas.Result.{on_ok_weaker}
use Rattle.ba_tokens.specs.declared.token.Token.{Token}
use Rattle.ba_numbers.specs.declared.ids.At.{At}
use Rattle.ba_numbers.specs.declared.ids.StmtId.{StmtId}
use Rattle.ba_numbers.specs.declared.numbers.CType.{CType}
use Rattle.ba_numbers.specs.declared.numbers.CType.TheVariants.{I32}
use Rattle.ba_trees.specs.declared.tree.declarations.Declarators.{Declarators}
use Rattle.ba_trees.specs.declared.tree.expressions.TypeName.{TypeName}
use Rattle.ba_trees.specs.declared.tree.statements.BlockItem.{BlockItem}
use Rattle.ba_trees.specs.declared.tree.statements.ForFirst.{ForFirst}
use Rattle.ba_trees.specs.declared.tree.statements.ForFirst.TheVariants as for_first
use Rattle.ba_trees.specs.declared.tree.statements.ForHead.{ForHead}
use Rattle.ba_trees.specs.declared.tree.statements.Statement.{Statement, out-Statement}
use Rattle.ba_trees.specs.declared.tree.statements.StatementForm.{StatementForm}
use Rattle.ba_tree.specs.declared.tree.Stmt.{Stmt}
use Rattle.ba_tree.specs.declared.tree.StmtKind.TheVariants as kind
use Rattle.ba_statements.specs.Adding.{GivesTest, Numbers, State, state_with, before_of, behind_part, with_added}
use Rattle.ba_statements.specs.Controlling.{GivesBody, GivesGuarded, GivesHead}
use Rattle.ba_typing.specs.Declarations.{Added, ◌and◌, Before, Part, ◌then◌, add_declarators, behind, faults_added, in_order, next_stmt, nothing_added}
use Rattle.ba_typing.specs.Expressions.{Typing, typed_constant}
use Rattle.ba_typing.specs.Faults.{height_limit, limit_faults, tag_faults}
use Rattle.ba_expressions.specs.Inferring.{Infers, with_faults}
use Rattle.ba_scopes.specs.Marks.{back_to, mark_of}
use Rattle.ba_typing.specs.Names.{Scope, inner, knowing, looping, tag_of, type_named, words_of}
use Rattle.ba_typing.specs.Statements.{add_block, add_do, add_first, add_for, add_statement_form, add_if, add_item, add_statement, add_step, add_test, add_while, enclosing, for_scope, for_test, one, one_of}
use Rattle.ba_tree.specs.Trees.{ExprTree, StmtTree, stmts_of, tree_of_expr, tree_of_stmt}
use Rattle.ba_tree.specs.Trees as tree
use Rattle.ba_statements.specs.declared.control.Guarded.{Guarded}
use Rattle.ba_statements.specs.declared.control.Head.{Head}
use Rattle.ba_statements.specs.declared.control.Test.{Test}
use Rattle.ba_expressions.specs.declared.inferred.Inferred.{Inferred}
use Rattle.ba_typing.specs.declared.meanings.Entry.{Entry}
use Rattle.ba_typing.specs.declared.names.Exits.{Exits}
use Rattle.ba_scopes.specs.declared.scopes.Mark.{Mark}
use Rattle.ba_typing.specs.declared.meanings.Signature.{Signature}
use Rattle.ba_expressions.specs.declared.tally.Tally.{Tally}
use Rattle.ba_statements.specs.declared.work.Work.{Work}
use Rattle.ba_statements.proofs.Adding.{after-nothing, and-then, before-added, faults-work, in-scope, with_added-both, with_added-nothing}
use Rattle.ba_typing.proofs.ParsedStatements.{by-form}
use Rattle.ba_statements.proofs.StatementSteps.{test-is}

-- WHAT WAS ADDED

-- what follows what was added
pub behind-added : (w mid : Work) (a : Added) → mid ≡ with_added w a → before_of mid ≡ behind (before_of w) a
behind-added w mid a is = ap before_of is ∙ before-added w a

-- something, and then something else
pub both-added : (w mid u : Work) (a b : Added) → mid ≡ with_added w a → u ≡ with_added mid b
    → u ≡ with_added w (a and b)
both-added w mid u a b begun ended = ended ∙ ap (λ m. with_added m b) begun ∙ with_added-both w a b

added-assoc : (w : Work) (a b c : Added) → with_added w ((a and b) and c) ≡ with_added w (a and (b and c))
added-assoc w a b c = sym (with_added-both w (a and b) c)
    ∙ ap (λ v. with_added v c) (sym (with_added-both w a b))
    ∙ with_added-both (with_added w a) b c ∙ with_added-both w a (b and c)

-- a condition after so much
abbrev TestAt : Typing → Scope → Before → Work → Work → Test → Type 0
TestAt typing scope n old new t = let e = typing scope n.calls in
    (t.stmt ≡ next_stmt n) × (tree_of_expr t.when ≡ e.tree)
    × (new ≡ with_added old (add_test e.first e scope n))

test-at : (typing : Typing) (scope : Scope) (n : Before) (old new : Work) (t : Test) → before_of old ≡ n
    → GivesTest (typing scope old.tally.calls) scope old new t → TestAt typing scope n old new t
test-at typing scope n old new t is h = subst (λ n. TestAt typing scope n old new t) is h

-- a body after so much
body-at : (body : Part) (scope : Scope) (n : Before) (old new : Work) (s : Stmt) → before_of old ≡ n
    → GivesBody (body scope (before_of old)) old new s → GivesBody (body scope n) old new s
body-at body scope n old new s is h = subst (λ n. GivesBody (body scope n) old new s) is h

-- a part as the first in a list of statements
abbrev PartAt : Part → Scope → Before → Work → Work → List StmtTree → Type 0
PartAt part scope n old new stmts = (new ≡ with_added old (part scope n)) × (stmts ≡ (part scope n).stmts)

part-at : (part : Part) (scope k : Scope) (old new : Work) (stmts : List StmtTree)
    → state_with k new stmts ≡ behind_part part (state_with scope old [])
    → PartAt part scope (before_of old) old new stmts
unfolding behind_part
part-at part scope k old new stmts is = (ap (λ (s : State). s.work) is, ap (λ (s : State). s.stmts) is)

scope-at : (part : Part) (scope k : Scope) (old new : Work) (stmts : List StmtTree)
    → state_with k new stmts ≡ behind_part part (state_with scope old [])
    → k ≡ knowing (part scope (before_of old)).entries scope
unfolding behind_part
scope-at part scope k old new stmts is = ap (λ (s : State). s.scope) is

-- a part whose statements are the first in their list
pub begun : (part : Part) (scope : Scope) (w : Work) (none : List Stmt) (new : State) → none ≡ []
    → new ≡ behind_part part (state_with scope w (map tree_of_stmt none))
    → new ≡ behind_part part (state_with scope w [])
begun part scope w none new empty is = is
    ∙ ap (λ xs. behind_part part (state_with scope w (map tree_of_stmt xs))) empty

-- SCOPES

-- what a part declared is known no longer, and around it is what was there before it
back-is : (scope inside k left : Scope) (entries : List Entry) (m : Mark) → inside.functions ≡ scope.functions
    → inside.known ≡ scope.known → k ≡ knowing entries inside → m ≡ mark_of scope → left ≡ back_to m k
    → left ≡ scope
back-is scope inside k left entries m functions known is marks back = back ∙ ap (λ m. back_to m k) marks
    ∙ ap (back_to (mark_of scope)) is
    ∙ ap (λ fs. record scope {
      functions = fs;
      known = take (length scope.known)
          (inside.known ++ entries);
    }) functions
    ∙ ap (λ es. record scope { known = take (length scope.known) (es ++ entries) }) known
    ∙ ap (λ es. record scope { known = es }) (take_at scope.known entries (length scope.known) refl)

-- the same place, by the scope that it is in
pub at-scope : (scope k : Scope) (w : Work) (stmts : List StmtTree) (whole : State) → k ≡ scope
    → state_with scope w stmts ≡ whole → state_with k w stmts ≡ whole
at-scope scope k w stmts whole same is = ap (λ s. state_with s w stmts) same ∙ is

for_scope-functions : (first : ForFirst) (scope : Scope) → (for_scope first scope).functions ≡ scope.functions
for_scope-functions (for_first.Declaration name declarators) scope = refl
for_scope-functions (for_first.Simples s) scope = refl
for_scope-functions for_first.Nothing scope = refl

for_scope-known : (first : ForFirst) (scope : Scope) → (for_scope first scope).known ≡ scope.known
for_scope-known (for_first.Declaration name declarators) scope = refl
for_scope-known (for_first.Simples s) scope = refl
for_scope-known for_first.Nothing scope = refl

-- after the body of a loop or of a `switch`, where other jumps were accepted
pub exits-back : (scope around turned k : Scope) (inside before : Exits) → before ≡ scope.exits
    → around ≡ record scope { exits = inside } → turned ≡ around → k ≡ record turned { exits = before }
    → k ≡ scope
exits-back scope around turned k inside before was entered stays is =
    is ∙ ap (λ (k : Scope). record k { exits = before }) (stays ∙ entered)
    ∙ ap (λ (e : Exits). record scope { exits = e }) was

-- BLOCKS

module _ (parts : List Part) (scope entered k : Scope) (w u : Work) (body : List StmtTree)
    (enters : entered ≡ inner scope)
    (inside : state_with k u body ≡ behind_part (in_order parts) (state_with entered w [])) where
  in_inner : state_with k u body ≡ behind_part (in_order parts) (state_with (inner scope) w [])
  in_inner = inside ∙ ap (λ (s : Scope). behind_part (in_order parts) (state_with s w [])) enters

  pub block-back : (m : Mark) (left : Scope) → m ≡ mark_of scope → left ≡ back_to m k → left ≡ scope
  block-back m left = back-is scope (inner scope) k left
      (in_order parts (inner scope) (before_of w)).entries m refl refl
      (scope-at (in_order parts) (inner scope) k w u body in_inner)

  pub block-adds : (olds news : List StmtTree) → news ≡ olds ++ tree.block (stmts_of body) ∷ []
      → state_with scope u news ≡ behind_part (add_block parts) (state_with scope w olds)
  block-adds olds news pushed =
      let a = in_order parts (inner scope) (before_of w) in
      let made = part-at (in_order parts) (inner scope) k w u body in_inner in
      in-scope (add_block parts) (enclosing (tree.block (stmts_of a.stmts)) a) scope w u olds news refl
      refl made.0
      (pushed ∙ ap (λ xs. olds ++ tree.block (stmts_of xs) ∷ []) made.1)

-- A STATEMENT THAT ANOTHER ONE CONTROLS

pub body-is : (part : Part) (scope k : Scope) (w u : Work) (stmts : List StmtTree) (s : Stmt)
    → state_with k u stmts ≡ behind_part part (state_with scope w []) → tree_of_stmt s ≡ one_of stmts
    → GivesBody (part scope (before_of w)) w u s
body-is part scope k w u stmts s inside first =
    let made = part-at part scope k w u stmts inside in (first ∙ ap one_of made.1, made.0)

pub guarded-is : (typing : Typing) (holds : Part) (scope : Scope) (w mid u : Work) (t : Test) (s : Stmt)
    → GivesTest (typing scope w.tally.calls) scope w mid t → GivesBody (holds scope (before_of mid)) mid u s
    → GivesGuarded typing holds scope w u (record { test = t; body = s })
guarded-is typing holds scope w mid u t s tested held =
    let n = before_of w in
    let e = typing scope n.calls in
    let c = add_test e.first e scope n in
    let inside = body-at holds scope (behind n c) mid u s (behind-added w mid c tested.2) held in (
      tested.0,
      tested.1,
      inside.0,
      both-added w mid u c (holds scope (behind n c)) tested.2 inside.1,
    )

-- the same typed statement from equal parts
controls-as : (typed : StmtId → ExprTree → StmtTree → StmtTree) (m n : StmtId) (d e : ExprTree)
    (a b : StmtTree)
    → m ≡ n → d ≡ e → a ≡ b → typed m d a ≡ typed n e b
controls-as typed m n d e a b numbers tests bodies =
    ap (λ m. typed m d a) numbers ∙ ap (λ d. typed n d a) tests ∙ ap (typed n e) bodies

module _ (typing : Typing) (holds : Part) (scope : Scope) (w mid : Work) (g : Guarded)
    (gives : GivesGuarded typing holds scope w mid g) (olds news : List StmtTree) where
  pub if-adds : news ≡ olds ++ tree.if_then g.test.stmt (tree_of_expr g.test.when) (tree_of_stmt g.body) ∷ []
      → state_with scope mid news ≡ behind_part (add_if typing holds None) (state_with scope w olds)
  if-adds pushed =
      let n = before_of w in
      let e = typing scope n.calls in
      let c = add_test e.first e scope n in
      let a = holds scope (behind n c) in
      in-scope (add_if typing holds None)
      (enclosing (tree.if_then (next_stmt n) e.tree (one_of a.stmts)) (c and (a and nothing_added)))
      scope w mid olds news refl refl
      (both-added w mid mid (c and a) nothing_added gives.3 (with_added-nothing mid)
      ∙ added-assoc w c a nothing_added)
      (pushed ∙ ap (λ x. olds ++ x ∷ []) (controls-as tree.if_then g.test.stmt (next_stmt n)
      (tree_of_expr g.test.when) e.tree (tree_of_stmt g.body) (one_of a.stmts) gives.0 gives.1 gives.2))

  pub if_else-adds : (fails : Part) (u : Work) (s : Stmt) → GivesBody (fails scope (before_of mid)) mid u s
      → news ≡ olds ++ tree.if_else g.test.stmt (tree_of_expr g.test.when) (tree_of_stmt g.body)
      (tree_of_stmt s) ∷ []
      → state_with scope u news ≡ behind_part (add_if typing holds (Some fails)) (state_with scope w olds)
  if_else-adds fails u s other pushed =
      let n = before_of w in
      let e = typing scope n.calls in
      let c = add_test e.first e scope n in
      let a = holds scope (behind n c) in
      let b = fails scope (behind n (c and a)) in
      let inside = body-at fails scope (behind n (c and a)) mid u s
      (behind-added w mid (c and a) gives.3) other in
      in-scope (add_if typing holds (Some fails))
      (enclosing (tree.if_else (next_stmt n) e.tree (one_of a.stmts) (one_of b.stmts)) (c and (a and b)))
      scope w u olds news refl refl
      (both-added w mid u (c and a) b gives.3 inside.1 ∙ added-assoc w c a b)
      (pushed ∙ ap (λ x. olds ++ x ∷ []) (controls-as (λ m d x. tree.if_else m d x (tree_of_stmt s))
      g.test.stmt (next_stmt n) (tree_of_expr g.test.when) e.tree (tree_of_stmt g.body) (one_of a.stmts)
      gives.0 gives.1 gives.2
      ∙ ap (tree.if_else (next_stmt n) e.tree (one_of a.stmts)) inside.0))

-- LOOPS

module _ (typing : Typing) (body : Part) (scope : Scope) (w mid u : Work) (t : Test) (s : Stmt)
    (olds news : List StmtTree) where
  pub while-adds : GivesTest (typing scope w.tally.calls) scope w mid t
      → GivesBody (body (looping scope) (before_of mid)) mid u s
      → news ≡ olds ++ tree.while_loop t.stmt (tree_of_expr t.when) (tree_of_stmt s) ∷ []
      → state_with scope u news ≡ behind_part (add_while typing body) (state_with scope w olds)
  while-adds tested held pushed =
      let n = before_of w in
      let e = typing scope n.calls in
      let c = add_test e.first e scope n in
      let a = body (looping scope) (behind n c) in
      let inside = body-at body (looping scope) (behind n c) mid u s (behind-added w mid c tested.2) held in
      in-scope (add_while typing body) (enclosing (tree.while_loop (next_stmt n) e.tree (one_of a.stmts))
      (c and a))
      scope w u olds news refl refl (both-added w mid u c a tested.2 inside.1)
      (pushed ∙ ap (λ x. olds ++ x ∷ []) (controls-as tree.while_loop t.stmt (next_stmt n)
      (tree_of_expr t.when) e.tree (tree_of_stmt s) (one_of a.stmts) tested.0 tested.1 inside.0))

  pub do-adds : GivesBody (body (looping scope) (before_of w)) w mid s
      → GivesTest (typing scope mid.tally.calls) scope mid u t
      → news ≡ olds ++ tree.do_while t.stmt (tree_of_expr t.when) (tree_of_stmt s) ∷ []
      → state_with scope u news ≡ behind_part (add_do typing body) (state_with scope w olds)
  do-adds held tested pushed =
      let n = before_of w in
      let a = body (looping scope) n in
      let e = typing scope (behind n a).calls in
      let c = add_test e.first e scope (behind n a) in
      let behind_body = test-at typing scope (behind n a) mid u t (behind-added w mid a held.1) tested in
      in-scope (add_do typing body)
      (enclosing (tree.do_while (next_stmt (behind n a)) e.tree (one_of a.stmts)) (a and c))
      scope w u olds news refl refl (both-added w mid u a c held.1 behind_body.2)
      (pushed ∙ ap (λ x. olds ++ x ∷ []) (controls-as tree.do_while t.stmt (next_stmt (behind n a))
      (tree_of_expr t.when) e.tree (tree_of_stmt s) (one_of a.stmts) behind_body.0 behind_body.1 held.0))

-- THE HEAD OF A `for`

-- an absent condition
pub absent-is : (at : At) (scope : Scope) (w u : Work) (j : Inferred) (new : Tally) (stmt : StmtId)
    → Infers j (typed_constant at I32 (pos 1))
    → new ≡ with_faults w.tally (limit_faults height_limit j.height j.first)
    → Numbers j.first kind.Condition stmt (record w { tally = new }) u
    → GivesTest (one at scope w.tally.calls) scope w u (record { stmt = stmt; when = j.expr })
absent-is at scope w u j new stmt infers more counted =
    test-is (typed_constant at I32 (pos 1)) scope w u j w.tally new stmt (infers, after-nothing w.tally) more
    counted

module _ (f : ForFirst) (scope : Scope) (w : Work) (stmts : List StmtTree) (new : State) where
  pub first-declares : (name : TypeName) (declarators : Declarators) (functions : List Signature)
      (t : Option CType) (tag : Option Token) (inside : Scope) (mid : Tally)
      → f ≡ for_first.Declaration name declarators → functions ≡ [] → t ≡ type_named name
      → tag ≡ tag_of (words_of name) → inside ≡ inner scope
      → mid ≡ with_faults w.tally (tag_faults inside tag)
      → new ≡ behind_part (add_declarators functions t declarators)
      (state_with inside (record w { tally = mid }) stmts)
      → new ≡ behind_part (add_first f) (state_with (for_scope f scope) w stmts)
  first-declares name declarators functions t tag inside mid is none types tags enters counted adds =
      let looks : Part = λ scope n. faults_added (tag_faults scope (tag_of (words_of name))) in
      let rest = add_declarators [] (type_named name) declarators in
      let v = record w { tally = mid } in
      and-then looks rest (state_with inside w stmts) (state_with inside v stmts) new
      (in-scope looks (faults_added (tag_faults inside (tag_of (words_of name)))) inside w v stmts stmts
      refl refl
      (ap (λ t. record w { tally = t }) (counted ∙ ap (λ tag. with_faults w.tally (tag_faults inside tag))
      tags)
      ∙ faults-work w (tag_faults inside (tag_of (words_of name)))) (sym (append-nil stmts)))
      (adds ∙ ap (λ (fs : List Signature). behind_part (add_declarators fs t declarators)
      (state_with inside v stmts)) none
      ∙ ap (λ (t : Option CType). behind_part (add_declarators [] t declarators) (state_with inside v stmts))
      types)
      ∙ ap (λ (k : Scope). behind_part (looks then rest) (state_with k w stmts)) enters
      ∙ ap (λ (f : ForFirst). behind_part (add_first f) (state_with (for_scope f scope) w stmts)) (sym is)

  pub first-as : (g : ForFirst) → f ≡ g
      → new ≡ behind_part (add_first g) (state_with (for_scope g scope) w stmts)
      → new ≡ behind_part (add_first f) (state_with (for_scope f scope) w stmts)
  first-as g is adds = adds
      ∙ ap (λ (f : ForFirst). behind_part (add_first f) (state_with (for_scope f scope) w stmts)) (sym is)

module _ (head : ForHead) (outside k : Scope) (w w1 w2 w3 : Work) (h : Head) where
  pub head-is : state_with k w1 (map tree_of_stmt h.first.items)
      ≡ behind_part (add_first head.first) (state_with (for_scope head.first outside) w [])
      → GivesTest (for_test head k w1.tally.calls) k w1 w2 h.test
      → state_with k w3 (map tree_of_stmt h.step.items) ≡ behind_part (add_step head.step) (state_with k w2
      [])
      → GivesHead head outside k w w3 h
  head-is before tested behind_turn =
      let scope = for_scope head.first outside in
      let n = before_of w in
      let f = add_first head.first scope n in
      let inside = knowing f.entries scope in
      let e = for_test head inside (behind n f).calls in
      let c = add_test e.first e inside (behind n f) in
      let made = part-at (add_first head.first) scope k w w1 (map tree_of_stmt h.first.items) before in
      let knows = scope-at (add_first head.first) scope k w w1 (map tree_of_stmt h.first.items) before in
      let test = subst (λ (k : Scope). TestAt (for_test head) k (behind n f) w1 w2 h.test) knows
      (test-at (for_test head) k (behind n f) w1 w2 h.test (behind-added w w1 f made.0) tested) in
      let until = both-added w w1 w2 f c made.0 test.2 in
      let step = subst (λ (k : Scope). PartAt (add_step head.step) k (behind n (f and c)) w2 w3
      (map tree_of_stmt h.step.items)) knows
      (subst (λ (n : Before). PartAt (add_step head.step) k n w2 w3 (map tree_of_stmt h.step.items))
      (behind-added w w2 (f and c) until)
      (part-at (add_step head.step) k k w2 w3 (map tree_of_stmt h.step.items) behind_turn)) in (
        knows,
        made.1,
        test.0,
        test.1,
        step.1,
        both-added w w2 w3 (f and c) (add_step head.step inside (behind n (f and c))) until step.0
            ∙ added-assoc w f c (add_step head.step inside (behind n (f and c))),
      )

module _ (head : ForHead) (outside inside : Scope) (w mid : Work) (h : Head)
    (gives : GivesHead head outside inside w mid h) where
  abbrev first_added : Added
  first_added = add_first head.first (for_scope head.first outside) (before_of w)

  pub for-back : (k left : Scope) (m : Mark) → k ≡ inside → m ≡ mark_of outside → left ≡ back_to m k
      → left ≡ outside
  for-back k left m is = back-is outside (for_scope head.first outside) k left first_added.entries m
      (for_scope-functions head.first outside) (for_scope-known head.first outside) (is ∙ gives.0)

  pub for-adds : (body : Part) (u : Work) (s : Stmt) (olds news : List StmtTree)
      → GivesBody (body (looping inside) (before_of mid)) mid u s
      → news ≡ olds ++ tree.for_loop h.test.stmt (stmts_of (map tree_of_stmt h.first.items))
      (tree_of_expr h.test.when) (stmts_of (map tree_of_stmt h.step.items)) (tree_of_stmt s) ∷ []
      → state_with outside u news ≡ behind_part (add_for head body) (state_with outside w olds)
  for-adds body u s olds news held pushed =
      let n = before_of w in
      let f = first_added in
      let k = knowing f.entries (for_scope head.first outside) in
      let e = for_test head k (behind n f).calls in
      let c = add_test e.first e k (behind n f) in
      let x = add_step head.step k (behind n (f and c)) in
      let a = body (looping k) (behind n (f and (c and x))) in
      let turn = body-at body (looping k) (behind n (f and (c and x))) mid u s
      (behind-added w mid (f and (c and x)) gives.5)
      (subst (λ (k : Scope). GivesBody (body (looping k) (before_of mid)) mid u s) gives.0 held) in
      let m = next_stmt (behind n f) in
      let firsts = stmts_of (map tree_of_stmt h.first.items) in
      let steps = stmts_of (map tree_of_stmt h.step.items) in
      in-scope (add_for head body)
      (enclosing (tree.for_loop m (stmts_of f.stmts) e.tree (stmts_of x.stmts) (one_of a.stmts))
      (f and (c and (x and a))))
      outside w u olds news refl refl
      (both-added w mid u (f and (c and x)) a gives.5 turn.1 ∙ added-assoc w f (c and x) a
      ∙ sym (with_added-both w f ((c and x) and a)) ∙ added-assoc (with_added w f) c x a
      ∙ with_added-both w f (c and (x and a)))
      (pushed ∙ ap (λ y. olds ++ y ∷ []) (controls-as (λ m d y. tree.for_loop m firsts d steps y) h.test.stmt
      m (tree_of_expr h.test.when) e.tree (tree_of_stmt s) (one_of a.stmts) gives.2 gives.3 turn.0
      ∙ ap (λ ys. tree.for_loop m (stmts_of ys) e.tree steps (one_of a.stmts)) gives.1
      ∙ ap (λ ys. tree.for_loop m (stmts_of f.stmts) e.tree (stmts_of ys) (one_of a.stmts)) gives.4))

-- IN A BLOCK

module _ (b : BlockItem) (old new : State) where
  pub item-as : (c : BlockItem) (part : Part) → b ≡ c → add_item c ≡ part → new ≡ behind_part part old
      → new ≡ behind_part (add_item b) old
  item-as c part is makes adds = adds
      ∙ ap (λ (part : Part). behind_part part old) (sym (ap add_item is ∙ makes))

-- STATEMENTS, by their forms

pub form-adds : (s : Statement) (f : StatementForm) (part : Part) (old new : State)
    → (out-Statement s).form ≡ f
    → add_statement_form f ≡ part → new ≡ behind_part part old → new ≡ behind_part (add_statement s) old
form-adds s f part old new is makes adds = adds
    ∙ ap (λ (part : Part). behind_part part old) (sym (by-form s f part is makes))

pub form-answers : {A E : Type 0} (r : Result A E) (s : Statement) (f : StatementForm) (part : Part)
    (old new : State)
    → (out-Statement s).form ≡ f → add_statement_form f ≡ part → OnOk r (new ≡ behind_part part old)
    → OnOk r (new ≡ behind_part (add_statement s) old)
form-answers r s f part old new is makes answer = on_ok_weaker r (form-adds s f part old new is makes) answer
