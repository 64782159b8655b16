-- An edited statement has the facts that it had, and costs as much. Numbers of statements come once, so the
-- nodes of a number are those of one statement.
use Rattle.std.proofs.Common.{◌≡◌, ℕ, ◌+◌, ◌-◌, ◌==◌, Bool, true, false, ◌&&◌, ◌||◌, not, List, [], ◌∷◌, ◌++◌, map, flat_map, length, refl, sym, ap, subst, ◌∙◌, append-nil, append_assoc, if◌then◌else◌}
use Rattle.std.specs.Prelude.{filter}
use Rattle.std.specs.List.{list_all, list_any, sum}
use Rattle.std.proofs.lemmas.Bool.{and_from, eqb-true}
use Rattle.std.proofs.lemmas.Grind.{flat_map-append}
use Rattle.std.proofs.lemmas.List.{map-append}
use Rattle.std.proofs.lemmas.List.Elements.{filter-append}
use Rattle.std.proofs.lemmas.List.Folds.{list_all-append}
use Rattle.ba_numbers.specs.Types.{is_promoted}
use Rattle.ba_numbers.specs.declared.ids.StmtId.{StmtId}
use Rattle.ba_tree.proofs.Tests.{both}
use Rattle.ba_tree.specs.Facts.{ExprFacts, StmtFacts, are_distinct, are_labels, are_simple, around, as_loop, as_switch, calling, fits_type, givens, has_variable, holds, initialising, is_array, is_value, leaf_facts, naming, numbered, type_at}
use Rattle.ba_tree.specs.Trees.{ExprTree, StmtTree, StmtTrees}
use Rattle.ba_tree.specs.Trees as tree
use Rattle.ba_tree.specs.Units.{Bodies, Lengths, all_units, call_units, element_units, length_at, loop_units}
use Rattle.ba_tree.specs.declared.tree.Function.{Function}
use Rattle.ba_tree.specs.declared.tree.Parts.{Parts}
use Rattle.ba_tree.specs.declared.tree.Stmt.{Stmt}
use Rattle.ba_tree.specs.declared.tree.StmtKind.{StmtKind}
use Rattle.ba_tree.specs.declared.tree.StmtKind.TheVariants as kind
use Rattle.ba_tree.specs.declared.tree.Variable.{Variable}
use Rattle.ba_tree_laws.proofs.TreeUnits.{stmt_units, stmts_units}
use Rattle.ba_typing_facts.proofs.TreeFacts.{facts_of}
use Rattle.ba_typing_facts.proofs.StatementTreeFacts.{array_init_facts, stmt_facts_of, stmts_facts_of}
use Rattle.ba_repair.specs.Changes.{changed_in, changed_stmt, changed_stmts, node_in}
use Rattle.ba_repair.specs.Nodes.{arg_nodes, body_nodes, expr_nodes, nodes_of, own_nodes, stmt_nodes, stmts_nodes}
use Rattle.ba_repair.specs.declared.listing.Edit.{Edit}
use Rattle.ba_repair.specs.declared.nodes.EditableNode.{EditableNode}
use Rattle.ba_repair.specs.declared.nodes.StmtNode.{StmtNode}
use Rattle.ba_repair.proofs.OwnChanges.{Suits, suits-left, suits-none, suits-right}
use Rattle.ba_repair.proofs.KeptFacts.{HasSameHeads, Stays, arg-list-kept, expr-kept, exprs-kept, with_bodies}

-- NUMBERS of statements
abbrev pub Numbered : Type 0
Numbered = StmtId × StmtKind

abbrev pub numbers : List Numbered → List ℕ
numbers = map (λ (n : Numbered). n.0.0)

abbrev has : ℕ → List Numbered → Bool
has n xs = list_any (λ m. m == n) (numbers xs)

abbrev pub differ : List Numbered → Bool
differ xs = are_distinct (numbers xs)

or-more : (a b c : Bool) → (a || (b || c)) ≡ ((a || b) || c)
or-more true b c = refl
or-more false b c = refl

neither : (a b : Bool) → (a || b) ≡ false → (a ≡ false) × (b ≡ false)
neither true b h = cc
neither false b h = (refl, h)

has-append : (n : ℕ) (xs ys : List Numbered) → has n (xs ++ ys) ≡ (has n xs || has n ys)
has-append n [] ys = refl
has-append n (x ∷ xs) ys = ap (λ b. (x.0.0 == n) || b) (has-append n xs ys)
    ∙ or-more (x.0.0 == n) (has n xs) (has n ys)

in-neither : (n : ℕ) (xs ys : List Numbered) → has n (xs ++ ys) ≡ false
    → (has n xs ≡ false) × (has n ys ≡ false)
in-neither n xs ys h = neither (has n xs) (has n ys) (sym (has-append n xs ys) ∙ h)

is-not : (b : Bool) → not b ≡ true → b ≡ false
is-not true h = cc
is-not false h = refl

differ-left : (xs ys : List Numbered) → differ (xs ++ ys) ≡ true → differ xs ≡ true
differ-left [] ys h = refl
differ-left (x ∷ xs) ys h = let parts = both _ _ h in
    and_from _ _ (ap not (in-neither x.0.0 xs ys (is-not _ parts.0)).0) (differ-left xs ys parts.1)

differ-right : (xs ys : List Numbered) → differ (xs ++ ys) ≡ true → differ ys ≡ true
differ-right [] ys h = h
differ-right (x ∷ xs) ys h = differ-right xs ys (both _ _ h).1

-- a number of the first ones is none of the others
apart : (n : ℕ) (xs ys : List Numbered) → differ (xs ++ ys) ≡ true → has n xs ≡ true → has n ys ≡ false
apart n [] ys h there = cc
apart n (x ∷ xs) ys h there = by (both _ _ h).0 (apart n xs ys (both _ _ h).1) (x.0.0 == n)
    (eqb-true x.0.0 n) there where
      by : not (has x.0.0 (xs ++ ys)) ≡ true → (has n xs ≡ true → has n ys ≡ false) → (b : Bool)
          → (b ≡ true → x.0.0 ≡ n) → (b || has n xs) ≡ true → has n ys ≡ false
      by once rest true same h =
          subst (λ m. has m ys ≡ false) (same refl) (in-neither x.0.0 xs ys (is-not _ once)).1
      by once rest false other h = rest h

-- NODES of a number

nodes-append : (n : ℕ) (xs ys : List StmtNode) → nodes_of n (xs ++ ys) ≡ nodes_of n xs ++ nodes_of n ys
nodes-append n xs ys = ap (map (λ (found : StmtNode). found.node))
    (filter-append (λ (found : StmtNode). found.stmt.0 == n) xs ys)
    ∙ map-append (λ (found : StmtNode). found.node) (filter (λ (found : StmtNode). found.stmt.0 == n) xs)
    (filter (λ (found : StmtNode). found.stmt.0 == n) ys)

own-same : (n : ℕ) (stmt : StmtId) (xs : List EditableNode) → (stmt.0 == n) ≡ true
    → nodes_of n (own_nodes stmt xs) ≡ xs
own-same n stmt [] h = refl
own-same n stmt (x ∷ xs) h = rw h (ap (λ xs. x ∷ xs) (own-same n stmt xs h))

own-other : (n : ℕ) (stmt : StmtId) (xs : List EditableNode) → (stmt.0 == n) ≡ false
    → nodes_of n (own_nodes stmt xs) ≡ []
own-other n stmt [] h = refl
own-other n stmt (x ∷ xs) h = rw h (own-other n stmt xs h)

-- these nodes are of statements of these numbers
abbrev pub AreOf : List Numbered → List StmtNode → Type 0
AreOf xs nodes = (n : ℕ) → has n xs ≡ false → nodes_of n nodes ≡ []

own-of : (stmt : StmtId) (k : StmtKind) (nodes : List EditableNode)
    → AreOf (numbered stmt k) (own_nodes stmt nodes)
own-of stmt k nodes n h = own-other n stmt nodes (neither (stmt.0 == n) false h).0

pub both-of : (xs ys : List Numbered) (ms ns : List StmtNode) → AreOf xs ms → AreOf ys ns
    → AreOf (xs ++ ys) (ms ++ ns)
both-of xs ys ms ns h k n none = let parts = in-neither n xs ys none in
    nodes-append n ms ns ∙ (λ i. h n parts.0 i ++ k n parts.1 i)

one-of : (xs : List Numbered) (ns : List StmtNode) → AreOf xs ns → AreOf (xs ++ []) ns
one-of xs ns h = subst (λ xs. AreOf xs ns) (sym (append-nil xs)) h

abbrev pub numbers_in : List StmtFacts → List Numbered
numbers_in = flat_map (λ (s : StmtFacts). s.numbers)

-- the numbers of a statement of one part, of two, and of a `for`
one_part : (own xs : List Numbered) → own ++ (xs ++ []) ≡ own ++ xs
one_part own xs = ap (λ xs. own ++ xs) (append-nil xs)

two_parts : (own xs ys : List Numbered) → own ++ (xs ++ (ys ++ [])) ≡ (own ++ xs) ++ ys
two_parts own xs ys = ap (λ ys. own ++ (xs ++ ys)) (append-nil ys) ∙ sym (append_assoc own xs ys)

for_parts : (own : List Numbered) (first step : List StmtFacts) (body : StmtFacts)
    → own ++ numbers_in (first ++ step ++ body ∷ [])
    ≡ ((own ++ numbers_in first) ++ numbers_in step) ++ body.numbers
for_parts own first step body =
    let xs = numbers_in first in let ys = numbers_in step in
    ap (λ ns. own ++ ns) (flat_map-append (λ (s : StmtFacts). s.numbers) (first ++ step) (body ∷ [])
    ∙ ap (λ ns. ns ++ (body.numbers ++ [])) (flat_map-append (λ (s : StmtFacts). s.numbers) first step)
    ∙ ap (λ ns. (xs ++ ys) ++ ns) (append-nil body.numbers))
    ∙ sym (append_assoc own (xs ++ ys) body.numbers)
    ∙ ap (λ ns. ns ++ body.numbers) (sym (append_assoc own xs ys))

module _ (p : Parts) (f : Function) where
  -- a condition and the one statement that it controls
  condition-of : (stmt : StmtId) (when : ExprTree) (body : StmtTree)
      → AreOf (stmt_facts_of p f body).numbers (stmt_nodes body)
      → AreOf (numbered stmt kind.Condition ++ ((stmt_facts_of p f body).numbers ++ []))
      (own_nodes stmt (expr_nodes when) ++ stmt_nodes body)
  condition-of stmt when body h = both-of (numbered stmt kind.Condition)
      ((stmt_facts_of p f body).numbers ++ []) (own_nodes stmt (expr_nodes when)) (stmt_nodes body)
      (own-of stmt kind.Condition (expr_nodes when))
      (one-of (stmt_facts_of p f body).numbers (stmt_nodes body) h)

  mutual
    pub stmt-of : (s : StmtTree) → AreOf (stmt_facts_of p f s).numbers (stmt_nodes s)
    stmt-of (tree.block body) = stmts-of body
    stmt-of (tree.declare v) = λ n none. refl
    stmt-of (tree.init stmt v e) = own-of stmt kind.Initialiser (expr_nodes e)
    stmt-of (tree.init_array stmt v es) = own-of stmt kind.Initialiser (flat_map expr_nodes es)
    stmt-of (tree.assign stmt v e) = own-of stmt kind.Assignment (expr_nodes e)
    stmt-of (tree.store stmt v index e) = own-of stmt kind.Store (expr_nodes index ++ expr_nodes e)
    stmt-of (tree.if_then stmt when a) = condition-of stmt when a (stmt-of a)
    stmt-of (tree.if_else stmt when a b) =
        let own = own_nodes stmt (expr_nodes when) in
        let o = numbered stmt kind.Condition in
        let xs = (stmt_facts_of p f a).numbers in
        let ys = (stmt_facts_of p f b).numbers in
        subst (λ ns. AreOf ns ((own ++ stmt_nodes a) ++ stmt_nodes b)) (sym (two_parts o xs ys))
        (both-of (o ++ xs) ys (own ++ stmt_nodes a) (stmt_nodes b)
        (both-of o xs own (stmt_nodes a) (own-of stmt kind.Condition (expr_nodes when)) (stmt-of a))
        (stmt-of b))
    stmt-of (tree.switch stmt t on starts other body) =
        both-of (numbered stmt kind.Switch) (numbers_in (stmts_facts_of p f body))
        (own_nodes stmt (expr_nodes on)) (stmts_nodes body)
        (own-of stmt kind.Switch (expr_nodes on)) (stmts-of body)
    stmt-of (tree.while_loop stmt when body) = condition-of stmt when body (stmt-of body)
    stmt-of (tree.do_while stmt when body) = condition-of stmt when body (stmt-of body)
    stmt-of (tree.for_loop stmt first when step body) =
        let own = own_nodes stmt (expr_nodes when) in
        let o = numbered stmt kind.Condition in
        let fs = stmts_facts_of p f first in
        let ss = stmts_facts_of p f step in
        let b = stmt_facts_of p f body in
        subst (λ ns. AreOf ns (((own ++ stmts_nodes first) ++ stmts_nodes step) ++ stmt_nodes body))
        (sym (for_parts o fs ss b))
        (both-of ((o ++ numbers_in fs) ++ numbers_in ss) b.numbers
        ((own ++ stmts_nodes first) ++ stmts_nodes step) (stmt_nodes body)
        (both-of (o ++ numbers_in fs) (numbers_in ss) (own ++ stmts_nodes first) (stmts_nodes step)
        (both-of o (numbers_in fs) own (stmts_nodes first) (own-of stmt kind.Condition (expr_nodes when))
        (stmts-of first)) (stmts-of step)) (stmt-of body))
    stmt-of tree.break_loop = λ n none. refl
    stmt-of tree.continue_loop = λ n none. refl
    stmt-of (tree.return_value stmt e) = own-of stmt kind.Return (expr_nodes e)
    stmt-of tree.return_none = λ n none. refl
    stmt-of (tree.call_stmt stmt c g args) = own-of stmt kind.Call (flat_map arg_nodes args)
    stmt-of (tree.print stmt es) = own-of stmt kind.Call (flat_map expr_nodes es)
    stmt-of (tree.assert stmt when) = own-of stmt kind.Assert (expr_nodes when)

    pub stmts-of : (ss : StmtTrees) → AreOf (numbers_in (stmts_facts_of p f ss)) (stmts_nodes ss)
    stmts-of tree.no_stmts = λ n none. refl
    stmts-of (tree.stmt_then s ss) = both-of (stmt_facts_of p f s).numbers
        (numbers_in (stmts_facts_of p f ss)) (stmt_nodes s) (stmts_nodes ss) (stmt-of s) (stmts-of ss)

  pub body-of : (ss : List StmtTree) → AreOf (numbers_in (map (stmt_facts_of p f) ss)) (body_nodes ss)
  body-of [] = λ n none. refl
  body-of (s ∷ ss) = both-of (stmt_facts_of p f s).numbers (numbers_in (map (stmt_facts_of p f) ss))
      (stmt_nodes s) (body_nodes ss) (stmt-of s) (body-of ss)

-- WHERE AN EDIT SUITS: the statements of these nodes have numbers that differ, and the edit's change is one
-- of its node in the statement of its number
pub record Suitable (edit : Edit) (xs : List Numbered) (nodes : List StmtNode) : Type 0 where
  pub suits : Suits edit.change edit.node (nodes_of edit.stmt.0 nodes)
  pub once : differ xs ≡ true

module _ (edit : Edit) where
  abbrev SuitsHere : List EditableNode → Type 0
  SuitsHere = Suits edit.change edit.node

  -- of both parts, by whether the first ones have the edit's number
  suits-rest : (xs ys : List Numbered) (ms ns : List StmtNode) → AreOf xs ms → AreOf ys ns
      → differ (xs ++ ys) ≡ true
      → SuitsHere (nodes_of edit.stmt.0 ms ++ nodes_of edit.stmt.0 ns) → SuitsHere (nodes_of edit.stmt.0 ns)
  suits-rest xs ys ms ns h k once joined = by (has edit.stmt.0 xs) refl where
    by : (b : Bool) → has edit.stmt.0 xs ≡ b → SuitsHere (nodes_of edit.stmt.0 ns)
    by true is = subst SuitsHere (sym (k edit.stmt.0 (apart edit.stmt.0 xs ys once is))) tt
    by false is = subst (λ here. SuitsHere (here ++ nodes_of edit.stmt.0 ns)) (h edit.stmt.0 is) joined

  pub split : (xs ys : List Numbered) (ms ns : List StmtNode) → AreOf xs ms → AreOf ys ns
      → Suitable edit (xs ++ ys) (ms ++ ns) → Suitable edit xs ms × Suitable edit ys ns
  split xs ys ms ns h k suit =
      let joined = subst SuitsHere (nodes-append edit.stmt.0 ms ns) suit.suits in (
        record {
          suits = suits-left edit.change edit.node (nodes_of edit.stmt.0 ms) (nodes_of edit.stmt.0 ns) joined;
          once = differ-left xs ys suit.once;
        },
        record {
          suits = suits-rest xs ys ms ns h k suit.once joined;
          once = differ-right xs ys suit.once;
        },
      )

  -- in the statement's own expressions
  own-suits : (stmt : StmtId) (k : StmtKind) (nodes : List EditableNode)
      → Suitable edit (numbered stmt k) (own_nodes stmt nodes)
      → Suits edit.change (node_in edit stmt) nodes
  own-suits stmt k nodes suit = by (stmt.0 == edit.stmt.0) refl where
    by : (b : Bool) → (stmt.0 == edit.stmt.0) ≡ b
        → Suits edit.change (if b then edit.node else 0) nodes
    by true is = subst SuitsHere (own-same edit.stmt.0 stmt nodes is) suit.suits
    by false is = suits-none edit.change nodes

-- THE FACTS AND THE UNITS of an edited statement

pub record StmtStays (p q : Parts) (f g : Function) (after before : StmtTree) : Type 0 where
  pub facts : stmt_facts_of q g after ≡ stmt_facts_of p f before
  pub units : (turns : ℕ) (bodies : Bodies)
      → stmt_units p.variables turns bodies after ≡ stmt_units p.variables turns bodies before

pub record StmtsStay (p q : Parts) (f g : Function) (after before : StmtTrees) : Type 0 where
  pub facts : stmts_facts_of q g after ≡ stmts_facts_of p f before
  pub units : (turns : ℕ) (bodies : Bodies)
      → stmts_units p.variables turns bodies after ≡ stmts_units p.variables turns bodies before

-- what the statements of a body cost
abbrev pub body_units : List Variable → ℕ → Bodies → Lengths → List StmtTree → List ℕ
body_units variables turns bodies lengths = map (λ s. stmt_units variables turns bodies s lengths)

pub record BodyStays (p q : Parts) (f g : Function) (after before : List StmtTree) : Type 0 where
  pub facts : map (stmt_facts_of q g) after ≡ map (stmt_facts_of p f) before
  pub units : (turns : ℕ) (bodies : Bodies) (lengths : Lengths)
      → body_units p.variables turns bodies lengths after ≡ body_units p.variables turns bodies lengths before

-- what a condition says, by the facts of its expression and of its parts
abbrev condition : StmtId → Bool → ExprFacts → List StmtFacts → StmtFacts
condition stmt meets e parts = around (leaf_facts (numbered stmt kind.Condition) (e ∷ []) meets) parts

for-sound : (first step : List StmtFacts) (body : StmtFacts)
    → list_all (λ (s : StmtFacts). s.is_sound) (first ++ step ++ body ∷ []) ≡ true
    → (list_all (λ (s : StmtFacts). s.is_sound) first ≡ true)
    × (list_all (λ (s : StmtFacts). s.is_sound) step ≡ true) × (body.is_sound ≡ true)
for-sound first step body h =
    let sound = λ (s : StmtFacts). s.is_sound in
    let all = both _ _ (sym (list_all-append sound (first ++ step) (body ∷ [])) ∙ h) in
    let heads = both _ _ (sym (list_all-append sound first step) ∙ all.0) in
    (heads.0, heads.1, (both _ _ all.1).0)

module _ (p : Parts) (inits : List Stmt) (functions : List Function)
    (same : HasSameHeads p (with_bodies p inits functions)) (edit : Edit) (f g : Function)
    (results : g.result ≡ f.result) (locals : g.locals ≡ f.locals) where
  abbrev q : Parts
  q = with_bodies p inits functions

  -- the first expression of a statement, which has only this one
  own-kept : (stmt : StmtId) (k : StmtKind) (e : ExprTree)
      → Suitable edit (numbered stmt k) (own_nodes stmt (expr_nodes e))
      → (facts_of p e).is_sound ≡ true → Stays p q (changed_in edit stmt e) e
  own-kept stmt k e suit s = expr-kept p inits functions same edit.change (node_in edit stmt) e
      (own-suits edit stmt k (expr_nodes e) suit) s

  -- a condition and the one statement that it controls
  condition-split : (stmt : StmtId) (when : ExprTree) (body : StmtTree)
      → Suitable edit (numbered stmt kind.Condition ++ ((stmt_facts_of p f body).numbers ++ []))
      (own_nodes stmt (expr_nodes when) ++ stmt_nodes body)
      → Suitable edit (numbered stmt kind.Condition) (own_nodes stmt (expr_nodes when))
      × Suitable edit (stmt_facts_of p f body).numbers (stmt_nodes body)
  condition-split stmt when body h =
      let own = own_nodes stmt (expr_nodes when) in
      let o = numbered stmt kind.Condition in
      let xs = (stmt_facts_of p f body).numbers in
      split edit o xs own (stmt_nodes body) (own-of stmt kind.Condition (expr_nodes when)) (stmt-of p f body)
      (subst (λ ns. Suitable edit ns (own ++ stmt_nodes body)) (one_part o xs) h)

  mutual
    pub stmt-kept : (s : StmtTree) → Suitable edit (stmt_facts_of p f s).numbers (stmt_nodes s)
        → (stmt_facts_of p f s).is_sound ≡ true
        → StmtStays p q f g (changed_stmt edit s) s
    stmt-kept (tree.block body) h s =
        let each = stmts-kept body h s in
        record {
          facts = λ i. around (leaf_facts [] [] true) (each.facts i);
          units = λ turns bodies i lengths. all_units (each.units turns bodies i) lengths;
        }
    stmt-kept (tree.declare v) h s =
        record {
          facts = λ i. naming v (leaf_facts [] [] (has_variable (locals i) v));
          units = λ turns bodies. refl;
        }
    stmt-kept (tree.init stmt v e) h s =
        let all = both _ _ s in
        let wholes = both _ _ all.1 in
        let whole = both _ _ wholes.0 in
        let x = own-kept stmt kind.Initialiser e h whole.0 in
        record {
          facts = λ i. initialising v (leaf_facts (numbered stmt kind.Initialiser) (x.facts i ∷ [])
              (is_value p v && fits_type (type_at p v) (x.facts i)));
          units = λ turns bodies i lengths. x.units bodies i lengths;
        }
    stmt-kept (tree.init_array stmt v es) h s =
        let all = both _ _ s in
        let each = exprs-kept p inits functions same edit.change (node_in edit stmt) es
        (own-suits edit stmt kind.Initialiser (flat_map expr_nodes es) h) all.1 in
        record {
          facts = λ i. array_init_facts p stmt v (each.facts i);
          units = λ turns bodies i lengths. sum (each.units bodies lengths i);
        }
    stmt-kept (tree.assign stmt v e) h s =
        let all = both _ _ s in
        let wholes = both _ _ all.1 in
        let whole = both _ _ wholes.0 in
        let x = own-kept stmt kind.Assignment e h whole.0 in
        record {
          facts = λ i. naming v (leaf_facts (numbered stmt kind.Assignment) (x.facts i ∷ [])
              (is_value p v && fits_type (type_at p v) (x.facts i)));
          units = λ turns bodies i lengths. 1 + x.units bodies i lengths;
        }
    stmt-kept (tree.store stmt v index e) h s =
        let all = both _ _ s in
        let wholes = both _ _ all.1 in
        let first = both _ _ wholes.0 in
        let others = both _ _ wholes.1 in
        let second = both _ _ others.0 in
        let own = own-suits edit stmt kind.Store (expr_nodes index ++ expr_nodes e) h in
        let k = node_in edit stmt in
        let x = expr-kept p inits functions same edit.change k index
        (suits-left edit.change k (expr_nodes index) (expr_nodes e) own) first.0 in
        let y = expr-kept p inits functions same edit.change (k - length (expr_nodes index)) e
        (suits-right edit.change k (expr_nodes index) (expr_nodes e) own) second.0 in
        record {
          facts = λ i. naming v (leaf_facts (numbered stmt kind.Store) (x.facts i ∷ y.facts i ∷ [])
              (is_array p v && is_promoted (x.facts i).t && fits_type (type_at p v) (y.facts i)));
          units = λ turns bodies i lengths. 1 + element_units (length_at lengths v) + x.units bodies i lengths
              + y.units bodies i lengths;
        }
    stmt-kept (tree.if_then stmt when a) h s =
        let all = both _ _ s in
        let wholes = both _ _ all.0 in
        let whole = both _ _ wholes.0 in
        let inner = both _ _ all.1 in
        let parts = condition-split stmt when a h in
        let x = own-kept stmt kind.Condition when parts.0 whole.0 in
        let y = stmt-kept a parts.1 inner.0 in
        record {
          facts = λ i. condition stmt true (x.facts i) (y.facts i ∷ []);
          units = λ turns bodies i lengths. 1 + x.units bodies i lengths + y.units turns bodies i lengths + 0;
        }
    stmt-kept (tree.if_else stmt when a b) h s =
        let all = both _ _ s in
        let wholes = both _ _ all.0 in
        let whole = both _ _ wholes.0 in
        let inner = both _ _ all.1 in
        let other = both _ _ inner.1 in
        let own = own_nodes stmt (expr_nodes when) in
        let o = numbered stmt kind.Condition in
        let xs = (stmt_facts_of p f a).numbers in
        let ys = (stmt_facts_of p f b).numbers in
        let halves = split edit (o ++ xs) ys (own ++ stmt_nodes a) (stmt_nodes b)
        (both-of o xs own (stmt_nodes a) (own-of stmt kind.Condition (expr_nodes when)) (stmt-of p f a))
        (stmt-of p f b)
        (subst (λ ns. Suitable edit ns ((own ++ stmt_nodes a) ++ stmt_nodes b)) (two_parts o xs ys) h) in
        let front = split edit o xs own (stmt_nodes a) (own-of stmt kind.Condition (expr_nodes when))
        (stmt-of p f a) halves.0 in
        let x = own-kept stmt kind.Condition when front.0 whole.0 in
        let y = stmt-kept a front.1 inner.0 in
        let z = stmt-kept b halves.1 other.0 in
        record {
          facts = λ i. condition stmt true (x.facts i) (y.facts i ∷ z.facts i ∷ []);
          units = λ turns bodies i lengths. 1 + x.units bodies i lengths + y.units turns bodies i lengths
              + z.units turns bodies i lengths;
        }
    stmt-kept (tree.switch stmt t on starts other body) h s =
        let all = both _ _ s in
        let own_tests = both _ _ all.0 in
        let wholes = both _ _ own_tests.1 in
        let whole = both _ _ wholes.0 in
        let parts = split edit (numbered stmt kind.Switch) (numbers_in (stmts_facts_of p f body))
        (own_nodes stmt (expr_nodes on)) (stmts_nodes body)
        (own-of stmt kind.Switch (expr_nodes on)) (stmts-of p f body) h in
        let x = own-kept stmt kind.Switch on parts.0 whole.0 in
        let y = stmts-kept body parts.1 all.1 in
        record {
          facts = λ i. as_switch (around (leaf_facts (numbered stmt kind.Switch) (x.facts i ∷ [])
              (is_promoted t && fits_type t (x.facts i) && are_labels t (length (y.facts i)) starts other))
              (y.facts i));
          units = λ turns bodies i lengths. 1 + x.units bodies i lengths + length starts
              + all_units (y.units turns bodies i) lengths;
        }
    stmt-kept (tree.while_loop stmt when body) h s =
        let all = both _ _ s in
        let wholes = both _ _ all.0 in
        let whole = both _ _ wholes.0 in
        let inner = both _ _ all.1 in
        let parts = condition-split stmt when body h in
        let x = own-kept stmt kind.Condition when parts.0 whole.0 in
        let y = stmt-kept body parts.1 inner.0 in
        record {
          facts = λ i. as_loop (condition stmt true (x.facts i) (y.facts i ∷ []));
          units = λ turns bodies i lengths. loop_units turns (1 + x.units bodies i lengths)
              (y.units turns bodies i lengths) 0;
        }
    stmt-kept (tree.do_while stmt when body) h s =
        let all = both _ _ s in
        let wholes = both _ _ all.0 in
        let whole = both _ _ wholes.0 in
        let inner = both _ _ all.1 in
        let parts = condition-split stmt when body h in
        let x = own-kept stmt kind.Condition when parts.0 whole.0 in
        let y = stmt-kept body parts.1 inner.0 in
        record {
          facts = λ i. as_loop (condition stmt true (x.facts i) (y.facts i ∷ []));
          units = λ turns bodies i lengths. loop_units turns (1 + x.units bodies i lengths)
              (y.units turns bodies i lengths) 0;
        }
    stmt-kept (tree.for_loop stmt first when step body) h s =
        let all = both _ _ s in
        let own_tests = both _ _ all.0 in
        let wholes = both _ _ own_tests.1 in
        let whole = both _ _ wholes.0 in
        let own = own_nodes stmt (expr_nodes when) in
        let o = numbered stmt kind.Condition in
        let fs = stmts_facts_of p f first in
        let ss = stmts_facts_of p f step in
        let b = stmt_facts_of p f body in
        let is = own-of stmt kind.Condition (expr_nodes when) in
        let heads = both-of o (numbers_in fs) own (stmts_nodes first) is (stmts-of p f first) in
        let ends = split edit ((o ++ numbers_in fs) ++ numbers_in ss) b.numbers
        ((own ++ stmts_nodes first) ++ stmts_nodes step) (stmt_nodes body)
        (both-of (o ++ numbers_in fs) (numbers_in ss) (own ++ stmts_nodes first) (stmts_nodes step)
        heads (stmts-of p f step)) (stmt-of p f body)
        (subst (λ ns. Suitable edit ns
        (((own ++ stmts_nodes first) ++ stmts_nodes step) ++ stmt_nodes body))
        (for_parts o fs ss b) h) in
        let inner = split edit (o ++ numbers_in fs) (numbers_in ss) (own ++ stmts_nodes first)
        (stmts_nodes step) heads (stmts-of p f step) ends.0 in
        let front = split edit o (numbers_in fs) own (stmts_nodes first) is (stmts-of p f first) inner.0 in
        let sounds = for-sound fs ss b all.1 in
        let x = own-kept stmt kind.Condition when front.0 whole.0 in
        let y = stmts-kept first front.1 sounds.0 in
        let z = stmts-kept step inner.1 sounds.1 in
        let w = stmt-kept body ends.1 sounds.2 in
        record {
          facts = λ i. as_loop (condition stmt (are_simple (y.facts i) && are_simple (z.facts i)) (x.facts i)
              (y.facts i ++ z.facts i ++ w.facts i ∷ []));
          units = λ turns bodies i lengths. all_units (y.units turns bodies i) lengths
              + loop_units turns (1 + x.units bodies i lengths) (w.units turns bodies i lengths)
              (all_units (z.units turns bodies i) lengths);
        }
    stmt-kept tree.break_loop h s = record { facts = refl; units = λ turns bodies. refl }
    stmt-kept tree.continue_loop h s = record { facts = refl; units = λ turns bodies. refl }
    stmt-kept (tree.return_value stmt e) h s =
        let all = both _ _ s in
        let wholes = both _ _ all.1 in
        let whole = both _ _ wholes.0 in
        let x = own-kept stmt kind.Return e h whole.0 in
        record {
          facts = λ i. leaf_facts (numbered stmt kind.Return) (x.facts i ∷ []) (holds (λ t. fits_type t
              (x.facts i)) (results i));
          units = λ turns bodies i lengths. 1 + x.units bodies i lengths;
        }
    stmt-kept tree.return_none h s = record { facts = refl; units = λ turns bodies. refl }
    stmt-kept (tree.call_stmt stmt c callee args) h s =
        let all = both _ _ s in
        let each = arg-list-kept p inits functions same edit.change (node_in edit stmt) args
        (own-suits edit stmt kind.Call (flat_map arg_nodes args) h) all.1 in
        record {
          facts = λ i. calling c (leaf_facts (numbered stmt kind.Call) (givens (each.facts i)) (same.calls
              callee (each.facts i) i));
          units = λ turns bodies i lengths. 1 + call_units bodies callee (each.units bodies lengths i);
        }
    stmt-kept (tree.print stmt es) h s =
        let each = exprs-kept p inits functions same edit.change (node_in edit stmt) es
        (own-suits edit stmt kind.Call (flat_map expr_nodes es) h) s in
        record {
          facts = λ i. leaf_facts (numbered stmt kind.Call) (each.facts i) true;
          units = λ turns bodies i lengths. 1 + sum (each.units bodies lengths i);
        }
    stmt-kept (tree.assert stmt when) h s =
        let wholes = both _ _ s in
        let whole = both _ _ wholes.0 in
        let x = own-kept stmt kind.Assert when h whole.0 in
        record {
          facts = λ i. leaf_facts (numbered stmt kind.Assert) (x.facts i ∷ []) true;
          units = λ turns bodies i lengths. 1 + x.units bodies i lengths;
        }

    pub stmts-kept : (ss : StmtTrees) → Suitable edit (numbers_in (stmts_facts_of p f ss)) (stmts_nodes ss)
        → list_all (λ (s : StmtFacts). s.is_sound) (stmts_facts_of p f ss) ≡ true
        → StmtsStay p q f g (changed_stmts edit ss) ss
    stmts-kept tree.no_stmts h s = record { facts = refl; units = λ turns bodies. refl }
    stmts-kept (tree.stmt_then a ss) h s =
        let parts = split edit (stmt_facts_of p f a).numbers (numbers_in (stmts_facts_of p f ss))
        (stmt_nodes a) (stmts_nodes ss) (stmt-of p f a) (stmts-of p f ss) h in
        let all = both _ _ s in
        let x = stmt-kept a parts.0 all.0 in
        let y = stmts-kept ss parts.1 all.1 in
        record {
          facts = λ i. x.facts i ∷ y.facts i;
          units = λ turns bodies i. x.units turns bodies i ∷ y.units turns bodies i;
        }

  pub body-kept : (ss : List StmtTree)
      → Suitable edit (numbers_in (map (stmt_facts_of p f) ss)) (body_nodes ss)
      → list_all (λ (s : StmtFacts). s.is_sound) (map (stmt_facts_of p f) ss) ≡ true
      → BodyStays p q f g (map (changed_stmt edit) ss) ss
  body-kept [] h s = record { facts = refl; units = λ turns bodies lengths. refl }
  body-kept (a ∷ ss) h s =
      let parts = split edit (stmt_facts_of p f a).numbers (numbers_in (map (stmt_facts_of p f) ss))
      (stmt_nodes a) (body_nodes ss) (stmt-of p f a) (body-of p f ss) h in
      let all = both _ _ s in
      let x = stmt-kept a parts.0 all.0 in
      let y = body-kept ss parts.1 all.1 in
      record {
        facts = λ i. x.facts i ∷ y.facts i;
        units = λ turns bodies lengths i. x.units turns bodies i lengths ∷ y.units turns bodies lengths i;
      }
