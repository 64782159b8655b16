-- How deep statements nest in a typed tree.
use Rattle.std.proofs.Common.{◌≡◌, ℕ, ◌+◌, ◌≤◌, max, Bool, true, List, [], ◌∷◌, ◌++◌, map, refl, sym, ◌∙◌, ap, arith, nat_le}
use Rattle.std.specs.List.{list_all}
use Rattle.std.proofs.lemmas.Bool.{le-leb, leb-true}
use Rattle.std.proofs.lemmas.List.{map-append}
use Rattle.ba_tree.specs.Facts.{StmtFacts, greatest, body_facts}
use Rattle.ba_tree.specs.declared.tree.Function.{Function}
use Rattle.ba_tree.specs.declared.tree.Parts.{Parts}
use Rattle.ba_tree.specs.Trees.{StmtTree, StmtTrees, FunctionTree, ProgramTree, stmts_of, tree_of_stmt}
use Rattle.ba_tree.specs.Trees as tree
use Rattle.ba_typing_facts.proofs.StatementTreeFacts.{stmt_facts_of, stmts_facts_of, stmts_facts-map, all_facts_are}

abbrev mutual
  pub depth_of : StmtTree → ℕ
  depth_of (tree.block body) = 1 + deepest body
  depth_of (tree.if_then stmt when a) = 1 + depth_of a
  depth_of (tree.if_else stmt when a b) = 1 + max (depth_of a) (depth_of b)
  depth_of (tree.switch stmt t on starts other body) = 1 + deepest body
  depth_of (tree.while_loop stmt when body) = 1 + depth_of body
  depth_of (tree.do_while stmt when body) = 1 + depth_of body
  depth_of (tree.for_loop stmt first when step body) =
      1 + max (deepest first) (max (deepest step) (depth_of body))
  depth_of _ = 1

  pub deepest : StmtTrees → ℕ
  deepest tree.no_stmts = 0
  deepest (tree.stmt_then s ss) = max (depth_of s) (deepest ss)

-- statements nest at most 100 deep in each function's body
abbrev pub is_shallow : ProgramTree → Bool
is_shallow t = list_all (λ (f : FunctionTree). nat_le (deepest (stmts_of f.body)) 100) t.functions

pub greatest-append : (ms ns : List ℕ) → greatest (ms ++ ns) ≡ max (greatest ms) (greatest ns)
greatest-append [] ns = omega arith
greatest-append (m ∷ ms) ns = let rest = greatest-append ms ns in omega (arith, rest)

module _ (p : Parts) (f : Function) where
  abbrev depths : List StmtFacts → List ℕ
  depths = map (λ (s : StmtFacts). s.depth)

  for_depths : (first step : List StmtFacts) (body : StmtFacts)
      → greatest (depths (first ++ step ++ body ∷ []))
      ≡ max (greatest (depths first)) (max (greatest (depths step)) body.depth)
  for_depths first step body =
      ap greatest (map-append (λ (s : StmtFacts). s.depth) (first ++ step) (body ∷ [])
      ∙ ap (λ ns. ns ++ (body.depth ∷ [])) (map-append (λ (s : StmtFacts). s.depth) first step))
      ∙ (let all = greatest-append (depths first ++ depths step) (body.depth ∷ []) in
      let both = greatest-append (depths first) (depths step) in omega (arith, all, both))

  mutual
    depth_is : (s : StmtTree) → (stmt_facts_of p f s).depth ≡ depth_of s
    depth_is (tree.block body) = ap (λ n. 1 + n) (deepest_is body)
    depth_is (tree.declare v) = refl
    depth_is (tree.init stmt v e) = refl
    depth_is (tree.init_array stmt v es) = refl
    depth_is (tree.assign stmt v e) = refl
    depth_is (tree.store stmt v i e) = refl
    depth_is (tree.if_then stmt when a) = let h = depth_is a in omega (arith, h)
    depth_is (tree.if_else stmt when a b) = let h = depth_is a in let k = depth_is b in omega (arith, h, k)
    depth_is (tree.switch stmt t on starts other body) = ap (λ n. 1 + n) (deepest_is body)
    depth_is (tree.while_loop stmt when body) = let h = depth_is body in omega (arith, h)
    depth_is (tree.do_while stmt when body) = let h = depth_is body in omega (arith, h)
    depth_is (tree.for_loop stmt first when step body) =
        let all = for_depths (stmts_facts_of p f first) (stmts_facts_of p f step) (stmt_facts_of p f body) in
        let h = deepest_is first in let k = deepest_is step in let l = depth_is body in omega
        (arith, all, h, k, l)
    depth_is tree.break_loop = refl
    depth_is tree.continue_loop = refl
    depth_is (tree.return_value stmt e) = refl
    depth_is tree.return_none = refl
    depth_is (tree.call_stmt stmt c g args) = refl
    depth_is (tree.print stmt es) = refl
    depth_is (tree.assert stmt when) = refl

    deepest_is : (ss : StmtTrees) → greatest (depths (stmts_facts_of p f ss)) ≡ deepest ss
    deepest_is tree.no_stmts = refl
    deepest_is (tree.stmt_then s ss) = let h = depth_is s in let k = deepest_is ss in omega (arith, h, k)

-- so the body of a function is no deeper than its tree says
pub body_depth : (p : Parts) (f : Function) → nat_le (deepest (stmts_of (map tree_of_stmt f.body))) 100 ≡ true
    → nat_le (body_facts p f).depth 101 ≡ true
body_depth p f h =
    let few = leb-true (deepest (stmts_of (map tree_of_stmt f.body))) 100 h in
    let same : greatest (depths p f (map (Rattle.ba_tree.specs.Facts.stmt_facts p f) f.body)) ≡ deepest
    (stmts_of (map tree_of_stmt f.body)) =
    (ap (λ ss. greatest (depths p f ss)) (all_facts_are p f f.body ∙ sym (stmts_facts-map p f
    (map tree_of_stmt f.body)))
    ∙ deepest_is p f (stmts_of (map tree_of_stmt f.body))) in
    le-leb (body_facts p f).depth 101 (let e : (body_facts p f).depth ≤ 101 = omega (arith, few, same) in e)
