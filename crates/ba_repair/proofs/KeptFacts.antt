-- An edited expression has the facts that it had, and costs as much.
use Rattle.std.proofs.Common.{◌≡◌, ℕ, ◌+◌, ◌-◌, Bool, true, ◌&&◌, cond, Option, None, Some, List, [], ◌∷◌, ◌++◌, map, flat_map, length, refl, sym, ◌∙◌}
use Rattle.std.specs.Prelude.{unwrap_or}
use Rattle.std.specs.List.{list_all}
use Rattle.std.specs.Option.{is_some}
use Rattle.ba_numbers.specs.Types.{is_promoted, same_type, type_of_unary}
use Rattle.ba_numbers.specs.declared.ids.FnId.{FnId}
use Rattle.ba_numbers.specs.declared.numbers.CType.{CType}
use Rattle.ba_numbers.specs.declared.numbers.CType.TheVariants.{I32}
use Rattle.ba_tree.proofs.Tests.{both}
use Rattle.ba_tree.specs.Facts.{ArgFacts, ExprFacts, are_sound, givens, is_array, is_call, is_whole, operator_facts, result_at, type_at, with_call, with_variable}
use Rattle.ba_tree.specs.Trees.{ArgTree, ArgTrees, ExprTree}
use Rattle.ba_tree.specs.Trees as tree
use Rattle.ba_tree.specs.Units.{Bodies, Lengths, call_units, element_units, length_at}
use Rattle.ba_tree.specs.declared.tree.Function.{Function}
use Rattle.ba_tree.specs.declared.tree.Parts.{Parts}
use Rattle.ba_tree.specs.declared.tree.Stmt.{Stmt}
use Rattle.ba_tree_laws.proofs.TreeUnits.{arg_units, args_units, expr_units}
use Rattle.ba_typing_facts.proofs.TreeFacts.{arg_facts_of, args_facts_of, facts_of}
use Rattle.ba_repair.specs.Changes.{change_here, changed_and, changed_arg_list, changed_args, changed_expr, changed_exprs, changed_or}
use Rattle.ba_repair.specs.Nodes.{arg_nodes, args_nodes, expr_nodes, operator_nodes}
use Rattle.ba_repair.specs.declared.listing.Change.{Change}
use Rattle.ba_repair.specs.declared.listing.Change.TheVariants as change
use Rattle.ba_repair.proofs.OwnChanges.{Suits, changed-in, first-part, like-operator, second-part, suits-last, suits-left, suits-right}

-- the parts with other initialisers and functions
abbrev pub with_bodies : Parts → List Stmt → List Function → Parts
with_bodies p inits functions = record p { inits = inits; functions = functions }

-- functions have the results and parameters that they had
pub record HasSameHeads (p q : Parts) : Type 0 where
  pub results : (f : FnId) → result_at q f ≡ result_at p f
  pub calls : (f : FnId) (args : List ArgFacts) → is_call q f args ≡ is_call p f args

-- a binary operator by its tests
abbrev binary_facts : Bool → Bool → CType → ExprFacts → ExprFacts → ExprFacts
binary_facts compare shift t a b = operator_facts (cond compare I32 t) (a ∷ b ∷ [])
    (is_promoted t && same_type a.t t && cond shift (is_promoted b.t) (same_type b.t t))

-- EXPRESSIONS that stay as they were, but for values and operators
pub record Stays (p q : Parts) (after before : ExprTree) : Type 0 where
  pub facts : facts_of q after ≡ facts_of p before
  pub units : (bodies : Bodies) → expr_units bodies after ≡ expr_units bodies before

pub record StayArgs (p q : Parts) (after before : ArgTrees) : Type 0 where
  pub facts : args_facts_of q after ≡ args_facts_of p before
  pub units : (bodies : Bodies) → args_units bodies after ≡ args_units bodies before

pub record StayEach (p q : Parts) (after before : List ExprTree) : Type 0 where
  pub facts : map (facts_of q) after ≡ map (facts_of p) before
  pub units : (bodies : Bodies) (lengths : Lengths)
      → map (λ e. expr_units bodies e lengths) after ≡ map (λ e. expr_units bodies e lengths) before

pub record StayArgList (p q : Parts) (after before : List ArgTree) : Type 0 where
  pub facts : map (arg_facts_of q) after ≡ map (arg_facts_of p) before
  pub units : (bodies : Bodies) (lengths : Lengths)
      → map (λ a. arg_units bodies a lengths) after ≡ map (λ a. arg_units bodies a lengths) before

-- `&&` and `||` say the same of their operands
pub record IsJunction (p : Parts) (whole a b : ExprTree) : Type 0 where
  pub facts : facts_of p whole ≡ operator_facts I32 (facts_of p a ∷ facts_of p b ∷ []) true
  pub units : (bodies : Bodies)
      → expr_units bodies whole ≡ (λ lengths. 1 + expr_units bodies a lengths + expr_units bodies b lengths)

is-and : (p : Parts) (o : Option Change) (a b : ExprTree) → IsJunction p (changed_and o a b) a b
is-and p None a b = record { facts = refl; units = λ bodies. refl }
is-and p (Some (change.Constant from to)) a b = record { facts = refl; units = λ bodies. refl }
is-and p (Some (change.Operator from to)) a b = record { facts = refl; units = λ bodies. refl }
is-and p (Some change.ToOr) a b = record { facts = refl; units = λ bodies. refl }
is-and p (Some change.ToAnd) a b = record { facts = refl; units = λ bodies. refl }

is-or : (p : Parts) (o : Option Change) (a b : ExprTree) → IsJunction p (changed_or o a b) a b
is-or p None a b = record { facts = refl; units = λ bodies. refl }
is-or p (Some (change.Constant from to)) a b = record { facts = refl; units = λ bodies. refl }
is-or p (Some (change.Operator from to)) a b = record { facts = refl; units = λ bodies. refl }
is-or p (Some change.ToOr) a b = record { facts = refl; units = λ bodies. refl }
is-or p (Some change.ToAnd) a b = record { facts = refl; units = λ bodies. refl }

-- of operands that stay
junction-facts : (p q : Parts) (whole a b left right : ExprTree) → IsJunction q whole a b
    → Stays p q a left → Stays p q b right
    → facts_of q whole ≡ operator_facts I32 (facts_of p left ∷ facts_of p right ∷ []) true
junction-facts p q whole a b left right is x y =
    is.facts ∙ (λ i. operator_facts I32 (x.facts i ∷ y.facts i ∷ []) true)

junction-units : (p q : Parts) (whole a b left right : ExprTree) → IsJunction q whole a b
    → Stays p q a left → Stays p q b right → (bodies : Bodies)
    → expr_units bodies whole
    ≡ (λ lengths. 1 + expr_units bodies left lengths + expr_units bodies right lengths)
junction-units p q whole a b left right is x y bodies =
    is.units bodies ∙ (λ i lengths. 1 + x.units bodies i lengths + y.units bodies i lengths)

module _ (p : Parts) (inits : List Stmt) (functions : List Function)
    (same : HasSameHeads p (with_bodies p inits functions)) (c : Change) where
  abbrev q : Parts
  q = with_bodies p inits functions

  mutual
    pub expr-kept : (k : ℕ) (e : ExprTree) → Suits c k (expr_nodes e) → (facts_of p e).is_sound ≡ true
        → Stays p q (changed_expr c k e) e
    expr-kept k (tree.const t z) h s =
        let within = (both _ _ s).0 in
        record {
          facts = λ i. operator_facts t [] ((changed-in c k t z h within ∙ sym within) i);
          units = λ bodies. refl;
        }
    expr-kept k (tree.var v) h s = record { facts = refl; units = λ bodies. refl }
    expr-kept k (tree.element v index) h s =
        let x = expr-kept k index h (first-part _ _ _ s) in
        record {
          facts = λ i. with_variable v (operator_facts (type_at p v) (x.facts i ∷ [])
              (is_array p v && is_promoted (x.facts i).t));
          units = λ bodies i lengths. element_units (length_at lengths v) + x.units bodies i lengths;
        }
    expr-kept k (tree.unary op t a) h s =
        let x = expr-kept k a h (first-part _ _ _ s) in
        record {
          facts = λ i. operator_facts (type_of_unary op t) (x.facts i ∷ [])
              (is_promoted t && same_type (x.facts i).t t);
          units = λ bodies i lengths. 1 + x.units bodies i lengths;
        }
    expr-kept k (tree.binary op t a b) h s =
        let ops = operator_nodes op in
        let front = suits-left c k (ops ++ expr_nodes a) (expr_nodes b) h in
        let like = like-operator c k op (suits-left c k ops (expr_nodes a) front) in
        let x = expr-kept (k - length ops) a (suits-right c k ops (expr_nodes a) front)
        (first-part _ _ _ s) in
        let y = expr-kept (k - length ops - length (expr_nodes a)) b
        (suits-last c k ops (expr_nodes a) (expr_nodes b) h) (second-part _ _ _ _ s) in
        record {
          facts = λ i. binary_facts (like.compare i) (like.shift i) t (x.facts i) (y.facts i);
          units = λ bodies i lengths. like.units i + x.units bodies i lengths + y.units bodies i lengths;
        }
    expr-kept k (tree.and_also a b) h s =
        let x = expr-kept (k - 1) a (suits-left c (k - 1) (expr_nodes a) (expr_nodes b) h.1)
        (both _ _ s).0 in
        let y = expr-kept (k - 1 - length (expr_nodes a)) b
        (suits-right c (k - 1) (expr_nodes a) (expr_nodes b) h.1) (both _ _ (both _ _ s).1).0 in
        let left = changed_expr c (k - 1) a in
        let right = changed_expr c (k - 1 - length (expr_nodes a)) b in
        let whole = changed_and (change_here c k) left right in
        let is = is-and q (change_here c k) left right in
        record {
          facts = junction-facts p q whole left right a b is x y;
          units = junction-units p q whole left right a b is x y;
        }
    expr-kept k (tree.or_else a b) h s =
        let x = expr-kept (k - 1) a (suits-left c (k - 1) (expr_nodes a) (expr_nodes b) h.1)
        (both _ _ s).0 in
        let y = expr-kept (k - 1 - length (expr_nodes a)) b
        (suits-right c (k - 1) (expr_nodes a) (expr_nodes b) h.1) (both _ _ (both _ _ s).1).0 in
        let left = changed_expr c (k - 1) a in
        let right = changed_expr c (k - 1 - length (expr_nodes a)) b in
        let whole = changed_or (change_here c k) left right in
        let is = is-or q (change_here c k) left right in
        record {
          facts = junction-facts p q whole left right a b is x y;
          units = junction-units p q whole left right a b is x y;
        }
    expr-kept k (tree.select t when a b) h s =
        let all = both _ _ s in
        let later = both _ _ all.1 in
        let last = both _ _ later.1 in
        let ends = both _ _ last.1 in
        let front = suits-left c k (expr_nodes when ++ expr_nodes a) (expr_nodes b) h in
        let w = expr-kept k when (suits-left c k (expr_nodes when) (expr_nodes a) front) later.0 in
        let x = expr-kept (k - length (expr_nodes when)) a
        (suits-right c k (expr_nodes when) (expr_nodes a) front) last.0 in
        let y = expr-kept (k - length (expr_nodes when) - length (expr_nodes a)) b
        (suits-last c k (expr_nodes when) (expr_nodes a) (expr_nodes b) h) ends.0 in
        record {
          facts = λ i. operator_facts t (w.facts i ∷ x.facts i ∷ y.facts i ∷ [])
              (is_promoted t && same_type (x.facts i).t t && same_type (y.facts i).t t);
          units = λ bodies i lengths. 1 + w.units bodies i lengths + x.units bodies i lengths
              + y.units bodies i lengths;
        }
    expr-kept k (tree.convert t a) h s =
        let x = expr-kept k a h s in record { facts = λ i. record (x.facts i) { t = t }; units = x.units }
    expr-kept k (tree.call call f args) h s =
        let each = args-kept k args h (both _ _ s).1 in
        record {
          facts = λ i. with_call call (operator_facts (unwrap_or (same.results f i) I32)
              (givens (each.facts i)) (same.calls f (each.facts i) i && is_some (same.results f i)));
          units = λ bodies i lengths. call_units bodies f (each.units bodies i lengths);
        }

    pub args-kept : (k : ℕ) (args : ArgTrees) → Suits c k (args_nodes args)
        → are_sound (givens (args_facts_of p args)) ≡ true
        → StayArgs p q (changed_args c k args) args
    args-kept k tree.no_more h s = record { facts = refl; units = λ bodies. refl }
    args-kept k (tree.value_then e args) h s =
        let x = expr-kept k e (suits-left c k (expr_nodes e) (args_nodes args) h) (both _ _ s).0 in
        let rest = args-kept (k - length (expr_nodes e)) args
        (suits-right c k (expr_nodes e) (args_nodes args) h) (both _ _ s).1 in
        record {
          facts = λ i. record { array = None; given = x.facts i } ∷ rest.facts i;
          units = λ bodies i lengths. record { units = 1 + x.units bodies i lengths; elements = 0 }
              ∷ rest.units bodies i lengths;
        }
    args-kept k (tree.array_then v args) h s =
        let rest = args-kept k args h (both _ _ s).1 in
        record {
          facts = λ i. arg_facts_of p (tree.array v) ∷ rest.facts i;
          units = λ bodies i lengths. record { units = 0; elements = length_at lengths v }
              ∷ rest.units bodies i lengths;
        }

  -- expressions in a row, and arguments, each a whole expression
  pub exprs-kept : (k : ℕ) (es : List ExprTree) → Suits c k (flat_map expr_nodes es)
      → list_all is_whole (map (facts_of p) es) ≡ true
      → StayEach p q (changed_exprs c k es) es
  exprs-kept k [] h s = record { facts = refl; units = λ bodies lengths. refl }
  exprs-kept k (e ∷ es) h s =
      let all = both _ _ s in
      let whole = both _ _ all.0 in
      let x = expr-kept k e (suits-left c k (expr_nodes e) (flat_map expr_nodes es) h) whole.0 in
      let rest = exprs-kept (k - length (expr_nodes e)) es
      (suits-right c k (expr_nodes e) (flat_map expr_nodes es) h) all.1 in
      record {
        facts = λ i. x.facts i ∷ rest.facts i;
        units = λ bodies lengths i. x.units bodies i lengths ∷ rest.units bodies lengths i;
      }

  pub arg-list-kept : (k : ℕ) (args : List ArgTree) → Suits c k (flat_map arg_nodes args)
      → list_all is_whole (givens (map (arg_facts_of p) args)) ≡ true
      → StayArgList p q (changed_arg_list c k args) args
  arg-list-kept k [] h s = record { facts = refl; units = λ bodies lengths. refl }
  arg-list-kept k (tree.value e ∷ args) h s =
      let all = both _ _ s in
      let whole = both _ _ all.0 in
      let x = expr-kept k e (suits-left c k (expr_nodes e) (flat_map arg_nodes args) h) whole.0 in
      let rest = arg-list-kept (k - length (expr_nodes e)) args
      (suits-right c k (expr_nodes e) (flat_map arg_nodes args) h) all.1 in
      record {
        facts = λ i. record { array = None; given = x.facts i } ∷ rest.facts i;
        units = λ bodies lengths i. record { units = 1 + x.units bodies i lengths; elements = 0 }
            ∷ rest.units bodies lengths i;
      }
  arg-list-kept k (tree.array v ∷ args) h s =
      let rest = arg-list-kept (k - 0) args (suits-right c k [] (flat_map arg_nodes args) h) (both _ _ s).1 in
      record {
        facts = λ i. arg_facts_of p (tree.array v) ∷ rest.facts i;
        units = λ bodies lengths i. record { units = 0; elements = length_at lengths v }
            ∷ rest.units bodies lengths i;
      }
