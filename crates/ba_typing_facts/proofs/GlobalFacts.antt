-- Declarators of the file: each statement that they add initialises a global by constants.
use Rattle.std.proofs.Common.{◌≡◌, ℕ, ◌+◌, Bool, true, false, ◌&&◌, not, ◌==◌, cond, Option, None, Some, List, [], ◌∷◌, ◌++◌, map, flat_map, length, refl, sym, ◌∙◌, ap}
use Rattle.std.specs.List.{list_all}
use Rattle.std.specs.Option.{is_some}
use Rattle.std.proofs.lemmas.Bool.{and_from, not-false}
use Rattle.std.proofs.lemmas.List.{map-append}
use Rattle.std.proofs.lemmas.List.Folds.{list_all-append}
use Rattle.ba_numbers.specs.declared.ids.At.{At}
use Rattle.ba_numbers.specs.declared.ids.CallId.{CallId}
use Rattle.ba_numbers.specs.declared.ids.StmtId.{StmtId}
use Rattle.ba_numbers.specs.declared.ids.VarId.{VarId}
use Rattle.ba_numbers.specs.declared.numbers.CType.{CType}
use Rattle.ba_numbers.specs.declared.numbers.CType.TheVariants.{I32}
use Rattle.ba_trees.specs.declared.tree.declarations.Declarator.{Declarator}
use Rattle.ba_trees.specs.declared.tree.declarations.Declarators.{Declarators}
use Rattle.ba_trees.specs.declared.tree.declarations.Initialiser.{Initialiser}
use Rattle.ba_trees.specs.declared.tree.declarations.Initialiser.TheVariants as initialiser
use Rattle.ba_trees.specs.declared.tree.declarations.ListedDeclarator.{ListedDeclarator}
use Rattle.ba_tree.specs.Facts.{ExprFacts, StmtFacts, has_variable, holds, leaf_facts, numbered, initialising, is_value, fits_type, type_at, is_own_array, shape_at, fits_array}
use Rattle.ba_tree.specs.declared.tree.Function.{Function}
use Rattle.ba_tree.specs.declared.tree.Parts.{Parts}
use Rattle.ba_tree.specs.declared.tree.StmtKind.{StmtKind}
use Rattle.ba_tree.specs.declared.tree.StmtKind.TheVariants as kind
use Rattle.ba_typing.specs.Declarations.{Added, ◌and◌, Before, behind, Part, ◌then◌, in_order, next_stmt, add_length, add_variable, add_declare, add_optional_initialiser, add_declarator, add_optional_declarators, init_tree, has_braces, values_of, typed_each, written_count, exceeds, whole_faults, initial_faults, TypedLength}
use Rattle.ba_typing.specs.Expressions.{Typed, typed_conditional, tree_as}
use Rattle.ba_typing.specs.Faults.{fault_if, limit_faults, statement_limit}
use Rattle.ba_typing.specs.Names.{Scope, knowing, name_of}
use Rattle.ba_tree.specs.Trees as tree
use Rattle.ba_typing.specs.declared.fault.Cause.TheVariants.{WrongKind, WrongCount}
use Rattle.ba_typing.specs.declared.meanings.Signature.{Signature}
use Rattle.ba_typing_facts.proofs.AdditionFacts.{Stands, stands_left, stands_right, InScope, in_knowing, HasPiece, all_facts_of}
use Rattle.ba_typing_facts.proofs.DeclarationFacts.{value_typings, declarator_part, number, base, len, declared, void_part, behind_variable, behind_length, target, initialiser_has, length_has, variable_has, declare_has}
use Rattle.ba_typing_facts.proofs.FittingFacts.{operator_fits, nil_left, nil_right}
use Rattle.ba_typing_facts.proofs.LeafFacts.{AreWellTyped, AreWhole, all_initial, each_typed, each_fit}
use Rattle.ba_typing_facts.proofs.PrimaryFacts.{not_so}
use Rattle.ba_typing_facts.proofs.StatementTreeFacts.{stmt_facts_of}
use Rattle.ba_typing_facts.proofs.TreeFacts.{facts_of}
use Rattle.ba_typing_facts.proofs.OperatorFacts.{AreClean, as_typed}

-- an initialiser of one of these variables, without other names and without calls
abbrev pub is_init : List VarId → StmtFacts → Bool
is_init globals s = holds (has_variable globals) s.initialises && (length s.variables == 1) &&
    (length s.calls == 0)

one_init : (globals : List VarId) (v : VarId) (ns : List (StmtId × StmtKind)) (xs : List ExprFacts)
    (meets : Bool)
    → has_variable globals v ≡ true
    → flat_map (λ (x : ExprFacts). x.variables) xs ≡ [] → flat_map (λ (x : ExprFacts). x.calls) xs ≡ []
    → is_init globals (initialising v (leaf_facts ns xs meets)) ≡ true
one_init globals v ns xs meets is_global no_names no_calls = and_from _ _ (and_from _ _ is_global
    (ap (λ (vs : List VarId). length (v ∷ vs) == 1) no_names)) (ap
    (λ (cs : List CallId). length cs == 0) no_calls)

initial_constant : (at : At) (is_global : Bool) (es : List Typed) → is_global ≡ true
    → flat_map (initial_faults at is_global) es ≡ [] → list_all (λ (e : Typed). e.is_constant) es ≡ true
initial_constant at is_global [] is h = refl
initial_constant at is_global (e ∷ es) is h =
    let own = initial_faults at is_global e in
    let rest = flat_map (initial_faults at is_global) es in
    let constant_fault = fault_if (is_global && not e.is_constant) WrongKind at in
    and_from _ _ (not-false e.is_constant (ap (λ b. b && not e.is_constant) (sym is)
    ∙ not_so (is_global && not e.is_constant) WrongKind at
    (nil_right (whole_faults at e) constant_fault (nil_left own rest h))))
    (initial_constant at is_global es is (nil_right own rest h))

module _ (p : Parts) (globals : List VarId) (f : Function) where
  abbrev AreInits : Added → Type 0
  AreInits a = list_all (is_init globals) (all_facts_of p f a.stmts) ≡ true

  inits-and : (a b : Added) → AreInits a → AreInits b → AreInits (a and b)
  inits-and a b h k = ap (list_all (is_init globals)) (map-append (stmt_facts_of p f) a.stmts b.stmts)
      ∙ list_all-append (is_init globals) (all_facts_of p f a.stmts) (all_facts_of p f b.stmts)
      ∙ and_from _ _ h k

  pub record HasInits (part : Part) : Type 0 where
    pub by : (scope : Scope) → InScope p globals f false scope → (n : Before) → Stands p globals f false n
        (part scope n)
        → (part scope n).faults ≡ [] → AreInits (part scope n)

  inits_then : (first second : Part) → HasPiece p globals f false first → HasInits first → HasInits second
      → HasInits (first then second)
  inits_then first second piece h k = record {
    by = λ scope in_scope n stands none.
        let a = first scope n in
        let b = second (knowing a.entries scope) (behind n a) in
        let left = stands_left p globals f false n a b stands in
        let left_none = nil_left a.faults b.faults none in
        inits-and a b (h.by scope in_scope n left left_none)
        (k.by (knowing a.entries scope)
        (in_knowing p globals f false a.entries scope in_scope (piece.by scope in_scope n left
        left_none).entries)
        (behind n a) (stands_right p globals f false n a b stands) (nil_right a.faults b.faults none));
  }

  length_inits : (at : At) (l : Option TypedLength) → HasInits (add_length at l)
  length_inits at None = record { by = λ scope in_scope n stands none. refl }
  length_inits at (Some l) = record { by = λ scope in_scope n stands none. refl }

  declare_inits : (v : VarId) → HasInits (add_declare v)
  declare_inits v = record {
    by = λ scope in_scope n stands none.
        ap (λ b. list_all (is_init globals) (all_facts_of p f (cond b []
        (tree.declare v ∷ [])))) in_scope.place;
  }

  -- INITIALISERS

  -- converted constants name nothing
  converted_plain : (t : CType) (before : ℕ) (es : List Typed) → AreWellTyped p globals before es →
      AreClean es
      → list_all (λ (e : Typed). e.is_constant) es ≡ true
      → (flat_map (λ (x : ExprFacts). x.variables) (map (facts_of p) (map (tree_as t) es)) ≡ [])
      × (flat_map (λ (x : ExprFacts). x.calls) (map (facts_of p) (map (tree_as t) es)) ≡ [])
  converted_plain t before es expression none constant =
      (operator_fits globals before es (map (facts_of p) (map (tree_as t) es)) I32 true
      (each_fit p globals (tree_as t) (λ e before h. (as_typed p globals e t h).fits) before es expression
      none)
      refl).plain
      constant

  init_inits : (n : Before) (v : VarId) (t : CType) (l : Option TypedLength) (init : Initialiser)
      (scope : Scope)
      → InScope p globals f false scope → has_variable globals v ≡ true
      → (cond (is_some l) (not (has_braces init)) (has_braces init)) ≡ false
      → AreWhole (typed_each scope n.calls (values_of init))
      → list_all (λ (e : Typed). e.is_constant) (typed_each scope n.calls (values_of init)) ≡ true
      → list_all (is_init globals) (all_facts_of p f
      (init_tree (next_stmt n) v t (is_some l) (typed_each scope n.calls (values_of init)) ∷ [])) ≡ true
  init_inits n v t None (initialiser.Expression assign e) scope in_scope is_global braces whole constant =
      let x = facts_of p (tree_as t (typed_conditional e scope n.calls)) in
      let plain = converted_plain t n.calls (typed_conditional e scope n.calls ∷ [])
      (each_typed p globals scope in_scope.sound n.calls (typed_conditional e ∷ [])
      (value_typings p globals f false (initialiser.Expression assign e))) whole.are_clean constant in
      and_from _ _ (one_init globals v (numbered (next_stmt n) kind.Initialiser) (x ∷ [])
      (is_value p v && fits_type (type_at p v) x) is_global plain.0 plain.1) refl
  init_inits n v t None (initialiser.Braced assign b) scope in_scope is_global braces whole constant = cc
  init_inits n v t (Some l) init scope in_scope is_global braces whole constant =
      let es = typed_each scope n.calls (values_of init) in
      let xs = map (facts_of p) (map (tree_as t) es) in
      let plain = converted_plain t n.calls es (each_typed p globals scope in_scope.sound n.calls
      (values_of init)
      (value_typings p globals f false init)) whole.are_clean constant in
      and_from _ _ (one_init globals v (numbered (next_stmt n) kind.Initialiser) xs
      (holds is_own_array (shape_at p v) && fits_array p v xs) is_global plain.0 plain.1) refl

  initialiser_inits : (at : At) (v : VarId) (t : CType) (l : Option TypedLength) (o : Option Initialiser)
      → has_variable globals v ≡ true → HasInits (add_optional_initialiser at v t l o)
  initialiser_inits at v t l None is_global = record { by = λ scope in_scope n stands none. refl }
  initialiser_inits at v t l (Some init) is_global = record {
    by = λ scope in_scope n stands none.
        let es = typed_each scope n.calls (values_of init) in
        let limit = limit_faults statement_limit (n.statements + 1) at in
        let braces = fault_if (cond (is_some l) (not (has_braces init)) (has_braces init)) WrongKind at in
        let count = fault_if (exceeds (written_count l) (length es)) WrongCount at in
        let values = flat_map (initial_faults at (scope.depth == 0)) es in
        let own = nil_right limit (braces ++ count ++ values) none in
        let values_none = nil_right (braces ++ count) values own in
        init_inits n v t l init scope in_scope is_global
        (not_so _ WrongKind at (nil_left braces count (nil_left (braces ++ count) values own)))
        (all_initial at (scope.depth == 0) es values_none)
        (initial_constant at (scope.depth == 0) es in_scope.place values_none);
  }

  -- DECLARATORS

  module _ (functions : List Signature) (t : Option CType) (d : Declarator) (scope : Scope) (n : Before)
      (in_scope : InScope p globals f false scope)
      (stands : Stands p globals f false n (add_declarator functions t d scope n))
      (none : (add_declarator functions t d scope n).faults ≡ []) where
    abbrev name_at : At
    name_at = d.name.at

    abbrev var : VarId
    var = number p globals f false functions t d scope n

    abbrev l : Option TypedLength
    l = len p globals f false functions t d scope n

    abbrev last : Part
    last = void_part p globals f false functions t d scope n

    abbrev initialised : Part
    initialised = add_optional_initialiser name_at var (base p globals f false functions t d scope n) l
        d.initialiser

    declarator_inits : AreInits (add_declarator functions t d scope n)
    declarator_inits =
        let h = inits_then (add_length name_at l) (behind_length p globals f false functions t d scope n)
        (length_has p globals f false functions t d scope n in_scope stands none) (length_inits name_at l)
        (inits_then (add_variable functions name_at (name_of d.name)
        (declared p globals f false functions t d scope n))
        (behind_variable p globals f false functions t d scope n)
        (variable_has p globals f false functions t d scope n in_scope stands none)
        (record { by = λ scope in_scope n stands none. refl })
        (inits_then (add_declare var) (initialised then last)
        (declare_has p globals f false functions t d scope n in_scope stands none) (declare_inits var)
        (inits_then initialised last (initialiser_has p globals f false functions t d scope n in_scope
        stands none)
        (initialiser_inits name_at var (base p globals f false functions t d scope n) l d.initialiser
        (target p globals f false functions t d scope n in_scope stands none).is_owned)
        (record { by = λ scope in_scope n stands none. refl })))) in
        h.by scope in_scope n stands none

  listed_inits : (functions : List Signature) (t : Option CType) (ds : List ListedDeclarator)
      → HasInits (in_order (map (λ (l : ListedDeclarator). add_declarator functions t l.declarator) ds))
  listed_inits functions t [] = record { by = λ scope in_scope n stands none. refl }
  listed_inits functions t (d ∷ ds) = inits_then (add_declarator functions t d.declarator) _
      (declarator_part p globals f false functions t d.declarator).piece
      (record { by = λ scope in_scope n. declarator_inits functions t d.declarator scope n in_scope })
      (listed_inits functions t ds)

  pub optional_inits : (functions : List Signature) (t : Option CType) (o : Option Declarators)
      → HasInits (add_optional_declarators functions t o)
  optional_inits functions t None = record { by = λ scope in_scope n stands none. refl }
  optional_inits functions t (Some ds) = listed_inits functions t ds.all.items
