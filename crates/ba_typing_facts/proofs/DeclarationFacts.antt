-- Declarators: what each adds fits the parts of the program.
use Rattle.std.proofs.Common.{◌≡◌, ℕ, suc, ◌+◌, ◌≤◌, Bool, true, false, ◌&&◌, not, ◌==◌, cond, Option, None, Some, List, [], ◌∷◌, ◌++◌, map, flat_map, length, refl, sym, ◌∙◌, ap, subst, arith, slice_get, nat_le, option_map, unwrap_or}
use Rattle.std.specs.List.{list_all}
use Rattle.std.specs.Option.{is_some}
use Rattle.std.proofs.lemmas.Bool.{and_from, le-leb}
use Rattle.std.proofs.lemmas.List.{length-map}
use Rattle.std.proofs.lemmas.Option.{get_or_from_slice_get}
use Rattle.ba_numbers.specs.declared.ids.At.{At}
use Rattle.ba_numbers.specs.declared.ids.VarId.{VarId}
use Rattle.ba_numbers.specs.declared.numbers.CType.{CType}
use Rattle.ba_numbers.specs.declared.numbers.CType.TheVariants.{I32}
use Rattle.ba_trees.specs.declared.tree.declarations.Initialiser.{Initialiser}
use Rattle.ba_trees.specs.declared.tree.declarations.Initialiser.TheVariants as initialiser
use Rattle.ba_trees.specs.declared.tree.declarations.Declarator.{Declarator}
use Rattle.ba_trees.specs.declared.tree.declarations.ListedDeclarator.{ListedDeclarator}
use Rattle.ba_trees.specs.declared.tree.declarations.Declarators.{Declarators}
use Rattle.ba_trees.specs.declared.tree.expressions.NextExpression.{NextExpression}
use Rattle.ba_tree.specs.Facts.{has_variable, holds, shape_at, type_at, is_value, is_own_array, fits_array, fits_type, own_elements, is_own_length, is_own_shape, leaf_facts, numbered, has_kind}
use Rattle.ba_tree.specs.declared.tree.Function.{Function}
use Rattle.ba_tree.specs.declared.tree.Parts.{Parts}
use Rattle.ba_tree.specs.declared.tree.Shape.{Shape}
use Rattle.ba_tree.specs.declared.tree.Shape.TheVariants.{Value, Array}
use Rattle.ba_tree.specs.declared.tree.StmtKind.TheVariants as kind
use Rattle.ba_tree.specs.declared.tree.Variable.{Variable}
use Rattle.ba_typing.specs.Declarations.{Added, nothing_added, Before, behind, Part, ◌then◌, faults_added, next_stmt, next_name, is_declared, initial_faults, add_variable, values_of, has_braces, typed_each, init_tree, TypedLength, typed_array_length, length_faults, add_length, shape_of, written_count, exceeds, add_initialiser, add_optional_initialiser, add_declare, count_of_values, add_declarator, add_declarators, add_optional_declarators}
use Rattle.ba_typing.specs.Expressions.{Typed, Typing, typed_conditional, typed_next, tree_as}
use Rattle.ba_typing.specs.Faults.{fault_if, limit_faults, statement_limit, variable_limit, element_limit, void_faults, twice_faults}
use Rattle.ba_typing.specs.Names.{Scope, knowing, name_of}
use Rattle.ba_tree.specs.Trees as tree
use Rattle.ba_typing.specs.declared.fault.Cause.TheVariants.{WrongKind, WrongCount}
use Rattle.ba_typing.specs.declared.meanings.Signature.{Signature}
use Rattle.ba_typing.specs.declared.names.Exits.{Exits}
use Rattle.ba_typing_facts.proofs.AdditionFacts.{Stands, stands_right, InScope, IsPiece, piece_none, PieceAt, HasPiece, piece_then, IsPart, part_nothing, IsCounted, AreParts, parts_in_order, all_facts_of, elements_of, are_own}
use Rattle.ba_typing_facts.proofs.ExpressionFacts.{conditional_typing, next_typing}
use Rattle.ba_typing_facts.proofs.FittingFacts.{calls_of, AreFit, nil_left, nil_right}
use Rattle.ba_typing_facts.proofs.LeafFacts.{AreWhole, all_initial, within, kind_is, AreWellTyped, each_typed, each_fit, leaf_are, bare_are}
use Rattle.ba_typing_facts.proofs.PrimaryFacts.{AreWellTypings, not_so}
use Rattle.ba_typing_facts.proofs.ScopeFacts.{IsScope}
use Rattle.ba_typing_facts.proofs.SequenceFacts.{AreStmts, stmts_none, naming_are, initialising_are}
use Rattle.ba_typing_facts.proofs.TreeFacts.{facts_of}
use Rattle.ba_typing_facts.proofs.OperatorFacts.{IsWellTyped, as_typed, same_type-of, AreClean}
use Rattle.ba_typing_facts.proofs.LengthFacts.{same_count, good_count, IsLengthOf, array_length_is, shape_range}

-- a length, if there is one, that is good
abbrev pub IsGood : Option TypedLength → Type 0
IsGood None = Unit {0}
IsGood (Some l) = is_some l.count ≡ true

module _ (p : Parts) (owned : List VarId) (f : Function) (inside : Bool) where
  -- THE PIECES of a declarator

  length_piece : (n : Before) (at : At) (l : TypedLength) {exits : Exits} → (l.faults ≡ [] → is_some l.count
      ≡ true → l.calls ≡ 0)
      → length_faults n at l.count ++ l.faults ≡ []
      → IsPiece p owned f inside exits n (record nothing_added {
        calls = l.calls;
        elements = unwrap_or l.count 0;
        faults = length_faults n at l.count ++ l.faults;
      })
  length_piece n at l {exits} no_calls none =
      from l.count (nil_left (length_faults n at l.count) l.faults none)
      (no_calls (nil_right (length_faults n at l.count) l.faults none)) where
        from : (count : Option ℕ) → length_faults n at count ≡ [] → (is_some count ≡ true → l.calls ≡ 0)
            → IsPiece p owned f inside exits n (record nothing_added {
              calls = l.calls;
              elements = unwrap_or count 0;
              faults = length_faults n at l.count ++ l.faults;
            })
        from None wrong zero_calls = cc
        from (Some c) fits zero_calls = record {
          stmts = subst (λ k. AreStmts p owned n.statements 0 n.calls k exits []) (sym (zero_calls refl))
              (stmts_none p owned n.statements n.calls exits);
          entries = tt;
          few = record {
            variables = λ few. omega (arith, few);
            statements = λ few. omega (arith, few);
            elements = λ few. within element_limit (n.elements + c) at fits;
          };
        }

  pub length_at : (values : Option ℕ) (at : At) (l : Option TypedLength) → IsLengthOf p owned values l →
      (scope : Scope) (n : Before)
      → PieceAt p owned f inside (add_length at l) scope n
  length_at values at None h scope n stands none = piece_none p owned f inside n []
  length_at values at (Some l) h scope n stands none = length_piece n at l h.no_calls none

  pub variable_at : (functions : List Signature) (at : At) (name : List ℕ) (v : Variable) (scope : Scope)
      (n : Before)
      → PieceAt p owned f inside (add_variable functions at name v) scope n
  variable_at functions at name v scope n stands none = record {
    stmts = stmts_none p owned n.statements n.calls scope.exits;
    entries = (
      record {
        place = stands.0.0;
        is_owned = stands.2 n.variables (omega arith) (omega arith);
      },
      tt,
    );
    few = record {
      variables = λ few.
          let twice = twice_faults (is_declared scope functions name) at in
          let limit = limit_faults variable_limit (next_name n) at in
          let all : next_name n ≤ 2000 = within variable_limit (next_name n) at
          (nil_right twice limit none) in
          omega (arith, all);
      statements = λ few. omega (arith, few);
      elements = λ few. omega (arith, few);
    };
  }

  declare_stmts : (n : Before) (v : VarId) {exits : Exits} → (inside ≡ true → has_variable f.locals v ≡ true)
      → has_variable owned v ≡ true
      → (b : Bool) → b ≡ not inside
      → AreStmts p owned n.statements 0 n.calls 0 exits (all_facts_of p f (cond b [] (tree.declare v ∷ [])))
  declare_stmts n v {exits} local is_owned true out = stmts_none p owned n.statements n.calls exits
  declare_stmts n v local is_owned false out = naming_are p owned v (leaf_facts [] []
      (has_variable f.locals v))
      is_owned (bare_are p owned (has_variable f.locals v) (local (from inside out))) where
        from : (b : Bool) → false ≡ not b → b ≡ true
        from true h = refl
        from false h = cc

  pub declare_at : (v : VarId) → (inside ≡ true → has_variable f.locals v ≡ true) → has_variable owned v
      ≡ true
      → (scope : Scope) → InScope p owned f inside scope → (n : Before)
      → PieceAt p owned f inside (add_declare v) scope n
  declare_at v local is_owned scope in_scope n stands none = record {
    stmts = declare_stmts n v local is_owned (scope.depth == 0) in_scope.place;
    entries = tt;
    few = record {
      variables = λ few. omega (arith, few);
      statements = λ few. omega (arith, few);
      elements = λ few. omega (arith, few);
    };
  }

  -- INITIALISERS

  next_typings : (es : List NextExpression) → AreWellTypings p owned (map typed_next es)
  next_typings [] = tt
  next_typings (e ∷ es) = (next_typing p owned e, next_typings es)

  pub value_typings : (init : Initialiser) → AreWellTypings p owned (values_of init)
  value_typings (initialiser.Expression assign e) = (conditional_typing p owned e, tt)
  value_typings (initialiser.Braced assign b) = (
    conditional_typing p owned b.first,
    next_typings
        b.rest.items,
  )

  -- the variable that is initialised is there
  pub record IsTarget (v : VarId) (t : CType) (shape : Shape) : Type 0 where
    pub place : slice_get p.variables v.0 ≡ Some (record { t = t; shape = shape })
    pub is_owned : has_variable owned v ≡ true

  target_shape : (v : VarId) (t : CType) (shape : Shape) → IsTarget v t shape → shape_at p v ≡ Some shape
  target_shape v t shape h = ap (option_map (λ (w : Variable). w.shape)) h.place

  target_type : (v : VarId) (t : CType) (shape : Shape) → IsTarget v t shape → type_at p v ≡ t
  target_type v t shape h = ap (λ (w : Variable). w.t)
      (get_or_from_slice_get p.variables v.0 (record { t = t; shape = shape }) _ h.place)

  -- expressions converted to a type
  converted_fits : (t : CType) (before : ℕ) (es : List Typed) → AreWellTyped p owned before es → AreClean es
      → AreFit owned before es (map (facts_of p) (map (tree_as t) es))
  converted_fits t = each_fit p owned (tree_as t) (λ e before h. (as_typed p owned e t h).fits)

  converted_types : (t u : CType) → u ≡ t → (before : ℕ) (es : List Typed) → AreWellTyped p owned before es
      → AreClean es
      → list_all (fits_type u) (map (facts_of p) (map (tree_as t) es)) ≡ true
  converted_types t u is before [] h none = refl
  converted_types t u is before (e ∷ es) h none = and_from _ _
      (same_type-of ((as_typed p owned e t (h.0.right none.0)).typed ∙ sym is))
      (converted_types t u is (before + e.calls) es h.1 none.1)

  each_length : (scope : Scope) (calls : ℕ) (typings : List Typing) → length (typed_each scope calls typings)
      ≡ length typings
  each_length scope calls [] = refl
  each_length scope calls (s ∷ ss) = ap suc (each_length scope (calls + (s scope calls).calls) ss)

  array_init_are : {exits : Exits} (n : Before) (v : VarId) (t : CType) (count : ℕ) (es : List Typed)
      → IsTarget v t (Array count) → length es ≤ count → AreWellTyped p owned n.calls es → AreWhole es
      → has_kind p (next_stmt n, kind.Initialiser) ≡ true
      → AreStmts p owned n.statements 1 n.calls (calls_of es) exits
      (all_facts_of p f (tree.init_array (next_stmt n) v (map (tree_as t) es) ∷ []))
  array_init_are n v t count es target few expression whole is_kind =
      let xs = map (facts_of p) (map (tree_as t) es) in
      let shape = target_shape v t (Array count) target in
      let lengths : length xs ≡ length es = length-map (map (tree_as t) es) (facts_of p) ∙ length-map es
      (tree_as t) in
      let room : length xs ≤ count = omega (arith, lengths, few) in
      let meets = holds is_own_array (shape_at p v) && fits_array p v xs in
      let own = leaf_facts (numbered (next_stmt n) kind.Initialiser) xs meets in
      initialising_are p owned v own (naming_are p owned v own target.is_owned
      (leaf_are p owned n kind.Initialiser es xs meets
      (converted_fits t n.calls es expression whole.are_clean) whole.are_low
      (and_from _ _ (ap (holds is_own_array) shape) (and_from _ _
      (ap (λ s. nat_le (length xs) (own_elements (unwrap_or s Value))) shape ∙ le-leb (length xs) count room)
      (converted_types t (type_at p v) (target_type v t (Array count) target) n.calls es expression
      whole.are_clean)))
      is_kind))

  value_init_are : {exits : Exits} (n : Before) (v : VarId) (t : CType) (e : Typed)
      → IsTarget v t Value → IsWellTyped p owned n.calls e → AreWhole (e ∷ [])
      → has_kind p (next_stmt n, kind.Initialiser) ≡ true
      → AreStmts p owned n.statements 1 n.calls (calls_of (e ∷ [])) exits
      (all_facts_of p f (tree.init (next_stmt n) v (tree_as t e) ∷ []))
  value_init_are n v t e target expression whole is_kind =
      let x = as_typed p owned e t (expression.right whole.are_clean.0) in
      let xs = facts_of p (tree_as t e) ∷ [] in
      let meets = is_value p v && fits_type (type_at p v) (facts_of p (tree_as t e)) in
      let own = leaf_facts (numbered (next_stmt n) kind.Initialiser) xs meets in
      initialising_are p owned v own (naming_are p owned v own target.is_owned
      (leaf_are p owned n kind.Initialiser (e ∷ []) xs meets
      (x.fits, tt) whole.are_low
      (and_from _ _ (ap (holds Rattle.ba_tree.specs.Facts.is_value_shape) (target_shape v t Value target))
      (same_type-of (x.typed ∙ sym (target_type v t Value target)))) is_kind))

  -- what an initialiser adds, of a good length
  initialiser_stmts : {exits : Exits} (n : Before) (at : At) (v : VarId) (t : CType) (l : Option TypedLength)
      (init : Initialiser) (scope : Scope) → IsScope p owned scope
      → IsLengthOf p owned (Some (length (values_of init))) l → IsGood l
      → IsTarget v t (shape_of l)
      → (cond (is_some l) (not (has_braces init)) (has_braces init)) ≡ false
      → exceeds (written_count l) (length (typed_each scope n.calls (values_of init))) ≡ false
      → AreWhole (typed_each scope n.calls (values_of init))
      → has_kind p (next_stmt n, kind.Initialiser) ≡ true
      → AreStmts p owned n.statements 1 n.calls (calls_of (typed_each scope n.calls (values_of init))) exits
      (all_facts_of p f (init_tree (next_stmt n) v t (is_some l) (typed_each scope n.calls
      (values_of init)) ∷ []))
  initialiser_stmts n at v t None (initialiser.Expression assign e) scope sound len good target braces few
      whole is_kind =
      value_init_are n v t (typed_conditional e scope n.calls) target
      ((conditional_typing p owned e).by scope sound n.calls) whole is_kind
  initialiser_stmts n at v t None (initialiser.Braced assign b) scope sound len good target braces few whole
      is_kind = cc
  initialiser_stmts n at v t (Some s) init scope sound len good target braces few whole is_kind =
      let es = typed_each scope n.calls (values_of init) in
      let same = each_length scope n.calls (values_of init) in
      array_init_are n v t (unwrap_or s.count 1) es target
      (subst (λ k. k ≤ unwrap_or s.count 1) (sym same)
      (len.room (length (values_of init)) refl good
      (ap (exceeds (written_count (Some s))) (sym same) ∙ few)))
      (each_typed p owned scope sound n.calls (values_of init) (value_typings init)) whole is_kind

  initialiser_at : (at : At) (v : VarId) (t : CType) (l : Option TypedLength) (init : Initialiser)
      → IsLengthOf p owned (Some (length (values_of init))) l → IsGood l
      → IsTarget v t (shape_of l)
      → (scope : Scope) → InScope p owned f inside scope → (n : Before)
      → PieceAt p owned f inside (add_initialiser at v t l init) scope n
  initialiser_at at v t l init len good target scope in_scope n stands none =
      let es = typed_each scope n.calls (values_of init) in
      let limit = limit_faults statement_limit (n.statements + 1) at in
      let braces = fault_if (cond (is_some l) (not (has_braces init)) (has_braces init)) WrongKind at in
      let count = fault_if (exceeds (written_count l) (length es)) WrongCount at in
      let values = flat_map (initial_faults at (scope.depth == 0)) es in
      let own = nil_right limit (braces ++ count ++ values) none in
      let shape = nil_left (braces ++ count) values own in record {
        stmts = initialiser_stmts n at v t l init scope in_scope.sound len good target
            (not_so _ WrongKind at (nil_left braces count shape))
            (not_so _ WrongCount at (nil_right braces count shape))
            (all_initial at (scope.depth == 0) es (nil_right (braces ++ count) values own))
            (kind_is p owned n at kind.Initialiser stands.1);
        entries = tt;
        few = record {
          variables = λ few. omega (arith, few);
          statements = λ few. within statement_limit (n.statements + 1) at (nil_left limit
              (braces ++ count ++ values) none);
          elements = λ few. omega (arith, few);
        };
      }

  pub optional_initialiser_at : (at : At) (v : VarId) (t : CType) (l : Option TypedLength)
      (o : Option Initialiser)
      → IsLengthOf p owned (count_of_values o) l → IsGood l
      → IsTarget v t (shape_of l)
      → (scope : Scope) → InScope p owned f inside scope → (n : Before)
      → PieceAt p owned f inside (add_optional_initialiser at v t l o) scope n
  optional_initialiser_at at v t l None len good target scope in_scope n stands none =
      piece_none p owned f inside n []
  optional_initialiser_at at v t l (Some init) len good target scope in_scope n stands none =
      initialiser_at at v t l init len good target scope in_scope n stands none

  -- DECLARATORS

  no_variables : (at : At) (l : Option TypedLength) (scope : Scope) (n : Before)
      → length (add_length at l scope n).variables ≡ 0
  no_variables at None scope n = refl
  no_variables at (Some l) scope n = refl

  good_length : (n : Before) (at : At) (l : Option TypedLength) (scope : Scope) →
      (add_length at l scope n).faults ≡ []
      → IsGood l
  good_length n at None scope none = tt
  good_length n at (Some l) scope none =
      good_count n at l.count (nil_left (length_faults n at l.count) l.faults none)

  module _ (functions : List Signature) (t : Option CType) (d : Declarator) (scope : Scope) (n : Before) where
    abbrev pub at_name : At
    at_name = d.name.at

    abbrev pub number : VarId
    number = record { 0 = n.variables }

    abbrev pub base : CType
    base = unwrap_or t I32

    abbrev pub len : Option TypedLength
    len = typed_array_length at_name (count_of_values d.initialiser) scope n.calls d.length

    abbrev pub declared : Variable
    declared = record { t = base; shape = shape_of len }

    abbrev pub void_part : Part
    void_part scope n = faults_added (void_faults t at_name)

    abbrev pub behind_variable : Part
    behind_variable = add_declare number then (add_optional_initialiser at_name number base len
        d.initialiser then void_part)

    abbrev pub behind_length : Part
    behind_length = add_variable functions at_name (name_of d.name) declared then behind_variable

    abbrev length_added : Added
    length_added = add_length at_name len scope n

    abbrev variable_added : Added
    variable_added = behind_length (knowing length_added.entries scope) (behind n length_added)

    module _ (in_scope : InScope p owned f inside scope)
        (stands : Stands p owned f inside n (add_declarator functions t d scope n))
        (none : (add_declarator functions t d scope n).faults ≡ []) where
      pub good : IsGood len
      good = good_length n at_name len scope (nil_left _ _ none)

      behind_stands : Stands p owned f inside (behind n length_added) variable_added
      behind_stands = stands_right p owned f inside n length_added variable_added stands

      here : (behind n length_added).variables ≡ n.variables
      here = let none = no_variables at_name len scope n in omega (arith, none)

      pub target : IsTarget number base (shape_of len)
      target = record {
        place = subst (λ k. slice_get p.variables k ≡ Some declared) here behind_stands.0.0;
        is_owned = subst (λ k. has_variable owned (record { 0 = k }) ≡ true) here
            (behind_stands.2 (behind n length_added).variables (omega arith) (omega arith));
      }

      pub is_local : inside ≡ true → has_variable f.locals number ≡ true
      is_local is = subst (λ k. has_variable f.locals (record { 0 = k }) ≡ true) here
          (behind_stands.3 is (behind n length_added).variables (omega arith) (omega arith))

      pub len_is : IsLengthOf p owned (count_of_values d.initialiser) len
      len_is = array_length_is p owned scope in_scope.sound at_name
          (count_of_values d.initialiser) n.calls d.length

      pub initialiser_has : HasPiece p owned f inside
          (add_optional_initialiser at_name number base len d.initialiser)
      initialiser_has = record {
        by = optional_initialiser_at at_name number base len d.initialiser len_is good target;
      }

      initialised : HasPiece p owned f inside
          (add_optional_initialiser at_name number base len d.initialiser then void_part)
      initialised = piece_then p owned f inside
          (add_optional_initialiser at_name number base len d.initialiser) void_part initialiser_has
          (record {
            by = λ scope in_scope n stands none. piece_none p owned f inside n
                (void_faults t at_name);
          })

      pub length_has : HasPiece p owned f inside (add_length at_name len)
      length_has = record {
        by = λ scope in_scope. length_at (count_of_values d.initialiser) at_name len len_is scope;
      }

      pub variable_has : HasPiece p owned f inside (add_variable functions at_name
          (name_of d.name) declared)
      variable_has = record {
        by = λ scope in_scope. variable_at functions at_name (name_of d.name) declared scope;
      }

      pub declare_has : HasPiece p owned f inside (add_declare number)
      declare_has = record { by = declare_at number is_local target.is_owned }

      whole : HasPiece p owned f inside (add_length at_name len then behind_length)
      whole = piece_then p owned f inside (add_length at_name len) behind_length length_has
          (piece_then p owned f inside (add_variable functions at_name
          (name_of d.name) declared) behind_variable
          variable_has (piece_then p owned f inside (add_declare number) _ declare_has initialised))

      declarator_piece : IsPiece p owned f inside scope.exits n (add_declarator functions t d scope n)
      declarator_piece = whole.by scope in_scope n stands none

    -- THE ELEMENTS AND LENGTHS of arrays

    shape_counts : (l : Option TypedLength) → IsGood l → own_elements (shape_of l) ≡
        (add_length at_name l scope n).elements
    shape_counts None h = refl
    shape_counts (Some l) h = same_count l.count h

    own_shape : (l : Option TypedLength) → is_own_shape (shape_of l) ≡ true
    own_shape None = refl
    own_shape (Some l) = refl

    abbrev declare_scope : Scope
    declare_scope = knowing (add_variable functions at_name (name_of d.name) declared
        (knowing length_added.entries scope) (behind n length_added)).entries
        (knowing length_added.entries scope)

    abbrev declare_before : Before
    declare_before = behind (behind n length_added) (add_variable functions at_name
        (name_of d.name) declared
        (knowing length_added.entries scope) (behind n length_added))

    abbrev initialiser_added : Added
    initialiser_added = add_optional_initialiser at_name number base len d.initialiser
        (knowing (add_declare number declare_scope declare_before).entries declare_scope)
        (behind declare_before (add_declare number declare_scope declare_before))

    no_more : (l : Option TypedLength) (o : Option Initialiser) (scope : Scope) (n : Before)
        → ((add_optional_initialiser at_name number base l o scope n).variables ≡ [])
        × ((add_optional_initialiser at_name number base l o scope n).elements ≡ 0)
    no_more l None scope n = (refl, refl)
    no_more l (Some init) scope n = (refl, refl)

    one_declared : (first last : List Variable) → first ≡ [] → last ≡ []
        → first ++ (declared ∷ ([] ++ (last ++ []))) ≡ declared ∷ []
    one_declared first last is_first is_last = ap (λ vs. vs ++ (declared ∷ (last ++ []))) is_first
        ∙ ap (λ vs. declared ∷ (vs ++ [])) is_last

    no_variable : (l : Option TypedLength) → (add_length at_name l scope n).variables ≡ []
    no_variable None = refl
    no_variable (Some l) = refl

    declarator_counted : (add_declarator functions t d scope n).faults ≡ []
        → IsCounted (add_declarator functions t d scope n)
    declarator_counted none =
        let is_good = good_length n at_name len scope (nil_left _ _ none) in
        let others = no_more len d.initialiser
        (knowing (add_declare number declare_scope declare_before).entries declare_scope)
        (behind declare_before (add_declare number declare_scope declare_before)) in
        let all = one_declared length_added.variables initialiser_added.variables
        (no_variable len) others.0 in record {
          elements = ap elements_of all ∙ (let count = shape_counts len is_good in let rest = others.1 in
              omega
              (arith, count, rest));
          lengths = ap (list_all is_own_length) all ∙ and_from _ _ (shape_range at_name
              (count_of_values d.initialiser) scope n.calls d.length) refl;
          own = ap are_own all ∙ and_from _ _ (own_shape len) refl;
        }

  pub declarator_part : (functions : List Signature) (t : Option CType) (d : Declarator)
      → IsPart p owned f inside (add_declarator functions t d)
  declarator_part functions t d = record {
    piece = record { by = λ scope in_scope n. declarator_piece functions t d scope n in_scope };
    counted = declarator_counted functions t d;
  }

  declarator_parts : (functions : List Signature) (t : Option CType) (ds : List ListedDeclarator)
      → AreParts p owned f inside (map (λ (l : ListedDeclarator). add_declarator functions t l.declarator) ds)
  declarator_parts functions t [] = tt
  declarator_parts functions t (d ∷ ds) = (
    declarator_part functions t d.declarator,
    declarator_parts
        functions t ds,
  )

  pub declarators_part : (functions : List Signature) (t : Option CType) (ds : Declarators)
      → IsPart p owned f inside (add_declarators functions t ds)
  declarators_part functions t ds = parts_in_order p owned f inside
      (map (λ (l : ListedDeclarator). add_declarator functions t l.declarator) ds.all.items)
      (declarator_parts functions t ds.all.items)

  pub optional_declarators_part : (functions : List Signature) (t : Option CType) (o : Option Declarators)
      → IsPart p owned f inside (add_optional_declarators functions t o)
  optional_declarators_part functions t None = part_nothing p owned f inside
  optional_declarators_part functions t (Some ds) = declarators_part functions t ds
