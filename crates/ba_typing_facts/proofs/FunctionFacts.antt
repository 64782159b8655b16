-- A function's definition: what it adds fits the parts of the program.
use Rattle.std.proofs.Common.{true≢false, ◌≡◌, ℕ, ◌+◌, ◌≤◌, Bool, true, false, not, ◌==◌, Option, None, Some, List, [], ◌∷◌, ◌++◌, map, length, length-append, refl, sym, ◌∙◌, ap, subst, arith, slice_get, slice_index_or, nat_le, option_map}
use Rattle.std.specs.List.{list_all}
use Rattle.std.proofs.lemmas.Bool.{and_from, and_parts, or_left, or_right, le-leb, ne_eqb}
use Rattle.std.proofs.lemmas.List.Folds.{list_any-append}
use Rattle.std.proofs.lemmas.Option.{get_or_from_slice_get, slice_get-map, same_Some}
use Rattle.ba_numbers.specs.declared.ids.At.{At}
use Rattle.ba_numbers.specs.declared.ids.VarId.{VarId}
use Rattle.ba_trees.specs.declared.tree.declarations.Parameter.{Parameter}
use Rattle.ba_trees.specs.declared.tree.statements.Block.{Block}
use Rattle.ba_tree.specs.Facts.{StmtFacts, has_variable, holds, shape_at, is_own_shape, is_parameter_shape, is_function, body_facts, around, leaf_facts, no_function}
use Rattle.ba_tree.specs.declared.tree.Function.{Function}
use Rattle.ba_tree.specs.declared.tree.Parts.{Parts}
use Rattle.ba_tree.specs.declared.tree.Variable.{Variable}
use Rattle.ba_typing.specs.Declarations.{Added, nothing_added, ◌and◌, Before, behind, in_order, faults_added}
use Rattle.ba_typing.specs.Files.{FileAdded, vars_of, vars_from, add_params, function_scope, function_tree, signature_faults}
use Rattle.ba_typing.specs.Names.{Scope, knowing, is_main_name, no_exits}
use Rattle.ba_typing.specs.Statements.{parts_of_block}
use Rattle.ba_tree.specs.Trees.{FunctionTree, tree_of_function, tree_of_stmt}
use Rattle.ba_typing.specs.declared.fault.Fault.{Fault}
use Rattle.ba_typing.specs.declared.meanings.Entity.{Entity}
use Rattle.ba_typing.specs.declared.meanings.Entity.TheVariants as entity
use Rattle.ba_typing.specs.declared.meanings.Entry.{Entry}
use Rattle.ba_typing.specs.declared.meanings.Signature.{Signature}
use Rattle.ba_typing.specs.declared.names.Exits.{Exits}
use Rattle.ba_typing_facts.proofs.AdditionFacts.{HasVariables, Stands, InScope, in_knowing, IsPiece, IsFew, few-and, few_none, IsPart, parts_in_order, all_facts_of, are_own, IsCounted}
use Rattle.ba_typing_facts.proofs.EntryFacts.{vars_has, vars-append, params_entries}
use Rattle.ba_typing_facts.proofs.FittingFacts.{nil_left, nil_right}
use Rattle.ba_typing_facts.proofs.LeafFacts.{HasAt, has_left, has_right}
use Rattle.ba_typing_facts.proofs.ParameterFacts.{params_piece, params_shaped, shaped_are, few_vars, few_params, IsSized, sized-and, sized_none, sized_counted}
use Rattle.ba_typing_facts.proofs.ParameterListFacts.{params_statements, params_stmts, prototype_bare, params_sized}
use Rattle.ba_typing_facts.proofs.ScopeFacts.{IsEntity, AreEntries, IsScope}
use Rattle.ba_typing_facts.proofs.StatementFacts.{block_parts}
use Rattle.ba_typing_facts.proofs.StatementTreeFacts.{stmt_facts_of, all_facts_are}
use Rattle.ba_typing_facts.proofs.SequenceFacts.{AreTold, are_told, told-append, stmts_none, block_are, some_break, some_continue}

-- LISTS OF VARIABLES

weaker_any : (v : VarId) (xs ys : List VarId) → has_variable xs v ≡ true → has_variable (xs ++ ys) v ≡ true
weaker_any v xs ys h = list_any-append (λ (w : VarId). w.0 == v.0) xs ys ∙ or_left _ _ h

later_any : (v : VarId) (xs ys : List VarId) → has_variable ys v ≡ true → has_variable (xs ++ ys) v ≡ true
later_any v xs ys h = list_any-append (λ (w : VarId). w.0 == v.0) xs ys ∙ or_right (has_variable xs v) _ h

-- variables of their own, where they are
pub own_at : (p : Parts) (first : ℕ) (vs : List Variable) → HasAt p.variables first vs → are_own vs ≡ true
    → list_all (λ v. holds is_own_shape (shape_at p v)) (vars_from first (length vs)) ≡ true
own_at p first [] h own = refl
own_at p first (v ∷ vs) h own = let both = and_parts (is_own_shape v.shape) (are_own vs) own in
    and_from _ _ (ap (λ o. holds is_own_shape (option_map (λ (w : Variable). w.shape) o)) h.0 ∙ both.0)
    (own_at p (first + 1) vs h.1 both.1)

pub function_at : Parts → ℕ → Function
function_at p k = slice_index_or p.functions k no_function

pub function_here : (p : Parts) (k : ℕ) (f : Function) → slice_get p.functions k ≡ Some f → function_at p k
    ≡ f
unfolding function_at
function_here p k f h = get_or_from_slice_get p.functions k f no_function h

-- the bodies of functions from this number on, each as one block
abbrev pub bodies_of : Parts → ℕ → List FunctionTree → List StmtFacts
bodies_of p k [] = []
bodies_of p k (t ∷ ts) = around (leaf_facts [] [] true) (all_facts_of p
    (function_at p k) t.body) ∷ bodies_of p (k + 1) ts

module _ (p : Parts) where
  abbrev owned_in : Function → List VarId
  owned_in f = p.globals ++ f.params ++ f.locals

  weaker_entries : (f : Function) (es : List Entry) → AreEntries p p.globals es → AreEntries p (owned_in f) es
  weaker_entries f [] h = tt
  weaker_entries f (e ∷ es) h = (from e.entity h.0, weaker_entries f es h.1) where
    from : (x : Entity) → IsEntity p p.globals x → IsEntity p (owned_in f) x
    from (entity.Variable o) here = record {
      place = here.place;
      is_owned = weaker_any o.var (p.globals ++ f.params) f.locals
          (weaker_any o.var p.globals f.params here.is_owned);
    }
    from (entity.Constant z) here = here
    from entity.Tag here = tt

  -- the function of a number has this tree
  pub record IsTree (k : ℕ) (t : FunctionTree) : Type 0 where
    pub place : slice_get p.functions k ≡ Some (function_at p k)
    pub tree : tree_of_function (function_at p k) ≡ t

  pub tree_at : (k : ℕ) (t : FunctionTree) → slice_get (map tree_of_function p.functions) k ≡ Some t
      → IsTree k t
  unfolding function_at
  tree_at k t h = from (slice_get p.functions k) refl (sym (slice_get-map tree_of_function p.functions k)
      ∙ h) where
        from : (o : Option Function) → slice_get p.functions k ≡ o → option_map tree_of_function o ≡ Some t
            → IsTree k t
        from None is h = cc
        from (Some g) is h =
            let same = get_or_from_slice_get p.functions k g no_function is in record {
              place = is ∙ ap (λ g. Some g) (sym same);
              tree = ap tree_of_function same ∙ same_Some (tree_of_function g) t h;
            }

  -- the scope of the file
  pub record IsFileScope (file : Scope) : Type 0 where
    pub sound : IsScope p p.globals file
    pub depth : file.depth ≡ 0
    pub exits : file.exits ≡ no_exits
    pub result : file.result ≡ None

  -- what functions add to a file, from this number on
  pub record AreFunctionsAdded (d : ℕ) (n : Before) (x : FileAdded) : Type 0 where
    pub few : IsFew n x.added
    pub sized : IsSized x.added
    pub told : AreTold p n.statements (length x.added.statements) n.calls x.added.calls
        (bodies_of p d x.functions)

  abbrev pub var_numbers : List VarId → List ℕ
  var_numbers = map (λ (v : VarId). v.0)

  -- what a function adds, of what is in it
  abbrev pub function_added : List Fault → Added → Added
  function_added faults w = record (faults_added faults and w) { stmts = []; entries = [] }

  few_function : (faults : List Fault) (n : Before) (w : Added) → IsFew n w → IsFew n
      (function_added faults w)
  few_function faults n w h = record {
    variables = h.variables;
    statements = h.statements;
    elements = λ few. let last = h.elements few in omega (arith, last);
  }

  sized_function : (faults : List Fault) (w : Added) → IsSized w → IsSized (function_added faults w)
  sized_function faults w h = record {
    elements = h.elements ∙ (let e : w.elements ≡ 0 + w.elements = omega arith in e);
    lengths = h.lengths;
  }

  told_function : (faults : List Fault) (n : Before) (w : Added) (ss : List StmtFacts)
      → AreTold p n.statements (length w.statements) n.calls w.calls ss
      → AreTold p n.statements (length (function_added faults w).statements) n.calls
      (function_added faults w).calls ss
  told_function faults n w ss = subst (λ c. AreTold p n.statements (length w.statements) n.calls c ss)
      (let e : w.calls ≡ 0 + w.calls = omega arith in e)

  no_vars : (vs : List VarId) (first : ℕ) → HasVariables vs first 0
  no_vars vs first k low high = absurd (let e : ⊥ = omega (arith, low, high) in e)

  pub nothing_stands : (owned : List VarId) (f : Function) {inside : Bool} (n : Before) (a : Added)
      → a.variables ≡ [] → a.statements ≡ [] → Stands p owned f inside n a
  nothing_stands owned f n a vs ss = (
    subst (HasAt p.variables n.variables) (sym vs) tt,
    subst (HasAt p.statements n.statements) (sym ss) tt,
    subst (HasVariables owned n.variables) (sym (ap length vs)) (no_vars owned n.variables),
    λ is. subst (HasVariables f.locals n.variables) (sym (ap length vs)) (no_vars f.locals n.variables),
  )

  module _ (at : At) (s : Signature) (qs : List Parameter) (file : Scope) (earlier : List Signature)
      (n : Before)
      (file_scope : IsFileScope file) where
    abbrev pub inside : Scope
    inside = function_scope s.result file

    abbrev pub sign_faults : List Fault
    sign_faults = signature_faults file earlier s at

    abbrev pub params_of : Bool → Added
    params_of defined = add_params (is_main_name s.name) defined at 1 qs inside n

    abbrev no_body : List VarId → Function
    no_body vs = record { result = s.result; params = []; locals = vs; body = [] }

    in_inside : (owned vs : List VarId) → AreEntries p owned file.known → InScope p owned
        (no_body vs) true inside
    in_inside owned vs entries = record {
      sound = record { entries = entries; functions = file_scope.sound.functions };
      result = refl;
      place = ne_eqb (file.depth + 1) 0 (λ e. omega (arith, e));
    }

    params_told : (owned : List VarId) (f : Function) (defined : Bool) {exits : Exits}
        → IsPiece p owned f true exits n (params_of defined)
        → AreTold p n.statements (length (params_of defined).statements) n.calls (params_of defined).calls []
    params_told owned f defined piece =
        subst (λ ss. AreTold p n.statements (length (params_of defined).statements) n.calls
        (params_of defined).calls
        (all_facts_of p f ss)) (params_stmts (is_main_name s.name) defined at 1 qs inside n)
        (are_told p piece.stmts)

    -- A PROTOTYPE

    abbrev pub prototype : FileAdded
    prototype = record {
      added = function_added sign_faults (params_of false and nothing_added);
      functions = [];
    }

    prototype_piece : prototype.added.faults ≡ [] → IsPiece p p.globals (no_body []) true inside.exits n
        (params_of false)
    prototype_piece none = (params_piece p p.globals (no_body []) true
        (is_main_name s.name) false at 1 qs).by inside
        (in_inside p.globals [] file_scope.sound.entries) n
        (nothing_stands p.globals (no_body []) n (params_of false)
        (prototype_bare (is_main_name s.name) at 1 qs inside n).no_variables
        (params_statements (is_main_name s.name) false at 1 qs inside n))
        (nil_left (params_of false).faults [] (nil_right sign_faults ((params_of false).faults ++ []) none))

    pub prototype_is : (d : ℕ) → prototype.added.faults ≡ [] → AreFunctionsAdded d n prototype
    prototype_is d none =
        let bare = prototype_bare (is_main_name s.name) at 1 qs inside n in
        let piece = prototype_piece none in record {
          few = few_function sign_faults n (params_of false and nothing_added)
              (few-and n (params_of false) nothing_added piece.few (few_none (behind n
              (params_of false)) []));
          sized = sized_function sign_faults (params_of false and nothing_added)
              (sized-and (params_of false) nothing_added (sized_none (params_of false) bare.no_variables
              bare.no_elements)
              (sized_none nothing_added refl refl));
          told = told_function sign_faults n (params_of false and nothing_added) []
              (subst (λ c. AreTold p n.statements c n.calls ((params_of false).calls + 0) [])
              (sym (length-append (params_of false).statements []))
              (told-append p (params_told p.globals (no_body []) false piece) (are_told p
              (stmts_none p [] _ _ no_exits))));
        }

    pub prototype_vars : prototype.added.variables ≡ []
    prototype_vars = ap (λ vs. vs ++ []) (prototype_bare (is_main_name s.name) at 1 qs inside n).no_variables

    -- A DEFINITION

    module _ (b : Block) (d : ℕ) where
      abbrev pub known : Scope
      known = knowing (params_of true).entries inside

      abbrev pub body : Added
      body = in_order (parts_of_block b) known (behind n (params_of true))

      abbrev pub t : FunctionTree
      t = function_tree n s.result (params_of true) body

      abbrev pub defined : FileAdded
      defined = record { added = function_added sign_faults (params_of true and body); functions = t ∷ [] }

      abbrev pub g : Function
      g = function_at p d

      abbrev owned : List VarId
      owned = owned_in g

      module _ (variables : HasAt p.variables n.variables defined.added.variables)
          (statements : HasAt p.statements n.statements defined.added.statements)
          (is_tree : IsTree d t) (none : defined.added.faults ≡ [])
          (main_is : is_main_name s.name ≡ (d == p.main.0)) where
        params_are : g.params ≡ vars_of (params_of true).entries
        params_are = ap (λ (t : FunctionTree). t.params) is_tree.tree

        locals_are : g.locals ≡ vars_from (n.variables + length (params_of true).variables)
            (length body.variables)
        locals_are = ap (λ (t : FunctionTree). t.locals) is_tree.tree

        result_is : g.result ≡ s.result
        result_is = ap (λ (t : FunctionTree). t.result) is_tree.tree

        body_is : map tree_of_stmt g.body ≡ body.stmts
        body_is = ap (λ (t : FunctionTree). t.body) is_tree.tree

        inner_none : (params_of true).faults ++ body.faults ≡ []
        inner_none = nil_right sign_faults ((params_of true).faults ++ body.faults) none

        params_none : (params_of true).faults ≡ []
        params_none = nil_left (params_of true).faults body.faults inner_none

        body_none : body.faults ≡ []
        body_none = nil_right (params_of true).faults body.faults inner_none

        param_vars : g.params ≡ vars_from n.variables (length (params_of true).variables)
        param_vars = params_are ∙ (params_entries (is_main_name s.name) at 1 qs).by inside n

        has_params : HasVariables g.params n.variables (length (params_of true).variables)
        has_params k low high = ap (λ vs. has_variable vs (record { 0 = k })) param_vars
            ∙ vars_has n.variables (length (params_of true).variables) k low high

        has_locals : HasVariables g.locals (n.variables + length (params_of true).variables)
            (length body.variables)
        has_locals k low high = ap (λ vs. has_variable vs (record { 0 = k })) locals_are
            ∙ vars_has (n.variables + length (params_of true).variables) (length body.variables) k low high

        params_stand : Stands p owned (no_body g.params) true n (params_of true)
        params_stand = (
          has_left p.variables n.variables (params_of true).variables body.variables variables,
          has_left p.statements n.statements (params_of true).statements body.statements statements,
          λ k low high. weaker_any (record { 0 = k }) (p.globals ++ g.params) g.locals
              (later_any (record { 0 = k }) p.globals g.params (has_params k low high)),
          λ is. has_params,
        )

        params_fit : IsPiece p owned (no_body g.params) true inside.exits n (params_of true)
        params_fit = (params_piece p owned (no_body g.params) true (is_main_name s.name) true at 1 qs).by
            inside
            (in_inside owned g.params (weaker_entries g file.known file_scope.sound.entries)) n params_stand
            params_none

        body_stands : Stands p owned g true (behind n (params_of true)) body
        body_stands = (
          has_right p.variables n.variables (params_of true).variables body.variables variables,
          has_right p.statements n.statements (params_of true).statements body.statements statements,
          λ k low high. later_any (record { 0 = k }) (p.globals ++ g.params) g.locals
              (has_locals k low high),
          λ is. has_locals,
        )

        in_known : InScope p owned g true known
        in_known = record {
          sound = (in_knowing p owned (no_body g.params) true (params_of true).entries inside
              (in_inside owned g.params (weaker_entries g file.known file_scope.sound.entries))
              params_fit.entries).sound;
          result = sym result_is;
          place = ne_eqb (file.depth + 1) 0 (λ e. omega (arith, e));
        }

        body_part : IsPart p owned g true (in_order (parts_of_block b))
        body_part = parts_in_order p owned g true (parts_of_block b) (block_parts p owned g b)

        body_fits : IsPiece p owned g true file.exits (behind n (params_of true)) body
        body_fits = body_part.piece.by known in_known (behind n (params_of true)) body_stands body_none

        body_counted : IsCounted body
        body_counted = body_part.counted known (behind n (params_of true)) body_none

        pub definition_added : AreFunctionsAdded d n defined
        definition_added = record {
          few = few_function sign_faults n (params_of true and body) (few-and n
              (params_of true) body params_fit.few body_fits.few);
          sized = sized_function sign_faults (params_of true and body)
              (sized-and (params_of true) body (params_sized (is_main_name s.name) at 1 qs inside n
              params_none)
              (sized_counted body body_counted));
          told = told_function sign_faults n (params_of true and body) (bodies_of p d (t ∷ []))
              (subst (λ c. AreTold p n.statements c n.calls ((params_of true).calls + body.calls)
              (bodies_of p d (t ∷ [])))
              (sym (length-append (params_of true).statements body.statements))
              (told-append p (params_told owned (no_body g.params) true params_fit)
              (are_told p (block_are p owned (all_facts_of p g body.stmts) body_fits.stmts))));
        }

        -- what there is to say of the body
        facts_are : around (leaf_facts [] [] true) (all_facts_of p g body.stmts) ≡ body_facts p g
        facts_are = ap (λ ss. around (leaf_facts [] [] true) (map (stmt_facts_of p g) ss)) (sym body_is)
            ∙ ap (around (leaf_facts [] [] true)) (sym (all_facts_are p g g.body))

        not_leaving : (b way : Bool) → way ≡ false → (b ≡ true → way ≡ true) → not b ≡ true
        not_leaving false way closed h = refl
        not_leaving true way closed h = absurd (true≢false (sym (h refl) ∙ closed))

        few_of_params : length g.params ≤ 32
        few_of_params =
            let few = few_params (is_main_name s.name) at 1 qs inside n params_none
            (let e : 1 ≤ 33 = omega arith in e) in
            let same = ap length params_are in
            let fewer = few_vars (params_of true).entries in
            omega (arith, few, same, fewer)

        shapes_of_params : list_all (λ v. holds (is_parameter_shape (d == p.main.0))
            (shape_at p v)) g.params ≡ true
        shapes_of_params = subst (λ b. list_all (λ v. holds (is_parameter_shape b) (shape_at p v)) g.params
            ≡ true) main_is
            (ap (list_all (λ v. holds (is_parameter_shape (is_main_name s.name)) (shape_at p v))) params_are
            ∙ shaped_are p owned (is_main_name s.name) (params_of true).entries params_fit.entries
            (params_shaped (is_main_name s.name) at 1 qs inside n))

        shapes_of_locals : list_all (λ v. holds is_own_shape (shape_at p v)) g.locals ≡ true
        shapes_of_locals = ap (list_all (λ v. holds is_own_shape (shape_at p v))) locals_are
            ∙ own_at p (n.variables + length (params_of true).variables) body.variables body_stands.0
            body_counted.own

        pub definition_good : nat_le (body_facts p g).depth 101 ≡ true → is_function p (d == p.main.0) g
            ≡ true
        definition_good shallow =
            and_from _ _ (and_from _ _ (and_from _ _ (and_from _ _ (and_from _ _ (and_from _ _ (and_from _ _
            (le-leb (length g.params) 32 few_of_params) shapes_of_params) shapes_of_locals)
            (ap (λ (x : StmtFacts). x.is_sound) (sym facts_are) ∙ body_fits.stmts.sound)) shallow)
            (ap (λ (x : StmtFacts). not x.breaks) (sym facts_are)
            ∙ not_leaving (some_break (all_facts_of p g body.stmts)) file.exits.breaks
            (ap (λ (e : Exits). e.breaks) file_scope.exits) body_fits.stmts.breaks))
            (ap (λ (x : StmtFacts). not x.continues) (sym facts_are)
            ∙ not_leaving (some_continue (all_facts_of p g body.stmts)) file.exits.continues
            (ap (λ (e : Exits). e.continues) file_scope.exits) body_fits.stmts.continues))
            (ap (λ (x : StmtFacts). list_all (has_variable owned) x.variables) (sym facts_are)
            ∙ body_fits.stmts.names)

        -- its variables are those that it adds
        pub definition_vars : t.params ++ t.locals ≡ vars_from n.variables (length defined.added.variables)
        definition_vars = ap (λ vs. vs ++ t.locals) ((params_entries
            (is_main_name s.name) at 1 qs).by inside n)
            ∙ vars-append n.variables (length (params_of true).variables) (length body.variables)
            ∙ ap (vars_from n.variables) (sym (length-append (params_of true).variables body.variables))
