-- Parameters: what they add fits the parts of the program, and each has the type and shape that its
-- declaration says.
use Rattle.std.proofs.Common.{◌≡◌, ℕ, ◌+◌, ◌≤◌, Bool, true, false, Option, None, Some, List, [], ◌∷◌, ◌++◌, length, length-append, refl, sym, ◌∙◌, ap, subst, arith, option_map, unwrap_or}
use Rattle.std.specs.List.{list_all}
use Rattle.std.specs.Option.{is_some}
use Rattle.std.proofs.lemmas.Bool.{and_from, and_parts}
use Rattle.std.proofs.lemmas.List.Folds.{list_all-append}
use Rattle.std.proofs.lemmas.List.Sums.{sum_by-append}
use Rattle.ba_numbers.specs.declared.ids.At.{At}
use Rattle.ba_numbers.specs.declared.ids.VarId.{VarId}
use Rattle.ba_numbers.specs.declared.numbers.CType.TheVariants.{I32}
use Rattle.ba_trees.specs.declared.tree.declarations.ArrayLength.{ArrayLength}
use Rattle.ba_trees.specs.declared.tree.declarations.Parameter.{Parameter}
use Rattle.ba_tree.specs.Facts.{holds, shape_at, is_parameter_shape, own_elements, is_own_length}
use Rattle.ba_tree.specs.declared.tree.Function.{Function}
use Rattle.ba_tree.specs.declared.tree.Parts.{Parts}
use Rattle.ba_tree.specs.declared.tree.Variable.{Variable}
use Rattle.ba_typing.specs.Declarations.{Added, nothing_added, ◌and◌, Before, behind, Part, faults_added, add_length, add_variable, TypedLength}
use Rattle.ba_typing.specs.Faults.{void_faults, limit_faults, parameter_limit, tag_faults}
use Rattle.ba_typing.specs.Files.{var_in, vars_of, add_param, add_params, declare_param, param_length, param_shape, position_of_param, name_of_param, check_length, bad_length_faults}
use Rattle.ba_typing.specs.Names.{Scope, knowing, words_of, type_named, tag_of}
use Rattle.ba_typing.specs.declared.meanings.Entity.{Entity}
use Rattle.ba_typing.specs.declared.meanings.Entity.TheVariants as entity
use Rattle.ba_typing.specs.declared.meanings.Entry.{Entry}
use Rattle.ba_typing.specs.declared.names.Exits.{Exits}
use Rattle.ba_typing_facts.proofs.AdditionFacts.{InScope, IsPiece, piece_none, HasPiece, piece_then, PieceAt, IsCounted, elements_of, few_none}
use Rattle.ba_typing_facts.proofs.DeclarationFacts.{length_at, variable_at}
use Rattle.ba_typing_facts.proofs.FittingFacts.{nil_left, nil_right}
use Rattle.ba_typing_facts.proofs.LeafFacts.{within}
use Rattle.ba_typing_facts.proofs.LengthFacts.{IsLengthOf, array_length_is}
use Rattle.ba_typing_facts.proofs.ScopeFacts.{IsEntity, AreEntries}
use Rattle.ba_typing_facts.proofs.SequenceFacts.{AreStmts, stmts_none}

-- PIECES

module _ (p : Parts) (owned : List VarId) (f : Function) (inside : Bool) where
  check_piece : {exits : Exits} (n : Before) (at : At) (l : TypedLength)
      → (l.faults ≡ [] → is_some l.count ≡ true → l.calls ≡ 0) → bad_length_faults at l.count ++ l.faults ≡ []
      → IsPiece p owned f inside exits n (record nothing_added {
        calls = l.calls;
        faults = bad_length_faults at l.count ++ l.faults;
      })
  check_piece {exits} n at l no_calls none =
      from l.count (nil_left (bad_length_faults at l.count) l.faults none)
      (no_calls (nil_right (bad_length_faults at l.count) l.faults none)) where
        from : (count : Option ℕ) → bad_length_faults at count ≡ [] → (is_some count ≡ true → l.calls ≡ 0)
            → IsPiece p owned f inside exits n (record nothing_added {
              calls = l.calls;
              faults = bad_length_faults at l.count ++ l.faults;
            })
        from None wrong zero_calls = cc
        from (Some c) fits zero_calls = let few = few_none n [] in record {
          stmts = subst (λ k. AreStmts p owned n.statements 0 n.calls k exits []) (sym (zero_calls refl))
              (stmts_none p owned n.statements n.calls exits);
          entries = tt;
          few = record { variables = few.variables; statements = few.statements; elements = few.elements };
        }

  check_at : (values : Option ℕ) (at : At) (l : Option TypedLength) → IsLengthOf p owned values l →
      (scope : Scope) (n : Before)
      → PieceAt p owned f inside (check_length at l) scope n
  check_at values at None h scope n stands none = piece_none p owned f inside n []
  check_at values at (Some l) h scope n stands none = check_piece n at l h.no_calls none

  declared_piece : (defined : Bool) (at : At) (name : List ℕ) (v : Variable) (l : Option TypedLength)
      → IsLengthOf p owned None l → HasPiece p owned f inside (declare_param defined at name v l)
  declared_piece false at name v l h = record { by = λ scope in_scope. check_at None at l h scope }
  declared_piece true at name v l h = piece_then p owned f inside (add_length at l)
      (add_variable [] at name v)
      (record { by = λ scope in_scope. length_at p owned f inside None at l h scope })
      (record { by = λ scope in_scope. variable_at p owned f inside [] at name v scope })

  param_length_is : (is_main : Bool) (at : At) (o : Option ArrayLength) (scope : Scope)
      → InScope p owned f inside scope
      → (calls : ℕ) → IsLengthOf p owned None (param_length is_main at o scope calls)
  param_length_is false at o scope h calls = tt
  param_length_is true at o scope h calls = array_length_is p owned scope h.sound at None calls o

  param_piece : (is_main defined : Bool) (at : At) (number : ℕ) (q : Parameter)
      → HasPiece p owned f inside (add_param is_main defined at number q)
  param_piece is_main defined function_at number q = record {
    by = λ scope in_scope n stands none.
        let at = position_of_param function_at q in
        let t = type_named q.type_name in
        let l = param_length is_main at q.length scope n.calls in
        let w : Variable = record { t = unwrap_or t I32; shape = param_shape is_main q.length l } in
        let faulty : Part = (λ scope n. faults_added (void_faults t at ++ limit_faults parameter_limit
        number at ++ tag_faults scope (tag_of (words_of q.type_name)))) in
        (piece_then p owned f inside (declare_param defined at (name_of_param q.name) w l) faulty
        (declared_piece defined at (name_of_param q.name) w l (param_length_is is_main at q.length scope
        in_scope n.calls))
        (record { by = λ scope in_scope n stands none. piece_none p owned f inside n _ })).by scope in_scope
        n stands none;
  }

  pub params_piece : (is_main defined : Bool) (at : At) (number : ℕ) (qs : List Parameter)
      → HasPiece p owned f inside (add_params is_main defined at number qs)
  params_piece is_main defined at number [] = record {
    by = λ scope in_scope n stands none. piece_none p
        owned f inside n [];
  }
  params_piece is_main defined at number (q ∷ qs) = piece_then p owned f inside
      (add_param is_main defined at number q) _
      (param_piece is_main defined at number q) (params_piece is_main defined at (number + 1) qs)

-- SHAPES

param_shape_is : (is_main : Bool) (o : Option ArrayLength) (l : Option TypedLength)
    → is_parameter_shape is_main (param_shape is_main o l) ≡ true
param_shape_is is_main None l = refl
param_shape_is false (Some length) l = refl
param_shape_is true (Some length) None = refl
param_shape_is true (Some length) (Some l) = refl

abbrev is_shaped : Bool → Entity → Bool
is_shaped is_main (entity.Variable o) = is_parameter_shape is_main o.variable.shape
is_shaped is_main (entity.Constant z) = true
is_shaped is_main entity.Tag = true

abbrev pub AreShaped : Bool → List Entry → Type 0
AreShaped is_main es = list_all (λ (e : Entry). is_shaped is_main e.entity) es ≡ true

shaped-and : (is_main : Bool) (es fs : List Entry) → AreShaped is_main es → AreShaped is_main fs
    → AreShaped is_main (es ++ fs)
shaped-and is_main es fs h k =
    list_all-append (λ (e : Entry). is_shaped is_main e.entity) es fs ∙ and_from _ _ h k

no_entries : (at : At) (l : Option TypedLength) (scope : Scope) (n : Before) →
    (add_length at l scope n).entries ≡ []
no_entries at None scope n = refl
no_entries at (Some l) scope n = refl

-- a parameter of a definition is one entry
abbrev pub entry_of : Bool → At → Parameter → Scope → Before → Entry
entry_of is_main function_at q scope n =
    let at = position_of_param function_at q in
    let l = param_length is_main at q.length scope n.calls in
    let a = add_length at l scope n in record {
      name = name_of_param q.name;
      depth = scope.depth;
      entity = entity.Variable (record {
        var = record { 0 = (behind n a).variables };
        variable = record {
          t = unwrap_or (type_named q.type_name) I32;
          shape = param_shape is_main q.length l;
        };
      });
    }

pub one_entry : (is_main : Bool) (at : At) (number : ℕ) (q : Parameter) (scope : Scope) (n : Before)
    → (add_param is_main true at number q scope n).entries ≡ entry_of is_main at q scope n ∷ []
one_entry is_main function_at number q scope n =
    let at = position_of_param function_at q in
    ap (λ es. (es ++ (entry_of is_main function_at q scope n ∷ [])) ++ [])
    (no_entries at (param_length is_main at q.length scope n.calls) scope n)

pub params_shaped : (is_main : Bool) (at : At) (number : ℕ) (qs : List Parameter) (scope : Scope) (n : Before)
    → AreShaped is_main (add_params is_main true at number qs scope n).entries
params_shaped is_main at number [] scope n = refl
params_shaped is_main at number (q ∷ qs) scope n =
    let a = add_param is_main true at number q scope n in
    let b = add_params is_main true at (number + 1) qs (knowing a.entries scope) (behind n a) in
    shaped-and is_main a.entries b.entries
    (subst (AreShaped is_main) (sym (one_entry is_main at number q scope n))
    (and_from _ _ (param_shape_is is_main q.length
    (param_length is_main (position_of_param at q) q.length scope n.calls)) refl))
    (params_shaped is_main at (number + 1) qs (knowing a.entries scope) (behind n a))

pub shaped_are : (p : Parts) (owned : List VarId) (is_main : Bool) (es : List Entry) → AreEntries p owned es
    → AreShaped is_main es → list_all (λ v. holds (is_parameter_shape is_main) (shape_at p v)) (vars_of es)
    ≡ true
shaped_are p owned is_main [] h shaped = refl
shaped_are p owned is_main (e ∷ es) h shaped =
    let both = and_parts (is_shaped is_main e.entity) _ shaped in
    let test : VarId → Bool = (λ v. holds (is_parameter_shape is_main) (shape_at p v)) in
    list_all-append test (var_in e.entity) (vars_of es)
    ∙ and_from _ _ (from e.entity h.0 both.0) (shaped_are p owned is_main es h.1 both.1) where
      from : (x : Entity) → IsEntity p owned x → is_shaped is_main x ≡ true
          → list_all (λ v. holds (is_parameter_shape is_main) (shape_at p v)) (var_in x) ≡ true
      from (entity.Variable o) there is = and_from _ _ (ap (λ s. holds (is_parameter_shape is_main)
          (option_map (λ (w : Variable). w.shape) s)) there.place ∙ is) refl
      from (entity.Constant z) there is = refl
      from entity.Tag there is = refl

-- HOW MANY

-- at most as many variables as entries
pub few_vars : (es : List Entry) → length (vars_of es) ≤ length es
few_vars [] = omega arith
few_vars (e ∷ es) =
    let rest = few_vars es in
    let split = length-append (var_in e.entity) (vars_of es) in
    let here = from e.entity in
    omega (arith, rest, split, here) where
      from : (x : Entity) → length (var_in x) ≤ 1
      from (entity.Variable o) = omega arith
      from (entity.Constant z) = omega arith
      from entity.Tag = omega arith

pub few_params : (is_main : Bool) (at : At) (number : ℕ) (qs : List Parameter) (scope : Scope) (n : Before)
    → (add_params is_main true at number qs scope n).faults ≡ [] → number ≤ 33
    → number + length (add_params is_main true at number qs scope n).entries ≤ 33
few_params is_main at number [] scope n none few = omega (arith, few)
few_params is_main at number (q ∷ qs) scope n none few =
    let a = add_param is_main true at number q scope n in
    let b = add_params is_main true at (number + 1) qs (knowing a.entries scope) (behind n a) in
    let declared = declare_param true (position_of_param at q) (name_of_param q.name) (record {
      t = unwrap_or (type_named q.type_name) I32;
      shape = param_shape is_main q.length (param_length is_main (position_of_param at q) q.length scope
          n.calls);
    }) (param_length is_main (position_of_param at q) q.length scope n.calls) scope n in
    let void_none = void_faults (type_named q.type_name) (position_of_param at q) in
    let limit = limit_faults parameter_limit number (position_of_param at q) in
    let tags = tag_faults (knowing declared.entries scope) (tag_of (words_of q.type_name)) in
    let own = nil_right void_none limit (nil_left (void_none ++ limit) tags
    (nil_right declared.faults (void_none ++ limit ++ tags) (nil_left a.faults b.faults none))) in
    let below = within parameter_limit number (position_of_param at q) own in
    let more : number + 1 ≤ 33 = omega (arith, below) in
    let rest = few_params is_main at (number + 1) qs (knowing a.entries scope) (behind n a)
    (nil_right a.faults b.faults none) more in
    let one = ap length (one_entry is_main at number q scope n) in
    let all = length-append a.entries b.entries in
    omega (arith, rest, one, all)

-- ELEMENTS AND LENGTHS

pub record IsSized (a : Added) : Type 0 where
  pub elements : elements_of a.variables ≡ a.elements
  pub lengths : list_all is_own_length a.variables ≡ true

pub sized_counted : (a : Added) → IsCounted a → IsSized a
sized_counted a h = record { elements = h.elements; lengths = h.lengths }

pub sized-and : (a b : Added) → IsSized a → IsSized b → IsSized (a and b)
sized-and a b h k = record {
  elements = sum_by-append (λ (v : Variable). own_elements v.shape) a.variables b.variables
      ∙ ap (λ m. m + elements_of b.variables) h.elements ∙ ap (λ m. a.elements + m) k.elements;
  lengths = list_all-append is_own_length a.variables b.variables
      ∙ and_from (list_all is_own_length a.variables) (list_all is_own_length b.variables) h.lengths
      k.lengths;
}

pub sized_none : (a : Added) → a.variables ≡ [] → a.elements ≡ 0 → IsSized a
sized_none a vs es = record {
  elements = ap elements_of vs ∙ sym es;
  lengths = ap
      (list_all is_own_length) vs;
}
