-- Names, elements of arrays, arguments and calls: what is said of them holds of their typed trees, if there
-- is no fault.
use Rattle.std.proofs.Common.{◌≡◌, ℕ, ◌+◌, ◌≤◌, max, Bool, true, false, ◌&&◌, not, cond, ◌==◌, Option, None, Some, List, [], ◌∷◌, ◌++◌, map, flat_map, length, refl, sym, ◌∙◌, ap, subst, arith}
use Rattle.std.specs.Prelude.{option_and_then, unwrap_or}
use Rattle.std.specs.Option.{is_some}
use Rattle.std.specs.List.{range_with_len}
use Rattle.std.proofs.lemmas.Bool.{and_from, eqb-true, not-false}
use Rattle.std.proofs.lemmas.Option.{none-some}
use Rattle.ba_numbers.specs.declared.ids.At.{At}
use Rattle.ba_numbers.specs.declared.ids.FnId.{FnId}
use Rattle.ba_numbers.specs.declared.ids.VarId.{VarId}
use Rattle.ba_numbers.specs.declared.numbers.CType.{CType}
use Rattle.ba_numbers.specs.declared.numbers.CType.TheVariants.{I32}
use Rattle.ba_tree.specs.Facts.{holds, shape_at, type_at, is_value, is_array, is_value_shape, is_passed_shape, fits_parameter, fits_parameters, is_call, result_at, givens}
use Rattle.ba_numbers.specs.Numbers.{is_in}
use Rattle.ba_numbers.specs.Types.{is_promoted}
use Rattle.ba_tree.specs.declared.tree.Function.{Function}
use Rattle.ba_tree.specs.declared.tree.Parts.{Parts}
use Rattle.ba_typing.specs.Expressions.{Typed, Typing, TypedArg, tree_as, placeholder, typed_name, typed_element, array_given, named_array, value_arg, array_arg, typed_arg, typed_args, params_of_called, function_of, result_of, definition_of_meaning, typed_call, typed_called, trees_of_args, expressions_of_args}
use Rattle.ba_numbers.specs.Types.{promoted}
use Rattle.ba_typing.specs.Faults.{array_name_faults, fault, fault_if, count_of_params, definition_faults, call_faults}
use Rattle.ba_typing.specs.Names.{Scope, meaning_of, definition_in, is_main_name, is_array_object}
use Rattle.ba_typing.specs.declared.meanings.Meaning.{Meaning}
use Rattle.ba_typing.specs.declared.meanings.Meaning.TheVariants as meaning
use Rattle.ba_tree.specs.Trees.{ArgTree, args_of}
use Rattle.ba_tree.specs.Trees as tree
use Rattle.ba_typing.specs.declared.fault.Cause.{Cause}
use Rattle.ba_typing.specs.declared.fault.Cause.TheVariants.{UnknownName, WrongKind, WrongCount}
use Rattle.ba_typing.specs.declared.meanings.ParamType.{ParamType}
use Rattle.ba_typing.specs.declared.meanings.Signature.{Signature}
use Rattle.ba_typing_facts.proofs.TreeFacts.{facts_of, arg_facts_of, args_facts_of, args_facts-map, call_facts}
use Rattle.ba_typing_facts.proofs.FittingFacts.{Fits, AreFit, operator_fits, variable_fits, call_fits, nil_left, nil_right}
use Rattle.ba_typing_facts.proofs.OperatorFacts.{IsTyped, IsBare, IsWellTyped, clean, as_typed, promoted_is, same_type-of}
use Rattle.ba_typing_facts.proofs.ScopeFacts.{IsScope, IsMeaning, IsFunction, FitsParam, FitParams, IsGiven, given_is, value_is, array_is, type_is}

-- no fault: what is so is not
pub not_so : (b : Bool) (cause : Cause) (at : At) → fault_if b cause at ≡ [] → b ≡ false
not_so true cause at h = cc
not_so false cause at h = refl

-- EXPRESSIONS IN EVERY SCOPE

-- what names an array is not constant
abbrev pub IsNoArray : Scope → Typed → Type 0
IsNoArray scope e = (t : Option CType) (v : VarId) → named_array scope t e.name ≡ Some v
    → e.is_constant ≡ false

pub unnamed : (scope : Scope) (e : Typed) → e.name ≡ None → IsNoArray scope e
unnamed scope e is t v named = absurd (none-some v (ap (named_array scope t) (sym is) ∙ named))

pub record IsWellTyping (p : Parts) (owned : List VarId) (s : Typing) : Type 0 where
  pub by : (scope : Scope) → IsScope p owned scope → (before : ℕ) →
      IsWellTyped p owned before (s scope before)
  pub no_array : (scope : Scope) (before : ℕ) → IsNoArray scope (s scope before)

abbrev pub AreWellTypings : Parts → List VarId → List Typing → Type 0
AreWellTypings p owned [] = Unit {0}
AreWellTypings p owned (s ∷ ss) = IsWellTyping p owned s × AreWellTypings p owned ss

-- a name that means a constant means no array
pub name_no_array : (scope : Scope) (at : At) (name : List ℕ)
    → IsNoArray scope (typed_name at name (meaning_of scope name))
name_no_array scope at name = from (meaning_of scope name) refl where
  from : (m : Meaning) → meaning_of scope name ≡ m → IsNoArray scope (typed_name at name m)
  from meaning.Unknown is t v named = refl
  from meaning.Function is t v named = refl
  from (meaning.Variable o) is t v named = refl
  from (meaning.Constant z) is t v named = absurd (none-some v (sym (ap (array_given t) is) ∙ named))

module _ (p : Parts) (owned : List VarId) where
  -- NAMES

  module _ (before : ℕ) (at : At) where
    name_right : (name : List ℕ) (m : Meaning) → IsMeaning p owned m → (typed_name at name m).faults ≡ []
        → IsTyped p owned before (typed_name at name m).calls (typed_name at name m).height
        (typed_name at name m).is_constant (typed_name at name m).t (typed_name at name m).tree
    name_right name meaning.Unknown h none = cc
    name_right name meaning.Function h none = cc
    name_right name (meaning.Constant z) h none = record {
      fits = operator_fits owned before [] [] I32 (is_in I32 z) tt h;
      typed = refl;
    }
    name_right name (meaning.Variable o) h none =
        from (is_array_object o) (not_so (is_array_object o) _ at (nil_left _ [] none))
        (value_is p owned o h) where
          from : (b : Bool) → b ≡ false → (b ≡ false → is_value p o.var ≡ true)
              → IsTyped p owned before 0 (1 + 0) false (cond b I32 o.variable.t) (cond b placeholder
              (tree.var o.var))
          from true wrong h = cc
          from false is there = record {
            fits = variable_fits owned o.var h.is_owned
                (operator_fits owned before [] [] (type_at p o.var) (is_value p o.var) tt (there refl));
            typed = type_is p owned o h;
          }

    -- a name has no calls
    pub name_calls : (name : List ℕ) (m : Meaning) → (typed_name at name m).calls ≡ 0
    name_calls name meaning.Unknown = refl
    name_calls name meaning.Function = refl
    name_calls name (meaning.Constant z) = refl
    name_calls name (meaning.Variable o) = refl

    name_height : (name : List ℕ) (m : Meaning) → 1 ≤ (typed_name at name m).height
    name_height name meaning.Unknown = omega arith
    name_height name meaning.Function = omega arith
    name_height name (meaning.Constant z) = omega arith
    name_height name (meaning.Variable o) = omega arith

    pub name_typed : (name : List ℕ) (m : Meaning) → IsMeaning p owned m → IsWellTyped p owned before
        (typed_name at name m)
    name_typed name m h = record {
      named = λ n is. record { calls = name_calls name m; height = name_height name m };
      right = name_right name m h;
    }

    element_right : (m : Meaning) (i : Typed) → IsMeaning p owned m → IsWellTyped p owned before i
        → (typed_element at m i).faults ≡ []
        → IsTyped p owned before (typed_element at m i).calls (typed_element at m i).height false
        (typed_element at m i).t (typed_element at m i).tree
    element_right meaning.Unknown i h k none = cc
    element_right meaning.Function i h k none = cc
    element_right (meaning.Constant z) i h k none = cc
    element_right (meaning.Variable e) i h k none =
        let index = as_typed p owned i (promoted i.t)
        (k.right (clean (i ∷ []) (nil_right (array_name_faults (meaning.Variable e) at) (i.faults ++ [])
        none)).0) in
        from (is_array_object e) (not_so (not (is_array_object e)) _ at (nil_left (array_name_faults
        (meaning.Variable e) at) (i.faults ++ []) none))
        (array_is p owned e h) index where
          from : (b : Bool) → not b ≡ false → (b ≡ true → is_array p e.var ≡ true)
              → IsTyped p owned before i.calls i.height i.is_constant (promoted i.t) (tree_as
              (promoted i.t) i)
              → IsTyped p owned before (0 + i.calls) (1 + max i.height 0) false (cond b e.variable.t I32)
              (tree.element (cond b e.var (record { 0 = 0 })) (tree_as (promoted i.t) i))
          from false wrong there x = cc
          from true is there x = record {
            fits = variable_fits owned e.var h.is_owned
                (operator_fits owned before (i ∷ []) (facts_of p (tree_as (promoted i.t) i) ∷ [])
                (type_at p e.var) _
                (x.fits, tt) (and_from _ _ (there refl) (ap is_promoted x.typed ∙ promoted_is i.t)));
            typed = type_is p owned e h;
          }

    pub element_typed : (m : Meaning) (i : Typed) → IsMeaning p owned m → IsWellTyped p owned before i
        → IsWellTyped p owned before (typed_element at m i)
    element_typed m i h k = record {
      named = λ n wrong. cc;
      right = element_right m i h k;
    }

  -- ARGUMENTS

  -- an argument fits, and fits its parameter; it has as many calls as the expression
  pub record IsArg (before count : ℕ) (v : VarId) (a : TypedArg) : Type 0 where
    pub fits : Fits owned before a.expression.calls a.expression.height a.expression.is_constant
        (arg_facts_of p a.given).given
    pub fits_param : fits_parameter p v (arg_facts_of p a.given) ≡ true
    pub same_calls : a.expression.calls ≡ count

  value_arg_is : (before : ℕ) (v : VarId) (t : Option CType) (e : Typed) → t ≡ Some (type_at p v)
      → holds is_value_shape (shape_at p v) ≡ true → IsWellTyped p owned before e → e.faults ≡ []
      → IsArg before e.calls v (value_arg t e)
  value_arg_is before v t e is shape h none =
      let x = as_typed p owned e (unwrap_or t e.t) (h.right none) in record {
        fits = x.fits;
        fits_param = and_from _ _ (same_type-of (x.typed ∙ ap (λ u. unwrap_or u e.t) is)) shape;
        same_calls = refl;
      }

  array_arg_is : (before : ℕ) (v : VarId) (e : Typed) (o : Option VarId)
      → ((w : VarId) → o ≡ Some w → IsGiven p owned w (type_at p v)) → ((w : VarId) → o ≡ Some w → IsBare e)
      → ((w : VarId) → o ≡ Some w → e.is_constant ≡ false) → holds is_passed_shape (shape_at p v) ≡ true
      → (array_arg o e).expression.faults ≡ []
      → IsArg before e.calls v (array_arg o e)
  array_arg_is before v e None given bare changes shape none = cc
  array_arg_is before v e (Some w) given bare changes shape none =
      let g = given w refl in let b = bare w refl in record {
        fits = record {
          sound = and_from _ _ g.array refl;
          low = let h = b.height in omega (arith, h);
          names = and_from _ _ g.is_owned refl;
          numbers = ap (range_with_len (before + 1)) (sym b.calls);
          plain = λ wrong. let c = changes w refl in cc;
        };
        fits_param = and_from _ _ (same_type-of g.typed) shape;
        same_calls = refl;
      }

  -- an expression that names an array is a name
  bare_from : (scope : Scope) (before : ℕ) (t : Option CType) (e : Typed) (name : Option (List ℕ)) → e.name
      ≡ name
      → IsWellTyped p owned before e → (w : VarId) → named_array scope t name ≡ Some w → IsBare e
  bare_from scope before t e None is h w k = cc
  bare_from scope before t e (Some name) is h w k = h.named name is

  module _ (scope : Scope) (sound : IsScope p owned scope) where
    arg_is : (before : ℕ) (v : VarId) (q : ParamType) (e : Typed) → FitsParam p v q →
        IsWellTyped p owned before e → IsNoArray scope e
        → (typed_arg scope (Some q) e).expression.faults ≡ [] →
        IsArg before e.calls v (typed_arg scope (Some q) e)
    arg_is before v q e fit h changes none = from q.is_array fit.shape none where
      from : (b : Bool) → holds (cond b is_passed_shape is_value_shape) (shape_at p v) ≡ true
          → (cond b (array_arg (named_array scope q.t e.name) e) (value_arg q.t e)).expression.faults ≡ []
          → IsArg before e.calls v (cond b (array_arg (named_array scope q.t e.name) e) (value_arg q.t e))
      from false shape none = value_arg_is before v q.t e fit.typed shape h none
      from true shape none = array_arg_is before v e (named_array scope q.t e.name)
          (λ w is. given_is p owned scope sound (type_at p v) e.name w
          (ap (λ t. named_array scope t e.name) (sym fit.typed) ∙ is))
          (bare_from scope before q.t e e.name refl h) (changes q.t) shape none

    -- arguments fit, and fit the parameters
    pub record AreArgs (before : ℕ) (vs : List VarId) (args : List TypedArg) : Type 0 where
      pub fit : AreFit owned before (expressions_of_args args) (givens (map (arg_facts_of p) (trees_of_args
          args)))
      pub fit_params : fits_parameters p vs (map (arg_facts_of p) (trees_of_args args)) ≡ true

    one_more : (before : ℕ) (v : VarId) (vs : List VarId) (count : ℕ) (a : TypedArg) (args : List TypedArg)
        → IsArg before count v a → AreArgs (before + count) vs args → AreArgs before (v ∷ vs) (a ∷ args)
    one_more before v vs count a args h k = record {
      fit = (
        h.fits,
        subst (λ n. AreFit owned (before + n) (expressions_of_args args)
            (givens (map (arg_facts_of p) (trees_of_args args)))) (sym h.same_calls) k.fit,
      );
      fit_params = and_from _ _ h.fits_param k.fit_params;
    }

    args_are : (before : ℕ) (vs : List VarId) (qs : List ParamType) (typings : List Typing)
        → AreWellTypings p owned typings → FitParams p vs qs → length typings ≡ length qs
        → flat_map (λ (e : Typed). e.faults) (expressions_of_args (typed_args scope before qs typings)) ≡ []
        → AreArgs before vs (typed_args scope before qs typings)
    args_are before [] [] [] h fit same none = record { fit = tt; fit_params = refl }
    args_are before [] (q ∷ qs) typings h fit same none = absurd fit
    args_are before (v ∷ vs) [] typings h fit same none = absurd fit
    args_are before [] [] (s ∷ ss) h fit same none = absurd (let e : ⊥ = omega arith in e)
    args_are before (v ∷ vs) (q ∷ qs) [] h fit same none = absurd (let e : ⊥ = omega arith in e)
    args_are before (v ∷ vs) (q ∷ qs) (s ∷ ss) h fit same none =
        let e = s scope before in
        let a = typed_arg scope (Some q) e in
        let args = typed_args scope (before + e.calls) qs ss in
        let rest = flat_map (λ (e : Typed). e.faults) (expressions_of_args args) in
        one_more before v vs e.calls a args
        (arg_is before v q e fit.0 (h.0.by scope sound before) (h.0.no_array scope before)
        (nil_left a.expression.faults rest none))
        (args_are (before + e.calls) vs qs ss h.1 fit.1 (let fewer : length ss
        ≡ length qs = omega arith in fewer)
        (nil_right a.expression.faults rest none))

    -- CALLS

    pub record IsCalled (before : ℕ) (as_value : Bool) (f : FnId) (result : CType)
        (args : List TypedArg) : Type 0 where
      pub args_fit : AreFit owned (before + 1) (expressions_of_args args) (givens (map (arg_facts_of p)
          (trees_of_args args)))
      pub calls : is_call p f (map (arg_facts_of p) (trees_of_args args)) ≡ true
      pub gives : as_value ≡ true → result_at p f ≡ Some result

    count_is : (o : Option (List ParamType)) → count_of_params o ≡ length (unwrap_or o [])
    count_is None = refl
    count_is (Some ps) = refl

    some_result : (o : Option CType) → not (is_some o) ≡ false → o ≡ Some (unwrap_or o I32)
    some_result None h = cc
    some_result (Some t) h = refl

    module _ (as_value : Bool) (at : At) (typings : List Typing) (are : AreWellTypings p owned typings)
        (before : ℕ) where
      definition_called : (s : Signature) → IsFunction p s
          → definition_faults (Some s) as_value (length typings) at ≡ []
          → flat_map (λ (e : Typed). e.faults) (expressions_of_args (typed_args scope (before + 1)
          (unwrap_or s.params []) typings)) ≡ []
          → IsCalled before as_value s.function (unwrap_or s.result I32) (typed_args scope (before + 1)
          (unwrap_or s.params []) typings)
      definition_called s f none args_none =
          let value_fault = fault_if (as_value && not (is_some s.result)) WrongKind at in
          let count_fault = fault_if (not (length typings == count_of_params s.params)) WrongCount at in
          let counted = not-false _ (not_so (not (length typings == count_of_params s.params)) WrongCount at
          (nil_right value_fault count_fault none)) in
          let args = args_are (before + 1) f.definition.params (unwrap_or s.params []) typings are f.params
          (eqb-true (length typings) (count_of_params s.params) counted
          ∙ count_is s.params) args_none in record {
            args_fit = args.fit;
            calls = and_from _ _ (ap not f.other)
                (ap (holds (λ (g : Function). fits_parameters p g.params
                (map (arg_facts_of p) (trees_of_args (typed_args scope (before + 1)
                (unwrap_or s.params []) typings))))) f.place
                ∙ args.fit_params);
            gives = λ as_one. ap (option_and_then (λ (g : Function). g.result)) f.place ∙ f.result
                ∙ some_result s.result (ap (λ b. b && not (is_some s.result)) (sym as_one)
                ∙ not_so (as_value && not (is_some s.result)) WrongKind at (nil_left value_fault count_fault
                none));
          }

      called_from : (m : Meaning) (d : Option Signature) (is_main : Bool)
          → ((s : Signature) → d ≡ Some s → is_main ≡ false → IsFunction p s)
          → call_faults m is_main (definition_of_meaning m d) as_value (length typings) at ≡ []
          → flat_map (λ (e : Typed). e.faults) (expressions_of_args (typed_args scope (before + 1)
          (params_of_called
          (definition_of_meaning m d)) typings)) ≡ []
          → IsCalled before as_value (function_of (definition_of_meaning m d)) (result_of
          (definition_of_meaning m d))
          (typed_args scope (before + 1) (params_of_called (definition_of_meaning m d)) typings)
      called_from meaning.Unknown d is_main f none args_none = cc
      called_from (meaning.Variable e) d is_main f none args_none = cc
      called_from (meaning.Constant z) d is_main f none args_none = cc
      called_from meaning.Function None is_main f none args_none =
          let missing = nil_right (fault_if is_main WrongKind at) (fault UnknownName at) none in cc
      called_from meaning.Function (Some s) is_main f none args_none =
          let main_fault = fault_if is_main WrongKind at in
          let others = definition_faults (Some s) as_value (length typings) at in
          definition_called s (f s refl (not_so is_main WrongKind at (nil_left main_fault others none)))
          (nil_right main_fault others none) args_none

      pub call_is : (name : List ℕ) → (typed_call as_value at name typings scope before).faults ≡ []
          → flat_map (λ (e : Typed). e.faults) (expressions_of_args (typed_call as_value at name typings scope
          before).args) ≡ []
          → IsCalled before as_value (typed_call as_value at name typings scope before).function
          (typed_call as_value at name typings scope before).result (typed_call as_value at name typings scope
          before).args
      call_is name = called_from (meaning_of scope name) (definition_in scope.functions name)
          (is_main_name name)
          (sound.functions name)

    args_moved : {before count height : ℕ} {constant : Bool} (f : FnId) (args : List ArgTree)
        → Fits owned before count height constant (call_facts p f (map (arg_facts_of p) args))
        → Fits owned before count height constant (call_facts p f (args_facts_of p (args_of args)))
    args_moved {before} {count} {height} {constant} f args = subst
        (λ xs. Fits owned before count height constant (call_facts p f xs)) (sym (args_facts-map p args))

    pub called_typed : (at : At) (name : List ℕ) (typings : List Typing) → AreWellTypings p owned typings →
        (before : ℕ)
        → IsWellTyped p owned before (typed_called at (typed_call true at name typings scope before))
    called_typed at name typings are before =
        let c = typed_call true at name typings scope before in record {
          named = λ n wrong. cc;
          right = λ none.
              let in_args = flat_map (λ (e : Typed). e.faults) (expressions_of_args c.args) in
              let h = call_is true at typings are before name (nil_left c.faults in_args none)
              (nil_right c.faults in_args none) in record {
                fits = call_fits owned c.call refl (args_moved c.function (trees_of_args c.args)
                    (operator_fits owned (before + 1) (expressions_of_args c.args) (givens (map
                    (arg_facts_of p)
                    (trees_of_args c.args)))
                    (unwrap_or (result_at p c.function) I32) _ h.args_fit
                    (and_from _ _ h.calls (ap is_some (h.gives refl)))));
                typed = ap (λ o. unwrap_or o I32) (h.gives refl);
              };
        }
