-- The declarations of functions in a file without faults: their numbers, their count, and that no name is
-- defined twice. The functions of the program are those that they declare.
use Rattle.std.proofs.Common.{true≢false, ◌≡◌, ℕ, ◌+◌, ◌≤◌, Bool, true, false, ◌&&◌, ◌||◌, ◌==◌, cond, Option, None, Some, List, [], ◌∷◌, ◌++◌, map, filter, length, append_assoc, append-nil, refl, sym, ◌∙◌, ap, subst, arith, slice_get, unwrap_or}
use Rattle.std.specs.List.{list_any}
use Rattle.std.proofs.lemmas.Bool.{eqb-true, eq-eqb, false_from_ne_true}
use Rattle.std.proofs.lemmas.Option.{same_Some}
use Rattle.ba_numbers.specs.declared.ids.At.{At}
use Rattle.ba_numbers.specs.declared.ids.FnId.{FnId}
use Rattle.ba_numbers.specs.declared.numbers.CType.{CType}
use Rattle.ba_tokens.specs.declared.token.Token.{Token}
use Rattle.ba_trees.specs.declared.tree.declarations.Parameter.{Parameter}
use Rattle.ba_trees.specs.declared.tree.declarations.Parameters.{Parameters}
use Rattle.ba_trees.specs.declared.tree.statements.External.{External}
use Rattle.ba_trees.specs.declared.tree.statements.ExternalForm.{ExternalForm}
use Rattle.ba_trees.specs.declared.tree.statements.ExternalForm.TheVariants as form
use Rattle.ba_trees.specs.declared.tree.statements.FunctionEnd.{FunctionEnd}
use Rattle.ba_trees.specs.declared.tree.statements.FunctionEnd.TheVariants as end
use Rattle.ba_tree.specs.declared.tree.Function.{Function}
use Rattle.ba_tree.specs.declared.tree.Parts.{Parts}
use Rattle.ba_typing.specs.Declarations.{Before, behind, in_order, add_specifiers}
use Rattle.ba_typing.specs.Statements.{parts_of_block}
use Rattle.ba_typing.specs.Faults.{twice_faults, limit_faults, function_limit}
use Rattle.ba_typing.specs.Files.{params_of, type_of_param, signature_of_form, signature_of, definitions_of, with_signature, signatures_from, count_functions, signature_faults, vars_of, add_external_form, add_external, add_externals, function_scope, function_tree, add_params, body_parts, says_params, is_definition}
use Rattle.ba_typing.specs.Names.{Scope, knowing, name_of, same_name, is_declared_here, is_declared_in, definition_in, is_main_name, main_name, type_specified}
use Rattle.ba_tree.specs.Trees.{FunctionTree, tree_of_function}
use Rattle.ba_typing.specs.declared.fault.Cause.TheVariants.{Twice}
use Rattle.ba_typing.specs.declared.meanings.Signature.{Signature}
use Rattle.ba_typing.specs.declared.meanings.Space.TheVariants as space
use Rattle.ba_typing_facts.proofs.FittingFacts.{nil_left, nil_right}
use Rattle.ba_typing_facts.proofs.FunctionFacts.{function_at, tree_at}
use Rattle.ba_typing_facts.proofs.LeafFacts.{HasAt, has_left, has_right, within}
use Rattle.ba_typing_facts.proofs.ParameterListFacts.{params_fit}
use Rattle.ba_typing_facts.proofs.PrimaryFacts.{not_so}
use Rattle.ba_typing.proofs.SignatureFacts.{same_name-equal, same_name-self, found_is, AreDefinitions, found_holds, found_later, found_first, AreNumbered, found_unique, AreNew, count_one_more}
use Rattle.ba_typing_facts.proofs.ScopeFacts.{FitParams, IsFunction}

-- the signature of a declaration after so many definitions
abbrev pub declared_as : ℕ → Option CType → Token → Parameters → FunctionEnd → Signature
declared_as d t name params e = record {
  name = name_of name;
  result = t;
  params = cond (says_params e params) (Some (map type_of_param (params_of params))) None;
  is_definition = is_definition e;
  function = record { 0 = d };
}

-- NUMBERS

form_numbered : (d : ℕ) (t : Option CType) (f : ExternalForm) (ss : List Signature)
    → AreNumbered (d + definitions_of (signature_of_form d t f)) ss
    → AreNumbered d (with_signature (signature_of_form d t f) ss)
form_numbered d t (form.Variables declarators semicolon) ss h =
    subst (λ k. AreNumbered k ss) (let e : d + 0 ≡ d = omega arith in e) h
form_numbered d t (form.Function name opener params closer e) ss h = (refl, h)

pub signatures_numbered : (d : ℕ) (xs : List External) → AreNumbered d (signatures_from d xs)
signatures_numbered d [] = tt
signatures_numbered d (x ∷ xs) = form_numbered d (type_specified x.specifiers) x.form _
    (signatures_numbered (d + definitions_of (signature_of d x)) xs)

pub signature-append : (s : Option Signature) (ss : List Signature) → with_signature s ss
    ≡ with_signature s [] ++ ss
signature-append None ss = refl
signature-append (Some s) ss = refl

-- NAMES

-- a definition whose name has no fault is the first of its name
none_before : (name : List ℕ) (earlier : List Signature)
    → list_any (λ (e : Signature). e.is_definition) (filter (λ (e : Signature). same_name e.name name)
    earlier) ≡ false
    → definition_in earlier name ≡ None
none_before name [] h = refl
none_before name (s ∷ ss) h = from (same_name s.name name) h (none_before name ss) where
  apart : (b : Bool) (o : Option Signature) → b ≡ false → cond (b && true) (Some s) o ≡ o
  apart true o h = cc
  apart false o h = refl

  other : (b : Bool) (o : Option Signature) → cond (b && false) (Some s) o ≡ o
  other true o = refl
  other false o = refl

  first_false : (b c : Bool) → (b || c) ≡ false → (b ≡ false) × (c ≡ false)
  first_false false c h = (refl, h)
  first_false true c h = cc

  from : (b : Bool) → list_any (λ (e : Signature). e.is_definition)
      (cond b (s ∷ filter (λ (e : Signature). same_name e.name name) ss) (filter
      (λ (e : Signature). same_name e.name name) ss)) ≡ false
      → (list_any (λ (e : Signature). e.is_definition) (filter (λ (e : Signature). same_name e.name name)
      ss) ≡ false
      → definition_in ss name ≡ None)
      → cond (s.is_definition && b) (Some s) (definition_in ss name) ≡ None
  from true h rest = let both = first_false s.is_definition _ h in
      apart s.is_definition (definition_in ss name) both.0 ∙ rest both.1
  from false h rest = other s.is_definition (definition_in ss name) ∙ rest h

module _ (file : Scope) (earlier : List Signature) (s : Signature) (at : At)
    (none : signature_faults file earlier s at ≡ []) where
  abbrev here_fault : List Rattle.ba_typing.specs.declared.fault.Fault.Fault
  here_fault = twice_faults (is_declared_here space.Ordinary file s.name) at

  abbrev limit_fault : List Rattle.ba_typing.specs.declared.fault.Fault.Fault
  limit_fault = limit_faults function_limit (count_functions earlier + cond
      (is_declared_in earlier s.name) 0 1) at

  abbrev same : List Signature
  same = filter (λ (e : Signature). same_name e.name s.name) earlier

  abbrev twice_fault : List Rattle.ba_typing.specs.declared.fault.Fault.Fault
  twice_fault = twice_faults (s.is_definition && list_any (λ (e : Signature). e.is_definition) same) at

  three_none : here_fault ++ limit_fault ++ twice_fault ≡ []
  three_none = nil_left (here_fault ++ limit_fault ++ twice_fault) _ (nil_left _ _ none)

  pub is_new : s.is_definition ≡ true → definition_in earlier s.name ≡ None
  is_new is = none_before s.name earlier (ap (λ b. b && list_any (λ (e : Signature). e.is_definition) same)
      (sym is)
      ∙ not_so _ Twice at (nil_right (here_fault ++ limit_fault) twice_fault three_none))

  pub few_functions : count_functions (earlier ++ s ∷ []) ≤ 100
  few_functions =
      let few = within function_limit (count_functions earlier + cond (is_declared_in earlier s.name) 0 1) at
      (nil_right here_fault limit_fault (nil_left (here_fault ++ limit_fault) twice_fault three_none)) in
      let same = count_one_more earlier s in omega (arith, few, same)

-- EVERY DECLARATION IS NEW, and there are at most 100 functions

record IsStep (earlier : List Signature) (o : Option Signature) : Type 0 where
  news : (ss : List Signature) → AreNew (earlier ++ with_signature o []) ss → AreNew earlier
      (with_signature o ss)
  few : count_functions (earlier ++ with_signature o []) ≤ 100

no_step : (earlier : List Signature) → count_functions earlier ≤ 100 → IsStep earlier None
no_step earlier few = record {
  news = λ ss h. subst (λ es. AreNew es ss) (append-nil earlier) h;
  few = subst (λ es. count_functions es ≤ 100) (sym (append-nil earlier)) few;
}

one_step : (file : Scope) (earlier : List Signature) (s : Signature) (at : At)
    → signature_faults file earlier s at ≡ []
    → IsStep earlier (Some s)
one_step file earlier s at none = record {
  news = λ ss h. (is_new file earlier s at none, h);
  few = few_functions file earlier s at none;
}

form_step : (d : ℕ) (t : Option CType) (f : ExternalForm) (file : Scope) (earlier : List Signature)
    (n : Before)
    → (add_external_form t f (signature_of_form d t f) file earlier n).added.faults ≡ []
    → count_functions earlier ≤ 100
    → IsStep earlier (signature_of_form d t f)
form_step d t (form.Variables declarators semicolon) file earlier n none few = no_step earlier few
form_step d t (form.Function name opener params closer e) file earlier n none few =
    let s = declared_as d t name params e in
    let a = add_params (is_main_name s.name) s.is_definition name.at 1 (params_of params)
    (function_scope t file) n in
    let b = in_order (body_parts e) (knowing a.entries (function_scope t file)) (behind n a) in
    one_step file earlier s name.at
    (nil_left (signature_faults file earlier s name.at) (a.faults ++ b.faults) none)

pub record AreNewIn (earlier ss : List Signature) : Type 0 where
  pub new : AreNew earlier ss
  pub few : count_functions (earlier ++ ss) ≤ 100

pub signatures_new : (d : ℕ) (xs : List External) (file : Scope) (earlier : List Signature) (n : Before)
    → (add_externals d xs file earlier n).added.faults ≡ [] → count_functions earlier ≤ 100
    → AreNewIn earlier (signatures_from d xs)
signatures_new d [] file earlier n none few = record {
  new = tt;
  few = subst (λ es. count_functions es ≤ 100) (sym (append-nil earlier)) few;
}
signatures_new d (x ∷ xs) file earlier n none few =
    let s = signature_of d x in
    let a = add_external x s file earlier n in
    let b = add_externals (d + definitions_of s) xs (knowing a.added.entries file)
    (earlier ++ with_signature s []) (behind n a.added) in
    let w = add_specifiers earlier x.specifiers file n in
    let t = type_specified x.specifiers in
    let form = add_external_form t x.form s (knowing w.entries file) earlier (behind n w) in
    let step = form_step d t x.form (knowing w.entries file) earlier (behind n w)
    (nil_right w.faults form.added.faults (nil_left a.added.faults b.added.faults none)) few in
    let rest = signatures_new (d + definitions_of s) xs (knowing a.added.entries file)
    (earlier ++ with_signature s [])
    (behind n a.added) (nil_right a.added.faults b.added.faults none) step.few in
    let ss = signatures_from (d + definitions_of s) xs in record {
      new = step.news ss rest.new;
      few = subst (λ es. count_functions es ≤ 100) (append_assoc earlier (with_signature s []) ss
          ∙ ap (λ es. earlier ++ es) (sym (signature-append s ss))) rest.few;
    }

-- FUNCTIONS of the program, as the file declares them

pub record IsDeclared (p : Parts) (s : Signature) : Type 0 where
  pub definition : Function
  pub place : slice_get p.functions s.function.0 ≡ Some definition
  pub result : definition.result ≡ s.result
  pub params : FitParams p definition.params (unwrap_or s.params [])

-- MAIN

module _ (p : Parts) (whole : List Signature) (numbered : AreNumbered 0 whole) (m : Signature)
    (found : definition_in whole main_name ≡ Some m) (is_main : m.function ≡ p.main) where
  main_number : (k : ℕ) → (k == p.main.0) ≡ true → k ≡ m.function.0
  main_number k h = eqb-true k p.main.0 h ∙ sym (ap (λ (f : FnId). f.0) is_main)

  -- a definition of main's number is main
  is_the_main : (name : List ℕ) (s : Signature) → definition_in whole name ≡ Some s →
      (s.function.0 == p.main.0) ≡ true
      → is_main_name s.name ≡ true
  is_the_main name s h same =
      let one = found_unique 0 whole name main_name s m numbered h found (main_number s.function.0 same) in
      ap (λ (s : Signature). is_main_name s.name) one ∙ ap is_main_name
      (found_is whole main_name m found).named
      ∙ same_name-self main_name

  pub main_is : (earlier ss : List Signature) (s : Signature) → whole ≡ earlier ++ (s ∷ ss)
      → s.is_definition ≡ true
      → definition_in earlier s.name ≡ None → is_main_name s.name ≡ (s.function.0 == p.main.0)
  main_is earlier ss s is defined first = from (is_main_name s.name) refl where
    here : definition_in whole s.name ≡ Some s
    here = ap (λ es. definition_in es s.name) is ∙ found_later earlier (s ∷ ss) s.name first
        ∙ found_first s ss defined

    from : (b : Bool) → is_main_name s.name ≡ b → b ≡ (s.function.0 == p.main.0)
    from true named =
        let one = same_Some s m (sym here ∙ ap (definition_in whole) (sym
        (same_name-equal main_name s.name named)) ∙ found) in
        sym (eq-eqb s.function.0 p.main.0 (ap (λ (s : Signature). s.function.0) one ∙ ap
        (λ (f : FnId). f.0) is_main))
    from false named = sym (false_from_ne_true (s.function.0 == p.main.0)
        (λ same. true≢false (sym (is_the_main s.name s here same) ∙ named)))

  -- FUNCTIONS of the program

  pub functions_are : AreDefinitions (λ s. is_main_name s.name ≡ false → IsDeclared p s) whole
      → (name : List ℕ) (s : Signature) → definition_in whole name ≡ Some s → is_main_name name ≡ false
      → IsFunction p s
  functions_are all name s h other =
      let named = (found_is whole name s h).named in
      let not_main = ap is_main_name named ∙ other in
      let d = found_holds (λ s. is_main_name s.name ≡ false → IsDeclared p s) whole name s all h not_main in
      record {
        definition = d.definition;
        place = d.place;
        result = d.result;
        params = d.params;
        other = false_from_ne_true (s.function.0 == p.main.0)
            (λ same. true≢false (sym (is_the_main name s h same) ∙ not_main));
      }

-- EACH DEFINITION but main's has its function in the program

module _ (p : Parts) where
  abbrev pub trees : List FunctionTree
  trees = map tree_of_function p.functions

  fit_from : (b : Bool) → b ≡ false → (at : At) (qs : List Parameter) (scope : Scope) (n : Before)
      → HasAt p.variables n.variables (add_params b true at 1 qs scope n).variables
      → (add_params b true at 1 qs scope n).faults ≡ []
      → FitParams p (vars_of (add_params b true at 1 qs scope n).entries) (map type_of_param qs)
  fit_from true wrong at qs scope n stands none = cc
  fit_from false is at qs scope n stands none = params_fit p at 1 qs scope n stands none

  abbrev Declares : Signature → Type 0
  Declares s = is_main_name s.name ≡ false → IsDeclared p s

  form_declared : (d : ℕ) (t : Option CType) (f : ExternalForm) (file : Scope) (earlier : List Signature)
      (n : Before)
      → (add_external_form t f (signature_of_form d t f) file earlier n).added.faults ≡ []
      → HasAt p.variables n.variables (add_external_form t f (signature_of_form d t f) file earlier
      n).added.variables
      → HasAt trees d (add_external_form t f (signature_of_form d t f) file earlier n).functions
      → (ss : List Signature) → AreDefinitions Declares ss
      → AreDefinitions Declares (with_signature (signature_of_form d t f) ss)
  form_declared d t (form.Variables declarators semicolon) file earlier n none variables functions ss rest =
      rest
  form_declared d t (form.Function name opener params closer (end.Prototype semicolon)) file earlier n none
      variables functions ss rest =
      (λ wrong. cc, rest)
  form_declared d t (form.Function name opener params closer (end.Body b)) file earlier n none variables
      functions ss rest = (
        (λ is other.
            let s = declared_as d t name params (end.Body b) in
            let scope = function_scope t file in
            let added = add_params (is_main_name s.name) true name.at 1 (params_of params) scope n in
            let body = in_order (parts_of_block b) (knowing added.entries scope) (behind n added) in
            let tree = tree_at p d (function_tree n t added body) functions.0 in
            let inside = nil_right (signature_faults file earlier s name.at)
            (added.faults ++ body.faults) none in record {
              definition = function_at p d;
              place = tree.place;
              result = ap (λ (t : FunctionTree). t.result) tree.tree;
              params = subst (λ vs. FitParams p vs (map type_of_param (params_of params)))
                  (sym (ap (λ (t : FunctionTree). t.params) tree.tree))
                  (fit_from (is_main_name s.name) other name.at (params_of params) scope n
                  (has_left p.variables n.variables added.variables body.variables variables)
                  (nil_left added.faults body.faults inside));
            }),
        rest,
      )

  pub form_count : (d : ℕ) (t : Option CType) (f : ExternalForm) (file : Scope) (earlier : List Signature)
      (n : Before)
      → length (add_external_form t f (signature_of_form d t f) file earlier n).functions ≡ definitions_of
      (signature_of_form d t f)
  form_count d t (form.Variables declarators semicolon) file earlier n = refl
  form_count d t (form.Function name opener params closer (end.Prototype semicolon)) file earlier n = refl
  form_count d t (form.Function name opener params closer (end.Body b)) file earlier n = refl

  pub signatures_declared : (d : ℕ) (xs : List External) (file : Scope) (earlier : List Signature)
      (n : Before)
      → (add_externals d xs file earlier n).added.faults ≡ []
      → HasAt p.variables n.variables (add_externals d xs file earlier n).added.variables
      → HasAt trees d (add_externals d xs file earlier n).functions
      → AreDefinitions Declares (signatures_from d xs)
  signatures_declared d [] file earlier n none variables functions = tt
  signatures_declared d (x ∷ xs) file earlier n none variables functions =
      let s = signature_of d x in
      let a = add_external x s file earlier n in
      let b = add_externals (d + definitions_of s) xs (knowing a.added.entries file)
      (earlier ++ with_signature s []) (behind n a.added) in
      let w = add_specifiers earlier x.specifiers file n in
      let t = type_specified x.specifiers in
      let form = add_external_form t x.form s (knowing w.entries file) earlier (behind n w) in
      form_declared d t x.form (knowing w.entries file) earlier (behind n w)
      (nil_right w.faults form.added.faults (nil_left a.added.faults b.added.faults none))
      (has_right p.variables n.variables w.variables form.added.variables
      (has_left p.variables n.variables a.added.variables b.added.variables variables))
      (has_left trees d a.functions b.functions functions) (signatures_from (d + definitions_of s) xs)
      (signatures_declared (d + definitions_of s) xs (knowing a.added.entries file)
      (earlier ++ with_signature s [])
      (behind n a.added) (nil_right a.added.faults b.added.faults none)
      (has_right p.variables n.variables a.added.variables b.added.variables variables)
      (subst (λ k. HasAt trees (d + k) b.functions) (form_count d t x.form (knowing w.entries file)
      earlier (behind n w))
      (has_right trees d a.functions b.functions functions)))
