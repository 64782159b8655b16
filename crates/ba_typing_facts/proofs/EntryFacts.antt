-- Declarators and parameters: their entries name the variables that they add, in order.
use Rattle.std.proofs.Common.{◌≡◌, ℕ, suc, zero, ◌+◌, ◌≤◌, ◌<◌, Bool, true, false, ◌||◌, ◌==◌, Option, None, Some, List, [], ◌∷◌, ◌++◌, map, length, length-append, refl, sym, ◌∙◌, ap, arith}
use Rattle.std.specs.Prelude.{unwrap_or}
use Rattle.std.specs.List.{range_with_len}
use Rattle.std.proofs.lemmas.Bool.{eqb-false}
use Rattle.std.proofs.lemmas.List.{map-append}
use Rattle.std.proofs.lemmas.List.Concat.{flat_map-append}
use Rattle.ba_numbers.specs.declared.ids.At.{At}
use Rattle.ba_numbers.specs.declared.ids.VarId.{VarId}
use Rattle.ba_numbers.specs.declared.numbers.CType.{CType}
use Rattle.ba_numbers.specs.declared.numbers.CType.TheVariants.{I32}
use Rattle.ba_trees.specs.declared.tree.declarations.Declarator.{Declarator}
use Rattle.ba_trees.specs.declared.tree.declarations.Declarators.{Declarators}
use Rattle.ba_trees.specs.declared.tree.declarations.Initialiser.{Initialiser}
use Rattle.ba_trees.specs.declared.tree.declarations.ListedDeclarator.{ListedDeclarator}
use Rattle.ba_trees.specs.declared.tree.declarations.Parameter.{Parameter}
use Rattle.ba_tree.specs.Facts.{has_variable}
use Rattle.ba_tree.specs.declared.tree.Variable.{Variable}
use Rattle.ba_typing.specs.Declarations.{Added, ◌and◌, Before, behind, Part, ◌then◌, in_order, faults_added, add_length, add_variable, add_declare, add_optional_initialiser, add_declarator, add_declarators, add_optional_declarators, TypedLength, typed_array_length, count_of_values, shape_of}
use Rattle.ba_typing.specs.Faults.{void_faults, limit_faults, parameter_limit, tag_faults}
use Rattle.ba_typing.specs.Files.{var_in, vars_of, vars_from, add_param, add_params, param_length, param_shape, position_of_param, name_of_param}
use Rattle.ba_typing.specs.Names.{Scope, knowing, name_of, words_of, type_named, tag_of}
use Rattle.ba_typing.specs.declared.meanings.Entry.{Entry}
use Rattle.ba_typing.specs.declared.meanings.Signature.{Signature}
use Rattle.ba_typing_facts.proofs.FittingFacts.{range-append}

pub vars-append : (first m n : ℕ) → vars_from first m ++ vars_from (first + m) n ≡ vars_from first (m + n)
vars-append first m n =
    sym (map-append (λ n. record { 0 = n }) (range_with_len first m) (range_with_len (first + m) n))
    ∙ ap (map (λ n. record { 0 = n })) (range-append first m n)

-- the entries are those of the variables, in order
abbrev pub Declares : Before → Added → Type 0
Declares n a = vars_of a.entries ≡ vars_from n.variables (length a.variables)

pub declares-and : (n : Before) (a b : Added) → Declares n a → Declares (behind n a) b → Declares n (a and b)
declares-and n a b h k = flat_map-append (λ (e : Entry). var_in e.entity) a.entries b.entries
    ∙ ap (λ vs. vs ++ vars_of b.entries) h
    ∙ ap (λ vs. vars_from n.variables (length a.variables) ++ vs) k
    ∙ vars-append n.variables (length a.variables) (length b.variables)
    ∙ ap (vars_from n.variables) (sym (length-append a.variables b.variables))

pub record HasEntries (part : Part) : Type 0 where
  pub by : (scope : Scope) (n : Before) → Declares n (part scope n)

pub entries_then : (first second : Part) → HasEntries first → HasEntries second → HasEntries
    (first then second)
entries_then first second h k = record {
  by = λ scope n. let a = first scope n in
      declares-and n a (second (knowing a.entries scope) (behind n a)) (h.by scope n)
      (k.by (knowing a.entries scope) (behind n a));
}

-- THE PIECES

length_entries : (at : At) (l : Option TypedLength) → HasEntries (add_length at l)
length_entries at None = record { by = λ scope n. refl }
length_entries at (Some l) = record { by = λ scope n. refl }

variable_entries : (functions : List Signature) (at : At) (name : List ℕ) (v : Variable)
    → HasEntries (add_variable functions at name v)
variable_entries functions at name v = record { by = λ scope n. refl }

initialiser_entries : (at : At) (v : VarId) (t : CType) (l : Option TypedLength) (o : Option Initialiser)
    → HasEntries (add_optional_initialiser at v t l o)
initialiser_entries at v t l None = record { by = λ scope n. refl }
initialiser_entries at v t l (Some init) = record { by = λ scope n. refl }

-- DECLARATORS

declarator_entries : (functions : List Signature) (t : Option CType) (d : Declarator)
    → HasEntries (add_declarator functions t d)
declarator_entries functions t d = record {
  by = λ scope n.
      let at = d.name.at in
      let v : VarId = record { 0 = n.variables } in
      let s = unwrap_or t I32 in
      let l = typed_array_length at (count_of_values d.initialiser) scope n.calls d.length in
      let void_part : Part = (λ scope n. faults_added (void_faults t at)) in
      let initialised = entries_then (add_optional_initialiser at v s l d.initialiser) void_part
      (initialiser_entries at v s l d.initialiser) (record { by = λ scope n. refl }) in
      let declared = entries_then (add_declare v) (add_optional_initialiser at v s l d.initialiser then
      void_part)
      (record { by = λ scope n. refl }) initialised in
      let w : Variable = record { t = s; shape = shape_of l } in
      let known = entries_then (add_variable functions at (name_of d.name) w)
      (add_declare v then (add_optional_initialiser at v s l d.initialiser then void_part))
      (variable_entries functions at (name_of d.name) w) declared in
      (entries_then (add_length at l) (add_variable functions at (name_of d.name) w
      then (add_declare v then (add_optional_initialiser at v s l d.initialiser then void_part)))
      (length_entries at l) known).by scope n;
}

listed_entries : (functions : List Signature) (t : Option CType) (ds : List ListedDeclarator)
    → HasEntries (in_order (map (λ (l : ListedDeclarator). add_declarator functions t l.declarator) ds))
listed_entries functions t [] = record { by = λ scope n. refl }
listed_entries functions t (d ∷ ds) = entries_then (add_declarator functions t d.declarator) _
    (declarator_entries functions t d.declarator) (listed_entries functions t ds)

declarators_entries : (functions : List Signature) (t : Option CType) (ds : Declarators)
    → HasEntries (add_declarators functions t ds)
declarators_entries functions t ds = listed_entries functions t ds.all.items

pub optional_entries : (functions : List Signature) (t : Option CType) (o : Option Declarators)
    → HasEntries (add_optional_declarators functions t o)
optional_entries functions t None = record { by = λ scope n. refl }
optional_entries functions t (Some ds) = declarators_entries functions t ds

-- PARAMETERS of a definition

param_entries : (is_main : Bool) (at : At) (number : ℕ) (q : Parameter) → HasEntries
    (add_param is_main true at number q)
param_entries is_main function_at number q = record {
  by = λ scope n.
      let at = position_of_param function_at q in
      let t = type_named q.type_name in
      let l = param_length is_main at q.length scope n.calls in
      let w : Variable = record { t = unwrap_or t I32; shape = param_shape is_main q.length l } in
      (entries_then (add_length at l then add_variable [] at (name_of_param q.name) w)
      (λ scope n. faults_added (void_faults t at ++ limit_faults parameter_limit number at
      ++ tag_faults scope (tag_of (words_of q.type_name))))
      (entries_then (add_length at l) (add_variable [] at (name_of_param q.name) w) (length_entries at l)
      (variable_entries [] at (name_of_param q.name) w)) (record { by = λ scope n. refl })).by scope n;
}

pub params_entries : (is_main : Bool) (at : At) (number : ℕ) (qs : List Parameter)
    → HasEntries (add_params is_main true at number qs)
params_entries is_main at number [] = record { by = λ scope n. refl }
params_entries is_main at number (q ∷ qs) = entries_then (add_param is_main true at number q) _
    (param_entries is_main at number q) (params_entries is_main at (number + 1) qs)

-- NUMBERS OF VARIABLES

-- such variables are there, if the list has them
pub vars_has : (first count k : ℕ) → first ≤ k → k < first + count
    → has_variable (vars_from first count) (record { 0 = k }) ≡ true
vars_has first zero k low high = absurd (let e : ⊥ = omega (arith, low, high) in e)
vars_has first (suc count) k low high = from (first == k) (eqb-false first k)
    (λ other. vars_has (first + 1) count k (let e : first + 1 ≤ k = omega (arith, other, low) in e)
    (let e : k < (first + 1) + count = omega (arith, high) in e)) where
      from : (b : Bool) → (b ≡ false → first ≡ k → ⊥)
          → ((first ≡ k → ⊥) → has_variable (vars_from (first + 1) count) (record { 0 = k }) ≡ true)
          → (b || has_variable (vars_from (first + 1) count) (record { 0 = k })) ≡ true
      from true other rest = refl
      from false other rest = rest (other refl)
