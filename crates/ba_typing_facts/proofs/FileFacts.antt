-- A file without faults: what it adds fits the parts of the program.
use Rattle.std.proofs.Common.{◌≡◌, ℕ, suc, zero, ◌+◌, ◌≤◌, ◌<◌, true, false, ◌&&◌, ◌==◌, Option, None, Some, List, [], ◌∷◌, ◌++◌, map, flat_map, length, length-append, append_assoc, append-nil, refl, sym, ◌∙◌, ap, subst, inl, inr, arith, nat_le}
use Rattle.std.specs.List.{list_all, range_with_len}
use Rattle.std.proofs.lemmas.Bool.{and_from, and_parts, cases_eq}
use Rattle.std.proofs.lemmas.Option.{same_Some}
use Rattle.std.proofs.lemmas.List.{map-append}
use Rattle.std.proofs.lemmas.List.Concat.{flat_map-append}
use Rattle.std.proofs.lemmas.List.Folds.{list_all-append}
use Rattle.ba_numbers.specs.declared.ids.VarId.{VarId}
use Rattle.ba_numbers.specs.declared.numbers.CType.{CType}
use Rattle.ba_trees.specs.declared.tree.declarations.Declarators.{Declarators}
use Rattle.ba_trees.specs.declared.tree.declarations.Specifiers.{Specifiers}
use Rattle.ba_trees.specs.declared.tree.statements.External.{External}
use Rattle.ba_trees.specs.declared.tree.statements.ExternalForm.{ExternalForm}
use Rattle.ba_trees.specs.declared.tree.statements.ExternalForm.TheVariants as form
use Rattle.ba_trees.specs.declared.tree.statements.FunctionEnd.TheVariants as end
use Rattle.ba_tree.specs.Facts.{StmtFacts, around, leaf_facts, has_variable, holds, shape_at, is_own_shape, is_function, body_facts, no_function, is_global_initialiser}
use Rattle.ba_tree.specs.declared.tree.Parts.{Parts}
use Rattle.ba_typing.specs.Declarations.{Added, nothing_added, Before, behind, add_specifiers, add_optional_declarators}
use Rattle.ba_typing.specs.Files.{FileAdded, params_of, var_in, vars_of, vars_from, signature_of_form, signature_of, definitions_of, with_signature, signatures_from, add_external_form, add_external, add_externals, with_functions}
use Rattle.ba_typing.specs.Names.{Scope, knowing, definition_in, is_main_name, main_name, no_exits, type_specified}
use Rattle.ba_tree.specs.Trees.{FunctionTree, StmtTree}
use Rattle.ba_typing.specs.declared.meanings.Entry.{Entry}
use Rattle.ba_typing.specs.declared.meanings.Signature.{Signature}
use Rattle.ba_typing_facts.proofs.AdditionFacts.{HasVariables, Stands, InScope, IsFew, few-and, few_none, all_facts_of}
use Rattle.ba_typing_facts.proofs.DeclarationFacts.{optional_declarators_part}
use Rattle.ba_typing_facts.proofs.EntryFacts.{optional_entries}
use Rattle.ba_typing_facts.proofs.EnumeratorFacts.{specifiers_names, specifiers_part, names_counted}
use Rattle.ba_typing_facts.proofs.FileSignatureFacts.{declared_as, trees, form_count, signature-append, main_is}
use Rattle.ba_typing_facts.proofs.FittingFacts.{nil_left, nil_right}
use Rattle.ba_typing_facts.proofs.FunctionFacts
use Rattle.ba_typing_facts.proofs.FunctionFacts.{own_at, function_at, bodies_of, tree_at, IsFileScope, AreFunctionsAdded, var_numbers, nothing_stands, prototype, prototype_is, prototype_vars, t, defined, definition_added, definition_good, definition_vars}
use Rattle.ba_typing_facts.proofs.GlobalFacts.{is_init, optional_inits}
use Rattle.ba_typing_facts.proofs.LeafFacts.{HasAt, has_left, has_right}
use Rattle.ba_typing_facts.proofs.ParameterFacts.{IsSized, sized-and, sized_none, sized_counted}
use Rattle.ba_typing.proofs.SignatureFacts.{AreNumbered, AreNew}
use Rattle.ba_typing_facts.proofs.ScopeFacts.{AreEntries, entries-append, knowing_is}
use Rattle.ba_typing_facts.proofs.StatementTreeFacts.{stmt_facts_of}
use Rattle.ba_typing_facts.proofs.SequenceFacts.{IsEach, each_none, each_is, each-append, each_front, AreTold, are_told, told-append, told_front, stmts_none, all_sound}

-- the variables of functions
abbrev pub owned_by : List FunctionTree → List VarId
owned_by = flat_map (λ (t : FunctionTree). t.params ++ t.locals)

numbers_from : (first count : ℕ) → map (λ (v : VarId). v.0) (vars_from first count)
    ≡ range_with_len first count
numbers_from first zero = refl
numbers_from first (suc count) = ap (λ ns. first ∷ ns) (numbers_from (first + 1) count)

from_vars : (vs : List VarId) (first count : ℕ) → list_all (has_variable vs) (vars_from first count) ≡ true
    → HasVariables vs first count
from_vars vs first zero h k low high = absurd (let e : ⊥ = omega (arith, low, high) in e)
from_vars vs first (suc count) h k low high =
    let both = and_parts (has_variable vs (record { 0 = first })) (list_all (has_variable vs) (vars_from
    (first + 1) count)) h in
    elim (cases_eq first k) [
      | inl same ↦ subst (λ i. has_variable vs (record { 0 = i }) ≡ true) same both.0
      | inr other ↦ from_vars vs (first + 1) count both.1 k
          (let e : first + 1 ≤ k = omega (arith, low, other) in e) (let e : k < (first + 1) + count = omega
          (arith, high) in e)
    ]

module _ (p : Parts) where
  -- each function is right, if its statements do not nest too deep
  abbrev pub AreGood : ℕ → List FunctionTree → Type 0
  AreGood k [] = Unit {0}
  AreGood k (t ∷ ts) = (nat_le (body_facts p (function_at p k)).depth 101 ≡ true
      → is_function p (k == p.main.0) (function_at p k) ≡ true) × AreGood (k + 1) ts

  good-append : (k : ℕ) (fs gs : List FunctionTree) → AreGood k fs → AreGood (k + length fs) gs → AreGood k
      (fs ++ gs)
  good-append k [] gs h g = subst (λ i. AreGood i gs) (let e : k + 0 ≡ k = omega arith in e) g
  good-append k (f ∷ fs) gs h g = (
    h.0,
    good-append (k + 1) fs gs h.1
        (subst (λ i. AreGood i gs) (let e : k + suc (length fs) ≡ (k + 1) + length fs = omega arith in e) g),
  )

  bodies-append : (k : ℕ) (fs gs : List FunctionTree)
      → bodies_of p k (fs ++ gs) ≡ bodies_of p k fs ++ bodies_of p (k + length fs) gs
  bodies-append k [] gs = ap (λ i. bodies_of p i gs) (let e : k ≡ k + 0 = omega arith in e)
  bodies-append k (f ∷ fs) gs = ap (λ bs. around (leaf_facts [] [] true) (all_facts_of p
      (function_at p k) f.body) ∷ bs)
      (bodies-append (k + 1) fs gs
      ∙ ap (λ i. bodies_of p (k + 1) fs ++ bodies_of p i gs)
      (let e : (k + 1) + length fs ≡ k + suc (length fs) = omega arith in e))

  abbrev pub inits_of : List StmtTree → List StmtFacts
  inits_of = all_facts_of p no_function

  -- what a part of the file adds fits, after so many definitions
  pub record IsFile (d : ℕ) (n : Before) (x : FileAdded) : Type 0 where
    pub few : IsFew n x.added
    pub sized : IsSized x.added
    pub entries : AreEntries p p.globals x.added.entries
    pub told : AreTold p n.statements (length x.added.statements) n.calls x.added.calls
        (inits_of x.added.stmts ++ bodies_of p d x.functions)
    pub owned : IsEach n.variables (length x.added.variables)
        (var_numbers p (vars_of x.added.entries) ++ var_numbers p (owned_by x.functions))
    pub inits : list_all (is_global_initialiser p) (inits_of x.added.stmts) ≡ true
    pub globals : list_all (λ v. holds is_own_shape (shape_at p v)) (vars_of x.added.entries) ≡ true
    pub good : AreGood d x.functions

  told_both : {before m calls_before k : ℕ} (ia ba ib bb : List StmtFacts)
      → AreTold p before m calls_before k ((ia ++ ba) ++ (ib ++ bb))
      → AreTold p before m calls_before k ((ia ++ ib) ++ (ba ++ bb))
  told_both {before} {m} {calls_before} {k} ia ba ib bb h =
      told_front p ba (ia ++ ib) bb
      (subst (λ xs. AreTold p before m calls_before k (ba ++ xs)) (sym (append_assoc ia ib bb))
      (told_front p ia ba (ib ++ bb)
      (subst (AreTold p before m calls_before k) (append_assoc ia ba (ib ++ bb)) h)))

  each_both : {first count : ℕ} (va oa vb ob : List ℕ) → IsEach first count ((va ++ oa) ++ (vb ++ ob))
      → IsEach first count ((va ++ vb) ++ (oa ++ ob))
  each_both {first} {count} va oa vb ob h =
      each_front oa (va ++ vb) ob
      (subst (λ xs. IsEach first count (oa ++ xs)) (sym (append_assoc va vb ob))
      (each_front va oa (vb ++ ob)
      (subst (IsEach first count) (append_assoc va oa (vb ++ ob)) h)))

  abbrev vars : FileAdded → List ℕ
  vars x = var_numbers p (vars_of x.added.entries)

  abbrev owns : FileAdded → List ℕ
  owns x = var_numbers p (owned_by x.functions)

  owned_split : (a b : FileAdded) → vars (with_functions a b) ++ owns (with_functions a b)
      ≡ (vars a ++ vars b) ++ (owns a ++ owns b)
  owned_split a b =
      ap (λ xs. xs ++ owns (with_functions a b))
      (ap (var_numbers p) (flat_map-append (λ (e : Entry). var_in e.entity) a.added.entries b.added.entries)
      ∙ map-append (λ (v : VarId). v.0) (vars_of a.added.entries) (vars_of b.added.entries))
      ∙ ap (λ xs. (vars a ++ vars b) ++ xs)
      (ap (var_numbers p) (flat_map-append (λ (t : FunctionTree). t.params ++ t.locals) a.functions
      b.functions)
      ∙ map-append (λ (v : VarId). v.0) (owned_by a.functions) (owned_by b.functions))

  file-and : (d : ℕ) (n : Before) (a b : FileAdded) → IsFile d n a
      → IsFile (d + length a.functions) (behind n a.added) b → IsFile d n (with_functions a b)
  file-and d n a b h k = record {
    few = few-and n a.added b.added h.few k.few;
    sized = sized-and a.added b.added h.sized k.sized;
    entries = entries-append p p.globals a.added.entries b.added.entries h.entries k.entries;
    told = subst (λ ss. AreTold p n.statements (length (a.added.statements ++ b.added.statements)) n.calls
        (a.added.calls + b.added.calls) ss)
        (sym (ap (λ xs. xs ++ bodies_of p d (a.functions ++ b.functions)) (map-append
        (stmt_facts_of p no_function) a.added.stmts b.added.stmts)
        ∙ ap (λ xs. (inits_of a.added.stmts ++ inits_of b.added.stmts) ++ xs)
        (bodies-append d a.functions b.functions)))
        (subst (λ c. AreTold p n.statements c n.calls (a.added.calls + b.added.calls)
        ((inits_of a.added.stmts ++ inits_of b.added.stmts) ++ (bodies_of p d a.functions ++ bodies_of p
        (d + length a.functions) b.functions)))
        (sym (length-append a.added.statements b.added.statements))
        (told_both (inits_of a.added.stmts) (bodies_of p d a.functions) (inits_of b.added.stmts)
        (bodies_of p (d + length a.functions) b.functions) (told-append p h.told k.told)));
    owned = subst (IsEach n.variables (length (a.added.variables ++ b.added.variables))) (sym
        (owned_split a b))
        (subst (λ c. IsEach n.variables c ((vars a ++ vars b) ++ (owns a ++ owns b)))
        (sym (length-append a.added.variables b.added.variables))
        (each_both (vars a) (owns a) (vars b) (owns b) (each-append h.owned k.owned)));
    inits = ap (list_all (is_global_initialiser p)) (map-append (stmt_facts_of p no_function) a.added.stmts
        b.added.stmts)
        ∙ list_all-append (is_global_initialiser p) (inits_of a.added.stmts) (inits_of b.added.stmts)
        ∙ and_from _ _ h.inits k.inits;
    globals = ap (list_all (λ v. holds is_own_shape (shape_at p v))) (flat_map-append
        (λ (e : Entry). var_in e.entity) a.added.entries b.added.entries)
        ∙ list_all-append (λ v. holds is_own_shape (shape_at p v)) (vars_of a.added.entries)
        (vars_of b.added.entries)
        ∙ and_from _ _ h.globals k.globals;
    good = good-append d a.functions b.functions h.good k.good;
  }

  -- A PART OF THE FILE

  abbrev pub StandsIn : ℕ → Before → FileAdded → Type 0
  StandsIn d n x = HasAt p.variables n.variables x.added.variables × HasAt p.statements n.statements
      x.added.statements
      × HasAt (trees p) d x.functions × (list_all (has_variable p.globals) (vars_of x.added.entries) ≡ true)

  all_inits : (ss : List StmtFacts) → all_sound ss ≡ true → list_all (is_init p.globals) ss ≡ true
      → list_all (is_global_initialiser p) ss ≡ true
  all_inits [] h k = refl
  all_inits (s ∷ ss) h k =
      let sound = and_parts s.is_sound (all_sound ss) h in
      let inits = and_parts (is_init p.globals s) (list_all (is_init p.globals) ss) k in
      let calls = and_parts (holds (has_variable p.globals) s.initialises && (length s.variables == 1))
      (length s.calls == 0) inits.0 in
      let vars = and_parts (holds (has_variable p.globals) s.initialises) (length s.variables == 1) calls.0 in
      and_from _ _ (and_from _ _ (and_from _ _ (and_from _ _ sound.0 vars.0) vars.1) calls.1)
      (all_inits ss sound.1 inits.1)

  in_the_file : (file : Scope) → IsFileScope p file → InScope p p.globals no_function false file
  in_the_file file h = record {
    sound = h.sound;
    result = h.result;
    place = ap (λ d. d == 0) h.depth;
  }

  -- global variables
  module _ (t : Option CType) (ds : Option Declarators) (file : Scope) (earlier : List Signature) (d : ℕ)
      (n : Before)
      (file_scope : IsFileScope p file) where
    abbrev a : Added
    a = add_optional_declarators earlier t ds file n

    variables_are : StandsIn d n (record { added = a; functions = [] }) → a.faults ≡ []
        → IsFile d n (record { added = a; functions = [] })
    variables_are stands none =
        let declared = (optional_entries earlier t ds).by file n in
        let in_file = in_the_file file file_scope in
        let all_there : Stands p p.globals no_function false n a = (
          stands.0,
          stands.1,
          from_vars p.globals n.variables (length a.variables) (ap (list_all (has_variable p.globals))
              (sym declared) ∙ stands.3),
          λ wrong. cc,
        ) in
        let part = optional_declarators_part p p.globals no_function false earlier t ds in
        let piece = part.piece.by file in_file n all_there none in
        let counted = part.counted file n none in record {
          few = piece.few;
          sized = sized_counted a counted;
          entries = piece.entries;
          told = subst (AreTold p n.statements (length a.statements) n.calls a.calls) (sym (append-nil
              (inits_of a.stmts)))
              (are_told p piece.stmts);
          owned = each_is (append-nil (var_numbers p (vars_of a.entries)) ∙ ap (var_numbers p) declared
              ∙ numbers_from n.variables (length a.variables));
          inits = all_inits (inits_of a.stmts) piece.stmts.sound
              ((optional_inits p p.globals no_function earlier t ds).by file in_file n all_there none);
          globals = ap (list_all (λ v. holds is_own_shape (shape_at p v))) declared
              ∙ own_at p n.variables a.variables stands.0 counted.own;
          good = tt;
        }

  -- functions
  prototype_file : (d : ℕ) (n : Before) (x : FileAdded) → x.added.entries ≡ [] → x.added.stmts ≡ []
      → x.functions ≡ []
      → x.added.variables ≡ [] → AreFunctionsAdded p d n x → IsFile d n x
  prototype_file d n x no_entries no_stmts no_functions no_variables h = record {
    few = h.few;
    sized = h.sized;
    entries = subst (AreEntries p p.globals) (sym no_entries) tt;
    told = subst (λ ss. AreTold p n.statements (length x.added.statements) n.calls x.added.calls
        (inits_of ss ++ bodies_of p d x.functions))
        (sym no_stmts) h.told;
    owned = subst (λ es. IsEach n.variables (length x.added.variables) (var_numbers p
        (vars_of es) ++ var_numbers p (owned_by x.functions)))
        (sym no_entries) (subst (λ fs. IsEach n.variables (length x.added.variables) (var_numbers p
        (owned_by fs))) (sym no_functions)
        (subst (λ vs. IsEach n.variables (length vs) []) (sym no_variables) (each_none n.variables)));
    inits = ap (λ ss. list_all (is_global_initialiser p) (inits_of ss)) no_stmts;
    globals = ap (λ es. list_all (λ v. holds is_own_shape (shape_at p v)) (vars_of es)) no_entries;
    good = subst (AreGood d) (sym no_functions) tt;
  }

  form_is : (d : ℕ) (t : Option CType) (f : ExternalForm) (file : Scope) (earlier : List Signature)
      (n : Before)
      → IsFileScope p file →
      (add_external_form t f (signature_of_form d t f) file earlier n).added.faults ≡ []
      → StandsIn d n (add_external_form t f (signature_of_form d t f) file earlier n)
      → ((s : Signature) → signature_of_form d t f ≡ Some s → s.is_definition ≡ true
      → is_main_name s.name ≡ (s.function.0 == p.main.0))
      → IsFile d n (add_external_form t f (signature_of_form d t f) file earlier n)
  form_is d t (form.Variables declarators semicolon) file earlier n file_scope none stands main =
      variables_are t declarators file earlier d n file_scope stands none
  form_is d t (form.Function name opener params closer (end.Prototype semicolon)) file earlier n file_scope
      none stands main =
      let s = declared_as d t name params (end.Prototype semicolon) in
      prototype_file d n (prototype p name.at s (params_of params) file earlier n file_scope) refl refl
      refl
      (prototype_vars p name.at s (params_of params) file earlier n file_scope)
      (prototype_is p name.at s (params_of params) file earlier n file_scope d none)
  form_is d t (form.Function name opener params closer (end.Body b)) file earlier n file_scope none stands
      main =
      let s = declared_as d t name params (end.Body b) in
      let tree = FunctionFacts.t p name.at s (params_of params) file earlier n file_scope b d in
      let x = defined p name.at s (params_of params) file earlier n file_scope b d in
      let is_tree = tree_at p d tree stands.2.0 in
      let is_main = main s refl refl in
      let added = definition_added p name.at s (params_of params) file earlier n file_scope b d stands.0
      stands.1 is_tree none is_main in record {
        few = added.few;
        sized = added.sized;
        entries = tt;
        told = added.told;
        owned = each_is (ap (var_numbers p) (append-nil (tree.params ++ tree.locals)
            ∙ definition_vars p name.at s (params_of params) file earlier n file_scope b d stands.0
            stands.1 is_tree none is_main)
            ∙ numbers_from n.variables (length x.added.variables));
        inits = refl;
        globals = refl;
        good = (
          definition_good p name.at s (params_of params) file earlier n file_scope b d stands.0
              stands.1 is_tree none is_main,
          tt,
        );
      }

  -- THE WHOLE FILE

  in_file_knowing : (entries : List Entry) (file : Scope) → IsFileScope p file
      → AreEntries p p.globals entries
      → IsFileScope p (knowing entries file)
  in_file_knowing entries file h k = record {
    sound = knowing_is p p.globals file entries h.sound k;
    depth = h.depth;
    exits = h.exits;
    result = h.result;
  }

  -- what a declaration begins with
  specifiers_file : (s : Specifiers) (earlier : List Signature) (file : Scope) (d : ℕ) (n : Before)
      → IsFileScope p file → (add_specifiers earlier s file n).faults ≡ []
      → IsFile d n (record { added = add_specifiers earlier s file n; functions = [] })
  specifiers_file s earlier file d n file_scope none =
      let a = add_specifiers earlier s file n in
      let names = (specifiers_names earlier s).by file n in
      let part = specifiers_part p p.globals no_function false earlier s in
      let piece = part.piece.by file (in_the_file file file_scope) n
      (nothing_stands p p.globals no_function n a names.variables names.statements) none in record {
        few = piece.few;
        sized = sized_counted a (names_counted a names);
        entries = piece.entries;
        told = subst (AreTold p n.statements (length a.statements) n.calls a.calls)
            (sym (append-nil (inits_of a.stmts))) (are_told p piece.stmts);
        owned = subst (λ vs. IsEach n.variables (length a.variables) (var_numbers p vs ++ []))
            (sym names.vars) (subst (λ vs. IsEach n.variables (length vs) []) (sym names.variables)
            (each_none n.variables));
        inits = ap (λ ss. list_all (is_global_initialiser p) (inits_of ss)) names.stmts;
        globals = ap (list_all (λ v. holds is_own_shape (shape_at p v))) names.vars;
        good = tt;
      }

  -- a declaration or a function
  external_is : (d : ℕ) (x : External) (file : Scope) (earlier : List Signature) (n : Before)
      → IsFileScope p file → (add_external x (signature_of d x) file earlier n).added.faults ≡ []
      → StandsIn d n (add_external x (signature_of d x) file earlier n)
      → ((s : Signature) → signature_of d x ≡ Some s → s.is_definition ≡ true
      → is_main_name s.name ≡ (s.function.0 == p.main.0))
      → IsFile d n (add_external x (signature_of d x) file earlier n)
  external_is d x file earlier n file_scope none stands main =
      let t = type_specified x.specifiers in
      let w = add_specifiers earlier x.specifiers file n in
      let known = knowing w.entries file in
      let a = add_external_form t x.form (signature_of d x) known earlier (behind n w) in
      let globals = and_parts (list_all (has_variable p.globals) (vars_of w.entries)) (list_all
      (has_variable p.globals) (vars_of a.added.entries))
      (sym (ap (list_all (has_variable p.globals)) (flat_map-append (λ (e : Entry). var_in e.entity)
      w.entries a.added.entries)
      ∙ list_all-append (has_variable p.globals) (vars_of w.entries) (vars_of a.added.entries))
      ∙ stands.3) in
      let first = specifiers_file x.specifiers earlier file d n file_scope
      (nil_left w.faults a.added.faults none) in
      let second = form_is d t x.form known earlier (behind n w)
      (in_file_knowing w.entries file file_scope first.entries) (nil_right w.faults a.added.faults none) (
        has_right p.variables n.variables w.variables a.added.variables stands.0,
        has_right p.statements n.statements w.statements a.added.statements stands.1,
        stands.2,
        globals.1,
      ) main in
      file-and d n (record { added = w; functions = [] }) a first
      (subst (λ k. IsFile k (behind n w) a) (let e : d ≡ d + 0 = omega arith in e) second)

  nothing_file : (d : ℕ) (n : Before) → IsFile d n (record { added = nothing_added; functions = [] })
  nothing_file d n = record {
    few = few_none n [];
    sized = sized_none nothing_added refl refl;
    entries = tt;
    told = are_told p (stmts_none p [] n.statements n.calls no_exits);
    owned = each_none n.variables;
    inits = refl;
    globals = refl;
    good = tt;
  }

  module _ (whole : List Signature) (numbered : AreNumbered 0 whole) (m : Signature)
      (found : definition_in whole main_name ≡ Some m) (is_main : m.function ≡ p.main) where
    head_main : (earlier : List Signature) (o : Option Signature) (ss : List Signature) → whole
        ≡ earlier ++ with_signature o ss
        → AreNew earlier (with_signature o ss) → (s : Signature) → o ≡ Some s → s.is_definition ≡ true
        → is_main_name s.name ≡ (s.function.0 == p.main.0)
    head_main earlier None ss is new s same defined = cc
    head_main earlier (Some u) ss is new s same defined =
        let one = same_Some u s same in
        subst (λ (s : Signature). is_main_name s.name ≡ (s.function.0 == p.main.0)) one
        (let u_defined = ap (λ (s : Signature). s.is_definition) one ∙ defined in
        main_is p whole numbered m found is_main earlier ss u is u_defined (new.0 u_defined))

    rest_new : (earlier : List Signature) (o : Option Signature) (ss : List Signature) → AreNew earlier
        (with_signature o ss)
        → AreNew (earlier ++ with_signature o []) ss
    rest_new earlier None ss new = subst (λ es. AreNew es ss) (sym (append-nil earlier)) new
    rest_new earlier (Some s) ss new = new.1

    pub externals_are : (d : ℕ) (xs : List External) (file : Scope) (earlier : List Signature) (n : Before)
        → whole ≡ earlier ++ signatures_from d xs → AreNew earlier (signatures_from d xs) → IsFileScope p file
        → (add_externals d xs file earlier n).added.faults ≡ [] → StandsIn d n
        (add_externals d xs file earlier n)
        → IsFile d n (add_externals d xs file earlier n)
    externals_are d [] file earlier n is new file_scope none stands = nothing_file d n
    externals_are d (x ∷ xs) file earlier n is new file_scope none stands =
        let s = signature_of d x in
        let ss = signatures_from (d + definitions_of s) xs in
        let a = add_external x s file earlier n in
        let b = add_externals (d + definitions_of s) xs (knowing a.added.entries file)
        (earlier ++ with_signature s []) (behind n a.added) in
        let globals = and_parts (list_all (has_variable p.globals) (vars_of a.added.entries)) (list_all
        (has_variable p.globals) (vars_of b.added.entries))
        (sym (ap (list_all (has_variable p.globals)) (flat_map-append (λ (e : Entry). var_in e.entity)
        a.added.entries b.added.entries)
        ∙ list_all-append (has_variable p.globals) (vars_of a.added.entries) (vars_of b.added.entries))
        ∙ stands.3) in
        let w = add_specifiers earlier x.specifiers file n in
        let count = form_count p d (type_specified x.specifiers) x.form (knowing w.entries file) earlier
        (behind n w) in
        let first = external_is d x file earlier n file_scope
        (nil_left a.added.faults b.added.faults none) (
          has_left p.variables n.variables a.added.variables b.added.variables stands.0,
          has_left p.statements n.statements a.added.statements b.added.statements stands.1,
          has_left (trees p) d a.functions b.functions stands.2,
          globals.0,
        )
        (head_main earlier s ss is new) in
        let rest = externals_are (d + definitions_of s) xs (knowing a.added.entries file)
        (earlier ++ with_signature s [])
        (behind n a.added)
        (is ∙ ap (λ es. earlier ++ es) (signature-append s ss) ∙ sym (append_assoc earlier
        (with_signature s []) ss))
        (rest_new earlier s ss new)
        (in_file_knowing a.added.entries file file_scope first.entries)
        (nil_right a.added.faults b.added.faults none) (
          has_right p.variables n.variables a.added.variables b.added.variables stands.0,
          has_right p.statements n.statements a.added.statements b.added.statements stands.1,
          subst (λ k. HasAt (trees p) (d + k) b.functions) count (has_right
              (trees p) d a.functions b.functions stands.2),
          globals.1,
        ) in
        file-and d n a b first (subst (λ k. IsFile (d + k) (behind n a.added) b) (sym count) rest)
