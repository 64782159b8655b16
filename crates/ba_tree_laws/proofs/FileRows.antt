-- Files, read back: what typing makes of a file is a function of its tree written out.
use Rattle.std.proofs.Common.{◌≡◌, ℕ, ◌+◌, Bool, true, false, not, ◌&&◌, cond, Option, None, Some, List, [], ◌∷◌, ◌++◌, map, length, refl, sym, ◌∙◌, ap}
use Rattle.std.specs.Prelude.{option_map, unwrap_or}
use Rattle.std.specs.Option.{is_some}
use Rattle.std.proofs.lemmas.List.{append-nil}
use Rattle.ba_tokens.specs.declared.token.Token.{Token}
use Rattle.ba_numbers.specs.declared.ids.At.{At}
use Rattle.ba_numbers.specs.declared.numbers.CType.TheVariants.{I32}
use Rattle.ba_trees.specs.Marks.{Mark}
use Rattle.ba_trees.specs.Marks as rule
use Rattle.ba_trees.specs.ExternalMarks.{end_marks, external_form_marks, external_marks}
use Rattle.ba_trees.specs.FileMarks.{file_marks}
use Rattle.ba_trees.specs.declared.tree.declarations.ArrayLength.{ArrayLength}
use Rattle.ba_trees.specs.declared.tree.declarations.Parameter.{Parameter}
use Rattle.ba_trees.specs.declared.tree.declarations.ParameterList.{ParameterList}
use Rattle.ba_trees.specs.declared.tree.expressions.Conditional.{Conditional}
use Rattle.ba_trees.specs.declared.tree.expressions.TypeName.{TypeName}
use Rattle.ba_trees.specs.declared.tree.statements.External.{External}
use Rattle.ba_trees.specs.declared.tree.statements.ExternalForm.{ExternalForm}
use Rattle.ba_trees.specs.declared.tree.statements.ExternalForm.TheVariants as form
use Rattle.ba_trees.specs.declared.tree.statements.FunctionEnd.{FunctionEnd}
use Rattle.ba_trees.specs.declared.tree.statements.FunctionEnd.TheVariants as end
use Rattle.ba_trees.specs.declared.tree.statements.RawProgram.{RawProgram}
use Rattle.ba_tree.specs.Trees.{ProgramTree}
use Rattle.ba_tree.specs.declared.tree.Shape.{Shape}
use Rattle.ba_tree.specs.declared.tree.Shape.TheVariants.{Value, Passed}
use Rattle.ba_typing.specs.Declarations.{Added, nothing_added, ◌and◌, add_specifiers, Before, behind, Part, ◌then◌, nothing, in_order, faults_added, TypedLength, shape_of}
use Rattle.ba_typing.specs.Expressions.{Typing}
use Rattle.ba_typing.specs.Faults.{void_faults, tag_faults, limit_faults, parameter_limit}
use Rattle.ba_typing.specs.Files.{FileAdded, add_external, add_externals, add_param, add_params, body_parts, declare_param, definitions_of, faults_of, file_of, file_scope, add_external_form, is_definition, signature_of_form, first_at, function_scope, function_tree, is_void_parameter, is_void_word, main_of, no_parts, params_of, params_of_list, program_of, says_params, signature_faults, signature_of, signatures_from, type_of_param, typed_of, with_functions, with_signature, without_void}
use Rattle.ba_typing.specs.Names.{Scope, definition_in, is_main_name, knowing, main_name, name_of, no_exits, tag_of, type_of_words, words_of}
use Rattle.ba_typing.specs.Statements.{parts_of_block}
use Rattle.ba_typing.specs.declared.fault.Fault.{Fault}
use Rattle.ba_typing.specs.declared.meanings.ParamType.{ParamType}
use Rattle.ba_typing.specs.declared.meanings.Signature.{Signature}
use Rattle.ba_tree_laws.proofs.DeclarationRows.{AllOf, all_of, add_optional, declarators_items, declarators_optional, specifier_item, specifiers_row, specified_is, lengths, param_item, parameters_row}
use Rattle.ba_tree_laws.proofs.Rows.{Row, SpecifierItem, ParamItem, ExternalItem, variables, function, Reads, read, token, specifiers, block, parameters, external, file, as_external, length_of, none, both, front, deeper, inside, as_row, specified_by, external_of}
use Rattle.ba_tree_laws.proofs.StatementRows.{block_row}

-- THE ROW OF A FILE

abbrev end_item : FunctionEnd → Option (List Part)
end_item (end.Body b) = Some (parts_of_block b)
end_item (end.Prototype semicolon) = None

abbrev form_item : SpecifierItem → ExternalForm → ExternalItem
form_item s (form.Variables ds semicolon) = variables s (add_optional ds)
form_item s (form.Function name opener ps closer e) =
    function s name (map param_item (params_of_list ps.list)) (end_item e)

abbrev external_item : External → ExternalItem
external_item x = form_item (specifier_item x.specifiers) x.form

abbrev end_items : FunctionEnd → Row
end_items (end.Body b) = block (parts_of_block b) ∷ []
end_items (end.Prototype semicolon) = token semicolon ∷ []

end_row : (e : FunctionEnd) → Reads (end_marks e) (end_items e)
end_row (end.Body b) = block_row b
end_row (end.Prototype semicolon) = front semicolon none

abbrev form_items : ExternalForm → Row
form_items (form.Variables ds semicolon) = declarators_items ds ++ token semicolon ∷ []
form_items (form.Function name opener ps closer e) =
    token name ∷ token opener ∷ parameters (map param_item (params_of_list ps.list)) ∷ token
    closer ∷ end_items e

form_row : (f : ExternalForm) → Reads (external_form_marks f) (form_items f)
form_row (form.Variables ds semicolon) = both (declarators_optional ds) (front semicolon none)
form_row (form.Function name opener ps closer e) =
    front name (front opener (both (deeper (parameters_row ps)) (front closer (end_row e))))

form_is : (s : SpecifierItem) (f : ExternalForm) → external_of (specifiers s ∷ form_items f) ≡ form_item s f
form_is s (form.Variables None semicolon) = refl
form_is s (form.Variables (Some ds) semicolon) = refl
form_is s (form.Function name opener ps closer (end.Body b)) = refl
form_is s (form.Function name opener ps closer (end.Prototype semicolon)) = refl

external_row : (x : External) → AllOf as_external (external_marks x) (external_item x ∷ [])
external_row x = record {
  row = external (external_item x) ∷ [];
  reads = as_row (ap (λ i. external i ∷ []) (form_is (specifier_item x.specifiers) x.form))
      (inside rule.external (both (specifiers_row x.specifiers) (form_row x.form)));
  are = refl;
}

file_row : (p : RawProgram) → Reads (file_marks p) (file (map external_item p.externals.items) ∷ [])
file_row p = let all = all_of as_external external_marks external_item external_row p.externals.items in
    as_row (ap (λ xs. file xs ∷ []) all.are) (inside rule.file all.reads)

abbrev pub items_in : Row → List ExternalItem
items_in (file xs ∷ is) = xs
items_in _ = []

read_file : (p : RawProgram) → items_in (read (file_marks p) [] []) ≡ map external_item p.externals.items
read_file p = ap items_in (ap (λ ms. read ms [] []) (sym (append-nil (file_marks p))) ∙ (file_row p).by []
    [] [])

-- PARAMETERS, from their items

abbrev type_by : ParamItem → ParamType
type_by p = record { t = type_of_words p.words; is_array = is_some p.length }

abbrev is_void_item : ParamItem → Bool
is_void_item p = is_void_word p.words && not (is_some p.name) && not (is_some p.length)

abbrev without_void_item : List ParamItem → List ParamItem
without_void_item [] = []
without_void_item (p ∷ []) = cond (is_void_item p) [] (p ∷ [])
without_void_item (p ∷ q ∷ ps) = p ∷ q ∷ ps

lengths_some : (o : Option ArrayLength) → is_some (lengths o) ≡ is_some o
lengths_some None = refl
lengths_some (Some l) = refl

type_is : (p : Parameter) → type_by (param_item p) ≡ type_of_param p
type_is p = ap (λ b. record { t = type_of_words (words_of p.type_name); is_array = b }) (lengths_some
    p.length)

void_is : (p : Parameter) → is_void_item (param_item p) ≡ is_void_parameter p
void_is p = ap (λ b. is_void_word (words_of p.type_name) && not (is_some p.name) && not b)
    (lengths_some p.length)

without_is : (ps : List Parameter) → without_void_item (map param_item ps) ≡ map param_item (without_void ps)
without_is [] = refl
without_is (p ∷ []) = ap (λ b. cond b [] (param_item p ∷ [])) (void_is p) ∙ from (is_void_parameter p) where
  from : (b : Bool) → cond b [] (param_item p ∷ []) ≡ map param_item (cond b [] (p ∷ []))
  from true = refl
  from false = refl
without_is (p ∷ q ∷ ps) = refl

types_are : (ps : List Parameter) → map type_by (map param_item ps) ≡ map type_of_param ps
types_are [] = refl
types_are (p ∷ ps) = ap (λ t. t ∷ map type_by (map param_item ps)) (type_is p) ∙ ap (λ ts. type_of_param p
    ∷ ts) (types_are ps)

abbrev place_by : At → ParamItem → Option Token → At
place_by other p None = first_at p.words other
place_by other p (Some name) = name.at

abbrev name_by : Option Token → List ℕ
name_by None = []
name_by (Some name) = name_of name

abbrev length_by : Bool → At → Option (Option Typing) → Scope → ℕ → Option TypedLength
length_by false at l scope calls = None
length_by true at l scope calls = length_of at None scope calls l

abbrev shape_by : Bool → Option (Option Typing) → Option TypedLength → Shape
shape_by is_main None l = Value
shape_by true (Some length) l = shape_of l
shape_by false (Some length) l = Passed

abbrev add_param_by : Bool → Bool → At → ℕ → ParamItem → Part
add_param_by is_main defined function_at number p scope n =
    let at = place_by function_at p p.name in
    let t = type_of_words p.words in
    let l = length_by is_main at p.length scope n.calls in
    (declare_param defined at (name_by p.name) (record {
      t = unwrap_or t I32;
      shape = shape_by is_main
          p.length l;
    }) l
    then (λ scope n. faults_added (void_faults t at ++ limit_faults parameter_limit number at
    ++ tag_faults scope (tag_of p.words)))) scope n

param_plain : (is_main defined : Bool) (at : At) (number : ℕ) (kind : TypeName) (name : Option Token)
    → add_param is_main defined at number (record { type_name = kind; name = name; length = None })
    ≡ add_param_by is_main defined at number (param_item (record {
      type_name = kind;
      name = name;
      length =
          None;
    }))
param_plain true defined at number kind None = refl
param_plain true defined at number kind (Some name) = refl
param_plain false defined at number kind None = refl
param_plain false defined at number kind (Some name) = refl

param_array : (is_main defined : Bool) (at : At) (number : ℕ) (kind : TypeName) (name : Option Token)
    (opener closer : Token) (l : Option Conditional)
    → (let p : Parameter = record {
      type_name = kind;
      name = name;
      length = Some (record { «open» = opener; length = l; close = closer });
    } in
    add_param is_main defined at number p ≡ add_param_by is_main defined at number (param_item p))
param_array true defined at number kind None opener closer None = refl
param_array true defined at number kind None opener closer (Some e) = refl
param_array true defined at number kind (Some name) opener closer None = refl
param_array true defined at number kind (Some name) opener closer (Some e) = refl
param_array false defined at number kind None opener closer l = refl
param_array false defined at number kind (Some name) opener closer l = refl

param_at : (is_main defined : Bool) (at : At) (number : ℕ) (kind : TypeName) (name : Option Token) (l
    : Option ArrayLength)
    → add_param is_main defined at number (record { type_name = kind; name = name; length = l })
    ≡ add_param_by is_main defined at number (param_item (record {
      type_name = kind;
      name = name;
      length =
          l;
    }))
param_at is_main defined at number kind name None = param_plain is_main defined at number kind name
param_at is_main defined at number kind name (Some l) =
    param_array is_main defined at number kind name l.«open» l.close l.length

abbrev add_params_by : Bool → Bool → At → ℕ → List ParamItem → Part
add_params_by is_main defined at number [] = nothing
add_params_by is_main defined at number (p ∷ ps) =
    add_param_by is_main defined at number p then add_params_by is_main defined at (number + 1) ps

params_are : (is_main defined : Bool) (at : At) (number : ℕ) (ps : List Parameter)
    → add_params is_main defined at number ps ≡ add_params_by is_main defined at number (map param_item ps)
params_are is_main defined at number [] = refl
params_are is_main defined at number (p ∷ ps) =
    ap (λ part. part then add_params is_main defined at (number + 1) ps)
    (param_at is_main defined at number p.type_name p.name p.length)
    ∙ ap (λ part. add_param_by is_main defined at number (param_item p) then part)
    (params_are is_main defined at (number + 1) ps)

-- SIGNATURES, from their items

abbrev says_by : Option (List Part) → List ParamItem → Bool
says_by (Some body) ps = true
says_by None [] = false
says_by None (p ∷ ps) = true

abbrev signature_by : ℕ → ExternalItem → Option Signature
signature_by definitions (variables s ds) = None
signature_by definitions (function s name ps e) = Some (record {
  name = name_of name;
  result = type_of_words s.words;
  params = cond (says_by e ps) (Some (map type_by (without_void_item ps))) None;
  is_definition = is_some e;
  function = record { 0 = definitions };
})

says_is : (e : FunctionEnd) (ps : Option ParameterList)
    → says_by (end_item e) (map param_item (params_of_list ps)) ≡ says_params e (record { list = ps })
says_is (end.Body b) ps = refl
says_is (end.Prototype semicolon) None = refl
says_is (end.Prototype semicolon) (Some l) = refl

defined_is : (e : FunctionEnd) → is_some (end_item e) ≡ is_definition e
defined_is (end.Body b) = refl
defined_is (end.Prototype semicolon) = refl

form_signature : (d : ℕ) (s : SpecifierItem) (f : ExternalForm)
    → signature_by d (form_item s f) ≡ signature_of_form d (type_of_words s.words) f
form_signature d s (form.Variables ds semicolon) = refl
form_signature d s (form.Function name opener ps closer e) =
    let qs = params_of_list ps.list in
    let sign : Option (List ParamType) → Bool → Option Signature
    = λ params defined. Some (record {
      name = name_of name;
      result = type_of_words s.words;
      params = params;
      is_definition = defined;
      function = record { 0 = d };
    }) in
    ap (λ b. sign (cond b (Some (map type_by (without_void_item (map param_item qs)))) None) (is_some
    (end_item e)))
    (says_is e ps.list)
    ∙ ap (λ ts. sign (cond (says_params e ps) (Some ts) None) (is_some (end_item e)))
    (ap (map type_by) (without_is qs) ∙ types_are (without_void qs))
    ∙ ap (λ b. sign (cond (says_params e ps) (Some (map type_of_param (params_of ps))) None) b) (defined_is e)

signature_is : (d : ℕ) (x : External) → signature_of d x ≡ signature_by d (external_item x)
signature_is d x = sym (form_signature d (specifier_item x.specifiers) x.form)

abbrev signatures_by : ℕ → List ExternalItem → List Signature
signatures_by definitions [] = []
signatures_by definitions (x ∷ xs) = let s = signature_by definitions x in
    with_signature s (signatures_by (definitions + definitions_of s) xs)

signatures_are : (d : ℕ) (xs : List External) → signatures_from d xs ≡ signatures_by d (map external_item xs)
signatures_are d [] = refl
signatures_are d (x ∷ xs) =
    ap (λ s. with_signature s (signatures_from (d + definitions_of s) xs)) (signature_is d x)
    ∙ (let s = signature_by d (external_item x) in
    ap (λ ss. with_signature s ss) (signatures_are (d + definitions_of s) xs))

-- FUNCTIONS AND FILES, from their items

abbrev pub add_function_by : Part → List Part → At → Signature → Scope → List Signature → Before → FileAdded
add_function_by params_part body_parts at s outer earlier n =
    let inside = function_scope s.result outer in
    let params = params_part inside n in
    let body = in_order body_parts (knowing params.entries inside) (behind n params) in
    record {
      added = record (faults_added (signature_faults outer earlier s at) and params and body) {
        stmts = [];
        entries = [];
      };
      functions = cond s.is_definition (function_tree n s.result params body ∷ []) [];
    }

abbrev pub add_form_by : ExternalItem → Option Signature → Scope → List Signature → Before → FileAdded
add_form_by (variables w ds) s outer earlier n = record {
  added = ds earlier (type_of_words w.words) outer n;
  functions = [];
}
add_form_by (function w name ps e) None outer earlier n = record {
  added = nothing_added;
  functions = [];
}
add_form_by (function w name ps e) (Some s) outer earlier n =
    add_function_by (add_params_by (is_main_name s.name) s.is_definition name.at 1 (without_void_item ps))
    (unwrap_or e []) name.at s outer earlier n

body_is : (e : FunctionEnd) → body_parts e ≡ unwrap_or (end_item e) []
body_is (end.Body b) = refl
body_is (end.Prototype semicolon) = refl

form_added : (w : SpecifierItem) (f : ExternalForm) (s : Option Signature) (outer : Scope) (earlier : List
    Signature) (n : Before)
    → add_external_form (type_of_words w.words) f s outer earlier n ≡ add_form_by (form_item w f) s outer
    earlier n
form_added w (form.Variables None semicolon) s outer earlier n = refl
form_added w (form.Variables (Some ds) semicolon) s outer earlier n = refl
form_added w (form.Function name opener ps closer e) None outer earlier n = refl
form_added w (form.Function name opener ps closer e) (Some s) outer earlier n =
    let qs = params_of_list ps.list in
    let at = name.at in
    let main = is_main_name s.name in
    ap (λ part. add_function_by part (body_parts e) at s outer earlier n)
    (params_are main s.is_definition at 1 (params_of ps)
    ∙ ap (add_params_by main s.is_definition at 1) (sym (without_is qs)))
    ∙ ap (λ parts. add_function_by (add_params_by main s.is_definition at 1 (without_void_item (map
    param_item qs))) parts
    at s outer earlier n) (body_is e)

-- what a declaration or a function begins with, and what follows it
abbrev behind_specifiers : ExternalItem → Option Signature → Scope → List Signature → Before → Added →
    FileAdded
behind_specifiers x s outer earlier n w =
    let a = add_form_by x s (knowing w.entries outer) earlier (behind n w) in
    record { added = w and a.added; functions = a.functions }

abbrev specifiers_in : ExternalItem → SpecifierItem
specifiers_in (variables w ds) = w
specifiers_in (function w name ps e) = w

abbrev pub add_external_by : ExternalItem → Option Signature → Scope → List Signature → Before → FileAdded
add_external_by x s outer earlier n =
    behind_specifiers x s outer earlier n (specified_by earlier (specifiers_in x) outer n)

specifiers_are : (w : SpecifierItem) (f : ExternalForm) → specifiers_in (form_item w f) ≡ w
specifiers_are w (form.Variables ds semicolon) = refl
specifiers_are w (form.Function name opener ps closer e) = refl

external_added : (x : External) (s : Option Signature) (outer : Scope) (earlier : List Signature) (n : Before)
    → add_external x s outer earlier n ≡ add_external_by (external_item x) s outer earlier n
external_added x s outer earlier n =
    let i = specifier_item x.specifiers in
    let w = add_specifiers earlier x.specifiers outer n in
    ap (λ (a : FileAdded). record { added = w and a.added; functions = a.functions })
    (form_added i x.form s (knowing w.entries outer) earlier (behind n w))
    ∙ ap (behind_specifiers (external_item x) s outer earlier n)
    (ap (λ (part : Part). part outer n) (sym (specified_is earlier x.specifiers))
    ∙ ap (λ w. specified_by earlier w outer n) (sym (specifiers_are i x.form)))

abbrev pub add_externals_by : ℕ → List ExternalItem → Scope → List Signature → Before → FileAdded
add_externals_by definitions [] outer earlier n = record { added = nothing_added; functions = [] }
add_externals_by definitions (x ∷ xs) outer earlier n =
    let s = signature_by definitions x in
    let a = add_external_by x s outer earlier n in
    with_functions a (add_externals_by (definitions + definitions_of s) xs
    (knowing a.added.entries outer) (earlier ++ with_signature s []) (behind n a.added))

externals_are : (d : ℕ) (xs : List External) (outer : Scope) (earlier : List Signature) (n : Before)
    → add_externals d xs outer earlier n ≡ add_externals_by d (map external_item xs) outer earlier n
externals_are d [] outer earlier n = refl
externals_are d (x ∷ xs) outer earlier n =
    let rest : Option Signature → FileAdded → FileAdded
    = λ s a. with_functions a (add_externals (d + definitions_of s) xs
    (knowing a.added.entries outer) (earlier ++ with_signature s []) (behind n a.added)) in
    let s = signature_by d (external_item x) in
    let a = add_external_by (external_item x) s outer earlier n in
    ap (λ s. rest s (add_external x s outer earlier n)) (signature_is d x)
    ∙ ap (rest s) (external_added x s outer earlier n)
    ∙ ap (with_functions a) (externals_are (d + definitions_of s) xs (knowing a.added.entries outer)
    (earlier ++ with_signature s []) (behind n a.added))

abbrev scope_by : List Signature → Scope
scope_by ss = record { functions = ss; known = []; depth = 0; exits = no_exits; result = None }

abbrev pub file_by : List ExternalItem → FileAdded
file_by xs = add_externals_by 0 xs (scope_by (signatures_by 0 xs)) [] no_parts

file_is : (xs : List External) → file_of xs ≡ file_by (map external_item xs)
file_is xs = externals_are 0 xs (file_scope xs) [] no_parts
    ∙ ap (λ ss. add_externals_by 0 (map external_item xs) (scope_by ss) [] no_parts) (signatures_are 0 xs)

main_is : (xs : List External)
    → main_of xs ≡ option_map (λ (s : Signature). s.function) (definition_in (signatures_by 0 (map
    external_item xs)) main_name)
main_is xs = ap (λ ss. option_map (λ (s : Signature). s.function) (definition_in ss main_name))
    (signatures_are 0 xs)

faults_are : (xs : List External) → faults_of xs ≡ (file_by (map external_item xs)).added.faults
unfolding faults_of
faults_are xs = ap (λ (f : FileAdded). f.added.faults) (file_is xs)

typed_is : (xs : List External) → typed_of xs ≡ option_map (program_of (file_by (map external_item xs)))
    (option_map (λ (s : Signature). s.function) (definition_in (signatures_by 0 (map external_item xs))
    main_name))
unfolding typed_of
typed_is xs = ap (λ f. option_map (program_of f) (main_of xs)) (file_is xs)
    ∙ ap (option_map (program_of (file_by (map external_item xs)))) (main_is xs)

-- WHAT A TREE WRITTEN OUT comes to: the items of its file, their faults and their typed program

abbrev pub items_by : List Mark → List ExternalItem
items_by ms = items_in (read ms [] [])

abbrev pub faults_from : List ExternalItem → List Fault
faults_from xs = (file_by xs).added.faults

abbrev pub typed_from : List ExternalItem → Option ProgramTree
typed_from xs = option_map (program_of (file_by xs))
    (option_map (λ (s : Signature). s.function) (definition_in (signatures_by 0 xs) main_name))

pub faults_by : (p : RawProgram) → faults_of p.externals.items ≡ faults_from (items_by (file_marks p))
faults_by p = faults_are p.externals.items ∙ ap faults_from (sym (read_file p))

pub typed_by : (p : RawProgram) → typed_of p.externals.items ≡ typed_from (items_by (file_marks p))
typed_by p = typed_is p.externals.items ∙ ap typed_from (sym (read_file p))

-- TREES THAT ARE THE SAME WRITTEN OUT are typed alike

pub same_faults : (p q : RawProgram) → file_marks p ≡ file_marks q →
    faults_of p.externals.items ≡ faults_of q.externals.items
same_faults p q same = faults_by p ∙ ap (λ ms. faults_from (items_by ms)) same ∙ sym (faults_by q)

pub same_typed : (p q : RawProgram) → file_marks p ≡ file_marks q →
    typed_of p.externals.items ≡ typed_of q.externals.items
same_typed p q same = typed_by p ∙ ap (λ ms. typed_from (items_by ms)) same ∙ sym (typed_by q)
