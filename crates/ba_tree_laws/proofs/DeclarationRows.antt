-- Declarations and what is between the parentheses of a statement, read back.
use Rattle.std.proofs.Common.{◌≡◌, ℤ, Option, None, Some, List, [], ◌∷◌, ◌++◌, map, refl, ◌∙◌, ap}
use Rattle.std.specs.Prelude.{option_map}
use Rattle.std.proofs.lemmas.List.{append-nil}
use Rattle.ba_tokens.specs.declared.token.Token.{Token}
use Rattle.ba_numbers.specs.declared.numbers.CType.{CType}
use Rattle.ba_trees.specs.Marks.{leaf}
use Rattle.ba_trees.specs.Marks as rule
use Rattle.ba_trees.specs.Views.{joined, optional, optional_leaf, name_marks}
use Rattle.ba_trees.specs.ExpressionMarks.{M, conditional_marks}
use Rattle.ba_trees.specs.DeclarationMarks.{enumerator_value_marks, enumerator_marks, next_enumerator_marks, enumerators_marks, specifiers_marks, array_length_marks, braced_marks, initialiser_marks, declarator_marks, listed_declarator_marks, declarators_marks, declaration_marks, parameter_marks, next_parameter_marks, parameter_list_marks, parameters_marks}
use Rattle.ba_trees.specs.SimpleMarks.{index_marks, target_marks, simple_marks, listed_simple_marks, simples_marks, condition_marks, for_first_marks, printed_marks}
use Rattle.ba_trees.specs.declared.tree.declarations.ArrayLength.{ArrayLength}
use Rattle.ba_trees.specs.declared.tree.declarations.Braced.{Braced}
use Rattle.ba_trees.specs.declared.tree.declarations.Initialiser.{Initialiser}
use Rattle.ba_trees.specs.declared.tree.declarations.Initialiser.TheVariants as initialiser
use Rattle.ba_trees.specs.declared.tree.declarations.Declarator.{Declarator}
use Rattle.ba_trees.specs.declared.tree.declarations.ListedDeclarator.{ListedDeclarator}
use Rattle.ba_trees.specs.declared.tree.declarations.Declarators.{Declarators}
use Rattle.ba_trees.specs.declared.tree.declarations.Declaration.{Declaration}
use Rattle.ba_trees.specs.declared.tree.declarations.Enumerator.{Enumerator}
use Rattle.ba_trees.specs.declared.tree.declarations.EnumeratorValue.{EnumeratorValue}
use Rattle.ba_trees.specs.declared.tree.declarations.Enumerators.{Enumerators}
use Rattle.ba_trees.specs.declared.tree.declarations.NextEnumerator.{NextEnumerator}
use Rattle.ba_trees.specs.declared.tree.declarations.Specifiers.{Specifiers}
use Rattle.ba_trees.specs.declared.tree.declarations.Parameter.{Parameter}
use Rattle.ba_trees.specs.declared.tree.declarations.NextParameter.{NextParameter}
use Rattle.ba_trees.specs.declared.tree.declarations.ParameterList.{ParameterList}
use Rattle.ba_trees.specs.declared.tree.declarations.Parameters.{Parameters}
use Rattle.ba_trees.specs.declared.tree.expressions.Conditional.{Conditional}
use Rattle.ba_trees.specs.declared.tree.statements.Target.{Target}
use Rattle.ba_trees.specs.declared.tree.statements.Index.{Index}
use Rattle.ba_trees.specs.declared.tree.statements.Simple.{Simple}
use Rattle.ba_trees.specs.declared.tree.statements.Simple.TheVariants as form
use Rattle.ba_trees.specs.declared.tree.statements.ListedSimple.{ListedSimple}
use Rattle.ba_trees.specs.declared.tree.statements.Simples.{Simples}
use Rattle.ba_trees.specs.declared.tree.statements.Condition.{Condition}
use Rattle.ba_trees.specs.declared.tree.statements.ForFirst.{ForFirst}
use Rattle.ba_trees.specs.declared.tree.statements.ForFirst.TheVariants as first
use Rattle.ba_trees.specs.declared.tree.statements.Printed.{Printed}
use Rattle.ba_typing.specs.Declarations.{Before, Part, ◌then◌, in_order, faults_added, written_value, enumerator_value, add_tag, add_enumerator_list, enumerators_in, add_listed, add_specifiers, add_declarator, add_declarators, add_optional_declarators, add_declaration, braced_values}
use Rattle.ba_typing.specs.Expressions.{Typing, typed_conditional}
use Rattle.ba_typing.specs.Faults.{tag_faults}
use Rattle.ba_typing.specs.Files.{params_of_list}
use Rattle.ba_typing.specs.Names.{Scope, words_of, words_of_declaration, type_of_words, tag_of}
use Rattle.ba_typing.specs.Statements.{add_simple, add_simples, add_first, for_scope, index_typing, optional_typing, printed_typings, test_of}
use Rattle.ba_typing.specs.declared.meanings.Signature.{Signature}
use Rattle.ba_tree_laws.proofs.ExpressionRows.{leaves, words_all, type_row, conditional_row, arguments_row, nexts_row}
use Rattle.ba_tree_laws.proofs.Rows.{Item, Row, ConstantItem, SpecifierItem, ParamItem, Declaring, Reads, token, specifiers, enumerators, enumerator, conditional, array_length, braced, declarator, declarators, declaration, target, simple, simples, for_first, parameter, parameters, absent, as_token, as_enumerators, as_enumerator, as_conditional, as_length, as_braced, as_declarator, as_simple, as_parameter, items_of, items_append, items_none, first_of, constant_added, constants_added, list_added, specified_by, declared_by, declaring_nothing, with_item, declarators_of, declaring, named_by, values_item, none, both, front, deeper, inside, as_row}

-- MANY OF A KIND: marks whose row has these of a kind

pub record AllOf {A : Type 0} (pick : Item → Option A) (m : M) (xs : List A) : Type 0 where
  pub row : Row
  pub reads : Reads m row
  pub are : items_of pick row ≡ xs

pub all_of : {A B : Type 0} (pick : Item → Option A) (marks : B → M) (what : B → A)
    → ((x : B) → AllOf pick (marks x) (what x ∷ [])) → (xs : List B) →
    AllOf pick (joined (map marks xs)) (map what xs)
all_of pick marks what each [] = record { row = []; reads = none; are = refl }
all_of pick marks what each (x ∷ xs) = let one = each x in let rest = all_of pick marks what each xs in
    record {
      row = one.row ++ rest.row;
      reads = both one.reads rest.reads;
      are = items_append pick one.row rest.row ∙ ap (λ ys. ys ++ items_of pick rest.row) one.are
          ∙ ap (λ ys. what x ∷ ys) rest.are;
    }

-- tokens that may be left out

abbrev comma_items : Option Token → Row
comma_items None = []
comma_items (Some t) = token t ∷ []

comma_row : (o : Option Token) → Reads (optional_leaf o) (comma_items o)
comma_row None = none
comma_row (Some t) = front t none

-- an item of the kind after a comma
behind_comma : {A : Type 0} (pick : Item → Option A) (o : Option Token) (m : M) (i : Item) (x : A)
    → ((t : Token) → pick (token t) ≡ None) → pick i ≡ Some x → Reads m (i ∷ []) →
    AllOf pick (optional_leaf o ++ m) (x ∷ [])
behind_comma pick o m i x other is reads = record {
  row = comma_items o ++ i ∷ [];
  reads = both (comma_row o) reads;
  are = from o;
} where
  one : items_of pick (i ∷ []) ≡ x ∷ []
  one = ap (λ y. with_item y []) is

  from : (o : Option Token) → items_of pick (comma_items o ++ i ∷ []) ≡ x ∷ []
  from None = one
  from (Some t) = ap (λ y. with_item y (items_of pick (i ∷ []))) (other t) ∙ one

-- LENGTHS

abbrev pub conditional_items : Option Typing → Row
conditional_items None = []
conditional_items (Some e) = conditional e ∷ []

pub optional_row : (o : Option Conditional) →
    Reads (optional (option_map conditional_marks o)) (conditional_items (optional_typing o))
optional_row None = none
optional_row (Some c) = conditional_row c

abbrev pub lengths : Option ArrayLength → Option (Option Typing)
lengths None = None
lengths (Some l) = Some (optional_typing l.length)

abbrev length_items : Option (Option Typing) → Row
length_items None = []
length_items (Some l) = array_length l ∷ []

bracketed : (opener closer : Token) (l : Option Typing)
    → first_of (items_of as_conditional (token opener ∷ conditional_items l ++ token closer ∷ [])) ≡ l
bracketed opener closer None = refl
bracketed opener closer (Some e) = refl

length_row : (a : ArrayLength) → Reads (array_length_marks a) (array_length (optional_typing a.length) ∷ [])
length_row a = as_row (ap (λ l. array_length l ∷ []) (bracketed a.«open» a.close (optional_typing
    a.length)))
    (inside rule.array_length (front a.«open» (both (deeper (optional_row a.length)) (front a.close
    none))))

lengths_row : (o : Option ArrayLength) →
    Reads (optional (option_map array_length_marks o)) (length_items (lengths o))
lengths_row None = none
lengths_row (Some a) = length_row a

-- INITIALISERS AND DECLARATORS

braced_row : (b : Braced) → Reads (braced_marks b) (braced (braced_values b) ∷ [])
braced_row b =
    let rest = nexts_row b.rest.items in
    let first = typed_conditional b.first in
    let values : items_of as_conditional ((conditional first ∷ rest.row) ++ comma_items b.comma ++ token
    b.close ∷ [])
    ≡ braced_values b
    = items_append as_conditional ((conditional first ∷ rest.row) ++ comma_items b.comma) (token
    b.close ∷ [])
    ∙ append-nil (items_of as_conditional ((conditional first ∷ rest.row) ++ comma_items b.comma))
    ∙ items_append as_conditional (conditional first ∷ rest.row) (comma_items b.comma)
    ∙ ap (λ es. (first ∷ items_of as_conditional rest.row) ++ es) (no_commas b.comma)
    ∙ append-nil (first ∷ items_of as_conditional rest.row)
    ∙ ap (λ es. first ∷ es) rest.are in
    as_row (ap (λ es. braced es ∷ []) values) (inside rule.braced (front b.«open»
    (both (both (both (conditional_row b.first) rest.reads) (comma_row b.comma)) (front b.close none))))
  where
    no_commas : (o : Option Token) → items_of as_conditional (comma_items o) ≡ []
    no_commas None = refl
    no_commas (Some t) = refl

abbrev initial_items : Option Initialiser → Row
initial_items None = []
initial_items (Some (initialiser.Expression assign e)) = token assign ∷ conditional (typed_conditional
    e) ∷ []
initial_items (Some (initialiser.Braced assign b)) = token assign ∷ braced (braced_values b) ∷ []

initial_row : (o : Option Initialiser) → Reads (optional (option_map initialiser_marks o)) (initial_items o)
initial_row None = none
initial_row (Some (initialiser.Expression assign e)) = front assign (conditional_row e)
initial_row (Some (initialiser.Braced assign b)) = front assign (braced_row b)

-- what the row of a declarator declares
abbrev declared : Token → Row → Declaring
declared name is = declaring name (first_of (items_of as_length is))
    (values_item (items_of as_braced is) (items_of as_conditional is))

abbrev adds : Declarator → Declaring
adds d functions t = add_declarator functions t d

declared_plain : (name : Token) (o : Option Initialiser)
    → declared name (length_items None ++ initial_items o) ≡ adds (record {
      name = name;
      length = None;
      initialiser = o;
    })
declared_plain name None = refl
declared_plain name (Some (initialiser.Expression assign e)) = refl
declared_plain name (Some (initialiser.Braced assign b)) = refl

declared_array : (name opener closer : Token) (l : Option Conditional) (o : Option Initialiser)
    → declared name (length_items (Some (optional_typing l)) ++ initial_items o)
    ≡ adds (record {
      name = name;
      length = Some (record { «open» = opener; length = l; close = closer });
      initialiser = o;
    })
declared_array name opener closer None None = refl
declared_array name opener closer None (Some (initialiser.Expression assign e)) = refl
declared_array name opener closer None (Some (initialiser.Braced assign b)) = refl
declared_array name opener closer (Some c) None = refl
declared_array name opener closer (Some c) (Some (initialiser.Expression assign e)) = refl
declared_array name opener closer (Some c) (Some (initialiser.Braced assign b)) = refl

declared_is : (name : Token) (l : Option ArrayLength) (o : Option Initialiser)
    → declared name (length_items (lengths l) ++ initial_items o) ≡ adds (record {
      name = name;
      length
          = l;
      initialiser = o;
    })
declared_is name None o = declared_plain name o
declared_is name (Some a) o = declared_array name a.«open» a.close a.length o

declarator_row : (d : Declarator) → Reads (declarator_marks d) (declarator (adds d) ∷ [])
declarator_row d = as_row (ap (λ x. declarator x ∷ []) (declared_is d.name d.length d.initialiser))
    (inside rule.declarator (front d.name (both (lengths_row d.length) (initial_row d.initialiser))))

declarators_at : (functions : List Signature) (t : Option CType) (ls : List ListedDeclarator)
    → map (λ (d : Declaring). d functions t) (map (λ (l : ListedDeclarator). adds l.declarator) ls)
    ≡ map (λ (l : ListedDeclarator). add_declarator functions t l.declarator) ls
declarators_at functions t [] = refl
declarators_at functions t (l ∷ ls) = ap (λ ps. add_declarator functions t l.declarator ∷ ps)
    (declarators_at functions t ls)

abbrev pub add_all : Declarators → Declaring
add_all ds functions t = add_declarators functions t ds

declarators_row : (ds : Declarators) → Reads (declarators_marks ds) (declarators (add_all ds) ∷ [])
declarators_row ds =
    let all = all_of as_declarator listed_declarator_marks (λ (l : ListedDeclarator). adds l.declarator)
    (λ l. behind_comma as_declarator l.comma (declarator_marks l.declarator) (declarator (adds l.declarator))
    (adds l.declarator) (λ t. refl) refl (declarator_row l.declarator)) ds.all.items in
    let same : declarators_of all.row ≡ add_all ds
    = λ i functions t. (ap (λ xs. in_order (map (λ (d : Declaring). d functions t) xs)) all.are
    ∙ ap in_order (declarators_at functions t ds.all.items)) i in
    as_row (ap (λ x. declarators x ∷ []) same) (inside rule.declarators all.reads)

-- ENUMERATIONS, and what a declaration begins with

abbrev constant_item : Enumerator → ConstantItem
constant_item e = record { name = e.name; value = written_value e }

abbrev written_items : Option EnumeratorValue → Row
written_items None = []
written_items (Some v) = token v.assign ∷ conditional (typed_conditional v.value) ∷ []

written_row : (o : Option EnumeratorValue) →
    Reads (optional (option_map enumerator_value_marks o)) (written_items o)
written_row None = none
written_row (Some v) = front v.assign (conditional_row v.value)

written_is : (o : Option EnumeratorValue) → first_of (items_of as_conditional (written_items o))
    ≡ option_map (λ (v : EnumeratorValue). typed_conditional v.value) o
written_is None = refl
written_is (Some v) = refl

enumerator_row : (e : Enumerator) → Reads (enumerator_marks e) (enumerator (constant_item e) ∷ [])
enumerator_row e = as_row (ap (λ v. enumerator (record { name = e.name; value = v }) ∷ [])
    (written_is e.value)) (inside rule.enumerator (front e.name (written_row e.value)))

next_enumerator_all : (n : NextEnumerator) →
    AllOf as_enumerator (next_enumerator_marks n) (constant_item n.enumerator ∷ [])
next_enumerator_all n = record {
  row = token n.comma ∷ enumerator (constant_item n.enumerator) ∷ [];
  reads = front n.comma (enumerator_row n.enumerator);
  are = refl;
}

constants_next : (ns : List NextEnumerator) → map (λ (n : NextEnumerator). constant_item n.enumerator) ns
    ≡ map constant_item (map (λ (n : NextEnumerator). n.enumerator) ns)
constants_next [] = refl
constants_next (n ∷ ns) = ap (λ xs. constant_item n.enumerator ∷ xs) (constants_next ns)

abbrev constants_in : Enumerators → List ConstantItem
constants_in e = map constant_item (enumerators_in e.list)

enumerators_row : (e : Enumerators) → Reads (enumerators_marks e) (enumerators (constants_in e) ∷ [])
enumerators_row e =
    let l = e.list in
    let rest = all_of as_enumerator next_enumerator_marks
    (λ (n : NextEnumerator). constant_item n.enumerator) next_enumerator_all l.rest.items in
    let first = constant_item l.first in
    let behind = (enumerator first ∷ rest.row) ++ comma_items l.comma in
    let constants : items_of as_enumerator (behind ++ token e.close ∷ []) ≡ constants_in e
    = items_append as_enumerator behind (token e.close ∷ [])
    ∙ append-nil (items_of as_enumerator behind)
    ∙ items_append as_enumerator (enumerator first ∷ rest.row) (comma_items l.comma)
    ∙ ap (λ cs. (first ∷ items_of as_enumerator rest.row) ++ cs) (no_commas l.comma)
    ∙ append-nil (first ∷ items_of as_enumerator rest.row)
    ∙ ap (λ cs. first ∷ cs) (rest.are ∙ constants_next l.rest.items) in
    as_row (ap (λ cs. enumerators cs ∷ []) constants) (inside rule.enumerators (front e.«open»
    (both (deeper (both (both (enumerator_row l.first) rest.reads) (comma_row l.comma)))
    (front e.close none))))
  where
    no_commas : (o : Option Token) → items_of as_enumerator (comma_items o) ≡ []
    no_commas None = refl
    no_commas (Some t) = refl

abbrev list_items : Option Enumerators → Row
list_items None = []
list_items (Some e) = enumerators (constants_in e) ∷ []

list_row : (o : Option Enumerators) → Reads (optional (option_map enumerators_marks o)) (list_items o)
list_row None = none
list_row (Some e) = enumerators_row e

abbrev pub specifier_item : Specifiers → SpecifierItem
specifier_item s = record {
  words = words_of_declaration s;
  constants = option_map constants_in s.enumerators;
}

-- the words before and after a list are those of one row
pub specifiers_row : (s : Specifiers) → Reads (specifiers_marks s) (specifiers (specifier_item s) ∷ [])
specifiers_row s =
    let before = map token s.words.items in
    let list = list_items s.enumerators in
    let behind = map token s.behind.items in
    let words : items_of as_token (before ++ list ++ behind) ≡ words_of_declaration s
    = items_append as_token (before ++ list) behind
    ∙ ap (λ ts. ts ++ items_of as_token behind) (items_append as_token before list
    ∙ ap (λ ts. ts ++ items_of as_token list) (words_all s.words.items)
    ∙ ap (λ ts. s.words.items ++ ts) (no_words s.enumerators) ∙ append-nil s.words.items)
    ∙ ap (λ ts. s.words.items ++ ts) (words_all s.behind.items) in
    let constants : first_of (items_of as_enumerators (before ++ list ++ behind))
    ≡ option_map constants_in s.enumerators
    = ap first_of (items_append as_enumerators (before ++ list) behind
    ∙ ap (λ cs. cs ++ items_of as_enumerators behind) (items_append as_enumerators before list
    ∙ ap (λ cs. cs ++ items_of as_enumerators list)
    (items_none as_enumerators token (λ t. refl) s.words.items))
    ∙ ap (λ cs. items_of as_enumerators list ++ cs)
    (items_none as_enumerators token (λ t. refl) s.behind.items)) ∙ one_list s.enumerators in
    as_row (ap (λ ws. specifiers (record {
      words = ws;
      constants = first_of (items_of as_enumerators (before ++ list ++ behind));
    }) ∷ []) words
    ∙ ap (λ cs. specifiers (record { words = words_of_declaration s; constants = cs }) ∷ []) constants)
    (inside rule.specifiers (both (both (leaves s.words.items) (list_row s.enumerators))
    (leaves s.behind.items)))
  where
    no_words : (o : Option Enumerators) → items_of as_token (list_items o) ≡ []
    no_words None = refl
    no_words (Some e) = refl

    one_list : (o : Option Enumerators) → first_of (items_of as_enumerators (list_items o) ++ [])
        ≡ option_map constants_in o
    one_list None = refl
    one_list (Some e) = refl

constants_are : (functions : List Signature) (last : Option ℤ) (es : List Enumerator) (scope : Scope)
    (n : Before) → constants_added functions last (map constant_item es) scope n
    ≡ add_enumerator_list functions last es scope n
constants_are functions last [] scope n = refl
constants_are functions last (e ∷ es) scope n =
    let v = option_map (λ (typing : Typing). typing scope n.calls) (written_value e) in
    let z = enumerator_value last v in
    ap (λ (part : Part). (constant_added functions last e.name v then part) scope n)
    (λ i scope n. constants_are functions (Some z) es scope n i)

list_is : (functions : List Signature) (tag : Option Token) (o : Option Enumerators)
    → list_added functions tag (option_map constants_in o) ≡ add_listed functions tag o
list_is functions tag None = λ i scope n. faults_added (tag_faults scope tag)
list_is functions tag (Some e) = λ i scope n. (add_tag tag
    then (λ scope n. constants_are functions None (enumerators_in e.list) scope n i)) scope n

pub specified_is : (functions : List Signature) (s : Specifiers)
    → specified_by functions (specifier_item s) ≡ add_specifiers functions s
specified_is functions s = list_is functions (tag_of (words_of_declaration s)) s.enumerators

-- DECLARATIONS

abbrev pub add_optional : Option Declarators → Declaring
add_optional None = declaring_nothing
add_optional (Some ds) = add_all ds

abbrev pub declarators_items : Option Declarators → Row
declarators_items None = []
declarators_items (Some ds) = declarators (add_all ds) ∷ []

pub declarators_optional : (o : Option Declarators) →
    Reads (optional (option_map declarators_marks o)) (declarators_items o)
declarators_optional None = none
declarators_optional (Some ds) = declarators_row ds

declared_all : (ws : List Token) (o : Option Declarators) (semicolon : Token)
    → declared_by ws (declarators_items o ++ token semicolon ∷ [])
    ≡ add_optional_declarators [] (type_of_words ws) o
declared_all ws None semicolon = refl
declared_all ws (Some ds) semicolon = refl

pub declaration_row : (d : Declaration)
    → Reads (declaration_marks d) (declaration (add_declaration [] d.specifiers d.declarators) ∷ [])
declaration_row d =
    let s = d.specifiers in
    let behind = declared_by (words_of_declaration s) (declarators_items d.declarators
    ++ token d.semicolon ∷ []) in
    as_row (ap (λ part. declaration (part then behind) ∷ []) (specified_is [] s)
    ∙ ap (λ part. declaration (add_specifiers [] s then part) ∷ [])
    (declared_all (words_of_declaration s) d.declarators d.semicolon))
    (inside rule.declaration (both (both (specifiers_row s) (declarators_optional d.declarators))
    (front d.semicolon none)))

-- PARAMETERS

abbrev pub param_item : Parameter → ParamItem
param_item p = record {
  words = words_of p.type_name;
  name = p.name;
  length = lengths p.length;
}

abbrev name_item : Option Token → Item
name_item None = absent
name_item (Some t) = token t

name_row : (o : Option Token) → Reads (name_marks o) (name_item o ∷ [])
name_row None = inside rule.no_name none
name_row (Some t) = front t none

name_is : (o : Option Token) → named_by (name_item o) ≡ o
name_is None = refl
name_is (Some t) = refl

length_is : (o : Option (Option Typing)) → first_of (items_of as_length (length_items o)) ≡ o
length_is None = refl
length_is (Some l) = refl

parameter_row : (p : Parameter) → Reads (parameter_marks p) (parameter (param_item p) ∷ [])
parameter_row p = as_row
    (ap (λ name. parameter (record {
      words = words_of p.type_name;
      name = name;
      length = first_of (items_of as_length (length_items (lengths p.length)));
    }) ∷ []) (name_is p.name)
    ∙ ap (λ l. parameter (record {
      words = words_of p.type_name;
      name = p.name;
      length = l;
    }) ∷ []) (length_is (lengths p.length)))
    (inside rule.parameter (both (both (type_row p.type_name) (name_row p.name)) (lengths_row p.length)))

parameter_all : (p : Parameter) → AllOf as_parameter (parameter_marks p) (param_item p ∷ [])
parameter_all p = record { row = parameter (param_item p) ∷ []; reads = parameter_row p; are = refl }

next_all : (n : NextParameter) → AllOf as_parameter (next_parameter_marks n) (param_item n.parameter ∷ [])
next_all n = record {
  row = token n.comma ∷ parameter (param_item n.parameter) ∷ [];
  reads = front n.comma (parameter_row n.parameter);
  are = refl;
}

items_next : (ns : List NextParameter) → map (λ (n : NextParameter). param_item n.parameter) ns
    ≡ map param_item (map (λ (n : NextParameter). n.parameter) ns)
items_next [] = refl
items_next (n ∷ ns) = ap (λ xs. param_item n.parameter ∷ xs) (items_next ns)

list_all_of : (l : Option ParameterList) → AllOf as_parameter (optional (option_map parameter_list_marks l))
    (map param_item (params_of_list l))
list_all_of None = record { row = []; reads = none; are = refl }
list_all_of (Some l) =
    let rest = all_of as_parameter next_parameter_marks (λ (n : NextParameter). param_item n.parameter)
    next_all l.rest.items in
    record {
      row = parameter (param_item l.first) ∷ rest.row;
      reads = both (parameter_row l.first) rest.reads;
      are = ap (λ xs. param_item l.first ∷ xs) (rest.are ∙ items_next l.rest.items);
    }

pub parameters_row : (ps : Parameters) →
    Reads (parameters_marks ps) (parameters (map param_item (params_of_list ps.list)) ∷ [])
parameters_row ps = let all = list_all_of ps.list in
    as_row (ap (λ xs. parameters xs ∷ []) all.are) (inside rule.parameters all.reads)

-- ASSIGNMENTS, STEPS AND CALLS

abbrev target_item : Target → Item
target_item t = target t.name (index_typing t.index)

abbrev index_items : Option Index → Row
index_items None = []
index_items (Some i) = token i.«open» ∷ conditional (typed_conditional i.value.value) ∷ token
    i.close ∷ []

index_row : (o : Option Index) → Reads (optional (option_map index_marks o)) (index_items o)
index_row None = none
index_row (Some i) = front i.«open» (both (deeper (conditional_row i.value.value)) (front i.close
    none))

index_is : (o : Option Index) → first_of (items_of as_conditional (index_items o)) ≡ index_typing o
index_is None = refl
index_is (Some i) = refl

target_row : (t : Target) → Reads (target_marks t) (target_item t ∷ [])
target_row t = as_row (ap (λ i. target t.name i ∷ []) (index_is t.index))
    (inside rule.target (front t.name (index_row t.index)))

pub simple_row : (s : Simple) → Reads (simple_marks s) (simple (add_simple s) ∷ [])
simple_row (form.Assign place operator value) =
    inside rule.simple (both (target_row place) (front operator (conditional_row value)))
simple_row (form.Step place operator) = inside rule.simple (both (target_row place) (front operator none))
simple_row (form.PrefixStep operator place) = inside rule.simple (front operator (target_row place))
simple_row (form.Call name opener values closer) =
    inside rule.simple (front name (front opener (both (deeper (arguments_row values)) (front
    closer none))))

pub simples_row : (s : Simples) → Reads (simples_marks s) (simples (add_simples s) ∷ [])
simples_row s =
    let all = all_of as_simple listed_simple_marks (λ (l : ListedSimple). add_simple l.simple)
    (λ l. behind_comma as_simple l.comma (simple_marks l.simple) (simple (add_simple l.simple)) (add_simple
    l.simple)
    (λ t. refl) refl (simple_row l.simple)) s.all.items in
    as_row (ap (λ xs. simples (in_order xs) ∷ []) all.are) (inside rule.simples all.reads)

-- PARTS OF STATEMENTS

pub condition_row : (c : Condition)
    → Reads (condition_marks c) (token c.«open» ∷ conditional (test_of c) ∷ token c.close ∷ [])
condition_row c = front c.«open» (both (deeper (conditional_row c.test.value)) (front c.close none))

pub first_row : (f : ForFirst) → Reads (for_first_marks f) (for_first (for_scope f) (add_first f) ∷ [])
first_row (first.Declaration name ds) = inside rule.for_first (both (type_row name) (declarators_row ds))
first_row (first.Simples s) = inside rule.for_first (simples_row s)
first_row first.Nothing = inside rule.for_first none

abbrev pub simples_items : Option Simples → Row
simples_items None = []
simples_items (Some s) = simples (add_simples s) ∷ []

pub step_row : (o : Option Simples) → Reads (optional (option_map simples_marks o)) (simples_items o)
step_row None = none
step_row (Some s) = simples_row s

-- the tokens and values of a `printf`
pub record ArePrinted (m : M) (s : List Typing) : Type 0 where
  pub string : Token
  pub row : Row
  pub reads : Reads m (token string ∷ row)
  pub are : items_of as_conditional row ≡ s

strings : (ts : List Token) → AllOf as_conditional (map (λ (t : Token). leaf t) ts) []
strings [] = record { row = []; reads = none; are = refl }
strings (t ∷ ts) = let rest = strings ts in record {
  row = token t ∷ rest.row;
  reads = front t rest.reads;
  are = rest.are;
}

pub printed_row : (p : Printed) → ArePrinted (printed_marks p) (printed_typings p)
printed_row p = let rest = strings p.rest.items in let values = nexts_row p.values.items in record {
  string = p.first;
  row = rest.row ++ values.row;
  reads = front p.first (both rest.reads values.reads);
  are = items_append as_conditional rest.row values.row ∙ ap (λ es. es ++ items_of as_conditional
      values.row) rest.are
      ∙ values.are;
}
