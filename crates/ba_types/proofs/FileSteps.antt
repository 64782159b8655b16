-- What the parts of a file add, one after the other, and the answer for the whole.
use Rattle.std.proofs.Common.{◌≡◌, ℕ, ◌+◌, ◌<◌, ◌≤◌, Option, None, Some, Ok, Err, List, [], ◌∷◌, ◌++◌, map, length, get_or, drop, sym, ◌∙◌, ap, append_assoc, append-nil, option_map}
use Rattle.std.specs.Global.{Vec}
use Rattle.std.specs.Prelude.{MatchOption}
use Rattle.ba_tokens.specs.declared.token.Token.{Token}
use Rattle.ba_numbers.specs.declared.ids.At.{At}
use Rattle.ba_numbers.specs.declared.ids.FnId.{FnId}
use Rattle.ba_numbers.specs.declared.numbers.CType.{CType}
use Rattle.ba_trees.specs.declared.tree.declarations.Declarators.{Declarators}
use Rattle.ba_trees.specs.declared.tree.statements.External.{External}
use Rattle.ba_trees.specs.declared.tree.statements.ExternalForm.{ExternalForm}
use Rattle.ba_trees.specs.declared.tree.statements.ExternalForm.TheVariants as form
use Rattle.ba_tree.specs.declared.tree.Function.{Function}
use Rattle.ba_tree.specs.declared.tree.Parts.{Parts}
use Rattle.ba_tree.specs.declared.tree.Stmt.{Stmt}
use Rattle.ba_statements.specs.Adding.{State, state_with, before_of, behind_part, extended, no_work, state}
use Rattle.ba_typing.specs.Declarations.{Before, add_optional_declarators, add_specifiers, behind, nothing_added}
use Rattle.ba_typing.specs.Faults.{IsFirst}
use Rattle.ba_typing.specs.Files.{FileAdded, FirstFault, add_external, add_externals, add_external_form, definitions_of, faults_of, file_of, file_scope, main_of, program_of, signature_of, typed_of, vars_of, with_functions, with_signature}
use Rattle.ba_types.specs.Filing.{CheckedParts, FileState, IsTyped, behind_externals, error_of, file_state_with, file_state, with_part}
use Rattle.ba_tree.specs.Trees.{StmtTree, tree_of_parts}
use Rattle.ba_expressions.specs.Inferring.{after, nothing_found}
use Rattle.ba_typing.specs.Names.{Scope, knowing, type_specified}
use Rattle.ba_tree.specs.Trees.{tree_of_function, tree_of_stmt}
use Rattle.ba_typing.specs.declared.error.TypeError.TheVariants as error
use Rattle.ba_typing.specs.declared.fault.Cause.{Cause}
use Rattle.ba_typing.specs.declared.fault.Cause.TheVariants.{UnknownName, Twice, WrongKind, WrongCount, BadLength, BreakOutside, CallInIndex, Limit}
use Rattle.ba_typing.specs.declared.fault.Fault.{Fault}
use Rattle.ba_types.specs.declared.files.TypedFile.{TypedFile}
use Rattle.ba_typing.specs.declared.meanings.Signature.{Signature}
use Rattle.ba_statements.specs.declared.work.Work.{Work}
use Rattle.ba_statements.proofs.Adding.{before-added, behind-nothing, extended-both}
use Rattle.ba_typing.proofs.Walks.{next_item, none_left}

-- PARTS OF A FILE

extended-nothing : (s : State) → s ≡ extended s nothing_added
unfolding behind_part
extended-nothing s = behind-nothing s

abbrev nothing_filed : FileAdded
nothing_filed = record { added = nothing_added; functions = [] }

filed-nothing : (s : FileState) → s ≡ with_part s nothing_filed
filed-nothing s = λ i. record {
  state = extended-nothing s.state i;
  functions = sym (append-nil s.functions) i;
}

filed-both : (s : FileState) (a b : FileAdded)
    → with_part (with_part s a) b ≡ with_part s (with_functions a b)
filed-both s a b = λ i. record {
  state = extended-both s.state a.added b.added i;
  functions = append_assoc s.functions a.functions b.functions i;
}

filed-then : (d : ℕ) (x : External) (xs : List External) (earlier : List Signature) (s : FileState)
    → behind_externals (d + definitions_of (signature_of d x)) xs
    (earlier ++ with_signature (signature_of d x) [])
    (with_part s (add_external x (signature_of d x) s.state.scope earlier (before_of s.state.work)))
    ≡ behind_externals d (x ∷ xs) earlier s
unfolding behind_externals
filed-then d x xs earlier s =
    let o = signature_of d x in
    let a = add_external x o s.state.scope earlier (before_of s.state.work) in
    let rest : Before → FileAdded = add_externals (d + definitions_of o) xs
    (knowing a.added.entries s.state.scope)
    (earlier ++ with_signature o []) in
    ap (λ n. with_part (with_part s a) (rest n)) (before-added s.state.work a.added)
    ∙ filed-both s a (rest (behind (before_of s.state.work) a.added))

pub next-external : (d more : ℕ) (xs : List External) (i : ℕ) (x : External) (o : Option Signature)
    (earlier later : List Signature) (s t whole : FileState) → i < length xs → x ≡ get_or xs i x
    → behind_externals d (drop i xs) earlier s ≡ whole → o ≡ signature_of d x
    → t ≡ with_part s (add_external x o s.state.scope earlier (before_of s.state.work))
    → more ≡ d + definitions_of o → later ≡ earlier ++ with_signature o []
    → behind_externals more (drop (i + 1) xs) later t ≡ whole
next-external d more xs i x o earlier later s t whole within is rest one added counts listed =
    let ys = drop (i + 1) xs in
    let from : Option Signature → FileState = λ o.
    with_part s (add_external x o s.state.scope earlier (before_of s.state.work)) in
    ap (λ n. behind_externals n ys later t) counts
    ∙ ap (λ ss. behind_externals (d + definitions_of o) ys ss t) listed
    ∙ ap (behind_externals (d + definitions_of o) ys (earlier ++ with_signature o [])) added
    ∙ ap (λ (o : Option Signature). behind_externals (d + definitions_of o) ys
    (earlier ++ with_signature o [])
    (from o)) one
    ∙ filed-then d x ys earlier s
    ∙ ap (λ zs. behind_externals d zs earlier s) (sym (next_item xs i x within is)) ∙ rest

no-filed : (d : ℕ) (earlier : List Signature) (s : FileState) → s ≡ behind_externals d [] earlier s
unfolding behind_externals
no-filed d earlier s = filed-nothing s

pub no-external : (d : ℕ) (xs : List External) (i : ℕ) (earlier : List Signature) (s whole : FileState)
    → length xs ≤ i → behind_externals d (drop i xs) earlier s ≡ whole → s ≡ whole
no-external d xs i earlier s whole past rest = no-filed d earlier s
    ∙ ap (λ ys. behind_externals d ys earlier s) (sym (none_left xs i past)) ∙ rest

pub all-externals : (xs : List External) (earlier : List Signature) (s t : FileState) → earlier ≡ []
    → t ≡ behind_externals 0 xs earlier s
    → t ≡ with_part s (add_externals 0 xs s.state.scope [] (before_of s.state.work))
unfolding behind_externals
all-externals xs earlier s t none is = is ∙ ap (λ ss. behind_externals 0 xs ss s) none

-- ONE PART

-- the words that it begins with, and then what follows them
pub specified : (x : External) (o : Option Signature) (earlier : List Signature) (s0 k : Scope) (w0 v : Work)
    (inits : List StmtTree) (fs : Vec Function) (t : FileState)
    → state_with k v inits ≡ behind_part (add_specifiers earlier x.specifiers) (state_with s0 w0 inits)
    → t ≡ with_part (file_state_with k v inits fs)
    (add_external_form (type_specified x.specifiers) x.form o k earlier (before_of v))
    → t ≡ with_part (file_state_with s0 w0 inits fs) (add_external x o s0 earlier (before_of w0))
unfolding behind_part
specified x o earlier s0 k w0 v inits fs t begun ended =
    let a = add_specifiers earlier x.specifiers s0 (before_of w0) in
    let form : Scope → Before → FileAdded = λ k n.
    add_external_form (type_specified x.specifiers) x.form o k earlier n in
    let place : State → FileState = λ s. record { state = s; functions = map tree_of_function fs.items } in
    let s = state_with s0 w0 inits in
    let known = knowing a.entries s0 in
    let b = form known (behind (before_of w0) a) in
    ended ∙ ap (λ (s : State). with_part (place s) (form s.scope (before_of s.work))) begun
    ∙ ap (λ n. with_part (place (extended s a)) (form known n)) (before-added w0 a)
    ∙ ap (λ s. record { state = s; functions = map tree_of_function fs.items ++ b.functions })
    (extended-both s a b.added)

-- variables
pub variables-filed : (f : ExternalForm) (o : Option Signature) (earlier : List Signature)
    (s0 s1 : Scope) (w0 w1 : Work) (i0 i1 : Vec Stmt) (fs : Vec Function) (t u : Option CType)
    (ds : Option Declarators)
    (semicolon : Token) → f ≡ form.Variables ds semicolon → t ≡ u
    → state s1 w1 i1 ≡ behind_part (add_optional_declarators earlier t ds) (state s0 w0 i0)
    → file_state s1 w1 i1 fs ≡ with_part (file_state s0 w0 i0 fs)
    (add_external_form u f o s0 earlier (before_of w0))
unfolding behind_part
variables-filed f o earlier s0 s1 w0 w1 i0 i1 fs t u ds semicolon is types added =
    let s : FileState = file_state s0 w0 i0 fs in
    let from : ExternalForm → Option CType → FileState = λ f t.
    with_part s (add_external_form t f o s0 earlier (before_of w0)) in
    let here : file_state s1 w1 i1 fs ≡ from (form.Variables ds semicolon) t
    = λ i. record { state = added i; functions = sym (append-nil (map tree_of_function fs.items)) i } in
    here ∙ ap (from (form.Variables ds semicolon)) types ∙ ap (λ f. from f u) (sym is)

-- THE WHOLE FILE

pub typed-is : (xs : List External) (s0 s1 : Scope) (w0 w1 : Work) (i0 i1 : Vec Stmt) (f0 f1 : Vec Function)
    (f : TypedFile) → s0 ≡ file_scope xs → w0 ≡ no_work → i0.items ≡ [] → f0.items ≡ []
    → file_state s1 w1 i1 f1 ≡ with_part (file_state s0 w0 i0 f0) (add_externals 0 xs s0 [] (before_of w0))
    → f.main ≡ main_of xs → f.globals ≡ vars_of (drop 0 s1.known) → f.inits ≡ i1.items
    → f.functions ≡ f1.items
    → f.work ≡ w1 → IsTyped f xs
typed-is xs s0 s1 w0 w1 i0 i1 f0 f1 f scopes works inits functions added main vars stmts defined counted =
    let start : FileState = record { state = state_with (file_scope xs) no_work []; functions = [] } in
    let begins : with_part (file_state s0 w0 i0 f0) (add_externals 0 xs s0 [] (before_of w0))
    ≡ with_part start (file_of xs) = λ i. with_part
    (record {
      state = state_with (scopes i) (works i) (map tree_of_stmt (inits i));
      functions = map tree_of_function (functions i);
    })
    (add_externals 0 xs (scopes i) [] (before_of (works i))) in
    let all : file_state s1 w1 i1 f1 ≡ with_part start (file_of xs) = added ∙ begins in
    record {
      main = main;
      globals = vars ∙ ap (λ (s : FileState). vars_of s.state.scope.known) all;
      inits = ap (map tree_of_stmt) stmts ∙ ap (λ (s : FileState). s.state.stmts) all;
      functions = ap (map tree_of_function) defined ∙ ap (λ (s : FileState). s.functions) all;
      work = counted ∙ ap (λ (s : FileState). s.state.work) all;
    }

-- THE ANSWER

pub first-error : (xs : List External) (cause : Cause) (at : At) → FirstFault (faults_of xs) cause at
    → CheckedParts xs (Err (error_of cause at))
first-error xs UnknownName at first = first
first-error xs Twice at first = first
first-error xs WrongKind at first = first
first-error xs WrongCount at first = first
first-error xs BadLength at first = first
first-error xs BreakOutside at first = first
first-error xs CallInIndex at first = first
first-error xs Limit at first = first

module _ (xs : List External) (f : TypedFile) (is : IsTyped f xs) where
  pub found-first : (o : Option Fault)
      → ((calls : ℕ) (faults : List Fault) → f.work.tally ≡ after nothing_found calls faults
      → MatchOption o (faults ≡ []) (IsFirst faults))
      → MatchOption o (faults_of xs ≡ []) (IsFirst (faults_of xs))
  unfolding faults_of
  found-first o first = first (file_of xs).added.calls (file_of xs).added.faults
      (ap (λ (w : Work). w.tally) is.work)

  pub no-main : faults_of xs ≡ [] → f.main ≡ None → CheckedParts xs (Err error.NoMain)
  unfolding typed_of
  no-main none no_main = (none, ap (option_map (program_of (file_of xs))) (sym is.main ∙ no_main))

  pub with-main : (m : FnId) → faults_of xs ≡ [] → f.main ≡ Some m → CheckedParts xs (Ok (record {
    variables = f.work.variables;
    globals = f.globals;
    inits = f.inits;
    functions = f.functions;
    main = m;
    statements = f.work.statements;
  }))
  unfolding typed_of
  with-main m none has_main =
      let parts : Parts = record {
        variables = f.work.variables;
        globals = f.globals;
        inits = f.inits;
        functions = f.functions;
        main = m;
        statements = f.work.statements;
      } in
      let same : Some (program_of (file_of xs) m) ≡ Some (tree_of_parts parts) = λ i. Some (record {
        variables = (sym is.work i).variables;
        globals = sym is.globals i;
        inits = sym is.inits i;
        functions = sym is.functions i;
        main = m;
        statements = (sym is.work i).statements;
      }) in
      (none, ap (option_map (program_of (file_of xs))) (sym is.main ∙ has_main) ∙ same)
