-- What declarations add, from what their parts add.
use Rattle.std.proofs.Common.{◌≡◌, ℕ, ◌+◌, pos, Bool, true, false, not, ◌&&◌, ◌==◌, cond, Option, None, Some, List, [], ◌∷◌, ◌++◌, map, length, refl, sym, ◌∙◌, ap, subst, append_assoc, add-zero, append-nil, arith}
use Rattle.std.specs.Prelude.{unwrap_or, flat_map, option_map, MatchOption}
use Rattle.std.specs.Option.{is_some}
use Rattle.std.proofs.lemmas.Bool.Decides.{nat_tests}
use Rattle.std.proofs.lemmas.List.{length-map, map-append}
use Rattle.ba_tokens.specs.declared.token.Token.{Token}
use Rattle.ba_numbers.specs.declared.ids.At.{At}
use Rattle.ba_numbers.specs.declared.ids.StmtId.{StmtId}
use Rattle.ba_numbers.specs.declared.ids.VarId.{VarId}
use Rattle.ba_numbers.specs.declared.numbers.CType.{CType}
use Rattle.ba_numbers.specs.declared.numbers.CType.TheVariants.{I32}
use Rattle.ba_trees.specs.declared.tree.declarations.ArrayLength.{ArrayLength}
use Rattle.ba_trees.specs.declared.tree.declarations.Braced.{Braced}
use Rattle.ba_trees.specs.declared.tree.declarations.Declarator.{Declarator}
use Rattle.ba_trees.specs.declared.tree.declarations.Declarators.{Declarators}
use Rattle.ba_trees.specs.declared.tree.declarations.Initialiser.{Initialiser}
use Rattle.ba_trees.specs.declared.tree.declarations.Initialiser.TheVariants as initialiser
use Rattle.ba_trees.specs.declared.tree.declarations.Specifiers.{Specifiers}
use Rattle.ba_trees.specs.declared.tree.expressions.Conditional.{Conditional}
use Rattle.ba_tree.specs.declared.tree.Expr.{Expr}
use Rattle.ba_tree.specs.declared.tree.Shape.{Shape}
use Rattle.ba_tree.specs.declared.tree.StmtKind.TheVariants as kind
use Rattle.ba_statements.specs.Adding.{AddsLength, IsLength, Keeping, Kept, Numbers, State, state_with, before_of, behind_part, initialising, keep_each, keep_one, plain_length, with_added, with_count}
use Rattle.ba_typing.specs.Declarations.{Part, ◌then◌, TypedLength, add_declaration, add_declarator, add_declare, add_initialiser, add_length, add_optional_declarators, add_optional_initialiser, add_specifiers, add_variable, braced_values, calls_in, count_of_values, exceeds, faults_added, has_braces, init_tree, initial_faults, length_faults, length_in_range, written_count, next_stmt, nothing_added, typed_array_length, typed_each, typed_length, shape_of, values_of, whole_faults, written_length}
use Rattle.ba_typing.specs.Expressions.{Typed, Typing, typed_conditional, tree_as}
use Rattle.ba_typing.specs.Faults.{fault, fault_if, limit_faults, element_limit, void_faults}
use Rattle.ba_expressions.specs.Inferring.{Infers, after, with_faults}
use Rattle.ba_typing.specs.Names.{Scope, name_of, type_specified}
use Rattle.ba_tree.specs.Trees.{StmtTree, tree_of_expr}
use Rattle.ba_tree.specs.Trees as tree
use Rattle.ba_statements.specs.declared.declarations.Length.{Length}
use Rattle.ba_typing.specs.declared.fault.Cause.TheVariants.{BadLength, WrongCount, WrongKind}
use Rattle.ba_typing.specs.declared.fault.Fault.{Fault}
use Rattle.ba_expressions.specs.declared.inferred.Inferred.{Inferred}
use Rattle.ba_typing.specs.declared.meanings.Signature.{Signature}
use Rattle.ba_expressions.specs.declared.tally.Tally.{Tally}
use Rattle.ba_statements.specs.declared.work.Work.{Work}
use Rattle.ba_statements.proofs.Adding.{adds-is, after-nothing, and-then, behind-nothing, in-scope, knowing-nothing, numbered-is, with_added-nothing}
use Rattle.ba_statements.proofs.KeptValues.{kept-is}
use Rattle.ba_expressions.proofs.Least.{least-append, least-swap}
use Rattle.ba_expressions.proofs.Tallies.{faults-before}

-- A LENGTH

count-work : (w : Work) (at : At) (count : Option ℕ) (calls : ℕ) (faults : List Fault)
    → with_count (record w { tally = after w.tally calls faults }) at count
    ≡ with_added w (record nothing_added {
      calls = calls;
      elements = unwrap_or count 0;
      faults = length_faults (before_of w) at count ++ faults;
    })
count-work w at None calls faults =
    let more = fault BadLength at in
    let whole = with_added w (record nothing_added {
      calls = calls;
      elements = 0;
      faults = more ++ faults;
    }) in
    let t = with_faults (after w.tally calls faults) more in
    ap (λ v. record w { variables = v; tally = t }) (sym (append-nil w.variables))
    ∙ ap (λ n. record w { variables = whole.variables; constants = n; tally = t })
    (sym (add-zero w.constants))
    ∙ ap (λ n. record whole { statements = n; elements = w.elements; tally = t }) (sym (append-nil
    w.statements))
    ∙ ap (λ e. record whole { elements = e; tally = t }) (sym (add-zero w.elements))
    ∙ ap (λ l. record whole { tally = record { calls = w.tally.calls + calls; least = l } })
    (least-swap w.tally.least faults more)
count-work w at (Some count) calls faults =
    let more = limit_faults element_limit (w.elements + count) at in
    let whole = with_added w (record nothing_added {
      calls = calls;
      elements = count;
      faults = more ++
          faults;
    }) in
    let t = with_faults (after w.tally calls faults) more in
    ap (λ v. record whole { variables = v; constants = w.constants; statements = w.statements; tally = t })
    (sym (append-nil w.variables))
    ∙ ap (λ n. record whole { constants = n; statements = w.statements; tally = t })
    (sym (add-zero w.constants))
    ∙ ap (λ n. record whole { statements = n; tally = t }) (sym (append-nil w.statements))
    ∙ ap (λ l. record whole { tally = record { calls = w.tally.calls + calls; least = l } })
    (least-swap w.tally.least faults more)

pub no-length : (at : At) (scope : Scope) (w u : Work) (s : Option TypedLength) (t : Tally) (l : Option
    Length)
    → IsLength s w.tally t l → l ≡ None → u ≡ record w { tally = t } → AddsLength at s scope w u None
no-length at scope w u None t l is none work = (
  refl,
  work ∙ ap (λ t. record w { tally = t }) (is.1 ∙ sym (after-nothing w.tally)) ∙
      with_added-nothing w,
)
no-length at scope w u (Some s) t l is none work = absurd (let no_l : ⊥ = cc in no_l)

pub some-length : (at : At) (scope : Scope) (w mid u : Work) (s : Option TypedLength) (t : Tally) (l :
    Option Length) (k : Length)
    → IsLength s w.tally t l → l ≡ Some k → mid ≡ record w { tally = t } → u ≡ with_count mid at k.count
    → AddsLength at s scope w u (Some k)
some-length at scope w mid u None t l k is some work counted = absurd (let no_l : ⊥ = cc in no_l)
some-length at scope w mid u (Some s) t l k is some work counted =
    let same : Some k ≡ plain_length (Some s) = sym some ∙ is.0 in
    let counts : k.count ≡ s.count = ap (λ (o : Option Length). elim o as (λ o. Option ℕ) [
      | None ↦ None
      | Some x ↦ x.count
    ]) same in (
      same,
      counted ∙ ap (λ w. with_count w at k.count) (work ∙ ap (λ t. record w { tally = t }) is.1)
          ∙ ap (with_count (record w { tally = after w.tally s.calls s.faults }) at) counts
          ∙ count-work w at s.count s.calls s.faults,
    )

pub length-part : (at : At) (s : Option TypedLength) (scope : Scope) (w u : Work) (stmts : List StmtTree)
    → u ≡ with_added w (add_length at s scope (before_of w))
    → state_with scope u stmts ≡ behind_part (add_length at s) (state_with scope w stmts)
length-part at None scope w u stmts is =
    in-scope (add_length at None) nothing_added scope w u stmts stmts refl refl is (sym (append-nil stmts))
length-part at (Some s) scope w u stmts is =
    in-scope (add_length at (Some s)) (add_length at (Some s) scope (before_of w)) scope w u stmts stmts
    refl refl is
    (sym (append-nil stmts))

-- A DECLARATOR, part by part

module _ (functions : List Signature) (t : Option CType) (d : Declarator) (s0 s1 s2 s3 s4 s5 : State) where
  abbrev place : At
  place = d.name.at

  abbrev var : VarId
  var = record { 0 = length s0.work.variables }

  abbrev expression : Option TypedLength
  expression = typed_array_length place (count_of_values d.initialiser) s0.scope s0.work.tally.calls d.length

  pub declarator-is : s1 ≡ behind_part (add_length place expression) s0
      → s2 ≡ behind_part (add_variable functions place (name_of d.name)
      (record { t = unwrap_or t I32; shape = shape_of expression })) s1
      → s3 ≡ behind_part (add_declare var) s2
      → s4 ≡ behind_part (add_optional_initialiser place var (unwrap_or t I32) expression d.initialiser) s3
      → s5 ≡ behind_part (λ scope n. faults_added (void_faults t place)) s4
      → s5 ≡ behind_part (add_declarator functions t d) s0
  unfolding behind_part
  declarator-is a b c e f =
      let one = add_length place expression in
      let two = add_variable functions place (name_of d.name) (record {
        t = unwrap_or t I32;
        shape =
            shape_of expression;
      }) in
      let three = add_declare var in
      let four = add_optional_initialiser place var (unwrap_or t I32) expression d.initialiser in
      let five : Part = λ scope n. faults_added (void_faults t place) in
      and-then one (two then three then four then five) s0 s1 s5 a
      (and-then two (three then four then five) s1 s2 s5 b
      (and-then three (four then five) s2 s3 s5 c
      (and-then four five s3 s4 s5 e f)))

  -- the same by the names that the code has for these
  pub declarator-from : (name : List ℕ) (v : VarId) (x : CType) (k : Shape) → name ≡ name_of d.name → v
      ≡ var
      → x ≡ unwrap_or t I32 → k ≡ shape_of expression
      → s1 ≡ behind_part (add_length place expression) s0
      → s2 ≡ behind_part (add_variable functions place name (record { t = x; shape = k })) s1
      → s3 ≡ behind_part (add_declare v) s2
      → s4 ≡ behind_part (add_optional_initialiser place v x expression d.initialiser) s3
      → s5 ≡ behind_part (λ scope n. faults_added (void_faults t place)) s4
      → s5 ≡ behind_part (add_declarator functions t d) s0
  declarator-from name v x k names vars types shapes a b c e f =
      declarator-is a
      (b ∙ ap (λ (n : List ℕ). behind_part (add_variable functions place n (record { t = x; shape = k }))
      s1) names
      ∙ ap (λ (x : CType). behind_part (add_variable functions place (name_of d.name) (record {
        t =
            x;
        shape = k;
      })) s1) types
      ∙ ap (λ (k : Shape). behind_part (add_variable functions place (name_of d.name)
      (record { t = unwrap_or t I32; shape = k })) s1) shapes)
      (c ∙ ap (λ v. behind_part (add_declare v) s2) vars)
      (e ∙ ap (λ v. behind_part (add_optional_initialiser place v x expression d.initialiser) s3) vars
      ∙ ap (λ x. behind_part (add_optional_initialiser place var x expression d.initialiser) s3) types)
      f

-- the declaration of a local variable
pub declare-is : (v : VarId) (scope : Scope) (w : Work) (old new : List StmtTree)
    → new ≡ old ++ cond (scope.depth == 0) [] (tree.declare v ∷ [])
    → state_with scope w new ≡ behind_part (add_declare v) (state_with scope w old)
declare-is v scope w old new is = adds-is (add_declare v) (add_declare v scope (before_of w)) scope scope w
    w old new
    refl (knowing-nothing scope) (with_added-nothing w) is

module _ (at : At) (v : VarId) (t : CType) (l : Option TypedLength) (init : Option Initialiser) where
  pub none-is : (s : State) → init ≡ None → s ≡ behind_part (add_optional_initialiser at v t l init) s
  none-is s is = behind-nothing s ∙ ap (λ i. behind_part (add_optional_initialiser at v t l i) s) (sym is)

  pub some-is : (s u : State) (i : Initialiser) → init ≡ Some i → u ≡ behind_part (add_initialiser at v t l
      i) s
      → u ≡ behind_part (add_optional_initialiser at v t l init) s
  some-is s u i is added = added ∙ ap (λ i. behind_part (add_optional_initialiser at v t l i) s) (sym is)

-- a value of an initialiser
pub value-is : (at : At) (t : CType) (is_global : Bool) (s : Typed) (j : Inferred) (old mid new : Tally) (e :
    Expr)
    (olds news : List Expr) → Infers j s → mid ≡ after old s.calls (whole_faults at s)
    → new ≡ with_faults mid (fault_if (is_global && not j.is_constant) WrongKind at)
    → tree_of_expr e ≡ tree_as t s → news ≡ olds ++ e ∷ []
    → record { trees = map tree_of_expr news; tally = new }
    ≡ keep_one (initialising at t is_global) s (record { trees = map tree_of_expr olds; tally = old })
value-is at t is_global s j old mid new e olds news infers counted more tree pushed =
    let fs = whole_faults at s in
    ap (λ xs. record { trees = xs; tally = new }) (ap (map tree_of_expr) pushed ∙ map-append tree_of_expr
    olds (e ∷ [])
    ∙ ap (λ x. map tree_of_expr olds ++ x ∷ []) tree)
    ∙ ap (λ t2. record { trees = map tree_of_expr olds ++ tree_as t s ∷ []; tally = t2 })
    (more ∙ ap (λ t. with_faults t (fault_if (is_global && not j.is_constant) WrongKind at)) counted
    ∙ ap (λ l. record { calls = old.calls + s.calls; least = l })
    (least-append old.least fs (fault_if (is_global && not j.is_constant) WrongKind at))
    ∙ ap (λ b. after old s.calls (fs ++ fault_if (is_global && not b) WrongKind at)) (ap (λ (e : Typed).
    e.is_constant) infers))

-- THE LENGTH OF AN ARRAY

module _ (at : At) (values : Option ℕ) (length : Option ArrayLength) (scope : Scope) (t : Tally) where
  pub not-array : length ≡ None → IsLength (typed_array_length at values scope t.calls length) t t None
  not-array is = subst (λ o. IsLength (typed_array_length at values scope t.calls o) t t None) (sym is)
      (refl, after-nothing t)

  pub not-written : (a : ArrayLength) (count : Option ℕ) → length ≡ Some a → a.length ≡ None
      → count ≡ length_in_range (option_map pos values)
      → IsLength (typed_array_length at values scope t.calls length) t t (Some (record {
        count = count;
        is_written = false;
      }))
  not-written a count is none counts =
      let l : Option Length = Some (record { count = count; is_written = false }) in
      subst (λ o. IsLength (typed_array_length at values scope t.calls o) t t l) (sym is)
      (subst (λ o. IsLength (Some (typed_length at values o scope t.calls)) t t l) (sym none)
      (ap (λ (c : Option ℕ). Some (record { count = c; is_written = false })) counts, after-nothing t))

  pub written : (a : ArrayLength) (e : Conditional) (new : Tally) (count : Option ℕ) → length ≡ Some a →
      a.length ≡ Some e
      → count ≡ written_length (typed_conditional e scope t.calls)
      → new ≡ after t (typed_conditional e scope t.calls).calls (whole_faults at (typed_conditional e scope
      t.calls))
      → IsLength (typed_array_length at values scope t.calls length) t new (Some (record {
        count = count;
        is_written = true;
      }))
  written a e new count is some counts counted =
      let l : Option Length = Some (record { count = count; is_written = true }) in
      subst (λ o. IsLength (typed_array_length at values scope t.calls o) t new l) (sym is)
      (subst (λ o. IsLength (Some (typed_length at values o scope t.calls)) t new l) (sym some)
      (ap (λ (c : Option ℕ). Some (record { count = c; is_written = true })) counts, counted))

pub not-zero : (n : ℕ) → (n ≡ 0 → ⊥) → (n == 0) ≡ false
not-zero n h = grind (arith, nat_tests, h)

pub count-is : (r : Option ℕ) (init : Option Initialiser)
    → MatchOption r (is_some init ≡ false) (λ c. Some c ≡ count_of_values init) → r ≡ count_of_values init
count-is None None h = refl
count-is None (Some i) h = absurd (let no_i : ⊥ = cc in no_i)
count-is (Some c) init h = h

-- THE VALUES OF AN INITIALISER

module _ (how : Keeping) (scope : Scope) (init : Initialiser) (k new : Kept) where
  pub values-expression : (assign : Token) (e : Conditional) → init ≡ initialiser.Expression assign e
      → new ≡ keep_one how (typed_conditional e scope k.tally.calls) k → new ≡ keep_each how scope (values_of
      init) k
  values-expression assign e is one = one ∙ ap (λ i. keep_each how scope (values_of i) k) (sym is)

  pub values-braced : (assign : Token) (b : Braced) → init ≡ initialiser.Braced assign b
      → new ≡ keep_each how scope (braced_values b) k → new ≡ keep_each how scope (values_of init) k
  values-braced assign b is all = all ∙ ap (λ i. keep_each how scope (values_of i) k) (sym is)

module _ (at : At) (v : VarId) (t : CType) (l : Option TypedLength) (init : Initialiser) (scope : Scope) (w
    u : Work) where
  abbrev es : List Typed
  es = typed_each scope w.tally.calls (values_of init)

  abbrev kind_faults : List Fault
  kind_faults = fault_if (cond (is_some l) (not (has_braces init)) (has_braces init)) WrongKind at

  abbrev count_faults : List Fault
  count_faults = fault_if (exceeds (written_count l) (length es)) WrongCount at

  abbrev value_faults : List Fault
  value_faults = flat_map (initial_faults at (scope.depth == 0)) es

  pub initialiser-is : (one two three : Tally) (stmt : StmtId) (typed : StmtTree) (olds news : List StmtTree)
      → one ≡ after w.tally (calls_in es) value_faults → two ≡ with_faults one count_faults
      → three ≡ with_faults two kind_faults
      → Numbers at kind.Initialiser stmt (record w { tally = three }) u
      → typed ≡ init_tree stmt v t (is_some l) es → news ≡ olds ++ typed ∷ []
      → state_with scope u news ≡ behind_part (add_initialiser at v t l init) (state_with scope w olds)
  initialiser-is one two three stmt typed olds news a b c counted tree pushed =
      numbered-is (add_initialiser at v t l init) scope w (record w { tally = three }) u olds news at
      kind.Initialiser
      (init_tree (next_stmt (before_of w)) v t (is_some l) es) (calls_in es) (kind_faults ++ count_faults
      ++ value_faults) refl
      (ap (λ t. record w { tally = t })
      (faults-before w.tally two three (calls_in es) (count_faults ++ value_faults) kind_faults
      (faults-before w.tally one two (calls_in es) value_faults count_faults a b) c
      ∙ ap (after w.tally (calls_in es)) (sym (append_assoc kind_faults count_faults value_faults))))
      counted.1
      (pushed ∙ ap (λ x. olds ++ x ∷ []) (tree ∙ ap (λ n. init_tree n v t (is_some l) es) counted.0))

-- the trees and the count of values that were kept
pub kept-all : (at : At) (t : CType) (is_global : Bool) (scope : Scope) (typings : List Typing) (exprs : List
    Expr) (old new : Tally)
    → record { trees = map tree_of_expr exprs; tally = new }
    ≡ keep_each (initialising at t is_global) scope typings (record { trees = []; tally = old })
    → (map tree_of_expr exprs ≡ map (tree_as t) (typed_each scope old.calls typings))
    × (new ≡ after old (calls_in (typed_each scope old.calls typings))
    (flat_map (initial_faults at is_global) (typed_each scope old.calls typings)))
    × (length exprs ≡ length (typed_each scope old.calls typings))
kept-all at t is_global scope typings exprs old new is =
    let es = typed_each scope old.calls typings in
    let whole = is ∙ kept-is (initialising at t is_global) scope typings (record {
      trees = [];
      tally = old;
    }) in
    let trees = ap (λ (k : Kept). k.trees) whole in (
      trees,
      ap (λ (k : Kept). k.tally) whole,
      sym (length-map exprs tree_of_expr) ∙ ap length trees ∙ length-map es (tree_as t),
    )

pub some-length-some : (k : Option Length) (l : Option TypedLength) → k ≡ plain_length l → is_some k ≡
    is_some l
some-length-some k None same = ap is_some same
some-length-some k (Some l) same = ap is_some same

-- a declaration of a block, before which no function is declared in it
pub declaration-adds : (words : Specifiers) (declarators : Option Declarators) (functions : List Signature)
    (t : Option CType) (old mid new : State) → functions ≡ [] → t ≡ type_specified words
    → mid ≡ behind_part (add_specifiers functions words) old
    → new ≡ behind_part (add_optional_declarators functions t declarators) mid
    → new ≡ behind_part (add_declaration [] words declarators) old
declaration-adds words declarators functions t old mid new none types begun ended =
    and-then (add_specifiers functions words) (add_optional_declarators functions t declarators) old mid new
    begun
    ended
    ∙ ap (λ fs. behind_part (add_specifiers fs words then add_optional_declarators fs t declarators) old) none
    ∙ ap (λ t. behind_part (add_specifiers [] words then add_optional_declarators [] t declarators) old) types
