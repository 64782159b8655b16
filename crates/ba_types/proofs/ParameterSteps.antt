-- What the parameters of a function add, from what their parts add.
use Rattle.std.proofs.Common.{◌≡◌, ℕ, ◌+◌, ◌<◌, ◌≤◌, Bool, true, false, not, Option, None, Some, List, [], ◌∷◌, ◌++◌, length, get_or, drop, refl, sym, ◌∙◌, ap, add-zero, append-nil, is_some}
use Rattle.std.specs.Prelude.{unwrap_or}
use Rattle.ba_tokens.specs.declared.token.Token.{Token}
use Rattle.ba_numbers.specs.declared.ids.At.{At}
use Rattle.ba_numbers.specs.declared.numbers.CType.{CType}
use Rattle.ba_numbers.specs.declared.numbers.CType.TheVariants.{I32}
use Rattle.ba_trees.specs.declared.tree.declarations.NextParameter.{NextParameter}
use Rattle.ba_trees.specs.declared.tree.declarations.Parameter.{Parameter}
use Rattle.ba_trees.specs.declared.tree.expressions.TypeName.{TypeName}
use Rattle.ba_tree.specs.declared.tree.Shape.{Shape}
use Rattle.ba_statements.specs.Adding.{AddsLength, IsLength, State, state_with, before_of, behind_part, with_added, with_inferred}
use Rattle.ba_typing.specs.Declarations.{Part, TypedLength, add_length, add_variable, faults_added, nothing_added}
use Rattle.ba_typing.specs.Faults.{fault_if, limit_faults, parameter_limit, tag_faults, void_faults}
use Rattle.ba_typing.specs.Files.{add_param, add_params, bad_length_faults, check_length, name_of_param, param_length, param_shape, position_of_param}
use Rattle.ba_types.specs.Filing.{declaring_param, is_bad, next_params}
use Rattle.ba_expressions.specs.Inferring.{after, with_faults}
use Rattle.ba_typing.specs.Names.{Scope, tag_of, type_named, words_of}
use Rattle.ba_tree.specs.Trees.{StmtTree}
use Rattle.ba_statements.specs.declared.declarations.Length.{Length}
use Rattle.ba_typing.specs.declared.fault.Cause.TheVariants.{BadLength}
use Rattle.ba_typing.specs.declared.fault.Fault.{Fault}
use Rattle.ba_expressions.specs.declared.tally.Tally.{Tally}
use Rattle.ba_statements.specs.declared.work.Work.{Work}
use Rattle.ba_statements.proofs.Adding.{after-nothing, and-then, behind-nothing, behind-then, faults-work, in-scope, with_added-nothing}
use Rattle.ba_statements.proofs.Declaring.{length-part}
use Rattle.ba_expressions.proofs.Tallies.{faults-before, faults-twice}
use Rattle.ba_typing.proofs.Walks.{next_item, none_left}

-- THE LENGTH OF AN ARRAY PARAMETER

-- expressions that are inferred alone, and faults
pub inferred-work : (w : Work) (calls : ℕ) (faults : List Fault)
    → with_inferred w calls faults ≡ with_added w (record nothing_added { calls = calls; faults = faults })
inferred-work w calls faults = λ i. record {
  variables = sym (append-nil w.variables) i;
  constants = sym (add-zero w.constants) i;
  statements = sym (append-nil w.statements) i;
  elements = sym (add-zero w.elements) i;
  tally = after w.tally calls faults;
}

bad-faults : (at : At) (count : Option ℕ)
    → fault_if (not (is_some count)) BadLength at ≡ bad_length_faults at count
bad-faults at None = refl
bad-faults at (Some n) = refl

pub checked-is : (at : At) (s : Option TypedLength) (l : Option Length) (scope : Scope) (w : Work)
    (t u : Tally)
    (stmts : List StmtTree) → IsLength s w.tally t l → u ≡ with_faults t (fault_if (is_bad l) BadLength at)
    → state_with scope (record w { tally = u }) stmts ≡ behind_part (check_length at s) (state_with scope w
    stmts)
checked-is at None l scope w t u stmts is more =
    in-scope (check_length at None) nothing_added scope w (record w { tally = u }) stmts stmts refl refl
    (ap (λ t. record w { tally = t }) (more
    ∙ ap (λ (l : Option Length). with_faults t (fault_if (is_bad l) BadLength at)) is.0
    ∙ is.1 ∙ sym (after-nothing w.tally)) ∙ with_added-nothing w)
    (sym (append-nil stmts))
checked-is at (Some s) l scope w t u stmts is more =
    in-scope (check_length at (Some s)) (check_length at (Some s) scope (before_of w)) scope w
    (record w { tally = u }) stmts stmts refl refl
    (ap (λ t. record w { tally = t }) (faults-before w.tally t u s.calls s.faults
    (bad_length_faults at s.count) is.1
    (more ∙ ap (λ (l : Option Length). with_faults t (fault_if (is_bad l) BadLength at)) is.0
    ∙ ap (with_faults t) (bad-faults at s.count)))
    ∙ inferred-work w s.calls (bad_length_faults at s.count ++ s.faults))
    (sym (append-nil stmts))

-- A PARAMETER

module _ (is_main : Bool) (at : At) (t : Option CType) (p : Parameter) where
  abbrev variable : List ℕ → CType → Shape → Part
  variable name x k = add_variable [] at name (record { t = x; shape = k })

  -- of a definition: its length, and then the variable
  pub own-is : (s0 s1 : Scope) (w0 w1 w2 : Work) (stmts : List StmtTree) (l : Option Length) (name : List ℕ)
      (x : CType) (k : Shape)
      → AddsLength at (param_length is_main at p.length s0 w0.tally.calls) s0 w0 w1 l
      → name ≡ name_of_param p.name → x ≡ unwrap_or t I32
      → k ≡ param_shape is_main p.length (param_length is_main at p.length s0 w0.tally.calls)
      → state_with s1 w2 stmts ≡ behind_part (variable name x k) (state_with s0 w1 stmts)
      → state_with s1 w2 stmts ≡ behind_part (declaring_param is_main true at t p) (state_with s0 w0 stmts)
  unfolding behind_part
  own-is s0 s1 w0 w1 w2 stmts l name x k adds names types shapes declares =
      let expression = param_length is_main at p.length s0 w0.tally.calls in
      let start = state_with s0 w1 stmts in
      let called = name_of_param p.name in let type = unwrap_or t I32 in
      and-then (add_length at expression) (variable called type (param_shape is_main p.length expression))
      (state_with s0 w0 stmts) start (state_with s1 w2 stmts) (length-part at expression s0 w0 w1 stmts
      adds.1)
      (declares ∙ ap (λ (n : List ℕ). behind_part (variable n x k) start) names
      ∙ ap (λ (x : CType). behind_part (variable called x k) start) types
      ∙ ap (λ (k : Shape). behind_part (variable called type k) start) shapes)

  -- of a prototype: its length is looked at
  pub looked-is : (scope : Scope) (w u : Work) (stmts : List StmtTree)
      → state_with scope u stmts
      ≡ behind_part (check_length at (param_length is_main at p.length scope w.tally.calls))
      (state_with scope w stmts)
      → state_with scope u stmts ≡ behind_part (declaring_param is_main false at t p) (state_with scope w
      stmts)
  unfolding behind_part
  looked-is scope w u stmts checked = checked

-- its own faults, and that of its tag
abbrev pub param_faults : At → Option CType → ℕ → TypeName → Part
param_faults at t number name scope n = faults_added (void_faults t at
    ++ limit_faults parameter_limit number at
    ++ tag_faults scope (tag_of (words_of name)))

pub faults-are : (at : At) (t : Option CType) (number : ℕ) (name : TypeName) (tag : Option Token)
    (scope : Scope)
    (w : Work) (mid new : Tally) (stmts : List StmtTree) → tag ≡ tag_of (words_of name)
    → mid ≡ with_faults w.tally (void_faults t at ++ limit_faults parameter_limit number at)
    → new ≡ with_faults mid (tag_faults scope tag)
    → state_with scope (record w { tally = new }) stmts
    ≡ behind_part (param_faults at t number name) (state_with scope w stmts)
faults-are at t number name tag scope w mid new stmts tags own tagged =
    let fs = void_faults t at ++ limit_faults parameter_limit number at in
    let gs = tag_faults scope (tag_of (words_of name)) in
    in-scope (param_faults at t number name) (faults_added (fs ++ gs)) scope w
    (record w { tally = new }) stmts stmts
    refl refl
    (ap (λ t. record w { tally = t }) (faults-twice w.tally mid new fs gs own
    (tagged ∙ ap (λ tag. with_faults mid (tag_faults scope tag)) tags)) ∙ faults-work w (fs ++ gs))
    (sym (append-nil stmts))

module _ (is_main defined : Bool) (function_at : At) (number : ℕ) (p : Parameter) (s0 s1 s2 : State) where
  -- and then its faults
  pub param-is : (at : At) (t : Option CType) → at ≡ position_of_param function_at p → t ≡ type_named
      p.type_name
      → s1 ≡ behind_part (declaring_param is_main defined at t p) s0
      → s2 ≡ behind_part (param_faults at t number p.type_name) s1
      → s2 ≡ behind_part (add_param is_main defined function_at number p) s0
  unfolding behind_part
  param-is at t places types declares faults =
      let place = position_of_param function_at p in let type = type_named p.type_name in
      let own : At → Option CType → Part = λ at t. param_faults at t number p.type_name in
      and-then (declaring_param is_main defined place type p) (own place type) s0 s1 s2
      (declares ∙ ap (λ at. behind_part (declaring_param is_main defined at t p) s0) places
      ∙ ap (λ t. behind_part (declaring_param is_main defined place t p) s0) types)
      (faults ∙ ap (λ at. behind_part (own at t) s1) places ∙ ap (λ t. behind_part (own place t) s1) types)

-- PARAMETERS

module _ (is_main defined : Bool) (at : At) where
  pub first-param : (p : Parameter) (ps : List Parameter) (s0 s1 s2 : State)
      → s1 ≡ behind_part (add_param is_main defined at 1 p) s0
      → s2 ≡ behind_part (add_params is_main defined at 2 ps) s1
      → s2 ≡ behind_part (add_params is_main defined at 1 (p ∷ ps)) s0
  first-param p ps = and-then (add_param is_main defined at 1 p) (add_params is_main defined at 2 ps)

  pub next-param : (number more : ℕ) (xs : List NextParameter) (i : ℕ) (x : NextParameter) (s t whole : State)
      → i < length xs → x ≡ get_or xs i x
      → behind_part (add_params is_main defined at number (next_params (drop i xs))) s ≡ whole
      → t ≡ behind_part (add_param is_main defined at number x.parameter) s → more ≡ number + 1
      → behind_part (add_params is_main defined at more (next_params (drop (i + 1) xs))) t ≡ whole
  next-param number more xs i x s t whole within is rest one counts =
      let ps = next_params (drop (i + 1) xs) in
      ap (λ n. behind_part (add_params is_main defined at n ps) t) counts
      ∙ ap (behind_part (add_params is_main defined at (number + 1) ps)) one
      ∙ behind-then (add_param is_main defined at number x.parameter)
      (add_params is_main defined at (number + 1) ps) s
      ∙ ap (λ ys. behind_part (add_params is_main defined at number (next_params ys)) s)
      (sym (next_item xs i x within is)) ∙ rest

  pub no-param : (number : ℕ) (xs : List NextParameter) (i : ℕ) (s whole : State) → length xs ≤ i
      → behind_part (add_params is_main defined at number (next_params (drop i xs))) s ≡ whole → s ≡ whole
  no-param number xs i s whole past rest = behind-nothing s
      ∙ ap (λ ys. behind_part (add_params is_main defined at number (next_params ys)) s)
      (sym (none_left xs i past)) ∙ rest
