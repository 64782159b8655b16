-- What assignments add, from the inferences of what is assigned to and of what is assigned.
use Rattle.std.proofs.Common.{◌≡◌, ℕ, ◌+◌, nat_lt, Bool, ◌&&◌, pos, Option, None, Some, option_map, Result, Ok, Err, List, [], ◌∷◌, ◌++◌, refl, sym, ◌∙◌, ap, subst, arith, append-nil}
use Rattle.std.specs.Option.{is_some}
use Rattle.std.specs.Prelude.{IfOk}
use Rattle.std.proofs.lemmas.Bool.Decides.{nat_tests}
use Rattle.ba_numbers.specs.declared.ids.At.{At}
use Rattle.ba_numbers.specs.declared.ids.StmtId.{StmtId}
use Rattle.ba_numbers.specs.declared.ids.VarId.{VarId}
use Rattle.ba_numbers.specs.declared.numbers.BinOp.{BinOp}
use Rattle.ba_numbers.specs.declared.numbers.CType.{CType}
use Rattle.ba_numbers.specs.declared.numbers.CType.TheVariants.{I32}
use Rattle.ba_trees.specs.declared.tree.statements.Index.{Index}
use Rattle.ba_trees.specs.declared.tree.statements.Target.{Target}
use Rattle.ba_tree.specs.declared.tree.Expr.{Expr}
use Rattle.ba_tree.specs.declared.tree.Stmt as code
use Rattle.ba_tree.specs.declared.tree.StmtKind.{StmtKind}
use Rattle.ba_tree.specs.declared.tree.StmtKind.TheVariants as kind
use Rattle.ba_statements.specs.Adding.{Assigns, GivesTarget, InfersTarget, Numbers, state_with, before_of, behind_part, index_tree, typed_target_of, with_number}
use Rattle.ba_typing.specs.Declarations.{next_stmt}
use Rattle.ba_typing.specs.Expressions.{Typed, Typing, array_of, element_type, typed_constant, typed_element, typed_name, tree_as, variable_type, with_more_faults}
use Rattle.ba_numbers.specs.Types.{promoted}
use Rattle.ba_typing.specs.Faults.{array_name_faults, fault_if, height_limit, limit_faults, target_name_faults, value_name_faults}
use Rattle.ba_expressions.specs.Inferring.{Infers, Stands, after, with_faults}
use Rattle.ba_typing.specs.Names.{Scope, meaning_of, name_of}
use Rattle.ba_typing.specs.Statements.{TypedTarget, add_assignment, assign_tree, assigned_tree, changed, index_faults, index_typing, kind_of_target, one, typed_target, var_of}
use Rattle.ba_tree.specs.Trees.{ExprTree, StmtTree, tree_of_expr, tree_of_stmt}
use Rattle.ba_tree.specs.Trees as tree
use Rattle.ba_statements.specs.declared.assignments.InferredTarget.{InferredTarget}
use Rattle.ba_typing.specs.declared.fault.Cause.TheVariants.{CallInIndex}
use Rattle.ba_typing.specs.declared.fault.Fault.{Fault}
use Rattle.ba_expressions.specs.declared.inferred.Inferred.{Inferred}
use Rattle.ba_typing.specs.declared.meanings.Meaning.{Meaning}
use Rattle.ba_typing.specs.declared.meanings.Meaning.TheVariants as meaning
use Rattle.ba_expressions.specs.declared.tally.Tally.{Tally}
use Rattle.ba_statements.specs.declared.work.Work.{Work}
use Rattle.ba_statements.proofs.Adding.{after-nothing, numbered-is}
use Rattle.ba_typing.proofs.StmtForms.{tree-Assign, tree-Store}
use Rattle.ba_expressions.proofs.Tallies.{after-as, after-then, faults-behind, faults-then, faults-twice}
use Rattle.ba_expressions.proofs.Walking.{element-calls, element-faults}

-- WHAT IS ASSIGNED TO

name-calls : (at : At) (name : List ℕ) (m : Meaning) → (typed_name at name m).calls ≡ 0
name-calls at name meaning.Unknown = refl
name-calls at name meaning.Function = refl
name-calls at name (meaning.Variable e) = refl
name-calls at name (meaning.Constant z) = refl

name-faults : (at : At) (name : List ℕ) (m : Meaning) → (typed_name at name m).faults ≡ value_name_faults m at
name-faults at name meaning.Unknown = refl
name-faults at name meaning.Function = refl
name-faults at name (meaning.Variable e) = append-nil (value_name_faults (meaning.Variable e) at)
name-faults at name (meaning.Constant z) = refl

name-type : (at : At) (name : List ℕ) (m : Meaning) → (typed_name at name m).t ≡ variable_type m
name-type at name meaning.Unknown = refl
name-type at name meaning.Function = refl
name-type at name (meaning.Variable e) = refl
name-type at name (meaning.Constant z) = refl

pub variable-target-is : (at : At) (name : List ℕ) (scope : Scope) (old mid new : Tally) (v : VarId)
    (t : CType)
    (m : Meaning)
    → m ≡ meaning_of scope name → v ≡ var_of m → t ≡ variable_type m
    → mid ≡ with_faults old (target_name_faults m at) → new ≡ with_faults mid (value_name_faults m at)
    → GivesTarget at at None (typed_target at name None scope old.calls) old new (record {
      var = v;
      t = t;
      index = None;
    })
variable-target-is at name scope old mid new v t m means names types begun named =
    let k = meaning_of scope name in
    let s = (typed_target at name None scope old.calls).expression in
    let fs = target_name_faults k at ++ value_name_faults k at in (
      record {
        var = names ∙ ap var_of means;
        t = types ∙ ap variable_type means ∙ sym (name-type at name k);
        index = refl;
      },
      after-as old new 0 s.calls fs (s.faults ++ []) (sym (name-calls at name k))
          (ap (λ xs. target_name_faults k at ++ xs) (sym (name-faults at name k)) ∙ sym (append-nil s.faults))
          (faults-twice old mid new (target_name_faults k at) (value_name_faults k at)
          (begun ∙ ap (λ m. with_faults old (target_name_faults m at)) means)
          (named ∙ ap (λ m. with_faults mid (value_name_faults m at)) means)
          ∙ after-nothing (with_faults old fs)),
    )

-- there are more calls after than before if some were added
calls-more : (n k : ℕ) → nat_lt n (n + k) ≡ nat_lt 0 k
calls-more n k = grind (arith, nat_tests)

element-tally : (at name_at : At) (m : Meaning) (changes : Bool) (i : Typed) (old first second new : Tally)
    → first ≡ with_faults old (array_name_faults m name_at) → second ≡ after first i.calls i.faults
    → new ≡ with_faults second (limit_faults height_limit i.height at
    ++ fault_if (changes && nat_lt 0 i.calls) CallInIndex name_at)
    → new ≡ after old (typed_element name_at m i).calls
    ((typed_element name_at m i).faults ++ index_faults at name_at changes (Some i))
element-tally at name_at m changes i old first second new named inferred more =
    let s = typed_element name_at m i in
    faults-behind old second new s.calls s.faults (index_faults at name_at changes (Some i))
    (after-as old second i.calls s.calls (array_name_faults m name_at ++ i.faults) s.faults
    (sym (element-calls name_at m i)) (sym (element-faults name_at m i))
    (faults-then old first second i.calls (array_name_faults m name_at) i.faults named inferred)) more

pub element-target-is : (at name_at : At) (name : List ℕ) (op : Option BinOp) (typing : Typing) (scope :
    Scope)
    (old first second new : Tally) (v : VarId) (t u : CType) (m : Meaning) (j : Inferred) (e : Expr)
    (has_call : Bool)
    → m ≡ meaning_of scope name → v ≡ array_of m → t ≡ element_type m
    → first ≡ with_faults old (array_name_faults m name_at) → Stands j (typing scope first.calls) first second
    → has_call ≡ (is_some op && nat_lt first.calls second.calls)
    → new ≡ with_faults second (limit_faults height_limit j.height at ++ fault_if has_call CallInIndex
    name_at)
    → u ≡ promoted j.t → ((s : Typed) → Infers j s → tree_of_expr e ≡ tree_as u s)
    → GivesTarget at name_at op (typed_target name_at name (Some typing) scope old.calls) old new (record {
      var = v;
      t = t;
      index = Some e;
    })
element-target-is at name_at name op typing scope old first second new v t u m j e has_call
    means names types named stands calls more promotes typed =
    let k = meaning_of scope name in let i = typing scope old.calls in
    let faults = λ (h : ℕ) (b : Bool). limit_faults height_limit h at ++ fault_if b CallInIndex name_at in
    let stands : Stands j i first second = subst (λ n. Stands j (typing scope n) first second)
    (ap (λ (t : Tally). t.calls) named) stands in
    let has_some = calls ∙ ap (λ n. is_some op && nat_lt first.calls n) (ap (λ (t : Tally). t.calls) stands.1)
    ∙ ap (λ b. is_some op && b) (calls-more first.calls i.calls) in (
      record {
        var = names ∙ ap array_of means;
        t = types ∙ ap element_type means;
        index = ap Some (typed i stands.0
            ∙ ap (λ t. tree_as t i) (promotes ∙ ap (λ (s : Typed). promoted s.t) stands.0));
      },
      element-tally at name_at k (is_some op) i old first second new
          (named ∙ ap (λ m. with_faults old (array_name_faults m name_at)) means) stands.1
          (more ∙ ap (λ h. with_faults second (faults h has_call)) (ap (λ (s : Typed). s.height) stands.0)
          ∙ ap (λ b. with_faults second (faults i.height b)) has_some),
    )

-- what is assigned to as an expression
abbrev value_at : Target → Scope → ℕ → Option Index → Typed
value_at target scope calls o =
    (typed_target target.name.at (name_of target.name) (index_typing o) scope calls).expression

-- a inference keeps no faults
with-more : {E : Type 0} (r : Result Inferred E) (fs : List Fault) (s : Typed) → IfOk r (λ j. Infers j s)
    → IfOk r (λ j. Infers j (with_more_faults fs s))
with-more (Ok j) fs s is = ap (with_more_faults fs) is
with-more (Err e) fs s is = is

module _ {E : Type 0} (target : Target) (scope : Scope) (calls : ℕ) (name : List ℕ) (m : Meaning)
    (r : Result Inferred E) where
  pub name-value : name ≡ name_of target.name → m ≡ meaning_of scope name → target.index ≡ None
      → IfOk r (λ j. Infers j (typed_name target.name.at name m))
      → IfOk r (λ j. Infers j (typed_target_of target scope calls).expression)
  name-value names means none gives =
      let at = target.name.at in
      let k = meaning_of scope (name_of target.name) in
      subst (λ o. IfOk r (λ j. Infers j (value_at target scope calls o))) (sym none)
      (with-more r (target_name_faults k at) (typed_name at (name_of target.name) k)
      (subst (λ n. IfOk r (λ j. Infers j (typed_name at n (meaning_of scope n)))) names
      (subst (λ m. IfOk r (λ j. Infers j (typed_name at name m))) means gives)))

-- THE STATEMENT

module _ (stmt : StmtId) (v w : VarId) (value : Expr) (x : ExprTree) (k : Option Expr) where
  pub assign-as : (o : Option Typed) → v ≡ w → tree_of_expr value ≡ x
      → option_map tree_of_expr k ≡ option_map index_tree o → k ≡ None
      → tree_of_stmt (code.Assign stmt v value) ≡ assign_tree stmt w x o
  assign-as None names typed same none = tree-Assign stmt v value
      ∙ ap (λ v. tree.assign stmt v (tree_of_expr value)) names ∙ ap (tree.assign stmt w) typed
  assign-as (Some i) names typed same none =
      let both : None ≡ Some (index_tree i) = sym (ap (option_map tree_of_expr) none) ∙ same in
      absurd (let no_index : ⊥ = cc in no_index)

  pub store-as : (o : Option Typed) (index : Expr) → v ≡ w → tree_of_expr value ≡ x
      → option_map tree_of_expr k ≡ option_map index_tree o → k ≡ Some index
      → tree_of_stmt (code.Store stmt v index value) ≡ assign_tree stmt w x o
  store-as None index names typed same some =
      let both : Some (tree_of_expr index) ≡ None = sym (ap (option_map tree_of_expr) some) ∙ same in
      absurd (let no_index : ⊥ = cc in no_index)
  store-as (Some i) index names typed same some =
      let both : Some (tree_of_expr index) ≡ Some (index_tree i)
      = sym (ap (option_map tree_of_expr) some) ∙ same in
      let indices : tree_of_expr index ≡ index_tree i = cc in
      tree-Store stmt v index value
      ∙ ap (λ v. tree.store stmt v (tree_of_expr index) (tree_of_expr value)) names
      ∙ ap (λ i. tree.store stmt w i (tree_of_expr value)) indices ∙ ap (tree.store stmt w (index_tree i))
      typed

pub assignment-kind : (k : Option Expr) (o : Option Typed)
    → option_map tree_of_expr k ≡ option_map index_tree o → k ≡ None → kind.Assignment ≡ kind_of_target o
assignment-kind k None same none = refl
assignment-kind k (Some i) same none =
    let both : None ≡ Some (index_tree i) = sym (ap (option_map tree_of_expr) none) ∙ same in
    absurd (let no_index : ⊥ = cc in no_index)

pub store-kind : (k : Option Expr) (o : Option Typed) (e : Expr)
    → option_map tree_of_expr k ≡ option_map index_tree o → k ≡ Some e → kind.Store ≡ kind_of_target o
store-kind k None e same some =
    let both : Some (tree_of_expr e) ≡ None = sym (ap (option_map tree_of_expr) some) ∙ same in
    absurd (let no_index : ⊥ = cc in no_index)
store-kind k (Some i) e same some = refl

pub assigns-is : (at : At) (s : TypedTarget) (e : Typed) (j : Inferred) (w u : Work) (mid : Tally) (k :
    StmtKind)
    (stmt : StmtId) (typed : StmtTree) (olds news : List StmtTree)
    → Infers j e → mid ≡ with_faults w.tally (limit_faults height_limit j.height at)
    → Numbers at k stmt (record w { tally = mid }) u → k ≡ kind_of_target s.index
    → typed ≡ assigned_tree stmt s e → news ≡ olds ++ typed ∷ [] → Assigns at s e w u olds news
assigns-is at s e j w u mid k stmt typed olds news infers limits counted kinds is pushed =
    let limited = λ (h : ℕ). record w { tally = with_faults w.tally (limit_faults height_limit h at) } in (
      counted.1 ∙ ap (λ k. with_number (record w { tally = mid }) at k) kinds
          ∙ ap (λ t. with_number (record w { tally = t }) at (kind_of_target s.index)) limits
          ∙ ap (λ h. with_number (limited h) at (kind_of_target s.index))
          (ap (λ (s : Typed). s.height) infers),
      pushed ∙ ap (λ x. olds ++ x ∷ []) (is ∙ ap (λ n. assigned_tree n s e) counted.0),
    )

-- THE WHOLE

-- the 1 of a step
pub one-stands : (at : At) (scope : Scope) (j : Inferred) (t : Tally) → Infers j (typed_constant at I32 (pos
    1))
    → Stands j (one at scope t.calls) t t
one-stands at scope j t infers = (infers, after-nothing t)

pub assignment-is : (at : At) (target : Target) (op : Option BinOp) (typing : Typing) (scope : Scope)
    (w u : Work) (olds news : List StmtTree) (j : InferredTarget) (e whole : Inferred) (mid new : Tally)
    → GivesTarget at target.name.at op (typed_target_of target scope w.tally.calls) w.tally mid j
    → Stands e (typing scope mid.calls) mid new
    → ((s : Typed) → Infers e s →
    Infers whole (changed op (typed_target_of target scope w.tally.calls).expression s))
    → ((t : TypedTarget) (s : Typed) → InfersTarget j t → Infers whole s
    → Assigns at t s (record w { tally = new }) u olds news)
    → state_with scope u news ≡ behind_part (add_assignment at target op typing) (state_with scope w olds)
assignment-is at target op typing scope w u olds news j e whole mid new targets stands changes puts =
    let place = typed_target_of target scope w.tally.calls in
    let s = typing scope (w.tally.calls + place.expression.calls) in
    let stands : Stands e s mid new = subst (λ n. Stands e (typing scope n) mid new)
    (ap (λ (t : Tally). t.calls) targets.1) stands in
    let all = changed op place.expression s in
    let before = place.expression.faults ++ index_faults at target.name.at (is_some op) place.index in
    let low = limit_faults height_limit all.height at in
    let put = puts place all targets.0 (changes s stands.0) in
    numbered-is (add_assignment at target op typing) scope w (record w { tally = with_faults new low }) u
    olds news at (kind_of_target place.index) (assigned_tree (next_stmt (before_of w)) place all)
    (place.expression.calls + s.calls) (before ++ s.faults ++ low) refl
    (ap (λ t. record w { tally = t })
    (faults-behind w.tally new (with_faults new low) (place.expression.calls + s.calls) (before ++
    s.faults) low
    (after-then w.tally mid new place.expression.calls s.calls before s.faults targets.1 stands.1) refl))
    put.0 put.1
