-- Arguments of calls, one after the other.
use Rattle.std.proofs.Common.{
  ◌≡◌,
  ℕ,
  zero,
  suc,
  ◌+◌,
  max,
  Bool,
  true,
  false,
  cond,
  Option,
  None,
  Some,
  List,
  [],
  ◌∷◌,
  ◌++◌,
  map,
  length,
  drop,
  slice_get,
  refl,
  sym,
  ◌∙◌,
  ap,
  subst,
  arith,
  append_assoc,
  length-append,
}
use Rattle.std.specs.Prelude.{flat_map}
use Rattle.std.proofs.lemmas.Grind.{flat_map-append}
use Rattle.std.proofs.lemmas.List.{append-nil, length-map, map-append}
use Rattle.std.proofs.lemmas.List.Sums.{sum_by_push}
use Rattle.ba_numbers.specs.declared.ids.VarId.{VarId}
use Rattle.ba_tree.specs.Facts.{greatest}
use Rattle.ba_tree.specs.declared.tree.Arg.{Arg}
use Rattle.ba_tree.specs.declared.tree.Arg as code
use Rattle.ba_tree.specs.declared.tree.Arg.TheFolds.{fold-roll-Arg}
use Rattle.ba_tree.specs.declared.tree.Arg.TheOpen.{Arg-F}
use Rattle.ba_tree.specs.declared.tree.Expr.{Expr}
use Rattle.ba_typing.specs.Expressions.{Typed, TypedArg, Typing, typed_arg, typed_args, first_param, other_params, array_arg, named_array, expressions_of_args, trees_of_args}
use Rattle.ba_expressions.specs.Inferring.{AreArgs, after, calls_of_args, faults_of_arg, faults_of_args, greatest_height}
use Rattle.ba_typing.specs.Names.{Scope}
use Rattle.ba_tree.specs.Trees.{ArgTree, ExprTree, arg_tree_step, expr_tree_step, tree_of_arg, tree_of_expr}
use Rattle.ba_tree.specs.Trees as tree
use Rattle.ba_expressions.specs.declared.arguments.InferredArgs.{InferredArgs}
use Rattle.ba_expressions.specs.declared.arguments.InferredArg.{InferredArg}
use Rattle.ba_typing.specs.declared.fault.Fault.{Fault}
use Rattle.ba_expressions.specs.declared.tally.Tally.{Tally}
use Rattle.ba_expressions.specs.declared.uses.CallUse.{CallUse}
use Rattle.ba_typing.specs.Declarations.{calls_in}
use Rattle.ba_expressions.proofs.Tallies.{after-as, after-then}
use Rattle.ba_expressions.proofs.Walking.{nothing-more}
use Rattle.ba_typing.specs.declared.meanings.ParamType.{ParamType}

pub arg-Value : (e : Expr) → tree_of_arg (code.Value e) ≡ tree.value (tree_of_expr e)
unfolding tree_of_arg tree_of_expr code.roll-Arg denote.Hole.Carrier.roll
arg-Value e = fold-roll-Arg ArgTree ExprTree arg_tree_step expr_tree_step (Arg-F.Value e)

pub arg-Array : (v : VarId) → tree_of_arg (code.Array v) ≡ tree.array v
unfolding tree_of_arg code.roll-Arg denote.Hole.Carrier.roll
arg-Array v = fold-roll-Arg ArgTree ExprTree arg_tree_step expr_tree_step (Arg-F.Array v)

-- ONE ARGUMENT

array-calls : (v : Option VarId) (s : Typed) → (array_arg v s).expression.calls ≡ s.calls
array-calls None s = refl
array-calls (Some v) s = refl

array-height : (v : Option VarId) (s : Typed) → (array_arg v s).expression.height ≡ s.height
array-height None s = refl
array-height (Some v) s = refl

param-calls : (scope : Scope) (p : ParamType) (b : Bool) (s : Typed)
    → (typed_arg scope (Some (record p { is_array = b })) s).expression.calls ≡ s.calls
param-calls scope p true s = array-calls (named_array scope p.t s.name) s
param-calls scope p false s = refl

param-height : (scope : Scope) (p : ParamType) (b : Bool) (s : Typed)
    → (typed_arg scope (Some (record p { is_array = b })) s).expression.height ≡ s.height
param-height scope p true s = array-height (named_array scope p.t s.name) s
param-height scope p false s = refl

pub arg-calls : (scope : Scope) (param : Option ParamType) (s : Typed) →
    (typed_arg scope param s).expression.calls
    ≡ s.calls
arg-calls scope None s = refl
arg-calls scope (Some p) s = param-calls scope p p.is_array s

pub arg-height : (scope : Scope) (param : Option ParamType) (s : Typed) → (typed_arg scope param
    s).expression.height ≡ s.height
arg-height scope None s = refl
arg-height scope (Some p) s = param-height scope p p.is_array s

-- the faults of its height before its own
pub usage-faults : (as_value : Bool) (heights own : List Fault)
    → cond as_value [] heights ++ own ≡ cond as_value own (heights ++ own)
usage-faults true heights own = refl
usage-faults false heights own = refl

-- ONE ARGUMENT MORE

greatest-push : (ns : List ℕ) (n : ℕ) → greatest (ns ++ n ∷ []) ≡ max (greatest ns) n
greatest-push [] n = omega arith
greatest-push (m ∷ ns) n = let sorts : max m (max (greatest ns) n) ≡ max (max m (greatest ns)) n = omega
    arith in
    ap (max m) (greatest-push ns n) ∙ sorts

heights-push : (es : List TypedArg) (e : TypedArg)
    → greatest_height (expressions_of_args (es ++ e ∷ [])) ≡ max (greatest_height (expressions_of_args es))
    e.expression.height
heights-push es e = ap greatest_height (map-append (λ (a : TypedArg). a.expression) es (e ∷ []))
    ∙ ap greatest (map-append (λ (s : Typed). s.height) (expressions_of_args es) (e.expression ∷ []))
    ∙ greatest-push (map (λ (s : Typed). s.height) (expressions_of_args es)) e.expression.height

pub args-push : (old new : InferredArgs) (arg : Arg) (height : ℕ) (es : List TypedArg) (e : TypedArg)
    → new.given.items ≡ old.given.items ++ arg ∷ [] → new.tallest ≡ max old.tallest height
    → AreArgs old es → tree_of_arg arg ≡ e.given → height ≡ e.expression.height → AreArgs new (es ++ e ∷ [])
args-push old new arg height es e items tallest are given same = record {
  given = ap (map tree_of_arg) items ∙ map-append tree_of_arg old.given.items (arg ∷ [])
      ∙ ap (λ xs. xs ++ tree_of_arg arg ∷ []) are.given ∙ ap (λ x. trees_of_args es ++ x ∷ []) given
      ∙ sym (map-append (λ (a : TypedArg). a.given) es (e ∷ []));
  tallest = tallest ∙ ap (λ n. max n height) are.tallest ∙ ap (max (greatest_height (expressions_of_args
      es))) same
      ∙ sym (heights-push es e);
}

-- THE PARAMETERS THAT ARE LEFT

first-left : (ps : List ParamType) (n : ℕ) → first_param (drop n ps) ≡ slice_get ps n
first-left [] zero = refl
first-left [] (suc n) = refl
first-left (p ∷ ps) zero = refl
first-left (p ∷ ps) (suc n) = first-left ps n

others-left : (ps : List ParamType) (n : ℕ) → other_params (drop n ps) ≡ drop (suc n) ps
others-left [] zero = refl
others-left [] (suc n) = refl
others-left (p ∷ ps) zero = refl
others-left (p ∷ ps) (suc n) = others-left ps n

pub as-many : (j : InferredArgs) (es : List TypedArg) → AreArgs j es → length j.given.items ≡ length es
as-many j es are = sym (length-map j.given.items tree_of_arg) ∙ ap length are.given
    ∙ length-map es (λ (a : TypedArg). a.given)

-- THE WALK OVER ARGUMENTS: those that were looked at, and those that are left

pub record Looked (scope : Scope) (usage : CallUse) (params : List ParamType) (left : List Typing)
    (whole : List TypedArg) (args : InferredArgs) (old new : Tally) (es : List TypedArg) : Type 0 where
  pub are : AreArgs args es
  pub counted : new ≡ after old (calls_of_args es) (faults_of_args usage es)
  pub parts : es ++ typed_args scope new.calls (drop (length es) params) left ≡ whole

pub looked-none : (scope : Scope) (usage : CallUse) (params : List ParamType) (left : List Typing) (args :
    InferredArgs)
    (t : Tally) → AreArgs args [] → Looked scope usage params left (typed_args scope t.calls params left)
    args t t []
looked-none scope usage params left args t are = record { are = are; counted = nothing-more t; parts = refl }

module _ (scope : Scope) (usage : CallUse) (params : List ParamType) (x : Typing) (left : List Typing)
    (whole : List TypedArg) (args next : InferredArgs) (arg : InferredArg) (old mid new : Tally) (es : List
    TypedArg)
    (looked : Looked scope usage params (x ∷ left) whole args old mid es) where
  abbrev this : TypedArg
  this = typed_arg scope (slice_get params (length es)) (x scope mid.calls)

  abbrev then_these : List TypedArg
  then_these = es ++ this ∷ []

  more-calls : calls_of_args then_these ≡ calls_of_args es + this.expression.calls
  more-calls = ap calls_in (map-append (λ (a : TypedArg). a.expression) es (this ∷ []))
      ∙ sum_by_push (λ (e : Typed). e.calls) (expressions_of_args es) this.expression

  more-faults : faults_of_args usage then_these ≡ faults_of_args usage es ++ faults_of_arg usage
      this.expression
  more-faults = ap (flat_map (faults_of_arg usage)) (map-append (λ (a : TypedArg). a.expression) es (this ∷
      []))
      ∙ flat_map-append (faults_of_arg usage) (expressions_of_args es) (this.expression ∷ [])
      ∙ ap (λ xs. faults_of_args usage es ++ xs) (append-nil (faults_of_arg usage this.expression))

  longer : suc (length es) ≡ length then_these
  longer = let more = length-append es (this ∷ []) in omega (arith, more)

  pub looked-more : (tree_of_arg arg.given ≡ this.given) → (arg.height ≡ this.expression.height)
      → (new ≡ after mid this.expression.calls (faults_of_arg usage this.expression))
      → ((es : List TypedArg) (e : TypedArg) → AreArgs args es → tree_of_arg arg.given ≡ e.given
      → arg.height ≡ e.expression.height → AreArgs next (es ++ e ∷ []))
      → Looked scope usage params left whole next old new then_these
  looked-more given height counted push =
      let own = (x scope mid.calls).calls in
      let same_calls : this.expression.calls ≡ own = arg-calls scope (slice_get params (length es)) (x scope
      mid.calls) in
      let calls : mid.calls + own ≡ new.calls
      = ap (λ n. mid.calls + n) (sym same_calls) ∙ sym (ap (λ (t : Tally). t.calls) counted) in
      record {
        are = push es this looked.are given height;
        counted = after-as old new (calls_of_args es + this.expression.calls) (calls_of_args then_these)
            (faults_of_args usage es ++ faults_of_arg usage this.expression) (faults_of_args usage then_these)
            (sym more-calls) (sym more-faults)
            (after-then old mid new (calls_of_args es) this.expression.calls (faults_of_args usage es)
            (faults_of_arg usage this.expression) looked.counted counted);
        parts = append_assoc es (this ∷ []) (typed_args scope new.calls (drop (length then_these) params)
            left)
            ∙ ap (λ ps. es ++ this ∷ typed_args scope new.calls ps left)
            (ap (λ n. drop n params) (sym longer) ∙ sym (others-left params (length es)))
            ∙ ap (λ n. es ++ this ∷ typed_args scope n (other_params (drop (length es) params)) left) (sym
            calls)
            ∙ ap (λ p. es ++ typed_arg scope p (x scope mid.calls)
            ∷ typed_args scope (mid.calls + own) (other_params (drop (length es) params)) left)
            (sym (first-left params (length es)))
            ∙ looked.parts;
      }

pub looked-all : (scope : Scope) (usage : CallUse) (params : List ParamType) (whole : List TypedArg)
    (args : InferredArgs) (old new : Tally) (es : List TypedArg) → Looked scope usage params [] whole args old
    new es
    → AreArgs args whole × (new ≡ after old (calls_of_args whole) (faults_of_args usage whole))
looked-all scope usage params whole args old new es looked =
    subst (λ xs. AreArgs args xs × (new ≡ after old (calls_of_args xs) (faults_of_args usage xs)))
    (sym (append-nil es) ∙ looked.parts) (looked.are, looked.counted)
