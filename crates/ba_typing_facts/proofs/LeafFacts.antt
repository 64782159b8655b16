-- Statements that hold no others: what their facts owe to the place where they are.
use Rattle.std.proofs.Common.{◌≡◌, ℕ, suc, ◌+◌, ◌-◌, ◌≤◌, Bool, true, Some, List, [], ◌∷◌, ◌++◌, map, flat_map, length, refl, ◌∙◌, ap, subst, arith, append-nil, slice_get, nat_le, nat_lt}
use Rattle.std.specs.List.{list_all, range_with_len}
use Rattle.std.proofs.lemmas.Bool.{and_from, le-leb, ltb-false}
use Rattle.ba_numbers.specs.declared.ids.At.{At}
use Rattle.ba_numbers.specs.declared.ids.CallId.{CallId}
use Rattle.ba_numbers.specs.declared.ids.VarId.{VarId}
use Rattle.ba_numbers.specs.declared.numbers.CType.TheVariants.{I32}
use Rattle.ba_tree.specs.Facts.{ExprFacts, leaf_facts, calling, numbered, has_kind, has_variable, is_whole, holds, same_kind}
use Rattle.ba_tree.specs.declared.tree.Parts.{Parts}
use Rattle.ba_tree.specs.declared.tree.StmtInfo.{StmtInfo}
use Rattle.ba_tree.specs.declared.tree.StmtKind.{StmtKind}
use Rattle.ba_tree.specs.declared.tree.StmtKind.TheVariants as kind
use Rattle.ba_typing.specs.Declarations.{Before, next_stmt, whole_faults, initial_faults, typed_each}
use Rattle.ba_typing.specs.Expressions.{Typed, Typing}
use Rattle.ba_typing.specs.Faults.{limit_faults, height_limit}
use Rattle.ba_typing.specs.Names.{Scope}
use Rattle.ba_tree.specs.Trees.{ExprTree}
use Rattle.ba_typing.specs.declared.fault.Cause.TheVariants.{Limit}
use Rattle.ba_typing.specs.declared.names.Exits.{Exits}
use Rattle.ba_typing_facts.proofs.TreeFacts.{facts_of}
use Rattle.ba_typing_facts.proofs.FittingFacts.{calls_of, Fits, AreFit, operator_fits, nil_left, nil_right, call_numbers}
use Rattle.ba_typing_facts.proofs.OperatorFacts.{IsTyped, IsWellTyped, AreClean}
use Rattle.ba_typing_facts.proofs.ScopeFacts.{IsScope}
use Rattle.ba_typing_facts.proofs.PrimaryFacts.{AreWellTypings, not_so}
use Rattle.ba_typing_facts.proofs.SequenceFacts.{AreStmts, each_none, each_is}

-- WHAT STANDS AT A PLACE of a list

abbrev pub HasAt : {A : Type 0} → List A → ℕ → List A → Type 0
HasAt xs k [] = Unit {0}
HasAt xs k (y ∷ ys) = (slice_get xs k ≡ Some y) × HasAt xs (k + 1) ys

pub has_left : {A : Type 0} (xs : List A) (k : ℕ) (ys zs : List A) → HasAt xs k (ys ++ zs) → HasAt xs k ys
has_left xs k [] zs h = tt
has_left xs k (y ∷ ys) zs h = (h.0, has_left xs (k + 1) ys zs h.1)

pub has_right : {A : Type 0} (xs : List A) (k : ℕ) (ys zs : List A) → HasAt xs k (ys ++ zs)
    → HasAt xs (k + length ys) zs
has_right xs k [] zs h = subst (λ i. HasAt xs i zs) (let e : k ≡ k + 0 = omega arith in e) h
has_right xs k (y ∷ ys) zs h = subst (λ i. HasAt xs i zs)
    (let e : (k + 1) + length ys ≡ k + suc (length ys) = omega arith in e) (has_right xs (k + 1) ys zs h.1)

-- LIMITS

pub within : (limit number : ℕ) (at : At) → limit_faults limit number at ≡ [] → number ≤ limit
within limit number at h = ltb-false limit number (not_so (nat_lt limit number) Limit at h)

-- expressions within the limit on heights
abbrev pub AreLow : List Typed → Type 0
AreLow [] = Unit {0}
AreLow (e ∷ es) = (e.height ≤ 100) × AreLow es

-- whole expressions without a fault
pub record AreWhole (es : List Typed) : Type 0 where
  pub are_clean : AreClean es
  pub are_low : AreLow es

pub one_whole : (at : At) (e : Typed) → whole_faults at e ≡ [] → AreWhole (e ∷ [])
one_whole at e h = let limit = limit_faults height_limit e.height at in record {
  are_clean = (nil_right limit e.faults h, tt);
  are_low = (within height_limit e.height at (nil_left limit e.faults h), tt);
}

pub and_whole : (e : Typed) (es : List Typed) → AreWhole (e ∷ []) → AreWhole es → AreWhole (e ∷ es)
and_whole e es h k = record {
  are_clean = (h.are_clean.0, k.are_clean);
  are_low = (h.are_low.0, k.are_low);
}

pub all_whole : (at : At) (es : List Typed) → flat_map (whole_faults at) es ≡ [] → AreWhole es
all_whole at [] h = record { are_clean = tt; are_low = tt }
all_whole at (e ∷ es) h = let rest = flat_map (whole_faults at) es in
    and_whole e es (one_whole at e (nil_left (whole_faults at e) rest h))
    (all_whole at es (nil_right (whole_faults at e) rest h))

pub all_initial : (at : At) (is_global : Bool) (es : List Typed) → flat_map (initial_faults at is_global) es
    ≡ []
    → AreWhole es
all_initial at is_global [] h = record { are_clean = tt; are_low = tt }
all_initial at is_global (e ∷ es) h =
    let first = initial_faults at is_global e in
    let rest = flat_map (initial_faults at is_global) es in
    and_whole e es (one_whole at e (nil_left (whole_faults at e) _ (nil_left first rest h)))
    (all_initial at is_global es (nil_right first rest h))

-- KINDS

same_kind-self : (k : StmtKind) → same_kind k k ≡ true
same_kind-self kind.Initialiser = refl
same_kind-self kind.Assignment = refl
same_kind-self kind.Store = refl
same_kind-self kind.Condition = refl
same_kind-self kind.Switch = refl
same_kind-self kind.Return = refl
same_kind-self kind.Call = refl
same_kind-self kind.Assert = refl

module _ (p : Parts) (owned : List VarId) where
  pub kind_is : (n : Before) (at : At) (k : StmtKind)
      → HasAt p.statements n.statements (record { at = at; kind = k } ∷ []) → has_kind p (next_stmt n, k)
      ≡ true
  kind_is n at k h =
      let place : (n.statements + 1) - 1 ≡ n.statements = omega arith in
      ap (λ i. holds (λ (info : StmtInfo). same_kind info.kind k) (slice_get p.statements i)) place
      ∙ ap (holds (λ (info : StmtInfo). same_kind info.kind k)) h.0 ∙ same_kind-self k

  -- EXPRESSIONS ONE AFTER THE OTHER

  abbrev pub AreWellTyped : ℕ → List Typed → Type 0
  AreWellTyped before [] = Unit {0}
  AreWellTyped before (e ∷ es) = IsWellTyped p owned before e × AreWellTyped (before + e.calls) es

  pub each_typed : (scope : Scope) → IsScope p owned scope → (before : ℕ) (typings : List Typing)
      → AreWellTypings p owned typings → AreWellTyped before (typed_each scope before typings)
  each_typed scope sound before [] h = tt
  each_typed scope sound before (s ∷ ss) h = (
    h.0.by scope sound before,
    each_typed scope sound (before + (s scope before).calls) ss h.1,
  )

  -- typed in some way that keeps what fits
  pub each_fit : (typed : Typed → ExprTree)
      → ((e : Typed) (before : ℕ) → IsTyped p owned before e.calls e.height e.is_constant e.t e.tree
      → Fits owned before e.calls e.height e.is_constant (facts_of p (typed e)))
      → (before : ℕ) (es : List Typed) → AreWellTyped before es → AreClean es
      → AreFit owned before es (map (facts_of p) (map typed es))
  each_fit typed keeps before [] h none = tt
  each_fit typed keeps before (e ∷ es) h none =
      (keeps e before (h.0.right none.0), each_fit typed keeps (before + e.calls) es h.1 none.1)

  whole_facts : (before : ℕ) (es : List Typed) (xs : List ExprFacts) → AreFit owned before es xs → AreLow es
      → list_all is_whole xs ≡ true
  whole_facts before [] [] h low = refl
  whole_facts before [] (x ∷ xs) h low = absurd h
  whole_facts before (e ∷ es) [] h low = absurd h
  whole_facts before (e ∷ es) (x ∷ xs) h low =
      let first = h.0.low in let most = low.0 in
      let lower : x.height ≤ 100 = omega (arith, first, most) in
      and_from (is_whole x) (list_all is_whole xs)
      (and_from x.is_sound (nat_le x.height 100) h.0.sound (le-leb x.height 100 lower))
      (whole_facts (before + e.calls) es xs h.1 low.1)

  -- LEAVES

  -- a numbered statement of whole expressions
  pub leaf_are : {exits : Exits} (n : Before) (k : StmtKind) (es : List Typed) (xs : List ExprFacts)
      (meets : Bool)
      → AreFit owned n.calls es xs → AreLow es → meets ≡ true → has_kind p (next_stmt n, k) ≡ true
      → AreStmts p owned n.statements 1 n.calls (calls_of es) exits
      (leaf_facts (numbered (next_stmt n) k) xs meets ∷ [])
  leaf_are n k es xs meets fit low met is_kind =
      let all = operator_fits owned n.calls es xs I32 true fit refl in record {
        sound = and_from _ _ (and_from meets (list_all is_whole xs) met
            (whole_facts n.calls es xs fit low)) refl;
        names = ap (list_all (has_variable owned)) (append-nil (flat_map (λ (x : ExprFacts). x.variables) xs))
            ∙ all.names;
        each_number = each_is refl;
        kinds = and_from _ _ is_kind refl;
        each_call = each_is (ap call_numbers (append-nil (flat_map (λ (x : ExprFacts). x.calls) xs))
            ∙ all.numbers);
        breaks = λ any. cc;
        continues = λ any. cc;
      }

  -- one without a number or an expression
  pub bare_are : {before calls_before : ℕ} {exits : Exits} (meets : Bool) → meets ≡ true
      → AreStmts p owned before 0 calls_before 0 exits (leaf_facts [] [] meets ∷ [])
  bare_are {before} {calls_before} meets met = record {
    sound = and_from _ _ (and_from meets true met refl) refl;
    names = refl;
    each_number = each_none (before + 1);
    kinds = refl;
    each_call = each_none (calls_before + 1);
    breaks = λ any. cc;
    continues = λ any. cc;
  }

  -- a `break`, where one may stand
  pub break_are : {before calls_before : ℕ} {exits : Exits} → exits.breaks ≡ true
      → AreStmts p owned before 0 calls_before 0 exits (record (leaf_facts [] [] true) { breaks = true } ∷ [])
  break_are {before} {calls_before} accepted = record {
    sound = refl;
    names = refl;
    each_number = each_none (before + 1);
    kinds = refl;
    each_call = each_none (calls_before + 1);
    breaks = λ any. accepted;
    continues = λ any. cc;
  }

  -- a `continue`, where one may stand
  pub continue_are : {before calls_before : ℕ} {exits : Exits} → exits.continues ≡ true
      → AreStmts p owned before 0 calls_before 0 exits
      (record (leaf_facts [] [] true) { continues = true } ∷ [])
  continue_are {before} {calls_before} accepted = record {
    sound = refl;
    names = refl;
    each_number = each_none (before + 1);
    kinds = refl;
    each_call = each_none (calls_before + 1);
    breaks = λ any. cc;
    continues = λ any. accepted;
  }

  -- a call as a statement, in front of the calls in its arguments
  pub calling_are : {exits : Exits} (n : Before) (es : List Typed) (xs : List ExprFacts) (meets : Bool)
      (c : CallId)
      → c.0 ≡ n.calls + 1
      → AreFit owned (n.calls + 1) es xs → AreLow es → meets ≡ true → has_kind p (next_stmt n, kind.Call)
      ≡ true
      → AreStmts p owned n.statements 1 n.calls (1 + calls_of es) exits
      (calling c (leaf_facts (numbered (next_stmt n) kind.Call) xs meets) ∷ [])
  calling_are n es xs meets c is fit low met is_kind =
      let all = operator_fits owned (n.calls + 1) es xs I32 true fit refl in record {
        sound = and_from _ _
            (and_from meets (list_all is_whole xs) met (whole_facts (n.calls + 1) es xs fit low)) refl;
        names = ap (list_all (has_variable owned)) (append-nil (flat_map (λ (x : ExprFacts). x.variables) xs))
            ∙ all.names;
        each_number = each_is refl;
        kinds = and_from _ _ is_kind refl;
        each_call = each_is (ap (λ i. i ∷ call_numbers (flat_map (λ (x : ExprFacts). x.calls) xs ++ [])) is
            ∙ ap (λ ns. (n.calls + 1) ∷ ns)
            (ap call_numbers (append-nil (flat_map (λ (x : ExprFacts). x.calls) xs)) ∙ all.numbers)
            ∙ ap (range_with_len (n.calls + 1)) (let e : suc (calls_of es)
            ≡ 1 + calls_of es = omega arith in e));
        breaks = λ any. cc;
        continues = λ any. cc;
      }
