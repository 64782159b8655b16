-- Assignments, steps, calls and the other statements that hold none: what each adds fits the parts of the
-- program.
use Rattle.std.proofs.Common.{◌≡◌, ℕ, ◌+◌, Bool, true, false, ◌&&◌, not, cond, Option, None, Some, List, [], ◌∷◌, ◌++◌, refl, sym, ◌∙◌, ap, subst, arith, nat_lt}
use Rattle.std.specs.Option.{is_some}
use Rattle.std.proofs.lemmas.Bool.{and_from, ltb-false}
use Rattle.ba_numbers.specs.declared.ids.At.{At}
use Rattle.ba_numbers.specs.declared.ids.VarId.{VarId}
use Rattle.ba_numbers.specs.declared.numbers.BinOp.{BinOp}
use Rattle.ba_numbers.specs.declared.numbers.CType.{CType}
use Rattle.ba_numbers.specs.declared.numbers.CType.TheVariants.{I32}
use Rattle.ba_tree.specs.Facts.{StmtFacts, has_variable, type_at, is_value, is_array, fits_type, leaf_facts, numbered, has_kind}
use Rattle.ba_numbers.specs.Types.{is_promoted}
use Rattle.ba_tree.specs.declared.tree.Function.{Function}
use Rattle.ba_tree.specs.declared.tree.Parts.{Parts}
use Rattle.ba_tree.specs.declared.tree.StmtKind.{StmtKind}
use Rattle.ba_tree.specs.declared.tree.StmtKind.TheVariants as kind
use Rattle.ba_typing.specs.Declarations.{Before, Part, next_stmt}
use Rattle.ba_typing.specs.Declarations as add
use Rattle.ba_typing.specs.Expressions.{Typed, Typing, typed_name, typed_element, typed_value, tree_as, with_more_faults, element_type, array_of}
use Rattle.ba_numbers.specs.Types.{promoted}
use Rattle.ba_typing.specs.Faults.{fault_if, limit_faults, statement_limit, height_limit, array_name_faults, target_name_faults}
use Rattle.ba_typing.specs.Names.{Scope, meaning_of, is_array_object}
use Rattle.ba_typing.specs.declared.meanings.Meaning.{Meaning}
use Rattle.ba_typing.specs.declared.meanings.Meaning.TheVariants as meaning
use Rattle.ba_typing.specs.Statements.{var_of, typed_target, index_faults, changed, assigned_tree, kind_of_target}
use Rattle.ba_tree.specs.Trees.{StmtTree}
use Rattle.ba_tree.specs.Trees as tree
use Rattle.ba_typing.specs.declared.fault.Cause.TheVariants.{WrongKind, CallInIndex}
use Rattle.ba_typing.specs.declared.fault.Fault.{Fault}
use Rattle.ba_typing.specs.declared.names.Exits.{Exits}
use Rattle.ba_typing_facts.proofs.AdditionFacts.{InScope, IsPiece, PieceAt, all_facts_of}
use Rattle.ba_typing_facts.proofs.FittingFacts.{calls_of, nil_left, nil_right}
use Rattle.ba_typing_facts.proofs.LeafFacts.{AreWhole, within, kind_is, leaf_are}
use Rattle.ba_typing_facts.proofs.PrimaryFacts.{IsWellTyping, not_so, name_typed, name_calls, element_typed}
use Rattle.ba_typing_facts.proofs.ScopeFacts.{IsMeaning, meaning_is, value_is, array_is, type_is}
use Rattle.ba_typing_facts.proofs.SequenceFacts.{AreStmts, naming_are}
use Rattle.ba_typing_facts.proofs.TreeFacts.{facts_of}
use Rattle.ba_typing_facts.proofs.OperatorFacts.{IsWellTyped, as_typed, more_typed, value_typed, promoted_is, same_type-of}

module _ (p : Parts) (owned : List VarId) (f : Function) (inside : Bool) where
  -- TREES

  module _ {exits : Exits} (n : Before) (v : VarId) (t : CType) (w : Typed)
      (is_owned : has_variable owned v ≡ true) (typed : type_at p v ≡ t) where
    assign_are : IsWellTyped p owned n.calls w → AreWhole (w ∷ []) → is_value p v ≡ true
        → has_kind p (next_stmt n, kind.Assignment) ≡ true
        → AreStmts p owned n.statements 1 n.calls (calls_of (w ∷ [])) exits
        (all_facts_of p f (tree.assign (next_stmt n) v (tree_as t w) ∷ []))
    assign_are expression whole is_one is_kind =
        let x = as_typed p owned w t (expression.right whole.are_clean.0) in
        let xs = facts_of p (tree_as t w) ∷ [] in
        let meets = is_value p v && fits_type (type_at p v) (facts_of p (tree_as t w)) in
        naming_are p owned v (leaf_facts (numbered (next_stmt n) kind.Assignment) xs meets) is_owned
        (leaf_are p owned n kind.Assignment (w ∷ []) xs meets (x.fits, tt) whole.are_low
        (and_from _ _ is_one (same_type-of (x.typed ∙ sym typed))) is_kind)

    store_are : (i : Typed) → IsWellTyped p owned n.calls i → IsWellTyped p owned (n.calls + i.calls) w →
        AreWhole
        (i ∷ w ∷ [])
        → is_array p v ≡ true → has_kind p (next_stmt n, kind.Store) ≡ true
        → AreStmts p owned n.statements 1 n.calls (calls_of (i ∷ w ∷ [])) exits
        (all_facts_of p f (tree.store (next_stmt n) v (tree_as (promoted i.t) i) (tree_as t w) ∷ []))
    store_are i index expression whole is_one is_kind =
        let y = as_typed p owned i (promoted i.t) (index.right whole.are_clean.0) in
        let x = as_typed p owned w t (expression.right whole.are_clean.1.0) in
        let xs = facts_of p (tree_as (promoted i.t) i) ∷ facts_of p (tree_as t w) ∷ [] in
        let meets = is_array p v && is_promoted (facts_of p (tree_as (promoted i.t) i)).t
        && fits_type (type_at p v) (facts_of p (tree_as t w)) in
        naming_are p owned v (leaf_facts (numbered (next_stmt n) kind.Store) xs meets) is_owned
        (leaf_are p owned n kind.Store (i ∷ w ∷ []) xs meets (y.fits, (x.fits, tt)) whole.are_low
        (and_from _ _ (and_from _ _ is_one (ap is_promoted y.typed ∙ promoted_is i.t))
        (same_type-of (x.typed ∙ sym typed))) is_kind)

  -- TARGETS

  record IsTarget (v : VarId) (t : CType) (test : VarId → Bool) : Type 0 where
    is_owned : has_variable owned v ≡ true
    typed : type_at p v ≡ t
    shaped : test v ≡ true

  variable_target : (at : At) (name : List ℕ) (m : Meaning) → IsMeaning p owned m
      → (typed_name at name m).faults ≡ [] → target_name_faults m at ≡ []
      → IsTarget (var_of m) (typed_name at name m).t (is_value p)
  variable_target at name meaning.Unknown h none assigned = cc
  variable_target at name meaning.Function h none assigned = cc
  variable_target at name (meaning.Constant z) h none assigned = cc
  variable_target at name (meaning.Variable e) h none assigned =
      from (is_array_object e) (not_so (is_array_object e) WrongKind at (nil_left _ [] none))
      (value_is p owned e h) where
        from : (b : Bool) → b ≡ false → (b ≡ false → is_value p e.var ≡ true)
            → IsTarget e.var (cond b I32 e.variable.t) (is_value p)
        from true wrong there = cc
        from false is there = record {
          is_owned = h.is_owned;
          typed = type_is p owned e h;
          shaped = there
              refl;
        }

  array_target : (at : At) (m : Meaning) → IsMeaning p owned m → array_name_faults m at ≡ []
      → IsTarget (array_of m) (element_type m) (is_array p)
  array_target at meaning.Unknown h none = cc
  array_target at meaning.Function h none = cc
  array_target at (meaning.Constant z) h none = cc
  array_target at (meaning.Variable e) h none =
      from (is_array_object e) (not_so (not (is_array_object e)) WrongKind at none)
      (array_is p owned e h) where
        from : (b : Bool) → not b ≡ false → (b ≡ true → is_array p e.var ≡ true)
            → IsTarget (cond b e.var (record { 0 = 0 })) (cond b e.variable.t I32) (is_array p)
        from false wrong there = cc
        from true is there = record {
          is_owned = h.is_owned;
          typed = type_is p owned e h;
          shaped = there
              refl;
        }

  -- ASSIGNMENTS

  -- what is assigned: the value, or an operator over the target and the value
  changed_typed : (before : ℕ) (op : Option BinOp) (target e : Typed) → IsWellTyped p owned before target
      → IsWellTyped p owned (before + target.calls) e → target.calls ≡ 0 → IsWellTyped p owned before
      (changed op target e)
  changed_typed before None target e h k none =
      subst (λ b. IsWellTyped p owned b e) (let same : before + target.calls ≡ before = omega
      (arith, none) in same) k
  changed_typed before (Some op) target e h k none = value_typed p owned before target e h k op

  changed_clean : (op : Option BinOp) (target e : Typed) → target.faults ≡ [] → e.faults ≡ []
      → (changed op target e).faults ≡ []
  changed_clean None target e h k = k
  changed_clean (Some op) target e h k = ap (λ fs. fs ++ (e.faults ++ [])) h ∙ ap (λ fs. fs ++ []) k

  changed_calls : (op : Option BinOp) (target e : Typed) → target.calls ≡ 0
      → 0 + (changed op target e).calls ≡ target.calls + e.calls
  changed_calls None target e none = omega (arith, none)
  changed_calls (Some op) target e none = omega arith

  -- a numbered statement whose facts are right, and nothing else
  pub numbered_piece : {exits : Exits} (n : Before) (at : At) (k : StmtKind) (typed : StmtTree) (calls : ℕ)
      (faults : List Fault)
      → AreStmts p owned n.statements 1 n.calls calls exits (all_facts_of p f (typed ∷ []))
      → limit_faults statement_limit (n.statements + 1) at ++ faults ≡ []
      → IsPiece p owned f inside exits n (add.numbered n at k typed calls faults)
  numbered_piece n at k typed calls faults h none = record {
    stmts = h;
    entries = tt;
    few = record {
      variables = λ few. omega (arith, few);
      statements = λ few. within statement_limit (n.statements + 1) at
          (nil_left (limit_faults statement_limit (n.statements + 1) at) faults none);
      elements = λ few. omega (arith, few);
    };
  }

  pub counted_calls : {exits : Exits} (n : Before) (c d : ℕ) (ss : List StmtFacts) → c ≡ d
      → AreStmts p owned n.statements 1 n.calls c exits ss → AreStmts p owned n.statements 1 n.calls d
      exits ss
  counted_calls {exits} n c d ss is = subst (λ k. AreStmts p owned n.statements 1 n.calls k exits ss) is

  abbrev pub AreOptional : Option Typing → Type 0
  AreOptional None = Unit {0}
  AreOptional (Some s) = IsWellTyping p owned s

  -- an assignment to a name, or to its element
  abbrev pub assignment : At → At → List ℕ → Option Typing → Option BinOp → Typing → Part
  assignment at name_at name o op typing scope n =
      let place = typed_target name_at name o scope n.calls in
      let e = typing scope (n.calls + place.expression.calls) in
      let whole = changed op place.expression e in
      add.numbered n at (kind_of_target place.index) (assigned_tree (next_stmt n) place whole)
      (place.expression.calls + e.calls)
      (place.expression.faults ++ index_faults at name_at (is_some op) place.index
      ++ e.faults ++ limit_faults height_limit whole.height at)

  module _ (at name_at : At) (name : List ℕ) (op : Option BinOp) (typing : Typing) (is : IsWellTyping p
      owned typing)
      (scope : Scope) (in_scope : InScope p owned f inside scope) (n : Before) where
    variable_assigned : PieceAt p owned f inside (assignment at name_at name None op typing) scope n
    variable_assigned stands none =
        let m = meaning_of scope name in
        let named = typed_name name_at name m in
        let more = target_name_faults m name_at in
        let t = with_more_faults more named in
        let e = typing scope (n.calls + t.calls) in
        let whole = changed op t e in
        let limit = limit_faults statement_limit (n.statements + 1) at in
        let low = limit_faults height_limit whole.height at in
        let own = nil_right limit (t.faults ++ [] ++ e.faults ++ low) none in
        let before_low = nil_left (t.faults ++ [] ++ e.faults) low own in
        let target_none = nil_left t.faults [] (nil_left (t.faults ++ []) e.faults before_low) in
        let meant = meaning_is p owned scope in_scope.sound name in
        let target = variable_target name_at name m meant (nil_right more named.faults target_none)
        (nil_left more named.faults target_none) in
        let no_calls = name_calls p owned n.calls name_at name m in
        numbered_piece n at kind.Assignment (assigned_tree (next_stmt n)
        (typed_target name_at name None scope n.calls) whole)
        (t.calls + e.calls) _
        (counted_calls n (calls_of (whole ∷ [])) (t.calls + e.calls) _ (changed_calls op t e no_calls)
        (assign_are n (var_of m) named.t whole target.is_owned target.typed
        (changed_typed n.calls op t e
        (more_typed p owned n.calls more named (name_typed p owned n.calls name_at name m meant))
        (is.by scope in_scope.sound (n.calls + t.calls)) no_calls)
        (record {
          are_clean = (changed_clean op t e target_none (nil_right (t.faults ++ []) e.faults before_low), tt);
          are_low = (
            within height_limit whole.height at (nil_right (t.faults ++ [] ++ e.faults) low own),
            tt,
          );
        }) target.shaped (kind_is p owned n at kind.Assignment stands.1)))
        none

    -- the second expression of an assignment to an element
    stored_typed : (op : Option BinOp) (i target e : Typed) → IsWellTyped p owned n.calls target →
        target.calls
        ≡ i.calls
        → IsWellTyped p owned (n.calls + target.calls) e → (is_some op && nat_lt 0 i.calls) ≡ false
        → IsWellTyped p owned (n.calls + i.calls) (changed op target e)
    stored_typed None i target e h same k none = subst (λ c. IsWellTyped p owned (n.calls + c) e) same k
    stored_typed (Some op) i target e h same k none =
        let zero_calls : i.calls ≡ 0 = (let few = ltb-false 0 i.calls none in omega (arith, few)) in
        subst (λ c. IsWellTyped p owned c (typed_value op target e))
        (let place : n.calls ≡ n.calls + i.calls = omega (arith, zero_calls) in place)
        (value_typed p owned n.calls target e h k op)

    stored_calls : (op : Option BinOp) (i target e : Typed) → target.calls ≡ i.calls
        → (is_some op && nat_lt 0 i.calls) ≡ false
        → (0 + i.calls) + (changed op target e).calls ≡ target.calls + e.calls
    stored_calls None i target e same none = omega (arith, same)
    stored_calls (Some op) i target e same none = let few = ltb-false 0 i.calls none in omega
        (arith, same, few)

    element_assigned : (s : Typing) → IsWellTyping p owned s
        → PieceAt p owned f inside (assignment at name_at name (Some s) op typing) scope n
    element_assigned s index_is stands none =
        let m = meaning_of scope name in
        let i = s scope n.calls in
        let t = typed_element name_at m i in
        let e = typing scope (n.calls + t.calls) in
        let whole = changed op t e in
        let limit = limit_faults statement_limit (n.statements + 1) at in
        let low = limit_faults height_limit whole.height at in
        let index_low = limit_faults height_limit i.height at in
        let call_in = fault_if (is_some op && nat_lt 0 i.calls) CallInIndex name_at in
        let own = nil_right limit (t.faults ++ (index_low ++ call_in) ++ e.faults ++ low) none in
        let before_low = nil_left (t.faults ++ (index_low ++ call_in) ++ e.faults) low own in
        let in_place = nil_left (t.faults ++ (index_low ++ call_in)) e.faults before_low in
        let target_none = nil_left t.faults (index_low ++ call_in) in_place in
        let index_none = nil_right t.faults (index_low ++ call_in) in_place in
        let no_call = not_so (is_some op && nat_lt 0 i.calls) CallInIndex name_at
        (nil_right index_low call_in index_none) in
        let meant = meaning_is p owned scope in_scope.sound name in
        let index_typed = index_is.by scope in_scope.sound n.calls in
        let target = array_target name_at m meant (nil_left (array_name_faults m name_at)
        (i.faults ++ []) target_none) in
        let same : t.calls ≡ i.calls = omega arith in
        numbered_piece n at kind.Store (assigned_tree (next_stmt n) (typed_target name_at name
        (Some s) scope n.calls) whole)
        (t.calls + e.calls) _
        (counted_calls n (calls_of (i ∷ whole ∷ [])) (t.calls + e.calls) _
        (stored_calls op i t e same no_call)
        (store_are n (array_of m) (element_type m) whole target.is_owned target.typed i index_typed
        (stored_typed op i t e (element_typed p owned n.calls name_at m i meant index_typed) same
        (is.by scope in_scope.sound (n.calls + t.calls)) no_call)
        (record {
          are_clean = (
            nil_left i.faults [] (nil_right (array_name_faults m name_at)
                (i.faults ++ []) target_none),
            (
              changed_clean op t e target_none (nil_right (t.faults ++ (index_low ++ call_in)) e.faults
                  before_low),
              tt,
            ),
          );
          are_low = (
            within height_limit i.height at (nil_left index_low call_in index_none),
            (
              within height_limit whole.height at (nil_right (t.faults ++
                  (index_low ++ call_in) ++ e.faults) low own),
              tt,
            ),
          );
        }) target.shaped (kind_is p owned n at kind.Store stands.1)))
        none

    pub assigned : (o : Option Typing) → AreOptional o → PieceAt p owned f inside
        (assignment at name_at name o op typing) scope n
    assigned None h = variable_assigned
    assigned (Some s) h = element_assigned s h
