-- Simple statements, and the others that hold none: what each adds fits the parts of the program.
use Rattle.std.proofs.Common.{◌≡◌, ℕ, ◌+◌, pos, Bool, true, false, not, Option, None, Some, List, [], ◌∷◌, ◌++◌, map, flat_map, refl, sym, ◌∙◌, ap, arith, sum_by, unwrap_or}
use Rattle.std.specs.List.{list_all}
use Rattle.std.specs.Option.{is_some}
use Rattle.std.proofs.lemmas.Bool.{not-false}
use Rattle.ba_numbers.specs.declared.ids.At.{At}
use Rattle.ba_numbers.specs.declared.ids.VarId.{VarId}
use Rattle.ba_numbers.specs.declared.numbers.BinOp.{BinOp}
use Rattle.ba_numbers.specs.declared.numbers.CType.{CType}
use Rattle.ba_numbers.specs.declared.numbers.CType.TheVariants.{I32}
use Rattle.ba_trees.specs.declared.tree.statements.Target.{Target}
use Rattle.ba_trees.specs.declared.tree.statements.Index.{Index}
use Rattle.ba_trees.specs.declared.tree.statements.Simple.{Simple}
use Rattle.ba_trees.specs.declared.tree.statements.Simple.TheVariants as form
use Rattle.ba_trees.specs.declared.tree.statements.ListedSimple.{ListedSimple}
use Rattle.ba_trees.specs.declared.tree.statements.Simples.{Simples}
use Rattle.ba_tree.specs.Facts.{ExprFacts, holds, own_elements, is_own_length, is_own_shape, fits_type, givens, is_call}
use Rattle.ba_tree.specs.declared.tree.Function.{Function}
use Rattle.ba_tree.specs.declared.tree.Parts.{Parts}
use Rattle.ba_tree.specs.declared.tree.StmtKind.TheVariants as kind
use Rattle.ba_tree.specs.declared.tree.Variable.{Variable}
use Rattle.ba_typing.specs.Declarations.{Added, Before, next_stmt, whole_faults}
use Rattle.ba_typing.specs.Declarations as add
use Rattle.ba_typing.specs.Expressions.{Typed, Typing, typed_conditional, typed_arguments, typed_call, trees_of_args, expressions_of_args, tree_as}
use Rattle.ba_typing.specs.Faults.{fault_if, limit_faults, statement_limit}
use Rattle.ba_typing.specs.Names.{Scope, jump_of, name_of}
use Rattle.ba_typing.specs.Statements.{index_typing, add_assignment, one, add_call, operator_at, add_simple, add_simples, unnumbered, add_return, add_return_none, add_assert, add_printf, add_break, add_continue, add_jump, add_jump_with}
use Rattle.ba_tree.specs.Trees.{StmtTree}
use Rattle.ba_tree.specs.Trees as tree
use Rattle.ba_typing.specs.declared.fault.Cause.TheVariants.{WrongKind, BreakOutside}
use Rattle.ba_typing.specs.declared.fault.Fault.{Fault}
use Rattle.ba_typing_facts.proofs.AdditionFacts.{InScope, IsPiece, few_none, PieceAt, IsPart, IsCounted, AreParts, parts_in_order, all_facts_of}
use Rattle.ba_typing_facts.proofs.ExpressionFacts.{conditional_typing, arguments_typing}
use Rattle.ba_typing_facts.proofs.FittingFacts.{calls_of, nil_left, nil_right}
use Rattle.ba_typing_facts.proofs.LeafFacts.{one_whole, all_whole, kind_is, each_typed, each_fit, leaf_are, bare_are, break_are, continue_are, calling_are}
use Rattle.ba_typing_facts.proofs.PrimaryFacts.{IsWellTyping, AreWellTypings, not_so, call_is}
use Rattle.ba_typing_facts.proofs.SequenceFacts.{AreStmts}
use Rattle.ba_typing_facts.proofs.TreeFacts.{facts_of, arg_facts_of}
use Rattle.ba_typing_facts.proofs.OperatorFacts.{as_typed, constant_typed, same_type-of, AreClean}
use Rattle.ba_tokens.specs.declared.token.Token.{Token}
use Rattle.ba_typing.specs.declared.names.Jump.{Jump}
use Rattle.ba_typing.specs.declared.names.Jump.TheVariants as jump
use Rattle.ba_typing.specs.declared.names.Exits.{Exits}
use Rattle.ba_typing_facts.proofs.AssignmentFacts.{assigned, AreOptional, numbered_piece, counted_calls}

module _ (p : Parts) (owned : List VarId) (f : Function) (inside : Bool) where
  -- what adds no variable counts none
  pub none_counted : (a : Added) → a.variables ≡ [] → a.elements ≡ 0 → IsCounted a
  none_counted a vs es = record {
    elements = ap (sum_by (λ (v : Variable). own_elements v.shape)) vs ∙ sym es;
    lengths = ap (list_all is_own_length) vs;
    own = ap (list_all (λ (v : Variable). is_own_shape v.shape)) vs;
  }

  -- ASSIGNMENTS AND STEPS

  pub one_typing : (at : At) → IsWellTyping p owned (one at)
  one_typing at = record {
    by = λ scope sound before. constant_typed p owned before at I32 (pos 1) refl;
    no_array = λ scope before t v wrong. cc;
  }

  index_is : (o : Option Index) → AreOptional p owned f inside (index_typing o)
  index_is None = tt
  index_is (Some i) = conditional_typing p owned i.value.value

  assignment_part : (at : At) (target : Target) (op : Option BinOp) (typing : Typing) →
      IsWellTyping p owned typing
      → IsPart p owned f inside (add_assignment at target op typing)
  assignment_part at target op typing h = record {
    piece = record {
      by = λ scope in_scope n. assigned p owned f inside at target.name.at
          (name_of target.name) op typing h scope
          in_scope n (index_typing target.index) (index_is target.index);
    };
    counted = λ scope n none. none_counted _ refl refl;
  }

  -- CALLS

  clean_faults : (es : List Typed) → AreClean es → flat_map (λ (e : Typed). e.faults) es ≡ []
  clean_faults [] h = refl
  clean_faults (e ∷ es) h = ap (λ fs. fs ++ flat_map (λ (e : Typed). e.faults) es) h.0 ∙ clean_faults es h.1

  call_at : (at : At) (name : List ℕ) (typings : List Typing) → AreWellTypings p owned typings
      → (scope : Scope) → InScope p owned f inside scope → (n : Before)
      → PieceAt p owned f inside (add_call at name typings) scope n
  call_at at name typings are scope in_scope n stands none =
      let c = typed_call false at name typings scope n.calls in
      let es = expressions_of_args c.args in
      let limit = limit_faults statement_limit (n.statements + 1) at in
      let in_args = flat_map (whole_faults at) es in
      let own = nil_right limit (c.faults ++ in_args) none in
      let whole = all_whole at es (nil_right c.faults in_args own) in
      let h = call_is p owned scope in_scope.sound false at typings are n.calls name
      (nil_left c.faults in_args own)
      (clean_faults es whole.are_clean) in
      numbered_piece p owned f inside n at kind.Call (tree.call_stmt (next_stmt n) c.call c.function
      (trees_of_args c.args))
      (1 + calls_of es) (c.faults ++ in_args)
      (calling_are p owned n es (givens (map (arg_facts_of p) (trees_of_args c.args)))
      (is_call p c.function (map (arg_facts_of p) (trees_of_args c.args))) c.call refl h.args_fit
      whole.are_low h.calls
      (kind_is p owned n at kind.Call stands.1))
      none

  call_part : (at : At) (name : List ℕ) (typings : List Typing) → AreWellTypings p owned typings
      → IsPart p owned f inside (add_call at name typings)
  call_part at name typings are = record {
    piece = record { by = call_at at name typings are };
    counted = λ scope n none. none_counted _ refl refl;
  }

  pub simple_part : (s : Simple) → IsPart p owned f inside (add_simple s)
  simple_part (form.Assign target operator value) = assignment_part target.name.at target
      (operator_at operator) (typed_conditional value) (conditional_typing p owned value)
  simple_part (form.Step target operator) = assignment_part target.name.at target
      (operator_at operator) (one operator.at) (one_typing operator.at)
  simple_part (form.PrefixStep operator target) = assignment_part operator.at target
      (operator_at operator) (one operator.at) (one_typing operator.at)
  simple_part (form.Call name opener arguments closer) = call_part name.at (name_of name)
      (typed_arguments arguments) (arguments_typing p owned arguments)

  simple_parts : (ss : List ListedSimple)
      → AreParts p owned f inside (map (λ (l : ListedSimple). add_simple l.simple) ss)
  simple_parts [] = tt
  simple_parts (s ∷ ss) = (simple_part s.simple, simple_parts ss)

  pub simples_part : (s : Simples) → IsPart p owned f inside (add_simples s)
  simples_part s = parts_in_order p owned f inside (map (λ (l : ListedSimple). add_simple l.simple)
      s.all.items)
      (simple_parts s.all.items)

  -- STATEMENTS WITH ONE EXPRESSION OR SOME

  return_meets : (r : Option CType) (e : Typed) (x : ExprFacts) → not (is_some r) ≡ false → x.t
      ≡ unwrap_or r I32
      → holds (λ t. fits_type t x) r ≡ true
  return_meets None e x some is = cc
  return_meets (Some t) e x some is = same_type-of is

  return_at : (at : At) (typing : Typing) → IsWellTyping p owned typing
      → (scope : Scope) → InScope p owned f inside scope → (n : Before)
      → PieceAt p owned f inside (add_return at typing) scope n
  return_at at typing is scope in_scope n stands none =
      let e = typing scope n.calls in
      let limit = limit_faults statement_limit (n.statements + 1) at in
      let void_fault = fault_if (not (is_some scope.result)) WrongKind at in
      let own = nil_right limit (void_fault ++ whole_faults at e) none in
      let whole = one_whole at e (nil_right void_fault (whole_faults at e) own) in
      let t = unwrap_or scope.result I32 in
      let x = as_typed p owned e t ((is.by scope in_scope.sound n.calls).right whole.are_clean.0) in
      numbered_piece p owned f inside n at kind.Return (tree.return_value (next_stmt n) (tree_as t e)) e.calls
      (void_fault ++ whole_faults at e)
      (counted_calls p owned f inside n (calls_of (e ∷ [])) e.calls _ (let c : 0 + e.calls
      ≡ e.calls = omega arith in c)
      (leaf_are p owned n kind.Return (e ∷ []) (facts_of p (tree_as t e) ∷ [])
      (holds (λ t. fits_type t (facts_of p (tree_as (unwrap_or scope.result I32) e))) f.result)
      (x.fits, tt) whole.are_low
      (ap (holds (λ t. fits_type t (facts_of p (tree_as (unwrap_or scope.result I32) e))))
      (sym in_scope.result)
      ∙ return_meets scope.result e (facts_of p (tree_as t e))
      (not_so (not (is_some scope.result)) WrongKind at (nil_left void_fault
      (whole_faults at e) own)) x.typed)
      (kind_is p owned n at kind.Return stands.1)))
      none

  bare_piece : {exits : Exits} (n : Before) (typed : StmtTree) (faults : List Fault)
      → AreStmts p owned n.statements 0 n.calls 0 exits (all_facts_of p f (typed ∷ []))
      → IsPiece p owned f inside exits n (unnumbered typed faults)
  bare_piece n typed faults h = let few = few_none n faults in record {
    stmts = h;
    entries = tt;
    few = record { variables = few.variables; statements = few.statements; elements = few.elements };
  }

  return_part : (at : At) (typing : Typing) → IsWellTyping p owned typing
      → IsPart p owned f inside (add_return at typing)
  return_part at typing h = record {
    piece = record { by = return_at at typing h };
    counted = λ scope n none. none_counted _ refl refl;
  }

  return_none_part : IsPart p owned f inside add_return_none
  return_none_part = record {
    piece = record {
      by = λ scope in_scope n stands none. bare_piece n tree.return_none []
          (bare_are p owned true refl);
    };
    counted = λ scope n none. none_counted _ refl refl;
  }

  assert_at : (at : At) (typing : Typing) → IsWellTyping p owned typing
      → (scope : Scope) → InScope p owned f inside scope → (n : Before)
      → PieceAt p owned f inside (add_assert at typing) scope n
  assert_at at typing is scope in_scope n stands none =
      let e = typing scope n.calls in
      let limit = limit_faults statement_limit (n.statements + 1) at in
      let whole = one_whole at e (nil_right limit (whole_faults at e) none) in
      let x = (is.by scope in_scope.sound n.calls).right whole.are_clean.0 in
      numbered_piece p owned f inside n at kind.Assert (tree.assert (next_stmt n) e.tree) e.calls
      (whole_faults at e)
      (counted_calls p owned f inside n (calls_of (e ∷ [])) e.calls _ (let c : 0 + e.calls
      ≡ e.calls = omega arith in c)
      (leaf_are p owned n kind.Assert (e ∷ []) (facts_of p e.tree ∷ []) true (x.fits, tt) whole.are_low refl
      (kind_is p owned n at kind.Assert stands.1)))
      none

  pub assert_part : (at : At) (typing : Typing) → IsWellTyping p owned typing → IsPart p owned f inside
      (add_assert at typing)
  assert_part at typing h = record {
    piece = record { by = assert_at at typing h };
    counted = λ scope n none. none_counted _ refl refl;
  }

  printf_at : (at : At) (typings : List Typing) → AreWellTypings p owned typings
      → (scope : Scope) → InScope p owned f inside scope → (n : Before)
      → PieceAt p owned f inside (add_printf at typings) scope n
  printf_at at typings are scope in_scope n stands none =
      let es = add.typed_each scope n.calls typings in
      let limit = limit_faults statement_limit (n.statements + 1) at in
      let whole = all_whole at es (nil_right limit (flat_map (whole_faults at) es) none) in
      numbered_piece p owned f inside n at kind.Call (tree.print (next_stmt n) (map
      (λ (e : Typed). e.tree) es)) (calls_of es)
      (flat_map (whole_faults at) es)
      (leaf_are p owned n kind.Call es (map (facts_of p) (map (λ (e : Typed). e.tree) es)) true
      (each_fit p owned (λ (e : Typed). e.tree) (λ e before h. h.fits) n.calls es
      (each_typed p owned scope in_scope.sound n.calls typings are) whole.are_clean) whole.are_low refl
      (kind_is p owned n at kind.Call stands.1))
      none

  pub printf_part : (at : At) (typings : List Typing) → AreWellTypings p owned typings →
      IsPart p owned f inside
      (add_printf at typings)
  printf_part at typings are = record {
    piece = record { by = printf_at at typings are };
    counted = λ scope n none. none_counted _ refl refl;
  }

  break_part : (at : At) → IsPart p owned f inside (add_break at)
  break_part at = record {
    piece = record {
      by = λ scope in_scope n stands none. bare_piece n tree.break_loop _ (break_are p owned
          (not-false scope.exits.breaks (not_so (not scope.exits.breaks) BreakOutside at none)));
    };
    counted = λ scope n none. none_counted _ refl refl;
  }

  continue_part : (at : At) → IsPart p owned f inside (add_continue at)
  continue_part at = record {
    piece = record {
      by = λ scope in_scope n stands none. bare_piece n tree.continue_loop _ (continue_are p owned
          (not-false scope.exits.continues (not_so (not scope.exits.continues) BreakOutside at none)));
    };
    counted = λ scope n none. none_counted _ refl refl;
  }

  jump_part : (at : At) (j : Jump) → IsPart p owned f inside (add_jump at j)
  jump_part at jump.Break = break_part at
  jump_part at jump.Continue = continue_part at
  jump_part at jump.Return = return_none_part

  pub jump_with_part : (keyword : Token) (o : Option Typing) → AreOptional p owned f inside o
      → IsPart p owned f inside (add_jump_with keyword o)
  jump_with_part keyword None h = jump_part keyword.at (jump_of keyword)
  jump_with_part keyword (Some typing) h = return_part keyword.at typing h
