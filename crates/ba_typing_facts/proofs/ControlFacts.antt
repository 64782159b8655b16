-- Blocks, `if` and loops: what each adds fits the parts of the program if what they hold does.
use Rattle.std.proofs.Common.{◌≡◌, ℕ, ◌+◌, ◌≤◌, Bool, true, Option, None, Some, List, [], ◌∷◌, ◌++◌, length, length-append, refl, sym, ◌∙◌, ap, subst, arith}
use Rattle.std.proofs.lemmas.Bool.{ne_eqb}
use Rattle.ba_numbers.specs.declared.ids.VarId.{VarId}
use Rattle.ba_tree.specs.Facts.{StmtFacts, leaf_facts, around, numbered}
use Rattle.ba_tree.specs.declared.tree.Function.{Function}
use Rattle.ba_tree.specs.declared.tree.Parts.{Parts}
use Rattle.ba_tree.specs.declared.tree.StmtKind.TheVariants as kind
use Rattle.ba_typing.specs.Declarations.{Added, nothing_added, ◌and◌, Before, behind, Part, in_order, next_stmt, whole_faults}
use Rattle.ba_typing.specs.Expressions.{Typed, Typing}
use Rattle.ba_typing.specs.Faults.{limit_faults, statement_limit}
use Rattle.ba_typing.specs.Names.{Scope, inner, looping}
use Rattle.ba_typing.specs.Statements.{add_test, enclosing, one_of, add_if, add_while, add_do, add_block}
use Rattle.ba_typing.specs.declared.names.Exits.{Exits}
use Rattle.ba_tree.specs.Trees.{StmtTree, stmts_of}
use Rattle.ba_tree.specs.Trees as tree
use Rattle.ba_typing_facts.proofs.AdditionFacts.{Stands, stands_left, stands_right, InScope, in_looping, IsPiece, IsFew, few-and, few_none, PieceAt, IsPart, IsCounted, counted-and, AreParts, parts_in_order, all_facts_of}
use Rattle.ba_typing_facts.proofs.FittingFacts.{nil_left, nil_right}
use Rattle.ba_typing_facts.proofs.LeafFacts.{HasAt, one_whole, within, kind_is, leaf_are}
use Rattle.ba_typing_facts.proofs.PrimaryFacts.{IsWellTyping}
use Rattle.ba_typing_facts.proofs.SimpleFacts.{none_counted}
use Rattle.ba_typing_facts.proofs.StatementTreeFacts.{stmt_facts_of, stmts_facts-map, condition_facts}
use Rattle.ba_typing_facts.proofs.SequenceFacts.{AreStmts, stmts-append, told_first, around_are, block_are, loop_are}
use Rattle.ba_typing_facts.proofs.TreeFacts.{facts_of}
use Rattle.ba_typing_facts.proofs.OperatorFacts.{IsWellTyped}

-- BEHIND two parts

pub behind-and : (n : Before) (a b : Added) → behind n (a and b) ≡ behind (behind n a) b
behind-and n a b =
    let vs : n.variables + length (a.variables ++ b.variables) ≡
    (n.variables + length a.variables) + length b.variables
    = (let e = length-append a.variables b.variables in omega (arith, e)) in
    let ss : n.statements + length (a.statements ++ b.statements) ≡
    (n.statements + length a.statements) + length b.statements
    = (let e = length-append a.statements b.statements in omega (arith, e)) in
    let ns : n.constants + (a.constants + b.constants) ≡ (n.constants + a.constants) + b.constants
    = omega arith in
    let cs : n.calls + (a.calls + b.calls) ≡ (n.calls + a.calls) + b.calls = omega arith in
    let es : n.elements + (a.elements + b.elements) ≡ (n.elements + a.elements) + b.elements = omega arith in
    let last = behind (behind n a) b in
    ap (λ v. make v (n.constants + (a.constants + b.constants))
    (n.statements + length (a.statements ++ b.statements)) (n.calls + (a.calls + b.calls))
    (n.elements + (a.elements + b.elements))) vs
    ∙ ap (λ k. make last.variables k (n.statements + length (a.statements ++ b.statements))
    (n.calls + (a.calls + b.calls)) (n.elements + (a.elements + b.elements))) ns
    ∙ ap (λ s. make last.variables last.constants s (n.calls + (a.calls + b.calls))
    (n.elements + (a.elements + b.elements))) ss
    ∙ ap (λ c. make last.variables last.constants last.statements c
    (n.elements + (a.elements + b.elements))) cs
    ∙ ap (make last.variables last.constants last.statements last.calls) es where
      make : ℕ → ℕ → ℕ → ℕ → ℕ → Before
      make v k s c e = record { variables = v; constants = k; statements = s; calls = c; elements = e }

module _ (p : Parts) (owned : List VarId) (f : Function) where
  -- CONTROLLED STATEMENTS, which are one statement or none

  pub record IsStatement (part : Part) : Type 0 where
    pub fits : IsPart p owned f true part
    pub single : (scope : Scope) (n : Before) → length (part scope n).stmts ≤ 1

  pub one_are : {before count calls_before calls : ℕ} {exits : Exits} (ss : List StmtTree) → length ss ≤ 1
      → AreStmts p owned before count calls_before calls exits (all_facts_of p f ss)
      → AreStmts p owned before count calls_before calls exits (stmt_facts_of p f (one_of ss) ∷ [])
  one_are [] few h = block_are p owned [] h
  one_are (s ∷ []) few h = h
  one_are (s ∷ t ∷ ss) few h = absurd (let e : ⊥ = omega (arith, few) in e)

  pub in_inner : (scope : Scope) → InScope p owned f true scope → InScope p owned f true (inner scope)
  in_inner scope h = record {
    sound = record { entries = h.sound.entries; functions = h.sound.functions };
    result = h.result;
    place = ne_eqb (scope.depth + 1) 0 (λ e. omega (arith, e));
  }

  pub counted_enclosing : (typed : StmtTree) (a : Added) → IsCounted a → IsCounted (enclosing typed a)
  counted_enclosing typed a h = record { elements = h.elements; lengths = h.lengths; own = h.own }

  pub piece_enclosing : {exits : Exits} (n : Before) (typed : StmtTree) (a : Added) → IsFew n a
      → AreStmts p owned n.statements (length a.statements) n.calls a.calls exits
      (stmt_facts_of p f typed ∷ [])
      → IsPiece p owned f true exits n (enclosing typed a)
  piece_enclosing n typed a few h = record {
    stmts = h;
    entries = tt;
    few = record { variables = few.variables; statements = few.statements; elements = few.elements };
  }

  -- BLOCKS

  pub block_part : (parts : List Part) → AreParts p owned f true parts → IsStatement (add_block parts)
  block_part parts h = record {
    fits = record {
      piece = record {
        by = λ scope in_scope n stands none.
            let a = in_order parts (inner scope) n in
            let whole = parts_in_order p owned f true parts h in
            let piece = whole.piece.by (inner scope) (in_inner scope in_scope) n stands none in
            piece_enclosing n (tree.block (stmts_of a.stmts)) a piece.few
            (subst (λ xs. AreStmts p owned n.statements (length a.statements) n.calls a.calls scope.exits
            (around (leaf_facts [] [] true) xs ∷ [])) (sym (stmts_facts-map p f a.stmts))
            (block_are p owned (all_facts_of p f a.stmts) piece.stmts));
      };
      counted = λ scope n none. let a = in_order parts (inner scope) n in
          counted_enclosing (tree.block (stmts_of a.stmts)) a
          ((parts_in_order p owned f true parts h).counted (inner scope) n none);
    };
    single = λ scope n. omega arith;
  }

  -- CONDITIONS

  abbrev pub condition_leaf : Before → Typed → Bool → StmtFacts
  condition_leaf n w meets = leaf_facts (numbered (next_stmt n) kind.Condition) (facts_of p w.tree ∷ []) meets

  pub recount : {before calls_before : ℕ} {exits : Exits} {ss : List StmtFacts} (m n k l : ℕ) → m ≡ n → k ≡ l
      → AreStmts p owned before m calls_before k exits ss → AreStmts p owned before n calls_before l
      exits ss
  recount {before} {calls_before} {exits} {ss} m n k l same same_calls h =
      subst (λ c. AreStmts p owned before n calls_before c exits ss) same_calls
      (subst (λ c. AreStmts p owned before c calls_before k exits ss) same h)

  module _ (scope : Scope) (n : Before) (w : Typed) (none : (add_test w.first w scope n).faults ≡ []) where
    pub condition_are : {exits : Exits} (meets : Bool) → meets ≡ true → IsWellTyped p owned n.calls w
        → HasAt p.statements n.statements (add_test w.first w scope n).statements
        → AreStmts p owned n.statements 1 n.calls w.calls exits (condition_leaf n w meets ∷ [])
    condition_are meets met expression stands =
        let limit = limit_faults statement_limit (n.statements + 1) w.first in
        let whole = one_whole w.first w (nil_right limit (whole_faults w.first w) none) in
        recount 1 1 (0 + w.calls) w.calls refl (let e : 0 + w.calls ≡ w.calls = omega arith in e)
        (leaf_are p owned n kind.Condition (w ∷ []) (facts_of p w.tree ∷ []) meets
        ((expression.right whole.are_clean.0).fits, tt) whole.are_low met (kind_is p owned n w.first
        kind.Condition stands))

    pub condition_few : IsFew n (add_test w.first w scope n)
    condition_few = record {
      variables = λ few. omega (arith, few);
      statements = λ few. within statement_limit (n.statements + 1) w.first
          (nil_left (limit_faults statement_limit (n.statements + 1) w.first) (whole_faults w.first w) none);
      elements = λ few. omega (arith, few);
    }

  -- a condition and what it controls
  controlled_are : {exits : Exits} (n : Before) (w : Typed) (m k : ℕ) (parts : List StmtFacts)
      → AreStmts p owned n.statements 1 n.calls w.calls exits (condition_leaf n w true ∷ [])
      → AreStmts p owned (n.statements + 1) m (n.calls + w.calls) k exits parts
      → AreStmts p owned n.statements (1 + m) n.calls (w.calls + k) exits
      (condition_facts p (next_stmt n) w.tree true parts ∷ [])
  controlled_are n w m k parts h g = around_are p owned (condition_leaf n w true) parts refl refl
      (stmts-append p owned h g)

  -- C90 6.6.4.1

  module _ (test : Typing) (test_is : IsWellTyping p owned test) (holds : Part) (holds_is : IsStatement
      holds) where
    if_piece : (scope : Scope) → InScope p owned f true scope → (n : Before)
        → PieceAt p owned f true (add_if test holds None) scope n
    if_piece scope in_scope n stands none =
        let w = test scope n.calls in
        let c = add_test w.first w scope n in
        let a = holds scope (behind n c) in
        let b = nothing_added in
        let others = stands_right p owned f true n c (a and b) stands in
        let others_none = nil_right c.faults (a.faults ++ []) none in
        let c_none = nil_left c.faults (a.faults ++ []) none in
        let left = holds_is.fits.piece.by scope in_scope (behind n c) (stands_left p owned f true
        (behind n c) a b others)
        (nil_left a.faults [] others_none) in
        piece_enclosing n (tree.if_then (next_stmt n) w.tree (one_of a.stmts)) (c and (a and b))
        (few-and n c (a and b) (condition_few scope n w c_none) (few-and (behind n c) a b left.few
        (few_none (behind (behind n c) a) [])))
        (recount (1 + length a.statements) (length (c.statements ++ (a.statements ++ [])))
        (w.calls + a.calls) (w.calls + (a.calls + 0))
        (let e = length-append a.statements [] in omega (arith, e)) (omega arith)
        (controlled_are n w (length a.statements) a.calls (stmt_facts_of p f (one_of a.stmts) ∷ [])
        (condition_are scope n w c_none true refl (test_is.by scope in_scope.sound n.calls)
        (stands_left p owned f true n c (a and b) stands).1)
        (one_are a.stmts (holds_is.single scope (behind n c)) left.stmts)))

    if_counted : (scope : Scope) (n : Before) → (add_if test holds None scope n).faults ≡ []
        → IsCounted (add_if test holds None scope n)
    if_counted scope n none =
        let w = test scope n.calls in
        let c = add_test w.first w scope n in
        let a = holds scope (behind n c) in
        let others_none = nil_right c.faults (a.faults ++ []) none in
        counted_enclosing (tree.if_then (next_stmt n) w.tree (one_of a.stmts)) (c and (a and nothing_added))
        (counted-and c (a and nothing_added) (none_counted p owned f true c refl refl)
        (counted-and a nothing_added (holds_is.fits.counted scope (behind n c)
        (nil_left a.faults [] others_none))
        (none_counted p owned f true nothing_added refl refl)))

    module _ (fails : Part) (fails_is : IsStatement fails) where
      else_piece : (scope : Scope) → InScope p owned f true scope → (n : Before)
          → PieceAt p owned f true (add_if test holds (Some fails)) scope n
      else_piece scope in_scope n stands none =
          let w = test scope n.calls in
          let c = add_test w.first w scope n in
          let a = holds scope (behind n c) in
          let b = fails scope (behind n (c and a)) in
          let own = stands_left p owned f true n c (a and b) stands in
          let others = stands_right p owned f true n c (a and b) stands in
          let others_none = nil_right c.faults (a.faults ++ b.faults) none in
          let c_none = nil_left c.faults (a.faults ++ b.faults) none in
          let left = holds_is.fits.piece.by scope in_scope (behind n c)
          (stands_left p owned f true (behind n c) a b others) (nil_left a.faults b.faults others_none) in
          let right = subst (λ m. IsPiece p owned f true scope.exits m b) (behind-and n c a)
          (fails_is.fits.piece.by scope in_scope (behind n (c and a))
          (subst (λ m. Stands p owned f true m b) (sym (behind-and n c a)) (stands_right p owned f true
          (behind n c) a b others))
          (nil_right a.faults b.faults others_none)) in
          piece_enclosing n (tree.if_else (next_stmt n) w.tree (one_of a.stmts) (one_of b.stmts)) (c and
          (a and b))
          (few-and n c (a and b) (condition_few scope n w c_none) (few-and
          (behind n c) a b left.few right.few))
          (recount (1 + (length a.statements + length b.statements)) (length (c.statements ++
          (a.statements ++ b.statements)))
          (w.calls + (a.calls + b.calls)) (w.calls + (a.calls + b.calls))
          (let e = length-append a.statements b.statements in omega (arith, e)) refl
          (controlled_are n w (length a.statements + length b.statements) (a.calls + b.calls)
          (stmt_facts_of p f (one_of a.stmts) ∷ stmt_facts_of p f (one_of b.stmts) ∷ [])
          (condition_are scope n w c_none true refl (test_is.by scope in_scope.sound n.calls) own.1)
          (stmts-append p owned (one_are a.stmts (holds_is.single scope (behind n c)) left.stmts)
          (one_are b.stmts (fails_is.single scope (behind n (c and a))) right.stmts))))

      else_counted : (scope : Scope) (n : Before) → (add_if test holds (Some fails) scope n).faults ≡ []
          → IsCounted (add_if test holds (Some fails) scope n)
      else_counted scope n none =
          let w = test scope n.calls in
          let c = add_test w.first w scope n in
          let a = holds scope (behind n c) in
          let b = fails scope (behind n (c and a)) in
          let others_none = nil_right c.faults (a.faults ++ b.faults) none in
          counted_enclosing (tree.if_else (next_stmt n) w.tree (one_of a.stmts) (one_of b.stmts)) (c and
          (a and b))
          (counted-and c (a and b) (none_counted p owned f true c refl refl)
          (counted-and a b (holds_is.fits.counted scope (behind n c) (nil_left a.faults b.faults others_none))
          (fails_is.fits.counted scope (behind n (c and a)) (nil_right a.faults b.faults others_none))))

    abbrev pub IsOptional : Option Part → Type 0
    IsOptional None = Unit {0}
    IsOptional (Some part) = IsStatement part

    pub if_part : (fails : Option Part) → IsOptional fails → IsStatement (add_if test holds fails)
    if_part None h = record {
      fits = record { piece = record { by = if_piece }; counted = if_counted };
      single = λ scope n. omega arith;
    }
    if_part (Some fails) h = record {
      fits = record { piece = record { by = else_piece fails h }; counted = else_counted fails h };
      single = λ scope n. omega arith;
    }

  -- C90 6.6.5.1, 6.6.5.2

  module _ (test : Typing) (test_is : IsWellTyping p owned test) (body : Part) (body_is : IsStatement body)
    where
      while_piece : (scope : Scope) → InScope p owned f true scope → (n : Before)
          → PieceAt p owned f true (add_while test body) scope n
      while_piece scope in_scope n stands none =
          let w = test scope n.calls in
          let c = add_test w.first w scope n in
          let a = body (looping scope) (behind n c) in
          let c_none = nil_left c.faults a.faults none in
          let inside = body_is.fits.piece.by (looping scope) (in_looping p owned f true scope in_scope)
          (behind n c)
          (stands_right p owned f true n c a stands) (nil_right c.faults a.faults none) in
          piece_enclosing n (tree.while_loop (next_stmt n) w.tree (one_of a.stmts)) (c and a)
          (few-and n c a (condition_few scope n w c_none) inside.few)
          (recount (1 + length a.statements) (length (c.statements ++ a.statements)) (w.calls + a.calls)
          (w.calls + a.calls)
          (omega arith) refl
          (loop_are p owned scope.exits _
          (controlled_are n w (length a.statements) a.calls (stmt_facts_of p f (one_of a.stmts) ∷ [])
          (condition_are scope n w c_none true refl (test_is.by scope in_scope.sound n.calls)
          (stands_left p owned f true n c a stands).1)
          (one_are a.stmts (body_is.single (looping scope) (behind n c)) inside.stmts))))

      while_counted : (scope : Scope) (n : Before) → (add_while test body scope n).faults ≡ []
          → IsCounted (add_while test body scope n)
      while_counted scope n none =
          let w = test scope n.calls in
          let c = add_test w.first w scope n in
          let a = body (looping scope) (behind n c) in
          counted_enclosing (tree.while_loop (next_stmt n) w.tree (one_of a.stmts)) (c and a)
          (counted-and c a (none_counted p owned f true c refl refl)
          (body_is.fits.counted (looping scope) (behind n c) (nil_right c.faults a.faults none)))

      pub while_part : IsStatement (add_while test body)
      while_part = record {
        fits = record { piece = record { by = while_piece }; counted = while_counted };
        single = λ scope n. omega arith;
      }

      do_piece : (scope : Scope) → InScope p owned f true scope → (n : Before)
          → PieceAt p owned f true (add_do test body) scope n
      do_piece scope in_scope n stands none =
          let a = body (looping scope) n in
          let w = test scope (behind n a).calls in
          let c = add_test w.first w scope (behind n a) in
          let c_none = nil_right a.faults c.faults none in
          let inside = body_is.fits.piece.by (looping scope) (in_looping p owned f true scope in_scope) n
          (stands_left p owned f true n a c stands) (nil_left a.faults c.faults none) in
          let own = condition_leaf (behind n a) w true in
          let part = stmt_facts_of p f (one_of a.stmts) in
          piece_enclosing n (tree.do_while (next_stmt (behind n a)) w.tree (one_of a.stmts)) (a and c)
          (few-and n a c inside.few (condition_few scope (behind n a) w c_none))
          (recount (length a.statements + 1) (length (a.statements ++ c.statements)) (a.calls + w.calls)
          (a.calls + w.calls)
          (let e = length-append a.statements c.statements in omega (arith, e)) refl
          (loop_are p owned scope.exits (around own (part ∷ []))
          (around_are p owned own (part ∷ []) refl refl
          (told_first p owned (part ∷ []) (own ∷ []) []
          (stmts-append p owned (one_are a.stmts (body_is.single (looping scope) n) inside.stmts)
          (condition_are scope (behind n a) w c_none true refl (test_is.by scope in_scope.sound
          (behind n a).calls)
          (stands_right p owned f true n a c stands).1))))))

      do_counted : (scope : Scope) (n : Before) → (add_do test body scope n).faults ≡ []
          → IsCounted (add_do test body scope n)
      do_counted scope n none =
          let a = body (looping scope) n in
          let w = test scope (behind n a).calls in
          let c = add_test w.first w scope (behind n a) in
          counted_enclosing (tree.do_while (next_stmt (behind n a)) w.tree (one_of a.stmts)) (a and c)
          (counted-and a c (body_is.fits.counted (looping scope) n (nil_left a.faults c.faults none))
          (none_counted p owned f true c refl refl))

      pub do_part : IsStatement (add_do test body)
      do_part = record {
        fits = record { piece = record { by = do_piece }; counted = do_counted };
        single = λ scope n. omega arith;
      }
