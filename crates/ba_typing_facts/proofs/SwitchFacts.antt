-- `switch`: its labels differ, are of its type and lie in its body, and what it adds fits the parts of the
-- program (C90 6.6.4.2).
use Rattle.std.proofs.Common.{◌≡◌, ℕ, ◌+◌, ◌≤◌, ℤ, Bool, true, false, not, ◌||◌, ◌&&◌, cond, Option, None, Some, List, [], ◌∷◌, ◌++◌, map, length, length-append, refl, sym, ◌∙◌, ap, subst, arith, option_map, unwrap_or, nat_le}
use Rattle.std.specs.List.{list_all, list_any}
use Rattle.std.specs.Ordering.{int_eq}
use Rattle.std.proofs.lemmas.Bool.{and_from, and_parts, le-leb, leb-true, not_from_false, not-true, or_from, or_parts}
use Rattle.std.proofs.lemmas.Cmp.{int_eq_equiv}
use Rattle.std.proofs.lemmas.List.{length-map, map-append}
use Rattle.std.proofs.lemmas.List.Folds.{list_all-append, list_any-append}
use Rattle.ba_numbers.specs.Numbers.{converted, is_in}
use Rattle.ba_numbers.specs.Types.{is_promoted, promoted}
use Rattle.ba_numbers.specs.declared.ids.At.{At}
use Rattle.ba_numbers.specs.declared.ids.VarId.{VarId}
use Rattle.ba_numbers.specs.declared.numbers.CType.{CType}
use Rattle.ba_trees.specs.declared.tree.statements.Label.{Label}
use Rattle.ba_trees.specs.declared.tree.statements.Label.TheVariants as label
use Rattle.ba_tree.specs.Facts.{StmtFacts, leaf_facts, around, numbered, fits_type, are_labels, is_start, values_differ}
use Rattle.ba_tree.specs.declared.tree.Function.{Function}
use Rattle.ba_tree.specs.declared.tree.Parts.{Parts}
use Rattle.ba_tree.specs.declared.tree.Start.{Start}
use Rattle.ba_tree.specs.declared.tree.StmtKind.TheVariants as kind
use Rattle.ba_tree.specs.Trees.{stmts_of}
use Rattle.ba_tree.specs.Trees as tree
use Rattle.ba_typing.specs.Declarations.{◌and◌, Before, behind, in_order, next_stmt, whole_faults}
use Rattle.ba_typing.specs.Expressions.{Typed, Typing, typed_conditional, tree_as, constant_value}
use Rattle.ba_typing.specs.Faults.{limit_faults, statement_limit, height_limit}
use Rattle.ba_typing.specs.Names.{Scope, knowing, switching}
use Rattle.ba_typing.specs.Statements.{no_labels, has_value, label_faults, with_start, add_label, GroupParts, add_group, add_groups, add_controlling, add_switch}
use Rattle.ba_typing.specs.declared.fault.Cause.TheVariants.{Twice}
use Rattle.ba_typing.specs.declared.meanings.Labels.{Labels}
use Rattle.ba_typing_facts.proofs.AdditionFacts.{Stands, stands_left, stands_right, InScope, in_knowing, in_switching, IsPiece, piece-and, piece_none, few-and, few_none, PieceAt, IsCounted, counted-and, counted_none, AreParts, parts_in_order, all_facts_of}
use Rattle.ba_typing_facts.proofs.ControlFacts.{IsStatement, counted_enclosing, piece_enclosing, recount, condition_few}
use Rattle.ba_typing_facts.proofs.EnumeratorFacts.{constant_in}
use Rattle.ba_typing_facts.proofs.ExpressionFacts.{conditional_typing}
use Rattle.ba_typing_facts.proofs.FittingFacts.{nil_left, nil_right}
use Rattle.ba_typing_facts.proofs.LeafFacts.{one_whole, kind_is, leaf_are}
use Rattle.ba_typing_facts.proofs.LengthFacts.{constant_calls}
use Rattle.ba_typing_facts.proofs.OperatorFacts.{as_typed, promoted_is, same_type-of}
use Rattle.ba_typing_facts.proofs.PrimaryFacts.{IsWellTyping, not_so}
use Rattle.ba_typing_facts.proofs.SequenceFacts.{AreStmts, stmts_none, stmts-append, around_are, switch_are}
use Rattle.ba_typing_facts.proofs.SimpleFacts.{none_counted}
use Rattle.ba_typing_facts.proofs.StatementTreeFacts.{stmt_facts_of, stmts_facts-map, switch_facts}
use Rattle.ba_typing_facts.proofs.TreeFacts.{facts_of}

-- VALUES

abbrev values_of : List Start → List ℤ
values_of = map (λ (s : Start). s.value)

any_value : (starts : List Start) (z : ℤ) → list_any (λ y. int_eq y z) (values_of starts) ≡ has_value starts z
any_value [] z = refl
any_value (s ∷ ss) z = ap (λ b. int_eq s.value z || b) (any_value ss z)

-- a value that is none of these comes after them
one_more : (zs : List ℤ) (z : ℤ) → list_any (λ y. int_eq y z) zs ≡ false → values_differ zs ≡ true
    → values_differ (zs ++ z ∷ []) ≡ true
one_more [] z new differ = refl
one_more (y ∷ ys) z new differ =
    let apart = or_parts (int_eq y z) (list_any (λ x. int_eq x z) ys) new in
    let both = and_parts (not (list_any (λ x. int_eq x y) ys)) (values_differ ys) differ in
    let other : list_any (λ x. int_eq x y) (ys ++ z ∷ []) ≡ false =
    (list_any-append (λ x. int_eq x y) ys (z ∷ [])
    ∙ or_from (list_any (λ x. int_eq x y) ys) (int_eq z y || false)
    (not-true (list_any (λ x. int_eq x y) ys) both.0)
    (or_from (int_eq z y) false (int_eq_equiv.symm z y ∙ apart.0) refl)) in
    and_from _ _ (not_from_false (list_any (λ x. int_eq x y) (ys ++ z ∷ [])) other)
    (one_more ys z apart.1 both.1)

-- LABELS

-- the labels so far, in front of which so many statements stand: their values differ and are of this type
pub record AreSoFar (t : CType) (count : ℕ) (labels : Labels) : Type 0 where
  pub differ : values_differ (values_of labels.starts) ≡ true
  pub starts : list_all (is_start t count) labels.starts ≡ true
  pub other : unwrap_or labels.other 0 ≤ count

none_so_far : (t : CType) → AreSoFar t 0 no_labels
none_so_far t = record { differ = refl; starts = refl; other = omega arith }

pub labels_are : (t : CType) (count : ℕ) (labels : Labels) → AreSoFar t count labels
    → are_labels t count labels.starts labels.other ≡ true
labels_are t count labels h = and_from _ _ (and_from _ _ h.differ h.starts)
    (le-leb (unwrap_or labels.other 0) count h.other)

starts_later : (t : CType) (count more : ℕ) → count ≤ more → (starts : List Start)
    → list_all (is_start t count) starts ≡ true → list_all (is_start t more) starts ≡ true
starts_later t count more few [] h = refl
starts_later t count more few (s ∷ ss) h =
    let both = and_parts (is_start t count s) (list_all (is_start t count) ss) h in
    let here = and_parts (is_in t s.value) (nat_le s.at count) both.0 in
    let low = leb-true s.at count here.1 in
    and_from _ _ (and_from _ _ here.0 (le-leb s.at more (omega (arith, few, low))))
    (starts_later t count more few ss both.1)

later : (t : CType) (count more : ℕ) (labels : Labels) → count ≤ more → AreSoFar t count labels
    → AreSoFar t more labels
later t count more labels few h = let low = h.other in record {
  differ = h.differ;
  starts = starts_later t count more few labels.starts h.starts;
  other = omega (arith, few, low);
}

start_so_far : (t : CType) (count : ℕ) (labels : Labels) (z : ℤ) → is_in t z ≡ true
    → has_value labels.starts z ≡ false → AreSoFar t count labels
    → AreSoFar t count (with_start labels (Some z) count)
start_so_far t count labels z within new h = let one : Start = record { value = z; at = count } in record {
  differ = ap values_differ (map-append (λ (s : Start). s.value) labels.starts (one ∷ []))
      ∙ one_more (values_of labels.starts) z (any_value labels.starts z ∙ new) h.differ;
  starts = list_all-append (is_start t count) labels.starts (one ∷ [])
      ∙ and_from _ _ h.starts (and_from _ _ (and_from _ _ within (le-leb count count (omega arith))) refl);
  other = h.other;
}

value_so_far : (t : CType) (count : ℕ) (labels : Labels) (at : At) (o : Option ℤ)
    → ((z : ℤ) → o ≡ Some z → is_in t z ≡ true) → label_faults labels o at ≡ [] → AreSoFar t count labels
    → AreSoFar t count (with_start labels o count)
value_so_far t count labels at None within none h = cc
value_so_far t count labels at (Some z) within none h = start_so_far t count labels z (within z refl)
    (not_so (has_value labels.starts z) Twice at none) h

-- a label without a fault is constant
label_constant : (t : CType) (labels : Labels) (at : At) (e : Typed)
    → label_faults labels (constant_value t e) at ≡ [] → e.is_constant ≡ true
label_constant t labels at e = from e.is_constant where
  from : (b : Bool) → label_faults labels (cond b (option_map (converted t) e.value) None) at ≡ [] → b ≡ true
  from true none = refl
  from false none = cc

label_so_far : (t : CType) (at : At) (l : Label) (labels : Labels) (count : ℕ) (scope : Scope) (calls : ℕ)
    → (add_label t at l labels count scope calls).added.faults ≡ [] → AreSoFar t count labels
    → AreSoFar t count (add_label t at l labels count scope calls).labels
label_so_far t at (label.Case keyword value colon) labels count scope calls none h =
    let e = typed_conditional value scope calls in
    value_so_far t count labels e.first (constant_value t e) (constant_in t e)
    (nil_right (whole_faults at e) (label_faults labels (constant_value t e) e.first) none) h
label_so_far t at (label.Default keyword colon) labels count scope calls none h = record {
  differ = h.differ;
  starts = h.starts;
  other = omega arith;
}

groups_so_far : (t : CType) (at : At) (gs : List GroupParts) (labels : Labels) (count : ℕ) (scope : Scope)
    (n : Before) → (add_groups t at gs labels count scope n).added.faults ≡ [] → AreSoFar t count labels
    → AreSoFar t (count + length (add_groups t at gs labels count scope n).added.stmts)
    (add_groups t at gs labels count scope n).labels
groups_so_far t at [] labels count scope n none h = later t count (count + 0) labels (omega arith) h
groups_so_far t at (g ∷ gs) labels count scope n none h =
    let l = add_label t at g.label labels count scope n.calls in
    let statements = in_order g.statements scope (behind n l.added) in
    let a = add_group t at g labels count scope n in
    let inner = knowing a.added.entries scope in
    let here = count + length a.added.stmts in
    let b = add_groups t at gs a.labels here inner (behind n a.added) in
    let group_none = nil_left a.added.faults b.added.faults none in
    let own = label_so_far t at g.label labels count scope n.calls
    (nil_left l.added.faults statements.faults group_none) h in
    let rest = groups_so_far t at gs a.labels here inner (behind n a.added)
    (nil_right a.added.faults b.added.faults none)
    (later t count here a.labels (omega arith) own) in
    let lengths = length-append a.added.stmts b.added.stmts in
    later t (here + length b.added.stmts) (count + length (a.added.stmts ++ b.added.stmts)) b.labels
    (omega (arith, lengths)) rest

module _ (p : Parts) (owned : List VarId) (f : Function) where
  -- GROUPS

  -- a label adds no statement, and if it has no fault no call
  label_piece : (t : CType) (at : At) (l : Label) (labels : Labels) (count : ℕ) (scope : Scope)
      → InScope p owned f true scope → (n : Before)
      → (add_label t at l labels count scope n.calls).added.faults ≡ []
      → IsPiece p owned f true scope.exits n (add_label t at l labels count scope n.calls).added
  label_piece t at (label.Case keyword value colon) labels count scope in_scope n none =
      let e = typed_conditional value scope n.calls in
      let whole = whole_faults at e in
      let faults = label_faults labels (constant_value t e) e.first in
      let typed = (conditional_typing p owned value).by scope in_scope.sound n.calls in
      let no_calls = constant_calls p owned n.calls e typed
      (nil_right (limit_faults height_limit e.height at) e.faults (nil_left whole faults none))
      (label_constant t labels e.first e (nil_right whole faults none)) in
      let few = few_none n [] in record {
        stmts = subst (λ k. AreStmts p owned n.statements 0 n.calls k scope.exits []) (sym no_calls)
            (stmts_none p owned n.statements n.calls scope.exits);
        entries = tt;
        few = record { variables = few.variables; statements = few.statements; elements = few.elements };
      }
  label_piece t at (label.Default keyword colon) labels count scope in_scope n none =
      piece_none p owned f true n _

  label_counted : (t : CType) (at : At) (l : Label) (labels : Labels) (count : ℕ) (scope : Scope)
      (calls : ℕ) → IsCounted (add_label t at l labels count scope calls).added
  label_counted t at (label.Case keyword value colon) labels count scope calls =
      none_counted p owned f true _ refl refl
  label_counted t at (label.Default keyword colon) labels count scope calls =
      none_counted p owned f true _ refl refl

  abbrev pub IsGroup : GroupParts → Type 0
  IsGroup g = AreParts p owned f true g.statements

  abbrev pub AreGroups : List GroupParts → Type 0
  AreGroups [] = Unit {0}
  AreGroups (g ∷ gs) = IsGroup g × AreGroups gs

  group_piece : (t : CType) (at : At) (g : GroupParts) → IsGroup g
      → (labels : Labels) (count : ℕ) (scope : Scope) → InScope p owned f true scope → (n : Before)
      → Stands p owned f true n (add_group t at g labels count scope n).added
      → (add_group t at g labels count scope n).added.faults ≡ []
      → IsPiece p owned f true scope.exits n (add_group t at g labels count scope n).added
  group_piece t at g are labels count scope in_scope n stands none =
      let l = add_label t at g.label labels count scope n.calls in
      let b = in_order g.statements scope (behind n l.added) in
      piece-and p owned f true n l.added b
      (label_piece t at g.label labels count scope in_scope n (nil_left l.added.faults b.faults none))
      ((parts_in_order p owned f true g.statements are).piece.by scope in_scope (behind n l.added)
      (stands_right p owned f true n l.added b stands) (nil_right l.added.faults b.faults none))

  groups_piece : (t : CType) (at : At) (gs : List GroupParts) → AreGroups gs → (labels : Labels) (count : ℕ)
      (scope : Scope) → InScope p owned f true scope → (n : Before)
      → Stands p owned f true n (add_groups t at gs labels count scope n).added
      → (add_groups t at gs labels count scope n).added.faults ≡ []
      → IsPiece p owned f true scope.exits n (add_groups t at gs labels count scope n).added
  groups_piece t at [] are labels count scope in_scope n stands none = piece_none p owned f true n []
  groups_piece t at (g ∷ gs) are labels count scope in_scope n stands none =
      let a = add_group t at g labels count scope n in
      let inner = knowing a.added.entries scope in
      let b = add_groups t at gs a.labels (count + length a.added.stmts) inner (behind n a.added) in
      let first = group_piece t at g are.0 labels count scope in_scope n
      (stands_left p owned f true n a.added b.added stands)
      (nil_left a.added.faults b.added.faults none) in
      piece-and p owned f true n a.added b.added first
      (groups_piece t at gs are.1 a.labels (count + length a.added.stmts) inner
      (in_knowing p owned f true a.added.entries scope in_scope first.entries) (behind n a.added)
      (stands_right p owned f true n a.added b.added stands)
      (nil_right a.added.faults b.added.faults none))

  groups_counted : (t : CType) (at : At) (gs : List GroupParts) → AreGroups gs → (labels : Labels)
      (count : ℕ) (scope : Scope) (n : Before)
      → (add_groups t at gs labels count scope n).added.faults ≡ []
      → IsCounted (add_groups t at gs labels count scope n).added
  groups_counted t at [] are labels count scope n none = counted_none []
  groups_counted t at (g ∷ gs) are labels count scope n none =
      let l = add_label t at g.label labels count scope n.calls in
      let statements = in_order g.statements scope (behind n l.added) in
      let a = add_group t at g labels count scope n in
      let inner = knowing a.added.entries scope in
      let b = add_groups t at gs a.labels (count + length a.added.stmts) inner (behind n a.added) in
      counted-and a.added b.added
      (counted-and l.added statements (label_counted t at g.label labels count scope n.calls)
      ((parts_in_order p owned f true g.statements are.0).counted scope (behind n l.added)
      (nil_right l.added.faults statements.faults (nil_left a.added.faults b.added.faults none))))
      (groups_counted t at gs are.1 a.labels (count + length a.added.stmts) inner (behind n a.added)
      (nil_right a.added.faults b.added.faults none))

  -- THE STATEMENT

  abbrev switch_leaf : Before → Typed → Bool → StmtFacts
  switch_leaf n w meets = leaf_facts (numbered (next_stmt n) kind.Switch)
      (facts_of p (tree_as (promoted w.t) w) ∷ []) meets

  module _ (on : Typing) (on_is : IsWellTyping p owned on) (gs : List GroupParts) (are : AreGroups gs) where
    switch_piece : (scope : Scope) → InScope p owned f true scope → (n : Before)
        → PieceAt p owned f true (add_switch on gs) scope n
    switch_piece scope in_scope n stands none =
        let w = on scope n.calls in
        let t = promoted w.t in
        let c = add_controlling w.first w scope n in
        let b = add_groups t w.first gs no_labels 0 (switching scope) (behind n c) in
        let a = b.added in
        let c_none = nil_left c.faults a.faults none in
        let a_none = nil_right c.faults a.faults none in
        let inside = groups_piece t w.first gs are no_labels 0 (switching scope)
        (in_switching p owned f true scope in_scope) (behind n c)
        (stands_right p owned f true n c a stands) a_none in
        let limit = limit_faults statement_limit (n.statements + 1) w.first in
        let whole = one_whole w.first w (nil_right limit (whole_faults w.first w) c_none) in
        let x = as_typed p owned w t ((on_is.by scope in_scope.sound n.calls).right whole.are_clean.0) in
        let parts = all_facts_of p f a.stmts in
        let lengths = length-map a.stmts (stmt_facts_of p f) in
        let labels = later t (0 + length a.stmts) (length parts) b.labels (omega (arith, lengths))
        (groups_so_far t w.first gs no_labels 0 (switching scope) (behind n c) a_none (none_so_far t)) in
        let meets = is_promoted t && fits_type t (facts_of p (tree_as t w))
        && are_labels t (length parts) b.labels.starts b.labels.other in
        let met : meets ≡ true = and_from _ _ (and_from _ _ (promoted_is w.t) (same_type-of x.typed))
        (labels_are t (length parts) b.labels labels) in
        let own = switch_leaf n w meets in
        let few = condition_few p owned f scope n w c_none in
        piece_enclosing p owned f n
        (tree.switch (next_stmt n) t (tree_as t w) b.labels.starts b.labels.other (stmts_of a.stmts))
        (c and a) (few-and n c a (record {
          variables = few.variables;
          statements = few.statements;
          elements = few.elements;
        }) inside.few)
        (recount p owned f (1 + length a.statements) (length (c.statements ++ a.statements))
        (w.calls + a.calls) (w.calls + a.calls) (omega arith) refl
        (subst (λ xs. AreStmts p owned n.statements (1 + length a.statements) n.calls (w.calls + a.calls)
        scope.exits (switch_facts p (next_stmt n) t (tree_as t w) b.labels.starts b.labels.other xs ∷ []))
        (sym (stmts_facts-map p f a.stmts))
        (switch_are p owned (around own parts) (around_are p owned own parts refl refl
        (stmts-append p owned
        (recount p owned f 1 1 (0 + w.calls) w.calls refl (let e : 0 + w.calls ≡ w.calls = omega arith in e)
        (leaf_are p owned n kind.Switch (w ∷ []) (facts_of p (tree_as t w) ∷ []) meets (x.fits, tt)
        whole.are_low met
        (kind_is p owned n w.first kind.Switch (stands_left p owned f true n c a stands).1)))
        inside.stmts)))))

    switch_counted : (scope : Scope) (n : Before) → (add_switch on gs scope n).faults ≡ []
        → IsCounted (add_switch on gs scope n)
    switch_counted scope n none =
        let w = on scope n.calls in
        let t = promoted w.t in
        let c = add_controlling w.first w scope n in
        let b = add_groups t w.first gs no_labels 0 (switching scope) (behind n c) in
        counted_enclosing p owned f
        (tree.switch (next_stmt n) t (tree_as t w) b.labels.starts b.labels.other (stmts_of b.added.stmts))
        (c and b.added)
        (counted-and c b.added (none_counted p owned f true c refl refl)
        (groups_counted t w.first gs are no_labels 0 (switching scope) (behind n c)
        (nil_right c.faults b.added.faults none)))

    pub switch_part : IsStatement p owned f (add_switch on gs)
    switch_part = record {
      fits = record { piece = record { by = switch_piece }; counted = switch_counted };
      single = λ scope n. omega arith;
    }
