-- What a `switch` adds, from what the code makes of its controlling expression and its labels.
use Rattle.std.proofs.Common.{◌≡◌, ℕ, ◌+◌, ◌<◌, ◌≤◌, ℤ, Bool, Option, Some, Result, Ok, Err, List, [], ◌∷◌, ◌++◌, map, length, drop, get_or, refl, sym, ◌∙◌, ap, subst, add-zero, append-nil, length-append}
use Rattle.std.specs.Option.{is_some}
use Rattle.std.specs.Prelude.{OnOk}
use Rattle.ba_numbers.specs.Types.{promoted}
use Rattle.ba_numbers.specs.declared.ids.At.{At}
use Rattle.ba_numbers.specs.declared.ids.StmtId.{StmtId}
use Rattle.ba_numbers.specs.declared.numbers.CType.{CType}
use Rattle.ba_trees.specs.declared.tree.statements.Label.{Label}
use Rattle.ba_trees.specs.declared.tree.statements.Label.TheVariants as label
use Rattle.ba_tree.specs.declared.tree.Expr.{Expr}
use Rattle.ba_tree.specs.declared.tree.Stmt.{Stmt}
use Rattle.ba_tree.specs.declared.tree.StmtKind.TheVariants as kind
use Rattle.ba_statements.specs.Adding.{Numbers, State, state_with, before_of, behind_part, extended, with_added, with_inferred, with_number}
use Rattle.ba_statements.specs.Labelling.{AddsLabel, GivesControlling, SwitchState, behind_group, behind_groups, behind_labelled}
use Rattle.ba_typing.specs.Declarations.{Added, ◌and◌, Before, behind, in_order, next_stmt, whole_faults}
use Rattle.ba_typing.specs.Expressions.{Typed, Typing, constant_value, tree_as}
use Rattle.ba_typing.specs.Faults.{fault_if, height_limit, limit_faults}
use Rattle.ba_expressions.specs.Inferring.{Infers, Stands, after, least_with, with_faults}
use Rattle.ba_typing.specs.Names.{Scope, knowing, switching}
use Rattle.ba_typing.specs.Statements.{GroupParts, add_case, add_controlling, add_default, add_group, add_groups, add_label, add_switch, enclosing, label_faults, no_labels, with_start}
use Rattle.ba_tree.specs.Trees.{StmtTree, stmts_of, tree_of_expr, tree_of_stmt}
use Rattle.ba_tree.specs.Trees as tree
use Rattle.ba_typing.specs.declared.fault.Cause.TheVariants.{Twice}
use Rattle.ba_typing.specs.declared.meanings.Labels.{Labels}
use Rattle.ba_expressions.specs.declared.inferred.Inferred.{Inferred}
use Rattle.ba_expressions.specs.declared.tally.Tally.{Tally}
use Rattle.ba_statements.specs.declared.labels.Controlling.{Controlling}
use Rattle.ba_statements.specs.declared.work.Work.{Work}
use Rattle.ba_statements.proofs.Adding.{before-added, behind-nothing, counted, counted-work, extended-both, in-scope, numbered-work}
use Rattle.ba_statements.proofs.ControlSteps.{behind-added, both-added}
use Rattle.ba_statements.proofs.KeptValues.{whole-is}
use Rattle.ba_expressions.proofs.Tallies.{faults-behind}
use Rattle.ba_typing.proofs.Walks.{next_item, none_left}

-- THE CONTROLLING EXPRESSION

pub controlling-is : (s : Typed) (scope : Scope) (w u : Work) (j : Inferred) (mid new : Tally) (stmt : StmtId)
    (t : CType) (on : Expr)
    → Stands j s w.tally mid → new ≡ with_faults mid (limit_faults height_limit j.height j.first)
    → Numbers j.first kind.Switch stmt (record w { tally = new }) u
    → t ≡ promoted j.t → tree_of_expr on ≡ tree_as t s
    → GivesControlling s scope w u (record { stmt = stmt; at = j.first; t = t; on = on })
controlling-is s scope w u j mid new stmt t on stands more counted promotes typed =
    let at : j.first ≡ s.first = ap (λ (e : Typed). e.first) stands.0 in
    let type : t ≡ promoted s.t = promotes ∙ ap (λ (e : Typed). promoted e.t) stands.0 in (
      counted.0,
      at,
      type,
      typed ∙ ap (λ t. tree_as t s) type,
      counted.1 ∙ ap (λ t. with_number (record w { tally = t }) j.first kind.Switch)
          (whole-is j.first j s w.tally mid new stands more)
          ∙ ap (λ at. with_number (with_inferred w s.calls (whole_faults at s)) at kind.Switch) at
          ∙ numbered-work w s.first kind.Switch tree.break_loop s.calls (whole_faults s.first s),
    )

-- LABELS

pub both-ok : {A E : Type 0} (P Q : Type 0) (r : Result A E) → OnOk r P → OnOk r Q → OnOk r (P × Q)
both-ok P Q (Ok x) p q = (p, q)
both-ok P Q (Err e) p q = tt

pub case-is : (t : CType) (at : At) (s : Typed) (j : Inferred) (old mid new : Tally) (value : Option ℤ)
    (count : ℕ) (begun labels : Labels)
    → Infers j s → mid ≡ after old s.calls (whole_faults at s) → value ≡ constant_value t s
    → labels ≡ with_start begun value count → new ≡ with_faults mid (label_faults begun value j.first)
    → AddsLabel (add_case t at s begun count) old new labels
case-is t at s j old mid new value count begun labels infers counts is starts more = (
  starts ∙ ap (λ z. with_start begun z count) is,
  faults-behind old mid new s.calls (whole_faults at s) (label_faults begun (constant_value t s) s.first)
      counts
      (more ∙ ap (λ z. with_faults mid (label_faults begun z j.first)) is
      ∙ ap (λ (e : Typed). with_faults mid (label_faults begun (constant_value t s) e.first)) infers),
)

pub default-is : (at : At) (count : ℕ) (begun labels : Labels) (old new : Tally) (b : Bool)
    → b ≡ is_some begun.other → labels ≡ record begun { other = Some count }
    → new ≡ with_faults old (fault_if b Twice at) → AddsLabel (add_default at begun count) old new labels
default-is at count begun labels old new b is given more = (
  given,
  more ∙ ap (λ b. with_faults old (fault_if b Twice at)) is
      ∙ ap (λ n. record old {
        calls = n;
        least = least_with old.least (fault_if (is_some begun.other) Twice at);
      }) (sym (add-zero old.calls)),
)

label-counts : (t : CType) (at : At) (l : Label) (labels : Labels) (count : ℕ) (scope : Scope) (calls : ℕ)
    → let a = (add_label t at l labels count scope calls).added in a ≡ counted a.calls a.faults
label-counts t at (label.Case keyword value colon) labels count scope calls = refl
label-counts t at (label.Default keyword colon) labels count scope calls = refl

-- after calls and faults the statements and the scope are as they were
counted-added : (a : Added) (w mid : Work) → a ≡ counted a.calls a.faults
    → mid ≡ with_inferred w a.calls a.faults → mid ≡ with_added w a
counted-added a w mid only is = is ∙ counted-work w a.calls a.faults ∙ ap (with_added w) (sym only)

counted-state : (a : Added) (scope : Scope) (w mid : Work) (stmts : List StmtTree)
    → a ≡ counted a.calls a.faults → mid ≡ with_added w a
    → state_with scope mid stmts ≡ extended (state_with scope w stmts) a
unfolding behind_part
counted-state a scope w mid stmts only is = in-scope (λ k n. a) a scope w mid stmts stmts refl
    (ap (λ (a : Added). a.entries) only) is
    (sym (append-nil stmts) ∙ ap (λ (a : Added). stmts ++ a.stmts) (sym only))

-- LABELS WITH THEIR STATEMENTS

-- the labels and the body
abbrev at_labels : Labels → State → SwitchState
at_labels labels body = record { labels = labels; body = body }

pub group-adds : (t : CType) (at : At) (g : GroupParts) (labels behind_label : Labels) (count : ℕ)
    (scope k : Scope) (w u : Work) (mid : Tally) (olds news : List StmtTree) → count ≡ length olds
    → AddsLabel (add_label t at g.label labels count scope w.tally.calls) w.tally mid behind_label
    → state_with k u news
    ≡ behind_part (in_order g.statements) (state_with scope (record w { tally = mid }) olds)
    → at_labels behind_label (state_with k u news)
    ≡ behind_group t at g (at_labels labels (state_with scope w olds))
unfolding behind_part behind_group
group-adds t at g labels behind_label count scope k w u mid olds news counts adds inside =
    let v : Work = record w { tally = mid } in
    let n = before_of w in
    let l = add_label t at g.label labels (length olds) scope w.tally.calls in
    let b = in_order g.statements scope (behind n l.added) in
    let label : AddsLabel l w.tally mid behind_label =
    subst (λ c. AddsLabel (add_label t at g.label labels c scope w.tally.calls) w.tally mid behind_label)
    counts adds in
    let only = label-counts t at g.label labels (length olds) scope w.tally.calls in
    let worked : v ≡ with_added w l.added =
    counted-added l.added w v only (ap (λ (t : Tally). record w { tally = t }) label.1) in
    ap (at_labels behind_label)
    (inside ∙ ap (λ n. extended (state_with scope v olds) (in_order g.statements scope n))
    (behind-added w v l.added worked)
    ∙ ap (λ s. extended s b) (counted-state l.added scope w v olds only worked)
    ∙ extended-both (state_with scope w olds) l.added b)
    ∙ ap (λ ls. at_labels ls (extended (state_with scope w olds) (l.added and b))) label.0

-- one group, and then others
behind-more : (t : CType) (at : At) (g : GroupParts) (gs : List GroupParts) (s : SwitchState)
    → behind_groups t at gs (behind_group t at g s) ≡ behind_groups t at (g ∷ gs) s
unfolding behind_group behind_groups
behind-more t at g gs s =
    let w = s.body.work in
    let a = add_group t at g s.labels (length s.body.stmts) s.body.scope (before_of w) in
    let rest = λ (count : ℕ) (n : Before).
    add_groups t at gs a.labels count (knowing a.added.entries s.body.scope) n in
    let begun = at_labels a.labels (extended s.body a.added) in
    let count = length s.body.stmts + length a.added.stmts in
    let b = rest count (behind (before_of w) a.added) in
    ap (λ count. behind_labelled (rest count (before_of (with_added w a.added))) begun)
    (length-append s.body.stmts a.added.stmts)
    ∙ ap (λ n. behind_labelled (rest count n) begun) (before-added w a.added)
    ∙ ap (at_labels b.labels) (extended-both s.body a.added b.added)

behind-none : (t : CType) (at : At) (s : SwitchState) → s ≡ behind_groups t at [] s
unfolding behind_groups behind_part
behind-none t at s = ap (at_labels s.labels) (behind-nothing s.body)

-- the groups of a list, from a place
module _ {A : Type 0} (parts : A → GroupParts) (t : CType) (at : At) (xs : List A) (i : ℕ)
    (s whole : SwitchState) (rest : behind_groups t at (map parts (drop i xs)) s ≡ whole) where
  pub next-group : (x : A) (u : SwitchState) → i < length xs → x ≡ get_or xs i x
      → u ≡ behind_group t at (parts x) s → behind_groups t at (map parts (drop (i + 1) xs)) u ≡ whole
  next-group x u within is one =
      ap (behind_groups t at (map parts (drop (i + 1) xs))) one
      ∙ behind-more t at (parts x) (map parts (drop (i + 1) xs)) s
      ∙ ap (λ ys. behind_groups t at (map parts ys) s) (sym (next_item xs i x within is)) ∙ rest

  pub no-group : length xs ≤ i → s ≡ whole
  no-group past = behind-none t at s
      ∙ ap (λ ys. behind_groups t at (map parts ys) s) (sym (none_left xs i past)) ∙ rest

-- before the first group
pub groups-begun : (t : CType) (at : At) (gs : List GroupParts) (labels : Labels) (scope k : Scope)
    (w : Work) (none : List Stmt) (new : SwitchState) → labels ≡ no_labels → scope ≡ k → none ≡ []
    → new ≡ behind_groups t at gs (at_labels labels (state_with scope w (map tree_of_stmt none)))
    → new ≡ behind_groups t at gs (at_labels no_labels (state_with k w []))
groups-begun t at gs labels scope k w none new unlabelled enters empty is = is
    ∙ ap (λ ls. behind_groups t at gs (at_labels ls (state_with scope w (map tree_of_stmt none)))) unlabelled
    ∙ ap (λ k. behind_groups t at gs (at_labels no_labels (state_with k w (map tree_of_stmt none)))) enters
    ∙ ap (λ xs. behind_groups t at gs (at_labels no_labels (state_with k w (map tree_of_stmt xs)))) empty

-- THE WHOLE

pub switch-adds : (typing : Typing) (gs : List GroupParts) (scope k : Scope) (w mid u : Work)
    (c : Controlling) (labels : Labels) (body olds news : List StmtTree)
    → GivesControlling (typing scope w.tally.calls) scope w mid c
    → at_labels labels (state_with k u body)
    ≡ behind_groups c.t c.at gs (at_labels no_labels (state_with (switching scope) mid []))
    → news ≡ olds ++ tree.switch c.stmt c.t (tree_of_expr c.on) labels.starts labels.other (stmts_of body)
    ∷ [] → state_with scope u news ≡ behind_part (add_switch typing gs) (state_with scope w olds)
unfolding behind_groups
switch-adds typing gs scope k w mid u c labels body olds news gives inside pushed =
    let n = before_of w in
    let e = typing scope n.calls in
    let t = promoted e.t in
    let on = add_controlling e.first e scope n in
    let b = add_groups t e.first gs no_labels 0 (switching scope) (behind n on) in
    let s = at_labels no_labels (state_with (switching scope) mid []) in
    let held : at_labels labels (state_with k u body) ≡ behind_labelled b s =
    inside ∙ ap (λ t. behind_groups t c.at gs s) gives.2 ∙ ap (λ at. behind_groups t at gs s) gives.1
    ∙ ap (λ n. behind_labelled (add_groups t e.first gs no_labels 0 (switching scope) n) s)
    (behind-added w mid on gives.4) in
    in-scope (add_switch typing gs)
    (enclosing (tree.switch (next_stmt n) t (tree_as t e) b.labels.starts b.labels.other
    (stmts_of b.added.stmts)) (on and b.added))
    scope w u olds news refl refl
    (both-added w mid u on b.added gives.4 (ap (λ (s : SwitchState). s.body.work) held))
    (pushed ∙ ap (λ x. olds ++ x ∷ [])
    (ap (λ m. tree.switch m c.t (tree_of_expr c.on) labels.starts labels.other (stmts_of body)) gives.0
    ∙ ap (λ t. tree.switch (next_stmt n) t (tree_of_expr c.on) labels.starts labels.other (stmts_of body))
    gives.2
    ∙ ap (λ d. tree.switch (next_stmt n) t d labels.starts labels.other (stmts_of body)) gives.3
    ∙ ap (λ (s : SwitchState). tree.switch (next_stmt n) t (tree_as t e) s.labels.starts s.labels.other
    (stmts_of s.body.stmts)) held))
