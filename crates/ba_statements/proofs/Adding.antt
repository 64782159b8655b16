-- Parts of a text one after the other.
use Rattle.std.proofs.Common.{◌≡◌, ℕ, ℤ, Some, ◌+◌, ◌<◌, ◌≤◌, List, [], ◌∷◌, ◌++◌, map, drop, get_or, length, refl, sym, ◌∙◌, ap, append_assoc, add_assoc, add-zero, length-append, append-nil}
use Rattle.ba_tokens.specs.declared.token.Token.{Token}
use Rattle.ba_numbers.specs.declared.ids.At.{At}
use Rattle.ba_numbers.specs.declared.ids.VarId.{VarId}
use Rattle.ba_tree.specs.declared.tree.StmtKind.{StmtKind}
use Rattle.ba_tree.specs.declared.tree.Variable.{Variable}
use Rattle.ba_statements.specs.Adding.{State, state_with, extended, behind_part, before_of, with_added, with_constant, with_inferred, with_number, with_variable}
use Rattle.ba_typing.specs.Declarations.{Added, nothing_added, ◌and◌, behind, Part, ◌then◌, nothing, in_order, numbered, faults_added, add_constant, add_tag, add_variable, is_declared, next_name}
use Rattle.ba_typing.specs.Faults.{limit_faults, statement_limit, variable_limit, twice_faults}
use Rattle.ba_expressions.specs.Inferring.{after, least_with, with_faults}
use Rattle.ba_typing.specs.Names.{Scope, is_declared_here, knowing, name_of}
use Rattle.ba_tree.specs.Trees.{StmtTree}
use Rattle.ba_typing.specs.declared.fault.Fault.{Fault}
use Rattle.ba_typing.specs.declared.meanings.Entity.TheVariants as entity
use Rattle.ba_typing.specs.declared.meanings.Entry.{Entry}
use Rattle.ba_typing.specs.declared.meanings.Space.TheVariants as space
use Rattle.ba_typing.specs.declared.meanings.Signature.{Signature}
use Rattle.ba_expressions.specs.declared.tally.Tally.{Tally}
use Rattle.ba_statements.specs.declared.work.Work.{Work}
use Rattle.ba_expressions.proofs.Least.{least-append, least-swap}
use Rattle.ba_typing.proofs.Walks.{next_item, none_left}

-- ENTRIES

abbrev pub variable_entry : List ℕ → ℕ → VarId → Variable → Entry
variable_entry name depth var v = record {
  name = name;
  depth = depth;
  entity = entity.Variable (record { var = var; variable = v });
}

abbrev pub constant_entry : List ℕ → ℕ → ℤ → Entry
constant_entry name depth z = record { name = name; depth = depth; entity = entity.Constant z }

abbrev pub tag_entry : List ℕ → ℕ → Entry
tag_entry name depth = record { name = name; depth = depth; entity = entity.Tag }

-- WHAT IS ADDED

-- calls and faults, and then others
pub after-after : (t : Tally) (m n : ℕ) (fs gs : List Fault) → after (after t m fs) n gs ≡ after t (m + n)
    (fs ++ gs)
after-after t m n fs gs =
    ap (λ c. record { calls = c; least = least_with (least_with t.least fs) gs }) (add_assoc t.calls m n)
    ∙ ap (λ l. record { calls = t.calls + (m + n); least = l }) (least-append t.least fs gs)

pub with_added-both : (w : Work) (a b : Added) → with_added (with_added w a) b ≡ with_added w (a and b)
with_added-both w a b =
    let whole = with_added w (a and b) in
    ap (λ v. record (with_added (with_added w a) b) { variables = v }) (append_assoc w.variables
    a.variables b.variables)
    ∙ ap (λ k. record (with_added (with_added w a) b) { variables = whole.variables; constants = k })
    (add_assoc w.constants a.constants b.constants)
    ∙ ap (λ s. record whole {
      statements = s;
      elements = w.elements + a.elements + b.elements;
      tally = after (after w.tally a.calls a.faults) b.calls b.faults;
    }) (append_assoc w.statements
    a.statements b.statements)
    ∙ ap (λ e. record whole { elements = e; tally = after (after w.tally a.calls a.faults) b.calls b.faults })
    (add_assoc w.elements a.elements b.elements)
    ∙ ap (λ t. record whole { tally = t }) (after-after w.tally a.calls b.calls a.faults b.faults)

pub before-added : (w : Work) (a : Added) → before_of (with_added w a) ≡ behind (before_of w) a
before-added w a =
    ap (λ v. record (before_of (with_added w a)) { variables = v }) (length-append w.variables a.variables)
    ∙ ap (λ s. record (behind (before_of w) a) { statements = s }) (length-append w.statements a.statements)

pub knowing-both : (s : Scope) (a b : Added) → knowing b.entries (knowing a.entries s) ≡ knowing (a.entries
    ++ b.entries) s
knowing-both s a b = ap (λ k. record s { known = k }) (append_assoc s.known a.entries b.entries)

pub extended-both : (s : State) (a b : Added) → extended (extended s a) b ≡ extended s (a and b)
extended-both s a b =
    ap (λ k. record (extended (extended s a) b) { scope = k }) (knowing-both s.scope a b)
    ∙ ap (λ w. record (extended s (a and b)) { work = w; stmts = s.stmts ++ a.stmts ++ b.stmts })
    (with_added-both s.work a b)
    ∙ ap (λ t. record (extended s (a and b)) { stmts = t }) (append_assoc s.stmts a.stmts b.stmts)

pub behind-then : (first second : Part) (s : State)
    → behind_part second (behind_part first s) ≡ behind_part (first then second) s
unfolding behind_part
behind-then first second s = let a = first s.scope (before_of s.work) in
    ap (λ n. extended (extended s a) (second (knowing a.entries s.scope) n)) (before-added s.work a)
    ∙ extended-both s a (second (knowing a.entries s.scope) (behind (before_of s.work) a))

pub after-nothing : (t : Tally) → t ≡ after t 0 []
after-nothing t = ap (λ c. record t { calls = c }) (sym (add-zero t.calls))

pub with_added-nothing : (w : Work) → w ≡ with_added w nothing_added
with_added-nothing w =
    ap (λ v. record w { variables = v }) (sym (append-nil w.variables))
    ∙ ap (λ n. record w { variables = w.variables ++ []; constants = n }) (sym (add-zero w.constants))
    ∙ ap (λ n. record (with_added w nothing_added) { statements = n; elements = w.elements; tally = w.tally })
    (sym (append-nil w.statements))
    ∙ ap (λ n. record (with_added w nothing_added) { elements = n; tally = w.tally }) (sym (add-zero
    w.elements))
    ∙ ap (λ t. record (with_added w nothing_added) { tally = t }) (after-nothing w.tally)

pub knowing-nothing : (s : Scope) → s ≡ knowing [] s
knowing-nothing s = ap (λ k. record s { known = k }) (sym (append-nil s.known))

pub behind-nothing : (s : State) → s ≡ behind_part nothing s
unfolding behind_part
behind-nothing s =
    ap (λ k. record s { scope = k }) (knowing-nothing s.scope)
    ∙ ap (λ w. record s { scope = knowing [] s.scope; work = w }) (with_added-nothing s.work)
    ∙ ap (λ t. record (extended s nothing_added) { stmts = t }) (sym (append-nil s.stmts))

-- PARTS that declare nothing, if the code leaves the scope as it is

pub in-scope : (part : Part) (a : Added) (scope : Scope) (w v : Work) (old new : List StmtTree)
    → part scope (before_of w) ≡ a → a.entries ≡ [] → v ≡ with_added w a → new ≡ old ++ a.stmts
    → record { scope = scope; work = v; stmts = new } ≡ behind_part part (record {
      scope = scope;
      work = w;
      stmts = old;
    })
unfolding behind_part
in-scope part a scope w v old new is none works pushed =
    let s : State = record { scope = scope; work = w; stmts = old } in
    ap (λ k. record { scope = k; work = v; stmts = new })
    (knowing-nothing scope ∙ ap (λ es. knowing es scope) (sym none))
    ∙ ap (λ w. record { scope = knowing a.entries scope; work = w; stmts = new }) works
    ∙ ap (λ t. record (extended s a) { stmts = t }) pushed
    ∙ ap (extended s) (sym is)

-- a part, and then another one
pub and-then : (first second : Part) (s t u : State) → t ≡ behind_part first s → u ≡ behind_part second t
    → u ≡ behind_part (first then second) s
and-then first second s t u one other = other ∙ ap (behind_part second) one ∙ behind-then first second s

-- parts of a list, from a place
pub next-part : {A : Type 0} (part : A → Part) (xs : List A) (i : ℕ) (x : A) (s t whole : State)
    → i < length xs → x ≡ get_or xs i x → behind_part (in_order (map part (drop i xs))) s ≡ whole
    → t ≡ behind_part (part x) s → behind_part (in_order (map part (drop (i + 1) xs))) t ≡ whole
next-part part xs i x s t whole within is rest one =
    ap (behind_part (in_order (map part (drop (i + 1) xs)))) one
    ∙ behind-then (part x) (in_order (map part (drop (i + 1) xs))) s
    ∙ ap (λ ys. behind_part (in_order (map part ys)) s) (sym (next_item xs i x within is)) ∙ rest

pub no-part : {A : Type 0} (part : A → Part) (xs : List A) (i : ℕ) (s whole : State) → length xs ≤ i
    → behind_part (in_order (map part (drop i xs))) s ≡ whole → s ≡ whole
no-part part xs i s whole all rest = behind-nothing s
    ∙ ap (λ ys. behind_part (in_order (map part ys)) s) (sym (none_left xs i all)) ∙ rest

-- A NUMBERED STATEMENT, whose expressions are inferred before

pub numbered-work : (w : Work) (at : At) (k : StmtKind) (typed : StmtTree) (calls : ℕ) (faults : List Fault)
    → with_number (with_inferred w calls faults) at k ≡ with_added w (numbered (before_of w) at k typed calls
    faults)
numbered-work w at k typed calls faults =
    let limit = limit_faults statement_limit (length w.statements + 1) at in
    let whole = with_added w (numbered (before_of w) at k typed calls faults) in
    let t = with_faults (after w.tally calls faults) limit in
    ap (λ v. record whole { variables = v; constants = w.constants; elements = w.elements; tally = t })
    (sym (append-nil w.variables))
    ∙ ap (λ n. record whole { constants = n; elements = w.elements; tally = t }) (sym (add-zero w.constants))
    ∙ ap (λ e. record whole { elements = e; tally = t }) (sym (add-zero w.elements))
    ∙ ap (λ l. record whole { tally = record { calls = w.tally.calls + calls; least = l } })
    (least-swap w.tally.least faults limit)

pub numbered-is : (part : Part) (scope : Scope) (w v u : Work) (old new : List StmtTree) (at : At) (k :
    StmtKind)
    (typed : StmtTree) (calls : ℕ) (faults : List Fault)
    → part scope (before_of w) ≡ numbered (before_of w) at k typed calls faults
    → v ≡ with_inferred w calls faults → u ≡ with_number v at k → new ≡ old ++ typed ∷ []
    → state_with scope u new ≡ behind_part part (state_with scope w old)
numbered-is part scope w v u old new at k typed calls faults is inferred counted pushed =
    in-scope part (numbered (before_of w) at k typed calls faults) scope w u old new is refl
    (counted ∙ ap (λ v. with_number v at k) inferred ∙ numbered-work w at k typed calls faults) pushed

-- WHAT IS ADDED IN PARTS

pub adds-is : (part : Part) (a : Added) (scope k : Scope) (w v : Work) (old new : List StmtTree)
    → part scope (before_of w) ≡ a → k ≡ knowing a.entries scope → v ≡ with_added w a → new ≡ old ++ a.stmts
    → state_with k v new ≡ behind_part part (state_with scope w old)
unfolding behind_part
adds-is part a scope k w v old new is knows works pushed =
    let s = state_with scope w old in
    ap (λ k. state_with k v new) knows ∙ ap (λ w. state_with (knowing a.entries scope) w new) works
    ∙ ap (λ t. record (extended s a) { stmts = t }) pushed ∙ ap (extended s) (sym is)

-- calls and faults alone
abbrev pub counted : ℕ → List Fault → Added
counted calls faults = record (faults_added faults) { calls = calls }

pub counted-work : (w : Work) (calls : ℕ) (faults : List Fault)
    → with_inferred w calls faults ≡ with_added w (counted calls faults)
counted-work w calls faults =
    let whole = with_added w (counted calls faults) in
    ap (λ v. record w { variables = v; tally = whole.tally }) (sym (append-nil w.variables))
    ∙ ap (λ n. record w { variables = whole.variables; constants = n; tally = whole.tally })
    (sym (add-zero w.constants))
    ∙ ap (λ n. record whole { statements = n; elements = w.elements }) (sym (append-nil w.statements))
    ∙ ap (λ e. record whole { elements = e }) (sym (add-zero w.elements))

-- faults alone
pub faults-work : (w : Work) (faults : List Fault)
    → record w { tally = with_faults w.tally faults } ≡ with_added w (faults_added faults)
faults-work w faults =
    let whole = with_added w (faults_added faults) in let t = with_faults w.tally faults in
    ap (λ v. record w { variables = v; tally = t }) (sym (append-nil w.variables))
    ∙ ap (λ n. record w { variables = whole.variables; constants = n; tally = t })
    (sym (add-zero w.constants))
    ∙ ap (λ n. record whole { statements = n; elements = w.elements; tally = t }) (sym (append-nil
    w.statements))
    ∙ ap (λ e. record whole { elements = e; tally = t }) (sym (add-zero w.elements))
    ∙ ap (λ c. record whole { tally = record t { calls = c } }) (sym (add-zero w.tally.calls))

pub faults-part : (faults : List Fault) (scope : Scope) (w v : Work) (stmts : List StmtTree)
    → v ≡ record w { tally = with_faults w.tally faults }
    → state_with scope v stmts ≡ behind_part (λ scope n. faults_added faults) (state_with scope w stmts)
faults-part faults scope w v stmts is = in-scope (λ scope n. faults_added faults) (faults_added faults)
    scope w v stmts stmts
    refl refl (is ∙ faults-work w faults) (sym (append-nil stmts))

faults-more : (t : Tally) (fs gs : List Fault)
    → with_faults (with_faults t fs) gs ≡ after t 0 (fs ++ gs)
faults-more t fs gs = ap (λ l. record { calls = t.calls; least = l }) (least-append t.least fs gs)
    ∙ ap (λ c. record { calls = c; least = least_with t.least (fs ++ gs) }) (sym (add-zero t.calls))

-- A NAME: a variable or an enumeration constant, with faults that are found before it

pub variable-work : (w : Work) (at : At) (v : Variable) (entries : List Entry) (faults : List Fault)
    → with_variable (record w { tally = with_faults w.tally faults }) at v ≡ with_added w (record
    nothing_added {
      entries = entries;
      variables = v ∷ [];
      faults = faults ++ limit_faults variable_limit (next_name (before_of w)) at;
    })
variable-work w at v entries faults =
    let limit = limit_faults variable_limit (next_name (before_of w)) at in
    let whole = with_added w (record nothing_added {
      entries = entries;
      variables = v ∷ [];
      faults = faults
          ++ limit;
    }) in
    let t = with_faults (with_faults w.tally faults) limit in
    ap (λ n. record whole { constants = n; statements = w.statements; elements = w.elements; tally = t })
    (sym (add-zero w.constants))
    ∙ ap (λ n. record whole { statements = n; elements = w.elements; tally = t }) (sym (append-nil
    w.statements))
    ∙ ap (λ e. record whole { elements = e; tally = t }) (sym (add-zero w.elements))
    ∙ ap (λ t. record whole { tally = t }) (faults-more w.tally faults limit)

pub constant-work : (w : Work) (at : At) (entries : List Entry) (faults : List Fault)
    → with_constant (record w { tally = with_faults w.tally faults }) at
    ≡ with_added w (record nothing_added {
      entries = entries;
      constants = 1;
      faults = faults ++ limit_faults variable_limit (next_name (before_of w)) at;
    })
constant-work w at entries faults =
    let limit = limit_faults variable_limit (next_name (before_of w)) at in
    let whole = with_added w (record nothing_added {
      entries = entries;
      constants = 1;
      faults = faults ++ limit;
    }) in
    let t = with_faults (with_faults w.tally faults) limit in
    ap (λ v. record whole { variables = v; statements = w.statements; elements = w.elements; tally = t })
    (sym (append-nil w.variables))
    ∙ ap (λ n. record whole { statements = n; elements = w.elements; tally = t })
    (sym (append-nil w.statements))
    ∙ ap (λ e. record whole { elements = e; tally = t }) (sym (add-zero w.elements))
    ∙ ap (λ t. record whole { tally = t }) (faults-more w.tally faults limit)

pub variable-is : (functions : List Signature) (at : At) (name : List ℕ) (v : Variable) (scope k : Scope)
    (w mid new : Work)
    (var : VarId) (stmts : List StmtTree)
    → mid ≡ record w { tally = with_faults w.tally (twice_faults (is_declared scope functions name) at) }
    → new ≡ with_variable mid at v → var ≡ record { 0 = length mid.variables }
    → k ≡ knowing (variable_entry name scope.depth var v ∷ []) scope
    → state_with k new stmts ≡ behind_part (add_variable functions at name v) (state_with scope w stmts)
variable-is functions at name v scope k w mid new var stmts twice works is knows =
    adds-is (add_variable functions at name v) (add_variable functions at name v scope (before_of w)) scope
    k w new stmts stmts
    refl
    (knows ∙ ap (λ var. knowing (variable_entry name scope.depth var v ∷ []) scope)
    (is ∙ ap (λ (m : Work). record { 0 = length m.variables }) twice))
    (works ∙ ap (λ m. with_variable m at v) twice
    ∙ variable-work w at v (variable_entry name scope.depth (record { 0 = length w.variables }) v ∷ [])
    (twice_faults (is_declared scope functions name) at))
    (sym (append-nil stmts))

pub constant-is : (functions : List Signature) (at : At) (name : List ℕ) (z : ℤ) (scope k : Scope)
    (w mid new : Work) (stmts : List StmtTree)
    → mid ≡ record w { tally = with_faults w.tally (twice_faults (is_declared scope functions name) at) }
    → new ≡ with_constant mid at → k ≡ knowing (constant_entry name scope.depth z ∷ []) scope
    → state_with k new stmts ≡ behind_part (add_constant functions at name z) (state_with scope w stmts)
constant-is functions at name z scope k w mid new stmts twice works knows =
    adds-is (add_constant functions at name z) (add_constant functions at name z scope (before_of w)) scope
    k w new stmts stmts refl knows
    (works ∙ ap (λ m. with_constant m at) twice
    ∙ constant-work w at (constant_entry name scope.depth z ∷ [])
    (twice_faults (is_declared scope functions name) at))
    (sym (append-nil stmts))

-- a tag
pub tag-is : (tag : Token) (scope k : Scope) (w new : Work) (stmts : List StmtTree)
    → new ≡ record w {
      tally = with_faults w.tally (twice_faults (is_declared_here space.Tags scope (name_of tag)) tag.at);
    }
    → k ≡ knowing (tag_entry (name_of tag) scope.depth ∷ []) scope
    → state_with k new stmts ≡ behind_part (add_tag (Some tag)) (state_with scope w stmts)
tag-is tag scope k w new stmts twice knows =
    adds-is (add_tag (Some tag)) (add_tag (Some tag) scope (before_of w)) scope k w new stmts stmts refl knows
    (twice ∙ faults-work w (twice_faults (is_declared_here space.Tags scope (name_of tag)) tag.at))
    (sym (append-nil stmts))
