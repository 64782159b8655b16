-- What enumerations add, from what their parts add.
use Rattle.std.proofs.Common.{◌≡◌, ℕ, ℤ, ◌+◌, ◌<◌, ◌≤◌, Bool, not, Option, None, Some, List, ◌∷◌, map, drop, length, get_or, refl, sym, ◌∙◌, ap, append-nil}
use Rattle.std.specs.Prelude.{unwrap_or}
use Rattle.std.specs.Option.{is_some}
use Rattle.ba_tokens.specs.declared.token.Token.{Token}
use Rattle.ba_numbers.specs.declared.ids.At.{At}
use Rattle.ba_numbers.specs.declared.numbers.CType.TheVariants.{I32}
use Rattle.ba_trees.specs.declared.tree.declarations.Enumerator.{Enumerator}
use Rattle.ba_trees.specs.declared.tree.declarations.Enumerators.{Enumerators}
use Rattle.ba_trees.specs.declared.tree.declarations.NextEnumerator.{NextEnumerator}
use Rattle.ba_trees.specs.declared.tree.declarations.Specifiers.{Specifiers}
use Rattle.ba_statements.specs.Adding.{AddsEnumerator, GivesValue, GivesWritten, State, state_with, behind_part, value_at}
use Rattle.ba_typing.specs.Declarations.{add_constant, add_enumerator, add_enumerator_list, add_listed, add_specifiers, add_tag, add_written, enumerator_value, enumerators_in, faults_added, following, value_faults, whole_faults}
use Rattle.ba_typing.specs.Expressions.{Typed, constant_value}
use Rattle.ba_typing.specs.Faults.{fault_if, tag_faults}
use Rattle.ba_expressions.specs.Inferring.{Infers, after, with_faults}
use Rattle.ba_typing.specs.Names.{Scope, name_of, tag_of, words_of_declaration}
use Rattle.ba_tree.specs.Trees.{StmtTree}
use Rattle.ba_typing.specs.declared.fault.Cause.TheVariants.{WrongKind}
use Rattle.ba_expressions.specs.declared.inferred.Inferred.{Inferred}
use Rattle.ba_typing.specs.declared.meanings.Signature.{Signature}
use Rattle.ba_expressions.specs.declared.tally.Tally.{Tally}
use Rattle.ba_statements.specs.declared.work.Work.{Work}
use Rattle.ba_statements.proofs.Adding.{and-then, behind-nothing, behind-then, counted, counted-work, faults-work, in-scope}
use Rattle.ba_expressions.proofs.Tallies.{faults-behind}
use Rattle.ba_typing.proofs.Walks.{next_item, none_left}

-- A WRITTEN VALUE

pub value-is : (at : At) (j : Inferred) (s : Typed) (old mid new : Tally) (z : Option ℤ) (none : Bool)
    → Infers j s → mid ≡ after old s.calls (whole_faults at s) → z ≡ constant_value I32 s
    → none ≡ not (is_some z) → new ≡ with_faults mid (fault_if none WrongKind j.first)
    → GivesValue at s old new z
value-is at j s old mid new z none infers counts value absent more =
    let fs = fault_if (not (is_some (constant_value I32 s))) WrongKind s.first in (
      value,
      faults-behind old mid new s.calls (whole_faults at s) fs counts
          (more ∙ ap (λ b. with_faults mid (fault_if b WrongKind j.first))
          (absent ∙ ap (λ z. not (is_some z)) value)
          ∙ ap (λ (e : Typed). with_faults mid (fault_if (not (is_some (constant_value I32 s))) WrongKind
          e.first))
          infers),
    )

written-part : (at : At) (v : Option Typed) (scope : Scope) (w : Work) (t : Tally) (z : Option ℤ)
    (stmts : List StmtTree) → GivesWritten at v w.tally t z
    → state_with scope (record w { tally = t }) stmts ≡ behind_part (add_written at v) (state_with scope w
    stmts)
written-part at None scope w t z stmts is =
    ap (λ t. state_with scope (record w { tally = t }) stmts) is.1 ∙ behind-nothing (state_with scope w stmts)
written-part at (Some e) scope w t z stmts is =
    in-scope (add_written at (Some e)) (counted e.calls (value_faults at e)) scope w
    (record w { tally = t }) stmts
    stmts refl refl
    (ap (λ t. record w { tally = t }) is.1 ∙ counted-work w e.calls (value_faults at e))
    (sym (append-nil stmts))

value-of : (at : At) (last : Option ℤ) (v : Option Typed) (old new : Tally) (z : Option ℤ)
    → GivesWritten at v old new z → unwrap_or z (following last) ≡ enumerator_value last v
value-of at last None old new z is = ap (λ z. unwrap_or z (following last)) is.0
value-of at last (Some e) old new z is = ap (λ z. unwrap_or z (following last)) is.0

-- A CONSTANT

pub enumerator-is : (functions : List Signature) (last : Option ℤ) (e : Enumerator) (scope k : Scope)
    (w u : Work)
    (t : Tally) (written : Option ℤ) (next z : ℤ) (name : List ℕ)
    → GivesWritten e.name.at (value_at e scope w.tally.calls) w.tally t written → next ≡ following last
    → z ≡ unwrap_or written next → name ≡ name_of e.name
    → ((stmts : List StmtTree) → state_with k u stmts
    ≡ behind_part (add_constant functions e.name.at name z) (state_with scope (record w { tally = t }) stmts))
    → AddsEnumerator functions last e scope w k u z
enumerator-is functions last e scope k w u t written next z name gives follows value names adds =
    let at = e.name.at in
    let v = value_at e scope w.tally.calls in
    let mid = λ (stmts : List StmtTree). state_with scope (record w { tally = t }) stmts in
    let valued = value ∙ ap (unwrap_or written) follows ∙ value-of at last v w.tally t written gives in (
      valued,
      λ stmts. and-then (add_written at v) (add_constant functions at (name_of e.name)
          (enumerator_value last v))
          (state_with scope w stmts) (mid stmts) (state_with k u stmts)
          (written-part at v scope w t written stmts gives)
          (adds stmts ∙ ap (λ n. behind_part (add_constant functions at n z) (mid stmts)) names
          ∙ ap (λ z. behind_part (add_constant functions at (name_of e.name) z) (mid stmts)) valued),
    )

-- CONSTANTS ONE AFTER THE OTHER

module _ (functions : List Signature) (last : Option ℤ) (scope k : Scope) (w u : Work) (z : ℤ)
    (stmts : List StmtTree) where
  pub first-listed : (e : Enumerator) (es : List Enumerator) → AddsEnumerator functions last e scope w k u z
      → behind_part (add_enumerator_list functions (Some z) es) (state_with k u stmts)
      ≡ behind_part (add_enumerator_list functions last (e ∷ es)) (state_with scope w stmts)
  unfolding behind_part
  first-listed e es adds =
      let v = value_at e scope w.tally.calls in
      let rest = add_enumerator_list functions (Some (enumerator_value last v)) es in
      ap (λ z. behind_part (add_enumerator_list functions (Some z) es) (state_with k u stmts)) adds.0
      ∙ ap (behind_part rest) (adds.1 stmts)
      ∙ behind-then (add_enumerator functions last e v) rest (state_with scope w stmts)

  pub next-listed : (xs : List NextEnumerator) (i : ℕ) (x : NextEnumerator) (whole : State)
      → i < length xs → x ≡ get_or xs i x → AddsEnumerator functions last x.enumerator scope w k u z
      → behind_part (add_enumerator_list functions last (map (λ (n : NextEnumerator). n.enumerator)
      (drop i xs)))
      (state_with scope w stmts) ≡ whole
      → behind_part (add_enumerator_list functions (Some z)
      (map (λ (n : NextEnumerator). n.enumerator) (drop (i + 1) xs))) (state_with k u stmts) ≡ whole
  next-listed xs i x whole within is adds rest =
      first-listed x.enumerator (map (λ (n : NextEnumerator). n.enumerator) (drop (i + 1) xs)) adds
      ∙ ap (λ ys. behind_part (add_enumerator_list functions last
      (map (λ (n : NextEnumerator). n.enumerator) ys))
      (state_with scope w stmts)) (sym (next_item xs i x within is)) ∙ rest

pub all-listed : (functions : List Signature) (last : Option ℤ) (xs : List NextEnumerator) (i : ℕ)
    (s whole : State)
    → length xs ≤ i
    → behind_part (add_enumerator_list functions last (map (λ (n : NextEnumerator). n.enumerator)
    (drop i xs))) s
    ≡ whole → s ≡ whole
all-listed functions last xs i s whole all rest = behind-nothing s
    ∙ ap (λ ys. behind_part (add_enumerator_list functions last
    (map (λ (n : NextEnumerator). n.enumerator) ys)) s)
    (sym (none_left xs i all)) ∙ rest

-- THE WORDS OF A DECLARATION

module _ (functions : List Signature) (s : Specifiers) (tag : Option Token) (scope : Scope) (w : Work)
    (stmts : List StmtTree) (tags : tag ≡ tag_of (words_of_declaration s)) where
  pub without-list : (t : Tally) → s.enumerators ≡ None → t ≡ with_faults w.tally (tag_faults scope tag)
      → state_with scope (record w { tally = t }) stmts ≡ behind_part (add_specifiers functions s)
      (state_with scope w stmts)
  without-list t none counts =
      let fs = tag_faults scope tag in
      in-scope (add_listed functions tag None) (faults_added fs) scope w (record w { tally = t }) stmts stmts
      refl refl
      (ap (λ t. record w { tally = t }) counts ∙ faults-work w fs) (sym (append-nil stmts))
      ∙ ap (λ tag. behind_part (add_listed functions tag None) (state_with scope w stmts)) tags
      ∙ ap (λ o. behind_part (add_listed functions (tag_of (words_of_declaration s)) o)
      (state_with scope w stmts))
      (sym none)

  pub with-list : (e : Enumerators) (mid new : State) → s.enumerators ≡ Some e
      → mid ≡ behind_part (add_tag tag) (state_with scope w stmts)
      → new ≡ behind_part (add_enumerator_list functions None (enumerators_in e.list)) mid
      → new ≡ behind_part (add_specifiers functions s) (state_with scope w stmts)
  with-list e mid new some begun ended =
      and-then (add_tag tag) (add_enumerator_list functions None (enumerators_in e.list))
      (state_with scope w stmts) mid
      new begun ended
      ∙ ap (λ tag. behind_part (add_listed functions tag (Some e)) (state_with scope w stmts)) tags
      ∙ ap (λ o. behind_part (add_listed functions (tag_of (words_of_declaration s)) o)
      (state_with scope w stmts))
      (sym some)
