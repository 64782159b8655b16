-- Enumerations: a constant's value is one of I32, and what a declaration begins with adds names, calls and
-- faults alone.
use Rattle.std.proofs.Common.{◌≡◌, ℕ, ℤ, pos, ◌+ℤ◌, Bool, true, false, not, cond, Option, None, Some, List, [], ◌∷◌, ◌++◌, refl, sym, ◌∙◌, ap, subst, arith, option_map, unwrap_or}
use Rattle.std.specs.List.{list_all}
use Rattle.std.specs.Option.{is_some}
use Rattle.std.proofs.lemmas.Bool.{not-false}
use Rattle.std.proofs.lemmas.List.Concat.{flat_map-append}
use Rattle.std.proofs.lemmas.Option.{same_Some}
use Rattle.ba_numbers.proofs.Conversions.{converted_in_range}
use Rattle.ba_numbers.specs.Numbers.{converted, is_in}
use Rattle.ba_numbers.specs.declared.ids.At.{At}
use Rattle.ba_numbers.specs.declared.ids.VarId.{VarId}
use Rattle.ba_numbers.specs.declared.numbers.CType.{CType}
use Rattle.ba_numbers.specs.declared.numbers.CType.TheVariants.{I32}
use Rattle.ba_tokens.specs.declared.token.Token.{Token}
use Rattle.ba_trees.specs.declared.tree.declarations.Declarators.{Declarators}
use Rattle.ba_trees.specs.declared.tree.declarations.Enumerator.{Enumerator}
use Rattle.ba_trees.specs.declared.tree.declarations.EnumeratorValue.{EnumeratorValue}
use Rattle.ba_trees.specs.declared.tree.declarations.Enumerators.{Enumerators}
use Rattle.ba_trees.specs.declared.tree.declarations.Specifiers.{Specifiers}
use Rattle.ba_tree.specs.Facts.{is_own_length}
use Rattle.ba_tree.specs.declared.tree.Function.{Function}
use Rattle.ba_tree.specs.declared.tree.Parts.{Parts}
use Rattle.ba_typing.specs.Declarations.{Added, ◌and◌, Before, behind, Part, ◌then◌, faults_added, add_tag, add_constant, whole_faults, written_value, following, enumerator_value, add_written, add_enumerator, add_enumerator_list, enumerators_in, add_listed, add_specifiers, add_optional_declarators, add_declaration}
use Rattle.ba_typing.specs.Expressions.{Typed, Typing, typed_conditional, constant_value}
use Rattle.ba_typing.specs.Faults.{fault_if, limit_faults, height_limit}
use Rattle.ba_typing.specs.Files.{var_in, vars_of}
use Rattle.ba_typing.specs.Names.{Scope, knowing, name_of, tag_of, type_specified, words_of_declaration}
use Rattle.ba_typing.specs.declared.fault.Cause.TheVariants.{WrongKind}
use Rattle.ba_typing.specs.declared.fault.Fault.{Fault}
use Rattle.ba_typing.specs.declared.meanings.Entry.{Entry}
use Rattle.ba_typing.specs.declared.meanings.Signature.{Signature}
use Rattle.ba_typing_facts.proofs.AdditionFacts.{piece_none, HasPiece, piece_then, IsCounted, IsPart, part_then, elements_of, are_own, few_none}
use Rattle.ba_typing_facts.proofs.DeclarationFacts.{optional_declarators_part}
use Rattle.ba_typing_facts.proofs.ExpressionFacts.{conditional_typing, is_in_from}
use Rattle.ba_typing_facts.proofs.FittingFacts.{nil_left, nil_right}
use Rattle.ba_typing_facts.proofs.LengthFacts.{constant_calls, some_constant}
use Rattle.ba_typing_facts.proofs.OperatorFacts.{IsWellTyped}
use Rattle.ba_typing_facts.proofs.PrimaryFacts.{not_so}
use Rattle.ba_typing_facts.proofs.ScopeFacts.{IsScope}
use Rattle.ba_typing_facts.proofs.SequenceFacts.{AreStmts, stmts_none}

-- VALUES

-- the value of a constant expression is of its type
pub constant_in : (t : CType) (e : Typed) (z : ℤ) → constant_value t e ≡ Some z → is_in t z ≡ true
constant_in t e z = from e.is_constant e.value where
  from : (b : Bool) (o : Option ℤ) → cond b (option_map (converted t) o) None ≡ Some z → is_in t z ≡ true
  from true None h = cc
  from true (Some y) h = subst (λ x. is_in t x ≡ true) (same_Some (converted t y) z h)
      (is_in_from t (converted t y) (converted_in_range t y))
  from false o h = cc

following_in : (last : Option ℤ) → is_in I32 (following last) ≡ true
following_in None = refl
following_in (Some z) = is_in_from I32 (converted I32 (z +ℤ pos 1)) (converted_in_range I32 (z +ℤ pos 1))

value_in : (last : Option ℤ) (v : Option Typed) → is_in I32 (enumerator_value last v) ≡ true
value_in last None = following_in last
value_in last (Some e) = from (constant_value I32 e) (constant_in I32 e) where
  from : (o : Option ℤ) → ((z : ℤ) → o ≡ Some z → is_in I32 z ≡ true)
      → is_in I32 (unwrap_or o (following last)) ≡ true
  from None h = following_in last
  from (Some z) h = h z refl

-- NOTHING BUT names, calls and faults, and among the names no variable

pub record IsNames (a : Added) : Type 0 where
  pub stmts : a.stmts ≡ []
  pub vars : vars_of a.entries ≡ []
  pub variables : a.variables ≡ []
  pub statements : a.statements ≡ []
  pub elements : a.elements ≡ 0

names-and : (a b : Added) → IsNames a → IsNames b → IsNames (a and b)
names-and a b h k = record {
  stmts = ap (λ ss. ss ++ b.stmts) h.stmts ∙ k.stmts;
  vars = flat_map-append (λ (e : Entry). var_in e.entity) a.entries b.entries
      ∙ ap (λ vs. vs ++ vars_of b.entries) h.vars ∙ k.vars;
  variables = ap (λ vs. vs ++ b.variables) h.variables ∙ k.variables;
  statements = ap (λ ss. ss ++ b.statements) h.statements ∙ k.statements;
  elements = let left = h.elements in let right = k.elements in omega (arith, left, right);
}

pub record HasNames (part : Part) : Type 0 where
  pub by : (scope : Scope) (n : Before) → IsNames (part scope n)

names_then : (first second : Part) → HasNames first → HasNames second → HasNames (first then second)
names_then first second h k = record {
  by = λ scope n. let a = first scope n in
      names-and a (second (knowing a.entries scope) (behind n a)) (h.by scope n)
      (k.by (knowing a.entries scope) (behind n a));
}

faults_names : (faults : List Fault) → IsNames (faults_added faults)
faults_names faults = record {
  stmts = refl;
  vars = refl;
  variables = refl;
  statements = refl;
  elements = refl;
}

tag_names : (tag : Option Token) → HasNames (add_tag tag)
tag_names None = record { by = λ scope n. faults_names [] }
tag_names (Some tag) = record {
  by = λ scope n. record { stmts = refl; vars = refl; variables = refl; statements = refl; elements = refl };
}

written_names : (at : At) (v : Option Typed) → HasNames (add_written at v)
written_names at None = record { by = λ scope n. faults_names [] }
written_names at (Some e) = record {
  by = λ scope n. record { stmts = refl; vars = refl; variables = refl; statements = refl; elements = refl };
}

constant_names : (functions : List Signature) (at : At) (name : List ℕ) (z : ℤ)
    → HasNames (add_constant functions at name z)
constant_names functions at name z = record {
  by = λ scope n. record { stmts = refl; vars = refl; variables = refl; statements = refl; elements = refl };
}

list_names : (functions : List Signature) (last : Option ℤ) (es : List Enumerator)
    → HasNames (add_enumerator_list functions last es)
list_names functions last [] = record { by = λ scope n. faults_names [] }
list_names functions last (e ∷ es) = record {
  by = λ scope n.
      let v = option_map (λ (typing : Typing). typing scope n.calls) (written_value e) in
      (names_then (add_enumerator functions last e v)
      (add_enumerator_list functions (Some (enumerator_value last v)) es)
      (names_then (add_written e.name.at v)
      (add_constant functions e.name.at (name_of e.name) (enumerator_value last v))
      (written_names e.name.at v)
      (constant_names functions e.name.at (name_of e.name) (enumerator_value last v)))
      (list_names functions (Some (enumerator_value last v)) es)).by scope n;
}

listed_names : (functions : List Signature) (tag : Option Token) (o : Option Enumerators)
    → HasNames (add_listed functions tag o)
listed_names functions tag None = record { by = λ scope n. faults_names _ }
listed_names functions tag (Some e) = record {
  by = λ scope n. (names_then (add_tag tag) (add_enumerator_list functions None (enumerators_in e.list))
      (tag_names tag) (list_names functions None (enumerators_in e.list))).by scope n;
}

pub specifiers_names : (functions : List Signature) (s : Specifiers) → HasNames (add_specifiers functions s)
specifiers_names functions s = listed_names functions (tag_of (words_of_declaration s)) s.enumerators

pub names_counted : (a : Added) → IsNames a → IsCounted a
names_counted a h = record {
  elements = ap elements_of h.variables ∙ sym h.elements;
  lengths = ap (list_all is_own_length) h.variables;
  own = ap are_own h.variables;
}

-- IN A PROGRAM

module _ (p : Parts) (owned : List VarId) (f : Function) (inside : Bool) where
  abbrev IsWritten : ℕ → Option Typed → Type 0
  IsWritten before None = Unit {0}
  IsWritten before (Some e) = IsWellTyped p owned before e

  written_has : (at : At) (before : ℕ) (v : Option Typed) → IsWritten before v
      → HasPiece p owned f inside (add_written at v)
  written_has at before None h = record {
    by = λ scope in_scope n stands none. piece_none p owned f inside n [];
  }
  written_has at before (Some e) h = record {
    by = λ scope in_scope n stands none.
        let whole = whole_faults at e in
        let bad = fault_if (not (is_some (constant_value I32 e))) WrongKind e.first in
        let some = not-false (is_some (constant_value I32 e)) (not_so _ WrongKind e.first
        (nil_right whole bad none)) in
        let no_calls = constant_calls p owned before e h
        (nil_right (limit_faults height_limit e.height at) e.faults (nil_left whole bad none))
        (some_constant e.is_constant (option_map (converted I32) e.value) some) in
        let few = few_none n [] in record {
          stmts = subst (λ k. AreStmts p owned n.statements 0 n.calls k scope.exits []) (sym no_calls)
              (stmts_none p owned n.statements n.calls scope.exits);
          entries = tt;
          few = record { variables = few.variables; statements = few.statements; elements = few.elements };
        };
  }

  constant_has : (functions : List Signature) (at : At) (name : List ℕ) (z : ℤ) → is_in I32 z ≡ true
      → HasPiece p owned f inside (add_constant functions at name z)
  constant_has functions at name z h = record {
    by = λ scope in_scope n stands none. let few = few_none n [] in record {
      stmts = stmts_none p owned n.statements n.calls scope.exits;
      entries = (h, tt);
      few = record { variables = few.variables; statements = few.statements; elements = few.elements };
    };
  }

  tag_has : (tag : Option Token) → HasPiece p owned f inside (add_tag tag)
  tag_has None = record { by = λ scope in_scope n stands none. piece_none p owned f inside n [] }
  tag_has (Some tag) = record {
    by = λ scope in_scope n stands none. let few = few_none n [] in record {
      stmts = stmts_none p owned n.statements n.calls scope.exits;
      entries = (tt, tt);
      few = record { variables = few.variables; statements = few.statements; elements = few.elements };
    };
  }

  written_typed : (scope : Scope) → IsScope p owned scope → (before : ℕ) (o : Option EnumeratorValue)
      → IsWritten before (option_map (λ (typing : Typing). typing scope before)
      (option_map (λ (v : EnumeratorValue). typed_conditional v.value) o))
  written_typed scope sound before None = tt
  written_typed scope sound before (Some v) = (conditional_typing p owned v.value).by scope sound before

  list_has : (functions : List Signature) (last : Option ℤ) (es : List Enumerator)
      → HasPiece p owned f inside (add_enumerator_list functions last es)
  list_has functions last [] = record {
    by = λ scope in_scope n stands none. piece_none p owned f inside n [];
  }
  list_has functions last (e ∷ es) = record {
    by = λ scope in_scope n stands none.
        let v = option_map (λ (typing : Typing). typing scope n.calls) (written_value e) in
        let z = enumerator_value last v in
        (piece_then p owned f inside (add_enumerator functions last e v)
        (add_enumerator_list functions (Some z) es)
        (piece_then p owned f inside (add_written e.name.at v)
        (add_constant functions e.name.at (name_of e.name) z)
        (written_has e.name.at n.calls v (written_typed scope in_scope.sound n.calls e.value))
        (constant_has functions e.name.at (name_of e.name) z (value_in last v)))
        (list_has functions (Some z) es)).by scope in_scope n stands none;
  }

  listed_has : (functions : List Signature) (tag : Option Token) (o : Option Enumerators)
      → HasPiece p owned f inside (add_listed functions tag o)
  listed_has functions tag None = record {
    by = λ scope in_scope n stands none. piece_none p owned f inside n _;
  }
  listed_has functions tag (Some e) = record {
    by = λ scope in_scope n stands none.
        (piece_then p owned f inside (add_tag tag)
        (add_enumerator_list functions None (enumerators_in e.list)) (tag_has tag)
        (list_has functions None (enumerators_in e.list))).by scope in_scope n stands none;
  }

  pub specifiers_part : (functions : List Signature) (s : Specifiers)
      → IsPart p owned f inside (add_specifiers functions s)
  specifiers_part functions s = record {
    piece = listed_has functions (tag_of (words_of_declaration s)) s.enumerators;
    counted = λ scope n none. let a = add_specifiers functions s scope n in
        names_counted a ((specifiers_names functions s).by scope n);
  }

  -- a part that has faults alone
  pub faults_part : (faults : Scope → List Fault)
      → IsPart p owned f inside (λ scope n. faults_added (faults scope))
  faults_part faults = record {
    piece = record { by = λ scope in_scope n stands none. piece_none p owned f inside n (faults scope) };
    counted = λ scope n none. names_counted _ (faults_names (faults scope));
  }

  pub declaration_part : (functions : List Signature) (s : Specifiers) (ds : Option Declarators)
      → IsPart p owned f inside (add_declaration functions s ds)
  declaration_part functions s ds = part_then p owned f inside (add_specifiers functions s)
      (add_optional_declarators functions (type_specified s) ds) (specifiers_part functions s)
      (optional_declarators_part p owned f inside functions (type_specified s) ds)
