-- Lengths of arrays: a good one is from 1 to 256, has no calls, and has room for the values.
use Rattle.std.proofs.Common.{◌≡◌, ℕ, suc, zero, ◌+◌, ◌≤◌, ℤ, pos, negsuc, unsigned_abs, Bool, true, false, ◌&&◌, cond, Option, None, Some, List, [], map, refl, sym, ◌∙◌, ap, subst, arith, nat_le, option_map, unwrap_or}
use Rattle.std.specs.List.{range_with_len}
use Rattle.std.specs.Option.{is_some}
use Rattle.std.proofs.lemmas.Bool.{ltb-false}
use Rattle.std.proofs.lemmas.Option.{same_Some}
use Rattle.ba_numbers.specs.declared.ids.At.{At}
use Rattle.ba_numbers.specs.declared.ids.VarId.{VarId}
use Rattle.ba_trees.specs.declared.tree.declarations.ArrayLength.{ArrayLength}
use Rattle.ba_trees.specs.declared.tree.expressions.Conditional.{Conditional}
use Rattle.ba_tree.specs.Facts.{is_array_length}
use Rattle.ba_tree.specs.declared.tree.Parts.{Parts}
use Rattle.ba_tree.specs.declared.tree.Shape.TheVariants.{Array}
use Rattle.ba_typing.specs.Declarations.{is_length, length_in_range, written_length, TypedLength, typed_written_length, typed_counted_length, typed_length, typed_array_length, shape_of, written_count, exceeds, Before, length_faults}
use Rattle.ba_typing.specs.Expressions.{Typed, typed_conditional}
use Rattle.ba_typing.specs.Faults.{limit_faults, height_limit}
use Rattle.ba_typing.specs.Names.{Scope}
use Rattle.ba_typing_facts.proofs.ExpressionFacts.{conditional_typing}
use Rattle.ba_typing_facts.proofs.FittingFacts.{nil_right}
use Rattle.ba_typing_facts.proofs.ScopeFacts.{IsScope}
use Rattle.ba_typing_facts.proofs.OperatorFacts.{IsWellTyped}

-- LENGTHS of arrays

in_range : (z : ℤ) → is_length z ≡ true → (nat_le 1 (unsigned_abs z) && nat_le (unsigned_abs z) 256) ≡ true
in_range (pos n) h = h
in_range (negsuc n) h = cc

range_of : (o : Option ℤ) → is_array_length (Array (unwrap_or (length_in_range o) 1)) ≡ true
range_of None = refl
range_of (Some z) = from (is_length z) (in_range z) where
  from : (b : Bool) → (b ≡ true → (nat_le 1 (unsigned_abs z) && nat_le (unsigned_abs z) 256) ≡ true)
      → is_array_length (Array (unwrap_or (cond b (Some (unsigned_abs z)) None) 1)) ≡ true
  from true h = h refl
  from false h = refl

written_range : (e : Typed) → is_array_length (Array (unwrap_or (written_length e) 1)) ≡ true
written_range e = from e.is_constant (range_of e.value) where
  from : (b : Bool) → is_array_length (Array (unwrap_or (length_in_range e.value) 1)) ≡ true
      → is_array_length (Array (unwrap_or (cond b (length_in_range e.value) None) 1)) ≡ true
  from true h = h
  from false h = refl

-- the length of an array is in its range
pub shape_range : (at : At) (values : Option ℕ) (scope : Scope) (calls : ℕ) (o : Option ArrayLength)
    → is_array_length (shape_of (typed_array_length at values scope calls o)) ≡ true
shape_range at values scope calls None = refl
shape_range at values scope calls (Some l) = from l.length where
  from : (o : Option Conditional) → is_array_length (shape_of (Some (typed_length at values o scope calls)))
      ≡ true
  from None = range_of (option_map pos values)
  from (Some e) = written_range (typed_conditional e scope calls)

-- a length without a fault is there
pub good_count : (n : Before) (at : At) (o : Option ℕ) → length_faults n at o ≡ [] → is_some o ≡ true
good_count n at None h = cc
good_count n at (Some c) h = refl

pub same_count : (o : Option ℕ) → is_some o ≡ true → unwrap_or o 1 ≡ unwrap_or o 0
same_count None h = cc
same_count (Some c) h = refl

range_empty : (a n : ℕ) → [] ≡ range_with_len a n → n ≡ 0
range_empty a zero h = refl
range_empty a (suc n) h = cc

-- a good length has no calls, and room for these values
pub record IsLength (values : Option ℕ) (l : TypedLength) : Type 0 where
  pub no_calls : l.faults ≡ [] → is_some l.count ≡ true → l.calls ≡ 0
  pub room : (k : ℕ) → values ≡ Some k → is_some l.count ≡ true → exceeds (written_count (Some l)) k ≡ false
      → k ≤ unwrap_or l.count 1

room_in : (o : Option ℕ) (k : ℕ) → is_some o ≡ true → exceeds o k ≡ false → k ≤ unwrap_or o 1
room_in None k some h = cc
room_in (Some c) k some h = ltb-false c k h

counted_room : (b : Bool) (k : ℕ) → is_some (cond b (Some k) None) ≡ true → k ≤ unwrap_or (cond b
    (Some k) None) 1
counted_room true k some = omega arith
counted_room false k some = cc

-- what has a value as a constant is constant
pub some_constant : {A : Type 0} (b : Bool) (o : Option A) → is_some (cond b o None) ≡ true → b ≡ true
some_constant true o h = refl
some_constant false o h = cc

module _ (p : Parts) (owned : List VarId) where
  pub constant_calls : (before : ℕ) (e : Typed) → IsWellTyped p owned before e → e.faults ≡ [] →
      e.is_constant ≡ true
      → e.calls ≡ 0
  constant_calls before e h none is =
      let x = (h.right none).fits in
      range_empty (before + 1) e.calls
      (ap (map (λ (c : Rattle.ba_numbers.specs.declared.ids.CallId.CallId). c.0)) (sym (x.plain is).1)
      ∙ x.numbers)

  written_is : (at : At) (values : Option ℕ) (before : ℕ) (e : Typed) → IsWellTyped p owned before e
      → IsLength values (typed_written_length at e)
  written_is at values before e h = record {
    no_calls = λ none some. constant_calls before e h (nil_right
        (limit_faults height_limit e.height at) e.faults none)
        (some_constant e.is_constant (length_in_range e.value) some);
    room = λ k is some fits. room_in (written_length e) k some fits;
  }

  counted_is : (values : Option ℕ) → IsLength values (typed_counted_length values)
  counted_is None = record {
    no_calls = λ none some. refl;
    room = λ k is some fits. cc;
  }
  counted_is (Some n) = record {
    no_calls = λ none some. refl;
    room = λ k is some fits. subst (λ i. i ≤ unwrap_or (length_in_range (Some (pos n))) 1) (same_Some n k is)
        (counted_room (is_length (pos n)) n some);
  }

  length_is : (scope : Scope) → IsScope p owned scope → (at : At) (values : Option ℕ) (calls : ℕ)
      (o : Option Conditional)
      → IsLength values (typed_length at values o scope calls)
  length_is scope sound at values calls None = counted_is values
  length_is scope sound at values calls (Some e) = written_is at values calls (typed_conditional e scope
      calls)
      ((conditional_typing p owned e).by scope sound calls)

  -- of an array, if it is one
  abbrev pub IsLengthOf : Option ℕ → Option TypedLength → Type 0
  IsLengthOf values None = Unit {0}
  IsLengthOf values (Some l) = IsLength values l

  pub array_length_is : (scope : Scope) → IsScope p owned scope → (at : At) (values : Option ℕ) (calls : ℕ)
      (o : Option ArrayLength) → IsLengthOf values (typed_array_length at values scope calls o)
  array_length_is scope sound at values calls None = tt
  array_length_is scope sound at values calls (Some l) = length_is scope sound at values calls l.length
