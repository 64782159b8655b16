-- Scopes that agree with the parts of a program: what a name means is there, with its type and shape.
use Rattle.std.proofs.Common.{◌≡◌, ℕ, Bool, true, false, ◌&&◌, cond, ◌==◌, Option, None, Some, List, [], ◌∷◌, ◌++◌, refl, sym, ◌∙◌, ap}
use Rattle.std.specs.Prelude.{option_map, unwrap_or, slice_get}
use Rattle.std.proofs.lemmas.Bool.{and_parts}
use Rattle.std.proofs.lemmas.Option.{get_or_from_slice_get, cond_some}
use Rattle.ba_numbers.specs.declared.ids.VarId.{VarId}
use Rattle.ba_numbers.specs.Numbers.{is_in}
use Rattle.ba_numbers.specs.declared.numbers.CType.{CType}
use Rattle.ba_numbers.specs.declared.numbers.CType.TheVariants.{I32}
use Rattle.ba_tree.specs.Facts.{has_variable, holds, shape_at, type_at, is_value, is_array, is_value_shape, is_array_shape, is_passed_shape}
use Rattle.ba_numbers.specs.Types.{same_type}
use Rattle.ba_tree.specs.declared.tree.Function.{Function}
use Rattle.ba_tree.specs.declared.tree.Parts.{Parts}
use Rattle.ba_tree.specs.declared.tree.Shape.{Shape}
use Rattle.ba_tree.specs.declared.tree.Shape.TheVariants.{Value, Array, Passed}
use Rattle.ba_tree.specs.declared.tree.Variable.{Variable}
use Rattle.ba_typing.specs.Expressions.{array_given, named_array}
use Rattle.ba_typing.specs.Names.{Scope, meaning_of, meaning_of_entity, meaning_or, function_or_unknown, is_declared_in, is_named, last_entry, definition_in, is_main_name, is_array_object}
use Rattle.ba_typing.specs.declared.meanings.Meaning.{Meaning}
use Rattle.ba_typing.specs.declared.meanings.Meaning.TheVariants as meaning
use Rattle.ba_typing.specs.declared.meanings.Entity.{Entity}
use Rattle.ba_typing.specs.declared.meanings.Entity.TheVariants as entity
use Rattle.ba_typing.specs.declared.meanings.Entry.{Entry}
use Rattle.ba_typing.specs.declared.meanings.Object.{Object}
use Rattle.ba_typing.specs.declared.meanings.Space.{Space}
use Rattle.ba_typing.specs.declared.meanings.Space.TheVariants as space
use Rattle.ba_typing.specs.declared.meanings.ParamType.{ParamType}
use Rattle.ba_typing.specs.declared.meanings.Signature.{Signature}
use Rattle.ba_typing_facts.proofs.OperatorFacts.{same_type-equal}

-- VARIABLES AND CONSTANTS

-- the number of a variable names it, and it is among these
pub record IsObject (p : Parts) (owned : List VarId) (o : Object) : Type 0 where
  pub place : slice_get p.variables o.var.0 ≡ Some o.variable
  pub is_owned : has_variable owned o.var ≡ true

-- a constant's value is one of I32
abbrev pub IsEntity : Parts → List VarId → Entity → Type 0
IsEntity p owned (entity.Variable o) = IsObject p owned o
IsEntity p owned (entity.Constant z) = is_in I32 z ≡ true
IsEntity p owned entity.Tag = Unit {0}

abbrev pub AreEntries : Parts → List VarId → List Entry → Type 0
AreEntries p owned [] = Unit {0}
AreEntries p owned (e ∷ es) = IsEntity p owned e.entity × AreEntries p owned es

pub entries-append : (p : Parts) (owned : List VarId) (es fs : List Entry)
    → AreEntries p owned es → AreEntries p owned fs → AreEntries p owned (es ++ fs)
entries-append p owned [] fs h k = k
entries-append p owned (e ∷ es) fs h k = (h.0, entries-append p owned es fs h.1 k)

-- FUNCTIONS

-- a parameter has the type, and is a value or an array, as the declaration says
pub record FitsParam (p : Parts) (v : VarId) (q : ParamType) : Type 0 where
  pub typed : q.t ≡ Some (type_at p v)
  pub shape : holds (cond q.is_array is_passed_shape is_value_shape) (shape_at p v) ≡ true

abbrev pub FitParams : Parts → List VarId → List ParamType → Type 0
FitParams p [] [] = Unit {0}
FitParams p [] (q ∷ qs) = ⊥
FitParams p (v ∷ vs) [] = ⊥
FitParams p (v ∷ vs) (q ∷ qs) = FitsParam p v q × FitParams p vs qs

-- the number of a definition names its function, which is not main
pub record IsFunction (p : Parts) (s : Signature) : Type 0 where
  pub definition : Function
  pub place : slice_get p.functions s.function.0 ≡ Some definition
  pub result : definition.result ≡ s.result
  pub params : FitParams p definition.params (unwrap_or s.params [])
  pub other : (s.function.0 == p.main.0) ≡ false

-- SCOPES

pub record IsScope (p : Parts) (owned : List VarId) (scope : Scope) : Type 0 where
  pub entries : AreEntries p owned scope.known
  pub functions : (name : List ℕ) (s : Signature) → definition_in scope.functions name ≡ Some s
      → is_main_name name ≡ false → IsFunction p s

abbrev pub IsMeaning : Parts → List VarId → Meaning → Type 0
IsMeaning p owned meaning.Unknown = Unit {0}
IsMeaning p owned meaning.Function = Unit {0}
IsMeaning p owned (meaning.Variable o) = IsObject p owned o
IsMeaning p owned (meaning.Constant z) = is_in I32 z ≡ true

module _ (p : Parts) (owned : List VarId) where
  abbrev IsLast : Option Entry → Type 0
  IsLast None = Unit {0}
  IsLast (Some e) = IsEntity p owned e.entity

  chosen_last : (b : Bool) (e : Entry) (last : Option Entry) → IsEntity p owned e.entity → IsLast last
      → IsLast (cond b (Some e) last)
  chosen_last true e last h k = h
  chosen_last false e last h k = k

  last_is : (within : Space) (name : List ℕ) (es : List Entry) (last : Option Entry) → AreEntries p owned es
      → IsLast last → IsLast (last_entry within name es last)
  last_is within name [] last h k = k
  last_is within name (e ∷ es) last h k =
      last_is within name es (cond (is_named within name e) (Some e) last) h.1
      (chosen_last (is_named within name e) e last h.0 k)

  other_meaning : (b : Bool) → IsMeaning p owned (function_or_unknown b)
  other_meaning true = tt
  other_meaning false = tt

  entity_meaning : (e : Entity) → IsEntity p owned e → IsMeaning p owned (meaning_of_entity e)
  entity_meaning (entity.Variable o) h = h
  entity_meaning (entity.Constant z) h = h
  entity_meaning entity.Tag h = tt

  meaning_from : (o : Option Entry) (b : Bool) → IsLast o → IsMeaning p owned (meaning_or o
      (function_or_unknown b))
  meaning_from None b h = other_meaning b
  meaning_from (Some e) b h = entity_meaning e.entity h

  pub meaning_is : (scope : Scope) → IsScope p owned scope → (name : List ℕ) → IsMeaning p owned
      (meaning_of scope name)
  meaning_is scope h name = meaning_from (last_entry space.Ordinary name scope.known None)
      (is_declared_in scope.functions name) (last_is space.Ordinary name scope.known None h.entries tt)

  -- what the parts say of a variable in scope
  module _ (o : Object) (h : IsObject p owned o) where
    pub shape_is : shape_at p o.var ≡ Some o.variable.shape
    shape_is = ap (option_map (λ (w : Variable). w.shape)) h.place

    pub type_is : type_at p o.var ≡ o.variable.t
    type_is = ap (λ (w : Variable). w.t) (get_or_from_slice_get p.variables o.var.0 o.variable _ h.place)

    value_from : (s : Shape) → is_array_shape s ≡ false → is_value_shape s ≡ true
    value_from Value k = refl
    value_from (Array n) k = cc
    value_from Passed k = cc

    pub value_is : is_array_object o ≡ false → is_value p o.var ≡ true
    value_is k = ap (holds is_value_shape) shape_is ∙ value_from o.variable.shape k

    pub array_is : is_array_object o ≡ true → is_array p o.var ≡ true
    array_is k = ap (holds is_array_shape) shape_is ∙ k

  -- an array that is given for a parameter of this element type
  pub record IsGiven (v : VarId) (t : CType) : Type 0 where
    pub is_owned : has_variable owned v ≡ true
    pub array : is_array p v ≡ true
    pub typed : type_at p v ≡ t

  given_meaning : (t : CType) (m : Meaning) → IsMeaning p owned m → (v : VarId) → array_given (Some t) m
      ≡ Some v
      → IsGiven v t
  given_meaning t meaning.Unknown h v k = cc
  given_meaning t meaning.Function h v k = cc
  given_meaning t (meaning.Constant z) h v k = cc
  given_meaning t (meaning.Variable o) h v k =
      let both = cond_some (is_array_object o && same_type o.variable.t t) o.var v k in
      let parts = and_parts (is_array_object o) (same_type o.variable.t t) both.0 in record {
        is_owned = ap (has_variable owned) (sym both.1) ∙ h.is_owned;
        array = ap (is_array p) (sym both.1) ∙ array_is o h parts.0;
        typed = ap (type_at p) (sym both.1) ∙ type_is o h ∙ same_type-equal o.variable.t t parts.1;
      }

  pub given_is : (scope : Scope) → IsScope p owned scope → (t : CType) (name : Option (List ℕ)) (v : VarId)
      → named_array scope (Some t) name ≡ Some v → IsGiven v t
  given_is scope h t None v k = cc
  given_is scope h t (Some name) v k = given_meaning t (meaning_of scope name) (meaning_is scope h name) v k

  -- the scope after a declaration
  pub knowing_is : (scope : Scope) (entries : List Entry) → IsScope p owned scope → AreEntries p owned entries
      → IsScope p owned (record scope { known = scope.known ++ entries })
  knowing_is scope entries h k = record {
    entries = entries-append p owned scope.known entries h.entries k;
    functions = h.functions;
  }
