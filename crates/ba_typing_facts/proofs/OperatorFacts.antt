-- What is said of an expression holds of its typed tree, if there is no fault in it: operands and operators.
use Rattle.std.proofs.Common.{◌≡◌, ℕ, ◌+◌, ◌≤◌, ℤ, max, Bool, true, false, ◌&&◌, ◌||◌, cond, Option, None, Some, List, [], ◌∷◌, flat_map, refl, ◌∙◌, ap, arith}
use Rattle.std.specs.List.{range_with_len}
use Rattle.std.proofs.lemmas.Bool.{and_from, and_parts}
use Rattle.ba_numbers.specs.Numbers.{is_in}
use Rattle.ba_numbers.specs.declared.ids.At.{At}
use Rattle.ba_numbers.specs.declared.ids.VarId.{VarId}
use Rattle.ba_numbers.specs.declared.numbers.BinOp.{BinOp}
use Rattle.ba_numbers.specs.declared.numbers.CType.{CType}
use Rattle.ba_numbers.specs.declared.numbers.CType.TheVariants.{I8, U8, I16, U16, I32, U32}
use Rattle.ba_numbers.specs.declared.numbers.UnOp.{UnOp}
use Rattle.ba_numbers.specs.Types.{is_promoted, same_type, shifts, type_of_binary, type_of_unary}
use Rattle.ba_tree.specs.Facts.{fits_right}
use Rattle.ba_tree.specs.declared.tree.Parts.{Parts}
use Rattle.ba_typing.specs.Expressions.{Typed, tree_as, typed_unary, typed_cast, typed_value, typed_binary, typed_select, typed_constant, with_more_faults}
use Rattle.ba_numbers.specs.Types.{promoted, usual, is_u32, working_type, right_type}
use Rattle.ba_typing.specs.declared.fault.Fault.{Fault}
use Rattle.ba_typing.specs.declared.names.Operator.{Operator}
use Rattle.ba_typing.specs.declared.names.Operator.TheVariants as operator
use Rattle.ba_tree.specs.Trees.{ExprTree}
use Rattle.ba_tree.specs.Trees as tree
use Rattle.ba_typing_facts.proofs.TreeFacts.{facts_of}
use Rattle.ba_typing_facts.proofs.FittingFacts.{Fits, operator_fits, nil_left, nil_right}

-- TYPES

pub same_type-equal : (s t : CType) → same_type s t ≡ true → s ≡ t
same_type-equal I8 I8 h = refl
same_type-equal U8 U8 h = refl
same_type-equal I16 I16 h = refl
same_type-equal U16 U16 h = refl
same_type-equal I32 I32 h = refl
same_type-equal U32 U32 h = refl
same_type-equal s t h = cc

pub same_type-self : (t : CType) → same_type t t ≡ true
same_type-self I8 = refl
same_type-self U8 = refl
same_type-self I16 = refl
same_type-self U16 = refl
same_type-self I32 = refl
same_type-self U32 = refl

pub same_type-of : {s t : CType} → s ≡ t → same_type s t ≡ true
same_type-of {s} {t} e = ap (λ u. same_type u t) e ∙ same_type-self t

pub promoted_is : (t : CType) → is_promoted (promoted t) ≡ true
promoted_is I8 = refl
promoted_is U8 = refl
promoted_is I16 = refl
promoted_is U16 = refl
promoted_is I32 = refl
promoted_is U32 = refl

pub usual_is : (s t : CType) → is_promoted (usual s t) ≡ true
usual_is s t = elim (is_u32 s || is_u32 t) as (λ b. is_promoted (cond b U32 I32)
    ≡ true) [ true ↦ refl | false ↦ refl ]

pub working_is : (op : BinOp) (s t : CType) → is_promoted (working_type op s t) ≡ true
working_is op s t = elim (shifts op) as (λ b. is_promoted (cond b (promoted s) (usual s t)) ≡ true)
    [ true ↦ promoted_is s | false ↦ usual_is s t ]

-- the right operand's type fits
pub right_is : (op : BinOp) (s t : CType) → fits_right op (working_type op s t) (right_type op s t) ≡ true
right_is op s t = elim (shifts op)
    as (λ b. cond b (is_promoted (cond b (promoted t) (usual s t)))
    (same_type (cond b (promoted t) (usual s t)) (cond b (promoted s) (usual s t))) ≡ true)
    [ true ↦ promoted_is t | false ↦ same_type-self (usual s t) ]

-- TREES

-- the tree has this type, and fits
pub record IsTyped (p : Parts) (owned : List VarId) (before count height : ℕ) (constant : Bool) (t : CType)
    (e : ExprTree) : Type 0 where
  pub fits : Fits owned before count height constant (facts_of p e)
  pub typed : (facts_of p e).t ≡ t

-- an array argument may be a name, which has no call
pub record IsBare (e : Typed) : Type 0 where
  pub calls : e.calls ≡ 0
  pub height : 1 ≤ e.height

-- what is said of an expression after so many calls
pub record IsWellTyped (p : Parts) (owned : List VarId) (before : ℕ) (e : Typed) : Type 0 where
  pub named : (name : List ℕ) → e.name ≡ Some name → IsBare e
  pub right : e.faults ≡ [] → IsTyped p owned before e.calls e.height e.is_constant e.t e.tree

-- expressions without a fault
abbrev pub AreClean : List Typed → Type 0
AreClean [] = Unit {0}
AreClean (e ∷ es) = (e.faults ≡ []) × AreClean es

pub clean : (es : List Typed) → flat_map (λ (e : Typed). e.faults) es ≡ [] → AreClean es
clean [] h = tt
clean (e ∷ es) h = let rest = flat_map (λ (e : Typed). e.faults) es in
    (nil_left e.faults rest h, clean es (nil_right e.faults rest h))

module _ (p : Parts) (owned : List VarId) where
  -- a conversion to this type
  pub as_typed : {before count height : ℕ} {constant : Bool} (e : Typed) (t : CType)
      → IsTyped p owned before count height constant e.t e.tree
      → IsTyped p owned before count height constant t (tree_as t e)
  as_typed {before} {count} {height} {constant} e t h =
      from (same_type e.t t) (same_type-equal e.t t) where
        from : (b : Bool) → (b ≡ true → e.t ≡ t)
            → IsTyped p owned before count height constant t (cond b e.tree (tree.convert t e.tree))
        from true same = record { fits = h.fits; typed = h.typed ∙ same refl }
        from false same = record {
          fits = record {
            sound = h.fits.sound;
            low = h.fits.low;
            names = h.fits.names;
            numbers = h.fits.numbers;
            plain = h.fits.plain;
          };
          typed = refl;
        }

  no_name : {e : Typed} (name : List ℕ) → None ≡ Some name → IsBare e
  no_name name h = cc

  module _ (before : ℕ) where
    -- an operator that leaves no trace in the tree
    wrapped : {count height : ℕ} {constant : Bool} {t : CType} {e : ExprTree}
        → IsTyped p owned before count height constant t e
        → IsTyped p owned before (0 + count) (1 + max height 0) (constant && true) t e
    wrapped {count} {height} {constant} h = record {
      fits = record {
        sound = h.fits.sound;
        low = let low = h.fits.low in omega (arith, low);
        names = h.fits.names;
        numbers = h.fits.numbers ∙ ap (range_with_len (before + 1)) (let e : count
            ≡ 0 + count = omega arith in e);
        plain = λ both. h.fits.plain (and_parts constant true both).0;
      };
      typed = h.typed;
    }

    pub unary_typed : (at : At) (op : Option UnOp) (a : Typed) → IsWellTyped p owned before a
        → IsWellTyped p owned before (typed_unary at op a)
    unary_typed at None a h = record {
      named = no_name;
      right = λ none. wrapped (as_typed a (promoted a.t) (h.right (clean (a ∷ []) none).0));
    }
    unary_typed at (Some op) a h = record {
      named = no_name;
      right = λ none. let x = as_typed a (promoted a.t) (h.right (clean (a ∷ []) none).0) in record {
        fits = operator_fits owned before (a ∷ []) (facts_of p (tree_as (promoted a.t) a) ∷ [])
            (type_of_unary op (promoted a.t)) _ (x.fits, tt)
            (and_from _ _ (promoted_is a.t) (same_type-of x.typed));
        typed = refl;
      };
    }

    -- faults of something in it that is no expression
    pub more_typed : (faults : List Fault) (a : Typed) → IsWellTyped p owned before a
        → IsWellTyped p owned before (with_more_faults faults a)
    more_typed faults a h = record {
      named = λ name is. let b = h.named name is in record { calls = b.calls; height = b.height };
      right = λ none. h.right (nil_right faults a.faults none);
    }

    pub cast_typed : (at : At) (t : Option CType) (a : Typed) → IsWellTyped p owned before a
        → IsWellTyped p owned before (typed_cast at t a)
    cast_typed at None a h = record { named = no_name; right = λ wrong. cc }
    cast_typed at (Some t) a h = record {
      named = no_name;
      right = λ none. wrapped (as_typed a t (h.right (clean (a ∷ []) none).0));
    }

    module _ (a b : Typed) (left : IsWellTyped p owned before a) (right : IsWellTyped p owned (before +
        a.calls) b) where
      pub value_typed : (op : BinOp) → IsWellTyped p owned before (typed_value op a b)
      value_typed op = let t = working_type op a.t b.t in let s = right_type op a.t b.t in record {
        named = no_name;
        right = λ none. let each = clean (a ∷ b ∷ []) none in
            let x = as_typed a t (left.right each.0) in
            let y = as_typed b s (right.right each.1.0) in record {
              fits = operator_fits owned before (a ∷ b ∷ [])
                  (facts_of p (tree_as t a) ∷ facts_of p (tree_as s b) ∷ [])
                  (type_of_binary op t) _ (x.fits, (y.fits, tt))
                  (and_from _ _ (and_from _ _ (working_is op a.t b.t) (same_type-of x.typed))
                  (ap (fits_right op t) y.typed ∙ right_is op a.t b.t));
              typed = refl;
            };
      }

      pub binary_typed : (op : Operator) → IsWellTyped p owned before (typed_binary op a b)
      binary_typed (operator.Value op) = value_typed op
      binary_typed operator.AndAlso = record {
        named = no_name;
        right = λ none. let each = clean (a ∷ b ∷ []) none in
            let x = as_typed a (promoted a.t) (left.right each.0) in
            let y = as_typed b (promoted b.t) (right.right each.1.0) in record {
              fits = operator_fits owned before (a ∷ b ∷ [])
                  (facts_of p (tree_as (promoted a.t) a) ∷ facts_of p (tree_as (promoted b.t) b) ∷ [])
                  I32 true (x.fits, (y.fits, tt)) refl;
              typed = refl;
            };
      }
      binary_typed operator.OrElse = record {
        named = no_name;
        right = λ none. let each = clean (a ∷ b ∷ []) none in
            let x = as_typed a (promoted a.t) (left.right each.0) in
            let y = as_typed b (promoted b.t) (right.right each.1.0) in record {
              fits = operator_fits owned before (a ∷ b ∷ [])
                  (facts_of p (tree_as (promoted a.t) a) ∷ facts_of p (tree_as (promoted b.t) b) ∷ [])
                  I32 true (x.fits, (y.fits, tt)) refl;
              typed = refl;
            };
      }

    pub select_typed : (when a b : Typed) → IsWellTyped p owned before when →
        IsWellTyped p owned (before + when.calls) a
        → IsWellTyped p owned (before + when.calls + a.calls) b →
        IsWellTyped p owned before (typed_select when a b)
    select_typed when a b test holds fails = let t = usual a.t b.t in record {
      named = no_name;
      right = λ none. let each = clean (when ∷ a ∷ b ∷ []) none in
          let w = test.right each.0 in
          let x = as_typed a t (holds.right each.1.0) in
          let y = as_typed b t (fails.right each.1.1.0) in record {
            fits = operator_fits owned before (when ∷ a ∷ b ∷ [])
                (facts_of p when.tree ∷ facts_of p (tree_as t a) ∷ facts_of p (tree_as t b) ∷ [])
                t _ (w.fits, (x.fits, (y.fits, tt)))
                (and_from _ _ (and_from _ _ (usual_is a.t b.t) (same_type-of x.typed))
                (same_type-of y.typed));
            typed = refl;
          };
    }

    pub constant_typed : (at : At) (t : CType) (z : ℤ) → is_in t z ≡ true
        → IsWellTyped p owned before (typed_constant at t z)
    constant_typed at t z within = record {
      named = no_name;
      right = λ none. record {
        fits = operator_fits owned before [] [] t (is_in t z) tt within;
        typed = refl;
      };
    }
