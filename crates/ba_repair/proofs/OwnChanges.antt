-- Changes of a node of these, and the facts of an expression that is changed so: they stay.
use Rattle.std.proofs.Common.{◌≡◌, ℕ, ◌-◌, ◌==◌, ℤ, pos, ◌+ℤ◌, ◌-ℤ◌, Bool, true, false, ◌&&◌, T, None, Some, List, [], ◌∷◌, ◌++◌, length, refl, sym, subst, inl, inr, arith, if◌then◌else◌}
use Rattle.std.specs.Prelude.{int_le}
use Rattle.std.proofs.lemmas.Bool.{and_from, eqb-true}
use Rattle.std.proofs.lemmas.List.{length-append}
use Rattle.ba_numbers.proofs.Conversions.{converted_in_range}
use Rattle.ba_numbers.specs.Numbers.{compares, converted, greatest_of, is_in, least_of}
use Rattle.ba_numbers.specs.Types.{shifts}
use Rattle.ba_numbers.specs.declared.numbers.BinOp.{BinOp}
use Rattle.ba_numbers.specs.declared.numbers.BinOp.TheVariants.{Mul, Div, Rem, Add, Sub, Shl, Shr, Lt, Le, Gt, Ge, Eq, Ne, And, Xor, Or}
use Rattle.ba_numbers.specs.declared.numbers.CType.{CType}
use Rattle.ba_tree.proofs.Members.{Has}
use Rattle.ba_tree.proofs.Tests.{both}
use Rattle.ba_tree.specs.Units.{operator_units}
use Rattle.ba_repair.specs.Changes.{change_here, changed_operator, changed_value, operator_here}
use Rattle.ba_repair.specs.Edits.{changes_of}
use Rattle.ba_repair.specs.Nodes.{operator_nodes}
use Rattle.ba_repair.specs.declared.listing.Change.{Change}
use Rattle.ba_repair.specs.declared.nodes.EditableNode.{EditableNode}
use Rattle.ba_repair.specs.declared.nodes.EditableNode.TheVariants as node

-- THE CHANGE OF NODE k of these, counted from 1, is one of its own. 0, and a number past the last, are none
abbrev pub Suits : Change → ℕ → List EditableNode → Type 0
Suits c k [] = Unit {0}
Suits c k (n ∷ ns) = (k ≡ 1 → Has (changes_of n) c) × Suits c (k - 1) ns

pub suits-none : (c : Change) (ns : List EditableNode) → Suits c 0 ns
suits-none c [] = tt
suits-none c (n ∷ ns) = (λ (e : 0 ≡ 1). absurd (omega (arith, e)), suits-none c ns)

pub suits-left : (c : Change) (k : ℕ) (xs ys : List EditableNode) → Suits c k (xs ++ ys) → Suits c k xs
suits-left c k [] ys h = tt
suits-left c k (x ∷ xs) ys h = (h.0, suits-left c (k - 1) xs ys h.1)

pub suits-right : (c : Change) (k : ℕ) (xs ys : List EditableNode) → Suits c k (xs ++ ys)
    → Suits c (k - length xs) ys
suits-right c k [] ys h = subst (λ i. Suits c i ys) (let e : k ≡ k - 0 = omega arith in e) h
suits-right c k (x ∷ xs) ys h = subst (λ i. Suits c i ys)
    (let e : k - 1 - length xs ≡ k - length (x ∷ xs) = omega arith in e) (suits-right c (k - 1) xs ys h.1)

pub suits-last : (c : Change) (k : ℕ) (xs ys zs : List EditableNode) → Suits c k ((xs ++ ys) ++ zs)
    → Suits c (k - length xs - length ys) zs
suits-last c k xs ys zs h = subst (λ i. Suits c i zs)
    (let all = length-append xs ys in
    let e : k - length (xs ++ ys) ≡ k - length xs - length ys = omega (arith, all) in e)
    (suits-right c k (xs ++ ys) zs h)

-- AT A NODE

-- the operators have values and right operands of the same types, and cost the same
pub record AreLike (op other : BinOp) : Type 0 where
  pub compare : compares op ≡ compares other
  pub shift : shifts op ≡ shifts other
  pub units : operator_units op ≡ operator_units other

alike : (op : BinOp) → AreLike op op
alike op = record { compare = refl; shift = refl; units = refl }

like-here : (c : Change) (k : ℕ) (op partner : BinOp) → AreLike partner op
    → (k ≡ 1 → Has (changes_of (node.Operator op partner)) c)
    → AreLike (changed_operator (change_here c k) op) op
like-here c k op partner like own = by (k == 1) (eqb-true k 1) where
  by : (b : Bool) → (b ≡ true → k ≡ 1) → AreLike (changed_operator (if b then Some c else None) op) op
  by false is = alike op
  by true is = elim (own (is refl)) [
    | inl e ↦ subst (λ x. AreLike (changed_operator (Some x) op) op) (sym e) like
    | inr none ↦ absurd none
  ]

pub like-operator : (c : Change) (k : ℕ) (op : BinOp) → Suits c k (operator_nodes op)
    → AreLike (operator_here c k op) op
like-operator c k Lt h = like-here c k Lt Le (record { compare = refl; shift = refl; units = refl }) h.0
like-operator c k Le h = like-here c k Le Lt (record { compare = refl; shift = refl; units = refl }) h.0
like-operator c k Gt h = like-here c k Gt Ge (record { compare = refl; shift = refl; units = refl }) h.0
like-operator c k Ge h = like-here c k Ge Gt (record { compare = refl; shift = refl; units = refl }) h.0
like-operator c k Eq h = like-here c k Eq Ne (record { compare = refl; shift = refl; units = refl }) h.0
like-operator c k Ne h = like-here c k Ne Eq (record { compare = refl; shift = refl; units = refl }) h.0
like-operator c k Add h = like-here c k Add Sub (record { compare = refl; shift = refl; units = refl }) h.0
like-operator c k Sub h = like-here c k Sub Add (record { compare = refl; shift = refl; units = refl }) h.0
like-operator c k Mul h = alike Mul
like-operator c k Div h = alike Div
like-operator c k Rem h = alike Rem
like-operator c k Shl h = alike Shl
like-operator c k Shr h = alike Shr
like-operator c k And h = alike And
like-operator c k Xor h = alike Xor
like-operator c k Or h = alike Or

of_T : (b : Bool) → T b → b ≡ true
of_T true h = refl
of_T false h = absurd h

-- a converted number passes the test for its range
converted-in : (t : CType) (z : ℤ) → is_in t (converted t z) ≡ true
converted-in t z = let h = converted_in_range t z in
    and_from (int_le (least_of t) (converted t z)) (int_le (converted t z) (greatest_of t))
    (of_T (int_le (least_of t) (converted t z)) h.low.le)
    (of_T (int_le (converted t z) (greatest_of t)) h.high.le)

-- a constant stays in the range of its type
abbrev StaysIn : CType → ℤ → Change → Type 0
StaysIn t z c = is_in t (changed_value (Some c) z) ≡ true

own-in : (t : CType) (z : ℤ) (c : Change) → Has (changes_of (node.Constant t z)) c → StaysIn t z c
own-in t z c (inl e) = subst (StaysIn t z) (sym e) (converted-in t (z -ℤ pos 1))
own-in t z c (inr (inl e)) = subst (StaysIn t z) (sym e) (converted-in t (z +ℤ pos 1))
own-in t z c (inr (inr none)) = absurd none

pub changed-in : (c : Change) (k : ℕ) (t : CType) (z : ℤ) → Suits c k (node.Constant t z ∷ [])
    → is_in t z ≡ true → is_in t (changed_value (change_here c k) z) ≡ true
changed-in c k t z h within = by (k == 1) (eqb-true k 1) where
  by : (b : Bool) → (b ≡ true → k ≡ 1)
      → is_in t (changed_value (if b then Some c else None) z) ≡ true
  by false is = within
  by true is = own-in t z c (h.0 (is refl))

-- SOUND PARTS of what is sound
pub first-part : (m a r : Bool) → (m && (a && r)) ≡ true → a ≡ true
first-part m a r h = (both a r (both m (a && r) h).1).0

pub second-part : (m a b r : Bool) → (m && (a && (b && r))) ≡ true → b ≡ true
second-part m a b r h = first-part a b r (both m (a && (b && r)) h).1
