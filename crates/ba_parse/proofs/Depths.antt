-- The levels of a tree's leaves, and the first that is too great.

use Rattle.std.proofs.Common.{◌≡◌, ℕ, zero, suc, ◌-◌, ◌<◌, ◌≤◌, Bool, true, false, if◌then◌else◌, List, [], ◌∷◌, ◌++◌, length, Option, None, Some, refl, sym, ap, ◌∙◌, arith, get_or, subst, ltb}
use Rattle.std.proofs.lemmas.Bool.Decides.{nat_tests}
use Rattle.std.specs.Cmp.Derive.{both_true}
use Rattle.std.specs.List.{list_all}
use Rattle.std.specs.Prelude.{nat_le}
use Rattle.ba_tokens.specs.declared.token.Token.{Token}
use Rattle.ba_trees.specs.Marks.{Mark, leaf, enter, leave, down, up, yield, levels}
use Rattle.ba_parse.proofs.Forests.{sunk, back}

abbrev IsThere : Option (List Mark) → Type 0
IsThere None = ⊥
IsThere (Some ms) = Unit {0}

pub some_is_no_none : {ms : List Mark} → Some ms ≡ None → ⊥
some_is_no_none h = subst IsThere h tt

pub same_marks : {ms ns : List Mark} → Some ms ≡ Some ns → ms ≡ ns
same_marks {ms} h = ap (λ o. from_some o) h
  where
    from_some : Option (List Mark) → List Mark
    from_some None = ms
    from_some (Some x) = x

back_is : (d : ℕ) → back d ≡ d - 1
back_is zero = refl
back_is (suc d) = omega arith

ltb_less : (n d : ℕ) → ltb n d ≡ true → n < d
ltb_less n d h = grind (arith, nat_tests, h)

ltb_no_less : (n d : ℕ) → ltb n d ≡ false → d ≤ n
ltb_no_less n d h = grind (arith, nat_tests, h)

ltb_of_less : (n d : ℕ) → d ≤ n → ltb n d ≡ false
ltb_of_less n d h = grind (arith, nat_tests, h)

-- no leaf is too deep
pub none_deep : (n d : ℕ) (f : List Mark) → sunk n d f ≡ None → (k : ℕ) → get_or (levels d f) k 0 ≤ n
none_deep n d [] h k = omega arith
none_deep n d (leaf t ∷ f) h k = here (ltb n d) refl h k (λ e j. none_deep n d f e j)
  where
    here : (x : Bool) → ltb n d ≡ x → (if x then Some (leaf t ∷ f) else sunk n d f) ≡ None → (k : ℕ) →
        (sunk n d f ≡ None → (j : ℕ) → get_or (levels d f) j 0 ≤ n) → get_or (levels d (leaf t ∷ f)) k 0 ≤ n
    here true e h k rec = absurd (some_is_no_none h)
    here false e h zero rec = ltb_no_less n d e
    here false e h (suc k) rec = rec h k
none_deep n d (enter r ∷ f) h k = none_deep n d f h k
none_deep n d (leave r ∷ f) h k = none_deep n d f h k
none_deep n d (down ∷ f) h k = none_deep n (suc d) f h k
none_deep n d (up ∷ f) h k = subst (λ e. get_or (levels e f) k 0 ≤ n) (back_is d) (none_deep n (back d) f h k)

-- the same of all leaves, as a test
pub all_accepted : (n d : ℕ) (f : List Mark) → sunk n d f ≡ None →
    list_all (λ level. nat_le level n) (levels d f) ≡ true
all_accepted n d [] h = refl
all_accepted n d (leaf t ∷ f) h = here (ltb n d) refl h (λ e. all_accepted n d f e)
  where
    here : (x : Bool) → ltb n d ≡ x → (if x then Some (leaf t ∷ f) else sunk n d f) ≡ None →
        (sunk n d f ≡ None → list_all (λ level. nat_le level n) (levels d f) ≡ true) →
        list_all (λ level. nat_le level n) (levels d (leaf t ∷ f)) ≡ true
    here true e h rest = absurd (some_is_no_none h)
    here false e h rest = both_true (grind (arith, nat_tests, e)) (rest h)
all_accepted n d (enter r ∷ f) h = all_accepted n d f h
all_accepted n d (leave r ∷ f) h = all_accepted n d f h
all_accepted n d (down ∷ f) h = all_accepted n (suc d) f h
all_accepted n d (up ∷ f) h =
    subst (λ e. list_all (λ level. nat_le level n) (levels e f) ≡ true) (back_is d)
    (all_accepted n (back d) f h)

pub deep_none : (n d : ℕ) (f : List Mark) → ((k : ℕ) → get_or (levels d f) k 0 ≤ n) → sunk n d f ≡ None
deep_none n d [] h = refl
deep_none n d (leaf t ∷ f) h =
    ap (λ b. if b then Some (leaf t ∷ f) else sunk n d f) (ltb_of_less n d (h 0))
    ∙ deep_none n d f (λ k. h (suc k))
deep_none n d (enter r ∷ f) h = deep_none n d f h
deep_none n d (leave r ∷ f) h = deep_none n d f h
deep_none n d (down ∷ f) h = deep_none n (suc d) f h
deep_none n d (up ∷ f) h = deep_none n (back d) f (λ k. subst (λ e. get_or (levels e f) k 0 ≤ n)
    (sym (back_is d)) (h k))

-- the first leaf that is too deep
pub record FirstDeep (n d : ℕ) (f ms : List Mark) : Type 0 where
  pub before : List Token
  pub refused : Token
  pub beyond : List Mark
  pub marks : ms ≡ leaf refused ∷ beyond
  pub yields : yield f ≡ before ++ refused ∷ yield beyond
  pub deep : n < get_or (levels d f) (length before) 0
  pub shallow : (j : ℕ) → j < length before → get_or (levels d f) j 0 ≤ n

leaf_deep : (n d : ℕ) (t : Token) (f ms : List Mark) (x : Bool) → ltb n d ≡ x →
    (if x then Some (leaf t ∷ f) else sunk n d f) ≡ Some ms →
    (sunk n d f ≡ Some ms → FirstDeep n d f ms) → FirstDeep n d (leaf t ∷ f) ms
leaf_deep n d t f ms true e h rec = record {
  before = [];
  refused = t;
  beyond = f;
  marks = sym (same_marks h);
  yields = refl;
  deep = ltb_less n d e;
  shallow = λ j k. absurd (omega (arith, k));
}
leaf_deep n d t f ms false e h rec =
    let r : FirstDeep n d f ms = rec h in
    record {
      before = t ∷ r.before;
      refused = r.refused;
      beyond = r.beyond;
      marks = r.marks;
      yields = ap (λ x. t ∷ x) r.yields;
      deep = r.deep;
      shallow = λ j k. at_place r j k;
    }
  where
    at_place : (r : FirstDeep n d f ms) (j : ℕ) → j < suc (length r.before) → get_or (levels d (leaf t ∷ f)) j
        0 ≤ n
    at_place r zero k = ltb_no_less n d e
    at_place r (suc j) k = r.shallow j (omega (arith, k))

pub first_deep : (n d : ℕ) (f ms : List Mark) → sunk n d f ≡ Some ms → FirstDeep n d f ms
first_deep n d [] ms h = absurd (some_is_no_none (sym h))
first_deep n d (leaf t ∷ f) ms h = leaf_deep n d t f ms (ltb n d) refl h (λ e. first_deep n d f ms e)
first_deep n d (enter r ∷ f) ms h =
    let e : FirstDeep n d f ms = first_deep n d f ms h in
    record {
      before = e.before;
      refused = e.refused;
      beyond = e.beyond;
      marks = e.marks;
      yields =
          e.yields;
      deep = e.deep;
      shallow = e.shallow;
    }
first_deep n d (leave r ∷ f) ms h =
    let e : FirstDeep n d f ms = first_deep n d f ms h in
    record {
      before = e.before;
      refused = e.refused;
      beyond = e.beyond;
      marks = e.marks;
      yields =
          e.yields;
      deep = e.deep;
      shallow = e.shallow;
    }
first_deep n d (down ∷ f) ms h =
    let e : FirstDeep n (suc d) f ms = first_deep n (suc d) f ms h in
    record {
      before = e.before;
      refused = e.refused;
      beyond = e.beyond;
      marks = e.marks;
      yields =
          e.yields;
      deep = e.deep;
      shallow = e.shallow;
    }
first_deep n d (up ∷ f) ms h =
    let e : FirstDeep n (back d) f ms = first_deep n (back d) f ms h in
    record {
      before = e.before;
      refused = e.refused;
      beyond = e.beyond;
      marks = e.marks;
      yields = e.yields;
      deep = subst (λ x. n < get_or (levels x f) (length e.before) 0) (back_is d) e.deep;
      shallow = λ j k. subst (λ x. get_or (levels x f) j 0 ≤ n) (back_is d) (e.shallow j k);
    }
