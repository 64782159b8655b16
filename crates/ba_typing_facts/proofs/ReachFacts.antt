-- How deep statements nest in a row of marks, as its levels say.
-- the limit.
use Rattle.std.proofs.Common.{◌≡◌, ℕ, suc, ◌+◌, ◌≤◌, max, List, [], ◌∷◌, ◌++◌, refl, ◌∙◌, ap, arith}
use Rattle.ba_tokens.specs.declared.token.Token.{Token}
use Rattle.ba_trees.specs.Marks.{Rule, Mark, leaf, leave, node_of, one_deeper, levels}
use Rattle.ba_tree.specs.Facts.{greatest}
use Rattle.ba_typing_facts.proofs.DepthFacts.{greatest-append}
use Rattle.ba_typing_facts.proofs.LevelFacts.{IsEven, none, front, both, inside, deeper, deep_levels}

-- HOW DEEP statements nest in a row of marks: some token is as deep

pub record Reaches (k : ℕ) (f : List Mark) : Type 0 where
  pub even : IsEven f
  pub deep : (d : ℕ) → d + k ≤ max d (1 + greatest (levels d f))

pub split : {f : List Mark} (g : List Mark) → IsEven f → (d : ℕ)
    → greatest (levels d (f ++ g)) ≡ max (greatest (levels d f)) (greatest (levels d g))
split {f} g h d = ap greatest (h.joins d g) ∙ greatest-append (levels d f) (levels d g)

pub reach_both : {j k : ℕ} {f g : List Mark} → Reaches j f → Reaches k g → Reaches (max j k) (f ++ g)
reach_both {f = f} {g} h r = record {
  even = both h.even r.even;
  deep = λ d. let left = h.deep d in let right = r.deep d in let all = split g h.even d in omega
      (arith, left, right, all);
}

pub reach_left : {k : ℕ} {f g : List Mark} → Reaches k f → IsEven g → Reaches k (f ++ g)
reach_left {f = f} {g} h r = record {
  even = both h.even r;
  deep = λ d. let left = h.deep d in let all = split g h.even d in omega (arith, left, all);
}

pub reach_right : {k : ℕ} {f g : List Mark} → IsEven f → Reaches k g → Reaches k (f ++ g)
reach_right {f = f} {g} h r = record {
  even = both h r.even;
  deep = λ d. let right = r.deep d in let all = split g h d in omega (arith, right, all);
}

pub reach_front : (t : Token) → {k : ℕ} {f : List Mark} → Reaches k f → Reaches k (leaf t ∷ f)
reach_front t h = record {
  even = front t h.even;
  deep = λ d. let rest = h.deep d in omega (arith, rest);
}

pub reach_leaf : (t : Token) → {f : List Mark} → IsEven f → Reaches 1 (leaf t ∷ f)
reach_leaf t h = record { even = front t h; deep = λ d. omega arith }

pub reach_inside : (r : Rule) → {k : ℕ} {f : List Mark} → Reaches k f → Reaches k (node_of r f)
reach_inside r {k} {f} h = let end : Reaches k (f ++ leave r ∷ []) = reach_left h
    (record { joins = λ d g. refl }) in
    record { even = inside r h.even; deep = end.deep }

pub reach_deeper : {k : ℕ} {f : List Mark} → 1 ≤ k → Reaches k f → Reaches (1 + k) (one_deeper f)
reach_deeper {k} {f} one h = record {
  even = deeper h.even;
  deep = λ d. let inner = h.deep (suc d) in let same = ap greatest (deep_levels h.even d) in omega
      (arith, one, inner, same);
}

-- a brace, and what is in it
pub reach_opened : (s : Token) → {k : ℕ} {f : List Mark} → Reaches k f
    → Reaches (1 + k) (leaf s ∷ one_deeper f)
reach_opened s {k} {f} h = record {
  even = front s (deeper h.even);
  deep = λ d. let inner = h.deep (suc d) in let same = ap greatest (deep_levels h.even d) in omega
      (arith, inner, same);
}

-- a block, whose statements nest so deep
pub record IsBlock (k : ℕ) (f : List Mark) : Type 0 where
  pub even : IsEven f
  pub deep : (d : ℕ) → d + k ≤ greatest (levels d f)

pub record IsStated (k : ℕ) (f : List Mark) : Type 0 where
  pub reaches : Reaches k f
  pub one : 1 ≤ k

pub record IsControlled (k : ℕ) (f : List Mark) : Type 0 where
  pub reaches : Reaches (1 + k) f
  pub one : 1 ≤ k

pub block_is : {k : ℕ} {f : List Mark} (s t : Token) → Reaches k f
    → IsBlock k (node_of Rattle.ba_trees.specs.Marks.block (leaf s ∷ one_deeper f ++ leaf t ∷ []))
block_is {k} {f} s t h =
    let whole = front s (both (deeper h.even) (front t none)) in record {
      even = inside Rattle.ba_trees.specs.Marks.block whole;
      deep = λ d. let inner = h.deep (suc d) in let same = ap greatest (deep_levels h.even d) in
          let rest = split (leaf t ∷ []) (deeper h.even) d in
          let all = split (leave Rattle.ba_trees.specs.Marks.block ∷ []) whole d in omega
          (arith, inner, same, rest, all);
    }
