-- Trees written out: leaves, levels and lost elses of what is put together.

use Rattle.std.proofs.Common.{◌≡◌, ℕ, zero, suc, ◌<◌, Bool, true, false, not, ◌&&◌, if◌then◌else◌, List, [], ◌∷◌, ◌++◌, Option, None, Some, refl, sym, ap, ◌∙◌, arith, append_assoc, append-nil, map, ltb}
use Rattle.std.proofs.lemmas.Bool.Decides.{nat_tests}
use Rattle.ba_tokens.specs.declared.token.Token.{Token}
use Rattle.ba_trees.specs.Marks.{Rule, Mark, leaf, enter, leave, down, up, node_of, one_deeper, yield, first_or, is_else, is_no_else, no_else_lost}
use Rattle.ba_parse.specs.Grammar.{Part, Spells, is_nothing, is_token, is_words, is_node, is_rule, is_after, is_first, is_second, is_none, is_more, is_deeper}

-- LEAVES

pub yield_append : (f g : List Mark) → yield (f ++ g) ≡ yield f ++ yield g
yield_append [] g = refl
yield_append (leaf t ∷ f) g = ap (λ ts. t ∷ ts) (yield_append f g)
yield_append (enter r ∷ f) g = yield_append f g
yield_append (leave r ∷ f) g = yield_append f g
yield_append (down ∷ f) g = yield_append f g
yield_append (up ∷ f) g = yield_append f g

pub yield_node : (r : Rule) (f : List Mark) → yield (node_of r f) ≡ yield f
yield_node r f = yield_append f (leave r ∷ []) ∙ append-nil (yield f)

pub yield_deeper : (f : List Mark) → yield (one_deeper f) ≡ yield f
yield_deeper f = yield_append f (up ∷ []) ∙ append-nil (yield f)

pub yield_leaves : (ts : List Token) → yield (map leaf ts) ≡ ts
yield_leaves [] = refl
yield_leaves (t ∷ ts) = ap (λ us. t ∷ us) (yield_leaves ts)

pub first_or_append : (ts us : List Token) (next : Option Token) → first_or (ts ++ us) next ≡ first_or ts
    (first_or us next)
first_or_append [] us next = refl
first_or_append (t ∷ ts) us next = refl

-- LOST ELSES

and_assoc : (a b c : Bool) → ((a && b) && c) ≡ (a && (b && c))
and_assoc true b c = refl
and_assoc false b c = refl

pub pairs_append : (f g : List Mark) (next : Option Token) →
    no_else_lost (f ++ g) next ≡ (no_else_lost f (first_or (yield g) next) && no_else_lost g next)
pairs_append [] g next = refl
pairs_append (leaf t ∷ f) g next = pairs_append f g next
pairs_append (enter r ∷ f) g next = pairs_append f g next
pairs_append (leave r ∷ f) g next =
    let here : first_or (yield (f ++ g)) next ≡ first_or (yield f) (first_or (yield g) next) =
    ap (λ ts. first_or ts next) (yield_append f g) ∙ first_or_append (yield f) (yield g) next in
    ap (λ o. not (is_no_else r && is_else o) && no_else_lost (f ++ g) next) here
    ∙ ap (λ b. not (is_no_else r && is_else (first_or (yield f) (first_or (yield g) next))) && b)
    (pairs_append f g next)
    ∙ sym (and_assoc (not (is_no_else r && is_else (first_or (yield f) (first_or (yield g) next))))
    (no_else_lost f (first_or (yield g) next)) (no_else_lost g next))
pairs_append (down ∷ f) g next = pairs_append f g next
pairs_append (up ∷ f) g next = pairs_append f g next

-- LEVELS: the marks from the first leaf on around which more than n constructs are, if d are around the whole

abbrev pub back : ℕ → ℕ
back zero = zero
back (suc d) = d

abbrev pub sunk : ℕ → ℕ → List Mark → Option (List Mark)
sunk n d [] = None
sunk n d (leaf t ∷ ms) = if ltb n d then Some (leaf t ∷ ms) else sunk n d ms
sunk n d (enter r ∷ ms) = sunk n d ms
sunk n d (leave r ∷ ms) = sunk n d ms
sunk n d (down ∷ ms) = sunk n (suc d) ms
sunk n d (up ∷ ms) = sunk n (back d) ms

-- the marks from the first leaf on
abbrev pub from_leaf : List Mark → Option (List Mark)
from_leaf [] = None
from_leaf (leaf t ∷ ms) = Some (leaf t ∷ ms)
from_leaf (enter r ∷ ms) = from_leaf ms
from_leaf (leave r ∷ ms) = from_leaf ms
from_leaf (down ∷ ms) = from_leaf ms
from_leaf (up ∷ ms) = from_leaf ms

abbrev pub or_tail : Option (List Mark) → List Mark → Option (List Mark) → Option (List Mark)
or_tail None g other = other
or_tail (Some ms) g other = Some (ms ++ g)

or_tail_assoc : (x : Option (List Mark)) (g h : List Mark) (y z : Option (List Mark)) →
    or_tail x (g ++ h) (or_tail y h z) ≡ or_tail (or_tail x g y) h z
or_tail_assoc None g h y z = refl
or_tail_assoc (Some ms) g h y z = ap Some (sym (append_assoc ms g h))

-- past one mark more, after which nothing is
or_tail_mark : (x : Option (List Mark)) (m : Mark) (g : List Mark) (z : Option (List Mark)) →
    or_tail x (m ∷ g) z ≡ or_tail (or_tail x (m ∷ []) None) g z
or_tail_mark None m g z = refl
or_tail_mark (Some ms) m g z = ap Some (sym (append_assoc ms (m ∷ []) g))

from_leaf_append : (f g : List Mark) → from_leaf (f ++ g) ≡ or_tail (from_leaf f) g (from_leaf g)
from_leaf_append [] g = refl
from_leaf_append (leaf t ∷ f) g = refl
from_leaf_append (enter r ∷ f) g = from_leaf_append f g
from_leaf_append (leave r ∷ f) g = from_leaf_append f g
from_leaf_append (down ∷ f) g = from_leaf_append f g
from_leaf_append (up ∷ f) g = from_leaf_append f g

-- brackets close where they open
pub record IsEven (f : List Mark) : Type 0 where
  pub joins : (n d : ℕ) (g : List Mark) → sunk n d (f ++ g) ≡ or_tail (sunk n d f) g (sunk n d g)
  pub shifts : (n d : ℕ) → sunk (suc n) (suc d) f ≡ sunk n d f
  pub sinks : (n d : ℕ) → n < d → sunk n d f ≡ from_leaf f

even_nil : IsEven []
even_nil = record { joins = λ n d g. refl; shifts = λ n d. refl; sinks = λ n d h. refl }

leaf_joins : (b : Bool) (t : Token) (g : List Mark) (z : Option (List Mark)) →
    (if b then Some (leaf t ∷ g) else z) ≡ or_tail (if b then Some (leaf t ∷ []) else None) g z
leaf_joins true t g z = refl
leaf_joins false t g z = refl

ltb_suc : (n d : ℕ) → ltb (suc n) (suc d) ≡ ltb n d
ltb_suc n d = grind (arith, nat_tests)

ltb_true : (n d : ℕ) → n < d → ltb n d ≡ true
ltb_true n d h = grind (arith, nat_tests, h)

even_leaf : (t : Token) → IsEven (leaf t ∷ [])
even_leaf t = record {
  joins = λ n d g. leaf_joins (ltb n d) t g (sunk n d g);
  shifts = λ n d. ap (λ b. if b then Some (leaf t ∷ []) else None) (ltb_suc n d);
  sinks = λ n d h. ap (λ b. if b then Some (leaf t ∷ []) else None) (ltb_true n d h);
}

pub even_append : (f g : List Mark) → IsEven f → IsEven g → IsEven (f ++ g)
even_append f g p q = record {
  joins = λ n d h.
      ap (sunk n d) (append_assoc f g h) ∙ p.joins n d (g ++ h) ∙ ap (or_tail (sunk n d f) (g ++ h))
      (q.joins n d h)
      ∙ or_tail_assoc (sunk n d f) g h (sunk n d g) (sunk n d h) ∙ ap (λ x. or_tail x h (sunk n d h))
      (sym (p.joins n d g));
  shifts = λ n d.
      p.joins (suc n) (suc d) g ∙ ap (λ x. or_tail x g (sunk (suc n) (suc d) g)) (p.shifts n d)
      ∙ ap (or_tail (sunk n d f) g) (q.shifts n d) ∙ sym (p.joins n d g);
  sinks = λ n d h.
      p.joins n d g ∙ ap (λ x. or_tail x g (sunk n d g)) (p.sinks n d h)
      ∙ ap (or_tail (from_leaf f) g) (q.sinks n d h)
      ∙ sym (from_leaf_append f g);
}

pub even_node : (r : Rule) (f : List Mark) → IsEven f → IsEven (node_of r f)
even_node r f p = record {
  joins = λ n d h.
      ap (sunk n d) (append_assoc f (leave r ∷ []) h) ∙ p.joins n d (leave r ∷ h)
      ∙ or_tail_mark (sunk n d f) (leave r) h (sunk n d h) ∙ ap (λ x. or_tail x h (sunk n d h))
      (sym (p.joins n d (leave r ∷ [])));
  shifts = λ n d.
      p.joins (suc n) (suc d) (leave r ∷ []) ∙ ap (λ x. or_tail x (leave r ∷ []) None) (p.shifts n d)
      ∙ sym (p.joins n d (leave r ∷ []));
  sinks = λ n d h.
      p.joins n d (leave r ∷ []) ∙ ap (λ x. or_tail x (leave r ∷ []) None) (p.sinks n d h)
      ∙ sym (from_leaf_append f (leave r ∷ []));
}

pub even_deeper : (f : List Mark) → IsEven f → IsEven (one_deeper f)
even_deeper f p = record {
  joins = λ n d h.
      ap (sunk n (suc d)) (append_assoc f (up ∷ []) h) ∙ p.joins n (suc d) (up ∷ h)
      ∙ or_tail_mark (sunk n (suc d) f) up h (sunk n d h) ∙ ap (λ x. or_tail x h (sunk n d h))
      (sym (p.joins n (suc d) (up ∷ [])));
  shifts = λ n d.
      p.joins (suc n) (suc (suc d)) (up ∷ []) ∙ ap (λ x. or_tail x (up ∷ []) None) (p.shifts n (suc d))
      ∙ sym (p.joins n (suc d) (up ∷ []));
  sinks = λ n d h.
      p.joins n (suc d) (up ∷ []) ∙ ap (λ x. or_tail x (up ∷ []) None)
      (p.sinks n (suc d) (deeper_is_deep n d h)) ∙ sym (from_leaf_append f (up ∷ []));
}
  where
    deeper_is_deep : (n d : ℕ) → n < d → n < suc d
    deeper_is_deep n d h = omega (arith, h)

pub even_leaves : (ts : List Token) → IsEven (map leaf ts)
even_leaves [] = even_nil
even_leaves (t ∷ ts) = even_append (leaf t ∷ []) (map leaf ts) (even_leaf t) (even_leaves ts)

pub even_of : {a : Part} {f : List Mark} → Spells a f → IsEven f
even_of is_nothing = even_nil
even_of (is_token classes t h) = even_leaf t
even_of (is_words static ts h) = even_leaves ts
even_of (is_node r a f s) = even_node r f (even_of s)
even_of (is_rule r f s) = even_node r f (even_of s)
even_of (is_after a k f g s u) = even_append f g (even_of s) (even_of u)
even_of (is_first a b f s) = even_of s
even_of (is_second a b f s) = even_of s
even_of (is_none a) = even_nil
even_of (is_more a f g s u) = even_append f g (even_of s) (even_of u)
even_of (is_deeper a f s) = even_deeper f (even_of s)
