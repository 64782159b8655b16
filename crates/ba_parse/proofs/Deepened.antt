-- Readings of what counts a level keep what readings promise, also if no level is left.

use Rattle.std.proofs.Common.{◌≡◌, ℕ, suc, Bool, true, false, ◌&&◌, if◌then◌else◌, List, [], ◌∷◌, ◌++◌, Option, None, Some, refl, sym, ap, ◌∙◌, arith, append-nil, subst}
use Rattle.ba_tokens.specs.declared.token.Token.{Token}
use Rattle.ba_trees.specs.declared.class.TokenClass.{TokenClass}
use Rattle.ba_trees.specs.Classes.{Classes, class_of}
use Rattle.ba_trees.specs.Marks.{Mark, leaf, enter, leave, down, up, one_deeper, yield, is_else, no_else_lost}
use Rattle.ba_parse.specs.Grammar.{Part, Spells, is_deeper, deeper}
use Rattle.ba_parse.specs.Readings.{Answer, done, syntax, too_deep, Reading, lowered, next_is}
use Rattle.ba_parse.proofs.Forests.{yield_append, yield_deeper, pairs_append, sunk, from_leaf, or_tail, even_of, IsEven}
use Rattle.ba_parse.proofs.Certified.{Opened, opened, head_of, outcome_of, outcome, TooDeep, Taken, always, Reads, BeginsWith, First, Sample, next_is_fewer, false_is_true, cons_is_nil}
use Rattle.ba_parse.proofs.Repeated.{same_next, if_true, if_false}

and_true_right : (b : Bool) → (b && true) ≡ b
and_true_right true = refl
and_true_right false = refl

pub deeper_pairs : (f : List Mark) (next : Option Token) → no_else_lost (one_deeper f) next ≡ no_else_lost f
    next
deeper_pairs f next = pairs_append f (up ∷ []) next ∙ and_true_right (no_else_lost f next)

-- WHERE A LEVEL IS LEFT

deeper_level : (n : ℕ) (f : List Mark) → IsEven f → sunk (suc n) 0 (one_deeper f) ≡ or_tail (sunk n 0 f)
    (up ∷ []) None
deeper_level n f e = e.joins (suc n) 1 (up ∷ []) ∙ ap (λ x. or_tail x (up ∷ []) None) (e.shifts n 0)

deeper_outcome : (n : ℕ) (f : List Mark) (rest : List Token) → IsEven f → (x : Option (List Mark)) →
    sunk n 0 f ≡ x →
    lowered (outcome_of x f rest) ≡ outcome (suc n) (one_deeper f) rest
deeper_outcome n f rest e None h =
    ap (λ x. outcome_of x (one_deeper f) rest)
    (sym (deeper_level n f e ∙ ap (λ x. or_tail x (up ∷ []) None) h))
deeper_outcome n f rest e (Some ms) h =
    ap (λ x. too_deep (x ++ rest)) (sym (yield_append ms (up ∷ []) ∙ append-nil (yield ms)))
    ∙ ap (λ x. outcome_of x (one_deeper f) rest)
    (sym (deeper_level n f e ∙ ap (λ x. or_tail x (up ∷ []) None) h))

abbrev pub in_depth : Reading → Reading
in_depth r ts = lowered (r ts)

deeper_taken : (n : ℕ) (a : Part) (r : Reading) (ts : List Token) (answer : Answer) → Taken n a r ts answer →
    Taken (suc n) (deeper a) (in_depth r) ts (lowered answer)
deeper_taken n a r ts (done f rest) e = record {
  spelled = is_deeper a f e.spelled;
  cut = e.cut ∙ ap (λ x. x ++ rest) (sym (yield_deeper f));
  pairs = deeper_pairs f (head_of rest) ∙ e.pairs;
  level = deeper_level n f (even_of e.spelled) ∙ ap (λ x. or_tail x (up ∷ []) None) e.level;
  near = λ us h. ap (λ x. lowered (r (x ++ us))) (yield_deeper f) ∙ ap lowered (e.near us h);
}
deeper_taken n a r ts (syntax rest) e = record {
  before = e.before;
  cut = e.cut;
  near = λ us h. ap lowered (e.near us h);
  tree = one_deeper e.tree;
  beyond = e.beyond;
  spelled = is_deeper a e.tree e.spelled;
  yields = yield_deeper e.tree ∙ e.yields;
  pairs = λ next h. deeper_pairs e.tree next ∙ e.pairs next h;
  calm = e.calm;
}
deeper_taken n a r ts (too_deep rest) e = record {
  before = e.before;
  refused = e.refused;
  left = e.left;
  cut = e.cut;
  rest_is = e.rest_is;
  near = λ us h. ap lowered (e.near us h);
  tree = one_deeper e.tree;
  beyond = e.beyond ++ up ∷ [];
  spelled = is_deeper a e.tree e.spelled;
  level = deeper_level n e.tree (even_of e.spelled) ∙ ap (λ x. or_tail x (up ∷ []) None) e.level;
  yields =
      yield_deeper e.tree ∙ e.yields
      ∙ ap (λ x. e.before ++ e.refused ∷ x) (sym (yield_append e.beyond (up ∷ [])
      ∙ append-nil (yield e.beyond)));
  pairs = λ next h. deeper_pairs e.tree next ∙ e.pairs next h;
}

pub reads_deeper : (n : ℕ) (on : List Token → Bool) (a : Part) (goes : Classes) (r : Reading) →
    Reads n on a goes r →
    Reads (suc n) on (deeper a) goes (in_depth r)
reads_deeper n on a goes r reads = record {
  taken = λ ts h. deeper_taken n a r ts (r ts) (reads.taken ts h);
  given = λ f rest u pairs ends. whole f rest (opened u) pairs ends;
}
  where
    whole : (f : List Mark) (rest : List Token) → Opened (deeper a) f → no_else_lost f (head_of rest) ≡ true →
        next_is goes rest ≡ false →
        in_depth r (yield f ++ rest) ≡ outcome (suc n) f rest
    whole f rest o pairs ends =
        ap (λ x. in_depth r (x ++ rest)) (ap yield o.2 ∙ yield_deeper o.0)
        ∙ ap lowered (reads.given o.0 rest o.1 (sym (deeper_pairs o.0 (head_of rest))
        ∙ ap (λ x. no_else_lost x (head_of rest)) (sym o.2) ∙ pairs) ends)
        ∙ deeper_outcome n o.0 rest (even_of o.1) (sunk n 0 o.0) refl
        ∙ ap (λ x. outcome (suc n) x rest) (sym o.2)

-- WHERE NO LEVEL IS LEFT: the first token that could begin it is too deep

-- some tree of a part that begins with a token
pub record From (a : Part) (t : Token) : Type 0 where
  pub tree : List Mark
  pub beyond : List Token
  pub spelled : Spells a tree
  pub yields : yield tree ≡ t ∷ beyond
  pub pairs : (next : Option Token) → is_else next ≡ false → no_else_lost tree next ≡ true

-- the marks from the first leaf on begin with it
pub record Fronts (f : List Mark) (t : Token) (ts : List Token) : Type 0 where
  pub marks : List Mark
  pub from : from_leaf f ≡ Some (leaf t ∷ marks)
  pub yields : yield marks ≡ ts

abbrev head_or : Token → List Token → Token
head_or d [] = d
head_or d (t ∷ ts) = t

abbrev tail_or : List Token → List Token
tail_or [] = []
tail_or (t ∷ ts) = ts

pub fronts : (f : List Mark) (t : Token) (ts : List Token) → yield f ≡ t ∷ ts → Fronts f t ts
fronts [] t ts h = absurd (cons_is_nil (sym h))
fronts (leaf u ∷ f) t ts h = record {
  marks = f;
  from = ap (λ x. Some (leaf x ∷ f)) (ap (head_or u) h);
  yields = ap tail_or h;
}
fronts (enter r ∷ f) t ts h = let e : Fronts f t ts = fronts f t ts h in record {
  marks = e.marks;
  from =
      e.from;
  yields = e.yields;
}
fronts (leave r ∷ f) t ts h = let e : Fronts f t ts = fronts f t ts h in record {
  marks = e.marks;
  from =
      e.from;
  yields = e.yields;
}
fronts (down ∷ f) t ts h = let e : Fronts f t ts = fronts f t ts h in record {
  marks = e.marks;
  from =
      e.from;
  yields = e.yields;
}
fronts (up ∷ f) t ts h = let e : Fronts f t ts = fronts f t ts h in record {
  marks = e.marks;
  from =
      e.from;
  yields = e.yields;
}

sunk_at_once : (f : List Mark) (t : Token) (ts : List Token) → IsEven f → (e : Fronts f t ts) →
    sunk 0 0 (one_deeper f) ≡ Some (leaf t ∷ e.marks ++ up ∷ [])
sunk_at_once f t ts even e =
    even.joins 0 1 (up ∷ []) ∙ ap (λ x. or_tail x (up ∷ []) None) (even.sinks 0 1 (omega arith) ∙ e.from)

module _ (a : Part) (starts : Classes) (empty : Bool) (first : First a starts empty) (from : (t : Token) →
    starts (class_of t) ≡ true → From a t)
    (w : Reading) where
  abbrev pub shallow_read : Reading
  shallow_read ts = lowered (if next_is starts ts then too_deep ts else w ts)

  starts_deep : (t : Token) (ts : List Token) → starts (class_of t) ≡ true → TooDeep 0 (deeper a) shallow_read
      (t ∷ ts) (t ∷ ts)
  starts_deep t ts h =
      let e : From a t = from t h in
      let g : Fronts e.tree t e.beyond = fronts e.tree t e.beyond e.yields in
      record {
        before = [];
        refused = t;
        left = ts;
        cut = refl;
        rest_is = refl;
        near = λ us k. ap lowered (if_true (next_is starts us) (too_deep us) (w us)
            (same_next starts us (t ∷ ts) k ∙ h));
        tree = one_deeper e.tree;
        beyond = g.marks ++ up ∷ [];
        spelled = is_deeper a e.tree e.spelled;
        level = sunk_at_once e.tree t e.beyond (even_of e.spelled) g;
        yields =
            yield_deeper e.tree ∙ e.yields
            ∙ ap (λ x. t ∷ x) (sym g.yields ∙ sym (yield_append g.marks (up ∷ [])
            ∙ append-nil (yield g.marks)));
        pairs = λ next k. deeper_pairs e.tree next ∙ e.pairs next k;
      }

  shallow_by_test : ((ts : List Token) → next_is starts ts ≡ false → Taken 0 (deeper a) shallow_read ts
      (lowered (w ts))) →
      (ts : List Token) (x : Bool) → next_is starts ts ≡ x → Taken 0 (deeper a) shallow_read ts
      (lowered (if x then too_deep ts else w ts))
  shallow_by_test other [] true h = absurd (false_is_true h)
  shallow_by_test other (t ∷ ts) true h = starts_deep t ts h
  shallow_by_test other ts false h = other ts h

  shallow_given : (ts : List Token) (f : List Mark) (rest : List Token) → Spells a f → yield f ≡ ts →
      (ts ≡ [] → shallow_read rest ≡ outcome 0 (one_deeper f) rest) → shallow_read (ts ++ rest) ≡ outcome 0
      (one_deeper f) rest
  shallow_given [] f rest u h other = other refl
  shallow_given (t ∷ ts) f rest u h other =
      let g : Fronts f t ts = fronts f t ts h in
      let starts_it : starts (class_of t) ≡ true = subst (BeginsWith starts empty) h (first.begins f u) in
      ap lowered (if_true (starts (class_of t)) (too_deep (t ∷ ts ++ rest)) (w (t ∷ ts ++ rest)) starts_it)
      ∙ ap (λ x. too_deep (t ∷ x ++ rest)) (sym g.yields ∙ sym (yield_append g.marks (up ∷ [])
      ∙ append-nil (yield g.marks)))
      ∙ ap (λ x. outcome_of x (one_deeper f) rest) (sym (sunk_at_once f t ts (even_of u) g))

  shallow_whole : (goes : Classes) → ((f : List Mark) (rest : List Token) → Spells a f → yield f ≡ [] →
      next_is goes rest ≡ false → shallow_read rest ≡ outcome 0 (one_deeper f) rest) →
      ((ts : List Token) → next_is starts ts ≡ false → Taken 0 (deeper a) shallow_read ts (lowered (w ts))) →
      Reads 0 always (deeper a) goes shallow_read
  shallow_whole goes empties other = record {
    taken = λ ts h. shallow_by_test other ts (next_is starts ts) refl;
    given = λ f rest u pairs ends. whole f rest (opened u) ends;
  }
    where
      whole : (f : List Mark) (rest : List Token) → Opened (deeper a) f → next_is goes rest ≡ false →
          shallow_read (yield f ++ rest) ≡ outcome 0 f rest
      whole f rest o ends =
          ap (λ x. shallow_read (x ++ rest)) (ap yield o.2 ∙ yield_deeper o.0)
          ∙ shallow_given (yield o.0) o.0 rest o.1 refl (λ is_nil. empties o.0 rest o.1 is_nil ends)
          ∙ ap (λ x. outcome 0 x rest) (sym o.2)

-- a part that is never empty is refused if nothing begins it
pub reads_shallow : (a : Part) (starts goes : Classes) → First a starts false →
    ((t : Token) → starts (class_of t) ≡ true → From a t) →
    Sample a → Reads 0 always (deeper a) goes
    (λ ts. lowered (if next_is starts ts then too_deep ts else syntax ts))
reads_shallow a starts goes first from sample =
    shallow_whole a starts false first from syntax goes
    (λ f rest u is_nil ends. absurd
    (false_is_true (subst (BeginsWith starts false) is_nil (first.begins f u))))
    (λ ts h. record {
      before = [];
      cut = refl;
      near = λ us k. ap lowered (if_false (next_is starts us) (too_deep us) (syntax us)
          (same_next starts us ts k ∙ h));
      tree = one_deeper sample.tree;
      beyond = yield sample.tree;
      spelled = is_deeper a sample.tree sample.spelled;
      yields = yield_deeper sample.tree;
      pairs = λ next k. deeper_pairs sample.tree next ∙ sample.pairs next k;
      calm = λ k. sample.calm;
    })

-- the one tree of a part that has no leaf
pub record Empty (a : Part) (tree : List Mark) : Type 0 where
  pub spelled : Spells a tree
  pub no_leaf : yield tree ≡ []
  pub alone : (f : List Mark) → Spells a f → yield f ≡ [] → f ≡ tree
  pub pairs : (next : Option Token) → no_else_lost tree next ≡ true
  pub level : sunk 0 0 (one_deeper tree) ≡ None

-- a part that may be empty is, if nothing begins it
pub reads_shallow_or_empty : (a : Part) (starts goes : Classes) → First a starts true →
    ((t : Token) → starts (class_of t) ≡ true → From a t) →
    (tree : List Mark) → Empty a tree → ((c : TokenClass) → goes c ≡ false → starts c ≡ false) →
    Reads 0 always (deeper a) goes (λ ts. lowered (if next_is starts ts then too_deep ts else done tree ts))
reads_shallow_or_empty a starts goes first from tree e fewer =
    shallow_whole a starts true first from (done tree) goes
    (λ f rest u is_nil ends.
    let is_tree : f ≡ tree = e.alone f u is_nil in
    ap lowered (if_false (next_is starts rest) (too_deep rest) (done tree rest)
    (next_is_fewer goes starts fewer rest ends))
    ∙ ap (λ x. outcome_of x (one_deeper tree) rest) (sym e.level) ∙ ap (λ x. outcome 0 (one_deeper x) rest)
    (sym is_tree))
    (λ ts h. record {
      spelled = is_deeper a tree e.spelled;
      cut = ap (λ x. x ++ ts) (sym (yield_deeper tree ∙ e.no_leaf));
      pairs = deeper_pairs tree (head_of ts) ∙ e.pairs (head_of ts);
      level = e.level;
      near = λ us k.
          ap (λ x. lowered (if next_is starts (x ++ us) then too_deep (x ++ us) else done tree (x ++ us)))
          (yield_deeper tree ∙ e.no_leaf)
          ∙ ap lowered (if_false (next_is starts us) (too_deep us) (done tree us) (same_next starts us ts k
          ∙ h));
    })
