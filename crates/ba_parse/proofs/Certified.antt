-- What a reading of a part promises, and how readings that keep it are put together.

use Rattle.std.proofs.Common.{◌≡◌, ℕ, Bool, true, false, not, ◌&&◌, List, [], ◌∷◌, ◌++◌, Option, None, Some, refl, sym, ap, ◌∙◌, append_assoc, map, ◌⊎◌, inl, inr, subst}
use Rattle.ba_tokens.specs.declared.token.Token.{Token}
use Rattle.ba_trees.specs.declared.class.TokenClass.{TokenClass}
use Rattle.ba_trees.specs.Classes.{Classes, class_of, names_type}
use Rattle.ba_trees.specs.Marks.{Mark, leaf, enter, leave, down, up, node_of, one_deeper, yield, first_or, is_else, is_no_else, no_else_lost}
use Rattle.ba_parse.specs.Grammar.{Part, Spells, is_nothing, is_token, is_words, is_node, is_rule, is_after, is_first, is_second, is_none, is_more, is_deeper, nothing, token, words, node, rule, after, either, many, deeper, grammar}
use Rattle.ba_parse.specs.Readings.{Answer, done, syntax, too_deep, Reading, with_front, then_read, next_is}
use Rattle.ba_parse.proofs.Forests.{yield_append, first_or_append, pairs_append, sunk, or_tail, even_of, IsEven}

-- A TREE OF A PART, taken apart

abbrev pub Opened : Part → List Mark → Type 0
Opened nothing f = f ≡ []
Opened (token classes) f = (t : Token) × (classes (class_of t) ≡ true) × (f ≡ leaf t ∷ [])
Opened (words static) f = (ts : List Token) × (names_type static (map class_of ts) ≡ true) × (f ≡ map leaf ts)
Opened (node r a) f = (g : List Mark) × Spells a g × (f ≡ node_of r g)
Opened (rule r) f = (g : List Mark) × Spells (grammar r) g × (f ≡ node_of r g)
Opened (after a k) f = (g : List Mark) × (h : List Mark) × Spells a g × Spells (k g) h × (f ≡ g ++ h)
Opened (either a b) f = Spells a f ⊎ Spells b f
Opened (many a) f = (f ≡ []) ⊎ ((g : List Mark) × (h : List Mark) × Spells a g × Spells (many a) h
    × (f ≡ g ++ h))
Opened (deeper a) f = (g : List Mark) × Spells a g × (f ≡ one_deeper g)

pub opened : {a : Part} {f : List Mark} → Spells a f → Opened a f
opened is_nothing = refl
opened (is_token classes t h) = (t, h, refl)
opened (is_words static ts h) = (ts, h, refl)
opened (is_node r a f s) = (f, s, refl)
opened (is_rule r f s) = (f, s, refl)
opened (is_after a k f g s u) = (f, g, s, u, refl)
opened (is_first a b f s) = inl s
opened (is_second a b f s) = inr s
opened (is_none a) = inl refl
opened (is_more a f g s u) = inr (f, g, s, u, refl)
opened (is_deeper a f s) = (f, s, refl)

-- WHAT A READING PROMISES

abbrev pub head_of : List Token → Option Token
head_of ts = first_or ts None

-- the answer for a tree and what follows it, if so many constructs more may be around a token
abbrev pub outcome_of : Option (List Mark) → List Mark → List Token → Answer
outcome_of None f rest = done f rest
outcome_of (Some ms) f rest = too_deep (yield ms ++ rest)

abbrev pub outcome : ℕ → List Mark → List Token → Answer
outcome n f rest = outcome_of (sunk n 0 f) f rest

-- a tree was read, and what is left decides no more than by its first token
pub record Done (n : ℕ) (a : Part) (r : Reading) (ts : List Token) (f : List Mark) (rest : List Token) : Type
    0 where
  pub spelled : Spells a f
  pub cut : ts ≡ yield f ++ rest
  pub pairs : no_else_lost f (head_of rest) ≡ true
  pub level : sunk n 0 f ≡ None
  pub near : (other : List Token) → head_of other ≡ head_of rest → r (yield f ++ other) ≡ done f other

-- the tokens before the refused one begin a tree
pub record Refused (a : Part) (r : Reading) (ts rest : List Token) : Type 0 where
  pub before : List Token
  pub cut : ts ≡ before ++ rest
  pub near : (other : List Token) → head_of other ≡ head_of rest → r (before ++ other) ≡ syntax other
  pub tree : List Mark
  pub beyond : List Token
  pub spelled : Spells a tree
  pub yields : yield tree ≡ before ++ beyond
  pub pairs : (next : Option Token) → is_else next ≡ false → no_else_lost tree next ≡ true
  pub calm : before ≡ [] → is_else (head_of beyond) ≡ false

-- the refused token is the first around which there is too much, in some tree that begins with it and what is
-- before
pub record TooDeep (n : ℕ) (a : Part) (r : Reading) (ts rest : List Token) : Type 0 where
  pub before : List Token
  pub refused : Token
  pub left : List Token
  pub cut : ts ≡ before ++ rest
  pub rest_is : rest ≡ refused ∷ left
  pub near : (other : List Token) → head_of other ≡ head_of rest → r (before ++ other) ≡ too_deep other
  pub tree : List Mark
  pub beyond : List Mark
  pub spelled : Spells a tree
  pub level : sunk n 0 tree ≡ Some (leaf refused ∷ beyond)
  pub yields : yield tree ≡ before ++ refused ∷ yield beyond
  pub pairs : (next : Option Token) → is_else next ≡ false → no_else_lost tree next ≡ true

abbrev pub Taken : ℕ → Part → Reading → List Token → Answer → Type 0
Taken n a r ts (done f rest) = Done n a r ts f rest
Taken n a r ts (syntax rest) = Refused a r ts rest
Taken n a r ts (too_deep rest) = TooDeep n a r ts rest

abbrev pub always : List Token → Bool
always ts = true

-- A reading of a part, for lists of tokens that pass a test. Each tree of the part is read, if no token
-- follows that could go on with it.
pub record Reads (n : ℕ) (on : List Token → Bool) (a : Part) (goes_on : Classes) (r : Reading) : Type 0 where
  pub taken : (ts : List Token) → on ts ≡ true → Taken n a r ts (r ts)
  pub given : (f : List Mark) (rest : List Token) → Spells a f → no_else_lost f (head_of rest) ≡ true →
      next_is goes_on rest ≡ false →
      r (yield f ++ rest) ≡ outcome n f rest

-- what the trees of a part begin with
abbrev pub BeginsWith : Classes → Bool → List Token → Type 0
BeginsWith starts empty [] = empty ≡ true
BeginsWith starts empty (t ∷ ts) = starts (class_of t) ≡ true

pub record First (a : Part) (starts : Classes) (empty : Bool) : Type 0 where
  pub begins : (f : List Mark) → Spells a f → BeginsWith starts empty (yield f)

-- some tree of a part
pub record Sample (a : Part) : Type 0 where
  pub tree : List Mark
  pub spelled : Spells a tree
  pub pairs : (next : Option Token) → is_else next ≡ false → no_else_lost tree next ≡ true
  pub calm : is_else (head_of (yield tree)) ≡ false

-- SMALL STEPS

abbrev IsFalse : Bool → Type 0
IsFalse true = ⊥
IsFalse false = Unit {0}

pub false_is_true : false ≡ true → ⊥
false_is_true h = subst IsFalse h tt

pub true_is_false : true ≡ false → ⊥
true_is_false h = subst IsFalse (sym h) tt

abbrev IsNil : {X : Type 0} → List X → Type 0
IsNil [] = Unit {0}
IsNil (x ∷ xs) = ⊥

pub cons_is_nil : {X : Type 0} {x : X} {xs : List X} → x ∷ xs ≡ [] → ⊥
cons_is_nil h = subst IsNil (sym h) tt

pub and_true : (a b : Bool) → a ≡ true → b ≡ true → (a && b) ≡ true
and_true a b h k = ap (λ x. x && b) h ∙ k

pub and_left : (a b : Bool) → (a && b) ≡ true → a ≡ true
and_left true b h = refl
and_left false b h = h

pub and_right : (a b : Bool) → (a && b) ≡ true → b ≡ true
and_right true b h = h
and_right false b h = absurd (false_is_true h)

pub nil_append : {X : Type 0} (xs ys : List X) → xs ++ ys ≡ [] → ys ≡ []
nil_append [] ys h = h
nil_append (x ∷ xs) ys h = absurd (cons_is_nil h)

not_both : (n : Bool) (a b : Bool) → not (n && a) ≡ true → b ≡ false → not (n && b) ≡ true
not_both false a b h e = refl
not_both true a b h e = ap not e

-- what is no lost else before some token is none before one that is no else
pub pairs_before : (f : List Mark) (o next : Option Token) → no_else_lost f o ≡ true → is_else next ≡ false →
    no_else_lost f next ≡ true
pairs_before [] o next h e = refl
pairs_before (leaf t ∷ f) o next h e = pairs_before f o next h e
pairs_before (enter r ∷ f) o next h e = pairs_before f o next h e
pairs_before (leave r ∷ f) o next h e =
    and_true (not (is_no_else r && is_else (first_or (yield f) next))) (no_else_lost f next)
    (here (yield f) (and_left (not (is_no_else r && is_else (first_or (yield f) o))) (no_else_lost f o) h))
    (pairs_before f o next (and_right (not (is_no_else r && is_else (first_or (yield f) o)))
    (no_else_lost f o) h) e)
  where
    here : (ts : List Token) → not (is_no_else r && is_else (first_or ts o)) ≡ true →
        not (is_no_else r && is_else (first_or ts next)) ≡ true
    here [] g = not_both (is_no_else r) (is_else o) (is_else next) g e
    here (t ∷ ts) g = g
pairs_before (down ∷ f) o next h e = pairs_before f o next h e
pairs_before (up ∷ f) o next h e = pairs_before f o next h e

-- the head of what is after, if that is calm
pub calm_or : (ts : List Token) (next : Option Token) → is_else (head_of ts) ≡ false → is_else next ≡ false →
    is_else (first_or ts next) ≡ false
calm_or [] next h e = e
calm_or (t ∷ ts) next h e = h

pub calm_append : (ts us : List Token) → is_else (head_of ts) ≡ false → is_else (head_of us) ≡ false →
    is_else (head_of (ts ++ us)) ≡ false
calm_append [] us h e = e
calm_append (t ∷ ts) us h e = h

pub head_after : (u ts us : List Token) → head_of ts ≡ head_of us → head_of (u ++ ts) ≡ head_of (u ++ us)
head_after [] ts us h = h
head_after (t ∷ u) ts us h = refl

-- ONE PART AND THEN ANOTHER

-- The second part begins with what cannot go on with the first; if it may be empty, what follows both cannot
-- either.
pub record Follows (goes_first starts : Classes) (empty : Bool) (goes_second goes : Classes) : Type 0 where
  pub apart : (c : TokenClass) → starts c ≡ true → goes_first c ≡ false
  pub through : empty ≡ true → (c : TokenClass) → goes c ≡ false → goes_first c ≡ false
  pub last : (c : TokenClass) → goes c ≡ false → goes_second c ≡ false

pub next_is_fewer : (goes other : Classes) → ((c : TokenClass) → goes c ≡ false → other c ≡ false) →
    (ts : List Token) →
    next_is goes ts ≡ false → next_is other ts ≡ false
next_is_fewer goes other h [] e = refl
next_is_fewer goes other h (t ∷ ts) e = h (class_of t) e

stands_apart : (goes_first starts : Classes) (empty : Bool) (goes_second goes : Classes) →
    Follows goes_first starts empty goes_second goes →
    (ts rest : List Token) → BeginsWith starts empty ts → next_is goes rest ≡ false →
    next_is goes_first (ts ++ rest) ≡ false
stands_apart goes_first starts empty goes_second goes f [] rest b e = next_is_fewer goes goes_first
    (f.through b) rest e
stands_apart goes_first starts empty goes_second goes f (t ∷ ts) rest b e = f.apart (class_of t) b

abbrev pub both_read : Reading → (List Mark → Reading) → Reading
both_read r s ts = then_read (r ts) s

module _ (n : ℕ) (a : Part) (k : List Mark → Part) (r : Reading) (s : List Mark → Reading) where
  -- what was read of the first part decides the same again
  near_both : (ts rest : List Token) (f : List Mark) → Done n a r ts f rest →
      (u : List Token) (answer : Answer) →
      (other : List Token) → head_of (u ++ other) ≡ head_of rest → s f (u ++ other) ≡ answer →
      both_read r s ((yield f ++ u) ++ other) ≡ with_front f answer
  near_both ts rest f d u answer other h e =
      ap (both_read r s) (append_assoc (yield f) u other) ∙ ap (λ x. then_read x s) (d.near (u ++ other) h)
      ∙ ap (with_front f) e

  after_done_done : (ts rest : List Token) (f : List Mark) → Done n a r ts f rest →
      (g : List Mark) (rest2 : List Token) →
      Done n (k f) (s f) rest g rest2 → Done n (after a k) (both_read r s) ts (f ++ g) rest2
  after_done_done ts rest f d g rest2 e =
      let headed : head_of rest ≡ first_or (yield g) (head_of rest2) = ap head_of e.cut
      ∙ first_or_append (yield g) rest2 None in
      record {
        spelled = is_after a k f g d.spelled e.spelled;
        cut = d.cut ∙ ap (λ x. yield f ++ x) e.cut ∙ sym (append_assoc (yield f) (yield g) rest2)
            ∙ ap (λ x. x ++ rest2) (sym (yield_append f g));
        pairs =
            pairs_append f g (head_of rest2)
            ∙ and_true (no_else_lost f (first_or (yield g) (head_of rest2))) (no_else_lost g (head_of rest2))
            (ap (no_else_lost f) (sym headed) ∙ d.pairs) e.pairs;
        level = (even_of d.spelled).joins n 0 g ∙ ap (λ x. or_tail x g (sunk n 0 g)) d.level ∙ e.level;
        near = λ other h.
            ap (λ x. both_read r s (x ++ other)) (yield_append f g)
            ∙ near_both ts rest f d (yield g) (done g other) other
            (head_after (yield g) other rest2 h ∙ sym (ap head_of e.cut)) (e.near other h);
      }

  pairs_onward : (ts rest : List Token) (f : List Mark) → Done n a r ts f rest →
      (before beyond rest2 : List Token) → rest ≡ before ++ rest2 →
      (before ≡ [] → is_else (head_of beyond) ≡ false) → (next : Option Token) → is_else next ≡ false →
      no_else_lost f (first_or (before ++ beyond) next) ≡ true
  pairs_onward ts rest f d [] beyond rest2 cut calm next e = pairs_before f (head_of rest)
      (first_or beyond next) d.pairs (calm_or beyond next (calm refl) e)
  pairs_onward ts rest f d (t ∷ before) beyond rest2 cut calm next e =
      ap (no_else_lost f) (sym (ap head_of cut)) ∙ d.pairs

  after_done_refused : (ts rest : List Token) (f : List Mark) → Done n a r ts f rest → (rest2 : List Token) →
      Refused (k f) (s f) rest rest2 → Refused (after a k) (both_read r s) ts rest2
  after_done_refused ts rest f d rest2 e = record {
    before = yield f ++ e.before;
    cut = d.cut ∙ ap (λ x. yield f ++ x) e.cut ∙ sym (append_assoc (yield f) e.before rest2);
    near = λ other h.
        near_both ts rest f d e.before (syntax other) other (head_after e.before other rest2 h
        ∙ sym (ap head_of e.cut)) (e.near other h);
    tree = f ++ e.tree;
    beyond = e.beyond;
    spelled = is_after a k f e.tree d.spelled e.spelled;
    yields = yield_append f e.tree ∙ ap (λ x. yield f ++ x) e.yields
        ∙ sym (append_assoc (yield f) e.before e.beyond);
    pairs = λ next h.
        pairs_append f e.tree next
        ∙ and_true (no_else_lost f (first_or (yield e.tree) next)) (no_else_lost e.tree next)
        (ap (λ x. no_else_lost f (first_or x next)) e.yields ∙ pairs_onward ts rest f d e.before e.beyond
        rest2 e.cut e.calm next h)
        (e.pairs next h);
    calm = λ h. e.calm (nil_append (yield f) e.before h);
  }

  after_done_deep : (ts rest : List Token) (f : List Mark) → Done n a r ts f rest → (rest2 : List Token) →
      TooDeep n (k f) (s f) rest rest2 → TooDeep n (after a k) (both_read r s) ts rest2
  after_done_deep ts rest f d rest2 e = record {
    before = yield f ++ e.before;
    refused = e.refused;
    left = e.left;
    cut = d.cut ∙ ap (λ x. yield f ++ x) e.cut ∙ sym (append_assoc (yield f) e.before rest2);
    rest_is = e.rest_is;
    near = λ other h.
        near_both ts rest f d e.before (too_deep other) other (head_after e.before other rest2 h
        ∙ sym (ap head_of e.cut)) (e.near other h);
    tree = f ++ e.tree;
    beyond = e.beyond;
    spelled = is_after a k f e.tree d.spelled e.spelled;
    level = (even_of d.spelled).joins n 0 e.tree ∙ ap (λ x. or_tail x e.tree (sunk n 0 e.tree)) d.level
        ∙ e.level;
    yields =
        yield_append f e.tree ∙ ap (λ x. yield f ++ x) e.yields
        ∙ sym (append_assoc (yield f) e.before (e.refused ∷ yield e.beyond));
    pairs = λ next h.
        pairs_append f e.tree next
        ∙ and_true (no_else_lost f (first_or (yield e.tree) next)) (no_else_lost e.tree next)
        (ap (no_else_lost f) (here e.before e.yields e.cut e.rest_is next) ∙ d.pairs) (e.pairs next h);
  }
    where
      here : (before : List Token) → yield e.tree ≡ before ++ e.refused ∷ yield e.beyond →
          rest ≡ before ++ rest2 → rest2 ≡ e.refused ∷ e.left →
          (next : Option Token) → first_or (yield e.tree) next ≡ head_of rest
      here [] y c i next = ap (λ x. first_or x next) y ∙ sym (ap head_of (c ∙ i))
      here (t ∷ before) y c i next = ap (λ x. first_or x next) y ∙ sym (ap head_of c)

  before_refused : (ts rest : List Token) → Refused a r ts rest → ((f : List Mark) → Spells a f →
      Sample (k f)) → Refused (after a k) (both_read r s) ts rest
  before_refused ts rest e samples =
      let g : Sample (k e.tree) = samples e.tree e.spelled in
      record {
        before = e.before;
        cut = e.cut;
        near = λ other h. ap (λ x. then_read x s) (e.near other h);
        tree = e.tree ++ g.tree;
        beyond = e.beyond ++ yield g.tree;
        spelled = is_after a k e.tree g.tree e.spelled g.spelled;
        yields = yield_append e.tree g.tree ∙ ap (λ x. x ++ yield g.tree) e.yields
            ∙ append_assoc e.before e.beyond (yield g.tree);
        pairs = λ next h.
            pairs_append e.tree g.tree next
            ∙ and_true (no_else_lost e.tree (first_or (yield g.tree) next)) (no_else_lost g.tree next)
            (e.pairs (first_or (yield g.tree) next) (calm_or (yield g.tree) next g.calm h)) (g.pairs next h);
        calm = λ h. calm_append e.beyond (yield g.tree) (e.calm h) g.calm;
      }

  before_deep : (ts rest : List Token) → TooDeep n a r ts rest → ((f : List Mark) → Spells a f → Sample (k f))
      → TooDeep n (after a k) (both_read r s) ts rest
  before_deep ts rest e samples =
      let g : Sample (k e.tree) = samples e.tree e.spelled in
      record {
        before = e.before;
        refused = e.refused;
        left = e.left;
        cut = e.cut;
        rest_is = e.rest_is;
        near = λ other h. ap (λ x. then_read x s) (e.near other h);
        tree = e.tree ++ g.tree;
        beyond = e.beyond ++ g.tree;
        spelled = is_after a k e.tree g.tree e.spelled g.spelled;
        level = (even_of e.spelled).joins n 0 g.tree ∙ ap (λ x. or_tail x g.tree (sunk n 0 g.tree)) e.level;
        yields =
            yield_append e.tree g.tree ∙ ap (λ x. x ++ yield g.tree) e.yields
            ∙ append_assoc e.before (e.refused ∷ yield e.beyond) (yield g.tree)
            ∙ ap (λ x. e.before ++ e.refused ∷ x) (sym (yield_append e.beyond g.tree));
        pairs = λ next h.
            pairs_append e.tree g.tree next
            ∙ and_true (no_else_lost e.tree (first_or (yield g.tree) next)) (no_else_lost g.tree next)
            (e.pairs (first_or (yield g.tree) next) (calm_or (yield g.tree) next g.calm h)) (g.pairs next h);
      }

  then_taken : (ts rest : List Token) (f : List Mark) → Done n a r ts f rest → (answer : Answer) →
      Taken n (k f) (s f) rest answer →
      Taken n (after a k) (both_read r s) ts (with_front f answer)
  then_taken ts rest f d (done g rest2) e = after_done_done ts rest f d g rest2 e
  then_taken ts rest f d (syntax rest2) e = after_done_refused ts rest f d rest2 e
  then_taken ts rest f d (too_deep rest2) e = after_done_deep ts rest f d rest2 e

  pub both_taken : (ts : List Token) (answer : Answer) → Taken n a r ts answer →
      ((f : List Mark) (rest : List Token) → Done n a r ts f rest → Taken n (k f) (s f) rest (s f rest)) →
      ((f : List Mark) → Spells a f → Sample (k f)) → Taken n (after a k) (both_read r s) ts
      (then_read answer s)
  both_taken ts (done f rest) d second samples = then_taken ts rest f d (s f rest) (second f rest d)
  both_taken ts (syntax rest) d second samples = before_refused ts rest d samples
  both_taken ts (too_deep rest) d second samples = before_deep ts rest d samples

  -- the outcomes of both parts are the outcome of the whole
  outcomes_join : (g h : List Mark) (rest : List Token) → IsEven g → (x y : Option (List Mark)) →
      sunk n 0 g ≡ x → sunk n 0 h ≡ y →
      s g (yield h ++ rest) ≡ outcome_of y h rest →
      then_read (outcome_of x g (yield h ++ rest)) s ≡ outcome n (g ++ h) rest
  outcomes_join g h rest even None None is_x is_y e =
      ap (with_front g) e
      ∙ ap (λ x. outcome_of x (g ++ h) rest) (sym (even.joins n 0 h ∙ ap (λ x. or_tail x h (sunk n 0 h)) is_x
      ∙ is_y))
  outcomes_join g h rest even None (Some ms) is_x is_y e =
      ap (with_front g) e
      ∙ ap (λ x. outcome_of x (g ++ h) rest) (sym (even.joins n 0 h ∙ ap (λ x. or_tail x h (sunk n 0 h)) is_x
      ∙ is_y))
  outcomes_join g h rest even (Some ms) y is_x is_y e =
      ap too_deep (sym (append_assoc (yield ms) (yield h) rest)
      ∙ ap (λ x. x ++ rest) (sym (yield_append ms h)))
      ∙ ap (λ x. outcome_of x (g ++ h) rest)
      (sym (even.joins n 0 h ∙ ap (λ x. or_tail x h (sunk n 0 h)) is_x))

  pub both_given : (goes_first goes_second goes starts : Classes) (empty : Bool) (on : List Token → Bool) →
      Reads n on a goes_first r →
      Follows goes_first starts empty goes_second goes →
      (g h : List Mark) (rest : List Token) → Spells a g → BeginsWith starts empty (yield h) →
      no_else_lost (g ++ h) (head_of rest) ≡ true → next_is goes rest ≡ false →
      (no_else_lost h (head_of rest) ≡ true → next_is goes_second rest ≡ false → s g (yield h ++ rest)
      ≡ outcome n h rest) →
      both_read r s (yield (g ++ h) ++ rest) ≡ outcome n (g ++ h) rest
  both_given goes_first goes_second goes starts empty on reads follows g h rest u begins pairs ends second =
      let both : (no_else_lost g (first_or (yield h) (head_of rest)) && no_else_lost h (head_of rest))
      ≡ true = sym (pairs_append g h (head_of rest)) ∙ pairs in
      let first_pairs : no_else_lost g (head_of (yield h ++ rest)) ≡ true =
      ap (no_else_lost g) (first_or_append (yield h) rest None)
      ∙ and_left (no_else_lost g (first_or (yield h) (head_of rest))) (no_else_lost h (head_of rest))
      both in
      let second_pairs : no_else_lost h (head_of rest) ≡ true =
      and_right (no_else_lost g (first_or (yield h) (head_of rest))) (no_else_lost h (head_of rest))
      both in
      let first_ends : next_is goes_first (yield h ++ rest) ≡ false =
      stands_apart goes_first starts empty goes_second goes follows (yield h) rest begins ends in
      ap (λ x. both_read r s (x ++ rest)) (yield_append g h)
      ∙ ap (both_read r s) (append_assoc (yield g) (yield h) rest)
      ∙ ap (λ x. then_read x s) (reads.given g (yield h ++ rest) u first_pairs first_ends)
      ∙ outcomes_join g h rest (even_of u) (sunk n 0 g) (sunk n 0 h) refl refl
      (second second_pairs (next_is_fewer goes goes_second follows.last rest ends))

  pub reads_after : (goes_first goes_second goes starts : Classes) (empty : Bool) (on : List Token → Bool) →
      Reads n on a goes_first r →
      ((f : List Mark) → Spells a f → Reads n always (k f) goes_second (s f)) →
      ((f : List Mark) → Spells a f → First (k f) starts empty) →
      ((f : List Mark) → Spells a f → Sample (k f)) →
      Follows goes_first starts empty goes_second goes → Reads n on (after a k) goes (both_read r s)
  reads_after goes_first goes_second goes starts empty on reads seconds firsts samples follows = record {
    taken = λ ts h. both_taken ts (r ts) (reads.taken ts h) (λ f rest d. (seconds f d.spelled).taken rest
        refl) samples;
    given = λ f rest u pairs ends. whole f rest (opened u) pairs ends;
  }
    where
      whole : (f : List Mark) (rest : List Token) → Opened (after a k) f → no_else_lost f (head_of rest)
          ≡ true → next_is goes rest ≡ false →
          both_read r s (yield f ++ rest) ≡ outcome n f rest
      whole f rest o pairs ends =
          ap (λ x. both_read r s (yield x ++ rest)) o.4
          ∙ both_given goes_first goes_second goes starts empty on reads follows o.0 o.1 rest o.2
          ((firsts o.0 o.2).begins o.1 o.3)
          (ap (λ x. no_else_lost x (head_of rest)) (sym o.4) ∙ pairs) ends ((seconds o.0 o.2).given o.1 rest
          o.3)
          ∙ ap (λ x. outcome n x rest) (sym o.4)
