-- Readings of tokens, nodes, choices, repetitions and of what counts a level keep what readings promise.

use Rattle.std.proofs.Common.{◌≡◌, ℕ, Bool, true, false, not, ◌&&◌, if◌then◌else◌, List, [], ◌∷◌, ◌++◌, Option, None, Some, unwrap_or, refl, sym, ap, ◌∙◌, arith, append-nil, subst, ltb}
use Rattle.std.proofs.lemmas.Bool.Decides.{nat_tests}
use Rattle.ba_tokens.specs.declared.token.Token.{Token}
use Rattle.ba_trees.specs.declared.class.TokenClass.{TokenClass}
use Rattle.ba_trees.specs.Classes.{Classes, class_of}
use Rattle.ba_trees.specs.Marks.{Rule, Mark, leaf, leave, node_of, yield, is_else, is_no_else, no_else_lost}
use Rattle.ba_parse.specs.Grammar.{Part, Spells, is_nothing, is_token, is_node, is_rule, nothing, token, node, rule, grammar}
use Rattle.ba_parse.specs.Readings.{Answer, done, syntax, too_deep, Reading, around, next_is, read_token, read_nothing, read_node}
use Rattle.ba_parse.proofs.Forests.{yield_append, yield_node, pairs_append, sunk, or_tail, even_of, IsEven}
use Rattle.ba_parse.proofs.Certified.{Opened, opened, head_of, outcome_of, outcome, Done, Refused, Taken, always, Reads, next_is_fewer, false_is_true}

-- no class goes on
abbrev pub none : Classes
none c = false

abbrev IsSomething : Option Token → Type 0
IsSomething None = ⊥
IsSomething (Some t) = Unit {0}

some_is_none : {t : Token} → Some t ≡ None → ⊥
some_is_none h = subst IsSomething h tt

and_true_right : (b : Bool) → (b && true) ≡ b
and_true_right true = refl
and_true_right false = refl

-- THE SAME EVIDENCE for another part and reading

abbrev pub left_of : Answer → List Token
left_of (done f rest) = rest
left_of (syntax rest) = rest
left_of (too_deep rest) = rest

-- the readings agree if the first tokens, so many as were read, and the head of the rest stay
abbrev pub Agrees : Reading → Reading → List Token → List Token → Type 0
Agrees r other ts rest = (u us : List Token) → ts ≡ u ++ rest → head_of us ≡ head_of rest →
    other (u ++ us) ≡ r (u ++ us)

pub moved : (n : ℕ) (a b : Part) (r other : Reading) (ts : List Token) (answer : Answer) →
    ((f : List Mark) → Spells a f → Spells b f) →
    Agrees r other ts (left_of answer) → Taken n a r ts answer → Taken n b other ts answer
moved n a b r other ts (done f rest) turn agrees e = record {
  spelled = turn f e.spelled;
  cut = e.cut;
  pairs = e.pairs;
  level = e.level;
  near = λ us h. agrees (yield f) us e.cut h ∙ e.near us h;
}
moved n a b r other ts (syntax rest) turn agrees e = record {
  before = e.before;
  cut = e.cut;
  near = λ us h. agrees e.before us e.cut h ∙ e.near us h;
  tree = e.tree;
  beyond = e.beyond;
  spelled = turn e.tree e.spelled;
  yields = e.yields;
  pairs = e.pairs;
  calm = e.calm;
}
moved n a b r other ts (too_deep rest) turn agrees e = record {
  before = e.before;
  refused = e.refused;
  left = e.left;
  cut = e.cut;
  rest_is = e.rest_is;
  near = λ us h. agrees e.before us e.cut h ∙ e.near us h;
  tree = e.tree;
  beyond = e.beyond;
  spelled = turn e.tree e.spelled;
  level = e.level;
  yields = e.yields;
  pairs = e.pairs;
}

-- the part has the same trees
pub reads_same : (n : ℕ) (on : List Token → Bool) (a b : Part) (goes : Classes) (r : Reading) →
    ((f : List Mark) → Spells a f → Spells b f) → ((f : List Mark) → Spells b f → Spells a f) →
    Reads n on a goes r → Reads n on b goes r
reads_same n on a b goes r there back e = record {
  taken = λ ts h. moved n a b r r ts (r ts) there (λ u us c h. refl) (e.taken ts h);
  given = λ f rest u. e.given f rest (back f u);
}

-- fewer classes are said not to go on, fewer lists are read
pub reads_fewer : (n : ℕ) (on less : List Token → Bool) (a : Part) (goes more : Classes) (r : Reading) →
    ((ts : List Token) → less ts ≡ true → on ts ≡ true) → ((c : TokenClass) → more c ≡ false → goes c ≡ false)
    →
    Reads n on a goes r → Reads n less a more r
reads_fewer n on less a goes more r on_less fewer e = record {
  taken = λ ts h. e.taken ts (on_less ts h);
  given = λ f rest u pairs ends. e.given f rest u pairs (next_is_fewer more goes fewer rest ends);
}

-- NOTHING AND TOKENS

ltb_zero : (n : ℕ) → ltb n 0 ≡ false
ltb_zero n = grind (arith, nat_tests)

pub reads_nothing : (n : ℕ) → Reads n always nothing none read_nothing
reads_nothing n = record {
  taken = λ ts h. record {
    spelled = is_nothing;
    cut = refl;
    pairs = refl;
    level = refl;
    near =
        λ us e. refl;
  };
  given = λ f rest u pairs ends.
      let is_nil : f ≡ [] = opened u in
      ap (λ x. done [] (yield x ++ rest)) is_nil ∙ ap (λ x. outcome n x rest) (sym is_nil);
}

token_done : (n : ℕ) (classes : Classes) (t : Token) (ts : List Token) → classes (class_of t) ≡ true →
    Done n (token classes) (read_token classes) (t ∷ ts) (leaf t ∷ []) ts
token_done n classes t ts h = record {
  spelled = is_token classes t h;
  cut = refl;
  pairs = refl;
  level = ap (λ b. if b then Some (leaf t ∷ []) else None) (ltb_zero n);
  near = λ us e. ap (λ b. if b then done (leaf t ∷ []) us else syntax (t ∷ us)) h;
}

token_given : (n : ℕ) (classes : Classes) (f : List Mark) (rest : List Token) → Opened (token classes) f →
    read_token classes (yield f ++ rest) ≡ outcome n f rest
token_given n classes f rest o =
    ap (λ x. read_token classes (yield x ++ rest)) o.2
    ∙ ap (λ b. if b then done (leaf o.0 ∷ []) rest else syntax (o.0 ∷ rest)) o.1
    ∙ ap (λ b. outcome_of (if b then Some (leaf o.0 ∷ []) else None) (leaf o.0 ∷ []) rest) (sym (ltb_zero n))
    ∙ ap (λ x. outcome n x rest) (sym o.2)

-- if the next token is known to be of the classes
pub reads_known : (n : ℕ) (classes : Classes) → Reads n (next_is classes) (token classes) none
    (read_token classes)
reads_known n classes = record {
  taken = λ ts h. known ts h;
  given = λ f rest u pairs ends. token_given n classes f rest (opened u);
}
  where
    is_known : (b : Bool) (t : Token) (ts : List Token) → b ≡ true →
        Done n (token classes) (read_token classes) (t ∷ ts) (leaf t ∷ []) ts →
        Taken n (token classes) (read_token classes) (t ∷ ts) (if b then done (leaf t ∷ []) ts else syntax
        (t ∷ ts))
    is_known true t ts h e = e
    is_known false t ts h e = absurd (false_is_true h)

    known : (ts : List Token) → next_is classes ts ≡ true → Taken n (token classes) (read_token classes) ts
        (read_token classes ts)
    known [] h = absurd (false_is_true h)
    known (t ∷ ts) h = is_known (classes (class_of t)) t ts h (token_done n classes t ts h)

-- a token of the classes that is no else
pub record Example (classes : Classes) : Type 0 where
  pub one : Token
  pub is_one : classes (class_of one) ≡ true
  pub calm : is_else (Some one) ≡ false

pub reads_token : (n : ℕ) (classes : Classes) → Example classes → Reads n always (token classes) none
    (read_token classes)
reads_token n classes e = record {
  taken = λ ts h. any ts;
  given = λ f rest u pairs ends. token_given n classes f rest (opened u);
}
  where
    refused : (ts : List Token) → ((us : List Token) → head_of us ≡ head_of ts → read_token classes us
        ≡ syntax us) →
        Refused (token classes) (read_token classes) ts ts
    refused ts near = record {
      before = [];
      cut = refl;
      near = near;
      tree = leaf e.one ∷ [];
      beyond = e.one ∷ [];
      spelled = is_token classes e.one e.is_one;
      yields = refl;
      pairs = λ next h. refl;
      calm = λ h. e.calm;
    }

    some_equal : {t u : Token} → Some t ≡ Some u → t ≡ u
    some_equal {t} h = ap (λ o. unwrap_or o t) h

    none_only : (us : List Token) → head_of us ≡ None → read_token classes us ≡ syntax us
    none_only [] h = refl
    none_only (u ∷ us) h = absurd (some_is_none h)

    other_too : (t : Token) → classes (class_of t) ≡ false → (us : List Token) → head_of us ≡ Some t →
        read_token classes us ≡ syntax us
    other_too t h [] g = absurd (some_is_none (sym g))
    other_too t h (u ∷ us) g =
        ap (λ b. if b then done (leaf u ∷ []) us else syntax (u ∷ us)) (ap (λ x. classes (class_of x))
        (some_equal g) ∙ h)

    by_test : (b : Bool) (t : Token) (ts : List Token) → classes (class_of t) ≡ b →
        Taken n (token classes) (read_token classes) (t ∷ ts) (if b then done (leaf t ∷ []) ts else syntax
        (t ∷ ts))
    by_test true t ts h = token_done n classes t ts h
    by_test false t ts h = refused (t ∷ ts) (other_too t h)

    any : (ts : List Token) → Taken n (token classes) (read_token classes) ts (read_token classes ts)
    any [] = refused [] none_only
    any (t ∷ ts) = by_test (classes (class_of t)) t ts refl

-- NODES

pub node_pairs : (r : Rule) (f : List Mark) (next : Option Token) → is_no_else r ≡ false →
    no_else_lost (node_of r f) next ≡ no_else_lost f next
node_pairs r f next h =
    pairs_append f (leave r ∷ []) next ∙ ap (λ b. no_else_lost f next && (not (b && is_else next) && true)) h
    ∙ and_true_right (no_else_lost f next)

node_level : (n : ℕ) (r : Rule) (f : List Mark) → IsEven f → sunk n 0 (node_of r f) ≡ or_tail (sunk n 0 f)
    (leave r ∷ []) None
node_level n r f e = e.joins n 0 (leave r ∷ [])

node_outcome : (n : ℕ) (r : Rule) (f : List Mark) (rest : List Token) → IsEven f → (x : Option (List Mark)) →
    sunk n 0 f ≡ x →
    around r (outcome_of x f rest) ≡ outcome n (node_of r f) rest
node_outcome n r f rest e None h =
    ap (λ x. outcome_of x (node_of r f) rest)
    (sym (node_level n r f e ∙ ap (λ x. or_tail x (leave r ∷ []) None) h))
node_outcome n r f rest e (Some ms) h =
    ap (λ x. too_deep (x ++ rest)) (sym (yield_append ms (leave r ∷ []) ∙ append-nil (yield ms)))
    ∙ ap (λ x. outcome_of x (node_of r f) rest)
    (sym (node_level n r f e ∙ ap (λ x. or_tail x (leave r ∷ []) None) h))

module _ (n : ℕ) (a b : Part) (rl : Rule) (plain : is_no_else rl ≡ false) (r : Reading)
    (wrap : (f : List Mark) → Spells a f → Spells b (node_of rl f)) where
  node_taken : (ts : List Token) (answer : Answer) → Taken n a r ts answer → Taken n b (read_node rl r) ts
      (around rl answer)
  node_taken ts (done f rest) e = record {
    spelled = wrap f e.spelled;
    cut = e.cut ∙ ap (λ x. x ++ rest) (sym (yield_node rl f));
    pairs = node_pairs rl f (head_of rest) plain ∙ e.pairs;
    level = node_level n rl f (even_of e.spelled) ∙ ap (λ x. or_tail x (leave rl ∷ []) None) e.level;
    near = λ us h. ap (λ x. around rl (r (x ++ us))) (yield_node rl f) ∙ ap (around rl) (e.near us h);
  }
  node_taken ts (syntax rest) e = record {
    before = e.before;
    cut = e.cut;
    near = λ us h. ap (around rl) (e.near us h);
    tree = node_of rl e.tree;
    beyond = e.beyond;
    spelled = wrap e.tree e.spelled;
    yields = yield_node rl e.tree ∙ e.yields;
    pairs = λ next h. node_pairs rl e.tree next plain ∙ e.pairs next h;
    calm = e.calm;
  }
  node_taken ts (too_deep rest) e = record {
    before = e.before;
    refused = e.refused;
    left = e.left;
    cut = e.cut;
    rest_is = e.rest_is;
    near = λ us h. ap (around rl) (e.near us h);
    tree = node_of rl e.tree;
    beyond = e.beyond ++ leave rl ∷ [];
    spelled = wrap e.tree e.spelled;
    level = node_level n rl e.tree (even_of e.spelled) ∙ ap (λ x. or_tail x (leave rl ∷ []) None) e.level;
    yields =
        yield_node rl e.tree ∙ e.yields
        ∙ ap (λ x. e.before ++ e.refused ∷ x) (sym (yield_append e.beyond (leave rl ∷ [])
        ∙ append-nil (yield e.beyond)));
    pairs = λ next h. node_pairs rl e.tree next plain ∙ e.pairs next h;
  }

  pub reads_wrapped : (on : List Token → Bool) (goes : Classes) →
      ((f : List Mark) → Spells b f → (g : List Mark) × Spells a g × (f ≡ node_of rl g)) →
      Reads n on a goes r → Reads n on b goes (read_node rl r)
  reads_wrapped on goes unwrap e = record {
    taken = λ ts h. node_taken ts (r ts) (e.taken ts h);
    given = λ f rest u pairs ends. whole f rest (unwrap f u) pairs ends;
  }
    where
      whole : (f : List Mark) (rest : List Token) → (g : List Mark) × Spells a g × (f ≡ node_of rl g) →
          no_else_lost f (head_of rest) ≡ true →
          next_is goes rest ≡ false → read_node rl r (yield f ++ rest) ≡ outcome n f rest
      whole f rest o pairs ends =
          ap (λ x. read_node rl r (x ++ rest)) (ap yield o.2 ∙ yield_node rl o.0)
          ∙ ap (around rl) (e.given o.0 rest o.1 (sym (node_pairs rl o.0 (head_of rest) plain)
          ∙ ap (λ x. no_else_lost x (head_of rest)) (sym o.2) ∙ pairs) ends)
          ∙ node_outcome n rl o.0 rest (even_of o.1) (sunk n 0 o.0) refl
          ∙ ap (λ x. outcome n x rest) (sym o.2)

pub reads_node : (n : ℕ) (on : List Token → Bool) (a : Part) (rl : Rule) (goes : Classes) (r : Reading) →
    is_no_else rl ≡ false →
    Reads n on a goes r → Reads n on (node rl a) goes (read_node rl r)
reads_node n on a rl goes r plain = reads_wrapped n a (node rl a) rl plain r (λ f u. is_node rl a f u) on goes
    (λ f u. opened u)

pub reads_rule : (n : ℕ) (on : List Token → Bool) (rl : Rule) (goes : Classes) (r : Reading) →
    is_no_else rl ≡ false →
    Reads n on (grammar rl) goes r → Reads n on (rule rl) goes (read_node rl r)
reads_rule n on rl goes r plain = reads_wrapped n (grammar rl) (rule rl) rl plain r (λ f u. is_rule rl f u) on
    goes (λ f u. opened u)
