-- What the trees of each part begin with, some tree of each, and one for each token that it may begin with.

use Rattle.std.proofs.Common.{◌≡◌, Bool, true, false, ◌&&◌, ◌||◌, List, [], ◌∷◌, ◌++◌, Option, refl, sym, ap, ◌∙◌, subst, append-nil}
use Rattle.ba_tokens.specs.declared.token.Token.{Token}
use Rattle.ba_trees.specs.Classes.{Classes, class_of, ◌or◌}
use Rattle.ba_trees.specs.Marks.{Rule, Mark, leaf, node_of, one_deeper, yield, first_or, is_else, is_no_else, no_else_lost}
use Rattle.ba_parse.specs.Grammar.{Part, Spells, is_nothing, is_token, is_node, is_rule, is_after, is_first, is_second, is_none, is_more, is_deeper, nothing, token, node, rule, after, either, many, deeper, grammar, ◌·◌, maybe}
use Rattle.ba_parse.proofs.Forests.{yield_append, yield_node, yield_deeper, pairs_append}
use Rattle.ba_parse.proofs.Certified.{Opened, opened, head_of, BeginsWith, First, Sample, and_true, and_left, and_right, calm_or}
use Rattle.ba_parse.proofs.Combined.{none, Example, node_pairs}
use Rattle.ba_parse.proofs.Repeated.{begins_append}
use Rattle.ba_parse.proofs.Deepened.{From, deeper_pairs}
use Rattle.ba_parse.proofs.Tables.{lies_in, inside}
use Rattle.ba_parse.proofs.Goods.{node_begins, begins_keep, begins_skip, first_either, sample_second}

-- FIRST TOKENS

pub first_token : (classes : Classes) → First (token classes) classes false
first_token classes = record {
  begins = λ f u. let o : Opened (token classes) f = opened u in
      subst (λ x. BeginsWith classes false (yield x)) (sym o.2) o.1;
}

pub first_then : {a : Part} {k : List Mark → Part} {starts : Classes} → First a starts false →
    First (after a k) starts false
first_then {a} {k} {starts} p = record {
  begins = λ f u.
      let o : Opened (after a k) f = opened u in
      subst (λ x. BeginsWith starts false (yield x)) (sym o.4)
      (subst (BeginsWith starts false) (sym (yield_append o.0 o.1)) (begins_keep starts (yield o.0)
      (yield o.1) (p.begins o.0 o.2)));
}

pub first_skip : {a b : Part} {starts second : Classes} {empty : Bool} → (more : Classes) →
    First a starts true → First b second empty →
    (lies_in starts more && lies_in second more) ≡ true → First (a · b) more empty
first_skip {a} {b} {starts} {second} {empty} more p q k = record {
  begins = λ f u.
      let o : Opened (a · b) f = opened u in
      subst (λ x. BeginsWith more empty (yield x)) (sym o.4)
      (subst (BeginsWith more empty) (sym (yield_append o.0 o.1))
      (begins_skip starts second more empty
      (inside starts more (and_left (lies_in starts more) (lies_in second more) k))
      (inside second more (and_right (lies_in starts more) (lies_in second more) k)) (yield o.0) (yield o.1)
      (p.begins o.0 o.2) (q.begins o.1 o.3)));
}

pub first_or_else : {a b : Part} {starts second : Classes} {empty : Bool} → (more : Classes) →
    First a starts false → First b second empty →
    (lies_in starts more && lies_in second more) ≡ true → First (either a b) more empty
first_or_else {a} {b} {starts} {second} {empty} more p q k =
    record { begins = λ f u. first_either {starts = starts} {second = second} more p q k f (opened u) }

pub first_nothing : First nothing none true
first_nothing = record { begins = λ f u. subst (λ x. BeginsWith none true (yield x)) (sym (opened u)) refl }

pub first_maybe : {a : Part} {starts : Classes} → First a starts false →
    (lies_in starts starts && lies_in none starts) ≡ true → First (maybe a) starts true
first_maybe {a} {starts} p h = first_or_else starts p first_nothing h

pub first_node : {a : Part} {starts : Classes} {empty : Bool} → (rl : Rule) → First a starts empty →
    First (node rl a) starts empty
first_node {a} {starts} {empty} rl p = record {
  begins = λ f u. let o : Opened (node rl a) f = opened u in node_begins starts empty rl f o.0 o.2
      (p.begins o.0 o.1);
}

pub first_rule : {starts : Classes} {empty : Bool} → (rl : Rule) → First (grammar rl) starts empty →
    First (rule rl) starts empty
first_rule {starts} {empty} rl p = record {
  begins = λ f u. let o : Opened (rule rl) f = opened u in node_begins starts empty rl f o.0 o.2
      (p.begins o.0 o.1);
}

pub first_of_many : {a : Part} {starts : Classes} → First a starts false → First (many a) starts true
first_of_many {a} {starts} p = record { begins = λ f u. here f u }
  where
    here : (f : List Mark) → Spells (many a) f → BeginsWith starts true (yield f)
    here f (is_none q) = refl
    here f (is_more q g h u v) =
        subst (BeginsWith starts true) (sym (yield_append g h)) (begins_append starts starts (λ c e. e)
        (yield g) (yield h) (p.begins g u))

-- SAMPLES

pub sample_token : (classes : Classes) → Example classes → Sample (token classes)
sample_token classes e = record {
  tree = leaf e.one ∷ [];
  spelled = is_token classes e.one e.is_one;
  pairs =
      λ next h. refl;
  calm = e.calm;
}

pub sample_nothing : Sample nothing
sample_nothing = record { tree = []; spelled = is_nothing; pairs = λ next h. refl; calm = refl }

pub sample_maybe : (a : Part) → Sample (maybe a)
sample_maybe a = sample_second sample_nothing

pub sample_node : {a : Part} → (rl : Rule) → is_no_else rl ≡ false → Sample a → Sample (node rl a)
sample_node {a} rl plain s = record {
  tree = node_of rl s.tree;
  spelled = is_node rl a s.tree s.spelled;
  pairs = λ next h. node_pairs rl s.tree next plain ∙ s.pairs next h;
  calm = ap (λ x. is_else (head_of x)) (yield_node rl s.tree) ∙ s.calm;
}

pub sample_rule : (rl : Rule) → is_no_else rl ≡ false → Sample (grammar rl) → Sample (rule rl)
sample_rule rl plain s = record {
  tree = node_of rl s.tree;
  spelled = is_rule rl s.tree s.spelled;
  pairs = λ next h. node_pairs rl s.tree next plain ∙ s.pairs next h;
  calm = ap (λ x. is_else (head_of x)) (yield_node rl s.tree) ∙ s.calm;
}

pub sample_deeper : {a : Part} → Sample a → Sample (deeper a)
sample_deeper {a} s = record {
  tree = one_deeper s.tree;
  spelled = is_deeper a s.tree s.spelled;
  pairs = λ next h. deeper_pairs s.tree next ∙ s.pairs next h;
  calm = ap (λ x. is_else (head_of x)) (yield_deeper s.tree) ∙ s.calm;
}

-- A TREE FOR A TOKEN

-- one for each token of the classes
pub record FromAll (a : Part) (starts : Classes) : Type 0 where
  pub from : (t : Token) → starts (class_of t) ≡ true → From a t

pub from_token : (classes : Classes) → FromAll (token classes) classes
from_token classes = record {
  from = λ t h. record {
    tree = leaf t ∷ [];
    beyond = [];
    spelled = is_token classes t h;
    yields =
        refl;
    pairs = λ next e. refl;
  };
}

then_from : {a : Part} {k : List Mark → Part} {t : Token} → (e : From a t) → Sample (k e.tree) →
    From (after a k) t
then_from {a} {k} e s = record {
  tree = e.tree ++ s.tree;
  beyond = e.beyond ++ yield s.tree;
  spelled = is_after a k e.tree s.tree e.spelled s.spelled;
  yields = yield_append e.tree s.tree ∙ ap (λ x. x ++ yield s.tree) e.yields;
  pairs = λ next k.
      pairs_append e.tree s.tree next
      ∙ and_true (no_else_lost e.tree (first_or (yield s.tree) next)) (no_else_lost s.tree next)
      (e.pairs (first_or (yield s.tree) next) (calm_or (yield s.tree) next s.calm k)) (s.pairs next k);
}

pub from_then : {a b : Part} {starts : Classes} → FromAll a starts → Sample b → FromAll (a · b) starts
from_then {a} {b} f s = record { from = λ t h. then_from {k = λ g. b} (f.from t h) s }

pub from_after : {a : Part} {starts : Classes} → (k : List Mark → Part) → FromAll a starts →
    ((f : List Mark) → Sample (k f)) → FromAll (after a k) starts
from_after k f s = record {
  from = λ t h.
      let e : From _ t = f.from t h in
      then_from {k = k} e (s e.tree);
}

first_from : {a b : Part} {t : Token} → From a t → From (either a b) t
first_from {a} {b} e = record {
  tree = e.tree;
  beyond = e.beyond;
  spelled = is_first a b e.tree e.spelled;
  yields = e.yields;
  pairs = e.pairs;
}

second_from : {a b : Part} {t : Token} → From b t → From (either a b) t
second_from {a} {b} e = record {
  tree = e.tree;
  beyond = e.beyond;
  spelled = is_second a b e.tree e.spelled;
  yields = e.yields;
  pairs = e.pairs;
}

pub from_first : {a b : Part} {starts : Classes} → FromAll a starts → FromAll (either a b) starts
from_first f = record { from = λ t h. first_from (f.from t h) }

pub from_second : {a b : Part} {starts : Classes} → FromAll b starts → FromAll (either a b) starts
from_second f = record { from = λ t h. second_from (f.from t h) }

-- a tree without leaves
pub record Blank (a : Part) : Type 0 where
  pub tree : List Mark
  pub spelled : Spells a tree
  pub no_leaf : yield tree ≡ []
  pub pairs : (next : Option Token) → no_else_lost tree next ≡ true

behind_from : {a b : Part} {t : Token} → Blank a → From b t → From (a · b) t
behind_from {a} {b} g e = record {
  tree = g.tree ++ e.tree;
  beyond = e.beyond;
  spelled = is_after a (λ f. b) g.tree e.tree g.spelled e.spelled;
  yields = yield_append g.tree e.tree ∙ ap (λ x. x ++ yield e.tree) g.no_leaf ∙ e.yields;
  pairs = λ next k.
      pairs_append g.tree e.tree next
      ∙ and_true (no_else_lost g.tree (first_or (yield e.tree) next)) (no_else_lost e.tree next)
      (g.pairs (first_or (yield e.tree) next)) (e.pairs next k);
}

-- the first part is empty
pub from_behind : {a b : Part} {starts : Classes} → Blank a → FromAll b starts → FromAll (a · b) starts
from_behind g f = record { from = λ t h. behind_from g (f.from t h) }

by_either : {a : Part} {p q : Classes} → FromAll a p → FromAll a q → (t : Token) → (x : Bool) →
    p (class_of t) ≡ x → (x || q (class_of t)) ≡ true → From a t
by_either f g t true h e = f.from t h
by_either f g t false h e = g.from t e

pub from_both : {a : Part} {p q : Classes} → (more : Classes) → FromAll a p → FromAll a q →
    lies_in more (p or q) ≡ true → FromAll a more
from_both {a} {p} {q} more f g h = record {
  from = λ t e. by_either f g t (p (class_of t)) refl
      (inside more (p or q) h (class_of t) e);
}

pub from_either : {a b : Part} {p q : Classes} → (more : Classes) → FromAll a p → FromAll b q →
    lies_in more (p or q) ≡ true → FromAll (either a b) more
from_either more f g h = from_both more (from_first f) (from_second g) h

node_from : {a : Part} {t : Token} → (rl : Rule) → is_no_else rl ≡ false → From a t → From (node rl a) t
node_from {a} rl plain e = record {
  tree = node_of rl e.tree;
  beyond = e.beyond;
  spelled = is_node rl a e.tree e.spelled;
  yields = yield_node rl e.tree ∙ e.yields;
  pairs = λ next k. node_pairs rl e.tree next plain ∙ e.pairs next k;
}

rule_from : {t : Token} → (rl : Rule) → is_no_else rl ≡ false → From (grammar rl) t → From (rule rl) t
rule_from rl plain e = record {
  tree = node_of rl e.tree;
  beyond = e.beyond;
  spelled = is_rule rl e.tree e.spelled;
  yields = yield_node rl e.tree ∙ e.yields;
  pairs = λ next k. node_pairs rl e.tree next plain ∙ e.pairs next k;
}

pub from_node : {a : Part} {starts : Classes} → (rl : Rule) → is_no_else rl ≡ false → FromAll a starts →
    FromAll (node rl a) starts
from_node rl plain f = record { from = λ t h. node_from rl plain (f.from t h) }

pub from_rule : {starts : Classes} → (rl : Rule) → is_no_else rl ≡ false → FromAll (grammar rl) starts →
    FromAll (rule rl) starts
from_rule rl plain f = record { from = λ t h. rule_from rl plain (f.from t h) }

many_from : {a : Part} {t : Token} → From a t → From (many a) t
many_from {a} e = record {
  tree = e.tree ++ [];
  beyond = e.beyond;
  spelled = is_more a e.tree [] e.spelled (is_none a);
  yields = ap yield (append-nil e.tree) ∙ e.yields;
  pairs = λ next k. ap (λ x. no_else_lost x next) (append-nil e.tree) ∙ e.pairs next k;
}

pub from_many : {a : Part} {starts : Classes} → FromAll a starts → FromAll (many a) starts
from_many f = record { from = λ t h. many_from (f.from t h) }
