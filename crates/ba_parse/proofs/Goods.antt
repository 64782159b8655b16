-- Parts with all that is known of their readings, put together by conditions that are computed.

use Rattle.std.proofs.Common.{◌≡◌, ℕ, Bool, true, false, not, ◌&&◌, ◌||◌, List, [], ◌∷◌, ◌++◌, refl, sym, ap, ◌∙◌, inl, inr, subst}
use Rattle.ba_tokens.specs.declared.token.Token.{Token}
use Rattle.ba_trees.specs.declared.class.TokenClass.{TokenClass}
use Rattle.ba_trees.specs.Classes.{Classes, class_of}
use Rattle.ba_trees.specs.Marks.{Rule, Mark, leaf, node_of, yield, first_or, is_else, is_no_else, no_else_lost}
use Rattle.ba_parse.specs.Grammar.{Part, Spells, is_nothing, is_token, is_node, is_rule, is_after, is_first, is_second, nothing, token, node, rule, after, either, many, grammar, ◌·◌, maybe}
use Rattle.ba_parse.specs.Readings.{Reading, next_is, read_token, read_nothing, read_node, read_either, read_maybe, read_many, read_after, ◌▹◌}
use Rattle.ba_parse.proofs.Forests.{yield_append, yield_node, pairs_append}
use Rattle.ba_parse.proofs.Certified.{Opened, opened, head_of, always, Reads, BeginsWith, First, Sample, Follows, reads_after, and_true, and_left, and_right, false_is_true, calm_or, calm_append}
use Rattle.ba_parse.proofs.Combined.{none, Example, reads_nothing, reads_token, reads_same, reads_fewer, reads_node, reads_rule, node_pairs}
use Rattle.ba_parse.proofs.Repeated.{Decides, Repeats, reads_choice, reads_many, first_many, sample_many}
use Rattle.ba_parse.proofs.Tables.{lies_in, are_apart, inside, outside, apart}

pub record Good (n : ℕ) (a : Part) (starts : Classes) (empty : Bool) (goes : Classes) (r : Reading) : Type 0
  where
    pub reads : Reads n always a goes r
    pub first : First a starts empty
    pub sample : Sample a

-- FIRST TOKENS AND SAMPLES

pub begins_in : (starts more : Classes) (empty : Bool) → ((c : TokenClass) → starts c ≡ true → more c ≡ true)
    → (ts : List Token) →
    BeginsWith starts empty ts → BeginsWith more empty ts
begins_in starts more empty h [] b = b
begins_in starts more empty h (t ∷ ts) b = h (class_of t) b

pub begins_skip : (starts second more : Classes) (empty : Bool) → ((c : TokenClass) → starts c ≡ true →
    more c ≡ true) →
    ((c : TokenClass) → second c ≡ true → more c ≡ true) → (ts us : List Token) → BeginsWith starts true ts →
    BeginsWith second empty us →
    BeginsWith more empty (ts ++ us)
begins_skip starts second more empty h k [] us b e = begins_in second more empty k us e
begins_skip starts second more empty h k (t ∷ ts) us b e = h (class_of t) b

pub begins_keep : (starts : Classes) (ts us : List Token) → BeginsWith starts false ts →
    BeginsWith starts false (ts ++ us)
begins_keep starts [] us b = absurd (false_is_true b)
begins_keep starts (t ∷ ts) us b = b

pub sample_after : {a : Part} {k : List Mark → Part} → (s : Sample a) → Sample (k s.tree) → Sample (after a k)
sample_after {a} {k} s u = record {
  tree = s.tree ++ u.tree;
  spelled = is_after a k s.tree u.tree s.spelled u.spelled;
  pairs = λ next h.
      pairs_append s.tree u.tree next
      ∙ and_true (no_else_lost s.tree (first_or (yield u.tree) next)) (no_else_lost u.tree next)
      (s.pairs (first_or (yield u.tree) next) (calm_or (yield u.tree) next u.calm h)) (u.pairs next h);
  calm = ap (λ x. is_else (head_of x)) (yield_append s.tree u.tree)
      ∙ calm_append (yield s.tree) (yield u.tree) s.calm u.calm;
}

-- TOKENS AND NOTHING

pub good_token : (n : ℕ) (classes : Classes) → Example classes → Good n (token classes) classes false none
    (read_token classes)
good_token n classes e = record {
  reads = reads_token n classes e;
  first = record {
    begins = λ f u. let o : Opened (token classes) f = opened u in
        subst (λ x. BeginsWith classes false (yield x)) (sym o.2) o.1;
  };
  sample = record {
    tree = leaf e.one ∷ [];
    spelled = is_token classes e.one e.is_one;
    pairs =
        λ next h. refl;
    calm = e.calm;
  };
}

pub good_nothing : (n : ℕ) → Good n nothing none true none read_nothing
good_nothing n = record {
  reads = reads_nothing n;
  first = record { begins = λ f u. subst (λ x. BeginsWith none true (yield x)) (sym (opened u)) refl };
  sample = record { tree = []; spelled = is_nothing; pairs = λ next h. refl; calm = refl };
}

-- ONE PART AND THEN ANOTHER

abbrev pub may_follow : Classes → Classes → Bool → Classes → Classes → Bool
may_follow goes_first starts empty goes_second goes = are_apart starts goes_first
    && ((not empty || lies_in goes_first goes) && lies_in goes_second goes)

pub or_true : (b c : Bool) → (not b || c) ≡ true → b ≡ true → c ≡ true
or_true true c h e = h
or_true false c h e = absurd (false_is_true e)

follows_of : (goes_first starts : Classes) (empty : Bool) (goes_second goes : Classes) →
    may_follow goes_first starts empty goes_second goes ≡ true →
    Follows goes_first starts empty goes_second goes
follows_of goes_first starts empty goes_second goes h =
    let rest : ((not empty || lies_in goes_first goes) && lies_in goes_second goes) ≡ true =
    and_right (are_apart starts goes_first) ((not empty || lies_in goes_first goes) && lies_in goes_second
    goes) h in
    record {
      apart = apart starts goes_first (and_left (are_apart starts goes_first)
          ((not empty || lies_in goes_first goes) && lies_in goes_second goes) h);
      through = λ e. outside goes_first goes (or_true empty (lies_in goes_first goes)
          (and_left (not empty || lies_in goes_first goes) (lies_in goes_second goes) rest) e);
      last = outside goes_second goes (and_right (not empty || lies_in goes_first goes)
          (lies_in goes_second goes) rest);
    }

-- the second part may depend on the tree of the first
pub good_after : {n : ℕ} {a : Part} {starts second goes_first goes_second : Classes} {empty : Bool}
    {r : Reading} → (k : List Mark → Part) (s : List Mark → Reading) (goes : Classes) →
    Good n a starts false goes_first r → ((f : List Mark) → Good n (k f) second empty goes_second (s f)) →
    may_follow goes_first second empty goes_second goes ≡ true →
    Good n (after a k) starts false goes (read_after r s)
good_after {n} {a} {starts} {second} {goes_first} {goes_second} {empty} {r} k s goes p q h = record {
  reads =
      reads_after n a k r s goes_first goes_second goes second empty always p.reads
      (λ f u. (q f).reads) (λ f u. (q f).first) (λ f u. (q f).sample)
      (follows_of goes_first second empty goes_second goes h);
  first = record {
    begins = λ f u.
        let o : Opened (after a k) f = opened u in
        subst (λ x. BeginsWith starts false (yield x)) (sym o.4)
        (subst (BeginsWith starts false) (sym (yield_append o.0 o.1)) (begins_keep starts (yield o.0)
        (yield o.1) (p.first.begins o.0 o.2)));
  };
  sample = sample_after p.sample (q p.sample.tree).sample;
}

pub good_then : {n : ℕ} {a b : Part} {starts second goes_first goes_second : Classes} {empty : Bool}
    {r s : Reading} → (goes : Classes) →
    Good n a starts false goes_first r → Good n b second empty goes_second s → may_follow goes_first second
    empty goes_second goes ≡ true →
    Good n (a · b) starts false goes (r ▹ s)
good_then {b = b} {s = s} goes p q h = good_after (λ f. b) (λ f. s) goes p (λ f. q) h

pub good_skip : {n : ℕ} {a b : Part} {starts second goes_first goes_second : Classes} {empty : Bool}
    {r s : Reading} → (more goes : Classes) →
    Good n a starts true goes_first r → Good n b second empty goes_second s → may_follow goes_first second
    empty goes_second goes ≡ true →
    (lies_in starts more && lies_in second more) ≡ true → Good n (a · b) more empty goes (r ▹ s)
good_skip {n} {a} {b} {starts} {second} {goes_first} {goes_second} {empty} {r} {s} more goes p q h k =
    record {
      reads =
          reads_after n a (λ f. b) r (λ f. s) goes_first goes_second goes second empty always p.reads
          (λ f u. q.reads) (λ f u. q.first) (λ f u. q.sample)
          (follows_of goes_first second empty goes_second goes h);
      first = record {
        begins = λ f u.
            let o : Opened (a · b) f = opened u in
            subst (λ x. BeginsWith more empty (yield x)) (sym o.4)
            (subst (BeginsWith more empty) (sym (yield_append o.0 o.1))
            (begins_skip starts second more empty
            (inside starts more (and_left (lies_in starts more) (lies_in second more) k))
            (inside second more (and_right (lies_in starts more) (lies_in second more) k))
            (yield o.0) (yield o.1)
            (p.first.begins o.0 o.2) (q.first.begins o.1 o.3)));
      };
      sample = sample_after p.sample q.sample;
    }

-- CHOICES

abbrev pub may_choose : Classes → Classes → Classes → Bool → Classes → Classes → Classes → Bool
may_choose classes starts second empty goes_first goes_second goes =
    lies_in starts classes && (are_apart second classes && ((not empty || lies_in classes goes)
    && (lies_in goes_first goes && lies_in goes_second goes)))

decides_of : (classes starts second : Classes) (empty : Bool) (goes_first goes_second goes : Classes) →
    may_choose classes starts second empty goes_first goes_second goes ≡ true → Decides classes starts second
    empty goes_first goes_second goes
decides_of classes starts second empty goes_first goes_second goes h =
    let fewer : Bool = lies_in goes_first goes && lies_in goes_second goes in
    let through : Bool = not empty || lies_in classes goes in
    let one : (are_apart second classes && (through && fewer)) ≡ true = and_right (lies_in starts classes)
    (are_apart second classes && (through && fewer)) h in
    let two : (through && fewer) ≡ true = and_right (are_apart second classes) (through && fewer) one in
    let three : fewer ≡ true = and_right through fewer two in
    record {
      first = inside starts classes (and_left (lies_in starts classes) (are_apart second classes
          && (through && fewer)) h);
      second = apart second classes (and_left (are_apart second classes) (through && fewer) one);
      through = λ e. outside classes goes (or_true empty (lies_in classes goes) (and_left through fewer two)
          e);
      fewer_first = outside goes_first goes (and_left (lies_in goes_first goes) (lies_in goes_second goes)
          three);
      fewer_second = outside goes_second goes (and_right (lies_in goes_first goes) (lies_in goes_second goes)
          three);
    }

pub first_either : {a b : Part} {starts second : Classes} {empty : Bool} → (more : Classes) →
    First a starts false → First b second empty →
    (lies_in starts more && lies_in second more) ≡ true → (f : List Mark) → Opened (either a b) f →
    BeginsWith more empty (yield f)
first_either {a} {b} {starts} {second} {empty} more p q k f (inl u) =
    not_empty (yield f) (begins_in starts more false
    (inside starts more (and_left (lies_in starts more) (lies_in second more) k)) (yield f)
    (p.begins f u))
  where
    not_empty : (ts : List Token) → BeginsWith more false ts → BeginsWith more empty ts
    not_empty [] b = absurd (false_is_true b)
    not_empty (t ∷ ts) b = b
first_either {a} {b} {starts} {second} {empty} more p q k f (inr u) =
    begins_in second more empty (inside second more (and_right (lies_in starts more) (lies_in second more) k))
    (yield f) (q.begins f u)

pub sample_first : {a b : Part} → Sample a → Sample (either a b)
sample_first {a} {b} s = record {
  tree = s.tree;
  spelled = is_first a b s.tree s.spelled;
  pairs =
      s.pairs;
  calm = s.calm;
}

pub sample_second : {a b : Part} → Sample b → Sample (either a b)
sample_second {a} {b} s = record {
  tree = s.tree;
  spelled = is_second a b s.tree s.spelled;
  pairs =
      s.pairs;
  calm = s.calm;
}

pub good_either : {n : ℕ} {a b : Part} {starts second goes_first goes_second : Classes} {empty : Bool}
    {r s : Reading} → (classes more goes : Classes) →
    Good n a starts false goes_first r → Good n b second empty goes_second s →
    may_choose classes starts second empty goes_first goes_second goes ≡ true →
    (lies_in starts more && lies_in second more) ≡ true →
    Good n (either a b) more empty goes (read_either (next_is classes) r s)
good_either {n} {a} {b} {starts} {second} {goes_first} {goes_second} {empty} {r} {s} classes more goes p q h
    k = record {
      reads =
          reads_choice n a b r s classes starts second empty goes_first goes_second goes always
          (reads_fewer n always (next_is classes) a goes_first goes_first r (λ ts e. refl) (λ c e. e) p.reads)
          q.reads p.first q.first
          (decides_of classes starts second empty goes_first goes_second goes h);
      first = record { begins = λ f u. first_either more p.first q.first k f (opened u) };
      sample = sample_first p.sample;
    }

pub good_maybe : {n : ℕ} {a : Part} {starts goes_first : Classes} {r : Reading} → (classes goes : Classes) →
    Good n a starts false goes_first r →
    may_choose classes starts none true goes_first none goes ≡ true →
    (lies_in starts classes && lies_in none classes) ≡ true →
    Good n (maybe a) classes true goes (read_maybe classes r)
good_maybe {n} classes goes p h k = good_either classes classes goes p (good_nothing n) h k

-- REPETITION

abbrev pub may_repeat : Classes → Classes → Classes → Classes → Bool
may_repeat classes starts goes_one goes = lies_in starts classes
    && (are_apart classes goes_one && (lies_in goes_one goes && lies_in classes goes))

repeats_of : (classes starts goes_one goes : Classes) → may_repeat classes starts goes_one goes ≡ true →
    Repeats classes starts goes_one goes
repeats_of classes starts goes_one goes h =
    let last : Bool = lies_in goes_one goes && lies_in classes goes in
    let one : (are_apart classes goes_one && last) ≡ true = and_right (lies_in starts classes)
    (are_apart classes goes_one && last) h in
    let two : last ≡ true = and_right (are_apart classes goes_one) last one in
    record {
      first = inside starts classes (and_left (lies_in starts classes) (are_apart classes goes_one && last)
          h);
      apart = apart classes goes_one (and_left (are_apart classes goes_one) last one);
      through = outside goes_one goes (and_left (lies_in goes_one goes) (lies_in classes goes) two);
      beyond = outside classes goes (and_right (lies_in goes_one goes) (lies_in classes goes) two);
    }

pub good_many : {n : ℕ} {a : Part} {starts goes_one : Classes} {r : Reading} → (classes goes : Classes) →
    Good n a starts false goes_one r →
    may_repeat classes starts goes_one goes ≡ true → Good n (many a) classes true goes
    (read_many (next_is classes) r)
good_many {n} {a} {starts} {goes_one} {r} classes goes p h =
    let e : Reads n (next_is classes) a goes_one r = reads_fewer n always (next_is classes) a goes_one
    goes_one r (λ ts e. refl) (λ c e. e) p.reads in
    record {
      reads = reads_many n a r classes starts goes_one goes e p.first (repeats_of classes starts goes_one goes
          h);
      first = first_many n a r classes starts goes_one goes e p.first (repeats_of classes starts goes_one goes
          h);
      sample = sample_many a;
    }

-- NODES, and parts with the same trees

pub node_begins : (starts : Classes) (empty : Bool) (r : Rule) (f g : List Mark) → f ≡ node_of r g →
    BeginsWith starts empty (yield g) → BeginsWith starts empty (yield f)
node_begins starts empty r f g h b = subst (λ x. BeginsWith starts empty (yield x)) (sym h)
    (subst (BeginsWith starts empty) (sym (yield_node r g)) b)

pub good_node : {n : ℕ} {a : Part} {starts goes : Classes} {empty : Bool} {r : Reading} → (rl : Rule) →
    is_no_else rl ≡ false → Good n a starts empty goes r →
    Good n (node rl a) starts empty goes (read_node rl r)
good_node {n} {a} {starts} {goes} {empty} {r} rl plain p = record {
  reads = reads_node n always a rl goes r plain p.reads;
  first = record {
    begins = λ f u. let o : Opened (node rl a) f = opened u in node_begins starts empty rl f
        o.0 o.2 (p.first.begins o.0 o.1);
  };
  sample = record {
    tree = node_of rl p.sample.tree;
    spelled = is_node rl a p.sample.tree p.sample.spelled;
    pairs = λ next h. node_pairs rl p.sample.tree next plain ∙ p.sample.pairs next h;
    calm = ap (λ x. is_else (head_of x)) (yield_node rl p.sample.tree) ∙ p.sample.calm;
  };
}

pub good_rule : {n : ℕ} {starts goes : Classes} {empty : Bool} {r : Reading} → (rl : Rule) →
    is_no_else rl ≡ false → Good n (grammar rl) starts empty goes r →
    Good n (rule rl) starts empty goes (read_node rl r)
good_rule {n} {starts} {goes} {empty} {r} rl plain p = record {
  reads = reads_rule n always rl goes r plain p.reads;
  first = record {
    begins = λ f u. let o : Opened (rule rl) f = opened u in node_begins starts empty rl f o.0
        o.2 (p.first.begins o.0 o.1);
  };
  sample = record {
    tree = node_of rl p.sample.tree;
    spelled = is_rule rl p.sample.tree p.sample.spelled;
    pairs = λ next h. node_pairs rl p.sample.tree next plain ∙ p.sample.pairs next h;
    calm = ap (λ x. is_else (head_of x)) (yield_node rl p.sample.tree) ∙ p.sample.calm;
  };
}

pub good_same : {n : ℕ} {a b : Part} {starts goes : Classes} {empty : Bool} {r : Reading} →
    ((f : List Mark) → Spells a f → Spells b f) →
    ((f : List Mark) → Spells b f → Spells a f) → Good n a starts empty goes r → Good n b starts empty goes r
good_same {n} {a} {b} {starts} {goes} {empty} {r} there back p = record {
  reads = reads_same n always a b goes r there back p.reads;
  first = record { begins = λ f u. p.first.begins f (back f u) };
  sample = record {
    tree = p.sample.tree;
    spelled = there p.sample.tree p.sample.spelled;
    pairs =
        p.sample.pairs;
    calm = p.sample.calm;
  };
}

-- the part is said to be empty in some trees
may_be_empty : (starts : Classes) (ts : List Token) → BeginsWith starts false ts →
    BeginsWith starts true ts
may_be_empty starts [] b = absurd (false_is_true b)
may_be_empty starts (t ∷ ts) b = b

pub good_empty : {n : ℕ} {a : Part} {starts goes : Classes} {r : Reading} → Good n a starts false goes r →
    Good n a starts true goes r
good_empty {n} {a} {starts} p = record {
  reads = p.reads;
  first = record { begins = λ f u. may_be_empty starts (yield f) (p.first.begins f u) };
  sample = p.sample;
}

-- more classes are said to begin or go on
pub good_more : {n : ℕ} {a : Part} {starts goes : Classes} {empty : Bool} {r : Reading} →
    (more far : Classes) → Good n a starts empty goes r →
    (lies_in starts more && lies_in goes far) ≡ true → Good n a more empty far r
good_more {n} {a} {starts} {goes} {empty} {r} more far p h = record {
  reads = reads_fewer n always always a goes far r (λ ts e. e)
      (outside goes far (and_right (lies_in starts more) (lies_in goes far) h)) p.reads;
  first = record {
    begins = λ f u. begins_in starts more empty
        (inside starts more (and_left (lies_in starts more) (lies_in goes far) h)) (yield f)
        (p.first.begins f u);
  };
  sample = p.sample;
}
