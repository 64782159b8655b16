-- Readings that choose by the next two tokens keep what readings promise.

use Rattle.std.proofs.Common.{◌≡◌, ℕ, ◌+◌, ◌<◌, ◌≤◌, Bool, true, false, ◌&&◌, List, [], ◌∷◌, ◌++◌, length, refl, sym, ap, ◌∙◌, arith, length-append, inl, inr, subst}
use Rattle.ba_tokens.specs.declared.token.Token.{Token}
use Rattle.ba_trees.specs.declared.class.TokenClass.{TokenClass}
use Rattle.ba_trees.specs.Classes.{Classes, class_of}
use Rattle.ba_trees.specs.Marks.{Rule, Mark, leaf, yield}
use Rattle.ba_parse.specs.Grammar.{Part, Spells, token, rule, either, grammar, ◌·◌}
use Rattle.ba_parse.specs.Readings.{Answer, done, syntax, too_deep, Reading, with_front, then_read, around, next_is, read_token, read_node, read_either, ◌▹◌}
use Rattle.ba_parse.proofs.Forests.{yield_append, yield_node}
use Rattle.ba_parse.proofs.Certified.{Opened, opened, head_of, head_after, Taken, always, BeginsWith, First, and_left, and_right, false_is_true}
use Rattle.ba_parse.proofs.Combined.{left_of}
use Rattle.ba_parse.proofs.Repeated.{Stays, same_next, reads_either, if_true, if_false}
use Rattle.ba_parse.proofs.Tables.{lies_in, are_apart, inside, outside, apart}
use Rattle.ba_parse.proofs.Goods.{Good, first_either, sample_first}

abbrev pub two : Classes → Classes → List Token → Bool
two one next [] = false
two one next (t ∷ ts) = one (class_of t) && next_is next ts

-- READINGS THAT TAKE A TOKEN of a class

abbrev pub Takes : Classes → Reading → Type 0
Takes classes r = (ts : List Token) → next_is classes ts ≡ true → length (left_of (r ts)) < length ts

longer : (u rest ts : List Token) → ts ≡ u ++ rest → length rest ≤ length ts
longer u rest ts h = let e : length ts ≡ length u + length rest = ap length h ∙ length-append u rest in
    omega (arith, e)

left_is_less : (n : ℕ) (a : Part) (r : Reading) (ts : List Token) (answer : Answer) → Taken n a r ts answer →
    length (left_of answer) ≤ length ts
left_is_less n a r ts (done f rest) e = longer (yield f) rest ts e.cut
left_is_less n a r ts (syntax rest) e = longer e.before rest ts e.cut
left_is_less n a r ts (too_deep rest) e = longer e.before rest ts e.cut

pub takes_token : (classes : Classes) → Takes classes (read_token classes)
takes_token classes [] h = absurd (false_is_true h)
takes_token classes (t ∷ ts) h =
    subst (λ x. length (left_of x) < length (t ∷ ts))
    (sym (if_true (classes (class_of t)) (done (leaf t ∷ []) ts) (syntax (t ∷ ts)) h)) (omega arith)

pub takes_then : {n : ℕ} {b : Part} {starts goes : Classes} {empty : Bool} {s : Reading} →
    (classes : Classes) (r : Reading) → Takes classes r →
    Good n b starts empty goes s → Takes classes (r ▹ s)
takes_then {n} {b} {starts} {goes} {empty} {s} classes r takes p ts h = here (r ts) (takes ts h)
  where
    here : (answer : Answer) → length (left_of answer) < length ts →
        length (left_of (then_read answer (λ f. s))) < length ts
    here (done f rest) less = there (s rest) (left_is_less n b s rest (s rest) (p.reads.taken rest refl))
      where
        there : (answer : Answer) → length (left_of answer) ≤ length rest →
            length (left_of (with_front f answer)) < length ts
        there (done g more) le = omega (arith, less, le)
        there (syntax more) le = omega (arith, less, le)
        there (too_deep more) le = omega (arith, less, le)
    here (syntax rest) less = less
    here (too_deep rest) less = less

pub takes_node : (classes : Classes) (rl : Rule) (r : Reading) → Takes classes r →
    Takes classes (read_node rl r)
takes_node classes rl r takes ts h = here (r ts) (takes ts h)
  where
    here : (answer : Answer) → length (left_of answer) < length ts → length (left_of (around rl answer))
        < length ts
    here (done f rest) less = less
    here (syntax rest) less = less
    here (too_deep rest) less = less

next_inside : (p q : Classes) → ((c : TokenClass) → p c ≡ true → q c ≡ true) → (ts : List Token) →
    next_is p ts ≡ true → next_is q ts ≡ true
next_inside p q k [] h = h
next_inside p q k (t ∷ ts) h = k (class_of t) h

next_apart : (p q : Classes) → ((c : TokenClass) → p c ≡ true → q c ≡ false) → (ts : List Token) →
    next_is p ts ≡ true → next_is q ts ≡ false
next_apart p q k [] h = refl
next_apart p q k (t ∷ ts) h = k (class_of t) h

pub takes_second : (classes test : Classes) (r s : Reading) → are_apart classes test ≡ true →
    Takes classes s → Takes classes (read_either (next_is test) r s)
takes_second classes test r s k takes ts h =
    subst (λ x. length (left_of x) < length ts)
    (sym (if_false (next_is test ts) (r ts) (s ts) (next_apart classes test (apart classes test k) ts h)))
    (takes ts h)

pub takes_first : (classes test : Classes) (r s : Reading) → lies_in classes test ≡ true → Takes classes r →
    Takes classes (read_either (next_is test) r s)
takes_first classes test r s k takes ts h =
    subst (λ x. length (left_of x) < length ts)
    (sym (if_true (next_is test ts) (r ts) (s ts) (next_inside classes test (inside classes test k) ts
    h))) (takes ts h)

-- THE SECOND TOKEN of the trees of a part; alone tells that there may be none

abbrev pub SecondIs : Classes → Bool → List Token → Type 0
SecondIs second alone [] = Unit {0}
SecondIs second alone (t ∷ ts) = BeginsWith second alone ts

pub record Second (a : Part) (second : Classes) (alone : Bool) : Type 0 where
  pub begins : (f : List Mark) → Spells a f → SecondIs second alone (yield f)

pub second_token_then : {b : Part} {starts : Classes} {empty : Bool} → (classes : Classes) →
    First b starts empty → Second (token classes · b) starts empty
second_token_then {b} {starts} {empty} classes first = record {
  begins = λ f u.
      let o : Opened (token classes · b) f = opened u in
      let t : Opened (token classes) o.0 = opened o.2 in
      subst (λ x. SecondIs starts empty (yield x)) (sym (o.4 ∙ ap (λ x. x ++ o.1) t.2))
      (first.begins o.1 o.3);
}

pub second_rule : {second : Classes} {alone : Bool} → (rl : Rule) → Second (grammar rl) second alone →
    Second (rule rl) second alone
second_rule {second} {alone} rl p = record {
  begins = λ f u.
      let o : Opened (rule rl) f = opened u in
      subst (λ x. SecondIs second alone (yield x)) (sym o.2)
      (subst (SecondIs second alone) (sym (yield_node rl o.0)) (p.begins o.0 o.1));
}

begins_more : (starts more : Classes) → ((c : TokenClass) → starts c ≡ true → more c ≡ true) →
    (ts : List Token) →
    BeginsWith starts false ts → BeginsWith more false ts
begins_more starts more h [] b = b
begins_more starts more h (t ∷ ts) b = h (class_of t) b

second_join : (one second more : Classes) → ((c : TokenClass) → one c ≡ true → more c ≡ true) →
    ((c : TokenClass) → second c ≡ true → more c ≡ true) →
    (starts : Classes) (ts us : List Token) → BeginsWith starts false ts → SecondIs one true ts →
    BeginsWith second false us → SecondIs more false (ts ++ us)
second_join one second more h k starts [] us b s c = absurd (false_is_true b)
second_join one second more h k starts (t ∷ []) us b s c = begins_more second more k us c
second_join one second more h k starts (t ∷ u ∷ ts) us b s c = h (class_of u) s

pub second_then : {a b : Part} {starts one second : Classes} → (more : Classes) → First a starts false →
    Second a one true → First b second false →
    (lies_in one more && lies_in second more) ≡ true → Second (a · b) more false
second_then {a} {b} {starts} {one} {second} more first p q k = record {
  begins = λ f u.
      let o : Opened (a · b) f = opened u in
      subst (λ x. SecondIs more false (yield x)) (sym o.4)
      (subst (SecondIs more false) (sym (yield_append o.0 o.1))
      (second_join one second more (inside one more (and_left (lies_in one more) (lies_in second more) k))
      (inside second more (and_right (lies_in one more) (lies_in second more) k)) starts (yield o.0)
      (yield o.1)
      (first.begins o.0 o.2) (p.begins o.0 o.2) (q.begins o.1 o.3)));
}

second_maybe_join : (one second more : Classes) → ((c : TokenClass) → one c ≡ true → more c ≡ true) →
    ((c : TokenClass) → second c ≡ true → more c ≡ true) →
    (starts : Classes) (ts us : List Token) → BeginsWith starts false ts → SecondIs one true ts →
    BeginsWith second true us → SecondIs more true (ts ++ us)
second_maybe_join one second more h k starts [] us b s c = absurd (false_is_true b)
second_maybe_join one second more h k starts (t ∷ []) [] b s c = refl
second_maybe_join one second more h k starts (t ∷ []) (u ∷ us) b s c = k (class_of u) c
second_maybe_join one second more h k starts (t ∷ v ∷ ts) us b s c = h (class_of v) s

pub second_maybe_then : {a b : Part} {starts one second : Classes} → (more : Classes) → First a starts false →
    Second a one true → First b second true →
    (lies_in one more && lies_in second more) ≡ true → Second (a · b) more true
second_maybe_then {a} {b} {starts} {one} {second} more first p q k = record {
  begins = λ f u.
      let o : Opened (a · b) f = opened u in
      subst (λ x. SecondIs more true (yield x)) (sym o.4)
      (subst (SecondIs more true) (sym (yield_append o.0 o.1))
      (second_maybe_join one second more (inside one more (and_left (lies_in one more) (lies_in second more)
      k))
      (inside second more (and_right (lies_in one more) (lies_in second more) k)) starts (yield o.0)
      (yield o.1)
      (first.begins o.0 o.2) (p.begins o.0 o.2) (q.begins o.1 o.3)));
}

pub second_either : {a b : Part} {second : Classes} {alone : Bool} → Second a second alone →
    Second b second alone → Second (either a b) second alone
second_either {a} {b} {second} {alone} p q = record { begins = λ f u. here f (opened u) }
  where
    here : (f : List Mark) → Opened (either a b) f → SecondIs second alone (yield f)
    here f (inl u) = p.begins f u
    here f (inr u) = q.begins f u

second_keep : (starts one second : Classes) (ts us : List Token) → BeginsWith starts false ts →
    SecondIs one false ts → SecondIs one false (ts ++ us)
second_keep starts one second [] us b s = absurd (false_is_true b)
second_keep starts one second (t ∷ []) us b s = absurd (false_is_true s)
second_keep starts one second (t ∷ u ∷ ts) us b s = s

-- a first part of two tokens or more decides
pub second_of_first : {a b : Part} {starts one : Classes} → First a starts false → Second a one false →
    Second (a · b) one false
second_of_first {a} {b} {starts} {one} first p = record {
  begins = λ f u.
      let o : Opened (a · b) f = opened u in
      subst (λ x. SecondIs one false (yield x)) (sym o.4)
      (subst (SecondIs one false) (sym (yield_append o.0 o.1)) (second_keep starts one one (yield o.0)
      (yield o.1) (first.begins o.0 o.2) (p.begins o.0 o.2)));
}

-- WHAT TWO TOKENS TELL

two_true : (one next starts second : Classes) → ((c : TokenClass) → starts c ≡ true → one c ≡ true) →
    ((c : TokenClass) → second c ≡ true → next c ≡ true) →
    (ts rest : List Token) → BeginsWith starts false ts → SecondIs second false ts → two one next (ts ++ rest)
    ≡ true
two_true one next starts second h k [] rest b s = absurd (false_is_true b)
two_true one next starts second h k (t ∷ []) rest b s = absurd (false_is_true s)
two_true one next starts second h k (t ∷ u ∷ ts) rest b s = ap (λ x. x && next (class_of u))
    (h (class_of t) b) ∙ k (class_of u) s

and_false : (a b : Bool) → b ≡ false → (a && b) ≡ false
and_false true b h = h
and_false false b h = refl

two_false : (one next starts second : Classes) → ((c : TokenClass) → second c ≡ true → next c ≡ false) →
    (ts rest : List Token) → BeginsWith starts false ts → SecondIs second false ts → two one next (ts ++ rest)
    ≡ false
two_false one next starts second k [] rest b s = absurd (false_is_true b)
two_false one next starts second k (t ∷ []) rest b s = absurd (false_is_true s)
two_false one next starts second k (t ∷ u ∷ ts) rest b s = and_false (one (class_of t)) (next (class_of u))
    (k (class_of u) s)

pub two_other : (one next starts : Classes) → are_apart starts one ≡ true → (ts rest : List Token) →
    BeginsWith starts false ts → two one next (ts ++ rest) ≡ false
two_other one next starts k [] rest b = absurd (false_is_true b)
two_other one next starts k (t ∷ ts) rest b = ap (λ x. x && next_is next (ts ++ rest))
    (apart starts one k (class_of t) b)

pub picks_true : {a : Part} {starts second : Classes} → (one next : Classes) → First a starts false →
    Second a second false →
    (lies_in starts one && lies_in second next) ≡ true → (f : List Mark) (rest : List Token) → Spells a f →
    two one next (yield f ++ rest) ≡ true
picks_true {a} {starts} {second} one next first p k f rest u =
    two_true one next starts second (inside starts one (and_left (lies_in starts one) (lies_in second next)
    k))
    (inside second next (and_right (lies_in starts one) (lies_in second next) k)) (yield f) rest
    (first.begins f u) (p.begins f u)

pub picks_false : {a : Part} {starts second : Classes} → (one next : Classes) → First a starts false →
    Second a second false →
    are_apart second next ≡ true → (f : List Mark) (rest : List Token) → Spells a f →
    two one next (yield f ++ rest) ≡ false
picks_false {a} {starts} {second} one next first p k f rest u =
    two_false one next starts second (apart second next k) (yield f) rest (first.begins f u) (p.begins f u)

-- A CHOICE BY TWO TOKENS

less_than_self : (ts : List Token) → length ts < length ts → ⊥
less_than_self ts h = omega (arith, h)

stays_two : (test : List Token → Bool) (one next : Classes) → ((ts : List Token) → test ts ≡ two one next ts)
    → (ts rest : List Token) →
    (next_is one ts ≡ true → length rest < length ts) → Stays test ts rest
stays_two test one next is ts rest less [] us cut h = here (next_is one ts) refl
  where
    untouched : (vs : List Token) → next_is one vs ≡ false → two one next vs ≡ false
    untouched [] e = refl
    untouched (v ∷ vs) e = ap (λ x. x && next_is next vs) e

    here : (x : Bool) → next_is one ts ≡ x → test us ≡ test ts
    here true e = absurd (less_than_self ts (subst (λ x. length x < length ts) (sym cut) (less e)))
    here false e = is us ∙ untouched us (same_next one us ts (h ∙ sym (ap head_of cut)) ∙ e)
        ∙ sym (untouched ts e) ∙ sym (is ts)
stays_two test one next is ts rest less (t ∷ u) us cut h =
    is (t ∷ u ++ us) ∙ ap (λ x. one (class_of t) && x) (same_next next (u ++ us) (u ++ rest)
    (head_after u us rest h))
    ∙ sym (is (t ∷ u ++ rest)) ∙ ap test (sym cut)

pub good_ahead : {n : ℕ} {a b : Part} {starts second goes_first goes_second : Classes} {empty : Bool}
    {r s : Reading} →
    (test : List Token → Bool) (one next : Classes) (more goes : Classes) →
    ((ts : List Token) → test ts ≡ two one next ts) →
    Good n a starts false goes_first r → Good n b second empty goes_second s → Takes one r → Takes one s →
    ((f : List Mark) (rest : List Token) → Spells a f → two one next (yield f ++ rest) ≡ true) →
    ((f : List Mark) (rest : List Token) → Spells b f → two one next (yield f ++ rest) ≡ false) →
    (lies_in goes_first goes && lies_in goes_second goes) ≡ true →
    (lies_in starts more && lies_in second more) ≡ true →
    Good n (either a b) more empty goes (read_either test r s)
good_ahead {n} {a} {b} {starts} {second} {goes_first} {goes_second} {empty} {r} {s} test one next more goes is
    p q takes_r takes_s picks_a picks_b h k = record {
      reads =
          reads_either n a b test r s always always always goes_first goes_second goes p.reads q.reads
          (λ ts o e. refl) (λ ts o e. refl)
          (λ ts e. stays_two test one next is ts (left_of (r ts)) (takes_r ts))
          (λ ts e. stays_two test one next
          is ts (left_of (s ts)) (takes_s ts))
          (λ f rest u. is (yield f ++ rest) ∙ picks_a f rest u) (λ f rest u pairs ends. is (yield f ++ rest)
          ∙ picks_b f rest u)
          (outside goes_first goes (and_left (lies_in goes_first goes) (lies_in goes_second goes) h))
          (outside goes_second goes (and_right (lies_in goes_first goes) (lies_in goes_second goes) h));
      first = record { begins = λ f u. first_either more p.first q.first k f (opened u) };
      sample = sample_first p.sample;
    }
