-- The words of a type, read one by one, keep what readings promise.

use Rattle.std.proofs.Common.{◌≡◌, ℕ, Bool, true, false, not, ◌&&◌, ◌||◌, if◌then◌else◌, List, [], ◌∷◌, ◌++◌, map, Option, None, Some, refl, sym, ap, ◌∙◌, arith, append_assoc, append-nil, ltb, subst}
use Rattle.std.specs.List.{list_any, list_all}
use Rattle.std.proofs.lemmas.Bool.Decides.{nat_tests}
use Rattle.ba_tokens.specs.declared.token.Token.{Token}
use Rattle.ba_tokens.specs.declared.token.TokenKind.TheVariants as kind
use Rattle.ba_tokens.specs.declared.token.Keyword.TheVariants as keyword
use Rattle.ba_trees.specs.declared.class.TokenClass.{TokenClass}
use Rattle.ba_trees.specs.declared.class.TokenClass.TheVariants as class
use Rattle.ba_trees.specs.Classes.{class_of, type_word, declaration_word, agree, all_agree, names_type}
use Rattle.ba_trees.specs.Marks.{Mark, leaf, yield, is_else, no_else_lost}
use Rattle.ba_parse.specs.Grammar.{is_words, words}
use Rattle.ba_parse.specs.Readings.{Answer, done, syntax, too_deep, with_front, next_is, after_words, words_after}
use Rattle.ba_parse.proofs.Forests.{yield_leaves, sunk}
use Rattle.ba_parse.proofs.Certified.{Opened, opened, head_of, outcome_of, outcome, Done, Refused, Taken, BeginsWith, and_true, and_left, and_right, false_is_true, true_is_false}
use Rattle.ba_parse.proofs.Repeated.{same_next, if_true, if_false}
use Rattle.ba_parse.proofs.Tables.{everywhere}
use Rattle.ba_parse.proofs.Goods.{Good}

-- LISTS OF CLASSES

not_true : (b : Bool) → not b ≡ true → b ≡ false
not_true true h = absurd (false_is_true h)
not_true false h = refl

or_first_false : (a b : Bool) → (a || b) ≡ false → a ≡ false
or_first_false true b h = h
or_first_false false b h = refl

or_second_false : (a b : Bool) → (a || b) ≡ false → b ≡ false
or_second_false true b h = absurd (true_is_false h)
or_second_false false b h = h

or_second_true : (a b : Bool) → b ≡ true → (a || b) ≡ true
or_second_true true b h = refl
or_second_true false b h = h

-- every word of the list agrees with the class
abbrev agrees_with : List TokenClass → TokenClass → Bool
agrees_with cs c = list_all (λ d. agree d c) cs

-- the words may be in one list
abbrev fine : Bool → List TokenClass → Bool
fine static cs = list_all (declaration_word static) cs && all_agree cs

all_more : (p : TokenClass → Bool) (cs : List TokenClass) (c : TokenClass) → list_all p cs ≡ true →
    p c ≡ true → list_all p (cs ++ c ∷ []) ≡ true
all_more p [] c h e = and_true (p c) true e refl
all_more p (d ∷ cs) c h e =
    and_true (p d) (list_all p (cs ++ c ∷ [])) (and_left (p d) (list_all p cs) h)
    (all_more p cs c (and_right (p d) (list_all p cs) h) e)

any_more : (p : TokenClass → Bool) (cs : List TokenClass) (c : TokenClass) → p c ≡ true →
    list_any p (cs ++ c ∷ []) ≡ true
any_more p [] c e = ap (λ b. b || false) e
any_more p (d ∷ cs) c e = or_second_true (p d) (list_any p (cs ++ c ∷ [])) (any_more p cs c e)

agree_more : (cs : List TokenClass) (c : TokenClass) → all_agree cs ≡ true → agrees_with cs c ≡ true →
    all_agree (cs ++ c ∷ []) ≡ true
agree_more [] c h e = refl
agree_more (d ∷ cs) c h e =
    and_true (list_all (agree d) (cs ++ c ∷ [])) (all_agree (cs ++ c ∷ []))
    (all_more (agree d) cs c (and_left (list_all (agree d) cs) (all_agree cs) h)
    (and_left (agree d c) (agrees_with cs c) e))
    (agree_more cs c (and_right (list_all (agree d) cs) (all_agree cs) h)
    (and_right (agree d c) (agrees_with cs c) e))

fine_more : (static : Bool) (cs : List TokenClass) (c : TokenClass) → fine static cs ≡ true →
    declaration_word static c ≡ true →
    agrees_with cs c ≡ true → fine static (cs ++ c ∷ []) ≡ true
fine_more static cs c h d e =
    and_true (list_all (declaration_word static) (cs ++ c ∷ [])) (all_agree (cs ++ c ∷ []))
    (all_more (declaration_word static) cs c (and_left (list_all (declaration_word static) cs) (all_agree cs)
    h) d)
    (agree_more cs c (and_right (list_all (declaration_word static) cs) (all_agree cs) h) e)

all_middle : (p : TokenClass → Bool) (cs : List TokenClass) (c : TokenClass) (ds : List TokenClass) →
    list_all p (cs ++ c ∷ ds) ≡ true → p c ≡ true
all_middle p [] c ds h = and_left (p c) (list_all p ds) h
all_middle p (d ∷ cs) c ds h = all_middle p cs c ds (and_right (p d) (list_all p (cs ++ c ∷ ds)) h)

agree_middle : (cs : List TokenClass) (c : TokenClass) (ds : List TokenClass) → all_agree (cs ++ c ∷ ds)
    ≡ true → agrees_with cs c ≡ true
agree_middle [] c ds h = refl
agree_middle (d ∷ cs) c ds h =
    and_true (agree d c) (agrees_with cs c)
    (all_middle (agree d) cs c ds (and_left (list_all (agree d) (cs ++ c ∷ ds)) (all_agree (cs ++ c ∷ ds)) h))
    (agree_middle cs c ds (and_right (list_all (agree d) (cs ++ c ∷ ds)) (all_agree (cs ++ c ∷ ds)) h))

-- A WORD THAT COMPLETES A LIST

abbrev int_class : TokenClass
int_class = class.Keyword keyword.Int

abbrev int_token : Token
int_token = record { kind = kind.Keyword keyword.Int; at = record { line = 0; column = 0 } }

or_third : (a b c : Bool) → (not a || b || c) ≡ true → a ≡ true → b ≡ false → c ≡ true
or_third true true c h d e = absurd (true_is_false e)
or_third true false c h d e = h
or_third false b c h d e = absurd (false_is_true d)

-- `int` agrees with each word that names no type
one_agrees : (static : Bool) (c : TokenClass) → declaration_word static c ≡ true → type_word c ≡ false →
    agree c int_class ≡ true
one_agrees true c =
    or_third (declaration_word true c) (type_word c) (agree c int_class)
    (everywhere (λ d. not (declaration_word true d) || type_word d || agree d int_class) refl c)
one_agrees false c =
    or_third (declaration_word false c) (type_word c) (agree c int_class)
    (everywhere (λ d. not (declaration_word false d) || type_word d || agree d int_class) refl c)

int_agrees : (static : Bool) (cs : List TokenClass) → list_all (declaration_word static) cs ≡ true →
    list_any type_word cs ≡ false →
    agrees_with cs int_class ≡ true
int_agrees static [] h e = refl
int_agrees static (c ∷ cs) h e =
    and_true (agree c int_class) (agrees_with cs int_class)
    (one_agrees static c (and_left (declaration_word static c) (list_all (declaration_word static) cs) h)
    (or_first_false (type_word c) (list_any type_word cs) e))
    (int_agrees static cs (and_right (declaration_word static c) (list_all (declaration_word static) cs) h)
    (or_second_false (type_word c) (list_any type_word cs) e))

-- with some tokens more the list names a type
record Completed (static : Bool) (before : List TokenClass) : Type 0 where
  more : List Token
  named : names_type static (before ++ map class_of more) ≡ true
  calm : is_else (head_of more) ≡ false

completed : (static : Bool) (before : List TokenClass) → fine static before ≡ true → (x : Bool) →
    list_any type_word before ≡ x → Completed static before
completed static before h true e = record {
  more = [];
  named = ap (names_type static) (append-nil before) ∙ and_true (fine static before)
      (list_any type_word before) h e;
  calm = refl;
}
completed static before h false e = record {
  more = int_token ∷ [];
  named =
      and_true (fine static (before ++ int_class ∷ [])) (list_any type_word (before ++ int_class ∷ []))
      (fine_more static before int_class h refl
      (int_agrees static before (and_left (list_all (declaration_word static) before) (all_agree before) h)
      e))
      (any_more type_word before int_class refl);
  calm = refl;
}

-- THE READING, word by word

words_nil : (static : Bool) (before : List TokenClass) → words_after static before [] ≡ after_words before []
unfolding words_after
words_nil static before = refl

abbrev one_word : Bool → List TokenClass → Token → List Token → Answer
one_word static before t ts = with_front (leaf t ∷ []) (words_after static (before ++ class_of t ∷ []) ts)

abbrev if_agrees : Bool → List TokenClass → Token → List Token → Answer
if_agrees static before t ts = if agrees_with before (class_of t) then one_word static before t ts else syntax
    (t ∷ ts)

words_cons : (static : Bool) (before : List TokenClass) (t : Token) (ts : List Token) →
    words_after static before (t ∷ ts) ≡
    (if declaration_word static (class_of t) then if_agrees static before t ts else after_words before
    (t ∷ ts))
unfolding words_after
words_cons static before t ts = refl

stops : (static : Bool) (before : List TokenClass) (ts : List Token) → next_is (declaration_word static) ts
    ≡ false →
    words_after static before ts ≡ after_words before ts
stops static before [] h = words_nil static before
stops static before (t ∷ ts) h =
    words_cons static before t ts
    ∙ if_false (declaration_word static (class_of t)) (if_agrees static before t ts)
    (after_words before (t ∷ ts)) h

takes : (static : Bool) (before : List TokenClass) (t : Token) (ts : List Token) →
    declaration_word static (class_of t) ≡ true →
    agrees_with before (class_of t) ≡ true → words_after static before (t ∷ ts) ≡ one_word static before t ts
takes static before t ts h e =
    words_cons static before t ts
    ∙ if_true (declaration_word static (class_of t)) (if_agrees static before t ts)
    (after_words before (t ∷ ts)) h
    ∙ if_true (agrees_with before (class_of t)) (one_word static before t ts) (syntax (t ∷ ts)) e

-- a word that does not agree
abbrev refuses : Bool → List TokenClass → TokenClass → Bool
refuses static before c = declaration_word static c && not (agrees_with before c)

refusal : (static : Bool) (before : List TokenClass) (ts : List Token) → next_is (refuses static before) ts
    ≡ true →
    words_after static before ts ≡ syntax ts
refusal static before [] h = absurd (false_is_true h)
refusal static before (t ∷ ts) h =
    words_cons static before t ts
    ∙ if_true (declaration_word static (class_of t)) (if_agrees static before t ts)
    (after_words before (t ∷ ts))
    (and_left (declaration_word static (class_of t)) (not (agrees_with before (class_of t))) h)
    ∙ if_false (agrees_with before (class_of t)) (one_word static before t ts) (syntax (t ∷ ts))
    (not_true (agrees_with before (class_of t)) (and_right (declaration_word static (class_of t))
    (not (agrees_with before (class_of t))) h))

-- WHAT IS KEPT, if words of these classes have been read

record WordsDone (static : Bool) (before : List TokenClass) (ts : List Token) (f : List Mark)
    (rest : List Token) : Type 0 where
  ws : List Token
  is_leaves : f ≡ map leaf ws
  cut : ts ≡ ws ++ rest
  named : names_type static (before ++ map class_of ws) ≡ true
  near : (other : List Token) → head_of other ≡ head_of rest → words_after static before (ws ++ other)
      ≡ done (map leaf ws) other

record WordsRefused (static : Bool) (before : List TokenClass) (ts rest : List Token) : Type 0 where
  ws : List Token
  more : List Token
  cut : ts ≡ ws ++ rest
  named : names_type static (before ++ map class_of (ws ++ more)) ≡ true
  near : (other : List Token) → head_of other ≡ head_of rest → words_after static before (ws ++ other)
      ≡ syntax other
  calm : is_else (head_of more) ≡ false

abbrev Kept : Bool → List TokenClass → List Token → Answer → Type 0
Kept static before ts (done f rest) = WordsDone static before ts f rest
Kept static before ts (syntax rest) = WordsRefused static before ts rest
Kept static before ts (too_deep rest) = ⊥

refused_here : (static : Bool) (before : List TokenClass) (ts : List Token) → fine static before ≡ true →
    ((other : List Token) → head_of other ≡ head_of ts → words_after static before other ≡ syntax other) →
    WordsRefused static before ts ts
refused_here static before ts h near =
    let c : Completed static before = completed static before h (list_any type_word before) refl in
    record { ws = []; more = c.more; cut = refl; named = c.named; near = near; calm = c.calm }

ended : (static : Bool) (before : List TokenClass) (ts : List Token) → fine static before ≡ true →
    next_is (declaration_word static) ts ≡ false →
    (x : Bool) → list_any type_word before ≡ x → Kept static before ts (if x then done [] ts else syntax ts)
ended static before ts h e true g = record {
  ws = [];
  is_leaves = refl;
  cut = refl;
  named = ap (names_type static) (append-nil before) ∙ and_true (fine static before)
      (list_any type_word before) h g;
  near = λ other k.
      stops static before other (same_next (declaration_word static) other ts k ∙ e)
      ∙ if_true (list_any type_word before) (done [] other) (syntax other) g;
}
ended static before ts h e false g =
    refused_here static before ts h
    (λ other k. stops static before other (same_next (declaration_word static) other ts k ∙ e)
    ∙ if_false (list_any type_word before) (done [] other) (syntax other) g)

one_more : (static : Bool) (before : List TokenClass) (t : Token) (ts : List Token) →
    declaration_word static (class_of t) ≡ true →
    agrees_with before (class_of t) ≡ true → (answer : Answer) → Kept static (before ++ class_of t ∷ []) ts
    answer →
    Kept static before (t ∷ ts) (with_front (leaf t ∷ []) answer)
one_more static before t ts h e (done f rest) w = record {
  ws = t ∷ w.ws;
  is_leaves = ap (λ g. leaf t ∷ g) w.is_leaves;
  cut = ap (λ us. t ∷ us) w.cut;
  named = ap (names_type static) (sym (append_assoc before (class_of t ∷ []) (map class_of w.ws))) ∙ w.named;
  near = λ other k. takes static before t (w.ws ++ other) h e ∙ ap (with_front (leaf t ∷ []))
      (w.near other k);
}
one_more static before t ts h e (syntax rest) w = record {
  ws = t ∷ w.ws;
  more = w.more;
  cut = ap (λ us. t ∷ us) w.cut;
  named = ap (names_type static) (sym (append_assoc before (class_of t ∷ []) (map class_of (w.ws ++ w.more))))
      ∙ w.named;
  near = λ other k. takes static before t (w.ws ++ other) h e ∙ ap (with_front (leaf t ∷ []))
      (w.near other k);
  calm = w.calm;
}
one_more static before t ts h e (too_deep rest) w = w

by_agreement : (static : Bool) (before : List TokenClass) (t : Token) (ts : List Token) → fine static before
    ≡ true →
    declaration_word static (class_of t) ≡ true → (x : Bool) → agrees_with before (class_of t) ≡ x →
    (fine static (before ++ class_of t ∷ []) ≡ true →
    Kept static (before ++ class_of t ∷ []) ts (words_after static (before ++ class_of t ∷ []) ts)) →
    Kept static before (t ∷ ts) (if x then one_word static before t ts else syntax (t ∷ ts))
by_agreement static before t ts h e true g rec =
    one_more static before t ts e g (words_after static (before ++ class_of t ∷ []) ts)
    (rec (fine_more static before (class_of t) h e g))
by_agreement static before t ts h e false g rec =
    refused_here static before (t ∷ ts) h
    (λ other k. refusal static before other
    (same_next (refuses static before) other (t ∷ ts) k
    ∙ and_true (declaration_word static (class_of t)) (not (agrees_with before (class_of t))) e (ap not g)))

by_word : (static : Bool) (before : List TokenClass) (t : Token) (ts : List Token) → fine static before
    ≡ true → (x : Bool) →
    declaration_word static (class_of t) ≡ x →
    (fine static (before ++ class_of t ∷ []) ≡ true →
    Kept static (before ++ class_of t ∷ []) ts (words_after static (before ++ class_of t ∷ []) ts)) →
    Kept static before (t ∷ ts) (if x then if_agrees static before t ts else after_words before (t ∷ ts))
by_word static before t ts h true e rec = by_agreement static before t ts h e
    (agrees_with before (class_of t)) refl rec
by_word static before t ts h false e rec = ended static before (t ∷ ts) h e (list_any type_word before) refl

words_kept : (static : Bool) (ts : List Token) (before : List TokenClass) → fine static before ≡ true →
    Kept static before ts (words_after static before ts)
words_kept static [] before h =
    subst (Kept static before []) (sym (words_nil static before))
    (ended static before [] h refl (list_any type_word before) refl)
words_kept static (t ∷ ts) before h =
    subst (Kept static before (t ∷ ts)) (sym (words_cons static before t ts))
    (by_word static before t ts h (declaration_word static (class_of t)) refl
    (λ g. words_kept static ts (before ++ class_of t ∷ []) g))

-- words that name a type are read, if no other follows
words_read : (static : Bool) (ts : List Token) (before : List TokenClass) (rest : List Token) →
    names_type static (before ++ map class_of ts) ≡ true → next_is (declaration_word static) rest ≡ false →
    words_after static before (ts ++ rest) ≡ done (map leaf ts) rest
words_read static [] before rest h e =
    stops static before rest e
    ∙ if_true (list_any type_word before) (done [] rest) (syntax rest)
    (ap (list_any type_word) (sym (append-nil before)) ∙ and_right (fine static (before ++ []))
    (list_any type_word (before ++ [])) h)
words_read static (t ∷ ts) before rest h e =
    let cs : List TokenClass = before ++ class_of t ∷ map class_of ts in
    let is_fine : fine static cs ≡ true = and_left (fine static cs) (list_any type_word cs) h in
    let is_word : declaration_word static (class_of t) ≡ true =
    all_middle (declaration_word static) before (class_of t) (map class_of ts)
    (and_left (list_all (declaration_word static) cs) (all_agree cs) is_fine) in
    let agrees : agrees_with before (class_of t) ≡ true =
    agree_middle before (class_of t) (map class_of ts) (and_right (list_all (declaration_word static) cs)
    (all_agree cs) is_fine) in
    takes static before t (ts ++ rest) is_word agrees
    ∙ ap (with_front (leaf t ∷ []))
    (words_read static ts (before ++ class_of t ∷ []) rest
    (ap (names_type static) (append_assoc before (class_of t ∷ []) (map class_of ts)) ∙ h) e)

-- LEAVES ALONE

pairs_leaves : (ts : List Token) (next : Option Token) → no_else_lost (map leaf ts) next ≡ true
pairs_leaves [] next = refl
pairs_leaves (t ∷ ts) next = pairs_leaves ts next

ltb_zero : (n : ℕ) → ltb n 0 ≡ false
ltb_zero n = grind (arith, nat_tests)

level_leaves : (n : ℕ) (ts : List Token) → sunk n 0 (map leaf ts) ≡ None
level_leaves n [] = refl
level_leaves n (t ∷ ts) =
    ap (λ b. if b then Some (leaf t ∷ map leaf ts) else sunk n 0 (map leaf ts)) (ltb_zero n)
    ∙ level_leaves n ts

-- THE READING KEEPS ITS PROMISE

module _ (n : ℕ) (static : Bool) where
  leaves_done : (ts : List Token) (f : List Mark) (rest : List Token) → WordsDone static [] ts f rest →
      Done n (words static) (words_after static []) ts f rest
  leaves_done ts f rest w =
      subst (λ x. Done n (words static) (words_after static []) ts x rest) (sym w.is_leaves) (record {
        spelled = is_words static w.ws w.named;
        cut = w.cut ∙ ap (λ x. x ++ rest) (sym (yield_leaves w.ws));
        pairs = pairs_leaves w.ws (head_of rest);
        level = level_leaves n w.ws;
        near = λ other h. ap (λ x. words_after static [] (x ++ other)) (yield_leaves w.ws) ∙ w.near other h;
      })

  leaves_refused : (ts rest : List Token) → WordsRefused static [] ts rest →
      Refused (words static) (words_after static []) ts rest
  leaves_refused ts rest w = record {
    before = w.ws;
    cut = w.cut;
    near = w.near;
    tree = map leaf (w.ws ++ w.more);
    beyond = w.more;
    spelled = is_words static (w.ws ++ w.more) w.named;
    yields = yield_leaves (w.ws ++ w.more);
    pairs = λ next h. pairs_leaves (w.ws ++ w.more) next;
    calm = λ h. w.calm;
  }

  words_taken : (ts : List Token) (answer : Answer) → Kept static [] ts answer →
      Taken n (words static) (words_after static []) ts answer
  words_taken ts (done f rest) w = leaves_done ts f rest w
  words_taken ts (syntax rest) w = leaves_refused ts rest w
  words_taken ts (too_deep rest) w = absurd w

  words_given : (f : List Mark) (rest : List Token) → Opened (words static) f →
      next_is (declaration_word static) rest ≡ false →
      words_after static [] (yield f ++ rest) ≡ outcome n f rest
  words_given f rest o ends =
      ap (λ x. words_after static [] (x ++ rest)) (ap yield o.2 ∙ yield_leaves o.0)
      ∙ words_read static o.0 [] rest o.1 ends
      ∙ ap (λ x. outcome_of x (map leaf o.0) rest) (sym (level_leaves n o.0))
      ∙ ap (λ x. outcome n x rest) (sym o.2)

  words_begin : (ts : List Token) → names_type static (map class_of ts) ≡ true →
      BeginsWith (declaration_word static) false ts
  words_begin [] h = h
  words_begin (t ∷ ts) h =
      let cs : List TokenClass = class_of t ∷ map class_of ts in
      and_left (declaration_word static (class_of t)) (list_all (declaration_word static) (map class_of ts))
      (and_left (list_all (declaration_word static) cs) (all_agree cs)
      (and_left (fine static cs) (list_any type_word cs) h))

pub good_words : (n : ℕ) (static : Bool) →
    Good n (words static) (declaration_word static) false (declaration_word static) (words_after static [])
good_words n static = record {
  reads = record {
    taken = λ ts h. words_taken n static ts (words_after static [] ts) (words_kept static ts [] refl);
    given = λ f rest u pairs ends. words_given n static f rest (opened u) ends;
  };
  first = record {
    begins = λ f u.
        let o : Opened (words static) f = opened u in
        subst (BeginsWith (declaration_word static) false) (sym (ap yield o.2 ∙ yield_leaves o.0))
        (words_begin n static o.0 o.1);
  };
  sample = record {
    tree = leaf int_token ∷ [];
    spelled = is_words static (int_token ∷ []) refl;
    pairs = λ next h. refl;
    calm = refl;
  };
}
