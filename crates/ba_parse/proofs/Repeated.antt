-- Readings that choose by the next token, and readings that repeat, keep what readings promise.

use Rattle.std.proofs.Common.{◌≡◌, ℕ, zero, suc, ◌+◌, ◌<◌, ◌≤◌, Bool, true, false, if◌then◌else◌, List, [], ◌∷◌, ◌++◌, length, Option, None, Some, refl, sym, ap, ◌∙◌, arith, append_assoc, inl, inr, subst, length-append}
use Rattle.ba_tokens.specs.declared.token.Token.{Token}
use Rattle.ba_trees.specs.declared.class.TokenClass.{TokenClass}
use Rattle.ba_trees.specs.Classes.{Classes, class_of}
use Rattle.ba_trees.specs.Marks.{Mark, yield, no_else_lost}
use Rattle.ba_parse.specs.Grammar.{Part, Spells, is_first, is_second, is_none, is_more, after, either, many}
use Rattle.ba_parse.specs.Readings.{Answer, done, syntax, too_deep, Reading, with_front, then_read, next_is, read_either, many_upto, read_many}
use Rattle.ba_parse.proofs.Certified.{Opened, opened, head_of, head_after, outcome, Done, Taken, always, Reads, BeginsWith, First, Sample, both_read, both_taken, both_given, next_is_fewer, false_is_true, true_is_false}
use Rattle.ba_parse.proofs.Combined.{left_of, moved}
use Rattle.ba_parse.proofs.Forests.{yield_append}

-- TESTS OF THE NEXT TOKEN

abbrev test_head : Classes → Option Token → Bool
test_head classes None = false
test_head classes (Some t) = classes (class_of t)

next_is_head : (classes : Classes) (ts : List Token) → next_is classes ts ≡ test_head classes (head_of ts)
next_is_head classes [] = refl
next_is_head classes (t ∷ ts) = refl

pub same_next : (classes : Classes) (ts us : List Token) → head_of ts ≡ head_of us → next_is classes ts
    ≡ next_is classes us
same_next classes ts us h = next_is_head classes ts ∙ ap (test_head classes) h ∙ sym (next_is_head classes us)

-- the test answers the same if what was read and the head of the rest stay
abbrev pub Stays : (List Token → Bool) → List Token → List Token → Type 0
Stays test ts rest = (u us : List Token) → ts ≡ u ++ rest → head_of us ≡ head_of rest →
    test (u ++ us) ≡ test ts

pub stays_next : (classes : Classes) (ts rest : List Token) → Stays (next_is classes) ts rest
stays_next classes ts rest u us cut h =
    same_next classes (u ++ us) (u ++ rest) (head_after u us rest h) ∙ ap (next_is classes) (sym cut)

pub begins_next : (starts classes : Classes) → ((c : TokenClass) → starts c ≡ true → classes c ≡ true) →
    (ts rest : List Token) →
    BeginsWith starts false ts → next_is classes (ts ++ rest) ≡ true
begins_next starts classes h [] rest b = absurd (false_is_true b)
begins_next starts classes h (t ∷ ts) rest b = h (class_of t) b

pub begins_apart : (starts classes goes : Classes) (empty : Bool) → ((c : TokenClass) → starts c ≡ true →
    classes c ≡ false) →
    (empty ≡ true → (c : TokenClass) → goes c ≡ false → classes c ≡ false) → (ts rest : List Token) →
    BeginsWith starts empty ts → next_is goes rest ≡ false → next_is classes (ts ++ rest) ≡ false
begins_apart starts classes goes empty h through [] rest b e = next_is_fewer goes classes (through b) rest e
begins_apart starts classes goes empty h through (t ∷ ts) rest b e = h (class_of t) b

pub begins_append : (starts classes : Classes) → ((c : TokenClass) → starts c ≡ true → classes c ≡ true) →
    (ts us : List Token) →
    BeginsWith starts false ts → BeginsWith classes true (ts ++ us)
begins_append starts classes h [] us b = absurd (false_is_true b)
begins_append starts classes h (t ∷ ts) us b = h (class_of t) b

-- CHOICES

pub if_true : {X : Type 0} (b : Bool) (x y : X) → b ≡ true → (if b then x else y) ≡ x
if_true true x y h = refl
if_true false x y h = absurd (false_is_true h)

pub if_false : {X : Type 0} (b : Bool) (x y : X) → b ≡ false → (if b then x else y) ≡ y
if_false true x y h = absurd (true_is_false h)
if_false false x y h = refl

module _ (n : ℕ) (a b : Part) (test : List Token → Bool) (r s : Reading) where
  choice_first : (ts : List Token) → test ts ≡ true → Stays test ts (left_of (r ts)) → Taken n a r ts (r ts) →
      Taken n (either a b) (read_either test r s) ts (read_either test r s ts)
  choice_first ts h stays e =
      subst (Taken n (either a b) (read_either test r s) ts) (sym (if_true (test ts) (r ts) (s ts) h))
      (moved n a (either a b) r (read_either test r s) ts (r ts) (λ f u. is_first a b f u)
      (λ u us cut g. if_true (test (u ++ us)) (r (u ++ us)) (s (u ++ us)) (stays u us cut g ∙ h)) e)

  choice_second : (ts : List Token) → test ts ≡ false → Stays test ts (left_of (s ts)) →
      Taken n b s ts (s ts) →
      Taken n (either a b) (read_either test r s) ts (read_either test r s ts)
  choice_second ts h stays e =
      subst (Taken n (either a b) (read_either test r s) ts) (sym (if_false (test ts) (r ts) (s ts) h))
      (moved n b (either a b) s (read_either test r s) ts (s ts) (λ f u. is_second a b f u)
      (λ u us cut g. if_false (test (u ++ us)) (r (u ++ us)) (s (u ++ us)) (stays u us cut g ∙ h)) e)

  pub reads_either : (on on_first on_second : List Token → Bool) (goes_first goes_second goes : Classes) →
      Reads n on_first a goes_first r → Reads n on_second b goes_second s →
      ((ts : List Token) → on ts ≡ true → test ts ≡ true → on_first ts ≡ true) →
      ((ts : List Token) → on ts ≡ true → test ts ≡ false → on_second ts ≡ true) →
      ((ts : List Token) → test ts ≡ true → Stays test ts (left_of (r ts))) →
      ((ts : List Token) → test ts ≡ false → Stays test ts (left_of (s ts))) →
      ((f : List Mark) (rest : List Token) → Spells a f → test (yield f ++ rest) ≡ true) →
      ((f : List Mark) (rest : List Token) → Spells b f → no_else_lost f (head_of rest) ≡ true →
      next_is goes rest ≡ false → test (yield f ++ rest) ≡ false) →
      ((c : TokenClass) → goes c ≡ false → goes_first c ≡ false) → ((c : TokenClass) → goes c ≡ false →
      goes_second c ≡ false) →
      Reads n on (either a b) goes (read_either test r s)
  reads_either on on_first on_second goes_first goes_second goes first second on_a on_b stays_a stays_b
      picks_a picks_b fewer_a fewer_b = record {
        taken = λ ts h. by_test ts (test ts) refl h;
        given = λ f rest u pairs ends. whole f rest (opened u) pairs ends;
      }
    where
      by_test : (ts : List Token) (x : Bool) → test ts ≡ x → on ts ≡ true →
          Taken n (either a b) (read_either test r s) ts (read_either test r s ts)
      by_test ts true h o = choice_first ts h (stays_a ts h) (first.taken ts (on_a ts o h))
      by_test ts false h o = choice_second ts h (stays_b ts h) (second.taken ts (on_b ts o h))

      whole : (f : List Mark) (rest : List Token) → Opened (either a b) f → no_else_lost f (head_of rest)
          ≡ true → next_is goes rest ≡ false →
          read_either test r s (yield f ++ rest) ≡ outcome n f rest
      whole f rest (inl u) pairs ends =
          if_true (test (yield f ++ rest)) (r (yield f ++ rest)) (s (yield f ++ rest)) (picks_a f rest u)
          ∙ first.given f rest u pairs (next_is_fewer goes goes_first fewer_a rest ends)
      whole f rest (inr u) pairs ends =
          if_false (test (yield f ++ rest)) (r (yield f ++ rest)) (s (yield f ++ rest))
          (picks_b f rest u pairs ends)
          ∙ second.given f rest u pairs (next_is_fewer goes goes_second fewer_b rest ends)

-- one class of the next token decides: that of the first part's beginnings and of no other's
pub record Decides (classes starts_first starts_second : Classes) (empty : Bool)
    (goes_first goes_second goes : Classes) : Type 0 where
  pub first : (c : TokenClass) → starts_first c ≡ true → classes c ≡ true
  pub second : (c : TokenClass) → starts_second c ≡ true → classes c ≡ false
  pub through : empty ≡ true → (c : TokenClass) → goes c ≡ false → classes c ≡ false
  pub fewer_first : (c : TokenClass) → goes c ≡ false → goes_first c ≡ false
  pub fewer_second : (c : TokenClass) → goes c ≡ false → goes_second c ≡ false

pub reads_choice : (n : ℕ) (a b : Part) (r s : Reading) (classes starts_first starts_second : Classes)
    (empty : Bool) (goes_first goes_second goes : Classes) (on : List Token → Bool) →
    Reads n (next_is classes) a goes_first r → Reads n on b goes_second s → First a starts_first false →
    First b starts_second empty →
    Decides classes starts_first starts_second empty goes_first goes_second goes →
    Reads n on (either a b) goes (read_either (next_is classes) r s)
reads_choice n a b r s classes starts_first starts_second empty goes_first goes_second goes on first second
    begins_first begins_second d =
    reads_either n a b (next_is classes) r s on (next_is classes) on goes_first goes_second goes first second
    (λ ts o h. h) (λ ts o h. o)
    (λ ts h. stays_next classes ts (left_of (r ts))) (λ ts h. stays_next classes ts (left_of (s ts)))
    (λ f rest u. begins_next starts_first classes d.first (yield f) rest (begins_first.begins f u))
    (λ f rest u pairs ends. begins_apart starts_second classes goes empty d.second d.through (yield f) rest
    (begins_second.begins f u) ends)
    d.fewer_first d.fewer_second

-- REPETITION

many_zero : (test : List Token → Bool) (r : Reading) (ts : List Token) → many_upto zero test r ts ≡ done [] ts
unfolding many_upto
many_zero test r ts = refl

pub many_suc : (m : ℕ) (test : List Token → Bool) (r : Reading) (ts : List Token) →
    many_upto (suc m) test r ts ≡ (if test ts then then_read (r ts) (λ f. many_upto m test r) else done [] ts)
unfolding many_upto
many_suc m test r ts = refl

-- a reading that takes at least one token if the test holds
abbrev pub Eats : (List Token → Bool) → Reading → Type 0
Eats test r = (ts : List Token) (f : List Mark) (rest : List Token) → test ts ≡ true → r ts ≡ done f rest →
    length rest < length ts

-- the test holds of no empty list
abbrev pub NotNil : (List Token → Bool) → Type 0
NotNil test = test [] ≡ false

module _ (test : List Token → Bool) (not_nil : NotNil test) (r : Reading) (eats : Eats test r) where
  same_then : (m k : ℕ) (ts : List Token) (answer : Answer) → r ts ≡ answer → test ts ≡ true →
      length ts ≤ suc m → length ts ≤ suc k →
      ((us : List Token) → length us ≤ m → length us ≤ k → many_upto m test r us ≡ many_upto k test r us) →
      then_read answer (λ f. many_upto m test r) ≡ then_read answer (λ f. many_upto k test r)
  same_then m k ts (done f rest) is h le_m le_k rec =
      let less : length rest < length ts = eats ts f rest h is in
      ap (with_front f) (rec rest (omega (arith, less, le_m)) (omega (arith, less, le_k)))
  same_then m k ts (syntax rest) is h le_m le_k rec = refl
  same_then m k ts (too_deep rest) is h le_m le_k rec = refl

  by_test_many : (m k : ℕ) (ts : List Token) (x : Bool) → test ts ≡ x → length ts ≤ suc m →
      length ts ≤ suc k →
      ((us : List Token) → length us ≤ m → length us ≤ k → many_upto m test r us ≡ many_upto k test r us) →
      (if x then then_read (r ts) (λ f. many_upto m test r) else done [] ts)
      ≡ (if x then then_read (r ts) (λ f. many_upto k test r) else done [] ts)
  by_test_many m k ts true h le_m le_k rec = same_then m k ts (r ts) refl h le_m le_k rec
  by_test_many m k ts false h le_m le_k rec = refl

  nil_only : (ts : List Token) → length ts ≤ 0 → ts ≡ []
  nil_only [] h = refl
  nil_only (t ∷ ts) h = absurd (omega (arith, h))

  of_nil : (k : ℕ) → many_upto k test r [] ≡ done [] []
  of_nil zero = many_zero test r []
  of_nil (suc k) = many_suc k test r [] ∙ ap (λ b. if b then then_read (r []) (λ f. many_upto k test r) else
      done [] []) not_nil

  -- more fuel than there are tokens changes nothing
  pub many_enough : (m k : ℕ) (ts : List Token) → length ts ≤ m → length ts ≤ k → many_upto m test r ts
      ≡ many_upto k test r ts
  many_enough zero k ts le_m le_k =
      let is_nil : ts ≡ [] = nil_only ts le_m in
      ap (many_upto zero test r) is_nil ∙ many_zero test r [] ∙ sym (of_nil k)
      ∙ ap (many_upto k test r) (sym is_nil)
  many_enough (suc m) zero ts le_m le_k =
      let is_nil : ts ≡ [] = nil_only ts le_k in
      ap (many_upto (suc m) test r) is_nil ∙ of_nil (suc m) ∙ sym (many_zero test r [])
      ∙ ap (many_upto zero test r) (sym is_nil)
  many_enough (suc m) (suc k) ts le_m le_k =
      many_suc m test r ts ∙ by_test_many m k ts (test ts) refl le_m le_k (λ us p q. many_enough m k us p q)
      ∙ sym (many_suc k test r ts)

  rest_then : (ts : List Token) (m : ℕ) → length ts ≡ suc m → (answer : Answer) → r ts ≡ answer →
      test ts ≡ true →
      then_read answer (λ f. many_upto m test r) ≡ then_read answer (λ f. read_many test r)
  rest_then ts m len (done f rest) is h =
      let less : length rest < length ts = eats ts f rest h is in
      ap (with_front f) (many_enough m (length rest) rest (omega (arith, less, len)) (omega arith))
  rest_then ts m len (syntax rest) is h = refl
  rest_then ts m len (too_deep rest) is h = refl

  step_test : (ts : List Token) (m : ℕ) → length ts ≡ suc m → (x : Bool) → test ts ≡ x →
      (if x then then_read (r ts) (λ f. many_upto m test r) else done [] ts)
      ≡ (if x then then_read (r ts) (λ f. read_many test r) else done [] ts)
  step_test ts m len true h = rest_then ts m len (r ts) refl h
  step_test ts m len false h = refl

  -- one step of the repetition
  pub many_step : (ts : List Token) → read_many test r ts
      ≡ (if test ts then then_read (r ts) (λ f. read_many test r) else done [] ts)
  many_step [] = of_nil 0 ∙ sym (ap (λ b. if b then then_read (r []) (λ f. read_many test r) else done [] [])
      not_nil)
  many_step (t ∷ ts) = here (length (t ∷ ts)) refl
    where
      here : (m : ℕ) → length (t ∷ ts) ≡ m → many_upto m test r (t ∷ ts)
          ≡ (if test (t ∷ ts) then then_read (r (t ∷ ts)) (λ f. read_many test r) else done [] (t ∷ ts))
      here zero h = absurd (omega (arith, h))
      here (suc m) h = many_suc m test r (t ∷ ts) ∙ step_test (t ∷ ts) m h (test (t ∷ ts)) refl

shorter : (starts : Classes) (ts u rest : List Token) → BeginsWith starts false u → ts ≡ u ++ rest →
    length rest < length ts
shorter starts ts [] rest b h = absurd (false_is_true b)
shorter starts ts (t ∷ u) rest b h =
    let whole : length ts ≡ suc (length u + length rest) = ap length h ∙ ap suc (length-append u rest) in
    omega (arith, whole)

pub eats_of : (n : ℕ) (a : Part) (goes starts classes : Classes) (r : Reading) → Reads n (next_is classes) a
    goes r → First a starts false →
    Eats (next_is classes) r
eats_of n a goes starts classes r reads first ts f rest h is =
    let d : Done n a r ts f rest = subst (Taken n a r ts) is (reads.taken ts h) in
    shorter starts ts (yield f) rest (first.begins f d.spelled) d.cut

pub sample_many : (a : Part) → Sample (many a)
sample_many a = record { tree = []; spelled = is_none a; pairs = λ next h. refl; calm = refl }

-- the first part's beginnings are of these classes, which cannot go on with a part before them, nor follow
-- the whole
pub record Repeats (classes starts goes_one goes : Classes) : Type 0 where
  pub first : (c : TokenClass) → starts c ≡ true → classes c ≡ true
  pub apart : (c : TokenClass) → classes c ≡ true → goes_one c ≡ false
  pub through : (c : TokenClass) → goes c ≡ false → goes_one c ≡ false
  pub beyond : (c : TokenClass) → goes c ≡ false → classes c ≡ false

module _ (n : ℕ) (a : Part) (r : Reading) (classes starts goes_one goes : Classes)
    (reads : Reads n (next_is classes) a goes_one r)
    (first : First a starts false) (c : Repeats classes starts goes_one goes) where
  abbrev repeated : Reading
  repeated = read_many (next_is classes) r

  step_of : (ts : List Token) → repeated ts ≡ (if next_is classes ts then then_read (r ts) (λ f. repeated)
      else done [] ts)
  step_of ts = many_step (next_is classes) refl r (eats_of n a goes_one starts classes r reads first) ts

  more_of : (f : List Mark) → Spells (after a (λ f. many a)) f → Spells (many a) f
  more_of f u = let o : Opened (after a (λ f. many a)) f = opened u in subst (Spells (many a)) (sym o.4)
      (is_more a o.0 o.1 o.2 o.3)

  many_stops : (ts : List Token) → next_is classes ts ≡ false → Done n (many a) repeated ts [] ts
  many_stops ts h = record {
    spelled = is_none a;
    cut = refl;
    pairs = refl;
    level = refl;
    near = λ us e. step_of us ∙ if_false (next_is classes us) (then_read (r us) (λ f. repeated)) (done [] us)
        (same_next classes us ts e ∙ h);
  }

  many_by_test : (ts : List Token) (x : Bool) → next_is classes ts ≡ x →
      ((rest : List Token) → length rest < length ts → Taken n (many a) repeated rest (repeated rest)) →
      Taken n (many a) repeated ts (if x then then_read (r ts) (λ f. repeated) else done [] ts)
  many_by_test ts true h rec =
      moved n (after a (λ f. many a)) (many a) (both_read r (λ f. repeated)) repeated ts
      (then_read (r ts) (λ f. repeated)) more_of
      (λ u us cut g. step_of (u ++ us)
      ∙ if_true (next_is classes (u ++ us)) (then_read (r (u ++ us)) (λ f. repeated)) (done [] (u ++ us))
      (stays_next classes ts (left_of (then_read (r ts) (λ f. repeated))) u us cut g ∙ h))
      (both_taken n a (λ f. many a) r (λ f. repeated) ts (r ts) (reads.taken ts h)
      (λ f rest d. rec rest (shorter starts ts (yield f) rest (first.begins f d.spelled) d.cut))
      (λ f u. sample_many a))
  many_by_test ts false h rec = many_stops ts h

  many_taken : (m : ℕ) (ts : List Token) → length ts < m → Taken n (many a) repeated ts (repeated ts)
  many_taken zero ts le = absurd (omega (arith, le))
  many_taken (suc m) ts le =
      subst (Taken n (many a) repeated ts) (sym (step_of ts))
      (many_by_test ts (next_is classes ts) refl (λ rest less. many_taken m rest (omega (arith, less, le))))

  many_begins : (f : List Mark) → Spells (many a) f → BeginsWith classes true (yield f)
  many_begins f (is_none p) = refl
  many_begins f (is_more p g h u v) =
      subst (BeginsWith classes true) (sym (yield_append g h))
      (begins_append starts classes c.first (yield g) (yield h) (first.begins g u))

  many_given : (f : List Mark) (rest : List Token) → Spells (many a) f → no_else_lost f (head_of rest)
      ≡ true → next_is goes rest ≡ false →
      repeated (yield f ++ rest) ≡ outcome n f rest
  many_given f rest (is_none p) pairs ends =
      step_of rest ∙ if_false (next_is classes rest) (then_read (r rest) (λ f. repeated)) (done [] rest)
      (next_is_fewer goes classes c.beyond rest ends)
  many_given f rest (is_more p g h u v) pairs ends =
      step_of (yield (g ++ h) ++ rest)
      ∙ if_true (next_is classes (yield (g ++ h) ++ rest)) (then_read (r (yield (g ++ h) ++ rest))
      (λ f. repeated)) (done [] (yield (g ++ h) ++ rest))
      (ap (λ x. next_is classes (x ++ rest)) (yield_append g h)
      ∙ ap (next_is classes) (append_assoc (yield g) (yield h) rest)
      ∙ begins_next starts classes c.first (yield g) (yield h ++ rest) (first.begins g u))
      ∙ both_given n a (λ f. many a) r (λ f. repeated) goes_one goes goes classes true (next_is classes) reads
      (record { apart = c.apart; through = λ e. c.through; last = λ k e. e }) g h rest u (many_begins h v)
      pairs ends
      (λ second_pairs second_ends. many_given h rest v second_pairs second_ends)

  pub reads_many : Reads n always (many a) goes repeated
  reads_many = record {
    taken = λ ts h. many_taken (suc (length ts)) ts (omega arith);
    given = λ f rest u pairs ends. many_given f rest u pairs ends;
  }

  pub first_many : First (many a) classes true
  first_many = record { begins = many_begins }
