-- Parts are plain: they have no space and no line feed.

use Rattle.std.proofs.Common.{◌≡◌, ℕ, suc, ◌^◌, ◌<◌, ◌≤◌, ltb, ℤ, pos, negsuc, Bool, true, false, List, [], ◌∷◌, ◌++◌, map, flat_map, take, codes, decimal, All, refl, ◌∙◌, arith}
use Rattle.std.specs.Fmt.{signed_decimal}
use Rattle.std.specs.List.{list_all}
use Rattle.std.specs.Str.Parse.{AllDigits}
use Rattle.std.proofs.lemmas.Bool.{and_parts, and_from, lt-ltb, ltb-true, ne_eqb}
use Rattle.std.proofs.lemmas.List.Elements.{All-head, All-tail, All-take, All-weaker}
use Rattle.std.proofs.lemmas.List.Folds.{list_all-append, list_all-map}
use Rattle.std.proofs.lemmas.List.Sums.{AllPass-from_list_all, list_all-from_AllPass}
use Rattle.std.proofs.lemmas.Str.Parse.{digit_from_value}
use Rattle.ba_bytes.specs.Classes.{is_line_end}
use Rattle.ba_choices.specs.declared.Choice.{Choice}
use Rattle.ba_choices.specs.declared.Choice.TheVariants.{Keep, Take}
use Rattle.ba_lits.specs.Literals.{Literal}
use Rattle.ba_steps.specs.Steps.{IsValue, IsFormedChoice, AreNumbers}
use Rattle.ba_cert.specs.Text.{literal_text, ended, clause_parts, joined}
use Rattle.ba_text.specs.Texts.{choice_parts, spaced}
use Rattle.ba_cert.specs.Reading.{is_space}
use Rattle.ba_cert.proofs.NumberLaws.{decimal-digits, above_is, under_is}

abbrev pub is_plain : List ℕ → Bool
is_plain part = list_all (λ b. ltb 32 b) part

abbrev pub are_plain : List (List ℕ) → Bool
are_plain parts = list_all is_plain parts

-- TESTS OF ALL ITEMS

pub all-append : {A : Type 0} (test : A → Bool) (xs ys : List A) → list_all test xs ≡ true →
    list_all test ys ≡ true → list_all test (xs ++ ys) ≡ true
all-append test xs ys p q = list_all-append test xs ys ∙ and_from (list_all test xs) (list_all test ys) p q

all-map : {A B : Type 0} (test : B → Bool) (f : A → B) (P : A → Type 0) →
    ((a : A) → P a → test (f a) ≡ true) → (xs : List A) → All P xs → list_all test (map f xs) ≡ true
all-map test f P each xs all =
    list_all-map test f xs
    ∙ list_all-from_AllPass (λ a. test (f a)) xs (All-weaker P (λ a. test (f a) ≡ true) each xs all)

all-flat_map : {A B : Type 0} (test : B → Bool) (f : A → List B) (P : A → Type 0) →
    ((a : A) → P a → list_all test (f a) ≡ true) → (xs : List A) → All P xs →
    list_all test (flat_map f xs) ≡ true
all-flat_map test f P each [] all = refl
all-flat_map test f P each (x ∷ xs) all =
    all-append test (f x) (flat_map f xs) (each x (All-head P x xs all))
    (all-flat_map test f P each xs (All-tail P x xs all))

-- if a test holds, what follows from it does
all-then : (test : ℕ → Bool) (P : ℕ → Type 0) → ((b : ℕ) → test b ≡ true → P b) → (bytes : List ℕ) →
    list_all test bytes ≡ true → All P bytes
all-then test P each bytes e =
    All-weaker (λ b. test b ≡ true) P each bytes (AllPass-from_list_all test bytes e)

-- WHAT IS WRITTEN

digits-plain : (p : List ℕ) → AllDigits 10 p → is_plain p ≡ true
digits-plain [] h = refl
digits-plain (c ∷ cs) h =
    let range = digit_from_value c h.0 in
    and_from (ltb 32 c) (is_plain cs) (lt-ltb 32 c (omega (arith, range.0))) (digits-plain cs h.1)

pub decimal-plain : (n : ℕ) → n < 2 ^ 62 → is_plain (decimal n) ≡ true
decimal-plain n below = digits-plain (decimal n) (decimal-digits n (omega (arith, below)))

literal_plain : (v : ℕ) (b : Bool) → v < 2 ^ 62 →
    is_plain (literal_text (record { variable = v; negated = b })) ≡ true
literal_plain v true below = decimal-plain v below
literal_plain v false below = decimal-plain v below

pub literal-plain : (l : Literal) → l.variable < 2 ^ 62 → is_plain (literal_text l) ≡ true
literal-plain l below = literal_plain l.variable l.negated below

value-plain : (z : ℤ) → IsValue z → is_plain (signed_decimal z) ≡ true
value-plain (pos n) h = decimal-plain n (above_is n h)
value-plain (negsuc k) h = decimal-plain (suc k) (under_is k h)

ended-plain : (parts : List (List ℕ)) → are_plain parts ≡ true → are_plain (ended parts) ≡ true
ended-plain parts plain = all-append is_plain parts (codes "0" ∷ []) plain refl

pub numbers-plain : (P : ℕ → Type 0) → ((n : ℕ) → P n → n < 2 ^ 62) → (ns : List ℕ) → All P ns →
    are_plain (ended (map decimal ns)) ≡ true
numbers-plain P below ns all = ended-plain (map decimal ns)
    (all-map is_plain decimal P (λ n p. decimal-plain n (below n p)) ns all)

pub clause-plain : (lits : List Literal) (hints : List ℕ) →
    All (λ (l : Literal). (1 ≤ l.variable) × (l.variable < 2 ^ 62)) lits → AreNumbers hints →
    are_plain (clause_parts lits hints) ≡ true
clause-plain lits hints all numbers =
    all-append is_plain (ended (map literal_text lits)) (ended (map decimal hints))
    (ended-plain (map literal_text lits)
    (all-map is_plain literal_text (λ (l : Literal). (1 ≤ l.variable) × (l.variable < 2 ^ 62))
    (λ l p. literal-plain l p.1) lits all))
    (numbers-plain (λ n. (1 ≤ n) × (n < 2 ^ 62)) (λ n p. p.1) hints numbers)

choice-plain : (c : Choice) → IsFormedChoice c → are_plain (choice_parts c) ≡ true
choice-plain Keep h = refl
choice-plain (Take values) h = all-map is_plain signed_decimal IsValue value-plain values h

pub run-plain : (run : List Choice) → All IsFormedChoice run → are_plain (flat_map choice_parts run) ≡ true
run-plain run all = all-flat_map is_plain choice_parts IsFormedChoice choice-plain run all

-- WHAT FOLLOWS

pub no_space : (part : List ℕ) → is_plain part ≡ true → All (λ b. is_space b ≡ false) part
no_space part e = all-then (λ b. ltb 32 b) (λ b. is_space b ≡ false) above part e
  where
    above : (b : ℕ) → ltb 32 b ≡ true → is_space b ≡ false
    above b e = let more = ltb-true 32 b e in ne_eqb b 32 (λ same. omega (arith, more, same))

-- each byte is above a line feed
abbrev pub has_no_feed : List ℕ → Bool
has_no_feed line = list_all (λ b. ltb 10 b) line

plain-feedless : (part : List ℕ) → is_plain part ≡ true → has_no_feed part ≡ true
plain-feedless part e =
    list_all-from_AllPass (λ b. ltb 10 b) part (all-then (λ b. ltb 32 b) (λ b. ltb 10 b ≡ true) above part e)
  where
    above : (b : ℕ) → ltb 32 b ≡ true → ltb 10 b ≡ true
    above b e = let more = ltb-true 32 b e in lt-ltb 10 b (omega (arith, more))

spaced-feedless : (parts : List (List ℕ)) → are_plain parts ≡ true → has_no_feed (spaced parts) ≡ true
spaced-feedless [] e = refl
spaced-feedless (q ∷ qs) e =
    let parts = and_parts (is_plain q) (are_plain qs) e in
    all-append (λ b. ltb 10 b) q (spaced qs) (plain-feedless q parts.0) (spaced-feedless qs parts.1)

pub joined-feedless : (part : List ℕ) (parts : List (List ℕ)) → is_plain part ≡ true →
    are_plain parts ≡ true → has_no_feed (joined (part ∷ parts)) ≡ true
joined-feedless part parts first rest =
    all-append (λ b. ltb 10 b) part (spaced parts) (plain-feedless part first) (spaced-feedless parts rest)

pub no_feed : (line : List ℕ) → has_no_feed line ≡ true → All (λ b. is_line_end b ≡ false) line
no_feed line e = all-then (λ b. ltb 10 b) (λ b. is_line_end b ≡ false) above line e
  where
    above : (b : ℕ) → ltb 10 b ≡ true → is_line_end b ≡ false
    above b e = let more = ltb-true 10 b e in ne_eqb b 10 (λ same. omega (arith, more, same))

pub front-feedless : (n : ℕ) (line : List ℕ) → has_no_feed line ≡ true → has_no_feed (take n line) ≡ true
front-feedless n line e =
    list_all-from_AllPass (λ b. ltb 10 b) (take n line)
    (All-take (λ b. ltb 10 b ≡ true) n line (AllPass-from_list_all (λ b. ltb 10 b) line e))
