-- The lines of a text, and what follows the last of them.

use Rattle.std.proofs.Common.{◌≡◌, ℕ, ◌+◌, ◌<◌, Bool, true, false, cond, List, [], ◌∷◌, ◌++◌, length, flat_map, refl, sym, ap, ◌∙◌, append_assoc, arith}
use Rattle.std.specs.List.{count_by, onto_first, slice_split}
use Rattle.std.proofs.lemmas.Bool.{eqb-true}
use Rattle.std.proofs.lemmas.List.Elements.{All-append, All-cons, All-nil}
use Rattle.std.proofs.lemmas.List.Splits.{length-slice_split, slice_split_at, slice_split_none}
use Rattle.ba_bytes.specs.Classes.{is_line_end}
use Rattle.ba_cert.specs.Text.{with_feed}
use Rattle.ba_check.specs.Lines.{HasNoFeed, IsCut, all_but_last, last_of, lines_in, rest_in}

abbrev split : List ℕ → List (List ℕ)
split text = slice_split is_line_end text

some-parts : (text : List ℕ) → 0 < length (split text)
some-parts text =
    let count = length-slice_split is_line_end text in
    let some : 0 < count_by is_line_end text + 1 = omega arith in
    omega (arith, count, some)

-- LISTS OF PARTS

all_but_last-more : (part : List ℕ) (parts : List (List ℕ)) → 0 < length parts →
    all_but_last (part ∷ parts) ≡ part ∷ all_but_last parts
all_but_last-more part [] some = absurd (omega (arith, some))
all_but_last-more part (other ∷ parts) some = refl

last_of-more : (part : List ℕ) (parts : List (List ℕ)) → 0 < length parts →
    last_of (part ∷ parts) ≡ last_of parts
last_of-more part [] some = absurd (omega (arith, some))
last_of-more part (other ∷ parts) some = refl

all_but_last-append : (parts others : List (List ℕ)) → 0 < length others →
    all_but_last (parts ++ others) ≡ parts ++ all_but_last others
all_but_last-append [] others some = refl
all_but_last-append (part ∷ parts) others some =
    let more : 0 < length (parts ++ others) = append-some parts others some in
    all_but_last-more part (parts ++ others) more ∙ ap (λ r. part ∷ r) (all_but_last-append parts others some)
  where
    append-some : (xs ys : List (List ℕ)) → 0 < length ys → 0 < length (xs ++ ys)
    append-some [] ys some = some
    append-some (x ∷ xs) ys some = omega arith

last_of-append : (parts others : List (List ℕ)) → 0 < length others →
    last_of (parts ++ others) ≡ last_of others
last_of-append [] others some = refl
last_of-append (part ∷ parts) others some =
    let more : 0 < length (parts ++ others) = append-some parts others some in
    last_of-more part (parts ++ others) more ∙ last_of-append parts others some
  where
    append-some : (xs ys : List (List ℕ)) → 0 < length ys → 0 < length (xs ++ ys)
    append-some [] ys some = some
    append-some (x ∷ xs) ys some = omega arith

-- the parts of a text with one byte more at its front, from those of the text
abbrev with_front : Bool → ℕ → List (List ℕ) → List (List ℕ)
with_front is b parts = cond is ([] ∷ parts) (onto_first b parts)

-- A TEXT THAT GOES ON

front-append : (more : List ℕ) (is : Bool) (b : ℕ) (parts after : List (List ℕ)) → is_line_end b ≡ is →
    0 < length parts →
    after ≡ all_but_last parts ++ split (last_of parts ++ more) →
    with_front is b after
    ≡ all_but_last (with_front is b parts) ++ split (last_of (with_front is b parts) ++ more)
front-append more is b [] after e some same = absurd (omega (arith, some))
front-append more true b (part ∷ parts) after e some same = ap (λ r. [] ∷ r) same
front-append more false b (part ∷ []) after e some same =
    ap (onto_first b) same ∙ sym (ap (λ t. with_front t b (split (part ++ more))) e)
front-append more false b (part ∷ other ∷ parts) after e some same = ap (onto_first b) same

split-append : (text more : List ℕ) →
    split (text ++ more) ≡ all_but_last (split text) ++ split (last_of (split text) ++ more)
split-append [] more = refl
split-append (b ∷ bs) more =
    front-append more (is_line_end b) b (split bs) (split (bs ++ more)) refl (some-parts bs) (split-append
    bs more)

pub lines-append : (text more : List ℕ) →
    lines_in (text ++ more) ≡ lines_in text ++ lines_in (rest_in text ++ more)
unfolding lines_in rest_in
lines-append text more =
    ap all_but_last (split-append text more)
    ∙ all_but_last-append (all_but_last (split text)) (split (last_of (split text) ++ more))
    (some-parts (last_of (split text) ++ more))

pub rest-append : (text more : List ℕ) → rest_in (text ++ more) ≡ rest_in (rest_in text ++ more)
unfolding lines_in rest_in
rest-append text more =
    ap last_of (split-append text more)
    ∙ last_of-append (all_but_last (split text)) (split (last_of (split text) ++ more))
    (some-parts (last_of (split text) ++ more))

-- NO LINE FEED STANDS BEHIND THE LAST ONE

front-plain : (is : Bool) (b : ℕ) (parts : List (List ℕ)) → is_line_end b ≡ is → 0 < length parts →
    HasNoFeed (last_of parts) → HasNoFeed (last_of (with_front is b parts))
front-plain is b [] e some plain = absurd (omega (arith, some))
front-plain true b (part ∷ parts) e some plain = plain
front-plain false b (part ∷ []) e some plain = All-cons (λ c. is_line_end c ≡ false) b part e plain
front-plain false b (part ∷ other ∷ parts) e some plain = plain

last-plain : (text : List ℕ) → HasNoFeed (last_of (split text))
last-plain [] = All-nil (λ c. is_line_end c ≡ false)
last-plain (b ∷ bs) = front-plain (is_line_end b) b (split bs) refl (some-parts bs) (last-plain bs)

pub rest-plain : (text : List ℕ) → HasNoFeed (rest_in text)
unfolding rest_in
rest-plain text = last-plain text

-- A TEXT WITHOUT LINE FEED, and one with a first

pub no-line : (text : List ℕ) → HasNoFeed text → lines_in text ≡ []
unfolding lines_in
no-line text plain = ap all_but_last (slice_split_none is_line_end text plain)

pub all-rest : (text : List ℕ) → HasNoFeed text → rest_in text ≡ text
unfolding rest_in
all-rest text plain = ap last_of (slice_split_none is_line_end text plain)

pub first-line : (line behind : List ℕ) → HasNoFeed line →
    lines_in (line ++ 10 ∷ behind) ≡ line ∷ lines_in behind
unfolding lines_in
first-line line behind plain =
    ap all_but_last (slice_split_at is_line_end line 10 behind plain refl)
    ∙ all_but_last-more line (split behind) (some-parts behind)

pub rest-behind : (line behind : List ℕ) → HasNoFeed line → rest_in (line ++ 10 ∷ behind) ≡ rest_in behind
unfolding rest_in
rest-behind line behind plain =
    ap last_of (slice_split_at is_line_end line 10 behind plain refl)
    ∙ last_of-more line (split behind) (some-parts behind)

-- what precedes a piece, and what is in it before its first line feed, make a line
joins : (front bytes line behind : List ℕ) → IsCut bytes line behind →
    front ++ bytes ≡ (front ++ line) ++ 10 ∷ behind
joins front bytes line behind cut =
    ap (λ r. front ++ r) cut.bytes_are ∙ sym (append_assoc front line (10 ∷ behind))

both-plain : (front bytes line behind : List ℕ) → HasNoFeed front → IsCut bytes line behind →
    HasNoFeed (front ++ line)
both-plain front bytes line behind plain cut =
    All-append (λ c. is_line_end c ≡ false) front line plain cut.plain

pub cut-lines : (front bytes line behind : List ℕ) → HasNoFeed front → IsCut bytes line behind →
    lines_in (front ++ bytes) ≡ (front ++ line) ∷ lines_in behind
cut-lines front bytes line behind plain cut =
    ap lines_in (joins front bytes line behind cut)
    ∙ first-line (front ++ line) behind (both-plain front bytes line behind plain cut)

pub cut-rest : (front bytes line behind : List ℕ) → HasNoFeed front → IsCut bytes line behind →
    rest_in (front ++ bytes) ≡ rest_in behind
cut-rest front bytes line behind plain cut =
    ap rest_in (joins front bytes line behind cut)
    ∙ rest-behind (front ++ line) behind (both-plain front bytes line behind plain cut)

-- A TEXT IS ITS LINES, each with its line feed, and the rest

abbrev joined : List (List ℕ) → List ℕ
joined parts = flat_map with_feed (all_but_last parts) ++ last_of parts

front-joined : (is : Bool) (b : ℕ) (parts : List (List ℕ)) → is_line_end b ≡ is → 0 < length parts →
    joined (with_front is b parts) ≡ b ∷ joined parts
front-joined is b [] e some = absurd (omega (arith, some))
front-joined true b (part ∷ parts) e some = ap (λ c. c ∷ joined (part ∷ parts)) (sym (eqb-true b 10 e))
front-joined false b (part ∷ []) e some = refl
front-joined false b (part ∷ other ∷ parts) e some = refl

joined-again : (text : List ℕ) → joined (split text) ≡ text
joined-again [] = refl
joined-again (b ∷ bs) =
    front-joined (is_line_end b) b (split bs) refl (some-parts bs) ∙ ap (λ r. b ∷ r) (joined-again bs)

pub text-again : (text : List ℕ) → flat_map with_feed (lines_in text) ++ rest_in text ≡ text
unfolding lines_in rest_in
text-again text = joined-again text
