-- Lists with commas between, in braces: a comma before what ends the list is the last, so two tokens show
-- whether the list goes on. The reading equals one that looks at a token at a time.

use Rattle.std.proofs.Common.{◌≡◌, ℕ, zero, suc, ◌+◌, ◌<◌, ◌≤◌, Bool, true, false, not, ◌&&◌, ◌||◌, if◌then◌else◌, List, [], ◌∷◌, ◌++◌, length, Option, None, Some, refl, sym, ap, ◌∙◌, arith, append_assoc, append-nil, inl, inr, subst, length-append, ltb}
use Rattle.std.proofs.lemmas.Bool.Decides.{nat_tests}
use Rattle.ba_tokens.specs.declared.token.Token.{Token}
use Rattle.ba_tokens.specs.declared.token.TokenKind.TheVariants as kind
use Rattle.ba_tokens.specs.declared.token.Punct.TheVariants as punct
use Rattle.ba_trees.specs.declared.class.TokenClass.{TokenClass}
use Rattle.ba_trees.specs.declared.class.TokenClass.TheVariants as class
use Rattle.ba_trees.specs.Classes.{Classes, class_of, only, mark, ◌or◌}
use Rattle.ba_trees.specs.Marks.{Mark, leaf, yield, no_else_lost}
use Rattle.ba_parse.specs.Grammar.{Part, Spells, is_nothing, is_after, is_first, is_second, is_none, is_more, nothing, either, many, sign, maybe, ◌·◌, ◌∣◌}
use Rattle.ba_parse.specs.Readings.{Answer, done, syntax, too_deep, Reading, with_front, then_read, next_is, read_nothing, read_sign, read_either, read_maybe, read_many, is_next_value, is_next_enumerator, ◌▹◌}
use Rattle.ba_parse.proofs.Forests.{yield_append, sunk}
use Rattle.ba_parse.proofs.Certified.{Opened, opened, head_of, head_after, outcome_of, outcome, Taken, always, BeginsWith, First, Sample, both_taken, both_given, next_is_fewer, reads_after, and_true, and_left, and_right, false_is_true}
use Rattle.ba_parse.proofs.Combined.{none, left_of, moved, Example, reads_known, reads_token}
use Rattle.ba_parse.proofs.Repeated.{Stays, same_next, begins_next, begins_apart, if_true, if_false, Eats, eats_of, many_step, sample_many}
use Rattle.ba_parse.proofs.Tables.{lies_in, are_apart, outside, apart}
use Rattle.ba_parse.proofs.Goods.{Good, good_nothing, good_token, good_same, begins_in, sample_after, sample_second, or_true}

-- SMALL STEPS

front_nil : (answer : Answer) → with_front [] answer ≡ answer
front_nil (done f rest) = refl
front_nil (syntax rest) = refl
front_nil (too_deep rest) = refl

front_front : (f g : List Mark) (answer : Answer) → with_front (f ++ g) answer ≡ with_front f
    (with_front g answer)
front_front f g (done h rest) = ap (λ x. done x rest) (append_assoc f g h)
front_front f g (syntax rest) = refl
front_front f g (too_deep rest) = refl

front_then : (f : List Mark) (answer : Answer) (s : Reading) →
    then_read (with_front f answer) (λ g. s) ≡ with_front f (then_read answer (λ g. s))
front_then f (done g rest) s = front_front f g (s rest)
front_then f (syntax rest) s = refl
front_then f (too_deep rest) s = refl

then_then : (answer : Answer) (r s : Reading) →
    then_read (then_read answer (λ f. r)) (λ f. s) ≡ then_read answer (λ f. r ▹ s)
then_then (done f rest) r s = front_then f (r rest) s
then_then (syntax rest) r s = refl
then_then (too_deep rest) r s = refl

ltb_zero : (n : ℕ) → ltb n 0 ≡ false
ltb_zero n = grind (arith, nat_tests)

front_outcome : (t : Token) (f : List Mark) (rest : List Token) (x : Option (List Mark)) →
    with_front (leaf t ∷ []) (outcome_of x f rest) ≡ outcome_of x (leaf t ∷ f) rest
front_outcome t f rest None = refl
front_outcome t f rest (Some ms) = refl

outcome_leaf : (n : ℕ) (t : Token) (f : List Mark) (rest : List Token) →
    with_front (leaf t ∷ []) (outcome n f rest) ≡ outcome n (leaf t ∷ f) rest
outcome_leaf n t f rest =
    front_outcome t f rest (sunk n 0 f)
    ∙ ap (λ b. outcome_of (if b then Some (leaf t ∷ f) else sunk n 0 f) (leaf t ∷ f) rest) (sym (ltb_zero n))

no_longer : (ts u rest : List Token) → ts ≡ u ++ rest → length rest ≤ length ts
no_longer ts u rest h =
    let whole : length ts ≡ length u + length rest = ap length h ∙ length-append u rest in
    omega (arith, whole)

-- a test that looks at the next token alone
abbrev ByHead : (List Token → Bool) → Type 0
ByHead test = (us ts : List Token) → head_of us ≡ head_of ts → test us ≡ test ts

stays_by : (test : List Token → Bool) → ByHead test → (ts rest : List Token) → Stays test ts rest
stays_by test by ts rest u us cut h = by (u ++ us) (u ++ rest) (head_after u us rest h) ∙ ap test (sym cut)

-- one or the other part, if such a test decides
choice : (n : ℕ) (a b : Part) (test : List Token → Bool) (r s : Reading) → ByHead test → (ts : List Token)
    (x : Bool) → test ts ≡ x →
    (x ≡ true → Taken n a r ts (r ts)) → (x ≡ false → Taken n b s ts (s ts)) →
    Taken n (either a b) (read_either test r s) ts (if x then r ts else s ts)
choice n a b test r s by ts true h first second =
    moved n a (either a b) r (read_either test r s) ts (r ts) (λ f u. is_first a b f u)
    (λ u us cut g. if_true (test (u ++ us)) (r (u ++ us)) (s (u ++ us))
    (stays_by test by ts (left_of (r ts)) u us cut g ∙ h))
    (first refl)
choice n a b test r s by ts false h first second =
    moved n b (either a b) s (read_either test r s) ts (s ts) (λ f u. is_second a b f u)
    (λ u us cut g. if_false (test (u ++ us)) (r (u ++ us)) (s (u ++ us))
    (stays_by test by ts (left_of (s ts)) u us cut g ∙ h))
    (second refl)

-- COMMAS

abbrev comma : Classes
comma = mark punct.Comma

abbrev close : Classes
close = mark punct.CloseBrace

abbrev comma_token : Token
comma_token = record { kind = kind.Punct punct.Comma; at = record { line = 0; column = 0 } }

abbrev comma_example : Example comma
comma_example = record { one = comma_token; is_one = refl; calm = refl }

-- What shows, after a comma, whether another item comes. If an item begins here one comes, and none if the
-- end begins here. None comes if the end is empty, before what can't go on with the list.
record Turns (starts ends : Classes) (empty : Bool) (far : Classes) (more test : List Token → Bool) : Type 0
  where
    by_head : ByHead more
    at_start : (ts rest : List Token) → BeginsWith starts false ts → more (ts ++ rest) ≡ true
    at_end : (ts rest : List Token) → BeginsWith ends empty ts → next_is far rest ≡ false →
        more (ts ++ rest) ≡ false
    at_none : test [] ≡ false
    at_token : (t : Token) (us : List Token) → test (t ∷ us) ≡ (comma (class_of t) && more us)

-- an item is followed by a comma or by the end, and the whole by what can't go on with it
abbrev pub may_end : Classes → Classes → Bool → Classes → Classes → Bool
may_end goes ends empty goes_end far =
    are_apart (comma or ends) goes && (are_apart ends comma && (lies_in goes_end far
    && (not empty || (lies_in goes far && lies_in comma far))))

-- THE LIST after its first item

module _ (n : ℕ) (a : Part) (starts goes : Classes) (r : Reading) (item : Good n a starts false goes r)
    (e : Part) (ends goes_end far : Classes) (empty : Bool) (q : Reading)
    (finish : Good n e ends empty goes_end q)
    (more test : List Token → Bool) (turns : Turns starts ends empty far more test)
    (fits : may_end goes ends empty goes_end far ≡ true) where
  -- the end of the list, and the reading of it
  abbrev list_end : Part
  list_end = maybe (sign punct.Comma) · e

  abbrev read_list_end : Reading
  read_list_end = read_maybe (mark punct.Comma) (read_sign punct.Comma) ▹ q

  -- what follows the first item
  abbrev more_items : Part
  more_items = many (sign punct.Comma · a) · list_end

  abbrev one_item : Reading
  one_item = read_sign punct.Comma ▹ r

  abbrev items : Reading
  items = read_many test one_item ▹ read_list_end

  -- the same a token at a time: after a comma, and from the comma on
  abbrev after_comma : Reading
  after_comma = read_either more (r ▹ items) q

  abbrev from_comma : Reading
  from_comma = read_either (next_is comma) (read_sign punct.Comma ▹ after_comma) q

  abbrev part_after_comma : Part
  part_after_comma = a · more_items ∣ e

  abbrev part_from_comma : Part
  part_from_comma = sign punct.Comma · part_after_comma ∣ e

  -- what comes after an item
  abbrev item_end : Classes
  item_end = comma or ends

  abbrev last_fits : Bool
  last_fits = not empty || (lies_in goes far && lies_in comma far)

  fits_second : (are_apart ends comma && (lies_in goes_end far && last_fits)) ≡ true
  fits_second = and_right (are_apart item_end goes) (are_apart ends comma && (lies_in goes_end far
      && last_fits)) fits

  fits_third : (lies_in goes_end far && last_fits) ≡ true
  fits_third = and_right (are_apart ends comma) (lies_in goes_end far && last_fits) fits_second

  item_apart : (c : TokenClass) → item_end c ≡ true → goes c ≡ false
  item_apart = apart item_end goes (and_left (are_apart item_end goes) (are_apart ends comma
      && (lies_in goes_end far && last_fits)) fits)

  end_apart : (c : TokenClass) → ends c ≡ true → comma c ≡ false
  end_apart = apart ends comma (and_left (are_apart ends comma) (lies_in goes_end far && last_fits)
      fits_second)

  end_last : (c : TokenClass) → far c ≡ false → goes_end c ≡ false
  end_last = outside goes_end far (and_left (lies_in goes_end far) last_fits fits_third)

  through_both : empty ≡ true → (lies_in goes far && lies_in comma far) ≡ true
  through_both is = or_true empty (lies_in goes far && lies_in comma far)
      (and_right (lies_in goes_end far) last_fits fits_third) is

  item_through : empty ≡ true → (c : TokenClass) → far c ≡ false → goes c ≡ false
  item_through is = outside goes far (and_left (lies_in goes far) (lies_in comma far) (through_both is))

  comma_through : empty ≡ true → (c : TokenClass) → far c ≡ false → comma c ≡ false
  comma_through is = outside comma far (and_right (lies_in goes far) (lies_in comma far) (through_both is))

  -- THE PARTS have the same trees

  several : (g h f : List Mark) → Spells (sign punct.Comma) g → Spells a h → Opened more_items f →
      Spells more_items (g ++ (h ++ f))
  several g h f u v o =
      subst (Spells more_items)
      (append_assoc (g ++ h) o.0 o.1 ∙ append_assoc g h (o.0 ++ o.1) ∙ ap (λ x. g ++ (h ++ x)) (sym o.4))
      (is_after (many (sign punct.Comma · a)) (λ x. list_end) ((g ++ h) ++ o.0) o.1
      (is_more (sign punct.Comma · a) (g ++ h) o.0 (is_after (sign punct.Comma) (λ x. a) g h u v) o.2) o.3)

  last_only : (f : List Mark) → Spells list_end f → Spells more_items f
  last_only f u = is_after (many (sign punct.Comma · a)) (λ x. list_end) [] f
      (is_none (sign punct.Comma · a)) u

  end_only : (f : List Mark) → Spells e f → Spells list_end f
  end_only f u = is_after (maybe (sign punct.Comma)) (λ x. e) [] f
      (is_second (sign punct.Comma) nothing [] is_nothing) u

  after_one : (g h : List Mark) → Spells (sign punct.Comma) g → Opened part_after_comma h →
      Spells more_items (g ++ h)
  after_one g h u (inl v) =
      let o : Opened (a · more_items) h = opened v in
      subst (λ x. Spells more_items (g ++ x)) (sym o.4) (several g o.0 o.1 u o.2 (opened o.3))
  after_one g h u (inr v) =
      last_only (g ++ h) (is_after (maybe (sign punct.Comma)) (λ x. e) g h
      (is_first (sign punct.Comma) nothing g u) v)

  turned : (f : List Mark) → Opened part_from_comma f → Spells more_items f
  turned f (inl u) =
      let o : Opened (sign punct.Comma · part_after_comma) f = opened u in
      subst (Spells more_items) (sym o.4) (after_one o.0 o.1 o.2 (opened o.3))
  turned f (inr u) = last_only f (end_only f u)

  sample_more_items : Sample more_items
  sample_more_items = sample_after (sample_many (sign punct.Comma · a))
      (sample_after (sample_second (good_nothing n).sample) finish.sample)

  -- WHAT FOLLOWS BEGINS with a comma or the end

  begins_comma : (t : Token) (f g : List Mark) → f ≡ leaf t ∷ g → comma (class_of t) ≡ true →
      BeginsWith item_end empty (yield f)
  begins_comma t f g h is = subst (λ x. BeginsWith item_end empty (yield x)) (sym h)
      (ap (λ b. b || ends (class_of t)) is)

  ends_there : (c : TokenClass) → ends c ≡ true → item_end c ≡ true
  ends_there c is = or_second (comma c) (ends c) is
    where
      or_second : (x y : Bool) → y ≡ true → (x || y) ≡ true
      or_second true y h = refl
      or_second false y h = h

  begins_end : (g h : List Mark) → Opened (maybe (sign punct.Comma)) g → Spells e h →
      BeginsWith item_end empty (yield (g ++ h))
  begins_end g h (inl u) v =
      let c : Opened (sign punct.Comma) g = opened u in
      begins_comma c.0 (g ++ h) h (ap (λ x. x ++ h) c.2) c.1
  begins_end g h (inr u) v =
      subst (λ x. BeginsWith item_end empty (yield x)) (sym (ap (λ x. x ++ h) (opened u)))
      (begins_in ends item_end empty ends_there (yield h) (finish.first.begins h v))

  begins_more : (g : List Mark) → Spells (many (sign punct.Comma · a)) g → (h : List Mark) →
      Opened list_end h → BeginsWith item_end empty (yield (g ++ h))
  begins_more g (is_none p) h o =
      subst (λ x. BeginsWith item_end empty (yield x)) (sym o.4) (begins_end o.0 o.1 (opened o.2) o.3)
  begins_more g (is_more p g1 g2 u v) h o =
      let one : Opened (sign punct.Comma · a) g1 = opened u in
      let c : Opened (sign punct.Comma) one.0 = opened one.2 in
      begins_comma c.0 ((g1 ++ g2) ++ h) ((one.1 ++ g2) ++ h)
      (ap (λ x. (x ++ g2) ++ h) one.4 ∙ ap (λ x. ((x ++ one.1) ++ g2) ++ h) c.2) c.1

  first_more_items : First more_items item_end empty
  first_more_items = record {
    begins = λ f u.
        let o : Opened more_items f = opened u in
        subst (λ x. BeginsWith item_end empty (yield x)) (sym o.4) (begins_more o.0 o.2 o.1 (opened o.3));
  }

  -- THE READINGS answer the same

  -- a comma and an item are some tokens
  begins_item : (f : List Mark) → Opened (sign punct.Comma · a) f → BeginsWith comma false (yield f)
  begins_item f o =
      let c : Opened (sign punct.Comma) o.0 = opened o.2 in
      subst (λ x. BeginsWith comma false (yield x)) (sym (o.4 ∙ ap (λ x. x ++ o.1) c.2)) c.1

  eats_comma : Eats (next_is comma) one_item
  eats_comma =
      eats_of n (sign punct.Comma · a) goes comma comma one_item
      (reads_after n (sign punct.Comma) (λ f. a) (read_sign punct.Comma) (λ f. r) none goes goes starts false
      (next_is comma) (reads_known n comma)
      (λ f u. item.reads) (λ f u. item.first) (λ f u. item.sample)
      (record { apart = λ c h. refl; through = λ e c h. refl; last = λ c h. h }))
      (record { begins = λ f u. begins_item f (opened u) })

  next_comma : (ts : List Token) → test ts ≡ true → next_is comma ts ≡ true
  next_comma [] h = absurd (false_is_true (sym turns.at_none ∙ h))
  next_comma (t ∷ ts) h = and_left (comma (class_of t)) (more ts) (sym (turns.at_token t ts) ∙ h)

  eats_item : Eats test one_item
  eats_item ts f rest h is = eats_comma ts f rest (next_comma ts h) is

  by_next : (ts : List Token) (x : Bool) →
      then_read (if x then then_read (one_item ts) (λ f. read_many test one_item) else done [] ts)
      (λ f. read_list_end) ≡
      (if x then then_read (one_item ts) (λ f. items) else read_list_end ts)
  by_next ts true = then_then (one_item ts) (read_many test one_item) read_list_end
  by_next ts false = front_nil (read_list_end ts)

  abbrev item_or_end : List Token → Bool → Answer
  item_or_end ts x = if x then then_read (one_item ts) (λ f. items) else read_list_end ts

  items_step : (ts : List Token) → items ts ≡ item_or_end ts (test ts)
  items_step ts =
      ap (λ x. then_read x (λ f. read_list_end)) (many_step test turns.at_none one_item eats_item ts)
      ∙ by_next ts (test ts)

  -- whether the next token is a comma, and whether an item comes after it
  abbrev token_if : Bool → Token → List Token → Answer
  token_if x t us = if x then done (leaf t ∷ []) us else syntax (t ∷ us)

  abbrev two_ahead : Token → List Token → Bool → Bool → Answer
  two_ahead t us c d =
      if c && d
      then then_read (then_read (token_if c t us) (λ f. r)) (λ f. items)
      else then_read (if c then token_if c t us else done [] (t ∷ us)) (λ f. q)

  abbrev one_ahead : Token → List Token → Bool → Answer
  one_ahead t us c = if c then then_read (token_if c t us) (λ f. after_comma) else q (t ∷ us)

  same_by : (t : Token) (us : List Token) (c d : Bool) → more us ≡ d → two_ahead t us c d
      ≡ one_ahead t us c
  same_by t us true true is =
      front_then (leaf t ∷ []) (r us) items
      ∙ ap (with_front (leaf t ∷ []))
      (sym (if_true (more us) (then_read (r us) (λ f. items)) (q us) is))
  same_by t us true false is = ap (with_front (leaf t ∷ []))
      (sym (if_false (more us) (then_read (r us) (λ f. items)) (q us) is))
  same_by t us false d is = front_nil (q (t ∷ us))

  same : (ts : List Token) → items ts ≡ from_comma ts
  same [] = items_step [] ∙ ap (item_or_end []) turns.at_none ∙ front_nil (q [])
  same (t ∷ us) =
      items_step (t ∷ us) ∙ ap (item_or_end (t ∷ us)) (turns.at_token t us)
      ∙ same_by t us (comma (class_of t)) (more us) refl

  -- WHAT IS READ

  after_comma_taken : (us : List Token) →
      ((rest : List Token) → length rest ≤ length us → Taken n more_items items rest (items rest)) →
      Taken n part_after_comma after_comma us (after_comma us)
  after_comma_taken us rec =
      choice n (a · more_items) e more (r ▹ items) q turns.by_head us (more us) refl
      (λ h. both_taken n a (λ f. more_items) r (λ f. items) us (r us) (item.reads.taken us refl)
      (λ f rest d. rec rest (no_longer us (yield f) rest d.cut)) (λ f u. sample_more_items))
      (λ h. finish.reads.taken us refl)

  one_less : (ts rest : List Token) (f : List Mark) → Opened (sign punct.Comma) f → ts ≡ yield f ++ rest →
      length ts ≡ suc (length rest)
  one_less ts rest f o h = ap length (h ∙ ap (λ x. yield x ++ rest) o.2)

  from_comma_taken : (ts : List Token) →
      ((rest : List Token) → length rest < length ts → Taken n more_items items rest (items rest)) →
      Taken n part_from_comma from_comma ts (from_comma ts)
  from_comma_taken ts rec =
      choice n (sign punct.Comma · part_after_comma) e (next_is comma) (read_sign punct.Comma ▹ after_comma) q
      (λ us ts h. same_next comma us ts h) ts (next_is comma ts) refl
      (λ h. both_taken n (sign punct.Comma) (λ f. part_after_comma) (read_sign punct.Comma)
      (λ f. after_comma) ts (read_sign punct.Comma ts)
      ((reads_token n comma comma_example).taken ts refl)
      (λ f rest d.
      let len : length ts ≡ suc (length rest) = one_less ts rest f (opened d.spelled) d.cut in
      after_comma_taken rest (λ less le. rec less (omega (arith, len, le))))
      (λ f u. sample_second finish.sample))
      (λ h. finish.reads.taken ts refl)

  items_taken : (m : ℕ) (ts : List Token) → length ts < m → Taken n more_items items ts (items ts)
  items_taken zero ts le = absurd (omega (arith, le))
  items_taken (suc m) ts le =
      subst (Taken n more_items items ts) (sym (same ts))
      (moved n part_from_comma more_items from_comma items ts (from_comma ts)
      (λ f u. turned f (opened u))
      (λ u us cut h. same (u ++ us))
      (from_comma_taken ts (λ rest less. items_taken m rest (omega (arith, less, le)))))

  -- WHAT IS GIVEN

  at_comma : (t : Token) (us : List Token) → comma (class_of t) ≡ true → from_comma (t ∷ us) ≡ with_front
      (leaf t ∷ []) (after_comma us)
  at_comma t us h =
      if_true (comma (class_of t)) (then_read (read_sign punct.Comma (t ∷ us)) (λ f. after_comma))
      (q (t ∷ us)) h
      ∙ ap (λ x. then_read (token_if x t us) (λ f. after_comma)) h

  end_given : (g h : List Mark) (rest : List Token) → Opened (maybe (sign punct.Comma)) g → Spells e h →
      no_else_lost (g ++ h) (head_of rest) ≡ true → next_is far rest ≡ false →
      from_comma (yield (g ++ h) ++ rest) ≡ outcome n (g ++ h) rest
  end_given g h rest (inl u) v pairs last =
      let c : Opened (sign punct.Comma) g = opened u in
      let is : g ++ h ≡ leaf c.0 ∷ h = ap (λ x. x ++ h) c.2 in
      let behind : List Token = yield h ++ rest in
      ap (λ x. from_comma (yield x ++ rest)) is
      ∙ at_comma c.0 behind c.1
      ∙ ap (with_front (leaf c.0 ∷ []))
      (if_false (more behind) (then_read (r behind) (λ f. items)) (q behind)
      (turns.at_end (yield h) rest (finish.first.begins h v) last)
      ∙ finish.reads.given h rest v (ap (λ x. no_else_lost x (head_of rest)) (sym is) ∙ pairs)
      (next_is_fewer far goes_end end_last rest last))
      ∙ outcome_leaf n c.0 h rest
      ∙ ap (λ x. outcome n x rest) (sym is)
  end_given g h rest (inr u) v pairs last =
      let is : g ++ h ≡ h = ap (λ x. x ++ h) (opened u) in
      let all : List Token = yield h ++ rest in
      ap (λ x. from_comma (yield x ++ rest)) is
      ∙ if_false (next_is comma all) (then_read (read_sign punct.Comma all) (λ f. after_comma)) (q all)
      (begins_apart ends comma far empty end_apart comma_through (yield h) rest (finish.first.begins h v)
      last)
      ∙ finish.reads.given h rest v (ap (λ x. no_else_lost x (head_of rest)) (sym is) ∙ pairs)
      (next_is_fewer far goes_end end_last rest last)
      ∙ ap (λ x. outcome n x rest) (sym is)

  -- an item and more, after a comma
  item_given : (g f : List Mark) (rest : List Token) → Spells a g → BeginsWith item_end empty (yield f) →
      no_else_lost (g ++ f) (head_of rest) ≡ true → next_is far rest ≡ false →
      (no_else_lost f (head_of rest) ≡ true → items (yield f ++ rest) ≡ outcome n f rest) →
      after_comma (yield (g ++ f) ++ rest) ≡ outcome n (g ++ f) rest
  item_given g f rest u begins pairs last second =
      let all : List Token = yield (g ++ f) ++ rest in
      let is_item : more all ≡ true =
      ap (λ x. more (x ++ rest)) (yield_append g f) ∙ ap more (append_assoc (yield g) (yield f) rest)
      ∙ turns.at_start (yield g) (yield f ++ rest) (item.first.begins g u) in
      if_true (more all) (then_read (r all) (λ x. items)) (q all) is_item
      ∙ both_given n a (λ x. more_items) r (λ x. items) goes far far item_end empty always item.reads
      (record { apart = item_apart; through = item_through; last = λ c h. h })
      g f rest u begins pairs last (λ second_pairs end. second second_pairs)

  items_given : (g : List Mark) (rest : List Token) → Spells (many (sign punct.Comma · a)) g →
      (h : List Mark) → Opened list_end h →
      no_else_lost (g ++ h) (head_of rest) ≡ true → next_is far rest ≡ false →
      items (yield (g ++ h) ++ rest) ≡ outcome n (g ++ h) rest
  items_given g rest (is_none p) h o pairs last =
      same (yield h ++ rest)
      ∙ ap (λ x. from_comma (yield x ++ rest)) o.4
      ∙ end_given o.0 o.1 rest (opened o.2) o.3 (ap (λ x. no_else_lost x (head_of rest)) (sym o.4) ∙ pairs)
      last
      ∙ ap (λ x. outcome n x rest) (sym o.4)
  items_given g rest (is_more p g1 g2 u v) h o pairs last =
      let one : Opened (sign punct.Comma · a) g1 = opened u in
      let c : Opened (sign punct.Comma) one.0 = opened one.2 in
      let is : (g1 ++ g2) ++ h ≡ leaf c.0 ∷ (one.1 ++ (g2 ++ h)) =
      append_assoc g1 g2 h ∙ ap (λ x. x ++ (g2 ++ h)) one.4 ∙ ap (λ x. (x ++ one.1) ++ (g2 ++ h)) c.2 in
      ap (λ x. items (yield x ++ rest)) is
      ∙ same (c.0 ∷ (yield (one.1 ++ (g2 ++ h)) ++ rest))
      ∙ at_comma c.0 (yield (one.1 ++ (g2 ++ h)) ++ rest) c.1
      ∙ ap (with_front (leaf c.0 ∷ []))
      (item_given one.1 (g2 ++ h) rest one.3 (begins_more g2 v h o)
      (ap (λ x. no_else_lost x (head_of rest)) (sym is) ∙ pairs) last
      (λ second_pairs. items_given g2 rest v h o second_pairs last))
      ∙ outcome_leaf n c.0 (one.1 ++ (g2 ++ h)) rest
      ∙ ap (λ x. outcome n x rest) (sym is)

  whole_given : (f : List Mark) (rest : List Token) → Opened more_items f → no_else_lost f
      (head_of rest) ≡ true → next_is far rest ≡ false →
      items (yield f ++ rest) ≡ outcome n f rest
  whole_given f rest o pairs last =
      ap (λ x. items (yield x ++ rest)) o.4
      ∙ items_given o.0 rest o.2 o.1 (opened o.3) (ap (λ x. no_else_lost x (head_of rest)) (sym o.4) ∙ pairs)
      last
      ∙ ap (λ x. outcome n x rest) (sym o.4)

  good_list_tail : Good n more_items item_end empty far items
  good_list_tail = record {
    reads = record {
      taken = λ ts h. items_taken (suc (length ts)) ts (omega arith);
      given = λ f rest u pairs last. whole_given f rest (opened u) pairs last;
    };
    first = first_more_items;
    sample = sample_more_items;
  }

-- VALUES, up to their closing brace

next_is_none : (ts : List Token) → next_is none ts ≡ false
next_is_none [] = refl
next_is_none (t ∷ ts) = refl

value_turns : (starts : Classes) → are_apart starts close ≡ true →
    Turns starts close false none (λ ts. not (next_is close ts)) is_next_value
value_turns starts h = record {
  by_head = λ us ts same. ap not (same_next close us ts same);
  at_start = λ ts rest b. ap not (begins_apart starts close none false (apart starts close h)
      (λ is. absurd (false_is_true is)) ts rest b (next_is_none rest));
  at_end = λ ts rest b last. ap not (begins_next close close (λ c is. is) ts rest b);
  at_none = refl;
  at_token = λ t us. refl;
}

abbrev close_token : Token
close_token = record { kind = kind.Punct punct.CloseBrace; at = record { line = 0; column = 0 } }

pub good_braced_tail : {n : ℕ} {a : Part} {starts goes : Classes} {r : Reading} →
    Good n a starts false goes r → are_apart starts (mark punct.CloseBrace) ≡ true →
    are_apart (mark punct.Comma or mark punct.CloseBrace) goes ≡ true →
    Good n (many (sign punct.Comma · a) · maybe (sign punct.Comma) · sign punct.CloseBrace)
    (mark punct.Comma or mark punct.CloseBrace) false none
    (read_many is_next_value (read_sign punct.Comma ▹ r) ▹ read_maybe (mark punct.Comma)
    (read_sign punct.Comma) ▹ read_sign punct.CloseBrace)
good_braced_tail {n} {a} {starts} {goes} {r} value apart_starts apart_goes =
    good_list_tail n a starts goes r value (sign punct.CloseBrace) close none none false
    (read_sign punct.CloseBrace)
    (good_token n close (record { one = close_token; is_one = refl; calm = refl }))
    (λ ts. not (next_is close ts)) is_next_value (value_turns starts apart_starts)
    (and_true (are_apart (comma or close) goes) true apart_goes refl)

-- ENUMERATORS, which end if no name comes after a comma

enumerator_turns : (far : Classes) → lies_in (only class.Name) far ≡ true →
    Turns (only class.Name) none true far (next_is (only class.Name)) is_next_enumerator
enumerator_turns far h = record {
  by_head = λ us ts same. same_next (only class.Name) us ts same;
  at_start = λ ts rest b. begins_next (only class.Name) (only class.Name) (λ c is. is) ts rest b;
  at_end = λ ts rest b last. begins_apart none (only class.Name) far true
      (λ c is. absurd (false_is_true is)) (λ is. outside (only class.Name) far h) ts rest b last;
  at_none = refl;
  at_token = λ t us. refl;
}

-- nothing at the end of a part
with_nothing : (c b : Part) (f : List Mark) → Opened (c · b) f → Spells (c · b · nothing) f
with_nothing c b f o =
    subst (Spells (c · b · nothing)) (ap (λ x. o.0 ++ x) (append-nil o.1) ∙ sym o.4)
    (is_after c (λ x. b · nothing) o.0 (o.1 ++ []) o.2 (is_after b (λ x. nothing) o.1 [] o.3 is_nothing))

no_nothing : (c b : Part) (g h : List Mark) → Spells c g → Opened (b · nothing) h → Spells (c · b) (g ++ h)
no_nothing c b g h u o =
    subst (λ x. Spells (c · b) (g ++ x))
    (sym (o.4 ∙ ap (λ x. o.0 ++ x) (opened o.3) ∙ append-nil o.0)) (is_after c (λ x. b) g o.0 u o.2)

without_nothing : (c b : Part) (f : List Mark) → Opened (c · b · nothing) f → Spells (c · b) f
without_nothing c b f o = subst (Spells (c · b)) (sym o.4) (no_nothing c b o.0 o.1 o.2 (opened o.3))

then_nothing : (answer : Answer) → then_read answer (λ f. read_nothing) ≡ answer
then_nothing (done f rest) = ap (λ x. done x rest) (append-nil f)
then_nothing (syntax rest) = refl
then_nothing (too_deep rest) = refl

nothing_read : (r s : Reading) → (r ▹ s ▹ read_nothing) ≡ (r ▹ s)
nothing_read r s = λ i ts. then_read (r ts) (λ f us. then_nothing (s us) i)

pub good_enumerators_tail : {n : ℕ} {a : Part} {goes : Classes} {r : Reading} → (far : Classes) →
    Good n a (only class.Name) false goes r → may_end goes none true none far ≡ true →
    lies_in (only class.Name) far ≡ true →
    Good n (many (sign punct.Comma · a) · maybe (sign punct.Comma)) (mark punct.Comma or none) true far
    (read_many is_next_enumerator (read_sign punct.Comma ▹ r) ▹ read_maybe (mark punct.Comma)
    (read_sign punct.Comma))
good_enumerators_tail {n} {a} {goes} {r} far item fits names =
    subst (Good n (many (sign punct.Comma · a) · maybe (sign punct.Comma)) (mark punct.Comma or none) true
    far)
    (nothing_read (read_many is_next_enumerator (read_sign punct.Comma ▹ r)) (read_maybe (mark punct.Comma)
    (read_sign punct.Comma)))
    (good_same (λ f u. without_nothing (many (sign punct.Comma · a)) (maybe (sign punct.Comma)) f (opened u))
    (λ f u. with_nothing (many (sign punct.Comma · a)) (maybe (sign punct.Comma)) f (opened u))
    (good_list_tail n a (only class.Name) goes r item nothing none none far true read_nothing (good_nothing n)
    (next_is (only class.Name)) is_next_enumerator (enumerator_turns far names) fits))
