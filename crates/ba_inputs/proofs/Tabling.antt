-- The table of weights, line by line.
use Rattle.std.proofs.Common.{true≢false, ◌≡◌, ℕ, zero, suc, ◌+◌, ◌-◌, ◌<◌, ◌==◌, Bool, true, false, cond, ◌&&◌, Option, None, Some, option_map, List, [], ◌∷◌, ◌++◌, map, length, replicate, get_or, refl, sym, ap, subst, ◌∙◌, arith, append-nil, append_assoc}
use Rattle.std.specs.Prelude.{MatchOption, codes, is_some, nat_le, slice_get}
use Rattle.std.specs.Str.{bytes_eq}
use Rattle.std.specs.Str.Parse.{digits_value}
use Rattle.ba_bytes.specs.Decimal.{are_digits}
use Rattle.std.specs.List.{list_all, slice_set}
use Rattle.std.proofs.lemmas.Bool.Decides.{nat_tests}
use Rattle.std.proofs.lemmas.List.{get_or-set_other, get_or-set_same, length-map, map-append}
use Rattle.ba_tree.specs.Choices.{is_assert_info, is_assert_kind}
use Rattle.ba_tree.specs.Least.{entry_of, weight_at}
use Rattle.ba_tree.specs.Weights.{is_weight}
use Rattle.ba_tree.specs.declared.tree.StmtInfo.{StmtInfo}
use Rattle.ba_tree.specs.declared.tree.StmtKind.{StmtKind}
use Rattle.ba_tree.specs.declared.tree.StmtKind.TheVariants as kind
use Rattle.ba_tree.specs.Least.{AreWeightsOf, WeightList}
use Rattle.ba_tree.specs.declared.tree.Program.{Program}
use Rattle.ba_inputs.specs.declared.weights.LineWeight.{LineWeight}
use Rattle.ba_inputs.specs.declared.weights.LineWeight.TheVariants.{Fixed, Weight}
use Rattle.ba_inputs.specs.declared.weights.LineContent.{LineContent}
use Rattle.ba_inputs.specs.declared.weights.LineContent.TheVariants.{Skipped, Named, Bad}
use Rattle.ba_bytes.specs.Numbers.{number_in}
use Rattle.ba_inputs.specs.Weights.{IsWithinTable, bad_from, bad_line, begins_comment, first_said, is_bad_after, named_by, named_with, content_after, content_by, content_of, said_by, said_of, statement_weight, weight_in, weight_of, weights_in}
use Rattle.ba_inputs.specs.Tables.{IsTableOf, Table, after_line}
use Rattle.ba_bytes.specs.Lines.{lines_of}
use Rattle.ba_bytes.specs.Pieces.{pieces_of}

-- WHAT THE LINES SAY, with one line more

first_said-more : (said : List (Option LineWeight)) (more : Option LineWeight) → first_said said ≡ None
    → first_said (said ++ more ∷ []) ≡ first_said (more ∷ [])
first_said-more [] more none = refl
first_said-more (None ∷ said) more none = first_said-more said more none
first_said-more (Some weight ∷ said) more none = cc

first_said-kept : (said : List (Option LineWeight)) (more : Option LineWeight) (weight : LineWeight)
    → first_said said ≡ Some weight
    → first_said (said ++ more ∷ []) ≡ Some weight
first_said-kept [] more weight some = cc
first_said-kept (None ∷ said) more weight some = first_said-kept said more weight some
first_said-kept (Some other ∷ said) more weight some = some

first_said-silent : (said : List (Option LineWeight)) → first_said (said ++ None ∷ []) ≡ first_said said
first_said-silent [] = refl
first_said-silent (None ∷ said) = first_said-silent said
first_said-silent (Some weight ∷ said) = refl

said_of-more : (earlier : List (List ℕ)) (text : List ℕ) (line : ℕ)
    → said_of (earlier ++ text ∷ []) line
    ≡ first_said (map (λ text. said_by line (content_of text)) earlier ++ said_by line (content_of text) ∷ [])
said_of-more earlier text line =
    ap first_said (map-append (λ text. said_by line (content_of text)) earlier (text ∷ []))

-- a line that says nothing of this line
said_of-silent : (earlier : List (List ℕ)) (text : List ℕ) (line : ℕ) → said_by line (content_of text) ≡ None
    → said_of (earlier ++ text ∷ []) line ≡ said_of earlier line
said_of-silent earlier text line none = said_of-more earlier text line
    ∙ ap (λ s. first_said (map (λ text. said_by line (content_of text)) earlier ++ s ∷ [])) none
    ∙ first_said-silent (map (λ text. said_by line (content_of text)) earlier)

-- one that is the first to name it
said_of-named : (earlier : List (List ℕ)) (text : List ℕ) (line : ℕ) (weight : LineWeight)
    → said_by line (content_of text) ≡ Some weight
    → said_of earlier line ≡ None → said_of (earlier ++ text ∷ []) line ≡ Some weight
said_of-named earlier text line weight says none = said_of-more earlier text line
    ∙ first_said-more (map (λ text. said_by line (content_of text)) earlier) (said_by line (content_of text))
    none
    ∙ ap (λ s. first_said (s ∷ [])) says

-- THE TABLE so far has what the lines so far say

abbrev pub Says : List (List ℕ) → Table → Type 0
Says earlier table = (line : ℕ) → get_or table line None ≡ said_of earlier line

pub none_in : (n line : ℕ) → get_or {A = Option LineWeight} (replicate n None) line None ≡ None
none_in zero line = refl
none_in (suc n) zero = refl
none_in (suc n) (suc line) = none_in n line

is_none : {A : Type 0} (o : Option A) → is_some o ≡ false → o ≡ None
is_none None e = refl
is_none (Some x) e = absurd (true≢false e)

named_says : (earlier : List (List ℕ)) (table : Table) (text : List ℕ) (line : ℕ) (weight : LineWeight)
    → Says earlier table
    → content_of text ≡ Named line weight → is_some (get_or table line None) ≡ false → line < length table
    → Says (earlier ++ text ∷ []) (slice_set table line (Some weight))
named_says earlier table text line weight says is free within other = by (line == other) refl
  where
    equal : (a b : ℕ) → (a == b) ≡ true → a ≡ b
    equal a b e = grind (arith, nat_tests)

    unequal : (a b : ℕ) → (a == b) ≡ false → b ≡ a → ⊥
    unequal a b e same = grind (arith, nat_tests)

    by : (b : Bool) → (line == other) ≡ b
        → get_or (slice_set table line (Some weight)) other None ≡ said_of (earlier ++ text ∷ []) other
    by true same = subst (λ n. get_or (slice_set table line (Some weight)) n None
        ≡ said_of (earlier ++ text ∷ []) n) (equal line other same)
        (get_or-set_same table line (Some weight) None within
        ∙ sym (said_of-named earlier text line weight
        (ap (said_by line) is ∙ ap (λ b. cond b (Some weight) None) (itself line))
        (sym (says line) ∙ is_none (get_or table line None) free)))
      where
        itself : (n : ℕ) → (n == n) ≡ true
        itself n = grind (arith, nat_tests)
    by false differs = get_or-set_other table line other (Some weight) None (unequal line other differs)
        ∙ says other
        ∙ sym (said_of-silent earlier text other (ap (said_by other) is
        ∙ ap (λ b. cond b (Some weight) None) differs))

-- A LINE OF THE PROGRAM has a place in the table

number-within : (b c : Bool) (v : ℕ) → (c ≡ true → v < 100000) → (weight : Option LineWeight)
    → IsWithinTable (named_with (cond (b && c) (Some v) None) weight)
number-within true true v small None = tt
number-within true true v small (Some weight) = small refl
number-within true false v small weight = tt
number-within false c v small weight = tt

named-within : (line weight : List ℕ) → IsWithinTable (named_by line weight)
named-within line weight =
    number-within (are_digits line && nat_le (length line) 5)
    (nat_le 1 (digits_value 10 line) && nat_le (digits_value 10 line) 99999)
    (digits_value 10 line) (small (digits_value 10 line)) (weight_in weight)
  where
    small : (v : ℕ) → (nat_le 1 v && nat_le v 99999) ≡ true → v < 100000
    small v e = grind (arith, nat_tests)

content-within : (pieces : List (List ℕ)) → IsWithinTable (content_by pieces)
content-within [] = tt
content-within (first ∷ others) = by (begins_comment first)
  where
    after : (others : List (List ℕ)) → IsWithinTable (content_after first others)
    after [] = tt
    after (second ∷ []) = named-within first second
    after (second ∷ third ∷ others) = tt

    by : (b : Bool) → IsWithinTable (cond b Skipped (content_after first others))
    by true = tt
    by false = after others

within : (text : List ℕ) → IsWithinTable (content_of text)
unfolding content_of
within text = content-within (pieces_of text)

-- THE READING of a text: these lines are left

pub record Reads (text : List ℕ) (left : List (List ℕ)) (number : ℕ) (table : Table) : Type 0 where
  pub earlier : List (List ℕ)
  pub whole : lines_of text ≡ earlier ++ left
  pub count : number + length left ≡ length (lines_of text)
  pub bad : bad_line text ≡ bad_from (number + 1) earlier left
  pub says : Says earlier table
  pub size : length table ≡ 100000

pub reads-first : (text : List ℕ) (left : List (List ℕ)) (number : ℕ) (table : Table) → left ≡ lines_of text
    → number ≡ 0
    → ((line : ℕ) → get_or table line None ≡ None) → length table ≡ 100000 → Reads text left number table
reads-first text left number table is none empty size = record {
  earlier = [];
  whole = sym is;
  count = omega (arith, none, ap length is);
  bad = ap (bad_from 1 []) (sym is) ∙ ap (λ n. bad_from (n + 1) [] left) (sym none);
  says = empty;
  size = size;
}

-- one line more
pub reads-next : (text : List ℕ) (left rest : List (List ℕ)) (number more : ℕ) (table next : Table)
    (line : List ℕ)
    → Reads text left number table → left ≡ line ∷ rest → more ≡ number + 1
    → after_line table (content_of line) ≡ Some next
    → length next ≡ 100000 → Reads text rest more next
reads-next text left rest number more table next line r is one goes size = record {
  earlier = r.earlier ++ line ∷ [];
  whole = r.whole ∙ ap (λ l. r.earlier ++ l) is ∙ sym (append_assoc r.earlier (line ∷ []) rest);
  count = omega (arith, r.count, one, ap length is);
  bad = r.bad ∙ ap (bad_from (number + 1) r.earlier) is
      ∙ ap (λ b. cond b (Some (number + 1)) (bad_from (number + 1 + 1) (r.earlier ++ line ∷ []) rest)) fine
      ∙ ap (λ n. bad_from (n + 1) (r.earlier ++ line ∷ []) rest) (sym one);
  says = says;
  size = size;
}
  where
    -- the line is not bad, and the table after it has what it says
    step : (content : LineContent) → content_of line ≡ content → after_line table content ≡ Some next
        → (is_bad_after r.earlier content ≡ false) × Says (r.earlier ++ line ∷ []) next
    step Skipped are goes = (
      refl,
      subst (Says (r.earlier ++ line ∷ [])) (let same : table ≡ next = cc in same)
          (λ n. r.says n ∙ sym (said_of-silent r.earlier line n (ap (said_by n) are))),
    )
    step Bad are goes = cc
    step (Named n weight) are goes = by (is_some (get_or table n None)) refl goes
      where
        by : (b : Bool) → is_some (get_or table n None) ≡ b
            → cond b None (Some (slice_set table n (Some weight))) ≡ Some next
            → (is_some (said_of r.earlier n) ≡ false) × Says (r.earlier ++ line ∷ []) next
        by true there goes = cc
        by false free goes = (
          ap is_some (sym (r.says n)) ∙ free,
          subst (Says (r.earlier ++ line ∷ [])) (let same : slice_set table n (Some weight) ≡ next =
              cc in same)
              (named_says r.earlier table line n weight r.says are free
              (omega (arith, r.size, subst IsWithinTable are (within line)))),
        )

    both : (is_bad_after r.earlier (content_of line) ≡ false) × Says (r.earlier ++ line ∷ []) next
    both = step (content_of line) refl goes

    fine : is_bad_after r.earlier (content_of line) ≡ false
    fine = both.0

    says : Says (r.earlier ++ line ∷ []) next
    says = both.1

-- a line that is bad
pub reads-bad : (text : List ℕ) (left rest : List (List ℕ)) (number more : ℕ) (table : Table) (line : List ℕ)
    → Reads text left number table → left ≡ line ∷ rest → more ≡ number + 1
    → after_line table (content_of line) ≡ None
    → bad_line text ≡ Some more
reads-bad text left rest number more table line r is one stops =
    r.bad ∙ ap (bad_from (number + 1) r.earlier) is
    ∙ ap (λ b. cond b (Some (number + 1)) (bad_from (number + 1 + 1) (r.earlier ++ line ∷ []) rest))
    (by (content_of line) stops)
    ∙ ap Some (sym one)
  where
    by : (content : LineContent) → after_line table content ≡ None → is_bad_after r.earlier content ≡ true
    by Skipped stops = cc
    by Bad stops = refl
    by (Named n weight) stops = named (is_some (get_or table n None)) refl stops
      where
        named : (b : Bool) → is_some (get_or table n None) ≡ b
            → cond b None (Some (slice_set table n (Some weight))) ≡ None
            → is_some (said_of r.earlier n) ≡ true
        named true there stops = ap is_some (sym (r.says n)) ∙ there
        named false free stops = cc

-- how a line was put into the table
pub put_stops : (o : Option Table) (b : Bool) (t : Table)
    → MatchOption o (b ≡ false) (λ next. (b ≡ true) × (t ≡ next)) → b ≡ false → o ≡ None
put_stops None b t h is = refl
put_stops (Some next) b t h is = absurd (true≢false (sym h.0 ∙ is))

pub put_goes : (o : Option Table) (b : Bool) (t : Table)
    → MatchOption o (b ≡ false) (λ next. (b ≡ true) × (t ≡ next)) → b ≡ true → o ≡ Some t
put_goes None b t h is = absurd (true≢false (sym is ∙ h))
put_goes (Some next) b t h is = ap Some (sym h.1)

-- all lines were read
pub reads-all : (text : List ℕ) (left : List (List ℕ)) (number : ℕ) (table : Table)
    → Reads text left number table → left ≡ []
    → IsTableOf text table
reads-all text left number table r none = record {
  no_bad_line = r.bad ∙ ap (bad_from (number + 1) r.earlier) none;
  said = λ line. r.says line
      ∙ ap (λ lines. said_of lines line)
      (sym (r.whole ∙ ap (λ l. r.earlier ++ l) none ∙ append-nil r.earlier));
}

-- WEIGHTS ARE FROM 1 TO 1,000

abbrev pub IsInRange : Option LineWeight → Type 0
IsInRange said = is_weight (weight_of said) ≡ true

number-range : (b c : Bool) (v least most : ℕ) → c ≡ (nat_le least v && nat_le v most) → (n : ℕ)
    → cond (b && c) (Some v) None ≡ Some n → (nat_le least n && nat_le n most) ≡ true
number-range true true v least most is n e = let same : v ≡ n =
    cc in ap (λ m. nat_le least m && nat_le m most) (sym same) ∙ sym is
number-range true false v least most is n e = cc
number-range false c v least most is n e = cc

numbered-range : (o : Option ℕ) → ((n : ℕ) → o ≡ Some n → (nat_le 1 n && nat_le n 1000) ≡ true)
    → IsInRange (option_map (λ n. Weight n) o)
numbered-range None in_range = refl
numbered-range (Some n) in_range = in_range n refl

weight_in-range : (piece : List ℕ) → IsInRange (weight_in piece)
weight_in-range piece = by (bytes_eq piece (codes "fixed"))
  where
    by : (b : Bool) → IsInRange (cond b (Some Fixed) (option_map (λ n. Weight n) (number_in 4 1 1000 piece)))
    by true = refl
    by false = numbered-range (number_in 4 1 1000 piece)
        (number-range (are_digits piece && nat_le (length piece) 4)
        (nat_le 1 (digits_value 10 piece) && nat_le (digits_value 10 piece) 1000) (digits_value 10 piece) 1
        1000 refl)

-- what the content of a line says of any line
named-range : (number : Option ℕ) (weight : Option LineWeight) → IsInRange weight → (line : ℕ)
    → IsInRange (said_by line (named_with number weight))
named-range None weight fits line = refl
named-range (Some n) None fits line = refl
named-range (Some n) (Some weight) fits line = by (n == line)
  where
    by : (b : Bool) → IsInRange (cond b (Some weight) None)
    by true = fits
    by false = refl

content-range : (pieces : List (List ℕ)) (line : ℕ) → IsInRange (said_by line (content_by pieces))
content-range [] line = refl
content-range (first ∷ others) line = by (begins_comment first)
  where
    after : (others : List (List ℕ)) → IsInRange (said_by line (content_after first others))
    after [] = refl
    after (second ∷ []) =
        named-range (number_in 5 1 99999 first) (weight_in second) (weight_in-range second) line
    after (second ∷ third ∷ others) = refl

    by : (b : Bool) → IsInRange (said_by line (cond b Skipped (content_after first others)))
    by true = refl
    by false = after others

text-range : (text : List ℕ) (line : ℕ) → IsInRange (said_by line (content_of text))
unfolding content_of
text-range text line = content-range (pieces_of text) line

pub said-range : (lines : List (List ℕ)) (line : ℕ) → IsInRange (said_of lines line)
said-range [] line = refl
said-range (text ∷ lines) line =
    by (said_by line (content_of text)) (text-range text line) (said-range lines line)
  where
    by : (said : Option LineWeight) → IsInRange said → IsInRange (said_of lines line)
        → IsInRange (first_said (said ∷ map (λ text. said_by line (content_of text)) lines))
    by None fits others = others
    by (Some weight) fits others = fits

-- WHAT THE WEIGHTS ARE

assert_weight : (k : StmtKind) (said : Option LineWeight) → is_assert_kind k ≡ true
    → statement_weight k said ≡ None
assert_weight kind.Assert said is = refl
assert_weight kind.Initialiser said is = absurd (true≢false (sym is))
assert_weight kind.Assignment said is = absurd (true≢false (sym is))
assert_weight kind.Store said is = absurd (true≢false (sym is))
assert_weight kind.Condition said is = absurd (true≢false (sym is))
assert_weight kind.Switch said is = absurd (true≢false (sym is))
assert_weight kind.Return said is = absurd (true≢false (sym is))
assert_weight kind.Call said is = absurd (true≢false (sym is))

-- an assert has no entry
asserts_fixed : (f : StmtInfo → Option ℕ)
    → ((info : StmtInfo) → is_assert_kind info.kind ≡ true → f info ≡ None) → (infos : List StmtInfo) (n : ℕ)
    → is_assert_info (slice_get infos n) ≡ true → entry_of (slice_get (map f infos) n) ≡ None
asserts_fixed f fixed [] n is = refl
asserts_fixed f fixed (info ∷ infos) zero is = fixed info is
asserts_fixed f fixed (info ∷ infos) (suc n) is = asserts_fixed f fixed infos n is

abbrev weigh : List ℕ → StmtInfo → Option ℕ
weigh text info = statement_weight info.kind (said_of (lines_of text) info.at.line)

pub are_weights : (p : Program) (text : List ℕ) (weights : WeightList) → weights ≡ weights_in p text
    → list_all is_weight weights ≡ true
    → AreWeightsOf p weights
are_weights p text weights is fit = record {
  each = ap length is ∙ length-map p.statements (weigh text);
  in_range = fit;
  no_assert = λ n assert. ap (λ (w : WeightList). weight_at w n) is ∙ by n (n == 0) assert;
}
  where
    by : (n : ℕ) (b : Bool) → is_assert_info (cond b None (slice_get p.statements (n - 1))) ≡ true
        → cond b None (entry_of (slice_get (map (weigh text) p.statements) (n - 1))) ≡ None
    by n true assert = refl
    by n false assert =
        asserts_fixed (weigh text) (λ info is. assert_weight info.kind (said_of (lines_of text) info.at.line)
        is) p.statements (n - 1) assert

-- the same weights by the table
pub weights-table : (p : Program) (text : List ℕ) (table : Table) → IsTableOf text table
    → map (λ (info : StmtInfo). statement_weight info.kind (get_or table info.at.line None)) p.statements
    ≡ weights_in p text
weights-table p text table t =
    λ i. map (λ (info : StmtInfo). statement_weight info.kind (t.said info.at.line i)) p.statements
