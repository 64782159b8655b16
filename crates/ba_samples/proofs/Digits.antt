-- A number in a text: digits, the first of which is no zero.
use Rattle.std.proofs.Common.{append-nil, ◌≡◌, zero, suc, ℕ, ◌+◌, ◌-◌, ◌%◌, ◌^◌, ◌<◌, ◌≤◌, pos, Bool, true, false, cond, Some, List, [], ◌∷◌, ◌++◌, length, take, drop, get_or, decimal, refl, sym, ◌∙◌, ap, subst, arith}
use Rattle.std.specs.Prelude.{◌==◌, ◌&&◌, ◌||◌, nat_lt, nat_le, if◌then◌else◌, Option, None}
use Rattle.std.specs.Char.{is_ascii_digit, is_digit}
use Rattle.std.specs.List.{prefix_len}
use Rattle.std.specs.Str.Parse.{digits_value}
use Rattle.std.proofs.lemmas.Bool.Decides.{nat_tests}
use Rattle.std.proofs.lemmas.Fmt.{decimal_by_steps, decimal_is_IsNumeral, decimal_nonempty, first_decimal}
use Rattle.std.proofs.lemmas.Nat.{mod_below}
use Rattle.ba_bytes.specs.Classes.{is_blank, is_letter, is_line_end, is_number_byte, is_word_byte}
use Rattle.ba_numbers.specs.declared.numbers.CType.TheVariants.{I32, U32}
use Rattle.ba_lex.specs.Constants.{begins_with, digit_count, number_kind, number_of, number_with}
use Rattle.ba_lex.specs.Pieces.{cut, first_piece, mark_at, next_position, number_at, form_of, with_piece, word_at}
use Rattle.ba_lex.specs.declared.piece.Form.{Form}
use Rattle.ba_lex.specs.declared.piece.Form.TheVariants.{Blank, Hash, LineEnd, Token}
use Rattle.ba_lex.specs.declared.piece.Piece.{Piece}
use Rattle.ba_tokens.specs.declared.token.TokenKind.{TokenKind}
use Rattle.ba_tokens.specs.declared.token.TokenKind.TheVariants as kind
use Rattle.ba_samples.proofs.Tokens.{at, number_token}

-- DIGITS, one by one

abbrev Facts : ℕ → Type 0
Facts d = (is_line_end d ≡ false) × (is_blank d ≡ false) × ((d == 35) ≡ false) × (is_letter d ≡ false)
    × (is_ascii_digit d ≡ true) × (is_number_byte d ≡ true) × (is_digit d 10 ≡ true)

facts_from : (k : ℕ) → k < 10 → Facts (48 + k)
facts_from zero low = (refl, refl, refl, refl, refl, refl, refl)
facts_from (suc zero) low = (refl, refl, refl, refl, refl, refl, refl)
facts_from (suc (suc zero)) low = (refl, refl, refl, refl, refl, refl, refl)
facts_from (suc (suc (suc zero))) low = (refl, refl, refl, refl, refl, refl, refl)
facts_from (suc (suc (suc (suc zero)))) low = (refl, refl, refl, refl, refl, refl, refl)
facts_from (suc (suc (suc (suc (suc zero))))) low = (refl, refl, refl, refl, refl, refl, refl)
facts_from (suc (suc (suc (suc (suc (suc zero)))))) low = (refl, refl, refl, refl, refl, refl, refl)
facts_from (suc (suc (suc (suc (suc (suc (suc zero))))))) low = (refl, refl, refl, refl, refl, refl, refl)
facts_from (suc (suc (suc (suc (suc (suc (suc (suc zero)))))))) low =
    (refl, refl, refl, refl, refl, refl, refl)
facts_from (suc (suc (suc (suc (suc (suc (suc (suc (suc zero))))))))) low =
    (refl, refl, refl, refl, refl, refl, refl)
facts_from (suc (suc (suc (suc (suc (suc (suc (suc (suc (suc k)))))))))) low = absurd (omega arith)

facts : (d : ℕ) → 48 ≤ d → d ≤ 57 → Facts d
facts d low high = let same : 48 + (d - 48) ≡ d = omega arith in
    subst Facts same (facts_from (d - 48) (omega arith))

abbrev pub AreDigits : List ℕ → Type 0
AreDigits [] = Unit {0}
AreDigits (d ∷ ds) = (48 ≤ d) × (d ≤ 57) × AreDigits ds

-- NUMERALS

digits_push : (ds : List ℕ) (d : ℕ) → AreDigits ds → 48 ≤ d → d ≤ 57 → AreDigits (ds ++ d ∷ [])
digits_push [] d are low high = (low, high, tt)
digits_push (c ∷ ds) d are low high = (are.0, are.1, digits_push ds d are.2 low high)

decimal_digits : (n : ℕ) → n < 2 ^ 64 → AreDigits (decimal n)
decimal_digits = decimal_by_steps (λ n ds. AreDigits ds)
    (λ n low. (omega arith, omega arith, tt))
    (λ n ds high are. let low : n % 10 < 10 = mod_below n 10 (omega arith) in
    digits_push ds (48 + n % 10) are (omega arith) (omega arith))

-- the digits of a number that is not 0
pub record IsWritten (ds : List ℕ) (v : ℕ) : Type 0 where
  pub first : ℕ
  pub rest : List ℕ
  pub are : ds ≡ first ∷ rest
  pub low : 48 < first
  pub digits : AreDigits (first ∷ rest)
  pub value : digits_value 10 (first ∷ rest) ≡ v

written_by : (ds : List ℕ) (v : ℕ) → 0 < length ds → 48 < get_or ds 0 0 → AreDigits ds
    → digits_value 10 ds ≡ v → IsWritten ds v
written_by [] v some low are value = absurd (omega arith)
written_by (d ∷ ds) v some low are value =
    record { first = d; rest = ds; are = refl; low = low; digits = are; value = value }

pub written : (v : ℕ) → 0 < v → v < 2 ^ 64 → IsWritten (decimal v) v
written v some low = written_by (decimal v) v (decimal_nonempty v low) (first_decimal v some low)
    (decimal_digits v low) (decimal_is_IsNumeral v low).1

-- HOW FAR A NUMBER GOES

prefix_all : (test : ℕ → Bool) → ((d : ℕ) → 48 ≤ d → d ≤ 57 → test d ≡ true) → (ds more : List ℕ)
    → prefix_len test more ≡ 0 → AreDigits ds → prefix_len test (ds ++ more) ≡ length ds
prefix_all test holds [] more stops are = stops
prefix_all test holds (d ∷ ds) more stops are =
    let count = prefix_all test holds ds more stops are.2 in
    let next : 1 + prefix_len test (ds ++ more) ≡ suc (length ds) = omega arith in
    ap (λ b. cond b (1 + prefix_len test (ds ++ more)) 0) (holds d are.0 are.1) ∙ next

take_front : (ds more : List ℕ) → take (length ds) (ds ++ more) ≡ ds
take_front [] more = refl
take_front (d ∷ ds) more = ap (λ xs. d ∷ xs) (take_front ds more)

take_whole : (ds : List ℕ) → take (length ds) ds ≡ ds
take_whole [] = refl
take_whole (d ∷ ds) = ap (λ xs. d ∷ xs) (take_whole ds)

drop_whole : (ds : List ℕ) → drop (length ds) ds ≡ []
drop_whole [] = refl
drop_whole (d ∷ ds) = drop_whole ds

no_zero : (d : ℕ) → 48 < d → (d == 48) ≡ false
no_zero d low = grind (arith, nat_tests)

-- WHAT A NUMBER IS

module _ (d : ℕ) (ds : List ℕ) (v : ℕ) (low : 48 < d) (are : AreDigits (d ∷ ds))
    (value : digits_value 10 (d ∷ ds) ≡ v) (small : v ≤ 2147483647) where
  abbrev by_zero : Bool → Option TokenKind
  by_zero z = number_with
      (if z && (begins_with 120 ds || begins_with 88 ds) then 16 else (if z then 8 else 10))
      (if z && (begins_with 120 ds || begins_with 88 ds) then drop 2 (d ∷ ds) else (d ∷ ds))

  abbrev by_tests : Bool → Bool → Bool → ℕ → Option TokenKind
  by_tests some fits large w =
      if some && (true && fits) then Some (kind.Constant (if false || large then U32 else I32) (pos w))
      else None

  all_count : digit_count 10 (d ∷ ds) ≡ length (d ∷ ds)
  all_count = ap (prefix_len (λ b. is_digit b 10)) (sym (append-nil (d ∷ ds)))
      ∙ prefix_all (λ b. is_digit b 10) (λ d low high. (facts d low high).6) (d ∷ ds) [] refl are

  some_digits : nat_lt 0 (length (d ∷ ds)) ≡ true
  some_digits = grind (arith, nat_tests)

  fits : nat_le v 4294967295 ≡ true
  fits = grind (arith, nat_tests)

  no_more : nat_lt 2147483647 v ≡ false
  no_more = grind (arith, nat_tests)

  constant_is : number_of 10 (d ∷ ds) [] ≡ Some (number_token v)
  constant_is = ap (λ w. by_tests (nat_lt 0 (length (d ∷ ds))) (nat_le w 4294967295) (nat_lt 2147483647 w) w)
      value
      ∙ (λ i. by_tests (some_digits i) (fits i) (no_more i) v)

  kind_is : number_kind (d ∷ ds) ≡ Some (number_token v)
  unfolding number_kind
  kind_is = ap by_zero (no_zero d low)
      ∙ ap (λ k. number_of 10 (take k (d ∷ ds)) (drop k (d ∷ ds))) all_count
      ∙ ap (λ xs. number_of 10 xs (drop (length (d ∷ ds)) (d ∷ ds))) (take_whole (d ∷ ds))
      ∙ ap (number_of 10 (d ∷ ds)) (drop_whole (d ∷ ds))
      ∙ constant_is

  module _ (more : List ℕ) (stops : prefix_len is_number_byte more ≡ 0) where
    abbrev bs : List ℕ
    bs = ds ++ more

    abbrev by_class : Bool → Bool → Bool → Bool → Bool → Form × ℕ
    by_class ends blank hash letter digit =
        if ends then (LineEnd, 1)
        else (if blank then (Blank, 1)
        else (if hash then (Hash, 1)
        else (if letter then word_at (d ∷ take (prefix_len is_word_byte bs) bs)
        else (if digit then number_at (d ∷ take (prefix_len is_number_byte bs) bs)
        else mark_at d bs))))

    it : Facts d
    it = facts d are.0 are.1

    whole : take (prefix_len is_number_byte bs) bs ≡ ds
    whole = ap (λ k. take k bs)
        (prefix_all is_number_byte (λ d low high. (facts d low high).5) ds more stops are.2)
        ∙ take_front ds more

    pub number_piece : first_piece (d ∷ bs) ≡ (Token (number_token v), length (d ∷ ds))
    unfolding first_piece
    number_piece = (λ i. by_class (it.0 i) (it.1 i) (it.2 i) (it.3 i) (it.4 i))
        ∙ ap (λ w. number_at (d ∷ w)) whole
        ∙ ap (λ k. (form_of k, length (d ∷ ds))) kind_is

-- the bytes of a number that has begun are passed over
cut_over : (ds more : List ℕ) (line column : ℕ) → AreDigits ds
    → cut (at line column) (length ds) (ds ++ more) ≡ cut (at line (column + length ds)) 0 more
cut_over [] more line column are = let same : column ≡ column + 0 = omega arith in
    ap (λ c. cut (at line c) 0 more) same
cut_over (d ∷ ds) more line column are =
    let same : column + 1 + length ds ≡ column + suc (length ds) = omega arith in
    ap (λ b. cut (if b then at (line + 1) 1 else at line (column + 1)) (length ds) (ds ++ more))
    (facts d are.0 are.1).0
    ∙ cut_over ds more line (column + 1) are.2
    ∙ ap (λ c. cut (at line c) 0 more) same

abbrev number_at_place : ℕ → ℕ → ℕ → Piece
number_at_place line column v = record { form = Token (number_token v); at = at line column }

cut_from : (d : ℕ) (ds : List ℕ) (v : ℕ) → 48 < d → AreDigits (d ∷ ds) → digits_value 10 (d ∷ ds) ≡ v
    → v ≤ 2147483647 → (more : List ℕ) → prefix_len is_number_byte more ≡ 0 → (line column : ℕ)
    → cut (at line column) 0 ((d ∷ ds) ++ more)
    ≡ number_at_place line column v ∷ cut (at line (column + length (d ∷ ds))) 0 more
cut_from d ds v low are value small more stops line column =
    let shorter : length (d ∷ ds) - 1 ≡ length ds = omega arith in
    let same : column + 1 + length ds ≡ column + suc (length ds) = omega arith in
    ap (λ (p : Form × ℕ). with_piece p.0 (at line column)
    (cut (next_position (at line column) d) (p.1 - 1) (ds ++ more)))
    (number_piece d ds v low are value small more stops)
    ∙ ap (λ left. number_at_place line column v ∷ cut (next_position (at line column) d) left (ds ++ more))
    shorter
    ∙ ap (λ b. number_at_place line column v
    ∷ cut (if b then at (line + 1) 1 else at line (column + 1)) (length ds) (ds ++ more))
    (facts d are.0 are.1).0
    ∙ ap (λ ps. number_at_place line column v ∷ ps) (cut_over ds more line (column + 1) are.2)
    ∙ ap (λ c. number_at_place line column v ∷ cut (at line c) 0 more) same

-- a number of this value, followed by what can't go on with it, is one piece
pub number_cut : (ds : List ℕ) (v : ℕ) → IsWritten ds v → v ≤ 2147483647 → (more : List ℕ)
    → prefix_len is_number_byte more ≡ 0 → (line column : ℕ)
    → cut (at line column) 0 (ds ++ more)
    ≡ number_at_place line column v ∷ cut (at line (column + length ds)) 0 more
number_cut ds v is small more stops line column = subst
    (λ ds. cut (at line column) 0 (ds ++ more)
    ≡ number_at_place line column v ∷ cut (at line (column + length ds)) 0 more)
    (sym is.are) (cut_from is.first is.rest v is.low is.digits is.value small more stops line column)
