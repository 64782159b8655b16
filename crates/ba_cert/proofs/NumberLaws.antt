-- Numbers, literals and values as parts: what is read has that text, and the text is read again.

use Rattle.std.proofs.Common.{◌≡◌, ℕ, zero, suc, ◌^◌, ◌<◌, ◌≤◌, nat_lt, eqb, ltb, ℤ, pos, negsuc, neg_ℤ, Bool, true, false, cond, Option, None, Some, option_map, List, [], ◌∷◌, length, get_or, codes, decimal, refl, sym, ap, ◌∙◌, subst, arith, true≢false}
use Rattle.std.specs.Char.{digit_value, is_digit}
use Rattle.std.specs.Fmt.{signed_decimal}
use Rattle.std.specs.List.{list_all}
use Rattle.std.specs.Str.Parse.{AllDigits, digits_value}
use Rattle.std.proofs.lemmas.Bool.{and_parts, and_from, ltb-true, lt-ltb, eqb-true, eqb-false, ne_eqb}
use Rattle.std.proofs.lemmas.Fmt.{decimal_digit, decimal_nonempty, first_decimal, digits_decimal, digits_value-decimal, decimal-digits_value}
use Rattle.std.proofs.lemmas.Int.{ints}
use Rattle.std.proofs.lemmas.Option.{none-some, same_Some, cond_some}
use Rattle.std.proofs.lemmas.Str.Parse.{IsNumeralModel, numerals_by_value, tells_digits, digit_from_value}
use Rattle.ba_bytes.specs.Decimal.{are_digits, natural_of}
use Rattle.ba_lits.specs.Literals.{Literal, negative, positive}
use Rattle.ba_steps.specs.Steps.{IsValue}
use Rattle.ba_cert.specs.Text.{literal_text}
use Rattle.ba_cert.specs.Reading.{◌>>=◌, leads_with_zero, if_below, if_counted, number_of, counted_of, group_of, after_minus, literal_by, literal_of, value_by, value_of}
use Rattle.ba_cert.proofs.Binding.{bound, mapped, refused}

-- DIGITS

own : IsNumeralModel (AllDigits 10) (digits_value 10)
own = numerals_by_value (AllDigits 10) tells_digits

digits_from : (p : List ℕ) → list_all (λ b. is_digit b 10) p ≡ true → AllDigits 10 p
digits_from [] e = tt
digits_from (c ∷ cs) e =
    let parts = and_parts (is_digit c 10) (list_all (λ b. is_digit b 10) cs) e in
    (ltb-true (digit_value c) 10 parts.0, digits_from cs parts.1)

digits_test : (p : List ℕ) → AllDigits 10 p → list_all (λ b. is_digit b 10) p ≡ true
digits_test [] h = refl
digits_test (c ∷ cs) h =
    and_from (is_digit c 10) (list_all (λ b. is_digit b 10) cs) (lt-ltb (digit_value c) 10 h.0)
    (digits_test cs h.1)

natural_from : (p : List ℕ) (n : ℕ) → natural_of p ≡ Some n →
    (0 < length p) × AllDigits 10 p × (digits_value 10 p ≡ n)
natural_from p n e =
    let test = cond_some (are_digits p) (digits_value 10 p) n e in
    let parts = and_parts (nat_lt 0 (length p)) (list_all (λ b. is_digit b 10) p) test.0 in
    (ltb-true 0 (length p) parts.0, digits_from p parts.1, test.1)

natural_again : (p : List ℕ) → 0 < length p → AllDigits 10 p → natural_of p ≡ Some (digits_value 10 p)
natural_again p some digits =
    ap (λ t. cond t (Some (digits_value 10 p)) None)
    (and_from (nat_lt 0 (length p)) (list_all (λ b. is_digit b 10) p) (lt-ltb 0 (length p) some)
    (digits_test p digits))

-- the digits of a number
pub decimal-digits : (n : ℕ) → n < 2 ^ 64 → AllDigits 10 (decimal n)
decimal-digits n fits = digits_decimal own n fits

-- no leading zero
one_zero : (p : List ℕ) → leads_with_zero p ≡ false → 0 < length p → get_or p 0 0 ≡ 48 → length p ≡ 1
one_zero [] e some first = absurd (omega (arith, some))
one_zero (b ∷ []) e some first = refl
one_zero (b ∷ c ∷ cs) e some first = absurd (eqb-false b 48 e first)

leads-not : (p : List ℕ) → 48 < get_or p 0 0 → leads_with_zero p ≡ false
leads-not [] h = refl
leads-not (b ∷ []) h = refl
leads-not (b ∷ c ∷ cs) h = ne_eqb b 48 (λ e. omega (arith, h, e))

decimal-leads : (n : ℕ) → n < 2 ^ 64 → leads_with_zero (decimal n) ≡ false
decimal-leads zero fits = ap leads_with_zero (decimal_digit 0 (omega arith))
decimal-leads (suc k) fits = leads-not (decimal (suc k)) (first_decimal (suc k) (omega arith) fits)

-- NUMBERS

pub number-back : (p : List ℕ) (n : ℕ) → number_of p ≡ Some n → (p ≡ decimal n) × (n < 2 ^ 62)
unfolding number_of
number-back p n e =
    let g = refused (leads_with_zero p) (natural_of p >>= if_below (2 ^ 62)) n e in
    let b = bound (natural_of p) (if_below (2 ^ 62)) n g.1 in
    let t = cond_some (ltb b.value (2 ^ 62)) b.value n b.second in
    let d = natural_from p b.value b.first in
    let below : n < 2 ^ 62 = subst (λ x. x < 2 ^ 62) t.1 (ltb-true b.value (2 ^ 62) t.0) in
    let value : digits_value 10 p ≡ n = d.2 ∙ t.1 in
    let text : decimal (digits_value 10 p)
    ≡ p = decimal-digits_value own p d.1 d.0 (one_zero p g.0 d.0) (omega (arith, value, below)) in
    (sym text ∙ ap decimal value, below)

pub number-again : (n : ℕ) → n < 2 ^ 62 → number_of (decimal n) ≡ Some n
unfolding number_of
number-again n below =
    let fits : n < 2 ^ 64 = omega (arith, below) in
    let value : digits_value 10 (decimal n) ≡ n = digits_value-decimal own n fits in
    ap (λ t. cond t None (natural_of (decimal n) >>= if_below (2 ^ 62))) (decimal-leads n fits)
    ∙ ap (λ o. o >>= if_below (2 ^ 62))
    (natural_again (decimal n) (decimal_nonempty n fits) (decimal-digits n fits) ∙ ap (λ v. Some v) value)
    ∙ ap (λ t. cond t (Some n) None) (lt-ltb n (2 ^ 62) below)

counted_from : (n : ℕ) → eqb n 0 ≡ false → 1 ≤ n
counted_from zero e = absurd (true≢false e)
counted_from (suc k) e = omega arith

pub counted-back : (p : List ℕ) (n : ℕ) → counted_of p ≡ Some n → (p ≡ decimal n) × (1 ≤ n) × (n < 2 ^ 62)
unfolding counted_of
counted-back p n e =
    let b = bound (number_of p) if_counted n e in
    let g = refused (eqb b.value 0) (Some b.value) n b.second in
    let same : b.value ≡ n = same_Some b.value n g.1 in
    let number = number-back p b.value b.first in (
      number.0
          ∙ ap decimal same,
      subst (λ x. 1 ≤ x) same (counted_from b.value g.0),
      subst
          (λ x. x < 2 ^ 62) same number.1,
    )

pub counted-again : (n : ℕ) → 1 ≤ n → n < 2 ^ 62 → counted_of (decimal n) ≡ Some n
unfolding counted_of
counted-again n some below =
    ap (λ o. o >>= if_counted) (number-again n below)
    ∙ ap (λ t. cond t None (Some n)) (ne_eqb n 0 (λ e. omega (arith, e, some)))

pub group-back : (p : List ℕ) (n : ℕ) → group_of p ≡ Some n → (p ≡ decimal n) × (1 ≤ n) × (n < 2 ^ 32)
unfolding group_of
group-back p n e =
    let b = bound (counted_of p) (if_below (2 ^ 32)) n e in
    let t = cond_some (ltb b.value (2 ^ 32)) b.value n b.second in
    let number = counted-back p b.value b.first in (
      number.0
          ∙ ap decimal t.1,
      subst (λ x. 1 ≤ x) t.1 number.1,
      subst (λ x. x < 2 ^ 32) t.1
          (ltb-true b.value (2 ^ 32) t.0),
    )

pub group-again : (n : ℕ) → 1 ≤ n → n < 2 ^ 32 → group_of (decimal n) ≡ Some n
unfolding group_of
group-again n some below =
    ap (λ o. o >>= if_below (2 ^ 32)) (counted-again n some (omega (arith, below)))
    ∙ ap (λ t. cond t (Some n) None) (lt-ltb n (2 ^ 32) below)

-- SIGNS

after_minus-some : (p rest : List ℕ) → after_minus p ≡ Some rest → p ≡ 45 ∷ rest
after_minus-some [] rest e = absurd (none-some rest e)
after_minus-some (b ∷ bs) rest e =
    let t = cond_some (eqb b 45) bs rest e in
    ap (λ x. x ∷ bs) (eqb-true b 45 t.0) ∙ ap (λ r. 45 ∷ r) t.1

after_minus-digits : (p : List ℕ) → AllDigits 10 p → after_minus p ≡ None
after_minus-digits [] h = refl
after_minus-digits (c ∷ cs) h =
    let range = digit_from_value c h.0 in
    ap (λ t. cond t (Some cs) None) (ne_eqb c 45 (λ e. omega (arith, range.0, e)))

after_minus-decimal : (n : ℕ) → n < 2 ^ 62 → after_minus (decimal n) ≡ None
after_minus-decimal n below = after_minus-digits (decimal n) (decimal-digits n (omega (arith, below)))

-- LITERALS

pub literal-back : (p : List ℕ) (l : Literal) → literal_of p ≡ Some l →
    (p ≡ literal_text l) × (1 ≤ l.variable) × (l.variable < 2 ^ 62)
unfolding literal_of
literal-back p l e = by (after_minus p) refl e
  where
    by : (o : Option (List ℕ)) → after_minus p ≡ o → literal_by o p ≡ Some l →
        (p ≡ literal_text l) × (1 ≤ l.variable) × (l.variable < 2 ^ 62)
    by None is read =
        let m = mapped positive (counted_of p) l read in
        let n = counted-back p m.value m.first in
        subst (λ (x : Literal). (p ≡ literal_text x) × (1 ≤ x.variable) × (x.variable < 2 ^ 62)) m.same
        (n.0, n.1, n.2)
    by (Some digits) is read =
        let m = mapped negative (counted_of digits) l read in
        let n = counted-back digits m.value m.first in
        let text : p ≡ 45 ∷ decimal m.value = after_minus-some p digits is ∙ ap (λ r. 45 ∷ r) n.0 in
        subst (λ (x : Literal). (p ≡ literal_text x) × (1 ≤ x.variable) × (x.variable < 2 ^ 62)) m.same
        (text, n.1, n.2)

literal_again : (v : ℕ) (b : Bool) (l : Literal) → l ≡ record { variable = v; negated = b } → 1 ≤ v →
    v < 2 ^ 62 → literal_of (literal_text l) ≡ Some l
unfolding literal_of
literal_again v true l is some below =
    ap (λ x. literal_of (literal_text x)) is ∙ ap (option_map negative) (counted-again v some below)
    ∙ ap (λ x. Some x) (sym is)
literal_again v false l is some below =
    ap (λ x. literal_of (literal_text x)) is
    ∙ ap (λ o. literal_by o (decimal v)) (after_minus-decimal v below)
    ∙ ap (option_map positive) (counted-again v some below)
    ∙ ap (λ x. Some x) (sym is)

pub literal-again : (l : Literal) → 1 ≤ l.variable → l.variable < 2 ^ 62 →
    literal_of (literal_text l) ≡ Some l
literal-again l some below = literal_again l.variable l.negated l refl some below

-- VALUES

value_above : (n : ℕ) → n < 2 ^ 62 → IsValue (pos n)
value_above n below = (omega (arith, ints), omega (arith, ints))

value_under : (k : ℕ) → suc k < 2 ^ 62 → IsValue (negsuc k)
value_under k below = (omega (arith, ints), omega (arith, ints))

pub above_is : (n : ℕ) → IsValue (pos n) → n < 2 ^ 62
above_is n h = let most = h.1 in omega (arith, ints, most)

pub under_is : (k : ℕ) → IsValue (negsuc k) → suc k < 2 ^ 62
under_is k h = let least = h.0 in omega (arith, ints, least)

minus_text : (v : ℕ) (digits : List ℕ) → 1 ≤ v → v < 2 ^ 62 → digits ≡ decimal v →
    (45 ∷ digits ≡ signed_decimal (neg_ℤ (pos v))) × IsValue (neg_ℤ (pos v))
minus_text zero digits some below is = absurd (omega (arith, some))
minus_text (suc k) digits some below is = (ap (λ r. 45 ∷ r) is, value_under k below)

pub value-back : (p : List ℕ) (z : ℤ) → value_of p ≡ Some z → (p ≡ signed_decimal z) × IsValue z
unfolding value_of
value-back p z e = by (after_minus p) refl e
  where
    by : (o : Option (List ℕ)) → after_minus p ≡ o → value_by o p ≡ Some z →
        (p ≡ signed_decimal z) × IsValue z
    by None is read =
        let m = mapped pos (number_of p) z read in
        let n = number-back p m.value m.first in
        subst (λ (x : ℤ). (p ≡ signed_decimal x) × IsValue x) m.same (n.0, value_above m.value n.1)
    by (Some digits) is read =
        let m = mapped (λ (n : ℕ). neg_ℤ (pos n)) (counted_of digits) z read in
        let n = counted-back digits m.value m.first in
        let text = minus_text m.value digits n.1 n.2 n.0 in
        subst (λ (x : ℤ). (p ≡ signed_decimal x) × IsValue x) m.same
        (after_minus-some p digits is ∙ text.0, text.1)

pub value-again : (z : ℤ) → IsValue z → value_of (signed_decimal z) ≡ Some z
unfolding value_of
value-again (pos n) h =
    ap (λ o. value_by o (decimal n)) (after_minus-decimal n (above_is n h))
    ∙ ap (option_map pos) (number-again n (above_is n h))
value-again (negsuc k) h =
    ap (option_map (λ (n : ℕ). neg_ℤ (pos n))) (counted-again (suc k) (omega arith) (under_is k h))

-- WORDS THAT NOTHING IS WRITTEN AS

pub zero-counted : counted_of (codes "0") ≡ None
unfolding counted_of number_of
zero-counted = refl

pub zero-group : group_of (codes "0") ≡ None
unfolding group_of counted_of number_of
zero-group = refl

pub zero-literal : literal_of (codes "0") ≡ None
unfolding literal_of counted_of number_of
zero-literal = refl

pub keep-value : value_of (codes "k") ≡ None
unfolding value_of counted_of number_of
keep-value = refl

pub take-value : value_of (codes "t") ≡ None
unfolding value_of counted_of number_of
take-value = refl
