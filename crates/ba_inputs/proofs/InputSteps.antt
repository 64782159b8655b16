-- The reading of an input, step by step.
use Rattle.std.proofs.Common.{◌≡◌, ℕ, suc, ◌+◌, ◌≤◌, ◌==◌, ℤ, Bool, true, false, cond, Option, None, Some, option_map, List, [], ◌∷◌, ◌++◌, map, length, refl, sym, ap, ◌∙◌, subst, arith}
use Rattle.std.proofs.lemmas.List.{length-append, length-map}
use Rattle.std.proofs.lemmas.Grind.{common_steps}
use Rattle.std.proofs.lemmas.Bool.Decides.{nat_tests}
use Rattle.std.specs.List.{position_from, zip}
use Rattle.std.specs.Option.{option_or}
use Rattle.ba_bytes.specs.Decimal.{decimal_of, nearest}
use Rattle.ba_bytes.specs.Pieces.{pieces_of}
use Rattle.ba_numbers.specs.declared.numbers.CType.{CType}
use Rattle.ba_tree.specs.Inputs.{InputFault, NotANumber, WrongCount, OutOfRange, first_where, fault_of, input_types, is_no_number, is_outside, numbers_of, values_for, IsInputOf}
use Rattle.ba_tree.specs.Run.{main_of}
use Rattle.ba_tree.specs.declared.tree.Program.{Program}
use Rattle.ba_tree.proofs.InputLemmas.{first_no_number-next, first_outside-nearest, length-numbers_of, nearest-inside, numbers_of-next}
use Rattle.ba_inputs.specs.Inputs.{AreNumbers}

-- NO MORE NUMBERS

pub no_more_types : (i : ℕ) (types : List CType) (zs : List ℤ) → length types ≡ 0
    → position_from is_outside i (zip types zs) ≡ None
no_more_types i [] zs none = refl
no_more_types i (t ∷ ts) zs none = absurd (omega arith)

pub no_more_numbers : (i : ℕ) (types : List CType) (zs : List ℤ) → length zs ≡ 0
    → position_from is_outside i (zip types zs) ≡ None
no_more_numbers i [] zs none = refl
no_more_numbers i (t ∷ ts) [] none = refl
no_more_numbers i (t ∷ ts) (z ∷ zs) none = absurd (omega arith)

-- THE PIECES

-- what was read, of all the pieces, if these are left
pub record Reads (pieces left : List (List ℕ)) (numbers : List ℤ) (most : ℕ) : Type 0 where
  pub first : first_where is_no_number pieces ≡ position_from is_no_number (length numbers + 1) left
  pub whole : map nearest (numbers_of pieces) ≡ numbers ++ map nearest (numbers_of left)
  pub few : length numbers + length left ≤ most

pub reads-none : (pieces left : List (List ℕ)) (numbers : List ℤ) (most : ℕ) → left ≡ pieces → numbers ≡ []
    → length pieces ≤ most
    → Reads pieces left numbers most
reads-none pieces left numbers most is none few = record {
  first = ap (position_from is_no_number 1) (sym is) ∙ ap (λ zs. position_from is_no_number (length zs + 1)
      left) (sym none);
  whole = ap (λ ps. map nearest (numbers_of ps)) (sym is) ∙ ap (λ zs. zs ++ map nearest (numbers_of left))
      (sym none);
  few = omega (arith, few, ap length is, ap length none);
}

pub reads-more : (pieces left rest : List (List ℕ)) (numbers more : List ℤ) (most : ℕ) (piece : List ℕ) (z
    : ℤ)
    → Reads pieces left numbers most → left ≡ piece ∷ rest → decimal_of piece ≡ Some z → more ≡ numbers ++
    nearest z ∷ []
    → Reads pieces rest more most
reads-more pieces left rest numbers more most piece z r is number pushed =
    let longer : length more ≡ length numbers + 1 = ap length pushed ∙ length-append numbers (nearest z ∷
    []) in
    let fewer : length left ≡ suc (length rest) = ap length is in
    record {
      first = r.first ∙ ap (position_from is_no_number (length numbers + 1)) is
          ∙ first_no_number-next (length numbers + 1) piece rest z number
          ∙ ap (λ n. position_from is_no_number (n + 1) rest) (sym longer);
      whole = grind (arith, common_steps, r.whole, is, numbers_of-next piece rest z number, pushed);
      few = omega (arith, r.few, longer, fewer);
    }

pub reads-next : (pieces left rest : List (List ℕ)) (numbers more : List ℤ) (most : ℕ) (piece : List ℕ) (n
    m : ℤ)
    → Reads pieces left numbers most → left ≡ piece ∷ rest → Some n ≡ option_map nearest (decimal_of piece)
    → m ≡ n
    → more ≡ numbers ++ m ∷ [] → Reads pieces rest more most
reads-next pieces left rest numbers more most piece n m r is = by (decimal_of piece) refl
  where
    by : (number : Option ℤ) → decimal_of piece ≡ number → Some n ≡ option_map nearest number → m ≡ n
        → more ≡ numbers ++ m ∷ [] → Reads pieces rest more most
    by None number gives same pushed = cc
    by (Some z) number gives same pushed =
        let nearest_one : m ≡ nearest z = cc in
        reads-more pieces left rest numbers more most piece z r is number (pushed ∙ ap (λ n. numbers ++ n ∷
        []) nearest_one)

-- THE FAULTS

count-is : (numbers : List ℤ) (pieces : List (List ℕ)) → AreNumbers pieces numbers → length numbers ≡
    length pieces
count-is numbers pieces a =
    ap length a.nearest_ones ∙ length-map (numbers_of pieces) nearest ∙ length-numbers_of 1 pieces a.each

-- what is said of the numbers' types if each piece is a number
abbrev typed_fault : List CType → List (List ℕ) → Bool → Option InputFault
typed_fault types pieces b =
    cond b (option_map OutOfRange (first_where is_outside (zip types (numbers_of pieces)))) (Some WrongCount)

fault-typed : (types : List CType) (pieces : List (List ℕ)) (numbers : List ℤ) → AreNumbers pieces numbers
    → fault_of types pieces ≡ typed_fault types pieces (length pieces == length types)
fault-typed types pieces numbers a =
    ap (λ f. option_or (option_map NotANumber f) (typed_fault types pieces (length pieces == length
    types))) a.each

pub fault-count : (types : List CType) (pieces : List (List ℕ)) (numbers : List ℤ) → AreNumbers pieces numbers
    → (length numbers ≡ length types → ⊥) → fault_of types pieces ≡ Some WrongCount
fault-count types pieces numbers a differs =
    fault-typed types pieces numbers a ∙ ap (typed_fault types pieces) unequal
  where
    count : length numbers ≡ length pieces
    count = count-is numbers pieces a

    unequal : (length pieces == length types) ≡ false
    unequal = subst (λ n. (n == length types) ≡ false) count (grind (arith, nat_tests, differs))

pub fault-outside : (types : List CType) (pieces : List (List ℕ)) (numbers : List ℤ) (outside : Option ℕ)
    → AreNumbers pieces numbers → length numbers ≡ length types
    → outside ≡ first_where is_outside (zip types numbers) → fault_of types pieces ≡ option_map OutOfRange
    outside
fault-outside types pieces numbers outside a same is =
    fault-typed types pieces numbers a ∙ ap (typed_fault types pieces) equal
    ∙ ap (option_map OutOfRange) (sym (is ∙ ap (λ zs. first_where is_outside (zip types zs)) a.nearest_ones
    ∙ first_outside-nearest 1 types (numbers_of pieces)))
  where
    count : length numbers ≡ length pieces
    count = count-is numbers pieces a

    equal : (length pieces == length types) ≡ true
    equal = subst (λ n. (n == length types) ≡ true) count (grind (arith, nat_tests, same))

-- THE INPUT

pub only-none : (outside : Option ℕ) → ((n : ℕ) → outside ≡ Some n → ⊥) → outside ≡ None
only-none None differs = refl
only-none (Some n) differs = absurd (differs n refl)

pub is-input : (p : Program) (text : List ℕ) (numbers : List ℤ) (types : List CType) (outside : Option ℕ)
    (values : List (List ℤ)) → AreNumbers (pieces_of text) numbers → types ≡ input_types p → length numbers
    ≡ length types
    → outside ≡ first_where is_outside (zip types numbers) → outside ≡ None
    → values ≡ values_for p (main_of p).params numbers → IsInputOf p text (record { values = values })
is-input p text numbers types outside values a is same first none made = record {
  no_fault = ap (λ ts. fault_of ts (pieces_of text)) (sym is)
      ∙ fault-outside types (pieces_of text) numbers outside a same first ∙ ap (option_map OutOfRange) none;
  values = made ∙ ap (values_for p (main_of p).params) exact;
}
  where
    among : List ℤ
    among = numbers_of (pieces_of text)

    none_among : first_where is_outside (zip types among) ≡ None
    none_among = sym (first_outside-nearest 1 types among) ∙ ap (λ zs. first_where is_outside (zip types
        zs)) (sym a.nearest_ones)
        ∙ sym first ∙ none

    exact : numbers ≡ among
    exact = a.nearest_ones ∙ nearest-inside 1 types among
        (sym (length-map among nearest) ∙ ap length (sym a.nearest_ones) ∙ same) none_among
