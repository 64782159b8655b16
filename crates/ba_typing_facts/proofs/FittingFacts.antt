-- What the facts of a typed expression owe to what is said of the expression, and that operators keep it.
use Rattle.std.proofs.Common.{◌≡◌, ℕ, suc, zero, ◌+◌, ◌≤◌, Bool, true, false, List, [], ◌∷◌, ◌++◌, map, flat_map, refl, sym, ◌∙◌, ap, arith, sum_by}
use Rattle.std.specs.List.{list_all, range_with_len}
use Rattle.std.proofs.lemmas.Bool.{and_from, and_parts}
use Rattle.std.proofs.lemmas.List.{map-append}
use Rattle.std.proofs.lemmas.List.Folds.{list_all-append}
use Rattle.std.proofs.lemmas.List.Sums.{sum_by-cons}
use Rattle.ba_numbers.specs.declared.ids.CallId.{CallId}
use Rattle.ba_numbers.specs.declared.ids.VarId.{VarId}
use Rattle.ba_numbers.specs.declared.numbers.CType.{CType}
use Rattle.ba_tree.specs.Facts.{ExprFacts, operator_facts, with_variable, with_call, has_variable, greatest, are_sound}
use Rattle.ba_typing.specs.Expressions.{Typed}

-- LISTS

pub range-append : (a m n : ℕ) → range_with_len a m ++ range_with_len (a + m) n ≡ range_with_len a (m + n)
range-append a zero n =
    let here : a + 0 ≡ a = omega arith in
    let none : n ≡ 0 + n = omega arith in
    ap (λ k. range_with_len k n) here ∙ ap (range_with_len a) none
range-append a (suc m) n =
    let here : a + suc m ≡ (a + 1) + m = omega arith in
    let all : suc (m + n) ≡ suc m + n = omega arith in
    ap (λ ns. a ∷ ns)
    (ap (λ k. range_with_len (a + 1) m ++ range_with_len k n) here ∙ range-append (a + 1) m n)
    ∙ ap (range_with_len a) all

pub nil_left : {A : Type 0} (xs ys : List A) → xs ++ ys ≡ [] → xs ≡ []
nil_left [] ys h = refl
nil_left (x ∷ xs) ys h = cc

pub nil_right : {A : Type 0} (xs ys : List A) → xs ++ ys ≡ [] → ys ≡ []
nil_right [] ys h = h
nil_right (x ∷ xs) ys h = cc

-- THE FACTS OF AN EXPRESSION with these counts of calls before it and in it, at most this height, and maybe
-- constant. It is sound, names variables among these, and its calls are numbered in the order of the text.
abbrev pub call_numbers : List CallId → List ℕ
call_numbers = map (λ (c : CallId). c.0)

pub record Fits (owned : List VarId) (before count height : ℕ) (constant : Bool)
    (x : ExprFacts) : Type 0 where
  pub sound : x.is_sound ≡ true
  pub low : x.height ≤ height
  pub names : list_all (has_variable owned) x.variables ≡ true
  pub numbers : call_numbers x.calls ≡ range_with_len (before + 1) count
  pub plain : constant ≡ true → (x.variables ≡ []) × (x.calls ≡ [])

-- expressions one after the other
abbrev pub AreFit : List VarId → ℕ → List Typed → List ExprFacts → Type 0
AreFit owned before [] [] = Unit {0}
AreFit owned before [] (x ∷ xs) = ⊥
AreFit owned before (e ∷ es) [] = ⊥
AreFit owned before (e ∷ es) (x ∷ xs) =
    Fits owned before e.calls e.height e.is_constant x × AreFit owned (before + e.calls) es xs

abbrev pub calls_of : List Typed → ℕ
calls_of = sum_by (λ (e : Typed). e.calls)

abbrev heights_of : List Typed → List ℕ
heights_of = map (λ (e : Typed). e.height)

abbrev are_constant : List Typed → Bool
are_constant = list_all (λ (e : Typed). e.is_constant)

abbrev variables_in : List ExprFacts → List VarId
variables_in = flat_map (λ (x : ExprFacts). x.variables)

abbrev calls_in : List ExprFacts → List CallId
calls_in = flat_map (λ (x : ExprFacts). x.calls)

module _ (owned : List VarId) where
  all_sound : (before : ℕ) (es : List Typed) (xs : List ExprFacts) → AreFit owned before es xs → are_sound xs
      ≡ true
  all_sound before [] [] h = refl
  all_sound before [] (x ∷ xs) h = absurd h
  all_sound before (e ∷ es) [] h = absurd h
  all_sound before (e ∷ es) (x ∷ xs) h = and_from x.is_sound (are_sound xs) h.0.sound (all_sound
      (before + e.calls) es xs h.1)

  all_low : (before : ℕ) (es : List Typed) (xs : List ExprFacts) → AreFit owned before es xs
      → greatest (map (λ (x : ExprFacts). x.height) xs) ≤ greatest (heights_of es)
  all_low before [] [] h = omega arith
  all_low before [] (x ∷ xs) h = absurd h
  all_low before (e ∷ es) [] h = absurd h
  all_low before (e ∷ es) (x ∷ xs) h =
      let first = h.0.low in let rest = all_low (before + e.calls) es xs h.1 in omega (arith, first, rest)

  all_named : (before : ℕ) (es : List Typed) (xs : List ExprFacts) → AreFit owned before es xs
      → list_all (has_variable owned) (variables_in xs) ≡ true
  all_named before [] [] h = refl
  all_named before [] (x ∷ xs) h = absurd h
  all_named before (e ∷ es) [] h = absurd h
  all_named before (e ∷ es) (x ∷ xs) h = list_all-append (has_variable owned) x.variables (variables_in xs)
      ∙ and_from (list_all (has_variable owned) x.variables) (list_all (has_variable owned) (variables_in xs))
      h.0.names (all_named (before + e.calls) es xs h.1)

  all_numbered : (before : ℕ) (es : List Typed) (xs : List ExprFacts) → AreFit owned before es xs
      → call_numbers (calls_in xs) ≡ range_with_len (before + 1) (calls_of es)
  all_numbered before [] [] h = refl
  all_numbered before [] (x ∷ xs) h = absurd h
  all_numbered before (e ∷ es) [] h = absurd h
  all_numbered before (e ∷ es) (x ∷ xs) h =
      let place : (before + e.calls) + 1 ≡ (before + 1) + e.calls = omega arith in
      map-append (λ (c : CallId). c.0) x.calls (calls_in xs)
      ∙ ap (λ ns. ns ++ call_numbers (calls_in xs)) h.0.numbers
      ∙ ap (λ ns. range_with_len (before + 1) e.calls ++ ns)
      (all_numbered (before + e.calls) es xs h.1 ∙ ap (λ k. range_with_len k (calls_of es)) place)
      ∙ range-append (before + 1) e.calls (calls_of es)
      ∙ ap (λ n. range_with_len (before + 1) n) (sym (sum_by-cons (λ (e : Typed). e.calls) e es))

  all_plain : (before : ℕ) (es : List Typed) (xs : List ExprFacts) → AreFit owned before es xs
      → are_constant es ≡ true → (variables_in xs ≡ []) × (calls_in xs ≡ [])
  all_plain before [] [] h all = (refl, refl)
  all_plain before [] (x ∷ xs) h all = absurd h
  all_plain before (e ∷ es) [] h all = absurd h
  all_plain before (e ∷ es) (x ∷ xs) h all =
      let both = and_parts e.is_constant (are_constant es) all in
      let first = h.0.plain both.0 in
      let rest = all_plain (before + e.calls) es xs h.1 both.1 in
      (ap (λ vs. vs ++ variables_in xs) first.0 ∙ rest.0, ap (λ cs. cs ++ calls_in xs) first.1 ∙ rest.1)

  -- an operator over operands that fit, whose constraint is met
  pub operator_fits : (before : ℕ) (es : List Typed) (xs : List ExprFacts) (t : CType) (meets : Bool)
      → AreFit owned before es xs → meets ≡ true
      → Fits owned before (calls_of es) (1 + greatest (heights_of es)) (are_constant es)
      (operator_facts t xs meets)
  operator_fits before es xs t meets h met = record {
    sound = and_from meets (are_sound xs) met (all_sound before es xs h);
    low = let lower = all_low before es xs h in omega (arith, lower);
    names = all_named before es xs h;
    numbers = all_numbered before es xs h;
    plain = all_plain before es xs h;
  }

  pub variable_fits : {before count height : ℕ} {constant : Bool} {x : ExprFacts} (v : VarId)
      → has_variable owned v ≡ true → Fits owned before count height constant x
      → Fits owned before count height false (with_variable v x)
  variable_fits {x = x} v is_owned h = record {
    sound = h.sound;
    low = h.low;
    names = and_from (has_variable owned v) (list_all (has_variable owned) x.variables) is_owned h.names;
    numbers = h.numbers;
    plain = λ wrong. cc;
  }

  pub call_fits : {before count height : ℕ} {constant : Bool} {x : ExprFacts} (c : CallId)
      → c.0 ≡ before + 1 → Fits owned (before + 1) count height constant x
      → Fits owned before (1 + count) height false (with_call c x)
  call_fits {before} {count} {x = x} c is h = record {
    sound = h.sound;
    low = h.low;
    names = h.names;
    numbers = ap (λ n. n ∷ call_numbers x.calls) is
        ∙ ap (λ ns. (before + 1) ∷ ns) h.numbers
        ∙ ap (λ n. range_with_len (before + 1) n) (let e : suc count ≡ 1 + count = omega arith in e);
    plain = λ wrong. cc;
  }
