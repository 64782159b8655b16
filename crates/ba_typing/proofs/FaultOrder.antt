-- The order of faults: of two that differ one comes before the other.
use Rattle.std.proofs.Common.{true≢false, ◌≡◌, ℕ, Bool, true, false, ◌==◌, cond, refl, sym, ◌∙◌, ap, arith, nat_lt}
use Rattle.std.proofs.lemmas.Bool.Decides.{nat_tests}
use Rattle.ba_typing.specs.Faults.{less_or, number_of, comes_before}
use Rattle.ba_typing.specs.declared.fault.Cause.{Cause}
use Rattle.ba_typing.specs.declared.fault.Cause.TheVariants.{UnknownName, Twice, WrongKind, WrongCount, BadLength, BreakOutside, CallInIndex, Limit}
use Rattle.ba_typing.specs.declared.fault.Fault.{Fault}

less-asym : (m n : ℕ) (r q : Bool) → (r ≡ true → q ≡ false) → less_or m n r ≡ true → less_or n m q ≡ false
less-asym m n true true h e = absurd (true≢false (h refl))
less-asym m n true false h e = grind (arith, nat_tests, e)
less-asym m n false true h e = grind (arith, nat_tests, e)
less-asym m n false false h e = grind (arith, nat_tests, e)

less-trans : (a b c : ℕ) (r q p : Bool) → (r ≡ true → q ≡ true → p ≡ true) → less_or a b r ≡ true
    → less_or b c q ≡ true → less_or a c p ≡ true
less-trans a b c true true true h d e = grind (arith, nat_tests, d, e)
less-trans a b c true true false h d e = absurd (true≢false (sym (h refl refl)))
less-trans a b c true false p h d e = grind (arith, nat_tests, d, e)
less-trans a b c false q p h d e = grind (arith, nat_tests, d, e)

less-same : (m n : ℕ) (r q : Bool) → less_or m n r ≡ false → less_or n m q ≡ false → m ≡ n
less-same m n r q d e = grind (arith, nat_tests, d, e)

less-rest : (m n : ℕ) (r : Bool) → less_or m n r ≡ false → m ≡ n → r ≡ false
less-rest m n true d e = grind (arith, nat_tests, d, e)
less-rest m n false d e = refl

-- a cause by its number
cause_of : ℕ → Cause
cause_of n = cond (n == 1) UnknownName (cond (n == 2) Twice (cond (n == 3) WrongKind (cond (n == 4) WrongCount
    (cond (n == 6) BadLength (cond (n == 7) BreakOutside (cond (n == 8) CallInIndex Limit))))))

cause-number : (c : Cause) → cause_of (number_of c) ≡ c
unfolding cause_of
cause-number UnknownName = refl
cause-number Twice = refl
cause-number WrongKind = refl
cause-number WrongCount = refl
cause-number BadLength = refl
cause-number BreakOutside = refl
cause-number CallInIndex = refl
cause-number Limit = refl

same-cause : (c d : Cause) → number_of c ≡ number_of d → c ≡ d
same-cause c d e = sym (cause-number c) ∙ ap cause_of e ∙ cause-number d

number-asym : (m n : ℕ) → nat_lt m n ≡ true → nat_lt n m ≡ false
number-asym m n e = grind (arith, nat_tests, e)

number-trans : (a b c : ℕ) → nat_lt a b ≡ true → nat_lt b c ≡ true → nat_lt a c ≡ true
number-trans a b c d e = grind (arith, nat_tests, d, e)

number-same : (m n : ℕ) → nat_lt m n ≡ false → nat_lt n m ≡ false → m ≡ n
number-same m n d e = grind (arith, nat_tests, d, e)

module _ (f g : Fault) where
  abbrev by_number : Fault → Fault → Bool
  by_number f g = nat_lt (number_of f.cause) (number_of g.cause)

  abbrev by_column : Fault → Fault → Bool
  by_column f g = less_or f.at.column g.at.column (by_number f g)

  pub asym : comes_before f g ≡ true → comes_before g f ≡ false
  asym = less-asym f.at.line g.at.line (by_column f g) (by_column g f)
      (less-asym f.at.column g.at.column (by_number f g) (by_number g f)
      (number-asym (number_of f.cause) (number_of g.cause)))

  pub trans : (h : Fault) → comes_before f g ≡ true → comes_before g h ≡ true → comes_before f h ≡ true
  trans h = less-trans f.at.line g.at.line h.at.line (by_column f g) (by_column g h) (by_column f h)
      (less-trans f.at.column g.at.column h.at.column (by_number f g) (by_number g h) (by_number f h)
      (number-trans (number_of f.cause) (number_of g.cause) (number_of h.cause)))

  pub connected : comes_before f g ≡ false → comes_before g f ≡ false → f ≡ g
  connected d e =
      let lines = less-same f.at.line g.at.line (by_column f g) (by_column g f) d e in
      let c = less-rest f.at.line g.at.line (by_column f g) d lines in
      let k = less-rest g.at.line f.at.line (by_column g f) e (sym lines) in
      let columns = less-same f.at.column g.at.column (by_number f g) (by_number g f) c k in
      let n = less-rest f.at.column g.at.column (by_number f g) c columns in
      let o = less-rest g.at.column f.at.column (by_number g f) k (sym columns) in
      let causes = same-cause f.cause g.cause (number-same (number_of f.cause) (number_of g.cause) n o) in
      ap (λ l. record f { at = record f.at { line = l } }) lines
      ∙ ap (λ c. record f { at = record f.at { line = g.at.line; column = c } }) columns
      ∙ ap (λ c. record f { at = g.at; cause = c }) causes
