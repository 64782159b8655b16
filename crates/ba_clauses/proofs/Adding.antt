-- What clauses say that were added one after the other.

use Rattle.std.proofs.Common.{◌≡◌, ℕ, ◌+◌, ◌-◌, ◌*◌, ◌≤◌, Bool, true, false, not, ◌&&◌, ◌||◌, List, [], ◌∷◌, ◌++◌, get_or, refl, sym, ap, subst, ◌∙◌, arith, map, All, if◌then◌else◌}
use Rattle.std.proofs.lemmas.List.Elements.{All-append, All-map, All-weaker}
use Rattle.std.specs.List.{list_any}
use Rattle.std.proofs.Math.Bool.{and-true}
use mathlib.Core.Bool.{and_assoc, or_assoc}
use Rattle.ba_nodes.specs.declared.Bit.{Bit}
use Rattle.ba_nodes.specs.Gates.{opposite, bool_xor, bool_majority}
use Rattle.ba_lits.specs.Formulas.{Cnf}
use Rattle.ba_lits.specs.Literals.{Literal, literal_at, index_of}
use Rattle.ba_lits.specs.Satisfaction.{Assignment, lit_true, any_true, all_true}
use Rattle.ba_lits.proofs.Satisfied.{all_true-append, signed-not}
use Rattle.ba_lits.proofs.Members.{literal_at-index_of}
use Rattle.ba_clauses.specs.declared.gates.Gate.{Gate}
use Rattle.ba_clauses.specs.declared.gates.Gate.TheVariants.{Xor, Mux, Majority}
use Rattle.ba_clauses.specs.Clauses.{Adds, all_of, any_of, gate_value, literal_of, literal_value, code_true, IsLiteralOf, IsCodeOf, HasVariable}
use Rattle.ba_clauses.proofs.Ordered.{any_true-codes}

-- no clause says what always holds
pub Adds-none : (formula : Cnf) (says : Assignment → Bool) → ((v : Assignment) → says v ≡ true) →
    Adds formula formula says
Adds-none formula says always = record {
  variables = refl;
  holds = λ v. sym (ap (λ b. all_true v formula.clauses && b) (always v) ∙ and-true (all_true v
      formula.clauses));
}

pub Adds-one : (formula : Cnf) (clause : List Literal) (says : Assignment → Bool) → ((v : Assignment) →
    any_true v clause ≡ says v) →
    Adds formula (record formula { clauses = formula.clauses ++ clause ∷ [] }) says
Adds-one formula clause says is = record {
  variables = refl;
  holds = λ v. all_true-append v formula.clauses (clause ∷ [])
      ∙ ap (λ b. all_true v formula.clauses && b) (and-true (any_true v clause) ∙ is v);
}

pub Adds-as : (old new : Cnf) (says other : Assignment → Bool) → Adds old new says → ((v : Assignment) →
    says v ≡ other v) → Adds old new other
Adds-as old new says other adds same = record {
  variables = adds.variables;
  holds = λ v. adds.holds v ∙ ap (λ b. all_true v old.clauses && b) (same v);
}

-- ---- lists of bits

pub all_of-append : (value : Bit → Bool) (xs ys : List Bit) →
    all_of value (xs ++ ys) ≡ (all_of value xs && all_of value ys)
all_of-append value [] ys = refl
all_of-append value (x ∷ xs) ys = ap (λ b. value x && b) (all_of-append value xs ys) ∙ sym (and_assoc
    (value x) (all_of value xs) (all_of value ys))

-- ---- the indices of literals

any-indices : (v : Assignment) (lits : List Literal) →
    list_any (code_true v) (map index_of lits) ≡ any_true v lits
any-indices v [] = refl
any-indices v (l ∷ ls) = λ i. lit_true v (literal_at-index_of l i) || any-indices v ls i

any-bits : (variables : List ℕ) (v : Assignment) (bits : List Bit) →
    list_any (code_true v) (map (λ bit. index_of (literal_of variables bit)) bits) ≡ any_of (literal_value
    variables v) bits
any-bits variables v [] = refl
any-bits variables v (bit ∷ bits) = λ i. lit_true v (literal_at-index_of (literal_of variables bit) i) ||
    any-bits variables v bits i

list_any-append : (test : ℕ → Bool) (xs ys : List ℕ) →
    list_any test (xs ++ ys) ≡ (list_any test xs || list_any test ys)
list_any-append test [] ys = refl
list_any-append test (x ∷ xs) ys = ap (λ b. test x || b) (list_any-append test xs ys) ∙ sym (or_assoc (test
    x) (list_any test xs) (list_any test ys))

pub any-codes : (variables : List ℕ) (v : Assignment) (head : List Literal) (bits : List Bit) →
    list_any (code_true v) (map index_of head ++ map (λ bit. index_of (literal_of variables bit)) bits) ≡
    (any_true v head || any_of (literal_value variables v) bits)
any-codes variables v head bits =
    list_any-append (code_true v) (map index_of head) (map (λ bit. index_of (literal_of variables bit)) bits)
    ∙ (λ i. any-indices v head i || any-bits variables v bits i)

-- ---- gates

pub literal_value-opposite : (variables : List ℕ) (v : Assignment) (bit : Bit) →
    literal_value variables v (opposite bit) ≡ not (literal_value variables v bit)
literal_value-opposite variables v bit = signed-not bit.negated (v (get_or variables (bit.index - 1) 0))

-- ---- what the calls leave

code_fits : (bound : ℕ) (lit : Literal) → IsLiteralOf bound lit → IsCodeOf bound (index_of lit)
code_fits bound lit is = step lit.variable lit.negated is.counted is.within
  where
    step : (variable : ℕ) (negated : Bool) → 1 ≤ variable → variable ≤ bound →
        IsCodeOf bound (2 * variable + (if negated then 1 else 0))
    step variable true some within = record { low = omega arith; high = omega arith }
    step variable false some within = record { low = omega arith; high = omega arith }

pub codes_fit : (variables : List ℕ) (bound : ℕ) (head : List Literal) (bits : List Bit) →
    All (IsLiteralOf bound) head → All (HasVariable variables bound) bits →
    All (IsCodeOf bound) (map index_of head ++ map (λ bit. index_of (literal_of variables bit)) bits)
codes_fit variables bound head bits first second =
    All-append (IsCodeOf bound) (map index_of head) (map (λ bit. index_of (literal_of variables bit)) bits)
    (All-map (IsCodeOf bound) index_of head
    (All-weaker (IsLiteralOf bound) (λ lit. IsCodeOf bound (index_of lit)) (λ lit is. code_fits bound lit
    is) head first))
    (All-map (IsCodeOf bound) (λ bit. index_of (literal_of variables bit)) bits
    (All-weaker (HasVariable variables bound) (λ bit. IsCodeOf bound (index_of (literal_of variables bit)))
    (λ bit is. code_fits bound (literal_of variables bit) is.literal) bits second))

pub clause_says : (old new : Cnf) (codes second all : List ℕ) (lits shown : List Literal) →
    second ≡ codes → lits ≡ map literal_at second → shown ≡ lits →
    ((test : ℕ → Bool) → list_any test codes ≡ list_any test all) →
    new ≡ record old { clauses = old.clauses ++ shown ∷ [] } → Adds old new (λ v. list_any (code_true v) all)
clause_says old new codes second all lits shown two made is same pushed =
    subst (λ (formula : Cnf). Adds old formula (λ v. list_any (code_true v) all)) (sym pushed)
    (Adds-one old shown (λ v. list_any (code_true v) all)
    (λ v. ap (any_true v) (is ∙ made) ∙ any_true-codes v second ∙ ap (list_any (code_true v)) two ∙ same
    (code_true v)))

-- ---- the gates

-- clauses that are added one after the other
pub Adds-then : (old mid new : Cnf) (first second both : Assignment → Bool) → Adds old mid first →
    Adds mid new second → ((v : Assignment) → (first v && second v) ≡ both v) → Adds old new both
Adds-then old mid new first second both one two same = record {
  variables = two.variables ∙ one.variables;
  holds = λ v. two.holds v ∙ (ap (λ b. b && second v) (one.holds v)
      ∙ (and_assoc (all_true v old.clauses) (first v) (second v)
      ∙ ap (λ b. all_true v old.clauses && b) (same v)));
}

pub says_xor : (h a b : Bool) → ((h || (a || (b || false))) && (h || (not a || (not b || false))))
    ≡ (h || bool_xor a b)
says_xor true a b = refl
says_xor false true true = refl
says_xor false true false = refl
says_xor false false true = refl
says_xor false false false = refl

pub says_mux : (h a b c : Bool) → ((h || (not a || (b || false))) && (h || (a || (c || false))))
    ≡ (h || (if a then b else c))
says_mux true a b c = refl
says_mux false true true c = refl
says_mux false true false c = refl
says_mux false false b true = refl
says_mux false false b false = refl

pub says_majority : (h a b c : Bool) → (((h || (a || (b || false))) && (h || (a || (c || false))))
    && (h || (b || (c || false)))) ≡ (h || bool_majority a b c)
says_majority true a b c = refl
says_majority false true true true = refl
says_majority false true true false = refl
says_majority false true false true = refl
says_majority false true false false = refl
says_majority false false true true = refl
says_majority false false true false = refl
says_majority false false false true = refl
says_majority false false false false = refl

module _ (variables : List ℕ) (old mid new : Cnf) (head : List Literal) (gate : Gate) where
  pub gate_xor : (a b not_a not_b : Bit) → gate ≡ Xor a b → not_a ≡ opposite a → not_b ≡ opposite b
      → Adds old mid (λ v. any_true v head || any_of (literal_value variables v) (a ∷ b ∷ []))
      → Adds mid new (λ v. any_true v head || any_of (literal_value variables v) (not_a ∷ not_b ∷ []))
      → Adds old new (λ v. any_true v head || gate_value (literal_value variables v) gate)
  gate_xor a b not_a not_b is first_is second_is one two = Adds-then old mid new
      (λ v. any_true v head || any_of (literal_value variables v) (a ∷ b ∷ []))
      (λ v. any_true v head || any_of (literal_value variables v) (not_a ∷ not_b ∷ []))
      (λ v. any_true v head || gate_value (literal_value variables v) gate) one two
      (λ v.
      let value : Bit → Bool = literal_value variables v in
      let first = ap value first_is ∙ literal_value-opposite variables v a in
      let second = ap value second_is ∙ literal_value-opposite variables v b in
      (λ i. (any_true v head || (value a || (value b || false)))
      && (any_true v head || (first i || (second i || false))))
      ∙ (says_xor (any_true v head) (value a) (value b)
      ∙ ap (λ g. any_true v head || gate_value value g) (sym is)))

  pub gate_mux : (a b c not_a : Bit) → gate ≡ Mux a b c → not_a ≡ opposite a
      → Adds old mid (λ v. any_true v head || any_of (literal_value variables v) (not_a ∷ b ∷ []))
      → Adds mid new (λ v. any_true v head || any_of (literal_value variables v) (a ∷ c ∷ []))
      → Adds old new (λ v. any_true v head || gate_value (literal_value variables v) gate)
  gate_mux a b c not_a is first_is one two = Adds-then old mid new
      (λ v. any_true v head || any_of (literal_value variables v) (not_a ∷ b ∷ []))
      (λ v. any_true v head || any_of (literal_value variables v) (a ∷ c ∷ []))
      (λ v. any_true v head || gate_value (literal_value variables v) gate) one two
      (λ v.
      let value : Bit → Bool = literal_value variables v in
      let first = ap value first_is ∙ literal_value-opposite variables v a in
      (λ i. (any_true v head || (first i || (value b || false)))
      && (any_true v head || (value a || (value c || false))))
      ∙ (says_mux (any_true v head) (value a) (value b) (value c)
      ∙ ap (λ g. any_true v head || gate_value value g) (sym is)))

  pub gate_majority : (last : Cnf) (a b c : Bit) → gate ≡ Majority a b c
      → Adds old mid (λ v. any_true v head || any_of (literal_value variables v) (a ∷ b ∷ []))
      → Adds mid new (λ v. any_true v head || any_of (literal_value variables v) (a ∷ c ∷ []))
      → Adds new last (λ v. any_true v head || any_of (literal_value variables v) (b ∷ c ∷ []))
      → Adds old last (λ v. any_true v head || gate_value (literal_value variables v) gate)
  gate_majority last a b c is one two three =
      let says : Bit → Bit → Assignment → Bool = λ x y v.
      any_true v head || any_of (literal_value variables v) (x ∷ y ∷ []) in
      Adds-then old new last (λ v. says a b v && says a c v) (says b c)
      (λ v. any_true v head || gate_value (literal_value variables v) gate)
      (Adds-then old mid new (says a b) (says a c) (λ v. says a b v && says a c v) one two (λ v. refl)) three
      (λ v.
      let value : Bit → Bool = literal_value variables v in
      says_majority (any_true v head) (value a) (value b) (value c)
      ∙ ap (λ g. any_true v head || gate_value value g) (sym is))
