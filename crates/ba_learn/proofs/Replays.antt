-- Hints that name the reasons of places in their order, and then a clause that is false, refute the negated clause.

use Rattle.std.proofs.Common.{◌≡◌, ◌≢◌, ℕ, ◌+◌, ◌<◌, Bool, true, false, Option, Some, List, [], ◌∷◌, ◌++◌, map, eqb, cond, refl, sym, ap, subst, ◌∙◌, arith, ◌⊎◌, inl, inr, ⊎_elim}
use Rattle.std.proofs.lemmas.Bool.{cases_eq}
use Rattle.std.proofs.lemmas.Bool.Decides.{nat_tests}
use Rattle.std.proofs.lemmas.List.Elements.{All-weaker}
use Rattle.std.specs.List.{All}
use Rattle.ba_lits.specs.Literals.{Literal, negate}
use Rattle.ba_lits.proofs.Members.{has_literal-more, has_literal-last, has_literal-push}
use Rattle.ba_lits.specs.Hints.{has_literal, Standing, Refutes, is_last, after_clause, after_hint, replay}
use Rattle.ba_watch.specs.Chains.{occurrences}
use Rattle.ba_learn.proofs.Standings.{times, stands_false, stands_unit}

-- each place is above all before it
abbrev pub IsAscending : List ℕ → Type 0
IsAscending [] = Unit {0}
IsAscending (p ∷ ps) = ((q : ℕ) → 0 < occurrences q ps → p < q) × IsAscending ps

module _ (live : ℕ → Option (List Literal)) (t : ℕ → Literal) (number : ℕ →
    ℕ) (lits : List Literal) (places : List ℕ) (last : ℕ) where
  -- a literal is one of the clause, or negates that of a place, here also of an earlier one
  abbrev pub IsKnown : Literal → Type 0
  IsKnown x = (has_literal x lits ≡ true) ⊎ ((q : ℕ) × (0 < occurrences q places) × (x ≡ negate (t q)))

  abbrev pub IsKnownBefore : ℕ → Literal → Type 0
  IsKnownBefore p x = (has_literal x lits ≡ true) ⊎ ((q : ℕ) × (0 < occurrences q places) × (q < p)
      × (x ≡ negate (t q)))

  -- the clause that makes the literal of a place true
  pub record IsGiven (p : ℕ) : Type 0 where
    pub given : List Literal
    pub is : live (number p) ≡ Some given
    pub once : times (t p) given ≡ 1
    pub others : All (λ (x : Literal). (x ≡ t p) ⊎ IsKnownBefore p x) given

  -- the clause that is false
  pub record IsEnd : Type 0 where
    pub given : List Literal
    pub is : live last ≡ Some given
    pub all : All IsKnown given

  module _ (each : (p : ℕ) → 0 < occurrences p places → IsGiven p) (end : IsEnd) (apart : (p q : ℕ) →
      0 < occurrences p places → 0 < occurrences q places → p < q → (t p).variable ≢ (t q).variable) where
    absent : (falses : List Literal) (x : Literal) (v : ℕ) → x.variable ≡ v →
        ((l : Literal) → has_literal l falses ≡ true → l.variable ≢ v) → has_literal x falses ≡ false
    absent falses x v e free = step (has_literal x falses) refl
      where
        step : (b : Bool) → has_literal x falses ≡ b → b ≡ false
        step true is = absurd (free x is e)
        step false is = refl

    pub runs : (ps : List ℕ) (falses : List Literal) → IsAscending ps →
        ((q : ℕ) → 0 < occurrences q ps → 0 < occurrences q places)
        → ((x : Literal) → has_literal x lits ≡ true → has_literal x falses ≡ true)
        → ((q : ℕ) → 0 < occurrences q places → (0 < occurrences q ps) ⊎ (has_literal (negate (t q)) falses
        ≡ true))
        → ((q : ℕ) → 0 < occurrences q ps → (l : Literal) → has_literal l falses ≡ true →
        l.variable ≢ (t q).variable)
        → replay live falses (map number ps ++ last ∷ []) ≡ Refutes
    runs [] falses ascends sub start done free =
        let known : (x : Literal) → IsKnown x → has_literal x falses ≡ true = λ x k. ⊎_elim
        (λ has. start x has)
        (λ q. subst (λ (y : Literal). has_literal y falses ≡ true) (sym q.2)
        (⊎_elim (λ none. absurd (omega arith)) (λ has. has) (done q.0 q.1)))
        k in
        ap (λ (o : Option (List Literal)). after_hint o falses true
        (λ l. replay live (falses ++ negate l ∷ []) [])) end.is
        ∙ ap (λ (st : Standing). after_clause st true (λ l. replay live (falses ++ negate l ∷ []) []))
        (stands_false falses end.given (All-weaker IsKnown (λ (x : Literal). has_literal x falses
        ≡ true) known end.given end.all))
    runs (p ∷ ps) falses ascends sub start done free =
        let here : 0 < occurrences p (p ∷ ps) = self p (occurrences p ps) in
        let g = each p (sub p here) in
        let fits : (x : Literal) → (x ≡ t p) ⊎ IsKnownBefore p x →
        (x ≡ t p) ⊎ (has_literal x falses ≡ true) = λ x k. ⊎_elim
        (λ is. inl is)
        (λ known. inr (⊎_elim
        (λ has. start x has)
        (λ q. subst (λ (y : Literal). has_literal y falses ≡ true) (sym q.3)
        (⊎_elim (λ left. absurd (not_before p q.0 (occurrences q.0 ps) (ascends.0 q.0) q.2 left))
        (λ has. has) (done q.0 q.1)))
        known))
        k in
        let no_t : has_literal (t p) falses ≡ false = absent falses (t p) (t p).variable refl (free p here) in
        let no_negation : has_literal (negate (t p)) falses ≡ false =
        absent falses (negate (t p)) (t p).variable refl (free p here) in
        ap (λ (o : Option (List Literal)). after_hint o falses (is_last (map number ps ++ last ∷ []))
        (λ l. replay live (falses ++ negate l ∷ []) (map number ps ++ last ∷ []))) g.is
        ∙ (ap (λ (st : Standing). after_clause st (is_last (map number ps ++ last ∷ []))
        (λ l. replay live (falses ++ negate l ∷ []) (map number ps ++ last ∷ [])))
        (stands_unit falses (t p) no_t no_negation g.given
        (All-weaker (λ (x : Literal). (x ≡ t p) ⊎ IsKnownBefore p x)
        (λ (x : Literal). (x ≡ t p) ⊎ (has_literal x falses ≡ true)) fits g.given g.others) g.once)
        ∙ runs ps (falses ++ negate (t p) ∷ []) ascends.1
        (λ q some. sub q (later p q (occurrences q ps) some))
        (λ x has. has_literal-more x falses (negate (t p) ∷ []) (start x has))
        (λ q some. ⊎_elim
        (λ left. ⊎_elim
        (λ same. inr (subst (λ (r : ℕ). has_literal (negate (t r)) (falses ++ negate (t p) ∷ []) ≡ true)
        (sym same) (has_literal-last (negate (t p)) falses)))
        (λ other. inl (rest p q (occurrences q ps) other left))
        (cases_eq q p))
        (λ has. inr (has_literal-more (negate (t q)) falses (negate (t p) ∷ []) has))
        (done q some))
        (λ q some l has. ⊎_elim
        (λ was. free q (later p q (occurrences q ps) some) l was)
        (λ is. subst (λ (x : Literal). x.variable ≢ (t q).variable) is
        (apart p q (sub p here) (sub q (later p q (occurrences q ps) some)) (ascends.0 q some)))
        (has_literal-push l (negate (t p)) falses has)))
      where
        self : (n k : ℕ) → 0 < cond (eqb n n) 1 0 + k
        self n k = grind (arith, nat_tests)

        later : (p q n : ℕ) → 0 < n → 0 < cond (eqb p q) 1 0 + n
        later p q n some = omega arith

        rest : (p q n : ℕ) → q ≢ p → 0 < cond (eqb p q) 1 0 + n → 0 < n
        rest p q n ne some = grind (arith, nat_tests)

        not_before : (p q n : ℕ) → (0 < n → p < q) → q < p → 0 < cond (eqb p q) 1 0 + n → ⊥
        not_before p q n above lt some = grind (arith, nat_tests)
