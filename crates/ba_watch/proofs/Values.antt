-- Values and places on a trail.

use Rattle.std.proofs.Common.{◌≡◌, ◌≢◌, ℕ, suc, zero, ◌+◌, ◌<◌, ◌≤◌, Bool, true, false, not, Option, None, Some, List, [], ◌∷◌, ◌++◌, length, take, drop, eqb, cond, refl, sym, ap, subst, ◌∙◌, arith, ⊎_elim}
use Rattle.std.proofs.lemmas.List.{take_more, take-append-drop}
use Rattle.std.proofs.lemmas.Bool.{eq-eqb, ne_eqb, cases_eq}
use Rattle.std.proofs.lemmas.Bool.Decides.{nat_tests}
use Rattle.ba_lits.specs.Literals.{Literal, lit_at, no_literal}
use Rattle.ba_lits.specs.Satisfaction.{signed}
use Rattle.ba_watch.specs.Trails.{same_sign, value_of, trail_index}

-- the first of two values
abbrev pub or_else : Option Bool → Option Bool → Option Bool
or_else None y = y
or_else (Some b) y = Some b

or_else-cond : (c : Bool) (s : Bool) (x y : Option Bool) →
    cond c (Some s) (or_else x y) ≡ or_else (cond c (Some s) x) y
or_else-cond true s x y = refl
or_else-cond false s x y = refl

pub value_of-append : (xs ys : List Literal) (l : Literal) →
    value_of (xs ++ ys) l ≡ or_else (value_of xs l) (value_of ys l)
value_of-append [] ys l = refl
value_of-append (x ∷ xs) ys l =
    ap (cond (eqb x.variable l.variable) (Some (same_sign x.negated l.negated))) (value_of-append xs ys l)
    ∙ or_else-cond (eqb x.variable l.variable) (same_sign x.negated l.negated) (value_of xs l) (value_of ys l)

-- a literal that has a value keeps it
pub value_of-more : (xs ys : List Literal) (l : Literal) (b : Bool) → value_of xs l ≡ Some b →
    value_of (xs ++ ys) l ≡ Some b
value_of-more xs ys l b has = value_of-append xs ys l ∙ ap (λ x. or_else x (value_of ys l)) has

-- whether a variable has a value doesn't depend on the sign
pub value_of-none : (xs : List Literal) (a b : Literal) → a.variable ≡ b.variable → value_of xs a ≡ None →
    value_of xs b ≡ None
value_of-none [] a b same none = refl
value_of-none (x ∷ xs) a b same none = step x.variable a.variable b.variable (same_sign x.negated a.negated)
    (same_sign x.negated b.negated) (value_of xs a) (value_of xs b) same (value_of-none xs a b same) none
  where
    step : (x a b : ℕ) (s t : Bool) (v w : Option Bool) → a ≡ b → (v ≡ None → w ≡ None) →
        cond (eqb x a) (Some s) v ≡ None → cond (eqb x b) (Some t) w ≡ None
    step x a b s t v w same rest none = grind (arith, nat_tests)

-- the pushed literal's variable gets its value, and the others keep theirs
pub value_of-push_here : (xs : List Literal) (t l : Literal) → value_of xs t ≡ None →
    t.variable ≡ l.variable → value_of (xs ++ t ∷ []) l ≡ Some (same_sign t.negated l.negated)
value_of-push_here xs t l free same =
    value_of-append xs (t ∷ []) l ∙ (ap (λ x. or_else x (value_of (t ∷ []) l))
    (value_of-none xs t l same free) ∙ here t.variable l.variable (same_sign t.negated l.negated) same)
  where
    here : (x y : ℕ) (s : Bool) → x ≡ y → cond (eqb x y) (Some s) None ≡ Some s
    here x y s e = grind (arith, nat_tests)

pub value_of-push_there : (xs : List Literal) (t l : Literal) → t.variable ≢ l.variable →
    value_of (xs ++ t ∷ []) l ≡ value_of xs l
value_of-push_there xs t l ne =
    value_of-append xs (t ∷ []) l ∙ (ap (or_else (value_of xs l))
    (there t.variable l.variable (same_sign t.negated l.negated) ne) ∙ last (value_of xs l))
  where
    there : (x y : ℕ) (s : Bool) → x ≢ y → cond (eqb x y) (Some s) None ≡ None
    there x y s e = grind (arith, nat_tests)

    last : (x : Option Bool) → or_else x None ≡ x
    last None = refl
    last (Some b) = refl

-- places
pub trail_index-le : (xs : List Literal) (x : ℕ) → trail_index xs x ≤ length xs
trail_index-le [] x = omega arith
trail_index-le (t ∷ ts) x = step (eqb t.variable x) (trail_index ts x) (length ts) (trail_index-le ts x)
  where
    step : (c : Bool) (p n : ℕ) → p ≤ n → cond c 0 (suc p) ≤ suc n
    step true p n h = omega arith
    step false p n h = omega arith

pub trail_index-some : (xs : List Literal) (l : Literal) (b : Bool) → value_of xs l ≡ Some b →
    trail_index xs l.variable < length xs
trail_index-some [] l b has = absurd (cc has)
trail_index-some (t ∷ ts) l b has =
    step (eqb t.variable l.variable) _ (value_of ts l) (trail_index ts l.variable)
    (length ts) (trail_index-some ts l b) has
  where
    step : (c s : Bool) (v : Option Bool) (p n : ℕ) → (v ≡ Some b → p < n) → cond c (Some s) v ≡ Some b →
        cond c 0 (suc p) < suc n
    step true s v p n rest has = omega arith
    step false s v p n rest has = omega (arith, rest has)

pub trail_index-none : (xs : List Literal) (l : Literal) → value_of xs l ≡ None →
    trail_index xs l.variable ≡ length xs
trail_index-none [] l none = refl
trail_index-none (t ∷ ts) l none =
    step (eqb t.variable l.variable) _ (value_of ts l) (trail_index ts l.variable)
    (length ts) (trail_index-none ts l) none
  where
    step : (c s : Bool) (v : Option Bool) (p n : ℕ) → (v ≡ None → p ≡ n) → cond c (Some s) v ≡ None →
        cond c 0 (suc p) ≡ suc n
    step true s v p n rest none = absurd (cc none)
    step false s v p n rest none = ap suc (rest none)

pub value_of-past : (xs : List Literal) (l : Literal) → length xs ≤ trail_index xs l.variable →
    value_of xs l ≡ None
value_of-past [] l past = refl
value_of-past (t ∷ ts) l past = step (eqb t.variable l.variable) _ (value_of ts l) (trail_index ts l.variable)
    (length ts) (value_of-past ts l) past
  where
    step : (c s : Bool) (v : Option Bool) (p n : ℕ) → (n ≤ p → v ≡ None) → suc n ≤ cond c 0 (suc p) →
        cond c (Some s) v ≡ None
    step true s v p n rest h = absurd (omega arith)
    step false s v p n rest h = rest (omega arith)

pub trail_index-append : (xs ys : List Literal) (x : ℕ) → trail_index xs x < length xs →
    trail_index (xs ++ ys) x ≡ trail_index xs x
trail_index-append [] ys x within = absurd (omega arith)
trail_index-append (t ∷ ts) ys x within =
    step (eqb t.variable x) (trail_index ts x) (trail_index (ts ++ ys) x)
    (length ts) (trail_index-append ts ys x) within
  where
    step : (c : Bool) (p q n : ℕ) → (p < n → q ≡ p) → cond c 0 (suc p) < suc n →
        cond c 0 (suc q) ≡ cond c 0 (suc p)
    step true p q n rest h = refl
    step false p q n rest h = ap suc (rest (omega arith))

shorter : (c : Bool) → c ≡ false → (p n : ℕ) → cond c 0 (suc p) < suc n → p < n
shorter true e p n h = absurd (cc e)
shorter false e p n h = omega arith

pub lit_at-place : (xs : List Literal) (x : ℕ) → trail_index xs x < length xs →
    (lit_at xs (trail_index xs x)).variable ≡ x
lit_at-place [] x within = absurd (omega arith)
lit_at-place (t ∷ ts) x within = ⊎_elim
    (λ e. subst (λ (c : Bool). (lit_at (t ∷ ts) (cond c 0 (suc (trail_index ts x)))).variable ≡ x)
    (sym (eq-eqb t.variable x e)) e)
    (λ ne. subst (λ (c : Bool). (lit_at (t ∷ ts) (cond c 0 (suc (trail_index ts x)))).variable ≡ x)
    (sym (ne_eqb t.variable x ne))
    (lit_at-place ts x (shorter (eqb t.variable x) (ne_eqb t.variable x ne) (trail_index ts x)
    (length ts) within)))
    (cases_eq t.variable x)

pub value_of-place : (xs : List Literal) (l : Literal) → trail_index xs l.variable < length xs →
    value_of xs l ≡ Some (same_sign (lit_at xs (trail_index xs l.variable)).negated l.negated)
value_of-place [] l within = absurd (omega arith)
value_of-place (t ∷ ts) l within = ⊎_elim
    (λ e. subst (λ (c : Bool). cond c (Some (same_sign t.negated l.negated)) (value_of ts l) ≡ Some
    (same_sign (lit_at (t ∷ ts) (cond c 0 (suc (trail_index ts l.variable)))).negated l.negated))
    (sym (eq-eqb t.variable l.variable e)) refl)
    (λ ne. subst (λ (c : Bool). cond c (Some (same_sign t.negated l.negated)) (value_of ts l) ≡ Some
    (same_sign (lit_at (t ∷ ts) (cond c 0 (suc (trail_index ts l.variable)))).negated l.negated))
    (sym (ne_eqb t.variable l.variable ne))
    (value_of-place ts l (shorter (eqb t.variable l.variable) (ne_eqb t.variable l.variable ne)
    (trail_index ts l.variable) (length ts) within)))
    (cases_eq t.variable l.variable)

-- the front of a trail
pub value_of-take : (n : ℕ) (xs : List Literal) (l : Literal) → trail_index xs l.variable < n →
    value_of (take n xs) l ≡ value_of xs l
value_of-take zero xs l below = absurd (omega arith)
value_of-take (suc n) [] l below = refl
value_of-take (suc n) (t ∷ ts) l below = step (eqb t.variable l.variable) _ (value_of ts l)
    (value_of (take n ts) l) (trail_index ts l.variable) (value_of-take n ts l) below
  where
    step : (c s : Bool) (v w : Option Bool) (p : ℕ) → (p < n → w ≡ v) → cond c 0 (suc p) < suc n →
        cond c (Some s) w ≡ cond c (Some s) v
    step true s v w p rest h = refl
    step false s v w p rest h = rest (omega arith)

pub value_of-take_none : (n : ℕ) (xs : List Literal) (l : Literal) → n ≤ trail_index xs l.variable →
    value_of (take n xs) l ≡ None
value_of-take_none zero xs l above = refl
value_of-take_none (suc n) [] l above = refl
value_of-take_none (suc n) (t ∷ ts) l above =
    step (eqb t.variable l.variable) _ (value_of (take n ts) l) (trail_index ts l.variable)
    (value_of-take_none n ts l) above
  where
    step : (c s : Bool) (w : Option Bool) (p : ℕ) → (n ≤ p → w ≡ None) → suc n ≤ cond c 0 (suc p) →
        cond c (Some s) w ≡ None
    step true s w p rest h = absurd (omega arith)
    step false s w p rest h = rest (omega arith)

pub trail_index-take : (n : ℕ) (xs : List Literal) (x : ℕ) → trail_index xs x < n → n ≤ length xs →
    trail_index (take n xs) x ≡ trail_index xs x
trail_index-take zero xs x below le = absurd (omega arith)
trail_index-take (suc n) [] x below le = absurd (omega arith)
trail_index-take (suc n) (t ∷ ts) x below le =
    step (eqb t.variable x) (trail_index ts x) (trail_index (take n ts) x)
    (λ h. trail_index-take n ts x h (omega arith)) below
  where
    step : (c : Bool) (p q : ℕ) → (p < n → q ≡ p) → cond c 0 (suc p) < suc n →
        cond c 0 (suc q) ≡ cond c 0 (suc p)
    step true p q rest h = refl
    step false p q rest h = ap suc (rest (omega arith))

-- signs
pub signed-not_same : (t l : Bool) → signed l (not t) ≡ same_sign t l
signed-not_same true true = refl
signed-not_same true false = refl
signed-not_same false true = refl
signed-not_same false false = refl

pub same_sign-not : (s : Bool) → same_sign s (not s) ≡ false
same_sign-not true = refl
same_sign-not false = refl

pub same_sign_false : (s t : Bool) → same_sign s t ≡ false → t ≡ not s
same_sign_false true t e = e
same_sign_false false true e = refl
same_sign_false false false e = absurd (cc e)

-- no literal of the trail has the variable of a literal without a value
pub none_apart : (xs : List Literal) (t : Literal) (p : ℕ) → value_of xs t ≡ None → p < length xs →
    (lit_at xs p).variable ≢ t.variable
none_apart [] t p none within e = absurd (omega arith)
none_apart (x ∷ xs) t zero none within e = first x.variable t.variable (same_sign x.negated t.negated)
    (value_of xs t) e none
  where
    first : (x y : ℕ) (s : Bool) (v : Option Bool) → x ≡ y → cond (eqb x y) (Some s) v ≡ None → ⊥
    first x y s v e none = grind (arith, nat_tests)
none_apart (x ∷ xs) t (suc p) none within e =
    none_apart xs t p (rest (eqb x.variable t.variable) _ (value_of xs t) none) (omega arith) e
  where
    rest : (c s : Bool) (v : Option Bool) → cond c (Some s) v ≡ None → v ≡ None
    rest true s v h = absurd (cc h)
    rest false s v h = h

-- a literal of the trail is true
pub value_of-at : (xs : List Literal) (p : ℕ) → p < length xs → value_of (take p xs) (lit_at xs p) ≡ None →
    value_of xs (lit_at xs p) ≡ Some true
value_of-at xs p within fresh =
    let t : Literal = lit_at xs p in
    let front : value_of (take (p + 1) xs) t ≡ Some (same_sign t.negated t.negated) =
    ap (λ (ys : List Literal). value_of ys t) (take_more xs p no_literal within)
    ∙ value_of-push_here (take p xs) t t fresh refl in
    ap (λ (ys : List Literal). value_of ys t) (sym (take-append-drop (p + 1) xs))
    ∙ (value_of-more (take (p + 1) xs) (drop (p + 1) xs) t _ front ∙ ap (λ s. Some s) (same t.negated))
  where
    same : (s : Bool) → same_sign s s ≡ true
    same true = refl
    same false = refl
