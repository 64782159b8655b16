-- From the newest variable of a name to those that it hides: is one of them declared at a depth?
use Rattle.std.proofs.Common.{◌≡◌, ◌⊎◌, inl, inr, ℕ, zero, suc, ◌+◌, ◌<◌, ◌≤◌, Bool, true, false, ◌&&◌, ◌||◌, cond, Option, None, Some, List, [], ◌∷◌, length, take, get_or, refl, sym, ◌∙◌, ap, arith}
use Rattle.std.specs.List.{list_any}
use Rattle.std.proofs.Math.ListN.{get_or-map}
use Rattle.std.proofs.Math.Seq.{take-append_seam}
use Rattle.std.proofs.lemmas.List.{append-nil, length-map}
use Rattle.ba_typing.specs.Names.{is_named, space_of}
use Rattle.ba_scopes.specs.Storage.{AreStored, entries_of, last_number, newest_in, last_number_from}
use Rattle.ba_scopes.specs.declared.number_maps.Newest.{Newest}
use Rattle.ba_typing.specs.declared.meanings.Entry.{Entry}
use Rattle.ba_typing.specs.declared.meanings.Space.{Space}
use Rattle.ba_scopes.specs.declared.scopes.Stored.{Stored}
use Rattle.ba_scopes.proofs.Storing.{named-name, named-space}

-- LISTS

take-less : {A : Type 0} (xs : List A) (i n : ℕ) → i ≤ n → take i (take n xs) ≡ take i xs
take-less [] zero zero le = refl
take-less [] zero (suc n) le = refl
take-less [] (suc i) zero le = refl
take-less [] (suc i) (suc n) le = refl
take-less (x ∷ xs) zero zero le = refl
take-less (x ∷ xs) zero (suc n) le = refl
take-less (x ∷ xs) (suc i) zero le = absurd (let none : ⊥ = omega (arith, le) in none)
take-less (x ∷ xs) (suc i) (suc n) le = ap (λ ys. x ∷ ys) (take-less xs i n (omega (arith, le)))

get-less : {A : Type 0} (xs : List A) (i n : ℕ) (d : A) → i < length (take n xs) → get_or (take n xs) i d ≡
    get_or xs i d
get-less [] i zero d le = refl
get-less [] i (suc n) d le = refl
get-less (x ∷ xs) i zero d le = absurd (let none : ⊥ = omega (arith, le) in none)
get-less (x ∷ xs) zero (suc n) d le = refl
get-less (x ∷ xs) (suc i) (suc n) d le = get-less xs i n d (omega (arith, le))

take-short : {A : Type 0} (xs : List A) (n : ℕ) → (length (take n xs) ≤ n) × (length (take n xs) ≤ length xs)
take-short [] zero = (omega arith, omega arith)
take-short [] (suc n) = (omega arith, omega arith)
take-short (x ∷ xs) zero = (omega arith, omega arith)
take-short (x ∷ xs) (suc n) = let h = take-short xs n in (omega (arith, h.0), omega (arith, h.1))

same-some : (i k : ℕ) → Some i ≡ Some k → i ≡ k
same-some i k e = ap (λ o. elim o as (λ x. ℕ) [ None ↦ i | Some n ↦ n ]) e

or-swap : (a b c : Bool) → (a || (b || c)) ≡ (b || (a || c))
or-swap true true c = refl
or-swap true false c = refl
or-swap false true c = refl
or-swap false false c = refl

-- THE LAST ENTRY OF A NAME, among those that pass a test

module _ (within : Space) (name : List ℕ) (test : Entry → Bool) where
  abbrev mine : Entry → Bool
  mine e = is_named within name e && test e

  record IsLast (i : ℕ) (es : List Entry) (k : ℕ) : Type 0 where
    at : ℕ
    is : k ≡ i + at
    inside : at < length es
    same : (d : Entry) → is_named within name (get_or es at d) ≡ true
    any : (d : Entry) → list_any mine es ≡ (test (get_or es at d) || list_any mine (take at es))

  first-is : (i k : ℕ) (e : Entry) (es : List Entry) (last : Option ℕ) (b : Bool) → is_named within name e ≡ b
      → cond b (Some i) last ≡ Some k → list_any mine es ≡ false
      → ((last ≡ Some k) × (list_any mine (e ∷ es) ≡ false)) ⊎ IsLast i (e ∷ es) k
  first-is i k e es last true same found none =
      let here : i ≡ k = same-some i k found in inr (record {
        at = 0;
        is = omega (arith, here);
        inside = omega arith;
        same = λ d. same;
        any = λ d. ap (λ c. (c && test e) || list_any mine es) same ∙ ap (λ x. test e || x) none;
      })
  first-is i k e es last false same found none =
      inl (found, ap (λ c. (c && test e) || list_any mine es) same ∙ none)

  last-is : (i : ℕ) (es : List Entry) (last : Option ℕ) (k : ℕ) → last_number_from i within name es last ≡
      Some k
      → ((last ≡ Some k) × (list_any mine es ≡ false)) ⊎ IsLast i es k
  last-is i [] last k found = inl (found, refl)
  last-is i (e ∷ es) last k found =
      elim (last-is (i + 1) es (cond (is_named within name e) (Some i) last) k found) [
        | inl h ↦ first-is i k e es last (is_named within name e) refl h.0 h.1
        | inr f ↦ inr (record {
          at = suc f.at;
          is = omega (arith, f.is);
          inside = omega (arith, f.inside);
          same = f.same;
          any = λ d. ap (λ x. mine e || x) (f.any d)
              ∙ or-swap (mine e) (test (get_or es f.at d)) (list_any mine (take f.at es));
        })
      ]

  none-first : (i : ℕ) (e : Entry) (es : List Entry) (last : Option ℕ) (b : Bool) → is_named within name e ≡ b
      → cond b (Some i) last ≡ None → list_any mine es ≡ false → (last ≡ None) × (list_any mine (e ∷ es) ≡
      false)
  none-first i e es last true same found none = absurd (let no_place : ⊥ = cc in no_place)
  none-first i e es last false same found none = (
    found,
    ap (λ c. (c && test e) || list_any mine es) same ∙
        none,
  )

  none-is : (i : ℕ) (es : List Entry) (last : Option ℕ) → last_number_from i within name es last ≡ None
      → (last ≡ None) × (list_any mine es ≡ false)
  none-is i [] last found = (found, refl)
  none-is i (e ∷ es) last found = let h = none-is (i + 1) es (cond (is_named within name e) (Some i) last)
      found in
      none-first i e es last (is_named within name e) refl h.0 h.1

  only-last : (es : List Entry) (k : ℕ) → last_number within name es ≡ Some k → IsLast 0 es k
  only-last es k found = elim (last-is 0 es None k found) [
    | inl h ↦ absurd (let no_place : ⊥ = let e = h.0 in cc in no_place)
    | inr f ↦ f
  ]

-- THE WALK

-- those of the name in the front part are what is left to look at, and decide for all
pub record Hides (es : List Entry) (within : Space) (name : List ℕ) (test : Entry → Bool) (number : Option ℕ)
    (n : ℕ) : Type 0 where
  pub newest : last_number within name (take n es) ≡ number
  pub whole : list_any (λ (e : Entry). is_named within name e && test e) (take n es)
      ≡ list_any (λ (e : Entry). is_named within name e && test e) es

-- how many steps are left at most
abbrev pub steps_left : Option ℕ → ℕ
steps_left None = 0
steps_left (Some i) = i + 1

module _ (es : List Entry) (within : Space) (name : List ℕ) (test : Entry → Bool) where
  pub hides-all : (number : Option ℕ) → number ≡ last_number within name es
      → Hides es within name test number (length es)
  hides-all number is =
      let all : take (length es) es ≡ es
      = ap (take (length es)) (sym (append-nil es)) ∙ take-append_seam es [] in
      record {
        newest = ap (last_number within name) all ∙ sym is;
        whole = ap (list_any (λ (e : Entry). is_named within name e && test e)) all;
      }

  pub hides-none : (n : ℕ) (number : Option ℕ) → number ≡ None → Hides es within name test number n
      → false ≡ list_any (λ (e : Entry). is_named within name e && test e) es
  hides-none n number none h = sym ((none-is within name test 0 (take n es) None (h.newest ∙ none)).1)
      ∙ h.whole

  module _ (n i : ℕ) (number : Option ℕ) (some : number ≡ Some i)
      (h : Hides es within name test number n) where
    last-one : IsLast within name test 0 (take n es) i
    last-one = only-last within name test (take n es) i (h.newest ∙ some)

    pub hides-within : i < length es
    hides-within = let f = last-one in let short = take-short es n in
        omega (arith, f.is, f.inside, short.1)

    here : (e : Entry) → e ≡ get_or es i e → get_or (take n es) last-one.at e ≡ e
    here e is = let f = last-one in let same : f.at ≡ i = omega (arith, f.is) in
        get-less es f.at n e f.inside ∙ ap (λ k. get_or es k e) same ∙ sym is

    any-here : (e : Entry) → e ≡ get_or es i e → (test e || list_any (λ (e : Entry). is_named within name e
        && test e) (take i es))
        ≡ list_any (λ (e : Entry). is_named within name e && test e) es
    any-here e is =
        let f = last-one in
        let same : i ≡ f.at = omega (arith, f.is) in
        let short = take-short es n in
        let less : f.at ≤ n = omega (arith, f.inside, short.0) in
        ap (λ x. test x || list_any (λ (e : Entry). is_named within name e && test e) (take i es)) (sym
        (here e is))
        ∙ ap (λ k. test (get_or (take n es) f.at e) || list_any (λ (e : Entry). is_named within name e &&
        test e) (take k es)) same
        ∙ ap (λ xs. test (get_or (take n es) f.at e) || list_any (λ (e : Entry). is_named within name e &&
        test e) xs)
        (sym (take-less es f.at n less))
        ∙ sym (f.any e) ∙ h.whole

    pub hides-found : (e : Entry) → e ≡ get_or es i e → test e ≡ true
        → true ≡ list_any (λ (e : Entry). is_named within name e && test e) es
    hides-found e is passes =
        ap (λ b. b || list_any (λ (e : Entry). is_named within name e && test e) (take i es)) (sym passes) ∙
        any-here e is

    pub hides-next : (e : Entry) (hidden : Option ℕ) → e ≡ get_or es i e → test e ≡ false
        → hidden ≡ last_number (space_of e.entity) e.name (take i es) → Hides es within name test hidden i
    hides-next e hidden is fails hides =
        let mine = ap (is_named within name) (sym (here e is)) ∙ last-one.same e in
        record {
          newest = ap (λ m. last_number within m (take i es)) (sym (named-name within name e mine))
              ∙ ap (λ s. last_number s e.name (take i es)) (sym (named-space within name e mine)) ∙ sym hides;
          whole = ap (λ b. b || list_any (λ (e : Entry). is_named within name e && test e) (take i es)) (sym
              fails)
              ∙ any-here e is;
        }

  pub hides-falls : (i : ℕ) (number : Option ℕ) → Hides es within name test number i → steps_left number ≤ i
  hides-falls i None h = omega arith
  hides-falls i (Some j) h =
      let f = only-last within name test (take i es) j h.newest in
      let short = take-short es i in
      omega (arith, f.is, f.inside, short.0)

-- WHAT IS STORED

module _ (items : List Stored) (newest : Newest) (es : List Entry) (stored : AreStored items newest)
    (view : entries_of items ≡ es) where
  pub as-long : length items ≡ length es
  as-long = sym (length-map items (λ (s : Stored). s.entry)) ∙ ap length view

  pub hides-first : (within : Space) (name : List ℕ) (test : Entry → Bool) (number : Option ℕ)
      → number ≡ newest_in newest within name
      → Hides es within name test number (length es)
  hides-first within name test number is = hides-all es within name test number
      (is ∙ stored.found within name ∙ ap (last_number within name) view)

  module _ (i : ℕ) (t : Stored) (within : i < length items) (is : t ≡ get_or items i t) where
    pub entry-at : t.entry ≡ get_or es i t.entry
    entry-at = ap (λ (s : Stored). s.entry) is ∙ sym (get_or-map (λ (s : Stored). s.entry) items i t)
        ∙ ap (λ xs. get_or xs i t.entry) view

    pub hidden-at : t.hidden ≡ last_number (space_of t.entry.entity) t.entry.name (take i es)
    hidden-at = ap (λ (s : Stored). s.hidden) is ∙ stored.hides i t within
        ∙ ap (λ (s : Stored). last_number (space_of s.entry.entity) s.entry.name (take i (entries_of items)))
        (sym is)
        ∙ ap (λ xs. last_number (space_of t.entry.entity) t.entry.name (take i xs)) view
