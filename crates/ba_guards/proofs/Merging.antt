-- Variables that are merged one by one.
use Rattle.std.proofs.Common.{◌≡◌, ℕ, ◌+◌, ◌<◌, ◌≤◌, ℤ, Bool, true, false, ◌||◌, cond, List, [], ◌∷◌, ◌++◌, length, drop, get_or, set, refl, sym, ◌∙◌, ap, subst, arith, append_assoc, append-nil, length-append, inl, inr, ◌⊎◌}
use Rattle.std.proofs.lemmas.Bool.{cases_eq, cases_lt, false≢true, ne_eqb}
use Rattle.std.proofs.lemmas.List.{drop_more, get_or-set_other, get_or-set_same, get_or_past, length-set, set_past}
use Rattle.std.specs.Prelude.{slice_set}
use Rattle.ba_guards.proofs.Growing.{extensional, name-at, word-later}
use Rattle.ba_guards.proofs.Leaves.{names-set}
use Rattle.ba_guards.specs.Making.{Emits, Merges, holds_in, word_in}
use Rattle.ba_guards.specs.Reading.{variables_at}
use Rattle.ba_guards.specs.Written.{AgreeBut, is_among}
use Rattle.ba_wordlist.proofs.Values.{names-more}
use Rattle.ba_wordlist.specs.Facts.{are_names, are_words}
use Rattle.ba_wordlist.specs.Meaning.{Assignment, is_nonzero, values_of}
use Rattle.ba_wordlist.specs.declared.words.WordOp.{WordOp}

-- a variable has the one word's value if a condition holds, and else the other's
abbrev pub Chooses : List WordOp → List WordOp → ℕ → List ℕ → List ℕ → List ℕ → ℕ → Type 0
Chooses old new which ys ns cur k = (f : Assignment) → word_in new (get_or cur k 0) f
    ≡ cond (holds_in old which f) (word_in old (get_or ys k 0) f) (word_in old (get_or ns k 0) f)

-- what was merged, except for the rest
pub record Merging (old new : List WordOp) (which : ℕ) (rest ys ns cur : List ℕ) : Type 0 where
  pub more : List WordOp
  pub grown : new ≡ old ++ more
  pub fit : are_words new ≡ true
  pub names : are_names (length new) cur ≡ true
  pub long : length cur ≡ length ns
  pub each : (k : ℕ) → ((is_among k rest ≡ true) × (get_or cur k 0 ≡ get_or ns k 0))
      ⊎ Chooses old new which ys ns cur k

either-same : {X : Type 0} (b : Bool) (x : X) → x ≡ cond b x x
either-same true x = refl
either-same false x = refl

cond-twice : (b : Bool) (x y : ℤ) → cond b x (cond b x y) ≡ cond b x y
cond-twice true x y = refl
cond-twice false x y = refl

pub merging-start : (old : List WordOp) (which : ℕ) (numbers ys ns : List ℕ) → are_words old ≡ true
    → are_names (length old) ns ≡ true → AgreeBut numbers ys ns → Merging old old which numbers ys ns ns
merging-start old which numbers ys ns fit names agree = record {
  more = [];
  grown = sym (append-nil old);
  fit = fit;
  names = names;
  long = refl;
  each = λ k. at k (is_among k numbers) refl;
} where
  at : (k : ℕ) (b : Bool) → is_among k numbers ≡ b
      → ((is_among k numbers ≡ true) × (get_or ns k 0 ≡ get_or ns k 0)) ⊎ Chooses old old which ys ns ns k
  at k true is = inl (is, refl)
  at k false is = inr (λ f.
      either-same (holds_in old which f) (word_in old (get_or ns k 0) f)
      ∙ ap (λ w. cond (holds_in old which f) (word_in old w f) (word_in old (get_or ns k 0) f))
      (sym (agree k is)))

-- one more
module _ (old mid new : List WordOp) (which n w : ℕ) (rest ys ns cur : List ℕ) (below : which < length old)
    (names_yes : are_names (length old) ys ≡ true) (names_no : are_names (length old) ns ≡ true)
    (long : length ys ≡ length ns) (m : Merging old mid which (n ∷ rest) ys ns cur)
    (e : Emits mid new w (λ f. cond (is_nonzero (word_in mid which f)) (word_in mid (get_or ys n 0) f)
    (word_in mid (get_or cur n 0) f))) where
  some : 0 < length old
  some = omega (arith, below)

  le : length old ≤ length mid
  le = omega (arith, ap length m.grown, length-append old m.more)

  some_mid : 0 < length mid
  some_mid = omega (arith, some, le)

  was : (k : ℕ) → k < length old → (f : Assignment) → word_in mid k f ≡ word_in old k f
  was k within f = word-later f old mid m.more k m.grown within

  cur-later : (k : ℕ) (f : Assignment) → word_in new (get_or cur k 0) f ≡ word_in mid (get_or cur k 0) f
  cur-later k f = word-later f mid new e.more (get_or cur k 0) e.grown (name-at (length mid) cur k some_mid
      m.names)

  ys-was : (f : Assignment) → word_in mid (get_or ys n 0) f ≡ word_in old (get_or ys n 0) f
  ys-was f = was (get_or ys n 0) (name-at (length old) ys n some names_yes) f

  abbrev y : Assignment → ℤ
  y f = word_in old (get_or ys n 0) f

  abbrev z : Assignment → ℤ
  z f = word_in old (get_or ns n 0) f

  word-is : (f : Assignment) → word_in new w f ≡ cond (holds_in old which f) (y f) (z f)
  word-is f =
      e.has f
      ∙ ap (λ b. cond (is_nonzero b) (word_in mid (get_or ys n 0) f) (word_in mid (get_or cur n 0) f))
      (was which below f)
      ∙ ap (λ v. cond (holds_in old which f) v (word_in mid (get_or cur n 0) f)) (ys-was f)
      ∙ by (m.each n)
    where
      by : ((is_among n (n ∷ rest) ≡ true) × (get_or cur n 0 ≡ get_or ns n 0))
          ⊎ Chooses old mid which ys ns cur n
          → cond (holds_in old which f) (y f) (word_in mid (get_or cur n 0) f)
          ≡ cond (holds_in old which f) (y f) (z f)
      by (inl same) = ap (λ v. cond (holds_in old which f) (y f) (word_in mid v f)) same.1
          ∙ ap (λ v. cond (holds_in old which f) (y f) v)
          (was (get_or ns n 0) (name-at (length old) ns n some names_no) f)
      by (inr chosen) = ap (λ v. cond (holds_in old which f) (y f) v) (chosen f)
          ∙ cond-twice (holds_in old which f) (y f) (z f)

  here : (n < length cur) ⊎ (length cur ≤ n) → Chooses old new which ys ns (set cur n w) n
  here (inl within) f = ap (λ v. word_in new v f) (get_or-set_same cur n w 0 within) ∙ word-is f
  here (inr past) f =
      let none : (xs : List ℕ) → length xs ≡ length ns → get_or xs n 0 ≡ 0 =
      λ xs same. get_or_past xs n 0 (omega (arith, same, past, m.long)) in
      ap (λ xs. word_in new (get_or xs n 0) f) (set_past cur n w past)
      ∙ ap (λ v. word_in new v f) (none cur m.long)
      ∙ word-later f mid new e.more 0 e.grown some_mid ∙ was 0 some f
      ∙ either-same (holds_in old which f) (word_in old 0 f)
      ∙ ap (λ v. cond (holds_in old which f) (word_in old v f) (word_in old 0 f)) (sym (none ys long))
      ∙ ap (λ v. cond (holds_in old which f) (y f) (word_in old v f)) (sym (none ns refl))

  there : (k : ℕ) → (k ≡ n → ⊥) → ((is_among k (n ∷ rest) ≡ true) × (get_or cur k 0 ≡ get_or ns k 0))
      ⊎ Chooses old mid which ys ns cur k
      → ((is_among k rest ≡ true) × (get_or (set cur n w) k 0 ≡ get_or ns k 0))
      ⊎ Chooses old new which ys ns (set cur n w) k
  there k other (inl same) = inl (
    sym (ap (λ b. b || is_among k rest) (ne_eqb n k (λ e. other (sym e)))) ∙ same.0,
    get_or-set_other cur n k w 0 other ∙ same.1,
  )
  there k other (inr chosen) = inr (λ f.
      ap (λ v. word_in new v f) (get_or-set_other cur n k w 0 other) ∙ cur-later k f ∙ chosen f)

  pub merging-step : Merging old new which rest ys ns (slice_set cur n w)
  merging-step = record {
    more = m.more ++ e.more;
    grown = e.grown ∙ ap (λ ws. ws ++ e.more) m.grown ∙ append_assoc old m.more e.more;
    fit = e.fit;
    names = names-set (length new) cur n w e.name
        (names-more (length mid) (length new) cur (omega (arith, ap length e.grown, length-append mid e.more))
        m.names);
    long = length-set cur n w ∙ m.long;
    each = λ k. at k (cases_eq k n);
  } where
    at : (k : ℕ) → (k ≡ n) ⊎ (k ≡ n → ⊥)
        → ((is_among k rest ≡ true) × (get_or (set cur n w) k 0 ≡ get_or ns k 0))
        ⊎ Chooses old new which ys ns (set cur n w) k
    at k (inl is) = inr (subst (λ k. Chooses old new which ys ns (set cur n w) k) (sym is)
        (here (cases_lt n (length cur))))
    at k (inr other) = there k other (m.each k)

pub merging-at : (old mid new : List WordOp) (which : ℕ) (numbers : List ℕ) (i d w y z : ℕ)
    (ys ns cur next : List ℕ) → which < length old → are_names (length old) ys ≡ true
    → are_names (length old) ns ≡ true → length ys ≡ length ns → i < length numbers
    → Merging old mid which (drop i numbers) ys ns cur → y ≡ get_or ys (get_or numbers i d) 0
    → z ≡ get_or cur (get_or numbers i d) 0
    → (are_words mid ≡ true → which < length mid → y < length mid → z < length mid
    → Emits mid new w (λ f. cond (is_nonzero (word_in mid which f)) (word_in mid y f) (word_in mid z f)))
    → next ≡ slice_set cur (get_or numbers i d) w → Merging old new which (drop (i + 1) numbers) ys ns next
merging-at old mid new which numbers i d w y z ys ns cur next below names_ys names_ns long within m y_is z_is
    emits is =
    let n = get_or numbers i d in
    let le : length old ≤ length mid = omega (arith, ap length m.grown, length-append old m.more) in
    let there : 0 < length mid = omega (arith, below, le) in
    let y_below : get_or ys n 0 < length mid =
    name-at (length mid) ys n there (names-more (length old) (length mid) ys le names_ys) in
    let z_below : get_or cur n 0 < length mid = name-at (length mid) cur n there m.names in
    let e = emits m.fit (omega (arith, below, le)) (subst (λ k. k < length mid) (sym y_is) y_below)
    (subst (λ k. k < length mid) (sym z_is) z_below) in
    subst (Merging old new which (drop (i + 1) numbers) ys ns) (sym is)
    (merging-step old mid new which n w (drop (i + 1) numbers) ys ns cur below names_ys names_ns long
    (subst (λ rest. Merging old mid which rest ys ns cur) (drop_more numbers i d within) m)
    (subst (λ y. Emits mid new w (λ f. cond (is_nonzero (word_in mid which f)) (word_in mid y f)
    (word_in mid (get_or cur n 0) f))) y_is
    (subst (λ z. Emits mid new w (λ f. cond (is_nonzero (word_in mid which f)) (word_in mid y f)
    (word_in mid z f))) z_is e)))

cond-at : (b : Bool) (m n : ℕ → ℤ) (k : ℕ) → cond b (m k) (n k) ≡ cond b m n k
cond-at true m n k = refl
cond-at false m n k = refl

pub merging-end : (old new : List WordOp) (which : ℕ) (ys ns cur : List ℕ)
    → Merging old new which [] ys ns cur → Merges old new (length ns) (holds_in old which) ys ns cur
merging-end old new which ys ns cur m = record {
  more = m.more;
  grown = m.grown;
  fit = m.fit;
  names = m.names;
  long = m.long;
  has = λ f. extensional (λ k. at f k (m.each k)
      ∙ cond-at (holds_in old which f) (variables_at (values_of f old) ys)
      (variables_at (values_of f old) ns) k);
} where
  at : (f : Assignment) (k : ℕ) → ((is_among k [] ≡ true) × (get_or cur k 0 ≡ get_or ns k 0))
      ⊎ Chooses old new which ys ns cur k
      → word_in new (get_or cur k 0) f
      ≡ cond (holds_in old which f) (word_in old (get_or ys k 0) f) (word_in old (get_or ns k 0) f)
  at f k (inl none) = absurd (false≢true none.0)
  at f k (inr chosen) = chosen f
