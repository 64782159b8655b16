-- Words that can be each choice.
use Rattle.std.proofs.Common.{◌≡◌, ℕ, zero, suc, ◌+◌, ◌<◌, ◌≤◌, ◌==◌, ℤ, pos, Bool, true, false, ◌&&◌, ◌||◌, cond, Option, Some, None, option_map, List, [], ◌∷◌, ◌++◌, map, length, slice_get, refl, sym, ◌∙◌, ap, subst, arith, append_assoc, append-nil, length-append}
use Rattle.std.proofs.lemmas.Bool.{and_from, and_parts, eq-eqb, eqb-true, ne_eqb}
use Rattle.std.proofs.lemmas.Bool.Decides.{Decides-int_eq}
use Rattle.std.proofs.lemmas.List.{get_or_at, length_push, map-append}
use Rattle.std.proofs.lemmas.List.Folds.{list_all-append}
use Rattle.std.proofs.lemmas.Option.{slice_get-get_or}
use Rattle.std.specs.List.{list_all}
use Rattle.std.specs.Ordering.{int_eq}
use Rattle.std.specs.Prelude.{slice_set, unsigned_abs}
use Rattle.ba_code.proofs.Ranges.{converted-in}
use Rattle.ba_code.specs.Facts.{Declared, is_array_info, is_take}
use Rattle.ba_code.specs.Meaning.{info_at, taken}
use Rattle.ba_code.specs.State.{CodeState, with_array, with_at, with_variable}
use Rattle.ba_code.specs.declared.nodes.Take.{Take}
use Rattle.ba_code.specs.declared.nodes.Take.TheVariants.{Value, Truth, Cell, Cells, Nothing}
use Rattle.ba_guards.proofs.Emitting.{emits-push}
use Rattle.ba_guards.proofs.Growing.{same-grown, shows-more, word-later}
use Rattle.ba_guards.proofs.Ranges.{free-converted, index-byte}
use Rattle.ba_guards.proofs.Stores.{array-below, few-elements}
use Rattle.ba_guards.specs.Making.{Draws, Drawn, Emits, HasLengths, Offered, Offers, are_of, are_right, holds_in, is_cell, is_one, is_zero_or_one, show_types, values_in, word_in}
use Rattle.ba_numbers.specs.Numbers.{converted, is_in, truth}
use Rattle.ba_numbers.specs.declared.numbers.CType.{CType}
use Rattle.ba_numbers.specs.declared.numbers.CType.TheVariants.{I32, U8}
use Rattle.ba_tree.specs.Choices.{all_elements, no_value, one_element, one_truth, one_value}
use Rattle.ba_tree.specs.Meaning.{elements_with}
use Rattle.ba_tree.specs.State.{is_index}
use Rattle.ba_wordlist.proofs.Lengths.{length-lengths}
use Rattle.ba_wordlist.proofs.Values.{names-more, to_name, values-agree, values-same}
use Rattle.ba_wordlist.specs.Facts.{are_names, are_words, is_name, lengths_of, shows_type}
use Rattle.ba_wordlist.specs.Meaning.{Assignment, is_nonzero, value_at, values_of}
use Rattle.ba_wordlist.specs.declared.words.WordOp.{WordOp}
use Rattle.ba_wordlist.specs.declared.words.WordOp.TheVariants.{Convert, Flag, Free}

-- OTHER ASSIGNMENTS

put-here : (f : Assignment) (n : ℕ) (z : ℤ) → with_at f n z n ≡ z
put-here f n z = ap (λ b. cond b z (f n)) (eq-eqb n n refl)

put-there : (f : Assignment) (n m : ℕ) (z : ℤ) → (m ≡ n → ⊥) → with_at f n z m ≡ f m
put-there f n m z other = ap (λ b. cond b z (f m)) (ne_eqb m n other)

put-below : (f : Assignment) (n : ℕ) (z : ℤ) (k : ℕ) → k < n → f k ≡ with_at f n z k
put-below f n z k below = sym (put-there f n k z (λ e. absurd (omega (arith, below, e))))

truth-nonzero : (b : Bool) → is_nonzero (truth b) ≡ b
truth-nonzero true = refl
truth-nonzero false = refl

-- A FLAG, and words that can be each of some lists of values

longer : (old new more : List WordOp) → new ≡ old ++ more → length old ≤ length new
longer old new more grown = omega (arith, ap length grown, length-append old more)

-- an entry that was just added
shows-last : (old new : List WordOp) (w : ℕ) (op : WordOp) → new ≡ old ++ op ∷ [] → w ≡ length old →
    shows_type (Some op) ≡ true
    → show_types new (w ∷ []) ≡ true
shows-last old new w op grown at shown = ap (λ ws. shows_type (slice_get ws w) && true) grown
    ∙ ap (λ w. shows_type (slice_get (old ++ op ∷ []) w) && true) at
    ∙ ap (λ o. shows_type o && true) (slice_get-get_or (old ++ op ∷ []) (length old) op (omega (
      arith,
      length_push old op,
    ))
    ∙ ap Some (get_or_at old op [] op (length old) refl))
    ∙ ap (λ b. b && true) shown

pub flag-shown : (old new : List WordOp) (w : ℕ) → new ≡ old ++ Flag ∷ [] → w ≡ length old →
    shows_type (slice_get new w) ≡ true
flag-shown old new w grown at = (and_parts (shows_type (slice_get new w)) true (shows-last old new w Flag
    grown at refl)).0

module _ (d : Declared) (take : Take) (old ws0 ws : List WordOp) (keep : ℕ) (values : List ℕ)
    (at : keep ≡ length old) (flag : Emits old ws0 keep (λ f. truth (is_nonzero (f keep))))
    (draws : Draws ws0 ws values (are_right d take)) where
  flag-holds : (f : Assignment) → holds_in ws keep f ≡ is_nonzero (f keep)
  flag-holds f = ap is_nonzero (word-later f ws0 ws draws.more keep draws.grown flag.name ∙ flag.has f)
      ∙ truth-nonzero (is_nonzero (f keep))

  below-old : (k : ℕ) → k < length old → k < keep
  below-old k below = omega (arith, below, at)

  offers-by : ((zs : List ℤ) (c t : CodeState) → HasLengths d c → taken d.arrays take zs c ≡ Some t →
      are_right d take zs ≡ true)
      → Offers d take ws (length old) keep values
  offers-by fits = record {
    keeps = λ f. record {
      by = with_at f keep (pos 1);
      agrees = λ k below. put-below f keep (pos 1) k (below-old k below);
      kept = flag-holds (with_at f keep (pos 1)) ∙ ap is_nonzero (put-here f keep (pos 1));
    };
    takes = λ f zs c t lengths is.
        let g = draws.draws (with_at f keep (pos 0)) zs (fits zs c t lengths is) in
        let le = longer old ws0 flag.more flag.grown in
        record {
          by = g.by;
          agrees = λ k below. put-below f keep (pos 0) k (below-old k below) ∙ g.agrees k (omega (
            arith,
            below,
            le,
          ));
          kept = flag-holds g.by ∙ ap is_nonzero (sym (g.agrees keep flag.name) ∙ put-here f keep (pos 0));
          spells = g.spells;
        };
  }

-- ONE WORD of a type

pub draws-one : (t : CType) (old mid new : List WordOp) (v w : ℕ) → are_words old ≡ true →
    v ≡ length old → mid ≡ old ++ Free ∷ []
    → w ≡ length mid → new ≡ mid ++ Convert t v ∷ [] → Draws old new (w ∷ []) (is_one (is_in t))
draws-one t old mid new v w fit at grown at_last grown_last =
    let free = emits-push old mid v Free (λ f. converted I32 (f v)) at grown fit refl (λ f. ap (λ n.
    converted I32 (f n)) (sym at)) in
    let conv = emits-push mid new w (Convert t v) (λ f. converted t (word_in mid v f)) at_last grown_last
    free.fit
    (to_name (length (lengths_of mid)) v (omega (arith, free.name, length-lengths mid))) (λ f. refl) in
    record {
      more = free.more ++ conv.more;
      grown = conv.grown ∙ ap (λ ws. ws ++ conv.more) free.grown ∙ append_assoc old free.more conv.more;
      fit = conv.fit;
      names = and_from (is_name (length new) w) true (to_name (length new) w conv.name) refl;
      typed = shows-last mid new w (Convert t v) grown_last at_last refl;
      right = λ f. ap (is_in t) (conv.has f) ∙ converted-in t (word_in mid v f);
      draws = λ f zs one. drawn f zs one free conv;
    } where
      drawn : (f : Assignment) (zs : List ℤ) → is_one (is_in t) zs ≡ true →
          Emits old mid v (λ f. converted I32 (f v))
          → Emits mid new w (λ f. converted t (word_in mid v f)) → Drawn new (length old) (w ∷ []) zs f
      drawn f [] one free conv = absurd (cc)
      drawn f (z ∷ []) one free conv = record {
        by = with_at f v z;
        agrees = λ k below. put-below f v z k (omega (arith, below, at));
        spells = ap (λ z. z ∷ [])
            (conv.has (with_at f v z) ∙ ap (converted t) (free.has (with_at f v z)
            ∙ ap (converted I32) (put-here f v z)) ∙ free-converted t z one);
      }
      drawn f (z ∷ y ∷ zs) one free conv = absurd (cc)

truth-own : (z : ℤ) (a b : Bool) → int_eq z (pos 0) ≡ a → int_eq z (pos 1) ≡ b → (a || b) ≡ true →
    truth (is_nonzero z) ≡ z
truth-own z true b ea eb h = ap (λ z. truth (is_nonzero z)) ((Decides-int_eq z (pos 0)).0 ea) ∙ sym
    ((Decides-int_eq z (pos 0)).0 ea)
truth-own z false true ea eb h = ap (λ z. truth (is_nonzero z)) ((Decides-int_eq z (pos 1)).0 eb) ∙ sym
    ((Decides-int_eq z (pos 1)).0 eb)
truth-own z false false ea eb h = absurd (cc)

truth-right : (b : Bool) → is_zero_or_one (truth b) ≡ true
truth-right true = refl
truth-right false = refl

pub draws-truth : (old new : List WordOp) (v : ℕ) → v ≡ length old →
    Emits old new v (λ f. truth (is_nonzero (f v)))
    → shows_type (slice_get new v) ≡ true → Draws old new (v ∷ []) (is_one is_zero_or_one)
draws-truth old new v at flag shown = record {
  more = flag.more;
  grown = flag.grown;
  fit = flag.fit;
  names = and_from (is_name (length new) v) true (to_name (length new) v flag.name) refl;
  typed = and_from (shows_type (slice_get new v)) true shown refl;
  right = λ f. ap is_zero_or_one (flag.has f) ∙ truth-right (is_nonzero (f v));
  draws = λ f zs one. drawn f zs one;
} where
  drawn : (f : Assignment) (zs : List ℤ) → is_one is_zero_or_one zs ≡ true →
      Drawn new (length old) (v ∷ []) zs f
  drawn f [] one = absurd (cc)
  drawn f (z ∷ []) one = record {
    by = with_at f v z;
    agrees = λ k below. put-below f v z k (omega (arith, below, at));
    spells = ap (λ z. z ∷ [])
        (flag.has (with_at f v z) ∙ ap (λ z. truth (is_nonzero z)) (put-here f v z)
        ∙ truth-own z (int_eq z (pos 0)) (int_eq z (pos 1)) refl refl one);
  }
  drawn f (z ∷ y ∷ zs) one = absurd (cc)

pub draws-none : (test : List ℤ → Bool) (ws : List WordOp) → are_words ws ≡ true → test [] ≡ true
    → ((zs : List ℤ) → test zs ≡ true → zs ≡ []) → Draws ws ws [] test
draws-none test ws fit right only = record {
  more = [];
  grown = sym (append-nil ws);
  fit = fit;
  names = refl;
  typed = refl;
  right = λ f. right;
  draws = λ f zs h. record { by = f; agrees = λ k below. refl; spells = sym (only zs h) };
}

no-value : (zs : List ℤ) → (length zs == 0) ≡ true → zs ≡ []
no-value [] h = refl
no-value (z ∷ zs) h = absurd (omega (arith, eqb-true (length (z ∷ zs)) 0 h))

pub draws-nothing : (ws : List WordOp) → are_words ws ≡ true → Draws ws ws [] (λ zs. length zs == 0)
draws-nothing ws fit = draws-none (λ zs. length zs == 0) ws fit refl no-value

-- ONE LIST after another

pub record IsBoth (p q : List ℤ → Bool) (zs : List ℤ) : Type 0 where
  pub first : List ℤ
  pub second : List ℤ
  pub is : zs ≡ first ++ second
  pub fits : p first ≡ true
  pub fits_second : q second ≡ true

module _ (p q test : List ℤ →
    Bool) (old mid new : List WordOp) (vs ws : List ℕ) (first : Draws old mid vs p) (second : Draws mid new
    ws q) where
  both-values : (f : Assignment) → values_in new (vs ++ ws) f ≡ values_in mid vs f ++ values_in new ws f
  both-values f = map-append (value_at (values_of f new)) vs ws
      ∙ ap (λ xs. xs ++ values_in new ws f)
      (values-same (length mid) vs (values_of f new) (values_of f mid) (same-grown f mid new second.more
      second.grown) first.names)

  pub draws-both : ((zs : List ℤ) → test zs ≡ true → IsBoth p q zs)
      → ((xs ys : List ℤ) → p xs ≡ true → q ys ≡ true → test (xs ++ ys) ≡ true) →
      Draws old new (vs ++ ws) test
  draws-both cut joined = record {
    more = first.more ++ second.more;
    grown = second.grown ∙ ap (λ ws. ws ++ second.more) first.grown ∙ append_assoc old first.more second.more;
    fit = second.fit;
    names = list_all-append (is_name (length new)) vs ws
        ∙ and_from (are_names (length new) vs) (are_names (length new) ws)
        (names-more (length mid) (length new) vs (longer mid new second.more second.grown) first.names)
        second.names;
    typed = list_all-append (λ w. shows_type (slice_get new w)) vs ws
        ∙ and_from (show_types new vs) (show_types new ws)
        (subst (λ new. show_types new vs ≡ true) (sym second.grown) (shows-more mid second.more vs
        first.typed)) second.typed;
    right = λ f. ap test (both-values f) ∙ joined (values_in mid vs f) (values_in new ws f) (first.right f)
        (second.right f);
    draws = λ f zs h.
        let both = cut zs h in
        let one = first.draws f both.first both.fits in
        let two = second.draws one.by both.second both.fits_second in
        let le = longer old mid first.more first.grown in
        record {
          by = two.by;
          agrees = λ k below. one.agrees k below ∙ two.agrees k (omega (arith, below, le));
          spells = both-values two.by
              ∙ ap (λ xs. xs ++ values_in new ws two.by)
              (ap (λ us. map (value_at us) vs) (sym (values-agree one.by two.by mid two.agrees)) ∙ one.spells)
              ∙ ap (λ ys. both.first ++ ys) two.spells ∙ sym both.is;
        };
  }

-- AN INDEX AND A VALUE

cut-cell : (t : CType) (zs : List ℤ) → is_cell t zs ≡ true → IsBoth (is_one (is_in U8)) (is_one (is_in t)) zs
cut-cell t [] h = absurd (cc)
cut-cell t (i ∷ []) h = absurd (cc)
cut-cell t (i ∷ z ∷ []) h =
    let both = and_parts (is_in U8 i) (is_in t z) h in
    record { first = i ∷ []; second = z ∷ []; is = refl; fits = both.0; fits_second = both.1 }
cut-cell t (i ∷ z ∷ y ∷ zs) h = absurd (cc)

joined-cell : (t : CType) (xs ys : List ℤ) → is_one (is_in U8) xs ≡ true → is_one (is_in t) ys ≡ true →
    is_cell t (xs ++ ys) ≡ true
joined-cell t [] ys h k = absurd (cc)
joined-cell t (i ∷ []) [] h k = absurd (cc)
joined-cell t (i ∷ []) (z ∷ []) h k = and_from (is_in U8 i) (is_in t z) h k
joined-cell t (i ∷ []) (z ∷ y ∷ ys) h k = absurd (cc)
joined-cell t (i ∷ x ∷ xs) ys h k = absurd (cc)

pub draws-cell : (t : CType) (old mid new : List WordOp) (i w : ℕ) →
    Draws old mid (i ∷ []) (is_one (is_in U8))
    → Draws mid new (w ∷ []) (is_one (is_in t)) → Draws old new (i ∷ w ∷ []) (is_cell t)
draws-cell t old mid new i w first second = draws-both (is_one (is_in U8)) (is_one (is_in t)) (is_cell t)
    old mid new (i ∷ []) (w ∷ [])
    first second (cut-cell t) (joined-cell t)

-- SO MANY VALUES of a type

pub several-none : (t : CType) (ws : List WordOp) → are_words ws ≡ true → Draws ws ws [] (are_of t 0)
several-none t ws fit = draws-none (are_of t 0) ws fit refl
    (λ zs h. no-value zs (and_parts (length zs == 0) (list_all (is_in t) zs) h).0)

abbrev are_last : CType → ℕ → List ℤ → Type 0
are_last t n zs = IsBoth (are_of t n) (is_one (is_in t)) zs

of-parts : (t : CType) (n : ℕ) (zs : List ℤ) → are_of t n zs ≡ true →
    (length zs ≡ n) × (list_all (is_in t) zs ≡ true)
of-parts t n zs h =
    let both = and_parts (length zs == n) (list_all (is_in t) zs) h in (eqb-true (length zs) n both.0, both.1)

of-from : (t : CType) (n : ℕ) (zs : List ℤ) → length zs ≡ n → list_all (is_in t) zs ≡ true →
    are_of t n zs ≡ true
of-from t n zs long all = and_from (length zs == n) (list_all (is_in t) zs) (eq-eqb (length zs) n long) all

cut-last : (t : CType) (n : ℕ) (zs : List ℤ) → length zs ≡ suc n → list_all (is_in t) zs ≡ true →
    are_last t n zs
cut-last t n [] long all = absurd (omega (arith, long))
cut-last t zero (z ∷ []) long all = record {
  first = [];
  second = z ∷ [];
  is = refl;
  fits = refl;
  fits_second = (and_parts (is_in t z) true all).0;
}
cut-last t zero (z ∷ y ∷ zs) long all = absurd (omega (arith, long))
cut-last t (suc n) (z ∷ zs) long all =
    let both = and_parts (is_in t z) (list_all (is_in t) zs) all in
    let rest = cut-last t n zs (omega (arith, long)) both.1 in
    let parts = of-parts t n rest.first rest.fits in
    record {
      first = z ∷ rest.first;
      second = rest.second;
      is = ap (λ ys. z ∷ ys) rest.is;
      fits = of-from t (suc n) (z ∷ rest.first) (ap suc parts.0) (and_from (is_in t z) (list_all (is_in t)
          rest.first) both.0 parts.1);
      fits_second = rest.fits_second;
    }

joined-last : (t : CType) (n : ℕ) (xs ys : List ℤ) → are_of t n xs ≡ true → is_one (is_in t) ys ≡ true →
    are_of t (n + 1) (xs ++ ys) ≡ true
joined-last t n xs [] h k = absurd (cc)
joined-last t n xs (y ∷ []) h k =
    let parts = of-parts t n xs h in
    of-from t (n + 1) (xs ++ y ∷ []) (omega (arith, parts.0, length-append xs (y ∷ [])))
    (list_all-append (is_in t) xs (y ∷ [])
    ∙ and_from (list_all (is_in t) xs) (list_all (is_in t) (y ∷ [])) parts.1 (and_from (is_in t y) true k
    refl))
joined-last t n xs (y ∷ z ∷ ys) h k = absurd (cc)

pub several-more : (t : CType) (n : ℕ) (old mid new : List WordOp) (vs : List ℕ) (w : ℕ) →
    Draws old mid vs (are_of t n)
    → Draws mid new (w ∷ []) (is_one (is_in t)) → Draws old new (vs ++ w ∷ []) (are_of t (n + 1))
several-more t n old mid new vs w first second = draws-both (are_of t n) (is_one (is_in t)) (are_of t (n +
    1)) old mid new vs (w ∷ [])
    first second
    (λ zs h. let parts = of-parts t (n + 1) zs h in cut-last t n zs (omega (arith, parts.0)) parts.1)
    (joined-last t n)

-- WHAT IS TAKEN is right

one-fits : (b : Bool) (z y : ℤ) → cond b (Some z) None ≡ Some y → b ≡ true
one-fits true z y is = refl
one-fits false z y is = absurd (let f : None ≡ Some y = is in cc)

mapped : {A : Type 0} (o : Option A) (h : A → CodeState) (t : CodeState) → option_map h o ≡ Some t →
    (a : A) × (o ≡ Some a)
mapped None h t is = absurd (let f : None ≡ Some t = is in cc)
mapped (Some a) h t is = (a, refl)

value-fits : (t : CType) (zs : List ℤ) (y : ℤ) → one_value t zs ≡ Some y → is_one (is_in t) zs ≡ true
value-fits t [] y is = absurd (let f : None ≡ Some y = is in cc)
value-fits t (z ∷ []) y is = one-fits (is_in t z) z y is
value-fits t (z ∷ x ∷ zs) y is = absurd (let f : None ≡ Some y = is in cc)

truth-fits : (zs : List ℤ) (y : ℤ) → one_truth zs ≡ Some y → is_one is_zero_or_one zs ≡ true
truth-fits [] y is = absurd (let f : None ≡ Some y = is in cc)
truth-fits (z ∷ []) y is = one-fits (is_zero_or_one z) z y is
truth-fits (z ∷ x ∷ zs) y is = absurd (let f : None ≡ Some y = is in cc)

pair-fits : (a b : Bool) (i z : ℤ) (q : ℤ × ℤ) → cond (a && b) (Some (i, z)) None ≡ Some q →
    (a ≡ true) × (b ≡ true)
pair-fits true true i z q is = (refl, refl)
pair-fits true false i z q is = absurd (let f : None ≡ Some q = is in cc)
pair-fits false b i z q is = absurd (let f : None ≡ Some q = is in cc)

cell-fits : (t : CType) (count : ℕ) (zs : List ℤ) (q : ℤ × ℤ) → count ≤ 256 →
    one_element t count zs ≡ Some q → is_cell t zs ≡ true
cell-fits t count [] q few is = absurd (let f : None ≡ Some q = is in cc)
cell-fits t count (i ∷ []) q few is = absurd (let f : None ≡ Some q = is in cc)
cell-fits t count (i ∷ z ∷ []) q few is =
    let both = pair-fits (is_index count i) (is_in t z) i z q is in
    and_from (is_in U8 i) (is_in t z) (index-byte count i both.0 few) both.1
cell-fits t count (i ∷ z ∷ y ∷ zs) q few is = absurd (let f : None ≡ Some q = is in cc)

cells-fit : (t : CType) (count : ℕ) (zs ys : List ℤ) → all_elements t count zs ≡ Some ys →
    are_of t count zs ≡ true
cells-fit t count zs ys is = by (length zs == count) (list_all (is_in t) zs) refl refl is where
  by : (a b : Bool) → (length zs == count) ≡ a → list_all (is_in t) zs ≡ b →
      cond (a && b) (Some zs) None ≡ Some ys
      → are_of t count zs ≡ true
  by true true ea eb is = and_from (length zs == count) (list_all (is_in t) zs) ea eb
  by true false ea eb is = absurd (let f : None ≡ Some ys = is in cc)
  by false b ea eb is = absurd (let f : None ≡ Some ys = is in cc)

nothing-fits : (zs : List ℤ) (c t : CodeState) → option_map (λ z. c) (no_value zs) ≡ Some t →
    (length zs == 0) ≡ true
nothing-fits [] c t is = refl
nothing-fits (z ∷ zs) c t is = absurd (let f : None ≡ Some t = is in cc)

taken-right : (d : Declared) (take : Take) (zs : List ℤ) (c t : CodeState) →
    list_all is_array_info d.arrays ≡ true
    → is_take d take ≡ true → HasLengths d c → taken d.arrays take zs c ≡ Some t → are_right d take zs ≡ true
taken-right d (Value to ty) zs c t infos fit lengths is =
    let m = mapped (one_value ty zs) (λ z. with_variable to z c) t is in value-fits ty zs m.0 m.1
taken-right d (Truth to) zs c t infos fit lengths is =
    let m = mapped (one_truth zs) (λ z. with_variable to z c) t is in truth-fits zs m.0 m.1
taken-right d (Cell array) zs c t infos fit lengths is =
    let there = array-below d array fit in
    let few = few-elements d.arrays array infos there in
    let m = mapped (one_element (info_at d.arrays array).t (length (c.arrays array)) zs)
    (λ (cell : ℤ × ℤ). with_array array (slice_set (c.arrays array) (unsigned_abs cell.0) cell.1) c) t is in
    cell-fits (info_at d.arrays array).t (length (c.arrays array)) zs m.0 (omega (
      arith,
      few,
      lengths.long
          array there,
    )) m.1
taken-right d (Cells array) zs c t infos fit lengths is =
    let m = mapped (all_elements (info_at d.arrays array).t (length (c.arrays array)) zs)
    (λ zs. with_array array (elements_with (length (c.arrays array)) zs) c) t is in
    subst (λ n. are_of (info_at d.arrays array).t n zs ≡ true) (lengths.long array (array-below d array fit))
    (cells-fit (info_at d.arrays array).t (length (c.arrays array)) zs m.0 m.1)
taken-right d Nothing zs c t infos fit lengths is = nothing-fits zs c t is

-- THE OFFER

pub offered-by : (d : Declared) (take : Take) (old ws0 ws : List WordOp) (keep : ℕ) (values : List ℕ)
    → list_all is_array_info d.arrays ≡ true → is_take d take ≡ true → keep ≡ length old
    → Emits old ws0 keep (λ f. truth (is_nonzero (f keep))) → Draws ws0 ws values (are_right d take)
    → Offered d take old ws keep values
offered-by d take old ws0 ws keep values infos fit at flag draws = record {
  more = flag.more ++ draws.more;
  grown = draws.grown ∙ ap (λ w. w ++ draws.more) flag.grown ∙ append_assoc old flag.more draws.more;
  fit = draws.fit;
  name = omega (arith, flag.name, longer ws0 ws draws.more draws.grown);
  names = draws.names;
  typed = draws.typed;
  offers = offers-by d take old ws0 ws keep values at flag draws (λ zs c t lengths is. taken-right d take
      zs c t infos fit lengths is);
  right = draws.right;
}
