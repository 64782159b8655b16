-- What was made keeps its meaning as words are added.
use Rattle.std.proofs.Common.{Bool, ◌≡◌, ℕ, zero, suc, ◌+◌, ◌<◌, ◌≤◌, ◌==◌, ℤ, pos, true, not, ◌&&◌, cond, Option, Some, None, List, [], ◌∷◌, ◌++◌, map, length, get_or, slice_get, refl, sym, ◌∙◌, ap, subst, arith}
use Rattle.std.proofs.lemmas.Bool.{and_from, and_parts}
use Rattle.std.proofs.lemmas.List.{get_or_append_left, length-append}
use Rattle.std.proofs.lemmas.Option.{slice_get_within, slice_get-get_or, get_or_from_slice_get}
use Rattle.std.specs.List.{list_all}
use Rattle.ba_code.specs.Facts.{Declared}
use Rattle.ba_code.specs.Meaning.{info_at}
use Rattle.ba_guards.specs.Making.{Fits, are_off, fits_exit, is_single, show_types, word_in}
use Rattle.ba_guards.specs.Reading.{arrays_at, elements_where, is_live, left_from, met, places_at, snapshot, snapshot_at, status_at, variables_at, visits}
use Rattle.ba_guards.specs.Reading.Status.{running, left}
use Rattle.ba_guards.specs.declared.builder.Builder.{Builder}
use Rattle.ba_guards.specs.declared.exits.Exit.{Exit}
use Rattle.ba_wordlist.proofs.Choices.{visits-same}
use Rattle.ba_wordlist.proofs.Lengths.{length-elements, lengths-kept}
use Rattle.ba_wordlist.proofs.Values.{SameBelow, elements-kept, met-same, name-more, names-more, of_name, value-same, values-agree}
use Rattle.ba_wordlist.specs.Facts.{are_names, are_typed, are_words, is_name, is_place, is_typed, lengths_of, shows_type}
use Rattle.ba_code_laws.specs.Visits.{Visit}
use Rattle.ba_wordlist.specs.Meaning.{Assignment, are_met, is_nonzero, value_at, values_of, visits_in}
use Rattle.ba_wordlist.specs.declared.words.PlaceWords.{PlaceWords}
use Rattle.ba_wordlist.specs.declared.words.WordOp.{WordOp}
use Rattle.ba_wordlist.specs.declared.words.WordOp.TheVariants.{Const}

-- FUNCTIONS with the same values

pub extensional : {A B : Type 0} {f g : A → B} → ((x : A) → f x ≡ g x) → f ≡ g
extensional h = λ i x. h x i

-- what holds of each holds at a number
pub all-at : {X : Type 0} (p : X → Bool) (xs : List X) (i : ℕ) (x : X) → list_all p xs ≡ true
    → i < length xs → p (get_or xs i x) ≡ true
all-at p [] i x all below = absurd (omega (arith, below))
all-at p (y ∷ ys) zero x all below = (and_parts (p y) (list_all p ys) all).0
all-at p (y ∷ ys) (suc i) x all below =
    all-at p ys i x (and_parts (p y) (list_all p ys) all).1 (omega (arith, below))

-- NAMES

exit-more : (m n v : ℕ) (e : Exit) → m ≤ n → fits_exit m v e ≡ true → fits_exit n v e ≡ true
exit-more m n v e le h =
    let all = and_parts (is_name m e.live && are_names m e.vars) (length e.vars == v) h in
    let two = and_parts (is_name m e.live) (are_names m e.vars) all.0 in
    and_from (is_name n e.live && are_names n e.vars) (length e.vars == v)
    (and_from (is_name n e.live) (are_names n e.vars) (name-more m n e.live le two.0) (names-more m n
    e.vars le two.1)) all.1

pub exits-more : (m n v : ℕ) (es : List Exit) → m ≤ n → list_all (fits_exit m v) es ≡ true
    → list_all (fits_exit n v) es ≡ true
exits-more m n v [] le h = refl
exits-more m n v (e ∷ es) le h =
    let both = and_parts (fits_exit m v e) (list_all (fits_exit m v) es) h in
    and_from (fits_exit n v e) (list_all (fits_exit n v) es) (exit-more m n v e le both.0) (exits-more m n
    v es le both.1)

place-more : (m n : ℕ) (p : PlaceWords) → m ≤ n → is_place m p ≡ true → is_place n p ≡ true
place-more m n p le h =
    let all = and_parts (is_name m p.guard && is_name m p.keep) (are_names m p.values) h in
    let two = and_parts (is_name m p.guard) (is_name m p.keep) all.0 in
    and_from (is_name n p.guard && is_name n p.keep) (are_names n p.values)
    (and_from (is_name n p.guard) (is_name n p.keep) (name-more m n p.guard le two.0) (name-more m n p.keep
    le two.1))
    (names-more m n p.values le all.1)

places-more : (m n : ℕ) (ps : List PlaceWords) → m ≤ n → list_all (is_place m) ps ≡ true
    → list_all (is_place n) ps ≡ true
places-more m n [] le h = refl
places-more m n (p ∷ ps) le h =
    let both = and_parts (is_place m p) (list_all (is_place m) ps) h in
    and_from (is_place n p) (list_all (is_place n) ps) (place-more m n p le both.0) (places-more m n ps le
    both.1)

pub slice-kept : (old more : List WordOp) (k : ℕ) (op : WordOp) → slice_get old k ≡ Some op
    → slice_get (old ++ more) k ≡ Some op
slice-kept old more k op found =
    let within : k < length old = slice_get_within old k op found in
    slice_get-get_or (old ++ more) k op (omega (arith, length-append old more))
    ∙ ap Some (get_or_append_left old more op k within ∙ get_or_from_slice_get old k op op found)

-- an entry that shows its type is there, and stays
shown-more : (old more : List WordOp) (w : ℕ) → shows_type (slice_get old w) ≡ true
    → shows_type (slice_get (old ++ more) w) ≡ true
shown-more old more w h = at (slice_get old w) refl h where
  at : (o : Option WordOp) → slice_get old w ≡ o → shows_type o ≡ true →
      shows_type (slice_get (old ++ more) w) ≡ true
  at None none h = absurd (cc)
  at (Some op) found h = ap shows_type (slice-kept old more w op found) ∙ h

pub shows-more : (old more : List WordOp) (ws : List ℕ) → show_types old ws ≡ true →
    show_types (old ++ more) ws ≡ true
shows-more old more [] h = refl
shows-more old more (w ∷ ws) h =
    let both = and_parts (shows_type (slice_get old w)) (show_types old ws) h in
    and_from (shows_type (slice_get (old ++ more) w)) (show_types (old ++ more) ws) (shown-more old more w
    both.0)
    (shows-more old more ws both.1)

typed-more : (old more : List WordOp) (ps : List PlaceWords) → are_typed old ps ≡ true →
    are_typed (old ++ more) ps ≡ true
typed-more old more [] h = refl
typed-more old more (p ∷ ps) h =
    let both = and_parts (is_typed old p) (are_typed old ps) h in
    and_from (is_typed (old ++ more) p) (are_typed (old ++ more) ps) (shows-more old more p.values both.0)
    (typed-more old more ps both.1)

pub name-at : (n : ℕ) (ws : List ℕ) (k : ℕ) → 0 < n → are_names n ws ≡ true → get_or ws k 0 < n
name-at n [] k some h = some
name-at n (w ∷ ws) zero some h = of_name n w (and_parts (is_name n w) (are_names n ws) h).0
name-at n (w ∷ ws) (suc k) some h = name-at n ws k some (and_parts (is_name n w) (are_names n ws) h).1

pub name-get : (n : ℕ) (ws : List ℕ) (k w : ℕ) → are_names n ws ≡ true → slice_get ws k ≡ Some w → w < n
name-get n ws k w h found = from ws k h found where
  from : (ws : List ℕ) (k : ℕ) → are_names n ws ≡ true → slice_get ws k ≡ Some w → w < n
  from [] k h found = absurd (let f : None ≡ Some w = found in cc)
  from (v ∷ ws) zero h found =
      let e : v ≡ w = cc in
      subst (λ v. v < n) e (of_name n v (and_parts (is_name n v) (are_names n ws) h).0)
  from (v ∷ ws) (suc k) h found = from ws k (and_parts (is_name n v) (are_names n ws) h).1 found

-- READINGS

module _ (n : ℕ) (vs us : List (List ℤ)) (same : SameBelow n vs us) where
  pub variables-same : (ws : List ℕ) → 0 < n → are_names n ws ≡ true → variables_at vs ws ≡ variables_at us ws
  variables-same ws some h = extensional (λ k. value-same n (get_or ws k 0) vs us same (name-at n ws k some
      h))

  elements-same : (o : Option ℕ) → ((w : ℕ) → o ≡ Some w → w < n) → elements_where vs o ≡ elements_where us o
  elements-same None below = refl
  elements-same (Some w) below = same w (below w refl)

  pub arrays-same : (ws : List ℕ) → are_names n ws ≡ true → arrays_at vs ws ≡ arrays_at us ws
  arrays-same ws h = extensional (λ k. elements-same (slice_get ws k) (λ w found. name-get n ws k w h found))

  pub left-same : (v k : ℕ) (es : List Exit) → 0 < n → list_all (fits_exit n v) es ≡ true
      → left_from vs k es ≡ left_from us k es
  left-same v k [] some h = refl
  left-same v k (e ∷ es) some h =
      let both = and_parts (fits_exit n v e) (list_all (fits_exit n v) es) h in
      let all = and_parts (is_name n e.live && are_names n e.vars) (length e.vars == v) both.0 in
      let two = and_parts (is_name n e.live) (are_names n e.vars) all.0 in
      ap (λ z. cond (is_nonzero z) (left k (variables_at vs e.vars)) (left_from vs (k + 1) es))
      (value-same n e.live vs us same (of_name n e.live two.0))
      ∙ ap (λ m. cond (is_nonzero (value_at us e.live)) (left k m) (left_from vs (k + 1) es))
      (variables-same e.vars some two.1)
      ∙ ap (λ rest. cond (is_nonzero (value_at us e.live)) (left k (variables_at us e.vars)) rest)
      (left-same v (k + 1) es some both.1)

  off-same : (v : ℕ) (es : List Exit) → list_all (fits_exit n v) es ≡ true → are_off vs es ≡ are_off us es
  off-same v [] h = refl
  off-same v (e ∷ es) h =
      let both = and_parts (fits_exit n v e) (list_all (fits_exit n v) es) h in
      let all = and_parts (is_name n e.live && are_names n e.vars) (length e.vars == v) both.0 in
      let two = and_parts (is_name n e.live) (are_names n e.vars) all.0 in
      ap (λ z. not (is_nonzero z) && are_off vs es) (value-same n e.live vs us same (of_name n e.live two.0))
      ∙ ap (λ b. not (is_nonzero (value_at us e.live)) && b) (off-same v es both.1)

  pub single-same : (v : ℕ) (es : List Exit) → list_all (fits_exit n v) es ≡ true →
      is_single vs es ≡ is_single us es
  single-same v [] h = refl
  single-same v (e ∷ es) h =
      let both = and_parts (fits_exit n v e) (list_all (fits_exit n v) es) h in
      let all = and_parts (is_name n e.live && are_names n e.vars) (length e.vars == v) both.0 in
      let two = and_parts (is_name n e.live) (are_names n e.vars) all.0 in
      ap (λ z. cond (is_nonzero z) (are_off vs es) (is_single vs es))
      (value-same n e.live vs us same (of_name n e.live two.0))
      ∙ ap (λ b. cond (is_nonzero (value_at us e.live)) b (is_single vs es)) (off-same v es both.1)
      ∙ ap (λ b. cond (is_nonzero (value_at us e.live)) (are_off us es) b) (single-same v es both.1)

module _ (d : Declared) (b : Builder) (fits : Fits d b) (vs : List (List ℤ)) (f : Assignment)
    (same : SameBelow (length b.words) vs (values_of f b.words)) where
  pub live-kept : is_live vs b ≡ is_live (values_of f b.words) b
  live-kept = ap is_nonzero (value-same (length b.words) b.live vs (values_of f b.words) same fits.live)

  pub left-kept : left_from vs 0 b.exits ≡ left_from (values_of f b.words) 0 b.exits
  left-kept = left-same (length b.words) vs (values_of f b.words) same d.vars 0 b.exits
      (omega (arith, fits.live)) fits.exits

  status-kept : status_at vs b ≡ status_at (values_of f b.words) b
  status-kept =
      ap (λ t. cond t (running (variables_at vs b.vars)) (left_from vs 0 b.exits)) live-kept
      ∙ ap (λ m. cond (is_live (values_of f b.words) b) (running m) (left_from vs 0 b.exits))
      (variables-same (length b.words) vs (values_of f b.words) same b.vars (omega (arith, fits.live))
      fits.vars)
      ∙ ap (λ rest. cond (is_live (values_of f b.words) b) (running (variables_at (values_of f b.words)
      b.vars)) rest)
      left-kept

  pub visits-kept : visits_in vs b.places ≡ visits f b
  visits-kept = visits-same (length b.words) b.places vs (values_of f b.words) same fits.places

  pub met-kept : are_met vs b.require ≡ met f b
  met-kept = met-same (length b.words) b.require vs (values_of f b.words) same fits.require

  pub snapshot-kept : snapshot_at vs b ≡ snapshot f b
  snapshot-kept =
      ap (λ s. record { status = s; arrays = arrays_at vs b.arrays; places = places_at vs b }) status-kept
      ∙ ap (λ a. record { status = status_at (values_of f b.words) b; arrays = a; places = places_at vs b })
      (arrays-same (length b.words) vs (values_of f b.words) same b.arrays fits.arrays)
      ∙ ap (λ (l : List Visit). record {
        status = status_at (values_of f b.words) b;
        arrays = arrays_at (values_of f b.words) b.arrays;
        places = map (λ (v : Visit). v.place) l;
      }) visits-kept

pub same-grown : (f : Assignment) (old new more : List WordOp) → new ≡ old ++ more
    → SameBelow (length old) (values_of f new) (values_of f old)
same-grown f old new more grown = subst (λ ws. SameBelow (length old) (values_of f ws) (values_of f old))
    (sym grown)
    (elements-kept f old more)

-- what an entry has, after which there are more
pub word-later : (f : Assignment) (old new more : List WordOp) (w : ℕ) → new ≡ old ++ more → w < length old
    → word_in new w f ≡ word_in old w f
word-later f old new more w grown below =
    value-same (length old) w (values_of f new) (values_of f old) (same-grown f old new more grown) below

pub snapshot-agree : (f g : Assignment) (b : Builder) → ((k : ℕ) → k < length b.words → f k ≡ g k)
    → snapshot f b ≡ snapshot g b
snapshot-agree f g b same = ap (λ vs. snapshot_at vs b) (values-agree f g b.words same)

-- the builder with more words
pub fits-grown : (d : Declared) (b : Builder) (ws more : List WordOp) → Fits d b → ws ≡ b.words ++ more
    → are_words ws ≡ true → Fits d (record b { words = ws })
fits-grown d b ws more fits grown fit =
    let le : length b.words ≤ length ws = omega (arith, ap length grown, length-append b.words more) in
    record {
      words = fit;
      zero = subst (λ ws. slice_get ws 0 ≡ Some (Const (pos 0))) (sym grown) (slice-kept b.words more 0
          (Const (pos 0)) fits.zero);
      one = subst (λ ws. slice_get ws 1 ≡ Some (Const (pos 1))) (sym grown) (slice-kept b.words more 1
          (Const (pos 1)) fits.one);
      live = omega (arith, fits.live);
      vars = names-more (length b.words) (length ws) b.vars le fits.vars;
      var_count = fits.var_count;
      arrays = names-more (length b.words) (length ws) b.arrays le fits.arrays;
      array_count = fits.array_count;
      lengths = λ n within.
          ap (λ ws. get_or (lengths_of ws) (get_or b.arrays n 0) 1) grown
          ∙ lengths-kept b.words more (get_or b.arrays n 0)
          (name-at (length b.words) b.arrays n (omega (arith, fits.live)) fits.arrays)
          ∙ fits.lengths n within;
      exits = exits-more (length b.words) (length ws) d.vars b.exits le fits.exits;
      some_exit = fits.some_exit;
      require = names-more (length b.words) (length ws) b.require le fits.require;
      places = places-more (length b.words) (length ws) b.places le fits.places;
      typed = subst (λ ws. are_typed ws b.places ≡ true) (sym grown) (typed-more b.words more b.places
          fits.typed);
      apart = λ f on.
          let same = same-grown f b.words ws more grown in
          left-kept d b fits (values_of f ws) f same
          ∙ fits.apart f (sym (live-kept d b fits (values_of f ws) f same) ∙ on);
      single = λ f. single-same (length b.words) (values_of f ws) (values_of f b.words)
          (same-grown f b.words ws more grown) d.vars b.exits fits.exits ∙ fits.single f;
      since = fits.since;
      written = fits.written;
    }

-- an array has the length that is declared
pub array-long : (d : Declared) (b : Builder) → Fits d b → (f : Assignment) (n : ℕ) → n < length d.arrays
    → length (arrays_at (values_of f b.words) b.arrays n) ≡ (info_at d.arrays n).len
array-long d b fits f n within =
    let there : n < length b.arrays = omega (arith, within, fits.array_count) in
    let below : get_or b.arrays n 0 < length b.words = name-at (length b.words) b.arrays n (omega (
      arith,
      fits.live,
    )) fits.arrays in
    ap (λ o. length (elements_where (values_of f b.words) o)) (slice_get-get_or b.arrays n 0 there)
    ∙ length-elements f b.words (get_or b.arrays n 0) fits.words below ∙ fits.lengths n within
