-- Nodes without parts: a variable, an array, a requirement.
use Rattle.std.proofs.Common.{◌≡◌, ℕ, zero, suc, ◌<◌, ◌==◌, ℤ, Bool, true, false, cond, Some, List, [], ◌∷◌, length, get_or, slice_get, refl, sym, ◌∙◌, ap, arith, append-nil, inl, inr, ◌⊎◌, ◌++◌}
use Rattle.std.proofs.lemmas.Bool.{and_from, and_parts, cases_eq, eq-eqb, ne_eqb}
use Rattle.std.proofs.lemmas.List.{get_or-set_same, get_or-set_other, length-set}
use Rattle.std.specs.Prelude.{slice_set}
use Rattle.std.proofs.Math.Bool.{and-true}
use Rattle.ba_choices.specs.declared.Choice.{Choice}
use Rattle.ba_code.specs.Facts.{Declared}
use Rattle.ba_code.specs.Meaning.{info_at}
use Rattle.ba_code.specs.State.{CodeState, set_array, set_variable, with_at}
use Rattle.ba_code_laws.specs.Tracing.{TracedExecution, untraced}
use Rattle.ba_guards.proofs.Going.{Steady, is_running, means-steady, resting, traced_of}
use Rattle.ba_guards.proofs.Growing.{extensional}
use Rattle.ba_guards.proofs.Going.{left-resting}
use Rattle.ba_guards.proofs.Writing.{agree-set, since-writes, writes-none}
use Rattle.ba_guards.specs.Written.{AreSince, frames_of}
use Rattle.ba_guards.specs.Continuing.{after_end, continued, ended, labels_of}
use Rattle.ba_guards.specs.Making.{Demands, checked_by, Fits, Means, Writes, checked, elements_in, word_in}
use Rattle.ba_guards.specs.Reading.{Status, arrays_at, elements_where, is_live, left_from, met, places_at, variables_at}
use Rattle.ba_guards.specs.Reading.Status.{running}
use Rattle.ba_guards.specs.declared.builder.Builder.{Builder}
use Rattle.ba_tree.specs.declared.run.Halt.{Halt}
use Rattle.ba_tree.specs.declared.run.Place.{Place}
use Rattle.ba_wordlist.specs.Facts.{are_names, is_name, lengths_of}
use Rattle.ba_wordlist.specs.Meaning.{Assignment, elements_at, is_nonzero, value_at, values_of}
use Rattle.ba_wordlist.proofs.Values.{to_name}

-- LISTS OF NAMES with another name at a number

pub names-set : (n : ℕ) (ws : List ℕ) (k w : ℕ) → w < n → are_names n ws ≡ true →
    are_names n (slice_set ws k w) ≡ true
names-set n [] k w below h = refl
names-set n (v ∷ ws) zero w below h =
    and_from (is_name n w) (are_names n ws) (to_name n w below) (and_parts (is_name n v) (are_names n ws) h).1
names-set n (v ∷ ws) (suc k) w below h =
    let both = and_parts (is_name n v) (are_names n ws) h in
    and_from (is_name n v) (are_names n (slice_set ws k w)) both.0 (names-set n ws k w below both.1)

get-set-same : (ws : List ℕ) (k w : ℕ) → k < length ws → slice_get (slice_set ws k w) k ≡ Some w
get-set-same [] k w within = absurd (omega (arith, within))
get-set-same (v ∷ ws) zero w within = refl
get-set-same (v ∷ ws) (suc k) w within = get-set-same ws k w (omega (arith, within))

get-set-other : (ws : List ℕ) (k m w : ℕ) → (m ≡ k → ⊥) → slice_get (slice_set ws k w) m ≡ slice_get ws m
get-set-other [] k m w other = refl
get-set-other (v ∷ ws) zero zero w other = absurd (other refl)
get-set-other (v ∷ ws) zero (suc m) w other = refl
get-set-other (v ∷ ws) (suc k) zero w other = refl
get-set-other (v ∷ ws) (suc k) (suc m) w other = get-set-other ws k m w (λ e. other (ap suc e))

pub variables-set : (vs : List (List ℤ)) (ws : List ℕ) (k w : ℕ) → k < length ws
    → variables_at vs (slice_set ws k w) ≡ with_at (variables_at vs ws) k (value_at vs w)
variables-set vs ws k w within = extensional (λ m. at m (cases_eq m k)) where
  at : (m : ℕ) → (m ≡ k) ⊎ (m ≡ k → ⊥)
      → value_at vs (get_or (slice_set ws k w) m 0) ≡ cond (m == k) (value_at vs w) (value_at vs (get_or ws
      m 0))
  at m (inl e) =
      ap (λ m. value_at vs (get_or (slice_set ws k w) m 0)) e
      ∙ ap (value_at vs) (get_or-set_same ws k w 0 within)
      ∙ sym (ap (λ b. cond b (value_at vs w) (value_at vs (get_or ws m 0))) (eq-eqb m k e))
  at m (inr other) =
      ap (value_at vs) (get_or-set_other ws k m w 0 other)
      ∙ sym (ap (λ b. cond b (value_at vs w) (value_at vs (get_or ws m 0))) (ne_eqb m k other))

pub arrays-set : (vs : List (List ℤ)) (ws : List ℕ) (k w : ℕ) → k < length ws
    → arrays_at vs (slice_set ws k w) ≡ with_at (arrays_at vs ws) k (elements_at vs w)
arrays-set vs ws k w within = extensional (λ m. at m (cases_eq m k)) where
  at : (m : ℕ) → (m ≡ k) ⊎ (m ≡ k → ⊥)
      → elements_where vs (slice_get (slice_set ws k w) m)
      ≡ cond (m == k) (elements_at vs w) (elements_where vs (slice_get ws m))
  at m (inl e) =
      ap (λ m. elements_where vs (slice_get (slice_set ws k w) m)) e
      ∙ ap (elements_where vs) (get-set-same ws k w within)
      ∙ sym (ap (λ b. cond b (elements_at vs w) (elements_where vs (slice_get ws m))) (eq-eqb m k e))
  at m (inr other) =
      ap (elements_where vs) (get-set-other ws k m w other)
      ∙ sym (ap (λ b. cond b (elements_at vs w) (elements_where vs (slice_get ws m))) (ne_eqb m k other))

-- an array that is as it was
arrays-unset : (vs : List (List ℤ)) (ws : List ℕ) (k w : ℕ) → k < length ws
    → elements_at vs w ≡ elements_where vs (slice_get ws k) →
    arrays_at vs (slice_set ws k w) ≡ arrays_at vs ws
arrays-unset vs ws k w within same = extensional (λ m. at m (cases_eq m k)) where
  at : (m : ℕ) → (m ≡ k) ⊎ (m ≡ k → ⊥)
      → elements_where vs (slice_get (slice_set ws k w) m) ≡ elements_where vs (slice_get ws m)
  at m (inl e) =
      ap (λ m. elements_where vs (slice_get (slice_set ws k w) m)) e
      ∙ ap (elements_where vs) (get-set-same ws k w within)
      ∙ same ∙ ap (λ m. elements_where vs (slice_get ws m)) (sym e)
  at m (inr other) = ap (elements_where vs) (get-set-other ws k m w other)

-- GOING ON

-- a part that goes on if the run comes to it
pub leaf-runs : (labels : List ℕ) (part : TracedExecution) (on : Bool) (m m' : ℕ → ℤ) (rest : Status)
    (arrays arrays' : ℕ → List ℤ) (places : List Place) (cs : List Choice) → is_running rest ≡ false
    → (on ≡ true → after_end labels (part (record {
      code = record { variables = m; arrays = arrays; choices = cs };
      places = places;
    })) ≡ Some (record { status = running m'; arrays = arrays'; places = places }, cs))
    → (on ≡ false → arrays' ≡ arrays)
    → continued labels part (record {
      status = cond on (running m) rest;
      arrays = arrays;
      places = places;
    }) cs
    ≡ Some (record { status = cond on (running m') rest; arrays = arrays'; places = places }, cs)
leaf-runs labels part true m m' rest arrays arrays' places cs off runs same = runs refl
leaf-runs labels part false m m' rest arrays arrays' places cs off runs same =
    resting labels part (record { status = rest; arrays = arrays; places = places }) cs off
    ∙ ap (λ a. Some (record { status = rest; arrays = a; places = places }, cs)) (sym (same refl))

-- FACTS of the builder with one part changed

pub fits-vars : (d : Declared) (b : Builder) (vars written : List ℕ) → Fits d b →
    are_names (length b.words) vars ≡ true
    → length vars ≡ d.vars → AreSince written vars (frames_of b.exits)
    → Fits d (record b { vars = vars; written = written })
fits-vars d b vars written fits names count since = record {
  words = fits.words;
  zero = fits.zero;
  one = fits.one;
  live = fits.live;
  vars = names;
  var_count = count;
  arrays = fits.arrays;
  array_count = fits.array_count;
  lengths = fits.lengths;
  exits = fits.exits;
  some_exit = fits.some_exit;
  require = fits.require;
  places = fits.places;
  typed = fits.typed;
  apart = fits.apart;
  single = fits.single;
  since = since;
  written = fits.written;
}

pub fits-arrays : (d : Declared) (b : Builder) (arrays : List ℕ) → Fits d b →
    are_names (length b.words) arrays ≡ true
    → length arrays ≡ length d.arrays
    → ((n : ℕ) → n < length d.arrays →
    get_or (lengths_of b.words) (get_or arrays n 0) 1 ≡ (info_at d.arrays n).len)
    → Fits d (record b { arrays = arrays })
fits-arrays d b arrays fits names count lengths = record {
  words = fits.words;
  zero = fits.zero;
  one = fits.one;
  live = fits.live;
  vars = fits.vars;
  var_count = fits.var_count;
  arrays = names;
  array_count = count;
  lengths = lengths;
  exits = fits.exits;
  some_exit = fits.some_exit;
  require = fits.require;
  places = fits.places;
  typed = fits.typed;
  apart = fits.apart;
  single = fits.single;
  since = fits.since;
  written = fits.written;
}

pub fits-require : (d : Declared) (b : Builder) (require : List ℕ) → Fits d b
    → are_names (length b.words) require ≡ true → Fits d (record b { require = require })
fits-require d b require fits names = record {
  words = fits.words;
  zero = fits.zero;
  one = fits.one;
  live = fits.live;
  vars = fits.vars;
  var_count = fits.var_count;
  arrays = fits.arrays;
  array_count = fits.array_count;
  lengths = fits.lengths;
  exits = fits.exits;
  some_exit = fits.some_exit;
  require = names;
  places = fits.places;
  typed = fits.typed;
  apart = fits.apart;
  single = fits.single;
  since = fits.since;
  written = fits.written;
}

-- A VARIABLE gets a word

module _ (d : Declared) (b : Builder) (fits : Fits d b) (to : ℕ) (value : Assignment → CodeState →
    ℤ) (w : ℕ) (there : to < d.vars)
    (name : w < length b.words)
    (same : (f : Assignment) (cs : List Choice) → value f (traced_of f b cs).code ≡ word_in b.words w f) where
  abbrev pub assigned : Builder
  assigned = record b { vars = slice_set b.vars to w; written = b.written ++ to ∷ [] }

  assigned-writes : Writes b assigned
  assigned-writes = record {
    set = to ∷ [];
    written = refl;
    kept = agree-set b.vars to w;
    frames = refl;
  }

  assigned-steady : Steady d (λ f r. untraced (λ c. set_variable to (value f c) c)) b assigned (λ f. true)
  assigned-steady = record {
    extends = record {
      more = [];
      words = sym (append-nil b.words);
      labels = refl;
      writes = assigned-writes;
    };
    fits = fits-vars d b (slice_set b.vars to w) (b.written ++ to ∷ []) fits
        (names-set (length b.words) b.vars to w name fits.vars)
        (length-set b.vars to w ∙ fits.var_count)
        (since-writes b assigned assigned-writes fits.since);
    logs = λ f. refl;
    keeps = λ f. sym (and-true (met f b));
    runs = λ r f cs.
        let vs = values_of f b.words in
        leaf-runs (labels_of b.exits) (untraced (λ c. set_variable to (value f c) c)) (is_live vs b)
        (variables_at vs b.vars) (variables_at vs (slice_set b.vars to w)) (left_from vs 0 b.exits)
        (arrays_at vs b.arrays) (arrays_at vs b.arrays) (places_at vs b) cs (left-resting vs 0 b.exits)
        (λ on. ap (λ m. Some (
          record {
            status = running m;
            arrays = arrays_at vs b.arrays;
            places =
                places_at vs b;
          },
          cs,
        ))
        (ap (with_at (variables_at vs b.vars) to) (same f cs)
        ∙ sym (variables-set vs b.vars to w (omega (arith, there, fits.var_count)))))
        (λ off. refl);
  }

  pub assign-means : Means d (λ f r. untraced (λ c. set_variable to (value f c) c)) b assigned
  assign-means = means-steady d (λ f r. untraced (λ c. set_variable to (value f c) c)) b assigned (λ f.
      true) assigned-steady

-- AN ARRAY gets elements, if the run comes to it

module _ (d : Declared) (b : Builder) (fits : Fits d b) (array : ℕ) (elements : Assignment → CodeState →
    List ℤ) (w : ℕ)
    (there : array < length d.arrays) (name : w < length b.words)
    (long : get_or (lengths_of b.words) w 1 ≡ (info_at d.arrays array).len)
    (same : (f : Assignment) (cs : List Choice) → is_live (values_of f b.words) b ≡ true
    → elements f (traced_of f b cs).code ≡ elements_in b.words w f)
    (kept : (f : Assignment) → is_live (values_of f b.words) b ≡ false
    → elements_in b.words w f ≡ arrays_at (values_of f b.words) b.arrays array) where
  abbrev pub stored : Builder
  stored = record b { arrays = slice_set b.arrays array w }

  stored-length : (n : ℕ) → (n ≡ array) ⊎ (n ≡ array → ⊥) → n < length d.arrays
      → get_or (lengths_of b.words) (get_or (slice_set b.arrays array w) n 0) 1 ≡ (info_at d.arrays n).len
  stored-length n (inl e) within =
      ap (λ n. get_or (lengths_of b.words) (get_or (slice_set b.arrays array w) n 0) 1) e
      ∙ ap (λ v. get_or (lengths_of b.words) v 1)
      (get_or-set_same b.arrays array w 0 (omega (arith, there, fits.array_count)))
      ∙ long ∙ ap (λ n. (info_at d.arrays n).len) (sym e)
  stored-length n (inr other) within =
      ap (λ v. get_or (lengths_of b.words) v 1) (get_or-set_other b.arrays array n w 0 other) ∙
      fits.lengths n within

  stored-steady : Steady d (λ f r. untraced (λ c. set_array array (elements f c) c)) b stored (λ f. true)
  stored-steady = record {
    extends = record {
      more = [];
      words = sym (append-nil b.words);
      labels = refl;
      writes = writes-none b stored refl refl refl;
    };
    fits = fits-arrays d b (slice_set b.arrays array w) fits (names-set (length b.words) b.arrays array w
        name fits.arrays)
        (length-set b.arrays array w ∙ fits.array_count) (λ n. stored-length n (cases_eq n array));
    logs = λ f. refl;
    keeps = λ f. sym (and-true (met f b));
    runs = λ r f cs.
        let vs = values_of f b.words in
        let within : array < length b.arrays = omega (arith, there, fits.array_count) in
        leaf-runs (labels_of b.exits) (untraced (λ c. set_array array (elements f c) c)) (is_live vs b)
        (variables_at vs b.vars) (variables_at vs b.vars) (left_from vs 0 b.exits)
        (arrays_at vs b.arrays) (arrays_at vs (slice_set b.arrays array w)) (places_at vs b) cs
        (left-resting vs 0 b.exits)
        (λ on. ap (λ a. Some (
          record {
            status = running (variables_at vs b.vars);
            arrays = a;
            places =
                places_at vs b;
          },
          cs,
        ))
        (ap (with_at (arrays_at vs b.arrays) array) (same f cs on) ∙ sym (arrays-set vs b.arrays array w
        within)))
        (λ off. arrays-unset vs b.arrays array w within (kept f off));
  }

  pub store-means : Means d (λ f r. untraced (λ c. set_array array (elements f c) c)) b stored
  store-means = means-steady d (λ f r. untraced (λ c. set_array array (elements f c) c)) b stored (λ f.
      true) stored-steady

-- A REQUIREMENT, if the run comes to it

module _ (d : Declared) (b : Builder) (fits : Fits d b) (value : Assignment → ℤ) (new : Builder)
    (asks : Demands d b new value) (test : Assignment → CodeState → Bool) (h : Halt)
    (same : (f : Assignment) (cs : List Choice) → is_live (values_of f b.words) b ≡ true
    → test f (traced_of f b cs).code ≡ is_nonzero (value f)) where
  demanded-runs : (test : CodeState → Bool) (labels : List ℕ) (on : Bool) (m : ℕ →
      ℤ) (rest : Status) (arrays : ℕ → List ℤ) (places : List Place)
      (cs : List Choice) (good : Bool) → is_running rest ≡ false
      → (on ≡ true → test (record { variables = m; arrays = arrays; choices = cs }) ≡ good)
      → (on ≡ false → good ≡ true)
      → continued labels (checked test h) (record {
        status = cond on (running m) rest;
        arrays = arrays;
        places = places;
      }) cs
      ≡ ended good (record { status = cond on (running m) rest; arrays = arrays; places = places }) cs
  demanded-runs test labels true m rest arrays places cs good off is none =
      ap (λ b. after_end labels (checked_by b h (record {
        code = record { variables = m; arrays = arrays; choices = cs };
        places = places;
      }))) (is refl) ∙ at good where
        at : (b : Bool) → after_end labels (checked_by b h (record {
          code = record { variables = m; arrays = arrays; choices = cs };
          places = places;
        })) ≡ ended b (record { status = running m; arrays = arrays; places = places }) cs
        at true = refl
        at false = refl
  demanded-runs test labels false m rest arrays places cs good off is none =
      resting labels (checked test h) (record { status = rest; arrays = arrays; places = places }) cs off
      ∙ ap (λ b. ended b (record { status = rest; arrays = arrays; places = places }) cs) (sym (none refl))

  pub demand-means : Means d (λ f r. checked (test f) h) b new
  demand-means = means-steady d (λ f r. checked (test f) h) b new asks.good (record {
    extends = asks.extends;
    fits = asks.fits;
    logs = asks.logs;
    keeps = asks.keeps;
    runs = λ r f cs.
        let vs = values_of f b.words in
        demanded-runs (test f) (labels_of b.exits) (is_live vs b) (variables_at vs b.vars) (left_from vs 0
        b.exits)
        (arrays_at vs b.arrays) (places_at vs b) cs (asks.good f) (left-resting vs 0 b.exits)
        (λ on. same f cs on ∙ sym (asks.on f on)) (asks.off f)
        ∙ ap (λ s. ended (asks.good f) s cs) (sym (asks.stands f));
  })
