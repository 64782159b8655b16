-- Where a run begins.
use Rattle.std.proofs.Common.{rules, ◌≡◌, ℕ, zero, suc, ◌+◌, ◌<◌, ◌≤◌, ◌==◌, ℤ, pos, true, ◌&&◌, cond, Some, Ok, List, [], ◌∷◌, ◌++◌, map, length, get_or, None, slice_get, replicate, take, refl, sym, ◌∙◌, ap, subst, arith, append_assoc, append-nil, length-append}
use Rattle.std.proofs.lemmas.Bool.{and_from, and_parts, eq-eqb}
use Rattle.std.proofs.lemmas.List.{get_or-replicate, length-map, length-replicate, map-append, take_more}
use Rattle.std.proofs.lemmas.List.Folds.{list_all-append, list_all-map}
use Rattle.std.specs.List.{list_all}
use Rattle.ba_choices.specs.declared.Choice.{Choice}
use Rattle.ba_code.specs.Facts.{Declared, fits_inside, is_array, is_array_info, is_bound_tree, is_loop_tree, is_operand, is_param, is_unrolled, is_var}
use Rattle.ba_code.specs.Meaning.{info_at}
use Rattle.ba_code.specs.Run.{all_zero, with_param, with_params}
use Rattle.ba_code.specs.State.{CodeState, operand_value, set_array}
use Rattle.ba_code.specs.declared.nodes.ArrayInfo.{ArrayInfo}
use Rattle.ba_code.specs.declared.nodes.Operand.{Operand}
use Rattle.ba_code.specs.declared.nodes.Operand.TheVariants as operand
use Rattle.ba_code.specs.declared.nodes.Param.{Param}
use Rattle.ba_code.specs.declared.nodes.Param.TheVariants.{Var, Array}
use Rattle.ba_code.specs.declared.trees.Code.{Code}
use Rattle.ba_code_laws.specs.Tracing.{TracedExecution, everywhere, untraced}
use Rattle.ba_code_laws.specs.Visits.{Visit, chosen}
use Rattle.ba_guards.proofs.Filling.{elements-all}
use Rattle.ba_guards.proofs.Going.{ended-some, means-as, traced_of}
use Rattle.ba_guards.proofs.Growing.{array-long, extensional, same-grown, all-at}
use Rattle.ba_guards.proofs.Stores.{array-below}
use Rattle.ba_guards.proofs.Writing.{since-push, written-push}
use Rattle.ba_guards.specs.Continuing.{continued, ended, labels_of}
use Rattle.ba_guards.specs.Making.{AreFit, EmitsArray, Fits, Means, elements_in, fits_exit}
use Rattle.ba_guards.specs.Parts.{declared, fill_part, set_part}
use Rattle.ba_guards.specs.Reading.{Snapshot, arrays_at, left_from, places_at, snapshot, variables_at}
use Rattle.ba_guards.specs.Reading.Status.{idle, left, running}
use Rattle.ba_guards.specs.Starting.{AreZero, Starts}
use Rattle.ba_guards.specs.declared.builder.Builder.{Builder}
use Rattle.ba_guards.specs.declared.exits.Exit.{Exit}
use Rattle.ba_tree.proofs.Elements.{elements-length}
use Rattle.ba_tree.specs.Meaning.{elements_with}
use Rattle.ba_tree.specs.declared.run.Flow.TheVariants.{Next}
use Rattle.ba_wordlist.proofs.Choices.{chosen-nothing, kept-everywhere, visits-none}
use Rattle.ba_wordlist.proofs.Lengths.{lengths-kept}
use Rattle.ba_wordlist.proofs.Values.{SameBelow, names-more, to_name, value-const}
use Rattle.ba_wordlist.specs.Facts.{are_names, are_typed, are_words, is_name, is_place, is_word_list, is_word_value, lengths_of}
use Rattle.ba_wordlist.specs.Meaning.{Assignment, elements_at, is_nonzero, value_at, values_of}
use Rattle.ba_wordlist.specs.declared.words.PlaceWords.{PlaceWords}
use Rattle.ba_wordlist.specs.declared.words.WordOp.{WordOp}
use Rattle.ba_wordlist.specs.declared.words.WordOp.TheVariants.{Const}

-- ARRAYS OF ZEROS

abbrev zeros_of : ArrayInfo → List ℤ
zeros_of i = replicate i.len (pos 0)

elements-same : (n : ℕ) (ws : List ℕ) (vs us : List (List ℤ)) → SameBelow n vs us → are_names n ws ≡ true
    → map (elements_at vs) ws ≡ map (elements_at us) ws
elements-same n [] vs us same h = refl
elements-same n (w ∷ ws) vs us same h =
    let both = and_parts (is_name n w) (are_names n ws) h in
    ap (λ zs. zs ∷ map (elements_at vs) ws) (same w (search (rules, both)))
    ∙ ap (λ rest. elements_at us w ∷ rest) (elements-same n ws vs us same both.1)

lengths-same : (ws : List ℕ) (ops more : List WordOp) → are_names (length ops) ws ≡ true
    → map (λ w. get_or (lengths_of (ops ++ more)) w 1) ws ≡ map (λ w. get_or (lengths_of ops) w 1) ws
lengths-same [] ops more h = refl
lengths-same (w ∷ ws) ops more h =
    let both = and_parts (is_name (length ops) w) (are_names (length ops) ws) h in
    ap (λ n. n ∷ map (λ w. get_or (lengths_of (ops ++ more)) w 1) ws) (lengths-kept ops more w (search
    (rules, both)))
    ∙ ap (λ rest. get_or (lengths_of ops) w 1 ∷ rest) (lengths-same ws ops more both.1)

pub zeros-none : (ws : List WordOp) → are_words ws ≡ true → AreZero ws ws [] []
zeros-none ws fit = record {
  more = [];
  grown = sym (append-nil ws);
  fit = fit;
  names = refl;
  lengths = refl;
  has = λ f. refl;
}

pub zeros-more : (old mid new : List WordOp) (versions : List ℕ) (infos : List ArrayInfo) (w : ℕ) (info :
    ArrayInfo)
    → AreZero old mid versions infos → EmitsArray mid new w info.len (λ f. zeros_of info)
    → AreZero old new (versions ++ w ∷ []) (infos ++ info ∷ [])
zeros-more old mid new versions infos w info all one =
    let le : length mid ≤ length new = omega (arith, ap length one.grown, length-append mid one.more) in
    record {
      more = all.more ++ one.more;
      grown = one.grown ∙ ap (λ ws. ws ++ one.more) all.grown ∙ append_assoc old all.more one.more;
      fit = one.fit;
      names = list_all-append (is_name (length new)) versions (w ∷ [])
          ∙ and_from (are_names (length new) versions) (are_names (length new) (w ∷ []))
          (names-more (length mid) (length new) versions le all.names)
          (and_from (is_name (length new) w) true (to_name (length new) w one.name) refl);
      lengths =
          map-append (λ w. get_or (lengths_of new) w 1) versions (w ∷ [])
          ∙ ap (λ rest. map (λ w. get_or (lengths_of new) w 1) versions ++ rest ∷ []) one.long
          ∙ ap (λ front. front ++ info.len ∷ [])
          (ap (λ ws. map (λ w. get_or (lengths_of ws) w 1) versions) one.grown
          ∙ lengths-same versions mid one.more all.names ∙ all.lengths)
          ∙ sym (map-append (λ (i : ArrayInfo). i.len) infos (info ∷ []));
      has = λ f.
          map-append (λ w. elements_in new w f) versions (w ∷ [])
          ∙ ap (λ zs. map (λ w. elements_in new w f) versions ++ zs ∷ []) (one.has f)
          ∙ ap (λ front. front ++ zeros_of info ∷ [])
          (elements-same (length mid) versions (values_of f new) (values_of f mid) (same-grown f mid new
          one.more one.grown) all.names
          ∙ all.has f)
          ∙ sym (map-append zeros_of infos (info ∷ []));
    }

pub next-zeros : (old mid new : List WordOp) (versions more : List ℕ) (infos : List ArrayInfo) (i : ℕ) (x :
    ArrayInfo) (w : ℕ)
    → AreZero old mid versions (take i infos) → list_all is_array_info infos ≡ true → i < length infos
    → (are_words mid ≡ true → is_array_info (get_or infos i x) ≡ true
    → EmitsArray mid new w (get_or infos i x).len (λ f. zeros_of (get_or infos i x)))
    → more ≡ versions ++ w ∷ [] → AreZero old new more (take (i + 1) infos)
next-zeros old mid new versions more infos i x w before all below one pushed =
    subst (AreZero old new more) (sym (take_more infos i x below))
    (subst (λ vs. AreZero old new vs (take i infos ++ get_or infos i x ∷ [])) (sym pushed)
    (zeros-more old mid new versions (take i infos) w (get_or infos i x) before
    (one before.fit (all-at is_array_info infos i x all below))))

zero-array : (vs : List (List ℤ)) (versions : List ℕ) (infos : List ArrayInfo) (n : ℕ)
    → map (elements_at vs) versions ≡ map zeros_of infos
    → arrays_at vs versions n ≡ replicate (info_at infos n).len (pos 0)
zero-array vs [] [] n same = refl
zero-array vs [] (i ∷ infos) n same = absurd (let clash : [] ≡ map zeros_of (i ∷ infos) = same in cc)
zero-array vs (w ∷ versions) [] n same = absurd (let clash : map (elements_at vs) (w ∷ versions) ≡ [] =
    same in cc)
zero-array vs (w ∷ versions) (i ∷ infos) zero same = cc
zero-array vs (w ∷ versions) (i ∷ infos) (suc n) same = zero-array vs versions infos n cc

zero-length : (ls : List ℕ) (versions : List ℕ) (infos : List ArrayInfo) (n : ℕ)
    → map (λ w. get_or ls w 1) versions ≡ map (λ (i : ArrayInfo). i.len) infos → n < length infos
    → get_or ls (get_or versions n 0) 1 ≡ (info_at infos n).len
zero-length ls versions [] n same below = absurd (omega (arith, below))
zero-length ls [] (i ∷ infos) n same below = absurd (let clash : [] ≡ map (λ (i : ArrayInfo). i.len) (i ∷
    infos) = same in cc)
zero-length ls (w ∷ versions) (i ∷ infos) zero same below = cc
zero-length ls (w ∷ versions) (i ∷ infos) (suc n) same below =
    let less : n < length infos = omega (arith, below) in
    let rest : map (λ w. get_or ls w 1) versions ≡ map (λ (i : ArrayInfo). i.len) infos = cc in
    zero-length ls versions infos n rest less

-- THE START

zero-names : (count n : ℕ) → 0 < count → are_names count (replicate n 0) ≡ true
zero-names count zero some = refl
zero-names count (suc n) some =
    and_from (is_name count 0) (are_names count (replicate n 0)) (to_name count 0 some) (zero-names count n
    some)

zero-at : (n k : ℕ) → get_or {A = ℕ} (replicate n 0) k 0 ≡ 0
zero-at zero k = refl
zero-at (suc n) zero = refl
zero-at (suc n) (suc k) = zero-at n k

abbrev bottom_exit : ℕ → Exit
bottom_exit vars = record {
  label = 0;
  since = 0;
  base = replicate vars 0;
  live = 0;
  vars = replicate vars 0;
  written = [];
}

abbrev first_builder : ℕ → List WordOp → List ℕ → Builder
first_builder vars ws versions = record {
  words = ws;
  require = [];
  places = [];
  vars = replicate vars 0;
  written = [];
  arrays = versions;
  live = 1;
  exits = bottom_exit vars ∷ [];
}

abbrev pub first_words : List WordOp
first_words = Const (pos 0) ∷ Const (pos 1) ∷ []

pub first-fit : are_words first_words ≡ true
unfolding are_words
first-fit = refl

module _ (vars : ℕ) (infos : List ArrayInfo) (ws : List WordOp) (versions : List ℕ) (z : AreZero
    first_words ws versions infos) where
  abbrev b : Builder
  b = first_builder vars ws versions

  at-zero : slice_get ws 0 ≡ Some (Const (pos 0))
  at-zero = ap (λ ws. slice_get ws 0) z.grown

  at-one : slice_get ws 1 ≡ Some (Const (pos 1))
  at-one = ap (λ ws. slice_get ws 1) z.grown

  two-words : 1 < length ws
  two-words = omega (arith, ap length z.grown, length-append first_words z.more)

  is-zero : (f : Assignment) → value_at (values_of f ws) 0 ≡ pos 0
  is-zero f = value-const f ws 0 (pos 0) at-zero

  is-one : (f : Assignment) → value_at (values_of f ws) 1 ≡ pos 1
  is-one f = value-const f ws 1 (pos 1) at-one

  one-names : are_names (length ws) (replicate vars 0) ≡ true
  one-names = zero-names (length ws) vars (omega (arith, two-words))

  many : length versions ≡ length infos
  many = sym (length-map versions (λ w. get_or (lengths_of ws) w 1)) ∙ ap length z.lengths
      ∙ length-map infos (λ (i : ArrayInfo). i.len)

  start-fits : Fits (declared vars infos) b
  start-fits = record {
    words = z.fit;
    zero = at-zero;
    one = at-one;
    live = two-words;
    vars = one-names;
    var_count = length-replicate vars 0;
    arrays = z.names;
    array_count = many;
    lengths = λ n below. zero-length (lengths_of ws) versions infos n z.lengths below;
    exits = and_from (fits_exit (length ws) vars (bottom_exit vars)) true
        (and_from (is_name (length ws) 0 && are_names (length ws) (replicate vars 0)) (length (replicate
        vars 0) == vars)
        (and_from (is_name (length ws) 0) (are_names (length ws) (replicate vars 0))
        (to_name (length ws) 0 (omega (arith, two-words))) one-names)
        (eq-eqb (length (replicate vars 0)) vars (length-replicate vars 0))) refl;
    some_exit = omega arith;
    require = refl;
    places = refl;
    typed = refl;
    apart = λ f on. ap (λ z. cond (is_nonzero z) (left 0 (variables_at (values_of f ws) (replicate vars
        0))) idle) (is-zero f);
    single = λ f. ap (λ z. cond (is_nonzero z) true true) (is-zero f);
    since = since-push [] (replicate vars 0) [] (0, replicate vars 0)
        (λ i frame found. absurd (let f : None ≡ Some frame = found in cc)) (record {
          since = omega arith;
          agrees = λ k h. refl;
        });
    written = written-push [] (bottom_exit vars)
        (λ i e found. absurd (let f : None ≡ Some e = found in cc)) (λ k h. refl);
  }

  pub starts-zero : Starts (declared vars infos) b (all_zero infos [])
  starts-zero = record {
    fits = start-fits;
    stands = λ f.
        ap (λ z. record {
          status = cond (is_nonzero z) (running (variables_at (values_of f ws) (replicate vars 0)))
              (left_from (values_of f ws) 0 (bottom_exit vars ∷ []));
          arrays = arrays_at (values_of f ws) versions;
          places = places_at (values_of f ws) b;
        }) (is-one f)
        ∙ ap (λ m. record {
          status = running m;
          arrays = arrays_at (values_of f ws) versions;
          places =
              places_at (values_of f ws) b;
        })
        (extensional (λ k. ap (value_at (values_of f ws)) (zero-at vars k) ∙ is-zero f))
        ∙ ap (λ a. record {
          status = running (λ n. pos 0);
          arrays = a;
          places = places_at (values_of f ws)
              b;
        })
        (extensional (λ n. zero-array (values_of f ws) versions infos n (z.has f)))
        ∙ ap (λ (l : List Visit). record {
          status = running (λ n. pos 0);
          arrays = λ n. replicate (info_at infos n).len (pos 0);
          places = map (λ (v : Visit). v.place) l;
        }) (visits-none (values_of f ws));
    unvisited = λ f. visits-none (values_of f ws);
    undemanded = λ f. refl;
  }

pub started : (vars : ℕ) (infos : List ArrayInfo) (first ws : List WordOp) (versions require : List ℕ)
    (places : List PlaceWords)
    (names written base below own : List ℕ) (exits : List Exit) → first ≡ first_words → require ≡ []
    → places ≡ [] → names ≡ replicate vars 0 → written ≡ []
    → base ≡ replicate vars 0 → below ≡ replicate vars 0 → own ≡ []
    → exits ≡ (record {
      label = 0;
      since = 0;
      base = base;
      live = 0;
      vars = below;
      written = own;
    }) ∷ []
    → list_all is_array_info infos ≡ true
    → (are_words first ≡ true → list_all is_array_info infos ≡ true → AreZero first ws versions infos)
    → Starts (declared vars infos) (record {
      words = ws;
      require = require;
      places = places;
      vars = names;
      written = written;
      arrays = versions;
      live = 1;
      exits = exits;
    }) (all_zero infos [])
started vars infos first ws versions require places names written base below own exits is_first is_none
    no_place are_names unwritten is_base are_below is_own is_exit fit zeros =
    let z : AreZero first_words ws versions infos =
    subst (λ first. AreZero first ws versions infos) is_first
    (zeros (ap are_words is_first ∙ first-fit) fit) in
    let bottom : exits ≡ bottom_exit vars ∷ [] =
    is_exit ∙ (λ i. (record {
      label = 0;
      since = 0;
      base = is_base i;
      live = 0;
      vars = are_below i;
      written = is_own i;
    }) ∷ []) in
    let same : record {
      words = ws;
      require = require;
      places = places;
      vars = names;
      written = written;
      arrays = versions;
      live = 1;
      exits = exits;
    } ≡ first_builder vars ws versions =
    ap (λ ns. record {
      words = ws;
      require = require;
      places = places;
      vars = names;
      written = ns;
      arrays = versions;
      live = 1;
      exits = exits;
    }) unwritten
    ∙ ap (λ r. record {
      words = ws;
      require = r;
      places = places;
      vars = names;
      written = [];
      arrays = versions;
      live = 1;
      exits = exits;
    }) is_none
    ∙ ap (λ p. record {
      words = ws;
      require = [];
      places = p;
      vars = names;
      written = [];
      arrays = versions;
      live = 1;
      exits = exits;
    }) no_place
    ∙ ap (λ v. record {
      words = ws;
      require = [];
      places = [];
      vars = v;
      written = [];
      arrays = versions;
      live = 1;
      exits
          = exits;
    }) are_names
    ∙ ap (λ e. record {
      words = ws;
      require = [];
      places = [];
      vars = replicate vars 0;
      written = [];
      arrays = versions;
      live = 1;
      exits = e;
    })
    bottom in
    subst (λ b. Starts (declared vars infos) b (all_zero infos [])) (sym same) (starts-zero vars infos ws
    versions z)

-- A PARAMETER

abbrev pub with_choices : List Choice → CodeState → CodeState
with_choices choices s = record s { choices = choices }

pub param-keeps : (p : Param) (zs : List ℤ) (s : CodeState) (choices : List Choice)
    → with_param p zs (with_choices choices s) ≡ with_choices choices (with_param p zs s)
param-keeps (Var n) zs s choices = refl
param-keeps (Array n) zs s choices = refl

abbrev standing : CodeState → Snapshot
standing c = record { status = running c.variables; arrays = c.arrays; places = [] }

abbrev given : Param → List ℤ → TracedExecution
given p zs = untraced (λ c. (Ok Next, with_param p zs c))

-- the parameter has the values there
pub starts-given : (d : Declared) (old new : Builder) (p : Param) (zs : List ℤ) (s : CodeState) →
    Starts d old s
    → Means d (λ f r. given p zs) old new → Starts d new (with_param p zs s)
starts-given d old new p zs s here m = record {
  fits = m.fits;
  stands = λ f. sym (all f).1;
  unvisited = λ f. m.logs f ∙ ap (λ l. l ++ m.log f) (here.unvisited f)
      ∙ chosen-nothing (m.log f) (sym (append-nil (chosen everywhere (m.log f))) ∙ (all f).2);
  undemanded = λ f. m.keeps f ∙ ap (λ b. b && m.good f) (here.undemanded f) ∙ (all f).0;
} where
  unused : Assignment → List Choice
  unused f = chosen everywhere (m.log f) ++ []

  ran : (f : Assignment) →
      Some (standing (with_param p zs s), unused f) ≡ ended (m.good f) (snapshot f new) []
  ran f =
      sym (ap (λ (c : CodeState). Some (standing c, c.choices)) (param-keeps p zs s (unused f)))
      ∙ sym (ap (λ t. continued (labels_of old.exits) (given p zs) t (unused f)) (here.stands f))
      ∙ m.runs everywhere f [] (kept-everywhere (m.log f))

  all : (f : Assignment) →
      (m.good f ≡ true) × (standing (with_param p zs s) ≡ snapshot f new) × (unused f ≡ [])
  all f = ended-some (m.good f) (standing (with_param p zs s)) (snapshot f new) (unused f) [] (ran f)

pub first-value : (zs : List ℤ) → list_all is_word_value zs ≡ true →
    is_word_value (get_or zs 0 (pos 0)) ≡ true
first-value [] h = refl
first-value (z ∷ zs) h = (and_parts (is_word_value z) (list_all is_word_value zs) h).0

pub starts-variable : (d : Declared) (old new : Builder) (n : ℕ) (zs : List ℤ) (z : ℤ) (s : CodeState) →
    Starts d old s
    → is_param d (Var n) ≡ true → list_all is_word_value zs ≡ true → z ≡ get_or zs 0 (pos 0)
    → ((d : Declared) → Fits d old → (is_var d n && is_operand d (operand.Const z)) ≡ true
    → Means d (λ f r. set_part n (operand.Const z)) old new)
    → Starts d new (with_param (Var n) zs s)
starts-variable d old new n zs z s here there all is means = starts-given d old new (Var n) zs s here
    (subst (λ z. Means d (λ f r. set_part n (operand.Const z)) old new) is
    (means d here.fits (and_from (is_var d n) (is_operand d (operand.Const z)) there
    (ap is_word_value is ∙ first-value zs all))))

-- ELEMENTS

constants-read : (c : CodeState) (zs : List ℤ) → map (operand_value c) (map operand.Const zs) ≡ zs
constants-read c [] = refl
constants-read c (z ∷ zs) = ap (λ rest. z ∷ rest) (constants-read c zs)

constants-fit : (d : Declared) (zs : List ℤ) →
    list_all (is_operand d) (map operand.Const zs) ≡ list_all is_word_value zs
constants-fit d zs = list_all-map (is_operand d) operand.Const zs

taken-fit : (n : ℕ) (zs : List ℤ) → list_all is_word_value zs ≡ true →
    list_all is_word_value (take n zs) ≡ true
taken-fit zero zs h = refl
taken-fit (suc n) [] h = refl
taken-fit (suc n) (z ∷ zs) h =
    let both = and_parts (is_word_value z) (list_all is_word_value zs) h in
    and_from (is_word_value z) (list_all is_word_value (take n zs)) both.0 (taken-fit n zs both.1)

zeros-fit : (n : ℕ) → list_all is_word_value (replicate n (pos 0)) ≡ true
zeros-fit zero = refl
zeros-fit (suc n) = zeros-fit n

elements-fit : (n : ℕ) (zs : List ℤ) → list_all is_word_value zs ≡ true →
    list_all is_word_value (elements_with n zs) ≡ true
elements-fit n zs h = taken-fit n (zs ++ replicate n (pos 0))
    (list_all-append is_word_value zs (replicate n (pos 0))
    ∙ and_from (list_all is_word_value zs) (list_all is_word_value (replicate n (pos 0))) h (zeros-fit n))

padded-length : (n : ℕ) (zs : List ℤ) → length (zs ++ replicate n (pos 0)) ≡ length zs + n
padded-length n zs = length-append zs (replicate n (pos 0)) ∙ ap (λ m. length zs + m) (length-replicate n
    (pos 0))

padded-at : (zs : List ℤ) (n i : ℕ) → i < n →
    get_or (zs ++ replicate n (pos 0)) i (pos 0) ≡ get_or zs i (pos 0)
padded-at [] n i below = get_or-replicate n i (pos 0) (pos 0) below
padded-at (z ∷ zs) n zero below = refl
padded-at (z ∷ zs) n (suc i) below = let less : i < n = omega (arith, below) in padded-at zs n i less

abbrev pub padded : ℕ → List ℤ → List ℤ
padded n zs = zs ++ replicate n (pos 0)

pub constants-more : (zs : List ℤ) (n i : ℕ) (z : ℤ) (before after : List Operand) → i < n →
    z ≡ get_or zs i (pos 0)
    → before ≡ map operand.Const (take i (padded n zs)) → after ≡ before ++ operand.Const z ∷ []
    → after ≡ map operand.Const (take (i + 1) (padded n zs))
constants-more zs n i z before after below is so_far pushed =
    let within : i < length (padded n zs) = omega (arith, padded-length n zs) in
    pushed ∙ ap (λ os. os ++ operand.Const z ∷ []) so_far
    ∙ ap (λ y. map operand.Const (take i (padded n zs)) ++ operand.Const y ∷ []) (is ∙ sym (padded-at zs n
    i below))
    ∙ sym (map-append operand.Const (take i (padded n zs)) (get_or (padded n zs) i (pos 0) ∷ []))
    ∙ ap (map operand.Const) (sym (take_more (padded n zs) i (pos 0) within))

pub starts-array : (d : Declared) (old new : Builder) (n len : ℕ) (zs : List ℤ) (os : List Operand) (s :
    CodeState) → Starts d old s
    → is_param d (Array n) ≡ true → list_all is_word_value zs ≡ true → len ≡ (info_at d.arrays n).len
    → os ≡ map operand.Const (elements_with len zs)
    → ((d : Declared) → Fits d old
    → (is_array d n && list_all (is_operand d) os && (length os == (info_at d.arrays n).len)) ≡ true
    → Means d (λ f r. fill_part n os) old new)
    → Starts d new (with_param (Array n) zs s)
starts-array d old new n len zs os s here there all long is means =
    let ys : List ℤ = elements_with len zs in
    let fit : list_all (is_operand d) os ≡ true =
    ap (list_all (is_operand d)) is ∙ constants-fit d ys ∙ elements-fit len zs all in
    let many : length os ≡ (info_at d.arrays n).len =
    ap length is ∙ length-map ys operand.Const ∙ elements-length len zs ∙ long in
    starts-given d old new (Array n) zs s here
    (means-as d (λ f r. fill_part n os) (λ f r. given (Array n) zs) old new
    (means d here.fits (and_from (is_array d n && list_all (is_operand d) os) (length os == (info_at
    d.arrays n).len)
    (and_from (is_array d n) (list_all (is_operand d) os) there fit) (eq-eqb (length os) (info_at d.arrays
    n).len many)))
    (λ f r cs.
    let t = traced_of f old cs in
    let own : List ℤ = arrays_at (values_of f old.words) old.arrays n in
    let count : length own ≡ len = array-long d old here.fits f n (array-below d n there) ∙ sym long in
    ap (λ vs. untraced (λ c. set_array n vs c) t)
    (ap (λ os. elements_with (length own) (map (operand_value t.code) os)) is
    ∙ ap (elements_with (length own)) (constants-read t.code ys)
    ∙ elements-all (length own) ys (elements-length len zs ∙ sym count)
    ∙ ap (λ k. elements_with k zs) (sym count))))

-- ALL PARAMETERS

-- the run is where these parameters, with what is given to them, have still to be given
pub record Gives (d : Declared) (b : Builder) (params : List Param) (values : List (List ℤ)) (s :
    CodeState) : Type 0 where
  pub now : CodeState
  pub starts : Starts d b now
  pub same : s ≡ with_params params values now
  pub are_params : list_all (is_param d) params ≡ true
  pub are_values : list_all (list_all is_word_value) values ≡ true

pub gives-more : (d : Declared) (old new : Builder) (p : Param) (params : List Param) (zs ys : List ℤ)
    (given : List (List ℤ))
    (now : List Param) (values : List (List ℤ)) (s : CodeState) → now ≡ p ∷ params →
    values ≡ zs ∷ given → ys ≡ zs
    → ((s : CodeState) → Starts d old s → is_param d p ≡ true → list_all is_word_value ys ≡ true →
    Starts d new (with_param p ys s))
    → Gives d old now values s → Gives d new params given s
gives-more d old new p params zs ys given now values s first next same one before =
    let all : Gives d old (p ∷ params) (zs ∷ given) s =
    subst (λ vs. Gives d old (p ∷ params) vs s) next (subst (λ ps. Gives d old ps values s) first before) in
    let ps = and_parts (is_param d p) (list_all (is_param d) params) all.are_params in
    let vs = and_parts (list_all is_word_value zs) (list_all (list_all is_word_value) given) all.are_values in
    record {
      now = with_param p zs all.now;
      starts = subst (λ zs. Starts d new (with_param p zs all.now)) same
          (one all.now all.starts ps.0 (ap (list_all is_word_value) same ∙ vs.0));
      same = all.same;
      are_params = ps.1;
      are_values = vs.1;
    }

pub gives-none : (d : Declared) (b : Builder) (params : List Param) (given : List (List ℤ)) (s : CodeState)
    → length params ≡ 0
    → Gives d b params given s → Starts d b s
gives-none d b [] given s none all = subst (Starts d b) (sym all.same) all.starts
gives-none d b (p ∷ params) given s none all = absurd (omega arith)

pub gives-no-more : (d : Declared) (b : Builder) (params : List Param) (given : List (List ℤ)) (s :
    CodeState) → length given ≡ 0
    → Gives d b params given s → Starts d b s
gives-no-more d b [] [] s none all = subst (Starts d b) (sym all.same) all.starts
gives-no-more d b (p ∷ params) [] s none all = subst (Starts d b) (sym all.same) all.starts
gives-no-more d b params (zs ∷ given) s none all = absurd (omega arith)

-- THE FACTS

pub list-fits : (d : Declared) (b : Builder) → Fits d b → is_word_list b.words b.require b.places ≡ true
unfolding is_word_list
list-fits d b fits =
    and_from (are_words b.words && are_names (length b.words) b.require && list_all (is_place (length
    b.words)) b.places)
    (are_typed b.words b.places)
    (and_from (are_words b.words && are_names (length b.words) b.require) (list_all (is_place (length
    b.words)) b.places)
    (and_from (are_words b.words) (are_names (length b.words) b.require) fits.words fits.require)
    fits.places) fits.typed

-- what each program keeps
pub record Kept (code : Code) : Type 0 where
  pub arrays : list_all is_array_info code.arrays ≡ true
  pub params : list_all (is_param (declared code.vars code.arrays)) code.params ≡ true
  pub body : AreFit (declared code.vars code.arrays) code.body
  pub unrolled : list_all is_unrolled code.body ≡ true

pub tree-keeps : (code : Code) → is_bound_tree code ≡ true → Kept code
unfolding is_bound_tree is_loop_tree
tree-keeps code fit =
    let d = declared code.vars code.arrays in
    let both = and_parts (list_all is_array_info code.arrays && list_all (is_param d) code.params
    && list_all (λ node. fits_inside d node []) code.body) (list_all is_unrolled code.body) fit in
    let three = and_parts (list_all is_array_info code.arrays && list_all (is_param d) code.params)
    (list_all (λ node. fits_inside d node []) code.body) both.0 in
    let two = and_parts (list_all is_array_info code.arrays) (list_all (is_param d) code.params) three.0 in
    record {
      arrays = two.0;
      params = two.1;
      body = record {
        labels = [];
        fit = list_all-map (λ node. node []) (fits_inside d) code.body ∙ three.1;
        unrolled = list_all-map (λ b. b) is_unrolled code.body ∙ both.1;
      };
      unrolled = both.1;
    }
