-- What the values of a choice do to an array, from the words that are made for them.
use Rattle.std.proofs.Common.{◌≡◌, ℕ, ◌<◌, ◌≤◌, ◌==◌, ℤ, pos, Bool, true, false, ◌&&◌, cond, Some, None, option_map, List, [], ◌∷◌, map, length, get_or, refl, sym, ◌∙◌, ap, subst, arith, append-nil, length-append, ◌++◌}
use Rattle.std.proofs.lemmas.Bool.{and_from, and_parts, eq-eqb, eqb-true}
use Rattle.std.proofs.lemmas.List.{length-map}
use Rattle.std.specs.List.{list_all}
use Rattle.std.specs.Prelude.{slice_set, unsigned_abs}
use Rattle.ba_code.specs.Facts.{Declared, is_array, is_var}
use Rattle.ba_code.specs.Meaning.{if_taken, info_at}
use Rattle.ba_code.specs.State.{set_array, with_array}
use Rattle.ba_code.specs.declared.nodes.Take.TheVariants.{Value, Truth, Cell, Cells, Nothing}
use Rattle.ba_code_laws.specs.Tracing.{Traced, untraced}
use Rattle.ba_guards.proofs.Doubles.{sides-later}
use Rattle.ba_guards.proofs.Filling.{elements-all}
use Rattle.ba_guards.proofs.Going.{in_turn, means-as, traced_of}
use Rattle.ba_guards.proofs.Growing.{array-long, name-at}
use Rattle.ba_guards.proofs.Nodes.{store-node}
use Rattle.ba_guards.proofs.Ranges.{low-index}
use Rattle.ba_guards.proofs.Stores.{array-below, array-value, write-emits, write-means}
use Rattle.ba_guards.proofs.Takes.{take-nothing, take-truth, take-value}
use Rattle.ba_guards.specs.Making.{AreSides, Checks, EmitsArray, Fits, Means, are_right, checked, checked_by, elements_in, is_cell, is_one, is_zero_or_one, picked, values_in, word_in}
use Rattle.ba_guards.specs.Reading.{arrays_at}
use Rattle.ba_guards.specs.declared.builder.Builder.{Builder}
use Rattle.ba_guards.specs.declared.builder.Sides.{Sides}
use Rattle.ba_numbers.specs.Numbers.{is_in, low_word}
use Rattle.ba_numbers.specs.declared.numbers.CType.{CType}
use Rattle.ba_numbers.specs.declared.numbers.CType.TheVariants.{U8}
use Rattle.ba_tree.specs.Acts.{after_part, then_do}
use Rattle.ba_tree.specs.Choices.{one_element}
use Rattle.ba_tree.specs.Meaning.{elements_with}
use Rattle.ba_tree.specs.State.{is_index}
use Rattle.ba_tree.specs.declared.run.Halt.TheVariants.{WrongChoices}
use Rattle.ba_wordlist.specs.Facts.{are_names, are_words, lengths_of}
use Rattle.ba_wordlist.specs.Meaning.{Assignment, is_nonzero, values_of}
use Rattle.ba_wordlist.specs.declared.words.WordOp.{WordOp}

-- ONE ELEMENT

celled : (t : CType) (array : ℕ) (zs : List ℤ) (i z : ℤ) (s : Traced) → length zs ≤ 256 →
    is_in t z ≡ true → (b : Bool)
    → is_index (length zs) i ≡ b
    → then_do (checked_by b WrongChoices s) (after_part (untraced (λ c. set_array array (slice_set zs
    (low_word i) z) c)))
    ≡ untraced (λ c. if_taken (option_map (λ (cell : ℤ × ℤ). with_array array (slice_set zs (unsigned_abs
    cell.0) cell.1) c)
    (one_element t (length zs) (i ∷ z ∷ []))) c) s
celled t array zs i z s few right true is =
    ap (λ n. untraced (λ c. set_array array (slice_set zs n z) c) s) (low-index (length zs) i is few).0
    ∙ sym (ap (λ b. untraced (λ c. if_taken (option_map (λ (cell : ℤ × ℤ). with_array array (slice_set zs
    (unsigned_abs cell.0) cell.1) c)
    (cond b (Some (i, z)) None)) c) s) (and_from (is_index (length zs) i) (is_in t z) is right))
celled t array zs i z s few right false is =
    sym (ap (λ b. untraced (λ c. if_taken (option_map (λ (cell : ℤ × ℤ). with_array array (slice_set zs
    (unsigned_abs cell.0) cell.1) c)
    (cond (b && is_in t z) (Some (i, z)) None)) c) s) is)

pub take-cell : (d : Declared) (b b3 new : Builder) (array iw vw : ℕ) → Fits d b → is_array d array ≡ true
    → (info_at d.arrays array).len ≤ 256 → iw < length b.words → vw < length b.words
    → ((f : Assignment) → is_in (info_at d.arrays array).t (word_in b.words vw f) ≡ true)
    → Checks d b b3 WrongChoices (λ f. is_index (info_at d.arrays array).len (word_in b.words iw f))
    → (ws : List WordOp) (w : ℕ)
    → EmitsArray b3.words ws w (info_at d.arrays array).len
    (λ f. cond (is_nonzero (word_in b3.words b3.live f))
    (slice_set (elements_in b3.words (get_or b3.arrays array 0) f) (low_word (word_in b3.words iw f))
    (word_in b3.words vw f))
    (elements_in b3.words (get_or b3.arrays array 0) f))
    → new ≡ record b3 { words = ws; arrays = slice_set b3.arrays array w }
    → Means d (λ f r. picked d (Cell array) (values_in b.words (iw ∷ vw ∷ []) f)) b new
take-cell d b b3 new array iw vw fits declared few i_below v_below right check ws w e is =
    let there = array-below d array declared in
    means-as d (in_turn (λ f r. checked (λ c. is_index (info_at d.arrays array).len (word_in b.words iw f))
    WrongChoices)
    (λ f r. untraced (λ c. set_array array (slice_set (elements_in b.words (get_or b.arrays array 0) f)
    (low_word (word_in b.words iw f)) (word_in b.words vw f)) c)))
    (λ f r. picked d (Cell array) (values_in b.words (iw ∷ vw ∷ []) f)) b new
    (write-means d b b b3 new [] array iw vw WrongChoices fits refl (sym (append-nil b.words)) fits i_below
    v_below declared check ws w e is)
    (λ f r cs.
    let s = traced_of f b cs in
    let zs = arrays_at (values_of f b.words) b.arrays array in
    let long : length zs ≡ (info_at d.arrays array).len = array-long d b fits f array there in
    ap (λ n. then_do (checked_by (is_index n (word_in b.words iw f)) WrongChoices s)
    (after_part (untraced (λ c. set_array array (slice_set (elements_in b.words (get_or b.arrays array 0) f)
    (low_word (word_in b.words iw f)) (word_in b.words vw f)) c)))) (sym long)
    ∙ ap (λ ys. then_do (checked_by (is_index (length zs) (word_in b.words iw f)) WrongChoices s)
    (after_part (untraced (λ c. set_array array (slice_set ys (low_word (word_in b.words iw f)) (word_in
    b.words vw f)) c))))
    (sym (array-value d b f array fits there))
    ∙ celled (info_at d.arrays array).t array zs (word_in b.words iw f) (word_in b.words vw f) s
    (omega (arith, few, long)) (right f)
    (is_index (length zs) (word_in b.words iw f)) refl)

-- ALL ELEMENTS

pub take-cells : (d : Declared) (b new : Builder) (array a w : ℕ) (words : List ℕ) (ws : List WordOp) →
    Fits d b
    → is_array d array ≡ true → are_names (length b.words) words ≡ true →
    length words ≡ (info_at d.arrays array).len
    → ((f : Assignment) → list_all (is_in (info_at d.arrays array).t) (values_in b.words words f) ≡ true)
    → a ≡ get_or b.arrays array 0
    → ((count : ℕ) → are_words b.words ≡ true → a < length b.words → get_or (lengths_of b.words) a 1 ≡ count
    → length words ≡ count → are_names (length b.words) words ≡ true → b.live < length b.words
    → EmitsArray b.words ws w count (λ f. cond (is_nonzero (word_in b.words b.live f)) (values_in b.words
    words f)
    (elements_in b.words a f)))
    → new ≡ record b { words = ws; arrays = slice_set b.arrays array w }
    → Means d (λ f r. picked d (Cells array) (values_in b.words words f)) b new
take-cells d b new array a w words ws fits declared names many right at e is =
    let there = array-below d array declared in
    let below : get_or b.arrays array 0 < length b.words =
    name-at (length b.words) b.arrays array (omega (arith, fits.live)) fits.arrays in
    let emits = e (info_at d.arrays array).len fits.words (omega (arith, below, at))
    (ap (λ a. get_or (lengths_of b.words) a 1) at ∙ fits.lengths array there) many names fits.live in
    means-as d (λ f r. untraced (λ c. set_array array (values_in b.words words f) c))
    (λ f r. picked d (Cells array) (values_in b.words words f)) b new
    (store-node d b new fits array there ws w
    (λ f. cond (is_nonzero (word_in b.words b.live f)) (values_in b.words words f) (elements_in b.words a f))
    (λ f c. values_in b.words words f) emits
    (λ f cs on. sym (ap (λ v. cond v (values_in b.words words f) (elements_in b.words a f)) on))
    (λ f off. ap (λ v. cond v (values_in b.words words f) (elements_in b.words a f)) off
    ∙ ap (λ a. elements_in b.words a f) at ∙ sym (array-value d b f array fits there)) is)
    (λ f r cs.
    let s = traced_of f b cs in
    let zs = values_in b.words words f in
    let was = arrays_at (values_of f b.words) b.arrays array in
    let long : length was ≡ (info_at d.arrays array).len = array-long d b fits f array there in
    let same : length zs ≡ length was = length-map words (λ w. word_in b.words w f) ∙ many ∙ sym long in
    ap (λ ys. untraced (λ c. set_array array ys c) s) (sym (elements-all (length was) zs same))
    ∙ sym (ap (λ v. untraced (λ c. if_taken (option_map (λ ys. with_array array (elements_with (length was)
    ys) c)
    (cond v (Some zs) None)) c) s)
    (and_from (length zs == length was) (list_all (is_in (info_at d.arrays array).t) zs) (eq-eqb (length
    zs) (length was) same) (right f))))

-- THE VALUES, however they were made

one-word : (p : ℤ → Bool) (g : ℕ → ℤ) (words : List ℕ) → is_one p (map g words) ≡ true →
    words ≡ get_or words 0 0 ∷ []
one-word p g [] h = absurd (cc)
one-word p g (w ∷ []) h = refl
one-word p g (w ∷ v ∷ ws) h = absurd (cc)

two-words : (t : CType) (g : ℕ → ℤ) (words : List ℕ) → is_cell t (map g words) ≡ true →
    words ≡ get_or words 0 0 ∷ get_or words 1 0 ∷ []
two-words t g [] h = absurd (cc)
two-words t g (w ∷ []) h = absurd (cc)
two-words t g (w ∷ v ∷ []) h = refl
two-words t g (w ∷ v ∷ u ∷ ws) h = absurd (cc)

no-words : (g : ℕ → ℤ) (words : List ℕ) → (length (map g words) == 0) ≡ true → words ≡ []
no-words g [] h = refl
no-words g (w ∷ ws) h = absurd (omega (arith, eqb-true (length (map g (w ∷ ws))) 0 h))

abbrev nowhere : Assignment
nowhere k = pos 0

pub value-arm : (d : Declared) (b new : Builder) (to w : ℕ) (t : CType) (words : List ℕ) → Fits d b →
    is_var d to ≡ true
    → are_names (length b.words) words ≡ true → ((f : Assignment) →
    are_right d (Value to t) (values_in b.words words f) ≡ true)
    → w ≡ get_or words 0 0 → new ≡ record b { vars = slice_set b.vars to w; written = b.written ++ to ∷ [] }
    → Means d (λ f r. picked d (Value to t) (values_in b.words words f)) b new
value-arm d b new to w t words fits there names right at is =
    let one : words ≡ w ∷ [] = one-word (is_in t) (λ w. word_in b.words w nowhere) words (right nowhere) ∙
    ap (λ w. w ∷ []) (sym at) in
    let below : w < length b.words = omega (
      arith,
      at,
      name-at (length b.words) words 0 (omega (
        arith,
        fits.live,
      )) names,
    ) in
    subst (λ ws. Means d (λ f r. picked d (Value to t) (values_in b.words ws f)) b new) (sym one)
    (subst (Means d (λ f r. picked d (Value to t) (values_in b.words (w ∷ []) f)) b) (sym is)
    (take-value d b to w t fits there below (λ f. ap (λ ws. is_one (is_in t) (values_in b.words ws f)) (sym
    one) ∙ right f)))

pub truth-arm : (d : Declared) (b new : Builder) (to w : ℕ) (words : List ℕ) → Fits d b → is_var d to ≡ true
    → are_names (length b.words) words ≡ true → ((f : Assignment) →
    are_right d (Truth to) (values_in b.words words f) ≡ true)
    → w ≡ get_or words 0 0 → new ≡ record b { vars = slice_set b.vars to w; written = b.written ++ to ∷ [] }
    → Means d (λ f r. picked d (Truth to) (values_in b.words words f)) b new
truth-arm d b new to w words fits there names right at is =
    let one : words ≡ w ∷ [] = one-word is_zero_or_one (λ w. word_in b.words w nowhere) words (right nowhere)
    ∙ ap (λ w. w ∷ []) (sym at) in
    let below : w < length b.words = omega (
      arith,
      at,
      name-at (length b.words) words 0 (omega (
        arith,
        fits.live,
      )) names,
    ) in
    subst (λ ws. Means d (λ f r. picked d (Truth to) (values_in b.words ws f)) b new) (sym one)
    (subst (Means d (λ f r. picked d (Truth to) (values_in b.words (w ∷ []) f)) b) (sym is)
    (take-truth d b to w fits there below (λ f. ap (λ ws. is_one is_zero_or_one (values_in b.words ws f))
    (sym one) ∙ right f)))

pub nothing-arm : (d : Declared) (b : Builder) (words : List ℕ) → Fits d b
    → ((f : Assignment) → are_right d Nothing (values_in b.words words f) ≡ true)
    → Means d (λ f r. picked d Nothing (values_in b.words words f)) b b
nothing-arm d b words fits right =
    subst (λ ws. Means d (λ f r. picked d Nothing (values_in b.words ws f)) b b)
    (sym (no-words (λ w. word_in b.words w nowhere) words (right nowhere))) (take-nothing d b fits)

pub cells-arm : (d : Declared) (b new : Builder) (array a w : ℕ) (words : List ℕ) (ws : List WordOp) →
    Fits d b
    → is_array d array ≡ true → are_names (length b.words) words ≡ true
    → ((f : Assignment) → are_right d (Cells array) (values_in b.words words f) ≡ true)
    → a ≡ get_or b.arrays array 0
    → ((count : ℕ) → are_words b.words ≡ true → a < length b.words → get_or (lengths_of b.words) a 1 ≡ count
    → length words ≡ count → are_names (length b.words) words ≡ true → b.live < length b.words
    → EmitsArray b.words ws w count (λ f. cond (is_nonzero (word_in b.words b.live f)) (values_in b.words
    words f)
    (elements_in b.words a f)))
    → new ≡ record b { words = ws; arrays = slice_set b.arrays array w }
    → Means d (λ f r. picked d (Cells array) (values_in b.words words f)) b new
cells-arm d b new array a w words ws fits declared names right at e is =
    let both = λ (f : Assignment). and_parts (length (values_in b.words words f) == (info_at d.arrays
    array).len)
    (list_all (is_in (info_at d.arrays array).t) (values_in b.words words f)) (right f) in
    take-cells d b new array a w words ws fits declared names
    (sym (length-map words (λ w. word_in b.words w nowhere))
    ∙ eqb-true (length (values_in b.words words nowhere)) (info_at d.arrays array).len (both nowhere).0)
    (λ f. (both f).1) at e is

pub cell-arm : (d : Declared) (b b3 new : Builder) (array a iw vw : ℕ) (words : List ℕ) (s : Sides) → Fits d b
    → is_array d array ≡ true → AreSides b.words s → b.live ≡ s.second
    → (info_at d.arrays array).len ≤ 256 → are_names (length b.words) words ≡ true
    → ((f : Assignment) → are_right d (Cell array) (values_in b.words words f) ≡ true)
    → iw ≡ get_or words 0 0 → vw ≡ get_or words 1 0
    → (iw < length b.words
    → Checks d b b3 WrongChoices (λ f. is_index (info_at d.arrays array).len (word_in b.words iw f)))
    → (ws : List WordOp) (w : ℕ) → a ≡ get_or b3.arrays array 0
    → ((count : ℕ) → are_words b3.words ≡ true → AreSides b3.words s → a < length b3.words
    → get_or (lengths_of b3.words) a 1 ≡ count → iw < length b3.words → vw < length b3.words
    → EmitsArray b3.words ws w count (λ f. cond (is_nonzero (word_in b3.words s.second f))
    (slice_set (elements_in b3.words a f) (low_word (word_in b3.words iw f)) (word_in b3.words vw f))
    (elements_in b3.words a f)))
    → new ≡ record b3 { words = ws; arrays = slice_set b3.arrays array w }
    → Means d (λ f r. picked d (Cell array) (values_in b.words words f)) b new
cell-arm d b b3 new array a iw vw words s fits declared sides second few names right at_index at_value check
    ws w at e is =
    let t = (info_at d.arrays array).t in
    let there = array-below d array declared in
    let two : words ≡ iw ∷ vw ∷ [] = two-words t (λ w. word_in b.words w nowhere) words (right nowhere)
    ∙ ap (λ i. i ∷ get_or words 1 0 ∷ []) (sym at_index) ∙ ap (λ v. iw ∷ v ∷ []) (sym at_value) in
    let first_below = name-at (length b.words) words 0 (omega (arith, fits.live)) names in
    let second_below = name-at (length b.words) words 1 (omega (arith, fits.live)) names in
    let i_below : iw < length b.words = omega (arith, at_index, first_below) in
    let v_below : vw < length b.words = omega (arith, at_value, second_below) in
    let checks = check i_below in
    let le : length b.words ≤ length b3.words =
    omega (arith, ap length checks.means.extends.words, length-append b.words checks.means.extends.more) in
    let later = sides-later b.words checks.means.extends.more b3.words s sides checks.means.extends.words in
    let live3 : s.second ≡ b3.live = sym (ap (λ (b : Builder). b.live) checks.same ∙ second) in
    subst (λ ws. Means d (λ f r. picked d (Cell array) (values_in b.words ws f)) b new) (sym two)
    (take-cell d b b3 new array iw vw fits declared few i_below v_below
    (λ f. (and_parts (is_in U8 (word_in b.words iw f)) (is_in t (word_in b.words vw f))
    (ap (λ ws. is_cell t (values_in b.words ws f)) (sym two) ∙ right f)).1) checks ws w
    (write-emits d b3 array a iw vw w ws at there
    (λ count fit below long i v live_below.
    subst (λ k. EmitsArray b3.words ws w count (λ f. cond (is_nonzero (word_in b3.words k f))
    (slice_set (elements_in b3.words a f) (low_word (word_in b3.words iw f)) (word_in b3.words vw f))
    (elements_in b3.words a f))) live3 (e count fit later below long i v))
    checks.means.fits (omega (arith, i_below, le)) (omega (arith, v_below, le))) is)
