-- All elements of an array get values.
use Rattle.std.proofs.Common.{◌≡◌, ℕ, ◌<◌, ◌≤◌, ◌==◌, ℤ, pos, true, ◌&&◌, cond, List, [], ◌∷◌, ◌++◌, map, length, get_or, replicate, refl, sym, ◌∙◌, ap, subst, arith, append_assoc, append-nil, length-append}
use Rattle.std.proofs.lemmas.Bool.{and_from, and_parts, eqb-true}
use Rattle.std.proofs.lemmas.List.{length-map, map-append, take-append-le, take_all}
use Rattle.std.proofs.lemmas.List.Folds.{list_all-append}
use Rattle.std.specs.List.{list_all}
use Rattle.std.specs.Prelude.{slice_set}
use Rattle.ba_code.specs.Facts.{Declared, is_array, is_operand}
use Rattle.ba_code.specs.Meaning.{info_at}
use Rattle.ba_code.specs.State.{operand_value, set_array}
use Rattle.ba_code.specs.declared.nodes.Operand.{Operand}
use Rattle.ba_code.specs.declared.nodes.Operand.TheVariants as operand
use Rattle.ba_code_laws.specs.Tracing.{untraced}
use Rattle.ba_guards.proofs.Arms.{reads-by}
use Rattle.ba_guards.proofs.Going.{means-as, means-before, traced_of}
use Rattle.ba_guards.proofs.Growing.{array-long, name-at, same-grown, word-later}
use Rattle.ba_guards.proofs.Nodes.{reads, store-node}
use Rattle.ba_guards.proofs.Stores.{array-below, array-value}
use Rattle.ba_guards.specs.Making.{Emits, EmitsArray, Fits, Means, ReadsAll, elements_in, operand_at, word_in}
use Rattle.ba_guards.specs.Parts.{fill_part}
use Rattle.ba_guards.specs.Reading.{arrays_at}
use Rattle.ba_guards.specs.declared.builder.Builder.{Builder}
use Rattle.ba_tree.specs.Meaning.{elements_with}
use Rattle.ba_wordlist.proofs.Values.{names-more, to_name, values-same}
use Rattle.ba_wordlist.specs.Facts.{are_names, are_words, is_name, lengths_of}
use Rattle.ba_wordlist.specs.Meaning.{Assignment, is_nonzero, value_at, values_of}
use Rattle.ba_wordlist.specs.declared.words.WordOp.{WordOp}

-- WORDS OF OPERANDS

operand-grown : (d : Declared) (old new : Builder) (f : Assignment) (o : Operand) → Fits d old →
    new ≡ record old { words = new.words }
    → (more : List WordOp) → new.words ≡ old.words ++ more
    → operand_at (values_of f old.words) old.vars o ≡ operand_at (values_of f new.words) new.vars o
operand-grown d old new f (operand.Const z) fits same more grown = refl
operand-grown d old new f (operand.Var n) fits same more grown =
    sym (word-later f old.words new.words more (get_or old.vars n 0) grown
    (name-at (length old.words) old.vars n (omega (arith, fits.live)) fits.vars))
    ∙ ap (λ vars. word_in new.words (get_or vars n 0) f) (sym (ap (λ (b : Builder). b.vars) same))

pub reads-none : (d : Declared) (b : Builder) → Fits d b → ReadsAll d b b [] []
reads-none d b fits = record {
  same = refl;
  more = [];
  grown = sym (append-nil b.words);
  fits = fits;
  names = refl;
  has = λ f. refl;
}

pub reads-more : (d : Declared) (old mid new : Builder) (ws : List ℕ) (os : List Operand) (w : ℕ) (o :
    Operand) → Fits d old
    → ReadsAll d old mid ws os → is_operand d o ≡ true → new ≡ record mid { words = new.words }
    → ((d : Declared) → Fits d mid → is_operand d o ≡ true
    → Emits mid.words new.words w (λ f. operand_at (values_of f mid.words) mid.vars o))
    → ReadsAll d old new (ws ++ w ∷ []) (os ++ o ∷ [])
reads-more d old mid new ws os w o fits all fit same word =
    let one = reads-by d mid new w o all.fits fit same word in
    let le : length mid.words ≤ length new.words = omega (
      arith,
      ap length one.word.grown,
      length-append
          mid.words one.word.more,
    ) in
    record {
      same = same ∙ ap (λ (b : Builder). record b { words = new.words }) all.same;
      more = all.more ++ one.word.more;
      grown = one.word.grown ∙ ap (λ ws. ws ++ one.word.more) all.grown ∙ append_assoc old.words all.more
          one.word.more;
      fits = one.fits;
      names = list_all-append (is_name (length new.words)) ws (w ∷ [])
          ∙ and_from (are_names (length new.words) ws) (are_names (length new.words) (w ∷ []))
          (names-more (length mid.words) (length new.words) ws le all.names)
          (and_from (is_name (length new.words) w) true (to_name (length new.words) w one.word.name) refl);
      has = λ f.
          map-append (value_at (values_of f new.words)) ws (w ∷ [])
          ∙ ap (λ zs. zs ++ word_in new.words w f ∷ [])
          (values-same (length mid.words) ws (values_of f new.words) (values_of f mid.words)
          (same-grown f mid.words new.words one.word.more one.word.grown) all.names ∙ all.has f)
          ∙ ap (λ z. map (operand_at (values_of f old.words) old.vars) os ++ z ∷ [])
          (one.word.has f ∙ sym (kept f))
          ∙ sym (map-append (operand_at (values_of f old.words) old.vars) os (o ∷ []));
    } where
      kept : (f : Assignment) →
          operand_at (values_of f old.words) old.vars o ≡ operand_at (values_of f mid.words) mid.vars o
      kept f = operand-grown d old mid f o fits all.same all.more all.grown

read-all : {g h : Operand → ℤ} (os : List Operand) → ((o : Operand) → g o ≡ h o) → map g os ≡ map h os
read-all [] same = refl
read-all {g = g} {h = h} (o ∷ os) same = ap (λ z. z ∷ map g os) (same o) ∙ ap (λ zs. h o ∷ zs) (read-all os
    same)

-- A FILL

pub elements-all : (n : ℕ) (zs : List ℤ) → length zs ≡ n → elements_with n zs ≡ zs
elements-all n zs long = take-append-le n zs (replicate n (pos 0)) (omega (arith, long)) ∙ take_all n zs
    (omega (arith, long))

pub fill-arm : (d : Declared) (old b1 new : Builder) (array a w : ℕ) (words : List ℕ) (values : List
    Operand) (ws : List WordOp)
    → Fits d old → ReadsAll d old b1 words values
    → (is_array d array && list_all (is_operand d) values && (length values == (info_at d.arrays
    array).len)) ≡ true
    → a ≡ get_or b1.arrays array 0
    → ((count : ℕ) → are_words b1.words ≡ true → a < length b1.words →
    get_or (lengths_of b1.words) a 1 ≡ count
    → length words ≡ count → are_names (length b1.words) words ≡ true → b1.live < length b1.words
    → EmitsArray b1.words ws w count (λ f. cond (is_nonzero (word_in b1.words b1.live f))
    (map (λ w. word_in b1.words w f) words) (elements_in b1.words a f)))
    → new ≡ record b1 { words = ws; arrays = slice_set b1.arrays array w }
    → Means d (λ f r. fill_part array values) old new
fill-arm d old b1 new array a w words values ws fits all h at e is =
    let tests = and_parts (is_array d array && list_all (is_operand d) values) (length values == (info_at
    d.arrays array).len) h in
    let there = array-below d array (and_parts (is_array d array) (list_all (is_operand d) values)
    tests.0).0 in
    let count = eqb-true (length values) (info_at d.arrays array).len tests.1 in
    let f0 : Assignment = λ k. pos 0 in
    let many : length words ≡ length values = sym (length-map words (λ w. word_in b1.words w f0))
    ∙ ap length (all.has f0) ∙ length-map values (operand_at (values_of f0 old.words) old.vars) in
    let below : get_or b1.arrays array 0 < length b1.words =
    name-at (length b1.words) b1.arrays array (omega (arith, all.fits.live)) all.fits.arrays in
    let emits = e (info_at d.arrays array).len all.fits.words (omega (arith, below, at))
    (ap (λ a. get_or (lengths_of b1.words) a 1) at ∙ all.fits.lengths array there) (many ∙ count) all.names
    all.fits.live in
    let stored = store-node d b1 new all.fits array there ws w
    (λ f. cond (is_nonzero (word_in b1.words b1.live f)) (map (λ w. word_in b1.words w f) words)
    (elements_in b1.words a f))
    (λ f c. map (λ w. word_in b1.words w f) words) emits
    (λ f cs on. sym (ap (λ b. cond b (map (λ w. word_in b1.words w f) words) (elements_in b1.words a f)) on))
    (λ f off. ap (λ b. cond b (map (λ w. word_in b1.words w f) words) (elements_in b1.words a f)) off
    ∙ ap (λ a. elements_in b1.words a f) at ∙ sym (array-value d b1 f array all.fits there)) is in
    means-as d (λ f r. untraced (λ c. set_array array (map (λ w. word_in b1.words w f) words) c)) (λ f r.
    fill_part array values) old new
    (means-before d (λ f r. untraced (λ c. set_array array (map (λ w. word_in b1.words w f) words) c)) old
    new b1.words all.more fits
    all.grown all.fits.words
    (subst (λ b. Means d (λ f r. untraced (λ c. set_array array (map (λ w. word_in b1.words w f) words) c))
    b new) all.same stored))
    (λ f r cs.
    let s = traced_of f old cs in
    let long : length (arrays_at (values_of f old.words) old.arrays array) ≡ (info_at d.arrays array).len =
    array-long d old fits f array there in
    let same_values : map (operand_value s.code) values ≡ map (operand_at (values_of f old.words) old.vars)
    values =
    read-all values (λ o. reads f old cs o) in
    ap (λ zs. untraced (λ c. set_array array zs c) s)
    (all.has f ∙ sym same_values
    ∙ sym (elements-all (length (arrays_at (values_of f old.words) old.arrays array)) (map (operand_value
    s.code) values)
    (length-map values (operand_value s.code) ∙ count ∙ sym long))))
