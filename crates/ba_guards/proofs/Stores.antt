-- Nodes that read and write arrays, and requirements.
use Rattle.std.proofs.Common.{rules, ◌≡◌, ℕ, zero, suc, ◌<◌, ◌≤◌, ℤ, pos, Bool, true, false, not, ◌&&◌, cond, Some, None, Ok, Err, List, [], ◌∷◌, ◌++◌, length, get_or, refl, sym, ◌∙◌, ap, subst, arith, append_assoc, append-nil, length-append}
use Rattle.std.proofs.lemmas.Bool.{and_parts}
use Rattle.std.proofs.lemmas.Int.{ints}
use Rattle.std.proofs.lemmas.Option.{slice_get-get_or}
use Rattle.std.specs.List.{list_all}
use Rattle.std.specs.Ordering.{int_eq}
use Rattle.std.specs.Prelude.{nat_le, slice_set, unsigned_abs}
use Rattle.ba_code.specs.Facts.{Declared, is_array, is_array_info, is_operand, is_var}
use Rattle.ba_code.specs.Meaning.{assert_value, info_at}
use Rattle.ba_code.specs.State.{cell_at, operand_value, or_trap_at, set_array, set_variable, with_cell}
use Rattle.ba_code.specs.declared.nodes.ArrayInfo.{ArrayInfo}
use Rattle.ba_code.specs.declared.nodes.Operand.{Operand}
use Rattle.ba_code_laws.specs.Tracing.{Relaxes, Traced, untraced}
use Rattle.ba_guards.proofs.Arms.{Reads, operand-kept, reads-by}
use Rattle.ba_guards.proofs.Building.{zero-below, zero-word}
use Rattle.ba_guards.proofs.Going.{AreLocal, in_turn, means-as, means-before, means-then, traced_of}
use Rattle.ba_guards.proofs.Growing.{array-long, fits-grown, name-at, same-grown, word-later}
use Rattle.ba_guards.proofs.Nodes.{assign-node, check-node, emits-after, reads, store-node, word-agree}
use Rattle.ba_guards.proofs.Ranges.{index-test, low-index, read-index}
use Rattle.ba_guards.specs.Making.{Checks, Demands, Emits, EmitsArray, Fits, Means, Part, checked, checked_by, elements_in, operand_at, word_in}
use Rattle.ba_guards.specs.Parts.{assert_part, beyond_part, load_part, save_part}
use Rattle.ba_guards.specs.Reading.{arrays_at, elements_where}
use Rattle.ba_guards.specs.declared.builder.Builder.{Builder}
use Rattle.ba_numbers.specs.Numbers.{low_word}
use Rattle.ba_numbers.specs.declared.ids.StmtId.{StmtId}
use Rattle.ba_numbers.specs.declared.numbers.BinOp.TheVariants.{Lt}
use Rattle.ba_numbers.specs.declared.numbers.CType.TheVariants.{I32, U32}
use Rattle.ba_tree.specs.Acts.{after_part, then_do}
use Rattle.ba_numbers.specs.Types.{is_promoted}
use Rattle.ba_tree.specs.State.{is_index}
use Rattle.ba_tree.specs.declared.run.Flow.TheVariants.{Next}
use Rattle.ba_tree.specs.declared.run.Halt.{Halt}
use Rattle.ba_tree.specs.declared.run.Halt.TheVariants.{AssertFails, Beyond, Trap}
use Rattle.ba_wordlist.proofs.Lengths.{in-word, values-in}
use Rattle.ba_wordlist.proofs.Values.{values-agree}
use Rattle.ba_wordlist.specs.Facts.{are_words, is_word_value, lengths_of}
use Rattle.ba_wordlist.specs.Meaning.{Assignment, binary_value, element_read, elements_at, is_nonzero, values_of}
use Rattle.ba_wordlist.specs.declared.words.WordOp.{WordOp}

pub array-below : (d : Declared) (array : ℕ) → is_array d array ≡ true → array < length d.arrays
array-below d array h = search rules

var-below : (d : Declared) (to : ℕ) → is_var d to ≡ true → to < d.vars
var-below d to h = search rules

-- arrays that are declared have at most 256 elements
pub few-elements : (infos : List ArrayInfo) (n : ℕ) → list_all is_array_info infos ≡ true → n < length infos
    → (info_at infos n).len ≤ 256
few-elements [] n h within = absurd (omega (arith, within))
few-elements (x ∷ infos) zero h within =
    let one = (and_parts (is_array_info x) (list_all is_array_info infos) h).0 in
    let both = and_parts (nat_le 1 x.len) (nat_le x.len 256) one in
    let few : nat_le x.len 256 ≡ true = both.1 in search rules
few-elements (x ∷ infos) (suc n) h within =
    few-elements infos n (and_parts (is_array_info x) (list_all is_array_info infos) h).1 (omega (
      arith,
      within,
    ))

-- A CHECK of words so far, and then another part
pub checked-then : (d : Declared) (old b2 b3 new : Builder) (more : List WordOp) → Fits d old →
    b2 ≡ record old { words = b2.words }
    → b2.words ≡ old.words ++ more → are_words b2.words ≡ true → (halt : Halt) (test : Assignment →
    Bool) (q : Part)
    → Checks d b2 b3 halt test → Means d q b3 new → AreLocal b2 (λ f r. checked (λ c. test f) halt) q
    → Means d (in_turn (λ f r. checked (λ c. test f) halt) q) old new
checked-then d old b2 b3 new more fits same grown fit halt test q check second local =
    means-before d (in_turn (λ f r. checked (λ c. test f) halt) q) old new b2.words more fits grown fit
    (subst (λ b. Means d (in_turn (λ f r. checked (λ c. test f) halt) q) b new) same
    (means-then d (λ f r. checked (λ c. test f) halt) q b2 b3 new local check.means second))

-- AN INDEX is required to be in an array
pub index-arm : (d : Declared) (b new : Builder) (count index limit below : ℕ) (ws1 ws2 : List WordOp)
    (halt : Halt) → Fits d b
    → index < length b.words → count ≤ 256 → Emits b.words ws1 limit (λ f. pos count)
    → Emits ws1 ws2 below (λ f. binary_value Lt U32 (word_in ws1 index f) (word_in ws1 limit f))
    → Demands d (record b { words = ws2 }) new (word_in ws2 below)
    → Checks d b new halt (λ f. is_index count (word_in b.words index f))
index-arm d b new count index limit below ws1 ws2 halt fits name few e1 e2 asks = record {
  same = asks.same;
  means = check-node d b new fits ws2 below (λ f. binary_value Lt U32 (word_in b.words index f) (pos count))
      (emits-after b.words ws1 ws2 limit below (λ f. pos count)
      (λ f. binary_value Lt U32 (word_in ws1 index f) (word_in ws1 limit f))
      (λ f. binary_value Lt U32 (word_in b.words index f) (pos count)) e1 e2
      (λ f. ap (λ x. binary_value Lt U32 x (word_in ws1 limit f)) (word-later f b.words ws1 e1.more index
      e1.grown name)
      ∙ ap (λ y. binary_value Lt U32 (word_in b.words index f) y) (e1.has f))) asks halt
      (λ f. is_index count (word_in b.words index f))
      (λ f. index-test count (word_in b.words index f) (values-in f b.words index 0 fits.words) few);
}

-- what an array has
pub array-value : (d : Declared) (b : Builder) (f : Assignment) (array : ℕ) → Fits d b →
    array < length d.arrays
    → arrays_at (values_of f b.words) b.arrays array ≡ elements_in b.words (get_or b.arrays array 0) f
array-value d b f array fits there = ap (elements_where (values_of f b.words))
    (slice_get-get_or b.arrays array 0 (omega (arith, there, fits.array_count)))

elements-later : (f : Assignment) (old new more : List WordOp) (w : ℕ) → new ≡ old ++ more → w < length old
    → elements_in new w f ≡ elements_in old w f
elements-later f old new more w grown below = same-grown f old new more grown w below

elements-agree : (f g : Assignment) (ws : List WordOp) (w : ℕ) → ((k : ℕ) → k < length ws → f k ≡ g k)
    → elements_in ws w f ≡ elements_in ws w g
elements-agree f g ws w same = ap (λ vs. elements_at vs w) (values-agree f g ws same)

-- A LOAD

loaded : (to : ℕ) (stmt : StmtId) (zs : List ℤ) (i : ℤ) (s : Traced) → length zs ≤ 256 → (b : Bool) →
    is_index (length zs) i ≡ b
    → then_do (checked_by b (Trap stmt) s) (after_part (untraced (λ c. set_variable to (element_read zs i)
    c)))
    ≡ untraced (λ c. then_do (or_trap_at stmt (cell_at zs i) c) (set_variable to)) s
loaded to stmt zs i s few true is =
    ap (λ z. untraced (λ c. set_variable to z c) s) (read-index zs i is few)
    ∙ sym (ap (λ b. untraced (λ c. then_do (or_trap_at stmt (cond b (Some (get_or zs (unsigned_abs i) (pos
    0))) None) c)
    (set_variable to)) s) is)
loaded to stmt zs i s few false is =
    sym (ap (λ b. untraced (λ c. then_do (or_trap_at stmt (cond b (Some (get_or zs (unsigned_abs i) (pos
    0))) None) c)
    (set_variable to)) s) is)

module _ (d : Declared) (old b1 b2 new : Builder) (to array iw : ℕ) (index : Operand) (stmt : StmtId) (fits
    : Fits d old)
    (there : is_var d to ≡ true) (declared : is_array d array ≡ true) (few : (info_at d.arrays array).len ≤
    256)
    (first : Reads d old b1 iw index)
    (check : Checks d b1 b2 (Trap stmt) (λ f. is_index (info_at d.arrays array).len (word_in b1.words iw f)))
    (ws : List WordOp) (w : ℕ)
    (e : Emits b2.words ws w (λ f. element_read (elements_in b2.words (get_or b2.arrays array 0) f)
    (word_in b2.words iw f)))
    (is : new ≡ record b2 {
      words = ws;
      vars = slice_set b2.vars to w;
      written = b2.written ++ to ∷ [];
    }) where
  abbrev a : ℕ
  a = get_or b1.arrays array 0

  abbrev h : Assignment → ℤ
  h f = element_read (elements_in b1.words a f) (word_in b1.words iw f)

  a-below : a < length b1.words
  a-below = name-at (length b1.words) b1.arrays array (omega (arith, first.fits.live)) first.fits.arrays

  same-arrays : b2.arrays ≡ b1.arrays
  same-arrays = ap (λ (b : Builder). b.arrays) check.same

  whole : Emits b2.words ws w h
  whole = record {
    more = e.more;
    grown = e.grown;
    fit = e.fit;
    name = e.name;
    has = λ f. e.has f
        ∙ ap (λ arrays. element_read (elements_in b2.words (get_or arrays array 0) f) (word_in b2.words iw
        f)) same-arrays
        ∙ ap (λ zs. element_read zs (word_in b2.words iw f))
        (elements-later f b1.words b2.words check.means.extends.more a check.means.extends.words a-below)
        ∙ ap (element_read (elements_in b1.words a f))
        (word-later f b1.words b2.words check.means.extends.more iw check.means.extends.words
        first.word.name);
  }

  abbrev test : Assignment → Bool
  test f = is_index (info_at d.arrays array).len (word_in b1.words iw f)

  abbrev q : Part
  q f r = untraced (λ c. set_variable to (h f) c)

  locals : AreLocal b1 (λ f r. checked (λ c. test f) (Trap stmt)) q
  locals f g same =
      let i = word-agree f g b1.words iw same in
      let z = elements-agree f g b1.words a same in (
        ap (λ x. λ (r : Relaxes). checked (λ c. is_index (info_at d.arrays array).len x) (Trap stmt)) i,
        ap (λ zs. λ (r : Relaxes). untraced (λ c. set_variable to (element_read zs (word_in b1.words iw f))
            c)) z
            ∙ ap (λ x. λ (r : Relaxes). untraced (λ c. set_variable to (element_read (elements_in b1.words
            a g) x) c)) i,
      )

  cells-old : (f : Assignment) → elements_in b1.words a f ≡ arrays_at (values_of f old.words) old.arrays array
  cells-old f =
      ap (λ arrays. elements_in b1.words (get_or arrays array 0) f) (ap (λ (b : Builder). b.arrays)
      first.same)
      ∙ elements-later f old.words b1.words first.word.more (get_or old.arrays array 0) first.word.grown
      (name-at (length old.words) old.arrays array (omega (arith, fits.live)) fits.arrays)
      ∙ sym (array-value d old f array fits (array-below d array declared))

  pub load-means : Means d (λ f r. load_part to array index stmt) old new
  load-means = means-as d (in_turn (λ f r. checked (λ c. test f) (Trap stmt)) q) (λ f r. load_part to array
      index stmt) old new
      (checked-then d old b1 b2 new first.word.more fits first.same first.word.grown first.word.fit (Trap
      stmt) test q check
      (assign-node d b2 new check.means.fits to (var-below d to there) ws w h whole is) locals)
      (λ f r cs.
      let s = traced_of f old cs in
      let zs = arrays_at (values_of f old.words) old.arrays array in
      let long : length zs ≡ (info_at d.arrays array).len = array-long d old fits f array (array-below d
      array declared) in
      let i_is : operand_value s.code index ≡ word_in b1.words iw f = reads f old cs index ∙ sym
      (first.word.has f) in
      ap (λ b. then_do (checked_by b (Trap stmt) s) (after_part (untraced (λ c. set_variable to (h f) c))))
      (ap (λ n. is_index n (word_in b1.words iw f)) (sym long))
      ∙ ap (λ ys. then_do (checked_by (is_index (length zs) (word_in b1.words iw f)) (Trap stmt) s)
      (after_part (untraced (λ c. set_variable to (element_read ys (word_in b1.words iw f)) c))))
      (cells-old f)
      ∙ loaded to stmt zs (word_in b1.words iw f) s (omega (arith, few, long))
      (is_index (length zs) (word_in b1.words iw f)) refl
      ∙ ap (λ i. untraced (λ c. then_do (or_trap_at stmt (cell_at zs i) c) (set_variable to)) s) (sym i_is))

-- A SAVE

saved : (array : ℕ) (stmt : StmtId) (zs : List ℤ) (i z : ℤ) (s : Traced) → length zs ≤ 256 → (b : Bool)
    → is_index (length zs) i ≡ b
    → then_do (checked_by b (Trap stmt) s) (after_part (untraced (λ c. set_array array (slice_set zs
    (low_word i) z) c)))
    ≡ untraced (λ c. then_do (or_trap_at stmt (with_cell zs i z) c) (set_array array)) s
saved array stmt zs i z s few true is =
    ap (λ n. untraced (λ c. set_array array (slice_set zs n z) c) s) (low-index (length zs) i is few).0
    ∙ sym (ap (λ b. untraced (λ c. then_do (or_trap_at stmt (cond b (Some (slice_set zs (unsigned_abs i)
    z)) None) c)
    (set_array array)) s) is)
saved array stmt zs i z s few false is =
    sym (ap (λ b. untraced (λ c. then_do (or_trap_at stmt (cond b (Some (slice_set zs (unsigned_abs i) z))
    None) c)
    (set_array array)) s) is)

-- ASSERTIONS

asserted : (stmt : StmtId) (z : ℤ) (b : Bool) (s : Traced) → int_eq z (pos 0) ≡ b
    → checked_by (not b) (AssertFails stmt) s ≡ untraced (λ c. assert_value stmt z c) s
asserted stmt z true s is = sym (ap (λ b. untraced (λ c. cond b (Err (AssertFails stmt), c) (Ok Next, c))
    s) is)
asserted stmt z false s is = sym (ap (λ b. untraced (λ c. cond b (Err (AssertFails stmt), c) (Ok Next, c))
    s) is)

pub assert-arm : (d : Declared) (old b1 new : Builder) (w : ℕ) (o : Operand) (stmt : StmtId) →
    Fits d old → is_operand d o ≡ true
    → b1 ≡ record old { words = b1.words }
    → ((d : Declared) → Fits d old → is_operand d o ≡ true
    → Emits old.words b1.words w (λ f. operand_at (values_of f old.words) old.vars o))
    → ((d : Declared) → Fits d b1 → w < length b1.words → Demands d b1 new (word_in b1.words w))
    → Means d (λ f r. assert_part o stmt) old new
assert-arm d old b1 new w o stmt fits fit same word asks =
    let first = reads-by d old b1 w o fits fit same word in
    let demand = subst (λ b. Demands d b new (word_in b1.words w)) first.same (asks d first.fits
    first.word.name) in
    means-as d (λ f r. checked (λ c. is_nonzero (operand_at (values_of f old.words) old.vars o))
    (AssertFails stmt))
    (λ f r. assert_part o stmt) old new
    (check-node d old new fits b1.words w (λ f. operand_at (values_of f old.words) old.vars o) first.word
    demand (AssertFails stmt)
    (λ f. is_nonzero (operand_at (values_of f old.words) old.vars o)) (λ f. refl))
    (λ f r cs.
    let s = traced_of f old cs in
    ap (λ z. checked_by (is_nonzero z) (AssertFails stmt) s) (sym (reads f old cs o))
    ∙ asserted stmt (operand_value s.code o) (int_eq (operand_value s.code o) (pos 0)) s refl)

-- A CHECK of an index, and then a write
module _ (d : Declared) (old b2 b3 new : Builder) (more : List WordOp) (array iw vw : ℕ) (halt : Halt)
    (fits : Fits d old)
    (same2 : b2 ≡ record old { words = b2.words }) (grown2 : b2.words ≡ old.words ++ more) (fits2 : Fits d b2)
    (i_below : iw < length b2.words) (v_below : vw < length b2.words)
    (declared : is_array d array ≡ true)
    (check : Checks d b2 b3 halt (λ f. is_index (info_at d.arrays array).len (word_in b2.words iw f)))
    (ws : List WordOp) (w : ℕ)
    (e : EmitsArray b3.words ws w (info_at d.arrays array).len
    (λ f. cond (is_nonzero (word_in b3.words b3.live f))
    (slice_set (elements_in b3.words (get_or b3.arrays array 0) f) (low_word (word_in b3.words iw f))
    (word_in b3.words vw f))
    (elements_in b3.words (get_or b3.arrays array 0) f)))
    (is : new ≡ record b3 { words = ws; arrays = slice_set b3.arrays array w }) where
  abbrev place : ℕ
  place = get_or b2.arrays array 0

  place-below : place < length b2.words
  place-below = name-at (length b2.words) b2.arrays array (omega (arith, fits2.live)) fits2.arrays

  arrays3 : b3.arrays ≡ b2.arrays
  arrays3 = ap (λ (b : Builder). b.arrays) check.same

  abbrev written : Assignment → List ℤ
  written f = slice_set (elements_in b2.words place f) (low_word (word_in b2.words iw f)) (word_in b2.words
      vw f)

  abbrev write_test : Assignment → Bool
  write_test f = is_index (info_at d.arrays array).len (word_in b2.words iw f)

  abbrev write_part : Part
  write_part f r = untraced (λ c. set_array array (written f) c)

  written-later : (f : Assignment) → written f
      ≡ slice_set (elements_in b3.words (get_or b3.arrays array 0) f) (low_word (word_in b3.words iw f))
      (word_in b3.words vw f)
  written-later f =
      let i = word-later f b2.words b3.words check.means.extends.more iw check.means.extends.words i_below in
      let v = word-later f b2.words b3.words check.means.extends.more vw check.means.extends.words v_below in
      let z = elements-later f b2.words b3.words check.means.extends.more place check.means.extends.words
      place-below in
      ap (λ zs. slice_set zs (low_word (word_in b2.words iw f)) (word_in b2.words vw f)) (sym z)
      ∙ ap (λ arrays. slice_set (elements_in b3.words (get_or arrays array 0) f) (low_word (word_in
      b2.words iw f)) (word_in b2.words vw f))
      (sym arrays3)
      ∙ ap (λ x. slice_set (elements_in b3.words (get_or b3.arrays array 0) f) (low_word x) (word_in
      b2.words vw f)) (sym i)
      ∙ ap (λ y. slice_set (elements_in b3.words (get_or b3.arrays array 0) f) (low_word (word_in b3.words
      iw f)) y) (sym v)

  write-locals : AreLocal b2 (λ f r. checked (λ c. write_test f) halt) write_part
  write-locals f g same =
      let i = word-agree f g b2.words iw same in
      let v = word-agree f g b2.words vw same in
      let z = elements-agree f g b2.words place same in (
        ap (λ x. λ (r : Relaxes). checked (λ c. is_index (info_at d.arrays array).len x) halt) i,
        ap (λ zs. λ (r : Relaxes). untraced (λ c. set_array array (slice_set zs (low_word (word_in b2.words
            iw f)) (word_in b2.words vw f)) c)) z
            ∙ ap (λ x. λ (r : Relaxes). untraced (λ c. set_array array
            (slice_set (elements_in b2.words place g) (low_word x) (word_in b2.words vw f)) c)) i
            ∙ ap (λ y. λ (r : Relaxes). untraced (λ c. set_array array
            (slice_set (elements_in b2.words place g) (low_word (word_in b2.words iw g)) y) c)) v,
      )

  pub write-means : Means d (in_turn (λ f r. checked (λ c. write_test f) halt) write_part) old new
  write-means = checked-then d old b2 b3 new more fits same2 grown2 fits2.words halt write_test write_part
      check
      (store-node d b3 new check.means.fits array (array-below d array declared) ws w
      (λ f. cond (is_nonzero (word_in b3.words b3.live f))
      (slice_set (elements_in b3.words (get_or b3.arrays array 0) f) (low_word (word_in b3.words iw f))
      (word_in b3.words vw f))
      (elements_in b3.words (get_or b3.arrays array 0) f))
      (λ f c. written f) e
      (λ f cs on. written-later f ∙ sym (ap (λ b. cond b
      (slice_set (elements_in b3.words (get_or b3.arrays array 0) f) (low_word (word_in b3.words iw f))
      (word_in b3.words vw f))
      (elements_in b3.words (get_or b3.arrays array 0) f)) on))
      (λ f off. ap (λ b. cond b
      (slice_set (elements_in b3.words (get_or b3.arrays array 0) f) (low_word (word_in b3.words iw f))
      (word_in b3.words vw f))
      (elements_in b3.words (get_or b3.arrays array 0) f)) off
      ∙ sym (array-value d b3 f array check.means.fits (array-below d array declared))) is) write-locals

pub save-arm : (d : Declared) (old b1 b2 b3 new : Builder) (array iw vw : ℕ) (index value : Operand) (stmt
    : StmtId) → Fits d old
    → (is_array d array && is_operand d index && is_operand d value) ≡ true →
    (info_at d.arrays array).len ≤ 256
    → b1 ≡ record old { words = b1.words }
    → ((d : Declared) → Fits d old → is_operand d index ≡ true
    → Emits old.words b1.words iw (λ f. operand_at (values_of f old.words) old.vars index))
    → b2 ≡ record b1 { words = b2.words }
    → ((d : Declared) → Fits d b1 → is_operand d value ≡ true
    → Emits b1.words b2.words vw (λ f. operand_at (values_of f b1.words) b1.vars value))
    → ((halt : Halt) → Fits d b2 → iw < length b2.words
    → Checks d b2 b3 halt (λ f. is_index (info_at d.arrays array).len (word_in b2.words iw f)))
    → (ws : List WordOp) (w : ℕ)
    → (Fits d b3 → iw < length b3.words → vw < length b3.words →
    EmitsArray b3.words ws w (info_at d.arrays array).len
    (λ f. cond (is_nonzero (word_in b3.words b3.live f))
    (slice_set (elements_in b3.words (get_or b3.arrays array 0) f) (low_word (word_in b3.words iw f))
    (word_in b3.words vw f))
    (elements_in b3.words (get_or b3.arrays array 0) f)))
    → new ≡ record b3 { words = ws; arrays = slice_set b3.arrays array w }
    → Means d (λ f r. save_part array index value stmt) old new
save-arm d old b1 b2 b3 new array iw vw index value stmt fits h few same1 word1 same2 word2 check ws w e is =
    let all = and_parts (is_array d array && is_operand d index) (is_operand d value) h in
    let two = and_parts (is_array d array) (is_operand d index) all.0 in
    let first = reads-by d old b1 iw index fits two.1 same1 word1 in
    let second = reads-by d b1 b2 vw value first.fits all.1 same2 word2 in
    let le1 : length b1.words ≤ length b2.words = omega (
      arith,
      ap length second.word.grown,
      length-append
          b1.words second.word.more,
    ) in
    let i_below : iw < length b2.words = omega (arith, first.word.name, le1) in
    let checks = check (Trap stmt) second.fits i_below in
    let le2 : length b2.words ≤ length b3.words =
    omega (arith, ap length checks.means.extends.words, length-append b2.words checks.means.extends.more) in
    let grown2 : b2.words ≡ old.words ++ (first.word.more ++ second.word.more) =
    second.word.grown ∙ ap (λ ws. ws ++ second.word.more) first.word.grown
    ∙ append_assoc old.words first.word.more second.word.more in
    let same : b2 ≡ record old { words = b2.words } =
    same2 ∙ ap (λ (b : Builder). record b { words = b2.words }) same1 in
    let there = array-below d array two.0 in
    let emits = e checks.means.fits (omega (arith, i_below, le2)) (omega (arith, second.word.name, le2)) in
    means-as d (in_turn (λ f r. checked (λ c. is_index (info_at d.arrays array).len (word_in b2.words iw
    f)) (Trap stmt))
    (λ f r. untraced (λ c. set_array array (slice_set (elements_in b2.words (get_or b2.arrays array 0) f)
    (low_word (word_in b2.words iw f)) (word_in b2.words vw f)) c)))
    (λ f r. save_part array index value stmt) old new
    (write-means d old b2 b3 new (first.word.more ++ second.word.more) array iw vw (Trap stmt) fits same
    grown2 second.fits
    i_below second.word.name two.0 checks ws w emits is)
    (λ f r cs.
    let s = traced_of f old cs in
    let zs = arrays_at (values_of f old.words) old.arrays array in
    let long : length zs ≡ (info_at d.arrays array).len = array-long d old fits f array there in
    let cells : elements_in b2.words (get_or b2.arrays array 0) f ≡ zs =
    ap (λ arrays. elements_in b2.words (get_or arrays array 0) f) (ap (λ (b : Builder). b.arrays) same)
    ∙ elements-later f old.words b2.words (first.word.more ++ second.word.more) (get_or old.arrays array 0)
    grown2
    (name-at (length old.words) old.arrays array (omega (arith, fits.live)) fits.arrays)
    ∙ sym (array-value d old f array fits there) in
    let i_is : operand_value s.code index ≡ word_in b2.words iw f = reads f old cs index ∙ sym
    (first.word.has f)
    ∙ sym (word-later f b1.words b2.words second.word.more iw second.word.grown first.word.name) in
    let v_is : operand_value s.code value ≡ word_in b2.words vw f = reads f old cs value
    ∙ operand-kept d old b1 f value fits first ∙ sym (second.word.has f) in
    ap (λ n. then_do (checked_by (is_index n (word_in b2.words iw f)) (Trap stmt) s)
    (after_part (untraced (λ c. set_array array (slice_set (elements_in b2.words (get_or b2.arrays array 0) f)
    (low_word (word_in b2.words iw f)) (word_in b2.words vw f)) c)))) (sym long)
    ∙ ap (λ ys. then_do (checked_by (is_index (length zs) (word_in b2.words iw f)) (Trap stmt) s)
    (after_part (untraced (λ c. set_array array (slice_set ys (low_word (word_in b2.words iw f)) (word_in
    b2.words vw f)) c)))) cells
    ∙ saved array stmt zs (word_in b2.words iw f) (word_in b2.words vw f) s (omega (arith, few, long))
    (is_index (length zs) (word_in b2.words iw f)) refl
    ∙ ap (λ i. untraced (λ c. then_do (or_trap_at stmt (with_cell zs i (word_in b2.words vw f)) c)
    (set_array array)) s) (sym i_is)
    ∙ ap (λ v. untraced (λ c. then_do (or_trap_at stmt (with_cell zs (operand_value s.code index) v) c)
    (set_array array)) s) (sym v_is))

-- THE END of a run whose bound is passed
pub beyond-arm : (d : Declared) (old new : Builder) (stmt : StmtId) → Fits d old →
    Demands d old new (word_in old.words 0)
    → Means d (λ f r. beyond_part stmt) old new
beyond-arm d old new stmt fits asks =
    means-as d (λ f r. checked (λ c. false) (Beyond stmt)) (λ f r. beyond_part stmt) old new
    (check-node d old new fits old.words 0 (λ f. pos 0) (record {
      more = [];
      grown = sym (append-nil old.words);
      fit = fits.words;
      name = zero-below d old fits;
      has = λ f. zero-word d old fits f;
    }) asks (Beyond stmt) (λ f. false) (λ f. refl))
    (λ f r cs. refl)

pub load-arm : (d : Declared) (old b1 b2 new : Builder) (to array iw : ℕ) (index : Operand) (stmt : StmtId)
    → Fits d old
    → (is_var d to && is_array d array && is_operand d index) ≡ true → (info_at d.arrays array).len ≤ 256
    → b1 ≡ record old { words = b1.words }
    → ((d : Declared) → Fits d old → is_operand d index ≡ true
    → Emits old.words b1.words iw (λ f. operand_at (values_of f old.words) old.vars index))
    → ((halt : Halt) → Fits d b1 → iw < length b1.words
    → Checks d b1 b2 halt (λ f. is_index (info_at d.arrays array).len (word_in b1.words iw f)))
    → (ws : List WordOp) (w : ℕ)
    → (are_words b2.words ≡ true → get_or b2.arrays array 0 < length b2.words → iw < length b2.words
    → Emits b2.words ws w (λ f. element_read (elements_in b2.words (get_or b2.arrays array 0) f) (word_in
    b2.words iw f)))
    → new ≡ record b2 { words = ws; vars = slice_set b2.vars to w; written = b2.written ++ to ∷ [] }
    → Means d (λ f r. load_part to array index stmt) old new
load-arm d old b1 b2 new to array iw index stmt fits h few same1 word1 check ws w e is =
    let all = and_parts (is_var d to && is_array d array) (is_operand d index) h in
    let two = and_parts (is_var d to) (is_array d array) all.0 in
    let first = reads-by d old b1 iw index fits all.1 same1 word1 in
    let checks = check (Trap stmt) first.fits first.word.name in
    let le : length b1.words ≤ length b2.words =
    omega (arith, ap length checks.means.extends.words, length-append b1.words checks.means.extends.more) in
    let here : get_or b2.arrays array 0 < length b2.words =
    name-at (length b2.words) b2.arrays array (omega (arith, checks.means.fits.live))
    checks.means.fits.arrays in
    load-means d old b1 b2 new to array iw index stmt fits two.0 two.1 few first checks ws w
    (e checks.means.fits.words here (omega (arith, first.word.name, le))) is

-- the words of an array that is written, by the call that makes them
pub write-emits : (d : Declared) (b : Builder) (array a iw vw w : ℕ) (ws : List WordOp) →
    a ≡ get_or b.arrays array 0
    → array < length d.arrays
    → ((count : ℕ) → are_words b.words ≡ true → a < length b.words → get_or (lengths_of b.words) a 1 ≡ count
    → iw < length b.words → vw < length b.words → b.live < length b.words
    → EmitsArray b.words ws w count (λ f. cond (is_nonzero (word_in b.words b.live f))
    (slice_set (elements_in b.words a f) (low_word (word_in b.words iw f)) (word_in b.words vw f))
    (elements_in b.words a f)))
    → Fits d b → iw < length b.words → vw < length b.words
    → EmitsArray b.words ws w (info_at d.arrays array).len (λ f. cond (is_nonzero (word_in b.words b.live f))
    (slice_set (elements_in b.words (get_or b.arrays array 0) f) (low_word (word_in b.words iw f)) (word_in
    b.words vw f))
    (elements_in b.words (get_or b.arrays array 0) f))
write-emits d b array a iw vw w ws is there e fits i_below v_below =
    let below : get_or b.arrays array 0 < length b.words =
    name-at (length b.words) b.arrays array (omega (arith, fits.live)) fits.arrays in
    subst (λ a. EmitsArray b.words ws w (info_at d.arrays array).len (λ f. cond (is_nonzero (word_in
    b.words b.live f))
    (slice_set (elements_in b.words a f) (low_word (word_in b.words iw f)) (word_in b.words vw f))
    (elements_in b.words a f))) is
    (e (info_at d.arrays array).len fits.words (omega (arith, below, is))
    (ap (λ a. get_or (lengths_of b.words) a 1) is ∙ fits.lengths array there) i_below v_below fits.live)

-- a number of elements is a number of a word
count-range : (n : ℕ) → n ≤ 256 → is_word_value (pos n) ≡ true
count-range n few = in-word I32 (pos n) (record { low = omega (arith, ints); high = omega (arith, ints) })

-- the same from the calls that make the words
pub index-by : (d : Declared) (b new : Builder) (count index limit below : ℕ) (ws1 ws2 : List WordOp) (v :
    ℤ) (halt : Halt) → Fits d b
    → index < length b.words → count ≤ 256 → v ≡ pos count
    → (are_words b.words ≡ true → is_word_value v ≡ true → Emits b.words ws1 limit (λ f. v))
    → (are_words ws1 ≡ true → is_promoted U32 ≡ true → index < length ws1 → limit < length ws1
    → Emits ws1 ws2 below (λ f. binary_value Lt U32 (word_in ws1 index f) (word_in ws1 limit f)))
    → ((d : Declared) → Fits d (record b { words = ws2 }) → below < length ws2
    → Demands d (record b { words = ws2 }) new (word_in ws2 below))
    → Checks d b new halt (λ f. is_index count (word_in b.words index f))
index-by d b new count index limit below ws1 ws2 v halt fits name few is call1 call2 asks =
    let e1 : Emits b.words ws1 limit (λ f. pos count) =
    subst (λ v. Emits b.words ws1 limit (λ f. v)) is (call1 fits.words (ap is_word_value is ∙ count-range
    count few)) in
    let le : length b.words ≤ length ws1 = omega (arith, ap length e1.grown, length-append b.words e1.more) in
    let e2 = call2 e1.fit refl (omega (arith, name, le)) e1.name in
    let grown : ws2 ≡ b.words ++ (e1.more ++ e2.more) =
    e2.grown ∙ ap (λ ws. ws ++ e2.more) e1.grown ∙ append_assoc b.words e1.more e2.more in
    index-arm d b new count index limit below ws1 ws2 halt fits name few e1 e2
    (asks d (fits-grown d b ws2 (e1.more ++ e2.more) fits grown e2.fit) e2.name)
