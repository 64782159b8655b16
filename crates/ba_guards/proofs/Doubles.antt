-- Two writes of an array, one on each side of a branch, as one.
use Rattle.std.proofs.Common.{◌≡◌, ℕ, ◌+◌, ◌<◌, ◌≤◌, ℤ, Bool, true, false, not, ◌&&◌, cond, Some, List, [], ◌∷◌, ◌++◌, length, get_or, take, drop, slice_get, refl, sym, ◌∙◌, ap, arith, append_assoc, length-append}
use Rattle.std.proofs.lemmas.Bool.{and_parts}
use Rattle.std.proofs.lemmas.List.{drop_more, length-take-le, length_push, take-append-drop}
use Rattle.std.proofs.lemmas.Option.{get_or_from_slice_get, slice_get_within}
use Rattle.std.specs.Prelude.{slice_set}
use Rattle.ba_guards.proofs.Growing.{same-grown, word-later}
use Rattle.ba_guards.specs.Making.{AreSides, Emits, EmitsArray, elements_in, holds_in, word_in}
use Rattle.ba_guards.specs.declared.builder.Sides.{Sides}
use Rattle.ba_numbers.specs.Numbers.{low_word}
use Rattle.ba_wordlist.proofs.Lengths.{length-last, length-lengths, lengths-kept, words-at}
use Rattle.ba_wordlist.proofs.Values.{elements-entry, of_name}
use Rattle.ba_wordlist.specs.Facts.{are_words, is_name, lengths_of}
use Rattle.ba_wordlist.specs.Meaning.{Assignment, is_nonzero}
use Rattle.ba_wordlist.specs.declared.words.WordOp.{WordOp}
use Rattle.ba_wordlist.specs.declared.words.WordOp.TheVariants.{Write}

-- AN ENTRY THAT IS A WRITE

-- what it names is there, and it has what was written
pub record IsWrite (ws : List WordOp) (k of index value when : ℕ) : Type 0 where
  pub of_name : of < length ws
  pub index_name : index < length ws
  pub value_name : value < length ws
  pub long : get_or (lengths_of ws) k 1 ≡ get_or (lengths_of ws) of 1
  pub has : (f : Assignment) → elements_in ws k f
      ≡ cond (holds_in ws when f)
      (slice_set (elements_in ws of f) (low_word (word_in ws index f)) (word_in ws value f))
      (elements_in ws of f)

pub is-write : (ws : List WordOp) (k of index value when : ℕ) → are_words ws ≡ true
    → slice_get ws k ≡ Some (Write of index value when) → IsWrite ws k of index value when
is-write ws k of index value when fit found =
    let op = Write of index value when in
    let front = take k ws in
    let n = length (lengths_of front) in
    let within : k < length ws = slice_get_within ws k op found in
    let many : length front ≡ k = length-take-le k ws (omega (arith, within)) in
    let all = and_parts (is_name n of && is_name n index && is_name n value) (is_name n when)
    (words-at ws k op fit found) in
    let three = and_parts (is_name n of && is_name n index) (is_name n value) all.0 in
    let two = and_parts (is_name n of) (is_name n index) three.0 in
    let counted = length-lengths front in
    let of_front : of < length front = omega (arith, of_name n of two.0, counted) in
    let index_front : index < length front = omega (arith, of_name n index two.1, counted) in
    let value_front : value < length front = omega (arith, of_name n value three.1, counted) in
    let when_front : when < length front = omega (arith, of_name n when all.1, counted) in
    let grown : ws ≡ front ++ drop k ws = sym (take-append-drop k ws) in
    let here : get_or ws k op ≡ op = get_or_from_slice_get ws k op op found in
    let cut : ws ≡ (front ++ op ∷ []) ++ drop (k + 1) ws =
    grown ∙ ap (λ rest. front ++ rest) (drop_more ws k op within ∙ ap (λ x. x ∷ drop (k + 1) ws) here)
    ∙ sym (append_assoc front (op ∷ []) (drop (k + 1) ws)) in
    record {
      of_name = omega (arith, of_front, many, within);
      index_name = omega (arith, index_front, many, within);
      value_name = omega (arith, value_front, many, within);
      long = ap (λ ws. get_or (lengths_of ws) k 1) cut
          ∙ lengths-kept (front ++ op ∷ []) (drop (k + 1) ws) k (omega (arith, many, length_push front op))
          ∙ ap (λ k. get_or (lengths_of (front ++ op ∷ [])) k 1) (sym many)
          ∙ length-last front op
          ∙ sym (ap (λ ws. get_or (lengths_of ws) of 1) grown ∙ lengths-kept front (drop k ws) of of_front);
      has = λ f.
          let w : word_in front when f ≡ word_in ws when f =
          sym (word-later f front ws (drop k ws) when grown when_front) in
          let e : elements_in front of f ≡ elements_in ws of f =
          sym (same-grown f front ws (drop k ws) grown of of_front) in
          let i : word_in front index f ≡ word_in ws index f =
          sym (word-later f front ws (drop k ws) index grown index_front) in
          let v : word_in front value f ≡ word_in ws value f =
          sym (word-later f front ws (drop k ws) value grown value_front) in
          elements-entry f ws k op found
          ∙ (λ t. cond (is_nonzero (w t)) (slice_set (e t) (low_word (i t)) (v t)) (e t));
    }

-- ONE WRITE for both

one-write : (which live : Bool) (zs : List ℤ) (i x v y : ℤ)
    → cond live (slice_set zs (low_word (cond which i x)) (cond which v y)) zs
    ≡ cond (not which && live) (slice_set (cond (which && live) (slice_set zs (low_word i) v) zs)
    (low_word x) y)
    (cond (which && live) (slice_set zs (low_word i) v) zs)
one-write true true zs i x v y = refl
one-write true false zs i x v y = refl
one-write false true zs i x v y = refl
one-write false false zs i x v y = refl

pub doubled : (ws ws1 ws2 new : List WordOp) (k of i v index value i2 v2 word count : ℕ) (s : Sides)
    → are_words ws ≡ true → AreSides ws s → slice_get ws k ≡ Some (Write of i v s.first)
    → get_or (lengths_of ws) k 1 ≡ count → index < length ws → value < length ws
    → (are_words ws ≡ true → s.which < length ws → i < length ws → index < length ws
    → Emits ws ws1 i2 (λ f. cond (is_nonzero (word_in ws s.which f)) (word_in ws i f) (word_in ws index f)))
    → (are_words ws1 ≡ true → s.which < length ws1 → v < length ws1 → value < length ws1
    → Emits ws1 ws2 v2 (λ f. cond (is_nonzero (word_in ws1 s.which f)) (word_in ws1 v f)
    (word_in ws1 value f)))
    → ((count : ℕ) → are_words ws2 ≡ true → of < length ws2 → get_or (lengths_of ws2) of 1 ≡ count
    → i2 < length ws2 → v2 < length ws2 → s.live < length ws2
    → EmitsArray ws2 new word count (λ f. cond (is_nonzero (word_in ws2 s.live f))
    (slice_set (elements_in ws2 of f) (low_word (word_in ws2 i2 f)) (word_in ws2 v2 f))
    (elements_in ws2 of f)))
    → EmitsArray ws new word count (λ f. cond (is_nonzero (word_in ws s.second f))
    (slice_set (elements_in ws k f) (low_word (word_in ws index f)) (word_in ws value f))
    (elements_in ws k f))
doubled ws ws1 ws2 new k of i v index value i2 v2 word count s fit sides found long index_below value_below
    select1 select2 write =
    let entry = is-write ws k of i v s.first fit found in
    let e1 = select1 fit sides.condition entry.index_name index_below in
    let le1 : length ws ≤ length ws1 = omega (arith, ap length e1.grown, length-append ws e1.more) in
    let e2 = select2 e1.fit (omega (arith, sides.condition, le1)) (omega (arith, entry.value_name, le1))
    (omega (arith, value_below, le1)) in
    let le2 : length ws1 ≤ length ws2 = omega (arith, ap length e2.grown, length-append ws1 e2.more) in
    let both = e1.more ++ e2.more in
    let grown : ws2 ≡ ws ++ both = e2.grown ∙ ap (λ ws. ws ++ e2.more) e1.grown
    ∙ append_assoc ws e1.more e2.more in
    let e3 = write count e2.fit (omega (arith, entry.of_name, le1, le2))
    (ap (λ ws. get_or (lengths_of ws) of 1) grown ∙ lengths-kept ws both of entry.of_name ∙ sym entry.long
    ∙ long)
    (omega (arith, e1.name, le2)) e2.name (omega (arith, sides.came, le1, le2)) in
    record {
      more = both ++ e3.more;
      grown = e3.grown ∙ ap (λ ws. ws ++ e3.more) grown ∙ append_assoc ws both e3.more;
      fit = e3.fit;
      name = e3.name;
      long = e3.long;
      has = λ f.
          let c = holds_in ws s.which f in
          let l : word_in ws2 s.live f ≡ word_in ws s.live f =
          word-later f ws ws2 both s.live grown sides.came in
          let e : elements_in ws2 of f ≡ elements_in ws of f =
          same-grown f ws ws2 both grown of entry.of_name in
          let x : word_in ws2 i2 f ≡ cond c (word_in ws i f) (word_in ws index f) =
          word-later f ws1 ws2 e2.more i2 e2.grown e1.name ∙ e1.has f in
          let w1 : word_in ws1 s.which f ≡ word_in ws s.which f =
          word-later f ws ws1 e1.more s.which e1.grown sides.condition in
          let v1 : word_in ws1 v f ≡ word_in ws v f = word-later f ws ws1 e1.more v e1.grown
          entry.value_name in
          let y1 : word_in ws1 value f ≡ word_in ws value f =
          word-later f ws ws1 e1.more value e1.grown value_below in
          let y : word_in ws2 v2 f ≡ cond c (word_in ws v f) (word_in ws value f) =
          e2.has f ∙ (λ t. cond (is_nonzero (w1 t)) (v1 t) (y1 t)) in
          let was : cond (c && holds_in ws s.live f)
          (slice_set (elements_in ws of f) (low_word (word_in ws i f)) (word_in ws v f)) (elements_in ws of f)
          ≡ elements_in ws k f =
          sym (entry.has f ∙ ap (λ b. cond b (slice_set (elements_in ws of f) (low_word (word_in ws i f))
          (word_in ws v f))
          (elements_in ws of f)) (sides.first f)) in
          let other : (not c && holds_in ws s.live f) ≡ holds_in ws s.second f = sym (sides.second f) in
          e3.has f
          ∙ (λ t. cond (is_nonzero (l t)) (slice_set (e t) (low_word (x t)) (y t)) (e t))
          ∙ one-write c (holds_in ws s.live f) (elements_in ws of f) (word_in ws i f) (word_in ws index f)
          (word_in ws v f)
          (word_in ws value f)
          ∙ (λ t. cond (other t) (slice_set (was t) (low_word (word_in ws index f)) (word_in ws value f))
          (was t));
    }

-- the sides of a branch, after more words
pub sides-later : (ws more new : List WordOp) (s : Sides) → AreSides ws s → new ≡ ws ++ more → AreSides new s
sides-later ws more new s sides grown =
    let le : length ws ≤ length new = omega (arith, ap length grown, length-append ws more) in
    let which : (f : Assignment) → holds_in ws s.which f ≡ holds_in new s.which f =
    λ f. sym (ap is_nonzero (word-later f ws new more s.which grown sides.condition)) in
    let live : (f : Assignment) → holds_in ws s.live f ≡ holds_in new s.live f =
    λ f. sym (ap is_nonzero (word-later f ws new more s.live grown sides.came)) in
    record {
      condition = omega (arith, sides.condition, le);
      came = omega (arith, sides.came, le);
      first_name = omega (arith, sides.first_name, le);
      second_name = omega (arith, sides.second_name, le);
      first = λ f. ap is_nonzero (word-later f ws new more s.first grown sides.first_name) ∙ sides.first f
          ∙ (λ t. which f t && live f t);
      second = λ f. ap is_nonzero (word-later f ws new more s.second grown sides.second_name) ∙ sides.second f
          ∙ (λ t. not (which f t) && live f t);
    }
