-- Words that are added to a list.
use Rattle.std.proofs.Common.{◌≡◌, ℕ, ◌<◌, ℤ, pos, true, Some, List, [], ◌∷◌, ◌++◌, length, get_or, slice_get, sym, ◌∙◌, ap, subst, arith, append-nil}
use Rattle.std.proofs.lemmas.List.{length_push}
use Rattle.std.proofs.lemmas.Option.{slice_get_within}
use Rattle.ba_guards.specs.Making.{Emits, EmitsArray, word_in}
use Rattle.ba_wordlist.proofs.Lengths.{length-last, words-push}
use Rattle.ba_wordlist.proofs.Values.{elements-last, value-const}
use Rattle.ba_wordlist.specs.Facts.{are_words, fits_behind, length_of, lengths_of}
use Rattle.ba_wordlist.specs.Meaning.{Assignment, elements_at, entry_of, value_at, values_of}
use Rattle.ba_wordlist.specs.declared.words.WordOp.{WordOp}
use Rattle.ba_wordlist.specs.declared.words.WordOp.TheVariants.{Const}

pub emits-push : (old new : List WordOp) (w : ℕ) (op : WordOp) (h : Assignment → ℤ) → w ≡ length old
    → new ≡ old ++ op ∷ [] → are_words old ≡ true → fits_behind (lengths_of old) op ≡ true
    → ((f : Assignment) → get_or (entry_of (f (length old)) (values_of f old) op) 0 (pos 0) ≡ h f)
    → Emits old new w h
emits-push old new w op h name grown fit fits has = record {
  more = op ∷ [];
  grown = grown;
  fit = subst (λ ws. are_words ws ≡ true) (sym grown) (words-push old op fit fits);
  name = omega (arith, name, ap length grown, length_push old op);
  has = λ f. ap (λ ws. value_at (values_of f ws) w) grown
      ∙ ap (value_at (values_of f (old ++ op ∷ []))) name
      ∙ ap (λ zs. get_or zs 0 (pos 0)) (elements-last f old op) ∙ has f;
}

pub array-push : (old new : List WordOp) (w count : ℕ) (op : WordOp) (h : Assignment → List ℤ) →
    w ≡ length old
    → new ≡ old ++ op ∷ [] → are_words old ≡ true → fits_behind (lengths_of old) op ≡ true
    → length_of (lengths_of old) op ≡ count
    → ((f : Assignment) → entry_of (f (length old)) (values_of f old) op ≡ h f)
    → EmitsArray old new w count h
array-push old new w count op h name grown fit fits long has = record {
  more = op ∷ [];
  grown = grown;
  fit = subst (λ ws. are_words ws ≡ true) (sym grown) (words-push old op fit fits);
  name = omega (arith, name, ap length grown, length_push old op);
  long = ap (λ ws. get_or (lengths_of ws) w 1) grown
      ∙ ap (λ w. get_or (lengths_of (old ++ op ∷ [])) w 1) name ∙ length-last old op ∙ long;
  has = λ f. ap (λ ws. elements_at (values_of f ws) w) grown
      ∙ ap (elements_at (values_of f (old ++ op ∷ []))) name ∙ elements-last f old op ∙ has f;
}

-- a word that was there
pub emits-old : (old new : List WordOp) (w : ℕ) (h : Assignment → ℤ) → new ≡ old → are_words old ≡ true
    → w < length old → ((f : Assignment) → word_in old w f ≡ h f) → Emits old new w h
emits-old old new w h same fit name has = record {
  more = [];
  grown = same ∙ sym (append-nil old);
  fit = subst (λ ws. are_words ws ≡ true) (sym same) fit;
  name = omega (arith, name, ap length same);
  has = λ f. ap (λ ws. value_at (values_of f ws) w) same ∙ has f;
}

pub emits-constant : (old new : List WordOp) (w : ℕ) (z : ℤ) → new ≡ old → are_words old ≡ true
    → slice_get old w ≡ Some (Const z) → Emits old new w (λ f. z)
emits-constant old new w z same fit found = emits-old old new w (λ f. z) same fit
    (slice_get_within old w (Const z) found) (λ f. value-const f old w z found)

pub emits-as : (old new : List WordOp) (w : ℕ) (g h : Assignment → ℤ) → Emits old new w g
    → ((f : Assignment) → g f ≡ h f) → Emits old new w h
emits-as old new w g h e same = record {
  more = e.more;
  grown = e.grown;
  fit = e.fit;
  name = e.name;
  has = λ f. e.has f ∙ same f;
}
