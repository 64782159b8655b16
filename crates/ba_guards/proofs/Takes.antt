-- What the values of a choice do, from the words that are made for them.
use Rattle.std.proofs.Common.{rules, ◌≡◌, ℕ, ◌<◌, ℤ, pos, Bool, true, ◌||◌, cond, Some, None, option_map, [], ◌∷◌, length, take, refl, sym, ap, ◌++◌}
use Rattle.std.specs.Ordering.{int_eq}
use Rattle.std.specs.Prelude.{slice_set}
use Rattle.std.proofs.Math.Bool.{and-true}
use Rattle.ba_code.specs.Facts.{Declared, is_var}
use Rattle.ba_code.specs.Meaning.{if_taken, taken}
use Rattle.ba_code.specs.State.{CodeState, set_variable, with_variable}
use Rattle.ba_code.specs.declared.nodes.Take.{Take}
use Rattle.ba_code.specs.declared.nodes.Take.TheVariants.{Value, Truth, Nothing}
use Rattle.ba_code_laws.specs.Tracing.{untraced}
use Rattle.ba_guards.proofs.Going.{extends-none, means-as, means-steady, traced_of}
use Rattle.ba_guards.proofs.Leaves.{assign-means, leaf-runs}
use Rattle.ba_guards.proofs.Going.{left-resting}
use Rattle.ba_guards.specs.Continuing.{labels_of}
use Rattle.ba_guards.specs.Making.{Fits, Means, picked, values_in, word_in}
use Rattle.ba_guards.specs.Reading.{arrays_at, is_live, left_from, met, places_at, variables_at}
use Rattle.ba_guards.specs.declared.builder.Builder.{Builder}
use Rattle.ba_numbers.specs.Numbers.{is_in}
use Rattle.ba_numbers.specs.declared.numbers.CType.{CType}
use Rattle.ba_wordlist.specs.Meaning.{Assignment, values_of}

var-below : (d : Declared) (to : ℕ) → is_var d to ≡ true → to < d.vars
var-below d to h = search rules

-- one value that a variable gets
value-side : (d : Declared) (b : Builder) (to w : ℕ) (take : Take) (fits : ℤ → Bool) → Fits d b →
    is_var d to ≡ true
    → w < length b.words
    → ((z : ℤ) (c : CodeState) → fits z ≡ true → taken d.arrays take (z ∷ []) c ≡ Some (with_variable to z c))
    → ((f : Assignment) → fits (word_in b.words w f) ≡ true)
    → Means d (λ f r. picked d take (values_in b.words (w ∷ []) f)) b (record b {
      vars = slice_set b.vars to w;
      written = b.written ++ to ∷ [];
    })
value-side d b to w take fits fit there name takes right =
    means-as d (λ f r. untraced (λ c. set_variable to (word_in b.words w f) c))
    (λ f r. picked d take (values_in b.words (w ∷ []) f)) b
    (record b { vars = slice_set b.vars to w; written = b.written ++ to ∷ [] })
    (assign-means d b fit to (λ f c. word_in b.words w f) w (var-below d to there) name (λ f cs. refl))
    (λ f r cs. sym (ap (λ x. untraced (λ c. if_taken x c) (traced_of f b cs))
    (takes (word_in b.words w f) (traced_of f b cs).code (right f))))

pub take-value : (d : Declared) (b : Builder) (to w : ℕ) (t : CType) → Fits d b → is_var d to ≡ true →
    w < length b.words
    → ((f : Assignment) → is_in t (word_in b.words w f) ≡ true)
    → Means d (λ f r. picked d (Value to t) (values_in b.words (w ∷ []) f)) b (record b {
      vars = slice_set b.vars to w;
      written = b.written ++ to ∷ [];
    })
take-value d b to w t fit there name right = value-side d b to w (Value to t) (is_in t) fit there name
    (λ z c h. ap (λ b. option_map (λ z. with_variable to z c) (cond b (Some z) None)) h) right

pub take-truth : (d : Declared) (b : Builder) (to w : ℕ) → Fits d b → is_var d to ≡ true → w < length b.words
    → ((f : Assignment) →
    (int_eq (word_in b.words w f) (pos 0) || int_eq (word_in b.words w f) (pos 1)) ≡ true)
    → Means d (λ f r. picked d (Truth to) (values_in b.words (w ∷ []) f)) b (record b {
      vars = slice_set b.vars to w;
      written = b.written ++ to ∷ [];
    })
take-truth d b to w fit there name right = value-side d b to w (Truth to) (λ z. int_eq z (pos 0) || int_eq
    z (pos 1)) fit there name
    (λ z c h. ap (λ b. option_map (λ z. with_variable to z c) (cond b (Some z) None)) h) right

-- nothing happens
pub take-nothing : (d : Declared) (b : Builder) → Fits d b
    → Means d (λ f r. picked d Nothing (values_in b.words [] f)) b b
take-nothing d b fits = means-steady d (λ f r. picked d Nothing []) b b (λ f. true) (record {
  extends = extends-none b;
  fits = fits;
  logs = λ f. refl;
  keeps = λ f. sym (and-true (met f b));
  runs = λ r f cs.
      let vs = values_of f b.words in
      leaf-runs (labels_of b.exits) (picked d Nothing []) (is_live vs b) (variables_at vs b.vars)
      (variables_at vs b.vars) (left_from vs 0 b.exits) (arrays_at vs b.arrays) (arrays_at vs b.arrays)
      (places_at vs b) cs
      (left-resting vs 0 b.exits) (λ on. refl) (λ off. refl);
})
