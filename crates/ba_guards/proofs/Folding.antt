-- Operators at constants, and the exit of a label.
use Rattle.std.proofs.Common.{◌≡◌, ℕ, zero, suc, ◌+◌, ◌<◌, ◌≤◌, ◌==◌, ℤ, Bool, true, false, cond, Option, Some, None, List, [], ◌∷◌, length, drop, slice_get, refl, sym, ◌∙◌, ap, subst, arith}
use Rattle.std.specs.Prelude.{IfSome}
use Rattle.ba_code.specs.Operators.{converting}
use Rattle.ba_guards.proofs.Emitting.{emits-as, emits-old}
use Rattle.ba_guards.specs.Continuing.{exit_from, labels_of}
use Rattle.ba_guards.specs.Making.{Emits, word_in}
use Rattle.ba_guards.specs.declared.exits.Exit.{Exit}
use Rattle.ba_numbers.specs.Numbers.{IsIn, converted, value_of, value_of_one}
use Rattle.ba_numbers.specs.declared.numbers.BinOp.{BinOp}
use Rattle.ba_numbers.specs.declared.numbers.CType.{CType}
use Rattle.ba_numbers.specs.declared.numbers.UnOp.{UnOp}
use Rattle.ba_numbers.specs.Types.{shifts}
use Rattle.ba_wordlist.proofs.Lengths.{in-word}
use Rattle.ba_wordlist.proofs.Values.{value-const}
use Rattle.ba_wordlist.specs.Facts.{are_words, is_word_value}
use Rattle.ba_wordlist.specs.Meaning.{Assignment, binary_value, is_nonzero, value_at_zero, value_or}
use Rattle.ba_wordlist.specs.declared.words.WordOp.{WordOp}
use Rattle.ba_wordlist.specs.declared.words.WordOp.TheVariants.{Const}

-- OPERATORS AT CONSTANTS

pub unary-folded : (old new : List WordOp) (w a : ℕ) (op : UnOp) (t : CType) (z y v : ℤ) →
    are_words old ≡ true
    → slice_get old a ≡ Some (Const z) → y ≡ converted t z → v ≡ value_of_one op t y → IsIn t v
    → (are_words old ≡ true → is_word_value v ≡ true → Emits old new w (λ f. v))
    → Emits old new w (λ f. converting.unary op t (word_in old a f))
unary-folded old new w a op t z y v fit found conv value range emits =
    emits-as old new w (λ f. v) (λ f. converting.unary op t (word_in old a f)) (emits fit (in-word t v range))
    (λ f. value ∙ ap (value_of_one op t) (conv ∙ ap (converted t) (sym (value-const f old a z found))))

pub convert-folded : (old new : List WordOp) (w a : ℕ) (t : CType) (z v : ℤ) → are_words old ≡ true
    → slice_get old a ≡ Some (Const z) → v ≡ converted t z → IsIn t v
    → (are_words old ≡ true → is_word_value v ≡ true → Emits old new w (λ f. v))
    → Emits old new w (λ f. converted t (word_in old a f))
convert-folded old new w a t z v fit found value range emits =
    emits-as old new w (λ f. v) (λ f. converted t (word_in old a f)) (emits fit (in-word t v range))
    (λ f. value ∙ ap (converted t) (sym (value-const f old a z found)))

pub binary-computed : (ws : List WordOp) (a b : ℕ) (op : BinOp) (t : CType) (x y x' y' : ℤ) (o : Option ℤ)
    → slice_get ws a ≡ Some (Const x) → slice_get ws b ≡ Some (Const y) → x' ≡ converted t x
    → y' ≡ cond (shifts op) y (converted t y) → o ≡ value_of op t x' y' → IfSome o (IsIn t)
    → IfSome o (λ z. (is_word_value z ≡ true)
    × ((f : Assignment) → binary_value op t (word_in ws a f) (word_in ws b f) ≡ z))
binary-computed ws a b op t x y x' y' None found_a found_b is_x is_y value range = tt
binary-computed ws a b op t x y x' y' (Some z) found_a found_b is_x is_y value range = (
  in-word t z range,
  λ f.
      let here : converting.binary op t (word_in ws a f) (word_in ws b f) ≡ Some z =
      ap (λ x. converting.binary op t x (word_in ws b f)) (value-const f ws a x found_a)
      ∙ ap (λ y. converting.binary op t x y) (value-const f ws b y found_b)
      ∙ ap (λ x. value_of op t x (cond (shifts op) y (converted t y))) (sym is_x)
      ∙ ap (λ y. value_of op t x' y) (sym is_y) ∙ sym value in
      ap (λ o. value_or o (value_at_zero op t (word_in ws a f))) here,
)

pub binary-folded : (old new : List WordOp) (w a b : ℕ) (op : BinOp) (t : CType) (z : ℤ) →
    are_words old ≡ true
    → (is_word_value z ≡ true) × ((f : Assignment) →
    binary_value op t (word_in old a f) (word_in old b f) ≡ z)
    → (are_words old ≡ true → is_word_value z ≡ true → Emits old new w (λ f. z))
    → Emits old new w (λ f. binary_value op t (word_in old a f) (word_in old b f))
binary-folded old new w a b op t z fit known emits =
    emits-as old new w (λ f. z) (λ f. binary_value op t (word_in old a f) (word_in old b f)) (emits fit
    known.0)
    (λ f. sym (known.1 f))

-- A SELECT that needs no word

pub select-known : (old : List WordOp) (c y n : ℕ) (z : ℤ) (f : Assignment) (b : Bool) →
    slice_get old c ≡ Some (Const z)
    → is_nonzero z ≡ b
    → cond b (word_in old y f) (word_in old n f) ≡ cond (is_nonzero (word_in old c f)) (word_in old y f)
    (word_in old n f)
select-known old c y n z f b found is =
    ap (λ b. cond b (word_in old y f) (word_in old n f)) (sym (ap is_nonzero (value-const f old c z found)
    ∙ is))

pub select-constant : (old : List WordOp) (c y n w : ℕ) (z : ℤ) → are_words old ≡ true →
    slice_get old c ≡ Some (Const z)
    → w ≡ cond (is_nonzero z) y n → y < length old → n < length old
    → Emits old old w (λ f. cond (is_nonzero (word_in old c f)) (word_in old y f) (word_in old n f))
select-constant old c y n w z fit found is below_y below_n = by (is_nonzero z) refl is where
  by : (b : Bool) → is_nonzero z ≡ b → w ≡ cond b y n
      → Emits old old w (λ f. cond (is_nonzero (word_in old c f)) (word_in old y f) (word_in old n f))
  by true t e = subst (λ w. Emits old old w (λ f. cond (is_nonzero (word_in old c f)) (word_in old y f)
      (word_in old n f))) (sym e)
      (emits-old old old y (λ f. cond (is_nonzero (word_in old c f)) (word_in old y f) (word_in old n f))
      refl fit below_y
      (λ f. select-known old c y n z f true found t))
  by false t e = subst (λ w. Emits old old w (λ f. cond (is_nonzero (word_in old c f)) (word_in old y f)
      (word_in old n f))) (sym e)
      (emits-old old old n (λ f. cond (is_nonzero (word_in old c f)) (word_in old y f) (word_in old n f))
      refl fit below_n
      (λ f. select-known old c y n z f false found t))

-- THE EXIT OF A LABEL, one exit after the other

drop-end : (es : List Exit) (i : ℕ) → length es ≤ i → drop i (labels_of es) ≡ []
drop-end [] zero h = refl
drop-end [] (suc i) h = refl
drop-end (x ∷ es) zero h = absurd (omega (arith, h))
drop-end (x ∷ es) (suc i) h = drop-end es i (omega (arith, h))

pub exit-end : (es : List Exit) (i found label : ℕ) → length es ≤ i →
    exit_from i found label (drop i (labels_of es)) ≡ found
exit-end es i found label h = ap (exit_from i found label) (drop-end es i h)

drop-next : (es : List Exit) (i : ℕ) (e : Exit) → slice_get es i ≡ Some e
    → drop i (labels_of es) ≡ e.label ∷ drop (suc i) (labels_of es)
drop-next [] i e here = absurd (let f : None ≡ Some e = here in cc)
drop-next (x ∷ es) zero e here =
    let same : x ≡ e = cc in ap (λ l. l ∷ labels_of es) (ap (λ (e : Exit). e.label) same)
drop-next (x ∷ es) (suc i) e here = drop-next es i e here

pub exit-next : (es : List Exit) (i found label : ℕ) (e : Exit) → slice_get es i ≡ Some e
    → exit_from i found label (drop i (labels_of es)) ≡ exit_from (i + 1) (cond (label == e.label) i found)
    label (drop (i + 1) (labels_of es))
exit-next es i found label e here =
    let one : suc i ≡ i + 1 = omega arith in
    ap (exit_from i found label) (drop-next es i e here)
    ∙ ap (λ n. exit_from (i + 1) (cond (label == e.label) i found) label (drop n (labels_of es))) one
