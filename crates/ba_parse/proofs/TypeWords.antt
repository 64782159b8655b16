-- The words of a type, one after another.

use Rattle.std.proofs.lemmas.Bool.{false≢true}
use Rattle.std.proofs.Common.{◌≡◌, ◌<◌, Bool, true, false, if◌then◌else◌, List, [], ◌∷◌, ◌++◌, length, map, Err, append_assoc, refl, sym, ap, ◌∙◌, arith}
use Rattle.std.proofs.lemmas.List.{append-nil, map-append}
use Rattle.std.specs.List.{list_any}
use Rattle.ba_tokens.specs.declared.token.Token.{Token}
use Rattle.ba_trees.specs.declared.class.TokenClass.{TokenClass}
use Rattle.ba_parse.specs.declared.reader.Stop.{Stop}
use Rattle.ba_parse.specs.declared.reader.Stop.TheVariants as stop
use Rattle.ba_trees.specs.Classes.{class_of, type_word, declaration_word}
use Rattle.ba_trees.specs.Marks.{Mark, leaf}
use Rattle.ba_parse.specs.Readings.{Answer, done, syntax, too_deep, with_front, next_is, words_after, after_words}
use Rattle.ba_parse.specs.Telling.{Told, next_word, agrees_with}

abbrev pub leaves : List Token → List Mark
leaves ws = map leaf ws

abbrev pub classes : List Token → List TokenClass
classes ws = map class_of ws

pub classes-push : (ws : List Token) (w : Token) → classes (ws ++ w ∷ []) ≡ classes ws ++ class_of
    w ∷ []
classes-push ws w = map-append class_of ws (w ∷ [])

with_front-twice : (f g : List Mark) (a : Answer) → with_front f (with_front g a) ≡ with_front (f ++ g) a
with_front-twice f g (done h rest) = ap (λ x. done x rest) (sym (append_assoc f g h))
with_front-twice f g (syntax rest) = refl
with_front-twice f g (too_deep rest) = refl

-- the next word, by whether it agrees with those before it and whether it is a word of a type
abbrev word_read : Bool → Bool → Token → List Token → Answer
word_read agrees is t ts =
    if agrees then (if is then done (leaf t ∷ []) ts else syntax (t ∷ ts)) else syntax (t ∷ ts)

word_read-done : (agrees is : Bool) (t w : Token) (ts mid : List Token) → word_read agrees is t ts
    ≡ done (leaf w ∷ []) mid → (agrees ≡ true) × (is ≡ true) × (t ≡ w) × (ts ≡ mid)
word_read-done true true t w ts mid e = (refl, refl, cc, cc)
word_read-done true false t w ts mid e = absurd cc
word_read-done false is t w ts mid e = absurd cc

word_read-stops : (agrees is : Bool) (t : Token) (ts rest : List Token) → is ≡ true →
    word_read agrees is t ts ≡ syntax rest → (agrees ≡ false) × (syntax (t ∷ ts) ≡ syntax rest)
word_read-stops true true t ts rest word e = absurd cc
word_read-stops true false t ts rest word e = absurd (false≢true word)
word_read-stops false is t ts rest word e = (refl, e)

word_read-shallow : (agrees is : Bool) (t : Token) (ts rest : List Token) → word_read agrees is t ts
    ≡ too_deep rest → ⊥
word_read-shallow true true t ts rest e = cc
word_read-shallow true false t ts rest e = cc
word_read-shallow false is t ts rest e = cc

-- what is read if the word is one of a type and agrees, and if it does not agree
both_hold : (is agrees : Bool) (x y z : Answer) → is ≡ true → agrees ≡ true →
    (if is then (if agrees then x else y) else z) ≡ x
both_hold is agrees x y z i a = rw (i, a) refl

one_holds : (is agrees : Bool) (x y z : Answer) → is ≡ true → agrees ≡ false →
    (if is then (if agrees then x else y) else z) ≡ y
one_holds is agrees x y z i a = rw (i, a) refl

moved : (f : Token → List Token → Answer) (t w : Token) (ts mid : List Token) → t ≡ w → ts ≡ mid → f t ts
    ≡ f w mid
moved f t w ts mid e same = rw (e, same) refl

-- the next word is read
word-done : (static : Bool) (ws : List Token) (ts mid : List Token) (w : Token) →
    next_word static (classes ws) ts ≡ done (leaf w ∷ []) mid → words_after static (classes ws) ts
    ≡ with_front (leaf w ∷ []) (words_after static (classes ws ++ class_of w ∷ []) mid)
unfolding words_after
word-done static ws [] mid w e = absurd cc
word-done static ws (t ∷ ts) mid w e =
    let p = word_read-done (agrees_with (classes ws) (t ∷ ts)) (declaration_word static (class_of t)) t w ts
    mid e in
    both_hold _ _ _ _ _ p.1 p.0 ∙ moved (λ u us. with_front (leaf u ∷ [])
    (words_after static (classes ws ++ class_of u ∷ []) us)) t w ts mid p.2 p.3

-- it does not agree
word-stop : (static : Bool) (ws : List Token) (ts rest : List Token) → next_is (declaration_word static)
    ts ≡ true → next_word static (classes ws) ts ≡ syntax rest → words_after static (classes ws) ts ≡ syntax
    rest
unfolding words_after
word-stop static ws [] rest next e = absurd (false≢true next)
word-stop static ws (t ∷ ts) rest next e =
    let p = word_read-stops (agrees_with (classes ws) (t ∷ ts)) (declaration_word static (class_of t)) t ts
    rest next e in
    one_holds _ _ _ _ _ next p.0 ∙ p.1

never_deep : (static : Bool) (ws : List Token) (ts rest : List Token) → next_word static (classes ws) ts
    ≡ too_deep rest → ⊥
never_deep static ws [] rest e = cc
never_deep static ws (t ∷ ts) rest e =
    word_read-shallow (agrees_with (classes ws) (t ∷ ts)) (declaration_word static (class_of t)) t ts rest e

words-end : (static : Bool) (before : List TokenClass) (ts : List Token) → next_is (declaration_word static)
    ts ≡ false → words_after static before ts ≡ after_words before ts
unfolding words_after
words-end static before [] next = refl
words-end static before (t ∷ ts) next = rw next refl

shorter : (t : Token) (ts mid : List Token) → ts ≡ mid → length mid < length (t ∷ ts)
shorter t ts mid same = rw same (omega arith)

pub word-shorter : (static : Bool) (ws : List Token) (ts mid : List Token) (w : Token) →
    next_word static (classes ws) ts ≡ done (leaf w ∷ []) mid → length mid < length ts
word-shorter static ws [] mid w e = absurd cc
word-shorter static ws (t ∷ ts) mid w e =
    let p = word_read-done (agrees_with (classes ws) (t ∷ ts)) (declaration_word static (class_of t)) t w ts
    mid e in
    shorter t ts mid p.3

-- The whole is the words that were read, and then what is read after them. So it goes on,
pub words-turn : (whole : Answer) (static : Bool) (ws all : List Token) (w : Token)
    (ts mid : List Token) → whole ≡ with_front (leaves ws) (words_after static (classes ws) ts) →
    next_word static (classes ws) ts ≡ done (leaf w ∷ []) mid → all ≡ ws ++ w ∷ [] →
    whole ≡ with_front (leaves all) (words_after static (classes all) mid)
words-turn whole static ws all w ts mid h d push =
    let more : leaves (ws ++ w ∷ []) ≡ leaves ws ++ leaf w ∷ [] =
    map-append leaf ws (w ∷ []) in
    rw (push, more, classes-push ws w) (h ∙ ap (with_front (leaves ws)) (word-done static ws ts mid w d)
    ∙ with_front-twice (leaves ws) (leaf w ∷ [])
    (words_after static (classes ws ++ class_of w ∷ []) mid))

-- stops,
pub words-stop : (s : Stop) (whole : Answer) (static : Bool) (ws : List Token) (ts rest : List Token) →
    whole ≡ with_front (leaves ws) (words_after static (classes ws) ts) → next_is (declaration_word static) ts
    ≡ true → Told {A = List Mark} (λ f. f) (Err s) (next_word static (classes ws) ts) rest →
    Told {A = List Mark} (λ f. f) (Err s) whole rest
words-stop stop.Syntax whole static ws ts rest h next d = rw (h, word-stop static ws ts rest next d) refl
words-stop stop.TooDeep whole static ws ts rest h next d = absurd (never_deep static ws ts rest d)
words-stop stop.Memory whole static ws ts rest h next d = tt

-- or ends.
pub words-all : (whole : Answer) (static : Bool) (ws : List Token) (ts : List Token) →
    whole ≡ with_front (leaves ws) (words_after static (classes ws) ts) → next_is (declaration_word static) ts
    ≡ false → list_any type_word (classes ws) ≡ true → whole ≡ done (leaves ws) ts
words-all whole static ws ts h next some = rw (
  h,
  words-end static (classes ws) ts next,
  some,
  append-nil (leaves ws),
) refl

pub words-none : (whole : Answer) (static : Bool) (ws : List Token) (ts : List Token) →
    whole ≡ with_front (leaves ws) (words_after static (classes ws) ts) → next_is (declaration_word static) ts
    ≡ false → list_any type_word (classes ws) ≡ false → whole ≡ syntax ts
words-none whole static ws ts h next some = rw (h, words-end static (classes ws) ts next, some) refl
