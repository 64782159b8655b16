-- Expressions: which are equal, what they have in a list, and the table of their numbers.
use Rattle.std.proofs.Common.{rules, ◌≡◌, ℕ, ◌<◌, ℤ, pos, Bool, true, false, ◌&&◌, cond, Option, Some, List, [], ◌∷◌, ◌++◌, length, get_or, take, drop, slice_get, eqb, inl, inr, refl, sym, ◌∙◌, ap, subst, arith}
use Rattle.std.proofs.lemmas.Bool.{and_parts, eqb-true, false≢true}
use Rattle.std.proofs.lemmas.Bool.Decides.{Decides-int_eq}
use Rattle.std.proofs.lemmas.List.{get_or_at, length-take-le, length_push, take-append-drop}
use Rattle.std.proofs.lemmas.Option.{slice_get_within, slice_get-get_or}
use Rattle.std.specs.HashMap.{HashMap, Updates, get}
use denote.Enum.Bare.{sameb, same_true}
use Rattle.ba_code.specs.Operators.{converting}
use Rattle.ba_guards.proofs.Emitting.{emits-old, emits-push}
use Rattle.ba_guards.proofs.Growing.{slice-kept}
use Rattle.ba_guards.specs.Sharing.{AreNumbered, entry}
use Rattle.ba_guards.specs.Making.{Emits, StandsAt}
use Rattle.ba_guards.specs.contracts.expressions.ExpressionPartialEq.TheImpl.{eq-value}
use Rattle.ba_guards.specs.declared.expressions.Expression.{Expression}
use Rattle.ba_guards.specs.declared.expressions.Expression.TheVariants.{Const, Unary, Binary, Convert, Select, Read}
use Rattle.ba_numbers.specs.contracts.numbers.BinOp as binary
use Rattle.ba_numbers.specs.contracts.numbers.CType as ctype
use Rattle.ba_numbers.specs.contracts.numbers.UnOp as unary
use Rattle.ba_numbers.specs.declared.numbers.BinOp.{BinOp}
use Rattle.ba_numbers.specs.declared.numbers.CType.{CType}
use Rattle.ba_numbers.specs.declared.numbers.UnOp.{UnOp}
use Rattle.ba_numbers.specs.Numbers.{converted}
use Rattle.ba_numbers.specs.Types.{is_promoted}
use Rattle.ba_wordlist.proofs.Lengths.{length-lengths, words-at}
use Rattle.ba_wordlist.proofs.Values.{SameBelow, elements-entry, elements-kept, of_name, value-same}
use Rattle.ba_wordlist.specs.Facts.{are_words, fits_behind, is_name, lengths_of}
use Rattle.ba_wordlist.specs.Meaning.{Assignment, binary_value, element_read, entry_of, is_nonzero, value_at, values_of}
use Rattle.ba_wordlist.specs.declared.words.WordOp.{WordOp}

-- EQUAL EXPRESSIONS

same-unary : (op other : UnOp) → sameb unary.the_type op other ≡ true → op ≡ other
same-unary op other h = same_true unary.the_type (search rules) op other h

same-binary : (op other : BinOp) → sameb binary.the_type op other ≡ true → op ≡ other
same-binary op other h = same_true binary.the_type (search rules) op other h

same-type : (t u : CType) → sameb ctype.the_type t u ≡ true → t ≡ u
same-type t u h = same_true ctype.the_type (search rules) t u h

pub same-expression : (e f : Expression) → eq-value.it e f ≡ true → e ≡ f
same-expression (Const y) (Const z) h = ap Const ((Decides-int_eq y z).0 h)
same-expression (Unary op t a) (Unary op' t' a') h =
    let all = and_parts (sameb unary.the_type op op') (sameb ctype.the_type t t' && eqb a a') h in
    let rest = and_parts (sameb ctype.the_type t t') (eqb a a') all.1 in
    let o : op ≡ op' = same-unary op op' all.0 in
    let u : t ≡ t' = same-type t t' rest.0 in
    let x : a ≡ a' = eqb-true a a' rest.1 in
    λ i. Unary (o i) (u i) (x i)
same-expression (Binary op t a b) (Binary op' t' a' b') h =
    let all = and_parts (sameb binary.the_type op op')
    (sameb ctype.the_type t t' && (eqb a a' && eqb b b')) h in
    let rest = and_parts (sameb ctype.the_type t t') (eqb a a' && eqb b b') all.1 in
    let two = and_parts (eqb a a') (eqb b b') rest.1 in
    let o : op ≡ op' = same-binary op op' all.0 in
    let u : t ≡ t' = same-type t t' rest.0 in
    let x : a ≡ a' = eqb-true a a' two.0 in
    let y : b ≡ b' = eqb-true b b' two.1 in
    λ i. Binary (o i) (u i) (x i) (y i)
same-expression (Convert t a) (Convert t' a') h =
    let all = and_parts (sameb ctype.the_type t t') (eqb a a') h in
    let u : t ≡ t' = same-type t t' all.0 in
    let x : a ≡ a' = eqb-true a a' all.1 in
    λ i. Convert (u i) (x i)
same-expression (Select w a b) (Select w' a' b') h =
    let all = and_parts (eqb w w') (eqb a a' && eqb b b') h in
    let rest = and_parts (eqb a a') (eqb b b') all.1 in
    let which : w ≡ w' = eqb-true w w' all.0 in
    let x : a ≡ a' = eqb-true a a' rest.0 in
    let y : b ≡ b' = eqb-true b b' rest.1 in
    λ i. Select (which i) (x i) (y i)
same-expression (Read a x) (Read a' x') h =
    let all = and_parts (eqb a a') (eqb x x') h in
    let array : a ≡ a' = eqb-true a a' all.0 in
    let index : x ≡ x' = eqb-true x x' all.1 in
    λ i. Read (array i) (index i)
same-expression e f h = absurd (false≢true h)

-- WHAT AN EXPRESSION HAS

value-named : (ls : List ℕ) (vs us : List (List ℤ)) (w : ℕ) → SameBelow (length ls) vs us
    → is_name (length ls) w ≡ true → value_at vs w ≡ value_at us w
value-named ls vs us w same named = value-same (length ls) w vs us same (of_name (length ls) w named)

-- it has the same wherever what it names is the same
same-entry : (y z : ℤ) (ls : List ℕ) (vs us : List (List ℤ)) (e : Expression) → SameBelow (length ls) vs us
    → fits_behind ls (entry e) ≡ true → entry_of y vs (entry e) ≡ entry_of z us (entry e)
same-entry y z ls vs us (Const v) same fits = refl
same-entry y z ls vs us (Unary op t a) same fits =
    let all = and_parts (is_promoted t) (is_name (length ls) a) fits in
    ap (λ x. converting.unary op t x ∷ []) (value-named ls vs us a same all.1)
same-entry y z ls vs us (Binary op t a b) same fits =
    let all = and_parts (is_promoted t && is_name (length ls) a) (is_name (length ls) b) fits in
    let two = and_parts (is_promoted t) (is_name (length ls) a) all.0 in
    let left = value-named ls vs us a same two.1 in
    let right = value-named ls vs us b same all.1 in
    λ i. binary_value op t (left i) (right i) ∷ []
same-entry y z ls vs us (Convert t a) same fits =
    ap (λ x. converted t x ∷ []) (value-named ls vs us a same fits)
same-entry y z ls vs us (Select c a b) same fits =
    let all = and_parts (is_name (length ls) c && is_name (length ls) a) (is_name (length ls) b) fits in
    let two = and_parts (is_name (length ls) c) (is_name (length ls) a) all.0 in
    let which = value-named ls vs us c same two.0 in
    let left = value-named ls vs us a same two.1 in
    let right = value-named ls vs us b same all.1 in
    λ i. cond (is_nonzero (which i)) (left i) (right i) ∷ []
same-entry y z ls vs us (Read a x) same fits =
    let all = and_parts (is_name (length ls) a) (is_name (length ls) x) fits in
    let array = same a (of_name (length ls) a all.0) in
    let index = value-named ls vs us x same all.1 in
    λ i. element_read (array i) (index i) ∷ []

-- what it has where it is is what it would have after the list
value-stands : (f : Assignment) (ws : List WordOp) (w : ℕ) (e : Expression) → are_words ws ≡ true
    → slice_get ws w ≡ Some (entry e) → value_at (values_of f ws) w
    ≡ get_or (entry_of (f (length ws)) (values_of f ws) (entry e)) 0 (pos 0)
value-stands f ws w e fit found =
    let front = take w ws in
    let within : w < length ws = slice_get_within ws w (entry e) found in
    let long : length front ≡ w = length-take-le w ws (omega (arith, within)) in
    let whole : front ++ drop w ws ≡ ws = take-append-drop w ws in
    let kept : SameBelow (length front) (values_of f ws) (values_of f front) =
    subst (λ ops. SameBelow (length front) (values_of f ops) (values_of f front)) whole
    (elements-kept f front (drop w ws)) in
    let same : SameBelow (length (lengths_of front)) (values_of f front) (values_of f ws) =
    λ k below. sym (kept k (omega (arith, below, length-lengths front))) in
    ap (λ zs. get_or zs 0 (pos 0))
    (elements-entry f ws w (entry e) found
    ∙ same-entry (f w) (f (length ws)) (lengths_of front) (values_of f front) (values_of f ws) e same
    (words-at ws w (entry e) fit found))

pub emits-made : (old new : List WordOp) (w : ℕ) (e : Expression) (h : Assignment → ℤ)
    → StandsAt old new w (entry e) → are_words old ≡ true → fits_behind (lengths_of old) (entry e) ≡ true
    → ((f : Assignment) → get_or (entry_of (f (length old)) (values_of f old) (entry e)) 0 (pos 0) ≡ h f)
    → Emits old new w h
emits-made old new w e h (inl there) fit fits has = emits-old old new w h there.0 fit
    (slice_get_within old w (entry e) there.1) (λ f. value-stands f old w e fit there.1 ∙ has f)
emits-made old new w e h (inr added) fit fits has =
    emits-push old new w (entry e) h added.0 added.1 fit fits has

-- THE TABLE

pub numbered-push : (ws : List WordOp) (op : WordOp) (numbers : Expression → Option ℕ)
    → AreNumbered ws numbers → AreNumbered (ws ++ op ∷ []) numbers
numbered-push ws op numbers stand e word found = slice-kept ws (op ∷ []) word (entry e) (stand e word found)

pub stands-last : (old new : List WordOp) (op : WordOp) (w : ℕ) → w ≡ length old → new ≡ old ++ op ∷ []
    → slice_get new w ≡ Some op
stands-last old new op w at grown =
    let within : w < length (old ++ op ∷ []) = omega (arith, at, length_push old op) in
    ap (λ ws. slice_get ws w) grown ∙ slice_get-get_or (old ++ op ∷ []) w op within
    ∙ ap Some (get_or_at old op [] op w (sym at))

module _ {S : Type 0} (ws : List WordOp) (m n : HashMap Expression ℕ S) where
  pub numbered-put : (e : Expression) (w : ℕ) → slice_get ws w ≡ Some (entry e)
      → Updates eq-value.it m n e (Some w) → AreNumbered ws (get eq-value.it m)
      → AreNumbered ws (get eq-value.it n)
  numbered-put e w there updates stand f word found = by (eq-value.it e f) refl
    where
      by : (b : Bool) → eq-value.it e f ≡ b → slice_get ws word ≡ Some (entry f)
      by true is =
          let both : Some w ≡ Some word =
          sym (updates.0 f ∙ ap (λ b. cond b (Some w) (get eq-value.it m f)) is) ∙ found in
          let number : w ≡ word = cc in
          ap (slice_get ws) (sym number) ∙ there ∙ ap (λ x. Some (entry x)) (same-expression e f is)
      by false is = stand f word (sym (updates.2 f is) ∙ found)
