-- Executions as bits, as nodes are added and one after the other.
use Rattle.std.proofs.Common.{◌≡◌, ℕ, zero, suc, ◌+◌, ◌<◌, ◌==◌, Bool, true, ◌&&◌, Option, Some, None, List, [], ◌∷◌, ◌++◌, map, length, get_or, take, refl, sym, ◌∙◌, ap, subst, arith, All, nat_lt}
use Rattle.std.proofs.lemmas.Bool.{and_parts, and_from, eq-eqb}
use Rattle.std.proofs.lemmas.List.{map-append, take_more}
use Rattle.std.proofs.lemmas.List.Elements.{All-from_recursion}
use Rattle.std.proofs.lemmas.List.Folds.{list_all-append}
use Rattle.std.proofs.lemmas.Option.{slice_get_within, get_or_from_slice_get}
use Rattle.std.specs.List.{AllByRecursion, list_all}
use Rattle.std.specs.Option.{ForSome}
use Rattle.ba_bits.specs.Bits.{AreEntriesOf, word_at}
use Rattle.ba_encode.specs.Parts.{ArePlaces, IsPlace, IsPlaceOf, are_long, is_set, selector_at}
use Rattle.ba_encode.specs.declared.places.PlaceBits.{PlaceBits}
use Rattle.ba_encode.specs.declared.places.ValueBits.{ValueBits}
use Rattle.ba_nodes.specs.declared.Bit.{Bit}
use Rattle.ba_nodes.specs.declared.Node.{Node}
use Rattle.ba_nodes.specs.Gates.{Extends, HasValue, IsBitOf}
use Rattle.ba_words.proofs.Circuits.{HasValue-same}
use Rattle.ba_words.proofs.Places.{number_of-extends}
use Rattle.ba_wordlist.specs.Facts.{are_names, are_typed, are_words, is_name, is_place, is_word_list}
use Rattle.ba_wordlist.specs.declared.words.PlaceWords.{PlaceWords}
use Rattle.ba_wordlist.specs.declared.words.WordList.{WordList}
use Rattle.ba_wordlist.specs.declared.words.WordOp.{WordOp}
use Rattle.ba_wordlist.proofs.Values.{of_name}

-- one element more of a list that is made by a function
pub map-more : {X Y : Type 0} (f : X → Y) (xs : List X) (i : ℕ) (d : X) (ys : List Y) (y : Y) → i < length xs
    → ys ≡ map f (take i xs) → y ≡ f (get_or xs i d) → ys ++ y ∷ [] ≡ map f (take (i + 1) xs)
map-more f xs i d ys y within so_far is =
    ap (λ zs. zs ++ y ∷ []) so_far ∙ ap (λ z. map f (take i xs) ++ z ∷ []) is
    ∙ sym (map-append f (take i xs) (get_or xs i d ∷ []))
    ∙ ap (map f) (sym (take_more xs i d within))

-- WHAT A WORD LIST KEEPS

pub record Fits (list : WordList) : Type 0 where
  pub are_words : are_words list.words ≡ true
  pub require : are_names (length list.words) list.require ≡ true
  pub places : list_all (is_place (length list.words)) list.places ≡ true
  pub typed : are_typed list.words list.places ≡ true

pub list-fits : (list : WordList) → Fits list
unfolding is_word_list
list-fits list =
    let all = and_parts (are_words list.words && are_names (length list.words) list.require
    && list_all (is_place (length list.words)) list.places) (are_typed list.words list.places)
    list.fit in
    let three = and_parts (are_words list.words && are_names (length list.words) list.require)
    (list_all (is_place (length list.words)) list.places) all.0 in
    let two = and_parts (are_words list.words) (are_names (length list.words) list.require) three.0 in
    record { are_words = two.0; require = two.1; places = three.1; typed = all.1 }

-- what a test of all elements says of one
pub all-at : {X : Type 0} (test : X → Bool) (xs : List X) (i : ℕ) (x : X) → i < length xs → x ≡ get_or xs i x
    → list_all test xs ≡ true → test x ≡ true
all-at test [] i x within is all = absurd (omega (arith, within))
all-at test (y ∷ ys) zero x within is all = ap test is ∙ (and_parts (test y) (list_all test ys) all).0
all-at test (y ∷ ys) (suc i) x within is all =
    all-at test ys i x (omega (arith, within)) is (and_parts (test y) (list_all test ys) all).1

pub name-at : (count : ℕ) (ws : List ℕ) (i : ℕ) → i < length ws → are_names count ws ≡ true →
    get_or ws i 0 < count
name-at count [] i within all = absurd (omega (arith, within))
name-at count (w ∷ ws) zero within all = of_name count w (and_parts (is_name count w) (are_names count ws)
    all).0
name-at count (w ∷ ws) (suc i) within all =
    name-at count ws i (omega (arith, within)) (and_parts (is_name count w) (are_names count ws) all).1

pub long-more : (values more : List ValueBits) (value : ValueBits) → more ≡ values ++ value ∷ []
    → are_long values ≡ true → length value.bits ≡ 32 → are_long more ≡ true
long-more values more value is long own =
    ap are_long is ∙ list_all-append (λ (v : ValueBits). length v.bits == 32) values (value ∷ [])
    ∙ and_from (are_long values) ((length value.bits == 32) && true) long
    (and_from (length value.bits == 32) true (eq-eqb (length value.bits) 32 own) refl)

-- WORDS of entries

pub HasValue-grown : (old new : List Node) (bit : Bit) (value : (ℕ → Bool) → Bool) → Extends old new
    → HasValue old bit value → HasValue new bit value
HasValue-grown old new bit value extends has = record {
  is_bit = omega (arith, extends.grows, has.is_bit);
  holds = λ free. extends.keeps free bit has.is_bit ∙ has.holds free;
}

pub set-grown : (free : ℕ → Bool) (old new : List Node) (entries : List (List (List Bit))) (w : ℕ) →
    Extends old new
    → AreEntriesOf old entries → is_set free new entries w ≡ is_set free old entries w
set-grown free old new entries w extends bits =
    ap (nat_lt 0) (number_of-extends free old new (word_at entries w) extends (bits w 0))

-- EXECUTIONS

pub place-rebased : (base old new : List Node) (words : List WordOp) (entries : List (List (List Bit))) (p
    : PlaceWords)
    (selector : Option Bit) (bits : PlaceBits) → Extends base old → AreEntriesOf base entries
    → IsPlace old words entries new p selector bits → IsPlace base words entries new p selector bits
place-rebased base old new words entries p selector bits extends are_bits is = record {
  selector_is = is.selector_is;
  guard = HasValue-same new bits.guard (λ free. is_set free old entries p.guard)
      (λ free. is_set free base entries p.guard) is.guard
      (λ free. set-grown free base old entries p.guard extends are_bits);
  keep = HasValue-same new bits.keep (λ free. is_set free old entries p.keep)
      (λ free. is_set free base entries p.keep) is.keep
      (λ free. set-grown free base old entries p.keep extends are_bits);
  values = is.values;
  long = is.long;
}

pub place-grown : (base old new : List Node) (words : List WordOp) (entries : List (List (List Bit))) (p :
    PlaceWords)
    (selector : Option Bit) (bits : PlaceBits) → Extends old new
    → IsPlace base words entries old p selector bits → IsPlace base words entries new p selector bits
place-grown base old new words entries p selector bits extends is = record {
  selector_is = is.selector_is;
  guard = HasValue-grown old new bits.guard (λ free. is_set free base entries p.guard) extends is.guard;
  keep = HasValue-grown old new bits.keep (λ free. is_set free base entries p.keep) extends is.keep;
  values = is.values;
  long = is.long;
}

pub places-grown : (base old new : List Node) (words : List WordOp) (entries : List (List (List Bit)))
    (selectors : List Bit) (ps : List PlaceWords) (gs : List (Option ℕ)) (bs : List PlaceBits) →
    Extends old new
    → ArePlaces base words entries selectors old ps gs bs →
    ArePlaces base words entries selectors new ps gs bs
places-grown base old new words entries selectors [] [] [] extends are = tt
places-grown base old new words entries selectors (p ∷ ps) (g ∷ gs) (b ∷ bs) extends are = (
  place-grown base old new words entries p (selector_at selectors g) b extends are.0,
  places-grown base old new words entries selectors ps gs bs extends are.1,
)
places-grown base old new words entries selectors _ _ _ extends are = absurd are

places-pushed : (base new : List Node) (words : List WordOp) (entries : List (List (List Bit)))
    (selectors : List Bit) (ps : List PlaceWords) (gs : List (Option ℕ)) (bs : List PlaceBits)
    (p : PlaceWords) (g : Option ℕ) (b : PlaceBits) → ArePlaces base words entries selectors new ps gs bs
    → IsPlace base words entries new p (selector_at selectors g) b
    → ArePlaces base words entries selectors new (ps ++ p ∷ []) (gs ++ g ∷ []) (bs ++ b ∷ [])
places-pushed base new words entries selectors [] [] [] p g b are is = (is, tt)
places-pushed base new words entries selectors (q ∷ ps) (h ∷ gs) (c ∷ bs) p g b are is =
    (are.0, places-pushed base new words entries selectors ps gs bs p g b are.1 is)
places-pushed base new words entries selectors _ _ _ p g b are is = absurd are

pub places-more : (base old new : List Node) (words : List WordOp) (entries : List (List (List Bit)))
    (selectors : List Bit) (ps : List PlaceWords) (gs : List (Option ℕ)) (bs : List PlaceBits) (i : ℕ)
    (p : PlaceWords) (b : PlaceBits) → i < length ps → i < length gs → p ≡ get_or ps i p → Extends base old
    → AreEntriesOf base entries → Extends old new
    → ArePlaces base words entries selectors old (take i ps) (take i gs) bs
    → IsPlace old words entries new p (selector_at selectors (get_or gs i None)) b
    → ArePlaces base words entries selectors new (take (i + 1) ps) (take (i + 1) gs) (bs ++ b ∷ [])
places-more base old new words entries selectors ps gs bs i p b within inside is first bits then are own =
    let ps_more : take i ps ++ p ∷ [] ≡ take (i + 1) ps =
    ap (λ q. take i ps ++ q ∷ []) is ∙ sym (take_more ps i p within) in
    let gs_more : take i gs ++ get_or gs i None ∷ [] ≡ take (i + 1) gs = sym (take_more gs i None inside) in
    subst (λ xs. ArePlaces base words entries selectors new xs (take (i + 1) gs) (bs ++ b ∷ [])) ps_more
    (subst (λ ys. ArePlaces base words entries selectors new (take i ps ++ p ∷ []) ys (bs ++ b ∷ [])) gs_more
    (places-pushed base new words entries selectors (take i ps) (take i gs) bs p (get_or gs i None) b
    (places-grown base old new words entries selectors (take i ps) (take i gs) bs then are)
    (place-rebased base old new words entries p (selector_at selectors (get_or gs i None)) b first bits own)))

-- the selector of a group is one of the selectors
selector-bit : (nodes : List Node) (selectors : List Bit) (g : Option ℕ) → All (IsBitOf nodes) selectors
    → ForSome (selector_at selectors g) (IsBitOf nodes)
selector-bit nodes selectors None all = λ s is. absurd (cc)
selector-bit nodes selectors (Some k) all = λ s is.
    let within = slice_get_within selectors k s is in
    subst (IsBitOf nodes) (get_or_from_slice_get selectors k s s is) (all k s within)

are-places-of : (base new : List Node) (words : List WordOp) (entries : List (List (List Bit)))
    (selectors : List Bit) (ps : List PlaceWords) (gs : List (Option ℕ)) (bs : List PlaceBits)
    → All (IsBitOf new) selectors → ArePlaces base words entries selectors new ps gs bs
    → AllByRecursion (IsPlaceOf new) bs
are-places-of base new words entries selectors [] [] [] all are = tt
are-places-of base new words entries selectors (p ∷ ps) (g ∷ gs) (b ∷ bs) all are = (
  record {
    selector = subst (λ s. ForSome s (IsBitOf new)) (sym are.0.selector_is) (selector-bit new selectors g
        all);
    guard = are.0.guard.is_bit;
    keep = are.0.keep.is_bit;
  },
  are-places-of base new words entries selectors ps gs bs all are.1,
)
are-places-of base new words entries selectors _ _ _ all are = absurd are

pub places-of : (base new : List Node) (words : List WordOp) (entries : List (List (List Bit)))
    (selectors : List Bit) (ps : List PlaceWords) (gs : List (Option ℕ)) (bs : List PlaceBits)
    → All (IsBitOf new) selectors → ArePlaces base words entries selectors new ps gs bs →
    All (IsPlaceOf new) bs
places-of base new words entries selectors ps gs bs all are =
    All-from_recursion (IsPlaceOf new) bs (are-places-of base new words entries selectors ps gs bs all are)
