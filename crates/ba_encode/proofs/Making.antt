-- What a formula is made from, as the calls leave it.
use Rattle.std.proofs.Common.{◌≡◌, ℕ, ◌==◌, nat_le, Bool, true, false, ◌&&◌, Option, Some, None, List, [], ◌∷◌, ◌++◌, map, length, get_or, drop, refl, sym, ◌∙◌, ap, subst, arith, All, Contains, if◌then◌else◌, ◌⊎◌, inl, inr}
use Rattle.std.proofs.lemmas.Bool.{and_from, and_parts, cases_eq, eq-eqb, ne_eqb}
use Rattle.std.proofs.lemmas.Bool.Decides.{nat_tests}
use Rattle.std.proofs.lemmas.List.{drop_at, get_or_default, length-map, map-append}
use Rattle.std.proofs.lemmas.List.Elements.{All-append, All-from_recursion, All-weaker, Contains-get_or, recursion_from_All}
use Rattle.std.proofs.lemmas.List.Folds.{list_all-append}
use Rattle.std.specs.List.{AllByRecursion, flat_map, list_all}
use Rattle.std.specs.Option.{ForSome}
use Rattle.ba_bits.specs.Bits.{AreEntries, AreEntriesOf, word_at}
use Rattle.ba_bits.specs.Needs.{AreClosed, are_needed}
use Rattle.ba_clauses.specs.Encodings.{IsEncoding, reading_by}
use Rattle.ba_clauses.specs.declared.encoding.Reading.{Reading}
use Rattle.ba_clauses.specs.declared.encoding.Reading.TheVariants.{Constant, Variable}
use Rattle.ba_encode.proofs.Held.{held-grown, held-same, stay-grown}
use Rattle.ba_encode.proofs.Spots.{place-rebased, places-grown, places-of}
use Rattle.ba_encode.specs.Built.{IsBuilt}
use Rattle.ba_encode.specs.Groups.{group_of, groups_of}
use Rattle.ba_encode.specs.Parts.{AreHeld, ArePlaces, IsPlace, IsPlaceOf, are_all_long, are_long, bits_of, bits_of_value, bits_where, is_set, place_by, place_where, roots_of, selector_at, stays, value_bits, value_by}
use Rattle.ba_encode.specs.Readings.{are_readable, is_readable, is_readable_place, is_readable_value}
use Rattle.ba_encode.specs.declared.grouping.Grouping.{Grouping}
use Rattle.ba_encode.specs.declared.grouping.Numbered.{Numbered}
use Rattle.ba_encode.specs.declared.places.PlaceBits.{PlaceBits}
use Rattle.ba_encode.specs.declared.places.ValueBits.{ValueBits}
use Rattle.ba_lits.specs.Formulas.{Cnf}
use Rattle.ba_nodes.proofs.Truths.{Extends-through}
use Rattle.ba_nodes.specs.declared.Bit.{Bit}
use Rattle.ba_nodes.specs.declared.Node.{Node}
use Rattle.ba_nodes.specs.Gates.{Extends, IsBitOf, constant_bit, truth}
use Rattle.ba_words.specs.Words.{AreBitsOf}
use Rattle.ba_wordlist.specs.declared.words.PlaceWords.{PlaceWords}
use Rattle.ba_wordlist.specs.declared.words.WordList.{WordList}
use Rattle.ba_wordlist.specs.declared.words.WordOp.{WordOp}

all-left : {X : Type 0} (P : X → Type 0) (xs ys : List X) → AllByRecursion P (xs ++ ys) → AllByRecursion P xs
all-left P [] ys all = tt
all-left P (x ∷ xs) ys all = (all.0, all-left P xs ys all.1)

all-right : {X : Type 0} (P : X → Type 0) (xs ys : List X) → AllByRecursion P (xs ++ ys) → AllByRecursion P ys
all-right P [] ys all = all
all-right P (x ∷ xs) ys all = all-right P xs ys all.1

all-both : {X : Type 0} (P : X → Type 0) (xs ys : List X) → AllByRecursion P xs → AllByRecursion P ys
    → AllByRecursion P (xs ++ ys)
all-both P [] ys left right = right
all-both P (x ∷ xs) ys left right = (left.0, all-both P xs ys left.1 right)

-- the readings of what follows the selectors
pub drop-read : {X Y : Type 0} (f : X → Y) (xs ys : List X) (n : ℕ) → length xs ≡ n
    → drop n (map f (xs ++ ys)) ≡ map f ys
drop-read f xs ys n many =
    ap (drop n) (map-append f xs ys) ∙ drop_at (map f xs) (map f ys) n (length-map xs f ∙ many)

pub bits-grown : (old new : List Node) (bits : List Bit) → Extends old new → All (IsBitOf old) bits
    → All (IsBitOf new) bits
bits-grown old new bits extends all =
    All-weaker (IsBitOf old) (IsBitOf new) (λ bit named. omega (arith, extends.grows, named)) bits all

-- BITS of executions are bits of the nodes

word-bits : (nodes : List Node) (word : List Bit) → AreBitsOf nodes word → All (IsBitOf nodes) word
word-bits nodes word bits k d within =
    subst (IsBitOf nodes) (get_or_default word k (constant_bit false) d within) (bits k)

module _ (first new : List Node) (words : List WordOp) (entries : List (List (List Bit))) (selectors : List
    Bit)
    (grown : Extends first new) (cells : AreEntriesOf first entries) (named : All (IsBitOf new) selectors)
  where
    values-bits : (ws : List ℕ) →
        AllByRecursion (IsBitOf new) (flat_map bits_of_value (map (value_bits words entries) ws))
    values-bits [] = tt
    values-bits (w ∷ ws) =
        all-both (IsBitOf new) (word_at entries w) (flat_map bits_of_value (map (value_bits words entries)
        ws))
        (recursion_from_All (IsBitOf new) (word_at entries w)
        (bits-grown first new (word_at entries w) grown (word-bits first (word_at entries w) (cells w 0))))
        (values-bits ws)

    where-bits : (p : PlaceWords) (own selector : Option Bit) (bits : PlaceBits)
        → IsPlace first words entries new p own bits → ForSome selector (IsBitOf new)
        → AllByRecursion (IsBitOf new) (bits_where bits selector)
    where-bits p own None bits is inside = tt
    where-bits p own (Some selector) bits is inside = (
      inside selector refl,
      (
        is.guard.is_bit,
        (
          is.keep.is_bit,
          subst (λ values. AllByRecursion (IsBitOf new) (flat_map bits_of_value values)) (sym is.values)
              (values-bits p.values),
        ),
      ),
    )

    places-bits : (ps : List PlaceWords) (gs : List (Option ℕ)) (bs : List PlaceBits)
        → ArePlaces first words entries selectors new ps gs bs → AllByRecursion (IsPlaceOf new) bs
        → AllByRecursion (IsBitOf new) (flat_map bits_of bs)
    places-bits [] [] [] are all = tt
    places-bits (p ∷ ps) (g ∷ gs) (b ∷ bs) are all =
        all-both (IsBitOf new) (bits_of b) (flat_map bits_of bs)
        (where-bits p (selector_at selectors g) b.selector b are.0 all.0.selector) (places-bits ps gs bs
        are.1 all.1)
    places-bits _ _ _ are all = absurd are

    pub read-bits : (ps : List PlaceWords) (gs : List (Option ℕ)) (bs : List PlaceBits)
        → ArePlaces first words entries selectors new ps gs bs →
        All (IsBitOf new) (selectors ++ flat_map bits_of bs)
    read-bits ps gs bs are =
        All-append (IsBitOf new) selectors (flat_map bits_of bs) named
        (All-from_recursion (IsBitOf new) (flat_map bits_of bs) (places-bits ps gs bs are
        (recursion_from_All (IsPlaceOf new) bs (places-of first new words entries selectors ps gs bs named
        are))))

pub places-long : (first new : List Node) (words : List WordOp) (entries : List (List (List Bit)))
    (selectors : List Bit)
    (ps : List PlaceWords) (gs : List (Option ℕ)) (bs : List PlaceBits)
    → ArePlaces first words entries selectors new ps gs bs → are_all_long bs ≡ true
places-long first new words entries selectors [] [] [] are = refl
places-long first new words entries selectors (p ∷ ps) (g ∷ gs) (b ∷ bs) are =
    and_from (are_long b.values) (are_all_long bs) are.0.long
    (places-long first new words entries selectors ps gs bs are.1)
places-long first new words entries selectors _ _ _ are = absurd are

-- READINGS are those of variables of the formula

module _ (variables : ℕ) (reading : Bit → Reading) where
  abbrev Readable : Bit → Type 0
  Readable bit = is_readable variables (reading bit) ≡ true

  bits-readable : (bits : List Bit) → AllByRecursion Readable bits
      → list_all (is_readable variables) (map reading bits) ≡ true
  bits-readable [] all = refl
  bits-readable (bit ∷ bits) all =
      and_from (is_readable variables (reading bit)) (list_all (is_readable variables) (map reading bits))
      all.0
      (bits-readable bits all.1)

  values-readable : (values : List ValueBits) → are_long values ≡ true
      → AllByRecursion Readable (flat_map bits_of_value values)
      → list_all (is_readable_value variables) (map (value_by reading) values) ≡ true
  values-readable [] long all = refl
  values-readable (value ∷ values) long all =
      let both = and_parts (length value.bits == 32) (are_long values) long in
      let own : (length (map reading value.bits) == 32) ≡ true =
      ap (λ n. n == 32) (length-map value.bits reading) ∙ both.0 in
      and_from (is_readable_value variables (value_by reading value))
      (list_all (is_readable_value variables) (map (value_by reading) values))
      (and_from (length (map reading value.bits) == 32) (list_all (is_readable variables) (map reading
      value.bits)) own
      (bits-readable value.bits (all-left Readable value.bits (flat_map bits_of_value values) all)))
      (values-readable values both.1 (all-right Readable value.bits (flat_map bits_of_value values) all))

  where-readable : (place : PlaceBits) (selector : Option Bit) → are_long place.values ≡ true
      → AllByRecursion Readable (bits_where place selector)
      → are_readable variables (place_where reading place selector) ≡ true
  where-readable place None long all = refl
  where-readable place (Some selector) long all =
      let values = values-readable place.values long all.1.1.1 in
      λ i. ((all.0 i && all.1.0 i && all.1.1.0 i && values i) && true)

  places-readable : (places : List PlaceBits) → are_all_long places ≡ true
      → AllByRecursion Readable (flat_map bits_of places)
      → are_readable variables (flat_map (place_by reading) places) ≡ true
  places-readable [] long all = refl
  places-readable (place ∷ places) long all =
      let both = and_parts (are_long place.values) (are_all_long places) long in
      list_all-append (is_readable_place variables) (place_by reading place) (flat_map (place_by reading)
      places)
      ∙ and_from (are_readable variables (place_by reading place))
      (are_readable variables (flat_map (place_by reading) places))
      (where-readable place place.selector both.0 (all-left Readable (bits_of place) (flat_map bits_of
      places) all))
      (places-readable places both.1 (all-right Readable (bits_of place) (flat_map bits_of places) all))

-- a bit that is read has a reading by a variable of the formula
bit-readable : (nodes : List Node) (required read : List Bit) (formula : Cnf) (readings : List Reading)
    (is : IsEncoding nodes required read formula readings) (bit : Bit) → Contains read bit
    → is_readable formula.variables (reading_by is.variable_of bit) ≡ true
bit-readable nodes required read formula readings is bit has = by_case (cases_eq bit.index 0) where
  by_case : (bit.index ≡ 0) ⊎ (bit.index ≡ 0 → ⊥)
      → is_readable formula.variables (if bit.index == 0 then Constant bit.negated
      else Variable (record { variable = is.variable_of bit.index; negated = bit.negated })) ≡ true
  by_case (inl none) =
      ap (λ b. is_readable formula.variables (if b then Constant bit.negated
      else Variable (record { variable = is.variable_of bit.index; negated = bit.negated }))) (eq-eqb
      bit.index 0 none)
  by_case (inr some) =
      let counted = is.counted bit has (omega (arith, some)) in
      let within = is.within bit has (omega (arith, some)) in
      let low : nat_le 1 (is.variable_of bit.index) ≡ true = grind (arith, nat_tests) in
      let high : nat_le (is.variable_of bit.index) formula.variables ≡ true = grind (arith, nat_tests) in
      ap (λ b. is_readable formula.variables (if b then Constant bit.negated
      else Variable (record { variable = is.variable_of bit.index; negated = bit.negated }))) (ne_eqb
      bit.index 0 some)
      ∙ and_from (nat_le 1 (is.variable_of bit.index)) (nat_le (is.variable_of bit.index)
      formula.variables) low high

pub readable : (nodes : List Node) (required selectors : List Bit) (places : List PlaceBits) (formula : Cnf)
    (readings : List Reading)
    (is : IsEncoding nodes required (selectors ++ flat_map bits_of places) formula readings)
    → are_all_long places ≡ true
    → are_readable formula.variables (flat_map (place_by (reading_by is.variable_of)) places) ≡ true
readable nodes required selectors places formula readings is long =
    places-readable formula.variables (reading_by is.variable_of) places long
    (all-right (Readable formula.variables (reading_by is.variable_of)) selectors (flat_map bits_of places)
    (recursion_from_All (Readable formula.variables (reading_by is.variable_of))
    (selectors ++ flat_map bits_of places)
    (λ k d within. bit-readable nodes required (selectors ++ flat_map bits_of places) formula readings is
    (get_or (selectors ++ flat_map bits_of places) k d)
    (Contains-get_or (selectors ++ flat_map bits_of places) k d within))))

-- WHAT IS BUILT

places-rebased : (base old new : List Node) (words : List WordOp) (entries : List (List (List Bit)))
    (selectors : List Bit) (ps : List PlaceWords) (gs : List (Option ℕ)) (bs : List PlaceBits) →
    Extends base old
    → AreEntriesOf base entries → ArePlaces old words entries selectors new ps gs bs
    → ArePlaces base words entries selectors new ps gs bs
places-rebased base old new words entries selectors [] [] [] extends cells are = tt
places-rebased base old new words entries selectors (p ∷ ps) (g ∷ gs) (b ∷ bs) extends cells are = (
  place-rebased base old new words entries p (selector_at selectors g) b extends cells are.0,
  places-rebased base old new words entries selectors ps gs bs extends cells are.1,
)
places-rebased base old new words entries selectors _ _ _ extends cells are = absurd are

pub built-is : (list : WordList) (groups : List (Option ℕ)) (selectors : List Bit) (old first second third
    new : List Node)
    (needed : List Bool) (entries : List (List (List Bit))) (met required : List Bit) (places : List
    PlaceBits)
    → AreClosed list.words needed → are_needed needed (roots_of list groups) ≡ true
    → Extends old first → Extends first second → Extends second third → Extends third new
    → AreEntries old list.words needed first entries → All (IsBitOf old) selectors
    → AreHeld second met (λ free. list_all (is_set free first entries) list.require)
    → ArePlaces second list.words entries selectors third list.places groups places
    → ((value : (ℕ → Bool) → Bool) → AreHeld third met value
    → AreHeld new required (λ free. value free && list_all (stays (truth free third)) places))
    → IsBuilt list groups selectors old new required places
built-is list groups selectors old first second third new needed entries met required places closed roots
    one two three
    four has named held are keeps =
    let value : (ℕ → Bool) → Bool = λ free. list_all (is_set free first entries) list.require in
    let up_to = Extends-through old second third (Extends-through old first second one two) three in
    let are_places = places-rebased first second third list.words entries selectors list.places groups
    places two
    has.are_cells are in
    let own = places-of first third list.words entries selectors list.places groups places
    (bits-grown old third selectors up_to named) are_places in
    record {
      first = first;
      needed = needed;
      entries = entries;
      closed = closed;
      roots = roots;
      before = one;
      after = Extends-through first third new (Extends-through first second third two three) four;
      have_bits = has;
      are_places = places-grown first third new list.words entries selectors list.places groups places four
          are_places;
      held = held-same new required (λ free. value free && list_all (stays (truth free third)) places)
          (λ free. value free && list_all (stays (truth free new)) places)
          (keeps value (held-grown second third met value three held))
          (λ free. ap (λ b. value free && b) (sym (stay-grown free third new places four own)));
    }

-- THE SAME of what calls show of these lists

pub built-as : (list : WordList) (grouping : Grouping) (groups : List Numbered) (ps : List PlaceWords)
    (found shown : List (Option ℕ)) (selectors seen : List Bit) (old new : List Node) (required : List Bit)
    (places : List PlaceBits) → groups ≡ groups_of grouping → ps ≡ list.places
    → found ≡ map (group_of grouping groups) ps → shown ≡ found → seen ≡ selectors
    → IsBuilt list shown seen old new required places
    → IsBuilt list (map (group_of grouping (groups_of grouping)) list.places) selectors old new required
    places
built-as list grouping groups ps found shown selectors seen old new required places groups_are ps_are
    found_are
    shown_are seen_are built =
    subst (λ gs. IsBuilt list gs selectors old new required places)
    (shown_are ∙ found_are ∙ (λ i. map (group_of grouping (groups_are i)) (ps_are i)))
    (subst (λ ss. IsBuilt list shown ss old new required places) seen_are built)

pub encoding-as : (nodes : List Node) (required shown read seen selectors own : List Bit)
    (places given : List PlaceBits) (formula : Cnf) (readings : List Reading) → shown ≡ required → seen ≡ read
    → read ≡ own ++ flat_map bits_of given → own ≡ selectors → given ≡ places
    → IsEncoding nodes shown seen formula readings
    → IsEncoding nodes required (selectors ++ flat_map bits_of places) formula readings
encoding-as nodes required shown read seen selectors own places given formula readings shown_are seen_are
    read_are own_are given_are is =
    subst (λ bits. IsEncoding nodes bits (selectors ++ flat_map bits_of places) formula readings) shown_are
    (subst (λ bits. IsEncoding nodes shown bits formula readings)
    (seen_are ∙ read_are ∙ (λ i. own_are i ++ flat_map bits_of (given_are i))) is)
