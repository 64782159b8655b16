-- The formula of a word list is faithful to it.
use Rattle.std.proofs.Common.{◌≡◌, ℕ, zero, suc, ◌+◌, ◌-◌, ◌<◌, ◌≤◌, ◌==◌, pos, Bool, true, false, not, ◌&&◌, Option, Some, None, List, [], ◌∷◌, ◌++◌, map, length, get_or, slice_get, refl, sym, ◌∙◌, ap, subst, arith, inl, inr, Contains, if◌then◌else◌, ◌⊎◌, ℤ}
use Rattle.std.proofs.lemmas.Bool.{and_from, and_parts, cases_lt, cases_eq, eq-eqb, ne_eqb}
use Rattle.std.proofs.lemmas.List.{get_or-map, get_or_append_left, length-append, length-map}
use Rattle.std.proofs.lemmas.List.Elements.{All-from_recursion, Contains-append_left, Contains-get_or}
use Rattle.std.proofs.lemmas.List.Folds.{list_all-append}
use Rattle.std.proofs.lemmas.Option.{slice_get-get_or}
use Rattle.std.proofs.lemmas.Simd.{map-map}
use Rattle.std.specs.List.{flat_map}
use Rattle.ba_bits.proofs.Low.{nonzero-pos}
use Rattle.ba_bits.proofs.Same.{same-value}
use Rattle.ba_bits.proofs.Spelled.{spelled-nonzero, spelled-word}
use Rattle.ba_bits.specs.Bits.{assignment_of, is_needed, word_at}
use Rattle.ba_bits.specs.Needs.{are_needed}
use Rattle.ba_clauses.specs.Encodings.{AreRead, IsEncoding, all_hold, reading_by, value_read}
use Rattle.ba_clauses.specs.declared.encoding.Reading.{Reading}
use Rattle.ba_clauses.specs.declared.encoding.Reading.TheVariants.{Constant, Variable}
use Rattle.ba_code_laws.specs.Tracing.{is_relaxed}
use Rattle.ba_code_laws.specs.Visits.{are_kept, chosen}
use Rattle.ba_encode.proofs.Choosing.{choices-by, choices-same, same-from, same-left, same-right}
use Rattle.ba_encode.proofs.Meant.{chosen-is, kept-is, met-is}
use Rattle.ba_encode.proofs.Relaxed.{group-within, is_member, no_group, relaxed-is}
use Rattle.ba_encode.proofs.Spots.{list-fits}
use Rattle.ba_encode.proofs.Typed.{read-typed}
use Rattle.ba_encode.specs.Built.{IsBuilt}
use Rattle.ba_encode.specs.Encodings.{AreGivenUp, AreSelectors, GoodRun, HasModelFor, IsEncodingOf, without_selector}
use Rattle.ba_encode.specs.Groups.{are_apart, group_of, groups_of, relaxes_in}
use Rattle.ba_encode.specs.Parts.{bits_of, is_fixed, is_set, is_signed, place_by, roots_along, selector_at}
use Rattle.ba_encode.specs.Readings.{choices_read}
use Rattle.ba_encode.specs.Selectors.{AreFree, IsFree, with_selector, with_selectors}
use Rattle.ba_encode.specs.declared.encoded.Encoded.{Encoded}
use Rattle.ba_encode.specs.declared.encoded.Group.{Group}
use Rattle.ba_encode.specs.declared.encoded.PlaceReading.{PlaceReading}
use Rattle.ba_encode.specs.declared.grouping.Grouping.{Grouping}
use Rattle.ba_encode.specs.declared.grouping.Numbered.{Numbered}
use Rattle.ba_encode.specs.declared.places.PlaceBits.{PlaceBits}
use Rattle.ba_lits.specs.Formulas.{Cnf}
use Rattle.ba_lits.specs.Literals.{Literal}
use Rattle.ba_lits.specs.Satisfaction.{Assignment, all_true, lit_true}
use Rattle.ba_nodes.proofs.Truths.{Extends-through}
use Rattle.ba_nodes.specs.declared.Bit.{Bit}
use Rattle.ba_nodes.specs.declared.Node.{Node}
use Rattle.ba_nodes.specs.Gates.{Extends, constant_bit, truth}
use Rattle.ba_numbers.specs.Numbers.{converted}
use Rattle.ba_words.specs.Words.{number_of, word_type}
use Rattle.ba_wordlist.specs.Facts.{shows_type}
use Rattle.ba_wordlist.specs.Meaning.{are_met, is_nonzero, value_at, values_of, visits_in}
use Rattle.ba_wordlist.specs.declared.words.PlaceWords.{PlaceWords}
use Rattle.ba_wordlist.specs.declared.words.WordList.{WordList}
use Rattle.ba_wordlist.specs.declared.words.WordOp.TheVariants.{Free}

-- GROUPS with selectors

pub with-long : (groups : List Numbered) (readings : List Reading) → length groups ≤ length readings
    → length (with_selectors groups readings) ≡ length groups
with-long [] readings enough = refl
with-long (group ∷ groups) [] enough = absurd (omega (arith, enough))
with-long (group ∷ groups) (reading ∷ readings) enough =
    let rest = with-long groups readings (omega (arith, enough)) in omega (arith, rest)

with-at : (groups : List Numbered) (readings : List Reading) (k : ℕ) (d : Group) → k < length groups
    → length groups ≤ length readings → get_or (with_selectors groups readings) k d
    ≡ with_selector (get_or groups k no_group) (get_or readings k (Constant false))
with-at [] readings k d within enough = absurd (omega (arith, within))
with-at (group ∷ groups) [] k d within enough = absurd (omega (arith, enough))
with-at (group ∷ groups) (reading ∷ readings) zero d within enough = refl
with-at (group ∷ groups) (reading ∷ readings) (suc k) d within enough =
    with-at groups readings k d (omega (arith, within)) (omega (arith, enough))

with-numbered : (groups : List Numbered) (readings : List Reading) → length groups ≤ length readings
    → map without_selector (with_selectors groups readings) ≡ groups
with-numbered [] readings enough = refl
with-numbered (group ∷ groups) [] enough = absurd (omega (arith, enough))
with-numbered (group ∷ groups) (reading ∷ readings) enough =
    ap (λ rest. group ∷ rest) (with-numbered groups readings (omega (arith, enough)))

pub readings-enough : (nodes : List Node) (required selectors others : List Bit) (formula : Cnf) (readings
    : List Reading)
    (count : ℕ) → IsEncoding nodes required (selectors ++ others) formula readings → count ≡ length selectors
    → count ≤ length readings
readings-enough nodes required selectors others formula readings count is many =
    omega (
      arith,
      many,
      ap length is.read_by,
      length-map (selectors ++ others) (reading_by is.variable_of),
      length-append selectors others,
    )

not-not : (b : Bool) → b ≡ not (not b)
not-not true = refl
not-not false = refl

abbrev no_bit : Bit
no_bit = constant_bit false

module _ (list : WordList) (grouping : Grouping) (differ : are_apart grouping ≡ true) (selectors : List Bit)
    (old new : List Node) (required : List Bit) (places : List PlaceBits) (formula : Cnf) (readings : List
    Reading)
    (are_free : AreFree old selectors) (many : length selectors ≡ length (groups_of grouping))
    (built : IsBuilt list (map (group_of grouping (groups_of grouping)) list.places) selectors old new
    required places)
    (is : IsEncoding new required (selectors ++ flat_map bits_of places) formula readings) where
  abbrev groups : List Numbered
  groups = groups_of grouping

  abbrev named : List Group
  named = with_selectors groups readings

  abbrev read : List Bit
  read = selectors ++ flat_map bits_of places

  abbrev reading : Bit → Reading
  reading = reading_by is.variable_of

  abbrev placed : List PlaceReading
  placed = flat_map (place_by reading) places

  abbrev selector : ℕ → Bit
  selector k = get_or selectors k no_bit

  abbrev number : ℕ → ℕ
  number k = (get_or groups k no_group).number

  abbrev group : PlaceWords → Option ℕ
  group = group_of grouping groups

  extends : Extends old new
  extends = Extends-through old built.first new built.before built.after

  own : (k : ℕ) → k < length groups → IsFree old (selector k)
  own k within = are_free.each k no_bit (omega (arith, many))

  -- SELECTORS as bits

  truth-own : (free : ℕ → Bool) (k : ℕ) → k < length groups →
      truth free new (selector k) ≡ free ((selector k).index - 1)
  truth-own free k within =
      extends.keeps free (selector k) (own k within).value.is_bit ∙ (own k within).value.holds free

  -- an assignment of the free bits that gives so many selectors these values
  start_with : (ℕ → Bool) → ℕ → ℕ → Bool
  start_with values zero place = false
  start_with values (suc count) place =
      if place + 1 == (selector count).index then values count else start_with values count place

  start-at : (values : ℕ → Bool) (count k : ℕ) → count ≤ length groups → k < count
      → start_with values count ((selector k).index - 1) ≡ values k
  unfolding start_with
  start-at values zero k le below = absurd (omega (arith, below))
  start-at values (suc count) k le below =
      by_case (cases_eq k count) (λ before. start-at values count k (omega (arith, le)) before) where
        within : k < length groups
        within = omega (arith, le, below)

        back : ((selector k).index - 1) + 1 ≡ (selector k).index
        back = let counted = (own k within).counted in omega (arith, counted)

        by_case : (k ≡ count) ⊎ (k ≡ count → ⊥)
            → (k < count → start_with values count ((selector k).index - 1) ≡ values k)
            → (if ((selector k).index - 1) + 1 == (selector count).index then values count
            else start_with values count ((selector k).index - 1)) ≡ values k
        by_case (inl same) rest =
            let test : (((selector k).index - 1) + 1 == (selector count).index) ≡ true =
            eq-eqb (((selector k).index - 1) + 1) (selector count).index (back ∙ ap (λ n. (selector
            n).index) same) in
            ap (λ b. if b then values count else start_with values count ((selector k).index - 1)) test
            ∙ ap values (sym same)
        by_case (inr other) rest =
            let before : k < count = omega (arith, below, other) in
            let inside : count < length selectors = omega (arith, le, many) in
            let less = are_free.ascending k count no_bit before inside in
            let differs : ((selector k).index - 1) + 1 ≡ (selector count).index → ⊥ =
            λ e. omega (arith, less, back, e) in
            let test : (((selector k).index - 1) + 1 == (selector count).index) ≡ false =
            ne_eqb (((selector k).index - 1) + 1) (selector count).index differs in
            ap (λ b. if b then values count else start_with values count ((selector k).index - 1)) test
            ∙ rest before

  -- SELECTORS as literals

  abbrev literal : ℕ → Literal
  literal k = record { variable = is.variable_of (selector k).index; negated = false }

  reading-own : (k : ℕ) → k < length groups → reading (selector k) ≡ Variable (literal k)
  reading-own k within =
      let counted = (own k within).counted in
      let some : ((selector k).index == 0) ≡ false = ne_eqb (selector k).index 0 (λ e. omega (
        arith,
        counted,
        e,
      )) in
      ap (λ b. if b then Constant (selector k).negated
      else Variable (record {
        variable = is.variable_of (selector k).index;
        negated = (selector k).negated;
      })) some
      ∙ ap (λ b. Variable (record { variable = is.variable_of (selector k).index; negated = b })) (own k
      within).plain

  enough : length groups ≤ length readings
  enough = readings-enough new required selectors (flat_map bits_of places) formula readings (length
      groups) is (sym many)

  readings-at : (k : ℕ) → k < length groups → get_or readings k (Constant false) ≡ reading (selector k)
  readings-at k within =
      let inside : k < length selectors = omega (arith, many) in
      let whole : k < length read = omega (
        arith,
        inside,
        length-append selectors (flat_map bits_of
            places),
      ) in
      ap (λ rs. get_or rs k (Constant false)) is.read_by
      ∙ get_or-map reading read k no_bit (Constant false) whole
      ∙ ap reading (get_or_append_left selectors (flat_map bits_of places) no_bit k inside)

  abbrev Is : Group → ℕ → Type 0
  Is g k = g ≡ with_selector (get_or groups k no_group) (Variable (literal k))

  named-at : (k : ℕ) (d : Group) → k < length groups → Is (get_or named k d) k
  named-at k d within =
      with-at groups readings k d within enough
      ∙ ap (with_selector (get_or groups k no_group)) (readings-at k within ∙ reading-own k within)

  record Member (g : Group) : Type 0 where
    place : ℕ
    within : place < length groups
    is_there : Is g place

  member : (g : Group) → Contains named g → Member g
  member g has =
      let within : has.0 < length groups = omega (arith, has.1, with-long groups readings enough) in
      record { place = has.0; within = within; is_there = sym has.2 ∙ named-at has.0 g within }

  has-selector : (k : ℕ) → k < length groups → Contains read (selector k)
  has-selector k within =
      Contains-append_left selectors (flat_map bits_of places) (selector k)
      (Contains-get_or selectors k no_bit (omega (arith, many)))

  pub selectors-are : AreSelectors formula named
  selectors-are = record {
    positive = λ g has. let m = member g has in ap (λ (x : Group). x.selector.negated) m.is_there;
    counted = λ g has.
        let m = member g has in
        subst (λ n. 1 ≤ n) (sym (ap (λ (x : Group). x.selector.variable) m.is_there))
        (is.counted (selector m.place) (has-selector m.place m.within) (own m.place m.within).counted);
    within = λ g has.
        let m = member g has in
        subst (λ n. n ≤ formula.variables) (sym (ap (λ (x : Group). x.selector.variable) m.is_there))
        (is.within (selector m.place) (has-selector m.place m.within) (own m.place m.within).counted);
    apart = λ a b has_a has_b same.
        let m = member a has_a in
        let o = member b has_b in
        let index : (selector m.place).index ≡ (selector o.place).index =
        is.apart (selector m.place) (selector o.place) (has-selector m.place m.within) (has-selector
        o.place o.within)
        (own m.place m.within).counted (own o.place o.within).counted
        (sym (ap (λ (x : Group). x.selector.variable) m.is_there) ∙ same
        ∙ ap (λ (x : Group). x.selector.variable) o.is_there) in
        ap (λ (x : Group). x.number) m.is_there
        ∙ ap number (position-same m.place o.place m.within o.within index)
        ∙ sym (ap (λ (x : Group). x.number) o.is_there);
  } where
    position-same : (j k : ℕ) → j < length groups → k < length groups →
        (selector j).index ≡ (selector k).index → j ≡ k
    position-same j k below inside same = by_case (cases_lt j k) (cases_lt k j) where
      by_case : (j < k) ⊎ (k ≤ j) → (k < j) ⊎ (j ≤ k) → j ≡ k
      by_case (inl less) _ =
          let rises = are_free.ascending j k no_bit less (omega (arith, many)) in absurd (omega (
            arith,
            rises,
            same,
          ))
      by_case (inr _) (inl less) =
          let rises = are_free.ascending k j no_bit less (omega (arith, many)) in absurd (omega (
            arith,
            rises,
            same,
          ))
      by_case (inr more) (inr less) = omega (arith, more, less)

  -- READING

  abbrev value_of : Assignment → Bit → Bool
  value_of v bit = value_read v (reading bit)

  read-as : (free : ℕ → Bool) (v : Assignment) → AreRead free new read v readings
      → map (value_of v) read ≡ map (truth free new) read
  read-as free v are = sym (map-map (value_read v) reading read) ∙ ap (map (value_read v)) (sym is.read_by)
      ∙ are

  read-own : (free : ℕ → Bool) (v : Assignment) → AreRead free new read v readings → (k : ℕ) →
      k < length groups
      → lit_true v (literal k) ≡ truth free new (selector k)
  read-own free v are k within =
      ap (value_read v) (sym (reading-own k within))
      ∙ All-from_recursion (λ bit. value_of v bit ≡ truth free new bit) selectors
      (same-left (value_of v) (truth free new) selectors (flat_map bits_of places)
      (same-from (value_of v) (truth free new) read (read-as free v are))) k no_bit (omega (arith, many))

  -- WHAT MAY BE RELAXED

  module _ (set : ℕ → Bool) (free : ℕ → Bool)
      (given : (k : ℕ) → k < length groups → truth free new (selector k) ≡ not (set (number k))) where
    member-is : (p : PlaceWords) (g : Option ℕ) → group p ≡ g
        → is_member set groups g ≡ not (is_fixed (truth free new) (selector_at selectors g))
    member-is p None at = refl
    member-is p (Some k) at =
        let within : k < length groups = group-within grouping p.place k at in
        let found : slice_get selectors k ≡ Some (selector k) =
        slice_get-get_or selectors k no_bit (omega (arith, many)) in
        not-not (set (number k)) ∙ ap not (sym (given k within))
        ∙ ap (λ s. not (is_fixed (truth free new) s)) (sym found)

    agrees : (p : PlaceWords) → is_relaxed (relaxes_in grouping set) p.place
        ≡ not (is_fixed (truth free new) (selector_at selectors (group p)))
    agrees p = relaxed-is grouping set p.place differ ∙ member-is p (group p) refl

    holds-as : (vs : List (List ℤ))
        → ((w : ℕ) → w < length list.words → is_needed built.needed w ≡ true
        → is_set free built.first built.entries w ≡ is_nonzero (value_at vs w))
        → all_hold free new required
        ≡ (are_met vs list.require && are_kept (relaxes_in grouping set) (visits_in vs list.places))
    holds-as vs reads =
        let fits = list-fits list in
        let roots = and_parts (are_needed built.needed list.require)
        (are_needed built.needed (roots_along list.places (map group list.places)))
        (sym (list_all-append (is_needed built.needed) list.require (roots_along list.places (map group
        list.places)))
        ∙ built.roots) in
        let met = met-is built.first new list.words built.entries selectors built.needed free vs built.after
        built.have_bits.are_cells reads list.require fits.require roots.0 in
        let kept = kept-is built.first new list.words built.entries selectors built.needed free vs built.after
        built.have_bits.are_cells reads (relaxes_in grouping set) group agrees list.places places
        built.are_places
        fits.places roots.1 in
        built.held.holds free ∙ (λ i. met i && kept i)

  -- by the values that the bits spell
  reads-own : (free : ℕ → Bool) (w : ℕ) → w < length list.words → is_needed built.needed w ≡ true
      → is_set free built.first built.entries w
      ≡ is_nonzero (value_at (values_of (assignment_of free built.first built.entries) list.words) w)
  reads-own free w below need =
      sym (nonzero-pos (number_of free built.first (word_at built.entries w)))
      ∙ spelled-nonzero old built.first list.words built.needed built.entries built.have_bits built.closed
      (list-fits list).are_words free w below need

  pub has-model : (set : ℕ → Bool) → GoodRun (relaxes_in grouping set) list → HasModelFor formula named set
  has-model set run =
      let values : ℕ → Bool = λ k. not (set (number k)) in
      let taking = built.have_bits.take (start_with values (length groups)) run.by in
      let free : ℕ → Bool = taking.free in
      let given : (k : ℕ) → k < length groups → truth free new (selector k) ≡ values k = λ k within.
      let counted = (own k within).counted in
      let named_in = (own k within).value.is_bit in
      truth-own free k within
      ∙ sym (taking.agrees ((selector k).index - 1) (omega (arith, counted, named_in)))
      ∙ start-at values (length groups) k (omega arith) within in
      let reads = λ (w : ℕ) (below : w < length list.words) (need : is_needed built.needed w ≡ true).
      reads-own free w below need
      ∙ ap is_nonzero (sym (same-value built.first list.words built.needed built.entries built.closed
      (list-fits list).are_words free run.by taking.takes w below need)) in
      let holds : all_hold free new required ≡ true =
      holds-as set free given (values_of run.by list.words) reads
      ∙ and_from (are_met (values_of run.by list.words) list.require)
      (are_kept (relaxes_in grouping set) (visits_in (values_of run.by list.words) list.places)) run.met
      run.kept in
      let model = is.has_model free holds in
      record {
        assignment = model.0;
        satisfies = model.1;
        given_up = λ g has.
            let m = member g has in
            ap (λ (x : Group). lit_true model.0 x.selector) m.is_there
            ∙ read-own free model.0 model.2 m.place m.within ∙ given m.place m.within
            ∙ ap (λ (x : Group). not (set x.number)) (sym m.is_there);
      }

  pub record HasRun (set : ℕ → Bool) (v : Assignment) : Type 0 where
    pub run : GoodRun (relaxes_in grouping set) list
    pub choices : choices_read v placed ≡ chosen (relaxes_in grouping set) (visits_in (values_of run.by
        list.words) list.places)

  pub has-run : (set : ℕ → Bool) (v : Assignment) → all_true v formula.clauses ≡ true →
      AreGivenUp v named set → HasRun set v
  has-run set v satisfied given_up =
      let found = is.has_values v satisfied in
      let free : ℕ → Bool = found.0 in
      let given : (k : ℕ) → k < length groups →
      truth free new (selector k) ≡ not (set (number k)) = λ k within.
      let d : Group = with_selector (get_or groups k no_group) (Variable (literal k)) in
      let there = named-at k d within in
      sym (read-own free v found.2 k within)
      ∙ sym (ap (λ (x : Group). lit_true v x.selector) there)
      ∙ given_up (get_or named k d)
      (Contains-get_or named k d (omega (arith, with-long groups readings enough)))
      ∙ ap (λ (x : Group). not (set x.number)) there in
      let f = assignment_of free built.first built.entries in
      let fits = list-fits list in
      let roots = and_parts (are_needed built.needed list.require)
      (are_needed built.needed (roots_along list.places (map group list.places)))
      (sym (list_all-append (is_needed built.needed) list.require (roots_along list.places (map group
      list.places)))
      ∙ built.roots) in
      let both = and_parts (are_met (values_of f list.words) list.require)
      (are_kept (relaxes_in grouping set) (visits_in (values_of f list.words) list.places))
      (sym (holds-as set free given (values_of f list.words) (reads-own free)) ∙ found.1) in
      let typed = λ (w : ℕ) (below : w < length list.words) (need : is_needed built.needed w ≡ true)
      (shown : shows_type (slice_get list.words w) ≡ true).
      ap (λ m. converted (word_type (is_signed (get_or list.words w Free))) (pos m))
      (spelled-word old built.first list.words built.needed built.entries built.have_bits built.closed
      fits.are_words free w below need)
      ∙ read-typed f list.words w fits.are_words below shown in
      record {
        run = record { by = f; met = both.0; kept = both.1 };
        choices = choices-by v reading places
            ∙ choices-same (value_of v) (truth free new) places
            (same-right (value_of v) (truth free new) selectors (flat_map bits_of places)
            (same-from (value_of v) (truth free new) read (read-as free v found.2)))
            ∙ chosen-is built.first new list.words built.entries selectors built.needed free (values_of f
            list.words)
            built.after built.have_bits.are_cells (reads-own free) (relaxes_in grouping set) group
            (agrees set free given) typed list.places places built.are_places fits.places roots.1 fits.typed;
      }

  pub encoded-is : (encoded : Encoded) → encoded.formula ≡ formula → encoded.groups ≡ named →
      encoded.places ≡ placed
      → IsEncodingOf list grouping encoded
  encoded-is encoded formula_is groups_is places_is = record {
    groups_are = ap (map without_selector) groups_is ∙ with-numbered groups readings enough;
    selectors = subst (λ f. AreSelectors f encoded.groups) (sym formula_is)
        (subst (AreSelectors formula) (sym groups_is) selectors-are);
    has_model = λ set run. subst (λ f. HasModelFor f encoded.groups set) (sym formula_is)
        (subst (λ gs. HasModelFor formula gs set) (sym groups_is) (has-model set run));
    has_run = λ set v satisfied given_up.
        let found = has-run set v (ap (λ (f : Cnf). all_true v f.clauses) (sym formula_is) ∙ satisfied)
        (subst (λ gs. AreGivenUp v gs set) groups_is given_up) in
        record { run = found.run; choices = ap (choices_read v) places_is ∙ found.choices };
  }
