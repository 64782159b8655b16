-- What bits say of a run: requirements, executions that stay, and choices.
use Rattle.std.proofs.Common.{◌≡◌, ℕ, ◌<◌, ℤ, pos, Bool, true, false, not, ◌&&◌, cond, Option, Some, None, List, [], ◌∷◌, ◌++◌, map, length, get_or, slice_get, refl, sym, ◌∙◌, ap}
use Rattle.std.proofs.lemmas.Bool.{and_parts}
use Rattle.std.proofs.lemmas.List.Folds.{list_all-append}
use Rattle.std.specs.List.{flat_map, list_all}
use Rattle.std.proofs.Math.Bool.{and-false}
use Rattle.ba_bits.specs.Bits.{AreEntriesOf, is_needed, word_at}
use Rattle.ba_bits.specs.Needs.{are_needed}
use Rattle.ba_choices.specs.declared.Choice.{Choice}
use Rattle.ba_choices.specs.declared.Choice.TheVariants.{Keep, Take}
use Rattle.ba_code_laws.specs.Tracing.{Relaxes, is_relaxed}
use Rattle.ba_code_laws.specs.Visits.{Visit, are_kept, chosen, is_keep}
use Rattle.ba_encode.proofs.Choosing.{choice_with, choices_where, choices_with, number_with}
use Rattle.ba_encode.specs.Parts.{ArePlaces, IsPlace, is_fixed, is_set, is_signed, roots_along, roots_at, selector_at, stays, value_bits}
use Rattle.ba_encode.specs.declared.places.PlaceBits.{PlaceBits}
use Rattle.ba_nodes.specs.declared.Bit.{Bit}
use Rattle.ba_nodes.specs.declared.Node.{Node}
use Rattle.ba_nodes.specs.Gates.{Extends, truth}
use Rattle.ba_numbers.specs.Numbers.{converted}
use Rattle.ba_words.proofs.Places.{number_of-extends}
use Rattle.ba_words.specs.Words.{number_of, word_type}
use Rattle.ba_wordlist.proofs.Choices.{chosen-first, kept-first}
use Rattle.ba_wordlist.proofs.Values.{of_name}
use Rattle.ba_wordlist.specs.Facts.{are_names, are_typed, is_name, is_place, is_typed, shows_type}
use Rattle.ba_wordlist.specs.Meaning.{are_met, choice_of, is_nonzero, value_at, visit_of, visits_in}
use Rattle.ba_wordlist.specs.declared.words.PlaceWords.{PlaceWords}
use Rattle.ba_wordlist.specs.declared.words.WordOp.{WordOp}
use Rattle.ba_wordlist.specs.declared.words.WordOp.TheVariants.{Free}

-- TRUTH VALUES

stay-law : (fixed guard keep : Bool)
    → not (fixed && (guard && not keep)) ≡ cond guard (cond (not fixed) true keep) true
stay-law true true true = refl
stay-law true true false = refl
stay-law true false keep = refl
stay-law false true keep = refl
stay-law false false keep = refl

kept-visit : (relaxes : Relaxes) (b : Bool) (v : Visit) (rest : List Visit) →
    are_kept relaxes (cond b (v ∷ rest) rest)
    ≡ (cond b (cond (is_relaxed relaxes v.place) true (is_keep v.choice)) true && are_kept relaxes rest)
kept-visit relaxes true v rest = kept-first relaxes v rest
kept-visit relaxes false v rest = refl

either-choice : (b : Bool) (c : Choice) (cs : List Choice) → cond b (c ∷ cs) cs ≡ cond b (c ∷ []) [] ++ cs
either-choice true c cs = refl
either-choice false c cs = refl

chosen-visit : (relaxes : Relaxes) (b : Bool) (v : Visit) (rest : List Visit) →
    chosen relaxes (cond b (v ∷ rest) rest)
    ≡ cond (b && is_relaxed relaxes v.place) (v.choice ∷ []) [] ++ chosen relaxes rest
chosen-visit relaxes true v rest =
    chosen-first relaxes v rest ∙ either-choice (is_relaxed relaxes v.place) v.choice (chosen relaxes rest)
chosen-visit relaxes false v rest = refl

keep-is : (b : Bool) (values : List ℤ) → is_keep (cond b Keep (Take values)) ≡ b
keep-is true values = refl
keep-is false values = refl

and-turned : (a b : Bool) → (a && b) ≡ (b && a)
and-turned true true = refl
and-turned true false = refl
and-turned false true = refl
and-turned false false = refl

module _ (first new : List Node) (words : List WordOp) (entries : List (List (List Bit))) (selectors : List
    Bit)
    (needed : List Bool) (free : ℕ → Bool) (vs : List (List ℤ)) (grown : Extends first new)
    (cells : AreEntriesOf first entries)
    (reads : (w : ℕ) → w < length words → is_needed needed w ≡ true
    → is_set free first entries w ≡ is_nonzero (value_at vs w)) where
  abbrev n : ℕ
  n = length words

  -- the requirements are met
  pub met-is : (ws : List ℕ) → are_names n ws ≡ true → are_needed needed ws ≡ true
      → list_all (is_set free first entries) ws ≡ are_met vs ws
  met-is [] names need = refl
  met-is (w ∷ ws) names need =
      let two = and_parts (is_name n w) (are_names n ws) names in
      let both = and_parts (is_needed needed w) (are_needed needed ws) need in
      let own = reads w (of_name n w two.0) both.0 in
      let rest = met-is ws two.1 both.1 in
      λ i. own i && rest i

  -- the guard and the keep word of an execution are among the roots
  roots-needed : (p : PlaceWords) (g : Option ℕ) → are_needed needed (roots_at p g) ≡ true
      → (is_needed needed p.guard ≡ true) × (is_needed needed p.keep ≡ true)
  roots-needed p None need =
      let two = and_parts (is_needed needed p.guard) (is_needed needed p.keep && true) need in
      (two.0, (and_parts (is_needed needed p.keep) true two.1).0)
  roots-needed p (Some k) need =
      let two = and_parts (is_needed needed p.guard) (is_needed needed p.keep && are_needed needed
      p.values) need in
      (two.0, (and_parts (is_needed needed p.keep) (are_needed needed p.values) two.1).0)

  values-needed : (p : PlaceWords) (k : ℕ) → are_needed needed (roots_at p (Some k)) ≡ true
      → are_needed needed p.values ≡ true
  values-needed p k need =
      let two = and_parts (is_needed needed p.guard) (is_needed needed p.keep && are_needed needed
      p.values) need in
      (and_parts (is_needed needed p.keep) (are_needed needed p.values) two.1).1

  -- what the bits of an execution say
  record Says (p : PlaceWords) (selector : Option Bit) (bits : PlaceBits) : Type 0 where
    selector_is : bits.selector ≡ selector
    guard : truth free new bits.guard ≡ is_nonzero (value_at vs p.guard)
    keep : truth free new bits.keep ≡ is_nonzero (value_at vs p.keep)

  place-says : (p : PlaceWords) (g : Option ℕ) (selector : Option Bit) (bits : PlaceBits)
      → IsPlace first words entries new p selector bits → is_place n p ≡ true
      → are_needed needed (roots_at p g) ≡ true → Says p selector bits
  place-says p g selector bits is names need =
      let all = and_parts (is_name n p.guard && is_name n p.keep) (are_names n p.values) names in
      let two = and_parts (is_name n p.guard) (is_name n p.keep) all.0 in
      let both = roots-needed p g need in
      record {
        selector_is = is.selector_is;
        guard = is.guard.holds free ∙ reads p.guard (of_name n p.guard two.0) both.0;
        keep = is.keep.holds free ∙ reads p.keep (of_name n p.keep two.1) both.1;
      }

  module _ (relaxes : Relaxes) (group : PlaceWords → Option ℕ)
      (agrees : (p : PlaceWords) → is_relaxed relaxes p.place
      ≡ not (is_fixed (truth free new) (selector_at selectors (group p)))) where
    stays-is : (p : PlaceWords) (bits : PlaceBits) → Says p (selector_at selectors (group p)) bits
        → stays (truth free new) bits
        ≡ cond (is_nonzero (value_at vs p.guard))
        (cond (is_relaxed relaxes p.place) true (is_keep (choice_of vs p))) true
    stays-is p bits says =
        ap (λ s. not (is_fixed (truth free new) s && (truth free new bits.guard && not (truth free new
        bits.keep))))
        says.selector_is
        ∙ stay-law (is_fixed (truth free new) (selector_at selectors (group p))) (truth free new bits.guard)
        (truth free new bits.keep)
        ∙ (λ i. cond (says.guard i) (cond (sym (agrees p) i) true
        ((says.keep ∙ sym (keep-is (is_nonzero (value_at vs p.keep)) (map (value_at vs) p.values))) i)) true)

    -- each execution stays if, and only if, the choices at those that may not be relaxed are Keep
    pub kept-is : (ps : List PlaceWords) (bs : List PlaceBits)
        → ArePlaces first words entries selectors new ps (map group ps) bs → list_all (is_place n) ps ≡ true
        → are_needed needed (roots_along ps (map group ps)) ≡ true
        → list_all (stays (truth free new)) bs ≡ are_kept relaxes (visits_in vs ps)
    unfolding visits_in are_kept
    kept-is [] [] are names need = refl
    kept-is [] (b ∷ bs) are names need = absurd are
    kept-is (p ∷ ps) [] are names need = absurd are
    kept-is (p ∷ ps) (b ∷ bs) are names need =
        let two = and_parts (is_place n p) (list_all (is_place n) ps) names in
        let parts = and_parts (are_needed needed (roots_at p (group p)))
        (are_needed needed (roots_along ps (map group ps)))
        (sym (list_all-append (is_needed needed) (roots_at p (group p)) (roots_along ps (map group ps))) ∙
        need) in
        let own = stays-is p b (place-says p (group p) (selector_at selectors (group p)) b are.0 two.0
        parts.0) in
        let rest = kept-is ps bs are.1 two.1 parts.1 in
        (λ i. own i && rest i)
        ∙ sym (kept-visit relaxes (is_nonzero (value_at vs p.guard)) (visit_of vs p) (visits_in vs ps))

    module _ (typed : (w : ℕ) → w < length words → is_needed needed w ≡ true →
        shows_type (slice_get words w) ≡ true
        → converted (word_type (is_signed (get_or words w Free))) (pos (number_of free first (word_at
        entries w)))
        ≡ value_at vs w) where
      numbers-are : (ws : List ℕ) → are_names n ws ≡ true → are_needed needed ws ≡ true
          → list_all (λ w. shows_type (slice_get words w)) ws ≡ true
          → map (number_with (truth free new)) (map (value_bits words entries) ws) ≡ map (value_at vs) ws
      numbers-are [] names need shown = refl
      numbers-are (w ∷ ws) names need shown =
          let two = and_parts (is_name n w) (are_names n ws) names in
          let both = and_parts (is_needed needed w) (are_needed needed ws) need in
          let each = and_parts (shows_type (slice_get words w)) (list_all (λ w. shows_type (slice_get words
          w)) ws) shown in
          let own = ap (λ m. converted (word_type (is_signed (get_or words w Free))) (pos m))
          (number_of-extends free first new (word_at entries w) grown (cells w 0))
          ∙ typed w (of_name n w two.0) both.0 each.0 in
          let rest = numbers-are ws two.1 both.1 each.1 in
          λ i. own i ∷ rest i

      choice-is : (p : PlaceWords) (selector : Option Bit) (bits : PlaceBits)
          → IsPlace first words entries new p selector bits → Says p selector bits → is_place n p ≡ true
          → are_needed needed p.values ≡ true → is_typed words p ≡ true
          → choice_with (truth free new) bits ≡ choice_of vs p
      choice-is p selector bits is says names need shown =
          let all = and_parts (is_name n p.guard && is_name n p.keep) (are_names n p.values) names in
          let numbers = ap (map (number_with (truth free new))) is.values ∙ numbers-are p.values all.1 need
          shown in
          λ i. cond (says.keep i) Keep (Take (numbers i))

      where-is : (p : PlaceWords) (g : Option ℕ) (selector : Option Bit) (bits : PlaceBits)
          → selector_at selectors g ≡ selector → IsPlace first words entries new p selector bits
          → Says p selector bits → is_place n p ≡ true → are_needed needed (roots_at p g) ≡ true
          → is_typed words p ≡ true
          → choices_where (truth free new) bits selector
          ≡ cond (is_nonzero (value_at vs p.guard) && not (is_fixed (truth free new) selector)) (choice_of
          vs p ∷ []) []
      where-is p g None bits at is says names need shown =
          ap (λ b. cond b (choice_of vs p ∷ []) []) (sym (and-false (is_nonzero (value_at vs p.guard))))
      where-is p None (Some s) bits at is says names need shown = absurd (cc)
      where-is p (Some k) (Some s) bits at is says names need shown =
          let choice = choice-is p (Some s) bits is says names (values-needed p k need) shown in
          let test = ap (λ b. not (truth free new s) && b) says.guard
          ∙ and-turned (not (truth free new s)) (is_nonzero (value_at vs p.guard)) in
          λ i. cond (test i) (choice i ∷ []) []

      -- the bits give the choices at the executions that may be relaxed
      pub chosen-is : (ps : List PlaceWords) (bs : List PlaceBits)
          → ArePlaces first words entries selectors new ps (map group ps) bs → list_all (is_place n) ps ≡ true
          → are_needed needed (roots_along ps (map group ps)) ≡ true → are_typed words ps ≡ true
          → flat_map (choices_with (truth free new)) bs ≡ chosen relaxes (visits_in vs ps)
      unfolding visits_in chosen
      chosen-is [] [] are names need shown = refl
      chosen-is [] (b ∷ bs) are names need shown = absurd are
      chosen-is (p ∷ ps) [] are names need shown = absurd are
      chosen-is (p ∷ ps) (b ∷ bs) are names need shown =
          let two = and_parts (is_place n p) (list_all (is_place n) ps) names in
          let each = and_parts (is_typed words p) (are_typed words ps) shown in
          let parts = and_parts (are_needed needed (roots_at p (group p)))
          (are_needed needed (roots_along ps (map group ps)))
          (sym (list_all-append (is_needed needed) (roots_at p (group p)) (roots_along ps (map group ps)))
          ∙ need) in
          let selector : Option Bit = selector_at selectors (group p) in
          let says = place-says p (group p) selector b are.0 two.0 parts.0 in
          let own = ap (choices_where (truth free new) b) says.selector_is
          ∙ where-is p (group p) selector b refl are.0 says two.0 parts.0 each.0
          ∙ ap (λ r. cond (is_nonzero (value_at vs p.guard) && r) (choice_of vs p ∷ []) []) (sym (agrees
          p)) in
          let rest = chosen-is ps bs are.1 two.1 parts.1 each.1 in
          (λ i. own i ++ rest i)
          ∙ sym (chosen-visit relaxes (is_nonzero (value_at vs p.guard)) (visit_of vs p) (visits_in vs ps))
