-- The choices at places, if words are added and if some places may not be relaxed.
use Rattle.std.proofs.Common.{◌≡◌, ℕ, ℤ, Bool, true, false, ◌&&◌, cond, List, [], ◌∷◌, ◌++◌, map, refl, ◌∙◌, ap}
use Rattle.std.proofs.lemmas.Bool.{and_parts}
use Rattle.std.specs.List.{list_all}
use Rattle.ba_choices.specs.declared.Choice.{Choice}
use Rattle.ba_choices.specs.declared.Choice.TheVariants.{Keep, Take}
use Rattle.ba_code_laws.specs.Tracing.{Relaxes, everywhere, is_relaxed}
use Rattle.ba_code_laws.specs.Visits.{Visit, are_kept, chosen, is_keep}
use Rattle.ba_wordlist.proofs.Values.{SameBelow, of_name, value-same, values-same}
use Rattle.ba_wordlist.specs.Facts.{are_names, is_name, is_place}
use Rattle.ba_wordlist.specs.Meaning.{is_nonzero, value_at, visit_of, visits_in}
use Rattle.ba_wordlist.specs.declared.words.PlaceWords.{PlaceWords}

pub visits-none : (vs : List (List ℤ)) → visits_in vs [] ≡ []
unfolding visits_in
visits-none vs = refl

first-visit : (b : Bool) (v : Visit) (xs ys : List Visit)
    → cond b (v ∷ (xs ++ ys)) (xs ++ ys) ≡ cond b (v ∷ xs) xs ++ ys
first-visit true v xs ys = refl
first-visit false v xs ys = refl

pub visits-append : (vs : List (List ℤ)) (ps qs : List PlaceWords)
    → visits_in vs (ps ++ qs) ≡ visits_in vs ps ++ visits_in vs qs
unfolding visits_in
visits-append vs [] qs = refl
visits-append vs (p ∷ ps) qs =
    ap (λ rest. cond (is_nonzero (value_at vs p.guard)) (visit_of vs p ∷ rest) rest) (visits-append vs ps qs)
    ∙ first-visit (is_nonzero (value_at vs p.guard)) (visit_of vs p) (visits_in vs ps) (visits_in vs qs)

pub visits-one : (vs : List (List ℤ)) (p : PlaceWords)
    → visits_in vs (p ∷ []) ≡ cond (is_nonzero (value_at vs p.guard)) (visit_of vs p ∷ []) []
unfolding visits_in
visits-one vs p = refl

visit-same : (n : ℕ) (p : PlaceWords) (vs us : List (List ℤ)) → SameBelow n vs us → is_place n p ≡ true
    → visit_of vs p ≡ visit_of us p
visit-same n p vs us same h =
    let all = and_parts (is_name n p.guard && is_name n p.keep) (are_names n p.values) h in
    let two = and_parts (is_name n p.guard) (is_name n p.keep) all.0 in
    ap (λ z. record {
      place = p.place;
      choice = cond (is_nonzero z) Keep (Take (map (value_at vs) p.values));
    })
    (value-same n p.keep vs us same (of_name n p.keep two.1))
    ∙ ap (λ zs. record { place = p.place; choice = cond (is_nonzero (value_at us p.keep)) Keep (Take zs) })
    (values-same n p.values vs us same all.1)

pub visits-same : (n : ℕ) (ps : List PlaceWords) (vs us : List (List ℤ)) → SameBelow n vs us
    → list_all (is_place n) ps ≡ true → visits_in vs ps ≡ visits_in us ps
unfolding visits_in
visits-same n [] vs us same h = refl
visits-same n (p ∷ ps) vs us same h =
    let both = and_parts (is_place n p) (list_all (is_place n) ps) h in
    let all = and_parts (is_name n p.guard && is_name n p.keep) (are_names n p.values) both.0 in
    let two = and_parts (is_name n p.guard) (is_name n p.keep) all.0 in
    ap (λ z. cond (is_nonzero z) (visit_of vs p ∷ visits_in vs ps) (visits_in vs ps))
    (value-same n p.guard vs us same (of_name n p.guard two.0))
    ∙ ap (λ v. cond (is_nonzero (value_at us p.guard)) (v ∷ visits_in vs ps) (visits_in vs ps))
    (visit-same n p vs us same both.0)
    ∙ ap (λ rest. cond (is_nonzero (value_at us p.guard)) (visit_of us p ∷ rest) rest)
    (visits-same n ps vs us same both.1)

-- WHERE SOME PLACES MAY NOT BE RELAXED

module _ (r : Relaxes) where
  first-choice : (b : Bool) (c : Choice) (xs ys : List Choice)
      → cond b (c ∷ (xs ++ ys)) (xs ++ ys) ≡ cond b (c ∷ xs) xs ++ ys
  first-choice true c xs ys = refl
  first-choice false c xs ys = refl

  pub chosen-none : chosen r [] ≡ []
  unfolding chosen
  chosen-none = refl

  pub kept-none : are_kept r [] ≡ true
  unfolding are_kept
  kept-none = refl

  pub chosen-append : (vs ws : List Visit) → chosen r (vs ++ ws) ≡ chosen r vs ++ chosen r ws
  unfolding chosen
  chosen-append [] ws = refl
  chosen-append (v ∷ vs) ws =
      ap (λ rest. cond (is_relaxed r v.place) (v.choice ∷ rest) rest) (chosen-append vs ws)
      ∙ first-choice (is_relaxed r v.place) v.choice (chosen r vs) (chosen r ws)

  pub kept-append : (vs ws : List Visit) → are_kept r (vs ++ ws) ≡ (are_kept r vs && are_kept r ws)
  unfolding are_kept
  kept-append [] ws = refl
  kept-append (v ∷ vs) ws =
      ap (λ b. cond (is_relaxed r v.place) true (is_keep v.choice) && b) (kept-append vs ws)
      ∙ regroup (cond (is_relaxed r v.place) true (is_keep v.choice)) (are_kept r vs) (are_kept r ws) where
        regroup : (a b c : Bool) → (a && (b && c)) ≡ ((a && b) && c)
        regroup true b c = refl
        regroup false b c = refl

  pub chosen-one : (v : Visit) → chosen r (v ∷ []) ≡ cond (is_relaxed r v.place) (v.choice ∷ []) []
  unfolding chosen
  chosen-one v = refl

  pub chosen-first : (v : Visit) (vs : List Visit)
      → chosen r (v ∷ vs) ≡ cond (is_relaxed r v.place) (v.choice ∷ chosen r vs) (chosen r vs)
  unfolding chosen
  chosen-first v vs = refl

  pub kept-first : (v : Visit) (vs : List Visit)
      → are_kept r (v ∷ vs) ≡ (cond (is_relaxed r v.place) true (is_keep v.choice) && are_kept r vs)
  unfolding are_kept
  kept-first v vs = refl

pub chosen-everywhere : (vs : List Visit) → chosen everywhere vs ≡ map (λ (v : Visit). v.choice) vs
unfolding chosen
chosen-everywhere [] = refl
chosen-everywhere (v ∷ vs) = ap (λ cs. v.choice ∷ cs) (chosen-everywhere vs)

pub kept-everywhere : (vs : List Visit) → are_kept everywhere vs ≡ true
unfolding are_kept
kept-everywhere [] = refl
kept-everywhere (v ∷ vs) = kept-everywhere vs

pub chosen-nothing : (vs : List Visit) → chosen everywhere vs ≡ [] → vs ≡ []
unfolding chosen
chosen-nothing [] none = refl
chosen-nothing (v ∷ vs) none = absurd (cc)
