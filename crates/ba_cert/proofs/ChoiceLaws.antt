-- The choices of a run: what is read has that text, and is read again.

use Rattle.std.proofs.Common.{◌≡◌, ℕ, ℤ, cond, Option, None, Some, option_map, List, [], ◌∷◌, ◌++◌, map, flat_map, codes, bytes_eq, All, refl, sym, ap, ◌∙◌, subst, append_assoc, append-nil}
use Rattle.std.specs.Fmt.{signed_decimal}
use Rattle.std.proofs.lemmas.List.{map-append}
use Rattle.std.proofs.lemmas.List.Concat.{flat_map-append}
use Rattle.std.proofs.lemmas.List.Elements.{All-nil, All-cons, All-head, All-tail, All-append}
use Rattle.std.proofs.lemmas.Option.{same_Some}
use Rattle.std.proofs.lemmas.Slice.Eq.{bytes_eq-Decides}
use Rattle.ba_choices.specs.declared.Choice.{Choice}
use Rattle.ba_choices.specs.declared.Choice.TheVariants.{Keep, Take}
use Rattle.ba_steps.specs.Steps.{IsValue, IsFormedChoice}
use Rattle.ba_text.specs.Texts.{choice_parts}
use Rattle.ba_cert.specs.Reading.{◌>>=◌, value_of, pending_choice, choices_of, no_choice, with_value, with_part, run_at}
use Rattle.ba_cert.specs.declared.choices.Run.{Run}
use Rattle.ba_cert.proofs.Binding.{bound, mapped, choose}
use Rattle.ba_cert.proofs.ListLaws.{not-read}
use Rattle.ba_cert.proofs.NumberLaws.{value-back, value-again, keep-value, take-value}

-- a run whose last choice may take more values
abbrev run_with : List Choice → Option (List ℤ) → Run
run_with done pending = record { done = done; pending = pending }

-- ONE PART

with_part-keep : (run : Run) → with_part run (codes "k") ≡ Some (run_with (choices_of run ++ Keep ∷ []) None)
unfolding with_part
with_part-keep run = refl

with_part-take : (run : Run) → with_part run (codes "t") ≡ Some (run_with (choices_of run) (Some []))
unfolding with_part
with_part-take run = refl

with_part-value : (done : List Choice) (values : List ℤ) (z : ℤ) → IsValue z →
    with_part (run_with done (Some values)) (signed_decimal z)
    ≡ Some (run_with done (Some (values ++ z ∷ [])))
unfolding with_part
with_part-value done values z h =
    let is = value-again z h in
    let part = signed_decimal z in
    let run = run_with done (Some values) in
    let read : Option Run = value_of part >>=
    (λ value. option_map (λ pending. record run { pending = pending }) (with_value run.pending value)) in
    let taken : Option Run = cond (bytes_eq part (codes "t"))
    (Some (run_with (choices_of run) (Some []))) read in
    ap (λ t. cond t (Some (run_with (choices_of run ++ Keep ∷ []) None)) taken)
    (not-read value_of z part (codes "k") is keep-value)
    ∙ ap (λ t. cond t (Some (run_with (choices_of run) (Some []))) read)
    (not-read value_of z part (codes "t") is take-value)
    ∙ ap (λ o. o >>=
    (λ value. option_map (λ pending. record run { pending = pending }) (with_value run.pending value))) is

-- READ AGAIN

values_again : (done : List Choice) (seen values : List ℤ) (parts : List (List ℕ)) → All IsValue values →
    run_at (run_with done (Some seen)) (map signed_decimal values ++ parts)
    ≡ run_at (run_with done (Some (seen ++ values))) parts
values_again done seen [] parts all = ap (λ vs. run_at (run_with done (Some vs)) parts)
    (sym (append-nil seen))
values_again done seen (z ∷ zs) parts all =
    ap (λ o. o >>= (λ more. run_at more (map signed_decimal zs ++ parts)))
    (with_part-value done seen z (All-head IsValue z zs all))
    ∙ values_again done (seen ++ z ∷ []) zs parts (All-tail IsValue z zs all)
    ∙ ap (λ vs. run_at (run_with done (Some vs)) parts) (append_assoc seen (z ∷ []) zs)

run_again : (state : Run) (run : List Choice) → All IsFormedChoice run →
    run_at state (flat_map choice_parts run) ≡ Some (choices_of state ++ run)
run_again state [] all = ap (λ cs. Some cs) (sym (append-nil (choices_of state)))
run_again state (Keep ∷ run) all =
    let more = run_with (choices_of state ++ Keep ∷ []) None in
    ap (λ o. o >>= (λ next. run_at next (flat_map choice_parts run))) (with_part-keep state)
    ∙ run_again more run (All-tail IsFormedChoice Keep run all)
    ∙ ap (λ cs. Some (cs ++ run)) (append-nil (choices_of state ++ Keep ∷ []))
    ∙ ap (λ cs. Some cs) (append_assoc (choices_of state) (Keep ∷ []) run)
run_again state (Take values ∷ run) all =
    ap (λ o. o >>= (λ next. run_at next (map signed_decimal values ++ flat_map choice_parts run)))
    (with_part-take state)
    ∙ values_again (choices_of state) [] values (flat_map choice_parts run)
    (All-head IsFormedChoice (Take values) run all)
    ∙ run_again (run_with (choices_of state) (Some values)) run
    (All-tail IsFormedChoice (Take values) run all)
    ∙ ap (λ cs. Some cs) (append_assoc (choices_of state) (Take values ∷ []) run)

pub run-again : (run : List Choice) → All IsFormedChoice run →
    run_at no_choice (flat_map choice_parts run) ≡ Some run
run-again run all = run_again no_choice run all

-- READ BACK

-- the text of choices with one part more, and what was formed stays so
record IsGrown (old new : List Choice) (part : List ℕ) : Type 0 where
  text : flat_map choice_parts new ≡ flat_map choice_parts old ++ part ∷ []
  formed : All IsFormedChoice old → All IsFormedChoice new

grown-keep : (old : List Choice) (part : List ℕ) → part ≡ codes "k" →
    IsGrown old (old ++ Keep ∷ [] ++ []) part
grown-keep old part is = record {
  text = ap (flat_map choice_parts) (append-nil (old ++ Keep ∷ []))
      ∙ flat_map-append choice_parts old (Keep ∷ []) ∙ ap (λ p. flat_map choice_parts old ++ p ∷ []) (sym is);
  formed = λ all. subst (All IsFormedChoice) (sym (append-nil (old ++ Keep ∷ [])))
      (All-append IsFormedChoice old (Keep ∷ []) all
      (All-cons IsFormedChoice Keep [] tt (All-nil IsFormedChoice)));
}

grown-take : (old : List Choice) (part : List ℕ) → part ≡ codes "t" → IsGrown old (old ++ Take [] ∷ []) part
grown-take old part is = record {
  text = flat_map-append choice_parts old (Take [] ∷ [])
      ∙ ap (λ p. flat_map choice_parts old ++ p ∷ []) (sym is);
  formed = λ all. All-append IsFormedChoice old (Take [] ∷ []) all
      (All-cons IsFormedChoice (Take []) [] (All-nil IsValue) (All-nil IsFormedChoice));
}

take_parts : (values : List ℤ) →
    flat_map choice_parts (Take values ∷ []) ≡ codes "t" ∷ map signed_decimal values
take_parts values = append-nil (codes "t" ∷ map signed_decimal values)

grown-value : (done : List Choice) (values : List ℤ) (z : ℤ) (part : List ℕ) → part ≡ signed_decimal z →
    IsValue z →
    IsGrown (done ++ Take values ∷ []) (done ++ Take (values ++ z ∷ []) ∷ []) part
grown-value done values z part is value = record { text = text; formed = formed }
  where
    text : flat_map choice_parts (done ++ Take (values ++ z ∷ []) ∷ [])
        ≡ flat_map choice_parts (done ++ Take values ∷ []) ++ part ∷ []
    text =
        let front = flat_map choice_parts done in
        flat_map-append choice_parts done (Take (values ++ z ∷ []) ∷ [])
        ∙ ap (λ r. front ++ r)
        (take_parts (values ++ z ∷ [])
        ∙ ap (λ r. codes "t" ∷ r) (map-append signed_decimal values (z ∷ [])))
        ∙ sym (append_assoc front (codes "t" ∷ map signed_decimal values) (signed_decimal z ∷ []))
        ∙ ap (λ r. r ++ signed_decimal z ∷ [])
        (ap (λ r. front ++ r) (sym (take_parts values))
        ∙ sym (flat_map-append choice_parts done (Take values ∷ [])))
        ∙ ap (λ p. flat_map choice_parts (done ++ Take values ∷ []) ++ p ∷ []) (sym is)

    back : (cs : List Choice) → All IsFormedChoice (cs ++ Take values ∷ []) →
        All IsFormedChoice cs × All IsValue values
    back [] all = (All-nil IsFormedChoice, All-head IsFormedChoice (Take values) [] all)
    back (c ∷ cs) all =
        let r = back cs (All-tail IsFormedChoice c (cs ++ Take values ∷ []) all) in
        (All-cons IsFormedChoice c cs (All-head IsFormedChoice c (cs ++ Take values ∷ []) all) r.0, r.1)

    formed : All IsFormedChoice (done ++ Take values ∷ []) →
        All IsFormedChoice (done ++ Take (values ++ z ∷ []) ∷ [])
    formed all =
        let r = back done all in
        All-append IsFormedChoice done (Take (values ++ z ∷ []) ∷ []) r.0
        (All-cons IsFormedChoice (Take (values ++ z ∷ [])) []
        (All-append IsValue values (z ∷ []) r.1 (All-cons IsValue z [] value (All-nil IsValue)))
        (All-nil IsFormedChoice))

with_part-back : (run next : Run) (part : List ℕ) → with_part run part ≡ Some next →
    IsGrown (choices_of run) (choices_of next) part
unfolding with_part
with_part-back run next part e =
    choose (bytes_eq part (codes "k")) (Some (run_with (choices_of run ++ Keep ∷ []) None)) _ next e
    (λ is same. subst (λ (r : Run). IsGrown (choices_of run) (choices_of r) part) (same_Some _ next same)
    (grown-keep (choices_of run) part ((bytes_eq-Decides part (codes "k")).0 is)))
    (λ not_keep more.
    choose (bytes_eq part (codes "t")) (Some (run_with (choices_of run) (Some []))) _ next more
    (λ is same. subst (λ (r : Run). IsGrown (choices_of run) (choices_of r) part) (same_Some _ next same)
    (grown-take (choices_of run) part ((bytes_eq-Decides part (codes "t")).0 is)))
    (λ not_take read. value read))
  where
    value : (value_of part >>=
        (λ z. option_map (λ pending. record run { pending = pending }) (with_value run.pending z)))
        ≡ Some next → IsGrown (choices_of run) (choices_of next) part
    value read =
        let b = bound (value_of part)
        (λ z. option_map (λ pending. record run { pending = pending }) (with_value run.pending z)) next
        read in
        let m = mapped (λ (pending : Option (List ℤ)). record run { pending = pending })
        (with_value run.pending b.value) next b.second in
        let w = mapped (λ (values : List ℤ). Some (values ++ b.value ∷ [])) run.pending m.value m.first in
        let z = value-back part b.value b.first in
        let before : choices_of run
        ≡ run.done ++ Take w.value ∷ [] = ap (λ p. run.done ++ pending_choice p) w.first in
        let after : choices_of next ≡ run.done ++ Take (w.value ++ b.value ∷ []) ∷ [] =
        ap choices_of (sym m.same) ∙ ap (λ p. run.done ++ pending_choice p) (sym w.same) in
        let grown = grown-value run.done w.value b.value part z.0 z.1 in
        subst (λ cs. IsGrown cs (choices_of next) part) (sym before)
        (subst (λ cs. IsGrown (run.done ++ Take w.value ∷ []) cs part) (sym after) grown)

record IsRun (old out : List Choice) (parts : List (List ℕ)) : Type 0 where
  text : flat_map choice_parts out ≡ flat_map choice_parts old ++ parts
  formed : All IsFormedChoice old → All IsFormedChoice out

run_back : (parts : List (List ℕ)) (run : Run) (out : List Choice) → run_at run parts ≡ Some out →
    IsRun (choices_of run) out parts
run_back [] run out e =
    let same : choices_of run ≡ out = same_Some (choices_of run) out e in record {
      text = ap (flat_map choice_parts) (sym same)
          ∙ sym (append-nil (flat_map choice_parts (choices_of run)));
      formed = λ all. subst (All IsFormedChoice) same all;
    }
run_back (p ∷ ps) run out e =
    let b = bound (with_part run p) (λ more. run_at more ps) out e in
    let one = with_part-back run b.value p b.first in
    let rest = run_back ps b.value out b.second in record {
      text = rest.text ∙ ap (λ r. r ++ ps) one.text
          ∙ append_assoc (flat_map choice_parts (choices_of run)) (p ∷ []) ps;
      formed = λ all. rest.formed (one.formed all);
    }

pub run-back : (parts : List (List ℕ)) (run : List Choice) → run_at no_choice parts ≡ Some run →
    (parts ≡ flat_map choice_parts run) × All IsFormedChoice run
run-back parts run e = let r = run_back parts no_choice run e in
    (sym r.text, r.formed (All-nil IsFormedChoice))
