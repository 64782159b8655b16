-- The parts of a step: what is read has these parts, and is read again.

use Rattle.std.proofs.Common.{◌≡◌, ℕ, ◌-◌, ◌^◌, ◌<◌, eqb, false, cond, None, Some, List, [], ◌∷◌, ◌++◌, map, flat_map, length, codes, decimal, refl, sym, ap, ◌∙◌, subst, append-nil, arith}
use Rattle.std.proofs.lemmas.Bool.{eqb-true, ne_eqb}
use Rattle.std.proofs.lemmas.List.Elements.{All-weaker}
use Rattle.std.proofs.lemmas.Option.{none-some, same_Some, cond_some, some_pair_parts}
use Rattle.ba_choices.specs.declared.Choice.{Choice}
use Rattle.ba_lits.specs.Literals.{Literal, IsClause}
use Rattle.ba_steps.specs.Steps.{AreNumbers}
use Rattle.ba_steps.specs.declared.step.CertStep.{CertStep}
use Rattle.ba_steps.specs.declared.step.CertStep.TheVariants.{Learn, Core, Delete, Block, EndLocated, EndNoRepair, EndTooMany, EndSpent}
use Rattle.ba_cert.specs.Text.{literal_text, ended, clause_parts, step_parts, HasLine}
use Rattle.ba_text.specs.Texts.{choice_parts}
use Rattle.ba_cert.specs.Reading.{◌>>=◌, has_more, counted_of, group_of, literal_of, listed, ascends, variable_of, itself, clause_by, clause_at, no_choice, run_at, learn_by, learn_at, core_by, core_at, delete_by, delete_at, block_by, block_at, located_by, located_at, no_repair_by, no_repair_at, alone, letter_at, end_by, end_at, step_by, step_at}
use Rattle.ba_cert.proofs.Binding.{bound, refused, choose}
use Rattle.ba_cert.proofs.ListLaws.{IsCount, IsGroup, IsFormedLit, counts, groups, literals, listed-again, listed-last, listed-back, above-test, above-from, groups-formed, clause-from, clause-test, clause-formed}
use Rattle.ba_cert.proofs.ChoiceLaws.{run-again, run-back}

-- TESTS

pub no_more : (parts : List (List ℕ)) → has_more parts ≡ false → parts ≡ []
no_more [] e = refl
no_more (p ∷ ps) e = cc

some_item : {A : Type 0} (xs : List A) → eqb (length xs) 0 ≡ false → 0 < length xs
some_item [] e = cc
some_item (x ∷ xs) e = omega arith

not_none : {A : Type 0} (xs : List A) → 0 < length xs → eqb (length xs) 0 ≡ false
not_none xs some = ne_eqb (length xs) 0 (λ e. omega (arith, e, some))

-- CLAUSES WITH HINTS

clause-again : (lits : List Literal) (hints : List ℕ) → IsClause (2 ^ 62 - 1) lits → AreNumbers hints →
    clause_at (clause_parts lits hints) ≡ Some (lits, hints)
unfolding clause_at
clause-again lits hints clause numbers =
    ap (λ o. o >>= (λ (l : List Literal × List (List ℕ)). listed counted_of [] l.1 >>= clause_by l.0))
    (listed-again literal_text literal_of IsFormedLit literals [] lits (ended (map decimal hints))
    (clause-formed lits clause))
    ∙ ap (λ o. o >>= clause_by lits) (listed-last decimal counted_of IsCount counts hints numbers)
    ∙ ap (λ t. cond t (Some (lits, hints)) None) (clause-test (2 ^ 62 - 1) lits clause)

record IsClauseRead (parts : List (List ℕ)) (lits : List Literal) (hints : List ℕ) : Type 0 where
  parts_are : parts ≡ clause_parts lits hints
  clause : IsClause (2 ^ 62 - 1) lits
  numbers : AreNumbers hints

clause-back : (parts : List (List ℕ)) (lits : List Literal) (hints : List ℕ) →
    clause_at parts ≡ Some (lits, hints) → IsClauseRead parts lits hints
unfolding clause_at
clause-back parts lits hints e =
    let b = bound (listed literal_of [] parts)
    (λ (l : List Literal × List (List ℕ)). listed counted_of [] l.1 >>= clause_by l.0) (lits, hints) e in
    let c = bound (listed counted_of [] b.value.1) (clause_by b.value.0) (lits, hints) b.second in
    let g = refused (has_more c.value.1)
    (cond (ascends variable_of 0 b.value.0) (Some (b.value.0, c.value.0)) None) (lits, hints) c.second in
    let t = cond_some (ascends variable_of 0 b.value.0) (b.value.0, c.value.0) (lits, hints) g.1 in
    let same_lits : b.value.0 ≡ lits = ap (λ (p : List Literal × List ℕ). p.0) t.1 in
    let same_hints : c.value.0 ≡ hints = ap (λ (p : List Literal × List ℕ). p.1) t.1 in
    let first = listed-back literal_text literal_of IsFormedLit literals parts b.value.0 b.value.1 b.first in
    let second = listed-back decimal counted_of IsCount counts b.value.1 c.value.0 c.value.1 c.first in
    let rest : b.value.1 ≡ ended (map decimal hints) =
    second.0 ∙ ap (λ r. ended (map decimal c.value.0) ++ r) (no_more c.value.1 g.0)
    ∙ append-nil (ended (map decimal c.value.0))
    ∙ ap (λ ns. ended (map decimal ns)) same_hints in record {
      parts_are = first.0 ∙ ap (λ ls. ended (map literal_text ls) ++ b.value.1) same_lits
          ∙ ap (λ r. ended (map literal_text lits) ++ r) rest;
      clause = subst (IsClause (2 ^ 62 - 1)) same_lits (clause-from 0 b.value.0 t.0 first.1);
      numbers = subst AreNumbers same_hints second.1;
    }

-- EACH STEP, after its letter

-- the parts are those of the step, after these
record IsStep (front parts : List (List ℕ)) (step : CertStep) : Type 0 where
  parts_are : front ++ parts ≡ step_parts step
  formed : HasLine step

learn-again : (lits : List Literal) (hints : List ℕ) → HasLine (Learn lits hints) →
    learn_at (clause_parts lits hints) ≡ Some (Learn lits hints)
unfolding learn_at
learn-again lits hints h =
    ap (λ o. o >>= learn_by) (clause-again lits hints h.0.0.0 h.0.1)
    ∙ ap (λ t. cond t None (Some (Learn lits hints))) (not_none lits h.0.0.1)

learn-back : (parts : List (List ℕ)) (step : CertStep) → learn_at parts ≡ Some step →
    IsStep (codes "l" ∷ []) parts step
unfolding learn_at
learn-back parts step e =
    let b = bound (clause_at parts) learn_by step e in
    let c = clause-back parts b.value.0 b.value.1 b.first in
    let g = refused (eqb (length b.value.0) 0) (Some (Learn b.value.0 b.value.1)) step b.second in
    let read : IsStep (codes "l" ∷ []) parts (Learn b.value.0 b.value.1) = record {
      parts_are = ap (λ r. codes "l" ∷ r) c.parts_are;
      formed = (((c.clause, some_item b.value.0 g.0), c.numbers), tt);
    } in
    subst (IsStep (codes "l" ∷ []) parts) (same_Some (Learn b.value.0 b.value.1) step g.1) read

core-again : (lits : List Literal) (hints : List ℕ) → HasLine (Core lits hints) →
    core_at (clause_parts lits hints) ≡ Some (Core lits hints)
unfolding core_at
core-again lits hints h =
    ap (λ o. o >>= core_by) (clause-again lits hints h.0.0.0 h.0.1)
    ∙ ap (λ t. cond t None (Some (Core lits hints))) (not_none lits h.0.0.1)

core-back : (parts : List (List ℕ)) (step : CertStep) → core_at parts ≡ Some step →
    IsStep (codes "c" ∷ []) parts step
unfolding core_at
core-back parts step e =
    let b = bound (clause_at parts) core_by step e in
    let c = clause-back parts b.value.0 b.value.1 b.first in
    let g = refused (eqb (length b.value.0) 0) (Some (Core b.value.0 b.value.1)) step b.second in
    let read : IsStep (codes "c" ∷ []) parts (Core b.value.0 b.value.1) = record {
      parts_are = ap (λ r. codes "c" ∷ r) c.parts_are;
      formed = (((c.clause, some_item b.value.0 g.0), c.numbers), tt);
    } in
    subst (IsStep (codes "c" ∷ []) parts) (same_Some (Core b.value.0 b.value.1) step g.1) read

delete-again : (clauses : List ℕ) → HasLine (Delete clauses) →
    delete_at (ended (map decimal clauses)) ≡ Some (Delete clauses)
unfolding delete_at
delete-again clauses h =
    ap (λ o. o >>= delete_by) (listed-last decimal counted_of IsCount counts clauses h.0.0)
    ∙ ap (λ t. cond t None (cond (ascends itself 0 clauses) (Some (Delete clauses)) None))
    (not_none clauses h.0.2)
    ∙ ap (λ t. cond t (Some (Delete clauses)) None) (above-test 0 clauses h.0.1)

delete-back : (parts : List (List ℕ)) (step : CertStep) → delete_at parts ≡ Some step →
    IsStep (codes "d" ∷ []) parts step
unfolding delete_at
delete-back parts step e =
    let b = bound (listed counted_of [] parts) delete_by step e in
    let clauses = b.value.0 in
    let l = listed-back decimal counted_of IsCount counts parts clauses b.value.1 b.first in
    let g = refused (has_more b.value.1)
    (cond (eqb (length clauses) 0) None (cond (ascends itself 0 clauses) (Some (Delete clauses)) None))
    step b.second in
    let s = refused (eqb (length clauses) 0)
    (cond (ascends itself 0 clauses) (Some (Delete clauses)) None) step g.1 in
    let t = cond_some (ascends itself 0 clauses) (Delete clauses) step s.1 in
    let whole : parts ≡ ended (map decimal clauses) =
    l.0 ∙ ap (λ r. ended (map decimal clauses) ++ r) (no_more b.value.1 g.0)
    ∙ append-nil (ended (map decimal clauses)) in
    let read : IsStep (codes "d" ∷ []) parts (Delete clauses) = record {
      parts_are = ap (λ r. codes "d" ∷ r) whole;
      formed = ((l.1, above-from 0 clauses t.0, some_item clauses s.0), tt);
    } in
    subst (IsStep (codes "d" ∷ []) parts) t.1 read

block-again : (set : List ℕ) (run : List Choice) → HasLine (Block set run) →
    block_at (ended (map decimal set) ++ flat_map choice_parts run) ≡ Some (Block set run)
unfolding block_at
block-again set run h =
    ap (λ o. o >>= (λ (g : List ℕ × List (List ℕ)). run_at no_choice g.1 >>= block_by g.0))
    (listed-again decimal group_of IsGroup groups [] set (flat_map choice_parts run)
    (groups-formed set h.0.0 h.1))
    ∙ ap (λ o. o >>= block_by set) (run-again run h.0.2)
    ∙ ap (λ t. cond t None (cond (ascends itself 0 set) (Some (Block set run)) None)) (not_none set h.0.1)
    ∙ ap (λ t. cond t (Some (Block set run)) None) (above-test 0 set h.0.0)

block-back : (parts : List (List ℕ)) (step : CertStep) → block_at parts ≡ Some step →
    IsStep (codes "s" ∷ []) parts step
unfolding block_at
block-back parts step e =
    let b = bound (listed group_of [] parts)
    (λ (g : List ℕ × List (List ℕ)). run_at no_choice g.1 >>= block_by g.0) step e in
    let set = b.value.0 in
    let c = bound (run_at no_choice b.value.1) (block_by set) step b.second in
    let l = listed-back decimal group_of IsGroup groups parts set b.value.1 b.first in
    let r = run-back b.value.1 c.value c.first in
    let s = refused (eqb (length set) 0)
    (cond (ascends itself 0 set) (Some (Block set c.value)) None) step c.second in
    let t = cond_some (ascends itself 0 set) (Block set c.value) step s.1 in
    let read : IsStep (codes "s" ∷ []) parts (Block set c.value) = record {
      parts_are = ap (λ r. codes "s" ∷ r) (l.0 ∙ ap (λ q. ended (map decimal set) ++ q) r.0);
      formed = (
        (above-from 0 set t.0, some_item set s.0, r.1),
        All-weaker IsGroup (λ n. n < 2 ^ 32)
            (λ n p. p.1) set l.1,
      );
    } in
    subst (IsStep (codes "s" ∷ []) parts) t.1 read

located-again : (lits : List Literal) (hints : List ℕ) → HasLine (EndLocated lits hints) →
    located_at (clause_parts lits hints) ≡ Some (EndLocated lits hints)
unfolding located_at
located-again lits hints h = ap (λ o. o >>= located_by) (clause-again lits hints h.0.0 h.0.1)

located-back : (parts : List (List ℕ)) (step : CertStep) → located_at parts ≡ Some step →
    IsStep (codes "e" ∷ codes "l" ∷ []) parts step
unfolding located_at
located-back parts step e =
    let b = bound (clause_at parts) located_by step e in
    let c = clause-back parts b.value.0 b.value.1 b.first in
    let read : IsStep (codes "e" ∷ codes "l" ∷ []) parts (EndLocated b.value.0 b.value.1) = record {
      parts_are = ap (λ r. codes "e" ∷ codes "l" ∷ r) c.parts_are;
      formed = ((c.clause, c.numbers), tt);
    } in
    subst (IsStep (codes "e" ∷ codes "l" ∷ []) parts)
    (same_Some (EndLocated b.value.0 b.value.1) step b.second) read

no_repair-again : (hints : List ℕ) → HasLine (EndNoRepair hints) →
    no_repair_at (ended (map decimal hints)) ≡ Some (EndNoRepair hints)
unfolding no_repair_at
no_repair-again hints h = ap (λ o. o >>= no_repair_by)
    (listed-last decimal counted_of IsCount counts hints h.0)

no_repair-back : (parts : List (List ℕ)) (step : CertStep) → no_repair_at parts ≡ Some step →
    IsStep (codes "e" ∷ codes "n" ∷ []) parts step
unfolding no_repair_at
no_repair-back parts step e =
    let b = bound (listed counted_of [] parts) no_repair_by step e in
    let hints = b.value.0 in
    let l = listed-back decimal counted_of IsCount counts parts hints b.value.1 b.first in
    let g = refused (has_more b.value.1) (Some (EndNoRepair hints)) step b.second in
    let whole : parts ≡ ended (map decimal hints) =
    l.0 ∙ ap (λ r. ended (map decimal hints) ++ r) (no_more b.value.1 g.0)
    ∙ append-nil (ended (map decimal hints)) in
    let read : IsStep (codes "e" ∷ codes "n" ∷ []) parts (EndNoRepair hints) = record {
      parts_are = ap (λ r. codes "e" ∷ codes "n" ∷ r) whole;
      formed = (l.1, tt);
    } in
    subst (IsStep (codes "e" ∷ codes "n" ∷ []) parts) (same_Some (EndNoRepair hints) step g.1) read

too_many-back : (parts : List (List ℕ)) (step : CertStep) → alone EndTooMany parts ≡ Some step →
    IsStep (codes "e" ∷ codes "m" ∷ []) parts step
unfolding alone
too_many-back parts step e =
    let g = refused (has_more parts) (Some EndTooMany) step e in
    let read : IsStep (codes "e" ∷ codes "m" ∷ []) parts EndTooMany = record {
      parts_are = ap (λ r. codes "e" ∷ codes "m" ∷ r) (no_more parts g.0);
      formed = (tt, tt);
    } in
    subst (IsStep (codes "e" ∷ codes "m" ∷ []) parts) (same_Some EndTooMany step g.1) read

spent-back : (parts : List (List ℕ)) (step : CertStep) → alone EndSpent parts ≡ Some step →
    IsStep (codes "e" ∷ codes "b" ∷ []) parts step
unfolding alone
spent-back parts step e =
    let g = refused (has_more parts) (Some EndSpent) step e in
    let read : IsStep (codes "e" ∷ codes "b" ∷ []) parts EndSpent = record {
      parts_are = ap (λ r. codes "e" ∷ codes "b" ∷ r) (no_more parts g.0);
      formed = (tt, tt);
    } in
    subst (IsStep (codes "e" ∷ codes "b" ∷ []) parts) (same_Some EndSpent step g.1) read

-- LETTERS

letter-back : (parts : List (List ℕ)) (letter : ℕ) (rest : List (List ℕ)) →
    letter_at parts ≡ Some (letter, rest) → parts ≡ (letter ∷ []) ∷ rest
letter-back [] letter rest e = absurd (none-some (letter, rest) e)
letter-back ([] ∷ ps) letter rest e = absurd (none-some (letter, rest) e)
letter-back ((b ∷ []) ∷ ps) letter rest e = let same = some_pair_parts b letter ps rest e in ap
    (λ x. (x ∷ []) ∷ ps) same.0 ∙ ap (λ r. (letter ∷ []) ∷ r) same.1
letter-back ((b ∷ c ∷ cs) ∷ ps) letter rest e = absurd (none-some (letter, rest) e)

end_by-back : (letter : ℕ) (parts : List (List ℕ)) (step : CertStep) → end_by letter parts ≡ Some step →
    IsStep (codes "e" ∷ (letter ∷ []) ∷ []) parts step
unfolding end_by
end_by-back letter parts step e =
    choose (eqb letter 108) (located_at parts) _ step e
    (λ is read. at (eqb-true letter 108 is) (located-back parts step read))
    (λ not_l more. choose (eqb letter 110) (no_repair_at parts) _ step more
    (λ is read. at (eqb-true letter 110 is) (no_repair-back parts step read))
    (λ not_n others. choose (eqb letter 109) (alone EndTooMany parts) _ step others
    (λ is read. at (eqb-true letter 109 is) (too_many-back parts step read))
    (λ not_m last. choose (eqb letter 98) (alone EndSpent parts) None step last
    (λ is read. at (eqb-true letter 98 is) (spent-back parts step read))
    (λ not_b none. absurd (none-some step none)))))
  where
    at : {other : ℕ} → letter ≡ other → IsStep (codes "e" ∷ (other ∷ []) ∷ []) parts step →
        IsStep (codes "e" ∷ (letter ∷ []) ∷ []) parts step
    at same read = subst (λ x. IsStep (codes "e" ∷ (x ∷ []) ∷ []) parts step) (sym same) read

end-back : (parts : List (List ℕ)) (step : CertStep) → end_at parts ≡ Some step →
    IsStep (codes "e" ∷ []) parts step
unfolding end_at
end-back parts step e =
    let b = bound (letter_at parts) (λ (l : ℕ × List (List ℕ)). end_by l.0 l.1) step e in
    let is = letter-back parts b.value.0 b.value.1 b.first in
    let r = end_by-back b.value.0 b.value.1 step b.second in record {
      parts_are = ap (λ q. codes "e" ∷ q) is ∙ r.parts_are;
      formed = r.formed;
    }

step_by-back : (letter : ℕ) (parts : List (List ℕ)) (step : CertStep) → step_by letter parts ≡ Some step →
    IsStep ((letter ∷ []) ∷ []) parts step
unfolding step_by
step_by-back letter parts step e =
    choose (eqb letter 108) (learn_at parts) _ step e
    (λ is read. at (eqb-true letter 108 is) (learn-back parts step read))
    (λ not_l more. choose (eqb letter 99) (core_at parts) _ step more
    (λ is read. at (eqb-true letter 99 is) (core-back parts step read))
    (λ not_c others. choose (eqb letter 100) (delete_at parts) _ step others
    (λ is read. at (eqb-true letter 100 is) (delete-back parts step read))
    (λ not_d rest. choose (eqb letter 115) (block_at parts) _ step rest
    (λ is read. at (eqb-true letter 115 is) (block-back parts step read))
    (λ not_s last. choose (eqb letter 101) (end_at parts) None step last
    (λ is read. at (eqb-true letter 101 is) (end-back parts step read))
    (λ not_e none. absurd (none-some step none))))))
  where
    at : {other : ℕ} → letter ≡ other → IsStep ((other ∷ []) ∷ []) parts step →
        IsStep ((letter ∷ []) ∷ []) parts step
    at same read = subst (λ x. IsStep ((x ∷ []) ∷ []) parts step) (sym same) read

pub step-back : (parts : List (List ℕ)) (step : CertStep) → step_at parts ≡ Some step →
    (parts ≡ step_parts step) × HasLine step
unfolding step_at
step-back parts step e =
    let b = bound (letter_at parts) (λ (l : ℕ × List (List ℕ)). step_by l.0 l.1) step e in
    let is = letter-back parts b.value.0 b.value.1 b.first in
    let r = step_by-back b.value.0 b.value.1 step b.second in
    (is ∙ r.parts_are, r.formed)

-- READ AGAIN

at-learn : (parts : List (List ℕ)) → step_at (codes "l" ∷ parts) ≡ learn_at parts
unfolding step_at step_by
at-learn parts = refl

at-core : (parts : List (List ℕ)) → step_at (codes "c" ∷ parts) ≡ core_at parts
unfolding step_at step_by
at-core parts = refl

at-delete : (parts : List (List ℕ)) → step_at (codes "d" ∷ parts) ≡ delete_at parts
unfolding step_at step_by
at-delete parts = refl

at-block : (parts : List (List ℕ)) → step_at (codes "s" ∷ parts) ≡ block_at parts
unfolding step_at step_by
at-block parts = refl

at-located : (parts : List (List ℕ)) → step_at (codes "e" ∷ codes "l" ∷ parts) ≡ located_at parts
unfolding step_at step_by end_at end_by
at-located parts = refl

at-no_repair : (parts : List (List ℕ)) → step_at (codes "e" ∷ codes "n" ∷ parts) ≡ no_repair_at parts
unfolding step_at step_by end_at end_by
at-no_repair parts = refl

too_many-again : step_at (codes "e" ∷ codes "m" ∷ []) ≡ Some EndTooMany
unfolding step_at step_by end_at end_by alone
too_many-again = refl

spent-again : step_at (codes "e" ∷ codes "b" ∷ []) ≡ Some EndSpent
unfolding step_at step_by end_at end_by alone
spent-again = refl

pub step-again : (step : CertStep) → HasLine step → step_at (step_parts step) ≡ Some step
step-again (Learn lits hints) h = at-learn (clause_parts lits hints) ∙ learn-again lits hints h
step-again (Core lits hints) h = at-core (clause_parts lits hints) ∙ core-again lits hints h
step-again (Delete clauses) h = at-delete (ended (map decimal clauses)) ∙ delete-again clauses h
step-again (Block set run) h = at-block (ended (map decimal set) ++ flat_map choice_parts run)
    ∙ block-again set run h
step-again (EndLocated lits hints) h = at-located (clause_parts lits hints) ∙ located-again lits hints h
step-again (EndNoRepair hints) h = at-no_repair (ended (map decimal hints)) ∙ no_repair-again hints h
step-again EndTooMany h = too_many-again
step-again EndSpent h = spent-again
