-- The next model.

use Rattle.std.proofs.Common.{◌≡◌, ℕ, ◌+◌, Bool, true, List, [], length, get_or, ap, ◌∙◌, arith}
use Rattle.ba_lits.specs.Literals.{Literal}
use Rattle.ba_lits.specs.Satisfaction.{Assignment, all_true, assignment_of, Soft, cost}
use Rattle.ba_lits.specs.Formulas.{Cnf}
use Rattle.ba_lits.proofs.Satisfied.{cost-agree}
use Rattle.ba_checker.specs.States.{State, present, first_state}
use Rattle.ba_choices.specs.Judges.{Judge}
use Rattle.ba_checker.specs.Facts.{Holds, splits_of}
use Rattle.ba_checker.specs.Blocks.{block_clauses}
use Rattle.ba_checker.proofs.FactLaws.{among-below}
use Rattle.ba_search.specs.Answers.{IsModel}
use Rattle.ba_cores.specs.Rounds.{literals_of}
use Rattle.ba_cores.specs.Findings.{IsLeast}
use Rattle.ba_cores.proofs.LeastLaws.{all_of_each, all_of_live, cost_of_true}
use Rattle.ba_derivations.specs.declared.verdict.FoundSet.{FoundSet}
use Rattle.ba_enum.specs.Leading.{IsReached, IsNext}
use Rattle.ba_enum.proofs.LeadLaws.{reached_facts}

-- from the facts: a model of all live clauses and present soft literals costs the bound
next_of_facts : (good : Judge) (formula : Cnf) (softs : List Soft) (splits : List (List Literal)) (s : State)
    (values : List Bool) →
    Holds good formula softs splits s → IsModel s (literals_of s.softs) values → IsNext formula softs s values
next_of_facts good formula softs splits s values h m = record {
  all = m.all;
  satisfies = given;
  unblocked = unblocked;
  costs = costs;
}
  where
    v : Assignment
    v = assignment_of values

    given : all_true v formula.clauses ≡ true
    given = all_of_each v formula.clauses (λ k lt. m.clauses (k + 1) (get_or formula.clauses k [])
        (h.given_live k lt))

    unblocked : all_true v (block_clauses softs s.sets) ≡ true
    unblocked = all_of_live v s.clauses m.clauses (block_clauses softs s.sets) h.sets_live

    splits_true : all_true v splits ≡ true
    splits_true = all_of_live v s.clauses m.clauses splits h.splits_live

    costs : cost v (present softs) ≡ s.bound
    costs =
        let (z, same, split, lives, is) = h.extends v given unblocked in
        let agree : cost v s.softs ≡ cost z s.softs =
        cost-agree (s.variables + 1) v z s.softs (h.alone v z same splits_true split)
        (among-below s.variables s.softs h.among) in
        let none : cost v s.softs ≡ 0 = cost_of_true v s.softs m.assumed in
        omega (arith, is, agree, none)

pub next_of_model : (good : Judge) (formula : Cnf) (softs : List Soft) (s : State) (found : List FoundSet)
    (values : List Bool) →
    IsReached good formula softs s found → IsModel s (literals_of s.softs) values →
    IsNext formula softs s values
next_of_model good formula softs s found values r m =
    next_of_facts good formula softs (splits_of (first_state formula softs r.conflicts r.most_sets) r.steps)
    s values
    (reached_facts good formula softs s found r) m

-- the first one
pub next_of_least : (formula : Cnf) (softs : List Soft) (s : State) (weight : ℕ) (values : List Bool) →
    weight ≡ s.bound → length values ≡ s.variables → IsLeast formula softs weight values → s.sets ≡ [] →
    IsNext formula softs s values
next_of_least formula softs s weight values is all least none = record {
  all = all;
  satisfies = least.satisfies;
  unblocked = ap (λ sets. all_true (assignment_of values) (block_clauses softs sets)) none;
  costs = least.costs ∙ is;
}
