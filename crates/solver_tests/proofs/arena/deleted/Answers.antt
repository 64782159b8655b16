use Rattle.std.proofs.Common.{◌≡◌, ℕ, Option, None, Some, is_some, List, [], ◌∷◌, set, length, suc, zero, sym, ap, subst, ◌∙◌, ◌+◌, ◌≤◌, inr, ◌⊎◌, ⊎_elim, get_or-set_other, get_or-set_same}
use Rattle.std.proofs.lemmas.Bool.{cases_eq}
use Rattle.ba_arena.specs.Clauses.{Clauses, Stored, IsLive, IsOutside, AreReferences, clause_at, lits_of}
use Rattle.ba_arena.proofs.Planning.{live_within}
use Rattle.solver_tests.proofs.arena.deleted.Goals as goal

-- the reference of a deleted clause
gone : (old new : Clauses) (r : ℕ) → IsLive old r → IsOutside old r → new ≡ set old r None → IsOutside new r
gone old new r live out is q q_live = ⊎_elim
    (λ e. absurd (cc (sym (subst (λ k. IsLive new k) e q_live) ∙ ap is_some dead)))
    (λ ne.
    let same : clause_at new q ≡ clause_at old q = ap (λ (cs : Clauses). clause_at cs q) is
    ∙ get_or-set_other old r q None None ne in
    subst (λ (o : Option Stored). (r ≤ q) ⊎ (q + 4 + length (lits_of o) ≤ r)) (sym same)
    (out q (ap is_some (sym same) ∙ q_live)))
    (cases_eq q r)
  where
    dead : clause_at new r ≡ None
    dead = ap (λ (cs : Clauses). clause_at cs r) is ∙ get_or-set_same old r None None (live_within old r live)

only : (cs : Clauses) (r : ℕ) → IsOutside cs r → AreReferences cs (Some r ∷ [])
only cs r out zero k is = inr (subst (λ n. IsOutside cs n) (some is) out)
  where
    some : ◌≡◌ {A = Option ℕ} (Some r) (Some k) → r ≡ k
    some e = cc e
only cs r out (suc n) k is = absurd (cc is)

pub compact-requires-clause-kept : goal.compact-requires-clause-kept
compact-requires-clause-kept g c =
    subst (λ (xs : List (Option ℕ)). AreReferences c.mark_dead.new.self xs) (sym c.as_mut_slice.ensures.value)
    (only c.mark_dead.new.self _ (gone _ c.mark_dead.new.self _ c.added-clause.ensures
    (c.keep_apart.ensures _ c.added-clause.ensures)
    c.mark_dead.ensures))
