use Rattle.std.proofs.lemmas.Result.{on_ok_weaker}
use Rattle.std.proofs.Common.{refl}
use Rattle.ba_clauses.proofs.Adding.{Adds-none, clause_says}
use Rattle.ba_clauses.proofs.Ordered.{opposites_hold, clause_of}
use Rattle.ba_clauses.proofs.clauses.add_clause.Goals as goal

pub returns-then-has_opposites : goal.returns-then-has_opposites
returns-then-has_opposites c =
    Adds-none _ _
    (opposites_hold c.distinct-codes.result.items c.as_slice.result.now c.args.codes.items
    c.as_slice.ensures.value
    c.distinct-codes.ensures.same (c.if-has_opposites.ensures.found refl))

pub literals_at-requires-clause-codes : goal.literals_at-requires-clause-codes
literals_at-requires-clause-codes c =
    rw (c.as_slice-2.ensures.value, c.variables.ensures.variables) (c.distinct-codes.ensures.within
    c.args.formula.now.variables c.requires)

pub push-requires : goal.push-requires
push-requires c =
    clause_of c.args.formula.now.variables c.distinct-codes.result.items c.as_slice.result.now
    c.as_slice-2.result.now
    c.in_ok-lits.lits.items c.as_slice-3.result.now c.as_slice.ensures.value c.as_slice-2.ensures.value
    c.in_ok-lits.ensures
    c.as_slice-3.ensures.value c.distinct-codes.ensures.rising (c.distinct-codes.ensures.within
    c.args.formula.now.variables c.requires)
    (c.if-has_opposites.ensures.none refl)

pub returns : goal.returns
returns c =
    on_ok_weaker c.push.result
    (clause_says c.args.formula.now c.push.new.self c.distinct-codes.result.items c.as_slice-2.result.now
    c.args.codes.items
    c.in_ok-lits.lits.items c.as_slice-3.result.now c.as_slice-2.ensures.value c.in_ok-lits.ensures
    c.as_slice-3.ensures.value
    c.distinct-codes.ensures.same)
    c.push.ensures.ok
