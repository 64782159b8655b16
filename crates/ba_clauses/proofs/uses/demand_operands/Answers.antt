use Rattle.std.proofs.Common.{subst, arith}
use Rattle.ba_nodes.specs.Gates.{MayStandAt}
use Rattle.ba_clauses.proofs.Needs.{two_more, three_more}
use Rattle.ba_clauses.proofs.uses.demand_operands.Goals as goal

pub returns-in-And-clause-more : goal.returns-in-And-clause-more
returns-in-And-clause-more c =
    let may = subst (MayStandAt c.args.number) c.in-And.is c.requires.stands in
    two_more c.args.number c.in-And.a.index c.in-And.b.index _ _ _ (omega (arith, may)) may.2
    c.demand.ensures.more c.demand-in-And.ensures.more

pub returns-in-Xor-clause-more : goal.returns-in-Xor-clause-more
returns-in-Xor-clause-more c =
    let may = subst (MayStandAt c.args.number) c.in-Xor.is c.requires.stands in
    two_more c.args.number c.in-Xor.a.index c.in-Xor.b.index _ _ _ (omega (arith, may)) may.2
    c.demand-in-Xor.ensures.more c.demand-in-Xor-2.ensures.more

pub returns-in-Mux-clause-more : goal.returns-in-Mux-clause-more
returns-in-Mux-clause-more c =
    let may = subst (MayStandAt c.args.number) c.in-Mux.is c.requires.stands in
    three_more c.args.number c.in-Mux.which.index c.in-Mux.yes.index c.in-Mux.no.index _ _ _ _ may.first.1
    may.second.1 may.third.1
    c.demand-in-Mux.ensures.more c.demand-in-Mux-2.ensures.more c.demand-in-Mux-3.ensures.more

pub returns-in-Majority-clause-more : goal.returns-in-Majority-clause-more
returns-in-Majority-clause-more c =
    let may = subst (MayStandAt c.args.number) c.in-Majority.is c.requires.stands in
    three_more c.args.number c.in-Majority.a.index c.in-Majority.b.index c.in-Majority.c.index _ _ _ _
    (omega (arith, may)) (omega (arith, may)) may.3
    c.demand-in-Majority.ensures.more c.demand-in-Majority-2.ensures.more c.demand-in-Majority-3.ensures.more
