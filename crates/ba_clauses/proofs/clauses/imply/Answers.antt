use Rattle.std.proofs.lemmas.Result.{on_ok_weaker}
use Rattle.ba_clauses.proofs.Adding.{gate_xor, gate_mux, gate_majority}
use Rattle.ba_clauses.proofs.clauses.imply.Goals as goal

pub returns-in_ok-add-in-Xor : goal.returns-in_ok-add-in-Xor
returns-in_ok-add-in-Xor c =
    on_ok_weaker c.add-in-Xor-2.result
    (gate_xor c.args.variables.now c.args.formula.now c.add-in-Xor.new.formula c.add-in-Xor-2.new.formula
    c.args.head.now c.args.gate.now c.in-Xor.a c.in-Xor.b c.not.result c.not-in-Xor.result c.in-Xor.is
    c.not.ensures.bit c.not-in-Xor.ensures.bit c.in_ok-add-in-Xor.ensures)
    c.add-in-Xor-2.ensures

pub returns-in_ok-add-in-Mux : goal.returns-in_ok-add-in-Mux
returns-in_ok-add-in-Mux c =
    on_ok_weaker c.add-in-Mux-2.result
    (gate_mux c.args.variables.now c.args.formula.now c.add-in-Mux.new.formula c.add-in-Mux-2.new.formula
    c.args.head.now c.args.gate.now c.in-Mux.which c.in-Mux.yes c.in-Mux.no c.not-in-Mux.result c.in-Mux.is
    c.not-in-Mux.ensures.bit c.in_ok-add-in-Mux.ensures)
    c.add-in-Mux-2.ensures

pub returns-in_ok-add-in-Majority-2 : goal.returns-in_ok-add-in-Majority-2
returns-in_ok-add-in-Majority-2 c =
    on_ok_weaker c.add-in-Majority-3.result
    (gate_majority c.args.variables.now c.args.formula.now c.add-in-Majority.new.formula
    c.add-in-Majority-2.new.formula
    c.args.head.now c.args.gate.now c.add-in-Majority-3.new.formula c.in-Majority.a c.in-Majority.b
    c.in-Majority.c c.in-Majority.is c.in_ok-add-in-Majority.ensures c.in_ok-add-in-Majority-2.ensures)
    c.add-in-Majority-3.ensures
