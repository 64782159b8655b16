use Rattle.std.proofs.lemmas.Result.{on_ok_weaker}
use Rattle.std.proofs.Common.{◌∙◌}
use Rattle.ba_unroll.proofs.Leaves as leaves
use Rattle.ba_unroll.proofs.nodes.add_leaf.Goals as goal

pub returns-in-Set : goal.returns-in-Set
returns-in-Set c =
    on_ok_weaker c.add.result (λ put bound turns.
    leaves.adds-Set bound turns
    c.args.node.now c.args.out.now.items c.in-Set.to c.in-Set.from c.in-Set.is
    c.add.new.out.items put) c.add.ensures

pub returns-in-Unary : goal.returns-in-Unary
returns-in-Unary c =
    on_ok_weaker c.add-in-Unary.result (λ put bound turns.
    leaves.adds-Unary bound turns
    c.args.node.now c.args.out.now.items c.in-Unary.to c.in-Unary.op c.in-Unary.t c.in-Unary.a c.in-Unary.is
    c.add-in-Unary.new.out.items put) c.add-in-Unary.ensures

pub returns-in-Binary : goal.returns-in-Binary
returns-in-Binary c =
    on_ok_weaker c.add-in-Binary.result (λ put bound turns.
    leaves.adds-Binary bound turns
    c.args.node.now c.args.out.now.items c.in-Binary.to c.in-Binary.op c.in-Binary.t c.in-Binary.a
    c.in-Binary.b c.in-Binary.stmt c.in-Binary.is
    c.add-in-Binary.new.out.items put) c.add-in-Binary.ensures

pub returns-in-Convert : goal.returns-in-Convert
returns-in-Convert c =
    on_ok_weaker c.add-in-Convert.result (λ put bound turns.
    leaves.adds-Convert bound turns
    c.args.node.now c.args.out.now.items c.in-Convert.to c.in-Convert.t c.in-Convert.a c.in-Convert.is
    c.add-in-Convert.new.out.items put) c.add-in-Convert.ensures

pub returns-in-Load : goal.returns-in-Load
returns-in-Load c =
    on_ok_weaker c.add-in-Load.result (λ put bound turns.
    leaves.adds-Load bound turns
    c.args.node.now c.args.out.now.items c.in-Load.to c.in-Load.array c.in-Load.index c.in-Load.stmt
    c.in-Load.is
    c.add-in-Load.new.out.items put) c.add-in-Load.ensures

pub returns-in-Save : goal.returns-in-Save
returns-in-Save c =
    on_ok_weaker c.add-in-Save.result (λ put bound turns.
    leaves.adds-Save bound turns
    c.args.node.now c.args.out.now.items c.in-Save.array c.in-Save.index c.in-Save.value c.in-Save.stmt
    c.in-Save.is
    c.add-in-Save.new.out.items put) c.add-in-Save.ensures

pub returns-in_ok-values-in-Fill : goal.returns-in_ok-values-in-Fill
returns-in_ok-values-in-Fill c =
    on_ok_weaker c.add-in-Fill.result (λ put bound turns.
    leaves.adds-Fill bound turns
    c.args.node.now c.args.out.now.items c.in-Fill.array c.in-Fill.values c.in_ok-values-in-Fill.values
    c.in-Fill.is
    (c.in_ok-values-in-Fill.ensures.items ∙ c.as_slice.ensures.value)
    c.add-in-Fill.new.out.items put) c.add-in-Fill.ensures

pub returns-in-Leave : goal.returns-in-Leave
returns-in-Leave c =
    on_ok_weaker c.add-in-Leave.result (λ put bound turns.
    leaves.adds-Leave bound turns
    c.args.node.now c.args.out.now.items c.in-Leave.label c.in-Leave.is
    c.add-in-Leave.new.out.items put) c.add-in-Leave.ensures

pub returns-in-Assert : goal.returns-in-Assert
returns-in-Assert c =
    on_ok_weaker c.add-in-Assert.result (λ put bound turns.
    leaves.adds-Assert bound turns
    c.args.node.now c.args.out.now.items c.in-Assert.when c.in-Assert.stmt c.in-Assert.is
    c.add-in-Assert.new.out.items put) c.add-in-Assert.ensures

pub returns-in-Beyond : goal.returns-in-Beyond
returns-in-Beyond c =
    on_ok_weaker c.add-in-Beyond.result (λ put bound turns.
    leaves.adds-Beyond bound turns
    c.args.node.now c.args.out.now.items c.in-Beyond.stmt c.in-Beyond.is
    c.add-in-Beyond.new.out.items put) c.add-in-Beyond.ensures
