use Rattle.std.proofs.Common.{◌∙◌, ap, map}
use Rattle.ba_nodes.specs.declared.Node.TheVariants.{Free, And, Xor, Mux, Majority}
use Rattle.ba_nodes.specs.Gates.{opposite}
use Rattle.ba_clauses.proofs.Taking.{found_at, free_operand, xor_operands, mux_operands, majority_operands, and_is, and_not_is, xor_is, mux_is, majority_is, leaves_are_operands, leaves_are_opposites, bits_of_and, single_operand}
use Rattle.ba_clauses.proofs.gates.gate_of.Goals as goal

pub conjuncts_of-requires-clause-first : goal.conjuncts_of-requires-clause-first
conjuncts_of-requires-clause-first c =
    (bits_of_and c.args.nodes.now c.args.bit c.in-And.a c.in-And.b c.requires.graph.ordered c.requires.node
    c.requires.among
    (found_at c.args.nodes.now c.args.bit (Free 0) (And c.in-And.a c.in-And.b) c.requires.node
    c.requires.among c.in-And.is)).0

pub conjuncts_of-requires-clause-second : goal.conjuncts_of-requires-clause-second
conjuncts_of-requires-clause-second c =
    (bits_of_and c.args.nodes.now c.args.bit c.in-And.a c.in-And.b c.requires.graph.ordered c.requires.node
    c.requires.among
    (found_at c.args.nodes.now c.args.bit (Free 0) (And c.in-And.a c.in-And.b) c.requires.node
    c.requires.among c.in-And.is)).1

pub returns-in_ok-single-in-Free-clause-operands : goal.returns-in_ok-single-in-Free-clause-operands
returns-in_ok-single-in-Free-clause-operands c =
    single_operand c.args.nodes.now c.args.uses.now c.args.bit c.in_ok-single-in-Free.field-0.items
    c.in_ok-single-in-Free.ensures
    (free_operand c.args.nodes.now c.args.uses.now c.args.bit c.in-Free.field-0 c.requires.graph.ordered
    c.requires.node c.requires.among
    (found_at c.args.nodes.now c.args.bit (Free 0) (Free c.in-Free.field-0) c.requires.node
    c.requires.among c.in-Free.is) c.requires.side)

pub returns-in_ok-opposites-in-And-clause-value : goal.returns-in_ok-opposites-in-And-clause-value
returns-in_ok-opposites-in-And-clause-value c free =
    and_not_is free c.args.nodes.now c.args.bit c.in-And.a c.in-And.b
    c.in_ok-conjuncts-in-And.conjuncts.items c.in_ok-opposites-in-And.field-0.items
    c.requires.graph.ordered c.requires.node (found_at c.args.nodes.now c.args.bit (Free 0) (And c.in-And.a
    c.in-And.b) c.requires.node c.requires.among c.in-And.is) c.if-negated.true
    (c.in_ok-conjuncts-in-And.ensures.value free) (c.in_ok-opposites-in-And.ensures ∙ ap (map opposite)
    c.as_slice.ensures.value)

pub returns-in_ok-opposites-in-And-clause-operands : goal.returns-in_ok-opposites-in-And-clause-operands
returns-in_ok-opposites-in-And-clause-operands c =
    leaves_are_opposites c.args.nodes.now c.args.uses.now c.args.bit c.in-And.a c.in-And.b
    c.in_ok-conjuncts-in-And.conjuncts.items c.in_ok-opposites-in-And.field-0.items
    c.requires.graph (found_at c.args.nodes.now c.args.bit (Free 0) (And c.in-And.a c.in-And.b)
    c.requires.node c.requires.among c.in-And.is) c.requires.side c.if-negated.true
    c.in_ok-conjuncts-in-And.ensures.leaves (c.in_ok-opposites-in-And.ensures ∙ ap (map opposite)
    c.as_slice.ensures.value)

pub returns-else-negated-clause-value : goal.returns-else-negated-clause-value
returns-else-negated-clause-value c free =
    and_is free c.args.nodes.now c.args.bit c.in-And.a c.in-And.b c.in_ok-conjuncts-in-And.conjuncts.items
    c.requires.graph.ordered c.requires.node
    (found_at c.args.nodes.now c.args.bit (Free 0) (And c.in-And.a c.in-And.b) c.requires.node
    c.requires.among c.in-And.is) c.if-negated.false (c.in_ok-conjuncts-in-And.ensures.value free)

pub returns-else-negated-clause-operands : goal.returns-else-negated-clause-operands
returns-else-negated-clause-operands c =
    leaves_are_operands c.args.nodes.now c.args.uses.now c.args.bit c.in-And.a c.in-And.b
    c.in_ok-conjuncts-in-And.conjuncts.items c.requires.graph
    (found_at c.args.nodes.now c.args.bit (Free 0) (And c.in-And.a c.in-And.b) c.requires.node
    c.requires.among c.in-And.is) c.requires.side c.if-negated.false
    c.in_ok-conjuncts-in-And.ensures.leaves

pub returns-in-Xor-clause-value : goal.returns-in-Xor-clause-value
returns-in-Xor-clause-value c free =
    xor_is free c.args.nodes.now c.args.bit c.in-Xor.a c.in-Xor.b c.negated_if.result
    c.requires.graph.ordered c.requires.node
    (found_at c.args.nodes.now c.args.bit (Free 0) (Xor c.in-Xor.a c.in-Xor.b) c.requires.node
    c.requires.among c.in-Xor.is) c.negated_if.ensures

pub returns-in-Xor-clause-operands : goal.returns-in-Xor-clause-operands
returns-in-Xor-clause-operands c =
    xor_operands c.args.nodes.now c.args.uses.now c.args.bit c.in-Xor.a c.in-Xor.b c.requires.graph
    (found_at c.args.nodes.now c.args.bit (Free 0) (Xor c.in-Xor.a c.in-Xor.b) c.requires.node
    c.requires.among c.in-Xor.is) c.requires.side c.negated_if.result c.negated_if.ensures

pub returns-in-Mux-clause-value : goal.returns-in-Mux-clause-value
returns-in-Mux-clause-value c free =
    mux_is free c.args.nodes.now c.args.bit c.in-Mux.which c.in-Mux.yes c.in-Mux.no
    c.negated_if-in-Mux.result c.negated_if-in-Mux-2.result c.requires.graph.ordered
    c.requires.node (found_at c.args.nodes.now c.args.bit (Free 0) (Mux c.in-Mux.which c.in-Mux.yes
    c.in-Mux.no) c.requires.node c.requires.among c.in-Mux.is) c.negated_if-in-Mux.ensures
    c.negated_if-in-Mux-2.ensures

pub returns-in-Mux-clause-operands : goal.returns-in-Mux-clause-operands
returns-in-Mux-clause-operands c =
    mux_operands c.args.nodes.now c.args.uses.now c.args.bit c.in-Mux.which c.in-Mux.yes c.in-Mux.no
    c.requires.graph
    (found_at c.args.nodes.now c.args.bit (Free 0) (Mux c.in-Mux.which c.in-Mux.yes c.in-Mux.no)
    c.requires.node c.requires.among c.in-Mux.is) c.requires.side
    c.negated_if-in-Mux.result c.negated_if-in-Mux-2.result c.negated_if-in-Mux.ensures
    c.negated_if-in-Mux-2.ensures

pub returns-in-Majority-clause-value : goal.returns-in-Majority-clause-value
returns-in-Majority-clause-value c free =
    majority_is free c.args.nodes.now c.args.bit c.in-Majority.a c.in-Majority.b c.in-Majority.c
    c.negated_if-in-Majority.result c.negated_if-in-Majority-2.result
    c.negated_if-in-Majority-3.result c.requires.graph.ordered c.requires.node
    (found_at c.args.nodes.now c.args.bit (Free 0) (Majority c.in-Majority.a c.in-Majority.b
    c.in-Majority.c) c.requires.node c.requires.among c.in-Majority.is)
    c.negated_if-in-Majority.ensures c.negated_if-in-Majority-2.ensures
    c.negated_if-in-Majority-3.ensures

pub returns-in-Majority-clause-operands : goal.returns-in-Majority-clause-operands
returns-in-Majority-clause-operands c =
    majority_operands c.args.nodes.now c.args.uses.now c.args.bit c.in-Majority.a c.in-Majority.b
    c.in-Majority.c c.requires.graph
    (found_at c.args.nodes.now c.args.bit (Free 0) (Majority c.in-Majority.a c.in-Majority.b
    c.in-Majority.c) c.requires.node c.requires.among c.in-Majority.is) c.requires.side
    c.negated_if-in-Majority.result c.negated_if-in-Majority-2.result c.negated_if-in-Majority-3.result
    c.negated_if-in-Majority.ensures
    c.negated_if-in-Majority-2.ensures c.negated_if-in-Majority-3.ensures
