use Rattle.std.proofs.Common.{rules, ℕ, ◌+◌, ◌-◌, ◌<◌, List, [], ◌∷◌, ◌++◌, length, refl, sym, ◌∙◌, ap, subst, append-nil}
use Rattle.std.proofs.lemmas.Result.{on_ok_weaker}
use Rattle.ba_code.specs.declared.nodes.Node.{Node}
use Rattle.ba_tree.proofs.Falling.{item-below}
use Rattle.ba_unroll.proofs.Branches as branches
use Rattle.ba_unroll.proofs.Heights.{height, heights}
use Rattle.ba_unroll.proofs.Rounds as rounds
use Rattle.ba_unroll.proofs.Rows.{nodes-len, row-in, row-more, row-none, row-of}
use Rattle.ba_unroll.proofs.nodes.+unroll.Goals as goal
use Rattle.ba_unroll.specs.Unrolling.{Acts, Adds, beyond_act, loop_inside, turn_of_head, turns_act}

-- A NODE

pub add_node-returns-in_ok-add_nodes-in-Pick : goal.add_node-returns-in_ok-add_nodes-in-Pick
add_node-returns-in_ok-add_nodes-in-Pick t c =
    let old = c.args.out.now.items in
    let row = row-of c.args.bound c.args.turns.now c.as_slice.result.now c.in-Pick.keep.items old
    c.add_nodes.new.out.items c.as_slice.ensures.value c.in_ok-add_nodes-in-Pick.ensures in
    on_ok_weaker c.wrap_pick.result (λ put.
    branches.pick-made c.args.bound c.args.turns.now c.args.node.now old c.wrap_pick.new.out.items
    c.in-Pick.place c.in-Pick.take c.in-Pick.keep c.add_nodes.new.out.items c.in-Pick.is row
    (put old row.made (c.len-start.ensures ∙ nodes-len c.args.out.now) row.is)) c.wrap_pick.ensures

pub add_node-returns-in_ok-add_nodes-in-If-2 : goal.add_node-returns-in_ok-add_nodes-in-If-2
add_node-returns-in_ok-add_nodes-in-If-2 t c =
    let old = c.args.out.now.items in
    let mid = c.add_nodes-in-If.new.out.items in
    let first = row-of c.args.bound c.args.turns.now c.as_slice-in-If.result.now c.in-If.yes.items old mid
    c.as_slice-in-If.ensures.value c.in_ok-add_nodes-in-If.ensures in
    let second = row-of c.args.bound c.args.turns.now c.as_slice-in-If-2.result.now c.in-If.no.items mid
    c.add_nodes-in-If-2.new.out.items c.as_slice-in-If-2.ensures.value c.in_ok-add_nodes-in-If-2.ensures in
    on_ok_weaker c.wrap_if.result (λ put.
    branches.if-made c.args.bound c.args.turns.now c.args.node.now old c.wrap_if.new.out.items c.in-If.when
    c.in-If.yes c.in-If.no mid c.add_nodes-in-If-2.new.out.items c.in-If.is first second
    (put old first.made second.made (c.len-start.ensures ∙ nodes-len c.args.out.now)
    (c.len-middle.ensures ∙ nodes-len c.add_nodes-in-If.new.out ∙ ap length first.is)
    (second.is ∙ ap (λ (ns : List Node). ns ++ second.made) first.is))) c.wrap_if.ensures

pub add_node-returns-in_ok-add_nodes-in-Block : goal.add_node-returns-in_ok-add_nodes-in-Block
add_node-returns-in_ok-add_nodes-in-Block t c =
    let old = c.args.out.now.items in
    let row = row-of c.args.bound c.args.turns.now c.as_slice-in-Block.result.now c.in-Block.body.items old
    c.add_nodes-in-Block.new.out.items c.as_slice-in-Block.ensures.value c.in_ok-add_nodes-in-Block.ensures in
    on_ok_weaker c.wrap_block.result (λ put.
    branches.block-made c.args.bound c.args.turns.now c.args.node.now old c.wrap_block.new.out.items
    c.in-Block.label c.in-Block.body c.add_nodes-in-Block.new.out.items c.in-Block.is row
    (put old row.made (c.len-start.ensures ∙ nodes-len c.args.out.now) row.is)) c.wrap_block.ensures

pub add_node-returns-in-Loop : goal.add_node-returns-in-Loop
add_node-returns-in-Loop t c =
    on_ok_weaker c.add_loop.result (λ put.
    rounds.adds-Loop c.args.bound c.args.turns.now c.args.node.now
    c.in-Loop.head c.in-Loop.when c.in-Loop.body c.in-Loop.step c.in-Loop.stmt
    (record {
      after = c.in-Loop.after;
      head = c.as_slice-in-Loop.result;
      when = c.in-Loop.when;
      body = c.as_slice-in-Loop-2.result;
      step = c.as_slice-in-Loop-3.result;
      stmt = c.in-Loop.stmt;
    })
    c.in-Loop.after c.args.out.now.items c.add_loop.new.out.items c.in-Loop.is refl
    c.as_slice-in-Loop.ensures.value refl
    c.as_slice-in-Loop-2.ensures.value c.as_slice-in-Loop-3.ensures.value refl
    put) c.add_loop.ensures

pub add_nodes-loop-node-init : goal.add_nodes-loop-node-init
add_nodes-loop-node-init t c = row-none c.args.bound c.args.turns.now c.args.nodes.now c.args.out.now.items

pub add_nodes-add_node-requires : goal.add_nodes-add_node-requires
add_nodes-add_node-requires t c =
    let h : height c.node-item.result < heights c.args.nodes.now =
    item-below height c.args.nodes.now c.loop-node.node-index c.node-item.result (search rules)
    (search rules) in
    search (rules, h)

pub add_nodes-loop-node-preserved : goal.add_nodes-loop-node-preserved
add_nodes-loop-node-preserved t c = row-more c.args.bound c.args.turns.now c.args.nodes.now
    c.loop-node.node-index
    c.node-item.result c.args.out.now.items c.loop-node.out.items c.add_node.new.out.items
    c.loop-node-test.true
    c.node-item.is c.loop-node.invariant c.in_ok-add_node.ensures

-- LOOPS

pub add_turn-returns : goal.add_turn-returns
add_turn-returns t c =
    let bound = c.args.bound in
    let turns = c.args.turns.now in
    let parts = c.args.parts.now in
    let turn = c.args.turn in
    let rest = c.args.out.now.items in
    let row = rounds.turn-row bound turns parts turn rest c.add_nodes.new.out.items
    c.add_nodes-2.new.out.items c.add_nodes-3.new.out.items
    (row-in bound c.as_slice.result.now (turn ∷ turns) parts.body.now rest c.add_nodes.new.out.items
    (c.as_slice.ensures.value ∙ c.in_ok-inner.ensures) c.in_ok-add_nodes.ensures)
    (row-in bound c.as_slice-2.result.now (turn ∷ turns) parts.step.now
    c.add_nodes.new.out.items c.add_nodes-2.new.out.items (c.as_slice-2.ensures.value ∙ c.in_ok-inner.ensures)
    c.in_ok-add_nodes-2.ensures)
    (row-in bound c.as_slice-3.result.now (turn_of_head parts.after turn ∷ turns) parts.head.now
    c.add_nodes-2.new.out.items c.add_nodes-3.new.out.items
    (c.as_slice-3.ensures.value ∙ c.in_ok-behind.ensures ∙ ap (λ (k : ℕ). k ∷ turns) c.in_ok-turn_behind.ensures)
    c.in_ok-add_nodes-3.ensures) in
    on_ok_weaker c.wrap_rest.result (λ put left old start made.
    rounds.turn-made bound turns parts turn left old rest c.add_nodes-3.new.out.items
    c.wrap_rest.new.out.items made row
    (put old made.made row.made start (c.len-middle.ensures ∙ nodes-len c.args.out.now ∙ ap length made.is)
    (row.is ∙ ap (λ (ns : List Node). ns ++ row.made) made.is))) c.wrap_rest.ensures

pub add_turns-loop-left-init : goal.add_turns-loop-left-init
add_turns-loop-left-init t c =
    subst (λ (new : List Node). Adds (beyond_act c.args.parts.now.stmt) (loop_inside c.args.parts.now)
    c.args.out.now.items new) (sym c.in_ok-add_beyond.ensures)
    (branches.adds-beyond c.args.parts.now.stmt (loop_inside c.args.parts.now) c.args.out.now.items)

pub add_turns-loop-left-preserved : goal.add_turns-loop-left-preserved
add_turns-loop-left-preserved t c =
    subst (λ (act : Acts). Adds act (loop_inside c.args.parts.now) c.args.out.now.items
    c.add_turn.new.out.items)
    (rounds.more-turns c.args.bound c.args.turns.now c.args.parts.now c.loop-left.left c.args.bound
    c.loop-left-test.true)
    (c.in_ok-add_turn.ensures (turns_act c.args.bound c.args.turns.now c.args.parts.now c.loop-left.left
    (c.args.bound - c.loop-left.left + 1)) c.args.out.now.items
    (c.len-start.ensures ∙ nodes-len c.args.out.now) c.loop-left.invariant)

pub add_loop-returns-then-parts : goal.add_loop-returns-then-parts
add_loop-returns-then-parts t c = on_ok_weaker c.add_turns.result (λ made.
    rounds.adds-tail-loop c.args.bound c.args.turns.now c.args.parts.now
    c.args.out.now.items c.add_turns.new.out.items c.if-parts.true made) c.add_turns.ensures

pub add_loop-returns : goal.add_loop-returns
add_loop-returns t c =
    let mid = c.add_nodes.new.out.items in
    let rest = c.in_ok-add_turns.ensures in
    on_ok_weaker c.wrap_if.result (λ put.
    rounds.adds-head-loop c.args.bound c.args.turns.now c.args.parts.now
    c.args.out.now.items mid c.add_turns-2.new.out.items c.wrap_if.new.out.items c.if-parts.false
    (row-in c.args.bound c.as_slice.result.now (1 ∷ c.args.turns.now) c.args.parts.now.head.now
    c.args.out.now.items mid (c.as_slice.ensures.value ∙ c.in_ok-first.ensures)
    c.in_ok-add_nodes.ensures)
    rest
    (put mid rest.made [] (c.len-start.ensures ∙ nodes-len c.add_nodes.new.out)
    (c.len-end.ensures ∙ nodes-len c.add_turns-2.new.out ∙ ap length rest.is)
    (rest.is ∙ sym (append-nil (mid ++ rest.made))))) c.wrap_if.ensures
