use Rattle.std.proofs.Common.{◌≡◌, ◌<◌, ℕ, zero, suc, true, false, sym, ◌∙◌, ap, subst, List, [], ◌∷◌, ◌++◌, length, take, get_or, arith}
use Rattle.std.proofs.lemmas.List.{take_all, take_more}
use Rattle.std.proofs.lemmas.Result.{on_ok_weaker}
use Rattle.ba_code.specs.Facts.{Declared}
use Rattle.ba_code.specs.Meaning.{choice_where}
use Rattle.ba_code.specs.declared.nodes.Node.{Node}
use Rattle.ba_code_laws.proofs.Equations.{trace-Block, trace-If, trace-Pick}
use Rattle.ba_code_laws.specs.Tracing.{at_place, is_relaxed, trace_node, trace_nodes, traced_picked, untraced}
use Rattle.ba_guards.proofs.Choosing.{pick-arm}
use Rattle.ba_guards.proofs.Fitting.{body-fit, first-fit, keep-fit, rest-fit, sides-fit}
use Rattle.ba_guards.proofs.Going.{means-as, traced_of}
use Rattle.ba_guards.proofs.Scopes.{scoped}
use Rattle.ba_guards.proofs.Walks.{block-arm, fork_part, if-arm, never-means, nodes-more, nodes-none, one-arm, sides-arm}
use Rattle.ba_guards.specs.Making.{AreFit, AreSides, IsFit, Means}
use Rattle.ba_guards.specs.Parts.{declared}
use Rattle.ba_guards.specs.declared.builder.Sides.{Sides}
use Rattle.ba_tree.specs.Acts.{then_do}
use Rattle.ba_guards.proofs.walking.+walk.Goals as goal

-- the sides of a branch, and the body of a block

fit-nth : (d : Declared) (ns : List Node) (i : ℕ) (x : Node) → AreFit d ns → i < length ns →
    x ≡ get_or ns i x → IsFit d x
fit-nth d [] i x fit below is = absurd (omega (arith, below))
fit-nth d (n ∷ ns) zero x fit below is = subst (IsFit d) (sym is) (first-fit d n ns fit)
fit-nth d (n ∷ ns) (suc i) x fit below is = fit-nth d ns i x (rest-fit d n ns fit) (omega (arith, below)) is

pub guard_nodes-loop-node-init : goal.guard_nodes-loop-node-init
guard_nodes-loop-node-init t c = λ vars infos fits fit. nodes-none (declared vars c.args.arrays.now)
    c.args.b.now fits

pub guard_nodes-loop-node-preserved : goal.guard_nodes-loop-node-preserved
guard_nodes-loop-node-preserved t c = λ vars infos fits fit.
    let d = declared vars c.args.arrays.now in
    let i = c.loop-node.node-index in
    let ns = c.args.nodes.now in
    let n = c.node-item.result in
    let before = c.loop-node.invariant vars infos fits fit in
    let one = c.in_ok-guard_node.ensures vars infos before.fits (fit-nth d ns i n fit c.loop-node-test.true
    c.node-item.is) in
    subst (λ ns. Means d (λ f r. trace_nodes r d.arrays ns) c.args.b.now c.guard_node.new.b)
    (sym (take_more ns i n c.loop-node-test.true ∙ ap (λ y. take i ns ++ y ∷ []) (sym c.node-item.is)))
    (nodes-more d (take i ns) n c.args.b.now c.loop-node.b c.guard_node.new.b before one)

pub guard_nodes-returns : goal.guard_nodes-returns
guard_nodes-returns t c = λ vars infos fits fit.
    let d = declared vars c.args.arrays.now in
    subst (λ ns. Means d (λ f r. trace_nodes r d.arrays ns) c.args.b.now c.loop-node.b)
    (take_all c.loop-node.node-index c.args.nodes.now (omega arith)) (c.loop-node.invariant vars infos fits
    fit)

pub guard_node-returns-in_ok-guard_nodes-in-If-2 : goal.guard_node-returns-in_ok-guard_nodes-in-If-2
guard_node-returns-in_ok-guard_nodes-in-If-2 t c = on_ok_weaker c.join-in-If.result (λ made vars infos fits fit.
    let d = declared vars c.args.arrays.now in
    let n = c.args.node.now in
    let yes = c.in-If.yes.items in
    let no = c.in-If.no.items in
    let parts = sides-fit d n c.in-If.when c.in-If.yes c.in-If.no c.in-If.is fit in
    means-as d (λ f r. fork_part c.in-If.when (trace_nodes r d.arrays yes) (trace_nodes r d.arrays no)) (λ
    f r. trace_node r d.arrays n)
    c.args.b.now _
    (if-arm d c.args.b.now c.operand.new.self _ c.in_ok-which-in-If.which c.in-If.when (λ r. trace_nodes r
    d.arrays yes)
    (λ r. trace_nodes r d.arrays no) fits parts.0 c.in_ok-which-in-If.ensures.same
    c.in_ok-which-in-If.ensures.word
    (λ fits1 below. sides-arm d c.in_ok-which-in-If.which c.operand.new.self c.open-in-If.new.self
    c.guard_nodes-in-If.new.b c.switch-in-If.new.self
    c.guard_nodes-in-If-2.new.b _ (λ f r. trace_nodes r d.arrays yes) (λ f r. trace_nodes r d.arrays no)
    c.in_ok-fork-in-If.fork.value
    c.in_ok-sides-in-If.sides.value fits1 below c.in_ok-fork-in-If.ensures.fork c.in_ok-fork-in-If.ensures.opens
    (λ fits2. subst (λ ns. Means d (λ f r. trace_nodes r d.arrays ns) c.open-in-If.new.self
    c.guard_nodes-in-If.new.b) c.as_slice-in-If.ensures.value
    (c.in_ok-guard_nodes-in-If.ensures vars infos fits2 (subst (AreFit d) (sym
    c.as_slice-in-If.ensures.value) parts.1)))
    c.in_ok-sides-in-If.ensures.sides c.in_ok-sides-in-If.ensures.switches
    (λ fits4. subst (λ ns. Means d (λ f r. trace_nodes r d.arrays ns) c.switch-in-If.new.self
    c.guard_nodes-in-If-2.new.b)
    c.as_slice-in-If-2.ensures.value
    (c.in_ok-guard_nodes-in-If-2.ensures vars infos fits4 (subst (AreFit d) (sym
    c.as_slice-in-If-2.ensures.value) parts.2)))
    made))
    (λ f r cs. sym (trace-If r d.arrays n (traced_of f c.args.b.now cs) c.in-If.when c.in-If.yes c.in-If.no
    c.in-If.is))) c.join-in-If.ensures

pub guard_node-returns-in_ok-guard_nodes-in-Block : goal.guard_node-returns-in_ok-guard_nodes-in-Block
guard_node-returns-in_ok-guard_nodes-in-Block t c = on_ok_weaker c.end_block.result (λ made vars infos fits fit.
    let d = declared vars c.args.arrays.now in
    let n = c.args.node.now in
    let body = c.in-Block.body.items in
    means-as d (λ f r. scoped c.in-Block.label (trace_nodes r d.arrays body)) (λ f r. trace_node r d.arrays
    n) c.args.b.now _
    (block-arm d c.in-Block.label c.args.b.now c.begin_block.new.self c.guard_nodes-in-Block.new.b _ (λ f
    r. trace_nodes r d.arrays body) fits
    c.in_ok-begin_block-in-Block.ensures
    (λ fits1. subst (λ ns. Means d (λ f r. trace_nodes r d.arrays ns) c.begin_block.new.self
    c.guard_nodes-in-Block.new.b)
    c.as_slice-in-Block.ensures.value
    (c.in_ok-guard_nodes-in-Block.ensures vars infos fits1 (subst (AreFit d) (sym
    c.as_slice-in-Block.ensures.value)
    (body-fit d n c.in-Block.label c.in-Block.body c.in-Block.is fit))))
    made)
    (λ f r cs. sym (trace-Block r d.arrays n (traced_of f c.args.b.now cs) c.in-Block.label c.in-Block.body
    c.in-Block.is))) c.end_block.ensures

pub guard_node-returns-in_ok-take_values-in-Pick : goal.guard_node-returns-in_ok-take_values-in-Pick
guard_node-returns-in_ok-take_values-in-Pick t c = on_ok_weaker c.join.result (λ made vars infos fits fit.
    let d = declared vars c.args.arrays.now in
    let n = c.args.node.now in
    let b = c.args.b.now in
    let place = c.in-Pick.place in
    let take = c.in-Pick.take in
    let keep = c.in-Pick.keep.items in
    let parts = keep-fit d n place take c.in-Pick.keep c.in-Pick.is fit in
    let offer = c.in_ok-offer-in-Pick.offer in
    means-as d (λ f r s. then_do (untraced (choice_where (is_relaxed r place)) (at_place place s))
    (traced_picked d.arrays take (trace_nodes r d.arrays keep))) (λ f r. trace_node r d.arrays n) b _
    (pick-arm d b c.add_place.new.self c.open.new.self c.guard_nodes.new.b c.switch.new.self
    c.take_values.new.b _ place take
    c.offered.new.words offer.keep offer.values (λ r. trace_nodes r d.arrays keep)
    c.in_ok-fork-in-Pick.fork.value c.in_ok-sides-in-Pick.sides.value fits
    (c.in_ok-offer-in-Pick.ensures vars infos fits.words parts.0) c.in_ok-add_place-in-Pick.ensures
    c.in_ok-fork-in-Pick.ensures.fork c.in_ok-fork-in-Pick.ensures.opens
    (λ fits2. subst (λ ns. Means d (λ f r. trace_nodes r d.arrays ns) c.open.new.self c.guard_nodes.new.b)
    c.as_slice.ensures.value
    (c.in_ok-guard_nodes-in-Pick.ensures vars infos fits2 (subst (AreFit d) (sym
    c.as_slice.ensures.value) parts.1)))
    c.in_ok-sides-in-Pick.ensures.sides c.in_ok-sides-in-Pick.ensures.switches
    (λ fits4 sides second names right. c.in_ok-take_values-in-Pick.ensures vars infos fits4 parts.0
    (subst (AreSides c.switch.new.self.words) (sym c.deref.ensures) sides)
    (second ∙ sym (ap (λ (s : Sides). s.second) c.deref.ensures)) names right)
    made)
    (λ f r cs. sym (trace-Pick r d.arrays n (traced_of f b cs) place take c.in-Pick.keep c.in-Pick.is)))
    c.join.ensures

-- if the run never comes, and if a condition is a constant

pub guard_node-returns-then-is_zero : goal.guard_node-returns-then-is_zero
guard_node-returns-then-is_zero t c = λ vars infos fits fit.
    never-means (declared vars c.args.arrays.now) (λ f r. trace_node r c.args.arrays.now c.args.node.now)
    c.args.b.now fits
    (c.is_zero.ensures c.if-is_zero.true)

pub guard_node-returns-then-is_met : goal.guard_node-returns-then-is_met
guard_node-returns-then-is_met t c = on_ok_weaker c.guard_nodes-then-is_met.result (λ made vars infos fits fit.
    let d = declared vars c.args.arrays.now in
    let n = c.args.node.now in
    let yes = c.in-If.yes.items in
    let no = c.in-If.no.items in
    let parts = sides-fit d n c.in-If.when c.in-If.yes c.in-If.no c.in-If.is fit in
    means-as d (λ f r. fork_part c.in-If.when (trace_nodes r d.arrays yes) (trace_nodes r d.arrays no)) (λ
    f r. trace_node r d.arrays n)
    c.args.b.now _
    (one-arm d c.args.b.now c.operand.new.self _ c.in_ok-which-in-If.which true c.in-If.when (λ r.
    trace_nodes r d.arrays yes)
    (λ r. trace_nodes r d.arrays no) fits parts.0 c.in_ok-which-in-If.ensures.same
    c.in_ok-which-in-If.ensures.word
    (c.is_met.ensures c.if-is_met.true)
    (λ fits1. subst (λ ns. Means d (λ f r. trace_nodes r d.arrays ns) c.operand.new.self
    c.guard_nodes-then-is_met.new.b)
    c.as_slice-then-is_met.ensures.value
    (made vars infos fits1 (subst (AreFit d) (sym
    c.as_slice-then-is_met.ensures.value) parts.1))))
    (λ f r cs. sym (trace-If r d.arrays n (traced_of f c.args.b.now cs) c.in-If.when c.in-If.yes c.in-If.no
    c.in-If.is))) c.guard_nodes-then-is_met.ensures

pub guard_node-returns-then-is_zero-2 : goal.guard_node-returns-then-is_zero-2
guard_node-returns-then-is_zero-2 t c =
    on_ok_weaker c.guard_nodes-then-is_zero-2.result (λ made vars infos fits fit.
    let d = declared vars c.args.arrays.now in
    let n = c.args.node.now in
    let yes = c.in-If.yes.items in
    let no = c.in-If.no.items in
    let parts = sides-fit d n c.in-If.when c.in-If.yes c.in-If.no c.in-If.is fit in
    means-as d (λ f r. fork_part c.in-If.when (trace_nodes r d.arrays yes) (trace_nodes r d.arrays no)) (λ
    f r. trace_node r d.arrays n)
    c.args.b.now _
    (one-arm d c.args.b.now c.operand.new.self _ c.in_ok-which-in-If.which false c.in-If.when (λ r.
    trace_nodes r d.arrays yes)
    (λ r. trace_nodes r d.arrays no) fits parts.0 c.in_ok-which-in-If.ensures.same
    c.in_ok-which-in-If.ensures.word
    (c.is_zero-in-If.ensures c.if-is_zero-2.true)
    (λ fits1. subst (λ ns. Means d (λ f r. trace_nodes r d.arrays ns) c.operand.new.self
    c.guard_nodes-then-is_zero-2.new.b)
    c.as_slice-then-is_zero-2.ensures.value
    (made vars infos fits1 (subst (AreFit d) (sym
    c.as_slice-then-is_zero-2.ensures.value) parts.2))))
    (λ f r cs. sym (trace-If r d.arrays n (traced_of f c.args.b.now cs) c.in-If.when c.in-If.yes c.in-If.no
    c.in-If.is))) c.guard_nodes-then-is_zero-2.ensures
