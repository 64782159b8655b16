use Rattle.std.proofs.Common.{◌≡◌, true, false, sym, ◌∙◌, ap, subst, ◌==◌, ◌&&◌, length}
use Rattle.std.proofs.lemmas.Result.{on_ok_weaker}
use Rattle.std.specs.List.{list_all}
use Rattle.ba_code.specs.Facts.{is_array, is_operand}
use Rattle.ba_code.specs.Meaning.{info_at}
use Rattle.ba_code_laws.proofs.Equations.{trace-Assert, trace-Beyond, trace-Binary, trace-Convert, trace-Leave, trace-Fill, trace-Load, trace-Save, trace-Set, trace-Unary}
use Rattle.ba_code_laws.specs.Tracing.{trace_node}
use Rattle.ba_guards.proofs.Fitting.{fit-Assert, fit-Binary, fit-Convert, fit-Fill, fit-Load, fit-Save, fit-Set, fit-Unary, unrolled-Loop}
use Rattle.ba_guards.proofs.Going.{means-as, traced_of}
use Rattle.ba_guards.proofs.Scopes.{leave-means}
use Rattle.ba_guards.specs.Making.{Means}
use Rattle.ba_guards.specs.Parts.{assert_part, beyond_part, binary_part, convert_part, declared, fill_part, leave_part, load_part, save_part, set_part, unary_part}
use Rattle.ba_guards.proofs.walking.guard_leaf.Goals as goal

pub returns-in-Set : goal.returns-in-Set
returns-in-Set c = on_ok_weaker c.set.result (λ made vars infos fits fit.
    let d = declared vars c.args.arrays.now in
    let n = c.args.node.now in
    let h = sym (fit-Set d n fit.labels c.in-Set.to c.in-Set.from c.in-Set.is) ∙ fit.fit in
    means-as d (λ f r. set_part c.in-Set.to c.in-Set.from) (λ f r. trace_node r d.arrays n) c.args.b.now _
    (made d fits h)
    (λ f r cs. sym (trace-Set r d.arrays n (traced_of f c.args.b.now cs) c.in-Set.to c.in-Set.from
    c.in-Set.is))) c.set.ensures

pub returns-in-Unary : goal.returns-in-Unary
returns-in-Unary c = on_ok_weaker c.unary.result (λ made vars infos fits fit.
    let d = declared vars c.args.arrays.now in
    let n = c.args.node.now in
    let h = sym (fit-Unary d n fit.labels c.in-Unary.to c.in-Unary.op c.in-Unary.t c.in-Unary.a
    c.in-Unary.is) ∙ fit.fit in
    means-as d (λ f r. unary_part c.in-Unary.to c.in-Unary.op c.in-Unary.t c.in-Unary.a) (λ f r. trace_node
    r d.arrays n) c.args.b.now _
    (made d fits h)
    (λ f r cs. sym (trace-Unary r d.arrays n (traced_of f c.args.b.now cs) c.in-Unary.to c.in-Unary.op
    c.in-Unary.t c.in-Unary.a c.in-Unary.is))) c.unary.ensures

pub returns-in-Convert : goal.returns-in-Convert
returns-in-Convert c = on_ok_weaker c.convert.result (λ made vars infos fits fit.
    let d = declared vars c.args.arrays.now in
    let n = c.args.node.now in
    let h = sym (fit-Convert d n fit.labels c.in-Convert.to c.in-Convert.t c.in-Convert.a c.in-Convert.is)
    ∙ fit.fit in
    means-as d (λ f r. convert_part c.in-Convert.to c.in-Convert.t c.in-Convert.a) (λ f r. trace_node r
    d.arrays n) c.args.b.now _
    (made d fits h)
    (λ f r cs. sym (trace-Convert r d.arrays n (traced_of f c.args.b.now cs) c.in-Convert.to c.in-Convert.t
    c.in-Convert.a c.in-Convert.is))) c.convert.ensures

pub returns-in-Load : goal.returns-in-Load
returns-in-Load c = on_ok_weaker c.load.result (λ made vars infos fits fit.
    let d = declared vars c.args.arrays.now in
    let n = c.args.node.now in
    let h = sym (fit-Load d n fit.labels c.in-Load.to c.in-Load.array c.in-Load.index c.in-Load.stmt
    c.in-Load.is) ∙ fit.fit in
    means-as d (λ f r. load_part c.in-Load.to c.in-Load.array c.in-Load.index c.in-Load.stmt) (λ f r.
    trace_node r d.arrays n) c.args.b.now _
    (made vars infos fits h)
    (λ f r cs. sym (trace-Load r d.arrays n (traced_of f c.args.b.now cs) c.in-Load.to c.in-Load.array
    c.in-Load.index c.in-Load.stmt c.in-Load.is))) c.load.ensures

pub returns-in-Save : goal.returns-in-Save
returns-in-Save c = on_ok_weaker c.save.result (λ made vars infos fits fit.
    let d = declared vars c.args.arrays.now in
    let n = c.args.node.now in
    let h = sym (fit-Save d n fit.labels c.in-Save.array c.in-Save.index c.in-Save.value c.in-Save.stmt
    c.in-Save.is) ∙ fit.fit in
    means-as d (λ f r. save_part c.in-Save.array c.in-Save.index c.in-Save.value c.in-Save.stmt) (λ f r.
    trace_node r d.arrays n) c.args.b.now _
    (made vars infos fits h)
    (λ f r cs. sym (trace-Save r d.arrays n (traced_of f c.args.b.now cs) c.in-Save.array c.in-Save.index
    c.in-Save.value c.in-Save.stmt c.in-Save.is))) c.save.ensures

pub returns-in-Assert : goal.returns-in-Assert
returns-in-Assert c = on_ok_weaker c.assert_nonzero.result (λ made vars infos fits fit.
    let d = declared vars c.args.arrays.now in
    let n = c.args.node.now in
    let h = sym (fit-Assert d n fit.labels c.in-Assert.when c.in-Assert.stmt c.in-Assert.is) ∙ fit.fit in
    means-as d (λ f r. assert_part c.in-Assert.when c.in-Assert.stmt) (λ f r. trace_node r d.arrays n)
    c.args.b.now _
    (made d fits h)
    (λ f r cs. sym (trace-Assert r d.arrays n (traced_of f c.args.b.now cs) c.in-Assert.when
    c.in-Assert.stmt c.in-Assert.is))) c.assert_nonzero.ensures

pub returns-in-Binary : goal.returns-in-Binary
returns-in-Binary c = on_ok_weaker c.binary.result (λ made vars infos fits fit.
    let d = declared vars c.args.arrays.now in
    let n = c.args.node.now in
    let h = sym (fit-Binary d n fit.labels c.in-Binary.to c.in-Binary.op c.in-Binary.t c.in-Binary.a
    c.in-Binary.right c.in-Binary.stmt c.in-Binary.is) ∙ fit.fit in
    means-as d (λ f r. binary_part c.in-Binary.to c.in-Binary.op c.in-Binary.t c.in-Binary.a
    c.in-Binary.right c.in-Binary.stmt) (λ f r. trace_node r d.arrays n) c.args.b.now _
    (made d fits h)
    (λ f r cs. sym (trace-Binary r d.arrays n (traced_of f c.args.b.now cs) c.in-Binary.to c.in-Binary.op
    c.in-Binary.t c.in-Binary.a c.in-Binary.right c.in-Binary.stmt c.in-Binary.is))) c.binary.ensures

pub returns-in-Beyond : goal.returns-in-Beyond
returns-in-Beyond c = on_ok_weaker c.beyond.result (λ made vars infos fits fit.
    let d = declared vars c.args.arrays.now in
    let n = c.args.node.now in
    means-as d (λ f r. beyond_part c.in-Beyond.stmt) (λ f r. trace_node r d.arrays n) c.args.b.now _
    (made d fits)
    (λ f r cs. sym (trace-Beyond r d.arrays n (traced_of f c.args.b.now cs) c.in-Beyond.stmt c.in-Beyond.is)))
    c.beyond.ensures

pub returns-in-Leave : goal.returns-in-Leave
returns-in-Leave c = on_ok_weaker c.leave.result (λ made vars infos fits fit.
    let d = declared vars c.args.arrays.now in
    let n = c.args.node.now in
    means-as d (λ f r. leave_part c.in-Leave.label) (λ f r. trace_node r d.arrays n) c.args.b.now _
    (leave-means d c.in-Leave.label c.args.b.now _ fits (made d fits))
    (λ f r cs. sym (trace-Leave r d.arrays n (traced_of f c.args.b.now cs) c.in-Leave.label c.in-Leave.is)))
    c.leave.ensures

pub returns-in-Loop : goal.returns-in-Loop
returns-in-Loop c = λ vars infos fits fit.
    let n = c.args.node.now in
    let no_loop : false ≡ true = sym (unrolled-Loop n c.in-Loop.after c.in-Loop.head c.in-Loop.when
    c.in-Loop.body c.in-Loop.step
    c.in-Loop.stmt c.in-Loop.is) ∙ fit.unrolled in absurd (cc)

pub returns-in-Fill : goal.returns-in-Fill
returns-in-Fill c = on_ok_weaker c.fill.result (λ made vars infos fits fit.
    let d = declared vars c.args.arrays.now in
    let n = c.args.node.now in
    let a = c.in-Fill.array in
    let h = sym (fit-Fill d n fit.labels a c.in-Fill.values c.in-Fill.is) ∙ fit.fit in
    means-as d (λ f r. fill_part a c.in-Fill.values.items) (λ f r. trace_node r d.arrays n) c.args.b.now _
    (subst (λ os. Means d (λ f r. fill_part a os) c.args.b.now c.fill.new.b) c.as_slice.ensures.value
    (made d fits
    (ap (λ os. is_array d a && list_all (is_operand d) os && (length os == (info_at d.arrays a).len))
    c.as_slice.ensures.value ∙ h)))
    (λ f r cs. sym (trace-Fill r d.arrays n (traced_of f c.args.b.now cs) a c.in-Fill.values c.in-Fill.is)))
    c.fill.ensures
