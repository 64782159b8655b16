use Rattle.std.proofs.Common.{◌≡◌, ◌≤◌, true, sym, ap, subst, arith}
use Rattle.ba_code.specs.Facts.{is_take}
use Rattle.ba_code.specs.Meaning.{info_at}
use Rattle.ba_code.specs.declared.nodes.Take.TheVariants.{Value, Truth, Cell, Cells, Nothing}
use Rattle.ba_guards.proofs.Arrays.{cell-arm, cells-arm, nothing-arm, truth-arm, value-arm}
use Rattle.ba_guards.proofs.Going.{means-as, traced_of}
use Rattle.ba_guards.proofs.Stores.{array-below, few-elements}
use Rattle.ba_guards.specs.Making.{Checks, are_right, picked, values_in, word_in}
use Rattle.ba_guards.specs.Parts.{declared}
use Rattle.ba_tree.specs.State.{is_index}
use Rattle.ba_tree.specs.declared.run.Halt.TheVariants.{WrongChoices}
use Rattle.ba_wordlist.specs.Meaning.{Assignment}
use Rattle.ba_guards.proofs.walking.take_values.Goals as goal

pub returns-in_ok-assign-in-Value : goal.returns-in_ok-assign-in-Value
returns-in_ok-assign-in-Value c = λ vars infos fits fit sides second names right.
    let d = declared vars c.args.arrays.now in
    let b = c.args.b.now in
    let there = subst (λ k. is_take d k ≡ true) c.in-Value.is fit in
    let good = λ (f : Assignment). subst (λ k. are_right d k (values_in b.words c.args.values f) ≡ true)
    c.in-Value.is (right f) in
    means-as d (λ f r. picked d (Value c.in-Value.to c.in-Value.t) (values_in b.words c.args.values f)) (λ
    f r. picked d c.args.take (values_in b.words c.args.values f)) b _
    (value-arm d b _ c.in-Value.to c.word_at.result c.in-Value.t c.args.values fits there names good
    c.word_at.ensures
    c.in_ok-assign-in-Value.ensures)
    (λ f r cs. ap (λ k. picked d k (values_in b.words c.args.values f) (traced_of f b cs)) (sym
    c.in-Value.is))

pub returns-in_ok-assign-in-Truth : goal.returns-in_ok-assign-in-Truth
returns-in_ok-assign-in-Truth c = λ vars infos fits fit sides second names right.
    let d = declared vars c.args.arrays.now in
    let b = c.args.b.now in
    let there = subst (λ k. is_take d k ≡ true) c.in-Truth.is fit in
    let good = λ (f : Assignment). subst (λ k. are_right d k (values_in b.words c.args.values f) ≡ true)
    c.in-Truth.is (right f) in
    means-as d (λ f r. picked d (Truth c.in-Truth.to) (values_in b.words c.args.values f)) (λ f r. picked d
    c.args.take (values_in b.words c.args.values f)) b _
    (truth-arm d b _ c.in-Truth.to c.word_at-in-Truth.result c.args.values fits there names good
    c.word_at-in-Truth.ensures
    c.in_ok-assign-in-Truth.ensures)
    (λ f r cs. ap (λ k. picked d k (values_in b.words c.args.values f) (traced_of f b cs)) (sym
    c.in-Truth.is))

pub returns-in_ok-version-in-Cell : goal.returns-in_ok-version-in-Cell
returns-in_ok-version-in-Cell c = λ vars infos fits fit sides second names right.
    let d = declared vars c.args.arrays.now in
    let b = c.args.b.now in
    let there = subst (λ k. is_take d k ≡ true) c.in-Cell.is fit in
    let good = λ (f : Assignment). subst (λ k. are_right d k (values_in b.words c.args.values f) ≡ true)
    c.in-Cell.is (right f) in
    means-as d (λ f r. picked d (Cell c.in-Cell.array) (values_in b.words c.args.values f)) (λ f r. picked
    d c.args.take (values_in b.words c.args.values f)) b _
    (let few : (info_at d.arrays c.in-Cell.array).len ≤ 256 = few-elements c.args.arrays.now
    c.in-Cell.array infos (array-below d c.in-Cell.array there) in
    cell-arm d b c.demand_index.new.b _ c.in-Cell.array c.at.result c.word_at-index.result
    c.word_at-value.result c.args.values c.args.sides.now fits there sides second few names good
    c.word_at-index.ensures c.word_at-value.ensures
    (λ below. subst (λ n. Checks d b c.demand_index.new.b WrongChoices (λ f. is_index n (word_in b.words
    c.word_at-index.result f)))
    c.length_of.ensures (c.in_ok-demand_index-in-Cell.ensures d WrongChoices fits below (omega (
      arith,
      few,
      c.length_of.ensures,
    ))))
    c.write_second.new.self c.in_ok-version-in-Cell.version c.at.ensures c.in_ok-version-in-Cell.ensures
    (ap (λ xs. record c.demand_index.new.b { words = c.write_second.new.self; arrays = xs })
    c.set.ensures))
    (λ f r cs. ap (λ k. picked d k (values_in b.words c.args.values f) (traced_of f b cs)) (sym c.in-Cell.is))

pub returns-in_ok-version-in-Cells : goal.returns-in_ok-version-in-Cells
returns-in_ok-version-in-Cells c = λ vars infos fits fit sides second names right.
    let d = declared vars c.args.arrays.now in
    let b = c.args.b.now in
    let there = subst (λ k. is_take d k ≡ true) c.in-Cells.is fit in
    let good = λ (f : Assignment). subst (λ k. are_right d k (values_in b.words c.args.values f) ≡ true)
    c.in-Cells.is (right f) in
    means-as d (λ f r. picked d (Cells c.in-Cells.array) (values_in b.words c.args.values f)) (λ f r.
    picked d c.args.take (values_in b.words c.args.values f)) b _
    (cells-arm d b _ c.in-Cells.array c.at-in-Cells.result c.in_ok-version-in-Cells.version c.args.values
    c.fill.new.self fits there names good
    c.at-in-Cells.ensures c.in_ok-version-in-Cells.ensures
    (ap (λ xs. record b { words = c.fill.new.self; arrays = xs }) c.set-in-Cells.ensures))
    (λ f r cs. ap (λ k. picked d k (values_in b.words c.args.values f) (traced_of f b cs)) (sym
    c.in-Cells.is))

pub returns-in-Nothing : goal.returns-in-Nothing
returns-in-Nothing c = λ vars infos fits fit sides second names right.
    let d = declared vars c.args.arrays.now in
    let b = c.args.b.now in
    let there = subst (λ k. is_take d k ≡ true) c.in-Nothing.is fit in
    let good = λ (f : Assignment). subst (λ k. are_right d k (values_in b.words c.args.values f) ≡ true)
    c.in-Nothing.is (right f) in
    means-as d (λ f r. picked d (Nothing) (values_in b.words c.args.values f)) (λ f r. picked d c.args.take
    (values_in b.words c.args.values f)) b _
    (nothing-arm d b c.args.values fits good)
    (λ f r cs. ap (λ k. picked d k (values_in b.words c.args.values f) (traced_of f b cs)) (sym
    c.in-Nothing.is))
