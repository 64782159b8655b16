use Rattle.std.proofs.Common.{◌+◌, ◌*◌, ◌/◌, arith}
use Rattle.ba_nodes.specs.Gates.{Extends}
use Rattle.ba_nodes.proofs.Truths.{Extends-through, Extends_refl}
use Rattle.ba_cells.proofs.Places.{
  pair_number,
  pair_small,
  pair_kept,
  combined_spells,
  spells-extends,
  grid_of_four,
  grid_of_sixteen,
}
use Rattle.ba_cells.proofs.grid_of.Goals as goal

pub returns-in_ok-columns-clause-grid : goal.returns-in_ok-columns-clause-grid
returns-in_ok-columns-clause-grid c =
    let old = c.args.nodes.now in
    let index = c.args.index.now in
    let are = c.requires.index in
    let n1 = c.pair_of.new.nodes in
    let n2 = c.pair_of-2.new.nodes in
    let n3 = c.pair_of-3.new.nodes in
    let n4 = c.pair_of-4.new.nodes in
    let n5 = c.combined.new.nodes in
    let n6 = c.combined-then-cells-gt-FEW_CELLS.new.nodes in
    let e1 : Extends old n1 = c.pair_of.ensures.grows.extends in
    let e2 : Extends old n2 = Extends-through old n1 n2 e1 c.pair_of-2.ensures.grows.extends in
    let e3 : Extends old n3 = Extends-through old n2 n3 e2 c.pair_of-3.ensures.grows.extends in
    let f5 : Extends n5 n6 = c.combined-then-cells-gt-FEW_CELLS.ensures.grows.extends in
    let f4 : Extends n4 n6 = Extends-through n4 n5 n6 c.combined.ensures.grows.extends f5 in
    let f3 : Extends n3 n6 = Extends-through n3 n4 n6 c.pair_of-4.ensures.grows.extends f4 in
    let f2 : Extends n2 n6 = Extends-through n2 n3 n6 c.pair_of-3.ensures.grows.extends f3 in
    let f1 : Extends n1 n6 = Extends-through n1 n2 n6 c.pair_of-2.ensures.grows.extends f2 in
    let all : Extends old n6 = Extends-through old n1 n6 e1 f1 in
    let to5 : Extends n2 n5 = Extends-through n2 n3 n5 c.pair_of-3.ensures.grows.extends
    (Extends-through n3 n4 n5 c.pair_of-4.ensures.grows.extends c.combined.ensures.grows.extends) in
    let from1 : Extends n1 n5 = Extends-through n1 n2 n5 c.pair_of-2.ensures.grows.extends to5 in
    let upper = combined_spells n4 n5 c.in_ok-highest.highest c.in_ok-high.high c.in_ok-upper.upper
    (λ free. pair_number free old index 6) (λ free. pair_number free old index 4) 4
    ((c.args.cells + 15) / 16) (omega (arith, c.requires.few))
    (pair_kept old n3 n4 n4 index c.in_ok-highest.highest 6 are e3 (Extends_refl n4)
    c.in_ok-highest.ensures.value)
    (pair_kept old n2 n3 n4 index c.in_ok-high.high 4 are e2 c.pair_of-4.ensures.grows.extends
    c.in_ok-high.ensures.value)
    (λ free. pair_small free old index 4) c.in_ok-upper.ensures.value in
    let low = pair_kept old n1 n2 n5 index c.in_ok-low.low 2 are e1 to5 c.in_ok-low.ensures.value in
    let lowest = pair_kept old old n1 n5 index c.in_ok-lowest.lowest 0 are (Extends_refl old) from1
    c.in_ok-lowest.ensures.value in
    grid_of_sixteen old n6 index c.in_ok-upper.upper c.in_ok-columns.columns c.args.cells all c.told-index are
    c.requires.few
    (spells-extends n5 n6 c.in_ok-upper.upper ((c.args.cells + 15) / 16) _ f5 upper)
    (combined_spells n5 n6 c.in_ok-low.low c.in_ok-lowest.lowest c.in_ok-columns.columns
    (λ free. pair_number free old index 2) (λ free. pair_number free old index 0) 4 16 (omega arith) low
    lowest
    (λ free. pair_small free old index 0) c.in_ok-columns.ensures.value)

pub returns-in_ok-rows-clause-grid : goal.returns-in_ok-rows-clause-grid
returns-in_ok-rows-clause-grid c =
    let old = c.args.nodes.now in
    let index = c.args.index.now in
    let are = c.requires.index in
    let n1 = c.pair_of.new.nodes in
    let n2 = c.pair_of-2.new.nodes in
    let n3 = c.pair_of-3.new.nodes in
    let n4 = c.pair_of-4.new.nodes in
    let n5 = c.combined.new.nodes in
    let n6 = c.combined-else-cells-gt-FEW_CELLS.new.nodes in
    let e1 : Extends old n1 = c.pair_of.ensures.grows.extends in
    let e2 : Extends old n2 = Extends-through old n1 n2 e1 c.pair_of-2.ensures.grows.extends in
    let e3 : Extends old n3 = Extends-through old n2 n3 e2 c.pair_of-3.ensures.grows.extends in
    let f5 : Extends n5 n6 = c.combined-else-cells-gt-FEW_CELLS.ensures.grows.extends in
    let f4 : Extends n4 n6 = Extends-through n4 n5 n6 c.combined.ensures.grows.extends f5 in
    let f3 : Extends n3 n6 = Extends-through n3 n4 n6 c.pair_of-4.ensures.grows.extends f4 in
    let f2 : Extends n2 n6 = Extends-through n2 n3 n6 c.pair_of-3.ensures.grows.extends f3 in
    let f1 : Extends n1 n6 = Extends-through n1 n2 n6 c.pair_of-2.ensures.grows.extends f2 in
    let all : Extends old n6 = Extends-through old n1 n6 e1 f1 in
    let to5 : Extends n2 n5 = Extends-through n2 n3 n5 c.pair_of-3.ensures.grows.extends
    (Extends-through n3 n4 n5 c.pair_of-4.ensures.grows.extends c.combined.ensures.grows.extends) in
    let from1 : Extends n1 n5 = Extends-through n1 n2 n5 c.pair_of-2.ensures.grows.extends to5 in
    let upper = combined_spells n4 n5 c.in_ok-highest.highest c.in_ok-high.high c.in_ok-upper.upper
    (λ free. pair_number free old index 6) (λ free. pair_number free old index 4) 4
    ((c.args.cells + 15) / 16) (omega (arith, c.requires.few))
    (pair_kept old n3 n4 n4 index c.in_ok-highest.highest 6 are e3 (Extends_refl n4)
    c.in_ok-highest.ensures.value)
    (pair_kept old n2 n3 n4 index c.in_ok-high.high 4 are e2 c.pair_of-4.ensures.grows.extends
    c.in_ok-high.ensures.value)
    (λ free. pair_small free old index 4) c.in_ok-upper.ensures.value in
    let low = pair_kept old n1 n2 n5 index c.in_ok-low.low 2 are e1 to5 c.in_ok-low.ensures.value in
    grid_of_four old n6 index c.in_ok-rows.rows c.in_ok-lowest.lowest c.args.cells all c.told-index are
    c.if-cells-gt-FEW_CELLS.false
    (combined_spells n5 n6 c.in_ok-upper.upper c.in_ok-low.low c.in_ok-rows.rows
    (λ free. 4 * pair_number free old index 6 + pair_number free old index 4)
    (λ free. pair_number free old index 2) ((c.args.cells + 15) / 16) ((c.args.cells + 3) / 4)
    (omega (arith, c.requires.few)) upper low (λ free. pair_small free old index 2)
    c.in_ok-rows.ensures.value)
    (pair_kept old old n1 n6 index c.in_ok-lowest.lowest 0 are (Extends_refl old) f1
    c.in_ok-lowest.ensures.value)
