use Rattle.std.proofs.Common.{◌≡◌, ◌+◌, ◌<◌, ◌==◌, ◌&&◌, not, length, map, drop, inl, inr, ap, subst, ◌∙◌, arith, if◌then◌else◌, length-append}
use Rattle.std.proofs.lemmas.Bool.{cases_lt}
use Rattle.ba_nodes.specs.Gates.{truth, IsBitOf}
use Rattle.ba_nodes.proofs.Truths.{Extends-through}
use Rattle.ba_words.specs.Words.{low_number, number_of, spelled}
use Rattle.ba_words.proofs.Circuits.{low_number_below}
use Rattle.ba_words.proofs.Places.{are_bits-extends, low_number-extends, number_of-extends}
use Rattle.ba_cells.proofs.Places.{grid-extends, row_at, column_at}
use Rattle.ba_words.proofs.Shapes.{number-split}
use Rattle.ba_cells.specs.Cells.{cell_at}
use Rattle.ba_cells.proofs.Writes.{whole_choice, pushed_cells, pushed_number, pushed_last}
use Rattle.ba_cells.proofs.write_cell.Goals as goal

pub is_at-requires-clause-some : goal.is_at-requires-clause-some
is_at-requires-clause-some c = c.loop-place.invariant.grid.some

pub is_at-requires-clause-wide : goal.is_at-requires-clause-wide
is_at-requires-clause-wide c = c.loop-place.invariant.grid.wide

pub is_at-requires-clause-place : goal.is_at-requires-clause-place
is_at-requires-clause-place c =
    let within : c.loop-place.place < length c.args.cells.now = omega arith in
    omega (arith, c.loop-place.invariant.grid.all, within)

pub is_at-requires-clause-row : goal.is_at-requires-clause-row
is_at-requires-clause-row c =
    row_at c.loop-place.nodes c.args.index.now c.in_ok-rows.rows c.in_ok-rows.columns (length
    c.args.cells.now)
    c.in_ok-rows.width c.loop-place.place c.loop-place.invariant.grid (omega arith)

pub is_at-requires-clause-column : goal.is_at-requires-clause-column
is_at-requires-clause-column c =
    column_at c.loop-place.nodes c.args.index.now c.in_ok-rows.rows c.in_ok-rows.columns (length
    c.args.cells.now)
    c.in_ok-rows.width c.loop-place.place c.loop-place.invariant.grid

pub loop-place-preserved : goal.loop-place-preserved
loop-place-preserved c =
    let to_gate = Extends-through c.loop-place.nodes c.is_at.new.nodes c.and-in-loop-place.new.self
    c.is_at.ensures.grows.extends c.and-in-loop-place.ensures.makes.grows.extends in
    let one = Extends-through c.loop-place.nodes c.and-in-loop-place.new.self c.select.new.nodes to_gate
    c.select.ensures.grows.extends in
    let to_select = Extends-through c.args.nodes.now c.loop-place.nodes c.and-in-loop-place.new.self
    c.loop-place.invariant.extends to_gate in
    record {
      extends = Extends-through c.args.nodes.now c.loop-place.nodes c.select.new.nodes
          c.loop-place.invariant.extends one;
      grows = record {
        extends = Extends-through c.grid_of.new.nodes c.loop-place.nodes c.select.new.nodes
            c.loop-place.invariant.grows.extends one;
        count = omega (
          arith,
          c.select.ensures.grows.count,
          c.and-in-loop-place.ensures.makes.grows.count,
          c.is_at.ensures.grows.count,
          c.loop-place.invariant.grows.count,
        );
      };
      long = ap length c.in_ok-push.ensures.items ∙ length-append c.loop-place.written.items _
          ∙ ap (λ n. n + 1) c.loop-place.invariant.long;
      are_cells = pushed_cells c.loop-place.nodes c.select.new.nodes c.loop-place.written.items
          c.push.new.self.items c.in_ok-cell.cell one c.in_ok-push.ensures.items
          c.loop-place.invariant.are_cells
          c.in_ok-cell.ensures.number.are_bits;
      writes = λ free k within.
          elim (cases_lt k c.loop-place.place) [
            | inl below ↦
                pushed_number free c.loop-place.nodes c.select.new.nodes c.loop-place.written.items
                c.push.new.self.items c.in_ok-cell.cell k one c.in_ok-push.ensures.items
                c.loop-place.invariant.are_cells (omega (arith, c.loop-place.invariant.long))
                ∙ c.loop-place.invariant.writes free k below
            | inr past ↦
                let here : c.loop-place.place ≡ k = omega arith in
                let named : IsBitOf c.grid_of.new.nodes c.in_ok-hit.hit =
                omega (
                  arith,
                  c.in_ok-hit.ensures.makes.value.is_bit,
                  c.grid_of.ensures.grows.extends.grows,
                ) in
                let hit = c.is_at.ensures.grows.extends.keeps free c.in_ok-hit.hit
                (omega (arith, named, c.loop-place.invariant.grows.extends.grows))
                ∙ c.loop-place.invariant.grows.extends.keeps free c.in_ok-hit.hit named in
                let at = c.in_ok-here.ensures.value.holds free
                ∙ ap (λ n. n == c.loop-place.place) (low_number-extends free c.args.nodes.now
                c.loop-place.nodes c.args.index.now 8 c.loop-place.invariant.extends c.requires.index) in
                subst (λ k. number_of free c.select.new.nodes (cell_at c.push.new.self.items k)
                ≡ (if truth free c.grid_of.new.nodes c.in_ok-hit.hit
                && (low_number free c.args.nodes.now c.args.index.now 8 == k)
                then number_of free c.args.nodes.now c.args.value.now
                else number_of free c.args.nodes.now (cell_at c.args.cells.now k))) here
                (ap (number_of free c.select.new.nodes) (pushed_last c.loop-place.written.items
                c.push.new.self.items c.in_ok-cell.cell c.loop-place.place c.in_ok-push.ensures.items
                c.loop-place.invariant.long)
                ∙ c.in_ok-cell.ensures.number.holds free
                ∙ ap (λ b. if b then number_of free c.and-in-loop-place.new.self c.args.value.now
                else number_of free c.and-in-loop-place.new.self
                (cell_at c.args.cells.now c.loop-place.place))
                (c.in_ok-replaced.ensures.makes.value.holds free ∙ (λ i. hit i && at i))
                ∙ (λ i. if truth free c.grid_of.new.nodes c.in_ok-hit.hit
                && (low_number free c.args.nodes.now c.args.index.now 8 == c.loop-place.place)
                then number_of-extends free c.args.nodes.now c.and-in-loop-place.new.self c.args.value.now
                to_select c.requires.value i
                else number_of-extends free c.args.nodes.now c.and-in-loop-place.new.self
                (cell_at c.args.cells.now c.loop-place.place) to_select
                (c.requires.cells c.loop-place.place) i))
          ];
      grid = grid-extends c.loop-place.nodes c.select.new.nodes c.args.index.now c.in_ok-rows.rows
          c.in_ok-rows.columns (length c.args.cells.now) c.in_ok-rows.width one
          (are_bits-extends c.args.nodes.now c.loop-place.nodes c.args.index.now
          c.loop-place.invariant.extends
          c.requires.index) c.loop-place.invariant.grid;
    }

pub returns-clause-value : goal.returns-clause-value
returns-clause-value c free place within =
    let index = c.args.index.now in
    let n = number_of free c.args.nodes.now index in
    let l = low_number free c.args.nodes.now index 8 in
    let hit = c.grid_of.ensures.grows.extends.keeps free c.in_ok-hit.hit
    c.in_ok-hit.ensures.makes.value.is_bit ∙ c.in_ok-hit.ensures.makes.value.holds free
    ∙ (λ i. c.is_beyond.ensures.grows.extends.keeps free c.args.when c.requires.when i
    && (c.not.ensures.value c.is_beyond.new.nodes free ∙ ap not (c.in_ok-beyond.ensures.value.holds free))
    i) in
    c.loop-place.invariant.writes free place (omega (arith, within))
    ∙ ap (λ b. if b && (l == place) then number_of free c.args.nodes.now c.args.value.now
    else number_of free c.args.nodes.now (cell_at c.args.cells.now place)) hit
    ∙ whole_choice (truth free c.args.nodes.now c.args.when) n l (spelled (drop 8 (map (truth free
    c.args.nodes.now) index))) place (number_of free c.args.nodes.now c.args.value.now)
    (number_of free c.args.nodes.now (cell_at c.args.cells.now place))
    (number-split free c.args.nodes.now index 8 (omega (arith, c.told-index)))
    (low_number_below free c.args.nodes.now index 8 (omega (arith, c.told-index)))
    (omega (arith, within, c.requires.few))
