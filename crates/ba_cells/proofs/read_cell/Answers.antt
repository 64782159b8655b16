use Rattle.std.proofs.Common.{◌≡◌, ◌<◌, ◌==◌, length, sym, ap, ◌∙◌, arith, if◌then◌else◌}
use Rattle.ba_nodes.proofs.Truths.{Grows-more, Extends-through}
use Rattle.ba_words.specs.Words.{low_number, number_of}
use Rattle.ba_words.proofs.Places.{are_bits-extends, low_number-extends, number_of-extends}
use Rattle.ba_cells.specs.Cells.{cell_at, index_read}
use Rattle.ba_cells.proofs.Places.{read-one, read-more, read_in_range, grid-extends, row_at, column_at}
use Rattle.ba_cells.proofs.read_cell.Goals as goal

pub loop-place-init : goal.loop-place-init
loop-place-init c = record {
  grows = Grows-more c.args.nodes.now c.grid_of.new.nodes c.grid_of.ensures.grows (omega arith);
  are_bits = are_bits-extends c.args.nodes.now c.grid_of.new.nodes (cell_at c.args.cells.now 0)
      c.grid_of.ensures.grows.extends (c.requires.cells 0);
  holds = λ free.
      number_of-extends free c.args.nodes.now c.grid_of.new.nodes (cell_at c.args.cells.now 0)
      c.grid_of.ensures.grows.extends (c.requires.cells 0)
      ∙ ap (λ k. number_of free c.args.nodes.now (cell_at c.args.cells.now k))
      (sym (read-one (low_number free c.args.nodes.now c.args.index.now 8)));
  grid = c.in_ok-rows.ensures.grid;
}

pub is_at-requires-clause-some : goal.is_at-requires-clause-some
is_at-requires-clause-some c = c.loop-place.invariant.grid.some

pub is_at-requires-clause-wide : goal.is_at-requires-clause-wide
is_at-requires-clause-wide c = c.loop-place.invariant.grid.wide

pub is_at-requires-clause-place : goal.is_at-requires-clause-place
is_at-requires-clause-place c =
    let within : c.loop-place.place < length c.args.cells.now = omega arith in
    omega (arith, c.loop-place.invariant.grid.all, within)

pub is_at-requires-clause-row : goal.is_at-requires-clause-row
is_at-requires-clause-row c =
    row_at c.loop-place.nodes c.args.index.now c.in_ok-rows.rows c.in_ok-rows.columns (length
    c.args.cells.now)
    c.in_ok-rows.width c.loop-place.place c.loop-place.invariant.grid (omega arith)

pub is_at-requires-clause-column : goal.is_at-requires-clause-column
is_at-requires-clause-column c =
    column_at c.loop-place.nodes c.args.index.now c.in_ok-rows.rows c.in_ok-rows.columns (length
    c.args.cells.now)
    c.in_ok-rows.width c.loop-place.place c.loop-place.invariant.grid

pub loop-place-preserved : goal.loop-place-preserved
loop-place-preserved c =
    let first = Extends-through c.args.nodes.now c.loop-place.nodes c.is_at.new.nodes
    c.loop-place.invariant.grows.extends c.is_at.ensures.grows.extends in
    record {
      grows = record {
        extends = Extends-through c.args.nodes.now c.is_at.new.nodes c.select.new.nodes first
            c.select.ensures.grows.extends;
        count = omega (
          arith,
          c.select.ensures.grows.count,
          c.is_at.ensures.grows.count,
          c.loop-place.invariant.grows.count,
        );
      };
      are_bits = c.in_ok-word.ensures.number.are_bits;
      holds = λ free.
          let n = low_number free c.args.nodes.now c.args.index.now 8 in
          let index = low_number-extends free c.args.nodes.now c.loop-place.nodes c.args.index.now 8
          c.loop-place.invariant.grows.extends c.requires.index in
          let cell = number_of-extends free c.args.nodes.now c.is_at.new.nodes
          (cell_at c.args.cells.now c.loop-place.place) first (c.requires.cells c.loop-place.place) in
          let before = number_of-extends free c.loop-place.nodes c.is_at.new.nodes c.loop-place.word
          c.is_at.ensures.grows.extends c.loop-place.invariant.are_bits ∙ c.loop-place.invariant.holds free in
          c.in_ok-word.ensures.number.holds free
          ∙ (λ i. if c.in_ok-here.ensures.value.holds free i then cell i else before i)
          ∙ ap (λ k. if k == c.loop-place.place
          then number_of free c.args.nodes.now (cell_at c.args.cells.now c.loop-place.place)
          else number_of free c.args.nodes.now (cell_at c.args.cells.now (index_read c.loop-place.place n)))
          index
          ∙ read-more (λ k. number_of free c.args.nodes.now (cell_at c.args.cells.now k)) c.loop-place.place n
          (omega arith);
      grid = grid-extends c.loop-place.nodes c.select.new.nodes c.args.index.now c.in_ok-rows.rows
          c.in_ok-rows.columns (length c.args.cells.now) c.in_ok-rows.width (Extends-through
          c.loop-place.nodes
          c.is_at.new.nodes c.select.new.nodes c.is_at.ensures.grows.extends c.select.ensures.grows.extends)
          (are_bits-extends c.args.nodes.now c.loop-place.nodes c.args.index.now
          c.loop-place.invariant.grows.extends c.requires.index) c.loop-place.invariant.grid;
    }

pub returns-clause-value : goal.returns-clause-value
returns-clause-value c = read_in_range c.args.nodes.now c.loop-place.nodes c.args.cells.now c.args.index.now
    c.loop-place.word c.told-index c.requires.few (λ free.
    let all : c.loop-place.place ≡ _ = omega arith in
    c.loop-place.invariant.holds free
    ∙ ap (λ n. number_of free c.args.nodes.now (cell_at c.args.cells.now
    (index_read n (low_number free c.args.nodes.now c.args.index.now 8)))) all)
