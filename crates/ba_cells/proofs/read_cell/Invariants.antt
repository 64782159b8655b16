use Rattle.std.proofs.Common.{◌-◌, ◌≡◌, ℕ, Bool, ◌*◌, length}
use Rattle.ba_nodes.specs.Gates.{Grows}
use Rattle.ba_words.specs.Words.{low_number, number_of, AreBitsOf}
use Rattle.ba_cells.specs.Cells.{cell_at, index_read, IsGrid}
use Rattle.ba_cells.proofs.read_cell.Given as goal

abbrev pub invariant-loop-place : goal.invariant-loop-place
invariant-loop-place l = record {
  grows : Grows l.fn.nodes l.nodes (97 * l.place - 49);
  are_bits : AreBitsOf l.nodes l.word;
  holds : (free : ℕ → Bool) → number_of free l.nodes l.word
      ≡ number_of free l.fn.nodes (cell_at l.cells (index_read l.place (low_number free l.fn.nodes l.index
      8)));
  grid : IsGrid l.nodes l.index (length l.cells) l.rows l.columns l.width;
}
