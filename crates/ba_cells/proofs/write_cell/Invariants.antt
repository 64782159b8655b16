use Rattle.std.proofs.Common.{◌≡◌, ℕ, Bool, ◌*◌, ◌<◌, ◌≤◌, ◌==◌, ◌&&◌, length, if◌then◌else◌}
use Rattle.ba_nodes.specs.Gates.{truth, Extends, Grows}
use Rattle.ba_words.specs.Words.{low_number, number_of}
use Rattle.ba_cells.specs.Cells.{cell_at, AreCellsOf, IsGrid}
use Rattle.ba_cells.proofs.write_cell.Given as goal

abbrev pub invariant-loop-place : goal.invariant-loop-place
invariant-loop-place l = record {
  extends : Extends l.fn.nodes l.nodes;
  grows : Grows l.initial.nodes l.nodes (98 * l.place);
  long : length l.written.items ≡ l.place;
  are_cells : AreCellsOf l.nodes l.written.items;
  writes : (free : ℕ → Bool) (k : ℕ) → k < l.place → number_of free l.nodes (cell_at l.written.items k)
      ≡ (if truth free l.initial.nodes l.hit && (low_number free l.fn.nodes l.index 8 == k)
      then number_of free l.fn.nodes l.value else number_of free l.fn.nodes (cell_at l.cells k));
  grid : IsGrid l.nodes l.index (length l.cells) l.rows l.columns l.width;
}
