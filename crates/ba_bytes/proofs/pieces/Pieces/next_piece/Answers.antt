use Rattle.std.proofs.Common.{◌≡◌, ◌<◌, length, take, drop, sym, ap, ◌∙◌, arith}
use Rattle.std.proofs.lemmas.Bool.Decides.{nat_tests}
use Rattle.ba_bytes.proofs.PieceLemmas.{IsCut, cut_none, cut_some}
use Rattle.ba_bytes.proofs.pieces.Pieces.next_piece.Goals as goal

pub returns-then-is_empty : goal.returns-then-is_empty
returns-then-is_empty c =
    let rest = c.self.inside.rest.now in
    let text = c.split_at.result.1.now in
    let none : length c.split_at-2.result.0.now ≡ 0 = grind (arith, nat_tests) in
    let cut : IsCut rest c.split_at-2.result.0.now c.split_at-2.result.1.now = record {
      text = text;
      trimmed = c.split_at.ensures.back ∙ ap (λ n. drop n rest) c.blank_count.ensures.count;
      front = c.split_at-2.ensures.front ∙ ap (λ n. take n text) c.piece_length.ensures.count;
      back = c.split_at-2.ensures.back ∙ ap (λ n. drop n text) c.piece_length.ensures.count;
    } in
    let both = cut_none _ _ _ cut none in
    (sym c.self.view_is ∙ both.0, both.1)

pub returns : goal.returns
returns c =
    let rest = c.self.inside.rest.now in
    let text = c.split_at.result.1.now in
    let some : 0 < length c.split_at-2.result.0.now = grind (arith, nat_tests) in
    let cut : IsCut rest c.split_at-2.result.0.now c.split_at-2.result.1.now = record {
      text = text;
      trimmed = c.split_at.ensures.back ∙ ap (λ n. drop n rest) c.blank_count.ensures.count;
      front = c.split_at-2.ensures.front ∙ ap (λ n. take n text) c.piece_length.ensures.count;
      back = c.split_at-2.ensures.back ∙ ap (λ n. drop n text) c.piece_length.ensures.count;
    } in
    sym c.self.view_is ∙ cut_some _ _ _ cut some
