use Rattle.std.proofs.Common.{◌∙◌, ap, sym}
use Rattle.std.specs.Prelude.{position}
use Rattle.ba_encode.specs.Groups.{group_at, is_place}
use Rattle.ba_encode.proofs.grouping.group_at.Goals as goal

pub returns-in-ByPlace : goal.returns-in-ByPlace
returns-in-ByPlace c =
    c.position_of_place.ensures
    ∙ ap (λ places. position (λ other. is_place other c.args.place.now) places) c.as_slice.ensures
    ∙ ap (λ grouping. group_at grouping c.args.groups.now c.args.place.now) (sym c.in-ByPlace.is)
