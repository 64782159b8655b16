use Rattle.std.proofs.Common.{refl, ap, map, ◌∙◌}
use Rattle.ba_encode.proofs.Spots.{HasValue-grown, set-grown}
use Rattle.ba_encode.specs.Parts.{is_set, value_bits}
use Rattle.ba_words.proofs.Circuits.{HasValue-same}
use Rattle.ba_encode.proofs.places.place_of.Goals as goal

pub returns-clause-place : goal.returns-clause-place
returns-clause-place c = record {
  selector_is = refl;
  guard = HasValue-grown c.is_set.new.nodes c.is_set-2.new.nodes c.in_ok-guard.guard
      (λ free. is_set free c.args.nodes.now c.args.entries.now c.args.place.now.guard)
      c.in_ok-keep.ensures.extends
      c.in_ok-guard.ensures.bit;
  keep = HasValue-same c.is_set-2.new.nodes c.in_ok-keep.keep
      (λ free. is_set free c.is_set.new.nodes c.args.entries.now c.args.place.now.keep)
      (λ free. is_set free c.args.nodes.now c.args.entries.now c.args.place.now.keep) c.in_ok-keep.ensures.bit
      (λ free. set-grown free c.args.nodes.now c.is_set.new.nodes c.args.entries.now c.args.place.now.keep
      c.in_ok-guard.ensures.extends c.requires.entries);
  values = c.in_ok-values.ensures.values
      ∙ ap (map (value_bits c.args.words.now c.args.entries.now)) c.as_slice.ensures;
  long = c.in_ok-values.ensures.long;
}
