use Rattle.std.proofs.Common.{arith, ◌+◌, ◌<◌, ◌≡◌, true, ap, sym, length, subst, take}
use Rattle.std.specs.List.{list_all}
use Rattle.ba_encode.proofs.Spots.{all-at, list-fits, places-more}
use Rattle.ba_encode.specs.Parts.{ArePlaces, IsPlace}
use Rattle.ba_nodes.proofs.Truths.{Extends-through}
use Rattle.ba_wordlist.specs.Facts.{is_place}
use Rattle.ba_encode.proofs.places.places_of.Goals as goal

pub place_of-requires-clause-place : goal.place_of-requires-clause-place
place_of-requires-clause-place c =
    let fits = list-fits c.args.list.now in
    let all = subst (λ ps. list_all (is_place (length c.args.list.now.words)) ps ≡ true) (sym
    c.as_slice-words.ensures)
    fits.places in
    subst (λ words. is_place (length words) c.index-words-i.result ≡ true) (sym c.as_slice-list_words.ensures)
    (all-at (is_place (length c.args.list.now.words)) c.as_slice-words.result.now c.loop-i.i
    c.index-words-i.result
    c.loop-i-test.true c.index-words-i.is all)

pub loop-i-preserved : goal.loop-i-preserved
loop-i-preserved c =
    let inside : c.loop-i.i < length c.args.groups.now =
    omega (arith, c.requires.grouped, ap length c.as_slice-words.ensures) in
    let own = subst (λ s. IsPlace c.loop-i.nodes c.args.list.now.words c.args.entries.now c.place_of.new.nodes
    c.index-words-i.result s c.in_ok-place_of.field-0) c.selector_at-selector.ensures
    (subst (λ words. IsPlace c.loop-i.nodes words c.args.entries.now c.place_of.new.nodes
    c.index-words-i.result
    c.selector_at-selector.result c.in_ok-place_of.field-0) c.as_slice-list_words.ensures
    c.in_ok-place_of.ensures.place) in
    record {
      places = subst (ArePlaces c.args.nodes.now c.args.list.now.words c.args.entries.now c.args.selectors.now
          c.place_of.new.nodes (take (c.loop-i.i + 1) c.as_slice-words.result.now)
          (take (c.loop-i.i + 1) c.args.groups.now)) (sym c.in_ok-push.ensures.items)
          (places-more c.args.nodes.now c.loop-i.nodes c.place_of.new.nodes c.args.list.now.words
          c.args.entries.now
          c.args.selectors.now c.as_slice-words.result.now c.args.groups.now c.loop-i.places.items c.loop-i.i
          c.index-words-i.result c.in_ok-place_of.field-0 c.loop-i-test.true inside c.index-words-i.is
          c.loop-i.invariant.extends c.requires.entries c.in_ok-place_of.ensures.extends
          c.loop-i.invariant.places own);
      extends = Extends-through c.args.nodes.now c.loop-i.nodes c.place_of.new.nodes
          c.loop-i.invariant.extends
          c.in_ok-place_of.ensures.extends;
    }
