use Rattle.std.proofs.Common.{◌≡◌, ◌&&◌, ap, length, subst, sym, true, ◌∙◌, All}
use Rattle.std.specs.List.{list_all}
use Rattle.ba_bits.specs.Bits.{AreEntries}
use Rattle.ba_bits.specs.Needs.{AreClosed, are_needed}
use Rattle.ba_encode.proofs.Making.{bits-grown, built-is}
use Rattle.ba_encode.proofs.Naming.{entries-many, roots-named}
use Rattle.ba_encode.proofs.Spots.{list-fits, places-of}
use Rattle.ba_encode.specs.Parts.{AreHeld, ArePlaces, IsPlaceOf, is_set, stays}
use Rattle.ba_nodes.proofs.Truths.{Extends-through}
use Rattle.ba_nodes.specs.Gates.{truth}
use Rattle.ba_wordlist.specs.Facts.{are_names, are_words}
use Rattle.ba_encode.proofs.formulas.build.Goals as goal

pub needed_entries-requires-clause-words : goal.needed_entries-requires-clause-words
needed_entries-requires-clause-words c = ap are_words c.as_slice-words.ensures ∙ (list-fits
    c.args.list.now).are_words

pub needed_entries-requires-clause-roots : goal.needed_entries-requires-clause-roots
needed_entries-requires-clause-roots c =
    let roots = c.as_slice.ensures.value ∙ c.in_ok-roots.ensures in
    (λ i. are_names (length (c.as_slice-words.ensures i)) (roots i))
    ∙ roots-named c.args.list.now c.args.groups.now

pub bits_of-requires-clause-words : goal.bits_of-requires-clause-words
bits_of-requires-clause-words c = ap are_words c.as_slice-words.ensures ∙ (list-fits
    c.args.list.now).are_words

pub met-requires-clause-names : goal.met-requires-clause-names
met-requires-clause-names c =
    let many = ap length c.as_slice-3.ensures.value
    ∙ entries-many c.args.nodes.now c.bits_of.new.nodes c.as_slice-words.result.now c.as_slice-2.result.now
    c.in_ok-entries.entries.items c.in_ok-entries.ensures.entries ∙ ap length c.as_slice-words.ensures in
    (λ i. are_names (many i) (c.as_slice-4.ensures i)) ∙ (list-fits c.args.list.now).require

pub places_of-requires-clause-many : goal.places_of-requires-clause-many
places_of-requires-clause-many c =
    ap length c.as_slice-5.ensures.value
    ∙ entries-many c.args.nodes.now c.bits_of.new.nodes c.as_slice-words.result.now c.as_slice-2.result.now
    c.in_ok-entries.entries.items c.in_ok-entries.ensures.entries ∙ ap length c.as_slice-words.ensures

pub add_kept-requires : goal.add_kept-requires
add_kept-requires c =
    let up_to = Extends-through c.args.nodes.now c.met.new.nodes c.places_of.new.nodes
    (Extends-through c.args.nodes.now c.bits_of.new.nodes c.met.new.nodes c.in_ok-entries.ensures.extends
    c.in_ok-required.ensures.extends) c.in_ok-places.ensures.extends in
    record {
      places = subst (All (IsPlaceOf c.places_of.new.nodes)) (sym c.as_slice-6.ensures.value)
          (places-of c.met.new.nodes c.places_of.new.nodes c.args.list.now.words c.as_slice-5.result.now
          c.args.selectors.now c.args.list.now.places c.args.groups.now c.in_ok-places.places.items
          (bits-grown c.args.nodes.now c.places_of.new.nodes c.args.selectors.now up_to c.requires.selectors)
          c.in_ok-places.ensures.places);
    }

pub returns : goal.returns
returns c =
    let roots = c.as_slice.ensures.value ∙ c.in_ok-roots.ensures in
    let closed = subst (λ words. AreClosed words c.in_ok-needed.needed.items) c.as_slice-words.ensures
    c.in_ok-needed.ensures.closed in
    let need = subst (λ ws. are_needed c.in_ok-needed.needed.items ws ≡ true) roots
    c.in_ok-needed.ensures.roots in
    let has = subst (λ words. AreEntries c.args.nodes.now words c.in_ok-needed.needed.items
    c.bits_of.new.nodes
    c.in_ok-entries.entries.items) c.as_slice-words.ensures
    (subst (λ needed. AreEntries c.args.nodes.now c.as_slice-words.result.now needed c.bits_of.new.nodes
    c.in_ok-entries.entries.items) c.as_slice-2.ensures.value c.in_ok-entries.ensures.entries) in
    let held = subst (λ ws. AreHeld c.met.new.nodes c.in_ok-required.required.items
    (λ free. list_all (is_set free c.bits_of.new.nodes c.in_ok-entries.entries.items) ws))
    c.as_slice-4.ensures
    (subst (λ entries. AreHeld c.met.new.nodes c.in_ok-required.required.items
    (λ free. list_all (is_set free c.bits_of.new.nodes entries) c.as_slice-4.result.now))
    c.as_slice-3.ensures.value
    c.in_ok-required.ensures.held) in
    let placed = subst (λ entries. ArePlaces c.met.new.nodes c.args.list.now.words entries
    c.args.selectors.now
    c.places_of.new.nodes c.args.list.now.places c.args.groups.now c.in_ok-places.places.items)
    c.as_slice-5.ensures.value
    c.in_ok-places.ensures.places in
    built-is c.args.list.now c.args.groups.now c.args.selectors.now c.args.nodes.now c.bits_of.new.nodes
    c.met.new.nodes
    c.places_of.new.nodes c.add_kept.new.nodes c.in_ok-needed.needed.items c.in_ok-entries.entries.items
    c.in_ok-required.required.items c.add_kept.new.required.items c.in_ok-places.places.items closed need
    c.in_ok-entries.ensures.extends c.in_ok-required.ensures.extends c.in_ok-places.ensures.extends
    c.in_ok-add_kept.ensures.extends has c.requires.selectors held placed
    (λ value before. subst (λ places. AreHeld c.add_kept.new.nodes c.add_kept.new.required.items
    (λ free. value free && list_all (stays (truth free c.places_of.new.nodes)) places))
    c.as_slice-6.ensures.value
    (c.in_ok-add_kept.ensures.held value before))
