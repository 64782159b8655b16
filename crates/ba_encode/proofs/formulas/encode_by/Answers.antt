use Rattle.std.proofs.Common.{◌≡◌, ℕ, ◌<◌, refl, ◌++◌, ap, arith, drop, length, map, subst, sym, ◌∙◌, All}
use Rattle.std.specs.List.{flat_map}
use Rattle.ba_clauses.specs.Encodings.{reading_by}
use Rattle.ba_encode.proofs.Faithful.{encoded-is, readings-enough, with-long}
use Rattle.ba_encode.proofs.Making.{bits-grown, built-as, drop-read, encoding-as, places-long, read-bits, readable}
use Rattle.ba_encode.specs.Groups.{group_of, groups_of}
use Rattle.ba_encode.specs.Parts.{are_all_long, bits_of, place_by}
use Rattle.ba_encode.specs.Readings.{are_readable}
use Rattle.ba_encode.specs.Selectors.{with_selectors}
use Rattle.ba_nodes.proofs.Truths.{Extends-through}
use Rattle.ba_nodes.specs.Gates.{IsBitOf}
use Rattle.ba_nodes.specs.declared.Bit.{Bit}
use Rattle.ba_encode.proofs.formulas.encode_by.Goals as goal

pub clauses_of-requires-clause-read : goal.clauses_of-requires-clause-read
clauses_of-requires-clause-read c =
    let built = built-as c.args.words.now c.args.grouping.now c.as_slice.result.now
    c.as_slice-places.result.now
    c.in_ok-found.found.items c.as_slice-2.result.now c.in_ok-selectors.selectors.items
    c.as_slice-3.result.now
    c.free_bits.new.nodes c.build.new.nodes c.in_ok-built.built.required.items
    c.in_ok-built.built.places.items
    (c.as_slice.ensures.value ∙ c.in_ok-groups.ensures.groups) c.as_slice-places.ensures c.in_ok-found.ensures
    c.as_slice-2.ensures.value c.as_slice-3.ensures.value c.in_ok-built.ensures in
    let read = c.as_slice-6.ensures.value ∙ c.in_ok-read.ensures
    ∙ (λ i. c.as_slice-4.ensures.value i ++ flat_map bits_of (c.as_slice-places-2.ensures.value i)) in
    let named = λ (k : ℕ) (d : Bit) (within : k < length c.in_ok-selectors.selectors.items).
    (c.in_ok-selectors.ensures.free.each k d within).value.is_bit in
    subst (All (IsBitOf c.build.new.nodes)) (sym read)
    (read-bits built.first c.build.new.nodes c.args.words.now.words built.entries
    c.in_ok-selectors.selectors.items
    built.after built.have_bits.are_cells
    (bits-grown c.free_bits.new.nodes c.build.new.nodes c.in_ok-selectors.selectors.items
    (Extends-through c.free_bits.new.nodes built.first c.build.new.nodes built.before built.after) named)
    c.args.words.now.places (map (group_of c.args.grouping.now (groups_of c.args.grouping.now))
    c.args.words.now.places)
    c.in_ok-built.built.places.items built.are_places)

pub place_readings-requires-clause-long : goal.place_readings-requires-clause-long
place_readings-requires-clause-long c =
    let built = built-as c.args.words.now c.args.grouping.now c.as_slice.result.now
    c.as_slice-places.result.now
    c.in_ok-found.found.items c.as_slice-2.result.now c.in_ok-selectors.selectors.items
    c.as_slice-3.result.now
    c.free_bits.new.nodes c.build.new.nodes c.in_ok-built.built.required.items
    c.in_ok-built.built.places.items
    (c.as_slice.ensures.value ∙ c.in_ok-groups.ensures.groups) c.as_slice-places.ensures c.in_ok-found.ensures
    c.as_slice-2.ensures.value c.as_slice-3.ensures.value c.in_ok-built.ensures in
    ap are_all_long c.as_slice-places-2.ensures.value
    ∙ places-long built.first c.build.new.nodes c.args.words.now.words built.entries
    c.in_ok-selectors.selectors.items
    c.args.words.now.places (map (group_of c.args.grouping.now (groups_of c.args.grouping.now))
    c.args.words.now.places)
    c.in_ok-built.built.places.items built.are_places

pub invariant_of-result : goal.invariant_of-result
invariant_of-result c =
    let built = built-as c.args.words.now c.args.grouping.now c.as_slice.result.now
    c.as_slice-places.result.now
    c.in_ok-found.found.items c.as_slice-2.result.now c.in_ok-selectors.selectors.items
    c.as_slice-3.result.now
    c.free_bits.new.nodes c.build.new.nodes c.in_ok-built.built.required.items
    c.in_ok-built.built.places.items
    (c.as_slice.ensures.value ∙ c.in_ok-groups.ensures.groups) c.as_slice-places.ensures c.in_ok-found.ensures
    c.as_slice-2.ensures.value c.as_slice-3.ensures.value c.in_ok-built.ensures in
    let is = encoding-as c.build.new.nodes c.in_ok-built.built.required.items c.as_slice-5.result.now
    c.in_ok-read.read.items c.as_slice-6.result.now c.in_ok-selectors.selectors.items c.as_slice-4.result.now
    c.in_ok-built.built.places.items c.as_slice-places-2.result.now c.in_ok-encoding.encoding.formula
    c.in_ok-encoding.encoding.readings c.as_slice-5.ensures.value c.as_slice-6.ensures.value
    c.in_ok-read.ensures
    c.as_slice-4.ensures.value c.as_slice-places-2.ensures.value c.in_ok-encoding.ensures in
    let rest : c.split_at.result.1.now
    ≡ map (reading_by is.variable_of) (flat_map bits_of c.as_slice-places-2.result.now) =
    c.split_at.ensures.back ∙ ap (drop c.len-2.result) (c.as_slice-readings.ensures ∙ is.read_by)
    ∙ drop-read (reading_by is.variable_of) c.in_ok-selectors.selectors.items
    (flat_map bits_of c.in_ok-built.built.places.items) c.len-2.result
    (omega (arith, c.in_ok-selectors.ensures.many, c.len.ensures, c.len-2.ensures))
    ∙ ap (λ bs. map (reading_by is.variable_of) (flat_map bits_of bs)) (sym
    c.as_slice-places-2.ensures.value) in
    let placed = c.in_ok-places.ensures (reading_by is.variable_of) rest
    ∙ ap (flat_map (place_by (reading_by is.variable_of))) c.as_slice-places-2.ensures.value in
    let named = c.in_ok-named.ensures ∙ (λ i. with_selectors
    ((c.as_slice-7.ensures.value ∙ c.in_ok-groups.ensures.groups) i) (c.as_slice-readings.ensures i)) in
    let many : length c.in_ok-selectors.selectors.items ≡ length (groups_of c.args.grouping.now) =
    omega (arith, c.in_ok-selectors.ensures.many, c.len.ensures, ap length c.in_ok-groups.ensures.groups) in
    let long = places-long built.first c.build.new.nodes c.args.words.now.words built.entries
    c.in_ok-selectors.selectors.items c.args.words.now.places
    (map (group_of c.args.grouping.now (groups_of c.args.grouping.now)) c.args.words.now.places)
    c.in_ok-built.built.places.items
    built.are_places in
    let size = with-long (groups_of c.args.grouping.now) c.in_ok-encoding.encoding.readings
    (readings-enough c.build.new.nodes c.in_ok-built.built.required.items c.in_ok-selectors.selectors.items
    (flat_map bits_of c.in_ok-built.built.places.items) c.in_ok-encoding.encoding.formula
    c.in_ok-encoding.encoding.readings (length (groups_of c.args.grouping.now)) is (sym many)) in
    record {
      few = omega (
        arith,
        ap length named,
        size,
        ap length c.in_ok-groups.ensures.groups,
        c.in_ok-groups.ensures.few,
      );
      readable = ap (are_readable c.in_ok-encoding.encoding.formula.variables) placed
          ∙ readable c.build.new.nodes c.in_ok-built.built.required.items c.in_ok-selectors.selectors.items
          c.in_ok-built.built.places.items c.in_ok-encoding.encoding.formula
          c.in_ok-encoding.encoding.readings is
          long;
    }

pub returns : goal.returns
returns c =
    let built = built-as c.args.words.now c.args.grouping.now c.as_slice.result.now
    c.as_slice-places.result.now
    c.in_ok-found.found.items c.as_slice-2.result.now c.in_ok-selectors.selectors.items
    c.as_slice-3.result.now
    c.free_bits.new.nodes c.build.new.nodes c.in_ok-built.built.required.items
    c.in_ok-built.built.places.items
    (c.as_slice.ensures.value ∙ c.in_ok-groups.ensures.groups) c.as_slice-places.ensures c.in_ok-found.ensures
    c.as_slice-2.ensures.value c.as_slice-3.ensures.value c.in_ok-built.ensures in
    let is = encoding-as c.build.new.nodes c.in_ok-built.built.required.items c.as_slice-5.result.now
    c.in_ok-read.read.items c.as_slice-6.result.now c.in_ok-selectors.selectors.items c.as_slice-4.result.now
    c.in_ok-built.built.places.items c.as_slice-places-2.result.now c.in_ok-encoding.encoding.formula
    c.in_ok-encoding.encoding.readings c.as_slice-5.ensures.value c.as_slice-6.ensures.value
    c.in_ok-read.ensures
    c.as_slice-4.ensures.value c.as_slice-places-2.ensures.value c.in_ok-encoding.ensures in
    let rest : c.split_at.result.1.now
    ≡ map (reading_by is.variable_of) (flat_map bits_of c.as_slice-places-2.result.now) =
    c.split_at.ensures.back ∙ ap (drop c.len-2.result) (c.as_slice-readings.ensures ∙ is.read_by)
    ∙ drop-read (reading_by is.variable_of) c.in_ok-selectors.selectors.items
    (flat_map bits_of c.in_ok-built.built.places.items) c.len-2.result
    (omega (arith, c.in_ok-selectors.ensures.many, c.len.ensures, c.len-2.ensures))
    ∙ ap (λ bs. map (reading_by is.variable_of) (flat_map bits_of bs)) (sym
    c.as_slice-places-2.ensures.value) in
    let placed = c.in_ok-places.ensures (reading_by is.variable_of) rest
    ∙ ap (flat_map (place_by (reading_by is.variable_of))) c.as_slice-places-2.ensures.value in
    let named = c.in_ok-named.ensures ∙ (λ i. with_selectors
    ((c.as_slice-7.ensures.value ∙ c.in_ok-groups.ensures.groups) i) (c.as_slice-readings.ensures i)) in
    let many : length c.in_ok-selectors.selectors.items ≡ length (groups_of c.args.grouping.now) =
    omega (arith, c.in_ok-selectors.ensures.many, c.len.ensures, ap length c.in_ok-groups.ensures.groups) in
    encoded-is c.args.words.now c.args.grouping.now c.requires c.in_ok-selectors.selectors.items
    c.free_bits.new.nodes c.build.new.nodes c.in_ok-built.built.required.items
    c.in_ok-built.built.places.items
    c.in_ok-encoding.encoding.formula c.in_ok-encoding.encoding.readings c.in_ok-selectors.ensures.free
    many built
    is _ refl named placed
