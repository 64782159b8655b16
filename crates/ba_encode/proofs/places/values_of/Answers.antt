use Rattle.std.proofs.Common.{◌≡◌, ◌<◌, length, get_or, ap, ◌∙◌, arith}
use Rattle.std.proofs.lemmas.List.{get_or_read}
use Rattle.ba_bits.specs.Bits.{word_at}
use Rattle.ba_bits.proofs.Elements.{named-first}
use Rattle.ba_encode.proofs.Spots.{long-more, map-more, name-at}
use Rattle.ba_encode.specs.Parts.{is_signed, value_bits}
use Rattle.ba_wordlist.specs.declared.words.WordOp.TheVariants.{Free}
use Rattle.ba_encode.proofs.places.values_of.Goals as goal

pub loop-number-preserved : goal.loop-number-preserved
loop-number-preserved c =
    let w = get_or c.args.values.now c.loop-number.number-index 0 in
    let below : w < length c.args.words.now =
    name-at (length c.args.words.now) c.args.values.now c.loop-number.number-index c.loop-number-test.true
    c.requires.names in
    let inside : w < length c.args.entries.now = omega (arith, c.requires.many) in
    let signed : c.is_signed.result ≡ is_signed (get_or c.args.words.now w Free) =
    c.is_signed.ensures ∙ ap is_signed (get_or_read c.args.words.now w c.index-words-number.result below
    c.index-words-number.is Free) in
    let word : c.first-word.result.now ≡ word_at c.args.entries.now w =
    named-first c.args.entries.now w c.index-entries-number.result c.first-word.result.now inside
    c.index-entries-number.is c.first-word.ensures in
    record {
      values = c.in_ok-push.ensures.ok
          ∙ map-more (value_bits c.args.words.now c.args.entries.now) c.args.values.now
          c.loop-number.number-index 0
          c.loop-number.bits record { signed = c.is_signed.result; bits = c.in_ok-bits_of_word.field-0 }
          c.loop-number-test.true c.loop-number.invariant.values
          (λ i. record { signed = signed i; bits = (c.in_ok-bits_of_word.ensures.bits ∙ word) i });
      long = long-more c.loop-number.bits c.push.new.self
          record { signed = c.is_signed.result; bits = c.in_ok-bits_of_word.field-0 } c.in_ok-push.ensures.ok
          c.loop-number.invariant.long c.in_ok-bits_of_word.ensures.long;
    }
