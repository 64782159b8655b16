use Rattle.std.proofs.Common.{map, length, rules, sym, ap, subst, ◌∙◌, w64, FitsSigned}
use Rattle.std.proofs.lemmas.Int.{to_z-of_z}
use Rattle.ba_bits.specs.Bits.{HasLowBits}
use Rattle.ba_wordlist.specs.Facts.{length_of}
use Rattle.ba_wordlist.specs.declared.words.WordOp.TheVariants.{Fill}
use Rattle.ba_words.proofs.Outcomes.{on_ok}
use Rattle.ba_bits.proofs.Elements.{cells-one}
use Rattle.ba_bits.proofs.EntryWords.{is_open, one-long, spell-binary, spell-const, spell-convert, spell-read, spell-select, spell-unary, spell-fill, spell-flag, spell-free, spell-write, spell-zeros, take-flag, take-free, take-nothing}
use Rattle.ba_bits.proofs.entries.entry.Goals as goal

pub returns-in-Const-clause-cells : goal.returns-in-Const-clause-cells
returns-in-Const-clause-cells c =
    on_ok c.one.result _ _
    (λ words are. cells-one c.args.nodes.now words c.word_of.result are
    (c.word_of.ensures c.args.nodes.now).are_bits)
    c.one.ensures

pub returns-in-Const-clause-spell : goal.returns-in-Const-clause-spell
returns-in-Const-clause-spell c =
    let fits : FitsSigned w64 c.in-Const.value = search rules in
    on_ok c.one.result _ _
    (λ words are. spell-const c.args.nodes.now c.args.nodes.now c.args.entries.now c.args.op.now words
    c.in-Const.value
    c.word_of.result c.in-Const.is are
    (subst (λ z. HasLowBits c.args.nodes.now c.word_of.result (λ free. z))
    (to_z-of_z w64 c.in-Const.value fits)
    (c.word_of.ensures c.args.nodes.now)))
    c.one.ensures

pub returns-in-Const-clause-take : goal.returns-in-Const-clause-take
returns-in-Const-clause-take c =
    on_ok c.one.result _ _ (λ words are. take-nothing c.args.nodes.now c.args.nodes.now c.args.op.now words
    (ap is_open c.in-Const.is)) c.one.ensures

pub returns-in_ok-free_word-in-Free-clause-spell : goal.returns-in_ok-free_word-in-Free-clause-spell
returns-in_ok-free_word-in-Free-clause-spell c =
    on_ok c.one-in-Free.result _ _
    (λ words are. spell-free c.args.nodes.now c.free_word.new.nodes c.args.entries.now c.args.op.now words
    c.in_ok-free_word-in-Free.field-0
    c.in-Free.is are c.in_ok-free_word-in-Free.ensures.bits.0)
    c.one-in-Free.ensures

pub returns-in_ok-free_word-in-Free-clause-take : goal.returns-in_ok-free_word-in-Free-clause-take
returns-in_ok-free_word-in-Free-clause-take c =
    on_ok c.one-in-Free.result _ _
    (λ words are. take-free c.args.nodes.now c.free_word.new.nodes c.args.op.now
    c.in_ok-free_word-in-Free.field-0 words c.in-Free.is are
    c.in_ok-free_word-in-Free.ensures.any)
    c.one-in-Free.ensures

pub returns-in_ok-free-in-Flag-clause-spell : goal.returns-in_ok-free-in-Flag-clause-spell
returns-in_ok-free-in-Flag-clause-spell c =
    on_ok c.one-in-Flag.result _ _
    (λ words are. spell-flag c.args.nodes.now c.free.new.self c.args.entries.now c.args.op.now words
    c.truth_word.result
    c.in_ok-free-in-Flag.field-0 c.in-Flag.is are
    (c.truth_word.ensures c.free.new.self c.in_ok-free-in-Flag.ensures.value.is_bit))
    c.one-in-Flag.ensures

pub returns-in_ok-free-in-Flag-clause-take : goal.returns-in_ok-free-in-Flag-clause-take
returns-in_ok-free-in-Flag-clause-take c =
    on_ok c.one-in-Flag.result _ _
    (λ words are. take-flag c.args.nodes.now c.free.new.self c.args.op.now c.truth_word.result
    c.in_ok-free-in-Flag.field-0 words
    c.in-Flag.is are c.in_ok-free-in-Flag.ensures.value
    (c.truth_word.ensures c.free.new.self c.in_ok-free-in-Flag.ensures.value.is_bit))
    c.one-in-Flag.ensures

pub returns-in_ok-word-in-Unary-clause-take : goal.returns-in_ok-word-in-Unary-clause-take
returns-in_ok-word-in-Unary-clause-take c =
    on_ok c.one-in-Unary.result _ _
    (λ words are. take-nothing c.args.nodes.now c.unary.new.nodes c.args.op.now words
    (ap is_open c.in-Unary.is)) c.one-in-Unary.ensures

pub returns-in_ok-word-in-Binary-clause-spell : goal.returns-in_ok-word-in-Binary-clause-spell
returns-in_ok-word-in-Binary-clause-spell c =
    on_ok c.one-in-Binary.result _ _
    (λ words are. spell-binary c.args.nodes.now c.binary.new.nodes c.args.entries.now c.args.op.now words
    c.in-Binary.op c.in-Binary.t c.in-Binary.a c.in-Binary.b c.first_word-first.result.now
    c.first_word-in-Binary.result.now
    c.in_ok-word-in-Binary.word c.in-Binary.is c.first_word-first.ensures c.first_word-in-Binary.ensures are
    c.in_ok-word-in-Binary.ensures.value)
    c.one-in-Binary.ensures

pub returns-in_ok-word-in-Binary-clause-take : goal.returns-in_ok-word-in-Binary-clause-take
returns-in_ok-word-in-Binary-clause-take c =
    on_ok c.one-in-Binary.result _ _
    (λ words are. take-nothing c.args.nodes.now c.binary.new.nodes c.args.op.now words
    (ap is_open c.in-Binary.is)) c.one-in-Binary.ensures

pub returns-in-Convert-clause-take : goal.returns-in-Convert-clause-take
returns-in-Convert-clause-take c =
    on_ok c.one-in-Convert.result _ _
    (λ words are. take-nothing c.args.nodes.now c.args.nodes.now c.args.op.now words
    (ap is_open c.in-Convert.is)) c.one-in-Convert.ensures

pub returns-in_ok-word-in-Select-clause-take : goal.returns-in_ok-word-in-Select-clause-take
returns-in_ok-word-in-Select-clause-take c =
    on_ok c.one-in-Select.result _ _
    (λ words are. take-nothing c.args.nodes.now c.choose.new.nodes c.args.op.now words
    (ap is_open c.in-Select.is)) c.one-in-Select.ensures

pub returns-in_ok-word-in-Read-clause-take : goal.returns-in_ok-word-in-Read-clause-take
returns-in_ok-word-in-Read-clause-take c =
    on_ok c.one-in-Read.result _ _
    (λ words are. take-nothing c.args.nodes.now c.read.new.nodes c.args.op.now words
    (ap is_open c.in-Read.is)) c.one-in-Read.ensures

pub returns-in-Zeros-clause-spell : goal.returns-in-Zeros-clause-spell
returns-in-Zeros-clause-spell c =
    on_ok c.zeros.result _ _
    (λ words zeros. spell-zeros c.args.nodes.now c.args.nodes.now c.args.entries.now c.args.op.now words
    c.in-Zeros.count
    c.in-Zeros.is (zeros c.args.nodes.now))
    c.zeros.ensures.numbers

pub returns-in-Zeros-clause-take : goal.returns-in-Zeros-clause-take
returns-in-Zeros-clause-take c =
    on_ok c.zeros.result _ _
    (λ words long. take-nothing c.args.nodes.now c.args.nodes.now c.args.op.now words
    (ap is_open c.in-Zeros.is)) c.zeros.ensures.length

pub returns-in-Fill-clause-spell : goal.returns-in-Fill-clause-spell
returns-in-Fill-clause-spell c =
    on_ok c.fill.result _ _
    (λ words filled. spell-fill c.args.nodes.now c.fill.new.nodes c.args.entries.now c.args.op.now words
    c.in-Fill.of c.as_slice.result.now c.in-Fill.when c.all_words-array.result.now
    c.first_word-when.result.now
    (c.in-Fill.is ∙ ap (λ values. Fill c.in-Fill.of values c.in-Fill.when) (sym c.as_slice.ensures))
    c.all_words-array.ensures.words c.first_word-when.ensures filled)
    c.fill.ensures.numbers

pub returns-in-Fill-clause-take : goal.returns-in-Fill-clause-take
returns-in-Fill-clause-take c =
    on_ok c.fill.result _ _
    (λ words long. take-nothing c.args.nodes.now c.fill.new.nodes c.args.op.now words
    (ap is_open c.in-Fill.is)) c.fill.ensures.length

pub returns-in-Write-clause-spell : goal.returns-in-Write-clause-spell
returns-in-Write-clause-spell c =
    on_ok c.write.result _ _
    (λ words written. spell-write c.args.nodes.now c.write.new.nodes c.args.entries.now c.args.op.now words
    c.in-Write.of c.in-Write.index c.in-Write.value c.in-Write.when c.all_words-in-Write.result.now
    c.first_word-index-in-Write.result.now c.first_word-value.result.now c.first_word-when-in-Write.result.now
    c.in-Write.is c.all_words-in-Write.ensures.words c.first_word-index-in-Write.ensures
    c.first_word-value.ensures
    c.first_word-when-in-Write.ensures written)
    c.write.ensures.numbers

pub returns-in-Write-clause-take : goal.returns-in-Write-clause-take
returns-in-Write-clause-take c =
    on_ok c.write.result _ _
    (λ words long. take-nothing c.args.nodes.now c.write.new.nodes c.args.op.now words
    (ap is_open c.in-Write.is)) c.write.ensures.length

pub returns-in_ok-word-in-Unary-clause-cells : goal.returns-in_ok-word-in-Unary-clause-cells
returns-in_ok-word-in-Unary-clause-cells c =
    on_ok c.one-in-Unary.result _ _
    (λ words are. cells-one c.unary.new.nodes words c.in_ok-word-in-Unary.word are
    c.in_ok-word-in-Unary.ensures.value.are_bits)
    c.one-in-Unary.ensures

pub returns-in_ok-word-in-Unary-clause-length : goal.returns-in_ok-word-in-Unary-clause-length
returns-in_ok-word-in-Unary-clause-length c =
    on_ok c.one-in-Unary.result _ _
    (λ words are. one-long (map length c.args.entries.now) c.args.op.now words c.in_ok-word-in-Unary.word are
    (ap (length_of (map length c.args.entries.now)) c.in-Unary.is))
    c.one-in-Unary.ensures

pub returns-in_ok-word-in-Binary-clause-cells : goal.returns-in_ok-word-in-Binary-clause-cells
returns-in_ok-word-in-Binary-clause-cells c =
    on_ok c.one-in-Binary.result _ _
    (λ words are. cells-one c.binary.new.nodes words c.in_ok-word-in-Binary.word are
    c.in_ok-word-in-Binary.ensures.value.are_bits)
    c.one-in-Binary.ensures

pub returns-in_ok-word-in-Binary-clause-length : goal.returns-in_ok-word-in-Binary-clause-length
returns-in_ok-word-in-Binary-clause-length c =
    on_ok c.one-in-Binary.result _ _
    (λ words are. one-long (map length c.args.entries.now) c.args.op.now words c.in_ok-word-in-Binary.word are
    (ap (length_of (map length c.args.entries.now)) c.in-Binary.is))
    c.one-in-Binary.ensures

pub returns-in-Convert-clause-cells : goal.returns-in-Convert-clause-cells
returns-in-Convert-clause-cells c =
    on_ok c.one-in-Convert.result _ _
    (λ words are. cells-one c.args.nodes.now words c.convert-word.result are
    c.convert-word.ensures.are_bits)
    c.one-in-Convert.ensures

pub returns-in-Convert-clause-length : goal.returns-in-Convert-clause-length
returns-in-Convert-clause-length c =
    on_ok c.one-in-Convert.result _ _
    (λ words are. one-long (map length c.args.entries.now) c.args.op.now words c.convert-word.result are
    (ap (length_of (map length c.args.entries.now)) c.in-Convert.is))
    c.one-in-Convert.ensures

pub returns-in_ok-word-in-Select-clause-cells : goal.returns-in_ok-word-in-Select-clause-cells
returns-in_ok-word-in-Select-clause-cells c =
    on_ok c.one-in-Select.result _ _
    (λ words are. cells-one c.choose.new.nodes words c.in_ok-word-in-Select.word are
    c.in_ok-word-in-Select.ensures.value.are_bits)
    c.one-in-Select.ensures

pub returns-in_ok-word-in-Select-clause-length : goal.returns-in_ok-word-in-Select-clause-length
returns-in_ok-word-in-Select-clause-length c =
    on_ok c.one-in-Select.result _ _
    (λ words are. one-long (map length c.args.entries.now) c.args.op.now words c.in_ok-word-in-Select.word are
    (ap (length_of (map length c.args.entries.now)) c.in-Select.is))
    c.one-in-Select.ensures

pub returns-in_ok-word-in-Read-clause-cells : goal.returns-in_ok-word-in-Read-clause-cells
returns-in_ok-word-in-Read-clause-cells c =
    on_ok c.one-in-Read.result _ _
    (λ words are. cells-one c.read.new.nodes words c.in_ok-word-in-Read.word are
    c.in_ok-word-in-Read.ensures.value.are_bits)
    c.one-in-Read.ensures

pub returns-in_ok-word-in-Read-clause-length : goal.returns-in_ok-word-in-Read-clause-length
returns-in_ok-word-in-Read-clause-length c =
    on_ok c.one-in-Read.result _ _
    (λ words are. one-long (map length c.args.entries.now) c.args.op.now words c.in_ok-word-in-Read.word are
    (ap (length_of (map length c.args.entries.now)) c.in-Read.is))
    c.one-in-Read.ensures

pub returns-in_ok-free-in-Flag-clause-cells : goal.returns-in_ok-free-in-Flag-clause-cells
returns-in_ok-free-in-Flag-clause-cells c =
    on_ok c.one-in-Flag.result _ _
    (λ words are. cells-one c.free.new.self words c.truth_word.result are
    (c.truth_word.ensures c.free.new.self c.in_ok-free-in-Flag.ensures.value.is_bit).are_bits)
    c.one-in-Flag.ensures

pub returns-in_ok-free-in-Flag-clause-length : goal.returns-in_ok-free-in-Flag-clause-length
returns-in_ok-free-in-Flag-clause-length c =
    on_ok c.one-in-Flag.result _ _
    (λ words are. one-long (map length c.args.entries.now) c.args.op.now words c.truth_word.result are
    (ap (length_of (map length c.args.entries.now)) c.in-Flag.is))
    c.one-in-Flag.ensures

pub returns-in_ok-free_word-in-Free-clause-length : goal.returns-in_ok-free_word-in-Free-clause-length
returns-in_ok-free_word-in-Free-clause-length c =
    on_ok c.one-in-Free.result _ _
    (λ words are. one-long (map length c.args.entries.now) c.args.op.now words
    c.in_ok-free_word-in-Free.field-0 are
    (ap (length_of (map length c.args.entries.now)) c.in-Free.is))
    c.one-in-Free.ensures

pub returns-in_ok-word-in-Unary-clause-spell : goal.returns-in_ok-word-in-Unary-clause-spell
returns-in_ok-word-in-Unary-clause-spell c =
    on_ok c.one-in-Unary.result _ _
    (λ words are. spell-unary c.args.nodes.now c.unary.new.nodes c.args.entries.now c.args.op.now words
    c.in-Unary.op c.in-Unary.t c.in-Unary.a c.first_word.result.now c.in_ok-word-in-Unary.word c.in-Unary.is
    c.first_word.ensures are c.in_ok-word-in-Unary.ensures.value)
    c.one-in-Unary.ensures

pub returns-in-Convert-clause-spell : goal.returns-in-Convert-clause-spell
returns-in-Convert-clause-spell c =
    on_ok c.one-in-Convert.result _ _
    (λ words are. spell-convert c.args.nodes.now c.args.nodes.now c.args.entries.now c.args.op.now words
    c.in-Convert.t c.in-Convert.a c.first_word-in-Convert.result.now c.convert-word.result c.in-Convert.is
    c.first_word-in-Convert.ensures are c.convert-word.ensures)
    c.one-in-Convert.ensures

pub returns-in_ok-word-in-Select-clause-spell : goal.returns-in_ok-word-in-Select-clause-spell
returns-in_ok-word-in-Select-clause-spell c =
    on_ok c.one-in-Select.result _ _
    (λ words are. spell-select c.args.nodes.now c.choose.new.nodes c.args.entries.now c.args.op.now words
    c.in-Select.which c.in-Select.yes c.in-Select.no c.first_word-chooser.result.now
    c.first_word-first-in-Select.result.now c.first_word-in-Select.result.now c.in_ok-word-in-Select.word
    c.in-Select.is c.first_word-chooser.ensures c.first_word-first-in-Select.ensures
    c.first_word-in-Select.ensures are c.in_ok-word-in-Select.ensures.value)
    c.one-in-Select.ensures

pub returns-in_ok-word-in-Read-clause-spell : goal.returns-in_ok-word-in-Read-clause-spell
returns-in_ok-word-in-Read-clause-spell c =
    on_ok c.one-in-Read.result _ _
    (λ words are. spell-read c.args.nodes.now c.read.new.nodes c.args.entries.now c.args.op.now words
    c.in-Read.array c.in-Read.index c.all_words.result.now c.first_word-index.result.now
    c.in_ok-word-in-Read.word c.in-Read.is c.all_words.ensures.words c.first_word-index.ensures are
    c.in_ok-word-in-Read.ensures.value)
    c.one-in-Read.ensures
