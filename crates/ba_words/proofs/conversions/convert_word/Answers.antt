use Rattle.std.proofs.Common.{true, false, pos, sym, ap, ◌∙◌}
use Rattle.ba_numbers.specs.Numbers.{converted, low_word}
use Rattle.ba_words.specs.Words.{number_of}
use Rattle.ba_words.proofs.Circuits.{number_small}
use Rattle.ba_words.proofs.Values.{low_word-read}
use Rattle.ba_words.proofs.Narrow.{signed_8, signed_16, unsigned_8, unsigned_16, converted_value}
use Rattle.ba_words.proofs.conversions.convert_word.Goals as goal

pub returns-in-I8-clause-number : goal.returns-in-I8-clause-number
returns-in-I8-clause-number c nodes free =
    signed_8 free nodes c.extended.result c.args.a.now c.extended.ensures.long c.told-a c.extended.ensures.places ∙ ap (λ t. low_word (converted t (pos (number_of free nodes c.args.a.now)))) (sym c.in-I8.is)

pub returns-in-I8-clause-value : goal.returns-in-I8-clause-value
returns-in-I8-clause-value c nodes source target free =
    converted_value c.args.t source target (number_of free nodes c.args.a.now) (number_of free nodes c.extended.result)
    (signed_8 free nodes c.extended.result c.args.a.now c.extended.ensures.long c.told-a c.extended.ensures.places ∙ ap (λ t. low_word (converted t (pos (number_of free nodes c.args.a.now)))) (sym c.in-I8.is))

pub returns-in-U8-clause-number : goal.returns-in-U8-clause-number
returns-in-U8-clause-number c nodes free =
    unsigned_8 free nodes c.extended-in-U8.result c.args.a.now c.constant.result ((c.constant.ensures.value nodes).holds free) c.extended-in-U8.ensures.long c.told-a c.extended-in-U8.ensures.places ∙ ap (λ t. low_word (converted t (pos (number_of free nodes c.args.a.now)))) (sym c.in-U8.is)

pub returns-in-U8-clause-value : goal.returns-in-U8-clause-value
returns-in-U8-clause-value c nodes source target free =
    converted_value c.args.t source target (number_of free nodes c.args.a.now) (number_of free nodes c.extended-in-U8.result)
    (unsigned_8 free nodes c.extended-in-U8.result c.args.a.now c.constant.result ((c.constant.ensures.value nodes).holds free) c.extended-in-U8.ensures.long c.told-a c.extended-in-U8.ensures.places ∙ ap (λ t. low_word (converted t (pos (number_of free nodes c.args.a.now)))) (sym c.in-U8.is))

pub returns-in-I16-clause-number : goal.returns-in-I16-clause-number
returns-in-I16-clause-number c nodes free =
    signed_16 free nodes c.extended-in-I16.result c.args.a.now c.extended-in-I16.ensures.long c.told-a c.extended-in-I16.ensures.places ∙ ap (λ t. low_word (converted t (pos (number_of free nodes c.args.a.now)))) (sym c.in-I16.is)

pub returns-in-I16-clause-value : goal.returns-in-I16-clause-value
returns-in-I16-clause-value c nodes source target free =
    converted_value c.args.t source target (number_of free nodes c.args.a.now) (number_of free nodes c.extended-in-I16.result)
    (signed_16 free nodes c.extended-in-I16.result c.args.a.now c.extended-in-I16.ensures.long c.told-a c.extended-in-I16.ensures.places ∙ ap (λ t. low_word (converted t (pos (number_of free nodes c.args.a.now)))) (sym c.in-I16.is))

pub returns-in-U16-clause-number : goal.returns-in-U16-clause-number
returns-in-U16-clause-number c nodes free =
    unsigned_16 free nodes c.extended-in-U16.result c.args.a.now c.constant-in-U16.result ((c.constant-in-U16.ensures.value nodes).holds free) c.extended-in-U16.ensures.long c.told-a c.extended-in-U16.ensures.places ∙ ap (λ t. low_word (converted t (pos (number_of free nodes c.args.a.now)))) (sym c.in-U16.is)

pub returns-in-U16-clause-value : goal.returns-in-U16-clause-value
returns-in-U16-clause-value c nodes source target free =
    converted_value c.args.t source target (number_of free nodes c.args.a.now) (number_of free nodes c.extended-in-U16.result)
    (unsigned_16 free nodes c.extended-in-U16.result c.args.a.now c.constant-in-U16.result ((c.constant-in-U16.ensures.value nodes).holds free) c.extended-in-U16.ensures.long c.told-a c.extended-in-U16.ensures.places ∙ ap (λ t. low_word (converted t (pos (number_of free nodes c.args.a.now)))) (sym c.in-U16.is))

pub returns-in-I32-clause-number : goal.returns-in-I32-clause-number
returns-in-I32-clause-number c nodes free =
    sym (low_word-read true (number_of free nodes c.args.a.now) (number_small free nodes c.args.a.now c.told-a)) ∙ ap (λ t. low_word (converted t (pos (number_of free nodes c.args.a.now)))) (sym c.in-I32.is)

pub returns-in-I32-clause-value : goal.returns-in-I32-clause-value
returns-in-I32-clause-value c nodes source target free =
    converted_value c.args.t source target (number_of free nodes c.args.a.now) (number_of free nodes c.args.a.now)
    (sym (low_word-read true (number_of free nodes c.args.a.now) (number_small free nodes c.args.a.now c.told-a)) ∙ ap (λ t. low_word (converted t (pos (number_of free nodes c.args.a.now)))) (sym c.in-I32.is))

pub returns-in-U32-clause-number : goal.returns-in-U32-clause-number
returns-in-U32-clause-number c nodes free =
    sym (low_word-read false (number_of free nodes c.args.a.now) (number_small free nodes c.args.a.now c.told-a)) ∙ ap (λ t. low_word (converted t (pos (number_of free nodes c.args.a.now)))) (sym c.in-U32.is)

pub returns-in-U32-clause-value : goal.returns-in-U32-clause-value
returns-in-U32-clause-value c nodes source target free =
    converted_value c.args.t source target (number_of free nodes c.args.a.now) (number_of free nodes c.args.a.now)
    (sym (low_word-read false (number_of free nodes c.args.a.now) (number_small free nodes c.args.a.now c.told-a)) ∙ ap (λ t. low_word (converted t (pos (number_of free nodes c.args.a.now)))) (sym c.in-U32.is))
