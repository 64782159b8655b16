use Rattle.std.proofs.Common.{◌≡◌, ◌<◌, ◌&&◌, ℕ, true, cond, refl, List, length, arith}
use Rattle.std.proofs.lemmas.Bool.{and_from}
use Rattle.std.specs.Prelude.{slice_set}
use Rattle.ba_guards.proofs.Emitting.{array-push}
use Rattle.ba_guards.specs.Making.{elements_in, word_in}
use Rattle.ba_numbers.specs.Numbers.{low_word}
use Rattle.ba_wordlist.proofs.Lengths.{length-lengths}
use Rattle.ba_wordlist.proofs.Values.{to_name}
use Rattle.ba_wordlist.specs.Facts.{is_name, lengths_of}
use Rattle.ba_wordlist.specs.Meaning.{is_nonzero}
use Rattle.ba_wordlist.specs.declared.words.WordOp.TheVariants.{Write}
use Rattle.ba_wordlist.specs.declared.words.WordOp.{WordOp}
use Rattle.ba_guards.proofs.words.Words.write.Goals as goal

-- a name by the lengths so far
name : (ws : List WordOp) (w : ℕ) → w < length ws → is_name (length (lengths_of ws)) w ≡ true
name ws w below = to_name (length (lengths_of ws)) w (omega (arith, below, length-lengths ws))

pub returns : goal.returns
returns c = λ count fit below long below_i below_v below_w. array-push c.args.self.now _ c.in_ok-word.word
    count
    (Write c.args.of c.args.index c.args.value c.args.when)
    (λ f. cond (is_nonzero (word_in c.args.self.now c.args.when f))
    (slice_set (elements_in c.args.self.now c.args.of f) (low_word (word_in c.args.self.now c.args.index f))
    (word_in c.args.self.now c.args.value f)) (elements_in c.args.self.now c.args.of f))
    c.in_ok-word.ensures.name c.in_ok-word.ensures.words fit
    (and_from (is_name (length (lengths_of c.args.self.now)) c.args.of && is_name (length (lengths_of
    c.args.self.now)) c.args.index
    && is_name (length (lengths_of c.args.self.now)) c.args.value) (is_name (length (lengths_of
    c.args.self.now)) c.args.when)
    (and_from (is_name (length (lengths_of c.args.self.now)) c.args.of && is_name (length (lengths_of
    c.args.self.now)) c.args.index)
    (is_name (length (lengths_of c.args.self.now)) c.args.value)
    (and_from (is_name (length (lengths_of c.args.self.now)) c.args.of) (is_name (length (lengths_of
    c.args.self.now)) c.args.index)
    (name c.args.self.now c.args.of below) (name c.args.self.now c.args.index below_i))
    (name c.args.self.now c.args.value below_v)) (name c.args.self.now c.args.when below_w))
    long (λ f. refl)
