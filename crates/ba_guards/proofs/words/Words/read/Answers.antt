use Rattle.std.proofs.Common.{◌≡◌, ◌<◌, ℕ, true, refl, List, length, arith}
use Rattle.std.proofs.lemmas.Bool.{and_from}
use Rattle.ba_guards.proofs.Sharing.{emits-made}
use Rattle.ba_guards.specs.Making.{elements_in, word_in}
use Rattle.ba_guards.specs.declared.expressions.Expression.TheVariants.{Read}
use Rattle.ba_wordlist.proofs.Lengths.{length-lengths}
use Rattle.ba_wordlist.proofs.Values.{to_name}
use Rattle.ba_wordlist.specs.Facts.{is_name, lengths_of}
use Rattle.ba_wordlist.specs.Meaning.{element_read}
use Rattle.ba_wordlist.specs.declared.words.WordOp.{WordOp}
use Rattle.ba_guards.proofs.words.Words.read.Goals as goal

-- a name by the lengths so far
name : (ws : List WordOp) (w : ℕ) → w < length ws → is_name (length (lengths_of ws)) w ≡ true
name ws w below = to_name (length (lengths_of ws)) w (omega (arith, below, length-lengths ws))

pub returns : goal.returns
returns c = λ fit below_a below_i. emits-made c.args.self.now _ c.in_ok-word.word (Read c.args.array
    c.args.index)
    (λ f. element_read (elements_in c.args.self.now c.args.array f) (word_in c.args.self.now c.args.index
    f)) c.in_ok-word.ensures fit
    (and_from (is_name (length (lengths_of c.args.self.now)) c.args.array) (is_name (length (lengths_of
    c.args.self.now)) c.args.index)
    (name c.args.self.now c.args.array below_a) (name c.args.self.now c.args.index below_i)) (λ f. refl)
