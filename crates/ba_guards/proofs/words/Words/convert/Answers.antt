use Rattle.std.proofs.Common.{SFits, w64, to_z-of_z, subst, rules, ◌≡◌, ◌<◌, ℕ, true, refl, ◌∙◌, ap, List, length, arith}
use Rattle.ba_guards.proofs.Sharing.{emits-made}
use Rattle.ba_guards.proofs.Folding.{convert-folded}
use Rattle.ba_guards.specs.Making.{Emits, word_in}
use Rattle.ba_guards.specs.declared.expressions.Expression.TheVariants.{Convert}
use Rattle.ba_numbers.specs.Numbers.{converted}
use Rattle.ba_wordlist.proofs.Lengths.{length-lengths}
use Rattle.ba_wordlist.proofs.Values.{to_name}
use Rattle.ba_wordlist.specs.Facts.{are_words, is_name, is_word_value, lengths_of}
use Rattle.ba_wordlist.specs.declared.words.WordOp.{WordOp}
use Rattle.ba_guards.proofs.words.Words.convert.Goals as goal

-- a name by the lengths so far
name : (ws : List WordOp) (w : ℕ) → w < length ws → is_name (length (lengths_of ws)) w ≡ true
name ws w below = to_name (length (lengths_of ws)) w (omega (arith, below, length-lengths ws))

pub returns-in_ok-word-in-Some : goal.returns-in_ok-word-in-Some
returns-in_ok-word-in-Some c = λ fit below.
    let fits : SFits w64 c.in-Some.value = search rules in
    let fits_converted : SFits w64 c.convert.result = search rules in
    convert-folded c.args.self.now _ c.in_ok-word-in-Some.word c.args.a c.args.t
    c.in-Some.value c.convert.result fit c.in-Some.ensures (c.convert.ensures.value ∙ ap (converted
    c.args.t) (to_z-of_z fits))
    c.convert.ensures.in_range
    (subst (λ v. are_words c.args.self.now ≡ true → is_word_value v ≡ true
    → Emits c.args.self.now c.constant.new.self c.in_ok-word-in-Some.word (λ f. v)) (to_z-of_z
    fits_converted) c.in_ok-word-in-Some.ensures)

pub returns-in_ok-word-in-None : goal.returns-in_ok-word-in-None
returns-in_ok-word-in-None c = λ fit below. emits-made c.args.self.now _ c.in_ok-word-in-None.word (Convert
    c.args.t c.args.a)
    (λ f. converted c.args.t (word_in c.args.self.now c.args.a f)) c.in_ok-word-in-None.ensures fit
    (name c.args.self.now c.args.a below) (λ f. refl)
