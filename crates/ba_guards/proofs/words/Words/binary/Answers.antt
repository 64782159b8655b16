use Rattle.std.proofs.Common.{SFits, w64, to_z-of_z, subst, rules, ◌≡◌, ◌<◌, ◌&&◌, ℕ, true, refl, List, length, arith}
use Rattle.std.proofs.lemmas.Bool.{and_from}
use Rattle.ba_guards.proofs.Sharing.{emits-made}
use Rattle.ba_guards.proofs.Folding.{binary-folded}
use Rattle.ba_guards.specs.Making.{Emits, word_in}
use Rattle.ba_guards.specs.declared.expressions.Expression.TheVariants.{Binary}
use Rattle.ba_numbers.specs.Types.{is_promoted}
use Rattle.ba_wordlist.proofs.Lengths.{length-lengths}
use Rattle.ba_wordlist.proofs.Values.{to_name}
use Rattle.ba_wordlist.specs.Facts.{are_words, is_name, is_word_value, lengths_of}
use Rattle.ba_wordlist.specs.Meaning.{binary_value}
use Rattle.ba_wordlist.specs.declared.words.WordOp.{WordOp}
use Rattle.ba_guards.proofs.words.Words.binary.Goals as goal

-- a name by the lengths so far
name : (ws : List WordOp) (w : ℕ) → w < length ws → is_name (length (lengths_of ws)) w ≡ true
name ws w below = to_name (length (lengths_of ws)) w (omega (arith, below, length-lengths ws))

pub returns-in_ok-word-in-Some : goal.returns-in_ok-word-in-Some
returns-in_ok-word-in-Some c = λ fit promoted below_a below_b.
    let fits : SFits w64 c.in-Some.value = search rules in
    binary-folded c.args.self.now _ c.in_ok-word-in-Some.word c.args.a c.args.b
    c.args.op c.args.t c.in-Some.value fit c.in-Some.ensures
    (subst (λ v. are_words c.args.self.now ≡ true → is_word_value v ≡ true
    → Emits c.args.self.now c.constant.new.self c.in_ok-word-in-Some.word (λ f. v)) (to_z-of_z fits)
    c.in_ok-word-in-Some.ensures)

pub returns-in_ok-word-in-None : goal.returns-in_ok-word-in-None
returns-in_ok-word-in-None c = λ fit promoted below_a below_b. emits-made c.args.self.now _
    c.in_ok-word-in-None.word
    (Binary c.args.op c.args.t c.args.a c.args.b)
    (λ f. binary_value c.args.op c.args.t (word_in c.args.self.now c.args.a f) (word_in c.args.self.now
    c.args.b f))
    c.in_ok-word-in-None.ensures fit
    (and_from (is_promoted c.args.t && is_name (length (lengths_of c.args.self.now)) c.args.a)
    (is_name (length (lengths_of c.args.self.now)) c.args.b)
    (and_from (is_promoted c.args.t) (is_name (length (lengths_of c.args.self.now)) c.args.a) promoted
    (name c.args.self.now c.args.a below_a))
    (name c.args.self.now c.args.b below_b))
    (λ f. refl)
