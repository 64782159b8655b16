use Rattle.std.proofs.Common.{SFits, w64, to_z-of_z, rules, ◌≡◌, ◌<◌, ◌&&◌, ℕ, true, cond, refl, ◌∙◌, ap, List, length, arith}
use Rattle.std.proofs.lemmas.Bool.{and_from}
use Rattle.ba_guards.proofs.Sharing.{emits-made}
use Rattle.ba_guards.proofs.Folding.{select-constant}
use Rattle.ba_guards.specs.Making.{word_in}
use Rattle.ba_guards.specs.declared.expressions.Expression.TheVariants.{Select}
use Rattle.ba_wordlist.proofs.Lengths.{length-lengths}
use Rattle.ba_wordlist.proofs.Values.{to_name}
use Rattle.ba_wordlist.specs.Facts.{is_name, lengths_of}
use Rattle.ba_wordlist.specs.Meaning.{is_nonzero}
use Rattle.ba_wordlist.specs.declared.words.WordOp.{WordOp}
use Rattle.ba_guards.proofs.words.Words.select.Goals as goal

-- a name by the lengths so far
name : (ws : List WordOp) (w : ℕ) → w < length ws → is_name (length (lengths_of ws)) w ≡ true
name ws w below = to_name (length (lengths_of ws)) w (omega (arith, below, length-lengths ws))

pub returns-in-Some : goal.returns-in-Some
returns-in-Some c = λ fit below_c below_y below_n.
    let fits : SFits w64 c.in-Some.value = search rules in
    select-constant c.args.self.now c.args.which c.args.yes c.args.no c.chosen.result c.in-Some.value fit
    c.in-Some.ensures
    (c.chosen.ensures ∙ ap (λ z. cond (is_nonzero z) c.args.yes c.args.no) (to_z-of_z fits)) below_y below_n

pub returns-in_ok-word-in-None : goal.returns-in_ok-word-in-None
returns-in_ok-word-in-None c = λ fit below_c below_y below_n. emits-made c.args.self.now _
    c.in_ok-word-in-None.word
    (Select c.args.which c.args.yes c.args.no)
    (λ f. cond (is_nonzero (word_in c.args.self.now c.args.which f)) (word_in c.args.self.now c.args.yes f)
    (word_in c.args.self.now c.args.no f))
    c.in_ok-word-in-None.ensures fit
    (and_from (is_name (length (lengths_of c.args.self.now)) c.args.which && is_name (length (lengths_of
    c.args.self.now)) c.args.yes)
    (is_name (length (lengths_of c.args.self.now)) c.args.no)
    (and_from (is_name (length (lengths_of c.args.self.now)) c.args.which) (is_name (length (lengths_of
    c.args.self.now)) c.args.yes)
    (name c.args.self.now c.args.which below_c) (name c.args.self.now c.args.yes below_y)) (name
    c.args.self.now c.args.no below_n))
    (λ f. refl)
