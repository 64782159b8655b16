use Rattle.std.proofs.Common.{◌≡◌, ◌<◌, ◌&&◌, ◌==◌, ℕ, true, cond, refl, sym, ◌∙◌, ap, List, length, map, get_or, arith}
use Rattle.std.proofs.lemmas.Bool.{and_from, eq-eqb}
use Rattle.ba_guards.proofs.Emitting.{array-push}
use Rattle.ba_guards.specs.Making.{elements_in, word_in}
use Rattle.ba_wordlist.proofs.Lengths.{length-lengths}
use Rattle.ba_wordlist.proofs.Values.{to_name}
use Rattle.ba_wordlist.specs.Facts.{are_names, is_name, lengths_of}
use Rattle.ba_wordlist.specs.Meaning.{is_nonzero}
use Rattle.ba_wordlist.specs.declared.words.WordOp.TheVariants.{Fill}
use Rattle.ba_wordlist.specs.declared.words.WordOp.{WordOp}
use Rattle.ba_guards.proofs.words.Words.fill.Goals as goal

-- a name by the lengths so far
name : (ws : List WordOp) (w : ℕ) → w < length ws → is_name (length (lengths_of ws)) w ≡ true
name ws w below = to_name (length (lengths_of ws)) w (omega (arith, below, length-lengths ws))

pub returns : goal.returns
returns c = λ count fit below long many names below_w. array-push c.args.self.now _ c.in_ok-word.word count
    (Fill c.args.of c.args.values c.args.when)
    (λ f. cond (is_nonzero (word_in c.args.self.now c.args.when f)) (map (λ w. word_in c.args.self.now w f)
    c.args.values)
    (elements_in c.args.self.now c.args.of f))
    c.in_ok-word.ensures.name c.in_ok-word.ensures.words fit
    (and_from (is_name (length (lengths_of c.args.self.now)) c.args.of && are_names (length (lengths_of
    c.args.self.now)) c.args.values
    && (length c.args.values == get_or (lengths_of c.args.self.now) c.args.of 1)) (is_name (length
    (lengths_of c.args.self.now)) c.args.when)
    (and_from (is_name (length (lengths_of c.args.self.now)) c.args.of && are_names (length (lengths_of
    c.args.self.now)) c.args.values)
    (length c.args.values == get_or (lengths_of c.args.self.now) c.args.of 1)
    (and_from (is_name (length (lengths_of c.args.self.now)) c.args.of) (are_names (length (lengths_of
    c.args.self.now)) c.args.values)
    (name c.args.self.now c.args.of below)
    (ap (λ n. are_names n c.args.values) (length-lengths c.args.self.now) ∙ names))
    (eq-eqb (length c.args.values) (get_or (lengths_of c.args.self.now) c.args.of 1) (many ∙ sym long)))
    (name c.args.self.now c.args.when below_w))
    long (λ f. refl)
