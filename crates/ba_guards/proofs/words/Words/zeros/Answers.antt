use Rattle.std.proofs.Common.{pos, refl, replicate}
use Rattle.ba_guards.proofs.Emitting.{array-push}
use Rattle.ba_wordlist.specs.declared.words.WordOp.TheVariants.{Zeros}
use Rattle.ba_guards.proofs.words.Words.zeros.Goals as goal

pub returns : goal.returns
returns c = λ fit count. array-push c.args.self.now _ c.in_ok-word.word c.args.count (Zeros c.args.count)
    (λ f. replicate c.args.count (pos 0))
    c.in_ok-word.ensures.name c.in_ok-word.ensures.words fit count refl (λ f. refl)
