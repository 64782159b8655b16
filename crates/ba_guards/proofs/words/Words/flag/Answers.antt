use Rattle.std.proofs.Common.{refl, sym, ap}
use Rattle.ba_guards.proofs.Emitting.{emits-push}
use Rattle.ba_guards.proofs.Offering.{flag-shown}
use Rattle.ba_numbers.specs.Numbers.{truth}
use Rattle.ba_wordlist.specs.Meaning.{is_nonzero}
use Rattle.ba_wordlist.specs.declared.words.WordOp.TheVariants.{Flag}
use Rattle.ba_guards.proofs.words.Words.flag.Goals as goal

pub returns : goal.returns
returns c = λ fit. (
  c.in_ok-word.ensures.name,
  emits-push c.args.self.now _ c.in_ok-word.word Flag (λ f. truth (is_nonzero (f c.in_ok-word.word)))
      c.in_ok-word.ensures.name c.in_ok-word.ensures.words fit refl (λ f. ap (λ n. truth (is_nonzero (f
      n))) (sym c.in_ok-word.ensures.name)),
  flag-shown c.args.self.now _ c.in_ok-word.word c.in_ok-word.ensures.words c.in_ok-word.ensures.name,
)
