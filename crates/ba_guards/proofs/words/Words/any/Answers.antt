use Rattle.ba_guards.proofs.Offering.{draws-one}
use Rattle.ba_guards.proofs.words.Words.any.Goals as goal

pub returns : goal.returns
returns c = λ fit. draws-one c.args.t c.args.self.now c.push.new.self _ c.in_ok-free.free c.in_ok-word.word
    fit c.in_ok-free.ensures.name
    c.in_ok-free.ensures.words c.in_ok-word.ensures.name c.in_ok-word.ensures.words
