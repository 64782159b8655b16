use Rattle.std.proofs.Common.{pos, ap}
use Rattle.ba_wordlist.proofs.Values.{value-const}
use Rattle.ba_wordlist.specs.Meaning.{is_nonzero}
use Rattle.ba_guards.proofs.words.Words.is_zero.Goals as goal

pub returns : goal.returns
returns c = λ h f. ap is_nonzero (value-const f c.args.self.now c.args.word (pos 0) (c.is_constant.ensures h))
