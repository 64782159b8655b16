use Rattle.ba_parse.proofs.laws.one_verdict.Goals as goal
use Rattle.ba_parse.proofs.Verdicts.{says_answer, one_verdict, verdict_of, answer_of}

pub returns : goal.returns
returns c = record {
  some = λ tokens. record { verdict = verdict_of tokens (answer_of tokens); says = says_answer tokens };
  one = λ tokens verdict other p q. one_verdict tokens verdict other p q;
}
