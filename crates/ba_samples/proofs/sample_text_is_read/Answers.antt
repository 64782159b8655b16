use Rattle.ba_samples.proofs.Reading.{sample_reads, sample_spells}
use Rattle.ba_samples.proofs.sample_text_is_read.Goals as goal

pub returns : goal.returns
returns c = record {
  reads = λ n few. sample_reads n few;
  spells = λ n p few it. sample_spells n few p it;
}
