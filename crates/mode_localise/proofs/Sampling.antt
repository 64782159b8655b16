-- The texts of a sample are short enough.

use Rattle.std.proofs.Common.{◌≡◌, ℕ, ◌≤◌, length, sym, subst, arith}
use Rattle.ba_answers.specs.Limits.{limit}
use Rattle.ba_cases.specs.declared.texts.Texts.{Texts}
use Rattle.ba_samples.proofs.Sampling.{sample_short}
use Rattle.mode_localise.specs.Jobs.{sample_texts}

pub texts_short : (x : Texts) (n : ℕ) → x ≡ sample_texts n → n ≤ 500 → length x.program ≤ limit
texts_short x n is few = subst (λ (x : Texts). length x.program ≤ limit) (sym is) (sample_short n few)

pub inputs_short : (x : Texts) (n : ℕ) → x ≡ sample_texts n → length x.input ≤ limit
inputs_short x n is = let few : 0 ≤ 65536 = omega arith in
    subst (λ (x : Texts). length x.input ≤ limit) (sym is) few
