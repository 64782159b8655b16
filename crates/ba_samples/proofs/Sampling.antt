-- The text of a sample, and that it is short enough.

use Rattle.std.proofs.Common.{◌≡◌, ◌∙◌, ℕ, zero, suc, ◌+◌, ◌*◌, ◌^◌, ◌<◌, ◌≤◌, List, [], ◌++◌, codes, length, ap, refl, sym, subst, length-append, arith}
use Rattle.std.proofs.lemmas.Fmt.{length-decimal-le_succ}
use Rattle.std.specs.Fmt.{decimal}
use Rattle.std.specs.List.{repeat}
use Rattle.ba_samples.specs.Text.{sample_text}

-- a text that is put together is that of a sample
abbrev head_text : List ℕ
head_text = codes "int main(void) {\n    int s = 0;\n"

abbrev line_text : List ℕ
line_text = codes "    s = s + 1;\n"

abbrev test_text : List ℕ
test_text = codes "    assert(s == "

abbrev end_text : List ℕ
end_text = codes ");\n    return 0;\n}\n"

pub sample_made : (n number : ℕ) (empty one two three four five lines shown : List ℕ) → empty ≡ [] →
    one ≡ empty ++ head_text → lines ≡ repeat n line_text → shown ≡ lines → two ≡ one ++ shown →
    three ≡ two ++ test_text → number ≡ n + 1 → four ≡ three ++ decimal number → five ≡ four ++ end_text →
    five ≡ sample_text n
sample_made n number empty one two three four five lines shown none head repeated same second third count
    digits
    end = end ∙ ap (λ (t : List ℕ). t ++ end_text) (digits ∙ ap (λ (m : ℕ). three ++ decimal m) count
    ∙ ap (λ (t : List ℕ). t ++ decimal (n + 1)) (third ∙ ap (λ (t : List ℕ). t ++ test_text)
    (second ∙ ap (λ (s : List ℕ). one ++ s) (same ∙ repeated)
    ∙ ap (λ (t : List ℕ). t ++ repeat n line_text) (head ∙ ap (λ (t : List ℕ). t ++ head_text) none))))

-- so many lines of fifteen bytes
lines_short : (line : List ℕ) (n : ℕ) → length line ≡ 15 → length (repeat n line) ≤ 15 * n
lines_short line zero is = omega arith
lines_short line (suc n) is = let joined = length-append line (repeat n line) in let rest =
    lines_short line n is in
    omega (arith, joined, rest, is)

pub sample_short : (n : ℕ) → n ≤ 500 → length (sample_text n) ≤ 65536
sample_short n few =
    let lines = lines_short line_text n refl in
    let small : n + 1 < 2 ^ 64 = omega arith in
    let digits = length-decimal-le_succ (n + 1) small in
    simp length-append (omega (arith, lines, digits, few))
