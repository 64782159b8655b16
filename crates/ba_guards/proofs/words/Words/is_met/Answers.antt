use Rattle.std.proofs.Common.{SFits, w64, to_z-of_z, rules, sym, ◌∙◌, ap}
use Rattle.ba_wordlist.proofs.Values.{value-const}
use Rattle.ba_wordlist.specs.Meaning.{is_nonzero}
use Rattle.ba_guards.proofs.words.Words.is_met.Goals as goal

pub returns-in-Some : goal.returns-in-Some
returns-in-Some c = λ h f.
    let fits : SFits w64 c.in-Some.value = search rules in
    ap is_nonzero (value-const f c.args.self.now c.args.word c.in-Some.value c.in-Some.ensures)
    ∙ sym (ap is_nonzero (to_z-of_z fits)) ∙ sym c.is_other_than_zero.ensures ∙ h
