-- The line of a step is read as it, and a line that is read is that of what was read.

use Rattle.std.proofs.Common.{◌≡◌, ℕ, true, Option, None, Some, List, [], ◌∷◌, ◌++◌, map, flat_map, codes, decimal, refl, sym, ap, ◌∙◌, arith}
use Rattle.std.proofs.lemmas.Option.{none-some, same_Some}
use Rattle.ba_choices.specs.declared.Choice.{Choice}
use Rattle.ba_steps.specs.declared.step.CertStep.{CertStep}
use Rattle.ba_steps.specs.declared.step.CertStep.TheVariants.{Learn, Core, Delete, Block, EndLocated, EndNoRepair, EndTooMany, EndSpent}
use Rattle.ba_cert.specs.Readers.{IsReading}
use Rattle.ba_cert.specs.Text.{ended, clause_parts, step_parts, joined, line_of, HasLine}
use Rattle.ba_text.specs.Texts.{choice_parts}
use Rattle.ba_cert.specs.Reading.{parts_of, step_at, step_in}
use Rattle.ba_cert.proofs.ListLaws.{IsCount, IsGroup, clause-formed, groups-formed}
use Rattle.ba_cert.proofs.PlainLaws.{is_plain, are_plain, all-append, numbers-plain, clause-plain, run-plain, has_no_feed, joined-feedless}
use Rattle.ba_cert.proofs.CutLaws.{parts_of-joined, joined-parts_of}
use Rattle.ba_cert.proofs.StepLaws.{step-back, step-again}

-- a step has a first part, and all its parts are plain
record ArePlain (parts : List (List ℕ)) : Type 0 where
  first : List ℕ
  others : List (List ℕ)
  parts_are : parts ≡ first ∷ others
  first_plain : is_plain first ≡ true
  others_plain : are_plain others ≡ true

block-plain : (set : List ℕ) (run : List Choice) → HasLine (Block set run) →
    are_plain (ended (map decimal set) ++ flat_map choice_parts run) ≡ true
block-plain set run h =
    all-append is_plain (ended (map decimal set)) (flat_map choice_parts run)
    (numbers-plain IsGroup (λ n p. let below = p.1 in omega (arith, below)) set (groups-formed set h.0.0 h.1))
    (run-plain run h.0.2)

step-plain : (step : CertStep) → HasLine step → ArePlain (step_parts step)
step-plain (Learn lits hints) h = record {
  first = codes "l";
  others = clause_parts lits hints;
  parts_are = refl;
  first_plain = refl;
  others_plain = clause-plain lits hints (clause-formed lits h.0.0.0) h.0.1;
}
step-plain (Core lits hints) h = record {
  first = codes "c";
  others = clause_parts lits hints;
  parts_are = refl;
  first_plain = refl;
  others_plain = clause-plain lits hints (clause-formed lits h.0.0.0) h.0.1;
}
step-plain (Delete clauses) h = record {
  first = codes "d";
  others = ended (map decimal clauses);
  parts_are = refl;
  first_plain = refl;
  others_plain = numbers-plain IsCount (λ n p. p.1) clauses h.0.0;
}
step-plain (Block set run) h = record {
  first = codes "s";
  others = ended (map decimal set) ++ flat_map choice_parts run;
  parts_are = refl;
  first_plain = refl;
  others_plain = block-plain set run h;
}
step-plain (EndLocated lits hints) h = record {
  first = codes "e";
  others = codes "l" ∷ clause_parts lits hints;
  parts_are = refl;
  first_plain = refl;
  others_plain = clause-plain lits hints (clause-formed lits h.0.0) h.0.1;
}
step-plain (EndNoRepair hints) h = record {
  first = codes "e";
  others = codes "n" ∷ ended (map decimal hints);
  parts_are = refl;
  first_plain = refl;
  others_plain = numbers-plain IsCount (λ n p. p.1) hints h.0;
}
step-plain EndTooMany h = record
    { first = codes "e"; others = codes "m" ∷ []; parts_are = refl; first_plain = refl; others_plain = refl }
step-plain EndSpent h = record
    { first = codes "e"; others = codes "b" ∷ []; parts_are = refl; first_plain = refl; others_plain = refl }

pub line-feedless : (step : CertStep) → HasLine step → has_no_feed (line_of step) ≡ true
line-feedless step h =
    let p = step-plain step h in
    ap (λ parts. has_no_feed (joined parts)) p.parts_are
    ∙ joined-feedless p.first p.others p.first_plain p.others_plain

pub line-again : (step : CertStep) → HasLine step → step_in (line_of step) ≡ Some step
line-again step h =
    let p = step-plain step h in
    let cut : parts_of (line_of step) ≡ step_parts step =
    ap (λ parts. parts_of (joined parts)) p.parts_are
    ∙ parts_of-joined p.first p.others p.first_plain p.others_plain ∙ sym p.parts_are in
    ap step_at cut ∙ step-again step h

pub line-back : (line : List ℕ) (step : CertStep) → step_in line ≡ Some step →
    (line ≡ line_of step) × HasLine step
line-back line step e =
    let r = step-back (parts_of line) step e in
    (sym (joined-parts_of line) ∙ ap joined r.0, r.1)

pub line-once : (step other : CertStep) → HasLine step → HasLine other → line_of step ≡ line_of other →
    step ≡ other
line-once step other h k same = same_Some step other
    (sym (line-again step h) ∙ ap step_in same ∙ line-again other k)

-- what a line is read as
pub step-read : (line : List ℕ) (read : Option CertStep) → read ≡ step_in line →
    IsReading HasLine line_of line read
step-read line None gives = λ step h same. none-some step (gives ∙ ap step_in same ∙ line-again step h)
step-read line (Some step) gives = let r = line-back line step (sym gives) in (r.1, r.0)
