use Rattle.std.proofs.Common.{◌≡◌, ℕ, ◌<◌, List, Option, None, Some, length, get_or, is_some, subst, sym, ap, ◌∙◌, arith}
use Rattle.std.proofs.lemmas.List.{get_or_default}
use Rattle.ba_lits.specs.Literals.{Literal}
use Rattle.ba_learn.specs.Resolving.{is_seen, AreAbsorbed, reason_lits}
use Rattle.ba_learn.proofs.ReasonLaws.{reason_live}
use Rattle.ba_learn.proofs.resolution.Resolution.is_redundant.Goals as goal

read_reason : (R S : List (Option ℕ)) (T : List Literal) (p r : ℕ) (d : Option ℕ) → R ≡ S →
    length S ≡ length T → p < length T → get_or R p d ≡ Some r → get_or S p None ≡ Some r
read_reason R S T p r d e len within h = get_or_default S p None d (omega (arith, len))
    ∙ (ap (λ (x : List (Option ℕ)). get_or x p d) (sym e) ∙ h)

pub are_absorbed-requires : goal.are_absorbed-requires
are_absorbed-requires c =
    let s = c.args.watch.now in
    let is : get_or s.reasons c.args.place None ≡ Some c.in-Some.reason =
    read_reason c.reasons.result.now s.reasons s.trail c.args.place c.in-Some.reason _ c.reasons.ensures
    c.keeps_facts.ensures.trail.same_length c.requires c.in-Some.is in
    reason_live s c.args.place c.in-Some.reason c.keeps_facts.ensures c.requires is

pub returns-in-Some : goal.returns-in-Some
returns-in-Some c =
    let s = c.args.watch.now in
    let is : get_or s.reasons c.args.place None ≡ Some c.in-Some.reason =
    read_reason c.reasons.result.now s.reasons s.trail c.args.place c.in-Some.reason _ c.reasons.ensures
    c.keeps_facts.ensures.trail.same_length c.requires c.in-Some.is in (
      λ e. (
        ap is_some is,
        subst (λ (o : Option ℕ). AreAbsorbed s (is_seen c.args.self.now)
            (reason_lits s o)) (sym is) (c.are_absorbed.ensures.0 e),
      ),
      λ h. c.are_absorbed.ensures.1 (subst (λ (o : Option ℕ). AreAbsorbed s (is_seen c.args.self.now)
          (reason_lits s o)) is h.1),
    )
