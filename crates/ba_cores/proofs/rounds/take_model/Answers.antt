use Rattle.std.proofs.Common.{◌≡◌, List, ap, sym, subst, ◌∙◌}
use Rattle.ba_lits.specs.Satisfaction.{Soft}
use Rattle.ba_checker.specs.States.{State}
use Rattle.ba_search.specs.Answers.{IsModel}
use Rattle.ba_cores.specs.Findings.{IsLeast}
use Rattle.ba_cores.specs.Rounds.{literals_of, heavy}
use Rattle.ba_cores.proofs.HeavyLaws.{heavy_model}
use Rattle.ba_cores.proofs.LeastLaws.{least_of_model}
use Rattle.ba_cores.proofs.rounds.take_model.Goals as goal

pub returns-clause-found : goal.returns-clause-found
returns-clause-found g c =
    let s = (g.L.ProofLog.log c.args.log.now).checker in
    let same : c.softs.result.now ≡ s.softs = c.softs.ensures.softs
    ∙ ap (λ (t : State). t.softs) c.checker-checker.ensures in
    let all : heavy c.args.weight.now s.softs ≡ s.softs =
    subst (λ (softs : List Soft). heavy c.args.weight.now softs ≡ softs) same
    (c.are_heavy.ensures.all c.if-not-are_heavy.false) in
    let model : IsModel s (literals_of s.softs) c.args.model.values =
    heavy_model s c.args.weight.now c.args.model.values all c.requires.model in
    let bound : c.bound.result ≡ s.bound = c.bound.ensures
    ∙ ap (λ (t : State). t.bound) c.checker-checker.ensures in (
      bound,
      model.all,
      λ formula softs r. subst (λ (w : _). IsLeast formula softs w c.args.model.values) (sym bound)
          (least_of_model (g.L.ProofLog.log c.args.log.now).accepts formula softs s
          c.args.model.values model c.requires.ready.none_blocked r),
    )
