use Rattle.std.proofs.Common.{ℕ, ap, length, [], List, sym, ◌∙◌, subst}
use Rattle.std.proofs.lemmas.Result.{IfOk-weaker}
use Rattle.ba_watch.specs.Propagation.{lits_in}
use Rattle.ba_learn.specs.Live.{Follows}
use Rattle.ba_learn.proofs.Finishes.{may_start, ended, sorted_reasons, refuted}
use Rattle.ba_learn.proofs.analyser.Analyser.refutation.Goals as goal

pub start-requires-clause-may : goal.start-requires-clause-may
start-requires-clause-may c = (
  length c.args.watch.now.trail,
  may_start c.args.watch.now _
      (lits_in c.args.watch.now.clauses c.args.conflict) (ap length c.trail.ensures) c.requires.false_,
)

pub close-requires : goal.close-requires
close-requires c =
    let s = c.args.watch.now in
    let m = may_start s _ (lits_in s.clauses c.args.conflict) (ap length c.trail.ensures) c.requires.false_ in
    record { work = (length s.trail, c.in_ok-start.ensures.work (length s.trail) m) }

pub hints-requires-clause-reasons : goal.hints-requires-clause-reasons
hints-requires-clause-reasons c =
    let s = c.args.watch.now in
    let m = may_start s _ (lits_in s.clauses c.args.conflict) (ap length c.trail.ensures) c.requires.false_ in
    sorted_reasons s (length s.trail) c.close.new.self c.sort.new.self.resolved
    (c.in_ok-close.ensures.work (length s.trail) (c.in_ok-start.ensures.work (length s.trail) m))
    c.sort.ensures.sorted

pub returns : goal.returns
returns c =
    let s = c.args.watch.now in
    let m = may_start s _ (lits_in s.clauses c.args.conflict) (ap length c.trail.ensures) c.requires.false_ in
    let u = c.in_ok-start.ensures in
    let w = c.in_ok-close.ensures in
    let done = ended s (length s.trail) c.start.new.self c.close.new.self c.args.conflict u.resolved u.seen
    w.resolves (w.work (length s.trail) (u.work (length s.trail) m)) w.all in
    IfOk-weaker c.hints.result _ (λ hints. Follows s.clauses [] hints.items)
    (λ hints is. subst (λ (hs : List ℕ). Follows s.clauses [] hs) (sym is)
    (refuted s c.close.new.self c.args.conflict c.sort.new.self.resolved c.keeps_facts.ensures done
    (w.resolves.floor ∙ (u.floor ∙ ap length c.trail.ensures)) (w.resolves.deep
    ∙ u.deep) c.requires.level c.requires.live c.requires.false_ c.sort.ensures.sorted))
    c.hints.ensures
