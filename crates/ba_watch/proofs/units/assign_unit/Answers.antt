use Rattle.std.proofs.Common.{sym, ◌∙◌}
use Rattle.ba_watch.proofs.ShortClauses.{unit_pushed}
use Rattle.ba_watch.proofs.units.assign_unit.Goals as goal

pub returns-in-None : goal.returns-in-None
returns-in-None c = record {
  assigns = unit_pushed _ _ _ _ c.lit-lit.result c.lit-lit.ensures c.requires.short
      (λ e. c.if-len-eq0.false (c.len.ensures ∙ e)) c.push.ensures.pushed c.push.ensures.trail
      c.push.ensures.lengths (sym c.value.ensures ∙ c.in-None.is);
}
