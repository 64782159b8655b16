use Rattle.std.proofs.Common.{get_or, length, refl, sym, ◌∙◌, ap, subst}
use Rattle.ba_guards.proofs.Building.{either-first, either-merged, either-second}
use Rattle.ba_guards.specs.Making.{EitherWay}
use Rattle.ba_guards.specs.Written.{is_among}
use Rattle.ba_guards.proofs.builder.either_way.Goals as goal

pub returns-then-is_zero : goal.returns-then-is_zero
returns-then-is_zero c = record {
  kept = λ agree k h. refl;
  ways = λ fit one below names other_below other_names long agree.
      either-second c.args.words.now c.args.words.now (length c.args.vars.now) c.args.way_live
      c.args.way_vars.now c.args.live.now c.args.vars.now refl fit other_below other_names refl
      (c.is_zero.ensures c.if-is_zero.true);
}

pub returns-then-is_zero-2 : goal.returns-then-is_zero-2
returns-then-is_zero-2 c = record {
  kept = λ agree k h. sym (agree k h) ∙ ap (λ vs. get_or vs k 0) (sym c.in_ok-copied.ensures);
  ways = λ fit one below names other_below other_names long agree.
      let ws = c.args.words.now in
      subst (EitherWay ws ws (length c.args.vars.now) c.args.way_live c.args.way_vars.now c.args.live.now
      c.args.vars.now c.args.way_live) (sym c.in_ok-copied.ensures)
      (either-first ws ws (length c.args.vars.now) c.args.way_live c.args.way_vars.now c.args.live.now
      c.args.vars.now refl fit below names long (c.is_zero-2.ensures c.if-is_zero-2.true));
}

pub returns : goal.returns
returns c = record {
  kept = λ agree k h. c.in_ok-merge.ensures.kept k
      (ap (is_among k) c.as_slice.ensures ∙ h);
  ways = λ fit one below names other_below other_names long agree.
      either-merged c.args.words.now c.select.new.self (length c.args.vars.now) c.args.way_live
      c.args.way_vars.now c.args.live.now c.args.vars.now c.merge.new.words c.in_ok-both.both
      c.merge.new.self one below other_below
      (c.in_ok-merge.ensures.merges fit below names other_names long
      (λ k h. agree k (ap (is_among k) (sym c.as_slice.ensures) ∙ h)))
      c.in_ok-both.ensures;
}
