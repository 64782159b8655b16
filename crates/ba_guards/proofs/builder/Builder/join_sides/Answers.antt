use Rattle.std.proofs.Common.{◌==◌, refl, sym, ◌∙◌, ap}
use Rattle.std.proofs.lemmas.Bool.{and_parts, eqb-true}
use Rattle.ba_guards.proofs.Building.{sides-whole}
use Rattle.ba_guards.specs.Written.{is_among}
use Rattle.ba_guards.proofs.builder.Builder.join_sides.Goals as goal

pub returns-then-after-sides : goal.returns-then-after-sides
returns-then-after-sides c = record {
  same = refl;
  kept = λ agree k h. c.in_ok-merge.ensures.kept k (ap (is_among k) c.as_slice.ensures ∙ h);
  ways = λ d fits below names long sides agree.
      let old = c.args.self.now in
      let s = c.args.sides.now in
      let both = and_parts (s.after.live == s.first) (old.live == s.second) c.if-after-sides.true in
      sides-whole d old c.merge.new.words c.merge.new.self s fits sides
      (eqb-true s.after.live s.first both.0) (eqb-true old.live s.second both.1)
      (c.in_ok-merge.ensures.merges fits.words sides.condition names fits.vars long
      (λ k h. agree k (ap (is_among k) (sym c.as_slice.ensures) ∙ h)));
}

pub returns : goal.returns
returns c = record {
  same = refl;
  kept = c.in_ok-either_way.ensures.kept;
  ways = λ d fits below names long sides agree.
      c.in_ok-either_way.ensures.ways fits.words fits.one below names fits.live fits.vars long agree;
}
