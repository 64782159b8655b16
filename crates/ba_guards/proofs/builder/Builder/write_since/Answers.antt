use Rattle.std.proofs.Common.{refl, sym, ◌∙◌, ap, ◌++◌}
use Rattle.ba_guards.specs.Written.{is_among}
use Rattle.ba_guards.proofs.builder.Builder.write_since.Goals as goal

pub returns : goal.returns
returns c = record {
  same = refl;
  gathers = λ agree. record {
    numbers = c.in_ok-changed.changed;
    written = c.in_ok-append.ensures ∙ ap (λ ns. ns ++ c.in_ok-changed.changed) c.truncate.ensures;
    kept = c.in_ok-changed.ensures (λ k h. agree k (ap (is_among k) (sym c.as_slice.ensures) ∙ h));
  };
}
