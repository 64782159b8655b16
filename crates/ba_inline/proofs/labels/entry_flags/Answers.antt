use Rattle.std.proofs.Common.{rules, ◌≡◌, ◌+◌, ◌∷◌, [], map, length, sym, ◌∙◌, ap, subst, arith}
use Rattle.std.proofs.lemmas.List.{length-append}
use Rattle.ba_code.specs.State.{operand_value}
use Rattle.ba_inline.proofs.EntrySteps.{entered-all, entered-more, entered-none}
use Rattle.ba_inline.specs.Flags.{AreBetween, MakesFlags, MakesFrom}
use Rattle.ba_inline.specs.Labels.{IsDefault, IsJoined, MakesEntered, entry_flags}
use Rattle.ba_tree.specs.Meaning.{label_at}
use Rattle.ba_inline.proofs.labels.entry_flags.Goals as goal

pub loop-place-init : goal.loop-place-init
loop-place-init c = (
  ap length c.in_ok-flags.ensures.items,
  λ base le below.
      let tests = c.in_ok-tests.tests.items in
      let low = c.args.declared.now in
      let mid = c.tests.new.declared in
      let made = c.in_ok-tests.ensures base le below in
      let is_tests : c.as_slice.result.now ≡ tests = c.as_slice.ensures.value in
      let none = subst (λ os. AreBetween base (length mid.vars) os
      → MakesFrom (λ s u. IsDefault c.args.labels.now.other (map (operand_value s) os) (operand_value u
      c.in_ok-none.none)) base c.in_ok-none.none
      mid c.default_flag.new.declared c.tests.new.out.items c.default_flag.new.out.items) is_tests
      (c.in_ok-none.ensures base (omega (arith, le, made.computes.grows.vars))) made.between in
      entered-none c.args.labels.now.starts.now c.args.labels.now.other c.args.a base low mid
      c.default_flag.new.declared
      c.args.out.now.items c.tests.new.out.items c.default_flag.new.out.items tests c.in_ok-none.none
      c.in_ok-flags.flags.items
      _ c.in_ok-flags.ensures.items (search rules) made none,
)

pub loop-place-preserved : goal.loop-place-preserved
loop-place-preserved c = (
  ap length c.in_ok-push.ensures.items ∙ length-append c.loop-place.flags.items (c.in_ok-flag.flag ∷ [])
      ∙ ap (λ n. n + 1) c.loop-place.invariant.0,
  λ base le below.
      let tests = c.in_ok-tests.tests.items in
      let low = c.args.declared.now in
      let mid = c.loop-place.declared in
      let made = c.loop-place.invariant.1 base le below in
      let is_tests : c.as_slice-in-loop-place.result.now ≡ tests = c.as_slice-in-loop-place.ensures.value in
      let one = subst (λ os. AreBetween base (length mid.vars) (c.loop-place.flag ∷ c.in_ok-none.none ∷ os)
      → MakesFrom (λ s u. IsJoined c.args.labels.now.starts.now c.args.labels.now.other c.loop-place.place
      (map (operand_value s) os) (operand_value s c.in_ok-none.none) (operand_value s c.loop-place.flag)
      (operand_value u c.in_ok-flag.flag)) base c.in_ok-flag.flag
      mid c.joined.new.declared c.loop-place.out.items c.joined.new.out.items) is_tests
      (c.in_ok-flag.ensures base (omega (arith, le, made.computes.grows.vars))) made.between in
      subst (λ flags. MakesEntered c.args.labels.now.starts.now c.args.labels.now.other c.args.a
      (c.loop-place.place + 1) base
      tests c.in_ok-none.none flags c.in_ok-flag.flag low c.joined.new.declared c.args.out.now.items
      c.joined.new.out.items)
      (sym c.in_ok-push.ensures.items)
      (entered-more c.args.labels.now.starts.now c.args.labels.now.other c.args.a base c.loop-place.place
      low mid
      c.joined.new.declared c.args.out.now.items c.loop-place.out.items c.joined.new.out.items tests
      c.in_ok-none.none
      c.loop-place.flags.items c.loop-place.flag c.in_ok-flag.flag (search rules) made one),
)

pub returns : goal.returns
returns c =
    let at_end : c.loop-place.place ≡ c.args.count = search rules in record {
      long = c.loop-place.invariant.0 ∙ at_end;
      made = λ base le below.
          subst (λ count. MakesFlags (λ s. entry_flags
          (label_at c.args.labels.now.starts.now (operand_value s c.args.a) c.args.labels.now.other) 0
          count) base
          c.loop-place.flags.items c.args.declared.now c.loop-place.declared c.args.out.now.items
          c.loop-place.out.items)
          at_end
          (entered-all c.args.labels.now.starts.now c.args.labels.now.other c.args.a base c.loop-place.place
          c.args.declared.now c.loop-place.declared c.args.out.now.items c.loop-place.out.items
          c.in_ok-tests.tests.items
          c.in_ok-none.none c.loop-place.flags.items c.loop-place.flag (c.loop-place.invariant.1 base le
          below));
    }
