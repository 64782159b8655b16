use Rattle.std.proofs.Common.{rules, ◌≡◌, ◌==◌, get_or, refl, pos, take, length, sym, ◌∙◌, ap, subst, arith}
use Rattle.std.specs.Prelude.{slice_index_or}
use Rattle.std.proofs.lemmas.List.{get_or_default, length-take-le, take_all}
use Rattle.ba_tree.specs.declared.tree.Start.{Start}
use Rattle.std.proofs.lemmas.Result.{IfOk-weaker}
use Rattle.ba_code.specs.declared.nodes.Operand.TheVariants.{Const}
use Rattle.ba_inline.proofs.EntrySteps.{Joined, between-flag, joined-all, joined-more, joined-none}
use Rattle.ba_inline.proofs.FlagSteps.{between-more}
use Rattle.ba_inline.proofs.Rows.{next-taken}
use Rattle.ba_inline.specs.Flags.{IsBetween}
use Rattle.ba_inline.proofs.labels.joined.Goals as goal

first : Start
first = record { value = pos 0; at = 0 }

pub loop-index-init : goal.loop-index-init
loop-index-init c = λ base le between.
    joined-none base c.args.place c.args.tests.now c.args.none c.args.before c.args.declared.now
    c.args.out.now.items between.0

pub loop-index-preserved : goal.loop-index-preserved
loop-index-preserved c = λ base le between.
    let low = c.args.declared.now in
    let starts = c.args.labels.now.starts.now in
    let tests = c.args.tests.now in
    let i = c.loop-index.index in
    let start = get_or starts i first in
    let mid = c.loop-index.declared in
    let made = c.loop-index.invariant base le between in
    let grows = made.computes.grows.vars in
    let count : length (take i starts) ≡ i = length-take-le i starts (search rules) in
    let test_is : c.flag_at-test.result ≡ slice_index_or tests (length (take i starts)) (Const (pos 0)) =
    c.flag_at-test.ensures ∙ ap (λ k. slice_index_or tests k (Const (pos 0))) (sym count) in
    let test_between : IsBetween base (length low.vars) c.flag_at-test.result =
    subst (IsBetween base (length low.vars)) (sym c.flag_at-test.ensures) (between-flag base (length
    low.vars) tests i between.1.1) in
    subst (λ starts. Joined base c.args.place tests c.args.none c.args.before starts c.in_ok-flag.flag
    low c.either_where.new.declared c.args.out.now.items c.either_where.new.out.items)
    (sym (next-taken starts i start first c.loop-index-test.true refl))
    (joined-more base c.args.place tests c.args.none c.args.before low mid c.either_where.new.declared
    c.args.out.now.items
    c.loop-index.out.items c.either_where.new.out.items (take i starts) start c.loop-index.flag
    c.in_ok-flag.flag
    c.flag_at-test.result _ between (ap (λ (s : Start). s.at == c.args.place) (get_or_default starts i _ first
    c.loop-index-test.true)) test_is made
    (c.in_ok-flag.ensures base (omega (arith, le, grows)) (
      made.between,
      (between-more base (length low.vars) (length mid.vars) c.flag_at-test.result grows test_between, tt),
    )))

pub returns : goal.returns
returns c = IfOk-weaker c.either_where-2.result _ _ (λ flag made base le between.
    let low = c.args.declared.now in
    let mid = c.loop-index.declared in
    let so_far = c.loop-index.invariant base le between in
    let grows = so_far.computes.grows.vars in
    joined-all base c.args.place c.args.tests.now c.args.none c.args.before c.args.labels.now.other low mid
    c.either_where-2.new.declared c.args.out.now.items c.loop-index.out.items c.either_where-2.new.out.items
    c.args.labels.now.starts.now c.loop-index.flag flag c.stands_at-is_here.result between
    c.stands_at-is_here.ensures
    (subst (λ starts. Joined base c.args.place c.args.tests.now c.args.none c.args.before starts
    c.loop-index.flag
    low mid c.args.out.now.items c.loop-index.out.items)
    (take_all c.loop-index.index c.args.labels.now.starts.now (search rules)) so_far)
    (made base (omega (arith, le, grows)) (
      so_far.between,
      (between-more base (length low.vars) (length mid.vars) c.args.none grows between.1.0, tt),
    )))
    c.either_where-2.ensures
