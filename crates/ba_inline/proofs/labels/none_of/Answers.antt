use Rattle.std.proofs.Common.{rules, pos, map, take, length, get_or, refl, sym, subst, arith}
use Rattle.std.proofs.lemmas.List.{get_or_default, take_all}
use Rattle.ba_code.specs.State.{operand_value}
use Rattle.ba_code.specs.declared.nodes.Operand.TheVariants.{Const, Var}
use Rattle.ba_inline.proofs.Adding.{adds-unary}
use Rattle.ba_inline.proofs.FlagSteps.{any-more, any-none, between-at, between-more, computes-zero, fresh-between, makes-none}
use Rattle.ba_inline.proofs.Rows.{next-taken}
use Rattle.ba_inline.specs.Flags.{IsAny, IsBetween, IsEither, IsNone, MakesFrom}
use Rattle.ba_numbers.specs.declared.numbers.CType.TheVariants.{I32}
use Rattle.ba_inline.proofs.labels.none_of.Goals as goal

pub loop-flag-init : goal.loop-flag-init
loop-flag-init c = λ base le between. any-none base c.args.declared.now c.args.out.now.items

pub loop-flag-preserved : goal.loop-flag-preserved
loop-flag-preserved c = λ base le between.
    let flags = c.args.flags.now in
    let i = c.loop-flag.flag-index in
    let low = c.args.declared.now in
    let made = c.loop-flag.invariant base le between in
    let grows = made.computes.grows.vars in
    let flag = get_or flags i (Const (pos 0)) in
    let one = between-at base (length low.vars) flags i flag (Const (pos 0)) between c.loop-flag-test.true
    refl in
    subst (λ flags. MakesFrom (λ s u. IsAny (map (operand_value s) flags) (operand_value u
    c.in_ok-any.any)) base c.in_ok-any.any
    low c.either.new.declared c.args.out.now.items c.either.new.out.items)
    (sym (next-taken flags i flag (Const (pos 0)) c.loop-flag-test.true refl))
    (any-more base low c.loop-flag.declared c.either.new.declared c.args.out.now.items c.loop-flag.out.items
    c.either.new.out.items (take i flags) flag c.loop-flag.any c.in_ok-any.any one made
    (subst (λ flag. IsBetween base (length c.loop-flag.declared.vars) flag
    → MakesFrom (λ s u. IsEither (operand_value s c.loop-flag.any) (operand_value s flag) (operand_value u
    c.in_ok-any.any))
    base c.in_ok-any.any c.loop-flag.declared c.either.new.declared c.loop-flag.out.items
    c.either.new.out.items)
    (get_or_default flags i _ (Const (pos 0)) c.loop-flag-test.true)
    (c.in_ok-any.ensures base (omega (arith, le, grows)))
    (between-more base (length low.vars) (length c.loop-flag.declared.vars) flag grows one)))

pub returns : goal.returns
returns c = λ base le between.
    let low = c.args.declared.now in
    let mid = c.loop-flag.declared in
    let out = c.loop-flag.out.items in
    let made = c.loop-flag.invariant base le between in
    subst (λ d. MakesFrom (λ s u. IsNone (map (operand_value s) c.args.flags.now) (operand_value u (Var
    c.in_ok-to.to)))
    base (Var c.in_ok-to.to) low d c.args.out.now.items c.add.new.out.items) (sym c.in_ok-to.ensures.1)
    (makes-none base low mid _ c.args.out.now.items out c.add.new.out.items c.args.flags.now c.loop-flag.any
    (Var c.in_ok-to.to)
    (fresh-between mid out c.add.new.out.items c.in_ok-to.to I32 c.in_ok-to.ensures.0 base
    (omega (arith, le, made.computes.grows.vars)))
    (subst (λ flags. MakesFrom (λ s u. IsAny (map (operand_value s) flags) (operand_value u
    c.loop-flag.any)) base
    c.loop-flag.any low mid c.args.out.now.items out) (take_all c.loop-flag.flag-index c.args.flags.now
    (search rules)) made)
    (computes-zero mid out c.add.new.out.items c.in_ok-to.to I32 c.in_ok-to.ensures.0 I32 c.loop-flag.any
    (adds-unary _ _ _ _ _ _ c.in_ok-add.ensures)))
