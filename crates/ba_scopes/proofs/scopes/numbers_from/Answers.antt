use Rattle.std.proofs.Common.{◌<◌, ◌≤◌, List, ◌++◌, drop, length, sym, ◌∙◌, ap, arith}
use Rattle.ba_numbers.specs.declared.ids.VarId.{VarId}
use Rattle.ba_typing.specs.Files.{var_in}
use Rattle.ba_scopes.specs.declared.scopes.Stored.{Stored}
use Rattle.ba_scopes.proofs.Storing.{all-numbers, next-numbers, numbers_of}
use Rattle.ba_scopes.proofs.scopes.numbers_from.Goals as goal

pub loop-i-init : goal.loop-i-init
loop-i-init c = ap (λ (vs : List VarId). vs ++ numbers_of (drop c.args.number c.args.stored.now))
    c.new-vars.ensures.items

pub loop-i-preserved : goal.loop-i-preserved
loop-i-preserved c = let stored = c.args.stored.now in
    let within : c.loop-i.i < length stored = omega (arith, c.loop-i-test.true) in
    next-numbers stored c.loop-i.i c.loop-i.vars.items (numbers_of (drop c.args.number stored))
    c.loop-i.invariant
    c.index-stored-i.result c.add_number.new.vars.items within c.index-stored-i.is
    (c.in_ok-add_number.ensures
    ∙ ap (λ (s : Stored). c.loop-i.vars.items ++ var_in s.entry.entity) (sym c.index-stored-i.is))

pub returns : goal.returns
returns c = let stored = c.args.stored.now in
    let past : length stored ≤ c.loop-i.i = omega (arith, c.loop-i-test.false) in
    all-numbers stored c.loop-i.i c.loop-i.vars.items (numbers_of (drop c.args.number stored))
    c.loop-i.invariant past
