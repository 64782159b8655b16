use Rattle.std.proofs.Common.{arith}
use Rattle.ba_checker.proofs.ListedLaws.{AreListed-length, second_rules, third_rules}
use Rattle.ba_checker.proofs.clauses.is_listed_part.Goals as goal

pub keys-keys-requires : goal.keys-keys-requires
keys-keys-requires c = let long = AreListed-length c.args.index.now c.args.store.now c.requires.listed in
    omega (arith, long, c.requires.within)

pub returns-then-not-may_hold : goal.returns-then-not-may_hold
returns-then-not-may_hold c =
    second_rules c.args.index.now c.args.store.now c.args.place c.args.set.now c.keys-keys.result
    c.may_hold.result c.requires.listed c.requires.within c.keys-keys.ensures c.may_hold.ensures
    c.if-not-may_hold.true

pub returns-then-not-may_hold-2 : goal.returns-then-not-may_hold-2
returns-then-not-may_hold-2 c =
    third_rules c.args.index.now c.args.store.now c.args.place c.args.set.now c.keys-keys.result
    c.may_hold-2.result c.requires.listed c.requires.within c.keys-keys.ensures c.may_hold-2.ensures
    c.if-not-may_hold-2.true
