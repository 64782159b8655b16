use Rattle.ba_typing.specs.Expressions.{typed_conditional}
use Rattle.ba_statements.proofs.Declaring.{not-array, not-written, written}
use Rattle.ba_statements.proofs.declarations.array_length.Goals as goal

pub returns-in_default : goal.returns-in_default
returns-in_default c = not-array c.args.at c.args.values c.args.length.now c.args.scope.now
    c.args.tally.now c.in_default.is

pub returns-in-None : goal.returns-in-None
returns-in-None c = not-written c.args.at c.args.values c.args.length.now c.args.scope.now c.args.tally.now
    c.in-Some.array c.counted_length.result c.in-Some.is c.in-None.is c.counted_length.ensures

pub returns-in_ok-j-in-Some-length : goal.returns-in_ok-j-in-Some-length
returns-in_ok-j-in-Some-length c =
    let s = typed_conditional c.in-Some-length.c c.args.scope.now c.args.tally.now.calls in
    written c.args.at c.args.values c.args.length.now c.args.scope.now c.args.tally.now
    c.in-Some.array c.in-Some-length.c c.whole.new.tally c.written_length.result c.in-Some.is
    c.in-Some-length.is
    (c.written_length.ensures s c.in_ok-j-in-Some-length.ensures.0) c.in_ok-j-in-Some-length.ensures.1
