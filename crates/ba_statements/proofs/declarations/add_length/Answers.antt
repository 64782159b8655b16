use Rattle.std.proofs.Common.{refl}
use Rattle.ba_typing.specs.Declarations.{typed_array_length}
use Rattle.ba_statements.proofs.Declaring.{no-length, some-length}
use Rattle.ba_statements.proofs.declarations.add_length.Goals as goal

pub returns-in-None : goal.returns-in-None
returns-in-None c = let w = c.args.work.now in let scope = c.args.scope.now in let t =
    c.array_length.new.tally in
    no-length c.args.at scope w (record w { tally = t })
    (typed_array_length c.args.at c.args.values scope w.tally.calls c.args.length.now) t c.in_ok-found.found
    c.in_ok-found.ensures c.in-None.is refl

pub returns-in_ok-add_count-in-Some : goal.returns-in_ok-add_count-in-Some
returns-in_ok-add_count-in-Some c =
    let w = c.args.work.now in let scope = c.args.scope.now in let t = c.array_length.new.tally in
    some-length c.args.at scope w (record w { tally = t }) c.add_count.new.work
    (typed_array_length c.args.at c.args.values scope w.tally.calls c.args.length.now) t c.in_ok-found.found
    c.in-Some.length
    c.in_ok-found.ensures c.in-Some.is refl c.in_ok-add_count-in-Some.ensures
