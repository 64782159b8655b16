use Rattle.ba_clauses.proofs.Needs.{needs_made}
use Rattle.ba_clauses.proofs.uses.need_all.Goals as goal

pub returns : goal.returns
returns c =
    needs_made c.args.nodes.now c.args.required.now c.args.read.now c.args.uses.now c.ask_all.new.uses
    c.read_all.new.uses c.pass_on_all.new.uses _ _
    c.requires.unused c.ask_all.ensures c.read_all.ensures.read c.read_all.ensures.more
    c.pass_on_all.ensures.more c.pass_on_all.ensures.passed
