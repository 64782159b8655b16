use Rattle.std.proofs.Common.{rules}
use Rattle.std.proofs.lemmas.Bool.{OnTrue_at}
use Rattle.ba_inline.proofs.Leaving.{returned-last, same-block}
use Rattle.ba_inline.specs.Making.{return_label}
use Rattle.ba_inline.proofs.blocks.without_last_return.Goals as goal

pub returns-then-ends_in_return : goal.returns-then-ends_in_return
returns-then-ends_in_return c = same-block return_label c.pop.new.self.items c.args.nodes.items
    (returned-last c.args.nodes.items c.pop.new.self.items c.as_slice.result.now c.args.nodes.len
    c.as_slice.ensures.value c.as_slice.ensures.len
    (OnTrue_at {b = c.ends_in_return.result} (search rules) c.ends_in_return.ensures) c.pop.ensures.rest)
