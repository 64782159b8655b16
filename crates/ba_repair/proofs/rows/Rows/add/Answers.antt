use Rattle.ba_repair.proofs.RowForms.{seen-with}
use Rattle.ba_repair.proofs.rows.Rows.add.Goals as goal

pub returns : goal.returns
returns c = seen-with c.self.inside.rows.items c.index_mut.result.now c.push.new.self c.reach.new.self
    c.args.self.now c.args.found c.self.view_is c.in_ok-reach.ensures.there c.in_ok-reach.ensures.same
    c.index_mut.ensures.value c.in_ok-push.ensures.items
