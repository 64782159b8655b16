use Rattle.std.proofs.Common.{arith, ap, ◌∙◌, get_or}
use Rattle.ba_checker.proofs.ListedLaws.{listed_more}
use Rattle.ba_checker.proofs.index.Index.push.Goals as goal

pub invariant_of-self-2 : goal.invariant_of-self-2
invariant_of-self-2 c =
    listed_more c.self.inside.nodes.items c.push.new.self.items c.self.inside.heads.items
    c.fill_up.new.items.items c.relink.new.links.items c.in_ok-node.node c.args.keys c.len-place.result
    c.link.result c.self.invariant c.fill_up.ensures.same (omega (arith, c.in_ok-fill_up.ensures.room))
    (omega (arith, c.len-place.ensures, c.self.inside.nodes.ok.0)) (omega (arith, c.if-place.false))
    c.in_ok-node.ensures.0 c.in_ok-node.ensures.1 (c.link.ensures
    ∙ ap (λ links. get_or links c.args.keys.key 0) c.as_slice.ensures.value) c.in_ok-push.ensures.items
    c.relink.ensures
