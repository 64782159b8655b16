use Rattle.std.proofs.Common.{rules, false, length, take, ◌≡◌, ◌<◌}
use Rattle.std.proofs.lemmas.List.{get_or_default}
use Rattle.ba_inline.proofs.Rows.{bound-more, given-at}
use Rattle.ba_inline.specs.Making.{reading_arguments}
use Rattle.ba_inline.specs.Names.{seen}
use Rattle.ba_tree.specs.Run.{bind_all}
use Rattle.ba_inline.proofs.binding.bind_all.Goals as goal

pub loop-i-preserved : goal.loop-i-preserved
loop-i-preserved c = λ names low base scope given binds.
    let p = c.args.setting.now.program.now in
    let params = c.args.params.now in
    let gives = c.args.given.now in
    let i = c.loop-i.i in
    let same : length params ≡ length gives = search rules in
    let within : i < length gives = search (rules, same) in
    bound-more p names c.bind_one.new.scope low c.bind_one.new.declared base c.bind_one.new.out.items
    params gives i _ _
    (c.in_ok-bind_one.ensures names (take i params)
    (λ t. bind_all (take i params) (take i (reading_arguments gives t)) (seen names t)) low base scope
    (given-at false names low gives i _ given within (get_or_default gives i _ _ within))
    (c.loop-i.invariant names low base scope given binds)) same (search rules)
    (get_or_default params i _ _ (search rules)) (get_or_default gives i _ _ within)
