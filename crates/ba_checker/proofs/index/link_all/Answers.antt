use Rattle.std.proofs.Common.{arith, ap, ◌∙◌, ◌||◌, ltb, length, refl}
use Rattle.std.proofs.lemmas.List.{length-set}
use Rattle.ba_checker.specs.States.{is_live_at}
use Rattle.ba_checker.specs.Listed.{all_keys, anew}
use Rattle.ba_checker.proofs.ListedLaws.{AreListed-length, length-keys, linked_start, linked_step, linked_end}
use Rattle.ba_checker.proofs.index.link_all.Goals as goal

pub loop-place-init : goal.loop-place-init
loop-place-init c = (
  omega (arith, c.len-count.ensures, c.args.nodes.now.ok.0),
  linked_start c.args.nodes.now.items c.args.heads.now.items c.clear.new.links.items c.args.store.now
      c.requires.links c.requires.listed c.clear.ensures.none c.clear.ensures.len,
)

pub keeps_key-keeps-requires : goal.keeps_key-keeps-requires
keeps_key-keeps-requires c =
    let long = AreListed-length (all_keys c.loop-place.nodes.items) c.args.store.now
    c.loop-place.invariant.1.listed in
    let m = length-keys c.loop-place.nodes.items in
    omega (arith, long, m, c.loop-place.invariant.0, c.loop-place-test.true)

pub loop-place-preserved : goal.loop-place-preserved
loop-place-preserved c = (
  length-set c.loop-place.nodes.items c.loop-place.place c.anew-node.result ∙ c.loop-place.invariant.0,
  linked_step c.loop-place.place c.loop-place.nodes.items _ c.loop-place.heads.items
      c.relink.new.links.items c.args.store.now c.keeps_key-keeps.result c.index.result.now
      c.anew-node.result c.loop-place.invariant.1 (omega
      (arith, c.loop-place.invariant.0, c.loop-place-test.true)) c.index.ensures
      (c.keeps_key-keeps.ensures ∙ ap (λ heads. is_live_at c.args.store.now c.loop-place.place
      || ltb (length heads) 2) c.as_slice.ensures.value)
      (c.anew-node.ensures ∙ ap (anew c.keeps_key-keeps.result c.index.result.now)
      c.as_slice-in-loop-place.ensures.value) refl c.relink.ensures,
)

pub returns-clause-links : goal.returns-clause-links
returns-clause-links c =
    linked_end c.loop-place.place c.loop-place.nodes.items c.loop-place.heads.items c.args.store.now
    c.loop-place.invariant.1 (omega
    (arith, c.loop-place.invariant.0, c.loop-place-test.false, c.loop-place.auto.place-end))

pub returns-clause-listed : goal.returns-clause-listed
returns-clause-listed c = c.loop-place.invariant.1.listed
