use Rattle.std.proofs.Common.{rules, ◌≡◌, ◌<◌, ◌/◌, ◌%◌, [], ◌∷◌, ◌++◌, map, replicate, sym, ◌∙◌, ap, subst, arith, rc_value, div-add-mod'}
use Rattle.std.specs.List.{concat}
use Rattle.ba_guards.proofs.Chunks.{pushed, zeros-chunks, zeros-in-chunks}
use Rattle.ba_guards.specs.Chunks.{AreChunks}
use Rattle.ba_guards.proofs.variables.Variables.zeros.Goals as goal

pub invariant_of-result : goal.invariant_of-result
invariant_of-result c =
    let below : c.args.count % 128 < 128 = omega arith in
    let old = c.in_ok-chunks.chunks.items in
    let added : c.push.new.self.items ≡ old ++ c.in_ok-rest-2.rest ∷ [] = search rules in
    let lists : map rc_value c.push.new.self.items
    ≡ replicate (c.args.count / 128) (replicate 128 0) ++ replicate (c.args.count % 128) 0 ∷ [] =
    pushed rc_value old c.push.new.self.items c.in_ok-rest-2.rest
    (replicate (c.args.count / 128) (replicate 128 0)) (replicate (c.args.count % 128) 0) added
    c.in_ok-chunks.ensures (c.in_ok-rest-2.ensures.ok ∙ c.in_ok-rest.ensures) in
    subst (AreChunks 128) (sym lists) (zeros-chunks 128 (c.args.count / 128) (c.args.count % 128) below)

pub returns : goal.returns
returns c =
    let old = c.in_ok-chunks.chunks.items in
    let added : c.push.new.self.items ≡ old ++ c.in_ok-rest-2.rest ∷ [] = search rules in
    let lists : map rc_value c.push.new.self.items
    ≡ replicate (c.args.count / 128) (replicate 128 0) ++ replicate (c.args.count % 128) 0 ∷ [] =
    pushed rc_value old c.push.new.self.items c.in_ok-rest-2.rest
    (replicate (c.args.count / 128) (replicate 128 0)) (replicate (c.args.count % 128) 0) added
    c.in_ok-chunks.ensures (c.in_ok-rest-2.ensures.ok ∙ c.in_ok-rest.ensures) in
    ap concat lists
    ∙ zeros-in-chunks 128 c.args.count (c.args.count / 128) (c.args.count % 128) (div-add-mod' c.args.count 128)
