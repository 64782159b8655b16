use Rattle.std.proofs.Common.{◌<◌, length, set, arith}
use Rattle.ba_words.proofs.Places.{AddUp-more}
use Rattle.ba_words.proofs.Carries.{all_sums}
use Rattle.ba_words.proofs.sums.add_with_carry.Goals as goal

pub returns-clause-sum : goal.returns-clause-sum
returns-clause-sum c =
    let in_a : 31 < length c.args.a.now = omega arith in
    let in_b : 31 < length c.args.b.now = omega arith in
    all_sums c.args.nodes.now c.full_adder.new.nodes c.args.a.now c.args.b.now c.args.carry (set c.in_ok-sums.sums 31 c.in_ok-highest.highest) c.in_ok-highest.carry_out c.told-a c.told-b
    (AddUp-more c.args.nodes.now c.low_sums.new.nodes c.full_adder.new.nodes c.args.a.now c.args.b.now c.args.carry 0 c.in_ok-sums.sums c.in_ok-sums.carried 31 c.in_ok-highest.highest c.in_ok-highest.carry_out
    (omega arith) in_a in_b c.requires.words.first c.requires.words.second c.low_sums.ensures.grows.extends c.full_adder.ensures.grows.extends c.in_ok-sums.ensures.sums c.in_ok-highest.ensures.sum c.in_ok-highest.ensures.carry)
