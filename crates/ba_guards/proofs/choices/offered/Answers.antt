use Rattle.ba_guards.proofs.Offering.{offered-by}
use Rattle.ba_guards.specs.Parts.{declared}
use Rattle.ba_guards.proofs.choices.offered.Goals as goal

pub returns : goal.returns
returns c = λ vars infos fit there.
    let flag = c.in_ok-keep.ensures fit in
    offered-by (declared vars c.args.arrays.now) c.args.take c.args.words.now c.flag.new.self
    c.any_values.new.words c.in_ok-keep.keep
    c.in_ok-values.values infos there flag.0 flag.1 (c.in_ok-values.ensures vars flag.1.fit)
