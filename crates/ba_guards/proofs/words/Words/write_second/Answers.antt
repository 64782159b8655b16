use Rattle.ba_guards.proofs.Doubles.{doubled}
use Rattle.ba_guards.proofs.words.Words.write_second.Goals as goal

pub returns-in_ok-word-in-Some : goal.returns-in_ok-word-in-Some
returns-in_ok-word-in-Some c = λ count fit sides below long index_below value_below.
    doubled c.args.self.now c.select.new.self c.select-in-Some.new.self _ c.args.of c.in-Some.first.of
    c.in-Some.first.index c.in-Some.first.value c.args.index c.args.value c.in_ok-index-in-Some.index
    c.in_ok-value-in-Some.value c.in_ok-word-in-Some.word count c.args.sides.now fit sides
    c.in-Some.ensures long index_below value_below c.in_ok-index-in-Some.ensures
    c.in_ok-value-in-Some.ensures c.in_ok-word-in-Some.ensures

pub returns-in_ok-word-in-None : goal.returns-in_ok-word-in-None
returns-in_ok-word-in-None c = λ count fit sides below long index_below value_below.
    c.in_ok-word-in-None.ensures count fit below long index_below value_below sides.second_name
