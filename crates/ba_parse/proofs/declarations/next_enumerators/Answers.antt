-- The loop, by the lemmas on parts that are read as often as they begin.

use Rattle.std.proofs.Common.{◌≡◌, ◌+◌, ◌-◌, true, false, List, length, rules, arith, ap}
use Rattle.std.proofs.lemmas.Result.{err_from_is_err_and}
use Rattle.ba_trees.specs.Marks.{Mark}
use Rattle.ba_trees.specs.DeclarationMarks.{next_enumerator_marks}
use Rattle.ba_parse.specs.Readings.{levels_left}
use Rattle.ba_parse.proofs.Begins.{enumerator, next_enumerator}
use Rattle.ba_parse.proofs.Repeats.{repeat-turn, repeat-end, repeat-out, repeat-stop}
use Rattle.ba_parse.proofs.declarations.next_enumerators.Goals as goal

pub returns-then-not-next_are : goal.returns-then-not-next_are
returns-then-not-next_are c =
    let none : enumerator c.loop-read.reader ≡ false = search rules in
    repeat-end _ _ enumerator (next_enumerator (levels_left c.args.levels)) c.loop-read.reader _
    c.loop-read.invariant none

pub returns : goal.returns
returns c = repeat-out _ _ enumerator (next_enumerator (levels_left c.args.levels)) c.loop-read.reader _
    c.loop-read.invariant (omega (arith, ap length c.rest-most.ensures))

pub returns-in_err-next_enumerator : goal.returns-in_err-next_enumerator
returns-in_err-next_enumerator c =
    let p = err_from_is_err_and c.from_residual.result c.from_residual.ensures.1 in
    let some : enumerator c.loop-read.reader ≡ true = search rules in
    rw (p.1, p.2) (repeat-stop {A = List Mark} {B = List Mark} (λ f. f) (λ f. f)
    c.in_err-next_enumerator.field-0.0 _ _ enumerator (next_enumerator (levels_left c.args.levels))
    c.loop-read.reader c.next_enumerator.new.reader _ c.loop-read.invariant some
    (omega (arith, ap length c.rest-most.ensures)) c.in_err-next_enumerator.ensures)

pub loop-read-preserved : goal.loop-read-preserved
loop-read-preserved c =
    let some : enumerator c.loop-read.reader ≡ true = search rules in
    let one : length c.args.reader.now - c.loop-read._read ≡ length c.args.reader.now
    - (c.loop-read._read + 1) + 1 = omega (arith, ap length c.rest-most.ensures) in
    repeat-turn next_enumerator_marks _ _ _ enumerator (next_enumerator (levels_left c.args.levels))
    c.loop-read.reader c.next_enumerator.new.reader c.loop-read.rest.items c.push.new.self.items _
    c.loop-read.invariant some one c.in_ok-next_enumerator.ensures c.in_ok-push.ensures.items
