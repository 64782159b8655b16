-- The loop, by the lemmas on parts that are read as often as they begin.

use Rattle.std.proofs.Common.{◌≡◌, ◌+◌, ◌-◌, true, false, List, length, rules, arith, ap}
use Rattle.std.proofs.lemmas.Result.{err_from_is_err_and}
use Rattle.ba_trees.specs.Marks.{Mark}
use Rattle.ba_trees.specs.ExternalMarks.{external_marks}
use Rattle.ba_parse.specs.Readings.{levels_left}
use Rattle.ba_parse.proofs.StatementBegins.{external, an_external}
use Rattle.ba_parse.proofs.Repeats.{repeat-turn, repeat-end, repeat-out, repeat-stop}
use Rattle.ba_parse.proofs.parser.externals.Goals as goal

pub returns-then-not-next_is : goal.returns-then-not-next_is
returns-then-not-next_is c =
    let none : external c.loop-read.reader ≡ false = search rules in
    repeat-end _ _ external (an_external (levels_left c.args.levels)) c.loop-read.reader _
    c.loop-read.invariant none

pub returns : goal.returns
returns c = repeat-out _ _ external (an_external (levels_left c.args.levels)) c.loop-read.reader _
    c.loop-read.invariant (omega (arith, ap length c.rest-most.ensures))

pub returns-in_err-external : goal.returns-in_err-external
returns-in_err-external c =
    let p = err_from_is_err_and c.from_residual.result c.from_residual.ensures.1 in
    let some : external c.loop-read.reader ≡ true = search rules in
    rw (p.1, p.2) (repeat-stop {A = List Mark} {B = List Mark} (λ f. f) (λ f. f) c.in_err-external.field-0.0 _
    _ external (an_external (levels_left c.args.levels)) c.loop-read.reader c.external.new.reader _
    c.loop-read.invariant some (omega (arith, ap length c.rest-most.ensures)) c.in_err-external.ensures)

pub loop-read-preserved : goal.loop-read-preserved
loop-read-preserved c =
    let some : external c.loop-read.reader ≡ true = search rules in
    let one : length c.args.reader.now - c.loop-read._read ≡ length c.args.reader.now
    - (c.loop-read._read + 1) + 1 = omega (arith, ap length c.rest-most.ensures) in
    repeat-turn external_marks _ _ _ external (an_external (levels_left c.args.levels)) c.loop-read.reader
    c.external.new.reader c.loop-read.all.items c.push.new.self.items _ c.loop-read.invariant some one
    c.in_ok-external.ensures c.in_ok-push.ensures.items
