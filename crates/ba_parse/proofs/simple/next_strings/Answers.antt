-- The loop, by the lemmas on parts that are read as often as they begin.

use Rattle.std.proofs.Common.{◌≡◌, ◌+◌, ◌-◌, true, false, List, [], ◌∷◌, length, rules, arith, ap}
use Rattle.std.proofs.lemmas.Result.{err_from_is_err_and}
use Rattle.ba_trees.specs.Marks.{Mark, leaf}
use Rattle.ba_parse.proofs.OtherRepeats.{string, a_string, leaves-push}
use Rattle.ba_parse.proofs.Repeats.{repeat-next, repeat-end, repeat-out, repeat-stop}
use Rattle.ba_parse.proofs.TypeWords.{leaves}
use Rattle.ba_parse.proofs.simple.next_strings.Goals as goal

pub returns-then-not-next_is : goal.returns-then-not-next_is
returns-then-not-next_is c =
    let none : string c.loop-read.reader ≡ false = search rules in
    repeat-end _ _ string a_string c.loop-read.reader _ c.loop-read.invariant none

pub returns : goal.returns
returns c = repeat-out _ _ string a_string c.loop-read.reader _ c.loop-read.invariant
    (omega (arith, ap length c.rest-most.ensures))

pub returns-in_err-string : goal.returns-in_err-string
returns-in_err-string c =
    let p = err_from_is_err_and c.from_residual.result c.from_residual.ensures.1 in
    let some : string c.loop-read.reader ≡ true = search rules in
    rw (p.1, p.2) (repeat-stop {A = List Mark} {B = List Mark} (λ f. f) (λ f. f) c.in_err-string.field-0.0 _ _
    string a_string c.loop-read.reader c.take.new.self _ c.loop-read.invariant some
    (omega (arith, ap length c.rest-most.ensures)) c.in_err-string.ensures)

pub loop-read-preserved : goal.loop-read-preserved
loop-read-preserved c =
    let some : string c.loop-read.reader ≡ true = search rules in
    let one : length c.args.reader.now - c.loop-read._read ≡ length c.args.reader.now
    - (c.loop-read._read + 1) + 1 = omega (arith, ap length c.rest-most.ensures) in
    repeat-next _ _ _ string a_string c.loop-read.reader c.take.new.self (leaves c.loop-read.rest.items)
    (leaves c.push.new.self.items) (leaf c.in_ok-string.string ∷ []) c.loop-read.invariant some one
    c.in_ok-string.ensures (leaves-push c.loop-read.rest.items c.push.new.self.items c.in_ok-string.string
    c.in_ok-push.ensures.items)
