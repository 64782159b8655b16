use Rattle.std.proofs.Common.{◌==◌, ◌&&◌, length, ap}
use Rattle.std.proofs.lemmas.Bool.{and_parts}
use Rattle.std.specs.List.{list_all}
use Rattle.ba_code.specs.Facts.{is_array, is_operand}
use Rattle.ba_code.specs.Meaning.{info_at}
use Rattle.ba_guards.proofs.Filling.{fill-arm}
use Rattle.ba_guards.proofs.steps.fill.Goals as goal

pub returns : goal.returns
returns c = λ d fits h.
    let vs = c.args.values.now in
    let tests = and_parts (is_array d c.args.array && list_all (is_operand d) vs) (length vs == (info_at
    d.arrays c.args.array).len) h in
    let all = (and_parts (is_array d c.args.array) (list_all (is_operand d) vs) tests.0).1 in
    fill-arm d c.args.b.now c.operands.new.b _ c.args.array c.at.result c.in_ok-version.version
    c.in_ok-words.words vs c.fill.new.self fits
    (c.in_ok-words.ensures d fits all) h c.at.ensures c.in_ok-version.ensures
    (ap (λ xs. record c.operands.new.b { words = c.fill.new.self; arrays = xs }) c.set.ensures)
