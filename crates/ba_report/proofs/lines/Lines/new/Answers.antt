use Rattle.std.proofs.Common.{Ok, rules}
use Rattle.std.specs.declared.alloc.AllocError.{AllocError}
use borrow.Author.Tests.{tests}
use Rattle.std.proofs.lemmas.Iterator.Consumers.{map_from_collect}
use Rattle.std.proofs.lemmas.Iterator.Splits.{YieldsList-from_slice_split}
use Rattle.ba_bytes.specs.Classes.{is_line_end}
use Rattle.ba_report.proofs.lines.Lines.new.Goals as goal

pub returns : goal.returns
returns c =
    map_from_collect {E = AllocError} (Ok c.in_ok-lines.lines) c.in_ok-lines.ensures.ran
    (YieldsList-from_slice_split _ is_line_end c.args.text.now c.split.ensures.rest c.split.ensures.done
    c.split.ensures.closure (λ x b q k. search (rules, tests)))
