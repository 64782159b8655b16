use Rattle.std.proofs.Common.{◌≡◌, ◌+◌, ◌≤◌, length, take}
use Rattle.std.specs.List.{suffix_len}
use Rattle.ba_bytes.specs.Classes.{is_blank}
use Rattle.ba_report.proofs.lines.trimmed_end.Given as goal

-- what is from the end so far on is blank
abbrev pub invariant-loop-end : goal.invariant-loop-end
invariant-loop-end l = record {
  within : l.end ≤ length l.line;
  blank : l.end + suffix_len is_blank l.line ≡ length l.line + suffix_len is_blank (take l.end l.line);
}

abbrev pub decreases-loop-end : goal.decreases-loop-end
decreases-loop-end l = l.end
