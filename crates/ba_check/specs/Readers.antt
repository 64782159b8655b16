-- A reader of a certificate, as a contract sees it.

use Rattle.ba_check.specs.Readings.{Confirming, course_kept}
use Rattle.ba_check.specs.declared.pieces.Confirm.{Confirm}
use Rattle.ba_choices.specs.Judges.{Judge}

-- what a reader of pieces keeps, as contracts see it, by what its judge accepts
abbrev pub seen : {J : Type 0} → (J → Judge) → Confirm J → Confirming
seen accepts confirm = record {
  head = confirm.head;
  good = accepts confirm.judge;
  course = course_kept confirm.reading.checked;
  rest = confirm.reading.rest.items;
  refusal = confirm.refusal;
}
