-- The steps that the bytes of a certificate write.

use Rattle.std.specs.Prelude.{ℕ, ◌==◌, Bool, true, false, cond, Option, None, Some, option_map, List, [], ◌∷◌, length, bytes_eq}
use Rattle.ba_bytes.specs.Lines.{lines_of}
use Rattle.ba_steps.specs.declared.step.CertStep.{CertStep}
use Rattle.ba_cert.specs.declared.head.CertHead.{CertHead}
use Rattle.ba_cert.specs.Text.{head_line, settings_line}
use Rattle.ba_cert.specs.Reading.{◌>>=◌, step_in}

-- what may follow the last line feed: no byte; any bytes, if the text need not be whole
abbrev pub last_by : Bool → List ℕ → Option (List CertStep)
last_by true rest = cond (length rest == 0) (Some []) None
last_by false rest = Some []

-- the steps of lines; the last bytes are no whole line
abbrev pub steps_by : Bool → List (List ℕ) → Option (List CertStep)
steps_by whole [] = None
steps_by whole (rest ∷ []) = last_by whole rest
steps_by whole (line ∷ other ∷ lines) =
    step_in line >>= (λ step. option_map (λ steps. step ∷ steps) (steps_by whole (other ∷ lines)))

-- the steps after this first line
abbrev pub after_first : List ℕ → (List (List ℕ) → Option (List CertStep)) → List (List ℕ) →
    Option (List CertStep)
after_first wanted reading [] = None
after_first wanted reading (line ∷ []) = None
after_first wanted reading (line ∷ other ∷ lines) =
    cond (bytes_eq line wanted) (reading (other ∷ lines)) None

-- the steps after the two lines of these settings
abbrev pub after_head : CertHead → Bool → List (List ℕ) → Option (List CertStep)
after_head h whole lines = after_first head_line (after_first (settings_line h) (steps_by whole)) lines

-- the steps of the lines, each with its line feed; if the text has to be whole, nothing follows them
unfoldable pub steps_from : CertHead → Bool → List ℕ → Option (List CertStep)
steps_from h whole bytes = after_head h whole (lines_of bytes)
