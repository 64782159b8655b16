-- What a reader answers, by what reading gives.

use Rattle.std.specs.Prelude.{◌≡◌, ◌≢◌, ℕ, List, Option, None, Some, Result, Ok, Err}
use Rattle.ba_cert.specs.declared.error.CertError.{CertError}
use Rattle.ba_cert.specs.declared.error.CertError.TheVariants.{BadLine, Memory}

-- a result that is read has this line, and nothing is read only if nothing has the line
abbrev pub IsReading : {A : Type 0} → (A → Type 0) → (A → List ℕ) → List ℕ → Option A → Type 0
IsReading P text line None = (a : _) → P a → line ≢ text a
IsReading P text line (Some a) = P a × (line ≡ text a)

-- an error is a bad line if reading gives nothing; out of memory says nothing
abbrev pub Refuses : {Y : Type 0} → CertError → Option Y → Type 0
Refuses BadLine read = read ≡ None
Refuses Memory read = Unit {0}

-- an answer, seen by `view`, is what reading gives
abbrev pub Parses : {X Y : Type 0} → (X → Y) → Result X CertError → Option Y → Type 0
Parses view (Ok x) read = read ≡ Some (view x)
Parses view (Err error) read = Refuses error read
