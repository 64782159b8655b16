-- THE LIMITS on files, in bytes.

use Rattle.std.specs.Prelude.{ℕ, ◌^◌}
use Rattle.ba_answers.specs.declared.file.File.{File}
use Rattle.ba_answers.specs.declared.file.File.TheVariants as file

-- the limit on a certificate, which is checked as it is read; and on any other file, which is read whole
abbrev pub certificate_limit : ℕ
certificate_limit = 2 ^ 62

-- how many bytes a file may have that is read whole
abbrev pub limit : ℕ
limit = 65536

-- how many bytes a file of a call may have
abbrev pub limit_of : File → ℕ
limit_of file.Certificate = certificate_limit
limit_of _ = limit
