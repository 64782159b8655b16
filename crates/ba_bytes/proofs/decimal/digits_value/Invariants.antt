use Rattle.std.proofs.Common.{◌≡◌, ◌-◌, ◌^◌, min, take}
use Rattle.std.specs.Str.Parse.{digits_value}
use Rattle.ba_bytes.proofs.decimal.digits_value.Given as goal

-- the value of the digits so far, up to the greatest
abbrev pub invariant-loop-digit : goal.invariant-loop-digit
invariant-loop-digit l = l.value ≡ min (digits_value 10 (take l.digit-index l.digits)) (2 ^ 64 - 1)
