-- What a read has come to still is after printing.

use Rattle.std.proofs.Common.{◌≡◌, ◌⊎◌, inl, inr, List, ℕ, [], ◌++◌, length, None, Some, IfSome, option_map, sym, ap, subst, ◌∙◌}
use Rattle.ba_world.specs.World.{HasReadFault, OnlyPrints, Outside, Rose}
use Rattle.ba_world.specs.Read.{IsReadTo, IsReadWhole, RoseBy, Stopped, StoppedPast}

pub read_to_later : (name bytes : List ℕ) (old mid new : Outside) → OnlyPrints mid new →
    IsReadTo name bytes old mid → IsReadTo name bytes old new
read_to_later name bytes old mid new prints read = record {
  reading = prints.is_reading ∙ read.reading;
  parts = read.parts ∙ ap (option_map (λ rest. Some (bytes ++ rest))) (sym prints.left);
  counted = subst (λ given. RoseBy (length bytes) old.given given) (sym prints.given) read.counted;
}

pub whole_later : (name bytes : List ℕ) (old mid new : Outside) → OnlyPrints mid new →
    IsReadWhole name bytes old mid → IsReadWhole name bytes old new
whole_later name bytes old mid new prints whole = record {
  reading = prints.is_reading ∙ whole.reading;
  bytes_are = whole.bytes_are;
  at_end = subst (λ left. IfSome left (λ rest. rest ≡ [])) (sym prints.left) whole.at_end;
  counted = prints.given ∙ whole.counted;
}

-- a fault that rose before has risen still
rose_later : (old mid new : ℕ) → new ≡ mid → Rose old mid → Rose old new
rose_later old mid new same rose = subst (λ n. Rose old n) (sym same) rose

pub stopped_later : (name : List ℕ) (limit : ℕ) (old mid new : Outside) → OnlyPrints mid new →
    Stopped name limit old mid → Stopped name limit old new
stopped_later name limit old mid new prints (inl opening) = inl (record {
  cause = still opening.cause;
  closed = prints.is_reading ∙ opening.closed;
  none_given = prints.given ∙ opening.none_given;
})
  where
    still : HasReadFault old mid ⊎ (old.held name ≡ Some None) →
        HasReadFault old new ⊎ (old.held name ≡ Some None)
    still (inl rose) = inl (rose_later old.read_faults mid.read_faults new.read_faults prints.read_faults rose)
    still (inr absent) = inr absent
stopped_later name limit old mid new prints (inr reading) = inr (record {
  bytes = reading.bytes;
  read = read_to_later name reading.bytes old mid new prints reading.read;
  within = reading.within;
  cause = rose_later old.read_faults mid.read_faults new.read_faults prints.read_faults reading.cause;
})

pub past_later : (name : List ℕ) (limit : ℕ) (old mid new : Outside) → OnlyPrints mid new →
    StoppedPast name limit old mid → StoppedPast name limit old new
past_later name limit old mid new prints past = record {
  bytes = past.bytes;
  read = read_to_later name past.bytes old mid new prints past.read;
  longer = past.longer;
  last = past.last;
}
