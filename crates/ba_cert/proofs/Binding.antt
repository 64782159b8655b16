-- Readings one after the other, and tests of what was read.

use Rattle.std.proofs.Common.{◌≡◌, Bool, true, false, cond, Option, None, Some, option_map, refl}
use Rattle.std.proofs.lemmas.Option.{none-some, same_Some}
use Rattle.ba_cert.specs.Reading.{◌>>=◌}

-- both gave something
pub record IsBound {A B : Type 0} (o : Option A) (f : A → Option B) (y : B) : Type 0 where
  pub value : A
  pub first : o ≡ Some value
  pub second : f value ≡ Some y

pub bound : {A B : Type 0} (o : Option A) (f : A → Option B) (y : B) → (o >>= f) ≡ Some y → IsBound o f y
bound None f y e = absurd (none-some y e)
bound (Some x) f y e = record { value = x; first = refl; second = e }

pub record IsMapped {A B : Type 0} (f : A → B) (o : Option A) (y : B) : Type 0 where
  pub value : A
  pub first : o ≡ Some value
  pub same : f value ≡ y

pub mapped : {A B : Type 0} (f : A → B) (o : Option A) (y : B) → option_map f o ≡ Some y → IsMapped f o y
mapped f None y e = absurd (none-some y e)
mapped f (Some x) y e = record { value = x; first = refl; same = same_Some (f x) y e }

-- a test that refuses, and one that is to hold
pub refused : {A : Type 0} (test : Bool) (o : Option A) (y : A) → cond test None o ≡ Some y →
    (test ≡ false) × (o ≡ Some y)
refused true o y e = absurd (none-some y e)
refused false o y e = (refl, e)

pub passed : {A : Type 0} (test : Bool) (o : Option A) (y : A) → cond test o None ≡ Some y →
    (test ≡ true) × (o ≡ Some y)
passed true o y e = (refl, e)
passed false o y e = absurd (none-some y e)

-- which way it went
pub choose : {A P : Type 0} (test : Bool) (x y : Option A) (z : A) → cond test x y ≡ Some z →
    (test ≡ true → x ≡ Some z → P) →
    (test ≡ false → y ≡ Some z → P) → P
choose true x y z e yea nay = yea refl e
choose false x y z e yea nay = nay refl e
