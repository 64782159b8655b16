-- Of parts that are read one after another, one that stops.

use Rattle.std.proofs.Common.{◌≡◌, List, Err, refl}
use Rattle.ba_tokens.specs.declared.token.Token.{Token}
use Rattle.ba_parse.specs.declared.reader.Stop.{Stop}
use Rattle.ba_parse.specs.declared.reader.Stop.TheVariants as stop
use Rattle.ba_trees.specs.Marks.{Mark}
use Rattle.ba_parse.specs.Readings.{Reading, ◌▹◌, done}
use Rattle.ba_parse.specs.Telling.{Told}

-- if a part stops, the whole stops
pub first-stops : {A B : Type 0} (part : A → List Mark) (all : B → List Mark) (s : Stop) (r q : Reading)
    (ts rest : List Token) → Told part (Err s) (r ts) rest → Told all (Err s) ((r ▹ q) ts) rest
first-stops part all stop.Syntax r q ts rest d = rw d refl
first-stops part all stop.TooDeep r q ts rest d = rw d refl
first-stops part all stop.Memory r q ts rest d = tt

pub next-stops : {A B : Type 0} (part : A → List Mark) (all : B → List Mark) (s : Stop) (r q : Reading)
    (ts mid rest : List Token) (f : List Mark) → r ts ≡ done f mid → Told part (Err s) (q mid) rest →
    Told all (Err s) ((r ▹ q) ts) rest
next-stops part all stop.Syntax r q ts mid rest f e d = rw (e, d) refl
next-stops part all stop.TooDeep r q ts mid rest f e d = rw (e, d) refl
next-stops part all stop.Memory r q ts mid rest f e d = tt
