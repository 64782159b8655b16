-- Parts that are read as often as they begin.

use Rattle.std.proofs.Common.{◌≡◌, ℕ, ◌+◌, ◌-◌, ◌<◌, Bool, true, false, List, [], ◌∷◌, ◌++◌, Err, map, take, drop, append_assoc, refl, sym, ap, ◌∙◌, arith}
use Rattle.std.proofs.lemmas.List.{append-nil, map-append}
use Prim.Native.Nat.{zero, suc}
use Rattle.ba_tokens.specs.declared.token.Token.{Token}
use Rattle.ba_parse.specs.declared.reader.Stop.{Stop}
use Rattle.ba_parse.specs.declared.reader.Stop.TheVariants as stop
use Rattle.ba_trees.specs.Marks.{Mark}
use Rattle.ba_parse.specs.Readings.{Answer, done, syntax, too_deep, Reading, with_front, then_read, many_upto}
use Rattle.ba_parse.specs.Telling.{Told}
use Rattle.ba_trees.specs.Views.{joined}

pub joined_push : (fs : List (List Mark)) (f : List Mark) → joined (fs ++ f ∷ []) ≡ joined fs ++ f
joined_push [] f = append-nil f
joined_push (g ∷ fs) f = ap (λ x. g ++ x) (joined_push fs f) ∙ sym (append_assoc g (joined fs) f)

pub each_push : {A : Type 0} (part : A → List Mark) (xs : List A) (x : A) → joined (map part (xs ++ x ∷ []))
    ≡ joined (map part xs) ++ part x
each_push part xs x = ap joined (map-append part xs (x ∷ [])) ∙ joined_push (map part xs) (part x)

pub each_front : {A : Type 0} (part : A → List Mark) (xs all : List A) (x : A) → all ≡ take 0 xs ++ x ∷ drop 0
    xs → joined (map part all) ≡ part x ++ joined (map part xs)
each_front part [] all x e = ap (λ ys. joined (map part ys)) e
each_front part (y ∷ xs) all x e = ap (λ ys. joined (map part ys)) e

with_front-none : (a : Answer) → a ≡ with_front [] a
with_front-none (done f rest) = refl
with_front-none (syntax rest) = refl
with_front-none (too_deep rest) = refl

with_front-twice : (f g : List Mark) (a : Answer) → with_front f (with_front g a) ≡ with_front (f ++ g) a
with_front-twice f g (done h rest) = ap (λ x. done x rest) (sym (append_assoc f g h))
with_front-twice f g (syntax rest) = refl
with_front-twice f g (too_deep rest) = refl

many_upto-end : (n : ℕ) (begins : List Token → Bool) (r : Reading) (ts : List Token) → begins ts ≡ false →
    many_upto n begins r ts ≡ done [] ts
unfolding many_upto
many_upto-end zero begins r ts e = refl
many_upto-end (suc n) begins r ts e = rw e refl

many_upto-turn : (n : ℕ) (begins : List Token → Bool) (r : Reading) (ts : List Token) → begins ts ≡ true →
    0 < n → many_upto n begins r ts ≡ then_read (r ts) (λ f. many_upto (n - 1) begins r)
unfolding many_upto
many_upto-turn zero begins r ts e some = absurd (omega arith)
many_upto-turn (suc n) begins r ts e some =
    let same : n ≡ suc n - 1 = omega arith in
    rw e (ap (λ m. then_read (r ts) (λ f. many_upto m begins r)) same)

-- The whole is what was read, and then what is read from here. So it begins,
pub repeat-start : (n : ℕ) (begins : List Token → Bool) (r : Reading) (ts : List Token) →
    many_upto n begins r ts ≡ with_front [] (many_upto n begins r ts)
repeat-start n begins r ts = with_front-none (many_upto n begins r ts)

-- goes on,
pub repeat-next : (whole : Answer) (n less : ℕ) (begins : List Token → Bool) (r : Reading)
    (ts mid : List Token) (f all g : List Mark) → whole ≡ with_front f (many_upto n begins r ts) →
    begins ts ≡ true → n ≡ less + 1 → r ts ≡ done g mid → all ≡ f ++ g →
    whole ≡ with_front all (many_upto less begins r mid)
repeat-next whole n less begins r ts mid f all g h e one d push =
    let same : n - 1 ≡ less = omega arith in
    let turn : with_front f (then_read (r ts) (λ f. many_upto (n - 1) begins r)) ≡ with_front all
    (many_upto less begins r mid) =
    rw (d, same, push) (with_front-twice f g (many_upto less begins r mid)) in
    h ∙ ap (with_front f) (many_upto-turn n begins r ts e (omega arith)) ∙ turn

pub repeat-turn : {A : Type 0} (part : A → List Mark) (whole : Answer) (n less : ℕ) (begins : List Token →
    Bool) (r : Reading) (ts mid : List Token) (xs all : List A) (x : A) →
    whole ≡ with_front (joined (map part xs)) (many_upto n begins r ts) → begins ts ≡ true → n ≡ less + 1 →
    r ts ≡ done (part x) mid → all ≡ xs ++ x ∷ [] → whole ≡ with_front (joined (map part all))
    (many_upto less begins r mid)
repeat-turn part whole n less begins r ts mid xs all x h e one d push = repeat-next whole n less begins r ts
    mid (joined (map part xs)) (joined (map part all)) (part x) h e one d (ap (λ ys. joined (map part ys))
    push ∙ each_push part xs x)

-- ends,
pub repeat-end : (whole : Answer) (n : ℕ) (begins : List Token → Bool) (r : Reading) (ts : List Token)
    (f : List Mark) → whole ≡ with_front f (many_upto n begins r ts) → begins ts ≡ false → whole ≡ done f ts
repeat-end whole n begins r ts f h e = h ∙ ap (with_front f) (many_upto-end n begins r ts e)
    ∙ ap (λ x. done x ts) (append-nil f)

pub repeat-out : (whole : Answer) (n : ℕ) (begins : List Token → Bool) (r : Reading) (ts : List Token)
    (f : List Mark) → whole ≡ with_front f (many_upto n begins r ts) → n ≡ 0 → whole ≡ done f ts
unfolding many_upto
repeat-out whole zero begins r ts f h e = h ∙ ap (λ x. done x ts) (append-nil f)
repeat-out whole (suc n) begins r ts f h e = absurd (omega arith)

-- or stops.
pub repeat-stop : {A B : Type 0} (part : A → List Mark) (all : B → List Mark) (s : Stop) (whole : Answer)
    (n : ℕ) (begins : List Token → Bool) (r : Reading) (ts rest : List Token) (f : List Mark) →
    whole ≡ with_front f (many_upto n begins r ts) → begins ts ≡ true → 0 < n →
    Told part (Err s) (r ts) rest → Told all (Err s) whole rest
repeat-stop part all stop.Syntax whole n begins r ts rest f h e some d = h
    ∙ ap (with_front f) (many_upto-turn n begins r ts e some) ∙ rw d refl
repeat-stop part all stop.TooDeep whole n begins r ts rest f h e some d = h
    ∙ ap (with_front f) (many_upto-turn n begins r ts e some) ∙ rw d refl
repeat-stop part all stop.Memory whole n begins r ts rest f h e some d = tt
