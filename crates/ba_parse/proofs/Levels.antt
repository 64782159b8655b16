-- What is read inside a construct, by how many levels are left, and the operators of each level.

use Rattle.std.proofs.Common.{◌≡◌, ℕ, ◌+◌, ◌-◌, ◌<◌, ◌≤◌, Bool, true, false, if◌then◌else◌, List, ◌++◌, Result, Ok, Err, MatchResult, refl, sym, ap, subst, ◌∙◌, add-one, arith}
use Prim.Native.Nat.{zero, suc}
use Rattle.ba_tokens.specs.declared.token.Token.{Token}
use Rattle.ba_parse.specs.declared.reader.Stop.{Stop}
use Rattle.ba_parse.specs.declared.reader.Stop.TheVariants as stop
use Rattle.ba_parse.specs.Grammar.{operator}
use Rattle.ba_trees.specs.Marks.{Mark, one_deeper}
use Rattle.ba_parse.specs.Readings.{Answer, done, syntax, too_deep, lowered, Reading, Inner, Inside, levels_left, read_inside, shallow, when_empty, starts_of, next_is, then_read, read_operand, read_unary, read_maybe, read_chain, in_chained, ◌▹◌}
use Rattle.ba_parse.specs.Telling.{Told, refusal}

pub levels_left-none : (n : ℕ) (i : Inside) (ts : List Token) → n ≡ 0 → levels_left n i ts ≡ shallow i ts
unfolding levels_left
levels_left-none zero i ts e = refl
levels_left-none (suc n) i ts e = absurd (omega arith)

pub levels_left-some : (n : ℕ) (i : Inside) (ts : List Token) → (n ≡ 0 → ⊥) → levels_left n i ts ≡ read_inside
    (levels_left (n - 1)) i ts
unfolding levels_left
levels_left-some zero i ts e = absurd (e refl)
levels_left-some (suc n) i ts e = let same : n ≡ suc n - 1 = omega arith in
    ap (λ m. read_inside (levels_left m) i ts) same

refused_or_empty : (b : Bool) (empty : Answer) (ts : List Token) → empty ≡ syntax ts →
    Told {A = List Mark} (λ f. f) (Err (refusal b)) (if b then too_deep ts else empty) ts
refused_or_empty true empty ts e = refl
refused_or_empty false empty ts e = e

-- one part was read, and then another
pub both-read : (r s : Reading) (ts mid rest : List Token) (f g : List Mark) → r ts ≡ done f mid →
    s mid ≡ done g rest → (r ▹ s) ts ≡ done (f ++ g) rest
both-read r s ts mid rest f g e d = rw (e, d) refl

-- if no level is left
pub none-told : (n : ℕ) (i : Inside) (ts : List Token) (s : Stop) → n ≡ 0 → when_empty i ts ≡ syntax ts →
    s ≡ refusal (next_is (starts_of i) ts) → Told {A = List Mark} (λ f. f) (Err s) (levels_left n i ts) ts
none-told n i ts s e empty is = rw (levels_left-none n i ts e, is)
    (refused_or_empty (next_is (starts_of i) ts) (when_empty i ts) ts empty)

-- inside an operator of a level
pub chained-some : (n : ℕ) (level : ℕ) (ts : List Token) → (n ≡ 0 → ⊥) → 0 < level →
    levels_left n (in_chained level) ts ≡ (read_operand (levels_left (n - 1)) (level - 1) ▹ read_maybe
    (operator level) (read_chain (levels_left (n - 1)) level)) ts
chained-some n zero ts some up = absurd (omega arith)
chained-some n (suc level) ts some up =
    let same : level ≡ suc level - 1 = omega arith in
    levels_left-some n (in_chained (suc level)) ts some
    ∙ ap (λ m. (read_operand (levels_left (n - 1)) m ▹ read_maybe (operator (suc level))
    (read_chain (levels_left (n - 1)) (suc level))) ts) same

-- operands by level
pub operand-none : (inner : Inner) (ts : List Token) → read_operand inner 0 ts ≡ read_unary inner ts
operand-none inner ts = refl

pub operand-more : (inner : Inner) (n : ℕ) (ts : List Token) → read_operand inner (n + 1) ts ≡ then_read
    (read_operand inner n ts) (λ f. read_maybe (operator (n + 1)) (read_chain inner (n + 1)))
operand-more inner n ts = rw (add-one n) refl

pub operand-next : (inner : Inner) (n : ℕ) (ts mid rest : List Token) (f g : List Mark) →
    read_operand inner n ts ≡ done f mid → read_maybe (operator (n + 1)) (read_chain inner (n + 1)) mid
    ≡ done g rest → read_operand inner (n + 1) ts ≡ done (f ++ g) rest
operand-next inner n ts mid rest f g e d = rw (operand-more inner n ts, e, d) refl

-- where it stops, it stops for all that bind looser
abbrev Stops : Answer → Type 0
Stops (done f rest) = ⊥
Stops (syntax rest) = Unit {0}
Stops (too_deep rest) = Unit {0}

then_read-stops : (a : Answer) (k : List Mark → Reading) → Stops a → then_read a k ≡ a
then_read-stops (done f rest) k s = absurd s
then_read-stops (syntax rest) k s = refl
then_read-stops (too_deep rest) k s = refl

operand-same : (inner : Inner) (a : Answer) (n m : ℕ) (ts : List Token) → Stops a → read_operand inner n ts
    ≡ a → read_operand inner (m + n) ts ≡ a
operand-same inner a n zero ts s e = let is : 0 + n ≡ n = omega arith in rw is e
operand-same inner a n (suc m) ts s e =
    let is : suc m + n ≡ m + n + 1 = omega arith in
    let next : Reading = read_maybe (operator (m + n + 1)) (read_chain inner (m + n + 1)) in
    ap (λ k. read_operand inner k ts) is ∙ operand-more inner (m + n) ts
    ∙ ap (λ x. then_read x (λ f. next)) (operand-same inner a n m ts s e) ∙ then_read-stops a (λ f. next) s

operand-stays : (inner : Inner) (a : Answer) (n m : ℕ) (ts : List Token) → Stops a → n ≤ m →
    read_operand inner n ts ≡ a → read_operand inner m ts ≡ a
operand-stays inner a n m ts s le e = let is : m ≡ m - n + n = omega arith in
    rw is (operand-same inner a n (m - n) ts s e)

pub operand-first_stops : {A : Type 0} (part : A → List Mark) {B : Type 0} (all : B → List Mark) (s : Stop)
    (inner : Inner) (m : ℕ) (ts rest : List Token) → Told part (Err s) (read_unary inner ts) rest →
    Told all (Err s) (read_operand inner m ts) rest
operand-first_stops part all stop.Syntax inner m ts rest d = operand-stays inner (syntax rest) 0 m ts tt
    (omega arith) (operand-none inner ts ∙ d)
operand-first_stops part all stop.TooDeep inner m ts rest d = operand-stays inner (too_deep rest) 0 m ts tt
    (omega arith) (operand-none inner ts ∙ d)
operand-first_stops part all stop.Memory inner m ts rest d = tt

pub operand-stops : {A : Type 0} (part : A → List Mark) {B : Type 0} (all : B → List Mark) (s : Stop)
    (inner : Inner) (n m : ℕ) (ts mid rest : List Token) (f : List Mark) → read_operand inner n ts ≡ done f
    mid → n < m → Told part (Err s) (read_maybe (operator (n + 1)) (read_chain inner (n + 1)) mid) rest →
    Told all (Err s) (read_operand inner m ts) rest
operand-stops part all stop.Syntax inner n m ts mid rest f e lt d =
    operand-stays inner (syntax rest) (n + 1) m ts tt (omega arith) (operand-more inner n ts ∙ rw (e, d) refl)
operand-stops part all stop.TooDeep inner n m ts mid rest f e lt d =
    operand-stays inner (too_deep rest) (n + 1) m ts tt (omega arith) (operand-more inner n ts
    ∙ rw (e, d) refl)
operand-stops part all stop.Memory inner n m ts mid rest f e lt d = tt

-- if a part stops, it stops inside one more construct
pub lowered-stops : {A : Type 0} (part : A → List Mark) {B : Type 0} (all : B → List Mark) (s : Stop)
    (a : Answer) (rest : List Token) → Told part (Err s) a rest → Told all (Err s) (lowered a) rest
lowered-stops part all stop.Syntax a rest d = ap lowered d
lowered-stops part all stop.TooDeep a rest d = ap lowered d
lowered-stops part all stop.Memory a rest d = tt

-- a part that was read, put into one more construct
pub deeper-told : {A : Type 0} (whole : A → List Mark) (r : Result A Stop) (a : Answer) (f : List Mark)
    (rest : List Token) → a ≡ done f rest → MatchResult r (λ v. whole v ≡ one_deeper f) (λ s. s ≡ stop.Memory)
    → Told whole r (lowered a) rest
deeper-told whole (Ok v) a f rest e h = ap lowered e ∙ ap (λ g. done g rest) (sym h)
deeper-told whole (Err s) a f rest e h = subst (λ s. Told whole (Err s) (lowered a) rest) (sym h) tt
