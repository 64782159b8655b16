-- What is counted one after the other.
use Rattle.std.proofs.Common.{◌≡◌, ℕ, ◌+◌, List, ◌++◌, ◌∙◌, ap, arith}
use Rattle.ba_expressions.specs.Inferring.{after, least_with, with_faults}
use Rattle.ba_typing.specs.declared.fault.Fault.{Fault}
use Rattle.ba_expressions.specs.declared.tally.Tally.{Tally}
use Rattle.ba_expressions.proofs.Least.{least-append, least-swap}

-- faults and then more
pub faults-twice : (old mid new : Tally) (fs gs : List Fault) → mid ≡ with_faults old fs → new ≡
    with_faults mid gs
    → new ≡ with_faults old (fs ++ gs)
faults-twice old mid new fs gs is more = more ∙ ap (λ t. with_faults t gs) is
    ∙ ap (λ l. record old { least = l }) (least-append old.least fs gs)

-- faults that were found after those that the definition has after them
pub faults-before : (old mid new : Tally) (c : ℕ) (fs gs : List Fault) → mid ≡ after old c fs
    → new ≡ with_faults mid gs → new ≡ after old c (gs ++ fs)
faults-before old mid new c fs gs is more = more ∙ ap (λ t. with_faults t gs) is
    ∙ ap (λ l. record { calls = old.calls + c; least = l }) (least-swap old.least fs gs)

-- a part and then faults
pub faults-behind : (old mid new : Tally) (c : ℕ) (fs gs : List Fault) → mid ≡ after old c fs
    → new ≡ with_faults mid gs → new ≡ after old c (fs ++ gs)
faults-behind old mid new c fs gs is more = more ∙ ap (λ t. with_faults t gs) is
    ∙ ap (λ l. record { calls = old.calls + c; least = l }) (least-append old.least fs gs)

-- faults and then a part
pub faults-then : (old mid new : Tally) (c : ℕ) (fs gs : List Fault) → mid ≡ with_faults old fs
    → new ≡ after mid c gs → new ≡ after old c (fs ++ gs)
faults-then old mid new c fs gs is more = more ∙ ap (λ t. after t c gs) is
    ∙ ap (λ l. record { calls = old.calls + c; least = l }) (least-append old.least fs gs)

-- a part and then another one
pub after-then : (old mid new : Tally) (c d : ℕ) (fs gs : List Fault) → mid ≡ after old c fs
    → new ≡ after mid d gs → new ≡ after old (c + d) (fs ++ gs)
after-then old mid new c d fs gs is more = let calls : old.calls + c + d ≡ old.calls + (c + d) = omega
    arith in
    more ∙ ap (λ t. after t d gs) is
    ∙ ap (λ l. record { calls = old.calls + c + d; least = l }) (least-append old.least fs gs)
    ∙ ap (λ n. record { calls = n; least = least_with old.least (fs ++ gs) }) calls

-- the same by other names
pub after-as : (old new : Tally) (c d : ℕ) (fs gs : List Fault) → c ≡ d → fs ≡ gs → new ≡ after old c fs
    → new ≡ after old d gs
after-as old new c d fs gs calls faults is =
    is ∙ ap (λ n. after old n fs) calls ∙ ap (λ xs. after old d xs) faults
