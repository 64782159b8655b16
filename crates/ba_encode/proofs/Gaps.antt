-- The soft literals of groups, one after the other.
use Rattle.std.proofs.Common.{◌≡◌, ℕ, suc, zero, ◌+◌, ◌-◌, ◌<◌, List, [], ◌∷◌, ◌++◌, drop, replicate, length, get_or, sym, ap, ◌∙◌, arith}
use Rattle.std.proofs.lemmas.List.{append_assoc}
use Rattle.ba_encode.specs.Softs.{soft_of, softs_from}
use Rattle.ba_encode.specs.declared.encoded.Group.{Group}
use Rattle.ba_lits.specs.Satisfaction.{Soft}

-- the entries of a group and of those after it
from-here : (groups : List Group) (k next : ℕ) (g : Group) → k < length groups → get_or groups k g ≡ g
    → softs_from next (drop k groups)
    ≡ replicate (g.number - next) (g.selector, 0) ++ soft_of g
    ∷ softs_from (g.number + 1) (drop (k + 1) groups)
from-here [] k next g few is = absurd (omega (arith, few))
from-here (h ∷ gs) zero next g few is =
    ap (λ (x : Group). replicate (x.number - next) (x.selector, 0) ++ soft_of x
    ∷ softs_from (x.number + 1) gs) is
from-here (h ∷ gs) (suc k) next g few is =
    let same : suc (k + 1) ≡ suc k + 1 = omega arith in
    from-here gs k next g (omega (arith, few)) is
    ∙ ap (λ j. replicate (g.number - next) (g.selector, 0) ++ soft_of g
    ∷ softs_from (g.number + 1) (drop j (h ∷ gs))) same

pub softs-more : (groups : List Group) (k next : ℕ) (g : Group) (whole before filled after : List Soft)
    → k < length groups → get_or groups k g ≡ g → whole ≡ before ++ softs_from next (drop k groups)
    → filled ≡ before ++ replicate (g.number - next) (g.selector, 0)
    → after ≡ filled ++ (g.selector, g.weight) ∷ []
    → whole ≡ after ++ softs_from (g.number + 1) (drop (k + 1) groups)
softs-more groups k next g whole before filled after few is all first second =
    let rest = softs_from (g.number + 1) (drop (k + 1) groups) in
    let empty = replicate (g.number - next) (g.selector, 0) in
    all ∙ ap (λ ss. before ++ ss) (from-here groups k next g few is)
    ∙ sym (append_assoc before empty ((g.selector, g.weight) ∷ rest))
    ∙ ap (λ ss. ss ++ (g.selector, g.weight) ∷ rest) (sym first)
    ∙ sym (append_assoc filled ((g.selector, g.weight) ∷ []) rest)
    ∙ ap (λ ss. ss ++ rest) (sym second)
