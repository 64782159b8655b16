-- Marks of the statements of sets.

use Rattle.std.proofs.Common.{◌≡◌, ℕ, suc, ◌+◌, ◌<◌, ◌≢◌, Bool, true, false, List, [], ◌∷◌, ◌++◌, length, get_or, set, map, drop, refl, sym, ap, ◌∙◌, append_assoc, append-nil, arith}
use Rattle.std.proofs.lemmas.Bool.Decides.{nat_tests}
use Rattle.std.proofs.lemmas.List.{get_or-set_same, get_or-set_other}
use Rattle.std.specs.Prelude.{◌==◌, ◌||◌, filter}
use Rattle.std.specs.List.{enumerate_from}
use Rattle.ba_tree.specs.declared.tree.StmtInfo.{StmtInfo}
use Rattle.mode_repair.specs.Marks.{marked_from, number_if}

-- TWO TRUTHS

or-false : (b : Bool) → b ≡ (b || false)
or-false true = refl
or-false false = refl

or-true : (b : Bool) → true ≡ (b || true)
or-true true = refl
or-true false = refl

or-assoc : (a b c : Bool) → ((a || b) || c) ≡ (a || (b || c))
or-assoc true b c = refl
or-assoc false b c = refl

-- one more is looked at
pub or-more : (old test rest whole now : Bool) → now ≡ (old || test) → (old || (test || rest)) ≡ whole →
    (now || rest) ≡ whole
or-more old test rest whole now is all =
    ap (λ now. now || rest) is ∙ or-assoc old test rest ∙ all

-- none is left
pub or-none : (old whole : Bool) → (old || false) ≡ whole → old ≡ whole
or-none old whole all = or-false old ∙ all

-- ONE MARK

pub not_marked : (marks : List Bool) (number i : ℕ) → ((i + 1) == number) ≡ false →
    get_or marks i false ≡ (get_or marks i false || ((i + 1) == number))
not_marked marks number i is = rw is (or-false (get_or marks i false))

-- a number without a mark
pub no_mark : (marks : List Bool) (number i : ℕ) → number ≡ 0 → i < length marks →
    get_or marks i false ≡ (get_or marks i false || ((i + 1) == number))
no_mark marks number i none within = not_marked marks number i (grind (arith, nat_tests, none))

pub past_mark : (marks : List Bool) (number i : ℕ) → length marks < number → i < length marks →
    get_or marks i false ≡ (get_or marks i false || ((i + 1) == number))
past_mark marks number i past within = not_marked marks number i (grind (arith, nat_tests, past, within))

mark_by : (marks : List Bool) (number place i : ℕ) (is : Bool) → ((i + 1) == number) ≡ is →
    number ≡ place + 1 → place < length marks →
    get_or (set marks place true) i false ≡ (get_or marks i false || ((i + 1) == number))
mark_by marks number place i true is at within =
    let same : i ≡ place = grind (arith, nat_tests, is, at) in
    ap (λ i. get_or (set marks place true) i false) same ∙ get_or-set_same marks place true false within
    ∙ or-true (get_or marks i false) ∙ ap (λ b. get_or marks i false || b) (sym is)
mark_by marks number place i false is at within =
    let other : i ≢ place = grind (arith, nat_tests, is, at) in
    get_or-set_other marks place i true false other ∙ not_marked marks number i is

pub one_mark : (marks : List Bool) (number place i : ℕ) → number ≡ place + 1 → place < length marks →
    get_or (set marks place true) i false ≡ (get_or marks i false || ((i + 1) == number))
one_mark marks number place i = mark_by marks number place i ((i + 1) == number) refl

-- THE NUMBERS THAT ARE MARKED are those for which the test holds

marked-first : (test : ℕ → Bool) (n : ℕ) (mark : Bool) (marks : List Bool) (info : StmtInfo)
    (infos : List StmtInfo) (b : Bool) → mark ≡ test n → test n ≡ b →
    marked_from (n + 1) marks
    ≡ filter test (map (λ (numbered : ℕ × StmtInfo). numbered.0) (enumerate_from (n + 1) infos)) →
    marked_from n (mark ∷ marks)
    ≡ filter test (map (λ (numbered : ℕ × StmtInfo). numbered.0) (enumerate_from n (info ∷ infos)))
marked-first test n mark marks info infos true first is others = rw (first, is) (ap (λ ns. n ∷ ns) others)
marked-first test n mark marks info infos false first is others = rw (first, is) others

pub marked-filter : (test : ℕ → Bool) (n : ℕ) (marks : List Bool) (infos : List StmtInfo) →
    length marks ≡ length infos →
    ((i : ℕ) → i < length infos → get_or marks i false ≡ test (n + i)) →
    marked_from n marks ≡ filter test (map (λ (numbered : ℕ × StmtInfo). numbered.0) (enumerate_from n infos))
marked-filter test n [] [] same each = refl
marked-filter test n [] (info ∷ infos) same each = absurd (let no : ⊥ = omega (arith, same) in no)
marked-filter test n (mark ∷ marks) [] same each = absurd (let no : ⊥ = omega (arith, same) in no)
marked-filter test n (mark ∷ marks) (info ∷ infos) same each =
    let here : n + 0 ≡ n = omega arith in
    let first : mark ≡ test n = each 0 (omega arith) ∙ ap test here in
    marked-first test n mark marks info infos (test n) first refl
    (marked-filter test (n + 1) marks infos (omega (arith, same))
    (λ i within. let next : n + suc i ≡ n + 1 + i = omega arith in
    each (suc i) (omega (arith, within)) ∙ ap test next))

-- what is listed so far, and what is left to list
module _ (old whole : List ℕ) (n : ℕ) (marks : List Bool) (i : ℕ)
    (rest : old ++ marked_from (n + 1) (drop i marks) ≡ whole) where
  pub marked-next : (mark : Bool) (new : List ℕ) → drop i marks ≡ mark ∷ drop (i + 1) marks →
      new ≡ old ++ number_if mark (n + 1) → new ++ marked_from (n + 1 + 1) (drop (i + 1) marks) ≡ whole
  marked-next mark new next pushed =
      ap (λ xs. xs ++ marked_from (n + 1 + 1) (drop (i + 1) marks)) pushed
      ∙ append_assoc old (number_if mark (n + 1)) (marked_from (n + 1 + 1) (drop (i + 1) marks))
      ∙ ap (λ ms. old ++ marked_from (n + 1) ms) (sym next) ∙ rest

  pub marked-end : drop i marks ≡ [] → old ≡ whole
  marked-end none = sym (append-nil old) ∙ ap (λ ms. old ++ marked_from (n + 1) ms) (sym none) ∙ rest
