-- A word that is cut at its first `=`.
use Rattle.std.proofs.Common.{◌≡◌, ◌≢◌, ℕ, suc, ◌==◌, Bool, true, false, cond, Option, None, Some, option_map, unwrap_or, List, [], ◌∷◌, ◌++◌, refl, ap, ◌∙◌, arith}
use Rattle.std.proofs.lemmas.Bool.{eqb-true}
use Rattle.std.proofs.lemmas.Bool.Decides.{nat_tests}
use Rattle.clap.proofs.CutLemmas.{Lacks}
use Rattle.ba_commands.specs.Words.{cut}

abbrev Cut : Type 0
Cut = List ℕ × List ℕ

first_differs : (x : ℕ) (xs : List ℕ) → Lacks 61 (x ∷ xs) → (x == 61) ≡ false
first_differs x xs lacks = let differs : x ≢ 61 = lacks 0 (omega arith) in grind (arith, nat_tests)

others_lack : (x : ℕ) (xs : List ℕ) → Lacks 61 (x ∷ xs) → Lacks 61 xs
others_lack x xs lacks i within = lacks (suc i) (omega arith)

-- one byte more before the cut
abbrev longer : ℕ → Option Cut → Option Cut
longer x = option_map (λ (parts : Cut). (x ∷ parts.0, parts.1))

pub cut-at : (xs ys : List ℕ) → Lacks 61 xs → cut (xs ++ 61 ∷ ys) ≡ Some (xs, ys)
cut-at [] ys lacks = refl
cut-at (x ∷ xs) ys lacks =
    ap (λ b. cond b (Some ([], xs ++ 61 ∷ ys)) (longer x (cut (xs ++ 61 ∷ ys)))) (first_differs x xs lacks)
    ∙ ap (longer x) (cut-at xs ys (others_lack x xs lacks))

pub cut-none : (xs : List ℕ) → Lacks 61 xs → cut xs ≡ None
cut-none [] lacks = refl
cut-none (x ∷ xs) lacks =
    ap (λ b. cond b (Some ([], xs)) (longer x (cut xs))) (first_differs x xs lacks)
    ∙ ap (longer x) (cut-none xs (others_lack x xs lacks))

behind_first : (x : ℕ) (xs : List ℕ) (parts : Cut) (o : Option Cut) → cut xs ≡ o → longer x o ≡ Some parts
    → ((parts : Cut) → cut xs ≡ Some parts → xs ≡ parts.0 ++ 61 ∷ parts.1) → x ∷ xs ≡ parts.0 ++ 61 ∷ parts.1
behind_first x xs parts None is e others = cc
behind_first x xs parts (Some p) is e others =
    let same : (x ∷ p.0, p.1) ≡ parts = ap (λ (o : Option Cut). unwrap_or o parts) e in
    ap (λ rest. x ∷ rest) (others p is) ∙ ap (λ (p : Cut). p.0 ++ 61 ∷ p.1) same

pub cut-is : (word : List ℕ) (parts : List ℕ × List ℕ) → cut word ≡ Some parts
    → word ≡ parts.0 ++ 61 ∷ parts.1
cut-is [] parts e = cc
cut-is (x ∷ xs) parts e = by (x == 61) refl e (cut-is xs)
  where
    by : (b : Bool) → (x == 61) ≡ b → cond b (Some ([], xs)) (longer x (cut xs)) ≡ Some parts
        → ((parts : Cut) → cut xs ≡ Some parts → xs ≡ parts.0 ++ 61 ∷ parts.1)
        → x ∷ xs ≡ parts.0 ++ 61 ∷ parts.1
    by true is e others =
        let same : ([], xs) ≡ parts = ap (λ (o : Option Cut). unwrap_or o parts) e in
        ap (λ n. n ∷ xs) (eqb-true x 61 is) ∙ ap (λ (p : Cut). p.0 ++ 61 ∷ p.1) same
    by false is e others = behind_first x xs parts (cut xs) refl e others
