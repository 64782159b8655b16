-- No list of tokens is that of two files.

use Rattle.std.proofs.Common.{◌≡◌, ℕ, zero, suc, ◌+◌, ◌≤◌, true, List, [], ◌∷◌, None, refl, sym, ap, ◌∙◌, arith, append-nil, get_or}
use Rattle.ba_tokens.specs.declared.token.Token.{Token}
use Rattle.ba_trees.specs.Classes.{declaration_word}
use Rattle.ba_trees.specs.Marks.{Mark, file, yield, levels}
use Rattle.ba_parse.specs.Grammar.{rule}
use Rattle.ba_parse.specs.Readings.{Answer, done, syntax, too_deep, levels_left, read_file}
use Rattle.ba_parse.specs.Files.{IsFile}
use Rattle.ba_parse.proofs.Forests.{sunk}
use Rattle.ba_parse.proofs.Certified.{outcome_of, always, Reads}
use Rattle.ba_parse.proofs.Depths.{deep_none}
use Rattle.ba_parse.proofs.EachLevel.{good_files}

abbrev total : List ℕ → ℕ
total [] = 0
total (x ∷ xs) = x + total xs

below_total : (xs : List ℕ) (k : ℕ) → get_or xs k 0 ≤ total xs
below_total [] k = omega arith
below_total (x ∷ xs) zero = let e : x ≤ x + total xs = omega arith in e
below_total (x ∷ xs) (suc k) = let e : get_or xs k 0 ≤ total xs = below_total xs k in omega (arith, e)

-- a file is read as its tree if enough levels are left
read_as : (n : ℕ) (tokens : List Token) (tree : List Mark) → IsFile tokens tree → total (levels 0 tree) ≤ n →
    read_file (levels_left n) tokens ≡ done tree []
read_as n tokens tree it enough =
    let reads : Reads n always (rule file) (declaration_word true) (read_file (levels_left n)) =
    (good_files n).reads in
    let flat : sunk n 0 tree ≡ None =
    deep_none n 0 tree (λ k. let e : get_or (levels 0 tree) k 0 ≤ total (levels 0 tree) =
    below_total (levels 0 tree) k in omega (arith, e, enough)) in
    ap (read_file (levels_left n)) (sym (append-nil (yield tree) ∙ it.yields))
    ∙ reads.given tree [] it.spelled it.pairs_else refl
    ∙ ap (λ x. outcome_of x tree []) flat

abbrev tree_in : List Mark → Answer → List Mark
tree_in d (done f rest) = f
tree_in d (syntax rest) = d
tree_in d (too_deep rest) = d

pub one_tree : (tokens : List Token) (tree other : List Mark) → IsFile tokens tree → IsFile tokens other →
    tree ≡ other
one_tree tokens tree other it that =
    let n : ℕ = total (levels 0 tree) + total (levels 0 other) in
    ap (tree_in tree) (sym (read_as n tokens tree it (omega arith))
    ∙ read_as n tokens other that (omega arith))
