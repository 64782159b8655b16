-- Elements that begin with given values, and are 0 after them.

use Rattle.std.proofs.Common.{◌≡◌, ℕ, ℤ, pos, List, ◌++◌, length, replicate, arith}
use Rattle.std.proofs.lemmas.List.{length-append, length-replicate, length-take-le}
use Rattle.ba_tree.specs.Meaning.{elements_with}

pub elements-length : (n : ℕ) (zs : List ℤ) → length (elements_with n zs) ≡ n
elements-length n zs = length-take-le n (zs ++ replicate n (pos 0))
    (grind (arith, length-append zs (replicate n (pos 0)), length-replicate n (pos 0)))
