-- Names among later declarations, and with the variable that has a function's result.
use Rattle.std.proofs.Common.{◌≡◌, ℕ, ◌+◌, ◌≤◌, List, [], ◌∷◌, length, arith}
use Rattle.ba_code.specs.Types.{Types}
use Rattle.ba_inline.proofs.Homes.{naming-without}
use Rattle.ba_inline.proofs.Joining.{below-more}
use Rattle.ba_inline.proofs.Keeping.{begins-length, with_var-length}
use Rattle.ba_inline.proofs.Seeing.{outside-new}
use Rattle.ba_inline.specs.Declarations.{Grows, with_var}
use Rattle.ba_inline.specs.Names.{AreBelow, AreBelowArrays, IsFrame, IsNaming, IsScope, Names, with_home}
use Rattle.ba_numbers.specs.declared.numbers.CType.{CType}
use Rattle.ba_tree.specs.declared.tree.Program.{Program}

pub below-arrays-more : (m n : ℕ) (ns : List ℕ) → m ≤ n → AreBelowArrays m ns → AreBelowArrays n ns
below-arrays-more m n [] le below = tt
below-arrays-more m n (k ∷ ks) le below = (omega (arith, le, below.0), below-arrays-more m n ks le below.1)

naming-later : (names : Names) (low high : Types) → Grows low high → IsNaming names low → IsNaming names high
naming-later names low high grows naming = record {
  apart = naming.apart;
  below = below-more (length low.vars) (length high.vars) names.values grows.vars naming.below;
  arrays_apart = naming.arrays_apart;
  arrays_below = below-arrays-more (length low.arrays) (length high.arrays) names.arrays
      (begins-length low.arrays high.arrays grows.arrays) naming.arrays_below;
}

pub scope-later : (p : Program) (names : Names) (low high : Types) → Grows low high →
    IsScope p names low → IsScope p names high
scope-later p names low high grows scope = record {
  naming = naming-later names low high grows scope.naming;
  values = scope.values;
}

pub frame-later : (p : Program) (home : ℕ) (names : Names) (low high : Types) → Grows low high →
    IsFrame p home names low
    → IsFrame p home names high
frame-later p home names low high grows frame = record {
  naming = naming-later (with_home home names) low high grows frame.naming;
  values = frame.values;
}

pub scope-of : (p : Program) (home : ℕ) (names : Names) (d : Types) → IsFrame p home names d →
    IsScope p names d
scope-of p home names d frame = record {
  naming = naming-without names home d frame.naming;
  values =
      frame.values;
}

-- a frame, with a fresh variable for its result
pub frame-begun : (p : Program) (home : ℕ) (names : Names) (ty : CType) (d : Types) → home ≡ length d.vars
    → IsScope p names d → IsFrame p home names (with_var ty d)
frame-begun p home names ty d is scope =
    let count : length (with_var ty d).vars ≡ length d.vars + 1 = with_var-length ty d in
    let below : AreBelow home names.values = below-more (length d.vars) home names.values (omega (
      arith,
      is,
    )) scope.naming.below in
    record {
      naming = record {
        apart = (outside-new home names.values below, scope.naming.apart);
        below = (
          omega (arith, count, is),
          below-more (length d.vars) (length (with_var ty d).vars) names.values (omega (arith, count))
              scope.naming.below,
        );
        arrays_apart = scope.naming.arrays_apart;
        arrays_below = scope.naming.arrays_below;
      };
      values = scope.values;
    }
