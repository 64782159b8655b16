-- What code leaves as it was, put together.
use Rattle.std.proofs.Common.{◌≡◌, ℕ, ◌+◌, ◌≤◌, Bool, true, false, ◌||◌, List, [], ◌∷◌, ◌++◌, length, refl, sym, ◌∙◌, ap, arith, append-nil, append_assoc}
use Rattle.std.proofs.lemmas.List.{length-append}
use Rattle.ba_code.specs.State.{CodeState}
use Rattle.ba_code.specs.Types.{Types}
use Rattle.ba_code.specs.declared.nodes.Operand.{Operand}
use Rattle.ba_numbers.specs.declared.numbers.CType.{CType}
use Rattle.ba_inline.specs.Declarations.{BeginsWith, Grows, with_var}
use Rattle.ba_inline.specs.Keeping.{Keeps, Stays}
use Rattle.ba_inline.specs.Names.{Names}
use Rattle.ba_inline.specs.Worlds.{IsReady, World}

-- DECLARATIONS

pub begins-same : {A : Type 0} (xs : List A) → BeginsWith xs xs
begins-same xs = record { rest = []; is = sym (append-nil xs) }

pub begins-then : {A : Type 0} (xs ys zs : List A) → BeginsWith xs ys → BeginsWith ys zs → BeginsWith xs zs
begins-then xs ys zs b c = record {
  rest = b.rest ++ c.rest;
  is = c.is ∙ ap (λ ys. ys ++ c.rest) b.is ∙ append_assoc xs b.rest c.rest;
}

pub begins-length : {A : Type 0} (xs ys : List A) → BeginsWith xs ys → length xs ≤ length ys
begins-length xs ys b =
    let e : length ys ≡ length xs + length b.rest = ap length b.is ∙ length-append xs b.rest in omega arith

pub grows-same : (d : Types) → Grows d d
grows-same d = record { vars = omega arith; arrays = begins-same d.arrays }

pub grows-then : (low mid high : Types) → Grows low mid → Grows mid high → Grows low high
grows-then low mid high g h = record {
  vars = omega (arith, g.vars, h.vars);
  arrays = begins-then low.arrays mid.arrays high.arrays g.arrays h.arrays;
}

pub with_var-length : (ty : CType) (d : Types) → length (with_var ty d).vars ≡ length d.vars + 1
with_var-length ty d = length-append d.vars (ty ∷ [])

pub grows-var : (ty : CType) (d : Types) → Grows d (with_var ty d)
grows-var ty d = record {
  vars = let e : length (with_var ty d).vars ≡ length d.vars + 1 = with_var-length ty d in omega arith;
  arrays = begins-same d.arrays;
}

-- READINESS

pub ready-before : (w : World) (mid high : Types) (t : CodeState) → Grows mid high → IsReady w high t →
    IsReady w mid t
ready-before w mid high t g r = record {
  known = begins-then mid.arrays high.arrays w.arrays g.arrays r.known;
  sized = r.sized;
}

pub ready-after : (w : World) (d : Types) (calls : Bool) (names : Names) (low : Types) (t u : CodeState)
    → Keeps calls names low t u → IsReady w d t → IsReady w d u
ready-after w d calls names low t u k r = record {
  known = r.known;
  sized = λ n. k.lengths n ∙ r.sized n;
}

-- KEEPING

pub stays-left : (c d : Bool) (n : ℕ) (os : List Operand) → Stays (c || d) n os → Stays c n os
stays-left true d n os h = h
stays-left false d n os h = tt

pub stays-right : (c d : Bool) (n : ℕ) (os : List Operand) → Stays (c || d) n os → Stays d n os
stays-right true true n os h = h
stays-right true false n os h = tt
stays-right false d n os h = h

pub keeps-same : (calls : Bool) (names : Names) (low : Types) (t : CodeState) → Keeps calls names low t t
keeps-same calls names low t = record {
  variables = λ n below stays. refl;
  arrays = λ n below out. refl;
  lengths = λ n. refl;
}

-- code, and then code that was made later
pub keeps-then : (c d : Bool) (names : Names) (low mid : Types) (t u v : CodeState) → Grows low mid
    → Keeps c names low t u → Keeps d names mid u v → Keeps (c || d) names low t v
keeps-then c d names low mid t u v g k l = record {
  variables = λ n below stays. l.variables n (omega (arith, below, g.vars)) (stays-right c d n names.values
      stays)
      ∙ k.variables n below (stays-left c d n names.values stays);
  arrays = λ n below out. l.arrays n
      (let few : length low.arrays ≤ length mid.arrays = begins-length low.arrays mid.arrays g.arrays in
      omega (arith, below, few)) out
      ∙ k.arrays n below out;
  lengths = λ n. l.lengths n ∙ k.lengths n;
}

pub keeps-more : (c d : Bool) (names : Names) (low : Types) (t u : CodeState)
    → ((n : ℕ) → Stays d n names.values → Stays c n names.values) → Keeps c names low t u →
    Keeps d names low t u
keeps-more c d names low t u more k = record {
  variables = λ n below stays. k.variables n below (more n stays);
  arrays = k.arrays;
  lengths = k.lengths;
}

pub keeps-from : (c : Bool) (names : Names) (low mid : Types) (t u : CodeState) → Grows low mid
    → Keeps c names mid t u → Keeps c names low t u
keeps-from c names low mid t u g k = record {
  variables = λ n below stays. k.variables n (omega (arith, below, g.vars)) stays;
  arrays = λ n below out. k.arrays n
      (let few : length low.arrays ≤ length mid.arrays = begins-length low.arrays mid.arrays g.arrays in
      omega (arith, below, few)) out;
  lengths = k.lengths;
}

-- the same for any of the two
pub keeps-through : (c d e : Bool) (names : Names) (low mid : Types) (t u v : CodeState)
    → ((n : ℕ) → Stays e n names.values → Stays c n names.values)
    → ((n : ℕ) → Stays e n names.values → Stays d n names.values)
    → Grows low mid → Keeps c names low t u → Keeps d names mid u v → Keeps e names low t v
keeps-through c d e names low mid t u v to_c to_d g k l = record {
  variables = λ n below stays. l.variables n (omega (arith, below, g.vars)) (to_d n stays)
      ∙ k.variables n below (to_c n stays);
  arrays = λ n below out. l.arrays n
      (let few : length low.arrays ≤ length mid.arrays = begins-length low.arrays mid.arrays g.arrays in
      omega (arith, below, few)) out
      ∙ k.arrays n below out;
  lengths = λ n. l.lengths n ∙ k.lengths n;
}
