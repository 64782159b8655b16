-- Literals taken off the trail, one after the other.

use Rattle.std.proofs.Common.{◌≡◌, ℕ, ◌-◌, ◌<◌, ◌≤◌, Option, List, length, take, refl, sym, ap, ◌∙◌, arith}
use Rattle.std.proofs.lemmas.List.{take-take, take_all, length-take-le, length-take}
use Rattle.ba_lits.specs.Literals.{Literal}
use Rattle.ba_watch.specs.Trails.{Assignments, decided, kept}
use Rattle.ba_watch.proofs.Levels.{kept_below, kept_above, kept-le}

-- the trail is a front of the first one that holds all that is kept
pub record IsFront (level : ℕ) (s s0 : Assignments) : Type 0 where
  pub variables : s.variables ≡ s0.variables
  pub lits : s.lits ≡ take (length s.lits) s0.lits
  pub reasons : s.reasons ≡ take (length s.reasons) s0.reasons
  pub above : kept level s0.reasons ≤ length s.reasons

pub IsFront-start : (level : ℕ) (s : Assignments) → IsFront level s s
IsFront-start level s = record {
  variables = refl;
  lits = sym (take_all (length s.lits) s.lits (omega arith));
  reasons = sym (take_all (length s.reasons) s.reasons (omega arith));
  above = kept-le level s.reasons;
}

cut : {X : Type 0} (m : ℕ) (xs ys : List X) → xs ≡ take (length xs) ys → m ≤ length xs →
    take m xs ≡ take (length (take m xs)) ys
cut m xs ys front le = ap (take m) front ∙ (take-take m (length xs) ys le
    ∙ ap (λ (k : ℕ). take k ys) (sym (length-take-le m xs le)))

pub IsFront-pop : (level : ℕ) (s s' s0 : Assignments) → IsFront level s s0 →
    length s.reasons ≡ length s.lits → level < decided s.reasons →
    s' ≡ record s { lits = take (length s.lits - 1) s.lits; reasons = take (length s.lits - 1) s.reasons } →
    IsFront level s' s0
IsFront-pop level s s' s0 f len more is =
    let lits_is : s'.lits ≡ take (length s.lits - 1) s.lits = ap (λ (a : Assignments). a.lits) is in
    let reasons_is : s'.reasons ≡ take (length s.lits - 1) s.reasons =
    ap (λ (a : Assignments). a.reasons) is in
    let r_len : length s'.reasons ≡ length s.lits - 1 = ap length reasons_is
    ∙ length-take-le (length s.lits - 1) s.reasons (omega arith) in
    let less : kept level s0.reasons < length s.reasons =
    kept_below level (length s.reasons) s0.reasons (omega (arith, more, ap decided f.reasons)) in
    record {
      variables = ap (λ (a : Assignments). a.variables) is ∙ f.variables;
      lits = lits_is ∙ (cut (length s.lits - 1) s.lits s0.lits f.lits (omega arith)
          ∙ ap (λ (ys : List Literal). take (length ys) s0.lits) (sym lits_is));
      reasons = reasons_is ∙ (cut (length s.lits - 1) s.reasons s0.reasons f.reasons (omega arith)
          ∙ ap (λ (ys : List (Option ℕ)). take (length ys) s0.reasons) (sym reasons_is));
      above = omega (arith, less, r_len, len);
    }

pub IsFront-end : (level : ℕ) (s s0 : Assignments) → IsFront level s s0 → length s.reasons ≡ length s.lits →
    decided s.reasons ≤ level → s ≡ record s0 {
      lits = take (kept level s0.reasons) s0.lits;
      reasons = take (kept level s0.reasons) s0.reasons;
    }
IsFront-end level s s0 f len le =
    let within : length s.reasons ≤ length s0.reasons =
    omega (arith, ap length f.reasons, length-take (length s.reasons) s0.reasons) in
    let all : length s.reasons ≤ kept level s0.reasons =
    kept_above level (length s.reasons) s0.reasons (omega (arith, le, ap decided f.reasons)) within in
    let same : length s.reasons ≡ kept level s0.reasons = omega (arith, all, f.above) in
    let lits : s.lits ≡ take (kept level s0.reasons) s0.lits = f.lits
    ∙ ap (λ (k : ℕ). take k s0.lits) (sym len ∙ same) in
    let reasons : s.reasons ≡ take (kept level s0.reasons) s0.reasons = f.reasons
    ∙ ap (λ (k : ℕ). take k s0.reasons) same in
    made s.variables s0.variables s.lits _ s.reasons _ f.variables lits reasons
  where
    made : (v w : ℕ) (x y : List Literal) (r q : List (Option ℕ)) → v ≡ w → x ≡ y → r ≡ q →
        ◌≡◌ {A = Assignments} (record { variables = v; lits = x; reasons = r })
        (record { variables = w; lits = y; reasons = q })
    made v w x y r q a b c = cc
