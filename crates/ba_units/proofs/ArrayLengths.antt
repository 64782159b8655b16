-- The length of the array that a variable names in a frame.
use Rattle.std.proofs.Common.{◌≡◌, ◌≢◌, ◌⊎◌, inl, inr, ℕ, zero, suc, ◌<◌, ◌≤◌, ◌==◌, Bool, true, false, cond, Option, Some, None, List, [], ◌∷◌, map, length, get_or, set, refl, sym, ◌∙◌, ap, subst, arith, length-set, get_or-set_same, get_or-set_other}
use Rattle.std.specs.Borrow.{Bor}
use Rattle.std.proofs.lemmas.Bool.Decides.{eqb_tells}
use Rattle.std.proofs.lemmas.List.{get_or_past, length-map}
use Rattle.ba_numbers.specs.declared.ids.VarId.{VarId}
use Rattle.ba_numbers.specs.declared.numbers.CType.TheVariants.{I32}
use Rattle.ba_tree.specs.Meaning.{variable_of}
use Rattle.ba_tree.specs.Units.{Bodies, Lengths, ArgUnits, arg_units_step, bound_lengths, declared_length, declared_lengths, expr_units_step, length_at, units_of_arg}
use Rattle.ba_tree.specs.declared.tree.Arg.{Arg}
use Rattle.ba_tree.specs.declared.tree.Arg as arguments
use Rattle.ba_tree.specs.declared.tree.Arg.TheOpen.{Arg-F}
use Rattle.ba_tree.specs.declared.tree.Arg.TheFolds.{fold-roll-Arg}
use Rattle.ba_tree.specs.declared.tree.Arg.TheViews.{out-Arg, roll-out-Arg}
use Rattle.ba_tree.specs.declared.tree.Expr.{Expr}
use Rattle.ba_tree.specs.declared.tree.Program.{Program}
use Rattle.ba_tree.specs.declared.tree.Shape.TheVariants.{Value}
use Rattle.ba_tree.specs.declared.tree.Variable.{Variable}
use Rattle.ba_units.specs.Lengths.{argument_at, elements_of, elements_step, lengths_of, lengths_step, no_elements}
use Rattle.ba_units.specs.declared.frame.Frame.{Frame}
use Rattle.ba_units.specs.declared.frame.Frame as frames
use Rattle.ba_units.specs.declared.frame.Frame.TheOpen.{Frame-F}
use Rattle.ba_units.specs.declared.frame.Frame.TheFolds.{fold-roll-Frame}

-- WHAT AN ARGUMENT GIVES

module _ (lengths : Lengths) (a : Arg) where
  pub elements-Value : (value : Expr) → a ≡ arguments.Value value → elements_of lengths a ≡ 0
  unfolding elements_of arguments.roll-Arg denote.Hole.Carrier.roll
  elements-Value value is = ap (elements_of lengths) is
      ∙ ap (λ (f : Lengths → ℕ). f lengths)
      (fold-roll-Arg (Lengths → ℕ) ℕ elements_step no_elements (Arg-F.Value value))

  pub elements-Array : (array : VarId) → a ≡ arguments.Array array
      → elements_of lengths a ≡ length_at lengths array
  unfolding elements_of arguments.roll-Arg denote.Hole.Carrier.roll
  elements-Array array is = ap (elements_of lengths) is
      ∙ ap (λ (f : Lengths → ℕ). f lengths)
      (fold-roll-Arg (Lengths → ℕ) ℕ elements_step no_elements (Arg-F.Array array))

  module _ (bodies : Bodies) where
    given-Value : (value : Expr) → a ≡ arguments.Value value → (units_of_arg bodies lengths a).elements ≡ 0
    unfolding arguments.roll-Arg denote.Hole.Carrier.roll
    given-Value value is = ap (λ a. (units_of_arg bodies lengths a).elements) is
        ∙ ap (λ (f : Lengths → ArgUnits). (f lengths).elements)
        (fold-roll-Arg (Lengths → ArgUnits) (Lengths → ℕ) arg_units_step (expr_units_step bodies)
        (Arg-F.Value value))

    given-Array : (array : VarId) → a ≡ arguments.Array array
        → (units_of_arg bodies lengths a).elements ≡ length_at lengths array
    unfolding arguments.roll-Arg denote.Hole.Carrier.roll
    given-Array array is = ap (λ a. (units_of_arg bodies lengths a).elements) is
        ∙ ap (λ (f : Lengths → ArgUnits). (f lengths).elements)
        (fold-roll-Arg (Lengths → ArgUnits) (Lengths → ℕ) arg_units_step (expr_units_step bodies)
        (Arg-F.Array array))

    by_form : (form : Arg-F Arg Expr) → out-Arg a ≡ form
        → (units_of_arg bodies lengths a).elements ≡ elements_of lengths a
    unfolding arguments.roll-Arg denote.Hole.Carrier.roll
    by_form (Arg-F.Value value) is =
        let form : a ≡ arguments.Value value = sym (roll-out-Arg a) ∙ ap arguments.roll-Arg is in
        given-Value value form ∙ sym (elements-Value value form)
    by_form (Arg-F.Array array) is =
        let form : a ≡ arguments.Array array = sym (roll-out-Arg a) ∙ ap arguments.roll-Arg is in
        given-Array array form ∙ sym (elements-Array array form)

    -- the definition of units says the same of the array that an argument gives
    pub given-elements : (units_of_arg bodies lengths a).elements ≡ elements_of lengths a
    given-elements = by_form (out-Arg a) refl

-- WHAT IS DECLARED

default_declared : (vs : List Variable) (i : ℕ)
    → declared_length (get_or vs i (record { t = I32; shape = Value })).shape
    ≡ get_or (map (λ (v : Variable). declared_length v.shape) vs) i 0
default_declared [] i = refl
default_declared (v ∷ vs) zero = refl
default_declared (v ∷ vs) (suc i) = default_declared vs i

pub own-length : (p : Program) (v : VarId) → declared_length (variable_of p v).shape
    ≡ length_at (declared_lengths p) v
own-length p v = default_declared p.variables v.0

-- THE VARIABLES OF A FRAME

pub lengths-Main : (p : Program) (f : Frame) → f ≡ frames.Main → lengths_of p f ≡ declared_lengths p
unfolding lengths_of frames.roll-Frame denote.Hole.Carrier.roll
lengths-Main p f is = ap (lengths_of p) is ∙ fold-roll-Frame Lengths (lengths_step p) Frame-F.Main

pub lengths-Called : (p : Program) (f : Frame) (params : Bor (List VarId)) (args : Bor (List Arg))
    (caller : Bor Frame)
    → f ≡ frames.Called params args caller
    → lengths_of p f
    ≡ bound_lengths params.now (map (elements_of (lengths_of p caller.now)) args.now) (declared_lengths p)
unfolding lengths_of frames.roll-Frame denote.Hole.Carrier.roll
lengths-Called p f params args caller is = ap (lengths_of p) is
    ∙ fold-roll-Frame Lengths (lengths_step p) (Frame-F.Called params args caller)

-- what a variable's argument gives; without one the variable has what it had
abbrev length_by : Lengths → Option Arg → ℕ → ℕ
length_by caller None own = own
length_by caller (Some arg) own = elements_of caller arg

after-write : (base : Lengths) (p v : VarId) (n : ℕ) → v.0 < length base
    → length_at (set base p.0 n) v ≡ cond (p.0 == v.0) n (length_at base v)
after-write base p v n within = by (eqb_tells p.0 v.0)
  where
    by : (((p.0 == v.0) ≡ true) × (p.0 ≡ v.0)) ⊎ (((p.0 == v.0) ≡ false) × (p.0 ≢ v.0))
        → length_at (set base p.0 n) v ≡ cond (p.0 == v.0) n (length_at base v)
    by (inl same) = ap (λ i. get_or (set base i n) v.0 0) same.1 ∙ get_or-set_same base v.0 n 0 within
        ∙ sym (ap (λ b. cond b n (length_at base v)) same.0)
    by (inr other) = get_or-set_other base p.0 v.0 n 0 (λ e. other.1 (sym e))
        ∙ sym (ap (λ b. cond b n (length_at base v)) other.0)

newer : (b : Bool) (caller : Lengths) (arg : Arg) (found : Option Arg) (before own : ℕ)
    → before ≡ length_by caller found own
    → cond b (elements_of caller arg) before ≡ length_by caller (cond b (Some arg) found) own
newer true caller arg found before own is = refl
newer false caller arg found before own is = is

bound-read : (caller : Lengths) (params : List VarId) (args : List Arg) (v : VarId) (found : Option Arg)
    (base : Lengths)
    (own : ℕ) → v.0 < length base → length_at base v ≡ length_by caller found own
    → length_at (bound_lengths params (map (elements_of caller) args) base) v
    ≡ length_by caller (argument_at params args v found) own
bound-read caller [] args v found base own within is = is
bound-read caller (p ∷ ps) [] v found base own within is = is
bound-read caller (p ∷ ps) (arg ∷ args) v found base own within is =
    bound-read caller ps args v (cond (p.0 == v.0) (Some arg) found) (set base p.0 (elements_of caller arg))
    own
    (subst (λ n. v.0 < n) (sym (length-set base p.0 (elements_of caller arg))) within)
    (after-write base p v (elements_of caller arg) within
    ∙ newer (p.0 == v.0) caller arg found (length_at base v) own is)

bound-length : (params : List VarId) (given base : Lengths) → length (bound_lengths params given base)
    ≡ length base
bound-length [] given base = refl
bound-length (p ∷ ps) [] base = refl
bound-length (p ∷ ps) (n ∷ given) base = bound-length ps given (set base p.0 n) ∙ length-set base p.0 n

module _ (p : Program) (f : Frame) (params : Bor (List VarId)) (args : Bor (List Arg)) (caller : Bor Frame)
    (v : VarId)
    (is : f ≡ frames.Called params args caller) where
  -- a variable that is not there
  pub called-past : length p.variables ≤ v.0 → 0 ≡ length_at (lengths_of p f) v
  called-past past =
      let given = map (elements_of (lengths_of p caller.now)) args.now in
      let long : length (bound_lengths params.now given (declared_lengths p)) ≡ length p.variables =
      bound-length params.now given (declared_lengths p)
      ∙ length-map p.variables (λ (v : Variable). declared_length v.shape) in
      sym (ap (λ lengths. length_at lengths v) (lengths-Called p f params args caller is)
      ∙ get_or_past (bound_lengths params.now given (declared_lengths p)) v.0 0 (omega arith))

  called-read : v.0 < length p.variables
      → length_at (lengths_of p f) v
      ≡ length_by (lengths_of p caller.now) (argument_at params.now args.now v None)
      (length_at (declared_lengths p) v)
  called-read within =
      let declared : length (declared_lengths p) ≡ length p.variables =
      length-map p.variables (λ (v : Variable). declared_length v.shape) in
      ap (λ lengths. length_at lengths v) (lengths-Called p f params args caller is)
      ∙ bound-read (lengths_of p caller.now) params.now args.now v None (declared_lengths p)
      (length_at (declared_lengths p) v) (omega arith) refl

  -- one that is no parameter
  pub called-own : (n : ℕ) → v.0 < length p.variables → None ≡ argument_at params.now args.now v None
      → n ≡ length_at (declared_lengths p) v → n ≡ length_at (lengths_of p f) v
  called-own n within none own = own
      ∙ ap (λ found. length_by (lengths_of p caller.now) found (length_at (declared_lengths p) v)) none
      ∙ sym (called-read within)

  -- a parameter
  pub called-given : (n : ℕ) (arg : Arg) → v.0 < length p.variables
      → Some arg ≡ argument_at params.now args.now v None
      → n ≡ elements_of (lengths_of p caller.now) arg → n ≡ length_at (lengths_of p f) v
  called-given n arg within some given = given
      ∙ ap (λ found. length_by (lengths_of p caller.now) found (length_at (declared_lengths p) v)) some
      ∙ sym (called-read within)

-- PARAMETERS AND ARGUMENTS, of which the shorter list decides

pub no_more_params : (params : List VarId) (args : List Arg) (v : VarId) (found : Option Arg)
    → length params ≡ 0
    → argument_at params args v found ≡ found
no_more_params [] args v found none = refl
no_more_params (p ∷ ps) args v found none = absurd (omega arith)

pub no_more_args : (params : List VarId) (args : List Arg) (v : VarId) (found : Option Arg) → length args ≡ 0
    → argument_at params args v found ≡ found
no_more_args [] args v found none = refl
no_more_args (p ∷ ps) [] v found none = refl
no_more_args (p ∷ ps) (arg ∷ args) v found none = absurd (omega arith)
