-- The variables that a run begins with.
use Rattle.std.proofs.Common.{◌≡◌, ℕ, ◌+◌, ◌<◌, ◌≤◌, ◌⊎◌, inl, inr, pos, true, Some, List, [], ◌∷◌, ◌++◌, map, length, replicate, take, get_or, refl, sym, ◌∙◌, ap, subst, arith}
use Rattle.std.proofs.lemmas.List.{append_assoc, get_or_at, length-append, length-map, map-append}
use Rattle.std.specs.Prelude.{slice_get, slice_set}
use Rattle.ba_code.specs.Meaning.{info_at}
use Rattle.ba_code.specs.State.{CodeState, operand_value}
use Rattle.ba_code.specs.Types.{Types}
use Rattle.ba_code.specs.declared.nodes.ArrayInfo.{ArrayInfo}
use Rattle.ba_code.specs.declared.nodes.Operand.TheVariants.{Var}
use Rattle.ba_inline.proofs.Bindings.{apart-push, arrays-new, below-push}
use Rattle.ba_inline.proofs.Hiding.{apart-set, below-set, found-set, read-set}
use Rattle.ba_inline.proofs.Joining.{below-more}
use Rattle.ba_inline.proofs.Keeping.{begins-length, begins-then, grows-same, grows-then, grows-var, with_var-length}
use Rattle.ba_inline.proofs.Rows.{next-taken}
use Rattle.ba_inline.proofs.Scopes.{below-arrays-more}
use Rattle.ba_inline.proofs.Seeing.{outside-new}
use Rattle.ba_inline.specs.Declarations.{BeginsWith, Grows, with_array_info, with_var}
use Rattle.ba_inline.specs.Names.{AreBelowArrays, IsScope, Names, seen, with_location, with_name}
use Rattle.ba_inline.specs.Starting.{IsClear, Starts}
use Rattle.ba_numbers.specs.declared.ids.VarId.{VarId}
use Rattle.ba_numbers.specs.declared.numbers.CType.{CType}
use Rattle.ba_numbers.specs.declared.numbers.CType.TheVariants.{I32}
use Rattle.ba_tree.specs.Facts.{is_value_shape}
use Rattle.ba_tree.specs.Meaning.{variable_of}
use Rattle.ba_tree.specs.Run.{begin_all, begin_shape}
use Rattle.ba_tree.specs.State.{State, with_value}
use Rattle.ba_tree.specs.declared.tree.Program.{Program}
use Rattle.ba_tree.specs.declared.tree.Shape.{Shape}
use Rattle.ba_tree.specs.declared.tree.Shape.TheVariants.{Value, Array, Passed}
use Rattle.ba_tree.specs.declared.tree.Variable.{Variable}

-- LATER declarations

pub clear-later : (arrays : List ArrayInfo) (low mid : Types) (t : CodeState) → Grows low mid →
    IsClear arrays low t
    → IsClear arrays mid t
clear-later arrays low mid t grows clear =
    let few : length low.arrays ≤ length mid.arrays = begins-length low.arrays mid.arrays grows.arrays in
    record {
      variables = λ n above. clear.variables n (omega (arith, above, grows.vars));
      arrays = λ n above. clear.arrays n (omega (arith, above, few));
    }

pub starts-nothing : (p : Program) (names : Names) (low : Types) → Starts p names names [] low low
starts-nothing p names low = record {
  grows = grows-same low;
  scope = λ scope. scope;
  begins = λ arrays t known clear. refl;
}

pub begin_all-append : (p : Program) (vs ws : List VarId) (s : State)
    → begin_all p (vs ++ ws) s ≡ begin_all p ws (begin_all p vs s)
begin_all-append p [] ws s = refl
begin_all-append p (v ∷ vs) ws s = begin_all-append p vs ws (begin_shape (variable_of p v).shape v s)

pub starts-then : (p : Program) (names mid inner : Names) (vs ws : List VarId) (low d high : Types)
    → Starts p names mid vs low d → Starts p mid inner ws d high → Starts p names inner (vs ++ ws) low high
starts-then p names mid inner vs ws low d high first second = record {
  grows = grows-then low d high first.grows second.grows;
  scope = λ scope. second.scope (first.scope scope);
  begins = λ arrays t known clear. begin_all-append p vs ws (seen names t)
      ∙ ap (begin_all p ws)
      (first.begins arrays t (begins-then d.arrays high.arrays arrays second.grows.arrays known) clear)
      ∙ second.begins arrays t known (clear-later arrays low d t first.grows clear);
}

-- ONE VARIABLE

module _ (p : Program) (names : Names) (low : Types) (v : VarId) where
  -- a value
  module _ (m : ℕ) (ty : CType) (is_m : m ≡ length low.vars) (shape : (variable_of p v).shape ≡ Value) where
    named-shape : (w : VarId) (n : ℕ) → IsScope p names low
        → ((w.0 ≡ v.0) × (m ≡ n)) ⊎ (slice_get names.values w.0 ≡ Some (Var n))
        → is_value_shape (variable_of p w).shape ≡ true
    named-shape w n scope (inl both) =
        ap (λ (k : ℕ). is_value_shape (variable_of p (record { 0 = k })).shape) both.0 ∙ ap is_value_shape
        shape
    named-shape w n scope (inr found) = scope.values.by w n found

    scope-named : IsScope p names low → IsScope p (with_name v m names) (with_var ty low)
    scope-named scope =
        let count : length (with_var ty low).vars ≡ length low.vars + 1 = with_var-length ty low in
        let below = below-more (length low.vars) m names.values (omega (arith, is_m)) scope.naming.below in
        record {
          naming = record {
            apart = apart-set names.values v.0 m (outside-new m names.values below) scope.naming.apart;
            below = below-set names.values v.0 m (length (with_var ty low).vars) (omega (arith, count, is_m))
                (below-more (length low.vars) (length (with_var ty low).vars) names.values (omega (
                  arith,
                  count,
                ))
                scope.naming.below);
            arrays_apart = scope.naming.arrays_apart;
            arrays_below = scope.naming.arrays_below;
          };
          values = record {
            by = λ w n found. named-shape w n scope (found-set names.values v.0 m w.0 n
                found);
          };
        }

    seen-named-zero : (t : CodeState) → t.variables m ≡ pos 0
        → with_value (seen names t) v (pos 0) ≡ seen (with_name v m names) t
    seen-named-zero t zero_m = ap (λ values. record (seen names t) { values = values })
        (ap (slice_set (map (operand_value t) names.values) v.0) (sym zero_m) ∙ sym (read-set t
        names.values v.0 m))

    begins-value : (arrays : List ArrayInfo) (t : CodeState) → IsClear arrays low t
        → begin_all p (v ∷ []) (seen names t) ≡ seen (with_name v m names) t
    begins-value arrays t clear = ap (λ shape. begin_shape shape v (seen names t)) shape
        ∙ seen-named-zero t (clear.variables m (omega (arith, is_m)))

    pub starts-value : Starts p names (with_name v m names) (v ∷ []) low (with_var ty low)
    starts-value = record {
      grows = grows-var ty low;
      scope = scope-named;
      begins = λ arrays t known clear. begins-value arrays t clear;
    }

  -- an array
  module _ (count k : ℕ) (ty : CType) (is_k : k ≡ length low.arrays) (shape : (variable_of p v).shape ≡
      Array count) where
    abbrev info : ArrayInfo
    info = record { len = count; t = ty }

    abbrev with_one : Names
    with_one = record (with_location v (length names.arrays) names) { arrays = names.arrays ++ k ∷ [] }

    many : length (with_array_info info low).arrays ≡ length low.arrays + 1
    many = length-append low.arrays (info ∷ [])

    scope-located : IsScope p names low → IsScope p with_one (with_array_info info low)
    scope-located scope = record {
      naming = record {
        apart = scope.naming.apart;
        below = scope.naming.below;
        arrays_apart = apart-push names.arrays k
            (arrays-new k names.arrays (subst (λ k. AreBelowArrays k names.arrays) (sym is_k)
            scope.naming.arrays_below))
            scope.naming.arrays_apart;
        arrays_below = below-push names.arrays k (length (with_array_info info low).arrays) (omega (
          arith,
          many,
          is_k,
        ))
            (below-arrays-more (length low.arrays) (length (with_array_info info low).arrays) names.arrays
            (omega (arith, many)) scope.naming.arrays_below);
      };
      values = record { by = scope.values.by };
    }

    info-found : (arrays : List ArrayInfo) → BeginsWith (with_array_info info low).arrays arrays →
        info_at arrays k ≡ info
    info-found arrays known =
        ap (λ arrays. info_at arrays k) (known.is ∙ append_assoc low.arrays (info ∷ []) known.rest)
        ∙ get_or_at low.arrays info known.rest (record { len = 0; t = I32 }) k (sym is_k)

    array-zero : (arrays : List ArrayInfo) (t : CodeState) →
        BeginsWith (with_array_info info low).arrays arrays
        → IsClear arrays low t → t.arrays k ≡ replicate count (pos 0)
    array-zero arrays t known clear = clear.arrays k (omega (arith, is_k))
        ∙ ap (λ (a : ArrayInfo). replicate a.len (pos 0)) (info-found arrays known)

    seen-located : (t : CodeState) → t.arrays k ≡ replicate count (pos 0)
        → begin_shape (Array count) v (seen names t) ≡ seen with_one t
    seen-located t is = ap (λ n. record (seen names t) {
      arrays = map t.arrays names.arrays ++ replicate count (pos 0) ∷ [];
      locations = slice_set names.locations v.0 n;
    }) (length-map names.arrays t.arrays)
        ∙ ap (λ arrays. record (seen with_one t) { arrays = arrays })
        (ap (λ x. map t.arrays names.arrays ++ x ∷ []) (sym is) ∙ sym (map-append t.arrays names.arrays (k
        ∷ [])))

    begins-array : (arrays : List ArrayInfo) (t : CodeState) →
        BeginsWith (with_array_info info low).arrays arrays
        → IsClear arrays low t → begin_all p (v ∷ []) (seen names t) ≡ seen with_one t
    begins-array arrays t known clear = ap (λ shape. begin_shape shape v (seen names t)) shape
        ∙ seen-located t (array-zero arrays t known clear)

    pub starts-array : Starts p names with_one (v ∷ []) low (with_array_info info low)
    starts-array = record {
      grows = record { vars = omega arith; arrays = record { rest = info ∷ []; is = refl } };
      scope = scope-located;
      begins = begins-array;
    }

  pub starts-passed : (variable_of p v).shape ≡ Passed → Starts p names names (v ∷ []) low low
  starts-passed shape = record {
    grows = grows-same low;
    scope = λ scope. scope;
    begins = λ arrays t known clear. ap (λ shape. begin_shape shape v (seen names t)) shape;
  }

-- AS THE CODE MAKES THEM

module _ (p : Program) (names : Names) (low : Types) (v : VarId) (var : Variable) (is_var : var ≡
    variable_of p v) where
  shaped : (shape : Shape) → var.shape ≡ shape → (variable_of p v).shape ≡ shape
  shaped shape is = ap (λ (var : Variable). var.shape) (sym is_var) ∙ is

  pub value-started : (m : ℕ) (inner : Names) (high : Types) → var.shape ≡ Value → m ≡ length low.vars
      → high ≡ with_var var.t low → inner ≡ with_name v m names → Starts p names inner (v ∷ []) low high
  value-started m inner high shape is_m is_high is_inner =
      subst (λ inner. Starts p names inner (v ∷ []) low high) (sym is_inner)
      (subst (Starts p names (with_name v m names) (v ∷ []) low) (sym is_high)
      (starts-value p names low v m var.t is_m (shaped Value shape)))

  pub array-started : (count k location : ℕ) (inner₁ inner₂ : Names) (high : Types) → var.shape ≡ Array count
      → k ≡ length low.arrays → high ≡ with_array_info (record { len = count; t = var.t }) low
      → location ≡ length names.arrays → inner₁ ≡ record names { arrays = names.arrays ++ k ∷ [] }
      → inner₂ ≡ with_location v location inner₁ → Starts p names inner₂ (v ∷ []) low high
  array-started count k location inner₁ inner₂ high shape is_k is_high is_location is_inner₁ is_inner₂ =
      subst (λ inner. Starts p names inner (v ∷ []) low high)
      (sym (is_inner₂ ∙ ap (with_location v location) is_inner₁
      ∙ ap (λ location. with_location v location (record names { arrays = names.arrays ++ k ∷ [] }))
      is_location))
      (subst (Starts p names (record (with_location v (length names.arrays) names) {
        arrays = names.arrays
            ++ k ∷ [];
      }) (v ∷ []) low)
      (sym is_high)
      (starts-array p names low v count k var.t is_k (shaped (Array count) shape)))

  pub passed-started : var.shape ≡ Passed → Starts p names names (v ∷ []) low low
  passed-started shape = starts-passed p names low v (shaped Passed shape)

pub starts-more : (p : Program) (names mid inner : Names) (vs : List VarId) (i : ℕ) (v : VarId) (low d high
    : Types)
    → Starts p names mid (take i vs) low d → Starts p mid inner (v ∷ []) d high
    → i < length vs → v ≡ get_or vs i v → Starts p names inner (take (i + 1) vs) low high
starts-more p names mid inner vs i v low d high first second within is =
    subst (λ vs. Starts p names inner vs low high) (sym (next-taken vs i v v within is))
    (starts-then p names mid inner (take i vs) (v ∷ []) low d high first second)
