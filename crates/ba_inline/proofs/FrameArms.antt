-- One variable of a frame, as the code binds it.
use Rattle.std.proofs.Common.{◌≡◌, ℕ, zero, suc, pos, false, List, [], ◌∷◌, ◌++◌, map, length, replicate, refl, sym, ◌∙◌, ap, subst, arith}
use Rattle.std.proofs.lemmas.List.{append_assoc}
use Rattle.ba_code.specs.State.{CodeState, operand_value}
use Rattle.ba_code.specs.Types.{Types}
use Rattle.ba_code.specs.declared.nodes.Node.{Node}
use Rattle.ba_code.specs.declared.nodes.Operand.{Operand}
use Rattle.ba_code.specs.declared.nodes.Operand.TheVariants.{Const}
use Rattle.ba_inline.proofs.Bindings.{binds-array, binds-location, binds-passed, binds-value}
use Rattle.ba_inline.proofs.Joining.{settled-stays}
use Rattle.ba_inline.specs.Adding.{fill_act, set_act}
use Rattle.ba_inline.specs.Binding.{Binds}
use Rattle.ba_inline.specs.Declarations.{with_array_info, with_var}
use Rattle.ba_inline.specs.Making.{Adds, IsSettled, argument_in}
use Rattle.ba_inline.specs.Names.{IsScope, Names, with_location, with_name}
use Rattle.ba_inline.specs.declared.frames.Given.TheVariants as given
use Rattle.ba_numbers.specs.declared.ids.VarId.{VarId}
use Rattle.ba_numbers.specs.declared.numbers.CType.{CType}
use Rattle.ba_tree.specs.Facts.{is_value_shape}
use Rattle.ba_tree.specs.Meaning.{variable_of}
use Rattle.ba_tree.specs.Run.{begin_all, begin_shape, bind_all, bind_one}
use Rattle.ba_tree.specs.State.{State}
use Rattle.ba_tree.specs.declared.run.Argument.{Argument}
use Rattle.ba_tree.specs.declared.tree.Program.{Program}
use Rattle.ba_tree.specs.declared.tree.Shape.{Shape}
use Rattle.ba_tree.specs.declared.tree.Shape.TheVariants.{Value, Array, Passed}
use Rattle.ba_tree.specs.declared.tree.Variable.{Variable}

pub constants-zero : (t : CodeState) (n : ℕ) →
    map (operand_value t) (replicate n (Const (pos 0))) ≡ replicate n (pos 0)
constants-zero t zero = refl
constants-zero t (suc n) = ap (λ zs. pos 0 ∷ zs) (constants-zero t n)

module _ (p : Program) (names : Names) (low : Types) (scope : IsScope p names low) (own : List VarId)
    (begun : CodeState → State) (inner : Names) (mid : Types) (base out new : List Node)
    (binds : Binds p names own begun inner low mid base out) (v : VarId) (var : Variable) (is_var : var ≡
    variable_of p v) where
  shaped : (shape : Shape) → var.shape ≡ shape → (variable_of p v).shape ≡ shape
  shaped shape is = ap (λ (var : Variable). var.shape) (sym is_var) ∙ is

  abbrev BindsNow : (CodeState → State) → Names → Types → List Node → Type 0
  BindsNow begun inner high new = Binds p names (own ++ v ∷ []) begun inner low high base new

  pub begin-value : (m : ℕ) (ty : CType) (inner' : Names) (high : Types) → var.shape ≡ Value →
      m ≡ length mid.vars
      → high ≡ with_var ty mid → Adds out new (set_act m (Const (pos 0))) → inner' ≡ with_name v m inner
      → BindsNow (λ t. begin_shape (variable_of p v).shape v (begun t)) inner' high new
  begin-value m ty inner' high shape is_m is_high added is_inner =
      subst (λ shape. BindsNow (λ t. begin_shape shape v (begun t)) inner' high new) (sym (shaped Value
      shape))
      (subst (λ inner. BindsNow (λ t. begin_shape Value v (begun t)) inner high new) (sym is_inner)
      (subst (λ high. BindsNow (λ t. begin_shape Value v (begun t)) (with_name v m inner) high new) (sym
      is_high)
      (binds-value p names low scope own begun inner mid base out new binds v m ty (Const (pos 0)) (λ t.
      pos 0) is_m
      (ap is_value_shape (shaped Value shape)) added (λ t u k. refl))))

  pub begin-array : (count k location : ℕ) (ty : CType) (zeros : List Operand) (inner₁ inner₂ : Names)
      (high : Types)
      → var.shape ≡ Array count → k ≡ length mid.arrays →
      high ≡ with_array_info (record { len = count; t = ty }) mid
      → zeros ≡ replicate count (Const (pos 0)) → Adds out new (fill_act k zeros)
      → location ≡ length inner.arrays → inner₁ ≡ record inner { arrays = inner.arrays ++ k ∷ [] }
      → inner₂ ≡ with_location v location inner₁
      → BindsNow (λ t. begin_shape (variable_of p v).shape v (begun t)) inner₂ high new
  begin-array count k location ty zeros inner₁ inner₂ high shape is_k is_high is_zeros added is_location
      is_inner₁ is_inner₂ =
      subst (λ shape. BindsNow (λ t. begin_shape shape v (begun t)) inner₂ high new) (sym (shaped (Array
      count) shape))
      (subst (λ inner. BindsNow (λ t. begin_shape (Array count) v (begun t)) inner high new)
      (sym (is_inner₂ ∙ ap (with_location v location) is_inner₁
      ∙ ap (λ location. with_location v location (record inner { arrays = inner.arrays ++ k ∷ [] }))
      is_location))
      (subst (λ high. BindsNow (λ t. begin_shape (Array count) v (begun t))
      (with_location v (length inner.arrays) (record inner { arrays = inner.arrays ++ k ∷ [] })) high new)
      (sym is_high)
      (binds-array p names low scope own begun inner mid base out new binds v (ap is_value_shape (shaped
      (Array count) shape))
      k count ty zeros is_k
      (λ t. ap (map (operand_value t)) is_zeros ∙ constants-zero t count) added)))

  pub begin-passed : var.shape ≡ Passed
      → Binds p names (own ++ v ∷ []) (λ t. begin_shape (variable_of p v).shape v (begun t)) inner low mid
      base out
  begin-passed shape = subst (λ shape. Binds p names (own ++ v ∷ []) (λ t. begin_shape shape v (begun t))
      inner low mid base out)
      (sym (shaped Passed shape))
      (binds-passed p names low scope own begun inner mid base out out binds v (ap is_value_shape (shaped
      Passed shape)))

  pub bind-value : (m : ℕ) (ty : CType) (o : Operand) (inner' : Names) (high : Types) → var.shape ≡ Value
      → IsSettled false names low o → m ≡ length mid.vars
      → high ≡ with_var ty mid → Adds out new (set_act m o) → inner' ≡ with_name v m inner
      → BindsNow (λ t. bind_one v (argument_in t (given.Value o)) (begun t)) inner' high new
  bind-value m ty o inner' high shape settled is_m is_high added is_inner =
      subst (λ inner. BindsNow (λ t. bind_one v (argument_in t (given.Value o)) (begun t)) inner high new)
      (sym is_inner)
      (subst (λ high. BindsNow (λ t. bind_one v (argument_in t (given.Value o)) (begun t)) (with_name v m
      inner) high new)
      (sym is_high)
      (binds-value p names low scope own begun inner mid base out new binds v m ty o (λ t. operand_value t
      o) is_m
      (ap is_value_shape (shaped Value shape)) added
      (λ t u k. settled-stays false false names low o t u (λ n h. h) settled k)))

  pub bind-location : (l : ℕ) (inner' : Names) → var.shape ≡ Passed → inner' ≡ with_location v l inner
      → Binds p names (own ++ v ∷ []) (λ t. bind_one v (argument_in t (given.Array l)) (begun t)) inner'
      low mid base out
  bind-location l inner' shape is_inner =
      subst (λ inner. Binds p names (own ++ v ∷ []) (λ t. bind_one v (argument_in t (given.Array l)) (begun
      t)) inner low mid base out)
      (sym is_inner)
      (binds-location p names low scope own begun inner mid base out out binds v (ap is_value_shape (shaped
      Passed shape)) l)

-- LISTS of variables

pub begin_all-more : (p : Program) (vs : List VarId) (v : VarId) (s : State)
    → begin_all p (vs ++ v ∷ []) s ≡ begin_shape (variable_of p v).shape v (begin_all p vs s)
begin_all-more p [] v s = refl
begin_all-more p (w ∷ vs) v s = begin_all-more p vs v (begin_shape (variable_of p w).shape w s)

pub bind_all-more : (vs : List VarId) (args : List Argument) (v : VarId) (arg : Argument) (s : State)
    → length vs ≡ length args
    → bind_all (vs ++ v ∷ []) (args ++ arg ∷ []) s ≡ bind_one v arg (bind_all vs args s)
bind_all-more [] [] v arg s same = refl
bind_all-more [] (a ∷ args) v arg s same = absurd (omega arith)
bind_all-more (w ∷ vs) [] v arg s same = absurd (omega arith)
bind_all-more (w ∷ vs) (a ∷ args) v arg s same = bind_all-more vs args v arg (bind_one w a s) (omega arith)

module _ (p : Program) (names : Names) (low high : Types) (base new : List Node) (inner : Names) where
  pub binds-begun : (own vs : List VarId) (v : VarId) (begun : CodeState → State)
      → Binds p names ((own ++ vs) ++ v ∷ []) (λ t. begin_shape (variable_of p v).shape v (begin_all p vs
      (begun t)))
      inner low high base new
      → Binds p names (own ++ (vs ++ v ∷ [])) (λ t. begin_all p (vs ++ v ∷ []) (begun t)) inner low high
      base new
  binds-begun own vs v begun binds =
      subst (λ own. Binds p names own (λ t. begin_all p (vs ++ v ∷ []) (begun t)) inner low high base new)
      (append_assoc own vs (v ∷ []))
      (subst (λ (f : CodeState → State). Binds p names ((own ++ vs) ++ v ∷ []) f inner low high base new)
      (λ i t. sym (begin_all-more p vs v (begun t)) i) binds)
