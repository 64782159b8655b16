-- Binding the variables of a frame, one after the other.
use Rattle.std.proofs.Common.{◌≡◌, ℕ, zero, suc, ◌+◌, ◌<◌, ◌≤◌, ◌⊎◌, inl, inr, ℤ, pos, true, false, None, Some, Ok, List, [], ◌∷◌, ◌++◌, map, length, take, replicate, refl, sym, ◌∙◌, ap, subst, arith, append-nil}
use Rattle.std.proofs.lemmas.Bool.{cases_eq}
use Rattle.std.proofs.lemmas.List.{append_assoc, length-append, length-map, length-replicate, map-append, replicate-append-replicate, take-replicate, get_or_at}
use Rattle.std.specs.Prelude.{slice_get, slice_index_or, slice_set}
use Rattle.ba_code.proofs.Rows.{run-append, run-none}
use Rattle.ba_code.specs.Meaning.{Setting, info_at, run_nodes}
use Rattle.ba_code.specs.State.{CodeExecution, CodeState, operand_value, with_array, with_at, with_variable}
use Rattle.ba_code.specs.Types.{Types}
use Rattle.ba_code.specs.declared.nodes.ArrayInfo.{ArrayInfo}
use Rattle.ba_code.specs.declared.nodes.Node.{Node}
use Rattle.ba_code.specs.declared.nodes.Operand.{Operand}
use Rattle.ba_code.specs.declared.nodes.Operand.TheVariants.{Const, Var}
use Rattle.ba_inline.proofs.Ends.{meets-pure, meets-then}
use Rattle.ba_inline.proofs.Hiding.{apart-set, below-set, found-set, one-place, outside-by, outside-set, read-set, restored-more, restored-same, same-at}
use Rattle.ba_inline.proofs.Joining.{below-more, joined}
use Rattle.ba_inline.proofs.Keeping.{begins-length, begins-same, begins-then, grows-same, grows-then, grows-var, keeps-same, ready-after, ready-before, with_var-length}
use Rattle.ba_inline.proofs.Scopes.{below-arrays-more}
use Rattle.ba_inline.proofs.Seeing.{arrays-outside, at-other, at-self, operands-outside, outside-new}
use Rattle.ba_inline.specs.Adding.{fill_act, set_act}
use Rattle.ba_inline.specs.Binding.{Binds, Enters, restored}
use Rattle.ba_inline.specs.Declarations.{Grows, with_array_info, with_var}
use Rattle.ba_inline.specs.Ends.{Meets}
use Rattle.ba_inline.specs.Keeping.{Keeps}
use Rattle.ba_inline.specs.Making.{Adds}
use Rattle.ba_inline.specs.Names.{AreApartArrays, AreBelow, AreBelowArrays, IsScope, Names, Outside, OutsideArrays, seen, with_location, with_name}
use Rattle.ba_inline.specs.Worlds.{IsReady, World, code_setting}
use Rattle.ba_numbers.specs.declared.ids.VarId.{VarId}
use Rattle.ba_numbers.specs.declared.numbers.CType.{CType}
use Rattle.ba_numbers.specs.declared.numbers.CType.TheVariants.{I32}
use Rattle.ba_tree.specs.Acts.{after_part, then_do}
use Rattle.ba_tree.specs.Facts.{is_value_shape}
use Rattle.ba_tree.specs.Meaning.{elements_with, variable_of}
use Rattle.ba_tree.specs.State.{State, with_value}
use Rattle.ba_tree.specs.declared.run.Flow.{Flow}
use Rattle.ba_tree.specs.declared.run.Flow.TheVariants.{Next}
use Rattle.ba_tree.specs.declared.tree.Program.{Program}

below-found : (os : List Operand) (count v n : ℕ) → AreBelow count os → slice_get os v ≡ Some (Var n) →
    n < count
below-found [] count v n below found = absurd (let f : None ≡ Some (Var n) = found in cc)
below-found (Const z ∷ os) count zero n below found = absurd (let f : Some (Const z) ≡ Some (Var n) = found
    in cc)
below-found (Var m ∷ os) count zero n below found =
    let e : m ≡ n = (let f : Some (Var m) ≡ Some (Var n) = found in cc) in subst (λ n. n < count) e below.0
below-found (o ∷ os) count (suc v) n below found = below-found os count v n below.1 found

found-at : (os : List Operand) (v m n : ℕ) → slice_get (slice_set os v (Var m)) v ≡ Some (Var n) → m ≡ n
found-at [] v m n found = absurd (let f : None ≡ Some (Var n) = found in cc)
found-at (o ∷ os) zero m n found = let f : Some (Var m) ≡ Some (Var n) = found in cc
found-at (o ∷ os) (suc v) m n found = found-at os v m n found

pub seen-new-name : (inner : Names) (u : CodeState) (v : VarId) (m : ℕ) (y : ℤ) → Outside m inner.values
    → seen (with_name v m inner) (with_variable m y u) ≡ with_value (seen inner u) v y
seen-new-name inner u v m y out = ap (λ values. record (seen inner u) { values = values })
    (read-set (with_variable m y u) inner.values v.0 m
    ∙ ap (λ values. slice_set values v.0 (with_at u.variables m y m)) (operands-outside u m y inner.values
    out)
    ∙ ap (slice_set (map (operand_value u) inner.values) v.0) (at-self u.variables m y))

-- ARRAYS

pub arrays-new : (count : ℕ) (ns : List ℕ) → AreBelowArrays count ns → OutsideArrays count ns
arrays-new count [] below = tt
arrays-new count (n ∷ ns) below = (
  (λ same. absurd (omega (arith, below.0, same))),
  arrays-new count ns
      below.1,
)

outside-push : (n : ℕ) (ns : List ℕ) (k : ℕ) → (k ≡ n → ⊥) → OutsideArrays n ns →
    OutsideArrays n (ns ++ k ∷ [])
outside-push n [] k other out = (other, tt)
outside-push n (m ∷ ms) k other out = (out.0, outside-push n ms k other out.1)

pub apart-push : (ns : List ℕ) (k : ℕ) → OutsideArrays k ns → AreApartArrays ns →
    AreApartArrays (ns ++ k ∷ [])
apart-push [] k out apart = (tt, tt)
apart-push (n ∷ ns) k out apart =
    (outside-push n ns k (λ same. out.0 (sym same)) apart.0, apart-push ns k out.1 apart.1)

pub below-push : (ns : List ℕ) (k count : ℕ) → k < count → AreBelowArrays count ns →
    AreBelowArrays count (ns ++ k ∷ [])
below-push [] k count few below = (few, tt)
below-push (n ∷ ns) k count few below = (below.0, below-push ns k count few below.1)

module _ (p : Program) (names : Names) (low : Types) (scope : IsScope p names low) where
  pub binds-nothing : (old : List Node) → Binds p names [] (λ t. seen names t) names low low old old
  binds-nothing old = record {
    nodes = [];
    is = sym (append-nil old);
    grows = grows-same low;
    scope = scope;
    origin = λ v n found. inl found;
    behind = begins-same names.arrays;
    arrays_new = λ n few out. out;
    hides = λ t u same. refl;
    hides_locations = refl;
    runs = λ w turns t ready. subst (Meets (Enters names names low t) (Ok tt, seen names t))
        (sym (run-none (code_setting p w) turns t))
        (record { on = refl; sees = refl; keeps = keeps-same false names low t });
  }

  -- a variable of one value that hasn't one of the code is the same always
  no-name : (v : VarId) → is_value_shape (variable_of p v).shape ≡ false → (t u : CodeState)
      → slice_index_or (map (operand_value t) names.values) v.0 (pos 0)
      ≡ slice_index_or (map (operand_value u) names.values) v.0 (pos 0)
  no-name v shape t u = same-at names.values v.0 t u
      (λ n found. absurd (let yes_shape : is_value_shape (variable_of p v).shape ≡ true = scope.values.by v
      n found in cc))

  module _ (own : List VarId) (begun : CodeState →
      State) (inner : Names) (mid : Types) (old out new : List Node)
      (binds : Binds p names own begun inner low mid old out) (v : VarId) where
    few : length low.vars ≤ length mid.vars
    few = binds.grows.vars

    few_arrays : length low.arrays ≤ length mid.arrays
    few_arrays = begins-length low.arrays mid.arrays binds.grows.arrays

    -- A VALUE

    module _ (m : ℕ) (ty : CType) (o : Operand) (z : CodeState → ℤ) (is_m : m ≡ length mid.vars)
        (shape : is_value_shape (variable_of p v).shape ≡ true)
        (added : Adds out new (set_act m o))
        (reads : (t u : CodeState) → Keeps false names low t u → operand_value u o ≡ z t) where
      inner-below : AreBelow m inner.values
      inner-below = subst (λ m. AreBelow m inner.values) (sym is_m) binds.scope.naming.below

      m-out : Outside m inner.values
      m-out = outside-new m inner.values inner-below

      m-new : (n : ℕ) → n < length low.vars → m ≡ n → ⊥
      m-new n below same = absurd (omega (arith, below, same, is_m, few))

      value-origin : (w n : ℕ) → ((w ≡ v.0) × (m ≡ n)) ⊎ (slice_get inner.values w ≡ Some (Var n))
          → (slice_get names.values w ≡ Some (Var n)) ⊎ (length low.vars ≤ n)
      value-origin w n (inl both) = inr (omega (arith, both.1, is_m, few))
      value-origin w n (inr found) = binds.origin w n found

      -- the name that is hidden occurs nowhere in the frame
      hidden-by : (n w : ℕ) → slice_get names.values v.0 ≡ Some (Var n)
          → slice_get (slice_set inner.values v.0 (Var m)) w ≡ Some (Var n)
          → (slice_get names.values w ≡ Some (Var n)) ⊎ (length low.vars ≤ n) → ⊥
      hidden-by n w found again (inl named) =
          let same : w ≡ v.0 = one-place names.values n w v.0 scope.naming.apart named found in
          m-new n (below-found names.values (length low.vars) v.0 n scope.naming.below found)
          (found-at inner.values v.0 m n
          (ap (slice_get (slice_set inner.values v.0 (Var m))) (sym same) ∙ again))
      hidden-by n w found again (inr many) =
          let below : n < length low.vars = below-found names.values (length low.vars) v.0 n
          scope.naming.below found in
          absurd (omega (arith, below, many))

      hidden-out : (n : ℕ) → slice_get names.values v.0 ≡ Some (Var n)
          → Outside n (slice_set inner.values v.0 (Var m))
      hidden-out n found = outside-by (slice_set inner.values v.0 (Var m)) n
          (λ w again. hidden-by n w found again (value-origin w n (found-set inner.values v.0 m w n again)))

      value-shape : (w : VarId) (n : ℕ) →
          ((w.0 ≡ v.0) × (m ≡ n)) ⊎ (slice_get inner.values w.0 ≡ Some (Var n))
          → is_value_shape (variable_of p w).shape ≡ true
      value-shape w n (inl both) =
          ap (λ (k : ℕ). is_value_shape (variable_of p (record { 0 = k })).shape) both.0 ∙ shape
      value-shape w n (inr found) = binds.scope.values.by w n found

      value-scope : IsScope p (with_name v m inner) (with_var ty mid)
      value-scope = let count : length (with_var ty mid).vars ≡ length mid.vars + 1 = with_var-length ty
          mid in record {
            naming = record {
              apart = apart-set inner.values v.0 m m-out binds.scope.naming.apart;
              below = below-set inner.values v.0 m (length (with_var ty mid).vars)
                  (omega (arith, count, is_m))
                  (below-more (length mid.vars) (length (with_var ty mid).vars) inner.values (omega (
                    arith,
                    count,
                  ))
                  binds.scope.naming.below);
              arrays_apart = binds.scope.naming.arrays_apart;
              arrays_below = binds.scope.naming.arrays_below;
            };
            values = record { by = λ w n found. value-shape w n (found-set inner.values v.0 m w.0 n found) };
          }

      value-hides : (t u : CodeState)
          → ((n : ℕ) → n < length low.vars → Outside n (slice_set inner.values v.0 (Var m)) →
          u.variables n ≡ t.variables n)
          → restored (pos 0) (own ++ v ∷ []) (map (operand_value t) names.values)
          (map (operand_value u) (slice_set inner.values v.0 (Var m))) ≡ map (operand_value u) names.values
      value-hides t u same =
          ap (restored (pos 0) (own ++ v ∷ []) (map (operand_value t) names.values)) (read-set u
          inner.values v.0 m)
          ∙ restored-more (pos 0) own v (u.variables m) (map (operand_value t) names.values)
          (map (operand_value u) inner.values) (map (operand_value u) names.values)
          (binds.hides t u (λ n below out. same n below (outside-set inner.values v.0 m n (m-new n below)
          out)))
          (same-at names.values v.0 t u (λ n found. same n
          (below-found names.values (length low.vars) v.0 n scope.naming.below found) (hidden-out n found)))

      value-entered : (g : Setting) (turns : List ℕ) (t : CodeState) (s : State) (way : Flow ℕ) (u :
          CodeState)
          → Enters names inner low t tt s way u
          → Meets (Enters names (with_name v m inner) low t) (Ok tt, with_value s v (z t))
          (after_part (set_act m o g turns) way u)
      value-entered g turns t s way u given =
          subst (λ way. Meets (Enters names (with_name v m inner) low t) (Ok tt, with_value s v (z t))
          (after_part (set_act m o g turns) way u)) (sym given.on)
          (record {
            on = refl;
            sees = ap (λ s. with_value s v (z t)) given.sees
                ∙ ap (with_value (seen inner u) v) (sym (reads t u given.keeps))
                ∙ sym (seen-new-name inner u v m (operand_value u o) m-out);
            keeps = record {
              variables = λ n below stays.
                  at-other u.variables m n (operand_value u o) (λ same. m-new n below (sym same))
                  ∙ given.keeps.variables n below stays;
              arrays = given.keeps.arrays;
              lengths = given.keeps.lengths;
            };
          })

      pub binds-value : Binds p names (own ++ v ∷ []) (λ t. with_value (begun t) v (z t)) (with_name v m
          inner) low
          (with_var ty mid) old new
      binds-value = record {
        nodes = binds.nodes ++ added.nodes;
        is = joined old out new binds.nodes added.nodes binds.is added.is;
        grows = grows-then low mid (with_var ty mid) binds.grows (grows-var ty mid);
        scope = value-scope;
        origin = λ w n found. value-origin w n (found-set inner.values v.0 m w n found);
        behind = binds.behind;
        arrays_new = binds.arrays_new;
        hides = value-hides;
        hides_locations = restored-same 0 own v names.locations inner.locations names.locations
            binds.hides_locations refl;
        runs = λ w turns t ready.
            let g : Setting = code_setting p w in
            subst (Meets (Enters names (with_name v m inner) low t) (Ok tt, with_value (begun t) v (z t)))
            (sym (run-append g turns t binds.nodes added.nodes
            ∙ ap (λ (h : CodeExecution). then_do (run_nodes g binds.nodes turns t) (after_part h)) (λ i u.
            added.runs g turns u i)))
            (meets-then (Enters names inner low t) (Enters names (with_name v m inner) low t) (Ok tt, begun t)
            (run_nodes g binds.nodes turns t) (λ a s. (Ok tt, with_value s v (z t))) (after_part (set_act m
            o g turns))
            (binds.runs w turns t (ready-before w mid (with_var ty mid) t (grows-var ty mid) ready))
            (λ a s way u given. value-entered g turns t s way u given));
      }

    -- THE LOCATION of an array that is given

    module _ (shape : is_value_shape (variable_of p v).shape ≡ false) where
      abbrev with_location_of : State → ℕ → State
      with_location_of s l = record s { locations = slice_set s.locations v.0 l }

      located : (l : ℕ) (t : CodeState) (s : State) (way : Flow ℕ) (u : CodeState) →
          Enters names inner low t tt s way u
          → Enters names (with_location v l inner) low t tt (with_location_of s l) way u
      located l t s way u given = record {
        on = given.on;
        sees = ap (λ s. with_location_of s l) given.sees;
        keeps = given.keeps;
      }

      same-hides : (t u : CodeState)
          → ((n : ℕ) → n < length low.vars → Outside n inner.values → u.variables n ≡ t.variables n)
          → restored (pos 0) (own ++ v ∷ []) (map (operand_value t) names.values) (map (operand_value u)
          inner.values)
          ≡ map (operand_value u) names.values
      same-hides t u same = restored-same (pos 0) own v (map (operand_value t) names.values)
          (map (operand_value u) inner.values) (map (operand_value u) names.values) (binds.hides t u same)
          (no-name v shape t u)

      pub binds-location : (l : ℕ) → Binds p names (own ++ v ∷ []) (λ t. with_location_of (begun t) l)
          (with_location v l inner) low mid old out
      binds-location l = record {
        nodes = binds.nodes;
        is = binds.is;
        grows = binds.grows;
        scope = record {
          naming = record {
            apart = binds.scope.naming.apart;
            below = binds.scope.naming.below;
            arrays_apart = binds.scope.naming.arrays_apart;
            arrays_below = binds.scope.naming.arrays_below;
          };
          values = record { by = binds.scope.values.by };
        };
        origin = binds.origin;
        behind = binds.behind;
        arrays_new = binds.arrays_new;
        hides = same-hides;
        hides_locations = restored-more 0 own v l names.locations inner.locations names.locations
            binds.hides_locations refl;
        runs = λ w turns t ready.
            meets-pure (Enters names inner low t) (Enters names (with_location v l inner) low t) (
              Ok tt,
              begun t,
            )
            (run_nodes (code_setting p w) binds.nodes turns t) (λ a s. (Ok tt, with_location_of s l))
            (binds.runs w turns t ready) (λ a s way u given. located l t s way u given);
      }

      -- nothing at all
      pub binds-passed : Binds p names (own ++ v ∷ []) begun inner low mid old out
      binds-passed = record {
        nodes = binds.nodes;
        is = binds.is;
        grows = binds.grows;
        scope = binds.scope;
        origin = binds.origin;
        behind = binds.behind;
        arrays_new = binds.arrays_new;
        hides = same-hides;
        hides_locations = restored-same 0 own v names.locations inner.locations names.locations
            binds.hides_locations refl;
        runs = binds.runs;
      }

      -- AN ARRAY OF ITS OWN

      module _ (k count : ℕ) (ty : CType) (zeros : List Operand) (is_k : k ≡ length mid.arrays)
          (all_zero : (t : CodeState) → map (operand_value t) zeros ≡ replicate count (pos 0))
          (added : Adds out new (fill_act k zeros)) where
        abbrev info : ArrayInfo
        info = record { len = count; t = ty }

        abbrev with_one : Names
        with_one = record (with_location v (length inner.arrays) inner) { arrays = inner.arrays ++ k ∷ [] }

        abbrev one_begun : State → State
        one_begun s = record s {
          arrays = s.arrays ++ replicate count (pos 0) ∷ [];
          locations = slice_set s.locations v.0 (length s.arrays);
        }

        k-out : OutsideArrays k inner.arrays
        k-out = arrays-new k inner.arrays
            (subst (λ k. AreBelowArrays k inner.arrays) (sym is_k) binds.scope.naming.arrays_below)

        many : length (with_array_info info mid).arrays ≡ length mid.arrays + 1
        many = length-append mid.arrays (info ∷ [])

        array-scope : IsScope p with_one (with_array_info info mid)
        array-scope = record {
          naming = record {
            apart = binds.scope.naming.apart;
            below = binds.scope.naming.below;
            arrays_apart = apart-push inner.arrays k k-out binds.scope.naming.arrays_apart;
            arrays_below = below-push inner.arrays k (length (with_array_info info mid).arrays)
                (omega (arith, many, is_k))
                (below-arrays-more (length mid.arrays) (length (with_array_info info mid).arrays) inner.arrays
                (omega (arith, many)) binds.scope.naming.arrays_below);
          };
          values = record { by = binds.scope.values.by };
        }

        grows-array : Grows mid (with_array_info info mid)
        grows-array = record { vars = omega arith; arrays = record { rest = info ∷ []; is = refl } }

        -- the array has as many elements as were declared
        sized-new : (w : World) (u : CodeState) → IsReady w (with_array_info info mid) u →
            length (u.arrays k) ≡ count
        sized-new w u ready = ready.sized k ∙ ap (λ (a : ArrayInfo). a.len)
            (ap (λ arrays. info_at arrays k) (ready.known.is ∙ append_assoc mid.arrays (info ∷ [])
            ready.known.rest)
            ∙ get_or_at mid.arrays info ready.known.rest (record { len = 0; t = I32 }) k (sym is_k))

        filled-zeros : (n m : ℕ) → n ≡ count → elements_with n (replicate m (pos 0)) ≡ replicate count (pos 0)
        filled-zeros n m is =
            ap (take n) (replicate-append-replicate m n (pos 0))
            ∙ take-replicate n (m + n) (pos 0) (omega arith) ∙ ap (λ n. replicate n (pos 0)) is

        kept-length : (n : ℕ) (u : CodeState) → (n ≡ k) ⊎ (n ≡ k → ⊥) → length (u.arrays k) ≡ count
            → length (with_at u.arrays k (replicate count (pos 0)) n) ≡ length (u.arrays n)
        kept-length n u (inl same) size =
            ap (λ n. length (with_at u.arrays k (replicate count (pos 0)) n)) same
            ∙ ap length (at-self u.arrays k (replicate count (pos 0)))
            ∙ length-replicate count (pos 0) ∙ sym size ∙ ap (λ n. length (u.arrays n)) (sym same)
        kept-length n u (inr other) size = ap length (at-other u.arrays k n (replicate count (pos 0)) other)

        seen-one : (u : CodeState) →
            seen with_one (with_array k (replicate count (pos 0)) u) ≡ one_begun (seen inner u)
        seen-one u = ap (λ arrays. record (seen with_one u) { arrays = arrays })
            (map-append (with_at u.arrays k (replicate count (pos 0))) inner.arrays (k ∷ [])
            ∙ ap (λ xs. xs ++ with_at u.arrays k (replicate count (pos 0)) k ∷ [])
            (arrays-outside u.arrays k (replicate count (pos 0)) inner.arrays k-out)
            ∙ ap (λ x. map u.arrays inner.arrays ++ x ∷ []) (at-self u.arrays k (replicate count (pos 0))))
            ∙ ap (λ n. record (seen inner u) {
              arrays = map u.arrays inner.arrays ++ replicate count (pos 0) ∷ [];
              locations = slice_set inner.locations v.0 n;
            }) (sym (length-map inner.arrays u.arrays))

        array-entered : (w : World) (turns : List ℕ) (t : CodeState) (s : State) (way : Flow ℕ) (u :
            CodeState)
            → IsReady w (with_array_info info mid) t → Enters names inner low t tt s way u
            → Meets (Enters names with_one low t) (Ok tt, one_begun s)
            (after_part (fill_act k zeros (code_setting p w) turns) way u)
        array-entered w turns t s way u ready given =
            let after : IsReady w (with_array_info info mid) u =
            ready-after w (with_array_info info mid) false names low t u given.keeps ready in
            let size : length (u.arrays k) ≡ count = sized-new w u after in
            let made : elements_with (length (u.arrays k)) (map (operand_value u) zeros) ≡ replicate count
            (pos 0) =
            ap (elements_with (length (u.arrays k))) (all_zero u) ∙ filled-zeros (length (u.arrays k))
            count size in
            subst (λ way. Meets (Enters names with_one low t) (Ok tt, one_begun s)
            (after_part (fill_act k zeros (code_setting p w) turns) way u)) (sym given.on)
            (subst (λ zs. Enters names with_one low t tt (one_begun s) Next (with_array k zs u)) (sym made)
            (record {
              on = refl;
              sees = ap one_begun given.sees ∙ sym (seen-one u);
              keeps = record {
                variables = given.keeps.variables;
                arrays = λ n below outside.
                    at-other u.arrays k n (replicate count (pos 0)) (λ same. absurd (omega (
                      arith,
                      below,
                      same,
                      is_k,
                      few_arrays,
                    )))
                    ∙ given.keeps.arrays n below outside;
                lengths = λ n. kept-length n u (cases_eq n k) size ∙ given.keeps.lengths n;
              };
            }))

        pub binds-array : Binds p names (own ++ v ∷ []) (λ t. one_begun (begun t)) with_one low
            (with_array_info info mid) old new
        binds-array = record {
          nodes = binds.nodes ++ added.nodes;
          is = joined old out new binds.nodes added.nodes binds.is added.is;
          grows = grows-then low mid (with_array_info info mid) binds.grows grows-array;
          scope = array-scope;
          origin = binds.origin;
          behind = begins-then names.arrays inner.arrays (inner.arrays ++ k ∷ []) binds.behind (record {
            rest = k ∷ [];
            is = refl;
          });
          arrays_new = λ n below outside. outside-push n inner.arrays k (λ same. absurd (omega (
            arith,
            below,
            same,
            is_k,
            few_arrays,
          )))
              (binds.arrays_new n below outside);
          hides = same-hides;
          hides_locations =
              restored-more 0 own v (length inner.arrays) names.locations inner.locations names.locations
              binds.hides_locations refl;
          runs = λ w turns t ready.
              let g : Setting = code_setting p w in
              subst (Meets (Enters names with_one low t) (Ok tt, one_begun (begun t)))
              (sym (run-append g turns t binds.nodes added.nodes
              ∙ ap (λ (h : CodeExecution). then_do (run_nodes g binds.nodes turns t) (after_part h)) (λ i
              u. added.runs g turns u i)))
              (meets-then (Enters names inner low t) (Enters names with_one low t) (Ok tt, begun t)
              (run_nodes g binds.nodes turns t) (λ a s. (Ok tt, one_begun s)) (after_part (fill_act k zeros
              g turns))
              (binds.runs w turns t (ready-before w mid (with_array_info info mid) t grows-array ready))
              (λ a s way u given. array-entered w turns t s way u ready given));
        }
