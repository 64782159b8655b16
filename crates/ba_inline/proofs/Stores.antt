-- The code of statements that change arrays.
use Rattle.std.proofs.Common.{◌≡◌, ℕ, zero, suc, ◌+◌, ◌≤◌, ℤ, pos, Bool, true, false, ◌&&◌, cond, Option, None, Some, Ok, List, [], ◌∷◌, ◌++◌, map, length, take, replicate, refl, sym, ◌∙◌, ap, subst, arith}
use Rattle.std.proofs.lemmas.Bool.{cases_eq}
use Rattle.std.proofs.lemmas.List.{length-replicate, length-set, map-append, replicate-append-replicate, take-replicate}
use Rattle.std.specs.Prelude.{slice_get, slice_set, unsigned_abs, ◌⊎◌}
use Rattle.std.proofs.Common.{inl, inr}
use Rattle.ba_choices.specs.declared.Choice.{Choice}
use Rattle.ba_code.specs.Meaning.{if_taken, info_at, run_nodes, taken}
use Rattle.ba_code.specs.State.{CodeState, operand_value, or_trap_at, set_array, with_array, with_at, with_cell}
use Rattle.ba_code.specs.Types.{Types}
use Rattle.ba_code.specs.declared.nodes.ArrayInfo.{ArrayInfo}
use Rattle.ba_code.specs.declared.nodes.Node.{Node}
use Rattle.ba_code.specs.declared.nodes.Operand.{Operand}
use Rattle.ba_code.specs.declared.nodes.Take.TheVariants as code
use Rattle.ba_inline.proofs.Homes.{home-stays, keeps-with}
use Rattle.ba_inline.proofs.Joining.{both_part, makes-tail}
use Rattle.ba_inline.proofs.Keeping.{grows-same}
use Rattle.ba_inline.proofs.Picks.{fits-meets, with_choices}
use Rattle.ba_inline.proofs.Relaxing.{does-lead, makes-pick}
use Rattle.ba_inline.proofs.Seeing.{at-other, at-self, other-array, seen-array, seen-elements}
use Rattle.ba_inline.proofs.Wiping.{does-cleared}
use Rattle.ba_inline.specs.Adding.{fill_act, pick_act, save_act}
use Rattle.ba_inline.specs.Ends.{Meets}
use Rattle.ba_inline.specs.Keeping.{Keeps}
use Rattle.ba_inline.specs.Making.{Adds, Does, Gives, Makes, reading_all, reading_two}
use Rattle.ba_inline.specs.Names.{IsNaming, Names, OutsideArrays, array_of, location_at, seen, with_home}
use Rattle.ba_inline.specs.Parts.{context_in_frame, declare_part, init_array_part, store_part, values_part}
use Rattle.ba_inline.specs.Wiping.{Wipes}
use Rattle.ba_inline.specs.Worlds.{IsReady, World, code_setting, context_with}
use Rattle.ba_inline.specs.declared.frames.Frame.{Frame}
use Rattle.ba_numbers.specs.Numbers.{is_in}
use Rattle.ba_numbers.specs.declared.ids.StmtId.{StmtId}
use Rattle.ba_numbers.specs.declared.ids.VarId.{VarId}
use Rattle.ba_numbers.specs.declared.numbers.CType.{CType}
use Rattle.ba_tree.proofs.Elements.{elements-length}
use Rattle.ba_tree.specs.Acts.{each, give, then_do}
use Rattle.ba_tree.specs.Choices.{all_elements, if_fitting, one_element}
use Rattle.ba_tree.specs.Meaning.{declare, elements_with, eval, given_element, given_elements, or_trapped, set_element, set_elements, type_of, variable_of}
use Rattle.ba_tree.specs.State.{State, Act, elements_of, is_index, with_elements}
use Rattle.ba_tree.specs.declared.run.Exit.{Exit}
use Rattle.ba_tree.specs.declared.run.Flow.{Flow}
use Rattle.ba_tree.specs.declared.run.Flow.TheVariants.{Next}
use Rattle.ba_tree.specs.declared.run.Step.{Step}
use Rattle.ba_tree.specs.declared.tree.Expr.{Expr}
use Rattle.ba_tree.specs.declared.tree.Program.{Program}
use Rattle.ba_tree.specs.declared.tree.Shape.TheVariants.{Array}

-- ELEMENTS filled up with zeros

filled-empty : (n m k : ℕ) → n ≤ k →
    take n (replicate m (pos 0) ++ replicate k (pos 0)) ≡ take n (replicate k (pos 0))
filled-empty n m k le = ap (take n) (replicate-append-replicate m k (pos 0))
    ∙ take-replicate n (m + k) (pos 0) (omega arith) ∙ sym (take-replicate n k (pos 0) le)

filled-more : (n m k : ℕ) (zs : List ℤ) → n ≤ k
    → take n ((zs ++ replicate m (pos 0)) ++ replicate k (pos 0)) ≡ take n (zs ++ replicate k (pos 0))
filled-more n m k [] le = filled-empty n m k le
filled-more zero m k (z ∷ zs) le = refl
filled-more (suc n) m k (z ∷ zs) le = ap (λ ys. z ∷ ys) (filled-more n m k zs (omega arith))

pub filled-up : (n m : ℕ) (zs : List ℤ) → elements_with n (zs ++ replicate m (pos 0)) ≡ elements_with n zs
filled-up n m zs = filled-more n m n zs (omega arith)

-- an index that fits is in the array
index-by : (a b : Bool) (i z : ℤ) (q : ℤ × ℤ) (n : ℕ) → is_index n i ≡ a →
    cond (a && b) (Some (i, z)) None ≡ Some q
    → is_index n q.0 ≡ true
index-by true true i z q n e is = let same : (i, z) ≡ q = cc in subst (λ (q : ℤ × ℤ). is_index n q.0 ≡
    true) same e
index-by true false i z q n e is = absurd (let f : None ≡ Some q = is in cc)
index-by false b i z q n e is = absurd (let f : None ≡ Some q = is in cc)

index-fits : (t : CType) (n : ℕ) (zs : List ℤ) (q : ℤ × ℤ) → one_element t n zs ≡ Some q →
    is_index n q.0 ≡ true
index-fits t n [] q is = absurd (let f : None ≡ Some q = is in cc)
index-fits t n (i ∷ []) q is = absurd (let f : None ≡ Some q = is in cc)
index-fits t n (i ∷ z ∷ []) q is = index-by (is_index n i) (is_in t z) i z q n refl is
index-fits t n (i ∷ z ∷ y ∷ zs) q is = absurd (let f : None ≡ Some q = is in cc)

module _ (p : Program) (names : Names) (path : List Step) (frame : Frame) (low : Types)
    (naming : IsNaming (with_home frame.home names) low) where
  abbrev DoesNow : CodeState → Flow Exit → State → Flow ℕ → CodeState → Type 0
  DoesNow = Does names frame.exits frame.home low

  home-kept : (c : Bool) (t u : CodeState) → Keeps c names low t u →
      u.variables frame.home ≡ t.variables frame.home
  home-kept c t u k = k.variables frame.home naming.below.0 (home-stays c names frame.home naming.apart.0)

  -- AN ELEMENT

  module _ (array : VarId) (n : ℕ) (found : array_of names array ≡ Some n) where
    cells-of : (u : CodeState) → elements_of (seen names u) array ≡ u.arrays n
    cells-of u = seen-elements names u array n found

    new-length : (m : ℕ) (u : CodeState) (cells : List ℤ) → length cells ≡ length (u.arrays n)
        → (m ≡ n) ⊎ (m ≡ n → ⊥) → length (with_at u.arrays n cells m) ≡ length (u.arrays m)
    new-length m u cells same (inl is) = ap (λ m. length (with_at u.arrays n cells m)) is
        ∙ ap length (at-self u.arrays n cells) ∙ same ∙ ap (λ m. length (u.arrays m)) (sym is)
    new-length m u cells same (inr other) = ap length (at-other u.arrays n m cells other)

    not-among : (m : ℕ) → OutsideArrays m names.arrays → m ≡ n → ⊥
    not-among m out = other-array m names.arrays (location_at names array) n out found

    -- elements that are as many as before
    with-cells : (c : Bool) (t u : CodeState) (cells : List ℤ) → length cells ≡ length (u.arrays n) →
        Keeps c names low t u
        → DoesNow t Next (with_elements (seen names u) array cells) Next (with_array n cells u)
    with-cells c t u cells same k = let l = keeps-with c names frame.home low t u k in record {
      flows = home-kept c t u k;
      sees = sym (seen-array names u array n cells naming.arrays_apart found);
      keeps = record {
        variables = l.variables;
        arrays = λ m few out. at-other u.arrays n m cells (not-among m out) ∙ l.arrays m few out;
        lengths = λ m. new-length m u cells same (cases_eq m n) ∙ l.lengths m;
      };
    }

    stored-by : (b : Bool) (here : StmtId) (c : Bool) (t u : CodeState) (cells : List ℤ) →
        length cells ≡ length (u.arrays n)
        → Keeps c names low t u
        → Meets (DoesNow t) (or_trapped here (cond b (Some (with_elements (seen names u) array cells))
        None) (seen names u))
        (then_do (or_trap_at here (cond b (Some cells) None) u) (set_array n))
    stored-by true here c t u cells same k = with-cells c t u cells same k
    stored-by false here c t u cells same k = (refl, refl)

    stores : (here : StmtId) (c : Bool) (t u : CodeState) (i z : ℤ) → Keeps c names low t u
        → Meets (DoesNow t) (set_element here array (i, z) (seen names u))
        (then_do (or_trap_at here (with_cell (u.arrays n) i z) u) (set_array n))
    stores here c t u i z k = subst
        (λ cells. Meets (DoesNow t)
        (or_trapped here (cond (is_index (length cells) i)
        (Some (with_elements (seen names u) array (slice_set cells (unsigned_abs i) z))) None) (seen names u))
        (then_do (or_trap_at here (with_cell (u.arrays n) i z) u) (set_array n)))
        (sym (cells-of u))
        (stored-by (is_index (length (u.arrays n)) i) here c t u (slice_set (u.arrays n) (unsigned_abs i) z)
        (length-set (u.arrays n) (unsigned_abs i) z) k)

    put-in : (here : StmtId) (c : Bool) (t u : CodeState) (i z : ℤ) → is_index (length (u.arrays n)) i ≡ true
        → Keeps c names low t u
        → Meets (DoesNow t) (set_element here array (i, z) (seen names u))
        (Ok Next, with_array n (slice_set (u.arrays n) (unsigned_abs i) z) u)
    put-in here c t u i z within k = subst
        (λ b. Meets (DoesNow t) (set_element here array (i, z) (seen names u))
        (then_do (or_trap_at here (cond b (Some (slice_set (u.arrays n) (unsigned_abs i) z)) None) u)
        (set_array n)))
        within (stores here c t u i z k)

    -- what the array was declared as
    module _ (high : Types) (info : ArrayInfo) (declared : slice_get high.arrays n ≡ Some info)
        (same_type : info.t ≡ type_of p array) where
      info-in : (infos rest : List ArrayInfo) (k : ℕ) → slice_get infos k ≡ Some info →
          info_at (infos ++ rest) k ≡ info
      info-in [] rest k is = absurd (let f : None ≡ Some info = is in cc)
      info-in (a ∷ infos) rest zero is = cc
      info-in (a ∷ infos) rest (suc k) is = info-in infos rest k is

      element-type : (w : World) (t : CodeState) → IsReady w high t → (info_at w.arrays n).t ≡ type_of p array
      element-type w t ready = ap (λ (a : ArrayInfo). a.t)
          (ap (λ infos. info_at infos n) ready.known.is ∙ info-in high.arrays ready.known.rest n declared)
          ∙ same_type

      -- A STORE

      abbrev cell_fits : World → CodeState → List ℤ → Option (ℤ × ℤ)
      cell_fits w t = one_element (type_of p array) (length (elements_of (seen names t) array))

      cell-taken : (here : StmtId) (w : World) (back : List Step) (t : CodeState) (choices : List Choice)
          (zs : List ℤ)
          → IsReady w high t
          → Meets (DoesNow t) (then_do (if_fitting (cell_fits w t zs) (seen names (with_choices choices
          t))) (set_element here array))
          (if_taken (taken w.arrays (code.Cell n) zs (with_choices choices t)) (with_choices choices t))
      cell-taken here w back t choices zs ready =
          let same : one_element (info_at w.arrays n).t (length (t.arrays n)) zs ≡ cell_fits w t zs =
          ap (λ ty. one_element ty (length (t.arrays n)) zs) (element-type w t ready)
          ∙ ap (λ (cells : List ℤ). one_element (type_of p array) (length cells) zs) (sym (cells-of t)) in
          subst (λ o. Meets (DoesNow t)
          (then_do (if_fitting o (seen names (with_choices choices t))) (set_element here array))
          (if_taken (taken w.arrays (code.Cell n) zs (with_choices choices t)) (with_choices choices t))) same
          (fits-meets (DoesNow t) (one_element (info_at w.arrays n).t (length (t.arrays n)) zs)
          (λ (cell : ℤ × ℤ). with_array n (slice_set (t.arrays n) (unsigned_abs cell.0) cell.1)
          (with_choices choices t))
          (set_element here array) (seen names (with_choices choices t)) (with_choices choices t) refl
          (λ cell is. put-in here true t (with_choices choices t) cell.0 cell.1
          (index-fits (info_at w.arrays n).t (length (t.arrays n)) zs cell is)
          (record { variables = λ m few out. refl; arrays = λ m few out. refl; lengths = λ m. refl })))

      module _ (here : StmtId) (index value : Expr) (c : Bool) (a b : Operand)
          (old new keep stored more : List Node) where
        abbrev index_now : World → List Step → Act ℤ
        index_now w back = eval (context_in_frame p frame w) back here index

        abbrev value_now : World → List Step → Act ℤ
        value_now w back = eval (context_in_frame p frame w) back here value

        abbrev pair_now : World → List Step → Act (ℤ × ℤ)
        pair_now w back s = then_do (index_now w back s) (λ i s. then_do (value_now w back s) (λ z. give
            (i, z)))

        pub makes-store : Makes p names path (both_part index_now value_now) (Gives names c low
            (reading_two a b)) low high [] more
            → Adds more stored (save_act n a b here) → Wipes (length low.vars) frame.home stored keep
            → Adds old new (pick_act path here (code.Cell n) keep)
            → Makes p names path (store_part p frame here array index value) (Does names frame.exits
            frame.home low) low high old new
        unfolding given_element context_with
        makes-store made saved wipes added = makes-pick p names path here (code.Cell n) pair_now cell_fits
            (λ w back. set_element here array) (store_part p frame here array index value)
            (Does names frame.exits frame.home low) low high old new keep added (λ w back t. refl)
            (λ t choices flow s way u. does-lead names frame.exits frame.home low t choices flow s way u)
            (cell-taken here)
            (does-cleared p names path (λ w back t s. then_do (pair_now w back s) (set_element here array))
            frame frame.home low high [] stored keep naming
            (makes-tail p names path (both_part index_now value_now) (λ w back t s. then_do (pair_now w
            back s) (set_element here array))
            (Does names frame.exits frame.home low) c (reading_two a b) low high high [] more stored
            (save_act n a b here)
            (λ w back t. set_element here array) made (grows-same high) saved (λ w back t s. refl)
            (λ w turns t u ready k. stores here c t u (operand_value u a) (operand_value u b) k)) wipes)

      -- THE INITIALISER of an array

      abbrev cells_fit : World → CodeState → List ℤ → Option (List ℤ)
      cells_fit w t = all_elements (type_of p array) (length (elements_of (seen names t) array))

      filled : (c : Bool) (t u : CodeState) (zs cells : List ℤ) → Keeps c names low t u
          → cells ≡ elements_with (length (u.arrays n)) zs
          → Meets (DoesNow t) (set_elements array zs (seen names u)) (Ok Next, with_array n cells u)
      filled c t u zs cells k is =
          subst (λ cells. Meets (DoesNow t) (set_elements array zs (seen names u)) (
            Ok Next,
            with_array n
                cells u,
          ))
          (ap (λ (own : List ℤ). elements_with (length own) zs) (cells-of u) ∙ sym is)
          (with-cells c t u (elements_with (length (elements_of (seen names u) array)) zs)
          (elements-length (length (elements_of (seen names u) array)) zs ∙ ap length (cells-of u)) k)

      cells-taken : (w : World) (back : List Step) (t : CodeState) (choices : List Choice) (zs : List ℤ) →
          IsReady w high t
          → Meets (DoesNow t) (then_do (if_fitting (cells_fit w t zs) (seen names (with_choices choices
          t))) (set_elements array))
          (if_taken (taken w.arrays (code.Cells n) zs (with_choices choices t)) (with_choices choices t))
      cells-taken w back t choices zs ready =
          let same : all_elements (info_at w.arrays n).t (length (t.arrays n)) zs ≡ cells_fit w t zs =
          ap (λ ty. all_elements ty (length (t.arrays n)) zs) (element-type w t ready)
          ∙ ap (λ (cells : List ℤ). all_elements (type_of p array) (length cells) zs) (sym (cells-of t)) in
          subst (λ o. Meets (DoesNow t)
          (then_do (if_fitting o (seen names (with_choices choices t))) (set_elements array))
          (if_taken (taken w.arrays (code.Cells n) zs (with_choices choices t)) (with_choices choices t)))
          same
          (fits-meets (DoesNow t) (all_elements (info_at w.arrays n).t (length (t.arrays n)) zs)
          (λ ys. with_array n (elements_with (length (t.arrays n)) ys) (with_choices choices t))
          (set_elements array) (seen names (with_choices choices t)) (with_choices choices t) refl
          (λ ys is. filled true t (with_choices choices t) ys (elements_with (length (t.arrays n)) ys)
          (record { variables = λ m few out. refl; arrays = λ m few out. refl; lengths = λ m. refl }) refl))

      module _ (here : StmtId) (values : List Expr) (c : Bool) (os zeros : List Operand) (count : ℕ)
          (all_zero : (t : CodeState) → map (operand_value t) zeros ≡ replicate count (pos 0))
          (old new keep filled_nodes more : List Node) where
        abbrev values_now : World → List Step → Act (List ℤ)
        values_now w back = each (map (eval (context_in_frame p frame w) back here) values)

        pub makes-init_array : Makes p names path (values_part p frame here values) (Gives names c low
            (reading_all os)) low high [] more
            → Adds more filled_nodes (fill_act n (os ++ zeros))
            → Wipes (length low.vars) frame.home filled_nodes keep
            → Adds old new (pick_act path here (code.Cells n) keep)
            → Makes p names path (init_array_part p frame here array values) (Does names frame.exits
            frame.home low) low high old new
        unfolding given_elements context_with
        makes-init_array made filled_by wipes added = makes-pick p names path here (code.Cells n) values_now
            cells_fit
            (λ w back. set_elements array) (init_array_part p frame here array values)
            (Does names frame.exits frame.home low) low high old new keep added (λ w back t. refl)
            (λ t choices flow s way u. does-lead names frame.exits frame.home low t choices flow s way u)
            cells-taken
            (does-cleared p names path (λ w back t s. then_do (values_now w back s) (set_elements array))
            frame frame.home low high [] filled_nodes keep naming
            (makes-tail p names path (values_part p frame here values) (λ w back t s. then_do (values_now w
            back s) (set_elements array))
            (Does names frame.exits frame.home low) c (reading_all os) low high high [] more filled_nodes
            (fill_act n (os ++ zeros))
            (λ w back t. set_elements array) made (grows-same high) filled_by (λ w back t s. refl)
            (λ w turns t u ready k. filled c t u (reading_all os u)
            (elements_with (length (u.arrays n)) (map (operand_value u) (os ++ zeros))) k
            (ap (elements_with (length (u.arrays n)))
            (map-append (operand_value u) os zeros ∙ ap (λ zs. reading_all os u ++ zs) (all_zero u))
            ∙ filled-up (length (u.arrays n)) count (reading_all os u)))) wipes)

    -- THE DECLARATION of an array

    pub makes-declared : (size count : ℕ) (zeros : List Operand)
        → ((t : CodeState) → map (operand_value t) zeros ≡ replicate count (pos 0)) → (old new : List Node)
        → (variable_of p array).shape ≡ Array size → Adds old new (fill_act n zeros)
        → Makes p names path (declare_part p array) (Does names frame.exits frame.home low) low low old new
    makes-declared size count zeros all_zero old new shape added = record {
      nodes = added.nodes;
      is = added.is;
      grows = grows-same low;
      runs = λ w turns t ready.
          let cells : elements_with (length (t.arrays n)) (map (operand_value t) zeros)
          ≡ replicate (length (elements_of (seen names t) array)) (pos 0) =
          ap (elements_with (length (t.arrays n))) (all_zero t)
          ∙ filled-up (length (t.arrays n)) count []
          ∙ take-replicate (length (t.arrays n)) (length (t.arrays n)) (pos 0) (omega arith)
          ∙ ap (λ (own : List ℤ). replicate (length own) (pos 0)) (sym (cells-of t)) in
          subst (λ end. Meets (DoesNow t) end (run_nodes (code_setting p w) added.nodes turns t))
          (ap (λ shape. (Ok Next, declare shape array (seen names t))) (sym shape))
          (subst (Meets (DoesNow t) (
            Ok Next,
            with_elements (seen names t) array (replicate (length
                (elements_of (seen names t) array)) (pos 0)),
          ))
          (sym (added.runs (code_setting p w) turns t
          ∙ ap (λ cells. (Ok Next, with_array n cells t)) cells))
          (with-cells true t t (replicate (length (elements_of (seen names t) array)) (pos 0))
          (length-replicate (length (elements_of (seen names t) array)) (pos 0) ∙ ap length (cells-of t))
          (record { variables = λ m few out. refl; arrays = λ m few out. refl; lengths = λ m. refl })));
    }
