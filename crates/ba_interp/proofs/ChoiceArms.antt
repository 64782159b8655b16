-- What is in place of a statement's own expressions, from what the choice and they give.
use Rattle.std.proofs.Common.{◌≡◌, ℕ, ℤ, Bool, Option, None, Some, Result, Ok, Err, List, map, length, refl, sym, ◌∙◌, ap, subst}
use Rattle.std.specs.Prelude.{option_map}
use Rattle.ba_numbers.specs.declared.ids.StmtId.{StmtId}
use Rattle.ba_numbers.specs.declared.numbers.CType.{CType}
use Rattle.ba_numbers.specs.declared.ids.VarId.{VarId}
use Rattle.ba_numbers.specs.declared.ids.FnId.{FnId}
use Rattle.ba_numbers.specs.declared.ids.CallId.{CallId}
use Rattle.ba_tree.specs.Acts.{give, then_do, each}
use Rattle.ba_tree.specs.Choices.{admits, choice_at, if_fitting, as_chosen, value_by_choice, all_elements, one_element, no_value}
use Rattle.ba_tree.specs.Meaning.{eval, given_value, condition, given_elements, given_element, call_effect, print_effect, type_of}
use Rattle.ba_tree.specs.State.{State, Act, Ending, elements_of}
use Rattle.ba_tree.specs.declared.run.Step.{Step}
use Rattle.ba_tree.specs.declared.tree.Arg.{Arg}
use Rattle.ba_tree.specs.declared.tree.Expr.{Expr}
use Rattle.ba_interp.specs.Doing.{Did}
use Rattle.ba_interp.specs.Settings.{call_value_at, context_at, given_at, fitting_of}
use Rattle.ba_interp.specs.declared.relaxing.Wanted.{Wanted}
use Rattle.ba_interp.specs.declared.relaxing.Wanted.TheVariants.{Value, Truth}
use Rattle.ba_interp.specs.declared.setting.Frame.{Frame}
use Rattle.ba_interp.specs.declared.setting.Setting.{Setting}
use Rattle.ba_interp.specs.declared.stop.Stop.{Stop}
use Rattle.ba_interp.proofs.Steps.{did-is, did-end, did-then}

-- a whole that is as written or as the choice says
pub record IsByChoice {A : Type 0} (whole : Ending A) (admitted : Bool) (fitting : List ℤ
    → Option A) (written : Act A) (s : State) : Type 0 where
  pub is : whole ≡ value_by_choice admitted fitting written s

module _ {A : Type 0} {whole : Ending A} {admitted : Bool} {fitting : List ℤ
    → Option A} {written : Act A} {s : State}
    (parts : IsByChoice whole admitted fitting written s) where
  pub chosen-ends : {stop : Stop} (r : Result A Stop) (t : State) → r ≡ Err stop
      → Did (Err stop) t (choice_at admitted s) → Did r t whole
  chosen-ends {stop = stop} r t ended did = did-is r t whole (value_by_choice admitted fitting written s)
      parts.is
      (did-end r stop t (choice_at admitted s) (as_chosen fitting written) ended did)

  chosen-goes : (r : Result A Stop) (t u : State) (o : Option (List ℤ)) → Did (Ok o) t (choice_at admitted s)
      → Did r u (as_chosen fitting written o t) → Did r u whole
  chosen-goes r t u o did then_is = did-is r u whole (value_by_choice admitted fitting written s) parts.is
      (did-then o r t u (choice_at admitted s) (as_chosen fitting written) did then_is)

  pub chosen-written : {V : Type 0} (r : Result A Stop) (t u : State) (now : V → List ℤ) (o : Option V)
      → Did (Ok (option_map now o)) t (choice_at admitted s) → o ≡ None → Did r u (written t) → Did r u whole
  chosen-written r t u now o did none then_is =
      chosen-goes r t u None (subst (λ o. Did (Ok (option_map now o)) t (choice_at admitted s)) none did)
      then_is

  pub chosen-values : {V : Type 0} (r : Result A Stop) (t : State) (now : V → List ℤ) (o : Option V) (v : V)
      → Did (Ok (option_map now o)) t (choice_at admitted s) → o ≡ Some v → Did r t (if_fitting (fitting (now
      v)) t) → Did r t whole
  chosen-values r t now o v did some then_is =
      chosen-goes r t t (Some (now v)) (subst (λ o. Did (Ok (option_map now o)) t (choice_at admitted s)) some
      did) then_is

module _ (w : Setting) (f : Frame) (path : List Step) (stmt : StmtId) (s : State) where
  abbrev pub is_admitted : Bool
  is_admitted = admits w.program.now w.allowed.now path stmt

  pub given-parts : (wanted : Wanted) (e : Expr)
      → IsByChoice (given_at (context_at w f) path stmt wanted e s) is_admitted (fitting_of wanted) (eval
      (context_at w f) path stmt e) s
  unfolding context_at given_value condition
  given-parts (Value t) e = record { is = refl }
  given-parts Truth e = record { is = refl }

  pub elements-parts : (array : VarId) (es : List Expr) (t : CType) (count : ℕ)
      → t ≡ type_of w.program.now array
      → count ≡ length (elements_of s array)
      → IsByChoice (given_elements (context_at w f) path stmt array es s) is_admitted (all_elements t count)
      (each (map (eval (context_at w f) path stmt) es)) s
  unfolding context_at given_elements
  elements-parts array es t count is_t is_count = record {
    is =
        ap (λ t. value_by_choice is_admitted (all_elements t (length (elements_of s array))) (each (map (eval
        (context_at w f) path stmt) es)) s) (sym is_t)
        ∙ ap (λ n. value_by_choice is_admitted (all_elements t n) (each (map (eval (context_at w f) path stmt)
        es)) s) (sym is_count);
  }

  abbrev pub both : Expr → Expr → Act (ℤ × ℤ)
  both index value s = then_do (eval (context_at w f) path stmt index s) (λ i s. then_do (eval (context_at w
      f) path stmt value s) (λ z. give (i, z)))

  pub element-parts : (array : VarId) (index value : Expr) (t : CType) (count : ℕ)
      → t ≡ type_of w.program.now array
      → count ≡ length (elements_of s array)
      → IsByChoice (given_element (context_at w f) path stmt array index value s) is_admitted (one_element t
      count) (both index value) s
  unfolding context_at given_element
  element-parts array index value t count is_t is_count = record {
    is =
        ap (λ t. value_by_choice is_admitted (one_element t (length (elements_of s array))) (both index value)
        s) (sym is_t)
        ∙ ap (λ n. value_by_choice is_admitted (one_element t n) (both index value) s) (sym is_count);
  }

  module _ (index value : Expr) (m : State) where
    abbrev index_first : Ending ℤ
    index_first = eval (context_at w f) path stmt index m

    abbrev value_next : ℤ → Act (ℤ × ℤ)
    value_next i s = then_do (eval (context_at w f) path stmt value s) (λ z. give (i, z))

    pub element-first : (r : Result (ℤ × ℤ) Stop) (stop : Stop) (t : State) → r ≡ Err stop
        → Did (Err stop) t index_first → Did r t (both index value m)
    element-first r stop t ended did = did-end r stop t index_first value_next ended did

    pub element-second : (r : Result (ℤ × ℤ) Stop) (stop : Stop) (i : ℤ) (t u : State)
        → Did (Ok i) t index_first → r ≡ Err stop
        → Did (Err stop) u (eval (context_at w f) path stmt value t) → Did r u (both index value m)
    element-second r stop i t u did ended second = did-then i r t u index_first value_next did
        (did-end r stop u (eval (context_at w f) path stmt value t) (λ z. give (i, z)) ended second)

    pub element-both : (i j y z : ℤ) (t u : State) → j ≡ i → z ≡ y → Did (Ok i) t index_first
        → Did (Ok y) u (eval (context_at w f) path stmt value t) → Did (Ok (j, z)) u (both index value m)
    element-both i j y z t u is_i is_y did second = did-then i (Ok (j, z)) t u index_first value_next did
        (did-then y (Ok (j, z)) u u (eval (context_at w f) path stmt value t) (λ z. give (i, z)) second
        (ap (λ i. (Ok (i, y), u)) (sym is_i) ∙ ap (λ y. (Ok (j, y), u)) (sym is_y)))

  abbrev pub a_call : CallId → FnId → List Arg → Act (Unit {0})
  a_call call function args s = then_do (call_value_at (context_at w f) path stmt call function args s)
      (λ z. give tt)

  module _ (call : CallId) (function : FnId) (args : List Arg) (m : State) where
    abbrev the_call : Ending ℤ
    the_call = call_value_at (context_at w f) path stmt call function args m

    abbrev nothing_more : ℤ → Act (Unit {0})
    nothing_more z = give tt

    pub call-stops : (r : Result (Unit {0}) Stop) (stop : Stop) (u : State) → r ≡ Err stop
        → Did (Err stop) u the_call → Did r u (a_call call function args m)
    call-stops r stop u = did-end r stop u the_call nothing_more

    pub call-made : (z : ℤ) (u : State) → Did (Ok z) u the_call → Did (Ok tt) u (a_call call function args m)
    call-made z u did = did-then z (Ok tt) u u the_call nothing_more did refl

  pub call-parts : (call : CallId) (function : FnId) (args : List Arg)
      → IsByChoice (call_effect (context_at w f) path stmt call function args s) is_admitted
      no_value (a_call call function args) s
  unfolding context_at call_effect
  call-parts call function args = record { is = refl }

  abbrev pub a_print : List Expr → Act (Unit {0})
  a_print args s = then_do (each (map (eval (context_at w f) path stmt) args) s) (λ zs. give tt)

  pub print-parts : (args : List Expr)
      → IsByChoice (print_effect (context_at w f) path stmt args s) is_admitted no_value (a_print args) s
  unfolding context_at print_effect
  print-parts args = record { is = refl }
