-- The code of calls.
use Rattle.std.proofs.Common.{◌≡◌, ℕ, suc, ◌+◌, ◌<◌, ◌≤◌, ◌⊎◌, inl, inr, ℤ, pos, Bool, true, false, Some, Ok, Err, List, [], ◌∷◌, ◌++◌, map, length, take, refl, sym, ◌∙◌, ap, subst, arith}
use Rattle.std.proofs.lemmas.List.{length-map, map-append, take_at}
use Rattle.std.specs.Prelude.{slice_get, slice_set}
use Rattle.ba_code.proofs.Rows.{run-append}
use Rattle.ba_code.specs.Meaning.{Setting, flow_after_block, path_in, run_nodes}
use Rattle.ba_code.specs.State.{CodeExecution, CodeState, operand_value, with_variable}
use Rattle.ba_code.specs.Types.{Types}
use Rattle.ba_code.specs.declared.nodes.Node.{Node}
use Rattle.ba_code.specs.declared.nodes.Operand.{Operand}
use Rattle.ba_code.specs.declared.nodes.Operand.TheVariants.{Const, Var}
use Rattle.ba_inline.proofs.Ends.{meets-from, meets-then}
use Rattle.ba_inline.proofs.Hiding.{not-found, outside-by}
use Rattle.ba_inline.proofs.Joining.{goes-on, joined}
use Rattle.ba_inline.proofs.Keeping.{begins-length, grows-same, grows-then, grows-var, keeps-through, ready-after, ready-before, with_var-length}
use Rattle.ba_inline.proofs.Loops.{call-path}
use Rattle.ba_inline.proofs.Seeing.{at-other, at-self, outside-new, seen-outside}
use Rattle.ba_inline.specs.Adding.{beyond_act, block_act, set_act}
use Rattle.ba_inline.specs.Binding.{Binds, Enters, restored}
use Rattle.ba_inline.specs.Declarations.{with_var}
use Rattle.ba_inline.specs.Ends.{Meets}
use Rattle.ba_inline.specs.Invoking.{invoke_part}
use Rattle.ba_inline.specs.Keeping.{Keeps, Stays}
use Rattle.ba_inline.specs.Making.{Adds, Does, Gives, Makes, MakesArguments, SameFlow, reading, reading_arguments}
use Rattle.ba_inline.specs.Names.{AreBelow, Names, Outside, seen, with_home}
use Rattle.ba_inline.specs.Parts.{arguments_part, call_part, context_in_frame, stmts_part}
use Rattle.ba_inline.specs.Worlds.{IsReady, World, code_setting, context_with}
use Rattle.ba_inline.specs.declared.frames.Exits.{Exits}
use Rattle.ba_inline.specs.declared.frames.Frame.{Frame}
use Rattle.ba_inline.specs.declared.frames.Given.{Given}
use Rattle.ba_numbers.specs.declared.ids.CallId.{CallId}
use Rattle.ba_numbers.specs.declared.ids.FnId.{FnId}
use Rattle.ba_numbers.specs.declared.ids.StmtId.{StmtId}
use Rattle.ba_numbers.specs.declared.ids.VarId.{VarId}
use Rattle.ba_numbers.specs.declared.numbers.CType.{CType}
use Rattle.ba_tree.specs.Acts.{after_part, give, then_do}
use Rattle.ba_tree.specs.Meaning.{exec_all}
use Rattle.ba_tree.specs.Run.{begin_frame, call_at, call_of, context_in, end_frame, function_of, result_of, with_restored}
use Rattle.ba_tree.specs.State.{State, Act, Execution, value_at, location_of}
use Rattle.ba_tree.specs.declared.run.Exit.{Exit}
use Rattle.ba_tree.specs.declared.run.Exit.TheVariants.{Break, Continue, Return}
use Rattle.ba_tree.specs.declared.run.Flow.{Flow}
use Rattle.ba_tree.specs.declared.run.Flow.TheVariants.{Next, Leaves}
use Rattle.ba_tree.specs.declared.run.Halt.TheVariants.{Beyond}
use Rattle.ba_tree.specs.declared.run.Step.{Step}
use Rattle.ba_tree.specs.declared.run.Step.TheVariants.{Call}
use Rattle.ba_tree.specs.declared.tree.Arg.{Arg}
use Rattle.ba_tree.specs.declared.tree.Function.{Function}
use Rattle.ba_tree.specs.declared.tree.Program.{Program}

-- THE END OF A FRAME

restored-is : (own : List VarId) (before s : State) → with_restored own before s
    ≡ record s {
      values = restored (pos 0) own before.values s.values;
      locations = restored 0 own
          before.locations s.locations;
    }
restored-is [] before s = refl
restored-is (v ∷ own) before s = restored-is own before (record s {
  values = slice_set s.values v.0 (value_at before v);
  locations = slice_set s.locations v.0 (location_of before v);
})

module _ (p : Program) (names inner : Names) (f : Function) (begun : CodeState → State) (low mid : Types)
    (old out : List Node) (binds : Binds p names (f.params ++ f.locals) begun inner low mid old out) where
  arrays-back : (t v : CodeState) → take (length (map t.arrays names.arrays)) (map v.arrays inner.arrays)
      ≡ map v.arrays names.arrays
  arrays-back t v =
      ap (λ ns. take (length (map t.arrays names.arrays)) (map v.arrays ns)) binds.behind.is
      ∙ ap (take (length (map t.arrays names.arrays))) (map-append v.arrays names.arrays binds.behind.rest)
      ∙ take_at (map v.arrays names.arrays) (map v.arrays binds.behind.rest) (length (map t.arrays
      names.arrays))
      (length-map names.arrays v.arrays ∙ sym (length-map names.arrays t.arrays))

  ends-seen : (t v : CodeState)
      → ((n : ℕ) → n < length low.vars → Outside n inner.values → v.variables n ≡ t.variables n)
      → end_frame f (seen names t) (seen inner v) ≡ seen names v
  ends-seen t v same =
      ap (λ (s : State). record s {
        arrays = take (length (map t.arrays names.arrays)) (map v.arrays
            inner.arrays);
      })
      (restored-is (f.params ++ f.locals) (seen names t) (seen inner v))
      ∙ ap (λ values. record {
        values = values;
        arrays = take (length (map t.arrays names.arrays)) (map v.arrays inner.arrays);
        locations = restored 0 (f.params ++ f.locals) names.locations inner.locations;
        choices = v.choices;
      }) (binds.hides t v same)
      ∙ ap (λ locations. record {
        values = map (operand_value v) names.values;
        arrays = take (length (map t.arrays names.arrays)) (map v.arrays inner.arrays);
        locations = locations;
        choices = v.choices;
      }) binds.hides_locations
      ∙ ap (λ arrays. record (seen names v) { arrays = arrays }) (arrays-back t v)

  kept-by : (n : ℕ) → n < length low.vars → (v : ℕ) → Outside n names.values
      → (slice_get names.values v ≡ Some (Var n)) ⊎ (length low.vars ≤ n) → ⊥
  kept-by n few v out (inl found) = not-found names.values n v out found
  kept-by n few v out (inr many) = absurd (omega (arith, few, many))

  -- what is no name outside is none in the frame
  kept-outside : (n : ℕ) → n < length low.vars → Outside n names.values → Outside n inner.values
  kept-outside n few out = outside-by inner.values n (λ v found. kept-by n few v out (binds.origin v n found))

  -- THE BODY, in a frame whose result is in `home`

  abbrev no_exits : Exits
  no_exits = record { breaks = false; continues = false }

  module _ (home : ℕ) (ty : CType) (is_home : home ≡ length mid.vars) where
    few : length low.vars ≤ length mid.vars
    few = binds.grows.vars

    few_arrays : length low.arrays ≤ length mid.arrays
    few_arrays = begins-length low.arrays mid.arrays binds.grows.arrays

    not-home : (n : ℕ) → n < length low.vars → n ≡ home → ⊥
    not-home n below same = absurd (omega (arith, below, same, is_home, few))

    below-frame : (n : ℕ) → n < length low.vars → n < length (with_var ty mid).vars
    below-frame n below = let count : length (with_var ty mid).vars ≡ length mid.vars + 1 = with_var-length
        ty mid in
        omega (arith, below, few, count)

    -- with home set to 0
    abbrev with_zero : CodeState → CodeState
    with_zero u = with_variable home (pos 0) u

    frame-kept : (t u v : CodeState) → Keeps false names low t u
        → Keeps true (with_home home inner) (with_var ty mid) (with_zero u) v
        → (n : ℕ) → n < length low.vars → Outside n inner.values → v.variables n ≡ t.variables n
    frame-kept t u v k l n below out =
        l.variables n (below-frame n below) ((λ same. not-home n below (sym same)), out)
        ∙ at-other u.variables home n (pos 0) (not-home n below)
        ∙ k.variables n below tt

    call-keeps : (t u v : CodeState) → Keeps false names low t u
        → Keeps true (with_home home inner) (with_var ty mid) (with_zero u) v → Keeps true names low t v
    call-keeps t u v k l = record {
      variables = λ n below out. frame-kept t u v k l n below (kept-outside n below out);
      arrays = λ n below out. l.arrays n (omega (arith, below, few_arrays)) (binds.arrays_new n below out)
          ∙ k.arrays n below out;
      lengths = λ n. l.lengths n ∙ k.lengths n;
    }

    -- what is returned is in home, and the block has caught every way to leave
    ended-value : (u v : CodeState) (flow : Flow Exit) (way : Flow ℕ)
        → SameFlow no_exits home (with_zero u) flow way v
        → (flow_after_block 0 way ≡ Next) × (result_of flow ≡ v.variables home)
    ended-value u v Next Next h = (refl, sym (h ∙ at-self u.variables home (pos 0)))
    ended-value u v (Leaves Break) (Leaves l) h =
        (ap (λ l. flow_after_block 0 (Leaves l)) h.0, sym (h.1 ∙ at-self u.variables home (pos 0)))
    ended-value u v (Leaves Continue) (Leaves l) h =
        (ap (λ l. flow_after_block 0 (Leaves l)) h.0, sym (h.1 ∙ at-self u.variables home (pos 0)))
    ended-value u v (Leaves (Return z)) (Leaves l) h = (ap (λ l. flow_after_block 0 (Leaves l)) h.0, h.1)
    ended-value u v Next (Leaves l) h = absurd h
    ended-value u v (Leaves exit) Next h = absurd h

    returns-value : (t u : CodeState) → Keeps false names low t u →
        (flow : Flow Exit) (s : State) (way : Flow ℕ) (v : CodeState)
        → Does inner no_exits home (with_var ty mid) (with_zero u) flow s way v
        → Gives names true low (reading (Var home)) t (result_of flow) (end_frame f (seen names t) s)
        (flow_after_block 0 way) v
    returns-value t u k flow s way v given = let both = ended-value u v flow way given.flows in record {
      on = both.0;
      sees = ap (end_frame f (seen names t)) given.sees ∙ ends-seen t v (frame-kept t u v k given.keeps);
      reads = both.1;
      keeps = call-keeps t u v k given.keeps;
    }

    home-outside : Outside home inner.values
    home-outside = outside-new home inner.values
        (subst (λ n. AreBelow n inner.values) (sym is_home) binds.scope.naming.below)

    module _ (path : List Step) (frame : Frame) (here : StmtId) (fn : FnId) (n : ℕ) (gives : List Given)
        (high : Types)
        (then_out new body : List Node) (is_frames : frame.frames ≡ suc n) (is_function : function_of p fn
        ≡ f)
        (is_begun : (t : CodeState) → begun t ≡ begin_frame p f (reading_arguments gives t) (seen names t))
        (zeroed : Adds out then_out (set_act home (Const (pos 0))))
        (made : Makes p inner path (stmts_part p (record {
          home = home;
          exits = no_exits;
          result =
              f.result;
          frames = n;
        }) f.body)
        (Does inner no_exits home (with_var ty mid)) (with_var ty mid) high [] body)
        (blocked : Adds then_out new (block_act 0 body)) where
      abbrev inner_frame : Frame
      inner_frame = record { home = home; exits = no_exits; result = f.result; frames = n }

      abbrev body_at : World → List Step → Execution
      body_at w back = exec_all (context_in_frame p inner_frame w) back f.body

      abbrev to_caller : CodeState → Flow Exit → Act ℤ
      to_caller t flow s = (Ok (result_of flow), end_frame f (seen names t) s)

      call-is : (w : World) (back : List Step) (t : CodeState) →
          invoke_part p frame here fn gives w back t (seen names t)
          ≡ then_do (body_at w back (begun t)) (to_caller t)
      unfolding context_with call_at
      call-is w back t =
          ap (λ n. call_at p w.allowed w.turns n back here fn (reading_arguments gives t) (seen names t))
          is_frames
          ∙ ap (λ g. call_of p g (exec_all (context_in p w.allowed w.turns g (call_at p w.allowed w.turns
          n)) back g.body)
          (reading_arguments gives t) (seen names t)) is_function
          ∙ ap (λ s. then_do (body_at w back s) (to_caller t)) (sym (is_begun t))

      body-meets : (w : World) (turns : List ℕ) (t u : CodeState) → IsReady w high u →
          Keeps false names low t u
          → Meets (Gives names true low (reading (Var home)) t)
          (then_do (body_at w (path_in turns path) (seen inner u)) (to_caller t))
          (block_act 0 body (code_setting p w) turns (with_zero u))
      body-meets w turns t u ready k =
          let g : Setting = code_setting p w in
          let back : List Step = path_in turns path in
          meets-then (Does inner no_exits home (with_var ty mid) (with_zero u)) (Gives names true low
          (reading (Var home)) t)
          (body_at w back (seen inner u)) (run_nodes g body turns (with_zero u)) (to_caller t)
          (λ flow. give (flow_after_block 0 flow))
          (subst (λ s. Meets (Does inner no_exits home (with_var ty mid) (with_zero u)) (body_at w back s)
          (run_nodes g body turns (with_zero u))) (seen-outside inner u home (pos 0) home-outside)
          (subst (λ ns. Meets (Does inner no_exits home (with_var ty mid) (with_zero u)) (body_at w back
          (seen inner (with_zero u)))
          (run_nodes g ns turns (with_zero u))) (sym made.is)
          (made.runs w turns (with_zero u) (record { known = ready.known; sized = ready.sized }))))
          (λ flow s way v given. returns-value t u k flow s way v given)

      entered : (w : World) (turns : List ℕ) (t : CodeState) (s : State) (way : Flow ℕ) (u : CodeState) →
          IsReady w high t
          → Enters names inner low t tt s way u
          → Meets (Gives names true low (reading (Var home)) t) (then_do (body_at w (path_in turns path) s)
          (to_caller t))
          (after_part (run_nodes (code_setting p w) (zeroed.nodes ++ blocked.nodes) turns) way u)
      entered w turns t s way u ready given =
          let g : Setting = code_setting p w in
          let back : List Step = path_in turns path in
          let stands = Gives names true low (reading (Var home)) t in
          let rest : CodeExecution = run_nodes g (zeroed.nodes ++ blocked.nodes) turns in
          let runs : rest u ≡ block_act 0 body g turns (with_zero u) =
          run-append g turns u zeroed.nodes blocked.nodes
          ∙ ap (λ e. then_do e (after_part (run_nodes g blocked.nodes turns))) (zeroed.runs g turns u)
          ∙ blocked.runs g turns (with_zero u) in
          subst (λ way. Meets stands (then_do (body_at w back s) (to_caller t)) (after_part rest way u))
          (sym given.on)
          (subst (λ s. Meets stands (then_do (body_at w back s) (to_caller t)) (rest u)) (sym given.sees)
          (subst (Meets stands (then_do (body_at w back (seen inner u)) (to_caller t))) (sym runs)
          (body-meets w turns t u (ready-after w high false names low t u given.keeps ready) given.keeps)))

      pub makes-invoked : Makes p names path (invoke_part p frame here fn gives) (Gives names true low
          (reading (Var home)))
          low high old new
      makes-invoked = record {
        nodes = binds.nodes ++ (zeroed.nodes ++ blocked.nodes);
        is = joined old out new binds.nodes (zeroed.nodes ++ blocked.nodes) binds.is
            (joined out then_out new zeroed.nodes blocked.nodes zeroed.is blocked.is);
        grows = grows-then low mid high binds.grows (grows-then mid (with_var ty mid) high (grows-var ty
            mid) made.grows);
        runs = λ w turns t ready.
            let g : Setting = code_setting p w in
            let back : List Step = path_in turns path in
            let stands = Gives names true low (reading (Var home)) t in
            subst (λ end. Meets stands end (run_nodes g (binds.nodes ++ (zeroed.nodes ++ blocked.nodes))
            turns t))
            (sym (call-is w back t))
            (subst (Meets stands (then_do (body_at w back (begun t)) (to_caller t)))
            (sym (run-append g turns t binds.nodes (zeroed.nodes ++ blocked.nodes)))
            (meets-then (Enters names inner low t) stands (Ok tt, begun t) (run_nodes g binds.nodes turns t)
            (λ a s. then_do (body_at w back s) (to_caller t))
            (after_part (run_nodes g (zeroed.nodes ++ blocked.nodes) turns))
            (binds.runs w turns t (ready-before w mid high t
            (grows-then mid (with_var ty mid) high (grows-var ty mid) made.grows) ready))
            (λ a s way u given. entered w turns t s way u ready given)));
      }

-- NO FRAME LEFT

pub makes-beyond : (p : Program) (names : Names) (path : List Step) (frame : Frame) (here : StmtId) (fn :
    FnId)
    (gives : List Given) (low : Types) (o : Operand) (old new : List Node) → frame.frames ≡ 0
    → Adds old new (beyond_act here)
    → Makes p names path (invoke_part p frame here fn gives) (Gives names true low (reading o)) low low old
    new
unfolding context_with call_at
makes-beyond p names path frame here fn gives low o old new none added = record {
  nodes = added.nodes;
  is = added.is;
  grows = grows-same low;
  runs = λ w turns t ready.
      let g : Setting = code_setting p w in
      let stands = Gives names true low (reading o) t in
      subst (λ frames. Meets stands
      (call_at p w.allowed w.turns frames (path_in turns path) here fn (reading_arguments gives t) (seen
      names t))
      (run_nodes g added.nodes turns t)) (sym none)
      (subst (Meets stands (Err (Beyond here), seen names t)) (sym (added.runs g turns t)) (refl, refl));
}

-- THE WHOLE CALL

any-stays : (c : Bool) (n : ℕ) (os : List Operand) → Stays true n os → Stays c n os
any-stays true n os h = h
any-stays false n os h = tt

pub makes-call : (p : Program) (names : Names) (path : List Step) (frame : Frame) (here : StmtId) (call :
    CallId) (fn : FnId)
    (args : List Arg) (c keep : Bool) (gives : List Given) (o : Operand) (low mid high : Types) (old out
    new : List Node)
    → MakesArguments p names path (arguments_part p frame here args) c keep gives low mid old out
    → Makes p names (path ++ Call call ∷ []) (invoke_part p frame here fn gives) (Gives names true mid
    (reading o)) mid high out new
    → Makes p names path (call_part p frame here call fn args) (Gives names true low (reading o)) low high
    old new
makes-call p names path frame here call fn args c keep gives o low mid high old out new given made = record {
  nodes = given.makes.nodes ++ made.nodes;
  is = joined old out new given.makes.nodes made.nodes given.makes.is made.is;
  grows = grows-then low mid high given.makes.grows made.grows;
  runs = λ w turns t ready.
      let g : Setting = code_setting p w in
      let back : List Step = path_in turns path in
      let stands = Gives names true low (reading o) t in
      subst (Meets stands (call_part p frame here call fn args w back t (seen names t)))
      (sym (run-append g turns t given.makes.nodes made.nodes))
      (goes-on stands names c low (reading_arguments gives) t (arguments_part p frame here args w back t
      (seen names t))
      (run_nodes g given.makes.nodes turns t) ((context_in_frame p frame w).calls (Call call ∷ back) here fn)
      (run_nodes g made.nodes turns) (given.makes.runs w turns t (ready-before w mid high t made.grows ready))
      (λ u k. meets-from (Gives names true mid (reading o) u) stands
      ((context_in_frame p frame w).calls (Call call ∷ back) here fn (reading_arguments gives u) (seen
      names u))
      (run_nodes g made.nodes turns u)
      (subst (λ back. Meets (Gives names true mid (reading o) u)
      ((context_in_frame p frame w).calls back here fn (reading_arguments gives u) (seen names u))
      (run_nodes g made.nodes turns u)) (call-path call turns path)
      (made.runs w turns u (ready-after w high c names low t u k ready)))
      (λ z s way v ended. record {
        on = ended.on;
        sees = ended.sees;
        reads = ended.reads;
        keeps = keeps-through c true true names low mid t u v (λ n. any-stays c n names.values) (λ n h. h)
            given.makes.grows k ended.keeps;
      })));
}
