-- The code of loops.
use Rattle.std.proofs.Common.{◌≡◌, ℕ, zero, suc, ◌+◌, ◌<◌, ℤ, Bool, true, false, cond, Ok, Err, List, [], ◌∷◌, ◌++◌, length, refl, sym, ◌∙◌, ap, subst}
use Rattle.std.proofs.lemmas.List.{reverse-append}
use Rattle.ba_code.specs.Meaning.{Setting, block, body_and_step, filled, flow_after_block, head_behind, head_loop, headed_rounds, past_bound, path_in, run_nodes, tail_loop, value_behind}
use Rattle.ba_code.specs.State.{CodeAct, CodeEnding, CodeExecution, CodeState}
use Rattle.ba_code.specs.Types.{Types}
use Rattle.ba_inline.proofs.Ends.{meets-fork, meets-from, meets-then}
use Rattle.ba_inline.proofs.Homes.{after-does, does-then, home-stays, keeps-with}
use Rattle.ba_inline.proofs.Joining.{goes-on}
use Rattle.ba_inline.proofs.Keeping.{grows-same, grows-then, keeps-same, ready-after, ready-before}
use Rattle.ba_inline.specs.Declarations.{Grows}
use Rattle.ba_inline.specs.Ends.{Meets}
use Rattle.ba_inline.specs.Keeping.{Keeps}
use Rattle.ba_inline.specs.Adding.{block_act, loop_act}
use Rattle.ba_inline.specs.Making.{Adds, Does, Gives, Makes, SameFlow, body_exits, reading, turn_exits}
use Rattle.ba_inline.specs.Names.{IsNaming, Names, seen, with_home}
use Rattle.ba_inline.specs.Parts.{context_in_frame, given_part, loop_now, loop_part, stmt_part, stmts_part}
use Rattle.ba_inline.specs.Worlds.{IsReady, World, code_setting, context_with}
use Rattle.ba_code.specs.declared.nodes.Node.{Node}
use Rattle.ba_code.specs.declared.nodes.Operand.TheVariants.{Var}
use Rattle.ba_inline.specs.declared.frames.Exits.{Exits}
use Rattle.ba_inline.specs.declared.frames.Frame.{Frame}
use Rattle.ba_inline.specs.declared.frames.Wanted.TheVariants as wanted
use Rattle.ba_numbers.specs.declared.ids.StmtId.{StmtId}
use Rattle.ba_numbers.specs.declared.ids.CallId.{CallId}
use Rattle.ba_tree.specs.Acts.{after_part, flow_after_body, flow_after_loop, fork, give, halt_with, rounds, then_do}
use Rattle.ba_tree.specs.Meaning.{condition, exec, exec_all, for_loop, in_turn, test_behind, turn_of}
use Rattle.ba_tree.specs.State.{State, Act, Ending, Execution}
use Rattle.ba_tree.specs.declared.run.Exit.{Exit}
use Rattle.ba_tree.specs.declared.run.Exit.TheVariants.{Break, Continue, Return}
use Rattle.ba_tree.specs.declared.run.Flow.{Flow}
use Rattle.ba_tree.specs.declared.run.Flow.TheVariants.{Next, Leaves}
use Rattle.ba_tree.specs.declared.run.Halt.TheVariants.{Beyond}
use Rattle.ba_tree.specs.declared.run.Step.{Step}
use Rattle.ba_tree.specs.declared.run.Step.TheVariants.{Call, Turn}
use Rattle.ba_tree.specs.declared.tree.Expr.{Expr}
use Rattle.ba_tree.specs.declared.tree.Program.{Program}
use Rattle.ba_tree.specs.declared.tree.Stmt.{Stmt}

-- PATHS

pub turn-path : (stmt : StmtId) (k : ℕ) (turns : List ℕ) (path : List Step)
    → path_in (k ∷ turns) (path ++ Turn stmt 0 ∷ []) ≡ in_turn stmt k (path_in turns path)
turn-path stmt k turns path = ap (filled (k ∷ turns)) (reverse-append path (Turn stmt 0 ∷ []))

pub call-path : (call : CallId) (turns : List ℕ) (path : List Step)
    → path_in turns (path ++ Call call ∷ []) ≡ Call call ∷ path_in turns path
call-path call turns path = ap (filled turns) (reverse-append path (Call call ∷ []))

-- FLOWS inside a loop

module _ (exits : Exits) (home : ℕ) (t : CodeState) where
  pub flow-of-body : (flow : Flow Exit) (way : Flow ℕ) (u : CodeState) → SameFlow body_exits home t flow way u
      → SameFlow (turn_exits exits) home t (flow_after_body flow) (flow_after_block 2 way) u
  flow-of-body Next Next u h = h
  flow-of-body (Leaves Break) (Leaves l) u h =
      subst (λ l. SameFlow (turn_exits exits) home t (Leaves Break) (flow_after_block 2 (Leaves l)) u) (sym
      h.0) (refl, h.1)
  flow-of-body (Leaves Continue) (Leaves l) u h =
      subst (λ l. SameFlow (turn_exits exits) home t Next (flow_after_block 2 (Leaves l)) u) (sym h.0) h.1
  flow-of-body (Leaves (Return z)) (Leaves l) u h =
      subst (λ l. SameFlow (turn_exits exits) home t (Leaves (Return z)) (flow_after_block 2 (Leaves l)) u)
      (sym h.0) (refl, h.1)
  flow-of-body Next (Leaves l) u h = absurd h
  flow-of-body (Leaves exit) Next u h = absurd h

  continue-apart : (b : Bool) (u : CodeState) → u.variables home ≡ t.variables home
      → SameFlow (record { breaks = exits.breaks; continues = b }) home t (Leaves Continue)
      (flow_after_block 1 (Leaves (cond b 2 0))) u
  continue-apart true u h = (refl, h)
  continue-apart false u h = (refl, h)

  pub flow-of-loop : (flow : Flow Exit) (way : Flow ℕ) (u : CodeState) →
      SameFlow (turn_exits exits) home t flow way u
      → SameFlow exits home t (flow_after_loop flow) (flow_after_block 1 way) u
  flow-of-loop Next Next u h = h
  flow-of-loop (Leaves Break) (Leaves l) u h =
      subst (λ l. SameFlow exits home t Next (flow_after_block 1 (Leaves l)) u) (sym h.0) h.1
  flow-of-loop (Leaves Continue) (Leaves l) u h =
      subst (λ l. SameFlow exits home t (Leaves Continue) (flow_after_block 1 (Leaves l)) u) (sym h.0)
      (continue-apart exits.continues u h.1)
  flow-of-loop (Leaves (Return z)) (Leaves l) u h =
      subst (λ l. SameFlow exits home t (Leaves (Return z)) (flow_after_block 1 (Leaves l)) u) (sym h.0)
      (refl, h.1)
  flow-of-loop Next (Leaves l) u h = absurd h
  flow-of-loop (Leaves exit) Next u h = absurd h

pub code-then-give : {A B C : Type 0} (y : CodeEnding A) (g : A → B) (f : B → CodeAct C)
    → then_do (then_do y (λ a. give (g a))) f ≡ then_do y (λ a. f (g a))
code-then-give (Ok a, s) g f = refl
code-then-give (Err h, s) g f = refl

-- ROUNDS

module _ (names : Names) (exits : Exits) (home : ℕ) (low : Types) (stmt : StmtId) (c : Bool)
    (test : ℕ → Act ℤ) (turn : ℕ → Execution) (head : ℕ → CodeExecution) (when : ℕ → CodeState → ℤ)
    (turned : ℕ → CodeExecution) (IsFit : CodeState → Type 0)
    (stays_fit : (t u : CodeState) → Keeps true (with_home home names) low t u → IsFit t → IsFit u)
    (keeps_home : (t u : CodeState) → Keeps c names low t u
    → (u.variables home ≡ t.variables home) × Keeps true (with_home home names) low t u)
    (tests : (k : ℕ) (u : CodeState) → IsFit u →
    Meets (Gives names c low (when k) u) (test k (seen names u)) (head k u))
    (turns : (k : ℕ) (u : CodeState) → IsFit u →
    Meets (Does names exits home low u) (turn k (seen names u)) (turned k u)) where
  -- what follows the test, from its state on
  nothing-more : (t u : CodeState) → Keeps c names low t u →
      Does names exits home low t Next (seen names u) Next u
  nothing-more t u k = let both = keeps_home t u k in record { flows = both.0; sees = refl; keeps = both.1 }

  pub rounds-meet : (left k : ℕ) (t : CodeState) → IsFit t
      → Meets (Does names exits home low t) (rounds test turn (halt_with (Beyond stmt)) left k (seen names t))
      (headed_rounds head when turned (past_bound stmt) left k t)
  rounds-meet zero k t fit = goes-on (Does names exits home low t) names c low (when k) t (test k (seen
      names t)) (head k t)
      (fork (halt_with (Beyond stmt)) (give Next)) (λ s. fork (past_bound stmt) (give Next) (when k s) s)
      (tests k t fit)
      (λ u kept. meets-fork (Does names exits home low t) (halt_with (Beyond stmt)) (give Next) (past_bound
      stmt) (give Next)
      (when k u) (seen names u) u (refl, refl) (nothing-more t u kept))
  rounds-meet (suc left) k t fit = goes-on (Does names exits home low t) names c low (when k) t (test k
      (seen names t)) (head k t)
      (fork (λ s. then_do (turn k s) (after_part (rounds test turn (halt_with (Beyond stmt)) left (k +
      1)))) (give Next))
      (λ s. fork (λ s. then_do (turned k s) (after_part (headed_rounds head when turned (past_bound stmt)
      left (k + 1))))
      (give Next) (when k s) s) (tests k t fit)
      (λ u kept. let both = keeps_home t u kept in
      meets-fork (Does names exits home low t)
      (λ s. then_do (turn k s) (after_part (rounds test turn (halt_with (Beyond stmt)) left (k + 1))))
      (give Next)
      (λ s. then_do (turned k s) (after_part (headed_rounds head when turned (past_bound stmt) left (k +
      1)))) (give Next)
      (when k u) (seen names u) u
      (meets-from (Does names exits home low u) (Does names exits home low t)
      (then_do (turn k (seen names u)) (after_part (rounds test turn (halt_with (Beyond stmt)) left (k + 1))))
      (then_do (turned k u) (after_part (headed_rounds head when turned (past_bound stmt) left (k + 1))))
      (meets-then (Does names exits home low u) (Does names exits home low u) (turn k (seen names u))
      (turned k u)
      (after_part (rounds test turn (halt_with (Beyond stmt)) left (k + 1)))
      (after_part (headed_rounds head when turned (past_bound stmt) left (k + 1)))
      (turns k u (stays_fit t u both.1 fit))
      (after-does names exits home low low (grows-same low) u (rounds test turn (halt_with (Beyond stmt))
      left (k + 1))
      (headed_rounds head when turned (past_bound stmt) left (k + 1))
      (λ v again. rounds-meet left (k + 1) v (stays_fit u v again (stays_fit t u both.1 fit)))))
      (λ flow s way v given. does-then names exits home low low (grows-same low) t u flow s way v both.0
      both.1 given))
      (nothing-more t u kept))

-- WHOLE LOOPS

module _ (p : Program) (names : Names) (path : List Step) (frame : Frame) (stmt : StmtId) (when : Expr)
    (body : Stmt)
    (step : List Stmt) (c : Bool) (to : ℕ) (low test_end body_end high : Types) (heads bodies steps turned
    : List Node)
    (naming : IsNaming (with_home frame.home names) low)
    (tested : Makes p names (path ++ Turn stmt 0 ∷ []) (given_part p frame stmt wanted.Truth when)
    (Gives names c low (reading (Var to))) low test_end [] heads)
    (run_body : Makes p names (path ++ Turn stmt 0 ∷ [])
    (stmt_part p (record frame { exits = body_exits }) body) (Does names body_exits frame.home low)
    low body_end [] bodies) (grows_test : Grows test_end body_end)
    (blocked : Adds [] turned (block_act 2 bodies))
    (run_step : Makes p names (path ++ Turn stmt 0 ∷ [])
    (stmts_part p (record frame { exits = turn_exits frame.exits }) step)
    (Does names (turn_exits frame.exits) frame.home body_end) body_end high [] steps) where
  abbrev DoesTurn : CodeState → Flow Exit → State → Flow ℕ → CodeState → Type 0
  DoesTurn = Does names (turn_exits frame.exits) frame.home low

  grows-body : Grows low body_end
  grows-body = run_body.grows

  few-of-home : frame.home < length low.vars
  few-of-home = naming.below.0

  loop-keeps : (t u : CodeState) → Keeps c names low t u
      → (u.variables frame.home ≡ t.variables frame.home) × Keeps true (with_home frame.home names) low t u
  loop-keeps t u k = (
    k.variables frame.home naming.below.0 (home-stays c names frame.home naming.apart.0),
    keeps-with c names frame.home low t u k,
  )

  module _ (w : World) (turns : List ℕ) where
    abbrev g : Setting
    g = code_setting p w

    abbrev back : List Step
    back = path_in turns path

    abbrev test_now : ℕ → Act ℤ
    test_now k = condition (context_in_frame p frame w) (in_turn stmt k back) stmt when

    abbrev turn_now : ℕ → Execution
    turn_now k = turn_of (exec (context_in_frame p frame w) body) (λ inside. exec_all (context_in_frame p
        frame w) inside step)
        (in_turn stmt k back)

    abbrev head_now : ℕ → CodeExecution
    head_now k = run_nodes g heads (k ∷ turns)

    abbrev turned_now : ℕ → CodeExecution
    turned_now k = body_and_step (run_nodes g turned) (run_nodes g steps) (k ∷ turns)

    abbrev Fit : CodeState → Type 0
    Fit t = IsReady w high t

    stays-fit : (t u : CodeState) → Keeps true (with_home frame.home names) low t u → Fit t → Fit u
    stays-fit t u k ready = ready-after w high true (with_home frame.home names) low t u k ready

    test-meets : (k : ℕ) (u : CodeState) → Fit u
        → Meets (Gives names c low (reading (Var to)) u) (test_now k (seen names u)) (head_now k u)
    test-meets k u ready =
        subst (λ ns. Meets (Gives names c low (reading (Var to)) u) (test_now k (seen names u)) (run_nodes
        g ns (k ∷ turns) u))
        (sym tested.is)
        (subst (λ path. Meets (Gives names c low (reading (Var to)) u)
        (condition (context_in_frame p frame w) path stmt when (seen names u)) (run_nodes g tested.nodes (k
        ∷ turns) u))
        (turn-path stmt k turns path)
        (tested.runs w (k ∷ turns) u (ready-before w test_end high u
        (grows-then test_end body_end high grows_test run_step.grows) ready)))

    -- a body's end, and then the step
    body-step : (k : ℕ) (u : CodeState) → Fit u →
        (flow : Flow Exit) (s : State) (way : Flow ℕ) (v : CodeState)
        → Does names body_exits frame.home low u flow s way v
        → Meets (DoesTurn u) (after_part (exec_all (context_in_frame p frame w) (in_turn stmt k back) step)
        (flow_after_body flow) s)
        (after_part (run_nodes g steps (k ∷ turns)) (flow_after_block 2 way) v)
    body-step k u ready flow s way v given = after-does names (turn_exits frame.exits) frame.home low
        body_end grows-body u
        (exec_all (context_in_frame p frame w) (in_turn stmt k back) step) (run_nodes g steps (k ∷ turns))
        (λ v kept.
        subst (λ ns. Meets (Does names (turn_exits frame.exits) frame.home body_end v)
        (exec_all (context_in_frame p frame w) (in_turn stmt k back) step (seen names v)) (run_nodes g ns
        (k ∷ turns) v))
        (sym run_step.is)
        (subst (λ path. Meets (Does names (turn_exits frame.exits) frame.home body_end v)
        (exec_all (context_in_frame p frame w) path step (seen names v)) (run_nodes g run_step.nodes (k ∷
        turns) v))
        (turn-path stmt k turns path) (run_step.runs w (k ∷ turns) v (stays-fit u v kept ready))))
        (flow_after_body flow) s (flow_after_block 2 way) v
        (record {
          flows = flow-of-body frame.exits frame.home u flow way v given.flows;
          sees = given.sees;
          keeps = given.keeps;
        })

    turned-is : (k : ℕ) (u : CodeState) → turned_now k u
        ≡ then_do (run_nodes g bodies (k ∷ turns) u) (λ way. after_part (run_nodes g steps (k ∷ turns))
        (flow_after_block 2 way))
    turned-is k u =
        ap (λ ns. then_do (run_nodes g ns (k ∷ turns) u) (after_part (run_nodes g steps (k ∷ turns))))
        blocked.is
        ∙ ap (λ e. then_do e (after_part (run_nodes g steps (k ∷ turns)))) (blocked.runs g (k ∷ turns) u)
        ∙ code-then-give (run_nodes g bodies (k ∷ turns) u) (flow_after_block 2) (after_part (run_nodes g
        steps (k ∷ turns)))

    turn-meets : (k : ℕ) (u : CodeState) → Fit u →
        Meets (DoesTurn u) (turn_now k (seen names u)) (turned_now k u)
    turn-meets k u ready = subst (Meets (DoesTurn u) (turn_now k (seen names u))) (sym (turned-is k u))
        (meets-then (Does names body_exits frame.home low u) (DoesTurn u)
        (exec (context_in_frame p frame w) body (in_turn stmt k back) (seen names u)) (run_nodes g bodies
        (k ∷ turns) u)
        (λ flow. after_part (exec_all (context_in_frame p frame w) (in_turn stmt k back) step)
        (flow_after_body flow))
        (λ way. after_part (run_nodes g steps (k ∷ turns)) (flow_after_block 2 way))
        (subst (λ ns. Meets (Does names body_exits frame.home low u)
        (exec (context_in_frame p frame w) body (in_turn stmt k back) (seen names u)) (run_nodes g ns (k ∷
        turns) u))
        (sym run_body.is)
        (subst (λ path. Meets (Does names body_exits frame.home low u)
        (exec (context_in_frame p frame w) body path (seen names u)) (run_nodes g run_body.nodes (k ∷
        turns) u))
        (turn-path stmt k turns path)
        (run_body.runs w (k ∷ turns) u (ready-before w body_end high u run_step.grows ready))))
        (λ flow s way v given. body-step k u ready flow s way v given))

    -- the loop's block
    looped : (t : CodeState) (x : Ending (Flow Exit)) (y : CodeEnding (Flow ℕ)) → Meets (DoesTurn t) x y
        → Meets (Does names frame.exits frame.home low t) (then_do x (λ flow. give (flow_after_loop flow)))
        (then_do y (λ way. give (flow_after_block 1 way)))
    looped t x y met = meets-then (DoesTurn t) (Does names frame.exits frame.home low t) x y
        (λ flow. give (flow_after_loop flow)) (λ way. give (flow_after_block 1 way)) met
        (λ flow s way v given. record {
          flows = flow-of-loop frame.exits frame.home t flow way v given.flows;
          sees = given.sees;
          keeps = given.keeps;
        })

    for-meets : (t : CodeState) → Fit t
        → Meets (Does names frame.exits frame.home low t)
        (for_loop (context_in_frame p frame w) back stmt when (exec (context_in_frame p frame w) body)
        (λ inside. exec_all (context_in_frame p frame w) inside step) (seen names t))
        (block 1 (loop_act false heads (Var to) turned steps stmt g turns) t)
    unfolding for_loop head_loop context_with code_setting
    for-meets t ready = looped t
        (rounds test_now turn_now (halt_with (Beyond stmt)) w.turns 1 (seen names t))
        (headed_rounds head_now (λ k. reading (Var to)) turned_now (past_bound stmt) w.turns 1 t)
        (rounds-meet names (turn_exits frame.exits) frame.home low stmt c test_now turn_now head_now (λ k.
        reading (Var to))
        turned_now Fit stays-fit loop-keeps test-meets turn-meets w.turns 1 t ready)

    -- no test comes before the first iteration of a `do`
    behind-meets : (k : ℕ) (u : CodeState) → Fit u
        → Meets (Gives names c low (value_behind (reading (Var to)) k) u) (test_behind test_now k (seen
        names u))
        (head_behind head_now k u)
    behind-meets zero u ready = record {
      on = refl;
      sees = refl;
      reads = refl;
      keeps = keeps-same c names
          low u;
    }
    behind-meets (suc k) u ready = test-meets (suc k) u ready

    do-meets : (t : CodeState) → Fit t
        → Meets (Does names frame.exits frame.home low t)
        (then_do (rounds (test_behind test_now) (λ k. turn_now (k + 1)) (halt_with (Beyond stmt)) w.turns 0
        (seen names t))
        (λ flow. give (flow_after_loop flow)))
        (block 1 (loop_act true heads (Var to) turned steps stmt g turns) t)
    unfolding tail_loop code_setting
    do-meets t ready = looped t
        (rounds (test_behind test_now) (λ k. turn_now (k + 1)) (halt_with (Beyond stmt)) w.turns 0 (seen
        names t))
        (headed_rounds (head_behind head_now) (value_behind (reading (Var to))) (λ k. turned_now (k + 1))
        (past_bound stmt) w.turns 0 t)
        (rounds-meet names (turn_exits frame.exits) frame.home low stmt c (test_behind test_now) (λ k.
        turn_now (k + 1))
        (head_behind head_now) (value_behind (reading (Var to))) (λ k. turned_now (k + 1)) Fit stays-fit
        loop-keeps
        behind-meets (λ k u fit. turn-meets (k + 1) u fit) w.turns 0 t ready)

    loop-meets : (after : Bool) (t : CodeState) → Fit t
        → Meets (Does names frame.exits frame.home low t)
        (loop_now p frame (record { after = after; stmt = stmt; when = when; body = body; step = step }) w
        back (seen names t))
        (block 1 (loop_act after heads (Var to) turned steps stmt g turns) t)
    unfolding loop_now
    loop-meets true t ready = do-meets t ready
    loop-meets false t ready = for-meets t ready

  -- in two blocks

  module _ (old new loops : List Node) (after : Bool)
      (looping : Adds [] loops (loop_act after heads (Var to) turned steps stmt))
      (outer : Adds old new (block_act 1 loops)) where
    pub makes-loop : Makes p names path
        (loop_part p frame (record { after = after; stmt = stmt; when = when; body = body; step = step }))
        (Does names frame.exits frame.home low) low high old new
    makes-loop = record {
      nodes = outer.nodes;
      is = outer.is;
      grows = grows-then low body_end high grows-body run_step.grows;
      runs = λ w turns t ready. subst (Meets (Does names frame.exits frame.home low t)
          (loop_now p frame (record { after = after; stmt = stmt; when = when; body = body; step = step })
          w (path_in turns path)
          (seen names t)))
          (sym (outer.runs (code_setting p w) turns t
          ∙ ap (λ ns. block 1 (run_nodes (code_setting p w) ns turns) t) looping.is
          ∙ ap (λ (h : CodeExecution). block 1 h t) (λ i u. looping.runs (code_setting p w) turns u i)))
          (loop-meets w turns after t ready);
    }
