-- The run of a whole program, and that of the code that was made of it.
use Rattle.std.proofs.Common.{◌≡◌, ℕ, zero, suc, ◌+◌, ◌-◌, ◌<◌, ◌≤◌, ◌⊎◌, inl, inr, ℤ, pos, Bool, true, cond, None, Some, Ok, Err, List, [], ◌∷◌, ◌++◌, map, length, replicate, refl, sym, ◌∙◌, ap, subst, arith}
use Rattle.std.proofs.lemmas.Bool.{cases_lt, le-ltb, lt-ltb}
use Rattle.std.proofs.lemmas.List.{length-replicate}
use Rattle.std.specs.Prelude.{nat_lt, slice_get}
use Rattle.ba_choices.specs.declared.Choice.{Choice}
use Rattle.ba_code.proofs.Ranges.{all-zero, zero-in}
use Rattle.ba_code.proofs.Rows.{run-append}
use Rattle.ba_code.proofs.Typed.{typed-agrees}
use Rattle.ba_code.specs.Meaning.{Setting, flow_after_block, info_at, run_nodes}
use Rattle.ba_code.specs.Operators.{converting, plain}
use Rattle.ba_code.specs.Run.{all_zero, code_of_loops, outcome_of_code, outcome_of_end, outcome_with, start_of_code, with_params}
use Rattle.ba_code.specs.State.{CodeEnding, CodeState, operand_value}
use Rattle.ba_code.specs.Types.{KeepsTypes, Types, element_type}
use Rattle.ba_code.specs.declared.nodes.Node.{Node}
use Rattle.ba_code.specs.declared.nodes.Operand.{Operand}
use Rattle.ba_code.specs.declared.nodes.Operand.TheVariants.{Const, Var}
use Rattle.ba_code.specs.declared.nodes.Param.{Param}
use Rattle.ba_code.specs.declared.trees.Code.{Code}
use Rattle.ba_code.specs.declared.trees.LoopTree.{LoopTree}
use Rattle.ba_inline.proofs.Arms.{adds-old, called_frame, makes-old, no_exits}
use Rattle.ba_inline.proofs.Bindings.{arrays-new}
use Rattle.ba_inline.proofs.Ends.{meets-from, meets-then}
use Rattle.ba_inline.proofs.FrameArms.{constants-zero}
use Rattle.ba_inline.proofs.Joining.{below-more}
use Rattle.ba_inline.proofs.Keeping.{begins-same, begins-then, grows-then, grows-var, ready-after, ready-before, with_var-length}
use Rattle.ba_inline.proofs.Parameters.{given-choices, given-keeps, given-lengths, given-seen, own-arrays, own-variables, params-own, same-arrays, same-variables}
use Rattle.ba_inline.proofs.Scopes.{below-arrays-more, frame-begun, frame-later, scope-later}
use Rattle.ba_inline.proofs.Seeing.{outside-new}
use Rattle.ba_inline.proofs.Started.{begin_all-append, starts-then}
use Rattle.ba_inline.specs.Adding.{block_act}
use Rattle.ba_inline.specs.Declarations.{BeginsWith, Grows, with_var}
use Rattle.ba_inline.specs.Ends.{Meets}
use Rattle.ba_inline.specs.Keeping.{Keeps}
use Rattle.ba_inline.specs.Making.{Adds, Does, Makes}
use Rattle.ba_inline.specs.Names.{AreApart, AreBelow, AreBelowArrays, IsFrame, IsNaming, IsScope, Names, Outside, OutsideArrays, seen, with_home}
use Rattle.ba_inline.specs.Outcomes.{HasOutcomes}
use Rattle.ba_inline.specs.Parts.{stmts_part}
use Rattle.ba_inline.specs.Starting.{AreParams, Starts}
use Rattle.ba_inline.specs.Translating.{IsTranslation, IsTyped, code_with}
use Rattle.ba_inline.specs.Worlds.{IsReady, World, code_setting, context_with}
use Rattle.ba_inline.specs.declared.declared.Counts.{Counts}
use Rattle.ba_inline.specs.declared.frames.Frame.{Frame}
use Rattle.ba_numbers.specs.declared.ids.StmtId.{StmtId}
use Rattle.ba_numbers.specs.declared.ids.VarId.{VarId}
use Rattle.ba_numbers.specs.declared.numbers.CType.{CType}
use Rattle.ba_tree.specs.Acts.{after_part, give, then_do}
use Rattle.ba_tree.specs.Choices.{admits}
use Rattle.ba_tree.specs.Meaning.{Context, exec_all}
use Rattle.ba_tree.specs.Run.{begin_all, call_at, context_in, context_of, enter_main, fits, fits_all, function_of, if_none_left, main_of, outcome_of, outcome_of_halt, run_main, run_of, start_of, with_input}
use Rattle.ba_tree.specs.State.{State, Ending}
use Rattle.ba_tree.specs.declared.run.Allowed.{Allowed}
use Rattle.ba_tree.specs.declared.run.Bounds.{Bounds}
use Rattle.ba_tree.specs.declared.run.Exit.{Exit}
use Rattle.ba_tree.specs.declared.run.Flow.{Flow}
use Rattle.ba_tree.specs.declared.run.Flow.TheVariants.{Next, Leaves}
use Rattle.ba_tree.specs.declared.run.Input.{Input}
use Rattle.ba_tree.specs.declared.run.Outcome.TheVariants.{Done}
use Rattle.ba_tree.specs.declared.run.Step.{Step}
use Rattle.ba_tree.specs.declared.tree.Function.{Function}
use Rattle.ba_tree.specs.declared.tree.Program.{Program}
use Rattle.ba_tree.specs.declared.tree.Stmt.{Stmt}

-- THE SAME STATE is seen if what is below is the same

operands-same : (count : ℕ) (os : List Operand) (t u : CodeState) → AreBelow count os
    → ((n : ℕ) → n < count → t.variables n ≡ u.variables n) →
    map (operand_value t) os ≡ map (operand_value u) os
operands-same count [] t u below same = refl
operands-same count (Const z ∷ os) t u below same = ap (λ zs. z ∷ zs) (operands-same count os t u below.1
    same)
operands-same count (Var n ∷ os) t u below same =
    ap (λ z. z ∷ map (operand_value t) os) (same n below.0)
    ∙ ap (λ zs. u.variables n ∷ zs) (operands-same count os t u below.1 same)

arrays-same : (count : ℕ) (ns : List ℕ) (f h : ℕ → List ℤ) → AreBelowArrays count ns
    → ((n : ℕ) → n < count → f n ≡ h n) → map f ns ≡ map h ns
arrays-same count [] f h below same = refl
arrays-same count (n ∷ ns) f h below same =
    ap (λ xs. xs ∷ map f ns) (same n below.0) ∙ ap (λ xss. h n ∷ xss) (arrays-same count ns f h below.1 same)

pub seen-same : (names : Names) (d : Types) (t u : CodeState) → IsNaming names d
    → ((n : ℕ) → n < length d.vars → t.variables n ≡ u.variables n)
    → ((n : ℕ) → n < length d.arrays → t.arrays n ≡ u.arrays n)
    → t.choices ≡ u.choices → seen names t ≡ seen names u
seen-same names d t u naming variables arrays choices =
    ap (λ values. record (seen names t) { values = values })
    (operands-same (length d.vars) names.values t u naming.below variables)
    ∙ ap (λ arrays. record (seen names t) { values = map (operand_value u) names.values; arrays = arrays })
    (arrays-same (length d.arrays) names.arrays t.arrays u.arrays naming.arrays_below arrays)
    ∙ ap (λ choices. record (seen names u) { choices = choices }) choices

-- NO VARIABLE in use

abbrev pub first_names : ℕ → Names
first_names count = record {
  values = replicate count (Const (pos 0));
  locations = replicate count 0;
  arrays = [];
}

abbrev pub nothing_declared : Types
nothing_declared = record { vars = []; arrays = [] }

constants-apart : (count : ℕ) → AreApart (replicate count (Const (pos 0)))
constants-apart zero = tt
constants-apart (suc count) = (tt, constants-apart count)

constants-below : (most count : ℕ) → AreBelow most (replicate count (Const (pos 0)))
constants-below most zero = tt
constants-below most (suc count) = (tt, constants-below most count)

no-variable : (count v n : ℕ) → slice_get (replicate count (Const (pos 0))) v ≡ Some (Var n) → ⊥
no-variable zero v n found = let f : None ≡ Some (Var n) = found in cc
no-variable (suc count) zero n found = let f : Some (Const (pos 0)) ≡ Some (Var n) = found in cc
no-variable (suc count) (suc v) n found = no-variable count v n found

first-scope : (p : Program) (count : ℕ) → IsScope p (first_names count) nothing_declared
first-scope p count = record {
  naming = record {
    apart = constants-apart count;
    below = constants-below 0 count;
    arrays_apart = tt;
    arrays_below = tt;
  };
  values = record { by = λ v n found. absurd (no-variable count v.0 n found) };
}

-- ENDS that meet have the same outcome

abbrev pub Ended : Flow Exit → State → Flow ℕ → CodeState → Type 0
Ended flow s way u = s.choices ≡ u.choices

pub same-outcome : (x : Ending (Flow Exit)) (y : CodeEnding (Flow ℕ)) → Meets Ended x y
    → outcome_of_end (then_do y (λ flow. give (flow_after_block 0 flow))) ≡ outcome_of x
same-outcome (Ok flow, s) (Ok way, u) met = ap (λ choices. if_none_left choices Done) (sym met)
same-outcome (Err h, s) (Err k, u) met =
    ap (λ h. if_none_left u.choices (outcome_of_halt h)) (sym met.0)
    ∙ ap (λ choices. if_none_left choices (outcome_of_halt h)) (sym met.1)
same-outcome (Ok flow, s) (Err k, u) met = absurd met
same-outcome (Err h, s) (Ok way, u) met = absurd met

-- TYPES where a run begins

zero-keeps : (high : Types) (choices : List Choice) → KeepsTypes high (all_zero high.arrays choices)
zero-keeps high choices = record {
  variables = λ n t found. zero-in t;
  arrays = λ n. all-zero (element_type high n) (info_at high.arrays n).len;
}

-- THE WHOLE

module _ (p : Program) (f : Function) (globals inner : Names) (d dm : Types) (is_main : main_of p ≡ f)
    (starts : Starts p (first_names (length p.variables)) globals p.globals nothing_declared d)
    (begun : Starts p globals inner (f.params ++ f.locals) d dm)
    (home n frames : ℕ) (ty : CType) (is_home : home ≡ length dm.vars) (is_n : n ≡ frames - 1) where
  abbrev low : Types
  low = with_var ty dm

  abbrev frame : Frame
  frame = called_frame home f.result n

  abbrev counts : Counts
  counts = record { vars = length d.vars; arrays = length d.arrays }

  globals-scope : IsScope p globals d
  globals-scope = starts.scope (first-scope p (length p.variables))

  inner-scope : IsScope p inner dm
  inner-scope = begun.scope globals-scope

  module _ (mid high : Types) (out body whole : List Node) (qs : List Param)
      (first : Makes p globals [] (stmts_part p frame p.inits) (Does globals no_exits home low) low mid []
      out)
      (second : Makes p inner [] (stmts_part p frame f.body) (Does inner no_exits home mid) mid high out body)
      (blocked : Adds [] whole (block_act 0 body))
      (params : AreParams p inner counts high f.params qs) where
    grows-high : Grows dm high
    grows-high = grows-then dm low high (grows-var ty dm) (grows-then low mid high first.grows second.grows)

    known-main : BeginsWith dm.arrays high.arrays
    known-main = grows-high.arrays

    known-globals : BeginsWith d.arrays high.arrays
    known-globals = begins-then d.arrays dm.arrays high.arrays begun.grows.arrays known-main

    module _ (given : List (List ℤ)) (turns : ℕ) (allowed : Allowed) (choices : List Choice) where
      -- the code's state where a run begins, without and with the input
      abbrev cleared : CodeState
      cleared = all_zero high.arrays choices

      abbrev begin : CodeState
      begin = with_params qs given cleared

      own-param : (t : CodeState) (m : ℕ) → m < length d.vars →
          (with_params qs given t).variables m ≡ t.variables m
      own-param t m few = own-variables counts qs given t m (params-own p inner counts high f.params qs
          params) few

      own-param-array : (t : CodeState) (m : ℕ) → m < length d.arrays →
          (with_params qs given t).arrays m ≡ t.arrays m
      own-param-array t m few = own-arrays counts qs given t m (params-own p inner counts high f.params qs
          params) few

      start-seen : start_of p choices ≡ seen globals begin
      start-seen =
          ap (λ values. begin_all p p.globals (record {
            values = values;
            arrays = [];
            locations = replicate (length p.variables) 0;
            choices = choices;
          })) (sym (constants-zero cleared (length p.variables)))
          ∙ starts.begins high.arrays cleared known-globals (record {
            variables = λ m above. refl;
            arrays =
                λ m above. refl;
          })
          ∙ seen-same globals d cleared begin globals-scope.naming (λ m few. sym (own-param cleared m few))
          (λ m few. sym (own-param-array cleared m few)) (sym (given-choices qs given cleared))

      -- THE FRAME OF MAIN, after the initialisers of the globals

      module _ (u : CodeState) (keeps : Keeps true (with_home home globals) low begin u) where
        -- what is there with the variables of main as they were where the run began
        abbrev again : CodeState
        again = record u {
          variables = λ m. cond (nat_lt m (length d.vars)) (u.variables m) (pos 0);
          arrays = λ m. cond (nat_lt m (length d.arrays)) (u.arrays m) (replicate (info_at high.arrays
              m).len (pos 0));
        }

        again-low : (m : ℕ) → m < length d.vars → again.variables m ≡ u.variables m
        again-low m few = ap (λ b. cond b (u.variables m) (pos 0)) (lt-ltb m (length d.vars) few)

        again-high : (m : ℕ) → length d.vars ≤ m → again.variables m ≡ pos 0
        again-high m above = ap (λ b. cond b (u.variables m) (pos 0)) (le-ltb m (length d.vars) above)

        again-low-array : (m : ℕ) → m < length d.arrays → again.arrays m ≡ u.arrays m
        again-low-array m few =
            ap (λ b. cond b (u.arrays m) (replicate (info_at high.arrays m).len (pos 0))) (lt-ltb m (length
            d.arrays) few)

        again-high-array : (m : ℕ) → length d.arrays ≤ m →
            again.arrays m ≡ replicate (info_at high.arrays m).len (pos 0)
        again-high-array m above =
            ap (λ b. cond b (u.arrays m) (replicate (info_at high.arrays m).len (pos 0))) (le-ltb m (length
            d.arrays) above)

        few-vars : length low.vars ≡ length dm.vars + 1
        few-vars = with_var-length ty dm

        outside-globals : (m : ℕ) → length d.vars ≤ m → Outside m globals.values
        outside-globals m above =
            outside-new m globals.values (below-more (length d.vars) m globals.values above
            globals-scope.naming.below)

        outside-global-arrays : (m : ℕ) → length d.arrays ≤ m → OutsideArrays m globals.arrays
        outside-global-arrays m above = arrays-new m globals.arrays
            (below-arrays-more (length d.arrays) m globals.arrays above globals-scope.naming.arrays_below)

        variable-by : (m : ℕ) → m < length dm.vars → (m < length d.vars) ⊎ (length d.vars ≤ m)
            → (with_params qs given again).variables m ≡ u.variables m
        variable-by m few (inl below) = own-param again m below ∙ again-low m below
        variable-by m few (inr above) =
            same-variables qs given again cleared m (again-high m above)
            ∙ sym (keeps.variables m (omega (arith, few, few-vars))
            ((λ same. absurd (omega (arith, few, same, is_home))), outside-globals m above))

        array-by : (m : ℕ) → m < length dm.arrays → (m < length d.arrays) ⊎ (length d.arrays ≤ m)
            → (with_params qs given again).arrays m ≡ u.arrays m
        array-by m few (inl below) = own-param-array again m below ∙ again-low-array m below
        array-by m few (inr above) =
            same-arrays qs given again cleared m (again-high-array m above)
            ∙ sym (keeps.arrays m few (outside-global-arrays m above))

        frame-seen : with_input p f.params given (begin_all p (f.params ++ f.locals) (seen globals u)) ≡
            seen inner u
        frame-seen =
            ap (λ s. with_input p f.params given (begin_all p (f.params ++ f.locals) s))
            (seen-same globals d u again globals-scope.naming (λ m few. sym (again-low m few))
            (λ m few. sym (again-low-array m few)) refl)
            ∙ ap (with_input p f.params given)
            (begun.begins high.arrays again known-main (record {
              variables = again-high;
              arrays =
                  again-high-array;
            }))
            ∙ given-seen p inner counts high dm f.params qs given again inner-scope.naming params
            ∙ seen-same inner dm (with_params qs given again) u inner-scope.naming
            (λ m few. variable-by m few (cases_lt m (length d.vars)))
            (λ m few. array-by m few (cases_lt m (length d.arrays))) (given-choices qs given again)

        entered : (input : Input) → input.values ≡ given → enter_main p input (seen globals u) ≡ seen inner u
        entered input is_given =
            ap (λ (g : Function). with_input p g.params input.values
            (begin_all p g.locals (begin_all p g.params (seen globals u)))) is_main
            ∙ ap (with_input p f.params input.values) (sym (begin_all-append p f.params f.locals (seen
            globals u)))
            ∙ ap (λ given. with_input p f.params given (begin_all p (f.params ++ f.locals) (seen globals
            u))) is_given
            ∙ frame-seen

      -- THE RUN

      abbrev world : World
      world = record { allowed = allowed; turns = turns; arrays = high.arrays }

      abbrev setting : Setting
      setting = code_setting p world

      abbrev context : Context
      context = context_with p world f.result n

      ready : IsReady world high begin
      ready = record {
        known = begins-same high.arrays;
        sized = λ m. given-lengths qs given cleared m ∙ length-replicate (info_at high.arrays m).len (pos 0);
      }

      module _ (input : Input) (is_given : input.values ≡ given) where
        abbrev main_from : State → Ending (Flow Exit)
        main_from s = exec_all context [] f.body (enter_main p input s)

        main-meets : (u : CodeState) (s : State) → s ≡ seen globals u →
            Keeps true (with_home home globals) low begin u
            → Meets Ended (main_from s) (run_nodes setting second.nodes [] u)
        main-meets u s is keeps =
            subst (λ s. Meets Ended (exec_all context [] f.body s) (run_nodes setting second.nodes [] u))
            (sym (ap (enter_main p input) is ∙ entered u keeps input is_given))
            (meets-from (Does inner no_exits home mid u) Ended (exec_all context [] f.body (seen inner u))
            (run_nodes setting second.nodes [] u)
            (second.runs world [] u (ready-after world high true (with_home home globals) low begin u keeps
            ready))
            (λ flow s way v did. ap (λ (s : State). s.choices) did.sees))

        after-inits : (flow : Flow Exit) (s : State) (way : Flow ℕ) (u : CodeState)
            → Does globals no_exits home low begin flow s way u
            → Meets Ended (after_part main_from flow s) (after_part (run_nodes setting second.nodes []) way u)
        after-inits Next s Next u did = main-meets u s did.sees did.keeps
        after-inits (Leaves exit) s (Leaves label) u did = ap (λ (s : State). s.choices) did.sees
        after-inits Next s (Leaves label) u did = absurd did.flows
        after-inits (Leaves exit) s Next u did = absurd did.flows

        code-runs : run_nodes setting body [] begin
            ≡ then_do (run_nodes setting first.nodes [] begin) (after_part (run_nodes setting second.nodes
            []))
        code-runs = ap (λ nodes. run_nodes setting nodes [] begin)
            (second.is ∙ ap (λ out. out ++ second.nodes) first.is)
            ∙ run-append setting [] begin first.nodes second.nodes

        run-meets : Meets Ended
            (then_do (exec_all context [] p.inits (seen globals begin)) (after_part main_from))
            (run_nodes setting body [] begin)
        run-meets = subst (Meets Ended (then_do (exec_all context [] p.inits (seen globals begin))
            (after_part main_from)))
            (sym code-runs)
            (meets-then (Does globals no_exits home low begin) Ended (exec_all context [] p.inits (seen
            globals begin))
            (run_nodes setting first.nodes [] begin) (after_part main_from) (after_part (run_nodes setting
            second.nodes []))
            (first.runs world [] begin (ready-before world mid high begin second.grows ready)) after-inits)

        abbrev bounds : Bounds
        bounds = record { turns = turns; frames = frames }

        context-is : context_of p bounds allowed ≡ context
        unfolding context_with
        context-is =
            ap (λ (g : Function). context_in p allowed turns g (call_at p allowed turns (frames - 1))) is_main
            ∙ ap (λ n. context_in p allowed turns f (call_at p allowed turns n)) (sym is_n)

        main-is : run_main context input (start_of p choices)
            ≡ then_do (exec_all context [] p.inits (seen globals begin)) (after_part main_from)
        unfolding context_with run_main
        main-is =
            ap (λ (g : Function). then_do (exec_all context [] p.inits (start_of p choices))
            (after_part (λ s. exec_all context [] g.body (enter_main p input s)))) is_main
            ∙ ap (λ s. then_do (exec_all context [] p.inits s) (after_part main_from)) start-seen

        run-is : outcome_of (then_do (exec_all context [] p.inits (seen globals begin)) (after_part
            main_from))
            ≡ run_of p input bounds allowed choices
        unfolding run_of
        run-is = sym (ap (λ x. outcome_of (run_main x input (start_of p choices))) context-is ∙ ap
            outcome_of main-is)

        block-runs : run_nodes setting whole [] begin
            ≡ then_do (run_nodes setting body [] begin) (λ flow. give (flow_after_block 0 flow))
        block-runs = ap (λ nodes. run_nodes setting nodes [] begin) blocked.is ∙ blocked.runs setting [] begin

        plain-outcome : (vars : ℕ)
            → outcome_of_end (run_nodes setting whole [] begin) ≡ run_of p input bounds allowed choices
        plain-outcome vars = ap outcome_of_end block-runs
            ∙ same-outcome (then_do (exec_all context [] p.inits (seen globals begin)) (after_part main_from))
            (run_nodes setting body [] begin) run-meets
            ∙ run-is

    pub is-translation : IsTranslation p frames high qs whole
    unfolding outcome_with code_setting
    is-translation = record {
      outcomes = λ vars input turns allowed choices. plain-outcome input.values turns allowed choices input
          refl vars;
      begins = λ vars input choices fit. given-keeps p inner counts high f.params qs input.values (all_zero
          high.arrays choices)
          params (subst (λ (g : Function). fits_all p g.params input.values ≡ true) is_main fit)
          (zero-keeps high choices);
    }

-- AS THE CODE MAKES IT

pub translated : (p : Program) (f : Function) (first globals scope one inner : Names) (none d mid dm low
    inits high : Types)
    (gs ps ls qs : List VarId) (stmts body : List Stmt) (count home n frames : ℕ) (ty : CType) (counts :
    Counts)
    (old out nodes new whole : List Node) (params : List Param)
    → function_of p p.main ≡ f
    → none ≡ nothing_declared → first ≡ first_names count → count ≡ length p.variables → gs ≡ p.globals
    → Starts p first globals gs none d
    → counts ≡ record { vars = length d.vars; arrays = length d.arrays } → scope ≡ globals
    → ps ≡ f.params → Starts p scope one ps d mid → ls ≡ f.locals → Starts p one inner ls mid dm
    → home ≡ length dm.vars → low ≡ with_var ty dm → n ≡ frames - 1
    → old ≡ [] → stmts ≡ p.inits
    → (IsFrame p home globals low → Makes p globals [] (stmts_part p (called_frame home f.result n) stmts)
    (Does globals no_exits home low) low inits old out)
    → body ≡ f.body
    → (IsFrame p home inner inits → Makes p inner [] (stmts_part p (called_frame home f.result n) body)
    (Does inner no_exits home inits) inits high out nodes)
    → new ≡ [] → Adds new whole (block_act 0 nodes)
    → qs ≡ f.params → AreParams p inner counts high qs params
    → IsTranslation p frames high params whole
translated p f first globals scope one inner none d mid dm low inits high gs ps ls qs stmts body count home
    n frames ty counts
    old out nodes new whole params is_main is_none is_first is_count is_gs starts is_counts is_scope is_ps
    begun is_ls more
    is_home is_low is_n is_old is_stmts makes_inits is_body makes_main is_new blocked is_qs are_params =
    let started : Starts p (first_names (length p.variables)) globals p.globals nothing_declared d =
    subst (λ none. Starts p (first_names (length p.variables)) globals p.globals none d) is_none
    (subst (λ first. Starts p first globals p.globals none d) (is_first ∙ ap first_names is_count)
    (subst (λ gs. Starts p first globals gs none d) is_gs starts)) in
    let own : Starts p globals inner (f.params ++ f.locals) d dm =
    starts-then p globals one inner f.params f.locals d mid dm
    (subst (λ ps. Starts p globals one ps d mid) is_ps (subst (λ names. Starts p names one ps d mid)
    is_scope begun))
    (subst (λ ls. Starts p one inner ls mid dm) is_ls more) in
    let outer : IsScope p globals d = started.scope (first-scope p (length p.variables)) in
    let around : IsFrame p home globals low = subst (IsFrame p home globals) (sym is_low)
    (frame-begun p home globals ty dm is_home (scope-later p globals d dm own.grows outer)) in
    let made : Makes p globals [] (stmts_part p (called_frame home f.result n) p.inits)
    (Does globals no_exits home (with_var ty dm)) (with_var ty dm) inits [] out =
    subst (λ low. Makes p globals [] (stmts_part p (called_frame home f.result n) p.inits)
    (Does globals no_exits home low) low inits [] out) is_low
    (makes-old is_old
    (subst (λ stmts. Makes p globals [] (stmts_part p (called_frame home f.result n) stmts)
    (Does globals no_exits home low) low inits old out) is_stmts (makes_inits around))) in
    let within : IsFrame p home inner inits = frame-later p home inner (with_var ty dm) inits made.grows
    (frame-begun p home inner ty dm is_home (own.scope outer)) in
    let last : Makes p inner [] (stmts_part p (called_frame home f.result n) f.body) (Does inner no_exits
    home inits)
    inits high out nodes =
    subst (λ body. Makes p inner [] (stmts_part p (called_frame home f.result n) body)
    (Does inner no_exits home inits) inits high out nodes) is_body (makes_main within) in
    is-translation p f globals inner d dm is_main started own home n frames ty is_home is_n inits high out
    nodes whole params
    made last (adds-old is_new blocked)
    (subst (λ counts. AreParams p inner counts high f.params params) is_counts
    (subst (λ qs. AreParams p inner counts high qs params) is_qs are_params))

-- THE TREE

module _ (p : Program) (frames vars : ℕ) (declared : Types) (qs : List Param) (body : List Node)
    (made : IsTranslation p frames declared qs body) (typed : IsTyped declared body) where
  abbrev the_code : Code
  the_code = code_with vars declared qs body

  converted-outcome : (input : Input) (turns : ℕ) (relaxes : List Step → StmtId →
      Bool) (choices : List Choice)
      → fits p input ≡ true
      → outcome_with converting the_code input turns relaxes choices ≡ outcome_with plain the_code input
      turns relaxes choices
  unfolding outcome_with
  converted-outcome input turns relaxes choices fit = ap outcome_of_end
      ((typed-agrees declared relaxes turns body typed []).same (start_of_code the_code input choices)
      (made.begins vars input choices fit))

  pub has-outcomes : (tree : LoopTree) → code_of_loops tree ≡ the_code → HasOutcomes p frames tree
  has-outcomes tree is input turns allowed choices fit =
      ap (λ code. outcome_of_code code input turns (admits p allowed) choices) is
      ∙ converted-outcome input turns (admits p allowed) choices fit
      ∙ made.outcomes vars input turns allowed choices
