-- The code of a whole `switch`.
use Rattle.std.proofs.Common.{◌≡◌, ℕ, ◌+◌, ◌<◌, ◌≤◌, ℤ, true, Option, List, [], ◌∷◌, ◌++◌, map, length, refl, sym, ◌∙◌, ap, subst, arith, append_assoc}
use Rattle.ba_code.proofs.Rows.{run-append}
use Rattle.ba_code.specs.Meaning.{Setting, flow_after_block, path_in, run_nodes}
use Rattle.ba_code.specs.Operators.{plain}
use Rattle.ba_code.specs.State.{CodeEnding, CodeState, operand_value}
use Rattle.ba_code.specs.Types.{Types}
use Rattle.ba_code.specs.declared.nodes.Node.{Node}
use Rattle.ba_code.specs.declared.nodes.Operand.{Operand}
use Rattle.ba_code.specs.declared.nodes.Operand.TheVariants.{Const, Var}
use Rattle.ba_inline.proofs.Ends.{meets-from, meets-is, meets-then, then-assoc}
use Rattle.ba_inline.proofs.Entering.{entered-row}
use Rattle.ba_inline.proofs.Homes.{does-then, home-stays, keeps-with}
use Rattle.ba_inline.proofs.Joining.{goes-on}
use Rattle.ba_inline.proofs.Keeping.{grows-then, grows-var, ready-after, ready-before, with_var-length}
use Rattle.ba_inline.proofs.Loops.{flow-of-loop}
use Rattle.ba_inline.proofs.Scopes.{frame-later, scope-later, scope-of}
use Rattle.ba_inline.proofs.Seeing.{seen-still}
use Rattle.ba_inline.proofs.Statements.{makes-condition}
use Rattle.ba_inline.specs.Adding.{block_act}
use Rattle.ba_inline.specs.Calling.{has_call}
use Rattle.ba_inline.specs.Declarations.{Grows, with_var}
use Rattle.ba_inline.specs.Ends.{Meets}
use Rattle.ba_inline.specs.Flags.{AreBetween, Computed, MakesFlags}
use Rattle.ba_inline.specs.Keeping.{Keeps}
use Rattle.ba_inline.specs.Labels.{entry_flags}
use Rattle.ba_inline.specs.Making.{Adds, AreSettled, Does, Gives, GivesTo, Makes, reading, turn_exits}
use Rattle.ba_inline.specs.Names.{AreBelow, IsBelow, IsFrame, IsScope, Names, Outside, seen, with_home}
use Rattle.ba_inline.specs.Parts.{context_in_frame, given_part}
use Rattle.ba_inline.specs.Switching.{guarded_part, guarded_row, switch_part}
use Rattle.ba_inline.specs.Worlds.{IsReady, World, code_setting}
use Rattle.ba_inline.specs.declared.frames.Frame.{Frame}
use Rattle.ba_inline.specs.declared.frames.Wanted.TheVariants as wanted
use Rattle.ba_numbers.specs.Numbers.{truth}
use Rattle.ba_numbers.specs.declared.ids.StmtId.{StmtId}
use Rattle.ba_numbers.specs.declared.numbers.CType.{CType}
use Rattle.ba_tree.specs.Acts.{after_part, flow_after_loop, give, then_do}
use Rattle.ba_tree.specs.Meaning.{entered, exec_all, label_at}
use Rattle.ba_tree.specs.State.{Act, Ending, State}
use Rattle.ba_tree.specs.declared.run.Exit.{Exit}
use Rattle.ba_tree.specs.declared.run.Flow.{Flow}
use Rattle.ba_tree.specs.declared.run.Step.{Step}
use Rattle.ba_tree.specs.declared.tree.Expr.{Expr}
use Rattle.ba_tree.specs.declared.tree.Program.{Program}
use Rattle.ba_tree.specs.declared.tree.Start.{Start}
use Rattle.ba_tree.specs.declared.tree.Stmt.{Stmt}

-- FLAGS are no names, since they are made after all of these

outside-from : (base n : ℕ) (os : List Operand) → AreBelow base os → base ≤ n → Outside n os
outside-from base n [] below from = tt
outside-from base n (Const z ∷ os) below from = (tt, outside-from base n os below.1 from)
outside-from base n (Var m ∷ os) below from =
    ((λ is. absurd (omega (arith, below.0, from, is))), outside-from base n os below.1 from)

pub flags-settled : (names : Names) (base : ℕ) (d : Types) (os : List Operand) → AreBelow base names.values
    → AreBetween base (length d.vars) os → AreSettled true names d os
flags-settled names base d [] below between = tt
flags-settled names base d (Const z ∷ os) below between = (tt, flags-settled names base d os below between.1)
flags-settled names base d (Var n ∷ os) below between = (
  (between.0.1, outside-from base n names.values below between.0.0),
  flags-settled names base d os below
      between.1,
)

plain-setting : (p : Program) (w : World) → (code_setting p w).operators ≡ plain
unfolding code_setting
plain-setting p w = refl

module _ (p : Program) (names : Names) (path : List Step) (frame : Frame) (low : Types)
    (is_frame : IsFrame p frame.home names low) (here : StmtId) (t : CType) (e : Expr) (starts : List Start)
    (other : Option ℕ) (body : List Stmt) (to : ℕ) (is_to : to ≡ length low.vars) (mid flagged high : Types)
    (start out tested whole : List Node) (flags : List Operand)
    (given : Makes p names path (given_part p frame here (wanted.Value t) e)
    (Gives names (has_call e) low (reading (Var to))) low mid start out)
    (flagging : MakesFlags (λ s. entry_flags (label_at starts (operand_value s (Var to)) other) 0 (length
    body))
    (length low.vars) flags mid flagged out tested)
    (guarding : Makes p names path (guarded_part p (record frame { exits = turn_exits frame.exits }) body
    flags)
    (Does names (turn_exits frame.exits) frame.home flagged) flagged high tested whole) where
  abbrev Inside : CodeState → Flow Exit → State → Flow ℕ → CodeState → Type 0
  Inside = Does names (turn_exits frame.exits) frame.home low

  few-names : AreBelow (length low.vars) names.values
  few-names = is_frame.naming.below.1

  grows-flagged : Grows low flagged
  grows-flagged = grows-then low mid flagged given.grows flagging.computes.grows

  module _ (w : World) (turns : List ℕ) where
    abbrev g : Setting
    g = code_setting p w

    abbrev back : List Step
    back = path_in turns path

    -- the statements after the label that has this value
    abbrev chosen : ℤ → Act (Flow Exit)
    chosen z s = exec_all (context_in_frame p frame w) back (entered (label_at starts z other) body) s

    -- what the flags leave as it was
    flags-keep : (s u v : CodeState) → Keeps (has_call e) names low s u
        → ((n : ℕ) → n < length mid.vars → v.variables n ≡ u.variables n) → v.arrays ≡ u.arrays
        → Keeps true (with_home frame.home names) low s v
    flags-keep s u v k same arrays = let own = keeps-with (has_call e) names frame.home low s u k in record {
      variables = λ n below stays. same n (omega (arith, below, given.grows.vars)) ∙ own.variables n below
          stays;
      arrays = λ n below stays. ap (λ (f : ℕ → List ℤ). f n) arrays ∙ own.arrays n below stays;
      lengths = λ n. ap (λ (f : ℕ → List ℤ). length (f n)) arrays ∙ own.lengths n;
    }

    behind-flags : (s u : CodeState) → IsReady w high s → Keeps (has_call e) names low s u
        → (c : Computed (λ s u. map (operand_value u) flags
        ≡ map truth (entry_flags (label_at starts (operand_value s (Var to)) other) 0 (length body))) mid u
        (run_nodes g flagging.computes.nodes turns u))
        → Meets (Inside s) (chosen (reading (Var to) u) (seen names u))
        (run_nodes g guarding.nodes turns c.behind)
    behind-flags s u ready k c =
        let v : CodeState = c.behind in
        let kept : Keeps true (with_home frame.home names) low s v = flags-keep s u v k c.variables
        c.arrays in
        let seen_is : seen names v ≡ seen names u = seen-still names (length low.vars) u v few-names
        (λ n below. c.variables n (omega (arith, below, given.grows.vars))) c.arrays c.choices in
        let row : guarded_part p (record frame { exits = turn_exits frame.exits }) body flags w back v
        (seen names v)
        ≡ chosen (reading (Var to) u) (seen names u) =
        (λ i. guarded_row (context_in_frame p frame w) back body (c.tells i) (seen_is i))
        ∙ entered-row (context_in_frame p frame w) back (label_at starts (operand_value u (Var to)) other)
        body (seen names u) in
        meets-from (Does names (turn_exits frame.exits) frame.home flagged v) (Inside s)
        (chosen (reading (Var to) u) (seen names u)) (run_nodes g guarding.nodes turns v)
        (subst (λ end. Meets (Does names (turn_exits frame.exits) frame.home flagged v) end (run_nodes g
        guarding.nodes turns v))
        row (guarding.runs w turns v (ready-after w high true (with_home frame.home names) low s v kept
        ready)))
        (λ flow state way x done. does-then names (turn_exits frame.exits) frame.home low flagged
        grows-flagged s v
        flow state way x
        (c.variables frame.home (omega (arith, is_frame.naming.below.0, given.grows.vars))
        ∙ k.variables frame.home is_frame.naming.below.0
        (home-stays (has_call e) names frame.home is_frame.naming.apart.0)) kept done)

    flagged-meets : (s u : CodeState) → IsReady w high s → Keeps (has_call e) names low s u
        → Meets (Inside s) (chosen (reading (Var to) u) (seen names u))
        (run_nodes g (flagging.computes.nodes ++ guarding.nodes) turns u)
    flagged-meets s u ready k =
        let c = flagging.computes.runs g turns u (plain-setting p w) in
        subst (Meets (Inside s) (chosen (reading (Var to) u) (seen names u)))
        (sym (run-append g turns u flagging.computes.nodes guarding.nodes
        ∙ ap (λ (end : CodeEnding (Flow ℕ)). then_do end (after_part (run_nodes g guarding.nodes turns)))
        c.on))
        (behind-flags s u ready k c)

    -- Pick, flags and statements
    inside-meets : (s : CodeState) → IsReady w high s
        → Meets (Inside s) (then_do (given_part p frame here (wanted.Value t) e w back s (seen names s))
        chosen)
        (run_nodes g ((given.nodes ++ flagging.computes.nodes) ++ guarding.nodes) turns s)
    inside-meets s ready =
        let rest : List Node = flagging.computes.nodes ++ guarding.nodes in
        let at_flagged : IsReady w flagged s = ready-before w flagged high s guarding.grows ready in
        subst (Meets (Inside s) (then_do (given_part p frame here (wanted.Value t) e w back s (seen names
        s)) chosen))
        (sym (ap (λ ns. run_nodes g ns turns s) (append_assoc given.nodes flagging.computes.nodes
        guarding.nodes)
        ∙ run-append g turns s given.nodes rest))
        (goes-on (Inside s) names (has_call e) low (reading (Var to)) s
        (given_part p frame here (wanted.Value t) e w back s (seen names s)) (run_nodes g given.nodes turns s)
        chosen (run_nodes g rest turns)
        (given.runs w turns s (ready-before w mid flagged s flagging.computes.grows at_flagged))
        (λ u k. flagged-meets s u ready k))

  abbrev pub switch-nodes : List Node
  switch-nodes = (given.nodes ++ flagging.computes.nodes) ++ guarding.nodes

  pub whole-is : whole ≡ start ++ switch-nodes
  whole-is = guarding.is
      ∙ ap (λ ns. ns ++ guarding.nodes) (flagging.computes.is
      ∙ ap (λ ns. ns ++ flagging.computes.nodes) given.is
      ∙ append_assoc start given.nodes flagging.computes.nodes)
      ∙ append_assoc start (given.nodes ++ flagging.computes.nodes) guarding.nodes

  -- in a block
  pub makes-switch : (old new : List Node) → Adds old new (block_act 1 switch-nodes)
      → Makes p names path (switch_part p frame here t e starts other body) (Does names frame.exits
      frame.home low)
      low high old new
  makes-switch old new outer = record {
    nodes = outer.nodes;
    is = outer.is;
    grows = grows-then low flagged high grows-flagged guarding.grows;
    runs = λ w turns s ready.
        let g : Setting = code_setting p w in
        let back : List Step = path_in turns path in
        let first : Ending ℤ = given_part p frame here (wanted.Value t) e w back s (seen names s) in
        let nodes : List Node = (given.nodes ++ flagging.computes.nodes) ++ guarding.nodes in
        meets-is (Does names frame.exits frame.home low s)
        (switch_part p frame here t e starts other body w back s (seen names s))
        (then_do (then_do first (chosen w turns)) (λ flow. give (flow_after_loop flow)))
        (run_nodes g outer.nodes turns s) (then_do (run_nodes g nodes turns s) (λ way. give
        (flow_after_block 1 way)))
        (sym (then-assoc first (chosen w turns) (λ flow. give (flow_after_loop flow))))
        (outer.runs g turns s)
        (meets-then (Inside s) (Does names frame.exits frame.home low s) (then_do first (chosen w turns))
        (run_nodes g nodes turns s) (λ flow. give (flow_after_loop flow)) (λ way. give (flow_after_block 1
        way))
        (inside-meets w turns s ready)
        (λ flow state way u done. record {
          flows = flow-of-loop frame.exits frame.home s flow way u done.flows;
          sees = done.sees;
          keeps = done.keeps;
        }));
  }

-- from what its parts are made by

pub switch-made : (p : Program) (names : Names) (path : List Step) (frame inner : Frame) (low : Types)
    (here : StmtId) (t : CType) (e : Expr) (starts : List Start) (other : Option ℕ) (body : List Stmt) (to
    : ℕ)
    (declared mid flagged high : Types) (old new start out tested whole : List Node) (flags : List Operand)
    → IsFrame p frame.home names low → to ≡ length low.vars → declared ≡ with_var t low
    → inner ≡ record frame { exits = turn_exits frame.exits }
    → (IsScope p names declared → Makes p names path (given_part p frame here (wanted.Value t) e)
    (GivesTo names (has_call e) declared to) declared mid start out)
    → ((base : ℕ) → base ≤ length mid.vars → IsBelow (length mid.vars) (Var to)
    → MakesFlags (λ s. entry_flags (label_at starts (operand_value s (Var to)) other) 0 (length body)) base
    flags
    mid flagged out tested)
    → length flags ≡ length body
    → (IsFrame p inner.home names flagged → length flags ≡ length body
    → AreSettled true (with_home inner.home names) flagged flags
    → Makes p names path (guarded_part p inner body flags) (Does names inner.exits inner.home flagged)
    flagged high tested whole)
    → ((made : List Node) → whole ≡ start ++ made → Adds old new (block_act 1 made))
    → Makes p names path (switch_part p frame here t e starts other body) (Does names frame.exits
    frame.home low)
    low high old new
switch-made p names path frame inner low here t e starts other body to declared mid flagged high old new
    start out tested
    whole flags is_frame is_to is_declared is_inner made flagged_by long guarded_by outer =
    let scope : IsScope p names low = scope-of p frame.home names low is_frame in
    let first : Makes p names path (given_part p frame here (wanted.Value t) e) (GivesTo names (has_call e)
    (with_var t low) to)
    (with_var t low) mid start out =
    (subst (λ d. IsScope p names d → Makes p names path (given_part p frame here (wanted.Value t) e)
    (GivesTo names (has_call e) d to) d mid start out) is_declared made
    (scope-later p names low (with_var t low) (grows-var t low) scope)) in
    let given : Makes p names path (given_part p frame here (wanted.Value t) e) (Gives names (has_call e)
    low (reading (Var to)))
    low mid start out = makes-condition p names path (given_part p frame here (wanted.Value t) e) (has_call e)
    to t low mid start out
    scope.naming is_to first in
    let more : length (with_var t low).vars ≡ length low.vars + 1 = with_var-length t low in
    let flagging : MakesFlags (λ s. entry_flags (label_at starts (operand_value s (Var to)) other) 0
    (length body))
    (length low.vars) flags mid flagged out tested = flagged_by (length low.vars) given.grows.vars
    (omega (arith, is_to, more, first.grows.vars)) in
    let grows : Grows low flagged = grows-then low mid flagged given.grows flagging.computes.grows in
    let settled : AreSettled true (with_home frame.home names) flagged flags =
    flags-settled (with_home frame.home names) (length low.vars) flagged flags is_frame.naming.below
    flagging.between in
    let guarding : Makes p names path (guarded_part p (record frame { exits = turn_exits frame.exits }) body
    flags) (Does names (turn_exits frame.exits) frame.home flagged) flagged high tested whole =
    subst (λ (f : Frame). IsFrame p f.home names flagged → length flags ≡ length body
    → AreSettled true (with_home f.home names) flagged flags
    → Makes p names path (guarded_part p f body flags) (Does names f.exits f.home flagged) flagged high
    tested whole)
    is_inner guarded_by (frame-later p frame.home names low flagged grows is_frame) long settled in
    makes-switch p names path frame low is_frame here t e starts other body to is_to mid flagged high start
    out tested whole flags given flagging guarding old new
    (outer (switch-nodes p names path frame low is_frame here t e starts other body to is_to mid flagged high
    start out tested whole flags given flagging guarding)
    (whole-is p names path frame low is_frame here t e starts other body to is_to mid flagged high start
    out tested whole flags given flagging guarding))
