-- The code of statements that may be relaxed.
use Rattle.std.proofs.Common.{◌≡◌, ℕ, ℤ, Bool, true, Option, option_map, List, [], refl, sym, subst}
use Rattle.ba_choices.specs.declared.Choice.{Choice}
use Rattle.ba_code.specs.Meaning.{Setting, if_taken, path_in, run_nodes, taken}
use Rattle.ba_code.specs.State.{CodeState, with_variable}
use Rattle.ba_code.specs.Types.{Types}
use Rattle.ba_code.specs.declared.nodes.Node.{Node}
use Rattle.ba_code.specs.declared.nodes.Take.{Take}
use Rattle.ba_inline.proofs.Ends.{meets-from, then-nothing}
use Rattle.ba_inline.proofs.Homes.{same-flow}
use Rattle.ba_inline.proofs.Picks.{fits-meets, keeps-choices, picks, with_choices}
use Rattle.ba_inline.specs.Adding.{pick_act}
use Rattle.ba_inline.specs.Ends.{Meets}
use Rattle.ba_inline.specs.Making.{Adds, Does, GivesTo, Makes, Part, Standing}
use Rattle.ba_inline.specs.Names.{Names, seen, with_home}
use Rattle.ba_inline.specs.Parts.{context_in_frame, given_part, value_part, wanted_take, wanted_value}
use Rattle.ba_inline.specs.Worlds.{IsReady, World, code_setting, context_with}
use Rattle.ba_inline.specs.declared.frames.Exits.{Exits}
use Rattle.ba_inline.specs.declared.frames.Frame.{Frame}
use Rattle.ba_inline.specs.declared.frames.Wanted.{Wanted}
use Rattle.ba_inline.specs.declared.frames.Wanted.TheVariants as wanted
use Rattle.ba_numbers.specs.declared.ids.StmtId.{StmtId}
use Rattle.ba_tree.specs.Acts.{give, then_do}
use Rattle.ba_tree.specs.Choices.{admits, if_fitting, one_truth, one_value, value_by_choice}
use Rattle.ba_tree.specs.Meaning.{condition, eval, given_value}
use Rattle.ba_tree.specs.State.{State, Act}
use Rattle.ba_tree.specs.declared.run.Exit.{Exit}
use Rattle.ba_tree.specs.declared.run.Flow.{Flow}
use Rattle.ba_tree.specs.declared.run.Step.{Step}
use Rattle.ba_tree.specs.declared.tree.Expr.{Expr}
use Rattle.ba_tree.specs.declared.tree.Program.{Program}

pub ready-choices : (w : World) (d : Types) (t : CodeState) (choices : List Choice) → IsReady w d t
    → IsReady w d (with_choices choices t)
ready-choices w d t choices ready = record { known = ready.known; sized = ready.sized }

-- A statement with a value that may be chosen, and what it does with the value. Its code picks between the
-- code as written and what Take does.
module _ {A C : Type 0} (p : Program) (names : Names) (path : List Step) (stmt : StmtId) (take : Take)
    (written : World → List Step → Act A) (fitting : World → CodeState → List ℤ → Option A)
    (f : World → List Step → A → Act C) (part : Part C) (stands : CodeState → Standing C) (low high : Types)
    (old new keep : List Node) where
  pub makes-pick : Adds old new (pick_act path stmt take keep)
      → ((w : World) (back : List Step) (t : CodeState)
      → part w back t (seen names t)
      ≡ then_do (value_by_choice (admits p w.allowed back stmt) (fitting w t) (written w back) (seen names
      t)) (f w back))
      → ((t : CodeState) (choices : List Choice) (c : C) (s : State) (way : Flow ℕ) (u : CodeState)
      → stands (with_choices choices t) c s way u → stands t c s way u)
      → ((w : World) (back : List Step) (t : CodeState) (choices : List Choice) (zs : List ℤ) →
      IsReady w high t
      → Meets (stands t) (then_do (if_fitting (fitting w t zs) (seen names (with_choices choices t))) (f w
      back))
      (if_taken (taken w.arrays take zs (with_choices choices t)) (with_choices choices t)))
      → Makes p names path (λ w back t s. then_do (written w back s) (f w back)) stands low high [] keep
      → Makes p names path part stands low high old new
  unfolding code_setting
  makes-pick added whole lead as_taken made = record {
    nodes = added.nodes;
    is = added.is;
    grows = made.grows;
    runs = λ w turns t ready.
        let back : List Step = path_in turns path in
        let g : Setting = code_setting p w in
        subst (λ end. Meets (stands t) end (run_nodes g added.nodes turns t)) (sym (whole w back t))
        (subst (Meets (stands t) (then_do (value_by_choice (admits p w.allowed back stmt) (fitting w t)
        (written w back) (seen names t)) (f w back)))
        (sym (added.runs g turns t))
        (picks (stands t) names t (fitting w t) (written w back) (f w back) w.arrays take (run_nodes g keep
        turns)
        (λ choices.
        subst (λ ns. Meets (stands t) (then_do (written w back (seen names (with_choices choices t))) (f w
        back))
        (run_nodes g ns turns (with_choices choices t))) (sym made.is)
        (meets-from (stands (with_choices choices t)) (stands t)
        (then_do (written w back (seen names (with_choices choices t))) (f w back))
        (run_nodes g made.nodes turns (with_choices choices t))
        (made.runs w turns (with_choices choices t) (ready-choices w high t choices ready)) (lead t choices)))
        (λ choices zs. as_taken w back t choices zs ready)
        (admits p w.allowed back stmt)));
  }

-- the choices that are used up are no part of how a statement's code stands
pub does-lead : (names : Names) (exits : Exits) (home : ℕ) (low : Types) (t : CodeState) (choices : List
    Choice)
    (flow : Flow Exit) (s : State) (way : Flow ℕ) (u : CodeState)
    → Does names exits home low (with_choices choices t) flow s way u →
    Does names exits home low t flow s way u
does-lead names exits home low t choices flow s way u given = record {
  flows = same-flow exits home t (with_choices choices t) flow way u refl given.flows;
  sees = given.sees;
  keeps = keeps-choices true (with_home home names) low t u choices given.keeps;
}

-- A VALUE that a variable gets

to-lead : (names : Names) (c : Bool) (low : Types) (to : ℕ) (t : CodeState) (choices : List Choice) (z : ℤ)
    (s : State)
    (way : Flow ℕ) (u : CodeState) → GivesTo names c low to (with_choices choices t) z s way u
    → GivesTo names c low to t z s way u
to-lead names c low to t choices z s way u given = record {
  before = given.before;
  on = given.on;
  sees = given.sees;
  is = given.is;
  keeps = keeps-choices c names low t given.before choices given.keeps;
}

to-taken : (names : Names) (c : Bool) (low : Types) (to : ℕ) (t : CodeState) (choices : List Choice) (o :
    Option ℤ)
    → Meets (GivesTo names c low to t) (then_do (if_fitting o (seen names (with_choices choices t))) give)
    (if_taken (option_map (λ z. with_variable to z (with_choices choices t)) o) (with_choices choices t))
to-taken names c low to t choices o = fits-meets (GivesTo names c low to t) o
    (λ z. with_variable to z (with_choices choices t)) give (seen names (with_choices choices t))
    (with_choices choices t) refl
    (λ z is. record {
      before = with_choices choices t;
      on = refl;
      sees = refl;
      is = refl;
      keeps = record { variables = λ n few stays. refl; arrays = λ n few out. refl; lengths = λ n. refl };
    })

module _ (p : Program) (names : Names) (path : List Step) (frame : Frame) (stmt : StmtId) (e : Expr) (c :
    Bool) (to : ℕ)
    (low high : Types) (old new keep : List Node)
    (made : Makes p names path (value_part p frame stmt e) (GivesTo names c low to) low high [] keep) where
  written-made : Makes p names path (λ w back t s. then_do (eval (context_in_frame p frame w) back stmt e
      s) give)
      (GivesTo names c low to) low high [] keep
  written-made = record {
    nodes = made.nodes;
    is = made.is;
    grows = made.grows;
    runs = λ w turns t ready. subst
        (λ end. Meets (GivesTo names c low to t) end (run_nodes (code_setting p w) made.nodes turns t))
        (then-nothing (eval (context_in_frame p frame w) (path_in turns path) stmt e (seen names t)))
        (made.runs w turns t ready);
  }

  given-is : (wants : Wanted) (w : World) (back : List Step) (t : CodeState)
      → given_part p frame stmt wants e w back t (seen names t)
      ≡ then_do (value_by_choice (admits p w.allowed back stmt) (wanted_value wants)
      (eval (context_in_frame p frame w) back stmt e) (seen names t)) give
  unfolding given_value condition context_with
  given-is (wanted.Value ty) w back t = then-nothing
      (value_by_choice (admits p w.allowed back stmt) (one_value ty) (eval (context_in_frame p frame w)
      back stmt e) (seen names t))
  given-is wanted.Truth w back t = then-nothing
      (value_by_choice (admits p w.allowed back stmt) one_truth (eval (context_in_frame p frame w) back
      stmt e) (seen names t))

  given-taken : (wants : Wanted) (w : World) (back : List Step) (t : CodeState) (choices : List Choice) (zs
      : List ℤ)
      → IsReady w high t
      → Meets (GivesTo names c low to t) (then_do (if_fitting (wanted_value wants zs) (seen names
      (with_choices choices t))) give)
      (if_taken (taken w.arrays (wanted_take wants to) zs (with_choices choices t)) (with_choices choices t))
  given-taken (wanted.Value ty) w back t choices zs ready = to-taken names c low to t choices (one_value ty
      zs)
  given-taken wanted.Truth w back t choices zs ready = to-taken names c low to t choices (one_truth zs)

  pub makes-given : (wants : Wanted) → Adds old new (pick_act path stmt (wanted_take wants to) keep)
      → Makes p names path (given_part p frame stmt wants e) (GivesTo names c low to) low high old new
  makes-given wants added = makes-pick p names path stmt (wanted_take wants to)
      (λ w back. eval (context_in_frame p frame w) back stmt e) (λ w t. wanted_value wants) (λ w back. give)
      (given_part p frame stmt wants e) (GivesTo names c low to) low high old new keep added (given-is wants)
      (λ t choices z s way u. to-lead names c low to t choices z s way u) (given-taken wants) written-made
