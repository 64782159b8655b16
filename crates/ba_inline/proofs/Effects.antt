-- The code of statements that evaluate something and give nothing.
use Rattle.std.proofs.Common.{◌≡◌, ℕ, ℤ, Bool, true, Ok, List, [], ◌∷◌, map, length, refl, sym, subst}
use Rattle.ba_choices.specs.declared.Choice.{Choice}
use Rattle.ba_code.specs.Meaning.{if_taken, taken}
use Rattle.ba_code.specs.State.{CodeState}
use Rattle.ba_code.specs.Types.{Types}
use Rattle.ba_code.specs.declared.nodes.Node.{Node}
use Rattle.ba_code.specs.declared.nodes.Operand.{Operand}
use Rattle.ba_code.specs.declared.nodes.Take.TheVariants as code
use Rattle.ba_inline.proofs.Ends.{then-give}
use Rattle.ba_inline.proofs.Homes.{home-stays, keeps-with}
use Rattle.ba_inline.proofs.Joining.{makes-pure}
use Rattle.ba_inline.proofs.Picks.{fits-meets, with_choices}
use Rattle.ba_inline.proofs.Relaxing.{does-lead, makes-pick}
use Rattle.ba_inline.proofs.Wiping.{does-cleared}
use Rattle.ba_inline.specs.Adding.{pick_act}
use Rattle.ba_inline.specs.Ends.{Meets}
use Rattle.ba_inline.specs.Making.{Adds, Does, Gives, Makes, Part, reading, reading_all}
use Rattle.ba_inline.specs.Names.{IsNaming, Names, seen, with_home}
use Rattle.ba_inline.specs.Parts.{call_part, call_stmt_part, context_in_frame, print_part, values_part}
use Rattle.ba_inline.specs.Wiping.{Wipes}
use Rattle.ba_inline.specs.Worlds.{IsReady, World, context_with}
use Rattle.ba_inline.specs.declared.frames.Frame.{Frame}
use Rattle.ba_numbers.specs.declared.ids.CallId.{CallId}
use Rattle.ba_numbers.specs.declared.ids.FnId.{FnId}
use Rattle.ba_numbers.specs.declared.ids.StmtId.{StmtId}
use Rattle.ba_tree.specs.Acts.{each, give, then_do}
use Rattle.ba_tree.specs.Choices.{admits, if_fitting, no_value, value_by_choice}
use Rattle.ba_tree.specs.Meaning.{and_next, call_effect, eval, eval_arg, print_effect}
use Rattle.ba_tree.specs.State.{State, Act}
use Rattle.ba_tree.specs.declared.run.Exit.{Exit}
use Rattle.ba_tree.specs.declared.run.Flow.{Flow}
use Rattle.ba_tree.specs.declared.run.Flow.TheVariants.{Next}
use Rattle.ba_tree.specs.declared.run.Step.{Step}
use Rattle.ba_tree.specs.declared.run.Step.TheVariants.{Call}
use Rattle.ba_tree.specs.declared.tree.Arg.{Arg}
use Rattle.ba_tree.specs.declared.tree.Expr.{Expr}
use Rattle.ba_tree.specs.declared.tree.Program.{Program}

module _ (p : Program) (names : Names) (path : List Step) (frame : Frame) (low high : Types)
    (naming : IsNaming (with_home frame.home names) low) (here : StmtId) (old new evaluated keep : List Node)
    (wipes : Wipes (length low.vars) frame.home evaluated keep) where
  abbrev DoesNow : CodeState → Flow Exit → State → Flow ℕ → CodeState → Type 0
  DoesNow = Does names frame.exits frame.home low

  nothing-taken : (w : World) (back : List Step) (t : CodeState) (choices : List Choice) (zs : List ℤ) →
      IsReady w high t
      → Meets (DoesNow t) (then_do (if_fitting (no_value zs) (seen names (with_choices choices t))) and_next)
      (if_taken (taken w.arrays code.Nothing zs (with_choices choices t)) (with_choices choices t))
  nothing-taken w back t choices zs ready = fits-meets (DoesNow t) (no_value zs) (λ z. with_choices choices
      t) and_next
      (seen names (with_choices choices t)) (with_choices choices t) refl
      (λ z is. record {
        flows = refl;
        sees = refl;
        keeps = record { variables = λ n few out. refl; arrays = λ n few out. refl; lengths = λ n. refl };
      })

  module _ {A : Type 0} (first : World → List Step → Act A) (c : Bool) (read : CodeState → A)
      (made : Makes p names path (λ w back t. first w back) (Gives names c low read) low high []
      evaluated)
      (added : Adds old new (pick_act path here code.Nothing keep)) where
    abbrev effect : World → List Step → Act (Unit {0})
    effect w back s = then_do (first w back s) (λ a. give (tt {0}))

    effect-made : Makes p names path (λ w back t s. then_do (effect w back s) and_next)
        (Does names frame.exits frame.home low) low high [] keep
    effect-made = does-cleared p names path (λ w back t s. then_do (effect w back s) and_next) frame
        frame.home
        low high [] evaluated keep naming
        (makes-pure p names path (λ w back t. first w back) (λ w back t s. then_do (effect w back s) and_next)
        (Gives names c low read) (Does names frame.exits frame.home low) low high [] evaluated (λ w back a.
        and_next (tt {0}))
        (λ w back t s. then-give (first w back s) (λ a. tt {0}) and_next)
        (λ w back t a s way u given.
        subst (λ way. Meets (DoesNow t) (Ok Next, s) (Ok way, u)) (sym given.on)
        (record {
          flows = given.keeps.variables frame.home naming.below.0 (home-stays c names frame.home
              naming.apart.0);
          sees = given.sees;
          keeps = keeps-with c names frame.home low t u given.keeps;
        })) made) wipes

    makes-effect : (part : Part (Flow Exit))
        → ((w : World) (back : List Step) (t : CodeState) → part w back t (seen names t)
        ≡ then_do (value_by_choice (admits p w.allowed back here) no_value (effect w back) (seen names t))
        and_next)
        → Makes p names path part (Does names frame.exits frame.home low) low high old new
    makes-effect part whole = makes-pick p names path here code.Nothing effect (λ w t. no_value) (λ w back.
        and_next)
        part (Does names frame.exits frame.home low) low high old new keep added whole
        (λ t choices flow s way u. does-lead names frame.exits frame.home low t choices flow s way u)
        nothing-taken effect-made

  pub makes-call_stmt : (call : CallId) (fn : FnId) (args : List Arg) (o : Operand)
      → Makes p names path (call_part p frame here call fn args) (Gives names true low (reading o)) low
      high [] evaluated
      → Adds old new (pick_act path here code.Nothing keep)
      → Makes p names path (call_stmt_part p frame here call fn args) (Does names frame.exits frame.home
      low) low high old new
  unfolding call_effect context_with
  makes-call_stmt call fn args o made added = makes-effect
      (λ w back s. then_do (each (map (eval_arg (context_in_frame p frame w) back here) args) s)
      ((context_in_frame p frame w).calls (Call call ∷ back) here fn)) true (reading o) made added
      (call_stmt_part p frame here call fn args) (λ w back t. refl)

  pub makes-print : (values : List Expr) (c : Bool) (os : List Operand)
      → Makes p names path (values_part p frame here values) (Gives names c low (reading_all os)) low high
      [] evaluated
      → Adds old new (pick_act path here code.Nothing keep)
      → Makes p names path (print_part p frame here values) (Does names frame.exits frame.home low) low
      high old new
  unfolding print_effect context_with
  makes-print values c os made added = makes-effect
      (λ w back. each (map (eval (context_in_frame p frame w) back here) values)) c (reading_all os) made
      added
      (print_part p frame here values) (λ w back t. refl)
