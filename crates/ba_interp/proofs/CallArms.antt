-- What a call does, from what its function's body does.
use Rattle.std.proofs.Common.{◌≡◌, ℕ, suc, zero, ℤ, pos, Result, Ok, Err, List, [], refl, sym, ◌∙◌, ap}
use Rattle.std.proofs.Math.Seq.{take-length}
use Rattle.ba_numbers.specs.declared.ids.FnId.{FnId}
use Rattle.ba_numbers.specs.declared.ids.StmtId.{StmtId}
use Rattle.ba_tree.specs.Acts.{then_do}
use Rattle.ba_tree.specs.Meaning.{Calls, Context, exec_all}
use Rattle.ba_tree.specs.Run.{begin_frame, call_at, call_of, context_in, end_frame, function_of, no_function, result_of}
use Rattle.ba_tree.specs.State.{State, Act, Ending, Execution}
use Rattle.ba_tree.specs.declared.run.Argument.{Argument}
use Rattle.ba_tree.specs.declared.run.Exit.{Exit}
use Rattle.ba_tree.specs.declared.run.Flow.{Flow}
use Rattle.ba_tree.specs.declared.run.Halt.TheVariants.{Beyond}
use Rattle.ba_tree.specs.declared.run.Step.{Step}
use Rattle.ba_tree.specs.declared.tree.Function.{Function}
use Rattle.ba_interp.specs.Doing.{Did}
use Rattle.ba_interp.specs.Settings.{context_at}
use Rattle.ba_interp.specs.declared.setting.Frame.{Frame}
use Rattle.ba_interp.specs.declared.setting.Setting.{Setting}
use Rattle.ba_interp.specs.declared.stop.Stop.{Stop}
use Rattle.ba_interp.proofs.Steps.{did-is, did-end, did-then}

module _ (w : Setting) (f : Frame) (path : List Step) (here : StmtId) (fn : FnId) (args : List Argument) (s :
    State) where
  abbrev a_call : Ending ℤ
  a_call = (context_at w f).calls path here fn args s

  abbrev calls_with : ℕ → Calls
  calls_with = call_at w.program.now w.allowed.now w.turns

  call-is : a_call ≡ calls_with f.frames path here fn args s
  unfolding context_at
  call-is = refl

  none-more : calls_with zero path here fn args s ≡ (Err (Beyond here), s)
  unfolding call_at
  none-more = refl

  -- no frame may begin
  pub beyond-is : f.frames ≡ 0 → a_call ≡ (Err (Beyond here), s)
  beyond-is none = call-is ∙ ap (λ n. calls_with n path here fn args s) none ∙ none-more

  module _ (g : Function) (n : ℕ) (frames : f.frames ≡ suc n) (found : function_of w.program.now fn ≡ g) where
    abbrev inner : Context
    inner = context_in w.program.now w.allowed.now w.turns g (calls_with n)

    abbrev the_body : Execution
    the_body = exec_all inner path g.body

    abbrev to_caller : Flow Exit → Act ℤ
    to_caller flow t = (Ok (result_of flow), end_frame g s t)

    one-more : calls_with (suc n) path here fn args s ≡ call_of w.program.now (function_of w.program.now fn)
        (exec_all (context_in w.program.now w.allowed.now w.turns (function_of w.program.now fn) (calls_with
        n)) path (function_of w.program.now fn).body) args s
    unfolding call_at
    one-more = refl

    call-body : a_call ≡ then_do (the_body (begin_frame w.program.now g args s)) to_caller
    call-body = call-is ∙ ap (λ n. calls_with n path here fn args s) frames ∙ one-more
        ∙ ap (λ g. call_of w.program.now g (exec_all (context_in w.program.now w.allowed.now w.turns g
        (calls_with n)) path g.body) args s) found

    inner-is : exec_all (context_at w (record { result = g.result; frames = n })) path g.body ≡ the_body
    unfolding context_at
    inner-is = refl

    module _ (m t : State) (begun : m ≡ begin_frame w.program.now g args s) where
      abbrev ran : Ending (Flow Exit)
      ran = exec_all (context_at w (record { result = g.result; frames = n })) path g.body m

      call-ran : a_call ≡ then_do ran to_caller
      call-ran = call-body ∙ ap (λ m. then_do (the_body m) to_caller) (sym begun)
          ∙ ap (λ (b : Execution). then_do (b m) to_caller) (sym inner-is)

      pub call-ends : (r : Result ℤ Stop) (stop : Stop) → r ≡ Err stop → Did (Err stop) t ran → Did r t a_call
      call-ends r stop ended did = did-is r t a_call (then_do ran to_caller) call-ran (did-end r stop t ran
          to_caller ended did)

      pub call-returns : (flow : Flow Exit) (z : ℤ) (u : State) → Did (Ok flow) t ran → z ≡ result_of flow
          → u ≡ end_frame g s t
          → Did (Ok z) u a_call
      call-returns flow z u did is_z is_u = did-is (Ok z) u a_call (then_do ran to_caller) call-ran
          (did-then flow (Ok z) t u ran to_caller did (ap (λ z. (Ok z, end_frame g s t)) (sym is_z)
          ∙ ap (λ u. (Ok z, u)) (sym is_u)))

  -- a number that names no function
  empty-is : (x : Context) → then_do (exec_all x path [] s) (λ flow t. (
    Ok (result_of flow),
    end_frame
        no_function s t,
  )) ≡ (Ok (pos 0), s)
  unfolding exec_all
  empty-is x = ap (λ arrays. (Ok (pos 0), record s { arrays = arrays })) (take-length s.arrays)

  pub nothing-is : (n : ℕ) → f.frames ≡ suc n → function_of w.program.now fn ≡ no_function
      → a_call ≡ (Ok (pos 0), s)
  nothing-is n frames found = call-body no_function n frames found
      ∙ empty-is (context_in w.program.now w.allowed.now w.turns no_function (calls_with n))
