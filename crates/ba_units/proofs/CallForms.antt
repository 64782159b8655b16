-- The units of a call, by those of its arguments and of the function's body.
use Rattle.std.proofs.Common.{◌≡◌, ℕ, ◌+◌, suc, List, map, sym, ◌∙◌, ap, arith}
use Rattle.ba_numbers.specs.declared.ids.FnId.{FnId}
use Rattle.ba_numbers.specs.declared.ids.VarId.{VarId}
use Rattle.ba_tree.specs.Run.{function_of, no_function}
use Rattle.ba_tree.specs.Units.{ArgUnits, Lengths, bodies_at, bound_lengths, declared_lengths, units_of_arg, units_of_body}
use Rattle.ba_tree.specs.declared.tree.Arg.{Arg}
use Rattle.ba_tree.specs.declared.tree.Function.{Function}
use Rattle.ba_tree.specs.declared.tree.Program.{Program}
use Rattle.ba_tree.specs.declared.tree.Stmt.{Stmt}
use Rattle.ba_units.specs.Counts.{arg_units, args_units, bodies_of, stmt_units, stmts_units, units_of_call}
use Rattle.ba_units.specs.Lengths.{elements_of, lengths_of}
use Rattle.ba_units.specs.declared.frame.Frame.{Frame}
use Rattle.ba_units.specs.declared.setting.Setting.{Setting}
use Rattle.ba_units.proofs.ArrayLengths.{given-elements}
use Rattle.ba_units.proofs.Maps.{map-map, sum_by-map}

module _ (w : Setting) (n : ℕ) (frame : Frame) (f : FnId) (args : List Arg) where
  abbrev program : Program
  program = w.program.now

  abbrev given : Lengths
  given = map (elements_of (lengths_of program frame)) args

  abbrev of_arg : Arg → ArgUnits
  of_arg = units_of_arg (bodies_of w n) (lengths_of program frame)

  same-given : map (λ (a : ArgUnits). a.elements) (map of_arg args) ≡ given
  same-given = map-map (λ (a : ArgUnits). a.elements) of_arg args
      ∙ ap (λ (g : Arg → ℕ). map g args)
      (λ i arg. given-elements (lengths_of program frame) arg (bodies_of w n) i)

  same-units : units_of_call w n frame f args ≡ 1 + args_units w n frame args + bodies_of w n f given
  unfolding units_of_call arg_units
  same-units = λ i. 1 + sum_by-map (λ (a : ArgUnits). a.units) of_arg args i + bodies_of w n f (same-given i)

  -- without a body the call is its arguments
  without-body : bodies_of w n f given ≡ 0 → units_of_call w n frame f args ≡ 1 + args_units w n frame args
  without-body none = same-units ∙ omega arith

  none-past : n ≡ 0 → bodies_of w n f given ≡ 0
  unfolding bodies_of
  none-past last = ap (λ n. bodies_at program w.turns n f given) last

  -- past the depth
  pub call-past : n ≡ 0 → units_of_call w n frame f args ≡ 1 + args_units w n frame args
  call-past last = without-body (none-past last)

  body-at : (m : ℕ) → n ≡ suc m
      → bodies_of w n f given ≡ units_of_body program w.turns (bodies_of w m) (function_of program f).body
      (bound_lengths (function_of program f).params given (declared_lengths program))
  unfolding bodies_of
  body-at m more = ap (λ n. bodies_at program w.turns n f given) more

  -- of a function that is not there
  pub call-none : (m : ℕ) → n ≡ suc m → function_of program f ≡ no_function
      → units_of_call w n frame f args ≡ 1 + args_units w n frame args
  call-none m more none = without-body (body-at m more ∙ ap (λ (g : Function). units_of_body program w.turns
      (bodies_of w m) g.body (bound_lengths g.params given (declared_lengths program))) none)

  -- with the body, in the frame of the call
  pub call-body : (m : ℕ) (g : Function) (inside : Frame) (ps : List VarId) (xs : List Stmt) → n ≡ suc m
      → function_of program f ≡ g → ps ≡ g.params → xs ≡ g.body
      → lengths_of program inside ≡ bound_lengths ps given (declared_lengths program)
      → units_of_call w n frame f args ≡ 1 + args_units w n frame args + stmts_units w m inside xs
  unfolding stmt_units
  call-body m g inside ps xs more found at_ps at_xs framed =
      let framed_so : lengths_of program inside ≡ bound_lengths g.params given (declared_lengths program) =
      framed ∙ ap (λ ps. bound_lengths ps given (declared_lengths program)) at_ps in
      let body : bodies_of w n f given ≡ stmts_units w m inside xs = body-at m more
      ∙ ap (λ (g : Function). units_of_body program w.turns (bodies_of w m) g.body
      (bound_lengths g.params given (declared_lengths program))) found
      ∙ ap (λ lengths. units_of_body program w.turns (bodies_of w m) g.body lengths) (sym framed_so)
      ∙ ap (stmts_units w m inside) (sym at_xs) in
      same-units ∙ ap (λ k. 1 + args_units w n frame args + k) body
