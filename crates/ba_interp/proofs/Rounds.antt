-- Rounds of a loop, from what their tests and iterations do.
use Rattle.std.proofs.Common.{◌≡◌, ℕ, ◌+◌, suc, zero, ℤ, pos, true, false, cond, Result, Ok, Err, refl, sym, ◌∙◌, ap, subst}
use Rattle.std.specs.Ordering.{int_eq}
use Rattle.ba_tree.specs.Acts.{give, then_do, fork, after_part, rounds, flow_after_loop}
use Rattle.ba_tree.specs.State.{State, Act, Ending, Execution}
use Rattle.ba_tree.specs.declared.run.Exit.{Exit}
use Rattle.ba_tree.specs.declared.run.Flow.{Flow}
use Rattle.ba_tree.specs.declared.run.Flow.TheVariants.{Next, Leaves}
use Rattle.ba_interp.specs.Doing.{Did}
use Rattle.ba_interp.specs.declared.stop.Stop.{Stop}
use Rattle.ba_interp.proofs.Steps.{did-is, did-end, did-then, fork-zero, fork-other}

abbrev pub to_loop : Flow Exit → Execution
to_loop flow = give (flow_after_loop flow)

module _ (test : ℕ → Act ℤ) (turn : ℕ → Execution) (past : Execution) where
  abbrev behind : ℕ → ℕ → ℤ → Execution
  behind zero k = fork past (give Next)
  behind (suc left) k = fork (λ s. then_do (turn k s) (after_part (rounds test turn past left (k + 1)))) (give
      Next)

  one-round : (left k : ℕ) (s : State) → rounds test turn past left k s ≡ then_do (test k s) (behind left k)
  one-round zero k s = refl
  one-round (suc left) k s = refl

  zero-behind : (left k : ℕ) (z : ℤ) (t : State) → int_eq z (pos 0) ≡ true
      → Did (Ok Next) t (behind left k z t)
  zero-behind zero k z t is = fork-zero z (Ok Next) t t past (give Next) is refl
  zero-behind (suc left) k z t is =
      fork-zero z (Ok Next) t t (λ s. then_do (turn k s) (after_part (rounds test turn past left (k + 1))))
      (give Next) is refl

  module _ (whole : Ending (Flow Exit)) (left k : ℕ) (s : State) (is : whole ≡ then_do (rounds test turn past
      left k s) to_loop) where
    whole-is : whole ≡ then_do (then_do (test k s) (behind left k)) to_loop
    whole-is = is ∙ ap (λ e. then_do e to_loop) (one-round left k s)

    -- the test ends the run
    pub test-ends : (r : Result (Flow Exit) Stop) (stop : Stop) (t : State) → r ≡ Err stop
        → Did (Err stop) t (test k s) → Did r t whole
    test-ends r stop t ended did = did-is r t whole (then_do (then_do (test k s) (behind left k)) to_loop)
        whole-is
        (did-end r stop t (then_do (test k s) (behind left k)) to_loop ended
        (did-end (Err stop) stop t (test k s) (behind left k) refl did))

    -- it is 0
    pub zero-ends : (z : ℤ) (t : State) → Did (Ok z) t (test k s) → int_eq z (pos 0) ≡ true
        → Did (Ok Next) t whole
    zero-ends z t did is_zero = did-is (Ok Next) t whole (then_do (then_do (test k s) (behind left k))
        to_loop) whole-is
        (did-then Next (Ok Next) t t (then_do (test k s) (behind left k)) to_loop
        (did-then z (Ok Next) t t (test k s) (behind left k) did (zero-behind left k z t is_zero)) refl)

  module _ (whole : Ending (Flow Exit)) (rest k : ℕ) (s : State) (is : whole ≡ then_do (rounds test turn past
      (suc rest) k s) to_loop) where
    abbrev next_rounds : Flow Exit → Execution
    next_rounds = after_part (rounds test turn past rest (k + 1))

    abbrev a_turn : Execution
    a_turn s = then_do (turn k s) next_rounds

    -- an iteration that isn't the last one of the run
    turn-goes : (r q : Result (Flow Exit) Stop) (z : ℤ) (t u : State) → Did (Ok z) t (test k s)
        → int_eq z (pos 0) ≡ false
        → Did q u (a_turn t) → Did q u (rounds test turn past (suc rest) k s)
    turn-goes r q z t u did other then_is = did-then z q t u (test k s) (fork a_turn (give Next)) did
        (fork-other z q t u a_turn (give Next) other then_is)

    pub turn-ends : (r : Result (Flow Exit) Stop) (stop : Stop) (z : ℤ) (t u : State)
        → Did (Ok z) t (test k s) → int_eq z (pos 0) ≡ false
        → r ≡ Err stop → Did (Err stop) u (turn k t) → Did r u whole
    turn-ends r stop z t u did other ended turned = did-is r u whole (then_do (rounds test turn past (suc
        rest) k s) to_loop) is
        (did-end r stop u (rounds test turn past (suc rest) k s) to_loop ended
        (turn-goes r (Err stop) z t u did other (did-end (Err stop) stop u (turn k t) next_rounds refl
        turned)))

    pub turn-leaves : (exit : Exit) (z : ℤ) (t u : State) → Did (Ok z) t (test k s) → int_eq z (pos 0) ≡ false
        → Did (Ok (Leaves exit)) u (turn k t) → Did (Ok (flow_after_loop (Leaves exit))) u whole
    turn-leaves exit z t u did other turned = did-is (Ok (flow_after_loop (Leaves exit))) u whole (then_do
        (rounds test turn past (suc rest) k s) to_loop) is
        (did-then (Leaves exit) (Ok (flow_after_loop (Leaves exit))) u u (rounds test turn past (suc rest) k
        s) to_loop
        (turn-goes (Ok (Leaves exit)) (Ok (Leaves exit)) z t u did other (did-then (Leaves exit) (Ok (Leaves
        exit)) u u (turn k t) next_rounds turned refl)) refl)

  pub turn-again : (rest k : ℕ) (s t u : State) (z : ℤ) → Did (Ok z) t (test k s) → int_eq z (pos 0) ≡ false
      → Did (Ok Next) u (turn k t) → rounds test turn past (suc rest) k s ≡ rounds test turn past rest (k + 1)
      u
  turn-again rest k s t u z did other turned =
      ap (λ e. then_do e (behind (suc rest) k)) did
      ∙ ap (λ b. cond b (Ok Next, t) (then_do (turn k t) (after_part (rounds test turn past rest (k + 1)))))
      other
      ∙ ap (λ e. then_do e (after_part (rounds test turn past rest (k + 1)))) turned

  -- the test after the last iteration
  pub past-is : (whole : Ending (Flow Exit)) (k : ℕ) (s t : State) (is : whole ≡ then_do (rounds test turn
      past zero k s) to_loop)
      (r : Result (Flow Exit) Stop) (z : ℤ) → Did (Ok z) t (test k s) → Did r t (then_do (fork past (give
      Next) z t) to_loop) → Did r t whole
  past-is whole k s t is r z did then_is = did-is r t whole (then_do (rounds test turn past zero k s) to_loop)
      is
      (subst (λ e. Did r t (then_do (then_do e (fork past (give Next))) to_loop)) (sym did) then_is)
