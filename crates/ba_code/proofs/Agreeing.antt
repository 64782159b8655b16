-- Parts of code that do the same, and keep types, wherever each variable and each array has numbers of its
-- type.
use Rattle.std.proofs.Common.{◌≡◌, ℕ, zero, suc, ◌+◌, ℤ, pos, Bool, true, false, cond, Ok, Err, refl, ◌∙◌, ap}
use Rattle.std.specs.Ordering.{int_eq}
use Rattle.ba_code.specs.Meaning.{headed_rounds}
use Rattle.ba_code.specs.State.{CodeAct, CodeEnding, CodeExecution, CodeState}
use Rattle.ba_code.specs.Types.{KeepsTypes, Types}
use Rattle.ba_tree.specs.Acts.{after_part, fork, give, then_do}
use Rattle.ba_tree.specs.declared.run.Flow.{Flow}
use Rattle.ba_tree.specs.declared.run.Flow.TheVariants.{Next, Leaves}

abbrev pub KeptAt : {A : Type 0} → Types → CodeEnding A → Type 0
KeptAt types (Ok a, s) = KeepsTypes types s
KeptAt types (Err h, s) = Unit {0}

pub record Agrees {A : Type 0} (types : Types) (f h : CodeAct A) : Type 0 where
  pub same : (s : CodeState) → KeepsTypes types s → h s ≡ f s
  pub kept : (s : CodeState) → KeepsTypes types s → KeptAt types (f s)

module _ (types : Types) where
  pub agrees-itself : {A : Type 0} (f : CodeAct A) → ((s : CodeState) → KeepsTypes types s →
      KeptAt types (f s))
      → Agrees types f f
  agrees-itself f kept = record { same = λ s k. refl; kept = kept }

  then-same : {A B : Type 0} (e : CodeEnding A) (f h : A → CodeAct B) → ((a : A) → Agrees types (f a) (h a))
      → KeptAt types e → then_do e h ≡ then_do e f
  then-same (Ok a, s) f h both k = (both a).same s k
  then-same (Err x, s) f h both k = refl

  then-kept : {A B : Type 0} (e : CodeEnding A) (f h : A → CodeAct B) → ((a : A) → Agrees types (f a) (h a))
      → KeptAt types e → KeptAt types (then_do e f)
  then-kept (Ok a, s) f h both k = (both a).kept s k
  then-kept (Err x, s) f h both k = tt

  pub agrees-then : {A B : Type 0} (f h : CodeAct A) (f' h' : A → CodeAct B) → Agrees types f h
      → ((a : A) → Agrees types (f' a) (h' a)) → Agrees types (λ s. then_do (f s) f') (λ s. then_do (h s) h')
  agrees-then f h f' h' first second = record {
    same = λ s k. ap (λ e. then_do e h') (first.same s k) ∙ then-same (f s) f' h' second (first.kept s k);
    kept = λ s k. then-kept (f s) f' h' second (first.kept s k);
  }

  pub agrees-after : (f h : CodeExecution) → Agrees types f h → (flow : Flow ℕ)
      → Agrees types (after_part f flow) (after_part h flow)
  agrees-after f h both Next = both
  agrees-after f h both (Leaves l) = record { same = λ s k. refl; kept = λ s k. k }

  cond-kept : {A : Type 0} (b : Bool) (x y : CodeEnding A) → KeptAt types x → KeptAt types y →
      KeptAt types (cond b x y)
  cond-kept true x y k l = k
  cond-kept false x y k l = l

  pub agrees-fork : {A : Type 0} (f h f' h' : CodeAct A) (z : CodeState → ℤ) → Agrees types f h →
      Agrees types f' h'
      → Agrees types (λ s. fork f f' (z s) s) (λ s. fork h h' (z s) s)
  agrees-fork f h f' h' z first second = record {
    same = λ s k. ap (λ e. cond (int_eq (z s) (pos 0)) e (h s)) (second.same s k)
        ∙ ap (λ e. cond (int_eq (z s) (pos 0)) (f' s) e) (first.same s k);
    kept = λ s k. cond-kept (int_eq (z s) (pos 0)) (f' s) (f s) (second.kept s k) (first.kept s k);
  }

  abbrev to_next : CodeExecution
  to_next s = (Ok Next, s)

  pub agrees-next : Agrees types to_next to_next
  agrees-next = agrees-itself to_next (λ s k. k)

  -- LOOPS

  pub agrees-rounds : (head head' turn turn' : ℕ → CodeExecution) (when : ℕ → CodeState →
      ℤ) (past : CodeExecution)
      → ((k : ℕ) → Agrees types (head k) (head' k)) → ((k : ℕ) → Agrees types (turn k) (turn' k))
      → Agrees types past past → (left k : ℕ)
      → Agrees types (headed_rounds head when turn past left k) (headed_rounds head' when turn' past left k)
  agrees-rounds head head' turn turn' when past heads turns pasts zero k =
      agrees-then (head k) (head' k) (after_part (λ s. fork past (give Next) (when k s) s))
      (after_part (λ s. fork past (give Next) (when k s) s)) (heads k)
      (agrees-after (λ s. fork past (give Next) (when k s) s) (λ s. fork past (give Next) (when k s) s)
      (agrees-fork past past (give Next) (give Next) (when k) pasts agrees-next))
  agrees-rounds head head' turn turn' when past heads turns pasts (suc left) k =
      let again = agrees-rounds head head' turn turn' when past heads turns pasts left (k + 1) in
      let a_turn : CodeExecution = λ s. then_do (turn k s) (after_part (headed_rounds head when turn past
      left (k + 1))) in
      let a_turn' : CodeExecution = λ s. then_do (turn' k s) (after_part (headed_rounds head' when turn'
      past left (k + 1))) in
      let turned : Agrees types a_turn a_turn' =
      agrees-then (turn k) (turn' k) (after_part (headed_rounds head when turn past left (k + 1)))
      (after_part (headed_rounds head' when turn' past left (k + 1))) (turns k)
      (agrees-after (headed_rounds head when turn past left (k + 1)) (headed_rounds head' when turn' past
      left (k + 1)) again) in
      agrees-then (head k) (head' k) (after_part (λ s. fork a_turn (give Next) (when k s) s))
      (after_part (λ s. fork a_turn' (give Next) (when k s) s)) (heads k)
      (agrees-after (λ s. fork a_turn (give Next) (when k s) s) (λ s. fork a_turn' (give Next) (when k s) s)
      (agrees-fork a_turn a_turn' (give Next) (give Next) (when k) turned agrees-next))
