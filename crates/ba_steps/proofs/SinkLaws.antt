-- The logs of two sinks, one after the other.

use base.Fml.{GName}
use Rattle.std.proofs.Common.{◌≡◌, [], ◌∷◌, ◌++◌, Result, Ok, Err, refl, inl, inr, ◌⊎◌, ℕ, ◌+◌, ◌≤◌, arith, sym, ap, ◌∙◌}
use Rattle.std.proofs.lemmas.List.{map-append}
use Rattle.std.specs.Result.{OnErr}
use Rattle.ba_steps.specs.Sinks.{Logs, MayAddStep, Outlasts, Rose, Takes, Told, told_by_both, with_step, with_told}
use Rattle.ba_steps.specs.declared.sink.SinkError.{SinkError}
use Rattle.ba_steps.specs.declared.step.CertStep.{CertStep}

pub MayAddStep-append : (step : CertStep) (a b c d : Logs) → MayAddStep step a b → MayAddStep step c d →
    MayAddStep step (a ++ c) (b ++ d)
MayAddStep-append step [] [] c d first second = second
MayAddStep-append step [] (y ∷ b) c d first second = absurd first
MayAddStep-append step (x ∷ a) [] c d first second = absurd first
MayAddStep-append step (x ∷ a) (y ∷ b) c d first second =
    (first.0, MayAddStep-append step a b c d first.1 second)

pub MayAddStep-same : (step : CertStep) (a : Logs) → MayAddStep step a a
MayAddStep-same step [] = tt
MayAddStep-same step (x ∷ a) = (inl refl, MayAddStep-same step a)

pub MayAddStep-done : (step : CertStep) (a : Logs) → MayAddStep step a (with_step step a)
MayAddStep-done step [] = tt
MayAddStep-done step (x ∷ a) = (inr refl, MayAddStep-done step a)

pub on_err : {T E : Type 0} (P : Type 0) (r : Result T E) → P → OnErr r P
on_err P (Ok x) p = tt
on_err P (Err e) p = p

-- the first sink refused
pub both_first : {T E : Type 0} (step : CertStep) (a b c : Logs) (r : Result T E) → MayAddStep step a b →
    OnErr r (MayAddStep step (a ++ c) (b ++ c))
both_first step a b c r first = on_err (MayAddStep step (a ++ c) (b ++ c)) r
    (MayAddStep-append step a b c c first (MayAddStep-same step c))

-- the second sink refused
pub both_second : (step : CertStep) (a b c d : Logs) → b ≡ with_step step a → MayAddStep step c d →
    MayAddStep step (a ++ c) (b ++ d)
both_second step a b c d told second = rw told
    (MayAddStep-append step a (with_step step a) c d (MayAddStep-done step a) second)

pub MayAddStep-as : (step : CertStep) (a b : Logs) → b ≡ a → MayAddStep step a b
MayAddStep-as step a b same = rw same (MayAddStep-same step a)

-- a count that rose since rose since before
pub rose_later : (a b c : ℕ) → a ≤ b → Rose b c → Rose a c
rose_later a b c le (inl rose) = inl (omega (arith, le, rose))
rose_later a b c le (inr most) = inr most

rose_in_sum : (a a' b b' : ℕ) → a ≤ a' → b ≤ b' → Rose a a' ⊎ Rose b b' → Rose (a + b) (a' + b')
rose_in_sum a a' b b' p q (inl (inl h)) = inl (omega (arith, p, q, h))
rose_in_sum a a' b b' p q (inl (inr h)) = inr (omega (arith, p, q, h))
rose_in_sum a a' b b' p q (inr (inl h)) = inl (omega (arith, p, q, h))
rose_in_sum a a' b b' p q (inr (inr h)) = inr (omega (arith, p, q, h))

both_outlast : (name : GName) (a a' b b' : Told) → Outlasts a a' → Outlasts b b'
    → Outlasts (told_by_both name a b) (told_by_both name a' b')
both_outlast name a a' b b' first second = record {
  no_fall = omega (arith, first.no_fall, second.no_fall);
  same_references =
      ap (λ xs. name ∷ (xs ++ b'.references)) first.same_references
      ∙ ap (λ ys. name ∷ (a.references ++ ys)) second.same_references;
}

pub Outlasts-refl : (a : Told) → Outlasts a a
Outlasts-refl a = record { no_fall = omega arith; same_references = refl }

pub Outlasts-trans : (a b c : Told) → Outlasts a b → Outlasts b c → Outlasts a c
Outlasts-trans a b c p q = record {
  no_fall = omega (arith, p.no_fall, q.no_fall);
  same_references = q.same_references ∙ p.same_references;
}

-- the first of two sinks refused a step
pub takes_first : (step : CertStep) (name : GName) (error : SinkError) (a a' b : Told)
    → Takes step (Err error) a a' → Takes step (Err error) (told_by_both name a b) (told_by_both name a' b)
takes_first step name error a a' b first = record {
  told = tt;
  refused = MayAddStep-append step a.logs a'.logs b.logs b.logs first.refused (MayAddStep-same step b.logs);
  over_stays = refl;
  cause = λ failed. rose_in_sum a.faults a'.faults b.faults b.faults first.outlasts.no_fall (omega arith)
      (inl (first.cause failed));
  outlasts = both_outlast name a a' b b first.outlasts (Outlasts-refl b);
}

-- the first took it, and the second was asked
pub takes_second : (step : CertStep) (name : GName) (result : Result Unit SinkError) (a a' b b' : Told)
    → Takes step (Ok tt) a a' → Takes step result b b'
    → Takes step result (told_by_both name a b) (told_by_both name a' b')
takes_second step name (Ok tt) a a' b b' first second = record {
  told = ap (λ logs. logs ++ b'.logs) first.told ∙ ap (λ logs. with_step step a.logs ++ logs) second.told
      ∙ sym (map-append (with_told step) a.logs b.logs);
  refused = tt;
  over_stays = second.over_stays;
  cause = λ failed. rose_in_sum a.faults a'.faults b.faults b'.faults first.outlasts.no_fall
      second.outlasts.no_fall (inr (second.cause failed));
  outlasts = both_outlast name a a' b b' first.outlasts second.outlasts;
}
takes_second step name (Err error) a a' b b' first second = record {
  told = tt;
  refused = both_second step a.logs a'.logs b.logs b'.logs first.told second.refused;
  over_stays = second.over_stays;
  cause = λ failed. rose_in_sum a.faults a'.faults b.faults b'.faults first.outlasts.no_fall
      second.outlasts.no_fall (inr (second.cause failed));
  outlasts = both_outlast name a a' b b' first.outlasts second.outlasts;
}
