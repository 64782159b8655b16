-- What a part does, from what the parts do that it is made of.
use Rattle.std.proofs.Common.{◌≡◌, true, false, cond, ℤ, pos, Result, Ok, Err, sym, ap, subst}
use Rattle.std.specs.Ordering.{int_eq}
use Rattle.ba_tree.specs.Acts.{then_do, fork}
use Rattle.ba_tree.specs.State.{State, Act, Ending}
use Rattle.ba_interp.specs.Doing.{Did}
use Rattle.ba_interp.specs.declared.stop.Stop.{Stop}
use Rattle.ba_interp.specs.declared.stop.Stop.TheVariants.{Halts, Memory}

pub did-is : {A : Type 0} (r : Result A Stop) (s : State) (o p : Ending A) → o ≡ p → Did r s p → Did r s o
did-is r s o p is = subst (Did r s) (sym is)

pub did-same : {A : Type 0} (r q : Result A Stop) (s : State) (o : Ending A) → r ≡ q → Did q s o → Did r s o
did-same r q s o is = subst (λ r. Did r s o) (sym is)

-- a part that gives no value ends what follows it
pub did-end : {A B : Type 0} (r : Result B Stop) (stop : Stop) (s : State) (o : Ending A) (f : A → Act B)
    → r ≡ Err stop → Did (Err stop) s o → Did r s (then_do o f)
did-end r (Halts h) s o f is did = subst (λ r. Did r s (then_do o f)) (sym is) (ap (λ o. then_do o f) did)
did-end r Memory s o f is did = subst (λ r. Did r s (then_do o f)) (sym is) tt

-- and one that gives a value goes on with it
pub did-then : {A B : Type 0} (a : A) (r : Result B Stop) (s t : State) (o : Ending A) (f : A → Act B)
    → Did (Ok a) s o → Did r t (f a s) → Did r t (then_do o f)
did-then a r s t o f did = subst (Did r t) (sym (ap (λ o. then_do o f) did))

pub did-give : {A : Type 0} (a b : A) (s : State) → a ≡ b → Did (Ok b) s (Ok a, s)
did-give a b s is = ap (λ a. (Ok a, s)) is

-- a fork goes the one way or the other
pub fork-zero : {A : Type 0} (z : ℤ) (r : Result A Stop) (s t : State) (f g : Act A) → int_eq z (pos 0) ≡ true
    → Did r t (g s) → Did r t (fork f g z s)
fork-zero z r s t f g is = subst (Did r t) (sym (ap (λ b. cond b (g s) (f s)) is))

pub fork-other : {A : Type 0} (z : ℤ) (r : Result A Stop) (s t : State) (f g : Act A)
    → int_eq z (pos 0) ≡ false
    → Did r t (f s) → Did r t (fork f g z s)
fork-other z r s t f g is = subst (Did r t) (sym (ap (λ b. cond b (g s) (f s)) is))

-- a whole that is a part and what follows it
pub record IsThen {A B : Type 0} (whole : Ending B) (first : Ending A) (rest : A → Act B) : Type 0 where
  pub is : whole ≡ then_do first rest

module _ {A B : Type 0} {whole : Ending B} {first : Ending A} {rest : A
    → Act B} (parts : IsThen whole first rest) where
  pub then-ends : {stop : Stop} (r : Result B Stop) (t : State) → r ≡ Err stop → Did (Err stop) t first
      → Did r t whole
  then-ends {stop = stop} r t ended did = did-is r t whole (then_do first rest) parts.is (did-end r stop t
      first rest ended did)

  pub then-goes : (r : Result B Stop) (t u : State) (a : A) → Did (Ok a) t first → Did r u (rest a t)
      → Did r u whole
  then-goes r t u a did then_is = did-is r u whole (then_do first rest) parts.is (did-then a r t u first rest
      did then_is)
