-- Ends that meet, put together.
use Rattle.std.proofs.Common.{◌≡◌, Bool, true, false, cond, ℤ, pos, Ok, Err, refl, sym, subst}
use Rattle.std.specs.Ordering.{int_eq}
use Rattle.ba_code.specs.State.{CodeState, CodeEnding, CodeAct}
use Rattle.ba_inline.specs.Ends.{Meets}
use Rattle.ba_tree.specs.Acts.{fork, give, then_do}
use Rattle.ba_tree.specs.State.{State, Ending, Act}

pub meets-then : {A B C D : Type 0} (good : A → State → B → CodeState → Type 0) (better : C → State → D →
    CodeState → Type 0)
    (x : Ending A) (y : CodeEnding B) (f : A → Act C) (h : B → CodeAct D) → Meets good x y
    → ((a : A) (s : State) (b : B) (t : CodeState) → good a s b t → Meets better (f a s) (h b t))
    → Meets better (then_do x f) (then_do y h)
meets-then good better (Ok a, s) (Ok b, t) f h met more = more a s b t met
meets-then good better (Err e, s) (Err k, t) f h met more = met
meets-then good better (Ok a, s) (Err k, t) f h met more = absurd met
meets-then good better (Err e, s) (Ok b, t) f h met more = absurd met

pub meets-from : {A B : Type 0} (good better : A → State → B → CodeState →
    Type 0) (x : Ending A) (y : CodeEnding B)
    → Meets good x y → ((a : A) (s : State) (b : B) (t : CodeState) → good a s b t → better a s b t)
    → Meets better x y
meets-from good better (Ok a, s) (Ok b, t) met more = more a s b t met
meets-from good better (Err e, s) (Err k, t) met more = met
meets-from good better (Ok a, s) (Err k, t) met more = absurd met
meets-from good better (Err e, s) (Ok b, t) met more = absurd met

pub meets-is : {A B : Type 0} (good : A → State → B → CodeState →
    Type 0) (x x' : Ending A) (y y' : CodeEnding B)
    → x ≡ x' → y ≡ y' → Meets good x' y' → Meets good x y
meets-is good x x' y y' is_x is_y met =
    subst (λ x. Meets good x y) (sym is_x) (subst (Meets good x') (sym is_y) met)

-- the part gives something else, by what it gave
pub meets-map : {A B C : Type 0} (good : A → State → B → CodeState → Type 0) (better : C → State → B →
    CodeState → Type 0)
    (g : A → C) (x : Ending A) (y : CodeEnding B) → Meets good x y
    → ((a : A) (s : State) (b : B) (t : CodeState) → good a s b t → better (g a) s b t)
    → Meets better (then_do x (λ a. give (g a))) y
meets-map good better g (Ok a, s) (Ok b, t) met more = more a s b t met
meets-map good better g (Err e, s) (Err k, t) met more = met
meets-map good better g (Ok a, s) (Err k, t) met more = absurd met
meets-map good better g (Err e, s) (Ok b, t) met more = absurd met

-- THE SAME PART in another form

pub then-give : {A B C : Type 0} (x : Ending A) (g : A → B) (f : B → Act C)
    → then_do (then_do x (λ a. give (g a))) f ≡ then_do x (λ a. f (g a))
then-give (Ok a, s) g f = refl
then-give (Err e, s) g f = refl

pub then-pair : {A B C : Type 0} (x : Ending A) (b : Act B) (f : A × B → Act C)
    → then_do (then_do x (λ y s. then_do (b s) (λ z. give (y, z)))) f ≡ then_do x (λ y s. then_do (b s) (λ
    z. f (y, z)))
then-pair (Ok y, s) b f = then-give (b s) (λ z. (y, z)) f
then-pair (Err e, s) b f = refl

pub then-assoc : {A B C : Type 0} (x : Ending A) (f : A → Act B) (g : B → Act C)
    → then_do (then_do x f) g ≡ then_do x (λ a s. then_do (f a s) g)
then-assoc (Ok a, s) f g = refl
then-assoc (Err e, s) f g = refl

pub then-nothing : {A : Type 0} (x : Ending A) → x ≡ then_do x give
then-nothing (Ok a, s) = refl
then-nothing (Err e, s) = refl

-- FORKS by the same value

pub meets-cond : {A B : Type 0} (good : A → State → B → CodeState →
    Type 0) (b : Bool) (x x' : Ending A) (y y' : CodeEnding B)
    → Meets good x y → Meets good x' y' → Meets good (cond b x x') (cond b y y')
meets-cond good true x x' y y' first second = first
meets-cond good false x x' y y' first second = second

pub meets-fork : {A B : Type 0} (good : A → State → B → CodeState →
    Type 0) (f f' : Act A) (h h' : CodeAct B) (z : ℤ)
    (s : State) (t : CodeState) → Meets good (f s) (h t) → Meets good (f' s) (h' t)
    → Meets good (fork f f' z s) (fork h h' z t)
meets-fork good f f' h h' z s t first second =
    meets-cond good (int_eq z (pos 0)) (f' s) (f s) (h' t) (h t) second first

-- what follows a part on the program's side alone
pub meets-pure : {A B C : Type 0} (good : A → State → B → CodeState → Type 0) (better : C → State → B →
    CodeState → Type 0)
    (x : Ending A) (y : CodeEnding B) (f : A → Act C) → Meets good x y
    → ((a : A) (s : State) (b : B) (t : CodeState) → good a s b t → Meets better (f a s) (Ok b, t))
    → Meets better (then_do x f) y
meets-pure good better (Ok a, s) (Ok b, t) f met more = more a s b t met
meets-pure good better (Err e, s) (Err k, t) f met more = met
meets-pure good better (Ok a, s) (Err k, t) f met more = absurd met
meets-pure good better (Err e, s) (Ok b, t) f met more = absurd met
