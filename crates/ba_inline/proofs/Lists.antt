-- The code of values and of arguments in a row.
use Rattle.std.proofs.Common.{◌≡◌, ℕ, ◌≤◌, ℤ, Bool, ◌||◌, Ok, Err, List, [], ◌∷◌, ◌++◌, map, length, refl, sym, ◌∙◌, ap, subst, arith, append-nil}
use Rattle.std.proofs.lemmas.List.{map-append}
use Rattle.ba_code.proofs.Rows.{run-none}
use Rattle.ba_code.specs.State.{CodeState, operand_value}
use Rattle.ba_code.specs.Types.{Types}
use Rattle.ba_code.specs.declared.nodes.Node.{Node}
use Rattle.ba_code.specs.declared.nodes.Operand.{Operand}
use Rattle.ba_code.specs.declared.nodes.Operand.TheVariants.{Const, Var}
use Rattle.ba_inline.proofs.Ends.{then-give}
use Rattle.ba_inline.proofs.Joining.{both_part, makes-both, makes-pure, settled-stays}
use Rattle.ba_inline.proofs.Keeping.{grows-same, keeps-same}
use Rattle.ba_inline.specs.Ends.{Meets}
use Rattle.ba_inline.specs.Keeping.{Keeps, Stays}
use Rattle.ba_inline.specs.Making.{AreGiven, AreSettled, Gives, IsGiven, IsSettled, Makes, MakesArguments, MakesValue, MakesValues, argument_in, reading, reading_all, reading_arguments}
use Rattle.ba_inline.specs.Names.{Names, seen}
use Rattle.ba_inline.specs.Worlds.{World, code_setting}
use Rattle.ba_inline.specs.declared.frames.Given.{Given}
use Rattle.ba_inline.specs.declared.frames.Given.TheVariants as given
use Rattle.ba_tree.specs.Acts.{each, give, then_do}
use Rattle.ba_tree.specs.State.{State, Act, Ending}
use Rattle.ba_tree.specs.declared.run.Argument.{Argument}
use Rattle.ba_tree.specs.declared.run.Step.{Step}
use Rattle.ba_tree.specs.declared.tree.Program.{Program}

-- EACH of a list, and one more

abbrev one_more : {A : Type 0} → Act A → List A → Act (List A)
one_more part list s = then_do (part s) (λ a. give (list ++ a ∷ []))

-- an item before the others, and one after them
end-more : {A : Type 0} (a : A) (x : Ending A) (list : List A)
    → then_do (then_do x (λ b. give (list ++ b ∷ []))) (λ list. give (a ∷ list)) ≡ then_do x (λ b. give (a
    ∷ (list ++ b ∷ [])))
end-more a (Ok b, s) list = refl
end-more a (Err h, s) list = refl

rest-more : {A : Type 0} (a : A) (y : Ending (List A)) (part : Act A)
    → then_do (then_do y (one_more part)) (λ list. give (a ∷ list))
    ≡ then_do (then_do y (λ list. give (a ∷ list))) (one_more part)
rest-more a (Ok list, s) part = end-more a (part s) list
rest-more a (Err h, s) part = refl

cons-more : {A : Type 0} (x : Ending A) (others : Act (List A)) (part : Act A) (more : Act (List A))
    → ((s : State) → more s ≡ then_do (others s) (one_more part))
    → then_do x (λ a s. then_do (more s) (λ list. give (a ∷ list)))
    ≡ then_do (then_do x (λ a s. then_do (others s) (λ list. give (a ∷ list)))) (one_more part)
cons-more (Ok a, s) others part more same =
    ap (λ e. then_do e (λ list. give (a ∷ list))) (same s) ∙ rest-more a (others s) part
cons-more (Err h, s) others part more same = refl

single-more : {A : Type 0} (x : Ending A)
    → then_do x (λ a s. then_do (each [] s) (λ rest s. (Ok (a ∷ rest), s))) ≡ then_do x (λ a. give (a ∷ []))
single-more (Ok a, s) = refl
single-more (Err h, s) = refl

pub each-more : {X A : Type 0} (f : X → Act A) (xs : List X) (x : X) (s : State)
    → each (map f (xs ++ x ∷ [])) s ≡ then_do (each (map f xs) s) (one_more (f x))
each-more f [] x s = single-more (f x s)
each-more f (y ∷ ys) x s =
    cons-more (f y s) (each (map f ys)) (f x) (each (map f (ys ++ x ∷ []))) (λ s. each-more f ys x s)

-- STAYING

settled-later : (keep : Bool) (names : Names) (mid high : Types) (o : Operand) →
    length mid.vars ≤ length high.vars
    → IsSettled keep names mid o → IsSettled keep names high o
settled-later keep names mid high (Const z) le settled = tt
settled-later keep names mid high (Var n) le settled = (omega (arith, le, settled.0), settled.1)

all-settled-later : (keep : Bool) (names : Names) (mid high : Types) (os : List Operand) →
    length mid.vars ≤ length high.vars
    → AreSettled keep names mid os → AreSettled keep names high os
all-settled-later keep names mid high [] le settled = tt
all-settled-later keep names mid high (o ∷ os) le settled =
    (settled-later keep names mid high o le settled.0, all-settled-later keep names mid high os le settled.1)

settled-push : (keep : Bool) (names : Names) (d : Types) (os : List Operand) (o : Operand) →
    AreSettled keep names d os
    → IsSettled keep names d o → AreSettled keep names d (os ++ o ∷ [])
settled-push keep names d [] o settled one = (one, tt)
settled-push keep names d (q ∷ os) o settled one = (settled.0, settled-push keep names d os o settled.1 one)

all-stay : (keep calls : Bool) (names : Names) (d : Types) (os : List Operand) (t u : CodeState)
    → ((n : ℕ) → Stays keep n names.values → Stays calls n names.values)
    → AreSettled keep names d os → Keeps calls names d t u → reading_all os u ≡ reading_all os t
all-stay keep calls names d [] t u more settled k = refl
all-stay keep calls names d (o ∷ os) t u more settled k =
    ap (λ z. z ∷ reading_all os u) (settled-stays keep calls names d o t u more settled.0 k)
    ∙ ap (λ zs. operand_value t o ∷ zs) (all-stay keep calls names d os t u more settled.1 k)

given-later : (keep : Bool) (names : Names) (mid high : Types) (gs : List Given) →
    length mid.vars ≤ length high.vars
    → AreGiven keep names mid gs → AreGiven keep names high gs
given-later keep names mid high [] le settled = tt
given-later keep names mid high (given.Value o ∷ gs) le settled =
    (settled-later keep names mid high o le settled.0, given-later keep names mid high gs le settled.1)
given-later keep names mid high (given.Array l ∷ gs) le settled = (
  tt,
  given-later keep names mid high gs
      le settled.1,
)

given-push : (keep : Bool) (names : Names) (d : Types) (gs : List Given) (g : Given) →
    AreGiven keep names d gs
    → IsGiven keep names d g → AreGiven keep names d (gs ++ g ∷ [])
given-push keep names d [] g settled one = (one, tt)
given-push keep names d (q ∷ gs) g settled one = (settled.0, given-push keep names d gs g settled.1 one)

argument-stays : (keep calls : Bool) (names : Names) (d : Types) (g : Given) (t u : CodeState)
    → ((n : ℕ) → Stays keep n names.values → Stays calls n names.values)
    → IsGiven keep names d g → Keeps calls names d t u → argument_in u g ≡ argument_in t g
argument-stays keep calls names d (given.Value o) t u more settled k =
    ap Argument.Value (settled-stays keep calls names d o t u more settled k)
argument-stays keep calls names d (given.Array l) t u more settled k = refl

pub arguments-stay : (keep calls : Bool) (names : Names) (d : Types) (gs : List Given) (t u : CodeState)
    → ((n : ℕ) → Stays keep n names.values → Stays calls n names.values)
    → AreGiven keep names d gs → Keeps calls names d t u → reading_arguments gs u ≡ reading_arguments gs t
arguments-stay keep calls names d [] t u more settled k = refl
arguments-stay keep calls names d (g ∷ gs) t u more settled k =
    ap (λ z. z ∷ reading_arguments gs u) (argument-stays keep calls names d g t u more settled.0 k)
    ∙ ap (λ zs. argument_in t g ∷ zs) (arguments-stay keep calls names d gs t u more settled.1 k)

-- ROWS

abbrev each_part : {X A : Type 0} → (World → List Step → X → Act A) → List X → World → List Step →
    Act (List A)
each_part f xs w back = each (map (f w back) xs)

two-more : {A : Type 0} (x : Ending (List A)) (part : Act A)
    → then_do (then_do x (λ list s. then_do (part s) (λ a. give (list, a)))) (λ (list, a). give (list ++ a
    ∷ []))
    ≡ then_do x (one_more part)
two-more (Ok list, s) part = then-give (part s) (λ a. (list, a)) (λ (list, a). give (list ++ a ∷ []))
two-more (Err h, s) part = refl

module _ {X A : Type 0} (p : Program) (names : Names) (path : List Step) (f : World → List Step → X →
    Act A) where
  none-made : (read : CodeState → List A) (calls : Bool) (d : Types) (old : List Node) →
      ((t : CodeState) → read t ≡ [])
      → Makes p names path (λ w back t. each_part f [] w back) (Gives names calls d read) d d old old
  none-made read calls d old empty = record {
    nodes = [];
    is = sym (append-nil old);
    grows = grows-same d;
    runs = λ w turns t ready. subst (Meets (Gives names calls d read t) (Ok [], seen names t))
        (sym (run-none (code_setting p w) turns t))
        (record { on = refl; sees = refl; reads = sym (empty t); keeps = keeps-same calls names d t });
  }

  module _ (xs : List X) (x : X) (c d : Bool) (read again : CodeState → List A) (one : CodeState → A)
      (low mid high : Types) (old out new : List Node) where
    more-made : Makes p names path (λ w back t. each_part f xs w back) (Gives names c low read) low mid old
        out
        → Makes p names path (λ w back t. f w back x) (Gives names d mid one) mid high out new
        → ((u v : CodeState) → Keeps d names mid u v → read v ≡ read u)
        → ((u : CodeState) → again u ≡ read u ++ one u ∷ [])
        → Makes p names path (λ w back t. each_part f (xs ++ x ∷ []) w back) (Gives names (c || d) low
        again) low high old new
    more-made made then_made stays joined = makes-pure p names path (both_part (each_part f xs) (λ w back.
        f w back x))
        (λ w back t. each_part f (xs ++ x ∷ []) w back) (Gives names (c || d) low (λ u. (read u, one u)))
        (Gives names (c || d) low again) low high old new
        (λ w back (list, a). give (list ++ a ∷ []))
        (λ w back t s. each-more (f w back) xs x s
        ∙ sym (two-more (each (map (f w back) xs) s) (f w back x)))
        (λ w back t list s way u given. record {
          on = given.on;
          sees = given.sees;
          reads = ap (λ (list : List A × A). list.0 ++ list.1 ∷ []) given.reads ∙ sym (joined u);
          keeps = given.keeps;
        })
        (makes-both p names path (each_part f xs) (λ w back. f w back x) c d read one low mid high old out
        new made then_made stays)

-- VALUES AND ARGUMENTS

module _ (p : Program) (names : Names) (path : List Step) where
  pub makes-no-values : {X : Type 0} (f : World → List Step → X →
      Act ℤ) (keep calls : Bool) (d : Types) (old : List Node)
      → MakesValues p names path (λ w back t. each_part f [] w back) calls keep [] d d old old
  makes-no-values f keep calls d old = record {
    settled = tt;
    makes = none-made p names path f (reading_all []) calls d old (λ t. refl);
  }

  pub makes-more-values : {X : Type 0} (f : World → List Step → X →
      Act ℤ) (xs : List X) (x : X) (c d keep : Bool)
      (os : List Operand) (o : Operand) (low mid high : Types) (old out new : List Node)
      → ((n : ℕ) → Stays keep n names.values → Stays d n names.values)
      → MakesValues p names path (λ w back t. each_part f xs w back) c keep os low mid old out
      → MakesValue p names path (λ w back t. f w back x) d keep o mid high out new
      → MakesValues p names path (λ w back t. each_part f (xs ++ x ∷ []) w back) (c || d) keep (os ++ o ∷
      []) low high old new
  makes-more-values f xs x c d keep os o low mid high old out new more made one = record {
    settled = settled-push keep names high os o
        (all-settled-later keep names mid high os one.makes.grows.vars made.settled) one.settled;
    makes = more-made p names path f xs x c d (reading_all os) (reading_all (os ++ o ∷ [])) (reading o) low
        mid high
        old out new made.makes one.makes (λ u v k. all-stay keep d names mid os u v more made.settled k)
        (λ u. map-append (operand_value u) os (o ∷ []));
  }

  pub makes-no-arguments : {X : Type 0} (f : World → List Step → X →
      Act Argument) (keep calls : Bool) (d : Types)
      (old : List Node) →
      MakesArguments p names path (λ w back t. each_part f [] w back) calls keep [] d d old old
  makes-no-arguments f keep calls d old = record {
    given = tt;
    makes = none-made p names path f (reading_arguments []) calls d old (λ t. refl);
  }

  pub makes-more-arguments : {X : Type 0} (f : World → List Step → X →
      Act Argument) (xs : List X) (x : X) (c d keep : Bool)
      (gs : List Given) (g : Given) (low mid high : Types) (old out new : List Node)
      → ((n : ℕ) → Stays keep n names.values → Stays d n names.values)
      → MakesArguments p names path (λ w back t. each_part f xs w back) c keep gs low mid old out
      → IsGiven keep names high g
      → Makes p names path (λ w back t. f w back x) (Gives names d mid (λ u. argument_in u g)) mid high out
      new
      → MakesArguments p names path (λ w back t. each_part f (xs ++ x ∷ []) w back) (c || d) keep (gs ++ g
      ∷ []) low high old new
  makes-more-arguments f xs x c d keep gs g low mid high old out new more made one then_made = record {
    given = given-push keep names high gs g (given-later keep names mid high gs then_made.grows.vars
        made.given) one;
    makes = more-made p names path f xs x c d (reading_arguments gs) (reading_arguments (gs ++ g ∷ []))
        (λ u. argument_in u g) low mid high old out new made.makes then_made
        (λ u v k. arguments-stay keep d names mid gs u v more made.given k)
        (λ u. map-append (argument_in u) gs (g ∷ []));
  }
