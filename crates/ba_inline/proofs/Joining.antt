-- Parts and their code, one after the other.
use Rattle.std.proofs.Common.{◌≡◌, ℕ, ◌≤◌, ℤ, Bool, ◌||◌, Ok, List, [], ◌∷◌, ◌++◌, length, refl, sym, ◌∙◌, ap, subst, arith, append_assoc}
use Rattle.ba_code.proofs.Rows.{run-append}
use Rattle.ba_code.specs.Meaning.{InTurns, Setting, path_in, run_nodes}
use Rattle.ba_code.specs.State.{CodeState, CodeEnding, CodeExecution, operand_value, with_variable}
use Rattle.ba_code.specs.Types.{Types}
use Rattle.ba_code.specs.declared.nodes.Node.{Node}
use Rattle.ba_code.specs.declared.nodes.Operand.{Operand}
use Rattle.ba_code.specs.declared.nodes.Operand.TheVariants.{Const, Var}
use Rattle.ba_inline.proofs.Ends.{meets-from, meets-is, meets-map, meets-pure, meets-then}
use Rattle.ba_inline.proofs.Keeping.{grows-then, keeps-then, ready-after, ready-before}
use Rattle.ba_inline.proofs.Seeing.{at-self, at-other, outside-new, seen-outside}
use Rattle.ba_inline.specs.Declarations.{Grows}
use Rattle.ba_inline.specs.Ends.{Meets}
use Rattle.ba_inline.specs.Keeping.{Keeps, Stays}
use Rattle.ba_inline.specs.Making.{Adds, Gives, IsSettled, Makes, Part, Standing, reading}
use Rattle.ba_inline.specs.Names.{AreBelow, Names, seen}
use Rattle.ba_inline.specs.Worlds.{IsReady, World, code_setting}
use Rattle.ba_tree.specs.Acts.{after_part, give, then_do}
use Rattle.ba_tree.specs.State.{State, Act, Ending}
use Rattle.ba_tree.specs.declared.run.Flow.{Flow}
use Rattle.ba_tree.specs.declared.run.Flow.TheVariants.{Next}
use Rattle.ba_tree.specs.declared.run.Step.{Step}
use Rattle.ba_tree.specs.declared.tree.Program.{Program}

-- NODES after others

pub joined : (old mid new xs ys : List Node) → mid ≡ old ++ xs → new ≡ mid ++ ys → new ≡ old ++ (xs ++ ys)
joined old mid new xs ys first second = second ∙ ap (λ mid. mid ++ ys) first ∙ append_assoc old xs ys

-- GOING ON after a part

-- with what was given as the code's state has it, and with what the names show
pub goes-on : {A C : Type 0} (better : C → State → Flow ℕ → CodeState → Type 0) (names : Names) (calls : Bool)
    (low : Types) (read : CodeState →
    A) (t : CodeState) (x : Ending A) (y : CodeEnding (Flow ℕ)) (f : A → Act C)
    (rest : CodeExecution) → Meets (Gives names calls low read t) x y
    → ((u : CodeState) → Keeps calls names low t u → Meets better (f (read u) (seen names u)) (rest u))
    → Meets better (then_do x f) (then_do y (after_part rest))
goes-on better names calls low read t x y f rest met more =
    meets-then (Gives names calls low read t) better x y f (after_part rest) met (λ a s way u given.
    subst (λ a. Meets better (f a s) (after_part rest way u)) (sym given.reads)
    (subst (λ s. Meets better (f (read u) s) (after_part rest way u)) (sym given.sees)
    (subst (λ way. Meets better (f (read u) (seen names u)) (after_part rest way u)) (sym given.on)
    (more u given.keeps))))

-- OPERANDS that stay

pub settled-stays : (keep calls : Bool) (names : Names) (d : Types) (o : Operand) (t u : CodeState)
    → ((n : ℕ) → Stays keep n names.values → Stays calls n names.values)
    → IsSettled keep names d o → Keeps calls names d t u → operand_value u o ≡ operand_value t o
settled-stays keep calls names d (Const z) t u more settled k = refl
settled-stays keep calls names d (Var n) t u more settled k = k.variables n settled.0 (more n settled.1)

-- A FRESH VARIABLE gets a value

pub gives-fresh : (names : Names) (calls : Bool) (low : Types) (to : ℕ) (t u : CodeState) (z : ℤ) (s : State)
    → AreBelow to names.values → length low.vars ≤ to → s ≡ seen names u → Keeps calls names low t u
    → Gives names calls low (reading (Var to)) t z s Next (with_variable to z u)
gives-fresh names calls low to t u z s below fresh sees k = record {
  on = refl;
  sees = sees ∙ sym (seen-outside names u to z (outside-new to names.values below));
  reads = sym (at-self u.variables to z);
  keeps = record {
    variables = λ n few stays. at-other u.variables to n z (λ is. absurd (omega (arith, few, fresh, is)))
        ∙ k.variables n few stays;
    arrays = k.arrays;
    lengths = k.lengths;
  };
}

pub below-more : (m n : ℕ) (os : List Operand) → m ≤ n → AreBelow m os → AreBelow n os
below-more m n [] le below = tt
below-more m n (Const z ∷ os) le below = (tt, below-more m n os le below.1)
below-more m n (Var k ∷ os) le below = (omega (arith, le, below.0), below-more m n os le below.1)

-- A PART, and then nodes that are added

module _ {A C : Type 0} (p : Program) (names : Names) (path : List Step) (first : Part A) (part : Part C)
    (stands : CodeState → Standing C) (calls : Bool) (read : CodeState → A) (low mid high : Types)
    (old out new : List Node) (act : Setting → InTurns) (f : World → List Step → CodeState → A → Act C) where
  pub makes-tail : Makes p names path first (Gives names calls low read) low mid old out
      → Grows mid high → Adds out new act
      → ((w : World) (back : List Step) (t : CodeState) (s : State)
      → part w back t s ≡ then_do (first w back t s) (f w back t))
      → ((w : World) (turns : List ℕ) (t u : CodeState) → IsReady w high u → Keeps calls names low t u
      → Meets (stands t) (f w (path_in turns path) t (read u) (seen names u)) (act (code_setting p w) turns
      u))
      → Makes p names path part stands low high old new
  makes-tail made grows added whole tail = record {
    nodes = made.nodes ++ added.nodes;
    is = joined old out new made.nodes added.nodes made.is added.is;
    grows = grows-then low mid high made.grows grows;
    runs = λ w turns t ready.
        let back : List Step = path_in turns path in
        let g : Setting = code_setting p w in
        meets-is (stands t) (part w back t (seen names t)) (then_do (first w back t (seen names t)) (f w
        back t))
        (run_nodes g (made.nodes ++ added.nodes) turns t)
        (then_do (run_nodes g made.nodes turns t) (after_part (run_nodes g added.nodes turns)))
        (whole w back t (seen names t)) (run-append g turns t made.nodes added.nodes)
        (goes-on (stands t) names calls low read t (first w back t (seen names t)) (run_nodes g made.nodes
        turns t)
        (f w back t) (run_nodes g added.nodes turns)
        (made.runs w turns t (ready-before w mid high t grows ready))
        (λ u k. subst (Meets (stands t) (f w back t (read u) (seen names u))) (sym (added.runs g turns u))
        (tail w turns t u (ready-after w high calls names low t u k ready) k)));
  }

-- TWO PARTS that give something, the second as wherever the first ends

abbrev pub both_part : {A B : Type 0} → (World → List Step → Act A) → (World → List Step → Act B) →
    Part (A × B)
both_part first second w back t s = then_do (first w back s) (λ a s. then_do (second w back s) (λ b. give
    (a, b)))

module _ {A B : Type 0} (p : Program) (names : Names) (path : List Step) (first : World → List Step → Act A)
    (second : World → List Step → Act B) (c d : Bool) (read : CodeState → A) (again : CodeState → B)
    (low mid high : Types) (old out new : List Node) where
  pub makes-both : Makes p names path (λ w back t. first w back) (Gives names c low read) low mid old out
      → Makes p names path (λ w back t. second w back) (Gives names d mid again) mid high out new
      → ((u v : CodeState) → Keeps d names mid u v → read v ≡ read u)
      → Makes p names path (both_part first second) (Gives names (c || d) low (λ u. (read u, again u))) low
      high old new
  makes-both made then_made stays = record {
    nodes = made.nodes ++ then_made.nodes;
    is = joined old out new made.nodes then_made.nodes made.is then_made.is;
    grows = grows-then low mid high made.grows then_made.grows;
    runs = λ w turns t ready.
        let back : List Step = path_in turns path in
        let g : Setting = code_setting p w in
        subst (Meets (Gives names (c || d) low (λ u. (read u, again u)) t) (both_part first second w back t
        (seen names t)))
        (sym (run-append g turns t made.nodes then_made.nodes))
        (goes-on (Gives names (c || d) low (λ u. (read u, again u)) t) names c low read t (first w back
        (seen names t))
        (run_nodes g made.nodes turns t) (λ a s. then_do (second w back s) (λ b. give (a, b)))
        (run_nodes g then_made.nodes turns) (made.runs w turns t (ready-before w mid high t then_made.grows
        ready))
        (λ u k. meets-map (Gives names d mid again u) (Gives names (c || d) low (λ u. (read u, again u)) t)
        (λ b. (read u, b)) (second w back (seen names u)) (run_nodes g then_made.nodes turns u)
        (then_made.runs w turns u (ready-after w high c names low t u k ready))
        (λ b s way v given. record {
          on = given.on;
          sees = given.sees;
          reads = ap (λ b. (read u, b)) given.reads ∙ ap (λ a. (a, again v)) (sym (stays u v given.keeps));
          keeps = keeps-then c d names low mid t u v made.grows k given.keeps;
        })));
  }

-- THE SAME PART in another form

pub makes-as : {A : Type 0} (p : Program) (names : Names) (path : List Step) (part other : Part A)
    (stands : CodeState → Standing A) (low high : Types) (old new : List Node)
    → ((w : World) (back : List Step) (t : CodeState) (s : State) → part w back t s ≡ other w back t s)
    → Makes p names path other stands low high old new → Makes p names path part stands low high old new
makes-as p names path part other stands low high old new same made = record {
  nodes = made.nodes;
  is = made.is;
  grows = made.grows;
  runs = λ w turns t ready. subst
      (λ end. Meets (stands t) end (run_nodes (code_setting p w) made.nodes turns t))
      (sym (same w (path_in turns path) t (seen names t))) (made.runs w turns t ready);
}

-- A PART that is in another way, with earlier declarations, or that goes on in the program alone

pub makes-weaker : {A : Type 0} (p : Program) (names : Names) (path : List Step) (part : Part A)
    (stands weaker : CodeState → Standing A) (low from high : Types) (old new : List Node) → Grows low from
    → ((t : CodeState) (a : A) (s : State) (way : Flow ℕ) (u : CodeState) → stands t a s way u →
    weaker t a s way u)
    → Makes p names path part stands from high old new → Makes p names path part weaker low high old new
makes-weaker p names path part stands weaker low from high old new grows more made = record {
  nodes = made.nodes;
  is = made.is;
  grows = grows-then low from high grows made.grows;
  runs = λ w turns t ready. meets-from (stands t) (weaker t) (part w (path_in turns path) t (seen names t))
      (run_nodes (code_setting p w) made.nodes turns t) (made.runs w turns t ready) (more t);
}

pub makes-pure : {A C : Type 0} (p : Program) (names : Names) (path : List Step) (first : Part A) (part :
    Part C)
    (stands : CodeState → Standing A) (stands' : CodeState →
    Standing C) (low high : Types) (old new : List Node)
    (f : World → List Step → A → Act C)
    → ((w : World) (back : List Step) (t : CodeState) (s : State)
    → part w back t s ≡ then_do (first w back t s) (f w back))
    → ((w : World) (back : List Step) (t : CodeState) (a : A) (s : State) (way : Flow ℕ) (u : CodeState)
    → stands t a s way u → Meets (stands' t) (f w back a s) (Ok way, u))
    → Makes p names path first stands low high old new → Makes p names path part stands' low high old new
makes-pure p names path first part stands stands' low high old new f whole more made = record {
  nodes = made.nodes;
  is = made.is;
  grows = made.grows;
  runs = λ w turns t ready.
      let back : List Step = path_in turns path in
      subst (λ end. Meets (stands' t) end (run_nodes (code_setting p w) made.nodes turns t))
      (sym (whole w back t (seen names t)))
      (meets-pure (stands t) (stands' t) (first w back t (seen names t))
      (run_nodes (code_setting p w) made.nodes turns t) (f w back) (made.runs w turns t ready) (more w back
      t));
}

-- A PART, and then a node that is added, whatever the part gives

pub makes-added : {A C : Type 0} (p : Program) (names : Names) (path : List Step) (first : Part A) (part :
    Part C)
    (stands : CodeState → Standing A) (stands' : CodeState → Standing C) (low mid high : Types)
    (old out new : List Node) (act : Setting → InTurns) (f : World → List Step → A → Act C)
    → Makes p names path first stands low mid old out → Grows mid high → Adds out new act
    → ((w : World) (back : List Step) (t : CodeState) (s : State)
    → part w back t s ≡ then_do (first w back t s) (f w back))
    → ((w : World) (turns : List ℕ) (t : CodeState) (a : A) (s : State) (way : Flow ℕ) (u : CodeState)
    → stands t a s way u
    → Meets (stands' t) (f w (path_in turns path) a s) (after_part (act (code_setting p w) turns) way u))
    → Makes p names path part stands' low high old new
makes-added p names path first part stands stands' low mid high old out new act f made grows added whole
    tail = record {
      nodes = made.nodes ++ added.nodes;
      is = joined old out new made.nodes added.nodes made.is added.is;
      grows = grows-then low mid high made.grows grows;
      runs = λ w turns t ready.
          let back : List Step = path_in turns path in
          let g : Setting = code_setting p w in
          let nodes : CodeExecution = run_nodes g added.nodes turns in
          meets-is (stands' t) (part w back t (seen names t))
          (then_do (first w back t (seen names t)) (f w back))
          (run_nodes g (made.nodes ++ added.nodes) turns t)
          (then_do (run_nodes g made.nodes turns t) (after_part (act g turns)))
          (whole w back t (seen names t))
          (run-append g turns t made.nodes added.nodes
          ∙ ap (λ (h : CodeExecution). then_do (run_nodes g made.nodes turns t) (after_part h)) (λ i u.
          added.runs g turns u i))
          (meets-then (stands t) (stands' t) (first w back t (seen names t)) (run_nodes g made.nodes turns t)
          (f w back)
          (after_part (act g turns)) (made.runs w turns t (ready-before w mid high t grows ready))
          (λ a s way u given. tail w turns t a s way u given));
    }
