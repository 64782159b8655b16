-- Statements: what they leave as it was, and statements in a row.
use Rattle.std.proofs.Common.{◌≡◌, ℕ, Bool, true, false, List, ◌++◌, sym, ◌∙◌, subst}
use Rattle.ba_code.proofs.Rows.{run-append}
use Rattle.ba_code.specs.Meaning.{Setting, path_in, run_nodes}
use Rattle.ba_code.specs.State.{CodeExecution, CodeState}
use Rattle.ba_code.specs.Types.{Types}
use Rattle.ba_code.specs.declared.nodes.Node.{Node}
use Rattle.ba_inline.proofs.Ends.{meets-from, meets-then}
use Rattle.ba_inline.proofs.Joining.{joined}
use Rattle.ba_inline.proofs.Keeping.{grows-then, keeps-then, ready-after, ready-before}
use Rattle.ba_inline.specs.Declarations.{Grows}
use Rattle.ba_inline.specs.Ends.{Meets}
use Rattle.ba_inline.specs.Keeping.{Keeps, Stays}
use Rattle.ba_inline.specs.Making.{Does, Makes, Part, SameFlow}
use Rattle.ba_inline.specs.Names.{IsNaming, Names, Outside, seen, with_home}
use Rattle.ba_inline.specs.Worlds.{World, code_setting}
use Rattle.ba_inline.specs.declared.frames.Exits.{Exits}
use Rattle.ba_tree.specs.Acts.{after_part, then_do}
use Rattle.ba_tree.specs.State.{State, Execution}
use Rattle.ba_tree.specs.declared.run.Exit.{Exit}
use Rattle.ba_tree.specs.declared.run.Exit.TheVariants.{Break, Continue, Return}
use Rattle.ba_tree.specs.declared.run.Flow.{Flow}
use Rattle.ba_tree.specs.declared.run.Flow.TheVariants.{Next, Leaves}
use Rattle.ba_tree.specs.declared.run.Step.{Step}
use Rattle.ba_tree.specs.declared.tree.Program.{Program}

-- HOME counts as a name

pub naming-without : (names : Names) (home : ℕ) (d : Types) → IsNaming (with_home home names) d →
    IsNaming names d
naming-without names home d naming = record {
  apart = naming.apart.1;
  below = naming.below.1;
  arrays_apart = naming.arrays_apart;
  arrays_below = naming.arrays_below;
}

pub home-stays : (calls : Bool) (names : Names) (home : ℕ) → Outside home names.values →
    Stays calls home names.values
home-stays true names home out = out
home-stays false names home out = tt

stays-with : (calls : Bool) (names : Names) (home n : ℕ) → Stays true n (with_home home names).values
    → Stays calls n names.values
stays-with true names home n stays = stays.1
stays-with false names home n stays = tt

pub keeps-with : (calls : Bool) (names : Names) (home : ℕ) (low : Types) (t u : CodeState)
    → Keeps calls names low t u → Keeps true (with_home home names) low t u
keeps-with calls names home low t u k = record {
  variables = λ n few stays. k.variables n few (stays-with calls names home n stays);
  arrays = k.arrays;
  lengths = k.lengths;
}

-- FLOWS

pub same-flow : (exits : Exits) (home : ℕ) (t u : CodeState) (flow : Flow Exit) (way : Flow ℕ) (v : CodeState)
    → u.variables home ≡ t.variables home → SameFlow exits home u flow way v →
    SameFlow exits home t flow way v
same-flow exits home t u Next Next v same flows = flows ∙ same
same-flow exits home t u Next (Leaves l) v same flows = flows
same-flow exits home t u (Leaves exit) Next v same flows = flows
same-flow exits home t u (Leaves Break) (Leaves l) v same flows = (flows.0, flows.1 ∙ same)
same-flow exits home t u (Leaves Continue) (Leaves l) v same flows = (flows.0, flows.1 ∙ same)
same-flow exits home t u (Leaves (Return z)) (Leaves l) v same flows = flows

module _ (names : Names) (exits : Exits) (home : ℕ) (low mid : Types) (grows : Grows low mid) where
  pub does-then : (t u : CodeState) (flow : Flow Exit) (s : State) (way : Flow ℕ) (v : CodeState)
      → u.variables home ≡ t.variables home → Keeps true (with_home home names) low t u
      → Does names exits home mid u flow s way v → Does names exits home low t flow s way v
  does-then t u flow s way v same k given = record {
    flows = same-flow exits home t u flow way v same given.flows;
    sees = given.sees;
    keeps = keeps-then true true (with_home home names) low mid t u v grows k given.keeps;
  }

  -- what follows a statement
  pub after-does : (t : CodeState) (second : Execution) (rest : CodeExecution)
      → ((u : CodeState) → Keeps true (with_home home names) low t u
      → Meets (Does names exits home mid u) (second (seen names u)) (rest u))
      → (flow : Flow Exit) (s : State) (way : Flow ℕ) (u : CodeState) →
      Does names exits home low t flow s way u
      → Meets (Does names exits home low t) (after_part second flow s) (after_part rest way u)
  after-does t second rest more Next s Next u given =
      subst (λ s. Meets (Does names exits home low t) (second s) (rest u)) (sym given.sees)
      (meets-from (Does names exits home mid u) (Does names exits home low t) (second (seen names u)) (rest u)
      (more u given.keeps) (λ flow s way v then_given. does-then t u flow s way v given.flows given.keeps
      then_given))
  after-does t second rest more (Leaves exit) s (Leaves l) u given = given
  after-does t second rest more Next s (Leaves l) u given = absurd given.flows
  after-does t second rest more (Leaves exit) s Next u given = absurd given.flows

-- STATEMENTS IN A ROW

abbrev pub row_part : (World → List Step → Execution) → (World → List Step → Execution) → Part (Flow Exit)
row_part first second w back t s = then_do (first w back s) (after_part (second w back))

module _ (p : Program) (names : Names) (path : List Step) (exits : Exits) (home : ℕ)
    (first second : World → List Step → Execution) (low mid high : Types) (old out new : List Node) where
  pub makes-row : Makes p names path (λ w back t. first w back) (Does names exits home low) low mid old out
      → Makes p names path (λ w back t. second w back) (Does names exits home mid) mid high out new
      → Makes p names path (row_part first second) (Does names exits home low) low high old new
  makes-row made more = record {
    nodes = made.nodes ++ more.nodes;
    is = joined old out new made.nodes more.nodes made.is more.is;
    grows = grows-then low mid high made.grows more.grows;
    runs = λ w turns t ready.
        let back : List Step = path_in turns path in
        let g : Setting = code_setting p w in
        subst (Meets (Does names exits home low t) (row_part first second w back t (seen names t)))
        (sym (run-append g turns t made.nodes more.nodes))
        (meets-then (Does names exits home low t) (Does names exits home low t) (first w back (seen names t))
        (run_nodes g made.nodes turns t) (after_part (second w back)) (after_part (run_nodes g more.nodes
        turns))
        (made.runs w turns t (ready-before w mid high t more.grows ready))
        (after-does names exits home low mid made.grows t (second w back) (run_nodes g more.nodes turns)
        (λ u k. more.runs w turns u (ready-after w high true (with_home home names) low t u k ready))));
  }
