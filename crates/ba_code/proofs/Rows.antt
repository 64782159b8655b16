-- Nodes in a row.
use Rattle.std.proofs.Common.{◌≡◌, ℕ, Ok, Err, List, [], ◌∷◌, ◌++◌, map, refl, ◌∙◌, ap}
use Rattle.std.proofs.lemmas.List.{map-append}
use Rattle.ba_code.specs.Meaning.{Setting, in_turns, run_node, run_nodes}
use Rattle.ba_code.specs.State.{CodeState}
use Rattle.ba_code.specs.declared.nodes.Node.{Node}
use Rattle.ba_tree.specs.Acts.{EndOn, Executes, after_part, in_order, then_do}
use Rattle.ba_tree.specs.declared.run.Flow.{Flow}
use Rattle.ba_tree.specs.declared.run.Flow.TheVariants.{Next, Leaves}

module _ {S E : Type 0} where
  after-two : (e : EndOn S (Flow E)) (parts more : List (Executes S E))
      → ((s : S) → in_order (parts ++ more) s ≡ then_do (in_order parts s) (after_part (in_order more)))
      → then_do e (after_part (in_order (parts ++ more)))
      ≡ then_do (then_do e (after_part (in_order parts))) (after_part (in_order more))
  after-two (Ok Next, s) parts more same = same s
  after-two (Ok (Leaves e), s) parts more same = refl
  after-two (Err h, s) parts more same = refl

  pub in_order-append : (parts more : List (Executes S E)) (s : S)
      → in_order (parts ++ more) s ≡ then_do (in_order parts s) (after_part (in_order more))
  in_order-append [] more s = refl
  in_order-append (part ∷ parts) more s = after-two (part s) parts more (λ s. in_order-append parts more s)

  after-nothing : (e : EndOn S (Flow E)) → then_do e (after_part (in_order [])) ≡ e
  after-nothing (Ok Next, s) = refl
  after-nothing (Ok (Leaves e), s) = refl
  after-nothing (Err h, s) = refl

  pub in_order-one : (part : Executes S E) (s : S) → in_order (part ∷ []) s ≡ part s
  in_order-one part s = after-nothing (part s)

module _ (g : Setting) (turns : List ℕ) (s : CodeState) where
  pub run-none : run_nodes g [] turns s ≡ (Ok Next, s)
  unfolding run_nodes
  run-none = refl

  pub run-one : (n : Node) → run_nodes g (n ∷ []) turns s ≡ run_node g n turns s
  unfolding run_nodes
  run-one n = in_order-one (run_node g n turns) s

  pub run-append : (ns ms : List Node) → run_nodes g (ns ++ ms) turns s
      ≡ then_do (run_nodes g ns turns s) (after_part (run_nodes g ms turns))
  unfolding run_nodes
  run-append ns ms =
      ap (λ parts. in_order parts s)
      (ap (map (in_turns turns)) (map-append (run_node g) ns ms)
      ∙ map-append (in_turns turns) (map (run_node g) ns) (map (run_node g) ms))
      ∙ in_order-append (map (in_turns turns) (map (run_node g) ns)) (map (in_turns turns) (map (run_node
      g) ms)) s
