-- A run that notes its places is the run.
use Rattle.std.proofs.Common.{◌≡◌, ℕ, ℤ, pos, Bool, true, false, cond, Option, None, Some, Ok, Err, List, [], ◌∷◌, map, refl, sym, ◌∙◌, ap, subst}
use Rattle.std.proofs.lemmas.Bool.{and_parts}
use Rattle.std.specs.List.{list_all}
use Rattle.std.specs.Ordering.{int_eq}
use Rattle.ba_code.specs.Facts.{is_counted, is_unrolled, unrolled_step}
use Rattle.ba_code.specs.Meaning.{InTurns, Setting, as_picked, choice_where, flow_after_block, if_taken, node_step, nodes_in_order, run_node, run_nodes, taken}
use Rattle.ba_code.specs.Operators.{converting}
use Rattle.ba_code.specs.State.{CodeAct, CodeEnding, CodeExecution, CodeState, operand_value}
use Rattle.ba_code.specs.declared.nodes.ArrayInfo.{ArrayInfo}
use Rattle.ba_code.specs.declared.nodes.Node.{Node}
use Rattle.ba_code.specs.declared.nodes.Node.TheOpen.{Node-F}
use Rattle.ba_code.specs.declared.nodes.Node.TheFolds.{fold-roll-Node, ind-Node, map-Node}
use Rattle.ba_code.specs.declared.nodes.Node.TheViews.{roll-Node}
use Rattle.ba_code.specs.declared.nodes.Take as code
use Rattle.ba_code_laws.specs.Tracing.{Relaxes, Traced, TracedExecution, at_place, is_relaxed, trace_node, trace_nodes, trace_step, traced_picked, untraced, with_trace, without_trace}
use Rattle.ba_tree.specs.Acts.{ActOn, EndOn, after_part, fork, give, in_order, then_do}
use Rattle.ba_tree.specs.declared.run.Flow.{Flow}
use Rattle.ba_tree.specs.declared.run.Flow.TheVariants.{Next, Leaves}
use Rattle.ba_tree.specs.declared.run.Place.{Place}

-- the part does what the other does, whatever places were come to
pub record Erases {A : Type 0} (f : ActOn Traced A) (h : CodeAct A) : Type 0 where
  pub same : (s : Traced) → without_trace (f s) ≡ h s.code

without-with : {A : Type 0} (places : List Place) (e : CodeEnding A) → without_trace (with_trace places e) ≡ e
without-with places (r, t) = refl

erases-untraced : {A : Type 0} (h : CodeAct A) → Erases (untraced h) h
erases-untraced h = record { same = λ s. without-with s.places (h s.code) }

then-erased : {A B : Type 0} (e : EndOn Traced A) (f : A → ActOn Traced B) (h : A → CodeAct B)
    → ((a : A) → Erases (f a) (h a)) → without_trace (then_do e f) ≡ then_do (without_trace e) h
then-erased (Ok a, s) f h both = (both a).same s
then-erased (Err x, s) f h both = refl

erases-then : {A B : Type 0} (f : ActOn Traced A) (h : CodeAct A) (f' : A → ActOn Traced B) (h' : A →
    CodeAct B)
    → Erases f h → ((a : A) → Erases (f' a) (h' a)) → Erases (λ s. then_do (f s) f') (λ s. then_do (h s) h')
erases-then f h f' h' first second = record {
  same = λ s. then-erased (f s) f' h' second ∙ ap (λ e. then_do e h') (first.same s);
}

erases-after : (f : TracedExecution) (h : CodeExecution) → Erases f h → (flow : Flow ℕ)
    → Erases (after_part f flow) (after_part h flow)
erases-after f h both Next = both
erases-after f h both (Leaves l) = record { same = λ s. refl }

either-erased : {A : Type 0} (b : Bool) (x y : EndOn Traced A) (x' y' : CodeEnding A) → without_trace x ≡ x'
    → without_trace y ≡ y' → without_trace (cond b x y) ≡ cond b x' y'
either-erased true x y x' y' h k = h
either-erased false x y x' y' h k = k

erases-fork : (f f' : TracedExecution) (h h' : CodeExecution) (z : CodeState → ℤ) → Erases f h → Erases f' h'
    → Erases (λ s. fork f f' (z s.code) s) (λ s. fork h h' (z s) s)
erases-fork f f' h h' z first second = record {
  same = λ s. either-erased (int_eq (z s.code) (pos 0)) (f' s) (f s) (h' s.code) (h s.code) (second.same s)
      (first.same s);
}

erases-picked : (arrays : List ArrayInfo) (take : code.Take) (f : TracedExecution) (h : CodeExecution) →
    Erases f h
    → (o : Option (List ℤ)) → Erases (traced_picked arrays take f o) (as_picked arrays take h o)
erases-picked arrays take f h both None = both
erases-picked arrays take f h both (Some zs) = erases-untraced (λ s. if_taken (taken arrays take zs s) s)

module _ (r : Relaxes) (arrays : List ArrayInfo) (bound : ℕ) where
  abbrev setting : Setting
  setting = record { relaxes = r; turns = bound; arrays = arrays; operators = converting }

  abbrev ErasesNode : Node → Type 0
  ErasesNode n = is_unrolled n ≡ true → Erases (trace_node r arrays n) (run_node setting n [])

  abbrev InnerNode : Type 0
  InnerNode = (n : Node) × ErasesNode n

  abbrev bare_node : Node-F InnerNode → Node-F Node
  bare_node = map-Node InnerNode Node (λ n. n.0)

  abbrev traced_in : Node-F Node → TracedExecution
  traced_in n = trace_step r arrays (map-Node Node TracedExecution (trace_node r arrays) n)

  abbrev run_in : Node-F Node → InTurns
  run_in n = node_step setting (map-Node Node InTurns (run_node setting) n)

  abbrev unrolled_in : Node-F Node → Bool
  unrolled_in n = unrolled_step (map-Node Node Bool is_unrolled n)

  abbrev bare : List InnerNode → List Node
  bare items = map (λ n. n.0) items

  abbrev are_unrolled : List InnerNode → Bool
  are_unrolled items = list_all (λ b. b) (map is_unrolled (bare items))

  rows-erased : (items : List InnerNode) → are_unrolled items ≡ true
      → Erases (in_order (map (trace_node r arrays) (bare items)))
      (nodes_in_order [] (map (run_node setting) (bare items)))
  rows-erased [] h = record { same = λ s. refl }
  rows-erased (n ∷ items) h =
      let both = and_parts (is_unrolled n.0) (are_unrolled items) h in
      erases-then (trace_node r arrays n.0) (run_node setting n.0 [])
      (after_part (in_order (map (trace_node r arrays) (bare items))))
      (after_part (nodes_in_order [] (map (run_node setting) (bare items)))) (n.1 both.0)
      (erases-after (in_order (map (trace_node r arrays) (bare items)))
      (nodes_in_order [] (map (run_node setting) (bare items))) (rows-erased items both.1))

  node-form : (y : Node-F InnerNode) → unrolled_in (bare_node y) ≡ true
      → Erases (traced_in (bare_node y)) (run_in (bare_node y) [])
  node-form (Node-F.Set to a) h = erases-untraced (run_in (Node-F.Set to a) [])
  node-form (Node-F.Unary to op t a) h = erases-untraced (run_in (Node-F.Unary to op t a) [])
  node-form (Node-F.Binary to op t a b stmt) h = erases-untraced (run_in (Node-F.Binary to op t a b stmt) [])
  node-form (Node-F.Convert to t a) h = erases-untraced (run_in (Node-F.Convert to t a) [])
  node-form (Node-F.Load to array index stmt) h =
      erases-untraced (run_in (Node-F.Load to array index stmt) [])
  node-form (Node-F.Save array index value stmt) h =
      erases-untraced (run_in (Node-F.Save array index value stmt) [])
  node-form (Node-F.Fill array values) h = erases-untraced (run_in (Node-F.Fill array values) [])
  node-form (Node-F.Pick place take keep) h =
      let both = and_parts (list_all is_counted place.path) (are_unrolled keep.items) h in
      erases-then (λ s. untraced (choice_where (is_relaxed r place)) (at_place place s))
      (choice_where (is_relaxed r place))
      (traced_picked arrays take (in_order (map (trace_node r arrays) (bare keep.items))))
      (as_picked arrays take (nodes_in_order [] (map (run_node setting) (bare keep.items))))
      (record {
        same = λ s. without-with (at_place place s).places
            (choice_where (is_relaxed r place) s.code);
      })
      (erases-picked arrays take (in_order (map (trace_node r arrays) (bare keep.items)))
      (nodes_in_order [] (map (run_node setting) (bare keep.items))) (rows-erased keep.items both.1))
  node-form (Node-F.If when a b) h =
      let both = and_parts (are_unrolled a.items) (are_unrolled b.items) h in
      erases-fork (in_order (map (trace_node r arrays) (bare a.items)))
      (in_order (map (trace_node r arrays) (bare b.items)))
      (nodes_in_order [] (map (run_node setting) (bare a.items)))
      (nodes_in_order [] (map (run_node setting) (bare b.items)))
      (λ c. operand_value c when) (rows-erased a.items both.0) (rows-erased b.items both.1)
  node-form (Node-F.Block label body) h =
      erases-then (in_order (map (trace_node r arrays) (bare body.items)))
      (nodes_in_order [] (map (run_node setting) (bare body.items)))
      (λ flow. give (flow_after_block label flow))
      (λ flow. give (flow_after_block label flow)) (rows-erased body.items h)
      (λ flow. record { same = λ s. refl })
  node-form (Node-F.Leave label) h = erases-untraced (run_in (Node-F.Leave label) [])
  node-form (Node-F.Loop after head when body step stmt) h = absurd (cc)
  node-form (Node-F.Assert when stmt) h = erases-untraced (run_in (Node-F.Assert when stmt) [])
  node-form (Node-F.Beyond stmt) h = erases-untraced (run_in (Node-F.Beyond stmt) [])

  node-layer : (y : Node-F InnerNode) → ErasesNode (roll-Node (bare_node y))
  unfolding trace_node run_node is_unrolled
  node-layer y unrolled =
      let h : unrolled_in (bare_node y) ≡ true = sym (fold-roll-Node Bool unrolled_step (bare_node y))
      ∙ unrolled in
      let both : Erases (traced_in (bare_node y)) (run_in (bare_node y) []) = node-form y h in record {
        same = λ s.
            ap (λ (f : TracedExecution). without_trace (f s))
            (fold-roll-Node TracedExecution (trace_step r arrays) (bare_node y))
            ∙ both.same s
            ∙ sym (ap (λ (f : InTurns). f [] s.code) (fold-roll-Node InTurns (node_step setting)
            (bare_node y)));
      }

  erases-node : (n : Node) → ErasesNode n
  erases-node = ind-Node ErasesNode (λ n y is. subst (λ n. ErasesNode (roll-Node n)) is (node-layer y))

  pub erases-nodes : (nodes : List Node) → list_all is_unrolled nodes ≡ true
      → Erases (trace_nodes r arrays nodes) (run_nodes setting nodes [])
  unfolding trace_nodes run_nodes
  erases-nodes [] h = record { same = λ s. refl }
  erases-nodes (n ∷ nodes) h =
      let both = and_parts (is_unrolled n) (list_all is_unrolled nodes) h in
      erases-then (trace_node r arrays n) (run_node setting n []) (after_part (trace_nodes r arrays nodes))
      (after_part (run_nodes setting nodes [])) (erases-node n both.0)
      (erases-after (trace_nodes r arrays nodes) (run_nodes setting nodes []) (erases-nodes nodes both.1))
