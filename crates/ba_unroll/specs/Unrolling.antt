-- What the parts of an unrolled tree do.

use Rattle.std.specs.Prelude.{◌≡◌, ℕ, ◌+◌, zero, suc, Bool, true, false, ◌&&◌, List, [], ◌∷◌, ◌++◌, map, reverse}
use Rattle.std.specs.Global.{Vec}
use Rattle.std.specs.List.{list_all}
use Rattle.ba_code.specs.Facts.{Declared, Inside, are_inside, fits_inside, is_counted, is_operand, is_unrolled}
use Rattle.ba_code.specs.Meaning.{Setting, body_and_step, head_loop, past_bound, path_in, run_node, run_nodes, tail_loop}
use Rattle.ba_code.specs.State.{CodeExecution, operand_value}
use Rattle.ba_code.specs.declared.nodes.Node.{Node}
use Rattle.ba_code.specs.declared.nodes.Node as node
use Rattle.ba_code.specs.declared.nodes.Operand.{Operand}
use Rattle.ba_code.specs.declared.nodes.Take.{Take}
use Rattle.ba_unroll.specs.declared.turns.Parts.{Parts}
use Rattle.ba_numbers.specs.declared.ids.StmtId.{StmtId}
use Rattle.ba_tree.specs.Acts.{after_part, fork, give, then_do}
use Rattle.ba_tree.specs.declared.run.Flow.TheVariants.{Next}
use Rattle.ba_tree.specs.declared.run.Place.{Place}

-- where a part is: with these declarations, inside blocks of these labels
abbrev pub Stands : Type 0
Stands = Declared → Inside

-- what a part does, by what stays the same while it runs
abbrev pub Acts : Type 0
Acts = Setting → CodeExecution

-- the setting with this bound on iterations
abbrev pub bounded : ℕ → Setting → Setting
bounded bound g = record g { turns = bound }

-- what a node with loops does under the bound, inside these iterations
abbrev pub node_act : ℕ → List ℕ → Node → Acts
node_act bound turns node g = run_node (bounded bound g) node turns

-- what nodes with loops do under the bound, inside these iterations
abbrev pub nodes_act : ℕ → List ℕ → List Node → Acts
nodes_act bound turns nodes g = run_nodes (bounded bound g) nodes turns

-- the labels around which a node fits
abbrev pub node_inside : Node → Stands
node_inside node d = fits_inside d node

-- the labels around which nodes fit
abbrev pub all_inside : List Node → Stands
all_inside nodes d labels = are_inside labels (map (fits_inside d) nodes)

-- one part, and then another if the first doesn't leave
abbrev pub and_then : CodeExecution → CodeExecution → CodeExecution
and_then first second s = then_do (first s) (after_part second)

-- Nodes without loops are appended. They do what the part does, and fit if they are where the part is.
pub record Adds (act : Acts) (stands : Stands) (old new : List Node) : Type 0 where
  pub made : List Node
  pub is : new ≡ old ++ made
  pub runs : (g : Setting) → run_nodes g made [] ≡ act g
  pub fits : (d : Declared) (labels : List ℕ) → stands d labels ≡ true → all_inside made d labels ≡ true
  pub unrolled : list_all is_unrolled made ≡ true

-- one node of this kind is appended
pub record EndsIn (old : List Node) (kind : Node → Type 0) (new : List Node) : Type 0 where
  pub last : Node
  pub is : new ≡ old ++ last ∷ []
  pub of_kind : kind last

-- nodes with these nodes inside
pub record IsPick (turns : List ℕ) (place : Place) (take : Take) (keep : List Node) (n : Node) : Type 0 where
  pub at : Place
  pub nodes : Vec Node
  pub is : n ≡ node.Pick at take nodes
  pub path : at.path ≡ reverse (path_in turns place.path)
  pub stmt : at.stmt ≡ place.stmt
  pub counted : list_all is_counted at.path ≡ true
  pub inside : nodes.items ≡ keep

-- the node is an `If` of these parts
pub record IsIf (when : Operand) (yes no : List Node) (n : Node) : Type 0 where
  pub one : Vec Node
  pub other : Vec Node
  pub is : n ≡ node.If when one other
  pub inside_one : one.items ≡ yes
  pub inside_other : other.items ≡ no

-- the node is a block of these nodes
pub record IsBlock (label : ℕ) (body : List Node) (n : Node) : Type 0 where
  pub nodes : Vec Node
  pub is : n ≡ node.Block label nodes
  pub inside : nodes.items ≡ body

-- one after the other
abbrev pub then_act : Acts → Acts → Acts
then_act first second g = and_then (first g) (second g)

-- a part that is executed if a value isn't 0
abbrev pub if_act : Operand → Acts → Acts
if_act when act g s = fork (act g) (give Next) (operand_value s when) s

-- the run ends Beyond at this condition
abbrev pub beyond_act : StmtId → Acts
beyond_act stmt g = past_bound stmt

-- the iteration of the head after an iteration: the iteration that it begins, or in a `do` the one that it
-- ends
abbrev pub turn_of_head : Bool → ℕ → ℕ
turn_of_head true turn = turn
turn_of_head false turn = turn + 1

-- an iteration, the head after it, and the rest of the loop if the condition is true then
abbrev pub turn_act : ℕ → List ℕ → Parts → ℕ → Acts → Acts
turn_act bound turns parts turn left = then_act
    (then_act (then_act (nodes_act bound (turn ∷ turns) parts.body.now)
    (nodes_act bound (turn ∷ turns) parts.step.now))
    (nodes_act bound (turn_of_head parts.after turn ∷ turns) parts.head.now))
    (if_act parts.when left)

-- the iterations from this one on, with at most `left` of them
abbrev pub turns_act : ℕ → List ℕ → Parts → ℕ → ℕ → Acts
turns_act bound turns parts zero turn = beyond_act parts.stmt
turns_act bound turns parts (suc left) turn =
    turn_act bound turns parts turn (turns_act bound turns parts left (turn + 1))

-- a whole loop, as it is defined
abbrev pub loop_by : ℕ → List ℕ → Bool → List Node → Operand → List Node → List Node → StmtId → Acts
loop_by bound turns false head when body step stmt g = head_loop bound stmt (run_nodes (bounded bound g) head)
    (λ s. operand_value s when)
    (body_and_step (run_nodes (bounded bound g) body) (run_nodes (bounded bound g) step)) turns
loop_by bound turns true head when body step stmt g = tail_loop bound stmt (run_nodes (bounded bound g) head)
    (λ s. operand_value s when)
    (body_and_step (run_nodes (bounded bound g) body) (run_nodes (bounded bound g) step)) turns

-- what a loop does under the bound, inside these iterations
abbrev pub loop_act : ℕ → List ℕ → Parts → Acts
loop_act bound turns parts =
    loop_by bound turns parts.after parts.head.now parts.when parts.body.now parts.step.now parts.stmt

-- the parts of a loop are where the loop is
abbrev pub loop_inside : Parts → Stands
loop_inside parts d labels = is_operand d parts.when && all_inside parts.head.now d labels
    && all_inside parts.body.now d labels && all_inside parts.step.now d labels
