-- Instrumented runs of loop-free code, which note the places that they come to. These are the places at which
-- a choice is used up if everything may be relaxed.

use Rattle.std.specs.Prelude.{ℕ, ℤ, Bool, true, Option, None, Some, List, [], ◌∷◌, ◌++◌, map}
use Rattle.ba_numbers.specs.declared.ids.StmtId.{StmtId}
use Rattle.ba_choices.specs.declared.Choice.{Choice}
use Rattle.ba_code.specs.Meaning.{Setting, choice_where, flow_after_block, if_taken, node_step, past_bound, path_in, taken}
use Rattle.ba_code.specs.Operators.{converting}
use Rattle.ba_code.specs.Run.{start_of_code}
use Rattle.ba_code.specs.State.{CodeAct, CodeEnding, CodeState, operand_value}
use Rattle.ba_code.specs.declared.nodes.ArrayInfo.{ArrayInfo}
use Rattle.ba_code.specs.declared.nodes.Node.{Node}
use Rattle.ba_code.specs.declared.nodes.Node.TheOpen.{Node-F}
use Rattle.ba_code.specs.declared.nodes.Node.TheFolds.{fold-Node}
use Rattle.ba_code.specs.declared.nodes.Take.{Take}
use Rattle.ba_code.specs.declared.trees.Code.{Code}
use Rattle.ba_tree.specs.Acts.{ActOn, EndOn, Executes, fork, give, in_order, then_do}
use Rattle.ba_tree.specs.declared.run.Input.{Input}
use Rattle.ba_tree.specs.declared.run.Place.{Place}
use Rattle.ba_tree.specs.declared.run.Step.{Step}

-- the state of a run, and the places so far, in order
pub record Traced : Type 0 where
  pub code : CodeState
  pub places : List Place

-- an execution that notes the places that it comes to
abbrev pub TracedExecution : Type 0
TracedExecution = Executes Traced ℕ

-- how a part ends, with places beside it
abbrev pub with_trace : {A : Type 0} → List Place → CodeEnding A → EndOn Traced A
with_trace places (r, t) = (r, record { code = t; places = places })

-- how a part ends, without its places
abbrev pub without_trace : {A : Type 0} → EndOn Traced A → CodeEnding A
without_trace (r, t) = (r, t.code)

-- code that comes to no place
abbrev pub untraced : {A : Type 0} → CodeAct A → ActOn Traced A
untraced act s = with_trace s.places (act s.code)

-- a place is noted
abbrev pub at_place : Place → Traced → Traced
at_place place s = record s { places = s.places ++ place ∷ [] }

-- which executions may be relaxed, by the path to a statement, innermost step first
abbrev pub Relaxes : Type 0
Relaxes = List Step → StmtId → Bool

-- an execution at this place may be relaxed
abbrev pub is_relaxed : Relaxes → Place → Bool
is_relaxed relaxes place = relaxes (path_in [] place.path) place.stmt

-- an execution as written, or by the values of its choice
abbrev pub traced_picked : List ArrayInfo → Take → TracedExecution → Option (List ℤ) → TracedExecution
traced_picked arrays take keep None s = keep s
traced_picked arrays take keep (Some zs) s = untraced (λ c. if_taken (taken arrays take zs c) c) s

-- what stays the same in a run of code without loops
abbrev pub bound_setting : Relaxes → List ArrayInfo → Setting
bound_setting relaxes arrays = record {
  relaxes = relaxes;
  turns = 0;
  arrays = arrays;
  operators =
      converting;
}

-- what a node does and which places it notes, by its parts
abbrev pub trace_step : Relaxes → List ArrayInfo → Node-F TracedExecution → TracedExecution
trace_step r arrays (Node-F.Set to a) s = untraced (node_step (bound_setting r arrays) (Node-F.Set to a) []) s
trace_step r arrays (Node-F.Unary to op t a) s =
    untraced (node_step (bound_setting r arrays) (Node-F.Unary to op t a) []) s
trace_step r arrays (Node-F.Binary to op t a b stmt) s =
    untraced (node_step (bound_setting r arrays) (Node-F.Binary to op t a b stmt) []) s
trace_step r arrays (Node-F.Convert to t a) s =
    untraced (node_step (bound_setting r arrays) (Node-F.Convert to t a) []) s
trace_step r arrays (Node-F.Load to array index stmt) s =
    untraced (node_step (bound_setting r arrays) (Node-F.Load to array index stmt) []) s
trace_step r arrays (Node-F.Save array index value stmt) s =
    untraced (node_step (bound_setting r arrays) (Node-F.Save array index value stmt) []) s
trace_step r arrays (Node-F.Fill array values) s =
    untraced (node_step (bound_setting r arrays) (Node-F.Fill array values) []) s
trace_step r arrays (Node-F.Pick place take keep) s =
    then_do (untraced (choice_where (is_relaxed r place)) (at_place place s))
    (traced_picked arrays take (in_order keep.items))
trace_step r arrays (Node-F.If when a b) s =
    fork (in_order a.items) (in_order b.items) (operand_value s.code when) s
trace_step r arrays (Node-F.Block label body) s =
    then_do (in_order body.items s) (λ flow. give (flow_after_block label flow))
trace_step r arrays (Node-F.Leave label) s = untraced
    (node_step (bound_setting r arrays) (Node-F.Leave label) []) s
trace_step r arrays (Node-F.Loop after head when body step stmt) s = untraced (past_bound stmt) s
trace_step r arrays (Node-F.Assert when stmt) s =
    untraced (node_step (bound_setting r arrays) (Node-F.Assert when stmt) []) s
trace_step r arrays (Node-F.Beyond stmt) s = untraced (past_bound stmt) s

-- what a node does and which places it notes
unfoldable pub trace_node : Relaxes → List ArrayInfo → Node → TracedExecution
trace_node r arrays = fold-Node TracedExecution (trace_step r arrays)

-- what nodes do in order and which places they note
unfoldable pub trace_nodes : Relaxes → List ArrayInfo → List Node → TracedExecution
trace_nodes r arrays nodes = in_order (map (trace_node r arrays) nodes)

-- every execution may be relaxed
abbrev pub everywhere : Relaxes
everywhere path stmt = true

-- the places that the run of a program comes to, if everything may be relaxed
abbrev pub places_used : Code → Input → List Choice → List Place
places_used code input choices = (trace_nodes everywhere code.arrays code.body
    (record { code = start_of_code code input choices; places = [] })).1.places
