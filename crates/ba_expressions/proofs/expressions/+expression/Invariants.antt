-- What was walked over so far, with what is left, is the whole.
use Rattle.std.proofs.Common.{◌≡◌, List, option_map, map, drop}
use Rattle.std.specs.Borrow.{Bor}
use Rattle.ba_typing.specs.Expressions.{Typed, TypedArg, after_chains, params_of_called, typed_args, typed_arguments, typed_chain, typed_next, typed_operand, whole_operand}
use Rattle.ba_expressions.specs.Inferring.{Stands}
use Rattle.ba_typing.specs.declared.meanings.Signature.{Signature}
use Rattle.ba_expressions.proofs.ArgumentSteps.{Looked}
use Rattle.ba_expressions.proofs.expressions.+expression.Given as goal

abbrev pub invariant-operand-loop-c : goal.invariant-operand-loop-c
invariant-operand-loop-c l = (s : Typed) × Stands l.left s l.fn.tally l.tally
    × (after_chains l.scope l.fn.tally.calls s (map typed_chain (drop l.c-index l.c-items))
    ≡ whole_operand (typed_operand l.o) l.scope l.fn.tally.calls)

abbrev pub invariant-arguments-loop-next : goal.invariant-arguments-loop-next
invariant-arguments-loop-next l =
    let params = params_of_called (option_map (λ (s : Bor Signature). s.now) l.definition) in (es : List
    TypedArg)
    × Looked l.scope l.usage params (map typed_next (drop l.next-index l.next-items))
    (typed_args l.scope l.fn.tally.calls params (typed_arguments l.a)) l.args l.fn.tally l.tally es
