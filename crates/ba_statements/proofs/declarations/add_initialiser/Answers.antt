use Rattle.std.proofs.Common.{◌==◌, Bool, cond, not, map, ◌∙◌, ap}
use Rattle.std.proofs.lemmas.Result.{on_ok_weaker}
use Rattle.ba_typing.specs.Declarations.{exceeds, has_braces, written_count, typed_each, values_of, init_tree}
use Rattle.ba_typing.specs.Faults.{fault_if}
use Rattle.ba_expressions.specs.Inferring.{with_faults}
use Rattle.ba_tree.specs.Trees.{tree_of_stmt}
use Rattle.ba_typing.specs.declared.fault.Cause.TheVariants.{WrongCount, WrongKind}
use Rattle.ba_statements.proofs.Declaring.{initialiser-is, kept-all, some-length-some}
use Rattle.ba_statements.proofs.declarations.add_initialiser.Goals as goal

pub returns : goal.returns
returns c = let w = c.args.work.now in let scope = c.args.scope.now in let d = c.args.d in
    let es = typed_each scope w.tally.calls (values_of c.args.init.now) in
    let all = kept-all d.at d.t (scope.depth == 0) scope (values_of c.args.init.now)
    c.in_ok-values.values.items w.tally
    c.initial_values.new.tally c.in_ok-values.ensures in
    on_ok_weaker c.put.result (λ pushed l same.
    let array = some-length-some d.length l same in
    initialiser-is d.at d.var d.t l c.args.init.now scope w c.number.new.self c.initial_values.new.tally
    c.add_if.new.self
    c.add_if-2.new.self c.in_ok-stmt.stmt (tree_of_stmt c.init_stmt.result) (map tree_of_stmt
    c.args.stmts.now.items) _
    all.1
    (c.add_if.ensures ∙ ap (λ (b : Bool). with_faults c.initial_values.new.tally (fault_if b WrongCount d.at))
    (c.has_too_many-is_past.ensures l same ∙ ap (exceeds (written_count l)) (c.number_of.ensures ∙ all.2)))
    (c.add_if-2.ensures ∙ ap (λ (b : Bool). with_faults c.add_if.new.self (fault_if b WrongKind d.at))
    (c.is_unlike.ensures
    ∙ ap (λ (b : Bool). cond b (not (has_braces c.args.init.now)) (has_braces c.args.init.now)) array))
    c.in_ok-stmt.ensures
    (c.init_stmt.ensures es all.0 ∙ ap (λ (b : Bool). init_tree c.in_ok-stmt.stmt d.var d.t b es) array)
    pushed) c.put.ensures
