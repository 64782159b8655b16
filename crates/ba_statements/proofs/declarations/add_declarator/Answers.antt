use Rattle.std.proofs.Common.{sym, ℕ, Bool, Option, map, ◌∙◌, ap, subst}
use Rattle.std.specs.Option.{is_some}
use Rattle.ba_statements.specs.Adding.{AddsLength, state_with, state}
use Rattle.ba_typing.specs.Declarations.{count_of_values, typed_array_length}
use Rattle.ba_typing.specs.Faults.{fault_if, void_faults}
use Rattle.ba_expressions.specs.Inferring.{with_faults}
use Rattle.ba_tree.specs.Trees.{tree_of_stmt}
use Rattle.ba_typing.specs.declared.fault.Cause.TheVariants.{WrongKind}
use Rattle.ba_statements.proofs.Adding.{faults-part}
use Rattle.ba_statements.proofs.KeptValues.{un-not}
use Rattle.ba_statements.proofs.Declaring.{count-is, declarator-from, length-part}
use Rattle.ba_statements.proofs.declarations.add_declarator.Goals as goal

pub returns : goal.returns
returns c =
    let d = c.args.declarator.now in let at = d.name.at in let w = c.args.work.now in let scope =
    c.args.scope.now in
    let stmts = map tree_of_stmt c.args.stmts.now.items in
    let expression = typed_array_length at (count_of_values d.initialiser) scope w.tally.calls d.length in
    let adds = subst (λ (n : Option ℕ). AddsLength at (typed_array_length at n scope w.tally.calls d.length)
    scope w
    c.add_length.new.work c.in_ok-length.length)
    (count-is c.count_of_values-count.result d.initialiser c.count_of_values-count.ensures)
    c.in_ok-length.ensures in
    let s4 = state c.add_variable.new.scope c.add_optional_initialiser.new.work
    c.add_optional_initialiser.new.stmts in
    declarator-from c.args.functions.now c.args.t d (state scope w c.args.stmts.now)
    (state scope c.add_length.new.work c.args.stmts.now)
    (state c.add_variable.new.scope c.add_variable.new.work c.args.stmts.now)
    (state c.add_variable.new.scope c.add_variable.new.work c.add_declare.new.stmts)
    s4 (state_with c.add_variable.new.scope (record c.add_optional_initialiser.new.work {
      tally =
          c.add_if.new.self;
    }) s4.stmts)
    c.name_of.result c.in_ok-var.var c.unwrap_or.result c.shape_of.result
    c.name_of.ensures c.in_ok-var.ensures c.unwrap_or.ensures (c.shape_of.ensures expression adds.0)
    (length-part at expression scope w c.add_length.new.work stmts adds.1)
    (c.in_ok-add_variable.ensures stmts)
    (c.in_ok-add_declare.ensures c.add_variable.new.work)
    (c.in_ok-add_optional_initialiser.ensures expression adds.0)
    (faults-part (void_faults c.args.t at) c.add_variable.new.scope c.add_optional_initialiser.new.work
    (record c.add_optional_initialiser.new.work { tally = c.add_if.new.self }) s4.stmts
    (ap (λ t. record c.add_optional_initialiser.new.work { tally = t }) (c.add_if.ensures
    ∙ ap (λ (b : Bool). with_faults c.add_optional_initialiser.new.work.tally (fault_if b WrongKind at))
    (un-not c.is_none.result (is_some c.args.t) (sym c.is_none.ensures)))))
