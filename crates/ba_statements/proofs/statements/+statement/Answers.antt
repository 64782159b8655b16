use Rattle.std.proofs.Common.{◌≡◌, true, Some, List, [], ◌∷◌, ◌++◌, map, refl, sym, ◌∙◌, ap, subst}
use Rattle.std.proofs.lemmas.List.{length-map}
use Rattle.std.proofs.lemmas.Result.{on_ok_weaker}
use Rattle.ba_trees.specs.declared.tree.statements.BlockItem.{BlockItem}
use Rattle.ba_trees.specs.declared.tree.statements.BlockItem as item
use Rattle.ba_trees.specs.declared.tree.statements.Group.{Group, out-Group}
use Rattle.ba_trees.specs.declared.tree.statements.Statement.{Statement}
use Rattle.ba_statements.specs.Adding.{GivesTest, state_with, before_of, behind_part, state}
use Rattle.ba_statements.specs.Controlling.{GivesBody, GivesGuarded}
use Rattle.ba_statements.specs.Labelling.{behind_group, behind_groups, switch_state}
use Rattle.ba_typing.specs.Declarations.{Part, add_declaration, in_order}
use Rattle.ba_typing.specs.Names.{Scope, exits_of_loop, exits_of_switch, switching}
use Rattle.ba_typing.specs.Statements.{GroupParts, add_if, add_item, add_statement, add_switch, parts_of_block, parts_of_group, test_of}
use Rattle.ba_tree.specs.Trees.{StmtTree, tree_of_stmt}
use Rattle.ba_typing.specs.declared.names.Exits.{Exits}
use Rattle.ba_statements.proofs.Adding.{behind-nothing, next-part, no-part}
use Rattle.ba_statements.proofs.ControlSteps.{at-scope, begun, block-adds, block-back, body-is, do-adds, for-adds, for-back, form-adds, form-answers, guarded-is, if-adds, if_else-adds, item-as, exits-back, while-adds}
use Rattle.ba_statements.proofs.LabelSteps.{group-adds, groups-begun, next-group, no-group, switch-adds}
use Rattle.ba_typing.proofs.ParsedStatements as forms
use Rattle.ba_typing.proofs.StmtForms.{tree-Block}
use Rattle.ba_statements.proofs.statements.+statement.Goals as goal

-- THE FORMS OF A STATEMENT

pub add_statement-returns-in-Block-clause-adds : goal.add_statement-returns-in-Block-clause-adds
add_statement-returns-in-Block-clause-adds t c = form-answers c.add_block.result c.args.s.now _ _
    (state c.args.scope.now c.args.work.now c.args.stmts.now)
    (state c.add_block.new.scope c.add_block.new.work c.add_block.new.stmts) c.in-Block.is
    (forms.block-form c.in-Block.block) c.add_block.ensures.adds

pub add_statement-returns-in-Empty-clause-adds : goal.add_statement-returns-in-Empty-clause-adds
add_statement-returns-in-Empty-clause-adds t c =
    let old = state c.args.scope.now c.args.work.now c.args.stmts.now in
    form-adds c.args.s.now _ _ old old c.in-Empty.is (forms.empty-form c.in-Empty.semicolon)
    (behind-nothing old)

pub add_statement-returns-in-Simple-clause-adds : goal.add_statement-returns-in-Simple-clause-adds
add_statement-returns-in-Simple-clause-adds t c = form-answers c.add_simple.result c.args.s.now _ _
    (state c.args.scope.now c.args.work.now c.args.stmts.now)
    (state c.args.scope.now c.add_simple.new.work c.add_simple.new.stmts) c.in-Simple.is
    (forms.simple-form c.in-Simple.simple c.in-Simple.semicolon) c.add_simple.ensures

pub add_statement-returns-in-None-clause-adds : goal.add_statement-returns-in-None-clause-adds
add_statement-returns-in-None-clause-adds t c =
    let k = c.in-If in
    let scope = c.args.scope.now in
    let w = c.args.work.now in
    let mid = c.add_guarded.new.work in
    form-answers c.put_if.result c.args.s.now _ _ (state scope w c.args.stmts.now)
    (state c.add_guarded.new.scope mid c.put_if.new.stmts) k.is
    (forms.if-form k.keyword k.condition k.holds k.fails c.deref.result.now c.deref.ensures c.in-None.is)
    (on_ok_weaker c.put_if.result (λ pushed.
    ap (λ (s : Scope). state s mid c.put_if.new.stmts) c.in_ok-guarded-in-If.ensures.scope
    ∙ if-adds (test_of k.condition) (add_statement c.deref.result.now) scope w mid
    c.in_ok-guarded-in-If.guarded c.in_ok-guarded-in-If.ensures.gives
    (map tree_of_stmt c.args.stmts.now.items) _ pushed) c.put_if.ensures)

pub add_statement-returns-in-Some-clause-adds : goal.add_statement-returns-in-Some-clause-adds
add_statement-returns-in-Some-clause-adds t c =
    let k = c.in-If in
    let scope = c.args.scope.now in
    let w = c.args.work.now in
    let mid = c.add_guarded.new.work in
    let test = test_of k.condition in
    let holds = add_statement c.deref.result.now in
    let fails = add_statement c.deref-in-Some.result.now in
    form-answers c.add_else.result c.args.s.now _ _ (state scope w c.args.stmts.now)
    (state c.add_else.new.scope c.add_else.new.work c.add_else.new.stmts) k.is
    (forms.if_else-form k.keyword k.condition k.holds k.fails c.in-Some.other c.deref.result.now
    c.deref-in-Some.result.now c.deref.ensures c.in-Some.is c.deref-in-Some.ensures)
    (on_ok_weaker c.add_else.result (λ adds.
    adds test holds w (subst (λ (s : Scope). GivesGuarded test holds s w mid c.in_ok-guarded-in-If.guarded)
    (sym c.in_ok-guarded-in-If.ensures.scope) c.in_ok-guarded-in-If.ensures.gives)
    ∙ ap (λ (s : Scope). behind_part (add_if test holds (Some fails)) (state s w c.args.stmts.now))
    c.in_ok-guarded-in-If.ensures.scope) c.add_else.ensures.adds)

pub add_statement-returns-in-Some-clause-scope : goal.add_statement-returns-in-Some-clause-scope
add_statement-returns-in-Some-clause-scope t c =
    on_ok_weaker c.add_else.result (λ stays. stays ∙ c.in_ok-guarded-in-If.ensures.scope)
    c.add_else.ensures.scope

pub add_statement-returns-in-Switch-clause-adds : goal.add_statement-returns-in-Switch-clause-adds
add_statement-returns-in-Switch-clause-adds t c = let k = c.in-Switch in
    form-answers c.add_switch.result c.args.s.now _ _
    (state c.args.scope.now c.args.work.now c.args.stmts.now)
    (state c.add_switch.new.scope c.add_switch.new.work c.add_switch.new.stmts) k.is
    (forms.switch-form k.keyword k.condition k.«open» k.groups k.close
    ∙ ap (λ (gs : List Group). add_switch (test_of k.condition) (map parts_of_group gs))
    (sym c.as_slice.ensures.value)) c.add_switch.ensures.adds

pub add_statement-returns-in-While-clause-adds : goal.add_statement-returns-in-While-clause-adds
add_statement-returns-in-While-clause-adds t c = let k = c.in-While in
    form-answers c.add_while.result c.args.s.now _ _ (state c.args.scope.now c.args.work.now c.args.stmts.now)
    (state c.add_while.new.scope c.add_while.new.work c.add_while.new.stmts) k.is
    (forms.while-form k.keyword k.condition k.body c.deref-in-While.result.now c.deref-in-While.ensures)
    c.add_while.ensures.adds

pub add_statement-returns-in-DoWhile-clause-adds : goal.add_statement-returns-in-DoWhile-clause-adds
add_statement-returns-in-DoWhile-clause-adds t c =
    form-answers c.add_do.result c.args.s.now _ _ (state c.args.scope.now c.args.work.now c.args.stmts.now)
    (state c.add_do.new.scope c.add_do.new.work c.add_do.new.stmts) c.in-DoWhile.is
    (forms.do-form c.in-DoWhile.d c.deref-in-DoWhile.result.now c.deref-in-DoWhile.ensures)
    c.add_do.ensures.adds

pub add_statement-returns-in-For-clause-adds : goal.add_statement-returns-in-For-clause-adds
add_statement-returns-in-For-clause-adds t c =
    form-answers c.add_for.result c.args.s.now _ _ (state c.args.scope.now c.args.work.now c.args.stmts.now)
    (state c.add_for.new.scope c.add_for.new.work c.add_for.new.stmts) c.in-For.is
    (forms.for-form c.in-For.f c.deref-in-For.result.now c.deref-in-For-2.result.now c.deref-in-For.ensures
    c.deref-in-For-2.ensures) c.add_for.ensures.adds

pub add_statement-returns-in-Break-clause-adds : goal.add_statement-returns-in-Break-clause-adds
add_statement-returns-in-Break-clause-adds t c = form-answers c.add_jump.result c.args.s.now _ _
    (state c.args.scope.now c.args.work.now c.args.stmts.now)
    (state c.args.scope.now c.add_jump.new.work c.add_jump.new.stmts) c.in-Break.is
    (forms.break-form c.in-Break.keyword c.in-Break.semicolon) c.add_jump.ensures

pub add_statement-returns-in-Continue-clause-adds : goal.add_statement-returns-in-Continue-clause-adds
add_statement-returns-in-Continue-clause-adds t c = form-answers c.add_jump-in-Continue.result c.args.s.now
    _ _
    (state c.args.scope.now c.args.work.now c.args.stmts.now)
    (state c.args.scope.now c.add_jump-in-Continue.new.work c.add_jump-in-Continue.new.stmts) c.in-Continue.is
    (forms.continue-form c.in-Continue.keyword c.in-Continue.semicolon) c.add_jump-in-Continue.ensures

pub add_statement-returns-in-Return-clause-adds : goal.add_statement-returns-in-Return-clause-adds
add_statement-returns-in-Return-clause-adds t c = let k = c.in-Return in
    form-answers c.add_jump_with.result c.args.s.now _ _
    (state c.args.scope.now c.args.work.now c.args.stmts.now)
    (state c.args.scope.now c.add_jump_with.new.work c.add_jump_with.new.stmts) k.is
    (forms.return-form k.keyword k.value k.semicolon) c.add_jump_with.ensures

pub add_statement-returns-in-Assert-clause-adds : goal.add_statement-returns-in-Assert-clause-adds
add_statement-returns-in-Assert-clause-adds t c = let k = c.in-Assert in
    form-answers c.add_assert.result c.args.s.now _ _
    (state c.args.scope.now c.args.work.now c.args.stmts.now)
    (state c.args.scope.now c.add_assert.new.work c.add_assert.new.stmts) k.is
    (forms.assert-form k.keyword k.condition k.semicolon) c.add_assert.ensures

pub add_statement-returns-in-Printf-clause-adds : goal.add_statement-returns-in-Printf-clause-adds
add_statement-returns-in-Printf-clause-adds t c = let k = c.in-Printf in
    form-answers c.add_printf.result c.args.s.now _ _
    (state c.args.scope.now c.args.work.now c.args.stmts.now)
    (state c.args.scope.now c.add_printf.new.work c.add_printf.new.stmts) k.is
    (forms.printf-form k.keyword k.«open» k.printed k.close k.semicolon) c.add_printf.ensures

-- BLOCKS

pub add_items-loop-item-init : goal.add_items-loop-item-init
add_items-loop-item-init t c = let old = state c.args.scope.now c.args.work.now c.args.stmts.now in
    ap (λ (xs : List BlockItem). behind_part (in_order (map add_item xs)) old)
    c.deref-item-items.ensures.value
    ∙ ap (λ (parts : List Part). behind_part (in_order parts) old) (sym (forms.block-is c.args.block.now))

pub add_items-loop-item-preserved : goal.add_items-loop-item-preserved
add_items-loop-item-preserved t c =
    next-part add_item c.deref-item-items.result.now c.loop-item.item-index c.item-item.result
    (state c.loop-item.scope c.loop-item.work c.loop-item.stmts)
    (state c.add_item.new.scope c.add_item.new.work c.add_item.new.stmts)
    (behind_part (in_order (parts_of_block c.args.block.now))
    (state c.args.scope.now c.args.work.now c.args.stmts.now))
    c.loop-item-test.true c.item-item.is c.loop-item.invariant c.in_ok-add_item.ensures

pub add_items-returns : goal.add_items-returns
add_items-returns t c = no-part add_item c.deref-item-items.result.now c.loop-item.item-index
    (state c.loop-item.scope c.loop-item.work c.loop-item.stmts)
    (behind_part (in_order (parts_of_block c.args.block.now))
    (state c.args.scope.now c.args.work.now c.args.stmts.now)) c.loop-item-test.false c.loop-item.invariant

pub add_item-returns-in-Declaration : goal.add_item-returns-in-Declaration
add_item-returns-in-Declaration t c =
    let d = c.in-Declaration.d in
    on_ok_weaker c.add_declaration.result
    (item-as c.args.item.now (state c.args.scope.now c.args.work.now c.args.stmts.now)
    (state c.add_declaration.new.scope c.add_declaration.new.work c.add_declaration.new.stmts)
    (item.Declaration d) (add_declaration [] d.specifiers d.declarators) c.in-Declaration.is
    (forms.declaration-is d)) c.add_declaration.ensures

pub add_item-returns-in-Statement : goal.add_item-returns-in-Statement
add_item-returns-in-Statement t c = on_ok_weaker c.add_statement.result
    (item-as c.args.item.now (state c.args.scope.now c.args.work.now c.args.stmts.now)
    (state c.add_statement.new.scope c.add_statement.new.work c.add_statement.new.stmts)
    (item.Statement c.in-Statement.s) (add_statement c.in-Statement.s) c.in-Statement.is
    (forms.statement_item-is c.in-Statement.s)) c.add_statement.ensures.adds

pub add_block-returns-clause-adds : goal.add_block-returns-clause-adds
add_block-returns-clause-adds t c =
    let scope = c.args.scope.now in
    let w = c.args.work.now in
    let parts = parts_of_block c.args.block.now in
    let entered = c.enter.new.self in
    let k = c.add_items.new.scope in
    let u = c.add_items.new.work in
    let body = map tree_of_stmt c.add_items.new.stmts.items in
    let olds = map tree_of_stmt c.args.stmts.now.items in
    let news = map tree_of_stmt c.put.new.stmts.items in
    let inside : state_with k u body ≡ behind_part (in_order parts) (state_with entered w []) =
    begun (in_order parts) entered w c.new-body.result.items (state_with k u body) c.new-body.ensures.items
    c.in_ok-add_items.ensures in
    on_ok_weaker c.put.result (λ pushed. at-scope scope c.back_to.new.self u news _
    (block-back parts scope entered k w u body c.in_ok-enter.ensures.ok inside c.mark-outside.result
    c.back_to.new.self c.mark-outside.ensures c.back_to.ensures)
    (block-adds parts scope entered k w u body c.in_ok-enter.ensures.ok inside olds news
    (pushed ∙ ap (λ (x : StmtTree). olds ++ x ∷ []) (tree-Block c.add_items.new.stmts)))) c.put.ensures

pub add_block-returns-clause-scope : goal.add_block-returns-clause-scope
add_block-returns-clause-scope t c =
    let w = c.args.work.now in
    let parts = parts_of_block c.args.block.now in
    let entered = c.enter.new.self in
    let k = c.add_items.new.scope in
    let u = c.add_items.new.work in
    let body = map tree_of_stmt c.add_items.new.stmts.items in
    let inside : state_with k u body ≡ behind_part (in_order parts) (state_with entered w []) =
    begun (in_order parts) entered w c.new-body.result.items (state_with k u body) c.new-body.ensures.items
    c.in_ok-add_items.ensures in
    on_ok_weaker c.put.result (λ pushed. block-back parts c.args.scope.now entered k w u body
    c.in_ok-enter.ensures.ok inside c.mark-outside.result c.back_to.new.self c.mark-outside.ensures
    c.back_to.ensures) c.put.ensures

-- CONTROLLED STATEMENTS

pub add_controlled-returns-clause-gives : goal.add_controlled-returns-clause-gives
add_controlled-returns-clause-gives t c =
    let part = add_statement c.args.body.now in
    let held = map tree_of_stmt c.add_statement.new.stmts.items in
    body-is part c.args.scope.now c.add_statement.new.scope c.args.work.now c.add_statement.new.work held
    c.first_stmt.result
    (begun part c.args.scope.now c.args.work.now c.new-held.result.items
    (state_with c.add_statement.new.scope c.add_statement.new.work held) c.new-held.ensures.items
    c.in_ok-add_statement.ensures.adds) c.first_stmt.ensures

pub add_loop_body-returns-clause-gives : goal.add_loop_body-returns-clause-gives
add_loop_body-returns-clause-gives t c = let w = c.args.work.now in
    subst (λ (s : Scope). GivesBody (add_statement c.args.body.now s (before_of w)) w
    c.add_controlled.new.work c.in_ok-held.held) c.set_exits.ensures c.in_ok-held.ensures.gives

pub add_loop_body-returns-clause-scope : goal.add_loop_body-returns-clause-scope
add_loop_body-returns-clause-scope t c = exits-back c.args.scope.now c.set_exits.new.self
    c.add_controlled.new.scope c.set_exits-2.new.self exits_of_loop c.exits-around.result
    c.exits-around.ensures c.set_exits.ensures c.in_ok-held.ensures.scope c.set_exits-2.ensures

pub add_guarded-returns-clause-gives : goal.add_guarded-returns-clause-gives
add_guarded-returns-clause-gives t c = guarded-is (test_of c.args.condition.now)
    (add_statement c.args.holds.now)
    c.args.scope.now c.args.work.now c.add_condition.new.work c.add_controlled.new.work c.in_ok-test.test
    c.in_ok-body.body c.in_ok-test.ensures c.in_ok-body.ensures.gives

pub add_else-returns-clause-adds : goal.add_else-returns-clause-adds
add_else-returns-clause-adds t c = let scope = c.args.scope.now in
    on_ok_weaker c.put_if_else.result (λ pushed test holds before gives.
    ap (λ (s : Scope). state s c.add_controlled.new.work c.put_if_else.new.stmts) c.in_ok-held.ensures.scope
    ∙ if_else-adds test holds scope before c.args.work.now c.args.guarded gives
    (map tree_of_stmt c.args.stmts.now.items) _ (add_statement c.args.other.now) c.add_controlled.new.work
    c.in_ok-held.held c.in_ok-held.ensures.gives pushed) c.put_if_else.ensures

pub add_else-returns-clause-scope : goal.add_else-returns-clause-scope
add_else-returns-clause-scope t c =
    on_ok_weaker c.put_if_else.result (λ pushed. c.in_ok-held.ensures.scope) c.put_if_else.ensures

-- SWITCHES

pub add_switch-returns-clause-adds : goal.add_switch-returns-clause-adds
add_switch-returns-clause-adds t c =
    let scope = c.args.scope.now in
    let k = c.add_groups.new.scope in
    let u = c.add_groups.new.work in
    let held = c.add_groups.new.body in
    let back : c.set_exits-2.new.self ≡ scope =
    exits-back scope c.set_exits.new.self k c.set_exits-2.new.self
    (record { breaks = true; continues = c.exits-around.result.continues }) c.exits-around.result
    c.exits-around.ensures c.set_exits.ensures c.in_ok-add_groups.ensures.scope c.set_exits-2.ensures in
    on_ok_weaker c.put_switch.result (λ pushed.
    ap (λ (s : Scope). state s u c.put_switch.new.stmts) back
    ∙ switch-adds (test_of c.args.condition.now) (map parts_of_group c.args.groups.now) scope k
    c.args.work.now c.add_controlling.new.work u c.in_ok-switch.switch c.add_groups.new.labels
    (map tree_of_stmt held.items) (map tree_of_stmt c.args.stmts.now.items) _ c.in_ok-switch.ensures
    (groups-begun c.in_ok-switch.switch.t c.in_ok-switch.switch.at (map parts_of_group c.args.groups.now)
    c.no_labels-labels.result c.set_exits.new.self (switching scope) c.add_controlling.new.work
    c.new-body.result.items (switch_state c.add_groups.new.labels k u held) c.no_labels-labels.ensures
    (c.set_exits.ensures ∙ ap (λ (e : Exits). record scope { exits = exits_of_switch e })
    c.exits-around.ensures) c.new-body.ensures.items c.in_ok-add_groups.ensures.adds) pushed)
    c.put_switch.ensures

pub add_switch-returns-clause-scope : goal.add_switch-returns-clause-scope
add_switch-returns-clause-scope t c =
    on_ok_weaker c.put_switch.result (λ pushed.
    exits-back c.args.scope.now c.set_exits.new.self c.add_groups.new.scope c.set_exits-2.new.self
    (record { breaks = true; continues = c.exits-around.result.continues }) c.exits-around.result
    c.exits-around.ensures c.set_exits.ensures c.in_ok-add_groups.ensures.scope c.set_exits-2.ensures)
    c.put_switch.ensures

pub add_groups-loop-group-preserved : goal.add_groups-loop-group-preserved
add_groups-loop-group-preserved t c =
    let switch = c.args.switch.now in
    let i = c.loop-group in (
      next-group parts_of_group switch.t switch.at c.args.groups.now i.group-index
          (switch_state i.labels i.scope i.work i.body)
          (behind_groups switch.t switch.at (map parts_of_group c.args.groups.now)
          (switch_state c.args.labels.now c.args.scope.now c.args.work.now c.args.body.now)) i.invariant.0
          c.group-item.result
          (switch_state c.add_group.new.labels c.add_group.new.scope c.add_group.new.work
          c.add_group.new.body) c.loop-group-test.true c.group-item.is c.in_ok-add_group.ensures.adds,
      c.in_ok-add_group.ensures.scope ∙ i.invariant.1,
    )

pub add_groups-returns-clause-adds : goal.add_groups-returns-clause-adds
add_groups-returns-clause-adds t c =
    let switch = c.args.switch.now in
    let i = c.loop-group in
    no-group parts_of_group switch.t switch.at c.args.groups.now i.group-index
    (switch_state i.labels i.scope i.work i.body)
    (behind_groups switch.t switch.at (map parts_of_group c.args.groups.now)
    (switch_state c.args.labels.now c.args.scope.now c.args.work.now c.args.body.now)) i.invariant.0
    c.loop-group-test.false

pub add_group-loop-statement-init : goal.add_group-loop-statement-init
add_group-loop-statement-init t c = (refl, refl)

pub add_group-loop-statement-preserved : goal.add_group-loop-statement-preserved
add_group-loop-statement-preserved t c =
    let w = c.args.work.now in
    let xs = c.deref-statement-items.result.now in
    let i = c.loop-statement in (
      next-part add_statement xs i.statement-index c.statement-item.result (state i.scope i.work i.body)
          (state c.add_statement.new.scope c.add_statement.new.work c.add_statement.new.stmts)
          (behind_part (in_order (map add_statement xs))
          (state c.args.scope.now (record w { tally = c.add_label.new.tally }) c.args.body.now))
          c.loop-statement-test.true c.statement-item.is i.invariant.0 c.in_ok-add_statement.ensures.adds,
      c.in_ok-add_statement.ensures.scope ∙ i.invariant.1,
    )

pub add_group-returns-clause-adds : goal.add_group-returns-clause-adds
add_group-returns-clause-adds t c =
    let switch = c.args.switch.now in
    let group = c.args.group.now in
    let labels = c.args.labels.now in
    let scope = c.args.scope.now in
    let w = c.args.work.now in
    let olds = map tree_of_stmt c.args.body.now.items in
    let xs = c.deref-statement-items.result.now in
    let i = c.loop-statement in
    let parts = λ (xs : List Statement). let g : GroupParts = record {
      label = (out-Group group).label;
      statements = map add_statement xs;
    } in g in
    group-adds switch.t switch.at (parts xs) labels c.add_label.new.labels c.in_ok-count.count scope i.scope
    w i.work c.add_label.new.tally olds (map tree_of_stmt i.body.items)
    (c.in_ok-count.ensures ∙ c.len.ensures ∙ c.args.body.now.ok.0
    ∙ sym (length-map c.args.body.now.items tree_of_stmt))
    c.in_ok-add_label.ensures
    (no-part add_statement xs i.statement-index (state i.scope i.work i.body)
    (behind_part (in_order (map add_statement xs))
    (state scope (record w { tally = c.add_label.new.tally }) c.args.body.now)) c.loop-statement-test.false
    i.invariant.0)
    ∙ ap (λ (g : GroupParts). behind_group switch.t switch.at g
    (switch_state labels scope w c.args.body.now))
    (ap parts c.deref-statement-items.ensures.value ∙ sym (forms.group-is group))

-- LOOPS

pub add_while-returns-clause-adds : goal.add_while-returns-clause-adds
add_while-returns-clause-adds t c = let scope = c.args.scope.now in let u = c.add_loop_body.new.work in
    on_ok_weaker c.put_while.result (λ pushed.
    ap (λ (s : Scope). state s u c.put_while.new.stmts) c.in_ok-held.ensures.scope
    ∙ while-adds (test_of c.args.condition.now) (add_statement c.args.body.now) scope c.args.work.now
    c.add_condition.new.work u c.in_ok-test.test c.in_ok-held.held (map tree_of_stmt c.args.stmts.now.items) _
    c.in_ok-test.ensures c.in_ok-held.ensures.gives pushed) c.put_while.ensures

pub add_while-returns-clause-scope : goal.add_while-returns-clause-scope
add_while-returns-clause-scope t c =
    on_ok_weaker c.put_while.result (λ pushed. c.in_ok-held.ensures.scope) c.put_while.ensures

pub add_do-returns-clause-adds : goal.add_do-returns-clause-adds
add_do-returns-clause-adds t c =
    let scope = c.args.scope.now in
    let mid = c.add_loop_body.new.work in
    let u = c.add_condition.new.work in
    let test = test_of c.args.condition.now in
    on_ok_weaker c.put_do.result (λ pushed.
    ap (λ (s : Scope). state s u c.put_do.new.stmts) c.in_ok-held.ensures.scope
    ∙ do-adds test (add_statement c.args.body.now) scope c.args.work.now mid u c.in_ok-test.test
    c.in_ok-held.held
    (map tree_of_stmt c.args.stmts.now.items) _ c.in_ok-held.ensures.gives
    (subst (λ (s : Scope). GivesTest (test s mid.tally.calls) s mid u c.in_ok-test.test)
    c.in_ok-held.ensures.scope
    c.in_ok-test.ensures) pushed) c.put_do.ensures

pub add_do-returns-clause-scope : goal.add_do-returns-clause-scope
add_do-returns-clause-scope t c =
    on_ok_weaker c.put_do.result (λ pushed. c.in_ok-held.ensures.scope) c.put_do.ensures

pub add_for-returns-clause-adds : goal.add_for-returns-clause-adds
add_for-returns-clause-adds t c =
    let scope = c.args.scope.now in
    let head = c.args.head.now in
    let w = c.args.work.now in
    let mid = c.add_head.new.work in
    let inside = c.add_head.new.scope in
    let u = c.add_loop_body.new.work in
    let h = c.in_ok-front.front in
    let news = map tree_of_stmt c.put_for.new.stmts.items in
    on_ok_weaker c.put_for.result (λ pushed. at-scope scope c.back_to.new.self u news _
    (for-back head scope inside w mid h c.in_ok-front.ensures c.add_loop_body.new.scope c.back_to.new.self
    c.mark-outside.result c.in_ok-held.ensures.scope c.mark-outside.ensures c.back_to.ensures)
    (for-adds head scope inside w mid h c.in_ok-front.ensures (add_statement c.args.body.now) u
    c.in_ok-held.held (map tree_of_stmt c.args.stmts.now.items) news c.in_ok-held.ensures.gives pushed))
    c.put_for.ensures

pub add_for-returns-clause-scope : goal.add_for-returns-clause-scope
add_for-returns-clause-scope t c = on_ok_weaker c.put_for.result (λ pushed.
    for-back c.args.head.now c.args.scope.now c.add_head.new.scope c.args.work.now c.add_head.new.work
    c.in_ok-front.front c.in_ok-front.ensures c.add_loop_body.new.scope c.back_to.new.self
    c.mark-outside.result c.in_ok-held.ensures.scope c.mark-outside.ensures c.back_to.ensures)
    c.put_for.ensures
