use Rattle.std.proofs.Common.{rules, true, false, ◌≡◌, ◌+◌, ◌-◌, ◌*◌, ◌<◌, ◌∷◌, ◌++◌, suc, [], pos, take, length, refl, sym, ◌∙◌, ap, subst}
use Rattle.std.proofs.lemmas.List.{take_all}
use Rattle.std.proofs.lemmas.Result.{IfOk-weaker, on_ok_weaker}
use Rattle.std.specs.List.{list_any}
use Rattle.ba_code.specs.declared.nodes.Operand.TheVariants.{Const, Var}
use Rattle.ba_inline.proofs.Adding.{adds-assert, adds-beyond, adds-binary, adds-convert, adds-fill, adds-if, adds-leave, adds-load, adds-save, adds-set, adds-unary}
use Rattle.ba_inline.proofs.Arms.{adds-alone, adds-old, argument-array, argument-value, call-made, if-made, init-made, invoke-made, loop-made, makes-from, makes-high, makes-old, nodes-len, scope-var, store-made, to-low, value-called, value-high, value-kept}
use Rattle.ba_inline.proofs.Branches.{adds-then, makes-and, makes-copy, makes-or, makes-select, makes-to, makes-truth}
use Rattle.ba_inline.proofs.Effects.{makes-call_stmt, makes-print}
use Rattle.ba_inline.proofs.Forms.{form-Assign, form-Block, form-CallStmt, form-Declare, form-DoWhile, form-For, form-Init, form-InitArray, form-Print, form-Store, form-Switch, form-While}
use Rattle.ba_inline.proofs.Guarding.{IsGrouped, flag-settled, grouped-grows, grouped-more, grouped-none, makes-group}
use Rattle.ba_inline.proofs.Homes.{makes-row, row_part}
use Rattle.ba_inline.proofs.Invoking.{makes-beyond}
use Rattle.ba_inline.proofs.Joining.{joined, makes-as}
use Rattle.ba_inline.proofs.Keeping.{grows-same}
use Rattle.ba_inline.proofs.Relaxing.{makes-given}
use Rattle.ba_inline.proofs.Rows.{arguments-more, arguments-none, next-taken, stmts-more, stmts-none, values-more, values-none}
use Rattle.ba_inline.proofs.Scopes.{frame-later, scope-later, scope-of}
use Rattle.ba_inline.proofs.Statements.{makes-assert, makes-assign, makes-break, makes-condition, makes-continue, makes-no-code, makes-return, makes-return-none}
use Rattle.ba_inline.proofs.Switching.{switch-made}
use Rattle.ba_inline.proofs.Values.{makes-binary, makes-const, makes-convert, makes-element, makes-unary, makes-variable}
use Rattle.ba_inline.proofs.Weighing.{weight-positive}
use Rattle.ba_inline.proofs.Wiping.{does-cleared, gives-to-cleared, wipes-since}
use Rattle.ba_inline.specs.Adding.{leave_act, pick_act, unary_act}
use Rattle.ba_inline.specs.Calling.{arg_has_call, has_call}
use Rattle.ba_inline.specs.Inlining.{Assigns, Executes, program_of}
use Rattle.ba_inline.specs.Making.{Adds, MakesArguments, MakesValues}
use Rattle.ba_inline.specs.Names.{IsFrame, with_home}
use Rattle.ba_inline.specs.Parts.{arguments_part, context_in_frame, given_part, loop_now, optional_now, optional_part, stmts_part, values_part}
use Rattle.ba_inline.specs.Repeating.{parts_of}
use Rattle.ba_inline.specs.Switching.{guarded_part}
use Rattle.ba_inline.specs.declared.frames.Frame.{Frame}
use Rattle.ba_inline.specs.declared.frames.Wanted.TheVariants as wanted
use Rattle.ba_numbers.specs.declared.numbers.CType.TheVariants.{I32}
use Rattle.ba_numbers.specs.declared.numbers.UnOp.TheVariants.{IsZero}
use Rattle.ba_tree.proofs.Falling.{body-below, item-below}
use Rattle.ba_tree.specs.Heights.{arg_weight, arg_weights, height, heights, tallest, weight, weights}
use Rattle.ba_tree.specs.Meaning.{eval, exec_all}
use Rattle.ba_tree.specs.declared.tree.Variable.{Variable}
use Rattle.ba_inline.proofs.frames.Inliner.+inline.Goals as goal

-- EXPRESSIONS

pub expression-returns-in-Const : goal.expression-returns-in-Const
expression-returns-in-Const t c = λ scope.
    makes-const _ _ _ c.args.self.now.frame c.args.here c.args.expr.now _ _ c.in-Const.t c.in-Const.value _
    c.in-Const.is (search rules)

pub expression-returns-in-Var : goal.expression-returns-in-Var
expression-returns-in-Var t c = λ scope.
    makes-variable _ _ _ c.args.self.now.frame c.args.here c.args.expr.now _ _ c.in-Var.var c.value.result
    c.in-Var.is c.value.ensures scope.naming

pub expression-returns-in_ok-add_load-in-Element : goal.expression-returns-in_ok-add_load-in-Element
expression-returns-in_ok-add_load-in-Element t c = λ scope.
    value-high c.in_ok-to-in-Element.ensures.1 (makes-element _ _ _ c.args.self.now.frame c.args.here
    c.args.expr.now c.deref.result.now _ _ _ _ _ _ _ c.variable_of.result.t false scope.naming
    (c.in_ok-index-in-Element.ensures scope) c.in_ok-to-in-Element.ensures.0 c.in-Element.array
    c.in_ok-number-in-Element.number c.in-Element.index c.in-Element.is c.deref.ensures
    c.in_ok-number-in-Element.ensures (adds-load _ _ _ _ _ _ c.in_ok-add_load-in-Element.ensures))

pub expression-returns-in_ok-add_unary-in-Unary : goal.expression-returns-in_ok-add_unary-in-Unary
expression-returns-in_ok-add_unary-in-Unary t c = λ scope.
    value-high c.in_ok-to-in-Unary.ensures.1 (makes-unary _ _ _ c.args.self.now.frame c.args.here
    c.args.expr.now c.deref-in-Unary.result.now _ _ _ _ _ _ _ c.type_of_unary.result false scope.naming
    (c.in_ok-a-in-Unary.ensures scope) c.in_ok-to-in-Unary.ensures.0 c.in-Unary.op c.in-Unary.t c.in-Unary.a
    c.in-Unary.is c.deref-in-Unary.ensures (adds-unary _ _ _ _ _ _ c.in_ok-add_unary-in-Unary.ensures))

pub expression-returns-in_ok-add_convert-in-Convert : goal.expression-returns-in_ok-add_convert-in-Convert
expression-returns-in_ok-add_convert-in-Convert t c = λ scope.
    value-high c.in_ok-to-in-Convert.ensures.1 (makes-convert _ _ _ c.args.self.now.frame c.args.here
    c.args.expr.now c.deref-in-Convert.result.now _ _ _ _ _ _ _ c.in-Convert.t false scope.naming
    (c.in_ok-a-in-Convert.ensures scope) c.in_ok-to-in-Convert.ensures.0 c.in-Convert.t c.in-Convert.a
    c.in-Convert.is c.deref-in-Convert.ensures (adds-convert _ _ _ _ _
    c.in_ok-add_convert-in-Convert.ensures))

pub expression-returns-in_ok-add_binary-in-Binary : goal.expression-returns-in_ok-add_binary-in-Binary
expression-returns-in_ok-add_binary-in-Binary t c = λ scope.
    let x = c.deref-in-Binary-2.result.now in
    let y = c.deref-in-Binary-3.result.now in
    let first = c.in_ok-a-in-Binary.ensures scope in
    value-high c.in_ok-to-in-Binary.ensures.1 (makes-binary _ _ _ c.args.self.now.frame c.args.here
    c.args.expr.now x y _ _ _ _ _ _ _ _ _ _ c.type_of_binary.result scope.naming (value-kept
    (c.has_call-keep.ensures ∙ ap has_call (c.deref-in-Binary.ensures ∙ sym c.deref-in-Binary-3.ensures))
    first) (c.in_ok-b-in-Binary.ensures (scope-later _ _ _ _ first.makes.grows scope))
    c.in_ok-to-in-Binary.ensures.0 c.in-Binary.op c.in-Binary.t c.in-Binary.a c.in-Binary.b c.in-Binary.is
    c.deref-in-Binary-2.ensures c.deref-in-Binary-3.ensures (adds-binary _ _ _ _ _ _ _ _
    c.in_ok-add_binary-in-Binary.ensures))

pub expression-returns-in-AndAlso : goal.expression-returns-in-AndAlso
expression-returns-in-AndAlso t c =
    IfOk-weaker c.and_also.result _ _ (λ o made. made c.args.expr.now (record {
      left = c.in-AndAlso.a;
      right = c.in-AndAlso.b;
      is = c.in-AndAlso.is;
      at_left = c.deref-in-AndAlso.ensures;
      at_right = c.deref-in-AndAlso-2.ensures;
    })) c.and_also.ensures

pub expression-returns-in-OrElse : goal.expression-returns-in-OrElse
expression-returns-in-OrElse t c =
    IfOk-weaker c.or_else.result _ _ (λ o made. made c.args.expr.now (record {
      left = c.in-OrElse.a;
      right = c.in-OrElse.b;
      is = c.in-OrElse.is;
      at_left = c.deref-in-OrElse.ensures;
      at_right = c.deref-in-OrElse-2.ensures;
    })) c.or_else.ensures

pub expression-returns-in-Select : goal.expression-returns-in-Select
expression-returns-in-Select t c =
    IfOk-weaker c.selected.result _ _ (λ o made. made c.args.expr.now (record {
      deciding = c.in-Select.when;
      left = c.in-Select.yes;
      right = c.in-Select.no;
      is = c.in-Select.is;
      at_deciding = c.deref-in-Select.ensures;
      at_left = c.deref-in-Select-2.ensures;
      at_right = c.deref-in-Select-3.ensures;
    })) c.selected.ensures

pub and_also-truth_to-requires : goal.and_also-truth_to-requires
and_also-truth_to-requires t c =
    let h : 0 < weight c.args.a.now = weight-positive c.args.a.now in
    search (rules, h)

pub or_else-truth_to-requires : goal.or_else-truth_to-requires
or_else-truth_to-requires t c =
    let h : 0 < weight c.args.a.now = weight-positive c.args.a.now in
    search (rules, h)

pub and_also-returns : goal.and_also-returns
and_also-returns t c = λ e form scope.
    let made = c.in_ok-a.ensures scope in
    let inner = scope-var _ _ _ _ _ _ c.in_ok-to.ensures.1 made.makes.grows scope in
    makes-and _ _ _ c.args.self.now.frame c.args.here e c.args.a.now c.args.b.now _ _ _ I32 _ _ _ _ _ _ _ _
    scope.naming made c.in_ok-to.ensures.0 (adds-if _ _ _ _ _ c.in_ok-add_if.ensures) form.left form.right
    form.is form.at_left form.at_right (to-low c.in_ok-to.ensures.1 (makes-old c.new-yes.ensures.items
    (c.in_ok-truth_to.ensures inner))) (adds-old c.new-no.ensures.items (adds-set _ _ _ _
    c.in_ok-add_set.ensures))

pub or_else-returns : goal.or_else-returns
or_else-returns t c = λ e form scope.
    let made = c.in_ok-a.ensures scope in
    let inner = scope-var _ _ _ _ _ _ c.in_ok-to.ensures.1 made.makes.grows scope in
    makes-or _ _ _ c.args.self.now.frame c.args.here e c.args.a.now c.args.b.now _ _ _ I32 _ _ _ _ _ _ _ _
    scope.naming made c.in_ok-to.ensures.0 (adds-if _ _ _ _ _ c.in_ok-add_if.ensures) form.left form.right
    form.is form.at_left form.at_right (adds-old c.new-yes.ensures.items (adds-set _ _ _ _
    c.in_ok-add_set.ensures)) (to-low c.in_ok-to.ensures.1 (makes-old c.new-no.ensures.items
    (c.in_ok-truth_to.ensures inner)))

pub selected-expression_to-requires : goal.selected-expression_to-requires
selected-expression_to-requires t c =
    let h : 0 < weight c.args.when.now = weight-positive c.args.when.now in
    search (rules, h)

pub selected-expression_to-requires-2 : goal.selected-expression_to-requires-2
selected-expression_to-requires-2 t c =
    let h : 0 < weight c.args.when.now = weight-positive c.args.when.now in
    search (rules, h)

pub selected-returns : goal.selected-returns
selected-returns t c = λ e form scope.
    let made = c.in_ok-when.ensures scope in
    let inner = scope-var _ _ _ _ _ _ c.in_ok-to.ensures.1 made.makes.grows scope in
    let yes = c.in_ok-expression_to.ensures inner in
    makes-select _ _ _ c.args.self.now.frame c.args.here e c.args.when.now c.args.a.now _ _ _ c.args.t _ _ _ _
    _ _ _ _ scope.naming made c.in_ok-to.ensures.0 (adds-if _ _ _ _ _ c.in_ok-add_if.ensures) c.args.b.now _ _
    form.deciding form.left form.right form.is form.at_deciding form.at_left form.at_right (to-low
    c.in_ok-to.ensures.1 (makes-old c.new-yes.ensures.items yes)) (makes-old c.new-no.ensures.items
    (c.in_ok-expression_to-2.ensures (scope-later _ _ _ _ yes.grows inner)))

pub expression-returns-in-Call : goal.expression-returns-in-Call
expression-returns-in-Call t c =
    IfOk-weaker c.call_value.result _ _ (λ o made scope. value-called _ _ _ c.args.self.now.frame c.args.here
    c.args.expr.now c.in-Call.call c.in-Call.function c.in-Call.args c.as_slice.result.now o _ _ _ _
    c.in-Call.is c.as_slice.ensures.value (made scope)) c.call_value.ensures

pub kept_expression-returns-in_ok-add_set-in-Var : goal.kept_expression-returns-in_ok-add_set-in-Var
kept_expression-returns-in_ok-add_set-in-Var t c = λ scope.
    let yes : true ≡ c.args.keep = search rules in
    value-kept yes (value-high c.in_ok-to-in-Var.ensures.1 (makes-copy _ _ _ (λ w back. eval (context_in_frame
    _ c.args.self.now.frame w) back c.args.here c.args.expr.now) _ _ _ _ _ _ _ (c.in_ok-operand.ensures scope)
    _ c.type_of.result scope.naming c.in_ok-to-in-Var.ensures.0 (adds-set _ _ _ _
    c.in_ok-add_set-in-Var.ensures)))

pub expression_to-returns : goal.expression_to-returns
expression_to-returns t c =
    on_ok_weaker c.give_back.result (λ wipes scope. makes-high c.give_back.ensures.same (gives-to-cleared _ _
    _ _ _ _ _ _ _ _ _ scope.naming (makes-to _ _ _ (λ w back. eval (context_in_frame _ c.args.self.now.frame
    w) back c.args.here c.args.expr.now) _ _ _ _ _ _ _ (c.in_ok-operand.ensures scope) _ (adds-set _ _ _ _
    c.in_ok-add_set.ensures)) (wipes-since c.moment-since.ensures wipes))) c.give_back.ensures.wipes

pub truth_to-returns : goal.truth_to-returns
truth_to-returns t c =
    on_ok_weaker c.give_back.result (λ wipes scope. makes-high (c.give_back.ensures.same ∙
    c.in_ok-between.ensures.1) (gives-to-cleared _ _ _ _ _ _ _ _ _ _ _ scope.naming (makes-truth _ _ _
    c.args.self.now.frame c.args.here c.args.expr.now _ _ _ _ _ _ scope.naming (c.in_ok-operand.ensures scope)
    c.in_ok-between.between c.args.to c.in_ok-between.ensures.0 c.tested_in-t.result I32 (adds-then _ _ _
    (unary_act c.in_ok-between.between IsZero c.tested_in-t.result c.in_ok-operand.operand) (unary_act
    c.args.to IsZero I32 (Var c.in_ok-between.between)) (adds-unary _ _ _ _ _ _ c.in_ok-add_unary.ensures)
    (adds-unary _ _ _ _ _ _ c.in_ok-add_unary-2.ensures))) (wipes-since c.moment-since.ensures wipes)))
    c.give_back.ensures.wipes

-- ROWS of values and of arguments

pub expressions-loop-expr-init : goal.expressions-loop-expr-init
expressions-loop-expr-init t c = λ scope.
    let site = c.args.self.now in
    subst (λ os. MakesValues (program_of site) site.scope.now site.path.now (values_part (program_of site)
    site.frame c.args.here []) false (list_any has_call c.args.exprs.now) os c.args.declared.now
    c.args.declared.now c.args.out.now.items c.args.out.now.items) (sym c.in_ok-operands.ensures.items)
    (values-none _ _ _ c.args.self.now.frame c.args.here _ _ _)

pub expressions-loop-expr-preserved : goal.expressions-loop-expr-preserved
expressions-loop-expr-preserved t c = λ scope.
    let made = c.loop-expr.invariant scope in
    values-more _ _ _ c.args.self.now.frame c.args.here c.args.exprs.now _ c.expr-item.result
    c.any_has_call-keep.result _ _ _ _ _ _ _ _ _ c.loop-expr-test.true c.expr-item.is
    c.any_has_call-keep.ensures c.in_ok-push.ensures.items made (c.in_ok-kept_expression.ensures (scope-later
    _ _ _ _ made.makes.grows scope))

pub expressions-returns : goal.expressions-returns
expressions-returns t c = λ scope.
    let site = c.args.self.now in
    subst (λ xs. MakesValues (program_of site) site.scope.now site.path.now (values_part (program_of site)
    site.frame c.args.here xs) (list_any has_call xs) (list_any has_call c.args.exprs.now)
    c.loop-expr.operands.items c.args.declared.now c.loop-expr.declared c.args.out.now.items
    c.loop-expr.out.items) (take_all c.loop-expr.expr-index c.args.exprs.now (search rules))
    (c.loop-expr.invariant scope)

pub expressions-kept_expression-requires : goal.expressions-kept_expression-requires
expressions-kept_expression-requires t c =
    let h : weight c.expr-item.result < weights c.args.exprs.now = item-below weight c.args.exprs.now
    c.loop-expr.expr-index c.expr-item.result (search rules) (search rules) in
    search (rules, h)

pub arguments-loop-arg-init : goal.arguments-loop-arg-init
arguments-loop-arg-init t c = λ scope.
    let site = c.args.self.now in
    subst (λ os. MakesArguments (program_of site) site.scope.now site.path.now (arguments_part (program_of
    site) site.frame c.args.here []) false (list_any arg_has_call c.args.args.now) os c.args.declared.now
    c.args.declared.now c.args.out.now.items c.args.out.now.items) (sym c.in_ok-given.ensures.items)
    (arguments-none _ _ _ c.args.self.now.frame c.args.here _ _ _)

pub arguments-loop-arg-preserved : goal.arguments-loop-arg-preserved
arguments-loop-arg-preserved t c = λ scope.
    let made = c.loop-arg.invariant scope in
    arguments-more _ _ _ c.args.self.now.frame c.args.here c.args.args.now _ c.arg-item.result
    c.any_arg_has_call-keep.result _ _ _ _ _ _ _ _ _ c.loop-arg-test.true c.arg-item.is
    c.any_arg_has_call-keep.ensures c.in_ok-push.ensures.items made (c.in_ok-argument.ensures (scope-later _ _
    _ _ made.makes.grows scope))

pub arguments-returns : goal.arguments-returns
arguments-returns t c = λ scope.
    let site = c.args.self.now in
    subst (λ xs. MakesArguments (program_of site) site.scope.now site.path.now (arguments_part (program_of
    site) site.frame c.args.here xs) (list_any arg_has_call xs) (list_any arg_has_call c.args.args.now)
    c.loop-arg.given.items c.args.declared.now c.loop-arg.declared c.args.out.now.items c.loop-arg.out.items)
    (take_all c.loop-arg.arg-index c.args.args.now (search rules)) (c.loop-arg.invariant scope)

pub arguments-argument-requires : goal.arguments-argument-requires
arguments-argument-requires t c =
    let h : arg_weight c.arg-item.result < arg_weights c.args.args.now = item-below arg_weight c.args.args.now
    c.loop-arg.arg-index c.arg-item.result (search rules) (search rules) in
    search (rules, h)

pub argument-returns-in_ok-value-in-Value : goal.argument-returns-in_ok-value-in-Value
argument-returns-in_ok-value-in-Value t c = λ scope.
    argument-value _ _ _ c.args.self.now.frame c.args.here c.args.arg.now _ c.in-Value.value _ _ _ _ _
    c.in-Value.is (c.in_ok-value-in-Value.ensures scope)

pub argument-returns-in-Array : goal.argument-returns-in-Array
argument-returns-in-Array t c = λ scope.
    argument-array _ _ _ c.args.self.now.frame c.args.here c.args.arg.now _ c.in-Array.array _ _ _
    c.in-Array.is c.location.ensures

-- CALLS

pub call_value-returns : goal.call_value-returns
call_value-returns t c =
    IfOk-weaker c.invoke.result _ _ (λ o made scope. call-made _ _ _ c.args.self.now.frame c.args.here
    c.args.call c.args.function c.args.args.now _ _ _ _ _ _ _ _ _ _ _ _ (c.as_slice.ensures.value ∙
    c.in_ok-path.ensures) c.as_slice-2.ensures.value scope (c.in_ok-given.ensures scope) (λ scope given. made
    given scope)) c.invoke.ensures

pub invoke-returns-then-self-eq0 : goal.invoke-returns-then-self-eq0
invoke-returns-then-self-eq0 t c = λ given scope.
    record {
      settled = tt;
      makes = makes-beyond _ _ _ c.args.self.now.frame c.args.here c.args.function c.args.given.now _ (Const
          (pos 0)) _ _ (search rules)
          (adds-beyond _ _ _ c.in_ok-add.ensures);
    }

pub invoke-statements-requires : goal.invoke-statements-requires
invoke-statements-requires t c =
    let frames : c.args.self.now.frame.frames ≡ suc (c.args.self.now.frame.frames - 1) = search rules in
    let h : (c.args.self.now.frame.frames - 1) * tallest c.args.self.now.setting.now.program.now + (heights
    c.in-Some.function.now.body + 1) < c.args.self.now.frame.frames * tallest
    c.args.self.now.setting.now.program.now = body-below c.args.self.now.setting.now.program.now
    c.in-Some.function.now c.args.function.0 c.args.self.now.frame.frames (c.args.self.now.frame.frames - 1)
    frames c.in-Some.ensures.0 c.in-Some.ensures.1 in
    search (rules, h, c.as_slice.ensures)

pub invoke-returns : goal.invoke-returns
invoke-returns t c = λ given scope.
    let frames : c.args.self.now.frame.frames ≡ suc (c.args.self.now.frame.frames - 1) = search rules in
    value-high (c.use_on.ensures ∙ c.give_back.ensures.same) (invoke-made _ _ _ _ c.args.self.now.frame
    c.args.here c.args.function (c.args.self.now.frame.frames - 1) c.in-Some.function.now c.args.given.now _ _
    _ _ _ _ _ _ _ _ _ _ _ c.unwrap_or.result c.as_slice.result.now frames c.in-Some.ensures.1
    c.as_slice.ensures c.new-body.ensures.items c.in_ok-home.ensures.0 c.in_ok-home.ensures.1
    (c.in_ok-scope.ensures scope given) (adds-set _ _ _ _ c.in_ok-add_set.ensures) c.in_ok-statements.ensures
    c.in_ok-add_body.ensures scope c.moment-since.ensures c.in_ok-give_back.ensures.wipes)

-- CHOICES

pub given_to-returns : goal.given_to-returns
given_to-returns t c =
    on_ok_weaker c.add_pick.result (λ added scope. makes-given _ _ _ c.args.self.now.frame c.args.stmt
    c.args.expr.now _ _ _ _ _ _ _ (makes-old c.new-keep.ensures.items (c.in_ok-expression_to.ensures scope))
    c.args.wanted (subst (λ take. Adds c.args.out.now.items c.add_pick.new.out.items (pick_act
    c.args.self.now.path.now c.args.stmt take c.expression_to.new.out.items)) c.take_of.ensures added))
    c.add_pick.ensures

pub condition-returns-clause-made : goal.condition-returns-clause-made
condition-returns-clause-made t c = λ scope.
    makes-condition _ _ _ _ _ _ c.type_of.result _ _ _ _ scope.naming c.in_ok-to.ensures.0 (to-low
    c.in_ok-to.ensures.1 (c.in_ok-given_to.ensures (scope-var _ _ _ _ _ _ c.in_ok-to.ensures.1 (grows-same _)
    scope)))

pub assign-returns : goal.assign-returns
assign-returns t c =
    on_ok_weaker c.given_to.result (λ made is_frame. makes-assign _ _ _ c.args.self.now.frame _
    is_frame.naming c.args.stmt c.args.var c.args.value.now _ _ _ _ _ c.in_ok-to.ensures (subst
    (λ (v : Variable). Assigns c.args.self.now (λ p frame. given_part p frame c.args.stmt (wanted.Value v.t)
    c.args.value.now) (has_call c.args.value.now) c.in_ok-to.to c.args.declared.now c.given_to.new.declared
    c.args.out.now.items c.given_to.new.out.items) c.variable_of-t.ensures made (scope-of _ _ _ _ is_frame)))
    c.given_to.ensures

pub store-returns : goal.store-returns
store-returns t c =
    on_ok_weaker c.add_pick.result (λ added is_frame. makes-high c.give_back.ensures.same (store-made _ _ _
    c.args.self.now.frame _ is_frame c.args.stmt c.args.array c.args.index.now c.args.value.now _ _ _ _ _ _ _
    _ _ _ _ _ _ _ c.in_ok-number.ensures c.new-keep.ensures.items c.has_call-settled.ensures
    c.in_ok-index.ensures c.in_ok-value.ensures (adds-save _ _ _ _ _ _ c.in_ok-add.ensures)
    c.moment-since.ensures c.in_ok-give_back.ensures.wipes added)) c.add_pick.ensures

pub init_array-returns : goal.init_array-returns
init_array-returns t c =
    on_ok_weaker c.add_pick.result (λ added is_frame. makes-high c.give_back.ensures.same (init-made _ _ _
    c.args.self.now.frame _ is_frame c.args.stmt c.args.array c.args.values.now _ _ _ _ _ _ _ _ _ _ _ _ _
    c.in_ok-number.ensures c.new-keep.ensures.items c.in_ok-filled.ensures c.in_ok-values.ensures (adds-fill _
    _ _ _ c.in_ok-add.ensures) c.moment-since.ensures c.in_ok-give_back.ensures.wipes added))
    c.add_pick.ensures

pub call_statement-returns : goal.call_statement-returns
call_statement-returns t c =
    on_ok_weaker c.add_pick.result (λ added is_frame. makes-high c.give_back.ensures.same (makes-call_stmt _ _
    _ c.args.self.now.frame _ _ is_frame.naming c.args.stmt _ _ _ _ (wipes-since c.moment-since.ensures
    c.in_ok-give_back.ensures.wipes) c.args.call c.args.function c.args.args.now c.in_ok-call_value.field-0
    (makes-old c.new-keep.ensures.items (c.in_ok-call_value.ensures (scope-of _ _ _ _ is_frame)).makes)
    added)) c.add_pick.ensures

pub print-returns : goal.print-returns
print-returns t c =
    on_ok_weaker c.add_pick.result (λ added is_frame. makes-high c.give_back.ensures.same (makes-print _ _ _
    c.args.self.now.frame _ _ is_frame.naming c.args.stmt _ _ _ _ (wipes-since c.moment-since.ensures
    c.in_ok-give_back.ensures.wipes) c.args.args.now _ c.in_ok-expressions.field-0.items (makes-old
    c.new-keep.ensures.items (c.in_ok-expressions.ensures (scope-of _ _ _ _ is_frame)).makes) added))
    c.add_pick.ensures

-- STATEMENTS

pub statement-returns-in-Block : goal.statement-returns-in-Block
statement-returns-in-Block t c =
    on_ok_weaker c.statements.result (λ made is_frame. makes-as _ _ _ _ _ _ _ _ _ _ (λ w back t s. form-Block
    _ c.args.self.now.frame c.args.stmt.now w back t s c.in-Block.body _ c.in-Block.is
    c.as_slice.ensures.value) (made is_frame)) c.statements.ensures

pub statement-returns-in-Declare : goal.statement-returns-in-Declare
statement-returns-in-Declare t c =
    on_ok_weaker c.declare.result (λ made is_frame. makes-as _ _ _ _ _ _ _ _ _ _ (λ w back t s. form-Declare _
    c.args.self.now.frame c.args.stmt.now w back t s c.in-Declare.var c.in-Declare.is) (made
    c.args.self.now.frame c.args.self.now.path.now is_frame)) c.declare.ensures

pub statement-returns-in-Init : goal.statement-returns-in-Init
statement-returns-in-Init t c =
    on_ok_weaker c.assign.result (λ made is_frame. makes-as _ _ _ _ _ _ _ _ _ _ (λ w back t s. form-Init _
    c.args.self.now.frame c.args.stmt.now w back t s c.in-Init.stmt c.in-Init.var c.in-Init.value
    c.in-Init.is) (made is_frame)) c.assign.ensures

pub statement-returns-in-InitArray : goal.statement-returns-in-InitArray
statement-returns-in-InitArray t c =
    on_ok_weaker c.init_array.result (λ made is_frame. makes-as _ _ _ _ _ _ _ _ _ _ (λ w back t s.
    form-InitArray _ c.args.self.now.frame c.args.stmt.now w back t s c.in-InitArray.stmt c.in-InitArray.array
    c.in-InitArray.values _ c.in-InitArray.is c.as_slice-in-InitArray.ensures.value) (made is_frame))
    c.init_array.ensures

pub statement-returns-in-Assign : goal.statement-returns-in-Assign
statement-returns-in-Assign t c =
    on_ok_weaker c.assign-in-Assign.result (λ made is_frame. makes-as _ _ _ _ _ _ _ _ _ _ (λ w back t s.
    form-Assign _ c.args.self.now.frame c.args.stmt.now w back t s c.in-Assign.stmt c.in-Assign.var
    c.in-Assign.value c.in-Assign.is) (made is_frame)) c.assign-in-Assign.ensures

pub statement-returns-in-Store : goal.statement-returns-in-Store
statement-returns-in-Store t c =
    on_ok_weaker c.store.result (λ made is_frame. makes-as _ _ _ _ _ _ _ _ _ _ (λ w back t s. form-Store _
    c.args.self.now.frame c.args.stmt.now w back t s c.in-Store.stmt c.in-Store.array c.in-Store.index
    c.in-Store.value c.in-Store.is) (made is_frame)) c.store.ensures

pub statement-returns-in_ok-optional-in-If : goal.statement-returns-in_ok-optional-in-If
statement-returns-in_ok-optional-in-If t c =
    let zero = c.in_ok-add_zero-in-If.ensures in
    let zero_2 = c.in_ok-add_zero-in-If-2.ensures in
    on_ok_weaker c.wrap_branches.result (λ put is_frame.
    let test = c.in_ok-to-in-If.ensures.made (scope-of _ _ _ _ is_frame) in
    let at_first = frame-later _ _ _ _ _ test.grows is_frame in
    let one = c.in_ok-statement-in-If.ensures at_first in
    let two = c.in_ok-optional-in-If.ensures (frame-later _ _ _ _ _ one.grows at_first) in
    let yeses = zero.nodes ++ one.nodes in
    let noes = zero_2.nodes ++ two.nodes in
    let is_one = joined c.condition.new.out.items c.add_zero.new.out.items c.statement.new.out.items
    zero.nodes one.nodes zero.is one.is in
    let is_two = joined c.statement.new.out.items c.add_zero-in-If.new.out.items c.optional.new.out.items
    zero_2.nodes two.nodes zero_2.is two.is ∙ ap (λ ns. ns ++ noes) is_one in
    if-made _ _ _ c.args.self.now.frame _ is_frame c.args.stmt.now c.in-If.stmt c.in-If.when c.in-If.yes
    c.in-If.no c.deref.result.now _ _ _ _ _ _ _ [] zero.nodes yeses [] zero_2.nodes noes c.in-If.is
    c.deref.ensures refl refl c.in_ok-to-in-If.ensures.number c.in_ok-to-in-If.ensures.made (adds-alone zero)
    (λ at. makes-from zero.nodes one) (adds-alone zero_2) (λ at. makes-from zero_2.nodes two) (put
    c.condition.new.out.items yeses noes (c.len-start.ensures ∙ nodes-len c.condition.new.out)
    (c.len-middle.ensures ∙ nodes-len c.statement.new.out ∙ ap length is_one) is_two)) c.wrap_branches.ensures

pub statement-returns-in-Switch : goal.statement-returns-in-Switch
statement-returns-in-Switch t c =
    on_ok_weaker c.switch.result (λ made is_frame. makes-as _ _ _ _ _ _ _ _ _ _ (λ w back t s. form-Switch _
    c.args.self.now.frame c.args.stmt.now w back t s c.in-Switch.stmt c.in-Switch.t c.in-Switch.on
    c.in-Switch.starts c.in-Switch.other c.in-Switch.body _ _ c.in-Switch.is
    c.as_slice-in-Switch.ensures.value c.as_slice-in-Switch-2.ensures.value) (made is_frame)) c.switch.ensures

pub statement-returns-in-While : goal.statement-returns-in-While
statement-returns-in-While t c =
    on_ok_weaker c.repeat.result (λ made is_frame. makes-as _ _ _ _ _ _ _ _ _ _ (λ w back t s. form-While _
    c.args.self.now.frame c.args.stmt.now w back t s c.in-While.stmt c.in-While.when c.in-While.body _
    c.in-While.is c.deref-in-While.ensures) (made is_frame)) c.repeat.ensures

pub statement-returns-in-DoWhile : goal.statement-returns-in-DoWhile
statement-returns-in-DoWhile t c =
    on_ok_weaker c.repeat-in-DoWhile.result (λ made is_frame. makes-as _ _ _ _ _ _ _ _ _ _ (λ w back t s.
    form-DoWhile _ c.args.self.now.frame c.args.stmt.now w back t s c.in-DoWhile.stmt c.in-DoWhile.when
    c.in-DoWhile.body _ c.in-DoWhile.is c.deref-in-DoWhile.ensures) (made is_frame))
    c.repeat-in-DoWhile.ensures

pub statement-returns-in_ok-statements-in-For : goal.statement-returns-in_ok-statements-in-For
statement-returns-in_ok-statements-in-For t c =
    let first = c.as_slice-in-For.result.now in
    let parts = parts_of false c.in-For.stmt c.in-For.when c.deref-in-For.result.now
    c.as_slice-in-For-2.result.now in
    on_ok_weaker c.repeat-in-For.result (λ more is_frame.
    let made = c.in_ok-statements-in-For.ensures is_frame in
    makes-as _ _ _ _ (row_part (λ w back. exec_all (context_in_frame _ c.args.self.now.frame w) back first)
    (loop_now _ c.args.self.now.frame parts)) _ _ _ _ _ (λ w back t s. form-For _ c.args.self.now.frame
    c.args.stmt.now w back t s c.in-For.stmt c.in-For.first c.in-For.when c.in-For.step c.in-For.body _ _ _
    c.in-For.is c.as_slice-in-For.ensures.value c.as_slice-in-For-2.ensures.value c.deref-in-For.ensures)
    (makes-row _ _ _ _ _ (λ w back. exec_all (context_in_frame _ c.args.self.now.frame w) back first)
    (loop_now _ c.args.self.now.frame parts) _ _ _ _ _ _ made (more (frame-later _ _ _ _ _ made.grows
    is_frame)))) c.repeat-in-For.ensures

pub statement-returns-in-Break : goal.statement-returns-in-Break
statement-returns-in-Break t c =
    on_ok_weaker c.add_leave.result (λ added is_frame. makes-break _ _ _ c.args.self.now.frame _
    is_frame.naming c.args.stmt.now _ _ c.in-Break.is (subst (λ label. Adds c.args.out.now.items
    c.add_leave.new.out.items (leave_act label)) c.break_label.ensures (adds-leave _ _ _ added)))
    c.add_leave.ensures

pub statement-returns-in-Continue : goal.statement-returns-in-Continue
statement-returns-in-Continue t c =
    on_ok_weaker c.add_leave-in-Continue.result (λ added is_frame. makes-continue _ _ _ c.args.self.now.frame
    _ is_frame.naming c.args.stmt.now _ _ c.in-Continue.is (subst (λ label. Adds c.args.out.now.items
    c.add_leave-in-Continue.new.out.items (leave_act label)) c.continue_label.ensures (adds-leave _ _ _
    added))) c.add_leave-in-Continue.ensures

pub statement-returns-in_ok-given_to-in-Return : goal.statement-returns-in_ok-given_to-in-Return
statement-returns-in_ok-given_to-in-Return t c =
    on_ok_weaker c.add_leave-in-Return.result (λ added is_frame. makes-return _ _ _ c.args.self.now.frame _
    is_frame.naming c.args.stmt.now c.in-Return.stmt c.in-Return.value _ _ _ _ _ c.in-Return.is (subst (λ ty.
    Assigns c.args.self.now (λ p frame. given_part p frame c.in-Return.stmt (wanted.Value ty)
    c.in-Return.value) (has_call c.in-Return.value) c.args.self.now.frame.home c.args.declared.now
    c.given_to.new.declared c.args.out.now.items c.given_to.new.out.items) c.unwrap_or-t.ensures
    c.in_ok-given_to-in-Return.ensures (scope-of _ _ _ _ is_frame)) (adds-leave _ _ _ added))
    c.add_leave-in-Return.ensures

pub statement-returns-in_ok-add_zero-in-ReturnNone : goal.statement-returns-in_ok-add_zero-in-ReturnNone
statement-returns-in_ok-add_zero-in-ReturnNone t c =
    on_ok_weaker c.add_leave-in-ReturnNone.result (λ added is_frame. makes-return-none _ _ _
    c.args.self.now.frame _ is_frame.naming c.args.stmt.now _ _ _ c.in-ReturnNone.is
    c.in_ok-add_zero-in-ReturnNone.ensures (adds-leave _ _ _ added)) c.add_leave-in-ReturnNone.ensures

pub statement-returns-in-CallStmt : goal.statement-returns-in-CallStmt
statement-returns-in-CallStmt t c =
    on_ok_weaker c.call_statement.result (λ made is_frame. makes-as _ _ _ _ _ _ _ _ _ _ (λ w back t s.
    form-CallStmt _ c.args.self.now.frame c.args.stmt.now w back t s c.in-CallStmt.stmt c.in-CallStmt.call
    c.in-CallStmt.function c.in-CallStmt.args _ c.in-CallStmt.is c.as_slice-in-CallStmt.ensures.value) (made
    is_frame)) c.call_statement.ensures

pub statement-returns-in-Print : goal.statement-returns-in-Print
statement-returns-in-Print t c =
    on_ok_weaker c.print.result (λ made is_frame. makes-as _ _ _ _ _ _ _ _ _ _ (λ w back t s. form-Print _
    c.args.self.now.frame c.args.stmt.now w back t s c.in-Print.stmt c.in-Print.args _ c.in-Print.is
    c.as_slice-in-Print.ensures.value) (made is_frame)) c.print.ensures

pub statement-returns-in_ok-add_assert-in-Assert : goal.statement-returns-in_ok-add_assert-in-Assert
statement-returns-in_ok-add_assert-in-Assert t c =
    on_ok_weaker c.give_back.result (λ wipes is_frame. makes-high c.give_back.ensures.same (does-cleared _ _ _
    _ c.args.self.now.frame _ _ _ _ _ _ is_frame.naming (makes-assert _ _ _ c.args.self.now.frame _
    is_frame.naming c.args.stmt.now c.in-Assert.stmt c.in-Assert.when _ _ _ _ _ _ _ c.in-Assert.is
    (c.in_ok-value-in-Assert.ensures (scope-of _ _ _ _ is_frame)) (adds-assert _ _ _ _
    c.in_ok-add_assert-in-Assert.ensures)) (wipes-since c.moment-since.ensures wipes)))
    c.give_back.ensures.wipes

pub optional-returns-in-None : goal.optional-returns-in-None
optional-returns-in-None t c = λ is_frame.
    makes-no-code _ _ _ c.args.self.now.frame _ is_frame.naming (optional_part _ c.args.self.now.frame
    c.args.stmt.now) _ (λ w back t s. ap (λ o. optional_now (program_of c.args.self.now) c.args.self.now.frame
    o w back s) c.in-None.is)

pub statements-loop-stmt-init : goal.statements-loop-stmt-init
statements-loop-stmt-init t c = λ is_frame. stmts-none _ _ _ c.args.self.now.frame _ _ is_frame.naming

pub statements-loop-stmt-preserved : goal.statements-loop-stmt-preserved
statements-loop-stmt-preserved t c = λ is_frame.
    let made = c.loop-stmt.invariant is_frame in
    stmts-more _ _ _ c.args.self.now.frame c.args.body.now _ c.stmt-item.result _ _ _ _ _ _
    c.loop-stmt-test.true c.stmt-item.is made (c.in_ok-statement.ensures (frame-later _ _ _ _ _ made.grows
    is_frame))

pub statements-returns : goal.statements-returns
statements-returns t c =
    subst (λ body. Executes c.args.self.now (λ p frame. stmts_part p frame body) c.args.declared.now
    c.loop-stmt.declared c.args.out.now.items c.loop-stmt.out.items) (take_all c.loop-stmt.stmt-index
    c.args.body.now (search rules)) c.loop-stmt.invariant

pub statements-statement-requires : goal.statements-statement-requires
statements-statement-requires t c =
    let h : height c.stmt-item.result < heights c.args.body.now = item-below height c.args.body.now
    c.loop-stmt.stmt-index c.stmt-item.result (search rules) (search rules) in
    search (rules, h)

pub repeat-returns : goal.repeat-returns
repeat-returns t c =
    let site = c.args.self.now in
    let inside = c.as_slice.ensures.value ∙ c.in_ok-path.ensures in
    let zero = c.in_ok-add_zero.ensures in
    on_ok_weaker c.add_zero-2.result (λ last is_frame.
    let test = c.in_ok-to.ensures.made (scope-of _ _ _ _ is_frame) in
    let at_test = frame-later _ _ _ _ _ test.grows is_frame in
    let body = c.in_ok-statement.ensures (subst (λ (f : Frame). IsFrame (program_of site) f.home
    site.scope.now c.condition.new.declared) (sym c.in_body.ensures) at_test) in
    let at_body = frame-later _ _ _ _ _ body.grows at_test in
    let step = c.in_ok-statements.ensures (subst (λ (f : Frame). IsFrame (program_of site) f.home
    site.scope.now c.statement.new.declared) (sym c.in_step.ensures) at_body) in
    let bodies = zero.nodes ++ body.nodes in
    let is_body = joined c.condition.new.out.items c.add_zero.new.out.items c.statement.new.out.items
    zero.nodes body.nodes zero.is body.is ∙ ap (λ ns. ns ++ bodies) test.is in
    let put = c.in_ok-wrap_loop.ensures c.args.out.now.items test.nodes bodies step.nodes (c.len-start.ensures
    ∙ nodes-len c.args.out.now) (c.len-head_end.ensures ∙ nodes-len c.condition.new.out ∙ ap length test.is)
    (c.len-body_end.ensures ∙ nodes-len c.statement.new.out ∙ ap length is_body) (step.is ∙ ap (λ ns. ns ++
    step.nodes) is_body) in
    loop-made _ _ _ c.args.self.now.frame _ is_frame (parts_of c.args.after c.args.stmt c.args.when.now
    c.args.body.now c.args.step.now) c.in_body.result c.in_step.result _ _ _ _ _ _ _ _ _ _ [] test.nodes []
    zero.nodes bodies [] put.turned [] step.nodes [] put.loops inside inside inside refl refl refl refl refl
    c.in_body.ensures c.in_step.ensures c.in_ok-to.ensures.number (λ scope. makes-from [] test) (adds-alone
    zero) (λ at. makes-from zero.nodes body) put.turn (λ at. makes-from [] step) put.whole put.outer last)
    c.add_zero-2.ensures

-- SWITCHES

pub switch-returns : goal.switch-returns
switch-returns t c =
    let start = c.len-start.ensures ∙ nodes-len c.args.out.now in
    let labels = c.args.labels.now in
    on_ok_weaker c.wipe.result (λ wipes is_frame. does-cleared _ _ _ _ c.args.self.now.frame _ _ _ _ _ _
    is_frame.naming (switch-made _ _ _ c.args.self.now.frame c.in_step.result _ labels.stmt labels.t
    c.args.on.now labels.starts.now labels.other c.args.body.now c.in_ok-to.to _ c.given_to.new.declared
    c.entry_flags.new.declared _ _ _ _ c.given_to.new.out.items c.entry_flags.new.out.items _
    c.as_slice.result.now is_frame c.in_ok-to.ensures.0 c.in_ok-to.ensures.1 c.in_step.ensures
    c.in_ok-given_to.ensures (rw c.as_slice.ensures.value c.in_ok-flags.ensures.made) (ap length
    c.as_slice.ensures.value ∙ c.in_ok-flags.ensures.long) (λ inner long settled. c.in_ok-guarded.ensures long
    settled inner) (λ made is. c.in_ok-wrap_block.ensures c.args.out.now.items made start is)) (wipes-since
    c.moment-since.ensures wipes)) c.wipe.ensures

pub guarded-loop-place-init : goal.guarded-loop-place-init
guarded-loop-place-init t c = λ long settled is_frame.
    grouped-none _ _ _ c.args.self.now.frame _ is_frame.naming _ _ c.new.ensures.items

pub guarded-loop-place-preserved : goal.guarded-loop-place-preserved
guarded-loop-place-preserved t c = λ long settled is_frame.
    let site = c.args.self.now in
    let so_far = c.loop-place.invariant long settled is_frame in
    let stmt = c.index-body-place.result in
    let more = grouped-more _ _ _ c.args.self.now.frame _ is_frame.naming c.loop-place.declared
    c.statement.new.declared _ _ _ _ _ _ _ c.flag_at.result _ _ _ stmt so_far (flag-settled (with_home
    c.args.self.now.frame.home site.scope.now) c.args.declared.now c.args.flags.now c.loop-place.place
    c.flag_at.result settled c.flag_at.ensures) c.in_ok-group.ensures (c.in_ok-statement.ensures (frame-later
    _ _ _ _ _ (grouped-grows so_far) is_frame)) in
    subst (λ body. IsGrouped (program_of site) site.scope.now site.path.now site.frame c.args.declared.now
    c.statement.new.declared c.args.out.now.items c.group_for.new.out.items c.statement.new.out.items
    c.in_ok-group.group.when body (take (c.loop-place.place + 1) c.args.flags.now)) (sym (next-taken
    c.args.body.now c.loop-place.place stmt stmt c.loop-place-test.true c.index-body-place.is)) (subst
    (λ flags. IsGrouped (program_of site) site.scope.now site.path.now site.frame c.args.declared.now
    c.statement.new.declared c.args.out.now.items c.group_for.new.out.items c.statement.new.out.items
    c.in_ok-group.group.when (take c.loop-place.place c.args.body.now ++ stmt ∷ []) flags) (sym (next-taken
    c.args.flags.now c.loop-place.place c.flag_at.result (Const (pos 0)) (search rules) c.flag_at.ensures))
    more)

pub guarded-returns : goal.guarded-returns
guarded-returns t c =
    let site = c.args.self.now in
    on_ok_weaker c.add_where.result (λ added long settled. subst (λ body. Executes site (λ p frame.
    guarded_part p frame body c.args.flags.now) c.args.declared.now c.loop-place.declared c.args.out.now.items
    c.add_where.new.out.items) (take_all c.loop-place.place c.args.body.now (search rules)) (subst (λ flags.
    Executes site (λ p frame. guarded_part p frame (take c.loop-place.place c.args.body.now) flags)
    c.args.declared.now c.loop-place.declared c.args.out.now.items c.add_where.new.out.items) (take_all
    c.loop-place.place c.args.flags.now (search rules)) (λ is_frame. makes-group _ _ _ c.args.self.now.frame _
    is_frame.naming _ _ _ _ _ _ _ _ (c.loop-place.invariant long settled is_frame) added)))
    c.add_where.ensures

pub guarded-statement-requires : goal.guarded-statement-requires
guarded-statement-requires t c =
    let h : height c.index-body-place.result < heights c.args.body.now = item-below height c.args.body.now
    c.loop-place.place c.index-body-place.result (search rules) (search rules) in
    search (rules, h)
