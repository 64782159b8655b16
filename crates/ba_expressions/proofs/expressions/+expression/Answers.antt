use Rattle.std.proofs.Common.{◌≡◌, ℕ, ◌+◌, true, not, length, slice_get, Ok, List, [], ◌∷◌, ◌++◌, option_map, map, drop, cond, refl, sym, ◌∙◌, ap, subst, arith}
use Rattle.std.specs.Borrow.{Bor}
use Rattle.std.specs.Option.{is_some}
use Rattle.ba_trees.specs.declared.tree.expressions.Conditional.{out-Conditional}
use Rattle.ba_trees.specs.declared.tree.expressions.Branches.{out-Branches}
use Rattle.ba_trees.specs.declared.tree.expressions.Chain.{out-Chain}
use Rattle.ba_trees.specs.declared.tree.expressions.Expressions.{out-Expressions}
use Rattle.ba_trees.specs.declared.tree.expressions.Operand.{out-Operand}
use Rattle.ba_typing.specs.Expressions.{Typed, Typing, after_chains, params_of_called, typed_arg, typed_args, typed_arguments, typed_binary, typed_call, typed_cast, typed_chain, typed_conditional, typed_element, typed_next, typed_operand, typed_primary, typed_unary, typed_unary_expression, whole_operand, with_more_faults}
use Rattle.ba_typing.specs.Faults.{fault_if, array_name_faults, limit_faults, height_limit, tag_faults}
use Rattle.ba_expressions.specs.Inferring.{Gives, GivesArg, Stands, Infers, after, with_faults, faults_of_arg, faults_of_args, calls_of_args, AreArgs}
use Rattle.ba_typing.specs.Names.{binary_operator, meaning_of, name_of, punct_of, tag_of, unary_operator, words_of}
use Rattle.ba_typing.specs.declared.fault.Cause.TheVariants.{WrongKind}
use Rattle.ba_typing.specs.declared.meanings.Signature.{Signature}
use Rattle.ba_expressions.proofs.ArgumentSteps.{Looked, arg-calls, arg-height, as-many, looked-all, looked-more, looked-none, usage-faults}
use Rattle.ba_expressions.proofs.ParsedForms as forms
use Rattle.ba_expressions.proofs.Tallies.{after-as, faults-before, faults-twice}
use Rattle.ba_expressions.proofs.Walking.{cast-calls, chain-step, element-calls, element-faults, gives-called, gives-over, gives-select, nothing-more, tagged-casts, tagged-faults, unary-calls, unary-faults}
use Rattle.ba_typing.proofs.Walks.{next_item, none_left}
use Rattle.ba_expressions.proofs.expressions.+expression.Goals as goal

-- CONDITIONAL EXPRESSIONS

pub conditional-returns-in-None : goal.conditional-returns-in-None
conditional-returns-in-None t c =
    subst (λ s. Stands c.in_ok-test.test s c.args.tally.now c.operand.new.tally)
    (sym (forms.conditional-plain c.args.c.now c.args.scope.now c.args.tally.now.calls c.in-None.is))
    c.in_ok-test.ensures

pub conditional-returns-in_ok-fails-in-Some : goal.conditional-returns-in_ok-fails-in-Some
conditional-returns-in_ok-fails-in-Some t c =
    let scope = c.args.scope.now in
    let b = c.in-Some.branches in
    let one = c.operand.new.tally in let two = c.conditional.new.tally in
    subst (λ s. Gives s c.args.tally.now c.conditional-in-Some.new.tally c.select.result)
    (sym (forms.conditional-selects c.args.c.now scope c.args.tally.now.calls b c.in-Some.is))
    (gives-select (whole_operand (typed_operand (out-Conditional c.args.c.now).test) scope)
    (typed_conditional (out-Branches
    b).holds.value scope)
    (typed_conditional (out-Branches b).fails.value scope) c.in_ok-test.test c.in_ok-holds-in-Some.holds
    c.in_ok-fails-in-Some.fails
    c.args.tally.now one two c.conditional-in-Some.new.tally c.select.result c.in_ok-test.ensures
    (subst (λ e. Stands c.in_ok-holds-in-Some.holds (typed_conditional e scope one.calls) one two)
    c.deref.ensures c.in_ok-holds-in-Some.ensures)
    (subst (λ e. Stands c.in_ok-fails-in-Some.fails (typed_conditional e scope two.calls) two
    c.conditional-in-Some.new.tally) c.deref-in-Some.ensures
    c.in_ok-fails-in-Some.ensures)
    c.select.ensures)

-- CHAINS

pub operand-loop-c-init : goal.operand-loop-c-init
operand-loop-c-init t c =
    let scope = c.args.scope.now in let calls = c.args.tally.now.calls in
    let s = typed_unary_expression (out-Operand c.args.o.now).first scope calls in (
      s,
      c.in_ok-left.ensures,
      ap (λ xs. after_chains scope calls s (map typed_chain xs)) c.deref-c-items.ensures.value
          ∙ sym (ap (λ o. whole_operand o scope calls) (forms.operand-is c.args.o.now)),
    )

pub operand-loop-c-preserved : goal.operand-loop-c-preserved
operand-loop-c-preserved t c =
    let scope = c.args.scope.now in let old = c.args.tally.now in
    let so_far = c.loop-c.invariant in
    let items = c.deref-c-items.result.now in (
      (typed_chain c.c-item.result).over scope old.calls so_far.0,
      c.in_ok-left-2.ensures old so_far.0 so_far.1,
      subst (λ xs. after_chains scope old.calls so_far.0 (map typed_chain xs) ≡ whole_operand
          (typed_operand c.args.o.now)
          scope old.calls)
          (next_item items c.loop-c.c-index c.c-item.result c.loop-c-test.true c.c-item.is) so_far.2,
    )

pub operand-returns : goal.operand-returns
operand-returns t c =
    let scope = c.args.scope.now in let old = c.args.tally.now in
    let all = c.loop-c.invariant in
    subst (λ s. Stands c.loop-c.left s old c.loop-c.tally)
    (subst (λ xs. after_chains scope old.calls all.0 (map typed_chain xs) ≡ whole_operand (typed_operand
    c.args.o.now) scope
    old.calls)
    (none_left c.deref-c-items.result.now c.loop-c.c-index c.loop-c-test.false) all.2) all.1

pub chain-returns-in-None : goal.chain-returns-in-None
chain-returns-in-None t c base s stands =
    let scope = c.args.scope.now in
    let ordered = sym c.is_left_to_right.ensures ∙ c.if-not-is_left_to_right.false in
    let which = c.binary_operator-operator.ensures ∙ ap binary_operator c.punct_of.ensures in
    subst (λ x. Stands c.in_ok-left.left x base c.operand.new.tally)
    (sym (forms.chain-last c.args.c.now ordered scope base.calls s c.in-None.is))
    (chain-step (binary_operator (punct_of (out-Chain c.args.c.now).operator)) (whole_operand
    (typed_operand (out-Chain
    c.args.c.now).operand) scope) base c.args.tally.now
    c.operand.new.tally s c.args.left c.in_ok-right.right c.in_ok-left.left stands c.in_ok-right.ensures
    (subst (λ op. (s u : Typed) → Infers c.args.left s → Infers c.in_ok-right.right u
    → Infers c.in_ok-left.left (typed_binary op s u)) which c.in_ok-left.ensures))

pub chain-returns-in-Some : goal.chain-returns-in-Some
chain-returns-in-Some t c base s stands =
    let scope = c.args.scope.now in
    let ordered = sym c.is_left_to_right.ensures ∙ c.if-not-is_left_to_right.false in
    let which = c.binary_operator-operator.ensures ∙ ap binary_operator c.punct_of.ensures in
    let u = typed_binary (binary_operator (punct_of (out-Chain c.args.c.now).operator)) s
    (whole_operand (typed_operand (out-Chain c.args.c.now).operand) scope (base.calls + s.calls)) in
    subst (λ x. Gives x base c.chain.new.tally c.chain.result)
    (sym (forms.chain-more c.args.c.now ordered scope base.calls s c.in-Some.rest c.in-Some.is))
    (subst (λ rest. Gives ((typed_chain rest).over scope base.calls u) base c.chain.new.tally c.chain.result)
    c.deref.ensures
    (c.chain.ensures base u
    (chain-step (binary_operator (punct_of (out-Chain c.args.c.now).operator)) (whole_operand
    (typed_operand (out-Chain
    c.args.c.now).operand) scope) base c.args.tally.now
    c.operand.new.tally s c.args.left c.in_ok-right.right c.in_ok-left.left stands c.in_ok-right.ensures
    (subst (λ op. (s u : Typed) → Infers c.args.left s → Infers c.in_ok-right.right u
    → Infers c.in_ok-left.left (typed_binary op s u)) which c.in_ok-left.ensures))))

-- UNARY AND PRIMARY EXPRESSIONS

pub unary-returns-in_ok-a-in-Prefix : goal.unary-returns-in_ok-a-in-Prefix
unary-returns-in_ok-a-in-Prefix t c =
    let scope = c.args.scope.now in let old = c.args.tally.now in let new = c.unary.new.tally in
    let at = c.in-Prefix.operator.at in
    let op = c.unary_operator.result in
    let which = c.unary_operator.ensures ∙ ap unary_operator c.punct_of.ensures in
    let typing = λ (n : ℕ). typed_unary_expression c.in-Prefix.operand.value scope n in
    let r = c.unary-in-Prefix.result in
    subst (λ s. Gives s old new r)
    (sym (ap (λ u. typed_unary_expression u scope old.calls) c.in-Prefix.is
    ∙ forms.prefix-is c.in-Prefix.operator c.in-Prefix.operand scope old.calls))
    (subst (λ op. Gives (typed_unary at op (typing old.calls)) old new r) which
    (gives-over (typed_unary at op) typing [] c.in_ok-a-in-Prefix.a old old new r refl
    (subst (λ e. Stands c.in_ok-a-in-Prefix.a (typed_unary_expression e scope old.calls) old new)
    c.deref.ensures
    c.in_ok-a-in-Prefix.ensures)
    (unary-calls at op) (unary-faults at op) c.unary-in-Prefix.ensures))

pub unary-returns-in_ok-a-in-Cast : goal.unary-returns-in_ok-a-in-Cast
unary-returns-in_ok-a-in-Cast t c =
    let scope = c.args.scope.now in let old = c.args.tally.now in let new = c.unary-in-Cast.new.tally in
    let at = c.in-Cast.«open».at in
    let to = c.type_named-to.result in
    let tag = tag_faults scope (tag_of (words_of c.in-Cast.name)) in
    let tagged = c.add_tag_faults.new.tally in let mid = c.add_if.new.self in
    let typing = λ (n : ℕ). typed_unary_expression c.in-Cast.operand.value scope n in
    let r = c.cast.result in
    subst (λ s. Gives s old new r)
    (sym (ap (λ u. typed_unary_expression u scope old.calls) c.in-Cast.is
    ∙ forms.cast-is c.in-Cast.«open» c.in-Cast.name c.in-Cast.close c.in-Cast.operand scope old.calls))
    (subst (λ to. Gives (with_more_faults tag (typed_cast at to (typing old.calls))) old new r)
    c.type_named-to.ensures
    (gives-over (λ s. with_more_faults tag (typed_cast at to s)) typing
    (tag ++ fault_if (not (is_some to)) WrongKind at) c.in_ok-a-in-Cast.a old mid new r
    (faults-twice old tagged mid tag (fault_if (not (is_some to)) WrongKind at)
    (c.add_tag_faults.ensures ∙ ap (λ tag. with_faults old (tag_faults scope tag)) c.tag_of_type.ensures)
    (c.add_if.ensures ∙ ap (λ b. with_faults tagged (fault_if b WrongKind at)) c.is_void.ensures))
    (subst (λ e. Stands c.in_ok-a-in-Cast.a (typed_unary_expression e scope mid.calls) mid new)
    c.deref-in-Cast.ensures
    c.in_ok-a-in-Cast.ensures)
    (cast-calls at to) (tagged-faults at to tag) (tagged-casts at to tag c.in_ok-a-in-Cast.a r
    c.cast.ensures)))

pub unary-returns-in-Primary : goal.unary-returns-in-Primary
unary-returns-in-Primary t c =
    subst (λ s. Gives s c.args.tally.now c.primary.new.tally c.primary.result)
    (sym (ap (λ u. typed_unary_expression u c.args.scope.now c.args.tally.now.calls) c.in-Primary.is
    ∙ forms.primary-is _ c.args.scope.now c.args.tally.now.calls)) c.primary.ensures

pub primary-returns-in-Name : goal.primary-returns-in-Name
primary-returns-in-Name t c =
    subst (λ s. Gives s c.args.tally.now c.token_value.new.tally c.token_value.result)
    (sym (ap (λ p. typed_primary p c.args.scope.now c.args.tally.now.calls) c.in-Name.is
    ∙ forms.name-is c.in-Name.name c.args.scope.now c.args.tally.now.calls)) c.token_value.ensures

pub primary-returns-in_ok-index-in-Element : goal.primary-returns-in_ok-index-in-Element
primary-returns-in_ok-index-in-Element t c =
    let scope = c.args.scope.now in let old = c.args.tally.now in
    let name = c.in-Element.name in
    let m = c.meaning_of-meaning.result in
    let means = c.meaning_of-meaning.ensures ∙ ap (meaning_of scope) c.name_of.ensures in
    let typing = λ (n : ℕ). typed_conditional c.in-Element.index.value scope n in
    let mid = c.add_array_name_faults.new.tally in let new = c.conditional.new.tally in
    subst (λ s. Gives s old new c.element.result)
    (sym (ap (λ p. typed_primary p scope old.calls) c.in-Element.is
    ∙ forms.element-is c.in-Element.name c.in-Element.«open» c.in-Element.index c.in-Element.close scope
    old.calls))
    (subst (λ m. Gives (typed_element name.at m (typing old.calls)) old new c.element.result) means
    (gives-over (typed_element name.at m) typing (array_name_faults m name.at) c.in_ok-index-in-Element.index
    old mid new c.element.result
    c.add_array_name_faults.ensures
    (subst (λ e. Stands c.in_ok-index-in-Element.index (typed_conditional e scope mid.calls) mid new)
    c.deref.ensures c.in_ok-index-in-Element.ensures)
    (element-calls name.at m) (element-faults name.at m) c.element.ensures))

pub primary-returns-in_ok-j-in-Call : goal.primary-returns-in_ok-j-in-Call
primary-returns-in_ok-j-in-Call t c =
    let scope = c.args.scope.now in let old = c.args.tally.now in
    let name = c.in-Call.name in
    subst (λ s. Gives s old c.call.new.tally c.called.result)
    (sym (ap (λ p. typed_primary p scope old.calls) c.in-Call.is
    ∙ forms.call-is c.in-Call.name c.in-Call.«open» c.in-Call.arguments c.in-Call.close scope old.calls))
    (gives-called name.at c.in_ok-j-in-Call.j
    (typed_call true name.at (name_of name) (typed_arguments c.in-Call.arguments) scope old.calls) old
    c.call.new.tally
    c.called.result c.in_ok-j-in-Call.ensures.0 c.in_ok-j-in-Call.ensures.1 c.called.ensures)

pub primary-returns-in-Constant : goal.primary-returns-in-Constant
primary-returns-in-Constant t c =
    subst (λ s. Gives s c.args.tally.now c.token_value-in-Constant.new.tally c.token_value-in-Constant.result)
    (sym (ap (λ p. typed_primary p c.args.scope.now c.args.tally.now.calls) c.in-Constant.is
    ∙ forms.constant-is c.in-Constant.constant c.args.scope.now c.args.tally.now.calls))
    c.token_value-in-Constant.ensures

pub primary-returns-in_ok-j-in-Parenthesized : goal.primary-returns-in_ok-j-in-Parenthesized
primary-returns-in_ok-j-in-Parenthesized t c =
    let scope = c.args.scope.now in let old = c.args.tally.now in let new =
    c.conditional-in-Parenthesized.new.tally in
    let at = c.in-Parenthesized.«open».at in
    let j = c.in_ok-j-in-Parenthesized.j in
    subst (λ s. Stands c.beginning_at.result s old new)
    (sym (ap (λ p. typed_primary p scope old.calls) c.in-Parenthesized.is
    ∙ forms.parenthesized-is c.in-Parenthesized.«open» c.in-Parenthesized.expression
    c.in-Parenthesized.close scope old.calls))
    (gives-over {E = Unit {0}} (λ s. record s { first = at })
    (λ n. typed_conditional c.in-Parenthesized.expression.value scope n) [] j old old new (Ok
    c.beginning_at.result) refl
    (subst (λ e. Stands j (typed_conditional e scope old.calls) old new) c.deref-in-Parenthesized.ensures
    c.in_ok-j-in-Parenthesized.ensures)
    (λ s. refl) (λ s. refl) c.beginning_at.ensures)

-- CALLS

pub argument-returns : goal.argument-returns
argument-returns t c =
    let scope = c.args.scope.now in let old = c.args.tally.now in
    let s = typed_conditional c.args.c.now scope old.calls in
    let e = typed_arg scope c.args.param s in
    let own = e.expression.faults in
    let high = ap (λ (s : Typed). s.height) c.in_ok-j.ensures.0 ∙ sym (arg-height scope c.args.param s) in
    let heights = λ (n : ℕ). limit_faults height_limit n c.args.usage.at in
    let n = c.in_ok-j.j.height in
    let by_value = c.args.usage.as_value in (
      c.in_ok-given.ensures.tree s c.in_ok-j.ensures.0,
      high,
      after-as old c.add_height_fault.new.tally s.calls e.expression.calls (cond by_value [] (heights n) ++
          own)
          (faults_of_arg c.args.usage e.expression) (sym (arg-calls scope c.args.param s))
          (usage-faults by_value (heights n) own ∙ ap (λ n. cond by_value own (heights n ++ own)) high)
          (faults-before old c.give.new.tally c.add_height_fault.new.tally s.calls own (cond by_value []
          (heights n))
          (c.in_ok-given.ensures.faults old s refl c.in_ok-j.ensures) c.add_height_fault.ensures),
    )

pub arguments-returns-in_default : goal.arguments-returns-in_default
arguments-returns-in_default t c =
    let scope = c.args.scope.now in let old = c.args.tally.now in
    let params = params_of_called (option_map (λ (s : Bor Signature). s.now) c.args.definition) in
    subst (λ typings. let es = typed_args scope old.calls params typings in
    AreArgs c.new-args.result es × (old ≡ after old (calls_of_args es) (faults_of_args c.args.usage es)))
    (sym (forms.arguments-none c.args.a.now c.in_default.is)) (c.new-args.ensures, nothing-more old)

pub arguments-loop-next-init : goal.arguments-loop-next-init
arguments-loop-next-init t c =
    let scope = c.args.scope.now in let old = c.args.tally.now in let usage = c.args.usage in
    let params = params_of_called (option_map (λ (s : Bor Signature). s.now) c.args.definition) in
    let e = c.in-Some.values in
    let first = typed_conditional (out-Expressions e).first.value in
    let left = map typed_next c.deref-next-items.result.now in
    let typings : typed_arguments c.args.a.now ≡ first ∷ left = forms.arguments-some c.args.a.now e
    c.in-Some.is
    ∙ ap (λ xs. first ∷ map typed_next xs) (sym c.deref-next-items.ensures.value) in
    let whole = λ (xs : List Typing). typed_args scope old.calls params xs in
    let arg = c.in_ok-argument.field-0 in
    let new = c.argument.new.tally in
    let made : GivesArg {E = Unit {0}} usage (typed_arg scope (slice_get params 0) (first scope old.calls))
    old new (Ok arg)
    = subst (λ p. GivesArg {E = Unit {0}} usage (typed_arg scope p (first scope old.calls)) old new (Ok arg))
    c.param_of.ensures
    (subst (λ x. GivesArg {E = Unit {0}} usage (typed_arg scope c.param_of.result (typed_conditional x scope
    old.calls)) old new (Ok arg))
    c.deref.ensures c.in_ok-argument.ensures) in
    let looked = subst (λ xs. Looked scope usage params (first ∷ left) (whole xs) c.new-args.result old old
    []) (sym typings)
    (looked-none scope usage params (first ∷ left) c.new-args.result old c.new-args.ensures) in (
      _,
      looked-more scope usage params first left (whole (typed_arguments c.args.a.now)) c.new-args.result
          c.push.new.self arg
          old old new [] looked made.0 made.1 made.2 c.in_ok-push.ensures,
    )

pub arguments-loop-next-preserved : goal.arguments-loop-next-preserved
arguments-loop-next-preserved t c =
    let scope = c.args.scope.now in let old = c.args.tally.now in let usage = c.args.usage in
    let params = params_of_called (option_map (λ (s : Bor Signature). s.now) c.args.definition) in
    let whole = typed_args scope old.calls params (typed_arguments c.args.a.now) in
    let items = c.deref-next-items.result.now in
    let i = c.loop-next.next-index in
    let x = c.next-item.result in
    let so_far = c.loop-next.invariant in
    let es = so_far.0 in
    let mid = c.loop-next.tally in let new = c.argument-in-loop-next.new.tally in
    let arg = c.in_ok-argument-2.field-0 in
    let looked : Looked scope usage params (typed_next x ∷ map typed_next (drop (i + 1) items)) whole
    c.loop-next.args old mid es
    = subst (λ xs. Looked scope usage params (map typed_next xs) whole c.loop-next.args old mid es)
    (next_item items i x c.loop-next-test.true c.next-item.is) so_far.1 in
    let many = as-many c.loop-next.args es looked.are in
    let number : c.len.result ≡ length es = omega (arith, c.len.ensures, many) in
    let made : GivesArg {E = Unit {0}} usage (typed_arg scope (slice_get params (length es)) (typed_next x
    scope mid.calls)) mid new (Ok arg)
    = subst (λ p. GivesArg {E = Unit {0}} usage (typed_arg scope p (typed_next x scope mid.calls)) mid new (Ok
    arg))
    (c.param_of-param.ensures ∙ ap (slice_get params) number)
    (subst (λ (f : Typing). GivesArg {E = Unit {0}} usage (typed_arg scope c.param_of-param.result (f scope
    mid.calls)) mid new (Ok arg))
    (sym (forms.next-is x)) c.in_ok-argument-2.ensures) in (
      _,
      looked-more scope usage params (typed_next x) (map typed_next (drop (i + 1) items)) whole
          c.loop-next.args
          c.push-in-loop-next.new.self arg old mid new es looked made.0 made.1 made.2 c.in_ok-push-2.ensures,
    )

pub arguments-returns : goal.arguments-returns
arguments-returns t c =
    let scope = c.args.scope.now in let old = c.args.tally.now in let usage = c.args.usage in
    let params = params_of_called (option_map (λ (s : Bor Signature). s.now) c.args.definition) in
    let whole = typed_args scope old.calls params (typed_arguments c.args.a.now) in
    let all = c.loop-next.invariant in
    looked-all scope usage params whole c.loop-next.args old c.loop-next.tally all.0
    (subst (λ xs. Looked scope usage params (map typed_next xs) whole c.loop-next.args old c.loop-next.tally
    all.0)
    (none_left c.deref-next-items.result.now c.loop-next.next-index c.loop-next-test.false) all.1)
