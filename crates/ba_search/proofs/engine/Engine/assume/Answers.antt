use Rattle.std.proofs.Common.{◌≡◌, ◌≢◌, Bool, true, false, not, Option, None, Some, is_some, sym, ap, ◌∙◌, arith, rules, inl, refl}
use Rattle.ba_search.proofs.AnswerLaws.{assumed_within, core_reason_some, core_answer}
use Rattle.ba_search.proofs.engine.Engine.assume.Goals as goal

-- a value that is there and not true is false
is_false : (o v : Option Bool) (b : Bool) → o ≡ v → is_some o ≡ not b → b ≡ false → v ≢ Some true →
    v ≡ Some false
is_false o None b e some absent untrue = absurd (step (ap is_some e ∙ refl) some absent)
  where
    step : is_some o ≡ false → is_some o ≡ not b → b ≡ false → ⊥
    step i s n = cc (sym i ∙ (s ∙ ap not n))
is_false o (Some true) b e some absent untrue = absurd (untrue refl)
is_false o (Some false) b e some absent untrue = refl

pub value-requires : goal.value-requires
value-requires c = omega (
  arith,
  assumed_within c.args.checker.now.variables c.args.assumptions.now
      c.args.assumption c.requires.assumptions c.requires.one,
  c.requires.underway.room,
)

pub decide_literal-requires-clause-within : goal.decide_literal-requires-clause-within
decide_literal-requires-clause-within c = omega (
  arith,
  assumed_within c.args.checker.now.variables c.args.assumptions.now c.args.assumption
      c.requires.assumptions c.requires.one,
  c.requires.underway.room,
)

pub returns-then-is_none : goal.returns-then-is_none
returns-then-is_none c = record {
  answer = search rules;
  less = c.decide_literal.ensures.less c.args.checker.now;
  underway = c.decide_literal.ensures.underway c.args.assumptions.now c.args.checker.now
      (record {
        within = assumed_within c.args.checker.now.variables c.args.assumptions.now c.args.assumption
            c.requires.assumptions c.requires.one;
        given = inl c.requires.one;
      })
      c.requires.underway;
  numbers = search rules;
  propagated = search rules;
}

pub core_of-requires-clause-within : goal.core_of-requires-clause-within
core_of-requires-clause-within c = omega (
  arith,
  assumed_within c.args.checker.now.variables
      c.args.assumptions.now c.args.assumption c.requires.assumptions c.requires.one,
  c.requires.underway.room,
)

pub core_of-requires-clause-reason : goal.core_of-requires-clause-reason
core_of-requires-clause-reason c =
    core_reason_some c.args.assumptions.now c.args.self.now.watch c.args.self.now.numbers c.args.checker.now
    c.keeps_facts.ensures c.requires.underway c.requires.assumptions c.args.assumption c.requires.one
    (is_false c.value.result _ c.is_none.result c.value.ensures c.is_none.ensures c.if-is_none.false
    c.requires.untrue)

pub returns : goal.returns
returns c = record {
  answer = core_answer c.args.assumptions.now c.args.self.now.watch c.args.self.now.numbers
      c.args.checker.now c.keeps_facts.ensures c.requires.underway c.requires.assumptions c.args.assumption
      c.requires.one
      (is_false c.value.result _ c.is_none.result c.value.ensures c.is_none.ensures c.if-is_none.false
      c.requires.untrue)
      c.in_ok-core.core.lits c.in_ok-core.core.hints c.in_ok-core.core.back c.in_ok-core.ensures.clause
      c.in_ok-core.ensures.follows c.in_ok-core.ensures.core c.in_ok-core.ensures.back
      (c.is_spent.ensures.left c.if-is_spent.false);
  less = search rules;
  underway = search rules;
  numbers = search rules;
  propagated = search rules;
}
