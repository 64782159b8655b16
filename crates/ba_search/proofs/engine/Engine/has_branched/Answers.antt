use Rattle.std.proofs.Common.{◌≡◌, ℕ, Bool, true, false, not, Option, None, Some, is_some, List, length, get_or, refl, sym, ap, ◌∙◌, arith}
use Rattle.std.proofs.lemmas.List.{get_or_read}
use Rattle.ba_lits.specs.Literals.{Literal, lit_at, no_literal}
use Rattle.ba_lits.specs.Hints.{has_literal}
use Rattle.ba_search.proofs.AnswerLaws.{branched_true}
use Rattle.ba_search.proofs.engine.Engine.has_branched.Goals as goal

-- a reason that is none
is_decided : (o : Option ℕ) (b : Bool) → is_some o ≡ not b → b ≡ true → o ≡ None
is_decided None b e is = refl
is_decided (Some r) b e is = absurd (cc (e ∙ ap not is))

is_apart : (b : Bool) → not b ≡ true → b ≡ false
is_apart true e = absurd (cc e)
is_apart false e = refl

pub returns-then-is_none : goal.returns-then-is_none
returns-then-is_none c = λ apart checker underway.
    let s = c.args.self.now.watch in
    let p = c.args.self.now.first_branch in
    let trail_is = c.trail-trail.ensures in
    let reasons_is = c.reasons-reasons.ensures in
    let lit : c.index-trail-place.result ≡ lit_at s.trail p =
    get_or_read _ p _ (omega (arith, c.if-place-trail.false)) c.index-trail-place.is no_literal
    ∙ ap (λ (ls : List Literal). lit_at ls p) trail_is in
    let reason : c.index-reasons-place.result ≡ get_or s.reasons p None =
    get_or_read _ p _ (omega (arith, c.if-place-reasons.false)) c.index-reasons-place.is None
    ∙ ap (λ (rs : List (Option ℕ)). get_or rs p None) reasons_is in
    let decided : c.index-reasons-place.result ≡ None =
    is_decided _ _ c.is_none.ensures c.if-is_none.true in
    let none : has_literal c.index-trail-place.result c.args.assumptions.now ≡ false =
    sym c.is_among.ensures ∙ is_apart _ apart in
    branched_true c.args.assumptions.now s c.args.self.now.numbers checker p _ underway
    (omega (arith, c.if-place-trail.false, ap (λ (ls : List Literal). length ls) trail_is))
    (sym reason ∙ decided) lit none
