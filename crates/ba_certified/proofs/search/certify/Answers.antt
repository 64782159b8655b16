use Rattle.std.proofs.Common.{arith, ◌≡◌, ◌∙◌, ◌⊎◌, Some, [], option_map, rules, refl, sym, ap, subst}
use Rattle.ba_cert.specs.Text.{text_of as certificate_of}
use Rattle.ba_cert.specs.Writing.{HoldsPrefix, IsUnbegun, OnlyWritesTo, steps_at}
use Rattle.ba_certified.specs.Certifying.{FindsCertified}
use Rattle.ba_certified.specs.Leaving.{IsWriting, writes_no_step}
use Rattle.ba_certified.proofs.Leaving.{begun_log, part_given_back, same_log, sound_writes}
use Rattle.ba_certified.proofs.Writing.{certified}
use Rattle.ba_world.specs.World.{Outside}
use Rattle.ba_certified.proofs.search.certify.Goals as goal

pub returns-in_err-begin-clause-ends : goal.returns-in_err-begin-clause-ends
returns-in_err-begin-clause-ends g c = λ weights is.
    let name = c.args.name.now in
    let old = g.W.World.outside c.args.world.now in
    let new = g.W.World.outside c.begin.new.world in
    let leaves = writes_no_step
    (subst (λ n. IsUnbegun n old new ⊎ HoldsPrefix n (certificate_of c.args.head []) new)
    c.as_str.ensures c.begin.ensures.empty)
    (refl, refl) in
    record {
      answer = search rules;
      left = (search rules, leaves);
      cause = first_of (search rules, cc, grind arith);
      outlasts = first_of (search rules, grind arith);
    }

pub returns-in_err-verdict-clause-ends : goal.returns-in_err-verdict-clause-ends
returns-in_err-verdict-clause-ends g c = λ weights is.
    let name = c.args.name.now in
    let head = c.args.head in
    let good = g.J.RunJudge.accepts c.args.judge in
    let begun = g.W.World.outside c.begin.new.world in
    let text = c.search_for.new.steps.text in
    let new = g.W.World.outside text.world.now in
    let fresh = begun_log c.new-text.result.head head head c.new-text.result.name.now
    c.as_str.result.now name (g.W.World.outside c.new-text.result.world.now) begun
    c.new-text.ensures.head (c.new-text.ensures.named ∙ c.as_str-2.ensures)
    (ap g.W.World.outside c.new-text.ensures.same_world) refl c.as_str.ensures
    c.in_ok-begin.ensures.no_step in
    let given = text.named ∙ sym c.requires.starts.named in
    let later = same_log text.head head text.name.now name new (text.headed ∙ sym c.requires.starts.headed)
    given in
    let writes = subst (λ n. IsWriting n new) given
    (sound_writes text.head text.whole text.name.now new text.sound) in
    record {
      answer = search rules;
      left = (
        search rules,
        part_given_back g.W.World.outside g.D.StepSink.told head weights good name
            (g.W.World.outside c.args.world.now) begun
            text.world.now _ c.search_for.new.steps.next.now _ _ _
            (g.D.StepSink.told c.args.steps.now) _ _
            (c.search_for.ensures.leaves weights is) refl refl refl refl fresh later writes
            (search rules) (search rules),
      );
      cause = first_of (search rules, cc, grind arith);
      outlasts = first_of (search rules, grind arith);
    }

pub returns-then-is_whole-clause-ends : goal.returns-then-is_whole-clause-ends
returns-then-is_whole-clause-ends g c = λ weights is.
    let name = c.args.name.now in
    let head = c.args.head in
    let good = g.J.RunJudge.accepts c.args.judge in
    let old = g.W.World.outside c.args.world.now in
    let begun = g.W.World.outside c.begin.new.world in
    let text = c.search_for.new.steps.text in
    let new = g.W.World.outside text.world.now in
    let headed : text.head ≡ head = text.headed ∙ sym c.requires.starts.headed in
    let named : text.name.now ≡ name =
    sym (c.is_whole.ensures.named c.if-is_whole.true) ∙ c.as_str-3.ensures in
    let fresh = begun_log c.new-text.result.head head head c.new-text.result.name.now
    c.as_str.result.now name (g.W.World.outside c.new-text.result.world.now) begun
    c.new-text.ensures.head (c.new-text.ensures.named ∙ c.as_str-2.ensures)
    (ap g.W.World.outside c.new-text.ensures.same_world) refl c.as_str.ensures
    c.in_ok-begin.ensures.no_step in
    let only : OnlyWritesTo name old new = subst (λ n. OnlyWritesTo n old new) named
    (subst (λ o. OnlyWritesTo text.name.now o new) (sym c.requires.starts.start) text.stays) in
    let kept : new.kept name ≡ option_map (certificate_of head) (steps_at text.head text.name.now new) =
    ap new.kept (sym c.as_str-3.ensures) ∙ c.is_whole.ensures.whole c.if-is_whole.true
    ∙ ap (λ h. option_map (certificate_of h) (steps_at text.head c.as_str-3.result.now new)) headed
    ∙ ap (λ n. option_map (certificate_of head) (steps_at text.head n new)) (c.as_str-3.ensures ∙ sym named)
    in
    let found : FindsCertified head (Some name) weights good old new (g.D.StepSink.told c.args.steps.now)
    (g.D.StepSink.told c.search_for.new.steps.next.now) c.in_ok-verdict.verdict =
    certified head name weights good old begun new _ _ (g.D.StepSink.told c.args.steps.now)
    (g.D.StepSink.told c.search_for.new.steps.next.now) c.in_ok-verdict.verdict _ _
    (c.in_ok-verdict.ensures.finds weights is) refl refl refl refl fresh kept only in
    let given = text.named ∙ sym c.requires.starts.named in
    let later = same_log text.head head text.name.now name new (text.headed ∙ sym c.requires.starts.headed)
    given in
    let writes = subst (λ n. IsWriting n new) given
    (sound_writes text.head text.whole text.name.now new text.sound) in
    record {
      answer = search (rules, found);
      left = (
        search rules,
        part_given_back g.W.World.outside g.D.StepSink.told head weights good name
            (g.W.World.outside c.args.world.now) begun
            text.world.now _ c.search_for.new.steps.next.now _ _ _
            (g.D.StepSink.told c.args.steps.now) _ _
            (c.search_for.ensures.leaves weights is) refl refl refl refl fresh later writes
            (search rules) (search rules),
      );
      cause = λ failed. absurd (cc failed);
      outlasts = first_of (search rules, grind arith);
    }

pub returns-else-is_whole-clause-ends : goal.returns-else-is_whole-clause-ends
returns-else-is_whole-clause-ends g c = λ weights is.
    let name = c.args.name.now in
    let head = c.args.head in
    let good = g.J.RunJudge.accepts c.args.judge in
    let begun = g.W.World.outside c.begin.new.world in
    let text = c.search_for.new.steps.text in
    let new = g.W.World.outside text.world.now in
    let fresh = begun_log c.new-text.result.head head head c.new-text.result.name.now
    c.as_str.result.now name (g.W.World.outside c.new-text.result.world.now) begun
    c.new-text.ensures.head (c.new-text.ensures.named ∙ c.as_str-2.ensures)
    (ap g.W.World.outside c.new-text.ensures.same_world) refl c.as_str.ensures
    c.in_ok-begin.ensures.no_step in
    let given = text.named ∙ sym c.requires.starts.named in
    let later = same_log text.head head text.name.now name new (text.headed ∙ sym c.requires.starts.headed)
    given in
    let writes = subst (λ n. IsWriting n new) given
    (sound_writes text.head text.whole text.name.now new text.sound) in
    record {
      answer = search rules;
      left = (
        search rules,
        part_given_back g.W.World.outside g.D.StepSink.told head weights good name
            (g.W.World.outside c.args.world.now) begun
            text.world.now _ c.search_for.new.steps.next.now _ _ _
            (g.D.StepSink.told c.args.steps.now) _ _
            (c.search_for.ensures.leaves weights is) refl refl refl refl fresh later writes
            (search rules) (search rules),
      );
      cause = λ failed. absurd (cc failed);
      outlasts = first_of (search rules, grind arith);
    }

pub returns-in_err-begin-clause-bounded : goal.returns-in_err-begin-clause-bounded
returns-in_err-begin-clause-bounded g c =
    let given = c.begin.ensures.begins.only.stays.given in first_of (
      omega (arith, given),
      grind (
        arith,
        given,
      ),
    )

pub returns-in_err-verdict-clause-bounded : goal.returns-in_err-verdict-clause-bounded
returns-in_err-verdict-clause-bounded g c =
    let text = c.search_for.new.steps.text in
    let given = text.stays.stays.given ∙ ap (λ (o : Outside). o.given) (sym c.requires.starts.start) in
    first_of (omega (arith, given), grind (arith, given))

pub returns-then-is_whole-clause-bounded : goal.returns-then-is_whole-clause-bounded
returns-then-is_whole-clause-bounded g c =
    let text = c.search_for.new.steps.text in
    let given = text.stays.stays.given ∙ ap (λ (o : Outside). o.given) (sym c.requires.starts.start) in
    first_of (omega (arith, given), grind (arith, given))

pub returns-else-is_whole-clause-bounded : goal.returns-else-is_whole-clause-bounded
returns-else-is_whole-clause-bounded g c =
    let text = c.search_for.new.steps.text in
    let given = text.stays.stays.given ∙ ap (λ (o : Outside). o.given) (sym c.requires.starts.start) in
    first_of (omega (arith, given), grind (arith, given))
