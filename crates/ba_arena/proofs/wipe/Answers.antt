use Rattle.std.proofs.Common.{◌+◌, ◌<◌, ◌-◌, ◌∙◌, length, sym, subst, ap, arith, suc}
use Rattle.ba_arena.proofs.Wiping.{IsWiping, wiping-begin, wiping-over, wiping-past, wiping-end, pred}
use Rattle.ba_arena.proofs.wipe.Goals as goal
use Rattle.ba_arena.proofs.wipe.Goals.{then-left-eq0, else-left-eq0+then-gone, else-left-eq0+else-gone}

pub loop-place-preserved : goal.loop-place-preserved
loop-place-preserved c =
    let start = c.args.words.now.items in
    let now = c.loop-place.words.items in
    let after = c.if-left-eq0.words.items in
    let p = c.loop-place.place in
    let i = c.loop-place.invariant in
    let within : p < length now = omega
    (arith, c.loop-place-test.true, c.len-place-end.ensures, i.len, c.args.words.now.ok.0) in
    elim c.if-left-eq0.branch [
      | then-left-eq0 w ↦ wiping-begin start now p within after c.loop-place.left (c.if-left-eq0.left - 1)
          w.index.result.now w.index-then-left-eq0.result.now c.loop-place.gone c.if-left-eq0.gone i
          w.if-left-eq0.true w.index.ensures w.index-then-left-eq0.ensures (omega (arith, w.left-is))
          w.gone-is (ap (λ v. v.items) w.words-is)
      | else-left-eq0+then-gone w ↦ subst (λ b. IsWiping start after (p + 1) (c.if-left-eq0.left - 1) b)
          (sym w.gone-is)
          (wiping-over start now p within after c.loop-place.left (c.if-left-eq0.left - 1) c.loop-place.gone i
          (pred c.loop-place.left w.if-left-eq0.false ∙ ap (λ n. suc (n - 1)) (sym w.left-is)) w.if-gone.true
          (ap (λ v. v.items) w.words-is))
      | else-left-eq0+else-gone w ↦ subst (λ b. IsWiping start after (p + 1) (c.if-left-eq0.left - 1) b)
          (sym w.gone-is)
          (wiping-past start now p within after c.loop-place.left (c.if-left-eq0.left - 1) c.loop-place.gone i
          (pred c.loop-place.left w.if-left-eq0.false ∙ ap (λ n. suc (n - 1)) (sym w.left-is)) w.if-gone.false
          (ap (λ v. v.items) w.words-is))
    ]

pub returns-clause-words : goal.returns-clause-words
returns-clause-words c =
    (wiping-end c.args.words.now.items c.loop-place.words.items c.loop-place.place c.loop-place.left c.loop-place.gone
    c.requires c.loop-place.invariant
    (omega (arith, c.loop-place-test.false, c.len-place-end.ensures, c.args.words.now.ok.0))).words

pub returns-clause-wiped : goal.returns-clause-wiped
returns-clause-wiped c =
    (wiping-end c.args.words.now.items c.loop-place.words.items c.loop-place.place c.loop-place.left c.loop-place.gone
    c.requires c.loop-place.invariant
    (omega (arith, c.loop-place-test.false, c.len-place-end.ensures, c.args.words.now.ok.0))).wiped

pub returns-clause-clauses : goal.returns-clause-clauses
returns-clause-clauses c =
    (wiping-end c.args.words.now.items c.loop-place.words.items c.loop-place.place c.loop-place.left c.loop-place.gone
    c.requires c.loop-place.invariant
    (omega (arith, c.loop-place-test.false, c.len-place-end.ensures, c.args.words.now.ok.0))).clauses
