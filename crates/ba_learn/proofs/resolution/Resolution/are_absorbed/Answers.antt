use Rattle.std.proofs.Common.{ℕ, ◌<◌, List, ◌≡◌, length, ap, subst, sym, ◌∙◌, refl, below_more, arith}
use Rattle.std.proofs.lemmas.List.Elements.{All-from_get_or, All-get_or}
use Rattle.ba_lits.specs.Literals.{Literal, lit_at, no_literal}
use Rattle.ba_arena.specs.Clauses.{lits_at}
use Rattle.ba_watch.specs.Propagation.{lits_in}
use Rattle.ba_learn.specs.Resolving.{is_seen, IsAbsorbed}
use Rattle.ba_learn.proofs.ReasonLaws.{lits_same}
use Rattle.ba_learn.proofs.resolution.Resolution.are_absorbed.Goals as goal

pub returns : goal.returns
returns c =
    let s = c.args.watch.now in
    let same : lits_at c.arena-arena.result.now c.args.clause ≡ lits_in s.clauses c.args.clause =
    lits_same c.arena-arena.result.now s.clauses c.args.clause c.arena-arena.ensures in (
      λ e. All-from_get_or (IsAbsorbed s (is_seen c.args.self.now)) (lits_in s.clauses c.args.clause)
          no_literal
          (λ k k_in. c.loop-index.invariant k (omega (
            arith,
            ap length same,
            c.len-index-end.ensures,
            c.loop-index-test.false,
          ))),
      λ all. refl,
    )

pub returns-then-not-is_absorbed : goal.returns-then-not-is_absorbed
returns-then-not-is_absorbed c =
    let s = c.args.watch.now in
    let same : lits_at c.arena-arena.result.now c.args.clause ≡ lits_in s.clauses c.args.clause =
    lits_same c.arena-arena.result.now s.clauses c.args.clause c.arena-arena.ensures in
    let within : c.loop-index.index < length (lits_in s.clauses c.args.clause) =
    omega (arith, ap length same, c.len-index-end.ensures, c.loop-index-test.true) in
    let is : c.lit.result ≡ lit_at (lits_in s.clauses c.args.clause) c.loop-index.index = c.lit.ensures
    ∙ ap (λ (xs : List Literal). lit_at xs c.loop-index.index) same in (
      λ e. absurd (cc e),
      λ all. sym c.if-not-is_absorbed.true
          ∙ c.is_absorbed.ensures.1 (subst (λ (l : Literal). IsAbsorbed s (is_seen c.args.self.now) l)
          (sym is) (All-get_or (IsAbsorbed s (is_seen c.args.self.now))
          (lits_in s.clauses c.args.clause) c.loop-index.index no_literal within all)),
    )

pub loop-index-preserved : goal.loop-index-preserved
loop-index-preserved c =
    let s = c.args.watch.now in
    let same : lits_at c.arena-arena.result.now c.args.clause ≡ lits_in s.clauses c.args.clause =
    lits_same c.arena-arena.result.now s.clauses c.args.clause c.arena-arena.ensures in
    let is : c.lit.result ≡ lit_at (lits_in s.clauses c.args.clause) c.loop-index.index = c.lit.ensures
    ∙ ap (λ (xs : List Literal). lit_at xs c.loop-index.index) same in
    below_more (λ (k : ℕ). IsAbsorbed s (is_seen c.args.self.now)
    (lit_at (lits_in s.clauses c.args.clause) k)) c.loop-index.index c.loop-index.invariant
    (subst (λ (l : Literal). IsAbsorbed s (is_seen c.args.self.now) l) is
    (c.is_absorbed.ensures.0 c.if-not-is_absorbed.false))
