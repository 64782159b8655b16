use Rattle.std.proofs.Common.{ℕ, Option, arith, None, ap, ◌∙◌, ◌≡◌, ◌<◌, length}
use Rattle.ba_arena.specs.Clauses.{Clauses, changed, linked}
use Rattle.std.proofs.lemmas.List.{get_or_read}
use Rattle.ba_lits.specs.Literals.{index_of, no_literal}
use Rattle.ba_watch.specs.Threads.{index_at}
use Rattle.ba_watch.proofs.ListSteps.{add_long_step}
use Rattle.ba_watch.proofs.lists.Lists.add_long.Goals as goal

pub invariant_of-self-2 : goal.invariant_of-self-2
invariant_of-self-2 c =
    let lits = c.args.lits.now in
    let y_in : c.args.second < length lits = c.requires.places in
    let x_in : c.args.first < length lits = omega (arith, c.requires.order, c.requires.places) in
    let g_is : c.index-one.result ≡ index_at lits c.args.first = c.index-one.ensures.index
    ∙ ap index_of (get_or_read lits c.args.first c.index-lits-first.result x_in c.index-lits-first.is
    no_literal) in
    let h_is : c.index-two.result ≡ index_at lits c.args.second = c.index-two.ensures.index
    ∙ ap index_of (get_or_read lits c.args.second c.index-lits-second.result y_in c.index-lits-second.is
    no_literal) in
    let r = c.in_ok-clause.clause in
    let with_first : Option ℕ → Clauses = λ link. changed (linked 0 link) c.swap-2.new.self r in
    let with_second : Option ℕ → Clauses = λ link. changed (linked 1 link) c.set_link.new.self r in
    let first_is : c.set_link.new.self ≡ with_first c.index.result.now =
    c.set_link.ensures ∙ ap with_first c.get.ensures in
    let second_is : c.set_link-2.new.self ≡ with_second c.index-2.result.now =
    c.set_link-2.ensures ∙ ap with_second c.get-2.ensures in
    record {
      threaded = rw (c.some.ensures, c.some-2.ensures)
          (add_long_step c.args.self.now.arena c.add.new.self c.swap.new.self c.swap-2.new.self
          c.set_link.new.self c.set_link-2.new.self c.args.self.now.heads.items c.args.self.now.visited
          c.in_ok-clause.clause c.args.first c.args.second c.index.result.now c.index-2.result.now
          (record { lits = lits; number = c.args.number; first = None; second = None })
          c.in_ok-clause.ensures.ok c.swap.ensures c.swap-2.ensures first_is second_is
          c.args.self.now.pending c.index-one.result c.index-two.result c.args.self.now.threaded
          c.requires.idle c.requires.order y_in c.requires.apart g_is h_is
          (omega (arith, g_is, c.requires.within c.args.first x_in))
          (omega (arith, h_is, c.requires.within c.args.second y_in)) c.index.ensures c.index-2.ensures);
    }
