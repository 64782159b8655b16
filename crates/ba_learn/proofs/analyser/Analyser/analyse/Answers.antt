use Rattle.std.proofs.Common.{◌≡◌, ℕ, ◌+◌, ◌<◌, ◌≤◌, true, List, length, ap, sym, subst, ◌∙◌, arith}
use Rattle.std.proofs.lemmas.List.{get_or_default}
use Rattle.std.proofs.lemmas.List.Elements.{All-from_get_or}
use Rattle.std.specs.List.{All}
use Rattle.ba_lits.specs.Literals.{Literal, negate, lit_at, no_literal, IsClause}
use Rattle.ba_watch.specs.Trails.{trail_index, decided}
use Rattle.ba_watch.specs.Propagation.{lits_in}
use Rattle.ba_learn.specs.Live.{Follows, IsNewTo}
use Rattle.ba_learn.specs.Levels.{level_in, IsReached, IsBacked, IsShort}
use Rattle.ba_learn.specs.Resolving.{Work, is_seen, IsWork, MayStart, Resolves, IsStart, negated_at}
use Rattle.ba_learn.proofs.ResolveLaws.{Resolves-trans}
use Rattle.ba_learn.proofs.Finishes.{HasEnded, ended, false_below, sorted_reasons, kept_places}
use Rattle.ba_learn.proofs.CoreLaws.{same_sorted}
use Rattle.ba_learn.proofs.LevelLaws.{some_pending, analysed_clause, analysed_follows, analysed_new, analysed_backed, analysed_short, analysed_placed}
use Rattle.ba_learn.proofs.analyser.Analyser.analyse.Goals as goal

pub start-requires-clause-may : goal.start-requires-clause-may
start-requires-clause-may c =
    let s = c.args.watch.now in
    let m : MayStart s c.level_start.result (length s.trail) (lits_in s.clauses c.args.conflict) =
    record {
      floor_le = omega (arith, c.level_start.ensures.within);
      within = omega arith;
      below =
          false_below s (lits_in s.clauses c.args.conflict) c.requires.false_;
    } in
    (length s.trail, m)

pub walk-requires-clause-work : goal.walk-requires-clause-work
walk-requires-clause-work c =
    let s = c.args.watch.now in
    let m : MayStart s c.level_start.result (length s.trail) (lits_in s.clauses c.args.conflict) =
    record {
      floor_le = omega (arith, c.level_start.ensures.within);
      within = omega arith;
      below =
          false_below s (lits_in s.clauses c.args.conflict) c.requires.false_;
    } in
    c.in_ok-start.ensures.work (length s.trail) m

pub walk-requires-clause-some : goal.walk-requires-clause-some
walk-requires-clause-some c =
    let s = c.args.watch.now in
    let m : MayStart s c.level_start.result (length s.trail) (lits_in s.clauses c.args.conflict) =
    record {
      floor_le = omega (arith, c.level_start.ensures.within);
      within = omega arith;
      below =
          false_below s (lits_in s.clauses c.args.conflict) c.requires.false_;
    } in
    some_pending s c.start.new.self c.args.conflict c.keeps_facts.ensures
    (subst (λ (f : ℕ). IsStart s f) (sym c.in_ok-start.ensures.floor) c.level_start.ensures)
    c.requires.live c.requires.false_ c.in_ok-start.ensures.seen
    (c.in_ok-start.ensures.work (length s.trail) m)

pub clause-requires : goal.clause-requires
clause-requires c =
    let s = c.args.watch.now in
    let u : ℕ = c.in_ok-place.place in
    let a = c.in_ok-place.ensures in
    let w : IsWork s (u + 1) c.close.new.self = c.in_ok-close.ensures.work (u + 1)
    (c.in_ok-minimise.ensures.work (u + 1) a.work) in
    kept_places s (u + 1) c.close.new.self c.sort.new.self.kept w
    (ap (λ (w : Work). w.kept) c.sort.ensures.rest)

pub hints-requires-clause-reasons : goal.hints-requires-clause-reasons
hints-requires-clause-reasons c =
    let s = c.args.watch.now in
    let u : ℕ = c.in_ok-place.place in
    let a = c.in_ok-place.ensures in
    let w : IsWork s (u + 1) c.close.new.self = c.in_ok-close.ensures.work (u + 1)
    (c.in_ok-minimise.ensures.work (u + 1) a.work) in
    sorted_reasons s (u + 1) c.close.new.self c.sort.new.self.resolved w c.sort.ensures.sorted

pub backjump_level-back-requires-clause-within : goal.backjump_level-back-requires-clause-within
backjump_level-back-requires-clause-within c =
    let s = c.args.watch.now in
    let u : ℕ = c.in_ok-place.place in
    let a = c.in_ok-place.ensures in
    let w : IsWork s (u + 1) c.close.new.self = c.in_ok-close.ensures.work (u + 1)
    (c.in_ok-minimise.ensures.work (u + 1) a.work) in
    let w0 = c.in_ok-start.ensures in
    let steps : Resolves s c.walk.new.self c.close.new.self =
    Resolves-trans s c.walk.new.self c.minimise.new.self c.close.new.self
    c.in_ok-minimise.ensures.resolves c.in_ok-close.ensures.resolves in
    let done : HasEnded s (u + 1) c.close.new.self c.args.conflict =
    ended s (u + 1) c.start.new.self c.close.new.self c.args.conflict w0.resolved w0.seen
    (Resolves-trans s c.start.new.self c.walk.new.self c.close.new.self a.resolves steps) w
    c.in_ok-close.ensures.all in
    let start : IsStart s c.close.new.self.floor =
    subst (λ (f : ℕ). IsStart s f) (sym (steps.floor ∙ (a.resolves.floor ∙ w0.floor)))
    c.level_start.ensures in
    let pending : c.close.new.self.pending ≡ 1 = c.in_ok-close.ensures.pending
    ∙ (c.in_ok-minimise.ensures.pending ∙ a.one) in
    let above : c.close.new.self.floor ≤ u = omega (arith, steps.floor, a.floor) in
    let seen : is_seen c.close.new.self u ≡ true = steps.grows u a.seen in
    let within : u < length s.trail = w.ranged u seen in
    let lead : c.negated.result ≡ negated_at s u = c.negated.ensures
    ∙ ap negate (c.index-trail-place.is ∙ (get_or_default c.trail.result.now u _ no_literal
    (omega (arith, within, ap length c.trail.ensures))
    ∙ ap (λ (t : List Literal). lit_at t u) c.trail.ensures)) in
    let sorted = same_sorted s c.negated.result (negated_at s u) c.sort.new.self.kept c.close.new.self.kept
    c.in_ok-lits.lits.items lead (ap (λ (w : Work). w.kept) c.sort.ensures.rest) c.in_ok-lits.ensures in
    subst (λ (ls : List Literal). All (λ (l : Literal). l.variable ≤ s.variables) ls)
    (sym c.as_slice.ensures.value)
    (All-from_get_or (λ (l : Literal). l.variable ≤ s.variables) c.in_ok-lits.lits.items no_literal
    (analysed_clause s c.keeps_facts.ensures c.close.new.self u c.args.conflict done start pending above
    seen c.requires.live c.requires.false_ c.in_ok-lits.lits.items c.sort.new.self.resolved sorted
    c.sort.ensures.sorted).within)

pub backjump_level-back-requires-clause-assigned : goal.backjump_level-back-requires-clause-assigned
backjump_level-back-requires-clause-assigned c =
    let s = c.args.watch.now in
    let u : ℕ = c.in_ok-place.place in
    let a = c.in_ok-place.ensures in
    let w : IsWork s (u + 1) c.close.new.self = c.in_ok-close.ensures.work (u + 1)
    (c.in_ok-minimise.ensures.work (u + 1) a.work) in
    let w0 = c.in_ok-start.ensures in
    let steps : Resolves s c.walk.new.self c.close.new.self =
    Resolves-trans s c.walk.new.self c.minimise.new.self c.close.new.self
    c.in_ok-minimise.ensures.resolves c.in_ok-close.ensures.resolves in
    let done : HasEnded s (u + 1) c.close.new.self c.args.conflict =
    ended s (u + 1) c.start.new.self c.close.new.self c.args.conflict w0.resolved w0.seen
    (Resolves-trans s c.start.new.self c.walk.new.self c.close.new.self a.resolves steps) w
    c.in_ok-close.ensures.all in
    let start : IsStart s c.close.new.self.floor =
    subst (λ (f : ℕ). IsStart s f) (sym (steps.floor ∙ (a.resolves.floor ∙ w0.floor)))
    c.level_start.ensures in
    let pending : c.close.new.self.pending ≡ 1 = c.in_ok-close.ensures.pending
    ∙ (c.in_ok-minimise.ensures.pending ∙ a.one) in
    let above : c.close.new.self.floor ≤ u = omega (arith, steps.floor, a.floor) in
    let seen : is_seen c.close.new.self u ≡ true = steps.grows u a.seen in
    let within : u < length s.trail = w.ranged u seen in
    let lead : c.negated.result ≡ negated_at s u = c.negated.ensures
    ∙ ap negate (c.index-trail-place.is ∙ (get_or_default c.trail.result.now u _ no_literal
    (omega (arith, within, ap length c.trail.ensures))
    ∙ ap (λ (t : List Literal). lit_at t u) c.trail.ensures)) in
    let sorted = same_sorted s c.negated.result (negated_at s u) c.sort.new.self.kept c.close.new.self.kept
    c.in_ok-lits.lits.items lead (ap (λ (w : Work). w.kept) c.sort.ensures.rest) c.in_ok-lits.ensures in
    subst (λ (ls : List Literal). All (λ (l : Literal). trail_index s.trail l.variable < length s.trail) ls)
    (sym c.as_slice.ensures.value)
    (All-from_get_or (λ (l : Literal). trail_index s.trail l.variable < length s.trail)
    c.in_ok-lits.lits.items
    no_literal (analysed_placed s c.keeps_facts.ensures c.close.new.self u c.args.conflict done start
    pending above seen c.requires.live c.requires.false_ c.in_ok-lits.lits.items
    c.sort.new.self.resolved sorted c.sort.ensures.sorted))

pub returns-clause-clause : goal.returns-clause-clause
returns-clause-clause c =
    let s = c.args.watch.now in
    let u : ℕ = c.in_ok-place.place in
    let a = c.in_ok-place.ensures in
    let w : IsWork s (u + 1) c.close.new.self = c.in_ok-close.ensures.work (u + 1)
    (c.in_ok-minimise.ensures.work (u + 1) a.work) in
    let w0 = c.in_ok-start.ensures in
    let steps : Resolves s c.walk.new.self c.close.new.self =
    Resolves-trans s c.walk.new.self c.minimise.new.self c.close.new.self
    c.in_ok-minimise.ensures.resolves c.in_ok-close.ensures.resolves in
    let done : HasEnded s (u + 1) c.close.new.self c.args.conflict =
    ended s (u + 1) c.start.new.self c.close.new.self c.args.conflict w0.resolved w0.seen
    (Resolves-trans s c.start.new.self c.walk.new.self c.close.new.self a.resolves steps) w
    c.in_ok-close.ensures.all in
    let start : IsStart s c.close.new.self.floor =
    subst (λ (f : ℕ). IsStart s f) (sym (steps.floor ∙ (a.resolves.floor ∙ w0.floor)))
    c.level_start.ensures in
    let pending : c.close.new.self.pending ≡ 1 = c.in_ok-close.ensures.pending
    ∙ (c.in_ok-minimise.ensures.pending ∙ a.one) in
    let above : c.close.new.self.floor ≤ u = omega (arith, steps.floor, a.floor) in
    let seen : is_seen c.close.new.self u ≡ true = steps.grows u a.seen in
    let within : u < length s.trail = w.ranged u seen in
    let lead : c.negated.result ≡ negated_at s u = c.negated.ensures
    ∙ ap negate (c.index-trail-place.is ∙ (get_or_default c.trail.result.now u _ no_literal
    (omega (arith, within, ap length c.trail.ensures))
    ∙ ap (λ (t : List Literal). lit_at t u) c.trail.ensures)) in
    let sorted = same_sorted s c.negated.result (negated_at s u) c.sort.new.self.kept c.close.new.self.kept
    c.in_ok-lits.lits.items lead (ap (λ (w : Work). w.kept) c.sort.ensures.rest) c.in_ok-lits.ensures in
    subst (λ (ls : List Literal). IsClause s.variables ls) (sym c.from_vec.ensures)
    (analysed_clause s c.keeps_facts.ensures c.close.new.self u c.args.conflict done start pending above
    seen c.requires.live c.requires.false_ c.in_ok-lits.lits.items c.sort.new.self.resolved sorted
    c.sort.ensures.sorted)

pub returns-clause-follows : goal.returns-clause-follows
returns-clause-follows c =
    let s = c.args.watch.now in
    let u : ℕ = c.in_ok-place.place in
    let a = c.in_ok-place.ensures in
    let w : IsWork s (u + 1) c.close.new.self = c.in_ok-close.ensures.work (u + 1)
    (c.in_ok-minimise.ensures.work (u + 1) a.work) in
    let w0 = c.in_ok-start.ensures in
    let steps : Resolves s c.walk.new.self c.close.new.self =
    Resolves-trans s c.walk.new.self c.minimise.new.self c.close.new.self
    c.in_ok-minimise.ensures.resolves c.in_ok-close.ensures.resolves in
    let done : HasEnded s (u + 1) c.close.new.self c.args.conflict =
    ended s (u + 1) c.start.new.self c.close.new.self c.args.conflict w0.resolved w0.seen
    (Resolves-trans s c.start.new.self c.walk.new.self c.close.new.self a.resolves steps) w
    c.in_ok-close.ensures.all in
    let start : IsStart s c.close.new.self.floor =
    subst (λ (f : ℕ). IsStart s f) (sym (steps.floor ∙ (a.resolves.floor ∙ w0.floor)))
    c.level_start.ensures in
    let pending : c.close.new.self.pending ≡ 1 = c.in_ok-close.ensures.pending
    ∙ (c.in_ok-minimise.ensures.pending ∙ a.one) in
    let above : c.close.new.self.floor ≤ u = omega (arith, steps.floor, a.floor) in
    let seen : is_seen c.close.new.self u ≡ true = steps.grows u a.seen in
    let within : u < length s.trail = w.ranged u seen in
    let lead : c.negated.result ≡ negated_at s u = c.negated.ensures
    ∙ ap negate (c.index-trail-place.is ∙ (get_or_default c.trail.result.now u _ no_literal
    (omega (arith, within, ap length c.trail.ensures))
    ∙ ap (λ (t : List Literal). lit_at t u) c.trail.ensures)) in
    let sorted = same_sorted s c.negated.result (negated_at s u) c.sort.new.self.kept c.close.new.self.kept
    c.in_ok-lits.lits.items lead (ap (λ (w : Work). w.kept) c.sort.ensures.rest) c.in_ok-lits.ensures in
    subst (λ (ls : List Literal). Follows s.clauses ls c.from_vec-2.result) (sym c.from_vec.ensures)
    (subst (λ (hs : List ℕ). Follows s.clauses c.in_ok-lits.lits.items hs)
    (sym (c.from_vec-2.ensures ∙ c.in_ok-hints.ensures))
    (analysed_follows s c.keeps_facts.ensures c.close.new.self u c.args.conflict done start pending
    above seen c.requires.live c.requires.false_ c.in_ok-lits.lits.items c.sort.new.self.resolved sorted
    c.sort.ensures.sorted))

pub returns-clause-new : goal.returns-clause-new
returns-clause-new c =
    let s = c.args.watch.now in
    let u : ℕ = c.in_ok-place.place in
    let a = c.in_ok-place.ensures in
    let w : IsWork s (u + 1) c.close.new.self = c.in_ok-close.ensures.work (u + 1)
    (c.in_ok-minimise.ensures.work (u + 1) a.work) in
    let w0 = c.in_ok-start.ensures in
    let steps : Resolves s c.walk.new.self c.close.new.self =
    Resolves-trans s c.walk.new.self c.minimise.new.self c.close.new.self
    c.in_ok-minimise.ensures.resolves c.in_ok-close.ensures.resolves in
    let done : HasEnded s (u + 1) c.close.new.self c.args.conflict =
    ended s (u + 1) c.start.new.self c.close.new.self c.args.conflict w0.resolved w0.seen
    (Resolves-trans s c.start.new.self c.walk.new.self c.close.new.self a.resolves steps) w
    c.in_ok-close.ensures.all in
    let start : IsStart s c.close.new.self.floor =
    subst (λ (f : ℕ). IsStart s f) (sym (steps.floor ∙ (a.resolves.floor ∙ w0.floor)))
    c.level_start.ensures in
    let pending : c.close.new.self.pending ≡ 1 = c.in_ok-close.ensures.pending
    ∙ (c.in_ok-minimise.ensures.pending ∙ a.one) in
    let above : c.close.new.self.floor ≤ u = omega (arith, steps.floor, a.floor) in
    let seen : is_seen c.close.new.self u ≡ true = steps.grows u a.seen in
    let within : u < length s.trail = w.ranged u seen in
    let lead : c.negated.result ≡ negated_at s u = c.negated.ensures
    ∙ ap negate (c.index-trail-place.is ∙ (get_or_default c.trail.result.now u _ no_literal
    (omega (arith, within, ap length c.trail.ensures))
    ∙ ap (λ (t : List Literal). lit_at t u) c.trail.ensures)) in
    let sorted = same_sorted s c.negated.result (negated_at s u) c.sort.new.self.kept c.close.new.self.kept
    c.in_ok-lits.lits.items lead (ap (λ (w : Work). w.kept) c.sort.ensures.rest) c.in_ok-lits.ensures in
    subst (λ (ls : List Literal). IsNewTo s.clauses ls) (sym c.from_vec.ensures)
    (analysed_new s c.keeps_facts.ensures c.close.new.self u c.args.conflict done start pending above
    seen c.requires.live c.requires.false_ c.in_ok-lits.lits.items c.sort.new.self.resolved sorted
    c.sort.ensures.sorted)

pub returns-clause-backed : goal.returns-clause-backed
returns-clause-backed c =
    let s = c.args.watch.now in
    let u : ℕ = c.in_ok-place.place in
    let a = c.in_ok-place.ensures in
    let w : IsWork s (u + 1) c.close.new.self = c.in_ok-close.ensures.work (u + 1)
    (c.in_ok-minimise.ensures.work (u + 1) a.work) in
    let w0 = c.in_ok-start.ensures in
    let steps : Resolves s c.walk.new.self c.close.new.self =
    Resolves-trans s c.walk.new.self c.minimise.new.self c.close.new.self
    c.in_ok-minimise.ensures.resolves c.in_ok-close.ensures.resolves in
    let done : HasEnded s (u + 1) c.close.new.self c.args.conflict =
    ended s (u + 1) c.start.new.self c.close.new.self c.args.conflict w0.resolved w0.seen
    (Resolves-trans s c.start.new.self c.walk.new.self c.close.new.self a.resolves steps) w
    c.in_ok-close.ensures.all in
    let start : IsStart s c.close.new.self.floor =
    subst (λ (f : ℕ). IsStart s f) (sym (steps.floor ∙ (a.resolves.floor ∙ w0.floor)))
    c.level_start.ensures in
    let pending : c.close.new.self.pending ≡ 1 = c.in_ok-close.ensures.pending
    ∙ (c.in_ok-minimise.ensures.pending ∙ a.one) in
    let above : c.close.new.self.floor ≤ u = omega (arith, steps.floor, a.floor) in
    let seen : is_seen c.close.new.self u ≡ true = steps.grows u a.seen in
    let within : u < length s.trail = w.ranged u seen in
    let lead : c.negated.result ≡ negated_at s u = c.negated.ensures
    ∙ ap negate (c.index-trail-place.is ∙ (get_or_default c.trail.result.now u _ no_literal
    (omega (arith, within, ap length c.trail.ensures))
    ∙ ap (λ (t : List Literal). lit_at t u) c.trail.ensures)) in
    let sorted = same_sorted s c.negated.result (negated_at s u) c.sort.new.self.kept c.close.new.self.kept
    c.in_ok-lits.lits.items lead (ap (λ (w : Work). w.kept) c.sort.ensures.rest) c.in_ok-lits.ensures in
    let lits_is : c.as_slice.result.now ≡ c.in_ok-lits.lits.items = c.as_slice.ensures.value in
    subst (λ (ls : List Literal). IsBacked s ls c.backjump_level-back.result) (sym c.from_vec.ensures)
    (analysed_backed s c.keeps_facts.ensures c.close.new.self u c.args.conflict done start pending above
    seen c.requires.live c.requires.false_ c.in_ok-lits.lits.items c.sort.new.self.resolved sorted
    c.sort.ensures.sorted c.backjump_level-back.result c.requires.level
    (subst (λ (ls : List Literal). (k : ℕ) → k < length ls → level_in s ls k < decided s.reasons →
    level_in s ls k ≤ c.backjump_level-back.result) lits_is c.backjump_level-back.ensures.greatest)
    (subst (λ (ls : List Literal). IsReached s ls (length ls) c.backjump_level-back.result) lits_is
    c.backjump_level-back.ensures.met))

pub returns-clause-short : goal.returns-clause-short
returns-clause-short c =
    let s = c.args.watch.now in
    let u : ℕ = c.in_ok-place.place in
    let a = c.in_ok-place.ensures in
    let w : IsWork s (u + 1) c.close.new.self = c.in_ok-close.ensures.work (u + 1)
    (c.in_ok-minimise.ensures.work (u + 1) a.work) in
    let w0 = c.in_ok-start.ensures in
    let steps : Resolves s c.walk.new.self c.close.new.self =
    Resolves-trans s c.walk.new.self c.minimise.new.self c.close.new.self
    c.in_ok-minimise.ensures.resolves c.in_ok-close.ensures.resolves in
    let done : HasEnded s (u + 1) c.close.new.self c.args.conflict =
    ended s (u + 1) c.start.new.self c.close.new.self c.args.conflict w0.resolved w0.seen
    (Resolves-trans s c.start.new.self c.walk.new.self c.close.new.self a.resolves steps) w
    c.in_ok-close.ensures.all in
    let start : IsStart s c.close.new.self.floor =
    subst (λ (f : ℕ). IsStart s f) (sym (steps.floor ∙ (a.resolves.floor ∙ w0.floor)))
    c.level_start.ensures in
    let pending : c.close.new.self.pending ≡ 1 = c.in_ok-close.ensures.pending
    ∙ (c.in_ok-minimise.ensures.pending ∙ a.one) in
    let above : c.close.new.self.floor ≤ u = omega (arith, steps.floor, a.floor) in
    let seen : is_seen c.close.new.self u ≡ true = steps.grows u a.seen in
    let within : u < length s.trail = w.ranged u seen in
    let lead : c.negated.result ≡ negated_at s u = c.negated.ensures
    ∙ ap negate (c.index-trail-place.is ∙ (get_or_default c.trail.result.now u _ no_literal
    (omega (arith, within, ap length c.trail.ensures))
    ∙ ap (λ (t : List Literal). lit_at t u) c.trail.ensures)) in
    let sorted = same_sorted s c.negated.result (negated_at s u) c.sort.new.self.kept c.close.new.self.kept
    c.in_ok-lits.lits.items lead (ap (λ (w : Work). w.kept) c.sort.ensures.rest) c.in_ok-lits.ensures in
    subst (λ (ls : List Literal). IsShort s ls) (sym c.from_vec.ensures)
    (analysed_short s c.keeps_facts.ensures c.close.new.self u c.args.conflict done start pending above
    seen c.requires.live c.requires.false_ c.in_ok-lits.lits.items c.sort.new.self.resolved sorted
    c.sort.ensures.sorted (c.in_ok-close.ensures.short (c.in_ok-minimise.ensures.resolves.deep
    ∙ (a.resolves.deep ∙ w0.deep)) c.in_ok-minimise.ensures.short))
