-- The facts of a watch after a deletion.

use Rattle.std.proofs.Common.{◌≡◌, ◌≢◌, ℕ, suc, zero, ◌+◌, ◌*◌, ◌<◌, ◌≤◌, Bool, true, false, Option, None, Some, IsSome, is_some, List, [], ◌∷◌, length, get_or, take, map, eqb, cond, refl, sym, ap, subst, ◌∙◌, arith, ⊎_elim}
use Rattle.std.specs.List.{Contains}
use Rattle.std.specs.Option.{option_map}
use Rattle.std.proofs.lemmas.Bool.{cases_eq, cases_lt}
use Rattle.std.proofs.lemmas.Bool.Decides.{nat_tests}
use Rattle.std.proofs.lemmas.List.{get_or_past, take-map, length-map}
use Rattle.std.proofs.lemmas.Option.{none-some}
use Rattle.ba_lits.specs.Literals.{Literal, index_of, lit_at}
use Rattle.ba_lits.specs.Hints.{has_literal}
use Rattle.ba_arena.specs.Clauses.{Clauses, Stored, IsLive, clause_at, lits_at, lits_of}
use Rattle.ba_arena.proofs.Reading.{stored_some}
use Rattle.ba_watch.specs.Chains.{occurrences}
use Rattle.ba_watch.specs.Threads.{Clause, plain, plain_at}
use Rattle.ba_watch.specs.Trails.{Assignments, value_of, trail_index, decided, level_at}
use Rattle.ba_watch.specs.Propagation.{clause_in, plain_lits, IsReason, IsGuarded, AreFacts, AreUnits, IsSound}
use Rattle.ba_watch.specs.Deletion.{Deletes, DeletesAll, MayDelete, MayLink, IsKept, AreAlone, number_of, unnamed_of}
use Rattle.ba_watch.proofs.Visits.{lits-plain, some-plain}
use Rattle.ba_watch.proofs.Levels.{decided-take_drop}
use Rattle.ba_watch.proofs.Follows.{Agrees, decided_map, agrees_take, level_map}
use Rattle.ba_watch.proofs.Sounds.{clause_in-map, state}
use Rattle.ba_watch.proofs.Walks.{at_occurs}
use Rattle.ba_watch.proofs.Unnamed.{unnamed_kept, unnamed_stands, unnamed_occurs}

-- a list of waiting clauses and their new places
one_less : (x r y z n : ℕ) → (x ≡ r → y ≡ z) → cond (eqb y z) 1 0 + n ≡ 0 → cond {A = ℕ} (eqb x r) 1 0 ≡ 0
one_less x r y z n same h = ⊎_elim (λ e. absurd (hit y z n (same e) h)) (λ ne. miss x r ne) (cases_eq x r)
  where
    hit : (y z n : ℕ) → y ≡ z → cond (eqb y z) 1 0 + n ≡ 0 → ⊥
    hit y z n e h = grind (arith, nat_tests)

    miss : (x r : ℕ) → x ≢ r → cond {A = ℕ} (eqb x r) 1 0 ≡ 0
    miss x r ne = grind (arith, nat_tests)

absent_before : (f : ℕ → ℕ) (w : List ℕ) (r : ℕ) → occurrences (f r) (map f w) ≡ 0 → occurrences r w ≡ 0
absent_before f [] r h = refl
absent_before f (x ∷ xs) r h =
    let rest = absent_before f xs r (omega (arith, h)) in
    omega (arith, rest, one_less x r (f x) (f r) (occurrences (f r) (map f xs)) (λ e. ap f e) h)

record Stands (f : ℕ → ℕ) (w : List ℕ) (q : ℕ) : Type 0 where
  pub place : ℕ
  pub within : place < length w
  pub is : f (get_or w place 0) ≡ q

stands : (f : ℕ → ℕ) (w : List ℕ) (q : ℕ) → 0 < occurrences q (map f w) → Stands f w q
stands f [] q h = absurd (omega (arith, h))
stands f (x ∷ xs) q h = ⊎_elim
    (λ e. record { place = 0; within = omega arith; is = e })
    (λ ne.
    let rest = stands f xs q (later (f x) q (occurrences q (map f xs)) ne h) in
    record { place = suc rest.place; within = omega (arith, rest.within); is = rest.is })
    (cases_eq (f x) q)
  where
    later : (y q n : ℕ) → y ≢ q → 0 < cond (eqb y q) 1 0 + n → 0 < n
    later y q n ne h = grind (arith, nat_tests)

plain_some : (o : Option Clause) → IsSome o → (c : Clause) × (o ≡ Some c)
plain_some None live = absurd (cc live)
plain_some (Some c) live = (c, refl)

pub some_within : (rs : List (Option ℕ)) (p r : ℕ) → get_or rs p None ≡ Some r → p < length rs
some_within rs p r is = ⊎_elim (λ h. h) (λ past. absurd (none-some r (sym (get_or_past rs p None past) ∙ is)))
    (cases_lt p (length rs))

-- what the conditions of a deletion give
module _ (a : Clauses) (n : ℕ) (p : Option ℕ) (t : Assignments) (h : ℕ) (w : List ℕ) (s : Bool)
    (numbers : List ℕ)
    (sound : IsSound a n p t.variables t.lits t.reasons h w s) (may : MayDelete (state a t s) numbers) where
  seen : (r : ℕ) (x : Stored) → clause_at a r ≡ Some x →
      clause_in (map plain a) r ≡ Some (record { lits = x.lits; number = x.number })
  seen r x is = clause_in-map a r ∙ ap plain is

  pub alone_in : AreAlone a
  alone_in x y number x_is y_is =
      let u = stored_some (clause_at a x) (live_number (clause_at a x) number x_is) in
      let v = stored_some (clause_at a y) (live_number (clause_at a y) number y_is) in
      may.alone x y _ _ (seen x u.0 u.1) (seen y v.0 v.1)
      (the_number u.0 number (ap number_of (sym u.1) ∙ x_is)
      ∙ sym (the_number v.0 number (ap number_of (sym v.1) ∙ y_is)))
    where
      live_number : (o : Option Stored) (m : ℕ) → number_of o ≡ Some m → IsSome o
      live_number None m e = absurd (cc e)
      live_number (Some x) m e = refl

      the_number : (x : Stored) (m : ℕ) → ◌≡◌ {A = Option ℕ} (Some x.number) (Some m) → x.number ≡ m
      the_number x m e = cc e

  pub reasons_kept : (q r : ℕ) → get_or t.reasons q None ≡ Some r → IsKept a numbers r
  reasons_kept q r is =
      let within : q < length t.lits = omega (
        arith,
        some_within t.reasons q r is,
        sound.facts.trail_is.same_length,
      ) in
      let reason : IsReason (lits_at a r) (take q t.lits) (lit_at t.lits q) =
      sound.facts.reasons_are q r within is in
      let x = stored_some (clause_at a r) (has_live (clause_at a r) (lit_at t.lits q) reason.has) in
      (x.0, x.1, λ named. may.no_reason q r _ is (seen r x.0 x.1) named)
    where
      has_live : (o : Option Stored) (l : Literal) → has_literal l (lits_of o) ≡ true → IsSome o
      has_live None l e = absurd (cc e)
      has_live (Some x) l e = refl

  pub waiting_live : (k : ℕ) → k < length w → IsLive a (get_or w k 0)
  waiting_live k k_in = sound.units.live (get_or w k 0) (at_occurs w k k_in)

  -- the clauses that wait on
  abbrev waiting_on : List ℕ
  waiting_on = unnamed_of a numbers w

  waits_on : (k : ℕ) → k < length waiting_on → IsKept a numbers (get_or waiting_on k 0)
  waits_on = unnamed_kept a numbers w waiting_live

  still_short : (k : ℕ) → k < length waiting_on → length (lits_at a (get_or waiting_on k 0)) < 2
  still_short k k_in = sound.units.short (get_or waiting_on k 0) (unnamed_stands a numbers w k k_in)

  pub may_link : (r : ℕ) → MayLink (lits_at a r) n
  may_link r k k_in counted =
      let l = lit_at (lits_at a r) k in
      let within : l.variable ≤ t.variables = sound.facts.in_range r k k_in in
      let room : 2 * t.variables + 2 ≤ n = sound.room (omega (arith, counted, within)) in
      below l.variable l.negated t.variables n within room
    where
      below : (v : ℕ) (b : Bool) (m n : ℕ) → v ≤ m → 2 * m + 2 ≤ n →
          index_of (record { variable = v; negated = b }) < n
      below v true m n le room = omega (arith, le, room)
      below v false m n le room = omega (arith, le, room)

  -- after the deletion
  module _ (a' : Clauses) (u : Assignments) (w' : List ℕ) (refs : List (Option ℕ))
      (d : DeletesAll a a' t u w w' refs numbers) where
    lits_there : (r : ℕ) → IsKept a numbers r → lits_at a' (d.moved r) ≡ lits_at a r
    lits_there r kept =
        let x = kept.0 in
        let at = d.clauses.there r _ (seen r x kept.1) kept.2 in
        lits-plain a' (d.moved r) ∙ (ap plain_lits (sym (clause_in-map a' (d.moved r)) ∙ at)
        ∙ sym (ap lits_of kept.1))

    live_there : (r : ℕ) → IsKept a numbers r → IsLive a' (d.moved r)
    live_there r kept =
        let x = kept.0 in
        some-plain a' (d.moved r) ∙ ap is_some (sym (clause_in-map a' (d.moved r))
        ∙ d.clauses.there r _ (seen r x kept.1) kept.2)

    -- where a clause has come from
    record From (q : ℕ) : Type 0 where
      pub from : ℕ
      pub live : IsLive a from
      pub stays : IsKept a numbers from
      pub same : lits_at a from ≡ lits_at a' q
      pub to : d.moved from ≡ q

    kept_from : (r : ℕ) (c : Clause) → plain_at a r ≡ Some c → (Contains numbers c.number → ⊥) →
        IsKept a numbers r
    kept_from r c is other = of (clause_at a r) refl is
      where
        of : (o : Option Stored) → clause_at a r ≡ o → plain o ≡ Some c → IsKept a numbers r
        of None there e = absurd (cc e)
        of (Some x) there e =
            let same : ◌≡◌ {A = Clause} (record { lits = x.lits; number = x.number }) c = cc e in
            (x, there, λ named. other (subst (λ (d : Clause). Contains numbers d.number) same named))

    source : (q : ℕ) → IsLive a' q → From q
    source q live =
        let c = plain_some (plain_at a' q) (sym (some-plain a' q) ∙ live) in
        let is : clause_in (map plain a') q ≡ Some c.0 = clause_in-map a' q ∙ c.1 in
        let out = d.clauses.only q c.0 is in
        let was : plain_at a out.from ≡ Some c.0 = sym (clause_in-map a out.from) ∙ out.there in
        record {
          from = out.from;
          live = some-plain a out.from ∙ ap is_some was;
          stays = kept_from out.from c.0 was out.stays;
          same = lits-plain a out.from ∙ (ap plain_lits (was ∙ sym c.1) ∙ sym (lits-plain a' q));
          to = out.to;
        }

    -- what holds of the literals of each clause still does
    all_lits : (P : List Literal → Type 0) → P [] → ((r : ℕ) → P (lits_at a r)) → (q : ℕ) → P (lits_at a' q)
    all_lits P none all q = at (clause_at a' q) refl
      where
        at : (o : Option Stored) → clause_at a' q ≡ o → P (lits_at a' q)
        at None is = subst P (sym (ap lits_of is)) none
        at (Some x) is =
            let f = source q (ap is_some is) in
            subst P f.same (all f.from)

    agrees : Agrees (option_map d.moved) t.reasons
    agrees k = of (get_or t.reasons k None)
      where
        of : (o : Option ℕ) → is_some (option_map d.moved o) ≡ is_some o
        of None = refl
        of (Some r) = refl

    levels : (q : ℕ) → level_at (map (option_map d.moved) t.reasons) q ≡ level_at t.reasons q
    levels q = level_map (option_map d.moved) t.reasons q refl agrees

    decisions : decided (map (option_map d.moved) t.reasons) ≡ decided t.reasons
    decisions = decided_map (option_map d.moved) t.reasons agrees

    guarded : (x y : Literal) → IsGuarded t.lits t.reasons h x y →
        IsGuarded t.lits (map (option_map d.moved) t.reasons) h x y
    guarded x y g x_false before =
        let out = g x_false before in (
          out.0,
          omega (
            arith,
            out.1,
            levels (trail_index t.lits y.variable),
            levels
                (trail_index t.lits x.variable),
          ),
        )

    get_or-mapped : (rs : List (Option ℕ)) (k : ℕ) →
        get_or (map (option_map d.moved) rs) k None ≡ option_map d.moved (get_or rs k None)
    get_or-mapped [] k = refl
    get_or-mapped (x ∷ xs) zero = refl
    get_or-mapped (x ∷ xs) (suc k) = get_or-mapped xs k

    reason_at : (k q : ℕ) → k < length t.lits → (o : Option ℕ) → get_or t.reasons k None ≡ o →
        option_map d.moved o ≡ Some q
        → IsReason (lits_at a' q) (take k t.lits) (lit_at t.lits k)
    reason_at k q k_in None is e = absurd (cc e)
    reason_at k q k_in (Some r) is e =
        let to : d.moved r ≡ q = cc e in
        subst (λ (m : ℕ). IsReason (lits_at a' m) (take k t.lits) (lit_at t.lits k)) to
        (subst (λ (ls : List Literal). IsReason ls (take k t.lits) (lit_at t.lits k))
        (sym (lits_there r (reasons_kept k r is)))
        (sound.facts.reasons_are k r k_in is))

    facts : AreFacts (lits_at a') t.variables t.lits (map (option_map d.moved) t.reasons) h
    facts = record {
      trail_is = record {
        same_length = length-map t.reasons (option_map d.moved) ∙ sound.facts.trail_is.same_length;
        fresh = sound.facts.trail_is.fresh;
        counted = sound.facts.trail_is.counted;
        within = sound.facts.trail_is.within;
        short = sound.facts.trail_is.short;
      };
      head_le = sound.facts.head_le;
      present = omega (
        arith,
        sound.facts.present,
        decisions,
        decided-take_drop (suc h) t.reasons,
        decided-take_drop (suc h) (map (option_map d.moved) t.reasons),
        taken,
      );
      guarded = record {
        first = λ q. all_lits (λ ls. 2 ≤ length ls → IsGuarded t.lits (map (option_map d.moved) t.reasons) h
            (lit_at ls 0) (lit_at ls 1))
            (λ long. absurd (omega (arith, long)))
            (λ r long. guarded (lit_at (lits_at a r) 0) (lit_at (lits_at a r) 1)
            (sound.facts.guarded.first r long)) q;
        second = λ q. all_lits (λ ls. 2 ≤ length ls →
            IsGuarded t.lits (map (option_map d.moved) t.reasons) h (lit_at ls 1) (lit_at ls 0))
            (λ long. absurd (omega (arith, long)))
            (λ r long. guarded (lit_at (lits_at a r) 1) (lit_at (lits_at a r) 0)
            (sound.facts.guarded.second r long)) q;
      };
      reasons_are = λ k q k_in is. reason_at k q k_in (get_or t.reasons k None) refl
          (sym (get_or-mapped t.reasons k) ∙ is);
      in_range = λ q. all_lits (λ ls. (k : ℕ) → k < length ls → (lit_at ls k).variable ≤ t.variables)
          (λ k k_in. absurd (omega (arith, k_in))) sound.facts.in_range q;
    }
      where
        taken : decided (take (suc h) (map (option_map d.moved) t.reasons)) ≡ decided (take (suc h) t.reasons)
        taken = ap decided (take-map (option_map d.moved) (suc h) t.reasons)
            ∙ decided_map (option_map d.moved) (take (suc h) t.reasons)
            (agrees_take (option_map d.moved) (suc h) t.reasons refl agrees)

    record IsUnit (q : ℕ) : Type 0 where
      pub one : length (lits_at a' q) ≡ 1
      pub true_ : value_of t.lits (lit_at (lits_at a' q) 0) ≡ Some true
      pub level : level_at (map (option_map d.moved) t.reasons)
          (trail_index t.lits (lit_at (lits_at a' q) 0).variable) ≡ 0

    unit_at : (q : ℕ) → IsLive a' q → length (lits_at a' q) < 2 → occurrences q w' ≡ 0 → IsUnit q
    unit_at q live short none =
        let f = source q live in
        let r = f.from in
        let old_short : length (lits_at a r) < 2 = subst (λ (ls : List Literal). length ls < 2) (sym f.same)
        short in
        let moved_none : occurrences (d.moved r) (map d.moved waiting_on) ≡ 0 =
        ap (λ m. occurrences m (map d.moved waiting_on)) f.to
        ∙ (ap (occurrences q) (sym d.waiting_moved) ∙ none) in
        let absent : occurrences r w ≡ 0 =
        sym (unnamed_occurs a numbers w r f.stays) ∙ absent_before d.moved waiting_on r moved_none in
        record {
          one = ap (λ (ls : List Literal). length ls) (sym f.same)
              ∙ sound.units.one r f.live old_short absent;
          true_ = ap (λ (ls : List Literal). value_of t.lits (lit_at ls 0)) (sym f.same)
              ∙ sound.units.true_ r f.live old_short absent;
          level = levels (trail_index t.lits (lit_at (lits_at a' q) 0).variable)
              ∙ (ap (λ (ls : List Literal). level_at t.reasons (trail_index t.lits (lit_at ls 0).variable))
              (sym f.same)
              ∙ sound.units.level r f.live old_short absent);
        }

    in_waiting : (q : ℕ) → 0 < occurrences q w' → Stands d.moved waiting_on q
    in_waiting q some = stands d.moved waiting_on q
        (subst (λ (ws : List ℕ). 0 < occurrences q ws) d.waiting_moved some)

    units : AreUnits a' t.lits (map (option_map d.moved) t.reasons) w'
    units = record {
      one = λ q live short none. (unit_at q live short none).one;
      true_ = λ q live short none. (unit_at q live short none).true_;
      level = λ q live short none. (unit_at q live short none).level;
      live = λ q some.
          let x = in_waiting q some in
          subst (λ m. IsLive a' m) x.is
          (live_there (get_or waiting_on x.place 0) (waits_on x.place x.within));
      short = λ q some.
          let x = in_waiting q some in
          let r = get_or waiting_on x.place 0 in
          subst (λ m. length (lits_at a' m) < 2) x.is
          (subst (λ (ls : List Literal). length ls < 2) (sym (lits_there r (waits_on x.place x.within)))
          (still_short x.place x.within));
    }

    none_left : w ≡ [] → w' ≡ []
    none_left e = d.waiting_moved ∙ ap (λ (ws : List ℕ). map d.moved (unnamed_of a numbers ws)) e

    pub Sound-delete : (n' : ℕ) (p' : Option ℕ) → n' ≡ n → p' ≡ None →
        IsSound a' n' p' u.variables u.lits u.reasons h w' s
    Sound-delete n' p' n'_is p'_is =
        subst (λ (y : Assignments). IsSound a' n' p' y.variables y.lits y.reasons h w' s) (sym d.trail)
        (record {
          facts = facts;
          units = units;
          idle = p'_is;
          room = λ some. omega (arith, sound.room some, n'_is);
          raised = λ some. none_left (sound.raised (omega (arith, some, decisions)));
          settled_head = sound.settled_head;
          settled_waiting = λ e. none_left (sound.settled_waiting e);
        })

    pub deletes_state : Deletes (state a t s) (state a' u s) numbers
    deletes_state = record {
      moved = d.moved;
      clauses = d.clauses;
      reasons = ap (λ (y : Assignments). y.reasons) d.trail;
      variables = ap (λ (y : Assignments). y.variables) d.trail;
      trail = ap (λ (y : Assignments). y.lits) d.trail;
      settled = refl;
    }
