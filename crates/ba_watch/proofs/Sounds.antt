-- The facts of a watch through its calls.

use Rattle.std.proofs.Common.{◌≡◌, ℕ, suc, zero, ◌+◌, ◌*◌, ◌<◌, ◌≤◌, max, Bool, true, false, Option, None, Some, IsSome, is_some, IfNone, Result, Ok, Err, OnOk, OnErr, List, [], ◌∷◌, ◌++◌, length, get_or, take, map, ltb, cond, refl, sym, ap, subst, ◌∙◌, arith, ⊎_elim}
use mathlib.Core.Path.{fun_ext}
use Rattle.std.proofs.lemmas.Bool.{cases_lt}
use Rattle.std.proofs.lemmas.Bool.Decides.{nat_tests}
use Rattle.std.proofs.lemmas.List.{take_all, take-take, length-take-le, drop_all, get_or-take}
use Rattle.ba_lits.specs.Literals.{Literal, lit_at, no_literal}
use Rattle.ba_arena.specs.Clauses.{Clauses, IsLive, lits_at}
use Rattle.ba_watch.specs.Threads.{AreApart, Clause, plain, plain_at}
use Rattle.ba_watch.specs.Trails.{Assignments, value_of, trail_index, decided, level_at, kept, IsTrail}
use Rattle.ba_watch.specs.Propagation.{State, plain_lits, clause_in, lits_in, SameClause, is_false, is_unit, IsComplete, IsReason, HasReasons, IsGuarded, AreFacts, AreUnits, IsSound, Propagates, AssignsUnits, Extends, KeepsFacts}
use Rattle.ba_watch.proofs.Values.{value_of-take, value_of-take_none, trail_index-some, trail_index-take}
use Rattle.ba_watch.proofs.Levels.{decided-append, decided-take_drop, decided-take-le, decided-take_step, kept_below, kept_above, kept-le, decided-kept}
use Rattle.ba_watch.proofs.Facts.{AreFacts-push, AreUnits-push}
use Rattle.ba_watch.proofs.Visits.{lits-plain, some-plain, Begins-trans}
use Rattle.ba_watch.proofs.Complete.{IsBoundary, IsBoundary-end, complete_at}

-- what contracts see of the arena
pub clause_in-map : (a : Clauses) (r : ℕ) → clause_in (map plain a) r ≡ plain_at a r
clause_in-map [] r = refl
clause_in-map (x ∷ xs) zero = refl
clause_in-map (x ∷ xs) (suc r) = clause_in-map xs r

pub lits_in-map : (a : Clauses) (r : ℕ) → lits_in (map plain a) r ≡ lits_at a r
lits_in-map a r = ap plain_lits (clause_in-map a r) ∙ sym (lits-plain a r)

pub lits_in-is : (a : Clauses) → lits_in (map plain a) ≡ lits_at a
lits_in-is a = fun_ext (λ r. lits_in-map a r)

-- a new watch
new_sound : (n : ℕ) → IsSound [] n None 0 [] [] 0 [] true
new_sound n = record {
  facts = record {
    trail_is = record {
      same_length = refl;
      fresh = λ p h. absurd (omega arith);
      counted = λ p h. absurd (omega arith);
      within = λ p h. absurd (omega arith);
      short = omega arith;
    };
    head_le = omega arith;
    present = refl;
    guarded = record { first = λ r long. absurd (omega arith); second = λ r long. absurd (omega arith) };
    reasons_are = λ p r h. absurd (omega arith);
    in_range = λ r k h. absurd (omega arith);
  };
  units = record {
    one = λ r live. absurd (cc live);
    true_ = λ r live. absurd (cc live);
    level = λ r live. absurd (cc live);
    live = λ r h. absurd (omega arith);
    short = λ r h. absurd (omega arith);
  };
  idle = refl;
  room = λ h. absurd (omega arith);
  raised = λ h. refl;
  settled_head = λ h. refl;
  settled_waiting = λ h. refl;
}

pub Sound-new : (a : Clauses) (n : ℕ) (p : Option ℕ) (t : Assignments) (w : List ℕ) → a ≡ [] → p ≡ None →
    t ≡ record { variables = 0; lits = []; reasons = [] } → w ≡ [] →
    IsSound a n p t.variables t.lits t.reasons 0 w true
Sound-new a n p t w a_is p_is t_is w_is =
    subst (λ (b : Clauses). IsSound b n p t.variables t.lits t.reasons 0 w true) (sym a_is)
    (subst (λ (q : Option ℕ). IsSound [] n q t.variables t.lits t.reasons 0 w true) (sym p_is)
    (subst (λ (u : Assignments). IsSound [] n None u.variables u.lits u.reasons 0 w true) (sym t_is)
    (subst (λ (x : List ℕ). IsSound [] n None 0 [] [] 0 x true) (sym w_is) (new_sound n))))

-- more variables and more heads
pub Sound-wider : (a a' : Clauses) (n n' : ℕ) (p p' : Option ℕ) (v v' : ℕ) (T : List Literal)
    (R : List (Option ℕ)) (h : ℕ) (w : List ℕ) (s : Bool) → IsSound a n p v T R h w s → a' ≡ a → p' ≡ p →
    v ≤ v' → (0 < v' → 2 * v' + 2 ≤ n') → IsSound a' n' p' v' T R h w s
Sound-wider a a' n n' p p' v v' T R h w s x a_is p_is more room =
    subst (λ (b : Clauses). IsSound b n' p' v' T R h w s) (sym a_is) (record {
      facts = record {
        trail_is = record {
          same_length = x.facts.trail_is.same_length;
          fresh = x.facts.trail_is.fresh;
          counted = x.facts.trail_is.counted;
          within = λ q q_in. omega (arith, x.facts.trail_is.within q q_in);
          short = omega (arith, x.facts.trail_is.short);
        };
        head_le = x.facts.head_le;
        present = x.facts.present;
        guarded = x.facts.guarded;
        reasons_are = x.facts.reasons_are;
        in_range = λ r k k_in. omega (arith, x.facts.in_range r k k_in);
      };
      units = x.units;
      idle = p_is ∙ x.idle;
      room = room;
      raised = x.raised;
      settled_head = x.settled_head;
      settled_waiting = x.settled_waiting;
    })

pub Sound-grow : {U E : Type 0} (a a' : Clauses) (n n' : ℕ) (p p' : Option ℕ) (t u : Assignments) (h : ℕ)
    (w : List ℕ) (s : Bool) (v : ℕ) (result : Result U E) →
    IsSound a n p t.variables t.lits t.reasons h w s → a' ≡ a → p' ≡ p → n ≤ n' → 2 * v + 2 ≤ n'
    → OnOk result (u ≡ record t { variables = max t.variables v }) → OnErr result (u ≡ t) →
    IsSound a' n' p' u.variables u.lits u.reasons h w s
Sound-grow a a' n n' p p' t u h w s v (Ok x) sound a_is p_is more room ok err =
    subst (λ (y : Assignments). IsSound a' n' p' y.variables y.lits y.reasons h w s) (sym ok)
    (Sound-wider a a' n n' p p' t.variables (max t.variables v) t.lits t.reasons h w s sound a_is p_is
    (omega arith)
    (λ some. ⊎_elim (λ below. omega (arith, room)) (λ above. omega (arith, sound.room (omega arith)))
    (cases_lt t.variables v)))
Sound-grow a a' n n' p p' t u h w s v (Err x) sound a_is p_is more room ok err =
    subst (λ (y : Assignments). IsSound a' n' p' y.variables y.lits y.reasons h w s) (sym err)
    (Sound-wider a a' n n' p p' t.variables t.variables t.lits t.reasons h w s sound a_is p_is
    (omega arith) (λ some. omega (arith, sound.room some)))

-- a literal is put on the trail
pub Sound-push : (a : Clauses) (n : ℕ) (p : Option ℕ) (t u : Assignments) (h : ℕ) (w : List ℕ) (s : Bool)
    (l : Literal) (x : Option ℕ) → IsSound a n p t.variables t.lits t.reasons h w s →
    u ≡ record t { lits = t.lits ++ l ∷ []; reasons = t.reasons ++ x ∷ [] } →
    IsTrail u.variables u.lits u.reasons
    → ((r : ℕ) → x ≡ Some r → IsReason (lits_at a r) t.lits l) → (x ≡ None → s ≡ true) →
    IsSound a n p u.variables u.lits u.reasons h w false
Sound-push a n p t u h w s l x sound is trail reason settled =
    let trail' : IsTrail t.variables (t.lits ++ l ∷ []) (t.reasons ++ x ∷ []) =
    subst (λ (y : Assignments). IsTrail y.variables y.lits y.reasons) is trail in
    subst (λ (y : Assignments). IsSound a n p y.variables y.lits y.reasons h w false) (sym is) (record {
      facts = AreFacts-push (lits_at a) t.variables t.lits t.reasons h l x sound.facts trail' reason
          (λ below. no_decision x (λ e. omega (arith, below, sound.settled_head (settled e))));
      units = AreUnits-push a t.lits (l ∷ []) t.reasons (x ∷ []) w sound.facts.trail_is.same_length
          sound.units;
      idle = sound.idle;
      room = sound.room;
      raised = λ some. still x (λ e. sound.settled_waiting (settled e)) some;
      settled_head = λ e. absurd (cc e);
      settled_waiting = λ e. absurd (cc e);
    })
  where
    no_decision : (y : Option ℕ) → (y ≡ None → ⊥) → decided (y ∷ []) ≡ 0
    no_decision None h = absurd (h refl)
    no_decision (Some r) h = refl

    still : (y : Option ℕ) → (y ≡ None → w ≡ []) → 0 < decided (t.reasons ++ y ∷ []) → w ≡ []
    still None h some = h refl
    still (Some r) h some = sound.raised (omega (arith, some, decided-append t.reasons (Some r ∷ [])))

-- propagation under a waiting list that is empty
pub complete_now : (a : Clauses) (v : ℕ) (T : List Literal) (R : List (Option ℕ)) (h : ℕ) (w : List ℕ) →
    AreFacts (lits_at a) v T R h → AreUnits a T R w → w ≡ [] → h ≡ length T → IsComplete (map plain a) T
complete_now a v T R h w facts units w_is h_is =
    let units' : AreUnits a T R [] = subst (λ (x : List ℕ). AreUnits a T R x) w_is units in
    let both : (r : ℕ) → IsSome (clause_in (map plain a) r) →
    (is_false (value_of T) (lits_in (map plain a) r) ≡ false)
    × (is_unit (value_of T) (lits_in (map plain a) r) ≡ false) =
    λ r live.
    let live' : IsLive a r = some-plain a r ∙ (ap is_some (sym (clause_in-map a r)) ∙ live) in
    let out = complete_at a v T R h (length T) facts units' (IsBoundary-end R (length T))
    (omega (arith, h_is)) r live' in
    subst (λ (ls : List Literal). (is_false (value_of T) ls ≡ false) × (is_unit (value_of T) ls ≡ false))
    (sym (lits_in-map a r))
    (subst (λ (ts : List Literal). (is_false (value_of ts) (lits_at a r) ≡ false)
    × (is_unit (value_of ts) (lits_at a r) ≡ false)) (take_all (length T) T (omega arith)) out) in
    record { none_false = λ r live. (both r live).0; none_unit = λ r live. (both r live).1 }

-- a decision is a boundary
decision_bound : (R : List (Option ℕ)) (n m : ℕ) → n ≡ length R → m < n → get_or R m None ≡ None →
    IsBoundary R n m
decision_bound R n m n_is m_in is =
    let step : decided (take (m + 1) R) ≡ decided (take m R) + 1 =
    decided-take_step m R (omega (arith, n_is)) ∙ ap
    (λ (x : Option ℕ). decided (take m R) + cond {A = ℕ} (is_some x) 0 1) is in
    record {
      le = omega arith;
      higher = λ p q p_in above below. omega (
        arith,
        step,
        decided-take-le (p + 1) m R (omega arith),
        decided-take-le (m + 1) (q + 1) R (omega arith),
      );
      decided_ = λ q above below. omega (arith, step, decided-take-le (m + 1) (q + 1) R (omega arith));
    }

-- before a decision propagation was complete
pub complete_below : (a : Clauses) (v : ℕ) (T : List Literal) (R : List (Option ℕ)) (h : ℕ) (w : List ℕ) →
    AreFacts (lits_at a) v T R h → AreUnits a T R w → (0 < decided R → w ≡ []) → (m : ℕ) → m < length T →
    get_or R m None ≡ None → IsComplete (map plain a) (take m T)
complete_below a v T R h w facts units raised m m_in is =
    let len : length R ≡ length T = facts.trail_is.same_length in
    let bound : IsBoundary R (length T) m = decision_bound R (length T) m (sym len) m_in is in
    let some : 0 < decided R = omega (
      arith,
      decided-take_drop (m + 1) R,
      bound.decided_ m (omega arith)
          m_in,
    ) in
    let units' : AreUnits a T R [] = subst (λ (x : List ℕ). AreUnits a T R x) (raised some) units in
    let le : m ≤ h = ⊎_elim (λ below. absurd (omega (
      arith,
      facts.present,
      decided-take_drop (suc h) R,
      decided-take_drop (m + 1) R,
      decided-take_step m
          R (omega (arith, len, m_in)),
      ap (λ (x : Option ℕ). cond {A = ℕ} (is_some x) 0 1) is,
      decided-take-le (suc h) m R below,
      decided-take_drop m R,
    ))) (λ above. above) (cases_lt h m) in
    let both : (r : ℕ) → IsSome (clause_in (map plain a) r) →
    (is_false (value_of (take m T)) (lits_in (map plain a) r) ≡ false)
    × (is_unit (value_of (take m T)) (lits_in (map plain a) r) ≡ false) =
    λ r live.
    let live' : IsLive a r = some-plain a r ∙ (ap is_some (sym (clause_in-map a r)) ∙ live) in
    subst (λ (ls : List Literal). (is_false (value_of (take m T)) ls ≡ false)
    × (is_unit (value_of (take m T)) ls ≡ false)) (sym (lits_in-map a r))
    (complete_at a v T R h m facts units' bound le r live') in
    record { none_false = λ r live. (both r live).0; none_unit = λ r live. (both r live).1 }

pub keeps : (a : Clauses) (n : ℕ) (p : Option ℕ) (v : ℕ) (T : List Literal) (R : List (Option ℕ)) (h : ℕ)
    (w : List ℕ) (s : Bool) → IsSound a n p v T R h w s → ((r : ℕ) → AreApart (lits_at a r)) →
    KeepsFacts (record { variables = v; clauses = map plain a; trail = T; reasons = R; settled = s })
keeps a n p v T R h w s x apart = record {
  trail = x.facts.trail_is;
  reasons = subst (λ (L : ℕ → List Literal). HasReasons L T R) (sym (lits_in-is a)) x.facts.reasons_are;
  in_range = subst (λ (L : ℕ → List Literal). (r k : ℕ) → k < length (L r) →
      (lit_at (L r) k).variable ≤ v) (sym (lits_in-is a)) x.facts.in_range;
  settled = λ e. complete_now a v T R h w x.facts x.units (x.settled_waiting e) (x.settled_head e);
  below = λ m m_in is. complete_below a v T R h w x.facts x.units x.raised m m_in is;
  apart = subst (λ (L : ℕ → List Literal). (r : ℕ) → AreApart (L r)) (sym (lits_in-is a)) apart;
}

-- the trail up to the literals of at most a level
module _ (L : ℕ → List Literal) (v : ℕ) (T : List Literal) (R : List (Option ℕ)) (h level : ℕ)
    (facts : AreFacts L v T R h) (less : level < decided R) where
  back_le : kept level R ≤ h
  back_le =
      let more : level < decided (take (suc h) R) =
      omega (arith, less, facts.present, decided-take_drop (suc h) R) in
      omega (arith, kept_below level (suc h) R more)

  back_within : kept level R ≤ length T
  back_within = omega (arith, kept-le level R, facts.trail_is.same_length)

  -- a place of at most the level is kept
  back_kept : (p : ℕ) → p < length T → level_at R p ≤ level → p < kept level R
  back_kept p p_in le = omega (
    arith,
    kept_above level (p + 1) R le
        (omega (arith, facts.trail_is.same_length)),
  )

  back_level : (p : ℕ) → p < kept level R → level_at R p ≤ level
  back_level p below = omega (
    arith,
    decided-kept level R (omega (arith, less)),
    decided-take-le (p + 1)
        (kept level R) R (omega (arith, below)),
  )

  back_guarded : (a b : Literal) → IsGuarded T R h a b →
      IsGuarded (take (kept level R) T) (take (kept level R) R) (length (take (kept level R) T)) a b
  back_guarded a b g a_false before =
      let m : ℕ = kept level R in
      let m_le : m ≤ length T = back_within in
      let len : length (take m T) ≡ m = length-take-le m T m_le in
      let a_in : trail_index T a.variable < m = ⊎_elim (λ below. below)
      (λ above. absurd (clash (sym a_false ∙ value_of-take_none m T a above)))
      (cases_lt (trail_index T a.variable) m) in
      let old = g (sym (value_of-take m T a a_in) ∙ a_false) (omega (arith, back_le)) in
      let b_in : trail_index T b.variable < m = back_kept (trail_index T b.variable)
      (trail_index-some T b true old.0) (omega (arith, old.1, back_level (trail_index T a.variable) a_in)) in
      let a_same : trail_index (take m T) a.variable ≡ trail_index T a.variable =
      trail_index-take m T a.variable a_in m_le in
      let b_same : trail_index (take m T) b.variable ≡ trail_index T b.variable =
      trail_index-take m T b.variable b_in m_le in
      let level_same : (p : ℕ) → p < m → level_at (take m R) p ≡ level_at R p =
      λ p below. ap decided (take-take (p + 1) m R (omega arith)) in (
        value_of-take m T b b_in ∙ old.0,
        omega (
          arith,
          old.1,
          ap (level_at (take m R)) a_same,
          ap (level_at (take m R)) b_same,
          level_same
              (trail_index T a.variable) a_in,
          level_same (trail_index T b.variable) b_in,
        ),
      )
    where
      clash : {x : Bool} → Some x ≡ None → ⊥
      clash e = cc e

  pub back_facts : IsTrail v (take (kept level R) T) (take (kept level R) R) →
      AreFacts L v (take (kept level R) T) (take (kept level R) R) (length (take (kept level R) T))
  back_facts trail =
      let m : ℕ = kept level R in
      let m_le : m ≤ length T = back_within in
      let len : length (take m T) ≡ m = length-take-le m T m_le in
      record {
        trail_is = trail;
        head_le = omega arith;
        present = ap decided (drop_all (suc (length (take m T))) (take m R)
            (omega (arith, trail.same_length)));
        guarded = record {
          first = λ r long. back_guarded (lit_at (L r) 0) (lit_at (L r) 1) (facts.guarded.first r long);
          second = λ r long. back_guarded (lit_at (L r) 1) (lit_at (L r) 0) (facts.guarded.second r long);
        };
        reasons_are = λ p r p_in is.
            let below : p < m = omega (arith, len) in
            let old : IsReason (L r) (take p T) (lit_at T p) =
            facts.reasons_are p r (omega arith) (sym (get_or-take m R p None below) ∙ is) in
            subst (λ (ys : List Literal). IsReason (L r) ys (lit_at (take m T) p))
            (sym (take-take p m T (omega arith)))
            (subst (λ (l : Literal). IsReason (L r) (take p T) l) (sym (get_or-take m T p no_literal below))
            old);
        in_range = facts.in_range;
      }

  pub back_units : (a : Clauses) → AreUnits a T R [] →
      AreUnits a (take (kept level R) T) (take (kept level R) R) []
  back_units a u =
      let m : ℕ = kept level R in
      let m_le : m ≤ length T = back_within in
      let stays : (l : Literal) → value_of T l ≡ Some true → level_at R (trail_index T l.variable) ≡ 0 →
      trail_index T l.variable < m =
      λ l is_true zero_level. back_kept (trail_index T l.variable) (trail_index-some T l true is_true)
      (omega (arith, zero_level)) in
      record {
        one = u.one;
        true_ = λ r live short none. value_of-take m T (lit_at (lits_at a r) 0)
            (stays (lit_at (lits_at a r) 0) (u.true_ r live short none) (u.level r live short none))
            ∙ u.true_ r live short none;
        level = λ r live short none.
            let l : Literal = lit_at (lits_at a r) 0 in
            let below : trail_index T l.variable < m = stays l (u.true_ r live short none)
            (u.level r live short none) in
            ap (level_at (take m R)) (trail_index-take m T l.variable below m_le)
            ∙ (ap decided (take-take (trail_index T l.variable + 1) m R (omega arith))
            ∙ u.level r live short none);
        live = u.live;
        short = u.short;
      }

pub Sound-back : (a : Clauses) (n : ℕ) (p : Option ℕ) (t u : Assignments) (h k level : ℕ) (w : List ℕ)
    (s : Bool) → IsSound a n p t.variables t.lits t.reasons h w s → level < decided t.reasons
    → u ≡ record t {
      lits = take (kept level t.reasons) t.lits;
      reasons = take (kept level t.reasons) t.reasons;
    } → IsTrail u.variables u.lits u.reasons → k ≡ length u.lits →
    IsSound a n p u.variables u.lits u.reasons k w true
Sound-back a n p t u h k level w s sound less is trail k_is =
    let m : ℕ = kept level t.reasons in
    let trail' : IsTrail t.variables (take m t.lits) (take m t.reasons) =
    subst (λ (y : Assignments). IsTrail y.variables y.lits y.reasons) is trail in
    let w_is : w ≡ [] = sound.raised (omega (arith, less)) in
    let units : AreUnits a (take m t.lits) (take m t.reasons) w =
    subst (λ (x : List ℕ). AreUnits a (take m t.lits) (take m t.reasons) x) (sym w_is)
    (back_units (lits_at a) t.variables t.lits t.reasons h level sound.facts less a
    (subst (λ (x : List ℕ). AreUnits a t.lits t.reasons x) w_is sound.units)) in
    subst (λ (j : ℕ). IsSound a n p u.variables u.lits u.reasons j w true) (sym k_is)
    (subst (λ (y : Assignments). IsSound a n p y.variables y.lits y.reasons (length y.lits) w true)
    (sym is) (record {
      facts = back_facts (lits_at a) t.variables t.lits t.reasons h level sound.facts less trail';
      units = units;
      idle = sound.idle;
      room = sound.room;
      raised = λ some. w_is;
      settled_head = λ e. refl;
      settled_waiting = λ e. w_is;
    }))

-- at the present level nothing is taken off
pub kept-all : (level : ℕ) (R : List (Option ℕ)) → decided R ≤ level → kept level R ≡ length R
kept-all level R le =
    let all : length R ≤ kept level R = kept_above level (length R) R
    (omega (arith, le, ap decided (take_all (length R) R (omega arith)))) (omega arith) in
    omega (arith, all, kept-le level R)

-- a watch as contracts see it
abbrev pub state : Clauses → Assignments → Bool → State
state a t s = record {
  variables = t.variables;
  clauses = map plain a;
  trail = t.lits;
  reasons = t.reasons;
  settled = s;
}

abbrev pub back : ℕ → State → State
back level s = record s {
  trail = take (kept level s.reasons) s.trail;
  reasons = take (kept level s.reasons) s.reasons;
  settled = cond (ltb level (decided s.reasons)) true s.settled;
}

pub back_same : (a : Clauses) (t : Assignments) (s : Bool) (level : ℕ) → length t.reasons ≡ length t.lits →
    decided t.reasons ≤ level → state a t s ≡ back level (state a t s)
back_same a t s level len le =
    let all : kept level t.reasons ≡ length t.reasons = kept-all level t.reasons le in
    let T : take (kept level t.reasons) t.lits ≡ t.lits =
    take_all (kept level t.reasons) t.lits (omega (arith, all)) in
    let R : take (kept level t.reasons) t.reasons ≡ t.reasons =
    take_all (kept level t.reasons) t.reasons (omega (arith, all)) in
    let c : cond (ltb level (decided t.reasons)) true s ≡ s =
    ap (λ (b : Bool). cond b true s) (not_below level (decided t.reasons) le) in
    made _ _ _ _ _ _ T R c
  where
    not_below : (m n : ℕ) → n ≤ m → ltb m n ≡ false
    not_below m n h = grind (arith, nat_tests)

    made : (x y : List Literal) (r q : List (Option ℕ)) (b d : Bool) → x ≡ y → r ≡ q → b ≡ d →
        ◌≡◌ {A = State} (record {
          variables = t.variables;
          clauses = map plain a;
          trail = y;
          reasons = q;
          settled = d;
        }) (record {
          variables = t.variables;
          clauses = map plain a;
          trail = x;
          reasons = r;
          settled = b;
        })
    made x y r q b d e f g = cc

pub extends : (a a' : Clauses) (t u w : Assignments) (s s' : Bool) → AssignsUnits a t u →
    Propagates a a' u w → Extends (state a t s) (state a' w s')
extends a a' t u w s s' first second = record {
  variables = second.variables ∙ first.variables;
  trail = Begins-trans t.lits u.lits w.lits first.trail second.trail;
  reasons = Begins-trans t.reasons u.reasons w.reasons first.reasons second.reasons;
  level = second.level ∙ first.level;
  clauses = λ r. subst (λ (o : Option Clause). SameClause o (clause_in (map plain a') r))
      (sym (clause_in-map a r)) (subst (λ (o : Option Clause). SameClause (plain_at a r) o)
      (sym (clause_in-map a' r)) (second.clauses r));
}

-- a false clause, as contracts see it
pub false_in : (a : Clauses) (T : List Literal) (r : ℕ) → IsLive a r →
    is_false (value_of T) (lits_at a r) ≡ true → IsSome (clause_in (map plain a) r)
    × (is_false (value_of T) (lits_in (map plain a) r) ≡ true)
false_in a T r live e = (
  ap is_some (clause_in-map a r)
      ∙ (sym (some-plain a r) ∙ live),
  ap (is_false (value_of T)) (lits_in-map a r) ∙ e,
)

pub if_none : (P : Type 0) (o : Option ℕ) → IfNone o P → is_some o ≡ false → P
if_none P None h e = h
if_none P (Some x) h e = absurd (cc e)

pub IfNone-from : (P : Type 0) (o : Option ℕ) → P → IfNone o P
IfNone-from P None h = h
IfNone-from P (Some x) h = tt
