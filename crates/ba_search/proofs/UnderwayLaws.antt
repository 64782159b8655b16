-- What stays true of a search from one iteration to the next.

use Rattle.std.proofs.Common.{◌≡◌, ℕ, ◌+◌, ◌^◌, ◌<◌, ◌≤◌, max, false, Option, None, List, [], ◌∷◌, ◌++◌, length, get_or, take, refl, sym, ap, subst, ◌∙◌, arith, ⊎_elim}
use Rattle.std.proofs.lemmas.Bool.{cases_lt}
use Rattle.std.proofs.lemmas.List.{get_or-take, take-take, length-take, length_push, get_or_append_left}
use Rattle.std.proofs.Math.Seq.{get_or-append_seam, take-append_seam}
use Rattle.ba_lits.specs.Literals.{Literal, lit_at, no_literal}
use Rattle.ba_watch.specs.Trails.{Begins, decided, kept}
use Rattle.ba_watch.specs.Propagation.{State as Watching, Extends, KeepsFacts}
use Rattle.ba_watch.proofs.Levels.{decided-take_drop, decided-take-le, decided-take_none, decided-kept}
use Rattle.ba_learn.specs.Backjumps.{after_backtrack}
use Rattle.ba_checker.specs.States.{State, kept as kept_as, clause_at}
use Rattle.ba_checker.specs.declared.store.Origin.TheVariants.{Learnt}
use Rattle.ba_checker.specs.StepRules.{after_learn}
use Rattle.ba_learn.specs.Live.{AreLive}
use Rattle.ba_watch.specs.Threads.{Clause}
use Rattle.ba_search.specs.Iterations.{Numbering, MarksLive, LearnsOne, IsDecision, AreDecisions, IsUnderway}
use Rattle.ba_search.proofs.TakenLaws.{numbered_same, live_same, numbered_more, live_more, unmarked_next}

-- the front of a list
begins_at : {X : Type 0} (front xs : List X) (p : ℕ) (d : X) → Begins front xs → p < length front →
    get_or xs p d ≡ get_or front p d
begins_at front xs p d b within = sym (get_or-take (length front) xs p d within) ∙ ap (λ ys. get_or ys p d) b

begins_take : {X : Type 0} (front xs : List X) (p : ℕ) → Begins front xs → p ≤ length front →
    take p xs ≡ take p front
begins_take front xs p b le = sym (take-take p (length front) xs le) ∙ ap (take p) b

pub begins_length : {X : Type 0} (front xs : List X) → Begins front xs → length front ≤ length xs
begins_length front xs b = omega (arith, sym (ap length b), length-take (length front) xs)

-- if no level was begun, no late place was decided
no_late : (R S : List (Option ℕ)) (p : ℕ) → Begins R S → decided S ≡ decided R → p < length S →
    get_or S p None ≡ None →
    p < length R
no_late R S p b same within none = ⊎_elim
    (λ lt. lt)
    (λ le. absurd (omega (
      arith,
      ap decided b,
      same,
      decided-take-le (length R) p S le,
      decided-take_none p
          S within none,
      decided-take_drop (p + 1) S,
    )))
    (cases_lt p (length R))

pub decisions_extend : (variables : ℕ) (a T U : List Literal) (R S : List (Option ℕ)) → length R ≡ length T →
    length S ≡ length U → Begins T U → Begins R S → decided S ≡ decided R → AreDecisions variables a T R →
    AreDecisions variables a U S
decisions_extend variables a T U R S len len' bT bR same decisions p within none =
    let early : p < length R = no_late R S p bR same (omega (arith, within, len')) none in
    let old : IsDecision variables a (take p T) (lit_at T p) =
    decisions p (omega (arith, early, len)) (sym (begins_at R S p None bR early) ∙ none) in
    subst (λ (V : List Literal). IsDecision variables a V (lit_at U p))
    (sym (begins_take T U p bT (omega (arith, early, len))))
    (subst (λ (l : Literal). IsDecision variables a (take p T) l)
    (sym (begins_at T U p no_literal bT (omega (arith, early, len)))) old)

pub decisions_cut : (variables : ℕ) (a T : List Literal) (R : List (Option ℕ)) (n : ℕ) →
    AreDecisions variables a T R →
    AreDecisions variables a (take n T) (take n R)
decisions_cut variables a T R n decisions p within none =
    let below : p < n = omega (arith, within, length-take n T) in
    let inside : p < length T = omega (arith, within, length-take n T) in
    let old : IsDecision variables a (take p T) (lit_at T p) =
    decisions p inside (sym (get_or-take n R p None below) ∙ none) in
    subst (λ (V : List Literal). IsDecision variables a V (lit_at (take n T) p))
    (sym (take-take p n T (omega arith)))
    (subst (λ (l : Literal). IsDecision variables a (take p T) l) (sym (get_or-take n T p no_literal below))
    old)

pub decisions_push : (variables : ℕ) (a T : List Literal) (R : List (Option ℕ)) (l : Literal) →
    length R ≡ length T →
    IsDecision variables a T l → AreDecisions variables a T R →
    AreDecisions variables a (T ++ l ∷ []) (R ++ None ∷ [])
decisions_push variables a T R l len choice decisions p within none = ⊎_elim
    (λ lt.
    let old : IsDecision variables a (take p T) (lit_at T p) =
    decisions p lt (sym (get_or_append_left R (None ∷ []) None p (omega (arith, lt, len))) ∙ none) in
    subst (λ (V : List Literal). IsDecision variables a V (lit_at (T ++ l ∷ []) p))
    (sym (front p (omega (arith, lt))))
    (subst (λ (m : Literal). IsDecision variables a (take p T) m)
    (sym (get_or_append_left T (l ∷ []) no_literal p lt)) old))
    (λ ge.
    let at : p ≡ length T = omega (arith, ge, within, length_push T l) in
    subst (λ (q : ℕ). IsDecision variables a (take q (T ++ l ∷ [])) (lit_at (T ++ l ∷ []) q)) (sym at)
    (subst (λ (V : List Literal). IsDecision variables a V (lit_at (T ++ l ∷ []) (length T)))
    (sym (take-append_seam T (l ∷ [])))
    (subst (λ (m : Literal). IsDecision variables a T m) (sym (get_or-append_seam T l [] no_literal))
    choice)))
    (cases_lt p (length T))
  where
    front : (p : ℕ) → p ≤ length T → take p (T ++ l ∷ []) ≡ take p T
    front p le = sym (take-take p (length T) (T ++ l ∷ []) le) ∙ ap (take p) (take-append_seam T (l ∷ []))

-- propagation
pub underway_extends : (a : List Literal) (s t : Watching) (numbers : Numbering) (c : State) →
    KeepsFacts s → KeepsFacts t →
    Extends s t → IsUnderway a s numbers c → IsUnderway a t numbers c
underway_extends a s t numbers c facts facts' e u = record {
  numbered = numbered_same s.clauses t.clauses numbers.taken e.clauses u.numbered;
  live = live_same s.clauses t.clauses (clause_at c.clauses) e.clauses u.live;
  few = u.few;
  room = omega (arith, u.room, e.variables);
  decisions = decisions_extend c.variables a s.trail t.trail s.reasons t.reasons facts.trail.same_length
      facts'.trail.same_length e.trail e.reasons e.level u.decisions;
  begun = u.begun;
  awake = u.awake;
}

-- going back
pub underway_back : (a : List Literal) (s t : Watching) (numbers : Numbering) (c : State) (level : ℕ) →
    t ≡ after_backtrack level s →
    IsUnderway a s numbers c → IsUnderway a t numbers c
underway_back a s t numbers c level is u = subst (λ (x : Watching). IsUnderway a x numbers c) (sym is)
    (record {
      numbered = u.numbered;
      live = u.live;
      few = u.few;
      room = u.room;
      decisions = decisions_cut c.variables a s.trail s.reasons (kept level s.reasons) u.decisions;
      begun = u.begun;
      awake = u.awake;
    })

-- deciding
pub underway_decide : (a : List Literal) (s t : Watching) (numbers : Numbering) (c : State) (l : Literal) →
    KeepsFacts s → t ≡ record s {
      trail = s.trail ++ l ∷ [];
      reasons = s.reasons ++ None ∷ [];
      settled = false;
    } → IsDecision c.variables a s.trail l → IsUnderway a s numbers c → IsUnderway a t numbers c
underway_decide a s t numbers c l facts is choice u =
    subst (λ (x : Watching). IsUnderway a x numbers c) (sym is) (record {
      numbered = u.numbered;
      live = u.live;
      few = u.few;
      room = u.room;
      decisions = decisions_push c.variables a s.trail s.reasons l facts.trail.same_length choice u.decisions;
      begun = u.begun;
      awake = u.awake;
    })

-- learning
pub underway_learn : (a : List Literal) (s t : Watching) (old new : Numbering) (number : ℕ) (c d : State)
    (lits : List Literal) →
    LearnsOne s t old new number lits → number ≡ length d.clauses → d ≡ after_learn c lits →
    IsUnderway a s old c →
    IsUnderway a t new d
underway_learn a s t old new number c d lits adds last is u =
    subst (λ (x : State). IsUnderway a t new x) (sym is) (record {
      numbered = numbered_more s t adds.clause number lits adds.adds old.taken new.taken adds.marks
          (unmarked_next s.clauses old.taken c.clauses number u.numbered u.live next) u.numbered;
      live = live_more s t adds.clause number lits adds.adds c.clauses next u.live;
      few = omega (arith, next, adds.few, length_push c.clauses (kept_as Learnt lits));
      room = omega (arith, u.room, adds.adds.variables);
      decisions = subst (λ (T : List Literal). AreDecisions c.variables a T t.reasons) (sym adds.adds.trail)
          (subst (λ (R : List (Option ℕ)). AreDecisions c.variables a s.trail R) (sym adds.adds.reasons)
          u.decisions);
      begun = u.begun;
      awake = u.awake;
    })
  where
    next : number ≡ length c.clauses + 1
    next = last ∙ (ap (λ (x : State). length x.clauses) is ∙ length_push c.clauses (kept_as Learnt lits))

-- the start
pub back_level_none : (s t : Watching) → t ≡ after_backtrack 0 s → decided t.reasons ≡ 0
back_level_none s t is = ap (λ (x : Watching). decided x.reasons) is ∙ decided-kept 0 s.reasons (omega arith)

pub begun_clauses : (s t u : Watching) (v : ℕ) → t ≡ record s { variables = v } → u ≡ after_backtrack 0 t →
    u.clauses ≡ s.clauses
begun_clauses s t u v t_is u_is = ap (λ (x : Watching). x.clauses) u_is
    ∙ ap (λ (x : Watching). x.clauses) t_is

no_decisions : (variables : ℕ) (a T : List Literal) (R : List (Option ℕ)) → length R ≡ length T →
    decided R ≡ 0 →
    AreDecisions variables a T R
no_decisions variables a T R len none p within is =
    absurd (omega (
      arith,
      none,
      decided-take_none p R (omega (arith, within, len)) is,
      decided-take_drop
          (p + 1) R,
    ))

pub underway_begin : (a : List Literal) (s t u : Watching) (numbers : Numbering) (c : State) →
    t ≡ record s { variables = max s.variables c.variables } → u ≡ after_backtrack 0 t → KeepsFacts u →
    MarksLive s.clauses numbers.taken → AreLive s.clauses (clause_at c.clauses) → length c.clauses < 2 ^ 62 →
    c.ended ≡ false → c.refused ≡ false → IsUnderway a u numbers c
underway_begin a s t u numbers c t_is u_is facts numbered live few begun awake = record {
  numbered = subst (λ (cs : List (Option Clause)). MarksLive cs numbers.taken)
      (sym (begun_clauses s t u _ t_is u_is)) numbered;
  live = subst (λ (cs : List (Option Clause)). AreLive cs (clause_at c.clauses))
      (sym (begun_clauses s t u _ t_is u_is)) live;
  few = few;
  room = omega (
    arith,
    ap (λ (x : Watching). x.variables) u_is,
    ap (λ (x : Watching). x.variables) t_is,
    most s.variables c.variables,
  );
  decisions = no_decisions c.variables a u.trail u.reasons facts.trail.same_length (back_level_none t u u_is);
  begun = begun;
  awake = awake;
}
  where
    most : (m n : ℕ) → n ≤ max m n
    most m n = omega arith

-- learning after going back
pub underway_jump : (a : List Literal) (s r t : Watching) (old given new : Numbering) (number : ℕ)
    (c d : State) (lits : List Literal) (back : ℕ) →
    r ≡ s → given ≡ old → LearnsOne (after_backtrack back r) t given new number lits →
    number ≡ length d.clauses →
    d ≡ after_learn c lits → IsUnderway a s old c → IsUnderway a t new d
underway_jump a s r t old given new number c d lits back r_is given_is adds last is u =
    underway_learn a (after_backtrack back s) t old new number c d lits
    (subst (λ (n : Numbering). LearnsOne (after_backtrack back s) t n new number lits) given_is
    (subst (λ (x : Watching). LearnsOne (after_backtrack back x) t given new number lits) r_is adds))
    last is (underway_back a s (after_backtrack back s) old c back refl u)

-- the same watch and numbers
pub underway_moved : (a : List Literal) (s t : Watching) (old new : Numbering) (c : State) → t ≡ s →
    new ≡ old →
    IsUnderway a s old c → IsUnderway a t new c
underway_moved a s t old new c t_is new_is u =
    subst (λ (n : Numbering). IsUnderway a t n c) (sym new_is)
    (subst (λ (x : Watching). IsUnderway a x old c) (sym t_is) u)
