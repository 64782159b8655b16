-- Learn and Delete steps, one after the other.

use Rattle.std.proofs.Common.{◌≡◌, ℕ, suc, zero, ◌+◌, ◌-◌, ◌<◌, ◌≤◌, Bool, Option, None, Some, List, [], ◌∷◌, ◌++◌, length, get_or, map, All, refl, sym, ap, subst, ◌∙◌, arith}
use Rattle.std.specs.List.{slice_get}
use Rattle.std.proofs.lemmas.List.{length-map}
use Rattle.std.proofs.lemmas.List.Elements.{All-weaker}
use Rattle.ba_lits.specs.Literals.{Literal}
use Rattle.ba_watch.specs.Threads.{Clause}
use Rattle.ba_learn.specs.Live.{AreLive, IsNew}
use Rattle.ba_steps.specs.Steps.{IsFormed}
use Rattle.ba_steps.specs.Sinks.{with_step, MayAddStep}
use Rattle.ba_steps.specs.declared.step.CertStep.{CertStep}
use Rattle.ba_steps.specs.declared.step.CertStep.TheVariants.{Learn, Delete}
use Rattle.ba_checker.specs.States.{kept, State, live_lits, clause_at}
use Rattle.ba_checker.specs.declared.store.Origin.TheVariants.{Given}
use Rattle.ba_choices.specs.Judges.{Judge}
use Rattle.ba_checker.specs.StepRules.{error_of, after, after_learn, after_delete}
use Rattle.ba_checker.specs.Puts.{Checking, IsTakenOrAsleep, Lasts, LeavesSteps, leaves_all, leaves_last}
use Rattle.ba_checker.proofs.PutLaws.{logs_then, leaves_weaker, leaves_after}
use Rattle.ba_search.specs.Searching.{nothing, IsDiscarded, Searches, searches_none, searches_learn, searches_delete, Leaves, Puts}
use Rattle.ba_search.specs.Iterations.{AreTaken, AreThere}
use Rattle.ba_search.proofs.TakenLaws.{taken_live}

abbrev pub Gives : Type 1
Gives = ℕ → ℕ → Bool → Type 0

pub puts_none : (gives : Gives) (log : Checking) (learnt : List ℕ) → Puts gives learnt learnt log log
puts_none gives log learnt = record { steps = []; leads = searches_none log.checker learnt; logs = refl }

pub puts_stay : (gives : Gives) (log : Checking) (learnt all : List ℕ) → all ≡ learnt →
    Puts gives learnt all log log
puts_stay gives log learnt all same =
    subst (λ (ns : List ℕ). Puts gives learnt ns log log) (sym same) (puts_none gives log learnt)

pub puts_learn : (gives : Gives) (old new : Checking) (learnt all : List ℕ) (lits : List Literal)
    (hints : List ℕ) →
    IsFormed (Learn lits hints) → error_of old.accepts old.checker (Learn lits hints) ≡ None →
    IsNew (clause_at old.checker.clauses) lits → new.checker ≡ after_learn old.checker lits →
    all ≡ learnt ++ (length old.checker.clauses + 1) ∷ [] →
    new.told.logs ≡ with_step (Learn lits hints) old.told.logs → Puts gives learnt all old new
puts_learn gives old new learnt all lits hints formed allowed is_new is grown told = record {
  steps = Learn lits hints ∷ [];
  leads = searches_learn old.checker new.checker learnt all lits hints [] formed allowed is_new
      (subst (λ (x : State). Searches old.accepts gives x (learnt ++ (length old.checker.clauses + 1) ∷ []) []
      new.checker all) is
      (subst (λ (ns : List ℕ). Searches old.accepts gives new.checker ns [] new.checker all) grown
      (searches_none new.checker all)));
  logs = told;
}

pub puts_delete : (gives : Gives) (old new : Checking) (learnt numbers : List ℕ) →
    IsFormed (Delete numbers) → error_of old.accepts old.checker (Delete numbers) ≡ None →
    All (IsDiscarded gives old.checker learnt) numbers → new.checker ≡ after_delete old.checker numbers →
    new.told.logs ≡ with_step (Delete numbers) old.told.logs → Puts gives learnt learnt old new
puts_delete gives old new learnt numbers formed allowed given is told = record {
  steps = Delete numbers ∷ [];
  leads = searches_delete old.checker new.checker learnt learnt numbers [] formed allowed given
      (subst (λ (x : State). Searches old.accepts gives x learnt [] new.checker learnt) is
      (searches_none new.checker learnt));
  logs = told;
}

searches_then : (good : Judge) (gives : Gives) (a b c : State) (k l m : List ℕ) (xs ys : List CertStep) →
    Searches good gives a k xs b l → Searches good gives b l ys c m → Searches good gives a k (xs ++ ys) c m
searches_then good gives _ _ c _ _ m _ ys (searches_none a k) more = more
searches_then good gives _ _ c _ _ m _ ys (searches_learn a b k l lits hints xs formed allowed new rest)
    more =
    searches_learn a c k m lits hints (xs ++ ys) formed allowed new
    (searches_then good gives (after a (Learn lits hints)) b c (k ++ (length a.clauses + 1) ∷ []) l m xs ys
    rest more)
searches_then good gives _ _ c _ _ m _ ys (searches_delete a b k l numbers xs formed allowed given rest)
    more =
    searches_delete a c k m numbers (xs ++ ys) formed allowed given
    (searches_then good gives (after a (Delete numbers)) b c k l m xs ys rest more)

-- a rule that discards more
searches_weaker : {good : Judge} {gives more : Gives} {s t : State} {learnt all : List ℕ}
    {steps : List CertStep} →
    ((width age : ℕ) (kept : Bool) → gives width age kept → more width age kept) →
    Searches good gives s learnt steps t all → Searches good more s learnt steps t all
searches_weaker weaker (searches_none s learnt) = searches_none s learnt
searches_weaker weaker (searches_learn s t learnt all lits hints steps formed allowed new rest) =
    searches_learn s t learnt all lits hints steps formed allowed new (searches_weaker weaker rest)
searches_weaker {gives = gives} {more = more} weaker
    (searches_delete s t learnt all numbers steps formed allowed given rest) =
    searches_delete s t learnt all numbers steps formed allowed
    (All-weaker (IsDiscarded gives s learnt) (IsDiscarded more s learnt)
    (λ n g. record { place = g.place; within = g.within; at = g.at; rule = weaker _ _ _ g.rule }) numbers
    given)
    (searches_weaker weaker rest)

pub puts_any : (gives : Gives) (old new : Checking) (learnt all : List ℕ) →
    Puts nothing learnt all old new → Puts gives learnt all old new
puts_any gives old new learnt all p = record {
  steps = p.steps;
  leads = searches_weaker (λ width age kept none. absurd none) p.leads;
  logs = p.logs;
}

pub leaves_any : (gives : Gives) (old new : Checking) (learnt : List ℕ) →
    Leaves nothing learnt old new → Leaves gives learnt old new
leaves_any gives old new learnt left =
    leaves_weaker (λ steps t s. (s.0, searches_weaker (λ width age kept none. absurd none) s.1)) left

pub puts_then : (gives : Gives) (a b c : Checking) (u v w : List ℕ) →
    Lasts a b → Puts gives u v a b → Puts gives v w b c → Puts gives u w a c
puts_then gives a b c u v w lasts p q = record {
  steps = p.steps ++ q.steps;
  leads = searches_then a.accepts gives a.checker b.checker c.checker u v w p.steps q.steps p.leads
      (subst (λ (j : Judge). Searches j gives b.checker v q.steps c.checker w) lasts.judge_stays q.leads);
  logs = logs_then p.steps q.steps a.told.logs b.told.logs c.told.logs p.logs q.logs;
}

-- what is left if nothing was put, if steps were put, if one was tried, and after more steps
pub leaves_none : (gives : Gives) (log : Checking) (learnt : List ℕ) → Leaves gives learnt log log
leaves_none gives log learnt = leaves_all [] (learnt, searches_none log.checker learnt) refl

pub leaves_put : (gives : Gives) (old new : Checking) (learnt all : List ℕ) →
    Puts gives learnt all old new → Leaves gives learnt old new
leaves_put gives old new learnt all p = leaves_all p.steps (all, p.leads) p.logs

pub leaves_tried : (gives : Gives) (old new : Checking) (learnt : List ℕ) (lits : List Literal)
    (hints : List ℕ) →
    IsFormed (Learn lits hints) → error_of old.accepts old.checker (Learn lits hints) ≡ None →
    IsNew (clause_at old.checker.clauses) lits → IsTakenOrAsleep old.checker (Learn lits hints) new.checker →
    MayAddStep (Learn lits hints) old.told.logs new.told.logs → Leaves gives learnt old new
leaves_tried gives old new learnt lits hints formed allowed is_new taken told =
    let all : List ℕ = learnt ++ (length old.checker.clauses + 1) ∷ [] in
    let next : State = after old.checker (Learn lits hints) in
    leaves_last [] (Learn lits hints) old.checker (learnt, searches_none old.checker learnt) (
      all,
      searches_learn old.checker next learnt all lits hints [] formed allowed is_new
          (searches_none next all),
    )
    taken told

pub leaves_delete : (gives : Gives) (old new : Checking) (learnt numbers : List ℕ) →
    IsFormed (Delete numbers) → error_of old.accepts old.checker (Delete numbers) ≡ None →
    All (IsDiscarded gives old.checker learnt) numbers →
    IsTakenOrAsleep old.checker (Delete numbers) new.checker →
    MayAddStep (Delete numbers) old.told.logs new.told.logs → Leaves gives learnt old new
leaves_delete gives old new learnt numbers formed allowed given taken told =
    let next : State = after old.checker (Delete numbers) in
    leaves_last [] (Delete numbers) old.checker (learnt, searches_none old.checker learnt) (
      learnt,
      searches_delete old.checker next learnt learnt numbers [] formed allowed given
          (searches_none next learnt),
    )
    taken told

pub leaves_then : (gives : Gives) (a b c : Checking) (u v : List ℕ) →
    Lasts a b → Puts gives u v a b → Leaves gives v b c → Leaves gives u a c
leaves_then gives a b c u v lasts p left =
    leaves_after p.steps c.checker a.told.logs b.told.logs c.told.logs p.logs
    (λ steps t s.
    (s.0, searches_then a.accepts gives a.checker b.checker t u v s.0 p.steps steps p.leads s.1))
    (subst (λ (j : Judge). LeavesSteps (λ steps t. (all : List ℕ) × Searches j gives b.checker v steps t all)
    b.told.logs c.checker c.told.logs) lasts.judge_stays left)

-- the same from an equal list
pub puts_from : (gives : Gives) (old new : Checking) (start learnt all : List ℕ) → start ≡ learnt →
    Puts gives start all old new → Puts gives learnt all old new
puts_from gives old new start learnt all same p =
    subst (λ (ns : List ℕ). Puts gives ns all old new) same p

pub leaves_from : (gives : Gives) (old new : Checking) (start learnt : List ℕ) → start ≡ learnt →
    Leaves gives start old new → Leaves gives learnt old new
leaves_from gives old new start learnt same left =
    subst (λ (ns : List ℕ). Leaves gives ns old new) same left

-- the clauses of a formula by their numbers
given_at : (cs : List (List Literal)) (k : ℕ) → k < length cs →
    live_lits (slice_get (map (kept Given) cs) k) ≡ Some (get_or cs k [])
given_at [] k within = absurd (omega arith)
given_at (c ∷ cs) zero within = refl
given_at (c ∷ cs) (suc k) within = given_at cs k (omega (arith, within))

pub given_next : (cs : List (List Literal)) (n k : ℕ) (lits : List Literal) → n ≡ k → k < length cs →
    lits ≡ get_or cs ((k + 1) - 1) [] → clause_at (map (kept Given) cs) (n + 1) ≡ Some lits
given_next cs n k lits same within is =
    ap (clause_at (map (kept Given) cs)) (number n k same)
    ∙ (given_at cs k within ∙ ap (λ (l : List Literal). Some l) (ap (λ (i : ℕ). get_or cs i []) (back k)
    ∙ sym is))
  where
    number : (n k : ℕ) → n ≡ k → n + 1 ≡ suc k
    number n k e = omega (arith, e)

    back : (k : ℕ) → k ≡ (k + 1) - 1
    back k = omega arith

pub given_live : (clauses : List (Option Clause)) (taken : List Bool) (last : ℕ) (cs : List (List Literal)) →
    AreTaken clauses taken (clause_at (map (kept Given) cs)) →
    AreThere clauses last (clause_at (map (kept Given) cs)) →
    length cs ≤ last → AreLive clauses (clause_at (map (kept Given) cs))
given_live clauses taken last cs are there all =
    taken_live clauses taken (map (kept Given) cs) last are there
    (omega (arith, all, length-map cs (kept Given)))
