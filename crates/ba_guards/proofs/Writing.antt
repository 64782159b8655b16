-- Variables that were written.
use Rattle.std.proofs.Common.{◌≡◌, ℕ, zero, suc, ◌<◌, ◌==◌, Bool, true, false, ◌||◌, cond, eqb, Some, None, List, [], ◌∷◌, ◌++◌, length, get_or, take, drop, slice_get, refl, sym, ◌∙◌, ap, subst, arith, append_assoc, append-nil, length-append}
use Rattle.std.proofs.lemmas.Bool.{eq-eqb, eqb-true, or_parts}
use Rattle.std.proofs.lemmas.List.{drop-append-le, get_or-set_other, take_at}
use Rattle.std.proofs.lemmas.List.Folds.{list_any-append}
use Rattle.std.specs.List.{dedup, dedup_from, list_any}
use Rattle.std.specs.Prelude.{slice_set}
use Rattle.ba_guards.specs.Making.{Gathers, Writes}
use Rattle.ba_guards.specs.Written.{AgreeBut, AreSince, AreWritten, IsSince, frames_of, is_among}
use Rattle.ba_guards.specs.declared.builder.Builder.{Builder}
use Rattle.ba_guards.specs.declared.exits.Exit.{Exit}

-- NUMBERS among others

pub among-parts : (k : ℕ) (ns ms : List ℕ) → is_among k (ns ++ ms) ≡ false
    → (is_among k ns ≡ false) × (is_among k ms ≡ false)
among-parts k ns ms h =
    or_parts (is_among k ns) (is_among k ms) (sym (list_any-append (λ n. n == k) ns ms) ∙ h)

pub among-one : (k n : ℕ) → is_among k (n ∷ []) ≡ false → k ≡ n → ⊥
among-one k n h e =
    let clash : true ≡ false = sym (eq-eqb n k (sym e)) ∙ (or_parts (n == k) false h).0 in cc

pub agree-then : (ns ms xs ys zs : List ℕ) → AgreeBut ns xs ys → AgreeBut ms ys zs
    → AgreeBut (ns ++ ms) xs zs
agree-then ns ms xs ys zs first second k h =
    let both = among-parts k ns ms h in first k both.0 ∙ second k both.1

pub agree-set : (xs : List ℕ) (n w : ℕ) → AgreeBut (n ∷ []) xs (slice_set xs n w)
agree-set xs n w k h = sym (get_or-set_other xs n k w 0 (among-one k n h))

among-at : (ns : List ℕ) (i d k : ℕ) → i < length ns → is_among k ns ≡ false → k ≡ get_or ns i d → ⊥
among-at [] i d k within h = absurd (omega (arith, within))
among-at (x ∷ ns) zero d k within h = λ same.
    let clash : true ≡ false = sym (eq-eqb x k (sym same)) ∙ (or_parts (x == k) (is_among k ns) h).0 in cc
among-at (x ∷ ns) (suc i) d k within h =
    among-at ns i d k (omega (arith, within)) (or_parts (x == k) (is_among k ns) h).1

-- one of these variables gets another word
pub agree-at : (ns : List ℕ) (i d w : ℕ) (old cur new : List ℕ) → i < length ns → AgreeBut ns old cur
    → new ≡ slice_set cur (get_or ns i d) w → AgreeBut ns old new
agree-at ns i d w old cur new within agree is k h =
    agree k h ∙ sym (get_or-set_other cur (get_or ns i d) k w 0 (among-at ns i d k within h))
    ∙ ap (λ vs. get_or vs k 0) (sym is)

-- what occurs twice counts once
once : (a b rest : Bool) → a ≡ b → (b || rest) ≡ (b || (a || rest))
once true true rest e = refl
once true false rest e = absurd (cc)
once false true rest e = refl
once false false rest e = refl

any-dedup_from : (test : ℕ → Bool) (k : ℕ) (xs : List ℕ) →
    list_any test (dedup_from eqb k xs) ≡ (test k || list_any test xs)
any-dedup_from test k [] = refl
any-dedup_from test k (x ∷ xs) = step (eqb x k) refl (any-dedup_from test k xs) (any-dedup_from test x xs)
  where
    step : (b : Bool) → eqb x k ≡ b → list_any test (dedup_from eqb k xs) ≡ (test k || list_any test xs)
        → list_any test (dedup_from eqb x xs) ≡ (test x || list_any test xs)
        → list_any test (cond b (dedup_from eqb k xs) (k ∷ dedup_from eqb x xs))
        ≡ (test k || (test x || list_any test xs))
    step true same first second =
        first ∙ once (test x) (test k) (list_any test xs) (ap test (eqb-true x k same))
    step false other first second = ap (λ b. test k || b) second

pub any-dedup : (test : ℕ → Bool) (xs : List ℕ) → list_any test (dedup eqb xs) ≡ list_any test xs
any-dedup test [] = refl
any-dedup test (x ∷ xs) = any-dedup_from test x xs

-- WHAT IS WRITTEN between two states

pub writes-none : (old new : Builder) → new.written ≡ old.written → new.vars ≡ old.vars
    → frames_of new.exits ≡ frames_of old.exits → Writes old new
writes-none old new written vars frames = record {
  set = [];
  written = written ∙ sym (append-nil old.written);
  kept = λ k h. ap (λ vs. get_or vs k 0) (sym vars);
  frames = frames;
}

pub writes-then : (old mid new : Builder) → Writes old mid → Writes mid new → Writes old new
writes-then old mid new first second = record {
  set = first.set ++ second.set;
  written = second.written ∙ ap (λ ns. ns ++ second.set) first.written
      ∙ append_assoc old.written first.set second.set;
  kept = agree-then first.set second.set old.vars mid.vars new.vars first.kept second.kept;
  frames = second.frames ∙ first.frames;
}

-- WHERE BLOCKS BEGAN

frame-since : (w set vars vars' : List ℕ) (frame : ℕ × List ℕ) → IsSince w vars frame
    → AgreeBut set vars vars' → IsSince (w ++ set) vars' frame
frame-since w set vars vars' frame t kept = record {
  since = omega (arith, t.since, length-append w set);
  agrees = λ k h.
      let both = among-parts k (drop frame.0 w) set
      (sym (ap (is_among k) (drop-append-le frame.0 w set t.since)) ∙ h) in
      t.agrees k both.0 ∙ kept k both.1;
}

pub since-writes : (old new : Builder) → Writes old new → AreSince old.written old.vars (frames_of old.exits)
    → AreSince new.written new.vars (frames_of new.exits)
since-writes old new writes all i frame found =
    subst (λ w. IsSince w new.vars frame) (sym writes.written)
    (frame-since old.written writes.set old.vars new.vars frame
    (all i frame (ap (λ fs. slice_get fs i) (sym writes.frames) ∙ found)) writes.kept)

pub since-push : (w vars : List ℕ) (fs : List (ℕ × List ℕ)) (x : ℕ × List ℕ) → AreSince w vars fs
    → IsSince w vars x → (i : ℕ) (frame : ℕ × List ℕ) → slice_get (fs ++ x ∷ []) i ≡ Some frame
    → IsSince w vars frame
since-push w vars [] x all one zero frame found = let is : x ≡ frame = cc in subst (IsSince w vars) is one
since-push w vars [] x all one (suc i) frame found = absurd (let f : None ≡ Some frame = found in cc)
since-push w vars (y ∷ fs) x all one zero frame found = all 0 frame found
since-push w vars (y ∷ fs) x all one (suc i) frame found =
    since-push w vars fs x (λ i e h. all (suc i) e h) one i frame found

frame-at : (es : List Exit) (i : ℕ) (e : Exit) → slice_get es i ≡ Some e
    → slice_get (frames_of es) i ≡ Some (e.since, e.base)
frame-at [] i e found = absurd (let f : None ≡ Some e = found in cc)
frame-at (y ∷ es) zero e found = let is : y ≡ e = cc in ap (λ (e : Exit). Some (e.since, e.base)) is
frame-at (y ∷ es) (suc i) e found = frame-at es i e found

-- the variables are where they were when the block of an exit began, except for what was written since
pub exit-since : (w vars : List ℕ) (es : List Exit) (i : ℕ) (e : Exit) → AreSince w vars (frames_of es)
    → slice_get es i ≡ Some e → AgreeBut (drop e.since w) e.base vars
exit-since w vars es i e all found = (all i (e.since, e.base) (frame-at es i e found)).agrees

-- EXITS

pub written-push : (es : List Exit) (x : Exit) → AreWritten es → AgreeBut x.written x.base x.vars
    → (i : ℕ) (e : Exit) → slice_get (es ++ x ∷ []) i ≡ Some e → AgreeBut e.written e.base e.vars
written-push [] x all one zero e found =
    let is : x ≡ e = cc in subst (λ (e : Exit). AgreeBut e.written e.base e.vars) is one
written-push [] x all one (suc i) e found = absurd (let f : None ≡ Some e = found in cc)
written-push (y ∷ es) x all one zero e found = all 0 e found
written-push (y ∷ es) x all one (suc i) e found = written-push es x (λ i e h. all (suc i) e h) one i e found

pub front-found : (es more : List Exit) (i : ℕ) (e : Exit) → slice_get es i ≡ Some e
    → slice_get (es ++ more) i ≡ Some e
front-found [] more i e found = absurd (let f : None ≡ Some e = found in cc)
front-found (y ∷ es) more zero e found = found
front-found (y ∷ es) more (suc i) e found = front-found es more i e found

pub last-found : (es : List Exit) (e : Exit) → slice_get (es ++ e ∷ []) (length es) ≡ Some e
last-found [] e = refl
last-found (y ∷ es) e = last-found es e

pub written-set : (es : List Exit) (at : ℕ) (x : Exit) → AreWritten es → AgreeBut x.written x.base x.vars
    → (i : ℕ) (e : Exit) → slice_get (slice_set es at x) i ≡ Some e → AgreeBut e.written e.base e.vars
written-set [] at x all one i e found = all i e found
written-set (y ∷ es) zero x all one zero e found =
    let is : x ≡ e = cc in subst (λ (e : Exit). AgreeBut e.written e.base e.vars) is one
written-set (y ∷ es) zero x all one (suc i) e found = all (suc i) e found
written-set (y ∷ es) (suc at) x all one zero e found = all 0 e found
written-set (y ∷ es) (suc at) x all one (suc i) e found =
    written-set es at x (λ i e h. all (suc i) e h) one i e found

pub frames-set : (es : List Exit) (at : ℕ) (new old : Exit) → slice_get es at ≡ Some old
    → new.since ≡ old.since → new.base ≡ old.base → frames_of (slice_set es at new) ≡ frames_of es
frames-set [] at new old found since base = refl
frames-set (y ∷ es) zero new old found since base =
    let is : y ≡ old = cc in
    ap (λ n. (n, new.base) ∷ frames_of es) (since ∙ sym (ap (λ (e : Exit). e.since) is))
    ∙ ap (λ vs. (y.since, vs) ∷ frames_of es) (base ∙ sym (ap (λ (e : Exit). e.base) is))
frames-set (y ∷ es) (suc at) new old found since base =
    ap (λ fs. (y.since, y.base) ∷ fs) (frames-set es at new old found since base)

-- lists that end with one more each
pub ends-same : {X : Type 0} (xs ys : List X) (x y : X) → xs ++ x ∷ [] ≡ ys ++ y ∷ []
    → (xs ≡ ys) × (x ≡ y)
ends-same [] [] x y is = (refl, let one : x ≡ y = cc in one)
ends-same [] (z ∷ ys) x y is =
    absurd (let long : length (x ∷ []) ≡ length (z ∷ (ys ++ y ∷ [])) = ap length is in
    omega (arith, long, length-append ys (y ∷ [])))
ends-same (z ∷ xs) [] x y is =
    absurd (let long : length (z ∷ (xs ++ x ∷ [])) ≡ length (y ∷ []) = ap length is in
    omega (arith, long, length-append xs (x ∷ [])))
ends-same (z ∷ xs) (w ∷ ys) x y is =
    let one : z ≡ w = cc in
    let rest : xs ++ x ∷ [] ≡ ys ++ y ∷ [] = cc in
    let both = ends-same xs ys x y rest in
    (ap (λ z. z ∷ xs) one ∙ ap (λ xs. w ∷ xs) both.0, both.1)

-- WHAT WAS WRITTEN SINCE A MOMENT is gathered

pub gathers-writes : (b0 b4 b5 : Builder) (since : ℕ) (before : List ℕ) (more : List ℕ)
    → b4.written ≡ b0.written ++ more → since ≡ length b0.written → before ≡ b0.vars
    → frames_of b5.exits ≡ frames_of b0.exits → Gathers since before b4 b5 → Writes b0 b5
gathers-writes b0 b4 b5 since before more written at was frames g = record {
  set = g.numbers;
  written = g.written
      ∙ ap (λ ns. ns ++ g.numbers) (ap (take since) written ∙ take_at b0.written more since (sym at));
  kept = λ k h. ap (λ vs. get_or vs k 0) (sym was) ∙ g.kept k h;
  frames = frames;
}

-- what was written since a moment, and at another way, gathered after both ways
module _ (old mid new : Builder) (since : ℕ) (before way written numbers : List ℕ)
    (among : (n : ℕ) → is_among n numbers ≡ is_among n (drop since old.written ++ written))
    (there : AgreeBut written before way) (here : AgreeBut (drop since old.written) before old.vars) where
  among-both : (k : ℕ) → is_among k numbers ≡ false
      → (is_among k (drop since old.written) ≡ false) × (is_among k written ≡ false)
  among-both k h = among-parts k (drop since old.written) written (sym (among k) ∙ h)

  pub ways-agree : AgreeBut numbers way old.vars
  ways-agree k h =
      let both = among-both k h in sym (there k both.1) ∙ here k both.0

  pub gathered-by : (AgreeBut numbers way old.vars → AgreeBut numbers old.vars mid.vars)
      → mid.written ≡ old.written → new ≡ record mid { written = new.written }
      → (AgreeBut numbers before mid.vars → Gathers since before mid new)
      → Gathers since before old (record mid { written = new.written })
  gathered-by kept same after gathers =
      let g = gathers (λ k h. here k (among-both k h).0 ∙ kept ways-agree k h) in
      record {
        numbers = g.numbers;
        written = g.written ∙ ap (λ ns. take since ns ++ g.numbers) same;
        kept = λ k h. g.kept k h ∙ ap (λ (b : Builder). get_or b.vars k 0) after;
      }
