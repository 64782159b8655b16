-- A literal that is put on the trail, or taken off.

use Rattle.std.proofs.Common.{append-nil, ◌≡◌, ◌≢◌, ℕ, suc, zero, ◌+◌, ◌-◌, ◌<◌, ◌≤◌, Bool, true, false, not, Option, None, Some, is_some, List, [], ◌∷◌, ◌++◌, length, get_or, set, take, replicate, eqb, ltb, cond, refl, sym, ap, subst, ◌∙◌, arith, ⊎_elim, get_or-set_same, get_or-set_other}
use Rattle.std.specs.List.{count_by}
use Rattle.std.proofs.lemmas.Bool.{cases_eq, cases_lt}
use Rattle.std.proofs.lemmas.List.{length-set, length-take-le, length-append, length_push, take_more_set, take_more, take-take, take-append-le, take_at, take_all, length-take, get_or_append_left, get_or_push, get_or-take, get_or_past, get_or_read, get_or-replicate, length-replicate}
use Rattle.std.proofs.lemmas.Bool.Decides.{nat_tests}
use Rattle.std.proofs.lemmas.List.Sums.{sum_by-set, sum_by-append, count_by-le-length}
use Rattle.ba_lits.specs.Literals.{Literal, lit_at, no_literal}
use Rattle.ba_watch.specs.Trails.{value_of, trail_index, trail_index_if, decided, level_at, Assignments, IsTrail, with_sign, Holds}
use Rattle.ba_watch.proofs.Levels.{decided-append, decided-le-length, decided-take_step}
use Rattle.ba_watch.proofs.Values.{value_of-push_here, value_of-push_there, value_of-none, value_of-at, none_apart, signed-not_same, trail_index-some, trail_index-none, lit_at-place}

with_sign-none : (s : Bool) (v : Option Bool) → with_sign s v ≡ None → v ≡ None
with_sign-none s None e = refl
with_sign-none s (Some b) e = absurd (cc e)

with_sign-some : (s : Bool) (v : Option Bool) (b : Bool) → with_sign s v ≡ Some b → is_some v ≡ true
with_sign-some s None b e = absurd (cc e)
with_sign-some s (Some x) b e = refl

-- a fact of each place, with one more place
each_push : (P : ℕ → Type 0) (n : ℕ) → ((p : ℕ) → p < n → P p) → P n → (p : ℕ) → p < n + 1 → P p
each_push P n before last p within = ⊎_elim
    (λ below. before p below)
    (λ above. subst P (same n p above within) last)
    (cases_lt p n)
  where
    same : (n p : ℕ) → n ≤ p → p < n + 1 → n ≡ p
    same n p h k = omega arith

module _ (variables : ℕ) (lits : List Literal) (reasons : List (Option ℕ)) (levels : List ℕ) (n level : ℕ)
    (values : List (Option Bool)) (places : List ℕ)
    (h : Holds variables lits reasons levels n level values places) where
  lits_len : length (take n lits) ≡ n
  lits_len = length-take-le n lits (omega (arith, h.assigned_le, h.lits_room))

  reasons_len : length (take n reasons) ≡ n
  reasons_len = length-take-le n reasons (omega (arith, h.assigned_le, h.reasons_room))

  -- a variable without a value leaves room on the trail
  pub room : (t : Literal) → 1 ≤ t.variable → t.variable ≤ variables → value_of (take n lits) t ≡ None →
      n + 1 ≤ variables
  room t counted within free =
      let i : ℕ = t.variable - 1 in
      let i_in : i < length values = omega (arith, h.values_room) in
      let none : get_or values i None ≡ None = with_sign-none t.negated (get_or values i None)
      (h.values_are t counted within ∙ free) in
      let step = sum_by-set (λ (x : Option Bool). cond {A = ℕ} (is_some x) 1 0) values i (Some true) None
      i_in in
      let small : cond {A = ℕ} (is_some (get_or values i None)) 1 0 ≡ 0 =
      ap (λ (x : Option Bool). cond {A = ℕ} (is_some x) 1 0) none in
      let le : count_by is_some (set values i (Some true)) ≤ length (set values i (Some true)) =
      count_by-le-length is_some (set values i (Some true)) in
      let len : length (set values i (Some true)) ≡ length values = length-set values i (Some true) in
      omega (arith, step, small, le, len, h.count, h.values_room)

  pub pushed_lits : (t : Literal) → n + 1 ≤ variables → take (n + 1) (set lits n t) ≡ take n lits ++ t ∷ []
  pushed_lits t short = take_more_set lits n t (omega (arith, h.lits_room))

  pub pushed_reasons : (reason : Option ℕ) → n + 1 ≤ variables →
      take (n + 1) (set reasons n reason) ≡ take n reasons ++ reason ∷ []
  pushed_reasons reason short = take_more_set reasons n reason (omega (arith, h.reasons_room))

  pushed_trail : (t : Literal) (reason : Option ℕ) → 1 ≤ t.variable → t.variable ≤ variables →
      value_of (take n lits) t ≡ None → IsTrail variables (take n lits ++ t ∷ []) (take n reasons ++ reason
      ∷ [])
  pushed_trail t reason counted within free =
      let T : List Literal = take n lits in
      let short : n + 1 ≤ variables = room t counted within free in
      let len : length (T ++ t ∷ []) ≡ n + 1 = length_push T t ∙ ap (λ m. m + 1) lits_len in
      let old_at : (p : ℕ) → p < n → lit_at (T ++ t ∷ []) p ≡ lit_at T p =
      λ p below. get_or_append_left T (t ∷ []) no_literal p (omega (arith, lits_len)) in
      let new_at : lit_at (T ++ t ∷ []) n ≡ t = get_or_push T t no_literal n lits_len in
      let each : (P : List Literal → Literal → Type 0) →
      ((p : ℕ) → p < length T → P (take p T) (lit_at T p)) → P T t → (p : ℕ) →
      p < length (T ++ t ∷ []) → P (take p (T ++ t ∷ [])) (lit_at (T ++ t ∷ []) p) =
      λ P before last p p_in. each_push (λ (q : ℕ). P (take q (T ++ t ∷ [])) (lit_at (T ++ t ∷ []) q)) n
      (λ q q_in. subst (λ (l : Literal). P (take q (T ++ t ∷ [])) l) (sym (old_at q q_in))
      (subst (λ (ys : List Literal). P ys (lit_at T q))
      (sym (take-append-le q T (t ∷ []) (omega (arith, lits_len)))) (before q (omega (arith, lits_len)))))
      (subst (λ (l : Literal). P (take n (T ++ t ∷ [])) l) (sym new_at)
      (subst (λ (ys : List Literal). P ys t) (sym (take_at T (t ∷ []) n lits_len)) last))
      p (omega (arith, len)) in
      record {
        same_length = length_push (take n reasons) reason ∙ (ap (λ m. m + 1) reasons_len ∙ sym len);
        fresh = each (λ ys l. value_of ys l ≡ None) h.trail.fresh free;
        counted = each (λ ys l. 1 ≤ l.variable) h.trail.counted counted;
        within = each (λ ys l. l.variable ≤ variables) h.trail.within within;
        short = omega (arith, len, short);
      }

  pub pushed : (t : Literal) (reason : Option ℕ) (level' : ℕ) → 1 ≤ t.variable → t.variable ≤ variables →
      value_of (take n lits) t ≡ None → level' ≡ decided (take n reasons ++ reason ∷ [])
      → Holds variables (set lits n t) (set reasons n reason) (set levels n level') (n + 1) level'
      (set values (t.variable - 1) (Some (not t.negated))) (set places (t.variable - 1) n)
  pushed t reason level' counted within free level_is =
      let T : List Literal = take n lits in
      let R : List (Option ℕ) = take n reasons in
      let i : ℕ = t.variable - 1 in
      let short : n + 1 ≤ variables = room t counted within free in
      let T' : take (n + 1) (set lits n t) ≡ T ++ t ∷ [] = pushed_lits t short in
      let R' : take (n + 1) (set reasons n reason) ≡ R ++ reason ∷ [] = pushed_reasons reason short in
      let i_in : i < length values = omega (arith, h.values_room) in
      let none : get_or values i None ≡ None = with_sign-none t.negated (get_or values i None)
      (h.values_are t counted within ∙ free) in
      let step = sum_by-set (λ (x : Option Bool). cond {A = ℕ} (is_some x) 1 0) values i
      (Some (not t.negated)) None i_in in
      let small : cond {A = ℕ} (is_some (get_or values i None)) 1 0 ≡ 0 =
      ap (λ (x : Option Bool). cond {A = ℕ} (is_some x) 1 0) none in
      record {
        trail = subst (λ (ys : List Literal). IsTrail variables ys (take (n + 1) (set reasons n reason)))
            (sym T') (subst (λ (rs : List (Option ℕ)). IsTrail variables (T ++ t ∷ []) rs) (sym R')
            (pushed_trail t reason counted within free));
        lits_room = rw length-set h.lits_room;
        reasons_room = rw length-set h.reasons_room;
        levels_room = rw length-set h.levels_room;
        places_room = rw length-set h.places_room;
        assigned_le = short;
        values_room = length-set values i (Some (not t.negated)) ∙ h.values_room;
        count = omega (arith, step, small, h.count);
        level_is = level_is ∙ ap decided (sym R');
        levels_are = subst (λ (rs : List (Option ℕ)). (p : ℕ) → p < n + 1 →
            get_or (set levels n level') p 0 ≡ level_at rs p) (sym R')
            (each_push (λ (p : ℕ). get_or (set levels n level') p 0 ≡ level_at (R ++ reason ∷ []) p) n
            (λ p below. get_or-set_other levels n p level' 0 (omega arith)
            ∙ (h.levels_are p below ∙ ap decided (sym (take-append-le (p + 1) R (reason ∷ [])
            (omega (arith, reasons_len))))))
            (get_or-set_same levels n level' 0 (omega (arith, h.levels_room))
            ∙ (level_is ∙ ap decided (sym (take_all (n + 1) (R ++ reason ∷ [])
            (omega (arith, length_push R reason, reasons_len)))))));
        places_are = subst (λ (ys : List Literal). (p : ℕ) → p < n + 1 →
            get_or (set places i n) ((lit_at ys p).variable - 1) 0 ≡ p) (sym T')
            (each_push (λ (p : ℕ). get_or (set places i n) ((lit_at (T ++ t ∷ []) p).variable - 1) 0 ≡ p) n
            (λ p below.
            let at : lit_at (T ++ t ∷ []) p ≡ lit_at T p =
            get_or_append_left T (t ∷ []) no_literal p (omega (arith, lits_len)) in
            let p_in : p < length T = omega (arith, lits_len) in
            let apart : (lit_at T p).variable ≢ t.variable = none_apart T t p free p_in in
            let some : 1 ≤ (lit_at T p).variable = h.trail.counted p p_in in
            ap (λ (l : Literal). get_or (set places i n) (l.variable - 1) 0) at
            ∙ (get_or-set_other places i ((lit_at T p).variable - 1) n 0
            (λ e. apart (less (lit_at T p).variable t.variable some counted e)) ∙ h.places_are p below))
            (ap (λ (l : Literal). get_or (set places i n) (l.variable - 1) 0)
            (get_or_push T t no_literal n lits_len) ∙ get_or-set_same places i n 0
            (omega (arith, h.places_room))));
        values_are = λ l l_counted l_within. ap (with_sign l.negated)
            (ap (λ (ys : List (Option Bool)). get_or ys (l.variable - 1) None) refl) ∙ (⊎_elim
            (λ e. ap (λ (j : ℕ). with_sign l.negated (get_or (set values i (Some (not t.negated))) (j - 1)
            None)) (sym e)
            ∙ (ap (with_sign l.negated) (get_or-set_same values i (Some (not t.negated)) None i_in)
            ∙ (ap (λ s. Some s) (signed-not_same t.negated l.negated)
            ∙ sym (value_of-push_here T t l free e))))
            (λ ne. ap (with_sign l.negated) (get_or-set_other values i (l.variable - 1)
            (Some (not t.negated)) None (λ e. ne (sym (less l.variable t.variable l_counted counted
            e)))) ∙ (h.values_are l l_counted l_within ∙ sym (value_of-push_there T t l ne)))
            (cases_eq t.variable l.variable) ∙ ap (λ (ys : List Literal). value_of ys l) (sym T'));
      }
    where
      less : (x y : ℕ) → 1 ≤ x → 1 ≤ y → x - 1 ≡ y - 1 → x ≡ y
      less x y h k e = omega arith

  pub popped : (m level' : ℕ) → n ≡ m + 1 → level' ≡ decided (take m reasons)
      → Holds variables lits reasons levels m level'
      (set values ((lit_at (take n lits) m).variable - 1) None) places
  popped m level' n_is level_is =
      let T : List Literal = take n lits in
      let t : Literal = lit_at T m in
      let i : ℕ = t.variable - 1 in
      let m_in : m < length T = omega (arith, lits_len) in
      let front : (p : ℕ) → p ≤ m → take p (take m lits) ≡ take p T = λ p le. take-take p m lits le
      ∙ sym (take-take p n lits (omega arith)) in
      let counted : 1 ≤ t.variable = h.trail.counted m m_in in
      let within : t.variable ≤ variables = h.trail.within m m_in in
      let fresh : value_of (take m T) t ≡ None = h.trail.fresh m m_in in
      let T_is : T ≡ take m T ++ t ∷ [] = sym (take_all (m + 1) T (omega (arith, lits_len)))
      ∙ take_more T m no_literal m_in in
      let m_take : take m T ≡ take m lits = take-take m n lits (omega arith) in
      let len : length (take m lits) ≡ m = length-take-le m lits
      (omega (arith, h.assigned_le, h.lits_room)) in
      let r_len : length (take m reasons) ≡ m = length-take-le m reasons
      (omega (arith, h.assigned_le, h.reasons_room)) in
      let at : (p : ℕ) → p < m → lit_at (take m lits) p ≡ lit_at T p =
      λ p below. get_or-take m lits p no_literal below
      ∙ sym (get_or-take n lits p no_literal (omega arith)) in
      let i_in : i < length values = omega (arith, h.values_room) in
      let some : is_some (get_or values i None) ≡ true =
      with_sign-some t.negated (get_or values i None) true (h.values_are t counted within
      ∙ value_of-at T m m_in fresh) in
      let step = sum_by-set (λ (x : Option Bool). cond {A = ℕ} (is_some x) 1 0) values i None None i_in in
      let one : cond {A = ℕ} (is_some (get_or values i None)) 1 0 ≡ 1 =
      ap (λ (b : Bool). cond {A = ℕ} b 1 0) some in
      record {
        trail = record {
          same_length = r_len ∙ sym len;
          fresh = λ p p_in. let below : p < m = omega (arith, len) in
              ap (λ (ys : List Literal). value_of ys (lit_at (take m lits) p)) (front p (omega arith))
              ∙ (ap (value_of (take p T)) (at p below) ∙ h.trail.fresh p (omega (arith, lits_len)));
          counted = λ p p_in. let below : p < m = omega (arith, len) in
              subst (λ (l : Literal). 1 ≤ l.variable) (sym (at p below))
              (h.trail.counted p (omega (arith, lits_len)));
          within = λ p p_in. let below : p < m = omega (arith, len) in
              subst (λ (l : Literal). l.variable ≤ variables) (sym (at p below))
              (h.trail.within p (omega (arith, lits_len)));
          short = omega (arith, len, h.assigned_le);
        };
        lits_room = h.lits_room;
        reasons_room = h.reasons_room;
        levels_room = h.levels_room;
        places_room = h.places_room;
        assigned_le = omega (arith, h.assigned_le);
        values_room = length-set values i None ∙ h.values_room;
        count = omega (arith, step, one, h.count);
        level_is = level_is;
        levels_are = λ p below. h.levels_are p (omega arith)
            ∙ ap decided (take-take (p + 1) n reasons (omega arith)
            ∙ sym (take-take (p + 1) m reasons (omega arith)));
        places_are = λ p below. ap (λ (l : Literal). get_or places (l.variable - 1) 0) (at p below)
            ∙ h.places_are p (omega arith);
        values_are = λ l l_counted l_within. ⊎_elim
            (λ e. ap (λ (j : ℕ). with_sign l.negated (get_or (set values i None) (j - 1) None)) (sym e)
            ∙ (ap (with_sign l.negated) (get_or-set_same values i None None i_in)
            ∙ sym (ap (λ (ys : List Literal). value_of ys l) (sym m_take)
            ∙ value_of-none (take m T) t l e fresh)))
            (λ ne. ap (with_sign l.negated) (get_or-set_other values i (l.variable - 1) None None
            (λ e. ne (sym (less l.variable t.variable l_counted counted e))))
            ∙ (h.values_are l l_counted l_within ∙ (ap (λ (ys : List Literal). value_of ys l) T_is
            ∙ (value_of-push_there (take m T) t l ne ∙ ap (λ (ys : List Literal). value_of ys l)
            m_take))))
            (cases_eq t.variable l.variable);
      }
    where
      less : (x y : ℕ) → 1 ≤ x → 1 ≤ y → x - 1 ≡ y - 1 → x ≡ y
      less x y h k e = omega arith

pub decided-one : (reason : Option ℕ) → decided (reason ∷ []) ≡ cond (is_some reason) 0 1
decided-one None = refl
decided-one (Some r) = refl

-- longer vectors hold the same trail
take_front : {X : Type 0} (n : ℕ) (xs ys : List X) → take (length xs) ys ≡ xs → n ≤ length xs →
    take n ys ≡ take n xs
take_front n xs ys front le = sym (take-take n (length xs) ys le) ∙ ap (take n) front

get_or_front : (xs ys : List ℕ) (p : ℕ) → take (length xs) ys ≡ xs → p < length xs →
    get_or ys p 0 ≡ get_or xs p 0
get_or_front xs ys p front within = sym (get_or-take (length xs) ys p 0 within)
    ∙ ap (λ (zs : List ℕ). get_or zs p 0) front

count-none : (k : ℕ) (xs : List (Option Bool)) → xs ≡ replicate k None → count_by is_some xs ≡ 0
count-none zero xs e = ap (count_by is_some) e
count-none (suc k) xs e = ap (count_by is_some) e ∙ count-none k (replicate k None) refl

get_or-more : (xs : List (Option Bool)) (n i : ℕ) → get_or (xs ++ replicate n None) i None ≡ get_or xs i None
get_or-more [] n i = ⊎_elim (λ below. get_or-replicate n i None None below)
    (λ past. get_or_past (replicate n None) i None (rw length-replicate past)) (cases_lt i n)
get_or-more (x ∷ xs) n zero = refl
get_or-more (x ∷ xs) n (suc i) = get_or-more xs n i

unlike : (a b v : ℕ) → a ≤ v → v + 1 ≤ b → eqb a b ≡ false
unlike a b v le above = grind (arith, nat_tests)

skipped : (c s : Bool) (w : Option Bool) → c ≡ false → w ≡ None → cond c (Some s) w ≡ None
skipped true s w e none = absurd (cc e)
skipped false s w e none = none

value_of-outside : (v : ℕ) (xs : List Literal) (l : Literal) →
    ((p : ℕ) → p < length xs → (lit_at xs p).variable ≤ v) → v + 1 ≤ l.variable → value_of xs l ≡ None
value_of-outside v [] l within above = refl
value_of-outside v (x ∷ xs) l within above =
    skipped (eqb x.variable l.variable) _ (value_of xs l)
    (unlike x.variable l.variable v (within 0 (omega arith)) above)
    (value_of-outside v xs l (λ p p_in. within (suc p) (omega arith)) above)

pub grown : (variables variables' : ℕ) (lits lits' : List Literal) (reasons reasons' : List (Option ℕ))
    (levels levels' : List ℕ) (n level : ℕ) (values values' : List (Option Bool)) (places places' : List ℕ)
    (ok : Bool) (len : ℕ) (filler : Option Bool)
    → Holds variables lits reasons levels n level values places → variables ≤ variables' → ok ≡ true →
    len ≡ length values → filler ≡ None
    → take (length lits) lits' ≡ lits → take (length reasons) reasons' ≡ reasons →
    take (length levels) levels' ≡ levels → take (length places) places' ≡ places
    → variables' ≤ length lits' → variables' ≤ length reasons' → variables' ≤ length levels' →
    variables' ≤ length places'
    → values' ≡ cond ok (take variables' values ++ replicate (variables' - len) filler) values
    → Holds variables' lits' reasons' levels' n level values' places'
grown variables variables' lits lits' reasons reasons' levels levels' n level values values' places places'
    ok len filler h more ok_is len_is filler_is lits_front reasons_front levels_front places_front lits_room
    reasons_room levels_room places_room values_is =
    let T : take n lits' ≡ take n lits = take_front n lits lits' lits_front
    (omega (arith, h.assigned_le, h.lits_room)) in
    let R : take n reasons' ≡ take n reasons = take_front n reasons reasons' reasons_front
    (omega (arith, h.assigned_le, h.reasons_room)) in
    let k : ℕ = variables' - len in
    let empty : values' ≡ cond ok (take variables' values ++ replicate k None) values =
    values_is ∙ ap (λ (f : Option Bool). cond ok (take variables' values ++ replicate k f) values)
    filler_is in
    let v : values' ≡ values ++ replicate k None = empty
    ∙ (ap (λ (b : Bool). cond b (take variables' values ++ replicate k None) values) ok_is
    ∙ ap (λ (ys : List (Option Bool)). ys ++ replicate k None)
    (take_all variables' values (omega (arith, h.values_room)))) in
    let v_len : length values' ≡ variables' = ap length v
    ∙ (length-append values (replicate k None) ∙ (ap (λ (m : ℕ). length values + m)
    (length-replicate k None) ∙ omega (arith, h.values_room))) in
    let read : (i : ℕ) → get_or values' i None ≡ get_or values i None =
    λ i. ap (λ (ys : List (Option Bool)). get_or ys i None) v ∙ get_or-more values k i in
    record {
      trail = subst (λ (ys : List Literal). IsTrail variables' ys (take n reasons')) (sym T)
          (subst (λ (rs : List (Option ℕ)). IsTrail variables' (take n lits) rs) (sym R) (record {
            same_length = h.trail.same_length;
            fresh = h.trail.fresh;
            counted = h.trail.counted;
            within = λ p p_in. omega (arith, h.trail.within p p_in);
            short = omega (arith, h.trail.short);
          }));
      lits_room = lits_room;
      reasons_room = reasons_room;
      levels_room = levels_room;
      places_room = places_room;
      assigned_le = omega (arith, h.assigned_le);
      values_room = v_len;
      count = ap (count_by is_some) v ∙ (sum_by-append (λ (x : Option Bool). cond {A = ℕ} (is_some x) 1 0)
          values (replicate k None) ∙ omega (arith, count-none k (replicate k None) refl, h.count));
      level_is = h.level_is ∙ ap decided (sym R);
      levels_are = λ p below. get_or_front levels levels' p levels_front
          (omega (arith, h.assigned_le, h.levels_room))
          ∙ (h.levels_are p below ∙ ap (λ (rs : List (Option ℕ)). level_at rs p) (sym R));
      places_are = λ p below. ap (λ (ys : List Literal). get_or places' ((lit_at ys p).variable - 1) 0) T ∙
          (let p_in : p < length (take n lits) = omega (
            arith,
            length-take-le n lits
                (omega (arith, h.assigned_le, h.lits_room)),
          ) in
          get_or_front places places' ((lit_at (take n lits) p).variable - 1) places_front
          (omega (arith, h.trail.counted p p_in, h.trail.within p p_in, h.places_room))
          ∙ h.places_are p below);
      values_are = λ l counted within. ⊎_elim
          (λ below. ap (with_sign l.negated) (read (l.variable - 1))
          ∙ (h.values_are l counted (omega arith) ∙ ap (λ (ys : List Literal). value_of ys l) (sym T)))
          (λ above. ap (with_sign l.negated) (read (l.variable - 1)
          ∙ get_or_past values (l.variable - 1) None (omega (arith, h.values_room)))
          ∙ sym (ap (λ (ys : List Literal). value_of ys l) T
          ∙ value_of-outside variables (take n lits) l h.trail.within above))
          (cases_lt l.variable (variables + 1));
    }

-- the whole of a list is its front
pub whole : {X : Type 0} (xs : List X) → take (length xs) xs ≡ xs
whole xs = take_all (length xs) xs (omega arith)

front_fits : {X : Type 0} (n : ℕ) (xs ys : List X) → take (length xs) ys ≡ xs → n ≤ length xs → n ≤ length ys
front_fits n xs ys front le = omega (arith, ap length front, length-take (length xs) ys)

none_more : (n : ℕ) (values : List (Option Bool)) → length values ≡ n →
    values ≡ take n values ++ replicate (n - length values) None
none_more n values e =
    let none : n - length values ≡ 0 = omega arith in
    sym (ap (λ k. take n values ++ replicate k None) none ∙ (append-nil (take n values)
    ∙ take_all n values (omega arith)))

-- lists that begin with those of a trail hold it too
pub filled : (variables : ℕ) (lits lits' : List Literal) (reasons reasons' : List (Option ℕ))
    (levels levels' : List ℕ) (n level : ℕ) (values values' : List (Option Bool)) (places places' : List ℕ)
    → Holds variables lits reasons levels n level values places
    → take (length lits) lits' ≡ lits → take (length reasons) reasons' ≡ reasons →
    take (length levels) levels' ≡ levels → take (length places) places' ≡ places → values' ≡ values
    → Holds variables lits' reasons' levels' n level values' places'
filled variables lits lits' reasons reasons' levels levels' n level values values' places places' h lits_front
    reasons_front levels_front places_front same =
    grown variables variables lits lits' reasons reasons' levels levels' n level values values' places places'
    true (length values) None h (omega arith) refl refl refl lits_front reasons_front levels_front
    places_front (front_fits variables lits lits' lits_front h.lits_room)
    (front_fits variables reasons reasons' reasons_front h.reasons_room)
    (front_fits variables levels levels' levels_front h.levels_room)
    (front_fits variables places places' places_front h.places_room)
    (same ∙ none_more variables values h.values_room)

-- the same, of what contracts see
module _ (variables : ℕ) (lits : List Literal) (reasons : List (Option ℕ)) (levels : List ℕ) (n level : ℕ)
    (values : List (Option Bool)) (places : List ℕ)
    (h : Holds variables lits reasons levels n level values places)
    (s : Assignments) (seen : ◌≡◌ {A = Assignments}
    (record { variables = variables; lits = take n lits; reasons = take n reasons }) s)
    (t : Literal) (x : ℕ) (x_is : x ≡ t.variable) (x_counted : 1 ≤ x) where
  counted_seen : 1 ≤ t.variable
  counted_seen = omega (arith, x_is, x_counted)

  within_seen : t.variable ≤ s.variables → t.variable ≤ variables
  within_seen w = subst (λ (a : Assignments). t.variable ≤ a.variables) (sym seen) w

  free_seen : value_of s.lits t ≡ None → value_of (take n lits) t ≡ None
  free_seen f = subst (λ (a : Assignments). value_of a.lits t ≡ None) (sym seen) f

  pub room_seen : t.variable ≤ s.variables → value_of s.lits t ≡ None → n + 1 ≤ variables
  room_seen w f = room variables lits reasons levels n level values places h t counted_seen (within_seen w)
      (free_seen f)

  pub room_left : t.variable ≤ s.variables → value_of s.lits t ≡ None →
      (n < length lits) × (n < length reasons) × (n < length levels) × (level ≤ n)
  room_left w f = let short = room_seen w f in (
    omega (arith, short, h.lits_room),
    omega (arith, short, h.reasons_room),
    omega (arith, short, h.levels_room),
    omega (
      arith,
      h.level_is,
      decided-le-length (take n reasons),
      length-take-le n reasons
          (omega (arith, h.assigned_le, h.reasons_room)),
    ),
  )

  pub pushed_seen : (reason : Option ℕ) (d : ℕ) (negated : Bool) → d ≡ cond (is_some reason) 0 1 →
      negated ≡ t.negated → t.variable ≤ s.variables → value_of s.lits t ≡ None
      → Holds variables (set lits n t) (set reasons n reason) (set levels n (level + d)) (n + 1) (level + d)
      (set values (x - 1) (Some (not negated))) (set places (x - 1) n)
  pushed_seen reason d negated d_is negated_is w f =
      rw (x_is, negated_is) (pushed variables lits reasons levels n level values places h t reason
      (level + d) counted_seen (within_seen w) (free_seen f)
      (omega (arith, h.level_is, d_is, decided-append (take n reasons) (reason ∷ []), decided-one reason)))

  pub pushed_view : (reason : Option ℕ) → t.variable ≤ s.variables → value_of s.lits t ≡ None
      → ◌≡◌ {A = Assignments} (record {
        variables = variables;
        lits = take (n + 1) (set lits n t);
        reasons = take (n + 1) (set reasons n reason);
      }) (record s {
        lits = s.lits ++ t ∷ [];
        reasons = s.reasons ++ reason ∷ [];
      })
  pushed_view reason w f =
      let short = room_seen w f in
      ap (λ (ys : List Literal). assignments variables ys (take (n + 1) (set reasons n reason)))
      (pushed_lits variables lits reasons levels n level values places h t short)
      ∙ (ap (λ (rs : List (Option ℕ)). assignments variables (take n lits ++ t ∷ []) rs)
      (pushed_reasons variables lits reasons levels n level values places h reason short)
      ∙ ap (λ (a : Assignments). assignments a.variables (a.lits ++ t ∷ []) (a.reasons ++ reason ∷ [])) seen)
    where
      assignments : ℕ → List Literal → List (Option ℕ) → Assignments
      assignments v l r = record { variables = v; lits = l; reasons = r }

module _ (variables : ℕ) (lits : List Literal) (reasons : List (Option ℕ)) (levels : List ℕ) (n level : ℕ)
    (values : List (Option Bool)) (places : List ℕ)
    (h : Holds variables lits reasons levels n level values places)
    (s : Assignments) (seen : ◌≡◌ {A = Assignments}
    (record { variables = variables; lits = take n lits; reasons = take n reasons }) s)
    (some : 0 < length s.lits) where
  size : length s.lits ≡ n
  size = sym (ap (λ (a : Assignments). length a.lits) seen)
      ∙ length-take-le n lits (omega (arith, h.assigned_le, h.lits_room))

  pub some_assigned : 0 < n
  some_assigned = omega (arith, size, some)

  reason_read : (r : Option ℕ) → r ≡ get_or reasons (n - 1) r →
      decided (take n reasons) ≡ decided (take (n - 1) reasons) + cond (is_some r) 0 1
  reason_read r r_is =
      let n_is : n - 1 + 1 ≡ n = omega (arith, some_assigned) in
      let within : n - 1 < length reasons = omega (arith, some_assigned, h.assigned_le, h.reasons_room) in
      let read : r ≡ get_or reasons (n - 1) None = get_or_read reasons (n - 1) r within r_is None in
      ap (λ (m : ℕ). decided (take m reasons)) (sym n_is)
      ∙ (decided-take_step (n - 1) reasons within ∙ ap
      (λ (o : Option ℕ). decided (take (n - 1) reasons) + cond (is_some o) 0 1) (sym read))

  lit_read : (t : Literal) → t ≡ get_or lits (n - 1) t → t ≡ lit_at (take n lits) (n - 1)
  lit_read t t_is =
      get_or_read lits (n - 1) t (omega (arith, some_assigned, h.assigned_le, h.lits_room)) t_is no_literal
      ∙ sym (get_or-take n lits (n - 1) no_literal (omega (arith, some_assigned)))

  pub level_opened : (r : Option ℕ) (d : ℕ) → r ≡ get_or reasons (n - 1) r → d ≡ cond (is_some r) 0 1 →
      d ≤ level
  level_opened r d r_is d_is = omega (arith, reason_read r r_is, h.level_is, d_is)

  pub index_within : (t : Literal) (x : ℕ) → t ≡ get_or lits (n - 1) t → x ≡ t.variable →
      x - 1 < length values
  index_within t x t_is x_is =
      let at : t ≡ lit_at (take n lits) (n - 1) = lit_read t t_is in
      let p_in : n - 1 < length (take n lits) = omega
      (arith, some_assigned, length-take-le n lits (omega (arith, h.assigned_le, h.lits_room))) in
      omega (
        arith,
        h.trail.counted (n - 1) p_in,
        h.trail.within (n - 1) p_in,
        ap
            (λ (l : Literal). l.variable) at,
        x_is,
        h.values_room,
      )

  pub popped_seen : (t : Literal) (x : ℕ) (r : Option ℕ) (d : ℕ) → t ≡ get_or lits (n - 1) t →
      x ≡ t.variable → r ≡ get_or reasons (n - 1) r → d ≡ cond (is_some r) 0 1
      → Holds variables lits reasons levels (n - 1) (level - d) (set values (x - 1) None) places
  popped_seen t x r d t_is x_is r_is d_is =
      rw (x_is ∙ ap (λ (l : Literal). l.variable) (lit_read t t_is))
      (popped variables lits reasons levels n level values places h (n - 1) (level - d)
      (omega (arith, some_assigned))
      (omega (arith, reason_read r r_is, h.level_is, d_is)))

pub small : (b : Bool) → cond {A = ℕ} b 0 1 ≤ 1
small true = omega arith
small false = omega arith

pub placed : (xs : List Literal) (x p : ℕ) → trail_index xs x < length xs → p ≡ trail_index xs x →
    trail_index_if xs x ≡ Some p
placed xs x p within is = ap (λ (b : Bool). cond b (Some (trail_index xs x)) None)
    (yes (trail_index xs x) (length xs) within) ∙ ap (λ (q : ℕ). Some q) (sym is)
  where
    yes : (a b : ℕ) → a < b → ltb a b ≡ true
    yes a b h = grind (arith, nat_tests)

unplaced : (xs : List Literal) (x : ℕ) → trail_index xs x ≡ length xs → trail_index_if xs x ≡ None
unplaced xs x past = ap (λ (b : Bool). cond b (Some (trail_index xs x)) None)
    (no' (trail_index xs x) (length xs) past)
  where
    no' : (a b : ℕ) → a ≡ b → ltb a b ≡ false
    no' a b h = grind (arith, nat_tests)

some_value : (v : Option Bool) → is_some v ≡ true → (b : Bool) × (v ≡ Some b)
some_value None e = absurd (cc e)
some_value (Some b) e = (b, refl)

pub no_value : (v : Option Bool) → is_some v ≡ false → v ≡ None
no_value None e = refl
no_value (Some b) e = absurd (cc e)

module _ (variables : ℕ) (lits : List Literal) (reasons : List (Option ℕ)) (levels : List ℕ) (n level : ℕ)
    (values : List (Option Bool)) (places : List ℕ)
    (h : Holds variables lits reasons levels n level values places)
    (s : Assignments) (seen : ◌≡◌ {A = Assignments}
    (record { variables = variables; lits = take n lits; reasons = take n reasons }) s)
    (x : ℕ) (counted : 1 ≤ x) (within : x ≤ s.variables) where
  pub place_some : (v : Option Bool) (p : ℕ) → v ≡ get_or values (x - 1) v → is_some v ≡ true →
      p ≡ get_or places (x - 1) p → Some p ≡ trail_index_if s.lits x
  place_some v p v_is some p_is =
      let l : Literal = record { variable = x; negated = false } in
      let len : length (take n lits) ≡ n = length-take-le n lits
      (omega (arith, h.assigned_le, h.lits_room)) in
      let x_le : x ≤ variables = subst (λ (a : Assignments). x ≤ a.variables) (sym seen) within in
      let read : v ≡ get_or values (x - 1) None = get_or_read values (x - 1) v
      (omega (arith, h.values_room)) v_is None in
      let b = some_value v some in
      let value : value_of (take n lits) l ≡ Some b.0 = sym (h.values_are l counted x_le)
      ∙ (ap (with_sign false) (sym read) ∙ ap (with_sign false) b.1) in
      let p_in : trail_index (take n lits) x < length (take n lits) =
      trail_index-some (take n lits) l b.0 value in
      let at : (lit_at (take n lits) (trail_index (take n lits) x)).variable ≡ x =
      lit_at-place (take n lits) x p_in in
      let q : get_or places (x - 1) 0 ≡ trail_index (take n lits) x =
      ap (λ (m : ℕ). get_or places (m - 1) 0) (sym at)
      ∙ h.places_are (trail_index (take n lits) x) (omega arith) in
      let p_read : p ≡ get_or places (x - 1) 0 = get_or_read places (x - 1) p (omega (arith, h.places_room))
      p_is 0 in
      sym (ap (λ (a : Assignments). trail_index_if a.lits x) (sym seen)
      ∙ placed (take n lits) x p p_in (p_read ∙ q))

  pub place_none : (v : Option Bool) → v ≡ get_or values (x - 1) v → is_some v ≡ false →
      None ≡ trail_index_if s.lits x
  place_none v v_is none =
      let l : Literal = record { variable = x; negated = false } in
      let x_le : x ≤ variables = subst (λ (a : Assignments). x ≤ a.variables) (sym seen) within in
      let read : v ≡ get_or values (x - 1) None = get_or_read values (x - 1) v
      (omega (arith, h.values_room)) v_is None in
      let value : value_of (take n lits) l ≡ None = sym (h.values_are l counted x_le)
      ∙ (ap (with_sign false) (sym read) ∙ ap (with_sign false) (no_value v none)) in
      sym (ap (λ (a : Assignments). trail_index_if a.lits x) (sym seen)
      ∙ unplaced (take n lits) x (trail_index-none (take n lits) l value))
