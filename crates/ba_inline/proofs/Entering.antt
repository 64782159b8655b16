-- Which statements a `switch` executes, by its labels and by flags.
use Rattle.std.proofs.Common.{◌≡◌, ℕ, zero, suc, ◌+◌, ◌-◌, ◌<◌, ◌≤◌, ℤ, pos, Bool, true, false, not, ◌&&◌, ◌||◌, ◌==◌, nat_le, nat_lt, cond, Option, None, Some, Ok, Err, List, [], ◌∷◌, ◌++◌, map, drop, length, get_or, refl, sym, ◌∙◌, ap, subst, arith, add-zero}
use Rattle.std.specs.List.{list_any}
use Rattle.std.specs.Ordering.{int_eq}
use Rattle.std.proofs.lemmas.Bool.Decides.{Decides-int_eq, nat_tests}
use Rattle.std.proofs.lemmas.List.{drop_all, drop_more}
use Rattle.ba_inline.specs.Labels.{entry_flags, is_before, is_entered, some_start, stands_at, tests_of}
use Rattle.ba_inline.specs.Switching.{guarded_row}
use Rattle.ba_numbers.specs.Numbers.{truth}
use Rattle.ba_tree.proofs.Tests.{both}
use Rattle.ba_tree.specs.Acts.{after_part, fork, give, then_do}
use Rattle.ba_tree.specs.Facts.{values_differ}
use Rattle.ba_tree.specs.Meaning.{Context, entered, exec, exec_all, label_at}
use Rattle.ba_tree.specs.State.{Ending, Execution, State}
use Rattle.ba_tree.specs.declared.run.Exit.{Exit}
use Rattle.ba_tree.specs.declared.run.Flow.{Flow}
use Rattle.ba_tree.specs.declared.run.Flow.TheVariants.{Next, Leaves}
use Rattle.ba_tree.specs.declared.run.Step.{Step}
use Rattle.ba_tree.specs.declared.tree.Start.{Start}
use Rattle.ba_tree.specs.declared.tree.Stmt.{Stmt}

-- TESTS

or_false : (b : Bool) → (b || false) ≡ b
or_false true = refl
or_false false = refl

and_true : (b : Bool) → (b && true) ≡ b
and_true true = refl
and_true false = refl

and_false : (b : Bool) → (b && false) ≡ false
and_false true = refl
and_false false = refl

or_assoc : (a b c : Bool) → ((a || b) || c) ≡ (a || (b || c))
or_assoc true b c = refl
or_assoc false b c = refl

not_true : (b : Bool) → not b ≡ true → b ≡ false
not_true true h = cc
not_true false h = refl

-- a test that fails of a row fails of its first element and of the others
first_false : (a b : Bool) → (a || b) ≡ false → a ≡ false
first_false true b h = cc
first_false false b h = refl

others_false : (a b : Bool) → (a || b) ≡ false → b ≡ false
others_false true b h = cc
others_false false b h = h

-- LABELS that differ: one of them, or `default`, is at a place where the label of the value does

abbrev pub values_of : List Start → List ℤ
values_of starts = map (λ (start : Start). start.value) starts

-- one label of a row after the other
any-value : (v : ℤ) (starts : List Start)
    → list_any (λ y. int_eq y v) (values_of starts) ≡ list_any (λ (s : Start). int_eq s.value v) starts
any-value v [] = refl
any-value v (s ∷ ss) = ap (λ b. int_eq s.value v || b) (any-value v ss)

module _ (starts : List Start) (i : ℕ) (d : Start) (v : ℤ) (others : List Start) (within : i < length starts)
    (is : v ≡ (get_or starts i d).value) (others_are : others ≡ drop (i + 1) starts) where
  next-values : values_of (drop i starts) ≡ v ∷ values_of others
  next-values = ap values_of (drop_more starts i d within) ∙ (λ k. sym is k ∷ values_of (sym others_are k))

  same-value : (b : Bool) → list_any (λ (o : Start). int_eq o.value v) others ≡ b
      → values_differ (values_of (drop i starts)) ≡ (not b && values_differ (values_of others))
  same-value b has = ap values_differ next-values
      ∙ ap (λ b. not b && values_differ (values_of others)) (any-value v others ∙ has)

  pub differ-stops : list_any (λ (o : Start). int_eq o.value v) others ≡ true
      → values_differ (values_of (drop i starts)) ≡ false
  differ-stops has = same-value true has

  pub differ-goes : list_any (λ (o : Start). int_eq o.value v) others ≡ false
      → values_differ (values_of (drop i starts)) ≡ values_differ (values_of (drop (i + 1) starts))
  differ-goes has = same-value false has ∙ ap (λ ss. values_differ (values_of ss)) others_are

-- no other label has this value
none_has : (starts : List Start) (z : ℤ) (place : ℕ) → list_any (λ y. int_eq y z) (values_of starts) ≡ false
    → some_start starts (tests_of starts z) place ≡ false
none_has [] z place h = refl
none_has (s ∷ ss) z place h =
    rw (first_false (int_eq s.value z) (list_any (λ y. int_eq y z) (values_of ss)) h)
    (ap (λ b. b || some_start ss (tests_of ss z) place) (and_false (s.at == place))
    ∙ none_has ss z place (others_false (int_eq s.value z) (list_any (λ y. int_eq y z) (values_of ss)) h))

abbrev found_at : List Start → Option ℕ → ℕ → List Bool → Bool
found_at starts other place bs =
    some_start starts bs place || (stands_at other place && not (list_any (λ b. b) bs))

-- the first label's test as a variable
label-step : (s : Start) (ss : List Start) (other : Option ℕ) (z : ℤ) (place : ℕ)
    → list_any (λ y. int_eq y s.value) (values_of ss) ≡ false
    → found_at ss other place (tests_of ss z) ≡ stands_at (label_at ss z other) place
    → (b : Bool) → int_eq s.value z ≡ b
    → found_at (s ∷ ss) other place (b ∷ tests_of ss z) ≡ stands_at (cond b (Some s.at) (label_at ss z
    other)) place
label-step s ss other z place apart others true is =
    let same : s.value ≡ z = (Decides-int_eq s.value z).0 is in
    let none : list_any (λ y. int_eq y z) (values_of ss) ≡ false = subst
    (λ v. list_any (λ y. int_eq y v) (values_of ss) ≡ false) same apart in
    ap (λ b. (((s.at == place) && true) || b) || (stands_at other place && false)) (none_has ss z place none)
    ∙ ap (λ b. (((s.at == place) && true) || false) || b) (and_false (stands_at other place))
    ∙ or_false (((s.at == place) && true) || false) ∙ or_false ((s.at == place) && true)
    ∙ and_true (s.at == place)
label-step s ss other z place apart others false is =
    ap (λ b. (b || some_start ss (tests_of ss z) place)
    || (stands_at other place && not (list_any (λ b. b) (tests_of ss z)))) (and_false (s.at == place))
    ∙ others

pub label-found : (starts : List Start) (other : Option ℕ) (z : ℤ) (place : ℕ) → values_differ (values_of
    starts) ≡ true
    → found_at starts other place (tests_of starts z) ≡ stands_at (label_at starts z other) place
label-found [] other z place h = and_true (stands_at other place)
label-found (s ∷ ss) other z place h = label-step s ss other z place (not_true _ (both _ _ h).0)
    (label-found ss other z place (both _ _ h).1) (int_eq s.value z) refl

-- PLACES

none_before : (at : ℕ) → nat_lt at 0 ≡ false
none_before at = grind (arith, nat_tests)

pub before-first : (label : Option ℕ) → is_before label 0 ≡ false
before-first None = refl
before-first (Some at) = none_before at

at_or_before : (at place : ℕ) → (nat_lt at place || (at == place)) ≡ nat_le at place
at_or_before at place = grind (arith, nat_tests)

pub entered-at : (label : Option ℕ) (place : ℕ) → (is_before label place || stands_at label place) ≡
    is_entered label place
entered-at None place = refl
entered-at (Some at) place = at_or_before at place

entered_next : (at place : ℕ) → nat_lt at (place + 1) ≡ nat_le at place
entered_next at place = grind (arith, nat_tests)

pub before-next : (label : Option ℕ) (place : ℕ) → is_before label (place + 1) ≡ is_entered label place
before-next None place = refl
before-next (Some at) place = entered_next at place

-- a flag of what precedes a place, and the tests of the place
pub joined-is : (starts : List Start) (other : Option ℕ) (z : ℤ) (place : ℕ) → values_differ (values_of
    starts) ≡ true
    → ((is_before (label_at starts z other) place || some_start starts (tests_of starts z) place)
    || (stands_at other place && not (list_any (λ b. b) (tests_of starts z))))
    ≡ is_entered (label_at starts z other) place
joined-is starts other z place differ =
    or_assoc (is_before (label_at starts z other) place) (some_start starts (tests_of starts z) place)
    (stands_at other place && not (list_any (λ b. b) (tests_of starts z)))
    ∙ ap (λ b. is_before (label_at starts z other) place || b) (label-found starts other z place differ)
    ∙ entered-at (label_at starts z other) place

-- one more place
flags-more : (label : Option ℕ) (place count : ℕ) → entry_flags label place (suc count)
    ≡ entry_flags label place count ++ is_entered label (place + count) ∷ []
flags-more label place zero = ap (λ k. is_entered label k ∷ []) (sym (add-zero place))
flags-more label place (suc count) = ap (λ bs. is_entered label place ∷ bs) (flags-more label (suc place)
    count
    ∙ ap (λ k. entry_flags label (suc place) count ++ is_entered label k ∷ [])
    (let e : suc place + count ≡ place + suc count = omega arith in e))

pub flags-next : (label : Option ℕ) (count : ℕ)
    → entry_flags label 0 (count + 1) ≡ entry_flags label 0 count ++ is_entered label count ∷ []
flags-next label count = ap (entry_flags label 0) (let e : count + 1 ≡ suc count = omega arith in e)
    ∙ flags-more label 0 count
    ∙ ap (λ k. entry_flags label 0 count ++ is_entered label k ∷ []) (let e : 0 + count ≡ count = omega
    arith in e)

-- ROWS of statements with flags

module _ (x : Context) (path : List Step) where
  nothing-left : (s : State) → exec_all x path [] s ≡ (Ok Next, s)
  unfolding exec_all
  nothing-left s = refl

  first-left : (stmt : Stmt) (body : List Stmt) (s : State)
      → exec_all x path (stmt ∷ body) s ≡ then_do (exec x stmt path s) (after_part (exec_all x path body))
  unfolding exec_all
  first-left stmt body s = refl

  row-none : (body : List Stmt) (place : ℕ) (s : State)
      → guarded_row x path body (map truth (entry_flags None place (length body))) s ≡ (Ok Next, s)
  row-none [] place s = refl
  row-none (stmt ∷ body) place s = row-none body (suc place) s

  -- the flag of the first statement as a variable
  row-step : (at : ℕ) (stmt : Stmt) (body : List Stmt) (place : ℕ) (others : Execution)
      → ((s : State) → others s ≡ exec_all x path (drop (at - suc place) body) s)
      → (b : Bool) → nat_le at place ≡ b → (s : State)
      → then_do (fork (exec x stmt path) (give Next) (truth b) s) (after_part others)
      ≡ exec_all x path (drop (at - place) (stmt ∷ body)) s
  row-step at stmt body place others same true is s =
      let within : at ≤ place = grind (arith, nat_tests, is) in
      let none : at - suc place ≡ 0 = omega (arith, within) in
      let here : at - place ≡ 0 = omega (arith, within) in
      ap (λ (f : Execution). then_do (exec x stmt path s) (after_part f))
      (λ i s. (same s ∙ ap (λ n. exec_all x path (drop n body) s) none) i)
      ∙ sym (first-left stmt body s)
      ∙ ap (λ n. exec_all x path (drop n (stmt ∷ body)) s) (sym here)
  row-step at stmt body place others same false is s =
      let above : place < at = grind (arith, nat_tests, is) in
      let more : at - place ≡ suc (at - suc place) = omega (arith, above) in
      same s ∙ ap (λ n. exec_all x path (drop n (stmt ∷ body)) s) (sym more)

  row-from : (at : ℕ) (body : List Stmt) (place : ℕ) (s : State)
      → guarded_row x path body (map truth (entry_flags (Some at) place (length body))) s
      ≡ exec_all x path (drop (at - place) body) s
  row-from at [] place s = sym (ap (λ body. exec_all x path body s) (drop_all (at - place) [] (omega arith))
      ∙ nothing-left s)
  row-from at (stmt ∷ body) place s = row-step at stmt body place
      (guarded_row x path body (map truth (entry_flags (Some at) (suc place) (length body))))
      (λ s. row-from at body (suc place) s) (nat_le at place) refl s

  -- a `switch` executes the statements whose flags are set
  pub entered-row : (label : Option ℕ) (body : List Stmt) (s : State)
      → guarded_row x path body (map truth (entry_flags label 0 (length body))) s ≡ exec_all x path
      (entered label body) s
  entered-row None body s = row-none body 0 s ∙ sym (nothing-left s)
  entered-row (Some at) body s = row-from at body 0 s
      ∙ ap (λ n. exec_all x path (drop n body) s) (let e : at - 0 ≡ at = omega arith in e)

  -- one row after the other

  two : (e : Ending (Flow Exit)) (f g h : Execution) → ((s : State) → f s ≡ then_do (g s) (after_part h))
      → then_do e (after_part f) ≡ then_do (then_do e (after_part g)) (after_part h)
  two (Ok Next, s) f g h same = same s
  two (Ok (Leaves exit), s) f g h same = refl
  two (Err halt, s) f g h same = refl

  pub guarded-append : (front others : List Stmt) (zs ws : List ℤ) (s : State) → length zs ≡ length front
      → guarded_row x path (front ++ others) (zs ++ ws) s
      ≡ then_do (guarded_row x path front zs s) (after_part (guarded_row x path others ws))
  guarded-append [] others [] ws s same = refl
  guarded-append [] others (z ∷ zs) ws s same = absurd (omega arith)
  guarded-append (stmt ∷ front) others [] ws s same = absurd (omega arith)
  guarded-append (stmt ∷ front) others (z ∷ zs) ws s same =
      two (fork (exec x stmt path) (give Next) z s) (guarded_row x path (front ++ others) (zs ++ ws))
      (guarded_row x path front zs) (guarded_row x path others ws)
      (λ s. guarded-append front others zs ws s (omega (arith, same)))

  -- a row with one flag is run if it is set
  same-zero : (z : ℤ) (body : List Stmt) (s : State) → int_eq z (pos 0) ≡ true
      → guarded_row x path body (map (λ (stmt : Stmt). z) body) s ≡ (Ok Next, s)
  same-zero z [] s is = refl
  same-zero z (stmt ∷ body) s is =
      ap (λ b. then_do (cond b (give Next s) (exec x stmt path s))
      (after_part (guarded_row x path body (map (λ (stmt : Stmt). z) body)))) is
      ∙ same-zero z body s is

  same-other : (z : ℤ) (body : List Stmt) (s : State) → int_eq z (pos 0) ≡ false
      → guarded_row x path body (map (λ (stmt : Stmt). z) body) s ≡ exec_all x path body s
  same-other z [] s is = sym (nothing-left s)
  same-other z (stmt ∷ body) s is =
      ap (λ b. then_do (cond b (give Next s) (exec x stmt path s))
      (after_part (guarded_row x path body (map (λ (stmt : Stmt). z) body)))) is
      ∙ ap (λ (f : Execution). then_do (exec x stmt path s) (after_part f))
      (λ i s. same-other z body s is i)
      ∙ sym (first-left stmt body s)

  pub guarded-same : (z : ℤ) (body : List Stmt) (s : State)
      → guarded_row x path body (map (λ (stmt : Stmt). z) body) s ≡ fork (exec_all x path body) (give Next)
      z s
  guarded-same z body s = by (int_eq z (pos 0)) refl
    where
      by : (b : Bool) → int_eq z (pos 0) ≡ b → guarded_row x path body (map (λ (stmt : Stmt). z) body) s
          ≡ cond b (give Next s) (exec_all x path body s)
      by true is = same-zero z body s is
      by false is = same-other z body s is
