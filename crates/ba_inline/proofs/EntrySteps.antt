-- The flags of a `switch`, place by place.
use Rattle.std.proofs.Common.{◌≡◌, ℕ, zero, suc, ◌+◌, ℤ, pos, Bool, true, false, not, ◌&&◌, ◌||◌, ◌==◌, Option, None, Some, List, [], ◌∷◌, ◌++◌, map, length, refl, sym, ◌∙◌, ap, subst}
use Rattle.std.specs.Prelude.{slice_index_or}
use Rattle.std.specs.List.{list_any}
use Rattle.std.proofs.lemmas.List.{map_push}
use Rattle.ba_code.specs.State.{CodeState, operand_value}
use Rattle.ba_code.specs.Types.{Types}
use Rattle.ba_code.specs.declared.nodes.Node.{Node}
use Rattle.ba_code.specs.declared.nodes.Operand.{Operand}
use Rattle.ba_code.specs.declared.nodes.Operand.TheVariants.{Const}
use Rattle.ba_inline.proofs.Entering.{before-first, before-next, flags-next, joined-is}
use Rattle.ba_inline.proofs.FlagSteps.{are-between-more, are-between-push, computes-as, computes-none, computes-then, flag-is, flags-truths, operand-still, operands-still, set-truth, sets-truths, any-truths}
use Rattle.ba_inline.specs.Flags.{AreBetween, AreFlags, IsBetween, IsFlag, IsLater, IsNone, MakesFlags, MakesFrom, is_set}
use Rattle.ba_inline.specs.Labels.{AreEntered, IsDefault, IsJoined, MakesEntered, entry_flags, is_before, is_default, is_entered, some_start, stands_at, tests_of}
use Rattle.ba_numbers.specs.Numbers.{truth}
use Rattle.ba_tree.specs.Facts.{values_differ}
use Rattle.ba_tree.specs.Meaning.{label_at}
use Rattle.ba_tree.specs.declared.tree.Start.{Start}

-- THE TESTS AT ONE PLACE, one after the other

-- what the flag has once the first labels are looked at
abbrev pub IsJoinedTo : List Start → ℕ → List ℤ → ℤ → ℤ → ℤ → Type 0
IsJoinedTo starts place tests none before flag = AreFlags (before ∷ none ∷ tests)
    → flag ≡ truth (is_set before || some_start starts (map is_set tests) place)

abbrev test_at : List Bool → ℕ → Bool
test_at bs i = slice_index_or bs i false

some-first : (bs : List Bool) (place : ℕ) → some_start [] bs place ≡ false
some-first bs place = refl

-- one more label
some-more : (starts : List Start) (start : Start) (bs : List Bool) (place : ℕ)
    → some_start (starts ++ start ∷ []) bs place
    ≡ (some_start starts bs place || ((start.at == place) && test_at bs (length starts)))
some-more [] start [] place = sym (and-false (start.at == place))
  where
    and-false : (b : Bool) → (b && false) ≡ false
    and-false true = refl
    and-false false = refl
some-more [] start (b ∷ bs) place = or-false ((start.at == place) && b)
  where
    or-false : (b : Bool) → (b || false) ≡ b
    or-false true = refl
    or-false false = refl
some-more (s ∷ ss) start [] place = sym (and-false (start.at == place))
  where
    and-false : (b : Bool) → (b && false) ≡ false
    and-false true = refl
    and-false false = refl
some-more (s ∷ ss) start (b ∷ bs) place =
    ap (λ c. ((s.at == place) && b) || c) (some-more ss start bs place)
    ∙ sym (or-assoc ((s.at == place) && b) (some_start ss bs place) ((start.at == place) && test_at bs
    (length ss)))
  where
    or-assoc : (a b c : Bool) → ((a || b) || c) ≡ (a || (b || c))
    or-assoc true b c = refl
    or-assoc false b c = refl

-- the flag of a place in a row of flags
test-at : (t : CodeState) (os : List Operand) (i : ℕ)
    → is_set (operand_value t (slice_index_or os i (Const (pos 0)))) ≡ test_at (map is_set (map
    (operand_value t) os)) i
test-at t [] i = refl
test-at t (o ∷ os) zero = refl
test-at t (o ∷ os) (suc i) = test-at t os i

flag-at : (t : CodeState) (os : List Operand) (i : ℕ) → AreFlags (map (operand_value t) os)
    → IsFlag (operand_value t (slice_index_or os i (Const (pos 0))))
flag-at t [] i are = refl
flag-at t (o ∷ os) zero are = are.0
flag-at t (o ∷ os) (suc i) are = flag-at t os i are.1

pub between-flag : (base n : ℕ) (os : List Operand) (i : ℕ) → AreBetween base n os
    → IsBetween base n (slice_index_or os i (Const (pos 0)))
between-flag base n [] i h = tt
between-flag base n (o ∷ os) zero h = h.0
between-flag base n (o ∷ os) (suc i) h = between-flag base n os i h.1

module _ (base place : ℕ) (tests : List Operand) (none before : Operand) where
  abbrev pub Joined : List Start → Operand → Types → Types → List Node → List Node → Type 0
  Joined starts flag = MakesFrom (λ s u. IsJoinedTo starts place (map (operand_value s) tests)
      (operand_value s none)
      (operand_value s before) (operand_value u flag)) base flag

  pub joined-none : (d : Types) (old : List Node) → IsBetween base (length d.vars) before → Joined []
      before d d old old
  joined-none d old between = record {
    between = between;
    computes = computes-none (λ s u. IsJoinedTo [] place (map (operand_value s) tests)
        (operand_value s none) (operand_value s before) (operand_value u before)) d old
        (λ t are. sym are.0 ∙ ap truth (sym (or-false (is_set (operand_value t before)))));
  } where
    or-false : (b : Bool) → (b || false) ≡ b
    or-false true = refl
    or-false false = refl

  pub joined-more : (low mid high : Types) (old out new : List Node) (starts : List Start) (start : Start)
      (flag next test : Operand) (here : Bool) → AreBetween base (length low.vars) (before ∷ none ∷ tests)
      → here ≡ (start.at == place) → test ≡ slice_index_or tests (length starts) (Const (pos 0))
      → Joined starts flag low mid old out
      → MakesFrom (λ s u. IsLater here (operand_value s flag) (operand_value s test) (operand_value u
      next)) base next
      mid high out new
      → Joined (starts ++ start ∷ []) next low high old new
  joined-more low mid high old out new starts start flag next test here all is_here is_test made more =
      record {
        between = more.between;
        computes = computes-then
            (λ s u. IsJoinedTo starts place (map (operand_value s) tests) (operand_value s none) (operand_value
            s before)
            (operand_value u flag))
            (λ s u. IsLater here (operand_value s flag) (operand_value s test) (operand_value u next))
            (λ s u. IsJoinedTo (starts ++ start ∷ []) place (map (operand_value s) tests) (operand_value s none)
            (operand_value s before) (operand_value u next)) low mid high old out new made.computes more.computes
            (λ t u v first same second still are.
            let bs : List Bool = map is_set (map (operand_value t) tests) in
            let own : operand_value u test ≡ operand_value t test = operand-still base (length low.vars) test t
            u same
            (subst (IsBetween base (length low.vars)) (sym is_test) (between-flag base (length low.vars) tests
            (length starts) all.1.1)) in
            let flag_is : operand_value u flag ≡ truth (is_set (operand_value t before) || some_start starts bs
            place) = first are in
            let test_is : is_set (operand_value t test) ≡ test_at bs (length starts) =
            ap (λ o. is_set (operand_value t o)) is_test ∙ test-at t tests (length starts) in
            second (flag-is (operand_value u flag) _ flag_is)
            (subst IsFlag (sym own) (subst (λ o. IsFlag (operand_value t o)) (sym is_test)
            (flag-at t tests (length starts) are.1.1)))
            ∙ (λ i. truth ((ap is_set flag_is ∙ set-truth (is_set (operand_value t before) || some_start starts
            bs place)) i
            || (is_here i && (ap is_set own ∙ test_is) i)))
            ∙ ap truth (or-assoc (is_set (operand_value t before)) (some_start starts bs place)
            ((start.at == place) && test_at bs (length starts))
            ∙ ap (λ b. is_set (operand_value t before) || b) (sym (some-more starts start bs place))));
      } where
        or-assoc : (a b c : Bool) → ((a || b) || c) ≡ (a || (b || c))
        or-assoc true b c = refl
        or-assoc false b c = refl

  -- and `default`
  pub joined-all : (other : Option ℕ) (low mid high : Types) (old out new : List Node) (starts : List Start)
      (flag next : Operand) (here : Bool) → AreBetween base (length low.vars) (before ∷ none ∷ tests)
      → here ≡ stands_at other place → Joined starts flag low mid old out
      → MakesFrom (λ s u. IsLater here (operand_value s flag) (operand_value s none) (operand_value u
      next)) base next
      mid high out new
      → MakesFrom (λ s u. IsJoined starts other place (map (operand_value s) tests) (operand_value s none)
      (operand_value s before) (operand_value u next)) base next low high old new
  joined-all other low mid high old out new starts flag next here all is_here made more = record {
    between = more.between;
    computes = computes-then
        (λ s u. IsJoinedTo starts place (map (operand_value s) tests) (operand_value s none) (operand_value
        s before)
        (operand_value u flag))
        (λ s u. IsLater here (operand_value s flag) (operand_value s none) (operand_value u next))
        (λ s u. IsJoined starts other place (map (operand_value s) tests) (operand_value s none)
        (operand_value s before) (operand_value u next)) low mid high old out new made.computes more.computes
        (λ t u v first same second still are.
        let bs : List Bool = map is_set (map (operand_value t) tests) in
        let own : operand_value u none ≡ operand_value t none = operand-still base (length low.vars) none t
        u same all.1.0 in
        let flag_is : operand_value u flag ≡ truth (is_set (operand_value t before) || some_start starts bs
        place) = first are in
        second (flag-is (operand_value u flag) _ flag_is) (subst IsFlag (sym own) are.1.0)
        ∙ (λ i. truth ((ap is_set flag_is ∙ set-truth (is_set (operand_value t before) || some_start starts
        bs place)) i
        || (is_here i && is_set (own i)))));
  }

-- DEFAULT

-- nothing is asked without one
pub default-none : (base : ℕ) (d : Types) (old : List Node) (tests : List Operand) (other : Option ℕ) →
    other ≡ None
    → MakesFrom (λ s u. IsDefault other (map (operand_value s) tests) (operand_value u (Const (pos 0))))
    base (Const (pos 0))
    d d old old
default-none base d old tests other is =
    subst (λ other. MakesFrom (λ s u. IsDefault other (map (operand_value s) tests) (operand_value u (Const
    (pos 0)))) base
    (Const (pos 0)) d d old old) (sym is)
    (record {
      between = tt;
      computes = computes-none (λ s u. IsDefault None (map (operand_value s) tests) (operand_value u (Const
          (pos 0)))) d old
          (λ t. refl);
    })

pub default-some : (base : ℕ) (low high : Types) (old new : List Node) (tests : List Operand) (other :
    Option ℕ) (at : ℕ)
    (flag : Operand) → other ≡ Some at
    → MakesFrom (λ s u. IsNone (map (operand_value s) tests) (operand_value u flag)) base flag low high old
    new
    → MakesFrom (λ s u. IsDefault other (map (operand_value s) tests) (operand_value u flag)) base flag low
    high old new
default-some base low high old new tests other at flag is made =
    subst (λ other. MakesFrom (λ s u. IsDefault other (map (operand_value s) tests) (operand_value u flag))
    base flag
    low high old new) (sym is) (record { between = made.between; computes = made.computes })

default-is : (other : Option ℕ) (zs : List ℤ) (bs : List Bool) (flag : ℤ) → zs ≡ map truth bs → IsDefault
    other zs flag
    → flag ≡ truth (is_default other bs)
default-is None zs bs flag is h = h
default-is (Some at) zs bs flag is h = h (subst AreFlags (sym is) (flags-truths bs))
    ∙ ap (λ zs. truth (not (list_any is_set zs))) is ∙ ap (λ b. truth (not b)) (any-truths bs)

default-same : (other : Option ℕ) (bs : List Bool) (place : ℕ)
    → (stands_at other place && is_default other bs) ≡ (stands_at other place && not (list_any (λ b. b) bs))
default-same None bs place = refl
default-same (Some at) bs place = refl

-- ALL PLACES

module _ (starts : List Start) (other : Option ℕ) (a : Operand) (base : ℕ) where
  abbrev pub Entered : ℕ → List Operand → Operand → List Operand → Operand → Types → Types → List Node →
      List Node → Type 0
  Entered count tests none flags flag = MakesEntered starts other a count base tests none flags flag

  -- none yet
  pub entered-none : (low mid high : Types) (old out new : List Node) (tests : List Operand) (none : Operand)
      (flags : List Operand) (flag : Operand) → flags ≡ [] → flag ≡ Const (pos 0)
      → MakesFlags (λ s. tests_of starts (operand_value s a)) base tests low mid old out
      → MakesFrom (λ s u. IsDefault other (map (operand_value s) tests) (operand_value u none)) base none
      mid high out new
      → Entered 0 tests none flags flag low high old new
  entered-none low mid high old out new tests none flags flag no_flags never made more =
      subst (λ flag. Entered 0 tests none flags flag low high old new) (sym never)
      (subst (λ flags. Entered 0 tests none flags (Const (pos 0)) low high old new) (sym no_flags) (record {
        between = (
          tt,
          (
            more.between,
            are-between-more base (length mid.vars) (length high.vars) tests
                more.computes.grows.vars made.between,
          ),
        );
        flags_between = tt;
        computes = computes-then (λ s u. map (operand_value u) tests ≡ map truth (tests_of starts
            (operand_value s a)))
            (λ s u. IsDefault other (map (operand_value s) tests) (operand_value u none))
            (λ s u. AreEntered starts other (operand_value s a) 0 (map (operand_value u) tests)
            (operand_value u none)
            [] (pos 0)) low mid high old out new made.computes more.computes
            (λ t u v first same second still.
            let bs : List Bool = tests_of starts (operand_value t a) in
            record {
              are_tests = operands-still base (length mid.vars) tests u v still made.between ∙ first;
              is_none = default-is other (map (operand_value u) tests) bs (operand_value v none) first second;
              are_flags = refl;
              is_flag = ap truth (sym (before-first (label_at starts (operand_value t a) other)));
            });
      }))

  -- one more
  pub entered-more : (count : ℕ) (low mid high : Types) (old out new : List Node) (tests : List Operand)
      (none : Operand)
      (flags : List Operand) (flag next : Operand) → values_differ (map (λ (s : Start). s.value) starts) ≡
      true
      → Entered count tests none flags flag low mid old out
      → MakesFrom (λ s u. IsJoined starts other count (map (operand_value s) tests) (operand_value s none)
      (operand_value s flag) (operand_value u next)) base next mid high out new
      → Entered (count + 1) tests none (flags ++ next ∷ []) next low high old new
  entered-more count low mid high old out new tests none flags flag next differ made more =
      let grows = more.computes.grows.vars in
      record {
        between = (
          more.between,
          are-between-more base (length mid.vars) (length high.vars) (none ∷ tests)
              grows made.between.1,
        );
        flags_between = are-between-push base (length high.vars) flags next
            (are-between-more base (length mid.vars) (length high.vars) flags grows made.flags_between)
            more.between;
        computes = computes-then
            (λ s u. AreEntered starts other (operand_value s a) count (map (operand_value u) tests)
            (operand_value u none)
            (map (operand_value u) flags) (operand_value u flag))
            (λ s u. IsJoined starts other count (map (operand_value s) tests) (operand_value s none)
            (operand_value s flag) (operand_value u next))
            (λ s u. AreEntered starts other (operand_value s a) (count + 1) (map (operand_value u) tests)
            (operand_value u none) (map (operand_value u) (flags ++ next ∷ [])) (operand_value u next))
            low mid high old out new made.computes more.computes
            (λ t u v first same second still.
            let z : ℤ = operand_value t a in
            let bs : List Bool = tests_of starts z in
            let n : Bool = is_default other bs in
            let label : Option ℕ = label_at starts z other in
            let next_is : operand_value v next ≡ truth (is_entered label count) =
            second (
              flag-is (operand_value u flag) (is_before label count) first.is_flag,
              (
                flag-is (operand_value u none) n first.is_none,
                subst AreFlags (sym first.are_tests)
                    (flags-truths bs),
              ),
            )
            ∙ (λ i. truth (((ap is_set first.is_flag ∙ set-truth (is_before label count)) i
            || some_start starts ((ap (map is_set) first.are_tests ∙ sets-truths bs) i) count)
            || (stands_at other count && (ap is_set first.is_none ∙ set-truth n) i)))
            ∙ ap (λ b. truth ((is_before label count || some_start starts bs count) || b)) (default-same
            other bs count)
            ∙ ap truth (joined-is starts other z count differ) in
            record {
              are_tests = operands-still base (length mid.vars) tests u v still made.between.1.1 ∙
                  first.are_tests;
              is_none = operand-still base (length mid.vars) none u v still made.between.1.0 ∙ first.is_none;
              are_flags = map_push (operand_value v) flags next
                  ∙ (λ i. (operands-still base (length mid.vars) flags u v still made.flags_between ∙
                  first.are_flags) i
                  ++ next_is i ∷ [])
                  ∙ sym (ap (map truth) (flags-next label count)
                  ∙ map_push truth (entry_flags label 0 count) (is_entered label count));
              is_flag = next_is ∙ ap truth (sym (before-next label count));
            });
      }

  pub entered-all : (count : ℕ) (low high : Types) (old new : List Node) (tests : List Operand) (none :
      Operand)
      (flags : List Operand) (flag : Operand) → Entered count tests none flags flag low high old new
      → MakesFlags (λ s. entry_flags (label_at starts (operand_value s a) other) 0 count) base flags low
      high old new
  entered-all count low high old new tests none flags flag made = record {
    between = made.flags_between;
    computes = computes-as
        (λ s u. AreEntered starts other (operand_value s a) count (map (operand_value u) tests)
        (operand_value u none)
        (map (operand_value u) flags) (operand_value u flag))
        (λ s u. map (operand_value u) flags ≡ map truth (entry_flags (label_at starts (operand_value s a)
        other) 0 count))
        low high old new (λ t u still told. told.are_flags) made.computes;
  }
