-- Code of flags, put together.
use Rattle.std.proofs.Common.{◌≡◌, ℕ, zero, suc, ◌+◌, ◌<◌, ◌≤◌, ℤ, pos, Bool, true, false, not, ◌||◌, Some, List, [], ◌∷◌, ◌++◌, map, length, get_or, refl, sym, ◌∙◌, ap, subst, arith, append-nil}
use Rattle.std.specs.Prelude.{bit_or}
use Rattle.std.specs.List.{list_any}
use Rattle.std.specs.Ordering.{int_eq}
use Rattle.std.proofs.lemmas.List.{map_push}
use Rattle.ba_code.proofs.Rows.{run-append, run-none}
use Rattle.ba_code.specs.Meaning.{InTurns, Setting, run_nodes}
use Rattle.ba_code.specs.Operators.{Operators, plain}
use Rattle.ba_code.specs.State.{CodeEnding, CodeState, operand_value, or_trap_at, set_variable, with_variable}
use Rattle.ba_code.specs.Types.{Types}
use Rattle.ba_code.specs.declared.nodes.Node.{Node}
use Rattle.ba_code.specs.declared.nodes.Operand.{Operand}
use Rattle.ba_code.specs.declared.nodes.Operand.TheVariants.{Const, Var}
use Rattle.ba_inline.proofs.Joining.{joined}
use Rattle.ba_inline.proofs.Keeping.{grows-same, grows-then, grows-var, with_var-length}
use Rattle.ba_inline.proofs.Seeing.{at-other, at-self}
use Rattle.ba_inline.specs.Adding.{binary_act, unary_act}
use Rattle.ba_inline.specs.Declarations.{with_var}
use Rattle.ba_inline.specs.Flags.{AreBetween, AreFlags, Computes, IsAny, IsBetween, IsEither, IsFlag, IsLater, IsNone, MakesFlag, MakesFlags, MakesFrom, is_set}
use Rattle.ba_inline.specs.Labels.{tests_of}
use Rattle.ba_inline.specs.Making.{Adds}
use Rattle.ba_inline.specs.Names.{IsBelow}
use Rattle.ba_numbers.proofs.Conversions.{truth_converted}
use Rattle.ba_numbers.specs.Numbers.{converted, low_word, truth, value_of, value_of_one}
use Rattle.ba_numbers.specs.declared.ids.StmtId.{StmtId}
use Rattle.ba_numbers.specs.declared.numbers.BinOp.{BinOp}
use Rattle.ba_numbers.specs.declared.numbers.BinOp.TheVariants.{Eq, Or}
use Rattle.ba_numbers.specs.declared.numbers.UnOp.TheVariants.{IsZero}
use Rattle.ba_numbers.specs.declared.numbers.CType.{CType}
use Rattle.ba_numbers.specs.declared.numbers.CType.TheVariants.{I32}
use Rattle.ba_tree.specs.Acts.{after_part, then_do}
use Rattle.ba_tree.specs.declared.run.Flow.{Flow}
use Rattle.ba_tree.specs.declared.tree.Start.{Start}

abbrev pub Told : Type 1
Told = CodeState → CodeState → Type 0

-- FLAGS

pub set-truth : (b : Bool) → is_set (truth b) ≡ b
set-truth true = refl
set-truth false = refl

pub flag-truth : (b : Bool) → IsFlag (truth b)
flag-truth b = ap truth (set-truth b)

pub flag-is : (z : ℤ) (b : Bool) → z ≡ truth b → IsFlag z
flag-is z b is = subst IsFlag (sym is) (flag-truth b)

pub flags-truths : (bs : List Bool) → AreFlags (map truth bs)
flags-truths [] = tt
flags-truths (b ∷ bs) = (flag-truth b, flags-truths bs)

pub sets-truths : (bs : List Bool) → map is_set (map truth bs) ≡ bs
sets-truths [] = refl
sets-truths (b ∷ bs) = λ i. set-truth b i ∷ sets-truths bs i

pub any-truths : (bs : List Bool) → list_any is_set (map truth bs) ≡ list_any (λ b. b) bs
any-truths [] = refl
any-truths (b ∷ bs) = λ i. set-truth b i || any-truths bs i

pub flags-front : (zs ws : List ℤ) → AreFlags (zs ++ ws) → AreFlags zs
flags-front [] ws h = tt
flags-front (z ∷ zs) ws h = (h.0, flags-front zs ws h.1)

pub flags-back : (zs ws : List ℤ) → AreFlags (zs ++ ws) → AreFlags ws
flags-back [] ws h = h
flags-back (z ∷ zs) ws h = flags-back zs ws h.1

-- an operator over flags
abbrev or_of : ℤ → ℤ → ℤ
or_of y z = converted I32 (pos (bit_or (low_word y) (low_word z)))

or-some : (y z : ℤ) → value_of Or I32 y z ≡ Some (or_of y z)
unfolding value_of
or-some y z = refl

or-truth : (b c : Bool) → or_of (truth b) (truth c) ≡ truth (b || c)
unfolding converted
or-truth true true = refl
or-truth true false = refl
or-truth false true = refl
or-truth false false = refl

or-flags : (y z : ℤ) → IsFlag y → IsFlag z → or_of y z ≡ truth (is_set y || is_set z)
or-flags y z h k = (λ i. or_of (sym h i) (sym k i)) ∙ or-truth (is_set y) (is_set z)

equal-some : (t : CType) (y z : ℤ) → value_of Eq t y z ≡ Some (truth (int_eq y z))
unfolding value_of
equal-some t y z = ap Some (truth_converted t (int_eq y z))

zero-is : (t : CType) (z : ℤ) → value_of_one IsZero t z ≡ truth (int_eq z (pos 0))
unfolding value_of_one
zero-is t z = refl

not-set : (z : ℤ) → int_eq z (pos 0) ≡ not (is_set z)
not-set z = twice (int_eq z (pos 0))
  where
    twice : (b : Bool) → b ≡ not (not b)
    twice true = refl
    twice false = refl

-- OPERANDS between two numbers

pub between-more : (base m n : ℕ) (o : Operand) → m ≤ n → IsBetween base m o → IsBetween base n o
between-more base m n (Const z) le h = tt
between-more base m n (Var k) le h = (h.0, omega (arith, h.1, le))

pub are-between-more : (base m n : ℕ) (os : List Operand) → m ≤ n → AreBetween base m os → AreBetween base
    n os
are-between-more base m n [] le h = tt
are-between-more base m n (o ∷ os) le h = (
  between-more base m n o le h.0,
  are-between-more base m n os le
      h.1,
)

pub are-between-push : (base n : ℕ) (os : List Operand) (o : Operand) → AreBetween base n os → IsBetween
    base n o
    → AreBetween base n (os ++ o ∷ [])
are-between-push base n [] o h one = (one, tt)
are-between-push base n (p ∷ os) o h one = (h.0, are-between-push base n os o h.1 one)

pub between-at : (base n : ℕ) (os : List Operand) (i : ℕ) (o d : Operand) → AreBetween base n os → i <
    length os
    → o ≡ get_or os i d → IsBetween base n o
between-at base n [] i o d h within is = absurd (omega arith)
between-at base n (p ∷ os) zero o d h within is = subst (IsBetween base n) (sym is) h.0
between-at base n (p ∷ os) (suc i) o d h within is = between-at base n os i o d h.1 (omega (arith, within)) is

-- what stays keeps its value
pub operand-still : (base n : ℕ) (o : Operand) (t u : CodeState)
    → ((k : ℕ) → k < n → u.variables k ≡ t.variables k) → IsBetween base n o → operand_value u o ≡
    operand_value t o
operand-still base n (Const z) t u same h = refl
operand-still base n (Var k) t u same h = same k h.1

pub operands-still : (base n : ℕ) (os : List Operand) (t u : CodeState)
    → ((k : ℕ) → k < n → u.variables k ≡ t.variables k) → AreBetween base n os
    → map (operand_value u) os ≡ map (operand_value t) os
operands-still base n [] t u same h = refl
operands-still base n (o ∷ os) t u same h =
    λ i. operand-still base n o t u same h.0 i ∷ operands-still base n os t u same h.1 i

-- an operand that is no variable declared later keeps its value
pub below-still : (n : ℕ) (o : Operand) (t u : CodeState)
    → ((k : ℕ) → k < n → u.variables k ≡ t.variables k) → IsBelow n o → operand_value u o ≡ operand_value t o
below-still n (Const z) t u same h = refl
below-still n (Var k) t u same h = same k h

pub any-push : (zs : List ℤ) (z : ℤ) → (list_any is_set zs || is_set z) ≡ list_any is_set (zs ++ z ∷ [])
any-push [] z = sym (or-false-right (is_set z))
  where
    or-false-right : (b : Bool) → (b || false) ≡ b
    or-false-right true = refl
    or-false-right false = refl
any-push (y ∷ zs) z = or-assoc (is_set y) (list_any is_set zs) (is_set z)
    ∙ ap (λ b. is_set y || b) (any-push zs z)
  where
    or-assoc : (a b c : Bool) → ((a || b) || c) ≡ (a || (b || c))
    or-assoc true b c = refl
    or-assoc false b c = refl

-- NO CODE, and one code after another

pub computes-none : (told : Told) (d : Types) (old : List Node) → ((t : CodeState) → told t t) → Computes
    told d d old old
computes-none told d old tells = record {
  nodes = [];
  is = sym (append-nil old);
  grows = grows-same d;
  runs = λ g turns t is. record {
    behind = t;
    on = run-none g turns t;
    variables = λ n below. refl;
    arrays = refl;
    choices = refl;
    tells = tells t;
  };
}

-- what both tell, by the state between them
pub computes-then : (first second whole : Told) (low mid high : Types) (old out new : List Node)
    → Computes first low mid old out → Computes second mid high out new
    → ((t u v : CodeState) → first t u → ((n : ℕ) → n < length low.vars → u.variables n ≡ t.variables n)
    → second u v → ((n : ℕ) → n < length mid.vars → v.variables n ≡ u.variables n) → whole t v)
    → Computes whole low high old new
computes-then first second whole low mid high old out new one two both = record {
  nodes = one.nodes ++ two.nodes;
  is = joined old out new one.nodes two.nodes one.is two.is;
  grows = grows-then low mid high one.grows two.grows;
  runs = λ g turns t is.
      let a = one.runs g turns t is in
      let b = two.runs g turns a.behind is in
      record {
        behind = b.behind;
        on = run-append g turns t one.nodes two.nodes
            ∙ ap (λ (e : CodeEnding (Flow ℕ)). then_do e (after_part (run_nodes g two.nodes turns))) a.on ∙
            b.on;
        variables = λ n below. b.variables n (omega (arith, below, one.grows.vars)) ∙ a.variables n below;
        arrays = b.arrays ∙ a.arrays;
        choices = b.choices ∙ a.choices;
        tells = both t a.behind b.behind a.tells a.variables b.tells b.variables;
      };
}

-- the same told in another way
pub computes-as : (told other : Told) (low high : Types) (old new : List Node)
    → ((t u : CodeState) → ((n : ℕ) → n < length low.vars → u.variables n ≡ t.variables n) → told t u →
    other t u)
    → Computes told low high old new → Computes other low high old new
computes-as told other low high old new more made = record {
  nodes = made.nodes;
  is = made.is;
  grows = made.grows;
  runs = λ g turns t is.
      let a = made.runs g turns t is in
      record {
        behind = a.behind;
        on = a.on;
        variables = a.variables;
        arrays = a.arrays;
        choices = a.choices;
        tells = more t a.behind a.variables a.tells;
      };
}

-- A NODE that sets a fresh variable

module _ (low : Types) (old new : List Node) (to : ℕ) (ty : CType) (is_to : to ≡ length low.vars) where
  pub fresh-between : (base : ℕ) → base ≤ length low.vars → IsBetween base (length (with_var ty low).vars)
      (Var to)
  fresh-between base le = let e : length (with_var ty low).vars ≡ length low.vars + 1 = with_var-length ty
      low in
      (omega (arith, le, is_to), omega (arith, e, is_to))

  -- what it sets the variable to
  pub computes-set : (act : Setting → InTurns) (value : CodeState → ℤ) → Adds old new act
      → ((g : Setting) (turns : List ℕ) (t : CodeState) → g.operators ≡ plain
      → act g turns t ≡ set_variable to (value t) t)
      → Computes (λ t u. operand_value u (Var to) ≡ value t) low (with_var ty low) old new
  computes-set act value added sets = record {
    nodes = added.nodes;
    is = added.is;
    grows = grows-var ty low;
    runs = λ g turns t is. record {
      behind = with_variable to (value t) t;
      on = added.runs g turns t ∙ sets g turns t is;
      variables = λ n below. at-other t.variables to n (value t) (λ same. absurd (omega (
        arith,
        below,
        is_to,
        same,
      )));
      arrays = refl;
      choices = refl;
      tells = at-self t.variables to (value t);
    };
  }

  -- the value of a binary operator that has one
  binary-sets : (op : BinOp) (t : CType) (a b : Operand) (stmt : StmtId) (value : ℤ) (g : Setting) (turns :
      List ℕ)
      (s : CodeState) → g.operators ≡ plain → value_of op t (operand_value s a) (operand_value s b) ≡ Some
      value
      → binary_act to op t a b stmt g turns s ≡ set_variable to value s
  binary-sets op t a b stmt value g turns s is has =
      ap (λ (o : Operators). then_do (or_trap_at stmt (o.binary op t (operand_value s a) (operand_value s
      b)) s)
      (set_variable to)) is
      ∙ ap (λ z. then_do (or_trap_at stmt z s) (set_variable to)) has

  -- whether an operand has a value
  pub makes-equals : (base : ℕ) (t : CType) (a : Operand) (value : ℤ) (stmt : StmtId) → base ≤ length low.vars
      → Adds old new (binary_act to Eq t (Const value) a stmt)
      → MakesFlag (λ s. int_eq value (operand_value s a)) base (Var to) low (with_var ty low) old new
  makes-equals base t a value stmt le added = record {
    between = fresh-between base le;
    computes = computes-set (binary_act to Eq t (Const value) a stmt) (λ s. truth (int_eq value
        (operand_value s a))) added
        (λ g turns s is. binary-sets Eq t (Const value) a stmt (truth (int_eq value (operand_value s a))) g
        turns s is
        (equal-some t value (operand_value s a)));
  }

  -- whether one of two flags is set
  pub makes-either : (base : ℕ) (a b : Operand) (stmt : StmtId) → base ≤ length low.vars
      → Adds old new (binary_act to Or I32 a b stmt)
      → MakesFrom (λ s u. IsEither (operand_value s a) (operand_value s b) (operand_value u (Var to))) base
      (Var to)
      low (with_var ty low) old new
  makes-either base a b stmt le added = record {
    between = fresh-between base le;
    computes = computes-as
        (λ s u. operand_value u (Var to) ≡ or_of (operand_value s a) (operand_value s b))
        (λ s u. IsEither (operand_value s a) (operand_value s b) (operand_value u (Var to)))
        low (with_var ty low) old new
        (λ s u still told h k. told ∙ or-flags (operand_value s a) (operand_value s b) h k)
        (computes-set (binary_act to Or I32 a b stmt) (λ s. or_of (operand_value s a) (operand_value s b))
        added
        (λ g turns s is. binary-sets Or I32 a b stmt (or_of (operand_value s a) (operand_value s b)) g
        turns s is
        (or-some (operand_value s a) (operand_value s b))));
  }

  -- whether an operand is 0
  pub computes-zero : (t : CType) (a : Operand) → Adds old new (unary_act to IsZero t a)
      → Computes (λ s u. operand_value u (Var to) ≡ truth (not (is_set (operand_value s a)))) low (with_var
      ty low) old new
  computes-zero t a added = computes-set (unary_act to IsZero t a) (λ s. truth (not (is_set (operand_value
      s a)))) added
      (λ g turns s is. ap (λ (o : Operators). set_variable to (o.unary IsZero t (operand_value s a)) s) is
      ∙ ap (λ z. set_variable to z s) (zero-is t (operand_value s a) ∙ ap truth (not-set (operand_value s
      a))))

-- WITHOUT A NODE

-- a flag or 0
pub either-never : (base : ℕ) (d : Types) (old : List Node) (a b : Operand) → a ≡ Const (pos 0)
    → IsBetween base (length d.vars) b
    → MakesFrom (λ s u. IsEither (operand_value s a) (operand_value s b) (operand_value u b)) base b d d
    old old
either-never base d old a b is between = record {
  between = between;
  computes = computes-none (λ s u. IsEither (operand_value s a) (operand_value s b) (operand_value u b)) d old
      (λ t. subst (λ a. IsEither (operand_value t a) (operand_value t b) (operand_value t b)) (sym is)
      (λ h k. sym k));
}

-- where it holds or not
pub later-true : (base : ℕ) (low high : Types) (old new : List Node) (a b flag : Operand) (holds : Bool) →
    holds ≡ true
    → MakesFrom (λ s u. IsEither (operand_value s a) (operand_value s b) (operand_value u flag)) base flag
    low high old new
    → MakesFrom (λ s u. IsLater holds (operand_value s a) (operand_value s b) (operand_value u flag)) base
    flag
    low high old new
later-true base low high old new a b flag holds is made =
    subst (λ holds. MakesFrom (λ s u. IsLater holds (operand_value s a) (operand_value s b) (operand_value
    u flag)) base flag
    low high old new) (sym is)
    (record { between = made.between; computes = made.computes })

pub later-false : (base : ℕ) (d : Types) (old : List Node) (a b : Operand) (holds : Bool) → holds ≡ false
    → IsBetween base (length d.vars) a
    → MakesFrom (λ s u. IsLater holds (operand_value s a) (operand_value s b) (operand_value u a)) base a d
    d old old
later-false base d old a b holds is between =
    subst (λ holds. MakesFrom (λ s u. IsLater holds (operand_value s a) (operand_value s b) (operand_value
    u a)) base a
    d d old old) (sym is)
    (record {
      between = between;
      computes = computes-none (λ s u. IsLater false (operand_value s a) (operand_value s b) (operand_value
          u a)) d old
          (λ t h k. sym h ∙ ap truth (sym (or-false (is_set (operand_value t a)))));
    }) where
      or-false : (b : Bool) → (b || false) ≡ b
      or-false true = refl
      or-false false = refl

-- ROWS OF TESTS

pub tests-none : (base : ℕ) (d : Types) (old : List Node) (a : Operand)
    → MakesFlags (λ s. tests_of [] (operand_value s a)) base [] d d old old
tests-none base d old a = record {
  between = tt;
  computes = computes-none (λ s u. map (operand_value u) [] ≡ map truth (tests_of [] (operand_value s a)))
      d old
      (λ t. refl);
}

pub tests-more : (base : ℕ) (low mid high : Types) (old out new : List Node) (starts : List Start) (start :
    Start)
    (value : ℤ) (a : Operand) (flags : List Operand) (flag : Operand) → value ≡ start.value → IsBelow
    (length low.vars) a
    → MakesFlags (λ s. tests_of starts (operand_value s a)) base flags low mid old out
    → MakesFlag (λ s. int_eq value (operand_value s a)) base flag mid high out new
    → MakesFlags (λ s. tests_of (starts ++ start ∷ []) (operand_value s a)) base (flags ++ flag ∷ []) low
    high old new
tests-more base low mid high old out new starts start value a flags flag is_value below made one = record {
  between = are-between-push base (length high.vars) flags flag
      (are-between-more base (length mid.vars) (length high.vars) flags one.computes.grows.vars
      made.between) one.between;
  computes = computes-then (λ s u. map (operand_value u) flags ≡ map truth (tests_of starts (operand_value
      s a)))
      (λ s u. operand_value u flag ≡ truth (int_eq value (operand_value s a)))
      (λ s u. map (operand_value u) (flags ++ flag ∷ []) ≡ map truth (tests_of (starts ++ start ∷ [])
      (operand_value s a)))
      low mid high old out new made.computes one.computes
      (λ t u v first same second still.
      let own : operand_value u a ≡ operand_value t a = below-still (length low.vars) a t u same below in
      map_push (operand_value v) flags flag
      ∙ (λ i. (operands-still base (length mid.vars) flags u v still made.between ∙ first) i
      ++ (second ∙ (λ j. truth (int_eq (is_value j) (own j)))) i ∷ [])
      ∙ sym (ap (map truth) (map_push (λ (s : Start). int_eq s.value (operand_value t a)) starts start)
      ∙ map_push truth (tests_of starts (operand_value t a)) (int_eq start.value (operand_value t a))));
}

-- ONE OF A ROW

pub any-none : (base : ℕ) (d : Types) (old : List Node)
    → MakesFrom (λ s u. IsAny (map (operand_value s) []) (operand_value u (Const (pos 0)))) base (Const
    (pos 0)) d d old old
any-none base d old = record {
  between = tt;
  computes = computes-none (λ s u. IsAny (map (operand_value s) []) (operand_value u (Const (pos 0)))) d old
      (λ t h. refl);
}

pub any-more : (base : ℕ) (low mid high : Types) (old out new : List Node) (flags : List Operand)
    (flag any next : Operand) → IsBetween base (length low.vars) flag
    → MakesFrom (λ s u. IsAny (map (operand_value s) flags) (operand_value u any)) base any low mid old out
    → MakesFrom (λ s u. IsEither (operand_value s any) (operand_value s flag) (operand_value u next)) base
    next
    mid high out new
    → MakesFrom (λ s u. IsAny (map (operand_value s) (flags ++ flag ∷ [])) (operand_value u next)) base next
    low high old new
any-more base low mid high old out new flags flag any next one made more = record {
  between = more.between;
  computes = computes-then (λ s u. IsAny (map (operand_value s) flags) (operand_value u any))
      (λ s u. IsEither (operand_value s any) (operand_value s flag) (operand_value u next))
      (λ s u. IsAny (map (operand_value s) (flags ++ flag ∷ [])) (operand_value u next))
      low mid high old out new made.computes more.computes
      (λ t u v first same second still are.
      let split : AreFlags (map (operand_value t) flags ++ operand_value t flag ∷ []) =
      subst AreFlags (map_push (operand_value t) flags flag) are in
      let own : operand_value u flag ≡ operand_value t flag =
      operand-still base (length low.vars) flag t u same one in
      let any_is : operand_value u any ≡ truth (list_any is_set (map (operand_value t) flags)) =
      first (flags-front (map (operand_value t) flags) (operand_value t flag ∷ []) split) in
      let last : IsFlag (operand_value t flag) =
      (flags-back (map (operand_value t) flags) (operand_value t flag ∷ []) split).0 in
      second (flag-is (operand_value u any) (list_any is_set (map (operand_value t) flags)) any_is)
      (subst IsFlag (sym own) last)
      ∙ (λ i. truth ((ap is_set any_is ∙ set-truth (list_any is_set (map (operand_value t) flags))) i
      || is_set (own i)))
      ∙ ap truth (any-push (map (operand_value t) flags) (operand_value t flag))
      ∙ ap (λ zs. truth (list_any is_set zs)) (sym (map_push (operand_value t) flags flag)));
}

-- and whether none is set
pub makes-none : (base : ℕ) (low mid high : Types) (old out new : List Node) (flags : List Operand) (any
    flag : Operand)
    → IsBetween base (length high.vars) flag
    → MakesFrom (λ s u. IsAny (map (operand_value s) flags) (operand_value u any)) base any low mid old out
    → Computes (λ s u. operand_value u flag ≡ truth (not (is_set (operand_value s any)))) mid high out new
    → MakesFrom (λ s u. IsNone (map (operand_value s) flags) (operand_value u flag)) base flag low high old
    new
makes-none base low mid high old out new flags any flag between made zeroed = record {
  between = between;
  computes = computes-then (λ s u. IsAny (map (operand_value s) flags) (operand_value u any))
      (λ s u. operand_value u flag ≡ truth (not (is_set (operand_value s any))))
      (λ s u. IsNone (map (operand_value s) flags) (operand_value u flag)) low mid high old out new
      made.computes zeroed
      (λ t u v first same second still are. second
      ∙ ap (λ b. truth (not b)) (ap is_set (first are) ∙ set-truth (list_any is_set (map (operand_value t)
      flags))));
}
