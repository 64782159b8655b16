-- Laws of satisfaction and cost.

use Rattle.std.proofs.Common.{◌≡◌, ◌≢◌, ℕ, ◌+◌, ◌<◌, ◌≤◌, Bool, true, false, not, ◌&&◌, ◌||◌, List, [], ◌∷◌, ◌++◌, refl, ap, arith, sym, ◌∙◌, cond, add_assoc}
use Rattle.std.proofs.lemmas.Bool.Decides.{nat_tests}
use mathlib.Core.Bool.{or_assoc, and_assoc}
use Rattle.ba_lits.specs.Literals.{Literal, negate}
use Rattle.ba_lits.specs.Satisfaction.{Assignment, signed, lit_true, any_true, all_true, Soft, cost, Agree, put}

-- the variables of a clause are below a number
abbrev pub ClauseBelow : ℕ → List Literal → Type 0
ClauseBelow n [] = Unit {0}
ClauseBelow n (l ∷ ls) = (l.variable < n) × ClauseBelow n ls

-- the variables of each clause are below a number
abbrev pub ClausesBelow : ℕ → List (List Literal) → Type 0
ClausesBelow n [] = Unit {0}
ClausesBelow n (c ∷ cs) = ClauseBelow n c × ClausesBelow n cs

-- the variables of the soft literals are below a number
abbrev pub SoftsBelow : ℕ → List Soft → Type 0
SoftsBelow n [] = Unit {0}
SoftsBelow n (s ∷ ss) = (s.0.variable < n) × SoftsBelow n ss

pub signed-not : (s b : Bool) → signed (not s) b ≡ not (signed s b)
signed-not true true = refl
signed-not true false = refl
signed-not false b = refl

-- the negation of a literal has the other value
pub lit_true-negate : (v : Assignment) (l : Literal) → lit_true v (negate l) ≡ not (lit_true v l)
lit_true-negate v l = signed-not l.negated (v l.variable)

-- assignments that agree give the same values
pub lit_true-agree : (n : ℕ) (v w : Assignment) (l : Literal) → Agree n v w → l.variable < n → lit_true v l ≡ lit_true w l
lit_true-agree n v w l same below = ap (signed l.negated) (same l.variable below)

pub any_true-agree : (n : ℕ) (v w : Assignment) (c : List Literal) → Agree n v w → ClauseBelow n c → any_true v c ≡ any_true w c
any_true-agree n v w [] same below = refl
any_true-agree n v w (l ∷ ls) same below =
    ap (λ b. b || any_true v ls) (lit_true-agree n v w l same below.0) ∙ ap (λ b. lit_true w l || b) (any_true-agree n v w ls same below.1)

pub all_true-agree : (n : ℕ) (v w : Assignment) (cs : List (List Literal)) → Agree n v w → ClausesBelow n cs → all_true v cs ≡ all_true w cs
all_true-agree n v w [] same below = refl
all_true-agree n v w (c ∷ cs) same below =
    ap (λ b. b && all_true v cs) (any_true-agree n v w c same below.0) ∙ ap (λ b. any_true w c && b) (all_true-agree n v w cs same below.1)

pub cost-agree : (n : ℕ) (v w : Assignment) (ss : List Soft) → Agree n v w → SoftsBelow n ss → cost v ss ≡ cost w ss
cost-agree n v w [] same below = refl
cost-agree n v w (s ∷ ss) same below =
    ap (λ b. cond b 0 s.1 + cost v ss) (lit_true-agree n v w s.0 same below.0) ∙ ap (λ k. cond (lit_true w s.0) 0 s.1 + k) (cost-agree n v w ss same below.1)

-- lists joined end to end
pub any_true-append : (v : Assignment) (c d : List Literal) → any_true v (c ++ d) ≡ (any_true v c || any_true v d)
any_true-append v [] d = refl
any_true-append v (l ∷ ls) d = ap (λ b. lit_true v l || b) (any_true-append v ls d)
    ∙ sym (or_assoc (lit_true v l) (any_true v ls) (any_true v d))

pub all_true-append : (v : Assignment) (cs ds : List (List Literal)) → all_true v (cs ++ ds) ≡ (all_true v cs && all_true v ds)
all_true-append v [] ds = refl
all_true-append v (c ∷ cs) ds = ap (λ b. any_true v c && b) (all_true-append v cs ds)
    ∙ sym (and_assoc (any_true v c) (all_true v cs) (all_true v ds))

pub cost-append : (v : Assignment) (ss ts : List Soft) → cost v (ss ++ ts) ≡ cost v ss + cost v ts
cost-append v [] ts = omega arith
cost-append v (s ∷ ss) ts =
    ap (λ k. cond (lit_true v s.0) 0 s.1 + k) (cost-append v ss ts) ∙ sym (add_assoc (cond (lit_true v s.0) 0 s.1) (cost v ss) (cost v ts))

-- the bounds rise, and hold of lists joined end to end
pub ClauseBelow-more : (m n : ℕ) (c : List Literal) → m ≤ n → ClauseBelow m c → ClauseBelow n c
ClauseBelow-more m n [] le below = tt
ClauseBelow-more m n (l ∷ ls) le below = (omega (arith, le, below.0), ClauseBelow-more m n ls le below.1)

pub ClausesBelow-more : (m n : ℕ) (cs : List (List Literal)) → m ≤ n → ClausesBelow m cs → ClausesBelow n cs
ClausesBelow-more m n [] le below = tt
ClausesBelow-more m n (c ∷ cs) le below = (ClauseBelow-more m n c le below.0, ClausesBelow-more m n cs le below.1)

pub SoftsBelow-more : (m n : ℕ) (ss : List Soft) → m ≤ n → SoftsBelow m ss → SoftsBelow n ss
SoftsBelow-more m n [] le below = tt
SoftsBelow-more m n (s ∷ ss) le below = (omega (arith, le, below.0), SoftsBelow-more m n ss le below.1)

pub ClausesBelow-append : (n : ℕ) (cs ds : List (List Literal)) → ClausesBelow n cs → ClausesBelow n ds → ClausesBelow n (cs ++ ds)
ClausesBelow-append n [] ds first second = second
ClausesBelow-append n (c ∷ cs) ds first second = (first.0, ClausesBelow-append n cs ds first.1 second)

pub SoftsBelow-append : (n : ℕ) (ss ts : List Soft) → SoftsBelow n ss → SoftsBelow n ts → SoftsBelow n (ss ++ ts)
SoftsBelow-append n [] ts first second = second
SoftsBelow-append n (s ∷ ss) ts first second = (first.0, SoftsBelow-append n ss ts first.1 second)

-- a changed assignment, at the variable and elsewhere
pub put_here : (v : Assignment) (x : ℕ) (b : Bool) → put v x b x ≡ b
put_here v x b = grind (arith, nat_tests)

pub put_there : (v : Assignment) (x : ℕ) (b : Bool) (u : ℕ) → u ≢ x → put v x b u ≡ v u
put_there v x b u other = grind (arith, nat_tests)

pub Agree-put : (n : ℕ) (v : Assignment) (x : ℕ) (b : Bool) → n ≤ x → Agree n v (put v x b)
Agree-put n v x b le u below = sym (put_there v x b u (omega arith))
