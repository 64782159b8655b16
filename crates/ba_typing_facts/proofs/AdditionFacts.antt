-- What declarations and statements add fits the parts of a program, if they have what is added: how such
-- additions follow each other.
use Rattle.std.proofs.Common.{◌≡◌, ℕ, ◌+◌, ◌≤◌, ◌<◌, Bool, true, not, ◌==◌, List, [], ◌∷◌, ◌++◌, map, length, length-append, refl, sym, ◌∙◌, ap, subst, arith, sum_by}
use Rattle.std.specs.List.{list_all}
use Rattle.std.proofs.lemmas.Bool.{and_from}
use Rattle.std.proofs.lemmas.List.{map-append}
use Rattle.std.proofs.lemmas.List.Folds.{list_all-append}
use Rattle.std.proofs.lemmas.List.Sums.{sum_by-append}
use Rattle.ba_numbers.specs.declared.ids.VarId.{VarId}
use Rattle.ba_tree.specs.Facts.{has_variable, own_elements, is_own_length, is_own_shape}
use Rattle.ba_tree.specs.declared.tree.Function.{Function}
use Rattle.ba_tree.specs.declared.tree.Parts.{Parts}
use Rattle.ba_tree.specs.declared.tree.Variable.{Variable}
use Rattle.ba_typing.specs.Declarations.{Added, ◌and◌, Before, behind, Part, ◌then◌, nothing, in_order, faults_added}
use Rattle.ba_typing.specs.Names.{Scope, knowing, looping, switching}
use Rattle.ba_tree.specs.Trees.{StmtTree}
use Rattle.ba_typing.specs.declared.fault.Fault.{Fault}
use Rattle.ba_typing.specs.declared.meanings.Entry.{Entry}
use Rattle.ba_typing.specs.declared.names.Exits.{Exits}
use Rattle.ba_typing_facts.proofs.FittingFacts.{nil_left, nil_right}
use Rattle.ba_typing_facts.proofs.LeafFacts.{HasAt, has_left, has_right}
use Rattle.ba_typing_facts.proofs.ScopeFacts.{IsScope, AreEntries, entries-append, knowing_is}
use Rattle.ba_typing_facts.proofs.StatementTreeFacts.{stmt_facts_of}
use Rattle.ba_typing_facts.proofs.SequenceFacts.{AreStmts, stmts_none, stmts-append}

-- so many variables from this number on are among these
abbrev pub HasVariables : List VarId → ℕ → ℕ → Type 0
HasVariables vs first count =
    (k : ℕ) → first ≤ k → k < first + count → has_variable vs (record { 0 = k }) ≡ true

pub have_left : (vs : List VarId) (first m n : ℕ) → HasVariables vs first (m + n) → HasVariables vs first m
have_left vs first m n h k low high = h k low (let e : k < first + (m + n) = omega arith in e)

pub have_right : (vs : List VarId) (first m n : ℕ) → HasVariables vs first (m + n) → HasVariables vs
    (first + m) n
have_right vs first m n h k low high =
    h k (let e : first ≤ k = omega arith in e) (let e : k < first + (m + n) = omega arith in e)

-- how many elements these have of their own
abbrev pub elements_of : List Variable → ℕ
elements_of = sum_by (λ (v : Variable). own_elements v.shape)

abbrev pub are_own : List Variable → Bool
are_own = list_all (λ (v : Variable). is_own_shape v.shape)

abbrev pub all_facts_of : Parts → Function → List StmtTree → List Rattle.ba_tree.specs.Facts.StmtFacts
all_facts_of p f = map (stmt_facts_of p f)

-- the arrays among the added variables count
pub record IsCounted (a : Added) : Type 0 where
  pub elements : elements_of a.variables ≡ a.elements
  pub lengths : list_all is_own_length a.variables ≡ true
  pub own : are_own a.variables ≡ true

pub counted-and : (a b : Added) → IsCounted a → IsCounted b → IsCounted (a and b)
counted-and a b h k = record {
  elements = sum_by-append (λ (v : Variable). own_elements v.shape) a.variables b.variables
      ∙ ap (λ m. m + elements_of b.variables) h.elements ∙ ap (λ m. a.elements + m) k.elements;
  lengths = list_all-append is_own_length a.variables b.variables
      ∙ and_from (list_all is_own_length a.variables) (list_all is_own_length b.variables) h.lengths
      k.lengths;
  own = list_all-append (λ (v : Variable). is_own_shape v.shape) a.variables b.variables
      ∙ and_from (are_own a.variables) (are_own b.variables) h.own k.own;
}

-- nothing but faults
pub counted_none : (faults : List Fault) → IsCounted (faults_added faults)
counted_none faults = record { elements = refl; lengths = refl; own = refl }

-- the limits are kept
pub record IsFew (n : Before) (a : Added) : Type 0 where
  pub variables : n.variables ≤ 2000 → n.variables + length a.variables ≤ 2000
  pub statements : n.statements ≤ 4000 → n.statements + length a.statements ≤ 4000
  pub elements : n.elements ≤ 1024 → n.elements + a.elements ≤ 1024

few_more : {A : Type 0} (limit first : ℕ) (xs ys : List A) → (first ≤ limit → first + length xs ≤ limit)
    → (first + length xs ≤ limit → (first + length xs) + length ys ≤ limit)
    → first ≤ limit → first + length (xs ++ ys) ≤ limit
few_more limit first xs ys h k few = let e = length-append xs ys in let last = k (h few) in omega
    (arith, e, last)

pub few-and : (n : Before) (a b : Added) → IsFew n a → IsFew (behind n a) b → IsFew n (a and b)
few-and n a b h k = record {
  variables = few_more 2000 n.variables a.variables b.variables h.variables k.variables;
  statements = few_more 4000 n.statements a.statements b.statements h.statements k.statements;
  elements = λ few. let last = k.elements (h.elements few) in omega (arith, last);
}

pub few_none : (n : Before) (faults : List Fault) → IsFew n (faults_added faults)
few_none n faults = record {
  variables = λ few. omega (arith, few);
  statements = λ few. omega (arith, few);
  elements = λ few. omega (arith, few);
}

-- IN A FUNCTION of a program, or outside
module _ (p : Parts) (owned : List VarId) (f : Function) (inside : Bool) where
  -- the program has what is added after so many; inside a function, its variables are among the function's
  abbrev pub Stands : Before → Added → Type 0
  Stands n a = HasAt p.variables n.variables a.variables × HasAt p.statements n.statements a.statements
      × HasVariables owned n.variables (length a.variables)
      × (inside ≡ true → HasVariables f.locals n.variables (length a.variables))

  counts : (vs : List VarId) (first : ℕ) (a b : Added) → HasVariables vs first (length
      (a.variables ++ b.variables))
      → HasVariables vs first (length a.variables + length b.variables)
  counts vs first a b = subst (HasVariables vs first) (length-append a.variables b.variables)

  pub stands_left : (n : Before) (a b : Added) → Stands n (a and b) → Stands n a
  stands_left n a b h = (
    has_left p.variables n.variables a.variables b.variables h.0,
    has_left p.statements n.statements a.statements b.statements h.1,
    have_left owned n.variables (length a.variables) (length b.variables)
        (counts owned n.variables a b h.2),
    λ is. have_left f.locals n.variables (length a.variables) (length b.variables)
        (counts f.locals n.variables a b (h.3 is)),
  )

  pub stands_right : (n : Before) (a b : Added) → Stands n (a and b) → Stands (behind n a) b
  stands_right n a b h = (
    has_right p.variables n.variables a.variables b.variables h.0,
    has_right p.statements n.statements a.statements b.statements h.1,
    have_right owned n.variables (length a.variables) (length b.variables)
        (counts owned n.variables a b h.2),
    λ is. have_right f.locals n.variables (length a.variables) (length b.variables)
        (counts f.locals n.variables a b (h.3 is)),
  )

  -- the scope agrees with the program, and with the function around
  pub record InScope (scope : Scope) : Type 0 where
    pub sound : IsScope p owned scope
    pub result : scope.result ≡ f.result
    pub place : (scope.depth == 0) ≡ not inside

  pub in_knowing : (entries : List Entry) (scope : Scope) → InScope scope → AreEntries p owned entries
      → InScope (knowing entries scope)
  in_knowing entries scope h k = record {
    sound = knowing_is p owned scope entries h.sound k;
    result = h.result;
    place = h.place;
  }

  pub in_looping : (scope : Scope) → InScope scope → InScope (looping scope)
  in_looping scope h = record {
    sound = record { entries = h.sound.entries; functions = h.sound.functions };
    result = h.result;
    place = h.place;
  }

  pub in_switching : (scope : Scope) → InScope scope → InScope (switching scope)
  in_switching scope h = record {
    sound = record { entries = h.sound.entries; functions = h.sound.functions };
    result = h.result;
    place = h.place;
  }

  -- what is added fits, and keeps the limits
  pub record IsPiece (exits : Exits) (n : Before) (a : Added) : Type 0 where
    pub stmts : AreStmts p owned n.statements (length a.statements) n.calls a.calls exits
        (all_facts_of p f a.stmts)
    pub entries : AreEntries p owned a.entries
    pub few : IsFew n a

  pub piece-and : {exits : Exits} (n : Before) (a b : Added) → IsPiece exits n a → IsPiece exits
      (behind n a) b
      → IsPiece exits n (a and b)
  piece-and {exits} n a b h k = record {
    stmts = subst (AreStmts p owned n.statements (length (a.statements ++ b.statements)) n.calls
        (a.calls + b.calls) exits)
        (sym (map-append (stmt_facts_of p f) a.stmts b.stmts))
        (subst (λ count. AreStmts p owned n.statements count n.calls (a.calls + b.calls) exits
        (all_facts_of p f a.stmts ++ all_facts_of p f b.stmts)) (sym
        (length-append a.statements b.statements))
        (stmts-append p owned h.stmts k.stmts));
    entries = entries-append p owned a.entries b.entries h.entries k.entries;
    few = few-and n a b h.few k.few;
  }

  pub piece_none : {exits : Exits} (n : Before) (faults : List Fault) → IsPiece exits n
      (faults_added faults)
  piece_none {exits} n faults = record {
    stmts = stmts_none p owned n.statements n.calls exits;
    entries = tt;
    few = few_none n faults;
  }

  -- what a part adds in this scope and place
  abbrev pub PieceAt : Part → Scope → Before → Type 0
  PieceAt part scope n = Stands n (part scope n) → (part scope n).faults ≡ []
      → IsPiece scope.exits n (part scope n)

  pub then_at : (first second : Part) (scope : Scope) (n : Before) → InScope scope → PieceAt first scope n
      → (InScope (knowing (first scope n).entries scope)
      → PieceAt second (knowing (first scope n).entries scope) (behind n (first scope n)))
      → PieceAt (first then second) scope n
  then_at first second scope n h first_is second_is stands none =
      let a = first scope n in
      let b = second (knowing a.entries scope) (behind n a) in
      let left = first_is (stands_left n a b stands) (nil_left a.faults b.faults none) in
      piece-and n a b left (second_is (in_knowing a.entries scope h left.entries)
      (stands_right n a b stands) (nil_right a.faults b.faults none))

  -- a part in every scope
  pub record HasPiece (part : Part) : Type 0 where
    pub by : (scope : Scope) → InScope scope → (n : Before) → PieceAt part scope n

  pub piece_then : (first second : Part) → HasPiece first → HasPiece second → HasPiece (first then second)
  piece_then first second h k = record {
    by = λ scope in_scope n. then_at first second scope n in_scope (h.by scope in_scope n)
        (λ behind_first. k.by (knowing (first scope n).entries scope) behind_first (behind n
        (first scope n)));
  }

  pub record IsPart (part : Part) : Type 0 where
    pub piece : HasPiece part
    pub counted : (scope : Scope) (n : Before) → (part scope n).faults ≡ [] → IsCounted (part scope n)

  pub part_then : (first second : Part) → IsPart first → IsPart second → IsPart (first then second)
  part_then first second h k = record {
    piece = piece_then first second h.piece k.piece;
    counted = λ scope n none.
        let a = first scope n in
        let b = second (knowing a.entries scope) (behind n a) in
        counted-and a b (h.counted scope n (nil_left a.faults b.faults none))
        (k.counted (knowing a.entries scope) (behind n a) (nil_right a.faults b.faults none));
  }

  pub part_nothing : IsPart nothing
  part_nothing = record {
    piece = record { by = λ scope in_scope n stands none. piece_none n [] };
    counted = λ scope n none. counted_none [];
  }

  abbrev pub AreParts : List Part → Type 0
  AreParts [] = Unit {0}
  AreParts (part ∷ parts) = IsPart part × AreParts parts

  pub parts_in_order : (parts : List Part) → AreParts parts → IsPart (in_order parts)
  parts_in_order [] h = part_nothing
  parts_in_order (part ∷ parts) h = part_then part (in_order parts) h.0 (parts_in_order parts h.1)
