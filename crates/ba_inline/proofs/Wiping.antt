-- Code that sets variables back to 0 which are read no more.
use Rattle.std.proofs.Common.{◌≡◌, ℕ, ◌<◌, ◌≤◌, ℤ, pos, Bool, Ok, List, [], ◌∷◌, ◌++◌, length, refl, sym, ◌∙◌, ap, subst, arith, append-nil, inl, inr}
use Rattle.std.specs.Prelude.{◌⊎◌}
use Rattle.std.proofs.lemmas.Bool.{cases_eq}
use Rattle.ba_code.proofs.Rows.{run-none}
use Rattle.ba_code.specs.Meaning.{Setting}
use Rattle.ba_code.specs.State.{CodeState, with_at}
use Rattle.ba_code.specs.Types.{Types}
use Rattle.ba_code.specs.declared.nodes.Node.{Node}
use Rattle.ba_code.specs.declared.nodes.Operand.TheVariants.{Const, Var}
use Rattle.ba_inline.proofs.Branches.{adds-then}
use Rattle.ba_inline.proofs.Ends.{then-nothing}
use Rattle.ba_inline.proofs.Homes.{makes-row}
use Rattle.ba_inline.proofs.Joining.{makes-added}
use Rattle.ba_inline.proofs.Keeping.{grows-same, ready-before}
use Rattle.ba_inline.proofs.Seeing.{at-other, at-self, seen-still}
use Rattle.ba_inline.proofs.Statements.{makes-no-code}
use Rattle.ba_inline.specs.Adding.{set_act}
use Rattle.ba_inline.specs.Declarations.{Grows}
use Rattle.ba_inline.specs.Ends.{Meets}
use Rattle.ba_inline.specs.Making.{Adds, Does, Gives, GivesTo, Makes, Part, SameFlow, Standing, reading}
use Rattle.ba_inline.specs.Names.{AreBelow, IsNaming, Names, seen, with_home}
use Rattle.ba_inline.specs.Wiping.{AllMayGo, MayGo, Wipes, wipe_act, wiped, zeroed}
use Rattle.ba_inline.specs.Worlds.{World, code_setting}
use Rattle.ba_inline.specs.declared.frames.Exits.{Exits}
use Rattle.ba_inline.specs.declared.frames.Frame.{Frame}
use Rattle.ba_tree.specs.Acts.{after_part, give}
use Rattle.ba_tree.specs.State.{State, Execution}
use Rattle.ba_tree.specs.declared.run.Exit.{Exit}
use Rattle.ba_tree.specs.declared.run.Flow.{Flow}
use Rattle.ba_tree.specs.declared.run.Flow.TheVariants.{Next, Leaves}
use Rattle.ba_tree.specs.declared.run.Step.{Step}
use Rattle.ba_tree.specs.declared.tree.Program.{Program}

-- VARIABLES

-- one that isn't wiped
stays-apart : (from kept n m : ℕ) → MayGo from kept n → (m < from) ⊎ (m ≡ kept) → m ≡ n → ⊥
stays-apart from kept n m may (inl below) same = absurd (omega (arith, may.0, below, same))
stays-apart from kept n m may (inr is) same = may.1 (sym same ∙ is)

zeroed-other : (from kept : ℕ) (ns : List ℕ) (f : ℕ → ℤ) (m : ℕ) → AllMayGo from kept ns
    → (m < from) ⊎ (m ≡ kept) → zeroed ns f m ≡ f m
zeroed-other from kept [] f m may stays = refl
zeroed-other from kept (n ∷ ns) f m may stays =
    at-other (zeroed ns f) n m (pos 0) (stays-apart from kept n m may.0 stays)
    ∙ zeroed-other from kept ns f m may.1 stays

zeroed-append : (ms ns : List ℕ) (f : ℕ → ℤ) → zeroed (ms ++ ns) f ≡ zeroed ms (zeroed ns f)
zeroed-append [] ns f = refl
zeroed-append (m ∷ ms) ns f = ap (λ f. with_at f m (pos 0)) (zeroed-append ms ns f)

-- values at two numbers
module _ (f : ℕ → ℤ) (n m : ℕ) (a b : ℤ) (apart : n ≡ m → ⊥) where
  abbrev first_b : ℕ → ℤ
  first_b = with_at (with_at f m b) n a

  abbrev first_a : ℕ → ℤ
  first_a = with_at (with_at f n a) m b

  swap-other : (k : ℕ) → (k ≡ n → ⊥) → (k ≡ m) ⊎ (k ≡ m → ⊥) → with_at f m b k ≡ first_a k
  swap-other k other (inl is) = ap (with_at f m b) is ∙ at-self f m b
      ∙ sym (ap first_a is ∙ at-self (with_at f n a) m b)
  swap-other k other (inr none) = at-other f m k b none
      ∙ sym (at-other (with_at f n a) m k b none ∙ at-other f n k a other)

  swap-at : (k : ℕ) → (k ≡ n) ⊎ (k ≡ n → ⊥) → first_b k ≡ first_a k
  swap-at k (inl is) = ap first_b is ∙ at-self (with_at f m b) n a
      ∙ sym (ap first_a is ∙ at-other (with_at f n a) m n b apart ∙ at-self f n a)
  swap-at k (inr other) = at-other (with_at f m b) n k a other ∙ swap-other k other (cases_eq k m)

  swap : first_b ≡ first_a
  swap = λ i k. swap-at k (cases_eq k n) i

zeroed-kept : (from kept : ℕ) (ns : List ℕ) (f : ℕ → ℤ) (z : ℤ) → AllMayGo from kept ns
    → zeroed ns (with_at f kept z) ≡ with_at (zeroed ns f) kept z
zeroed-kept from kept [] f z may = refl
zeroed-kept from kept (n ∷ ns) f z may =
    ap (λ f. with_at f n (pos 0)) (zeroed-kept from kept ns f z may.1)
    ∙ swap (zeroed ns f) n kept (pos 0) z may.0.1

-- STATES

seen-wiped : (names : Names) (from kept : ℕ) (ns : List ℕ) (t : CodeState) → AreBelow from names.values
    → AllMayGo from kept ns → seen names (wiped ns t) ≡ seen names t
seen-wiped names from kept ns t below may = seen-still names from t (wiped ns t) below
    (λ n few. zeroed-other from kept ns t.variables n may (inl few)) refl refl

flow-wiped : (exits : Exits) (home from kept : ℕ) (t : CodeState) (flow : Flow Exit) (u : CodeState)
    (ns : List ℕ) → home < from → AllMayGo from kept ns → SameFlow exits home t flow Next u
    → SameFlow exits home t flow Next (wiped ns u)
flow-wiped exits home from kept t Next u ns few may same =
    zeroed-other from kept ns u.variables home may (inl few) ∙ same
flow-wiped exits home from kept t (Leaves exit) u ns few may same = absurd same

module _ (kept : ℕ) (low : Types) (ns : List ℕ) (may : AllMayGo (length low.vars) kept ns) where
  pub does-wiped : (names : Names) (exits : Exits) (home : ℕ) → IsNaming (with_home home names) low
      → (t : CodeState) (flow : Flow Exit) (s : State) (u : CodeState)
      → Does names exits home low t flow s Next u → Does names exits home low t flow s Next (wiped ns u)
  does-wiped names exits home naming t flow s u given = record {
    flows = flow-wiped exits home (length low.vars) kept t flow u ns naming.below.0 may given.flows;
    sees = given.sees ∙ sym (seen-wiped names (length low.vars) kept ns u naming.below.1 may);
    keeps = record {
      variables = λ n few stays. zeroed-other (length low.vars) kept ns u.variables n may (inl few)
          ∙ given.keeps.variables n few stays;
      arrays = given.keeps.arrays;
      lengths = given.keeps.lengths;
    };
  }

  pub gives-to-wiped : (names : Names) (calls : Bool) → IsNaming names low
      → (t : CodeState) (z : ℤ) (s : State) (u : CodeState)
      → GivesTo names calls low kept t z s Next u → GivesTo names calls low kept t z s Next (wiped ns u)
  gives-to-wiped names calls naming t z s u given = record {
    before = wiped ns given.before;
    on = refl;
    sees = given.sees ∙ sym (seen-wiped names (length low.vars) kept ns given.before naming.below may);
    is = ap (wiped ns) given.is
        ∙ ap (λ (f : ℕ → ℤ). record (given.before) { variables = f })
        (zeroed-kept (length low.vars) kept ns given.before.variables z may);
    keeps = record {
      variables = λ n few stays. zeroed-other (length low.vars) kept ns given.before.variables n may (inl few)
          ∙ given.keeps.variables n few stays;
      arrays = given.keeps.arrays;
      lengths = given.keeps.lengths;
    };
  }

  pub gives-wiped : (names : Names) (calls : Bool) → IsNaming names low
      → (t : CodeState) (z : ℤ) (s : State) (u : CodeState)
      → Gives names calls low (reading (Var kept)) t z s Next u
      → Gives names calls low (reading (Var kept)) t z s Next (wiped ns u)
  gives-wiped names calls naming t z s u given = record {
    on = refl;
    sees = given.sees ∙ sym (seen-wiped names (length low.vars) kept ns u naming.below may);
    reads = given.reads ∙ sym (zeroed-other (length low.vars) kept ns u.variables kept may (inr refl));
    keeps = record {
      variables = λ n few stays. zeroed-other (length low.vars) kept ns u.variables n may (inl few)
          ∙ given.keeps.variables n few stays;
      arrays = given.keeps.arrays;
      lengths = given.keeps.lengths;
    };
  }

-- NODES that wipe

pub wipes-none : (from kept : ℕ) (old : List Node) → Wipes from kept old old
wipes-none from kept old = record {
  numbers = [];
  may_go = tt;
  adds = record { nodes = []; is = sym (append-nil old); runs = λ g turns t. run-none g turns t };
}

pub wipes-one : (from kept n : ℕ) (old new : List Node) → MayGo from kept n
    → Adds old new (set_act n (Const (pos 0))) → Wipes from kept old new
wipes-one from kept n old new may added = record {
  numbers = n ∷ [];
  may_go = (may, tt);
  adds = record { nodes = added.nodes; is = added.is; runs = added.runs };
}

may-go-append : (from kept : ℕ) (ms ns : List ℕ) → AllMayGo from kept ms → AllMayGo from kept ns
    → AllMayGo from kept (ms ++ ns)
may-go-append from kept [] ns first second = second
may-go-append from kept (m ∷ ms) ns first second = (first.0, may-go-append from kept ms ns first.1 second)

pub wipes-then : (from kept : ℕ) (old out new : List Node) → Wipes from kept old out
    → Wipes from kept out new → Wipes from kept old new
wipes-then from kept old out new first second = record {
  numbers = second.numbers ++ first.numbers;
  may_go = may-go-append from kept second.numbers first.numbers second.may_go first.may_go;
  adds =
      let both = adds-then old out new (wipe_act first.numbers) (wipe_act second.numbers) first.adds
      second.adds in
      record {
        nodes = both.nodes;
        is = both.is;
        runs = λ g turns t. both.runs g turns t
            ∙ ap (λ (f : ℕ → ℤ). (Ok Next, record t { variables = f }))
            (sym (zeroed-append second.numbers first.numbers t.variables));
      };
}

pub wipes-since : {from count kept : ℕ} {out new : List Node} → from ≡ count → Wipes from kept out new
    → Wipes count kept out new
wipes-since {kept = kept} {out = out} {new = new} is wipes = subst (λ from. Wipes from kept out new) is wipes

-- BEHIND A PART

module _ {A : Type 0} (p : Program) (names : Names) (path : List Step) (part : Part A)
    (stands : CodeState → Standing A) (low high : Types) (old out new : List Node) (from kept : ℕ)
    (holds : (ns : List ℕ) → AllMayGo from kept ns → (t : CodeState) (a : A) (s : State) (u : CodeState)
    → stands t a s Next u → stands t a s Next (wiped ns u)) where
  behind-wiped : (ns : List ℕ) → AllMayGo from kept ns → (g : Setting) (turns : List ℕ) (t : CodeState)
      (a : A) (s : State) (way : Flow ℕ) (u : CodeState) → stands t a s way u
      → Meets (stands t) (give a s) (after_part (wipe_act ns g turns) way u)
  behind-wiped ns may g turns t a s Next u given = holds ns may t a s u given
  behind-wiped ns may g turns t a s (Leaves l) u given = given

  pub makes-wiped : Makes p names path part stands low high old out → Wipes from kept out new
      → Makes p names path part stands low high old new
  makes-wiped made wipes = makes-added p names path part part stands stands low high high old out new
      (wipe_act wipes.numbers) (λ w back. give) made (grows-same high) wipes.adds
      (λ w back t s. then-nothing (part w back t s))
      (λ w turns t a s way u given. behind-wiped wipes.numbers wipes.may_go (code_setting p w) turns t a s
      way u given)

pub does-cleared : (p : Program) (names : Names) (path : List Step) (part : Part (Flow Exit)) (frame : Frame)
    (kept : ℕ) (low high : Types) (old out new : List Node) → IsNaming (with_home frame.home names) low
    → Makes p names path part (Does names frame.exits frame.home low) low high old out
    → Wipes (length low.vars) kept out new
    → Makes p names path part (Does names frame.exits frame.home low) low high old new
does-cleared p names path part frame kept low high old out new naming made wipes =
    makes-wiped p names path part (Does names frame.exits frame.home low) low high old out new
    (length low.vars) kept
    (λ ns may. does-wiped kept low ns may names frame.exits frame.home naming) made wipes

pub gives-to-cleared : (p : Program) (names : Names) (path : List Step) (part : Part ℤ) (calls : Bool)
    (kept : ℕ) (low high : Types) (old out new : List Node) → IsNaming names low
    → Makes p names path part (GivesTo names calls low kept) low high old out
    → Wipes (length low.vars) kept out new
    → Makes p names path part (GivesTo names calls low kept) low high old new
gives-to-cleared p names path part calls kept low high old out new naming made wipes =
    makes-wiped p names path part (GivesTo names calls low kept) low high old out new (length low.vars) kept
    (λ ns may. gives-to-wiped kept low ns may names calls naming) made wipes

pub gives-cleared : (p : Program) (names : Names) (path : List Step) (part : Part ℤ) (calls : Bool)
    (kept : ℕ) (low high : Types) (old out new : List Node) → IsNaming names low
    → Makes p names path part (Gives names calls low (reading (Var kept))) low high old out
    → Wipes (length low.vars) kept out new
    → Makes p names path part (Gives names calls low (reading (Var kept))) low high old new
gives-cleared p names path part calls kept low high old out new naming made wipes =
    makes-wiped p names path part (Gives names calls low (reading (Var kept))) low high old out new
    (length low.vars) kept
    (λ ns may. gives-wiped kept low ns may names calls naming) made wipes

-- BEFORE A PART

abbrev nothing_now : World → List Step → Execution
nothing_now w back s = (Ok Next, s)

-- a variable that is read no more is set to 0 before a statement
pub makes-behind-zero : (p : Program) (names : Names) (path : List Step) (frame : Frame)
    (part : World → List Step → Execution) (low mid high : Types) (to : ℕ) (old out new : List Node)
    → IsNaming (with_home frame.home names) low → Grows low mid → length low.vars ≤ to
    → Adds old out (set_act to (Const (pos 0)))
    → Makes p names path (λ w back t. part w back) (Does names frame.exits frame.home mid) mid high out new
    → Makes p names path (λ w back t. part w back) (Does names frame.exits frame.home low) low high old new
makes-behind-zero p names path frame part low mid high to old out new naming grows late zeroed_by made =
    let few : frame.home < length low.vars = naming.below.0 in
    let zero : Makes p names path (λ w back t. nothing_now w back) (Does names frame.exits frame.home low)
    low low old out = does-cleared p names path (λ w back t. nothing_now w back) frame frame.home low low old
    old out naming
    (makes-no-code p names path frame low naming (λ w back t. nothing_now w back) old (λ w back t s. refl))
    (wipes-one (length low.vars) frame.home to old out
    (late, λ same. absurd (omega (arith, late, few, same))) zeroed_by) in
    let before : Makes p names path (λ w back t. nothing_now w back) (Does names frame.exits frame.home low)
    low mid old out = record {
      nodes = zero.nodes;
      is = zero.is;
      grows = grows;
      runs = λ w turns t ready. zero.runs w turns t (ready-before w low mid t grows ready);
    } in
    makes-row p names path frame.exits frame.home nothing_now part low mid high old out new before made
