-- What is needed of nodes, as more is needed of them.

use Rattle.std.proofs.Common.{◌≡◌, ℕ, suc, zero, ◌+◌, ◌-◌, ◌<◌, ◌≤◌, Bool, true, false, not, ◌||◌, List, [], ◌∷◌, ◌++◌, length, take, get_or, map, Some, slice_get, refl, sym, ap, subst, ◌∙◌, arith, All, inl, inr, ⊎_elim}
use Rattle.std.proofs.lemmas.Bool.{cases_eq, or_cases, or_left, or_right, and_parts}
use Rattle.std.proofs.lemmas.List.{take_more, length-map}
use Rattle.std.proofs.lemmas.List.Elements.{All-more, All-weaker, Contains-append_left, Contains-append_right}
use Rattle.ba_nodes.specs.declared.Bit.{Bit}
use Rattle.ba_nodes.specs.declared.Node.{Node}
use Rattle.ba_nodes.specs.declared.Node.TheVariants.{Free, And, Xor, Mux, Majority}
use Rattle.ba_nodes.specs.Gates.{truth}
use Rattle.ba_clauses.specs.declared.uses.Use.{Use}
use Rattle.ba_clauses.specs.Encodings.{all_hold}
use Rattle.ba_clauses.specs.Uses.{no_use, use_at, node_side, is_implied, is_asked, is_side, is_used, IsServed, AreServed, IsPassedOn, NeedsMore, NeedMoreBelow, IsAsked, Asks, IsRead, AreUses}

-- ---- one node

implied_used : (own : Use) (negated : Bool) → is_implied own negated ≡ true → is_used own ≡ true
implied_used own false is = or_left ((own.positive || own.negative) || own.required) own.refused
    (or_left (own.positive || own.negative) own.required (or_left own.positive own.negative is))
implied_used own true is = or_left ((own.positive || own.negative) || own.required) own.refused
    (or_left (own.positive || own.negative) own.required (or_right own.positive own.negative is))

asked_used : (own : Use) (negated : Bool) → is_asked own negated ≡ true → is_used own ≡ true
asked_used own false is = or_left ((own.positive || own.negative) || own.required) own.refused (or_right
    (own.positive || own.negative) own.required is)
asked_used own true is = or_right ((own.positive || own.negative) || own.required) own.refused is

used_kept : (old new : Use) → ((negated : Bool) → is_implied old negated ≡ true →
    is_implied new negated ≡ true) →
    ((negated : Bool) → is_asked new negated ≡ is_asked old negated) → is_used old ≡ true → is_used new ≡ true
used_kept old new implied asked used = ⊎_elim
    (λ first. ⊎_elim
    (λ second. ⊎_elim
    (λ is. implied_used new false (implied false is))
    (λ is. implied_used new true (implied true is))
    (or_cases old.positive old.negative second))
    (λ is. asked_used new false (asked false ∙ is))
    (or_cases (old.positive || old.negative) old.required first))
    (λ is. asked_used new true (asked true ∙ is))
    (or_cases ((old.positive || old.negative) || old.required) old.refused used)

NeedsMore-through : (old middle new : Use) → NeedsMore old middle → NeedsMore middle new → NeedsMore old new
NeedsMore-through old middle new first second = record {
  implied = λ negated is. second.implied negated (first.implied negated is);
  asked = λ negated. second.asked negated ∙ first.asked negated;
  merged = λ used is. first.merged used (second.merged (used_kept old middle first.implied first.asked
      used) is);
}

-- ---- all nodes

pub NeedMoreBelow-through : (number : ℕ) (old middle new : List Use) → NeedMoreBelow number old middle →
    NeedMoreBelow number middle new → NeedMoreBelow number old new
NeedMoreBelow-through number old middle new first second = record {
  size = second.size ∙ first.size;
  stays = λ k le. second.stays k le ∙ first.stays k le;
  more = λ k. NeedsMore-through (use_at old k) (use_at middle k) (use_at new k) (first.more k) (second.more
      k);
}

pub NeedMoreBelow-weaker : (m n : ℕ) (old new : List Use) → m ≤ n → NeedMoreBelow m old new →
    NeedMoreBelow n old new
NeedMoreBelow-weaker m n old new le more = record {
  size = more.size;
  stays = λ k beyond. more.stays k
      (omega (arith, le, beyond));
  more = more.more;
}

-- an operand is served later too
pub IsServed-more : (number : ℕ) (old new : List Use) (bit : Bit) (positive negative conjunct : Bool) →
    (positive || negative) ≡ true →
    NeedMoreBelow number old new → IsServed old bit positive negative conjunct →
    IsServed new bit positive negative conjunct
IsServed-more number old new bit positive negative conjunct some more served = record {
  node = served.node;
  among = omega (arith, more.size, served.among);
  same = λ on. (more.more (bit.index - 1)).implied bit.negated (served.same on);
  other = λ on. (more.more (bit.index - 1)).implied (not bit.negated) (served.other on);
  merges = λ merged. served.merges ((more.more (bit.index - 1)).merged used merged);
}
  where
    used : is_used (use_at old (bit.index - 1)) ≡ true
    used = ⊎_elim
        (λ on. implied_used (use_at old (bit.index - 1)) bit.negated (served.same on))
        (λ on. implied_used (use_at old (bit.index - 1)) (not bit.negated) (served.other on))
        (or_cases positive negative some)

pub AreServed-more : (number : ℕ) (old new : List Use) (node : Node) (positive negative : Bool) →
    (positive || negative) ≡ true →
    NeedMoreBelow number old new → AreServed old node positive negative → AreServed new node positive negative
AreServed-more number old new (Free own) positive negative some more served = tt
AreServed-more number old new (And a b) positive negative some more served = (
  IsServed-more number old new a positive negative true some more served.0,
  IsServed-more number old new
      b positive negative true some more served.1,
)
AreServed-more number old new (Xor a b) positive negative some more served = (
  IsServed-more number old new a true true false refl more served.0,
  IsServed-more number old new b true
      true false refl more served.1,
)
AreServed-more number old new (Mux a b c) positive negative some more served = (
  IsServed-more number old new a true true false refl more served.0,
  IsServed-more number old new b positive negative false some more served.1,
  IsServed-more number old new c positive negative false some more served.2,
)
AreServed-more number old new (Majority a b c) positive negative some more served = (
  IsServed-more number old new a positive negative false some more served.0,
  IsServed-more number old new b positive negative false some more served.1,
  IsServed-more number old new c positive negative false some more served.2,
)

-- what was passed on is so later, if only earlier nodes are needed more
pub IsPassedOn-more : (number k : ℕ) (old new : List Use) (node : Node) → number ≤ k →
    NeedMoreBelow number old new → IsPassedOn old k node → IsPassedOn new k node
IsPassedOn-more number k old new node le more passed = step (use_at old k) (use_at new k) (more.stays k le)
    passed
  where
    step : (own later : Use) → later ≡ own →
        ((is_side own false || is_side own true) ≡ true →
        AreServed old node (is_side own false) (is_side own true)) →
        ((is_side later false || is_side later true) ≡ true →
        AreServed new node (is_side later false) (is_side later true))
    step own later same passed =
        subst (λ (u : Use). (is_side u false || is_side u true) ≡ true →
        AreServed new node (is_side u false) (is_side u true)) (sym same)
        (λ some. AreServed-more number old new node (is_side own false) (is_side own true) some more
        (passed some))

-- ---- bits that are asked for

-- nothing is asked of no bits
pub Asks-none : (uses : List Use) → Asks [] uses uses
Asks-none uses = record {
  size = refl;
  keeps = λ number negated asked. asked;
  only = λ number negated asked. inl asked;
  all_asked = λ k bit within. absurd (omega (arith, within));
}

pub Asks-more : (bits : List Bit) (i : ℕ) (bit : Bit) (old middle new : List Use) → i < length bits →
    bit ≡ get_or bits i bit →
    Asks (take i bits) old middle → Asks (bit ∷ []) middle new → Asks (take (i + 1) bits) old new
Asks-more bits i bit old middle new within is first second =
    subst (λ (xs : List Bit). Asks xs old new) (sym longer) record {
      size = second.size ∙ first.size;
      keeps = λ number side asked. second.keeps number side (first.keeps number side asked);
      only = λ number side asked. ⊎_elim
          (λ earlier. ⊎_elim (λ before. inl before) (λ has. inr (Contains-append_left (take i bits) (bit ∷
          []) (node_side number side) has)) (first.only number side earlier))
          (λ has. inr (Contains-append_right (take i bits) (bit ∷ []) (node_side number side) has))
          (second.only number side asked);
      all_asked = subst (All (IsAsked new)) longer
          (All-more (IsAsked new) bits i bit within
          (All-weaker (IsAsked middle) (IsAsked new) (λ x asked some. second.keeps (x.index - 1) x.negated
          (asked some)) (take i bits) first.all_asked)
          (subst (IsAsked new) is (second.all_asked 0 bit (omega arith))));
    }
  where
    longer : take (i + 1) bits ≡ take i bits ++ bit ∷ []
    longer = take_more bits i bit within ∙ ap (λ (x : Bit). take i bits ++ x ∷ []) (sym is)

-- ---- bits that are read

pub IsRead-more : (number : ℕ) (old new : List Use) (bit : Bit) → NeedMoreBelow number old new →
    IsRead old bit → IsRead new bit
IsRead-more number old new bit more read some = IsServed-more number old new bit true true false refl more
    (read some)

-- ---- what the calls leave

pub two_more : (number a b : ℕ) (old middle new : List Use) → a ≤ number → b ≤ number →
    NeedMoreBelow a old middle → NeedMoreBelow b middle new →
    NeedMoreBelow number old new
two_more number a b old middle new le le' first second =
    NeedMoreBelow-through number old middle new (NeedMoreBelow-weaker a number old middle le first)
    (NeedMoreBelow-weaker b number middle new le' second)

pub three_more : (number a b c : ℕ) (old first second new : List Use) → a ≤ number → b ≤ number → c ≤ number →
    NeedMoreBelow a old first → NeedMoreBelow b first second → NeedMoreBelow c second new →
    NeedMoreBelow number old new
three_more number a b c old first second new one two three x y z =
    NeedMoreBelow-through number old second new (two_more number a b old first second one two x y)
    (NeedMoreBelow-weaker c number second new three z)

-- ---- the whole

unused : (nodes : List Node) (number : ℕ) → use_at (map (λ (node : Node). no_use) nodes) number ≡ no_use
unused [] number = refl
unused (node ∷ nodes) zero = refl
unused (node ∷ nodes) (suc number) = unused nodes number

no_need : (negated : Bool) → is_asked no_use negated ≡ true → false ≡ true
no_need false is = is
no_need true is = is

holds_at : (free : ℕ → Bool) (nodes : List Node) (bits : List Bit) (k : ℕ) (x : Bit) → k < length bits →
    get_or bits k x ≡ x → all_hold free nodes bits ≡ true → truth free nodes x ≡ true
holds_at free nodes [] k x within is holds = absurd (omega (arith, within))
holds_at free nodes (bit ∷ bits) zero x within is holds = sym (ap (truth free nodes) is) ∙ (and_parts
    (truth free nodes bit) (all_hold free nodes bits) holds).0
holds_at free nodes (bit ∷ bits) (suc k) x within is holds =
    holds_at free nodes bits k x (omega (arith, within)) is (and_parts (truth free nodes bit) (all_hold
    free nodes bits) holds).1

pub needs_made : (nodes : List Node) (required read : List Bit) (first asked reads uses : List Use) (m n :
    ℕ) → first ≡ map (λ (node : Node). no_use) nodes →
    Asks required first asked → All (IsRead reads) read → NeedMoreBelow m asked reads →
    NeedMoreBelow n reads uses →
    ((number : ℕ) (node : Node) → slice_get nodes number ≡ Some node → IsPassedOn uses number node) →
    AreUses nodes required read uses
needs_made nodes required read first asked reads uses m n is asks all_read more later passed = record {
  size = later.size ∙ more.size ∙ asks.size ∙ ap length is ∙ length-map nodes (λ (node : Node). no_use);
  asked = λ free holds number negated on. ⊎_elim
      (λ before.
      let none : is_asked no_use negated ≡ true =
      sym (ap (λ (u : Use). is_asked u negated) (ap (λ (xs : List Use). use_at xs number) is ∙ unused nodes
      number)) ∙ before in
      absurd (cc (no_need negated none)))
      (λ has. holds_at free nodes required has.0 (node_side number negated) has.1 has.2 holds)
      (asks.only number negated (sym (same number negated) ∙ on));
  all_asked = All-weaker (IsAsked asked) (IsAsked uses) (λ bit on some. same (bit.index - 1) bit.negated ∙
      on some) required asks.all_asked;
  all_read = All-weaker (IsRead reads) (IsRead uses) (λ bit on. IsRead-more n reads uses bit later on) read
      all_read;
  passed = passed;
}
  where
    same : (number : ℕ) (negated : Bool) →
        is_asked (use_at uses number) negated ≡ is_asked (use_at asked number) negated
    same number negated = (later.more number).asked negated ∙ (more.more number).asked negated

-- ---- loops

pub IsRead-all : (number : ℕ) (bits : List Bit) (i : ℕ) (bit : Bit) (old new : List Use) →
    i < length bits → bit ≡ get_or bits i bit →
    NeedMoreBelow number old new → All (IsRead old) (take i bits) → IsRead new bit →
    All (IsRead new) (take (i + 1) bits)
IsRead-all number bits i bit old new within is more all read =
    All-more (IsRead new) bits i bit within
    (All-weaker (IsRead old) (IsRead new) (λ x reads. IsRead-more number old new x more reads) (take i
    bits) all)
    (subst (IsRead new) is read)

-- one more node passes its needs on
pub passed_down : (nodes : List Node) (old new : List Use) (number : ℕ) (node : Node) →
    slice_get nodes number ≡ Some node →
    NeedMoreBelow number old new → IsPassedOn new number node →
    ((k : ℕ) (other : Node) → number + 1 ≤ k → slice_get nodes k ≡ Some other → IsPassedOn old k other) →
    (k : ℕ) (other : Node) → number ≤ k → slice_get nodes k ≡ Some other → IsPassedOn new k other
passed_down nodes old new number node found more now before k other le there = ⊎_elim
    (λ here.
    let same : slice_get nodes number ≡ Some other = subst (λ (n : ℕ). slice_get nodes n ≡ Some other) here
    there in
    let is : node ≡ other = cc (sym found ∙ same) in
    subst (λ (n : ℕ). IsPassedOn new n other) (sym here) (subst (IsPassedOn new number) is now))
    (λ later. IsPassedOn-more number k old new other le more (before k other (omega (arith, le, later))
    there))
    (cases_eq k number)
