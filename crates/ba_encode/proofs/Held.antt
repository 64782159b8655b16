-- Bits that have to be true, as nodes and bits are added.
use Rattle.std.proofs.Common.{◌≡◌, ℕ, ◌+◌, ◌<◌, ◌≤◌, Bool, true, false, not, ◌&&◌, Option, Some, None, List, [], ◌∷◌, ◌++◌, length, get_or, take, refl, sym, ◌∙◌, ap, subst, arith, All}
use Rattle.std.proofs.lemmas.List.{take_all}
use Rattle.std.proofs.lemmas.List.Elements.{All-push, All-weaker, recursion_from_All}
use Rattle.std.proofs.lemmas.List.Folds.{list_all_more}
use Rattle.std.specs.List.{AllByRecursion, list_all}
use Rattle.std.specs.Option.{ForSome}
use Rattle.std.proofs.Math.Bool.{and-true}
use Rattle.ba_bits.specs.Bits.{AreEntriesOf}
use Rattle.ba_clauses.specs.Encodings.{all_hold}
use Rattle.ba_encode.proofs.Spots.{set-grown}
use Rattle.ba_encode.specs.Parts.{AreHeld, IsPlaceOf, is_fixed, is_set, stays}
use Rattle.ba_encode.specs.declared.places.PlaceBits.{PlaceBits}
use Rattle.ba_nodes.specs.declared.Bit.{Bit}
use Rattle.ba_nodes.specs.declared.Node.{Node}
use Rattle.ba_nodes.specs.Gates.{Extends, HasValue, IsBitOf, truth}

hold-push : (free : ℕ → Bool) (nodes : List Node) (bits : List Bit) (bit : Bit)
    → all_hold free nodes (bits ++ bit ∷ []) ≡ (all_hold free nodes bits && truth free nodes bit)
hold-push free nodes [] bit = and-true (truth free nodes bit)
hold-push free nodes (first ∷ bits) bit =
    ap (λ b. truth free nodes first && b) (hold-push free nodes bits bit)
    ∙ regroup (truth free nodes first) (all_hold free nodes bits) (truth free nodes bit) where
      regroup : (a b c : Bool) → (a && (b && c)) ≡ ((a && b) && c)
      regroup true b c = refl
      regroup false b c = refl

hold-grown : (free : ℕ → Bool) (old new : List Node) (bits : List Bit) → Extends old new
    → AllByRecursion (IsBitOf old) bits → all_hold free new bits ≡ all_hold free old bits
hold-grown free old new [] extends named = refl
hold-grown free old new (bit ∷ bits) extends named =
    λ i. extends.keeps free bit named.0 i && hold-grown free old new bits extends named.1 i

bit-grown : (old new : List Node) (bit : Bit) → Extends old new → IsBitOf old bit → IsBitOf new bit
bit-grown old new bit extends named = omega (arith, extends.grows, named)

pub held-grown : (old new : List Node) (bits : List Bit) (value : (ℕ → Bool) → Bool) → Extends old new
    → AreHeld old bits value → AreHeld new bits value
held-grown old new bits value extends held = record {
  are_bits = All-weaker (IsBitOf old) (IsBitOf new) (λ bit. bit-grown old new bit extends) bits held.are_bits;
  holds = λ free. hold-grown free old new bits extends (recursion_from_All (IsBitOf old) bits held.are_bits)
      ∙ held.holds free;
}

pub held-pushed : (nodes : List Node) (bits : List Bit) (bit : Bit) (value own : (ℕ → Bool) → Bool)
    → AreHeld nodes bits value → HasValue nodes bit own
    → AreHeld nodes (bits ++ bit ∷ []) (λ free. value free && own free)
held-pushed nodes bits bit value own held has = record {
  are_bits = All-push (IsBitOf nodes) bits bit held.are_bits has.is_bit;
  holds = λ free. hold-push free nodes bits bit ∙ (λ i. held.holds free i && has.holds free i);
}

pub held-same : (nodes : List Node) (bits : List Bit) (value other : (ℕ → Bool) → Bool) →
    AreHeld nodes bits value
    → ((free : ℕ → Bool) → value free ≡ other free) → AreHeld nodes bits other
held-same nodes bits value other held same = record {
  are_bits = held.are_bits;
  holds = λ free. held.holds free ∙ same free;
}

-- REQUIREMENTS

pub met-more : (base old new : List Node) (entries : List (List (List Bit))) (require : List ℕ) (i : ℕ)
    (bits : List Bit) (bit : Bit) → i < length require → Extends base old → AreEntriesOf base entries →
    Extends old new
    → AreHeld old bits (λ free. list_all (is_set free base entries) (take i require))
    → HasValue new bit (λ free. is_set free old entries (get_or require i 0))
    → AreHeld new (bits ++ bit ∷ []) (λ free. list_all (is_set free base entries) (take (i + 1) require))
met-more base old new entries require i bits bit within first are_bits then held has =
    held-same new (bits ++ bit ∷ [])
    (λ free. list_all (is_set free base entries) (take i require) && is_set free old entries (get_or
    require i 0))
    (λ free. list_all (is_set free base entries) (take (i + 1) require))
    (held-pushed new bits bit (λ free. list_all (is_set free base entries) (take i require))
    (λ free. is_set free old entries (get_or require i 0))
    (held-grown old new bits (λ free. list_all (is_set free base entries) (take i require)) then held) has)
    (λ free. ap (λ b. list_all (is_set free base entries) (take i require) && b)
    (set-grown free base old entries (get_or require i 0) first are_bits)
    ∙ sym (list_all_more (is_set free base entries) require i 0 within))

-- EXECUTIONS

fixed-grown : (free : ℕ → Bool) (old new : List Node) (selector : Option Bit) → Extends old new
    → ForSome selector (IsBitOf old) → is_fixed (truth free new) selector ≡ is_fixed (truth free old) selector
fixed-grown free old new None extends named = refl
fixed-grown free old new (Some selector) extends named = extends.keeps free selector (named selector refl)

pub stays-grown : (free : ℕ → Bool) (old new : List Node) (place : PlaceBits) → Extends old new
    → IsPlaceOf old place → stays (truth free new) place ≡ stays (truth free old) place
stays-grown free old new place extends named =
    λ i. not (fixed-grown free old new place.selector extends named.selector i
    && (extends.keeps free place.guard named.guard i && not (extends.keeps free place.keep named.keep i)))

all-stay-grown : (free : ℕ → Bool) (old new : List Node) (places : List PlaceBits) → Extends old new
    → AllByRecursion (IsPlaceOf old) places
    → list_all (stays (truth free new)) places ≡ list_all (stays (truth free old)) places
all-stay-grown free old new [] extends named = refl
all-stay-grown free old new (place ∷ places) extends named =
    λ i. stays-grown free old new place extends named.0 i && all-stay-grown free old new places extends
    named.1 i

pub stay-grown : (free : ℕ → Bool) (old new : List Node) (places : List PlaceBits) → Extends old new
    → All (IsPlaceOf old) places
    → list_all (stays (truth free new)) places ≡ list_all (stays (truth free old)) places
stay-grown free old new places extends named =
    all-stay-grown free old new places extends (recursion_from_All (IsPlaceOf old) places named)

pub kept-more : (base old new : List Node) (places : List PlaceBits) (i : ℕ) (place : PlaceBits) (bits :
    List Bit)
    (bit : Bit) (value : (ℕ → Bool) → Bool) → i < length places → place ≡ get_or places i place →
    Extends base old
    → All (IsPlaceOf base) places → Extends old new
    → AreHeld old bits (λ free. value free && list_all (stays (truth free base)) (take i places))
    → HasValue new bit (λ free. stays (truth free old) place)
    → AreHeld new (bits ++ bit ∷ []) (λ free. value free && list_all (stays (truth free base)) (take (i +
    1) places))
kept-more base old new places i place bits bit value within is first named then held has =
    held-same new (bits ++ bit ∷ [])
    (λ free. (value free && list_all (stays (truth free base)) (take i places)) && stays (truth free old)
    place)
    (λ free. value free && list_all (stays (truth free base)) (take (i + 1) places))
    (held-pushed new bits bit (λ free. value free && list_all (stays (truth free base)) (take i places))
    (λ free. stays (truth free old) place)
    (held-grown old new bits (λ free. value free && list_all (stays (truth free base)) (take i places))
    then held) has)
    (λ free. regroup (value free) (list_all (stays (truth free base)) (take i places)) (stays (truth free
    old) place)
    ∙ ap (λ b. value free && (list_all (stays (truth free base)) (take i places) && b))
    (stays-grown free base old place first own ∙ ap (stays (truth free base)) is)
    ∙ ap (λ b. value free && b) (sym (list_all_more (stays (truth free base)) places i place within))) where
      own : IsPlaceOf base place
      own = subst (IsPlaceOf base) (sym is) (named i place within)

      regroup : (a b c : Bool) → ((a && b) && c) ≡ (a && (b && c))
      regroup true b c = refl
      regroup false b c = refl

pub kept-all : (base new : List Node) (places : List PlaceBits) (i : ℕ) (bits : List Bit) (value : (ℕ →
    Bool) → Bool)
    → length places ≤ i
    → AreHeld new bits (λ free. value free && list_all (stays (truth free base)) (take i places))
    → AreHeld new bits (λ free. value free && list_all (stays (truth free base)) places)
kept-all base new places i bits value past held =
    subst (λ ps. AreHeld new bits (λ free. value free && list_all (stays (truth free base)) ps))
    (take_all i places past) held
