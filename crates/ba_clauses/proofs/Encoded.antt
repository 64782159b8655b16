-- The formula says what it is to say.

use Rattle.std.proofs.Common.{◌≡◌, ◌≢◌, ℕ, suc, zero, ◌-◌, ◌<◌, ◌≤◌, Bool, true, false, not, ◌&&◌, List, [], ◌∷◌, length, get_or, map, eqb, refl, sym, ap, subst, ◌∙◌, arith, All, Contains, ⊎_elim, if◌then◌else◌}
use Rattle.std.proofs.lemmas.Bool.{cases_eq, eq-eqb, eqb-true, ne_eqb, and_parts, and_from, or_from, or_parts}
use Rattle.std.proofs.lemmas.List.Elements.{recursion_from_All, All-weaker}
use Rattle.std.proofs.lemmas.Bool.Decides.{nat_tests}
use Rattle.std.specs.List.{AllByRecursion, list_any}
use Rattle.ba_nodes.specs.declared.Bit.{Bit}
use Rattle.ba_nodes.specs.declared.Node.{Node}
use Rattle.ba_nodes.specs.Gates.{node_bit, opposite, truth, AreOrdered}
use Rattle.ba_nodes.proofs.Truths.{truth-opposite}
use Rattle.ba_nodes.proofs.Folding.{truth-zero}
use Rattle.ba_lits.specs.Formulas.{Cnf}
use Rattle.ba_lits.specs.Satisfaction.{Assignment, all_true}
use Rattle.ba_clauses.specs.declared.encoding.Reading.{Reading}
use Rattle.ba_clauses.specs.declared.encoding.Reading.TheVariants.{Constant, Variable}
use Rattle.ba_clauses.specs.declared.uses.Use.{Use}
use Rattle.ba_clauses.specs.Clauses.{literal_value, HasVariable}
use Rattle.ba_clauses.specs.Encodings.{all_hold, is_false, value_read, reading_by, IsEncoding}
use Rattle.ba_clauses.specs.Uses.{use_at, node_side, is_asked, IsServed, IsAsked, IsRead, AreUses}
use Rattle.ba_clauses.specs.Sides.{IsNumbering, free_of, AreSound, TellsUpTo}
use Rattle.ba_clauses.proofs.Monotone.{same_value}
use Rattle.ba_clauses.proofs.Taking.{operand_same, operand_other}
use Rattle.ba_clauses.proofs.Telling.{side_is, operand_numbered, operand_has_variable, operand_rises, follows_bit}
use Rattle.ba_clauses.proofs.Adding.{literal_value-opposite}

abbrev variable_by : List ℕ → ℕ → ℕ
variable_by variables index = get_or variables (index - 1) 0

-- ---- constants

true_is_no_false : (free : ℕ → Bool) (nodes : List Node) (bit : Bit) → truth free nodes bit ≡ true →
    is_false bit ≡ false
true_is_no_false free nodes bit on = step (eqb bit.index 0) refl bit.negated refl
  where
    step : (b : Bool) → eqb bit.index 0 ≡ b → (n : Bool) → bit.negated ≡ n → (b && not n) ≡ false
    step false e n m = refl
    step true e true m = refl
    step true e false m = absurd (cc (sym on ∙ truth-zero free nodes bit (eqb-true bit.index 0 e) ∙ m))

pub none_is_false : (free : ℕ → Bool) (nodes : List Node) (bits : List Bit) →
    all_hold free nodes bits ≡ true → list_any is_false bits ≡ false
none_is_false free nodes [] holds = refl
none_is_false free nodes (bit ∷ bits) holds =
    let parts = and_parts (truth free nodes bit) (all_hold free nodes bits) holds in
    or_from (is_false bit) (list_any is_false bits) (true_is_no_false free nodes bit parts.0)
    (none_is_false free nodes bits parts.1)

-- ---- required bits

bit_holds : (free : ℕ → Bool) (nodes : List Node) (uses : List Use) (bit : Bit) → IsAsked uses bit →
    is_false bit ≡ false →
    (0 < bit.index → is_asked (use_at uses (bit.index - 1)) bit.negated ≡ true →
    truth free nodes (node_side (bit.index - 1) bit.negated) ≡ true) →
    truth free nodes bit ≡ true
bit_holds free nodes uses bit asked no_false sound = ⊎_elim
    (λ constant. truth-zero free nodes bit constant ∙ negated constant bit.negated refl)
    (λ other.
    let some : 0 < bit.index = omega arith in
    sym (ap (truth free nodes) (side_is bit some)) ∙ sound some (asked some))
    (cases_eq bit.index 0)
  where
    negated : bit.index ≡ 0 → (n : Bool) → bit.negated ≡ n → n ≡ true
    negated constant true is = refl
    negated constant false is =
        absurd (cc (sym no_false ∙ (λ i. eq-eqb bit.index 0 constant i && not (is i))))

all_from : (free : ℕ → Bool) (nodes : List Node) (uses : List Use) (bits : List Bit) →
    AllByRecursion (IsAsked uses) bits → list_any is_false bits ≡ false →
    ((bit : Bit) → 0 < bit.index → is_asked (use_at uses (bit.index - 1)) bit.negated ≡ true →
    truth free nodes (node_side (bit.index - 1) bit.negated) ≡ true) →
    all_hold free nodes bits ≡ true
all_from free nodes uses [] asked no_false sound = refl
all_from free nodes uses (bit ∷ bits) asked no_false sound =
    let parts = or_parts (is_false bit) (list_any is_false bits) no_false in
    and_from (truth free nodes bit) (all_hold free nodes bits) (bit_holds free nodes uses bit asked.0
    parts.0 (sound bit))
    (all_from free nodes uses bits asked.1 parts.1 sound)

-- ---- bits that are read

reading_value : (free : ℕ → Bool) (nodes : List Node) (variables : List ℕ) (v : Assignment) (bit : Bit) →
    (0 < bit.index → literal_value variables v bit ≡ truth free nodes bit) →
    value_read v (reading_by (variable_by variables) bit) ≡ truth free nodes bit
reading_value free nodes variables v bit same = step (eqb bit.index 0) refl
  where
    step : (b : Bool) → eqb bit.index 0 ≡ b →
        value_read v (if b then Constant bit.negated else Variable (record {
          variable = variable_by
              variables bit.index;
          negated = bit.negated;
        })) ≡ truth free nodes bit
    step true e = sym (truth-zero free nodes bit (eqb-true bit.index 0 e))
    step false e = let some : 0 < bit.index = grind (arith, nat_tests, e) in same some

readings_values : (free : ℕ →
    Bool) (nodes : List Node) (variables : List ℕ) (v : Assignment) (bits : List Bit) →
    AllByRecursion (λ bit. 0 < bit.index → literal_value variables v bit ≡ truth free nodes bit) bits →
    map (value_read v) (map (reading_by (variable_by variables)) bits) ≡ map (truth free nodes) bits
readings_values free nodes variables v [] same = refl
readings_values free nodes variables v (bit ∷ bits) same =
    λ i. reading_value free nodes variables v bit same.0 i ∷ readings_values free nodes variables v bits
    same.1 i

read_numbered : (nodes : List Node) (uses : List Use) (variables : List ℕ) (bound : ℕ) (bit : Bit) →
    length uses ≡ length nodes → length variables ≡ length nodes →
    IsNumbering nodes uses variables bound → IsRead uses bit → 0 < bit.index →
    1 ≤ get_or variables (bit.index - 1) 0
read_numbered nodes uses variables bound bit size size' numbering read some =
    operand_numbered nodes uses variables bound bit.index bit size' numbering
    (operand_same nodes uses bit.index bit true true size (read some) refl (omega arith))

-- a bit that is read has the value of its literal in each model
read_sound : (nodes : List Node) (uses : List Use) (variables : List ℕ) (bound : ℕ) (v : Assignment) (bit :
    Bit) → AreOrdered nodes →
    length uses ≡ length nodes → length variables ≡ length nodes → IsNumbering nodes uses variables bound →
    AreSound nodes uses variables v (length nodes) → IsRead uses bit → 0 < bit.index →
    literal_value variables v bit ≡ truth (free_of variables v) nodes bit
read_sound nodes uses variables bound v bit ordered size size' numbering sound read some =
    let free : ℕ → Bool = free_of variables v in
    let served : IsServed uses bit true true false = read some in
    let among : bit.index ≤ length nodes = omega (arith, size, served.among) in
    same_value (literal_value variables v bit) (truth free nodes bit)
    (operand_rises nodes uses variables bound (length nodes) v bit ordered size' numbering sound
    (operand_same nodes uses (length nodes) bit true true size served refl among))
    (λ off. sym (truth-opposite free nodes bit)
    ∙ operand_rises nodes uses variables bound (length nodes) v (opposite bit) ordered size' numbering sound
    (operand_other nodes uses (length nodes) bit true true size served refl among)
    (literal_value-opposite variables v bit ∙ off))

-- past the end nothing is asked for
asked_place : (uses : List Use) (number : ℕ) (negated : Bool) →
    is_asked (use_at uses number) negated ≡ true → number < length uses
asked_place [] number false asked = absurd (cc asked)
asked_place [] number true asked = absurd (cc asked)
asked_place (own ∷ uses) zero negated asked = omega arith
asked_place (own ∷ uses) (suc number) negated asked = let rest : number < length uses = asked_place uses
    number negated asked in omega (arith, rest)

-- ---- the whole

member : (P : Bit → Type 0) (bits : List Bit) (bit : Bit) → All P bits → Contains bits bit → P bit
member P bits bit all has = subst P has.2 (all has.0 bit has.1)

pub encoding_is : (nodes : List Node) (required read : List Bit) (uses : List Use) (variables : List ℕ)
    (first old formula : Cnf) (readings : List Reading) →
    AreOrdered nodes → AreUses nodes required read uses → length variables ≡ length nodes →
    IsNumbering nodes uses variables old.variables →
    ((v : Assignment) → all_true v first.clauses ≡ not (list_any is_false required)) →
    old.clauses ≡ first.clauses →
    TellsUpTo nodes uses variables (length nodes) old formula →
    readings ≡ map (reading_by (variable_by variables)) read →
    IsEncoding nodes required read formula readings
encoding_is nodes required read uses variables first old formula readings ordered needs size numbering
    starts same tells is = record {
      variable_of = variable_by variables;
      read_by = is;
      counted = λ bit has some. read_numbered nodes uses variables old.variables bit needs.size size numbering
          (member (IsRead uses) read bit needs.all_read has) some;
      within = λ bit has some. subst (λ (n : ℕ). variable_by variables bit.index ≤ n) (sym
          tells.variables_stay) (numbering.within (bit.index - 1));
      apart = λ a b has has' some some' equal. ⊎_elim
          (λ yes_equal. yes_equal)
          (λ other.
          let values : ℕ → Bool = λ number. eqb number (a.index - 1) in
          let v = (numbering.assigns values).0 in
          let on : v (variable_by variables a.index) ≡ true =
          (numbering.assigns values).1 (a.index - 1) (read_numbered nodes uses variables old.variables a
          needs.size size numbering (member (IsRead uses) read a needs.all_read has) some)
          ∙ eq-eqb (a.index - 1) (a.index - 1) refl in
          let differ : b.index - 1 ≢ a.index - 1 = λ e. other (omega (arith, e, some, some')) in
          let off : v (variable_by variables b.index) ≡ false =
          (numbering.assigns values).1 (b.index - 1) (read_numbered nodes uses variables old.variables b
          needs.size size numbering (member (IsRead uses) read b needs.all_read has') some')
          ∙ ne_eqb (b.index - 1) (a.index - 1) differ in
          absurd (cc (sym on ∙ ap v equal ∙ off)))
          (cases_eq a.index b.index);
      has_model = λ free holds.
          let model = numbering.assigns (λ number. truth free nodes (node_bit number)) in
          let starts_true : all_true model.0 old.clauses ≡ true =
          ap (all_true model.0) same ∙ starts model.0 ∙ ap not (none_is_false free nodes required holds) in (
            model.0,
            tells.forth free model.0 model.1 (λ number negated asked. needs.asked free holds number negated
                asked) starts_true,
            ap (map (value_read model.0)) is
                ∙ readings_values free nodes variables model.0 read
                (recursion_from_All (λ bit. 0 < bit.index →
                literal_value variables model.0 bit ≡ truth free nodes bit) read
                (All-weaker (IsRead uses) (λ bit. 0 < bit.index →
                literal_value variables model.0 bit ≡ truth free nodes bit)
                (λ bit reads some. follows_bit nodes variables free model.0 bit some
                (model.1 (bit.index - 1) (read_numbered nodes uses variables old.variables bit needs.size size
                numbering reads some)))
                read needs.all_read)),
          );
      has_values = λ v holds.
          let told = tells.back v holds in
          let no_false : not (list_any is_false required) ≡ true = sym (starts v) ∙ sym (ap (all_true v) same)
          ∙ told.0 in (
            free_of variables v,
            all_from (free_of variables v) nodes uses required (recursion_from_All (IsAsked uses) required
                needs.all_asked) (is_none (list_any is_false required) no_false)
                (λ bit some asked. (told.1 (bit.index - 1) (asked_within bit some asked)).asked bit.negated
                asked),
            ap (map (value_read v)) is
                ∙ readings_values (free_of variables v) nodes variables v read
                (recursion_from_All (λ bit. 0 < bit.index →
                literal_value variables v bit ≡ truth (free_of variables v) nodes bit) read
                (All-weaker (IsRead uses) (λ bit. 0 < bit.index →
                literal_value variables v bit ≡ truth (free_of variables v) nodes bit)
                (λ bit reads some. read_sound nodes uses variables old.variables v bit ordered needs.size size
                numbering told.1 reads some)
                read needs.all_read)),
          );
    }
  where
    is_none : (b : Bool) → not b ≡ true → b ≡ false
    is_none true e = absurd (cc e)
    is_none false e = refl

    -- past the end of the uses nothing is asked for
    asked_within : (bit : Bit) → 0 < bit.index →
        is_asked (use_at uses (bit.index - 1)) bit.negated ≡ true → bit.index - 1 < length nodes
    asked_within bit some asked =
        let among : bit.index - 1 < length uses = asked_place uses (bit.index - 1) bit.negated asked in
        omega (arith, among, needs.size)

-- ---- what the calls leave

pub reads_fit : (nodes : List Node) (required read : List Bit) (uses shown : List Use) (variables
    shown_variables : List ℕ) (bound known : ℕ) →
    AreUses nodes required read uses → length variables ≡ length nodes → shown ≡ uses →
    IsNumbering nodes shown variables known →
    shown_variables ≡ variables → bound ≡ known → All (λ bit. 0 < bit.index →
    HasVariable shown_variables bound bit) read
reads_fit nodes required read uses shown variables shown_variables bound known needs size same numbering is
    equal =
    subst (λ (vs : List ℕ). All (λ bit. 0 < bit.index → HasVariable vs bound bit) read) (sym is)
    (subst (λ (n : ℕ). All (λ bit. 0 < bit.index → HasVariable variables n bit) read) (sym equal)
    (All-weaker (IsRead uses) (λ bit. 0 < bit.index → HasVariable variables known bit)
    (λ bit reads some. operand_has_variable nodes uses variables known bit.index bit size
    (subst (λ (us : List Use). IsNumbering nodes us variables known) same numbering)
    (operand_same nodes uses bit.index bit true true needs.size (reads some) refl (omega arith)))
    read needs.all_read))

pub encoded : (original nodes : List Node) (required read : List Bit) (uses shown shown_again : List Use)
    (variables told seen : List ℕ) (first old formula : Cnf)
    (readings made : List Reading) → nodes ≡ original → AreOrdered original →
    AreUses nodes required read uses → shown ≡ uses → shown_again ≡ uses →
    told ≡ variables → seen ≡ variables → length variables ≡ length nodes →
    IsNumbering nodes shown variables old.variables →
    ((v : Assignment) → all_true v first.clauses ≡ not (list_any is_false required)) →
    old.clauses ≡ first.clauses →
    TellsUpTo nodes shown_again told (length nodes) old formula →
    made ≡ map (reading_by (variable_by seen)) read → readings ≡ made →
    IsEncoding original required read formula readings
encoded original nodes required read uses shown shown_again variables told seen first old formula readings
    made is ordered needs same again told_is seen_is size numbering
    starts clauses tells maps made_is =
    subst (λ (ns : List Node). IsEncoding ns required read formula readings) is
    (encoding_is nodes required read uses variables first old formula readings (subst AreOrdered (sym is)
    ordered) needs size
    (subst (λ (us : List Use). IsNumbering nodes us variables old.variables) same numbering) starts clauses
    (subst (λ (us : List Use). TellsUpTo nodes us variables (length nodes) old formula) again
    (subst (λ (vs : List ℕ). TellsUpTo nodes shown_again vs (length nodes) old formula) told_is tells))
    (made_is ∙ maps ∙ ap (λ (vs : List ℕ). map (reading_by (variable_by vs)) read) seen_is))
