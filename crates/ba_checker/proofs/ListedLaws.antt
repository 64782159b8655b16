-- Clauses listed under one literal each.

use Rattle.std.proofs.Common.{◌≡◌, ◌≢◌, ℕ, suc, zero, ◌+◌, ◌-◌, ◌^◌, ◌<◌, ◌≤◌, Bool, true, false, not, ◌&&◌, ◌||◌, List, [], ◌∷◌, ◌++◌, ltb, length, get_or, set, cond, eqb, refl, sym, ap, ◌∙◌, arith, subst, ⊎_elim, Result, Ok, Err}
use Rattle.std.specs.Result.{is_err, OnOk}
use Rattle.std.proofs.lemmas.List.{get_or-set_same, get_or-set_other, get_or_append_left, get_or_push, get_or_past, length-append, length_push, length-map, length-set, map-append, map-set, get_or-map}
use Rattle.std.proofs.lemmas.Bool.{cases_eq, cases_lt, eq-eqb, ne_eqb, eqb-true, or_left, or_right, or_cases, and_parts}
use Rattle.std.proofs.lemmas.Bool.Decides.{nat_tests}
use Rattle.ba_lits.specs.Literals.{Literal, index_of}
use Rattle.ba_lits.specs.Hints.{has_literal}
use Rattle.ba_lits.specs.Members.{has_index}
use Rattle.ba_lits.proofs.Members.{has_literal-is}
use Rattle.ba_checker.specs.States.{Kept, is_live_origin, is_live_at, lits_at, without, without_all}
use Rattle.ba_checker.specs.Parts.{is_part, is_live_part, holds_clause}
use Rattle.ba_checker.specs.Listed.{keys_of, all_keys, links, firsts, latest, AreLinks, is_key, are_keys, is_listed, AreListed, anew, AreLinkedBelow, is_part_at, any_listed, under_any}
use Rattle.ba_checker.specs.declared.index.Keys.{Keys}
use Rattle.ba_checker.specs.declared.index.Node.{Node}

-- places below the end of a list see the same keys in a longer one
pub latest-push : (keys : List ℕ) (k key n : ℕ) → n ≤ length keys →
    latest (keys ++ k ∷ []) key n ≡ latest keys key n
latest-push keys k key zero le = refl
latest-push keys k key (suc n) le =
    ap (λ x. cond (eqb x key) (suc n) (latest (keys ++ k ∷ []) key n))
    (get_or_append_left keys (k ∷ []) 0 n (omega arith))
    ∙ ap (λ x. cond (eqb (get_or keys n 0) key) (suc n) x) (latest-push keys k key n (omega arith))

-- the place at the end has the pushed key
latest_last : (keys : List ℕ) (k : ℕ) → latest (keys ++ k ∷ []) k (suc (length keys)) ≡ suc (length keys)
latest_last keys k =
    ap (λ x. cond (eqb x k) (suc (length keys)) (latest (keys ++ k ∷ []) k (length keys)))
    (get_or_push keys k 0 (length keys) refl)
    ∙ ap (λ b. cond b (suc (length keys)) (latest (keys ++ k ∷ []) k (length keys))) (eq-eqb k k refl)

latest_other : (keys : List ℕ) (k key : ℕ) → key ≢ k →
    latest (keys ++ k ∷ []) key (suc (length keys)) ≡ latest keys key (length keys)
latest_other keys k key ne =
    ap (λ x. cond (eqb x key) (suc (length keys)) (latest (keys ++ k ∷ []) key (length keys)))
    (get_or_push keys k 0 (length keys) refl)
    ∙ (ap (λ b. cond b (suc (length keys)) (latest (keys ++ k ∷ []) key (length keys)))
    (ne_eqb k key (λ e. ne (sym e)))
    ∙ latest-push keys k key (length keys) (omega arith))

-- a clause is listed
pub AreLinks-push : (keys heads longer earlier : List ℕ) (k : ℕ) → AreLinks keys heads earlier →
    ((key : ℕ) → get_or longer key 0 ≡ get_or heads key 0) → k < length longer → length keys + 1 < 2 ^ 32 →
    AreLinks (keys ++ k ∷ []) (set longer k (length keys + 1)) (earlier ++ get_or longer k 0 ∷ [])
AreLinks-push keys heads longer earlier k h same within few = record {
  few = let n = length_push keys k in omega (arith, n, few);
  same = rw (length-append earlier (get_or longer k 0 ∷ []), length-append keys (k ∷ []))
      (omega (arith, h.same));
  heads_are = λ key. rw (length_push keys k) (heads_are key);
  earlier_are = λ place lt. earlier_are place (let n = length_push keys k in omega (arith, n, lt));
}
  where
    n_is : length keys + 1 ≡ suc (length keys)
    n_is = omega arith

    heads_are : (key : ℕ) → get_or (set longer k (length keys + 1)) key 0
        ≡ latest (keys ++ k ∷ []) key (length keys + 1)
    heads_are key = ⊎_elim
        (λ e. ap (λ x. get_or (set longer k (length keys + 1)) x 0) e
        ∙ (get_or-set_same longer k (length keys + 1) 0 within
        ∙ (n_is ∙ (sym (latest_last keys k) ∙ (ap (latest (keys ++ k ∷ []) k) (sym n_is)
        ∙ ap (λ x. latest (keys ++ k ∷ []) x (length keys + 1)) (sym e))))))
        (λ ne. get_or-set_other longer k key (length keys + 1) 0 ne
        ∙ (same key ∙ (h.heads_are key ∙ (sym (latest_other keys k key ne)
        ∙ ap (latest (keys ++ k ∷ []) key) (sym n_is)))))
        (cases_eq key k)

    at_end : get_or (earlier ++ get_or longer k 0 ∷ []) (length keys) 0
        ≡ latest (keys ++ k ∷ []) (get_or (keys ++ k ∷ []) (length keys) 0) (length keys)
    at_end = get_or_push earlier (get_or longer k 0) 0 (length keys) h.same
        ∙ (same k ∙ (h.heads_are k ∙ (sym (latest-push keys k k (length keys) (omega arith))
        ∙ ap (λ x. latest (keys ++ k ∷ []) x (length keys))
        (sym (get_or_push keys k 0 (length keys) refl)))))

    earlier_are : (place : ℕ) → place < length keys + 1 →
        get_or (earlier ++ get_or longer k 0 ∷ []) place 0
        ≡ latest (keys ++ k ∷ []) (get_or (keys ++ k ∷ []) place 0) place
    earlier_are place lt = ⊎_elim
        (λ e. rw e at_end)
        (λ ne. let below : place < length keys = omega arith in
        get_or_append_left earlier (get_or longer k 0 ∷ []) 0 place (omega (arith, h.same))
        ∙ (h.earlier_are place below ∙ (sym (latest-push keys k (get_or keys place 0) place (omega arith))
        ∙ ap (λ x. latest (keys ++ k ∷ []) x place) (sym
        (get_or_append_left keys (k ∷ []) 0 place below)))))
        (cases_eq place (length keys))

-- the last clause is taken back
pub AreLinks-pop : (keys heads earlier : List ℕ) (k e : ℕ) →
    AreLinks (keys ++ k ∷ []) heads (earlier ++ e ∷ []) → AreLinks keys (set heads k e) earlier
AreLinks-pop keys heads earlier k e h = record {
  same = same;
  few = let n = length_push keys k in omega (arith, n, h.few);
  heads_are = heads_are;
  earlier_are = earlier_are;
}
  where
    same : length earlier ≡ length keys
    same = let a = length_push earlier e in let b = length_push keys k in omega (arith, a, b, h.same)

    n_is : length (keys ++ k ∷ []) ≡ suc (length keys)
    n_is = let b = length_push keys k in omega (arith, b)

    head_at : (key : ℕ) → get_or heads key 0 ≡ latest (keys ++ k ∷ []) key (suc (length keys))
    head_at key = h.heads_are key ∙ ap (latest (keys ++ k ∷ []) key) n_is

    within : k < length heads
    within = ⊎_elim
        (λ lt. lt)
        (λ ge. let past = get_or_past heads k 0 ge in let last = head_at k ∙ latest_last keys k in
        absurd (omega (arith, past, last)))
        (cases_lt k (length heads))

    e_is : e ≡ latest keys k (length keys)
    e_is = sym (get_or_push earlier e 0 (length keys) same)
        ∙ (h.earlier_are (length keys) (omega (arith, n_is))
        ∙ (ap (λ x. latest (keys ++ k ∷ []) x (length keys)) (get_or_push keys k 0 (length keys) refl)
        ∙ latest-push keys k k (length keys) (omega arith)))

    heads_are : (key : ℕ) → get_or (set heads k e) key 0 ≡ latest keys key (length keys)
    heads_are key = ⊎_elim
        (λ same_key. rw same_key (get_or-set_same heads k e 0 within ∙ e_is))
        (λ ne. get_or-set_other heads k key e 0 ne ∙ (head_at key ∙ latest_other keys k key ne))
        (cases_eq key k)

    earlier_are : (place : ℕ) → place < length keys →
        get_or earlier place 0 ≡ latest keys (get_or keys place 0) place
    earlier_are place lt =
        sym (get_or_append_left earlier (e ∷ []) 0 place (omega (arith, same)))
        ∙ (h.earlier_are place (omega (arith, n_is)) ∙ (ap (λ x. latest (keys ++ k ∷ []) x place)
        (get_or_append_left keys (k ∷ []) 0 place lt)
        ∙ latest-push keys k (get_or keys place 0) place (omega arith)))

pub AreLinks-none : AreLinks [] [] []
AreLinks-none = record {
  same = refl;
  few = omega arith;
  heads_are = λ key. refl;
  earlier_are =
      λ place lt. absurd (omega arith);
}

-- the latest place of a key has the key, and no later one has
pub latest-le : (keys : List ℕ) (key n : ℕ) → latest keys key n ≤ n
latest-le keys key zero = omega arith
latest-le keys key (suc n) = step (eqb (get_or keys n 0) key) (latest keys key n) n (latest-le keys key n)
  where
    step : (b : Bool) (m n : ℕ) → m ≤ n → cond b (suc n) m ≤ suc n
    step true m n le = omega arith
    step false m n le = omega arith

pub latest_has : (keys : List ℕ) (key n : ℕ) → 0 < latest keys key n →
    get_or keys (latest keys key n - 1) 0 ≡ key
latest_has keys key zero pos = absurd (omega arith)
latest_has keys key (suc n) pos = step (eqb (get_or keys n 0) key) refl (latest_has keys key n)
  where
    e : suc n - 1 ≡ n
    e = omega arith

    step : (b : Bool) → eqb (get_or keys n 0) key ≡ b →
        (0 < latest keys key n → get_or keys (latest keys key n - 1) 0 ≡ key) →
        get_or keys (cond (eqb (get_or keys n 0) key) (suc n) (latest keys key n) - 1) 0 ≡ key
    step true is rest = rw is (ap (λ x. get_or keys x 0) e ∙ eqb-true (get_or keys n 0) key is)
    step false is rest =
        let P : Bool → Type 0 = λ b. 0 < cond b (suc n) (latest keys key n) in
        let still : 0 < latest keys key n = subst P is pos in
        rw is (rest still)

-- places of other keys are passed over
pub any_listed-latest : (clauses : List Kept) (keys : List ℕ) (key : ℕ) (lits : List Literal) (n : ℕ) →
    any_listed clauses keys key lits n ≡ any_listed clauses keys key lits (latest keys key n)
any_listed-latest clauses keys key lits zero = refl
any_listed-latest clauses keys key lits (suc n) =
    step (eqb (get_or keys n 0) key) refl (any_listed-latest clauses keys key lits n)
  where
    step : (b : Bool) → eqb (get_or keys n 0) key ≡ b →
        any_listed clauses keys key lits n ≡ any_listed clauses keys key lits (latest keys key n) →
        any_listed clauses keys key lits (suc n) ≡ any_listed clauses keys key lits
        (cond (eqb (get_or keys n 0) key) (suc n) (latest keys key n))
    step true is rest = ap (λ b. any_listed clauses keys key lits (cond b (suc n) (latest keys key n)))
        (sym is)
    step false is rest =
        ap (λ b. (b && is_part_at clauses n lits) || any_listed clauses keys key lits n) is
        ∙ (rest ∙ ap (λ b. any_listed clauses keys key lits (cond b (suc n) (latest keys key n))) (sym is))

any_suc : (clauses : List Kept) (keys : List ℕ) (key : ℕ) (lits : List Literal) (place : ℕ) →
    get_or keys place 0 ≡ key →
    any_listed clauses keys key lits (suc place) ≡ (is_part_at clauses place lits
    || any_listed clauses keys key lits place)
any_suc clauses keys key lits place has =
    ap (λ b. (b && is_part_at clauses place lits) || any_listed clauses keys key lits place)
    (ap (λ x. eqb x key) has ∙ eq-eqb key key refl)

next_is : (next place : ℕ) → 0 < next → place ≡ next - 1 → next ≡ suc place
next_is next place pos e = omega arith

-- a step of the walk along a key's clauses
pub walk_step : (clauses : List Kept) (keys : List ℕ) (key : ℕ) (lits : List Literal)
    (next place earlier : ℕ) (all part : Bool) →
    0 < next → place ≡ next - 1 → (0 < next → get_or keys (next - 1) 0 ≡ key) →
    earlier ≡ latest keys (get_or keys place 0) place → any_listed clauses keys key lits next ≡ all →
    part ≡ is_part_at clauses place lits → part ≡ false →
    (earlier ≤ place) × (0 < earlier → get_or keys (earlier - 1) 0 ≡ key)
    × (any_listed clauses keys key lits earlier ≡ all)
walk_step clauses keys key lits next place earlier all part pos place_is has earlier_is inv part_is fails =
    let here : get_or keys place 0 ≡ key = ap (λ x. get_or keys x 0) place_is ∙ has pos in
    let before : earlier ≡ latest keys key place = earlier_is ∙ ap (λ x. latest keys x place) here in
    let skipped : any_listed clauses keys key lits (suc place) ≡ any_listed clauses keys key lits place =
    any_suc clauses keys key lits place here ∙ ap (λ b. b || any_listed clauses keys key lits place)
    (sym part_is ∙ fails) in (
      rw before (latest-le keys key place),
      λ some. ap (λ x. get_or keys (x - 1) 0) before
          ∙ latest_has keys key place (let P : ℕ → Type 0 = λ x. 0 < x in subst P before some),
      ap (any_listed clauses keys key lits) before ∙ (sym (any_listed-latest clauses keys key lits place)
          ∙ (sym skipped ∙ (ap (any_listed clauses keys key lits) (sym (next_is next place pos place_is))
          ∙ inv))),
    )

-- the walk finds a part
pub walk_found : (clauses : List Kept) (keys : List ℕ) (key : ℕ) (lits : List Literal) (next place : ℕ)
    (all part : Bool) →
    0 < next → place ≡ next - 1 → (0 < next → get_or keys (next - 1) 0 ≡ key) →
    any_listed clauses keys key lits next ≡ all → part ≡ is_part_at clauses place lits → part ≡ true →
    true ≡ all
walk_found clauses keys key lits next place all part pos place_is has inv part_is holds =
    let here : get_or keys place 0 ≡ key = ap (λ x. get_or keys x 0) place_is ∙ has pos in
    sym (sym inv ∙ (ap (any_listed clauses keys key lits) (next_is next place pos place_is)
    ∙ (any_suc clauses keys key lits place here ∙ ap (λ b. b || any_listed clauses keys key lits place)
    (sym part_is ∙ holds))))

-- where the walk begins
pub walk_start : (clauses : List Kept) (keys : List ℕ) (key : ℕ) (lits : List Literal) (next n : ℕ) →
    next ≡ latest keys key n →
    (next ≤ n) × (0 < next → get_or keys (next - 1) 0 ≡ key)
    × (any_listed clauses keys key lits next ≡ any_listed clauses keys key lits n)
walk_start clauses keys key lits next n is = (
  rw is (latest-le keys key n),
  λ some. ap (λ x. get_or keys (x - 1) 0) is ∙ latest_has keys key n (let P : ℕ → Type 0 = λ x. 0 < x in
      subst P is some),
  ap (any_listed clauses keys key lits) is ∙ sym (any_listed-latest clauses keys key lits n),
)

-- what the code has of lists of nodes
length-firsts : (all : List Keys) → length (firsts all) ≡ length all
length-firsts all = length-map all (λ (k : Keys). k.key)

pub length-keys : (nodes : List Node) → length (all_keys nodes) ≡ length nodes
length-keys nodes = length-map nodes keys_of

firsts-push : (nodes : List Node) (node : Node) →
    firsts (all_keys (nodes ++ node ∷ [])) ≡ firsts (all_keys nodes) ++ node.key ∷ []
firsts-push nodes node = ap firsts (map-append keys_of nodes (node ∷ []))
    ∙ map-append (λ (k : Keys). k.key) (all_keys nodes) (keys_of node ∷ [])

links-push : (nodes : List Node) (node : Node) → links (nodes ++ node ∷ []) ≡ links nodes ++ node.earlier ∷ []
links-push nodes node = map-append (λ (n : Node). n.earlier) nodes (node ∷ [])

links_as : (keys others heads relinked earlier before : List ℕ) → others ≡ keys → relinked ≡ heads →
    before ≡ earlier → AreLinks keys heads earlier → AreLinks others relinked before
links_as keys others heads relinked earlier before a b c h = rw (a, b, c) h

-- what the code has after it listed a clause, and after it took the last one back
pub listed_more : (nodes more : List Node) (heads longer relinked : List ℕ) (node : Node) (keys : Keys)
    (place link : ℕ) → AreLinks (firsts (all_keys nodes)) heads (links nodes) →
    ((k : ℕ) → get_or longer k 0 ≡ get_or heads k 0) → keys.key < length longer →
    place ≡ length nodes → place + 1 < 2 ^ 32 → keys_of node ≡ keys → node.earlier ≡ link →
    link ≡ get_or heads keys.key 0 → more ≡ nodes ++ node ∷ [] →
    relinked ≡ set longer keys.key (place + 1) →
    AreLinks (firsts (all_keys more)) relinked (links more)
listed_more nodes more heads longer relinked node keys place link h same within place_is few keys_is
    earlier_is link_is more_is relinked_is =
    let n : length (firsts (all_keys nodes)) ≡ length nodes = length-firsts (all_keys nodes)
    ∙ length-keys nodes in
    links_as (firsts (all_keys nodes) ++ keys.key ∷ []) (firsts (all_keys more))
    (set longer keys.key (length (firsts (all_keys nodes)) + 1)) relinked (links nodes
    ++ get_or longer keys.key 0 ∷ []) (links more)
    (ap (λ m. firsts (all_keys m)) more_is ∙ (firsts-push nodes node
    ∙ ap (λ (k : Keys). firsts (all_keys nodes) ++ k.key ∷ []) keys_is))
    (relinked_is ∙ ap (λ m. set longer keys.key (m + 1)) (place_is ∙ sym n))
    (ap links more_is ∙ (links-push nodes node ∙ ap (λ e. links nodes ++ e ∷ []) (earlier_is
    ∙ (link_is ∙ sym (same keys.key)))))
    (AreLinks-push (firsts (all_keys nodes)) heads longer (links nodes) keys.key h same within
    (omega (arith, n, place_is, few)))

pub listed_less : (nodes less : List Node) (heads relinked : List ℕ) (node : Node) →
    AreLinks (firsts (all_keys nodes)) heads (links nodes) → nodes ≡ less ++ node ∷ [] →
    relinked ≡ set heads node.key node.earlier →
    AreLinks (firsts (all_keys less)) relinked (links less)
listed_less nodes less heads relinked node h nodes_is relinked_is =
    rw relinked_is (AreLinks-pop (firsts (all_keys less)) heads (links less) node.key node.earlier
    (links_as (firsts (all_keys nodes)) (firsts (all_keys less) ++ node.key ∷ []) heads heads (links nodes)
    (links less ++ node.earlier ∷ [])
    (sym (ap (λ m. firsts (all_keys m)) nodes_is ∙ firsts-push less node)) refl
    (sym (ap links nodes_is ∙ links-push less node)) h))

-- what the code reads
-- the head of a key that a clause has is in the table
latest_there : (keys : List ℕ) (key place n : ℕ) → place < n → get_or keys place 0 ≡ key →
    0 < latest keys key n
latest_there keys key place zero lt has = absurd (omega arith)
latest_there keys key place (suc n) lt has = step (eqb (get_or keys n 0) key) refl
    (λ other. latest_there keys key place n (omega (arith, lt, other)) has)
  where
    here : eqb (get_or keys place 0) key ≡ true
    here = ap (λ x. eqb x key) has ∙ eq-eqb key key refl

    apart : eqb (get_or keys n 0) key ≡ false → place ≢ n
    apart is same = let e : eqb (get_or keys n 0) key ≡ true =
        ap (λ p. eqb (get_or keys p 0) key) (sym same) ∙ here in absurd (let f = sym e ∙ is in cc)

    step : (b : Bool) → eqb (get_or keys n 0) key ≡ b → (place ≢ n → 0 < latest keys key n) →
        0 < cond (eqb (get_or keys n 0) key) (suc n) (latest keys key n)
    step true is rest = rw is (omega arith)
    step false is rest = rw is (rest (apart is))

key_room : (keys heads earlier : List ℕ) (place : ℕ) → AreLinks keys heads earlier → place < length keys →
    get_or keys place 0 < length heads
key_room keys heads earlier place h lt =
    ⊎_elim
    (λ within. within)
    (λ past. let none = get_or_past heads (get_or keys place 0) 0 past in
    let some = latest_there keys (get_or keys place 0) place (length keys) lt refl in
    let is = h.heads_are (get_or keys place 0) in
    absurd (omega (arith, none, some, is)))
    (cases_lt (get_or keys place 0) (length heads))

-- clauses are linked anew
pub linked_start : (nodes : List Node) (heads cleared : List ℕ) (clauses : List Kept) →
    AreLinks (firsts (all_keys nodes)) heads (links nodes) → AreListed (all_keys nodes) clauses →
    ((k : ℕ) → get_or cleared k 0 ≡ 0) → length cleared ≡ length heads →
    AreLinkedBelow 0 (all_keys nodes) cleared (links nodes) clauses
linked_start nodes heads cleared clauses h listed none long =
    let n = length-firsts (all_keys nodes) in record {
      same = h.same ∙ n;
      few = omega (arith, n, h.few);
      heads_are = λ key. none key;
      earlier_are = λ place lt. absurd (omega (arith, lt));
      room = λ place lt. let within = key_room (firsts (all_keys nodes)) heads (links nodes) place h
          (omega (arith, lt, n)) in omega (arith, within, long);
      listed = listed;
    }

latest-set : (keys : List ℕ) (n k key m : ℕ) → m ≤ n → latest (set keys n k) key m ≡ latest keys key m
latest-set keys n k key zero le = refl
latest-set keys n k key (suc m) le =
    ap (λ x. cond (eqb x key) (suc m) (latest (set keys n k) key m))
    (get_or-set_other keys n m k 0 (λ e. omega (arith, e, le)))
    ∙ ap (λ x. cond (eqb (get_or keys m 0) key) (suc m) x) (latest-set keys n k key m (omega arith))

AreListed-set : (all : List Keys) (clauses : List Kept) (n : ℕ) (k : Keys) → AreListed all clauses →
    (is_live_at clauses n ≡ true → k ≡ get_or all n k) → AreListed (set all n k) clauses
AreListed-set [] [] n k h same = tt
AreListed-set [] (c ∷ cs) n k h same = absurd h
AreListed-set (x ∷ xs) [] n k h same = absurd h
AreListed-set (x ∷ xs) (c ∷ cs) zero k h same = (step (is_live_origin c.origin) refl, h.1)
  where
    step : (b : Bool) → is_live_origin c.origin ≡ b → is_listed k c ≡ true
    step true is = ap (λ y. is_listed y c) (same is) ∙ h.0
    step false is = ap (λ b. not b || are_keys k c.lits) is
AreListed-set (x ∷ xs) (c ∷ cs) (suc n) k h same = (h.0, AreListed-set xs cs n k h.1 same)

-- the clause at place n comes under a key
linked_here : (n : ℕ) (all : List Keys) (heads earlier : List ℕ) (clauses : List Kept) (k : Keys) →
    AreLinkedBelow n all heads earlier clauses → n < length all → k.key < length heads →
    (is_live_at clauses n ≡ true → k ≡ get_or all n k) →
    AreLinkedBelow (n + 1) (set all n k) (set heads k.key (n + 1)) (set earlier n (get_or heads k.key 0))
    clauses
linked_here n all heads earlier clauses k h lt within same = record {
  same = length-set earlier n (get_or heads k.key 0) ∙ (h.same ∙ sym (length-set all n k));
  few = let m = length-set all n k in omega (arith, m, h.few);
  heads_are = λ key. rw n_is (heads_are key);
  earlier_are = earlier_are;
  room = room;
  listed = AreListed-set all clauses n k h.listed same;
}
  where
    ks : List ℕ
    ks = firsts all

    ks_are : firsts (set all n k) ≡ set ks n k.key
    ks_are = map-set (λ (x : Keys). x.key) all n k

    n_is : n + 1 ≡ suc n
    n_is = omega arith

    long : length ks ≡ length all
    long = length-firsts all

    own : get_or (set ks n k.key) n 0 ≡ k.key
    own = get_or-set_same ks n k.key 0 (omega (arith, long, lt))

    latest_at : (key : ℕ) → latest (set ks n k.key) key (suc n)
        ≡ cond (eqb k.key key) (suc n) (latest ks key n)
    latest_at key =
        ap (λ x. cond (eqb x key) (suc n) (latest (set ks n k.key) key n)) own
        ∙ ap (λ x. cond (eqb k.key key) (suc n) x) (latest-set ks n k.key key n (omega arith))

    heads_are : (key : ℕ) → get_or (set heads k.key (suc n)) key 0 ≡ latest (firsts (set all n k)) key (suc n)
    heads_are key =
        let whole : latest (firsts (set all n k)) key (suc n)
        ≡ cond (eqb k.key key) (suc n) (latest ks key n) =
        ap (λ all_firsts. latest all_firsts key (suc n)) ks_are ∙ latest_at key in
        ⊎_elim
        (λ e. let test : eqb k.key key ≡ true = ap (eqb k.key) e ∙ eq-eqb k.key k.key refl in
        ap (λ x. get_or (set heads k.key (suc n)) x 0) e
        ∙ (get_or-set_same heads k.key (suc n) 0 within
        ∙ sym (whole ∙ ap (λ b. cond b (suc n) (latest ks key n)) test)))
        (λ ne. let test : eqb k.key key ≡ false = ne_eqb k.key key (λ e. ne (sym e)) in
        get_or-set_other heads k.key key (suc n) 0 ne
        ∙ (h.heads_are key ∙ sym (whole ∙ ap (λ b. cond b (suc n) (latest ks key n)) test)))
        (cases_eq key k.key)

    earlier_are : (place : ℕ) → place < n + 1 → get_or (set earlier n (get_or heads k.key 0)) place 0
        ≡ latest (firsts (set all n k)) (get_or (firsts (set all n k)) place 0) place
    earlier_are place lt_place =
        let whole : latest (firsts (set all n k)) (get_or (firsts (set all n k)) place 0) place
        ≡ latest ks (get_or (set ks n k.key) place 0) place =
        ap (λ all_firsts. latest all_firsts (get_or all_firsts place 0) place) ks_are
        ∙ latest-set ks n k.key (get_or (set ks n k.key) place 0) place (omega (arith, lt_place)) in
        ⊎_elim
        (λ e. ap (λ p. get_or (set earlier n (get_or heads k.key 0)) p 0) e
        ∙ (get_or-set_same earlier n (get_or heads k.key 0) 0 (omega (arith, h.same, lt))
        ∙ (h.heads_are k.key ∙ sym (whole ∙ ap (λ p. latest ks (get_or (set ks n k.key) p 0) p) e
        ∙ ap (λ x. latest ks x n) own))))
        (λ ne. get_or-set_other earlier n place (get_or heads k.key 0) 0 ne
        ∙ (h.earlier_are place (omega (arith, lt_place, ne))
        ∙ sym (whole ∙ ap (λ x. latest ks x place) (get_or-set_other ks n place k.key 0 ne))))
        (cases_eq place n)

    room : (place : ℕ) → place < length (set all n k) →
        get_or (firsts (set all n k)) place 0 < length (set heads k.key (n + 1))
    room place lt_place =
        let heads_long = length-set heads k.key (n + 1) in
        let all_long = length-set all n k in
        let read = ap (λ all_firsts. get_or all_firsts place 0) ks_are in
        ⊎_elim
        (λ e. let here = read ∙ (ap (λ p. get_or (set ks n k.key) p 0) e ∙ own) in
        omega (arith, here, within, heads_long))
        (λ ne. let there = read ∙ get_or-set_other ks n place k.key 0 ne in let old =
        h.room place (omega (arith, lt_place, all_long)) in omega (arith, there, old, heads_long))
        (cases_eq place n)

-- what the code has after it linked the clause at place n
pub linked_step : (n : ℕ) (nodes more : List Node) (heads relinked : List ℕ) (clauses : List Kept)
    (keeps : Bool) (read node : Node) → AreLinkedBelow n (all_keys nodes) heads (links nodes) clauses →
    n < length nodes → read ≡ get_or nodes n read →
    keeps ≡ (is_live_at clauses n || ltb (length heads) 2) → node ≡ anew keeps read heads →
    more ≡ set nodes n node → relinked ≡ set heads node.key (n + 1) →
    AreLinkedBelow (n + 1) (all_keys more) relinked (links more) clauses
linked_step n nodes more heads relinked clauses keeps read node h lt read_is keeps_is node_is more_is
    relinked_is =
    let m = length-keys nodes in
    let P : List Keys → List ℕ → Type 0 = λ ks es. AreLinkedBelow (n + 1) ks relinked es clauses in
    let Q : List ℕ → List ℕ → Type 0 = λ hs es. AreLinkedBelow (n + 1)
    (set (all_keys nodes) n (keys_of node)) hs es clauses in
    let keys_are : set (all_keys nodes) n (keys_of node) ≡ all_keys more =
    sym (ap all_keys more_is ∙ map-set keys_of nodes n node) in
    let earlier_is : get_or heads node.key 0 ≡ node.earlier =
    ap (λ (x : Node). get_or heads x.key 0) node_is ∙ sym (ap (λ (x : Node). x.earlier) node_is) in
    let links_are : set (links nodes) n (get_or heads node.key 0) ≡ links more =
    ap (set (links nodes) n) earlier_is ∙ sym (ap links more_is
    ∙ map-set (λ (x : Node). x.earlier) nodes n node) in
    subst (λ ks. P ks (links more)) keys_are
    (subst (λ hs. Q hs (links more)) (sym relinked_is)
    (subst (λ es. Q (set heads node.key (n + 1)) es) links_are
    (linked_here n (all_keys nodes) heads (links nodes) clauses (keys_of node) h (omega (arith, lt, m))
    (key_within keeps refl) (λ lives. stays lives))))
  where
    old_key : get_or (firsts (all_keys nodes)) n 0 ≡ read.key
    old_key =
        let m = length-keys nodes in
        get_or-map (λ (k : Keys). k.key) (all_keys nodes) n (keys_of read) 0 (omega (arith, lt, m))
        ∙ ap (λ (k : Keys). k.key) (get_or-map keys_of nodes n read (keys_of read) lt
        ∙ ap keys_of (sym read_is))

    more_two : (x : ℕ) (a : Bool) → (a || ltb x 2) ≡ false → 1 < x
    more_two x true e = absurd (cc)
    more_two x false e = grind (arith, nat_tests)

    key_is : node.key ≡ cond keeps read.key 1
    key_is = ap (λ (x : Node). x.key) node_is

    key_within : (b : Bool) → keeps ≡ b → node.key < length heads
    key_within true is =
        let m = length-keys nodes in
        let old = h.room n (omega (arith, lt, m)) in
        let same : node.key ≡ read.key = key_is ∙ ap (λ b. cond b read.key 1) is in
        omega (arith, old, old_key, same)
    key_within false is =
        let same : node.key ≡ 1 = key_is ∙ ap (λ b. cond b read.key 1) is in
        let two = more_two (length heads) (is_live_at clauses n) (sym keeps_is ∙ is) in
        omega (arith, same, two)

    stays : is_live_at clauses n ≡ true → keys_of node ≡ get_or (all_keys nodes) n (keys_of node)
    stays lives =
        let kept_key : keeps ≡ true = keeps_is ∙ ap (λ b. b || ltb (length heads) 2) lives in
        let same : keys_of node ≡ keys_of read = ap keys_of node_is
        ∙ ap (λ b. keys_of (anew b read heads)) kept_key in
        same ∙ (ap keys_of read_is ∙ sym (get_or-map keys_of nodes n read (keys_of node) lt))

-- each clause has its keys
pub AreListed-length : (all : List Keys) (clauses : List Kept) → AreListed all clauses →
    length all ≡ length clauses
AreListed-length [] [] h = refl
AreListed-length [] (c ∷ cs) h = absurd h
AreListed-length (k ∷ ks) [] h = absurd h
AreListed-length (k ∷ ks) (c ∷ cs) h = ap suc (AreListed-length ks cs h.1)

pub AreListed-push : (all : List Keys) (clauses : List Kept) (k : Keys) (c : Kept) → AreListed all clauses →
    is_listed k c ≡ true → AreListed (all ++ k ∷ []) (clauses ++ c ∷ [])
AreListed-push [] [] k c h is = (is, tt)
AreListed-push [] (d ∷ ds) k c h is = absurd h
AreListed-push (x ∷ xs) [] k c h is = absurd h
AreListed-push (x ∷ xs) (d ∷ ds) k c h is = (h.0, AreListed-push xs ds k c h.1 is)

pub AreListed-added : (all more : List Keys) (clauses grown : List Kept) (k : Keys) (c : Kept) →
    AreListed all clauses → more ≡ all ++ k ∷ [] → grown ≡ clauses ++ c ∷ [] → are_keys k c.lits ≡ true →
    AreListed more grown
AreListed-added all more clauses grown k c h more_is grown_is is =
    rw (more_is, grown_is) (AreListed-push all clauses k c h
    (or_right (not (is_live_origin c.origin)) (are_keys k c.lits) is))

-- a clause is deleted
pub AreListed-without : (keys : List Keys) (clauses : List Kept) (number : ℕ) → AreListed keys clauses →
    AreListed keys (without clauses number)
AreListed-without keys clauses zero h = h
AreListed-without [] [] (suc place) h = h
AreListed-without [] (c ∷ cs) (suc place) h = absurd h
AreListed-without (k ∷ ks) [] (suc place) h = absurd h
AreListed-without (k ∷ ks) (c ∷ cs) (suc zero) h = (refl, h.1)
AreListed-without (k ∷ ks) (c ∷ cs) (suc (suc place)) h = (h.0, AreListed-without ks cs (suc place) h.1)

pub AreListed-without_all : (keys : List Keys) (clauses : List Kept) (numbers : List ℕ) →
    AreListed keys clauses → AreListed keys (without_all clauses numbers)
AreListed-without_all keys clauses [] h = h
AreListed-without_all keys clauses (number ∷ numbers) h =
    AreListed-without_all keys (without clauses number) numbers (AreListed-without keys clauses number h)

pub AreListed-deleted : (keys : List Keys) (clauses less : List Kept) (numbers : List ℕ) →
    AreListed keys clauses → less ≡ without_all clauses numbers → AreListed keys less
AreListed-deleted keys clauses less numbers h is = rw is (AreListed-without_all keys clauses numbers h)

-- a live clause with all its literals in some is at a place
part_at : (clauses : List Kept) (place : ℕ) (lits : List Literal) →
    is_part_at clauses place lits ≡ (is_live_at clauses place && is_part (lits_at clauses place) lits)
part_at [] place lits = refl
part_at (c ∷ cs) zero lits = refl
part_at (c ∷ cs) (suc place) lits = part_at cs place lits

-- the keys of each place where such a clause stands
keys_at : (all : List Keys) (clauses : List Kept) (place : ℕ) (lits : List Literal) (d : Keys) →
    AreListed all clauses → place < length clauses → is_part_at clauses place lits ≡ true →
    are_keys (get_or all place d) (lits_at clauses place) ≡ true
keys_at [] [] place lits d h lt is = absurd (omega arith)
keys_at [] (c ∷ cs) place lits d h lt is = absurd h
keys_at (k ∷ ks) [] place lits d h lt is = absurd h
keys_at (k ∷ ks) (c ∷ cs) zero lits d h lt is =
    live_key (is_live_origin c.origin) (are_keys k c.lits) h.0
    ((and_parts (is_live_origin c.origin) (is_part c.lits lits) is).0)
  where
    live_key : (a b : Bool) → (not a || b) ≡ true → a ≡ true → b ≡ true
    live_key true b e lives = e
    live_key false b e lives = absurd (cc)
keys_at (k ∷ ks) (c ∷ cs) (suc place) lits d h lt is = keys_at ks cs place lits d h.1 (omega arith) is

key_at : (all : List Keys) (clauses : List Kept) (place : ℕ) (lits : List Literal) → AreListed all clauses →
    place < length clauses → is_part_at clauses place lits ≡ true →
    is_key (get_or (firsts all) place 0) (lits_at clauses place) ≡ true
key_at all clauses place lits h lt is =
    let d : Keys = record { key = 0; second = 0; third = 0 } in
    let k : Keys = get_or all place d in
    let long = AreListed-length all clauses h in
    ap (λ x. is_key x (lits_at clauses place)) (get_or-map (λ (x : Keys). x.key) all place d 0
    (omega (arith, lt, long)))
    ∙ (and_parts (is_key k.key (lits_at clauses place)) (is_key k.second (lits_at clauses place)
    && is_key k.third (lits_at clauses place)) (keys_at all clauses place lits d h lt is)).0

-- a part that is listed is a part
holds_at : (clauses : List Kept) (place : ℕ) (lits : List Literal) → place < length clauses →
    is_part_at clauses place lits ≡ true → holds_clause clauses lits ≡ true
holds_at [] place lits lt is = absurd (omega arith)
holds_at (c ∷ cs) zero lits lt is = or_left (is_live_part c lits) (holds_clause cs lits) is
holds_at (c ∷ cs) (suc place) lits lt is = or_right (is_live_part c lits) (holds_clause cs lits)
    (holds_at cs place lits (omega arith) is)

pub listed_holds : (clauses : List Kept) (keys : List ℕ) (key : ℕ) (lits : List Literal) (n : ℕ) →
    n ≤ length clauses → any_listed clauses keys key lits n ≡ true → holds_clause clauses lits ≡ true
listed_holds clauses keys key lits zero le is = absurd (cc)
listed_holds clauses keys key lits (suc n) le is =
    ⊎_elim
    (λ here. holds_at clauses n lits (omega arith)
    ((and_parts (eqb (get_or keys n 0) key) (is_part_at clauses n lits) here).1))
    (λ rest. listed_holds clauses keys key lits n (omega arith) rest)
    (or_cases (eqb (get_or keys n 0) key && is_part_at clauses n lits) (any_listed clauses keys key lits n)
    is)

-- a part is listed under its key
listed_at : (clauses : List Kept) (keys : List ℕ) (key : ℕ) (lits : List Literal) (place n : ℕ) →
    place < n → get_or keys place 0 ≡ key → is_part_at clauses place lits ≡ true →
    any_listed clauses keys key lits n ≡ true
listed_at clauses keys key lits place zero lt has is = absurd (omega arith)
listed_at clauses keys key lits place (suc n) lt has is =
    ⊎_elim
    (λ same. or_left (eqb (get_or keys n 0) key && is_part_at clauses n lits)
    (any_listed clauses keys key lits n)
    (rw (← same) (ap (λ b. b && is_part_at clauses place lits) (ap (λ x. eqb x key) has ∙ eq-eqb key key refl)
    ∙ is)))
    (λ other. or_right (eqb (get_or keys n 0) key && is_part_at clauses n lits)
    (any_listed clauses keys key lits n) (listed_at clauses keys key lits place n (omega arith) has is))
    (cases_eq place n)

-- the key of a part of some literals is the index of one of them
index_in : (key : ℕ) (part lits : List Literal) → has_index key part ≡ true → is_part part lits ≡ true →
    has_index key lits ≡ true
index_in key [] lits has is = absurd (cc)
index_in key (x ∷ xs) lits has is =
    let parts = and_parts (has_literal x lits) (is_part xs lits) is in
    ⊎_elim
    (λ here. let e = eqb-true (index_of x) key here in ap (λ k. has_index k lits) (sym e)
    ∙ (sym (has_literal-is x lits) ∙ parts.0))
    (λ rest. index_in key xs lits rest parts.1)
    (or_cases (eqb (index_of x) key) (has_index key xs) has)

under_index : (clauses : List Kept) (keys : List ℕ) (lits : List Literal) (n key : ℕ) (ls : List Literal) →
    has_index key ls ≡ true → any_listed clauses keys key lits n ≡ true →
    under_any clauses keys lits n ls ≡ true
under_index clauses keys lits n key [] has is = absurd (cc)
under_index clauses keys lits n key (l ∷ ls) has is =
    ⊎_elim
    (λ here. or_left (any_listed clauses keys (index_of l) lits n) (under_any clauses keys lits n ls)
    (ap (λ k. any_listed clauses keys k lits n) (eqb-true (index_of l) key here) ∙ is))
    (λ rest. or_right (any_listed clauses keys (index_of l) lits n) (under_any clauses keys lits n ls)
    (under_index clauses keys lits n key ls rest is))
    (or_cases (eqb (index_of l) key) (has_index key ls) has)

under_holds : (clauses : List Kept) (keys : List ℕ) (lits : List Literal) (n : ℕ) (ls : List Literal) →
    n ≤ length clauses → under_any clauses keys lits n ls ≡ true → holds_clause clauses lits ≡ true
under_holds clauses keys lits n [] le is = absurd (cc)
under_holds clauses keys lits n (l ∷ ls) le is =
    ⊎_elim
    (λ here. listed_holds clauses keys (index_of l) lits n le here)
    (λ rest. under_holds clauses keys lits n ls le rest)
    (or_cases (any_listed clauses keys (index_of l) lits n) (under_any clauses keys lits n ls) is)

holds_place : (clauses : List Kept) (lits : List Literal) → holds_clause clauses lits ≡ true →
    (place : ℕ) × (place < length clauses) × (is_part_at clauses place lits ≡ true)
holds_place [] lits is = absurd (cc)
holds_place (c ∷ cs) lits is =
    ⊎_elim
    (λ here. (0, omega arith, here))
    (λ rest. let (place, lt, part) = holds_place cs lits rest in (suc place, omega arith, part))
    (or_cases (is_live_part c lits) (holds_clause cs lits) is)

part_found : (clauses : List Kept) (keys : List ℕ) (lits part : List Literal) (place n : ℕ) → place < n →
    is_key (get_or keys place 0) part ≡ true → is_part part lits ≡ true →
    is_part_at clauses place lits ≡ true →
    (any_listed clauses keys 0 lits n || under_any clauses keys lits n lits) ≡ true
part_found clauses keys lits [] place n lt key part_is is =
    or_left (any_listed clauses keys 0 lits n) (under_any clauses keys lits n lits)
    (listed_at clauses keys 0 lits place n lt (eqb-true (get_or keys place 0) 0 key) is)
part_found clauses keys lits (x ∷ xs) place n lt key part_is is =
    or_right (any_listed clauses keys 0 lits n) (under_any clauses keys lits n lits)
    (under_index clauses keys lits n (get_or keys place 0) lits
    (index_in (get_or keys place 0) (x ∷ xs) lits key part_is)
    (listed_at clauses keys (get_or keys place 0) lits place n lt refl is))

same_tests : (a b : Bool) → (a ≡ true → b ≡ true) → (b ≡ true → a ≡ true) → a ≡ b
same_tests true b there back = sym (there refl)
same_tests false true there back = absurd (let e = back refl in cc)
same_tests false false there back = refl

-- a clause holds another exactly if one is listed as its part under 0 or one of its literals
pub parts_found : (clauses : List Kept) (all : List Keys) (lits : List Literal) (n : ℕ) →
    AreListed all clauses → n ≡ length all → (any_listed clauses (firsts all) 0 lits n
    || under_any clauses (firsts all) lits n lits) ≡ holds_clause clauses lits
parts_found clauses all lits n listed n_is =
    let long = AreListed-length all clauses listed in
    same_tests (any_listed clauses (firsts all) 0 lits n || under_any clauses (firsts all) lits n lits)
    (holds_clause clauses lits)
    (λ is. ⊎_elim
    (λ first. listed_holds clauses (firsts all) 0 lits n (omega arith) first)
    (λ rest. under_holds clauses (firsts all) lits n lits (omega arith) rest)
    (or_cases (any_listed clauses (firsts all) 0 lits n) (under_any clauses (firsts all) lits n lits) is))
    (λ is. let (place, lt, part) = holds_place clauses lits is in
    part_found clauses (firsts all) lits (lits_at clauses place) place n (omega arith)
    (key_at all clauses place lits listed lt part)
    ((and_parts (is_live_at clauses place) (is_part (lits_at clauses place) lits)
    (sym (part_at clauses place lits) ∙ part)).1) part)

-- a further key of a part is none, or is that of a member
further_held : (key further : ℕ) (part lits : List Literal) → is_key key part ≡ true →
    is_key further part ≡ true → is_part part lits ≡ true → (eqb key further || has_index further lits) ≡ true
further_held key further [] lits first other is =
    or_left (eqb key further) (has_index further lits)
    (ap (λ x. eqb x further) (eqb-true key 0 first ∙ sym (eqb-true further 0 other))
    ∙ eq-eqb further further refl)
further_held key further (x ∷ xs) lits first other is =
    or_right (eqb key further) (has_index further lits) (index_in further (x ∷ xs) lits other is)

-- so the test of the further keys rules out no part
pub further_tests : (all : List Keys) (clauses : List Kept) (place : ℕ) (lits : List Literal) (k : Keys) →
    AreListed all clauses → place < length clauses → k ≡ get_or all place k →
    is_part_at clauses place lits ≡ true →
    ((eqb k.key k.second || has_index k.second lits) ≡ true)
    × ((eqb k.key k.third || has_index k.third lits) ≡ true)
further_tests all clauses place lits k h lt read is =
    let part = lits_at clauses place in
    let part_is = (and_parts (is_live_at clauses place) (is_part part lits)
    (sym (part_at clauses place lits) ∙ is)).1 in
    let keys = ap (λ (x : Keys). are_keys x part) read ∙ keys_at all clauses place lits k h lt is in
    let first = and_parts (is_key k.key part) (is_key k.second part && is_key k.third part) keys in
    let others = and_parts (is_key k.second part) (is_key k.third part) first.1 in (
      further_held k.key k.second part lits first.0 others.0 part_is,
      further_held k.key k.third part lits
          first.0 others.1 part_is,
    )

pub second_rules : (all : List Keys) (clauses : List Kept) (place : ℕ) (lits : List Literal) (k : Keys)
    (second : Bool) → AreListed all clauses → place < length clauses → k ≡ get_or all place k →
    second ≡ (eqb k.key k.second || has_index k.second lits) → second ≡ false →
    false ≡ is_part_at clauses place lits
second_rules all clauses place lits k second h lt read second_is fails =
    same_tests false (is_part_at clauses place lits) (λ e. absurd (cc)) (λ is. sym fails
    ∙ (second_is ∙ (further_tests all clauses place lits k h lt read is).0))

pub third_rules : (all : List Keys) (clauses : List Kept) (place : ℕ) (lits : List Literal) (k : Keys)
    (third : Bool) → AreListed all clauses → place < length clauses → k ≡ get_or all place k →
    third ≡ (eqb k.key k.third || has_index k.third lits) → third ≡ false →
    false ≡ is_part_at clauses place lits
third_rules all clauses place lits k third h lt read third_is fails =
    same_tests false (is_part_at clauses place lits) (λ e. absurd (cc)) (λ is. sym fails
    ∙ (third_is ∙ (further_tests all clauses place lits k h lt read is).1))

-- keys that are chosen
pub key_of : (k : ℕ) (lits : List Literal) → has_index k lits ≡ true → is_key k lits ≡ true
key_of k [] is = absurd (cc)
key_of k (l ∷ ls) is = is

-- a literal of a clause gives a key of it
pub has_index-at : (lits : List Literal) (i : ℕ) (l : Literal) → i < length lits → l ≡ get_or lits i l →
    has_index (index_of l) lits ≡ true
has_index-at [] i l lt is = absurd (omega arith)
has_index-at (x ∷ xs) zero l lt is =
    or_left (eqb (index_of x) (index_of l)) (has_index (index_of l) xs)
    (ap (λ y. eqb (index_of x) (index_of y)) is ∙ eq-eqb (index_of x) (index_of x) refl)
has_index-at (x ∷ xs) (suc i) l lt is = or_right (eqb (index_of x) (index_of l)) (has_index (index_of l) xs)
    (has_index-at xs i l (omega arith) is)

pub has_index-is : (lits : List Literal) (i : ℕ) (l : Literal) (k : ℕ) → i < length lits →
    l ≡ get_or lits i l → k ≡ index_of l → has_index k lits ≡ true
has_index-is lits i l k lt is k_is = ap (λ x. has_index x lits) k_is ∙ has_index-at lits i l lt is

-- what the code asks of the clause at a place
pub first_found : (all : List Keys) (clauses seen : List Kept) (lits members : List Literal) (found : Bool)
    → AreListed all clauses → clauses ≡ seen → members ≡ lits →
    found ≡ any_listed clauses (firsts all) 0 members (length all) → found ≡ true →
    found ≡ holds_clause seen lits
first_found all clauses seen lits members found listed view same found_is holds =
    holds ∙ sym (ap (λ s. holds_clause s lits) (sym view)
    ∙ (sym (parts_found clauses all lits (length all) listed refl)
    ∙ or_left (any_listed clauses (firsts all) 0 lits (length all))
    (under_any clauses (firsts all) lits (length all) lits)
    (ap (λ m. any_listed clauses (firsts all) 0 m (length all)) (sym same) ∙ (sym found_is ∙ holds))))

pub rest_found : (all : List Keys) (clauses seen : List Kept) (lits members : List Literal)
    (first rest : Bool) → AreListed all clauses → clauses ≡ seen → members ≡ lits →
    first ≡ any_listed clauses (firsts all) 0 members (length all) → first ≡ false →
    rest ≡ under_any clauses (firsts all) members (length all) lits → rest ≡ holds_clause seen lits
rest_found all clauses seen lits members first rest listed view same first_is fails rest_is =
    let none : any_listed clauses (firsts all) 0 lits (length all) ≡ false =
    ap (λ m. any_listed clauses (firsts all) 0 m (length all)) (sym same) ∙ (sym first_is ∙ fails) in
    rest_is
    ∙ (ap (λ m. under_any clauses (firsts all) m (length all) lits) same
    ∙ (ap (λ b. b || under_any clauses (firsts all) lits (length all) lits) (sym none)
    ∙ (parts_found clauses all lits (length all) listed refl ∙ ap (λ s. holds_clause s lits) view)))

-- what holds after a call that gave no error
pub after_ok : {E P : Type 0} (r : Result Unit E) (b : Bool) → b ≡ is_err r → b ≡ false → OnOk r P → P
after_ok (Ok u) b is not_err h = h
after_ok (Err e) b is not_err h = absurd (cc)

-- once each clause is listed
pub linked_end : (n : ℕ) (nodes : List Node) (heads : List ℕ) (clauses : List Kept) →
    AreLinkedBelow n (all_keys nodes) heads (links nodes) clauses → n ≡ length nodes →
    AreLinks (firsts (all_keys nodes)) heads (links nodes)
linked_end n nodes heads clauses h whole =
    let keys = length-firsts (all_keys nodes) in
    let all : n ≡ length (firsts (all_keys nodes)) = whole ∙ sym (keys ∙ length-keys nodes) in record {
      same = h.same ∙ sym keys;
      few = omega (arith, keys, h.few);
      heads_are = λ key. h.heads_are key ∙ ap (latest (firsts (all_keys nodes)) key) all;
      earlier_are = λ place below. h.earlier_are place (omega (arith, all, below));
    }
