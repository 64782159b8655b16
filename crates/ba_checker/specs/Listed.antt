-- Clauses listed under one literal each, so that clauses contained in a given one are found by its own
-- literals.

use Rattle.std.specs.Prelude.{◌≡◌, ℕ, ◌<◌, Bool, true, false, not, ◌&&◌, ◌||◌, eqb, ◌^◌, Option, None, Some, List, [], ◌∷◌, map, length, slice_index, slice_get, if◌then◌else◌}
use Prim.Native.Nat.{suc, zero}
use Rattle.ba_lits.specs.Literals.{Literal, index_of}
use Rattle.ba_lits.specs.Members.{has_index}
use Rattle.ba_checker.specs.States.{Kept, is_live_origin}
use Rattle.ba_checker.specs.Parts.{is_live_part}
use Rattle.ba_checker.specs.declared.index.Keys.{Keys}
use Rattle.ba_checker.specs.declared.index.Node.{Node}

-- what is stored of each clause: its keys, and the link to the one before it
abbrev pub keys_of : Node → Keys
keys_of n = record { key = n.key; second = n.second; third = n.third }

-- the keys of all nodes
abbrev pub all_keys : List Node → List Keys
all_keys nodes = map keys_of nodes

-- the links of all nodes: the clause before in the list of the same literal
abbrev pub links : List Node → List ℕ
links nodes = map (λ (n : Node). n.earlier) nodes

-- the keys under which the clauses are listed
abbrev pub firsts : List Keys → List ℕ
firsts all = map (λ (k : Keys). k.key) all

-- the latest index below n with this key, plus 1; 0 if there is none
abbrev pub latest : List ℕ → ℕ → ℕ → ℕ
latest keys key zero = 0
latest keys key (suc n) = if eqb (slice_index keys n) key then suc n else latest keys key n

-- the heads lead to the latest index of each key, and each index to the one before it with its key
pub record AreLinks (keys heads earlier : List ℕ) : Type 0 where
  pub same : length earlier ≡ length keys
  pub few : length keys < 2 ^ 32
  pub heads_are : (key : ℕ) → slice_index heads key ≡ latest keys key (length keys)
  pub earlier_are : (place : ℕ) → place < length keys →
      slice_index earlier place ≡ latest keys (slice_index keys place) place

-- a key of a clause: the index of one of its literals, or 0 for the empty clause
abbrev pub is_key : ℕ → List Literal → Bool
is_key key [] = eqb key 0
is_key key (l ∷ ls) = has_index key (l ∷ ls)

-- the keys are literals of the clause
abbrev pub are_keys : Keys → List Literal → Bool
are_keys k lits = is_key k.key lits && (is_key k.second lits && is_key k.third lits)

-- a live clause is listed under one of its keys, with two further keys; a deleted one is listed anywhere
abbrev pub is_listed : Keys → Kept → Bool
is_listed k c = not (is_live_origin c.origin) || are_keys k c.lits

-- each clause has its keys
abbrev pub AreListed : List Keys → List Kept → Type 0
AreListed [] [] = Unit {0}
AreListed [] (c ∷ cs) = ⊥
AreListed (k ∷ ks) [] = ⊥
AreListed (k ∷ ks) (c ∷ cs) = (is_listed k c ≡ true) × AreListed ks cs

-- what is stored of a clause that is listed anew: its key is 1 if it doesn't keep its own
abbrev pub key_anew : Bool → ℕ → ℕ
key_anew keeps key = if keeps then key else 1

-- a node that is listed anew, before the present head of its list
abbrev pub anew : Bool → Node → List ℕ → Node
anew keeps n heads = record {
  key = key_anew keeps n.key;
  second = n.second;
  third = n.third;
  earlier =
      slice_index heads (key_anew keeps n.key);
}

-- the clauses below index n are linked, if all were
pub record AreLinkedBelow (n : ℕ) (all : List Keys) (heads earlier : List ℕ) (clauses : List Kept) : Type 0
  where
    pub same : length earlier ≡ length all
    pub few : length all < 2 ^ 32
    pub heads_are : (key : ℕ) → slice_index heads key ≡ latest (firsts all) key n
    pub earlier_are : (place : ℕ) → place < n → slice_index earlier place
        ≡ latest (firsts all) (slice_index (firsts all) place) place
    pub room : (place : ℕ) → place < length all → slice_index (firsts all) place < length heads
    pub listed : AreListed all clauses

-- a live clause is at the index, and has all its literals in these
abbrev pub is_entry_part : Option Kept → List Literal → Bool
is_entry_part None lits = false
is_entry_part (Some k) lits = is_live_part k lits

-- the clause at this index is live and contained in these literals
abbrev pub is_part_at : List Kept → ℕ → List Literal → Bool
is_part_at clauses place lits = is_entry_part (slice_get clauses place) lits

-- a live clause below index n, listed under the key, has all its literals in these
abbrev pub any_listed : List Kept → List ℕ → ℕ → List Literal → ℕ → Bool
any_listed clauses keys key lits zero = false
any_listed clauses keys key lits (suc n) =
    (eqb (slice_index keys n) key && is_part_at clauses n lits) || any_listed clauses keys key lits n

-- the same under one of the literals from here on
abbrev pub under_any : List Kept → List ℕ → List Literal → ℕ → List Literal → Bool
under_any clauses keys lits n [] = false
under_any clauses keys lits n (l ∷ ls) = any_listed clauses keys (index_of l) lits n
    || under_any clauses keys lits n ls
