-- EDITS THAT ARE LISTED change a node of their own, and are edits of the program.
use Rattle.std.proofs.Common.{◌≡◌, ℕ, ◌+◌, ◌-◌, ◌≤◌, List, [], ◌∷◌, ◌++◌, get_or, map, flat_map, refl, sym, subst, inl, inr, ◌⊎◌, arith}
use Rattle.std.proofs.lemmas.List.Elements.{Contains-get_or}
use Rattle.std.specs.Prelude.{All, Contains}
use Rattle.ba_tree.proofs.Members.{Has, contains_has, has_contains}
use Rattle.ba_tree.specs.Trees.{tree_of}
use Rattle.ba_tree.specs.declared.tree.Program.{Program}
use Rattle.ba_repair.specs.Edits.{IsEditOf, changes_of, edits_at, edits_from, edits_of}
use Rattle.ba_repair.specs.Nodes.{nodes_at}
use Rattle.ba_repair.specs.declared.listing.Change.{Change}
use Rattle.ba_repair.specs.declared.listing.Edit.{Edit}
use Rattle.ba_repair.specs.declared.nodes.EditableNode.{EditableNode}
use Rattle.ba_repair.proofs.OwnChanges.{Suits, suits-none}

has-cases : {A : Type 0} (xs ys : List A) (x : A) → Has (xs ++ ys) x → Has xs x ⊎ Has ys x
has-cases [] ys x h = inr h
has-cases (a ∷ xs) ys x (inl e) = inl (inl e)
has-cases (a ∷ xs) ys x (inr h) =
    elim (has-cases xs ys x h) [ inl k ↦ inl (inr k) | inr k ↦ inr k ]

has-mapped : {A B : Type 0} (f : A → B) (xs : List A) (y : B) → Has (map f xs) y
    → (x : A) × Has xs x × (y ≡ f x)
has-mapped f [] y h = absurd h
has-mapped f (x ∷ xs) y (inl e) = (x, inl refl, e)
has-mapped f (x ∷ xs) y (inr h) = let rest = has-mapped f xs y h in (rest.0, inr rest.1, rest.2)

-- an edit that is listed for nodes from number k on
pub record IsListed (n k : ℕ) (nodes : List EditableNode) (edit : Edit) : Type 0 where
  pub stmt : edit.stmt.0 ≡ n
  pub from : k ≤ edit.node
  pub suits : Suits edit.change (edit.node + 1 - k) nodes

abbrev edit_at : ℕ → ℕ → Change → Edit
edit_at n k c = record { stmt = record { 0 = n }; node = k; change = c }

pub has-listed : (n k : ℕ) (nodes : List EditableNode) (edit : Edit) → Has (edits_from n k nodes) edit
    → IsListed n k nodes edit
has-listed n k [] edit h = absurd h
has-listed n k (x ∷ nodes) edit h =
    by (has-listed n (k + 1) nodes edit)
    (has-cases (map (edit_at n k) (changes_of x)) (edits_from n (k + 1) nodes) edit h) where
      here : (c : Change) → Has (changes_of x) c → IsListed n k (x ∷ nodes) (edit_at n k c)
      here c own = record {
        stmt = refl;
        from = omega arith;
        suits = (
          λ one. own,
          subst (λ i. Suits c i nodes) (let e : 0 ≡ k + 1 - k - 1 = omega arith in e)
              (suits-none c nodes),
        );
      }

      by : (Has (edits_from n (k + 1) nodes) edit → IsListed n (k + 1) nodes edit)
          → Has (map (edit_at n k) (changes_of x)) edit ⊎ Has (edits_from n (k + 1) nodes) edit
          → IsListed n k (x ∷ nodes) edit
      by listed (inl first) = let found = has-mapped (edit_at n k) (changes_of x) edit first in
          subst (IsListed n k (x ∷ nodes)) (sym found.2) (here found.0 found.1)
      by listed (inr later) = let rest = listed later in record {
        stmt = rest.stmt;
        from = let past = rest.from in omega (arith, past);
        suits = (
          λ (one : edit.node + 1 - k ≡ 1). let past = rest.from in absurd (omega (arith, one, past)),
          subst (λ i. Suits edit.change i nodes)
              (let past = rest.from in
              let e : edit.node + 1 - (k + 1) ≡ edit.node + 1 - k - 1 = omega (arith, past) in e) rest.suits,
        );
      }

-- an edit of the program's changes a node of its own
pub edit-suits : (p : Program) (edit : Edit) → IsEditOf p edit
    → Suits edit.change edit.node (nodes_at (tree_of p) edit.stmt.0)
edit-suits p edit own =
    let nodes = nodes_at (tree_of p) edit.stmt.0 in
    let listed = has-listed edit.stmt.0 1 nodes edit
    (contains_has (edits_from edit.stmt.0 1 nodes) edit own) in
    subst (λ i. Suits edit.change i nodes) (let e : edit.node + 1 - 1 ≡ edit.node = omega arith in e)
    listed.suits

-- an edit that is listed for some statements is one of the program's
pub listed-own : (p : Program) (stmts : List ℕ) (edit : Edit) → Contains (edits_of (tree_of p) stmts) edit
    → IsEditOf p edit
listed-own p stmts edit listed = by stmts (contains_has (edits_of (tree_of p) stmts) edit listed) where
  by : (ns : List ℕ) → Has (flat_map (edits_at (tree_of p)) ns) edit → IsEditOf p edit
  by [] h = absurd h
  by (n ∷ ns) h = elim (has-cases (edits_at (tree_of p) n) (flat_map (edits_at (tree_of p)) ns) edit h) [
    | inl here ↦ subst (λ k. Contains (edits_at (tree_of p) k) edit)
        (sym (has-listed n 1 (nodes_at (tree_of p) n) edit here).stmt)
        (has_contains (edits_at (tree_of p) n) edit here)
    | inr later ↦ by ns later
  ]

-- all that are listed for some statements are the program's
pub all-own : (p : Program) (stmts : List ℕ) (edits : List Edit) → edits ≡ edits_of (tree_of p) stmts
    → All (IsEditOf p) edits
all-own p stmts edits are = λ k d within. listed-own p stmts (get_or edits k d)
    (subst (λ xs. Contains xs (get_or edits k d)) are (Contains-get_or edits k d within))
