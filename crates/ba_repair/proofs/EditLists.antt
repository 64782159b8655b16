-- The edits of a statement, from a node on.
use Rattle.std.proofs.Common.{◌≡◌, ℕ, ℤ, pos, ◌+ℤ◌, ◌-ℤ◌, ◌+◌, ◌≤◌, List, [], ◌∷◌, ◌++◌, length, map, drop, sym, ◌∙◌, ap, append_assoc, append-nil}
use Rattle.ba_numbers.specs.Numbers.{converted}
use Rattle.ba_numbers.specs.declared.ids.StmtId.{StmtId}
use Rattle.ba_numbers.specs.declared.numbers.CType.{CType}
use Rattle.ba_repair.specs.Edits.{changes_of, edits_from}
use Rattle.ba_repair.specs.declared.listing.Change.{Change}
use Rattle.ba_repair.specs.declared.listing.Change.TheVariants as change
use Rattle.ba_repair.specs.declared.listing.Edit.{Edit}
use Rattle.ba_repair.specs.declared.nodes.EditableNode.{EditableNode}
use Rattle.ba_repair.specs.declared.nodes.EditableNode.TheVariants as node
use Rattle.ba_repair.proofs.Appending.{whole-two}
use Rattle.ba_typing.proofs.Walks.{none_left}

-- the edits of one node
abbrev pub node_edits : ℕ → ℕ → EditableNode → List Edit
node_edits n k found = map (λ c. record { stmt = record { 0 = n }; node = k; change = c }) (changes_of found)

module _ (n : ℕ) (nodes : List EditableNode) (i k : ℕ) (old whole : List Edit)
    (rest : old ++ edits_from n (k + 1) (drop i nodes) ≡ whole) where
  pub edits-next : (found : EditableNode) (more : ℕ) (new : List Edit) → more ≡ k + 1
      → new ≡ old ++ node_edits n more found → drop i nodes ≡ found ∷ drop (i + 1) nodes
      → new ++ edits_from n (more + 1) (drop (i + 1) nodes) ≡ whole
  edits-next found more new numbered pushed next =
      ap (λ xs. xs ++ edits_from n (more + 1) (drop (i + 1) nodes)) pushed
      ∙ append_assoc old (node_edits n more found) (edits_from n (more + 1) (drop (i + 1) nodes))
      ∙ ap (λ more. old ++ (node_edits n more found ++ edits_from n (more + 1) (drop (i + 1) nodes))) numbered
      ∙ ap (λ xs. old ++ edits_from n (k + 1) xs) (sym next) ∙ rest

  pub edits-end : length nodes ≤ i → old ≡ whole
  edits-end past = sym (append-nil old)
      ∙ ap (λ xs. old ++ edits_from n (k + 1) xs) (sym (none_left nodes i past)) ∙ rest

-- the edit of a node by a change
abbrev pub edit_of : StmtId → ℕ → Change → Edit
edit_of stmt k c = record { stmt = stmt; node = k; change = c }

-- THE EDITS OF A CONSTANT: by 1 less, and by 1 more
pub constant-edits : (stmt : StmtId) (k : ℕ) (found : EditableNode) (t : CType) (z less more w v : ℤ)
    (old one new : List Edit) → found ≡ node.Constant t z
    → one ≡ old ++ edit_of stmt k (change.Constant w less) ∷ []
    → new ≡ one ++ edit_of stmt k (change.Constant v more) ∷ []
    → w ≡ z → v ≡ z → less ≡ converted t (z -ℤ pos 1) → more ≡ converted t (z +ℤ pos 1)
    → new ≡ old ++ map (edit_of stmt k) (changes_of found)
constant-edits stmt k found t z less more w v old one new is first second at_w at_v at_less at_more =
    whole-two (map (edit_of stmt k) (changes_of found)) (edit_of stmt k (change.Constant w less) ∷ [])
    (edit_of stmt k (change.Constant v more) ∷ []) old one new
    (ap (λ found. map (edit_of stmt k) (changes_of found)) is
    ∙ sym (λ i. edit_of stmt k (change.Constant (at_w i) (at_less i))
    ∷ edit_of stmt k (change.Constant (at_v i) (at_more i)) ∷ []))
    first second
