-- Rows of nodes: one row more, one node more, and the nodes of a statement in a list that grows.
use Rattle.std.proofs.Common.{◌≡◌, ℕ, zero, suc, ◌+◌, ◌<◌, ◌≢◌, Bool, true, false, List, [], ◌∷◌, ◌++◌, length, get_or, set, map, take, refl, sym, ◌∙◌, ap, append-nil, arith}
use Rattle.std.specs.Prelude.{◌==◌, filter}
use Rattle.std.proofs.lemmas.List.{get_or-map, get_or-set_other, get_or-set_same, length-map, map-append, map-set}
use Rattle.std.specs.Global.{Vec}
use Rattle.std.proofs.lemmas.List.Elements.{filter-append}
use Rattle.std.proofs.lemmas.Bool.Decides.{nat_tests}
use Rattle.ba_repair.specs.Nodes.{nodes_of}
use Rattle.ba_repair.specs.Rows.{row_at, with_node}
use Rattle.ba_repair.specs.declared.nodes.EditableNode.{EditableNode}
use Rattle.ba_repair.specs.declared.nodes.StmtNode.{StmtNode}

-- an empty row more changes no row
pub row-more : (rows : List (List EditableNode)) (n : ℕ) → row_at (rows ++ [] ∷ []) n ≡ row_at rows n
row-more [] zero = refl
row-more [] (suc n) = refl
row-more (row ∷ rows) zero = refl
row-more (row ∷ rows) (suc n) = row-more rows n

-- one node more in the row of its statement
module _ (rows : List (List EditableNode)) (found : StmtNode) (within : found.stmt.0 < length rows) where
  row-same : (n : ℕ) (is : Bool) → (found.stmt.0 == n) ≡ is
      → row_at (set rows found.stmt.0 (row_at rows found.stmt.0 ++ found.node ∷ [])) n
      ≡ with_node (row_at rows n) n found
  row-same n true is = let same : n ≡ found.stmt.0 = grind (arith, nat_tests, is) in
      rw (is, same)
      (get_or-set_same rows found.stmt.0 (row_at rows found.stmt.0 ++ found.node ∷ []) [] within)
  row-same n false is = let other : n ≢ found.stmt.0 = grind (arith, nat_tests, is) in
      rw is (get_or-set_other rows found.stmt.0 n (row_at rows found.stmt.0 ++ found.node ∷ []) [] other)

  pub row-with : (n : ℕ) → row_at (set rows found.stmt.0 (row_at rows found.stmt.0 ++ found.node ∷ [])) n
      ≡ with_node (row_at rows n) n found
  row-with n = row-same n (found.stmt.0 == n) refl

-- the nodes of a statement, one node more
one-node : (n : ℕ) (found : StmtNode) (row : List EditableNode) (is : Bool) → (found.stmt.0 == n) ≡ is
    → row ++ nodes_of n (found ∷ []) ≡ with_node row n found
one-node n found row true is = rw is refl
one-node n found row false is = rw is (append-nil row)

pub nodes-with : (n : ℕ) (nodes : List StmtNode) (found : StmtNode)
    → nodes_of n (nodes ++ found ∷ []) ≡ with_node (nodes_of n nodes) n found
nodes-with n nodes found =
    ap (map (λ (found : StmtNode). found.node))
    (filter-append (λ (found : StmtNode). found.stmt.0 == n) nodes (found ∷ []))
    ∙ map-append (λ (found : StmtNode). found.node) (filter (λ (found : StmtNode). found.stmt.0 == n) nodes)
    (filter (λ (found : StmtNode). found.stmt.0 == n) (found ∷ []))
    ∙ one-node n found (nodes_of n nodes) (found.stmt.0 == n) refl

-- the rows so far, and those with one node more
pub rows-next : (rows new : List (List EditableNode)) (nodes : List StmtNode) (i : ℕ)
    → ((n : ℕ) → row_at rows n ≡ nodes_of n (take i nodes))
    → (found : StmtNode) → ((n : ℕ) → row_at new n ≡ with_node (row_at rows n) n found)
    → take (i + 1) nodes ≡ take i nodes ++ found ∷ []
    → (n : ℕ) → row_at new n ≡ nodes_of n (take (i + 1) nodes)
rows-next rows new nodes i so_far found added taken n =
    added n ∙ ap (λ row. with_node row n found) (so_far n) ∙ sym (nodes-with n (take i nodes) found)
    ∙ ap (nodes_of n) (sym taken)

-- ROWS AS THE CODE HAS THEM

abbrev pub seen : List (Vec EditableNode) → List (List EditableNode)
seen = map (λ (row : Vec EditableNode). row.items)

pub seen-more : (rows more : List (Vec EditableNode)) (new : Vec EditableNode) → new.items ≡ []
    → more ≡ rows ++ new ∷ [] → (n : ℕ) → row_at (seen more) n ≡ row_at (seen rows) n
seen-more rows more new empty pushed n =
    ap (λ rows. row_at (seen rows) n) pushed
    ∙ ap (λ rows. row_at rows n) (map-append (λ (row : Vec EditableNode). row.items) rows (new ∷ []))
    ∙ ap (λ row. row_at (seen rows ++ row ∷ []) n) empty ∙ row-more (seen rows) n

pub seen-with : (rows : List (Vec EditableNode)) (row new : Vec EditableNode)
    (reached before : List (List EditableNode)) (found : StmtNode)
    → seen rows ≡ reached → found.stmt.0 < length reached
    → ((n : ℕ) → row_at reached n ≡ row_at before n)
    → row ≡ get_or rows found.stmt.0 row → new.items ≡ row.items ++ found.node ∷ []
    → (n : ℕ) → row_at (seen (set rows found.stmt.0 new)) n ≡ with_node (row_at before n) n found
seen-with rows row new reached before found are within same read pushed n =
    let long : length (seen rows) ≡ length rows = length-map rows (λ (row : Vec EditableNode). row.items) in
    let count : length (seen rows) ≡ length reached = ap length are in
    let there : found.stmt.0 < length rows = omega arith in
    let has : found.stmt.0 < length (seen rows) = omega arith in
    let old : row_at (seen rows) found.stmt.0 ≡ row.items =
    get_or-map (λ (row : Vec EditableNode). row.items) rows found.stmt.0 row [] there
    ∙ ap (λ (row : Vec EditableNode). row.items) (sym read) in
    ap (λ rows. row_at rows n) (map-set (λ (row : Vec EditableNode). row.items) rows found.stmt.0 new)
    ∙ ap (λ row. row_at (set (seen rows) found.stmt.0 row) n)
    (pushed ∙ ap (λ row. row ++ found.node ∷ []) (sym old))
    ∙ row-with (seen rows) found has n
    ∙ ap (λ row. with_node row n found) (ap (λ rows. row_at rows n) are ∙ same n)
