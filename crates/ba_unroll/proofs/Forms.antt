-- Which nodes fit, and which are unrolled, one equation a form.
use Rattle.std.proofs.Common.{◌≡◌, ℕ, Bool, true, ◌&&◌, ◌==◌, List, ◌∷◌, map, length, ◌∙◌, ap}
use Rattle.std.proofs.lemmas.List.Folds.{list_all-map}
use Rattle.std.specs.Global.{Vec}
use Rattle.std.specs.List.{list_all}
use Rattle.ba_code.specs.Facts.{Declared, Inside, fits_inside, fits_step, is_array, is_counted, is_operand, is_take, is_unrolled, unrolled_step}
use Rattle.ba_code.specs.Meaning.{info_at}
use Rattle.ba_code.specs.declared.nodes.Node.{Node}
use Rattle.ba_code.specs.declared.nodes.Node as node
use Rattle.ba_code.specs.declared.nodes.Node.TheOpen.{Node-F}
use Rattle.ba_code.specs.declared.nodes.Node.TheFolds.{fold-roll-Node}
use Rattle.ba_code.specs.declared.nodes.Operand.{Operand}
use Rattle.ba_code.specs.declared.nodes.Take.{Take}
use Rattle.ba_unroll.specs.Unrolling.{all_inside}
use Rattle.ba_numbers.specs.declared.ids.StmtId.{StmtId}
use Rattle.ba_numbers.specs.declared.numbers.BinOp.{BinOp}
use Rattle.ba_numbers.specs.declared.numbers.CType.{CType}
use Rattle.ba_numbers.specs.declared.numbers.UnOp.{UnOp}
use Rattle.ba_tree.specs.declared.run.Place.{Place}

-- WHERE A NODE FITS

module _ (d : Declared) (n : Node) (labels : List ℕ) where
  pub fits-Fill : (array : ℕ) (values : Vec Operand) → n ≡ node.Fill array values
      → fits_inside d n labels ≡ (is_array d array && list_all (is_operand d) values.items
      && (length values.items == (info_at d.arrays array).len))
  unfolding fits_inside node.roll-Node denote.Hole.Carrier.roll
  fits-Fill array values is = ap (λ n. fits_inside d n labels) is
      ∙ ap (λ (f : Inside). f labels) (fold-roll-Node Inside (fits_step d) (Node-F.Fill array values))

  pub fits-Pick : (place : Place) (take : Take) (keep : Vec Node) → n ≡ node.Pick place take keep
      → fits_inside d n labels ≡ (is_take d take && all_inside keep.items d labels)
  unfolding fits_inside node.roll-Node denote.Hole.Carrier.roll
  fits-Pick place take keep is = ap (λ n. fits_inside d n labels) is
      ∙ ap (λ (f : Inside). f labels) (fold-roll-Node Inside (fits_step d) (Node-F.Pick place take keep))

  pub fits-If : (when : Operand) (a b : Vec Node) → n ≡ node.If when a b
      → fits_inside d n labels ≡ (is_operand d when && all_inside a.items d labels && all_inside b.items d
      labels)
  unfolding fits_inside node.roll-Node denote.Hole.Carrier.roll
  fits-If when a b is = ap (λ n. fits_inside d n labels) is
      ∙ ap (λ (f : Inside). f labels) (fold-roll-Node Inside (fits_step d) (Node-F.If when a b))

  pub fits-Block : (label : ℕ) (body : Vec Node) → n ≡ node.Block label body
      → fits_inside d n labels ≡ all_inside body.items d (label ∷ labels)
  unfolding fits_inside node.roll-Node denote.Hole.Carrier.roll
  fits-Block label body is = ap (λ n. fits_inside d n labels) is
      ∙ ap (λ (f : Inside). f labels) (fold-roll-Node Inside (fits_step d) (Node-F.Block label body))

  pub fits-Loop : (after : Bool) (head : Vec Node) (when : Operand) (body step : Vec Node) (stmt : StmtId)
      → n ≡ node.Loop after head when body step stmt
      → fits_inside d n labels ≡ (is_operand d when && all_inside head.items d labels
      && all_inside body.items d labels && all_inside step.items d labels)
  unfolding fits_inside node.roll-Node denote.Hole.Carrier.roll
  fits-Loop after head when body step stmt is = ap (λ n. fits_inside d n labels) is
      ∙ ap (λ (f : Inside). f labels)
      (fold-roll-Node Inside (fits_step d) (Node-F.Loop after head when body step stmt))

  pub fits-Beyond : (stmt : StmtId) → n ≡ node.Beyond stmt → fits_inside d n labels ≡ true
  unfolding fits_inside node.roll-Node denote.Hole.Carrier.roll
  fits-Beyond stmt is = ap (λ n. fits_inside d n labels) is
      ∙ ap (λ (f : Inside). f labels) (fold-roll-Node Inside (fits_step d) (Node-F.Beyond stmt))

-- WHICH NODES ARE UNROLLED

all-unrolled : (nodes : List Node) → list_all (λ b. b) (map is_unrolled nodes) ≡ list_all is_unrolled nodes
all-unrolled nodes = list_all-map (λ b. b) is_unrolled nodes

pub unrolled-Set : (to : ℕ) (from : Operand) → is_unrolled (node.Set to from) ≡ true
unfolding is_unrolled node.roll-Node denote.Hole.Carrier.roll
unrolled-Set to from = fold-roll-Node Bool unrolled_step (Node-F.Set to from)

pub unrolled-Unary : (to : ℕ) (op : UnOp) (t : CType) (a : Operand)
    → is_unrolled (node.Unary to op t a) ≡ true
unfolding is_unrolled node.roll-Node denote.Hole.Carrier.roll
unrolled-Unary to op t a = fold-roll-Node Bool unrolled_step (Node-F.Unary to op t a)

pub unrolled-Binary : (to : ℕ) (op : BinOp) (t : CType) (a b : Operand) (stmt : StmtId)
    → is_unrolled (node.Binary to op t a b stmt) ≡ true
unfolding is_unrolled node.roll-Node denote.Hole.Carrier.roll
unrolled-Binary to op t a b stmt = fold-roll-Node Bool unrolled_step (Node-F.Binary to op t a b stmt)

pub unrolled-Convert : (to : ℕ) (t : CType) (a : Operand) → is_unrolled (node.Convert to t a) ≡ true
unfolding is_unrolled node.roll-Node denote.Hole.Carrier.roll
unrolled-Convert to t a = fold-roll-Node Bool unrolled_step (Node-F.Convert to t a)

pub unrolled-Load : (to array : ℕ) (index : Operand) (stmt : StmtId)
    → is_unrolled (node.Load to array index stmt) ≡ true
unfolding is_unrolled node.roll-Node denote.Hole.Carrier.roll
unrolled-Load to array index stmt = fold-roll-Node Bool unrolled_step (Node-F.Load to array index stmt)

pub unrolled-Save : (array : ℕ) (index value : Operand) (stmt : StmtId)
    → is_unrolled (node.Save array index value stmt) ≡ true
unfolding is_unrolled node.roll-Node denote.Hole.Carrier.roll
unrolled-Save array index value stmt = fold-roll-Node Bool unrolled_step (Node-F.Save array index value stmt)

pub unrolled-Fill : (array : ℕ) (values : Vec Operand) → is_unrolled (node.Fill array values) ≡ true
unfolding is_unrolled node.roll-Node denote.Hole.Carrier.roll
unrolled-Fill array values = fold-roll-Node Bool unrolled_step (Node-F.Fill array values)

pub unrolled-Leave : (label : ℕ) → is_unrolled (node.Leave label) ≡ true
unfolding is_unrolled node.roll-Node denote.Hole.Carrier.roll
unrolled-Leave label = fold-roll-Node Bool unrolled_step (Node-F.Leave label)

pub unrolled-Assert : (when : Operand) (stmt : StmtId) → is_unrolled (node.Assert when stmt) ≡ true
unfolding is_unrolled node.roll-Node denote.Hole.Carrier.roll
unrolled-Assert when stmt = fold-roll-Node Bool unrolled_step (Node-F.Assert when stmt)

pub unrolled-Beyond : (stmt : StmtId) → is_unrolled (node.Beyond stmt) ≡ true
unfolding is_unrolled node.roll-Node denote.Hole.Carrier.roll
unrolled-Beyond stmt = fold-roll-Node Bool unrolled_step (Node-F.Beyond stmt)

pub unrolled-Pick : (place : Place) (take : Take) (keep : Vec Node)
    → is_unrolled (node.Pick place take keep) ≡
    (list_all is_counted place.path && list_all is_unrolled keep.items)
unfolding is_unrolled node.roll-Node denote.Hole.Carrier.roll
unrolled-Pick place take keep = fold-roll-Node Bool unrolled_step (Node-F.Pick place take keep)
    ∙ ap (λ b. list_all is_counted place.path && b) (all-unrolled keep.items)

pub unrolled-If : (when : Operand) (a b : Vec Node)
    → is_unrolled (node.If when a b) ≡ (list_all is_unrolled a.items && list_all is_unrolled b.items)
unfolding is_unrolled node.roll-Node denote.Hole.Carrier.roll
unrolled-If when a b = fold-roll-Node Bool unrolled_step (Node-F.If when a b)
    ∙ ap (λ x. x && list_all (λ b. b) (map is_unrolled b.items)) (all-unrolled a.items)
    ∙ ap (λ y. list_all is_unrolled a.items && y) (all-unrolled b.items)

pub unrolled-Block : (label : ℕ) (body : Vec Node)
    → is_unrolled (node.Block label body) ≡ list_all is_unrolled body.items
unfolding is_unrolled node.roll-Node denote.Hole.Carrier.roll
unrolled-Block label body = fold-roll-Node Bool unrolled_step (Node-F.Block label body)
    ∙ all-unrolled body.items
