-- What fits, one equation a node.
use Rattle.std.proofs.Common.{◌≡◌, ℕ, ◌==◌, Bool, true, false, ◌&&◌, List, ◌∷◌, map, length, sym, ◌∙◌, ap}
use Rattle.std.proofs.lemmas.Bool.{and_parts}
use Rattle.std.specs.Global.{Vec}
use Rattle.std.specs.List.{list_all}
use Rattle.ba_numbers.specs.declared.ids.StmtId.{StmtId}
use Rattle.ba_numbers.specs.declared.numbers.BinOp.{BinOp}
use Rattle.ba_numbers.specs.declared.numbers.CType.{CType}
use Rattle.ba_numbers.specs.declared.numbers.UnOp.{UnOp}
use Rattle.ba_code.specs.Facts.{Declared, Inside, are_inside, fits_inside, fits_step, is_array, is_counted, is_operand, is_take, is_unrolled, is_var, unrolled_step}
use Rattle.ba_code.specs.Meaning.{info_at}
use Rattle.ba_code.specs.declared.nodes.Node.{Node}
use Rattle.ba_code.specs.declared.nodes.Node as node
use Rattle.ba_code.specs.declared.nodes.Node.TheOpen.{Node-F}
use Rattle.ba_code.specs.declared.nodes.Node.TheFolds.{fold-roll-Node}
use Rattle.ba_code.specs.declared.nodes.Operand.{Operand}
use Rattle.ba_code.specs.declared.nodes.Take.{Take}
use Rattle.ba_guards.specs.Making.{AreFit, IsFit}
use Rattle.ba_numbers.specs.Types.{is_promoted}
use Rattle.ba_tree.specs.declared.run.Place.{Place}

module _ (d : Declared) (n : Node) (labels : List ℕ) where
  pub fit-Set : (to : ℕ) (from : Operand) → n ≡ node.Set to from
      → fits_inside d n labels ≡ (is_var d to && is_operand d from)
  unfolding fits_inside node.roll-Node denote.Hole.Carrier.roll
  fit-Set to from is = ap (λ n. fits_inside d n labels) is
      ∙ ap (λ (f : Inside). f labels) (fold-roll-Node Inside (fits_step d) (Node-F.Set to from))

  pub fit-Unary : (to : ℕ) (op : UnOp) (t : CType) (a : Operand) → n ≡ node.Unary to op t a
      → fits_inside d n labels ≡ (is_var d to && is_promoted t && is_operand d a)
  unfolding fits_inside node.roll-Node denote.Hole.Carrier.roll
  fit-Unary to op t a is = ap (λ n. fits_inside d n labels) is
      ∙ ap (λ (f : Inside). f labels) (fold-roll-Node Inside (fits_step d) (Node-F.Unary to op t a))

  pub fit-Binary : (to : ℕ) (op : BinOp) (t : CType) (a b : Operand) (stmt : StmtId) →
      n ≡ node.Binary to op t a b stmt
      → fits_inside d n labels ≡ (is_var d to && is_promoted t && is_operand d a && is_operand d b)
  unfolding fits_inside node.roll-Node denote.Hole.Carrier.roll
  fit-Binary to op t a b stmt is = ap (λ n. fits_inside d n labels) is
      ∙ ap (λ (f : Inside). f labels) (fold-roll-Node Inside (fits_step d) (Node-F.Binary to op t a b stmt))

  pub fit-Convert : (to : ℕ) (t : CType) (a : Operand) → n ≡ node.Convert to t a
      → fits_inside d n labels ≡ (is_var d to && is_operand d a)
  unfolding fits_inside node.roll-Node denote.Hole.Carrier.roll
  fit-Convert to t a is = ap (λ n. fits_inside d n labels) is
      ∙ ap (λ (f : Inside). f labels) (fold-roll-Node Inside (fits_step d) (Node-F.Convert to t a))

  pub fit-Load : (to array : ℕ) (index : Operand) (stmt : StmtId) → n ≡ node.Load to array index stmt
      → fits_inside d n labels ≡ (is_var d to && is_array d array && is_operand d index)
  unfolding fits_inside node.roll-Node denote.Hole.Carrier.roll
  fit-Load to array index stmt is = ap (λ n. fits_inside d n labels) is
      ∙ ap (λ (f : Inside). f labels) (fold-roll-Node Inside (fits_step d) (Node-F.Load to array index stmt))

  pub fit-Save : (array : ℕ) (index value : Operand) (stmt : StmtId) → n ≡ node.Save array index value stmt
      → fits_inside d n labels ≡ (is_array d array && is_operand d index && is_operand d value)
  unfolding fits_inside node.roll-Node denote.Hole.Carrier.roll
  fit-Save array index value stmt is = ap (λ n. fits_inside d n labels) is
      ∙ ap (λ (f : Inside). f labels) (fold-roll-Node Inside (fits_step d) (Node-F.Save array index value
      stmt))

  pub fit-Fill : (array : ℕ) (values : Vec Operand) → n ≡ node.Fill array values
      → fits_inside d n labels ≡ (is_array d array && list_all (is_operand d) values.items && (length
      values.items == (info_at d.arrays array).len))
  unfolding fits_inside node.roll-Node denote.Hole.Carrier.roll
  fit-Fill array values is = ap (λ n. fits_inside d n labels) is
      ∙ ap (λ (f : Inside). f labels) (fold-roll-Node Inside (fits_step d) (Node-F.Fill array values))

  pub fit-Assert : (when : Operand) (stmt : StmtId) → n ≡ node.Assert when stmt
      → fits_inside d n labels ≡ is_operand d when
  unfolding fits_inside node.roll-Node denote.Hole.Carrier.roll
  fit-Assert when stmt is = ap (λ n. fits_inside d n labels) is
      ∙ ap (λ (f : Inside). f labels) (fold-roll-Node Inside (fits_step d) (Node-F.Assert when stmt))

  pub fit-Pick : (place : Place) (take : Take) (keep : Vec Node) → n ≡ node.Pick place take keep
      → fits_inside d n labels ≡ (is_take d take && are_inside labels (map (fits_inside d) keep.items))
  unfolding fits_inside node.roll-Node denote.Hole.Carrier.roll
  fit-Pick place take keep is = ap (λ n. fits_inside d n labels) is
      ∙ ap (λ (f : Inside). f labels) (fold-roll-Node Inside (fits_step d) (Node-F.Pick place take keep))

  pub fit-If : (when : Operand) (a b : Vec Node) → n ≡ node.If when a b
      → fits_inside d n labels ≡ (is_operand d when && are_inside labels (map (fits_inside d) a.items)
      && are_inside labels (map (fits_inside d) b.items))
  unfolding fits_inside node.roll-Node denote.Hole.Carrier.roll
  fit-If when a b is = ap (λ n. fits_inside d n labels) is
      ∙ ap (λ (f : Inside). f labels) (fold-roll-Node Inside (fits_step d) (Node-F.If when a b))

  pub fit-Block : (label : ℕ) (body : Vec Node) → n ≡ node.Block label body
      → fits_inside d n labels ≡ are_inside (label ∷ labels) (map (fits_inside d) body.items)
  unfolding fits_inside node.roll-Node denote.Hole.Carrier.roll
  fit-Block label body is = ap (λ n. fits_inside d n labels) is
      ∙ ap (λ (f : Inside). f labels) (fold-roll-Node Inside (fits_step d) (Node-F.Block label body))

abbrev are_unrolled : List Node → Bool
are_unrolled nodes = list_all (λ b. b) (map is_unrolled nodes)

module _ (n : Node) where
  pub unrolled-Pick : (place : Place) (take : Take) (keep : Vec Node) → n ≡ node.Pick place take keep
      → is_unrolled n ≡ (list_all is_counted place.path && are_unrolled keep.items)
  unfolding is_unrolled node.roll-Node denote.Hole.Carrier.roll
  unrolled-Pick place take keep is = ap is_unrolled is ∙ fold-roll-Node Bool unrolled_step (Node-F.Pick
      place take keep)

  pub unrolled-If : (when : Operand) (a b : Vec Node) → n ≡ node.If when a b
      → is_unrolled n ≡ (are_unrolled a.items && are_unrolled b.items)
  unfolding is_unrolled node.roll-Node denote.Hole.Carrier.roll
  unrolled-If when a b is = ap is_unrolled is ∙ fold-roll-Node Bool unrolled_step (Node-F.If when a b)

  pub unrolled-Block : (label : ℕ) (body : Vec Node) → n ≡ node.Block label body
      → is_unrolled n ≡ are_unrolled body.items
  unfolding is_unrolled node.roll-Node denote.Hole.Carrier.roll
  unrolled-Block label body is = ap is_unrolled is ∙ fold-roll-Node Bool unrolled_step (Node-F.Block label
      body)

  pub unrolled-Loop : (after : Bool) (head : Vec Node) (when : Operand) (body step : Vec Node) (stmt :
      StmtId) → n ≡ node.Loop after head when body step stmt
      → is_unrolled n ≡ false
  unfolding is_unrolled node.roll-Node denote.Hole.Carrier.roll
  unrolled-Loop after head when body step stmt is = ap is_unrolled is ∙ fold-roll-Node Bool unrolled_step
      (Node-F.Loop after head when body step stmt)

-- a node, and nodes in a row

pub first-fit : (d : Declared) (n : Node) (ns : List Node) → AreFit d (n ∷ ns) → IsFit d n
first-fit d n ns h = record {
  labels = h.labels;
  fit = (and_parts (fits_inside d n h.labels) (are_inside h.labels (map (fits_inside d) ns)) h.fit).0;
  unrolled = (and_parts (is_unrolled n) (are_unrolled ns) h.unrolled).0;
}

pub rest-fit : (d : Declared) (n : Node) (ns : List Node) → AreFit d (n ∷ ns) → AreFit d ns
rest-fit d n ns h = record {
  labels = h.labels;
  fit = (and_parts (fits_inside d n h.labels) (are_inside h.labels (map (fits_inside d) ns)) h.fit).1;
  unrolled = (and_parts (is_unrolled n) (are_unrolled ns) h.unrolled).1;
}

pub keep-fit : (d : Declared) (n : Node) (place : Place) (take : Take) (keep : Vec Node) →
    n ≡ node.Pick place take keep
    → IsFit d n → (is_take d take ≡ true) × AreFit d keep.items
keep-fit d n place take keep is h =
    let f = and_parts (is_take d take) (are_inside h.labels (map (fits_inside d) keep.items))
    (sym (fit-Pick d n h.labels place take keep is) ∙ h.fit) in
    let u = and_parts (list_all is_counted place.path) (are_unrolled keep.items)
    (sym (unrolled-Pick n place take keep is) ∙ h.unrolled) in
    (f.0, record { labels = h.labels; fit = f.1; unrolled = u.1 })

pub sides-fit : (d : Declared) (n : Node) (when : Operand) (a b : Vec Node) → n ≡ node.If when a b → IsFit d n
    → (is_operand d when ≡ true) × AreFit d a.items × AreFit d b.items
sides-fit d n when a b is h =
    let f = and_parts (is_operand d when && are_inside h.labels (map (fits_inside d) a.items))
    (are_inside h.labels (map (fits_inside d) b.items)) (sym (fit-If d n h.labels when a b is) ∙ h.fit) in
    let g = and_parts (is_operand d when) (are_inside h.labels (map (fits_inside d) a.items)) f.0 in
    let u = and_parts (are_unrolled a.items) (are_unrolled b.items) (sym (unrolled-If n when a b is) ∙
    h.unrolled) in (
      g.0,
      record { labels = h.labels; fit = g.1; unrolled = u.0 },
      record {
        labels = h.labels;
        fit = f.1;
        unrolled = u.1;
      },
    )

pub body-fit : (d : Declared) (n : Node) (label : ℕ) (body : Vec Node) → n ≡ node.Block label body → IsFit d n
    → AreFit d body.items
body-fit d n label body is h = record {
  labels = label ∷ h.labels;
  fit = sym (fit-Block d n h.labels label body is) ∙ h.fit;
  unrolled = sym (unrolled-Block n label body is) ∙ h.unrolled;
}
