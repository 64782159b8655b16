-- What is appended, part after part.
use Rattle.std.proofs.Common.{◌≡◌, ℕ, ◌+◌, ◌≤◌, List, [], ◌∷◌, ◌++◌, length, map, drop, refl, sym, ◌∙◌, ap, append_assoc, append-nil}
use Rattle.std.specs.Prelude.{flat_map}
use Rattle.std.proofs.lemmas.List.{map-append}
use Rattle.std.proofs.lemmas.List.Concat.{flat_map-cons}
use Rattle.ba_numbers.specs.declared.ids.StmtId.{StmtId}
use Rattle.ba_repair.specs.Nodes.{own_nodes}
use Rattle.ba_repair.specs.declared.nodes.EditableNode.{EditableNode}
use Rattle.ba_repair.specs.declared.nodes.StmtNode.{StmtNode}
use Rattle.ba_typing.proofs.Walks.{none_left}

-- A WHOLE OF PARTS, each of which is appended behind the one before it

module _ {A : Type 0} where
  pub whole-none : (whole old : List A) → whole ≡ [] → old ≡ old ++ whole
  whole-none whole old is = sym (append-nil old) ∙ ap (λ xs. old ++ xs) (sym is)

  pub whole-one : (whole xs old new : List A) → whole ≡ xs → new ≡ old ++ xs → new ≡ old ++ whole
  whole-one whole xs old new is first = first ∙ ap (λ xs. old ++ xs) (sym is)

  pub whole-two : (whole xs ys old one new : List A) → whole ≡ xs ++ ys → one ≡ old ++ xs → new ≡ one ++ ys
      → new ≡ old ++ whole
  whole-two whole xs ys old one new is first second =
      second ∙ ap (λ one. one ++ ys) first ∙ append_assoc old xs ys ∙ ap (λ xs. old ++ xs) (sym is)

  pub whole-three : (whole xs ys zs old one two new : List A) → whole ≡ xs ++ ys ++ zs → one ≡ old ++ xs
      → two ≡ one ++ ys → new ≡ two ++ zs → new ≡ old ++ whole
  whole-three whole xs ys zs old one two new is first second third =
      whole-two whole (xs ++ ys) zs old two new is (whole-two (xs ++ ys) xs ys old one two refl first second)
      third

  pub whole-four : (whole xs ys zs us old one two three new : List A) → whole ≡ xs ++ ys ++ zs ++ us
      → one ≡ old ++ xs → two ≡ one ++ ys → three ≡ two ++ zs → new ≡ three ++ us → new ≡ old ++ whole
  whole-four whole xs ys zs us old one two three new is first second third fourth =
      whole-two whole (xs ++ ys ++ zs) us old three new is
      (whole-three (xs ++ ys ++ zs) xs ys zs old one two three refl first second third) fourth

-- NODES OF ONE STATEMENT

module _ (stmt : StmtId) where
  pub own-append : (xs ys : List EditableNode)
      → own_nodes stmt (xs ++ ys) ≡ own_nodes stmt xs ++ own_nodes stmt ys
  own-append xs ys = map-append (λ (n : EditableNode). record { stmt = stmt; node = n }) xs ys

  pub own-none : (whole : List EditableNode) (old : List StmtNode) → whole ≡ []
      → old ≡ old ++ own_nodes stmt whole
  own-none whole old is = whole-none (own_nodes stmt whole) old (ap (own_nodes stmt) is)

  pub own-one : (whole xs : List EditableNode) (old new : List StmtNode) → whole ≡ xs
      → new ≡ old ++ own_nodes stmt xs → new ≡ old ++ own_nodes stmt whole
  own-one whole xs old new is =
      whole-one (own_nodes stmt whole) (own_nodes stmt xs) old new (ap (own_nodes stmt) is)

  pub own-two : (whole xs ys : List EditableNode) (old one new : List StmtNode) → whole ≡ xs ++ ys
      → one ≡ old ++ own_nodes stmt xs → new ≡ one ++ own_nodes stmt ys
      → new ≡ old ++ own_nodes stmt whole
  own-two whole xs ys old one new is =
      whole-two (own_nodes stmt whole) (own_nodes stmt xs) (own_nodes stmt ys) old one new
      (ap (own_nodes stmt) is ∙ own-append xs ys)

  pub own-three : (whole xs ys zs : List EditableNode) (old one two new : List StmtNode)
      → whole ≡ xs ++ ys ++ zs → one ≡ old ++ own_nodes stmt xs → two ≡ one ++ own_nodes stmt ys
      → new ≡ two ++ own_nodes stmt zs → new ≡ old ++ own_nodes stmt whole
  own-three whole xs ys zs old one two new is =
      whole-three (own_nodes stmt whole) (own_nodes stmt xs) (own_nodes stmt ys) (own_nodes stmt zs) old one
      two new
      (ap (own_nodes stmt) is ∙ own-append (xs ++ ys) zs ∙ ap (λ us. us ++ own_nodes stmt zs) (own-append xs
      ys))

  -- those of a row
  pub own-row : {X Y : Type 0} (g : Y → List EditableNode) (v : X → Y) (xs : List X)
      → own_nodes stmt (flat_map g (map v xs)) ≡ flat_map (λ x. own_nodes stmt (g (v x))) xs
  own-row g v [] = refl
  own-row g v (x ∷ xs) = ap (own_nodes stmt) (flat_map-cons g (v x) (map v xs))
      ∙ own-append (g (v x)) (flat_map g (map v xs))
      ∙ ap (λ us. own_nodes stmt (g (v x)) ++ us) (own-row g v xs)
      ∙ sym (flat_map-cons (λ x. own_nodes stmt (g (v x))) x xs)

-- ROWS: what each item gives is appended, from a place on

module _ {A B : Type 0} (f : A → List B) (xs : List A) (i : ℕ) (old whole : List B)
    (rest : old ++ flat_map f (drop i xs) ≡ whole) where
  pub row-next : (x : A) (new : List B) → new ≡ old ++ f x → drop i xs ≡ x ∷ drop (i + 1) xs
      → new ++ flat_map f (drop (i + 1) xs) ≡ whole
  row-next x new pushed next =
      ap (λ ys. ys ++ flat_map f (drop (i + 1) xs)) pushed
      ∙ append_assoc old (f x) (flat_map f (drop (i + 1) xs))
      ∙ ap (λ ys. old ++ ys) (sym (flat_map-cons f x (drop (i + 1) xs)))
      ∙ ap (λ ys. old ++ flat_map f ys) (sym next) ∙ rest

  pub row-end : length xs ≤ i → old ≡ whole
  row-end past = sym (append-nil old) ∙ ap (λ ys. old ++ flat_map f ys) (sym (none_left xs i past)) ∙ rest
