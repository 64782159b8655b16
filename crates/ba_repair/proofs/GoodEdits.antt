-- Good edits: programs with one tree pass alike, and given edits have one list of good ones.
use Rattle.std.proofs.Common.{◌≡◌, ℕ, suc, ◌+◌, ◌<◌, ◌≤◌, Bool, true, List, [], ◌∷◌, ◌++◌, length, get_or, drop, drop-cons, refl, sym, ap, subst, ◌∙◌, inl, inr, arith, append-nil, append_assoc}
use Rattle.std.proofs.lemmas.List.{drop_all}
use Rattle.std.specs.Prelude.{All, ◌↔◌}
use Rattle.ba_tree.specs.Run.{is_done}
use Rattle.ba_tree.specs.Trees.{tree_of}
use Rattle.ba_tree.specs.declared.run.Allowed.TheVariants.{Statements}
use Rattle.ba_tree.specs.declared.run.Bounds.{Bounds}
use Rattle.ba_tree.specs.declared.run.Input.{Input}
use Rattle.ba_tree.specs.declared.tree.Program.{Program}
use Rattle.ba_tree_laws.proofs.Equivalence.{equivalent}
use Rattle.ba_repair.specs.Changes.{changed_program}
use Rattle.ba_repair.specs.Good.{AreGood, IsEdited, IsGood, Passes}
use Rattle.ba_repair.specs.declared.listing.Edit.{Edit}

-- programs with one tree pass the same inputs
pub pass-alike : (p q : Program) (bounds : Bounds) (inputs : List Input) → tree_of p ≡ tree_of q
    → Passes bounds inputs p → Passes bounds inputs q
pass-alike p q bounds inputs same passes =
    subst (λ (well : Input → Bool). All (λ i. well i ≡ true) inputs)
    (λ j i. is_done ((equivalent p q same).runs i bounds (Statements []) [] j)) passes

-- so any program with the edited tree decides whether an edit is good
pub good-passes : (p edited : Program) (bounds : Bounds) (inputs : List Input) (edit : Edit)
    → IsEdited p edit edited → IsGood p bounds inputs edit → Passes bounds inputs edited
good-passes p edited bounds inputs edit is good =
    pass-alike good.edited edited bounds inputs (good.is_edited ∙ sym is) good.passes

-- and an edit is good exactly if a program with the edited tree passes
pub good-exactly : (p edited : Program) (bounds : Bounds) (inputs : List Input) (edit : Edit) (good : Bool)
    → IsEdited p edit edited → (good ≡ true) ↔ Passes bounds inputs edited
    → (good ≡ true) ↔ IsGood p bounds inputs edit
good-exactly p edited bounds inputs edit good is exactly = (
  λ yes. record { edited = edited; is_edited = is; passes = exactly.0 yes },
  λ by. exactly.1 (good-passes p edited bounds inputs edit is by),
)

module _ (p : Program) (bounds : Bounds) (inputs : List Input) where
  pub one-list : (edits found others : List Edit) → AreGood p bounds inputs edits found
      → AreGood p bounds inputs edits others → found ≡ others
  one-list [] found others h k = h ∙ sym k
  one-list (edit ∷ edits) found others (inl h) (inl k) = h.1.1
      ∙ ap (λ rest. edit ∷ rest) (one-list edits h.1.0 k.1.0 h.1.2 k.1.2)
      ∙ sym k.1.1
  one-list (edit ∷ edits) found others (inl h) (inr k) = absurd (k.0 h.0)
  one-list (edit ∷ edits) found others (inr h) (inl k) = absurd (h.0 k.0)
  one-list (edit ∷ edits) found others (inr h) (inr k) = one-list edits found others h.1 k.1

  -- the good ones found so far lead those of the edits from number k on
  abbrev pub Leads : List Edit → ℕ → List Edit → Type 0
  Leads edits k found = (rest : List Edit) → AreGood p bounds inputs (drop k edits) rest
      → AreGood p bounds inputs edits (found ++ rest)

  -- the edits from one on, if those after it are known
  from-here : (edits : List Edit) (k : ℕ) (d : Edit) (rest : List Edit) → k < length edits
      → AreGood p bounds inputs (get_or edits k d ∷ drop (k + 1) edits) rest
      → AreGood p bounds inputs (drop k edits) rest
  from-here edits k d rest within here = subst (λ all. AreGood p bounds inputs all rest)
      (sym (drop-cons edits k d within ∙ ap (λ n. get_or edits k d ∷ drop n edits)
      (let e : suc k ≡ k + 1 = omega arith in e))) here

  pub one-good : (edits : List Edit) (k : ℕ) (d : Edit) (found more : List Edit) → k < length edits
      → IsGood p bounds inputs (get_or edits k d) → more ≡ found ++ get_or edits k d ∷ []
      → Leads edits k found → Leads edits (k + 1) more
  one-good edits k d found more within good added leads rest later =
      let edit = get_or edits k d in
      subst (AreGood p bounds inputs edits)
      (sym (append_assoc found (edit ∷ []) rest) ∙ ap (λ found. found ++ rest) (sym added))
      (leads (edit ∷ rest) (from-here edits k d (edit ∷ rest) within (inl (good, (rest, refl, later)))))

  pub one-bad : (edits : List Edit) (k : ℕ) (d : Edit) (found : List Edit) → k < length edits
      → (IsGood p bounds inputs (get_or edits k d) → ⊥) → Leads edits k found → Leads edits (k + 1) found
  one-bad edits k d found within bad leads rest later =
      leads rest (from-here edits k d rest within (inr (bad, later)))

  pub all-tried : (edits : List Edit) (k : ℕ) (found : List Edit) → length edits ≤ k → Leads edits k found
      → AreGood p bounds inputs edits found
  all-tried edits k found past leads = subst (AreGood p bounds inputs edits) (append-nil found)
      (leads [] (subst (λ all. AreGood p bounds inputs all []) (sym (drop_all k edits past)) refl))

-- GOOD EDITS OF PROGRAMS WITH ONE TREE are the same
module _ (p q : Program) (same : tree_of p ≡ tree_of q) (bounds : Bounds) (inputs : List Input) where
  good-alike : (edit : Edit) → IsGood p bounds inputs edit → IsGood q bounds inputs edit
  good-alike edit good = record {
    edited = good.edited;
    is_edited = good.is_edited ∙ ap (changed_program edit) same;
    passes = good.passes;
  }

  good-back : (edit : Edit) → IsGood q bounds inputs edit → IsGood p bounds inputs edit
  good-back edit good = record {
    edited = good.edited;
    is_edited = good.is_edited ∙ ap (changed_program edit) (sym same);
    passes = good.passes;
  }

  pub all-good-alike : (edits found : List Edit) → AreGood p bounds inputs edits found
      → AreGood q bounds inputs edits found
  all-good-alike [] found h = h
  all-good-alike (edit ∷ edits) found (inl h) =
      inl (good-alike edit h.0, (h.1.0, h.1.1, all-good-alike edits h.1.0 h.1.2))
  all-good-alike (edit ∷ edits) found (inr h) =
      inr (λ good. h.0 (good-back edit good), all-good-alike edits found h.1)
