-- An edited program costs what the program costs.
use Rattle.std.proofs.Common.{◌≡◌, ℕ, zero, suc, ◌+◌, ◌-◌, List, [], ◌∷◌, map, sym, ap, ◌∙◌, refl}
use Rattle.std.specs.Prelude.{slice_index_or, sum_by}
use Rattle.std.specs.List.{sum}
use Rattle.ba_tree.proofs.Kept.{kept}
use Rattle.ba_tree.specs.Facts.{no_function}
use Rattle.ba_tree.specs.Kept.{parts_of}
use Rattle.ba_tree.specs.Run.{function_of, main_of}
use Rattle.ba_tree.specs.Trees.{tree_of_stmt}
use Rattle.ba_tree.specs.Units.{Bodies, Lengths, bodies_at, bound_lengths, declaration_units, declared_length, units_of, units_of_body}
use Rattle.ba_tree.specs.declared.run.Bounds.{Bounds}
use Rattle.ba_tree.specs.declared.tree.Function.{Function}
use Rattle.ba_tree.specs.declared.tree.Program.{Program}
use Rattle.ba_tree.specs.declared.tree.Stmt.{Stmt}
use Rattle.ba_tree.specs.declared.tree.Variable.{Variable}
use Rattle.ba_tree_laws.proofs.TreeRuns.{variable_in}
use Rattle.ba_tree_laws.proofs.Units.{body_is}
use Rattle.ba_repair.specs.Edits.{IsEditOf}
use Rattle.ba_repair.specs.Good.{IsEdited}
use Rattle.ba_repair.specs.declared.listing.Edit.{Edit}
use Rattle.ba_repair.proofs.Fitting.{AreEdited, CostAlike, ProgramStays, edited-each, program-stays}
use Rattle.ba_repair.proofs.Listed.{edit-suits}
use Rattle.ba_repair.proofs.StatementsKept.{body_units}

params-at : (edit : Edit) (fs gs : List Function) → AreEdited edit fs gs → (n : ℕ)
    → (slice_index_or gs n no_function).params ≡ (slice_index_or fs n no_function).params
params-at edit [] [] h n = refl
params-at edit [] (g ∷ gs) h n = absurd h
params-at edit (f ∷ fs) [] h n = absurd h
params-at edit (f ∷ fs) (g ∷ gs) h zero = λ i. (h.0 i).params
params-at edit (f ∷ fs) (g ∷ gs) h (suc n) = params-at edit fs gs h.1 n

abbrev lengths_in : List Variable → Lengths
lengths_in = map (λ (v : Variable). declared_length v.shape)

module _ (p edited : Program) (edit : Edit) (is : IsEdited p edit edited)
    (each : AreEdited edit p.functions edited.functions)
    (stays : ProgramStays (parts_of p) edited.inits edited.functions) where
  body-costs : (turns : ℕ) (bodies others : Bodies) → bodies ≡ others → (after before : List Stmt)
      → CostAlike (parts_of p) after before → (lengths lasts : Lengths) → lengths ≡ lasts
      → units_of_body edited turns bodies after lengths ≡ units_of_body p turns others before lasts
  body-costs turns bodies others bodies_are after before alike lengths lasts lengths_are =
      body_is edited turns bodies after lengths
      ∙ (λ i. sum (body_units (is i).variables turns (bodies_are i) (lengths_are i) (map tree_of_stmt after)))
      ∙ ap sum (alike turns others lasts)
      ∙ sym (body_is p turns others before lasts)

  bodies-cost : (turns frames : ℕ) → bodies_at edited turns frames ≡ bodies_at p turns frames
  bodies-cost turns zero = refl
  bodies-cost turns (suc frames) = λ i f given.
      body-costs turns (bodies_at edited turns frames) (bodies_at p turns frames) (bodies-cost turns frames)
      (function_of edited f).body (function_of p f).body (stays.functions.units f.0)
      (bound_lengths (function_of edited f).params given (lengths_in edited.variables))
      (bound_lengths (function_of p f).params given (lengths_in p.variables))
      (λ j. bound_lengths (params-at edit p.functions edited.functions each f.0 j) given
      (lengths_in (is j).variables)) i

  whole-costs : (b : Bounds) (after before : List Stmt) → CostAlike (parts_of p) after before
      → units_of_body edited b.turns (bodies_at edited b.turns (b.frames - 1)) after
      (lengths_in edited.variables)
      ≡ units_of_body p b.turns (bodies_at p b.turns (b.frames - 1)) before (lengths_in p.variables)
  whole-costs b after before alike = body-costs b.turns
      (bodies_at edited b.turns (b.frames - 1)) (bodies_at p b.turns (b.frames - 1))
      (bodies-cost b.turns (b.frames - 1)) after before alike
      (lengths_in edited.variables) (lengths_in p.variables) (λ i. lengths_in (is i).variables)

  -- main has the number that it had
  main-alike : CostAlike (parts_of p) (main_of edited).body (main_of p).body
  main-alike turns bodies lengths = stays.functions.units edited.main.0 turns bodies lengths
      ∙ (λ i. body_units p.variables turns bodies lengths
      (map tree_of_stmt (slice_index_or p.functions (is i).main.0 no_function).body))

  units-alike : (b : Bounds) → units_of edited b ≡ units_of p b
  units-alike b = λ i.
      sum_by (λ v. declaration_units (variable_in (is i).variables v).shape) (is i).globals
      + whole-costs b edited.inits p.inits stays.inits.units i
      + whole-costs b (main_of edited).body (main_of p).body main-alike i

pub same-units : (p edited : Program) (edit : Edit) (b : Bounds) → IsEditOf p edit → IsEdited p edit edited
    → units_of edited b ≡ units_of p b
same-units p edited edit b own is =
    let each = edited-each edit p.functions edited.functions (λ i. (is i).functions) in
    units-alike p edited edit is each (program-stays (parts_of p) edit edited.inits edited.functions
    (edit-suits p edit own) (λ i. (is i).inits) each (kept p)) b
