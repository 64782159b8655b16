-- What code does to its state without its choices.
use Rattle.std.proofs.Common.{◌≡◌, ℕ, ℤ, pos, suc, zero, Bool, true, false, Option, None, Some, Ok, Err, List, [], ◌∷◌, map, refl, ◌∙◌, ap}
use Rattle.std.specs.Prelude.{cond, length, option_map, slice_set, unsigned_abs}
use Rattle.std.specs.Ordering.{int_eq}
use Rattle.ba_numbers.specs.declared.ids.StmtId.{StmtId}
use Rattle.ba_choices.specs.declared.Choice.{Choice}
use Rattle.ba_code.specs.Meaning.{assert_value, if_taken, info_at, taken, value_behind}
use Rattle.ba_code.specs.Run.{all_zero, start_of_code, with_param, with_params}
use Rattle.ba_code.specs.State.{CodeAct, CodeEnding, CodeExecution, CodeState, operand_value, or_trap_at, set_array, set_variable, with_array, with_variable}
use Rattle.ba_code.specs.declared.nodes.ArrayInfo.{ArrayInfo}
use Rattle.ba_code.specs.declared.nodes.Operand.{Operand}
use Rattle.ba_code.specs.declared.nodes.Operand.TheVariants as operand
use Rattle.ba_code.specs.declared.nodes.Param.{Param}
use Rattle.ba_code.specs.declared.nodes.Param.TheVariants as param
use Rattle.ba_code.specs.declared.nodes.Take.{Take}
use Rattle.ba_code.specs.declared.nodes.Take.TheVariants as take
use Rattle.ba_code.specs.declared.trees.Code.{Code}
use Rattle.ba_tree.specs.Acts.{then_do}
use Rattle.ba_tree.specs.Choices.{all_elements, no_value, one_element, one_truth, one_value}
use Rattle.ba_tree.specs.Meaning.{elements_with}
use Rattle.ba_tree.specs.declared.run.Flow.TheVariants.{Next}
use Rattle.ba_tree.specs.declared.run.Halt.TheVariants.{AssertFails}
use Rattle.ba_tree.specs.declared.run.Input.{Input}

abbrev pub with_choices : CodeState → List Choice → CodeState
with_choices s choices = record s { choices = choices }

abbrev pub with_left : {A : Type 0} → List Choice → CodeEnding A → CodeEnding A
with_left left e = (e.0, with_choices e.1 left)

-- a part that neither reads nor changes the choices
abbrev pub Steady : {A : Type 0} → CodeAct A → Type 0
Steady {A = A} f = (s : CodeState) (choices : List Choice)
    → f (with_choices s choices) ≡ with_left choices (f s)

-- what is read without the choices
abbrev pub Reads : {B : Type 0} → (CodeState → B) → Type 0
Reads g = (s : CodeState) (choices : List Choice) → g (with_choices s choices) ≡ g s

-- a change of the state that neither reads nor changes the choices
abbrev pub Keeps : (CodeState → CodeState) → Type 0
Keeps h = (s : CodeState) (choices : List Choice) → h (with_choices s choices) ≡ with_choices (h s) choices

-- OPERANDS

pub operand_reads : (a : Operand) → Reads (λ s. operand_value s a)
operand_reads (operand.Const z) s choices = refl
operand_reads (operand.Var n) s choices = refl

pub two_read : {B : Type 0} (k : ℤ → ℤ → B) (a b : Operand)
    → Reads (λ s. k (operand_value s a) (operand_value s b))
two_read k a b s choices =
    ap (λ y. k y (operand_value (with_choices s choices) b)) (operand_reads a s choices)
    ∙ ap (k (operand_value s a)) (operand_reads b s choices)

pub all_read : (values : List Operand) → Reads (λ s. map (operand_value s) values)
all_read [] s choices = refl
all_read (a ∷ values) s choices =
    ap (λ y. y ∷ map (operand_value (with_choices s choices)) values) (operand_reads a s choices)
    ∙ ap (λ zs. operand_value s a ∷ zs) (all_read values s choices)

pub value_reads : (when : CodeState → ℤ) → Reads when → (k : ℕ) → Reads (value_behind when k)
value_reads when reads zero s choices = refl
value_reads when reads (suc k) s choices = reads s choices

-- LEAVES

-- a part that what is read leads to
pub read_steady : {A B : Type 0} (g : CodeState → B) (f : B → CodeAct A) → Reads g
    → ((b : B) → Steady (f b)) → Steady (λ s. f (g s) s)
read_steady g f reads parts s choices =
    ap (λ b. f b (with_choices s choices)) (reads s choices) ∙ parts (g s) s choices

-- a value that may be none, which goes to a variable; and elements that may be none, which go to an array
pub value_steady : (stmt : StmtId) (to : ℕ) (o : Option ℤ)
    → Steady (λ s. then_do (or_trap_at stmt o s) (set_variable to))
value_steady stmt to None s choices = refl
value_steady stmt to (Some z) s choices = refl

pub cells_steady : (stmt : StmtId) (array : ℕ) (o : Option (List ℤ))
    → Steady (λ s. then_do (or_trap_at stmt o s) (set_array array))
cells_steady stmt array None s choices = refl
cells_steady stmt array (Some zs) s choices = refl

abbrev failed_or_next : StmtId → Bool → CodeExecution
failed_or_next stmt b s = cond b (Err (AssertFails stmt), s) (Ok Next, s)

either_steady : (stmt : StmtId) (b : Bool) → Steady (failed_or_next stmt b)
either_steady stmt true s choices = refl
either_steady stmt false s choices = refl

pub assert_steady : (stmt : StmtId) (z : ℤ) → Steady (assert_value stmt z)
assert_steady stmt z s choices = either_steady stmt (int_eq z (pos 0)) s choices

-- what the values of a choice do

mapped_keeps : {B : Type 0} (k : B → CodeState → CodeState) → ((b : B) → Keeps (k b)) → (o : Option B)
    (s : CodeState) (choices : List Choice)
    → option_map (λ b. k b (with_choices s choices)) o
    ≡ option_map (λ t. with_choices t choices) (option_map (λ b. k b s) o)
mapped_keeps k keeps None s choices = refl
mapped_keeps k keeps (Some b) s choices = ap Some (keeps b s choices)

taken_keeps : (arrays : List ArrayInfo) (take : Take) (zs : List ℤ) (s : CodeState) (choices : List Choice)
    → taken arrays take zs (with_choices s choices)
    ≡ option_map (λ t. with_choices t choices) (taken arrays take zs s)
taken_keeps arrays (take.Value to t) zs s choices =
    mapped_keeps (with_variable to) (λ z s choices. refl) (one_value t zs) s choices
taken_keeps arrays (take.Truth to) zs s choices =
    mapped_keeps (with_variable to) (λ z s choices. refl) (one_truth zs) s choices
taken_keeps arrays (take.Cell array) zs s choices = mapped_keeps
    (λ (cell : ℤ × ℤ) s. with_array array (slice_set (s.arrays array) (unsigned_abs cell.0) cell.1) s)
    (λ cell s choices. refl) (one_element (info_at arrays array).t (length (s.arrays array)) zs) s choices
taken_keeps arrays (take.Cells array) zs s choices = mapped_keeps
    (λ zs s. with_array array (elements_with (length (s.arrays array)) zs) s)
    (λ zs s choices. refl) (all_elements (info_at arrays array).t (length (s.arrays array)) zs) s choices
taken_keeps arrays take.Nothing zs s choices =
    mapped_keeps (λ z s. s) (λ z s choices. refl) (no_value zs) s choices

taking : (o : Option CodeState) (s : CodeState) (choices : List Choice)
    → if_taken (option_map (λ t. with_choices t choices) o) (with_choices s choices)
    ≡ with_left choices (if_taken o s)
taking None s choices = refl
taking (Some t) s choices = refl

pub take_steady : (arrays : List ArrayInfo) (take : Take) (zs : List ℤ)
    → Steady (λ s. if_taken (taken arrays take zs s) s)
take_steady arrays take zs s choices =
    ap (λ o. if_taken o (with_choices s choices)) (taken_keeps arrays take zs s choices)
    ∙ taking (taken arrays take zs s) s choices

-- STARTS

param_keeps : (p : Param) (zs : List ℤ) → Keeps (with_param p zs)
param_keeps (param.Var n) zs s choices = refl
param_keeps (param.Array n) zs s choices = refl

params_keep : (ps : List Param) (given : List (List ℤ)) → Keeps (with_params ps given)
params_keep [] given s choices = refl
params_keep (p ∷ ps) [] s choices = refl
params_keep (p ∷ ps) (zs ∷ given) s choices =
    ap (with_params ps given) (param_keeps p zs s choices) ∙ params_keep ps given (with_param p zs s) choices

pub start_again : (code : Code) (i : Input) (old choices : List Choice)
    → start_of_code code i choices ≡ with_choices (start_of_code code i old) choices
start_again code i old choices = params_keep code.params i.values (all_zero code.arrays old) choices

pub start_choices : (code : Code) (i : Input) (choices : List Choice)
    → (start_of_code code i choices).choices ≡ choices
start_choices code i choices = ap (λ (s : CodeState). s.choices) (start_again code i [] choices)
