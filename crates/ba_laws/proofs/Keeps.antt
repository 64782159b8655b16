-- What a program does to its state without its choices.
use Rattle.std.proofs.Common.{◌≡◌, ℤ, pos, Bool, true, false, Option, None, Some, List, [], ◌∷◌, refl, sym, ◌∙◌, ap}
use Rattle.std.specs.Prelude.{cond, length, take, replicate, ◌++◌, slice_set, unsigned_abs}
use Rattle.ba_numbers.specs.declared.ids.StmtId.{StmtId}
use Rattle.ba_numbers.specs.declared.ids.VarId.{VarId}
use Rattle.ba_choices.specs.declared.Choice.{Choice}
use Rattle.ba_tree.specs.State.{State, Act, Ending, value_at, location_of, elements_of, element_at, with_elements, is_index}
use Rattle.ba_tree.specs.Meaning.{variable_of, or_trap, or_trapped, set_element, declare}
use Rattle.ba_tree.specs.declared.run.Argument.{Argument}
use Rattle.ba_tree.specs.declared.run.Input.{Input}
use Rattle.ba_tree.specs.declared.tree.Program.{Program}
use Rattle.ba_tree.specs.declared.tree.Shape.{Shape}
use Rattle.ba_tree.specs.declared.tree.Shape.TheVariants.{Value, Array, Passed}
use Rattle.ba_tree.specs.declared.tree.Function.{Function}
use Rattle.ba_tree.specs.Run.{begin_shape, begin_all, bind_one, bind_all, begin_frame, with_restored, end_frame, main_of, with_input_one, with_input, start_of, enter_main}

abbrev pub with_choices : State → List Choice → State
with_choices s choices = record s { choices = choices }

abbrev pub with_left : {A : Type 0} → List Choice → Ending A → Ending A
with_left left e = (e.0, with_choices e.1 left)

-- a part that neither reads nor changes the choices
abbrev pub Steady : {A : Type 0} → Act A → Type 0
Steady {A = A} f = (s : State) (choices : List Choice) → f (with_choices s choices) ≡ with_left choices (f s)

-- a change of the state that neither reads nor changes the choices
abbrev pub Keeps : (State → State) → Type 0
Keeps h = (s : State) (choices : List Choice) → h (with_choices s choices) ≡ with_choices (h s) choices

pub keeps_choices : (h : State → State) → Keeps h → (s : State) → s.choices ≡ (h s).choices
keeps_choices h keeps s = ap (λ (t : State). t.choices) (sym (keeps s s.choices))

-- LEAVES

pub trap_steady : (here : StmtId) (z : Option ℤ) → Steady (or_trap here z)
trap_steady here None s choices = refl
trap_steady here (Some z) s choices = refl

pub element_steady : (here : StmtId) (array : VarId) (i : ℤ)
    → Steady (λ s. or_trap here (element_at s array i) s)
element_steady here array i s choices = trap_steady here (element_at s array i) s choices

abbrev stored : State → VarId → ℤ → ℤ → State
stored s array i z = with_elements s array (slice_set (elements_of s array) (unsigned_abs i) z)

pub set_element_steady : (here : StmtId) (array : VarId) (e : ℤ × ℤ) → Steady (set_element here array e)
set_element_steady here array (i, z) s choices = from (is_index (length (elements_of s array)) i) where
  from : (b : Bool)
      → or_trapped here (cond b (Some (with_choices (stored s array i z) choices)) None)
      (with_choices s choices)
      ≡ with_left choices (or_trapped here (cond b (Some (stored s array i z)) None) s)
  from true = refl
  from false = refl

pub declare_keeps : (shape : Shape) (var : VarId) → Keeps (declare shape var)
declare_keeps Value var s choices = refl
declare_keeps (Array n) var s choices = refl
declare_keeps Passed var s choices = refl

-- FRAMES

shape_keeps : (shape : Shape) (v : VarId) → Keeps (begin_shape shape v)
shape_keeps Value v s choices = refl
shape_keeps (Array n) v s choices = refl
shape_keeps Passed v s choices = refl

pub begin_keeps : (p : Program) (vs : List VarId) → Keeps (begin_all p vs)
begin_keeps p [] s choices = refl
begin_keeps p (v ∷ vs) s choices = ap (begin_all p vs) (shape_keeps (variable_of p v).shape v s choices)
    ∙ begin_keeps p vs (begin_shape (variable_of p v).shape v s) choices

argument_keeps : (v : VarId) (arg : Argument) → Keeps (bind_one v arg)
argument_keeps v (Argument.Value z) s choices = refl
argument_keeps v (Argument.Array location) s choices = refl

bind_keeps : (vs : List VarId) (args : List Argument) → Keeps (bind_all vs args)
bind_keeps [] args s choices = refl
bind_keeps (v ∷ vs) [] s choices = refl
bind_keeps (v ∷ vs) (arg ∷ args) s choices = ap (bind_all vs args) (argument_keeps v arg s choices)
    ∙ bind_keeps vs args (bind_one v arg s) choices

pub frame_keeps : (p : Program) (f : Function) (args : List Argument) → Keeps (begin_frame p f args)
frame_keeps p f args s choices = ap (begin_all p f.locals) (bind_keeps f.params args s choices)
    ∙ begin_keeps p f.locals (bind_all f.params args s) choices

pub start_keeps : (p : Program) (choices : List Choice)
    → start_of p choices ≡ with_choices (start_of p []) choices
start_keeps p choices = begin_keeps p p.globals (record {
  values = replicate (length p.variables) (pos 0);
  arrays = [];
  locations = replicate (length p.variables) 0;
  choices = [];
}) choices

restored_keeps : (vs : List VarId) (before s : State) (old choices : List Choice)
    → with_restored vs (with_choices before old) (with_choices s choices)
    ≡ with_choices (with_restored vs before s) choices
restored_keeps [] before s old choices = refl
restored_keeps (v ∷ vs) before s old choices = restored_keeps vs before (record s {
  values = slice_set s.values v.0 (value_at before v);
  locations = slice_set s.locations v.0 (location_of before v);
}) old choices

pub end_keeps : (f : Function) (before s : State) (old choices : List Choice)
    → end_frame f (with_choices before old) (with_choices s choices)
    ≡ with_choices (end_frame f before s) choices
end_keeps f before s old choices =
    ap (λ (t : State). record t { arrays = take (length before.arrays) s.arrays })
    (restored_keeps (f.params ++ f.locals) before s old choices)

input_shape_keeps : (shape : Shape) (v : VarId) (zs : List ℤ) → Keeps (with_input_one shape v zs)
input_shape_keeps Value v zs s choices = refl
input_shape_keeps (Array n) v zs s choices = refl
input_shape_keeps Passed v zs s choices = refl

input_keeps : (p : Program) (vs : List VarId) (given : List (List ℤ)) → Keeps (with_input p vs given)
input_keeps p [] given s choices = refl
input_keeps p (v ∷ vs) [] s choices = refl
input_keeps p (v ∷ vs) (zs ∷ given) s choices =
    ap (with_input p vs given) (input_shape_keeps (variable_of p v).shape v zs s choices)
    ∙ input_keeps p vs given (with_input_one (variable_of p v).shape v zs s) choices

pub main_keeps : (p : Program) (input : Input) → Keeps (enter_main p input)
main_keeps p input s choices =
    ap (λ t. with_input p (main_of p).params input.values (begin_all p (main_of p).locals t))
    (begin_keeps p (main_of p).params s choices)
    ∙ ap (with_input p (main_of p).params input.values)
    (begin_keeps p (main_of p).locals (begin_all p (main_of p).params s) choices)
    ∙ input_keeps p (main_of p).params input.values
    (begin_all p (main_of p).locals (begin_all p (main_of p).params s)) choices
