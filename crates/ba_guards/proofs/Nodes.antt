-- Nodes without parts, each from the words that are made for it.
use Rattle.std.proofs.Common.{◌≡◌, ℕ, ◌<◌, ℤ, Bool, true, false, List, ◌++◌, length, refl, sym, ◌∙◌, ap, subst, arith, append_assoc, ◌∷◌, []}
use Rattle.std.specs.Prelude.{slice_set}
use Rattle.ba_choices.specs.declared.Choice.{Choice}
use Rattle.ba_code.specs.Facts.{Declared}
use Rattle.ba_code.specs.Meaning.{info_at}
use Rattle.ba_code.specs.State.{CodeState, operand_value, set_array, set_variable}
use Rattle.ba_code.specs.declared.nodes.Operand.{Operand}
use Rattle.ba_code.specs.declared.nodes.Operand.TheVariants as operand
use Rattle.ba_code_laws.specs.Tracing.{Traced, untraced}
use Rattle.ba_guards.proofs.Going.{means-before, traced_of}
use Rattle.ba_guards.proofs.Growing.{fits-grown, same-grown, snapshot-kept, variables-same}
use Rattle.ba_guards.proofs.Leaves.{assign-means, demand-means, store-means}
use Rattle.ba_guards.specs.Continuing.{traced_from}
use Rattle.ba_guards.specs.Making.{Demands, Emits, EmitsArray, Fits, Means, checked, operand_at, word_in}
use Rattle.ba_guards.specs.Reading.{Snapshot, arrays_at, is_live, snapshot, variables_at}
use Rattle.ba_guards.specs.declared.builder.Builder.{Builder}
use Rattle.ba_tree.specs.declared.run.Halt.{Halt}
use Rattle.ba_wordlist.proofs.Values.{value-same, values-agree}
use Rattle.ba_wordlist.specs.Meaning.{Assignment, is_nonzero, value_at, values_of}
use Rattle.ba_wordlist.specs.declared.words.WordOp.{WordOp}

-- WORDS, one after another

pub emits-after : (old mid new : List WordOp) (a w : ℕ) (ha hw h : Assignment → ℤ) → Emits old mid a ha →
    Emits mid new w hw
    → ((f : Assignment) → hw f ≡ h f) → Emits old new w h
emits-after old mid new a w ha hw h first second same = record {
  more = first.more ++ second.more;
  grown = second.grown ∙ ap (λ ws. ws ++ second.more) first.grown ∙ append_assoc old first.more second.more;
  fit = second.fit;
  name = second.name;
  has = λ f. second.has f ∙ same f;
}

pub word-agree : (f g : Assignment) (ws : List WordOp) (w : ℕ) → ((k : ℕ) → k < length ws → f k ≡ g k) →
    word_in ws w f ≡ word_in ws w g
word-agree f g ws w same = ap (λ vs. value_at vs w) (values-agree f g ws same)

-- what a node reads if the run comes to it
pub reads : (f : Assignment) (b : Builder) (cs : List Choice) (o : Operand)
    → operand_value (traced_of f b cs).code o ≡ operand_at (values_of f b.words) b.vars o
reads f b cs (operand.Const z) = refl
reads f b cs (operand.Var n) = refl

-- THE SAME MOMENT with more words
module _ (d : Declared) (b : Builder) (fits : Fits d b) (ws more : List WordOp) (grown : ws ≡ b.words ++
    more) (f : Assignment) where
  pub traced-later : (cs : List Choice) → traced_of f (record b { words = ws }) cs ≡ traced_of f b cs
  traced-later cs =
      let same = same-grown f b.words ws more grown in
      let vars : variables_at (values_of f ws) b.vars ≡ variables_at (values_of f b.words) b.vars =
      variables-same (length b.words) (values_of f ws) (values_of f b.words) same b.vars (omega (
        arith,
        fits.live,
      )) fits.vars in
      ap (λ m. traced_from m (snapshot f (record b { words = ws })) cs) vars
      ∙ ap (λ s. traced_from (variables_at (values_of f b.words) b.vars) s cs)
      (snapshot-kept d b fits (values_of f ws) f same)

-- A VARIABLE gets the value of a word

pub assign-node : (d : Declared) (b new : Builder) → Fits d b → (to : ℕ) → to < d.vars →
    (ws : List WordOp) (w : ℕ)
    (h : Assignment → ℤ) → Emits b.words ws w h
    → new ≡ record b { words = ws; vars = slice_set b.vars to w; written = b.written ++ to ∷ [] }
    → Means d (λ f r. untraced (λ c. set_variable to (h f) c)) b new
assign-node d b new fits to there ws w h e is =
    let mid : Builder = record b { words = ws } in
    let m = assign-means d mid (fits-grown d b ws e.more fits e.grown e.fit) to (λ f c. h f) w there e.name
    (λ f cs. sym (e.has f)) in
    subst (Means d (λ f r. untraced (λ c. set_variable to (h f) c)) b) (sym is)
    (means-before d (λ f r. untraced (λ c. set_variable to (h f) c)) b
    (record mid { vars = slice_set b.vars to w; written = b.written ++ to ∷ [] }) ws e.more fits e.grown
    e.fit m)

-- AN ARRAY gets elements

pub store-node : (d : Declared) (b new : Builder) → Fits d b → (array : ℕ) → array < length d.arrays →
    (ws : List WordOp) (w : ℕ)
    (h : Assignment → List ℤ) (elements : Assignment → CodeState → List ℤ)
    → EmitsArray b.words ws w (info_at d.arrays array).len h
    → ((f : Assignment) (cs : List Choice) → is_live (values_of f b.words) b ≡ true →
    elements f (traced_of f b cs).code ≡ h f)
    → ((f : Assignment) → is_live (values_of f b.words) b ≡ false →
    h f ≡ arrays_at (values_of f b.words) b.arrays array)
    → new ≡ record b { words = ws; arrays = slice_set b.arrays array w }
    → Means d (λ f r. untraced (λ c. set_array array (elements f c) c)) b new
store-node d b new fits array there ws w h elements e on off is =
    let mid : Builder = record b { words = ws } in
    let live = λ (f : Assignment). ap is_nonzero
    (value-same (length b.words) b.live (values_of f ws) (values_of f b.words) (same-grown f b.words ws
    e.more e.grown) fits.live) in
    let m = store-means d mid (fits-grown d b ws e.more fits e.grown e.fit) array elements w there e.name
    e.long
    (λ f cs at. ap (λ (t : Traced). elements f t.code) (traced-later d b fits ws e.more e.grown f cs)
    ∙ on f cs (sym (live f) ∙ at) ∙ sym (e.has f))
    (λ f at. e.has f ∙ off f (sym (live f) ∙ at)
    ∙ sym (ap (λ (s : Snapshot). s.arrays array)
    (snapshot-kept d b fits (values_of f ws) f (same-grown f b.words ws e.more e.grown)))) in
    subst (Means d (λ f r. untraced (λ c. set_array array (elements f c) c)) b) (sym is)
    (means-before d (λ f r. untraced (λ c. set_array array (elements f c) c)) b
    (record mid { arrays = slice_set b.arrays array w }) ws e.more fits e.grown e.fit m)

-- A CHECK of a word

pub check-node : (d : Declared) (b new : Builder) → Fits d b → (ws : List WordOp) (w : ℕ) (h : Assignment → ℤ)
    → Emits b.words ws w h → Demands d (record b { words = ws }) new (word_in ws w) →
    (halt : Halt) (test : Assignment → Bool)
    → ((f : Assignment) → test f ≡ is_nonzero (h f)) → Means d (λ f r. checked (λ c. test f) halt) b new
check-node d b new fits ws w h e asks halt test same =
    let mid : Builder = record b { words = ws } in
    means-before d (λ f r. checked (λ c. test f) halt) b new ws e.more fits e.grown e.fit
    (demand-means d mid (fits-grown d b ws e.more fits e.grown e.fit) (word_in ws w) new asks (λ f c. test
    f) halt
    (λ f cs on. same f ∙ ap is_nonzero (sym (e.has f))))
