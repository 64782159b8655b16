-- From the nodes of a program to what its list of words says.
use Rattle.std.proofs.Common.{◌≡◌, ℕ, ℤ, pos, true, ◌&&◌, Option, Some, None, Ok, Err, List, [], ◌∷◌, ◌++◌, map, refl, sym, ◌∙◌, ap, subst, append-nil}
use Rattle.std.specs.List.{list_all}
use Rattle.ba_choices.specs.declared.Choice.{Choice}
use Rattle.ba_code.specs.Facts.{Declared, is_array_info, is_param, is_unrolled}
use Rattle.ba_code.specs.Run.{all_zero, code_of_bound, outcome_of_code, outcome_of_end, outcome_with, start_of_code, with_param, with_params}
use Rattle.ba_code.specs.State.{CodeState}
use Rattle.ba_code.specs.declared.nodes.ArrayInfo.{ArrayInfo}
use Rattle.ba_code.specs.declared.nodes.Node.{Node}
use Rattle.ba_code.specs.declared.nodes.Param.{Param}
use Rattle.ba_code.specs.declared.trees.BoundTree.{BoundTree}
use Rattle.ba_code_laws.proofs.Erasing.{erases-nodes}
use Rattle.ba_code_laws.specs.Tracing.{Relaxes, Traced, everywhere, places_used, trace_nodes, without_trace}
use Rattle.ba_code_laws.specs.Visits.{Visit, are_kept, chosen}
use Rattle.ba_guards.proofs.Beginning.{list-fits, param-keeps, tree-keeps, with_choices}
use Rattle.ba_guards.proofs.Going.{ended-some}
use Rattle.ba_guards.specs.Continuing.{after_end, continued, ended, labels_of, status_after}
use Rattle.ba_guards.specs.Contract.{Chosen, IsGood, IsGuarded}
use Rattle.ba_guards.specs.Making.{AreFit, Fits, Means}
use Rattle.ba_guards.specs.Parts.{declared}
use Rattle.ba_guards.specs.Reading.{Snapshot, met, snapshot, visits}
use Rattle.ba_guards.specs.Reading.Status.{running}
use Rattle.ba_guards.specs.Starting.{Starts}
use Rattle.ba_guards.specs.declared.builder.Builder.{Builder}
use Rattle.ba_tree.specs.Acts.{EndOn}
use Rattle.ba_tree.specs.Run.{if_none_left, outcome_of_halt}
use Rattle.ba_tree.specs.declared.run.Flow.{Flow}
use Rattle.ba_tree.specs.declared.run.Halt.{Halt}
use Rattle.ba_tree.specs.declared.run.Halt.TheVariants as halt
use Rattle.ba_tree.specs.declared.run.Input.{Input}
use Rattle.ba_tree.specs.declared.run.Outcome.{Outcome}
use Rattle.ba_tree.specs.declared.run.Outcome.TheVariants.{Done}
use Rattle.ba_tree.specs.declared.run.Place.{Place}
use Rattle.ba_wordlist.proofs.Choices.{chosen-everywhere, kept-everywhere}
use Rattle.ba_wordlist.specs.Meaning.{Assignment, are_met, holds, spelled, values_of, visits_in, visits_of}
use Rattle.ba_wordlist.specs.Facts.{is_word_list, is_word_value}
use Rattle.ba_wordlist.specs.declared.words.WordList.{WordList}
use Rattle.ba_wordlist.specs.declared.words.WordOp.{WordOp}

-- THE START doesn't depend on the choices, but has them

params-keep : (ps : List Param) (given : List (List ℤ)) (s : CodeState) (choices : List Choice)
    → with_params ps given (with_choices choices s) ≡ with_choices choices (with_params ps given s)
params-keep [] given s choices = refl
params-keep (p ∷ ps) [] s choices = refl
params-keep (p ∷ ps) (zs ∷ given) s choices = ap (with_params ps given) (param-keeps p zs s choices)
    ∙ params-keep ps given (with_param p zs s) choices

-- ENDS

after-good : (labels : List ℕ) (e : EndOn Traced (Flow ℕ)) (s : Snapshot) → after_end labels e ≡ Some (s, [])
    → (outcome_of_end (without_trace e) ≡ Done) × (e.1.places ≡ s.places)
after-good labels (Ok flow, t) s is =
    (ap (λ cs. if_none_left cs Done) (ap second is), ap first is) where
      second : Option (Snapshot × List Choice) → List Choice
      second None = []
      second (Some p) = p.1

      first : Option (Snapshot × List Choice) → List Place
      first None = []
      first (Some p) = p.0.places
after-good labels (Err h, t) s is = absurd (let f : None ≡ Some (s, []) = is in cc)

none-left : (cs : List Choice) (o : Outcome) → if_none_left cs o ≡ Done → (cs ≡ []) × (o ≡ Done)
none-left [] o is = (refl, is)
none-left (c ∷ cs) o is = absurd (cc)

not-done : (h : Halt) → outcome_of_halt h ≡ Done → ⊥
not-done (halt.AssertFails stmt) is = cc
not-done (halt.Trap stmt) is = cc
not-done (halt.Beyond stmt) is = cc
not-done halt.WrongChoices is = cc

good-after : (labels : List ℕ) (e : EndOn Traced (Flow ℕ)) → outcome_of_end (without_trace e) ≡ Done
    → (s : Snapshot) × (after_end labels e ≡ Some (s, []))
good-after labels (Ok flow, t) is =
    let s : Snapshot = record {
      status = status_after labels flow t.code.variables;
      arrays = t.code.arrays;
      places = t.places;
    } in
    (s, ap (λ cs. Some (s, cs)) (none-left t.code.choices Done is).0)
good-after labels (Err h, t) is = absurd (not-done h (none-left t.code.choices (outcome_of_halt h) is).1)

-- THE WHOLE

module _ (tree : BoundTree) (input : Input) (d : Declared) (b0 b1 : Builder) (list : WordList)
    (unrolled : list_all is_unrolled tree.body ≡ true)
    (words : list.words ≡ b1.words) (require : list.require ≡ b1.require) (places : list.places ≡ b1.places)
    (arrays : d.arrays ≡ tree.arrays)
    (stands : (f : Assignment) → snapshot f b0 ≡ record {
      status = running (start_of_code (code_of_bound tree) input []).variables;
      arrays = (start_of_code (code_of_bound tree) input []).arrays;
      places = [];
    })
    (nothing : (f : Assignment) → visits f b0 ≡ [])
    (free : (f : Assignment) → met f b0 ≡ true)
    (m : Means d (λ f r. trace_nodes r d.arrays tree.body) b0 b1) where
  abbrev start : List Choice → Traced
  start cs = record { code = start_of_code (code_of_bound tree) input cs; places = [] }

  abbrev ending : Relaxes → List Choice → EndOn Traced (Flow ℕ)
  ending r cs = trace_nodes r tree.arrays tree.body (start cs)

  from-start : (f : Assignment) (r : Relaxes) (cs : List Choice)
      → continued (labels_of b0.exits) (trace_nodes r d.arrays tree.body) (snapshot f b0) cs
      ≡ after_end (labels_of b0.exits) (ending r cs)
  from-start f r cs =
      ap (λ s. continued (labels_of b0.exits) (trace_nodes r d.arrays tree.body) s cs) (stands f)
      ∙ ap (λ a. after_end (labels_of b0.exits) (trace_nodes r a tree.body
      (record { code = with_choices cs (start_of_code (code_of_bound tree) input []); places = [] }))) arrays
      ∙ ap (λ (c : CodeState). after_end (labels_of b0.exits) (trace_nodes r tree.arrays tree.body
      (record { code = c; places = [] })))
      (sym (params-keep tree.params input.values (all_zero tree.arrays []) cs))

  outcome-is : (turns : ℕ) (r : Relaxes) (cs : List Choice)
      → outcome_of_code (code_of_bound tree) input turns r cs ≡ outcome_of_end (without_trace (ending r cs))
  unfolding outcome_with
  outcome-is turns r cs = sym (ap outcome_of_end ((erases-nodes r tree.arrays turns tree.body
      unrolled).same (start cs)))

  log-is : (f : Assignment) → visits_of f list ≡ m.log f
  log-is f = ap (λ ws. visits_in (values_of f ws) list.places) words ∙ ap (visits_in (values_of f
      b1.words)) places
      ∙ m.logs f ∙ ap (λ l. l ++ m.log f) (nothing f)

  holds-is : (f : Assignment) → holds f list ≡ m.good f
  holds-is f = ap (λ ws. are_met (values_of f ws) list.require) words ∙ ap (are_met (values_of f b1.words))
      require
      ∙ m.keeps f ∙ ap (λ b. b && m.good f) (free f)

  ran : (f : Assignment) (r : Relaxes) → are_kept r (visits_of f list) ≡ true
      → after_end (labels_of b0.exits) (ending r (chosen r (visits_of f list))) ≡ ended (holds f list)
      (snapshot f b1) []
  ran f r kept =
      sym (from-start f r (chosen r (visits_of f list)))
      ∙ ap (λ cs. continued (labels_of b0.exits) (trace_nodes r d.arrays tree.body) (snapshot f b0) cs)
      (ap (chosen r) (log-is f) ∙ sym (append-nil (chosen r (m.log f))))
      ∙ m.runs r f [] (sym (ap (are_kept r) (log-is f)) ∙ kept)
      ∙ ap (λ b. ended b (snapshot f b1) []) (sym (holds-is f))

  good-of : (turns : ℕ) (r : Relaxes) (f : Assignment) → are_kept r (visits_of f list) ≡ true →
      holds f list ≡ true
      → IsGood tree input turns r (chosen r (visits_of f list))
  good-of turns r f kept on = outcome-is turns r (chosen r (visits_of f list))
      ∙ (after-good (labels_of b0.exits) (ending r (chosen r (visits_of f list))) (snapshot f b1)
      (ran f r kept ∙ ap (λ b. ended b (snapshot f b1) []) on)).0

  holds-of : (turns : ℕ) (r : Relaxes) (f : Assignment) → are_kept r (visits_of f list) ≡ true
      → IsGood tree input turns r (chosen r (visits_of f list)) → holds f list ≡ true
  holds-of turns r f kept good =
      let e = good-after (labels_of b0.exits) (ending r (chosen r (visits_of f list)))
      (sym (outcome-is turns r (chosen r (visits_of f list))) ∙ good) in
      (ended-some (holds f list) e.0 (snapshot f b1) [] [] (sym e.1 ∙ ran f r kept)).0

  chosen-of : (turns : ℕ) (r : Relaxes) (cs : List Choice) → IsGood tree input turns r cs → Chosen list r cs
  chosen-of turns r cs good =
      let f : Assignment = λ k. pos 0 in
      let e = good-after (labels_of b0.exits) (ending r cs) (sym (outcome-is turns r cs) ∙ good) in
      let found = m.finds r f cs [] e.0 (from-start f r cs ∙ e.1) in
      let spells : chosen r (visits_of found.by list) ≡ cs =
      ap (chosen r) (log-is found.by) ∙ sym (append-nil (chosen r (m.log found.by))) ∙ found.spells in
      let kept : are_kept r (visits_of found.by list) ≡ true = ap (are_kept r) (log-is found.by) ∙
      found.kept in
      record {
        by = found.by;
        holds = holds-of turns r found.by kept (ap (λ cs. outcome_of_code (code_of_bound tree) input turns
            r cs) spells ∙ good);
        kept = kept;
        spells = spells;
      }

  places-of : (f : Assignment) → holds f list ≡ true
      → places_used (code_of_bound tree) input (spelled f list) ≡ map (λ (v : Visit). v.place) (visits_of f
      list)
  places-of f on =
      ap (λ cs. (ending everywhere cs).1.places) (sym (chosen-everywhere (visits_of f list)))
      ∙ (after-good (labels_of b0.exits) (ending everywhere (chosen everywhere (visits_of f list)))
      (snapshot f b1)
      (ran f everywhere (kept-everywhere (visits_of f list)) ∙ ap (λ b. ended b (snapshot f b1) []) on)).1
      ∙ ap (map (λ (v : Visit). v.place)) (m.logs f ∙ ap (λ l. l ++ m.log f) (nothing f) ∙ sym (log-is f))

  pub guarded-whole : IsGuarded tree input list
  guarded-whole = record {
    exactly = λ turns r f kept. (good-of turns r f kept, holds-of turns r f kept);
    each = chosen-of;
    places = places-of;
  }

-- THE CALLS in a row

pub record Walked (tree : BoundTree) (input : Input) (b0 b1 : Builder) : Type 0 where
  pub starts : Starts (declared tree.vars tree.arrays) b0 (start_of_code (code_of_bound tree) input [])
  pub means : Means (declared tree.vars tree.arrays) (λ f r. trace_nodes r tree.arrays tree.body) b0 b1

pub walked : (tree : BoundTree) (input : Input) (arrays : List ArrayInfo) (params : List Param) (values :
    List (List ℤ)) (nodes : List Node)
    (b b0 b1 : Builder) → arrays ≡ tree.arrays → params ≡ tree.params → values ≡ input.values →
    nodes ≡ tree.body
    → list_all (list_all is_word_value) input.values ≡ true
    → (list_all is_array_info arrays ≡ true → Starts (declared tree.vars arrays) b (all_zero arrays []))
    → ((vars : ℕ) (s : CodeState) → Starts (declared vars arrays) b s
    → list_all (is_param (declared vars arrays)) params ≡ true →
    list_all (list_all is_word_value) values ≡ true
    → Starts (declared vars arrays) b0 (with_params params values s))
    → ((vars : ℕ) → list_all is_array_info arrays ≡ true → Fits (declared vars arrays) b0
    → AreFit (declared vars arrays) nodes →
    Means (declared vars arrays) (λ f r. trace_nodes r arrays nodes) b0 b1)
    → Walked tree input b0 b1
walked tree input arrays params values nodes b b0 b1 same_arrays same_params same_values same_nodes range
    start give walk =
    let vars = tree.vars in
    let kept = tree-keeps (code_of_bound tree) tree.fit in
    let begun = subst (λ a. list_all is_array_info a ≡ true →
    Starts (declared vars a) b (all_zero a [])) same_arrays start kept.arrays in
    let given = subst (λ vs. (s : CodeState) → Starts (declared vars tree.arrays) b s
    → list_all (is_param (declared vars tree.arrays)) tree.params ≡ true →
    list_all (list_all is_word_value) vs ≡ true
    → Starts (declared vars tree.arrays) b0 (with_params tree.params vs s)) same_values
    (subst (λ ps. (s : CodeState) → Starts (declared vars tree.arrays) b s
    → list_all (is_param (declared vars tree.arrays)) ps ≡ true →
    list_all (list_all is_word_value) values ≡ true
    → Starts (declared vars tree.arrays) b0 (with_params ps values s)) same_params
    (subst (λ a. (s : CodeState) → Starts (declared vars a) b s
    → list_all (is_param (declared vars a)) params ≡ true → list_all (list_all is_word_value) values ≡ true
    → Starts (declared vars a) b0 (with_params params values s)) same_arrays (give vars)))
    (all_zero tree.arrays []) begun kept.params range in
    record {
      starts = given;
      means = subst (λ ns. AreFit (declared vars tree.arrays) ns
          → Means (declared vars tree.arrays) (λ f r. trace_nodes r tree.arrays ns) b0 b1) same_nodes
          (subst (λ a. list_all is_array_info a ≡ true → Fits (declared vars a) b0 →
          AreFit (declared vars a) nodes
          → Means (declared vars a) (λ f r. trace_nodes r a nodes) b0 b1) same_arrays (walk vars)
          kept.arrays given.fits) kept.body;
    }

pub walked-fits : (tree : BoundTree) (input : Input) (b0 b1 : Builder) (words : List WordOp) (require :
    List ℕ)
    → Walked tree input b0 b1 → words ≡ b1.words → require ≡ b1.require →
    is_word_list words require b1.places ≡ true
walked-fits tree input b0 b1 words require w same_words same_require =
    ap (λ ws. is_word_list ws require b1.places) same_words ∙ ap (λ r. is_word_list b1.words r b1.places)
    same_require
    ∙ list-fits (declared tree.vars tree.arrays) b1 w.means.fits

pub walked-guards : (tree : BoundTree) (input : Input) (b0 b1 : Builder) (list : WordList) →
    Walked tree input b0 b1
    → list.words ≡ b1.words → list.require ≡ b1.require → list.places ≡ b1.places → IsGuarded tree input list
walked-guards tree input b0 b1 list w words require places =
    guarded-whole tree input (declared tree.vars tree.arrays) b0 b1 list (tree-keeps (code_of_bound tree)
    tree.fit).unrolled
    words require places refl w.starts.stands w.starts.unvisited w.starts.undemanded w.means
