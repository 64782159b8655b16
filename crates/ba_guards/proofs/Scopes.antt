-- Blocks, and how they are left.
use Rattle.std.proofs.Common.{◌≡◌, ℕ, zero, suc, ◌+◌, ◌<◌, ◌≤◌, ◌==◌, ℤ, pos, Bool, true, false, ◌&&◌, ◌||◌, cond, Some, None, Ok, Err, List, [], ◌∷◌, ◌++◌, length, slice_get, refl, sym, ◌∙◌, ap, subst, arith, append_assoc, append-nil, length-append}
use Rattle.std.proofs.lemmas.Bool.{and_from, and_parts, eq-eqb, eqb-true, ne_eqb}
use Rattle.std.proofs.lemmas.List.{length-map, length-set, map-append}
use Rattle.std.proofs.lemmas.List.Folds.{list_all-append}
use Rattle.std.specs.List.{list_all}
use Rattle.std.specs.Prelude.{slice_set}
use Rattle.std.proofs.Math.Bool.{and-true}
use Rattle.ba_choices.specs.declared.Choice.{Choice}
use Rattle.ba_code.specs.Facts.{Declared}
use Rattle.ba_code.specs.Meaning.{flow_after_block}
use Rattle.ba_code_laws.specs.Tracing.{Relaxes, Traced, TracedExecution, untraced}
use Rattle.ba_code_laws.specs.Visits.{chosen}
use Rattle.ba_guards.proofs.Exiting.{exit-more, exit-within, idle-off, labels-set, left-append, left-within, off-idle, or_left, set-left, set-single, single-init, single-more, unset-left, unset-single}
use Rattle.ba_guards.proofs.Forks.{cells_at, later-cells, later-list, later-met, later-vars, later-visits, later-word, list_at, on_at, rest_at, snap, vars_at, ways-stand}
use Rattle.ba_guards.proofs.Going.{is_running, left-resting, live-running, means-before, means-steady, resting}
use Rattle.ba_guards.proofs.Growing.{exits-more, fits-grown, left-same, single-same, same-grown, variables-same}
use Rattle.ba_guards.proofs.Writing.{ends-same, frames-set, front-found, gathers-writes, since-push, since-writes, written-push, written-set, writes-none}
use Rattle.ba_guards.specs.Written.{AreSince, frames_of}
use Rattle.ba_guards.specs.Continuing.{Further, after_end, continued, ended, exit_of, labels_of, status_after, traced_from}
use Rattle.ba_guards.specs.Making.{are_off, Closes, Fits, Found, Leaving, Means, Part, Scopes, Writes, fits_exit, holds_in, is_single}
use Rattle.ba_guards.specs.Reading.{Snapshot, Status, arrays_at, is_live, left_from, met, places_at, snapshot, variables_at, visits}
use Rattle.ba_guards.specs.Reading.Status.{idle, running, left}
use Rattle.ba_guards.specs.declared.builder.Builder.{Builder}
use Rattle.ba_guards.specs.declared.exits.Exit.{Exit}
use Rattle.ba_tree.specs.Acts.{EndOn, give, then_do}
use Rattle.ba_tree.specs.declared.run.Flow.{Flow}
use Rattle.ba_tree.specs.declared.run.Flow.TheVariants.{Next, Leaves}
use Rattle.ba_tree.specs.declared.run.Place.{Place}
use Rattle.ba_wordlist.proofs.Values.{of_name, to_name, value-const}
use Rattle.ba_wordlist.specs.Facts.{are_names, is_name}
use Rattle.ba_wordlist.specs.Meaning.{Assignment, are_met, is_nonzero, value_at, values_of, visits_in}

-- A BLOCK is left by its exit

abbrev closed_status : ℕ → Status → Status
closed_status n idle = idle
closed_status n (running m) = running m
closed_status n (left k m) = cond (k == n) (running m) (left k m)

abbrev closed : ℕ → Snapshot → Snapshot
closed n s = record s { status = closed_status n s.status }

abbrev closed_further : ℕ → Further → Further
closed_further n None = None
closed_further n (Some (s, cs)) = Some (closed n s, cs)

abbrev pub scoped : ℕ → TracedExecution → TracedExecution
scoped label body s = then_do (body s) (λ flow. give (flow_after_block label flow))

module _ (labels : List ℕ) (label : ℕ) (some : 0 < length labels) where
  after-leave : (other : ℕ) (b : Bool) → (other == label) ≡ b → (m : ℕ → ℤ)
      → status_after labels (cond b Next (Leaves other)) m
      ≡ closed_status (length labels) (left (exit_of (labels ++ label ∷ []) other) m)
  after-leave other true is m =
      sym (ap (λ k. closed_status (length labels) (left k m)) (exit-more labels label other
      ∙ ap (λ b. cond b (length labels) (exit_of labels other)) is)
      ∙ ap (λ b. cond b (running m) (left (length labels) m)) (eq-eqb (length labels) (length labels) refl))
  after-leave other false is m =
      let within = exit-within labels other some in
      sym (ap (λ k. closed_status (length labels) (left k m)) (exit-more labels label other
      ∙ ap (λ b. cond b (length labels) (exit_of labels other)) is)
      ∙ ap (λ b. cond b (running m) (left (exit_of labels other) m))
      (ne_eqb (exit_of labels other) (length labels) (λ e. absurd (omega (arith, within, e)))))

  after-scope : (e : EndOn Traced (Flow ℕ)) →
      after_end labels (then_do e (λ flow. give (flow_after_block label flow)))
      ≡ closed_further (length labels) (after_end (labels ++ label ∷ []) e)
  after-scope (Ok Next, t) = refl
  after-scope (Ok (Leaves other), t) = ap (λ status. Some (
    record {
      status = status;
      arrays = t.code.arrays;
      places = t.places;
    },
    t.code.choices,
  )) (after-cond (other == label) ∙ after-leave other (other == label) refl t.code.variables) where
    after-cond : (b : Bool) → status_after labels (cond b Next (Leaves other)) t.code.variables
        ≡ status_after labels (cond b Next (Leaves other)) t.code.variables
    after-cond b = refl
  after-scope (Err h, t) = refl

  -- a run that is before the block goes on after it
  scope-continued : (body : TracedExecution) (status : Status) (arrays : ℕ →
      List ℤ) (places : List Place) (cs : List Choice)
      → ((k : ℕ) (m : ℕ → ℤ) → status ≡ left k m → k < length labels)
      → continued labels (scoped label body) (record { status = status; arrays = arrays; places = places }) cs
      ≡ closed_further (length labels)
      (continued (labels ++ label ∷ []) body (record { status = status; arrays = arrays; places = places })
      cs)
  scope-continued body idle arrays places cs within = refl
  scope-continued body (running m) arrays places cs within =
      after-scope (body (traced_from m (record { status = running m; arrays = arrays; places = places }) cs))
  scope-continued body (left k m) arrays places cs within =
      let below = within k m refl in
      ap (λ status. Some (record { status = status; arrays = arrays; places = places }, cs))
      (sym (ap (λ b. cond b (running m) (left k m)) (ne_eqb k (length labels) (λ e. absurd (omega (
        arith,
        below,
        e,
      ))))))

-- THE BLOCK begins

either-off : (b : Bool) (m : ℕ → ℤ) (rest : Status) (k : ℕ) (v : ℕ → ℤ) →
    cond b (running m) rest ≡ left k v → rest ≡ left k v
either-off true m rest k v is = absurd (let f : running m ≡ left k v = is in cc)
either-off false m rest k v is = is

zero-off : (d : Declared) (b : Builder) (f : Assignment) → Fits d b →
    is_nonzero (value_at (values_of f b.words) 0) ≡ false
zero-off d b f fits = ap is_nonzero (value-const f b.words 0 (pos 0) fits.zero)

or-nothing : (s : Status) → is_running s ≡ false → or_left s idle ≡ s
or-nothing idle off = refl
or-nothing (running m) off = absurd (cc)
or-nothing (left k m) off = refl

module _ (d : Declared) (label : ℕ) (b0 b1 : Builder) (fits : Fits d b0) (o : Scopes b0 b1 label) where
  abbrev exit : Exit
  exit = record {
    label = label;
    since = length b0.written;
    base = b0.vars;
    live = 0;
    vars = b0.vars;
    written = [];
  }

  scope-rest : (f : Assignment) → left_from (values_of f b0.words) 0 (b0.exits ++ exit ∷ []) ≡ rest_at f b0
  scope-rest f = left-append (values_of f b0.words) 0 b0.exits exit
      ∙ ap (λ b. or_left (rest_at f b0) (cond b (left (0 + length b0.exits) (vars_at f b0)) idle))
      (zero-off d b0 f fits)
      ∙ or-nothing (rest_at f b0) (left-resting (values_of f b0.words) 0 b0.exits)

  pub scope-stands : (f : Assignment) → snapshot f b1 ≡ snapshot f b0
  scope-stands f = ap (snapshot f) o.same
      ∙ ap (λ rest. snap (on_at f b0) (vars_at f b0) rest (cells_at f b0) (list_at f b0)) (scope-rest f)

  pub scope-labels : labels_of b1.exits ≡ labels_of b0.exits ++ label ∷ []
  scope-labels = ap (λ (b : Builder). labels_of b.exits) o.same ∙ map-append (λ (e : Exit). e.label)
      b0.exits (exit ∷ [])

  pub scope-frames : frames_of b1.exits ≡ frames_of b0.exits ++ (length b0.written, b0.vars) ∷ []
  scope-frames = ap (λ (b : Builder). frames_of b.exits) o.same
      ∙ map-append (λ (e : Exit). (e.since, e.base)) b0.exits (exit ∷ [])

  pub scope-fits : Fits d b1
  scope-fits = subst (Fits d) (sym o.same) (record {
    words = fits.words;
    zero = fits.zero;
    one = fits.one;
    live = fits.live;
    vars = fits.vars;
    var_count = fits.var_count;
    arrays = fits.arrays;
    array_count = fits.array_count;
    lengths = fits.lengths;
    exits = list_all-append (fits_exit (length b0.words) d.vars) b0.exits (exit ∷ [])
        ∙ and_from (list_all (fits_exit (length b0.words) d.vars) b0.exits)
        (list_all (fits_exit (length b0.words) d.vars) (exit ∷ [])) fits.exits
        (and_from (fits_exit (length b0.words) d.vars exit) true
        (and_from (is_name (length b0.words) 0 && are_names (length b0.words) b0.vars) (length b0.vars ==
        d.vars)
        (and_from (is_name (length b0.words) 0) (are_names (length b0.words) b0.vars)
        (to_name (length b0.words) 0 (omega (arith, fits.live))) fits.vars)
        (eq-eqb (length b0.vars) d.vars fits.var_count)) refl);
    some_exit = omega (arith, length-append b0.exits (exit ∷ []));
    require = fits.require;
    places = fits.places;
    typed = fits.typed;
    apart = λ f on. scope-rest f ∙ fits.apart f on;
    single = λ f. single-more (values_of f b0.words) b0.exits exit (fits.single f) (zero-off d b0 f fits);
    since = subst (λ fs. AreSince b0.written b0.vars fs)
        (sym (map-append (λ (e : Exit). (e.since, e.base)) b0.exits (exit ∷ [])))
        (since-push b0.written b0.vars (frames_of b0.exits) (length b0.written, b0.vars) fits.since (record {
          since = omega arith;
          agrees = λ k h. refl;
        }));
    written = written-push b0.exits exit fits.written (λ k h. refl);
  })

-- and ends

module _ (d : Declared) (label : ℕ) (b0 b1 b2 b3 : Builder) (e : Exit) (p : Part) (fits : Fits d b0) (o :
    Scopes b0 b1 label)
    (m : Means d p b1 b2) (q : Closes b2 b3 e) where
  abbrev count : ℕ
  count = length (labels_of b0.exits)

  some_label : 0 < count
  some_label = omega (arith, fits.some_exit, length-map b0.exits (λ (e : Exit). e.label))

  -- the exits that are left are those before
  close-labels : labels_of b3.exits ≡ labels_of b0.exits
  close-labels = (ends-same (labels_of b3.exits) (labels_of b0.exits) e.label label
      (sym (map-append (λ (e : Exit). e.label) b3.exits (e ∷ [])) ∙ ap labels_of (sym q.exits)
      ∙ m.extends.labels ∙ scope-labels d label b0 b1 fits o)).0

  -- where the block began
  abbrev began : ℕ × List ℕ
  began = (length b0.written, b0.vars)

  abbrev at_exit : ℕ × List ℕ
  at_exit = (e.since, e.base)

  both-frames : (frames_of b3.exits ≡ frames_of b0.exits) × (at_exit ≡ began)
  both-frames = ends-same (frames_of b3.exits) (frames_of b0.exits) at_exit began
      (sym (map-append (λ (e : Exit). (e.since, e.base)) b3.exits (e ∷ [])) ∙ ap frames_of (sym q.exits)
      ∙ m.extends.writes.frames ∙ scope-frames d label b0 b1 fits o)

  -- what the block writes
  close-writes : Writes b0 b3
  close-writes = gathers-writes b0 b2 b3 e.since e.base m.extends.writes.set
      (m.extends.writes.written ∙ ap (λ (b : Builder). b.written ++ m.extends.writes.set) o.same)
      (ap (λ (f : ℕ × List ℕ). f.0) both-frames.1) (ap (λ (f : ℕ × List ℕ). f.1) both-frames.1)
      both-frames.0 q.gathers

  grown3 : b3.words ≡ b2.words ++ q.ways.more
  grown3 = q.ways.grown

  le3 : length b2.words ≤ length b3.words
  le3 = omega (arith, ap length grown3, length-append b2.words q.ways.more)

  exit-fits : (list_all (fits_exit (length b2.words) d.vars) b3.exits ≡ true) × (fits_exit (length
      b2.words) d.vars e ≡ true)
  exit-fits =
      let both = and_parts (list_all (fits_exit (length b2.words) d.vars) b3.exits)
      (list_all (fits_exit (length b2.words) d.vars) (e ∷ []))
      (sym (list_all-append (fits_exit (length b2.words) d.vars) b3.exits (e ∷ []))
      ∙ ap (list_all (fits_exit (length b2.words) d.vars)) (sym q.exits) ∙ m.fits.exits) in
      (both.0, (and_parts (fits_exit (length b2.words) d.vars e) true both.1).0)

  abbrev e_on : Assignment → Bool
  e_on f = is_nonzero (value_at (values_of f b2.words) e.live)

  abbrev e_vars : Assignment → ℕ → ℤ
  e_vars f = variables_at (values_of f b2.words) e.vars

  -- the exits around, by what was there before the end
  abbrev around : Assignment → Status
  around f = left_from (values_of f b2.words) 0 b3.exits

  around-later : (f : Assignment) → rest_at f b3 ≡ around f
  around-later f = left-same (length b2.words) (values_of f b3.words) (values_of f b2.words)
      (same-grown f b2.words b3.words q.ways.more grown3) d.vars 0 b3.exits
      (omega (arith, m.fits.live)) exit-fits.0

  stands3 : (f : Assignment) →
      snapshot f b3 ≡ snap (e_on f || on_at f b2) (cond (e_on f) (e_vars f) (vars_at f b2))
      (around f) (cells_at f b2) (list_at f b2)
  stands3 f = ap (snapshot f) q.same
      ∙ ap (λ rest. snap (on_at f b3) (vars_at f b3) rest (arrays_at (values_of f b3.words) b2.arrays)
      (places_at (values_of f b3.words) b2))
      (around-later f)
      ∙ ap (λ a. snap (on_at f b3) (vars_at f b3) (around f) a (places_at (values_of f b3.words) b2))
      (later-cells d b2 b3.words q.ways.more m.fits grown3 f)
      ∙ ap (snap (on_at f b3) (vars_at f b3) (around f) (cells_at f b2)) (later-list d b2 b3.words
      q.ways.more m.fits grown3 f)
      ∙ ways-stand (on_at f b3) (e_on f) (on_at f b2) (vars_at f b3) (e_vars f) (vars_at f b2) (around f)
      (cells_at f b2)
      (list_at f b2) (q.ways.on f) (q.ways.first f) (q.ways.second f)

  rest2 : (f : Assignment) →
      rest_at f b2 ≡ or_left (around f) (cond (e_on f) (left (0 + length b3.exits) (e_vars f)) idle)
  rest2 f = ap (left_from (values_of f b2.words) 0) q.exits ∙ left-append (values_of f b2.words) 0 b3.exits e

  count3 : 0 + length b3.exits ≡ count
  count3 = omega (arith, length-map b3.exits (λ (e : Exit). e.label), ap length close-labels)

  single2 : (f : Assignment) → (is_single (values_of f b2.words) b3.exits ≡ true)
      × (e_on f ≡ true → are_off (values_of f b2.words) b3.exits ≡ true)
  single2 f = single-init (values_of f b2.words) b3.exits e
      (ap (is_single (values_of f b2.words)) (sym q.exits) ∙ m.fits.single f)

  around-within : (f : Assignment) (k : ℕ) (v : ℕ → ℤ) → around f ≡ left k v → k < count
  around-within f k v is =
      let h = left-within (values_of f b2.words) 0 b3.exits k v is in omega (arith, h, count3)

  closes-by : (on on_e : Bool) (v v_e : ℕ → ℤ) (rest : Status) → is_running rest ≡ false
      → (on ≡ true → or_left rest (cond on_e (left count v_e) idle) ≡ idle) → (on_e ≡ true → rest ≡ idle)
      → ((k : ℕ) (v : ℕ → ℤ) → rest ≡ left k v → k < count)
      → cond (on_e || on) (running (cond on_e v_e v)) rest
      ≡ closed_status count (cond on (running v) (or_left rest (cond on_e (left count v_e) idle)))
  closes-by true true v v_e idle off apart one within = absurd (let f : left count v_e ≡ idle = apart refl
      in cc)
  closes-by true true v v_e (running x) off apart one within = absurd (cc)
  closes-by true true v v_e (left k x) off apart one within = absurd (let f : left k x ≡ idle = apart refl
      in cc)
  closes-by true false v v_e rest off apart one within = refl
  closes-by false true v v_e idle off apart one within =
      sym (ap (λ b. cond b (running v_e) (left count v_e)) (eq-eqb count count refl))
  closes-by false true v v_e (running x) off apart one within = absurd (cc)
  closes-by false true v v_e (left k x) off apart one within = absurd (let f : left k x ≡ idle = one refl
      in cc)
  closes-by false false v v_e idle off apart one within = refl
  closes-by false false v v_e (running x) off apart one within = absurd (cc)
  closes-by false false v v_e (left k x) off apart one within =
      let below = within k x refl in
      sym (ap (λ b. cond b (running x) (left k x)) (ne_eqb k count (λ e. absurd (omega (arith, below, e)))))

  rest2-count : (f : Assignment) →
      rest_at f b2 ≡ or_left (around f) (cond (e_on f) (left count (e_vars f)) idle)
  rest2-count f = rest2 f ∙ ap (λ n. or_left (around f) (cond (e_on f) (left n (e_vars f)) idle)) count3

  close-stands : (f : Assignment) → snapshot f b3 ≡ closed count (snapshot f b2)
  close-stands f = stands3 f
      ∙ ap (λ status. record { status = status; arrays = cells_at f b2; places = list_at f b2 })
      (closes-by (on_at f b2) (e_on f) (vars_at f b2) (e_vars f) (around f)
      (left-resting (values_of f b2.words) 0 b3.exits)
      (λ on. sym (rest2-count f) ∙ m.fits.apart f on)
      (λ on. off-idle (values_of f b2.words) 0 b3.exits ((single2 f).1 on)) (around-within f)
      ∙ ap (λ rest. closed_status count (cond (on_at f b2) (running (vars_at f b2)) rest)) (sym
      (rest2-count f)))

  or-idle : (s t : Status) → or_left s t ≡ idle → s ≡ idle
  or-idle idle t is = refl
  or-idle (running x) t is = absurd (let f : running x ≡ idle = is in cc)
  or-idle (left k x) t is = absurd (let f : left k x ≡ idle = is in cc)

  around-idle : (f : Assignment) (on_e on : Bool) → e_on f ≡ on_e → on_at f b2 ≡ on →
      (on_e || on) ≡ true → around f ≡ idle
  around-idle f true on ise is h = off-idle (values_of f b2.words) 0 b3.exits ((single2 f).1 ise)
  around-idle f false true ise is h = or-idle (around f) (cond (e_on f) (left (0 + length b3.exits) (e_vars
      f)) idle)
      (sym (rest2 f) ∙ m.fits.apart f is)
  around-idle f false false ise is h = absurd (cc)

  close-on : (f : Assignment) → on_at f b3 ≡ (e_on f || on_at f b2)
  close-on f = sym (live-running (values_of f b3.words) b3) ∙ ap (λ (s : Snapshot). is_running s.status)
      (stands3 f)
      ∙ at (e_on f || on_at f b2) where
        at : (b : Bool) →
            is_running (cond b (running (cond (e_on f) (e_vars f) (vars_at f b2))) (around f)) ≡ b
        at true = refl
        at false = left-resting (values_of f b2.words) 0 b3.exits

  close-fits : Fits d b3
  close-fits =
      let g = fits-grown d b2 b3.words q.ways.more m.fits grown3 q.ways.fit in
      subst (Fits d) (sym q.same) (record {
        words = g.words;
        zero = g.zero;
        one = g.one;
        live = q.ways.name;
        vars = q.ways.names;
        var_count = q.ways.long ∙ m.fits.var_count;
        arrays = g.arrays;
        array_count = g.array_count;
        lengths = g.lengths;
        exits = exits-more (length b2.words) (length b3.words) d.vars b3.exits le3 exit-fits.0;
        some_exit = omega (arith, some_label, count3);
        require = g.require;
        places = g.places;
        typed = g.typed;
        apart = λ f on. around-later f ∙ around-idle f (e_on f) (on_at f b2) refl refl
            (sym (close-on f) ∙ ap (λ (b : Builder). is_live (values_of f b3.words) b) q.same ∙ on);
        single = λ f. single-same (length b2.words) (values_of f b3.words) (values_of f b2.words)
            (same-grown f b2.words b3.words q.ways.more grown3) d.vars b3.exits exit-fits.0
            ∙ (single2 f).0;
        since = since-writes b0 b3 close-writes fits.since;
        written = λ i x found. m.fits.written i x
            (ap (λ es. slice_get es i) q.exits ∙ front-found b3.exits (e ∷ []) i x found);
      })

  closed-ended : (n : ℕ) (b : Bool) (s : Snapshot) (cs : List Choice)
      → closed_further n (ended b s cs) ≡ ended b (closed n s) cs
  closed-ended n true s cs = refl
  closed-ended n false s cs = refl

  scope-within : (f : Assignment) (k : ℕ) (v : ℕ → ℤ) → (snapshot f b0).status ≡ left k v → k < count
  scope-within f k v is =
      let h = left-within (values_of f b0.words) 0 b0.exits k v
      (either-off (on_at f b0) (vars_at f b0) (rest_at f b0) k v is) in
      omega (arith, h, length-map b0.exits (λ (e : Exit). e.label))

  -- the part with the block around it, from where the run is
  scope-goes : (r : Relaxes) (f : Assignment) (cs : List Choice)
      → continued (labels_of b0.exits) (scoped label (p f r)) (snapshot f b0) cs
      ≡ closed_further count (continued (labels_of b1.exits) (p f r) (snapshot f b1) cs)
  scope-goes r f cs =
      let s = snapshot f b0 in
      scope-continued (labels_of b0.exits) label some_label (p f r) s.status s.arrays s.places cs
      (scope-within f)
      ∙ ap (λ labels. closed_further count (continued labels (p f r) s cs)) (sym (scope-labels d label b0
      b1 fits o))
      ∙ ap (λ s. closed_further count (continued (labels_of b1.exits) (p f r) s cs)) (sym (scope-stands d
      label b0 b1 fits o f))

  scope-found : (r : Relaxes) (f : Assignment) (cs rest : List Choice) (s : Snapshot) (x : Further)
      → continued (labels_of b1.exits) (p f r) (snapshot f b1) cs ≡ x →
      closed_further count x ≡ Some (s, rest)
      → Found r (length b1.words) f m.log cs rest
  scope-found r f cs rest s None goes is = absurd (let g : None ≡ Some (s, rest) = is in cc)
  scope-found r f cs rest s (Some (t, left_over)) goes is =
      let both : (closed count t, left_over) ≡ (s, rest) = cc in
      let same : left_over ≡ rest = ap (λ (x : Snapshot × List Choice). x.1) both in
      m.finds r f cs rest t (goes ∙ ap (λ cs. Some (t, cs)) same)

  words1 : b1.words ≡ b0.words
  words1 = ap (λ (b : Builder). b.words) o.same

  pub scope-means : Means d (λ f r. scoped label (p f r)) b0 b3
  scope-means = record {
    extends = record {
      more = m.extends.more ++ q.ways.more;
      words = grown3 ∙ ap (λ ws. ws ++ q.ways.more) (m.extends.words ∙ ap (λ ws. ws ++ m.extends.more) words1)
          ∙ append_assoc b0.words m.extends.more q.ways.more;
      labels = close-labels;
      writes = close-writes;
    };
    fits = close-fits;
    log = m.log;
    good = m.good;
    local = λ f g same. m.local f g (λ k below. same k (omega (arith, le3)));
    logs = λ f. ap (λ (b : Builder). visits_in (values_of f b3.words) b.places) q.same
        ∙ later-visits d b2 b3.words q.ways.more m.fits grown3 f ∙ m.logs f
        ∙ ap (λ (b : Builder). visits_in (values_of f b.words) b.places ++ m.log f) o.same;
    keeps = λ f. ap (λ (b : Builder). are_met (values_of f b3.words) b.require) q.same
        ∙ later-met d b2 b3.words q.ways.more m.fits grown3 f ∙ m.keeps f
        ∙ ap (λ (b : Builder). are_met (values_of f b.words) b.require && m.good f) o.same;
    runs = λ r f rest kept. scope-goes r f (chosen r (m.log f) ++ rest)
        ∙ ap (closed_further count) (m.runs r f rest kept)
        ∙ closed-ended count (m.good f) (snapshot f b2) rest
        ∙ ap (λ s. ended (m.good f) s rest) (sym (close-stands f));
    finds = λ r f cs rest s is.
        let found = scope-found r f cs rest s (continued (labels_of b1.exits) (p f r) (snapshot f b1) cs) refl
        (sym (scope-goes r f cs) ∙ is) in
        record {
          by = found.by;
          agrees = λ k below. found.agrees k (omega (arith, below, ap length words1));
          kept = found.kept;
          spells = found.spells;
        };
  }

-- A BLOCK IS LEFT

module _ (d : Declared) (label : ℕ) (b0 b1 : Builder) (fits : Fits d b0) (l : Leaving b0 b1 label) where
  abbrev at : ℕ
  at = exit_of (labels_of b0.exits) label

  growth : b1.words ≡ b0.words ++ l.ways.more
  growth = l.ways.grown

  le : length b0.words ≤ length b1.words
  le = omega (arith, ap length growth, length-append b0.words l.ways.more)

  -- the builder as it was, over the words that are there now
  abbrev mid : Builder
  mid = record b0 { words = b1.words }

  mid-fits : Fits d mid
  mid-fits = fits-grown d b0 b1.words l.ways.more fits growth l.ways.fit

  abbrev new_exit : Exit
  new_exit = record l.exit { live = l.new_live; vars = l.new_vars; written = l.new_written }

  within : at < length b0.exits
  within = let h = exit-within (labels_of b0.exits) label
      (omega (arith, fits.some_exit, length-map b0.exits (λ (e : Exit). e.label))) in
      omega (arith, h, length-map b0.exits (λ (e : Exit). e.label))

  abbrev was_on : Assignment → Bool
  was_on f = is_live (values_of f b1.words) mid

  was : (f : Assignment) → was_on f ≡ on_at f b0
  was f = ap is_nonzero (later-word d b0 b1.words l.ways.more fits growth f b0.live fits.live)

  all-exit : (es : List Exit) (i : ℕ) (x : Exit) → list_all (fits_exit (length b0.words) d.vars) es ≡ true
      → slice_get es i ≡ Some x → fits_exit (length b0.words) d.vars x ≡ true
  all-exit [] i x h found = absurd (let f : None ≡ Some x = found in cc)
  all-exit (y ∷ es) zero x h found =
      let e : y ≡ x = cc in
      subst (λ y. fits_exit (length b0.words) d.vars y ≡ true) e
      (and_parts (fits_exit (length b0.words) d.vars y) (list_all (fits_exit (length b0.words) d.vars) es)
      h).0
  all-exit (y ∷ es) (suc i) x h found = all-exit es i x
      (and_parts (fits_exit (length b0.words) d.vars y) (list_all (fits_exit (length b0.words) d.vars) es)
      h).1 found

  exit-fit : fits_exit (length b0.words) d.vars l.exit ≡ true
  exit-fit = all-exit b0.exits at l.exit fits.exits l.found

  exit-parts : (l.exit.live < length b0.words) × (are_names (length b0.words) l.exit.vars ≡ true) × (length
      l.exit.vars ≡ d.vars)
  exit-parts =
      let all = and_parts (is_name (length b0.words) l.exit.live && are_names (length b0.words) l.exit.vars)
      (length l.exit.vars == d.vars) exit-fit in
      let two = and_parts (is_name (length b0.words) l.exit.live) (are_names (length b0.words) l.exit.vars)
      all.0 in
      (of_name (length b0.words) l.exit.live two.0, two.1, eqb-true (length l.exit.vars) d.vars all.1)

  exit-was : (f : Assignment) →
      is_nonzero (value_at (values_of f b1.words) l.exit.live) ≡ holds_in b0.words l.exit.live f
  exit-was f = ap is_nonzero (later-word d b0 b1.words l.ways.more fits growth f l.exit.live exit-parts.0)

  new-on : (f : Assignment) → is_nonzero (value_at (values_of f b1.words) l.new_live)
      ≡ (was_on f || is_nonzero (value_at (values_of f b1.words) l.exit.live))
  new-on f = l.ways.on f ∙ ap (λ b. b || holds_in b0.words l.exit.live f) (sym (was f))
      ∙ ap (λ b. was_on f || b) (sym (exit-was f))

  new-taken : (f : Assignment) → was_on f ≡ true
      → variables_at (values_of f b1.words) l.new_vars ≡ variables_at (values_of f b1.words) b0.vars
  new-taken f on = l.ways.first f (sym (was f) ∙ on) ∙ sym (later-vars d b0 b1.words l.ways.more fits
      growth f)

  new-kept : (f : Assignment) → was_on f ≡ false →
      is_nonzero (value_at (values_of f b1.words) l.exit.live) ≡ true
      → variables_at (values_of f b1.words) l.new_vars ≡ variables_at (values_of f b1.words) l.exit.vars
  new-kept f off on = l.ways.second f (sym (was f) ∙ off) (sym (exit-was f) ∙ on)
      ∙ sym (variables-same (length b0.words) (values_of f b1.words) (values_of f b0.words)
      (same-grown f b0.words b1.words l.ways.more growth) l.exit.vars (omega (arith, fits.live)) exit-parts.1)

  zero-live : (f : Assignment) → is_nonzero (value_at (values_of f b1.words) 0) ≡ false
  zero-live f = zero-off d mid f mid-fits

  -- the exits, if the run came here and if it didn't
  left-taken : (f : Assignment) → was_on f ≡ true →
      left_from (values_of f b1.words) 0 (slice_set b0.exits at new_exit)
      ≡ left at (variables_at (values_of f b1.words) b0.vars)
  left-taken f on =
      set-left (values_of f b1.words) 0 b0.exits at new_exit within (mid-fits.apart f on)
      (new-on f ∙ ap (λ b. b || is_nonzero (value_at (values_of f b1.words) l.exit.live)) on)
      ∙ ap (λ n. left n (variables_at (values_of f b1.words) l.new_vars))
      (let h : 0 + at ≡ at = omega arith in h)
      ∙ ap (left at) (new-taken f on)

  left-kept-here : (f : Assignment) → was_on f ≡ false →
      left_from (values_of f b1.words) 0 (slice_set b0.exits at new_exit)
      ≡ left_from (values_of f b1.words) 0 b0.exits
  left-kept-here f off = unset-left (values_of f b1.words) 0 b0.exits at new_exit l.exit l.found
      (new-on f ∙ ap (λ b. b || is_nonzero (value_at (values_of f b1.words) l.exit.live)) off)
      (new-kept f off)

  single-here : (f : Assignment) (b : Bool) → was_on f ≡ b
      → is_single (values_of f b1.words) (slice_set b0.exits at new_exit) ≡ true
  single-here f true on = set-single (values_of f b1.words) b0.exits at new_exit
      (idle-off (values_of f b1.words) 0 b0.exits (mid-fits.apart f on))
  single-here f false off = unset-single (values_of f b1.words) b0.exits at new_exit l.exit l.found
      (new-on f ∙ ap (λ b. b || is_nonzero (value_at (values_of f b1.words) l.exit.live)) off) ∙
      mid-fits.single f

  exits-set : (n : ℕ) (es : List Exit) (i : ℕ) (e : Exit) → fits_exit n d.vars e ≡ true
      → list_all (fits_exit n d.vars) es ≡ true → list_all (fits_exit n d.vars) (slice_set es i e) ≡ true
  exits-set n [] i e fit h = refl
  exits-set n (x ∷ es) zero e fit h = and_from (fits_exit n d.vars e) (list_all (fits_exit n d.vars) es) fit
      (and_parts (fits_exit n d.vars x) (list_all (fits_exit n d.vars) es) h).1
  exits-set n (x ∷ es) (suc i) e fit h =
      let both = and_parts (fits_exit n d.vars x) (list_all (fits_exit n d.vars) es) h in
      and_from (fits_exit n d.vars x) (list_all (fits_exit n d.vars) (slice_set es i e)) both.0 (exits-set
      n es i e fit both.1)

  leave-fits : Fits d b1
  leave-fits =
      subst (Fits d) (sym l.same) (record {
        words = mid-fits.words;
        zero = mid-fits.zero;
        one = mid-fits.one;
        live = omega (arith, mid-fits.live);
        vars = mid-fits.vars;
        var_count = mid-fits.var_count;
        arrays = mid-fits.arrays;
        array_count = mid-fits.array_count;
        lengths = mid-fits.lengths;
        exits = exits-set (length b1.words) b0.exits at new_exit
            (and_from (is_name (length b1.words) l.new_live && are_names (length b1.words) l.new_vars)
            (length l.new_vars == d.vars)
            (and_from (is_name (length b1.words) l.new_live) (are_names (length b1.words) l.new_vars)
            (to_name (length b1.words) l.new_live l.ways.name) l.ways.names)
            (eq-eqb (length l.new_vars) d.vars (l.ways.long ∙ exit-parts.2))) mid-fits.exits;
        some_exit = omega (arith, fits.some_exit, length-set b0.exits at new_exit);
        require = mid-fits.require;
        places = mid-fits.places;
        typed = mid-fits.typed;
        apart = λ f on. absurd (let clash : true ≡ false = sym on ∙ zero-live f in cc);
        single = λ f. single-here f (was_on f) refl;
        since = subst (λ fs. AreSince b0.written b0.vars fs)
            (sym (frames-set b0.exits at new_exit l.exit l.found refl refl)) fits.since;
        written = written-set b0.exits at new_exit fits.written l.kept;
      })

  leave-runs : (f : Assignment) (cs : List Choice) (b : Bool) → was_on f ≡ b
      → continued (labels_of b0.exits) (untraced (λ c. (Ok (Leaves label), c))) (snapshot f mid) cs ≡ Some
      (snapshot f b1, cs)
  leave-runs f cs true on =
      ap (λ b. continued (labels_of b0.exits) (untraced (λ c. (Ok (Leaves label), c)))
      (snap b (vars_at f mid) (rest_at f mid) (cells_at f mid) (list_at f mid)) cs) on
      ∙ ap (λ status. Some (record { status = status; arrays = cells_at f mid; places = list_at f mid }, cs))
      (sym (ap (λ b. cond b (running (vars_at f mid)) (left_from (values_of f b1.words) 0 (slice_set
      b0.exits at new_exit)))
      (zero-live f) ∙ left-taken f on))
      ∙ ap (λ s. Some (s, cs)) (sym (ap (snapshot f) l.same))
  leave-runs f cs false off =
      let rests : is_running (snapshot f mid).status ≡ false = live-running (values_of f b1.words) mid ∙
      off in
      resting (labels_of b0.exits) (untraced (λ c. (Ok (Leaves label), c))) (snapshot f mid) cs rests
      ∙ ap (λ status. Some (record { status = status; arrays = cells_at f mid; places = list_at f mid }, cs))
      (ap (λ b. cond b (running (vars_at f mid)) (rest_at f mid)) off
      ∙ sym (ap (λ b. cond b (running (vars_at f mid)) (left_from (values_of f b1.words) 0 (slice_set
      b0.exits at new_exit)))
      (zero-live f) ∙ left-kept-here f off))
      ∙ ap (λ s. Some (s, cs)) (sym (ap (snapshot f) l.same))

  pub leave-means : Means d (λ f r. untraced (λ c. (Ok (Leaves label), c))) b0 b1
  leave-means = means-before d (λ f r. untraced (λ c. (Ok (Leaves label), c))) b0 b1 b1.words l.ways.more
      fits growth l.ways.fit
      (means-steady d (λ f r. untraced (λ c. (Ok (Leaves label), c))) mid b1 (λ f. true) (record {
        extends = record {
          more = [];
          words = sym (append-nil b1.words);
          labels = ap (λ (b : Builder). labels_of b.exits) l.same ∙ labels-set b0.exits at new_exit l.exit
              l.found refl;
          writes = writes-none mid b1 (ap (λ (b : Builder). b.written) l.same)
              (ap (λ (b : Builder). b.vars) l.same)
              (ap (λ (b : Builder). frames_of b.exits) l.same
              ∙ frames-set b0.exits at new_exit l.exit l.found refl refl);
        };
        fits = leave-fits;
        logs = λ f. ap (visits f) l.same;
        keeps = λ f. ap (met f) l.same ∙ sym (and-true (met f mid));
        runs = λ r f cs. leave-runs f cs (was_on f) refl;
      }))
