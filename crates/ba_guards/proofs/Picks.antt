-- Executions of statements that may be relaxed.
use Rattle.std.proofs.Common.{◌≡◌, ℕ, ◌<◌, ◌≤◌, ℤ, Bool, true, false, ◌&&◌, cond, Option, Some, None, List, [], ◌∷◌, ◌++◌, map, length, refl, sym, ◌∙◌, ap, subst, arith, append_assoc, append-nil, length-append}
use Rattle.std.proofs.lemmas.Bool.{and_from, and_parts}
use Rattle.std.proofs.lemmas.List.{map-append}
use Rattle.std.proofs.lemmas.List.Folds.{list_all-append}
use Rattle.std.specs.List.{list_all}
use Rattle.ba_choices.specs.declared.Choice.{Choice}
use Rattle.ba_choices.specs.declared.Choice.TheVariants as choice
use Rattle.ba_code.specs.Facts.{Declared}
use Rattle.ba_code.specs.Meaning.{choice_where, if_taken, taken}
use Rattle.ba_code.specs.State.{CodeState}
use Rattle.ba_code.specs.declared.nodes.Take.{Take}
use Rattle.ba_code_laws.specs.Tracing.{Relaxes, Traced, TracedExecution, at_place, is_relaxed, traced_picked, untraced}
use Rattle.ba_code_laws.specs.Visits.{Visit, are_kept, chosen, is_keep}
use Rattle.ba_guards.proofs.Forks.{cells_at, forked, list_at, on_at, rest_at, snap, vars_at}
use Rattle.ba_guards.proofs.Going.{is_running, live-running, quiet, resting}
use Rattle.ba_guards.proofs.Growing.{array-long, fits-grown, met-kept, same-grown, snapshot-agree, snapshot-kept, visits-kept}
use Rattle.ba_guards.specs.Continuing.{after_end, continued, ended, labels_of}
use Rattle.ba_guards.proofs.Writing.{writes-none, writes-then}
use Rattle.ba_guards.specs.Written.{frames_of}
use Rattle.ba_guards.specs.Making.{Fits, Found, HasLengths, Means, Offers, Part, Places, holds_in, picked, show_types, values_in}
use Rattle.ba_guards.specs.Reading.{Snapshot, is_live, met, snapshot, visits}
use Rattle.ba_guards.specs.declared.builder.Builder.{Builder}
use Rattle.ba_tree.specs.Acts.{then_do}
use Rattle.ba_tree.specs.declared.run.Place.{Place}
use Rattle.ba_wordlist.proofs.Choices.{chosen-first, chosen-none, kept-first, kept-none, visits-append, visits-one}
use Rattle.ba_wordlist.proofs.Values.{to_name, values-agree}
use Rattle.ba_wordlist.specs.Facts.{are_names, are_typed, are_words, is_name, is_place, is_typed}
use Rattle.ba_wordlist.specs.Meaning.{Assignment, values_of, visit_of}
use Rattle.ba_wordlist.specs.declared.words.PlaceWords.{PlaceWords}
use Rattle.ba_wordlist.specs.declared.words.WordOp.{WordOp}

-- THE PLACE is added

module _ (d : Declared) (b0 b1 : Builder) (fits : Fits d b0) (place : Place) (keep : ℕ) (values : List ℕ)
    (o : Places b0 b1 place keep values) (name : keep < length b0.words) (names : are_names (length
    b0.words) values ≡ true)
    (typed : show_types b0.words values ≡ true) where
  abbrev entry : PlaceWords
  entry = record { place = place; guard = b0.live; keep = keep; values = values }

  abbrev visit : Assignment → Visit
  visit f = visit_of (values_of f b0.words) entry

  abbrev first : Assignment → List Visit
  first f = cond (on_at f b0) (visit f ∷ []) []

  pub place-visits : (f : Assignment) → visits f b1 ≡ visits f b0 ++ first f
  place-visits f = ap (visits f) o.same ∙ visits-append (values_of f b0.words) b0.places (entry ∷ [])
      ∙ ap (λ l. visits f b0 ++ l) (visits-one (values_of f b0.words) entry)

  pub place-fits : Fits d b1
  place-fits = subst (Fits d) (sym o.same) (record {
    words = fits.words;
    zero = fits.zero;
    one = fits.one;
    live = fits.live;
    vars = fits.vars;
    var_count = fits.var_count;
    arrays = fits.arrays;
    array_count = fits.array_count;
    lengths = fits.lengths;
    exits = fits.exits;
    some_exit = fits.some_exit;
    require = fits.require;
    places = list_all-append (is_place (length b0.words)) b0.places (entry ∷ [])
        ∙ and_from (list_all (is_place (length b0.words)) b0.places) (list_all (is_place (length b0.words))
        (entry ∷ []))
        fits.places (and_from (is_place (length b0.words) entry) true
        (and_from (is_name (length b0.words) b0.live && is_name (length b0.words) keep) (are_names (length
        b0.words) values)
        (and_from (is_name (length b0.words) b0.live) (is_name (length b0.words) keep)
        (to_name (length b0.words) b0.live fits.live) (to_name (length b0.words) keep name)) names) refl);
    typed = list_all-append (is_typed b0.words) b0.places (entry ∷ [])
        ∙ and_from (are_typed b0.words b0.places) (are_typed b0.words (entry ∷ [])) fits.typed
        (and_from (is_typed b0.words entry) true typed refl);
    apart = fits.apart;
    single = fits.single;
    since = fits.since;
    written = fits.written;
  })

  -- where the run is then
  pub place-stands : (f : Assignment) → snapshot f b1
      ≡ snap (on_at f b0) (vars_at f b0) (rest_at f b0) (cells_at f b0) (list_at f b0 ++ map (λ (v :
      Visit). v.place) (first f))
  place-stands f = ap (snapshot f) o.same
      ∙ ap (λ l. snap (on_at f b0) (vars_at f b0) (rest_at f b0) (cells_at f b0) (map (λ (v : Visit).
      v.place) l))
      (visits-append (values_of f b0.words) b0.places (entry ∷ []) ∙ ap (λ l. visits f b0 ++ l) (visits-one
      (values_of f b0.words) entry))
      ∙ ap (λ l. snap (on_at f b0) (vars_at f b0) (rest_at f b0) (cells_at f b0) l)
      (map-append (λ (v : Visit). v.place) (visits f b0) (first f))

-- THE CHOICE is made

module _ (d : Declared) (bp b1 b2 : Builder) (fits : Fits d bp) (place : Place) (take : Take) (ws more :
    List WordOp)
    (grown : ws ≡ bp.words ++ more) (fit : are_words ws ≡ true) (keep : ℕ) (values : List ℕ)
    (o : Places (record bp { words = ws }) b1 place keep values) (name : keep < length ws) (names :
    are_names (length ws) values ≡ true)
    (typed : show_types ws values ≡ true) (written : Relaxes →
    TracedExecution) (offers : Offers d take ws (length bp.words) keep values)
    (m : Means d (forked (holds_in ws keep) (λ f. written) (λ f r. picked d take (values_in ws values f)))
    b1 b2) where
  abbrev b0 : Builder
  b0 = record bp { words = ws }

  fits0 : Fits d b0
  fits0 = fits-grown d bp ws more fits grown fit

  abbrev k : Assignment → Bool
  k f = holds_in ws keep f

  abbrev zs : Assignment → List ℤ
  zs f = values_in ws values f

  abbrev pick : Relaxes → TracedExecution
  pick r s = then_do (untraced (choice_where (is_relaxed r place)) (at_place place s))
      (traced_picked d.arrays take (written r))

  abbrev side : Part
  side = forked k (λ f. written) (λ f r. picked d take (zs f))

  abbrev choice_here : Assignment → Choice
  choice_here f = cond (k f) choice.Keep (choice.Take (zs f))

  abbrev here : Assignment → Visit
  here f = record { place = place; choice = choice_here f }

  abbrev log : Assignment → List Visit
  log f = cond (on_at f b0) (here f ∷ []) [] ++ m.log f

  same-words : b1.words ≡ ws
  same-words = ap (λ (b : Builder). b.words) o.same

  same-labels : labels_of b1.exits ≡ labels_of bp.exits
  same-labels = ap (λ (b : Builder). labels_of b.exits) o.same

  le : length bp.words ≤ length ws
  le = omega (arith, ap length grown, length-append bp.words more)

  le2 : length ws ≤ length b2.words
  le2 = omega (arith, ap length same-words, ap length m.extends.words, length-append b1.words m.extends.more)

  stands0 : (f : Assignment) → snapshot f b0 ≡ snapshot f bp
  stands0 f = snapshot-kept d bp fits (values_of f ws) f (same-grown f bp.words ws more grown)

  -- where the run comes to the place
  abbrev came : Assignment → List Choice → Traced
  came f cs = record {
    code = record { variables = vars_at f b0; arrays = cells_at f b0; choices = cs };
    places = list_at f b0 ++ place ∷ [];
  }

  abbrev before : Assignment → List Choice → Traced
  before f cs = record {
    code = record { variables = vars_at f b0; arrays = cells_at f b0; choices = cs };
    places = list_at f b0;
  }

  on-status : (f : Assignment) (cs : List Choice) (part : TracedExecution) → on_at f b0 ≡ true
      → continued (labels_of bp.exits) part (snapshot f b0) cs ≡ after_end (labels_of bp.exits) (part
      (before f cs))
  on-status f cs part on = ap (λ b. continued (labels_of bp.exits) part
      (snap b (vars_at f b0) (rest_at f b0) (cells_at f b0) (list_at f b0)) cs) on

  on-side : (f : Assignment) (r : Relaxes) (cs : List Choice) → on_at f b0 ≡ true
      → continued (labels_of b1.exits) (side f r) (snapshot f b1) cs
      ≡ after_end (labels_of bp.exits) (side f r (came f cs))
  on-side f r cs on =
      ap (λ labels. continued labels (side f r) (snapshot f b1) cs) same-labels
      ∙ ap (λ s. continued (labels_of bp.exits) (side f r) s cs) (place-stands d b0 b1 fits0 place keep
      values o name names typed f)
      ∙ ap (λ b. continued (labels_of bp.exits) (side f r)
      (snap b (vars_at f b0) (rest_at f b0) (cells_at f b0)
      (list_at f b0 ++ map (λ (v : Visit). v.place) (cond b (here f ∷ []) []))) cs) on

  -- the choice is used up, and one of the sides runs
  by-choice : (f : Assignment) (r : Relaxes) (cs : List Choice) (relaxed kept : Bool) →
      is_relaxed r place ≡ relaxed → k f ≡ kept
      → (relaxed ≡ false → kept ≡ true)
      → pick r (before f (cond relaxed (cond kept choice.Keep (choice.Take (zs f)) ∷ cs) cs)) ≡ side f r
      (came f cs)
  by-choice f r cs true true is_r is_k right =
      ap (λ b. then_do (untraced (choice_where b) (at_place place (before f (choice.Keep ∷ cs))))
      (traced_picked d.arrays take (written r))) is_r
      ∙ sym (ap (λ b. cond b (written r (came f cs)) (picked d take (zs f) (came f cs))) is_k)
  by-choice f r cs true false is_r is_k right =
      ap (λ b. then_do (untraced (choice_where b) (at_place place (before f (choice.Take (zs f) ∷ cs))))
      (traced_picked d.arrays take (written r))) is_r
      ∙ sym (ap (λ b. cond b (written r (came f cs)) (picked d take (zs f) (came f cs))) is_k)
  by-choice f r cs false true is_r is_k right =
      ap (λ b. then_do (untraced (choice_where b) (at_place place (before f cs)))
      (traced_picked d.arrays take (written r))) is_r
      ∙ sym (ap (λ b. cond b (written r (came f cs)) (picked d take (zs f) (came f cs))) is_k)
  by-choice f r cs false false is_r is_k right = absurd (let clash : false ≡ true = right refl in cc)

  -- the same from where the run is
  pick-goes : (f : Assignment) (r : Relaxes) (cs : List Choice) → on_at f b0 ≡ true →
      (is_relaxed r place ≡ false → k f ≡ true)
      → continued (labels_of bp.exits) (pick r) (snapshot f b0) (cond (is_relaxed r place) (choice_here f ∷
      cs) cs)
      ≡ continued (labels_of b1.exits) (side f r) (snapshot f b1) cs
  pick-goes f r cs on right =
      on-status f (cond (is_relaxed r place) (choice_here f ∷ cs) cs) (pick r) on
      ∙ ap (after_end (labels_of bp.exits)) (by-choice f r cs (is_relaxed r place) (k f) refl refl right)
      ∙ sym (on-side f r cs on)

  kept-right : (relaxed kept : Bool) →
      cond relaxed true (is_keep (cond kept choice.Keep (choice.Take []))) ≡ true
      → relaxed ≡ false → kept ≡ true
  kept-right true kept h is = absurd (cc)
  kept-right false true h is = refl
  kept-right false false h is = absurd (cc)

  keep-test : (kept : Bool) (ys : List ℤ) → is_keep (cond kept choice.Keep (choice.Take ys))
      ≡ is_keep (cond kept choice.Keep (choice.Take []))
  keep-test true ys = refl
  keep-test false ys = refl

  -- if the run doesn't come here
  off-all : (f : Assignment) → on_at f b0 ≡ false
      → (log f ≡ []) × (m.good f ≡ true) × (snapshot f b2 ≡ snapshot f b0)
  off-all f off =
      let off1 : is_running (snapshot f b1).status ≡ false = live-running (values_of f b1.words) b1
      ∙ ap (λ (b : Builder). is_live (values_of f b.words) b) o.same ∙ off in
      let rests = quiet d side b1 b2 m f off1 in (
        ap (λ b. cond b (here f ∷ []) [] ++ m.log f) off ∙ rests.0,
        rests.1,
        rests.2 ∙ place-stands d b0 b1 fits0 place keep values o name names typed f
            ∙ ap (λ b. snap (on_at f b0) (vars_at f b0) (rest_at f b0) (cells_at f b0)
            (list_at f b0 ++ map (λ (v : Visit). v.place) (cond b (here f ∷ []) []))) off
            ∙ ap (snap (on_at f b0) (vars_at f b0) (rest_at f b0) (cells_at f b0)) (append-nil (list_at f
            b0)),
      )

  off-running : (f : Assignment) → on_at f b0 ≡ false → is_running (snapshot f b0).status ≡ false
  off-running f off = live-running (values_of f ws) b0 ∙ off

  on-log : (f : Assignment) → on_at f b0 ≡ true → log f ≡ here f ∷ m.log f
  on-log f on = ap (λ b. cond b (here f ∷ []) [] ++ m.log f) on

  some-first : (b : Bool) (c : Choice) (xs ys : List Choice) →
      cond b (c ∷ xs) xs ++ ys ≡ cond b (c ∷ (xs ++ ys)) (xs ++ ys)
  some-first true c xs ys = refl
  some-first false c xs ys = refl

  on-chosen : (f : Assignment) (r : Relaxes) (rest : List Choice) → on_at f b0 ≡ true
      → chosen r (log f) ++ rest
      ≡ cond (is_relaxed r place) (choice_here f ∷ (chosen r (m.log f) ++ rest)) (chosen r (m.log f) ++ rest)
  on-chosen f r rest on = ap (λ l. chosen r l ++ rest) (on-log f on)
      ∙ ap (λ cs. cs ++ rest) (chosen-first r (here f) (m.log f))
      ∙ some-first (is_relaxed r place) (choice_here f) (chosen r (m.log f)) rest

  pick-runs : (r : Relaxes) (f : Assignment) (rest : List Choice) (b : Bool) → on_at f b0 ≡ b →
      are_kept r (log f) ≡ true
      → continued (labels_of bp.exits) (pick r) (snapshot f b0) (chosen r (log f) ++ rest)
      ≡ ended (m.good f) (snapshot f b2) rest
  pick-runs r f rest true on kept =
      let both = and_parts (cond (is_relaxed r place) true (is_keep (choice_here f))) (are_kept r (m.log f))
      (sym (kept-first r (here f) (m.log f)) ∙ sym (ap (are_kept r) (on-log f on)) ∙ kept) in
      let right = kept-right (is_relaxed r place) (k f)
      (ap (λ b. cond (is_relaxed r place) true b) (sym (keep-test (k f) (zs f))) ∙ both.0) in
      ap (continued (labels_of bp.exits) (pick r) (snapshot f b0)) (on-chosen f r rest on)
      ∙ pick-goes f r (chosen r (m.log f) ++ rest) on right
      ∙ m.runs r f rest both.1
  pick-runs r f rest false off kept =
      let all = off-all f off in
      ap (λ l. continued (labels_of bp.exits) (pick r) (snapshot f b0) (chosen r l ++ rest)) all.0
      ∙ ap (λ cs. continued (labels_of bp.exits) (pick r) (snapshot f b0) (cs ++ rest)) (chosen-none r)
      ∙ resting (labels_of bp.exits) (pick r) (snapshot f b0) rest (off-running f off)
      ∙ ap (λ s. Some (s, rest)) (sym all.2)
      ∙ ap (λ b. ended b (snapshot f b2) rest) (sym all.1)

  -- assignments that agree on the words before
  agree-on : (f g : Assignment) → ((n : ℕ) → n < length bp.words → f n ≡ g n) → snapshot f b0 ≡ snapshot g b0
  agree-on f g same = stands0 f ∙ snapshot-agree f g bp same ∙ sym (stands0 g)

  agree-live : (f g : Assignment) → ((n : ℕ) → n < length bp.words → f n ≡ g n) → on_at f b0 ≡ on_at g b0
  agree-live f g same = sym (live-running (values_of f ws) b0)
      ∙ ap (λ (s : Snapshot). is_running s.status) (agree-on f g same) ∙ live-running (values_of g ws) b0

  -- a run that goes on from the choice that an assignment spells
  found-by : (r : Relaxes) (f g : Assignment) (cs rest : List Choice) (s : Snapshot)
      → ((n : ℕ) → n < length bp.words → f n ≡ g n) → on_at g b0 ≡ true → (is_relaxed r place ≡ false →
      k g ≡ true)
      → continued (labels_of b1.exits) (side g r) (snapshot g b1) cs ≡ Some (s, rest)
      → Found r (length bp.words) f log (cond (is_relaxed r place) (choice_here g ∷ cs) cs) rest
  found-by r f g cs rest s same on right goes =
      let found = m.finds r g cs rest s goes in
      let h = found.by in
      let agrees : (n : ℕ) → n < length ws →
      g n ≡ h n = λ n below. found.agrees n (omega (arith, below, ap length same-words)) in
      let values_same : values_of g ws ≡ values_of h ws = values-agree g h ws agrees in
      let on_h : on_at h b0 ≡ true = ap (λ vs. is_live vs b0) (sym values_same) ∙ on in
      let here_same : here h ≡ here g = ap (λ vs. visit_of vs (record {
        place = place;
        guard = bp.live;
        keep = keep;
        values = values;
      })) (sym values_same) in
      let log_h : log h ≡ here g ∷ m.log h = on-log h on_h ∙ ap (λ v. v ∷ m.log h) here_same in
      record {
        by = h;
        agrees = λ n below. same n below ∙ agrees n (omega (arith, below, le));
        kept = ap (are_kept r) log_h ∙ kept-first r (here g) (m.log h)
            ∙ and_from (cond (is_relaxed r place) true (is_keep (choice_here g))) (are_kept r (m.log h))
            (keeps-here (is_relaxed r place) (k g) (zs g) right) found.kept;
        spells = ap (λ l. chosen r l ++ rest) log_h
            ∙ ap (λ cs. cs ++ rest) (chosen-first r (here g) (m.log h))
            ∙ some-first (is_relaxed r place) (choice_here g) (chosen r (m.log h)) rest
            ∙ ap (λ cs. cond (is_relaxed r place) (choice_here g ∷ cs) cs) found.spells;
      } where
        keeps-here : (relaxed kept : Bool) (ys : List ℤ) → (relaxed ≡ false → kept ≡ true)
            → cond relaxed true (is_keep (cond kept choice.Keep (choice.Take ys))) ≡ true
        keeps-here true kept ys right = refl
        keeps-here false true ys right = refl
        keeps-here false false ys right = absurd (let clash : false ≡ true = right refl in cc)

  lengths-here : (f : Assignment) (cs : List Choice) → HasLengths d (came f cs).code
  lengths-here f cs = record { long = λ n within. array-long d b0 fits0 f n within }

  -- the run with one choice
  pick-finds : (r : Relaxes) (f : Assignment) (cs rest : List Choice) (s : Snapshot) → on_at f b0 ≡ true
      → (relaxed : Bool) → is_relaxed r place ≡ relaxed
      → continued (labels_of bp.exits) (pick r) (snapshot f b0) cs ≡ Some (s, rest)
      → Found r (length bp.words) f log cs rest
  pick-finds r f cs rest s on false is_r goes =
      let g = offers.keeps f in
      let on_g : on_at g.by b0 ≡ true = sym (agree-live f g.by g.agrees) ∙ on in
      subst (λ b. Found r (length bp.words) f log (cond b (choice_here g.by ∷ cs) cs) rest) is_r
      (found-by r f g.by cs rest s g.agrees on_g (λ is. g.kept)
      (sym (pick-goes g.by r cs on_g (λ is. g.kept))
      ∙ ap (λ b. continued (labels_of bp.exits) (pick r) (snapshot g.by b0) (cond b (choice_here g.by ∷ cs)
      cs)) is_r
      ∙ ap (λ s. continued (labels_of bp.exits) (pick r) s cs) (sym (agree-on f g.by g.agrees)) ∙ goes))
  pick-finds r f [] rest s on true is_r goes =
      absurd (let clash : None ≡ Some (s, rest) =
      sym (on-status f [] (pick r) on
      ∙ ap (λ b. after_end (labels_of bp.exits) (then_do (untraced (choice_where b) (at_place place (before
      f [])))
      (traced_picked d.arrays take (written r)))) is_r) ∙ goes in cc)
  pick-finds r f (choice.Keep ∷ cs) rest s on true is_r goes =
      let g = offers.keeps f in
      let on_g : on_at g.by b0 ≡ true = sym (agree-live f g.by g.agrees) ∙ on in
      let spelled : choice_here g.by ≡ choice.Keep = ap (λ b. cond b choice.Keep (choice.Take (zs g.by)))
      g.kept in
      let whole : cond (is_relaxed r place) (choice_here g.by ∷ cs) cs ≡ choice.Keep ∷ cs =
      ap (λ b. cond b (choice_here g.by ∷ cs) cs) is_r ∙ ap (λ c. c ∷ cs) spelled in
      subst (λ cs. Found r (length bp.words) f log cs rest) whole
      (found-by r f g.by cs rest s g.agrees on_g (λ is. g.kept)
      (sym (pick-goes g.by r cs on_g (λ is. g.kept))
      ∙ ap (continued (labels_of bp.exits) (pick r) (snapshot g.by b0)) whole
      ∙ ap (λ s. continued (labels_of bp.exits) (pick r) s (choice.Keep ∷ cs)) (sym (agree-on f g.by
      g.agrees)) ∙ goes))
  pick-finds r f (choice.Take ys ∷ cs) rest s on true is_r goes =
      taken-finds (taken d.arrays take ys (came f cs).code) refl where
        taken-goes : after_end (labels_of bp.exits) (picked d take ys (came f cs)) ≡ Some (s, rest)
        taken-goes = sym (on-status f (choice.Take ys ∷ cs) (pick r) on
            ∙ ap (λ b. after_end (labels_of bp.exits) (then_do (untraced (choice_where b) (at_place place
            (before f (choice.Take ys ∷ cs))))
            (traced_picked d.arrays take (written r)))) is_r) ∙ goes

        taken-finds : (x : Option CodeState) → taken d.arrays take ys (came f cs).code ≡ x
            → Found r (length bp.words) f log (choice.Take ys ∷ cs) rest
        taken-finds None none = absurd (let clash : None ≡ Some (s, rest) =
            sym (ap (λ x. after_end (labels_of bp.exits) (untraced (λ c. if_taken x c) (came f cs))) none)
            ∙ taken-goes in cc)
        taken-finds (Some t) is =
            let g = offers.takes f ys (came f cs).code t (lengths-here f cs) is in
            let on_g : on_at g.by b0 ≡ true = sym (agree-live f g.by g.agrees) ∙ on in
            let right : is_relaxed r place ≡ false → k g.by ≡ true =
            λ no. absurd (let clash : true ≡ false = sym is_r ∙ no in cc) in
            let spelled : choice_here g.by ≡ choice.Take ys =
            ap (λ b. cond b choice.Keep (choice.Take (zs g.by))) g.kept ∙ ap choice.Take g.spells in
            let whole : cond (is_relaxed r place) (choice_here g.by ∷ cs) cs ≡ choice.Take ys ∷ cs =
            ap (λ b. cond b (choice_here g.by ∷ cs) cs) is_r ∙ ap (λ c. c ∷ cs) spelled in
            subst (λ cs. Found r (length bp.words) f log cs rest) whole
            (found-by r f g.by cs rest s g.agrees on_g right
            (sym (pick-goes g.by r cs on_g right)
            ∙ ap (continued (labels_of bp.exits) (pick r) (snapshot g.by b0)) whole
            ∙ ap (λ s. continued (labels_of bp.exits) (pick r) s (choice.Take ys ∷ cs)) (sym (agree-on f
            g.by g.agrees)) ∙ goes))

  pick-found : (r : Relaxes) (f : Assignment) (cs rest : List Choice) (s : Snapshot) (b : Bool) →
      on_at f b0 ≡ b
      → continued (labels_of bp.exits) (pick r) (snapshot f b0) cs ≡ Some (s, rest)
      → Found r (length bp.words) f log cs rest
  pick-found r f cs rest s true on goes = pick-finds r f cs rest s on (is_relaxed r place) refl goes
  pick-found r f cs rest s false off goes =
      let none = (off-all f off).0 in
      let both : (snapshot f b0, cs) ≡ (s, rest) =
      (let h = sym (resting (labels_of bp.exits) (pick r) (snapshot f b0) cs (off-running f off)) ∙ goes in
      cc) in
      record {
        by = f;
        agrees = λ n below. refl;
        kept = ap (are_kept r) none ∙ kept-none r;
        spells = ap (λ l. chosen r l ++ rest) none ∙ ap (λ l. l ++ rest) (chosen-none r)
            ∙ sym (ap (λ (p : Snapshot × List Choice). p.1) both);
      }

  pub pick-means : Means d (λ f r. pick r) bp b2
  pick-means = record {
    extends = record {
      more = more ++ m.extends.more;
      words = m.extends.words ∙ ap (λ ws. ws ++ m.extends.more) (same-words ∙ grown) ∙ append_assoc
          bp.words more m.extends.more;
      labels = m.extends.labels ∙ same-labels;
      writes = writes-then bp b1 b2 (writes-none bp b1 (ap (λ (b : Builder). b.written) o.same)
          (ap (λ (b : Builder). b.vars) o.same) (ap (λ (b : Builder). frames_of b.exits) o.same))
          m.extends.writes;
    };
    fits = m.fits;
    log = log;
    good = m.good;
    local = λ f g same.
        ap (λ vs. cond (is_live vs b0) (visit_of vs (record {
          place = place;
          guard = bp.live;
          keep = keep;
          values = values;
        }) ∷ []) [] ++ m.log f) (values-agree f g ws (λ n below. same n (omega (arith, below, le2))))
        ∙ ap (λ l. cond (on_at g b0) (here g ∷ []) [] ++ l) (m.local f g same);
    logs = λ f. m.logs f
        ∙ ap (λ l. l ++ m.log f) (place-visits d b0 b1 fits0 place keep values o name names typed f
        ∙ ap (λ l. l ++ cond (on_at f b0) (here f ∷ []) []) (visits-kept d bp fits (values_of f ws) f
        (same-grown f bp.words ws more grown)))
        ∙ append_assoc (visits f bp) (cond (on_at f b0) (here f ∷ []) []) (m.log f);
    keeps = λ f. m.keeps f
        ∙ ap (λ b. b && m.good f) (ap (λ (b : Builder). met f b) o.same
        ∙ met-kept d bp fits (values_of f ws) f (same-grown f bp.words ws more grown));
    runs = λ r f rest kept.
        ap (λ s. continued (labels_of bp.exits) (pick r) s (chosen r (log f) ++ rest)) (sym (stands0 f))
        ∙ pick-runs r f rest (on_at f b0) refl kept;
    finds = λ r f cs rest s goes. pick-found r f cs rest s (on_at f b0) refl
        (ap (λ s. continued (labels_of bp.exits) (pick r) s cs) (stands0 f) ∙ goes);
  }
