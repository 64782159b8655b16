-- Parts of a run, one after the other.
use Rattle.std.proofs.Common.{◌≡◌, ℕ, ◌+◌, ◌<◌, ◌≤◌, ℤ, Bool, true, false, ◌&&◌, cond, Some, None, Ok, Err, List, [], ◌∷◌, ◌++◌, length, refl, sym, ◌∙◌, ap, arith, append_assoc, append-nil}
use Rattle.std.proofs.lemmas.Bool.{and_from, and_parts}
use Rattle.std.proofs.lemmas.List.{length-append}
use Rattle.ba_choices.specs.declared.Choice.{Choice}
use Rattle.ba_code.specs.Facts.{Declared}
use Rattle.ba_code_laws.specs.Tracing.{Relaxes, Traced, TracedExecution, everywhere}
use Rattle.ba_code_laws.specs.Visits.{are_kept, chosen}
use Rattle.ba_guards.proofs.Growing.{met-kept, same-grown, snapshot-agree, snapshot-kept, visits-kept}
use Rattle.ba_guards.proofs.Writing.{writes-none, writes-then}
use Rattle.ba_guards.specs.Continuing.{Further, after_end, continued, continued_from, ended, labels_of, then_go, traced_from}
use Rattle.ba_guards.specs.Making.{Extends, Fits, Found, Means, Part}
use Rattle.ba_guards.specs.Reading.{Snapshot, Status, status_at, is_live, left_from, met, snapshot, variables_at, visits}
use Rattle.ba_guards.specs.Reading.Status.{idle, running, left}
use Rattle.ba_guards.specs.declared.builder.Builder.{Builder}
use Rattle.ba_guards.specs.declared.exits.Exit.{Exit}
use Rattle.ba_tree.specs.Acts.{EndOn, after_part, then_do}
use Rattle.ba_tree.specs.declared.run.Flow.{Flow}
use Rattle.ba_tree.specs.declared.run.Flow.TheVariants.{Next, Leaves}
use Rattle.ba_tree.specs.declared.run.Place.{Place}
use Rattle.ba_wordlist.proofs.Choices.{chosen-append, chosen-none, chosen-nothing, kept-append, kept-everywhere, kept-none}
use Rattle.ba_wordlist.specs.Facts.{are_words}
use Rattle.ba_wordlist.specs.Meaning.{Assignment, is_nonzero, value_at, values_of}
use Rattle.ba_wordlist.specs.declared.words.WordOp.{WordOp}

-- ENDS

pub ended-some : (b : Bool) (s t : Snapshot) (cs rest : List Choice) → Some (s, cs) ≡ ended b t rest
    → (b ≡ true) × (s ≡ t) × (cs ≡ rest)
ended-some true s t cs rest is =
    let both : (s, cs) ≡ (t, rest) = cc in
    (refl, ap (λ (p : Snapshot × List Choice). p.0) both, ap (λ (p : Snapshot × List Choice). p.1) both)
ended-some false s t cs rest is = absurd (let f : Some (s, cs) ≡ None = is in cc)

abbrev pub is_running : Status → Bool
is_running idle = false
is_running (running variables) = true
is_running (left exit variables) = false

-- if the run doesn't come to a part, this changes nothing
pub resting : (labels : List ℕ) (part : TracedExecution) (s : Snapshot) (cs : List Choice)
    → is_running s.status ≡ false → continued labels part s cs ≡ Some (s, cs)
resting labels part s cs off = at s.status off where
  at : (status : Status) → is_running status ≡ false → continued_from labels part status s cs ≡ Some (s, cs)
  at idle off = refl
  at (running variables) off = absurd (cc)
  at (left exit variables) off = refl

pub quiet : (d : Declared) (part : Part) (old new : Builder) (m : Means d part old new) (f : Assignment)
    → is_running (snapshot f old).status ≡ false
    → (m.log f ≡ []) × (m.good f ≡ true) × (snapshot f new ≡ snapshot f old)
quiet d part old new m f off =
    let ran = m.runs everywhere f [] (kept-everywhere (m.log f)) in
    let rests = resting (labels_of old.exits) (part f everywhere) (snapshot f old) (chosen everywhere
    (m.log f) ++ []) off in
    let all = ended-some (m.good f) (snapshot f old) (snapshot f new) (chosen everywhere (m.log f) ++ []) []
    (sym rests ∙ ran) in
    (chosen-nothing (m.log f) (sym (append-nil (chosen everywhere (m.log f))) ∙ all.2), all.0, sym all.1)

-- ONE PART BEHIND ANOTHER

abbrev pub in_turn : (p q : Part) → Part
in_turn p q f r s = then_do (p f r s) (after_part (q f r))

after-then : (labels : List ℕ) (q : TracedExecution) (e : EndOn Traced (Flow ℕ))
    → after_end labels (then_do e (after_part q)) ≡ then_go (after_end labels e) (continued labels q)
after-then labels q (Ok Next, t) = refl
after-then labels q (Ok (Leaves l), t) = refl
after-then labels q (Err h, t) = refl

continued-then : (labels : List ℕ) (p q : TracedExecution) (status : Status) (arrays : ℕ →
    List ℤ) (places : List Place)
    (cs : List Choice)
    → continued labels (λ s. then_do (p s) (after_part q)) (record {
      status = status;
      arrays = arrays;
      places = places;
    }) cs
    ≡ then_go (continued labels p (record { status = status; arrays = arrays; places = places }) cs)
    (continued labels q)
continued-then labels p q idle arrays places cs = refl
continued-then labels p q (running variables) arrays places cs = after-then labels q
    (p (traced_from variables (record { status = running variables; arrays = arrays; places = places }) cs))
continued-then labels p q (left exit variables) arrays places cs = refl

go-on : (b : Bool) (s : Snapshot) (cs : List Choice) (k : Snapshot → List Choice →
    Further) (b' : Bool) (t : Snapshot)
    (rest : List Choice) → k s cs ≡ ended b' t rest → then_go (ended b s cs) k ≡ ended (b && b') t rest
go-on true s cs k b' t rest h = h
go-on false s cs k b' t rest h = refl

pub longer : (old new : Builder) → Extends old new → length old.words ≤ length new.words
longer old new e = omega (arith, ap length e.words, length-append old.words e.more)

pub extends-then : (old mid new : Builder) → Extends old mid → Extends mid new → Extends old new
extends-then old mid new first second = record {
  more = first.more ++ second.more;
  words = second.words ∙ ap (λ ws. ws ++ second.more) first.words
      ∙ append_assoc old.words first.more second.more;
  labels = second.labels ∙ first.labels;
  writes = writes-then old mid new first.writes second.writes;
}

pub extends-none : (b : Builder) → Extends b b
extends-none b = record {
  more = [];
  words = sym (append-nil b.words);
  labels = refl;
  writes = writes-none b b refl refl refl;
}

-- both parts do the same if the words before them are the same
abbrev pub AreLocal : Builder → Part → Part → Type 0
AreLocal old p q = (f g : Assignment) → ((k : ℕ) → k < length old.words → f k ≡ g k) →
    (p f ≡ p g) × (q f ≡ q g)

module _ (d : Declared) (p q : Part) (old mid new : Builder) (local : AreLocal old p q)
    (first : Means d p old mid) (second : Means d q mid new) where
  then-runs : (r : Relaxes) (f : Assignment) (rest : List Choice) →
      are_kept r (first.log f ++ second.log f) ≡ true
      → continued (labels_of old.exits) (in_turn p q f r) (snapshot f old) (chosen r (first.log f ++
      second.log f) ++ rest)
      ≡ ended (first.good f && second.good f) (snapshot f new) rest
  then-runs r f rest kept =
      let ks = and_parts (are_kept r (first.log f)) (are_kept r (second.log f))
      (sym (kept-append r (first.log f) (second.log f)) ∙ kept) in
      let s = snapshot f old in
      let here = first.runs r f (chosen r (second.log f) ++ rest) ks.0 in
      let there : continued (labels_of old.exits) (q f r) (snapshot f mid) (chosen r (second.log f) ++ rest)
      ≡ ended (second.good f) (snapshot f new) rest =
      ap (λ labels. continued labels (q f r) (snapshot f mid) (chosen r (second.log f) ++ rest)) (sym
      first.extends.labels)
      ∙ second.runs r f rest ks.1 in
      ap (continued (labels_of old.exits) (in_turn p q f r) s)
      (ap (λ cs. cs ++ rest) (chosen-append r (first.log f) (second.log f))
      ∙ append_assoc (chosen r (first.log f)) (chosen r (second.log f)) rest)
      ∙ continued-then (labels_of old.exits) (p f r) (q f r) s.status s.arrays s.places
      (chosen r (first.log f) ++ (chosen r (second.log f) ++ rest))
      ∙ ap (λ o. then_go o (continued (labels_of old.exits) (q f r))) here
      ∙ go-on (first.good f) (snapshot f mid) (chosen r (second.log f) ++ rest) (continued (labels_of
      old.exits) (q f r))
      (second.good f) (snapshot f new) rest there

  then-found : (r : Relaxes) (f : Assignment) (cs rest : List Choice) (s : Snapshot) (o : Further)
      → continued (labels_of old.exits) (p f r) (snapshot f old) cs ≡ o
      → then_go o (continued (labels_of old.exits) (q f r)) ≡ Some (s, rest)
      → Found r (length old.words) f (λ g. first.log g ++ second.log g) cs rest
  then-found r f cs rest s None here there = absurd (let g : None ≡ Some (s, rest) = there in cc)
  then-found r f cs rest s (Some (t, between)) here there =
      let one = first.finds r f cs between t here in
      let locals = local f one.by one.agrees in
      let again : Some (t, between) ≡ ended (first.good one.by) (snapshot one.by mid) between =
      sym here ∙ ap (λ u. continued (labels_of old.exits) (p f r) u cs) (snapshot-agree f one.by old
      one.agrees)
      ∙ ap (λ (part : Relaxes →
      TracedExecution). continued (labels_of old.exits) (part r) (snapshot one.by old) cs) locals.0
      ∙ ap (continued (labels_of old.exits) (p one.by r) (snapshot one.by old)) (sym one.spells)
      ∙ first.runs r one.by between one.kept in
      let at = (ended-some (first.good one.by) t (snapshot one.by mid) between between again).1 in
      let goes : continued (labels_of mid.exits) (q one.by r) (snapshot one.by mid) between ≡ Some (s, rest) =
      ap (λ labels. continued labels (q one.by r) (snapshot one.by mid) between) first.extends.labels
      ∙ ap (λ u. continued (labels_of old.exits) (q one.by r) u between) (sym at)
      ∙ sym (ap (λ (part : Relaxes →
      TracedExecution). continued (labels_of old.exits) (part r) t between) locals.1) ∙ there in
      let two = second.finds r one.by between rest s goes in
      let same : first.log two.by ≡ first.log one.by =
      first.local two.by one.by (λ k below. sym (two.agrees k below)) in
      let le = longer old mid first.extends in
      record {
        by = two.by;
        agrees = λ k below. one.agrees k below ∙ two.agrees k (omega (arith, le));
        kept = kept-append r (first.log two.by) (second.log two.by)
            ∙ and_from (are_kept r (first.log two.by)) (are_kept r (second.log two.by))
            (ap (are_kept r) same ∙ one.kept) two.kept;
        spells = ap (λ cs. cs ++ rest) (chosen-append r (first.log two.by) (second.log two.by))
            ∙ append_assoc (chosen r (first.log two.by)) (chosen r (second.log two.by)) rest
            ∙ ap (λ cs. chosen r (first.log two.by) ++ cs) two.spells
            ∙ ap (λ l. chosen r l ++ between) same ∙ one.spells;
      }

  pub means-then : Means d (in_turn p q) old new
  means-then = record {
    extends = extends-then old mid new first.extends second.extends;
    fits = second.fits;
    log = λ f. first.log f ++ second.log f;
    good = λ f. first.good f && second.good f;
    local = λ f g same.
        ap (λ l. l ++ second.log f)
        (first.local f g (λ k below. same k (omega (arith, longer mid new second.extends))))
        ∙ ap (λ l. first.log g ++ l) (second.local f g same);
    logs = λ f. second.logs f ∙ ap (λ l. l ++ second.log f) (first.logs f)
        ∙ append_assoc (visits f old) (first.log f) (second.log f);
    keeps = λ f. second.keeps f ∙ ap (λ b. b && second.good f) (first.keeps f)
        ∙ and_again (met f old) (first.good f) (second.good f);
    runs = then-runs;
    finds = λ r f cs rest s is.
        let t = snapshot f old in
        then-found r f cs rest s (continued (labels_of old.exits) (p f r) t cs) refl
        (sym (continued-then (labels_of old.exits) (p f r) (q f r) t.status t.arrays t.places cs) ∙ is);
  } where
    and_again : (a b c : Bool) → ((a && b) && c) ≡ (a && (b && c))
    and_again true b c = refl
    and_again false b c = refl

-- PARTS THAT COME TO NO PLACE

pub record Steady (d : Declared) (part : Part) (old new : Builder) (good : Assignment → Bool) : Type 0 where
  pub extends : Extends old new
  pub fits : Fits d new
  pub logs : (f : Assignment) → visits f new ≡ visits f old
  pub keeps : (f : Assignment) → met f new ≡ (met f old && good f)
  pub runs : (r : Relaxes) (f : Assignment) (cs : List Choice)
      → continued (labels_of old.exits) (part f r) (snapshot f old) cs ≡ ended (good f) (snapshot f new) cs

pub means-steady : (d : Declared) (part : Part) (old new : Builder) (good : Assignment → Bool)
    → Steady d part old new good → Means d part old new
means-steady d part old new good s = record {
  extends = s.extends;
  fits = s.fits;
  log = λ f. [];
  good = good;
  local = λ f g same. refl;
  logs = λ f. s.logs f ∙ sym (append-nil (visits f old));
  keeps = s.keeps;
  runs = λ r f rest kept. ap (λ l. continued (labels_of old.exits) (part f r) (snapshot f old) (l ++ rest))
      (chosen-none r)
      ∙ s.runs r f rest;
  finds = λ r f cs rest t is.
      let all = ended-some (good f) t (snapshot f new) rest cs (sym is ∙ s.runs r f cs) in
      record {
        by = f;
        agrees = λ k below. refl;
        kept = kept-none r;
        spells = ap (λ l. l ++ rest) (chosen-none r) ∙ all.2;
      };
}

-- PARTS THAT DO THE SAME

abbrev pub traced_of : Assignment → Builder → List Choice → Traced
traced_of f b cs = traced_from (variables_at (values_of f b.words) b.vars) (snapshot f b) cs

either-resting : (b : Bool) (k : ℕ) (m : ℕ → ℤ) (rest : Status) → is_running rest ≡ false
    → is_running (cond b (left k m) rest) ≡ false
either-resting true k m rest h = refl
either-resting false k m rest h = h

pub left-resting : (vs : List (List ℤ)) (k : ℕ) (es : List Exit) → is_running (left_from vs k es) ≡ false
left-resting vs k [] = refl
left-resting vs k (e ∷ es) = either-resting (is_nonzero (value_at vs e.live)) k (variables_at vs e.vars)
    (left_from vs (k + 1) es) (left-resting vs (k + 1) es)

-- the run comes to the end of the list if its word isn't 0
pub live-running : (vs : List (List ℤ)) (b : Builder) → is_running (status_at vs b) ≡ is_live vs b
live-running vs b = at (is_live vs b) where
  at : (on : Bool) → is_running (cond on (running (variables_at vs b.vars)) (left_from vs 0 b.exits)) ≡ on
  at true = refl
  at false = left-resting vs 0 b.exits

same-ends : (labels : List ℕ) (p q : TracedExecution) (on : Bool) (m : ℕ → ℤ) (rest : Status) (s : Snapshot)
    (cs : List Choice) → is_running rest ≡ false → p (traced_from m s cs) ≡ q (traced_from m s cs)
    → continued_from labels p (cond on (running m) rest) s cs ≡ continued_from labels q (cond on (running
    m) rest) s cs
same-ends labels p q true m rest s cs off same = ap (after_end labels) same
same-ends labels p q false m idle s cs off same = refl
same-ends labels p q false m (running other) s cs off same = absurd (cc)
same-ends labels p q false m (left exit other) s cs off same = refl

same-continued : (p q : TracedExecution) (f : Assignment) (b : Builder) (cs : List Choice)
    → p (traced_of f b cs) ≡ q (traced_of f b cs)
    → continued (labels_of b.exits) p (snapshot f b) cs ≡ continued (labels_of b.exits) q (snapshot f b) cs
same-continued p q f b cs same = same-ends (labels_of b.exits) p q (is_live (values_of f b.words) b)
    (variables_at (values_of f b.words) b.vars) (left_from (values_of f b.words) 0 b.exits) (snapshot f b) cs
    (left-resting (values_of f b.words) 0 b.exits) same

-- what a part does counts only if the run comes to it
pub means-as : (d : Declared) (p q : Part) (old new : Builder) → Means d p old new
    → ((f : Assignment) (r : Relaxes) (cs : List Choice) →
    p f r (traced_of f old cs) ≡ q f r (traced_of f old cs))
    → Means d q old new
means-as d p q old new m same = record {
  extends = m.extends;
  fits = m.fits;
  log = m.log;
  good = m.good;
  local = m.local;
  logs = m.logs;
  keeps = m.keeps;
  runs = λ r f rest kept.
      sym (same-continued (p f r) (q f r) f old (chosen r (m.log f) ++ rest) (same f r (chosen r (m.log f)
      ++ rest)))
      ∙ m.runs r f rest kept;
  finds = λ r f cs rest s is. m.finds r f cs rest s (same-continued (p f r) (q f r) f old cs (same f r cs)
      ∙ is);
}

-- WORDS BEFORE A PART

pub means-before : (d : Declared) (part : Part) (old new : Builder) (ws more : List WordOp) → Fits d old
    → ws ≡ old.words ++ more → are_words ws ≡ true → Means d part (record old { words = ws }) new
    → Means d part old new
means-before d part old new ws more fits grown fit m =
    let same = λ (f : Assignment). same-grown f old.words ws more grown in
    let le : length old.words ≤ length ws = omega (arith, ap length grown, length-append old.words more) in
    let at = λ (f : Assignment). snapshot-kept d old fits (values_of f ws) f (same f) in
    record {
      extends = record {
        more = more ++ m.extends.more;
        words = m.extends.words ∙ ap (λ ws. ws ++ m.extends.more) grown ∙ append_assoc old.words more
            m.extends.more;
        labels = m.extends.labels;
        writes = record {
          set = m.extends.writes.set;
          written = m.extends.writes.written;
          kept = m.extends.writes.kept;
          frames = m.extends.writes.frames;
        };
      };
      fits = m.fits;
      log = m.log;
      good = m.good;
      local = m.local;
      logs = λ f. m.logs f ∙ ap (λ l. l ++ m.log f) (visits-kept d old fits (values_of f ws) f (same f));
      keeps = λ f. m.keeps f ∙ ap (λ b. b && m.good f) (met-kept d old fits (values_of f ws) f (same f));
      runs = λ r f rest kept.
          ap (λ s. continued (labels_of old.exits) (part f r) s (chosen r (m.log f) ++ rest)) (sym (at f))
          ∙ m.runs r f rest kept;
      finds = λ r f cs rest s is.
          let found = m.finds r f cs rest s
          (ap (λ s. continued (labels_of old.exits) (part f r) s cs) (at f) ∙ is) in
          record {
            by = found.by;
            agrees = λ k below. found.agrees k (omega (arith, le));
            kept = found.kept;
            spells = found.spells;
          };
    }
