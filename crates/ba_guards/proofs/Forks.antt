-- Two sides of which a run takes one.
use Rattle.std.proofs.Common.{◌≡◌, ℕ, ◌<◌, ◌≤◌, ℤ, pos, Bool, true, false, not, ◌&&◌, ◌||◌, cond, Some, List, [], ◌++◌, map, length, get_or, drop, take, refl, sym, ◌∙◌, ap, subst, arith, append_assoc, append-nil}
use Rattle.std.proofs.lemmas.Bool.{and_parts, not-true}
use Rattle.std.proofs.lemmas.List.{drop_at, length-append, take_at}
use Rattle.ba_choices.specs.declared.Choice.{Choice}
use Rattle.ba_code.specs.Facts.{Declared}
use Rattle.ba_code_laws.specs.Tracing.{Relaxes}
use Rattle.ba_code_laws.specs.Visits.{Visit, are_kept, chosen}
use Rattle.ba_guards.proofs.Going.{is_running, left-resting, live-running, quiet}
use Rattle.ba_guards.proofs.Growing.{arrays-same, fits-grown, left-kept, met-kept, same-grown, variables-same, visits-kept}
use Rattle.ba_guards.proofs.Writing.{gathers-writes, since-writes, writes-none}
use Rattle.ba_guards.specs.Written.{AgreeBut, AreSince, frames_of, is_among}
use Rattle.ba_guards.specs.Continuing.{continued, ended, labels_of}
use Rattle.ba_guards.specs.Making.{Extends, Fits, Found, Joins, Means, Opens, Part, Switches, Writes, holds_in, word_in}
use Rattle.ba_guards.specs.Reading.{Snapshot, Status, arrays_at, is_live, left_from, met, places_at, snapshot, variables_at, visits}
use Rattle.ba_guards.specs.Reading.Status.{idle, running}
use Rattle.ba_guards.specs.declared.builder.Builder.{Builder}
use Rattle.ba_tree.specs.declared.run.Place.{Place}
use Rattle.ba_wordlist.proofs.Values.{SameBelow, names-more, value-same, values-agree}
use Rattle.ba_wordlist.specs.Meaning.{Assignment, are_met, is_nonzero, value_at, values_of, visits_in}
use Rattle.ba_wordlist.specs.declared.words.WordOp.{WordOp}

-- a snapshot by its parts
abbrev pub snap : Bool → (ℕ → ℤ) → Status → (ℕ → List ℤ) → List Place → Snapshot
snap on m rest a l = record { status = cond on (running m) rest; arrays = a; places = l }

pub snap-same : (on on' : Bool) (m m' : ℕ → ℤ) (rest rest' : Status) (a a' : ℕ → List ℤ) (l l' : List Place)
    → on ≡ on' → m ≡ m' → rest ≡ rest' → a ≡ a' → l ≡ l' → snap on m rest a l ≡ snap on' m' rest' a' l'
snap-same on on' m m' rest rest' a a' l l' e1 e2 e3 e4 e5 = λ i. snap (e1 i) (e2 i) (e3 i) (e4 i) (e5 i)

not-on : (on : Bool) (m : ℕ → ℤ) (rest other : Status) → cond on (running m) rest ≡ other →
    is_running other ≡ false
    → on ≡ false
not-on true m rest other is off = ap is_running is ∙ off
not-on false m rest other is off = refl

off-rest : (on : Bool) (m : ℕ → ℤ) (rest other : Status) → on ≡ false →
    cond on (running m) rest ≡ other → rest ≡ other
off-rest true m rest other off is = absurd (cc)
off-rest false m rest other off is = is

pub either-nonzero : (c : Bool) (x : ℤ) → is_nonzero (cond c x (pos 0)) ≡ (c && is_nonzero x)
either-nonzero true x = refl
either-nonzero false x = refl

pub other-nonzero : (c : Bool) (x : ℤ) → is_nonzero (cond c (pos 0) x) ≡ (not c && is_nonzero x)
other-nonzero true x = refl
other-nonzero false x = refl

pub or-nonzero : (c : Bool) (x : ℤ) → is_nonzero (cond c (pos 1) x) ≡ (c || is_nonzero x)
or-nonzero true x = refl
or-nonzero false x = refl

-- WORDS were added after a builder

abbrev pub on_at : Assignment → Builder → Bool
on_at f b = is_live (values_of f b.words) b

abbrev pub vars_at : Assignment → Builder → ℕ → ℤ
vars_at f b = variables_at (values_of f b.words) b.vars

abbrev pub rest_at : Assignment → Builder → Status
rest_at f b = left_from (values_of f b.words) 0 b.exits

abbrev pub cells_at : Assignment → Builder → ℕ → List ℤ
cells_at f b = arrays_at (values_of f b.words) b.arrays

abbrev pub list_at : Assignment → Builder → List Place
list_at f b = places_at (values_of f b.words) b

module _ (d : Declared) (b : Builder) (ws more : List WordOp) (fits : Fits d b) (grown : ws ≡ b.words ++
    more) (f : Assignment) where
  kept : SameBelow (length b.words) (values_of f ws) (values_of f b.words)
  kept = same-grown f b.words ws more grown

  pub later-vars : variables_at (values_of f ws) b.vars ≡ vars_at f b
  later-vars = variables-same (length b.words) (values_of f ws) (values_of f b.words) kept b.vars
      (omega (arith, fits.live)) fits.vars

  pub later-rest : left_from (values_of f ws) 0 b.exits ≡ rest_at f b
  later-rest = left-kept d b fits (values_of f ws) f kept

  pub later-cells : arrays_at (values_of f ws) b.arrays ≡ cells_at f b
  later-cells = arrays-same (length b.words) (values_of f ws) (values_of f b.words) kept b.arrays fits.arrays

  pub later-list : places_at (values_of f ws) b ≡ list_at f b
  later-list = ap (map (λ (v : Visit). v.place)) (visits-kept d b fits (values_of f ws) f kept)

  pub later-word : (w : ℕ) → w < length b.words → word_in ws w f ≡ word_in b.words w f
  later-word w below = value-same (length b.words) w (values_of f ws) (values_of f b.words) kept below

  pub later-visits : visits_in (values_of f ws) b.places ≡ visits f b
  later-visits = visits-kept d b fits (values_of f ws) f kept

  pub later-met : are_met (values_of f ws) b.require ≡ met f b
  later-met = met-kept d b fits (values_of f ws) f kept

-- after two ways, if only what the run takes counts
pub ways-stand : (on one two : Bool) (m m1 m2 : ℕ → ℤ) (rest : Status) (a : ℕ →
    List ℤ) (l : List Place) → on ≡ (one || two)
    → (one ≡ true → m ≡ m1) → (one ≡ false → two ≡ true → m ≡ m2)
    → snap on m rest a l ≡ snap (one || two) (cond one m1 m2) rest a l
ways-stand on true two m m1 m2 rest a l is first second =
    ap (λ on. snap on m rest a l) is ∙ ap (λ m. snap true m rest a l) (first refl)
ways-stand on false true m m1 m2 rest a l is first second =
    ap (λ on. snap on m rest a l) is ∙ ap (λ m. snap true m rest a l) (second refl refl)
ways-stand on false false m m1 m2 rest a l is first second = ap (λ on. snap on m rest a l) is

-- FORKS

-- the second side begins with what was written before the branch
pub second-written : (which : ℕ) (b0 b1 b2 b3 : Builder) → Opens b0 b1 which → Extends b1 b2
    → Switches (length b0.written) b0.live b0.vars b2 b3 which → b3.written ≡ b0.written
second-written which b0 b1 b2 b3 o e sw =
    ap (λ (b : Builder). b.written) sw.same
    ∙ ap (take (length b0.written)) (e.writes.written
    ∙ ap (λ (b : Builder). b.written ++ e.writes.set) o.same)
    ∙ take_at b0.written e.writes.set (length b0.written) refl

-- what the first side writes
pub first-agrees : (which : ℕ) (b0 b1 b2 : Builder) → Opens b0 b1 which → Extends b1 b2
    → AgreeBut (drop (length b0.written) b2.written) b0.vars b2.vars
first-agrees which b0 b1 b2 o e k h =
    ap (λ (b : Builder). get_or b.vars k 0) (sym o.same)
    ∙ e.writes.kept k (sym (ap (is_among k) (ap (drop (length b0.written)) (e.writes.written
    ∙ ap (λ (b : Builder). b.written ++ e.writes.set) o.same)
    ∙ drop_at b0.written e.writes.set (length b0.written) refl)) ∙ h)

-- and what the second
pub second-agrees : (which : ℕ) (b0 b1 b2 b3 b4 : Builder) → Opens b0 b1 which → Extends b1 b2
    → Switches (length b0.written) b0.live b0.vars b2 b3 which → Extends b3 b4
    → AgreeBut (drop (length b0.written) b4.written) b0.vars b4.vars
second-agrees which b0 b1 b2 b3 b4 o e1 sw e2 k h =
    ap (λ (b : Builder). get_or b.vars k 0) (sym sw.same)
    ∙ e2.writes.kept k (sym (ap (is_among k) (ap (drop (length b0.written)) (e2.writes.written
    ∙ ap (λ ns. ns ++ e2.writes.set) (second-written which b0 b1 b2 b3 o e1 sw))
    ∙ drop_at b0.written e2.writes.set (length b0.written) refl)) ∙ h)

-- the second side begins where the branch did
pub switch-writes : (which : ℕ) (b0 b1 b2 b3 : Builder) → Opens b0 b1 which → Extends b1 b2
    → Switches (length b0.written) b0.live b0.vars b2 b3 which → Writes b0 b3
switch-writes which b0 b1 b2 b3 o e sw =
    writes-none b0 b3 (second-written which b0 b1 b2 b3 o e sw) (ap (λ (b : Builder). b.vars) sw.same)
    (ap (λ (b : Builder). frames_of b.exits) sw.same ∙ e.writes.frames
    ∙ ap (λ (b : Builder). frames_of b.exits) o.same)

abbrev pub forked : (Assignment → Bool) → Part → Part → Part
forked c p q f r s = cond (c f) (p f r s) (q f r s)

module _ (d : Declared) (which : ℕ) (b0 b1 b2 b3 b4 b5 : Builder) (p q : Part) (fits : Fits d b0)
    (name : which < length b0.words) (o : Opens b0 b1 which) (fits1 : Fits d b1) (mp : Means d p b1 b2)
    (sw : Switches (length b0.written) b0.live b0.vars b2 b3 which) (fits3 : Fits d b3)
    (mq : Means d q b3 b4) (j : Joins (length b0.written) b0.vars b2.live b2.vars b4 b5) where
  abbrev c : Assignment → Bool
  c f = holds_in b0.words which f

  -- how the lists grow
  abbrev more2 : List WordOp
  more2 = o.live.more ++ mp.extends.more

  grown2 : b2.words ≡ b0.words ++ more2
  grown2 = mp.extends.words ∙ ap (λ ws. ws ++ mp.extends.more) o.live.grown
      ∙ append_assoc b0.words o.live.more mp.extends.more

  grown3 : b3.words ≡ b0.words ++ (more2 ++ sw.live.more)
  grown3 = sw.live.grown ∙ ap (λ ws. ws ++ sw.live.more) grown2 ∙ append_assoc b0.words more2 sw.live.more

  grown4 : b4.words ≡ b2.words ++ (sw.live.more ++ mq.extends.more)
  grown4 = mq.extends.words ∙ ap (λ ws. ws ++ mq.extends.more) sw.live.grown
      ∙ append_assoc b2.words sw.live.more mq.extends.more

  grown5 : b5.words ≡ b4.words ++ j.ways.more
  grown5 = j.ways.grown

  le2 : length b0.words ≤ length b2.words
  le2 = omega (arith, ap length grown2, length-append b0.words more2)

  le23 : length b2.words ≤ length b3.words
  le23 = omega (arith, ap length sw.live.grown, length-append b2.words sw.live.more)

  le4 : length b2.words ≤ length b4.words
  le4 = omega (arith, ap length grown4, length-append b2.words (sw.live.more ++ mq.extends.more))

  le5 : length b4.words ≤ length b5.words
  le5 = omega (arith, ap length grown5, length-append b4.words j.ways.more)

  le1 : length b0.words ≤ length b1.words
  le1 = omega (arith, ap length o.live.grown, length-append b0.words o.live.more)

  stands1 : (f : Assignment) →
      snapshot f b1 ≡ snap (c f && on_at f b0) (vars_at f b0) (rest_at f b0) (cells_at f b0) (list_at f b0)
  stands1 f = ap (snapshot f) o.same
      ∙ snap-same (is_live (values_of f b1.words) (record b0 { words = b1.words; live = b1.live })) (c f &&
      on_at f b0)
      (variables_at (values_of f b1.words) b0.vars) (vars_at f b0) (left_from (values_of f b1.words) 0
      b0.exits) (rest_at f b0)
      (arrays_at (values_of f b1.words) b0.arrays) (cells_at f b0) (places_at (values_of f b1.words) b0)
      (list_at f b0)
      (ap is_nonzero (o.live.has f) ∙ either-nonzero (c f) (word_in b0.words b0.live f))
      (later-vars d b0 b1.words o.live.more fits o.live.grown f) (later-rest d b0 b1.words o.live.more fits
      o.live.grown f)
      (later-cells d b0 b1.words o.live.more fits o.live.grown f) (later-list d b0 b1.words o.live.more
      fits o.live.grown f)

  stands3 : (f : Assignment) →
      snapshot f b3 ≡ snap (not (c f) && on_at f b0) (vars_at f b0) (rest_at f b2) (cells_at f b2) (list_at
      f b2)
  stands3 f = ap (snapshot f) sw.same
      ∙ snap-same (is_live (values_of f b3.words) (record b2 {
        words = b3.words;
        live = b3.live;
        vars = b0.vars;
        written = take (length b0.written) b2.written;
      }))
      (not (c f) && on_at f b0)
      (variables_at (values_of f b3.words) b0.vars) (vars_at f b0) (left_from (values_of f b3.words) 0
      b2.exits) (rest_at f b2)
      (arrays_at (values_of f b3.words) b2.arrays) (cells_at f b2) (places_at (values_of f b3.words) b2)
      (list_at f b2)
      (ap is_nonzero (sw.live.has f)
      ∙ ap is_nonzero (ap (λ z. cond (is_nonzero z) (pos 0) (word_in b2.words b0.live f))
      (later-word d b0 b2.words more2 fits grown2 f which name)
      ∙ ap (λ z. cond (c f) (pos 0) z) (later-word d b0 b2.words more2 fits grown2 f b0.live fits.live))
      ∙ other-nonzero (c f) (word_in b0.words b0.live f))
      (later-vars d b0 b3.words (more2 ++ sw.live.more) fits grown3 f)
      (later-rest d b2 b3.words sw.live.more mp.fits sw.live.grown f)
      (later-cells d b2 b3.words sw.live.more mp.fits sw.live.grown f)
      (later-list d b2 b3.words sw.live.more mp.fits sw.live.grown f)

  stands5 : (f : Assignment) →
      snapshot f b5 ≡ snap (on_at f b2 || on_at f b4) (cond (on_at f b2) (vars_at f b2) (vars_at f b4))
      (rest_at f b4) (cells_at f b4) (list_at f b4)
  stands5 f = ap (snapshot f) j.same
      ∙ ap (λ rest. snap (on_at f b5) (vars_at f b5) rest (arrays_at (values_of f b5.words) b4.arrays)
      (places_at (values_of f b5.words) b4))
      (later-rest d b4 b5.words j.ways.more mq.fits grown5 f)
      ∙ ap (λ a. snap (on_at f b5) (vars_at f b5) (rest_at f b4) a (places_at (values_of f b5.words) b4))
      (later-cells d b4 b5.words j.ways.more mq.fits grown5 f)
      ∙ ap (snap (on_at f b5) (vars_at f b5) (rest_at f b4) (cells_at f b4)) (later-list d b4 b5.words
      j.ways.more mq.fits grown5 f)
      ∙ ways-stand (on_at f b5) (on_at f b2) (on_at f b4) (vars_at f b5) (vars_at f b2) (vars_at f b4)
      (rest_at f b4) (cells_at f b4)
      (list_at f b4) (j.ways.on f ∙ ap (λ z. is_nonzero z || on_at f b4) on2)
      (λ on. j.ways.first f (ap is_nonzero on2 ∙ on)
      ∙ later-vars d b2 b4.words (sw.live.more ++ mq.extends.more) mp.fits grown4 f)
      (λ off on. j.ways.second f (ap is_nonzero on2 ∙ off) on) where
        on2 : word_in b4.words b2.live f ≡ word_in b2.words b2.live f
        on2 = later-word d b2 b4.words (sw.live.more ++ mq.extends.more) mp.fits grown4 f b2.live mp.fits.live

  -- the one side is taken: the other changes nothing
  record Yes (f : Assignment) : Type 0 where
    from : snapshot f b1 ≡ snapshot f b0
    to : snapshot f b5 ≡ snapshot f b2
    silent : mq.log f ≡ []
    met : mq.good f ≡ true

  taken-yes : (f : Assignment) → c f ≡ true → Yes f
  taken-yes f is =
      let third : snapshot f b3 ≡ snap false (vars_at f b0) (rest_at f b2) (cells_at f b2) (list_at f b2) =
      stands3 f ∙ ap (λ b. snap (not b && on_at f b0) (vars_at f b0) (rest_at f b2) (cells_at f b2)
      (list_at f b2)) is in
      let off : is_running (snapshot f b3).status ≡ false =
      ap (λ (s : Snapshot). is_running s.status) third ∙ left-resting (values_of f b2.words) 0 b2.exits in
      let rests = quiet d q b3 b4 mq f off in
      let same : snapshot f b4 ≡ snap false (vars_at f b0) (rest_at f b2) (cells_at f b2) (list_at f b2) =
      rests.2 ∙ third in
      let off4 : on_at f b4 ≡ false = not-on (on_at f b4) (vars_at f b4) (rest_at f b4) (rest_at f b2)
      (ap (λ (s : Snapshot). s.status) same) (left-resting (values_of f b2.words) 0 b2.exits) in
      record {
        from = stands1 f
            ∙ ap (λ b. snap (b && on_at f b0) (vars_at f b0) (rest_at f b0) (cells_at f b0) (list_at f b0))
            is;
        to = stands5 f
            ∙ ap (λ b. snap (on_at f b2 || b) (cond (on_at f b2) (vars_at f b2) (vars_at f b4)) (rest_at f
            b4) (cells_at f b4)
            (list_at f b4)) off4
            ∙ by (on_at f b2) (off-rest (on_at f b4) (vars_at f b4) (rest_at f b4) (rest_at f b2) off4
            (ap (λ (s : Snapshot). s.status) same)) (ap (λ (s : Snapshot). s.arrays) same)
            (ap (λ (s : Snapshot). s.places) same);
        silent = rests.0;
        met = rests.1;
      } where
        by : (on : Bool) → rest_at f b4 ≡ rest_at f b2 → cells_at f b4 ≡ cells_at f b2 →
            list_at f b4 ≡ list_at f b2
            → snap (on || false) (cond on (vars_at f b2) (vars_at f b4)) (rest_at f b4) (cells_at f b4)
            (list_at f b4)
            ≡ snap on (vars_at f b2) (rest_at f b2) (cells_at f b2) (list_at f b2)
        by true e1 e2 e3 = snap-same true true (vars_at f b2) (vars_at f b2) (rest_at f b4) (rest_at f b2)
            (cells_at f b4)
            (cells_at f b2) (list_at f b4) (list_at f b2) refl refl e1 e2 e3
        by false e1 e2 e3 = snap-same false false (vars_at f b4) (vars_at f b4) (rest_at f b4) (rest_at f
            b2) (cells_at f b4)
            (cells_at f b2) (list_at f b4) (list_at f b2) refl refl e1 e2 e3

  -- the other side is taken: the one changed nothing
  record No (f : Assignment) : Type 0 where
    from : snapshot f b3 ≡ snapshot f b0
    to : snapshot f b5 ≡ snapshot f b4
    silent : mp.log f ≡ []
    met : mp.good f ≡ true

  taken-no : (f : Assignment) → c f ≡ false → No f
  taken-no f is =
      let first : snapshot f b1 ≡ snap false (vars_at f b0) (rest_at f b0) (cells_at f b0) (list_at f b0) =
      stands1 f ∙ ap (λ b. snap (b && on_at f b0) (vars_at f b0) (rest_at f b0) (cells_at f b0) (list_at f
      b0)) is in
      let off : is_running (snapshot f b1).status ≡ false =
      ap (λ (s : Snapshot). is_running s.status) first ∙ left-resting (values_of f b0.words) 0 b0.exits in
      let rests = quiet d p b1 b2 mp f off in
      let same : snapshot f b2 ≡ snap false (vars_at f b0) (rest_at f b0) (cells_at f b0) (list_at f b0) =
      rests.2 ∙ first in
      let off2 : on_at f b2 ≡ false = not-on (on_at f b2) (vars_at f b2) (rest_at f b2) (rest_at f b0)
      (ap (λ (s : Snapshot). s.status) same) (left-resting (values_of f b0.words) 0 b0.exits) in
      record {
        from = stands3 f
            ∙ ap (λ b. snap (not b && on_at f b0) (vars_at f b0) (rest_at f b2) (cells_at f b2) (list_at f
            b2)) is
            ∙ snap-same (on_at f b0) (on_at f b0) (vars_at f b0) (vars_at f b0) (rest_at f b2) (rest_at f
            b0) (cells_at f b2)
            (cells_at f b0) (list_at f b2) (list_at f b0) refl refl
            (off-rest (on_at f b2) (vars_at f b2) (rest_at f b2) (rest_at f b0) off2 (ap (λ (s : Snapshot).
            s.status) same))
            (ap (λ (s : Snapshot). s.arrays) same) (ap (λ (s : Snapshot). s.places) same);
        to = stands5 f
            ∙ ap (λ b. snap (b || on_at f b4) (cond b (vars_at f b2) (vars_at f b4)) (rest_at f b4)
            (cells_at f b4) (list_at f b4))
            off2;
        silent = rests.0;
        met = rests.1;
      }

  all-good : (a b : Bool) → b ≡ true → (a && b) ≡ a
  all-good true b e = e
  all-good false b e = refl

  all-good-left : (a b : Bool) → a ≡ true → (a && b) ≡ b
  all-good-left true b e = refl
  all-good-left false b e = absurd (cc)

  labels1 : labels_of b1.exits ≡ labels_of b0.exits
  labels1 = ap (λ (b : Builder). labels_of b.exits) o.same

  labels3 : labels_of b3.exits ≡ labels_of b0.exits
  labels3 = ap (λ (b : Builder). labels_of b.exits) sw.same ∙ mp.extends.labels ∙ labels1

  labels5 : labels_of b5.exits ≡ labels_of b0.exits
  labels5 = ap (λ (b : Builder). labels_of b.exits) j.same ∙ mq.extends.labels ∙ labels3

  abbrev both_logs : Assignment → List Visit
  both_logs f = mp.log f ++ mq.log f

  yes-runs : (r : Relaxes) (f : Assignment) (rest : List Choice) → c f ≡ true →
      are_kept r (both_logs f) ≡ true
      → continued (labels_of b0.exits) (forked c p q f r) (snapshot f b0) (chosen r (both_logs f) ++ rest)
      ≡ ended (mp.good f && mq.good f) (snapshot f b5) rest
  yes-runs r f rest is kept_both =
      let y = taken-yes f is in
      let one : both_logs f ≡ mp.log f = ap (λ l. mp.log f ++ l) y.silent ∙ append-nil (mp.log f) in
      ap (λ b. continued (labels_of b0.exits) (λ s. cond b (p f r s) (q f r s)) (snapshot f b0) (chosen r
      (both_logs f) ++ rest)) is
      ∙ ap (λ l. continued (labels_of b0.exits) (p f r) (snapshot f b0) (chosen r l ++ rest)) one
      ∙ ap (λ labels. continued labels (p f r) (snapshot f b0) (chosen r (mp.log f) ++ rest)) (sym labels1)
      ∙ ap (λ s. continued (labels_of b1.exits) (p f r) s (chosen r (mp.log f) ++ rest)) (sym y.from)
      ∙ mp.runs r f rest (sym (ap (are_kept r) one) ∙ kept_both)
      ∙ ap (λ b. ended b (snapshot f b2) rest) (sym (all-good (mp.good f) (mq.good f) y.met))
      ∙ ap (λ s. ended (mp.good f && mq.good f) s rest) (sym y.to)

  no-runs : (r : Relaxes) (f : Assignment) (rest : List Choice) → c f ≡ false →
      are_kept r (both_logs f) ≡ true
      → continued (labels_of b0.exits) (forked c p q f r) (snapshot f b0) (chosen r (both_logs f) ++ rest)
      ≡ ended (mp.good f && mq.good f) (snapshot f b5) rest
  no-runs r f rest is kept_both =
      let n = taken-no f is in
      let one : both_logs f ≡ mq.log f = ap (λ l. l ++ mq.log f) n.silent in
      ap (λ b. continued (labels_of b0.exits) (λ s. cond b (p f r s) (q f r s)) (snapshot f b0) (chosen r
      (both_logs f) ++ rest)) is
      ∙ ap (λ l. continued (labels_of b0.exits) (q f r) (snapshot f b0) (chosen r l ++ rest)) one
      ∙ ap (λ labels. continued labels (q f r) (snapshot f b0) (chosen r (mq.log f) ++ rest)) (sym labels3)
      ∙ ap (λ s. continued (labels_of b3.exits) (q f r) s (chosen r (mq.log f) ++ rest)) (sym n.from)
      ∙ mq.runs r f rest (sym (ap (are_kept r) one) ∙ kept_both)
      ∙ ap (λ b. ended b (snapshot f b4) rest) (sym (all-good-left (mp.good f) (mq.good f) n.met))
      ∙ ap (λ s. ended (mp.good f && mq.good f) s rest) (sym n.to)

  fork-runs : (r : Relaxes) (f : Assignment) (rest : List Choice) (b : Bool) → c f ≡ b →
      are_kept r (both_logs f) ≡ true
      → continued (labels_of b0.exits) (forked c p q f r) (snapshot f b0) (chosen r (both_logs f) ++ rest)
      ≡ ended (mp.good f && mq.good f) (snapshot f b5) rest
  fork-runs r f rest true is kept_both = yes-runs r f rest is kept_both
  fork-runs r f rest false is kept_both = no-runs r f rest is kept_both

  -- the same side is taken if the words so far are the same
  same-side : (f g : Assignment) → ((k : ℕ) → k < length b0.words → f k ≡ g k) → c f ≡ c g
  same-side f g same = ap (λ vs. is_nonzero (value_at vs which)) (values-agree f g b0.words same)

  fork-finds : (r : Relaxes) (f : Assignment) (cs rest : List Choice) (s : Snapshot) (b : Bool) → c f ≡ b
      → continued (labels_of b0.exits) (forked c p q f r) (snapshot f b0) cs ≡ Some (s, rest)
      → Found r (length b0.words) f both_logs cs rest
  fork-finds r f cs rest s true is goes =
      let y = taken-yes f is in
      let found = mp.finds r f cs rest s
      (ap (λ labels. continued labels (p f r) (snapshot f b1) cs) labels1
      ∙ ap (λ s. continued (labels_of b0.exits) (p f r) s cs) y.from
      ∙ sym (ap (λ b. continued (labels_of b0.exits) (λ s. cond b (p f r s) (q f r s)) (snapshot f b0) cs)
      is) ∙ goes) in
      let agrees : (k : ℕ) → k < length b0.words →
      f k ≡ found.by k = λ k below. found.agrees k (omega (arith, le1)) in
      let again = taken-yes found.by (sym (same-side f found.by agrees) ∙ is) in
      let one : both_logs found.by ≡ mp.log found.by =
      ap (λ l. mp.log found.by ++ l) again.silent ∙ append-nil (mp.log found.by) in
      record {
        by = found.by;
        agrees = agrees;
        kept = ap (are_kept r) one ∙ found.kept;
        spells = ap (λ l. chosen r l ++ rest) one ∙ found.spells;
      }
  fork-finds r f cs rest s false is goes =
      let n = taken-no f is in
      let found = mq.finds r f cs rest s
      (ap (λ labels. continued labels (q f r) (snapshot f b3) cs) labels3
      ∙ ap (λ s. continued (labels_of b0.exits) (q f r) s cs) n.from
      ∙ sym (ap (λ b. continued (labels_of b0.exits) (λ s. cond b (p f r s) (q f r s)) (snapshot f b0) cs)
      is) ∙ goes) in
      let agrees : (k : ℕ) → k < length b0.words →
      f k ≡ found.by k = λ k below. found.agrees k (omega (arith, le2, le23)) in
      let again = taken-no found.by (sym (same-side f found.by agrees) ∙ is) in
      let one : both_logs found.by ≡ mq.log found.by = ap (λ l. l ++ mq.log found.by) again.silent in
      record {
        by = found.by;
        agrees = agrees;
        kept = ap (are_kept r) one ∙ found.kept;
        spells = ap (λ l. chosen r l ++ rest) one ∙ found.spells;
      }

  join-on : (f : Assignment) → on_at f b5 ≡ (on_at f b2 || on_at f b4)
  join-on f = sym (live-running (values_of f b5.words) b5) ∙ ap (λ (s : Snapshot). is_running s.status)
      (stands5 f)
      ∙ at (on_at f b2 || on_at f b4) where
        at : (b : Bool) →
            is_running (cond b (running (cond (on_at f b2) (vars_at f b2) (vars_at f b4))) (rest_at f b4))
            ≡ b
        at true = refl
        at false = left-resting (values_of f b4.words) 0 b4.exits

  join-rest : (f : Assignment) → rest_at f b5 ≡ rest_at f b4
  join-rest f = ap (λ (b : Builder). left_from (values_of f b5.words) 0 b.exits) j.same
      ∙ later-rest d b4 b5.words j.ways.more mq.fits grown5 f

  -- where the one side comes to the end, the other wasn't taken, and no block was left
  yes-rest : (f : Assignment) (b : Bool) → c f ≡ b → on_at f b2 ≡ true → rest_at f b4 ≡ idle
  yes-rest f true is on =
      let y = taken-yes f is in
      let s5 : (snapshot f b5).status ≡ running (vars_at f b2) =
      ap (λ (s : Snapshot). s.status) y.to ∙ ap (λ b. cond b (running (vars_at f b2)) (rest_at f b2)) on in
      let third : snapshot f b3 ≡ snap false (vars_at f b0) (rest_at f b2) (cells_at f b2) (list_at f b2) =
      stands3 f ∙ ap (λ b. snap (not b && on_at f b0) (vars_at f b0) (rest_at f b2) (cells_at f b2)
      (list_at f b2)) is in
      let off : is_running (snapshot f b3).status ≡ false =
      ap (λ (s : Snapshot). is_running s.status) third ∙ left-resting (values_of f b2.words) 0 b2.exits in
      let same : snapshot f b4 ≡ snap false (vars_at f b0) (rest_at f b2) (cells_at f b2) (list_at f b2) =
      (quiet d q b3 b4 mq f off).2 ∙ third in
      let off4 : on_at f b4 ≡ false = not-on (on_at f b4) (vars_at f b4) (rest_at f b4) (rest_at f b2)
      (ap (λ (s : Snapshot). s.status) same) (left-resting (values_of f b2.words) 0 b2.exits) in
      off-rest (on_at f b4) (vars_at f b4) (rest_at f b4) (rest_at f b2) off4 (ap (λ (s : Snapshot).
      s.status) same)
      ∙ mp.fits.apart f on
  yes-rest f false is on =
      let first : snapshot f b1 ≡ snap false (vars_at f b0) (rest_at f b0) (cells_at f b0) (list_at f b0) =
      stands1 f ∙ ap (λ b. snap (b && on_at f b0) (vars_at f b0) (rest_at f b0) (cells_at f b0) (list_at f
      b0)) is in
      let off : is_running (snapshot f b1).status ≡ false =
      ap (λ (s : Snapshot). is_running s.status) first ∙ left-resting (values_of f b0.words) 0 b0.exits in
      let same : snapshot f b2 ≡ snap false (vars_at f b0) (rest_at f b0) (cells_at f b0) (list_at f b0) =
      (quiet d p b1 b2 mp f off).2 ∙ first in
      let off2 : on_at f b2 ≡ false = not-on (on_at f b2) (vars_at f b2) (rest_at f b2) (rest_at f b0)
      (ap (λ (s : Snapshot). s.status) same) (left-resting (values_of f b0.words) 0 b0.exits) in
      absurd (let clash : true ≡ false = sym on ∙ off2 in cc)

  join-apart : (f : Assignment) → on_at f b5 ≡ true → rest_at f b5 ≡ idle
  join-apart f on = join-rest f ∙ at (on_at f b2) refl (on_at f b4) refl where
    at : (on2 : Bool) → on_at f b2 ≡ on2 → (on4 : Bool) → on_at f b4 ≡ on4 → rest_at f b4 ≡ idle
    at true e2 on4 e4 = yes-rest f (c f) refl e2
    at false e2 true e4 = mq.fits.apart f e4
    at false e2 false e4 =
        let clash : true ≡ false = sym on ∙ join-on f ∙ ap (λ b. b || on_at f b4) e2 ∙ e4 in absurd (cc)

  fork-writes : Writes b0 b5
  fork-writes = gathers-writes b0 b4 b5 (length b0.written) b0.vars mq.extends.writes.set
      (mq.extends.writes.written
      ∙ ap (λ ns. ns ++ mq.extends.writes.set) (second-written which b0 b1 b2 b3 o mp.extends sw))
      refl refl
      (ap (λ (b : Builder). frames_of b.exits) j.same ∙ mq.extends.writes.frames
      ∙ (switch-writes which b0 b1 b2 b3 o mp.extends sw).frames)
      j.gathers

  join-since : AreSince b5.written b5.vars (frames_of b4.exits)
  join-since = subst (λ fs. AreSince b5.written b5.vars fs) (ap (λ (b : Builder). frames_of b.exits) j.same)
      (since-writes b0 b5 fork-writes fits.since)

  pub join-fits : Fits d b5
  join-fits =
      let g = fits-grown d b4 b5.words j.ways.more mq.fits grown5 j.ways.fit in
      subst (Fits d) (sym j.same) (record {
        words = g.words;
        zero = g.zero;
        one = g.one;
        live = j.ways.name;
        vars = j.ways.names;
        var_count = j.ways.long ∙ mq.fits.var_count;
        arrays = g.arrays;
        array_count = g.array_count;
        lengths = g.lengths;
        exits = g.exits;
        some_exit = g.some_exit;
        require = g.require;
        places = g.places;
        typed = g.typed;
        apart = λ f on. ap (λ (b : Builder). left_from (values_of f b5.words) 0 b.exits) (sym j.same)
            ∙ join-apart f on;
        single = g.single;
        since = join-since;
        written = mq.fits.written;
      })

  pub fork-means : Means d (forked c p q) b0 b5
  fork-means = record {
    extends = record {
      more = more2 ++ ((sw.live.more ++ mq.extends.more) ++ j.ways.more);
      words = grown5 ∙ ap (λ ws. ws ++ j.ways.more) grown4
          ∙ append_assoc b2.words (sw.live.more ++ mq.extends.more) j.ways.more
          ∙ ap (λ ws. ws ++ ((sw.live.more ++ mq.extends.more) ++ j.ways.more)) grown2
          ∙ append_assoc b0.words more2 ((sw.live.more ++ mq.extends.more) ++ j.ways.more);
      labels = labels5;
      writes = fork-writes;
    };
    fits = join-fits;
    log = both_logs;
    good = λ f. mp.good f && mq.good f;
    local = λ f g same.
        ap (λ l. l ++ mq.log f) (mp.local f g (λ k below. same k (omega (arith, le4, le5))))
        ∙ ap (λ l. mp.log g ++ l) (mq.local f g (λ k below. same k (omega (arith, le5))));
    logs = λ f.
        ap (λ (b : Builder). visits_in (values_of f b5.words) b.places) j.same
        ∙ later-visits d b4 b5.words j.ways.more mq.fits grown5 f
        ∙ mq.logs f
        ∙ ap (λ l. l ++ mq.log f) (ap (λ (b : Builder). visits_in (values_of f b3.words) b.places) sw.same
        ∙ later-visits d b2 b3.words sw.live.more mp.fits sw.live.grown f
        ∙ mp.logs f
        ∙ ap (λ l. l ++ mp.log f) (ap (λ (b : Builder). visits_in (values_of f b1.words) b.places) o.same
        ∙ later-visits d b0 b1.words o.live.more fits o.live.grown f))
        ∙ append_assoc (visits f b0) (mp.log f) (mq.log f);
    keeps = λ f.
        ap (λ (b : Builder). are_met (values_of f b5.words) b.require) j.same
        ∙ later-met d b4 b5.words j.ways.more mq.fits grown5 f
        ∙ mq.keeps f
        ∙ ap (λ b. b && mq.good f) (ap (λ (b : Builder). are_met (values_of f b3.words) b.require) sw.same
        ∙ later-met d b2 b3.words sw.live.more mp.fits sw.live.grown f
        ∙ mp.keeps f
        ∙ ap (λ b. b && mp.good f) (ap (λ (b : Builder). are_met (values_of f b1.words) b.require) o.same
        ∙ later-met d b0 b1.words o.live.more fits o.live.grown f))
        ∙ and_again (met f b0) (mp.good f) (mq.good f);
    runs = λ r f rest kept_both. fork-runs r f rest (c f) refl kept_both;
    finds = λ r f cs rest s goes. fork-finds r f cs rest s (c f) refl goes;
  } where
    and_again : (a b c : Bool) → ((a && b) && c) ≡ (a && (b && c))
    and_again true b c = refl
    and_again false b c = refl

-- FACTS where a side begins

pub open-fits : (d : Declared) (which : ℕ) (b0 b1 : Builder) → Fits d b0 → Opens b0 b1 which → Fits d b1
open-fits d which b0 b1 fits o =
    let g = fits-grown d b0 b1.words o.live.more fits o.live.grown o.live.fit in
    subst (Fits d) (sym o.same) (record {
      words = g.words;
      zero = g.zero;
      one = g.one;
      live = o.live.name;
      vars = g.vars;
      var_count = g.var_count;
      arrays = g.arrays;
      array_count = g.array_count;
      lengths = g.lengths;
      exits = g.exits;
      some_exit = g.some_exit;
      require = g.require;
      places = g.places;
      typed = g.typed;
      apart = λ f on. later-rest d b0 b1.words o.live.more fits o.live.grown f
          ∙ fits.apart f (and_parts (holds_in b0.words which f) (on_at f b0)
          (sym (ap is_nonzero (o.live.has f) ∙ either-nonzero (holds_in b0.words which f) (word_in b0.words
          b0.live f)) ∙ on)).1;
      single = g.single;
      since = fits.since;
      written = fits.written;
    })

pub switch-fits : (d : Declared) (which : ℕ) (b0 b1 b2 b3 : Builder) (p : Part) → Fits d b0 →
    which < length b0.words
    → Opens b0 b1 which → Means d p b1 b2 → Switches (length b0.written) b0.live b0.vars b2 b3 which → Fits d b3
switch-fits d which b0 b1 b2 b3 p fits name o mp sw =
    let more2 = o.live.more ++ mp.extends.more in
    let grown2 : b2.words ≡ b0.words ++ more2 = mp.extends.words ∙ ap (λ ws. ws ++ mp.extends.more)
    o.live.grown
    ∙ append_assoc b0.words o.live.more mp.extends.more in
    let le2 : length b0.words ≤ length b2.words = omega (
      arith,
      ap length grown2,
      length-append b0.words
          more2,
    ) in
    let le3 : length b2.words ≤ length b3.words = omega (
      arith,
      ap length sw.live.grown,
      length-append
          b2.words sw.live.more,
    ) in
    let g = fits-grown d b2 b3.words sw.live.more mp.fits sw.live.grown sw.live.fit in
    subst (Fits d) (sym sw.same) (record {
      words = g.words;
      zero = g.zero;
      one = g.one;
      live = sw.live.name;
      vars = names-more (length b0.words) (length b3.words) b0.vars (omega (arith, le2, le3)) fits.vars;
      var_count = fits.var_count;
      arrays = g.arrays;
      array_count = g.array_count;
      lengths = g.lengths;
      exits = g.exits;
      some_exit = g.some_exit;
      require = g.require;
      places = g.places;
      typed = g.typed;
      apart = λ f on. switch-apart f more2 grown2 on;
      single = g.single;
      since = switch-since;
      written = mp.fits.written;
    }) where
      switch-since : AreSince (take (length b0.written) b2.written) b0.vars (frames_of b2.exits)
      switch-since = subst (λ (b : Builder). AreSince b.written b.vars (frames_of b.exits)) sw.same
          (since-writes b0 b3 (switch-writes which b0 b1 b2 b3 o mp.extends sw) fits.since)

      switch-apart : (f : Assignment) (more2 : List WordOp) → b2.words ≡ b0.words ++ more2
          → is_live (values_of f b3.words) (record b2 {
            words = b3.words;
            live = b3.live;
            vars = b0.vars;
            written = take (length b0.written) b2.written;
          })
          ≡ true
          → left_from (values_of f b3.words) 0 b2.exits ≡ idle
      switch-apart f more2 grown2 on =
          let was : (not (holds_in b0.words which f) && on_at f b0) ≡ true =
          sym (ap is_nonzero (sw.live.has f)
          ∙ ap is_nonzero (ap (λ z. cond (is_nonzero z) (pos 0) (word_in b2.words b0.live f))
          (later-word d b0 b2.words more2 fits grown2 f which name)
          ∙ ap (λ z. cond (holds_in b0.words which f) (pos 0) z) (later-word d b0 b2.words more2 fits
          grown2 f b0.live fits.live))
          ∙ other-nonzero (holds_in b0.words which f) (word_in b0.words b0.live f)) ∙ on in
          let both = and_parts (not (holds_in b0.words which f)) (on_at f b0) was in
          let is : holds_in b0.words which f ≡ false = not-true (holds_in b0.words which f) both.0 in
          let live1 : is_live (values_of f b1.words) b1 ≡ false =
          ap is_nonzero (o.live.has f) ∙ either-nonzero (holds_in b0.words which f) (word_in b0.words
          b0.live f)
          ∙ ap (λ b. b && on_at f b0) is in
          let off : is_running (snapshot f b1).status ≡ false = live-running (values_of f b1.words) b1 ∙
          live1 in
          let same = (quiet d p b1 b2 mp f off).2 in
          let off2 : on_at f b2 ≡ false = sym (live-running (values_of f b2.words) b2)
          ∙ ap (λ (s : Snapshot). is_running s.status) same ∙ off in
          let first : (snapshot f b1).status ≡ rest_at f b1 =
          ap (λ b. cond b (running (vars_at f b1)) (rest_at f b1)) live1 in
          later-rest d b2 b3.words sw.live.more mp.fits sw.live.grown f
          ∙ off-rest (on_at f b2) (vars_at f b2) (rest_at f b2) (rest_at f b1) off2 (ap (λ (s : Snapshot).
          s.status) same ∙ first)
          ∙ ap (λ (b : Builder). left_from (values_of f b1.words) 0 b.exits) o.same
          ∙ later-rest d b0 b1.words o.live.more fits o.live.grown f ∙ fits.apart f both.1
