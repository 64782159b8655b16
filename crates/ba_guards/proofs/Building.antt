-- What the calls of the builder leave, from the words that they make.
use Rattle.std.proofs.Common.{not, ◌≡◌, ℕ, zero, suc, ◌<◌, ◌≤◌, ◌==◌, pos, Bool, true, false, ◌&&◌, cond, Some, None, List, [], ◌∷◌, ◌++◌, length, get_or, drop, take, slice_get, refl, sym, ◌∙◌, ap, subst, ◌||◌, arith, append_assoc, append-nil, length-append}
use Rattle.std.proofs.lemmas.Bool.{and_from, and_parts, eqb-true, not-true, cond-true, cond-false}
use Rattle.std.proofs.lemmas.List.Folds.{list_all-append}
use Rattle.std.proofs.lemmas.List.{length-map}
use Rattle.std.proofs.lemmas.Option.{slice_get-get_or, slice_get_within}
use Rattle.std.specs.List.{list_all}
use Rattle.std.specs.Prelude.{slice_set}
use Rattle.std.proofs.Math.Bool.{and-true}
use Rattle.ba_code.specs.Facts.{Declared}
use Rattle.ba_guards.proofs.Emitting.{emits-as}
use Rattle.ba_guards.proofs.Exiting.{exit-within}
use Rattle.ba_guards.proofs.Forks.{later-met, later-visits, or-nonzero}
use Rattle.ba_guards.proofs.Growing.{fits-grown, same-grown, snapshot-kept, variables-same, word-later}
use Rattle.ba_guards.proofs.Leaves.{fits-require}
use Rattle.ba_guards.proofs.Writing.{among-parts, exit-since, gathered-by, last-found, ways-agree, writes-none}
use Rattle.ba_guards.specs.Written.{AgreeBut, is_among}
use Rattle.ba_guards.specs.Continuing.{exit_of, labels_of}
use Rattle.ba_guards.specs.Making.{AreSides, Closes, Demands, EitherWay, Emits, Fits, Gathers, Leaving, Merges, Opens, Switches, fits_exit, Joins, holds_in, word_in}
use Rattle.ba_guards.specs.Reading.{is_live, met, snapshot, variables_at}
use Rattle.ba_guards.specs.declared.builder.Builder.{Builder}
use Rattle.ba_guards.specs.declared.builder.Sides.{Sides}
use Rattle.ba_guards.specs.declared.exits.Exit.{Exit}
use Rattle.ba_wordlist.proofs.Values.{names-more, of_name, to_name, value-const}
use Rattle.ba_wordlist.specs.Facts.{are_names, are_words, is_name}
use Rattle.ba_wordlist.specs.Meaning.{Assignment, is_nonzero, value_at, values_of}
use Rattle.ba_wordlist.specs.declared.words.WordOp.{WordOp}
use Rattle.ba_wordlist.specs.declared.words.WordOp.TheVariants.{Const}

pub zero-below : (d : Declared) (b : Builder) → Fits d b → 0 < length b.words
zero-below d b fits = slice_get_within b.words 0 (Const (pos 0)) fits.zero

pub one-below : (d : Declared) (b : Builder) → Fits d b → 1 < length b.words
one-below d b fits = slice_get_within b.words 1 (Const (pos 1)) fits.one

pub zero-word : (d : Declared) (b : Builder) → Fits d b → (f : Assignment) → word_in b.words 0 f ≡ pos 0
zero-word d b fits f = value-const f b.words 0 (pos 0) fits.zero

pub one-word : (d : Declared) (b : Builder) → Fits d b → (f : Assignment) → word_in b.words 1 f ≡ pos 1
one-word d b fits f = value-const f b.words 1 (pos 1) fits.one

pub opens-by : (d : Declared) (old new : Builder) (which : ℕ) → Fits d old → which < length old.words
    → new ≡ record old { words = new.words; live = new.live }
    → (are_words old.words ≡ true → which < length old.words → old.live < length old.words →
    0 < length old.words
    → Emits old.words new.words new.live (λ f. cond (is_nonzero (word_in old.words which f)) (word_in
    old.words old.live f) (word_in old.words 0 f)))
    → Opens old new which
opens-by d old new which fits below same e = record {
  same = same;
  live = emits-as old.words new.words new.live
      (λ f. cond (is_nonzero (word_in old.words which f)) (word_in old.words old.live f) (word_in old.words
      0 f))
      (λ f. cond (holds_in old.words which f) (word_in old.words old.live f) (pos 0))
      (e fits.words below fits.live (zero-below d old fits))
      (λ f. ap (λ z. cond (holds_in old.words which f) (word_in old.words old.live f) z) (zero-word d old
      fits f));
}

pub switches-by : (d : Declared) (old new : Builder) (which since live : ℕ) (vars : List ℕ) → Fits d old →
    which < length old.words
    → live < length old.words → new ≡ record old {
      words = new.words;
      live = new.live;
      vars = vars;
      written = take since old.written;
    }
    → (are_words old.words ≡ true → which < length old.words → 0 < length old.words → live < length old.words
    → Emits old.words new.words new.live (λ f. cond (is_nonzero (word_in old.words which f)) (word_in
    old.words 0 f) (word_in old.words live f)))
    → Switches since live vars old new which
switches-by d old new which since live vars fits below live_below same e = record {
  same = same;
  live = emits-as old.words new.words new.live
      (λ f. cond (is_nonzero (word_in old.words which f)) (word_in old.words 0 f) (word_in old.words live f))
      (λ f. cond (holds_in old.words which f) (pos 0) (word_in old.words live f))
      (e fits.words below (zero-below d old fits) live_below)
      (λ f. ap (λ z. cond (holds_in old.words which f) z (word_in old.words live f)) (zero-word d old fits
      f));
}

-- WHERE THE RUN STANDS after two ways

module _ (old new : List WordOp) (count : ℕ) (live1 : ℕ) (vars1 : List ℕ) (live2 : ℕ) (vars2 : List ℕ) where
  -- the run takes no first way
  pub either-second : new ≡ old → are_words old ≡ true → live2 < length old →
      are_names (length old) vars2 ≡ true
      → length vars2 ≡ count → ((f : Assignment) → holds_in old live1 f ≡ false)
      → EitherWay old new count live1 vars1 live2 vars2 live2 vars2
  either-second same fit name names long never = record {
    more = [];
    grown = same ∙ sym (append-nil old);
    fit = ap are_words same ∙ fit;
    name = omega (arith, name, ap length same);
    names = ap (λ ws. are_names (length ws) vars2) same ∙ names;
    long = long;
    on = λ f. ap (λ ws. holds_in ws live2 f) same ∙ sym (ap (λ b. b || holds_in old live2 f) (never f));
    first = λ f on. absurd (let clash : true ≡ false = sym on ∙ never f in cc);
    second = λ f off on. ap (λ ws. variables_at (values_of f ws) vars2) same;
  }

  or-no : (a b : Bool) → b ≡ false → (a || b) ≡ a
  or-no true b h = refl
  or-no false b h = h

  -- the run takes no second way
  pub either-first : new ≡ old → are_words old ≡ true → live1 < length old →
      are_names (length old) vars1 ≡ true
      → length vars1 ≡ count → ((f : Assignment) → holds_in old live2 f ≡ false)
      → EitherWay old new count live1 vars1 live2 vars2 live1 vars1
  either-first same fit name names long never = record {
    more = [];
    grown = same ∙ sym (append-nil old);
    fit = ap are_words same ∙ fit;
    name = omega (arith, name, ap length same);
    names = ap (λ ws. are_names (length ws) vars1) same ∙ names;
    long = long;
    on = λ f. ap (λ ws. holds_in ws live1 f) same ∙ sym (or-no (holds_in old live1 f) (holds_in old live2
        f) (never f));
    first = λ f on. ap (λ ws. variables_at (values_of f ws) vars1) same;
    second = λ f off on. absurd (let clash : true ≡ false = sym on ∙ never f in cc);
  }

  pub either-merged : (middle : List WordOp) (live : ℕ) (vars : List ℕ) →
      slice_get old 1 ≡ Some (Const (pos 1))
      → live1 < length old → live2 < length old
      → Merges old middle count (holds_in old live1) vars1 vars2 vars
      → (are_words middle ≡ true → live1 < length middle → 1 < length middle → live2 < length middle
      → Emits middle new live (λ f. cond (is_nonzero (word_in middle live1 f)) (word_in middle 1 f)
      (word_in middle live2 f)))
      → EitherWay old new count live1 vars1 live2 vars2 live vars
  either-merged middle live vars one below1 below2 m emits =
      let le : length old ≤ length middle = omega (arith, ap length m.grown, length-append old m.more) in
      let one_below = slice_get_within old 1 (Const (pos 1)) one in
      let e = emits m.fit (omega (arith, below1, le)) (omega (arith, one_below, le)) (omega (
        arith,
        below2,
        le,
      )) in
      let later : (f : Assignment) →
      variables_at (values_of f new) vars ≡ variables_at (values_of f middle) vars =
      λ f. variables-same (length middle) (values_of f new) (values_of f middle) (same-grown f middle new
      e.more e.grown) vars
      (omega (arith, below1, le)) m.names in
      record {
        more = m.more ++ e.more;
        grown = e.grown ∙ ap (λ ws. ws ++ e.more) m.grown ∙ append_assoc old m.more e.more;
        fit = e.fit;
        name = e.name;
        names = names-more (length middle) (length new) vars
            (omega (arith, ap length e.grown, length-append middle e.more)) m.names;
        long = m.long;
        on = λ f. ap is_nonzero (e.has f
            ∙ ap (λ z. cond (is_nonzero z) (word_in middle 1 f) (word_in middle live2 f))
            (word-later f old middle m.more live1 m.grown below1)
            ∙ ap (λ z. cond (holds_in old live1 f) z (word_in middle live2 f))
            (word-later f old middle m.more 1 m.grown one_below ∙ value-const f old 1 (pos 1) one)
            ∙ ap (λ z. cond (holds_in old live1 f) (pos 1) z) (word-later f old middle m.more live2
            m.grown below2))
            ∙ or-nonzero (holds_in old live1 f) (word_in old live2 f);
        first = λ f on. later f ∙ m.has f
            ∙ cond-true (holds_in old live1 f) (variables_at (values_of f old) vars1) (variables_at
            (values_of f old) vars2) on;
        second = λ f off on. later f ∙ m.has f
            ∙ cond-false (holds_in old live1 f) (variables_at (values_of f old) vars1) (variables_at
            (values_of f old) vars2) off;
      }

-- both sides of a branch end where they begin
both-sides : (which live : Bool) → live ≡ ((which && live) || (not which && live))
both-sides true true = refl
both-sides true false = refl
both-sides false live = refl

pub sides-whole : (d : Declared) (old : Builder) (ws : List WordOp) (vars : List ℕ) (s : Sides) → Fits d old
    → AreSides old.words s → s.after.live ≡ s.first → old.live ≡ s.second
    → Merges old.words ws (length old.vars) (holds_in old.words s.which) s.after.vars old.vars vars
    → EitherWay old.words ws (length old.vars) s.after.live s.after.vars old.live old.vars s.live vars
sides-whole d old ws vars s fits sides one two m = record {
  more = m.more;
  grown = m.grown;
  fit = m.fit;
  name = omega (arith, sides.came, ap length m.grown, length-append old.words m.more);
  names = m.names;
  long = m.long;
  on = λ f. ap is_nonzero (word-later f old.words ws m.more s.live m.grown sides.came)
      ∙ both-sides (holds_in old.words s.which f) (holds_in old.words s.live f)
      ∙ ap (λ b. b || (not (holds_in old.words s.which f) && holds_in old.words s.live f)) (sym (first f))
      ∙ ap (λ b. holds_in old.words s.after.live f || b) (sym (second f));
  first = λ f on. m.has f ∙ cond-true (holds_in old.words s.which f) (variables_at (values_of f old.words)
      s.after.vars)
      (variables_at (values_of f old.words) old.vars)
      (and_parts (holds_in old.words s.which f) (holds_in old.words s.live f) (sym (first f) ∙ on)).0;
  second = λ f off on. m.has f ∙ cond-false (holds_in old.words s.which f) (variables_at (values_of f
      old.words) s.after.vars)
      (variables_at (values_of f old.words) old.vars)
      (not-true (holds_in old.words s.which f)
      (and_parts (not (holds_in old.words s.which f)) (holds_in old.words s.live f) (sym (second f) ∙
      on)).0);
} where
  first : (f : Assignment) →
      holds_in old.words s.after.live f ≡ (holds_in old.words s.which f && holds_in old.words s.live f)
  first f = ap (λ w. holds_in old.words w f) one ∙ sides.first f

  second : (f : Assignment) →
      holds_in old.words old.live f ≡ (not (holds_in old.words s.which f) && holds_in old.words s.live f)
  second f = ap (λ w. holds_in old.words w f) two ∙ sides.second f

pub joined-by : (d : Declared) (old mid new : Builder) (s : Sides) (numbers : List ℕ) → Fits d old
    → s.after.live < length old.words → are_names (length old.words) s.after.vars ≡ true
    → length s.after.vars ≡ length old.vars → AreSides old.words s
    → AgreeBut s.written s.before s.after.vars → AgreeBut (drop s.since old.written) s.before old.vars
    → ((n : ℕ) → is_among n numbers ≡ is_among n (drop s.since old.written ++ s.written))
    → mid ≡ record old { words = mid.words; live = mid.live; vars = mid.vars }
    → (AgreeBut numbers s.after.vars old.vars → AgreeBut numbers old.vars mid.vars)
    → ((d : Declared) → Fits d old → s.after.live < length old.words
    → are_names (length old.words) s.after.vars ≡ true → length s.after.vars ≡ length old.vars
    → AreSides old.words s → AgreeBut numbers s.after.vars old.vars
    → EitherWay old.words mid.words (length old.vars) s.after.live s.after.vars old.live old.vars
    mid.live mid.vars)
    → new ≡ record mid { written = new.written }
    → (AgreeBut numbers s.before mid.vars → Gathers s.since s.before mid new)
    → Joins s.since s.before s.after.live s.after.vars old new
joined-by d old mid new s numbers fits below names long sides there here among same kept ways after gathers =
    subst (Joins s.since s.before s.after.live s.after.vars old) (sym after) (record {
      same = ap (λ (b : Builder). record b { written = new.written }) same;
      gathers = gathered-by old mid new s.since s.before s.after.vars s.written numbers among there here kept
          (ap (λ (b : Builder). b.written) same) after gathers;
      ways = ways d fits below names long sides
          (ways-agree old mid new s.since s.before s.after.vars s.written numbers among there here);
    })

exit-last : (count vars : ℕ) (es : List Exit) (e : Exit) →
    list_all (fits_exit count vars) (es ++ e ∷ []) ≡ true
    → fits_exit count vars e ≡ true
exit-last count vars es e h =
    let both = and_parts (list_all (fits_exit count vars) es) (list_all (fits_exit count vars) (e ∷ []))
    (sym (list_all-append (fits_exit count vars) es (e ∷ [])) ∙ h) in
    (and_parts (fits_exit count vars e) true both.1).0

-- the names of an exit
pub exit-names : (count vars : ℕ) (e : Exit) → fits_exit count vars e ≡ true
    → (e.live < count) × (are_names count e.vars ≡ true) × (length e.vars ≡ vars)
exit-names count vars e h =
    let all = and_parts (is_name count e.live && are_names count e.vars) (length e.vars == vars) h in
    let two = and_parts (is_name count e.live) (are_names count e.vars) all.0 in
    (of_name count e.live two.0, two.1, eqb-true (length e.vars) vars all.1)

pub closes-by : (d : Declared) (old mid new : Builder) (exit : Exit) (numbers : List ℕ) → Fits d old
    → old.exits ≡ mid.exits ++ exit ∷ []
    → mid ≡ record old { words = mid.words; live = mid.live; vars = mid.vars; exits = mid.exits }
    → ((n : ℕ) → is_among n numbers ≡ is_among n (drop exit.since old.written ++ exit.written))
    → (AgreeBut numbers exit.vars old.vars → AgreeBut numbers old.vars mid.vars)
    → (are_words old.words ≡ true → slice_get old.words 1 ≡ Some (Const (pos 1)) →
    exit.live < length old.words
    → are_names (length old.words) exit.vars ≡ true → old.live < length old.words →
    are_names (length old.words) old.vars ≡ true
    → length exit.vars ≡ length old.vars → AgreeBut numbers exit.vars old.vars
    → EitherWay old.words mid.words (length old.vars) exit.live exit.vars old.live old.vars mid.live mid.vars)
    → new ≡ record mid { written = new.written }
    → (AgreeBut numbers exit.base mid.vars → Gathers exit.since exit.base mid new)
    → Closes old new exit
closes-by d old mid new exit numbers fits popped same among kept ways after gathers =
    let found = ap (λ es. slice_get es (length mid.exits)) popped ∙ last-found mid.exits exit in
    let here = exit-since old.written old.vars old.exits (length mid.exits) exit fits.since found in
    let there = fits.written (length mid.exits) exit found in
    let names = exit-names (length old.words) d.vars exit (exit-last (length old.words) d.vars mid.exits exit
    (ap (list_all (fits_exit (length old.words) d.vars)) (sym popped) ∙ fits.exits)) in
    subst (λ (b : Builder). Closes old b exit) (sym after) (record {
      same = ap (λ (b : Builder). record b { written = new.written }) same;
      gathers = gathered-by old mid new exit.since exit.base exit.vars exit.written numbers among there here
          kept (ap (λ (b : Builder). b.written) same) after gathers;
      exits = popped;
      ways = ways fits.words fits.one names.0 names.1 fits.live fits.vars (names.2 ∙ sym fits.var_count)
          (ways-agree old mid new exit.since exit.base exit.vars exit.written numbers among there here);
    })

exit-at : (count vars : ℕ) (es : List Exit) (i : ℕ) (x : Exit) → list_all (fits_exit count vars) es ≡ true
    → slice_get es i ≡ Some x → fits_exit count vars x ≡ true
exit-at count vars [] i x h found = absurd (let f : None ≡ Some x = found in cc)
exit-at count vars (y ∷ es) zero x h found =
    let e : y ≡ x = cc in
    subst (λ y. fits_exit count vars y ≡ true) e (and_parts (fits_exit count vars y) (list_all (fits_exit
    count vars) es) h).0
exit-at count vars (y ∷ es) (suc i) x h found =
    exit-at count vars es i x (and_parts (fits_exit count vars y) (list_all (fits_exit count vars) es) h).1
    found

pub leaving-by : (d : Declared) (old new : Builder) (label : ℕ) (exit : Exit) (live : ℕ)
    (copied vars numbers written : List ℕ) → Fits d old
    → slice_get old.exits (exit_of (labels_of old.exits) label) ≡ Some exit
    → new ≡ record old {
      words = new.words;
      live = 0;
      exits = slice_set old.exits (exit_of (labels_of old.exits) label) (record exit {
        live = live;
        vars = vars;
        written = written;
      });
    }
    → copied ≡ exit.vars
    → ((n : ℕ) → is_among n numbers ≡ is_among n (drop exit.since old.written ++ exit.written))
    → (AgreeBut numbers old.vars copied → AgreeBut numbers copied vars)
    → (are_words old.words ≡ true → slice_get old.words 1 ≡ Some (Const (pos 1)) → old.live < length old.words
    → are_names (length old.words) old.vars ≡ true → exit.live < length old.words →
    are_names (length old.words) copied ≡ true
    → length old.vars ≡ length copied → AgreeBut numbers old.vars copied
    → EitherWay old.words new.words (length copied) old.live old.vars exit.live copied live vars)
    → (AgreeBut numbers exit.base vars → AgreeBut written exit.base vars)
    → Leaving old new label
leaving-by d old new label exit live copied vars numbers written fits found same copy among kept ways
    changed =
    let at = exit_of (labels_of old.exits) label in
    let here = exit-since old.written old.vars old.exits at exit fits.since found in
    let there = fits.written at exit found in
    let both : AgreeBut numbers exit.vars old.vars =
    ways-agree old old old exit.since exit.base exit.vars exit.written numbers among there here in
    let agrees : AgreeBut numbers old.vars copied = λ k h. sym (both k h)
    ∙ ap (λ vs. get_or vs k 0) (sym copy) in
    let names = exit-names (length old.words) d.vars exit
    (exit-at (length old.words) d.vars old.exits at exit fits.exits found) in
    record {
      exit = exit;
      found = found;
      new_live = live;
      new_vars = vars;
      new_written = written;
      same = same;
      kept = changed (λ k h.
          there k (among-parts k (drop exit.since old.written) exit.written (sym (among k) ∙ h)).1
          ∙ ap (λ vs. get_or vs k 0) (sym copy) ∙ kept agrees k h);
      ways = subst (λ vs. EitherWay old.words new.words (length vs) old.live old.vars exit.live vs live
          vars) copy (ways fits.words fits.one fits.live fits.vars names.0
          (ap (are_names (length old.words)) copy ∙ names.1)
          (fits.var_count ∙ sym names.2 ∙ ap length (sym copy)) agrees);
    }

-- REQUIREMENTS

module _ (d : Declared) (old : Builder) (condition w : ℕ) (ws : List WordOp) (fits : Fits d old) (below :
    condition < length old.words)
    (emits : are_words old.words ≡ true → old.live < length old.words → condition < length old.words →
    1 < length old.words
    → Emits old.words ws w (λ f. cond (is_nonzero (word_in old.words old.live f)) (word_in old.words
    condition f) (word_in old.words 1 f)))
  where
    e : Emits old.words ws w (λ f. cond (is_nonzero (word_in old.words old.live f)) (word_in old.words
        condition f) (word_in old.words 1 f))
    e = emits fits.words fits.live below (one-below d old fits)

    abbrev with_words : Builder
    with_words = record old { words = ws }

    fits-here : Fits d with_words
    fits-here = fits-grown d old ws e.more fits e.grown e.fit

    on-good : (f : Assignment) → is_live (values_of f old.words) old ≡ true →
        is_nonzero (word_in ws w f) ≡ is_nonzero (word_in old.words condition f)
    on-good f on = ap is_nonzero (e.has f ∙ ap (λ b. cond b (word_in old.words condition f) (word_in
        old.words 1 f)) on)

    off-good : (f : Assignment) → is_live (values_of f old.words) old ≡ false →
        is_nonzero (word_in ws w f) ≡ true
    off-good f off = ap is_nonzero (e.has f ∙ ap (λ b. cond b (word_in old.words condition f) (word_in
        old.words 1 f)) off
        ∙ one-word d old fits f)

    stands-here : (f : Assignment) → snapshot f with_words ≡ snapshot f old
    stands-here f = snapshot-kept d old fits (values_of f ws) f (same-grown f old.words ws e.more e.grown)

    pub demands-met : ((f : Assignment) → is_nonzero (word_in ws w f) ≡ true) →
        Demands d old with_words (word_in old.words condition)
    demands-met always = record {
      extends = record {
        more = e.more;
        words = e.grown;
        labels = refl;
        writes = writes-none old with_words refl refl refl;
      };
      same = refl;
      fits = fits-here;
      good = λ f. is_nonzero (word_in ws w f);
      stands = stands-here;
      logs = later-visits d old ws e.more fits e.grown;
      keeps = λ f. later-met d old ws e.more fits e.grown f ∙ sym (and-true (met f old)) ∙ ap (λ b. met f
          old && b) (sym (always f));
      on = on-good;
      off = off-good;
    }

    pub demands-more : Demands d old (record old { words = ws; require = old.require ++ w ∷ [] }) (word_in
        old.words condition)
    demands-more = record {
      extends = record {
        more = e.more;
        words = e.grown;
        labels = refl;
        writes = writes-none old (record old { words = ws; require = old.require ++ w ∷ [] }) refl refl refl;
      };
      same = refl;
      fits = fits-require d with_words (old.require ++ w ∷ []) fits-here
          (list_all-append (is_name (length ws)) old.require (w ∷ [])
          ∙ and_from (are_names (length ws) old.require) (are_names (length ws) (w ∷ [])) fits-here.require
          (and_from (is_name (length ws) w) true (to_name (length ws) w e.name) refl));
      good = λ f. is_nonzero (word_in ws w f);
      stands = stands-here;
      logs = later-visits d old ws e.more fits e.grown;
      keeps = λ f.
          list_all-append (λ v. is_nonzero (value_at (values_of f ws) v)) old.require (w ∷ [])
          ∙ ap (λ b. b && (is_nonzero (word_in ws w f) && true)) (later-met d old ws e.more fits e.grown f)
          ∙ ap (λ b. met f old && b) (and-true (is_nonzero (word_in ws w f)));
      on = on-good;
      off = off-good;
    }

-- the exit of a label is there
pub leaving-some : (d : Declared) (b : Builder) (label : ℕ) → Fits d b
    → slice_get b.exits (exit_of (labels_of b.exits) label) ≡ None → ⊥
leaving-some d b label fits none =
    let long : length (labels_of b.exits) ≡ length b.exits = length-map b.exits (λ (e : Exit). e.label) in
    let within = exit-within (labels_of b.exits) label (omega (arith, long, fits.some_exit)) in
    let e : Exit = record { label = 0; since = 0; base = []; live = 0; vars = []; written = [] } in
    let found = slice_get-get_or b.exits (exit_of (labels_of b.exits) label) e (omega (
      arith,
      within,
      long,
    )) in
    (let clash : None ≡ Some (get_or b.exits (exit_of (labels_of b.exits) label) e) = sym none ∙ found in cc)
