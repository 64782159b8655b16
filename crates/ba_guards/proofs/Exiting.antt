-- The exits of blocks.
use Rattle.std.proofs.Common.{◌≡◌, ℕ, zero, suc, ◌+◌, ◌<◌, ◌==◌, ℤ, Bool, true, false, not, ◌&&◌, cond, Some, List, [], ◌∷◌, ◌++◌, length, slice_get, refl, sym, ◌∙◌, ap, arith}
use Rattle.std.proofs.lemmas.Bool.{and_from, and_parts, not-true}
use Rattle.std.specs.Prelude.{slice_set}
use Rattle.ba_guards.specs.Continuing.{exit_from, exit_of, labels_of}
use Rattle.ba_guards.specs.Making.{are_off, is_single}
use Rattle.ba_guards.specs.Reading.{Status, left_from, variables_at}
use Rattle.ba_guards.specs.Reading.Status.{idle, running, left}
use Rattle.ba_guards.specs.declared.exits.Exit.{Exit}
use Rattle.ba_wordlist.specs.Meaning.{is_nonzero, value_at}

-- THE EXIT OF A LABEL

exit-below : (k found label : ℕ) (labels : List ℕ) → found < k + length labels →
    exit_from k found label labels < k + length labels
exit-below k found label [] below = below
exit-below k found label (x ∷ labels) below =
    let at : exit_from (k + 1) (cond (label == x) k found) label labels < (k + 1) + length labels =
    exit-below (k + 1) (cond (label == x) k found) label labels (either (label == x)) in omega (arith, at)
  where
    either : (b : Bool) → cond b k found < (k + 1) + length labels
    either true = omega arith
    either false = omega (arith, below)

pub exit-within : (labels : List ℕ) (label : ℕ) → 0 < length labels → exit_of labels label < length labels
exit-within labels label some =
    let at = exit-below 0 0 label labels (omega (arith, some)) in omega (arith, at)

exit-append : (k found label : ℕ) (labels : List ℕ) (x : ℕ)
    → exit_from k found label (labels ++ x ∷ []) ≡ cond (label == x) (k + length labels) (exit_from k found
    label labels)
exit-append k found label [] x = ap (λ n. cond (label == x) n found) (let e : k ≡ k + 0 = omega arith in e)
exit-append k found label (y ∷ labels) x =
    exit-append (k + 1) (cond (label == y) k found) label labels x
    ∙ ap (λ n. cond (label == x) n (exit_from (k + 1) (cond (label == y) k found) label labels))
    (let e : (k + 1) + length labels ≡ k + suc (length labels) = omega arith in e)

pub exit-more : (labels : List ℕ) (x label : ℕ)
    → exit_of (labels ++ x ∷ []) label ≡ cond (label == x) (length labels) (exit_of labels label)
exit-more labels x label = exit-append 0 0 label labels x
    ∙ ap (λ n. cond (label == x) n (exit_of labels label)) (let e : 0 + length labels ≡ length labels =
    omega arith in e)

-- WHICH EXIT IS TAKEN

-- the one, or if that is none the other
abbrev pub or_left : Status → Status → Status
or_left idle other = other
or_left (running m) other = running m
or_left (left k m) other = left k m

module _ (vs : List (List ℤ)) where
  abbrev on : Exit → Bool
  on e = is_nonzero (value_at vs e.live)

  abbrev vars_of : Exit → ℕ → ℤ
  vars_of e = variables_at vs e.vars

  left-not-idle : (b : Bool) (k : ℕ) (m : ℕ → ℤ) (rest : Status) → cond b (left k m) rest ≡ idle →
      (b ≡ false) × (rest ≡ idle)
  left-not-idle true k m rest is = absurd (let f : left k m ≡ idle = is in cc)
  left-not-idle false k m rest is = (refl, is)

  -- no exit is taken
  pub idle-off : (k : ℕ) (es : List Exit) → left_from vs k es ≡ idle → are_off vs es ≡ true
  idle-off k [] is = refl
  idle-off k (e ∷ es) is =
      let both = left-not-idle (on e) k (vars_of e) (left_from vs (k + 1) es) is in
      and_from (not (on e)) (are_off vs es) (ap not both.0) (idle-off (k + 1) es both.1)

  pub off-idle : (k : ℕ) (es : List Exit) → are_off vs es ≡ true → left_from vs k es ≡ idle
  off-idle k [] h = refl
  off-idle k (e ∷ es) h =
      let both = and_parts (not (on e)) (are_off vs es) h in
      ap (λ b. cond b (left k (vars_of e)) (left_from vs (k + 1) es)) (not-true (on e) both.0) ∙ off-idle
      (k + 1) es both.1

  off-single : (es : List Exit) → are_off vs es ≡ true → is_single vs es ≡ true
  off-single [] h = refl
  off-single (e ∷ es) h =
      let both = and_parts (not (on e)) (are_off vs es) h in
      ap (λ b. cond b (are_off vs es) (is_single vs es)) (not-true (on e) both.0) ∙ off-single es both.1

  -- the taken exit is one of them
  pub left-within : (k : ℕ) (es : List Exit) (i : ℕ) (m : ℕ → ℤ) → left_from vs k es ≡ left i m →
      i < k + length es
  left-within k [] i m is = absurd (let f : idle ≡ left i m = is in cc)
  left-within k (e ∷ es) i m is = at (on e) is (left-within (k + 1) es i m) where
    at : (b : Bool) → cond b (left k (vars_of e)) (left_from vs (k + 1) es) ≡ left i m
        → (left_from vs (k + 1) es ≡ left i m → i < (k + 1) + length es) → i < k + length (e ∷ es)
    at true is later = let same : k ≡ i = cc in omega (arith, same)
    at false is later = let h = later is in omega (arith, h)

  pub left-append : (k : ℕ) (es : List Exit) (e : Exit) → left_from vs k (es ++ e ∷ [])
      ≡ or_left (left_from vs k es) (cond (on e) (left (k + length es) (vars_of e)) idle)
  left-append k [] e = ap (λ n. cond (on e) (left n (vars_of e)) idle) (let h : k ≡ k + 0 = omega arith in h)
  left-append k (x ∷ es) e =
      ap (λ t. cond (on x) (left k (vars_of x)) t) (left-append (k + 1) es e)
      ∙ ap (λ n. cond (on x) (left k (vars_of x)) (or_left (left_from vs (k + 1) es) (cond (on e) (left n
      (vars_of e)) idle)))
      (let h : (k + 1) + length es ≡ k + suc (length es) = omega arith in h)
      ∙ at (on x) (left_from vs (k + 1) es) (cond (on e) (left (k + suc (length es)) (vars_of e)) idle) where
        at : (b : Bool) (t u : Status) →
            cond b (left k (vars_of x)) (or_left t u) ≡ or_left (cond b (left k (vars_of x)) t) u
        at true t u = refl
        at false t u = refl

  pub single-more : (es : List Exit) (e : Exit) → is_single vs es ≡ true → on e ≡ false →
      is_single vs (es ++ e ∷ []) ≡ true
  single-more [] e h off = at (on e) where
    at : (b : Bool) → cond b true true ≡ true
    at true = refl
    at false = refl
  single-more (x ∷ es) e h off = at (on x) h (off-more es) (λ h. single-more es e h off) where
    off-more : (es : List Exit) → are_off vs es ≡ true → are_off vs (es ++ e ∷ []) ≡ true
    off-more [] h = and_from (not (on e)) true (ap not off) refl
    off-more (y ∷ es) h =
        let both = and_parts (not (on y)) (are_off vs es) h in
        and_from (not (on y)) (are_off vs (es ++ e ∷ [])) both.0 (off-more es both.1)

    at : (b : Bool) → cond b (are_off vs es) (is_single vs es) ≡ true → (are_off vs es ≡ true →
        are_off vs (es ++ e ∷ []) ≡ true)
        → (is_single vs es ≡ true → is_single vs (es ++ e ∷ []) ≡ true)
        → cond b (are_off vs (es ++ e ∷ [])) (is_single vs (es ++ e ∷ [])) ≡ true
    at true h f g = f h
    at false h f g = g h

  off-init : (es : List Exit) (e : Exit) → are_off vs (es ++ e ∷ []) ≡ true →
      (are_off vs es ≡ true) × (on e ≡ false)
  off-init [] e h = (refl, not-true (on e) (and_parts (not (on e)) true h).0)
  off-init (x ∷ es) e h =
      let both = and_parts (not (on x)) (are_off vs (es ++ e ∷ [])) h in
      let rest = off-init es e both.1 in
      (and_from (not (on x)) (are_off vs es) both.0 rest.0, rest.1)

  -- the exits around the last one
  pub single-init : (es : List Exit) (e : Exit) → is_single vs (es ++ e ∷ []) ≡ true
      → (is_single vs es ≡ true) × (on e ≡ true → are_off vs es ≡ true)
  single-init [] e h = (refl, λ is. refl)
  single-init (x ∷ es) e h = at (on x) h (off-init es e) (single-init es e) where
    at : (b : Bool) → cond b (are_off vs (es ++ e ∷ [])) (is_single vs (es ++ e ∷ [])) ≡ true
        → (are_off vs (es ++ e ∷ []) ≡ true → (are_off vs es ≡ true) × (on e ≡ false))
        → (is_single vs (es ++ e ∷ []) ≡ true → (is_single vs es ≡ true) × (on e ≡ true →
        are_off vs es ≡ true))
        → (cond b (are_off vs es) (is_single vs es) ≡ true) × (on e ≡ true → (not b && are_off vs es) ≡ true)
    at true h f g = ((f h).0, λ is. absurd (let clash : true ≡ false = sym is ∙ (f h).1 in cc))
    at false h f g = g h

  -- AN EXIT IS TAKEN

  pub set-left : (k : ℕ) (es : List Exit) (i : ℕ) (e : Exit) → i < length es → left_from vs k es ≡ idle →
      on e ≡ true
      → left_from vs k (slice_set es i e) ≡ left (k + i) (vars_of e)
  set-left k [] i e within none taken = absurd (omega (arith, within))
  set-left k (x ∷ es) zero e within none taken =
      ap (λ b. cond b (left k (vars_of e)) (left_from vs (k + 1) es)) taken
      ∙ ap (λ n. left n (vars_of e)) (let h : k ≡ k + 0 = omega arith in h)
  set-left k (x ∷ es) (suc i) e within none taken =
      let both = left-not-idle (on x) k (vars_of x) (left_from vs (k + 1) es) none in
      ap (λ b. cond b (left k (vars_of x)) (left_from vs (k + 1) (slice_set es i e))) both.0
      ∙ set-left (k + 1) es i e (omega (arith, within)) both.1 taken
      ∙ ap (λ n. left n (vars_of e)) (let h : (k + 1) + i ≡ k + suc i = omega arith in h)

  pub set-single : (es : List Exit) (i : ℕ) (e : Exit) → are_off vs es ≡ true →
      is_single vs (slice_set es i e) ≡ true
  set-single [] i e h = refl
  set-single (x ∷ es) zero e h = at (on e) where
    rest : are_off vs es ≡ true
    rest = (and_parts (not (on x)) (are_off vs es) h).1

    at : (b : Bool) → cond b (are_off vs es) (is_single vs es) ≡ true
    at true = rest
    at false = off-single es rest
  set-single (x ∷ es) (suc i) e h =
      let both = and_parts (not (on x)) (are_off vs es) h in
      ap (λ b. cond b (are_off vs (slice_set es i e)) (is_single vs (slice_set es i e))) (not-true (on x)
      both.0)
      ∙ set-single es i e both.1

  where-left : (b : Bool) (k : ℕ) (m n : ℕ → ℤ) (rest : Status) → (b ≡ true → m ≡ n)
      → cond b (left k m) rest ≡ cond b (left k n) rest
  where-left true k m n rest same = ap (left k) (same refl)
  where-left false k m n rest same = refl

  -- an exit is as it was
  pub unset-left : (k : ℕ) (es : List Exit) (i : ℕ) (e x : Exit) → slice_get es i ≡ Some x → on e ≡ on x
      → (on x ≡ true → vars_of e ≡ vars_of x) → left_from vs k (slice_set es i e) ≡ left_from vs k es
  unset-left k [] i e x found same vars = refl
  unset-left k (y ∷ es) zero e x found same vars =
      let h : y ≡ x = cc in
      ap (λ b. cond b (left k (vars_of e)) (left_from vs (k + 1) es)) same
      ∙ where-left (on x) k (vars_of e) (vars_of x) (left_from vs (k + 1) es) vars
      ∙ ap (λ y. cond (on y) (left k (vars_of y)) (left_from vs (k + 1) es)) (sym h)
  unset-left k (y ∷ es) (suc i) e x found same vars =
      ap (λ t. cond (on y) (left k (vars_of y)) t) (unset-left (k + 1) es i e x found same vars)

  unset-off : (es : List Exit) (i : ℕ) (e x : Exit) → slice_get es i ≡ Some x → on e ≡ on x
      → are_off vs (slice_set es i e) ≡ are_off vs es
  unset-off [] i e x found same = refl
  unset-off (y ∷ es) zero e x found same =
      let h : y ≡ x = cc in ap (λ b. not b && are_off vs es) (same ∙ ap on (sym h))
  unset-off (y ∷ es) (suc i) e x found same = ap (λ b. not (on y) && b) (unset-off es i e x found same)

  pub unset-single : (es : List Exit) (i : ℕ) (e x : Exit) → slice_get es i ≡ Some x → on e ≡ on x
      → is_single vs (slice_set es i e) ≡ is_single vs es
  unset-single [] i e x found same = refl
  unset-single (y ∷ es) zero e x found same =
      let h : y ≡ x = cc in ap (λ b. cond b (are_off vs es) (is_single vs es)) (same ∙ ap on (sym h))
  unset-single (y ∷ es) (suc i) e x found same =
      ap (λ b. cond (on y) b (is_single vs (slice_set es i e))) (unset-off es i e x found same)
      ∙ ap (λ b. cond (on y) (are_off vs es) b) (unset-single es i e x found same)

-- LABELS

pub labels-set : (es : List Exit) (i : ℕ) (e x : Exit) → slice_get es i ≡ Some x → e.label ≡ x.label
    → labels_of (slice_set es i e) ≡ labels_of es
labels-set [] i e x found same = refl
labels-set (y ∷ es) zero e x found same =
    let h : y ≡ x = cc in ap (λ l. l ∷ labels_of es) (same ∙ ap (λ (e : Exit). e.label) (sym h))
labels-set (y ∷ es) (suc i) e x found same = ap (λ ls. y.label ∷ ls) (labels-set es i e x found same)
