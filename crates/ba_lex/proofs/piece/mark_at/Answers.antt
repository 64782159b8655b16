use Rattle.std.proofs.Common.{◌≡◌, ℕ, ◌+◌, ◌-◌, ◌≤◌, Bool, true, false, List, ◌∷◌, [], length, take, drop, refl, sym, ap, subst, ◌∙◌, arith}
use Rattle.std.specs.Prelude.{◌==◌, ◌&&◌, if◌then◌else◌}
use Rattle.std.proofs.lemmas.Bool.{eqb-true, ne_eqb}
use Rattle.ba_lex.specs.Constants.{begins_with}
use Rattle.ba_lex.specs.Pieces.{mark_at, comment_at, line_comment_at, punctuator_at}
use Rattle.ba_lex.specs.declared.piece.Form.{Form}
use Rattle.ba_lex.specs.declared.piece.Form.TheVariants.{Blank}
use Rattle.ba_lex.proofs.LineLemmas.{rest_taken}
use Rattle.ba_lex.proofs.piece.mark_at.Goals as goal
use Rattle.ba_lex.proofs.piece.mark_at.Goals.{else-first-eq47-via-then-first-eq47+else-begins_with, else-first-eq47-via-else-first-eq47, else-first-eq47-2-via-then-first-eq47-2+else-begins_with-2, else-first-eq47-2-via-else-first-eq47-2}

-- after a slash
at_comment : (bs : List ℕ) → begins_with 42 bs ≡ true → comment_at (drop 1 bs) ≡ mark_at 47 bs
at_comment [] is = absurd (cc)
at_comment (b ∷ bs) is =
    subst (λ b. comment_at bs ≡ mark_at 47 (b ∷ bs)) (sym (eqb-true b 42 is)) refl

at_line : (bs : List ℕ) → begins_with 47 bs ≡ true → line_comment_at bs ≡ mark_at 47 bs
at_line [] is = absurd (cc)
at_line (b ∷ bs) is =
    subst (λ b. line_comment_at (b ∷ bs) ≡ mark_at 47 (b ∷ bs)) (sym (eqb-true b 47 is)) refl

-- if no test is met
by_tests : (quote double comment line : Bool) (a b c d e : Form × ℕ) → quote ≡ false → double ≡ false →
    comment ≡ false → line ≡ false →
    e ≡ (if quote then a else (if double then b else (if comment then c else (if line then d else e))))
by_tests quote double comment line a b c d e no_quote no_double no_comment no_line =
    rw (no_quote, no_double, no_comment, no_line) refl

no_both : (s t : Bool) → t ≡ false → (s && t) ≡ false
no_both true t is = is
no_both false t is = refl

-- lengths
counted : (first : ℕ) (rest text : List ℕ) (n : ℕ) → text ≡ first ∷ rest → (1 ≤ n) × (n ≤ length rest + 1) →
    (1 ≤ n) × (n ≤ length text)
counted first rest text n parts (some, most) = let long = ap length parts in (some, omega (arith, long, most))

counted_comment : (rest : List ℕ) (n : ℕ) → begins_with 42 rest ≡ true →
    (1 ≤ n) × (n ≤ length (take (length rest - 1) (drop 1 rest)) + 2) → (1 ≤ n) × (n ≤ length rest + 1)
counted_comment [] n is within = absurd (cc)
counted_comment (b ∷ rest) n is (some, most) =
    let short = subst (λ (bs : List ℕ). n ≤ length bs + 2) (rest_taken (b ∷ rest) 1) most in
    (some, omega (arith, short))

counted_line : (count length : ℕ) → count ≤ length → (1 ≤ count + 1) × (count + 1 ≤ length + 1)
counted_line count length within = (omega arith, omega arith)

pub returns-then-first-eq39 : goal.returns-then-first-eq39
returns-then-first-eq39 c = record {
  value = c.character_at.ensures.value ∙ ap (λ b. mark_at b c.args.rest.now) (sym c.if-first-eq39.true);
  within = counted _ _ _ _ c.requires.parts c.character_at.ensures.within;
}

pub returns-then-first-eq34 : goal.returns-then-first-eq34
returns-then-first-eq34 c = record {
  value = c.string_at.ensures.value ∙ ap (λ b. mark_at b c.args.rest.now) (sym c.if-first-eq34.true);
  within = counted _ _ _ _ c.requires.parts c.string_at.ensures.within;
}

pub returns-then-begins_with : goal.returns-then-begins_with
returns-then-begins_with c =
    let star : begins_with 42 c.args.rest.now ≡ true = sym c.begins_with.ensures ∙ c.if-begins_with.true in
    record {
      value =
          c.comment_at.ensures.value ∙ ap comment_at (rest_taken c.args.rest.now 1)
          ∙ at_comment c.args.rest.now star
          ∙ ap (λ b. mark_at b c.args.rest.now) (sym c.if-first-eq47.true);
      within =
          counted _ _ _ _ c.requires.parts
          (counted_comment c.args.rest.now c.comment_at.result.1 star c.comment_at.ensures.within);
    }

pub returns-then-begins_with-2 : goal.returns-then-begins_with-2
returns-then-begins_with-2 c =
    let slash : begins_with 47 c.args.rest.now ≡ true =
    sym c.begins_with-then-first-eq47-2.ensures ∙ c.if-begins_with-2.true in
    let piece : ℕ → Form × ℕ = λ count. (Blank, count + 1) in
    record {
      value =
          ap piece c.line_count.ensures.count ∙ at_line c.args.rest.now slash
          ∙ ap (λ b. mark_at b c.args.rest.now) (sym c.if-first-eq47-2.true);
      within = counted _ _ _ _ c.requires.parts (counted_line _ _ c.line_count.ensures.within);
    }

pub returns-else-first-eq47-2 : goal.returns-else-first-eq47-2
returns-else-first-eq47-2 c =
    let no_comment : ((c.args.first == 47) && begins_with 42 c.args.rest.now) ≡ false =
    elim c.else-first-eq47.branch [
      | else-first-eq47-via-then-first-eq47+else-begins_with w ↦
          no_both _ _ (sym w.begins_with.ensures ∙ w.if-begins_with.false)
      | else-first-eq47-via-else-first-eq47 w ↦
          ap (λ t. t && begins_with 42 c.args.rest.now) (ne_eqb _ 47 w.if-first-eq47.false)
    ] in
    let no_line : ((c.args.first == 47) && begins_with 47 c.args.rest.now) ≡ false =
    elim c.else-first-eq47-2.branch [
      | else-first-eq47-2-via-then-first-eq47-2+else-begins_with-2 w ↦
          no_both _ _ (sym w.begins_with-then-first-eq47-2.ensures ∙ w.if-begins_with-2.false)
      | else-first-eq47-2-via-else-first-eq47-2 w ↦
          ap (λ t. t && begins_with 47 c.args.rest.now) (ne_eqb _ 47 w.if-first-eq47-2.false)
    ] in
    record {
      value =
          c.punctuator_at.ensures.value ∙ ap punctuator_at c.requires.parts
          ∙ by_tests (c.args.first == 39) (c.args.first == 34) _ _ _ _ _ _ _
          (ne_eqb _ 39 c.if-first-eq39.false) (ne_eqb _ 34 c.if-first-eq34.false) no_comment no_line;
      within = c.punctuator_at.ensures.within;
    }
