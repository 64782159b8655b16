-- One turn of the loops over lines, and the answer that a fault leaves.
use Rattle.std.proofs.Common.{◌≡◌, ℕ, zero, suc, ◌+◌, ◌-◌, ◌<◌, ◌≤◌, Bool, true, false, cond, List, [], ◌∷◌, ◌++◌, length, Option, None, Some, Result, Ok, Err, refl, sym, ap, ◌∙◌, arith, append_assoc, append-nil, ◌⊎◌, inl, inr, take, drop, get_or}
use Rattle.std.specs.List.{list_any}
use Rattle.std.specs.Result.{IfErr, IfOk}
use Rattle.std.proofs.lemmas.Bool.{or_parts}
use Rattle.std.proofs.lemmas.Grind.{common_steps}
use Rattle.std.specs.Prelude.{slice_get}
use Rattle.std.proofs.lemmas.Option.{slice_get_past}
use Rattle.ba_numbers.specs.declared.ids.At.{At}
use Rattle.ba_lex.specs.Storage.{reading_so_far}
use Rattle.ba_lex.specs.Lines.{Table, Reading, only_tokens, nothing, sequence, sequence_after, reading_of, line_reading, tokens_at, replacement, tokens_with_macros, reading_with_macros, answer, or_fault, or_too_many, Fails, max_tokens, begins_directive, is_hash, is_line_end, with_first, with_table, directive, reading, lines_of, Gives}
use Rattle.ba_lex.specs.declared.error.LexError.{LexError}
use Rattle.ba_lex.specs.declared.error.LexError.TheVariants as error
use Rattle.ba_lex.specs.declared.piece.Form.{Form}
use Rattle.ba_lex.specs.declared.piece.Form.TheVariants as form
use Rattle.ba_lex.specs.declared.piece.Piece.{Piece}
use Rattle.ba_tokens.specs.declared.token.Token.{Token}
use Rattle.ba_tokens.specs.declared.token.TokenKind.{TokenKind}

-- ANSWERS

pub fails_from : {Y : Type 0} (e : LexError) (expected : Result Y LexError) → expected ≡ Err e → Fails e expected
fails_from (error.BadByte at) expected is = is
fails_from (error.BadToken at) expected is = is
fails_from (error.NotInProfile at) expected is = is
fails_from (error.BadDirective at) expected is = is
fails_from (error.MacroOrder at) expected is = is
fails_from (error.Redefined at) expected is = is
fails_from (error.TooMany at) expected is = is
fails_from error.Memory expected is = tt

-- an error of one definition is one of another that passes its errors on
pub fails_on : {Y Z : Type 0} (e : LexError) (inner : Result Y LexError) (outer : Result Z LexError) → ((d : LexError) → inner ≡ Err d → outer ≡ Err d) → Fails e inner → Fails e outer
fails_on (error.BadByte at) inner outer passes is = passes _ is
fails_on (error.BadToken at) inner outer passes is = passes _ is
fails_on (error.NotInProfile at) inner outer passes is = passes _ is
fails_on (error.BadDirective at) inner outer passes is = passes _ is
fails_on (error.MacroOrder at) inner outer passes is = passes _ is
fails_on (error.Redefined at) inner outer passes is = passes _ is
fails_on (error.TooMany at) inner outer passes is = passes _ is
fails_on error.Memory inner outer passes is = tt

-- a fault with few tokens before it is the answer
pub answer-fault : (ts : List Token) (e : LexError) → length ts ≤ max_tokens → answer (record { tokens = ts; fault = Some e }) ≡ Err e
answer-fault ts e few = ap (λ o. or_too_many o (Err e)) (slice_get_past ts max_tokens few)

-- an element stays if more follow
get_stays : {X : Type 0} (xs ys : List X) (n : ℕ) (x : X) → slice_get xs n ≡ Some x → slice_get (xs ++ ys) n ≡ Some x
get_stays [] ys n x is = cc
get_stays (y ∷ xs) ys zero x is = is
get_stays (y ∷ xs) ys (suc n) x is = get_stays xs ys n x is

-- tokens of one position hold a token of that position at each place
among_placed : (kinds : List TokenKind) (at : At) (rest : List Token) (n : ℕ) → n < length kinds → (t : Token) × (slice_get (tokens_at at kinds ++ rest) n ≡ Some t) × (t.at ≡ at)
among_placed [] at rest n within = absurd (omega arith)
among_placed (k ∷ kinds) at rest zero within = (record { kind = k; at = at }, refl, refl)
among_placed (k ∷ kinds) at rest (suc n) within = among_placed kinds at rest n (omega arith)

after_front : (out : List Token) (kinds : List TokenKind) (at : At) (rest : List Token) (n : ℕ) → length out ≤ n → n < length out + length kinds → (t : Token) × (slice_get (out ++ (tokens_at at kinds ++ rest)) n ≡ Some t) × (t.at ≡ at)
after_front [] kinds at rest n before within = among_placed kinds at rest n (omega arith)
after_front (x ∷ out) kinds at rest zero before within = absurd (omega arith)
after_front (x ∷ out) kinds at rest (suc n) before within = after_front out kinds at rest n (omega arith) (omega arith)

-- an error stays the answer, whatever follows
pub answer-sequence : (first next : Reading) (e : LexError) → answer first ≡ Err e → answer (sequence first next) ≡ Err e
answer-sequence first next e is = by first.fault refl
  where
    many : (o : Option Token) → slice_get first.tokens max_tokens ≡ o → first.fault ≡ None → or_too_many o (Ok first.tokens) ≡ Err e → answer (record { tokens = first.tokens ++ next.tokens; fault = next.fault }) ≡ Err e
    many None at none h = cc
    many (Some t) at none h = ap (λ o. or_too_many o (or_fault next.fault (first.tokens ++ next.tokens))) (get_stays first.tokens next.tokens max_tokens t at) ∙ h

    by : (f : Option LexError) → first.fault ≡ f → answer (sequence_after f first.tokens next) ≡ Err e
    by (Some d) fault = ap (λ f. or_too_many (slice_get first.tokens max_tokens) (or_fault f first.tokens)) (sym fault) ∙ is
    by None fault = many (slice_get first.tokens max_tokens) refl fault (ap (λ f. or_too_many (slice_get first.tokens max_tokens) (or_fault f first.tokens)) (sym fault) ∙ is)

-- LINES OF THE PROGRAM

-- the first piece of a line is at fault
module _ (table : Table) (out : List Token) (ps : List Piece) (few : length out ≤ max_tokens) where
  at_fault : (d e : LexError) → Some d ≡ Some e → answer (record { tokens = out ++ []; fault = Some d }) ≡ Err e
  at_fault d e is =
      let same : d ≡ e = cc in
      let short : length (out ++ []) ≤ max_tokens = rw append-nil few in
      answer-fault (out ++ []) d short ∙ ap Err same

  pub reading_so_far-fault : (form : Form) (at : At) (e : LexError) → (reading_of form at).fault ≡ Some e → answer (reading_so_far table out (record { form = form; at = at } ∷ ps)) ≡ Err e
  reading_so_far-fault form.Blank at e is = cc
  reading_so_far-fault form.LineEnd at e is = cc
  reading_so_far-fault form.Hash at e is = at_fault (error.BadToken at) e is
  reading_so_far-fault (form.Token kind) at e is = cc
  reading_so_far-fault form.BadByte at e is = at_fault (error.BadByte at) e is
  reading_so_far-fault form.BadToken at e is = at_fault (error.BadToken at) e is
  reading_so_far-fault form.NotInProfile at e is = at_fault (error.NotInProfile at) e is

  -- the first piece of a line stands for a token too many
  pub reading_so_far-many : (kind : TokenKind) (at : At) → max_tokens < length out + length (replacement table kind) → answer (reading_so_far table out (record { form = form.Token kind; at = at } ∷ ps)) ≡ Err (error.TooMany at)
  reading_so_far-many kind at many =
      let last = after_front out (replacement table kind) at (tokens_with_macros table (line_reading ps).tokens) max_tokens few many in
      ap (λ o. or_too_many o (or_fault (line_reading ps).fault (out ++ (tokens_at at (replacement table kind) ++ tokens_with_macros table (line_reading ps).tokens)))) last.1
      ∙ ap (λ a. Err (error.TooMany a)) last.2

-- out of memory, or a token too many
pub fails_or_memory : {P Y : Type 0} (e : LexError) (at : At) (expected : Result Y LexError) → (e ≡ error.Memory) ⊎ ((e ≡ error.TooMany at) × P) → (P → expected ≡ Err (error.TooMany at)) → Fails e expected
fails_or_memory e at expected (inl memory) many = rw memory tt
fails_or_memory e at expected (inr too_many) many = fails_from e expected (many too_many.1 ∙ ap Err (sym too_many.0))

-- what follows two readings follows the second, and then the first
pub sequence-only_tokens : (out : List Token) (first next : Reading) → sequence (only_tokens out) (sequence first next) ≡ sequence (sequence (only_tokens out) first) next
sequence-only_tokens out first next = by first.fault
  where
    by : (f : Option LexError) → sequence (only_tokens out) (sequence_after f first.tokens next) ≡ sequence_after f (out ++ first.tokens) next
    by (Some e) = refl
    by None = ap (λ ts. record { tokens = ts; fault = next.fault }) (sym (append_assoc out first.tokens next.tokens))

-- LINES BY THEIR FIRST PIECE

pub reading-text : (table : Table) (line : List Piece) (lines : List (List Piece)) → begins_directive line ≡ false → reading table (line ∷ lines) ≡ sequence (reading_with_macros table (line_reading line)) (reading table lines)
reading-text table [] lines is = refl
reading-text table (p ∷ ps) lines is = ap (λ b. cond b (with_table (directive table p.at ps) (λ next. reading next lines)) (sequence (reading_with_macros table (line_reading (p ∷ ps))) (reading table lines))) is

-- an error in a line of the program is the answer
pub text_fails : (table : Table) (out : List Token) (line : List Piece) (lines : List (List Piece)) (e : LexError) → begins_directive line ≡ false → Fails e (answer (reading_so_far table out line)) → Fails e (answer (sequence (only_tokens out) (reading table (line ∷ lines))))
text_fails table out line lines e is =
    fails_on e (answer (reading_so_far table out line)) (answer (sequence (only_tokens out) (reading table (line ∷ lines)))) (λ d h.
    ap (λ r. answer (sequence (only_tokens out) r)) (reading-text table line lines is)
    ∙ ap answer (sequence-only_tokens out (reading_with_macros table (line_reading line)) (reading table lines))
    ∙ answer-sequence (reading_so_far table out line) (reading table lines) d h)

-- an error of a directive is the answer
pub directive_fails : (table : Table) (out : List Token) (p : Piece) (ps : List Piece) (lines : List (List Piece)) (e : LexError) → length out ≤ max_tokens → is_hash p.form ≡ true → Fails e (directive table p.at ps) → Fails e (answer (sequence (only_tokens out) (reading table ((p ∷ ps) ∷ lines))))
directive_fails table out p ps lines e few is =
    let short : length (out ++ []) ≤ max_tokens = rw append-nil few in
    fails_on e (directive table p.at ps) (answer (sequence (only_tokens out) (reading table ((p ∷ ps) ∷ lines)))) (λ d h.
    ap (λ b. answer (sequence (only_tokens out) (cond b (with_table (directive table p.at ps) (λ next. reading next lines)) (sequence (reading_with_macros table (line_reading (p ∷ ps))) (reading table lines))))) is
    ∙ ap (λ r. answer (sequence (only_tokens out) (with_table r (λ next. reading next lines)))) h
    ∙ answer-fault (out ++ []) d short)

pub err_gives : {X Y : Type 0} (view : X → Y) (r : Result X LexError) (expected : Result Y LexError) → Gives view r expected → IfErr r (λ e. Fails e expected)
err_gives view (Ok x) expected h = tt
err_gives view (Err e) expected h = h

-- what a directive gives is what its line gives
pub directive_gives : (table next : Table) (p : Piece) (ps : List Piece) (lines : List (List Piece)) → is_hash p.form ≡ true → directive table p.at ps ≡ Ok next → reading table ((p ∷ ps) ∷ lines) ≡ reading next lines
directive_gives table next p ps lines is gives =
    ap (λ b. cond b (with_table (directive table p.at ps) (λ next. reading next lines)) (sequence (reading_with_macros table (line_reading (p ∷ ps))) (reading table lines))) is
    ∙ ap (λ r. with_table r (λ next. reading next lines)) gives

-- what a directive's line leaves to read, and what a line of the program does
pub directive_goes_on : (table : Table) (out : List Token) (line : List Piece) (p : Piece) (ps : List Piece)
    (result : Result Table LexError) → line ≡ p ∷ ps → is_hash p.form ≡ true →
    Gives (λ m. m) result (directive table p.at ps) →
    IfOk result (λ next. (lines : List (List Piece)) →
    sequence (only_tokens out) (reading table (line ∷ lines))
    ≡ sequence (only_tokens out) (reading next lines))
directive_goes_on table out line p ps (Ok next) parts is gives = λ lines.
    ap (λ line. sequence (only_tokens out) (reading table (line ∷ lines))) parts
    ∙ ap (sequence (only_tokens out)) (directive_gives table next p ps lines is gives)
directive_goes_on table out line p ps (Err e) parts is gives = tt

pub text_goes_on : (table : Table) (out new : List Token) (line : List Piece) →
    begins_directive line ≡ false → reading_so_far table out line ≡ only_tokens new →
    (lines : List (List Piece)) →
    sequence (only_tokens out) (reading table (line ∷ lines))
    ≡ sequence (only_tokens new) (reading table lines)
text_goes_on table out new line is so_far lines =
    ap (sequence (only_tokens out)) (reading-text table line lines is)
    ∙ sequence-only_tokens out (reading_with_macros table (line_reading line)) (reading table lines)
    ∙ ap (λ first. sequence first (reading table lines)) so_far

-- a slice from n on
pub rest_taken : {X : Type 0} (xs : List X) (n : ℕ) → take (length xs - n) (drop n xs) ≡ drop n xs
rest_taken xs n = grind (arith, common_steps)

-- THE FIRST LINE

pub first_of : (line : List Piece) (d : Piece) → 0 < length line → line ≡ get_or line 0 d ∷ drop 1 line
first_of [] d some = absurd (omega arith)
first_of (p ∷ line) d some = refl

abbrev has_end : List Piece → Bool
has_end ps = list_any (λ (p : Piece). is_line_end p.form) ps

pub lines_of-cut : (ps : List Piece) (i : ℕ) (d : Piece) → i < length ps → list_any (λ (p : Piece). is_line_end p.form) (take i ps) ≡ false → is_line_end (get_or ps i d).form ≡ true → lines_of ps ≡ take i ps ∷ lines_of (drop (i + 1) ps)
lines_of-cut [] i d within none is = absurd (omega arith)
lines_of-cut (p ∷ ps) zero d within none is = ap (λ b. cond b ([] ∷ lines_of ps) (with_first p (lines_of ps))) is
lines_of-cut (p ∷ ps) (suc i) d within none is =
    let parts = or_parts (is_line_end p.form) (has_end (take i ps)) none in
    let on : i + 1 ≡ suc i = omega arith in
    let more : suc i + 1 ≡ suc (suc i) = omega arith in
    ap (λ b. cond b ([] ∷ lines_of ps) (with_first p (lines_of ps))) parts.0
    ∙ ap (with_first p) (lines_of-cut ps i d (omega arith) parts.1 is ∙ ap (λ k. take i ps ∷ lines_of (drop k ps)) on)
    ∙ ap (λ k. (p ∷ take i ps) ∷ lines_of (drop k (p ∷ ps))) (sym more)

pub lines_of-last : (ps : List Piece) → 0 < length ps → list_any (λ (p : Piece). is_line_end p.form) ps ≡ false → lines_of ps ≡ ps ∷ []
lines_of-last [] some none = absurd (omega arith)
lines_of-last (p ∷ []) some none =
    ap (λ b. cond b ([] ∷ []) ((p ∷ []) ∷ [])) (or_parts (is_line_end p.form) false none).0
lines_of-last (p ∷ q ∷ ps) some none =
    let parts = or_parts (is_line_end p.form) (has_end (q ∷ ps)) none in
    ap (λ b. cond b ([] ∷ lines_of (q ∷ ps)) (with_first p (lines_of (q ∷ ps)))) parts.0
    ∙ ap (with_first p) (lines_of-last (q ∷ ps) (omega arith) parts.1)

-- no line is left
pub answer-whole : (out : List Token) → length out ≤ max_tokens → answer (sequence (only_tokens out) nothing) ≡ Ok out
answer-whole out few =
    ap (λ ts. or_too_many (slice_get ts max_tokens) (Ok ts)) (append-nil out) ∙ ap (λ o. or_too_many o (Ok out)) (slice_get_past out max_tokens few)

pub no_pieces : (ps : List Piece) → length ps ≡ 0 → ps ≡ []
no_pieces [] none = refl
no_pieces (p ∷ ps) none = absurd (omega arith)

-- the first line of what is left, and what is left after it
pub line_cut : (ps rest line : List Piece) (from n : ℕ) → rest ≡ drop from ps → n ≤ length rest → line ≡ take n rest → lines_of rest ≡ take n rest ∷ lines_of (drop (n + 1) rest)
    → lines_of (drop from ps) ≡ line ∷ lines_of (drop (from + (length line + 1)) ps)
line_cut ps rest line from n rest_is within line_is lines =
    let counted : length line ≡ n = grind (arith, common_steps) in
    let on : drop (n + 1) (drop from ps) ≡ drop (from + (n + 1)) ps = grind (arith, common_steps) in
    let past : drop (n + 1) rest ≡ drop (from + (length line + 1)) ps = ap (drop (n + 1)) rest_is ∙ on ∙ ap (λ m. drop (from + (m + 1)) ps) (sym counted) in
    ap lines_of (sym rest_is) ∙ lines ∙ ap (λ bs. bs ∷ lines_of (drop (n + 1) rest)) (sym line_is) ∙ ap (λ others. line ∷ lines_of others) past
