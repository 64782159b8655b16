-- What the readings answer is what the grammar says, and the grammar says one thing.

use Rattle.std.proofs.Common.{◌≡◌, ℕ, zero, suc, ◌+◌, ◌-◌, ◌<◌, ◌≤◌, true, List, [], ◌∷◌, ◌++◌, length, take, drop, Option, None, Some, refl, sym, ap, ◌∙◌, arith, append_assoc, append-nil, length-append, ◌⊎◌, inl, inr, subst}
use Rattle.std.proofs.lemmas.List.{append_cancel_right, take-append-drop, take-take, length-take-le}
use Rattle.std.proofs.Math.Seq.{take-append_seam, take-length}
use Rattle.ba_tokens.specs.declared.token.Token.{Token}
use Rattle.ba_trees.specs.Classes.{declaration_word}
use Rattle.ba_trees.specs.Marks.{Mark, leaf, file, yield, no_else_lost}
use Rattle.ba_parse.specs.Grammar.{Spells, rule}
use Rattle.ba_parse.specs.Readings.{Answer, done, syntax, too_deep, levels_left, read_file}
use Rattle.ba_parse.specs.Files.{IsFile, Begins, level_at, IsParsed, IsSyntaxError, IsTooDeep, Verdict, parsed, syntax_at, deep_at, Says}
use Rattle.ba_trees.specs.Marks.{max_level, has_accepted_levels}
use Rattle.ba_parse.proofs.Forests.{sunk}
use Rattle.ba_parse.proofs.Certified.{head_of, outcome_of, outcome, Done, Refused, TooDeep, Taken, always, Reads, pairs_before, cons_is_nil}
use Rattle.ba_parse.proofs.Depths.{all_accepted, none_deep, deep_none, FirstDeep, first_deep}
use Rattle.ba_parse.proofs.EachLevel.{good_files}

-- LISTS

pub token_number : (u rest : List Token) → length (u ++ rest) - length rest ≡ length u
token_number u rest = let e : length (u ++ rest) ≡ length u + length rest = length-append u rest in
    omega (arith, e)

take_more : (u : List Token) (t : Token) (rest : List Token) → take (length u + 1) (u ++ t ∷ rest) ≡ u ++ t
    ∷ []
take_more u t rest =
    let e : length (u ++ t ∷ []) ≡ length u + 1 = length-append u (t ∷ []) in
    ap (λ k. take k (u ++ t ∷ rest)) (sym e) ∙ ap (take (length (u ++ t ∷ [])))
    (sym (append_assoc u (t ∷ []) rest))
    ∙ take-append_seam (u ++ t ∷ []) rest

-- a list that begins with these
begins_so : (k : ℕ) (ts u : List Token) → take k ts ≡ u → ts ≡ u ++ drop k ts
begins_so k ts u h = sym (take-append-drop k ts) ∙ ap (λ x. x ++ drop k ts) h

-- more than a part of the same beginning
take_less : (j k : ℕ) (ts us : List Token) → j ≤ k → take k ts ≡ take k us → take j ts ≡ take j us
take_less j k ts us le h = sym (take-take j k ts le) ∙ ap (take j) h ∙ take-take j k us le

-- a file that begins with more begins with less
begins_less : (ts : List Token) (j k : ℕ) → j ≤ k → k ≤ length ts → Begins (take k ts) → Begins (take j ts)
begins_less ts j k le within b =
    let whole : take k b.tokens ≡ take k ts = ap (λ m. take m b.tokens) (sym (length-take-le k ts within))
    ∙ b.begins in
    let in_part : j ≤ length ts = omega (arith, le, within) in
    record {
      tokens = b.tokens;
      tree = b.tree;
      is_file = b.is_file;
      begins = ap (λ m. take m b.tokens) (length-take-le j ts in_part) ∙ take_less j k b.tokens ts le whole;
    }

-- ANSWERS differ by their form

abbrev IsDone : Answer → Type 0
IsDone (done f rest) = Unit {0}
IsDone (syntax rest) = ⊥
IsDone (too_deep rest) = ⊥

abbrev IsSyntax : Answer → Type 0
IsSyntax (done f rest) = ⊥
IsSyntax (syntax rest) = Unit {0}
IsSyntax (too_deep rest) = ⊥

done_is_deep : {f : List Mark} {rest left : List Token} → done f rest ≡ too_deep left → ⊥
done_is_deep h = subst IsDone h tt

syntax_is_done : {rest left : List Token} {f : List Mark} → syntax rest ≡ done f left → ⊥
syntax_is_done h = subst IsSyntax h tt

syntax_is_deep : {rest left : List Token} → syntax rest ≡ too_deep left → ⊥
syntax_is_deep h = subst IsSyntax h tt

abbrev left_in : Answer → List Token
left_in (done f rest) = rest
left_in (syntax rest) = rest
left_in (too_deep rest) = rest

abbrev tree_in : List Mark → Answer → List Mark
tree_in d (done f rest) = f
tree_in d (syntax rest) = d
tree_in d (too_deep rest) = d

-- THE READING OF FILES

abbrev pub answer_of : List Token → Answer
answer_of = read_file (levels_left max_level)

reads : Reads max_level always (rule file) (declaration_word true) answer_of
reads = (good_files max_level).reads

taken : (ts : List Token) → Taken max_level (rule file) answer_of ts (answer_of ts)
taken ts = reads.taken ts refl

-- a file's tokens are read as its tree, or are too deep
of_file : (ts : List Token) (tree : List Mark) → IsFile ts tree → answer_of ts ≡ outcome max_level tree []
of_file ts tree f =
    ap answer_of (sym (append-nil (yield tree) ∙ f.yields)) ∙ reads.given tree [] f.spelled f.pairs_else refl

no_syntax : (ts rest : List Token) (tree : List Mark) → IsFile ts tree → answer_of ts ≡ syntax rest → ⊥
no_syntax ts rest tree f h = here (sunk max_level 0 tree) (sym h ∙ of_file ts tree f)
  where
    here : (x : Option (List Mark)) → syntax rest ≡ outcome_of x tree [] → ⊥
    here None e = syntax_is_done e
    here (Some ms) e = syntax_is_deep e

no_rest : (ts rest : List Token) (f tree : List Mark) (t : Token) → IsFile ts tree →
    answer_of ts ≡ done f (t ∷ rest) → ⊥
no_rest ts rest f tree t it h = here (sunk max_level 0 tree) (sym h ∙ of_file ts tree it)
  where
    here : (x : Option (List Mark)) → done f (t ∷ rest) ≡ outcome_of x tree [] → ⊥
    here None e = cons_is_nil (ap left_in e)
    here (Some ms) e = done_is_deep e

-- where a file has a leaf that is too deep, reading stops there, and so it does for all that begins the same
stops_deep : (ts : List Token) (tree : List Mark) → IsFile ts tree →
    (ms : List Mark) (e : FirstDeep max_level 0 tree ms) → sunk max_level 0 tree ≡ Some ms →
    (w : List Token) → answer_of (e.before ++ e.refused ∷ w) ≡ too_deep (e.refused ∷ w)
stops_deep ts tree it ms e h w =
    let left : List Token = e.refused ∷ yield e.beyond in
    let same : answer_of ts ≡ too_deep left =
    of_file ts tree it ∙ ap (λ x. outcome_of x tree []) h ∙ ap (λ x. too_deep (yield x ++ [])) e.marks
    ∙ ap too_deep (append-nil left) in
    let d : TooDeep max_level (rule file) answer_of ts left = subst (Taken max_level (rule file) answer_of ts)
    same (taken ts) in
    let whole : e.before ++ left ≡ d.before ++ left = sym e.yields ∙ it.yields ∙ d.cut in
    let before_is : e.before ≡ d.before = append_cancel_right e.before d.before left whole in
    ap (λ x. answer_of (x ++ e.refused ∷ w)) before_is ∙ d.near (e.refused ∷ w) refl

-- A file's tokens begin with some tokens of a list. These have levels that are accepted, if reading the list
-- doesn't stop as too deep.
shallow_before : (ts : List Token) → ((rest : List Token) → answer_of ts ≡ too_deep rest → ⊥) → (k : ℕ) →
    k ≤ length ts →
    (others : List Token) (tree : List Mark) → IsFile others tree → take k others ≡ take k ts → (j : ℕ) →
    j < k → level_at tree j ≤ max_level
shallow_before ts not_deep k within others tree it same j less = here (sunk max_level 0 tree) refl
  where
    stop : (ms : List Mark) (e : FirstDeep max_level 0 tree ms) → sunk max_level 0 tree ≡ Some ms →
        length e.before ≤ j → ⊥
    stop ms e h le =
        let cut : others ≡ e.before ++ e.refused ∷ yield e.beyond = sym it.yields ∙ e.yields in
        let enough : length e.before + 1 ≤ k = omega (arith, le, less) in
        let front : take (length e.before + 1) ts ≡ e.before ++ e.refused ∷ [] =
        sym (take_less (length e.before + 1) k others ts enough same) ∙ ap (take (length e.before + 1)) cut
        ∙ take_more e.before e.refused (yield e.beyond) in
        let w : List Token = drop (length e.before + 1) ts in
        let ts_is : ts ≡ e.before ++ e.refused ∷ w = begins_so (length e.before + 1) ts (e.before ++ e.refused
        ∷ []) front ∙ append_assoc e.before (e.refused ∷ []) w in
        not_deep (e.refused ∷ w) (ap answer_of ts_is ∙ stops_deep others tree it ms e h w)

    by_order : (ms : List Mark) (e : FirstDeep max_level 0 tree ms) → sunk max_level 0 tree ≡ Some ms →
        (j < length e.before) ⊎ (length e.before ≤ j) → level_at tree j ≤ max_level
    by_order ms e h (inl l) = e.shallow j l
    by_order ms e h (inr l) = absurd (stop ms e h l)

    order : (a b : ℕ) → (a < b) ⊎ (b ≤ a)
    order a zero = inr (omega arith)
    order zero (suc b) = inl (omega arith)
    order (suc a) (suc b) = step (order a b)
      where
        step : (a < b) ⊎ (b ≤ a) → (suc a < suc b) ⊎ (suc b ≤ suc a)
        step (inl l) = inl (omega (arith, l))
        step (inr l) = inr (omega (arith, l))

    here : (x : Option (List Mark)) → sunk max_level 0 tree ≡ x → level_at tree j ≤ max_level
    here None h = none_deep max_level 0 tree h j
    here (Some ms) h = let e : FirstDeep max_level 0 tree ms = first_deep max_level 0 tree ms h in
        by_order ms e h (order j (length e.before))

-- WHAT IS SAID where reading stops

-- how many tokens are before what is left
abbrev pub place : List Token → List Token → ℕ
place ts rest = length ts - length rest

abbrev pub verdict_of : List Token → Answer → Verdict
verdict_of ts (done tree []) = parsed tree
verdict_of ts (done tree (t ∷ rest)) = syntax_at (place ts (t ∷ rest))
verdict_of ts (syntax rest) = syntax_at (place ts rest)
verdict_of ts (too_deep rest) = deep_at (place ts rest)

place_is : (ts u rest : List Token) → ts ≡ u ++ rest → place ts rest ≡ length u
place_is ts u rest h = ap (λ x. length x - length rest) h ∙ token_number u rest

length_is : (ts u rest : List Token) → ts ≡ u ++ rest → length ts ≡ length u + length rest
length_is ts u rest h = ap length h ∙ length-append u rest

take_place : (ts u rest : List Token) → ts ≡ u ++ rest → take (length u) ts ≡ u
take_place ts u rest h = ap (take (length u)) h ∙ take-append_seam u rest

take_next : (ts u rest : List Token) (t : Token) → ts ≡ u ++ t ∷ rest → take (length u + 1) ts ≡ u ++ t ∷ []
take_next ts u rest t h = ap (take (length u + 1)) h ∙ take_more u t rest

-- a file that begins with these and the next token: what it goes on with
goes_on : (ts u rest : List Token) (t : Token) → ts ≡ u ++ t ∷ rest → (b : Begins (take (length u + 1) ts)) →
    (w : List Token) × (b.tokens ≡ u ++ t ∷ w)
goes_on ts u rest t h b =
    let front : take (length (take (length u + 1) ts)) b.tokens ≡ u ++ t ∷ [] = b.begins
    ∙ take_next ts u rest t h in
    let k : ℕ = length (take (length u + 1) ts) in
    (drop k b.tokens, begins_so k b.tokens (u ++ t ∷ []) front ∙ append_assoc u (t ∷ []) (drop k b.tokens))

-- the error at the place, where reading stops at the rest and not as too deep
error_here : (ts u rest : List Token) → ts ≡ u ++ rest → Begins u →
    ((t : Token) (left w : List Token) (tree : List Mark) → rest ≡ t ∷ left → IsFile (u ++ t ∷ w) tree → ⊥) →
    (rest ≡ [] → (tree : List Mark) → IsFile ts tree → ⊥) →
    ((left : List Token) → answer_of ts ≡ too_deep left → ⊥) → IsSyntaxError ts (length u)
error_here ts u rest cut begins next ends not_deep = record {
  within = within_it;
  begins = subst Begins (sym (take_place ts u rest cut)) begins;
  stops = λ less b. at_next rest cut less b next;
  at_end = λ all tree it. ends (no_more rest (length_is ts u rest cut) all) tree it;
  before = λ others tree it same j less. shallow_before ts not_deep (length u) within_it others tree it same j
      less;
}
  where
    within_it : length u ≤ length ts
    within_it = let e : length ts ≡ length u + length rest = length_is ts u rest cut in omega (arith, e)

    at_next : (rest : List Token) → ts ≡ u ++ rest → length u < length ts → Begins (take (length u + 1) ts) →
        ((t : Token) (left w : List Token) (tree : List Mark) → rest ≡ t ∷ left → IsFile (u ++ t ∷ w) tree →
        ⊥) → ⊥
    at_next [] cut less b next = let e : length ts ≡ length u + 0 = length_is ts u [] cut in
        omega (arith, e, less)
    at_next (t ∷ left) cut less b next =
        let g : (w : List Token) × (b.tokens ≡ u ++ t ∷ w) = goes_on ts u left t cut b in
        next t left g.0 b.tree refl (subst (λ x. IsFile x b.tree) g.1 b.is_file)

    no_more : (rest : List Token) → length ts ≡ length u + length rest → length u ≡ length ts → rest ≡ []
    no_more [] e all = refl
    no_more (t ∷ left) e all = absurd (omega (arith, e, all))

file_of : (tree : List Mark) (o : Option Token) → Spells (rule file) tree → no_else_lost tree o ≡ true →
    IsFile (yield tree) tree
file_of tree o u pairs = record {
  spelled = u;
  yields = refl;
  pairs_else = pairs_before tree o None pairs refl;
}

says_done : (ts : List Token) (tree : List Mark) (rest : List Token) → answer_of ts ≡ done tree rest →
    Done max_level (rule file) answer_of ts tree rest →
    Says ts (verdict_of ts (done tree rest))
says_done ts tree [] is d = record {
  is_file = record {
    spelled = d.spelled;
    yields = sym (d.cut ∙ append-nil (yield tree));
    pairs_else =
        d.pairs;
  };
  accepted = none_deep max_level 0 tree d.level;
}
says_done ts tree (t ∷ rest) is d =
    subst (IsSyntaxError ts) (sym (place_is ts (yield tree) (t ∷ rest) d.cut))
    (error_here ts (yield tree) (t ∷ rest) d.cut
    (record {
      tokens = yield tree;
      tree = tree;
      is_file = file_of tree (Some t) d.spelled d.pairs;
      begins =
          take-length (yield tree);
    })
    (λ u left w other h it. no_rest (yield tree ++ u ∷ w) w tree other u it
    (d.near (u ∷ w) (sym (ap head_of h))))
    (λ h. absurd (cons_is_nil h))
    (λ left h. done_is_deep (sym is ∙ h)))

says_syntax : (ts rest : List Token) → answer_of ts ≡ syntax rest → Refused (rule file) answer_of ts rest →
    Says ts (verdict_of ts (syntax rest))
says_syntax ts rest is e =
    subst (IsSyntaxError ts) (sym (place_is ts e.before rest e.cut))
    (error_here ts e.before rest e.cut
    (record {
      tokens = yield e.tree;
      tree = e.tree;
      is_file = record { spelled = e.spelled; yields = refl; pairs_else = e.pairs None refl };
      begins = ap (take (length e.before)) e.yields ∙ take-append_seam e.before e.beyond;
    })
    (λ t left w other h it. no_syntax (e.before ++ t ∷ w) (t ∷ w) other it
    (e.near (t ∷ w) (sym (ap head_of h))))
    (λ h other it. no_syntax ts rest other it is)
    (λ left h. syntax_is_deep (sym is ∙ h)))

says_deep : (ts rest : List Token) → TooDeep max_level (rule file) answer_of ts rest →
    Says ts (verdict_of ts (too_deep rest))
says_deep ts rest e =
    let whole : ts ≡ e.before ++ e.refused ∷ e.left = e.cut ∙ ap (λ x. e.before ++ x) e.rest_is in
    let f : FirstDeep max_level 0 e.tree (leaf e.refused ∷ e.beyond) = first_deep max_level 0 e.tree
    (leaf e.refused ∷ e.beyond) e.level in
    let tail_is : yield (leaf e.refused ∷ e.beyond) ≡ yield (leaf f.refused ∷ f.beyond) = ap yield f.marks in
    let before_is : f.before ≡ e.before =
    append_cancel_right f.before e.before (e.refused ∷ yield e.beyond) (ap (λ x. f.before ++ x) tail_is
    ∙ sym f.yields ∙ e.yields) in
    let size : length ts ≡ length e.before + length (e.refused ∷ e.left) =
    length_is ts e.before (e.refused ∷ e.left) whole in
    subst (IsTooDeep ts) (sym (place_is ts e.before rest e.cut))
    (record {
      within = omega (arith, size);
      others = yield e.tree;
      tree = e.tree;
      is_file = record { spelled = e.spelled; yields = refl; pairs_else = e.pairs None refl };
      begins =
          ap (take (length e.before + 1)) e.yields ∙ take_more e.before e.refused (yield e.beyond)
          ∙ sym (take_next ts e.before e.left e.refused whole);
      deep = subst (λ x. max_level < level_at e.tree (length x)) before_is f.deep;
      before = λ j less. f.shallow j (subst (λ x. j < length x) (sym before_is) less);
    })

-- the reading answers what the grammar says
pub says_answer : (ts : List Token) → Says ts (verdict_of ts (answer_of ts))
says_answer ts = here (answer_of ts) refl (taken ts)
  where
    here : (x : Answer) → answer_of ts ≡ x → Taken max_level (rule file) answer_of ts x →
        Says ts (verdict_of ts x)
    here (done tree rest) h e = says_done ts tree rest h e
    here (syntax rest) h e = says_syntax ts rest h e
    here (too_deep rest) h e = says_deep ts rest e

-- THE GRAMMAR SAYS ONE THING

ordered : (a b : ℕ) → (a < b) ⊎ ((a ≡ b) ⊎ (b < a))
ordered zero zero = inr (inl refl)
ordered zero (suc b) = inl (omega arith)
ordered (suc a) zero = inr (inr (omega arith))
ordered (suc a) (suc b) = step (ordered a b)
  where
    step : (a < b) ⊎ ((a ≡ b) ⊎ (b < a)) → (suc a < suc b) ⊎ ((suc a ≡ suc b) ⊎ (suc b < suc a))
    step (inl l) = inl (omega (arith, l))
    step (inr (inl e)) = inr (inl (ap suc e))
    step (inr (inr l)) = inr (inr (omega (arith, l)))

no_two_errors : (ts : List Token) (j k : ℕ) → j < k → IsSyntaxError ts j → IsSyntaxError ts k → ⊥
no_two_errors ts j k less e f =
    let within : k ≤ length ts = f.within in
    e.stops (omega (arith, less, within)) (begins_less ts (j + 1) k (omega (arith, less)) within f.begins)

one_error : (ts : List Token) (j k : ℕ) → IsSyntaxError ts j → IsSyntaxError ts k → j ≡ k
one_error ts j k e f = here (ordered j k)
  where
    here : (j < k) ⊎ ((j ≡ k) ⊎ (k < j)) → j ≡ k
    here (inl l) = absurd (no_two_errors ts j k l e f)
    here (inr (inl h)) = h
    here (inr (inr l)) = absurd (no_two_errors ts k j l f e)

file_begins : (ts : List Token) (tree : List Mark) (k : ℕ) → IsFile ts tree → k ≤ length ts →
    Begins (take k ts)
file_begins ts tree k it within =
    record {
      tokens = ts;
      tree = tree;
      is_file = it;
      begins = ap (λ m. take m ts) (length-take-le k ts within);
    }

no_error_in_file : (ts : List Token) (tree : List Mark) (k : ℕ) → IsFile ts tree → IsSyntaxError ts k → ⊥
no_error_in_file ts tree k it e = here (ordered k (length ts))
  where
    here : (k < length ts) ⊎ ((k ≡ length ts) ⊎ (length ts < k)) → ⊥
    here (inl l) = e.stops l (file_begins ts tree (k + 1) it (omega (arith, l)))
    here (inr (inl h)) = e.at_end h tree it
    here (inr (inr l)) = let within : k ≤ length ts = e.within in omega (arith, l, within)

-- a tree of accepted levels is what is read
parsed_answer : (ts : List Token) (tree : List Mark) → IsParsed ts tree → answer_of ts ≡ done tree []
parsed_answer ts tree p =
    of_file ts tree p.is_file ∙ ap (λ x. outcome_of x tree []) (deep_none max_level 0 tree p.accepted)

-- a token that is too deep is where reading stops
pub record StopsAt (ts : List Token) (k : ℕ) : Type 0 where
  pub before : List Token
  pub refused : Token
  pub left : List Token
  pub cut : ts ≡ before ++ refused ∷ left
  pub size : length before ≡ k
  pub answer : (w : List Token) → answer_of (before ++ refused ∷ w) ≡ too_deep (refused ∷ w)

deep_stops : (ts : List Token) (k : ℕ) → IsTooDeep ts k → StopsAt ts k
deep_stops ts k e = here (sunk max_level 0 e.tree) refl
  where
    too_great : (n : ℕ) → n ≤ max_level → max_level < n → ⊥
    too_great n a b = omega (arith, a, b)

    size_is : (f : ℕ) → ((f < k) ⊎ ((f ≡ k) ⊎ (k < f))) → max_level < level_at e.tree f →
        ((j : ℕ) → j < f → level_at e.tree j ≤ max_level) → f ≡ k
    size_is f (inl l) deep shallow = absurd (too_great (level_at e.tree f) (e.before f l) deep)
    size_is f (inr (inl h)) deep shallow = h
    size_is f (inr (inr l)) deep shallow = absurd (too_great (level_at e.tree k) (shallow k l) e.deep)

    here : (x : Option (List Mark)) → sunk max_level 0 e.tree ≡ x → StopsAt ts k
    here None h = absurd (too_great (level_at e.tree k) (none_deep max_level 0 e.tree h k) e.deep)
    here (Some ms) h =
        let f : FirstDeep max_level 0 e.tree ms = first_deep max_level 0 e.tree ms h in
        let size : length f.before ≡ k = size_is (length f.before) (ordered (length f.before) k) f.deep
        f.shallow in
        let cut : e.others ≡ f.before ++ f.refused ∷ yield f.beyond = sym e.is_file.yields ∙ f.yields in
        let front : take (length f.before + 1) ts ≡ f.before ++ f.refused ∷ [] =
        ap (λ m. take (m + 1) ts) size ∙ sym e.begins ∙ ap (λ m. take (m + 1) e.others) (sym size)
        ∙ take_next e.others f.before (yield f.beyond) f.refused cut in
        record {
          before = f.before;
          refused = f.refused;
          left = drop (length f.before + 1) ts;
          cut = begins_so (length f.before + 1) ts (f.before ++ f.refused ∷ []) front
              ∙ append_assoc f.before (f.refused ∷ []) (drop (length f.before + 1) ts);
          size = size;
          answer = λ w. stops_deep e.others e.tree e.is_file ms f h w;
        }

deep_answer : (ts : List Token) (k : ℕ) → IsTooDeep ts k → verdict_of ts (answer_of ts) ≡ deep_at k
deep_answer ts k e =
    let s : StopsAt ts k = deep_stops ts k e in
    ap (verdict_of ts) (ap answer_of s.cut ∙ s.answer s.left)
    ∙ ap deep_at (place_is ts s.before (s.refused ∷ s.left) s.cut ∙ s.size)

-- a token that is too deep comes after a syntax error, or at it, in no list
no_error_and_deep : (ts : List Token) (j k : ℕ) → IsSyntaxError ts j → IsTooDeep ts k → ⊥
no_error_and_deep ts j k e d = here (ordered k j)
  where
    within : k < length ts
    within = d.within

    begins : Begins (take (k + 1) ts)
    begins = record {
      tokens = d.others;
      tree = d.tree;
      is_file = d.is_file;
      begins = ap (λ m. take m d.others) (length-take-le (k + 1) ts (omega (arith, within))) ∙ d.begins;
    }

    after_error : j ≤ k → ⊥
    after_error le = e.stops (omega (arith, le, within)) (begins_less ts (j + 1) (k + 1) (omega (arith, le))
        (omega (arith, within)) begins)

    file_is_deep : (b : Begins (take j ts)) → k < j → ⊥
    file_is_deep b less =
        let s : StopsAt ts k = deep_stops ts k d in
        let j_within : j ≤ length ts = e.within in
        let whole : take j b.tokens ≡ take j ts =
        ap (λ m. take m b.tokens) (sym (length-take-le j ts j_within)) ∙ b.begins in
        let size : length s.before ≡ k = s.size in
        let front : take (length s.before + 1) b.tokens ≡ s.before ++ s.refused ∷ [] =
        take_less (length s.before + 1) j b.tokens ts (omega (arith, less, size)) whole
        ∙ take_next ts s.before s.left s.refused s.cut in
        let w : List Token = drop (length s.before + 1) b.tokens in
        let tokens_are : b.tokens ≡ s.before ++ s.refused ∷ w =
        begins_so (length s.before + 1) b.tokens (s.before ++ s.refused ∷ []) front
        ∙ append_assoc s.before (s.refused ∷ []) w in
        let answer : answer_of b.tokens ≡ too_deep (s.refused ∷ w) = ap answer_of tokens_are ∙ s.answer w in
        by_sunk b w s answer (sunk max_level 0 b.tree) refl tokens_are whole less
      where
        by_sunk : (b : Begins (take j ts)) (w : List Token) (s : StopsAt ts k) → answer_of b.tokens ≡ too_deep
            (s.refused ∷ w) →
            (x : Option (List Mark)) → sunk max_level 0 b.tree ≡ x → b.tokens ≡ s.before ++ s.refused ∷ w →
            take j b.tokens ≡ take j ts → k < j → ⊥
        by_sunk b w s answer None h tokens_are whole less =
            done_is_deep (sym (ap (λ x. outcome_of x b.tree []) h) ∙ sym (of_file b.tokens b.tree b.is_file)
            ∙ answer)
        by_sunk b w s answer (Some ms) h tokens_are whole less =
            let f : FirstDeep max_level 0 b.tree ms = first_deep max_level 0 b.tree ms h in
            let rest_is : yield ms ++ [] ≡ s.refused ∷ w =
            ap left_in (sym (ap (λ x. outcome_of x b.tree []) h) ∙ sym (of_file b.tokens b.tree b.is_file)
            ∙ answer) in
            let tail : yield ms ≡ s.refused ∷ w = sym (append-nil (yield ms)) ∙ rest_is in
            let cut : b.tokens ≡ f.before ++ s.refused ∷ w =
            sym b.is_file.yields ∙ f.yields ∙ ap (λ x. f.before ++ x) (sym (ap yield f.marks) ∙ tail) in
            let same : f.before ≡ s.before = append_cancel_right f.before s.before (s.refused ∷ w) (sym cut
            ∙ tokens_are) in
            let size : length f.before ≡ k = ap length same ∙ s.size in
            let fine : level_at b.tree (length f.before) ≤ max_level =
            e.before b.tokens b.tree b.is_file whole (length f.before) (omega (arith, less, size)) in
            let deep : max_level < level_at b.tree (length f.before) = f.deep in
            omega (arith, fine, deep)

    here : (k < j) ⊎ ((k ≡ j) ⊎ (j < k)) → ⊥
    here (inl l) = file_is_deep e.begins l
    here (inr (inl h)) = after_error (omega (arith, h))
    here (inr (inr l)) = after_error (omega (arith, l))

-- whatever the grammar says is what the reading answers
pub says_only : (ts : List Token) (v : Verdict) → Says ts v → v ≡ verdict_of ts (answer_of ts)
says_only ts (parsed tree) p = sym (ap (verdict_of ts) (parsed_answer ts tree p))
says_only ts (deep_at k) e = sym (deep_answer ts k e)
says_only ts (syntax_at k) e = here (verdict_of ts (answer_of ts)) (says_answer ts)
  where
    here : (v : Verdict) → Says ts v → syntax_at k ≡ v
    here (parsed tree) p = absurd (no_error_in_file ts tree k p.is_file e)
    here (syntax_at j) f = ap syntax_at (one_error ts k j e f)
    here (deep_at j) d = absurd (no_error_and_deep ts k j e d)

-- there is one verdict
pub one_verdict : (ts : List Token) (v w : Verdict) → Says ts v → Says ts w → v ≡ w
one_verdict ts v w p q = says_only ts v p ∙ sym (says_only ts w q)

-- what is read has levels that are accepted
pub accepted_levels : (ts : List Token) (tree : List Mark) (rest : List Token) →
    answer_of ts ≡ done tree rest →
    has_accepted_levels tree ≡ true
accepted_levels ts tree rest h = all_accepted max_level 0 tree
    (subst (Taken max_level (rule file) answer_of ts) h (taken ts)).level
