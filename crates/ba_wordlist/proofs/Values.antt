-- The values of words, as lists grow and as assignments change.
use Rattle.std.proofs.Common.{rules, ◌≡◌, ℕ, ◌+◌, ◌<◌, ◌≤◌, ℤ, pos, true, ◌&&◌, List, [], ◌∷◌, ◌++◌, map, length, get_or, take, drop, Some, slice_get, refl, sym, ◌∙◌, ap, arith, append_assoc}
use Rattle.std.proofs.lemmas.Bool.{and_from, and_parts}
use Rattle.std.proofs.lemmas.Grind.{fold-append}
use Rattle.std.proofs.lemmas.List.{get_or_append_left, get_or_at, length_push, take-append-drop, length-take-le, drop_more}
use Rattle.std.proofs.lemmas.Option.{slice_get_within, get_or_from_slice_get}
use Rattle.std.specs.List.{fold}
use Rattle.ba_wordlist.specs.Facts.{are_names, is_name}
use Rattle.ba_wordlist.specs.Meaning.{Assignment, are_met, elements_at, entry_of, is_nonzero, more_values, value_at, values_of}
use Rattle.ba_wordlist.specs.declared.words.WordOp.{WordOp}
use Rattle.ba_wordlist.specs.declared.words.WordOp.TheVariants.{Const}

-- the same free numbers below a number
abbrev pub Agree : ℕ → Assignment → Assignment → Type 0
Agree n f g = (k : ℕ) → k < n → f k ≡ g k

-- the same entries below a number
abbrev pub SameBelow : ℕ → List (List ℤ) → List (List ℤ) → Type 0
SameBelow n vs us = (w : ℕ) → w < n → elements_at vs w ≡ elements_at us w

-- GROWTH

length-grown : (f : Assignment) (ops : List WordOp) (vs : List (List ℤ))
    → length (fold (more_values f) vs ops) ≡ length vs + length ops
length-grown f [] vs = omega arith
length-grown f (op ∷ ops) vs = omega (
  arith,
  length-grown f ops (more_values f vs op),
  length_push vs (entry_of (f (length vs)) vs op),
)

same-grown : (f : Assignment) (ops : List WordOp) (vs : List (List ℤ)) (w : ℕ) → w < length vs
    → elements_at (fold (more_values f) vs ops) w ≡ elements_at vs w
same-grown f [] vs w within = refl
same-grown f (op ∷ ops) vs w within =
    let still : w < length (more_values f vs op) =
    omega (arith, length_push vs (entry_of (f (length vs)) vs op)) in
    same-grown f ops (more_values f vs op) w still
    ∙ get_or_append_left vs (entry_of (f (length vs)) vs op ∷ []) [] w within

pub length-values : (f : Assignment) (ops : List WordOp) → length (values_of f ops) ≡ length ops
unfolding values_of
length-values f ops = omega (arith, length-grown f ops [])

pub values-append : (f : Assignment) (ops more : List WordOp)
    → values_of f (ops ++ more) ≡ fold (more_values f) (values_of f ops) more
unfolding values_of
values-append f ops more = fold-append (more_values f) [] ops more

-- entries keep what they have as others are added after them
pub elements-kept : (f : Assignment) (ops more : List WordOp)
    → SameBelow (length ops) (values_of f (ops ++ more)) (values_of f ops)
elements-kept f ops more w within =
    let still : w < length (values_of f ops) = omega (arith, length-values f ops) in
    ap (λ vs. elements_at vs w) (values-append f ops more) ∙ same-grown f more (values_of f ops) w still

-- what the last entry has
pub elements-last : (f : Assignment) (ops : List WordOp) (op : WordOp)
    → elements_at (values_of f (ops ++ op ∷ [])) (length ops) ≡ entry_of (f (length ops)) (values_of f ops) op
elements-last f ops op =
    ap (λ vs. elements_at vs (length ops)) (values-append f ops (op ∷ []))
    ∙ get_or_at (values_of f ops) (entry_of (f (length (values_of f ops))) (values_of f ops) op) [] []
    (length ops)
    (length-values f ops)
    ∙ ap (λ n. entry_of (f n) (values_of f ops) op) (length-values f ops)

split_at : (ops : List WordOp) (w : ℕ) (op : WordOp) → slice_get ops w ≡ Some op
    → ops ≡ (take w ops ++ op ∷ []) ++ drop (w + 1) ops
split_at ops w op found =
    let within : w < length ops = slice_get_within ops w op found in
    let here : get_or ops w op ≡ op = get_or_from_slice_get ops w op op found in
    sym (take-append-drop w ops)
    ∙ ap (λ rest. take w ops ++ rest) (drop_more ops w op within ∙ ap (λ x. x ∷ drop (w + 1) ops) here)
    ∙ sym (append_assoc (take w ops) (op ∷ []) (drop (w + 1) ops))

-- what an entry has, by those before it
pub elements-entry : (f : Assignment) (ops : List WordOp) (w : ℕ) (op : WordOp) → slice_get ops w ≡ Some op
    → elements_at (values_of f ops) w ≡ entry_of (f w) (values_of f (take w ops)) op
elements-entry f ops w op found =
    let within : w < length ops = slice_get_within ops w op found in
    let long : length (take w ops) ≡ w = length-take-le w ops (omega arith) in
    let longer : length (take w ops ++ op ∷ []) ≡ w + 1 = omega (arith, length_push (take w ops) op) in
    ap (λ ops. elements_at (values_of f ops) w) (split_at ops w op found)
    ∙ elements-kept f (take w ops ++ op ∷ []) (drop (w + 1) ops) w (omega arith)
    ∙ ap (elements_at (values_of f (take w ops ++ op ∷ []))) (sym long)
    ∙ elements-last f (take w ops) op
    ∙ ap (λ n. entry_of (f n) (values_of f (take w ops)) op) long

pub value-const : (f : Assignment) (ops : List WordOp) (w : ℕ) (z : ℤ) → slice_get ops w ≡ Some (Const z)
    → value_at (values_of f ops) w ≡ z
value-const f ops w z found = ap (λ zs. get_or zs 0 (pos 0)) (elements-entry f ops w (Const z) found)

-- OTHER ASSIGNMENTS

agree-grown : (f g : Assignment) (ops : List WordOp) (vs : List (List ℤ))
    → Agree (length vs + length ops) f g → fold (more_values f) vs ops ≡ fold (more_values g) vs ops
agree-grown f g [] vs same = refl
agree-grown f g (op ∷ ops) vs same =
    let long = length_push vs (entry_of (f (length vs)) vs op) in
    let here : more_values f vs op ≡ more_values g vs op =
    ap (λ z. vs ++ entry_of z vs op ∷ []) (same (length vs) (omega arith)) in
    agree-grown f g ops (more_values f vs op) (λ k below. same k (omega (arith, long)))
    ∙ ap (λ vs. fold (more_values g) vs ops) here

pub values-agree : (f g : Assignment) (ops : List WordOp) → Agree (length ops) f g →
    values_of f ops ≡ values_of g ops
unfolding values_of
values-agree f g ops same = agree-grown f g ops [] (λ k below. same k (omega arith))

pub agree-less : (m n : ℕ) (f g : Assignment) → m ≤ n → Agree n f g → Agree m f g
agree-less m n f g le same k below = same k (omega arith)

pub agree-then : (n : ℕ) (f g h : Assignment) → Agree n f g → Agree n g h → Agree n f h
agree-then n f g h first second k below = first k below ∙ second k below

-- NAMES

pub of_name : (n w : ℕ) → is_name n w ≡ true → w < n
of_name n w h = search rules

pub to_name : (n w : ℕ) → w < n → is_name n w ≡ true
to_name n w h = search rules

pub name-more : (m n w : ℕ) → m ≤ n → is_name m w ≡ true → is_name n w ≡ true
name-more m n w le h = let below : w < m = of_name m w h in to_name n w (omega arith)

pub names-more : (m n : ℕ) (ws : List ℕ) → m ≤ n → are_names m ws ≡ true → are_names n ws ≡ true
names-more m n [] le h = refl
names-more m n (w ∷ ws) le h =
    let both = and_parts (is_name m w) (are_names m ws) h in
    and_from (is_name n w) (are_names n ws) (name-more m n w le both.0) (names-more m n ws le both.1)

pub value-same : (n w : ℕ) (vs us : List (List ℤ)) → SameBelow n vs us → w < n → value_at vs w ≡ value_at us w
value-same n w vs us same below = ap (λ zs. get_or zs 0 (pos 0)) (same w below)

pub values-same : (n : ℕ) (ws : List ℕ) (vs us : List (List ℤ)) → SameBelow n vs us → are_names n ws ≡ true
    → map (value_at vs) ws ≡ map (value_at us) ws
values-same n [] vs us same h = refl
values-same n (w ∷ ws) vs us same h =
    let both = and_parts (is_name n w) (are_names n ws) h in
    ap (λ z. z ∷ map (value_at vs) ws) (value-same n w vs us same (of_name n w both.0))
    ∙ ap (λ zs. value_at us w ∷ zs) (values-same n ws vs us same both.1)

pub met-same : (n : ℕ) (ws : List ℕ) (vs us : List (List ℤ)) → SameBelow n vs us → are_names n ws ≡ true
    → are_met vs ws ≡ are_met us ws
met-same n [] vs us same h = refl
met-same n (w ∷ ws) vs us same h =
    let both = and_parts (is_name n w) (are_names n ws) h in
    ap (λ z. is_nonzero z && are_met vs ws) (value-same n w vs us same (of_name n w both.0))
    ∙ ap (λ b. is_nonzero (value_at us w) && b) (met-same n ws vs us same both.1)
