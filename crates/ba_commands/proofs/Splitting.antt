-- The parts of words that are split, and words that are refused before they are read.
use Rattle.std.proofs.Common.{◌≡◌, Bool, true, false, cond, ◌&&◌, ◌||◌, ◌⊎◌, inl, inr, Option, None, Some, option_map, List, [], ◌∷◌, ◌++◌, drop, refl, ap, ap₂, ◌∙◌, true≢false}
use Rattle.std.specs.Prelude.{option_and_then}
use Rattle.std.specs.List.{list_all}
use Rattle.ba_tree.proofs.Tests.{both}
use Rattle.ba_commands.specs.Modes.{Usage, Word}
use Rattle.ba_commands.specs.Words.{Part, option, switch, file, cut, is_accepted, is_option, is_option_of, is_plain, option_word, part_before, parts_of, split_at, split_words, takes_value, with_value}
use Rattle.ba_commands.specs.Parsing.{is_readable, is_readable_by}
use Rattle.ba_commands.proofs.Testing.{list_all-append, or_right}
use Rattle.ba_commands.proofs.Forms.{Form, attached, valued, switched, text, form_of, plain_no_option}

-- A WORD MORE, by its form

before_text : (u : Usage) (word : Word) (parts : List Part) → is_plain word ≡ true
    → part_before u word parts ≡ Some (file word ∷ parts)
before_text u word parts p =
    ap₂ (λ a b. cond a (with_value (drop 2 word) parts)
    (Some (cond b (switch (drop 2 word)) (file word) ∷ parts)))
    (plain_no_option u.valued word p) (plain_no_option u.plain word p)

before_switch : (u : Usage) (word : Word) (parts : List Part) → takes_value u word ≡ false
    → is_option_of u.plain word ≡ true
    → part_before u word parts ≡ Some (switch (drop 2 word) ∷ parts)
before_switch u word parts takes_none named =
    ap₂ (λ a b. cond a (with_value (drop 2 word) parts)
    (Some (cond b (switch (drop 2 word)) (file word) ∷ parts))) takes_none named

pub before_valued : (u : Usage) (word : Word) (parts : List Part) → takes_value u word ≡ true
    → part_before u word parts ≡ with_value (drop 2 word) parts
before_valued u word parts takes =
    ap (λ a. cond a (with_value (drop 2 word) parts)
    (Some (cond (is_option_of u.plain word) (switch (drop 2 word)) (file word) ∷ parts))) takes

pub parts-text : (u : Usage) (word : Word) (words : List Word) → is_plain word ≡ true
    → parts_of u (word ∷ words) ≡ option_map (λ parts. file word ∷ parts) (parts_of u words)
parts-text u word words p = by (parts_of u words)
  where
    by : (o : Option (List Part))
        → option_and_then (part_before u word) o ≡ option_map (λ parts. file word ∷ parts) o
    by None = refl
    by (Some parts) = before_text u word parts p

pub parts-switch : (u : Usage) (word : Word) (words : List Word) → takes_value u word ≡ false
    → is_option_of u.plain word ≡ true
    → parts_of u (word ∷ words) ≡ option_map (λ parts. switch (drop 2 word) ∷ parts) (parts_of u words)
parts-switch u word words takes_none named = by (parts_of u words)
  where
    by : (o : Option (List Part))
        → option_and_then (part_before u word) o ≡ option_map (λ parts. switch (drop 2 word) ∷ parts) o
    by None = refl
    by (Some parts) = before_switch u word parts takes_none named

pub parts-valued : (u : Usage) (word : Word) (words : List Word) → takes_value u word ≡ true
    → parts_of u (word ∷ words) ≡ option_and_then (with_value (drop 2 word)) (parts_of u words)
parts-valued u word words takes =
    ap (λ (f : List Part → Option (List Part)). option_and_then f (parts_of u words))
    (λ i parts. before_valued u word parts takes i)

-- an option takes the word behind it
pub value-taken : (name value : Word) (o : Option (List Part))
    → option_and_then (with_value name) (option_map (λ parts. file value ∷ parts) o)
    ≡ option_map (λ parts. option name value ∷ parts) o
value-taken name value None = refl
value-taken name value (Some parts) = refl

pub parts-attached : (u : Usage) (name value : Word) (words : List Word)
    → takes_value u (option_word name) ≡ true → is_plain value ≡ true
    → parts_of u (option_word name ∷ value ∷ words)
    ≡ option_map (λ parts. option name value ∷ parts) (parts_of u words)
parts-attached u name value words takes p =
    parts-valued u (option_word name) (value ∷ words) takes
    ∙ ap (option_and_then (with_value name)) (parts-text u value words p)
    ∙ value-taken name value (parts_of u words)

-- NO VALUE: no file name stands at the front

switch-untaken : (name other : Word) (o : Option (List Part))
    → option_and_then (with_value name) (option_map (λ parts. switch other ∷ parts) o) ≡ None
switch-untaken name other None = refl
switch-untaken name other (Some parts) = refl

option-untaken : (name other value : Word) (o : Option (List Part))
    → option_and_then (with_value name) (option_map (λ parts. option other value ∷ parts) o) ≡ None
option-untaken name other value None = refl
option-untaken name other value (Some parts) = refl

twice-untaken : (name other : Word) (o : Option (List Part))
    → option_and_then (with_value name) (option_and_then (with_value other) o) ≡ None
twice-untaken name other None = refl
twice-untaken name other (Some []) = refl
twice-untaken name other (Some (option a b ∷ parts)) = refl
twice-untaken name other (Some (switch a ∷ parts)) = refl
twice-untaken name other (Some (file a ∷ parts)) = refl

pub switch-no_value : (u : Usage) (name word : Word) (words : List Word) → takes_value u word ≡ false
    → is_option_of u.plain word ≡ true
    → option_and_then (with_value name) (parts_of u (word ∷ words)) ≡ None
switch-no_value u name word words takes_none named =
    ap (option_and_then (with_value name)) (parts-switch u word words takes_none named)
    ∙ switch-untaken name (drop 2 word) (parts_of u words)

pub valued-no_value : (u : Usage) (name word : Word) (words : List Word) → takes_value u word ≡ true
    → option_and_then (with_value name) (parts_of u (word ∷ words)) ≡ None
valued-no_value u name word words takes =
    ap (option_and_then (with_value name)) (parts-valued u word words takes)
    ∙ twice-untaken name (drop 2 word) (parts_of u words)

pub attached-no_value : (u : Usage) (name other value : Word) (words : List Word)
    → takes_value u (option_word other) ≡ true
    → is_plain value ≡ true
    → option_and_then (with_value name) (parts_of u (option_word other ∷ value ∷ words)) ≡ None
attached-no_value u name other value words takes p =
    ap (option_and_then (with_value name)) (parts-attached u other value words takes p)
    ∙ option-untaken name other value (parts_of u words)

-- WORDS THAT CAN BE READ keep rule 3

plain_accepted : (u : Usage) (word : Word) → is_plain word ≡ true → is_accepted u word ≡ true
plain_accepted u word p = ap (λ b. b || is_option u word) p

valued_accepted : (u : Usage) (word : Word) → takes_value u word ≡ true → is_accepted u word ≡ true
valued_accepted u word t =
    or_right (is_plain word) (is_option u word) (ap (λ b. b || is_option_of u.plain word) t)

form_accepted : (u : Usage) (word : Word) → Form u word
    → list_all (is_accepted u) (split_at u word (cut word)) ≡ true
form_accepted u word (attached a) = ap (list_all (is_accepted u)) a.splits
    ∙ ap₂ (λ b c. b && (c && true)) (valued_accepted u (option_word a.name) a.takes)
    (plain_accepted u a.text a.plain)
form_accepted u word (valued v) =
    ap (list_all (is_accepted u)) v.splits ∙ ap (λ b. b && true) (valued_accepted u word v.takes)
form_accepted u word (switched s) = ap (list_all (is_accepted u)) s.splits
    ∙ ap (λ b. b && true)
    (or_right (is_plain word) (is_option u word)
    (or_right (takes_value u word) (is_option_of u.plain word) s.named))
form_accepted u word (text t) =
    ap (list_all (is_accepted u)) t.splits ∙ ap (λ b. b && true) (plain_accepted u word t.plain)

pub readable_accepted : (u : Usage) (words : List Word) → list_all (is_readable u) words ≡ true
    → list_all (is_accepted u) (split_words u words) ≡ true
readable_accepted u [] ok = refl
readable_accepted u (word ∷ words) ok =
    let each = both (is_readable u word) (list_all (is_readable u) words) ok in
    list_all-append (is_accepted u) (split_at u word (cut word)) (split_words u words)
    ∙ ap₂ (λ a b. a && b) (form_accepted u word (form_of u word each.0)) (readable_accepted u words each.1)

-- WORDS THAT CAN'T BE READ are refused by rule 3 or by rule 4

abbrev pub IsRefused : Usage → List Word → Type 0
IsRefused u words = (list_all (is_accepted u) words ≡ false) ⊎ (parts_of u words ≡ None)

parts-none : (u : Usage) (xs ys : List Word) → parts_of u ys ≡ None → parts_of u (xs ++ ys) ≡ None
parts-none u [] ys none = none
parts-none u (x ∷ xs) ys none = ap (option_and_then (part_before u x)) (parts-none u xs ys none)

and_right : (a b : Bool) → b ≡ false → (a && b) ≡ false
and_right true b e = e
and_right false b e = refl

later_refused : (u : Usage) (xs ys : List Word) → IsRefused u ys → IsRefused u (xs ++ ys)
later_refused u xs ys (inl e) =
    inl (list_all-append (is_accepted u) xs ys
    ∙ and_right (list_all (is_accepted u) xs) (list_all (is_accepted u) ys) e)
later_refused u xs ys (inr e) = inr (parts-none u xs ys e)

alone_refused : (u : Usage) (word : Word) (words : List Word) → is_accepted u word ≡ false
    → split_at u word (cut word) ≡ word ∷ []
    → IsRefused u (split_at u word (cut word) ++ words)
alone_refused u word words e splits = inl (ap (λ xs. list_all (is_accepted u) (xs ++ words)) splits
    ∙ ap (λ b. b && list_all (is_accepted u) words) e)

-- what stands behind `=` is unread value
behind_refused : (u : Usage) (first second : Word) (words : List Word) → takes_value u first ≡ true
    → is_plain second ≡ false
    → IsRefused u (first ∷ second ∷ words)
behind_refused u first second words takes p =
    by (takes_value u second) (is_option_of u.plain second) refl refl
  where
    by : (a b : Bool) → takes_value u second ≡ a → is_option_of u.plain second ≡ b
        → IsRefused u (first ∷ second ∷ words)
    by true b t n =
        inr (parts-valued u first (second ∷ words) takes ∙ valued-no_value u (drop 2 first) second words t)
    by false true t n =
        inr (parts-valued u first (second ∷ words) takes ∙ switch-no_value u (drop 2 first) second words t n)
    by false false t n =
        let refused : is_accepted u second ≡ false = ap₂ (λ a b. a || b) p (ap₂ (λ a b. a || b) t n) in
        inl (and_right (is_accepted u first) (list_all (is_accepted u) (second ∷ words))
        (ap (λ b. b && list_all (is_accepted u) words) refused))

one_refused : (u : Usage) (word : Word) (words : List Word) → is_readable u word ≡ false
    → IsRefused u (split_at u word (cut word) ++ words)
one_refused u word words unread = by (cut word) refl unread
  where
    split : (parts : Word × Word) (b : Bool) → takes_value u parts.0 ≡ b
        → cond b (is_plain parts.1) (is_accepted u word) ≡ false
        → cut word ≡ Some parts → IsRefused u (split_at u word (cut word) ++ words)
    split parts true t unread is =
        let splits : split_at u word (cut word) ≡ parts.0 ∷ parts.1 ∷ [] =
        ap (split_at u word) is ∙ ap (λ b. cond b (parts.0 ∷ parts.1 ∷ []) (word ∷ [])) t in
        rw splits (behind_refused u parts.0 parts.1 words t unread)
    split parts false t unread is = alone_refused u word words unread
        (ap (split_at u word) is ∙ ap (λ b. cond b (parts.0 ∷ parts.1 ∷ []) (word ∷ [])) t)

    by : (o : Option (Word × Word)) → cut word ≡ o → is_readable_by u word o ≡ false
        → IsRefused u (split_at u word (cut word) ++ words)
    by None is unread = alone_refused u word words unread (ap (split_at u word) is)
    by (Some parts) is unread = split parts (takes_value u parts.0) refl unread is

pub unreadable_refused : (u : Usage) (words : List Word) → list_all (is_readable u) words ≡ false
    → IsRefused u (split_words u words)
unreadable_refused u [] unread = absurd (true≢false unread)
unreadable_refused u (word ∷ words) unread = by (is_readable u word) refl unread (unreadable_refused u words)
  where
    by : (b : Bool) → is_readable u word ≡ b → (b && list_all (is_readable u) words) ≡ false
        → (list_all (is_readable u) words ≡ false → IsRefused u (split_words u words))
        → IsRefused u (split_words u (word ∷ words))
    by true is unread others =
        later_refused u (split_at u word (cut word)) (split_words u words) (others unread)
    by false is unread others = one_refused u word (split_words u words) is
