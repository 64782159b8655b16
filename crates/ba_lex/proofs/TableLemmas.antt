-- The table of macros against the map and the set that hold it.
use Rattle.std.proofs.Common.{◌≡◌, ℕ, Bool, true, false, cond, ◌||◌, List, [], ◌∷◌, ◌++◌, Option, None, Some, unwrap_or, refl, sym, ap, ◌∙◌, if◌then◌else◌}
use Rattle.std.proofs.Math.Bool.{or-false, or-true}
use Rattle.std.proofs.lemmas.List.{map-append}
use Rattle.std.proofs.lemmas.List.Folds.{list_any-append}
use Rattle.std.proofs.lemmas.Slice.Eq.{bytes_eq-Decides}
use Rattle.std.specs.List.{list_any}
use Rattle.std.specs.Option.{is_some}
use Rattle.std.specs.Map.{lookup}
use Rattle.std.specs.Str.{bytes_eq}
use Rattle.indexmap.specs.IndexSet.{insert_key}
use Rattle.ba_lex.specs.Lines.{Table, body_of, is_in_body, replacement}
use Rattle.ba_lex.specs.Storage.{HaveNamesOf, Key, table_of, is_among, is_mentioned}
use Rattle.ba_tokens.specs.declared.token.TokenKind.{TokenKind}
use Rattle.ba_tokens.specs.declared.token.TokenKind.TheVariants as kind

-- two keys have the same bytes
abbrev pub same_key : Key → Key → Bool
same_key j k = bytes_eq j.items k.items

pub lookup-table_of : (test : List ℕ → Bool) (es : List (Key × List TokenKind)) → lookup test (table_of es) ≡ lookup (λ k. test k.items) es
lookup-table_of test [] = refl
lookup-table_of test (e ∷ es) = ap (λ rest. cond (test e.0.items) (Some e.1) rest) (lookup-table_of test es)

pub table_of-push : (es : List (Key × List TokenKind)) (k : Key) (body : List TokenKind) → table_of (es ++ (k, body) ∷ []) ≡ table_of es ++ (k.items, body) ∷ []
table_of-push es k body = map-append (λ (e : Key × List TokenKind). (e.0.items, e.1)) es ((k, body) ∷ [])

pub is_mentioned-push : (name : List ℕ) (table : Table) (m : List ℕ × List TokenKind) → is_mentioned name (table ++ m ∷ []) ≡ (is_mentioned name table || is_in_body name m.1)
is_mentioned-push name table m =
    list_any-append (λ (m : List ℕ × List TokenKind). is_in_body name m.1) table (m ∷ []) ∙ ap (λ b. is_mentioned name table || b) (or-false (is_in_body name m.1))

is_among-push : (name : List ℕ) (ks : List Key) (k : Key) → is_among name (ks ++ k ∷ []) ≡ (is_among name ks || bytes_eq name k.items)
is_among-push name ks k =
    list_any-append (λ (k : Key). bytes_eq name k.items) ks (k ∷ []) ∙ ap (λ b. is_among name ks || b) (or-false (bytes_eq name k.items))

-- a key that is there is among the keys by its bytes
or_there : (a b : Bool) → (b ≡ true → a ≡ true) → a ≡ (a || b)
or_there true b h = refl
or_there false true h = h refl
or_there false false h = refl

pub is_among-insert : (name : List ℕ) (ks : List Key) (k : Key) → is_among name (insert_key same_key ks k) ≡ (is_among name ks || bytes_eq name k.items)
is_among-insert name ks k = by (list_any (same_key k) ks) refl
  where
    by : (b : Bool) → list_any (same_key k) ks ≡ b → is_among name (if b then ks else ks ++ k ∷ []) ≡ (is_among name ks || bytes_eq name k.items)
    by true there = or_there (is_among name ks) (bytes_eq name k.items) (λ same. ap (λ n. is_among n ks) ((bytes_eq-Decides name k.items).0 same) ∙ there)
    by false absent = is_among-push name ks k

-- a name that is among the keys adds nothing
pub is_among-there : (name : List ℕ) (ks : List Key) → is_among name ks ≡ true → (other : List ℕ) → is_among other ks ≡ (is_among other ks || bytes_eq other name)
is_among-there name ks there other = or_there (is_among other ks) (bytes_eq other name) (λ same. ap (λ n. is_among n ks) ((bytes_eq-Decides other name).0 same) ∙ there)

-- THE NAMES OF A NEW BODY

-- a name in a body that is found is mentioned
mentions_here : (name : List ℕ) (b mentioned : Bool) (here body : List TokenKind) (rest : Option (List TokenKind)) → cond b (Some here) rest ≡ Some body → (rest ≡ Some body → mentioned ≡ true) → is_in_body name body ≡ true → (is_in_body name here || mentioned) ≡ true
mentions_here name true mentioned here body rest found later holds =
    let same : here ≡ body = cc in
    ap (λ c. c || mentioned) (ap (is_in_body name) same ∙ holds)
mentions_here name false mentioned here body rest found later holds = ap (λ c. is_in_body name here || c) (later found) ∙ or-true (is_in_body name here)

lookup_mentions : (test : List ℕ → Bool) (name : List ℕ) (table : Table) (body : List TokenKind) → lookup test table ≡ Some body → is_in_body name body ≡ true → is_mentioned name table ≡ true
lookup_mentions test name [] body found holds = cc
lookup_mentions test name (m ∷ table) body found holds =
    mentions_here name (test m.0) (is_mentioned name table) m.1 body (lookup test table) found (λ later. lookup_mentions test name table body later holds) holds

-- a macro's body has no name that is not among the keys already
pub is_among-macro : (keys : List Key) (table : Table) (macro : List ℕ) → HaveNamesOf keys table → is_some (body_of table macro) ≡ true → (name : List ℕ) → is_among name keys ≡ (is_among name keys || is_in_body name (replacement table (kind.Name macro)))
is_among-macro keys table macro have there name = by (body_of table macro) refl there
  where
    by : (found : Option (List TokenKind)) → body_of table macro ≡ found → is_some found ≡ true → is_among name keys ≡ (is_among name keys || is_in_body name (unwrap_or found (kind.Name macro ∷ [])))
    by None is some = cc
    by (Some body) is some = or_there (is_among name keys) (is_in_body name body) (λ holds. have name (lookup_mentions (bytes_eq macro) name table body is holds))

-- a name that is no macro stands for itself
pub is_among-name : (among : Bool) (table : Table) (word : List ℕ) → is_some (body_of table word) ≡ false → (name : List ℕ) → (among || bytes_eq name word) ≡ (among || is_in_body name (replacement table (kind.Name word)))
is_among-name among table word absent name = by (body_of table word) absent
  where
    by : (found : Option (List TokenKind)) → is_some found ≡ false → (among || bytes_eq name word) ≡ (among || is_in_body name (unwrap_or found (kind.Name word ∷ [])))
    by None none = ap (λ b. among || b) (sym (or-false (bytes_eq name word)))
    by (Some body) none = cc
