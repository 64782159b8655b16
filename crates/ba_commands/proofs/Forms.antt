-- The forms of a word that can stand behind a mode.
use Rattle.std.proofs.Common.{◌≡◌, ℕ, ◌==◌, Bool, true, false, cond, not, ◌&&◌, ◌||◌, Option, None, Some, List, [], ◌∷◌, ◌++◌, map, refl, sym, ap, ◌∙◌, arith, true≢false}
use Rattle.std.specs.List.{list_any}
use Rattle.std.specs.Borrow.{Bor}
use Rattle.std.specs.Str.{bytes_eq}
use Rattle.std.proofs.lemmas.Bool.Decides.{nat_tests}
use Rattle.ba_commands.specs.Modes.{Usage, Word}
use Rattle.ba_commands.specs.Words.{cut, is_accepted, is_option_of, is_plain, option_word, split_at, stands, takes_value}
use Rattle.ba_commands.specs.Parsing.{is_readable, is_readable_by}
use Rattle.ba_commands.proofs.Testing.{any_none, eq_is, eq_self, list_any-map, or_right}
use Rattle.ba_commands.proofs.Cutting.{cut-is}

-- an option word, with its name
pub record IsOptionWord (names : List Word) (word : Word) : Type 0 where
  pub name : Word
  pub is : word ≡ option_word name
  pub there : stands name names ≡ true

pub option_in : (names : List Word) (word : Word) → is_option_of names word ≡ true → IsOptionWord names word
option_in [] word e = absurd (true≢false (sym e))
option_in (n ∷ names) word e = by (bytes_eq (option_word n) word) refl e (option_in names word)
  where
    by : (b : Bool) → bytes_eq (option_word n) word ≡ b → (b || is_option_of names word) ≡ true
        → (is_option_of names word ≡ true → IsOptionWord names word) → IsOptionWord (n ∷ names) word
    by true same e others = record {
      name = n;
      is = sym (eq_is (option_word n) word same);
      there = ap (λ b. b || stands n names) (eq_self n);
    }
    by false same e others = let found = others e in record {
      name = found.name;
      is = found.is;
      there = or_right (bytes_eq found.name n) (stands found.name names) found.there;
    }

-- a word that is an option, and one that is none, among names that are lent

pub option_among : (names : List (Bor Word)) (word name : Word) → word ≡ option_word name
    → list_any (λ (other : Bor Word). bytes_eq other.now name) names
    ≡ is_option_of (map (λ (other : Bor Word). other.now) names) word
option_among names word name is =
    sym (list_any-map (λ other. bytes_eq other name) (λ (other : Bor Word). other.now) names)
    ∙ ap (is_option_of (map (λ (other : Bor Word). other.now) names)) (sym is)

pub no_option_among : (names : List (Bor Word)) (word : Word) → ((name : Word) → word ≡ option_word name → ⊥)
    → false ≡ is_option_of (map (λ (other : Bor Word). other.now) names) word
no_option_among names word differs =
    sym (any_none (λ name. bytes_eq (option_word name) word) (map (λ (other : Bor Word). other.now) names)
    (λ name. by name (bytes_eq (option_word name) word) refl))
  where
    by : (name : Word) (b : Bool) → bytes_eq (option_word name) word ≡ b → b ≡ false
    by name true is = absurd (differs name (sym (eq_is (option_word name) word is)))
    by name false is = refl

-- A WORD WITHOUT `-` AT ITS FRONT is no option

plain_differs : (name word : Word) → is_plain word ≡ true → bytes_eq (option_word name) word ≡ false
plain_differs name [] p = absurd (true≢false (sym p))
plain_differs name (b ∷ bs) p =
    let differs : (45 == b) ≡ false = first b p in ap (λ t. t && bytes_eq (45 ∷ name) bs) differs
  where
    first : (b : ℕ) → not (b == 45) ≡ true → (45 == b) ≡ false
    first b p = grind (arith, nat_tests)

pub plain_no_option : (names : List Word) (word : Word) → is_plain word ≡ true
    → is_option_of names word ≡ false
plain_no_option [] word p = refl
plain_no_option (n ∷ names) word p =
    ap (λ b. b || is_option_of names word) (plain_differs n word p) ∙ plain_no_option names word p

pub plain_cut : (u : Usage) (word : Word) (parts : Word × Word) → is_plain word ≡ true → cut word ≡ Some parts
    → takes_value u parts.0 ≡ false
plain_cut u word parts p is = by (takes_value u parts.0) refl
  where
    by : (b : Bool) → takes_value u parts.0 ≡ b → b ≡ false
    by true takes =
        let o = option_in u.valued parts.0 takes in
        let dash : is_plain word ≡ false =
        ap is_plain (cut-is word parts is ∙ ap (λ w. w ++ 61 ∷ parts.1) o.is) in
        absurd (true≢false (sym p ∙ dash))
    by false takes = refl

-- THE FORMS

pub record IsAttached (u : Usage) (word : Word) : Type 0 where
  pub name : Word
  pub text : Word
  pub is : word ≡ option_word name ++ 61 ∷ text
  pub there : stands name u.valued ≡ true
  pub takes : takes_value u (option_word name) ≡ true
  pub plain : is_plain text ≡ true
  pub splits : split_at u word (cut word) ≡ option_word name ∷ text ∷ []

pub record IsValued (u : Usage) (word : Word) : Type 0 where
  pub name : Word
  pub is : word ≡ option_word name
  pub there : stands name u.valued ≡ true
  pub takes : takes_value u word ≡ true
  pub splits : split_at u word (cut word) ≡ word ∷ []

pub record IsSwitch (u : Usage) (word : Word) : Type 0 where
  pub name : Word
  pub is : word ≡ option_word name
  pub there : stands name u.plain ≡ true
  pub takes_none : takes_value u word ≡ false
  pub named : is_option_of u.plain word ≡ true
  pub splits : split_at u word (cut word) ≡ word ∷ []

pub record IsText (u : Usage) (word : Word) : Type 0 where
  pub plain : is_plain word ≡ true
  pub splits : split_at u word (cut word) ≡ word ∷ []

pub data Form (u : Usage) (word : Word) : Type 0 where
  attached : IsAttached u word → Form u word
  valued : IsValued u word → Form u word
  switched : IsSwitch u word → Form u word
  text : IsText u word → Form u word

accepted_form : (u : Usage) (word : Word) → is_accepted u word ≡ true → split_at u word (cut word) ≡ word ∷ []
    → Form u word
accepted_form u word ok splits = by (is_plain word) (takes_value u word) refl refl ok
  where
    by : (a b : Bool) → is_plain word ≡ a → takes_value u word ≡ b
        → (a || (b || is_option_of u.plain word)) ≡ true → Form u word
    by true b p t ok = text (record { plain = p; splits = splits })
    by false true p t ok =
        let o = option_in u.valued word t in
        valued (record { name = o.name; is = o.is; there = o.there; takes = t; splits = splits })
    by false false p t ok =
        let o = option_in u.plain word ok in
        switched (record {
          name = o.name;
          is = o.is;
          there = o.there;
          takes_none = t;
          named = ok;
          splits =
              splits;
        })

pub form_of : (u : Usage) (word : Word) → is_readable u word ≡ true → Form u word
form_of u word ok = by (cut word) refl ok
  where
    cut_form : (parts : Word × Word) (b : Bool) → cut word ≡ Some parts → takes_value u parts.0 ≡ b
        → cond b (is_plain parts.1) (is_accepted u word) ≡ true → Form u word
    cut_form parts true is t ok =
        let o = option_in u.valued parts.0 t in
        attached (record {
          name = o.name;
          text = parts.1;
          is = cut-is word parts is ∙ ap (λ w. w ++ 61 ∷ parts.1) o.is;
          there = o.there;
          takes = ap (takes_value u) (sym o.is) ∙ t;
          plain = ok;
          splits = ap (split_at u word) is ∙ ap (λ b. cond b (parts.0 ∷ parts.1 ∷ []) (word ∷ [])) t
              ∙ ap (λ w. w ∷ parts.1 ∷ []) o.is;
        })
    cut_form parts false is t ok =
        accepted_form u word ok (ap (split_at u word) is
        ∙ ap (λ b. cond b (parts.0 ∷ parts.1 ∷ []) (word ∷ [])) t)

    by : (o : Option (Word × Word)) → cut word ≡ o → is_readable_by u word o ≡ true → Form u word
    by None is ok = accepted_form u word ok (ap (split_at u word) is)
    by (Some parts) is ok = cut_form parts (takes_value u parts.0) is refl ok
