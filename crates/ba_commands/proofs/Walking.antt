-- The walk of `clap` over the words behind a mode comes to what the parts of the words come to.
use Rattle.std.proofs.Common.{◌≡◌, ℕ, suc, Bool, true, false, ◌||◌, Option, None, Some, option_map, List, [], ◌∷◌, ◌++◌, codes, refl, sym, ap, ap₂, ◌∙◌, subst, fold, true≢false}
use Rattle.std.specs.Prelude.{option_and_then}
use Rattle.std.specs.List.{AllByRecursion, list_all}
use Rattle.std.specs.Str.{bytes_eq}
use Rattle.clap.specs.Faults.{check_fault, defaults_fault, repeat_fault, settle_fault, turn_fault, walk_fault}
use Rattle.clap.specs.Kinds.{Kinds, or_else}
use Rattle.clap.specs.Walk.{Held, Row, Rule, Walk, finished, idle, settled, settled_rows, walked}
use Rattle.clap.specs.Walk.{option as option_waits}
use Rattle.clap.specs.declared.error.kind.ErrorKind.TheVariants.{InvalidValue, UnknownArgument}
use Rattle.ba_tree.proofs.Tests.{both}
use Rattle.ba_commands.specs.Modes.{Usage, Word}
use Rattle.ba_commands.specs.Words.{Part, file, cut, is_option_of, is_plain, option_word, parts_of, split_at, split_words, stands, takes_value, with_value}
use Rattle.ba_commands.specs.Parsing.{is_readable}
use Rattle.ba_commands.proofs.Testing.{eq_is}
use Rattle.ba_commands.proofs.Forms.{Form, attached, valued, switched, text, form_of}
use Rattle.ba_commands.proofs.Splitting.{attached-no_value, parts-attached, parts-switch, parts-text, parts-valued, switch-no_value, value-taken, valued-no_value}
use Rattle.ba_commands.proofs.Rows.{Agrees, IsPending, fails_first, held, holding, or_else-assoc, put, put-none, settle, settle_agrees, use_agrees, used_rows}
use Rattle.ba_commands.proofs.Turns.{ArePlaces, IsTurn, ReadsOption, ReadsSwitch, attached_turn, file_turn, no_value_fault, option_takes_one, option_turn, place_takes_one, shape_for, stray_turn, switch_turn, value_turn, walk_at}
use Rattle.ba_commands.proofs.Taking.{taken_all, taken_all-file, taken_all-option, taken_all-stray, taken_all-switch}

-- what the arguments of a command have to be
pub record Fits (u : Usage) (rules : List Rule) : Type 0 where
  pub valued : AllByRecursion (ReadsOption rules) u.valued
  pub plain : AllByRecursion (ReadsSwitch rules) u.plain
  pub places : ArePlaces rules 1 u.files
  pub no_default : (rows : List Row) → defaults_fault rows rules ≡ []
  pub no_check : (rows : List Row) → check_fault (shape_for rules) rows false ≡ []

standing : (P : Word → Type 0) (names : List Word) (name : Word) → stands name names ≡ true
    → AllByRecursion P names → P name
standing P [] name there each = absurd (true≢false (sym there))
standing P (other ∷ names) name there each =
    by (bytes_eq name other) refl there (λ t. standing P names name t each.1)
  where
    by : (b : Bool) → bytes_eq name other ≡ b → (b || stands name names) ≡ true
        → (stands name names ≡ true → P name) → P name
    by true is there others = subst P (sym (eq_is name other is)) each.0
    by false is there others = others there

-- FAULTS AND ROWS from a moment of the walk on

abbrev after : List Rule → Held → Kinds
after rules h = or_else (settle_fault rules false h)
    (or_else (defaults_fault (settled rules h).rows rules)
    (check_fault (shape_for rules) (finished rules h) false))

abbrev pub faults_from : List Rule → Walk → List Word → Kinds
faults_from rules w words =
    or_else (walk_fault (shape_for rules) [] w words) (after rules (fold (walked rules []) w words).held)

abbrev pub rows_from : List Rule → Walk → List Word → List Row
rows_from rules w words = (settled rules (fold (walked rules []) w words).held).rows

faults_from-none : (rules : List Rule) (w : Walk) → faults_from rules w [] ≡ after rules w.held
unfolding walk_fault
faults_from-none rules w = refl

faults_from-more : (rules : List Rule) (w : Walk) (word : Word) (words : List Word)
    → faults_from rules w (word ∷ words)
    ≡ or_else (turn_fault (shape_for rules) [] w word) (faults_from rules (walked rules [] w word) words)
unfolding walk_fault
faults_from-more rules w word words = or_else-assoc (turn_fault (shape_for rules) [] w word)
    (walk_fault (shape_for rules) [] (walked rules [] w word) words)
    (after rules (fold (walked rules []) (walked rules [] w word) words).held)

-- the words from here on come to this
record ComesTo (rules : List Rule) (w : Walk) (words : List Word) (expected : Option (List Row)) : Type 0
  where
    agrees : Agrees (faults_from rules w words) (rows_from rules w words) expected

-- by one turn
by_turn : (rules : List Rule) (w next : Walk) (word : Word) (words : List Word) (fault : Kinds)
    (expected : Option (List Row))
    → turn_fault (shape_for rules) [] w word ≡ fault → walked rules [] w word ≡ next
    → Agrees (or_else fault (faults_from rules next words)) (rows_from rules next words) expected
    → ComesTo rules w (word ∷ words) expected
by_turn rules w next word words fault expected f n h = record {
  agrees = subst (λ kinds. Agrees kinds (rows_from rules w (word ∷ words)) expected) (sym faults)
      (subst (λ found. Agrees (or_else fault (faults_from rules next words)) found expected)
      (ap (λ (v : Walk). rows_from rules v words) (sym n)) h);
}
  where
    faults : faults_from rules w (word ∷ words) ≡ or_else fault (faults_from rules next words)
    faults = faults_from-more rules w word words
        ∙ ap₂ (λ k (v : Walk). or_else k (faults_from rules v words)) f n

-- a turn that fails
by_fault : (rules : List Rule) (w : Walk) (word : Word) (words : List Word) (expected : Option (List Row))
    → (turn_fault (shape_for rules) [] w word ≡ [] → ⊥) → expected ≡ None
    → ComesTo rules w (word ∷ words) expected
by_fault rules w word words expected fails none = record {
  agrees = subst (λ o. Agrees (faults_from rules w (word ∷ words)) (rows_from rules w (word ∷ words)) o)
      (sym none)
      (λ e. fails_first (turn_fault (shape_for rules) [] w word)
      (faults_from rules (walked rules [] w word) words) fails
      (sym (faults_from-more rules w word words) ∙ e));
}

-- THE INDUCTION: from between two words, and from behind an option that waits for its value

record Agreement (u : Usage) (rules : List Rule) (words : List Word) : Type 0 where
  between : (rows : List Row) (pending : Option (Word × Word)) (places : List Word) (place : ℕ)
      → IsPending rules pending
      → ArePlaces rules place places
      → ComesTo rules (walk_at (held rows (holding pending)) idle place) words
      (settle pending rows (taken_all places (parts_of u (split_words u words))))
  waiting : (name : Word) (rows : List Row) (places : List Word) (place : ℕ) → ReadsOption rules name
      → ArePlaces rules place places
      → ComesTo rules (walk_at (held rows (Some (name, []))) (option_waits name) place) words
      (taken_all places (option_and_then (with_value name) (parts_of u (split_words u words))) rows)

-- no words are left

end_between : (u : Usage) (rules : List Rule) → Fits u rules
    → (rows : List Row) (pending : Option (Word × Word)) (places : List Word) (place : ℕ)
    → IsPending rules pending → ComesTo rules (walk_at (held rows (holding pending)) idle place) []
    (settle pending rows (taken_all places (Some [])))
end_between u rules fit rows pending places place p = record {
  agrees = subst (λ kinds. Agrees kinds settled_now (settle pending rows (taken_all places (Some []))))
      (sym (faults_from-none rules (walk_at h idle place)))
      (settle_agrees rules pending rows settled_now last (taken_all places (Some [])) p (nothing, refl));
}
  where
    h : Held
    h = held rows (holding pending)

    settled_now : List Row
    settled_now = settled_rows rules (holding pending) rows

    last : Kinds
    last = or_else (defaults_fault settled_now rules) (check_fault (shape_for rules) (finished rules h) false)

    nothing : last ≡ []
    nothing = ap₂ or_else (fit.no_default settled_now) (fit.no_check (finished rules h))

end_waiting : (rules : List Rule) (name : Word) (rows : List Row) (place : ℕ) → ReadsOption rules name
    → ComesTo rules (walk_at (held rows (Some (name, []))) (option_waits name) place) [] None
end_waiting rules name rows place r = record {
  agrees = λ e. fails_first (settle_fault rules false h) rest
      (λ none. fails (sym (no_value_fault rules name rows r) ∙ none))
      (sym (faults_from-none rules (walk_at h (option_waits name) place)) ∙ e);
}
  where
    h : Held
    h = held rows (Some (name, []))

    rest : Kinds
    rest = or_else (defaults_fault (settled rules h).rows rules)
        (check_fault (shape_for rules) (finished rules h) false)

    fails : InvalidValue ∷ [] ≡ [] → ⊥
    fails e = cc

-- AN ARGUMENT WITH ITS VALUE AT ONCE: an option with `=`, or one without a value

use_step : (rules : List Rule) (rows : List Row) (pending : Option (Word × Word)) (place : ℕ) (word : Word)
    (words : List Word)
    (name value : Word) (next : List Row → Option (List Row))
    → IsTurn rules (held rows (holding pending)) idle place word
    (or_else (or_else (settle_fault rules false (held rows (holding pending)))
    (repeat_fault false name (settled_rows rules (holding pending) rows))) [])
    (walk_at (held (used_rows name value (settled_rows rules (holding pending) rows)) None) idle place)
    → IsPending rules pending
    → ComesTo rules (walk_at (held (used_rows name value (settled_rows rules (holding pending) rows)) None)
    idle place) words
    (next (used_rows name value (settled_rows rules (holding pending) rows)))
    → ComesTo rules (walk_at (held rows (holding pending)) idle place) (word ∷ words)
    (settle pending rows (λ r. put name value r next))
use_step rules rows pending place word words name value next t p h =
    by_turn rules (walk_at (held rows (holding pending)) idle place) after_use word words fault
    (settle pending rows (λ r. put name value r next))
    t.fault t.after (subst (λ kinds. Agrees kinds found (settle pending rows (λ r. put name value r next)))
    (sym ordered) agreed)
  where
    settled_now : List Row
    settled_now = settled_rows rules (holding pending) rows

    after_use : Walk
    after_use = walk_at (held (used_rows name value settled_now) None) idle place

    first : Kinds
    first = settle_fault rules false (held rows (holding pending))

    again : Kinds
    again = repeat_fault false name settled_now

    fault : Kinds
    fault = or_else (or_else first again) []

    later : Kinds
    later = faults_from rules after_use words

    found : List Row
    found = rows_from rules after_use words

    ordered : or_else fault later ≡ or_else first (or_else again later)
    ordered = or_else-assoc (or_else first again) [] later ∙ or_else-assoc first again later

    agreed : Agrees (or_else first (or_else again later)) found
        (settle pending rows (λ r. put name value r next))
    agreed = settle_agrees rules pending rows found (or_else again later) (λ r. put name value r next) p
        (use_agrees name value settled_now found later next h.agrees)

-- an option that waits fails at a word that settles it
waiting_fails : (rules : List Rule) (name : Word) (rows : List Row) (place : ℕ) (word : Word)
    (words : List Word) (more : Kinds)
    (expected : Option (List Row)) → ReadsOption rules name
    → turn_fault (shape_for rules) [] (walk_at (held rows (Some (name, []))) (option_waits name) place) word
    ≡ or_else (settle_fault rules false (held rows (Some (name, [])))) more
    → expected ≡ None → ComesTo rules (walk_at (held rows (Some (name, []))) (option_waits name) place)
    (word ∷ words) expected
waiting_fails rules name rows place word words more expected r f none =
    by_fault rules (walk_at (held rows (Some (name, []))) (option_waits name) place) word words expected
    (λ e. fails_first (settle_fault rules false (held rows (Some (name, [])))) more
    (λ e. fails (sym (no_value_fault rules name rows r) ∙ e))
    (sym f ∙ e)) none
  where
    fails : InvalidValue ∷ [] ≡ [] → ⊥
    fails e = cc

-- what is expected where the parts of a word are known
abbrev Expected : Usage → List Word → List Word → Option (Word × Word) → List Row → Option (List Row)
Expected u places words pending rows = settle pending rows (taken_all places (parts_of u words))

abbrev ExpectedWaiting : Usage → List Word → List Word → Word → List Row → Option (List Row)
ExpectedWaiting u places words name rows =
    taken_all places (option_and_then (with_value name) (parts_of u words)) rows

step_attached : (u : Usage) (rules : List Rule) (name value : Word) (words : List Word)
    → ReadsOption rules name
    → takes_value u (option_word name) ≡ true → is_plain value ≡ true
    → split_at u (option_word name ++ 61 ∷ value) (cut (option_word name ++ 61 ∷ value))
    ≡ option_word name ∷ value ∷ []
    → Agreement u rules words → Agreement u rules ((option_word name ++ 61 ∷ value) ∷ words)
step_attached u rules name value words r takes p splits ih = record {
  between = λ rows pending places place is f.
      subst (ComesTo rules (walk_at (held rows (holding pending)) idle place) (word ∷ words))
      (sym (expected rows pending places))
      (use_step rules rows pending place word words name value (taken_all places rest)
      (attached_turn rules name value (held rows (holding pending)) idle place r) is
      (ih.between (used_rows name value (settled_rows rules (holding pending) rows)) None places place tt f));
  waiting = λ other rows places place o f.
      waiting_fails rules other rows place word words
      (or_else (repeat_fault false name (settled rules (held rows (Some (other, [])))).rows) [])
      (ExpectedWaiting u places (split_words u (word ∷ words)) other rows) o
      ((attached_turn rules name value (held rows (Some (other, []))) (option_waits other) place r).fault
      ∙ or_else-assoc (settle_fault rules false (held rows (Some (other, []))))
      (repeat_fault false name (settled rules (held rows (Some (other, [])))).rows) [])
      (ap (λ ws. ExpectedWaiting u places (ws ++ split_words u words) other rows) splits
      ∙ ap (λ (o : Option (List Part)). taken_all places o rows)
      (attached-no_value u other name value (split_words u words) takes p));
}
  where
    word : Word
    word = option_word name ++ 61 ∷ value

    rest : Option (List Part)
    rest = parts_of u (split_words u words)

    expected : (rows : List Row) (pending : Option (Word × Word)) (places : List Word)
        → Expected u places (split_words u (word ∷ words)) pending rows
        ≡ settle pending rows (λ r. put name value r (taken_all places rest))
    expected rows pending places =
        ap (λ ws. Expected u places (ws ++ split_words u words) pending rows) splits
        ∙ ap (λ o. settle pending rows (taken_all places o))
        (parts-attached u name value (split_words u words) takes p)
        ∙ ap (settle pending rows) (λ i r. taken_all-option places name value rest r i)

step_valued : (u : Usage) (rules : List Rule) (name : Word) (words : List Word) → ReadsOption rules name
    → takes_value u (option_word name) ≡ true
    → split_at u (option_word name) (cut (option_word name)) ≡ option_word name ∷ []
    → Agreement u rules words → Agreement u rules (option_word name ∷ words)
step_valued u rules name words r takes splits ih = record {
  between = λ rows pending places place is f.
      let settled_now = settled_rows rules (holding pending) rows in
      let waits = walk_at (held settled_now (Some (name, []))) (option_waits name) place in
      let first = settle_fault rules false (held rows (holding pending)) in
      let next = taken_all places (option_and_then (with_value name) rest) in
      let t = option_turn rules name (held rows (holding pending)) idle place r in
      by_turn rules (walk_at (held rows (holding pending)) idle place) waits word words (or_else first [])
      (Expected u places (split_words u (word ∷ words)) pending rows) t.fault t.after
      (subst
      (Agrees (or_else (or_else first []) (faults_from rules waits words)) (rows_from rules waits words))
      (sym (expected rows pending places))
      (subst (λ kinds. Agrees kinds (rows_from rules waits words) (settle pending rows next))
      (sym (or_else-assoc first [] (faults_from rules waits words)))
      (settle_agrees rules pending rows (rows_from rules waits words) (faults_from rules waits words) next is
      (ih.waiting name settled_now places place r f).agrees)));
  waiting = λ other rows places place o f.
      waiting_fails rules other rows place word words []
      (ExpectedWaiting u places (split_words u (word ∷ words)) other rows) o
      (option_turn rules name (held rows (Some (other, []))) (option_waits other) place r).fault
      (ap (λ ws. ExpectedWaiting u places (ws ++ split_words u words) other rows) splits
      ∙ ap (λ (o : Option (List Part)). taken_all places o rows)
      (valued-no_value u other word (split_words u words) takes));
}
  where
    word : Word
    word = option_word name

    rest : Option (List Part)
    rest = parts_of u (split_words u words)

    expected : (rows : List Row) (pending : Option (Word × Word)) (places : List Word)
        → Expected u places (split_words u (word ∷ words)) pending rows
        ≡ settle pending rows (taken_all places (option_and_then (with_value name) rest))
    expected rows pending places =
        ap (λ ws. Expected u places (ws ++ split_words u words) pending rows) splits
        ∙ ap (λ o. settle pending rows (taken_all places o)) (parts-valued u word (split_words u words) takes)

step_switch : (u : Usage) (rules : List Rule) (name : Word) (words : List Word) → ReadsSwitch rules name
    → takes_value u (option_word name) ≡ false → is_option_of u.plain (option_word name) ≡ true
    → split_at u (option_word name) (cut (option_word name)) ≡ option_word name ∷ []
    → Agreement u rules words → Agreement u rules (option_word name ∷ words)
step_switch u rules name words r takes named splits ih = record {
  between = λ rows pending places place is f.
      subst (ComesTo rules (walk_at (held rows (holding pending)) idle place) (word ∷ words))
      (sym (expected rows pending places))
      (use_step rules rows pending place word words name (codes "true") (taken_all places rest)
      (switch_turn rules name (held rows (holding pending)) idle place r) is
      (ih.between (used_rows name (codes "true") (settled_rows rules (holding pending) rows)) None places
      place tt f));
  waiting = λ other rows places place o f.
      waiting_fails rules other rows place word words
      (or_else (repeat_fault false name (settled rules (held rows (Some (other, [])))).rows) [])
      (ExpectedWaiting u places (split_words u (word ∷ words)) other rows) o
      ((switch_turn rules name (held rows (Some (other, []))) (option_waits other) place r).fault
      ∙ or_else-assoc (settle_fault rules false (held rows (Some (other, []))))
      (repeat_fault false name (settled rules (held rows (Some (other, [])))).rows) [])
      (ap (λ ws. ExpectedWaiting u places (ws ++ split_words u words) other rows) splits
      ∙ ap (λ (o : Option (List Part)). taken_all places o rows)
      (switch-no_value u other word (split_words u words) takes named));
}
  where
    word : Word
    word = option_word name

    rest : Option (List Part)
    rest = parts_of u (split_words u words)

    expected : (rows : List Row) (pending : Option (Word × Word)) (places : List Word)
        → Expected u places (split_words u (word ∷ words)) pending rows
        ≡ settle pending rows (λ r. put name (codes "true") r (taken_all places rest))
    expected rows pending places =
        ap (λ ws. Expected u places (ws ++ split_words u words) pending rows) splits
        ∙ ap (λ o. settle pending rows (taken_all places o))
        (parts-switch u word (split_words u words) takes named)
        ∙ ap (settle pending rows) (λ i r. taken_all-switch places name rest r i)

settle-none : (pending : Option (Word × Word)) (rows : List Row) → settle pending rows (λ _. None) ≡ None
settle-none None rows = refl
settle-none (Some p) rows = put-none p.0 p.1 rows

step_text : (u : Usage) (rules : List Rule) (word : Word) (words : List Word) → is_plain word ≡ true
    → split_at u word (cut word) ≡ word ∷ [] → Agreement u rules words → Agreement u rules (word ∷ words)
step_text u rules word words p splits ih = record {
  between = by_places;
  waiting = λ name rows places place r f.
      let goes = walk_at (held rows (Some (name, word ∷ []))) idle place in
      let t = value_turn rules name word rows place r p in
      by_turn rules (walk_at (held rows (Some (name, []))) (option_waits name) place) goes word words []
      (ExpectedWaiting u places (split_words u (word ∷ words)) name rows) t.fault t.after
      (subst (Agrees (faults_from rules goes words) (rows_from rules goes words))
      (sym (ap (λ ws. ExpectedWaiting u places (ws ++ split_words u words) name rows) splits
      ∙ ap (λ o. taken_all places (option_and_then (with_value name) o) rows)
      (parts-text u word (split_words u words) p)
      ∙ ap (λ o. taken_all places o rows) (value-taken name word rest)
      ∙ taken_all-option places name word rest rows))
      (ih.between rows (Some (name, word)) places place (option_takes_one rules name r) f).agrees);
}
  where
    rest : Option (List Part)
    rest = parts_of u (split_words u words)

    as_file : (rows : List Row) (pending : Option (Word × Word)) (places : List Word)
        → Expected u places (split_words u (word ∷ words)) pending rows
        ≡ settle pending rows (taken_all places (option_map (λ parts. file word ∷ parts) rest))
    as_file rows pending places = ap (λ ws. Expected u places (ws ++ split_words u words) pending rows) splits
        ∙ ap (λ o. settle pending rows (taken_all places o)) (parts-text u word (split_words u words) p)

    by_places : (rows : List Row) (pending : Option (Word × Word)) (places : List Word) (place : ℕ)
        → IsPending rules pending
        → ArePlaces rules place places
        → ComesTo rules (walk_at (held rows (holding pending)) idle place) (word ∷ words)
        (Expected u places (split_words u (word ∷ words)) pending rows)
    by_places rows pending [] place is f =
        by_fault rules (walk_at (held rows (holding pending)) idle place) word words
        (Expected u [] (split_words u (word ∷ words)) pending rows)
        (λ e. stray (sym (stray_turn rules word (held rows (holding pending)) place f p) ∙ e))
        (as_file rows pending [] ∙ ap (settle pending rows) (λ i r. taken_all-stray word rest r i)
        ∙ settle-none pending rows)
      where
        stray : UnknownArgument ∷ [] ≡ [] → ⊥
        stray e = cc
    by_places rows pending (name ∷ names) place is f =
        let settled_now = settled_rows rules (holding pending) rows in
        let goes = walk_at (held settled_now (Some (name, word ∷ []))) idle (suc place) in
        let first = settle_fault rules false (held rows (holding pending)) in
        let t = file_turn rules name word (held rows (holding pending)) place f.0 f.2 p in
        by_turn rules (walk_at (held rows (holding pending)) idle place) goes word words first
        (Expected u (name ∷ names) (split_words u (word ∷ words)) pending rows) t.fault t.after
        (subst (Agrees (or_else first (faults_from rules goes words)) (rows_from rules goes words))
        (sym (as_file rows pending (name ∷ names)
        ∙ ap (settle pending rows) (λ i r. taken_all-file name names word rest r i)))
        (settle_agrees rules pending rows (rows_from rules goes words) (faults_from rules goes words)
        (λ r. put name word r (taken_all names rest)) is
        (ih.between settled_now (Some (name, word)) names (suc place) (place_takes_one rules place name f.1)
        f.3).agrees))

by_form : (u : Usage) (rules : List Rule) → Fits u rules → (word : Word) (words : List Word) → Form u word
    → Agreement u rules words
    → Agreement u rules (word ∷ words)
by_form u rules fit word words (attached a) ih =
    subst (λ w. Agreement u rules (w ∷ words)) (sym a.is)
    (step_attached u rules a.name a.text words
    (standing (ReadsOption rules) u.valued a.name a.there fit.valued) a.takes a.plain
    (subst (λ w. split_at u w (cut w) ≡ option_word a.name ∷ a.text ∷ []) a.is a.splits) ih)
by_form u rules fit word words (valued v) ih =
    subst (λ w. Agreement u rules (w ∷ words)) (sym v.is)
    (step_valued u rules v.name words (standing (ReadsOption rules) u.valued v.name v.there fit.valued)
    (ap (takes_value u) (sym v.is) ∙ v.takes)
    (subst (λ w. split_at u w (cut w) ≡ w ∷ []) v.is v.splits) ih)
by_form u rules fit word words (switched s) ih =
    subst (λ w. Agreement u rules (w ∷ words)) (sym s.is)
    (step_switch u rules s.name words (standing (ReadsSwitch rules) u.plain s.name s.there fit.plain)
    (ap (takes_value u) (sym s.is) ∙ s.takes_none)
    (ap (is_option_of u.plain) (sym s.is) ∙ s.named)
    (subst (λ w. split_at u w (cut w) ≡ w ∷ []) s.is s.splits) ih)
by_form u rules fit word words (text t) ih = step_text u rules word words t.plain t.splits ih

agreement : (u : Usage) (rules : List Rule) → Fits u rules → (words : List Word)
    → list_all (is_readable u) words ≡ true → Agreement u rules words
agreement u rules fit [] ok = record {
  between = λ rows pending places place p f. end_between u rules fit rows pending places place p;
  waiting = λ name rows places place r f. end_waiting rules name rows place r;
}
agreement u rules fit (word ∷ words) ok =
    let each = both (is_readable u word) (list_all (is_readable u) words) ok in
    by_form u rules fit word words (form_of u word each.0) (agreement u rules fit words each.1)

-- THE WHOLE WALK

pub whole_walk : (u : Usage) (rules : List Rule) → Fits u rules → (words : List Word)
    → list_all (is_readable u) words ≡ true
    → Agrees (faults_from rules (walk_at (held [] None) idle 1) words)
    (rows_from rules (walk_at (held [] None) idle 1) words)
    (taken_all u.files (parts_of u (split_words u words)) [])
whole_walk u rules fit words ok =
    ((agreement u rules fit words ok).between [] None u.files 1 tt fit.places).agrees
