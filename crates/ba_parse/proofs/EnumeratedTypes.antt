-- Whether the constants of an enumerated type are among the words of a declaration.

use Rattle.std.proofs.Common.{◌≡◌, Bool, true, false, ◌||◌, List, [], ◌∷◌, ◌++◌, map, Option, None, Some, option_map, refl, sym, ap, ◌∙◌}
use Rattle.std.specs.Option.{is_some}
use Rattle.ba_tokens.specs.declared.token.Token.{Token}
use Rattle.ba_trees.specs.Marks.{Mark, leaf, enter, leave, down, up, node_of, specifiers}
use Rattle.ba_trees.specs.Views.{optional}
use Rattle.ba_trees.specs.DeclarationMarks.{enumerators_marks, specifiers_marks}
use Rattle.ba_trees.specs.declared.tree.declarations.Enumerators.{Enumerators}
use Rattle.ba_trees.specs.declared.tree.declarations.Specifiers.{Specifiers}
use Rattle.ba_parse.specs.Grammar.{has_enumerators, is_enumerators}

or_assoc : (a b c : Bool) → ((a || b) || c) ≡ (a || (b || c))
or_assoc true b c = refl
or_assoc false b c = refl

or_with_false : (a b : Bool) → b ≡ false → (a || b) ≡ a
or_with_false true b h = refl
or_with_false false b h = h

list_append : (f g : List Mark) → has_enumerators (f ++ g) ≡ (has_enumerators f || has_enumerators g)
list_append [] g = refl
list_append (leaf t ∷ f) g = list_append f g
list_append (enter r ∷ f) g = ap (λ b. is_enumerators r || b) (list_append f g)
    ∙ sym (or_assoc (is_enumerators r) (has_enumerators f) (has_enumerators g))
list_append (leave r ∷ f) g = list_append f g
list_append (down ∷ f) g = list_append f g
list_append (up ∷ f) g = list_append f g

no_list : (ts : List Token) → has_enumerators (map leaf ts) ≡ false
no_list [] = refl
no_list (t ∷ ts) = no_list ts

list_there : (e : Option Enumerators) → has_enumerators (optional (option_map enumerators_marks e))
    ≡ is_some e
list_there None = refl
list_there (Some e) = refl

around_list : (f g h : List Mark) → has_enumerators f ≡ false → has_enumerators h ≡ false →
    has_enumerators (node_of specifiers ((f ++ g) ++ h)) ≡ has_enumerators g
around_list f g h before behind =
    list_append ((f ++ g) ++ h) (leave specifiers ∷ [])
    ∙ or_with_false (has_enumerators ((f ++ g) ++ h)) (has_enumerators (leave specifiers ∷ [])) refl
    ∙ list_append (f ++ g) h
    ∙ or_with_false (has_enumerators (f ++ g)) (has_enumerators h) behind
    ∙ list_append f g
    ∙ ap (λ b. b || has_enumerators g) before

pub has_list : (s : Specifiers) → has_enumerators (specifiers_marks s) ≡ is_some s.enumerators
has_list s =
    around_list (map leaf s.words.items) (optional (option_map enumerators_marks s.enumerators))
    (map leaf s.behind.items) (no_list s.words.items) (no_list s.behind.items)
    ∙ list_there s.enumerators
